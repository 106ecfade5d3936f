-- LAWS. The total of a counter that one card clears, always by read and clear. In a run and in a driver's history the values answered are what the theory reads right
-- before each clear, so the theory's total (`protocol`'s `ReadAndClearLaws`) is one on the answers.
use Prim.Native.Nat.{ℕ, ◌+◌, ◌<◌}
use Rattle.std.specs.Prelude.{◌≡◌, true, cond, ◌&&◌, eqb, length}
use Rattle.std.proofs.Math.Path.{refl, sym, ap, ap₂}
use Rattle.std.proofs.Common.{◌∙◌}
use Rattle.std.proofs.Math.Bool.{false}
use mathlib.Core.List.{List, [], ◌∷◌, map}
use borrow.Author.Tests.{eqb-true, eq-eqb, ne_eqb}
use Rattle.protocol.proofs.Cases.{by_test, by_place, and_left, and_right, and_no_right}
use Rattle.protocol.specs.Ledger as ledger
use Rattle.protocol.specs.Ledger.{empty_ledger, after_steps, ledger_value}
use Rattle.protocol.specs.Chassis.{fresh_chassis, accepted, read_value}
use Rattle.protocol.proofs.Theorem.{value_is}
use Rattle.protocol.specs.Increments.{increments_received}
use Rattle.protocol.specs.OneClears.{ClearedBy, OneClears, is_clear}
use Rattle.protocol.proofs.ReadAndClearLaws.{read_before, names_received, received_told}
use Rattle.replica_model.specs.Layout.{replica_length}
use Rattle.replica_model.specs.declared.Reading.{Reading}
use Rattle.replica_model.specs.Calls.{sizes_in_range, read_on}
use Rattle.replica_model.proofs.RowLaws.{sizes}
use Rattle.chassis_model.specs.ListParts.{part}
use Rattle.chassis_model.specs.Run.{Count, Clear, ReadAndClear, Action, Make, Deliver, Nothing, Step, action_of, amount_fits, step_on, answers_of, numbers_in, values_in, sizes_right, run_on}
use Rattle.chassis_model.specs.Ledger.{ledger_action, ledger_step, was_accepted, accepted_of, ledger_of, ledger_reading}
use Rattle.chassis_model.specs.Answers.{value_asked}
use Rattle.chassis_model.specs.Driver.{Call, make, take, opened, number_of, value_of, Genuine, numbers, values, cards_after, GenuineHistory, call_step, history_ledger}
use Rattle.chassis_model.specs.ReadAndClearOf.{call_action, reads_before, ClearsByReading, OnlyReadAndClears, is_read_and_clear, collected}
use Rattle.chassis_model.proofs.InStep.{CardsAt}
use Rattle.chassis_model.proofs.ReadsOfReplicas.{read_matches}
use Rattle.chassis_model.proofs.Offers.{offer, offers_of, ledgers_told, TheoryRun, told}
use Rattle.chassis_model.proofs.TheoryReads as reads
use Rattle.chassis_model.proofs.Matches.{RunAt, run_at, run_cards}
use Rattle.chassis_model.proofs.FreshRun.{fresh_matches}
use Rattle.chassis_model.proofs.StepLaws.{step_matches}
use Rattle.chassis_model.proofs.AnswerLaws.{accepted_value}
use Rattle.chassis_model.proofs.Theorem.{run_offers, right_sizes, answers_are, theory_run}
use Rattle.chassis_model.proofs.DriverMatches.{DriverAt, driver_at, driver_cards, opened_matches}
use Rattle.chassis_model.proofs.DriverSteps.{call_matches, call_value, history_offers}
use Rattle.chassis_model.proofs.DriverTheorem.{theory_history}

-- ---- one action

module _ (h q : ℕ) where
  only_cleared : (a : Action) → ClearsByReading h q a → ClearedBy h q (ledger_action a)
  unfolding ledger_action
  only_cleared (Make (Count w) i c) only = tt
  only_cleared (Make Clear i c) only = λ e. absurd (only e)
  only_cleared (Make ReadAndClear i c) only = only
  only_cleared (Deliver i s) only = tt
  only_cleared Nothing only = tt

  -- to the theory it is a clear of q by h exactly if it is a read and clear of q by h
  same_clear : (a : Action) → ClearsByReading h q a → is_read_and_clear h q a ≡ is_clear h q (ledger_action a)
  unfolding ledger_action is_read_and_clear is_clear
  same_clear (Make (Count w) i c) only = refl
  same_clear (Make Clear i c) only = rw (ne_eqb c q only, and_no_right (eqb i h) false refl)
  same_clear (Make ReadAndClear i c) only = refl
  same_clear (Deliver i s) only = refl
  same_clear Nothing only = refl

  value_there : (a : Action) (f : ℕ → ℕ → ℕ) → is_read_and_clear h q a ≡ true → value_asked a f ≡ f h q
  unfolding is_read_and_clear value_asked
  value_there (Make (Count w) i c) f e = cc
  value_there (Make Clear i c) f e = cc
  value_there (Make ReadAndClear i c) f e = rw (eqb-true i h (and_left (eqb i h) (eqb c q) e), eqb-true c q (and_right (eqb i h) (eqb c q) e))
  value_there (Deliver i s) f e = cc
  value_there Nothing f e = cc

  -- an action that answered n and v: what it adds to the sum is what the theory reads
  module _ {r k : ℕ} (now : CardsAt r k) (a : Action) (n v : ℕ) where
    adds : accepted r (offer (ledger_action a) n) now.chassis ≡ was_accepted n → (n ≡ 0 → ClearsByReading h q a)
        → (n ≡ 0 → v ≡ value_asked a (λ i c. ledger_value i (now.ledgers c)))
        → cond (was_accepted n && is_read_and_clear h q a) v 0
        ≡ cond (accepted r (offer (ledger_action a) n) now.chassis && is_clear h q (ledger_action a)) (read_value r q (now.chassis.replica h)) 0
    adds same only answers =
        by_place n 0
        (λ e.
        let is = same_clear a (only e) in
        by_test (is_read_and_clear h q a)
        (λ t. rw (same, eq-eqb n 0 e, ← is, t)
        (answers e ∙ value_there a (λ i c. ledger_value i (now.ledgers c)) t ∙ sym (value_is r q now.chassis (now.ledgers q) (now.in_step.invariants q) h)))
        (λ t. rw (same, eq-eqb n 0 e, ← is, t)))
        (λ d. rw (same, ne_eqb n 0 d))

-- ---- lists, of whatever asks for actions and is steps to the ledger

module _ {X : Type 0} (action : X → Action) (step : X → ledger.Step) (same : (x : X) → step x ≡ ledger_action (action x)) where
  only_one : (h q : ℕ) (xs : List X) (ns : List ℕ) → OnlyReadAndClears h q (map action xs) ns → OneClears h q (map step xs) (accepted_of ns)
  only_one h q [] ns only = tt
  only_one h q (x ∷ xs) [] only = tt
  only_one h q (x ∷ xs) (n ∷ ns) (only, rest) =
      (λ e. rw (same x) (only_cleared h q (action x) (only (eqb-true n 0 e))), only_one h q xs ns rest)

run_sum : {r k L : ℕ} (h q : ℕ) (ss : List Step) (now : RunAt r k L)
    → OnlyReadAndClears h q (map action_of ss) (numbers_in (answers_of r k L ss now.state))
    → collected h q (map action_of ss) (numbers_in (answers_of r k L ss now.state)) (values_in (answers_of r k L ss now.state))
    ≡ read_before r h q (run_offers r k L ss now.state) now.chassis
unfolding answers_of numbers_in values_in offers_of collected read_before
run_sum h q [] now only = refl
run_sum {r} {k} {L} h q (s ∷ ss) now (only, rest) =
    let here = step_matches now s in
    let answer = (step_on r k L s now.state).answer in
    ap₂ ◌+◌ (adds h q (run_cards now) (action_of s) answer.number answer.value here.1 only (accepted_value now 0 (action_of s) (amount_fits s)))
    (run_sum h q ss (run_at here.0) rest)

call_is : (c : Call) → call_step c ≡ ledger_action (call_action c)
unfolding ledger_action
call_is (make m i q out) = refl
call_is (take i bytes) = refl

history_sum : {r k : ℕ} (h q : ℕ) (cs : List Call) (now : DriverAt r k) → Genuine cs now.state
    → OnlyReadAndClears h q (map call_action cs) (numbers cs now.state)
    → collected h q (map call_action cs) (numbers cs now.state) (values cs now.state) ≡ read_before r h q (history_offers cs now.state) now.chassis
unfolding numbers values offers_of collected read_before
history_sum h q [] now g only = refl
history_sum h q (c ∷ cs) now (g, gs) (only, rest) =
    let here = call_matches now c g in
    ap₂ ◌+◌
    (rw (call_is c) (adds h q (driver_cards now) (call_action c) (number_of c now.state) (value_of c now.state) (rw (call_is c) at here.1) only (call_value now c)))
    (history_sum h q cs (driver_at here.0) gs rest)

-- what a driver reads right before its clears is what the theory reads there
module _ {r k : ℕ} (h q : ℕ) (hh : h < r) (hq : q < k) where
  value_now : (now : DriverAt r k) → (read_on (now.state.words h) q).value ≡ read_value r q (now.chassis.replica h)
  unfolding ledger_reading
  value_now now =
      ap (λ (a : Reading). a.value) (read_matches (driver_cards now) h q hh hq)
      ∙ sym (value_is r q now.chassis (now.ledgers q) (now.matches.cards.invariants q) h)

  reads_sum : (cs : List Call) (now : DriverAt r k) → Genuine cs now.state
      → reads_before h q cs now.state ≡ read_before r h q (history_offers cs now.state) now.chassis
  unfolding reads_before numbers offers_of read_before
  reads_sum [] now g = refl
  reads_sum (c ∷ cs) now (g, gs) =
      let here = call_matches now c g in
      ap₂ ◌+◌ (rw (here.1, value_now now)) (reads_sum cs (driver_at here.0) gs)

-- ---- the total

module _ {r k : ℕ} {steps : List ledger.Step} {numbers : List ℕ} {replicas : ℕ → List ℕ} (t : TheoryRun r k steps numbers replicas) (h q : ℕ) where
  increments_named : increments_received h q steps (accepted_of numbers) ≡ length ((ledgers_told r steps numbers q).received h)
  increments_named =
      told t (λ ss fs. increments_received h q ss fs)
      ∙ received_told r q h (offers_of steps numbers)
      ∙ sym (told t (λ ss fs. length ((after_steps r q ss fs empty_ledger).received h)))

  total_told : h < r → q < k → OneClears h q steps (accepted_of numbers) → (sum : ℕ) → sum ≡ read_before r h q (offers_of steps numbers) fresh_chassis
      → sum + (read_on (replicas h) q).value ≡ increments_received h q steps (accepted_of numbers)
  total_told hh hq one sum is =
      rw (is, reads.value_read t h q hh hq)
      (names_received r q h (offers_of steps numbers) (rw (told t (OneClears h q)) at one)
      ∙ sym (received_told r q h (offers_of steps numbers))
      ∙ sym (told t (λ ss fs. increments_received h q ss fs)))

module _ (r k L : ℕ) (steps : List Step) (words logs answers : List ℕ) (right : sizes_right r k L (length steps) words logs answers ≡ true) (h q : ℕ) where
  abbrev given : List ℕ
  given = (run_on r k L steps words logs answers).answers

  pub run_total : h < r → q < k → OnlyReadAndClears h q (map action_of steps) (numbers_in given)
      → collected h q (map action_of steps) (numbers_in given) (values_in given) + (read_on (part (replica_length r k) (run_on r k L steps words logs answers).words h) q).value
      ≡ increments_received h q (map ledger_step steps) (accepted_of (numbers_in given))
  run_total hh hq only =
      let z = right_sizes r k L (length steps) words logs answers right in
      let are = answers_are r k L steps words logs answers right in
      total_told (theory_run r k L steps words logs answers right) h q hh hq (only_one action_of ledger_step (λ s. refl) h q steps (numbers_in given) only) _
      (rw are (run_sum h q steps (run_at (fresh_matches r k L logs z.0 z.1)) (rw are at only)))

  pub run_increments : increments_received h q (map ledger_step steps) (accepted_of (numbers_in given)) ≡ length ((ledger_of r q steps given).received h)
  unfolding ledger_of
  run_increments = increments_named (theory_run r k L steps words logs answers right) h q

module _ (r k : ℕ) (right : sizes_in_range r k ≡ true) (calls : List Call) (genuine : GenuineHistory r k calls) (h q : ℕ) where
  abbrev called : List ℕ
  called = numbers calls (opened r k)

  pub history_total : h < r → q < k → OnlyReadAndClears h q (map call_action calls) called
      → collected h q (map call_action calls) called (values calls (opened r k)) + (read_on ((cards_after r k calls).words h) q).value
      ≡ increments_received h q (map call_step calls) (accepted_of called)
  history_total hh hq only =
      total_told (theory_history r k right calls genuine) h q hh hq (only_one call_action call_step call_is h q calls called only) _
      (history_sum h q calls (driver_at (opened_matches r k (sizes r k right))) genuine only)

  pub reads_total : h < r → q < k → OneClears h q (map call_step calls) (accepted_of called)
      → reads_before h q calls (opened r k) + (read_on ((cards_after r k calls).words h) q).value ≡ increments_received h q (map call_step calls) (accepted_of called)
  reads_total hh hq one =
      total_told (theory_history r k right calls genuine) h q hh hq one _
      (reads_sum h q hh hq calls (driver_at (opened_matches r k (sizes r k right))) genuine)

  pub history_increments : increments_received h q (map call_step calls) (accepted_of called) ≡ length ((history_ledger r k calls q).received h)
  history_increments = increments_named (theory_history r k right calls genuine) h q
