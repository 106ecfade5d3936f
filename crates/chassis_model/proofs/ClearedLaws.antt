-- LAWS. What a clear takes, over calls and over a run's steps. What `protocol` claims of a list of offers holds of both, and an offer of such a list is a call or a
-- step behind the first ones (`call_at`, `step_at`); what a clear or a count leaves is read in the words that the call leaves.
use Rattle.std.specs.Prelude.{ℕ, ◌+◌, ◌<◌, ◌≡◌, refl, Bool, true, length}
use Rattle.std.proofs.Common.{sym, ap₂, ◌∙◌, ltb-true, eqb-true}
use Rattle.std.proofs.Math.Path.{ap}
use mathlib.Core.List.{List, [], ◌∷◌, ◌++◌, map, nil≢cons, head-eq_of_cons-eq, tail-eq_of_cons-eq}
use Rattle.protocol.proofs.Cases.{and_left, or_right}
use Rattle.protocol.proofs.ChecksLaws.{first_passes}
use Rattle.protocol.specs.Names.{Name, has}
use Rattle.protocol.specs.Ledger as ledger
use Rattle.protocol.specs.Ledger.{Ledger, empty_ledger, after_accepted, after_step, after_steps}
use Rattle.protocol.specs.Chassis.{Chassis, Offer}
use Rattle.protocol.specs.Runs.{step_of, ledger_after}
use Rattle.protocol.proofs.InvariantSteps.{Invariant}
use Rattle.protocol.proofs.LedgerLaws.{after_steps_grows}
use Rattle.protocol.proofs.NewNames.{value_gains}
use Rattle.protocol.proofs.ClearedLaws.{was_cleared, clear_cancelled, clear_value}
use Rattle.replica_model.specs.declared.Reading.{Reading}
use Rattle.replica_model.specs.Calls.{sizes_in_range, read_on}
use Rattle.chassis_model.specs.Run.{Making, Count, Make, Step, State, replica_of, step_on, state_after, answers_of, numbers_in, sizes_right, run_on}
use Rattle.chassis_model.specs.Ledger.{ledger_action, ledger_step, was_accepted, ledger_of, ledger_reading}
use Rattle.chassis_model.specs.Answers.{fresh_state}
use Rattle.chassis_model.specs.Driver.{Call, make, count, Cards, opened, called, number_of, GenuineCall, Genuine, after, numbers, cards_after, GenuineHistory, call_step, history_ledger, number_checks, due_number}
use Rattle.chassis_model.specs.Cleared.{ClearedBySeer, ClearStepBySeer}
use Rattle.chassis_model.proofs.Offers.{offer, offers_of, TheoryRun, told}
use Rattle.chassis_model.proofs.InStep.{cards_at}
use Rattle.chassis_model.proofs.ReadsOfReplicas.{read_matches}
use Rattle.chassis_model.proofs.Theorem as run
use Rattle.chassis_model.proofs.Theorem.{run_offers, right_sizes, state_run, answers_are}
use Rattle.chassis_model.proofs.DriverMatches.{driver_at}
use Rattle.chassis_model.proofs.DriverSteps.{number_distinct, ledgers_after, history_offers, accepted_leaves}
use Rattle.chassis_model.proofs.DriverTheorem.{went, theory_history, driver_theorem, call_numbers}

-- what a card had received that clears is cancelled there, whatever the ledger is fed then
stays_cleared : (r q i : ℕ) (ch : Chassis) (l : Ledger) → Invariant r q ch l → (n : Name) → has (l.received i) n ≡ true
    → (s : ledger.Step) (a : Bool) → s ≡ ledger.clear i q → a ≡ true → (ss : List ledger.Step) (flags : List Bool)
    → has ((after_steps r q (s ∷ ss) (a ∷ flags) l).cancelled i) n ≡ true
unfolding after_steps after_step
stays_cleared r q i ch l ok n had s a clears on ss flags =
    rw (clears, on)
    ((after_steps_grows r q ss flags (after_accepted r q (ledger.clear i q) l)).cancelled i n
    (clear_cancelled r q ch l ok i n ∙ or_right (has (l.cancelled i) n) (has (l.received i) n) had))

-- ---- a driver's calls

-- an offer of the calls is a call behind the first ones
call_at : {P : Type 0} (calls : List Call) (st : Cards) (before : List Offer) (o : Offer) (later : List Offer) → history_offers calls st ≡ before ++ o ∷ later
    → ((first : List Call) (c : Call) (rest : List Call) → calls ≡ first ++ c ∷ rest → history_offers first st ≡ before
    → offer (call_step c) (number_of c (after first st)) ≡ o → P) → P
unfolding numbers after offers_of
call_at [] st [] o later e found = absurd (nil≢cons e)
call_at [] st (x ∷ before) o later e found = absurd (nil≢cons e)
call_at (c ∷ calls) st [] o later e found = found [] c calls refl refl (head-eq_of_cons-eq e)
call_at (c ∷ calls) st (x ∷ before) o later e found =
    call_at calls (called c st) before o later (tail-eq_of_cons-eq e)
    (λ first c' rest is firsts same.
    found (c ∷ first) c' rest (ap (λ (cs : List Call). c ∷ cs) is) (ap₂ (λ (y : Offer) (ys : List Offer). y ∷ ys) (head-eq_of_cons-eq e) firsts) same)

genuine_first : (calls more : List Call) (st : Cards) → Genuine (calls ++ more) st → Genuine calls st
genuine_first [] more st g = tt
genuine_first (c ∷ calls) more st (g, gs) = (g, genuine_first calls more (called c st) gs)

-- a ledger that is told of more calls
ledgers_append : (r q : ℕ) (calls more : List Call) (st : Cards) (ls : ℕ → Ledger)
    → ledgers_after r (calls ++ more) st ls q ≡ ledgers_after r more (after calls st) (ledgers_after r calls st ls) q
unfolding numbers after after_steps
ledgers_append r q [] more st ls = refl
ledgers_append r q (c ∷ calls) more st ls = ledgers_append r q calls more (called c st) (λ p. after_step r p (call_step c) (was_accepted (number_of c st)) (ls p))

pub cancelled_stays : (r k q i : ℕ) (calls more : List Call) (n : Name) → has ((history_ledger r k calls q).cancelled i) n ≡ true
    → has ((history_ledger r k (calls ++ more) q).cancelled i) n ≡ true
cancelled_stays r k q i calls more n h =
    rw (ledgers_append r q calls more (opened r k) (λ p. empty_ledger)) ((after_steps_grows r q _ _ _).cancelled i n h)

-- an accepted call that makes a message names a card and a counter that are there
accepted_there : (r k : ℕ) (m : Making) (i q : ℕ) (out : List ℕ) (st : Cards) (ls : ℕ → Ledger) → due_number r k (make m i q out) st ls ≡ 0 → (i < r) × (q < k)
unfolding due_number
accepted_there r k m i q out st ls e =
    let c = make m i q out in
    let (card, (counter, _)) = first_passes (number_checks r k c st ls) (number_distinct r k c st ls) e in
    (ltb-true i r card, ltb-true q k counter)

module _ (r k : ℕ) (right : sizes_in_range r k ≡ true) where
  history_told : (calls : List Call) → GenuineHistory r k calls → (q : ℕ)
      → history_ledger r k calls q ≡ ledger_after r q (history_offers calls (opened r k))
  history_told calls g q = told (theory_history r k right calls g) (λ ss fs. after_steps r q ss fs empty_ledger)

  pub cancelled_was_cleared : (calls : List Call) → GenuineHistory r k calls
      → (i q : ℕ) (n : Name) → has ((history_ledger r k calls q).cancelled i) n ≡ true → ClearedBySeer r k q calls n
  cancelled_was_cleared calls g i q n h =
      let w = was_cleared r q i (history_offers calls (opened r k)) n (rw (history_told calls g q) at h) in
      call_at calls (opened r k) w.before w.offer w.later w.in_list
      (λ first c rest is firsts same.
      record {
        before = first;
        call = c;
        card = w.card;
        later = rest;
        in_list = is;
        is_clear = ap step_of same ∙ w.is_clear;
        was_accepted = eqb-true _ 0 (ap (λ (o : Offer). o.willing) same ∙ and_left w.offer.willing _ w.was_accepted);
        had_received = rw (history_told first (genuine_first first _ (opened r k) (rw is at g)) q, firsts) w.had_received;
      })

  pub cleared_is_cancelled : (calls : List Call) → GenuineHistory r k calls
      → (q : ℕ) (n : Name) (w : ClearedBySeer r k q calls n) → has ((history_ledger r k calls q).cancelled w.card) n ≡ true
  unfolding numbers
  cleared_is_cancelled calls g q n w =
      let before = theory_history r k right w.before (genuine_first w.before _ (opened r k) (rw w.in_list at g)) in
      rw (w.in_list, ledgers_append r q w.before (w.call ∷ w.later) (opened r k) (λ p. empty_ledger))
      (stays_cleared r q w.card _ _ (before.cards.invariants q) n w.had_received _ _ w.is_clear (ap was_accepted w.was_accepted) _ _)

  -- what the card of an accepted call reads
  accepted_reading : (calls : List Call) (g : GenuineHistory r k calls) (c : Call) → GenuineCall c (cards_after r k calls)
      → number_of c (cards_after r k calls) ≡ 0 → (i q : ℕ) → i < r → q < k
      → read_on ((called c (cards_after r k calls)).words i) q ≡ ledger_reading r i (after_accepted r q (call_step c) (history_ledger r k calls q))
  accepted_reading calls g c gc ok i q hi hq =
      read_matches (cards_at (accepted_leaves (driver_at (went r k right calls g).0) c gc ok).cards) i q hi hq

  pub after_clear : (calls : List Call) → GenuineHistory r k calls
      → (m : Making) (i q : ℕ) (out : List ℕ) → ledger_action (Make m i q) ≡ ledger.clear i q
      → let st = cards_after r k calls in
      let st' = called (make m i q out) st in
      number_of (make m i q out) st ≡ 0 → ((read_on (st'.words i) q).number ≡ 0) × ((read_on (st'.words i) q).value ≡ 0)
  unfolding ledger_reading
  after_clear calls g m i q out clears ok =
      let there = accepted_there r k m i q out _ _ (sym (call_numbers r k right calls g (make m i q out) tt) ∙ ok) in
      let now = rw clears at (accepted_reading calls g (make m i q out) tt ok i q there.0 there.1) in (
        ap (λ (a : Reading). a.number) now,
        ap (λ (a : Reading). a.value) now ∙ clear_value r q _ (history_ledger r k calls q) ((went r k right calls g).0.cards.invariants q) i,
      )

  pub after_count : (calls : List Call) → GenuineHistory r k calls
      → (i q w : ℕ) (out : List ℕ)
      → let st = cards_after r k calls in
      let st' = called (count i q w out) st in
      number_of (count i q w out) st ≡ 0
      → ((read_on (st.words i) q).number ≡ 0) × ((read_on (st'.words i) q).number ≡ 0) × ((read_on (st'.words i) q).value ≡ (read_on (st.words i) q).value + w)
  unfolding ledger_reading ledger_action
  after_count calls g i q w out ok =
      let there = accepted_there r k (Count w) i q out _ _ (sym (call_numbers r k right calls g (count i q w out) tt) ∙ ok) in
      let before = driver_theorem r k right calls g i q there.0 there.1 in
      let now = accepted_reading calls g (count i q w out) tt ok i q there.0 there.1 in (
        ap (λ (a : Reading). a.number) before,
        ap (λ (a : Reading). a.number) now,
        ap (λ (a : Reading). a.value) now ∙ value_gains r q (map call_step calls) _ i w ∙ ap (λ (a : Reading). a.value + w) (sym before),
      )

-- ---- a run's steps

-- a ledger that is told of more steps
run_ledgers_append : (r k L q : ℕ) (steps more : List Step) (st : State) (ls : ℕ → Ledger)
    → run.ledgers_after r k L (steps ++ more) st ls q ≡ run.ledgers_after r k L more (state_after r k L steps st) (run.ledgers_after r k L steps st ls) q
unfolding answers_of numbers_in state_after after_steps
run_ledgers_append r k L q [] more st ls = refl
run_ledgers_append r k L q (s ∷ steps) more st ls =
    run_ledgers_append r k L q steps more (step_on r k L s st).state (λ p. after_step r p (ledger_step s) (was_accepted (step_on r k L s st).answer.number) (ls p))

pub run_cancelled_stays : (r k L q i : ℕ) (steps more : List Step) (logs : List ℕ) (n : Name)
    → has ((ledger_of r q steps (answers_of r k L steps (fresh_state r k L logs))).cancelled i) n ≡ true
    → has ((ledger_of r q (steps ++ more) (answers_of r k L (steps ++ more) (fresh_state r k L logs))).cancelled i) n ≡ true
unfolding ledger_of
run_cancelled_stays r k L q i steps more logs n h =
    rw (run_ledgers_append r k L q steps more (fresh_state r k L logs) (λ p. empty_ledger)) ((after_steps_grows r q _ _ _).cancelled i n h)

-- an offer of the steps is a step behind the first ones
step_at : {P : Type 0} (r k L : ℕ) (steps : List Step) (st : State) (before : List Offer) (o : Offer) (later : List Offer)
    → run_offers r k L steps st ≡ before ++ o ∷ later
    → ((first : List Step) (s : Step) (rest : List Step) → steps ≡ first ++ s ∷ rest → run_offers r k L first st ≡ before
    → offer (ledger_step s) (step_on r k L s (state_after r k L first st)).answer.number ≡ o → P) → P
unfolding answers_of numbers_in state_after offers_of
step_at r k L [] st [] o later e found = absurd (nil≢cons e)
step_at r k L [] st (x ∷ before) o later e found = absurd (nil≢cons e)
step_at r k L (s ∷ steps) st [] o later e found = found [] s steps refl refl (head-eq_of_cons-eq e)
step_at r k L (s ∷ steps) st (x ∷ before) o later e found =
    step_at r k L steps (step_on r k L s st).state before o later (tail-eq_of_cons-eq e)
    (λ first s' rest is firsts same.
    found (s ∷ first) s' rest (ap (λ (ss : List Step). s ∷ ss) is) (ap₂ (λ (y : Offer) (ys : List Offer). y ∷ ys) (head-eq_of_cons-eq e) firsts) same)

module _ (r k L : ℕ) (steps : List Step) (words logs answers : List ℕ) (right : sizes_right r k L (length steps) words logs answers ≡ true) where
  abbrev begins : State
  begins = fresh_state r k L logs

  ran : (first : List Step) → TheoryRun r k (map ledger_step first) (numbers_in (answers_of r k L first begins)) (replica_of r k L (state_after r k L first begins))
  ran first = let z = right_sizes r k L (length steps) words logs answers right in state_run r k L first logs z.0 z.1

  run_told : (first : List Step) (q : ℕ) → ledger_of r q first (answers_of r k L first begins) ≡ ledger_after r q (run_offers r k L first begins)
  unfolding ledger_of
  run_told first q = told (ran first) (λ ss fs. after_steps r q ss fs empty_ledger)

  pub run_cancelled_was_cleared : (i q : ℕ) (n : Name) → has ((ledger_of r q steps (run_on r k L steps words logs answers).answers).cancelled i) n ≡ true
      → ClearStepBySeer r k L q steps logs n
  run_cancelled_was_cleared i q n h =
      let w = was_cleared r q i (run_offers r k L steps begins) n (rw (answers_are r k L steps words logs answers right, run_told steps q) at h) in
      step_at r k L steps begins w.before w.offer w.later w.in_list
      (λ first s rest is firsts same.
      record {
        before = first;
        step = s;
        card = w.card;
        later = rest;
        in_list = is;
        is_clear = ap step_of same ∙ w.is_clear;
        was_accepted = eqb-true _ 0 (ap (λ (o : Offer). o.willing) same ∙ and_left w.offer.willing _ w.was_accepted);
        had_received = rw (run_told first q, firsts) w.had_received;
      })

  pub run_cleared_is_cancelled : (q : ℕ) (n : Name) (w : ClearStepBySeer r k L q steps logs n)
      → has ((ledger_of r q steps (run_on r k L steps words logs answers).answers).cancelled w.card) n ≡ true
  unfolding ledger_of answers_of numbers_in
  run_cleared_is_cancelled q n w =
      rw (answers_are r k L steps words logs answers right, w.in_list, run_ledgers_append r k L q w.before (w.step ∷ w.later) begins (λ p. empty_ledger))
      (stays_cleared r q w.card _ _ ((ran w.before).cards.invariants q) n w.had_received _ _ w.is_clear (ap was_accepted w.was_accepted) _ _)
