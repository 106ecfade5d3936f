-- LAWS. q's own steps and own calls, which the bytes handed over tell (`own-steps-from`, `own_calls_from`), are those that `protocol`'s queues of counter numbers
-- tell: the queues are those of the messages that wait (`TurnsAre`), and the bytes are those of the chassis's messages.
use Rattle.std.specs.Prelude.{ℕ, ◌<◌, ◌≡◌, refl, Bool, true, cond, ◌&&◌}
use Rattle.std.proofs.Math.Path.{sym, ap}
use Rattle.std.proofs.Common.{ap₂, ◌∙◌, arith, eq-eqb, ne_eqb}
use mathlib.Core.List.{List, [], ◌∷◌, ◌++◌}
use Rattle.std.proofs.Math.ListN.{length}
use Rattle.std.proofs.Math.Dec.{eqb}
use Rattle.protocol.proofs.Cases.{by_place}
use Rattle.protocol.specs.Ledger as ledger
use Rattle.protocol.specs.Ledger.{Ledger}
use Rattle.protocol.specs.Chassis.{Chassis, enabled, accepted, stepped}
use Rattle.protocol.proofs.Enabled.{deliver_enabled}
use Rattle.protocol.proofs.Theorem.{Invariant}
use Rattle.protocol.specs.Alone as queues
use Rattle.protocol.specs.Alone.{Turns, turned, belongs_by_turns}
use Rattle.protocol.proofs.AloneTurns.{TurnsAre, belongs_is, stepped_turns}
use Rattle.wire.specs.Message.{version_2, message_at}
use Rattle.replica_model.specs.Layout.{N_of}
use Rattle.chassis_model.specs.Run.{Action, Make, Deliver, Nothing, Step, StepAnswer, action_of, amount_fits, State, acted, step_on, answers_of, numbers_in}
use Rattle.chassis_model.specs.Ledger.{ledger_action, ledger_step, was_accepted, accepted_of}
use Rattle.chassis_model.specs.Driver.{Call, make, take, Cards, called, number_of, value_of, GenuineCall, Genuine, numbers, call_step}
use Rattle.chassis_model.specs.Alone.{of_counter, own_from, call_counter, own_calls_from}
use Rattle.chassis_model.proofs.InStep.{reached_N, made_all}
use Rattle.chassis_model.proofs.Offers.{offer}
use Rattle.chassis_model.proofs.Takes.{counter_read}
use Rattle.chassis_model.proofs.Matches.{RunAt, run_at, run_cards, N_in}
use Rattle.chassis_model.proofs.Makings.{making_counter}
use Rattle.chassis_model.proofs.DeliveredSteps.{due_stands}
use Rattle.chassis_model.proofs.StepLaws.{step_matches}
use Rattle.chassis_model.proofs.DriverMatches.{DriverAt, driver_at, driver_cards}
use Rattle.chassis_model.proofs.DriverSteps.{call_matches}
use Rattle.chassis_model.proofs.DriverResends.{written_length, written_at}
use Rattle.chassis_model.proofs.DriverSame.{due_bytes}

-- ---- one step that answered `number`

module _ (r q : ℕ) (ch : Chassis) (l : Ledger) (ok : Invariant r q ch l) (turns : Turns) (are : TurnsAre turns ch) (s : ledger.Step) (number : ℕ)
    (same : accepted r (offer s number) ch ≡ was_accepted number) where
  on_accepted : number ≡ 0 → enabled r s ch ≡ true
  on_accepted e = rw e at same

  -- it is q's for the queues if it is of counter q
  picked : (mine : Bool) → (number ≡ 0 → enabled r s ch ≡ true → mine ≡ eqb (queues.step_counter s ch) q)
      → was_accepted number && mine ≡ was_accepted number && belongs_by_turns q s turns
  picked mine is =
      by_place number 0
      (λ e. rw (eq-eqb number 0 e, is e (on_accepted e)) (sym (belongs_is r q ch l ok turns are s (on_accepted e))))
      (λ d. rw (ne_eqb number 0 d))

  next_turns : TurnsAre (cond (was_accepted number) (turned s turns) turns) (stepped r (offer s number) ch)
  next_turns = rw same at (stepped_turns r q ch l ok turns are (offer s number))

-- ---- a run

module _ {r k L : ℕ} (now : RunAt r k L) where
  -- an action that the chassis accepts is of the same counter there and here
  pub counter_is : (q : ℕ) (a : Action) (fits : Bool) → (acted r k L a fits now.state).answer.number ≡ 0 → enabled r (ledger_action a) now.chassis ≡ true
      → of_counter r k L q a now.state ≡ eqb (queues.step_counter (ledger_action a) now.chassis) q
  unfolding of_counter queues.step_counter ledger_action acted
  counter_is q (Make m i c) fits e on = rw (making_counter m i c now.chassis)
  counter_is q (Deliver i s) fits e on =
      let d = deliver_enabled r i s now.chassis on in
      let N = reached_N (run_cards now) i s d.receiver d.sender in
      let own = reached_N (run_cards now) s s d.sender d.sender in
      let waits : N_in now i s < N_in now s s = rw (N, own) d.waits in
      ap (λ (c : ℕ). eqb c q)
      (ap (λ (bytes : List ℕ). (message_at version_2 bytes).counter) (due_stands now i s d.receiver d.sender waits).waits
      ∙ rw N
      (counter_read (run_cards now) i s d.receiver d.sender ((now.chassis.replica i).N s)
      (rw (← (made_all (run_cards now) s)) d.waits)))
  counter_is q Nothing fits e on = absurd (omega arith)

-- q's own steps of a list, run from st, as the queues tell them
abbrev pub queued_steps : ℕ → ℕ → ℕ → ℕ → List Step → State → Turns → List Step
queued_steps r k L q ss st turns = queues.own_steps ledger_step q ss (accepted_of (numbers_in (answers_of r k L ss st))) turns

-- and what f gives for each and its answer
unfoldable pub queued_from : {A : Type 0} → (Step → StepAnswer → A) → ℕ → ℕ → ℕ → ℕ → List Step → State → Turns → List A
queued_from f r k L q [] st turns = []
queued_from f r k L q (s ∷ ss) st turns =
    let done = step_on r k L s st in
    let accepted = was_accepted done.answer.number in
    cond (accepted && belongs_by_turns q (ledger_step s) turns) (f s done.answer ∷ [])
    [] ++ queued_from f r k L q ss done.state (cond accepted (turned (ledger_step s) turns) turns)

queued_are : (r k L q : ℕ) (ss : List Step) (st : State) (turns : Turns) → queued_from (λ s a. s) r k L q ss st turns ≡ queued_steps r k L q ss st turns
unfolding queued_from queues.own_steps answers_of numbers_in
queued_are r k L q [] st turns = refl
queued_are r k L q (s ∷ ss) st turns =
    let accepted = was_accepted (step_on r k L s st).answer.number in
    ap (λ (rest : List Step). cond (accepted && belongs_by_turns q (ledger_step s) turns) (s ∷ []) [] ++ rest) (queued_are r k L q ss (step_on r k L s st).state _)

pub own_from_is : {A : Type 0} (f : Step → StepAnswer → A) {r k L : ℕ} (q : ℕ) (ss : List Step) (now : RunAt r k L) (turns : Turns) → TurnsAre turns now.chassis
    → own_from r k L f q ss now.state ≡ queued_from f r k L q ss now.state turns
unfolding own_from queued_from
own_from_is f q [] now turns are = refl
own_from_is {A} f {r} {k} {L} q (s ∷ ss) now turns are =
    let ok = now.matches.cards.invariants q in
    let here = step_matches now s in
    let answer = (step_on r k L s now.state).answer in
    ap₂ (λ (t : Bool) (rest : List A). cond t (f s answer ∷ []) [] ++ rest)
    (picked r q now.chassis (now.ledgers q) ok turns are (ledger_step s) answer.number here.1 (of_counter r k L q (action_of s) now.state) (counter_is now q (action_of s) (amount_fits s)))
    (own_from_is f q ss (run_at here.0) _ (next_turns r q now.chassis (now.ledgers q) ok turns are (ledger_step s) answer.number here.1))

pub own_steps_are : {r k L : ℕ} (q : ℕ) (ss : List Step) (now : RunAt r k L) (turns : Turns) → TurnsAre turns now.chassis
    → own_from r k L (λ s a. s) q ss now.state ≡ queued_steps r k L q ss now.state turns
own_steps_are {r} {k} {L} q ss now turns are = own_from_is (λ s a. s) q ss now turns are ∙ queued_are r k L q ss now.state turns

-- ---- a driver's history

module _ {r k : ℕ} (now : DriverAt r k) where
  call_counter_is : (c : Call) → GenuineCall c now.state → number_of c now.state ≡ 0 → enabled r (call_step c) now.chassis ≡ true
      → call_counter c ≡ queues.step_counter (call_step c) now.chassis
  unfolding queues.step_counter
  call_counter_is (make m i q out) g e on = sym (making_counter m i q now.chassis)
  call_counter_is (take i bytes) g e on =
      let s = (message_at version_2 bytes).sender in
      let d = deliver_enabled r i s now.chassis on in
      let N = reached_N (driver_cards now) i s d.receiver d.sender in
      let made : (now.chassis.replica i).N s < length (now.chassis.log s) = rw (← (made_all (driver_cards now) s)) d.waits in
      let written : N_of r (now.state.words i) s < length (now.state.written s) = rw (written_length now s, N) made in
      ap (λ (y : List ℕ). (message_at version_2 y).counter)
      (due_bytes now i bytes d.receiver (g e) e ∙ written_at now s (N_of r (now.state.words i) s) written)
      ∙ rw N (counter_read (driver_cards now) i s d.receiver d.sender ((now.chassis.replica i).N s) made)

-- q's own calls of a list, made from st on, as the queues tell them
abbrev pub queued_calls : ℕ → List Call → Cards → Turns → List Call
queued_calls q cs st turns = queues.own_steps call_step q cs (accepted_of (numbers cs st)) turns

-- and what f gives for each and the value that it answered
unfoldable pub queued_calls_from : {A : Type 0} → (Call → ℕ → A) → ℕ → List Call → Cards → Turns → List A
queued_calls_from f q [] st turns = []
queued_calls_from f q (c ∷ cs) st turns =
    let accepted = was_accepted (number_of c st) in
    cond (accepted && belongs_by_turns q (call_step c) turns) (f c (value_of c st) ∷ [])
    [] ++ queued_calls_from f q cs (called c st) (cond accepted (turned (call_step c) turns) turns)

queued_calls_are : (q : ℕ) (cs : List Call) (st : Cards) (turns : Turns) → queued_calls_from (λ c v. c) q cs st turns ≡ queued_calls q cs st turns
unfolding queued_calls_from queues.own_steps numbers
queued_calls_are q [] st turns = refl
queued_calls_are q (c ∷ cs) st turns =
    let accepted = was_accepted (number_of c st) in
    ap (λ (rest : List Call). cond (accepted && belongs_by_turns q (call_step c) turns) (c ∷ []) [] ++ rest) (queued_calls_are q cs (called c st) _)

pub own_calls_from_is : {A : Type 0} (f : Call → ℕ → A) {r k : ℕ} (q : ℕ) (cs : List Call) (now : DriverAt r k) → Genuine cs now.state → (turns : Turns)
    → TurnsAre turns now.chassis → own_calls_from f q cs now.state ≡ queued_calls_from f q cs now.state turns
unfolding own_calls_from queued_calls_from
own_calls_from_is f q [] now g turns are = refl
own_calls_from_is {A} f {r} q (c ∷ cs) now (g, gs) turns are =
    let ok = now.matches.cards.invariants q in
    let here = call_matches now c g in
    let number = number_of c now.state in
    ap₂ (λ (t : Bool) (rest : List A). cond t (f c (value_of c now.state) ∷ []) [] ++ rest)
    (picked r q now.chassis (now.ledgers q) ok turns are (call_step c) number here.1 (eqb (call_counter c) q)
    (λ e on. ap (λ (n : ℕ). eqb n q) (call_counter_is now c g e on)))
    (own_calls_from_is f q cs (driver_at here.0) gs _ (next_turns r q now.chassis (now.ledgers q) ok turns are (call_step c) number here.1))

pub own_calls_are : {r k : ℕ} (q : ℕ) (cs : List Call) (now : DriverAt r k) → Genuine cs now.state → (turns : Turns) → TurnsAre turns now.chassis
    → own_calls_from (λ c v. c) q cs now.state ≡ queued_calls q cs now.state turns
own_calls_are q cs now g turns are = own_calls_from_is (λ c v. c) q cs now g turns are ∙ queued_calls_are q cs now.state turns
