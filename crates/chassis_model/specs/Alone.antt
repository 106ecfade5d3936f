-- DEFINITIONS. One counter's own steps of a run's list, and its own calls of a driver's history: the accepted ones that count or clear it, or that hand over one of
-- its messages, in order. Which counter a message is of stands in its bytes.
use Rattle.std.specs.Prelude.{ℕ, suc, Bool, false, cond, ◌&&◌, List, [], ◌∷◌, ◌++◌, get_or, eqb}
use Rattle.wire.specs.Message.{version_2, message_at}
use Rattle.replica_model.specs.Layout.{N_of}
use Rattle.chassis_model.specs.Log.{waiting_part}
use Rattle.chassis_model.specs.Run.{Step, Action, Make, Deliver, Nothing, action_of, State, StepAnswer, log_of, N_at, step_on}
use Rattle.chassis_model.specs.Ledger.{was_accepted}
use Rattle.chassis_model.specs.Answers.{fresh_state}
use Rattle.chassis_model.specs.Driver.{Call, make, take, Cards, opened, called, number_of, value_of}

-- ---- of a run

module _ (r k L : ℕ) where
  -- is the action of counter q? Its counter is the one on which a message is made, and for a delivery the one of the message that it hands over.
  unfoldable pub of_counter : ℕ → Action → State → Bool
  of_counter q (Make m i c) st = eqb c q
  of_counter q (Deliver i s) st = eqb (message_at version_2 (waiting_part (suc (N_at r k L st i s)) (log_of r k L st s))).counter q
  of_counter q Nothing st = false

  -- of each of q's own steps of a list, run from st: what f gives for it and its answer
  unfoldable pub own_from : {A : Type 0} → (Step → StepAnswer → A) → ℕ → List Step → State → List A
  own_from f q [] st = []
  own_from f q (s ∷ ss) st =
      let done = step_on r k L s st in
      cond (was_accepted done.answer.number && of_counter q (action_of s) st) (f s done.answer ∷ []) [] ++ own_from f q ss done.state

  -- the steps themselves, and the values that they answered
  abbrev pub own_steps : ℕ → List Step → List ℕ → List Step
  own_steps q steps logs = own_from (λ s a. s) q steps (fresh_state r k L logs)

  abbrev pub own_values : ℕ → List Step → List ℕ → List ℕ
  own_values q steps logs = own_from (λ s a. a.value) q steps (fresh_state r k L logs)

-- ---- of a driver's history

-- the counter of a call: the one on which a message is made, and for a take the one of the message that the bytes are
abbrev pub call_counter : Call → ℕ
call_counter (make m i q out) = q
call_counter (take i bytes) = (message_at version_2 bytes).counter

-- of each of q's own calls of a list, made from st on: what f gives for it and the value that it answered
unfoldable pub own_calls_from : {A : Type 0} → (Call → ℕ → A) → ℕ → List Call → Cards → List A
own_calls_from f q [] st = []
own_calls_from f q (c ∷ cs) st =
    cond (was_accepted (number_of c st) && eqb (call_counter c) q) (f c (value_of c st) ∷ []) [] ++ own_calls_from f q cs (called c st)

-- the calls themselves, and the values
abbrev pub own_calls : ℕ → ℕ → ℕ → List Call → List Call
own_calls r k q calls = own_calls_from (λ c v. c) q calls (opened r k)

abbrev pub own_call_values : ℕ → ℕ → ℕ → List Call → List ℕ
own_call_values r k q calls = own_calls_from (λ c v. v) q calls (opened r k)

-- A call again, on cards that have come another way: the same making, and for a take of one of card s's messages the one whose turn it is there.
-- (Its bytes are others: p and c depend on all counters.)
abbrev pub again : ℕ → Call → Cards → Call
again r (make m i q out) st = make m i q out
again r (take i bytes) st = take i (let s = (message_at version_2 bytes).sender in get_or (st.written s) (N_of r (st.words i) s) [])

unfoldable pub replayed : ℕ → List Call → Cards → List Call
replayed r [] st = []
replayed r (c ∷ cs) st = again r c st ∷ replayed r cs (called (again r c st) st)
