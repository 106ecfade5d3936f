-- DEFINITIONS. What may stand behind a cancelled increment, of a driver's history and of a run: an accepted clear by a card that had received it.
use Rattle.std.specs.Prelude.{ℕ, ◌≡◌, true, List, ◌∷◌, ◌++◌}
use Rattle.protocol.specs.Names.{Name, has}
use Rattle.protocol.specs.Ledger as ledger
use Rattle.chassis_model.specs.Run.{Step, step_on, state_after, answers_of}
use Rattle.chassis_model.specs.Ledger.{ledger_step, ledger_of}
use Rattle.chassis_model.specs.Answers.{fresh_state}
use Rattle.chassis_model.specs.Driver.{Call, number_of, cards_after, call_step, history_ledger}

-- Behind some first calls of the history a card cleared q, the call answered 0, and the card had received the increment named n by then.
pub record ClearedBySeer (r k q : ℕ) (calls : List Call) (n : Name) : Type 0 where
  pub before : List Call
  pub call : Call
  pub card : ℕ
  pub later : List Call
  pub in_list : calls ≡ before ++ call ∷ later
  pub is_clear : call_step call ≡ ledger.clear card q
  pub was_accepted : number_of call (cards_after r k before) ≡ 0
  pub had_received : has ((history_ledger r k before q).received card) n ≡ true

-- The same of a run's list of steps.
pub record ClearStepBySeer (r k L q : ℕ) (steps : List Step) (logs : List ℕ) (n : Name) : Type 0 where
  pub before : List Step
  pub step : Step
  pub card : ℕ
  pub later : List Step
  pub in_list : steps ≡ before ++ step ∷ later
  pub is_clear : ledger_step step ≡ ledger.clear card q
  pub was_accepted : (step_on r k L step (state_after r k L before (fresh_state r k L logs))).answer.number ≡ 0
  pub had_received : has ((ledger_of r q before (answers_of r k L before (fresh_state r k L logs))).received card) n ≡ true
