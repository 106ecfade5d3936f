-- CLAIMS. Request 2026-14, "What planners may rely on", of a run over words and bytes and of a driver's history. `protocol`'s `History` has the definitions;
-- `history_of steps numbers` is the history of messages that is fed the steps and which of them were answered with 0.
use Rattle.std.specs.Prelude.{ℕ, ◌<◌, ◌≡◌, true, List, map, length}
use Rattle.protocol.specs.History.{caught_up, plain_value}
use Rattle.replica_model.specs.Layout.{replica_length}
use Rattle.replica_model.specs.Calls.{sizes_in_range, read_on}
use Rattle.chassis_model.specs.ListParts.{part}
use Rattle.chassis_model.specs.Run.{Step, numbers_in, sizes_right, run_on}
use Rattle.chassis_model.specs.Ledger.{ledger_step}
use Rattle.chassis_model.specs.Driver.{Call, opened, numbers, cards_after, GenuineHistory, call_step}
use Rattle.chassis_model.specs.HistoryOf.{history_of}
use Rattle.chassis_model.proofs.TheoryReads as reads
use Rattle.chassis_model.proofs.Theorem.{theory_run}
use Rattle.chassis_model.proofs.DriverTheorem.{theory_history}

-- "On a caught-up card, after every list of steps, the value is the number of received increments for which no received clear of that counter was made by a card
-- that had received the increment earlier." (That the read is accepted is `Claims.ledger_theorem`.)
pub caught_up_value : (r k L : ℕ) (steps : List Step) (words logs answers : List ℕ) → sizes_right r k L (length steps) words logs answers ≡ true
    → (i q : ℕ) → i < r → q < k
    → let after = run_on r k L steps words logs answers in
    let history = history_of (map ledger_step steps) (numbers_in after.answers) in
    caught_up i history ≡ true → (read_on (part (replica_length r k) after.words i) q).value ≡ plain_value q i history
caught_up_value r k L steps words logs answers right = reads.caught_up_value (theory_run r k L steps words logs answers right)

-- The same after every genuine history of a driver's calls.
pub driver_caught_up_value : (r k : ℕ) → sizes_in_range r k ≡ true → (calls : List Call) → GenuineHistory r k calls
    → (i q : ℕ) → i < r → q < k
    → let history = history_of (map call_step calls) (numbers calls (opened r k)) in
    caught_up i history ≡ true → (read_on ((cards_after r k calls).words i) q).value ≡ plain_value q i history
driver_caught_up_value r k right calls genuine = reads.caught_up_value (theory_history r k right calls genuine)
