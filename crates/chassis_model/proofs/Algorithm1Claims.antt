-- CLAIMS. Algorithm 1 in every run ("Algorithm 1 is compared as w increments in a row with nothing between them, in every run"), and in every
-- driver's history. `algorithm_1_of r steps numbers` is the paper's algorithm fed the steps and which of them were answered with 0, a count by w as w increments
-- in a row and its delivery as their w effectors in a row (`protocol`'s `InARow`).
use Rattle.std.specs.Prelude.{ℕ, ◌<◌, ◌≡◌, true, List, map, length}
use Rattle.protocol.specs.Algorithm1.{value, slot_of}
use Rattle.protocol.specs.InARow.{instance}
use Rattle.replica_model.specs.Layout.{replica_length, C_of, entry_of}
use Rattle.replica_model.specs.Calls.{sizes_in_range, read_on}
use Rattle.chassis_model.specs.ListParts.{part}
use Rattle.chassis_model.specs.Run.{Step, numbers_in, sizes_right, run_on}
use Rattle.chassis_model.specs.Ledger.{ledger_step}
use Rattle.chassis_model.specs.Driver.{Call, opened, numbers, cards_after, GenuineHistory, call_step}
use Rattle.chassis_model.specs.Algorithm1Of.{algorithm_1_of}
use Rattle.chassis_model.proofs.TheoryReads.{C_is, M_is, algorithm_1_value}
use Rattle.chassis_model.proofs.Theorem.{theory_run}
use Rattle.chassis_model.proofs.DriverTheorem.{theory_history}

-- In the words that a run leaves, every card's C and every entry of every counter are Algorithm 1's, an absent entry being an unmapped key, and what is
-- read of every counter is Algorithm 1's value.
pub algorithm_1_in_every_run : (r k L : ℕ) (steps : List Step) (words logs answers : List ℕ) → sizes_right r k L (length steps) words logs answers ≡ true
    → (i j q : ℕ) → i < r → j < r → q < k
    → let after = run_on r k L steps words logs answers in
    let b = part (replica_length r k) after.words i in
    let paper = (algorithm_1_of r (map ledger_step steps) (numbers_in after.answers)).replica i in
    (C_of b j ≡ paper.C j) × (slot_of (entry_of r b q j) ≡ paper.M q j) × ((read_on b q).value ≡ value r (instance q paper))
algorithm_1_in_every_run r k L steps words logs answers right i j q hi hj hq =
    let t = theory_run r k L steps words logs answers right in
    (C_is t i j hi hj, M_is t i j q hi hj hq, algorithm_1_value t i q hi hq)

-- The same of the words that a driver's genuine history leaves.
pub algorithm_1_in_every_history : (r k : ℕ) → sizes_in_range r k ≡ true → (calls : List Call) → GenuineHistory r k calls
    → (i j q : ℕ) → i < r → j < r → q < k
    → let b = (cards_after r k calls).words i in
    let paper = (algorithm_1_of r (map call_step calls) (numbers calls (opened r k))).replica i in
    (C_of b j ≡ paper.C j) × (slot_of (entry_of r b q j) ≡ paper.M q j) × ((read_on b q).value ≡ value r (instance q paper))
algorithm_1_in_every_history r k right calls genuine i j q hi hj hq =
    let t = theory_history r k right calls genuine in
    (C_is t i j hi hj, M_is t i j q hi hj hq, algorithm_1_value t i q hi hq)
