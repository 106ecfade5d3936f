-- CLAIMS. What a clear takes, over a driver's calls and over a run's steps: what its card had seen, all of that, and for good. A clear that took counts that its card
-- had not seen, or a cleared count that came back, would give one partition's bandwidth to another. An increment is cancelled on a card if its name is in the card's
-- cancelled set; by `DriverClaims.driver_theorem` and `Claims.ledger_theorem` a read counts the increments that the card has received and that are not cancelled there.
-- `Cleared` has the definitions, `ClearedExamples` a small history.
use Rattle.std.specs.Prelude.{ℕ, ◌+◌, ◌≡◌, true, List, ◌++◌, length}
use Rattle.protocol.specs.Names.{Name, has}
use Rattle.protocol.specs.Ledger as ledger
use Rattle.replica_model.specs.Calls.{sizes_in_range, read_on}
use Rattle.chassis_model.specs.Run.{Making, Make, Step, answers_of, sizes_right, run_on}
use Rattle.chassis_model.specs.Ledger.{ledger_action, ledger_of}
use Rattle.chassis_model.specs.Answers.{fresh_state}
use Rattle.chassis_model.specs.Driver.{Call, make, count, called, number_of, cards_after, GenuineHistory, history_ledger}
use Rattle.chassis_model.specs.Cleared.{ClearedBySeer, ClearStepBySeer}
use Rattle.chassis_model.proofs.ClearedLaws as laws

-- NO CLEAR SWALLOWS UNSEEN COUNTS. After every genuine history, no increment is cancelled on any card unless a card that had received it cleared its counter.
pub cancelled_was_cleared : (r k : ℕ) → sizes_in_range r k ≡ true → (calls : List Call) → GenuineHistory r k calls
    → (i q : ℕ) (n : Name) → has ((history_ledger r k calls q).cancelled i) n ≡ true → ClearedBySeer r k q calls n
cancelled_was_cleared = laws.cancelled_was_cleared

-- The same after every list of a run's steps.
pub run_cancelled_was_cleared : (r k L : ℕ) (steps : List Step) (words logs answers : List ℕ) → sizes_right r k L (length steps) words logs answers ≡ true
    → (i q : ℕ) (n : Name)
    → let after = run_on r k L steps words logs answers in
    has ((ledger_of r q steps after.answers).cancelled i) n ≡ true → ClearStepBySeer r k L q steps logs n
run_cancelled_was_cleared = laws.run_cancelled_was_cleared

-- NO CLEARED COUNT COMES BACK. An increment that its clearing card had received is cancelled on that card from then on, whatever calls follow,
pub cleared_is_cancelled : (r k : ℕ) → sizes_in_range r k ≡ true → (calls : List Call) → GenuineHistory r k calls
    → (q : ℕ) (n : Name) (w : ClearedBySeer r k q calls n) → has ((history_ledger r k calls q).cancelled w.card) n ≡ true
cleared_is_cancelled = laws.cleared_is_cancelled

-- or whatever steps of a run;
pub run_cleared_is_cancelled : (r k L : ℕ) (steps : List Step) (words logs answers : List ℕ) → sizes_right r k L (length steps) words logs answers ≡ true
    → (q : ℕ) (n : Name) (w : ClearStepBySeer r k L q steps logs n)
    → let after = run_on r k L steps words logs answers in
    has ((ledger_of r q steps after.answers).cancelled w.card) n ≡ true
run_cleared_is_cancelled = laws.run_cleared_is_cancelled

-- and what is cancelled on any card, before or after it comes there, stays cancelled, whatever calls follow: these need not even be genuine.
pub cancelled_stays : (r k q i : ℕ) (calls more : List Call) (n : Name) → has ((history_ledger r k calls q).cancelled i) n ≡ true
    → has ((history_ledger r k (calls ++ more) q).cancelled i) n ≡ true
cancelled_stays = laws.cancelled_stays

-- The same of a run's steps.
pub run_cancelled_stays : (r k L q i : ℕ) (steps more : List Step) (logs : List ℕ) (n : Name)
    → let begins = fresh_state r k L logs in
    has ((ledger_of r q steps (answers_of r k L steps begins)).cancelled i) n ≡ true
    → has ((ledger_of r q (steps ++ more) (answers_of r k L (steps ++ more) begins)).cancelled i) n ≡ true
run_cancelled_stays = laws.run_cancelled_stays

-- WHAT A CLEAR LEAVES. After every genuine history, right after an accepted call that clears, be it clear or read and clear, a read of that counter on that card is
-- accepted and gives 0.
pub after_clear : (r k : ℕ) → sizes_in_range r k ≡ true → (calls : List Call) → GenuineHistory r k calls
    → (m : Making) (i q : ℕ) (out : List ℕ) → ledger_action (Make m i q) ≡ ledger.clear i q
    → let st = cards_after r k calls in
    let st' = called (make m i q out) st in
    number_of (make m i q out) st ≡ 0 → ((read_on (st'.words i) q).number ≡ 0) × ((read_on (st'.words i) q).value ≡ 0)
after_clear = laws.after_clear

-- WHAT A COUNT ADDS. After every genuine history, a count by w that is accepted raises by w what that card reads of that counter; both reads are accepted.
pub after_count : (r k : ℕ) → sizes_in_range r k ≡ true → (calls : List Call) → GenuineHistory r k calls
    → (i q w : ℕ) (out : List ℕ)
    → let st = cards_after r k calls in
    let st' = called (count i q w out) st in
    number_of (count i q w out) st ≡ 0
    → ((read_on (st.words i) q).number ≡ 0) × ((read_on (st'.words i) q).number ≡ 0) × ((read_on (st'.words i) q).value ≡ (read_on (st.words i) q).value + w)
after_count = laws.after_count
