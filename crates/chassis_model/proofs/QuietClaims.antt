-- CLAIMS. When a counter is quiet: of a run, over the words that it leaves, and of a driver's history over any network that forges nothing. A driver gives a quiet
-- counter's hardware register to another port, so a value of 0 behind which cancelled counts are still under way must not pass for quiet. Of a card and the counter's
-- ledger, `EqualSets`, `Settled` and `CancelledAhead` are defined in `Quiet` of `protocol`; `QuietExamples` has small lists.
use Rattle.std.specs.Prelude.{ℕ, ◌<◌, ◌≡◌, ◌↔◌, ◌⊎◌, true, List}
use Rattle.protocol.specs.Quiet.{EqualSets, Settled, CancelledAhead}
use Rattle.replica_model.specs.Layout.{replica_length}
use Rattle.replica_model.specs.Calls.{sizes_in_range, is_quiet, read_on}
use Rattle.chassis_model.specs.ListParts.{part}
use Rattle.chassis_model.specs.Run.{Step, run_on, steps_of, run_bytes_on}
use Rattle.chassis_model.specs.Ledger.{ledger_of}
use Rattle.chassis_model.specs.Driver.{Call, cards_after, GenuineHistory, history_ledger}
use Rattle.chassis_model.proofs.RunLaws.{accepted_sizes, whole_steps, accepted_sizes_over_bytes}
use Rattle.chassis_model.proofs.Theorem.{theory_run}
use Rattle.chassis_model.proofs.DriverTheorem.{theory_history}
use Rattle.chassis_model.proofs.QuietLaws as laws

-- EQUAL SETS. After any list of steps, a counter is quiet on a card exactly when that card's received and cancelled sets in the counter's ledger are equal: every name
-- is in one exactly when it is in the other.
pub quiet_is_equal_sets : (r k L : ℕ) (steps : List Step) (words logs answers : List ℕ)
    → let after = run_on r k L steps words logs answers in
    after.number ≡ 0 → (i q : ℕ) → i < r → q < k
    → (is_quiet (read_on (part (replica_length r k) after.words i) q) ≡ true) ↔ EqualSets i (ledger_of r q steps after.answers)
unfolding ledger_of
quiet_is_equal_sets r k L steps words logs answers accepted =
    laws.quiet_equal (theory_run r k L steps words logs answers ((accepted_sizes r k L steps words logs answers).0.0 accepted))

-- SETTLED. So, on a card where a counter is quiet, no increment of it that the card has still to receive is cancelled there already, and none that it has received is
-- still counted; and where that is so, it is quiet.
pub quiet_is_settled : (r k L : ℕ) (steps : List Step) (words logs answers : List ℕ)
    → let after = run_on r k L steps words logs answers in
    after.number ≡ 0 → (i q : ℕ) → i < r → q < k
    → (is_quiet (read_on (part (replica_length r k) after.words i) q) ≡ true) ↔ Settled i (ledger_of r q steps after.answers)
unfolding ledger_of
quiet_is_settled r k L steps words logs answers accepted =
    laws.quiet_settled (theory_run r k L steps words logs answers ((accepted_sizes r k L steps words logs answers).0.0 accepted))

-- A VALUE OF 0. After any list of steps, a counter whose value on a card is 0 is quiet there, or some increment that the card has still to receive is cancelled there
-- already.
pub zero_is_quiet_or_ahead : (r k L : ℕ) (steps : List Step) (words logs answers : List ℕ)
    → let after = run_on r k L steps words logs answers in
    after.number ≡ 0 → (i q : ℕ) → i < r → q < k
    → let read = read_on (part (replica_length r k) after.words i) q in
    read.value ≡ 0 → (is_quiet read ≡ true) ⊎ CancelledAhead i (ledger_of r q steps after.answers)
unfolding ledger_of
zero_is_quiet_or_ahead r k L steps words logs answers accepted =
    laws.zero_quiet (theory_run r k L steps words logs answers ((accepted_sizes r k L steps words logs answers).0.0 accepted))

-- The same three of a run over bytes.
pub quiet_over_bytes : (r k L : ℕ) (bytes words logs answers : List ℕ)
    → let after = run_bytes_on r k L bytes words logs answers in
    after.number ≡ 0 → (i q : ℕ) → i < r → q < k
    → let read = read_on (part (replica_length r k) after.words i) q in
    let ledger = ledger_of r q (steps_of bytes) after.answers in
    ((is_quiet read ≡ true) ↔ EqualSets i ledger) × ((is_quiet read ≡ true) ↔ Settled i ledger)
    × (read.value ≡ 0 → (is_quiet read ≡ true) ⊎ CancelledAhead i ledger)
quiet_over_bytes r k L bytes words logs answers accepted =
    let same = whole_steps r k L bytes words logs answers ((accepted_sizes_over_bytes r k L bytes words logs answers).0.0 accepted).0 in
    let ran = rw same at accepted in
    rw same
    (λ i q hi hq. (
      quiet_is_equal_sets r k L (steps_of bytes) words logs answers ran i q hi hq,
      quiet_is_settled r k L (steps_of bytes) words logs answers ran i q hi hq,
      zero_is_quiet_or_ahead r k L (steps_of bytes) words logs answers ran i q hi hq,
    ))

-- And of a driver's genuine history.
pub quiet_of_calls : (r k : ℕ) → sizes_in_range r k ≡ true → (calls : List Call) → GenuineHistory r k calls → (i q : ℕ) → i < r → q < k
    → let read = read_on ((cards_after r k calls).words i) q in
    let ledger = history_ledger r k calls q in
    ((is_quiet read ≡ true) ↔ EqualSets i ledger) × ((is_quiet read ≡ true) ↔ Settled i ledger)
    × (read.value ≡ 0 → (is_quiet read ≡ true) ⊎ CancelledAhead i ledger)
quiet_of_calls r k right calls genuine i q hi hq =
    let t = theory_history r k right calls genuine in
    (laws.quiet_equal t i q hi hq, laws.quiet_settled t i q hi hq, laws.zero_quiet t i q hi hq)
