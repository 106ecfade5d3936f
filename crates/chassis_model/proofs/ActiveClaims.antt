-- CLAIMS. Which counters are active: of a run, over the words that it leaves, of a run and any calls of deliver_pending behind it, and of a driver's history over any
-- network that forges nothing. A console polls by one call in place of a read of every counter, so none that has holders may be missing, and none be there that is quiet.
-- (Of one card alone, whatever it is handed: `active_is_read` of `replica_model`.)
use Rattle.std.specs.Prelude.{ℕ, ◌*◌, ◌<◌, ◌≡◌, true, List, length, replicate}
use Rattle.std.proofs.Common.{ap}
use Rattle.std.proofs.lemmas.List.{length-replicate}
use Rattle.replica_model.specs.Layout.{replica_length}
use Rattle.replica_model.specs.Calls.{sizes_in_range}
use Rattle.chassis_model.specs.ListParts.{part}
use Rattle.chassis_model.specs.Run.{Step, answer_length, run_on, steps_of, run_bytes_on}
use Rattle.chassis_model.specs.Ledger.{ledger_of}
use Rattle.chassis_model.specs.Driver.{Call, cards_after, GenuineHistory, history_ledger}
use Rattle.chassis_model.specs.ActiveOf.{ActiveAre}
use Rattle.chassis_model.proofs.PendingClaims as pending
use Rattle.chassis_model.proofs.RunLaws.{accepted_sizes, whole_steps, accepted_sizes_over_bytes}
use Rattle.chassis_model.proofs.Theorem.{theory_run}
use Rattle.chassis_model.proofs.DriverTheorem.{theory_history}
use Rattle.chassis_model.proofs.ActiveOfLaws.{active_are}

-- After any list of steps, on every card.
pub active_of_run : (r k L : ℕ) (steps : List Step) (words logs answers : List ℕ)
    → let after = run_on r k L steps words logs answers in
    after.number ≡ 0 → (i : ℕ) → i < r
    → ActiveAre r k i (part (replica_length r k) after.words i) (λ q. ledger_of r q steps after.answers)
unfolding ledger_of
active_of_run r k L steps words logs answers accepted =
    active_are (theory_run r k L steps words logs answers ((accepted_sizes r k L steps words logs answers).0.0 accepted))

-- The same of a run over bytes.
pub active_over_bytes : (r k L : ℕ) (bytes words logs answers : List ℕ)
    → let after = run_bytes_on r k L bytes words logs answers in
    after.number ≡ 0 → (i : ℕ) → i < r
    → ActiveAre r k i (part (replica_length r k) after.words i) (λ q. ledger_of r q (steps_of bytes) after.answers)
active_over_bytes r k L bytes words logs answers accepted =
    let same = whole_steps r k L bytes words logs answers ((accepted_sizes_over_bytes r k L bytes words logs answers).0.0 accepted).0 in
    rw same (active_of_run r k L (steps_of bytes) words logs answers (rw same at accepted))

-- After a run and any calls of deliver_pending behind it, each with its own b (`bs`).
pub active_after_calls : (r k L : ℕ) (steps : List Step) (words logs answers : List ℕ) (accepted : (run_on r k L steps words logs answers).number ≡ 0) (bs : List ℕ) (i : ℕ)
    → i < r
    → ActiveAre r k i (part (replica_length r k) (pending.now r k L steps words logs answers accepted bs).words i)
    (λ q. ledger_of r q (pending.all_steps r k L steps words logs answers accepted bs) (pending.all_answers r k L steps words logs answers accepted bs))
active_after_calls r k L steps words logs answers accepted bs i hi =
    let whole = pending.all_steps r k L steps words logs answers accepted bs in
    let blank : List ℕ = replicate (answer_length * length whole) 0 in
    let one_run = pending.run_and_calls r k L steps words logs answers accepted bs blank (length-replicate (answer_length * length whole) 0) in
    rw one_run at (active_of_run r k L whole words logs blank (ap (λ o. o.number) one_run) i hi)

-- After every genuine history of a driver's calls.
pub active_of_calls : (r k : ℕ) → sizes_in_range r k ≡ true → (calls : List Call) → GenuineHistory r k calls → (i : ℕ) → i < r
    → ActiveAre r k i ((cards_after r k calls).words i) (history_ledger r k calls)
active_of_calls r k right calls genuine = active_are (theory_history r k right calls genuine)
