-- CLAIMS. What a caller relies on of the active counters, beyond the call's own equation (`Calls`).
use Rattle.std.specs.Prelude.{ℕ, ◌^◌, ◌≤◌, ◌<◌, ◌≡◌, refl, List, true, false, not, eqb, length}
use Rattle.std.proofs.Common.{◌∙◌, arith, lt-ltb}
use Rattle.protocol.specs.Limits.{bad_replica, bad_row}
use Rattle.protocol.proofs.BitLaws.{bit_above, high_bit}
use Rattle.protocol.specs.Checks.{Decided}
use Rattle.protocol.proofs.ChecksLaws.{refusal_given}
use Rattle.protocol.specs.Chassis.{counter_of}
use Rattle.wire.specs.Message.{version_2, message_at, reads}
use Rattle.replica_model.specs.Layout.{head_of, counters, active_word, active_of, fresh_words}
use Rattle.replica_model.specs.Format.{content, format_2}
use Rattle.replica_model.specs.Calls.{right, row_well_formed, is_amount, no_reading, read_on, active_checks, no_active, active_on, not_sent, count_on, clear_on, with_value, read_and_clear_on, not_taken, take_on}
use Rattle.replica_model.specs.ClaimTerms.{Sizes, MarkedIn}
use Rattle.replica_model.proofs.RowLaws.{right_facts, row_facts, row_unmarked}
use Rattle.replica_model.proofs.Receivers.{content_counter}
use Rattle.replica_model.proofs.CallsLaws.{read_decided, read_accepted, count_decided, clear_decided, read_and_clear_decided, take_decided}
use Rattle.replica_model.specs.Active.{CardCall, after_calls, active_by_reading}
use Rattle.replica_model.proofs.ActiveLaws.{active_decided, word_alone, bit_read, high_wrong, sound_answers, reached_sound}

-- The call gives 1 or the word, and is exact: it is refused exactly where the replica is not right.
pub active_exact : (b : List ℕ) → Decided (λ o. o.number) no_active (active_checks b) (record { number = 0; counters = active_word b }) (active_on b)
active_exact = active_decided

-- "from that word alone": what stands behind the first four words has no part in it.
pub active_from_head : (b b' : List ℕ) → length b' ≡ length b → head_of b' ≡ head_of b → active_word b' ≡ active_word b → active_on b' ≡ active_on b
active_from_head = word_alone

-- For every replica reached from a fresh one by the card's calls, with any arguments and any bytes, accepted or refused: every read is accepted, and the call answers
-- the set of the counters whose read gives holders.
pub active_is_read : (r k own : ℕ) → Sizes r k → own < r → (cs : List CardCall)
    → let b = after_calls cs (fresh_words r k own) in
    ((q : ℕ) → q < counters b → (read_on b q).number ≡ 0) × (active_on b ≡ record { number = 0; counters = active_by_reading b })
active_is_read r k own s o cs =
    let b = after_calls cs (fresh_words r k own) in
    let h = reached_sound r k own s o cs in
    (λ q l. read_accepted b q h.whole l (h.rows q l), sound_answers b h)

-- Of one counter, in every right replica, reached or not: where its row is well-formed, its bit is one exactly if a read of it gives holders.
pub active_bit : (b : List ℕ) (q : ℕ) → right b ≡ true → q < counters b → row_well_formed b q ≡ true → active_of b q ≡ not (eqb (read_on b q).holders 0)
active_bit b q h l w = bit_read b q (right_facts b h) l (row_facts b q w)

-- A row whose bit disagrees is 2: to read, to count by an amount in range, to clear and to read-and-clear, whatever the output, and to take of a message that reads.
pub unmarked_refused : (b : List ℕ) (q : ℕ) → right b ≡ true → q < counters b → (MarkedIn b q → ⊥)
    → (read_on b q ≡ no_reading bad_row)
    × ((w : ℕ) (out : List ℕ) → is_amount w ≡ true → count_on b q w out ≡ not_sent bad_row b out)
    × ((out : List ℕ) → clear_on b q out ≡ not_sent bad_row b out)
    × ((out : List ℕ) → read_and_clear_on b q out ≡ with_value 0 (not_sent bad_row b out))
    × ((bytes : List ℕ) → reads version_2 bytes ≡ true → (message_at version_2 bytes).counter ≡ q → take_on b bytes ≡ not_taken bad_row b)
unmarked_refused b q h l apart =
    let below = lt-ltb q (counters b) l in
    let formed = row_unmarked b q apart in (
      refusal_given (read_decided b q) bad_row (λ e. omega arith) (h, (below, formed)),
      λ w out asked. refusal_given (count_decided b q w out) bad_row (λ e. omega arith) (h, (below, (asked, formed))),
      λ out. refusal_given (clear_decided b q out) bad_row (λ e. omega arith) (h, (below, (refl, formed))),
      λ out. refusal_given (read_and_clear_decided b q out) bad_row (λ e. omega arith) (h, (below, (refl, formed))),
      λ bytes good names.
          let same : counter_of (content (message_at version_2 bytes)) ≡ q = content_counter (message_at version_2 bytes) ∙ names in
          refusal_given (take_decided format_2 b bytes) bad_row (λ e. omega arith) (h, (good, rw same (below, formed))),
    )

-- A one at bit k or above makes the word 2^k or more, and in a right replica there is none.
pub high_bit_is : (b : List ℕ) (q : ℕ) → counters b ≤ q → (active_of b q ≡ true → 2 ^ counters b ≤ active_word b) × (right b ≡ true → active_of b q ≡ false)
high_bit_is b q l = (high_bit (active_word b) (counters b) q l, λ h. bit_above (active_word b) (counters b) q (right_facts b h).low l)

-- A one at bit k or above is 1 to this call and to every other that looks at one card's replica, whatever else it is handed.
pub high_bit_refused : (b : List ℕ) → 2 ^ counters b ≤ active_word b
    → (active_on b ≡ no_active bad_replica)
    × ((q : ℕ) → read_on b q ≡ no_reading bad_replica)
    × ((q w : ℕ) (out : List ℕ) → count_on b q w out ≡ not_sent bad_replica b out)
    × ((q : ℕ) (out : List ℕ) → clear_on b q out ≡ not_sent bad_replica b out)
    × ((q : ℕ) (out : List ℕ) → read_and_clear_on b q out ≡ with_value 0 (not_sent bad_replica b out))
    × ((bytes : List ℕ) → take_on b bytes ≡ not_taken bad_replica b)
high_bit_refused b high =
    let wrong = high_wrong b high in (
      refusal_given (active_decided b) bad_replica (λ e. omega arith) wrong,
      λ q. refusal_given (read_decided b q) bad_replica (λ e. omega arith) wrong,
      λ q w out. refusal_given (count_decided b q w out) bad_replica (λ e. omega arith) wrong,
      λ q out. refusal_given (clear_decided b q out) bad_replica (λ e. omega arith) wrong,
      λ q out. refusal_given (read_and_clear_decided b q out) bad_replica (λ e. omega arith) wrong,
      λ bytes. refusal_given (take_decided format_2 b bytes) bad_replica (λ e. omega arith) wrong,
    )
