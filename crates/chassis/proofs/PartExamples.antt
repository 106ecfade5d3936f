-- CLAIMS. Why a part's place is fixed and not only its bytes: in a log that holds one message twice, the two have the same bytes, and neither stands for the other.
use Rattle.std.specs.Prelude.{ℕ, ◌≡◌, refl, List, ◌++◌}
use Rattle.std.proofs.Common.{arith}
use Rattle.std.specs.Borrow.{Bor}
use Rattle.wire.specs.Number.{number_at, bytes_of}
use Rattle.wire.specs.Message.{version_2, increment_length, header_bytes, increment_bytes, message_bytes, header_in_range, amount_in_range, increment_in_range, entries_in_range, unused, in_range, increment_message, called_length, message_at, reads, front_length}
use Rattle.chassis_model.specs.Log.{waiting_part, end_of, waiting_span}
use Rattle.chassis.specs.PartOf.{PartOf}

-- card 0's first increment, twice
pub twice : List ℕ
twice = let m = message_bytes (increment_message version_2 0 1 0 1 1 1) in m ++ m

-- The bytes of its two messages are the same, and the second stands behind the first.
pub equal_messages : (waiting_part 1 twice ≡ waiting_part 2 twice) × ((waiting_span 1 twice).start ≡ 0) × ((waiting_span 2 twice).start ≡ increment_length version_2)
unfolding twice header_bytes increment_bytes message_bytes bytes_of number_at header_in_range amount_in_range increment_in_range entries_in_range unused in_range increment_message called_length message_at reads front_length waiting_part end_of waiting_span
equal_messages = (refl, refl, refl)

-- What is handed out as the first is not what is handed out as the second.
pub earlier_refused : (log r : Bor (List ℕ)) → log.now ≡ twice → PartOf log (waiting_span 1 log.now).start (waiting_part 1 log.now) r
    → PartOf log (waiting_span 2 log.now).start (waiting_part 2 log.now) r → ⊥
earlier_refused log r e f g =
    let first : (waiting_span 1 log.now).start ≡ 0 = rw e equal_messages.1 in
    let second : (waiting_span 2 log.now).start ≡ increment_length version_2 = rw e equal_messages.2 in
    omega arith
