-- CLAIMS. A capture of three messages of version 1, computed: what it is in version 2 and back, what is refused, and in which order.
use Rattle.std.specs.Prelude.{ℕ, ◌≡◌, refl, List, [], ◌∷◌, ◌++◌, drop, take, replicate}
use Rattle.protocol.specs.Limits.{short_output, unreadable, above_one}
use Rattle.wire.specs.Number.{number_at, bytes_of}
use Rattle.wire.specs.Message.{header_bytes, increment_bytes, entry_bytes, entries_bytes, clear_bytes, message_bytes, header_in_range, increment_in_range, amount_in_range, clear_in_range, entry_in_range, entries_in_range, unused, in_range, increment_message, clear_message, entries_at, called_length, message_at, reads, front_length, log_bytes, messages_from, write_declined}
use Rattle.conversion.specs.Conversion.{in_version, converted, all_by_one, to_version_2_on, to_version_1_on}

-- what stands behind the version word of card 0's first increment on counter 0, of card 1's clear of it, and of card 0's second
behind_first : List ℕ
behind_first =
    0 ∷ 0 ∷ 0 ∷ 1 ∷ 0 ∷ 0 ∷ 0 ∷ 0 ∷ 0 ∷ 0 ∷ 0 ∷ 0 ∷ 0 ∷ 0 ∷ 0 ∷ 1 ∷ 0 ∷ 0 ∷ 0 ∷ 0
    ∷ 0 ∷ 0 ∷ 0 ∷ 0 ∷ 0 ∷ 0 ∷ 0 ∷ 1 ∷ 0 ∷ 0 ∷ 0 ∷ 1 ∷ []

behind_clear : List ℕ
behind_clear =
    0 ∷ 0 ∷ 0 ∷ 2 ∷ 0 ∷ 0 ∷ 0 ∷ 1 ∷ 0 ∷ 0 ∷ 0 ∷ 0 ∷ 0 ∷ 0 ∷ 0 ∷ 1 ∷ 0 ∷ 0 ∷ 0 ∷ 0
    ∷ 0 ∷ 0 ∷ 0 ∷ 1 ∷ 0 ∷ 0 ∷ 0 ∷ 0 ∷ 0 ∷ 0 ∷ 0 ∷ 0 ∷ 0 ∷ 0 ∷ 0 ∷ 1 ∷ 0 ∷ 0 ∷ 0 ∷ 0 ∷ 0 ∷ 0 ∷ 0 ∷ 1 ∷ []

behind_second : List ℕ
behind_second =
    0 ∷ 0 ∷ 0 ∷ 1 ∷ 0 ∷ 0 ∷ 0 ∷ 0 ∷ 0 ∷ 0 ∷ 0 ∷ 0 ∷ 0 ∷ 0 ∷ 0 ∷ 2 ∷ 0 ∷ 0 ∷ 0 ∷ 0
    ∷ 0 ∷ 0 ∷ 0 ∷ 0 ∷ 0 ∷ 0 ∷ 0 ∷ 2 ∷ 0 ∷ 0 ∷ 0 ∷ 0 ∷ []

version : ℕ → List ℕ
version x = 0 ∷ 0 ∷ 0 ∷ x ∷ []

amount : ℕ → List ℕ
amount x = 0 ∷ 0 ∷ 0 ∷ x ∷ []

-- 36 + 48 + 36 bytes, and 40 + 48 + 40; the second increment by w
pub capture : List ℕ
capture = version 1 ++ behind_first ++ version 1 ++ behind_clear ++ version 1 ++ behind_second

pub upgraded : ℕ → List ℕ
upgraded w = version 2 ++ behind_first ++ amount 1 ++ version 2 ++ behind_clear ++ version 2 ++ behind_second ++ amount w

-- to version 2: 128 bytes are enough, past them nothing changes, 127 are too few; the bytes of version 2, two versions mixed, a byte more and a byte less are 6, whatever the room
pub goes_up : to_version_2_on capture (replicate 130 7) ≡ record { answer = record { number = 0; length = 128 }; out = upgraded 1 ++ 7 ∷ 7 ∷ [] }
unfolding capture upgraded behind_first behind_clear behind_second version amount to_version_2_on converted in_version log_bytes messages_from front_length reads called_length message_at in_range header_in_range amount_in_range increment_in_range clear_in_range entry_in_range entries_in_range unused entries_at number_at bytes_of increment_message clear_message message_bytes header_bytes increment_bytes clear_bytes entries_bytes entry_bytes
goes_up = refl

pub up_too_short : to_version_2_on capture (replicate 127 7) ≡ write_declined short_output (replicate 127 7)
unfolding capture behind_first behind_clear behind_second version to_version_2_on converted in_version log_bytes messages_from front_length reads called_length message_at in_range header_in_range amount_in_range increment_in_range clear_in_range entry_in_range entries_in_range unused entries_at number_at bytes_of increment_message clear_message message_bytes header_bytes increment_bytes clear_bytes entries_bytes entry_bytes
up_too_short = refl

abbrev up_6 : List ℕ → Type 0
up_6 s = to_version_2_on s [] ≡ write_declined unreadable []

pub not_up : up_6 (upgraded 1) × up_6 (capture ++ upgraded 1) × up_6 (capture ++ 0 ∷ []) × up_6 (take 119 capture) × up_6 (drop 1 capture)
unfolding capture upgraded behind_first behind_clear behind_second version amount to_version_2_on converted in_version log_bytes messages_from front_length reads called_length message_at in_range header_in_range amount_in_range increment_in_range clear_in_range entry_in_range entries_in_range unused entries_at number_at bytes_of increment_message clear_message message_bytes header_bytes increment_bytes clear_bytes entries_bytes entry_bytes
not_up = (refl, refl, refl, refl, refl)

-- to version 1: 120 bytes are enough; 6 comes before 17, and 17 before 5
pub goes_down : to_version_1_on (upgraded 1) (replicate 121 7) ≡ record { answer = record { number = 0; length = 120 }; out = capture ++ 7 ∷ [] }
unfolding capture upgraded behind_first behind_clear behind_second version amount to_version_1_on converted all_by_one in_version log_bytes messages_from front_length reads called_length message_at in_range header_in_range amount_in_range increment_in_range clear_in_range entry_in_range entries_in_range unused entries_at number_at bytes_of increment_message clear_message message_bytes header_bytes increment_bytes clear_bytes entries_bytes entry_bytes
goes_down = refl

abbrev down_to : ℕ → List ℕ → ℕ → Type 0
down_to number s room = to_version_1_on s (replicate room 7) ≡ write_declined number (replicate room 7)

pub not_down : down_to short_output (upgraded 1) 119 × down_to above_one (upgraded 2) 119 × down_to above_one (upgraded 2) 121 × down_to unreadable (upgraded 2 ++ 0 ∷ []) 121 × down_to unreadable (upgraded 0) 121 × down_to unreadable capture 121
unfolding capture upgraded behind_first behind_clear behind_second version amount to_version_1_on converted all_by_one in_version log_bytes messages_from front_length reads called_length message_at in_range header_in_range amount_in_range increment_in_range clear_in_range entry_in_range entries_in_range unused entries_at number_at bytes_of increment_message clear_message message_bytes header_bytes increment_bytes clear_bytes entries_bytes entry_bytes
not_down = (refl, refl, refl, refl, refl, refl)
