-- CLAIMS. Worked examples, computed: the first increment of SPECIFICATION 10 and what it is in version 2, clears of no entry, of one and of the most, the limits at their edges, and bytes that do not read.
use Rattle.std.specs.Prelude.{◌≡◌, ℕ, zero, suc, ◌+◌, List, [], ◌∷◌, ◌++◌, length, drop, refl}
use Rattle.protocol.specs.Limits.{unreadable}
use Rattle.protocol.specs.declared.ClearEntry.{ClearEntry}
use Rattle.wire.specs.Number.{number_at, bytes_of}
use Rattle.wire.specs.Message.{Message, version_1, version_2, longest_message, message_bytes, header_bytes, increment_bytes, entry_bytes, entries_bytes, clear_bytes, header_in_range, amount_in_range, increment_in_range, clear_in_range, entry_in_range, entries_in_range, unused, in_range, increment_message, clear_message, entries_at, called_length, message_at, reads, read_message, no_message, front_length}

-- "In version 1 it has 36, its version is 1 and it has no amount:
--  00000001 00000001 00000000 0000000000000001 00000000 0000000000000001 00000001"
pub first : List ℕ
first =
    0 ∷ 0 ∷ 0 ∷ 1
    ∷ 0 ∷ 0 ∷ 0 ∷ 1
    ∷ 0 ∷ 0 ∷ 0 ∷ 0
    ∷ 0 ∷ 0 ∷ 0 ∷ 0 ∷ 0 ∷ 0 ∷ 0 ∷ 1
    ∷ 0 ∷ 0 ∷ 0 ∷ 0
    ∷ 0 ∷ 0 ∷ 0 ∷ 0 ∷ 0 ∷ 0 ∷ 0 ∷ 1
    ∷ 0 ∷ 0 ∷ 0 ∷ 1 ∷ []

pub first_written : message_bytes (increment_message version_1 0 1 0 1 1 0) ≡ first
unfolding first message_bytes increment_bytes header_bytes bytes_of increment_message
first_written = refl

pub first_reads : read_message first ≡ record { number = 0; message = increment_message version_1 0 1 0 1 1 0 }
unfolding first read_message reads called_length message_at in_range header_in_range amount_in_range increment_in_range entries_in_range unused number_at increment_message
first_reads = refl

pub first_longer : read_message (first ++ 0 ∷ []) ≡ record { number = unreadable; message = no_message }
unfolding first read_message reads called_length message_at in_range header_in_range amount_in_range increment_in_range entries_in_range unused number_at increment_message
first_longer = refl

pub first_in_front : front_length version_1 (first ++ 7 ∷ 7 ∷ []) ≡ 36
unfolding first front_length reads called_length message_at in_range header_in_range amount_in_range increment_in_range entries_in_range unused number_at increment_message
first_in_front = refl

-- to a reader of version 2 they start with no message
pub first_not_in_front : front_length version_2 (first ++ 7 ∷ 7 ∷ []) ≡ 0
unfolding first front_length reads called_length message_at in_range header_in_range amount_in_range increment_in_range entries_in_range unused number_at increment_message
first_not_in_front = refl

-- the same with the version word 2, and with what follows
pub renamed : List ℕ → List ℕ
renamed rest = 0 ∷ 0 ∷ 0 ∷ 2 ∷ drop 4 first ++ rest

-- "Card 0's first increment on counter 0, in hexadecimal:
--  00000002 00000001 00000000 0000000000000001 00000000 0000000000000001 00000001 00000001"
pub first_2 : List ℕ
first_2 = renamed (0 ∷ 0 ∷ 0 ∷ 1 ∷ [])

pub first_2_written : (message_bytes (increment_message version_2 0 1 0 1 1 1) ≡ first_2) × (length first_2 ≡ 40)
unfolding first renamed first_2 message_bytes increment_bytes header_bytes bytes_of increment_message
first_2_written = (refl, refl)

pub first_2_reads : read_message first_2 ≡ record { number = 0; message = increment_message version_2 0 1 0 1 1 1 }
unfolding first renamed first_2 read_message reads called_length message_at in_range header_in_range amount_in_range increment_in_range entries_in_range unused number_at increment_message
first_2_reads = refl

-- no amount, an amount of 0 and one of 65,536 do not read
abbrev refused : List ℕ → Type 0
refused s = read_message s ≡ record { number = unreadable; message = no_message }

pub first_2_refused : refused (renamed []) × refused (renamed (0 ∷ 0 ∷ 0 ∷ 0 ∷ [])) × refused (renamed (0 ∷ 1 ∷ 0 ∷ 0 ∷ []))
unfolding first renamed read_message reads called_length message_at in_range header_in_range amount_in_range increment_in_range entries_in_range unused number_at increment_message
first_2_refused = (refl, refl, refl)

-- entries (j, j + 1, j + 2) for the cards below n
pub entries_to : ℕ → List ClearEntry
entries_to zero = []
entries_to (suc n) = entries_to n ++ record { card = n; p = n + 1; c = n + 2 } ∷ []

pub a_clear : ℕ → Message
a_clear n = clear_message version_2 3 258 63 (entries_to n)

pub clear_of_none : message_bytes (a_clear 0) ≡ 0 ∷ 0 ∷ 0 ∷ 2 ∷ 0 ∷ 0 ∷ 0 ∷ 2 ∷ 0 ∷ 0 ∷ 0 ∷ 3 ∷ 0 ∷ 0 ∷ 0 ∷ 0 ∷ 0 ∷ 0 ∷ 1 ∷ 2 ∷ 0 ∷ 0 ∷ 0 ∷ 63 ∷ 0 ∷ 0 ∷ 0 ∷ 0 ∷ []
unfolding a_clear entries_to message_bytes clear_bytes header_bytes entries_bytes bytes_of clear_message
clear_of_none = refl

pub clear_of_one : message_bytes (clear_message version_1 11 1 0 (record { card = 2; p = 3; c = 260 } ∷ []))
    ≡ 0 ∷ 0 ∷ 0 ∷ 1 ∷ 0 ∷ 0 ∷ 0 ∷ 2 ∷ 0 ∷ 0 ∷ 0 ∷ 11 ∷ 0 ∷ 0 ∷ 0 ∷ 0 ∷ 0 ∷ 0 ∷ 0 ∷ 1 ∷ 0 ∷ 0 ∷ 0 ∷ 0 ∷ 0 ∷ 0 ∷ 0 ∷ 1
    ∷ 0 ∷ 0 ∷ 0 ∷ 2 ∷ 0 ∷ 0 ∷ 0 ∷ 0 ∷ 0 ∷ 0 ∷ 0 ∷ 3 ∷ 0 ∷ 0 ∷ 0 ∷ 0 ∷ 0 ∷ 0 ∷ 1 ∷ 4 ∷ []
unfolding message_bytes clear_bytes header_bytes entries_bytes entry_bytes bytes_of clear_message
clear_of_one = refl

-- ---- the limits, in both versions

abbrev number_for : Message → ℕ
number_for m = (read_message (message_bytes m)).number

abbrev an_entry : ℕ → List ClearEntry
an_entry card = record { card = card; p = 1; c = 1 } ∷ []

-- "sender (unsigned int, 0 to 11)"
pub senders :
    ((number_for (increment_message version_1 11 1 0 1 1 0) ≡ 0) × (number_for (increment_message version_2 11 1 0 1 1 1) ≡ 0))
    × ((number_for (increment_message version_1 12 1 0 1 1 0) ≡ 6) × (number_for (increment_message version_2 12 1 0 1 1 1) ≡ 6))
    × ((number_for (clear_message version_1 11 1 0 []) ≡ 0) × (number_for (clear_message version_2 11 1 0 []) ≡ 0))
    × ((number_for (clear_message version_1 12 1 0 []) ≡ 6) × (number_for (clear_message version_2 12 1 0 []) ≡ 6))
    × ((number_for (clear_message version_1 15 1 0 []) ≡ 6) × (number_for (clear_message version_2 15 1 0 []) ≡ 6))
unfolding message_bytes increment_bytes clear_bytes header_bytes entries_bytes entry_bytes bytes_of clear_message read_message reads called_length message_at in_range header_in_range amount_in_range increment_in_range clear_in_range entry_in_range entries_in_range unused entries_at number_at increment_message
senders = ((refl, refl), (refl, refl), (refl, refl), (refl, refl), (refl, refl))

-- "card (unsigned int, 0 to 11)"
pub entry_cards :
    ((number_for (clear_message version_1 0 1 0 (an_entry 11)) ≡ 0) × (number_for (clear_message version_2 0 1 0 (an_entry 11)) ≡ 0))
    × ((number_for (clear_message version_1 0 1 0 (an_entry 12)) ≡ 6) × (number_for (clear_message version_2 0 1 0 (an_entry 12)) ≡ 6))
    × ((number_for (clear_message version_1 0 1 0 (an_entry 15)) ≡ 6) × (number_for (clear_message version_2 0 1 0 (an_entry 15)) ≡ 6))
unfolding message_bytes increment_bytes clear_bytes header_bytes entries_bytes entry_bytes bytes_of clear_message read_message reads called_length message_at in_range header_in_range amount_in_range increment_in_range clear_in_range entry_in_range entries_in_range unused entries_at number_at increment_message
entry_cards = ((refl, refl), (refl, refl), (refl, refl))

-- "A clear of 12 entries has 268 bytes and reads; 13 entries do not."
pub clear_of_twelve :
    (read_message (message_bytes (a_clear 12)) ≡ record { number = 0; message = a_clear 12 })
    × (length (message_bytes (a_clear 12)) ≡ 268)
    × (longest_message ≡ 268)
    × refused (message_bytes (a_clear 13))
unfolding a_clear entries_to message_bytes clear_bytes header_bytes entries_bytes entry_bytes bytes_of clear_message read_message reads called_length message_at in_range header_in_range clear_in_range entry_in_range entries_in_range unused entries_at number_at increment_message
clear_of_twelve = (refl, refl, refl, refl)
