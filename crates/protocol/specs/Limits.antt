-- DEFINITIONS. The limits and the refusal numbers (SPECIFICATION 1.1, 5.1).
use Rattle.std.specs.Prelude.{ℕ}

-- "MAX = 281,474,976,710,655 (2^48 - 1)."
abbrev pub MAX : ℕ
MAX = 281474976710655

-- "r cards, 1 to 12; k counters, 1 to 64; cards and counters numbered from 0."
abbrev pub most_cards : ℕ
most_cards = 12

abbrev pub most_counters : ℕ
most_counters = 64

-- "an amount, 1 to 65,535"
abbrev pub most_amount : ℕ
most_amount = 65535

-- "Replica length, r, k or own card wrong"
abbrev pub bad_replica : ℕ
bad_replica = 1

-- "Row not well-formed"
abbrev pub bad_row : ℕ
bad_row = 2

-- "Counter not below k"
abbrev pub bad_counter : ℕ
bad_counter = 3

-- "Own N = MAX, or own C + w above MAX"
abbrev pub exhausted : ℕ
exhausted = 4

-- "Output shorter than the message, or than the converted log"
abbrev pub short_output : ℕ
short_output = 5

-- "Bytes do not read, a message to write is out of range, or a log is not messages of its version end to end"
abbrev pub unreadable : ℕ
unreadable = 6

-- "Sender or entry card not below r, or sender is the own card"
abbrev pub bad_card : ℕ
bad_card = 7

-- "Sequence <= N[sender]"
abbrev pub repeated : ℕ
repeated = 8

-- "Sequence > N[sender] + 1"
abbrev pub early : ℕ
early = 9

-- "Implausible message"
abbrev pub implausible : ℕ
implausible = 10

-- "Chassis sizes wrong"
abbrev pub bad_sizes : ℕ
bad_sizes = 11

-- "No such step kind"
abbrev pub bad_kind : ℕ
bad_kind = 12

-- "No message waiting"
abbrev pub nothing_waiting : ℕ
nothing_waiting = 13

-- "Log too short for the message"
abbrev pub log_full : ℕ
log_full = 14

-- "A log that does not begin with its card's messages, or a receiver's N above its sender's"
abbrev pub bad_log : ℕ
bad_log = 15

-- "Amount out of range, or not 0 in a step that does not count"
abbrev pub bad_amount : ℕ
bad_amount = 16

-- "A w above 1 on the way to version 1"
abbrev pub above_one : ℕ
above_one = 17
