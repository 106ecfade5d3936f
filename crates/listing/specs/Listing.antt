-- DEFINITIONS. The listing (SPECIFICATION 9): the bytes that standard input gives on standard output.
use Rattle.std.specs.Prelude.{ℕ, zero, suc, ◌+◌, ◌*◌, ◌/◌, ◌%◌, List, [], ◌∷◌, ◌++◌, Bool, cond, ◌&&◌, length, drop, replicate, leb, eqb}
use Rattle.wire.specs.Number.{int_at}
use Rattle.replica_model.specs.Layout.{replica_length}
use Rattle.replica_model.specs.Calls.{is_quiet, read_on}
use Rattle.replica_model.specs.declared.Reading.{Reading}
use Rattle.chassis_model.specs.ListParts.{part}
use Rattle.chassis_model.specs.Run.{answer_length, step_length, run_bytes_on}
use Rattle.text.specs.Decimal.{decimal}

-- ---- the text

-- "RFC 4180 with CRLF"
abbrev pub comma : List ℕ
comma = 44 ∷ []

abbrev pub crlf : List ℕ
crlf = 13 ∷ 10 ∷ []

-- "opens with the line card,counter,value,holders,quiet"
abbrev pub header : List ℕ
header =
    99 ∷ 97 ∷ 114 ∷ 100 ∷ 44
    ∷ 99 ∷ 111 ∷ 117 ∷ 110 ∷ 116 ∷ 101 ∷ 114 ∷ 44
    ∷ 118 ∷ 97 ∷ 108 ∷ 117 ∷ 101 ∷ 44
    ∷ 104 ∷ 111 ∷ 108 ∷ 100 ∷ 101 ∷ 114 ∷ 115 ∷ 44
    ∷ 113 ∷ 117 ∷ 105 ∷ 101 ∷ 116 ∷ 13 ∷ 10 ∷ []

-- "refused,11 and CRLF"
abbrev pub refused_11 : List ℕ
refused_11 = 114 ∷ 101 ∷ 102 ∷ 117 ∷ 115 ∷ 101 ∷ 100 ∷ 44 ∷ 49 ∷ 49 ∷ 13 ∷ 10 ∷ []

-- "quiet 1 or 0"
abbrev pub quiet : Reading → ℕ
quiet a = cond (is_quiet a) 1 0

-- "decimal numbers, the holder set as a number, quiet 1 or 0"
unfoldable pub line : ℕ → ℕ → Reading → List ℕ
line card counter a =
    decimal card ++ comma ++ decimal counter ++ comma ++ decimal a.value ++ comma ++ decimal a.holders ++ comma ++ decimal (quiet a) ++ crlf

-- "one line for each card and counter, rising": those of the first n counters of a card, and of the first n cards
unfoldable pub card_lines : ℕ → List ℕ → ℕ → List ℕ
card_lines card b zero = []
card_lines card b (suc n) = card_lines card b n ++ line card n (read_on b n)

unfoldable pub lines : ℕ → ℕ → List ℕ → ℕ → List ℕ
lines r k words zero = []
lines r k words (suc n) = lines r k words n ++ card_lines n (part (replica_length r k) words n) k

-- ---- the input

-- "r <= 4, k <= 8, at most 256 steps, L = 4,096"
abbrev pub most_listed_cards : ℕ
most_listed_cards = 4

abbrev pub most_listed_counters : ℕ
most_listed_counters = 8

abbrev pub most_listed_steps : ℕ
most_listed_steps = 256

abbrev pub log_bytes : ℕ
log_bytes = 4096

-- how many bytes r and k take
abbrev pub sizes_length : ℕ
sizes_length = 8

-- "Standard input holds r, k (unsigned ints) and steps"
abbrev pub given_cards : List ℕ → ℕ
given_cards input = int_at input 0

abbrev pub given_counters : List ℕ → ℕ
given_counters input = int_at input 4

abbrev pub given_steps : List ℕ → List ℕ
given_steps input = drop sizes_length input

-- the bytes of the largest right input, and one more, by which a longer one is known
abbrev pub input_bytes : ℕ
input_bytes = sizes_length + step_length * most_listed_steps + 1

-- "Wrong sizes, or fewer than 8 bytes"
unfoldable pub input_right : List ℕ → Bool
input_right input =
    leb sizes_length (length input)
    && leb 1 (given_cards input) && leb (given_cards input) most_listed_cards
    && leb 1 (given_counters input) && leb (given_counters input) most_listed_counters
    && eqb (length (given_steps input) % step_length) 0 && leb (length (given_steps input)) (step_length * most_listed_steps)

-- ---- the listing

-- the run's words: every replica begins fresh, so what they held before does not matter
unfoldable pub run_words : ℕ → ℕ → List ℕ → List ℕ
run_words r k steps =
    (run_bytes_on r k log_bytes steps (replicate (r * replica_length r k) 0) (replicate (r * log_bytes) 0) (replicate (answer_length * (length steps / step_length)) 0)).words

abbrev pub run_listing : ℕ → ℕ → List ℕ → List ℕ
run_listing r k steps = header ++ lines r k (run_words r k steps) r

unfoldable pub listing_of : List ℕ → List ℕ
listing_of input = cond (input_right input) (run_listing (given_cards input) (given_counters input) (given_steps input)) refused_11
