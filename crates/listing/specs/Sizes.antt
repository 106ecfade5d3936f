-- LAWS. What the contracts of the inner functions cite: the most bytes of each part of a listing, the numbers of a line, and the sizes of a run that can be listed.
use Rattle.std.specs.Prelude.{ℕ, ◌+◌, ◌*◌, ◌^◌, ◌≤◌, ◌<◌, List, length}
use Rattle.replica_model.specs.Layout.{replica_length}
use Rattle.replica_model.specs.declared.Reading.{Reading}
use Rattle.text.specs.Put.{most_digits}
use Rattle.chassis_model.specs.Run.{step_length}
use Rattle.listing.specs.Listing.{comma, crlf, header, most_listed_cards, most_listed_counters, most_listed_steps}

-- ---- the most bytes

-- of a number and its comma
abbrev pub field_bytes : ℕ
field_bytes = most_digits + length comma

-- of a line: four of these, a number and the line end
abbrev pub line_bytes : ℕ
line_bytes = 4 * field_bytes + (most_digits + length crlf)

-- of a card's lines
abbrev pub card_bytes : ℕ
card_bytes = line_bytes * most_listed_counters

-- of a listing: the header and the lines of every card
abbrev pub listing_bytes : ℕ
listing_bytes = length header + card_bytes * most_listed_cards

-- ---- the numbers

-- of a line: numbers that can be written
pub record Writable (card counter : ℕ) (a : Reading) : Type 0 where
  pub card_small : card < 10 ^ most_digits
  pub counter_small : counter < 10 ^ most_digits
  pub value_small : a.value < 10 ^ most_digits
  pub holders_small : a.holders < 10 ^ most_digits

-- ---- the sizes

-- of a run that can be listed
pub record Listable (r k : ℕ) (steps : List ℕ) : Type 0 where
  pub cards : r ≤ most_listed_cards
  pub counters : k ≤ most_listed_counters
  pub few : length steps ≤ step_length * most_listed_steps

-- the words of the largest such run
abbrev pub most_words : ℕ
most_words = most_listed_cards * replica_length most_listed_cards most_listed_counters
