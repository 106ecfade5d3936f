-- CLAIMS. What `DriverClaims.same_messages_same_reads` and `all_received_agree` ask for, computed on the definitions: histories after which two cards agree, and one
-- for each thing asked that shows cards which disagree without it.
use Rattle.std.specs.Prelude.{ℕ, zero, suc, ◌<◌, ◌≡◌, refl, ◌↔◌, List, [], ◌∷◌, ◌++◌, Bool, true, false, eqb, length, get_or, replicate}
use Rattle.std.proofs.Common.{inl, inr, arith, ne_eqb}
use Rattle.protocol.proofs.Tables.{put, sum, bits}
use Rattle.protocol.specs.RoundRobin.{IsLink, link, times}
use Rattle.protocol.specs.Entry.{incremented, cleared}
use Rattle.protocol.specs.Chassis.{count_message, present_entries, clear_message, read_value, read_holders}
use Rattle.protocol.proofs.StoreLaws.{cleared_words, taken_words, shown}
use Rattle.protocol.specs.Functions.{bit, with_bit, any_below, all_below, count_below}
use Rattle.protocol.specs.Acceptance.{entry_well_formed, card_well_formed, all_entries, cards_known, increment_plausible, entry_plausible, plausible, tables_well_formed}
use Rattle.wire.specs.Number.{number_at, bytes_of}
use Rattle.wire.specs.Message as form
use Rattle.wire.specs.Message.{header_bytes, increment_bytes, entry_bytes, entries_bytes, clear_bytes, message_bytes, header_in_range, increment_in_range, amount_in_range, clear_in_range, entry_in_range, entries_in_range, unused, in_range, increment_message, entries_at, called_length, message_at, reads}
use Rattle.replica_model.specs.Layout.{N_of, fresh_words}
use Rattle.replica_model.specs.Calls.{sizes_in_range, right, row_well_formed, reading, read_on, count_on, clear_on, replica_fits, send_with, words_after, take_with}
use Rattle.replica_model.specs.Format.{content}
use Rattle.chassis_model.specs.Run.{call_of}
use Rattle.chassis_model.specs.Driver.{Call, count, clear, take, opened, wrote, sent, called, number_of, after, numbers, cards_after, GenuineHistory}
use Rattle.chassis_model.proofs.DriverExamples.{first, second, reading_of}

-- cards i and j have received equally many messages of each card; and equally many altogether
abbrev pub same_messages : ℕ → ℕ → List Call → ℕ → ℕ → Bool
same_messages r k calls i j = all_below r (λ s. eqb (N_of r ((cards_after r k calls).words i) s) (N_of r ((cards_after r k calls).words j) s))

abbrev pub as_many : ℕ → ℕ → List Call → ℕ → ℕ → Bool
as_many r k calls i j = eqb (sum r (N_of r ((cards_after r k calls).words i))) (sum r (N_of r ((cards_after r k calls).words j)))

-- card i has received all that card s has written; and all that every card has
abbrev pub has_all_of : ℕ → ℕ → List Call → ℕ → ℕ → Bool
has_all_of r k calls i s = eqb (N_of r ((cards_after r k calls).words i) s) (length ((cards_after r k calls).written s))

abbrev pub has_all : ℕ → ℕ → List Call → ℕ → Bool
has_all r k calls i = all_below r (has_all_of r k calls i)

-- card i's first message, as card i has written it after the calls
abbrev pub first_of : ℕ → ℕ → ℕ → List Call → List ℕ
first_of r k i calls = get_or ((cards_after r k calls).written i) 0 []

-- Of three cards card 2 counts twice and card 0 once; card 1 takes card 2's first count and clears it.
abbrev pub three : List Call
three =
    let counted = count 2 0 1 (replicate 40 9) ∷ count 2 0 1 (replicate 40 9) ∷ count 0 0 1 (replicate 40 9) ∷ [] in
    counted ++ take 1 (first_of 3 1 2 counted) ∷ clear 1 0 (replicate 48 9) ∷ []

-- Card 1, which has had card 2's count and its own clear, takes card 0's count. Card 0, which has had its own count, takes the clear and then the count that the
-- clear is of. Card 2's second count is under way to both.
abbrev pub other_order : List Call
other_order = three ++ take 1 (first_of 3 1 0 three) ∷ take 0 (first_of 3 1 1 three) ∷ take 0 (first_of 3 1 2 three) ∷ []

-- Card 0 counts, and card 1 clears that; card 0 counts once more before the clear comes. Then each takes what it lacks.
abbrev pub crossing : List Call
crossing = count 0 0 1 (replicate 40 9) ∷ take 1 first ∷ clear 1 0 (replicate 48 9) ∷ count 0 0 1 (replicate 40 9) ∷ []

abbrev pub exchanged : List Call
exchanged = crossing ++ take 0 (first_of 2 1 1 crossing) ∷ take 1 second ∷ []

-- a count that nobody else has received
abbrev pub under_way : List Call
under_way = count 0 0 1 (replicate 40 9) ∷ []

-- of three cards card 2 counts, and card 0 alone receives that
abbrev pub from_a_third : List Call
from_a_third = let counted = count 2 0 1 (replicate 40 9) ∷ [] in counted ++ take 0 (first_of 3 1 2 counted) ∷ []

-- and card 1 clears: one message each, of different cards
abbrev pub one_each : List Call
one_each = from_a_third ++ clear 1 0 (replicate 48 9) ∷ []

-- card 1 accepts a first message of card 0 on counter 0, which card 0 never writes: its own first is on counter 1
abbrev pub forged : List Call
forged = take 1 first ∷ count 0 1 1 (replicate 40 9) ∷ []

pub examples_hold :
    -- the same messages in another order, while both lack one of card 2: both read card 0's count and nothing else
    GenuineHistory 3 1 other_order × (numbers other_order (opened 3 1) ≡ replicate 8 0)
    × (same_messages 3 1 other_order 0 1 ≡ true) × (has_all_of 3 1 other_order 0 2 ≡ false) × (has_all_of 3 1 other_order 1 2 ≡ false)
    × (read_on ((cards_after 3 1 other_order).words 0) 0 ≡ reading_of 1 1 1) × (read_on ((cards_after 3 1 other_order).words 1) 0 ≡ reading_of 1 1 1)
    -- as many messages are not enough, if they are not of the same cards
    × GenuineHistory 3 1 one_each × (as_many 3 1 one_each 0 1 ≡ true) × (same_messages 3 1 one_each 0 1 ≡ false)
    × (read_on ((cards_after 3 1 one_each).words 0) 0 ≡ reading_of 1 4 1) × (read_on ((cards_after 3 1 one_each).words 1) 0 ≡ reading_of 0 0 0)
    -- both have received all, and the second count is there on both
    × GenuineHistory 2 1 exchanged × (numbers exchanged (opened 2 1) ≡ 0 ∷ 0 ∷ 0 ∷ 0 ∷ 0 ∷ 0 ∷ [])
    × (has_all 2 1 exchanged 0 ≡ true) × (has_all 2 1 exchanged 1 ≡ true)
    × (read_on ((cards_after 2 1 exchanged).words 0) 0 ≡ reading_of 1 1 1) × (read_on ((cards_after 2 1 exchanged).words 1) 0 ≡ reading_of 1 1 1)
    -- one card that has received all is not enough
    × GenuineHistory 2 1 under_way × (has_all 2 1 under_way 0 ≡ true) × (has_all 2 1 under_way 1 ≡ false)
    × (read_on ((cards_after 2 1 under_way).words 0) 0 ≡ reading_of 1 1 1) × (read_on ((cards_after 2 1 under_way).words 1) 0 ≡ reading_of 0 0 0)
    -- nor are two that have received all of each other
    × GenuineHistory 3 1 from_a_third
    × (has_all 3 1 from_a_third 0 ≡ true) × (has_all_of 3 1 from_a_third 1 0 ≡ true) × (has_all_of 3 1 from_a_third 1 2 ≡ false)
    × (read_on ((cards_after 3 1 from_a_third).words 0) 0 ≡ reading_of 1 4 1) × (read_on ((cards_after 3 1 from_a_third).words 1) 0 ≡ reading_of 0 0 0)
    -- nor two that have received as many messages as were written, if one was forged
    × (GenuineHistory 2 2 forged → ⊥) × (has_all 2 2 forged 0 ≡ true) × (has_all 2 2 forged 1 ≡ true)
    × (read_on ((cards_after 2 2 forged).words 0) 0 ≡ reading_of 0 0 0) × (read_on ((cards_after 2 2 forged).words 1) 0 ≡ reading_of 1 1 1)
unfolding put sum bits incremented cleared count_message present_entries clear_message read_value read_holders cleared_words taken_words shown number_at bytes_of header_bytes increment_bytes entry_bytes entries_bytes clear_bytes message_bytes header_in_range increment_in_range amount_in_range clear_in_range entry_in_range entries_in_range unused in_range increment_message entries_at called_length message_at reads form.clear_message fresh_words sizes_in_range right replica_fits all_below any_below bit with_bit count_below entry_well_formed card_well_formed row_well_formed tables_well_formed reading read_on send_with words_after count_on clear_on content all_entries cards_known increment_plausible entry_plausible plausible take_with call_of wrote sent called number_of after numbers
examples_hold = (
  (tt, (tt, (tt, (λ _. inl refl, (tt, (λ _. inl refl, (λ _. inl refl, (λ _. inl refl, tt)))))))),
  refl,
  refl,
  refl,
  refl,
  refl,
  refl,
  (tt, (λ _. inl refl, (tt, tt))),
  refl,
  refl,
  refl,
  refl,
  (tt, (λ _. inl refl, (tt, (tt, (λ _. inl refl, (λ _. inr (inl refl), tt)))))),
  refl,
  refl,
  refl,
  refl,
  refl,
  (tt, tt),
  refl,
  refl,
  refl,
  refl,
  (tt, (λ _. inl refl, tt)),
  refl,
  refl,
  refl,
  refl,
  refl,
  λ g. g.0 refl,
  refl,
  refl,
  refl,
  refl,
)

-- The links of two cards, for `resent_agree`.
pub both_links : (i s : ℕ) → (0 < times i s (link 0 1 ∷ link 1 0 ∷ [])) ↔ IsLink 2 i s
unfolding times
both_links zero zero = (λ h. absurd (omega (arith, h)), λ l. absurd (l.2 refl))
both_links zero (suc zero) = (λ h. (omega arith, omega arith, λ e. omega (arith, e)), λ l. omega arith)
both_links (suc zero) zero = (λ h. (omega arith, omega arith, λ e. omega (arith, e)), λ l. omega arith)
both_links (suc zero) (suc zero) = (λ h. absurd (omega (arith, h)), λ l. absurd (l.2 refl))
both_links zero (suc (suc s)) =
    (λ h. let z = rw (ne_eqb (suc (suc s)) 1 (λ e. omega (arith, e))) at h in absurd (omega (arith, z)), λ l. absurd (omega (arith, l.1)))
both_links (suc zero) (suc (suc s)) =
    (λ h. let z = rw (ne_eqb (suc (suc s)) 0 (λ e. omega (arith, e))) at h in absurd (omega (arith, z)), λ l. absurd (omega (arith, l.1)))
both_links (suc (suc i)) s = (
  λ h. let z = rw (ne_eqb (suc (suc i)) 0 (λ e. omega (arith, e)), ne_eqb (suc (suc i)) 1 (λ e. omega (arith, e))) at h in absurd (omega (arith, z)),
  λ l. absurd (omega (arith, l.0)),
)
