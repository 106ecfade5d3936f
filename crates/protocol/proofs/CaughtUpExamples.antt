-- CLAIMS. Request 2026-14 on small lists, proved by computing them: whether a card is caught up, what it reads, and the number in the plain sense. The first three
-- are of cards that are not caught up, where the two numbers differ, either way, and where they do not; then the same lists taken so far that the card is.
use Rattle.std.specs.Prelude.{ℕ, ◌≡◌, refl, Bool, true, false, cond, not, ◌&&◌, List, [], ◌∷◌, ◌++◌, map, eqb}
use Rattle.protocol.proofs.Tables.{put, sum}
use Rattle.protocol.specs.Entry.{incremented, cleared}
use Rattle.protocol.specs.Names.{has, latest}
use Rattle.protocol.specs.Ledger.{Step, count, clear, deliver}
use Rattle.protocol.specs.Chassis.{Offer, cleared_row, taken, count_message, present_entries, clear_message, issued, delivered, done, enabled, stepped, run, answers, read_value}
use Rattle.protocol.specs.Runs.{after_run}
use Rattle.protocol.specs.History.{some_of, all_of, total, received_by, made_by, next_received, extended, recorded, history_after, caught_up, plainly_cleared, plain_value}

pub record Reading : Type 0 where
  pub cards : ℕ
  pub steps : List Step
  pub card : ℕ
  pub counter : ℕ
  pub caught : Bool
  pub value : ℕ
  pub plain : ℕ

abbrev same_test : Bool → Bool → Bool
same_test a b = cond a b (not b)

abbrev offered : List Step → List Offer
offered ss = map (λ s. record { step = s; willing = true }) ss

holds_good : Reading → Bool
holds_good o =
    let os = offered o.steps in
    let h = history_after o.cards os in
    same_test (caught_up o.card h) o.caught
    && eqb (read_value o.cards o.counter ((after_run o.cards os).replica o.card)) o.value
    && eqb (plain_value o.counter o.card h) o.plain

pub all_good : List Reading → Bool
all_good [] = true
all_good (o ∷ os) = holds_good o && all_good os

-- cards, steps, card, counter, caught up, value, plain value
abbrev reading : ℕ → List Step → ℕ → ℕ → Bool → ℕ → ℕ → Reading
reading r ss i q c v p = record { cards = r; steps = ss; card = i; counter = q; caught = c; value = v; plain = p }

-- Card 2 has both of card 0's increments, but not card 1's clear, which card 0 had received before it made the second.
ahead_of_clear : List Step
ahead_of_clear = count 0 0 1 ∷ deliver 1 0 ∷ deliver 2 0 ∷ clear 1 0 ∷ deliver 0 1 ∷ count 0 0 1 ∷ deliver 2 0 ∷ []

-- Card 2 has card 0's increment and card 0's clear, which has no entries, since card 0 had received card 1's clear before: that one card 2 does not have.
after_other_clear : List Step
after_other_clear = count 0 0 1 ∷ deliver 1 0 ∷ deliver 2 0 ∷ clear 1 0 ∷ deliver 0 1 ∷ clear 0 0 ∷ deliver 2 0 ∷ []

-- What card 2 lacks is of another counter.
other_counter : List Step
other_counter = count 0 1 1 ∷ deliver 1 0 ∷ count 1 0 1 ∷ deliver 2 1 ∷ []

-- Card 0 counts 3 while card 1, which has not received them, clears its own 5.
concurrent : List Step
concurrent = count 1 0 5 ∷ count 0 0 3 ∷ clear 1 0 ∷ deliver 2 0 ∷ deliver 2 1 ∷ deliver 2 1 ∷ []

pub readings : List Reading
readings =
    reading 3 ahead_of_clear 2 0 false 1 2
    ∷ reading 3 after_other_clear 2 0 false 1 0
    ∷ reading 3 other_counter 2 0 false 1 1
    ∷ reading 3 (ahead_of_clear ++ deliver 2 1 ∷ []) 2 0 true 1 1
    ∷ reading 3 (after_other_clear ++ deliver 2 1 ∷ []) 2 0 true 0 0
    ∷ reading 3 (other_counter ++ deliver 2 0 ∷ []) 2 0 true 1 1
    ∷ reading 3 concurrent 2 0 true 3 3
    -- the makers themselves: card 0 has not received the clear, and card 1 has not received card 0's increment
    ∷ reading 3 concurrent 0 0 true 3 3
    ∷ reading 3 concurrent 1 0 true 0 0
    -- a clear of another counter
    ∷ reading 2 (count 0 0 1 ∷ clear 0 1 ∷ deliver 1 0 ∷ deliver 1 0 ∷ []) 1 0 true 1 1
    -- declined steps make no message: a delivery where nothing waits, a count by a card that is not there
    ∷ reading 2 (count 1 0 2 ∷ deliver 0 1 ∷ deliver 0 1 ∷ clear 0 0 ∷ count 1 0 2 ∷ deliver 0 1 ∷ []) 0 0 true 2 2
    ∷ reading 2 (count 2 0 1 ∷ []) 2 0 true 0 0
    ∷ []

pub readings_hold : all_good readings ≡ true
unfolding all_good holds_good readings ahead_of_clear after_other_clear other_counter concurrent put sum incremented cleared has latest cleared_row taken count_message present_entries clear_message issued delivered done enabled stepped run answers read_value some_of all_of total received_by made_by next_received extended recorded caught_up plainly_cleared plain_value
readings_hold = refl
