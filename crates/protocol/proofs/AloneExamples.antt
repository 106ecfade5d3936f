-- CLAIMS. Small lists of steps and what is left of them for one counter, proved by computing them.
use Rattle.std.specs.Prelude.{ℕ, ◌≡◌, refl, true, List, [], ◌∷◌, map}
use Rattle.protocol.proofs.Tables.{put}
use Rattle.protocol.specs.Entry.{incremented, cleared}
use Rattle.protocol.specs.Ledger.{Step, count, clear, deliver}
use Rattle.protocol.specs.Chassis.{cleared_row, taken, count_message, present_entries, clear_message, issued, delivered, done, enabled, stepped, run, answers}
use Rattle.protocol.specs.Runs.{step_of}
use Rattle.protocol.specs.Alone.{turned, turn_of, belongs_by_turns, own_steps, alone}

-- the steps of counter q that are left, all steps of the list being willing, on a chassis of 3 cards
abbrev pub left : ℕ → List Step → List Step
left q ss = map step_of (alone 3 q (map (λ s. record { step = s; willing = true }) ss))

-- Counts of two counters on one link; an empty clear of counter 1, delivered too; deliveries that are declined, since nothing waits or the card is its own.
abbrev pub mixed : List Step
mixed =
    deliver 1 0 ∷ count 0 0 1 ∷ count 0 1 2 ∷ clear 2 1 ∷ deliver 1 0 ∷ deliver 2 0 ∷ deliver 1 1 ∷ clear 1 0 ∷ deliver 1 0 ∷ deliver 0 2 ∷ deliver 1 0
    ∷ deliver 2 0 ∷ clear 3 1 ∷ []

pub left_of_mixed : (left 0 mixed ≡ count 0 0 1 ∷ deliver 1 0 ∷ deliver 2 0 ∷ clear 1 0 ∷ [])
    × (left 1 mixed ≡ count 0 1 2 ∷ clear 2 1 ∷ deliver 1 0 ∷ deliver 0 2 ∷ deliver 2 0 ∷ [])
    × (left 2 mixed ≡ [])
unfolding turned turn_of belongs_by_turns own_steps put incremented cleared cleared_row taken count_message present_entries clear_message issued delivered done enabled stepped run answers
left_of_mixed = (refl, refl, refl)
