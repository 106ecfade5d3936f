-- DEFINITIONS. How many increments of a counter a card has received, its own included, told from a list of steps and which of them were accepted, and from nothing
-- else: the card's own counts of the counter, and the increments of it that are handed over to the card.
use Rattle.std.specs.Prelude.{ℕ, ◌+◌, Bool, cond, ◌&&◌, List, [], ◌∷◌, ◌++◌, eqb, get_or, drop}
use Rattle.protocol.specs.Functions.{put}
use Rattle.protocol.specs.Ledger.{Step, count, clear, deliver}

-- Of each card, its messages that are still under way to card h, in the order made: how many increments of q each of them is. A count of q is as many as its
-- amount, every other message none.
abbrev pub UnderWay : Type 0
UnderWay = ℕ → List ℕ

-- card i has made a message that is w increments of q
abbrev pub sent_off : ℕ → ℕ → UnderWay → UnderWay
sent_off i w way = put i (way i ++ w ∷ []) way

-- what is under way to card h after an accepted step. "a link hands over its sender's accepted counts and clears, of all counters, in the order made"
abbrev pub way_after : ℕ → ℕ → Step → UnderWay → UnderWay
way_after h q (count i c w) way = sent_off i (cond (eqb c q) w 0) way
way_after h q (clear i c) way = sent_off i 0 way
way_after h q (deliver i s) way = cond (eqb i h) (put s (drop 1 (way s)) way) way

-- how many increments of q an accepted step brings to card h: its own count, or what a delivery hands over to it
abbrev pub brought : ℕ → ℕ → Step → UnderWay → ℕ
brought h q (count i c w) way = cond (eqb i h && eqb c q) w 0
brought h q (clear i c) way = 0
brought h q (deliver i s) way = cond (eqb i h) (get_or (way s) 0 0) 0

-- the list's steps, and of each whether it was accepted
unfoldable pub increments_from : ℕ → ℕ → List Step → List Bool → UnderWay → ℕ
increments_from h q [] fs way = 0
increments_from h q (s ∷ ss) [] way = 0
increments_from h q (s ∷ ss) (a ∷ fs) way = cond a (brought h q s way + increments_from h q ss fs (way_after h q s way)) (increments_from h q ss fs way)

-- "the increments of that counter it has received, its own included"
abbrev pub increments_received : ℕ → ℕ → List Step → List Bool → ℕ
increments_received h q ss fs = increments_from h q ss fs (λ s. [])
