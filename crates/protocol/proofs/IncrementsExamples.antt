-- CLAIMS. Small lists, proved by computing them: the increments that a card has received, told from the steps and from which of them were accepted.
use Rattle.std.specs.Prelude.{ℕ, ◌≡◌, refl, true, false, List, [], ◌∷◌, ◌++◌}
use Rattle.protocol.specs.Functions.{put}
use Rattle.protocol.specs.Ledger.{Step, count, clear, deliver}
use Rattle.protocol.specs.Runs.{all_accepted}
use Rattle.protocol.specs.Increments.{increments_from, increments_received}

-- card h has received this many of counter q, where every step was accepted
abbrev pub all_received : ℕ → ℕ → List Step → ℕ
all_received h q ss = increments_received h q ss (all_accepted ss)

-- Its own counts, amounts added up: card 0 has 1 + 3 of counter 0 and 5 of counter 1, card 1 has 7 of counter 0. Nothing was handed over, so card 2 has none.
-- Clears take nothing away.
abbrev pub own_counts : List Step
own_counts = count 0 0 1 ∷ count 0 1 5 ∷ clear 0 0 ∷ count 1 0 7 ∷ count 0 0 3 ∷ clear 1 0 ∷ []

pub own_count_in : (all_received 0 0 own_counts ≡ 4) × (all_received 0 1 own_counts ≡ 5) × (all_received 1 0 own_counts ≡ 7) × (all_received 2 0 own_counts ≡ 0)
unfolding put increments_from
own_count_in = (refl, refl, refl, refl)

-- Card 0 counts 2 and 3, card 1 counts 1. Card 1 is handed both of card 0's: 2 + 3 + 1. Card 2 is handed card 1's and the first of card 0's: 1 + 2; that takes no
-- turn of card 1's. To card 0 nothing is handed over: 2 + 3.
abbrev pub handed_over : List Step
handed_over = count 0 0 2 ∷ deliver 1 0 ∷ count 1 0 1 ∷ deliver 2 1 ∷ count 0 0 3 ∷ deliver 2 0 ∷ deliver 1 0 ∷ []

pub deliveries_bring : (all_received 0 0 handed_over ≡ 5) × (all_received 1 0 handed_over ≡ 6) × (all_received 2 0 handed_over ≡ 3)
unfolding put increments_from
deliveries_bring = (refl, refl, refl)

-- Card 0 counts 5 on counter 1, clears counter 0, then counts 3 and 1 on it. Of counter 0 the first two deliveries bring nothing, but each takes its turn, and the
-- next two bring 3 and 1. Of counter 1 the first brings 5, and the others nothing.
abbrev pub mixed : List Step
mixed = count 0 1 5 ∷ clear 0 0 ∷ count 0 0 3 ∷ count 0 0 1 ∷ deliver 1 0 ∷ []

pub in_turn : (all_received 1 0 mixed ≡ 0) × (all_received 1 1 mixed ≡ 5)
    × (all_received 1 0 (mixed ++ deliver 1 0 ∷ []) ≡ 0) × (all_received 1 1 (mixed ++ deliver 1 0 ∷ []) ≡ 5)
    × (all_received 1 0 (mixed ++ deliver 1 0 ∷ deliver 1 0 ∷ []) ≡ 3) × (all_received 1 1 (mixed ++ deliver 1 0 ∷ deliver 1 0 ∷ []) ≡ 5)
    × (all_received 1 0 (mixed ++ deliver 1 0 ∷ deliver 1 0 ∷ deliver 1 0 ∷ []) ≡ 4)
    × (all_received 1 1 (mixed ++ deliver 1 0 ∷ deliver 1 0 ∷ deliver 1 0 ∷ []) ≡ 5)
unfolding put increments_from
in_turn = (refl, refl, refl, refl, refl, refl, refl, refl)

-- Where the count of 2 and the delivery behind it are declined, each card has 1 + 4: the message that waits keeps its turn. Where all are accepted, each has
-- 1 + 2 + 4.
abbrev pub tried : List Step
tried = count 0 0 1 ∷ count 0 0 2 ∷ deliver 1 0 ∷ deliver 1 0 ∷ count 0 0 4 ∷ deliver 1 0 ∷ []

pub declined_bring_nothing :
    let flags = true ∷ false ∷ false ∷ true ∷ true ∷ true ∷ [] in
    (increments_received 0 0 tried flags ≡ 5) × (increments_received 1 0 tried flags ≡ 5) × (all_received 0 0 tried ≡ 7) × (all_received 1 0 tried ≡ 7)
unfolding put increments_from
declined_bring_nothing = (refl, refl, refl, refl)
