-- CLAIMS. Small ledgers, proved by computing them: two counters on one link, which of them each delivery belongs to, and what it changes.
use Rattle.std.specs.Prelude.{ℕ, ◌≡◌, refl, Bool, true, false, List, [], ◌∷◌, ◌++◌, map}
use Rattle.protocol.specs.Functions.{put, sum, bits}
use Rattle.protocol.specs.Names.{name, has, insert, join, names_after, tally, any, latest, beyond}
use Rattle.protocol.specs.Ledger.{Step, count, clear, deliver, nothing, Ledger, empty_ledger, count_item, holds, clear_names, next_item, rest_items, turn_is, belongs, applied, handed, sent, made, after_accepted, after_step, after_steps, ledger_value, ledger_holders}

-- the ledger of counter q of 2 cards, where every step was accepted
abbrev pub all_after_step : ℕ → List Step → Ledger
all_after_step q ss = after_steps 2 q ss (map (λ s. true) ss) empty_ledger

-- Card 0 counts on counter 0, counts 2 on counter 1, and clears counter 0.
abbrev pub mixed : List Step
mixed = count 0 0 1 ∷ count 0 1 2 ∷ clear 0 0 ∷ []

-- Each counter's ledger has all three messages on the link from card 0 to card 1, and each says of its own counter only.
pub one_link : ((all_after_step 0 mixed).queue 0 1
    ≡ record { counter = 0; adds = name 0 1 ∷ []; cancels = [] } ∷ nothing 1 ∷ record { counter = 0; adds = []; cancels = name 0 1 ∷ [] } ∷ [])
    × ((all_after_step 1 mixed).queue 0 1 ≡ nothing 0 ∷ record { counter = 1; adds = name 0 1 ∷ name 0 2 ∷ []; cancels = [] } ∷ nothing 0 ∷ [])
unfolding put has insert join names_after any latest beyond applied sent made count_item holds clear_names after_accepted after_step after_steps
one_link = (refl, refl)

-- An empty clear says no more than a message of another counter, and its counter is told all the same.
pub empty_clears : ((all_after_step 0 (clear 0 0 ∷ clear 0 1 ∷ [])).queue 0 1 ≡ nothing 0 ∷ nothing 1 ∷ [])
    × ((all_after_step 1 (clear 0 0 ∷ clear 0 1 ∷ [])).queue 0 1 ≡ nothing 0 ∷ nothing 1 ∷ [])
unfolding put has join any latest beyond applied sent made holds clear_names after_accepted after_step after_steps
empty_clears = (refl, refl)

-- does the next delivery from card 0 to card 1 belong to counter q, as its ledger has it, after these steps?
abbrev next_is : ℕ → List Step → Bool
next_is q ss = belongs q (deliver 1 0) (all_after_step q ss)

-- The first delivery belongs to counter 0 and not to 1, the second to 1 and not to 0, the third to 0 again, and a fourth to none.
pub belongs_in_turn : (next_is 0 mixed ≡ true) × (next_is 1 mixed ≡ false)
    × (next_is 0 (mixed ++ deliver 1 0 ∷ []) ≡ false) × (next_is 1 (mixed ++ deliver 1 0 ∷ []) ≡ true)
    × (next_is 0 (mixed ++ deliver 1 0 ∷ deliver 1 0 ∷ []) ≡ true) × (next_is 1 (mixed ++ deliver 1 0 ∷ deliver 1 0 ∷ []) ≡ false)
    × (next_is 0 (mixed ++ deliver 1 0 ∷ deliver 1 0 ∷ deliver 1 0 ∷ []) ≡ false) × (next_is 1 (mixed ++ deliver 1 0 ∷ deliver 1 0 ∷ deliver 1 0 ∷ []) ≡ false)
unfolding put has insert join names_after any latest beyond applied sent made next_item rest_items handed count_item holds clear_names turn_is belongs after_accepted after_step after_steps
belongs_in_turn = (refl, refl, refl, refl, refl, refl, refl, refl)

-- A declined delivery takes no turn: the next one still belongs to counter 0.
pub declined_takes_no_turn : (belongs 0 (deliver 1 0) (after_steps 2 0 (mixed ++ deliver 1 0 ∷ []) (true ∷ true ∷ true ∷ false ∷ []) empty_ledger) ≡ true)
    × (belongs 1 (deliver 1 0) (after_steps 2 1 (mixed ++ deliver 1 0 ∷ []) (true ∷ true ∷ true ∷ false ∷ []) empty_ledger) ≡ false)
unfolding put has insert join names_after any latest beyond applied sent made count_item holds clear_names turn_is belongs after_accepted after_step after_steps
declined_takes_no_turn = (refl, refl)

-- The second delivery, of counter 1's message, leaves what card 1 has of counter 0, and the link's queue is shorter; of counter 1 the value at card 1 rises by 2.
pub of_the_other_counter :
    let l = all_after_step 0 (mixed ++ deliver 1 0 ∷ []) in
    let l' = all_after_step 0 (mixed ++ deliver 1 0 ∷ deliver 1 0 ∷ []) in
    (l.received 1 ≡ name 0 1 ∷ []) × (l'.received 1 ≡ name 0 1 ∷ []) × (l'.cancelled 1 ≡ []) × (ledger_value 1 l' ≡ 1) × (ledger_holders 2 1 l' ≡ 1)
    × (l'.queue 0 1 ≡ record { counter = 0; adds = []; cancels = name 0 1 ∷ [] } ∷ [])
    × (ledger_value 1 (all_after_step 1 (mixed ++ deliver 1 0 ∷ [])) ≡ 0) × (ledger_value 1 (all_after_step 1 (mixed ++ deliver 1 0 ∷ deliver 1 0 ∷ [])) ≡ 2)
unfolding put sum bits has insert join names_after tally any latest beyond applied sent made next_item rest_items handed count_item holds clear_names after_accepted after_step after_steps ledger_value ledger_holders
of_the_other_counter = (refl, refl, refl, refl, refl, refl, refl, refl)

-- A count by 1 gives its card one name, its next, and the value rises by 1, also where the message starts anew and cancels what was cancelled before.
pub one_name_more :
    let l = all_after_step 0 (mixed ++ count 0 0 1 ∷ []) in
    (l.received 0 ≡ name 0 2 ∷ name 0 1 ∷ []) × (l.cancelled 0 ≡ name 0 1 ∷ []) × (ledger_value 0 (all_after_step 0 mixed) ≡ 0) × (ledger_value 0 l ≡ 1)
unfolding put has insert join names_after tally any latest beyond applied sent made count_item holds clear_names after_accepted after_step after_steps ledger_value
one_name_more = (refl, refl, refl, refl)
