-- CLAIMS. Two lists of steps on the chassis, computed, that the specification's orders do not have (those are computed on words and bytes: `Scenarios` of
-- chassis_model): a declined delivery, and counts by an amount. Of each: a card's entry for card 0, its C and N of card 0, and what it reads of counter 0, in the
-- replica and in the ledger.
use Rattle.std.specs.Prelude.{ℕ, ◌≡◌, refl, true, List, [], ◌∷◌, map}
use Rattle.protocol.proofs.Tables.{put, sum, bits}
use Rattle.protocol.specs.Entry.{Entry, incremented, cleared}
use Rattle.protocol.specs.Names.{has, insert, join, names_after, tally, any, latest, beyond}
use Rattle.protocol.specs.Ledger.{Step, count, clear, deliver, applied, sent, made, next_item, rest_items, handed, count_item, holds, clear_names, after_accepted, after_step, after_steps, ledger_value, ledger_holders}
use Rattle.protocol.specs.Chassis.{Offer, cleared_row, taken, count_message, present_entries, clear_message, issued, delivered, done, enabled, stepped, run, answers, read_value, read_holders}
use Rattle.protocol.specs.Runs.{after_run, ledger_after}

abbrev offered : List Step → List Offer
offered ss = map (λ s. record { step = s; willing = true }) ss

-- card 1's entry for card 0, its C and N of card 0, value and holders, and the ledger's; on a chassis of two cards
abbrev pub Leaves : List Step → Entry → ℕ → ℕ → ℕ → ℕ → Type 0
Leaves ss e C N value holders =
    let b = (after_run 2 (offered ss)).replica 1 in
    let l = ledger_after 2 0 (offered ss) in
    ((b.entry 0 0 ≡ e) × (b.C 0 ≡ C) × (b.N 0 ≡ N))
    × ((read_value 2 0 b ≡ value) × (read_holders 2 0 b ≡ holders))
    × ((ledger_value 1 l ≡ value) × (ledger_holders 2 1 l ≡ holders))

-- A delivery with no message waiting is declined, and the run goes on.
pub declined_delivery : Leaves (deliver 1 0 ∷ count 0 0 1 ∷ deliver 1 0 ∷ []) (record { p = 1; n = 0; c = 1 }) 1 1 1 1
unfolding put sum incremented cleared has insert join names_after tally any latest beyond applied sent made next_item rest_items handed count_item holds clear_names after_accepted after_step after_steps ledger_value cleared_row taken count_message present_entries clear_message issued delivered done enabled stepped run answers read_value read_holders ledger_holders bits
declined_delivery = ((refl, refl, refl), (refl, refl), (refl, refl))

-- By an amount: 3 units, cleared, then 5.
pub by_amounts : Leaves (count 0 0 3 ∷ clear 0 0 ∷ count 0 0 5 ∷ deliver 1 0 ∷ deliver 1 0 ∷ deliver 1 0 ∷ []) (record { p = 8; n = 3; c = 8 }) 8 3 5 1
unfolding put sum incremented cleared has insert join names_after tally any latest beyond applied sent made next_item rest_items handed count_item holds clear_names after_accepted after_step after_steps ledger_value cleared_row taken count_message present_entries clear_message issued delivered done enabled stepped run answers read_value read_holders ledger_holders bits
by_amounts = ((refl, refl, refl), (refl, refl), (refl, refl))
