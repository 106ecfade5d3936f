-- CLAIMS. Small cases of counting by an amount, proved by computing them: what w increments in a row return and leave, and why the claims speak of runs.
use Rattle.std.specs.Prelude.{◌≡◌, refl, true, false, List, [], ◌∷◌, ◌++◌, map}
use Rattle.protocol.proofs.Tables.{put}
use Rattle.protocol.specs.Entry.{incremented, cleared}
use Rattle.protocol.specs.Ledger.{Step, count, clear, deliver}
use Rattle.protocol.specs.Chassis.{increment, Replica, fresh_replica, Offer, cleared_row, taken, count_message, present_entries, clear_message, issued, delivered, done, enabled, stepped, run, answers}
use Rattle.protocol.specs.Algorithm1.{unmapped, mapped, inc, inc_generator, inc_effector, triples, reset_generator, reset_one, reset_each, reset_effector, effector, slot_of, state_of}
use Rattle.protocol.specs.Singly.{times, single_steps, expanded, in_single_steps}
use Rattle.protocol.specs.InARow.{effectors, inc_generators, effected, made, next_lot, rest_lots, handed, after_accepted, after_step, after_steps, algorithm_1_after, singles, updates_of}

abbrev offered : List Step → List Offer
offered ss = map (λ s. record { step = s; willing = true }) ss

-- three increments in a row on a fresh replica: one start
pub three_in_a_row : inc_generators 0 3 (state_of 0 fresh_replica) ≡ inc 0 1 true ∷ inc 0 2 false ∷ inc 0 3 false ∷ []
unfolding inc_generators effector inc_generator inc_effector put
three_in_a_row = refl

-- 3 units, cleared, then 5, all taken by card 1: it has what the chassis has there (`Examples`), (8, 3, 8)
pub amounts_taken : ((algorithm_1_after 2 (offered (count 0 0 3 ∷ clear 0 0 ∷ count 0 0 5 ∷ deliver 1 0 ∷ deliver 1 0 ∷ deliver 1 0 ∷ []))).replica 1).M 0 0 ≡ mapped 8 3 8
unfolding put after_steps after_step after_accepted made handed next_lot rest_lots effected effectors effector inc_generators inc_generator inc_effector triples reset_generator reset_one reset_each reset_effector incremented cleared cleared_row taken count_message present_entries clear_message issued delivered done enabled stepped run answers
amounts_taken = refl

-- card 1 clears 3 units of card 0; the clear overtakes them on the way to card 2, where they are held as cancelled and then go, all in one step
abbrev overtaking : List Step
overtaking = count 0 0 3 ∷ deliver 1 0 ∷ clear 1 0 ∷ deliver 2 1 ∷ []

pub overtaken : ((algorithm_1_after 3 (offered overtaking)).replica 2).M 0 0 ≡ mapped 3 3 3
unfolding put after_steps after_step after_accepted made handed next_lot rest_lots effected effectors effector inc_generators inc_generator inc_effector triples reset_generator reset_one reset_each reset_effector incremented cleared cleared_row taken count_message present_entries clear_message issued delivered done enabled stepped run answers
overtaken = refl

pub overtaken_gone : ((algorithm_1_after 3 (offered (overtaking ++ deliver 2 0 ∷ []))).replica 2).M 0 0 ≡ unmapped
unfolding put after_steps after_step after_accepted made handed next_lot rest_lots effected effectors effector inc_generators inc_generator inc_effector triples reset_generator reset_one reset_each reset_effector incremented cleared cleared_row taken count_message present_entries clear_message issued delivered done enabled stepped run answers
overtaken_gone = refl

-- A count by 2, its delivery, a clear and its delivery, and a delivery that is declined, as single steps: two counts, two deliveries, a clear, its delivery.
pub in_single : in_single_steps 2 (offered (count 0 0 2 ∷ deliver 1 0 ∷ clear 1 0 ∷ deliver 0 1 ∷ deliver 0 1 ∷ []))
    ≡ offered (count 0 0 1 ∷ count 0 0 1 ∷ deliver 1 0 ∷ deliver 1 0 ∷ clear 1 0 ∷ deliver 0 1 ∷ [])
unfolding put incremented cleared cleared_row taken count_message present_entries clear_message issued delivered done enabled stepped times single_steps expanded
in_single = refl

-- A replica that is well-formed and that no run reaches: a clear has cancelled card 0's names up to c = 3, and 2 units are received, so that an
-- increment by 2 would lie on both sides of it. There one increment by 2 is not two in a row: the claims have to speak of runs.
abbrev unreached : Replica
unreached = record { entry = λ q j. record { p = 3; n = 3; c = 3 }; C = λ j. 2; N = λ j. 2 }

pub not_everywhere :
    (slot_of ((taken 0 (increment 0 2 3 false) unreached).entry 0 0) ≡ unmapped)
    × ((effectors (updates_of 0 (increment 0 2 3 false)) (state_of 0 unreached)).M 0 ≡ mapped 3 2 4)
unfolding put taken incremented effectors effector inc_effector singles
not_everywhere = (refl, refl)
