-- CLAIMS. What a clear takes, on two of the specification's scenarios, computed: the count that its card had not seen stays, and a count that comes after its clear does not.
use Rattle.std.specs.Prelude.{ℕ, zero, suc, ◌<◌, ◌≡◌, refl, true, false, List, [], ◌∷◌, ◌++◌, map}
use Rattle.std.proofs.Common.{sym, ◌∙◌, arith, ltb-true}
use Rattle.std.proofs.lemmas.Bool.{false≢true}
use Rattle.protocol.proofs.Cases.{and_right}
use Rattle.protocol.proofs.Tables.{put}
use Rattle.protocol.specs.Entry.{incremented, cleared}
use Rattle.protocol.specs.Names.{name, has, insert, join, names_after, tally, any, latest, beyond}
use Rattle.protocol.specs.Ledger.{Step, count, clear, deliver, applied, sent, made, next_item, rest_items, handed, count_item, holds, clear_names, after_accepted, after_step, after_steps, ledger_value}
use Rattle.protocol.specs.Chassis.{Offer, cleared_row, taken, count_message, present_entries, clear_message, issued, delivered, done, enabled, stepped, run, answers}
use Rattle.protocol.specs.Runs.{after_run, ledger_after}
use Rattle.protocol.specs.Cleared.{ClearedBySeer}
use Rattle.protocol.proofs.ClearClaims.{cleared_is_cancelled}

abbrev offered : Step → Offer
offered s = record { step = s; willing = true }

-- "(1,0,0,1) (3,1,0,0) (2,1,0,0) (1,0,0,1)", then both cards take what waits: card 1 clears card 0's first count and has not seen the second
abbrev pub listing : List Offer
listing = map offered (count 0 0 1 ∷ deliver 1 0 ∷ clear 1 0 ∷ count 0 0 1 ∷ deliver 0 1 ∷ deliver 1 0 ∷ [])

-- the first is cancelled on both cards, the second on none, and both cards count it
pub unseen_stays :
    let l = ledger_after 2 0 listing in
    (has (l.cancelled 0) (name 0 1) ≡ true)
    × (has (l.cancelled 1) (name 0 1) ≡ true)
    × (has (l.cancelled 0) (name 0 2) ≡ false)
    × (has (l.cancelled 1) (name 0 2) ≡ false)
    × (ledger_value 0 l ≡ 1)
    × (ledger_value 1 l ≡ 1)
unfolding put has insert join names_after tally any latest beyond applied sent made next_item rest_items handed count_item holds clear_names after_accepted after_step after_steps ledger_value incremented cleared cleared_row taken count_message present_entries clear_message issued delivered done enabled stepped run answers
unseen_stays = (refl, refl, refl, refl, refl, refl)

pub first_was_cleared : ClearedBySeer 2 0 listing (name 0 1)
unfolding put has insert join names_after latest beyond any applied sent made next_item handed count_item after_accepted after_step after_steps incremented taken count_message issued delivered done enabled stepped run answers
first_was_cleared = record {
  before = map offered (count 0 0 1 ∷ deliver 1 0 ∷ []);
  offer = offered (clear 1 0);
  later = map offered (count 0 0 1 ∷ deliver 0 1 ∷ deliver 1 0 ∷ []);
  card = 1;
  in_list = refl;
  is_clear = refl;
  was_accepted = refl;
  had_received = refl;
}

-- the second by none: it would be cancelled on the card that cleared
nowhere : (i : ℕ) → i < 2 → has ((ledger_after 2 0 listing).cancelled i) (name 0 2) ≡ false
unfolding put has insert join names_after any latest beyond applied sent made next_item rest_items handed count_item holds clear_names after_accepted after_step after_steps incremented cleared cleared_row taken count_message present_entries clear_message issued delivered done enabled stepped run answers
nowhere zero below = refl
nowhere (suc zero) below = refl
nowhere (suc (suc i)) below = absurd (omega arith)

pub second_was_not : ClearedBySeer 2 0 listing (name 0 2) → ⊥
unfolding enabled
second_was_not w =
    let on : enabled 2 (clear w.card 0) (after_run 2 w.before) ≡ true = rw w.is_clear at (and_right w.offer.willing _ w.was_accepted) in
    false≢true (sym (nowhere w.card (ltb-true w.card 2 on)) ∙ cleared_is_cancelled 2 0 listing (name 0 2) w)

-- "(1,0,0,1) (3,1,0,0) (2,1,0,0) (3,2,1,0)": the clear comes to card 2 before the count does
abbrev pub overtaking : List Offer
overtaking = map offered (count 0 0 1 ∷ deliver 1 0 ∷ clear 1 0 ∷ deliver 2 1 ∷ [])

-- A clear by card 2 would pass on what card 2 has not received itself, and when the count comes it is not counted.
pub cleared_stays_away :
    let l = ledger_after 3 0 overtaking in
    let l' = ledger_after 3 0 (overtaking ++ offered (deliver 2 0) ∷ []) in
    (has (l.received 2) (name 0 1) ≡ false)
    × (has (l.cancelled 2) (name 0 1) ≡ true)
    × (has (clear_names 3 2 l) (name 0 1) ≡ true)
    × (has (l'.received 2) (name 0 1) ≡ true)
    × (has (l'.cancelled 2) (name 0 1) ≡ true)
    × (ledger_value 2 l' ≡ 0)
unfolding put has insert join names_after tally any latest beyond applied sent made next_item rest_items handed count_item holds clear_names after_accepted after_step after_steps ledger_value incremented cleared cleared_row taken count_message present_entries clear_message issued delivered done enabled stepped run answers
cleared_stays_away = (refl, refl, refl, refl, refl, refl)
