-- The header (`header_written`), and the row's bit taken away; then the loop (`Making`), and the outcome from all of it (`clear_sent`).
use Rattle.std.proofs.Common.{◌≡◌, ℕ, ◌+◌, ◌≤◌, ◌<◌, List, sym, ap, ◌∙◌, arith}
use Rattle.protocol.specs.Limits.{MAX, most_cards}
use Rattle.protocol.specs.Rows.{WellFormed}
use Rattle.protocol.specs.declared.Entry.{Entry}
use Rattle.replica_model.specs.Layout.{cards, entry_of}
use Rattle.replica_model.proofs.Senders.{Sending}
use Rattle.layout.specs.WordsLaws.{few_cards}
use Rattle.sending.specs.SendLaws.{row_inside, own_below, header_written}
use Rattle.sending.specs.ClearLaws.{Making, making_begins, sent_well_formed, making_stays, making_few, making_small, making_next, making_room, making_turn, clear_sent}
use Rattle.sending.proofs.clearing.make.Goals as goal

-- of the loop: how many entries there are, and the next one is as it was
module _ (b : List ℕ) (r q : ℕ) (first : r ≡ cards b) (h : Sending b q 0) (headed : List ℕ) (j : ℕ) (b' out' : List ℕ) (value len : ℕ) (m : Making b headed r q j b' out' value len) where
  len_few : len ≤ most_cards
  len_few = omega (arith, making_few _ _ _ _ _ _ _ _ _ m, m.within, few_cards _ _ _ (row_inside _ _ _ _ first h))

  entry_small : j < r → (e : Entry) → e ≡ entry_of r b' q j → WellFormed MAX e
  entry_small l e found = rw (found ∙ making_next b r q first h _ _ _ _ _ _ m l) (sent_well_formed b r q first h j l)

pub loop-card-init : goal.loop-card-init
loop-card-init c = making_begins _ _ _ _ _ c.set_active.ensures

pub entry-e-requires : goal.entry-e-requires
entry-e-requires c = ((making_stays _ _ _ c.requires.0 c.requires.1 _ _ _ _ _ _ c.loop-card.invariant).inside, c.loop-card-test.true)

pub overflow_sub-value : goal.overflow_sub-value
overflow_sub-value c = (entry_small _ _ _ c.requires.0 c.requires.1 _ _ _ _ _ _ c.loop-card.invariant c.loop-card-test.true _ c.entry-e.ensures).n≤p

pub overflow_add-value : goal.overflow_add-value
overflow_add-value c =
    let small = entry_small _ _ _ c.requires.0 c.requires.1 _ _ _ _ _ _ c.loop-card.invariant c.loop-card-test.true _ c.entry-e.ensures in
    omega (arith, making_small _ _ _ c.requires.0 c.requires.1 _ _ _ _ _ _ c.loop-card.invariant, few_cards _ _ _ (row_inside _ _ _ _ c.requires.0 c.requires.1))

pub make_entry-len-requires : goal.make_entry-len-requires
make_entry-len-requires c =
    let m = c.loop-card.invariant in
    let more = c.loop-card-test.true in (
      (making_stays _ _ _ c.requires.0 c.requires.1 _ _ _ _ _ _ m).inside,
      more,
      rw c.entry-e.ensures at (entry_small _ _ _ c.requires.0 c.requires.1 _ _ _ _ _ _ m more _ c.entry-e.ensures).n≤p,
      making_room _ _ _ c.requires.0 c.requires.1 _ _ _ _ _ _ m more (omega (arith, c.requires.2)),
      making_few _ _ _ _ _ _ _ _ _ m,
    )

pub loop-card-preserved : goal.loop-card-preserved
loop-card-preserved c =
    let done = c.make_entry-len.ensures in
    rw c.entry-e.ensures
    (making_turn _ _ _ c.requires.0 c.requires.1 _ _ _ _ _ _ c.loop-card.invariant c.loop-card-test.true _ _ _ done.0 done.1 done.2)

pub overflow_cast-len : goal.overflow_cast-len
overflow_cast-len c = omega (arith, len_few _ _ _ c.requires.0 c.requires.1 _ _ _ _ _ _ c.loop-card.invariant)

pub clear_length-requires : goal.clear_length-requires
clear_length-requires c = omega (arith, len_few _ _ _ c.requires.0 c.requires.1 _ _ _ _ _ _ c.loop-card.invariant)

pub returns : goal.returns
returns c =
    let own = c.own_card-own.result in
    let own_in : own < c.args.row.cards = omega (arith, c.own_card-own.ensures, own_below _ _ _ _ c.requires.0 c.requires.1) in
    let stays = making_stays _ _ _ c.requires.0 c.requires.1 _ _ _ _ _ _ c.loop-card.invariant in
    let all : c.loop-card.card ≡ c.args.row.cards = omega (arith, c.loop-card.invariant.within, c.loop-card-test.false) in
    let header = header_written _ _ _ _ c.args.out.now _ _ _ _ _ c.write.ensures c.write-2.ensures c.write-3.ensures c.write-4.ensures c.write-5.ensures
    ∙ rw (c.messages_at.ensures, c.own_card.ensures ∙ sym c.own_card-own.ensures) in
    rw c.clear_length.ensures
    (clear_sent _ _ _ c.requires.0 c.requires.1 _ _ _ _ _ _ _ _ _ _ _ c.requires.2 c.own_card-own.ensures header all c.loop-card.invariant
    (ap (λ (x : ℕ). x + 1) (c.messages_at-messages.ensures ∙ sym (stays.N_stays _ own_in))) c.write-6.ensures c.set_messages.ensures)
