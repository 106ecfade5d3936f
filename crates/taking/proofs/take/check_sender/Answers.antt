-- By the three checks in turn; past each, what it tested is known.
use Rattle.std.proofs.Common.{◌≡◌, ◌+◌, ◌≤◌, ◌<◌, ℕ, Bool, List, arith, not, ◌&&◌, le-ltb, lt-ltb, le-leb, ltb, eqb}
use Rattle.std.proofs.lemmas.Bool.{lt-leb}
use Rattle.protocol.specs.Acceptance.{cards_known}
use Rattle.replica_model.specs.Layout.{cards, own_card, N_of}
use Rattle.taking.proofs.take.check_sender.Goals as goal

-- what the tests say of the replica's own numbers
cards_tested : (b : List ℕ) (j : ℕ) (below : Bool) {r own : ℕ} {t : Bool} → r ≡ cards b → own ≡ own_card b → (ltb j r && not (eqb j own) && below) ≡ t
    → (ltb j (cards b) && not (eqb j (own_card b)) && below) ≡ t
cards_tested b j below first mine h = rw (first, mine) at h

pub returns-then-not-j-r : goal.returns-then-not-j-r
unfolding cards_known
returns-then-not-j-r c m g = rw (g.sender, g.sequence, g.entries, cards_tested c.args.words.now c.args.sender c.args.entries_below c.cards_of-r.ensures c.own_card.ensures c.if-not-j-r.true)

pub returns-then-sequence-messages : goal.returns-then-sequence-messages
unfolding cards_known
returns-then-sequence-messages c m g =
    let known = cards_tested c.args.words.now c.args.sender c.args.entries_below c.cards_of-r.ensures c.own_card.ensures c.if-not-j-r.false in
    let same = rw c.cards_of-r.ensures at c.messages_at-messages.ensures in
    rw (g.sender, g.sequence, g.entries, known, le-ltb _ _ (rw same at c.if-sequence-messages.true))

pub returns-then-sequence-messages-gt1 : goal.returns-then-sequence-messages-gt1
unfolding cards_known
returns-then-sequence-messages-gt1 c m g =
    let b = c.args.words.now in
    let known = cards_tested c.args.words.now c.args.sender c.args.entries_below c.cards_of-r.ensures c.own_card.ensures c.if-not-j-r.false in
    let same = rw c.cards_of-r.ensures at c.messages_at-messages.ensures in
    let new : N_of (cards b) b c.args.sender < c.args.sequence = omega arith in
    let early : N_of (cards b) b c.args.sender + 1 < c.args.sequence = omega arith in
    rw (g.sender, g.sequence, g.entries, known, lt-ltb _ _ new, lt-leb _ _ early)

pub returns : goal.returns
unfolding cards_known
returns c m g =
    let b = c.args.words.now in
    let known = cards_tested c.args.words.now c.args.sender c.args.entries_below c.cards_of-r.ensures c.own_card.ensures c.if-not-j-r.false in
    let same = rw c.cards_of-r.ensures at c.messages_at-messages.ensures in
    let new : N_of (cards b) b c.args.sender < c.args.sequence = omega arith in
    let next : c.args.sequence ≤ N_of (cards b) b c.args.sender + 1 = omega arith in
    rw (g.sender, g.sequence, g.entries, known, lt-ltb _ _ new, le-leb _ _ next)
