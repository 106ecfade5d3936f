-- The next card's replica is the next part, and its lines are put behind the others.
use Rattle.std.proofs.Common.{◌≡◌, ◌*◌, ◌<◌, ◌++◌, ◌∙◌, drop, length, sym, refl, zero-mul, arith, rules}
use Rattle.std.specs.Iterator.Adapters.{enumerate_source, enumerate_count}
use Rattle.std.specs.Slice.Iter.{chunks_exact_rest}
use Rattle.text.proofs.PutLaws.{put_none, put_turn}
use Rattle.listing.specs.Listing.{lines}
use Rattle.listing.proofs.ListingLaws.{next_part, part_inside, parts_end}
use Rattle.listing.proofs.lines.put_lines.Goals as goal

pub loop-card-init : goal.loop-card-init
unfolding lines
loop-card-init c =
    rw (c.into_iter-card-iterator.ensures.into_iter_gives, c.enumerate-card-items.ensures.count, c.enumerate-card-items.ensures.source, zero-mul)
    (omega arith, c.chunks_exact.ensures.size, c.chunks_exact.ensures.rest, (refl, refl), put_none _ _)

pub loop-card-preserved : goal.loop-card-preserved
unfolding lines
loop-card-preserved c =
    let size = c.replica_words-size.result in
    let card = enumerate_count c.loop-card.card-iterator in
    let words = c.args.words.now in
    let b = c.in-Some.b.now in
    let rest = chunks_exact_rest (enumerate_source c.next.new.self) in
    let step = c.in-Some.ensures.steps in
    let parts : drop (card * size) words ≡ b ++ rest = sym c.loop-card.invariant.2 ∙ step.0.1.0 in
    let long : length b ≡ size = step.0.1.1 ∙ c.loop-card.invariant.1 in
    let some : 0 < size = omega (arith, c.replica_words-size.ensures) in
    let all : c.args.cards * size ≡ length words = rw c.replica_words-size.ensures c.requires.2 in
    let next = next_part size card words b rest parts long in
    let inside = part_inside size card c.args.cards words b rest parts long some all in
    let put = rw (step.1, next.0, c.replica_words-size.ensures) at c.put_card.ensures.put in
    rw step.2 (
      omega (arith, inside),
      step.0.0 ∙ c.loop-card.invariant.1,
      next.1,
      search rules,
      put_turn (lines c.args.cards c.args.counters words) refl c.loop-card.invariant.4 put,
    )

pub returns-clause-put : goal.returns-clause-put
returns-clause-put c =
    let size = c.replica_words-size.result in
    let card = enumerate_count c.loop-card.card-iterator in
    let step = c.in-None.ensures.steps in
    let all : c.args.cards * size ≡ length c.args.words.now = rw c.replica_words-size.ensures c.requires.2 in
    let short : length (drop (card * size) c.args.words.now) < size = rw (c.loop-card.invariant.2, c.loop-card.invariant.1) at step.0.1.0 in
    rw (parts_end size card c.args.cards c.args.words.now c.loop-card.invariant.0 short all) at c.loop-card.invariant.4
