-- After n turns the lines of the first n counters are stored.
use Rattle.std.proofs.Common.{◌*◌}
use Rattle.text.specs.Put.{Put, SameBytes}
use Rattle.listing.specs.Listing.{card_lines}
use Rattle.listing.specs.Sizes.{line_bytes}
use Rattle.listing.proofs.lines.put_card.Given as goal

abbrev pub invariant-loop-counter : goal.invariant-loop-counter
invariant-loop-counter l =
    SameBytes l.fn.out l.out × Put (line_bytes * l.counter) l.fn.out.bytes.now l.fn.out.len (card_lines l.card l.b l.counter) l.out.bytes.now l.out.len
