-- After n turns the lines of the first n cards are stored, and the words behind their replicas are left.
use Rattle.std.proofs.Common.{◌≡◌, ◌*◌, ◌≤◌, drop}
use Rattle.std.specs.Iterator.Adapters.{enumerate_source, enumerate_count}
use Rattle.std.specs.Slice.Iter.{chunks_exact_rest, chunks_exact_size}
use Rattle.text.specs.Put.{Put, SameBytes}
use Rattle.listing.specs.Listing.{lines}
use Rattle.listing.specs.Sizes.{card_bytes}
use Rattle.listing.proofs.lines.put_lines.Given as goal

abbrev pub invariant-loop-card : goal.invariant-loop-card
invariant-loop-card l =
    let done = enumerate_count l.card-iterator in
    let parts = enumerate_source l.card-iterator in
    (done ≤ l.cards)
    × (chunks_exact_size parts ≡ l.size)
    × (chunks_exact_rest parts ≡ drop (done * l.size) l.words)
    × SameBytes l.fn.out l.out
    × Put (card_bytes * done) l.fn.out.bytes.now l.fn.out.len (lines l.cards l.counters l.words done) l.out.bytes.now l.out.len
