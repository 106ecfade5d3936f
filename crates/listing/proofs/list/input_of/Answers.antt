-- Where r and k are there the tests are those of the definition, one by one.
use Rattle.std.proofs.Common.{◌≡◌, true, length}
use borrow.Author.Tests.{le-leb, lt-leb}
use Rattle.listing.specs.Listing.{sizes_length, input_right}
use Rattle.listing.proofs.ListingLaws.{rest_of}
use Rattle.listing.proofs.list.input_of.Goals as goal

pub returns-then-bytes-lt-STEPS_AT : goal.returns-then-bytes-lt-STEPS_AT
unfolding input_right
returns-then-bytes-lt-STEPS_AT c = rw (lt-leb sizes_length (length c.args.bytes.now) c.if-bytes-lt-STEPS_AT.true)

pub returns-then-is_right : goal.returns-then-is_right
unfolding input_right
returns-then-is_right c =
    let rest = rest_of sizes_length c.args.bytes.now in
    let right : input_right c.args.bytes.now ≡ true =
    rw (le-leb sizes_length (length c.args.bytes.now) c.if-bytes-lt-STEPS_AT.false, ← rest, ← c.read-cards.ensures, ← c.read-counters.ensures) c.if-is_right.true in
    (right, c.read-cards.ensures, c.read-counters.ensures, rest)

pub returns-else-is_right : goal.returns-else-is_right
unfolding input_right
returns-else-is_right c =
    rw (le-leb sizes_length (length c.args.bytes.now) c.if-bytes-lt-STEPS_AT.false, ← rest_of sizes_length c.args.bytes.now, ← c.read-cards.ensures, ← c.read-counters.ensures) c.if-is_right.false
