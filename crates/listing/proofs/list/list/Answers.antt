-- A right input is listed, any other refused; either text stands at the front.
use Rattle.std.proofs.Common.{◌≤◌, length, arith}
use Rattle.text.proofs.PutLaws.{put_front}
use Rattle.listing.specs.Listing.{refused_11}
use Rattle.listing.specs.Sizes.{listing_bytes}
use Rattle.listing.proofs.ListingLaws.{right_input, listing_refused, listing_right}
use Rattle.listing.proofs.list.list.Goals as goal
use Rattle.listing.proofs.list.list.Goals.{in-Some, in-None}

pub put_listing-requires : goal.put_listing-requires
put_listing-requires c =
    let right = c.in-Some.ensures in
    (rw (right.1, right.2, right.3) (right_input c.args.input.now right.0).listable, omega arith)

pub returns-clause-listed : goal.returns-clause-listed
returns-clause-listed c =
    let room : listing_bytes ≤ length c.args.out.now = omega arith in
    let short : length refused_11 ≤ length c.args.out.now = omega arith in
    elim c.match-input_of.branch [
      | in-Some w ↦
          let right = w.in-Some.ensures in
          rw (w.listing-is, listing_right c.args.input.now right.0) (put_front (rw (right.1, right.2, right.3) at w.put_listing.ensures.put) room).0
      | in-None w ↦ rw (w.listing-is, listing_refused c.args.input.now w.in-None.ensures) (put_front w.put_text.ensures.put short).0
    ]
