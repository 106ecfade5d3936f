-- Five fields side by side.
use Rattle.text.proofs.PutLaws.{put_then}
use Rattle.listing.proofs.ListingLaws.{line_fields}
use Rattle.listing.proofs.lines.put_line.Goals as goal

pub returns-clause-put : goal.returns-clause-put
returns-clause-put c =
    rw (line_fields c.args.card c.args.counter c.args.a)
    (put_then (put_then (put_then (put_then
    c.put_field.ensures.put
    c.put_field-2.ensures.put)
    c.put_field-3.ensures.put)
    c.put_field-4.ensures.put)
    (rw c.quiet_of.ensures.0 at c.put_field-5.ensures.put))
