-- The version, then the rest.
use Rattle.wire.specs.RangeLaws.{header_parts}
use Rattle.wire.proofs.range.header_in_range.Goals as goal

pub returns : goal.returns
returns c = rw (c.is_version.ensures, c.rest_in_range.ensures) (header_parts c.args.version c.args.sender c.args.sequence c.args.counter)
