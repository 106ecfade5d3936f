-- No message has another version than those there are, and none is shorter than the shortest; past that the answer is the call's.
use Rattle.std.proofs.Common.{sym, ◌∙◌}
use Rattle.wire.specs.MessageLaws.{reads_no_version, reads_short}
use Rattle.wire.proofs.decode.reads.Goals as goal

pub returns-then-not-is_version : goal.returns-then-not-is_version
returns-then-not-is_version c = reads_no_version c.args.version c.args.bytes.now (sym c.is_version.ensures ∙ c.if-not-is_version.true)

pub returns-then-bytes-lt-EMPTY_CLEAR_BYTES : goal.returns-then-bytes-lt-EMPTY_CLEAR_BYTES
returns-then-bytes-lt-EMPTY_CLEAR_BYTES c = reads_short c.args.version c.args.bytes.now c.if-bytes-lt-EMPTY_CLEAR_BYTES.true
