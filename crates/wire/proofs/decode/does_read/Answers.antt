-- The version and the kind in turn; what is left is the answer of the kind's own test.
use Rattle.std.proofs.Common.{sym, ◌∙◌}
use Rattle.wire.specs.KindLaws.{names_none}
use Rattle.wire.specs.MessageLaws.{reads_other_version, reads_other_kind}
use Rattle.wire.specs.MessagePartsLaws.{header_read}
use Rattle.wire.proofs.decode.does_read.Goals as goal

pub returns-then-header-version : goal.returns-then-header-version
returns-then-header-version c =
    let s = c.args.bytes.now in
    let h = header_read s c.header-header.result c.header-header.ensures.0 in
    reads_other_version c.args.version s (λ e. c.if-header-version.true (h.version ∙ e))

pub returns-in-Err : goal.returns-in-Err
returns-in-Err c =
    let s = c.args.bytes.now in
    let h = header_read s c.header-header.result c.header-header.ensures.0 in
    let none = names_none c.header-header.result.kind _ (sym c.try_from.ensures ∙ c.in-Err.is) in
    reads_other_kind c.args.version s (λ e. none.0 (h.kind ∙ e)) (λ e. none.1 (h.kind ∙ e))
