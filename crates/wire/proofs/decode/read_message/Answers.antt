-- The version that the bytes name, the tests, then the message, as the definition goes.
use Rattle.std.proofs.Common.{sym, refl, ap, ◌∙◌}
use Rattle.wire.specs.Message.{version_in}
use Rattle.wire.specs.KindLaws.{names_none}
use Rattle.wire.specs.MessageLaws.{accepted, read_yes, read_no, reads_no_version, reads_short, reads_other_kind}
use Rattle.wire.specs.MessagePartsLaws.{header_read}
use Rattle.wire.proofs.decode.read_message.Goals as goal

pub returns-then-bytes-lt-EMPTY_CLEAR_BYTES : goal.returns-then-bytes-lt-EMPTY_CLEAR_BYTES
returns-then-bytes-lt-EMPTY_CLEAR_BYTES c =
    let s = c.args.bytes.now in
    read_no (version_in s) s refl (sym (reads_short (version_in s) s c.if-bytes-lt-EMPTY_CLEAR_BYTES.true))

pub returns-then-not-is_version : goal.returns-then-not-is_version
returns-then-not-is_version c =
    let s = c.args.bytes.now in
    let header = c.header-header in
    let named = (header_read s header.result header.ensures.0).version in
    read_no header.result.version s named (sym (reads_no_version header.result.version s (sym c.is_version.ensures ∙ c.if-not-is_version.true)))

pub returns-then-not-does_read : goal.returns-then-not-does_read
returns-then-not-does_read c =
    let s = c.args.bytes.now in
    let header = c.header-header in
    let named = (header_read s header.result header.ensures.0).version in
    read_no header.result.version s named (sym c.does_read.ensures ∙ c.if-not-does_read.true)

-- bytes that read have a kind
pub returns-in_err-try_from : goal.returns-in_err-try_from
returns-in_err-try_from c =
    let s = c.args.bytes.now in
    let header = c.header-header in
    let h = header_read s header.result header.ensures.0 in
    let none = names_none header.result.kind _ (sym c.try_from.ensures ∙ c.in_err-try_from.was) in
    let unread = reads_other_kind header.result.version s (λ e. none.0 (h.kind ∙ e)) (λ e. none.1 (h.kind ∙ e)) in
    let read = sym c.does_read.ensures ∙ c.if-not-does_read.false in
    cc

pub returns-in-Increment : goal.returns-in-Increment
returns-in-Increment c =
    let s = c.args.bytes.now in
    let header = c.header-header in
    let named = (header_read s header.result header.ensures.0).version in
    ap accepted (c.increment_message.ensures ∙ rw header.ensures.1) ∙ read_yes header.result.version s named (sym c.does_read.ensures ∙ c.if-not-does_read.false)

pub returns-in-Clear : goal.returns-in-Clear
returns-in-Clear c =
    let s = c.args.bytes.now in
    let header = c.header-header in
    let named = (header_read s header.result header.ensures.0).version in
    ap accepted (c.clear_message.ensures ∙ rw header.ensures.1) ∙ read_yes header.result.version s named (sym c.does_read.ensures ∙ c.if-not-does_read.false)
