-- The number of entries, the length, then the two range tests, as the law of bytes with a clear's version and kind has them.
use Rattle.std.proofs.Common.{sym, ◌∙◌}
use Rattle.wire.specs.MessageLaws.{reads_clear_many, reads_clear_inexact, reads_clear_exact}
use Rattle.wire.specs.RangeLaws.{known_header}
use Rattle.wire.specs.MessagePartsLaws.{header_read}
use Rattle.wire.proofs.decode.does_clear_read.Goals as goal

pub returns-then-len-gt-MOST_ENTRIES : goal.returns-then-len-gt-MOST_ENTRIES
returns-then-len-gt-MOST_ENTRIES c =
    let s = c.args.rest.src.now in
    let h = header_read s c.args.header c.requires.0 in
    reads_clear_many c.args.version s (sym h.version ∙ c.requires.2) (sym h.kind ∙ c.requires.3) c.next-count.result (rw c.requires.1 at c.next-count.ensures.0) c.if-len-gt-MOST_ENTRIES.true

pub returns-then-rest-clear_length : goal.returns-then-rest-clear_length
returns-then-rest-clear_length c =
    let s = c.args.rest.src.now in
    let h = header_read s c.args.header c.requires.0 in
    reads_clear_inexact c.args.version s (sym h.version ∙ c.requires.2) (sym h.kind ∙ c.requires.3) c.next-count.result (rw c.requires.1 at c.next-count.ensures.0)
    (λ e. c.if-rest-clear_length.true (rw c.next-count.ensures.1 (e ∙ sym c.clear_length.ensures)))

pub returns : goal.returns
returns c =
    let s = c.args.rest.src.now in
    let header = c.args.header in
    let h = header_read s header c.requires.0 in
    rw (
      c.rest_in_range.ensures ∙ known_header c.args.version header.sender header.sequence header.counter c.requires.5,
      c.are_entries_in_range.ensures,
      c.next-count.ensures.1,
      c.next-count.ensures.2,
      c.requires.1,
      h.sender,
      h.sequence,
      h.counter,
    )
    (sym (reads_clear_exact c.args.version s (sym h.version ∙ c.requires.2) (sym h.kind ∙ c.requires.3) c.next-count.result (rw c.requires.1 at c.next-count.ensures.0) c.if-len-gt-MOST_ENTRIES.false
    (rw c.next-count.ensures.1 at c.if-rest-clear_length.false ∙ c.clear_length.ensures)))
