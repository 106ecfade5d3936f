-- The stores are the bytes of `count_message` and its effect (`count_written`, `count_applied`).
use Rattle.std.proofs.Common.{◌∙◌}
use Rattle.layout.specs.Totals.{flag_is}
use Rattle.sending.specs.SendLaws.{header_written}
use Rattle.sending.specs.CountLaws.{start_flag, increment_written, count_written, count_applied, count_outcome}
use Rattle.sending.proofs.counting.make.Goals as goal

pub returns : goal.returns
returns c =
    let own = c.own_card-own.ensures in
    let seen = c.messages_at-messages.ensures in
    let found = c.entry-e.ensures in
    let b = c.args.words.now in
    let out = c.args.out.now in
    let header = header_written _ _ _ _ out _ _ _ _ _ c.write.ensures c.write-2.ensures c.write-3.ensures c.write-4.ensures c.write-5.ensures in
    let bytes = increment_written _ _ _ _ _ _ out _ _ _ _ c.requires.3 header c.write-6.ensures c.write-7.ensures c.write-8.ensures in
    count_outcome b out _ _ _ _ c.requires.0 own _ _ _ seen
    (count_applied b out _ _ _ _ c.requires.0 own _ _ _ _ _ _ _ c.requires.1 seen c.increments_at-counted.ensures found
    c.counted_entry.ensures.0 c.put_present.ensures c.set_increments.ensures c.set_messages.ensures)
    (count_written b out _ _ _ _ c.requires.0 own _ _ _ _ _ _ _ _
    c.own_card.ensures c.messages_at.ensures c.increments_at.ensures c.entry.ensures found
    c.next_p-p.ensures (c.from.ensures ∙ flag_is _ ∙ start_flag c.entry-e.result) bytes)
