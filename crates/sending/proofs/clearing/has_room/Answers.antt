-- There are no more present entries than cards, so room for all of these is enough; else they are counted.
use Rattle.std.proofs.Common.{length, sym, ◌∙◌, arith}
use borrow.Author.Tests.{le-leb}
use Rattle.protocol.specs.Chassis.{present_entries}
use Rattle.wire.specs.Message.{clear_length}
use Rattle.replica_model.specs.Layout.{entry_of}
use Rattle.replica_model.proofs.PresentLaws.{present_few}
use Rattle.layout.specs.WordsLaws.{few_cards}
use Rattle.sending.proofs.clearing.has_room.Goals as goal

pub returns-then-clear_length-room : goal.returns-then-clear_length-room
returns-then-clear_length-room c =
    let row = entry_of c.args.row.cards c.args.words.now c.args.row.counter in
    le-leb _ _ c.if-clear_length-room.true
    ∙ sym (le-leb (clear_length (length (present_entries c.args.row.cards row))) c.args.room (omega (arith, c.clear_length.ensures, present_few row c.args.row.cards)))

pub clear_length-requires-else-clear_length-room : goal.clear_length-requires-else-clear_length-room
clear_length-requires-else-clear_length-room c =
    omega (arith, c.holders_of.ensures, present_few (entry_of c.args.row.cards c.args.words.now c.args.row.counter) c.args.row.cards, few_cards _ _ _ c.requires)
