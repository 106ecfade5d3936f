-- The places passed hold the entries read so far.
use Rattle.std.proofs.Common.{◌≡◌, ◌+◌, ◌*◌, ◌++◌, drop}
use Rattle.wire.specs.Message.{entry_length, entries_at}
use Rattle.wire.proofs.decode.clear_message.Given as goal

abbrev pub invariant-loop-entry : goal.invariant-loop-entry
invariant-loop-entry l =
    (l.rest.src ≡ l.initial.rest.src) × (l.rest.at ≡ l.initial.rest.at + entry_length * l.entry-index)
    × (l.entry-items ≡ entries_at l.entry-index l.initial.rest.src.now l.initial.rest.at ++ drop l.entry-index l.initial.entry-items)
