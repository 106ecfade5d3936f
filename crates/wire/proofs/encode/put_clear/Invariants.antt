-- The loop stores the entries in turn.
use Rattle.std.proofs.Common.{◌≡◌, length}
use Rattle.std.proofs.lemmas.List.Edits.{sets}
use Rattle.wire.specs.Message.{first_entry_at, entries_bytes}
use Rattle.wire.proofs.encode.put_clear.Given as goal

abbrev pub invariant-loop-i : goal.invariant-loop-i
invariant-loop-i l = (length l.out ≡ length l.initial.out) × (l.out ≡ sets l.initial.out first_entry_at (entries_bytes l.i l.entry-items))
