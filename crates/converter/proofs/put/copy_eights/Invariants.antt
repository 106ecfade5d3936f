-- The invariant: so many eights stand where they stood.
use Rattle.std.proofs.Common.{◌≡◌, ◌*◌, take, drop}
use Rattle.std.proofs.lemmas.List.Edits.{sets}
use Rattle.wire.specs.Number.{hyper_width}
use Rattle.converter.proofs.put.copy_eights.Given as goal

abbrev pub invariant-loop-i : goal.invariant-loop-i
invariant-loop-i l = l.out ≡ sets l.fn.out l.from (take (hyper_width * l.i) (drop l.from l.bytes))
