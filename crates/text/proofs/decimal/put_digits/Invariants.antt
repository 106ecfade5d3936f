-- The first digit first: what is left to store, stored behind what is stored, is the whole number.
use Rattle.std.proofs.Common.{◌≡◌, ◌-◌, ◌^◌, ◌<◌, length}
use Rattle.std.proofs.lemmas.List.Edits.{sets}
use Rattle.text.specs.DecimalLaws.{fixed}
use Rattle.text.proofs.decimal.put_digits.Given as goal

abbrev pub invariant-loop-i : goal.invariant-loop-i
invariant-loop-i l =
    (l.rest < 10 ^ (length l.powers - l.i))
    × (sets l.out l.i (fixed (length l.powers - l.i) l.rest) ≡ sets l.fn.out 0 (fixed (length l.powers) l.x))
