-- Eight bytes that are read give at most seventeen.
use Rattle.std.proofs.Common.{◌≡◌, ◌*◌, ◌≤◌, length}
use Rattle.decimal_numbers.proofs.put_lines.Given as goal

abbrev pub invariant-loop-number : goal.invariant-loop-number
invariant-loop-number l = (l.out.len ≤ 17 * length l.yielded) × (length l.out.bytes.now ≡ length l.fn.out.bytes.now)
