-- Before each turn the number is not below the last power that it was compared with.
use Rattle.std.proofs.Common.{◌-◌, ◌^◌, ◌≤◌}
use Rattle.text.proofs.decimal.digit_count_of.Given as goal

abbrev pub invariant-loop-count : goal.invariant-loop-count
invariant-loop-count l = 2 ≤ l.count → 10 ^ (l.count - 1) ≤ l.x
