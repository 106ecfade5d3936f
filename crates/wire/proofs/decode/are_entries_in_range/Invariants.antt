-- What is found of the entries that are left, from the place where the next one stands, is what is found of all.
use Rattle.std.proofs.Common.{◌≡◌, ◌+◌, ◌-◌, ◌*◌, ◌≤◌, length}
use Rattle.wire.specs.Message.{entry_length, entries_at, entries_in_range}
use Rattle.wire.proofs.decode.are_entries_in_range.Given as goal

abbrev pub invariant-loop : goal.invariant-loop
invariant-loop l =
    (l.rest.at + entry_length * (l.count - l.counter) ≤ length l.rest.src.now)
    × (entries_in_range l.low (entries_at (l.count - l.counter) l.rest.src.now l.rest.at) ≡ entries_in_range 0 (entries_at l.count l.fn.rest.src.now l.fn.rest.at))
