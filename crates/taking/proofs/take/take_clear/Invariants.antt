-- Reading: the places that are filled hold the entries read, and what is found of the entries that are left is what is found of all. Judging, likewise. Clearing: the entries that
-- are left make of the present words what all of them make of the first words.
use Rattle.std.proofs.Common.{◌≡◌, ◌-◌, length, take, drop, leb, ltb}
use Rattle.protocol.specs.Acceptance.{all_entries}
use Rattle.wire.specs.Message.{clear_length, entries_at, entries_in_range}
use Rattle.replica_model.specs.Layout.{cards, counters}
use Rattle.layout.specs.Effects.{Clearing}
use Rattle.taking.specs.ReadParts.{entries_from}
use Rattle.taking.specs.AbsentEntries.{RowWhole}
use Rattle.taking.specs.Taking.{entry_test}
use Rattle.taking.proofs.take.take_clear.Given as goal

abbrev pub invariant-loop-place : goal.invariant-loop-place
invariant-loop-place l =
    let s = l.fn.rest.src.now in
    let i = l.place-index in
    record {
      source : l.rest.src ≡ l.fn.rest.src;
      at : l.rest.at ≡ clear_length i;
      long : length l.entries ≡ l.len;
      held : take i l.entries ≡ entries_at i s entries_from;
      below : leb l.low (cards l.words) ≡ all_entries (λ e. ltb e.card (cards l.words)) (entries_at i s entries_from);
      left : entries_in_range l.low (entries_at (l.len - i) s l.rest.at) ≡ entries_in_range 0 (entries_at l.len s entries_from);
    }

abbrev pub invariant-loop-judged : goal.invariant-loop-judged
invariant-loop-judged l =
    let plausible = entry_test l.own l.ours l.sender l.theirs in
    all_entries plausible (drop l.judged-index l.judged-items) ≡ all_entries plausible l.judged-items

abbrev pub invariant-loop-applied : goal.invariant-loop-applied
invariant-loop-applied l = record {
  clearing : Clearing l.row.cards (counters l.initial.words) l.row.counter l.sender l.applied-items l.initial.words l.applied-index l.words;
  whole : RowWhole l.words l.row.cards l.row.counter;
}
