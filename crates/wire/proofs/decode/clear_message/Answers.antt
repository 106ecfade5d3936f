-- Bytes that read have room for the entries that they count; the message holds those read so far, and zeros past them.
use Rattle.std.proofs.Common.{◌≡◌, ℕ, ◌-◌, ◌≤◌, true, List, ◌++◌, length, take, drop, replicate, sym, refl, ◌∙◌, arith, append-nil, length-take-le, drop_of_length-le}
use Rattle.std.proofs.lemmas.List.{drop-replicate}
use Rattle.protocol.specs.Limits.{most_cards}
use Rattle.protocol.specs.declared.ClearEntry.{ClearEntry}
use Rattle.wire.specs.Number.{int_at}
use Rattle.wire.specs.Message.{clear_kind, header_length, clear_length, count_at, no_entry, entries_at, reads}
use Rattle.wire.specs.MessageParts.{Header, header_at}
use Rattle.wire.specs.EntriesLaws.{entries_stored}
use Rattle.wire.specs.MessagePartsLaws.{header_read}
use Rattle.wire.specs.RoundTrips.{read_long, read_count, clear_parts}
use Rattle.wire.proofs.decode.clear_message.Goals as goal

counted : (s : List ℕ) (h : Header) (at n : ℕ) → reads h.version s ≡ true → h ≡ header_at s 0 → at ≡ header_length → h.kind ≡ clear_kind → n ≡ int_at s at
    → (n ≡ int_at s count_at) × (n ≤ most_cards) × (length s ≡ clear_length n)
counted s h at n fits header behind kind count =
    let found : n ≡ int_at s count_at = rw behind at count in
    let r = read_count h.version s fits (sym (header_read s h header).kind ∙ kind) in
    (found, rw found r.0, rw found r.1)

-- past the last entry read all places are as they were
places_left : (n i : ℕ) (es : List ClearEntry) → i ≡ n → n ≤ most_cards
    → es ++ drop i (take n (replicate most_cards no_entry)) ++ drop n (replicate most_cards no_entry) ≡ es ++ replicate (most_cards - n) no_entry
places_left n i es all few =
    let long = length-take-le n (replicate most_cards no_entry) few in
    let past : length (take n (replicate most_cards no_entry)) ≤ n = omega (arith, long) in
    rw (all, drop_of_length-le (take n (replicate most_cards no_entry)) past, append-nil, drop-replicate n most_cards no_entry)

pub next-count-requires : goal.next-count-requires
next-count-requires c = omega (arith, read_long c.args.header.version c.args.rest.src.now c.requires.0)

pub slice_bounds-entries-end : goal.slice_bounds-entries-end
slice_bounds-entries-end c = (counted c.args.rest.src.now c.args.header c.args.rest.at c.next-count.result c.requires.0 c.requires.1 c.requires.2 c.requires.3 c.next-count.ensures.0).1

pub slice_bounds-entry-items-end : goal.slice_bounds-entry-items-end
slice_bounds-entry-items-end c =
    let few = (counted c.args.rest.src.now c.args.header c.args.rest.at c.next-count.result c.requires.0 c.requires.1 c.requires.2 c.requires.3 c.next-count.ensures.0).1 in
    sym (length-take-le c.next-count.result (replicate most_cards no_entry) few)

pub loop-entry-init : goal.loop-entry-init
unfolding entries_at
loop-entry-init c = (refl, omega arith, refl)

pub entry-requires : goal.entry-requires
entry-requires c =
    let at = c.loop-entry in
    let n = c.next-count in
    let r = counted c.args.rest.src.now c.args.header c.args.rest.at n.result c.requires.0 c.requires.1 c.requires.2 c.requires.3 n.ensures.0 in
    let long = length-take-le n.result (replicate most_cards no_entry) r.1 in
    rw (at.invariant.0, n.ensures.1) (omega (arith, at.invariant.1, n.ensures.2, c.requires.2, r.2, long, c.loop-entry-test.true))

pub loop-entry-preserved : goal.loop-entry-preserved
loop-entry-preserved c =
    let at = c.loop-entry in
    let n = c.next-count in
    let stored = entries_stored at.entry-index n.new.self.src.now n.new.self.at at.rest.at (take n.result (replicate most_cards no_entry)) c.loop-entry-test.true at.invariant.1 in
    (c.entry.ensures.1 ∙ at.invariant.0, omega (arith, c.entry.ensures.2, at.invariant.1), rw (at.invariant.2, c.entry.ensures.0, at.invariant.0) stored)

pub returns : goal.returns
returns c =
    let s = c.args.rest.src.now in
    let header = c.args.header in
    let h = header_read s header c.requires.1 in
    let at = c.loop-entry in
    let n = c.next-count in
    let r = counted s header c.args.rest.at n.result c.requires.0 c.requires.1 c.requires.2 c.requires.3 n.ensures.0 in
    let long = length-take-le n.result (replicate most_cards no_entry) r.1 in
    let all : at.entry-index ≡ n.result = omega (arith, long, c.loop-entry-test.false) in
    let left = places_left n.result at.entry-index (entries_at at.entry-index n.new.self.src.now n.new.self.at) all r.1 in
    rw (at.invariant.2, left, all, n.ensures.1, n.ensures.2, c.requires.2, r.0, h.sender, h.sequence, h.counter) (clear_parts header.version s (sym h.kind ∙ c.requires.3))
