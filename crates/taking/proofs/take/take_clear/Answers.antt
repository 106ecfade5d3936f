-- The number of entries, the length, the ranges of the header, then entry by entry: bytes that pass read, and the places hold what was read. Then the checks of the row, those of
-- the sender, then whether each entry is plausible; past all, the entries are cleared one by one.
use Rattle.std.proofs.Common.{◌≡◌, ◌≢◌, ℕ, ◌+◌, ◌-◌, ◌≤◌, ◌<◌, Bool, true, false, List, length, get_or, take, refl, sym, ap, ◌∙◌, arith, add-one, length-set, leb, ltb}
use Rattle.std.proofs.Math.Seq.{take-length}
use Rattle.std.proofs.lemmas.List.{length-take-le, take_more_set}
use Rattle.std.proofs.lemmas.Result.{err_from_is_err_and}
use Rattle.protocol.specs.Limits.{most_cards, implausible}
use Rattle.protocol.specs.declared.Refusal.{Refusal}
use Rattle.protocol.specs.Refusals.{number_of}
use Rattle.protocol.specs.Checks.{first_failing}
use Rattle.protocol.specs.Acceptance.{all_entries, plausible}
use Rattle.protocol.specs.declared.ClearEntry.{ClearEntry}
use Rattle.wire.specs.declared.reader.Reader.{Reader}
use Rattle.wire.specs.declared.reader.Header.{Header}
use Rattle.wire.specs.Number.{int_at, int_width}
use Rattle.wire.specs.Message.{version_2, clear_kind, header_length, shortest_message, clear_length, no_entry, entries_at, entries_in_range, reads}
use Rattle.wire.specs.MessageParts.{header_at}
use Rattle.wire.specs.RangeLaws.{rest_in_range}
use Rattle.wire.specs.EntriesLaws.{entries_at_more, entries_passed, entries_failed}
use Rattle.wire.specs.Bounds.{entries_bounds}
use Rattle.replica_model.specs.Layout.{cards, counters, own_card, C_of, set_N, mark}
use Rattle.replica_model.specs.Format.{Received}
use Rattle.replica_model.specs.Calls.{TakeOutcome, not_taken, take_on}
use Rattle.replica_model.specs.ClaimTerms.{Right}
use Rattle.layout.specs.WordsLaws.{CInside, C_inside}
use Rattle.layout.specs.Effects.{Clearing, entry_cleared, clearing_begins, next_card, clearing_turn, clearing_ends}
use Rattle.taking.specs.ReadParts.{entries_from, clear_from, clear_many, clear_inexact, clear_tested, clear_received}
use Rattle.taking.specs.AbsentEntries.{RowWhole, row_whole, row_whole_cleared}
use Rattle.taking.specs.Taking.{row_checks, Given, sender_checks, entry_test, low_none, low_turn, entry_passed, entry_failed, entries_done, entries_plausible, row_refused, sender_refused, judged, Passed, is_passed, receives, taking_declined, was_taken, unread, read_judged, clear_after}
use Rattle.taking.proofs.take.take_clear.Goals as goal

-- a clear whose length word is n, few enough, and which has the length that n asks
record Counted (b s : List ℕ) (h : Header) (n : ℕ) : Type 0 where
  right : Right b
  header : h ≡ header_at s 0
  version : h.version ≡ version_2
  kind : h.kind ≡ clear_kind
  count : n ≡ int_at s header_length
  few : n ≤ most_cards
  exact : length s ≡ clear_length n

counted : (b : List ℕ) (h : Header) (rest behind : Reader) (n : ℕ)
    → Right b × (shortest_message ≤ length rest.src.now) × (h ≡ header_at rest.src.now 0) × (rest.at ≡ header_length) × (h.version ≡ version_2) × (h.kind ≡ clear_kind)
    → (n ≡ int_at rest.src.now rest.at) × (behind.src ≡ rest.src) × (behind.at ≡ rest.at + int_width)
    → n ≤ most_cards → {asked : ℕ} → asked ≡ clear_length n → length behind.src.now ≡ asked → Counted b rest.src.now h n
counted b h rest behind n (right, _, header, at, version, kind) (count, same, _) few is exact = record {
  right = right;
  header = header;
  version = version;
  kind = kind;
  count = rw at at count;
  few = few;
  exact = rw same at exact ∙ is;
}

abbrev entries : List ℕ → ℕ → List ClearEntry
entries s n = entries_at n s entries_from

module _ {b s : List ℕ} {h : Header} {n : ℕ} (k : Counted b s h n) {t : Bool} (is : t ≡ rest_in_range h.sender h.sequence h.counter) where
  -- whether the bytes read
  unfit : t ≡ false → false ≡ reads version_2 s
  unfit f = rw (sym is ∙ f) at (clear_tested s h k.header k.version k.kind n k.count k.few k.exact)

  fit : t ≡ true → entries_in_range 0 (entries s n) ≡ reads version_2 s
  fit e = rw (sym is ∙ e) at (clear_tested s h k.header k.version k.kind n k.count k.few k.exact)

-- the entries es have been read, all of them and in range
record Read (b s : List ℕ) (h : Header) (low : ℕ) (es : List ClearEntry) : Type 0 where
  right : Right b
  fits : entries_in_range 0 es ≡ true
  below : leb low (cards b) ≡ all_entries (λ e. ltb e.card (cards b)) es
  -- what they are taken as
  whole : judged b (clear_from h es) ≡ take_on b s

all_read : {b s : List ℕ} {h : Header} {n : ℕ} → Counted b s h n → {t : Bool} → t ≡ rest_in_range h.sender h.sequence h.counter → t ≡ true
    → (low at i : ℕ) (es : List ClearEntry) → i ≡ n → length es ≡ n → take i es ≡ entries s i → leb low (cards b) ≡ all_entries (λ e. ltb e.card (cards b)) (entries s i)
    → entries_in_range low (entries_at (n - i) s at) ≡ entries_in_range 0 (entries s n) → Read b s h low es
unfolding entries_at entries_in_range
all_read {b} {s} {h} {n} k is t low at i es same long held below left =
    let none : n - i ≡ 0 = omega arith in
    let fits : entries_in_range 0 (entries s n) ≡ true = sym (rw none at left) in
    let all : es ≡ entries s n = sym (take-length es) ∙ rw (long, ← same) held in
    rw all (record {
      right = k.right;
      fits = fits;
      below = rw same at below;
      whole = read_judged b s k.right (clear_from h (entries s n)) (clear_received s h k.header k.version k.kind n k.count) (sym (fit k is t) ∙ fits);
    })

module _ {b s : List ℕ} {h : Header} {low : ℕ} {es : List ClearEntry} (k : Read b s h low es) where
  row_answer : (x : Refusal) → number_of x ≡ first_failing (row_checks b h.counter) → not_taken (number_of x) b ≡ take_on b s
  row_answer x e = row_refused b (clear_from h es) x e ∙ k.whole

  module _ {r q : ℕ} (first : (r ≡ cards b) × (q ≡ h.counter)) where
    given : Given (cards b) (clear_from h es) h.sender h.sequence (leb low r)
    given = record { sender = refl; sequence = refl; entries = rw first.0 (sym k.below) }

    sender_answer : 0 ≡ first_failing (row_checks b h.counter) → (x : Refusal)
        → ((m : Received) → Given (cards b) m h.sender h.sequence (leb low r) → number_of x ≡ first_failing (sender_checks b m)) → not_taken (number_of x) b ≡ take_on b s
    sender_answer row x asked = sender_refused b (clear_from h es) row x (asked (clear_from h es) given) ∙ k.whole

-- the checks of the row and of the sender pass
record Shared (b s : List ℕ) (h : Header) (low : ℕ) (es : List ClearEntry) (r q : ℕ) : Type 0 where
  all : Read b s h low es
  first : (r ≡ cards b) × (q ≡ h.counter)
  row : 0 ≡ first_failing (row_checks b h.counter)
  sender : 0 ≡ first_failing (sender_checks b (clear_from h es))

shared : {b s : List ℕ} {h : Header} {low : ℕ} {es : List ClearEntry} → Read b s h low es → {r q : ℕ} → 0 ≡ first_failing (row_checks b h.counter) → (r ≡ cards b) × (q ≡ h.counter)
    → ((m : Received) → Given (cards b) m h.sender h.sequence (leb low r) → 0 ≡ first_failing (sender_checks b m)) → Shared b s h low es r q
shared {h} {es} k row first asked = record { all = k; first = first; row = row; sender = asked (clear_from h es) (given k first) }

module _ {b s : List ℕ} {h : Header} {low : ℕ} {es : List ClearEntry} {r q : ℕ} (k : Shared b s h low es r q) where
  passed : Passed b (clear_from h es)
  passed = is_passed b (clear_from h es) k.row k.sender

  sender_inside : CInside b h.sender
  sender_inside = C_inside b k.all.right h.sender passed.sender

  begins : Clearing r (counters b) q h.sender es b 0 b
  begins = rw (k.first.0, k.first.1) (clearing_begins _ _ _ _ _ _ (receives b (clear_from h es) k.all.right passed) passed.entries)

  begins_whole : RowWhole b r q
  begins_whole = rw (k.first.0, k.first.1) (row_whole b h.counter passed.row)

  module _ {own : ℕ} (mine : own ≡ own_card b) where
    apart : own ≢ h.sender
    apart e = passed.apart (sym mine ∙ e)

    module _ {ours theirs : ℕ} (first : ours ≡ C_of b own) (second : theirs ≡ C_of b h.sender) where
      -- the last check
      judged_as : all_entries (entry_test own ours h.sender theirs) es ≡ plausible (C_of b) (own_card b) h.sender (clear_from h es).content
      unfolding plausible
      judged_as = entries_plausible (C_of b) (own_card b) h.sender mine first second es

      declined : all_entries (entry_test own ours h.sender theirs) es ≡ false → not_taken implausible b ≡ take_on b s
      declined fails = taking_declined b (clear_from h es) k.row k.sender (sym judged_as ∙ fails) ∙ k.all.whole

      -- the words when the entries have been cleared
      taken : all_entries (entry_test own ours h.sender theirs) es ≡ true → (applied : ℕ) (b' : List ℕ) → Clearing r (counters b) q h.sender es b applied b' → length es ≤ applied
          → ◌≡◌ {A = TakeOutcome} (record { answer = record { number = 0; sequence = h.sequence }; words = set_N r h.sender h.sequence (mark r q b') }) (take_on b s)
      taken holds applied b' clearing done =
          let cleared = clearing_ends r (counters b) q h.sender es b applied b' clearing done in
          was_taken b (clear_from h es) k.row k.sender _ (sym judged_as ∙ holds)
          (rw k.first.1 (clear_after b b' (clear_from h es) r h.counter es k.first.0 refl passed (rw k.first.1 at cleared)))
          ∙ k.all.whole

  -- a turn of the loop that clears
  turn_whole : (applied : ℕ) (b' : List ℕ) → Clearing r (counters b) q h.sender es b applied b' → applied < length es → RowWhole b' r q
      → RowWhole (entry_cleared r q (get_or es applied no_entry) b') r q
  turn_whole applied b' clearing more all =
      let some = (entries_bounds 0 es k.all.fits applied more).p_some in
      let here = next_card r (counters b) q h.sender es b applied b' clearing more in
      row_whole_cleared b' r q (get_or es applied no_entry) clearing.receives.row here some all

pub returns-then-len-gt-MOST_ENTRIES : goal.returns-then-len-gt-MOST_ENTRIES
returns-then-len-gt-MOST_ENTRIES c =
    let (right, _, header, at, version, kind) = c.requires in
    unread _ _ right (clear_many _ _ header version kind _ (rw at at c.next-len.ensures.0) c.if-len-gt-MOST_ENTRIES.true)

pub returns-then-rest-clear_length : goal.returns-then-rest-clear_length
returns-then-rest-clear_length c =
    let (right, _, header, at, version, kind) = c.requires in
    let other = rw c.next-len.ensures.1 at c.if-rest-clear_length.true in
    unread _ _ right (clear_inexact _ _ header version kind _ (rw at at c.next-len.ensures.0) (λ e. other (e ∙ sym c.clear_length.ensures)))

pub returns-then-not-rest_in_range : goal.returns-then-not-rest_in_range
returns-then-not-rest_in_range c =
    let k = counted c.args.words.now c.args.header c.args.rest c.next-len.new.self c.next-len.result c.requires c.next-len.ensures c.if-len-gt-MOST_ENTRIES.false
    c.clear_length.ensures c.if-rest-clear_length.false in
    unread _ _ k.right (unfit k c.rest_in_range.ensures c.if-not-rest_in_range.true)

pub loop-place-init : goal.loop-place-init
unfolding entries_at
loop-place-init c =
    let at : c.next-len.new.self.at ≡ entries_from = omega (arith, c.requires.3, c.next-len.ensures.2) in
    let all : c.next-len.result - 0 ≡ c.next-len.result = omega arith in
    record {
      source = c.next-len.ensures.1;
      at = at;
      long = length-take-le _ _ c.if-len-gt-MOST_ENTRIES.false;
      held = refl;
      below = low_none (cards c.args.words.now) c.args.rest.src.now entries_from;
      left = rw (all, at);
    }

pub entry-e-requires : goal.entry-e-requires
entry-e-requires c =
    let k = counted c.args.words.now c.args.header c.args.rest c.next-len.new.self c.next-len.result c.requires c.next-len.ensures c.if-len-gt-MOST_ENTRIES.false
    c.clear_length.ensures c.if-rest-clear_length.false in
    let v = c.loop-place.invariant in
    rw v.source (omega (arith, k.exact, v.at, v.long))

pub returns-then-not-entry_in_range : goal.returns-then-not-entry_in_range
returns-then-not-entry_in_range c =
    let k = counted c.args.words.now c.args.header c.args.rest c.next-len.new.self c.next-len.result c.requires c.next-len.ensures c.if-len-gt-MOST_ENTRIES.false
    c.clear_length.ensures c.if-rest-clear_length.false in
    let v = c.loop-place.invariant in
    let found = rw v.source at c.entry-e.ensures.0 in
    let fails = entries_failed _ c.loop-place.low c.loop-place.place-index c.next-len.result c.args.rest.src.now c.loop-place.rest.at c.entry-e.result (omega arith) found v.left
    (sym c.entry_in_range.ensures ∙ c.if-not-entry_in_range.true) in
    unread _ _ k.right (fails ∙ fit k c.rest_in_range.ensures c.if-not-rest_in_range.false)

pub loop-place-preserved : goal.loop-place-preserved
loop-place-preserved c =
    let s = c.args.rest.src.now in
    let i = c.loop-place.place-index in
    let v = c.loop-place.invariant in
    let found = rw v.source at c.entry-e.ensures.0 in
    let stands = rw v.at at found in
    let fits = sym c.entry_in_range.ensures ∙ c.if-not-entry_in_range.false in
    record {
      source = c.entry-e.ensures.1 ∙ v.source;
      at = omega (arith, c.entry-e.ensures.2, v.at);
      long = length-set c.loop-place.entries i c.entry-e.result ∙ v.long;
      held = take_more_set c.loop-place.entries i c.entry-e.result (omega arith) ∙ rw (v.held, stands, add-one i) (sym (entries_at_more i s entries_from));
      below = low_turn _ _ _ s entries_from i _ stands fits c.next_card-low.ensures v.below;
      left = entries_passed _ c.loop-place.low i c.next-len.result s c.loop-place.rest.at c.entry-e.result (omega arith) found v.left _ _ fits c.next_card-low.ensures c.entry-e.ensures.2;
    }

pub returns-in_err-row : goal.returns-in_err-row
returns-in_err-row c =
    let k = counted c.args.words.now c.args.header c.args.rest c.next-len.new.self c.next-len.result c.requires c.next-len.ensures c.if-len-gt-MOST_ENTRIES.false
    c.clear_length.ensures c.if-rest-clear_length.false in
    let v = c.loop-place.invariant in
    let g = all_read k c.rest_in_range.ensures c.if-not-rest_in_range.false c.loop-place.low c.loop-place.rest.at c.loop-place.place-index c.loop-place.entries
    (omega arith) v.long v.held v.below v.left in
    let p = err_from_is_err_and c.from_residual.result c.from_residual.ensures.1 in
    rw (p.1, p.2) (row_answer g _ c.in_err-row.ensures.checked)

pub returns-in_err-check_sender : goal.returns-in_err-check_sender
returns-in_err-check_sender c =
    let k = counted c.args.words.now c.args.header c.args.rest c.next-len.new.self c.next-len.result c.requires c.next-len.ensures c.if-len-gt-MOST_ENTRIES.false
    c.clear_length.ensures c.if-rest-clear_length.false in
    let v = c.loop-place.invariant in
    let g = all_read k c.rest_in_range.ensures c.if-not-rest_in_range.false c.loop-place.low c.loop-place.rest.at c.loop-place.place-index c.loop-place.entries
    (omega arith) v.long v.held v.below v.left in
    let p = err_from_is_err_and c.from_residual-in_err-check_sender.result c.from_residual-in_err-check_sender.ensures.1 in
    rw (p.1, p.2) (sender_answer g c.in_ok-row.ensures.row c.in_ok-row.ensures.checked _ c.in_err-check_sender.ensures)

pub increments_at-theirs-requires : goal.increments_at-theirs-requires
increments_at-theirs-requires c =
    let k = counted c.args.words.now c.args.header c.args.rest c.next-len.new.self c.next-len.result c.requires c.next-len.ensures c.if-len-gt-MOST_ENTRIES.false
    c.clear_length.ensures c.if-rest-clear_length.false in
    let v = c.loop-place.invariant in
    let g = all_read k c.rest_in_range.ensures c.if-not-rest_in_range.false c.loop-place.low c.loop-place.rest.at c.loop-place.place-index c.loop-place.entries
    (omega arith) v.long v.held v.below v.left in
    let f = shared g c.in_ok-row.ensures.checked c.in_ok-row.ensures.row c.in_ok-check_sender.ensures in
    sender_inside f

pub is_entry_plausible-requires : goal.is_entry_plausible-requires
is_entry_plausible-requires c =
    let k = counted c.args.words.now c.args.header c.args.rest c.next-len.new.self c.next-len.result c.requires c.next-len.ensures c.if-len-gt-MOST_ENTRIES.false
    c.clear_length.ensures c.if-rest-clear_length.false in
    let v = c.loop-place.invariant in
    let g = all_read k c.rest_in_range.ensures c.if-not-rest_in_range.false c.loop-place.low c.loop-place.rest.at c.loop-place.place-index c.loop-place.entries
    (omega arith) v.long v.held v.below v.left in
    let f = shared g c.in_ok-row.ensures.checked c.in_ok-row.ensures.row c.in_ok-check_sender.ensures in
    apart f c.own_card-own.ensures

pub returns-then-not-is_entry_plausible : goal.returns-then-not-is_entry_plausible
returns-then-not-is_entry_plausible c =
    let k = counted c.args.words.now c.args.header c.args.rest c.next-len.new.self c.next-len.result c.requires c.next-len.ensures c.if-len-gt-MOST_ENTRIES.false
    c.clear_length.ensures c.if-rest-clear_length.false in
    let v = c.loop-place.invariant in
    let g = all_read k c.rest_in_range.ensures c.if-not-rest_in_range.false c.loop-place.low c.loop-place.rest.at c.loop-place.place-index c.loop-place.entries
    (omega arith) v.long v.held v.below v.left in
    let f = shared g c.in_ok-row.ensures.checked c.in_ok-row.ensures.row c.in_ok-check_sender.ensures in
    declined f c.own_card-own.ensures c.increments_at-ours.ensures c.increments_at-theirs.ensures
    (entry_failed _ _ c.loop-judged.judged-index c.loop-judged.invariant c.loop-judged-test.true (sym c.is_entry_plausible.ensures ∙ c.if-not-is_entry_plausible.true))

pub loop-judged-preserved : goal.loop-judged-preserved
loop-judged-preserved c =
    entry_passed _ _ c.loop-judged.judged-index c.loop-judged.invariant c.loop-judged-test.true (sym c.is_entry_plausible.ensures ∙ c.if-not-is_entry_plausible.false)

pub loop-applied-init : goal.loop-applied-init
loop-applied-init c =
    let k = counted c.args.words.now c.args.header c.args.rest c.next-len.new.self c.next-len.result c.requires c.next-len.ensures c.if-len-gt-MOST_ENTRIES.false
    c.clear_length.ensures c.if-rest-clear_length.false in
    let v = c.loop-place.invariant in
    let g = all_read k c.rest_in_range.ensures c.if-not-rest_in_range.false c.loop-place.low c.loop-place.rest.at c.loop-place.place-index c.loop-place.entries
    (omega arith) v.long v.held v.below v.left in
    let f = shared g c.in_ok-row.ensures.checked c.in_ok-row.ensures.row c.in_ok-check_sender.ensures in
    record { clearing = begins f; whole = begins_whole f }

pub clear_entry-requires : goal.clear_entry-requires
clear_entry-requires c =
    let v = c.loop-applied.invariant in
    let below = next_card _ _ _ _ _ _ _ _ v.clearing c.loop-applied-test.true in
    (v.clearing.receives.row, below, v.whole _ below)

pub loop-applied-preserved : goal.loop-applied-preserved
loop-applied-preserved c =
    let k = counted c.args.words.now c.args.header c.args.rest c.next-len.new.self c.next-len.result c.requires c.next-len.ensures c.if-len-gt-MOST_ENTRIES.false
    c.clear_length.ensures c.if-rest-clear_length.false in
    let v = c.loop-place.invariant in
    let g = all_read k c.rest_in_range.ensures c.if-not-rest_in_range.false c.loop-place.low c.loop-place.rest.at c.loop-place.place-index c.loop-place.entries
    (omega arith) v.long v.held v.below v.left in
    let f = shared g c.in_ok-row.ensures.checked c.in_ok-row.ensures.row c.in_ok-check_sender.ensures in
    let v = c.loop-applied.invariant in
    record {
      clearing = rw c.clear_entry.ensures (clearing_turn _ _ _ _ _ _ _ _ v.clearing c.loop-applied-test.true);
      whole = rw c.clear_entry.ensures (turn_whole f c.loop-applied.applied-index c.loop-applied.words v.clearing c.loop-applied-test.true v.whole);
    }

pub returns : goal.returns
returns c =
    let k = counted c.args.words.now c.args.header c.args.rest c.next-len.new.self c.next-len.result c.requires c.next-len.ensures c.if-len-gt-MOST_ENTRIES.false
    c.clear_length.ensures c.if-rest-clear_length.false in
    let v = c.loop-place.invariant in
    let g = all_read k c.rest_in_range.ensures c.if-not-rest_in_range.false c.loop-place.low c.loop-place.rest.at c.loop-place.place-index c.loop-place.entries
    (omega arith) v.long v.held v.below v.left in
    let f = shared g c.in_ok-row.ensures.checked c.in_ok-row.ensures.row c.in_ok-check_sender.ensures in
    let holds = entries_done _ _ c.loop-judged.judged-index c.loop-judged.invariant c.loop-judged-test.false in
    let after = c.set_messages.ensures ∙ ap (set_N c.in_ok-row.row.cards c.args.header.sender c.args.header.sequence) c.mark.ensures in
    rw after (taken f c.own_card-own.ensures c.increments_at-ours.ensures c.increments_at-theirs.ensures holds c.loop-applied.applied-index c.loop-applied.words
    c.loop-applied.invariant.clearing c.loop-applied-test.false)
