-- LAWS. What a card sends: with a well-formed row, an own N below MAX and room for the units, the messages of count and clear fit the own replica (`Fitting`) and can be written, and what is written reads as itself.
use Prim.Native.Nat.{ℕ, zero, suc, ◌+◌, ◌≤◌, ◌<◌}
use Rattle.std.specs.Prelude.{◌≡◌, true}
use Rattle.std.proofs.Math.Path.{refl}
use Rattle.std.proofs.Common.{◌∙◌, subst, ltb-true}
use mathlib.Core.List.{List, [], ◌∷◌, ◌++◌, append-nil}
use native.Mathlib.Omega.{arith}
use Rattle.std.proofs.Math.ListN.{length}
use Rattle.protocol.specs.Limits.{MAX, most_cards}
use Rattle.protocol.proofs.Cases.{by_test}
use Rattle.protocol.specs.declared.Entry.{Entry}
use Rattle.protocol.specs.declared.ClearEntry.{ClearEntry}
use Rattle.protocol.specs.Entry.{present, count_starts, count_p}
use Rattle.protocol.specs.Chassis.{Message, count_message, present_entries, clear_message}
use Rattle.protocol.proofs.StoreLaws.{shown}
use Rattle.protocol.specs.Rows.{WellFormedRow}
use Rattle.protocol.proofs.AcceptanceLaws.{flag≤1}
use Rattle.wire.specs.Message.{version_2, increment_length, clear_length, longest_message, message_bytes, message_length, entry_in_range, entries_in_range, in_range, message_at, reads}
use Rattle.wire.specs.Bounds.{HeaderBounds, increment_in_range_from, clear_in_range_from, increment_entries, clear_entries}
use Rattle.wire.specs.WriteLaws.{length_message_bytes, increment_message_length, clear_message_length}
use Rattle.wire.specs.RoundTrips.{message_read, read_as}
use Rattle.replica_model.specs.Layout.{cards, counters, own_card, C_of, N_of, entry_of}
use Rattle.replica_model.specs.ClaimTerms.{Right, RowOf, sent_as, Writable}
use Rattle.replica_model.proofs.RowLaws.{tests}
use Rattle.replica_model.proofs.FormatLaws.{on_wire_version}
use Rattle.replica_model.proofs.PresentLaws.{present_length, present_few}
use Rattle.replica_model.proofs.WellFormedKept.{FittingEntry, FittingEntries, Fitting}
use Rattle.replica_model.specs.Calls.{is_amount, holders, count_of, clear_of}

-- what the checks before a message that counts w is made leave
pub record Sending (b : List ℕ) (q w : ℕ) : Type 0 where
  pub right : Right b
  pub counter : q < counters b
  pub row : RowOf b q
  pub more : N_of (cards b) b (own_card b) < MAX
  pub room : C_of b (own_card b) + w ≤ MAX

-- ---- the entries of a clear: each fits, and the cards rise

module _ (own : ℕ) (C : ℕ → ℕ) where
  append_fits : (r : ℕ) (ts us : List ClearEntry) → FittingEntries r own C ts → FittingEntries r own C us → FittingEntries r own C (ts ++ us)
  append_fits r [] us f g = g
  append_fits r (t ∷ ts) us (f, fs) g = (f, append_fits r ts us fs g)

  fits_more : (r : ℕ) (ts : List ClearEntry) → FittingEntries r own C ts → FittingEntries (suc r) own C ts
  fits_more r [] f = tt
  fits_more r (t ∷ ts) (f, fs) = (record { known = omega arith; some = f.some; p≤c = f.p≤c; c≤MAX = f.c≤MAX; own≤C = f.own≤C }, fits_more r ts fs)

  -- one entry more, of a card behind all the others
  rises : (n low : ℕ) (ts : List ClearEntry) (t : ClearEntry) → n < most_cards → t.card ≡ n → FittingEntry (suc n) own C t → low ≤ n → FittingEntries n own C ts
      → entries_in_range low ts ≡ true → entries_in_range low (ts ++ t ∷ []) ≡ true
  unfolding entries_in_range entry_in_range
  rises n low [] t few e f l fs h = simp tests (omega arith, refl)
  rises n low (u ∷ us) t few e f l (g, gs) h = let k = simp tests at h in simp tests (k.0, rises n (u.card + 1) us t few e f (omega arith) gs k.1)

module _ (r own : ℕ) (C N : ℕ → ℕ) (row : ℕ → Entry) (k : WellFormedRow MAX r own C N row) where
  last_fits : (n : ℕ) → n < r → present (row n) ≡ true → FittingEntry (suc n) own C (record { card = n; p = (row n).p; c = (row n).c })
  last_fits n l t = record {
    known = omega arith;
    some = ltb-true 0 (row n).p t;
    p≤c = (k.entry n l).p≤c;
    c≤MAX = (k.entry n l).c≤most;
    own≤C = λ e. rw e k.own≤C;
  }

  present_fits : (n : ℕ) → n ≤ r → FittingEntries n own C (present_entries n row)
  unfolding present_entries
  present_fits zero l = tt
  present_fits (suc n) l =
      append_fits own C (suc n) (present_entries n row) _ (fits_more own C n (present_entries n row) (present_fits n (omega arith)))
      (by_test (present (row n)) (λ t. rw t (last_fits n l t, tt)) (λ t. rw t tt))

  present_in_range : (n : ℕ) → n ≤ r → r ≤ most_cards → entries_in_range 0 (present_entries n row) ≡ true
  unfolding present_entries entries_in_range
  present_in_range zero l few = refl
  present_in_range (suc n) l few =
      by_test (present (row n))
      (λ t. rw t (rises own C n 0 (present_entries n row) _ (omega arith) refl (last_fits n l t) (omega arith) (present_fits n (omega arith)) (present_in_range n (omega arith) few)))
      (λ t. rw (t, append-nil) (present_in_range n (omega arith) few))

-- ---- the messages of count and clear

count_p_near : (w known : ℕ) (e : Entry) → e.p ≤ known → (w ≤ count_p w known e) × (count_p w known e ≤ known + w)
count_p_near w known e l = by_test (present e) (λ t. rw t (omega arith)) (λ t. rw t (omega arith))

writable : (b : List ℕ) (m : Message) (size : ℕ) → let x = sent_as b m in
    in_range x ≡ true → length x.entries ≡ most_cards → message_length x ≡ size → size ≤ longest_message → Writable x size
writable b m size h whole long short =
    let x = sent_as b m in
    let r = subst (λ (v : ℕ). (reads v (message_bytes x) ≡ true) × (message_at v (message_bytes x) ≡ x)) (on_wire_version (own_card b) _ m) (read_as (message_bytes x) x (message_read x whole h)) in
    record { ranges = h; whole = whole; long = length_message_bytes x ∙ long; short = short; reads_well = r.0; reads_same = r.1 }

module _ (b : List ℕ) (q w : ℕ) (k : Sending b q w) where
  -- p of a count
  p_near : let p = count_p w (C_of b (own_card b)) (entry_of (cards b) b q (own_card b)) in (w ≤ p) × (p ≤ C_of b (own_card b) + w)
  p_near = count_p_near w (C_of b (own_card b)) (entry_of (cards b) b q (own_card b)) (omega (arith, k.row.tables.entry (own_card b) k.right.own, k.row.tables.own≤C))

  pub count_fits : is_amount w ≡ true → Fitting (cards b) (own_card b) (own_card b) (C_of b) (count_of b q w)
  unfolding count_message shown
  count_fits asked = let few = simp tests at asked in let near = p_near in (omega arith, near.1, k.room)

  pub clear_fits : Fitting (cards b) (own_card b) (own_card b) (C_of b) (clear_of b q)
  unfolding clear_message shown
  clear_fits = present_fits (cards b) (own_card b) (C_of b) (N_of (cards b) b) (entry_of (cards b) b q) k.row.tables (cards b) (omega arith)

  header : HeaderBounds version_2 (own_card b) (N_of (cards b) b (own_card b) + 1) q
  header = let r = k.right in let m = k.more in let l = k.counter in omega arith

  pub count_writable : is_amount w ≡ true → Writable (sent_as b (count_of b q w)) (increment_length version_2)
  unfolding count_message shown
  count_writable asked =
      let near = p_near in
      let few = simp tests at asked in
      let room = k.room in
      let start≤ = flag≤1 (count_starts (entry_of (cards b) b q (own_card b))) in
      writable b (count_of b q w) (increment_length version_2) (increment_in_range_from version_2 (own_card b) _ q _ _ w header (omega arith)) (increment_entries version_2 (own_card b) _ q _ _ w)
      (increment_message_length version_2 (own_card b) _ q _ _ w) (omega arith)

  pub clear_writable : Writable (sent_as b (clear_of b q)) (clear_length (holders b q))
  unfolding clear_message shown
  clear_writable =
      let es = present_entries (cards b) (entry_of (cards b) b q) in
      let same : length es ≡ holders b q = present_length (entry_of (cards b) b q) (cards b) in
      let most = present_few (entry_of (cards b) b q) (cards b) in
      let few = k.right.sizes.few_cards in
      let short : length es ≤ most_cards = omega arith in
      writable b (clear_of b q) _
      (clear_in_range_from version_2 (own_card b) _ q es header short
      (present_in_range (cards b) (own_card b) (C_of b) (N_of (cards b) b) (entry_of (cards b) b q) k.row.tables (cards b) (omega arith) few))
      (clear_entries version_2 (own_card b) _ q es short) (clear_message_length version_2 (own_card b) _ q es ∙ rw same) (omega arith)
