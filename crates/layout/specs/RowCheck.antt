-- LAWS. A row is well-formed, from what words.rt tests: that each entry is ordered, that all that is to be at most MAX, joined bit by bit, is, that the own entry is counted,
-- and that the bit agrees with what is joined. And every p, joined, says whether a row has an entry.
use Rattle.std.specs.Prelude.{◌≡◌, ℕ, zero, suc, ◌+◌, ◌-◌, ◌*◌, ◌<◌, ◌≤◌, true, false, ltb, List, bit_or, nat_le, nat_lt, slice_index}
use Rattle.std.proofs.Math.Path.{refl, sym}
use Rattle.std.proofs.Common.{◌∙◌, add-one, leb-true, le-leb, lt-ltb, le-ltb, ltb-false}
use Rattle.std.proofs.lemmas.Bool.{false≢true}
use native.Mathlib.Omega.{arith}
use Rattle.std.proofs.lemmas.Nat.{or_lt, and_le_l, and_le_r}
use Rattle.std.specs.Int.Bits.{or_add_and}
use borrow.Author.Count.{below_none, below_more}
use Rattle.protocol.specs.Limits.{MAX}
use Rattle.protocol.proofs.Cases.{by_test, by_le, by_place, not_yes, agrees_true, agrees_false}
use Rattle.protocol.specs.Functions.{agrees}
use Rattle.protocol.proofs.BitLaws.{any_none}
use Rattle.protocol.specs.Entry.{present, has_entry}
use Rattle.protocol.specs.declared.Entry.{Entry}
use Rattle.protocol.specs.Acceptance.{entry_well_formed}
use Rattle.protocol.proofs.AcceptanceLaws.{entry_from}
use Rattle.replica_model.specs.Layout.{cards, own_card, head_length, at_N, active_of, C_of, entry_of}
use Rattle.replica_model.specs.ClaimTerms.{RowOf}
use Rattle.replica_model.proofs.RowLaws.{row_facts, row_from, row_unmarked}
use Rattle.replica_model.specs.Calls.{row_well_formed}

-- what an entry of a well-formed row is, but for its bound
pub record Ordered (e : Entry) : Type 0 where
  pub cancelled : e.n ≤ e.p
  pub carried : e.p ≤ e.c
  pub empty : e.p ≡ 0 → e.c ≡ 0

-- the first n words behind the head, which are C and then N, joined bit by bit
unfoldable pub joined : ℕ → List ℕ → ℕ
joined zero b = 0
joined (suc n) b = bit_or (joined n b) (slice_index b (head_length + n))

-- c of row q's first n entries, in a replica of r cards
unfoldable pub row_joined : ℕ → List ℕ → ℕ → ℕ → ℕ
row_joined r b q zero = 0
row_joined r b q (suc n) = bit_or (row_joined r b q n) (entry_of r b q n).c

-- and their p
unfoldable pub p_joined : ℕ → List ℕ → ℕ → ℕ → ℕ
p_joined r b q zero = 0
p_joined r b q (suc n) = bit_or (p_joined r b q n) (entry_of r b q n).p

-- ---- what is joined is at most MAX exactly where each part is

-- joined with another number, none gets smaller
joined_least : (x y : ℕ) → (x ≤ bit_or x y) × (y ≤ bit_or x y)
joined_least x y = omega (arith, or_add_and x y, and_le_l x y, and_le_r x y)

-- and what has 48 bits keeps within them
joined_most : (x y : ℕ) → x ≤ MAX → y ≤ MAX → bit_or x y ≤ MAX
joined_most x y a b = omega (arith, or_lt 48 x y (omega arith) (omega arith))

-- the same of many: total n is the first n parts joined
module _ (total part : ℕ → ℕ) (none : total 0 ≡ 0) (turn : (n : ℕ) → total (suc n) ≡ bit_or (total n) (part n)) where
  total_most : (n : ℕ) → ((i : ℕ) → i < n → part i ≤ MAX) → total n ≤ MAX
  total_most zero each = omega (arith, none)
  total_most (suc n) each = rw (turn n) (joined_most (total n) (part n) (total_most n (λ i l. each i (omega arith))) (each n (omega arith)))

  -- and it is 0 exactly where each part is
  total_none : (n : ℕ) → ((i : ℕ) → i < n → part i ≡ 0) → total n ≡ 0
  total_none zero each = none
  total_none (suc n) each = rw (turn n, total_none n (λ i l. each i (omega arith)), each n (omega arith))

  part_least : (n : ℕ) (i : ℕ) → i < n → part i ≤ total n
  part_least zero i l = absurd (omega arith)
  part_least (suc n) i l =
      let least = joined_least (total n) (part n) in
      by_place i n (λ e. rw e (omega (arith, turn n))) (λ d. omega (arith, turn n, part_least n i (omega arith)))

  -- so where a part is not 0 just if its entry is present, what is joined says whether there is an entry
  total_some : (n : ℕ) (row : ℕ → Entry) → ((j : ℕ) → j < n → nat_lt 0 (part j) ≡ present (row j)) → nat_lt 0 (total n) ≡ has_entry n row
  total_some n row same =
      by_test (has_entry n row)
      (λ some. rw some
      (by_le (total n) 0
      (λ low. absurd (false≢true (sym ((any_none n _).1 (λ j l. sym (same j l) ∙ le-ltb 0 (part j) (omega (arith, part_least n j l)))) ∙ some)))
      (λ l. lt-ltb 0 _ l)))
      (λ empty. rw empty (le-ltb 0 (total n) (omega (arith, total_none n (λ j l. omega (arith, ltb-false 0 (part j) (same j l ∙ (any_none n _).0 empty j l)))))))

-- every p of a row, and every c where the entries are ordered
pub p_joined_some : (r : ℕ) (b : List ℕ) (q : ℕ) → nat_lt 0 (p_joined r b q r) ≡ has_entry r (entry_of r b q)
unfolding p_joined
p_joined_some r b q = total_some (p_joined r b q) (λ j. (entry_of r b q j).p) refl (λ n. refl) r (entry_of r b q) (λ j l. refl)

ordered_present : (e : Entry) → Ordered e → nat_lt 0 e.c ≡ present e
ordered_present e o =
    by_le 1 e.p
    (λ some. lt-ltb 0 e.c (omega (arith, o.carried)) ∙ sym (lt-ltb 0 e.p some))
    (λ few. le-ltb 0 e.c (omega (arith, o.empty (omega arith))) ∙ sym (le-ltb 0 e.p (omega arith)))

module _ (b : List ℕ) (q : ℕ) where
  -- a row whose numbers are too large is not well-formed
  row_too_large : MAX < bit_or (joined (2 * cards b) b) (row_joined (cards b) b q (cards b)) → row_well_formed b q ≡ false
  unfolding joined row_joined
  row_too_large high = not_yes _ (λ formed. let low = all_most (row_facts b q formed) in omega arith)
    where
      count_most : RowOf b q → (i : ℕ) → i < 2 * cards b → slice_index b (head_length + i) ≤ MAX
      count_most f i l =
          by_le (suc i) (cards b) (f.tables.C≤MAX i)
          (λ past.
          let same : at_N (cards b) (i - cards b) ≡ head_length + i = omega arith in
          rw same at (f.tables.N≤MAX (i - cards b) (omega arith)))

      all_most : RowOf b q → bit_or (joined (2 * cards b) b) (row_joined (cards b) b q (cards b)) ≤ MAX
      all_most f =
          joined_most _ _
          (total_most (λ n. joined n b) (λ i. slice_index b (head_length + i)) refl (λ n. refl) (2 * cards b) (count_most f))
          (total_most (row_joined (cards b) b q) (λ j. (entry_of (cards b) b q j).c) refl (λ n. refl) (cards b) (λ j l. (f.tables.entry j l).c≤most))

  module _ (ordered : (j : ℕ) → j < cards b → Ordered (entry_of (cards b) b q j)) where
    row_some : ltb 0 (row_joined (cards b) b q (cards b)) ≡ has_entry (cards b) (entry_of (cards b) b q)
    unfolding row_joined
    row_some =
        total_some (row_joined (cards b) b q) (λ j. (entry_of (cards b) b q j).c) refl (λ n. refl) (cards b) (entry_of (cards b) b q)
        (λ j l. ordered_present (entry_of (cards b) b q j) (ordered j l))

    -- where every entry is ordered, no number too large and the own entry counted, the bit decides
    row_decided : bit_or (joined (2 * cards b) b) (row_joined (cards b) b q (cards b)) ≤ MAX → (entry_of (cards b) b q (own_card b)).c ≤ C_of b (own_card b)
        → agrees (active_of b q) (nat_lt 0 (row_joined (cards b) b q (cards b))) ≡ row_well_formed b q
    unfolding joined row_joined
    row_decided low own =
        by_test (agrees (active_of b q) (nat_lt 0 (row_joined (cards b) b q (cards b))))
        (λ same. same ∙ sym (row_from b q (record {
          tables = record {
            C≤MAX = λ j k. count_most j (omega arith);
            N≤MAX = λ j k. let same : head_length + (cards b + j) ≡ at_N (cards b) j = omega arith in rw same at (count_most (cards b + j) (omega arith));
            entry = λ j k. let e = ordered j k in record { n≤p = e.cancelled; p≤c = e.carried; c≤most = c_most j k; absent_whole = e.empty };
            own≤C = own;
          };
          marked = agrees_true _ _ same ∙ row_some;
        })))
        (λ apart. apart ∙ sym (row_unmarked b q (λ marked. agrees_false _ _ apart (marked ∙ sym row_some))))
      where
        c_most : (j : ℕ) → j < cards b → (entry_of (cards b) b q j).c ≤ MAX
        c_most j l = omega (arith, low, joined_least (joined (2 * cards b) b) (row_joined (cards b) b q (cards b)), part_least (row_joined (cards b) b q) (λ j. (entry_of (cards b) b q j).c) refl (λ n. refl) (cards b) j l)

        count_most : (i : ℕ) → i < 2 * cards b → slice_index b (head_length + i) ≤ MAX
        count_most i l = omega (arith, low, joined_least (joined (2 * cards b) b) (row_joined (cards b) b q (cards b)), part_least (λ n. joined n b) (λ i. slice_index b (head_length + i)) refl (λ n. refl) (2 * cards b) i l)

  -- an own entry that is not counted is enough
  row_ahead : nat_le (entry_of (cards b) b q (own_card b)).c (C_of b (own_card b)) ≡ false → row_well_formed b q ≡ false
  row_ahead above = not_yes _ (λ formed. false≢true (sym above ∙ le-leb _ _ (row_facts b q formed).tables.own≤C))

  -- an entry that is not well-formed is enough
  entry_fails : (j : ℕ) → j < cards b → entry_well_formed (entry_of (cards b) b q j) ≡ false → row_well_formed b q ≡ false
  entry_fails j l f = not_yes _ (λ formed. false≢true (sym f ∙ entry_from _ ((row_facts b q formed).tables.entry j l)))

-- ---- a loop over the row's entries

-- behind the first j of them, in a replica of r cards: each is ordered, and `high` is their c, joined
pub record Checked (b : List ℕ) (r q j high : ℕ) : Type 0 where
  pub inside : j ≤ r
  pub ordered : (i : ℕ) → i < j → Ordered (entry_of r b q i)
  pub whole : high ≡ row_joined r b q j

-- before the first
pub check_begins : {b : List ℕ} {r q : ℕ} → Checked b r q 0 0
unfolding row_joined
check_begins = record { inside = omega arith; ordered = below_none _; whole = refl }

module _ {b : List ℕ} {r q j high : ℕ} (k : Checked b r q j high) where
  -- past one that is ordered
  pub check_turn : j < r → Ordered (entry_of r b q j) → Checked b r q (j + 1) (bit_or high (entry_of r b q j).c)
  unfolding row_joined
  check_turn l o = record { inside = omega arith; ordered = below_more _ j k.ordered o; whole = rw (add-one j, ← k.whole) }

  module _ (first : r ≡ cards b) where
    -- the next entry is not well-formed
    pub check_fails : j < r → entry_well_formed (entry_of r b q j) ≡ false → row_well_formed b q ≡ false
    check_fails l f = entry_fails b q j (rw first at l) (rw first at f)

-- no entry is left; `counts` is C and N joined
module _ {b : List ℕ} {r q high counts : ℕ} (k : Checked b r q r high) (first : r ≡ cards b) (all : counts ≡ joined (2 * r) b) where
  -- a number is too large
  pub check_too_large : MAX < bit_or counts high → row_well_formed b q ≡ false
  check_too_large large = row_too_large b q (rw (all, k.whole, first) at large)

  -- the own entry is not counted
  pub check_ahead : nat_le (entry_of r b q (own_card b)).c (C_of b (own_card b)) ≡ false → row_well_formed b q ≡ false
  check_ahead above = row_ahead b q (rw first at above)

  module _ (low : bit_or counts high ≤ MAX) (own : nat_le (entry_of r b q (own_card b)).c (C_of b (own_card b)) ≡ true) where
    -- or neither: then the bit is to be one exactly where there is an entry
    pub check_ends : agrees (active_of b q) (nat_lt 0 high) ≡ row_well_formed b q
    check_ends = rw (k.whole, first) (row_decided b q (rw first at k.ordered) (rw (all, k.whole, first) at low) (leb-true _ _ (rw first at own)))
