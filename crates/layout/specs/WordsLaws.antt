-- LAWS. What the functions of words.rt ask of the words (the place that they read lies inside) and what their proofs cite. Beside words.rt only this
-- file and `RowCheck` know the layout (replica_model/specs/Layout.antt).
use Rattle.std.specs.Prelude.{◌≡◌, ℕ, suc, ◌+◌, ◌*◌, ◌^◌, ◌<◌, ◌≤◌, Bool, true, false, cond, ◌&&◌, ◌||◌, List, [], ◌∷◌, ◌++◌, length, set, replicate, ◌≢◌, nat_lt, ltb, slice_index, slice_set, refl}
use Rattle.std.proofs.Common.{sym, ap, ◌∙◌, mul-le-mul, arith, length-set, get_or-set_same, get_or-set_other, set-set, ne_eqb, lt-ltb}
use Rattle.std.proofs.lemmas.List.{set_comm}
use Rattle.protocol.specs.Limits.{most_cards, most_counters, bad_replica, bad_counter}
use Rattle.protocol.specs.Refusals.{number_of}
use Rattle.protocol.specs.declared.Refusal.{Refusal}
use Rattle.protocol.specs.Checks.{Check, or_else, checked, first_failing}
use Rattle.protocol.proofs.RefusalLaws.{refusal_some}
use Rattle.protocol.proofs.ChecksLaws.{first_refuses, checked_append}
use Rattle.protocol.proofs.Cases.{and_no_left, and_no_right}
use Rattle.protocol.proofs.BitLaws.{with_bit, with_bit_again, any_some}
use Rattle.protocol.proofs.Tables.{put_same, put_other, put_same_row}
use Rattle.protocol.specs.Entry.{present, has_entry}
use Rattle.protocol.specs.declared.Entry.{Entry}
use Rattle.replica_model.specs.Layout.{cards, counters, own_card, head_length, replica_length, at_active, at_C, at_N, at_entry, active_word, C_of, N_of, entry_of, set_three, set_entry, set_active, mark, Fits, fresh_words}
use Rattle.replica_model.proofs.LayoutLaws.{lawful, cell_below, fits_entry, fits_active, head_active, same_cards, same_counters}
use Rattle.replica_model.specs.ClaimTerms.{Right}
use Rattle.replica_model.proofs.RowLaws.{tests, right_after, right_from}
use Rattle.replica_model.specs.Calls.{sizes_in_range, replica_fits, right}

-- ---- places inside the words: the head, C[j], N[j], and row q of a right replica of r cards

abbrev pub HeadInside : List ℕ → Type 0
HeadInside b = head_length ≤ length b

abbrev pub CInside : List ℕ → ℕ → Type 0
CInside b j = at_C j < length b

abbrev pub NInside : ℕ → List ℕ → ℕ → Type 0
NInside r b j = at_N r j < length b

pub record RowInside (b : List ℕ) (r q : ℕ) : Type 0 where
  pub right : Right b
  pub first : r ≡ cards b
  pub counter : q < counters b

module _ (b : List ℕ) (f : Right b) where
  pub head_inside : HeadInside b
  head_inside = let long = f.fits in omega arith

  pub C_inside : (j : ℕ) → j < cards b → CInside b j
  C_inside j l = let long = f.fits in omega arith

  pub N_inside : (j : ℕ) → j < cards b → NInside (cards b) b j
  N_inside j l = let long = f.fits in omega arith

module _ (b : List ℕ) (r q : ℕ) (h : RowInside b r q) where
  pub few_cards : r ≤ most_cards
  few_cards = rw h.first h.right.sizes.few_cards

  pub row_C : (j : ℕ) → j < r → CInside b j
  row_C j l = C_inside b h.right j (rw h.first at l)

  pub row_N : (j : ℕ) → j < r → NInside r b j
  row_N j l = rw h.first (N_inside b h.right j (rw h.first at l))

  pub few_counters : q < most_counters
  few_counters = let l = h.counter in let few = h.right.sizes.few_counters in omega arith

  -- no product wraps on the way to the row's entries
  pub product_small : q * r ≤ most_counters * most_cards
  product_small =
      let l = h.counter in
      let few = h.right.sizes.few_counters in
      let low : q ≤ most_counters = omega arith in
      mul-le-mul low few_cards

  pub entry_inside : (j : ℕ) → j < r → at_entry r q j + 2 < length b
  entry_inside j l =
      let long = h.right.fits in
      let same : r * counters b ≡ cards b * counters b = ap (λ (x : ℕ). x * counters b) h.first in
      let first = h.first in
      omega (arith, cell_below r (counters b) q j h.counter l)

  row_fits : Fits r (counters b) b
  row_fits = rw h.first (record { long = h.right.fits; low = h.right.low })

  -- an entry that is put leaves the row where it is
  pub row_entry : (j : ℕ) (e : Entry) → j < r → RowInside (set_entry r q j e b) r q
  row_entry j e l =
      let after = set_entry r q j e b in
      let same = (lawful r (counters b)).head_entry q j e b l in
      record {
        right = right_after b after same (rw (← h.first) (fits_entry r (counters b) q j e b row_fits)) h.right;
        first = h.first ∙ sym (same_cards b after same);
        counter = rw (same_counters b after same) h.counter;
      }

  -- and so does its bit
  pub row_active : (t : Bool) → RowInside (set_active q t b) r q
  row_active t =
      let after = set_active q t b in
      let same = head_active (cards b) (counters b) q t b in
      record {
        right = right_after b after same (fits_active (cards b) (counters b) q t b h.counter (record { long = h.right.fits; low = h.right.low })) h.right;
        first = h.first ∙ sym (same_cards b after same);
        counter = rw (same_counters b after same) h.counter;
      }

  -- what is found behind it: the entry that is put, and the others of its row
  module _ (j : ℕ) (e : Entry) (l : j < r) where
    pub put_here : entry_of r (set_entry r q j e b) q j ≡ e
    put_here = (lawful r (counters b)).entry_entry q j e b row_fits h.counter l q j h.counter l ∙ put_same_row q _ (entry_of r b) j ∙ put_same j e (entry_of r b q)

    pub put_elsewhere : (i : ℕ) → i < r → (i ≢ j) → entry_of r (set_entry r q j e b) q i ≡ entry_of r b q i
    put_elsewhere i m other =
        (lawful r (counters b)).entry_entry q j e b row_fits h.counter l q i h.counter m ∙ put_same_row q _ (entry_of r b) i ∙ put_other j e (entry_of r b q) i other

    -- so a row in which an entry is put that is present has one
    pub mark_present : present e ≡ true → set_active q true (set_entry r q j e b) ≡ mark r q (set_entry r q j e b)
    mark_present some =
        let active : has_entry r (entry_of r (set_entry r q j e b) q) ≡ true = any_some r _ j l (ap present put_here ∙ some) in
        ap (λ (t : Bool). set_active q t (set_entry r q j e b)) (sym active)

-- ---- row q's bit set to t: the words from C on stay

module _ (q : ℕ) (t : Bool) (b : List ℕ) where
  word_active : (i : ℕ) → head_length ≤ i → slice_index (set_active q t b) i ≡ slice_index b i
  word_active i l = get_or-set_other b at_active i _ 0 (λ d. omega arith)

  pub length_active : length (set_active q t b) ≡ length b
  length_active = length-set b at_active _

  pub C_active : (i : ℕ) → C_of (set_active q t b) i ≡ C_of b i
  C_active i = word_active (at_C i) (omega arith)

  pub N_active : (r i : ℕ) → N_of r (set_active q t b) i ≡ N_of r b i
  N_active r i = word_active (at_N r i) (omega arith)

  pub entry_active : (r q' i : ℕ) → entry_of r (set_active q t b) q' i ≡ entry_of r b q' i
  entry_active r q' i = rw (word_active (at_entry r q' i) (omega arith), word_active (at_entry r q' i + 1) (omega arith), word_active (at_entry r q' i + 2) (omega arith))

  -- an entry put after that might as well be put before
  pub entry_then_active : (r j : ℕ) (e : Entry) → set_entry r q j e (set_active q t b) ≡ set_active q t (set_entry r q j e b)
  entry_then_active r j e =
      let at = at_entry r q j in
      let v = with_bit q t (active_word b) in
      let b₁ = set b at e.p in
      let b₂ = set b₁ (at + 1) e.n in
      let word : active_word (slice_set b₂ (at + 2) e.c) ≡ active_word b
      = get_or-set_other b₂ (at + 2) at_active e.c 0 (λ d. omega arith) ∙ get_or-set_other b₁ (at + 1) at_active e.n 0 (λ d. omega arith) ∙ get_or-set_other b at at_active e.p 0 (λ d. omega arith) in
      ap (λ (x : List ℕ). set (slice_set x (at + 1) e.n) (at + 2) e.c) (set_comm b at_active at v e.p (λ d. omega arith))
      ∙ ap (λ (x : List ℕ). set x (at + 2) e.c) (set_comm b₁ at_active (at + 1) v e.n (λ d. omega arith))
      ∙ set_comm b₂ at_active (at + 2) v e.c (λ d. omega arith)
      ∙ ap (λ (x : ℕ). set (slice_set b₂ (at + 2) e.c) at_active (with_bit q t x)) (sym word)

  -- and set again, only the last counts
  active_again : at_active < length b → (u : Bool) → set_active q u (set_active q t b) ≡ set_active q u b
  active_again l u =
      let v = with_bit q t (active_word b) in
      ap (λ (x : ℕ). set (slice_set b at_active v) at_active (with_bit q u x)) (get_or-set_same b at_active v 0 l)
      ∙ set-set b at_active v (with_bit q u v)
      ∙ ap (λ (x : ℕ). set b at_active x) (with_bit_again q t (active_word b) u)

-- set to s, and then to one where t says so
pub active_or : (q : ℕ) (s t : Bool) (b : List ℕ) → HeadInside b → cond t (set_active q true (set_active q s b)) (set_active q s b) ≡ set_active q (s || t) b
active_or q true true b l = active_again q true b (omega arith) true
active_or q true false b l = refl
active_or q false true b l = active_again q false b (omega arith) true
active_or q false false b l = refl

-- ---- a replica is right

-- a list shorter than the head has another length than any replica
pub short_wrong : (b : List ℕ) → length b < head_length → false ≡ right b
unfolding right replica_fits
short_wrong b l =
    sym (and_no_left (replica_fits (cards b) (counters b) (own_card b) (length b)) _
    (and_no_right (sizes_in_range (cards b) (counters b) && nat_lt (own_card b) (cards b)) _ (ne_eqb (length b) (replica_length (cards b) (counters b)) (λ e. omega arith))))

-- what its head says, where that is as it should be, and the word of bits
pub right_by_bits : (b : List ℕ) → replica_fits (cards b) (counters b) (own_card b) (length b) ≡ true → nat_lt (active_word b) (2 ^ counters b) ≡ right b
unfolding right
right_by_bits b h = rw h

pub fits_wrong : (b : List ℕ) → replica_fits (cards b) (counters b) (own_card b) (length b) ≡ false → false ≡ right b
unfolding right
fits_wrong b h = rw h

pub fits_counters : (r k own n : ℕ) → replica_fits r k own n ≡ true → (1 ≤ k) × (k ≤ most_counters)
unfolding replica_fits sizes_in_range
fits_counters r k own n h = let f = simp tests at h in omega arith

-- ---- a call on one counter: "1, 3", and what else it asks

abbrev pub counter_checks : List ℕ → ℕ → List Check
counter_checks b q = or_else (right b) bad_replica ∷ or_else (ltb q (counters b)) bad_counter ∷ []

module _ {A : Type 0} (b : List ℕ) (q : ℕ) (refusal : ℕ → A) (rest : List Check) (result : A) where
  -- a refusal by these is the call's
  pub counter_refused : (x : Refusal) → number_of x ≡ first_failing (counter_checks b q) → refusal (number_of x) ≡ checked refusal (counter_checks b q ++ rest) result
  counter_refused x found =
      rw found (first_refuses refusal (checked refusal rest result) (counter_checks b q) (λ none. refusal_some x (found ∙ none)))
      ∙ sym (checked_append refusal (counter_checks b q) rest result)

  -- and else the rest decides
  pub counter_passed : (r : ℕ) → RowInside b r q → checked refusal rest result ≡ checked refusal (counter_checks b q ++ rest) result
  counter_passed r h = rw (right_from b h.right, lt-ltb q (counters b) h.counter)

-- ---- a fresh replica

-- what is opened is as long as it asks
pub fits_long : (r k own n : ℕ) → replica_fits r k own n ≡ true → n ≡ replica_length r k
unfolding replica_fits
fits_long r k own n h = (simp tests at h).1

-- the words with another head
abbrev pub with_head : ℕ → ℕ → ℕ → List ℕ → List ℕ
with_head r k own b = set_three b 0 r k own

pub fresh_made : (n r k own : ℕ) → n ≡ replica_length r k → with_head r k own (replicate {A = ℕ} n 0) ≡ fresh_words r k own
unfolding fresh_words
fresh_made n r k own e = let long : n ≡ suc (suc (suc (1 + 2 * r + 3 * (r * k)))) = omega arith in rw long
