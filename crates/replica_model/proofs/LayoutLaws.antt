-- LAWS. The layout is a store whose accessors find after each setter what a table would give (`lawful`). Everything above uses these laws and no offset.
use Rattle.std.specs.Prelude.{ℕ, zero, suc, ◌+◌, ◌-◌, ◌*◌, ◌≤◌, ◌<◌, ◌≡◌, refl, ◌≢◌, Bool, false, List, length, get_or, set, replicate}
use Rattle.std.proofs.Common.{ap, ◌∙◌, mul-le-mul_right, arith, length-set, pow_pos, get_or-set_same, get_or-set_other, get_or-append-add}
use Rattle.std.proofs.lemmas.List.{length-replicate, set-get_or}
use Rattle.protocol.proofs.Cases.{by_place, by_le}
use Rattle.protocol.proofs.BitLaws.{bit, with_bit, bit_put, with_bit_below, no_bit}
use Rattle.protocol.proofs.Tables.{put, put_same, put_other, put_same_row, put_other_row}
use Rattle.protocol.specs.declared.Entry.{Entry}
use Rattle.protocol.specs.Entry.{has_entry}
use Rattle.protocol.specs.Chassis.{fresh_replica}
use Rattle.protocol.proofs.StoreLaws.{Shows, Lawful}
use Rattle.replica_model.specs.Layout.{Head, head_of, cards, counters, own_card, head_words, at_active, head_length, replica_length, at_C, at_N, cell, at_entry, active_word, active_of, C_of, entry_of, set_C, set_three, set_entry, set_active, Fits, layout, fresh_head, fresh_words}

-- ---- which entry is where: the one place with products

pub cell_below : (r k q j : ℕ) → q < k → j < r → cell r q j < r * k
cell_below r k q j hq hj = omega (arith, mul-le-mul_right r hq)

-- a later counter's entries stand behind
cell_later : (r q j q' j' : ℕ) → q < q' → j < r → cell r q j < cell r q' j'
cell_later r q j q' j' hq hj = omega (arith, mul-le-mul_right r hq)

cell_apart : (r q j q' j' : ℕ) → j < r → j' < r → (q' ≡ q → j' ≡ j → ⊥) → cell r q' j' ≢ cell r q j
cell_apart r q j q' j' hj hj' d e =
    by_le (suc q') q (λ l. omega (arith, cell_later r q' j' q j l hj'))
    (λ l. by_le (suc q) q' (λ l'. omega (arith, cell_later r q j q' j' l' hj))
    (λ l'. let h : q' ≡ q = omega arith in d h (let m = ap (λ (x : ℕ). x * r) h in omega arith)))

-- ---- three words in a row

pub set_entry_length : (r q j : ℕ) (e : Entry) (ws : List ℕ) → length (set_entry r q j e ws) ≡ length ws
set_entry_length r q j e ws = simp length-set

set_three_0 : (ws : List ℕ) (a x y z : ℕ) → a + 2 < length ws → get_or (set_three ws a x y z) a 0 ≡ x
set_three_0 ws a x y z h =
    get_or-set_other (set (set ws a x) (a + 1) y) (a + 2) a z 0 (λ e. omega arith)
    ∙ get_or-set_other (set ws a x) (a + 1) a y 0 (λ e. omega arith)
    ∙ get_or-set_same ws a x 0 (omega arith)

set_three_1 : (ws : List ℕ) (a x y z : ℕ) → a + 2 < length ws → get_or (set_three ws a x y z) (a + 1) 0 ≡ y
set_three_1 ws a x y z h =
    get_or-set_other (set (set ws a x) (a + 1) y) (a + 2) (a + 1) z 0 (λ e. omega arith)
    ∙ get_or-set_same (set ws a x) (a + 1) y 0 (simp length-set (omega arith))

set_three_2 : (ws : List ℕ) (a x y z : ℕ) → a + 2 < length ws → get_or (set_three ws a x y z) (a + 2) 0 ≡ z
set_three_2 ws a x y z h = get_or-set_same (set (set ws a x) (a + 1) y) (a + 2) z 0 (simp length-set (omega arith))

set_three_far : (ws : List ℕ) (a x y z i : ℕ) → i ≢ a → i ≢ a + 1 → i ≢ a + 2 → get_or (set_three ws a x y z) i 0 ≡ get_or ws i 0
set_three_far ws a x y z i d d₁ d₂ =
    get_or-set_other (set (set ws a x) (a + 1) y) (a + 2) i z 0 d₂
    ∙ get_or-set_other (set ws a x) (a + 1) i y 0 d₁
    ∙ get_or-set_other ws a i x 0 d

-- ---- what each accessor finds after each setter

same_entry : {p n c p' n' c' : ℕ} → p ≡ p' → n ≡ n' → c ≡ c' → ◌≡◌ {A = Entry} (record { p = p; n = n; c = c }) (record { p = p'; n = n'; c = c' })
same_entry a b d = λ i. record { p = a i; n = b i; c = d i }

module _ (r k : ℕ) where
  pub entry_entry : (q j : ℕ) (e : Entry) (ws : List ℕ) → length ws ≡ replica_length r k → q < k → j < r → (q' j' : ℕ) → q' < k → j' < r
      → entry_of r (set_entry r q j e ws) q' j' ≡ put q (put j e (entry_of r ws q)) (entry_of r ws) q' j'
  entry_entry q j e ws fits hq hj q' j' hq' hj' =
      by_place q' q
      (λ a. by_place j' j
      (λ b. rw (a, b) (simp (put_same_row, put_same) here))
      (λ d. rw (far (λ x y. d y), a) (simp (put_same_row, put_other))))
      (λ d. rw (far (λ x y. d x)) (simp put_other_row))
    where
      room : at_entry r q j + 2 < length ws
      room = let c = cell_below r k q j hq hj in omega arith

      far : (q' ≡ q → j' ≡ j → ⊥) → entry_of r (set_entry r q j e ws) q' j' ≡ entry_of r ws q' j'
      far d =
          let c = cell_apart r q j q' j' hj hj' d in
          same_entry
          (set_three_far ws (at_entry r q j) e.p e.n e.c (at_entry r q' j') (omega arith) (omega arith) (omega arith))
          (set_three_far ws (at_entry r q j) e.p e.n e.c (at_entry r q' j' + 1) (omega arith) (omega arith) (omega arith))
          (set_three_far ws (at_entry r q j) e.p e.n e.c (at_entry r q' j' + 2) (omega arith) (omega arith) (omega arith))

      here : entry_of r (set_entry r q j e ws) q j ≡ e
      here = same_entry (set_three_0 ws (at_entry r q j) e.p e.n e.c room) (set_three_1 ws (at_entry r q j) e.p e.n e.c room) (set_three_2 ws (at_entry r q j) e.p e.n e.c room)

  -- the words before the entries
  before_entry : (q j : ℕ) (e : Entry) (ws : List ℕ) (i : ℕ) → i < head_length + 2 * r → get_or (set_entry r q j e ws) i 0 ≡ get_or ws i 0
  before_entry q j e ws i l = set_three_far ws (at_entry r q j) e.p e.n e.c i (λ d. omega arith) (λ d. omega arith) (λ d. omega arith)

  entry_word : (i v : ℕ) (ws : List ℕ) → i < head_length + 2 * r → (q j : ℕ) → entry_of r (set ws i v) q j ≡ entry_of r ws q j
  entry_word i v ws l q j =
      same_entry (get_or-set_other ws i (at_entry r q j) v 0 (λ d. omega arith)) (get_or-set_other ws i (at_entry r q j + 1) v 0 (λ d. omega arith))
      (get_or-set_other ws i (at_entry r q j + 2) v 0 (λ d. omega arith))

  -- a table of words: `from` is its first place
  word_word : (from j v : ℕ) (ws : List ℕ) → from + j < length ws → (i : ℕ) → get_or (set ws (from + j) v) (from + i) 0 ≡ put j v (λ i. get_or ws (from + i) 0) i
  word_word from j v ws l i =
      by_place i j
      (λ e. rw e (rw put_same (get_or-set_same ws (from + j) v 0 l)))
      (λ d. rw put_other (get_or-set_other ws (from + j) (from + i) v 0 (λ e. d (omega arith))))

  -- the head, where its words stay
  same_head : (b b' : List ℕ) → ((i : ℕ) → i < at_active → get_or b' i 0 ≡ get_or b i 0) → head_of b' ≡ head_of b
  same_head b b' e = λ x. record { cards = e 0 (omega arith) x; counters = e 1 (omega arith) x; own_card = e 2 (omega arith) x }

  head_word : (at v : ℕ) (ws : List ℕ) → at_active ≤ at → head_of (set ws at v) ≡ head_of ws
  head_word at v ws l = same_head ws (set ws at v) (λ i below. get_or-set_other ws at i v 0 (λ d. omega arith))

  -- the active counters, behind a setter of something else
  active_word_entry : (q j : ℕ) (e : Entry) (ws : List ℕ) → active_word (set_entry r q j e ws) ≡ active_word ws
  active_word_entry q j e ws = before_entry q j e ws at_active (omega arith)

  active_word_other : (at v : ℕ) (ws : List ℕ) → head_length ≤ at → active_word (set ws at v) ≡ active_word ws
  active_word_other at v ws l = get_or-set_other ws at at_active v 0 (λ d. omega arith)

  fits_other : (at v : ℕ) (ws : List ℕ) → head_length ≤ at → Fits r k ws → Fits r k (set ws at v)
  fits_other at v ws l h = record { long = length-set ws at v ∙ h.long; low = rw (active_word_other at v ws l) h.low }

  pub fits_entry : (q j : ℕ) (e : Entry) (ws : List ℕ) → Fits r k ws → Fits r k (set_entry r q j e ws)
  fits_entry q j e ws h = record { long = set_entry_length r q j e ws ∙ h.long; low = rw (active_word_entry q j e ws) h.low }

  -- and behind their own
  active_word_set : (v : ℕ) (ws : List ℕ) → Fits r k ws → active_word (set ws at_active v) ≡ v
  active_word_set v ws h = let long = h.long in get_or-set_same ws at_active v 0 (omega arith)

  pub fits_active : (q : ℕ) (t : Bool) (ws : List ℕ) → q < k → Fits r k ws → Fits r k (set_active q t ws)
  fits_active q t ws hq h = record {
    long = length-set ws at_active _ ∙ h.long;
    low = rw (active_word_set (with_bit q t (active_word ws)) ws h) (with_bit_below q t (active_word ws) k hq h.low);
  }

  pub head_active : (q : ℕ) (t : Bool) (ws : List ℕ) → head_of (set_active q t ws) ≡ head_of ws
  head_active q t ws = head_word at_active _ ws (omega arith)

  active_set : (q : ℕ) (t : Bool) (ws : List ℕ) → Fits r k ws → (q' : ℕ) → active_of (set_active q t ws) q' ≡ put q t (active_of ws) q'
  active_set q t ws h q' = ap (λ (x : ℕ). bit x q') (active_word_set (with_bit q t (active_word ws)) ws h) ∙ bit_put q t (active_word ws) q'

  pub lawful : Lawful r k (layout r k)
  lawful = record {
    fits_entry = fits_entry;
    fits_C = λ j v ws h. fits_other (at_C j) v ws (omega arith) h;
    fits_N = λ j v ws h. fits_other (at_N r j) v ws (omega arith) h;
    fits_mark = λ q ws hq h. fits_active q (has_entry r (entry_of r ws q)) ws hq h;
    head_entry = λ q j e ws hj. same_head ws (set_entry r q j e ws) (λ i below. before_entry q j e ws i (omega arith));
    head_C = λ j v ws. head_word (at_C j) v ws (omega arith);
    head_N = λ j v ws. head_word (at_N r j) v ws (omega arith);
    head_mark = λ q ws. head_active q (has_entry r (entry_of r ws q)) ws;
    entry_entry = λ q j e ws h hq hj. entry_entry q j e ws h.long hq hj;
    C_entry = λ q j e ws hj j' l. before_entry q j e ws (at_C j') (omega arith);
    N_entry = λ q j e ws hj j' l. before_entry q j e ws (at_N r j') (omega arith);
    entry_C = λ j v ws hj q' j'. entry_word (at_C j) v ws (omega arith) q' j';
    C_C = λ j v ws h hj j' l. let long = h.long in word_word head_length j v ws (omega arith) j';
    N_C = λ j v ws hj j' l. get_or-set_other ws (at_C j) (at_N r j') v 0 (λ d. omega arith);
    entry_N = λ j v ws hj q' j'. entry_word (at_N r j) v ws (omega arith) q' j';
    C_N = λ j v ws hj j' l. get_or-set_other ws (at_N r j) (at_C j') v 0 (λ d. omega arith);
    N_N = λ j v ws h hj j' l. let long = h.long in word_word (head_length + r) j v ws (omega arith) j';
    entry_mark = λ q ws q' j'. entry_word at_active _ ws (omega arith) q' j';
    C_mark = λ q ws j'. get_or-set_other ws at_active (at_C j') _ 0 (λ d. omega arith);
    N_mark = λ q ws j'. get_or-set_other ws at_active (at_N r j') _ 0 (λ d. omega arith);
    active_mark = λ q ws h hq q'. active_set q (has_entry r (entry_of r ws q)) ws h q';
    active_entry = λ q j e ws q'. ap (λ (x : ℕ). bit x q') (active_word_entry q j e ws);
    active_C = λ j v ws q'. ap (λ (x : ℕ). bit x q') (active_word_other (at_C j) v ws (omega arith));
    active_N = λ j v ws q'. ap (λ (x : ℕ). bit x q') (active_word_other (at_N r j) v ws (omega arith));
  }

-- C[j] set to what it is
pub set_C_same : (j : ℕ) (ws : List ℕ) → set_C j (C_of ws j) ws ≡ ws
set_C_same j ws = set-get_or ws (at_C j) 0

-- ---- what a head that stays says

module _ (b b' : List ℕ) (same : head_of b' ≡ head_of b) where
  pub same_cards : cards b' ≡ cards b
  same_cards = ap (λ (h : Head). h.cards) same

  pub same_counters : counters b' ≡ counters b
  same_counters = ap (λ (h : Head). h.counters) same

  pub same_own : own_card b' ≡ own_card b
  same_own = ap (λ (h : Head). h.own_card) same

-- ---- a fresh replica

zeros : (n i : ℕ) → get_or (replicate {A = ℕ} n 0) i 0 ≡ 0
zeros zero i = refl
zeros (suc n) zero = refl
zeros (suc n) (suc i) = zeros n i

-- every word behind the first three is 0
fresh_word : (r k i x : ℕ) → at_active ≤ x → get_or (fresh_words r k i) x 0 ≡ 0
unfolding fresh_words
fresh_word r k i x l =
    let h : List ℕ = head_words (fresh_head r k i) in
    let e : x ≡ at_active + (x - at_active) = omega arith in
    ap (λ (y : ℕ). get_or (fresh_words r k i) y 0) e
    ∙ get_or-append-add h (replicate (1 + 2 * r + 3 * (r * k)) 0) (x - at_active) 0
    ∙ zeros (1 + 2 * r + 3 * (r * k)) (x - at_active)

-- so no counter is active
fresh_active : (r k i : ℕ) → active_word (fresh_words r k i) ≡ 0
fresh_active r k i = fresh_word r k i at_active (omega arith)

pub fresh_bit : (r k i q : ℕ) → active_of (fresh_words r k i) q ≡ false
fresh_bit r k i q = ap (λ (x : ℕ). bit x q) (fresh_active r k i) ∙ no_bit q

pub fresh_shows : (r k i : ℕ) → Shows (layout r k) r k (fresh_words r k i) fresh_replica
unfolding fresh_words
fresh_shows r k i = record {
  fits = record { long = fresh_length; low = rw (fresh_active r k i) (pow_pos k) };
  entries = λ q j hq hj.
      same_entry (fresh_word r k i (at_entry r q j) (omega arith)) (fresh_word r k i (at_entry r q j + 1) (omega arith))
      (fresh_word r k i (at_entry r q j + 2) (omega arith));
  Cs = λ j hj. fresh_word r k i (at_C j) (omega arith);
  Ns = λ j hj. fresh_word r k i (at_N r j) (omega arith);
}
  where
    fresh_length : length (fresh_words r k i) ≡ replica_length r k
    fresh_length = rw (length-replicate {A = ℕ} (1 + 2 * r + 3 * (r * k)) 0) (omega arith)
