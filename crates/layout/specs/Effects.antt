-- LAWS. What a message that is received does to the words, from the parts that effect.rt computes one after the other.
use Rattle.std.specs.Prelude.{◌≡◌, ℕ, ◌+◌, ◌<◌, ◌≤◌, Bool, List, length, get_or, drop, slice_index_or, refl}
use Rattle.std.proofs.Common.{ap, ◌∙◌, arith, drop_of_length-le, drop-cons}
use Rattle.std.proofs.Math.Numerals.{add-one}
use Rattle.protocol.specs.declared.Entry.{Entry}
use Rattle.protocol.specs.declared.ClearEntry.{ClearEntry}
use Rattle.protocol.specs.Entry.{incremented, cleared}
use Rattle.protocol.specs.Chassis.{Message, increment, clearing, counter_of}
use Rattle.protocol.proofs.StoreLaws.{CardsBelow, cleared_words, taken_words, cleared_C, cleared_N}
use Rattle.wire.specs.Message.{no_entry}
use Rattle.replica_model.specs.Layout.{cards, counters, C_of, N_of, entry_of, set_C, set_N, set_entry, mark, layout}
use Rattle.replica_model.proofs.LayoutLaws.{lawful, set_C_same, set_entry_length}
use Rattle.replica_model.specs.Calls.{words_after}
use Rattle.layout.specs.WordsLaws.{RowInside, row_entry}

-- the largest that a word can hold
abbrev pub last_word : ℕ
last_word = 18446744073709551615

-- what an effector asks: a row inside the words, and the message's card in it
pub record Receives (b : List ℕ) (r q j : ℕ) : Type 0 where
  pub row : RowInside b r q
  pub card : j < r

receives_entry : (b : List ℕ) (r q j j' : ℕ) (e : Entry) → j' < r → Receives b r q j → Receives (set_entry r q j' e b) r q j
receives_entry b r q j j' e l h = record {
  row = row_entry b r q h.row j' e l;
  card = h.card;
}

-- one message more of card j, from which `received` increments had come, and w more
abbrev pub with_message : ℕ → ℕ → ℕ → ℕ → List ℕ → List ℕ
with_message r j received w b = set_N r j (N_of r b j + 1) (set_C j (received + w) b)

-- one entry of a clear
abbrev pub entry_cleared : ℕ → ℕ → ClearEntry → List ℕ → List ℕ
entry_cleared r q e b = set_entry r q e.card (cleared e.p e.c (C_of b e.card) (entry_of r b q e.card)) b

after_is : (b : List ℕ) (r s : ℕ) (m : Message) → r ≡ cards b → taken_words (layout r (counters b)) (counter_of m) s m b ≡ words_after s m b
unfolding words_after
after_is b r s m e = ap (λ (x : ℕ). taken_words (layout x (counters b)) (counter_of m) s m b) e

module _ (b : List ℕ) (r q j : ℕ) (h : Receives b r q j) where
  pub increment_taken : (w p : ℕ) (start : Bool)
      → with_message r j (C_of b j) w (mark r q (set_entry r q j (incremented w p start (C_of b j) (entry_of r b q j)) b)) ≡ words_after j (increment q w p start) b
  unfolding taken_words
  increment_taken w p start =
      let law = lawful r (counters b) in
      let e = incremented w p start (C_of b j) (entry_of r b q j) in
      rw (law.N_mark q (set_entry r q j e b) j, law.N_entry q j e b h.card j h.card, add-one (N_of r b j))
      (after_is b r j (increment q w p start) h.row.first)

  -- a clear, when its entries have been taken: it brings no increment, so C stays
  pub clear_taken : (es : List ClearEntry) (b' : List ℕ) → CardsBelow r es → b' ≡ cleared_words (layout r (counters b)) q es b
      → with_message r j (C_of b j) 0 (mark r q b') ≡ words_after j (clearing q es) b
  unfolding taken_words
  clear_taken es b' on e =
      let S = layout r (counters b) in
      let law = lawful r (counters b) in
      let C_stays : C_of (mark r q b') j ≡ C_of b j = law.C_mark q b' j ∙ rw e (cleared_C r (counters b) S law q es b on j h.card) in
      let N_stays : N_of r (mark r q b') j ≡ N_of r b j = law.N_mark q b' j ∙ rw e (cleared_N r (counters b) S law q es b on j h.card) in
      let same : C_of b j + 0 ≡ C_of (mark r q b') j = omega (arith, C_stays) in
      rw (same, set_C_same j (mark r q b'), N_stays, add-one (N_of r b j), e) (after_is b r j (clearing q es) h.row.first)

-- ---- the loop over a clear's entries

module _ (r k q j : ℕ) (es : List ClearEntry) (b : List ℕ) where
  -- what is left to do when the first i entries of the clear es have been taken, and b has become b'
  pub record Clearing (i : ℕ) (b' : List ℕ) : Type 0 where
    pub receives : Receives b' r q j
    pub left : CardsBelow r (drop i es)
    pub same : cleared_words (layout r k) q (drop i es) b' ≡ cleared_words (layout r k) q es b
    pub long : length b' ≡ length b

  pub clearing_begins : Receives b r q j → CardsBelow r es → Clearing 0 b
  clearing_begins h on = record { receives = h; left = on; same = refl; long = refl }

  module _ (i : ℕ) (b' : List ℕ) (h : Clearing i b') where
    module _ (l : i < length es) where
      pub next_card : (get_or es i no_entry).card < r
      next_card = (rw (drop-cons es i no_entry l) at h.left).0

      pub clearing_turn : Clearing (i + 1) (entry_cleared r q (slice_index_or es i no_entry) b')
      unfolding cleared_words
      clearing_turn = record {
        receives = receives_entry b' r q j _ _ next_card h.receives;
        left = rw (add-one i) (rw (drop-cons es i no_entry l) at h.left).1;
        same = rw (add-one i) (rw (drop-cons es i no_entry l) at h.same);
        long = set_entry_length r q _ _ b' ∙ h.long;
      }

    pub clearing_ends : length es ≤ i → b' ≡ cleared_words (layout r k) q es b
    unfolding cleared_words
    clearing_ends l = rw (drop_of_length-le es l) at h.same
