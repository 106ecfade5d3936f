-- LAWS. One card: its replica against every origin at once, and its two sets of the ledger of q. `CardOk` is the whole invariant at a card.
--     card-more      some origin makes one more message
--     card-taken     the card takes the message that is next from some origin
use Rattle.std.specs.Prelude.{ℕ, suc, ◌+◌, ◌<◌, max, ◌≡◌, refl, Bool, cond, List, [], ◌∷◌, ◌++◌, map, length, get_or}
use Rattle.std.proofs.Common.{sym, ap, ◌∙◌, le_refl}
use Rattle.std.proofs.Math.Bool.{true, false}
use native.Mathlib.Omega.{arith}
use Rattle.protocol.proofs.Cases.{by_place}
use Rattle.protocol.proofs.Tables.{put, put_same, put_other, put_at, put_same_row, put_other_row, put_agrees}
use Rattle.protocol.specs.Entry.{Entry, incremented}
use Rattle.protocol.proofs.Marks.{Mark, after_other, later_of}
use Rattle.protocol.proofs.EntryLaws.{cancelled_by_increment}
use Rattle.protocol.specs.Names.{Name, join, insert, names_after, names_up_to}
use Rattle.protocol.proofs.NameLaws.{Prefixes, Prefixes_cong, join_ok}
use Rattle.protocol.specs.Ledger.{Item, nothing}
use Rattle.protocol.specs.Chassis.{Message, increment, clearing, Replica, cleared_row, taken, counter_of, units_of}
use Rattle.protocol.proofs.Chain.{Note, other, inc, clr, no_note, Target, cleared_entry, wire, mark_at, ValidNotes, OnChain, note_ok, mark_suc, mark_append}
use Rattle.protocol.proofs.Pairs.{PairOk, pair_more, pair_other, pair_clear_taken, pair_increment, pair_clear, later_names}

-- The mark of what the card of replica b has received from j. (An abbrev, and above every section: inside one it would carry the section's proofs
-- into each statement that names it, and `rw` would refuse to rewrite there.)
abbrev pub seen : (ℕ → List Note) → Replica → ℕ → Mark
seen notes b j = mark_at (b.N j) (notes j)

-- `row` has the marks up to which the card has each origin's names cancelled
pub record CardOk (q : ℕ) (notes : ℕ → List Note) (row : ℕ → Mark) (b : Replica) (received cancelled : List Name) : Type 0 where
  pub pairs : (j : ℕ) → PairOk (notes j) (b.N j) (b.C j) (row j) (b.entry q j)
  pub received_is : Prefixes received (λ j. (seen notes b j).names)
  pub cancelled_is : Prefixes cancelled (λ j. (row j).names)

-- ---- what a note says to the ledger

unfoldable pub target_names : List Target → List Name
target_names [] = []
target_names (t ∷ ts) = names_up_to t.card t.mark.names ++ target_names ts

-- to the ledger of q, of card s's note, where k is the mark of s's notes before it
abbrev pub item : ℕ → ℕ → Note → Mark → Item
item q s (other m) k = nothing (counter_of m)
item q s (inc w p start) k = record { counter = q; adds = names_after s k.names w; cancels = cond start (names_up_to s k.names) [] }
item q s (clr ts) k = record { counter = q; adds = []; cancels = target_names ts }

-- ---- an origin makes one more message

pub card_more : (q : ℕ) (notes : ℕ → List Note) (row : ℕ → Mark) (b : Replica) (r c : List Name) (s : ℕ) (t : Note)
    → CardOk q notes row b r c → CardOk q (put s (notes s ++ t ∷ []) notes) row b r c
card_more q notes row b r c s t k = record {
  pairs = λ j.
      by_place j s
      (λ e. rw (put_at s (notes s ++ t ∷ []) notes j e, ← e) (pair_more (notes j) t (b.N j) (b.C j) (row j) (b.entry q j) (k.pairs j)))
      (λ d. rw put_other (k.pairs j));
  received_is = Prefixes_cong r _ _ (λ j. ap (λ (m : Mark). m.names) (mark_stays j)) k.received_is;
  cancelled_is = k.cancelled_is;
}
  where
    mark_stays : (j : ℕ) → seen notes b j ≡ seen (put s (notes s ++ t ∷ []) notes) b j
    mark_stays j =
        by_place j s
        (λ e. rw (put_at s (notes s ++ t ∷ []) notes j e, ← e) (sym (mark_append (b.N j) (notes j) t (k.pairs j).within)))
        (λ d. rw put_other)

-- ---- sets, when a table of marks changes at one place

grown : (s : ℕ) (old new : ℕ → Mark) (n : ℕ) (names : List Name) → (new s).names ≡ n → ((j : ℕ) → (j ≡ s → ⊥) → new j ≡ old j)
    → Prefixes names (put s n (λ j. (old j).names)) → Prefixes names (λ j. (new j).names)
grown s old new n names e h k =
    Prefixes_cong names (put s n (λ j. (old j).names)) (λ j. (new j).names)
    (λ j. sym (put_agrees s n (λ j. (old j).names) (λ j. (new j).names) e (λ i d. ap (λ (m : Mark). m.names) (h i d)) j)) k

-- a mark put later: the names up to it join the set
cancelled_more : (s : ℕ) (row : ℕ → Mark) (Y : Mark) (c : List Name) → Prefixes c (λ j. (row j).names)
    → Prefixes (join (names_up_to s Y.names) c) (λ j. (put s (later_of (row s) Y) row j).names)
cancelled_more s row Y c k =
    grown s row (put s (later_of (row s) Y) row) (max (row s).names (0 + Y.names)) _ (rw put_same (later_names (row s) Y ∙ omega arith)) (λ j d. rw put_other)
    (join_ok Y.names 0 s c (λ j. (row j).names) (omega arith) k)

-- ---- the card takes the next message of card s

module _ (q : ℕ) (notes : ℕ → List Note) (v : (j : ℕ) → ValidNotes q j (notes j)) (s : ℕ) (row : ℕ → Mark) (b : Replica) (r c : List Name)
    (k : CardOk q notes row b r c) (waits : b.N s < length (notes s)) where
  -- the names received, where the message adds none
  received_same : (mark_at (suc (b.N s)) (notes s)).names ≡ (seen notes b s).names
      → Prefixes r (λ j. (mark_at (put s (suc (b.N s)) b.N j) (notes j)).names)
  received_same e =
      Prefixes_cong r _ _ (λ j. by_place j s (λ d. rw (d, put_same s (suc (b.N s)) b.N) (sym e)) (λ d. rw put_other)) k.received_is

  cancelled_after : (start : Bool) → Prefixes (join (cond start (names_up_to s (seen notes b s).names) []) c)
      (λ j. (put s (cancelled_by_increment start (seen notes b s) (row s)) row j).names)
  unfolding join
  cancelled_after true = cancelled_more s row (seen notes b s) c k.cancelled_is
  cancelled_after false =
      Prefixes_cong c _ _ (λ j. by_place j s (λ e. rw (e, put_same s (row s) row)) (λ d. rw put_other)) k.cancelled_is

  -- an increment on q
  card_increment : (w p : ℕ) (start : Bool) → get_or (notes s) (b.N s) no_note ≡ inc w p start
      → CardOk q notes (put s (cancelled_by_increment start (seen notes b s) (row s)) row) (taken s (increment q w p start) b)
      (join (names_after s (seen notes b s).names w) r) (join (cond start (names_up_to s (seen notes b s).names) []) c)
  unfolding taken
  card_increment w p start t = record {
    pairs = λ j.
        rw put_same_row
        (by_place j s
        (λ e. rw e (simp put_same (pair_increment q s (notes s) (v s) (b.N s) (b.C s) (row s) (b.entry q s) (k.pairs s) waits w p start t)))
        (λ d. simp put_other (k.pairs j)));
    received_is =
        grown s (seen notes b) (λ j. mark_at (put s (suc (b.N s)) b.N j) (notes j)) (max (seen notes b s).names ((seen notes b s).names + w)) _
        (rw (put_same s (suc (b.N s)) b.N, mark_suc (b.N s) (notes s) waits, t) (omega arith))
        (λ j d. rw put_other)
        (join_ok w (seen notes b s).names s r (λ j. (seen notes b j).names) (le_refl (seen notes b s).names) k.received_is);
    cancelled_is = cancelled_after start;
  }

  -- a message of another counter
  card_other : (m : Message) → (counter_of m ≡ q → ⊥) → mark_at (suc (b.N s)) (notes s) ≡ after_other (units_of m) (seen notes b s)
      → CardOk q notes row (taken s m b) r c
  unfolding taken
  card_other (increment i w p start) far m = record {
    pairs = λ j.
        rw (put_other_row i (put s (incremented w p start (b.C s) (b.entry i s)) (b.entry i)) b.entry q j (λ d. far (sym d)))
        (by_place j s
        (λ e. rw e (simp put_same (pair_other (notes s) (b.N s) (b.C s) (row s) (b.entry q s) (k.pairs s) waits w m)))
        (λ d. simp put_other (k.pairs j)));
    received_is = received_same (ap (λ (x : Mark). x.names) m);
    cancelled_is = k.cancelled_is;
  }
  card_other (clearing i ts) far m = record {
    pairs = λ j.
        rw (put_other_row i (cleared_row b.C ts (b.entry i)) b.entry q j (λ d. far (sym d)))
        (by_place j s
        (λ e. rw (e, put_same s (suc (b.N s)) b.N) (rw no_units at (pair_other (notes s) (b.N s) (b.C s) (row s) (b.entry q s) (k.pairs s) waits 0 m)))
        (λ d. rw put_other (k.pairs j)));
    received_is = received_same (ap (λ (x : Mark). x.names) m);
    cancelled_is = k.cancelled_is;
  }
    where
      no_units : b.C s + 0 ≡ b.C s
      no_units = omega arith

-- ---- the entries of a clear, one after the other

-- the targets of a clear are marks of their cards' notes
abbrev pub TargetsOn : (ℕ → List Note) → List Target → Type 0
TargetsOn notes [] = Unit {0}
TargetsOn notes (t ∷ ts) = OnChain (notes t.card) t.mark × TargetsOn notes ts

unfoldable pub cleared_marks : List Target → (ℕ → Mark) → ℕ → Mark
cleared_marks [] row = row
cleared_marks (t ∷ ts) row = cleared_marks ts (put t.card (later_of (row t.card) t.mark) row)

clear_all : (q : ℕ) (notes : ℕ → List Note) (v : (j : ℕ) → ValidNotes q j (notes j)) (N C : ℕ → ℕ) (ts : List Target) → TargetsOn notes ts
    → (row : ℕ → Mark) (es : ℕ → Entry) → ((j : ℕ) → PairOk (notes j) (N j) (C j) (row j) (es j))
    → (j : ℕ) → PairOk (notes j) (N j) (C j) (cleared_marks ts row j) (cleared_row C (map cleared_entry ts) es j)
unfolding cleared_marks cleared_row
clear_all q notes v N C [] o row es k j = k j
clear_all q notes v N C (t ∷ ts) o row es k j =
    clear_all q notes v N C ts o.1 _ _
    (λ j.
    by_place j t.card
    (λ e. rw e (simp put_same (pair_clear q t.card (notes t.card) (v t.card) _ _ _ _ (k t.card) t.mark o.0)))
    (λ d. simp put_other (k j)))
    j

-- and the ledger's
join_append : (a b s : List Name) → join (a ++ b) s ≡ join b (join a s)
unfolding join
join_append [] b s = refl
join_append (n ∷ a) b s = join_append a b (insert n s)

clear_names_ok : (ts : List Target) (row : ℕ → Mark) (c : List Name) → Prefixes c (λ j. (row j).names)
    → Prefixes (join (target_names ts) c) (λ j. (cleared_marks ts row j).names)
unfolding target_names cleared_marks join
clear_names_ok [] row c k = k
clear_names_ok (t ∷ ts) row c k =
    rw (join_append (names_up_to t.card t.mark.names) (target_names ts) c)
    (clear_names_ok ts _ _ (cancelled_more t.card row t.mark c k))

-- a clear of q
card_clear : (q : ℕ) (notes : ℕ → List Note) (v : (j : ℕ) → ValidNotes q j (notes j)) (s : ℕ) (row : ℕ → Mark) (b : Replica) (r c : List Name)
    (k : CardOk q notes row b r c) (waits : b.N s < length (notes s)) (ts : List Target) → TargetsOn notes ts
    → mark_at (suc (b.N s)) (notes s) ≡ seen notes b s
    → CardOk q notes (cleared_marks ts row) (taken s (clearing q (map cleared_entry ts)) b) r (join (target_names ts) c)
unfolding taken
card_clear q notes v s row b r c k waits ts o m = record {
  pairs = λ j.
      let all = clear_all q notes v b.N b.C ts o row (b.entry q) k.pairs in
      rw put_same_row
      (by_place j s (λ e. rw (e, put_same s (suc (b.N s)) b.N) (pair_clear_taken (notes s) _ _ _ _ (all s) waits m)) (λ d. rw put_other (all j)));
  received_is = received_same q notes v s row b r c k waits (ap (λ (x : Mark). x.names) m);
  cancelled_is = clear_names_ok ts row c k.cancelled_is;
}

-- ---- all three kinds

abbrev pub NoteTargetsOn : (ℕ → List Note) → Note → Type 0
NoteTargetsOn notes (other m) = Unit {0}
NoteTargetsOn notes (inc w p start) = Unit {0}
NoteTargetsOn notes (clr ts) = TargetsOn notes ts

-- how far names are cancelled once a note of s is taken
unfoldable pub row_after : ℕ → Note → Mark → (ℕ → Mark) → ℕ → Mark
row_after s (other m) k row = row
row_after s (inc w p start) k row = put s (cancelled_by_increment start k (row s)) row
row_after s (clr ts) k row = cleared_marks ts row

pub card_taken : (q : ℕ) (notes : ℕ → List Note) (v : (j : ℕ) → ValidNotes q j (notes j)) (s : ℕ) (row : ℕ → Mark) (b : Replica) (r c : List Name)
    → CardOk q notes row b r c → b.N s < length (notes s)
    → (t : Note) → get_or (notes s) (b.N s) no_note ≡ t → NoteTargetsOn notes t
    → CardOk q notes (row_after s t (seen notes b s) row) (taken s (wire q t) b)
    (join (item q s t (seen notes b s)).adds r) (join (item q s t (seen notes b s)).cancels c)
unfolding row_after join
card_taken q notes v s row b r c k waits (other m) e o =
    card_other q notes v s row b r c k waits m (rw e at (note_ok q s (notes s) (v s) (b.N s) waits)) (rw (mark_suc (b.N s) (notes s) waits, e))
card_taken q notes v s row b r c k waits (inc w p start) e o = card_increment q notes v s row b r c k waits w p start e
card_taken q notes v s row b r c k waits (clr ts) e o =
    card_clear q notes v s row b r c k waits ts o (rw (mark_suc (b.N s) (notes s) waits, e))
