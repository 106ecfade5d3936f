-- LAWS. What a card sends. For a count and for a clear of q by card i: the note of the message, that the message is the note's, that the note is
-- in order, and that the ledger, from its own sets, makes the note's item.
use Prim.Native.Nat.{ℕ, zero, suc, ◌≤◌, ◌<◌, max}
use Rattle.std.proofs.Math.Path.{◌≡◌, refl, sym, ap, ap₂}
use Rattle.std.proofs.Common.{◌∙◌, arith, lt-ltb, le-ltb, eq-eqb, ne_eqb}
use Rattle.std.specs.Prelude.{Bool, not, ◌||◌, eqb, ltb, length}
use Rattle.std.proofs.Math.Bool.{true, false, cond}
use mathlib.Core.List.{List, [], ◌∷◌, ◌++◌, map, append_assoc, append-nil, map-append}
use Rattle.protocol.proofs.Cases.{by_place, by_le, or_left, or_right}
use Rattle.protocol.specs.Entry.{Entry, present, count_starts, count_p}
use Rattle.protocol.proofs.Marks.{Mark, later_of, Proper, Before}
use Rattle.protocol.proofs.EntryLaws.{reads_holder, reads_own, sends_mark, count_follows}
use Rattle.protocol.specs.Names.{Name, names_after, names_up_to}
use Rattle.protocol.proofs.NameLaws.{latest_is, beyond_is}
use Rattle.protocol.specs.Ledger.{Item, Ledger, count_item, clear_names, clear_item, holds}
use Rattle.protocol.specs.Chassis.{Replica, clearing, count_message, present_entries, clear_message}
use Rattle.protocol.proofs.Chain.{Note, inc, clr, Target, cleared_entry, wire, NoteOk, OwnWithin, ValidNotes, OnChain, mark_proper}
use Rattle.protocol.proofs.Pairs.{chain_proper, chain_before_end, on_chain_later, on_chain_at, later_names}
use Rattle.protocol.proofs.Cards.{seen, CardOk, item, target_names, TargetsOn}

-- a name in exactly one of two sets with prefixes f and g
one_of_two : (f g : ℕ) → ltb g f || ltb f g ≡ not (eqb f g)
one_of_two f g =
    by_place f g
    (λ e. rw (eq-eqb f g e, le-ltb g f (omega arith), le-ltb f g (omega arith)))
    (λ d. rw (ne_eqb f g d) (by_le f g (λ l. or_right (ltb g f) (ltb f g) (lt-ltb f g (omega arith))) (λ l. or_left (ltb g f) (ltb f g) (lt-ltb g f l))))

abbrev pub count_note : ℕ → ℕ → ℕ → Replica → Note
count_note i q w b = inc w (count_p w (b.C i) (b.entry q i)) (count_starts (b.entry q i))

-- the cards below r that have an entry, each with the later of its two marks
unfoldable pub clear_targets : ℕ → (ℕ → Mark) → (ℕ → Mark) → (ℕ → Entry) → List Target
clear_targets zero seen row es = []
clear_targets (suc r) seen row es =
    clear_targets r seen row es ++ cond (present (es r)) (record { card = r; mark = later_of (seen r) (row r) } ∷ []) []

module _ (q : ℕ) (notes : ℕ → List Note) (v : (j : ℕ) → ValidNotes q j (notes j)) (i : ℕ) (row : ℕ → Mark) (b : Replica) (l : Ledger)
    (k : CardOk q notes row b (l.received i) (l.cancelled i)) where
  seen_proper : (j : ℕ) → Proper (seen notes b j)
  seen_proper j = mark_proper q j (notes j) (v j) (b.N j)

  row_proper : (j : ℕ) → Proper (row j)
  row_proper j = chain_proper q j (notes j) (v j) (row j) (k.pairs j).chain

  -- a card holds exactly if it has not as many names cancelled as received
  pub holds_apart : (j : ℕ) → holds i j l ≡ not (eqb (seen notes b j).names (row j).names)
  unfolding holds
  holds_apart j =
      rw (
        beyond_is (l.received i) (l.cancelled i) _ _ k.received_is k.cancelled_is j,
        beyond_is (l.cancelled i) (l.received i) _ _ k.cancelled_is k.received_is j,
      )
      (one_of_two (seen notes b j).names (row j).names)

  -- the ledger's holders are the replica's
  pub holds_is : (j : ℕ) → holds i j l ≡ present (b.entry q j)
  holds_is j = holds_apart j ∙ sym (reads_holder (seen notes b j) (row j) (b.entry q j) (seen_proper j) (row_proper j) (k.pairs j).entry)

  -- ---- a count

  module _ (own : b.N i ≡ length (notes i)) where
    own_last : (x : Mark) → OnChain (notes i) x → Before x (seen notes b i)
    own_last x o = rw own (chain_before_end q i (notes i) (v i) x o)

    pub count_sends : (w : ℕ) → count_message i q w b ≡ wire q (count_note i q w b)
    unfolding count_message
    count_sends w = refl

    pub count_in_order : (w : ℕ) → 0 < w → NoteOk q i (count_note i q w b) (seen notes b i)
    count_in_order w h =
        rw (k.pairs i).C_is
        (count_follows (seen notes b i) (row i) (b.entry q i) w h (seen_proper i) (own_last (row i) (k.pairs i).chain).names≤ (k.pairs i).entry)

    pub count_enters : (w : ℕ) → count_item q i w l ≡ item q i (count_note i q w b) (seen notes b i)
    unfolding count_item
    count_enters w =
        rw (
          latest_is i (l.received i) _ k.received_is,
          beyond_is (l.received i) (l.cancelled i) _ _ k.received_is k.cancelled_is i,
          ← (reads_own (seen notes b i) (row i) (b.entry q i) (seen_proper i) (own_last (row i) (k.pairs i).chain).names≤ (k.pairs i).entry),
        )
        (turn (present (b.entry q i)))
      where
        turn : (t : Bool) → ◌≡◌ {A = Item}
            (record { counter = q; adds = names_after i (seen notes b i).names w; cancels = cond t [] (names_up_to i (seen notes b i).names) })
            (record { counter = q; adds = names_after i (seen notes b i).names w; cancels = cond (not t) (names_up_to i (seen notes b i).names) [] })
        turn true = refl
        turn false = refl

  -- ---- a clear

  entry_sent : (j : ℕ) (t : Bool) → present (b.entry q j) ≡ t
      → cond t (record { card = j; p = (b.entry q j).p; c = (b.entry q j).c } ∷ []) []
      ≡ map cleared_entry (cond t (record { card = j; mark = later_of (seen notes b j) (row j) } ∷ []) [])
  entry_sent j true e =
      let m = sends_mark (seen notes b j) (row j) (b.entry q j) (k.pairs j).entry e in
      rw (m.0, m.1)
  entry_sent j false e = refl

  entries_sent : (r : ℕ) → present_entries r (b.entry q) ≡ map cleared_entry (clear_targets r (seen notes b) row (b.entry q))
  unfolding present_entries clear_targets
  entries_sent zero = refl
  entries_sent (suc r) =
      ap₂ ◌++◌ (entries_sent r) (entry_sent r (present (b.entry q r)) refl)
      ∙ sym (map-append cleared_entry (clear_targets r (seen notes b) row (b.entry q)) _)

  -- the targets are marks of their cards' notes
  later_on : (j : ℕ) → OnChain (notes j) (later_of (seen notes b j) (row j))
  later_on j = on_chain_later (notes j) (seen notes b j) (row j) (on_chain_at (notes j) (b.N j) (k.pairs j).within) (k.pairs j).chain

  targets_append : (ts us : List Target) → TargetsOn notes ts → TargetsOn notes us → TargetsOn notes (ts ++ us)
  targets_append [] us a c = c
  targets_append (t ∷ ts) us a c = (a.0, targets_append ts us a.1 c)

  target_on : (j : ℕ) (t : Bool) → TargetsOn notes (cond t (record { card = j; mark = later_of (seen notes b j) (row j) } ∷ []) [])
  target_on j true = (later_on j, tt)
  target_on j false = tt

  targets_on : (r : ℕ) → TargetsOn notes (clear_targets r (seen notes b) row (b.entry q))
  unfolding clear_targets
  targets_on zero = tt
  targets_on (suc r) = targets_append (clear_targets r (seen notes b) row (b.entry q)) _ (targets_on r) (target_on r (present (b.entry q r)))

  -- the ledger makes the same names
  target_names_append : (ts us : List Target) → target_names (ts ++ us) ≡ target_names ts ++ target_names us
  unfolding target_names
  target_names_append [] us = refl
  target_names_append (t ∷ ts) us = rw (target_names_append ts us) (sym (append_assoc (names_up_to t.card t.mark.names) (target_names ts) (target_names us)))

  target_after_accepted : (j : ℕ) (t : Bool)
      → cond t (names_up_to j (max (seen notes b j).names (row j).names)) [] ≡ target_names (cond t (record { card = j; mark = later_of (seen notes b j) (row j) } ∷ []) [])
  unfolding target_names
  target_after_accepted j true = rw (later_names (seen notes b j) (row j)) (sym (append-nil (names_up_to j (max (seen notes b j).names (row j).names))))
  target_after_accepted j false = refl

  targets_after_accepted : (r : ℕ) → clear_names r i l ≡ target_names (clear_targets r (seen notes b) row (b.entry q))
  unfolding clear_targets clear_names target_names
  targets_after_accepted zero = refl
  targets_after_accepted (suc r) =
      rw (holds_is r, latest_is r (l.received i) _ k.received_is, latest_is r (l.cancelled i) _ k.cancelled_is, targets_after_accepted r)
      (ap (λ (ns : List Name). target_names (clear_targets r (seen notes b) row (b.entry q)) ++ ns) (target_after_accepted r (present (b.entry q r)))
      ∙ sym (target_names_append (clear_targets r (seen notes b) row (b.entry q)) _))

  -- the sender's own entry goes no further than its own messages
  module _ (own : b.N i ≡ length (notes i)) where
    own_append : (m : Mark) (ts us : List Target) → OwnWithin i m ts → OwnWithin i m us → OwnWithin i m (ts ++ us)
    own_append m [] us a c = c
    own_append m (t ∷ ts) us a c = (a.0, own_append m ts us a.1 c)

    own_target : (j : ℕ) → j ≡ i → (later_of (seen notes b j) (row j)).c ≤ (seen notes b i).units
    own_target j e =
        let o : OnChain (notes i) (later_of (seen notes b j) (row j)) = rw (← e) (later_on j) in
        let before = own_last own (later_of (seen notes b j) (row j)) o in
        let proper = chain_proper q i (notes i) (v i) (later_of (seen notes b j) (row j)) o in
        omega arith

    own_one : (j : ℕ) (t : Bool) → OwnWithin i (seen notes b i) (cond t (record { card = j; mark = later_of (seen notes b j) (row j) } ∷ []) [])
    own_one j true = (own_target j, tt)
    own_one j false = tt

    own_targets : (r : ℕ) → OwnWithin i (seen notes b i) (clear_targets r (seen notes b) row (b.entry q))
    unfolding clear_targets
    own_targets zero = tt
    own_targets (suc r) = own_append (seen notes b i) (clear_targets r (seen notes b) row (b.entry q)) _ (own_targets r) (own_one r (present (b.entry q r)))

-- ---- the clear, as the steps use it

abbrev pub clear_note : (ℕ → List Note) → (ℕ → Mark) → ℕ → ℕ → Replica → Note
clear_note notes row r q b = clr (clear_targets r (seen notes b) row (b.entry q))

module _ (q : ℕ) (notes : ℕ → List Note) (v : (j : ℕ) → ValidNotes q j (notes j)) (i : ℕ) (row : ℕ → Mark) (b : Replica) (l : Ledger)
    (k : CardOk q notes row b (l.received i) (l.cancelled i)) where
  pub clear_sends : (r : ℕ) → clear_message r q b ≡ wire q (clear_note notes row r q b)
  unfolding clear_message
  clear_sends r = ap (clearing q) (entries_sent q notes v i row b l k r)

  pub clear_in_order : b.N i ≡ length (notes i) → (r : ℕ) → NoteOk q i (clear_note notes row r q b) (seen notes b i)
  clear_in_order own r = own_targets q notes v i row b l k own r

  pub clear_on : (r : ℕ) → TargetsOn notes (clear_targets r (seen notes b) row (b.entry q))
  clear_on r = targets_on q notes v i row b l k r

  pub clear_enters : (r : ℕ) → clear_item r q i l ≡ item q i (clear_note notes row r q b) (seen notes b i)
  clear_enters r = ap (λ (ns : List Name). record { counter = q; adds = []; cancels = ns }) (targets_after_accepted q notes v i row b l k r)
