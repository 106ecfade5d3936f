-- LAWS. The whole invariant, of a chassis and the ledger of one counter q, and the two moves that every accepted step is made of:
--     issued-ok       a card makes a message and takes it itself (count, clear)
--     delivered-ok    a card takes the next message of another card
use Rattle.std.specs.Prelude.{ℕ, zero, suc, ◌≤◌, ◌<◌, ◌≡◌, List, [], ◌∷◌, ◌++◌, map, length, get_or, drop}
use Rattle.std.proofs.Math.Path.{refl, ap}
use Rattle.std.proofs.Common.{sym, ◌∙◌, arith, length-append, drop-cons}
use Rattle.std.proofs.lemmas.List.{map-append}
use Rattle.std.proofs.Math.ListN.{get_or-map}
use Rattle.std.proofs.Math.Seq.{get_or-append_seam}
use Rattle.protocol.proofs.Cases.{by_place}
use Rattle.protocol.proofs.Lists.{places_more}
use Rattle.protocol.proofs.Tables.{put, put_same, put_other, put_at, put_same_row, put_other_row, put_cases}
use Rattle.protocol.proofs.Marks.{Mark, no_messages}
use Rattle.protocol.specs.Names.{join}
use Rattle.protocol.specs.Ledger.{Item, Ledger, applied, sent, made, handed, next_item, rest_items}
use Rattle.protocol.specs.Chassis.{Message, increment, clearing, no_message, Replica, taken, Chassis, issued, delivered}
use Rattle.protocol.proofs.Chain.{Note, other, no_note, Target, clr, inc, wire, after, mark_from, mark_at, NoteOk, ValidNotes, OnChain, mark_suc, mark_append, on_chain_more, valid_more}
use Rattle.protocol.proofs.Cards.{seen, CardOk, item, TargetsOn, NoteTargetsOn, row_after, card_more, card_taken}

-- what a link has still to hand over: the items of notes h, where k is the mark of the notes before
unfoldable pub items : ℕ → ℕ → List Note → Mark → List Item
items q s [] k = []
items q s (t ∷ h) k = item q s t k ∷ items q s h (after t k)

abbrev pub waiting : ℕ → ℕ → List Note → ℕ → List Item
waiting q s h n = items q s (drop n h) (mark_at n h)

pub record Invariant (r q : ℕ) (st : Chassis) (l : Ledger) : Type 0 where
  -- each card's messages, as notes; how far each card has each origin's names cancelled
  pub notes : ℕ → List Note
  pub row : ℕ → ℕ → Mark
  pub logs : (j : ℕ) → st.log j ≡ map (wire q) (notes j)
  pub valid : (j : ℕ) → ValidNotes q j (notes j)
  pub targets : (j n : ℕ) → n < length (notes j) → NoteTargetsOn notes (get_or (notes j) n no_note)
  pub cards : (i : ℕ) → CardOk q notes (row i) (st.replica i) (l.received i) (l.cancelled i)
  pub own : (i : ℕ) → (st.replica i).N i ≡ length (notes i)
  pub queues : (s i : ℕ) → (i ≡ s → ⊥) → l.queue s i ≡ waiting q s (notes s) ((st.replica i).N s)
  pub outside : (j : ℕ) → r ≤ j → notes j ≡ []

-- ---- the waiting items, when a message is made and when one is handed over

items_append : (q s : ℕ) (h : List Note) (t : Note) (k : Mark) → items q s (h ++ t ∷ []) k ≡ items q s h k ++ item q s t (mark_from (length h) h k) ∷ []
unfolding items mark_from
items_append q s [] t k = refl
items_append q s (u ∷ h) t k = ap {B = List Item} (λ its. item q s u k ∷ its) (items_append q s h t (after u k))

waiting_from : (q s n : ℕ) (h : List Note) (t : Note) (k : Mark) → n ≤ length h
    → items q s (drop n (h ++ t ∷ [])) (mark_from n (h ++ t ∷ []) k) ≡ items q s (drop n h) (mark_from n h k) ++ item q s t (mark_from (length h) h k) ∷ []
unfolding mark_from
waiting_from q s zero h t k l = items_append q s h t k
waiting_from q s (suc n) [] t k l = absurd (omega arith)
waiting_from q s (suc n) (u ∷ h) t k l = waiting_from q s n h t (after u k) (omega arith)

waiting_next : (q s n : ℕ) (h : List Note) → n < length h → waiting q s h n ≡ item q s (get_or h n no_note) (mark_at n h) ∷ waiting q s h (suc n)
unfolding items
waiting_next q s n h l = rw (drop-cons h n no_note l, mark_suc n h l)

-- ---- notes, when one is made

targets_more : (notes : ℕ → List Note) (s : ℕ) (t : Note) (ts : List Target) → TargetsOn notes ts → TargetsOn (put s (notes s ++ t ∷ []) notes) ts
targets_more notes s t [] o = tt
targets_more notes s t (u ∷ ts) o = (
  put_cases (λ (h : List Note). OnChain h u.mark) s (notes s ++ t ∷ []) notes u.card
      (λ e. on_chain_more (notes s) t u.mark (rw e at o.0)) (λ d. o.0),
  targets_more notes s t ts o.1,
)

note_targets_more : (notes : ℕ → List Note) (s : ℕ) (t u : Note) → NoteTargetsOn notes u → NoteTargetsOn (put s (notes s ++ t ∷ []) notes) u
note_targets_more notes s t (other m) o = tt
note_targets_more notes s t (inc w p start) o = tt
note_targets_more notes s t (clr ts) o = targets_more notes s t ts o

-- N rises by one, whatever is taken
pub taken_N : (s : ℕ) (m : Message) (b : Replica) (j : ℕ) → (taken s m b).N j ≡ put s (suc (b.N s)) b.N j
unfolding taken
taken_N s (increment q w p start) b j = refl
taken_N s (clearing q ts) b j = refl

-- ---- a card makes a message, and takes it

abbrev more_notes : (ℕ → List Note) → ℕ → Note → ℕ → List Note
more_notes notes i t = put i (notes i ++ t ∷ []) notes

module _ (r q : ℕ) (st : Chassis) (l : Ledger) (k : Invariant r q st l) (i : ℕ) (t : Note)
    (o : NoteOk q i t (seen k.notes (st.replica i) i)) (on : NoteTargetsOn k.notes t) where
  -- the notes, with the new one
  notes⁺ : more_notes k.notes i t i ≡ k.notes i ++ t ∷ []
  notes⁺ = put_same i (k.notes i ++ t ∷ []) k.notes

  logs⁺ : (j : ℕ) → put i (st.log i ++ wire q t ∷ []) st.log j ≡ map (wire q) (more_notes k.notes i t j)
  logs⁺ j =
      by_place j i
      (λ e. rw e (simp (put_same, k.logs i) (sym (map-append (wire q) (k.notes i) (t ∷ [])))))
      (λ d. simp put_other (k.logs j))

  -- card i has all its own notes
  own_mark : seen k.notes (st.replica i) i ≡ mark_at (length (k.notes i)) (k.notes i)
  own_mark = ap (λ (n : ℕ). mark_at n (k.notes i)) (k.own i)

  valid⁺ : (j : ℕ) → ValidNotes q j (more_notes k.notes i t j)
  valid⁺ j =
      by_place j i
      (λ e. rw (e, notes⁺) (valid_more q i (k.notes i) (k.valid i) t (rw own_mark at o)))
      (λ d. rw put_other (k.valid j))

  targets⁺ : (j n : ℕ) → n < length (more_notes k.notes i t j) → NoteTargetsOn (more_notes k.notes i t) (get_or (more_notes k.notes i t j) n no_note)
  targets⁺ j =
      put_cases (λ (h : List Note). (n : ℕ) → n < length h → NoteTargetsOn (more_notes k.notes i t) (get_or h n no_note))
      i (k.notes i ++ t ∷ []) k.notes j
      (λ e. places_more (NoteTargetsOn (more_notes k.notes i t)) no_note (k.notes i) t
      (λ n m. note_targets_more k.notes i t (get_or (k.notes i) n no_note) (k.targets i n m)) (note_targets_more k.notes i t t on))
      (λ d n m. note_targets_more k.notes i t (get_or (k.notes j) n no_note) (k.targets j n m))

  -- every card, before the maker takes its message; and the maker, when it has
  cards_more : (j : ℕ) → CardOk q (more_notes k.notes i t) (k.row j) (st.replica j) (l.received j) (l.cancelled j)
  cards_more j = card_more q k.notes (k.row j) (st.replica j) (l.received j) (l.cancelled j) i t (k.cards j)

  same_mark : seen (more_notes k.notes i t) (st.replica i) i ≡ seen k.notes (st.replica i) i
  same_mark = rw notes⁺ (mark_append ((st.replica i).N i) (k.notes i) t ((k.cards i).pairs i).within)

  maker : CardOk q (more_notes k.notes i t) (row_after i t (seen k.notes (st.replica i) i) (k.row i)) (taken i (wire q t) (st.replica i))
      (join (item q i t (seen k.notes (st.replica i) i)).adds (l.received i)) (join (item q i t (seen k.notes (st.replica i) i)).cancels (l.cancelled i))
  maker =
      rw same_mark at
      (card_taken q (more_notes k.notes i t) valid⁺ i (k.row i) (st.replica i) (l.received i) (l.cancelled i) (cards_more i)
      (rw (notes⁺, length-append (k.notes i) (t ∷ []), k.own i) (omega arith))
      t (rw (notes⁺, k.own i) (get_or-append_seam (k.notes i) t [] no_note))
      (note_targets_more k.notes i t t on))

  cards⁺ : (j : ℕ) → CardOk q (more_notes k.notes i t)
      (put i (row_after i t (seen k.notes (st.replica i) i) (k.row i)) k.row j)
      (put i (taken i (wire q t) (st.replica i)) st.replica j)
      (put i (join (item q i t (seen k.notes (st.replica i) i)).adds (l.received i)) l.received j)
      (put i (join (item q i t (seen k.notes (st.replica i) i)).cancels (l.cancelled i)) l.cancelled j)
  cards⁺ j = by_place j i (λ e. simp put_at maker) (λ d. simp put_other (cards_more j))

  own⁺ : (j : ℕ) → (put i (taken i (wire q t) (st.replica i)) st.replica j).N j ≡ length (more_notes k.notes i t j)
  own⁺ j =
      by_place j i
      (λ e. rw e (simp (put_same, taken_N, length-append, k.own i) (omega arith)))
      (λ d. simp put_other (k.own j))

  -- the links that leave i get the item; the others stay, and so does what i has received of other cards
  queues⁺ : (s j : ℕ) → (j ≡ s → ⊥)
      → put i (λ n. l.queue i n ++ item q i t (seen k.notes (st.replica i) i) ∷ []) l.queue s j
      ≡ waiting q s (more_notes k.notes i t s) ((put i (taken i (wire q t) (st.replica i)) st.replica j).N s)
  queues⁺ s j apart =
      by_place s i
      (λ e. by_place j i
      (λ f. absurd (apart (f ∙ sym e)))
      (λ f. rw e (simp (put_same_row, put_same, put_other, k.queues i j f, own_mark)
      (sym (waiting_from q i ((st.replica j).N i) (k.notes i) t no_messages ((k.cards j).pairs i).within)))))
      (λ d. by_place j i
      (λ f. simp (put_other_row, put_at, taken_N, put_other) (rw (← f) (k.queues s j apart)))
      (λ f. simp (put_other_row, put_other) (k.queues s j apart)))

  issued_here : i < r → Invariant r q (issued i (wire q t) st) (made i (item q i t (seen k.notes (st.replica i) i)) l)
  unfolding issued made applied sent
  issued_here below = record {
    notes = more_notes k.notes i t;
    row = put i (row_after i t (seen k.notes (st.replica i) i) (k.row i)) k.row;
    logs = logs⁺;
    valid = valid⁺;
    targets = targets⁺;
    cards = cards⁺;
    own = own⁺;
    queues = queues⁺;
    outside = λ j m. rw (put_other i (k.notes i ++ t ∷ []) k.notes j (λ e. omega arith)) (k.outside j m);
  }

-- as the steps use it: the message and the item are the note's
pub issued_invariant : (r q : ℕ) (st : Chassis) (l : Ledger) (k : Invariant r q st l) (i : ℕ) (m : Message) (it : Item) (t : Note) → i < r
    → m ≡ wire q t → it ≡ item q i t (seen k.notes (st.replica i) i)
    → NoteOk q i t (seen k.notes (st.replica i) i) → NoteTargetsOn k.notes t
    → Invariant r q (issued i m st) (made i it l)
issued_invariant r q st l k i m it t below e f o on = rw (e, f) (issued_here r q st l k i t o on below)

-- ---- a card takes the next message of another card

module _ (r q : ℕ) (st : Chassis) (l : Ledger) (k : Invariant r q st l) (i s : ℕ) (apart : i ≡ s → ⊥) (waits : (st.replica i).N s < length (k.notes s)) where
  -- the note whose turn it is
  turn : Note
  turn = get_or (k.notes s) ((st.replica i).N s) no_note

  its_message : get_or (st.log s) ((st.replica i).N s) no_message ≡ wire q turn
  unfolding turn
  its_message = rw (k.logs s) (get_or-map (wire q) (k.notes s) ((st.replica i).N s) no_note)

  link : l.queue s i ≡ item q s turn (seen k.notes (st.replica i) s) ∷ waiting q s (k.notes s) (suc ((st.replica i).N s))
  unfolding turn
  link = k.queues s i apart ∙ waiting_next q s ((st.replica i).N s) (k.notes s) waits

  its_item : next_item (l.queue s i) ≡ item q s turn (seen k.notes (st.replica i) s)
  unfolding next_item
  its_item = ap next_item link

  its_rest : rest_items (l.queue s i) ≡ waiting q s (k.notes s) (suc ((st.replica i).N s))
  unfolding rest_items
  its_rest = ap rest_items link

  taker : CardOk q k.notes (row_after s turn (seen k.notes (st.replica i) s) (k.row i)) (taken s (wire q turn) (st.replica i))
      (join (item q s turn (seen k.notes (st.replica i) s)).adds (l.received i)) (join (item q s turn (seen k.notes (st.replica i) s)).cancels (l.cancelled i))
  unfolding turn
  taker =
      card_taken q k.notes k.valid s (k.row i) (st.replica i) (l.received i) (l.cancelled i) (k.cards i) waits
      (get_or (k.notes s) ((st.replica i).N s) no_note) refl (k.targets s ((st.replica i).N s) waits)

  -- after the step, with the message and the item as the chassis and the ledger find them
  replica' : ℕ → Replica
  replica' = put i (taken s (get_or (st.log s) ((st.replica i).N s) no_message) (st.replica i)) st.replica

  cards' : (j : ℕ) → CardOk q k.notes (put i (row_after s turn (seen k.notes (st.replica i) s) (k.row i)) k.row j) (replica' j)
      (put i (join (next_item (l.queue s i)).adds (l.received i)) l.received j)
      (put i (join (next_item (l.queue s i)).cancels (l.cancelled i)) l.cancelled j)
  unfolding replica'
  cards' j = rw (its_message, its_item) (by_place j i (λ e. simp put_at taker) (λ d. simp put_other (k.cards j)))

  -- N, at the taker and elsewhere
  N_here : (j : ℕ) → (replica' i).N j ≡ put s (suc ((st.replica i).N s)) (st.replica i).N j
  unfolding replica'
  N_here j = simp (put_same, taken_N)

  replica_there : (j : ℕ) → (j ≡ i → ⊥) → replica' j ≡ st.replica j
  unfolding replica'
  replica_there j d = rw put_other

  own' : (j : ℕ) → (replica' j).N j ≡ length (k.notes j)
  own' j = by_place j i (λ e. rw e (simp (N_here, put_other) (k.own i))) (λ d. simp replica_there (k.own j))

  queues' : (o j : ℕ) → (j ≡ o → ⊥)
      → put s (put i (rest_items (l.queue s i)) (l.queue s)) l.queue o j ≡ waiting q o (k.notes o) ((replica' j).N o)
  queues' o j far =
      by_place o s
      (λ e. by_place j i
      (λ f. rw (e, f) (simp (put_same_row, put_same, N_here) its_rest))
      (λ f. rw e (simp (put_same_row, put_other, replica_there) (k.queues s j (λ c. far (c ∙ sym e))))))
      (λ d. by_place j i
      (λ f. rw f (simp (put_other_row, N_here, put_other) (k.queues o i (λ c. far (f ∙ c)))))
      (λ f. simp (put_other_row, replica_there) (k.queues o j far)))

  pub delivered_invariant : Invariant r q (delivered i s st) (handed i s l)
  unfolding delivered handed applied replica'
  delivered_invariant = record {
    notes = k.notes;
    row = put i (row_after s turn (seen k.notes (st.replica i) s) (k.row i)) k.row;
    logs = k.logs;
    valid = k.valid;
    targets = k.targets;
    cards = cards';
    own = own';
    queues = queues';
    outside = k.outside;
  }
