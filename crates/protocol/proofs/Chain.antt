-- LAWS. A card's messages, seen from one counter q: notes. A note says what the proof has to know of a message and what the message itself does
-- not tell: of each entry of a clear, the mark of the messages that it clears up to. `wire` gives the message back.
-- The marks of a list of notes are proper and ordered (`mark_proper`, `marks_ordered`), and stay what they are when notes are appended.
use Prim.Native.Nat.{ℕ, zero, suc, ◌≤◌, ◌<◌}
use Rattle.std.specs.Prelude.{◌≡◌, refl, Bool, length, get_or}
use Rattle.std.proofs.Common.{sym, ◌∙◌, inl, inr, arith, length-append}
use mathlib.Core.List.{List, [], ◌∷◌, ◌++◌, map}
use Rattle.protocol.proofs.Cases.{by_le}
use Rattle.protocol.proofs.Marks.{Mark, no_messages, after_increment, after_other, Follows, Proper, Before, Proper_none, Proper_increment, Proper_other, Before_refl, Before_increment, Before_other, Before_trans}
use Rattle.protocol.proofs.EntryLaws.{Ordered}
use Rattle.protocol.specs.Chassis.{Message, increment, clearing, no_message, counter_of, units_of, ClearEntry}

-- a card, and the mark up to which a clear clears its names
pub record Target : Type 0 where
  pub card : ℕ
  pub mark : Mark

-- a message of another counter; an increment on q (w, p, start); a clear of q
pub data Note : Type 0 where
  other : Message → Note
  inc : ℕ → ℕ → Bool → Note
  clr : List Target → Note

abbrev pub no_note : Note
no_note = other no_message

abbrev pub cleared_entry : Target → ClearEntry
cleared_entry t = record { card = t.card; p = t.mark.p; c = t.mark.c }

abbrev pub wire : ℕ → Note → Message
wire q (other m) = m
wire q (inc w p start) = increment q w p start
wire q (clr ts) = clearing q (map cleared_entry ts)

abbrev pub after : Note → Mark → Mark
after (other m) k = after_other (units_of m) k
after (inc w p start) k = after_increment w p start k
after (clr ts) k = k

-- the mark of the first n notes of h, where k is the mark before them
unfoldable pub mark_from : ℕ → List Note → Mark → Mark
mark_from zero h k = k
mark_from (suc n) [] k = k
mark_from (suc n) (t ∷ h) k = mark_from n h (after t k)

abbrev pub mark_at : ℕ → List Note → Mark
mark_at n h = mark_from n h no_messages

-- What is known of each note of card s when it is made, k being the mark of the card's notes before it.
-- A clear's entry for the sender itself goes no further than its own messages: that makes it plausible (refusal 10).
abbrev pub OwnWithin : ℕ → Mark → List Target → Type 0
OwnWithin s k [] = Unit {0}
OwnWithin s k (t ∷ ts) = (t.card ≡ s → t.mark.c ≤ k.units) × OwnWithin s k ts

abbrev pub NoteOk : ℕ → ℕ → Note → Mark → Type 0
NoteOk q s (other m) k = counter_of m ≡ q → ⊥
NoteOk q s (inc w p start) k = Follows k w p start
NoteOk q s (clr ts) k = OwnWithin s k ts

abbrev pub Valid : ℕ → ℕ → List Note → Mark → Type 0
Valid q s [] k = Unit {0}
Valid q s (t ∷ h) k = NoteOk q s t k × Valid q s h (after t k)

after_proper : (q s : ℕ) (t : Note) (k : Mark) → NoteOk q s t k → Proper k → Proper (after t k)
after_proper q s (other m) k v p = Proper_other k (units_of m) p
after_proper q s (inc w x start) k v p = Proper_increment k w x start p v
after_proper q s (clr ts) k v p = p

after_before : (q s : ℕ) (t : Note) (k : Mark) → NoteOk q s t k → Proper k → Before k (after t k)
after_before q s (other m) k v p = Before_other k (units_of m) p
after_before q s (inc w x start) k v p = Before_increment k w x start p v
after_before q s (clr ts) k v p = Before_refl k

module _ (q s : ℕ) where
  proper_from : (n : ℕ) (h : List Note) (k : Mark) → Valid q s h k → Proper k → Proper (mark_from n h k)
  unfolding mark_from
  proper_from zero h k v p = p
  proper_from (suc n) [] k v p = p
  proper_from (suc n) (t ∷ h) k v p = proper_from n h (after t k) v.1 (after_proper q s t k v.0 p)

  first_before : (n : ℕ) (h : List Note) (k : Mark) → Valid q s h k → Proper k → Before k (mark_from n h k)
  unfolding mark_from
  first_before zero h k v p = Before_refl k
  first_before (suc n) [] k v p = Before_refl k
  first_before (suc n) (t ∷ h) k v p =
      Before_trans k (after t k) (mark_from n h (after t k)) (after_before q s t k v.0 p)
      (first_before n h (after t k) v.1 (after_proper q s t k v.0 p))

  before_from : (m n : ℕ) (h : List Note) (k : Mark) → m ≤ n → Valid q s h k → Proper k → Before (mark_from m h k) (mark_from n h k)
  unfolding mark_from
  before_from zero n h k l v p = first_before n h k v p
  before_from (suc m) zero h k l v p = absurd (omega arith)
  before_from (suc m) (suc n) [] k l v p = Before_refl k
  before_from (suc m) (suc n) (t ∷ h) k l v p = before_from m n h (after t k) (omega arith) v.1 (after_proper q s t k v.0 p)

  -- the note at a place, and the mark behind it
  note_from : (n : ℕ) (h : List Note) (k : Mark) → n < length h → Valid q s h k → NoteOk q s (get_or h n no_note) (mark_from n h k)
  unfolding mark_from
  note_from zero [] k l v = absurd (omega arith)
  note_from zero (t ∷ h) k l v = v.0
  note_from (suc n) [] k l v = absurd (omega arith)
  note_from (suc n) (t ∷ h) k l v = note_from n h (after t k) (omega arith) v.1

  valid_append : (h : List Note) (t : Note) (k : Mark) → Valid q s h k → NoteOk q s t (mark_from (length h) h k) → Valid q s (h ++ t ∷ []) k
  unfolding mark_from
  valid_append [] t k v o = (o, tt)
  valid_append (u ∷ h) t k v o = (v.0, valid_append h t (after u k) v.1 o)

mark_suc_from : (n : ℕ) (h : List Note) (k : Mark) → n < length h → mark_from (suc n) h k ≡ after (get_or h n no_note) (mark_from n h k)
unfolding mark_from
mark_suc_from zero [] k l = absurd (omega arith)
mark_suc_from zero (t ∷ h) k l = refl
mark_suc_from (suc n) [] k l = absurd (omega arith)
mark_suc_from (suc n) (t ∷ h) k l = mark_suc_from n h (after t k) (omega arith)

mark_append_from : (n : ℕ) (h : List Note) (t : Note) (k : Mark) → n ≤ length h → mark_from n (h ++ t ∷ []) k ≡ mark_from n h k
unfolding mark_from
mark_append_from zero h t k l = refl
mark_append_from (suc n) [] t k l = absurd (omega arith)
mark_append_from (suc n) (u ∷ h) t k l = mark_append_from n h t (after u k) (omega arith)

-- ---- the same from the first message on, as the other modules use it

abbrev pub ValidNotes : ℕ → ℕ → List Note → Type 0
ValidNotes q s h = Valid q s h no_messages

module _ (q s : ℕ) (h : List Note) (v : ValidNotes q s h) where
  pub mark_proper : (n : ℕ) → Proper (mark_at n h)
  mark_proper n = proper_from q s n h no_messages v Proper_none

  pub marks_before : (m n : ℕ) → m ≤ n → Before (mark_at m h) (mark_at n h)
  marks_before m n l = before_from q s m n h no_messages l v Proper_none

  pub marks_ordered : (m n : ℕ) → Ordered (mark_at m h) (mark_at n h)
  marks_ordered m n = by_le m n (λ l. inl (marks_before m n l)) (λ l. inr (marks_before n m (omega arith)))

  pub note_ok : (n : ℕ) → n < length h → NoteOk q s (get_or h n no_note) (mark_at n h)
  note_ok n l = note_from q s n h no_messages l v

  pub valid_more : (t : Note) → NoteOk q s t (mark_at (length h) h) → ValidNotes q s (h ++ t ∷ [])
  valid_more t o = valid_append q s h t no_messages v o

pub mark_suc : (n : ℕ) (h : List Note) → n < length h → mark_at (suc n) h ≡ after (get_or h n no_note) (mark_at n h)
mark_suc n h l = mark_suc_from n h no_messages l

pub mark_append : (n : ℕ) (h : List Note) (t : Note) → n ≤ length h → mark_at n (h ++ t ∷ []) ≡ mark_at n h
mark_append n h t l = mark_append_from n h t no_messages l

-- a mark of the list's
pub record OnChain (h : List Note) (x : Mark) : Type 0 where
  pub place : ℕ
  pub within : place ≤ length h
  pub is_mark : x ≡ mark_at place h

pub on_chain_more : (h : List Note) (t : Note) (x : Mark) → OnChain h x → OnChain (h ++ t ∷ []) x
on_chain_more h t x o = record {
  place = o.place;
  within = let q = o.within in rw (length-append h (t ∷ [])) (omega arith);
  is_mark = o.is_mark ∙ sym (mark_append o.place h t o.within);
}
