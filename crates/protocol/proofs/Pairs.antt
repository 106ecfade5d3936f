-- LAWS. One card and one origin. `PairOk`: what a card's replica has of one origin (N, C, and the entry of counter q) against the origin's notes `h`
-- and the mark X up to which the card has the origin's names cancelled. Here: what taking a message does to it.
use Rattle.std.specs.Prelude.{ℕ, suc, ◌+◌, ◌≤◌, ◌<◌, max, ◌≡◌, refl, Bool, true, false, cond, List, [], ◌∷◌, ◌++◌, leb, length, get_or}
use Rattle.std.proofs.Common.{ap, ◌∙◌, inl, inr, arith, length-append}
use Rattle.protocol.proofs.Cases.{by_le}
use Rattle.protocol.specs.Entry.{Entry, incremented, cleared}
use Rattle.protocol.proofs.Marks.{Mark, after_increment, after_other, Follows, Proper, Before, later_of}
use Rattle.protocol.proofs.EntryLaws.{EntryOk, even, ahead, behind, Ordered, Placed, cancelled_by_increment, incremented_ok, cleared_ok, later_second, later_first}
use Rattle.protocol.proofs.Chain.{Note, inc, no_note, after, mark_at, ValidNotes, OnChain, mark_proper, marks_before, marks_ordered, note_ok, mark_suc, mark_append, on_chain_more}

pub record PairOk (h : List Note) (N C : ℕ) (X : Mark) (e : Entry) : Type 0 where
  pub within : N ≤ length h
  pub C_is : C ≡ (mark_at N h).units
  pub chain : OnChain h X
  -- X covers all that came before the last start received
  pub covers : (mark_at N h).base ≤ X.names
  pub entry : EntryOk (mark_at N h) X e

-- the origin makes one more message
pub pair_more : (h : List Note) (t : Note) (N C : ℕ) (X : Mark) (e : Entry) → PairOk h N C X e → PairOk (h ++ t ∷ []) N C X e
pair_more h t N C X e k = record {
  within = let q = k.within in rw (length-append h (t ∷ [])) (omega arith);
  C_is = rw (mark_append N h t k.within) k.C_is;
  chain = on_chain_more h t X k.chain;
  covers = rw (mark_append N h t k.within) k.covers;
  entry = rw (mark_append N h t k.within) k.entry;
}

-- ---- the later of two marks

later_by : (h : List Note) (x y : Mark) (t : Bool) → OnChain h x → OnChain h y → OnChain h (cond t y x)
later_by h x y true a b = b
later_by h x y false a b = a

pub on_chain_later : (h : List Note) (x y : Mark) → OnChain h x → OnChain h y → OnChain h (later_of x y)
on_chain_later h x y a b = later_by h x y (leb x.names y.names) a b

pub later_names : (x y : Mark) → (later_of x y).names ≡ max x.names y.names
later_names x y =
    by_le x.names y.names (λ l. rw (later_second x y l) (omega arith)) (λ l. rw (later_first x y l) (omega arith))

module _ (q j : ℕ) (h : List Note) (v : ValidNotes q j h) where
  pub chain_proper : (x : Mark) → OnChain h x → Proper x
  chain_proper x o = rw o.is_mark (mark_proper q j h v o.place)

  pub chain_ordered : (x y : Mark) → OnChain h x → OnChain h y → Ordered x y
  chain_ordered x y a b = rw (a.is_mark, b.is_mark) (marks_ordered q j h v a.place b.place)

  -- a mark of the list's comes before the list's last
  pub chain_before_end : (x : Mark) → OnChain h x → Before x (mark_at (length h) h)
  chain_before_end x o = rw o.is_mark (marks_before q j h v o.place (length h) o.within)

pub on_chain_at : (h : List Note) (n : ℕ) → n ≤ length h → OnChain h (mark_at n h)
on_chain_at h n l = record { place = n; within = l; is_mark = refl }

-- ---- a message of another counter is taken: w units, or none

other_entry : (R X : Mark) (e : Entry) (w : ℕ) → EntryOk R X e → EntryOk (after_other w R) X e
other_entry R X e w (even s i j l) = even s i j l
other_entry R X e w (ahead s i j l) = ahead s i j l
other_entry R X e w (behind s i j l) = behind s i j l

module _ (h : List Note) (N C : ℕ) (X : Mark) (e : Entry) (k : PairOk h N C X e) (waits : N < length h) where
  pub pair_other : (w : ℕ) → mark_at (suc N) h ≡ after_other w (mark_at N h) → PairOk h (suc N) (C + w) X e
  pair_other w m = record {
    within = waits;
    C_is = rw (m, k.C_is);
    chain = k.chain;
    covers = rw m k.covers;
    entry = rw m (other_entry (mark_at N h) X e w k.entry);
  }

  -- a clear is taken, when its entries have been applied
  pub pair_clear_taken : mark_at (suc N) h ≡ mark_at N h → PairOk h (suc N) C X e
  pair_clear_taken m = record {
    within = waits;
    C_is = rw m k.C_is;
    chain = k.chain;
    covers = rw m k.covers;
    entry = rw m k.entry;
  }

-- ---- an increment on q is taken

module _ (q j : ℕ) (h : List Note) (v : ValidNotes q j h) (N C : ℕ) (X : Mark) (e : Entry) (k : PairOk h N C X e) (waits : N < length h) where
  pub placed : (R⁺ : Mark) → mark_at (suc N) h ≡ R⁺ → Placed (mark_at N h) R⁺ X
  placed R⁺ m =
      by_le k.chain.place N
      (λ l. inl (rw k.chain.is_mark (marks_before q j h v k.chain.place N l)))
      (λ l. inr (rw (k.chain.is_mark, ← m) (marks_before q j h v (suc N) k.chain.place l)))

  covers_after : (w p : ℕ) (start : Bool) → (after_increment w p start (mark_at N h)).base ≤ (cancelled_by_increment start (mark_at N h) X).names
  covers_after w p true = let l = later_names X (mark_at N h) in omega arith
  covers_after w p false = k.covers

  chain_after : (start : Bool) → OnChain h (cancelled_by_increment start (mark_at N h) X)
  chain_after true = on_chain_later h X (mark_at N h) k.chain (on_chain_at h N k.within)
  chain_after false = k.chain

  pub pair_increment : (w p : ℕ) (start : Bool) → get_or h N no_note ≡ inc w p start
      → PairOk h (suc N) (C + w) (cancelled_by_increment start (mark_at N h) X) (incremented w p start C e)
  pair_increment w p start t =
      let m : mark_at (suc N) h ≡ after_increment w p start (mark_at N h) = mark_suc N h waits ∙ ap (λ (u : Note). after u (mark_at N h)) t in
      let f : Follows (mark_at N h) w p start = rw t at (note_ok q j h v N waits) in
      record {
        within = waits;
        C_is = rw (m, k.C_is);
        chain = chain_after start;
        covers = rw m (covers_after w p start);
        entry =
            rw (m, k.C_is)
            (incremented_ok (mark_at N h) X e w p start (mark_proper q j h v N) (chain_proper q j h v X k.chain) f
            (placed (after_increment w p start (mark_at N h)) m) k.entry);
      }

-- ---- an entry of a clear of q is applied

module _ (q j : ℕ) (h : List Note) (v : ValidNotes q j h) (N C : ℕ) (X : Mark) (e : Entry) (k : PairOk h N C X e) where
  pub pair_clear : (Y : Mark) → OnChain h Y → PairOk h N C (later_of X Y) (cleared Y.p Y.c C e)
  pair_clear Y y = record {
    within = k.within;
    C_is = k.C_is;
    chain = on_chain_later h X Y k.chain y;
    covers = let l = later_names X Y in let c = k.covers in omega arith;
    entry =
        rw k.C_is
        (cleared_ok (mark_at N h) X Y e (mark_proper q j h v N) (chain_proper q j h v X k.chain) (chain_proper q j h v Y y) k.covers
        (chain_ordered q j h v (mark_at N h) X (on_chain_at h N k.within) k.chain)
        (chain_ordered q j h v (mark_at N h) Y (on_chain_at h N k.within) y)
        (chain_ordered q j h v X Y k.chain y)
        k.entry);
  }
