-- LAWS. What the invariant says of links and of cards that are not there: a delivery is enabled exactly when the ledger's link has something to hand over,
-- what it has to hand over is of the counters of the messages that wait, a card's own N is the length of its log, and of a card from r on there is nothing.
use Rattle.std.specs.Prelude.{ℕ, zero, suc, ◌≤◌, ◌≡◌, refl, not, ◌&&◌, List, [], ◌∷◌, map, eqb, ltb, length, drop}
use Rattle.std.proofs.Common.{sym, ap₂, ◌∙◌, arith, lt-ltb, le-ltb, eq-eqb}
use Rattle.std.proofs.Math.Dec.{leb-suc-suc}
use Rattle.std.proofs.lemmas.List.{length-map}
use Rattle.protocol.proofs.Cases.{by_place}
use Rattle.protocol.proofs.Marks.{Mark}
use Rattle.protocol.specs.Ledger.{deliver, Ledger, some_item, link_waits}
use Rattle.protocol.specs.Chassis.{Chassis, enabled, counter_of}
use Rattle.protocol.proofs.Chain.{Note, other, inc, clr, wire, after, mark_at}
use Rattle.protocol.proofs.Cards.{item}
use Rattle.protocol.proofs.InvariantSteps.{Invariant, items}

-- ---- links

waits_from : (q s n : ℕ) (h : List Note) (k : Mark) → some_item (items q s (drop n h) k) ≡ ltb n (length h)
unfolding some_item items
waits_from q s zero [] k = refl
waits_from q s zero (t ∷ h) k = sym (lt-ltb 0 (suc (length h)) (omega arith))
waits_from q s (suc n) [] k = sym (le-ltb (suc n) 0 (omega arith))
waits_from q s (suc n) (t ∷ h) k = waits_from q s n h k ∙ sym (leb-suc-suc (suc n) (length h))

-- the items' counters are the messages'
item_counter : (q s : ℕ) (t : Note) (k : Mark) → (item q s t k).counter ≡ counter_of (wire q t)
item_counter q s (other m) k = refl
item_counter q s (inc w p start) k = refl
item_counter q s (clr ts) k = refl

item_counters : (q s n : ℕ) (h : List Note) (k : Mark) → map (λ it. it.counter) (items q s (drop n h) k) ≡ map counter_of (drop n (map (wire q) h))
unfolding items
item_counters q s zero [] k = refl
item_counters q s zero (t ∷ h) k = ap₂ (λ (c : ℕ) (cs : List ℕ). c ∷ cs) (item_counter q s t k) (item_counters q s zero h (after t k))
item_counters q s (suc n) [] k = refl
item_counters q s (suc n) (t ∷ h) k = item_counters q s n h k

module _ (r q : ℕ) (st : Chassis) (l : Ledger) (k : Invariant r q st l) where
  -- the counters of what the link from s to i has still to hand over
  pub link_counters : (i s : ℕ) → (i ≡ s → ⊥) → map (λ it. it.counter) (l.queue s i) ≡ map counter_of (drop ((st.replica i).N s) (st.log s))
  link_counters i s apart =
      rw (k.queues s i apart, k.logs s) (item_counters q s ((st.replica i).N s) (k.notes s) (mark_at ((st.replica i).N s) (k.notes s)))

  -- the link from s to i has something to hand over exactly if s has made more than i has received
  pub link_waits_is : (i s : ℕ) → (i ≡ s → ⊥) → link_waits i s l ≡ ltb ((st.replica i).N s) ((st.replica s).N s)
  link_waits_is i s apart =
      rw (k.queues s i apart, k.own s) (waits_from q s ((st.replica i).N s) (k.notes s) (mark_at ((st.replica i).N s) (k.notes s)))

  pub deliver_enabled_is : (i s : ℕ) → enabled r (deliver i s) st ≡ ltb i r && (ltb s r && (not (eqb i s) && link_waits i s l))
  unfolding enabled
  deliver_enabled_is i s =
      by_place i s
      (λ e. rw (eq-eqb i s e))
      (λ d. rw (link_waits_is i s d))

  -- ---- cards

  pub own_N_is : (j : ℕ) → (st.replica j).N j ≡ length (st.log j)
  own_N_is j = k.own j ∙ sym (rw (k.logs j) (length-map (k.notes j) (wire q)))

  -- of a card that is not there: it has made nothing, and no card has received anything from it
  module _ (j : ℕ) (far : r ≤ j) where
    pub outside_log : st.log j ≡ []
    outside_log = rw (k.logs j, k.outside j far)

    pub outside_N : (i : ℕ) → (st.replica i).N j ≡ 0
    outside_N i = let w : (st.replica i).N j ≤ length {A = Note} [] = rw (k.outside j far) at ((k.cards i).pairs j).within in omega arith
