-- LAWS. Cards that have received the same messages, of each card equally many, have the same entries and so read alike, in whatever order these came and whatever
-- else is under way. The idea: the messages received fix the names received; the cards lack the same items, so their cancelled sets are equal (`Arrivals`); and
-- the messages received and the number of names cancelled fix an entry (`fixed`).
use Rattle.std.specs.Prelude.{ℕ, suc, ◌-◌, ◌^◌, ◌≤◌, ◌<◌, ◌≡◌, List}
use Rattle.std.proofs.Math.Path.{sym, ap}
use Rattle.std.proofs.Common.{◌∙◌, arith, eq-eqb, ne_eqb}
use Rattle.std.proofs.Math.Bool.{cond}
use Rattle.std.proofs.Math.Seq.{drop-length}
use Rattle.protocol.proofs.Cases.{by_place, by_le}
use Rattle.protocol.proofs.Tables.{sum_cong, bits}
use Rattle.protocol.specs.Entry.{Entry, present}
use Rattle.protocol.proofs.EntryLaws.{fixed}
use Rattle.protocol.specs.Names.{Name, has}
use Rattle.protocol.proofs.NameLaws.{Prefixes, prefix_within}
use Rattle.protocol.specs.Ledger.{Ledger, holds}
use Rattle.protocol.specs.Chassis.{Chassis, read_value, read_holders}
use Rattle.protocol.proofs.Chain.{mark_at}
use Rattle.protocol.proofs.Pairs.{chain_ordered}
use Rattle.protocol.proofs.Makers.{holds_is}
use Rattle.protocol.proofs.InvariantSteps.{Invariant, items, waiting}
use Rattle.protocol.proofs.Links.{outside_N}
use Rattle.protocol.proofs.Refusals.{received_within}
use Rattle.protocol.proofs.Arrivals.{Arrivals, lacks, equal_cancelled}
use Rattle.protocol.specs.RoundRobin.{IsLink}

-- equal sets hold equally many names of each card
same_lengths : (s t : List Name) (f g : ℕ → ℕ) → Prefixes s f → Prefixes t g → ((n : Name) → has s n ≡ has t n) → (j : ℕ) → f j ≡ g j
same_lengths s t f g ks kt same j =
    let a = prefix_within s t f g ks kt (λ n e. sym (same n) ∙ e) j in let b = prefix_within t s g f kt ks (λ n e. same n ∙ e) j in omega arith

-- two cards that read alike, as the chassis and as counter q's ledger have it
pub record ReadAlike (r q i j : ℕ) (st : Chassis) (l : Ledger) : Type 0 where
  pub value : read_value r q (st.replica i) ≡ read_value r q (st.replica j)
  pub holders : read_holders r q (st.replica i) ≡ read_holders r q (st.replica j)
  pub holding : (o : ℕ) → holds i o l ≡ holds j o l

module _ (r q : ℕ) (st : Chassis) (l : Ledger) (k : Invariant r q st l) where
  -- what a card lacks is what its maker has made behind those that the card has received
  lacks_is : (i s : ℕ) → lacks i s l ≡ waiting q s (k.notes s) ((st.replica i).N s)
  unfolding items
  lacks_is i s =
      by_place i s
      (λ e. rw (eq-eqb i s e, e, k.own s, drop-length (k.notes s)))
      (λ d. rw (ne_eqb i s d) (k.queues s i d))

  module _ (h : Arrivals l) (i j : ℕ) (same : (s : ℕ) → s < r → (st.replica i).N s ≡ (st.replica j).N s) where
    -- of a card that is not there nobody has received anything
    same_N : (s : ℕ) → (st.replica i).N s ≡ (st.replica j).N s
    same_N s = by_le (suc s) r (same s) (λ far. outside_N r q st l k s (omega arith) i ∙ sym (outside_N r q st l k s (omega arith) j))

    same_cancelled : (o : ℕ) → (k.row i o).names ≡ (k.row j o).names
    same_cancelled =
        same_lengths (l.cancelled i) (l.cancelled j) _ _ (k.cards i).cancelled_is (k.cards j).cancelled_is
        (equal_cancelled l h i j (λ s. lacks_is i s ∙ ap (waiting q s (k.notes s)) (same_N s) ∙ sym (lacks_is j s)))

    same_entry : (o : ℕ) → (st.replica i).entry q o ≡ (st.replica j).entry q o
    same_entry o =
        let a = (k.cards i).pairs o in
        let b = (k.cards j).pairs o in
        fixed (mark_at ((st.replica i).N o) (k.notes o)) (k.row i o) (k.row j o) _ _
        (chain_ordered q o (k.notes o) (k.valid o) (k.row i o) (k.row j o) a.chain b.chain) (same_cancelled o)
        a.entry (rw (same_N o) b.entry)

    pub same_received_agree : ReadAlike r q i j st l
    unfolding read_value read_holders bits
    same_received_agree = record {
      value = sum_cong r _ _ (λ o m. ap (λ (e : Entry). e.p - e.n) (same_entry o));
      holders = sum_cong r _ _ (λ o m. ap (λ (e : Entry). cond (present e) (2 ^ o) 0) (same_entry o));
      holding = λ o.
          holds_is q k.notes k.valid i (k.row i) (st.replica i) l (k.cards i) o
          ∙ ap present (same_entry o)
          ∙ sym (holds_is q k.notes k.valid j (k.row j) (st.replica j) l (k.cards j) o);
    }

  -- a card on whose links nothing waits has received all that was made
  pub received_all : (i : ℕ) → i < r → ((s : ℕ) → IsLink r i s → (st.replica s).N s ≤ (st.replica i).N s)
      → (s : ℕ) → s < r → (st.replica i).N s ≡ (st.replica s).N s
  received_all i below all s near =
      by_place i s
      (λ e. rw e)
      (λ d. let a = all s (below, near, d) in let b = (received_within r q st l k i s).1 in omega arith)
