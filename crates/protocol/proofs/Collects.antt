-- LAWS. A counter that one card alone clears. Where card h alone clears q, its cancelled set is the largest (`Collects`): whatever any card has
-- cancelled, and whatever a message under way cancels, h has cancelled, and it has received all of that. So no count and no delivery adds to h's
-- cancelled set, and a clear by h makes it h's received set: it adds as many names as h's value was (`Collected`).
use Prim.Native.Nat.{ℕ, zero, suc, ◌+◌, ◌-◌, ◌≤◌, ◌<◌}
use Rattle.std.specs.Prelude.{◌≡◌, refl, true, false, not, length}
use Rattle.std.proofs.Math.Path.{sym, ap}
use Rattle.std.proofs.Common.{◌∙◌, arith}
use Rattle.std.proofs.lemmas.Bool.{false≢true}
use mathlib.Core.List.{List, [], ◌∷◌}
use borrow.Author.Tests.{ltb-false, eq-eqb, ne_eqb}
use Rattle.protocol.proofs.Cases.{by_place, by_test, by_le, or_left}
use Rattle.protocol.proofs.Tables.{put, put_same, sum, sum_cong, sum_plus}
use Rattle.protocol.specs.Names.{Name, has, join, tally, latest, beyond}
use Rattle.protocol.proofs.NameLaws.{Prefixes_empty, latest_is, beyond_is, tally_is}
use Rattle.protocol.specs.Ledger.{Item, nothing, Ledger, empty_ledger, count_item, holds, clear_names, clear_item, next_item, applied, handed, sent, made, ledger_value}
use Rattle.protocol.specs.Chassis.{Chassis}
use Rattle.protocol.proofs.Chain.{mark_from}
use Rattle.protocol.proofs.Cards.{seen}
use Rattle.protocol.proofs.InvariantSteps.{Invariant}
use Rattle.protocol.proofs.Links.{outside_N}
use Rattle.protocol.proofs.Joins.{latest_join, latest_append, latest_up_to}
use Rattle.protocol.proofs.LedgerLaws.{EachItem, each_wider, each_next, each_sent, each_handed, UpTo, set_grows, set_bounded, clear_latest}

-- ---- the card that clears

-- no name of a is later than those of b
abbrev pub Within : List Name → List Name → Type 0
Within a b = UpTo (λ j. latest j b) a

-- of what every item of a queue cancels
abbrev pub AllWithin : List Item → List Name → Type 0
AllWithin its c = EachItem (λ it. Within it.cancels c) its

pub record Collects (h : ℕ) (l : Ledger) : Type 0 where
  -- what any card has cancelled h has cancelled, and so with what is under way
  pub most : (i : ℕ) → Within (l.cancelled i) (l.cancelled h)
  pub under_way : (s i : ℕ) → AllWithin (l.queue s i) (l.cancelled h)
  -- and h has received it
  pub own : Within (l.cancelled h) (l.received h)

-- ---- a card applies an item

-- h's two sets afterwards
abbrev cancelled_after : ℕ → ℕ → Item → Ledger → List Name
cancelled_after h i it l = put i (join it.cancels (l.cancelled i)) l.cancelled h

abbrev received_after : ℕ → ℕ → Item → Ledger → List Name
received_after h i it l = put i (join it.adds (l.received i)) l.received h

module _ (h : ℕ) (l : Ledger) (k : Collects h l) (i : ℕ) (it : Item) where
  h_grows : Within (l.cancelled h) (cancelled_after h i it l)
  h_grows = set_grows i it.cancels l.cancelled h

  module _ (w : Within it.cancels (cancelled_after h i it l)) (own : Within (cancelled_after h i it l) (received_after h i it l)) where
    applied_collects : (queue : ℕ → ℕ → List Item) → ((s n : ℕ) → AllWithin (queue s n) (cancelled_after h i it l))
        → Collects h (applied i it (record { received = l.received; cancelled = l.cancelled; queue = queue }))
    unfolding applied
    applied_collects queue way = record {
      most = set_bounded i it.cancels (λ j. latest j (cancelled_after h i it l)) l.cancelled w (λ n j. let x = k.most n j in let y = h_grows j in omega arith);
      under_way = way;
      own = own;
    }

    still_within : (s n : ℕ) → AllWithin (l.queue s n) (cancelled_after h i it l)
    still_within s n =
        each_wider (λ it'. Within it'.cancels (l.cancelled h)) (λ it'. Within it'.cancels (cancelled_after h i it l))
        (λ it' x j. let y = x j in let z = h_grows j in omega arith) (l.queue s n) (k.under_way s n)

    made_collects : Collects h (made i it l)
    unfolding made sent
    made_collects = applied_collects _ (each_sent (λ it'. Within it'.cancels (cancelled_after h i it l)) l.queue still_within i it w)

    handed_collects : (s : ℕ) → next_item (l.queue s i) ≡ it → Collects h (handed i s l)
    unfolding handed
    handed_collects s e = rw e (applied_collects _ (each_handed (λ it'. Within it'.cancels (cancelled_after h i it l)) l.queue still_within i s))

  -- an item that cancels nothing new to h
  module _ (old : Within it.cancels (l.cancelled h)) where
    nothing_new : Within (cancelled_after h i it l) (l.cancelled h)
    nothing_new = set_bounded i it.cancels (λ j. latest j (l.cancelled h)) l.cancelled old k.most h

    old_within : Within it.cancels (cancelled_after h i it l)
    old_within j = let x = old j in let y = h_grows j in omega arith

    old_own : Within (cancelled_after h i it l) (received_after h i it l)
    old_own j =
        let x = nothing_new j in
        let y = k.own j in
        let z = set_grows i it.adds l.received h j in
        omega arith

-- ---- the number of names that h has cancelled

abbrev pub cancelled_sum : ℕ → ℕ → Ledger → ℕ
cancelled_sum r h l = sum r (λ j. latest j (l.cancelled h))

-- from the ledger l to the ledger l' read-and-clears have read v
pub record Collected (r h v : ℕ) (l l' : Ledger) : Type 0 where
  pub collects : Collects h l'
  pub adds_up : cancelled_sum r h l + v ≡ cancelled_sum r h l'

module _ (r h : ℕ) (l : Ledger) (k : Collects h l) (i : ℕ) where
  sum_stays : (it : Item) → Within it.cancels (l.cancelled h) → cancelled_sum r h l + 0 ≡ sum r (λ j. latest j (cancelled_after h i it l))
  sum_stays it old =
      let e = sum_cong r (λ j. latest j (l.cancelled h)) (λ j. latest j (cancelled_after h i it l))
      (λ j below. let x = nothing_new h l k i it old j in let y = h_grows h l k i it j in omega arith) in
      omega arith

  made_quietly : (it : Item) → Within it.cancels (l.cancelled h) → Collected r h 0 l (made i it l)
  unfolding made sent applied
  made_quietly it old = record {
    collects = made_collects h l k i it (old_within h l k i it old) (old_own h l k i it old);
    adds_up = sum_stays it old;
  }

  -- a message of another counter
  pub other_quietly : (c : ℕ) → Collected r h 0 l (made i (nothing c) l)
  unfolding latest
  other_quietly c = made_quietly (nothing c) (λ j. omega arith)

  pub handed_quietly : (s : ℕ) → Collected r h 0 l (handed i s l)
  unfolding handed applied latest
  handed_quietly s =
      let it = next_item (l.queue s i) in
      let old = each_next (λ it'. Within it'.cancels (l.cancelled h)) (l.queue s i) (λ j. omega arith) (k.under_way s i) in
      record {
        collects = handed_collects h l k i it (old_within h l k i it old) (old_own h l k i it old) s refl;
        adds_up = sum_stays it old;
      }

-- ---- what the ledger's sets are numbered by

pub all_named : (s : List Name) → tally (λ n. not (has [] n)) s ≡ length s
unfolding tally has
all_named [] = refl
all_named (n ∷ s) = let e = all_named s in omega arith

module _ (r q : ℕ) (st : Chassis) (l : Ledger) (ok : Invariant r q st l) (i : ℕ) where
  pub received_latest : (j : ℕ) → latest j (l.received i) ≡ (seen ok.notes (st.replica i) j).names
  received_latest j = latest_is j (l.received i) _ (ok.cards i).received_is

  pub cancelled_latest : (j : ℕ) → latest j (l.cancelled i) ≡ (ok.row i j).names
  cancelled_latest j = latest_is j (l.cancelled i) _ (ok.cards i).cancelled_is

  -- where no name of card j is received and uncancelled
  pub none_beyond : (j : ℕ) → beyond j (l.received i) (l.cancelled i) ≡ false → latest j (l.received i) ≤ latest j (l.cancelled i)
  none_beyond j e =
      rw (received_latest j, cancelled_latest j)
      (ltb-false _ _ (sym (beyond_is (l.received i) (l.cancelled i) _ _ (ok.cards i).received_is (ok.cards i).cancelled_is j) ∙ e))

  pub none_held : (j : ℕ) → holds i j l ≡ false → latest j (l.received i) ≤ latest j (l.cancelled i)
  unfolding holds
  none_held j e =
      by_test (beyond j (l.received i) (l.cancelled i))
      (λ t. absurd (false≢true (sym e ∙ or_left _ _ t)))
      (none_beyond j)

  pub received_outside : (j : ℕ) → r ≤ j → (seen ok.notes (st.replica i) j).names ≡ 0
  unfolding mark_from
  received_outside j far = rw (outside_N r q st l ok j far i)

  pub received_length : length (l.received i) ≡ sum r (λ j. latest j (l.received i))
  received_length =
      sym (all_named (l.received i))
      ∙ tally_is r (l.received i) [] _ (λ j. 0) (ok.cards i).received_is Prefixes_empty received_outside
      ∙ sum_cong r _ _ (λ j below. let e = received_latest j in omega arith)

  value_sum : ledger_value i l ≡ sum r (λ j. latest j (l.received i) - latest j (l.cancelled i))
  unfolding ledger_value
  value_sum =
      tally_is r (l.received i) (l.cancelled i) _ _ (ok.cards i).received_is (ok.cards i).cancelled_is received_outside
      ∙ sum_cong r _ _ (λ j below. let e = received_latest j in let f = cancelled_latest j in omega arith)

-- ---- counts and clears

module _ (l : Ledger) (i : ℕ) where
  clear_lower : (j n : ℕ) → j < n → holds i j l ≡ true → latest j (l.received i) ≤ latest j (clear_names n i l)
  unfolding clear_names
  clear_lower j zero below e = absurd (omega arith)
  clear_lower j (suc n) below e =
      by_place n j
      (λ f. rw (f, e, latest_append, latest_up_to, eq-eqb j j refl) (omega arith))
      (λ d. let rest = clear_lower j n (omega arith) e in rw latest_append (omega arith))

module _ (r q : ℕ) (st : Chassis) (l : Ledger) (ok : Invariant r q st l) (h : ℕ) (k : Collects h l) where
  -- "the message also cancels all earlier names of i" only where i has cancelled them
  count_old : (i w : ℕ) → Within (count_item q i w l).cancels (l.cancelled h)
  unfolding count_item latest
  count_old i w j =
      by_test (beyond i (l.received i) (l.cancelled i))
      (λ e. rw e (omega arith))
      (λ e. rw (e, latest_up_to)
      (by_place i j
      (λ f. let x = none_beyond r q st l ok i i e in let y = k.most i i in
      let z = ap (λ (m : ℕ). latest m (l.cancelled h)) f in rw (eq-eqb i j f) (omega arith))
      (λ d. rw (ne_eqb i j d) (omega arith))))

  pub count_collects : (i w : ℕ) → Collected r h 0 l (made i (count_item q i w l) l)
  count_collects i w = made_quietly r h l k i (count_item q i w l) (count_old i w)

  -- what h has received it has cancelled, or it counts in h's value
  pub received_sum : cancelled_sum r h l + ledger_value h l ≡ sum r (λ j. latest j (l.received h))
  received_sum =
      rw (value_sum r q st l ok h)
      (sym (sum_plus r (λ j. latest j (l.cancelled h)) (λ j. latest j (l.received h) - latest j (l.cancelled h)))
      ∙ sum_cong r _ _ (λ j below. let a = k.own j in omega arith))

  -- h's own clear makes its cancelled set its received set
  all_cancelled : (j : ℕ) → latest j (cancelled_after h h (clear_item r q h l) l) ≡ latest j (l.received h)
  all_cancelled j =
      let a = clear_latest h l j r in
      let b = k.own j in
      rw (put_same h (join (clear_names r h l) (l.cancelled h)) l.cancelled, latest_join j (clear_names r h l) (l.cancelled h))
      (by_test (holds h j l)
      (λ e. by_le (suc j) r
      (λ below. let c = clear_lower l h j r below e in omega arith)
      (λ far. let c = received_latest r q st l ok h j in let d = received_outside r q st l ok h j (omega arith) in omega arith))
      (λ e. let c = none_held r q st l ok h j e in omega arith))

  pub clear_collects : Collected r h (ledger_value h l) l (made h (clear_item r q h l) l)
  unfolding made sent applied
  clear_collects = record {
    collects =
        made_collects h l k h (clear_item r q h l)
        (λ j. let a = all_cancelled j in let b = clear_latest h l j r in let c = k.own j in omega arith)
        (λ j. let a = all_cancelled j in let b = set_grows h [] l.received h j in omega arith);
    adds_up = received_sum ∙ sym (sum_cong r _ _ (λ j below. all_cancelled j));
  }

pub none_collected : (h : ℕ) → Collects h empty_ledger
none_collected h = record { most = λ i j. omega arith; under_way = λ s i. tt; own = λ j. omega arith }
