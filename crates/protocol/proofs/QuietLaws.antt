-- LAWS. When the ledger has no holding cards at a card i. Of each card j the received set has the first names up to one number and the cancelled set those up to another
-- (`Prefixes`): the mask of the holding cards is 0 exactly where the two numbers are equal for every j, and that is where the sets are equal (`no_holders`). The names
-- between the number received and the number made are just those that the link from j has still to hand over (`waiting_brings`, `brought_later`), and no more is
-- cancelled than was made: so a name that is cancelled and not received is on its link (`still_to_come`).
use Rattle.std.specs.Prelude.{ℕ, zero, suc, ◌+◌, ◌≤◌, ◌<◌, ◌≡◌, refl, ◌↔◌, ◌⊎◌, true, false, eqb, length, drop}
use Rattle.std.proofs.Common.{sym, subst, ◌∙◌, eq-eqb, ne_eqb}
use Rattle.std.proofs.Math.Path.{ap}
use Rattle.std.proofs.Math.Logic.{inl, inr}
use Rattle.std.proofs.Math.Bool.{not, false≢true}
use mathlib.Core.List.{List, [], ◌∷◌}
use native.Mathlib.Omega.{arith}
use Rattle.protocol.proofs.Cases.{by_test, by_le, by_place, not_yes}
use Rattle.protocol.proofs.Totals.{bits_zero, bits_some}
use Rattle.protocol.specs.Names.{Name, name, has}
use Rattle.protocol.proofs.NameLaws.{Prefixes, longer_has, prefix_within, within_prefix, tally_zero}
use Rattle.protocol.proofs.Joins.{names_after_only, names_after_all}
use Rattle.protocol.specs.Ledger.{Ledger, holds, ledger_value, ledger_holders}
use Rattle.protocol.specs.Chassis.{Chassis}
use Rattle.protocol.proofs.Marks.{Mark, no_messages}
use Rattle.protocol.proofs.Chain.{Note, other, inc, clr, after, mark_from, mark_at}
use Rattle.protocol.proofs.Cards.{seen}
use Rattle.protocol.proofs.Pairs.{chain_before_end}
use Rattle.protocol.proofs.Makers.{holds_apart}
use Rattle.protocol.proofs.InvariantSteps.{items, waiting, Invariant}
use Rattle.protocol.proofs.Collects.{received_outside}
use Rattle.protocol.specs.Quiet.{EqualSets, Brings, StillToReceive, Settled, CancelledAhead}

-- ---- the increments that a link has still to hand over, of card s's notes h, where k is the mark of the notes before

brought_later : (q s : ℕ) (n : Name) (h : List Note) (k : Mark) → Brings n (items q s h k) → (n.card ≡ s) × (k.names < n.ordinal)
unfolding items has
brought_later q s n [] k b = absurd b
brought_later q s n (other m ∷ h) k (inl e) = absurd (false≢true e)
brought_later q s n (other m ∷ h) k (inr b) = brought_later q s n h (after (other m) k) b
brought_later q s n (inc w p start ∷ h) k (inl e) = let x = names_after_only s k.names w n.card n.ordinal e in (x.0, x.1)
brought_later q s n (inc w p start ∷ h) k (inr b) = let x = brought_later q s n h (after (inc w p start) k) b in (x.0, omega arith)
brought_later q s n (clr ts ∷ h) k (inl e) = absurd (false≢true e)
brought_later q s n (clr ts ∷ h) k (inr b) = brought_later q s n h k b

later_brought : (q s o : ℕ) (h : List Note) (k : Mark) → k.names < o → o ≤ (mark_from (length h) h k).names → Brings (name s o) (items q s h k)
unfolding items mark_from
later_brought q s o [] k l m = omega arith
later_brought q s o (other x ∷ h) k l m = inr (later_brought q s o h (after (other x) k) l m)
later_brought q s o (inc w p start ∷ h) k l m =
    by_le o (k.names + w)
    (λ d. inl (names_after_all s k.names w o l d))
    (λ d. inr (later_brought q s o h (after (inc w p start) k) d m))
later_brought q s o (clr ts ∷ h) k l m = inr (later_brought q s o h k l m)

-- the mark of all notes, by those behind the n-th
mark_rest : (n : ℕ) (h : List Note) (k : Mark) → mark_from (length (drop n h)) (drop n h) (mark_from n h k) ≡ mark_from (length h) h k
unfolding mark_from
mark_rest zero h k = refl
mark_rest (suc n) [] k = refl
mark_rest (suc n) (t ∷ h) k = mark_rest n h (after t k)

waiting_brings : (q s o n : ℕ) (h : List Note) → (mark_at n h).names < o → o ≤ (mark_at (length h) h).names → Brings (name s o) (waiting q s h n)
waiting_brings q s o n h l m = later_brought q s o (drop n h) (mark_at n h) l (rw (mark_rest n h no_messages) m)

-- ---- a card's two sets

module _ (r q : ℕ) (st : Chassis) (l : Ledger) (ok : Invariant r q st l) (i : ℕ) where
  -- how many names card j has made; how many of them card i has received, and how many are cancelled there
  abbrev made : ℕ → ℕ
  made j = (mark_at (length (ok.notes j)) (ok.notes j)).names

  abbrev received : ℕ → ℕ
  received j = (seen ok.notes (st.replica i) j).names

  abbrev cancelled : ℕ → ℕ
  cancelled j = (ok.row i j).names

  received_is : Prefixes (l.received i) received
  received_is = (ok.cards i).received_is

  cancelled_is : Prefixes (l.cancelled i) cancelled
  cancelled_is = (ok.cards i).cancelled_is

  apart : (j : ℕ) → holds i j l ≡ not (eqb (received j) (cancelled j))
  apart = holds_apart q ok.notes ok.valid i (ok.row i) (st.replica i) l (ok.cards i)

  even_is : (j : ℕ) → received j ≡ cancelled j → holds i j l ≡ false
  even_is j e = apart j ∙ ap not (eq-eqb (received j) (cancelled j) e)

  is_even : (j : ℕ) → holds i j l ≡ false → received j ≡ cancelled j
  is_even j none =
      by_place (received j) (cancelled j) (λ e. e)
      (λ d. absurd (false≢true (sym none ∙ apart j ∙ ap not (ne_eqb (received j) (cancelled j) d))))

  -- no more is cancelled than was made
  cancelled_few : (j : ℕ) → cancelled j ≤ made j
  cancelled_few j = (chain_before_end q j (ok.notes j) (ok.valid j) (ok.row i j) ((ok.cards i).pairs j).chain).names≤

  -- of a card that is not there
  outside_even : (j : ℕ) → r ≤ j → received j ≡ cancelled j
  unfolding mark_from
  outside_even j far =
      let x = received_outside r q st l ok i j far in
      let y : made j ≡ 0 = ap (λ (h : List Note). (mark_at (length h) h).names) (ok.outside j far) in
      let z = cancelled_few j in
      omega arith

  all_even : ledger_holders r i l ≡ 0 → (j : ℕ) → received j ≡ cancelled j
  unfolding ledger_holders
  all_even none j =
      by_le (suc j) r
      (λ below. is_even j ((bits_zero r (λ j. holds i j l)).0 none j below))
      (λ far. outside_even j (omega arith))

  -- ---- no holding cards, equal sets

  pub no_holders : (ledger_holders r i l ≡ 0) ↔ EqualSets i l
  unfolding ledger_holders
  no_holders = (
    λ none n. (
      within_prefix _ _ _ _ received_is cancelled_is (λ j. let e = all_even none j in omega arith) n,
      within_prefix _ _ _ _ cancelled_is received_is (λ j. let e = all_even none j in omega arith) n,
    ),
    λ same. (bits_zero r (λ j. holds i j l)).1
        (λ j below.
        let a = prefix_within _ _ _ _ received_is cancelled_is (λ n. (same n).0) j in
        let b = prefix_within _ _ _ _ cancelled_is received_is (λ n. (same n).1) j in
        even_is j (omega arith)),
  )

  -- ---- what is still to be received

  -- what a link has still to hand over has not been received
  not_received : (n : Name) → StillToReceive i l n → has (l.received i) n ≡ false
  not_received n still =
      let s = still.sender in
      let x = brought_later q s n _ _ (subst (Brings n) (ok.queues s i (λ same. still.another (sym same))) still.on_link) in
      not_yes (has (l.received i) n)
      (λ e. let y = received_is.only n.card n.ordinal e in let z = ap received x.0 in omega arith)

  own_received : received i ≡ made i
  own_received = ap (λ (n : ℕ). (mark_at n (ok.notes i)).names) (ok.own i)

  -- what is cancelled and has not been received is on the link from its card
  still_to_come : (j o : ℕ) → has (l.cancelled i) (name j o) ≡ true → has (l.received i) (name j o) ≡ false → StillToReceive i l (name j o)
  still_to_come j o e none =
      let x = cancelled_is.only j o e in
      let few : o ≤ made j = let y = cancelled_few j in omega arith in
      let later : received j < o =
      by_le o (received j) (λ l. absurd (false≢true (sym none ∙ received_is.all j o x.0 l))) (λ l. l) in
      let another : j ≡ i → ⊥ = λ same. let own : received j ≡ made j = rw same own_received in omega arith in
      record {
        sender = j;
        another = another;
        on_link = subst (Brings (name j o)) (sym (ok.queues j i (λ same. another (sym same)))) (waiting_brings q j o ((st.replica i).N j) (ok.notes j) later few);
      }

  -- ---- equal sets, settled; a value of 0

  pub equal_settled : EqualSets i l ↔ Settled i l
  equal_settled = (
    λ same. record {
      none_ahead = λ n still. not_yes (has (l.cancelled i) n) (λ e. false≢true (sym (not_received n still) ∙ (same n).1 e));
      none_counts = λ n. (same n).0;
    },
    λ k n. (
      k.none_counts n,
      λ e. by_test (has (l.received i) n) (λ h. h) (λ h. absurd (false≢true (sym (k.none_ahead n (still_to_come n.card n.ordinal e h)) ∙ e))),
    ),
  )

  -- where the value is 0, a card that holds has more names cancelled than received: the last of them is cancelled ahead
  ahead : ledger_value i l ≡ 0 → (j : ℕ) → holds i j l ≡ true → CancelledAhead i l
  unfolding ledger_value
  ahead none j held =
      by_le (cancelled j) (received j)
      (λ few.
      let differ : received j ≡ cancelled j → ⊥ = λ e. false≢true (sym (even_is j e) ∙ held) in
      let x = longer_has _ _ _ _ received_is cancelled_is j (omega arith) in
      absurd (false≢true (sym (tally_zero (λ n. not (has (l.cancelled i) n)) (l.received i) none j (received j) x.0) ∙ ap not x.1)))
      (λ more.
      let x = longer_has _ _ _ _ cancelled_is received_is j more in
      record { increment = name j (cancelled j); under_way = still_to_come j (cancelled j) x.0 x.1; cancelled = x.0 })

  pub zero_or_ahead : ledger_value i l ≡ 0 → (ledger_holders r i l ≡ 0) ⊎ CancelledAhead i l
  unfolding ledger_holders
  zero_or_ahead none = by_place (ledger_holders r i l) 0 inl (λ some. inr (bits_some r (λ j. holds i j l) some (λ j below. ahead none j)))
