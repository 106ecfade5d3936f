-- LAWS. Where a card's cancelled set comes from. It holds just the names that the items cancel which the card has had: those that have come to it and those that
-- it has made itself (`Arrivals`), in whatever order they came and whatever steps were accepted. So cards that lack the same items have equal cancelled sets.
use Rattle.std.specs.Prelude.{ℕ, ◌≡◌, refl, Bool, true, false, cond, ◌||◌, ◌⊎◌, List, [], ◌∷◌, ◌++◌, eqb}
use Rattle.std.proofs.Common.{sym, ap, ◌∙◌, inl, inr, append_assoc, append-nil, eq-eqb, ne_eqb}
use Rattle.std.proofs.lemmas.Bool.{false≢true}
use Rattle.protocol.proofs.Cases.{by_place, or_left, or_right, or_cases}
use Rattle.protocol.proofs.Lists.{append_cancel}
use Rattle.protocol.proofs.Tables.{put, put_same, put_other, put_at, put_same_row, put_other_row}
use Rattle.protocol.specs.Names.{Name, has, join}
use Rattle.protocol.specs.Ledger.{Step, count, clear, deliver, Item, Ledger, empty_ledger, next_item, rest_items, applied, handed, sent, made, after_accepted, after_steps}
use Rattle.protocol.proofs.Joins.{from_join, has_join_left, has_join_right}
use Rattle.protocol.proofs.LedgerLaws.{after_steps_keeps}

-- ---- what items cancel

-- is the name among those that the items cancel?
unfoldable pub cancelled_by : List Item → Name → Bool
cancelled_by [] n = false
cancelled_by (it ∷ its) n = has it.cancels n || cancelled_by its n

cancelled_by_both : (xs ys : List Item) (n : Name) → cancelled_by (xs ++ ys) n ≡ cancelled_by xs n || cancelled_by ys n
unfolding cancelled_by
cancelled_by_both [] ys n = refl
cancelled_by_both (it ∷ xs) ys n = rw (cancelled_by_both xs ys n) (or_assoc (has it.cancels n) (cancelled_by xs n) (cancelled_by ys n))
  where
    or_assoc : (a b c : Bool) → a || (b || c) ≡ (a || b) || c
    or_assoc true b c = refl
    or_assoc false b c = refl

-- ---- a card's cancelled set

-- It holds what the items cancel that came, from any sender, and those that the card has made itself; and nothing else.
pub record Union (come : ℕ → List Item) (own : List Item) (set : List Name) : Type 0 where
  pub only : (n : Name) → has set n ≡ true → ((s : ℕ) × (cancelled_by (come s) n ≡ true)) ⊎ (cancelled_by own n ≡ true)
  pub all_come : (s : ℕ) (n : Name) → cancelled_by (come s) n ≡ true → has set n ≡ true
  pub all_own : (n : Name) → cancelled_by own n ≡ true → has set n ≡ true

module _ (come : ℕ → List Item) (own : List Item) (set : List Name) (k : Union come own set)
    (its : List Item) (names : List Name) (says : (n : Name) → cancelled_by its n ≡ has names n) where
  joined : (n : Name) → has set n ≡ true → has (join names set) n ≡ true
  joined n e = has_join_right names set n e

  joined_now : (n : Name) → cancelled_by its n ≡ true → has (join names set) n ≡ true
  joined_now n e = has_join_left names set n (sym (says n) ∙ e)

  -- the card makes items
  union_own : Union come (own ++ its) (join names set)
  union_own = record {
    only = λ n e.
        from_join names set n e
        (λ a. inr (rw (cancelled_by_both own its n) (or_right (cancelled_by own n) (cancelled_by its n) (says n ∙ a))))
        (λ a. wider n (k.only n a));
    all_come = λ s n e. joined n (k.all_come s n e);
    all_own = λ n e.
        or_cases (cancelled_by own n) (cancelled_by its n) (rw (cancelled_by_both own its n) at e) (λ a. joined n (k.all_own n a)) (joined_now n);
  }
    where
      wider : (n : Name) → ((s : ℕ) × (cancelled_by (come s) n ≡ true)) ⊎ (cancelled_by own n ≡ true) → ((s : ℕ) × (cancelled_by (come s) n ≡ true)) ⊎ (cancelled_by (own ++ its) n ≡ true)
      wider n (inl x) = inl x
      wider n (inr e) = inr (rw (cancelled_by_both own its n) (or_left (cancelled_by own n) (cancelled_by its n) e))

  -- items come to it from s
  union_come : (s : ℕ) → Union (put s (come s ++ its) come) own (join names set)
  union_come s = record {
    only = λ n e.
        from_join names set n e
        (λ a. inl (s, rw (put_same s (come s ++ its) come, cancelled_by_both (come s) its n) (or_right (cancelled_by (come s) n) (cancelled_by its n) (says n ∙ a))))
        (λ a. wider n (k.only n a));
    all_come = λ u n e.
        by_place u s
        (λ d.
        or_cases (cancelled_by (come s) n) (cancelled_by its n) (rw (put_at s (come s ++ its) come u d, cancelled_by_both (come s) its n) at e)
        (λ a. joined n (k.all_come s n a)) (joined_now n))
        (λ d. joined n (k.all_come u n (rw (put_other s (come s ++ its) come u d) at e)));
    all_own = λ n e. joined n (k.all_own n e);
  }
    where
      wider : (n : Name) → ((u : ℕ) × (cancelled_by (come u) n ≡ true)) ⊎ (cancelled_by own n ≡ true)
          → ((u : ℕ) × (cancelled_by (put s (come s ++ its) come u) n ≡ true)) ⊎ (cancelled_by own n ≡ true)
      wider n (inr e) = inr e
      wider n (inl (u, e)) =
          inl (
            u,
            by_place u s
                (λ d. rw (put_at s (come s ++ its) come u d, cancelled_by_both (come s) its n) (or_left (cancelled_by (come s) n) (cancelled_by its n) (rw d at e)))
                (λ d. rw (put_other s (come s ++ its) come u d) e),
          )

-- ---- the whole ledger

pub record Arrivals (l : Ledger) : Type 0 where
  -- what each card has made; what of it has come over each link, by receiver, then by sender
  pub made_by : ℕ → List Item
  pub come : ℕ → ℕ → List Item
  pub in_order : (s i : ℕ) → made_by s ≡ come i s ++ l.queue s i
  pub cancelled_is : (i : ℕ) → Union (come i) (made_by i) (l.cancelled i)

no_arrivals : Arrivals empty_ledger
unfolding cancelled_by has
no_arrivals = record {
  made_by = λ s. [];
  come = λ i s. [];
  in_order = λ s i. refl;
  cancelled_is = λ i. record { only = λ n e. absurd (false≢true e); all_come = λ s n e. e; all_own = λ n e. e };
}

says_one : (it : Item) (n : Name) → cancelled_by (it ∷ []) n ≡ has it.cancels n
unfolding cancelled_by
says_one it n = or_none (has it.cancels n)
  where
    or_none : (a : Bool) → a || false ≡ a
    or_none true = refl
    or_none false = refl

made_arrivals : (i : ℕ) (it : Item) (l : Ledger) → Arrivals l → Arrivals (made i it l)
unfolding made applied sent
made_arrivals i it l h = record {
  made_by = put i (h.made_by i ++ it ∷ []) h.made_by;
  come = h.come;
  in_order = λ s k.
      by_place s i
      (λ e. rw e (simp (put_same, put_same_row) (ap (λ its. its ++ it ∷ []) (h.in_order i k) ∙ append_assoc (h.come k i) (l.queue i k) (it ∷ []))))
      (λ d. simp (put_other, put_other_row) (h.in_order s k));
  cancelled_is = λ k.
      by_place k i
      (λ e. rw e (simp put_same
      (union_own (h.come i) (h.made_by i) (l.cancelled i) (h.cancelled_is i) (it ∷ []) it.cancels (says_one it))))
      (λ d. simp put_other (h.cancelled_is k));
}

-- what a link hands over: its first item, if it has one
unfoldable first_items : List Item → List Item
first_items [] = []
first_items (it ∷ its) = it ∷ []

first_and_rest : (its : List Item) → its ≡ first_items its ++ rest_items its
unfolding first_items rest_items
first_and_rest [] = refl
first_and_rest (it ∷ its) = refl

says_first : (its : List Item) (n : Name) → cancelled_by (first_items its) n ≡ has (next_item its).cancels n
unfolding first_items next_item cancelled_by has
says_first [] n = refl
says_first (it ∷ its) n = says_one it n

handed_arrivals : (i s : ℕ) (l : Ledger) → Arrivals l → Arrivals (handed i s l)
unfolding handed applied
handed_arrivals i s l h = record {
  made_by = h.made_by;
  come = put i (put s (h.come i s ++ first_items (l.queue s i)) (h.come i)) h.come;
  in_order = λ u k.
      by_place u s
      (λ e. by_place k i
      (λ d. rw (e, d) (simp (put_same_row, put_same)
      (h.in_order s i ∙ ap (λ its. h.come i s ++ its) (first_and_rest (l.queue s i)) ∙ sym (append_assoc (h.come i s) (first_items (l.queue s i)) (rest_items (l.queue s i))))))
      (λ d. rw e (simp (put_same_row, put_other_row, put_other) (h.in_order s k))))
      (λ e. by_place k i
      (λ d. rw d (simp (put_same_row, put_other_row, put_other) (h.in_order u i)))
      (λ d. simp (put_other_row) (h.in_order u k)));
  cancelled_is = λ k.
      by_place k i
      (λ e. rw e (simp put_same
      (union_come (h.come i) (h.made_by i) (l.cancelled i) (h.cancelled_is i) (first_items (l.queue s i)) (next_item (l.queue s i)).cancels
      (says_first (l.queue s i)) s)))
      (λ d. simp put_other (h.cancelled_is k));
}

-- ---- every ledger that was fed

after_accepted_arrivals : (r q : ℕ) (s : Step) (l : Ledger) → Arrivals l → Arrivals (after_accepted r q s l)
unfolding after_accepted
after_accepted_arrivals r q (count i k w) l h = made_arrivals i _ l h
after_accepted_arrivals r q (clear i k) l h = made_arrivals i _ l h
after_accepted_arrivals r q (deliver i s) l h = handed_arrivals i s l h

pub after_steps_arrivals : (r q : ℕ) (ss : List Step) (fs : List Bool) → Arrivals (after_steps r q ss fs empty_ledger)
after_steps_arrivals r q ss fs = after_steps_keeps r q Arrivals (after_accepted_arrivals r q) ss fs empty_ledger no_arrivals

-- ---- cards that lack the same items

-- what card i lacks of the items that s has made: what the link has still to hand over, and of its own none
abbrev pub lacks : ℕ → ℕ → Ledger → List Item
lacks i s l = cond (eqb i s) [] (l.queue s i)

same_test : (a b : Bool) → (a ≡ true → b ≡ true) → (b ≡ true → a ≡ true) → a ≡ b
same_test true b x y = sym (x refl)
same_test false true x y = y refl
same_test false false x y = refl

module _ (l : Ledger) (h : Arrivals l) where
  -- what card i has had of the items that s has made
  had : ℕ → ℕ → List Item
  had i s = cond (eqb i s) (h.made_by s) (h.come i s)

  had_and_lacks : (i s : ℕ) → h.made_by s ≡ had i s ++ lacks i s l
  unfolding had
  had_and_lacks i s =
      by_place i s
      (λ e. rw (eq-eqb i s e) (sym (append-nil (h.made_by s))))
      (λ d. rw (ne_eqb i s d) (h.in_order s i))

  -- its cancelled set holds what they cancel, and nothing else
  all_had : (i s : ℕ) (n : Name) → cancelled_by (had i s) n ≡ true → has (l.cancelled i) n ≡ true
  unfolding had
  all_had i s n =
      by_place i s
      (λ e. rw (eq-eqb i s e, ← e) ((h.cancelled_is i).all_own n))
      (λ d. rw (ne_eqb i s d) ((h.cancelled_is i).all_come s n))

  only_had : (i : ℕ) (n : Name) → ((s : ℕ) × (cancelled_by (h.come i s) n ≡ true)) ⊎ (cancelled_by (h.made_by i) n ≡ true) → (s : ℕ) × (cancelled_by (had i s) n ≡ true)
  unfolding had
  only_had i n (inr e) = (i, rw (eq-eqb i i refl) e)
  only_had i n (inl (s, e)) = (
    s,
    by_place i s
        (λ d. rw (eq-eqb i s d, h.in_order s i, cancelled_by_both (h.come i s) (l.queue s i) n) (or_left (cancelled_by (h.come i s) n) (cancelled_by (l.queue s i) n) e))
        (λ d. rw (ne_eqb i s d) e),
  )

  module _ (i j : ℕ) (same : (s : ℕ) → lacks i s l ≡ lacks j s l) where
    same_had : (s : ℕ) → had i s ≡ had j s
    same_had s = append_cancel (had i s) (had j s) (lacks i s l) (sym (had_and_lacks i s) ∙ had_and_lacks j s ∙ ap (λ its. had j s ++ its) (sym (same s)))

    pub equal_cancelled : (n : Name) → has (l.cancelled i) n ≡ has (l.cancelled j) n
    equal_cancelled n =
        same_test (has (l.cancelled i) n) (has (l.cancelled j) n)
        (λ e. let x = only_had i n ((h.cancelled_is i).only n e) in all_had j x.0 n (rw (same_had x.0) at x.1))
        (λ e. let x = only_had j n ((h.cancelled_is j).only n e) in all_had i x.0 n (rw (same_had x.0) x.1))
