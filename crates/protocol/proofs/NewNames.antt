-- LAWS. The names that a count makes are new: whatever any card has received or cancelled, and whatever a link has still to hand over, is no later than what its
-- maker has received of its own (`Known`), whichever steps were accepted. What a start cancels was cancelled before, so the maker's value rises by the amount.
use Rattle.std.specs.Prelude.{ℕ, ◌+◌, ◌<◌, max, ◌≡◌, Bool, cond, ◌||◌, List, [], eqb}
use Rattle.std.proofs.Math.Path.{refl, ap}
use Rattle.std.proofs.Common.{sym, ◌∙◌, le_refl, arith, eq-eqb, ne_eqb}
use Rattle.std.proofs.Math.Bool.{true, false, not}
use Rattle.protocol.proofs.Cases.{by_place, by_test, not_yes}
use Rattle.protocol.proofs.Tables.{put, put_same, put_other, put_at}
use Rattle.protocol.specs.Names.{Name, name, has, join, names_after, names_up_to, latest, beyond}
use Rattle.protocol.proofs.NameLaws.{latest_bounds, tally_cong, tally_new, not_beyond}
use Rattle.protocol.proofs.Joins.{has_join, names_after_only, latest_join, latest_after, latest_up_to}
use Rattle.protocol.specs.Ledger.{Step, count, clear, deliver, Item, nothing, Ledger, empty_ledger, count_item, clear_names, clear_item, next_item, applied, handed, sent, made, after_accepted, after_steps, ledger_value}
use Rattle.protocol.proofs.LedgerLaws.{after_steps_keeps, EachItem, each_wider, each_next, each_sent, each_handed, UpTo, set_grows, set_bounded, clear_latest}

-- ---- no name is later than those that its maker has received of its own

-- of a table of received sets: how many names each card has made
abbrev tops : (ℕ → List Name) → ℕ → ℕ
tops received j = latest j (received j)

abbrev ItemUpTo : (ℕ → ℕ) → Item → Type 0
ItemUpTo top it = UpTo top it.adds × UpTo top it.cancels

pub record Known (l : Ledger) : Type 0 where
  pub received : (i : ℕ) → UpTo (tops l.received) (l.received i)
  pub cancelled : (i : ℕ) → UpTo (tops l.received) (l.cancelled i)
  pub links : (s i : ℕ) → EachItem (ItemUpTo (tops l.received)) (l.queue s i)

module _ (l : Ledger) (k : Known l) (i : ℕ) (it : Item) where
  -- what each card has made, once i has applied the item
  abbrev tops' : ℕ → ℕ
  tops' = tops (put i (join it.adds (l.received i)) l.received)

  wider : (s : List Name) → UpTo (tops l.received) s → UpTo tops' s
  wider s h j = let a = h j in let b = set_grows i it.adds l.received j j in omega arith

  still : (s n : ℕ) → EachItem (ItemUpTo tops') (l.queue s n)
  still s n =
      each_wider (ItemUpTo (tops l.received)) (ItemUpTo tops') (λ it' h. (wider it'.adds h.0, wider it'.cancels h.1)) (l.queue s n) (k.links s n)

  module _ (h : ItemUpTo tops' it) where
    applied_known : (queue : ℕ → ℕ → List Item) → ((s n : ℕ) → EachItem (ItemUpTo tops') (queue s n))
        → Known (applied i it (record { received = l.received; cancelled = l.cancelled; queue = queue }))
    unfolding applied
    applied_known queue links = record {
      received = set_bounded i it.adds tops' l.received h.0 (λ n. wider (l.received n) (k.received n));
      cancelled = set_bounded i it.cancels tops' l.cancelled h.1 (λ n. wider (l.cancelled n) (k.cancelled n));
      links = links;
    }

    made_known : Known (made i it l)
    unfolding made sent
    made_known = applied_known _ (each_sent (ItemUpTo tops') l.queue still i it h)

-- what is handed over is known already
handed_known : (l : Ledger) → Known l → (i s : ℕ) → Known (handed i s l)
unfolding handed latest
handed_known l k i s =
    let it = next_item (l.queue s i) in
    let h = each_next (ItemUpTo (tops l.received)) (l.queue s i) ((λ j. omega arith), (λ j. omega arith)) (k.links s i) in
    applied_known l k i it (wider l k i it it.adds h.0, wider l k i it it.cancels h.1) _
    (each_handed (ItemUpTo (tops' l k i it)) l.queue (still l k i it) i s)

-- ---- what card i makes

module _ (l : Ledger) (k : Known l) (i : ℕ) where
  -- a start cancels no later names than i's own
  start_up_to : UpTo (tops l.received) (cond (beyond i (l.received i) (l.cancelled i)) [] (names_up_to i (latest i (l.received i))))
  unfolding latest
  start_up_to j =
      by_test (beyond i (l.received i) (l.cancelled i))
      (λ e. rw e (omega arith))
      (λ e. rw (e, latest_up_to)
      (by_place i j
      (λ f. rw (eq-eqb i j f, f) (omega arith))
      (λ d. rw (ne_eqb i j d) (omega arith))))

  count_known : (q w : ℕ) → Known (made i (count_item q i w l) l)
  unfolding count_item
  count_known q w = made_known l k i it (names_within, wider l k i it it.cancels start_up_to)
    where
      it : Item
      it = count_item q i w l

      names_within : UpTo (tops' l k i it) (names_after i (latest i (l.received i)) w)
      names_within j =
          let b = latest i (l.received i) in
          let all : max (cond (eqb i j) b 0) (latest j (names_after i b w)) ≡ cond (eqb i j) (b + w) 0 = latest_after j i b w in
          by_place j i
          (λ e. rw (put_at i (join (names_after i b w) (l.received i)) l.received j e, latest_join j (names_after i b w) (l.received i)) (omega arith))
          (λ d. let none : max 0 (latest j (names_after i b w)) ≡ 0 = rw (ne_eqb i j (λ e. d (sym e))) at all in omega arith)

  clear_known : (r q : ℕ) → Known (made i (clear_item r q i l) l)
  unfolding latest
  clear_known r q =
      made_known l k i (clear_item r q i l) (
        (λ j. omega arith),
        wider l k i (clear_item r q i l) (clear_names r i l)
            (λ j. let a = clear_latest i l j r in let b = k.received i j in let c = k.cancelled i j in omega arith),
      )

  other_known : (c : ℕ) → Known (made i (nothing c) l)
  unfolding latest
  other_known c = made_known l k i (nothing c) ((λ j. omega arith), (λ j. omega arith))

after_accepted_known : (r q : ℕ) (s : Step) (l : Ledger) → Known l → Known (after_accepted r q s l)
unfolding after_accepted
after_accepted_known r q (count i c w) l k = by_test (eqb c q) (λ e. rw e (count_known l k i q w)) (λ e. rw e (other_known l k i c))
after_accepted_known r q (clear i c) l k = by_test (eqb c q) (λ e. rw e (clear_known l k i r q)) (λ e. rw e (other_known l k i c))
after_accepted_known r q (deliver i s) l k = handed_known l k i s

after_steps_known : (r q : ℕ) (ss : List Step) (flags : List Bool) → Known (after_steps r q ss flags empty_ledger)
after_steps_known r q ss flags =
    after_steps_keeps r q Known (after_accepted_known r q) ss flags empty_ledger
    (record { received = λ i j. omega arith; cancelled = λ i j. omega arith; links = λ s i. tt })

-- ---- a count by card i

module _ (l : Ledger) (k : Known l) (q i w : ℕ) where
  abbrev new : List Name
  new = names_after i (latest i (l.received i)) w

  -- no list of known names has one that is later than i's latest
  later_not : (s : List Name) → UpTo (tops l.received) s → (o : ℕ) → latest i (l.received i) < o → has s (name i o) ≡ false
  later_not s h o m = not_yes (has s (name i o)) (λ e. let a = latest_bounds i o s e in let b = h i in omega arith)

  new_not : (s : List Name) → UpTo (tops l.received) s → (n : Name) → has new n ≡ true → has s n ≡ false
  new_not s h n e =
      let at = names_after_only i (latest i (l.received i)) w n.card n.ordinal e in
      ap (λ (c : ℕ). has s (name c n.ordinal)) at.0 ∙ later_not s h n.ordinal at.1

  -- what i has cancelled afterwards
  abbrev cancelled' : List Name
  cancelled' = join (count_item q i w l).cancels (l.cancelled i)

  -- of what i had received, no more is cancelled than before
  old_stays : (n : Name) → has (l.received i) n ≡ true → not (has cancelled' n) ≡ not (has (l.cancelled i) n)
  unfolding count_item join
  old_stays n h =
      by_test (beyond i (l.received i) (l.cancelled i))
      (λ e. rw e)
      (λ e. rw (e, has_join (names_up_to i (latest i (l.received i))) (l.cancelled i) n)
      (by_test (has (names_up_to i (latest i (l.received i))) n)
      (λ f.
      let at = names_after_only i 0 (latest i (l.received i)) n.card n.ordinal f in
      rw (f, not_beyond i (l.received i) (l.cancelled i) e n at.0 h))
      (λ f. rw f)))

  cancelled_up_to : UpTo (tops l.received) cancelled'
  unfolding count_item
  cancelled_up_to j =
      let a = start_up_to l k i j in
      let b = k.cancelled i j in
      rw latest_join (omega arith)

  value_rises : ledger_value i (made i (count_item q i w l) l) ≡ ledger_value i l + w
  unfolding ledger_value made applied sent count_item
  value_rises =
      simp put_same
      (tally_new (λ n. not (has cancelled' n)) w (latest i (l.received i)) i (l.received i) (le_refl (latest i (l.received i)))
      (λ o m. rw (later_not cancelled' cancelled_up_to o m))
      ∙ ap (λ (v : ℕ). v + w) (tally_cong (λ n. not (has cancelled' n)) (λ n. not (has (l.cancelled i) n)) (l.received i) old_stays))

-- as the claim has it
module _ (r q : ℕ) (ss : List Step) (flags : List Bool) (i w : ℕ) where
  abbrev before : Ledger
  before = after_steps r q ss flags empty_ledger

  abbrev names : List Name
  names = names_after i (latest i (before.received i)) w

  abbrev after : Ledger
  after = after_accepted r q (count i q w) before

  is_made : after ≡ made i (count_item q i w before) before
  unfolding after_accepted
  is_made = rw (eq-eqb q q refl)

  pub new_to_all : (j : ℕ) (n : Name) → has names n ≡ true → (has (before.received j) n ≡ false) × (has (before.cancelled j) n ≡ false)
  new_to_all j n e =
      let k = after_steps_known r q ss flags in
      (new_not before k q i w (before.received j) (k.received j) n e, new_not before k q i w (before.cancelled j) (k.cancelled j) n e)

  pub maker_gains : (n : Name) → has (after.received i) n ≡ has (before.received i) n || has names n
  unfolding made applied sent count_item
  maker_gains n = rw is_made (simp put_same (has_join names (before.received i) n ∙ or_swap (has names n) (has (before.received i) n)))
    where
      or_swap : (a b : Bool) → a || b ≡ b || a
      or_swap true true = refl
      or_swap true false = refl
      or_swap false true = refl
      or_swap false false = refl

  pub others_stay : (j : ℕ) → (j ≡ i → ⊥) → (after.received j ≡ before.received j) × (after.cancelled j ≡ before.cancelled j)
  unfolding made applied sent
  others_stay j d = rw is_made (put_other i _ before.received j d, put_other i _ before.cancelled j d)

  pub value_gains : ledger_value i after ≡ ledger_value i before + w
  value_gains = rw is_made (value_rises before (after_steps_known r q ss flags) q i w)
