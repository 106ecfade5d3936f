-- LAWS. Whose names are cancelled. Every name that a card has cancelled, and every name that a message under way cancels, had been received by a card that
-- cleared (`CancelsIn`, over every property Q that such names have): a clear cancels what its card has received or has cancelled, a count that starts
-- cancels what its card has cancelled, and a delivery brings what was under way. And a name that is cancelled on a card stays so.
use Prim.Native.Nat.{ℕ, ◌≤◌, ◌<◌}
use Rattle.std.specs.Prelude.{◌≡◌, true, false, cond, ◌||◌, eqb}
use Rattle.std.proofs.Math.Path.{refl}
use Rattle.std.proofs.Common.{sym, ap, ◌∙◌, arith, eq-eqb, ne_eqb}
use Rattle.std.proofs.Math.Bool.{not}
use Rattle.std.proofs.lemmas.Bool.{false≢true}
use mathlib.Core.List.{List, [], ◌∷◌, ◌++◌, map}
use Rattle.protocol.proofs.Cases.{by_place, by_le, by_test, or_left, or_right, not_yes}
use Rattle.protocol.proofs.Tables.{put, put_same, put_other, put_cases}
use Rattle.protocol.specs.Names.{Name, has, join, names_up_to, latest, beyond}
use Rattle.protocol.proofs.NameLaws.{tally_none}
use Rattle.protocol.proofs.Joins.{has_none, has_join, from_join, names_after_only}
use Rattle.protocol.specs.Ledger.{Step, count, clear, deliver, Item, Ledger, empty_ledger, count_item, holds, clear_names, next_item, rest_items, applied, sent, made, handed, after_accepted, after_step, after_steps, ledger_value}
use Rattle.protocol.specs.Chassis.{Chassis, fresh_chassis, Offer, accepted, stepped, run, answers}
use Rattle.protocol.specs.Runs.{step_of, after_run, ledger_after}
use Rattle.protocol.proofs.LedgerLaws.{after_steps_grows}
use Rattle.protocol.proofs.RunsLaws.{after_steps_append}
use Rattle.protocol.proofs.InvariantSteps.{Invariant}
use Rattle.protocol.proofs.Theorem.{fresh_invariant, step_invariant, run_invariant}
use Rattle.protocol.proofs.Collects.{received_latest, cancelled_latest, none_beyond, none_held, received_outside}
use Rattle.protocol.proofs.Causality.{clear_names_only, clear_names_all}
use Rattle.protocol.specs.Cleared.{ClearedBySeer}

-- ---- what a card's message cancels

module _ (r q : ℕ) (st : Chassis) (l : Ledger) (ok : Invariant r q st l) (i : ℕ) where
  -- a set holds a card's names up to its latest
  is_received : (n : Name) → 0 < n.ordinal → n.ordinal ≤ latest n.card (l.received i) → has (l.received i) n ≡ true
  is_received n a b = let e = received_latest r q st l ok i n.card in (ok.cards i).received_is.all n.card n.ordinal a (omega arith)

  is_cancelled : (n : Name) → 0 < n.ordinal → n.ordinal ≤ latest n.card (l.cancelled i) → has (l.cancelled i) n ≡ true
  is_cancelled n a b = let e = cancelled_latest r q st l ok i n.card in (ok.cards i).cancelled_is.all n.card n.ordinal a (omega arith)

  -- a clear cancels what its card has received or has cancelled
  cleared_seen {ℓ} : {P : Type ℓ} (n : Name) → has (clear_names r i l) n ≡ true
      → (has (l.received i) n ≡ true → P) → (has (l.cancelled i) n ≡ true → P) → P
  cleared_seen n h a b =
      let o = clear_names_only r i l n.card n.ordinal h in
      by_le n.ordinal (latest n.card (l.received i))
      (λ m. a (is_received n o.0 m))
      (λ m. b (is_cancelled n o.0 (let z = o.1 in omega arith)))

  -- and all that its card has received and not cancelled
  received_cleared : (n : Name) → has (l.received i) n ≡ true → has (l.cancelled i) n ≡ false → has (clear_names r i l) n ≡ true
  received_cleared n h e =
      let o = (ok.cards i).received_is.only n.card n.ordinal h in
      let x = received_latest r q st l ok i n.card in
      by_test (holds i n.card l)
      (λ t. by_le r n.card
      (λ far. let z = received_outside r q st l ok i n.card far in absurd (omega arith))
      (λ near. clear_names_all r i l n.card n.ordinal near t o.0 (omega arith)))
      (λ t. let y = none_held r q st l ok i n.card t in absurd (false≢true (sym e ∙ is_cancelled n o.0 (omega arith))))

  -- a count that starts cancels what its card has cancelled
  start_cancelled : (n : Name) → has (cond (beyond i (l.received i) (l.cancelled i)) [] (names_up_to i (latest i (l.received i)))) n ≡ true
      → has (l.cancelled i) n ≡ true
  start_cancelled n h =
      by_test (beyond i (l.received i) (l.cancelled i))
      (λ e. has_none n (rw e at h))
      (λ e.
      let o = names_after_only i 0 (latest i (l.received i)) n.card n.ordinal (rw e at h) in
      let x = none_beyond r q st l ok i i e in
      is_cancelled n o.1 (rw o.0 (omega arith)))

-- ---- names that have a property Q

abbrev NamesIn : (Name → Type 0) → List Name → Type 0
NamesIn Q s = (n : Name) → has s n ≡ true → Q n

abbrev ItemsIn : (Name → Type 0) → List Item → Type 0
ItemsIn Q [] = Unit {0}
ItemsIn Q (it ∷ its) = NamesIn Q it.cancels × ItemsIn Q its

pub record CancelsIn (Q : Name → Type 0) (l : Ledger) : Type 0 where
  pub cancelled : (i : ℕ) → NamesIn Q (l.cancelled i)
  pub under_way : (s i : ℕ) → ItemsIn Q (l.queue s i)

module _ (Q : Name → Type 0) where
  items_more : (its : List Item) (it : Item) → ItemsIn Q its → NamesIn Q it.cancels → ItemsIn Q (its ++ it ∷ [])
  items_more [] it a w = (w, tt)
  items_more (it' ∷ its) it a w = (a.0, items_more its it a.1 w)

  items_rest : (its : List Item) → ItemsIn Q its → ItemsIn Q (rest_items its)
  unfolding rest_items
  items_rest [] a = tt
  items_rest (it ∷ its) a = a.1

  items_next : (its : List Item) → ItemsIn Q its → NamesIn Q (next_item its).cancels
  unfolding next_item
  items_next [] a = λ n h. has_none n h
  items_next (it ∷ its) a = a.0

  module _ (l : Ledger) (k : CancelsIn Q l) (i : ℕ) where
    joined_in : (ns : List Name) → NamesIn Q ns → (j : ℕ) → NamesIn Q (put i (join ns (l.cancelled i)) l.cancelled j)
    joined_in ns w j =
        put_cases (NamesIn Q) i (join ns (l.cancelled i)) l.cancelled j
        (λ e n h. from_join ns (l.cancelled i) n h (w n) (k.cancelled i n))
        (λ d. k.cancelled j)

    made_in : (it : Item) → NamesIn Q it.cancels → CancelsIn Q (made i it l)
    unfolding made sent applied
    made_in it w = record {
      cancelled = joined_in it.cancels w;
      under_way = λ s j.
          put_cases (λ (row : ℕ → List Item). ItemsIn Q (row j)) i (λ m. l.queue i m ++ it ∷ []) l.queue s
          (λ e. items_more (l.queue i j) it (k.under_way i j) w)
          (λ d. k.under_way s j);
    }

    handed_in : (s : ℕ) → CancelsIn Q (handed i s l)
    unfolding handed applied
    handed_in s = record {
      cancelled = joined_in (next_item (l.queue s i)).cancels (items_next (l.queue s i) (k.under_way s i));
      under_way = λ o j.
          put_cases (λ (row : ℕ → List Item). ItemsIn Q (row j)) s (put i (rest_items (l.queue s i)) (l.queue s)) l.queue o
          (λ e. put_cases (ItemsIn Q) i (rest_items (l.queue s i)) (l.queue s) j (λ d. items_rest (l.queue s i) (k.under_way s i)) (λ d. k.under_way s j))
          (λ d. k.under_way o j);
    }

  -- ---- a step, and a list of steps: Q has what a card had received that clears q

  after_accepted_in : (r q : ℕ) (st : Chassis) (l : Ledger) → Invariant r q st l → CancelsIn Q l → (s : Step) → ((i : ℕ) → s ≡ clear i q → NamesIn Q (l.received i))
      → CancelsIn Q (after_accepted r q s l)
  unfolding after_accepted count_item
  after_accepted_in r q st l ok k (count i c w) h =
      by_test (eqb c q)
      (λ e. rw e (made_in l k i _ (λ n m. k.cancelled i n (start_cancelled r q st l ok i n m))))
      (λ e. rw e (made_in l k i _ (λ n m. has_none n m)))
  after_accepted_in r q st l ok k (clear i c) h =
      by_place c q
      (λ e. rw (eq-eqb c q e)
      (made_in l k i _ (λ n m. cleared_seen r q st l ok i n m (h i (ap (clear i) e) n) (k.cancelled i n))))
      (λ d. rw (ne_eqb c q d) (made_in l k i _ (λ n m. has_none n m)))
  after_accepted_in r q st l ok k (deliver i s) h = handed_in l k i s

  after_step_in : (r q : ℕ) (o : Offer) (st : Chassis) (l : Ledger) → Invariant r q st l → CancelsIn Q l
      → ((i : ℕ) → o.step ≡ clear i q → accepted r o st ≡ true → NamesIn Q (l.received i)) → CancelsIn Q (after_step r q o.step (accepted r o st) l)
  unfolding after_step
  after_step_in r q o st l ok k h =
      by_test (accepted r o st) (λ a. rw a (after_accepted_in r q st l ok k o.step (λ i e. h i e a))) (λ a. rw a k)

  after_steps_in : (r q : ℕ) (os : List Offer) (st : Chassis) (l : Ledger) → Invariant r q st l → CancelsIn Q l
      → ((before : List Offer) (o : Offer) (later : List Offer) (i : ℕ) → os ≡ before ++ o ∷ later → o.step ≡ clear i q
      → accepted r o (run r before st) ≡ true → NamesIn Q ((after_steps r q (map step_of before) (answers r before st) l).received i))
      → CancelsIn Q (after_steps r q (map step_of os) (answers r os st) l)
  unfolding run answers after_steps
  after_steps_in r q [] st l ok k h = k
  after_steps_in r q (o ∷ os) st l ok k h =
      after_steps_in r q os (stepped r o st) (after_step r q o.step (accepted r o st) l) (step_invariant r q o st l ok)
      (after_step_in r q o st l ok k (λ i e a. h [] o os i refl e a)) (λ before o' later i e. h (o ∷ before) o' later i (ap (λ os'. o ∷ os') e))

pub was_cleared : (r q i : ℕ) (os : List Offer) (n : Name) → has ((ledger_after r q os).cancelled i) n ≡ true → ClearedBySeer r q os n
was_cleared r q i os =
    (after_steps_in (ClearedBySeer r q os) r q os fresh_chassis empty_ledger (fresh_invariant r q) (record { cancelled = λ i n h. has_none n h; under_way = λ s i. tt })
    (λ before o later j e c a n h.
    record { before = before; offer = o; later = later; card = j; in_list = e; is_clear = c; was_accepted = a; had_received = h })
    ).cancelled i

-- ---- what a clear leaves

module _ (r q : ℕ) (st : Chassis) (l : Ledger) (ok : Invariant r q st l) (i : ℕ) where
  cleared_sets : (n : Name) → has (clear_names r i l) n || has (l.cancelled i) n ≡ has (l.cancelled i) n || has (l.received i) n
  cleared_sets n =
      by_test (has (l.cancelled i) n)
      (λ c. rw c (or_right (has (clear_names r i l) n) true refl))
      (λ c. by_test (has (l.received i) n)
      (λ a. rw (c, a, received_cleared r q st l ok i n a c))
      (λ a. rw (c, a, not_yes (has (clear_names r i l) n) (λ h. cleared_seen r q st l ok i n h (λ b. false≢true (sym a ∙ b)) (λ b. false≢true (sym c ∙ b))))))

  pub clear_message_seen : (n : Name) → has (clear_names r i l) n ≡ true → has (l.received i) n || has (l.cancelled i) n ≡ true
  clear_message_seen n h = cleared_seen r q st l ok i n h (or_left (has (l.received i) n) (has (l.cancelled i) n)) (or_right (has (l.received i) n) (has (l.cancelled i) n))

  pub clear_cancelled : (n : Name) → has ((after_accepted r q (clear i q) l).cancelled i) n ≡ has (l.cancelled i) n || has (l.received i) n
  unfolding after_accepted made sent applied
  clear_cancelled n =
      rw (eq-eqb q q refl, put_same i (join (clear_names r i l) (l.cancelled i)) l.cancelled, has_join (clear_names r i l) (l.cancelled i) n)
      (cleared_sets n)

  pub clear_received : (after_accepted r q (clear i q) l).received i ≡ l.received i
  unfolding after_accepted made sent applied join
  clear_received = rw (eq-eqb q q refl) (put_same i (l.received i) l.received)

  pub clear_value : ledger_value i (after_accepted r q (clear i q) l) ≡ 0
  unfolding ledger_value
  clear_value =
      rw clear_received
      (tally_none (λ n. not (has ((after_accepted r q (clear i q) l).cancelled i) n)) (l.received i)
      (λ n h. rw (clear_cancelled n, or_right (has (l.cancelled i) n) (has (l.received i) n) h)))

  pub clear_others : (j : ℕ) → (j ≡ i → ⊥)
      → ((after_accepted r q (clear i q) l).received j ≡ l.received j) × ((after_accepted r q (clear i q) l).cancelled j ≡ l.cancelled j)
  unfolding after_accepted made sent applied
  clear_others j d = (put_other i _ l.received j d, put_other i _ l.cancelled j d)

-- ---- what is cancelled stays so

pub stays_cancelled : (r q i : ℕ) (os os' : List Offer) (n : Name) → has ((ledger_after r q os).cancelled i) n ≡ true
    → has ((ledger_after r q (os ++ os')).cancelled i) n ≡ true
stays_cancelled r q i os os' n h =
    rw (after_steps_append r q os os' fresh_chassis empty_ledger)
    ((after_steps_grows r q (map step_of os') (answers r os' (after_run r os)) (ledger_after r q os)).cancelled i n h)

pub is_cleared : (r q : ℕ) (os : List Offer) (n : Name) (w : ClearedBySeer r q os n) → has ((ledger_after r q os).cancelled w.card) n ≡ true
unfolding answers after_steps after_step
is_cleared r q os n w =
    let l = ledger_after r q w.before in
    let st = after_run r w.before in
    rw (w.in_list, after_steps_append r q w.before (w.offer ∷ w.later) fresh_chassis empty_ledger)
    ((after_steps_grows r q (map step_of w.later) (answers r w.later (stepped r w.offer st)) (after_step r q w.offer.step (accepted r w.offer st) l)).cancelled w.card n
    (rw (w.was_accepted, w.is_clear, clear_cancelled r q st l (run_invariant r q w.before) w.card n)
    (or_right (has (l.cancelled w.card) n) (has (l.received w.card) n) w.had_received)))
