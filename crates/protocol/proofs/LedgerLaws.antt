-- LAWS. A ledger that is fed steps, whatever they are and whichever of them were accepted: what holds of every item of its links, how the latest names of its sets
-- move, that its sets only grow (`Grows`), and that a step of another counter leaves them as they are (`SameSets`).
use Rattle.std.specs.Prelude.{ℕ, zero, suc, ◌≤◌, max, ◌≡◌, refl, Bool, true, false, cond, List, [], ◌∷◌, ◌++◌, eqb}
use Rattle.std.proofs.Common.{sym, ap, ◌∙◌, append-nil, arith, eq-eqb, ne_eqb}
use Rattle.std.proofs.lemmas.Bool.{false≢true}
use Rattle.protocol.proofs.Cases.{by_place, by_test}
use Rattle.protocol.proofs.Tables.{put, put_same, put_other, put_at, put_same_row, put_other_row, put_cases}
use Rattle.protocol.specs.Names.{Name, has, join, latest}
use Rattle.protocol.proofs.Joins.{has_join_right, latest_join, latest_append, latest_up_to}
use Rattle.protocol.specs.Ledger.{Step, count, clear, deliver, Item, nothing, Ledger, empty_ledger, count_item, holds, clear_names, next_item, rest_items, turn_is, belongs, applied, handed, sent, made, after_accepted, after_step, after_steps, ledger_value, ledger_holders}

-- what every accepted step keeps, every ledger that was fed has
pub after_steps_keeps : (r q : ℕ) (P : Ledger → Type 0) → ((s : Step) (l : Ledger) → P l → P (after_accepted r q s l)) → (ss : List Step) (flags : List Bool) (l : Ledger)
    → P l → P (after_steps r q ss flags l)
unfolding after_steps after_step
after_steps_keeps r q P keeps [] flags l h = h
after_steps_keeps r q P keeps (s ∷ ss) [] l h = h
after_steps_keeps r q P keeps (s ∷ ss) (true ∷ flags) l h = after_steps_keeps r q P keeps ss flags (after_accepted r q s l) (keeps s l h)
after_steps_keeps r q P keeps (s ∷ ss) (false ∷ flags) l h = after_steps_keeps r q P keeps ss flags l h

-- ---- the items of links

-- P holds of each
abbrev pub EachItem : (Item → Type 0) → List Item → Type 0
EachItem P [] = Unit {0}
EachItem P (it ∷ its) = P it × EachItem P its

pub each_wider : (P Q : Item → Type 0) → ((it : Item) → P it → Q it) → (its : List Item) → EachItem P its → EachItem Q its
each_wider P Q f [] h = tt
each_wider P Q f (it ∷ its) h = (f it h.0, each_wider P Q f its h.1)

each_more : (P : Item → Type 0) (its : List Item) (it : Item) → EachItem P its → P it → EachItem P (its ++ it ∷ [])
each_more P [] it h x = (x, tt)
each_more P (it' ∷ its) it h x = (h.0, each_more P its it h.1 x)

each_rest : (P : Item → Type 0) (its : List Item) → EachItem P its → EachItem P (rest_items its)
unfolding rest_items
each_rest P [] h = tt
each_rest P (it ∷ its) h = h.1

pub each_next : (P : Item → Type 0) (its : List Item) → P (nothing 0) → EachItem P its → P (next_item its)
unfolding next_item
each_next P [] none h = none
each_next P (it ∷ its) none h = h.0

module _ (P : Item → Type 0) (queue : ℕ → ℕ → List Item) (each : (s i : ℕ) → EachItem P (queue s i)) where
  -- card i makes one more
  pub each_sent : (i : ℕ) (it : Item) → P it → (s n : ℕ) → EachItem P (put i (λ n. queue i n ++ it ∷ []) queue s n)
  each_sent i it x s n =
      by_place s i
      (λ e. rw (e, put_same_row) (each_more P (queue i n) it (each i n) x))
      (λ d. rw put_other_row (each s n))

  -- the link from s hands one over to i
  pub each_handed : (i s o n : ℕ) → EachItem P (put s (put i (rest_items (queue s i)) (queue s)) queue o n)
  each_handed i s o n =
      by_place o s
      (λ e. rw (e, put_same_row)
      (put_cases (EachItem P) i (rest_items (queue s i)) (queue s) n (λ f. each_rest P (queue s i) (each s i)) (λ f. each s n)))
      (λ d. rw put_other_row (each o n))

-- ---- the latest names

-- of no card is a name of the list later than the card's number in `top`
abbrev pub UpTo : (ℕ → ℕ) → List Name → Type 0
UpTo top s = (j : ℕ) → latest j s ≤ top j

-- a card's set, when names join it: it grows, by these alone
pub set_grows : (i : ℕ) (ns : List Name) (f : ℕ → List Name) (k j : ℕ) → latest j (f k) ≤ latest j (put i (join ns (f i)) f k)
set_grows i ns f k j =
    by_place k i
    (λ e. rw (e, put_same i (join ns (f i)) f, latest_join j ns (f i)) (omega arith))
    (λ d. rw (put_other i (join ns (f i)) f k d) (omega arith))

pub set_bounded : (i : ℕ) (ns : List Name) (top : ℕ → ℕ) (f : ℕ → List Name) → UpTo top ns → ((k : ℕ) → UpTo top (f k)) → (k : ℕ) → UpTo top (put i (join ns (f i)) f k)
set_bounded i ns top f w m k j =
    by_place k i
    (λ e. let x = w j in let y = m i j in rw (e, put_same i (join ns (f i)) f, latest_join j ns (f i)) (omega arith))
    (λ d. rw (put_other i (join ns (f i)) f k d) (m k j))

-- a clear cancels names up to the latest in either set
pub clear_latest : (i : ℕ) (l : Ledger) (j r : ℕ) → latest j (clear_names r i l) ≤ max (latest j (l.received i)) (latest j (l.cancelled i))
unfolding clear_names latest
clear_latest i l j zero = omega arith
clear_latest i l j (suc r) =
    let rest = clear_latest i l j r in
    by_test (holds i r l)
    (λ e. rw (e, latest_append, latest_up_to)
    (by_place r j (λ f. rw (eq-eqb r j f) (let x = ap (λ (m : ℕ). latest m (l.received i)) f in let y = ap (λ (m : ℕ). latest m (l.cancelled i)) f in omega arith))
    (λ d. rw (ne_eqb r j d) (omega arith))))
    (λ e. rw (e, append-nil (clear_names r i l)) rest)

-- ---- sets only grow

pub record Grows (l l' : Ledger) : Type 0 where
  pub received : (i : ℕ) (n : Name) → has (l.received i) n ≡ true → has (l'.received i) n ≡ true
  pub cancelled : (i : ℕ) (n : Name) → has (l.cancelled i) n ≡ true → has (l'.cancelled i) n ≡ true

joined_has : (i : ℕ) (ns : List Name) (f : ℕ → List Name) (j : ℕ) (n : Name) → has (f j) n ≡ true → has (put i (join ns (f i)) f j) n ≡ true
joined_has i ns f j n h =
    put_cases (λ (s : List Name). has s n ≡ true) i (join ns (f i)) f j (λ e. has_join_right ns (f i) n (rw e at h)) (λ d. h)

module _ (l l' : Ledger) (h : Grows l l') where
  applied_grows : (i : ℕ) (it : Item) (queue : ℕ → ℕ → List Item)
      → Grows l (applied i it (record { received = l'.received; cancelled = l'.cancelled; queue = queue }))
  unfolding applied
  applied_grows i it queue = record {
    received = λ j n e. joined_has i it.adds l'.received j n (h.received j n e);
    cancelled = λ j n e. joined_has i it.cancels l'.cancelled j n (h.cancelled j n e);
  }

  after_accepted_grows : (r q : ℕ) (s : Step) → Grows l (after_accepted r q s l')
  unfolding after_accepted made sent handed
  after_accepted_grows r q (count i k w) = applied_grows i _ _
  after_accepted_grows r q (clear i k) = applied_grows i _ _
  after_accepted_grows r q (deliver i s) = applied_grows i _ _

pub after_steps_grows : (r q : ℕ) (ss : List Step) (flags : List Bool) (l : Ledger) → Grows l (after_steps r q ss flags l)
after_steps_grows r q ss flags l =
    after_steps_keeps r q (Grows l) (λ s l' h. after_accepted_grows l l' h r q s) ss flags l (record { received = λ i n e. e; cancelled = λ i n e. e })

-- ---- ledgers with the same sets

pub record SameSets (l l' : Ledger) : Type 0 where
  pub received : (i : ℕ) → l'.received i ≡ l.received i
  pub cancelled : (i : ℕ) → l'.cancelled i ≡ l.cancelled i

pub same_sets : (l : Ledger) → SameSets l l
same_sets l = record { received = λ i. refl; cancelled = λ i. refl }

-- what is made of the sets is the same
module _ (l l' : Ledger) (h : SameSets l l') where
  pub same_holds : (i j : ℕ) → holds i j l' ≡ holds i j l
  unfolding holds
  same_holds i j = rw (h.received i, h.cancelled i)

  pub same_value : (i : ℕ) → ledger_value i l' ≡ ledger_value i l
  unfolding ledger_value
  same_value i = rw (h.received i, h.cancelled i)

  pub same_holders : (r i : ℕ) → ledger_holders r i l' ≡ ledger_holders r i l
  unfolding ledger_holders holds
  same_holders r i = simp (h.received i, h.cancelled i)

-- ---- a step of another counter

none_joined : (i : ℕ) (f g : ℕ → List Name) → ((j : ℕ) → g j ≡ f j) → (j : ℕ) → g j ≡ put i (join [] (f i)) f j
unfolding join
none_joined i f g h j = by_place j i (λ e. rw (put_at i (f i) f j e, ← e) (h j)) (λ d. rw put_other (h j))

-- a card applies an item that says nothing
pub none_applied : (l l' : Ledger) → SameSets l l' → (i c : ℕ) (queue : ℕ → ℕ → List Item)
    → SameSets (applied i (nothing c) (record { received = l.received; cancelled = l.cancelled; queue = queue })) l'
unfolding applied
none_applied l l' h i c queue = record {
  received = none_joined i l.received l'.received h.received;
  cancelled = none_joined i l.cancelled l'.cancelled h.cancelled;
}

-- an item of another counter says nothing
abbrev Silent : ℕ → Item → Type 0
Silent q it = eqb it.counter q ≡ false → it ≡ nothing it.counter

abbrev AllSilent : ℕ → Ledger → Type 0
AllSilent q l = (s i : ℕ) → EachItem (Silent q) (l.queue s i)

silent_made : (q k : ℕ) (it : Item) → it.counter ≡ q → Silent q (cond (eqb k q) it (nothing k))
silent_made q k it e =
    by_test (eqb k q)
    (λ t. rw t (λ f. absurd (false≢true (sym f ∙ eq-eqb it.counter q e))))
    (λ t. rw t (λ f. refl))

after_accepted_silent : (r q : ℕ) (s : Step) (l : Ledger) → AllSilent q l → AllSilent q (after_accepted r q s l)
unfolding after_accepted made sent handed applied count_item
after_accepted_silent r q (count i k w) l h = each_sent (Silent q) l.queue h i _ (silent_made q k _ refl)
after_accepted_silent r q (clear i k) l h = each_sent (Silent q) l.queue h i _ (silent_made q k _ refl)
after_accepted_silent r q (deliver i s) l h = each_handed (Silent q) l.queue h i s

after_steps_silent : (r q : ℕ) (ss : List Step) (flags : List Bool) → AllSilent q (after_steps r q ss flags empty_ledger)
after_steps_silent r q ss flags = after_steps_keeps r q (AllSilent q) (after_accepted_silent r q) ss flags empty_ledger (λ s i. tt)

-- what a link hands over whose turn is not q's
silent_next : (q : ℕ) (its : List Item) → EachItem (Silent q) its → turn_is q its ≡ false → next_item its ≡ nothing (next_item its).counter
unfolding turn_is next_item
silent_next q [] h e = refl
silent_next q (it ∷ its) h e = h.0 e

other_after_accepted : (r q : ℕ) (s : Step) (l : Ledger) → AllSilent q l → belongs q s l ≡ false → SameSets (after_accepted r q s l) l
unfolding belongs after_accepted made sent handed
other_after_accepted r q (count i k w) l h e = rw e (none_applied l l (same_sets l) i k _)
other_after_accepted r q (clear i k) l h e = rw e (none_applied l l (same_sets l) i k _)
other_after_accepted r q (deliver i s) l h e =
    rw (silent_next q (l.queue s i) (h s i) e) (none_applied l l (same_sets l) i (next_item (l.queue s i)).counter _)

pub other_after_step : (r q : ℕ) (ss : List Step) (flags : List Bool) (s : Step) (a : Bool)
    → let l = after_steps r q ss flags empty_ledger in belongs q s l ≡ false → SameSets (after_step r q s a l) l
unfolding after_step
other_after_step r q ss flags s true e = other_after_accepted r q s _ (after_steps_silent r q ss flags) e
other_after_step r q ss flags s false e = same_sets _
