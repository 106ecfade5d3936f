-- LAWS. The ledger of q beside the one that is fed q's own steps alone (`Beside`): the same sets at every card, and on every link what is q's of
-- what the other has there. Every accepted step keeps this, on both if it belongs to q, on the first alone if it does not.
use Prim.Native.Nat.{ℕ, zero, suc}
use Rattle.std.specs.Prelude.{◌≡◌, Bool, true, false, eqb}
use Rattle.std.proofs.Math.Path.{refl, sym, ap}
use Rattle.std.proofs.Common.{ap₂, ◌∙◌}
use Rattle.std.proofs.Math.Bool.{cond}
use Rattle.std.proofs.lemmas.Bool.{false≢true}
use mathlib.Core.List.{List, [], ◌∷◌, ◌++◌, map, map-map, tail, append-nil, append_assoc}
use Rattle.protocol.proofs.Cases.{by_place, by_test}
use Rattle.protocol.proofs.Tables.{put, put_same, put_other, put_at, put_same_row, put_other_row}
use Rattle.protocol.specs.Names.{Name, join}
use Rattle.protocol.specs.Ledger.{Step, count, clear, deliver, Item, nothing, Ledger, count_item, clear_names, clear_item, next_item, rest_items, some_item, applied, handed, sent, made, after_accepted, after_step, after_steps, empty_ledger}
use Rattle.protocol.specs.Alone.{Turns, no_turns, turned, turn_of, belongs_by_turns, own_steps}
use Rattle.protocol.specs.Runs.{all_accepted}
use Rattle.protocol.proofs.LedgerLaws.{same_sets, none_applied}
pub use Rattle.protocol.proofs.LedgerLaws.{SameSets, same_holds, same_value, same_holders}

-- ---- a link: the counters of what waits there, and the items

-- the items of counter q
unfoldable pub items_of : ℕ → List ℕ → List Item → List Item
items_of q [] its = []
items_of q (k ∷ ks) [] = []
items_of q (k ∷ ks) (it ∷ its) = cond (eqb k q) (it ∷ []) [] ++ items_of q ks its

-- one item for each counter number, and of another counter it is `nothing`
abbrev pub Lined : ℕ → List ℕ → List Item → Type 0
Lined q [] [] = Unit {0}
Lined q [] (it ∷ its) = ⊥
Lined q (k ∷ ks) [] = ⊥
Lined q (k ∷ ks) (it ∷ its) = (eqb k q ≡ false → it ≡ nothing k) × Lined q ks its

module _ (q : ℕ) where
  -- one more is made
  items_more : (ks : List ℕ) (its : List Item) (k : ℕ) (it : Item) → Lined q ks its
      → items_of q (ks ++ k ∷ []) (its ++ it ∷ []) ≡ items_of q ks its ++ cond (eqb k q) (it ∷ []) []
  unfolding items_of
  items_more [] [] k it h = append-nil (cond (eqb k q) (it ∷ []) [])
  items_more [] (it' ∷ its) k it h = absurd h
  items_more (k' ∷ ks) [] k it h = absurd h
  items_more (k' ∷ ks) (it' ∷ its) k it h =
      ap (λ (rest : List Item). cond (eqb k' q) (it' ∷ []) [] ++ rest) (items_more ks its k it h.1)
      ∙ sym (append_assoc (cond (eqb k' q) (it' ∷ []) []) (items_of q ks its) (cond (eqb k q) (it ∷ []) []))

  lined_more : (ks : List ℕ) (its : List Item) (k : ℕ) (it : Item) → Lined q ks its → (eqb k q ≡ false → it ≡ nothing k) → Lined q (ks ++ k ∷ []) (its ++ it ∷ [])
  lined_more [] [] k it h n = (n, tt)
  lined_more [] (it' ∷ its) k it h n = absurd h
  lined_more (k' ∷ ks) [] k it h n = absurd h
  lined_more (k' ∷ ks) (it' ∷ its) k it h n = (h.0, lined_more ks its k it h.1 n)

  -- one is handed over
  lined_rest : (ks : List ℕ) (its : List Item) → Lined q ks its → Lined q (tail ks) (rest_items its)
  unfolding rest_items
  lined_rest [] [] h = tt
  lined_rest [] (it ∷ its) h = absurd h
  lined_rest (k ∷ ks) [] h = absurd h
  lined_rest (k ∷ ks) (it ∷ its) h = h.1

  -- it is q's
  pub own_waits : (ks : List ℕ) (its : List Item) → Lined q ks its → turn_of q ks ≡ true → some_item (items_of q ks its) ≡ true
  unfolding items_of turn_of some_item
  own_waits [] its h e = e
  own_waits (k ∷ ks) [] h e = absurd h
  own_waits (k ∷ ks) (it ∷ its) h e = rw e

  own_next : (ks : List ℕ) (its : List Item) → Lined q ks its → turn_of q ks ≡ true → next_item (items_of q ks its) ≡ next_item its
  unfolding items_of turn_of next_item
  own_next [] its h e = cc
  own_next (k ∷ ks) [] h e = absurd h
  own_next (k ∷ ks) (it ∷ its) h e = rw e

  own_rest : (ks : List ℕ) (its : List Item) → Lined q ks its → turn_of q ks ≡ true → rest_items (items_of q ks its) ≡ items_of q (tail ks) (rest_items its)
  unfolding items_of turn_of rest_items
  own_rest [] its h e = refl
  own_rest (k ∷ ks) [] h e = absurd h
  own_rest (k ∷ ks) (it ∷ its) h e = rw e

  -- it is another counter's, or there is none
  other_next : (ks : List ℕ) (its : List Item) → Lined q ks its → turn_of q ks ≡ false → next_item its ≡ nothing (next_item its).counter
  unfolding turn_of next_item
  other_next [] [] h e = refl
  other_next [] (it ∷ its) h e = absurd h
  other_next (k ∷ ks) [] h e = absurd h
  other_next (k ∷ ks) (it ∷ its) h e = rw (h.0 e)

  other_rest : (ks : List ℕ) (its : List Item) → Lined q ks its → turn_of q ks ≡ false → items_of q ks its ≡ items_of q (tail ks) (rest_items its)
  unfolding items_of turn_of rest_items
  other_rest [] its h e = refl
  other_rest (k ∷ ks) [] h e = absurd h
  other_rest (k ∷ ks) (it ∷ its) h e = rw e

-- ---- the two ledgers

pub record Beside (q : ℕ) (turns : Turns) (l l' : Ledger) : Type 0 where
  pub sets : SameSets l l'
  pub lined : (s i : ℕ) → Lined q (turns s i) (l.queue s i)
  pub queues : (s i : ℕ) → l'.queue s i ≡ items_of q (turns s i) (l.queue s i)

pub beside_empty : (q : ℕ) → Beside q no_turns empty_ledger empty_ledger
unfolding items_of
beside_empty q = record { sets = same_sets empty_ledger; lined = λ s i. tt; queues = λ s i. refl }

-- what is made of the same sets is the same
module _ (l l' : Ledger) (h : SameSets l l') where
  same_count : (q i w : ℕ) → count_item q i w l' ≡ count_item q i w l
  unfolding count_item
  same_count q i w = rw (h.received i, h.cancelled i)

  same_clear_names : (r i : ℕ) → clear_names r i l' ≡ clear_names r i l
  unfolding clear_names
  same_clear_names zero i = refl
  same_clear_names (suc r) i = rw (same_clear_names r i, same_holds l l' h i r, h.received i, h.cancelled i)

  same_clear : (r q i : ℕ) → clear_item r q i l' ≡ clear_item r q i l
  same_clear r q i = ap (λ (ns : List Name). record { counter = q; adds = []; cancels = ns }) (same_clear_names r i)

-- ---- sets, when a card applies an item

same_joined : (i : ℕ) (ns : List Name) (f g : ℕ → List Name) → ((j : ℕ) → g j ≡ f j) → (j : ℕ) → put i (join ns (g i)) g j ≡ put i (join ns (f i)) f j
same_joined i ns f g h j = by_place j i (λ e. simp put_at (ap (join ns) (h i))) (λ d. simp put_other (h j))

module _ (l l' : Ledger) (h : SameSets l l') (i : ℕ) where
  same_applied : (it : Item) (queue queue' : ℕ → ℕ → List Item)
      → SameSets (applied i it (record { received = l.received; cancelled = l.cancelled; queue = queue }))
      (applied i it (record { received = l'.received; cancelled = l'.cancelled; queue = queue' }))
  unfolding applied
  same_applied it queue queue' = record {
    received = same_joined i it.adds l.received l'.received h.received;
    cancelled = same_joined i it.cancels l.cancelled l'.cancelled h.cancelled;
  }

-- ---- a message is made

module _ (q : ℕ) (turns : Turns) (l l' : Ledger) (h : Beside q turns l l') (i k : ℕ) (it : Item) where
  lined_made : (eqb k q ≡ false → it ≡ nothing k)
      → (s j : ℕ) → Lined q (put i (λ n. turns i n ++ k ∷ []) turns s j) (put i (λ n. l.queue i n ++ it ∷ []) l.queue s j)
  lined_made n s j =
      by_place s i
      (λ e. rw e (simp put_same_row (lined_more q (turns i j) (l.queue i j) k it (h.lined i j) n)))
      (λ d. simp put_other_row (h.lined s j))

  -- of counter q
  own_made : eqb k q ≡ true → Beside q (put i (λ n. turns i n ++ k ∷ []) turns) (made i it l) (made i it l')
  unfolding made applied sent
  own_made e = record {
    sets = same_applied l l' h.sets i it _ _;
    lined = lined_made (λ f. absurd (false≢true (sym f ∙ e)));
    queues = λ s j.
        by_place s i
        (λ f. rw f (simp put_same_row (rw (h.queues i j) (sym (items_more q (turns i j) (l.queue i j) k it (h.lined i j) ∙ rw e)))))
        (λ d. simp put_other_row (h.queues s j));
  }

  -- of another counter
  other_made : eqb k q ≡ false → it ≡ nothing k → Beside q (put i (λ n. turns i n ++ k ∷ []) turns) (made i it l) l'
  unfolding made applied sent
  other_made e n = record {
    sets = rw n (none_applied l l' h.sets i k _);
    lined = lined_made (λ f. n);
    queues = λ s j.
        by_place s i
        (λ f. rw f (simp put_same_row (h.queues i j ∙ sym (items_more q (turns i j) (l.queue i j) k it (h.lined i j) ∙ rw e (append-nil (items_of q (turns i j) (l.queue i j)))))))
        (λ d. simp put_other_row (h.queues s j));
  }

-- ---- one is handed over

module _ (q : ℕ) (turns : Turns) (l l' : Ledger) (h : Beside q turns l l') (i s : ℕ) where
  lined_handed : (o j : ℕ) → Lined q (put s (put i (tail (turns s i)) (turns s)) turns o j) (put s (put i (rest_items (l.queue s i)) (l.queue s)) l.queue o j)
  lined_handed o j =
      by_place o s
      (λ e. rw e (simp put_same_row
      (by_place j i (λ f. rw f (simp put_same (lined_rest q (turns s i) (l.queue s i) (h.lined s i)))) (λ f. simp put_other (h.lined s j)))))
      (λ d. simp put_other_row (h.lined o j))

  -- of counter q
  own_handed : turn_of q (turns s i) ≡ true → Beside q (put s (put i (tail (turns s i)) (turns s)) turns) (handed i s l) (handed i s l')
  unfolding handed applied
  own_handed e = record {
    sets = rw (h.queues s i, own_next q (turns s i) (l.queue s i) (h.lined s i) e) (same_applied l l' h.sets i (next_item (l.queue s i)) _ _);
    lined = lined_handed;
    queues = λ o j.
        by_place o s
        (λ f. rw f (simp put_same_row
        (by_place j i
        (λ g. rw g (simp put_same (rw (h.queues s i) (own_rest q (turns s i) (l.queue s i) (h.lined s i) e))))
        (λ g. simp put_other (h.queues s j)))))
        (λ d. simp put_other_row (h.queues o j));
  }

  -- of another, or nothing
  other_handed : turn_of q (turns s i) ≡ false → Beside q (put s (put i (tail (turns s i)) (turns s)) turns) (handed i s l) l'
  unfolding handed applied
  other_handed e = record {
    sets = rw (other_next q (turns s i) (l.queue s i) (h.lined s i) e) (none_applied l l' h.sets i (next_item (l.queue s i)).counter _);
    lined = lined_handed;
    queues = λ o j.
        by_place o s
        (λ f. rw f (simp put_same_row
        (by_place j i
        (λ g. rw g (simp put_same (h.queues s i ∙ other_rest q (turns s i) (l.queue s i) (h.lined s i) e)))
        (λ g. simp put_other (h.queues s j)))))
        (λ d. simp put_other_row (h.queues o j));
  }

-- ---- an accepted step, and a list of steps

module _ (r q : ℕ) (turns : Turns) (l l' : Ledger) (h : Beside q turns l l') where
  pub own_after_accepted : (s : Step) → belongs_by_turns q s turns ≡ true → Beside q (turned s turns) (after_accepted r q s l) (after_accepted r q s l')
  unfolding belongs_by_turns turned after_accepted
  own_after_accepted (count i k w) e = rw (e, same_count l l' h.sets q i w) (own_made q turns l l' h i k (count_item q i w l) e)
  own_after_accepted (clear i k) e = rw (e, same_clear l l' h.sets r q i) (own_made q turns l l' h i k (clear_item r q i l) e)
  own_after_accepted (deliver i s) e = own_handed q turns l l' h i s e

  pub other_after_accepted : (s : Step) → belongs_by_turns q s turns ≡ false → Beside q (turned s turns) (after_accepted r q s l) l'
  unfolding belongs_by_turns turned after_accepted
  other_after_accepted (count i k w) e = rw e (other_made q turns l l' h i k (nothing k) e refl)
  other_after_accepted (clear i k) e = rw e (other_made q turns l l' h i k (nothing k) e refl)
  other_after_accepted (deliver i s) e = other_handed q turns l l' h i s e

-- The ledger of q, told any flags, and the one that is fed q's own steps, all of them accepted.
pub own_after_steps {ℓ} : {A : Type ℓ} (step : A → Step) (r q : ℕ) (xs : List A) (fs : List Bool) (turns : Turns) (l l' : Ledger) → Beside q turns l l'
    → let own = own_steps step q xs fs turns in SameSets (after_steps r q (map step xs) fs l) (after_steps r q (map step own) (all_accepted own) l')
unfolding own_steps after_steps after_step
own_after_steps step r q [] fs turns l l' h = h.sets
own_after_steps step r q (x ∷ xs) [] turns l l' h = h.sets
own_after_steps step r q (x ∷ xs) (false ∷ fs) turns l l' h = own_after_steps step r q xs fs turns l l' h
own_after_steps step r q (x ∷ xs) (true ∷ fs) turns l l' h =
    by_test (belongs_by_turns q (step x) turns)
    (λ e. rw e (own_after_steps step r q xs fs (turned (step x) turns) (after_accepted r q (step x) l) (after_accepted r q (step x) l') (own_after_accepted r q turns l l' h (step x) e)))
    (λ e. rw e (own_after_steps step r q xs fs (turned (step x) turns) (after_accepted r q (step x) l) l' (other_after_accepted r q turns l l' h (step x) e)))

-- Two ledgers of q that were fed lists with the same own steps of q, whatever else is in them.
pub own_same {ℓ ℓ'} : {A : Type ℓ} {B : Type ℓ'} (step : A → Step) (step' : B → Step) (r q : ℕ) (xs : List A) (ys : List B) (fs gs : List Bool)
    → map step (own_steps step q xs fs no_turns) ≡ map step' (own_steps step' q ys gs no_turns)
    → SameSets (after_steps r q (map step xs) fs empty_ledger) (after_steps r q (map step' ys) gs empty_ledger)
own_same step step' r q xs ys fs gs e =
    let own = own_steps step q xs fs no_turns in
    let own' = own_steps step' q ys gs no_turns in
    let a = own_after_steps step r q xs fs no_turns empty_ledger empty_ledger (beside_empty q) in
    let b = own_after_steps step' r q ys gs no_turns empty_ledger empty_ledger (beside_empty q) in
    let flags : all_accepted own ≡ all_accepted own' = sym (map-map (λ s. true) step own) ∙ ap all_accepted e ∙ map-map (λ s. true) step' own' in
    let same = ap₂ (λ (ss : List Step) (hs : List Bool). after_steps r q ss hs empty_ledger) e flags in
    record {
      received = λ i. sym (b.received i) ∙ ap (λ (l : Ledger). l.received i) (sym same) ∙ a.received i;
      cancelled = λ i. sym (b.cancelled i) ∙ ap (λ (l : Ledger). l.cancelled i) (sym same) ∙ a.cancelled i;
    }
