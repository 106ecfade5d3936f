-- LAWS. The reduction of sets to numbers. A set of the ledger holds, of each card j, the first f j names: `Prefixes s f`. From that alone:
--     join-ok            names that join after a prefix make a longer prefix
--     latest-is          the latest name is the f j-th
--     beyond-is          a name of j is in s and not in t exactly if s's prefix is longer
--     within-prefix      s is a part of t exactly if no prefix of s is longer (and `prefix_within`)
--     tally-is           the names in s and not in t: the sum of the differences
use Rattle.std.specs.Prelude.{ℕ, zero, suc, ◌+◌, ◌-◌, ◌≤◌, ◌<◌, max, ◌≡◌, refl, true, false, cond, ◌&&◌, List, [], ◌∷◌, ltb}
use Rattle.std.proofs.Common.{sym, ap₂, ◌∙◌, arith, eqb-true, lt-ltb, le-ltb, eq-eqb, ne_eqb}
use Rattle.std.proofs.Math.Path.{ap}
use Rattle.std.proofs.Math.Bool.{Bool, not}
use Rattle.std.proofs.lemmas.Bool.{false≢true}
use Rattle.std.proofs.Math.Dec.{eqb}
use Rattle.protocol.proofs.Cases.{by_test, by_le, by_place, and_yes, and_left, and_right, and_no_left, and_no_right, or_left, or_right, not_yes}
use Rattle.protocol.proofs.Tables.{put, put_same, put_other, put_at, put_agrees, sum, sum_cong, sum_plus, sum_zero, sum_one}
use Rattle.protocol.specs.Names.{Name, name, same_name, has, insert, join, names_after, tally, any, latest, beyond}

-- card j's names that are later than the x-th
abbrev pub above : ℕ → ℕ → Name → Bool
above j x n = eqb n.card j && ltb x n.ordinal

pub record Prefixes (s : List Name) (f : ℕ → ℕ) : Type 0 where
  pub only : (j o : ℕ) → has s (name j o) ≡ true → (0 < o) × (o ≤ f j)
  pub all : (j o : ℕ) → 0 < o → o ≤ f j → has s (name j o) ≡ true
  pub once : (j x : ℕ) → tally (above j x) s ≡ f j - x

pub Prefixes_cong : (s : List Name) (f g : ℕ → ℕ) → ((j : ℕ) → f j ≡ g j) → Prefixes s f → Prefixes s g
Prefixes_cong s f g e k = record {
  only = λ j o h. let q = e j in let q₁ = k.only j o h in (q₁.0, omega arith);
  all = λ j o h l. let q = e j in k.all j o h (omega arith);
  once = λ j x. k.once j x ∙ ap (λ (y : ℕ). y - x) (e j);
}

pub Prefixes_empty : Prefixes [] (λ j. 0)
unfolding has tally
Prefixes_empty = record { only = λ j o h. absurd (false≢true h); all = λ j o h l. absurd (omega arith); once = λ j x. omega arith }

-- ---- membership

pub same_name_is : (m : Name) (j o : ℕ) → same_name m (name j o) ≡ true → (m.card ≡ j) × (m.ordinal ≡ o)
same_name_is m j o e = (
  eqb-true m.card j (and_left (eqb m.card j) (eqb m.ordinal o) e),
  eqb-true m.ordinal o (and_right (eqb m.card j) (eqb m.ordinal o) e),
)

is_same_name : (m : Name) (j o : ℕ) → m.card ≡ j → m.ordinal ≡ o → same_name m (name j o) ≡ true
is_same_name m j o e d = and_yes (eqb m.card j) (eqb m.ordinal o) (eq-eqb m.card j e) (eq-eqb m.ordinal o d)

pub has_first : (m : Name) (s : List Name) (j o : ℕ) → m.card ≡ j → m.ordinal ≡ o → has (m ∷ s) (name j o) ≡ true
unfolding has
has_first m s j o e d = or_left (same_name m (name j o)) (has s (name j o)) (is_same_name m j o e d)

pub has_more : (m : Name) (s : List Name) (n : Name) → has s n ≡ true → has (m ∷ s) n ≡ true
unfolding has
has_more m s n e = or_right (same_name m n) (has s n) e

-- a name of a list is the first, or in the rest
pub found {ℓ} : {P : Type ℓ} (m : Name) (s : List Name) (j o : ℕ) → has (m ∷ s) (name j o) ≡ true
    → (m.card ≡ j → m.ordinal ≡ o → P) → (has s (name j o) ≡ true → P) → P
unfolding has
found m s j o h a b =
    by_test (same_name m (name j o))
    (λ e. let q = same_name_is m j o e in a q.0 q.1)
    (λ e. b (rw e at h))

-- ---- one more name, and several

module _ (s : List Name) (f : ℕ → ℕ) (k : Prefixes s f) (j o : ℕ) (next : o ≡ suc (f j)) where
  add_only : (i x : ℕ) → has (name j o ∷ s) (name i x) ≡ true → (0 < x) × (x ≤ put j o f i)
  add_only i x h =
      found (name j o) s i x h
      (λ e d. rw (put_at j o f i (sym e)) (omega arith))
      (λ g. let q = k.only i x g in by_place i j (λ e. let q₁ = ap f e in rw put_at (omega arith)) (λ d. rw put_other q))

  add_all : (i x : ℕ) → 0 < x → x ≤ put j o f i → has (name j o ∷ s) (name i x) ≡ true
  add_all i x h l =
      by_place i j
      (λ e.
      let l₁ : x ≤ o = rw (put_at j o f i e) at l in
      let q = ap f e in
      by_place o x
      (λ d. has_first (name j o) s i x (sym e) d)
      (λ d. has_more (name j o) s (name i x) (k.all i x h (omega arith))))
      (λ d. has_more (name j o) s (name i x) (k.all i x h (rw put_other at l)))

  add_once : (i x : ℕ) → tally (above i x) (name j o ∷ s) ≡ put j o f i - x
  unfolding tally
  add_once i x =
      by_place i j
      (λ e.
      rw (eq-eqb j i (sym e), k.once i x, put_at j o f i e, ap f e)
      (by_le o x (λ l. rw (le-ltb x o l) (omega arith)) (λ l. rw (lt-ltb x o l) (omega arith))))
      (λ d. rw (ne_eqb j i (λ c. d (sym c)), k.once i x, put_other j o f i d) (omega arith))

  pub add_next : Prefixes (name j o ∷ s) (put j o f)
  add_next = record { only = add_only; all = add_all; once = add_once }

insert_old : (n : Name) (s : List Name) → has s n ≡ true → insert n s ≡ s
unfolding insert
insert_old n s e = rw e

insert_new : (n : Name) (s : List Name) → has s n ≡ false → insert n s ≡ n ∷ s
unfolding insert
insert_new n s e = rw e

-- the clauses of `join`, as equations: `rw` sees no call in what a fired clause leaves
join_none : (b j : ℕ) (s : List Name) → join (names_after j b 0) s ≡ s
unfolding join names_after
join_none b j s = refl

join_more : (w b j : ℕ) (s : List Name) → join (names_after j b (suc w)) s ≡ join (names_after j (suc b) w) (insert (name j (suc b)) s)
unfolding join names_after
join_more w b j s = refl

-- the table that a longer prefix makes
longer : (j v : ℕ) (f g : ℕ → ℕ) (s : List Name) → g j ≡ v → ((i : ℕ) → (i ≡ j → ⊥) → g i ≡ f i) → Prefixes s g → Prefixes s (put j v f)
longer j v f g s e h k = Prefixes_cong s g (put j v f) (put_agrees j v f g e h) k

-- Card j's names after the b-th join, w of them, where those up to the b-th are there: the prefix ends at b + w, if it was no longer.
pub join_ok : (w b j : ℕ) (s : List Name) (f : ℕ → ℕ) → b ≤ f j → Prefixes s f
    → Prefixes (join (names_after j b w) s) (put j (max (f j) (b + w)) f)
join_ok zero b j s f h k = rw join_none (longer j (max (f j) (b + 0)) f f s (omega arith) (λ i d. refl) k)
join_ok (suc w) b j s f h k =
    by_le (suc b) (f j)
    (λ l.
    rw (join_more w b j s, insert_old (name j (suc b)) s (k.all j (suc b) (omega arith) l))
    (longer j _ f (put j (max (f j) (suc b + w)) f) _ (rw put_same (omega arith)) (λ i d. rw put_other) (join_ok w (suc b) j s f l k)))
    (λ l.
    let g = put j (suc b) f in
    let gj : g j ≡ suc b = put_same j (suc b) f in
    rw (join_more w b j s, insert_new (name j (suc b)) s (not_yes (has s (name j (suc b))) (λ c. let q = k.only j (suc b) c in omega arith)))
    (longer j _ f (put j (max (g j) (suc b + w)) g) _ (simp put_same (omega arith)) (λ i d. simp put_other)
    (join_ok w (suc b) j (name j (suc b) ∷ s) g (omega arith) (add_next s f k j (suc b) (omega arith)))))

-- ---- the latest name

latest_least : (j m : ℕ) (s : List Name) → ((o : ℕ) → has s (name j o) ≡ true → o ≤ m) → latest j s ≤ m
unfolding latest
latest_least j m [] h = omega arith
latest_least j m (n ∷ s) h =
    let rest = latest_least j m s (λ o c. h o (has_more n s (name j o) c)) in
    by_place n.card j
    (λ e. let q = h n.ordinal (has_first n s j n.ordinal e refl) in rw (eq-eqb n.card j e) (omega arith))
    (λ d. rw (ne_eqb n.card j d) (omega arith))

pub latest_bounds : (j o : ℕ) (s : List Name) → has s (name j o) ≡ true → o ≤ latest j s
unfolding latest has
latest_bounds j o [] h = absurd (false≢true h)
latest_bounds j o (n ∷ s) h =
    found n s j o h
    (λ e d. rw (eq-eqb n.card j e) (omega arith))
    (λ g. let q = latest_bounds j o s g in omega arith)

pub latest_is : (j : ℕ) (s : List Name) (f : ℕ → ℕ) → Prefixes s f → latest j s ≡ f j
latest_is j s f k =
    let least = latest_least j (f j) s (λ o c. (k.only j o c).1) in
    by_le (f j) 0
    (λ l. omega arith)
    (λ l. let most = latest_bounds j (f j) s (k.all j (f j) l (omega arith)) in omega arith)

-- ---- a name in one set and not in another

any_yes : (p : Name → Bool) (s : List Name) (j o : ℕ) → ((n : Name) → n.card ≡ j → n.ordinal ≡ o → p n ≡ true) → has s (name j o) ≡ true → any p s ≡ true
unfolding any has
any_yes p [] j o h c = c
any_yes p (n ∷ s) j o h c =
    found n s j o c (λ e d. or_left (p n) (any p s) (h n e d)) (λ g. or_right (p n) (any p s) (any_yes p s j o h g))

any_no : (p : Name → Bool) (s : List Name) → ((n : Name) → has s n ≡ true → p n ≡ false) → any p s ≡ false
unfolding any
any_no p [] h = refl
any_no p (n ∷ s) h = rw (h n (has_first n s n.card n.ordinal refl refl), any_no p s (λ m c. h m (has_more n s m c)))

-- where no name of j is in s and not in t
pub not_beyond : (j : ℕ) (s t : List Name) → beyond j s t ≡ false → (n : Name) → n.card ≡ j → has s n ≡ true → has t n ≡ true
unfolding beyond
not_beyond j s t none n c h =
    by_test (has t n) (λ e. e)
    (λ e. absurd (false≢true (sym none ∙ any_yes (λ m. eqb m.card j && not (has t m)) s n.card n.ordinal
    (λ m d o. let same : m ≡ n = ap₂ name d o in rw (same, eq-eqb n.card j c, e)) h)))

module _ (s t : List Name) (f g : ℕ → ℕ) (ks : Prefixes s f) (kt : Prefixes t g) where
  -- of a name in s: it is not in t exactly if it is later than t's prefix
  missing_is : (n : Name) → has s n ≡ true → not (has t n) ≡ ltb (g n.card) n.ordinal
  missing_is n c =
      by_le n.ordinal (g n.card)
      (λ l. rw (le-ltb (g n.card) n.ordinal l, kt.all n.card n.ordinal (ks.only n.card n.ordinal c).0 l))
      (λ l. rw (lt-ltb (g n.card) n.ordinal l, not_yes (has t n) (λ e. let q = kt.only n.card n.ordinal e in omega arith)))

  -- the last of a longer prefix is not in the shorter one
  pub longer_has : (j : ℕ) → g j < f j → (has s (name j (f j)) ≡ true) × (has t (name j (f j)) ≡ false)
  longer_has j l = (ks.all j (f j) (omega arith) (omega arith), not_yes (has t (name j (f j))) (λ e. let q = kt.only j (f j) e in omega arith))

  -- the one set is a part of the other exactly if no prefix is longer
  pub prefix_within : ((n : Name) → has s n ≡ true → has t n ≡ true) → (j : ℕ) → f j ≤ g j
  prefix_within h j =
      by_le (f j) (g j) (λ l. l)
      (λ l. let x = longer_has j l in absurd (false≢true (sym x.1 ∙ h (name j (f j)) x.0)))

  pub within_prefix : ((j : ℕ) → f j ≤ g j) → (n : Name) → has s n ≡ true → has t n ≡ true
  within_prefix h n e =
      let x = ks.only n.card n.ordinal e in
      let y = h n.card in
      kt.all n.card n.ordinal x.0 (omega arith)

  pub beyond_is : (j : ℕ) → beyond j s t ≡ ltb (g j) (f j)
  unfolding beyond
  beyond_is j = by_le (f j) (g j) (λ l. rw (le-ltb (g j) (f j) l) (any_no p s (no_name l))) (λ l. rw (lt-ltb (g j) (f j) l) (any_yes p s j (f j) (last_name l) (ks.all j (f j) (omega arith) (omega arith))))
    where
      p : Name → Bool
      p n = eqb n.card j && not (has t n)

      no_name : f j ≤ g j → (n : Name) → has s n ≡ true → p n ≡ false
      no_name l n c =
          by_place n.card j
          (λ e. rw (missing_is n c, le-ltb (g n.card) n.ordinal (let q = ks.only n.card n.ordinal c in let q₁ = ap f e in let q₂ = ap g e in omega arith))
          (and_no_right (eqb n.card j) false refl))
          (λ d. and_no_left (eqb n.card j) (not (has t n)) (ne_eqb n.card j d))

      last_name : g j < f j → (n : Name) → n.card ≡ j → n.ordinal ≡ f j → p n ≡ true
      last_name l n e d =
          let q = ap f e in let q₁ = ap g e in
          and_yes (eqb n.card j) (not (has t n)) (eq-eqb n.card j e)
          (missing_is n (ks.all n.card n.ordinal (omega arith) (omega arith)) ∙ lt-ltb (g n.card) n.ordinal (omega arith))

-- ---- how many names are in s and not in t

pub tally_cong : (p q : Name → Bool) (s : List Name) → ((n : Name) → has s n ≡ true → p n ≡ q n) → tally p s ≡ tally q s
unfolding tally
tally_cong p q [] h = refl
tally_cong p q (n ∷ s) h =
    rw (h n (has_first n s n.card n.ordinal refl refl), tally_cong p q s (λ m c. h m (has_more n s m c)))

pub tally_none : (p : Name → Bool) (s : List Name) → ((n : Name) → has s n ≡ true → p n ≡ false) → tally p s ≡ 0
unfolding tally
tally_none p [] h = refl
tally_none p (n ∷ s) h = rw (h n (has_first n s n.card n.ordinal refl refl), tally_none p s (λ m c. h m (has_more n s m c)))

-- where none passes
pub tally_zero : (p : Name → Bool) (s : List Name) → tally p s ≡ 0 → (j o : ℕ) → has s (name j o) ≡ true → p (name j o) ≡ false
unfolding tally has
tally_zero p [] z j o h = absurd (false≢true h)
tally_zero p (m ∷ s) z j o h =
    by_test (p m)
    (λ e. absurd (let some : 1 + tally p s ≡ 0 = rw e at z in omega arith))
    (λ e.
    let none : 0 + tally p s ≡ 0 = rw e at z in
    found m s j o h (λ c d. let same : m ≡ name j o = ap₂ name c d in rw (← same) e) (tally_zero p s (omega arith) j o))

-- Card j's names after the b-th, w of them, join a set that has none of them: if each passes the test, the number rises by w.
pub tally_new : (p : Name → Bool) (w b j : ℕ) (s : List Name) → latest j s ≤ b → ((o : ℕ) → b < o → p (name j o) ≡ true)
    → tally p (join (names_after j b w) s) ≡ tally p s + w
unfolding tally latest
tally_new p zero b j s l h = rw join_none (omega arith)
tally_new p (suc w) b j s l h =
    rw (join_more w b j s, insert_new (name j (suc b)) s (not_yes (has s (name j (suc b))) (λ c. let q = latest_bounds j (suc b) s c in omega arith)))
    (tally_new p w (suc b) j (name j (suc b) ∷ s) (rw (eq-eqb j j refl) (omega arith)) (λ o m. h o (omega arith))
    ∙ rw (h (suc b) (omega arith)) (omega arith))

-- names of cards below r are counted card by card
tally_by_card : (r : ℕ) (p : Name → Bool) (s : List Name) → ((n : Name) → has s n ≡ true → n.card < r)
    → tally p s ≡ sum r (λ j. tally (λ n. eqb n.card j && p n) s)
unfolding tally
tally_by_card r p [] h = sym (sum_zero r (λ j. 0) (λ j l. refl))
tally_by_card r p (n ∷ s) h =
    ap₂ ◌+◌ one_card (tally_by_card r p s (λ m c. h m (has_more n s m c)))
    ∙ sym (sum_plus r (λ j. cond (eqb n.card j && p n) 1 0) (λ j. tally (λ n. eqb n.card j && p n) s))
  where
    one_card : cond (p n) 1 0 ≡ sum r (λ j. cond (eqb n.card j && p n) 1 0)
    one_card =
        let q = sum_one r (λ j. cond (eqb n.card j && p n) 1 0) n.card (h n (has_first n s n.card n.ordinal refl refl))
        (λ j d. rw (ne_eqb n.card j (λ c. d (sym c)))) in
        rw q (rw (eq-eqb n.card n.card refl))

pub tally_is : (r : ℕ) (s t : List Name) (f g : ℕ → ℕ) → Prefixes s f → Prefixes t g → ((j : ℕ) → r ≤ j → f j ≡ 0)
    → tally (λ n. not (has t n)) s ≡ sum r (λ j. f j - g j)
tally_is r s t f g ks kt none =
    tally_cong (λ n. not (has t n)) later_than s (missing_is s t f g ks kt)
    ∙ tally_by_card r later_than s below
    ∙ sum_cong r _ _ (λ j l. tally_cong _ (above j (g j)) s (λ n c. of_card j n) ∙ ks.once j (g j))
  where
    later_than : Name → Bool
    later_than n = ltb (g n.card) n.ordinal

    below : (n : Name) → has s n ≡ true → n.card < r
    below n c =
        let q = ks.only n.card n.ordinal c in
        by_le r n.card (λ l. let q₁ = none n.card l in absurd (omega arith)) (λ l. l)

    of_card : (j : ℕ) (n : Name) → eqb n.card j && later_than n ≡ above j (g j) n
    of_card j n = by_place n.card j (λ e. rw (ap g e)) (λ d. rw (ne_eqb n.card j d))
