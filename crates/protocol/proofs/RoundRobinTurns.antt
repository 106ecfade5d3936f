-- LAWS. Turns in the order of a list of links (`turns`), and links that are open: a message waits, and they are not passed over. A turn of another link
-- changes nothing about that, and a link that is closed stays closed. So a round is the turns of the links that are open before it (`round_open`), and
-- only they can be open behind it (`round_narrows`).
use Prim.Native.Nat.{ℕ, zero, suc, ◌≤◌, ◌<◌}
use Rattle.std.specs.Prelude.{◌≡◌, Bool, true, false, not, cond, ◌&&◌, eqb, ltb, length}
use Rattle.std.proofs.Math.Path.{refl, sym, ap}
use Rattle.std.proofs.Common.{ap₂, ◌∙◌, true≢false, arith, lt-ltb, eq-eqb, ne_eqb}
use mathlib.Core.List.{List, [], ◌∷◌, ◌++◌}
use Rattle.protocol.proofs.Cases.{by_test, by_le, by_place}
use Rattle.protocol.specs.RoundRobin.{Link, link, IsLink, Transport, Progress, turn, senders, receivers, rounds, times, Orderly}
use Rattle.protocol.proofs.RoundRobinLaws.{by_link, passed_elsewhere, Due, due, turn_cases, rounds_on}
use Rattle.protocol.proofs.RoundRobinMade.{times_none, times_this, times_that, times_append, times_here, times_there}

-- ---- lists of links

abbrev pub times_of : Link → List Link → ℕ
times_of m ls = times m.receiver m.sender ls

pub times_same : (m l : Link) (ls : List Link) → m ≡ l → times_of m (l ∷ ls) ≡ suc (times_of m ls)
times_same m l ls e = times_this m.receiver m.sender l.receiver l.sender ls (ap (λ x. x.receiver) e) (ap (λ x. x.sender) e)

pub times_rest : (m l : Link) (ls : List Link) → times_of m ls ≤ times_of m (l ∷ ls)
unfolding times
times_rest m l ls = omega arith

-- the links to receiver i from the first n senders, and those to the first n receivers, in the order of a round: each is there once
unfoldable pub links_to : ℕ → ℕ → List Link
links_to i zero = []
links_to i (suc n) = links_to i n ++ link i n ∷ []

unfoldable pub all_links : ℕ → ℕ → List Link
all_links r zero = []
all_links r (suc n) = all_links r n ++ links_to n r

links_to_once : (i s j n : ℕ) → (times i s (links_to j n) ≤ 1) × ((i ≡ j → n ≤ s) → times i s (links_to j n) ≡ 0)
unfolding links_to
links_to_once i s j zero = let z = times_none i s in (omega arith, λ f. z)
links_to_once i s j (suc n) =
    let h = links_to_once i s j n in
    by_link i s j n
    (λ a c. let e = times_here i s j n (links_to j n) a c in let z = h.1 (λ x. omega arith) in (omega arith, λ f. let x = f a in absurd (omega arith)))
    (λ d. let e = times_there i s j n (links_to j n) d in (omega arith, λ f. e ∙ h.1 (λ a. let x = f a in omega arith)))

all_links_once : (r i s n : ℕ) → (times i s (all_links r n) ≤ 1) × ((i < n → r ≤ s) → times i s (all_links r n) ≡ 0)
unfolding all_links
all_links_once r i s zero = let z = times_none i s in (omega arith, λ f. z)
all_links_once r i s (suc n) =
    let h = all_links_once r i s n in
    let e = times_append i s (all_links r n) (links_to n r) in
    let x = links_to_once i s n r in
    by_place i n
    (λ a. let z = h.1 (λ l. absurd (omega arith)) in (omega arith, λ f. let y = x.1 (λ c. f (omega arith)) in omega arith))
    (λ d. let y = x.1 (λ c. absurd (d c)) in (omega arith, λ f. let z = h.1 (λ l. f (omega arith)) in omega arith))

abbrev pub Below : ℕ → Link → Type 0
Below r l = (l.receiver < r) × (l.sender < r)

abbrev pub AllBelow : ℕ → List Link → Type 0
AllBelow r ls = (m : Link) → 0 < times_of m ls → Below r m

all_links_below : (r : ℕ) → AllBelow r (all_links r r)
all_links_below r m some =
    let h = (all_links_once r m.receiver m.sender r).1 in (
      by_le r m.receiver (λ l. let z = h (λ x. absurd (omega arith)) in absurd (omega arith)) (λ l. l),
      by_le r m.sender (λ l. let z = h (λ x. l) in absurd (omega arith)) (λ l. l),
    )

-- the links that pass a test
unfoldable pub keep : (Link → Bool) → List Link → List Link
keep f [] = []
keep f (l ∷ ls) = cond (f l) (l ∷ keep f ls) (keep f ls)

pub keep_append : (f : Link → Bool) (ls ms : List Link) → keep f (ls ++ ms) ≡ keep f ls ++ keep f ms
unfolding keep
keep_append f [] ms = refl
keep_append f (l ∷ ls) ms = by_test (f l) (λ e. rw e (ap (l ∷◌) (keep_append f ls ms))) (λ e. rw e (keep_append f ls ms))

keep_times : (f : Link → Bool) (m : Link) (ls : List Link) → times_of m (keep f ls) ≤ times_of m ls
unfolding keep times
keep_times f m [] = omega arith
keep_times f m (l ∷ ls) = let h = keep_times f m ls in by_test (f l) (λ e. rw e (omega arith)) (λ e. rw e (omega arith))

keep_not : (f : Link → Bool) (m : Link) (ls : List Link) → f m ≡ false → times_of m (keep f ls) ≡ 0
unfolding keep
keep_not f m [] e = times_none m.receiver m.sender
keep_not f m (l ∷ ls) e =
    by_test (f l)
    (λ y. rw y (times_that m.receiver m.sender l.receiver l.sender (keep f ls) (λ a c. true≢false (sym y ∙ (rw (a, c) at e))) ∙ keep_not f m ls e))
    (λ y. rw y (keep_not f m ls e))

-- of the links that pass one test those that pass another, which none passes that fails the first
keep_keep : (f g : Link → Bool) (ls : List Link) → ((m : Link) → 0 < times_of m ls → f m ≡ false → g m ≡ false) → keep g (keep f ls) ≡ keep g ls
unfolding keep
keep_keep f g [] h = refl
keep_keep f g (l ∷ ls) h =
    let rest = keep_keep f g ls (λ m x. h m (omega (arith, times_rest m l ls))) in
    by_test (f l)
    (λ e. rw e (ap (λ ms. cond (g l) (l ∷ ms) ms) rest))
    (λ e. rw (e, h l (omega (arith, times_same l l ls refl)) e) rest)

module _ {S : Type 0} (t : Transport S) (r b : ℕ) where
  -- ---- turns

  abbrev pub turn_of : Link → Progress S → Progress S
  turn_of l p = turn t r b l.receiver l.sender p

  unfoldable pub turns : List Link → Progress S → Progress S
  turns [] p = p
  turns (l ∷ ls) p = turns ls (turn_of l p)

  turns_append : (ls ms : List Link) (p : Progress S) → turns (ls ++ ms) p ≡ turns ms (turns ls p)
  unfolding turns
  turns_append [] ms p = refl
  turns_append (l ∷ ls) ms p = turns_append ls ms (turn_of l p)

  senders_are : (i n : ℕ) (p : Progress S) → senders t r b i n p ≡ turns (links_to i n) p
  unfolding senders links_to turns
  senders_are i zero p = refl
  senders_are i (suc n) p = ap (turn t r b i n) (senders_are i n p) ∙ sym (turns_append (links_to i n) (link i n ∷ []) p)

  receivers_are : (n : ℕ) (p : Progress S) → receivers t r b n p ≡ turns (all_links r n) p
  unfolding receivers all_links turns
  receivers_are zero p = refl
  receivers_are (suc n) p =
      senders_are n r (receivers t r b n p) ∙ ap (turns (links_to n r)) (receivers_are n p) ∙ sym (turns_append (all_links r n) (links_to n r) p)

  abbrev pub IsDue : Link → Progress S → Type 0
  IsDue l p = Due t r b l.receiver l.sender p

  turn_idle : (l : Link) (p : Progress S) → (IsDue l p → ⊥) → turn_of l p ≡ p
  turn_idle l p none =
      turn_cases t r b (λ q. q ≡ p) l.receiver l.sender p (λ d a. absurd (none d)) (λ d a. absurd (none d)) (λ idle. refl)

  pub turns_full : (ls : List Link) (p : Progress S) → b ≤ length p.made → turns ls p ≡ p
  unfolding turns
  turns_full [] p full = refl
  turns_full (l ∷ ls) p full = ap (turns ls) (turn_idle l p (λ d. let x = d.room in omega arith)) ∙ turns_full ls p full

  -- ---- open links: those that are due, if there is room

  abbrev pub is_open : Link → Progress S → Bool
  is_open l p = not (eqb l.receiver l.sender) && (not (p.passed l.receiver l.sender) && ltb 0 (t.waiting l.receiver l.sender p.state))

  abbrev pub open_of : Progress S → List Link → List Link
  open_of p ls = keep (λ l. is_open l p) ls

  pub open_due : (l : Link) (p : Progress S) → length p.made < b → is_open l p ≡ true → IsDue l p
  open_due l p room e = due t r b l.receiver l.sender p (rw (lt-ltb (length p.made) b room) e)

  turn_closed : (l : Link) (p : Progress S) → is_open l p ≡ false → turn_of l p ≡ p
  turn_closed l p e =
      turn_idle l p (λ d. true≢false (sym (rw (ne_eqb l.receiver l.sender d.apart, d.open_yet, lt-ltb 0 _ d.waits)) ∙ e))

  -- links of the chassis, each once, that are open
  abbrev pub AllOpen : List Link → Progress S → Type 0
  AllOpen ls p = (m : Link) → (times_of m ls ≤ 1) × (0 < times_of m ls → Below r m × (is_open m p ≡ true))

  pub all_open : (p : Progress S) → AllOpen (open_of p (all_links r r)) p
  all_open p m =
      let x = (all_links_once r m.receiver m.sender r).0 in
      let y = keep_times (λ l. is_open l p) m (all_links r r) in
      let z = keep_not (λ l. is_open l p) m (all_links r r) in
      (omega arith, λ some. (all_links_below r m (omega arith), by_test (is_open m p) (λ e. e) (λ e. let none = z e in absurd (omega arith))))

  pub open_first : (l : Link) (ls : List Link) (p : Progress S) → AllOpen (l ∷ ls) p → Below r l × (is_open l p ≡ true)
  open_first l ls p h = (h l).1 (omega (arith, times_same l l ls refl))

  pub open_rest : (l : Link) (ls : List Link) (p q : Progress S) → AllOpen (l ∷ ls) p
      → ((m : Link) → Below r m → (m ≡ l → ⊥) → is_open m q ≡ is_open m p) → AllOpen ls q
  open_rest l ls p q h same m =
      let c = times_rest m l ls in
      let once = (h m).0 in
      (omega arith, λ some. let x = (h m).1 (omega arith) in (x.0, same m x.0 (λ e. let two = times_same m l ls e in omega arith) ∙ x.1))

  module _ (Good : S → Type 0) (o : Orderly t r Good) where
    -- ---- an attempt, made or declined

    abbrev after : Link → S → S
    after l st = (t.attempt l.receiver l.sender st).state

    abbrev waiting_on : Link → S → ℕ
    waiting_on l st = t.waiting l.receiver l.sender st

    module _ (l : Link) (st : S) (k : IsLink r l.receiver l.sender) (g : Good st) (w : 0 < waiting_on l st) where
      pub attempt_good : Good (after l st)
      attempt_good =
          by_test (t.attempt l.receiver l.sender st).accepted
          (o.keeps l.receiver l.sender st k g w) (λ a. rw (o.declined_stays l.receiver l.sender st k g w a) g)

      pub attempt_others : (m : Link) → IsLink r m.receiver m.sender → (m ≡ l → ⊥) → waiting_on m (after l st) ≡ waiting_on m st
      attempt_others m j d =
          by_test (t.attempt l.receiver l.sender st).accepted
          (λ a. o.others_stay l.receiver l.sender st k g w a m.receiver m.sender j (λ x y. d (ap₂ link x y)))
          (λ a. rw (o.declined_stays l.receiver l.sender st k g w a))

    -- ---- a turn

    module _ (l : Link) (p : Progress S) (k : Below r l) (g : Good p.state) where
      pub turn_good : Good (turn_of l p).state
      turn_good =
          let kept : IsDue l p → Good (after l p.state) = λ d. attempt_good l p.state (k.0, k.1, d.apart) g d.waits in
          turn_cases t r b (λ q. Good q.state) l.receiver l.sender p (λ d a. kept d) (λ d a. kept d) (λ idle. g)

      pub turn_others : (m : Link) → Below r m → (m ≡ l → ⊥) → is_open m (turn_of l p) ≡ is_open m p
      turn_others m j far =
          by_place m.receiver m.sender (λ e. rw (eq-eqb m.receiver m.sender e))
          (λ c.
          let stay : IsDue l p → waiting_on m (after l p.state) ≡ waiting_on m p.state
          = λ d. attempt_others l p.state (k.0, k.1, d.apart) g d.waits m (j.0, j.1, c) far in
          turn_cases t r b (λ q. is_open m q ≡ is_open m p) l.receiver l.sender p
          (λ d a. rw (stay d))
          (λ d a. rw (stay d, passed_elsewhere l.receiver l.sender p.passed m.receiver m.sender (λ x y. far (ap₂ link x y))))
          (λ idle. refl))

      closed_stays : (m : Link) → Below r m → is_open m p ≡ false → is_open m (turn_of l p) ≡ false
      closed_stays m j e =
          by_link m.receiver m.sender l.receiver l.sender
          (λ x y. rw (turn_closed l p (rw (x, y) at e)) e)
          (λ d. turn_others m j (λ x. d (ap (λ z. z.receiver) x) (ap (λ z. z.sender) x)) ∙ e)

    -- ---- the turns of a list of links

    -- a link that is not among them
    pub turns_others : (m : Link) (ls : List Link) (p : Progress S) → Below r m → AllBelow r ls → Good p.state
        → times_of m ls ≡ 0 → is_open m (turns ls p) ≡ is_open m p
    unfolding turns
    turns_others m [] p j below g z = refl
    turns_others m (l ∷ ls) p j below g z =
        let k = below l (omega (arith, times_same l l ls refl)) in
        turns_others m ls (turn_of l p) j (λ n x. below n (omega (arith, times_rest n l ls))) (turn_good l p k g) (omega (arith, times_rest m l ls))
        ∙ turn_others l p k g m j (λ e. let x = times_same m l ls e in omega arith)

    -- those that were closed at p, and are closed now, may be left out
    turns_open : (p : Progress S) (ls : List Link) (q : Progress S) → AllBelow r ls → Good q.state
        → ((m : Link) → Below r m → is_open m p ≡ false → is_open m q ≡ false) → turns ls q ≡ turns (open_of p ls) q
    unfolding turns keep
    turns_open p [] q below g closed = refl
    turns_open p (l ∷ ls) q below g closed =
        let k = below l (omega (arith, times_same l l ls refl)) in
        let rest : AllBelow r ls = λ m x. below m (omega (arith, times_rest m l ls)) in
        by_test (is_open l p)
        (λ e. rw e (turns_open p ls (turn_of l q) rest (turn_good l q k g) (λ m j c. closed_stays l q k g m j (closed m j c))))
        (λ e. rw (e, turn_closed l q (closed l k e)) (turns_open p ls q rest g closed))

    -- a round
    pub round_open : (p : Progress S) → Good p.state → receivers t r b r p ≡ turns (open_of p (all_links r r)) p
    round_open p g = receivers_are r p ∙ turns_open p (all_links r r) p (all_links_below r) g (λ m j c. c)

    pub round_narrows : (p : Progress S) → Good p.state
        → open_of (receivers t r b r p) (open_of p (all_links r r)) ≡ open_of (receivers t r b r p) (all_links r r)
    unfolding rounds
    round_narrows p g =
        keep_keep (λ l. is_open l p) (λ l. is_open l (receivers t r b r p)) (all_links r r)
        (λ m some c.
        (rounds_on t r b (λ q. Good q.state × (is_open m q ≡ false))
        (λ i s q x y h. (turn_good (link i s) q (x, y) h.0, closed_stays (link i s) q (x, y) h.0 m (all_links_below r m some) h.1))
        0 1 p (omega arith) (g, c)).1)
