-- LAWS. What the tests of `Acceptance` say in plain numbers (`Rows`), and that those numbers are enough.
use Rattle.std.specs.Prelude.{ℕ, zero, suc, ◌≤◌, ◌<◌, ◌≡◌, Bool, true, false, cond, ◌&&◌, ◌||◌, leb, ltb}
use Rattle.std.proofs.Math.Path.{refl, ap}
use mathlib.Core.List.{List, [], ◌∷◌}
use Rattle.std.proofs.Math.Bool.{not, and-eq-true_iff}
use Rattle.std.proofs.lemmas.Bool.{false≢true}
use Rattle.std.proofs.Common.{arith}
use Rattle.std.proofs.Math.Dec.{eqb}
use borrow.Author.Tests.{ltb-true, lt-ltb, le-ltb, eq-eqb, ne_eqb}
use Rattle.protocol.specs.Limits.{MAX}
use Rattle.protocol.proofs.Cases.{by_le, by_place, or_cases, or_left, or_right, and_yes, and_no_right}
pub use Rattle.protocol.proofs.Tests.{tests}
use Rattle.protocol.specs.Functions.{all_below, count_below}
use Rattle.protocol.specs.Entry.{Entry}
use Rattle.protocol.specs.Chassis.{Message, increment, clearing, ClearEntry}
use Rattle.protocol.proofs.StoreLaws.{CardsBelow}
use Rattle.protocol.specs.Rows.{WellFormed, WellFormedRow, Plausible, PlausibleIncrement, PlausibleEntries}
use Rattle.protocol.specs.Acceptance.{entry_well_formed, card_well_formed, tables_well_formed, all_entries, entries_of, cards_known, increment_plausible, entry_plausible, plausible}

-- ---- all, and how many, below a bound

pub below_facts : (n : ℕ) (f : ℕ → Bool) → all_below n f ≡ true → (j : ℕ) → j < n → f j ≡ true
unfolding all_below
below_facts zero f h j l = absurd (omega arith)
below_facts (suc n) f h j l =
    let k = simp tests at h in
    by_place j n (λ e. rw e k.1) (λ d. below_facts n f k.0 j (omega arith))

pub below_from : (n : ℕ) (f : ℕ → Bool) → ((j : ℕ) → j < n → f j ≡ true) → all_below n f ≡ true
unfolding all_below
below_from zero f h = refl
below_from (suc n) f h = simp tests (below_from n f (λ j l. h j (omega arith)), h n (omega arith))

-- how many have a property: where two tables agree, where none has it, and at most all
pub count_cong : (n : ℕ) (f g : ℕ → Bool) → ((j : ℕ) → j < n → f j ≡ g j) → count_below n f ≡ count_below n g
unfolding count_below
count_cong zero f g e = refl
count_cong (suc n) f g e = rw (count_cong n f g (λ j l. e j (omega arith)), e n (omega arith))

pub count_none : (n : ℕ) (f : ℕ → Bool) → ((j : ℕ) → j < n → f j ≡ false) → count_below n f ≡ 0
unfolding count_below
count_none zero f h = refl
count_none (suc n) f h = rw (count_none n f (λ j l. h j (omega arith)), h n (omega arith))

pub flag≤1 : (t : Bool) → cond t 1 0 ≤ 1
flag≤1 true = omega arith
flag≤1 false = omega arith

pub count_below≤ : (n : ℕ) (f : ℕ → Bool) → count_below n f ≤ n
unfolding count_below
count_below≤ zero f = omega arith
count_below≤ (suc n) f = omega (arith, count_below≤ n f, flag≤1 (f n))

-- ---- a well-formed row

-- the two halves of the test
abbrev zeros : Entry → Bool
zeros e = eqb e.p 0 && eqb e.n 0 && eqb e.c 0

abbrev ranged : Entry → Bool
ranged e = leb 1 e.p && leb e.p e.c && leb e.c MAX && leb e.n e.p

pub entry_facts : (e : Entry) → entry_well_formed e ≡ true → WellFormed MAX e
unfolding entry_well_formed
entry_facts e h =
    or_cases (zeros e) (ranged e) h (λ a. let f = simp tests at a in omega arith) (λ a. let f = simp tests at a in omega arith)

pub entry_from : (e : Entry) → WellFormed MAX e → entry_well_formed e ≡ true
unfolding entry_well_formed
entry_from e f =
    by_le 1 e.p
    (λ l. or_right (zeros e) (ranged e) (simp tests (omega arith)))
    (λ l. let z = f.absent_whole (omega arith) in or_left (zeros e) (ranged e) (simp tests (omega arith)))

-- rows that agree within the cards
pub row_alike : (r own : ℕ) (C N C' N' : ℕ → ℕ) (row row' : ℕ → Entry) → own < r
    → ((j : ℕ) → j < r → C' j ≡ C j) → ((j : ℕ) → j < r → N' j ≡ N j) → ((j : ℕ) → j < r → row' j ≡ row j)
    → WellFormedRow MAX r own C N row → WellFormedRow MAX r own C' N' row'
row_alike r own C N C' N' row row' o c n e k = record {
  C≤MAX = λ j l. rw (c j l) (k.C≤MAX j l);
  N≤MAX = λ j l. rw (n j l) (k.N≤MAX j l);
  entry = λ j l. rw (e j l) (k.entry j l);
  own≤C = rw (c own o, e own o) k.own≤C;
}

module _ (r own : ℕ) (C N : ℕ → ℕ) (row : ℕ → Entry) where
  pub tables_facts : tables_well_formed r own C N row ≡ true → WellFormedRow MAX r own C N row
  unfolding tables_well_formed card_well_formed
  tables_facts h = record {
    C≤MAX = λ j l. (at_card j l).0.0;
    N≤MAX = λ j l. (at_card j l).0.1;
    entry = λ j l. entry_facts (row j) (at_card j l).1;
    own≤C = (simp tests at h).1;
  }
    where
      at_card : (j : ℕ) → j < r → ((C j ≤ MAX) × (N j ≤ MAX)) × (entry_well_formed (row j) ≡ true)
      at_card j l = simp tests at (below_facts r _ (simp tests at h).0 j l)

  pub tables_from : WellFormedRow MAX r own C N row → tables_well_formed r own C N row ≡ true
  unfolding tables_well_formed card_well_formed
  tables_from f =
      simp tests
      (below_from r _ (λ j l. simp tests ((f.C≤MAX j l, f.N≤MAX j l), entry_from (row j) (f.entry j l))), f.own≤C)

-- ---- the cards of a message

pub all_below_entries : (r : ℕ) (es : List ClearEntry) → all_entries (λ e. ltb e.card r) es ≡ true → CardsBelow r es
unfolding all_entries
all_below_entries r [] h = tt
all_below_entries r (e ∷ es) h = let k = simp and-eq-true_iff at h in (ltb-true e.card r k.0, all_below_entries r es k.1)

pub entries_below_all : (r : ℕ) (es : List ClearEntry) → CardsBelow r es → all_entries (λ e. ltb e.card r) es ≡ true
unfolding all_entries
entries_below_all r [] on = refl
entries_below_all r (e ∷ es) on = and_yes (ltb e.card r) _ (lt-ltb e.card r on.0) (entries_below_all r es on.1)

module _ (r own sender : ℕ) (m : Message) where
  pub known_sender : cards_known r own sender m ≡ true → sender < r
  unfolding cards_known
  known_sender h = ltb-true sender r (simp and-eq-true_iff at h).0.0

  pub known_entries : cards_known r own sender m ≡ true → CardsBelow r (entries_of m)
  unfolding cards_known
  known_entries h = all_below_entries r (entries_of m) (simp and-eq-true_iff at h).1

  pub known_from : sender < r → (sender ≡ own → ⊥) → CardsBelow r (entries_of m) → cards_known r own sender m ≡ true
  unfolding cards_known
  known_from below apart on = rw (lt-ltb sender r below, ne_eqb sender own apart) (entries_below_all r (entries_of m) on)

-- ---- a plausible message

pub increment_facts : (C w p : ℕ) (start : Bool) → increment_plausible C w p start ≡ true → PlausibleIncrement MAX C w p start
unfolding increment_plausible
increment_facts C w p true h = let k = simp tests at h in (k.0, k.1)
increment_facts C w p false h = let k = simp tests at h in (k.0.0, k.0.1, k.1)

increment_from : (C w p : ℕ) (start : Bool) → PlausibleIncrement MAX C w p start → increment_plausible C w p start ≡ true
unfolding increment_plausible
increment_from C w p true (a, b) = simp tests (a, b)
increment_from C w p false (a, b, c) = simp tests ((a, b), c)

module _ (C : ℕ → ℕ) (own sender : ℕ) where
  -- an entry for the own card has c at most the own C
  pub own_near : (e : ClearEntry) → entry_plausible C own sender e ≡ true → e.card ≡ own → e.c ≤ C own
  unfolding entry_plausible
  own_near e h mine =
      by_le e.c (C own) (λ l. l)
      (λ l. absurd (false≢true (rw (mine, eq-eqb own own refl, lt-ltb (C own) e.c l) at h)))

  near_from : (e : ClearEntry) → e.c ≤ C e.card → entry_plausible C own sender e ≡ true
  unfolding entry_plausible
  near_from e l = ap not (and_no_right (eqb e.card own || eqb e.card sender) _ (le-ltb (C e.card) e.c l))

  entry_plausible_from : (e : ClearEntry) → (e.card ≡ own → e.c ≤ C own) → (e.card ≡ sender → e.c ≤ C sender) → entry_plausible C own sender e ≡ true
  unfolding entry_plausible
  entry_plausible_from e a c =
      by_place e.card own
      (λ x. near_from e (rw x (a x)))
      (λ d. by_place e.card sender
      (λ x. near_from e (rw x (c x)))
      (λ f. rw (ne_eqb e.card own d, ne_eqb e.card sender f)))

  entries_plausible_from : (es : List ClearEntry) → PlausibleEntries own sender C es → all_entries (entry_plausible C own sender) es ≡ true
  unfolding all_entries
  entries_plausible_from [] fits = refl
  entries_plausible_from (e ∷ es) fits =
      and_yes (entry_plausible C own sender e) _ (entry_plausible_from e fits.0.0 fits.0.1) (entries_plausible_from es fits.1)

  pub plausible_from : (m : Message) → Plausible MAX own sender C m → plausible C own sender m ≡ true
  unfolding plausible
  plausible_from (increment q w p start) fits = increment_from (C sender) w p start fits
  plausible_from (clearing q es) fits = entries_plausible_from es fits

-- it looks at C of the two cards alone
module _ (own sender : ℕ) (C D : ℕ → ℕ) (a : D own ≡ C own) (b : D sender ≡ C sender) where
  entries_cong : (es : List ClearEntry) → PlausibleEntries own sender C es → PlausibleEntries own sender D es
  entries_cong [] fits = tt
  entries_cong (e ∷ es) fits = ((λ x. rw a (fits.0.0 x), λ x. rw b (fits.0.1 x)), entries_cong es fits.1)

  pub plausible_cong : (m : Message) → Plausible MAX own sender C m → Plausible MAX own sender D m
  plausible_cong (increment q w p start) fits = rw b fits
  plausible_cong (clearing q es) fits = entries_cong es fits
