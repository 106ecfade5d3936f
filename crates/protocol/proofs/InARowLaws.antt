-- LAWS. Algorithm 1, w increments in a row, is what a count by w and its delivery do, in every run.
-- The idea: the entry's invariant (`EntryOk`) fixes the entry by two marks, so two ways to the same marks leave the same entry.
use Rattle.std.specs.Prelude.{ℕ, zero, suc, ◌+◌, ◌<◌, ◌≡◌, refl, Bool, true, false, List, ◌∷◌}
use Rattle.std.proofs.Common.{ap, ap₂, ◌∙◌, inl, inr, arith, lt-ltb}
use Rattle.std.proofs.Math.Path.{fun_ext}
use Rattle.protocol.proofs.Cases.{by_test, by_place, by_le}
use Rattle.protocol.proofs.Tables.{put, put_same, put_at, put_other, put_same_row}
use Rattle.protocol.specs.Entry.{Entry, present, incremented, count_starts, count_p}
use Rattle.protocol.proofs.Marks.{Mark, Proper, Before, Follows, after_increment, Proper_increment, Before_refl, Before_increment, Before_trans}
use Rattle.protocol.proofs.EntryLaws.{EntryOk, even, ahead, behind, Placed, cancelled_by_increment, incremented_ok, count_follows, fixed, entry_well_formed, later_first, later_second}
use Rattle.protocol.specs.Rows.{WellFormed}
use Rattle.protocol.specs.Chassis.{Message, increment, clearing, Replica, taken, units_of}
use Rattle.protocol.specs.Algorithm1.{Slot, State, Update, inc, inc_generator, inc_effector, effector, slot_of, state_of}
use Rattle.protocol.proofs.Algorithm1Laws.{inc_effector_agrees, inc_effector_C}
use Rattle.protocol.specs.InARow.{effectors, inc_generators, singles}

-- ---- how far names are cancelled, once an increment is taken

cancelled_proper : (start : Bool) (R X : Mark) → Proper R → Proper X → Proper (cancelled_by_increment start R X)
cancelled_proper true R X k kx =
    by_le X.names R.names (λ l. rw (later_second X R l) k) (λ l. rw (later_first X R l) kx)
cancelled_proper false R X k kx = kx

-- within what is received it stays so, and past it nothing is added
cancelled_before : (start : Bool) (R X : Mark) → Before X R → Before (cancelled_by_increment start R X) R
cancelled_before true R X b = rw (later_second X R b.names≤) (Before_refl R)
cancelled_before false R X b = b

cancelled_stays : (start : Bool) (R X : Mark) → R.names < X.names → cancelled_by_increment start R X ≡ X
cancelled_stays true R X l = later_first X R l
cancelled_stays false R X l = refl

-- ---- an increment by 1 with p, and then one by w, are one by 1 + w with p + w

plus_plus : (a w : ℕ) → a + 1 + w ≡ a + (suc w)
plus_plus a w = omega arith

-- both come to the same mark
same_mark : (R : Mark) (p : ℕ) (start : Bool) (w : ℕ)
    → after_increment w (p + w) false (after_increment 1 p start R) ≡ after_increment (suc w) (p + w) start R
same_mark R p start w = rw (plus_plus R.names w, plus_plus R.units w)

module _ (R X : Mark) (p : ℕ) (start : Bool) (k : Proper R) (f : Follows R 1 p start) where
  follows_both : (w : ℕ) → Follows R (suc w) (p + w) start
  follows_both w = record { some_units = omega arith; rule = let a = f.rule in omega arith; goes_on = f.goes_on }

  follows_second : (w : ℕ) → 0 < w → Follows (after_increment 1 p start R) w (p + w) false
  follows_second w some = record { some_units = some; rule = refl; goes_on = omega arith }

  second_before : (w : ℕ) → 0 < w → Before (after_increment 1 p start R) (after_increment (suc w) (p + w) start R)
  second_before w some =
      rw (← (same_mark R p start w))
      (Before_increment (after_increment 1 p start R) w (p + w) false (Proper_increment R 1 p start k f) (follows_second w some))

  placed_first : (w : ℕ) → 0 < w → Placed R (after_increment (suc w) (p + w) start R) X → Placed R (after_increment 1 p start R) X
  placed_first w some (inl b) = inl b
  placed_first w some (inr b) = inr (Before_trans _ _ _ (second_before w some) b)

  placed_second : (w : ℕ) → 0 < w → Placed R (after_increment (suc w) (p + w) start R) X
      → Placed (after_increment 1 p start R) (after_increment (suc w) (p + w) start R) (cancelled_by_increment start R X)
  placed_second w some (inl b) = inl (Before_trans _ _ _ (cancelled_before start R X b) (Before_increment R 1 p start k f))
  placed_second w some (inr b) = inr (rw (cancelled_stays start R X (let l = b.names≤ in omega arith)) b)

  merged : (e : Entry) (w : ℕ) → 0 < w → Proper X → Placed R (after_increment (suc w) (p + w) start R) X → EntryOk R X e
      → incremented w (p + w) false (R.units + 1) (incremented 1 p start R.units e) ≡ incremented (suc w) (p + w) start R.units e
  merged e w some kx pl o =
      let X₁ = cancelled_by_increment start R X in
      let one = incremented_ok R X e 1 p start k kx f (placed_first w some pl) o in
      let two = incremented_ok (after_increment 1 p start R) X₁ _ w (p + w) false (Proper_increment R 1 p start k f) (cancelled_proper start R X k kx) (follows_second w some)
      (rw (same_mark R p start w) (placed_second w some pl)) one in
      fixed (after_increment (suc w) (p + w) start R) X₁ X₁ _ _ (inl (Before_refl X₁)) refl (rw (same_mark R p start w) at two)
      (incremented_ok R X e (suc w) (p + w) start k kx (follows_both w) pl o)

-- ---- states

pub state_is : (x y : State) → ((j : ℕ) → x.C j ≡ y.C j) → ((j : ℕ) → x.M j ≡ y.M j) → x ≡ y
state_is x y c m = ap₂ (λ (C : ℕ → ℕ) (M : ℕ → Slot). record { C = C; M = M }) (fun_ext c) (fun_ext m)

-- what the effectors ask of a row: every entry is well-formed, for some bound
abbrev pub EntriesWellFormed : ℕ → Replica → Type 0
EntriesWellFormed q b = (j : ℕ) → (most : ℕ) × WellFormed most (b.entry q j)

inc_effector_is : (s q p : ℕ) (start : Bool) (b : Replica) → EntriesWellFormed q b
    → inc_effector s p start (state_of q b) ≡ state_of q (taken s (increment q 1 p start) b)
inc_effector_is s q p start b k =
    state_is _ _ (λ j. inc_effector_C s q p start b j) (λ j. inc_effector_agrees (k j).0 s q p start b j (k j).1)

-- ---- w effectors in a row

-- after an increment on q the other entries of the row are as they were
taken_other : (s q w p : ℕ) (start : Bool) (b : Replica) (j : ℕ) → (j ≡ s → ⊥) → (taken s (increment q w p start) b).entry q j ≡ b.entry q j
unfolding taken
taken_other s q w p start b j d = rw put_same_row (rw put_other)

taken_own : (s q w p : ℕ) (start : Bool) (b : Replica) → (taken s (increment q w p start) b).entry q s ≡ incremented w p start (b.C s) (b.entry q s)
unfolding taken
taken_own s q w p start b = rw put_same_row (rw put_same)

pub taken_C : (s : ℕ) (m : Message) (b : Replica) (j : ℕ) → (taken s m b).C j ≡ put s (b.C s + units_of m) b.C j
unfolding taken
taken_C s (increment q w p start) b j = refl
taken_C s (clearing q ts) b j = by_place j s (λ e. rw put_at (ap b.C e ∙ omega arith)) (λ d. rw put_other)

-- a card's C and entry for an origin, against the marks of what it has received and of what it has cancelled
pub record Against (R X : Mark) (known : ℕ) (e : Entry) : Type 0 where
  pub proper : Proper R
  pub proper_cancelled : Proper X
  pub known_is : known ≡ R.units
  pub entry : EntryOk R X e

pub against_well_formed : (R X : Mark) (known : ℕ) (e : Entry) → Against R X known e → WellFormed (R.units + X.units) e
against_well_formed R X known e k =
    entry_well_formed (R.units + X.units) R X e k.proper k.proper_cancelled (omega arith) (omega arith) k.entry

module _ (s q p : ℕ) (start : Bool) (b : Replica) (R X : Mark) (k : Against R X (b.C s) (b.entry q s)) (f : Follows R 1 p start) where
  -- one increment by 1 is taken
  against_next : Placed R (after_increment 1 p start R) X
      → Against (after_increment 1 p start R) (cancelled_by_increment start R X) ((taken s (increment q 1 p start) b).C s) ((taken s (increment q 1 p start) b).entry q s)
  against_next pl = record {
    proper = Proper_increment R 1 p start k.proper f;
    proper_cancelled = cancelled_proper start R X k.proper k.proper_cancelled;
    known_is = rw (taken_C s (increment q 1 p start) b s, put_same s (b.C s + 1) b.C) (ap (λ (n : ℕ). n + 1) k.known_is);
    entry =
        rw (taken_own s q 1 p start b, k.known_is)
        (incremented_ok R X (b.entry q s) 1 p start k.proper k.proper_cancelled f pl k.entry);
  }

  well_formed_next : Placed R (after_increment 1 p start R) X → EntriesWellFormed q b → EntriesWellFormed q (taken s (increment q 1 p start) b)
  well_formed_next pl wf j =
      by_place j s
      (λ e. rw e (_, against_well_formed _ _ _ _ (against_next pl)))
      (λ d. rw (taken_other s q 1 p start b j d) (wf j))

  entry_merged : (w : ℕ) → 0 < w → Placed R (after_increment (suc w) (p + w) start R) X
      → (taken s (increment q w (p + w) false) (taken s (increment q 1 p start) b)).entry q s ≡ (taken s (increment q (suc w) (p + w) start) b).entry q s
  entry_merged w some pl =
      simp (taken_own, taken_C, put_same, k.known_is)
      (merged R X p start k.proper f (b.entry q s) w some k.proper_cancelled pl k.entry)

  -- two increments taken in a row are one
  taken_merged : (w : ℕ) → 0 < w → Placed R (after_increment (suc w) (p + w) start R) X
      → state_of q (taken s (increment q w (p + w) false) (taken s (increment q 1 p start) b)) ≡ state_of q (taken s (increment q (suc w) (p + w) start) b)
  taken_merged w some pl =
      state_is _ _
      (λ j. by_place j s
      (λ e. rw e (simp (taken_C, put_same) (plus_plus (b.C s) w)))
      (λ d. simp (taken_C, put_other)))
      (λ j. by_place j s
      (λ e. rw e (ap slot_of (entry_merged w some pl)))
      (λ d. simp taken_other))

pub effectors_are : (w s q p p' : ℕ) (start : Bool) (b : Replica) (R X : Mark) → p' ≡ p + w → EntriesWellFormed q b
    → Against R X (b.C s) (b.entry q s) → Follows R 1 p start → Placed R (after_increment (suc w) p' start R) X
    → effectors (singles s (suc w) p start) (state_of q b) ≡ state_of q (taken s (increment q (suc w) p' start) b)
unfolding effectors singles effector
effectors_are zero s q p p' start b R X e wf k f pl =
    let z : p' ≡ p = omega arith in
    rw z (inc_effector_is s q p start b wf)
effectors_are (suc w) s q p p' start b R X e wf k f pl =
    let pl₁ : Placed R (after_increment (suc (suc w)) (p + suc w) start R) X = rw e at pl in
    let one = placed_first R X p start k.proper f (suc w) (omega arith) pl₁ in
    ap (effectors (singles s (suc w) (suc p) false)) (inc_effector_is s q p start b wf)
    ∙ effectors_are w s q (suc p) p' false (taken s (increment q 1 p start) b) (after_increment 1 p start R) (cancelled_by_increment start R X)
    (omega arith) (well_formed_next s q p start b R X k f one wf) (against_next s q p start b R X k f one)
    (record { some_units = omega arith; rule = omega arith; goes_on = omega arith })
    (rw (e, same_mark R p start (suc w)) (placed_second R X p start k.proper f (suc w) (omega arith) pl₁))
    ∙ rw e (taken_merged s q p start b R X k f (suc w) (omega arith) pl₁)

-- ---- w generators in a row, at the maker

inc_generator_is : (i q : ℕ) (b : Replica) → inc_generator i (state_of q b) ≡ inc i (count_p 1 (b.C i) (b.entry q i)) (count_starts (b.entry q i))
unfolding inc_generator
inc_generator_is i q b = by_test (present (b.entry q i)) (λ y. rw y) (λ y. rw y)

-- where something counts the entry is there, with the last increment's p
counts : (R X : Mark) (e : Entry) → Proper R → X.names < R.names → EntryOk R X e → (present e ≡ true) × (e.p ≡ R.p)
counts R X e k l (even s i j m) = absurd (omega arith)
counts R X e k l (ahead s i j m) = (lt-ltb 0 e.p (omega arith), i)
counts R X e k l (behind s i j m) = absurd (omega arith)

singles_go_on : (i w known p : ℕ) (e : Entry) → present e ≡ true → e.p ≡ p → singles i w (count_p 1 known e) (count_starts e) ≡ singles i w (suc p) false
singles_go_on i w known p e y z = ap₂ (singles i w) (rw y (omega arith)) (rw y refl)

pub generators_are : (w i q : ℕ) (b : Replica) (R X : Mark) → EntriesWellFormed q b → Against R X (b.C i) (b.entry q i) → Before X R
    → inc_generators i w (state_of q b) ≡ singles i w (count_p 1 (b.C i) (b.entry q i)) (count_starts (b.entry q i))
unfolding inc_generators singles effector
generators_are zero i q b R X wf k before = refl
generators_are (suc w) i q b R X wf k before =
    let p = count_p 1 (b.C i) (b.entry q i) in
    let start = count_starts (b.entry q i) in
    let f : Follows R 1 p start = rw k.known_is (count_follows R X (b.entry q i) 1 (omega arith) k.proper before.names≤ k.entry) in
    let b₁ = taken i (increment q 1 p start) b in
    let R₁ = after_increment 1 p start R in
    let X₁ = cancelled_by_increment start R X in
    let k₁ = against_next i q p start b R X k f (inl before) in
    let before₁ : Before X₁ R₁ = Before_trans _ _ _ (cancelled_before start R X before) (Before_increment R 1 p start k.proper f) in
    let here = counts R₁ X₁ (b₁.entry q i) k₁.proper (let l = (cancelled_before start R X before).names≤ in omega arith) k₁.entry in
    rw (inc_generator_is i q b)
    (ap (λ (us : List Update). inc i p start ∷ us)
    (ap (inc_generators i w) (inc_effector_is i q p start b wf)
    ∙ generators_are w i q b₁ R₁ X₁ (well_formed_next i q p start b R X k f (inl before) wf) k₁ before₁
    ∙ singles_go_on i w (b₁.C i) p (b₁.entry q i) here.0 here.1))
