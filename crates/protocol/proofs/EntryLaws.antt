-- LAWS. The entry's invariant: what a card's entry for an origin says, in terms of two marks of that origin's messages:
--     R   the messages that the card has received
--     X   as far as the card has the origin's names cancelled
-- and its two laws: an increment taken (`incremented_ok`) and an entry of a clear taken (`cleared_ok`) keep it.
-- The laws speak of one entry and of marks. They know nothing of replicas, histories or ledgers.
use Rattle.std.specs.Prelude.{ℕ, ◌+◌, ◌-◌, ◌≤◌, ◌<◌, ◌≡◌, Bool, true, false, not, cond, ◌⊎◌, ltb, leb, eqb}
use Rattle.std.proofs.Math.Path.{refl}
use Rattle.std.proofs.Common.{sym, true≢false, inl, inr, arith, ltb-true, lt-ltb, le-ltb, le-leb, eq-eqb, ne_eqb}
use Rattle.std.proofs.lemmas.Bool.{false≢true, lt-leb}
use Rattle.protocol.proofs.Cases.{by_le, and_yes, and_no_left, and_no_right}
use Rattle.protocol.specs.Entry.{Entry, absent, present, larger, removeIf, finished, incremented, lowered, settled, cleared, count_starts, count_p}
pub use Rattle.protocol.specs.Rows.{WellFormed}
use Rattle.protocol.proofs.Marks.{Mark, Proper, Before, Follows, after_increment, later_of}

-- Three cases, and in each what the three numbers are. They are stated as equations of numbers, which `omega` reads.
pub data EntryOk (R X : Mark) (e : Entry) : Type 0 where
  -- as many received as cancelled
  even : R.names ≡ X.names → e.p ≡ 0 → e.n ≡ 0 → e.c ≡ 0 → EntryOk R X e
  -- more received than cancelled: the difference counts
  ahead : X.names < R.names → e.p ≡ R.p → e.n + R.names ≡ R.p + X.names → e.c ≡ R.c → EntryOk R X e
  -- cancelled before it came
  behind : R.names < X.names → e.p ≡ X.p → e.n ≡ X.p → e.c ≡ X.c → EntryOk R X e

-- ---- tests

present_no : (e : Entry) → e.p ≡ 0 → present e ≡ false
present_no e h = le-ltb 0 e.p (omega arith)

present_yes : (e : Entry) → 0 < e.p → present e ≡ true
present_yes e h = lt-ltb 0 e.p h

-- What becomes of an entry behind the closing test: it stays as it is or goes.
stays_counting : (c : ℕ) (e : Entry) → e.n < e.p → removeIf (finished c e) e ≡ e
stays_counting c e h = rw (and_no_left (eqb e.p e.n) (eqb e.c c) (ne_eqb e.p e.n (λ q. omega arith)))

stays_waiting : (c : ℕ) (e : Entry) → c < e.c → removeIf (finished c e) e ≡ e
stays_waiting c e h = rw (and_no_right (eqb e.p e.n) (eqb e.c c) (ne_eqb e.c c (λ q. omega arith)))

goes : (c : ℕ) (e : Entry) → e.p ≡ e.n → e.c ≡ c → removeIf (finished c e) e ≡ absent
goes c e h k = rw (and_yes (eqb e.p e.n) (eqb e.c c) (eq-eqb e.p e.n h) (eq-eqb e.c c k))

-- ---- an increment taken

-- Where X lies: within what is received, or past the message that is now taken too. (Nothing lies between: a message's names come together.)
abbrev pub Placed : Mark → Mark → Mark → Type 0
Placed R R⁺ X = Before X R ⊎ Before R⁺ X

-- the entry before the closing test, with the outcome of the test `start || not (present e)` given
abbrev raise : ℕ → ℕ → Bool → ℕ → Entry → Entry
raise w p fresh known e = larger e (record { p = p; n = cond fresh (p - w) 0; c = known + w })

close : ℕ → Entry → Entry
close c e = removeIf (finished c e) e

-- what the closing test makes of an entry that has its three numbers
close_ahead : (R X : Mark) (e : Entry) (c : ℕ) → X.names < R.names → e.p ≡ R.p → e.n + R.names ≡ R.p + X.names → e.c ≡ R.c → EntryOk R X (close c e)
unfolding close
close_ahead R X e c s i j l = rw (stays_counting c e (omega arith)) (ahead s i j l)

close_behind : (R X : Mark) (e : Entry) (c : ℕ) → R.names < X.names → e.p ≡ X.p → e.n ≡ X.p → e.c ≡ X.c → c < X.c → EntryOk R X (close c e)
unfolding close
close_behind R X e c s i j l h = rw (stays_waiting c e (omega arith)) (behind s i j l)

close_even : (R X : Mark) (e : Entry) (c : ℕ) → R.names ≡ X.names → e.p ≡ e.n → e.c ≡ c → EntryOk R X (close c e)
unfolding close
close_even R X e c s i j = rw (goes c e i j) (even s refl refl refl)

-- which of two marks `later_of` takes
pub later_second : (m n : Mark) → m.names ≤ n.names → later_of m n ≡ n
later_second m n h = rw (le-leb m.names n.names h)

pub later_first : (m n : Mark) → n.names < m.names → later_of m n ≡ m
later_first m n h = rw (lt-leb m.names n.names h)

module _ (R X : Mark) (e : Entry) (w p : ℕ) (k : Proper R) (kx : Proper X) where
  -- names that are cancelled already: the entry stands as it was, and goes with the last of them
  overtaken : (start fresh : Bool) → Follows R w p start → Before (after_increment w p start R) X → R.names < X.names
      → e.p ≡ X.p → e.n ≡ X.p → e.c ≡ X.c
      → EntryOk (after_increment w p start R) X (close (R.units + w) (raise w p fresh R.units e))
  overtaken start fresh f b s i j l =
      let n = n_stays fresh in
      by_le X.names (R.names + w)
      (λ q. let c = b.same_c (omega arith) in close_even _ _ _ _ (omega arith) (omega arith) (omega arith))
      (λ q. let c = b.c_later (omega arith) in close_behind _ _ _ _ (omega arith) (omega arith) n (omega arith) (omega arith))
    where
      n_stays : (fresh : Bool) → (raise w p fresh R.units e).n ≡ X.p
      n_stays true = omega arith
      n_stays false = omega arith

  -- with start: what came before is cancelled, and a run of names begins
  start_ok : Follows R w p true → Placed R (after_increment w p true R) X → EntryOk R X e
      → EntryOk (after_increment w p true R) (later_of X R) (close (R.units + w) (raise w p true R.units e))
  start_ok f (inl b) (even s i j l) = rw (later_second X R b.names≤) (close_ahead _ _ _ _ (omega arith) (omega arith) (omega arith) (omega arith))
  start_ok f (inl b) (ahead s i j l) = rw (later_second X R b.names≤) (close_ahead _ _ _ _ (omega arith) (omega arith) (omega arith) (omega arith))
  start_ok f (inl b) (behind s i j l) = absurd (omega arith)
  start_ok f (inr b) (even s i j l) = absurd (omega arith)
  start_ok f (inr b) (ahead s i j l) = absurd (omega arith)
  start_ok f (inr b) (behind s i j l) = rw (later_first X R s) (overtaken true true f b s i j l)

  -- without: the run goes on, and nothing is cancelled
  goes_on_ok : Follows R w p false → Placed R (after_increment w p false R) X → EntryOk R X e
      → EntryOk (after_increment w p false R) X (close (R.units + w) (raise w p (not (present e)) R.units e))
  goes_on_ok f (inl b) (even s i j l) = rw (present_no e i) (close_ahead _ _ _ _ (omega arith) (omega arith) (omega arith) (omega arith))
  goes_on_ok f (inl b) (ahead s i j l) = rw (present_yes e (omega arith)) (close_ahead _ _ _ _ (omega arith) (omega arith) (omega arith) (omega arith))
  goes_on_ok f (inl b) (behind s i j l) = absurd (omega arith)
  goes_on_ok f (inr b) (even s i j l) = absurd (omega arith)
  goes_on_ok f (inr b) (ahead s i j l) = absurd (omega arith)
  goes_on_ok f (inr b) (behind s i j l) = overtaken false (not (present e)) f b s i j l

-- How far the names are cancelled once an increment is taken.
abbrev pub cancelled_by_increment : Bool → Mark → Mark → Mark
cancelled_by_increment start R X = cond start (later_of X R) X

pub incremented_ok : (R X : Mark) (e : Entry) (w p : ℕ) (start : Bool) → Proper R → Proper X → Follows R w p start
    → Placed R (after_increment w p start R) X → EntryOk R X e
    → EntryOk (after_increment w p start R) (cancelled_by_increment start R X) (incremented w p start R.units e)
unfolding incremented close
incremented_ok R X e w p true k kx f b o = start_ok R X e w p k kx f b o
incremented_ok R X e w p false k kx f b o = goes_on_ok R X e w p k kx f b o

-- ---- an entry of a clear taken

settle : ℕ → Entry → Entry
settle known e = removeIf (settled known e) e

settle_ahead : (R X : Mark) (e : Entry) (known : ℕ) → X.names < R.names → e.p ≡ R.p → e.n + R.names ≡ R.p + X.names → e.c ≡ R.c → EntryOk R X (settle known e)
unfolding settle
settle_ahead R X e known s i j l =
    rw (and_no_left (eqb e.p e.n) (leb e.c known) (ne_eqb e.p e.n (λ q. omega arith))) (ahead s i j l)

settle_behind : (R X : Mark) (e : Entry) (known : ℕ) → R.names < X.names → e.p ≡ X.p → e.n ≡ X.p → e.c ≡ X.c → known < X.c → EntryOk R X (settle known e)
unfolding settle
settle_behind R X e known s i j l h =
    rw (and_no_right (eqb e.p e.n) (leb e.c known) (lt-leb e.c known (omega arith))) (behind s i j l)

settle_even : (R X : Mark) (e : Entry) (known : ℕ) → R.names ≡ X.names → e.p ≡ e.n → e.c ≤ known → EntryOk R X (settle known e)
unfolding settle
settle_even R X e known s i j =
    rw (and_yes (eqb e.p e.n) (leb e.c known) (eq-eqb e.p e.n i) (le-leb e.c known j)) (even s refl refl refl)

-- Two marks of one history lie one way or the other.
abbrev pub Ordered : Mark → Mark → Type 0
Ordered m n = Before m n ⊎ Before n m

-- what `cleared` does with an entry that is absent, and with one that is present
cleared_absent : (Y : Mark) (known : ℕ) (e : Entry) → e.p ≡ 0 → known < Y.c → cleared Y.p Y.c known e ≡ record { p = Y.p; n = Y.p; c = Y.c }
unfolding cleared
cleared_absent Y known e i h = rw (present_no e i, lt-ltb known Y.c h)

cleared_nothing : (Y : Mark) (known : ℕ) (e : Entry) → e.p ≡ 0 → Y.c ≤ known → cleared Y.p Y.c known e ≡ e
unfolding cleared
cleared_nothing Y known e i h = rw (present_no e i, le-ltb known Y.c h)

cleared_present : (Y : Mark) (known : ℕ) (e : Entry) → 0 < e.p → cleared Y.p Y.c known e ≡ settle known (lowered Y.p Y.c e)
unfolding cleared settle
cleared_present Y known e h = rw (present_yes e h)

module _ (R X Y : Mark) (e : Entry) (kr : Proper R) (kx : Proper X) (ky : Proper Y) (runs : R.base ≤ X.names) where
  Result : Mark → Type 0
  Result X' = EntryOk R X' (cleared Y.p Y.c R.units e)

  -- the clear says nothing new
  old_clear : Y.names < X.names → Ordered R X → Ordered R Y → Ordered X Y → EntryOk R X e → Result X
  unfolding Result
  old_clear y rx (inl ry) xy (even s i j l) = absurd (omega (arith, ry.names≤))
  old_clear y rx (inr yr) xy (even s i j l) = rw (cleared_nothing Y R.units e i (omega arith)) (even s i j l)
  old_clear y rx (inl ry) xy (ahead s i j l) = absurd (omega (arith, ry.names≤))
  old_clear y rx (inr yr) xy (ahead s i j l) = rw (cleared_present Y R.units e (omega arith)) (settle_ahead _ _ _ _ s (omega arith) (omega arith) (omega arith))
  old_clear y (inr xr) ry xy (behind s i j l) = absurd (omega (arith, xr.names≤))
  old_clear y (inl rx) ry (inl xy) (behind s i j l) = absurd (omega (arith, xy.names≤))
  old_clear y (inl rx) ry (inr yx) (behind s i j l) =
      let q = rx.c_later s in
      rw (cleared_present Y R.units e (omega arith)) (settle_behind _ _ _ _ s (omega arith) (omega arith) (omega arith) (omega arith))

  -- the clear reaches past what is received
  clear_ahead_of_receipt : R.names < Y.names → X.names ≤ Y.names → Ordered R X → Before R Y → Ordered X Y → EntryOk R X e → Result Y
  unfolding Result
  clear_ahead_of_receipt y x rx ry xy (even s i j l) =
      rw (cleared_absent Y R.units e i (ry.c_later y)) (behind y refl refl refl)
  clear_ahead_of_receipt y x rx ry xy (ahead s i j l) =
      let q = ry.c_later y in
      rw (cleared_present Y R.units e (omega arith)) (settle_behind _ _ _ _ y (omega arith) (omega arith) (omega arith) q)
  clear_ahead_of_receipt y x rx ry (inl xy) (behind s i j l) =
      let q = ry.c_later y in
      rw (cleared_present Y R.units e (omega arith)) (settle_behind _ _ _ _ y (omega arith) (omega arith) (omega arith) q)
  clear_ahead_of_receipt y x rx ry (inr yx) (behind s i j l) =
      let q = ry.c_later y in
      let q₁ = yx.same_p (omega arith) in
      let q₂ = yx.same_c (omega arith) in
      rw (cleared_present Y R.units e (omega arith)) (settle_behind _ _ _ _ y (omega arith) (omega arith) (omega arith) q)

  -- the clear reaches just as far as what is received
  clear_of_receipt : Y.names ≡ R.names → X.names ≤ Y.names → Y.p ≡ R.p → Y.c ≡ R.c → EntryOk R X e → Result Y
  unfolding Result
  clear_of_receipt y x p c (even s i j l) = rw (cleared_nothing Y R.units e i (omega arith)) (even (sym y) i j l)
  clear_of_receipt y x p c (ahead s i j l) =
      rw (cleared_present Y R.units e (omega arith)) (settle_even _ _ _ _ (sym y) (omega arith) (omega arith))
  clear_of_receipt y x p c (behind s i j l) = absurd (omega arith)

  -- the clear cancels a part of what counts
  clear_of_part : Y.names < R.names → X.names ≤ Y.names → Before Y R → EntryOk R X e → Result Y
  unfolding Result
  clear_of_part y x yr (even s i j l) = absurd (omega arith)
  clear_of_part y x yr (ahead s i j l) =
      rw (cleared_present Y R.units e (omega arith))
      (by_le Y.names X.names
      (λ q. settle_ahead _ _ _ _ y (omega arith) (omega arith) (omega arith))
      (λ q. let run = yr.p_runs (omega arith) in settle_ahead _ _ _ _ y (omega arith) (omega arith) (omega arith)))
  clear_of_part y x yr (behind s i j l) = absurd (omega arith)

  new_clear : X.names ≤ Y.names → Ordered R X → Ordered R Y → Ordered X Y → EntryOk R X e → Result Y
  new_clear x rx (inl ry) xy o =
      by_le Y.names R.names
      (λ q. clear_of_receipt (omega arith) x (sym (ry.same_p (omega arith))) (sym (ry.same_c (omega arith))) o)
      (λ q. clear_ahead_of_receipt q x rx ry xy o)
  new_clear x rx (inr yr) xy o =
      by_le R.names Y.names
      (λ q. clear_of_receipt (omega arith) x (yr.same_p (omega arith)) (yr.same_c (omega arith)) o)
      (λ q. clear_of_part q x yr o)

pub cleared_ok : (R X Y : Mark) (e : Entry) → Proper R → Proper X → Proper Y → R.base ≤ X.names
    → Ordered R X → Ordered R Y → Ordered X Y → EntryOk R X e
    → EntryOk R (later_of X Y) (cleared Y.p Y.c R.units e)
unfolding Result
cleared_ok R X Y e kr kx ky runs rx ry xy o =
    by_le X.names Y.names
    (λ q. rw (later_second X Y q) (new_clear R X Y e kr kx ky runs q rx ry xy o))
    (λ q. rw (later_first X Y q) (old_clear R X Y e kr kx ky runs q rx ry xy o))

-- ---- what an entry says to its reader, and to the makers of messages

-- the entry's part of the value
pub reads_value : (R X : Mark) (e : Entry) → EntryOk R X e → e.p - e.n ≡ R.names - X.names
reads_value R X e (even s i j l) = omega arith
reads_value R X e (ahead s i j l) = omega arith
reads_value R X e (behind s i j l) = omega arith

-- the entry's bit of the holder set
pub reads_holder : (R X : Mark) (e : Entry) → Proper R → Proper X → EntryOk R X e → present e ≡ not (eqb R.names X.names)
reads_holder R X e k kx (even s i j l) = rw (eq-eqb R.names X.names s, present_no e i)
reads_holder R X e k kx (ahead s i j l) = rw (ne_eqb R.names X.names (λ q. omega arith), present_yes e (omega arith))
reads_holder R X e k kx (behind s i j l) = rw (ne_eqb R.names X.names (λ q. omega arith), present_yes e (omega arith))

-- on the own card, where nothing is cancelled that was not received: present exactly while something counts
pub reads_own : (R X : Mark) (e : Entry) → Proper R → X.names ≤ R.names → EntryOk R X e → present e ≡ ltb X.names R.names
reads_own R X e k h (even s i j l) = rw (le-ltb X.names R.names (omega arith), present_no e i)
reads_own R X e k h (ahead s i j l) = rw (lt-ltb X.names R.names s, present_yes e (omega arith))
reads_own R X e k h (behind s i j l) = absurd (omega arith)

-- what a clear sends of a present entry is the later of its two marks
pub sends_mark : (R X : Mark) (e : Entry) → EntryOk R X e → present e ≡ true → (e.p ≡ (later_of R X).p) × (e.c ≡ (later_of R X).c)
sends_mark R X e (even s i j l) t = absurd (omega (arith, ltb-true 0 e.p t))
sends_mark R X e (ahead s i j l) t = rw (later_first R X s) (i, l)
sends_mark R X e (behind s i j l) t = rw (later_second R X (omega arith)) (i, l)

pub count_follows : (R X : Mark) (e : Entry) (w : ℕ) → 0 < w → Proper R → X.names ≤ R.names → EntryOk R X e
    → Follows R w (count_p w R.units e) (count_starts e)
count_follows R X e w h k b (even s i j l) = rw (present_no e i) (record { some_units = h; rule = refl; goes_on = omega arith })
count_follows R X e w h k b (ahead s i j l) = rw (present_yes e (omega arith)) (record { some_units = h; rule = omega arith; goes_on = omega arith })
count_follows R X e w h k b (behind s i j l) = absurd (omega arith)

-- ---- what fixes an entry

pub entry_is : (e f : Entry) → e.p ≡ f.p → e.n ≡ f.n → e.c ≡ f.c → e ≡ f
entry_is e f a b c = rw (a, b, c)

fixed_by_numbers : (R X Y : Mark) (e f : Entry) → X.names ≡ Y.names → X.p ≡ Y.p → X.c ≡ Y.c → EntryOk R X e → EntryOk R Y f → e ≡ f
fixed_by_numbers R X Y e f x y z (even s i j l) (even s' i' j' l') = entry_is e f (omega arith) (omega arith) (omega arith)
fixed_by_numbers R X Y e f x y z (even s i j l) (ahead s' i' j' l') = absurd (omega arith)
fixed_by_numbers R X Y e f x y z (even s i j l) (behind s' i' j' l') = absurd (omega arith)
fixed_by_numbers R X Y e f x y z (ahead s i j l) (even s' i' j' l') = absurd (omega arith)
fixed_by_numbers R X Y e f x y z (ahead s i j l) (ahead s' i' j' l') = entry_is e f (omega arith) (omega arith) (omega arith)
fixed_by_numbers R X Y e f x y z (ahead s i j l) (behind s' i' j' l') = absurd (omega arith)
fixed_by_numbers R X Y e f x y z (behind s i j l) (even s' i' j' l') = absurd (omega arith)
fixed_by_numbers R X Y e f x y z (behind s i j l) (ahead s' i' j' l') = absurd (omega arith)
fixed_by_numbers R X Y e f x y z (behind s i j l) (behind s' i' j' l') = entry_is e f (omega arith) (omega arith) (omega arith)

-- the messages received fix the entry, and how many names are cancelled: marks of one history that have as many names have the same p and c
pub fixed : (R X Y : Mark) (e f : Entry) → Ordered X Y → X.names ≡ Y.names → EntryOk R X e → EntryOk R Y f → e ≡ f
fixed R X Y e f (inl b) s = fixed_by_numbers R X Y e f s (b.same_p s) (b.same_c s)
fixed R X Y e f (inr b) s = fixed_by_numbers R X Y e f s (sym (b.same_p (sym s))) (sym (b.same_c (sym s)))

-- ---- no refusal 2 and no refusal 10 in a run

-- where no card has made more than `most` units
pub entry_well_formed : (most : ℕ) (R X : Mark) (e : Entry) → Proper R → Proper X → R.units ≤ most → X.units ≤ most → EntryOk R X e → WellFormed most e
entry_well_formed most R X e k kx a b (even s i j l) = omega arith
entry_well_formed most R X e k kx a b (ahead s i j l) = omega arith
entry_well_formed most R X e k kx a b (behind s i j l) = omega arith

-- the own entry: c is at most the own C
pub own_entry_well_formed : (R X : Mark) (e : Entry) → Proper R → X.names ≤ R.names → EntryOk R X e → e.c ≤ R.units
own_entry_well_formed R X e k b (even s i j l) = omega arith
own_entry_well_formed R X e k b (ahead s i j l) = omega arith
own_entry_well_formed R X e k b (behind s i j l) = absurd (omega arith)

-- an increment is plausible to every card that receives it in its turn
pub increment_plausible : (R : Mark) (w p : ℕ) (start : Bool) → Proper R → Follows R w p start
    → (p ≤ R.units + w) × (start ≡ true → p ≡ R.units + w) × (start ≡ false → w < p)
increment_plausible R w p true k f = (omega arith, λ h. f.rule, λ h. absurd (true≢false h))
increment_plausible R w p false k f = (omega arith, λ h. absurd (false≢true h), λ h. omega arith)
