-- LAWS. Request 2026-01's total. Where card h alone clears q, what reads of q at h give, each right before such a clear, sums up to the number of names that h has
-- cancelled (`Collects`), and the value counts the others that it has received (`names_received`). How many it has received is told from the steps and which of
-- them were accepted (`received_told`): what is under way to h (`Increments`) are as many names as the ledger's links to h hold, and these are new to h.
use Rattle.std.specs.Prelude.{ℕ, zero, suc, ◌+◌, ◌≤◌, ◌≡◌, Bool, true, cond, ◌&&◌, List, [], ◌∷◌, ◌++◌, map, eqb, length, get_or, drop}
use Rattle.std.proofs.Math.Path.{refl, sym}
use Rattle.std.proofs.Common.{ap, ◌∙◌, le_refl}
use Rattle.std.proofs.Math.Bool.{false}
use Rattle.std.proofs.lemmas.List.{map-append}
use native.Mathlib.Omega.{arith}
use borrow.Author.Tests.{eq-eqb, ne_eqb}
use Rattle.protocol.proofs.Cases.{by_place, by_test, and_right, and_no_right}
use Rattle.protocol.proofs.Tables.{put, put_same, put_other, put_same_row, put_other_row, sum_zero}
use Rattle.protocol.specs.Names.{Name, has, join, names_after, latest}
use Rattle.protocol.proofs.NameLaws.{tally_new}
use Rattle.protocol.specs.Ledger.{Step, count, clear, deliver, Item, nothing, Ledger, empty_ledger, count_item, next_item, rest_items, applied, handed, sent, made, after_accepted, after_step, after_steps}
use Rattle.protocol.specs.Chassis.{Chassis, fresh_chassis, enabled, Offer, accepted, stepped, answers, read_value}
use Rattle.protocol.specs.OneClears.{ClearedBy, OneClears, is_clear}
use Rattle.protocol.specs.Increments.{UnderWay, way_after, brought, increments_from, increments_received}
use Rattle.protocol.proofs.Marks.{Mark}
use Rattle.protocol.proofs.Chain.{Note, other, inc, clr}
use Rattle.protocol.proofs.InvariantSteps.{Invariant, items}
use Rattle.protocol.proofs.Enabled.{deliver_enabled}
use Rattle.protocol.proofs.Theorem.{fresh_invariant, step_invariant, value_is, run_invariant}
use Rattle.protocol.specs.Runs.{step_of, after_run, ledger_after}
use Rattle.protocol.proofs.Collects.{Collects, Collected, cancelled_sum, none_collected, other_quietly, handed_quietly, count_collects, clear_collects, all_named, received_sum, received_length, received_latest}

-- what a read of q on card h gives right before each of its accepted clears of q, summed up
unfoldable pub read_before : ℕ → ℕ → ℕ → List Offer → Chassis → ℕ
read_before r h q [] st = 0
read_before r h q (o ∷ os) st =
    cond (accepted r o st && is_clear h q o.step) (read_value r q (st.replica h)) 0 + read_before r h q os (stepped r o st)

-- ---- one step

module _ (r q : ℕ) (st : Chassis) (l : Ledger) (ok : Invariant r q st l) (h : ℕ) (k : Collects h l) where
  -- an accepted one
  accepted_collects : (s : Step) → ClearedBy h q s → Collected r h (cond (is_clear h q s) (read_value r q (st.replica h)) 0) l (after_accepted r q s l)
  unfolding after_accepted is_clear
  accepted_collects (count i c w) only =
      by_test (eqb c q) (λ e. rw e (count_collects r q st l ok h k i w)) (λ e. rw e (other_quietly r h l k i c))
  accepted_collects (clear i c) only =
      by_place c q
      (λ e. rw (only e, e, eq-eqb h h refl, eq-eqb q q refl, value_is r q st l ok h) (clear_collects r q st l ok h k))
      (λ d. rw (ne_eqb c q d, and_no_right (eqb i h) false refl) (other_quietly r h l k i c))
  accepted_collects (deliver i s) only = handed_quietly r h l k i s

  -- one that may be declined
  offer_collects : (o : Offer) → (accepted r o st ≡ true → ClearedBy h q o.step)
      → Collected r h (cond (accepted r o st && is_clear h q o.step) (read_value r q (st.replica h)) 0) l (after_step r q o.step (accepted r o st) l)
  unfolding after_step
  offer_collects o only =
      by_test (accepted r o st)
      (λ a. rw a (accepted_collects o.step (only a)))
      (λ a. rw a (record { collects = k; adds_up = omega arith }))

-- ---- a list of steps

both_collected : (r h v v' : ℕ) (l l₁ l₂ : Ledger) → Collected r h v l l₁ → Collected r h v' l₁ l₂ → Collected r h (v + v') l l₂
both_collected r h v v' l l₁ l₂ a b = record { collects = b.collects; adds_up = let x = a.adds_up in let y = b.adds_up in omega arith }

steps_collect : (r q h : ℕ) (os : List Offer) (st : Chassis) (l : Ledger) → Invariant r q st l → Collects h l → OneClears h q (map step_of os) (answers r os st)
    → Collected r h (read_before r h q os st) l (after_steps r q (map step_of os) (answers r os st) l)
unfolding read_before answers after_steps
steps_collect r q h [] st l ok k only = record { collects = k; adds_up = omega arith }
steps_collect r q h (o ∷ os) st l ok k only =
    let first = offer_collects r q st l ok h k o only.0 in
    both_collected r h _ _ l _ _ first (steps_collect r q h os _ _ (step_invariant r q o st l ok) first.collects only.1)

-- no name is cancelled at first
none_cancelled : (r h : ℕ) → cancelled_sum r h empty_ledger ≡ 0
unfolding latest
none_cancelled r h = sum_zero r _ (λ j below. refl)

pub names_received : (r q h : ℕ) (os : List Offer) → OneClears h q (map step_of os) (answers r os fresh_chassis)
    → read_before r h q os fresh_chassis + read_value r q ((after_run r os).replica h) ≡ length ((ledger_after r q os).received h)
names_received r q h os only =
    let ran = run_invariant r q os in
    let all = steps_collect r q h os fresh_chassis empty_ledger (fresh_invariant r q) (none_collected h) only in
    let a = all.adds_up in
    let v = value_is r q _ _ ran h in
    let z = none_cancelled r h in
    let s = received_sum r q _ _ ran h all.collects in
    let n = received_length r q _ _ ran h in
    omega arith

-- ---- names that are new to a set

-- how many names a message adds
abbrev added : Item → ℕ
added it = length it.adds

-- the set has none of them: it grows by each
abbrev New : Item → List Name → Type 0
New it s = length (join it.adds s) ≡ added it + length s

names_number : (j b w : ℕ) → length (names_after j b w) ≡ w
unfolding names_after
names_number j b zero = refl
names_number j b (suc w) = ap suc (names_number j (suc b) w)

-- card j's names after the b-th, where the set has none of them
later_new : (j b w : ℕ) (s : List Name) → latest j s ≤ b → length (join (names_after j b w) s) ≡ length (names_after j b w) + length s
unfolding has
later_new j b w s l =
    let a = all_named s in
    let c = all_named (join (names_after j b w) s) in
    let d = tally_new (λ n. true) w b j s l (λ o m. refl) in
    let e = names_number j b w in
    omega arith

none_new : (c : ℕ) (s : List Name) → New (nothing c) s
unfolding join
none_new c s = omega arith

-- the next message of card j, where k is the mark of its messages before
next_new : (q j : ℕ) (ns : List Note) (k : Mark) (s : List Name) → latest j s ≤ k.names → New (next_item (items q j ns k)) s
unfolding items next_item join
next_new q j [] k s l = none_new 0 s
next_new q j (other m ∷ ns) k s l = none_new 0 s
next_new q j (inc w p start ∷ ns) k s l = later_new j k.names w s l
next_new q j (clr ts ∷ ns) k s l = none_new 0 s

-- ---- what is under way to card h, and the ledger's links to h

-- message for message, of every other card
abbrev AsLinks : ℕ → UnderWay → Ledger → Type 0
AsLinks h way l = (s : ℕ) → (s ≡ h → ⊥) → way s ≡ map added (l.queue s h)

-- from the ledger l to the ledger l' v names were brought to card h, and `way` is what is under way to it afterwards
record Brought (h v : ℕ) (way : UnderWay) (l l' : Ledger) : Type 0 where
  links : AsLinks h way l'
  adds_up : v + length (l.received h) ≡ length (l'.received h)

first_added : (its : List Item) → get_or (map added its) 0 0 ≡ added (next_item its)
unfolding next_item
first_added [] = refl
first_added (it ∷ its) = refl

rest_added : (its : List Item) → drop 1 (map added its) ≡ map added (rest_items its)
unfolding rest_items
rest_added [] = refl
rest_added (it ∷ its) = refl

both_tests : (s t : Bool) (w : ℕ) → cond (s && t) w 0 ≡ cond s (cond t w 0) 0
both_tests true t w = refl
both_tests false t w = refl

no_test : (s : Bool) → ◌≡◌ {A = ℕ} 0 (cond s 0 0)
no_test true = refl
no_test false = refl

module _ (h q : ℕ) (way : UnderWay) (l : Ledger) (k : AsLinks h way l) where
  -- card i applies a message that is new to it
  applied_adds : (i : ℕ) (it : Item) → New it (l.received i)
      → cond (eqb i h) (added it) 0 + length (l.received h) ≡ length (put i (join it.adds (l.received i)) l.received h)
  applied_adds i it new =
      by_place h i
      (λ e. rw (e, eq-eqb i i refl, put_same i (join it.adds (l.received i)) l.received) (sym new))
      (λ d. rw (ne_eqb i h (λ e. d (sym e)), put_other i (join it.adds (l.received i)) l.received h d) (omega arith))

  -- card i makes it
  made_brings : (i v w : ℕ) (it : Item) → New it (l.received i) → added it ≡ w → v ≡ cond (eqb i h) w 0
      → Brought h v (put i (way i ++ w ∷ []) way) l (made i it l)
  unfolding made applied sent
  made_brings i v w it new n e = record {
    links = λ s apart.
        by_place s i
        (λ c. rw c (simp (put_same, put_same_row) (rw (k i (λ d. apart (c ∙ d)), ← n) (sym (map-append added (l.queue i h) (it ∷ []))))))
        (λ d. simp (put_other, put_other_row) (k s apart));
    adds_up = rw (e, ← n) (applied_adds i it new);
  }

  -- the link from s hands it over to card i
  handed_brings : (i s : ℕ) → (i ≡ s → ⊥) → New (next_item (l.queue s i)) (l.received i)
      → Brought h (brought h q (deliver i s) way) (way_after h q (deliver i s) way) l (handed i s l)
  unfolding handed applied
  handed_brings i s apart new =
      by_place i h
      (λ e.
      let link = k s (λ d. apart (e ∙ sym d)) in
      let new' : New (next_item (l.queue s h)) (l.received h) = rw e at new in
      rw (e, eq-eqb h h refl) (record {
        links = λ o far.
            by_place o s
            (λ c. rw c (simp (put_same, put_same_row) (rw link (rest_added (l.queue s h)))))
            (λ d. simp (put_other, put_other_row) (k o far));
        adds_up = rw (link, first_added (l.queue s h)) (simp put_same (sym new'));
      }))
      (λ d.
      let d' : h ≡ i → ⊥ = λ e. d (sym e) in
      rw (ne_eqb i h d) (record {
        links = λ o far.
            by_place o s
            (λ c. rw c (simp (put_same_row, put_other) (k s (λ e. far (c ∙ e)))))
            (λ c. simp put_other_row (k o far));
        adds_up = simp put_other (omega arith);
      }))

module _ (r q h : ℕ) (st : Chassis) (l : Ledger) (ok : Invariant r q st l) (way : UnderWay) (k : AsLinks h way l) where
  -- an accepted step
  accepted_brings : (s : Step) → enabled r s st ≡ true → Brought h (brought h q s way) (way_after h q s way) l (after_accepted r q s l)
  unfolding after_accepted count_item
  accepted_brings (count i c w) on =
      made_brings h q way l k i _ (cond (eqb c q) w 0) _
      (by_test (eqb c q)
      (λ e. rw e (later_new i (latest i (l.received i)) w (l.received i) (le_refl (latest i (l.received i)))))
      (λ e. rw e (none_new c (l.received i))))
      (by_test (eqb c q) (λ e. rw e (names_number i (latest i (l.received i)) w)) (λ e. rw e))
      (both_tests (eqb i h) (eqb c q) w)
  accepted_brings (clear i c) on =
      made_brings h q way l k i _ 0 _
      (by_test (eqb c q) (λ e. rw e (none_new c (l.received i))) (λ e. rw e (none_new c (l.received i))))
      (by_test (eqb c q) (λ e. rw e) (λ e. rw e))
      (no_test (eqb i h))
  accepted_brings (deliver i s) on =
      let apart = (deliver_enabled r i s st on).apart in
      handed_brings h q way l k i s apart
      (rw (ok.queues s i apart) (next_new q s _ _ (l.received i) (let e = received_latest r q st l ok i s in omega arith)))

  -- one that may be declined
  offer_brings : (o : Offer) → Brought h (cond (accepted r o st) (brought h q o.step way) 0) (cond (accepted r o st) (way_after h q o.step way) way) l
      (after_step r q o.step (accepted r o st) l)
  unfolding after_step
  offer_brings o =
      by_test (accepted r o st)
      (λ e. rw e (accepted_brings o.step (and_right o.willing (enabled r o.step st) e)))
      (λ e. rw e (record { links = k; adds_up = omega arith }))

-- a test outside, and inside
either : (a : Bool) (v : ℕ) (f : UnderWay → ℕ) (way way' : UnderWay) → cond a (v + f way') (f way) ≡ cond a v 0 + f (cond a way' way)
either true v f way way' = refl
either false v f way way' = omega arith

brought_from : (r q h : ℕ) (os : List Offer) (st : Chassis) (l : Ledger) → Invariant r q st l → (way : UnderWay) → AsLinks h way l
    → increments_from h q (map step_of os) (answers r os st) way + length (l.received h)
    ≡ length ((after_steps r q (map step_of os) (answers r os st) l).received h)
unfolding increments_from answers after_steps
brought_from r q h [] st l ok way k = omega arith
brought_from r q h (o ∷ os) st l ok way k =
    let first = offer_brings r q h st l ok way k o in
    let a = first.adds_up in
    let b = brought_from r q h os _ _ (step_invariant r q o st l ok) _ first.links in
    let rest = increments_from h q (map step_of os) (answers r os (stepped r o st)) in
    let c = either (accepted r o st) (brought h q o.step way) rest way (way_after h q o.step way) in
    omega arith

pub received_told : (r q h : ℕ) (os : List Offer)
    → increments_received h q (map step_of os) (answers r os fresh_chassis) ≡ length ((ledger_after r q os).received h)
received_told r q h os = let e = brought_from r q h os fresh_chassis empty_ledger (fresh_invariant r q) (λ s. []) (λ s d. refl) in omega arith
