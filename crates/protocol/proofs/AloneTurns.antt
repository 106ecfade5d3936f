-- LAWS. The queues of counter numbers are those of the messages that wait (`TurnsAre`). So q's own steps of a list are those that the chassis accepts
-- and that are of counter q there; and a step belongs to q in q's ledger exactly if it is of q there (`belongs_to`).
use Rattle.std.specs.Prelude.{ℕ, suc, ◌≤◌, ◌<◌, ◌≡◌, Bool, true, cond, ◌&&◌, eqb, length, get_or, drop}
use Rattle.std.proofs.Math.Path.{refl, sym}
use Rattle.std.proofs.Common.{ap, ap₂, ◌∙◌, drop-cons}
use mathlib.Core.List.{List, [], ◌∷◌, ◌++◌, map, map-append, append_assoc, tail}
use Rattle.std.proofs.lemmas.List.{drop-append-le}
use Rattle.protocol.proofs.Cases.{by_place, by_test, and_right}
use Rattle.protocol.proofs.Tables.{put, put_same, put_other, put_same_row, put_other_row}
use Rattle.protocol.specs.Ledger.{Step, count, clear, deliver, Item, Ledger, empty_ledger, turn_is, belongs}
use Rattle.protocol.specs.Chassis.{Message, no_message, count_message, clear_message, Chassis, fresh_chassis, issued, delivered, done, enabled, Offer, accepted, stepped, run, answers, counter_of}
use Rattle.protocol.proofs.InvariantSteps.{Invariant, taken_N}
use Rattle.protocol.proofs.Theorem.{fresh_invariant, step_invariant}
use Rattle.protocol.proofs.Links.{own_N_is, link_counters}
use Rattle.protocol.proofs.Refusals.{received_within}
use Rattle.protocol.specs.Runs.{step_of}
use Rattle.protocol.specs.Alone.{Turns, no_turns, turned, turn_of, belongs_by_turns, own_steps, alone, step_counter, accepted_of}
use Rattle.protocol.proofs.Enabled.{deliver_enabled}

abbrev pub TurnsAre : Turns → Chassis → Type 0
TurnsAre turns st = (s i : ℕ) → (i ≡ s → ⊥) → turns s i ≡ map counter_of (drop ((st.replica i).N s) (st.log s))

module _ (r q : ℕ) (st : Chassis) (l : Ledger) (ok : Invariant r q st l) (turns : Turns) (k : TurnsAre turns st) where
  some_made : (i s : ℕ) → (st.replica i).N s ≤ length (st.log s)
  some_made i s = rw (← (own_N_is r q st l ok s)) (received_within r q st l ok i s).1

  issued_turns : (i : ℕ) (m : Message) → TurnsAre (put i (λ n. turns i n ++ counter_of m ∷ []) turns) (issued i m st)
  unfolding issued
  issued_turns i m s n apart =
      by_place s i
      (λ e. by_place n i
      (λ f. absurd (apart (f ∙ sym e)))
      (λ f. rw e (simp (put_same_row, put_same, put_other)
      (rw (drop-append-le ((st.replica n).N i) (st.log i) (m ∷ []) (some_made n i), map-append counter_of (drop ((st.replica n).N i) (st.log i)) (m ∷ []), k i n f)))))
      (λ d. by_place n i
      (λ f. rw f (simp (put_other_row, put_same, taken_N, put_other) (k s i (λ g. apart (f ∙ g)))))
      (λ f. simp (put_other_row, put_other) (k s n apart)))

  next_turn : (i s : ℕ) → (i ≡ s → ⊥) → (st.replica i).N s < length (st.log s)
      → turns s i ≡ counter_of (get_or (st.log s) ((st.replica i).N s) no_message) ∷ map counter_of (drop (suc ((st.replica i).N s)) (st.log s))
  next_turn i s apart waits = k s i apart ∙ ap (map counter_of) (drop-cons (st.log s) ((st.replica i).N s) no_message waits)

  delivered_turns : (i s : ℕ) → (i ≡ s → ⊥) → (st.replica i).N s < length (st.log s)
      → TurnsAre (put s (put i (tail (turns s i)) (turns s)) turns) (delivered i s st)
  unfolding delivered
  delivered_turns i s apart waits o n far =
      by_place o s
      (λ e. by_place n i
      (λ f. rw (e, f) (simp (put_same_row, put_same, taken_N) (ap tail (next_turn i s apart waits))))
      (λ f. rw e (simp (put_same_row, put_other) (k s n (λ g. far (g ∙ sym e))))))
      (λ d. by_place n i
      (λ f. rw f (simp (put_other_row, put_same, taken_N, put_other) (k o i (λ g. far (f ∙ g)))))
      (λ f. simp (put_other_row, put_other) (k o n far)))

  -- what an accepted deliver hands over
  handed_made : (i s : ℕ) → enabled r (deliver i s) st ≡ true → (st.replica i).N s < length (st.log s)
  handed_made i s on = rw (← (own_N_is r q st l ok s)) (deliver_enabled r i s st on).waits

  done_turns : (s : Step) → enabled r s st ≡ true → TurnsAre (turned s turns) (done r s st)
  unfolding turned done count_message clear_message
  done_turns (count i c w) on = issued_turns i _
  done_turns (clear i c) on = issued_turns i _
  done_turns (deliver i s) on = delivered_turns i s (deliver_enabled r i s st on).apart (handed_made i s on)

  pub belongs_is : (s : Step) → enabled r s st ≡ true → belongs_by_turns q s turns ≡ eqb (step_counter s st) q
  unfolding belongs_by_turns step_counter turn_of
  belongs_is (count i c w) on = refl
  belongs_is (clear i c) on = refl
  belongs_is (deliver i s) on = rw (next_turn i s (deliver_enabled r i s st on).apart (handed_made i s on))

  -- a step that may be declined
  pub stepped_turns : (o : Offer) → TurnsAre (cond (accepted r o st) (turned o.step turns) turns) (stepped r o st)
  unfolding stepped
  stepped_turns o =
      by_test (accepted r o st)
      (λ a. rw a (done_turns o.step (and_right o.willing (enabled r o.step st) a)))
      (λ a. rw a k)

  own_is : (o : Offer) → accepted r o st && belongs_by_turns q o.step turns ≡ accepted r o st && eqb (step_counter o.step st) q
  own_is o =
      by_test (accepted r o st)
      (λ a. rw a (belongs_is o.step (and_right o.willing (enabled r o.step st) a)))
      (λ a. rw a)

-- ---- the ledger's own queues

-- the counters of what its links have still to hand over
abbrev ledger_turns : Ledger → Turns
ledger_turns l s i = map (λ it. it.counter) (l.queue s i)

turn_is_of : (q : ℕ) (its : List Item) → turn_is q its ≡ turn_of q (map (λ it. it.counter) its)
unfolding turn_is turn_of
turn_is_of q [] = refl
turn_is_of q (it ∷ its) = refl

pub belongs_to : (r q : ℕ) (st : Chassis) (l : Ledger) → Invariant r q st l → (s : Step) → enabled r s st ≡ true → belongs q s l ≡ eqb (step_counter s st) q
unfolding belongs belongs_by_turns
belongs_to r q st l ok s on = by_its_turns s ∙ belongs_is r q st l ok (ledger_turns l) (λ o i d. link_counters r q st l ok i o d) s on
  where
    by_its_turns : (s : Step) → belongs q s l ≡ belongs_by_turns q s (ledger_turns l)
    by_its_turns (count i k w) = refl
    by_its_turns (clear i k) = refl
    by_its_turns (deliver i s) = turn_is_of q (l.queue s i)

-- ---- a list of steps

own_are : (r q : ℕ) (os : List Offer) (st : Chassis) (l : Ledger) → Invariant r q st l → (turns : Turns) → TurnsAre turns st
    → own_steps step_of q os (answers r os st) turns ≡ accepted_of r q os st
unfolding own_steps answers accepted_of
own_are r q [] st l ok turns k = refl
own_are r q (o ∷ os) st l ok turns k =
    ap₂ (λ (t : Bool) (rest : List Offer). cond t (o ∷ []) [] ++ rest) (own_is r q st l ok turns k o)
    (own_are r q os (stepped r o st) _ (step_invariant r q o st l ok) _ (stepped_turns r q st l ok turns k o))

pub alone_is_accepted : (r q : ℕ) (os : List Offer) → alone r q os ≡ accepted_of r q os fresh_chassis
alone_is_accepted r q os = own_are r q os fresh_chassis empty_ledger (fresh_invariant r q) no_turns (λ s i d. refl)

pub accepted_append : (r q : ℕ) (os os' : List Offer) (st : Chassis) → accepted_of r q (os ++ os') st ≡ accepted_of r q os st ++ accepted_of r q os' (run r os st)
unfolding accepted_of run
accepted_append r q [] os' st = refl
accepted_append r q (o ∷ os) os' st =
    ap (λ (rest : List Offer). cond (accepted r o st && eqb (step_counter o.step st) q) (o ∷ []) [] ++ rest) (accepted_append r q os os' (stepped r o st))
    ∙ sym (append_assoc (cond (accepted r o st && eqb (step_counter o.step st) q) (o ∷ []) []) (accepted_of r q os (stepped r o st)) _)
