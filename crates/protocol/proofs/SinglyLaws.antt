-- LAWS. A list with amounts and the same list in single steps leave the same C and entries. Both are compared with Algorithm 1 (`InARowRuns`): there a lot
-- of w updates against w lots of one update, the queues of the one being those of the other taken apart (`Flat`).
use Rattle.std.specs.Prelude.{ℕ, zero, suc, ◌<◌, ◌≡◌, refl, Bool, true, false, cond, ltb, drop}
use Rattle.std.proofs.Common.{sym, ◌∙◌, arith, drop_of_length-le, lt-ltb}
use Rattle.std.proofs.Math.Path.{ap}
use mathlib.Core.List.{List, [], ◌∷◌, ◌++◌, map, append-nil, append_assoc}
use Rattle.std.proofs.Math.ListN.{length, get_or}
use Rattle.protocol.proofs.Cases.{by_test, by_place, by_le, and_yes, and_right}
use Rattle.protocol.proofs.Tables.{put, put_same, put_at, put_other, put_same_row, put_other_row}
use Rattle.protocol.specs.Ledger as ledger
use Rattle.protocol.specs.Ledger.{Ledger, Step, count, clear, deliver, empty_ledger}
use Rattle.protocol.specs.Chassis.{Message, increment, clearing, no_message, Chassis, fresh_chassis, enabled, Offer, accepted, stepped, run, counter_of}
use Rattle.protocol.proofs.InvariantSteps.{Invariant}
use Rattle.protocol.proofs.Theorem.{fresh_invariant, step_invariant, run_invariant}
use Rattle.protocol.proofs.Links.{own_N_is}
use Rattle.protocol.specs.Runs.{after_run, ledger_after}
use Rattle.protocol.specs.Algorithm1.{Slot, p_of, n_of, c_of, Update, reset_generator, inc_generator, effector, slot_of}
use Rattle.protocol.proofs.Algorithm1Laws.{Whole, well_formed_whole, slot_p, slot_n, slot_c}
use Rattle.protocol.specs.Entry.{Entry}
use Rattle.protocol.proofs.EntryLaws.{entry_is}
use Rattle.protocol.specs.InARow.{effectors, inc_generators, Instances, instance, Lot, effected, System, initial, made, next_lot, rest_lots, handed, after_accepted, after_step, instances_of, singles, updates_of}
use Rattle.protocol.proofs.InARowRuns.{well_formed, lot_of, instances_are, Same, fresh_same, its_message, link, step_same}
use Rattle.protocol.specs.Singly.{times, singles_in, single_steps, expanded, in_single_steps}
use Rattle.protocol.proofs.RunsLaws.{run_append}
use Rattle.protocol.proofs.Enabled.{count_enabled, deliver_enabled, deliverable}

abbrev lot : ℕ → List Update → Lot
lot q us = record { counter = q; updates = us }

-- ---- one replica: a lot, or its updates one by one

instance_effected : (q : ℕ) (u : Update) (b : Instances) → instance q (effected (lot q (u ∷ [])) b) ≡ effector u (instance q b)
unfolding effected effectors
instance_effected q u b = rw put_same

effected_none : (q : ℕ) (b : Instances) → effected (lot q []) b ≡ b
unfolding effected effectors
effected_none q b = instances_are _ _ (λ j. refl) (λ k j. by_place k q (λ e. rw (e, put_same_row q (b.M q) b.M j)) (λ d. rw put_other_row))

effected_more : (q : ℕ) (u : Update) (us : List Update) (b : Instances) → effected (lot q us) (effected (lot q (u ∷ [])) b) ≡ effected (lot q (u ∷ us)) b
unfolding effected effectors
effected_more q u us b =
    rw (instance_effected q u b)
    (instances_are _ _ (λ j. refl) (λ k j. by_place k q (λ e. rw e (simp put_same_row)) (λ d. simp put_other_row)))

-- ---- a lot taken apart

unfoldable split : ℕ → List Update → List Lot
split q [] = []
split q (u ∷ us) = lot q (u ∷ []) ∷ split q us

unfoldable flat : List Lot → List Lot
flat [] = []
flat (x ∷ xs) = split x.counter x.updates ++ flat xs

flat_append : (xs : List Lot) (x : Lot) → flat (xs ++ x ∷ []) ≡ flat xs ++ split x.counter x.updates
unfolding flat
flat_append [] x = append-nil (split x.counter x.updates)
flat_append (y ∷ xs) x = rw (flat_append xs x) (sym (append_assoc (split y.counter y.updates) (flat xs) (split x.counter x.updates)))

-- ---- made one by one

unfoldable made_singly : ℕ → ℕ → List Update → System → System
made_singly i q [] x = x
made_singly i q (u ∷ us) x = made_singly i q us (made i (lot q (u ∷ [])) x)

made_replica : (i q : ℕ) (us : List Update) (x : System) (j : ℕ) → (made_singly i q us x).replica j ≡ put i (effected (lot q us) (x.replica i)) x.replica j
unfolding made_singly made
made_replica i q [] x j = by_place j i (λ e. rw (put_at, effected_none q (x.replica i)) (ap x.replica e)) (λ d. rw put_other)
made_replica i q (u ∷ us) x j =
    made_replica i q us (made i (lot q (u ∷ [])) x) j
    ∙ by_place j i (λ e. simp put_at (effected_more q u us (x.replica i))) (λ d. simp put_other)

made_queue : (i q : ℕ) (us : List Update) (x : System) (s k : ℕ) → (made_singly i q us x).queue s k ≡ put i (λ n. x.queue i n ++ split q us) x.queue s k
unfolding made_singly made split
made_queue i q [] x s k = by_place s i (λ e. rw e (rw put_same_row (sym (append-nil (x.queue i k))))) (λ d. rw put_other_row)
made_queue i q (u ∷ us) x s k =
    made_queue i q us (made i (lot q (u ∷ [])) x) s k
    ∙ by_place s i (λ e. rw e (simp put_same_row (append_assoc (x.queue i k) (lot q (u ∷ []) ∷ []) (split q us)))) (λ d. simp put_other_row)

-- ---- handed over one by one

unfoldable handed_singly : ℕ → ℕ → ℕ → System → System
handed_singly i s zero x = x
handed_singly i s (suc n) x = handed_singly i s n (handed i s x)

module _ (i s q : ℕ) (rest : List Lot) where
  handed_replica : (us : List Update) (x : System) → x.queue s i ≡ split q us ++ rest → (j : ℕ)
      → (handed_singly i s (length us) x).replica j ≡ put i (effected (lot q us) (x.replica i)) x.replica j
  unfolding handed_singly handed split next_lot rest_lots
  handed_replica [] x e j = by_place j i (λ c. rw (put_at, effected_none q (x.replica i)) (ap x.replica c)) (λ d. rw put_other)
  handed_replica (u ∷ us) x e j =
      handed_replica us (handed i s x) (rw (put_same_row, put_same) (ap rest_lots e)) j
      ∙ by_place j i (λ c. simp (put_at, e) (effected_more q u us (x.replica i))) (λ d. simp put_other)

  handed_queue : (us : List Update) (x : System) → x.queue s i ≡ split q us ++ rest → (o k : ℕ)
      → (handed_singly i s (length us) x).queue o k ≡ put s (put i rest (x.queue s)) x.queue o k
  unfolding handed_singly handed split rest_lots
  handed_queue [] x e o k = by_place o s (λ c. rw (c, put_same_row) (by_place k i (λ f. rw put_at (ap (x.queue s) f ∙ e)) (λ d. rw put_other))) (λ d. rw put_other_row)
  handed_queue (u ∷ us) x e o k =
      handed_queue us (handed i s x) (rw (put_same_row, put_same) (ap rest_lots e)) o k
      ∙ by_place o s
      (λ c. rw c (simp put_same_row (by_place k i (λ f. simp put_at) (λ d. simp (put_other, put_same_row)))))
      (λ d. simp put_other_row)

rest_stays : (i s : ℕ) (y : System) (first : Lot) (rest : List Lot) → y.queue s i ≡ first ∷ rest → (handed i s y).queue s i ≡ rest
unfolding handed rest_lots
rest_stays i s y first rest e = rw (put_same_row, put_same) (ap rest_lots e)

-- ---- Algorithm 1 fed with amounts (x) and in single steps (y)

record Flat (x y : System) : Type 0 where
  replicas : (i : ℕ) → y.replica i ≡ x.replica i
  queues : (s i : ℕ) → y.queue s i ≡ flat (x.queue s i)

made_flat : (i q : ℕ) (us : List Update) (x y : System) → Flat x y → Flat (made i (lot q us) x) (made_singly i q us y)
unfolding made
made_flat i q us x y k = record {
  replicas = λ j. made_replica i q us y j ∙ by_place j i (λ e. simp (put_at, k.replicas i)) (λ d. simp put_other (k.replicas j));
  queues = λ s n.
      made_queue i q us y s n
      ∙ by_place s i
      (λ e. rw e (simp (put_same_row, k.queues i n) (sym (flat_append (x.queue i n) (lot q us)))))
      (λ d. simp put_other_row (k.queues s n));
}

handed_flat : (i s q : ℕ) (us : List Update) (rest : List Lot) (x y : System) → x.queue s i ≡ lot q us ∷ rest → Flat x y
    → Flat (handed i s x) (handed_singly i s (length us) y)
unfolding handed next_lot rest_lots flat
handed_flat i s q us rest x y e k =
    let there : y.queue s i ≡ split q us ++ flat rest = k.queues s i ∙ ap flat e in
    record {
      replicas = λ j.
          handed_replica i s q (flat rest) us y there j
          ∙ by_place j i (λ c. simp (put_at, e, k.replicas i)) (λ d. simp put_other (k.replicas j));
      queues = λ o n.
          handed_queue i s q (flat rest) us y there o n
          ∙ by_place o s
          (λ c. rw c (simp put_same_row (by_place n i (λ f. simp (put_at, e)) (λ d. simp put_other (k.queues s n)))))
          (λ d. simp put_other_row (k.queues o n));
    }

-- ---- a chassis that a list reaches, with Algorithm 1 beside it

record Reached (r : ℕ) (x : System) (st : Chassis) : Type 0 where
  ledgers : ℕ → Ledger
  invariants : (q : ℕ) → Invariant r q st (ledgers q)
  same : Same x st

reached_step : (r : ℕ) (x : System) (st : Chassis) (o : Offer) → Reached r x st → Reached r (after_step r o.step (accepted r o st) x) (stepped r o st)
reached_step r x st o h = record {
  ledgers = λ q. ledger.after_step r q o.step (accepted r o st) (h.ledgers q);
  invariants = λ q. step_invariant r q o st (h.ledgers q) (h.invariants q);
  same = step_same r x st h.ledgers h.invariants h.same o;
}

abbrev willing : Step → Offer
willing s = record { step = s; willing = true }

reached_done : (r : ℕ) (x : System) (st : Chassis) (s : Step) → enabled r s st ≡ true → Reached r x st → Reached r (after_accepted r s x) (stepped r (willing s) st)
unfolding after_step
reached_done r x st s e h = rw e at (reached_step r x st (willing s) h)

-- w counts by 1
instance_made : (i q : ℕ) (u : Update) (y : System) → instance q ((made i (lot q (u ∷ [])) y).replica i) ≡ effector u (instance q (y.replica i))
unfolding made
instance_made i q u y =
    ap (λ (b : Instances). instance q b) (put_same i (effected (lot q (u ∷ [])) (y.replica i)) y.replica) ∙ instance_effected q u (y.replica i)

one_count : (r i q : ℕ) (st : Chassis) → i < r → enabled r (count i q 1) st ≡ true
unfolding enabled
one_count r i q st below = and_yes (ltb i r) (ltb 0 1) (lt-ltb i r below) refl

counts_reached : (r i q w : ℕ) (y : System) (st : Chassis) → i < r → Reached r y st
    → Reached r (made_singly i q (inc_generators i w (instance q (y.replica i))) y) (run r (times w (count i q 1)) st)
unfolding inc_generators made_singly times run after_accepted
counts_reached r i q zero y st below h = h
counts_reached r i q (suc w) y st below h =
    let u = inc_generator i (instance q (y.replica i)) in
    let next = reached_done r y st (count i q 1) (one_count r i q st below) h in
    rw (← (instance_made i q u y)) (counts_reached r i q w (made i (lot q (u ∷ [])) y) (stepped r (willing (count i q 1)) st) below next)

-- as many deliveries as the link has updates to hand over
some_waits : (y : System) (st : Chassis) (i s : ℕ) (first : Lot) (rest : List Lot) → Same y st → (i ≡ s → ⊥) → y.queue s i ≡ first ∷ rest
    → (st.replica i).N s < length (st.log s)
some_waits y st i s first rest k apart e =
    by_le (length (st.log s)) ((st.replica i).N s)
    (λ l.
    let none : y.queue s i ≡ [] = k.queues s i apart ∙ ap (map (lot_of s)) (drop_of_length-le (st.log s) {i = (st.replica i).N s} l) in
    let z = ap length (sym none ∙ e) in
    absurd (omega arith))
    (λ l. l)

one_delivery : (r i s : ℕ) (y : System) (st : Chassis) (first : Lot) (rest : List Lot) → Reached r y st → i < r → s < r → (i ≡ s → ⊥) → y.queue s i ≡ first ∷ rest
    → enabled r (deliver i s) st ≡ true
one_delivery r i s y st first rest h hi hs apart e =
    let waits : (st.replica i).N s < (st.replica s).N s = rw (own_N_is r 0 st (h.ledgers 0) (h.invariants 0) s) (some_waits y st i s first rest h.same apart e) in
    deliverable r i s st (record { receiver = hi; sender = hs; apart = apart; waits = waits })

deliveries_reached : (r i s q : ℕ) (us : List Update) (rest : List Lot) (y : System) (st : Chassis) → i < r → s < r → (i ≡ s → ⊥) → y.queue s i ≡ split q us ++ rest
    → Reached r y st → Reached r (handed_singly i s (length us) y) (run r (times (length us) (deliver i s)) st)
unfolding handed_singly times run after_accepted split
deliveries_reached r i s q [] rest y st hi hs apart e h = h
deliveries_reached r i s q (u ∷ us) rest y st hi hs apart e h =
    deliveries_reached r i s q us rest (handed i s y) (stepped r (willing (deliver i s)) st) hi hs apart (rest_stays i s y _ _ e)
    (reached_done r y st (deliver i s) (one_delivery r i s y st (lot q (u ∷ [])) (split q us ++ rest) h hi hs apart e) h)

-- ---- a list with amounts, and the same list in single steps

-- st is reached by the one, st' by the other
record Both (r : ℕ) (st st' : Chassis) : Type 0 where
  x : System
  y : System
  here : Reached r x st
  there : Reached r y st'
  apart : Flat x y

singles_length : (s w p : ℕ) (start : Bool) → length (singles s w p start) ≡ w
unfolding singles
singles_length s zero p start = refl
singles_length s (suc w) p start = ap suc (singles_length s w (suc p) false)

updates_length : (s : ℕ) (m : Message) → length (updates_of s m) ≡ singles_in m
updates_length s (increment q w p start) = singles_length s w _ start
updates_length s (clearing q ts) = refl

module _ (r : ℕ) (st st' : Chassis) (b : Both r st st') where
  count_both : (i q w : ℕ) → enabled r (count i q w) st ≡ true → Both r (stepped r (willing (count i q w)) st) (run r (times w (count i q 1)) st')
  unfolding after_accepted
  count_both i q w e = record {
    x = after_accepted r (count i q w) b.x;
    y = made_singly i q (inc_generators i w (instance q (b.y.replica i))) b.y;
    here = reached_done r b.x st (count i q w) e b.here;
    there = counts_reached r i q w b.y st' (count_enabled r i q w st e).0 b.there;
    apart = rw (b.apart.replicas i) (made_flat i q (inc_generators i w (instance q (b.x.replica i))) b.x b.y b.apart);
  }

  clear_both : (i q : ℕ) → enabled r (clear i q) st ≡ true → Both r (stepped r (willing (clear i q)) st) (run r (times 1 (clear i q)) st')
  unfolding enabled after_accepted times run made_singly
  clear_both i q e = record {
    x = after_accepted r (clear i q) b.x;
    y = after_accepted r (clear i q) b.y;
    here = reached_done r b.x st (clear i q) e b.here;
    there = reached_done r b.y st' (clear i q) e b.there;
    apart = rw (b.apart.replicas i) (made_flat i q (reset_generator r (instance q (b.x.replica i)) ∷ []) b.x b.y b.apart);
  }

  deliver_both : (i s : ℕ) → enabled r (deliver i s) st ≡ true
      → Both r (stepped r (willing (deliver i s)) st) (run r (times (singles_in (get_or (st.log s) ((st.replica i).N s) no_message)) (deliver i s)) st')
  unfolding after_accepted its_message flat
  deliver_both i s e =
      let on = deliver_enabled r i s st e in
      let waits₁ : (st.replica i).N s < length (st.log s) = rw (own_N_is r 0 st (b.here.ledgers 0) (b.here.invariants 0) s) at on.waits in
      let m = get_or (st.log s) ((st.replica i).N s) no_message in
      let turn = link b.x st b.here.same i s on.apart waits₁ in
      let rest = map (lot_of s) (drop (suc ((st.replica i).N s)) (st.log s)) in
      rw (← (updates_length s m)) (record {
        x = handed i s b.x;
        y = handed_singly i s (length (updates_of s m)) b.y;
        here = reached_done r b.x st (deliver i s) e b.here;
        there = deliveries_reached r i s (counter_of m) (updates_of s m) (flat rest) b.y st' on.receiver on.sender on.apart (b.apart.queues s i ∙ ap flat turn) b.there;
        apart = handed_flat i s (counter_of m) (updates_of s m) rest b.x b.y turn b.apart;
      })

  step_both : (s : Step) → enabled r s st ≡ true → Both r (stepped r (willing s) st) (run r (single_steps s st) st')
  unfolding single_steps
  step_both (count i q w) e = count_both i q w e
  step_both (clear i q) e = clear_both i q e
  step_both (deliver i s) e = deliver_both i s e

  offer_both : (o : Offer) → Both r (stepped r o st) (run r (cond (accepted r o st) (single_steps o.step st) []) st')
  unfolding stepped run
  offer_both o =
      by_test (accepted r o st)
      (λ e. rw e (let on = and_right o.willing (enabled r o.step st) e in rw on at (step_both o.step on)))
      (λ e. rw e b)

run_both : (r : ℕ) (os : List Offer) (st st' : Chassis) → Both r st st' → Both r (run r os st) (run r (expanded r os st) st')
unfolding run expanded
run_both r [] st st' b = b
run_both r (o ∷ os) st st' b =
    rw (run_append r (cond (accepted r o st) (single_steps o.step st) []) (expanded r os (stepped r o st)) st')
    (run_both r os (stepped r o st) _ (offer_both r st st' b o))

fresh_both : (r : ℕ) → Both r fresh_chassis fresh_chassis
unfolding flat
fresh_both r =
    let begin : Reached r initial fresh_chassis = record { ledgers = λ q. empty_ledger; invariants = λ q. fresh_invariant r q; same = fresh_same } in
    record { x = initial; y = initial; here = begin; there = begin; apart = record { replicas = λ i. refl; queues = λ s i. refl } }

single_run : (r i : ℕ) (os : List Offer) → instances_of ((after_run r (in_single_steps r os)).replica i) ≡ instances_of ((after_run r os).replica i)
single_run r i os =
    let b = run_both r os fresh_chassis fresh_chassis (fresh_both r) in
    sym (b.there.same.replicas i) ∙ b.apart.replicas i ∙ b.here.same.replicas i

-- ---- the entries: a slot fixes a well-formed entry

slot_fixes : (e f : Entry) → Whole e → Whole f → slot_of e ≡ slot_of f → e ≡ f
slot_fixes e f k l h =
    entry_is e f
    (sym (slot_p e) ∙ ap (λ (m : Slot). p_of m) h ∙ slot_p f)
    (sym (slot_n e k) ∙ ap (λ (m : Slot). n_of m) h ∙ slot_n f l)
    (sym (slot_c e k) ∙ ap (λ (m : Slot). c_of m) h ∙ slot_c f l)

run_whole : (r q i j : ℕ) (os : List Offer) → Whole (((after_run r os).replica i).entry q j)
run_whole r q i j os =
    let a = well_formed r q (after_run r os) (ledger_after r q os) (run_invariant r q os) i j in
    well_formed_whole a.0 (((after_run r os).replica i).entry q j) a.1

pub single_entry : (r i q j : ℕ) (os : List Offer) → ((after_run r (in_single_steps r os)).replica i).entry q j ≡ ((after_run r os).replica i).entry q j
single_entry r i q j os =
    slot_fixes _ _ (run_whole r q i j (in_single_steps r os)) (run_whole r q i j os) (ap (λ (b : Instances). b.M q j) (single_run r i os))

pub single_C : (r i j : ℕ) (os : List Offer) → ((after_run r (in_single_steps r os)).replica i).C j ≡ ((after_run r os).replica i).C j
single_C r i j os = ap (λ (b : Instances). b.C j) (single_run r i os)
