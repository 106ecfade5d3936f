-- LAWS. Algorithm 1 over a list of steps (`InARow`) and the chassis after the same list are the same, replica by replica: what a card takes is what
-- the effectors of the message's updates do (`message-effectors`), and a link's queue has the updates of the messages that wait (`Same`).
use Rattle.std.specs.Prelude.{ℕ, zero, suc, ◌-◌, ◌≤◌, ◌<◌, ◌≡◌, Bool, true, false, cond, ltb, drop}
use Rattle.std.proofs.Math.Path.{refl, ap, fun_ext}
use Rattle.std.proofs.Common.{sym, ap₂, ◌∙◌, inl, arith, drop-cons}
use mathlib.Core.List.{List, [], ◌∷◌, ◌++◌, map, map-append}
use Rattle.std.proofs.Math.ListN.{length, get_or, get_or-map}
use Rattle.std.proofs.lemmas.List.{drop-append-le}
use borrow.Author.Tests.{ltb-true}
use Rattle.protocol.proofs.Cases.{by_test, by_place, and_right}
use Rattle.protocol.proofs.Tables.{put, put_same, put_at, put_other, put_same_row, put_other_row, put_cases}
use Rattle.protocol.proofs.Lists.{places_more}
use Rattle.protocol.specs.Entry.{Entry, present, count_starts}
use Rattle.protocol.proofs.Marks.{Before, Follows, after_increment}
use Rattle.protocol.specs.Ledger as ledger
use Rattle.protocol.specs.Ledger.{Ledger, Step, count, clear, deliver, empty_ledger}
use Rattle.protocol.specs.Chassis.{ClearEntry, Message, increment, clearing, no_message, Replica, taken, count_message, present_entries, clear_message, Chassis, fresh_chassis, issued, delivered, done, enabled, Offer, accepted, stepped, run, answers, counter_of}
use Rattle.protocol.proofs.Chain as chain
use Rattle.protocol.proofs.Chain.{Note, no_note, inc, clr, wire, after, mark_proper, mark_suc, note_ok}
use Rattle.protocol.proofs.Pairs.{placed, chain_proper, chain_before_end}
use Rattle.protocol.proofs.Cards.{seen}
use Rattle.protocol.proofs.Makers.{count_in_order}
use Rattle.protocol.proofs.InvariantSteps.{Invariant, taken_N}
use Rattle.protocol.proofs.Theorem.{fresh_invariant, step_invariant, run_invariant}
use Rattle.protocol.proofs.Links.{own_N_is}
use Rattle.protocol.proofs.Refusals.{received_within}
use Rattle.protocol.specs.Runs.{step_of, after_run, ledger_after}
use Rattle.protocol.proofs.EntryLaws.{Placed}
use Rattle.protocol.specs.Algorithm1.{Slot, State, Update, reset_generator, effector, slot_of, state_of, SomeUnits}
use Rattle.protocol.proofs.Algorithm1Laws.{reset_message_agrees, reset_effector_agrees, reset_effector_C}
use Rattle.protocol.specs.InARow.{effectors, inc_generators, Instances, instance, Lot, effected, System, initial, made, next_lot, rest_lots, handed, after_accepted, after_step, after_steps, algorithm_1_after, instances_of, singles, updates_of}
use Rattle.protocol.proofs.InARowLaws.{state_is, EntriesWellFormed, Against, against_well_formed, effectors_are, generators_are}
use Rattle.protocol.proofs.Enabled.{count_enabled, deliver_enabled}

-- a clear's entries have "1 <= p"
abbrev pub Proper_entries : Message → Type 0
Proper_entries (increment q w p start) = Unit {0}
Proper_entries (clearing q ts) = SomeUnits ts

module _ (r q : ℕ) (st : Chassis) (l : Ledger) (k : Invariant r q st l) where
  against : (i s : ℕ) → Against (seen k.notes (st.replica i) s) (k.row i s) ((st.replica i).C s) ((st.replica i).entry q s)
  against i s =
      let p = (k.cards i).pairs s in
      record {
        proper = mark_proper q s (k.notes s) (k.valid s) ((st.replica i).N s);
        proper_cancelled = chain_proper q s (k.notes s) (k.valid s) (k.row i s) p.chain;
        known_is = p.C_is;
        entry = p.entry;
      }

  pub well_formed : (i : ℕ) → EntriesWellFormed q (st.replica i)
  well_formed i j = (_, against_well_formed _ _ _ _ (against i j))

  -- an increment by w that follows what is received, where what is cancelled lies within that or past the increment too
  increment_effectors : (i s w p : ℕ) (start : Bool) → Follows (seen k.notes (st.replica i) s) w p start
      → Placed (seen k.notes (st.replica i) s) (after_increment w p start (seen k.notes (st.replica i) s)) (k.row i s)
      → effectors (updates_of s (increment q w p start)) (state_of q (st.replica i)) ≡ state_of q (taken s (increment q w p start) (st.replica i))
  increment_effectors i s zero p start f pl = absurd (omega (arith, f.some_units))
  increment_effectors i s (suc w) p start f pl =
      let e = f.rule in
      effectors_are w s q (suc (p - suc w)) p start (st.replica i) _ _ (omega arith) (well_formed i) (against i s)
      (record { some_units = omega arith; rule = omega arith; goes_on = f.goes_on }) pl

  clear_effectors : (i s : ℕ) (ts : List ClearEntry) → SomeUnits ts
      → effectors (updates_of s (clearing q ts)) (state_of q (st.replica i)) ≡ state_of q (taken s (clearing q ts) (st.replica i))
  unfolding effectors effector
  clear_effectors i s ts some =
      state_is _ _ (λ j. reset_effector_C s q ts (st.replica i) j)
      (λ j. let a = well_formed i j in reset_effector_agrees a.0 s q ts (st.replica i) j some a.1)

  -- ---- the message that waits for i on the link from s

  note_effectors : (i s : ℕ) → (st.replica i).N s < length (k.notes s) → (t : Note) → get_or (k.notes s) ((st.replica i).N s) no_note ≡ t
      → counter_of (wire q t) ≡ q → Proper_entries (wire q t)
      → effectors (updates_of s (wire q t)) (state_of q (st.replica i)) ≡ state_of q (taken s (wire q t) (st.replica i))
  note_effectors i s waits (chain.other m) e c some = absurd ((rw e at (note_ok q s (k.notes s) (k.valid s) ((st.replica i).N s) waits)) c)
  note_effectors i s waits (inc w p start) e c some =
      increment_effectors i s w p start
      (rw e at (note_ok q s (k.notes s) (k.valid s) ((st.replica i).N s) waits))
      (placed q s (k.notes s) (k.valid s) _ _ (k.row i s) _ ((k.cards i).pairs s) waits _
      (mark_suc ((st.replica i).N s) (k.notes s) waits ∙ ap (λ (u : Note). after u (seen k.notes (st.replica i) s)) e))
  note_effectors i s waits (clr ts) e c some = clear_effectors i s _ some

  pub waiting_effectors : (i s : ℕ) → (st.replica i).N s < (st.replica s).N s → (m : Message) → get_or (st.log s) ((st.replica i).N s) no_message ≡ m
      → counter_of m ≡ q → Proper_entries m
      → effectors (updates_of s m) (state_of q (st.replica i)) ≡ state_of q (taken s m (st.replica i))
  waiting_effectors i s waits m e =
      let t : get_or (st.log s) ((st.replica i).N s) no_message ≡ wire q (get_or (k.notes s) ((st.replica i).N s) no_note)
      = rw (k.logs s) (get_or-map (wire q) (k.notes s) ((st.replica i).N s) no_note) in
      rw (sym e ∙ t) (note_effectors i s (rw (← (k.own s)) waits) (get_or (k.notes s) ((st.replica i).N s) no_note) refl)

  -- ---- the makers

  own_before : (i : ℕ) → Before (k.row i i) (seen k.notes (st.replica i) i)
  own_before i = rw (k.own i) (chain_before_end q i (k.notes i) (k.valid i) (k.row i i) ((k.cards i).pairs i).chain)

  pub count_generators : (i w : ℕ) → inc_generators i w (state_of q (st.replica i)) ≡ updates_of i (count_message i q w (st.replica i))
  unfolding count_message
  count_generators i w =
      generators_are w i q (st.replica i) _ _ (well_formed i) (against i i) (own_before i)
      ∙ ap (λ (p : ℕ). singles i w p (count_starts ((st.replica i).entry q i))) (omega arith)

  pub count_effectors : (i w : ℕ) → 0 < w
      → effectors (updates_of i (count_message i q w (st.replica i))) (state_of q (st.replica i)) ≡ state_of q (taken i (count_message i q w (st.replica i)) (st.replica i))
  unfolding count_message
  count_effectors i w some =
      increment_effectors i i w _ _ (count_in_order q k.notes k.valid i (k.row i) (st.replica i) l (k.cards i) (k.own i) w some) (inl (own_before i))

-- ---- what a clear sends has "1 <= p"

some_append : (ts us : List ClearEntry) → SomeUnits ts → SomeUnits us → SomeUnits (ts ++ us)
some_append [] us a b = b
some_append (t ∷ ts) us a b = (a.0, some_append ts us a.1 b)

some_units : (r : ℕ) (row : ℕ → Entry) → SomeUnits (present_entries r row)
unfolding present_entries
some_units zero row = tt
some_units (suc r) row = some_append (present_entries r row) _ (some_units r row) (one (present (row r)) (λ y. ltb-true 0 (row r).p y))
  where
    one : (t : Bool) → (t ≡ true → 0 < (row r).p) → SomeUnits (cond t (record { card = r; p = (row r).p; c = (row r).c } ∷ []) [])
    one true h = (h refl, tt)
    one false h = tt

-- ---- a replica takes a message

abbrev pub lot_of : ℕ → Message → Lot
lot_of s m = record { counter = counter_of m; updates = updates_of s m }

pub instances_are : (x y : Instances) → ((j : ℕ) → x.C j ≡ y.C j) → ((q j : ℕ) → x.M q j ≡ y.M q j) → x ≡ y
instances_are x y c m = ap₂ (λ (C : ℕ → ℕ) (M : ℕ → ℕ → Slot). record { C = C; M = M }) (fun_ext c) (fun_ext (λ q. fun_ext (m q)))

taken_elsewhere : (s : ℕ) (m : Message) (b : Replica) (q j : ℕ) → (q ≡ counter_of m → ⊥) → (taken s m b).entry q j ≡ b.entry q j
unfolding taken
taken_elsewhere s (increment k w p start) b q j d = rw put_other_row
taken_elsewhere s (clearing k ts) b q j d = rw put_other_row

effected_is : (s : ℕ) (m : Message) (b : Replica)
    → effectors (updates_of s m) (state_of (counter_of m) b) ≡ state_of (counter_of m) (taken s m b)
    → effected (lot_of s m) (instances_of b) ≡ instances_of (taken s m b)
unfolding effected
effected_is s m b h =
    instances_are _ _ (λ j. ap (λ (st : State). st.C j) h)
    (λ q j. by_place q (counter_of m)
    (λ e. rw e (rw put_same_row (ap (λ (st : State). st.M j) h)))
    (λ d. rw put_other_row (ap slot_of (sym (taken_elsewhere s m b q j d)))))

-- ---- Algorithm 1 and a chassis

pub record Same (x : System) (st : Chassis) : Type 0 where
  pub replicas : (i : ℕ) → x.replica i ≡ instances_of (st.replica i)
  pub queues : (s i : ℕ) → (i ≡ s → ⊥) → x.queue s i ≡ map (lot_of s) (drop ((st.replica i).N s) (st.log s))
  pub entries : (j n : ℕ) → n < length (st.log j) → Proper_entries (get_or (st.log j) n no_message)

pub fresh_same : Same initial fresh_chassis
fresh_same = record { replicas = λ i. refl; queues = λ s i d. refl; entries = λ j n l. absurd (omega arith) }

module _ (x : System) (st : Chassis) (k : Same x st) where
  -- a card makes a message and takes it
  module _ (i : ℕ) (m : Message) (within : (j : ℕ) → (st.replica j).N i ≤ length (st.log i)) (some : Proper_entries m)
      (h : effectors (updates_of i m) (state_of (counter_of m) (st.replica i)) ≡ state_of (counter_of m) (taken i m (st.replica i))) where
    replicas⁺ : (j : ℕ) → put i (effected (lot_of i m) (x.replica i)) x.replica j ≡ instances_of (put i (taken i m (st.replica i)) st.replica j)
    replicas⁺ j =
        by_place j i
        (λ e. simp put_at (rw (k.replicas i) (effected_is i m (st.replica i) h)))
        (λ d. simp put_other (k.replicas j))

    queues⁺ : (s j : ℕ) → (j ≡ s → ⊥)
        → put i (λ n. x.queue i n ++ lot_of i m ∷ []) x.queue s j
        ≡ map (lot_of s) (drop ((put i (taken i m (st.replica i)) st.replica j).N s) (put i (st.log i ++ m ∷ []) st.log s))
    queues⁺ s j apart =
        by_place s i
        (λ e. by_place j i
        (λ f. absurd (apart (f ∙ sym e)))
        (λ f. rw e (simp (put_same_row, put_same, put_other, k.queues i j f, drop-append-le ((st.replica j).N i) (st.log i) (m ∷ []) (within j))
        (sym (map-append (lot_of i) (drop ((st.replica j).N i) (st.log i)) (m ∷ []))))))
        (λ d. by_place j i
        (λ f. simp (put_other_row, put_at, taken_N, put_other) (rw (← f) (k.queues s j apart)))
        (λ f. simp (put_other_row, put_other) (k.queues s j apart)))

    entries⁺ : (j n : ℕ) → n < length (put i (st.log i ++ m ∷ []) st.log j) → Proper_entries (get_or (put i (st.log i ++ m ∷ []) st.log j) n no_message)
    entries⁺ j =
        put_cases (λ (ms : List Message). (n : ℕ) → n < length ms → Proper_entries (get_or ms n no_message)) i (st.log i ++ m ∷ []) st.log j
        (λ e. places_more Proper_entries no_message (st.log i) m (k.entries i) some)
        (λ d. k.entries j)

    made_here : Same (made i (lot_of i m) x) (issued i m st)
    unfolding made issued
    made_here = record { replicas = replicas⁺; queues = queues⁺; entries = entries⁺ }

    made_same : (lot : Lot) → lot ≡ lot_of i m → Same (made i lot x) (issued i m st)
    made_same lot e = rw e made_here

  -- a card takes the next message of another card
  module _ (i s : ℕ) (apart : i ≡ s → ⊥) (waits : (st.replica i).N s < length (st.log s)) where
    unfoldable pub its_message : Message
    its_message = get_or (st.log s) ((st.replica i).N s) no_message

    pub link : x.queue s i ≡ lot_of s its_message ∷ map (lot_of s) (drop (suc ((st.replica i).N s)) (st.log s))
    unfolding its_message
    link = k.queues s i apart ∙ ap (map (lot_of s)) (drop-cons (st.log s) ((st.replica i).N s) no_message waits)

    its_lot : next_lot (x.queue s i) ≡ lot_of s its_message
    unfolding next_lot
    its_lot = ap next_lot link

    its_rest : rest_lots (x.queue s i) ≡ map (lot_of s) (drop (suc ((st.replica i).N s)) (st.log s))
    unfolding rest_lots
    its_rest = ap rest_lots link

    module _ (h : effectors (updates_of s its_message) (state_of (counter_of its_message) (st.replica i)) ≡ state_of (counter_of its_message) (taken s its_message (st.replica i))) where
      replicas' : (j : ℕ) → put i (effected (next_lot (x.queue s i)) (x.replica i)) x.replica j ≡ instances_of (put i (taken s its_message (st.replica i)) st.replica j)
      replicas' j =
          by_place j i
          (λ e. simp put_at (rw (its_lot, k.replicas i) (effected_is s its_message (st.replica i) h)))
          (λ d. simp put_other (k.replicas j))

      queues' : (o j : ℕ) → (j ≡ o → ⊥)
          → put s (put i (rest_lots (x.queue s i)) (x.queue s)) x.queue o j
          ≡ map (lot_of o) (drop ((put i (taken s its_message (st.replica i)) st.replica j).N o) (st.log o))
      queues' o j far =
          by_place o s
          (λ e. by_place j i
          (λ f. rw (e, f) (simp (put_same_row, put_same, taken_N) its_rest))
          (λ f. rw e (simp (put_same_row, put_other) (k.queues s j (λ c. far (c ∙ sym e))))))
          (λ d. by_place j i
          (λ f. rw f (simp (put_other_row, put_same, taken_N, put_other) (k.queues o i (λ c. far (f ∙ c)))))
          (λ f. simp (put_other_row, put_other) (k.queues o j far)))

      handed_here : Same (handed i s x) (delivered i s st)
      unfolding handed delivered its_message
      handed_here = record { replicas = replicas'; queues = queues'; entries = k.entries }

-- ---- a step, with the invariant of every counter

module _ (r : ℕ) (x : System) (st : Chassis) (l : ℕ → Ledger) (ok : (q : ℕ) → Invariant r q st (l q)) (k : Same x st) where
  within_log : (i j : ℕ) → (st.replica j).N i ≤ length (st.log i)
  within_log i j = rw (← (own_N_is r 0 st (l 0) (ok 0) i)) (received_within r 0 st (l 0) (ok 0) j i).1

  count_same : (i q w : ℕ) → 0 < w → Same (after_accepted r (count i q w) x) (issued i (count_message i q w (st.replica i)) st)
  unfolding after_accepted count_message
  count_same i q w some =
      made_same x st k i (count_message i q w (st.replica i)) (within_log i) tt (count_effectors r q st (l q) (ok q) i w some) _
      (ap (λ (us : List Update). record { counter = q; updates = us })
      (ap (λ (b : Instances). inc_generators i w (instance q b)) (k.replicas i) ∙ count_generators r q st (l q) (ok q) i w))

  clear_same : (i q : ℕ) → Same (after_accepted r (clear i q) x) (issued i (clear_message r q (st.replica i)) st)
  unfolding after_accepted clear_message reset_generator
  clear_same i q =
      let some = some_units r ((st.replica i).entry q) in
      made_same x st k i (clear_message r q (st.replica i)) (within_log i) some (clear_effectors r q st (l q) (ok q) i i _ some) _
      (ap (λ (b : Instances). record { counter = q; updates = reset_generator r (instance q b) ∷ [] }) (k.replicas i)
      ∙ ap (lot_of i) (reset_message_agrees r q (st.replica i)))

  deliver_same : (i s : ℕ) → (i ≡ s → ⊥) → (st.replica i).N s < (st.replica s).N s → Same (after_accepted r (deliver i s) x) (delivered i s st)
  unfolding after_accepted its_message
  deliver_same i s apart waits =
      let m = get_or (st.log s) ((st.replica i).N s) no_message in
      let q = counter_of m in
      let waits₁ : (st.replica i).N s < length (st.log s) = rw (own_N_is r 0 st (l 0) (ok 0) s) at waits in
      handed_here x st k i s apart waits₁ (waiting_effectors r q st (l q) (ok q) i s waits m refl refl (k.entries s ((st.replica i).N s) waits₁))

  done_same : (s : Step) → enabled r s st ≡ true → Same (after_accepted r s x) (done r s st)
  unfolding done
  done_same (count i q w) e = count_same i q w (count_enabled r i q w st e).1
  done_same (clear i q) e = clear_same i q
  done_same (deliver i s) e = let on = deliver_enabled r i s st e in deliver_same i s on.apart on.waits

  pub step_same : (o : Offer) → Same (after_step r o.step (accepted r o st) x) (stepped r o st)
  unfolding after_step stepped
  step_same o =
      by_test (accepted r o st)
      (λ e. rw e (done_same o.step (and_right o.willing (enabled r o.step st) e)))
      (λ e. rw e k)

-- ---- a list of steps

run_same : (r : ℕ) (os : List Offer) (x : System) (st : Chassis) (l : ℕ → Ledger) → ((q : ℕ) → Invariant r q st (l q)) → Same x st
    → Same (after_steps r (map step_of os) (answers r os st) x) (run r os st)
unfolding after_steps answers run
run_same r [] x st l ok k = k
run_same r (o ∷ os) x st l ok k =
    run_same r os _ _ (λ q. ledger.after_step r q o.step (accepted r o st) (l q)) (λ q. step_invariant r q o st (l q) (ok q)) (step_same r x st l ok k o)

pub after_same : (r : ℕ) (os : List Offer) → Same (algorithm_1_after r os) (after_run r os)
after_same r os = run_same r os initial fresh_chassis (λ q. empty_ledger) (λ q. fresh_invariant r q) fresh_same

-- ---- step by step

module _ (r q : ℕ) (st : Chassis) (l : Ledger) (k : Invariant r q st l) where
  pub count_leaves : (i w : ℕ) → enabled r (count i q w) st ≡ true
      → state_of q ((done r (count i q w) st).replica i) ≡ effectors (inc_generators i w (state_of q (st.replica i))) (state_of q (st.replica i))
  unfolding enabled done issued
  count_leaves i w e =
      let some = ltb-true 0 w (and_right (ltb i r) (ltb 0 w) e) in
      rw (put_same i (taken i (count_message i q w (st.replica i)) (st.replica i)) st.replica, count_generators r q st l k i w)
      (sym (count_effectors r q st l k i w some))

pub deliver_leaves : (r i s : ℕ) (os : List Offer) → enabled r (deliver i s) (after_run r os) ≡ true
    → (m : Message) → get_or ((after_run r os).log s) (((after_run r os).replica i).N s) no_message ≡ m
    → state_of (counter_of m) ((done r (deliver i s) (after_run r os)).replica i) ≡ effectors (updates_of s m) (state_of (counter_of m) ((after_run r os).replica i))
unfolding enabled done delivered
deliver_leaves r i s os e m f =
    let st = after_run r os in
    let q = counter_of m in
    let k = run_invariant r q os in
    let l = ledger_after r q os in
    let waits = (deliver_enabled r i s st e).waits in
    let waits₁ : (st.replica i).N s < length (st.log s) = rw (own_N_is r q st l k s) at waits in
    let some : Proper_entries m = rw f at ((after_same r os).entries s ((st.replica i).N s) waits₁) in
    rw (put_same i (taken s (get_or (st.log s) ((st.replica i).N s) no_message) (st.replica i)) st.replica, f)
    (sym (waiting_effectors r q st l k i s waits m f refl some))
