-- LAWS. A run beside the run of q's own steps alone (`RunsBeside`): the invariant of both, their ledgers of q beside each other, and the logs of the
-- second, which are the messages of q in the first but for p and c. So an accepted step that belongs to q is accepted in both, and each other
-- step leaves the second as it is.
use Prim.Native.Nat.{ℕ, zero, suc, ◌+◌, ◌^◌, ◌≤◌}
use Rattle.std.specs.Prelude.{◌≡◌, Bool, false, not, ◌&&◌, eqb, ltb}
use Rattle.std.proofs.Math.Path.{refl, ap, ap₂}
use Rattle.std.proofs.Common.{sym, ◌∙◌, eqb-true}
use Rattle.std.proofs.Math.Bool.{true, cond}
use mathlib.Core.List.{List, [], ◌∷◌, ◌++◌, map, map-append, append-nil, append_assoc}
use native.Mathlib.Omega.{arith}
use Rattle.protocol.proofs.Cases.{by_place, by_test, and_yes, and_left, and_right}
use Rattle.protocol.proofs.Tables.{put, put_other, put_at, sum_cong, bits}
use Rattle.protocol.specs.Entry.{Entry, present}
use Rattle.protocol.specs.Ledger.{Step, count, clear, deliver, Ledger, empty_ledger, link_waits, after_accepted}
use Rattle.protocol.specs.Chassis.{Message, increment, clearing, Replica, count_message, present_entries, clear_message, read_value, read_holders, Chassis, fresh_chassis, issued, delivered, done, enabled, Offer, accepted, stepped, run, answers, counter_of}
use Rattle.protocol.proofs.Makers.{holds_is}
use Rattle.protocol.proofs.InvariantSteps.{Invariant}
use Rattle.protocol.proofs.Theorem.{fresh_invariant, value_is, count_counter, clear_counter, done_invariant}
use Rattle.protocol.proofs.Links.{deliver_enabled_is}
use Rattle.protocol.specs.Runs.{step_of, all_accepted}
use Rattle.protocol.specs.Alone.{Turns, no_turns, turned, turn_of, belongs_by_turns, own_steps, messages_of, outline, entry_outline, room}
use Rattle.protocol.proofs.AloneLedgers.{Beside, beside_empty, same_holds, same_value, own_waits, own_after_accepted, other_after_accepted}

-- ---- messages

messages_append : (q : ℕ) (ms : List Message) (m : Message) → messages_of q (ms ++ m ∷ []) ≡ messages_of q ms ++ cond (eqb (counter_of m) q) (m ∷ []) []
unfolding messages_of
messages_append q [] m = append-nil (cond (eqb (counter_of m) q) (m ∷ []) [])
messages_append q (n ∷ ms) m =
    ap (λ (rest : List Message). cond (eqb (counter_of n) q) (n ∷ []) [] ++ rest) (messages_append q ms m)
    ∙ sym (append_assoc (cond (eqb (counter_of n) q) (n ∷ []) []) (messages_of q ms) (cond (eqb (counter_of m) q) (m ∷ []) []))

-- what is sent, but for p and c, depends on which entries are present
entries_outline : (r : ℕ) (row row' : ℕ → Entry) → ((j : ℕ) → present (row' j) ≡ present (row j))
    → map entry_outline (present_entries r row') ≡ map entry_outline (present_entries r row)
unfolding present_entries
entries_outline zero row row' h = refl
entries_outline (suc r) row row' h =
    map-append entry_outline (present_entries r row') _
    ∙ ap₂ ◌++◌ (entries_outline r row row' h) (last (present (row' r)) (present (row r)) (h r))
    ∙ sym (map-append entry_outline (present_entries r row) _)
  where
    last : (t u : Bool) → t ≡ u
        → map entry_outline (cond t (record { card = r; p = (row' r).p; c = (row' r).c } ∷ []) [])
        ≡ map entry_outline (cond u (record { card = r; p = (row r).p; c = (row r).c } ∷ []) [])
    last true true e = refl
    last true false e = cc
    last false true e = cc
    last false false e = refl

module _ (q : ℕ) (b b' : Replica) (h : (j : ℕ) → present (b'.entry q j) ≡ present (b.entry q j)) where
  count_outline : (i w : ℕ) → outline (count_message i q w b') ≡ outline (count_message i q w b)
  unfolding count_message
  count_outline i w = ap (λ (t : Bool). increment q w 0 (not t)) (h i)

  clear_outline : (r : ℕ) → outline (clear_message r q b') ≡ outline (clear_message r q b)
  unfolding clear_message
  clear_outline r = ap (clearing q) (entries_outline r (b.entry q) (b'.entry q) h)

-- ---- two runs

pub record RunsBeside (r q : ℕ) (turns : Turns) (st : Chassis) (l : Ledger) (st' : Chassis) (l' : Ledger) : Type 0 where
  pub ok : Invariant r q st l
  pub ok' : Invariant r q st' l'
  pub ledgers : Beside q turns l l'
  pub logs : (i : ℕ) → map outline (st'.log i) ≡ map outline (messages_of q (st.log i))

module _ (r q : ℕ) (turns : Turns) (st : Chassis) (l : Ledger) (st' : Chassis) (l' : Ledger) (h : RunsBeside r q turns st l st' l') where
  -- every card reads the same of q
  pub same_present : (i j : ℕ) → present ((st'.replica i).entry q j) ≡ present ((st.replica i).entry q j)
  same_present i j =
      sym (holds_is q h.ok'.notes h.ok'.valid i (h.ok'.row i) (st'.replica i) l' (h.ok'.cards i) j)
      ∙ same_holds l l' h.ledgers.sets i j
      ∙ holds_is q h.ok.notes h.ok.valid i (h.ok.row i) (st.replica i) l (h.ok.cards i) j

  pub same_read_value : (i : ℕ) → read_value r q (st'.replica i) ≡ read_value r q (st.replica i)
  same_read_value i = value_is r q st' l' h.ok' i ∙ same_value l l' h.ledgers.sets i ∙ sym (value_is r q st l h.ok i)

  pub same_read_holders : (i : ℕ) → read_holders r q (st'.replica i) ≡ read_holders r q (st.replica i)
  unfolding read_holders bits
  same_read_holders i = sum_cong r _ _ (λ j below. ap (λ (t : Bool). cond t (2 ^ j) 0) (same_present i j))

  -- a step that belongs to q is enabled here and there
  link_enabled : (i s : ℕ) → turn_of q (turns s i) ≡ true → enabled r (deliver i s) st ≡ true → enabled r (deliver i s) st' ≡ true
  link_enabled i s e on =
      let on₁ : ltb i r && (ltb s r && (not (eqb i s) && link_waits i s l)) ≡ true = sym (deliver_enabled_is r q st l h.ok i s) ∙ on in
      let on₂ = and_right (ltb i r) _ on₁ in
      let on₃ = and_right (ltb s r) _ on₂ in
      deliver_enabled_is r q st' l' h.ok' i s
      ∙ and_yes (ltb i r) _ (and_left (ltb i r) _ on₁)
      (and_yes (ltb s r) _ (and_left (ltb s r) _ on₂)
      (and_yes (not (eqb i s)) _ (and_left (not (eqb i s)) _ on₃)
      (rw (h.ledgers.queues s i) (own_waits q (turns s i) (l.queue s i) (h.ledgers.lined s i) e))))

  pub own_enabled : (s : Step) → belongs_by_turns q s turns ≡ true → enabled r s st ≡ true → enabled r s st' ≡ true
  unfolding belongs_by_turns enabled
  own_enabled (count i k w) e on = on
  own_enabled (clear i k) e on = on
  own_enabled (deliver i s) e on = link_enabled i s e on

  -- the logs
  logs_own : (i : ℕ) (m m' : Message) → outline m' ≡ outline m → eqb (counter_of m) q ≡ true
      → (j : ℕ) → map outline (put i (st'.log i ++ m' ∷ []) st'.log j) ≡ map outline (messages_of q (put i (st.log i ++ m ∷ []) st.log j))
  logs_own i m m' e c j =
      by_place j i
      (λ f. rw (
        put_at i (st'.log i ++ m' ∷ []) st'.log j f,
        put_at i (st.log i ++ m ∷ []) st.log j f,
        messages_append q (st.log i) m,
        c,
        map-append outline (st'.log i) (m' ∷ []),
        map-append outline (messages_of q (st.log i)) (m ∷ []),
        h.logs i,
        e,
      ))
      (λ d. simp put_other (h.logs j))

  logs_other : (i : ℕ) (m : Message) → eqb (counter_of m) q ≡ false
      → (j : ℕ) → map outline (st'.log j) ≡ map outline (messages_of q (put i (st.log i ++ m ∷ []) st.log j))
  logs_other i m c j =
      by_place j i
      (λ f. rw (put_at i (st.log i ++ m ∷ []) st.log j f, messages_append q (st.log i) m, c, append-nil (messages_of q (st.log i)), f) (h.logs i))
      (λ d. rw put_other (h.logs j))

  logs_done : (s : Step) → belongs_by_turns q s turns ≡ true → (j : ℕ) → map outline ((done r s st').log j) ≡ map outline (messages_of q ((done r s st).log j))
  unfolding belongs_by_turns done issued delivered
  logs_done (count i k w) e j = logs_own i _ _ (rw (eqb-true k q e) (count_outline q (st.replica i) (st'.replica i) (same_present i) i w)) (rw (count_counter i k w (st.replica i)) e) j
  logs_done (clear i k) e j = logs_own i _ _ (rw (eqb-true k q e) (clear_outline q (st.replica i) (st'.replica i) (same_present i) r)) (rw (clear_counter r k (st.replica i)) e) j
  logs_done (deliver i s) e j = h.logs j

  logs_left : (s : Step) → belongs_by_turns q s turns ≡ false → (j : ℕ) → map outline (st'.log j) ≡ map outline (messages_of q ((done r s st).log j))
  unfolding belongs_by_turns done issued delivered
  logs_left (count i k w) e j = logs_other i _ (rw (count_counter i k w (st.replica i)) e) j
  logs_left (clear i k) e j = logs_other i _ (rw (clear_counter r k (st.replica i)) e) j
  logs_left (deliver i s) e j = h.logs j

  -- an accepted step
  pub own_done : (s : Step) → belongs_by_turns q s turns ≡ true → enabled r s st ≡ true
      → RunsBeside r q (turned s turns) (done r s st) (after_accepted r q s l) (done r s st') (after_accepted r q s l')
  own_done s e on = record {
    ok = done_invariant r q st l h.ok s on;
    ok' = done_invariant r q st' l' h.ok' s (own_enabled s e on);
    ledgers = own_after_accepted r q turns l l' h.ledgers s e;
    logs = logs_done s e;
  }

  pub other_done : (s : Step) → belongs_by_turns q s turns ≡ false → enabled r s st ≡ true → RunsBeside r q (turned s turns) (done r s st) (after_accepted r q s l) st' l'
  other_done s e on = record {
    ok = done_invariant r q st l h.ok s on;
    ok' = h.ok';
    ledgers = other_after_accepted r q turns l l' h.ledgers s e;
    logs = logs_left s e;
  }

-- ---- a list of steps

-- two runs that stand beside each other, for some counters waiting and some ledgers
pub record SomeBeside (r q : ℕ) (st st' : Chassis) : Type 0 where
  pub turns : Turns
  pub l : Ledger
  pub l' : Ledger
  pub beside : RunsBeside r q turns st l st' l'

-- q's own steps of a list of offers, in a run from st on
abbrev pub own_offers : ℕ → ℕ → List Offer → Chassis → Turns → List Offer
own_offers r q os st turns = own_steps step_of q os (answers r os st) turns

pub record RunAlone (r q : ℕ) (os : List Offer) (st : Chassis) (own : List Offer) (st' : Chassis) : Type 0 where
  pub accepts : answers r own st' ≡ all_accepted own
  pub ends : SomeBeside r q (run r os st) (run r own st')

module _ (r q : ℕ) (o : Offer) (os : List Offer) (st st₁ : Chassis) (own : List Offer) (st' : Chassis) (next : stepped r o st ≡ st₁) where
  -- the step is made in the first run alone; in both
  one_more : RunAlone r q os st₁ own st' → RunAlone r q (o ∷ os) st own st'
  unfolding run
  one_more k = record { accepts = k.accepts; ends = rw next k.ends }

  both_more : accepted r o st' ≡ true → RunAlone r q os st₁ own (done r o.step st') → RunAlone r q (o ∷ os) st (o ∷ own) st'
  unfolding run answers stepped
  both_more on k = record { accepts = rw on (ap (λ (fs : List Bool). true ∷ fs) k.accepts); ends = rw (on, next) k.ends }

-- of any two runs beside each other, whatever waits
abbrev OwnRun : ℕ → ℕ → List Offer → Type 0
OwnRun r q os =
    (turns : Turns) (st : Chassis) (l : Ledger) (st' : Chassis) (l' : Ledger) → RunsBeside r q turns st l st' l'
    → RunAlone r q os st (own_offers r q os st turns) st'

own_step : (r q : ℕ) (o : Offer) (os : List Offer) → OwnRun r q os → OwnRun r q (o ∷ os)
unfolding answers own_steps stepped
own_step r q o os rest turns st l st' l' h =
    by_test (accepted r o st)
    (λ a.
    let will = and_left o.willing (enabled r o.step st) a in
    let on = and_right o.willing (enabled r o.step st) a in
    by_test (belongs_by_turns q o.step turns)
    (λ e. rw (a, e)
    (both_more r q o os st (done r o.step st) _ st' (rw a) (and_yes o.willing _ will (own_enabled r q turns st l st' l' h o.step e on))
    (rest _ _ _ _ _ (own_done r q turns st l st' l' h o.step e on))))
    (λ e. rw (a, e)
    (one_more r q o os st (done r o.step st) _ st' (rw a)
    (rest _ _ _ _ _ (other_done r q turns st l st' l' h o.step e on)))))
    (λ a. rw a (one_more r q o os st st _ st' (rw a) (rest turns st l st' l' h)))

pub own_run : (r q : ℕ) (os : List Offer) → OwnRun r q os
unfolding run answers own_steps
own_run r q [] = λ turns st l st' l' h. record { accepts = refl; ends = record { turns = turns; l = l; l' = l'; beside = h } }
own_run r q (o ∷ os) = own_step r q o os (own_run r q os)

pub fresh_beside : (r q : ℕ) → RunsBeside r q no_turns fresh_chassis empty_ledger fresh_chassis empty_ledger
unfolding messages_of
fresh_beside r q = record { ok = fresh_invariant r q; ok' = fresh_invariant r q; ledgers = beside_empty q; logs = λ i. refl }

-- ---- the room that logs take

module _ (size : Message → ℕ) (same : (m : Message) → size (outline m) ≡ size m) where
  room_outline : (ms : List Message) → room size (map outline ms) ≡ room size ms
  unfolding room
  room_outline [] = refl
  room_outline (m ∷ ms) = ap₂ ◌+◌ (same m) (room_outline ms)

  room_of_own : (q : ℕ) (ms : List Message) → room size (messages_of q ms) ≤ room size ms
  unfolding room messages_of
  room_of_own q [] = omega arith
  room_of_own q (m ∷ ms) =
      let rest = room_of_own q ms in
      by_test (eqb (counter_of m) q) (λ e. rw e (omega arith)) (λ e. rw e (omega arith))

  pub room_within : (q : ℕ) (ms ms' : List Message) → map outline ms' ≡ map outline (messages_of q ms) → room size ms' ≤ room size ms
  room_within q ms ms' e =
      let own = room_of_own q ms in
      let a = room_outline ms' in
      let b = room_outline (messages_of q ms) in
      let c = ap (room size) e in
      omega arith
