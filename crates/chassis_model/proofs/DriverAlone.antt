-- LAWS. A driver's history beside the history of counter q's own calls alone (`replayed`). Both match the theory's chassis (`DriverMatches`), and those stand beside
-- each other (`RunsBeside` of protocol). So a call of q that the first accepts is accepted in the second: less was made there, a clear has as many entries, and
-- the message that is due is taken.
use Rattle.std.specs.Prelude.{ℕ, ◌+◌, ◌≤◌, ◌<◌, ◌≡◌, true, leb}
use Rattle.std.proofs.Math.Path.{refl, sym, ap, ap₂}
use Rattle.std.proofs.Common.{◌∙◌}
use Rattle.std.proofs.lemmas.Bool.{false≢true}
use mathlib.Core.List.{List, [], ◌∷◌, map}
use native.Mathlib.Omega.{arith}
use Rattle.std.proofs.Math.ListN.{length, get_or}
use borrow.Author.Tests.{ltb-true, eq-eqb, ne_eqb, eqb-true}
use Rattle.protocol.proofs.Cases.{by_place, by_test}
use Rattle.protocol.specs.Limits.{short_output}
use Rattle.protocol.specs.Checks.{or_else}
use Rattle.protocol.proofs.ChecksLaws.{first_passes, all_accepts, all_first, all_second, all_append}
use Rattle.protocol.specs.Ledger as ledger
use Rattle.protocol.specs.Ledger.{after_accepted}
use Rattle.protocol.specs.Chassis.{done}
use Rattle.protocol.proofs.Enabled.{deliver_enabled}
use Rattle.protocol.specs.Alone as queues
use Rattle.protocol.specs.Alone.{Turns, no_turns, belongs_by_turns}
use Rattle.protocol.proofs.AloneRuns.{fresh_beside, own_enabled, own_done, other_done}
use Rattle.wire.specs.Message.{version_2, message_at}
use Rattle.replica_model.specs.Layout.{C_of, N_of}
use Rattle.replica_model.specs.Calls.{sizes_in_range, left_checks, read_on}
use Rattle.replica_model.proofs.RowLaws.{sizes}
use Rattle.chassis_model.specs.Run.{Making, Make, counted}
use Rattle.chassis_model.specs.Answers.{message_size}
use Rattle.chassis_model.specs.Driver.{Call, make, take, Cards, opened, called, number_of, value_of, GenuineCall, Genuine, after, numbers, values, cards_after, GenuineHistory, call_step, number_checks, due_number}
use Rattle.chassis_model.specs.Alone.{own_calls, own_call_values, again, replayed}
use Rattle.chassis_model.proofs.AloneQueues.{queued_calls, queued_calls_from, own_calls_from_is, own_calls_are}
use Rattle.chassis_model.proofs.InStep.{reached_N, made_all}
use Rattle.chassis_model.proofs.Makings.{making_belongs}
use Rattle.chassis_model.proofs.AloneLaws.{same_size, same_asked, CardsBeside, same_reads_beside, more_left}
use Rattle.chassis_model.proofs.DriverMatches.{DriverMatches, DriverAt, driver_at, driver_cards, opened_matches, take_cases}
use Rattle.chassis_model.proofs.DriverSteps.{number_distinct, call_number, call_value, accepted_enabled, accepted_leaves, declined_leaves}
use Rattle.chassis_model.proofs.DriverResends.{written_length, written_in_order, written_by_sender}

-- ---- a call of q that the first history accepts, again in the second

record Again (r : ℕ) (c : Call) (st' : Cards) : Type 0 where
  number : number_of (again r c st') st' ≡ 0
  genuine : GenuineCall (again r c st') st'
  step : call_step (again r c st') ≡ call_step c

module _ {r k : ℕ} (q : ℕ) (turns : Turns) (now alone : DriverAt r k) (b : CardsBeside q turns (driver_cards now) (driver_cards alone)) where
  make_again : (m : Making) (i c : ℕ) (out : List ℕ) → number_of (make m i c out) now.state ≡ 0 → c ≡ q → number_of (make m i c out) alone.state ≡ 0
  unfolding due_number
  make_again m i c out ok is =
      let a = make m i c out in
      let e = sym (call_number now a tt) ∙ ok in
      let (there, (counter, (amount, rest))) = first_passes (number_checks r k a now.state now.ledgers) (number_distinct r k a now.state now.ledgers) e in
      let hi = ltb-true i r there in
      let size : message_size r m i c (alone.ledgers c) ≡ message_size r m i c (now.ledgers c) = rw is (same_size q turns (driver_cards now) (driver_cards alone) b m i) in
      let left = left_checks (N_of r (now.state.words i) i) (C_of (now.state.words i) i) (counted m) in
      let last = or_else (leb (message_size r m i c (now.ledgers c)) (length out)) short_output ∷ [] in
      let more = more_left q turns (driver_cards now) (driver_cards alone) b i (counted m) hi (all_first left last rest) in
      call_number alone a tt
      ∙ all_accepts (λ n. n) 0 (number_checks r k a alone.state alone.ledgers)
      (there, (counter, (amount, all_append (left_checks (N_of r (alone.state.words i) i) (C_of (alone.state.words i) i) (counted m)) (or_else (leb (message_size r m i c (alone.ledgers c)) (length out)) short_output ∷ []) more (rw size (all_second left last rest).0, tt))))

  take_again : (i : ℕ) (bytes : List ℕ) → GenuineCall (take i bytes) now.state → number_of (take i bytes) now.state ≡ 0
      → belongs_by_turns q (ledger.deliver i (message_at version_2 bytes).sender) turns ≡ true → Again r (take i bytes) alone.state
  unfolding number_of
  take_again i bytes g ok own =
      let s = (message_at version_2 bytes).sender in
      let n = N_of r (alone.state.words i) s in
      let x = get_or (alone.state.written s) n [] in
      let d = deliver_enabled r i s alone.chassis (own_enabled r q turns now.chassis (now.ledgers q) alone.chassis (alone.ledgers q) b (ledger.deliver i s) own (accepted_enabled now (take i bytes) g ok)) in
      let l : n < length (alone.state.written s)
      = let a = reached_N (driver_cards alone) i s d.receiver d.sender in
      let e = made_all (driver_cards alone) s in let f = written_length alone s in let w = d.waits in omega arith in
      let is = written_in_order alone s d.sender n l in
      let from = written_by_sender alone s d.sender n l in
      record {
        number =
            take_cases alone i d.receiver x (λ e. from) (λ outcome. outcome.answer.number ≡ 0)
            (λ a. absurd (false≢true (sym a ∙ is.0)))
            (λ a e. absurd (d.apart (e ∙ is.1)))
            (λ a e l'. let l'' : n + 1 ≤ n = rw (is.1, is.2) at l' in absurd (omega arith))
            (λ a e l'. let l'' : n + 1 < n + 1 = rw (is.1, is.2) at l' in absurd (omega arith))
            (λ a e f hs waits. refl);
        genuine = λ e. from;
        step = ap (λ (u : ℕ). ledger.deliver i u) is.1;
      }

  again_accepted : (c : Call) → GenuineCall c now.state → number_of c now.state ≡ 0 → belongs_by_turns q (call_step c) turns ≡ true → Again r c alone.state
  unfolding belongs_by_turns
  again_accepted (make m i c out) g ok own = record {
    number = make_again m i c out ok (eqb-true c q (sym (making_belongs m i q c turns) ∙ own));
    genuine = tt;
    step = refl;
  }
  again_accepted (take i bytes) g ok own = take_again i bytes g ok own

  -- and it answers the same value
  again_value : (c : Call) → number_of c now.state ≡ 0 → belongs_by_turns q (call_step c) turns ≡ true → number_of (again r c alone.state) alone.state ≡ 0
      → value_of (again r c alone.state) alone.state ≡ value_of c now.state
  unfolding value_of
  again_value (make m i c out) ok own too =
      call_value alone (make m i c out) too
      ∙ same_asked q turns (driver_cards now) (driver_cards alone) b (Make m i c) own
      ∙ sym (call_value now (make m i c out) ok)
  again_value (take i bytes) ok own too = refl

-- ---- a list of calls

-- own calls, from cards on that stand beside others: all accepted, with the same values, and the reads of q at the end are the same
record OwnHistory (r k q : ℕ) (cs : List Call) (st : Cards) (own : List Call) (told : List ℕ) (st' : Cards) : Type 0 where
  genuine : Genuine (replayed r own st') st'
  accepts : numbers (replayed r own st') st' ≡ map (λ c. 0) own
  answers : values (replayed r own st') st' ≡ told
  steps : map call_step (replayed r own st') ≡ map call_step own
  reads : (i : ℕ) → i < r → q < k → read_on ((after (replayed r own st') st').words i) q ≡ read_on ((after cs st).words i) q

module _ (r k q : ℕ) (c : Call) (cs own : List Call) (told : List ℕ) (st st' : Cards) where
  one_more : OwnHistory r k q cs (called c st) own told st' → OwnHistory r k q (c ∷ cs) st own told st'
  unfolding after
  one_more h = record { genuine = h.genuine; accepts = h.accepts; answers = h.answers; steps = h.steps; reads = h.reads }

  both_more : (v : ℕ) → Again r c st' → value_of (again r c st') st' ≡ v → OwnHistory r k q cs (called c st) own told (called (again r c st') st')
      → OwnHistory r k q (c ∷ cs) st (c ∷ own) (v ∷ told) st'
  unfolding after numbers values replayed
  both_more v a same h = record {
    genuine = (a.genuine, h.genuine);
    accepts = ap₂ (λ (n : ℕ) (ns : List ℕ). n ∷ ns) a.number h.accepts;
    answers = ap₂ (λ (n : ℕ) (ns : List ℕ). n ∷ ns) same h.answers;
    steps = ap₂ (λ (s : ledger.Step) (ss : List ledger.Step). s ∷ ss) a.step h.steps;
    reads = h.reads;
  }

module _ (r k q : ℕ) where
  abbrev FromBeside : List Call → Type 0
  FromBeside cs =
      (turns : Turns) (now : DriverAt r k) → Genuine cs now.state → (alone : DriverAt r k) → CardsBeside q turns (driver_cards now) (driver_cards alone)
      → OwnHistory r k q cs now.state (queued_calls q cs now.state turns) (queued_calls_from (λ c v. v) q cs now.state turns) alone.state

  from_none : FromBeside []
  unfolding after numbers values queues.own_steps queued_calls_from replayed
  from_none turns now g alone b = record { genuine = tt; accepts = refl; answers = refl; steps = refl; reads = same_reads_beside q turns (driver_cards now) (driver_cards alone) b }

  from_call : (c : Call) (cs : List Call) → FromBeside cs → FromBeside (c ∷ cs)
  unfolding numbers queues.own_steps queued_calls_from
  from_call c cs rest turns now (g, gs) alone b =
      let number = number_of c now.state in
      by_place number 0
      (λ e. by_test (belongs_by_turns q (call_step c) turns)
      (λ own.
      let a = again_accepted q turns now alone b c g e own in
      let next : DriverMatches r k (called (again r c alone.state) alone.state) (done r (call_step c) alone.chassis) (λ q. after_accepted r q (call_step c) (alone.ledgers q))
      = rw a.step at (accepted_leaves alone (again r c alone.state) a.genuine a.number) in
      rw (eq-eqb number 0 e, own)
      (both_more r k q c cs _ _ now.state alone.state (value_of c now.state) a (again_value q turns now alone b c e own a.number)
      (rest _ (driver_at (accepted_leaves now c g e)) gs (driver_at next)
      (own_done r q turns now.chassis (now.ledgers q) alone.chassis (alone.ledgers q) b (call_step c) own (accepted_enabled now c g e)))))
      (λ own. rw (eq-eqb number 0 e, own)
      (one_more r k q c cs _ _ now.state alone.state
      (rest _ (driver_at (accepted_leaves now c g e)) gs alone
      (other_done r q turns now.chassis (now.ledgers q) alone.chassis (alone.ledgers q) b (call_step c) own (accepted_enabled now c g e))))))
      (λ d. rw (ne_eqb number 0 d) (one_more r k q c cs _ _ now.state alone.state (rest turns (driver_at (declined_leaves now c g d)) gs alone b)))

  own_history : (cs : List Call) → FromBeside cs
  own_history [] = from_none
  own_history (c ∷ cs) = from_call c cs (own_history cs)

module _ (r k q : ℕ) (right : sizes_in_range r k ≡ true) (calls : List Call) (genuine : GenuineHistory r k calls) where
  pub own_calls_told : own_calls r k q calls ≡ queued_calls q calls (opened r k) no_turns
  own_calls_told =
      own_calls_are q calls (driver_at (opened_matches r k (sizes r k right))) genuine no_turns (λ s i d. refl)

  values_told : own_call_values r k q calls ≡ queued_calls_from (λ c v. v) q calls (opened r k) no_turns
  values_told = own_calls_from_is (λ c v. v) q calls (driver_at (opened_matches r k (sizes r k right))) genuine no_turns (λ s i d. refl)

  went : OwnHistory r k q calls (opened r k) (own_calls r k q calls) (own_call_values r k q calls) (opened r k)
  went =
      let begins = driver_at (opened_matches r k (sizes r k right)) in
      rw (own_calls_told, values_told)
      (own_history r k q calls no_turns begins genuine begins (fresh_beside r q))

  pub calls_alone : let own = own_calls r k q calls in
      let again = replayed r own (opened r k) in
      GenuineHistory r k again × (numbers again (opened r k) ≡ map (λ c. 0) own) × (values again (opened r k) ≡ own_call_values r k q calls) × (map call_step again ≡ map call_step own)
      × ((i : ℕ) → i < r → q < k → read_on ((cards_after r k again).words i) q ≡ read_on ((cards_after r k calls).words i) q)
  calls_alone = (went.genuine, went.accepts, went.answers, went.steps, went.reads)
