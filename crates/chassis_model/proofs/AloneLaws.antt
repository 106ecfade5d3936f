-- LAWS. A run of the chassis beside the run of counter q's own steps alone. Both match the theory's chassis (`Matches`), and those stand beside each other
-- (`RunsBeside` of protocol). The second run's logs take no more room, so a step of q that the first run accepts is accepted in the second.
use Rattle.std.specs.Prelude.{ℕ, suc, ◌+◌, ◌≤◌, ◌<◌, ◌≡◌, refl, Bool, true, not, length, leb, eqb}
use Rattle.std.proofs.Common.{sym, ap, ◌∙◌, arith, length-append, ltb-true, leb-true, le-leb, eq-eqb, ne_eqb, eqb-true}
use Rattle.std.proofs.Math.Path.{ap₂}
use mathlib.Core.List.{List, [], ◌∷◌, map}
use Rattle.std.proofs.lemmas.List.{length-map}
use Rattle.std.proofs.lemmas.Bool.{eqb-false, not-true}
use Rattle.protocol.specs.Limits.{MAX, log_full}
use Rattle.protocol.proofs.Cases.{by_place, by_test, and_left, and_right}
use Rattle.protocol.specs.Checks.{or_else, first_failing, AllPass}
use Rattle.protocol.proofs.ChecksLaws.{first_passes, all_accepts, all_first, all_second, all_append}
use Rattle.protocol.specs.Chassis.{Message, increment, clearing, units_of}
use Rattle.protocol.specs.Ledger.{ledger_value}
use Rattle.protocol.specs.Alone as queues
use Rattle.protocol.specs.Alone.{Turns, no_turns, belongs_by_turns, outline, room}
use Rattle.protocol.proofs.AloneLedgers.{same_holds, own_waits}
use Rattle.protocol.proofs.AloneRuns.{RunsBeside, fresh_beside, own_done, other_done, room_within}
use Rattle.protocol.proofs.AcceptanceLaws.{count_cong}
use Rattle.protocol.proofs.OwnUnits.{own_C_is}
use Rattle.wire.specs.Message.{clear_length, message_bytes, log_bytes}
use Rattle.replica_model.specs.Layout.{replica_length, C_of, N_of}
use Rattle.replica_model.specs.declared.Reading.{Reading}
use Rattle.replica_model.specs.Calls.{left_checks, read_on}
use Rattle.replica_model.specs.Format.{on_wire, size_of}
use Rattle.replica_model.proofs.FormatLaws.{on_wire_length}
use Rattle.chassis_model.proofs.LogLaws.{free_place}
use Rattle.chassis_model.proofs.Numbered.{numbered, wire_log, length_numbered}
use Rattle.chassis_model.specs.Run.{Making, Action, Make, Deliver, Nothing, Step, action_of, amount_fits, counted, State, replica_of, step_on, state_after, answers_of, numbers_in, values_in, sizes_right, run_on}
use Rattle.chassis_model.specs.Answers.{fresh_state, message_size, step_size, due_checks, value_asked}
use Rattle.chassis_model.specs.Ledger.{ledger_action, ledger_step, accepted_of, ledger_reading}
use Rattle.chassis_model.specs.Alone.{own_steps, own_values}
use Rattle.chassis_model.proofs.AloneQueues.{queued_steps, queued_from, own_from_is, own_steps_are}
use Rattle.chassis_model.proofs.InStep.{CardsAt, reached_N, reached_C, own_N}
use Rattle.chassis_model.proofs.Matches.{RunAt, run_at, run_cards, log_in, N_in, C_in, free_in}
use Rattle.chassis_model.proofs.Makings.{making, making_belongs}
use Rattle.chassis_model.proofs.StepLaws.{accepted_enabled, accepted_leaves, declined_leaves}
use Rattle.chassis_model.proofs.AnswerLaws.{due_distinct, action_due, accepted_value}
use Rattle.chassis_model.proofs.ReadsOfReplicas.{read_matches}
use Rattle.chassis_model.proofs.TheoryReads.{same_reading}
use Rattle.chassis_model.proofs.FreshRun.{fresh_matches}
use Rattle.chassis_model.proofs.Theorem.{right_sizes, answers_are, words_are}
use Rattle.chassis_model.specs.ListParts.{part}

-- ---- room: "40 in version 2", "28 + 20e bytes"

size_of_outline : (m : Message) → size_of (outline m) ≡ size_of m
size_of_outline (increment q w p start) = refl
size_of_outline (clearing q ts) = ap clear_length (length-map ts _)

units_of_outline : (m : Message) → units_of (outline m) ≡ units_of m
units_of_outline (increment q w p start) = refl
units_of_outline (clearing q ts) = refl

bytes_of_log : (j n : ℕ) (ms : List Message) → length (log_bytes (numbered j n ms)) ≡ room size_of ms
unfolding log_bytes numbered room
bytes_of_log j n [] = refl
bytes_of_log j n (m ∷ ms) = length-append (message_bytes (on_wire j (n + 1) m)) _ ∙ ap₂ ◌+◌ (on_wire_length j (n + 1) m) (bytes_of_log j (suc n) ms)

used_is : {r k L : ℕ} (now : RunAt r k L) (i : ℕ) → i < r → free_in now i ≡ room size_of (now.chassis.log i)
used_is now i hi =
    let on = now.matches.holds i hi in
    let log = now.chassis.log i in
    rw (own_N (run_cards now) i hi, ← (length_numbered i 0 log))
    (free_place (wire_log i log) on.rest (log_in now i) on.bytes (now.matches.cards.cards_show.readable i hi) ∙ bytes_of_log i 0 log)

room_ones : (ms : List Message) → room (λ m. 1) ms ≡ length ms
unfolding room
room_ones [] = refl
room_ones (m ∷ ms) = let e = room_ones ms in omega arith

-- ---- alone, a message is as long, and each card has made no more and counted no more

-- two rows of cards, whose chassis stand beside each other
abbrev pub CardsBeside : {r k : ℕ} → ℕ → Turns → CardsAt r k → CardsAt r k → Type 0
CardsBeside {r} q turns now alone = RunsBeside r q turns now.chassis (now.ledgers q) alone.chassis (alone.ledgers q)

-- a message is as long there
pub same_size : {r k : ℕ} (q : ℕ) (turns : Turns) (now alone : CardsAt r k) → CardsBeside q turns now alone
    → (m : Making) (i : ℕ) → message_size r m i q (alone.ledgers q) ≡ message_size r m i q (now.ledgers q)
same_size {r} q turns now alone b m i =
    ap (step_size (ledger_action (Make m i q))) (count_cong r _ _ (λ j below. same_holds (now.ledgers q) (alone.ledgers q) b.ledgers.sets i j))

-- q reads the same on both
pub same_reads_beside : {r k : ℕ} (q : ℕ) (turns : Turns) (now alone : CardsAt r k) → CardsBeside q turns now alone
    → (i : ℕ) → i < r → q < k → read_on (alone.replicas i) q ≡ read_on (now.replicas i) q
same_reads_beside {r} q turns now alone b i hi hq =
    read_matches alone i q hi hq ∙ same_reading r i (now.ledgers q) (alone.ledgers q) b.ledgers.sets ∙ sym (read_matches now i q hi hq)

-- and so is the value that an own action asks for
pub same_asked : {r k : ℕ} (q : ℕ) (turns : Turns) (now alone : CardsAt r k) → CardsBeside q turns now alone
    → (a : Action) → belongs_by_turns q (ledger_action a) turns ≡ true
    → value_asked a (λ i c. ledger_value i (alone.ledgers c)) ≡ value_asked a (λ i c. ledger_value i (now.ledgers c))
unfolding value_asked ledger_reading
same_asked {r} q turns now alone b (Make m i c) own =
    let is : c ≡ q = eqb-true c q (sym (making_belongs m i q c turns) ∙ own) in
    (making m).asks i i c _ _ (rw is (ap (λ (a : Reading). a.value) (same_reading r i (now.ledgers q) (alone.ledgers q) b.ledgers.sets)))
same_asked q turns now alone b (Deliver i s) own = refl
same_asked q turns now alone b Nothing own = refl

-- a card that may make one more message, by so much, may make it there
pub more_left : {r k : ℕ} (q : ℕ) (turns : Turns) (now alone : CardsAt r k) → CardsBeside q turns now alone
    → (i w : ℕ) → i < r → AllPass (left_checks (N_of r (now.replicas i) i) (C_of (now.replicas i) i) w)
    → AllPass (left_checks (N_of r (alone.replicas i) i) (C_of (alone.replicas i) i) w)
more_left {r} q turns now alone b i w hi (some, _) =
    let made = room_within (λ m. 1) (λ m. refl) q (now.chassis.log i) (alone.chassis.log i) (b.logs i) in
    let x = room_ones (now.chassis.log i) in
    let y = room_ones (alone.chassis.log i) in
    let N = reached_N now i i hi hi in
    let n = own_N now i hi in
    let n' = own_N alone i hi in
    let few = now.in_step.cards_show.own.N≤ i in
    let counts = room_within units_of units_of_outline q (now.chassis.log i) (alone.chassis.log i) (b.logs i) in
    let C = reached_C now i hi in
    let C' = reached_C alone i hi in
    let c = own_C_is r q now.chassis (now.ledgers q) (now.in_step.invariants q) i in
    let c' = own_C_is r q alone.chassis (alone.ledgers q) (alone.in_step.invariants q) i in
    let left = not (eqb (N_of r (now.replicas i) i) MAX) in
    let room = leb (C_of (now.replicas i) i + w) MAX in
    let d = eqb-false (N_of r (now.replicas i) i) MAX (not-true _ (and_left left room some)) in
    let fits = leb-true (C_of (now.replicas i) i + w) MAX (and_right left room some) in
    (rw (ne_eqb (N_of r (alone.replicas i) i) MAX (λ e. d (omega arith))) (le-leb (C_of (alone.replicas i) i + w) MAX (omega arith)), tt)

-- ---- a step of q that the first run accepts

module _ {r k L : ℕ} (q : ℕ) (turns : Turns) (now alone : RunAt r k L) (b : CardsBeside q turns (run_cards now) (run_cards alone)) where
  -- less room is used
  less_used : (i : ℕ) → i < r → free_in alone i ≤ free_in now i
  less_used i hi =
      rw (used_is now i hi, used_is alone i hi)
      (room_within size_of size_of_outline q (now.chassis.log i) (alone.chassis.log i) (b.logs i))

  -- so what is due is 0 there too
  abbrev AcceptedToo : Action → Bool → Type 0
  AcceptedToo a fits =
      first_failing (due_checks r k L q a fits now.state now.ledgers) ≡ 0 → belongs_by_turns q (ledger_action a) turns ≡ true → first_failing (due_checks r k L q a fits alone.state alone.ledgers) ≡ 0

  make_too : (m : Making) (i c : ℕ) (fits : Bool) → AcceptedToo (Make m i c) fits
  make_too m i c fits e own =
      let a = Make m i c in
      let (there, (counter, (amount, rest))) = first_passes (due_checks r k L q a fits now.state now.ledgers) (due_distinct r k L q a fits now.state now.ledgers) e in
      let hi = ltb-true i r there in
      let is : c ≡ q = eqb-true c q (sym (making_belongs m i q c turns) ∙ own) in
      let size : message_size r m i c (alone.ledgers c) ≡ message_size r m i c (now.ledgers c) = rw is (same_size q turns (run_cards now) (run_cards alone) b m i) in
      let used = less_used i hi in
      let left = left_checks (N_in now i i) (C_in now i) (counted m) in
      let last = or_else (leb (free_in now i + message_size r m i c (now.ledgers c)) L) log_full ∷ [] in
      let room = leb-true _ L (all_second left last rest).0 in
      let more = more_left q turns (run_cards now) (run_cards alone) b i (counted m) hi (all_first left last rest) in
      all_accepts (λ n. n) 0 (due_checks r k L q a fits alone.state alone.ledgers)
      (there, (counter, (amount, all_append (left_checks (N_in alone i i) (C_in alone i) (counted m)) (or_else (leb (free_in alone i + message_size r m i c (alone.ledgers c)) L) log_full ∷ []) more (le-leb _ L (omega arith), tt))))

  deliver_too : (i s : ℕ) (fits : Bool) → AcceptedToo (Deliver i s) fits
  unfolding ledger_action belongs_by_turns
  deliver_too i s fits e own =
      let a = Deliver i s in
      let (linked, (amount, _)) = first_passes (due_checks r k L q a fits now.state now.ledgers) (due_distinct r k L q a fits now.state now.ledgers) e in
      all_accepts (λ n. n) 0 (due_checks r k L q a fits alone.state alone.ledgers)
      (linked, (amount, (rw (b.ledgers.queues s i) (own_waits q (turns s i) ((now.ledgers q).queue s i) (b.ledgers.lined s i) own), tt)))

  due_too : (a : Action) (fits : Bool) → AcceptedToo a fits
  due_too (Make m i c) fits = make_too m i c fits
  due_too (Deliver i s) fits = deliver_too i s fits
  due_too Nothing fits = λ e own. e

  accepted_too : (s : Step) → (step_on r k L s now.state).answer.number ≡ 0 → belongs_by_turns q (ledger_step s) turns ≡ true → (step_on r k L s alone.state).answer.number ≡ 0
  accepted_too s e own =
      action_due alone q (action_of s) (amount_fits s) ∙ due_too (action_of s) (amount_fits s) (sym (action_due now q (action_of s) (amount_fits s)) ∙ e) own

  -- and it answers the same value: the ledgers have the same sets of q
  same_value : (s : Step) → (step_on r k L s now.state).answer.number ≡ 0 → belongs_by_turns q (ledger_step s) turns ≡ true
      → (step_on r k L s alone.state).answer.value ≡ (step_on r k L s now.state).answer.value
  same_value s e own =
      accepted_value alone q (action_of s) (amount_fits s) (accepted_too s e own)
      ∙ same_asked q turns (run_cards now) (run_cards alone) b (action_of s) own
      ∙ sym (accepted_value now q (action_of s) (amount_fits s) e)

-- ---- a list of steps

-- own steps, from a state on that stands beside another: all accepted, with the same values, and the reads of q at the end are the same
pub record OwnRun (r k L q : ℕ) (ss : List Step) (st : State) (own : List Step) (values : List ℕ) (st' : State) : Type 0 where
  pub accepts : numbers_in (answers_of r k L own st') ≡ map (λ s. 0) own
  pub answers : values_in (answers_of r k L own st') ≡ values
  pub reads : (i : ℕ) → i < r → q < k
      → read_on (replica_of r k L (state_after r k L own st') i) q ≡ read_on (replica_of r k L (state_after r k L ss st) i) q

module _ (r k L q : ℕ) (s : Step) (ss own : List Step) (values : List ℕ) (st st' : State) where
  one_more : OwnRun r k L q ss (step_on r k L s st).state own values st' → OwnRun r k L q (s ∷ ss) st own values st'
  unfolding state_after
  one_more h = record { accepts = h.accepts; answers = h.answers; reads = h.reads }

  both_more : (v : ℕ) → (step_on r k L s st').answer.number ≡ 0 → (step_on r k L s st').answer.value ≡ v
      → OwnRun r k L q ss (step_on r k L s st).state own values (step_on r k L s st').state → OwnRun r k L q (s ∷ ss) st (s ∷ own) (v ∷ values) st'
  unfolding state_after answers_of numbers_in values_in
  both_more v e same h = record {
    accepts = ap₂ (λ (n : ℕ) (rest : List ℕ). n ∷ rest) e h.accepts;
    answers = ap₂ (λ (n : ℕ) (rest : List ℕ). n ∷ rest) same h.answers;
    reads = h.reads;
  }

module _ (r k L q : ℕ) where
  abbrev FromBeside : List Step → Type 0
  FromBeside ss =
      (turns : Turns) (now alone : RunAt r k L) → CardsBeside q turns (run_cards now) (run_cards alone)
      → OwnRun r k L q ss now.state (queued_steps r k L q ss now.state turns) (queued_from (λ s a. a.value) r k L q ss now.state turns) alone.state

  from_none : FromBeside []
  unfolding state_after answers_of numbers_in values_in queues.own_steps queued_from
  from_none turns now alone b = record { accepts = refl; answers = refl; reads = same_reads_beside q turns (run_cards now) (run_cards alone) b }

  from_step : (s : Step) (ss : List Step) → FromBeside ss → FromBeside (s ∷ ss)
  unfolding answers_of numbers_in queues.own_steps queued_from
  from_step s ss rest turns now alone b =
      let number = (step_on r k L s now.state).answer.number in
      by_place number 0
      (λ e. by_test (belongs_by_turns q (ledger_step s) turns)
      (λ own.
      let too = accepted_too q turns now alone b s e own in
      rw (eq-eqb number 0 e, own)
      (both_more r k L q s ss _ _ now.state alone.state (step_on r k L s now.state).answer.value too (same_value q turns now alone b s e own)
      (rest _ (run_at (accepted_leaves now s e)) (run_at (accepted_leaves alone s too))
      (own_done r q turns now.chassis (now.ledgers q) alone.chassis (alone.ledgers q) b (ledger_step s) own (accepted_enabled now s e)))))
      (λ own. rw (eq-eqb number 0 e, own)
      (one_more r k L q s ss _ _ now.state alone.state
      (rest _ (run_at (accepted_leaves now s e)) alone
      (other_done r q turns now.chassis (now.ledgers q) alone.chassis (alone.ledgers q) b (ledger_step s) own (accepted_enabled now s e))))))
      (λ d. rw (ne_eqb number 0 d) (one_more r k L q s ss _ _ now.state alone.state (rest turns (run_at (declined_leaves now s d)) alone b)))

  pub own_run : (ss : List Step) → FromBeside ss
  own_run [] = from_none
  own_run (s ∷ ss) = from_step s ss (own_run ss)

-- ---- a run from right sizes

module _ (r k L q : ℕ) (steps : List Step) (words logs answers : List ℕ) (right : sizes_right r k L (length steps) words logs answers ≡ true) where
  abbrev begins : RunAt r k L
  begins = let z = right_sizes r k L (length steps) words logs answers right in run_at (fresh_matches r k L logs z.0 z.1)

  own_queued : own_steps r k L q steps logs ≡ queued_steps r k L q steps (fresh_state r k L logs) no_turns
  own_queued = own_steps_are q steps begins no_turns (λ s i d. refl)

  values_queued : own_values r k L q steps logs ≡ queued_from (λ s a. a.value) r k L q steps (fresh_state r k L logs) no_turns
  values_queued = own_from_is (λ s a. a.value) q steps begins no_turns (λ s i d. refl)

  pub own_steps_told : own_steps r k L q steps logs
      ≡ queues.own_steps ledger_step q steps (accepted_of (numbers_in (run_on r k L steps words logs answers).answers)) no_turns
  own_steps_told = rw (answers_are r k L steps words logs answers right) own_queued

module _ (r k L q : ℕ) (steps : List Step) (words words' logs logs' answers answers' : List ℕ)
    (right : sizes_right r k L (length steps) words logs answers ≡ true)
    (right' : sizes_right r k L (length (own_steps r k L q steps logs)) words' logs' answers' ≡ true) where
  ran : OwnRun r k L q steps (fresh_state r k L logs) (own_steps r k L q steps logs) (own_values r k L q steps logs) (fresh_state r k L logs')
  ran =
      rw (own_queued r k L q steps words logs answers right, values_queued r k L q steps words logs answers right)
      (own_run r k L q steps no_turns (begins r k L q steps words logs answers right)
      (begins r k L q (own_steps r k L q steps logs) words' logs' answers' right') (fresh_beside r q))

  pub all_accepted_alone : numbers_in (run_on r k L (own_steps r k L q steps logs) words' logs' answers').answers ≡ map (λ s. 0) (own_steps r k L q steps logs)
  all_accepted_alone = ap numbers_in (answers_are r k L (own_steps r k L q steps logs) words' logs' answers' right') ∙ ran.accepts

  pub same_values_alone : values_in (run_on r k L (own_steps r k L q steps logs) words' logs' answers').answers ≡ own_values r k L q steps logs
  same_values_alone = ap values_in (answers_are r k L (own_steps r k L q steps logs) words' logs' answers' right') ∙ ran.answers

  pub same_reads_alone : (i : ℕ) → i < r → q < k
      → read_on (part (replica_length r k) (run_on r k L (own_steps r k L q steps logs) words' logs' answers').words i) q
      ≡ read_on (part (replica_length r k) (run_on r k L steps words logs answers).words i) q
  same_reads_alone i hi hq =
      rw (words_are r k L (own_steps r k L q steps logs) words' logs' answers' right', words_are r k L steps words logs answers right) (ran.reads i hi hq)
