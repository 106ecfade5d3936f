-- CLAIMS. Delivering what waits, in rounds (SPECIFICATION 6.3), over words and logs: what a caller relies on beyond the call's own equation (`Pending`). Each has its
-- sentence, its statement, and the law that proves it. First of any words and logs; then of those that a run and any number of calls behind it leave.
use Rattle.std.specs.Prelude.{ℕ, ◌+◌, ◌-◌, ◌*◌, ◌^◌, ◌≤◌, ◌<◌, ◌≡◌, true, false, ◌⊎◌, List, ◌++◌, map, length, take, replicate}
use Rattle.std.proofs.Common.{ap, arith}
use Rattle.std.proofs.lemmas.List.{length-replicate}
use Rattle.protocol.specs.Limits.{bad_replica, bad_row}
use Rattle.protocol.specs.Checks.{Decided}
use Rattle.protocol.proofs.ChecksLaws.{refusal_given}
use Rattle.protocol.proofs.AcceptanceLaws.{below_from}
use Rattle.protocol.specs.RoundRobin.{IsLink, Progress, times, replayed, AllDeliver, PassedOver}
use Rattle.protocol.specs.Increments.{increments_received}
use Rattle.replica_model.specs.Layout.{replica_length, active_word}
use Rattle.replica_model.specs.Calls.{in_place, read_on}
use Rattle.replica_model.specs.ClaimTerms.{MarkedIn}
use Rattle.chassis_model.specs.ListParts.{part}
use Rattle.chassis_model.specs.Run.{Step, action_of, State, state_of, N_at, replica_of, answer_length, numbers_in, values_in, state_after, chassis_fits, sizes_right, RunOutcome, run_on}
use Rattle.chassis_model.specs.Ledger.{ledger_step, accepted_of, ledger_of, ledger_reading}
use Rattle.chassis_model.specs.Pending.{state_links, pump, all_waiting, pending_checks, none_delivered, delivered_all, deliver_pending_on, words_after_calls, pump_steps, steps_of_calls}
use Rattle.chassis_model.specs.ReadAndClearOf.{OnlyReadAndClears, collected}
use Rattle.chassis_model.specs.Alone.{own_steps, own_values}
use Rattle.chassis_model.proofs.RunLaws.{accepted_sizes}
use Rattle.chassis_model.proofs.ReadAndClearClaims.{total}
use Rattle.chassis_model.proofs.AloneClaims.{whole_isolation}
use Rattle.chassis_model.proofs.PendingLaws as laws

-- ---- any words and logs

module _ (r k L b : ℕ) (words logs : List ℕ) where
  -- The call gives 11, 1, 2 and 15 each if and only if its cause holds and no earlier one does; a refusal is its number, 0, and the words as they were.
  pub deliver_pending_exact : Decided (λ o. o.answer.number) (none_delivered words) (pending_checks r k L (state_of words logs)) (delivered_all (pump r k L b (state_of words logs)))
      (deliver_pending_on r k L b words logs)
  deliver_pending_exact = laws.decided r k L b words logs

  -- A one at bit k or above in any card's word of active counters is 1, whatever the rows and logs hold.
  pub high_bit_refused : chassis_fits r k L (length words) (length logs) ≡ true
      → (i : ℕ) → i < r → 2 ^ k ≤ active_word (replica_of r k L (state_of words logs) i)
      → deliver_pending_on r k L b words logs ≡ none_delivered words bad_replica
  high_bit_refused fits i hi high =
      refusal_given deliver_pending_exact bad_replica (λ e. omega arith) (fits, laws.high_misplaced r k L (state_of words logs) i hi high)

  -- A row of any card whose bit disagrees is 2, where every replica is in its place, whatever the logs hold.
  pub unmarked_refused : chassis_fits r k L (length words) (length logs) ≡ true
      → ((i : ℕ) → i < r → in_place r k i (replica_of r k L (state_of words logs) i) ≡ true)
      → (i q : ℕ) → i < r → q < k → (MarkedIn (replica_of r k L (state_of words logs) i) q → ⊥)
      → deliver_pending_on r k L b words logs ≡ none_delivered words bad_row
  unmarked_refused fits places i q hi hq apart =
      refusal_given deliver_pending_exact bad_row (λ e. omega arith) (fits, (below_from r _ places, laws.unmarked_fails r k L (state_of words logs) i q hi hq apart))

  -- "makes at most b deliveries", whatever is handed in
  pub at_most : (deliver_pending_on r k L b words logs).answer.deliveries ≤ b
  at_most = laws.at_most r k L b words logs

  module _ (accepted : (deliver_pending_on r k L b words logs).answer.number ≡ 0) where
    abbrev p : Progress State
    p = pump r k L b (state_of words logs)

    abbrev later : State
    later = state_of (deliver_pending_on r k L b words logs).words logs

    -- "It returns how many it made, which is how far the total waiting has fallen."
    pub returns_fall : all_waiting r k L (state_of words logs) ≡ (deliver_pending_on r k L b words logs).answer.deliveries + all_waiting r k L later
    returns_fall = laws.returns_fall r k L b words logs accepted

    -- "It stops only at b, or when no link not passed over has one waiting."
    pub stops_only : ((deliver_pending_on r k L b words logs).answer.deliveries ≡ b)
        ⊎ ((i s : ℕ) → IsLink r i s → p.passed i s ≡ false → N_at r k L later s s ≤ N_at r k L later i s)
    stops_only = laws.stops_only r k L b words logs accepted

    -- What the call leaves is what its deliveries leave, one after the other, each of a link that has a message waiting, which take accepts.
    pub is_its_deliveries : (later ≡ replayed (state_links r k L) p.made (state_of words logs)) × AllDeliver (state_links r k L) r p.made (state_of words logs)
    is_its_deliveries = laws.is_its_deliveries r k L b words logs accepted

    -- "a link whose message take declines is passed over for the rest of the call and keeps it waiting"
    pub passes_over : (i s : ℕ) → IsLink r i s → p.passed i s ≡ true → PassedOver (state_links r k L) (state_of words logs) p i s
    passes_over = laws.passes_over r k L b words logs accepted

    -- "The message in place q of its link is taken within the first q times r times (r - 1) deliveries, if b allows.": of those deliveries at least q are of
    -- that link, if it is not passed over.
    pub place_within : (i s q : ℕ) → IsLink r i s → p.passed i s ≡ false → N_at r k L (state_of words logs) i s + q ≤ N_at r k L (state_of words logs) s s → q * (r * (r - 1)) ≤ b
        → q ≤ times i s (take (q * (r * (r - 1))) p.made)
    place_within = laws.place_within r k L b words logs accepted

    -- An accepted call leaves words that no such call refuses.
    pub accepted_again : (b' : ℕ) → (deliver_pending_on r k L b' (deliver_pending_on r k L b words logs).words logs).answer.number ≡ 0
    accepted_again = laws.accepted_again r k L b words logs accepted

-- ---- after a run that answered 0, and any calls, each with its own b (`bs`)

module _ (r k L : ℕ) (steps : List Step) (words logs answers : List ℕ) (accepted : (run_on r k L steps words logs answers).number ≡ 0) (bs : List ℕ) where
  abbrev ran : RunOutcome
  ran = run_on r k L steps words logs answers

  abbrev pub now : State
  now = state_of (words_after_calls r k L bs ran.words ran.logs) ran.logs

  -- the list with the deliveries behind it as deliver steps
  abbrev pub all_steps : List Step
  all_steps = steps ++ steps_of_calls r k L bs ran.words ran.logs

  -- the run's answers, and a number 0 and a value 0 for each of the deliveries
  abbrev pub all_answers : List ℕ
  all_answers = ran.answers ++ replicate {A = ℕ} (answer_length * length (steps_of_calls r k L bs ran.words ran.logs)) 0

  -- "The ledger counts each pumped delivery as a deliver step.": a run and its calls are the run of the list with the deliveries behind it as deliver steps: it leaves
  -- the same words and logs, and each of these steps is answered with 0 and 0. So every claim on runs is one on a run and its calls.
  pub run_and_calls : (answers' : List ℕ) → length answers' ≡ answer_length * length all_steps
      → run_on r k L all_steps words logs answers'
      ≡ record { number = 0; words = now.words; logs = ran.logs; answers = all_answers }
  run_and_calls = laws.run_and_calls r k L steps words logs answers accepted bs

  -- The ledger theorem, of a run and its calls.
  pub ledger_theorem_after_calls : (i q : ℕ) → i < r → q < k
      → read_on (part (replica_length r k) now.words i) q
      ≡ ledger_reading r i (ledger_of r q all_steps all_answers)
  ledger_theorem_after_calls = laws.ledger_theorem_after_calls r k L steps words logs answers accepted bs

  -- The total, of a run and its calls: what card h's accepted read and clears of q in the run have answered, and what a read of q on h gives now, add up to the
  -- increments of q that h has received, those of the calls' deliveries among them.
  pub total_after_calls : (h q : ℕ) → h < r → q < k → let answered = numbers_in all_answers in
      OnlyReadAndClears h q (map action_of all_steps) answered
      → collected h q (map action_of all_steps) answered (values_in all_answers) + (read_on (part (replica_length r k) now.words h) q).value
      ≡ increments_received h q (map ledger_step all_steps) (accepted_of answered)
  total_after_calls h q hh hq =
      let blank : List ℕ = replicate (answer_length * length all_steps) 0 in
      let one_run = run_and_calls blank (length-replicate (answer_length * length all_steps) 0) in
      rw one_run at (total r k L all_steps words logs blank (ap (λ o. o.number) one_run) h q hh hq)

  -- Isolation, of a run and its calls: counter q's own steps, the calls' deliveries of its messages among them, run alone, are all accepted, answer what they answered,
  -- and leave every card's read of q as it is now.
  pub isolation_after_calls : (q : ℕ) (words' logs' answers' : List ℕ)
      → let own = own_steps r k L q all_steps logs in
      let alone = run_on r k L own words' logs' answers' in
      sizes_right r k L (length own) words' logs' answers' ≡ true
      → (numbers_in alone.answers ≡ map (λ s. 0) own) × (values_in alone.answers ≡ own_values r k L q all_steps logs)
      × ((i : ℕ) → i < r → q < k → read_on (part (replica_length r k) alone.words i) q ≡ read_on (part (replica_length r k) now.words i) q)
  isolation_after_calls q words' logs' answers' right =
      let blank : List ℕ = replicate (answer_length * length all_steps) 0 in
      let one_run = run_and_calls blank (length-replicate (answer_length * length all_steps) 0) in
      let ran_once = (accepted_sizes r k L all_steps words logs blank).0.0 (ap (λ o. o.number) one_run) in
      rw one_run at (whole_isolation r k L q all_steps words words' logs logs' blank answers' ran_once right)

  -- No such call is refused, and in none is a link passed over: take declines no message.
  pub accepted_after_run : (b : ℕ) → (deliver_pending_on r k L b now.words ran.logs).answer.number ≡ 0
  accepted_after_run = laws.accepted_after_run r k L steps words logs answers accepted bs

  pub passes_none : (b i s : ℕ) → (pump r k L b now).passed i s ≡ false
  passes_none = laws.passes_none r k L steps words logs answers accepted bs

  -- "The message in place q of its link is taken within the first q times r times (r - 1) deliveries, if b allows.": it is the sender's message number N + q, N being
  -- the receiver's, and after those deliveries, and so after the call, the receiver's N is at least that.
  pub place_taken : (b i s q : ℕ) → IsLink r i s → N_at r k L now i s + q ≤ N_at r k L now s s → q * (r * (r - 1)) ≤ b
      → (N_at r k L now i s + q ≤ N_at r k L (state_after r k L (pump_steps (take (q * (r * (r - 1))) (pump r k L b now).made)) now) i s)
      × (N_at r k L now i s + q ≤ N_at r k L (state_of (deliver_pending_on r k L b now.words ran.logs).words ran.logs) i s)
  place_taken = laws.place_taken r k L steps words logs answers accepted bs

  -- "When b is at least the total waiting, all cards then agree on every value and holder set.": nothing waits any more, and every card reads every counter alike.
  pub agreement : (b : ℕ) → all_waiting r k L now ≤ b
      → let later = (deliver_pending_on r k L b now.words ran.logs).words in
      (all_waiting r k L (state_of later ran.logs) ≡ 0)
      × ((i j q : ℕ) → i < r → j < r → q < k → read_on (part (replica_length r k) later i) q ≡ read_on (part (replica_length r k) later j) q)
  agreement = laws.agreement r k L steps words logs answers accepted bs
