-- LAWS. `deliver_pending` over words and logs. Of any: an accepted call has passed its checks, so its transport is orderly (`Checked`), what holds of every
-- orderly transport holds of it, and what it leaves passes them again. Of a state that a run reaches: the checks pass and what waits is accepted, so a call
-- is the run of its deliveries as deliver steps, each answered with 0 and 0; so are calls one after the other. Where nothing waits any more all cards read
-- the same.
use Prim.Native.Nat.{ℕ, suc, ◌+◌, ◌-◌, ◌*◌, ◌^◌, ◌≤◌, ◌<◌}
use Rattle.std.specs.Prelude.{◌≡◌, Bool, false, ◌&&◌, ◌⊎◌, eqb, take}
use Rattle.std.proofs.Math.Path.{refl, ap, ap₂}
use Rattle.std.proofs.Common.{sym, ◌∙◌, inl, inr, length-append, eqb-true, le-ltb}
use Rattle.std.proofs.Math.Bool.{true}
use Rattle.std.proofs.lemmas.Bool.{false≢true}
use mathlib.Core.List.{List, [], ◌∷◌, ◌++◌}
use native.Mathlib.Omega.{arith}
use Rattle.std.proofs.Math.ListN.{length, replicate, replicate-append-replicate}
use Rattle.std.proofs.lemmas.List.{length-replicate}
use Rattle.protocol.proofs.Cases.{and_no_right, not_yes}
use Rattle.protocol.specs.Functions.{all_below}
use Rattle.protocol.specs.Checks.{Decided}
use Rattle.protocol.proofs.ChecksLaws as checks
use Rattle.protocol.proofs.ChecksLaws.{checked_cases, gives_passes, passes_gives}
use Rattle.protocol.proofs.AcceptanceLaws.{below_facts}
use Rattle.protocol.specs.Ledger.{Ledger}
use Rattle.protocol.specs.Chassis.{Chassis}
use Rattle.protocol.specs.RoundRobin.{Link, IsLink, times, replayed, AllDeliver, Orderly, PassedOver}
use Rattle.protocol.proofs.RoundRobinLaws.{by_link}
use Rattle.protocol.proofs.RoundRobinMade.{times_none, times_this, times_that, times_part, total_zero, deliver_first, CallOk, call_ok}
use Rattle.protocol.proofs.RoundRobinEnd as end
use Rattle.protocol.proofs.RoundRobinEnd.{stops, drained, never_passed}
use Rattle.protocol.proofs.RoundRobinBound.{served_within}
use Rattle.replica_model.specs.Layout.{cards, counters, own_card, replica_length, active_word}
use Rattle.replica_model.specs.Calls.{in_place, row_well_formed, read_on}
use Rattle.replica_model.specs.ClaimTerms.{MarkedIn}
use Rattle.replica_model.proofs.RowLaws.{tests, row_from, row_unmarked}
use Rattle.chassis_model.specs.ListParts.{part}
use Rattle.chassis_model.specs.Log.{waiting_part}
use Rattle.chassis_model.specs.Run.{Step, Deliver, action_of, amount_fits, State, state_of, N_at, replica_of, delivered, step_on, state_after, answer_words, answer_length, answers_of, sizes_right, RunOutcome, run_on, deliver_kind}
use Rattle.chassis_model.specs.Ledger.{ledger_of, ledger_reading}
use Rattle.chassis_model.specs.Answers.{fresh_state}
use Rattle.chassis_model.proofs.InStep.{reached_N, reached_row, received_few, own_N}
use Rattle.chassis_model.proofs.Matches.{Matches, RunAt, run_at, run_cards, words_in, log_in, N_in, message_stands}
use Rattle.chassis_model.proofs.Takes.{fields_are}
use Rattle.chassis_model.proofs.FreshRun.{fresh_matches}
use Rattle.chassis_model.proofs.StepLaws.{performed_is, link_passes, link_matches}
use Rattle.chassis_model.proofs.DeliveredSteps.{one_delivered}
use Rattle.chassis_model.proofs.RunLaws.{accepted_sizes, run_is, right_for, after_append, answers_append}
use Rattle.chassis_model.proofs.Theorem.{run_matches, right_sizes, state_run, answers_are, ledger_theorem_over_records}
use Rattle.chassis_model.proofs.Agreement.{same_reads, received_all}
use Rattle.chassis_model.specs.Pending.{is_numbered, state_links, pump, all_waiting, pending_checks, DeliverOutcome, none_delivered, delivered_all, deliver_pending_on, words_after_calls, pump_steps, steps_of_calls}
use Rattle.chassis_model.proofs.PendingChecked.{Checked, passes_checked, checked_passes, N_here, N_there, checked_after, checked_orderly}

-- ---- deliveries that are all accepted

module _ (r k L : ℕ) where
  replayed_logs : (ls : List Link) (st : State) → (replayed (state_links r k L) ls st).logs ≡ st.logs
  unfolding replayed delivered
  replayed_logs [] st = refl
  replayed_logs (l ∷ ls) st = replayed_logs ls (delivered r k L l.receiver l.sender st).state

  -- N after them: it has risen by as many as are of that link
  replayed_N : (ls : List Link) (st : State) (i s : ℕ) → s < r → Checked r k L st → AllDeliver (state_links r k L) r ls st
      → N_at r k L (replayed (state_links r k L) ls st) i s ≡ N_at r k L st i s + times i s ls
  unfolding replayed AllDeliver
  replayed_N [] st i s hs g a = let z = times_none i s in omega arith
  replayed_N (l ∷ ls) st i s hs g a =
      let j = l.receiver in
      let u = l.sender in
      replayed_N ls (delivered r k L j u st).state i s hs (checked_after r k L j u st a.0.0 g a.0.1 a.0.2) a.1
      ∙ by_link i s j u
      (λ e d.
      let n = times_this i s j u ls e d in
      let m : N_at r k L (delivered r k L j u st).state i s ≡ N_at r k L st i s + 1 = rw (e, d) (N_here r k L j u st a.0.0 g a.0.1 a.0.2) in
      omega arith)
      (λ d.
      let n = times_that i s j u ls d in
      let m = N_there r k L j u st a.0.0 g a.0.1 a.0.2 i s hs d in
      omega arith)

  -- as steps
  link_step : (i s : ℕ) (st : State) → IsLink r i s → 0 < N_at r k L st s s - N_at r k L st i s
      → step_on r k L (record { kind = deliver_kind; first = i; second = s; amount = 0 }) st ≡ delivered r k L i s st
  unfolding action_of amount_fits
  link_step i s st is waits = performed_is r k L st (Deliver i s) true (link_passes r k L st i s true refl is (omega arith))

  replayed_steps : (ls : List Link) (st : State) → AllDeliver (state_links r k L) r ls st
      → replayed (state_links r k L) ls st ≡ state_after r k L (pump_steps ls) st
  unfolding replayed AllDeliver state_after
  replayed_steps [] st a = refl
  replayed_steps (l ∷ ls) st a =
      replayed_steps ls (delivered r k L l.receiver l.sender st).state a.1
      ∙ ap (λ stepped. state_after r k L (pump_steps ls) stepped.state) (sym (link_step l.receiver l.sender st a.0.0 a.0.1))

  -- each is answered with 0 and 0
  answered_zeros : (ls : List Link) (st : State) → AllDeliver (state_links r k L) r ls st
      → answers_of r k L (pump_steps ls) st ≡ replicate {A = ℕ} (answer_length * length (pump_steps ls)) 0
  unfolding AllDeliver answers_of delivered
  answered_zeros [] st a = refl
  answered_zeros (l ∷ ls) st a =
      let done = delivered r k L l.receiver l.sender st in
      let next : answer_length * suc (length (pump_steps ls)) ≡ suc (suc (answer_length * length (pump_steps ls))) = omega arith in
      ap (λ stepped. answer_words stepped.answer ++ answers_of r k L (pump_steps ls) stepped.state)
      (link_step l.receiver l.sender st a.0.0 a.0.1)
      ∙ ap₂ (λ n xs. n ∷ 0 ∷ xs) (eqb-true done.answer.number 0 a.0.2) (answered_zeros ls done.state a.1)
      ∙ ap (λ n. replicate {A = ℕ} n 0) (sym next)

-- ---- one card's word or row that fails a check

one_fails : (n : ℕ) (f : ℕ → Bool) (j : ℕ) → j < n → f j ≡ false → all_below n f ≡ false
one_fails n f j l e = not_yes (all_below n f) (λ all. false≢true (sym e ∙ below_facts n f all j l))

module _ (r k L : ℕ) (st : State) where
  pub high_misplaced : (i : ℕ) → i < r → 2 ^ k ≤ active_word (replica_of r k L st i) → all_below r (λ i. in_place r k i (replica_of r k L st i)) ≡ false
  high_misplaced i hi high =
      let b = replica_of r k L st i in
      one_fails r _ i hi (and_no_right (eqb (cards b) r && eqb (counters b) k && eqb (own_card b) i) _ (le-ltb (active_word b) (2 ^ k) high))

  pub unmarked_fails : (i q : ℕ) → i < r → q < k → (MarkedIn (replica_of r k L st i) q → ⊥)
      → all_below r (λ i. all_below k (row_well_formed (replica_of r k L st i))) ≡ false
  unmarked_fails i q hi hq apart = one_fails r _ i hi (one_fails k _ q hq (row_unmarked (replica_of r k L st i) q apart))

-- ---- any words and logs

module _ (r k L b : ℕ) (words logs : List ℕ) where
  abbrev st : State
  st = state_of words logs

  -- the state that the call leaves
  abbrev later : State
  later = state_of (deliver_pending_on r k L b words logs).words logs

  pub decided : Decided (λ o. o.answer.number) (none_delivered words) (pending_checks r k L st) (delivered_all (pump r k L b st))
      (deliver_pending_on r k L b words logs)
  unfolding deliver_pending_on
  decided =
      checks.decided (λ (o : DeliverOutcome). o.answer.number) (none_delivered words) (λ n. refl) (delivered_all (pump r k L b st)) refl
      (pending_checks r k L st) refl

  pub at_most : (deliver_pending_on r k L b words logs).answer.deliveries ≤ b
  unfolding deliver_pending_on
  at_most =
      checked_cases (none_delivered words) (pending_checks r k L st) (delivered_all (pump r k L b st)) refl (λ o. o.answer.deliveries ≤ b)
      (λ n some. omega arith) (λ all. end.at_most (state_links r k L) r b st)

  checked_accepted : Checked r k L st → (deliver_pending_on r k L b words logs).answer.number ≡ 0
  checked_accepted g = (decided.exact 0).1 (passes_gives (pending_checks r k L st) refl (checked_passes r k L st g))

  module _ (accepted : (deliver_pending_on r k L b words logs).answer.number ≡ 0) where
    call_is : deliver_pending_on r k L b words logs ≡ delivered_all (pump r k L b st)
    call_is = decided.accepted accepted

    good : Checked r k L st
    good = passes_checked r k L st (gives_passes (pending_checks r k L st) refl ((decided.exact 0).0 accepted))

    call : CallOk (state_links r k L) r (Checked r k L) st (pump r k L b st)
    call = call_ok (state_links r k L) r (Checked r k L) (checked_orderly r k L) b st good

    later_is : later ≡ (pump r k L b st).state
    later_is =
        let same : (pump r k L b st).state.logs ≡ logs = ap (λ (x : State). x.logs) call.replays ∙ replayed_logs r k L (pump r k L b st).made st in
        ap₂ state_of (ap (λ (o : DeliverOutcome). o.words) call_is) (sym same)

    pub returns_fall : all_waiting r k L st ≡ (deliver_pending_on r k L b words logs).answer.deliveries + all_waiting r k L later
    returns_fall = rw (later_is, call_is) call.total_falls

    pub stops_only : ((deliver_pending_on r k L b words logs).answer.deliveries ≡ b)
        ⊎ ((i s : ℕ) → IsLink r i s → (pump r k L b st).passed i s ≡ false → N_at r k L later s s ≤ N_at r k L later i s)
    stops_only = either (stops (state_links r k L) r b (Checked r k L) (checked_orderly r k L) st good)
      where
        either : (length (pump r k L b st).made ≡ b)
            ⊎ ((i s : ℕ) → IsLink r i s → (pump r k L b st).passed i s ≡ false → (state_links r k L).waiting i s (pump r k L b st).state ≡ 0)
            → ((deliver_pending_on r k L b words logs).answer.deliveries ≡ b)
            ⊎ ((i s : ℕ) → IsLink r i s → (pump r k L b st).passed i s ≡ false → N_at r k L later s s ≤ N_at r k L later i s)
        either (inl e) = inl (rw call_is e)
        either (inr none) = inr (λ i s is never. let e = none i s is never in rw call_is (omega arith))

    pub is_its_deliveries : (later ≡ replayed (state_links r k L) (pump r k L b st).made st) × AllDeliver (state_links r k L) r (pump r k L b st).made st
    is_its_deliveries = (later_is ∙ call.replays, call.delivers)

    pub passes_over : (i s : ℕ) → IsLink r i s → (pump r k L b st).passed i s ≡ true → PassedOver (state_links r k L) st (pump r k L b st) i s
    passes_over = call.skipped

    pub place_within : (i s q : ℕ) → IsLink r i s → (pump r k L b st).passed i s ≡ false → N_at r k L st i s + q ≤ N_at r k L st s s → q * (r * (r - 1)) ≤ b
        → q ≤ times i s (take (q * (r * (r - 1))) (pump r k L b st).made)
    place_within i s q is never l = served_within (state_links r k L) r b (Checked r k L) (checked_orderly r k L) st i s is q good never (omega arith)

-- what an accepted call leaves is `Checked` again
module _ (r k L b : ℕ) (words logs : List ℕ) (accepted : (deliver_pending_on r k L b words logs).answer.number ≡ 0) where
  pub accepted_again : (b' : ℕ) → (deliver_pending_on r k L b' (deliver_pending_on r k L b words logs).words logs).answer.number ≡ 0
  accepted_again b' =
      checked_accepted r k L b' (deliver_pending_on r k L b words logs).words logs
      (rw (later_is r k L b words logs accepted) (call r k L b words logs accepted).good)

-- ---- a state that a run, and deliveries behind it, can reach

record Reached (r k L : ℕ) (st : State) : Type 0 where
  chassis : Chassis
  ledgers : ℕ → Ledger
  matches : Matches r k L st chassis ledgers

abbrev run_of : {r k L : ℕ} {st : State} → Reached r k L st → RunAt r k L
run_of g = run_at g.matches

-- it is `Checked`
module _ {r k L : ℕ} (now : RunAt r k L) where
  reached_numbered : (s n : ℕ) → s < r → n < N_in now s s → is_numbered s (suc n) (waiting_part (suc n) (log_in now s)) ≡ true
  unfolding is_numbered
  reached_numbered s n hs l =
      let made : n < length (now.chassis.log s) = let all = own_N (run_cards now) s hs in omega arith in
      let fields = fields_are (run_cards now) s s hs hs n made in
      rw (message_stands now s n hs made).waits (simp tests ((fields.0, fields.1), (fields.2 ∙ omega arith)))

  reached_checked : Checked r k L now.state
  reached_checked = record {
    sizes = now.matches.cards.sizes;
    words_fit = now.matches.words_fit;
    logs_fit = now.matches.logs_fit;
    heads = now.matches.cards.cards_show.heads;
    low = λ i hi. (now.matches.cards.cards_show.shows i hi).fits.low;
    rows = λ i q hi hq. row_from (words_in now i) q (reached_row (run_cards now) i q hi hq);
    numbered = reached_numbered;
    few = λ i s hi hs.
        let a = reached_N (run_cards now) i s hi hs in let c = own_N (run_cards now) s hs in let d = received_few (run_cards now) i s in omega arith;
  }

module _ {r k L : ℕ} (now : RunAt r k L) (i s : ℕ) (is : IsLink r i s) (w : 0 < N_in now s s - N_in now i s) where
  accepts : eqb (delivered r k L i s now.state).answer.number 0 ≡ true
  accepts = rw (one_delivered now i s is.0 is.1 (omega arith) is.2)

  after : Reached r k L (delivered r k L i s now.state).state
  after = record { chassis = _; ledgers = _; matches = (link_matches now i s is (omega arith)).0 }

module _ (r k L : ℕ) where
  reached_orderly : Orderly (state_links r k L) r (Reached r k L)
  reached_orderly =
      let o = checked_orderly r k L in
      record {
        keeps = λ i s st is g w e. after (run_of g) i s is w;
        takes_one = λ i s st is g. o.takes_one i s st is (reached_checked (run_of g));
        others_stay = λ i s st is g. o.others_stay i s st is (reached_checked (run_of g));
        declined_stays = λ i s st is g. o.declined_stays i s st is (reached_checked (run_of g));
      }

  -- ---- one call

  module _ (b : ℕ) (words logs : List ℕ) (g : Reached r k L (state_of words logs)) where
    reached_accepted : (deliver_pending_on r k L b words logs).answer.number ≡ 0
    reached_accepted = checked_accepted r k L b words logs (reached_checked (run_of g))

    never_passes : (i s : ℕ) → (pump r k L b (state_of words logs)).passed i s ≡ false
    never_passes = never_passed (state_links r k L) r b (Reached r k L) reached_orderly (state_of words logs) g (λ i s st is g w. accepts (run_of g) i s is w)

    reached_later : Reached r k L (later r k L b words logs)
    reached_later =
        rw (later_is r k L b words logs reached_accepted)
        (call_ok (state_links r k L) r (Reached r k L) reached_orderly b (state_of words logs) g).good

    later_steps : state_after r k L (pump_steps (pump r k L b (state_of words logs)).made) (state_of words logs) ≡ later r k L b words logs
    later_steps =
        let done = is_its_deliveries r k L b words logs reached_accepted in
        sym (replayed_steps r k L (pump r k L b (state_of words logs)).made (state_of words logs) done.1) ∙ sym done.0

  -- ---- calls one after the other: the steps of their deliveries lead to the same state, and each is answered with 0 and 0

  record CallsOk (bs words logs : List ℕ) : Type 0 where
    leaves : Reached r k L (state_of (words_after_calls r k L bs words logs) logs)
    as_steps : state_after r k L (steps_of_calls r k L bs words logs) (state_of words logs) ≡ state_of (words_after_calls r k L bs words logs) logs
    zeros : answers_of r k L (steps_of_calls r k L bs words logs) (state_of words logs)
        ≡ replicate {A = ℕ} (answer_length * length (steps_of_calls r k L bs words logs)) 0

  calls_ok : (bs words logs : List ℕ) → Reached r k L (state_of words logs) → CallsOk bs words logs
  unfolding words_after_calls steps_of_calls state_after answers_of
  calls_ok [] words logs g = record { leaves = g; as_steps = refl; zeros = refl }
  calls_ok (b ∷ bs) words logs g =
      let st = state_of words logs in
      let first = pump_steps (pump r k L b st).made in
      let words' = (deliver_pending_on r k L b words logs).words in
      let others = steps_of_calls r k L bs words' logs in
      let one = later_steps b words logs g in
      let rest = calls_ok bs words' logs (reached_later b words logs g) in
      let long : answer_length * length (first ++ others) ≡ answer_length * length first + answer_length * length others
      = rw (length-append first others) (omega arith) in
      record {
        leaves = rest.leaves;
        as_steps = after_append r k L first others st ∙ ap (state_after r k L others) one ∙ rest.as_steps;
        zeros =
            answers_append r k L first others st
            ∙ ap₂ ◌++◌ (answered_zeros r k L (pump r k L b st).made st (is_its_deliveries r k L b words logs (reached_accepted b words logs g)).1)
            (ap (answers_of r k L others) one ∙ rest.zeros)
            ∙ replicate-append-replicate (answer_length * length first) (answer_length * length others) 0
            ∙ ap (λ n. replicate {A = ℕ} n 0) (sym long);
      }

-- ---- after a run and its calls

module _ (r k L : ℕ) (steps : List Step) (words logs answers : List ℕ) (accepted : (run_on r k L steps words logs answers).number ≡ 0) (bs : List ℕ) where
  abbrev ran : RunOutcome
  ran = run_on r k L steps words logs answers

  abbrev now : State
  now = state_of (words_after_calls r k L bs ran.words ran.logs) ran.logs

  abbrev more : List Step
  more = steps_of_calls r k L bs ran.words ran.logs

  right : sizes_right r k L (length steps) words logs answers ≡ true
  right = (accepted_sizes r k L steps words logs answers).0.0 accepted

  -- what the run leaves
  ran_leaves : state_of ran.words ran.logs ≡ state_after r k L steps (fresh_state r k L logs)
  ran_leaves = ap (λ (o : RunOutcome). state_of o.words o.logs) (run_is r k L steps words logs answers right)

  calls : CallsOk r k L bs ran.words ran.logs
  calls =
      let z = right_sizes r k L (length steps) words logs answers right in
      let matches = (run_matches steps (run_at (fresh_matches r k L logs z.0 z.1))).0 in
      calls_ok r k L bs ran.words ran.logs (rw ran_leaves (record { chassis = _; ledgers = _; matches = matches }))

  now_is : state_after r k L (steps ++ more) (fresh_state r k L logs) ≡ now
  now_is = after_append r k L steps more (fresh_state r k L logs) ∙ ap (state_after r k L more) (sym ran_leaves) ∙ calls.as_steps

  pub run_and_calls : (answers' : List ℕ) → length answers' ≡ answer_length * length (steps ++ more)
      → run_on r k L (steps ++ more) words logs answers'
      ≡ record { number = 0; words = now.words; logs = ran.logs; answers = ran.answers ++ replicate {A = ℕ} (answer_length * length more) 0 }
  run_and_calls answers' long =
      let answered : answers_of r k L (steps ++ more) (fresh_state r k L logs) ≡ ran.answers ++ replicate {A = ℕ} (answer_length * length more) 0
      = answers_append r k L steps more (fresh_state r k L logs)
      ∙ ap₂ ◌++◌ (sym (answers_are r k L steps words logs answers right)) (ap (answers_of r k L more) (sym ran_leaves) ∙ calls.zeros) in
      run_is r k L (steps ++ more) words logs answers' (right_for r k L (length steps) (length (steps ++ more)) words logs answers answers' right long)
      ∙ ap₂ (λ (x : State) told. record { number = 0; words = x.words; logs = x.logs; answers = told }) now_is answered

  pub ledger_theorem_after_calls : (i q : ℕ) → i < r → q < k
      → read_on (part (replica_length r k) now.words i) q
      ≡ ledger_reading r i (ledger_of r q (steps ++ more) (ran.answers ++ replicate {A = ℕ} (answer_length * length more) 0))
  ledger_theorem_after_calls =
      let n = answer_length * length (steps ++ more) in
      let is = run_and_calls (replicate n 0) (length-replicate n 0) in
      rw is at (ledger_theorem_over_records r k L (steps ++ more) words logs (replicate n 0) (rw is))

  module _ (b : ℕ) where
    pub accepted_after_run : (deliver_pending_on r k L b now.words ran.logs).answer.number ≡ 0
    accepted_after_run = reached_accepted r k L b now.words ran.logs calls.leaves

    pub passes_none : (i s : ℕ) → (pump r k L b now).passed i s ≡ false
    passes_none = never_passes r k L b now.words ran.logs calls.leaves

    abbrev made : List Link
    made = (pump r k L b now).made

    abbrev last : State
    last = later r k L b now.words ran.logs

    pub place_taken : (i s q : ℕ) → IsLink r i s → N_at r k L now i s + q ≤ N_at r k L now s s → q * (r * (r - 1)) ≤ b
        → (N_at r k L now i s + q ≤ N_at r k L (state_after r k L (pump_steps (take (q * (r * (r - 1))) made)) now) i s)
        × (N_at r k L now i s + q ≤ N_at r k L last i s)
    place_taken i s q is l fits =
        let n = q * (r * (r - 1)) in
        let done = is_its_deliveries r k L b now.words ran.logs accepted_after_run in
        let g = reached_checked (run_of calls.leaves) in
        let enough = place_within r k L b now.words ran.logs accepted_after_run i s q is (passes_none i s) l fits in
        let first = deliver_first (state_links r k L) r n made now done.1 in
        let some = replayed_N r k L (take n made) now i s is.1 g first in
        let all = replayed_N r k L made now i s is.1 g done.1 in
        let fewer = times_part i s n made in
        let end : N_at r k L last i s ≡ N_at r k L (replayed (state_links r k L) made now) i s = ap (λ x. N_at r k L x i s) done.0 in
        (rw (← (replayed_steps r k L (take n made) now first)) (omega arith), omega arith)

    pub agreement : all_waiting r k L now ≤ b
        → (all_waiting r k L last ≡ 0)
        × ((i j q : ℕ) → i < r → j < r → q < k
        → read_on (part (replica_length r k) last.words i) q ≡ read_on (part (replica_length r k) last.words j) q)
    agreement enough =
        let z = right_sizes r k L (length steps) words logs answers right in
        let begin = fresh_state r k L logs in
        let all = (steps ++ more) ++ pump_steps made in
        let none : (i s : ℕ) → IsLink r i s → (state_links r k L).waiting i s last ≡ 0
        = rw (call_is r k L b now.words ran.logs accepted_after_run)
        (drained (state_links r k L) r b (Reached r k L) (reached_orderly r k L) now calls.leaves (λ i s is. passes_none i s) enough) in
        let is : state_after r k L all begin ≡ last
        = after_append r k L (steps ++ more) (pump_steps made) begin
        ∙ ap (state_after r k L (pump_steps made)) now_is
        ∙ later_steps r k L b now.words ran.logs calls.leaves in
        let run = rw is at (state_run r k L all logs z.0 z.1) in
        let has_all : (i : ℕ) → i < r → (s : ℕ) → s < r → N_at r k L last i s ≡ N_at r k L last s s
        = λ i hi. received_all run i hi (λ s is. let e = none i s is in omega arith) in
        (total_zero (state_links r k L) r last none, λ i j q hi hj. same_reads run i j hi hj (λ s hs. has_all i hi s hs ∙ sym (has_all j hj s hs)) q)
