-- LAWS. What an action does by its own checks, and beside the theory: a declined one leaves everything as it was, and an accepted one is the theory's step. So
-- every action in a reached state leads to a reached state, beside the chassis and the ledgers after the same step; and so does every step, which is the action
-- that it asks for.
use Rattle.std.specs.Prelude.{ℕ, ◌*◌, ◌<◌, ◌≡◌, refl, ◌≢◌, Bool, true, not, ◌&&◌, length, ltb, eqb}
use Rattle.std.proofs.lemmas.Bool.{false≢true, eqb-false, not-true}
use Rattle.std.proofs.Math.Bool.{and-eq-true_iff}
use Rattle.std.proofs.Common.{ltb-true, lt-ltb, ne_eqb}
use Rattle.protocol.specs.Checks.{AllPass, Gives}
use Rattle.protocol.proofs.ChecksLaws.{distinct, all_accepts, checked_cases, refusal_is}
use Rattle.protocol.specs.RoundRobin.{IsLink}
use Rattle.protocol.specs.Ledger.{after_step, after_accepted}
use Rattle.protocol.specs.Chassis as protocol
use Rattle.protocol.specs.Chassis.{done, enabled}
use Rattle.protocol.proofs.Enabled.{deliverable}
use Rattle.replica_model.specs.Layout.{replica_length}
use Rattle.chassis_model.specs.Run.{Making, Action, Make, Deliver, Nothing, State, Stepped, declined, replica_of, log_of, N_at, step_checks, performed, acted, Step, action_of, amount_fits, call_of, made, delivered, step_on}
use Rattle.chassis_model.specs.Ledger.{ledger_action, was_accepted, ledger_step}
use Rattle.chassis_model.proofs.Numbered.{wire_log}
use Rattle.chassis_model.proofs.InStep.{CardsShow, reached_N}
use Rattle.chassis_model.proofs.Offers.{offer}
use Rattle.chassis_model.proofs.Matches.{Holds, Matches, RunAt, run_cards, N_in}
use Rattle.chassis_model.proofs.Moves.{done_after, accepted_in_step}
use Rattle.chassis_model.proofs.Makings.{making_enabled, making_done}
use Rattle.chassis_model.proofs.Sends.{next_message, value_told, size_is}
use Rattle.chassis_model.proofs.MadeSteps.{made_cases, state_made, made_words_fit, made_logs_fit, made_shows, made_holds}
use Rattle.chassis_model.proofs.DeliveredSteps.{state_delivered, one_delivered, delivered_fits, delivered_shows, delivered_holds}

-- ---- by its checks

-- the cards of a delivery
pub is_link : (r i s : ℕ) → ltb i r && ltb s r && not (eqb i s) ≡ true → IsLink r i s
is_link r i s e =
    let f = simp and-eq-true_iff at e in (ltb-true i r f.0.0, ltb-true s r f.0.1, eqb-false i s (not-true _ f.1))

pub link_test : (r i s : ℕ) → IsLink r i s → ltb i r && ltb s r && not (eqb i s) ≡ true
link_test r i s is = rw (lt-ltb i r is.0, lt-ltb s r is.1, ne_eqb i s is.2)

module _ (r k L : ℕ) (st : State) where
  numbers_differ : (a : Action) (fits : Bool) → distinct (step_checks r k L a fits st) ≡ true
  numbers_differ (Make m i q) fits = refl
  numbers_differ (Deliver i s) fits = refl
  numbers_differ Nothing fits = refl

  -- it is declined, or its checks pass and it is performed
  pub acted_cases : (P : Stepped → Type 0) (a : Action) (fits : Bool) → ((n : ℕ) → n ≢ 0 → P (declined st n)) → (AllPass (step_checks r k L a fits st) → P (performed r k L a st))
      → P (acted r k L a fits st)
  unfolding acted
  acted_cases P a fits refuses accepts = checked_cases (declined st) (step_checks r k L a fits st) (performed r k L a st) (numbers_differ a fits) P refuses accepts

  pub performed_is : (a : Action) (fits : Bool) → AllPass (step_checks r k L a fits st) → acted r k L a fits st ≡ performed r k L a st
  unfolding acted
  performed_is a fits passes = all_accepts (declined st) (performed r k L a st) (step_checks r k L a fits st) passes

  pub declined_is : (a : Action) (fits : Bool) (n : ℕ) → n ≢ 0 → Gives (step_checks r k L a fits st) n → acted r k L a fits st ≡ declined st n
  unfolding acted
  declined_is a fits n some gives = refusal_is (declined st) (step_checks r k L a fits st) (performed r k L a st) (numbers_differ a fits) n some gives

  -- what the checks of each action say
  pub maker_there : (m : Making) (i q : ℕ) (fits : Bool) → AllPass (step_checks r k L (Make m i q) fits st) → i < r
  maker_there m i q fits (there, _) = ltb-true i r there

  pub link_there : (i s : ℕ) (fits : Bool) → AllPass (step_checks r k L (Deliver i s) fits st) → IsLink r i s × (N_at r k L st i s < N_at r k L st s s)
  link_there i s fits (linked, (_, (waits, _))) = (is_link r i s linked, ltb-true _ _ waits)

  pub link_passes : (i s : ℕ) (fits : Bool) → fits ≡ true → IsLink r i s → N_at r k L st i s < N_at r k L st s s → AllPass (step_checks r k L (Deliver i s) fits st)
  link_passes i s fits none is waits = (link_test r i s is, (none, (lt-ltb _ _ waits, tt)))

  none_passes : (fits : Bool) → AllPass (step_checks r k L Nothing fits st) → ⊥
  none_passes fits (never, _) = false≢true never

-- ---- beside the theory

-- what an action leaves, beside the chassis and the ledgers after it; and the theory accepts its step exactly if the run did
abbrev pub StepMatches : {r k L : ℕ} → RunAt r k L → Action → Stepped → Type 0
StepMatches {r} {k} {L} now a stepped =
    let number = stepped.answer.number in
    Matches r k L stepped.state (protocol.stepped r (offer (ledger_action a) number) now.chassis) (λ q. after_step r q (ledger_action a) (was_accepted number) (now.ledgers q))
    × (protocol.accepted r (offer (ledger_action a) number) now.chassis ≡ was_accepted number)

module _ {r k L : ℕ} (now : RunAt r k L) (a : Action) where
  declined_matches : (number : ℕ) → number ≢ 0 → StepMatches now a (declined now.state number)
  unfolding protocol.stepped after_step
  declined_matches number some = rw (ne_eqb number 0 some) (now.matches, refl)

  accepted_matches : (value : ℕ) (after : State) → enabled r (ledger_action a) now.chassis ≡ true
      → length after.words ≡ r * replica_length r k → length after.logs ≡ r * L
      → CardsShow r k (replica_of r k L after) (done r (ledger_action a) now.chassis)
      → ((j : ℕ) → j < r → Holds (log_of r k L after j) (wire_log j ((done r (ledger_action a) now.chassis).log j)))
      → StepMatches now a (record { answer = record { number = 0; value = value }; state = after })
  accepted_matches value after on words logs cards_show holds = (
    record {
      words_fit = words;
      logs_fit = logs;
      cards = accepted_in_step (run_cards now) (ledger_action a) on (replica_of r k L after) cards_show;
      holds = λ j l. rw (done_after (run_cards now) (ledger_action a) on) (holds j l);
    },
    on,
  )

-- ---- every action and every step

module _ {r k L : ℕ} (now : RunAt r k L) where
  -- a message made
  pub made_matches : (m : Making) (i q : ℕ) → i < r → StepMatches now (Make m i q) (made r k L i (call_of m q) now.state)
  made_matches m i q hi =
      let a = Make m i q in
      made_cases now m i q hi (StepMatches now a)
      (λ n some _. declined_matches now a n some)
      (λ _ may goes fits.
      let x = next_message r now.chassis m i q in
      let is = making_done m r i q now.chassis in
      let room = rw (← (size_is (run_cards now) m i q hi may)) at fits in
      accepted_matches now a (value_told (run_cards now) m i q hi) (state_made now i x) (making_enabled m r i q now.chassis hi may.amount)
      (made_words_fit now i hi x goes)
      (made_logs_fit now i hi x goes room)
      (rw is (made_shows now i hi x goes))
      (rw is (made_holds now i hi x goes room)))

  -- a message handed over
  pub link_matches : (i s : ℕ) → IsLink r i s → N_in now i s < N_in now s s → StepMatches now (Deliver i s) (delivered r k L i s now.state)
  unfolding ledger_action done
  link_matches i s (hi, hs, apart) waits =
      rw (one_delivered now i s hi hs waits apart)
      (accepted_matches now (Deliver i s) 0 (state_delivered now i s)
      (deliverable r i s now.chassis (record {
        receiver = hi;
        sender = hs;
        apart = apart;
        waits = rw (reached_N (run_cards now) i s hi hs, reached_N (run_cards now) s s hs hs) at waits;
      }))
      (delivered_fits now i s hi hs waits apart) now.matches.logs_fit
      (delivered_shows now i s hi hs waits apart)
      (delivered_holds now i s hi hs waits apart))

  performed_matches : (a : Action) (fits : Bool) → AllPass (step_checks r k L a fits now.state) → StepMatches now a (performed r k L a now.state)
  performed_matches (Make m i q) fits passes = made_matches m i q (maker_there r k L now.state m i q fits passes)
  performed_matches (Deliver i s) fits passes = let l = link_there r k L now.state i s fits passes in link_matches i s l.0 l.1
  performed_matches Nothing fits passes = absurd (none_passes r k L now.state fits passes)

  action_matches : (a : Action) (fits : Bool) → StepMatches now a (acted r k L a fits now.state)
  action_matches a fits = acted_cases r k L now.state (StepMatches now a) a fits (declined_matches now a) (performed_matches a fits)

  pub step_matches : (s : Step) → StepMatches now (action_of s) (step_on r k L s now.state)
  step_matches s = action_matches (action_of s) (amount_fits s)

  -- one that is accepted is enabled, and what it leaves

  pub accepted_enabled : (s : Step) → (step_on r k L s now.state).answer.number ≡ 0 → enabled r (ledger_step s) now.chassis ≡ true
  accepted_enabled s e = rw e at (step_matches s).1

  pub accepted_leaves : (s : Step) → (step_on r k L s now.state).answer.number ≡ 0
      → Matches r k L (step_on r k L s now.state).state (done r (ledger_step s) now.chassis) (λ q. after_accepted r q (ledger_step s) (now.ledgers q))
  unfolding protocol.stepped after_step
  accepted_leaves s e = rw (e, accepted_enabled s e) at (step_matches s).0

  pub declined_leaves : (s : Step) → ((step_on r k L s now.state).answer.number ≡ 0 → ⊥) → Matches r k L (step_on r k L s now.state).state now.chassis now.ledgers
  unfolding protocol.stepped after_step
  declined_leaves s d = rw (ne_eqb (step_on r k L s now.state).answer.number 0 d) at (step_matches s).0
