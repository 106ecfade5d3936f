-- LAWS. Every step of a reached state gives the answer that is due (`due_answer`): by its action and its amount, and by the five outcomes of a call that makes a message.
use Rattle.std.specs.Prelude.{ℕ, suc, ◌+◌, ◌-◌, ◌*◌, ◌≤◌, ◌<◌, ◌≡◌, ◌≢◌, Bool, not, cond, ◌&&◌, List, [], ◌∷◌, ◌++◌, length, leb, ltb, eqb}
use Rattle.std.proofs.Math.Path.{refl}
use Rattle.std.proofs.Common.{sym, ap, ◌∙◌, arith, length-drop}
use Rattle.std.proofs.Math.Bool.{true, false}
use Rattle.std.proofs.Math.ListN.{drop}
use borrow.Author.Tests.{lt-ltb, le-ltb, le-leb, lt-leb, ne_eqb}
use Rattle.protocol.specs.Limits.{short_output, bad_card, bad_counter, bad_kind, nothing_waiting, bad_amount}
use Rattle.protocol.proofs.Cases.{by_le, by_test, by_place}
use Rattle.protocol.specs.Checks.{first_failing, Gives}
use Rattle.protocol.proofs.ChecksLaws.{distinct, first_is, first_among}
use Rattle.protocol.specs.RoundRobin.{IsLink}
use Rattle.protocol.specs.Ledger.{Ledger, link_waits, ledger_value}
use Rattle.protocol.proofs.Links.{link_waits_is}
use Rattle.replica_model.specs.Calls.{read_on}
use Rattle.chassis_model.proofs.ListPartsLaws.{part_length}
use Rattle.chassis_model.specs.Run.{Making, Action, Make, Deliver, Nothing, Step, action_of, amount_fits, call_of, State, Stepped, StepAnswer, answered, answer_length, declined, replica_of, log_of, free_from, made, delivered, performed, acted, step_on, state_after, answers_of}
use Rattle.chassis_model.specs.Ledger.{was_accepted}
use Rattle.chassis_model.proofs.Makings.{value_read}
use Rattle.chassis_model.specs.Answers.{message_size, due_checks, value_asked, due_answer, answer_in, run_answer}
use Rattle.chassis_model.proofs.InStep.{reached_N}
use Rattle.chassis_model.proofs.Matches.{RunAt, run_cards, log_in, N_in, free_in}
use Rattle.chassis_model.proofs.StepLaws.{is_link, acted_cases, performed_is, declined_is, link_passes}
use Rattle.chassis_model.proofs.MadeSteps.{step_number, told_step, made_cases}
use Rattle.chassis_model.proofs.DeliveredSteps.{one_delivered}
use Rattle.chassis_model.proofs.Ends.{ends_within}

pub due_distinct : (r k L any : ℕ) (a : Action) (fits : Bool) (st : State) (ls : ℕ → Ledger) → distinct (due_checks r k L any a fits st ls) ≡ true
due_distinct r k L any (Make m i q) fits st ls = refl
due_distinct r k L any (Deliver i s) fits st ls = refl
due_distinct r k L any Nothing fits st ls = refl

-- ---- the value that a step answers, in any state

pub no_value : (accepted : Bool) → ◌≡◌ {A = ℕ} 0 (cond accepted 0 0)
no_value true = refl
no_value false = refl

-- a call's number and the step's are both 0 or both not
number_none : (n : ℕ) → eqb n 0 ≡ eqb (step_number n) 0
number_none n = by_place n short_output (λ e. rw e) (λ d. rw (ne_eqb n short_output d))

module _ (r k L : ℕ) (st : State) where
  abbrev ReadBefore : Action → StepAnswer → Type 0
  ReadBefore a answer = answer.value ≡ cond (was_accepted answer.number) (value_asked a (λ i q. (read_on (replica_of r k L st i) q).value)) 0

  performed_value : (a : Action) → ReadBefore a (performed r k L a st).answer
  unfolding made delivered value_asked
  performed_value (Make m i q) =
      let b = replica_of r k L st i in
      let out = drop (free_from r k L st i) (log_of r k L st i) in
      rw (← (number_none (call_of m q b out).answer.number)) (value_read m i q b out (λ j c. (read_on (replica_of r k L st j) c).value) refl)
  performed_value (Deliver i s) = no_value (was_accepted (delivered r k L i s st).answer.number)
  performed_value Nothing = refl

  pub step_value : (s : Step) → ReadBefore (action_of s) (step_on r k L s st).answer
  step_value s =
      acted_cases r k L st (λ stepped. ReadBefore (action_of s) stepped.answer) (action_of s) (amount_fits s)
      (λ n some. rw (ne_eqb n 0 some)) (λ passes. performed_value (action_of s))

-- ---- and what is due in a reached one

module _ {r k L : ℕ} (now : RunAt r k L) (any : ℕ) where
  -- the number that is due
  abbrev due : Action → Bool → ℕ
  due a fits = first_failing (due_checks r k L any a fits now.state now.ledgers)

  due_is : (a : Action) (fits : Bool) (n : ℕ) → Gives (due_checks r k L any a fits now.state now.ledgers) n → n ≡ due a fits
  due_is a fits n gives =
      sym (first_is (due_checks r k L any a fits now.state now.ledgers) (due_distinct r k L any a fits now.state now.ledgers) n gives)

  -- and with the value, the answer
  abbrev due_both : Action → Bool → StepAnswer
  due_both a fits = record { number = due a fits; value = cond (eqb (due a fits) 0) (value_asked a (λ i q. ledger_value i (now.ledgers q))) 0 }

  refused_both : (a : Action) (fits : Bool) (n : ℕ) → n ≢ 0 → n ≡ due a fits → answered n ≡ due_both a fits
  refused_both a fits n some gives = rw (← gives, ne_eqb n 0 some)

  accepted_both : (a : Action) (fits : Bool) → 0 ≡ due a fits → record { number = 0; value = value_asked a (λ i q. ledger_value i (now.ledgers q)) } ≡ due_both a fits
  accepted_both a fits gives = rw (← gives)

  -- an action that its own checks decline
  declined_due : (a : Action) (fits : Bool) (n : ℕ) → n ≢ 0 → acted r k L a fits now.state ≡ declined now.state n → n ≡ due a fits
      → (acted r k L a fits now.state).answer ≡ due_both a fits
  declined_due a fits n some is gives = ap (λ (stepped : Stepped). stepped.answer) is ∙ refused_both a fits n some gives

  -- ---- a message made

  made_due : (m : Making) (i q : ℕ) → i < r → (made r k L i (call_of m q) now.state).answer ≡ due_both (Make m i q) true
  made_due m i q hi =
      let a = Make m i q in
      let N = N_in now i i in
      let used = free_in now i in
      let size = message_size r m i q (now.ledgers q) in
      let log = log_in now i in
      let there = lt-ltb i r hi in
      let inside : used ≤ length log = ends_within N log in
      let long : length log ≡ L = part_length r L i now.state.logs now.matches.logs_fit hi in
      let left : length (drop used log) ≡ length log - used = length-drop used log in
      let same : leb (used + size) L ≡ leb size (length (drop used log))
      = by_le size (length (drop used log)) (λ l. rw (le-leb size (length (drop used log)) l) (le-leb (used + size) L (omega arith)))
      (λ l. rw (lt-leb size (length (drop used log)) l) (lt-leb (used + size) L (omega arith))) in
      let is : told_step now m i q hi ≡ due a true = rw (there, same) in
      made_cases now m i q hi (λ stepped. stepped.answer ≡ due_both a true)
      (λ n some told. refused_both a true n some (told ∙ is))
      (λ told may goes room. accepted_both a true (told ∙ is))

  -- by a card and on a counter that are there
  make_there : (m : Making) (i q : ℕ) (fits : Bool) → i < r → q < k → (acted r k L (Make m i q) fits now.state).answer ≡ due_both (Make m i q) fits
  make_there m i q true hi hq = rw (performed_is r k L now.state (Make m i q) true (lt-ltb i r hi, (lt-ltb q k hq, (refl, tt)))) (made_due m i q hi)
  make_there m i q false hi hq =
      let a = Make m i q in
      let there = lt-ltb i r hi in
      let counter = lt-ltb q k hq in
      declined_due a false bad_amount (λ e. omega arith) (declined_is r k L now.state a false bad_amount (λ e. omega arith) (there, (counter, refl)))
      (due_is a false bad_amount (there, (counter, refl)))

  make_due : (m : Making) (i q : ℕ) (fits : Bool) → (acted r k L (Make m i q) fits now.state).answer ≡ due_both (Make m i q) fits
  make_due m i q fits =
      let a = Make m i q in
      by_le (suc i) r
      (λ hi. by_le (suc q) k
      (make_there m i q fits hi)
      (λ far.
      let there = lt-ltb i r hi in
      let no = le-ltb q k (omega arith) in
      declined_due a fits bad_counter (λ e. omega arith) (declined_is r k L now.state a fits bad_counter (λ e. omega arith) (there, no))
      (due_is a fits bad_counter (there, no))))
      (λ far.
      let no = le-ltb i r (omega arith) in
      declined_due a fits bad_card (λ e. omega arith) (declined_is r k L now.state a fits bad_card (λ e. omega arith) no) (due_is a fits bad_card no))

  -- ---- a message handed over

  waits_told : (i s : ℕ) → IsLink r i s → link_waits i s (now.ledgers any) ≡ ltb (N_in now i s) (N_in now s s)
  waits_told i s (hi, hs, apart) =
      rw (reached_N (run_cards now) i s hi hs, reached_N (run_cards now) s s hs hs)
      (link_waits_is r any now.chassis (now.ledgers any) (now.matches.cards.invariants any) i s apart)

  -- on a link
  link_due : (i s : ℕ) (fits : Bool) → ltb i r && ltb s r && not (eqb i s) ≡ true → (acted r k L (Deliver i s) fits now.state).answer ≡ due_both (Deliver i s) fits
  unfolding value_asked
  link_due i s true linked =
      let a = Deliver i s in
      let is = is_link r i s linked in
      let told = waits_told i s is in
      by_le (suc (N_in now i s)) (N_in now s s)
      (λ waits.
      let yes = lt-ltb (N_in now i s) (N_in now s s) waits in
      rw (performed_is r k L now.state a true (link_passes r k L now.state i s true refl is waits), one_delivered now i s is.0 is.1 waits is.2)
      (accepted_both a true (due_is a true 0 (linked, (refl, (told ∙ yes, refl))))))
      (λ none.
      let never = le-ltb (N_in now i s) (N_in now s s) (omega arith) in
      declined_due a true nothing_waiting (λ e. omega arith) (declined_is r k L now.state a true nothing_waiting (λ e. omega arith) (linked, (refl, never)))
      (due_is a true nothing_waiting (linked, (refl, told ∙ never))))
  link_due i s false linked =
      let a = Deliver i s in
      declined_due a false bad_amount (λ e. omega arith) (declined_is r k L now.state a false bad_amount (λ e. omega arith) (linked, refl))
      (due_is a false bad_amount (linked, refl))

  deliver_due : (i s : ℕ) (fits : Bool) → (acted r k L (Deliver i s) fits now.state).answer ≡ due_both (Deliver i s) fits
  deliver_due i s fits =
      let a = Deliver i s in
      by_test (ltb i r && ltb s r && not (eqb i s))
      (link_due i s fits)
      (λ apart. declined_due a fits bad_card (λ e. omega arith) (declined_is r k L now.state a fits bad_card (λ e. omega arith) apart) (due_is a fits bad_card apart))

  -- ---- every action, and every step

  pub action_answer : (a : Action) (fits : Bool) → (acted r k L a fits now.state).answer ≡ due_both a fits
  action_answer (Make m i q) fits = make_due m i q fits
  action_answer (Deliver i s) fits = deliver_due i s fits
  action_answer Nothing fits =
      declined_due Nothing fits bad_kind (λ e. omega arith) (declined_is r k L now.state Nothing fits bad_kind (λ e. omega arith) refl) (due_is Nothing fits bad_kind refl)

  pub action_due : (a : Action) (fits : Bool) → (acted r k L a fits now.state).answer.number ≡ due a fits
  action_due a fits = ap (λ (x : StepAnswer). x.number) (action_answer a fits)

  -- an accepted action answers the value that it asks for
  pub accepted_value : (a : Action) (fits : Bool) → (acted r k L a fits now.state).answer.number ≡ 0
      → (acted r k L a fits now.state).answer.value ≡ value_asked a (λ i q. ledger_value i (now.ledgers q))
  accepted_value a fits e = ap (λ (x : StepAnswer). x.value) (action_answer a fits) ∙ rw (sym (action_due a fits) ∙ e)

  pub step_answer : (s : Step) → (step_on r k L s now.state).answer ≡ due_answer r k L any s now.state now.ledgers
  unfolding due_answer
  step_answer s = action_answer (action_of s) (amount_fits s)

-- ---- the answers of a list

pub answer_at : (r k L : ℕ) (before : List Step) (s : Step) (after : List Step) (st : State)
    → answer_in (answers_of r k L (before ++ s ∷ after) st) (length before) ≡ (step_on r k L s (state_after r k L before st)).answer
unfolding answers_of state_after
answer_at r k L [] s after st = refl
answer_at r k L (x ∷ before) s after st =
    let next : answer_length * suc (length before) ≡ suc (suc (answer_length * length before)) = omega arith in
    rw next (answer_at r k L before s after (step_on r k L x st).state)

pub due_is_answer : (r k L any : ℕ) (s : Step) (st : State) (ls : ℕ → Ledger) → run_answer (due_answer r k L any s st ls).number ≡ true
unfolding due_answer
due_is_answer r k L any s st ls = among (action_of s) (amount_fits s)
  where
    among : (a : Action) (fits : Bool) → run_answer (first_failing (due_checks r k L any a fits st ls)) ≡ true
    among (Make m i q) fits = first_among run_answer refl (due_checks r k L any (Make m i q) fits st ls) refl
    among (Deliver i s) fits = first_among run_answer refl (due_checks r k L any (Deliver i s) fits st ls) refl
    among Nothing fits = first_among run_answer refl (due_checks r k L any Nothing fits st ls) refl
