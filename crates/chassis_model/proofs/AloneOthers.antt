-- LAWS. What a step or a call leaves of a counter that is not its own, and a declined step of everything. A call on one counter leaves the other rows of its card
-- (`IsMaking.isolates`, replica_model's `take_isolates`), and every row of a card that a run or a history reaches is well-formed, so reads stay.
use Rattle.std.specs.Prelude.{ℕ, suc, ◌*◌, ◌<◌, ◌≡◌, Bool, true, false, List, length}
use Rattle.std.proofs.Math.Path.{refl, ap}
use Rattle.std.proofs.Common.{sym, ◌∙◌, ltb-true}
use Rattle.std.proofs.Math.ListN.{drop}
use Rattle.std.proofs.lemmas.Bool.{eqb-false}
use Rattle.protocol.proofs.Cases.{by_place}
use Rattle.protocol.specs.Checks.{AllPass}
use Rattle.protocol.proofs.Tables.{put, put_at, put_other}
use Rattle.protocol.specs.Ledger.{Ledger}
use Rattle.protocol.specs.Chassis.{Chassis}
use Rattle.wire.specs.Message.{version_2, message_at}
use Rattle.replica_model.specs.Layout.{cards, counters, own_card, replica_length}
use Rattle.replica_model.specs.Calls.{state, sizes_in_range, read_on, ClearedOutcome, take_on}
use Rattle.replica_model.specs.ClaimTerms.{Right, Isolates}
use Rattle.replica_model.proofs.RowLaws.{row_from, sizes}
use Rattle.replica_model.proofs.CallsLaws.{take_decided}
use Rattle.replica_model.proofs.Performed.{performed}
use Rattle.replica_model.proofs.Claims.{take_performs, take_isolates}
use Rattle.replica_model.specs.Format.{format_2}
use Rattle.chassis_model.specs.Log.{waiting_part}
use Rattle.chassis_model.specs.ListParts.{part, put_part}
use Rattle.chassis_model.proofs.ListPartsLaws.{put_part_same, part_put}
use Rattle.chassis_model.specs.Run as run
use Rattle.chassis_model.specs.Run.{Making, Action, Make, Deliver, Nothing, Step, action_of, amount_fits, call_of, State, Stepped, replica_of, log_of, N_at, free_from, made, delivered, step_checks, acted, step_on, state_after}
use Rattle.chassis_model.specs.Answers.{fresh_state}
use Rattle.chassis_model.specs.Driver.{Call, make, take, Cards, sent, called}
use Rattle.chassis_model.specs.Alone.{of_counter, call_counter}
use Rattle.chassis_model.proofs.InStep.{InStep, CardsAt, cards_at, reached_right, reached_row}
use Rattle.chassis_model.proofs.Matches.{RunAt, run_at, run_cards, words_in}
use Rattle.chassis_model.proofs.FreshRun.{fresh_matches}
use Rattle.chassis_model.proofs.Numbered.{sendable_limits}
use Rattle.chassis_model.proofs.Makings.{own_message, making, message_sendable}
use Rattle.chassis_model.proofs.StepLaws.{acted_cases, maker_there, link_there}
use Rattle.chassis_model.proofs.MadeSteps.{made_of, declined_made}
use Rattle.chassis_model.proofs.Theorem.{run_matches}

-- ---- one card

-- the words stay as many
send_fits : (m : Making) (q : ℕ) (b out : List ℕ) → Right b → length (call_of m q b out).words ≡ replica_length (cards b) (counters b)
send_fits m q b out h =
    let d = (making m).decided q b out in
    by_place (call_of m q b out).answer.number 0
    (λ e.
    let hq = ltb-true q (counters b) ((d.exact 0).0 e).1.0 in
    let sends = message_sendable m (cards b) (counters b) (own_card b) q (state b) hq in
    rw (d.accepted e) (performed b (own_card b) (own_message m b q) h h.own (sendable_limits (cards b) (counters b) (own_message m b q) sends)).shows.fits.long)
    (λ no. rw (d.refused no) h.fits)

take_fits : (b bytes : List ℕ) → Right b → length (take_on b bytes).words ≡ replica_length (cards b) (counters b)
take_fits b bytes h =
    by_place (take_on b bytes).answer.number 0
    (λ e. (take_performs b bytes e).shows.fits.long)
    (λ d. rw ((take_decided format_2 b bytes).refused d) h.fits)

-- ---- the cards of a chassis, one of which gets other words

module _ {r k : ℕ} (now : CardsAt r k) where
  reads_leave : (j c q : ℕ) (b : List ℕ) → Isolates (now.replicas j) c b → (c ≡ q → ⊥) → (i : ℕ) → i < r → q < k
      → read_on (put j b now.replicas i) q ≡ read_on (now.replicas i) q
  reads_leave j c q b only other i hi hq =
      by_place i j
      (λ e.
      let hj : j < r = rw (← e) hi in
      rw (put_at j b now.replicas i e, e)
      (only.reads_stay q (rw (now.in_step.cards_show.heads j hj).counters_are hq) (λ f. other (sym f)) (row_from (now.replicas j) q (reached_row now j q hj hq))))
      (λ d. rw (put_other j b now.replicas i d))

-- ---- a run's step

module _ (r k L : ℕ) (st : State) where
  -- ---- declined

  made_declined : (m : Making) (i q : ℕ) → ((made r k L i (call_of m q) st).answer.number ≡ 0 → ⊥) → (made r k L i (call_of m q) st).state ≡ st
  unfolding made
  made_declined m i q d =
      let b = replica_of r k L st i in
      let out = drop (free_from r k L st i) (log_of r k L st i) in
      ap (λ (done : ClearedOutcome). (made_of r k L st i done).state) (((making m).decided q b out).refused (λ e. d (rw e)))
      ∙ ap (λ (stepped : Stepped). stepped.state) (declined_made r k L st i (call_of m q b out).answer.number)

  link_declined : (i s : ℕ) → ((delivered r k L i s st).answer.number ≡ 0 → ⊥) → (delivered r k L i s st).state ≡ st
  unfolding delivered
  link_declined i s d =
      rw ((take_decided format_2 (replica_of r k L st i) (waiting_part (suc (N_at r k L st i s)) (log_of r k L st s))).refused d, put_part_same (replica_length r k) i st.words)

  performed_declined : (a : Action) → ((run.performed r k L a st).answer.number ≡ 0 → ⊥) → (run.performed r k L a st).state ≡ st
  performed_declined (Make m i q) d = made_declined m i q d
  performed_declined (Deliver i s) d = link_declined i s d
  performed_declined Nothing d = refl

  pub declined_leaves : (s : Step) → ((step_on r k L s st).answer.number ≡ 0 → ⊥) → (step_on r k L s st).state ≡ st
  declined_leaves s =
      acted_cases r k L st (λ stepped. (stepped.answer.number ≡ 0 → ⊥) → stepped.state ≡ st) (action_of s) (amount_fits s) (λ n some d. refl) (λ passes. performed_declined (action_of s))

-- ---- of another counter

module _ {r k L : ℕ} (now : RunAt r k L) (q i : ℕ) (hi : i < r) (hq : q < k) where
  -- the read of q is the one before
  abbrev ReadStays : Stepped → Type 0
  ReadStays stepped = read_on (replica_of r k L stepped.state i) q ≡ read_on (words_in now i) q

  words_leave : (j c : ℕ) (b : List ℕ) → j < r → length b ≡ replica_length (cards (words_in now j)) (counters (words_in now j))
      → Isolates (words_in now j) c b → (c ≡ q → ⊥)
      → read_on (part (replica_length r k) (put_part (replica_length r k) j b now.state.words) i) q ≡ read_on (words_in now i) q
  words_leave j c b hj fits only other =
      let head = now.matches.cards.cards_show.heads j hj in
      rw (part_put r (replica_length r k) j b now.state.words now.matches.words_fit hj (rw (head.cards_are, head.counters_are) at fits) i)
      (reads_leave (run_cards now) j c q b only other i hi hq)

  performed_stays : (a : Action) (fits : Bool) → AllPass (step_checks r k L a fits now.state) → of_counter r k L q a now.state ≡ false → ReadStays (run.performed r k L a now.state)
  unfolding of_counter made delivered
  performed_stays (Make m j c) fits passes other =
      let hj = maker_there r k L now.state m j c fits passes in
      words_leave j c _ hj (send_fits m c _ _ (reached_right (run_cards now) j hj)) ((making m).isolates c _ _) (eqb-false c q other)
  performed_stays (Deliver j s) fits passes other =
      let hj = (link_there r k L now.state j s fits passes).0.0 in
      words_leave j _ _ hj (take_fits _ _ (reached_right (run_cards now) j hj)) (take_isolates _ _) (eqb-false _ q other)
  performed_stays Nothing fits passes other = refl

  others_leave : (a : Action) (fits : Bool) → of_counter r k L q a now.state ≡ false → ReadStays (acted r k L a fits now.state)
  others_leave a fits other = acted_cases r k L now.state ReadStays a fits (λ n some. refl) (λ passes. performed_stays a fits passes other)

pub others_leave_after : (r k L q : ℕ) (before : List Step) (s : Step) (logs : List ℕ) → sizes_in_range r k ≡ true → length logs ≡ r * L
    → let st = state_after r k L before (fresh_state r k L logs) in
    of_counter r k L q (action_of s) st ≡ false
    → (i : ℕ) → i < r → q < k → read_on (replica_of r k L (step_on r k L s st).state i) q ≡ read_on (replica_of r k L st i) q
others_leave_after r k L q before s logs right fits other i hi hq =
    let ran = run_matches before (run_at (fresh_matches r k L logs (sizes r k right) fits)) in
    others_leave (run_at ran.0) q i hi hq (action_of s) (amount_fits s) other

-- ---- a driver's call, be it genuine or forged

pub other_call_leaves : {r k : ℕ} (st : Cards) {ch : Chassis} {ls : ℕ → Ledger} → InStep r k st.words ch ls
    → (c : Call) (i q : ℕ) → (call_counter c ≡ q → ⊥) → i < r → q < k → read_on ((called c st).words i) q ≡ read_on (st.words i) q
unfolding called sent
other_call_leaves st h (make m j c out) i q other hi hq =
    reads_leave (cards_at h) j c q _ ((making m).isolates c (st.words j) out) other i hi hq
other_call_leaves st h (take j bytes) i q other hi hq =
    reads_leave (cards_at h) j (message_at version_2 bytes).counter q _ (take_isolates (st.words j) bytes) other i hi hq
