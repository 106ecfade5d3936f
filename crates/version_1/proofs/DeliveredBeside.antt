-- LAWS. A delivery on a chassis beside the theory's: where a message waits it is taken, by the rules of either version from a log of that version, with the same words
-- after it, which are beside the theory's.
use Rattle.std.specs.Prelude.{ℕ, ◌+◌, ◌<◌, ◌≡◌, ◌≢◌, Bool, ◌&&◌, List, length, eqb}
use Rattle.std.proofs.Math.Path.{refl}
use Rattle.std.proofs.Common.{ap, arith}
use Rattle.std.proofs.Math.Bool.{true, not}
use Rattle.std.proofs.Math.Dec.{ltb}
use borrow.Author.Tests.{ltb-true, eq-eqb, ne_eqb}
use Rattle.protocol.specs.Limits.{bad_card, nothing_waiting}
use Rattle.protocol.proofs.Cases.{by_place, by_test}
use Rattle.protocol.specs.Checks.{first_failing}
use Rattle.protocol.proofs.Tables.{put, put_other}
use Rattle.protocol.specs.RoundRobin.{IsLink}
use Rattle.protocol.specs.Ledger.{deliver, after_step}
use Rattle.protocol.specs.Chassis as protocol
use Rattle.protocol.specs.Chassis.{Message, done}
use Rattle.protocol.proofs.Enabled.{deliverable}
use Rattle.protocol.proofs.AcceptanceLaws.{plausible_cong}
use Rattle.wire.specs.Message.{version_1, version_2, is_version, message_bytes, log_bytes}
use Rattle.replica_model.specs.Layout.{C_of, N_of}
use Rattle.replica_model.specs.Format.{on_wire}
use Rattle.replica_model.specs.Calls as today
use Rattle.replica_model.specs.Calls.{TakeOutcome}
use Rattle.chassis_model.proofs.LogLaws.{Readable}
use Rattle.chassis_model.proofs.InStep.{InStep, reached_right, reached_N, own_N}
use Rattle.chassis_model.proofs.Moves.{due_message, done_after, accepted_in_step, delivered_cards_show}
use Rattle.chassis_model.proofs.Takes.{taken_outcome, made_readable, made_sendable, made_row, due_plausible, due_taken}
use Rattle.chassis_model.proofs.StepLaws.{is_link}
use Rattle.version_1.specs.Rules as rules
use Rattle.version_1.specs.Run.{Chassis, Stepped, declined, message_behind, link_checks, delivered, version_of, handed, take_on}
use Rattle.version_1.proofs.Singles.{Single}
use Rattle.version_1.proofs.OldRules.{on_wire_is}
use Rattle.version_1.proofs.OldMessages.{old_take_accepted}
use Rattle.version_1.proofs.OldLogs.{log_in, bytes_in, today_bytes, one_converts, behind_in}
use Rattle.version_1.proofs.Beside.{Beside, is_version_of, cards_beside, all_readable, C≤N_in_words}

-- the same words with other logs
abbrev pub with_logs : Chassis → (ℕ → List ℕ) → Chassis
with_logs st logs = record { words = st.words; logs = logs }

-- ---- the message that waits is taken

module _ {is_old : ℕ → Bool} {r k : ℕ} {st : Chassis} (now : Beside is_old r k st) (i s : ℕ) where
  abbrev b : List ℕ
  b = st.words i

  abbrev m : Message
  m = due_message now.chassis i s

  -- its number among its sender's
  abbrev n : ℕ
  n = N_of r b s + 1

  -- the chassis after it
  abbrev pub after_taken : Chassis
  after_taken = record { words = put i (today.words_after s m b) st.words; logs = st.logs }

  module _ (linked : IsLink r i s) (waits : N_of r b s < N_of r (st.words s) s) where
    pub in_log : (now.chassis.replica i).N s < length (now.chassis.log s)
    in_log =
        let x = reached_N (cards_beside now) i s linked.0 linked.1 in
        let y = own_N (cards_beside now) s linked.1 in
        omega arith

    m_single : Single m
    m_single = now.singles s ((now.chassis.replica i).N s) in_log

    m_readable : Readable (on_wire s n m)
    m_readable =
        let (hi, hs, _) = linked in
        rw (reached_N (cards_beside now) i s hi hs) (made_readable (cards_beside now) i s hi hs ((now.chassis.replica i).N s) in_log)

    -- its bytes, in a log of any version
    pub waiting_bytes : (version : ℕ) → is_version version ≡ true → (logs : ℕ → List ℕ) → logs s ≡ log_bytes (log_in version s (now.chassis.log s))
        → message_behind version (with_logs st logs) s (N_of r b s) ≡ bytes_in version s n m
    waiting_bytes version right logs are =
        rw (are, reached_N (cards_beside now) i s linked.0 linked.1)
        (behind_in s (now.chassis.log s) (all_readable now s) (now.singles s) version right ((now.chassis.replica i).N s) in_log)

    pub waiting_today : bytes_in version_2 s n m ≡ message_bytes (on_wire s n m)
    waiting_today = today_bytes s n m m_single m_readable

    -- taken by the rules of version 1
    pub old_taken : rules.take_on b (bytes_in version_1 s n m) ≡ taken_outcome r s b m
    old_taken =
        let (hi, hs, apart) = linked in
        let cards = cards_beside now in
        let N = (now.chassis.replica i).N s in
        let shown = now.in_step.cards_show.shows i hi in
        rw (← on_wire_is s n m)
        (old_take_accepted r k i s b m (now.in_step.cards_show.heads i hi) (reached_right cards i hi) hs apart
        (made_sendable cards i s hi hs N in_log) m_single m_readable (made_row cards i s hi hs N in_log) (C≤N_in_words now i hi)
        (plausible_cong i s (now.chassis.replica i).C (C_of b) (shown.Cs i hi) (shown.Cs s hs) m (due_plausible cards i s hi hs apart in_log)))

    -- and by those of today
    pub new_taken : today.take_on b (bytes_in version_2 s n m) ≡ taken_outcome r s b m
    new_taken = let (hi, hs, apart) = linked in rw waiting_today (due_taken (cards_beside now) i s hi hs apart in_log)

    -- by those of the card's version, handed over in it
    handed_is : handed is_old s i (bytes_in (version_of is_old s) s n m) ≡ bytes_in (version_of is_old i) s n m
    handed_is =
        let v = version_of is_old s in
        let w = version_of is_old i in
        by_place v w
        (λ e. rw (eq-eqb v w e) (ap (λ (x : ℕ). bytes_in x s n m) e))
        (λ d. rw (ne_eqb v w d) (one_converts s n m m_single m_readable v w (is_version_of is_old s)))

    pub taken : take_on is_old s i b (message_behind (version_of is_old s) st s (N_of r b s)) ≡ taken_outcome r s b m
    taken =
        rw (waiting_bytes (version_of is_old s) (is_version_of is_old s) st.logs (now.logs_are s), handed_is)
        (by_test (is_old i) (λ t. rw t old_taken) (λ f. rw f new_taken))

    -- ---- and the chassis after it is beside the theory's

    taken_in_step : InStep r k after_taken.words (protocol.delivered i s now.chassis) (λ c. after_step r c (deliver i s) true (now.ledgers c))
    unfolding done
    taken_in_step =
        let (hi, hs, apart) = linked in
        let on = deliverable r i s now.chassis
        (record { receiver = hi; sender = hs; apart = apart; waits = rw (reached_N (cards_beside now) i s hi hs, reached_N (cards_beside now) s s hs hs) at waits }) in
        rw (done_after (cards_beside now) (deliver i s) on) at
        (accepted_in_step (cards_beside now) (deliver i s) on after_taken.words (delivered_cards_show (cards_beside now) i s hi hs apart in_log))

    pub taken_beside : Beside is_old r k after_taken
    unfolding protocol.delivered
    taken_beside = record {
      chassis = protocol.delivered i s now.chassis;
      ledgers = λ c. after_step r c (deliver i s) true (now.ledgers c);
      in_step = taken_in_step;
      singles = now.singles;
      logs_are = now.logs_are;
      not_there = λ j far. by_place j i (λ e. absurd (let hi = linked.0 in omega arith)) (λ d. simp put_other (now.not_there j far));
    }

    -- its messages are those that there were
    pub taken_logs : taken_beside.chassis.log ≡ now.chassis.log
    unfolding taken_beside protocol.delivered
    taken_logs = refl

  -- ---- the step

  -- a take that takes the message that waits
  abbrev pub Takes : (version : ℕ) → (List ℕ → List ℕ → TakeOutcome) → (ℕ → List ℕ) → Type 0
  Takes version take logs =
      IsLink r i s → N_of r b s < N_of r (st.words s) s → take b (message_behind version (with_logs st logs) s (N_of r b s)) ≡ taken_outcome r s b m

  -- two such takes are refused with one number, or both take it
  pub delivery_cases : (v w : ℕ) (take take' : List ℕ → List ℕ → TakeOutcome) (logs logs' : ℕ → List ℕ) → Takes v take logs → Takes w take' logs' → (P : Stepped → Stepped → Type 0)
      → ((n : ℕ) → n ≢ 0 → P (declined (with_logs st logs) n) (declined (with_logs st logs') n))
      → ((linked : IsLink r i s) (waits : N_of r b s < N_of r (st.words s) s) → P (record { number = 0; chassis = with_logs after_taken logs }) (record { number = 0; chassis = with_logs after_taken logs' }))
      → P (delivered v take r i s (with_logs st logs)) (delivered w take' r i s (with_logs st logs'))
  unfolding delivered
  delivery_cases v w take take' logs logs' one two P refuses takes =
      by_test (ltb i r && ltb s r && not (eqb i s))
      (λ t.
      by_test (ltb (N_of r b s) (N_of r (st.words s) s))
      (λ x.
      let linked = is_link r i s t in
      let waits = ltb-true (N_of r b s) (N_of r (st.words s) s) x in
      rw (t, x, one linked waits, two linked waits) (takes linked waits))
      (λ x. rw (t, x) (refuses nothing_waiting (λ e. omega arith))))
      (λ t. rw t (refuses bad_card (λ e. omega arith)))

  -- where it is not accepted, the link's own checks say why
  pub delivery_number : (version : ℕ) (take : List ℕ → List ℕ → TakeOutcome) → Takes version take st.logs → (delivered version take r i s st).number ≡ first_failing (link_checks r i s st)
  unfolding delivered
  delivery_number version take one =
      by_test (ltb i r && ltb s r && not (eqb i s))
      (λ t.
      by_test (ltb (N_of r b s) (N_of r (st.words s) s))
      (λ x. rw (t, x, one (is_link r i s t) (ltb-true (N_of r b s) (N_of r (st.words s) s) x)))
      (λ x. rw (t, x)))
      (λ t. rw t)
