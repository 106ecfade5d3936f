-- LAWS. A step of a reached state that makes a message: one of five things comes of the call (3, 16, 4, 5 or a message sent), so the step answers 3, 16, 4 or 14
-- and leaves all as it was, or answers 0 and leaves the state with the message made, which is the chassis's with that message issued.
use Rattle.std.specs.Prelude.{ℕ, ◌+◌, ◌-◌, ◌*◌, ◌≤◌, ◌<◌, ◌≡◌, refl, ◌≢◌, true, cond, List, [], ◌∷◌, ◌++◌, length, take, drop, eqb, ltb, leb}
use Rattle.std.proofs.Common.{sym, ap, ◌∙◌, arith, length-append, length-take, length-drop, take-append-drop, ne_eqb}
use Rattle.protocol.specs.Limits.{bad_counter, short_output, log_full, bad_amount}
use Rattle.protocol.proofs.Cases.{by_place}
use Rattle.protocol.specs.Checks.{or_else, first_failing}
use Rattle.protocol.proofs.ChecksLaws.{last_renamed}
use Rattle.protocol.proofs.Tables.{put, put_same, put_other}
use Rattle.protocol.specs.Chassis.{Message, issued}
use Rattle.wire.specs.declared.Message as wire
use Rattle.wire.specs.Message.{message_bytes, message_length}
use Rattle.wire.specs.Claims.{message_bytes_length}
use Rattle.replica_model.specs.Layout.{replica_length}
use Rattle.replica_model.specs.Calls.{left_checks, not_sent, words_after, ClearedOutcome, with_value}
use Rattle.replica_model.specs.Format.{on_wire}
use Rattle.chassis_model.specs.ListParts.{put_part}
use Rattle.chassis_model.proofs.ListPartsLaws.{part_length, put_part_same, put_part_length, part_put}
use Rattle.chassis_model.specs.Run.{Making, counted, asked, call_of, State, Stepped, declined, replica_of, log_of, free_from, made}
use Rattle.chassis_model.specs.Answers.{message_size, maker_checks}
use Rattle.chassis_model.specs.Log.{end_of}
use Rattle.chassis_model.proofs.LogLaws.{Readable, AllReadable, written, written_log}
use Rattle.chassis_model.proofs.Numbered.{wire_log, wire_log_append, length_numbered}
use Rattle.chassis_model.proofs.InStep.{CardsShow, own_N}
use Rattle.chassis_model.proofs.Matches.{Holds, RunAt, run_cards, words_in, log_in, N_in, C_in, free_in, room_in, put_words_fit, put_words_show}
use Rattle.chassis_model.proofs.Sends.{Going, Outgoing, next_message, told, value_told, call_cases, issued_here}

-- ---- one log: a message goes to its end

holds_more : (log : List ℕ) (ms : List wire.Message) (x : wire.Message) (n : ℕ) → n ≡ length ms → Holds log ms → AllReadable ms → Readable x
    → Holds (written (end_of n log) x log) (ms ++ x ∷ [])
holds_more log ms x n e h all good =
    rw e (record { rest = drop (length (message_bytes x)) h.rest; bytes = written_log ms h.rest log h.bytes all x good })

-- ---- the step

-- a call's number as a step's
abbrev pub step_number : ℕ → ℕ
step_number n = cond (eqb n short_output) log_full n

number_some : (n : ℕ) → n ≢ 0 → step_number n ≢ 0
number_some n some = by_place n short_output (λ e. rw e (λ z. omega arith)) (λ d. rw (ne_eqb n short_output d) some)

module _ (r k L : ℕ) (st : State) (i : ℕ) where
  -- what the step makes of the call's outcome
  abbrev pub made_of : ClearedOutcome → Stepped
  made_of done = record {
    answer = record { number = cond (eqb done.answer.number short_output) log_full done.answer.number; value = done.answer.value };
    state = record {
      words = put_part (replica_length r k) i done.words st.words;
      logs = put_part L i (take (free_from r k L st i) (log_of r k L st i) ++ done.out) st.logs;
    };
  }

  pub declined_made : (number : ℕ)
      → made_of (with_value 0 (not_sent number (replica_of r k L st i) (drop (free_from r k L st i) (log_of r k L st i))))
      ≡ declined st (cond (eqb number short_output) log_full number)
  declined_made number =
      rw (put_part_same (replica_length r k) i st.words, take-append-drop (free_from r k L st i) (log_of r k L st i), put_part_same L i st.logs)

-- a message over the bytes of a log leaves it as long as it was
written_length : (at : ℕ) (x : wire.Message) (log : List ℕ) → message_length x ≤ length (drop at log) → length (written at x log) ≡ length log
written_length at x log room =
    let room' : message_length x ≤ length log - at = rw (length-drop at log) at room in
    simp (length-append, length-take, length-drop, message_bytes_length x) (omega arith)

-- card i's message m as it is sent, the log with it at the end, and the state with it made
module _ {r k L : ℕ} (now : RunAt r k L) (i : ℕ) (m : Message) where
  abbrev pub as_sent : wire.Message
  as_sent = on_wire i (N_in now i i + 1) m

  abbrev pub log_with : List ℕ
  log_with = written (free_in now i) as_sent (log_in now i)

  abbrev pub state_made : State
  state_made = record {
    words = put_part (replica_length r k) i (words_after i m (words_in now i)) now.state.words;
    logs = put_part L i log_with now.state.logs;
  }

module _ {r k L : ℕ} (now : RunAt r k L) (m : Making) (i q : ℕ) (hi : i < r) where
  -- what the call's checks give a step
  abbrev pub told_step : ℕ
  told_step = first_failing (maker_checks k q m true (N_in now i i) (C_in now i) (leb (message_size r m i q (now.ledgers q)) (length (room_in now i))) log_full)

  step_told : (n : ℕ) → n ≡ told (run_cards now) m i q hi (length (room_in now i)) → step_number n ≡ told_step
  step_told n is =
      ap step_number is
      ∙ last_renamed (or_else (ltb q k) bad_counter ∷ or_else (asked m) bad_amount ∷ left_checks (N_in now i i) (C_in now i) (counted m)) (leb (message_size r m i q (now.ledgers q)) (length (room_in now i))) short_output log_full refl refl

  pub made_cases : (P : Stepped → Type 0)
      → ((n : ℕ) → n ≢ 0 → n ≡ told_step → P (declined now.state n))
      → (0 ≡ told_step → Going r k i q (words_in now i) m → Outgoing r k i (words_in now i) (next_message r now.chassis m i q)
      → message_size r m i q (now.ledgers q) ≤ length (room_in now i)
      → P (record { answer = record { number = 0; value = value_told (run_cards now) m i q hi }; state = state_made now i (next_message r now.chassis m i q) }))
      → P (made r k L i (call_of m q) now.state)
  unfolding made
  made_cases P refuses sends =
      call_cases (run_cards now) m i q hi (λ done. P (made_of r k L now.state i done)) (room_in now i)
      (λ n some is. rw (declined_made r k L now.state i n) (refuses (step_number n) (number_some n some) (step_told n is)))
      (λ is. sends (step_told 0 is))

-- ---- the state after a message is made

module _ {r k L : ℕ} (now : RunAt r k L) (i : ℕ) (hi : i < r) (m : Message) (goes : Outgoing r k i (words_in now i) m) where
  made_here : CardsShow r k (put i (words_after i m (words_in now i)) (words_in now)) (issued i m now.chassis)
  made_here = issued_here (run_cards now) i hi m goes

  pub made_words_fit : length (state_made now i m).words ≡ r * replica_length r k
  made_words_fit = put_words_fit now i hi _ made_here

  -- each card's words are those of the chassis after it
  pub made_shows : CardsShow r k (replica_of r k L (state_made now i m)) (issued i m now.chassis)
  made_shows = put_words_show now i hi _ made_here

  module _ (room : message_length (as_sent now i m) ≤ length (room_in now i)) where
    log_length : length (log_with now i m) ≡ L
    log_length = written_length (free_in now i) (as_sent now i m) (log_in now i) room ∙ part_length r L i now.state.logs now.matches.logs_fit hi

    pub made_logs_fit : length (state_made now i m).logs ≡ r * L
    made_logs_fit = put_part_length r L i (log_with now i m) now.state.logs now.matches.logs_fit hi log_length

    -- each log after it
    pub log_made : (j : ℕ) → log_of r k L (state_made now i m) j ≡ put i (log_with now i m) (log_in now) j
    log_made j = part_put r L i (log_with now i m) now.state.logs now.matches.logs_fit hi log_length j

    log_more : Holds (log_with now i m) (wire_log i (now.chassis.log i ++ m ∷ []))
    log_more =
        let all = own_N (run_cards now) i hi in
        let log = now.chassis.log i in
        rw (all, wire_log_append i log m)
        (holds_more (log_in now i) (wire_log i log) _ (length log) (sym (length_numbered i 0 log)) (now.matches.holds i hi) (now.matches.cards.cards_show.readable i hi)
        (rw all at goes.readable))

    -- each log is that of the chassis after it
    pub made_holds : (j : ℕ) → j < r → Holds (log_of r k L (state_made now i m) j) (wire_log j ((issued i m now.chassis).log j))
    unfolding issued
    made_holds j l = rw (log_made j) (by_place j i (λ e. rw e (simp put_same log_more)) (λ d. simp put_other (now.matches.holds j l)))
