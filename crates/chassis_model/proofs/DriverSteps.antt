-- LAWS. Every genuine call on a driver's cards keeps them beside the theory's chassis and ledgers after the same step (`call_matches`), and answers the number
-- that is due (`call_number`).
use Rattle.std.specs.Prelude.{ℕ, suc, ◌+◌, ◌≤◌, ◌<◌, ◌≡◌, Bool, false, List, [], ◌∷◌, ◌++◌, map, length}
use Rattle.std.proofs.Math.Path.{refl, sym, ap}
use Rattle.std.proofs.Common.{ap₂, ◌∙◌, arith, take_at}
use Rattle.std.proofs.Math.Bool.{true}
use Rattle.std.proofs.lemmas.List.{map-append}
use borrow.Author.Tests.{eqb-true, eqb-false, lt-ltb, le-ltb, le-leb, lt-leb, eq-eqb, ne_eqb}
use Rattle.protocol.specs.Limits.{bad_replica, unreadable, bad_card, repeated, early}
use Rattle.protocol.proofs.Cases.{by_place, by_le, by_test}
use Rattle.protocol.proofs.Tables.{put, put_same, put_other}
use Rattle.protocol.specs.Checks.{Gives}
use Rattle.protocol.proofs.ChecksLaws.{distinct, refusal_given, first_is}
use Rattle.protocol.specs.Ledger.{Step, Ledger, after_accepted, after_step, after_steps, ledger_value}
use Rattle.protocol.specs.Chassis.{Message, issued, delivered, done, enabled, Offer, accepted, stepped, run, answers}
use Rattle.protocol.specs.Runs.{step_of}
use Rattle.wire.specs.Message.{version_2, message_bytes, message_at}
use Rattle.replica_model.specs.Layout.{N_of, fresh_words}
use Rattle.replica_model.specs.Calls.{not_sent, ClearedOutcome, with_value, TakeOutcome, not_taken, take_on}
use Rattle.replica_model.proofs.CallsLaws.{take_decided}
use Rattle.replica_model.specs.Format.{on_wire, format_2, size_of}
use Rattle.replica_model.proofs.FormatLaws.{on_wire_length}
use Rattle.chassis_model.specs.Run.{Making, call_of}
use Rattle.chassis_model.specs.Ledger.{was_accepted, accepted_of}
use Rattle.chassis_model.specs.Driver.{Call, make, take, Cards, wrote, sent, called, number_of, value_of, GenuineCall, NotForged, Genuine, after, numbers, call_step, number_checks, due_number}
use Rattle.chassis_model.proofs.Numbered.{wire_log, wire_log_append}
use Rattle.chassis_model.proofs.InStep.{made_all, own_N}
use Rattle.chassis_model.proofs.Moves.{done_after, accepted_in_step, delivered_cards_show}
use Rattle.chassis_model.specs.Answers.{value_asked}
use Rattle.chassis_model.specs.ReadAndClearOf.{call_action}
use Rattle.chassis_model.proofs.Offers.{offer, offers_of}
use Rattle.chassis_model.proofs.Makings.{making, making_enabled, making_done}
use Rattle.chassis_model.proofs.Sends.{Outgoing, next_message, sent_outcome, told, value_told, call_cases, issued_here}
use Rattle.chassis_model.proofs.DriverMatches.{DriverMatches, DriverAt, driver_at, driver_cards, never_right, sent_refused, take_refused, take_cases}

-- ---- a refused call

pub refused_leaves : (c : Call) (st : Cards) → was_accepted (number_of c st) ≡ false → called c st ≡ st
unfolding called number_of
refused_leaves (make m i q out) st e = rw (((making m).decided q (st.words i) out).refused (eqb-false _ 0 e)) (sent_refused i _ out st e)
refused_leaves (take i bytes) st e = rw ((take_decided format_2 (st.words i) bytes).refused (eqb-false _ 0 e)) (take_refused i st)

-- the numbers that a call may give differ
pub number_distinct : (r k : ℕ) (c : Call) (st : Cards) (ls : ℕ → Ledger) → distinct (number_checks r k c st ls) ≡ true
number_distinct r k (make m i q out) st ls = refl
number_distinct r k (take i bytes) st ls = refl

-- what a call leaves that answers `number`, beside the chassis and the ledgers after it; and the theory accepts its step exactly if the number is 0
abbrev pub CallMatches : {r k : ℕ} → DriverAt r k → Call → ℕ → Cards → Type 0
CallMatches {r} {k} now c number after =
    DriverMatches r k after (stepped r (offer (call_step c) number) now.chassis) (λ q. after_step r q (call_step c) (was_accepted number) (now.ledgers q))
    × (accepted r (offer (call_step c) number) now.chassis ≡ was_accepted number)

module _ {r k : ℕ} (now : DriverAt r k) where
  declined_matches : (c : Call) (number : ℕ) → was_accepted number ≡ false → CallMatches now c number now.state
  unfolding stepped after_step
  declined_matches c number e = rw e (now.matches, refl)

  -- ---- a card that is there makes a message

  send_declined : (c : Call) (i number : ℕ) (out : List ℕ) → was_accepted number ≡ false
      → CallMatches now c number (sent i (with_value 0 (not_sent number (now.state.words i) out)) now.state)
  send_declined c i number out e = rw (sent_refused i number out now.state e) (declined_matches c number e)

  module _ (i : ℕ) (hi : i < r) (m : Message) (goes : Outgoing r k i (now.state.words i) m) (out : List ℕ) where
    -- the bytes that the call has written are the message's
    bytes_are : (v : ℕ) → wrote (with_value v (sent_outcome r i (now.state.words i) out m)) ≡ message_bytes (on_wire i (N_of r (now.state.words i) i + 1) m) ∷ []
    unfolding wrote
    bytes_are v =
        let n = N_of r (now.state.words i) i + 1 in
        rw (take_at (message_bytes (on_wire i n m)) _ (size_of m) (on_wire_length i n m))

    written_more : (v : ℕ) → now.state.written i ++ wrote (with_value v (sent_outcome r i (now.state.words i) out m)) ≡ map message_bytes (wire_log i (now.chassis.log i ++ m ∷ []))
    written_more v =
        rw (bytes_are v, own_N (driver_cards now) i hi, now.matches.written_are i, wire_log_append i (now.chassis.log i) m, map-append)

    send_accepted : (v : ℕ) (c : Call) → enabled r (call_step c) now.chassis ≡ true → done r (call_step c) now.chassis ≡ issued i m now.chassis
        → CallMatches now c 0 (sent i (with_value v (sent_outcome r i (now.state.words i) out m)) now.state)
    unfolding sent issued
    send_accepted v c on is = (
      record {
        cards = accepted_in_step (driver_cards now) (call_step c) on _ (rw is (issued_here (driver_cards now) i hi m goes));
        written_are = λ j.
            rw (done_after (driver_cards now) (call_step c) on, is)
            (by_place j i (λ e. rw e (simp put_same (written_more v))) (λ d. simp put_other (now.matches.written_are j)));
        not_there = λ j far. by_place j i (λ e. absurd (omega arith)) (λ d. simp put_other (now.matches.not_there j far));
      },
      on,
    )

  send_matches : (m : Making) (i q : ℕ) (out : List ℕ) → i < r
      → let outcome = call_of m q (now.state.words i) out in CallMatches now (make m i q out) outcome.answer.number (sent i outcome now.state)
  send_matches m i q out hi =
      let c = make m i q out in
      call_cases (driver_cards now) m i q hi (λ outcome. CallMatches now c outcome.answer.number (sent i outcome now.state)) out
      (λ n some _. send_declined c i n out (ne_eqb n 0 some))
      (λ _ may goes room. send_accepted i hi (next_message r now.chassis m i q) goes out _ c (making_enabled m r i q now.chassis hi may.amount) (making_done m r i q now.chassis))

  -- ---- a card that is there takes

  taking_matches : (i : ℕ) (bytes : List ℕ) → i < r → NotForged (take i bytes) now.state
      → let outcome = take_on (now.state.words i) bytes in
      CallMatches now (take i bytes) outcome.answer.number (record { words = put i outcome.words now.state.words; written = now.state.written })
  unfolding enabled done delivered
  taking_matches i bytes hi written =
      let c = take i bytes in
      let s = (message_at version_2 bytes).sender in
      take_cases now i hi bytes written
      (λ outcome. CallMatches now c outcome.answer.number (record { words = put i outcome.words now.state.words; written = now.state.written }))
      (λ a. rw (take_refused i now.state) (declined_matches c unreadable refl))
      (λ a e. rw (take_refused i now.state) (declined_matches c bad_card refl))
      (λ a d l. rw (take_refused i now.state) (declined_matches c repeated refl))
      (λ a d l. rw (take_refused i now.state) (declined_matches c early refl))
      (λ a d e hs waits.
      let on : enabled r (call_step c) now.chassis ≡ true
      = rw (lt-ltb i r hi, lt-ltb s r hs, ne_eqb i s d) (lt-ltb ((now.chassis.replica i).N s) ((now.chassis.replica s).N s) (rw (made_all (driver_cards now) s) waits)) in (
        record {
          cards = accepted_in_step (driver_cards now) (call_step c) on _ (delivered_cards_show (driver_cards now) i s hi hs d waits);
          written_are = λ j. rw (done_after (driver_cards now) (call_step c) on) (now.matches.written_are j);
          not_there = λ j far. by_place j i (λ f. absurd (omega arith)) (λ f. simp put_other (now.matches.not_there j far));
        },
        on,
      ))

  -- ---- a card that is not there

  module _ (i : ℕ) (far : r ≤ i) where
    send_nowhere : (m : Making) (q : ℕ) (out : List ℕ) → call_of m q (now.state.words i) out ≡ with_value 0 (not_sent bad_replica (now.state.words i) out)
    send_nowhere m q out =
        rw (now.matches.not_there i far) (refusal_given ((making m).decided q (fresh_words r k i) out) bad_replica (λ e. omega arith) (never_right r k i far))

    take_nowhere : (bytes : List ℕ) → take_on (now.state.words i) bytes ≡ not_taken bad_replica (now.state.words i)
    take_nowhere bytes =
        rw (now.matches.not_there i far) (refusal_given (take_decided format_2 (fresh_words r k i) bytes) bad_replica (λ e. omega arith) (never_right r k i far))

  pub taker_there : (i : ℕ) (bytes : List ℕ) → number_of (take i bytes) now.state ≡ 0 → i < r
  unfolding number_of
  taker_there i bytes ok =
      by_le (suc i) r (λ l. l)
      (λ l. let none = ap (λ (o : TakeOutcome). o.answer.number) (take_nowhere i (omega arith) bytes) in absurd (omega arith))

  -- ---- every call

  pub call_matches : (c : Call) → GenuineCall c now.state → CallMatches now c (number_of c now.state) (called c now.state)
  unfolding called number_of
  call_matches (make m i q out) g =
      by_le (suc i) r
      (λ hi. send_matches m i q out hi)
      (λ far. rw (send_nowhere i (omega arith) m q out) (send_declined (make m i q out) i bad_replica out refl))
  call_matches (take i bytes) g =
      by_test (was_accepted (number_of (take i bytes) now.state))
      (λ t. let ok = eqb-true (number_of (take i bytes) now.state) 0 t in taking_matches i bytes (taker_there i bytes ok) (λ e. g ok))
      (λ t. rw (refused_leaves (take i bytes) now.state t) (declined_matches (take i bytes) (number_of (take i bytes) now.state) t))

  -- ---- and its number

  -- what the checks give is due
  due_is : (c : Call) (n : ℕ) → Gives (number_checks r k c now.state now.ledgers) n → n ≡ due_number r k c now.state now.ledgers
  unfolding due_number
  due_is c n gives = sym (first_is (number_checks r k c now.state now.ledgers) (number_distinct r k c now.state now.ledgers) n gives)

  send_number : (m : Making) (i q : ℕ) (out : List ℕ) → i < r → (call_of m q (now.state.words i) out).answer.number ≡ due_number r k (make m i q out) now.state now.ledgers
  unfolding due_number
  send_number m i q out hi =
      let c = make m i q out in
      let is : told (driver_cards now) m i q hi (length out) ≡ due_number r k c now.state now.ledgers = rw (lt-ltb i r hi) in
      call_cases (driver_cards now) m i q hi (λ outcome. outcome.answer.number ≡ due_number r k c now.state now.ledgers) out
      (λ n some due. due ∙ is)
      (λ due may goes room. due ∙ is)

  take_number : (i : ℕ) (bytes : List ℕ) → i < r → NotForged (take i bytes) now.state
      → (take_on (now.state.words i) bytes).answer.number ≡ due_number r k (take i bytes) now.state now.ledgers
  take_number i bytes hi written =
      let c = take i bytes in
      let s = (message_at version_2 bytes).sender in
      let n = (message_at version_2 bytes).sequence in
      let N = N_of r (now.state.words i) s in
      let there = lt-ltb i r hi in
      take_cases now i hi bytes written (λ outcome. outcome.answer.number ≡ due_number r k c now.state now.ledgers)
      (λ unread. due_is c unreadable (there, unread))
      (λ read own. due_is c bad_card (there, (read, rw (eq-eqb s i (sym own)))))
      (λ read apart old. due_is c repeated (there, (read, (rw (ne_eqb s i (λ e. apart (sym e))), le-ltb N n old))))
      (λ read apart far. due_is c early (there, (read, (rw (ne_eqb s i (λ e. apart (sym e))), (lt-ltb N n (omega arith), lt-leb n (N + 1) far)))))
      (λ read apart next hs waits.
      due_is c 0 (there, (read, (rw (ne_eqb s i (λ e. apart (sym e))), (lt-ltb N n (omega arith), (le-leb n (N + 1) (omega arith), refl))))))

  pub call_number : (c : Call) → NotForged c now.state → number_of c now.state ≡ due_number r k c now.state now.ledgers
  unfolding number_of
  call_number (make m i q out) g =
      by_le (suc i) r
      (λ hi. send_number m i q out hi)
      (λ far. rw (send_nowhere i (omega arith) m q out) (due_is (make m i q out) bad_replica (le-ltb i r (omega arith))))
  call_number (take i bytes) g =
      by_le (suc i) r
      (λ hi. take_number i bytes hi g)
      (λ far. rw (take_nowhere i (omega arith) bytes) (due_is (take i bytes) bad_replica (le-ltb i r (omega arith))))

  -- ---- and its value, where it is accepted

  pub call_value : (c : Call) → number_of c now.state ≡ 0 → value_of c now.state ≡ value_asked (call_action c) (λ i q. ledger_value i (now.ledgers q))
  unfolding number_of value_of value_asked
  call_value (make m i q out) e =
      by_le (suc i) r
      (λ hi. call_cases (driver_cards now) m i q hi
      (λ outcome. outcome.answer.number ≡ 0 → outcome.answer.value ≡ value_told (driver_cards now) m i q hi) out
      (λ n some due z. absurd (some z)) (λ due may goes room z. refl) e)
      (λ far. let z = ap (λ (o : ClearedOutcome). o.answer.number) (send_nowhere i (omega arith) m q out) in absurd (omega arith))
  call_value (take i bytes) e = refl

-- ---- an accepted call, and what it leaves

module _ {r k : ℕ} (now : DriverAt r k) (c : Call) (g : GenuineCall c now.state) where
  pub accepted_enabled : number_of c now.state ≡ 0 → enabled r (call_step c) now.chassis ≡ true
  accepted_enabled ok = rw ok at (call_matches now c g).1

  pub accepted_leaves : number_of c now.state ≡ 0 → DriverMatches r k (called c now.state) (done r (call_step c) now.chassis) (λ q. after_accepted r q (call_step c) (now.ledgers q))
  unfolding stepped after_step
  accepted_leaves ok = rw (ok, accepted_enabled ok) at (call_matches now c g).0

  pub declined_leaves : (number_of c now.state ≡ 0 → ⊥) → DriverMatches r k (called c now.state) now.chassis now.ledgers
  unfolding stepped after_step
  declined_leaves d = rw (ne_eqb (number_of c now.state) 0 d) at (call_matches now c g).0

-- ---- a list of calls

-- the ledgers after the calls
abbrev pub ledgers_after : ℕ → List Call → Cards → (ℕ → Ledger) → ℕ → Ledger
ledgers_after r cs st ls q = after_steps r q (map call_step cs) (accepted_of (numbers cs st)) (ls q)

-- the calls as the theory has them
abbrev pub history_offers : List Call → Cards → List Offer
history_offers cs st = offers_of (map call_step cs) (numbers cs st)

pub offers_steps : (cs : List Call) (st : Cards) → map step_of (history_offers cs st) ≡ map call_step cs
unfolding numbers offers_of
offers_steps [] st = refl
offers_steps (c ∷ cs) st = ap {B = List Step} (λ xs. call_step c ∷ xs) (offers_steps cs (called c st))

pub history_matches : {r k : ℕ} (cs : List Call) (now : DriverAt r k) → Genuine cs now.state
    → DriverMatches r k (after cs now.state) (run r (history_offers cs now.state) now.chassis) (ledgers_after r cs now.state now.ledgers)
    × (answers r (history_offers cs now.state) now.chassis ≡ accepted_of (numbers cs now.state))
unfolding after numbers offers_of after_steps run answers
history_matches [] now g = (now.matches, refl)
history_matches (c ∷ cs) now (g, gs) =
    let here = call_matches now c g in
    let rest = history_matches cs (driver_at here.0) gs in
    (rest.0, ap₂ (λ (a : Bool) (fs : List Bool). a ∷ fs) here.1 rest.1)
