-- LAWS. A chassis of old and new cards beside the theory's, as the cards of a driver of today (`cards_of`): they are beside the same chassis and ledgers, and today's
-- calls do to them what the accepted steps do to the chassis.
use Rattle.std.specs.Prelude.{ℕ, ◌+◌, ◌≤◌, ◌<◌, ◌≡◌, refl, List, [], map, Bool, length, get_or}
use Rattle.std.proofs.Common.{sym, ap, ◌∙◌, le_trans, arith, lt-ltb, le-leb, ne_eqb}
use Rattle.protocol.specs.Limits.{MAX}
use Rattle.protocol.specs.RoundRobin.{IsLink}
use Rattle.protocol.specs.Chassis.{Message}
use Rattle.wire.specs.Message.{version_2, longest_message, message_bytes, log_bytes}
use Rattle.replica_model.specs.Layout.{C_of, N_of}
use Rattle.replica_model.specs.Calls.{words_after}
use Rattle.chassis_model.specs.declared.Making.{Making}
use Rattle.chassis_model.specs.Run.{counted, call_of}
use Rattle.chassis_model.specs.Driver.{Cards, make, take, sent, called, number_of, WrittenBySender}
use Rattle.chassis_model.proofs.Numbered.{wire_log}
use Rattle.chassis_model.proofs.InStep.{reached_N}
use Rattle.chassis_model.proofs.Moves.{due_message}
use Rattle.chassis_model.proofs.Sends.{Going, next_message, writable, told, call_cases}
use Rattle.chassis_model.proofs.DriverMatches.{DriverAt, driver_at}
use Rattle.chassis_model.proofs.DriverSteps.{accepted_leaves}
use Rattle.chassis_model.proofs.DriverResends.{written_length, written_at, written_by_sender}
use Rattle.version_1.specs.Run.{Chassis, message_behind, with_converted_logs}
use Rattle.version_1.specs.History.{cards_of}
use Rattle.version_1.proofs.OldLogs.{bytes_in, messages_today, today_log}
use Rattle.version_1.proofs.Beside.{Beside, cards_beside, all_readable, converts}
use Rattle.version_1.proofs.MadeBeside.{ByOne, after_sent, sent_beside, sent_chassis}
use Rattle.version_1.proofs.DeliveredBeside.{after_taken, in_log, waiting_bytes, waiting_today, new_taken}

module _ {is_old : ℕ → Bool} {r k : ℕ} {st : Chassis} (now : Beside is_old r k st) where
  -- what they have written are the theory's messages
  written_are : (j : ℕ) → (cards_of is_old st).written j ≡ map message_bytes (wire_log j (now.chassis.log j))
  written_are j = rw (converts now j) (ap (map message_bytes) (messages_today j (now.chassis.log j) (all_readable now j) (now.singles j)))

  abbrev as_driver : DriverAt r k
  as_driver = driver_at {st = cards_of is_old st} (record { cards = now.in_step; written_are = written_are; not_there = now.not_there })

  -- so cards are these that have the words and have written those messages
  are_cards : (x : Cards) → x.words ≡ st.words → ((j : ℕ) → x.written j ≡ map message_bytes (wire_log j (now.chassis.log j))) → x ≡ cards_of is_old st
  are_cards x same are = λ y. record { words = same y; written = λ j. (are j ∙ sym (written_are j)) y }

-- ---- a message made

module _ {is_old : ℕ → Bool} {r k : ℕ} {st : Chassis} (now : Beside is_old r k st) (i : ℕ) (hi : i < r) (mk : Making) (one : ByOne mk) (q : ℕ) (may : Going r k i q (st.words i) mk) (out : List ℕ) (room : longest_message ≤ length out) where
  abbrev b : List ℕ
  b = st.words i

  abbrev m : Message
  m = next_message r now.chassis mk i q

  none_told : told (cards_beside now) mk i q hi (length out) ≡ 0
  none_told =
      let few = may.few in
      let short = (writable (cards_beside now) mk i q hi may).short in
      rw (lt-ltb q k may.counter, may.amount, ne_eqb (N_of r b i) MAX (λ e. omega arith), le-leb (C_of b i + counted mk) MAX may.room, le-leb _ (length out) (le_trans short room))

  -- today's call accepts it
  accepts : ((call_of mk q b out).answer.number ≡ 0) × ((call_of mk q b out).words ≡ words_after i m b)
  accepts =
      call_cases (cards_beside now) mk i q hi (λ o. (o.answer.number ≡ 0) × (o.words ≡ words_after i m b)) out
      (λ n some is. absurd (some (is ∙ none_told)))
      (λ _ _ _ _. (refl, refl))

  pub make_called : called (make mk i q out) (cards_of is_old st) ≡ cards_of is_old (after_sent now i hi m)
  unfolding called sent number_of
  make_called =
      let c = make mk i q out in
      are_cards (sent_beside now i hi mk one q may) (called c (cards_of is_old st)) (rw accepts.1)
      (λ j. rw (sent_chassis now i hi mk one q may) ((accepted_leaves (as_driver now) c tt accepts.0).written_are j))

-- ---- a message taken

module _ {is_old : ℕ → Bool} {r k : ℕ} {st : Chassis} (now : Beside is_old r k st) (i s : ℕ) (linked : IsLink r i s) (waits : N_of r (st.words i) s < N_of r (st.words s) s) where
  abbrev bytes : List ℕ
  bytes = message_behind version_2 (with_converted_logs is_old st) s (N_of r (st.words i) s)

  -- it is the theory's, in version 2
  due_bytes : bytes ≡ bytes_in version_2 s (N_of r (st.words i) s + 1) (due_message now.chassis i s)
  due_bytes =
      waiting_bytes now i s linked waits version_2 refl (with_converted_logs is_old st).logs
      (converts now s ∙ ap log_bytes (sym (today_log s (now.chassis.log s) (all_readable now s) (now.singles s))))

  pub take_called : called (take i bytes) (cards_of is_old st) ≡ cards_of is_old (after_taken now i s)
  unfolding called
  take_called = rw (due_bytes, new_taken now i s linked waits)

  pub take_genuine : WrittenBySender bytes (cards_of is_old st)
  take_genuine =
      let n = (now.chassis.replica i).N s in
      let within : n < length ((cards_of is_old st).written s) = rw (written_length (as_driver now) s) (in_log now i s linked waits) in
      let is : bytes ≡ get_or ((cards_of is_old st).written s) n []
      = due_bytes ∙ waiting_today now i s linked waits
      ∙ rw (reached_N (cards_beside now) i s linked.0 linked.1) (sym (written_at (as_driver now) s n within)) in
      rw is (written_by_sender (as_driver now) s linked.1 n within)
