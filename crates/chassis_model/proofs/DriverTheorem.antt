-- LAWS. A driver's history beside the ledgers: by induction over the calls (`history_matches`) its cards are always beside the theory's chassis and ledgers, so
-- reads are the ledger's readings, numbers are those due, and the rest follows from what `DriverResends` and `DriverSame` say of such cards.
use Rattle.std.specs.Prelude.{ℕ, ◌+◌, ◌≤◌, ◌<◌, ◌≡◌, refl, ◌↔◌, true, cond, List, [], ◌++◌, map, length, get_or}
use Rattle.std.proofs.Common.{sym, ap, ◌∙◌, arith}
use Rattle.std.proofs.lemmas.Bool.{false≢true}
use Rattle.protocol.specs.Limits.{repeated}
use Rattle.protocol.specs.Ledger as ledger
use Rattle.protocol.specs.Chassis.{fresh_chassis, run, answers}
use Rattle.protocol.specs.RoundRobin.{Link, IsLink, times}
use Rattle.wire.specs.Message.{version_2, message_at, reads}
use Rattle.replica_model.specs.Layout.{N_of}
use Rattle.replica_model.specs.Calls.{sizes_in_range, open_on, read_on}
use Rattle.replica_model.proofs.RowLaws.{sizes}
use Rattle.replica_model.proofs.CallsLaws.{open_decided, take_decided}
use Rattle.replica_model.specs.Format.{format_2}
use Rattle.chassis_model.specs.Ledger.{was_accepted, accepted_of, ledger_reading}
use Rattle.chassis_model.specs.Answers.{value_asked}
use Rattle.chassis_model.proofs.Makings.{value_read}
use Rattle.chassis_model.proofs.AnswerLaws.{no_value}
use Rattle.chassis_model.specs.ReadAndClearOf.{call_action}
use Rattle.chassis_model.specs.Driver.{Call, make, take, Cards, opened, called, number_of, value_of, WrittenBySender, GenuineCall, NotForged, Genuine, after, numbers, resends, cards_after, GenuineHistory, call_step, accepted_steps, history_ledger, due_number, message_answer, received_answer, all_received}
use Rattle.chassis_model.proofs.Offers.{TheoryRun}
use Rattle.chassis_model.proofs.TheoryReads.{reading_is}
use Rattle.chassis_model.proofs.Agreement.{same_reads, received_all}
use Rattle.chassis_model.proofs.DriverMatches.{DriverMatches, DriverAt, driver_at, opened_matches, take_cases}
use Rattle.chassis_model.proofs.DriverSteps as driver
use Rattle.chassis_model.proofs.DriverSteps.{history_offers, offers_steps, history_matches}
use Rattle.chassis_model.proofs.DriverResends as resends
use Rattle.chassis_model.proofs.DriverResendsAll.{after_append, genuine_append, all_resent}
use Rattle.chassis_model.proofs.DriverSame.{performs, history_performs}

pub opened_is : (b : List ℕ) (r k i : ℕ) → (open_on b r k i).number ≡ 0 → (open_on b r k i).words ≡ (opened r k).words i
opened_is b r k i ok = rw ((open_decided b r k i).accepted ok)

pub not_forged_genuine : (c : Call) (st : Cards) → NotForged c st → GenuineCall c st
unfolding number_of
not_forged_genuine (make m i q out) st w = tt
not_forged_genuine (take i bytes) st w = λ ok. w (((take_decided format_2 (st.words i) bytes).exact 0).0 ok).1.0

module _ (r k : ℕ) (right : sizes_in_range r k ≡ true) (calls : List Call) (genuine : GenuineHistory r k calls) where
  -- the cards after the calls are beside the theory's chassis, which accepts the same calls
  pub went : DriverMatches r k (cards_after r k calls) (run r (history_offers calls (opened r k)) fresh_chassis) (history_ledger r k calls)
      × (answers r (history_offers calls (opened r k)) fresh_chassis ≡ accepted_of (numbers calls (opened r k)))
  went = history_matches calls (driver_at (opened_matches r k (sizes r k right))) genuine

  abbrev reached : DriverAt r k
  reached = driver_at went.0

  -- a genuine history is a run of the theory
  pub theory_history : TheoryRun r k (map call_step calls) (numbers calls (opened r k)) (cards_after r k calls).words
  theory_history = record { cards = went.0.cards; steps_are = offers_steps calls (opened r k); answers_are = went.1 }

  pub driver_theorem : (i q : ℕ) → i < r → q < k → read_on ((cards_after r k calls).words i) q ≡ ledger_reading r i (history_ledger r k calls q)
  driver_theorem = reading_is theory_history

  pub call_numbers : (c : Call) → NotForged c (cards_after r k calls)
      → number_of c (cards_after r k calls) ≡ due_number r k c (cards_after r k calls) (history_ledger r k calls)
  call_numbers c g = driver.call_number reached c g

  pub message_numbers : (i : ℕ) → i < r → (bytes : List ℕ) → reads version_2 bytes ≡ true → WrittenBySender bytes (cards_after r k calls)
      → message_answer (number_of (take i bytes) (cards_after r k calls)) ≡ true
  unfolding number_of
  message_numbers i hi bytes readable one =
      take_cases reached i hi bytes (λ e. one) (λ outcome. message_answer outcome.answer.number ≡ true)
      (λ a. absurd (false≢true (sym a ∙ readable)))
      (λ a e. refl)
      (λ a d l. refl)
      (λ a d l. refl)
      (λ a d e hs waits. refl)

  pub written_in_order : (s : ℕ) → s < r → (n : ℕ) → n < length ((cards_after r k calls).written s)
      → let bytes = get_or ((cards_after r k calls).written s) n [] in (reads version_2 bytes ≡ true) × ((message_at version_2 bytes).sender ≡ s) × ((message_at version_2 bytes).sequence ≡ n + 1)
  written_in_order s hs n l = resends.written_in_order reached s hs n l

  pub received_once : (i : ℕ) → i < r → (bytes : List ℕ) → GenuineCall (take i bytes) (cards_after r k calls)
      → received_answer (number_of (take i bytes) (cards_after r k calls)) ≡ true
      → (more : List Call) → Genuine more (called (take i bytes) (cards_after r k calls))
      → number_of (take i bytes) (after more (called (take i bytes) (cards_after r k calls))) ≡ repeated
  received_once i hi bytes g received more gs = resends.received_once i hi bytes reached g received more gs

  pub resend_all : (i s : ℕ) → i < r → s < r → (i ≡ s → ⊥)
      → let now = cards_after r k calls in
      let again = map (take i) (now.written s) in
      Genuine again now × (all_received (numbers again now) ≡ true) × (N_of r ((after again now).words i) s ≡ length (now.written s))
  resend_all i s hi hs apart =
      let sent = resends.resent i s hi hs apart reached in
      (sent.genuine, sent.received, sent.has_all)

  pub same_messages_same_reads : let st = cards_after r k calls in (i j : ℕ) → i < r → j < r
      → ((s : ℕ) → s < r → N_of r (st.words i) s ≡ N_of r (st.words j) s) → (q : ℕ) → q < k → read_on (st.words i) q ≡ read_on (st.words j) q
  same_messages_same_reads = same_reads theory_history

  pub all_received_agree : let st = cards_after r k calls in (i j : ℕ) → i < r → j < r
      → ((s : ℕ) → s < r → N_of r (st.words i) s ≡ length (st.written s)) → ((s : ℕ) → s < r → N_of r (st.words j) s ≡ length (st.written s))
      → (q : ℕ) → q < k → read_on (st.words i) q ≡ read_on (st.words j) q
  all_received_agree i j hi hj all all' = same_messages_same_reads i j hi hj (λ s hs. all s hs ∙ sym (all' s hs))

  by_steps : cards_after r k calls ≡ performs r (accepted_steps calls (opened r k)) (opened r k)
  by_steps = history_performs calls (driver_at (opened_matches r k (sizes r k right))) genuine

pub resent_agree : (r k : ℕ) → sizes_in_range r k ≡ true → (calls : List Call) → GenuineHistory r k calls
    → (links : List Link) → ((i s : ℕ) → (0 < times i s links) ↔ IsLink r i s)
    → let whole = calls ++ resends links (cards_after r k calls).written in
    let st = cards_after r k whole in
    GenuineHistory r k whole × ((i j : ℕ) → i < r → j < r → (q : ℕ) → q < k → read_on (st.words i) q ≡ read_on (st.words j) q)
resent_agree r k right calls genuine links is =
    let written = (cards_after r k calls).written in
    let again = resends links written in
    let done = all_resent written links (reached r k right calls genuine) refl (λ i s. (is i s).0) in
    let whole_genuine = genuine_append calls again (opened r k) genuine done.genuine in
    let split = after_append calls again (opened r k) in
    let own = resends.own_written (reached r k right (calls ++ again) whole_genuine) in
    let t = theory_history r k right (calls ++ again) whole_genuine in
    let has_all : (i : ℕ) → i < r → (s : ℕ) → s < r
    → N_of r ((cards_after r k (calls ++ again)).words i) s ≡ N_of r ((cards_after r k (calls ++ again)).words s) s
    = λ i hi. received_all t i hi (λ s l.
    let a = own s l.1 in
    let b : length ((cards_after r k (calls ++ again)).written s) ≤ N_of r ((cards_after r k (calls ++ again)).words i) s
    = rw (split, done.stays) (done.has_all i s l ((is i s).1 l)) in
    omega arith) in (
      whole_genuine,
      λ i j hi hj. same_reads t i j hi hj (λ s hs. has_all i hi s hs ∙ sym (has_all j hj s hs)),
    )

pub same_steps : (r k : ℕ) → sizes_in_range r k ≡ true → (calls calls' : List Call) → GenuineHistory r k calls → GenuineHistory r k calls'
    → accepted_steps calls (opened r k) ≡ accepted_steps calls' (opened r k) → cards_after r k calls ≡ cards_after r k calls'
same_steps r k right calls calls' g g' same =
    by_steps r k right calls g
    ∙ ap (λ (ss : List ledger.Step). performs r ss (opened r k)) same
    ∙ sym (by_steps r k right calls' g')

-- ---- the values that calls answer

pub call_values : (c : Call) (st : Cards)
    → value_of c st ≡ cond (was_accepted (number_of c st)) (value_asked (call_action c) (λ i q. (read_on (st.words i) q).value)) 0
unfolding value_of number_of value_asked
call_values (make m i q out) st = value_read m i q (st.words i) out (λ j c. (read_on (st.words j) c).value) refl
call_values (take i bytes) st = no_value (was_accepted (number_of (take i bytes) st))
