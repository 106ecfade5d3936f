-- LAWS. The steps that a history's accepted calls are make its cards: a refused call leaves no trace, an accepted count or clear does not depend on its output,
-- and an accepted take is of the one message that is due. So outputs, refused calls and the bytes of accepted takes can be forgotten (`performs`).
use Rattle.std.specs.Prelude.{ℕ, ◌<◌, ◌+◌, ◌≡◌, refl}
use Rattle.std.proofs.Math.Path.{sym, ap}
use Rattle.std.proofs.Common.{◌∙◌, take_at, eqb-true}
use mathlib.Core.List.{List, [], ◌∷◌, ◌++◌}
use native.Mathlib.Omega.{arith}
use Rattle.std.proofs.Math.ListN.{get_or}
use Rattle.protocol.proofs.Cases.{by_test}
use Rattle.protocol.proofs.Tables.{put}
use Rattle.protocol.specs.Ledger as ledger
use Rattle.protocol.specs.Chassis.{Message}
use Rattle.wire.specs.Message.{version_2, message_bytes, message_at}
use Rattle.replica_model.specs.Layout.{cards, own_card, N_of}
use Rattle.replica_model.specs.Calls.{state, count_of, clear_of, sent_with, words_after, with_value}
use Rattle.replica_model.specs.ClaimTerms.{sent_as}
use Rattle.replica_model.specs.Format.{format_2, size_of}
use Rattle.replica_model.proofs.FormatLaws.{on_wire_length}
use Rattle.chassis_model.specs.Run.{Making, Make}
use Rattle.chassis_model.specs.Ledger.{ledger_action, was_accepted}
use Rattle.chassis_model.specs.Driver.{Call, make, take, Cards, wrote, sent, called, number_of, WrittenBySender, GenuineCall, Genuine, after, call_step, accepted_steps}
use Rattle.chassis_model.proofs.Makings.{step_message, own_message, making}
use Rattle.chassis_model.proofs.Takes.{fields_are}
use Rattle.chassis_model.proofs.DriverMatches.{DriverAt, driver_at, driver_cards, made_by, take_cases}
use Rattle.chassis_model.proofs.DriverSteps.{refused_leaves, taker_there, call_matches}
use Rattle.chassis_model.proofs.DriverResends.{written_length, written_at}

-- ---- an accepted one, by its step

-- card i makes message m
abbrev makes : ℕ → Message → Cards → Cards
makes i m st = record {
  words = put i (words_after (own_card (st.words i)) m (st.words i)) st.words;
  written = put i (st.written i ++ message_bytes (sent_as (st.words i) m) ∷ []) st.written;
}

unfoldable pub perform : ℕ → ledger.Step → Cards → Cards
perform r (ledger.count i q w) st = makes i (count_of (st.words i) q w) st
perform r (ledger.clear i q) st = makes i (clear_of (st.words i) q) st
perform r (ledger.deliver i s) st = called (take i (get_or (st.written s) (N_of r (st.words i) s) [])) st

-- a making is what its step performs
made_performs : (r i q : ℕ) (m : Making) (st : Cards) → perform r (ledger_action (Make m i q)) st ≡ makes i (own_message m (st.words i) q) st
unfolding perform step_message
made_performs r i q m st =
    let b = st.words i in
    (making m).as_step (λ step. perform r (step i q) st ≡ makes i (step_message (cards b) (step (own_card b) q) (state b)) st) (λ _. refl) (λ _. refl)

sent_makes : (v i : ℕ) (m : Message) (out : List ℕ) (st : Cards) → sent i (with_value v (sent_with format_2 (st.words i) out m)) st ≡ makes i m st
unfolding sent wrote words_after
sent_makes v i m out st =
    let b = st.words i in
    rw (take_at (message_bytes (sent_as b m)) _ (size_of m) (on_wire_length (own_card b) (N_of (cards b) b (own_card b) + 1) m))

module _ {r k : ℕ} (now : DriverAt r k) where
  -- the accepted bytes are those of the message that is due
  pub due_bytes : (i : ℕ) (bytes : List ℕ) → i < r → WrittenBySender bytes now.state → number_of (take i bytes) now.state ≡ 0
      → let s = (message_at version_2 bytes).sender in bytes ≡ get_or (now.state.written s) (N_of r (now.state.words i) s) []
  unfolding number_of
  due_bytes i bytes hi written ok =
      let s = (message_at version_2 bytes).sender in
      take_cases now i hi bytes (λ e. written) (λ outcome. outcome.answer.number ≡ 0 → bytes ≡ get_or (now.state.written s) (N_of r (now.state.words i) s) [])
      (λ a z. absurd (omega arith))
      (λ a e z. absurd (omega arith))
      (λ a d l z. absurd (omega arith))
      (λ a d l z. absurd (omega arith))
      (λ a d e hs waits z.
      let m = made_by now bytes s written in
      let number = ap (λ (y : List ℕ). (message_at version_2 y).sequence) m.is ∙ (fields_are (driver_cards now) i s hi hs m.n m.made).2 in
      let here : N_of r (now.state.words i) s ≡ m.n = omega arith in
      rw here (m.is ∙ sym (written_at now s m.n (rw (written_length now s) m.made))))
      ok

  performed : (c : Call) → GenuineCall c now.state → number_of c now.state ≡ 0 → called c now.state ≡ perform r (call_step c) now.state
  unfolding called number_of perform
  performed (make m i q out) g ok =
      rw (((making m).decided q (now.state.words i) out).accepted ok) (sent_makes _ i (own_message m (now.state.words i) q) out now.state ∙ sym (made_performs r i q m now.state))
  performed (take i bytes) g ok = ap (λ (y : List ℕ). called (take i y) now.state) (due_bytes i bytes (taker_there now i bytes ok) (g ok) ok)

-- ---- a history

unfoldable pub performs : ℕ → List ledger.Step → Cards → Cards
performs r [] st = st
performs r (s ∷ ss) st = performs r ss (perform r s st)

pub history_performs : {r k : ℕ} (cs : List Call) (now : DriverAt r k) → Genuine cs now.state
    → after cs now.state ≡ performs r (accepted_steps cs now.state) now.state
unfolding after accepted_steps performs
history_performs [] now g = refl
history_performs {r} (c ∷ cs) now (g, gs) =
    let next = history_performs cs (driver_at (call_matches now c g).0) gs in
    let steps = accepted_steps cs (called c now.state) in
    by_test (was_accepted (number_of c now.state))
    (λ e. rw e (next ∙ ap (performs r steps) (performed now c g (eqb-true (number_of c now.state) 0 e))))
    (λ e. rw e (next ∙ ap (performs r steps) (refused_leaves c now.state e)))
