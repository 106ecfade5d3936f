-- LAWS. What card i of a chassis in step with the theory does for a message that some card has made: its own it refuses with 7, one that it has had with 8,
-- one that is not next with 9, and the next it takes.
use Rattle.std.specs.Prelude.{ℕ, ◌+◌, ◌≤◌, ◌<◌, ◌≡◌, refl, true, List, length}
use Rattle.std.proofs.Common.{arith}
use Rattle.protocol.specs.Limits.{MAX, bad_card, repeated, early}
use Rattle.protocol.proofs.Cases.{by_place, by_le}
use Rattle.protocol.specs.Chassis.{Message, counter_of}
use Rattle.protocol.proofs.Refusals.{Plausible, waiting_plausible}
use Rattle.protocol.proofs.AcceptanceLaws.{plausible_cong}
use Rattle.wire.specs.Message.{version_2, message_bytes, message_at, reads}
use Rattle.wire.specs.RoundTrips.{read_as}
use Rattle.wire.specs.Claims.{written_reads}
use Rattle.replica_model.specs.Layout.{C_of, N_of}
use Rattle.replica_model.specs.Calls.{TakeOutcome, not_taken, take_on, words_after}
use Rattle.replica_model.specs.ClaimTerms.{RowOf, Addressed}
use Rattle.replica_model.proofs.SequenceLaws.{old_refused, early_refused}
use Rattle.replica_model.specs.Format.{on_wire}
use Rattle.chassis_model.proofs.LogLaws.{Readable}
use Rattle.chassis_model.proofs.Numbered.{wire_log_at, length_numbered, Sendable, sendable_counter, on_wire_version, on_wire_sender, on_wire_sequence, on_wire_counter}
use Rattle.chassis_model.proofs.InStep.{CardsAt, reached_right, reached_row, reached_N, made_all}
use Rattle.chassis_model.proofs.Moves.{message_behind, due_message}
use Rattle.chassis_model.proofs.AcceptedMessages.{addressed, own_refused, take_accepted}

-- what a take leaves that applies card s's message m
abbrev pub taken_outcome : ℕ → ℕ → List ℕ → Message → TakeOutcome
taken_outcome r s b m = record { answer = record { number = 0; sequence = N_of r b s + 1 }; words = words_after s m b }

module _ {r k : ℕ} (now : CardsAt r k) (i s : ℕ) (hi : i < r) (hs : s < r) where
  module _ (n : ℕ) (made : n < length (now.chassis.log s)) where
    pub made_readable : Readable (on_wire s (n + 1) (message_behind now.chassis s n))
    made_readable =
        rw (← (wire_log_at s (now.chassis.log s) n made)) (now.in_step.cards_show.readable s hs n (rw (length_numbered s 0 (now.chassis.log s)) made))

    pub made_sendable : Sendable r k (message_behind now.chassis s n)
    made_sendable = now.in_step.cards_show.sendable s hs n made

    pub made_row : RowOf (now.replicas i) (counter_of (message_behind now.chassis s n))
    made_row = reached_row now i (counter_of (message_behind now.chassis s n)) hi (sendable_counter r k (message_behind now.chassis s n) made_sendable)

    made_addressed : (i ≡ s → ⊥) → Addressed (now.replicas i) (message_bytes (on_wire s (n + 1) (message_behind now.chassis s n)))
    made_addressed apart =
        addressed r k s (n + 1) (message_behind now.chassis s n) made_sendable made_readable i (now.replicas i) (now.in_step.cards_show.heads i hi) (reached_right now i hi) hs made_row
        apart

  -- ---- the message that is due

  module _ (apart : i ≡ s → ⊥) (waits : (now.chassis.replica i).N s < length (now.chassis.log s)) where
    pub due_plausible : Plausible MAX i s (now.chassis.replica i).C (due_message now.chassis i s)
    due_plausible =
        let q = counter_of (due_message now.chassis i s) in
        waiting_plausible r q now.chassis (now.ledgers q) (now.in_step.invariants q) MAX i s (now.in_step.cards_show.own.C≤ s) (rw (made_all now s) waits) refl

    pub due_taken : take_on (now.replicas i) (message_bytes (on_wire s (N_of r (now.replicas i) s + 1) (due_message now.chassis i s))) ≡ taken_outcome r s (now.replicas i) (due_message now.chassis i s)
    due_taken =
        let N = reached_N now i s hi hs in
        let a = made_addressed ((now.chassis.replica i).N s) waits apart in
        let good = made_readable ((now.chassis.replica i).N s) waits in
        let shown = now.in_step.cards_show.shows i hi in
        take_accepted r k i s (now.replicas i) (due_message now.chassis i s) (now.in_step.cards_show.heads i hi) (made_sendable ((now.chassis.replica i).N s) waits)
        (plausible_cong i s (now.chassis.replica i).C (C_of (now.replicas i)) (shown.Cs i hi) (shown.Cs s hs) (due_message now.chassis i s) due_plausible) (rw N good) (rw N a)

  -- ---- any message that s has made

  module _ (n : ℕ) (made : n < length (now.chassis.log s)) where
    -- what its bytes read as
    read_back : let x = on_wire s (n + 1) (message_behind now.chassis s n) in (reads version_2 (message_bytes x) ≡ true) × (message_at version_2 (message_bytes x) ≡ x)
    read_back =
        let x = on_wire s (n + 1) (message_behind now.chassis s n) in
        let good = made_readable n made in
        rw (on_wire_version s (n + 1) (message_behind now.chassis s n)) at (read_as (message_bytes x) x (written_reads x good.held good.fits))

    pub fields_are : let bytes = message_bytes (on_wire s (n + 1) (message_behind now.chassis s n)) in
        (reads version_2 bytes ≡ true) × ((message_at version_2 bytes).sender ≡ s) × ((message_at version_2 bytes).sequence ≡ n + 1)
    fields_are =
        let m = message_behind now.chassis s n in
        (read_back.0, rw read_back.1 (on_wire_sender s (n + 1) m), rw read_back.1 (on_wire_sequence s (n + 1) m))

    pub counter_read : (message_at version_2 (message_bytes (on_wire s (n + 1) (message_behind now.chassis s n)))).counter ≡ counter_of (message_behind now.chassis s n)
    counter_read = rw read_back.1 (on_wire_counter s (n + 1) (message_behind now.chassis s n))

    pub message_cases : (P : TakeOutcome → Type 0)
        → (i ≡ s → P (not_taken bad_card (now.replicas i)))
        → ((i ≡ s → ⊥) → n + 1 ≤ N_of r (now.replicas i) s → P (not_taken repeated (now.replicas i)))
        → ((i ≡ s → ⊥) → N_of r (now.replicas i) s + 1 < n + 1 → P (not_taken early (now.replicas i)))
        → ((i ≡ s → ⊥) → n ≡ N_of r (now.replicas i) s → (now.chassis.replica i).N s < length (now.chassis.log s) → P (taken_outcome r s (now.replicas i) (due_message now.chassis i s)))
        → P (take_on (now.replicas i) (message_bytes (on_wire s (n + 1) (message_behind now.chassis s n))))
    message_cases P seven eight nine takes =
        let b = now.replicas i in
        let bytes = message_bytes (on_wire s (n + 1) (message_behind now.chassis s n)) in
        let N = reached_N now i s hi hs in
        let fields = fields_are in
        let cards_are = (now.in_step.cards_show.heads i hi).cards_are in
        by_place i s
        (λ e.
        rw (own_refused r k s (n + 1) (message_behind now.chassis s n) (made_sendable n made) (made_readable n made) i b (now.in_step.cards_show.heads i hi) (reached_right now i hi) hs
        (made_row n made) e)
        (seven e))
        (λ d.
        by_le (n + 1) (N_of r b s)
        (λ l. rw (old_refused b bytes (made_addressed n made d) (rw (fields.1, fields.2, cards_are) l)) (eight d l))
        (λ l.
        by_place n (N_of r b s)
        (λ e.
        let waits : (now.chassis.replica i).N s < length (now.chassis.log s) = omega arith in
        let here : n ≡ (now.chassis.replica i).N s = omega arith in
        let taken : take_on b bytes ≡ taken_outcome r s b (due_message now.chassis i s) = rw (here, N) (rw N at (due_taken d waits)) in
        rw taken (takes d e waits))
        (λ f.
        let far : N_of r b s + 1 < n + 1 = omega arith in
        rw (early_refused b bytes (made_addressed n made d) (rw (fields.1, fields.2, cards_are) far)) (nine d far))))
