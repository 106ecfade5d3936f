-- LAWS. What card i of a chassis in step with the theory does when it is to make a message: it answers 3, 16, 4 or 5 and leaves all as it was, or it sends the
-- theory's message, which can be read again and keeps to the limits, and its words are those of the chassis with that message issued.
use Rattle.std.specs.Prelude.{ℕ, suc, ◌+◌, ◌≤◌, ◌<◌, ◌≡◌, refl, ◌≢◌, true, List, [], ◌∷◌, length, leb}
use Rattle.std.proofs.Common.{sym, ap, ap₂, ◌∙◌, arith, ltb-true, leb-true, le-ltb}
use Rattle.protocol.specs.Limits.{MAX, short_output}
use Rattle.protocol.proofs.Cases.{by_place, by_le}
use Rattle.protocol.proofs.Tables.{put}
use Rattle.protocol.specs.Ledger.{ledger_value}
use Rattle.protocol.specs.Chassis.{Message, Chassis, issued, units_of}
use Rattle.protocol.specs.Checks.{or_else, first_failing}
use Rattle.protocol.proofs.ChecksLaws.{first_is, first_passes, all_second}
use Rattle.wire.specs.Message.{message_bytes, message_length, over}
use Rattle.wire.specs.Claims.{message_bytes_length}
use Rattle.replica_model.specs.Layout.{cards, own_card, C_of, N_of}
use Rattle.replica_model.specs.Calls.{SendOutcome, left_checks, send_checks, not_sent, sent_with, words_after, ClearedOutcome, with_value}
use Rattle.replica_model.specs.ClaimTerms.{Writable}
use Rattle.replica_model.proofs.RowLaws.{right_from, row_from}
use Rattle.replica_model.proofs.AcceptedCalls.{sent_facts}
use Rattle.replica_model.specs.Format.{on_wire, size_of, format_2}
use Rattle.chassis_model.specs.Run.{Making, Make, counted, asked, call_of}
use Rattle.chassis_model.specs.Ledger.{ledger_action}
use Rattle.chassis_model.specs.Answers.{message_size, step_size, maker_checks, value_asked}
use Rattle.chassis_model.proofs.LogLaws.{Readable}
use Rattle.chassis_model.proofs.Numbered.{Sendable, on_wire_version}
use Rattle.chassis_model.proofs.InStep.{CardsShow, CardsAt, reached_right, reached_row, reached_N, reached_C}
use Rattle.chassis_model.proofs.Moves.{issued_cards_show}
use Rattle.chassis_model.proofs.Makings.{message_of, own_message, own_size, own_value, making, message_sendable, message_units, message_writable, message_shown}
use Rattle.chassis_model.proofs.ReadsOfReplicas.{holders_counted, value_reads}

-- what is known of a message x that card i, with the words b, may send next
pub record Outgoing (r k i : ℕ) (b : List ℕ) (x : Message) : Type 0 where
  pub sendable : Sendable r k x
  pub few : N_of r b i < MAX
  pub fits : C_of b i + units_of x ≤ MAX
  pub readable : Readable (on_wire i (N_of r b i + 1) x)

-- what is known where it may make the message of m on counter q
pub record Going (r k i q : ℕ) (b : List ℕ) (m : Making) : Type 0 where
  pub counter : q < k
  pub amount : asked m ≡ true
  pub few : N_of r b i < MAX
  pub room : C_of b i + counted m ≤ MAX

-- what a call leaves that sends it
abbrev pub sent_outcome : ℕ → ℕ → List ℕ → List ℕ → Message → SendOutcome
sent_outcome r i b out x =
    record {
      answer = record { number = 0; sequence = N_of r b i + 1; length = size_of x };
      words = words_after i x b;
      out = over (message_bytes (on_wire i (N_of r b i + 1) x)) out;
    }

as_outcome : (b out : List ℕ) (x : Message) → sent_with format_2 b out x ≡ sent_outcome (cards b) (own_card b) b out x
unfolding words_after
as_outcome b out x = refl

-- the message that card i makes on counter q
abbrev pub next_message : ℕ → Chassis → Making → ℕ → ℕ → Message
next_message r ch m i q = message_of m r i q (ch.replica i)

module _ {r k : ℕ} (now : CardsAt r k) (m : Making) (i q : ℕ) (hi : i < r) where
  abbrev b : List ℕ
  b = now.replicas i

  abbrev N : ℕ
  N = N_of r b i

  abbrev C : ℕ
  C = C_of b i

  module _ (hq : q < k) where
    -- the size of the words' message is the ledger's
    own_told : own_size m b q ≡ message_size r m i q (now.ledgers q)
    own_told =
        rw (now.in_step.cards_show.heads i hi).own_is (ap (step_size (ledger_action (Make m i q))) (holders_counted now i q hi hq))

  module _ (may : Going r k i q b m) where
    pub writable : Writable (on_wire i (N + 1) (next_message r now.chassis m i q)) (message_size r m i q (now.ledgers q))
    writable =
        let on = now.in_step.cards_show.heads i hi in
        let hq = may.counter in
        rw (own_told hq, message_shown m r k i q b (now.chassis.replica i) on (now.in_step.cards_show.shows i hi) hi hq, on.own_is, on.cards_are) at
        (message_writable m b q may.amount (record {
          right = reached_right now i hi;
          counter = rw on.counters_are hq;
          row = reached_row now i q hi hq;
          more = rw (on.cards_are, on.own_is) may.few;
          room = rw on.own_is may.room;
        }))

    pub next_outgoing : Outgoing r k i b (next_message r now.chassis m i q)
    next_outgoing = record {
      sendable = message_sendable m r k i q (now.chassis.replica i) may.counter;
      few = may.few;
      fits = rw (message_units m r i q (now.chassis.replica i)) may.room;
      readable = record { version = on_wire_version i (N + 1) (next_message r now.chassis m i q); fits = writable.ranges; held = writable.whole };
    }

    -- and so is that of the theory's
    pub size_is : message_length (on_wire i (N + 1) (next_message r now.chassis m i q)) ≡ message_size r m i q (now.ledgers q)
    size_is = sym (message_bytes_length (on_wire i (N + 1) (next_message r now.chassis m i q))) ∙ writable.long

  -- the checks that are left of the call's, and what they give
  abbrev pub told : ℕ → ℕ
  told room = first_failing (maker_checks k q m true N C (leb (message_size r m i q (now.ledgers q)) room) short_output)

  call_told : (out : List ℕ) → (call_of m q b out).answer.number ≡ told (length out)
  call_told out =
      let on = now.in_step.cards_show.heads i hi in
      let right = right_from b (reached_right now i hi) in
      let n = (call_of m q b out).answer.number in
      let first = first_is (send_checks b q (asked m) (counted m) out (own_size m b q)) refl n ((((making m).decided q b out).exact n).0 refl) in
      let own : N_of (cards b) b (own_card b) ≡ N = rw (on.cards_are, on.own_is) in
      let own_C : C_of b (own_card b) ≡ C = rw on.own_is in
      by_le (suc q) k
      (λ hq. sym first ∙ rw (right, on.counters_are, row_from b q (reached_row now i q hi hq), own, own_C, own_told hq))
      (λ far. sym first ∙ rw (right, on.counters_are, le-ltb q k (omega arith)))

  -- the value that it answers where it is accepted
  abbrev pub value_told : ℕ
  value_told = value_asked (Make m i q) (λ j c. ledger_value j (now.ledgers c))

  -- one of two things comes of the call
  pub call_cases : (P : ClearedOutcome → Type 0) (out : List ℕ)
      → ((n : ℕ) → n ≢ 0 → n ≡ told (length out) → P (with_value 0 (not_sent n b out)))
      → (0 ≡ told (length out) → Going r k i q b m → Outgoing r k i b (next_message r now.chassis m i q) → message_size r m i q (now.ledgers q) ≤ length out
      → P (with_value value_told (sent_outcome r i b out (next_message r now.chassis m i q))))
      → P (call_of m q b out)
  call_cases P out refuses sends =
      let on = now.in_step.cards_show.heads i hi in
      let d = (making m).decided q b out in
      let n = (call_of m q b out).answer.number in
      let size = message_size r m i q (now.ledgers q) in
      by_place n 0
      (λ e.
      let none = sym e ∙ call_told out in
      let (there, (_, rest)) = first_passes (maker_checks k q m true N C (leb size (length out)) short_output) refl (sym none) in
      let hq = ltb-true q k there in
      let room = leb-true size (length out) (all_second (left_checks N C (counted m)) (or_else (leb size (length out)) short_output ∷ []) rest).0 in
      let (facts, some) = sent_facts b q (asked m) (counted m) out (own_size m b q) ((d.exact 0).0 e) in
      let may : Going r k i q b m
      = record { counter = hq; amount = some; few = rw (on.cards_are, on.own_is) at facts.more; room = rw on.own_is at facts.room } in
      let value : own_value m b q ≡ value_told = (making m).asks (own_card b) i q _ _ (value_reads now i q hi hq) in
      let is : call_of m q b out ≡ with_value value_told (sent_outcome (cards b) (own_card b) b out (own_message m b q))
      = d.accepted e ∙ ap₂ (λ (v : ℕ) (o : SendOutcome). with_value v o) value (as_outcome b out (own_message m b q)) in
      rw (is, message_shown m r k i q b (now.chassis.replica i) on (now.in_step.cards_show.shows i hi) hi hq, on.own_is, on.cards_are)
      (sends none may (next_outgoing may) room))
      (λ some. rw (d.refused some) (refuses n some (call_told out)))

-- ---- the words after a message is made

pub issued_here : {r k : ℕ} (now : CardsAt r k) (i : ℕ) → i < r → (x : Message) → Outgoing r k i (now.replicas i) x
    → CardsShow r k (put i (words_after i x (now.replicas i)) now.replicas) (issued i x now.chassis)
issued_here now i hi x goes =
    let N = reached_N now i i hi hi in
    issued_cards_show now i x hi goes.sendable (rw N at goes.few) (rw (reached_C now i hi) at goes.fits) (rw N at goes.readable)
