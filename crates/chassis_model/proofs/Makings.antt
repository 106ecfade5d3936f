-- LAWS. What a making is (`IsMaking`): the step of the ledger, and so the message, that it is; the call that sends that message; its length; and the value that it
-- reads. Each making has
-- an instance here. All that is known of makings besides follows from these facts, and no law outside this file tells one making from another.
use Rattle.std.specs.Prelude.{ℕ, ◌<◌, ◌≡◌, refl, true, cond, List, leb}
use Rattle.std.proofs.Math.Path.{sym}
use Rattle.std.proofs.Common.{ap, ◌∙◌, arith}
use Rattle.std.proofs.Math.Dec.{eqb}
use borrow.Author.Tests.{lt-ltb, leb-true, eq-eqb, ne_eqb}
use Rattle.protocol.proofs.Cases.{by_place, and_left}
use Rattle.protocol.specs.Ledger as ledger
use Rattle.protocol.specs.Chassis.{Message, Replica, Chassis, no_message, count_message, clear_message, issued, done, enabled, units_of}
use Rattle.protocol.specs.Alone.{Turns, step_counter, belongs_by_turns}
use Rattle.protocol.proofs.StoreLaws.{Shows, shown, count_shown, clear_shown}
use Rattle.protocol.specs.Checks.{Decided}
use Rattle.replica_model.specs.Layout.{cards, own_card, layout}
use Rattle.replica_model.specs.Calls.{is_amount, state, reading, read_on, not_sent, send_checks, sent_with, holders, ClearedOutcome, with_value}
use Rattle.replica_model.specs.ClaimTerms.{sent_as, Writable, Isolates}
use Rattle.replica_model.proofs.PresentLaws.{present_below}
use Rattle.replica_model.specs.declared.Reading.{Reading}
use Rattle.replica_model.proofs.AcceptedCalls.{sent_facts}
use Rattle.replica_model.proofs.Senders.{Sending, count_writable, clear_writable}
use Rattle.replica_model.proofs.CallsLaws.{read_passes, count_decided, clear_decided, value_decided, read_and_clear_decided}
use Rattle.replica_model.proofs.Claims.{count_isolates, clear_isolates, read_and_clear_isolates}
use Rattle.replica_model.specs.Format.{format_2}
use Rattle.chassis_model.specs.Run.{Making, Count, Clear, ReadAndClear, Make, counted, asked, call_of}
use Rattle.chassis_model.specs.Ledger.{ledger_action}
use Rattle.chassis_model.specs.Answers.{step_size, value_asked}
use Rattle.chassis_model.proofs.Numbered.{Sendable}
use Rattle.chassis_model.proofs.InStep.{Heads}

-- the message that a count or a clear makes on a chassis of r cards, from its card's replica
unfoldable pub step_message : ℕ → ledger.Step → Replica → Message
step_message r (ledger.count i q w) b = count_message i q w b
step_message r (ledger.clear i q) b = clear_message r q b
step_message r (ledger.deliver i s) b = no_message

-- the message that card i makes on counter q; the one that the words' own card makes, and its length
abbrev pub message_of : Making → ℕ → ℕ → ℕ → Replica → Message
message_of m r i q b = step_message r (ledger_action (Make m i q)) b

abbrev pub own_message : Making → List ℕ → ℕ → Message
own_message m b q = message_of m (cards b) (own_card b) q (state b)

abbrev pub own_size : Making → List ℕ → ℕ → ℕ
own_size m b q = step_size (ledger_action (Make m (own_card b) q)) (holders b q)

-- the value that it reads
abbrev pub own_value : Making → List ℕ → ℕ → ℕ
own_value m b q = value_asked (Make m (own_card b) q) (λ i c. (reading b c).value)

pub record IsMaking (m : Making) : Type 1 where
  -- to the ledger it is a count by what it counts, whose amount is asked for, or a clear, which counts nothing
  pub as_step : (P : (ℕ → ℕ → ledger.Step) → Type 0) → (asked m ≡ is_amount (counted m) → P (λ i q. ledger.count i q (counted m)))
      → (counted m ≡ 0 → P (λ i q. ledger.clear i q)) → P (λ i q. ledger_action (Make m i q))
  -- its call has the checks of every call that sends, and sends that step's message
  pub decided : (q : ℕ) (b out : List ℕ)
      → Decided (λ o. o.answer.number) (λ n. with_value 0 (not_sent n b out)) (send_checks b q (asked m) (counted m) out (own_size m b q))
      (with_value (own_value m b q) (sent_with format_2 b out (own_message m b q))) (call_of m q b out)
  -- of values it asks for no other than that of its counter and card
  pub asks : (i j q : ℕ) (f g : ℕ → ℕ → ℕ) → f i q ≡ g j q → value_asked (Make m i q) f ≡ value_asked (Make m j q) g
  -- the call leaves other counters
  pub isolates : (q : ℕ) (b out : List ℕ) → Isolates b q (call_of m q b out).words

is_count : (w : ℕ) → IsMaking (Count w)
unfolding call_of counted asked ledger_action step_message step_size value_asked
is_count w = record {
  as_step = λ P counts clears. counts refl;
  decided = λ q b out. value_decided 0 0 b out _ _ _ (λ e. refl) (λ d. refl) (count_decided b q w out);
  asks = λ i j q f g same. refl;
  isolates = λ q b out. count_isolates b q w out;
}

is_clear : IsMaking Clear
unfolding call_of counted asked ledger_action step_message step_size value_asked
is_clear = record {
  as_step = λ P counts clears. clears refl;
  decided = λ q b out. value_decided 0 0 b out _ _ _ (λ e. refl) (λ d. refl) (clear_decided b q out);
  asks = λ i j q f g same. refl;
  isolates = λ q b out. clear_isolates b q out;
}

is_read_and_clear : IsMaking ReadAndClear
unfolding call_of counted asked ledger_action step_message step_size value_asked
is_read_and_clear = record {
  as_step = λ P counts clears. clears refl;
  decided = λ q b out. read_and_clear_decided b q out;
  asks = λ i j q f g same. same;
  isolates = λ q b out. read_and_clear_isolates b q out;
}

pub making : (m : Making) → IsMaking m
making (Count w) = is_count w
making Clear = is_clear
making ReadAndClear = is_read_and_clear

-- ---- its message keeps to the limits

module _ (m : Making) where
  pub message_sendable : (r k i q : ℕ) (b : Replica) → q < k → Sendable r k (message_of m r i q b)
  unfolding step_message count_message clear_message
  message_sendable r k i q b hq =
      (making m).as_step (λ step. Sendable r k (step_message r (step i q) b)) (λ _. hq) (λ _. (hq, present_below (b.entry q) r r (omega arith)))

  -- and counts what the making counts
  pub message_units : (r i q : ℕ) (b : Replica) → units_of (message_of m r i q b) ≡ counted m
  unfolding step_message count_message clear_message
  message_units r i q b = (making m).as_step (λ step. units_of (step_message r (step i q) b) ≡ counted m) (λ _. refl) (λ none. sym none)

  -- ---- it can be written

  pub message_writable : (b : List ℕ) (q : ℕ) → asked m ≡ true → Sending b q (counted m) → Writable (sent_as b (own_message m b q)) (own_size m b q)
  unfolding step_message step_size
  message_writable b q some s =
      (making m).as_step (λ step. Writable (sent_as b (step_message (cards b) (step (own_card b) q) (state b))) (step_size (step (own_card b) q) (holders b q)))
      (λ is. count_writable b q (counted m) s (sym is ∙ some)) (λ _. clear_writable b q (counted m) s)

  -- the words' message is that of the replica that they show
  pub message_shown : (r k i q : ℕ) (b : List ℕ) (c : Replica) → Heads r k i b → Shows (layout r k) r k b c → i < r → q < k
      → own_message m b q ≡ message_of m r i q c
  unfolding step_message
  message_shown r k i q b c h s hi hq =
      rw (h.own_is, h.cards_are, h.counters_are)
      ((making m).as_step (λ step. step_message r (step i q) (shown (layout r k) b) ≡ step_message r (step i q) c)
      (λ _. count_shown r k (layout r k) i q (counted m) b c hi hq s) (λ _. clear_shown r k (layout r k) q b c hq s))

  -- ---- the theory's step: it is enabled, and issues the message

  pub making_enabled : (r i q : ℕ) (ch : Chassis) → i < r → asked m ≡ true → enabled r (ledger_action (Make m i q)) ch ≡ true
  unfolding enabled
  making_enabled r i q ch hi some =
      (making m).as_step (λ step. enabled r (step i q) ch ≡ true)
      (λ is. rw (lt-ltb i r hi) (lt-ltb 0 (counted m) (leb-true 1 (counted m) (and_left (leb 1 (counted m)) _ (sym is ∙ some)))))
      (λ _. lt-ltb i r hi)

  pub making_done : (r i q : ℕ) (ch : Chassis) → done r (ledger_action (Make m i q)) ch ≡ issued i (message_of m r i q (ch.replica i)) ch
  unfolding done step_message
  making_done r i q ch = (making m).as_step (λ step. done r (step i q) ch ≡ issued i (step_message r (step i q) (ch.replica i)) ch) (λ _. refl) (λ _. refl)

  -- it is of counter q
  pub making_counter : (i q : ℕ) (ch : Chassis) → step_counter (ledger_action (Make m i q)) ch ≡ q
  unfolding step_counter
  making_counter i q ch = (making m).as_step (λ step. step_counter (step i q) ch ≡ q) (λ _. refl) (λ _. refl)

  pub making_belongs : (i q c : ℕ) (turns : Turns) → belongs_by_turns q (ledger_action (Make m i c)) turns ≡ eqb c q
  unfolding belongs_by_turns
  making_belongs i q c turns = (making m).as_step (λ step. belongs_by_turns q (step i c) turns ≡ eqb c q) (λ _. refl) (λ _. refl)

  -- ---- the value that its call answers is the one that a read gives just before, in any words

  pub value_read : (i q : ℕ) (b out : List ℕ) (value : ℕ → ℕ → ℕ) → value i q ≡ (read_on b q).value
      → (call_of m q b out).answer.value ≡ cond (eqb (call_of m q b out).answer.number 0) (value_asked (Make m i q) value) 0
  value_read i q b out value is =
      let d = (making m).decided q b out in
      let n = (call_of m q b out).answer.number in
      by_place n 0
      (λ e.
      let k = (sent_facts b q (asked m) (counted m) out (own_size m b q) ((d.exact 0).0 e)).0 in
      let read : (reading b q).value ≡ value i q = sym (ap (λ (a : Reading). a.value) (read_passes b q k.right k.counter k.row)) ∙ sym is in
      rw (eq-eqb n 0 e) (ap (λ (o : ClearedOutcome). o.answer.value) (d.accepted e) ∙ (making m).asks (own_card b) i q _ value read))
      (λ some. rw (ne_eqb n 0 some) (ap (λ (o : ClearedOutcome). o.answer.value) (d.refused some)))
