-- LAWS. What a driver that sends again relies on. What a card has written reads, names the card and is numbered by its place; N never falls, so what was answered
-- 0 or 8 is answered 8 ever after, and all messages of a card, sent again in order, are answered 0 or 8.
use Rattle.std.specs.Prelude.{ℕ, zero, suc, ◌+◌, ◌≤◌, ◌<◌, ◌≡◌, refl, eqb}
use Rattle.std.proofs.Math.Path.{sym, ap}
use Rattle.std.proofs.Common.{◌∙◌, inl, inr, drop-cons, eqb-true, ltb-true, ltb-false, lt-ltb}
use Rattle.std.proofs.Math.Bool.{true}
use Rattle.std.proofs.lemmas.Bool.{false≢true, eqb-false}
use mathlib.Core.List.{List, [], ◌∷◌, map}
use Rattle.std.proofs.Math.Nat.{le_refl}
use native.Mathlib.Omega.{arith}
use Rattle.std.proofs.Math.ListN.{length, get_or, drop, length-drop}
use Rattle.std.proofs.lemmas.List.{length-map}
use Rattle.protocol.specs.Limits.{repeated}
use Rattle.protocol.proofs.Cases.{by_place, by_test, and_yes}
use Rattle.protocol.proofs.Tables.{put, put_same, put_other}
use Rattle.protocol.specs.Ledger as ledger
use Rattle.protocol.specs.Chassis.{Message, Replica, Chassis, taken, issued, delivered, done, Offer, accepted, stepped, counter_of}
use Rattle.protocol.proofs.InvariantSteps.{taken_N}
use Rattle.protocol.specs.Acceptance.{cards_known}
use Rattle.protocol.proofs.AcceptanceLaws.{known_sender}
use Rattle.wire.specs.declared.Message as wire
use Rattle.wire.specs.Message as form
use Rattle.wire.specs.Message.{version_2, message_bytes, message_at, reads}
use Rattle.replica_model.specs.Layout.{cards, N_of, own_card, counters}
use Rattle.replica_model.specs.Calls.{TakeOutcome, take_on}
use Rattle.replica_model.specs.ClaimTerms.{Addressed}
use Rattle.replica_model.proofs.RowLaws.{right_from, row_from}
use Rattle.replica_model.proofs.CallsLaws.{take_decided}
use Rattle.replica_model.proofs.SequenceLaws.{old_refused, again_refused}
use Rattle.replica_model.specs.Format.{on_wire, format_2, content}
use Rattle.chassis_model.specs.Driver.{Call, take, Cards, called, number_of, OneOf, WrittenBySender, GenuineCall, Genuine, after, numbers, received_answer, all_received}
use Rattle.chassis_model.proofs.Numbered.{wire_log, wire_log_at, length_numbered}
use Rattle.chassis_model.proofs.InStep.{cards_at, reached_right, reached_row, reached_N, received_few, own_N}
use Rattle.chassis_model.proofs.Moves.{message_behind}
use Rattle.chassis_model.proofs.Takes.{fields_are}
use Rattle.chassis_model.proofs.DriverMatches.{DriverAt, driver_at, driver_cards, take_cases}
use Rattle.chassis_model.proofs.DriverSteps.{call_matches, history_matches}

-- ---- what a card has written

map_at : (ms : List wire.Message) (n : ℕ) → n < length ms → get_or (map message_bytes ms) n [] ≡ message_bytes (get_or ms n form.no_message)
map_at [] n l = absurd (omega arith)
map_at (m ∷ ms) zero l = refl
map_at (m ∷ ms) (suc n) l = map_at ms n (omega arith)

one_of_at : (xs : List (List ℕ)) (n : ℕ) → n < length xs → OneOf (get_or xs n []) xs
one_of_at [] n l = absurd (omega arith)
one_of_at (x ∷ xs) zero l = inl refl
one_of_at (x ∷ xs) (suc n) l = inr (one_of_at xs n (omega arith))

module _ {r k : ℕ} (now : DriverAt r k) where
  pub written_length : (s : ℕ) → length (now.state.written s) ≡ length (now.chassis.log s)
  written_length s = rw (now.matches.written_are s) (length-map (wire_log s (now.chassis.log s)) message_bytes ∙ length_numbered s 0 (now.chassis.log s))

  -- and a card has had all of its own
  pub own_written : (s : ℕ) → s < r → N_of r (now.state.words s) s ≡ length (now.state.written s)
  own_written s hs = own_N (driver_cards now) s hs ∙ sym (written_length s)

  -- the message behind the first n
  pub written_at : (s n : ℕ) → n < length (now.state.written s) → get_or (now.state.written s) n [] ≡ message_bytes (on_wire s (n + 1) (message_behind now.chassis s n))
  written_at s n l =
      let made : n < length (now.chassis.log s) = rw (written_length s) at l in
      rw (now.matches.written_are s) (map_at (wire_log s (now.chassis.log s)) n (rw (length_numbered s 0 (now.chassis.log s)) made) ∙ ap message_bytes (wire_log_at s (now.chassis.log s) n made))

  pub written_in_order : (s : ℕ) → s < r → (n : ℕ) → n < length (now.state.written s)
      → let bytes = get_or (now.state.written s) n [] in (reads version_2 bytes ≡ true) × ((message_at version_2 bytes).sender ≡ s) × ((message_at version_2 bytes).sequence ≡ n + 1)
  written_in_order s hs n l = rw (written_at s n l) (fields_are (driver_cards now) s s hs hs n (rw (written_length s) at l))

  pub written_by_sender : (s : ℕ) → s < r → (n : ℕ) → n < length (now.state.written s) → WrittenBySender (get_or (now.state.written s) n []) now.state
  written_by_sender s hs n l = rw (written_in_order s hs n l).1 (one_of_at (now.state.written s) n l)

-- ---- N never falls

taken_more : (i s : ℕ) (m : Message) (replicas : ℕ → Replica) (j t : ℕ) → (replicas j).N t ≤ (put i (taken s m (replicas i)) replicas j).N t
taken_more i s m replicas j t =
    by_place j i
    (λ e. by_place t s (λ f. rw (e, f) (simp (put_same, taken_N) (omega arith))) (λ f. rw e (simp (put_same, taken_N, put_other) (le_refl _))))
    (λ d. simp put_other (le_refl _))

done_more : (r : ℕ) (s : ledger.Step) (ch : Chassis) (j t : ℕ) → (ch.replica j).N t ≤ ((done r s ch).replica j).N t
unfolding done issued delivered
done_more r (ledger.count i q w) ch j t = taken_more i i _ ch.replica j t
done_more r (ledger.clear i q) ch j t = taken_more i i _ ch.replica j t
done_more r (ledger.deliver i s) ch j t = taken_more i s _ ch.replica j t

stepped_more : (r : ℕ) (o : Offer) (ch : Chassis) (j t : ℕ) → (ch.replica j).N t ≤ ((stepped r o ch).replica j).N t
unfolding stepped
stepped_more r o ch j t = by_test (accepted r o ch) (λ e. rw e (done_more r o.step ch j t)) (λ e. rw e (le_refl _))

module _ {r k : ℕ} (i s : ℕ) (hi : i < r) (hs : s < r) where
  call_more : (now : DriverAt r k) (c : Call) → GenuineCall c now.state
      → N_of r (now.state.words i) s ≤ N_of r ((called c now.state).words i) s
  call_more now c g =
      rw (reached_N (driver_cards now) i s hi hs, reached_N (cards_at (call_matches now c g).0.cards) i s hi hs)
      (stepped_more r _ now.chassis i s)

  pub N_stays : (cs : List Call) (now : DriverAt r k) → Genuine cs now.state
      → N_of r (now.state.words i) s ≤ N_of r ((after cs now.state).words i) s
  unfolding after
  N_stays [] now g = le_refl _
  N_stays (c ∷ cs) now (g, gs) =
      let a = call_more now c g in
      let b = N_stays cs (driver_at (call_matches now c g).0) gs in
      omega arith

-- ---- bytes that were answered 0 or 8

-- the card of these words has had them
record Had (b bytes : List ℕ) : Type 0 where
  addressed : Addressed b bytes
  had : (message_at version_2 bytes).sequence ≤ N_of (cards b) b (message_at version_2 bytes).sender

answered_had : (b bytes : List ℕ) → (take_on b bytes).answer.number ≡ repeated → Had b bytes
answered_had b bytes e =
    let (h₁, (h₆, (h₃, (h₂, (h₇, h₈))))) = ((take_decided format_2 b bytes).exact repeated).0 e in
    record {
      addressed = (h₁, (h₆, (h₃, (h₂, (h₇, tt)))));
      had = ltb-false _ _ h₈;
    }

-- right after that answer they are answered 8
answered_again : (i : ℕ) (bytes : List ℕ) (st : Cards) → received_answer (number_of (take i bytes) st) ≡ true
    → (take_on ((called (take i bytes) st).words i) bytes).answer.number ≡ repeated
unfolding number_of called
answered_again i bytes st received =
    let n = (take_on (st.words i) bytes).answer.number in
    rw (put_same i (take_on (st.words i) bytes).words st.words)
    (by_test (eqb n 0)
    (λ t. rw (again_refused (st.words i) bytes (eqb-true n 0 t)))
    (λ t.
    let eight : n ≡ repeated = eqb-true n repeated (rw t at received) in
    rw ((take_decided format_2 (st.words i) bytes).refused (eqb-false n 0 t)) eight))

sender_below : (b bytes : List ℕ) → Had b bytes → (message_at version_2 bytes).sender < cards b
sender_below b bytes h = let (_, (_, (_, (_, (known, _))))) = h.addressed in known_sender (cards b) (own_card b) _ _ known

module _ {r k : ℕ} (i : ℕ) (hi : i < r) (bytes : List ℕ) where
  -- and ever after
  answered_stays : (more : List Call) (now : DriverAt r k) → Genuine more now.state
      → (take_on (now.state.words i) bytes).answer.number ≡ repeated → (take_on ((after more now.state).words i) bytes).answer.number ≡ repeated
  unfolding cards_known
  answered_stays more now gs e =
      let s = (message_at version_2 bytes).sender in
      let had = answered_had (now.state.words i) bytes e in
      let went = history_matches more now gs in
      let cards_then = went.0.cards in
      let on = now.matches.cards.cards_show.heads i hi in
      let then = cards_then.cards_show.heads i hi in
      let hs : s < r = rw on.cards_are at (sender_below (now.state.words i) bytes had) in
      let (_, (reads_well, (counts, (_, (known, _))))) = had.addressed in
      let q = counter_of (content (message_at version_2 bytes)) in
      let hq : q < k = rw on.counters_are at (ltb-true q (counters (now.state.words i)) counts) in
      let before : (message_at version_2 bytes).sequence ≤ N_of r (now.state.words i) s = rw on.cards_are at had.had in
      let rises = N_stays i s hi hs more now gs in
      let still : Addressed ((after more now.state).words i) bytes = (
        right_from _ (reached_right (cards_at cards_then) i hi),
        (reads_well, (rw then.counters_are (lt-ltb q k hq), (row_from _ _ (reached_row (cards_at cards_then) i q hi hq), (rw (then.cards_are, then.own_is) (rw (on.cards_are, on.own_is) at known), tt)))),
      ) in
      ap (λ (o : TakeOutcome). o.answer.number) (old_refused ((after more now.state).words i) bytes still (rw then.cards_are (omega arith)))

  pub received_once : (now : DriverAt r k) → GenuineCall (take i bytes) now.state
      → received_answer (number_of (take i bytes) now.state) ≡ true
      → (more : List Call) → Genuine more (called (take i bytes) now.state) → number_of (take i bytes) (after more (called (take i bytes) now.state)) ≡ repeated
  unfolding number_of
  received_once now g received more gs =
      answered_stays more (driver_at (call_matches now (take i bytes) g).0) gs (answered_again i bytes now.state received)

-- ---- all messages of card s, sent to card i in order

pub record Resent (r i s : ℕ) (messages : List (List ℕ)) (st : Cards) : Type 0 where
  pub genuine : Genuine (map (take i) messages) st
  pub received : all_received (numbers (map (take i) messages) st) ≡ true
  pub has_all : N_of r ((after (map (take i) messages) st).words i) s ≡ length (st.written s)

module _ {r k : ℕ} (i s : ℕ) (hi : i < r) (hs : s < r) (apart : i ≡ s → ⊥) where
  -- the message behind the first n, where card i has had so many
  taken_in_order : (now : DriverAt r k) (n : ℕ) → n < length (now.state.written s) → n ≤ N_of r (now.state.words i) s
      → received_answer (number_of (take i (get_or (now.state.written s) n [])) now.state) ≡ true
  unfolding number_of
  taken_in_order now n l had =
      let bytes = get_or (now.state.written s) n [] in
      let is = written_in_order now s hs n l in
      take_cases now i hi bytes (λ e. written_by_sender now s hs n l) (λ outcome. received_answer outcome.answer.number ≡ true)
      (λ a. absurd (false≢true (sym a ∙ is.0)))
      (λ a e. absurd (apart (e ∙ is.1)))
      (λ a d l'. refl)
      (λ a d l'. let l'' : N_of r (now.state.words i) s + 1 < n + 1 = rw (is.1, is.2) at l' in absurd (omega arith))
      (λ a d e hs' waits. refl)

  resent_from : (messages : List (List ℕ)) (n : ℕ) (now : DriverAt r k)
      → drop n (now.state.written s) ≡ messages → n ≤ N_of r (now.state.words i) s → Resent r i s messages now.state
  unfolding called after numbers all_received
  resent_from [] n now is had = record {
    genuine = tt;
    received = refl;
    has_all =
        let none = ap length is in
        let long = length-drop n (now.state.written s) in
        let most = received_few (driver_cards now) i s in
        let N = reached_N (driver_cards now) i s hi hs in
        let all = written_length now s in
        omega arith;
  }
  resent_from (x ∷ messages) n now is had =
      let l : n < length (now.state.written s) = let a = ap length is in let b = length-drop n (now.state.written s) in omega arith in
      let here = sym (drop-cons (now.state.written s) n [] l) ∙ is in
      let first : get_or (now.state.written s) n [] ≡ x = ap (λ (ys : List (List ℕ)). get_or ys 0 []) here in
      let rest : drop (suc n) (now.state.written s) ≡ messages = ap (drop 1) here in
      let g : GenuineCall (take i x) now.state = λ ok. rw (← first) (written_by_sender now s hs n l) in
      let good : received_answer (number_of (take i x) now.state) ≡ true = rw (← first) (taken_in_order now n l had) in
      let order = written_in_order now s hs n l in
      let from : (message_at version_2 x).sender ≡ s = rw (← first) order.1 in
      let number : (message_at version_2 x).sequence ≡ n + 1 = rw (← first) order.2 in
      let after_it = (call_matches now (take i x) g).0 in
      let more = rw (from, number, (after_it.cards.cards_show.heads i hi).cards_are) at (answered_had ((called (take i x) now.state).words i) x (answered_again i x now.state good)).had in
      let next = resent_from messages (suc n) (driver_at after_it) rest (omega arith) in
      record { genuine = (g, next.genuine); received = and_yes _ _ good next.received; has_all = next.has_all }

  pub resent : (now : DriverAt r k) → Resent r i s (now.state.written s) now.state
  resent now = resent_from (now.state.written s) 0 now refl (omega arith)
