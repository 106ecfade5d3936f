-- LAWS. A driver's cards beside the theory's chassis and ledgers: the words are in step with them, what a card has written are the bytes of its messages in
-- the order made, and a card that is not there is as it was. So a genuine message is one of the theory's, and one of five things comes of its take.
use Rattle.std.specs.Prelude.{ℕ, suc, ◌+◌, ◌≤◌, ◌<◌, ◌≡◌, refl, true, false, List, [], ◌∷◌, map, get_or}
use Rattle.std.proofs.Common.{sym, ◌∙◌, subst, inl, inr, append-nil, arith}
use Rattle.std.proofs.Math.Path.{ap}
use Rattle.std.proofs.Math.ListN.{length}
use Rattle.protocol.specs.Limits.{unreadable, bad_card, repeated, early}
use Rattle.protocol.proofs.Cases.{by_place, by_le, by_test, not_yes}
use Rattle.protocol.proofs.Tables.{put, put_at, put_other}
use Rattle.protocol.specs.Ledger.{Ledger, empty_ledger}
use Rattle.protocol.specs.Chassis.{Chassis, fresh_chassis}
use Rattle.protocol.proofs.Links.{outside_log}
use Rattle.protocol.proofs.Theorem.{fresh_invariant}
use Rattle.protocol.proofs.ChecksLaws.{refusal_given}
use Rattle.wire.specs.declared.Message as wire
use Rattle.wire.specs.Message as form
use Rattle.wire.specs.Message.{version_2, message_bytes, message_at, reads}
use Rattle.replica_model.specs.Layout.{N_of, fresh_words}
use Rattle.replica_model.specs.Calls.{right, not_sent, with_value, TakeOutcome, not_taken, take_on}
use Rattle.replica_model.proofs.RowLaws.{right_facts, right_from}
use Rattle.replica_model.proofs.CallsLaws.{take_decided}
use Rattle.replica_model.specs.Format.{on_wire, format_2}
use Rattle.chassis_model.specs.Ledger.{was_accepted}
use Rattle.chassis_model.specs.Driver.{Cards, opened, wrote, sent, OneOf, NotForged, take}
use Rattle.chassis_model.proofs.Numbered.{numbered, wire_log, wire_log_at, length_numbered}
use Rattle.chassis_model.proofs.InStep.{Sizes, InStep, CardsAt, reached_right}
use Rattle.chassis_model.proofs.FreshRun.{fresh_cards_show}
use Rattle.chassis_model.proofs.Moves.{message_behind, due_message}
use Rattle.chassis_model.proofs.Takes.{taken_outcome, fields_are, message_cases}

pub record DriverMatches (r k : ℕ) (st : Cards) (ch : Chassis) (ls : ℕ → Ledger) : Type 0 where
  pub cards : InStep r k st.words ch ls
  pub written_are : (j : ℕ) → st.written j ≡ map message_bytes (wire_log j (ch.log j))
  pub not_there : (i : ℕ) → r ≤ i → st.words i ≡ fresh_words r k i

-- a driver's cards, and the chassis and ledgers that they match
pub record DriverAt (r k : ℕ) : Type 0 where
  pub state : Cards
  pub chassis : Chassis
  pub ledgers : ℕ → Ledger
  pub matches : DriverMatches r k state chassis ledgers

abbrev pub driver_at : {r k : ℕ} {st : Cards} {ch : Chassis} {ls : ℕ → Ledger} → DriverMatches r k st ch ls → DriverAt r k
driver_at {st = st} {ch = ch} {ls = ls} h = record { state = st; chassis = ch; ledgers = ls; matches = h }

abbrev pub driver_cards : {r k : ℕ} → DriverAt r k → CardsAt r k
driver_cards now = record { replicas = now.state.words; chassis = now.chassis; ledgers = now.ledgers; in_step = now.matches.cards }

-- ---- at the beginning

pub opened_matches : (r k : ℕ) → Sizes r k → DriverMatches r k (opened r k) fresh_chassis (λ q. empty_ledger)
unfolding numbered
opened_matches r k z = record {
  cards = record { sizes = z; cards_show = fresh_cards_show r k; invariants = λ q. fresh_invariant r q };
  written_are = λ j. refl;
  not_there = λ i far. refl;
}

-- a card that is not there was never opened
pub never_right : (r k i : ℕ) → r ≤ i → right (fresh_words r k i) ≡ false
unfolding fresh_words
never_right r k i far = not_yes (right (fresh_words r k i)) (λ t. let below : i < r = (right_facts (fresh_words r k i) t).own in omega arith)

-- ---- a refused call leaves the cards as they were

pub put_back : {A : Type 0} (k : ℕ) (f : ℕ → A) → put k (f k) f ≡ f
put_back k f = λ x i. same i x
  where
    same : (i : ℕ) → put k (f k) f i ≡ f i
    same i = by_place i k (λ e. put_at k (f k) f i e ∙ ap f (sym e)) (λ d. put_other k (f k) f i d)

pub sent_refused : (i number : ℕ) (out : List ℕ) (st : Cards) → was_accepted number ≡ false → sent i (with_value 0 (not_sent number (st.words i) out)) st ≡ st
unfolding sent wrote
sent_refused i number out st declined =
    rw (declined, append-nil (st.written i)) (λ x. record { words = put_back i st.words x; written = put_back i st.written x })

pub take_refused : (i : ℕ) (st : Cards) → record { words = put i (st.words i) st.words; written = st.written } ≡ st
take_refused i st = λ x. record { words = put_back i st.words x; written = st.written }

-- ---- a genuine message

-- which of them it is
record Place (x : List ℕ) (ms : List wire.Message) : Type 0 where
  n : ℕ
  within : n < length ms
  is : x ≡ message_bytes (get_or ms n form.no_message)

place_of : (x : List ℕ) (ms : List wire.Message) → OneOf x (map message_bytes ms) → Place x ms
place_of x [] o = absurd o
place_of x (m ∷ ms) (inl e) = record { n = 0; within = omega arith; is = e }
place_of x (m ∷ ms) (inr o) = let p = place_of x ms o in record { n = suc p.n; within = let l = p.within in omega arith; is = p.is }

-- card s's message behind its first n
pub record Made (r : ℕ) (ch : Chassis) (bytes : List ℕ) (s : ℕ) : Type 0 where
  pub below : s < r
  pub n : ℕ
  pub made : n < length (ch.log s)
  pub is : bytes ≡ message_bytes (on_wire s (n + 1) (message_behind ch s n))

module _ {r k : ℕ} (now : DriverAt r k) where
  pub made_by : (bytes : List ℕ) (s : ℕ) → OneOf bytes (now.state.written s) → Made r now.chassis bytes s
  unfolding numbered
  made_by bytes s one =
      let o : OneOf bytes (map message_bytes (wire_log s (now.chassis.log s))) = rw (now.matches.written_are s) at one in
      let p = place_of bytes (wire_log s (now.chassis.log s)) o in
      let made : p.n < length (now.chassis.log s) = rw (length_numbered s 0 (now.chassis.log s)) at p.within in
      record {
        below =
            by_le (suc s) r (λ l. l)
            (λ l. let none = ap length (outside_log r 0 now.chassis (now.ledgers 0) (now.matches.cards.invariants 0) s (omega arith)) in absurd (omega arith));
        n = p.n;
        made = made;
        is = p.is ∙ ap message_bytes (wire_log_at s (now.chassis.log s) p.n made);
      }

  -- ---- what comes of a take

  module _ (i : ℕ) (hi : i < r) (bytes : List ℕ) (written : NotForged (take i bytes) now.state) where
    unread : reads version_2 bytes ≡ false → take_on (now.state.words i) bytes ≡ not_taken unreadable (now.state.words i)
    unread e =
        refusal_given (take_decided format_2 (now.state.words i) bytes) unreadable (λ z. omega arith)
        (right_from (now.state.words i) (reached_right (driver_cards now) i hi), e)

    pub take_cases : (P : TakeOutcome → Type 0)
        → let b = now.state.words i in
        let s = (message_at version_2 bytes).sender in
        let n = (message_at version_2 bytes).sequence in
        (reads version_2 bytes ≡ false → P (not_taken unreadable b))
        → (reads version_2 bytes ≡ true → i ≡ s → P (not_taken bad_card b))
        → (reads version_2 bytes ≡ true → (i ≡ s → ⊥) → n ≤ N_of r b s → P (not_taken repeated b))
        → (reads version_2 bytes ≡ true → (i ≡ s → ⊥) → N_of r b s + 1 < n → P (not_taken early b))
        → (reads version_2 bytes ≡ true → (i ≡ s → ⊥) → n ≡ N_of r b s + 1 → s < r → (now.chassis.replica i).N s < length (now.chassis.log s) → P (taken_outcome r s b (due_message now.chassis i s)))
        → P (take_on b bytes)
    take_cases P six seven eight nine takes =
        by_test (reads version_2 bytes)
        (λ e.
        let s = (message_at version_2 bytes).sender in
        let m = made_by bytes s (written e) in
        let number : (message_at version_2 bytes).sequence ≡ m.n + 1
        = ap (λ (y : List ℕ). (message_at version_2 y).sequence) m.is ∙ (fields_are (driver_cards now) i s hi m.below m.n m.made).2 in
        subst (λ (y : List ℕ). P (take_on (now.state.words i) y)) (sym m.is)
        (message_cases (driver_cards now) i s hi m.below m.n m.made P
        (λ own. seven e own)
        (λ d l. eight e d (omega arith))
        (λ d l. nine e d (omega arith))
        (λ d f waits. takes e d (omega arith) m.below waits)))
        (λ e. rw (unread e) (six e))
