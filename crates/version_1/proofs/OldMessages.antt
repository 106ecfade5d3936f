-- LAWS. A message that counts by one, in version 1: it is in range, its bytes read as itself, and a card whose row is well-formed and to which it is plausible takes it
-- by the rules of version 1.
use Rattle.std.specs.Prelude.{ℕ, ◌+◌, ◌≤◌, ◌<◌, ◌≡◌, refl, List, [], ◌∷◌, true, leb, ltb}
use Rattle.std.proofs.Common.{sym, ap, ◌∙◌, arith, lt-ltb, le-leb}
use Rattle.protocol.specs.Limits.{MAX, bad_replica, unreadable, bad_counter, bad_row, bad_card, repeated, early, implausible}
use Rattle.protocol.specs.Checks.{Check, or_else, checked, AllPass}
use Rattle.protocol.proofs.ChecksLaws.{all_accepts}
use Rattle.protocol.specs.Rows.{Plausible}
use Rattle.protocol.specs.Chassis.{Message, increment, clearing, counter_of}
use Rattle.protocol.specs.Acceptance.{cards_known}
use Rattle.protocol.proofs.AcceptanceLaws.{known_from}
use Rattle.wire.specs.Message as form
use Rattle.wire.specs.Message.{version_1, message_bytes, message_at, in_range, reads}
use Rattle.wire.specs.Claims.{written_reads, version_of_read}
use Rattle.conversion.proofs.ConversionLaws.{in_version_fits, in_version_version, in_version_entries}
use Rattle.replica_model.specs.Layout.{cards, counters, own_card, C_of, N_of}
use Rattle.replica_model.specs.Format.{Received, on_wire}
use Rattle.replica_model.specs.Calls.{right, not_taken}
use Rattle.replica_model.specs.ClaimTerms.{Right, RowOf}
use Rattle.replica_model.proofs.RowLaws.{right_from}
use Rattle.chassis_model.proofs.LogLaws.{Readable}
use Rattle.chassis_model.proofs.Numbered.{Sendable, sendable_counter, sendable_entries}
use Rattle.chassis_model.proofs.InStep.{Heads}
use Rattle.chassis_model.proofs.Takes.{taken_outcome}
use Rattle.version_1.specs.Rules as rules
use Rattle.version_1.proofs.Singles.{Single}
use Rattle.version_1.proofs.OldRules.{on_wire_is, content_on_wire, on_wire_sender, on_wire_sequence, words_after_is, row_from_today, plausible_from_today}

-- ---- the bytes of one

-- in version 2 its amount is one, or it has none
pub amount_few : (s n : ℕ) (m : Message) → Single m → (on_wire s n m).amount ≤ 1
unfolding form.increment_message form.clear_message
amount_few s n (increment q w p start) one = omega arith
amount_few s n (clearing q es) one = omega arith

old_version : (s n : ℕ) (m : Message) → (rules.on_wire s n m).version ≡ version_1
old_version s n m = rw (on_wire_is s n m) (in_version_version version_1 (on_wire s n m))

old_entries : (s n : ℕ) (m : Message) → (rules.on_wire s n m).entries ≡ (on_wire s n m).entries
old_entries s n m = rw (on_wire_is s n m) (in_version_entries version_1 (on_wire s n m))

-- card s's message m, number n
abbrev numbered : ℕ → ℕ → Message → Received
numbered s n m = record { sender = s; sequence = n; content = m }

module _ (s n : ℕ) (m : Message) (one : Single m) (good : Readable (on_wire s n m)) where
  old_in_range : in_range (rules.on_wire s n m) ≡ true
  old_in_range = rw (on_wire_is s n m) (in_version_fits version_1 (on_wire s n m) refl good.fits)

  -- it reads, and as itself
  written_back : (reads version_1 (message_bytes (rules.on_wire s n m)) ≡ true) × (message_at version_1 (message_bytes (rules.on_wire s n m)) ≡ rules.on_wire s n m)
  written_back =
      let x = rules.on_wire s n m in
      rw (old_version s n m) at (version_of_read (message_bytes x) x (written_reads x (rw (old_entries s n m) good.held) old_in_range))

  received_is : rules.received_of (message_at version_1 (message_bytes (rules.on_wire s n m))) ≡ numbered s n m
  received_is =
      ap rules.received_of written_back.1
      ∙ (λ x. record { sender = on_wire_sender s n m x; sequence = on_wire_sequence s n m x; content = content_on_wire s n m one x })

-- ---- its take

-- take, by the message that the bytes are read as
abbrev checks_of : List ℕ → List ℕ → Received → List Check
checks_of b bytes m =
    or_else (right b) bad_replica ∷ or_else (reads version_1 bytes) unreadable
    ∷ or_else (ltb (counter_of m.content) (counters b)) bad_counter ∷ or_else (rules.row_well_formed b (counter_of m.content)) bad_row
    ∷ or_else (cards_known (cards b) (own_card b) m.sender m.content) bad_card
    ∷ or_else (ltb (N_of (cards b) b m.sender) m.sequence) repeated ∷ or_else (leb m.sequence (N_of (cards b) b m.sender + 1)) early
    ∷ or_else (rules.plausible (C_of b) (own_card b) m.sender m.content) implausible ∷ []

take_as : (b bytes : List ℕ) (x : Received) → rules.received_of (message_at version_1 bytes) ≡ x
    → rules.take_on b bytes ≡ checked (λ n. not_taken n b) (checks_of b bytes x) (rules.taken b x)
unfolding rules.take_on
take_as b bytes x e = ap (λ (y : Received). checked (λ n. not_taken n b) (checks_of b bytes y) (rules.taken b y)) e

module _ (r k i s : ℕ) (b : List ℕ) (m : Message) (h : Heads r k i b) (f : Right b) (hs : s < r) (apart : i ≡ s → ⊥) where
  pub old_take_accepted : Sendable r k m → Single m → Readable (on_wire s (N_of r b s + 1) m)
      → RowOf b (counter_of m) → ((j : ℕ) → j < cards b → C_of b j ≤ N_of (cards b) b j) → Plausible MAX i s (C_of b) m
      → rules.take_on b (message_bytes (rules.on_wire s (N_of r b s + 1) m)) ≡ taken_outcome r s b m
  old_take_accepted sends one good row few fits =
      let n = N_of r b s + 1 in
      let bytes = message_bytes (rules.on_wire s n m) in
      let there : ltb (counter_of m) (counters b) ≡ true = rw h.counters_are (lt-ltb (counter_of m) k (sendable_counter r k m sends)) in
      let known : cards_known (cards b) (own_card b) s m ≡ true = rw (h.cards_are, h.own_is) (known_from r i s m hs (λ e. apart (sym e)) (sendable_entries r k m sends)) in
      let above : ltb (N_of (cards b) b s) n ≡ true = rw h.cards_are (lt-ltb (N_of r b s) n (omega arith)) in
      let soon : leb n (N_of (cards b) b s + 1) ≡ true = rw h.cards_are (le-leb n n (omega arith)) in
      let likely : rules.plausible (C_of b) (own_card b) s m ≡ true = rw h.own_is (plausible_from_today (C_of b) i s m one fits) in
      let passes : AllPass (checks_of b bytes (numbered s n m))
      = (right_from b f, ((written_back s n m one good).0, (there, (row_from_today b (counter_of m) row few, (known, (above, (soon, (likely, tt)))))))) in
      take_as b bytes (numbered s n m) (received_is s n m one good)
      ∙ all_accepts (λ number. not_taken number b) (rules.taken b (numbered s n m)) (checks_of b bytes (numbered s n m)) passes
      ∙ ap (λ (ws : List ℕ). record { answer = record { number = 0; sequence = n }; words = ws }) (words_after_is s m b one)
