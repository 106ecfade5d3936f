-- LAWS. A message that the chassis sends, at any replica: another card's passes every check of take up to the sequence, and all of them where it is plausible
-- and the next of its sender; the card's own is refused with 7.
use Rattle.std.specs.Prelude.{ℕ, ◌+◌, ◌<◌, ◌≡◌, true, List, [], ◌∷◌, ◌++◌, leb, ltb}
use Rattle.std.proofs.Common.{sym, ap, subst, ◌∙◌, arith}
use Rattle.std.proofs.Math.Bool.{false}
use borrow.Author.Tests.{lt-ltb, le-leb, eq-eqb}
use Rattle.protocol.specs.Limits.{MAX, bad_card, bad_counter, bad_replica, bad_row, unreadable}
use Rattle.protocol.specs.Checks.{Check, or_else, checked, AllPass}
use Rattle.protocol.proofs.ChecksLaws.{all_append, all_accepts, refused_at}
use Rattle.protocol.specs.Acceptance.{cards_known, plausible}
use Rattle.protocol.proofs.AcceptanceLaws.{known_from, plausible_from}
use Rattle.protocol.specs.Chassis.{Message, counter_of}
use Rattle.protocol.proofs.Refusals.{Plausible}
use Rattle.wire.specs.Message.{version_2, message_bytes, message_at, reads}
use Rattle.wire.specs.RoundTrips.{read_as}
use Rattle.wire.specs.Claims.{written_reads}
use Rattle.replica_model.specs.Layout.{cards, counters, own_card, C_of, N_of}
use Rattle.replica_model.specs.Format.{Received, on_wire, received_of}
use Rattle.replica_model.specs.Calls.{right, row_well_formed, words_after, address_checks, order_checks, message_checks, not_taken, taken_with, take_with, take_on}
use Rattle.replica_model.specs.ClaimTerms.{Right, RowOf, Addressed}
use Rattle.replica_model.proofs.RowLaws.{right_from, row_from}
use Rattle.chassis_model.proofs.LogLaws.{Readable}
use Rattle.chassis_model.proofs.Numbered.{Sendable, sendable_counter, sendable_entries, content_on_wire, on_wire_version, on_wire_sender, on_wire_sequence}
use Rattle.chassis_model.proofs.InStep.{Heads}

-- card s's message m, number n
abbrev numbered : ℕ → ℕ → Message → Received
numbered s n m = record { sender = s; sequence = n; content = m }

-- take, by the message that the bytes are read as
take_as : (b bytes : List ℕ) (x : Received) → received_of (message_at version_2 bytes) ≡ x
    → take_on b bytes
    ≡ checked (λ n. not_taken n b) (or_else (right b) bad_replica ∷ or_else (reads version_2 bytes) unreadable ∷ message_checks b x) (taken_with b x)
unfolding take_with
take_as b bytes x e =
    ap (λ (y : Received). checked (λ n. not_taken n b) (or_else (right b) bad_replica ∷ or_else (reads version_2 bytes) unreadable ∷ message_checks b y) (taken_with b y)) e

module _ (r k s n : ℕ) (m : Message) (sends : Sendable r k m) (good : Readable (on_wire s n m)) where
  -- it reads, and as itself
  written_back : (reads version_2 (message_bytes (on_wire s n m)) ≡ true) × (message_at version_2 (message_bytes (on_wire s n m)) ≡ on_wire s n m)
  written_back = let x = on_wire s n m in rw (on_wire_version s n m) at (read_as (message_bytes x) x (written_reads x good.held good.fits))

  received_is : received_of (message_at version_2 (message_bytes (on_wire s n m))) ≡ numbered s n m
  received_is =
      ap received_of written_back.1
      ∙ (λ x. record { sender = on_wire_sender s n m x; sequence = on_wire_sequence s n m x; content = content_on_wire s n m x })

  module _ (i : ℕ) (b : List ℕ) (h : Heads r k i b) (f : Right b) (hs : s < r) (w : RowOf b (counter_of m)) where
    abbrev bytes : List ℕ
    bytes = message_bytes (on_wire s n m)

    -- 1, 6, 3 and 2
    abbrev front : List Check
    front =
        or_else (right b) bad_replica ∷ or_else (reads version_2 bytes) unreadable ∷ or_else (ltb (counter_of m) (counters b)) bad_counter
        ∷ or_else (row_well_formed b (counter_of m)) bad_row ∷ []

    front_passes : AllPass front
    front_passes =
        (right_from b f, (written_back.0, (rw h.counters_are (lt-ltb (counter_of m) k (sendable_counter r k m sends)), (row_from b (counter_of m) w, tt))))

    -- Before the sequence is looked at nothing speaks against a message of another card that the chassis sends.
    pub addressed : (i ≡ s → ⊥) → Addressed b bytes
    addressed apart =
        subst (λ (x : Received). AllPass (or_else (right b) bad_replica ∷ or_else (reads version_2 bytes) unreadable ∷ address_checks b x)) (sym received_is)
        (all_append front (or_else (cards_known (cards b) (own_card b) s m) bad_card ∷ []) front_passes (known, tt))
      where
        known : cards_known (cards b) (own_card b) s m ≡ true
        known = rw (h.cards_are, h.own_is) (known_from r i s m hs (λ e. apart (sym e)) (sendable_entries r k m sends))

    -- A card's own message, handed back to it, is refused with 7.
    pub own_refused : i ≡ s → take_on b bytes ≡ not_taken bad_card b
    unfolding cards_known
    own_refused own =
        take_as b bytes (numbered s n m) received_is
        ∙ refused_at (λ number. not_taken number b) (taken_with b (numbered s n m)) front (or_else (cards_known (cards b) (own_card b) s m) bad_card)
        (order_checks b (numbered s n m)) front_passes unknown
      where
        unknown : cards_known (cards b) (own_card b) s m ≡ false
        unknown = rw (h.cards_are, h.own_is, lt-ltb s r hs, eq-eqb s i (sym own))

-- Card s's next message m is taken by card i.
pub take_accepted : (r k i s : ℕ) (b : List ℕ) (m : Message) → Heads r k i b → Sendable r k m
    → Plausible MAX i s (C_of b) m → Readable (on_wire s (N_of r b s + 1) m) → Addressed b (message_bytes (on_wire s (N_of r b s + 1) m))
    → take_on b (message_bytes (on_wire s (N_of r b s + 1) m))
    ≡ record { answer = record { number = 0; sequence = N_of r b s + 1 }; words = words_after s m b }
take_accepted r k i s b m h sends fits good a =
    let n = N_of r b s + 1 in
    let x : Received = numbered s n m in
    let bytes = message_bytes (on_wire s n m) in
    let is = received_is r k s n m sends good in
    let first : List Check = or_else (right b) bad_replica ∷ or_else (reads version_2 bytes) unreadable ∷ address_checks b x in
    let above : ltb (N_of (cards b) b s) n ≡ true = rw h.cards_are (lt-ltb (N_of r b s) n (omega arith)) in
    let soon : leb n (N_of (cards b) b s + 1) ≡ true = rw h.cards_are (le-leb n n (omega arith)) in
    let likely : plausible (C_of b) (own_card b) s m ≡ true = rw h.own_is (plausible_from (C_of b) i s m fits) in
    take_as b bytes x is
    ∙ all_accepts (λ number. not_taken number b) (taken_with b x) (first ++ order_checks b x)
    (all_append first (order_checks b x) (subst (λ (y : Received). AllPass (or_else (right b) bad_replica ∷ or_else (reads version_2 bytes) unreadable ∷ address_checks b y)) is a) (above, (soon, (likely, tt))))
