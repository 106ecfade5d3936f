-- The bytes from `at` on are what `drop` gives. Where they start with a message that reads, the test on its header is what `is_numbered` says (`numbered_some`).
use Rattle.std.proofs.Common.{ℕ, ◌-◌, ◌≡◌, ◌&&◌, ◌⊎◌, inl, inr, false, Option, nat_eq, List, length, take, drop, ◌∙◌, arith, eq-eqb, ne_eqb}
use Rattle.protocol.proofs.Cases.{and_yes, and_no_left, and_no_right}
use Rattle.wire.specs.Message.{version_2, front_length}
use Rattle.wire.specs.Told.{unless_0}
use Rattle.wire.specs.MessageParts.{header_at}
use Rattle.wire.specs.MessagePartsLaws.{header_read}
use Rattle.wire.specs.declared.reader.Header.{Header}
use Rattle.chassis_model.specs.Pending.{is_numbered}
use Rattle.chassis.proofs.LogWalkLaws.{length_there, rest_is}
use Rattle.lent.specs.PlacesLaws.{front_inside, numbered_some}
use Rattle.lent.proofs.places.message_length.Goals as goal

-- the test on the header is the definition's
header_test : (log : List ℕ) (at s q n : ℕ) → Option.Some n ≡ unless_0 (front_length version_2 (take (length log - at) (drop at log)))
    → (h : Header) → h ≡ header_at (take (length log - at) (drop at log)) 0
    → is_numbered s q (take (front_length version_2 (drop at log)) (drop at log)) ≡ nat_eq h.sender s && nat_eq h.sequence q
header_test log at s q n length_is h e =
    let there = length_there n (front_length version_2 (drop at log)) (rw (rest_is at log) at length_is) in
    let read = header_read _ _ (rw (rest_is at log) at e) in
    rw (read.sender, read.sequence) (numbered_some s q (drop at log) there.1)

pub header-header-requires : goal.header-header-requires
header-header-requires c =
    let there = length_there c.in_ok-length.length (front_length version_2 (drop c.args.at c.args.log.now)) (rw (rest_is c.args.at c.args.log.now) at c.in_ok-length.ensures.length) in
    rw (rest_is c.args.at c.args.log.now) (omega (arith, front_inside (drop c.args.at c.args.log.now) there.1))

pub returns-then-header-number-clause-length : goal.returns-then-header-number-clause-length
returns-then-header-number-clause-length c =
    let test = header_test c.args.log.now c.args.at c.args.sender c.args.number c.in_ok-length.length c.in_ok-length.ensures.length _ c.header-header.ensures.0 in
    rw (test ∙ and_yes _ _ (eq-eqb _ _ c.if-header-sender.true) (eq-eqb _ _ c.if-header-number.true))
    (rw (rest_is c.args.at c.args.log.now) at c.in_ok-length.ensures.length)

pub returns-else-header-sender-clause-length : goal.returns-else-header-sender-clause-length
returns-else-header-sender-clause-length c =
    let test = header_test c.args.log.now c.args.at c.args.sender c.args.number c.in_ok-length.length c.in_ok-length.ensures.length _ c.header-header.ensures.0 in
    rw (test ∙ other c.header-header.result.sender c.args.sender c.header-header.result.sequence c.args.number c.else-header-sender.either)
  where
    other : (a s b q : ℕ) → ((a ≡ s) × (b ≡ q → ⊥)) ⊎ (a ≡ s → ⊥) → nat_eq a s && nat_eq b q ≡ false
    other a s b q (inl apart) = and_no_right (nat_eq a s) _ (ne_eqb b q apart.1)
    other a s b q (inr apart) = and_no_left _ (nat_eq b q) (ne_eqb a s apart)
