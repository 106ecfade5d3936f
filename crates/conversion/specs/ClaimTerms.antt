-- DEFINITIONS. The terms in which the claims on converted logs are stated: messages that a log can have, what two messages share, how many are increments.
use Rattle.std.specs.Prelude.{ℕ, ◌+◌, ◌≡◌, List, [], ◌∷◌, true, cond, length, take, eqb}
use Rattle.protocol.specs.Limits.{most_cards}
use Rattle.wire.specs.declared.Message.{Message}
use Rattle.wire.specs.Message.{increment_kind, in_range, WriteOutcome}

-- each is of that version, in range, and has a place for every card's entry: what reads as such a message is `written_reads` of wire
abbrev pub AllOf : ℕ → List Message → Type 0
AllOf version [] = Unit {0}
AllOf version (m ∷ ms) = (m.version ≡ version) × (in_range m ≡ true) × (length m.entries ≡ most_cards) × AllOf version ms

-- "same kind, sender, sequence, counter, p, start, entries"
pub record Same (a b : Message) : Type 0 where
  pub kind : a.kind ≡ b.kind
  pub sender : a.sender ≡ b.sender
  pub sequence : a.sequence ≡ b.sequence
  pub counter : a.counter ≡ b.counter
  pub p : a.p ≡ b.p
  pub start : a.start ≡ b.start
  pub len : a.len ≡ b.len
  pub entries : a.entries ≡ b.entries

-- "the same messages, one by one"
abbrev pub AllSame : List Message → List Message → Type 0
AllSame [] [] = Unit {0}
AllSame [] (b ∷ ns) = ⊥
AllSame (a ∷ ms) [] = ⊥
AllSame (a ∷ ms) (b ∷ ns) = Same a b × AllSame ms ns

-- how many of them are increments
abbrev pub one_if_increment : Message → ℕ
one_if_increment m = cond (eqb m.kind increment_kind) 1 0

unfoldable pub increments : List Message → ℕ
increments [] = 0
increments (m ∷ ms) = one_if_increment m + increments ms

-- the bytes that a call has written
abbrev pub written_part : WriteOutcome → List ℕ
written_part done = take done.answer.length done.out
