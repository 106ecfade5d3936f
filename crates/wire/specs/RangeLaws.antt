-- LAWS. Ranges as the code tests them: an entry a range at a time, and a header apart from its version.
use Rattle.std.specs.Prelude.{◌≡◌, ℕ, Bool, true, ◌&&◌, nat_le, nat_lt}
use Rattle.std.proofs.Common.{◌∙◌, arith, le-leb}
use Rattle.std.proofs.Math.Bool.{and_assoc}
use Rattle.std.proofs.lemmas.Bool.{lt-leb}
use Rattle.protocol.specs.Limits.{MAX, most_cards, most_counters}
use Rattle.protocol.proofs.Cases.{by_le}
use Rattle.wire.specs.Message.{is_version, from_one_to, header_in_range}

-- 1 ≤ p ≤ c makes c at least 1
from_one_twice : (p c most : ℕ) → from_one_to c p && from_one_to most c ≡ from_one_to c p && nat_le c most
from_one_twice p c most =
    by_le 1 p
    (λ some.
    by_le p c
    (λ l. rw (le-leb 1 c (omega arith)))
    (λ g. rw (lt-leb p c g, le-leb 1 p some)))
    (λ none. rw (lt-leb 1 p none))

-- the tests of an entry, a range at a time
pub entry_tests : (a b : Bool) (p c most : ℕ) → a && b && from_one_to c p && from_one_to most c ≡ a && b && nat_le 1 p && nat_le p c && nat_le c most
entry_tests a b p c most =
    and_assoc (a && b) (from_one_to c p) (from_one_to most c)
    ∙ rw (from_one_twice p c most, ← and_assoc (a && b) (from_one_to c p) (nat_le c most), ← and_assoc (a && b) (nat_le 1 p) (nat_le p c))

-- ---- a header but for its version

abbrev pub rest_in_range : (sender sequence counter : ℕ) → Bool
rest_in_range sender sequence counter = nat_lt sender most_cards && from_one_to MAX sequence && nat_lt counter most_counters

module _ (version sender sequence counter : ℕ) where
  pub header_parts : is_version version && rest_in_range sender sequence counter ≡ header_in_range version sender sequence counter
  unfolding header_in_range
  header_parts = simp and_assoc

  pub known_header : is_version version ≡ true → rest_in_range sender sequence counter ≡ header_in_range version sender sequence counter
  unfolding header_in_range
  known_header known = rw known
