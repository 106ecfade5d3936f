-- LAWS. What "right" and "row well-formed" say of a replica's words in plain numbers, and that those numbers are enough.
use Rattle.std.specs.Prelude.{ℕ, ◌≡◌, List, true, false}
use Rattle.std.proofs.Common.{arith}
pub use Rattle.protocol.proofs.AcceptanceLaws.{tests}
use Rattle.protocol.proofs.AcceptanceLaws.{tables_facts, tables_from}
use Rattle.protocol.specs.Acceptance.{tables_well_formed}
use Rattle.protocol.proofs.Cases.{and_yes, and_left, and_right, not_yes, agrees_true, agrees_same}
use Rattle.protocol.specs.Entry.{has_entry}
use Rattle.replica_model.specs.Layout.{head_of, cards, counters, own_card, active_of, C_of, N_of, entry_of, Fits}
use Rattle.replica_model.proofs.LayoutLaws.{same_cards, same_counters, same_own}
use Rattle.replica_model.specs.ClaimTerms.{Sizes, Right, MarkedIn, RowOf}
use Rattle.replica_model.specs.Calls.{sizes_in_range, replica_fits, right, row_well_formed}

pub sizes : (r k : ℕ) → sizes_in_range r k ≡ true → Sizes r k
unfolding sizes_in_range
sizes r k h = let f = simp tests at h in omega arith

pub right_facts : (b : List ℕ) → right b ≡ true → Right b
unfolding right replica_fits sizes_in_range
right_facts b h = let f = simp tests at h in omega arith

pub right_from : (b : List ℕ) → Right b → right b ≡ true
unfolding right replica_fits sizes_in_range
right_from b f = simp tests (omega (arith, f.low))

-- a right replica stays right where its head stays, it is as long and it has no bit for a counter that is not there
pub right_after : (b b' : List ℕ) → head_of b' ≡ head_of b → Fits (cards b) (counters b) b' → Right b → Right b'
right_after b b' same fits f =
    let c = same_cards b b' same in
    let n = same_counters b b' same in
    let o = same_own b b' same in
    record { sizes = rw (c, n) f.sizes; own = rw (c, o) f.own; fits = rw (c, n) fits.long; low = rw n fits.low }

pub row_facts : (b : List ℕ) (q : ℕ) → row_well_formed b q ≡ true → RowOf b q
unfolding row_well_formed
row_facts b q h = record {
  tables = tables_facts (cards b) (own_card b) (C_of b) (N_of (cards b) b) (entry_of (cards b) b q) (and_left _ _ h);
  marked = agrees_true (active_of b q) (has_entry (cards b) (entry_of (cards b) b q)) (and_right (tables_well_formed (cards b) (own_card b) (C_of b) (N_of (cards b) b) (entry_of (cards b) b q)) _ h);
}

pub row_from : (b : List ℕ) (q : ℕ) → RowOf b q → row_well_formed b q ≡ true
unfolding row_well_formed
row_from b q f =
    and_yes _ _ (tables_from (cards b) (own_card b) (C_of b) (N_of (cards b) b) (entry_of (cards b) b q) f.tables)
    (agrees_same (active_of b q) (has_entry (cards b) (entry_of (cards b) b q)) f.marked)

-- a row whose bit disagrees is not well-formed
pub row_unmarked : (b : List ℕ) (q : ℕ) → (MarkedIn b q → ⊥) → row_well_formed b q ≡ false
row_unmarked b q apart = not_yes (row_well_formed b q) (λ formed. apart (row_facts b q formed).marked)
