-- LAWS. Quiet, of a row: the mask of the holders is 0 exactly if no entry is present, and an entry of a well-formed row that is not present is all zeros.
use Rattle.std.specs.Prelude.{ℕ, ◌-◌, ◌<◌, ◌≡◌, ◌↔◌, Bool, true, false, ◌&&◌, List}
use Rattle.std.proofs.Math.Path.{sym, ap}
use Rattle.std.proofs.Common.{◌∙◌, arith}
use Rattle.std.proofs.lemmas.Bool.{false≢true}
use borrow.Author.Tests.{ltb-false, eqb-true, eq-eqb, ne_eqb}
use Rattle.protocol.specs.Limits.{MAX}
use Rattle.protocol.proofs.Cases.{by_place}
use Rattle.protocol.specs.declared.Entry.{Entry}
use Rattle.protocol.specs.Entry.{absent, present}
use Rattle.protocol.specs.Rows.{WellFormed}
use Rattle.protocol.specs.Chassis.{read_value, read_holders}
use Rattle.protocol.proofs.StoreLaws.{shown}
use Rattle.protocol.proofs.Tables.{sum_zero}
use Rattle.protocol.proofs.Totals.{bits_zero}
use Rattle.protocol.proofs.AcceptanceLaws.{count_none}
use Rattle.replica_model.specs.Layout.{cards, counters, entry_of}
use Rattle.replica_model.specs.Calls.{right, row_well_formed, no_reading, reading, is_quiet, read_on}
use Rattle.replica_model.specs.ClaimTerms.{RowOf, AllZeros}
use Rattle.replica_model.proofs.RowLaws.{right_facts, row_facts}
use Rattle.replica_model.proofs.CallsLaws.{read_decided, read_passes}

refused_not_quiet : (n : ℕ) → (n ≡ 0 → ⊥) → is_quiet (no_reading n) ≡ false
refused_not_quiet n some = ap (λ (t : Bool). t && true) (ne_eqb n 0 some)

zeros : (e : Entry) → e.p ≡ 0 → e.n ≡ 0 → e.c ≡ 0 → e ≡ absent
zeros e p n c =
    ap (λ (x : ℕ). record { p = x; n = e.n; c = e.c }) p
    ∙ ap (λ (x : ℕ). record { p = 0; n = x; c = e.c }) n
    ∙ ap (λ (x : ℕ). record { p = 0; n = 0; c = x }) c

not_present : (e : Entry) → WellFormed MAX e → present e ≡ false → e ≡ absent
not_present e k none =
    let p : e.p ≡ 0 = let l = ltb-false 0 e.p none in omega arith in
    zeros e p (omega arith) (k.absent_whole p)

module _ (b : List ℕ) (q : ℕ) where
  holders_none : ((reading b q).holders ≡ 0) ↔ ((j : ℕ) → j < cards b → present (entry_of (cards b) b q j) ≡ false)
  unfolding reading read_holders shown
  holders_none = bits_zero (cards b) (λ j. present (entry_of (cards b) b q j))

  row_zeros : RowOf b q → ((reading b q).holders ≡ 0) ↔ AllZeros b q
  row_zeros w = (
    λ none j l. not_present (entry_of (cards b) b q j) (w.tables.entry j l) (holders_none.0 none j l),
    λ all. holders_none.1 (λ j l. ap present (all j l)),
  )

  pub all_zeros : right b ≡ true → q < counters b → row_well_formed b q ≡ true → (is_quiet (read_on b q) ≡ true) ↔ AllZeros b q
  unfolding reading
  all_zeros h l w =
      let row = row_zeros (row_facts b q w) in
      rw (read_passes b q (right_facts b h) l (row_facts b q w)) (λ quiet. row.0 (eqb-true _ 0 quiet), λ all. eq-eqb _ 0 (row.1 all))

  -- no holders, no value
  none_read : (reading b q).holders ≡ 0 → reading b q ≡ record { number = 0; value = 0; holders = 0; holder_count = 0 }
  unfolding reading read_value read_holders shown
  none_read none =
      let no_value = sum_zero (cards b) (λ j. (entry_of (cards b) b q j).p - (entry_of (cards b) b q j).n)
      (λ j l. let p = ltb-false 0 (entry_of (cards b) b q j).p (holders_none.0 none j l) in omega arith) in
      let no_count = count_none (cards b) (λ j. present (entry_of (cards b) b q j)) (holders_none.0 none) in
      rw (no_value, none, no_count)

  pub reads_zeros : (is_quiet (read_on b q) ≡ true) ↔ (read_on b q ≡ record { number = 0; value = 0; holders = 0; holder_count = 0 })
  unfolding reading
  reads_zeros = (
    λ quiet.
        by_place (read_on b q).number 0
        (λ e. let is = (read_decided b q).accepted e in is ∙ none_read (eqb-true _ 0 (rw is at quiet)))
        (λ some. absurd (false≢true (sym (refused_not_quiet _ some) ∙ sym (ap is_quiet ((read_decided b q).refused some)) ∙ quiet))),
    λ zeros. ap is_quiet zeros,
  )
