-- Where a test fails one part of `WellFormed` does; past all three the entry is ordered, since 0 - p is 0 where p is.
use Rattle.std.proofs.Common.{◌≡◌, false, arith, sym, ◌∙◌, leb-true, leb-false}
use Rattle.protocol.specs.Limits.{MAX}
use Rattle.protocol.proofs.Cases.{by_le, not_yes}
use Rattle.protocol.specs.declared.Entry.{Entry}
use Rattle.protocol.specs.Rows.{WellFormed}
use Rattle.protocol.specs.Acceptance.{entry_well_formed}
use Rattle.protocol.proofs.AcceptanceLaws.{entry_facts}
use Rattle.layout.proofs.words.is_entry_ordered.Goals as goal
use Rattle.layout.proofs.words.is_entry_ordered.Goals.{then-e, else-e}

fails : (e : Entry) → (WellFormed MAX e → ⊥) → entry_well_formed e ≡ false
fails e not = not_yes _ (λ formed. not (entry_facts e formed))

pub returns-then-e-2 : goal.returns-then-e-2
returns-then-e-2 c =
    let past = c.wrapping_neg.ensures in (
      λ held. let last = leb-true c.args.e.c c.wrapping_neg.result held in record { cancelled = omega arith; carried = omega arith; empty = λ none. omega arith },
      λ failed.
          let last = leb-false c.args.e.c c.wrapping_neg.result failed in
          fails _ (λ f. by_le 1 c.args.e.p (λ some. omega arith) (λ none. let zero = f.absent_whole (omega arith) in omega arith)),
    )

pub returns-else-e-2 : goal.returns-else-e-2
returns-else-e-2 c = (
  λ passed. absurd (elim c.if-e.branch [
    | then-e w ↦ let kept = leb-true c.args.e.n c.args.e.p (sym w.t-3-is ∙ passed) in omega arith
    | else-e w ↦ let kept = leb-true c.args.e.p c.args.e.c (sym w.t-3-is ∙ passed) in omega arith
  ]),
  λ _. fails _ (λ f. omega arith),
)
