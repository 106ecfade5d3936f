-- LAWS. A quiet counter on words of a run of the theory (`TheoryRun`): a read there is the ledger's, and `protocol`'s `QuietLaws` says when the ledger has no holding cards.
use Rattle.std.specs.Prelude.{ℕ, ◌<◌, ◌≡◌, ◌↔◌, ◌⊎◌, true, List}
use Rattle.std.proofs.Common.{ap, sym, ◌∙◌}
use Rattle.std.proofs.Math.Logic.{inl, inr}
use mathlib.Core.Logic.Iff
use borrow.Author.Tests.{eqb-true, eq-eqb}
use Rattle.protocol.specs.Ledger.{Step, Ledger, ledger_holders}
use Rattle.protocol.specs.Runs.{after_run}
use Rattle.protocol.specs.Quiet.{EqualSets, Settled, CancelledAhead}
use Rattle.protocol.proofs.QuietLaws.{no_holders, equal_settled, zero_or_ahead}
use Rattle.replica_model.specs.declared.Reading.{Reading}
use Rattle.replica_model.specs.Calls.{is_quiet, read_on}
use Rattle.chassis_model.specs.Ledger.{ledger_reading}
use Rattle.chassis_model.proofs.Offers.{offers_of, ledgers_told, TheoryRun}
use Rattle.chassis_model.proofs.TheoryReads.{reading_is}

module _ {r k : ℕ} {steps : List Step} {numbers : List ℕ} {replicas : ℕ → List ℕ} (t : TheoryRun r k steps numbers replicas) (i q : ℕ) (hi : i < r) (hq : q < k) where
  abbrev l : Ledger
  l = ledgers_told r steps numbers q

  quiet_holders : (is_quiet (read_on (replicas i) q) ≡ true) ↔ (ledger_holders r i l ≡ 0)
  unfolding ledger_reading
  quiet_holders = rw (reading_is t i q hi hq) (eqb-true (ledger_holders r i l) 0, eq-eqb (ledger_holders r i l) 0)

  pub quiet_equal : (is_quiet (read_on (replicas i) q) ≡ true) ↔ EqualSets i l
  quiet_equal = Iff.trans quiet_holders (no_holders r q (after_run r (offers_of steps numbers)) l (t.cards.invariants q) i)

  pub quiet_settled : (is_quiet (read_on (replicas i) q) ≡ true) ↔ Settled i l
  quiet_settled = Iff.trans quiet_equal (equal_settled r q (after_run r (offers_of steps numbers)) l (t.cards.invariants q) i)

  pub zero_quiet : (read_on (replicas i) q).value ≡ 0 → (is_quiet (read_on (replicas i) q) ≡ true) ⊎ CancelledAhead i l
  unfolding ledger_reading
  zero_quiet none =
      by_holders (zero_or_ahead r q (after_run r (offers_of steps numbers)) l (t.cards.invariants q) i
      (sym (ap (λ (a : Reading). a.value) (reading_is t i q hi hq)) ∙ none))
    where
      by_holders : (ledger_holders r i l ≡ 0) ⊎ CancelledAhead i l → (is_quiet (read_on (replicas i) q) ≡ true) ⊎ CancelledAhead i l
      by_holders (inl e) = inl (quiet_holders.1 e)
      by_holders (inr a) = inr a
