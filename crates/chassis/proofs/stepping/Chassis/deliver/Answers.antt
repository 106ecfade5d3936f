-- Where nothing waits, nothing is done (`none_did`). Else the next message stands at the link's place (`hand_ready`) and is handed over (`delivered_did`).
use Rattle.std.proofs.Common.{sym}
use mathlib.Core.Logic.{∥∥₁_elim, ∥∥₁_map}
use Rattle.std.proofs.lemmas.Result.{err_from_is_err_and}
use Rattle.chassis.specs.StepCodeLaws.{none_did, hand_ready, hand_ready_prop, stepped_prop, delivered_did}
use Rattle.chassis.proofs.stepping.Chassis.deliver.Goals as goal

pub returns-then-not-does_one_wait-clause-done : goal.returns-then-not-does_one_wait-clause-done
returns-then-not-does_one_wait-clause-done c = none_did c.args.self.now.sizes _ _ _ c.requires (sym c.if-not-does_one_wait.ensures)

pub hand_over-handed-requires : goal.hand_over-handed-requires
hand_over-handed-requires c =
    ∥∥₁_elim c.args.self.now.ready hand_ready_prop
    (λ g. rw c.link-which.ensures.0 (hand_ready _ _ _ _ g _ _ c.requires (sym c.if-not-does_one_wait.ensures)))

pub invariant_of-self : goal.invariant_of-self
invariant_of-self c =
    record {
      ready =
          ∥∥₁_map c.args.self.now.ready
          (λ g.
          rw c.link-which.ensures.0
          (delivered_did _ _ _ _ g _ _ c.requires (sym c.if-not-does_one_wait.ensures)
          c.hand_over-handed.result _ (rw c.link-which.ensures.0 at c.hand_over-handed.ensures)).1);
    }

pub returns-clause-ready : goal.returns-clause-ready
returns-clause-ready c =
    λ g.
    rw c.link-which.ensures.0
    (delivered_did _ _ _ _ g _ _ c.requires (sym c.if-not-does_one_wait.ensures)
    c.hand_over-handed.result _ (rw c.link-which.ensures.0 at c.hand_over-handed.ensures)).1

pub returns-in_err-handed-clause-ready : goal.returns-in_err-handed-clause-ready
returns-in_err-handed-clause-ready c =
    λ g.
    rw c.link-which.ensures.0
    (delivered_did _ _ _ _ g _ _ c.requires (sym c.if-not-does_one_wait.ensures)
    c.hand_over-handed.result _ (rw c.link-which.ensures.0 at c.hand_over-handed.ensures)).1

pub returns-clause-done : goal.returns-clause-done
returns-clause-done c =
    ∥∥₁_elim c.args.self.now.ready (stepped_prop _ _)
    (λ g.
    let did = (delivered_did _ _ _ _ g _ _ c.requires (sym c.if-not-does_one_wait.ensures)
    c.hand_over-handed.result _ (rw c.link-which.ensures.0 at c.hand_over-handed.ensures)).0 in
    rw c.in_ok-handed.was at did)

pub returns-in_err-handed-clause-done : goal.returns-in_err-handed-clause-done
returns-in_err-handed-clause-done c =
    let p = err_from_is_err_and c.from_residual.result c.from_residual.ensures.1 in
    ∥∥₁_elim c.args.self.now.ready (stepped_prop _ _)
    (λ g.
    let did = (delivered_did _ _ _ _ g _ _ c.requires (sym c.if-not-does_one_wait.ensures)
    c.hand_over-handed.result _ (rw c.link-which.ensures.0 at c.hand_over-handed.ensures)).0 in
    rw (p.1, p.2) (rw c.in_err-handed.was at did))
