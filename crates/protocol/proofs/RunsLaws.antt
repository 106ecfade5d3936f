-- LAWS. A run of one list of steps behind another, and the ledger that is told of it.
use Rattle.std.specs.Prelude.{ℕ, ◌≡◌, refl, List, [], ◌∷◌, ◌++◌, map}
use Rattle.std.proofs.Common.{ap}
use Rattle.protocol.specs.Ledger.{Ledger, after_step, after_steps}
use Rattle.protocol.specs.Chassis.{Chassis, Offer, accepted, stepped, run, answers}
use Rattle.protocol.specs.Runs.{step_of}

pub run_append : (r : ℕ) (os os' : List Offer) (st : Chassis) → run r (os ++ os') st ≡ run r os' (run r os st)
unfolding run
run_append r [] os' st = refl
run_append r (o ∷ os) os' st = run_append r os os' (stepped r o st)

pub answers_append : (r : ℕ) (os os' : List Offer) (st : Chassis) → answers r (os ++ os') st ≡ answers r os st ++ answers r os' (run r os st)
unfolding answers run
answers_append r [] os' st = refl
answers_append r (o ∷ os) os' st = ap (λ fs. accepted r o st ∷ fs) (answers_append r os os' (stepped r o st))

pub after_steps_append : (r q : ℕ) (os os' : List Offer) (st : Chassis) (l : Ledger)
    → after_steps r q (map step_of (os ++ os')) (answers r (os ++ os') st) l
    ≡ after_steps r q (map step_of os') (answers r os' (run r os st)) (after_steps r q (map step_of os) (answers r os st) l)
unfolding run answers after_steps
after_steps_append r q [] os' st l = refl
after_steps_append r q (o ∷ os) os' st l = after_steps_append r q os os' (stepped r o st) (after_step r q o.step (accepted r o st) l)
