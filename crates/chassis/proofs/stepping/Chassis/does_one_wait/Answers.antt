-- What each of the two has had stands in its replica.
use mathlib.Core.Logic.{∥∥₁_elim}
use Rattle.chassis.specs.StepCodeLaws.{words_fit, words_fit_prop}
use Rattle.chassis.proofs.stepping.Chassis.does_one_wait.Goals as goal

pub received-had-requires : goal.received-had-requires
received-had-requires c = (∥∥₁_elim c.args.self.now.ready words_fit_prop (λ g. words_fit _ _ _ _ g), c.requires.0, c.requires.1)

pub received-made-requires : goal.received-made-requires
received-made-requires c = (∥∥₁_elim c.args.self.now.ready words_fit_prop (λ g. words_fit _ _ _ _ g), c.requires.1, c.requires.1)

pub returns : goal.returns
returns c = let logs = c.args.self.now.logs.now in rw (c.received-had.ensures logs, c.received-made.ensures logs)
