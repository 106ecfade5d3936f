-- The invariant: the first n messages are tested, and the places of the receivers that have had no more are found (`Finding`). The measure: the messages left.
use Rattle.std.proofs.Common.{◌-◌}
use Rattle.lent.specs.PlacesLaws.{Finding}
use Rattle.lent.proofs.Replicas.find_places.Given as goal

abbrev pub invariant-loop-n : goal.invariant-loop-n
invariant-loop-n l = Finding l.self l.log l.sender l.initial.places l.n l.at l.places

abbrev pub decreases-loop-n : goal.decreases-loop-n
decreases-loop-n l = l.made - l.n
