-- The invariant: the logs of the senders passed are right, and the places of their links are found (`FoundBelow`).
use Rattle.lent.specs.PlacesLaws.{FoundBelow}
use Rattle.lent.proofs.Replicas.find_all_places.Given as goal

abbrev pub invariant-loop-sender : goal.invariant-loop-sender
invariant-loop-sender l = FoundBelow l.self l.logs l.sender l.places
