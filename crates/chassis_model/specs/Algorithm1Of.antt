-- DEFINITIONS. Algorithm 1 beside a list of steps: fed the steps and which of them were accepted, and nothing else, as the ledger is.
use Rattle.std.specs.Prelude.{ℕ, List}
use Rattle.protocol.specs.Ledger.{Step}
use Rattle.protocol.specs.InARow.{System, initial, after_steps}
use Rattle.chassis_model.specs.Ledger.{accepted_of}

-- Algorithm 1's replicas on a chassis of r cards, after the steps that were answered with these numbers
unfoldable pub algorithm_1_of : ℕ → List Step → List ℕ → System
algorithm_1_of r steps numbers = after_steps r steps (accepted_of numbers) initial
