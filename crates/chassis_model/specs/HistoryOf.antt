-- DEFINITIONS. The history of messages beside a list of steps (request 2026-14): fed the steps and which of them were accepted, and nothing else, as the ledger is.
use Rattle.std.specs.Prelude.{ℕ, List}
use Rattle.protocol.specs.Ledger.{Step}
use Rattle.protocol.specs.History.{History, empty_history, recorded}
use Rattle.chassis_model.specs.Ledger.{accepted_of}

-- after the steps that were answered with these numbers
unfoldable pub history_of : List Step → List ℕ → History
history_of steps numbers = recorded steps (accepted_of numbers) empty_history
