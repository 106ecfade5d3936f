-- DEFINITIONS. The ledger of a counter beside a run (SPECIFICATION 7): fed the list's steps and which of them were accepted, and nothing else.
use Rattle.std.specs.Prelude.{ℕ, List, map, Bool, eqb}
use Rattle.protocol.specs.Ledger as protocol
use Rattle.protocol.specs.Ledger.{Ledger, count, clear, deliver, empty_ledger, after_steps, holds, ledger_value, ledger_holders}
use Rattle.protocol.specs.Functions.{count_below}
use Rattle.replica_model.specs.declared.Reading.{Reading}
use Rattle.chassis_model.specs.Run.{Step, Action, Make, Deliver, Nothing, Count, Clear, ReadAndClear, action_of, numbers_in}

-- the action as the ledger knows it. "To the ledger a read and clear is a clear." A step of no kind is never accepted: nothing is handed over from a card to itself
unfoldable pub ledger_action : Action → protocol.Step
ledger_action (Make (Count w) i q) = count i q w
ledger_action (Make Clear i q) = clear i q
ledger_action (Make ReadAndClear i q) = clear i q
ledger_action (Deliver i s) = deliver i s
ledger_action Nothing = deliver 0 0

abbrev pub ledger_step : Step → protocol.Step
ledger_step s = ledger_action (action_of s)

-- "told which of them were accepted (number 0)"
abbrev pub was_accepted : ℕ → Bool
was_accepted number = eqb number 0

abbrev pub accepted_of : List ℕ → List Bool
accepted_of numbers = map was_accepted numbers

-- the ledger of counter q on a chassis of r cards, after the steps with these answer words
unfoldable pub ledger_of : ℕ → ℕ → List Step → List ℕ → Ledger
ledger_of r q steps answers = after_steps r q (map ledger_step steps) (accepted_of (numbers_in answers)) empty_ledger

-- an accepted read that gives the ledger's value and holding cards at card i
unfoldable pub ledger_reading : ℕ → ℕ → Ledger → Reading
ledger_reading r i l = record {
  number = 0;
  value = ledger_value i l;
  holders = ledger_holders r i l;
  holder_count = count_below r (λ j. holds i j l);
}
