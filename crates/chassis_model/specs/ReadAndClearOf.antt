-- DEFINITIONS. What the total of a counter speaks of that one card clears, always by read and clear: of a run's steps and of a driver's calls, each as the action
-- that it asks for, with the number and the value that it answered.
use Rattle.std.specs.Prelude.{ℕ, ◌+◌, ◌≡◌, Bool, false, cond, ◌&&◌, List, [], ◌∷◌, eqb}
use Rattle.protocol.specs.OneClears.{is_clear}
use Rattle.wire.specs.Message.{version_2, message_at}
use Rattle.replica_model.specs.Calls.{read_on}
use Rattle.chassis_model.specs.Run.{Count, Clear, ReadAndClear, Action, Make, Deliver, Nothing}
use Rattle.chassis_model.specs.Ledger.{was_accepted}
use Rattle.chassis_model.specs.Driver.{Call, make, take, Cards, called, number_of, call_step}

-- what a driver's call asks for: a take is a delivery from the sender that the bytes name
abbrev pub call_action : Call → Action
call_action (make m i q out) = Make m i q
call_action (take i bytes) = Deliver i (message_at version_2 bytes).sender

-- ---- "each accepted step that clears q is a read and clear, by card h"

abbrev pub ClearsByReading : ℕ → ℕ → Action → Type 0
ClearsByReading h q (Make (Count w) i c) = Unit {0}
ClearsByReading h q (Make Clear i c) = c ≡ q → ⊥
ClearsByReading h q (Make ReadAndClear i c) = c ≡ q → i ≡ h
ClearsByReading h q (Deliver i s) = Unit {0}
ClearsByReading h q Nothing = Unit {0}

-- of the actions with these numbers. Of a declined one nothing is asked
abbrev pub OnlyReadAndClears : ℕ → ℕ → List Action → List ℕ → Type 0
OnlyReadAndClears h q [] ns = Unit {0}
OnlyReadAndClears h q (a ∷ rest) [] = Unit {0}
OnlyReadAndClears h q (a ∷ rest) (n ∷ ns) = (n ≡ 0 → ClearsByReading h q a) × OnlyReadAndClears h q rest ns

-- ---- "the sum of the values that card h's accepted read and clears of q have answered"

unfoldable pub is_read_and_clear : ℕ → ℕ → Action → Bool
is_read_and_clear h q (Make (Count w) i c) = false
is_read_and_clear h q (Make Clear i c) = false
is_read_and_clear h q (Make ReadAndClear i c) = eqb i h && eqb c q
is_read_and_clear h q (Deliver i s) = false
is_read_and_clear h q Nothing = false

unfoldable pub collected : ℕ → ℕ → List Action → List ℕ → List ℕ → ℕ
collected h q [] ns vs = 0
collected h q (a ∷ rest) [] vs = 0
collected h q (a ∷ rest) (n ∷ ns) [] = 0
collected h q (a ∷ rest) (n ∷ ns) (v ∷ vs) = cond (was_accepted n && is_read_and_clear h q a) v 0 + collected h q rest ns vs

-- ---- of a driver that reads: what a read of q on card h gives right before each of its accepted calls that clear q there, whichever call it is

unfoldable pub reads_before : ℕ → ℕ → List Call → Cards → ℕ
reads_before h q [] st = 0
reads_before h q (c ∷ cs) st =
    cond (was_accepted (number_of c st) && is_clear h q (call_step c)) (read_on (st.words h) q).value 0 + reads_before h q cs (called c st)
