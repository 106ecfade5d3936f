-- DEFINITIONS. A run of cards of version 1, alone or beside cards of today, as a driver's history of today's calls (`Driver` of chassis_model): each accepted step is
-- the call of today that does the same, a count by one, and a delivery is the take of the message in version 2.
use Rattle.std.specs.Prelude.{ℕ, List, [], ◌∷◌, map, Bool, cond, replicate, eqb}
use Rattle.wire.specs.Message.{version_2, longest_message, message_bytes, messages_in}
use Rattle.replica_model.specs.Layout.{N_of}
use Rattle.chassis_model.specs.Driver as driver
use Rattle.chassis_model.specs.Driver.{Call, Cards}
use Rattle.version_1.specs.Run.{Step, count, clear, deliver, Chassis, message_behind, step_on, with_converted_logs}

-- an output that every message fits
abbrev pub roomy : List ℕ
roomy = replicate longest_message 0

module _ (is_old : ℕ → Bool) where
  abbrev pub call_of : ℕ → Step → Chassis → Call
  call_of r (count i q) st = driver.count i q 1 roomy
  call_of r (clear i q) st = driver.clear i q roomy
  call_of r (deliver i s) st = driver.take i (message_behind version_2 (with_converted_logs is_old st) s (N_of r (st.words i) s))

  -- the calls that the accepted steps of a list are
  unfoldable pub calls_of : (r L : ℕ) → List Step → Chassis → List Call
  calls_of r L [] st = []
  calls_of r L (s ∷ ss) st =
      let done = step_on is_old r L s st in
      let rest = calls_of r L ss done.chassis in
      cond (eqb done.number 0) (call_of r s st ∷ rest) rest

  -- the driver's cards that a chassis is: its words, and as written the messages of its logs, those of version 1 converted
  abbrev pub cards_of : Chassis → Cards
  cards_of st = record { words = st.words; written = λ i. map message_bytes (messages_in version_2 ((with_converted_logs is_old st).logs i)) }
