-- DEFINITIONS. Deliveries in rounds on the chassis of tables: `deliver_pending` over its links, a run followed by such calls ("a run and its pumps"),
-- and the ledger of both.
use Rattle.std.specs.Prelude.{ℕ, ◌-◌, true, List, [], ◌∷◌, ◌++◌, map}
use Rattle.protocol.specs.Ledger.{Step, deliver, Ledger, empty_ledger, after_steps}
use Rattle.protocol.specs.Chassis.{Chassis, fresh_chassis, Offer, accepted, stepped, answers}
use Rattle.protocol.specs.Runs.{step_of, after_run, all_accepted}
use Rattle.protocol.specs.RoundRobin.{Link, Transport, Progress, deliver_pending, total_waiting}

-- a delivery as a step of a run: nothing but what the theory knows speaks against it
abbrev pub deliver_offer : ℕ → ℕ → Offer
deliver_offer i s = record { step = deliver i s; willing = true }

-- "One waits exactly when the sender's own N is above the receiver's N of that sender"
abbrev pub chassis_links : ℕ → Transport Chassis
chassis_links r = record {
  waiting = λ i s st. (st.replica s).N s - (st.replica i).N s;
  attempt = λ i s st. record { accepted = accepted r (deliver_offer i s) st; state = stepped r (deliver_offer i s) st };
}

-- deliveries as steps of a run
abbrev pub offers : List Link → List Offer
offers ls = map (λ l. deliver_offer l.receiver l.sender) ls

-- one call, at most b deliveries; and what waits before it or after it
abbrev pub pump : ℕ → ℕ → Chassis → Progress Chassis
pump r b st = deliver_pending (chassis_links r) r b st

abbrev pub all_waiting : ℕ → Chassis → ℕ
all_waiting r st = total_waiting (chassis_links r) r st

-- calls one after the other, each with its own b: the chassis, and all deliveries made
unfoldable pub after_pumps : ℕ → List ℕ → Chassis → Chassis
after_pumps r [] st = st
after_pumps r (b ∷ bs) st = after_pumps r bs (pump r b st).state

unfoldable pub pumped : ℕ → List ℕ → Chassis → List Link
pumped r [] st = []
pumped r (b ∷ bs) st = (pump r b st).made ++ pumped r bs (pump r b st).state

-- "The ledger counts each pumped delivery as a deliver step." They are fed behind the list's steps, each as accepted.
abbrev pub pump_steps : List Link → List Step
pump_steps ls = map (λ l. deliver l.receiver l.sender) ls

abbrev pub ledger_after_pumps : ℕ → ℕ → List Offer → List ℕ → Ledger
ledger_after_pumps r q os bs =
    let ls = pumped r bs (after_run r os) in
    after_steps r q (map step_of os ++ pump_steps ls) (answers r os fresh_chassis ++ all_accepted ls) empty_ledger
