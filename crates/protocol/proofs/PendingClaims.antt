-- CLAIMS. Deliveries in rounds, "A delivery pump": what a user of `deliver_pending` relies on. Each has its sentence, its statement, and the law that
-- proves it. First over any transport whose deliveries are orderly (`RoundRobin.Orderly`), in any good state, then on the chassis of tables.
use Rattle.std.specs.Prelude.{ℕ, ◌+◌, ◌-◌, ◌*◌, ◌≤◌, ◌<◌, ◌≡◌, true, false, ◌⊎◌, List, ◌++◌, length, take}
use Rattle.protocol.specs.Ledger.{ledger_value, ledger_holders}
use Rattle.protocol.specs.Chassis.{Chassis, Offer, run, answers, read_value, read_holders}
use Rattle.protocol.specs.Runs.{after_run, all_accepted}
use Rattle.protocol.specs.RoundRobin.{IsLink, Transport, deliver_pending, total_waiting, times, replayed, AllDeliver, Orderly, PassedOver}
use Rattle.protocol.proofs.RoundRobinMade.{call_ok}
use Rattle.protocol.proofs.RoundRobinEnd as end
use Rattle.protocol.proofs.RoundRobinBound.{served_within}
use Rattle.protocol.specs.Pending.{chassis_links, offers, pump, all_waiting, after_pumps, pumped, ledger_after_pumps}
use Rattle.protocol.proofs.PendingLaws as laws
use Rattle.protocol.proofs.PendingAgreement.{session_agrees}
use Rattle.protocol.proofs.Theorem.{value_is, holders_are}

-- ---- any transport

-- "makes at most b deliveries"
pub at_most : {S : Type 0} (t : Transport S) (r b : ℕ) (st : S) → length (deliver_pending t r b st).made ≤ b
at_most = end.at_most

module _ {S : Type 0} (t : Transport S) (r b : ℕ) (Good : S → Type 0) (o : Orderly t r Good) (st : S) (g : Good st) where
  -- "It stops only at b, or when no link not passed over has one waiting."
  pub stops_only : (length (deliver_pending t r b st).made ≡ b)
      ⊎ ((i s : ℕ) → IsLink r i s → (deliver_pending t r b st).passed i s ≡ false → t.waiting i s (deliver_pending t r b st).state ≡ 0)
  stops_only = end.stops t r b Good o st g

  -- "It returns how many it made, which is how far the total waiting has fallen."
  pub returns_fall : total_waiting t r st ≡ length (deliver_pending t r b st).made + total_waiting t r (deliver_pending t r b st).state
  returns_fall = (call_ok t r Good o b st g).total_falls

  -- What the call leaves is what its deliveries leave, one after the other, each of a link that has a message waiting, which is accepted.
  pub is_its_deliveries : ((deliver_pending t r b st).state ≡ replayed t (deliver_pending t r b st).made st) × AllDeliver t r (deliver_pending t r b st).made st
  is_its_deliveries = let k = call_ok t r Good o b st g in (k.replays, k.delivers)

  -- "a link whose message take declines is passed over for the rest of the call and keeps it waiting"
  pub passes_over : (i s : ℕ) → IsLink r i s → (deliver_pending t r b st).passed i s ≡ true → PassedOver t st (deliver_pending t r b st) i s
  passes_over = (call_ok t r Good o b st g).skipped

  -- "The message in place q of its link is taken within the first q times r times (r - 1) deliveries, if b allows.": of those deliveries at least q
  -- are of that link, if it is not passed over.
  pub place_within : (i s q : ℕ) → IsLink r i s → (deliver_pending t r b st).passed i s ≡ false → q ≤ t.waiting i s st → q * (r * (r - 1)) ≤ b
      → q ≤ times i s (take (q * (r * (r - 1))) (deliver_pending t r b st).made)
  place_within i s q k e = served_within t r b Good o st i s k q g e

  -- Where no link is passed over and b is at least the total waiting, nothing waits any more.
  pub empties : ((i s : ℕ) → IsLink r i s → (deliver_pending t r b st).passed i s ≡ false) → total_waiting t r st ≤ b
      → (i s : ℕ) → IsLink r i s → t.waiting i s (deliver_pending t r b st).state ≡ 0
  empties = end.drained t r b Good o st g

-- ---- the chassis: after a run and any calls, each with its own b (`after_pumps r bs (after_run r os)`)

-- No link is passed over, from whatever state. So "It stops only at b, or when no link .. has one waiting", and "It returns how many it made, which is
-- how far the total waiting has fallen."
pub pump_passes_none : (r b : ℕ) (st : Chassis) (i s : ℕ) → (pump r b st).passed i s ≡ false
pump_passes_none = laws.pump_never_passes

pub pump_stops_only : (r b : ℕ) (st : Chassis)
    → (length (pump r b st).made ≡ b) ⊎ ((i s : ℕ) → IsLink r i s → (chassis_links r).waiting i s (pump r b st).state ≡ 0)
pump_stops_only = laws.pump_stops

pub pump_returns_fall : (r b : ℕ) (st : Chassis) → all_waiting r st ≡ length (pump r b st).made + all_waiting r (pump r b st).state
pump_returns_fall r b st = returns_fall (chassis_links r) r b (λ st. Unit {0}) (laws.chassis_orderly r) st tt

-- "The message in place q of its link is taken within the first q times r times (r - 1) deliveries, if b allows.": it is the sender's message
-- number N + q, and after those deliveries the receiver's N is at least that.
pub pump_place_within : (r b : ℕ) (st : Chassis) (q i s : ℕ) → IsLink r i s → (st.replica i).N s + q ≤ (st.replica s).N s → q * (r * (r - 1)) ≤ b
    → (st.replica i).N s + q ≤ ((run r (offers (take (q * (r * (r - 1))) (pump r b st).made)) st).replica i).N s
pump_place_within = laws.pump_reaches

-- "When b is at least the total waiting, all cards then agree on every value and holder set."
pub pump_agreement : (r q b i j : ℕ) (os : List Offer) (bs : List ℕ) → all_waiting r (after_pumps r bs (after_run r os)) ≤ b → i < r → j < r
    → let st = (pump r b (after_pumps r bs (after_run r os))).state in
    (read_value r q (st.replica i) ≡ read_value r q (st.replica j)) × (read_holders r q (st.replica i) ≡ read_holders r q (st.replica j))
pump_agreement = session_agrees

-- "The ledger counts each pumped delivery as a deliver step.": a run and its calls are the run of the list with the deliveries behind it as deliver
-- steps, each of them accepted. So every claim on runs is one on a run and its calls.
pub pumps_are_steps : (r : ℕ) (os : List Offer) (bs : List ℕ)
    → (after_pumps r bs (after_run r os) ≡ after_run r (os ++ offers (pumped r bs (after_run r os))))
    × (answers r (offers (pumped r bs (after_run r os))) (after_run r os) ≡ all_accepted (pumped r bs (after_run r os)))
pumps_are_steps r os bs = (laws.session_run r os bs, laws.pumps_accepted r bs (after_run r os))

-- DEMAND 3 after a run and its calls: reading any counter on any card gives the value and the holding cards of that counter's ledger.
pub pumps_ledger_theorem : (r q i : ℕ) (os : List Offer) (bs : List ℕ)
    → let st = after_pumps r bs (after_run r os) in
    (read_value r q (st.replica i) ≡ ledger_value i (ledger_after_pumps r q os bs))
    × (read_holders r q (st.replica i) ≡ ledger_holders r i (ledger_after_pumps r q os bs))
pumps_ledger_theorem r q i os bs =
    let k = laws.session_invariant r os bs q in
    (value_is r q _ (ledger_after_pumps r q os bs) k i, holders_are r q _ (ledger_after_pumps r q os bs) k i)
