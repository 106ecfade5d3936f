-- LAWS. A run, its calls of `deliver_pending`, and one more call that b allows to deliver all: the cards agree.
use Rattle.std.specs.Prelude.{ℕ, ◌≤◌, ◌<◌, ◌≡◌, refl, List, [], ◌∷◌, ◌++◌}
use Rattle.std.proofs.Common.{sym, ◌∙◌}
use Rattle.protocol.specs.Chassis.{Chassis, Offer, read_value, read_holders}
use Rattle.protocol.specs.Runs.{after_run}
use Rattle.protocol.specs.Pending.{pump, all_waiting, after_pumps, ledger_after_pumps}
use Rattle.protocol.proofs.PendingLaws.{pump_empties, session_invariant}
use Rattle.protocol.proofs.Arrivals.{after_steps_arrivals}
use Rattle.protocol.proofs.Agreement.{same_received_agree, received_all}

one_more_call : (r b : ℕ) (bs : List ℕ) (st : Chassis) → after_pumps r (bs ++ b ∷ []) st ≡ (pump r b (after_pumps r bs st)).state
unfolding after_pumps
one_more_call r b [] st = refl
one_more_call r b (c ∷ bs) st = one_more_call r b bs (pump r c st).state

pub session_agrees : (r q b i j : ℕ) (os : List Offer) (bs : List ℕ) → all_waiting r (after_pumps r bs (after_run r os)) ≤ b → i < r → j < r
    → let st = (pump r b (after_pumps r bs (after_run r os))).state in
    (read_value r q (st.replica i) ≡ read_value r q (st.replica j)) × (read_holders r q (st.replica i) ≡ read_holders r q (st.replica j))
session_agrees r q b i j os bs enough m n =
    let all = pump_empties r b (after_pumps r bs (after_run r os)) enough in
    let k = rw (one_more_call r b bs (after_run r os)) at (session_invariant r os (bs ++ b ∷ []) q) in
    let l = ledger_after_pumps r q os (bs ++ b ∷ []) in
    let same = same_received_agree r q _ l k (after_steps_arrivals r q _ _) i j
    (λ s near. received_all r q _ l k i m (all i) s near ∙ sym (received_all r q _ l k j n (all j) s near)) in
    (same.value, same.holders)
