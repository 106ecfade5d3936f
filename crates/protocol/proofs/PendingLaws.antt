-- LAWS. `deliver_pending` on the chassis of tables. Its transport is orderly and accepts whatever waits, so a call is the run of its deliveries as
-- deliver steps, each accepted, and a run followed by calls is a run (`pumps_run`): whatever is proved of runs holds of it.
use Rattle.std.specs.Prelude.{ℕ, suc, ◌+◌, ◌-◌, ◌*◌, ◌≤◌, ◌<◌, ◌≡◌, true, false, ◌⊎◌, length, take}
use Rattle.std.proofs.Math.Path.{refl, sym, ap, ap₂}
use Rattle.std.proofs.Common.{◌∙◌, inl, inr}
use mathlib.Core.List.{List, [], ◌∷◌, ◌++◌, map, map-append, map-map}
use native.Mathlib.Omega.{arith}
use Rattle.protocol.proofs.Cases.{by_place}
use Rattle.protocol.proofs.Tables.{put, put_same, put_other}
use Rattle.protocol.specs.Ledger.{empty_ledger, after_steps}
use Rattle.protocol.specs.Chassis.{Chassis, fresh_chassis, delivered, done, Offer, accepted, stepped, run, answers}
use Rattle.protocol.specs.Runs.{step_of, after_run, ledger_after, all_accepted}
use Rattle.protocol.proofs.InvariantSteps.{Invariant, taken_N}
use Rattle.protocol.proofs.Theorem.{run_invariant}
use Rattle.protocol.specs.RoundRobin.{Link, IsLink, times, replayed, AllDeliver, Orderly}
use Rattle.protocol.proofs.RoundRobinLaws.{by_link}
use Rattle.protocol.proofs.RoundRobinMade.{times_none, times_this, times_that, deliver_first, CallOk, call_ok}
use Rattle.protocol.proofs.RoundRobinEnd.{stops, drained, never_passed}
use Rattle.protocol.proofs.RoundRobinBound.{served_within}
use Rattle.protocol.specs.Pending.{deliver_offer, chassis_links, offers, pump, all_waiting, after_pumps, pumped, ledger_after_pumps}
use Rattle.protocol.proofs.RunsLaws.{run_append, answers_append}
use Rattle.protocol.proofs.Enabled.{deliverable}

-- ---- one delivery

module _ (i s : ℕ) (st : Chassis) where
  delivered_here : (j : ℕ) → ((delivered i s st).replica i).N j ≡ put s (suc ((st.replica i).N s)) (st.replica i).N j
  unfolding delivered
  delivered_here j = simp (put_same, taken_N)

  delivered_there : (j : ℕ) → (j ≡ i → ⊥) → (delivered i s st).replica j ≡ st.replica j
  unfolding delivered
  delivered_there j d = rw put_other

  -- N of every card for every sender, after it
  pub N_link : (j u : ℕ) → j ≡ i → u ≡ s → ((delivered i s st).replica j).N u ≡ suc ((st.replica j).N u)
  N_link j u e d = rw (e, d) (delivered_here s ∙ put_same s (suc ((st.replica i).N s)) (st.replica i).N)

  pub N_elsewhere : (j u : ℕ) → (j ≡ i → u ≡ s → ⊥) → ((delivered i s st).replica j).N u ≡ (st.replica j).N u
  N_elsewhere j u d =
      by_place j i
      (λ e. rw e (delivered_here u ∙ put_other s (suc ((st.replica i).N s)) (st.replica i).N u (d e)))
      (λ c. rw (delivered_there j c))

module _ (r : ℕ) where
  accepted_is : (i s : ℕ) (st : Chassis) → accepted r (deliver_offer i s) st ≡ true → stepped r (deliver_offer i s) st ≡ delivered i s st
  unfolding stepped done
  accepted_is i s st e = rw e

  waits_accepted : (i s : ℕ) (st : Chassis) → IsLink r i s → 0 < (st.replica s).N s - (st.replica i).N s → accepted r (deliver_offer i s) st ≡ true
  waits_accepted i s st k w = deliverable r i s st (record { receiver = k.0; sender = k.1; apart = k.2; waits = omega arith })

  pub chassis_orderly : Orderly (chassis_links r) r (λ st. Unit {0})
  unfolding stepped
  chassis_orderly = record {
    keeps = λ i s st k g w e. tt;
    takes_one = λ i s st k g w e.
        let a = N_link i s st i s refl refl in let c = N_elsewhere i s st s s (λ x y. k.2 (sym x)) in
        rw (accepted_is i s st e) (omega arith);
    others_stay = λ i s st k g w e j u m d.
        let a = N_elsewhere i s st j u d in let c = N_elsewhere i s st u u (λ x y. k.2 (sym x ∙ y)) in
        rw (accepted_is i s st e, a, c);
    declined_stays = λ i s st k g w e. rw e;
  }

  chassis_accepts : (i s : ℕ) (st : Chassis) → IsLink r i s → Unit {0} → 0 < (chassis_links r).waiting i s st → ((chassis_links r).attempt i s st).accepted ≡ true
  chassis_accepts i s st k g w = waits_accepted i s st k w

  -- how far a receiver has come on a link, after deliveries that were all accepted
  replayed_N : (ls : List Link) (st : Chassis) (i s : ℕ) → AllDeliver (chassis_links r) r ls st
      → ((replayed (chassis_links r) ls st).replica i).N s ≡ (st.replica i).N s + times i s ls
  unfolding replayed AllDeliver
  replayed_N [] st i s a = let z = times_none i s in omega arith
  replayed_N (l ∷ ls) st i s a =
      replayed_N ls (stepped r (deliver_offer l.receiver l.sender) st) i s a.1
      ∙ rw (accepted_is l.receiver l.sender st a.0.2)
      (by_link i s l.receiver l.sender
      (λ e d. let n = times_this i s l.receiver l.sender ls e d in let m = N_link l.receiver l.sender st i s e d in omega arith)
      (λ d. let n = times_that i s l.receiver l.sender ls d in let m = N_elsewhere l.receiver l.sender st i s d in omega arith))

  -- ---- deliveries as a run

  replayed_run : (ls : List Link) (st : Chassis) → replayed (chassis_links r) ls st ≡ run r (offers ls) st
  unfolding replayed run
  replayed_run [] st = refl
  replayed_run (l ∷ ls) st = replayed_run ls (stepped r (deliver_offer l.receiver l.sender) st)

  accepted_answers : (ls : List Link) (st : Chassis) → AllDeliver (chassis_links r) r ls st → answers r (offers ls) st ≡ all_accepted ls
  unfolding AllDeliver answers
  accepted_answers [] st a = refl
  accepted_answers (l ∷ ls) st a = ap₂ ◌∷◌ a.0.2 (accepted_answers ls (stepped r (deliver_offer l.receiver l.sender) st) a.1)

  module _ (b : ℕ) (st : Chassis) where
    call : CallOk (chassis_links r) r (λ st. Unit {0}) st (pump r b st)
    call = call_ok (chassis_links r) r (λ st. Unit {0}) chassis_orderly b st tt

    pump_run : (pump r b st).state ≡ run r (offers (pump r b st).made) st
    pump_run = call.replays ∙ replayed_run (pump r b st).made st

    pump_accepted : answers r (offers (pump r b st).made) st ≡ all_accepted (pump r b st).made
    pump_accepted = accepted_answers (pump r b st).made st call.delivers

    pub pump_never_passes : (i s : ℕ) → (pump r b st).passed i s ≡ false
    pump_never_passes = never_passed (chassis_links r) r b (λ st. Unit {0}) chassis_orderly st tt chassis_accepts

    pub pump_stops : (length (pump r b st).made ≡ b) ⊎ ((i s : ℕ) → IsLink r i s → (chassis_links r).waiting i s (pump r b st).state ≡ 0)
    pump_stops = none_passed (stops (chassis_links r) r b (λ st. Unit {0}) chassis_orderly st tt)
      where
        none_passed : (length (pump r b st).made ≡ b)
            ⊎ ((i s : ℕ) → IsLink r i s → (pump r b st).passed i s ≡ false → (chassis_links r).waiting i s (pump r b st).state ≡ 0)
            → (length (pump r b st).made ≡ b) ⊎ ((i s : ℕ) → IsLink r i s → (chassis_links r).waiting i s (pump r b st).state ≡ 0)
        none_passed (inl e) = inl e
        none_passed (inr h) = inr (λ i s k. h i s k (pump_never_passes i s))

    -- place q of a link, by the receiver's N
    pub pump_reaches : (q i s : ℕ) → IsLink r i s → (st.replica i).N s + q ≤ (st.replica s).N s → q * (r * (r - 1)) ≤ b
        → (st.replica i).N s + q ≤ ((run r (offers (take (q * (r * (r - 1))) (pump r b st).made)) st).replica i).N s
    pump_reaches q i s k l fits =
        let ls = take (q * (r * (r - 1))) (pump r b st).made in
        let n = served_within (chassis_links r) r b (λ st. Unit {0}) chassis_orderly st i s k q tt (pump_never_passes i s) (omega arith) fits in
        let m = replayed_N ls st i s (deliver_first (chassis_links r) r (q * (r * (r - 1))) (pump r b st).made st call.delivers) in
        rw (← (replayed_run ls st)) (omega arith)

    -- all that was made has come, where b is at least what waits
    pub pump_empties : all_waiting r st ≤ b → (i s : ℕ) → IsLink r i s → ((pump r b st).state.replica s).N s ≤ ((pump r b st).state.replica i).N s
    pump_empties enough i s k =
        let e = drained (chassis_links r) r b (λ st. Unit {0}) chassis_orderly st tt (λ i s k. pump_never_passes i s) enough i s k in omega arith

  -- ---- calls one after the other

  pumps_run : (bs : List ℕ) (st : Chassis) → after_pumps r bs st ≡ run r (offers (pumped r bs st)) st
  unfolding after_pumps pumped run
  pumps_run [] st = refl
  pumps_run (b ∷ bs) st =
      let p = pump r b st in
      pumps_run bs p.state
      ∙ ap (run r (offers (pumped r bs p.state))) (pump_run b st)
      ∙ sym (run_append r (offers p.made) (offers (pumped r bs p.state)) st)
      ∙ ap (λ os. run r os st) (sym (map-append _ p.made (pumped r bs p.state)))

  pub pumps_accepted : (bs : List ℕ) (st : Chassis) → answers r (offers (pumped r bs st)) st ≡ all_accepted (pumped r bs st)
  unfolding pumped answers
  pumps_accepted [] st = refl
  pumps_accepted (b ∷ bs) st =
      let p = pump r b st in
      ap (λ os. answers r os st) (map-append _ p.made (pumped r bs p.state))
      ∙ answers_append r (offers p.made) (offers (pumped r bs p.state)) st
      ∙ ap₂ ◌++◌ (pump_accepted b st) (ap (answers r (offers (pumped r bs p.state))) (sym (pump_run b st)) ∙ pumps_accepted bs p.state)
      ∙ sym (map-append _ p.made (pumped r bs p.state))

  -- ---- a run and its calls

  module _ (os : List Offer) (bs : List ℕ) where
    pub session_run : after_pumps r bs (after_run r os) ≡ after_run r (os ++ offers (pumped r bs (after_run r os)))
    session_run = pumps_run bs (after_run r os) ∙ sym (run_append r os (offers (pumped r bs (after_run r os))) fresh_chassis)

    session_ledger : (q : ℕ) → ledger_after_pumps r q os bs ≡ ledger_after r q (os ++ offers (pumped r bs (after_run r os)))
    session_ledger q =
        let ls = pumped r bs (after_run r os) in
        ap₂ (λ ss fs. after_steps r q ss fs empty_ledger)
        (ap (λ ss. map step_of os ++ ss) (sym (map-map step_of _ ls)) ∙ sym (map-append step_of os (offers ls)))
        (ap (λ fs. answers r os fresh_chassis ++ fs) (sym (pumps_accepted bs (after_run r os))) ∙ sym (answers_append r os (offers ls) fresh_chassis))

    pub session_invariant : (q : ℕ) → Invariant r q (after_pumps r bs (after_run r os)) (ledger_after_pumps r q os bs)
    session_invariant q = rw (session_run, session_ledger q) (run_invariant r q (os ++ offers (pumped r bs (after_run r os))))
