-- LAWS. A card's own C and N stay within `most` while no accepted step is one that refusal 4 covers.
use Rattle.std.specs.Prelude.{ℕ, ◌+◌, ◌≤◌, ◌<◌, ◌≡◌, true, List, [], ◌∷◌}
use Rattle.std.proofs.Common.{arith}
use Rattle.protocol.proofs.Cases.{by_place, by_test, and_right}
use Rattle.protocol.proofs.Tables.{put_same, put_other}
use Rattle.protocol.specs.Ledger.{Step, count, clear, deliver}
use Rattle.protocol.specs.Chassis.{Message, Chassis, fresh_chassis, count_message, clear_message, issued, delivered, done, enabled, Offer, accepted, stepped, run, units_of}
use Rattle.protocol.proofs.InvariantSteps.{taken_N}
use Rattle.protocol.proofs.InARowLaws.{taken_C}
use Rattle.protocol.specs.Runs.{after_run, StepWithin, StepsWithin}
use Rattle.protocol.proofs.Enabled.{deliver_enabled}

-- no card's own C and N are above `most`
pub record OwnBounded (most : ℕ) (st : Chassis) : Type 0 where
  pub C≤ : (j : ℕ) → (st.replica j).C j ≤ most
  pub N≤ : (j : ℕ) → (st.replica j).N j ≤ most

pub issued_bounded : (most i : ℕ) (m : Message) (st : Chassis) → (st.replica i).N i < most → (st.replica i).C i + units_of m ≤ most
    → OwnBounded most st → OwnBounded most (issued i m st)
unfolding issued
issued_bounded most i m st few fits k = record {
  C≤ = λ j. by_place j i (λ e. rw e (simp (put_same, taken_C) fits)) (λ d. simp put_other (k.C≤ j));
  N≤ = λ j. by_place j i (λ e. rw e (simp (put_same, taken_N) few)) (λ d. simp put_other (k.N≤ j));
}

-- what comes from another card does not change a card's own C and N
pub delivered_bounded : (most i s : ℕ) (st : Chassis) → (i ≡ s → ⊥) → OwnBounded most st → OwnBounded most (delivered i s st)
unfolding delivered
delivered_bounded most i s st apart k = record {
  C≤ = λ j. by_place j i (λ e. rw e (simp (put_same, taken_C, put_other) (k.C≤ i))) (λ d. simp put_other (k.C≤ j));
  N≤ = λ j. by_place j i (λ e. rw e (simp (put_same, taken_N, put_other) (k.N≤ i))) (λ d. simp put_other (k.N≤ j));
}

done_bounded : (most r : ℕ) (s : Step) (st : Chassis) → enabled r s st ≡ true → StepWithin most s st → OwnBounded most st → OwnBounded most (done r s st)
unfolding done count_message clear_message
done_bounded most r (count i q w) st e h k = issued_bounded most i _ st h.0 h.1 k
done_bounded most r (clear i q) st e h k = issued_bounded most i _ st h (let a = k.C≤ i in omega arith) k
done_bounded most r (deliver i s) st e h k = delivered_bounded most i s st (deliver_enabled r i s st e).apart k

pub stepped_bounded : (most r : ℕ) (o : Offer) (st : Chassis) → (accepted r o st ≡ true → StepWithin most o.step st)
    → OwnBounded most st → OwnBounded most (stepped r o st)
unfolding stepped
stepped_bounded most r o st h k =
    by_test (accepted r o st)
    (λ e. rw e (done_bounded most r o.step st (and_right o.willing (enabled r o.step st) e) (h e) k))
    (λ e. rw e k)

pub fresh_bounded : (most : ℕ) → OwnBounded most fresh_chassis
fresh_bounded most = record { C≤ = λ j. omega arith; N≤ = λ j. omega arith }

run_bounded : (most r : ℕ) (os : List Offer) (st : Chassis) → StepsWithin most r os st → OwnBounded most st → OwnBounded most (run r os st)
unfolding run
run_bounded most r [] st h k = k
run_bounded most r (o ∷ os) st h k = run_bounded most r os (stepped r o st) h.1 (stepped_bounded most r o st h.0 k)

pub after_bounded : (most r : ℕ) (os : List Offer) → StepsWithin most r os fresh_chassis → OwnBounded most (after_run r os)
after_bounded most r os h = run_bounded most r os fresh_chassis h (fresh_bounded most)
