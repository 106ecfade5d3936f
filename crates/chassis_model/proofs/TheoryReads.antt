-- LAWS. What the words of a run of the theory (`TheoryRun`) hold and read: Algorithm 1's numbers, and on a caught-up card the number in the plain sense. Two such
-- runs with the same own steps of a counter read the same of it.
use Rattle.std.specs.Prelude.{ℕ, ◌<◌, ◌≡◌, true, List, map}
use Rattle.std.proofs.Math.Path.{sym, ap}
use Rattle.std.proofs.Common.{◌∙◌}
use Rattle.protocol.specs.Ledger.{Step, Ledger, holds, ledger_value, ledger_holders}
use Rattle.protocol.specs.Chassis.{Offer, read_value}
use Rattle.protocol.specs.Runs.{after_run}
use Rattle.protocol.proofs.Theorem.{value_is}
use Rattle.protocol.specs.Algorithm1.{value, slot_of}
use Rattle.protocol.proofs.Algorithm1Laws.{value_agrees}
use Rattle.protocol.specs.InARow as paper
use Rattle.protocol.specs.InARow.{System, initial, Instances, instance, instances_of}
use Rattle.protocol.proofs.InARowRuns.{after_same}
use Rattle.protocol.specs.History.{empty_history, recorded, history_after, caught_up, plain_value}
use Rattle.protocol.proofs.CaughtUpLaws.{plain_theorem}
use Rattle.protocol.specs.Alone.{no_turns, own_steps}
use Rattle.protocol.proofs.AloneLedgers.{SameSets, own_same}
use Rattle.replica_model.specs.Layout.{C_of, entry_of}
use Rattle.replica_model.specs.declared.Reading.{Reading}
use Rattle.replica_model.specs.Calls.{read_on}
use Rattle.chassis_model.specs.Ledger.{accepted_of, ledger_reading}
use Rattle.chassis_model.specs.Algorithm1Of.{algorithm_1_of}
use Rattle.chassis_model.specs.HistoryOf.{history_of}
use Rattle.chassis_model.proofs.InStep.{cards_at}
use Rattle.chassis_model.proofs.ReadsOfReplicas.{read_matches}
use Rattle.chassis_model.proofs.Offers.{offers_of, ledgers_told, TheoryRun, told}

module _ {r k : ℕ} {steps : List Step} {numbers : List ℕ} {replicas : ℕ → List ℕ} (t : TheoryRun r k steps numbers replicas) where
  abbrev offers : List Offer
  offers = offers_of steps numbers

  -- a read is the ledger's, and so the theory's
  pub reading_is : (i q : ℕ) → i < r → q < k → read_on (replicas i) q ≡ ledger_reading r i (ledgers_told r steps numbers q)
  reading_is i q hi hq = read_matches (cards_at t.cards) i q hi hq

  pub value_read : (i q : ℕ) → i < r → q < k → (read_on (replicas i) q).value ≡ read_value r q ((after_run r offers).replica i)
  unfolding ledger_reading
  value_read i q hi hq =
      ap (λ (a : Reading). a.value) (reading_is i q hi hq) ∙ sym (value_is r q (after_run r offers) (ledgers_told r steps numbers q) (t.cards.invariants q) i)

  -- ---- Algorithm 1

  instances_are : (i : ℕ) → (algorithm_1_of r steps numbers).replica i ≡ instances_of ((after_run r offers).replica i)
  unfolding algorithm_1_of
  instances_are i =
      ap (λ (x : System). x.replica i) (told t (λ ss fs. paper.after_steps r ss fs initial)) ∙ (after_same r offers).replicas i

  pub C_is : (i j : ℕ) → i < r → j < r → C_of (replicas i) j ≡ ((algorithm_1_of r steps numbers).replica i).C j
  C_is i j hi hj = rw (ap (λ (x : Instances). x.C j) (instances_are i)) ((t.cards.cards_show.shows i hi).Cs j hj)

  pub M_is : (i j q : ℕ) → i < r → j < r → q < k → slot_of (entry_of r (replicas i) q j) ≡ ((algorithm_1_of r steps numbers).replica i).M q j
  M_is i j q hi hj hq = rw (ap (λ (x : Instances). x.M q j) (instances_are i)) (ap slot_of ((t.cards.cards_show.shows i hi).entries q j hq hj))

  pub algorithm_1_value : (i q : ℕ) → i < r → q < k → (read_on (replicas i) q).value ≡ value r (instance q ((algorithm_1_of r steps numbers).replica i))
  algorithm_1_value i q hi hq = rw (instances_are i) (value_read i q hi hq ∙ sym (value_agrees r q ((after_run r offers).replica i)))

  -- ---- caught-up cards

  history_is : history_of steps numbers ≡ history_after r offers
  unfolding history_of
  history_is = told t (λ ss fs. recorded ss fs empty_history)

  pub caught_up_value : (i q : ℕ) → i < r → q < k → caught_up i (history_of steps numbers) ≡ true
      → (read_on (replicas i) q).value ≡ plain_value q i (history_of steps numbers)
  caught_up_value i q hi hq caught = rw history_is (value_read i q hi hq ∙ plain_theorem r q i offers (rw history_is at caught))

-- ---- two such runs with the same own steps of a counter

pub same_reading : (r i : ℕ) (l l' : Ledger) → SameSets l l' → ledger_reading r i l' ≡ ledger_reading r i l
unfolding ledger_reading ledger_value ledger_holders holds
same_reading r i l l' h = simp (h.received i, h.cancelled i)

pub same_own_reads {ℓ ℓ'} : {A : Type ℓ} {B : Type ℓ'} {r k k' : ℕ} {ns ns' : List ℕ} {replicas replicas' : ℕ → List ℕ} (q : ℕ)
    (step : A → Step) (xs : List A) (step' : B → Step) (ys : List B) → TheoryRun r k (map step xs) ns replicas → TheoryRun r k' (map step' ys) ns' replicas'
    → map step (own_steps step q xs (accepted_of ns) no_turns) ≡ map step' (own_steps step' q ys (accepted_of ns') no_turns)
    → (i : ℕ) → i < r → q < k → q < k' → read_on (replicas i) q ≡ read_on (replicas' i) q
same_own_reads {r = r} {ns = ns} {ns' = ns'} q step xs step' ys t t' e i hi hq hq' =
    reading_is t i q hi hq
    ∙ sym (same_reading r i _ _ (own_same step step' r q xs ys (accepted_of ns) (accepted_of ns') e))
    ∙ sym (reading_is t' i q hi hq')
