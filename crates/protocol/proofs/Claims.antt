-- CLAIMS. What a user relies on. Each has its sentence, its statement, and the law that proves it.
--
-- r is the number of cards, q any counter number, os any list of steps, each with whether anything that the theory need not know speaks
-- against it (`Chassis.Offer`). `after_run r os` is the chassis after the list, from a fresh one; `ledger_after r q os` is counter q's
-- ledger, fed with the same steps and told which were accepted (`Runs`).
use Rattle.std.specs.Prelude.{ℕ, ◌<◌, ◌≡◌, Bool, not, ◌&&◌, List, eqb, ltb, get_or}
use Rattle.protocol.specs.Ledger.{deliver, link_waits, ledger_value, ledger_holders}
use Rattle.protocol.specs.Chassis.{increment, clearing, no_message, ClearEntry, Replica, fresh_chassis, taken, count_message, clear_message, Offer, enabled, read_value, read_holders}
use Rattle.protocol.specs.Rows.{WellFormed, WellFormedRow, Plausible}
use Rattle.protocol.specs.Runs.{after_run, ledger_after, StepsWithin}
use Rattle.protocol.specs.Algorithm1.{value, inc_generator, inc_effector, reset_generator, reset_effector, state_of, message_of, SomeUnits}
use Rattle.protocol.proofs.Theorem as theorem
use Rattle.protocol.proofs.Links.{deliver_enabled_is}
use Rattle.protocol.proofs.Arrivals.{after_steps_arrivals}
use Rattle.protocol.proofs.Agreement.{same_received_agree}
use Rattle.protocol.proofs.Refusals as refusals
use Rattle.protocol.proofs.Algorithm1Laws.{value_agrees, inc_message_agrees, reset_message_agrees, inc_effector_agrees, inc_effector_C, reset_effector_agrees, reset_effector_C}

-- DEMAND 3. After any list of steps, reading any counter on any card gives the value and the holding cards of that counter's ledger.
pub ledger_theorem : (r q i : ℕ) (os : List Offer)
    → (read_value r q ((after_run r os).replica i) ≡ ledger_value i (ledger_after r q os))
    × (read_holders r q ((after_run r os).replica i) ≡ ledger_holders r i (ledger_after r q os))
ledger_theorem r q i os = let a = theorem.ledger_theorem r q i os in (a.value, a.holders)

-- Cards that have received the same messages read alike: of each card the same number, its own included. In whatever order they came, and whatever else is under way.
pub same_messages_same_reads : (r q i j : ℕ) (os : List Offer)
    → ((s : ℕ) → s < r → ((after_run r os).replica i).N s ≡ ((after_run r os).replica j).N s)
    → (read_value r q ((after_run r os).replica i) ≡ read_value r q ((after_run r os).replica j))
    × (read_holders r q ((after_run r os).replica i) ≡ read_holders r q ((after_run r os).replica j))
same_messages_same_reads r q i j os same =
    let a = same_received_agree r q (after_run r os) (ledger_after r q os) (theorem.run_invariant r q os) (after_steps_arrivals r q _ _) i j same in (a.value, a.holders)

-- A delivery is enabled exactly when both cards are there, they are two, and the ledger's link has something to hand over.
pub deliver_enabled : (r q i s : ℕ) (os : List Offer)
    → enabled r (deliver i s) (after_run r os) ≡ ltb i r && (ltb s r && (not (eqb i s) && link_waits i s (ledger_after r q os)))
deliver_enabled r q i s os = deliver_enabled_is r q (after_run r os) (ledger_after r q os) (theorem.run_invariant r q os) i s

-- Refusal 10 does not occur in a run of which no accepted step is one that refusal 4 covers: the message that waits for card i on the link from s is plausible to i,
-- whatever its counter.
pub run_plausible : (r i s most : ℕ) (os : List Offer) → StepsWithin most r os fresh_chassis
    → ((after_run r os).replica i).N s < ((after_run r os).replica s).N s
    → Plausible most i s ((after_run r os).replica i).C (get_or ((after_run r os).log s) (((after_run r os).replica i).N s) no_message)
run_plausible = refusals.run_plausible

-- Nor does refusal 2: every row of every card is well-formed.
pub run_well_formed : (r q i most : ℕ) (os : List Offer) → StepsWithin most r os fresh_chassis
    → (cards : ℕ) → let b = (after_run r os).replica i in WellFormedRow most cards i b.C b.N (b.entry q)
run_well_formed = refusals.run_well_formed

-- ALGORITHM 1, in the paper's form and in the specification's. `state_of q b` is a replica as counter q's instance: an absent entry is an unmapped key.

-- Lines 9-10: the paper's value is what read gives.
pub algorithm_1_value : (r q : ℕ) (b : Replica) → value r (state_of q b) ≡ read_value r q b
algorithm_1_value = value_agrees

-- Lines 12-16: the generator of inc returns the message that a count by 1 sends.
pub algorithm_1_count : (i q : ℕ) (b : Replica) → message_of q (inc_generator i (state_of q b)) ≡ count_message i q 1 b
algorithm_1_count = inc_message_agrees

-- Lines 28-29: the generator of reset returns the message that a clear sends.
pub algorithm_1_clear : (r q : ℕ) (b : Replica) → message_of q (reset_generator r (state_of q b)) ≡ clear_message r q b
algorithm_1_clear = reset_message_agrees

-- Lines 17-26: the effector of inc leaves at every card j what taking the increment leaves, where j's entry was well-formed.
pub algorithm_1_take_increment : (most s q p : ℕ) (start : Bool) (b : Replica) (j : ℕ) → WellFormed most (b.entry q j)
    → ((inc_effector s p start (state_of q b)).M j ≡ (state_of q (taken s (increment q 1 p start) b)).M j)
    × ((inc_effector s p start (state_of q b)).C j ≡ (state_of q (taken s (increment q 1 p start) b)).C j)
algorithm_1_take_increment most s q p start b j k = (inc_effector_agrees most s q p start b j k, inc_effector_C s q p start b j)

-- Lines 30-38: the effector of reset leaves at every card j what taking the clear leaves, where j's entry was well-formed.
pub algorithm_1_take_clear : (most s q : ℕ) (ts : List ClearEntry) (b : Replica) (j : ℕ) → SomeUnits ts → WellFormed most (b.entry q j)
    → ((reset_effector ts (state_of q b)).M j ≡ (state_of q (taken s (clearing q ts) b)).M j)
    × ((reset_effector ts (state_of q b)).C j ≡ (state_of q (taken s (clearing q ts) b)).C j)
algorithm_1_take_clear most s q ts b j some k = (reset_effector_agrees most s q ts b j some k, reset_effector_C s q ts b j)
