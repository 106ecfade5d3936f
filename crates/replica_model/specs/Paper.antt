-- DEFINITIONS. The calls beside Algorithm 1 of the 2022 paper, line by line as `protocol`'s `Algorithm1` has it: one counter of a replica as the paper's instance, a message
-- on the wire as the paper's update, and what it is for a replica to have performed one.
use Rattle.std.specs.Prelude.{ℕ, ◌≤◌, ◌<◌, ◌≡◌, ◌≢◌, List, true, cond, take, eqb}
use Rattle.protocol.specs.Algorithm1.{State, Update, inc, reset, effector, state_of}
use Rattle.wire.specs.declared.Message as wire
use Rattle.wire.specs.Message.{version_2, increment_kind, message_at, reads}
use Rattle.replica_model.specs.Layout.{cards, counters}
use Rattle.replica_model.specs.Calls.{state}

-- counter q's instance of Algorithm 1 that the words show: C, and M[j] unmapped where card j's entry is absent
abbrev pub instance_of : List ℕ → ℕ → State
instance_of b q = state_of q (state b)

-- what a message on the wire says, as the paper's: (inc, j, p, start) of its sender, or (reset, R). The paper's increments are by 1
unfoldable pub update_of : wire.Message → Update
update_of m =
    cond (eqb m.kind increment_kind) (inc m.sender m.p (eqb m.start 1)) (reset (take m.len m.entries))

-- agree at every card below r
abbrev pub SameBelow : ℕ → State → State → Type 0
SameBelow r st st' = (j : ℕ) → j < r → (st.C j ≡ st'.C j) × (st.M j ≡ st'.M j)

-- Update u of counter q, performed on the replica b: counter q's instance is what the paper's effector leaves; "the map C is shared by all CRDTs on a given replica",
-- and every other counter keeps its M.
pub record PaperStep (b : List ℕ) (q : ℕ) (u : Update) (after : List ℕ) : Type 0 where
  pub own : SameBelow (cards b) (instance_of after q) (effector u (instance_of b q))
  pub others : (q' : ℕ) → q' < counters b → q' ≢ q
      → SameBelow (cards b) (instance_of after q') (record { C = (effector u (instance_of b q)).C; M = (instance_of b q').M })

-- these bytes are a message of card `sender`, numbered `sequence`, that says update u of counter q, by 1 if it is an increment (a clear's amount is 0)
pub record Says (bytes : List ℕ) (sender sequence q : ℕ) (u : Update) : Type 0 where
  pub readable : reads version_2 bytes ≡ true
  pub sender_is : (message_at version_2 bytes).sender ≡ sender
  pub sequence_is : (message_at version_2 bytes).sequence ≡ sequence
  pub counter_is : (message_at version_2 bytes).counter ≡ q
  pub update_is : update_of (message_at version_2 bytes) ≡ u
  pub by_one : (message_at version_2 bytes).amount ≤ 1
