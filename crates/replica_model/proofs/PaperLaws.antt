-- LAWS. The specification's step on the words (`AcceptedCalls`) and the paper's (`protocol`'s `Algorithm1`) joined: a move whose message is an update of the paper's performs that
-- update, and the message that is written for an update says it.
use Rattle.std.specs.Prelude.{ℕ, ◌+◌, ◌≤◌, ◌≡◌, refl, List, [], ◌∷◌, true, false, take, eqb}
use Rattle.std.proofs.Common.{sym, ap, ◌∙◌, le_refl, arith, take_at, eqb-true}
use Rattle.std.proofs.Math.Seq.{take-append_seam}
use Rattle.protocol.specs.Limits.{MAX}
use Rattle.protocol.proofs.Cases.{by_test}
use Rattle.protocol.specs.declared.ClearEntry.{ClearEntry}
use Rattle.protocol.specs.Entry.{present}
use Rattle.protocol.specs.Chassis.{Message, taken}
use Rattle.protocol.proofs.StoreLaws.{shown}
use Rattle.protocol.specs.Algorithm1.{Update, inc, reset, inc_generator, reset_generator, effector, slot_of, state_of, message_of, SomeUnits}
use Rattle.protocol.proofs.Claims.{algorithm_1_take_increment, algorithm_1_take_clear}
use Rattle.wire.specs.Message as form
use Rattle.wire.specs.Message.{version_2, increment_kind, increment_message, message_bytes, message_at, reads, over}
use Rattle.wire.specs.Bounds.{increment_bounds}
use Rattle.wire.specs.RoundTrips.{readable, message_version}
use Rattle.replica_model.specs.Layout.{cards, own_card, C_of, N_of, entry_of}
use Rattle.replica_model.specs.Calls.{state, SendOutcome, sent_with}
use Rattle.replica_model.specs.ClaimTerms.{RowOf, sent_as, Writable}
use Rattle.replica_model.proofs.WellFormedKept.{FittingEntries, Fitting}
use Rattle.replica_model.proofs.AcceptedCalls.{Move, move_isolates}
use Rattle.replica_model.specs.Paper.{instance_of, update_of, SameBelow, PaperStep, Says}
use Rattle.replica_model.specs.Format.{on_wire, content, size_of, format_2}
use Rattle.replica_model.proofs.FormatLaws.{on_wire_length}
use Rattle.replica_model.proofs.LayoutLaws.{same_cards}

-- ---- updates and messages

-- an increment is its maker's; a clear names no maker
abbrev pub MadeBy : ℕ → Update → Type 0
MadeBy s (inc j p start) = j ≡ s
MadeBy s (reset R) = Unit {0}

pub inc_made : (b : List ℕ) (q : ℕ) → MadeBy (own_card b) (inc_generator (own_card b) (instance_of b q))
unfolding inc_generator shown
inc_made b q = by_test (present (entry_of (cards b) b q (own_card b))) (λ y. rw y refl) (λ y. rw y refl)

pub reset_made : (b : List ℕ) (q : ℕ) → MadeBy (own_card b) (reset_generator (cards b) (instance_of b q))
unfolding reset_generator
reset_made b q = tt

-- a message by 1 at most is the paper's
pub content_is : (bytes : List ℕ) → reads version_2 bytes ≡ true → let m = message_at version_2 bytes in
    m.amount ≤ 1 → (content m ≡ message_of m.counter (update_of m)) × MadeBy m.sender (update_of m)
unfolding content update_of
content_is bytes h few =
    let m = message_at version_2 bytes in
    by_test (eqb m.kind increment_kind)
    (λ t.
    let kind = eqb-true m.kind increment_kind t in
    let some = (increment_bounds m (readable version_2 bytes h).fits (λ e. omega arith)).counts.amount_some (rw (message_version version_2 bytes) (le_refl version_2)) in
    let one : m.amount ≡ 1 = omega arith in
    rw (t, one) (refl, refl))
    (λ t. rw t (refl, tt))

-- ---- performed

some_units : (r own : ℕ) (C : ℕ → ℕ) (ts : List ClearEntry) → FittingEntries r own C ts → SomeUnits ts
some_units r own C [] f = tt
some_units r own C (t ∷ ts) (f, fs) = (f.some, some_units r own C ts fs)

-- in a well-formed row the paper's effector is the specification's step
effector_is : (b : List ℕ) (q s : ℕ) (u : Update) → RowOf b q → MadeBy s u → Fitting (cards b) (own_card b) s (C_of b) (message_of q u)
    → SameBelow (cards b) (state_of q (taken s (message_of q u) (state b))) (effector u (instance_of b q))
unfolding effector shown
effector_is b q s (inc j p start) w e f i l =
    let a = algorithm_1_take_increment MAX s q p start (state b) i (w.tables.entry i l) in
    rw e (sym a.1, sym a.0)
effector_is b q s (reset R) w e f i l =
    let a = algorithm_1_take_clear MAX s q R (state b) i (some_units (cards b) (own_card b) (C_of b) R f) (w.tables.entry i l) in
    (sym a.1, sym a.0)

pub move_performs : (b : List ℕ) (q s : ℕ) (u : Update) (after : List ℕ) → RowOf b q → MadeBy s u → Move b q s (message_of q u) after → PaperStep b q u after
unfolding shown
move_performs b q s u after w made k = record {
  own = own;
  others = λ q' l d j lj. ((own j lj).0, rw (same_cards b after k.performed.same_head) (ap slot_of ((move_isolates b q s (message_of q u) after k).rows_stay q' j l lj d)));
}
  where
    own : SameBelow (cards b) (instance_of after q) (effector u (instance_of b q))
    own j l =
        let e = effector_is b q s u w made k.fits j l in
        (k.performed.shows.Cs j l ∙ e.0, rw (same_cards b after k.performed.same_head) (ap slot_of (k.performed.shows.entries q j k.below l) ∙ e.1))

-- ---- said, and both

on_wire_is : (s sequence q : ℕ) (u : Update) → MadeBy s u
    → let x = on_wire s sequence (message_of q u) in (x.sender ≡ s) × (x.sequence ≡ sequence) × (x.counter ≡ q) × (update_of x ≡ u) × (x.amount ≤ 1)
unfolding update_of increment_message form.clear_message
on_wire_is s sequence q (inc j p true) made = (refl, refl, refl, rw made, omega arith)
on_wire_is s sequence q (inc j p false) made = (refl, refl, refl, rw made, omega arith)
on_wire_is s sequence q (reset R) made = (refl, refl, refl, ap reset (take-append_seam R _), omega arith)

-- the front of the output says what was written over it
written_says : (b out : List ℕ) (q : ℕ) (u : Update) (size : ℕ) → MadeBy (own_card b) u
    → let x = sent_as b (message_of q u) in Writable x size → Says (take (size_of (message_of q u)) (over (message_bytes x) out)) (own_card b) (N_of (cards b) b (own_card b) + 1) q u
written_says b out q u size made k =
    let x = sent_as b (message_of q u) in
    let h = on_wire_is (own_card b) (N_of (cards b) b (own_card b) + 1) q u made in
    rw (take_at (message_bytes x) _ (size_of (message_of q u)) (on_wire_length (own_card b) (N_of (cards b) b (own_card b) + 1) (message_of q u)))
    (record {
      readable = k.reads_well;
      sender_is = rw k.reads_same h.0;
      sequence_is = rw k.reads_same h.1;
      counter_is = rw k.reads_same h.2;
      update_is = rw k.reads_same h.3;
      by_one = rw k.reads_same h.4;
    })

-- an accepted send of a message that is an update: written and performed
pub sends : (b out : List ℕ) (q : ℕ) (u : Update) (m : Message) (size : ℕ) (done : SendOutcome) → message_of q u ≡ m → MadeBy (own_card b) u → RowOf b q
    → Writable (sent_as b m) size → done ≡ sent_with format_2 b out m → Move b q (own_card b) m done.words
    → Says (take done.answer.length done.out) (own_card b) (N_of (cards b) b (own_card b) + 1) q u × PaperStep b q u done.words
sends b out q u m size done same made w k is moves =
    (rw (is, ← same) (written_says b out q u size made (rw same k)), move_performs b q (own_card b) u done.words w made (rw same moves))
