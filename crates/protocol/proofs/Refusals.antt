-- LAWS. No refusal 2 and no refusal 10 in a run: whatever waits is plausible to its receiver, and every row is well-formed (but for its bit, which tables do not have). Both follow from
-- the invariant (`Invariant`) and from each card's own C and N being within the bound (`OwnBounded`), so a run that is followed step by step has them too.
use Rattle.std.specs.Prelude.{ℕ, suc, ◌+◌, ◌≤◌, ◌<◌, ◌≡◌, refl, Bool, true, false, List, [], ◌∷◌, map, length, get_or}
use Rattle.std.proofs.Common.{ap, ◌∙◌, arith}
use Rattle.std.proofs.Math.ListN.{get_or-map}
use Rattle.protocol.specs.Rows.{WellFormed, WellFormedRow, PlausibleEntries, PlausibleIncrement}
use Rattle.protocol.proofs.Marks.{Mark, Before}
use Rattle.protocol.proofs.EntryLaws.{entry_well_formed, own_entry_well_formed, increment_plausible}
use Rattle.protocol.specs.Ledger.{Ledger}
use Rattle.protocol.specs.Chassis.{no_message, Chassis, fresh_chassis, Offer, counter_of, units_of}
use Rattle.protocol.proofs.Chain as chain
use Rattle.protocol.proofs.Chain.{Note, inc, clr, no_note, Target, cleared_entry, wire, after, mark_at, OwnWithin, OnChain, mark_proper, mark_suc, note_ok}
use Rattle.protocol.proofs.Pairs.{chain_proper, chain_before_end, on_chain_at}
use Rattle.protocol.proofs.Cards.{TargetsOn}
use Rattle.protocol.proofs.InvariantSteps.{Invariant}
use Rattle.protocol.proofs.Theorem.{run_invariant}
use Rattle.protocol.specs.Runs.{after_run, ledger_after, StepsWithin}
use Rattle.protocol.proofs.OwnBounded.{OwnBounded, after_bounded}
pub use Rattle.protocol.specs.Rows.{Plausible}

pub after_units : (q : ℕ) (t : Note) (m : Mark) → (after t m).units ≡ m.units + units_of (wire q t)
after_units q (chain.other x) m = refl
after_units q (inc w p start) m = refl
after_units q (clr ts) m = omega arith

-- what an increment's place among its sender's messages says of it, and the bound, make it plausible
increment_bounded : (most known w p : ℕ) (start : Bool) → (p ≤ known + w) × (start ≡ true → p ≡ known + w) × (start ≡ false → w < p) → known + w ≤ most
    → PlausibleIncrement most known w p start
increment_bounded most known w p true (a, b, c) h = (b refl, h)
increment_bounded most known w p false (a, b, c) h = (c refl, a, h)

module _ (r q : ℕ) (st : Chassis) (l : Ledger) (k : Invariant r q st l) where
  C_is : (i j : ℕ) → (st.replica i).C j ≡ (mark_at ((st.replica i).N j) (k.notes j)).units
  C_is i j = ((k.cards i).pairs j).C_is

  -- a mark of j's is within what j itself has made
  pub within_own : (j : ℕ) (x : Mark) → OnChain (k.notes j) x → x.units ≤ (st.replica j).C j
  within_own j x o =
      let b : Before x (mark_at (length (k.notes j)) (k.notes j)) = chain_before_end q j (k.notes j) (k.valid j) x o in
      rw (C_is j j, k.own j) b.units≤

  entries_plausible : (i s : ℕ) (ts : List Target) → TargetsOn k.notes ts → OwnWithin s (mark_at ((st.replica i).N s) (k.notes s)) ts
      → PlausibleEntries i s (st.replica i).C (map cleared_entry ts)
  entries_plausible i s [] on own = tt
  entries_plausible i s (t ∷ ts) on own = ((at_receiver, at_sender), entries_plausible i s ts on.1 own.1)
    where
      at_receiver : t.card ≡ i → t.mark.c ≤ (st.replica i).C i
      at_receiver e =
          let o : OnChain (k.notes i) t.mark = rw e at on.0 in
          let w = within_own i t.mark o in
          let p = chain_proper q i (k.notes i) (k.valid i) t.mark o in
          omega arith

      at_sender : t.card ≡ s → t.mark.c ≤ (st.replica i).C s
      at_sender e = rw (C_is i s) (own.0 e)

  -- once the message that waits is taken, the receiver has no more units of the sender than the sender has made
  note_within : (i s : ℕ) → (st.replica i).N s < length (k.notes s)
      → (st.replica i).C s + units_of (wire q (get_or (k.notes s) ((st.replica i).N s) no_note)) ≤ (st.replica s).C s
  note_within i s waits =
      let n = (st.replica i).N s in
      let u = ap (λ (x : Mark). x.units) (mark_suc n (k.notes s) waits) ∙ after_units q (get_or (k.notes s) n no_note) (mark_at n (k.notes s)) in
      rw (C_is i s, ← u) (within_own s _ (on_chain_at (k.notes s) (suc n) waits))

  note_plausible : (most i s : ℕ) → (st.replica s).C s ≤ most → (st.replica i).N s < length (k.notes s) → (t : Note) → get_or (k.notes s) ((st.replica i).N s) no_note ≡ t
      → counter_of (wire q t) ≡ q → Plausible most i s (st.replica i).C (wire q t)
  note_plausible most i s fits waits (chain.other m) e c = absurd ((rw e at (note_ok q s (k.notes s) (k.valid s) ((st.replica i).N s) waits)) c)
  note_plausible most i s fits waits (inc w p start) e c =
      let within : (st.replica i).C s + w ≤ (st.replica s).C s = rw e at (note_within i s waits) in
      increment_bounded most ((st.replica i).C s) w p start
      (rw (C_is i s)
      (increment_plausible (mark_at ((st.replica i).N s) (k.notes s)) w p start (mark_proper q s (k.notes s) (k.valid s) ((st.replica i).N s))
      (rw e at (note_ok q s (k.notes s) (k.valid s) ((st.replica i).N s) waits))))
      (omega arith)
  note_plausible most i s fits waits (clr ts) e c =
      entries_plausible i s ts (rw e at (k.targets s ((st.replica i).N s) waits))
      (rw e at (note_ok q s (k.notes s) (k.valid s) ((st.replica i).N s) waits))

  -- the message that waits for i on the link from s, if it is one of q's
  pub waiting_plausible : (most i s : ℕ) → (st.replica s).C s ≤ most → (st.replica i).N s < (st.replica s).N s
      → counter_of (get_or (st.log s) ((st.replica i).N s) no_message) ≡ q
      → Plausible most i s (st.replica i).C (get_or (st.log s) ((st.replica i).N s) no_message)
  waiting_plausible most i s fits waits =
      let m : get_or (st.log s) ((st.replica i).N s) no_message ≡ wire q (get_or (k.notes s) ((st.replica i).N s) no_note)
      = rw (k.logs s) (get_or-map (wire q) (k.notes s) ((st.replica i).N s) no_note) in
      rw m (note_plausible most i s fits (rw (← (k.own s)) waits) (get_or (k.notes s) ((st.replica i).N s) no_note) refl)

  -- ---- a well-formed row

  pub row_well_formed : (most : ℕ) → ((j : ℕ) → (st.replica j).C j ≤ most) → (i j : ℕ) → WellFormed most ((st.replica i).entry q j)
  row_well_formed most fits i j =
      let p = (k.cards i).pairs j in
      let a = within_own j _ (on_chain_at (k.notes j) ((st.replica i).N j) p.within) in
      let b = within_own j _ p.chain in
      let c = fits j in
      entry_well_formed most _ _ ((st.replica i).entry q j) (mark_proper q j (k.notes j) (k.valid j) ((st.replica i).N j))
      (chain_proper q j (k.notes j) (k.valid j) (k.row i j) p.chain) (omega arith) (omega arith) p.entry

  pub own_row_well_formed : (i : ℕ) → ((st.replica i).entry q i).c ≤ (st.replica i).C i
  own_row_well_formed i =
      let p = (k.cards i).pairs i in
      let b : Before (k.row i i) (mark_at ((st.replica i).N i) (k.notes i)) = rw (k.own i) (chain_before_end q i (k.notes i) (k.valid i) (k.row i i) p.chain) in
      rw (C_is i i)
      (own_entry_well_formed _ _ ((st.replica i).entry q i) (mark_proper q i (k.notes i) (k.valid i) ((st.replica i).N i)) b.names≤ p.entry)

  -- what a card has received is no more than its origin has made: C and N of j are at most j's own
  pub received_within : (i j : ℕ) → ((st.replica i).C j ≤ (st.replica j).C j) × ((st.replica i).N j ≤ (st.replica j).N j)
  received_within i j = (
    rw (C_is i j) (within_own j _ (on_chain_at (k.notes j) ((st.replica i).N j) ((k.cards i).pairs j).within)),
    rw (k.own j) ((k.cards i).pairs j).within,
  )

  -- every row, of so many cards as one likes
  pub rows_well_formed : (most : ℕ) → OwnBounded most st → (cards i : ℕ) → WellFormedRow most cards i (st.replica i).C (st.replica i).N ((st.replica i).entry q)
  rows_well_formed most own cards i = record {
    C≤MAX = λ j l. let a = own.C≤ j in let b = (received_within i j).0 in omega arith;
    N≤MAX = λ j l. let a = own.N≤ j in let b = (received_within i j).1 in omega arith;
    entry = λ j l. row_well_formed most own.C≤ i j;
    own≤C = own_row_well_formed i;
  }

-- ---- in every run of which no accepted step is one that 4 covers

-- the message that waits for i on the link from s is plausible, whatever its counter
pub run_plausible : (r i s most : ℕ) (os : List Offer) → StepsWithin most r os fresh_chassis
    → ((after_run r os).replica i).N s < ((after_run r os).replica s).N s
    → Plausible most i s ((after_run r os).replica i).C (get_or ((after_run r os).log s) (((after_run r os).replica i).N s) no_message)
run_plausible r i s most os h waits =
    let q = counter_of (get_or ((after_run r os).log s) (((after_run r os).replica i).N s) no_message) in
    waiting_plausible r q (after_run r os) (ledger_after r q os) (run_invariant r q os) most i s ((after_bounded most r os h).C≤ s) waits refl

-- every row is well-formed
pub run_well_formed : (r q i most : ℕ) (os : List Offer) → StepsWithin most r os fresh_chassis
    → (cards : ℕ) → let b = (after_run r os).replica i in WellFormedRow most cards i b.C b.N (b.entry q)
run_well_formed r q i most os h cards =
    rows_well_formed r q (after_run r os) (ledger_after r q os) (run_invariant r q os) most (after_bounded most r os h) cards i
