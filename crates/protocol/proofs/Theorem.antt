-- LAWS. The ledger theorem (SPECIFICATION 7). The invariant holds of a fresh chassis (`fresh_invariant`), every step keeps it (`step_invariant`), and it
-- gives what a card reads (`value_is`, `holders_are`). So after any list of steps a card reads of a counter what that counter's ledger says.
use Rattle.std.specs.Prelude.{ℕ, zero, suc, ◌^◌, ◌≤◌, ◌<◌, ◌≡◌, refl, Bool, true, List, [], ◌∷◌, map, eqb}
use Rattle.std.proofs.Math.Path.{sym, ap}
use Rattle.std.proofs.Common.{◌∙◌, arith, ltb-true, eq-eqb, ne_eqb}
use Rattle.std.proofs.Math.Bool.{cond}
use Rattle.protocol.proofs.Cases.{by_place, by_test, and_right}
use Rattle.protocol.proofs.Tables.{sum_cong, bits}
use Rattle.protocol.specs.Entry.{absent}
use Rattle.protocol.proofs.Marks.{no_messages}
use Rattle.protocol.proofs.EntryLaws.{even, reads_value}
use Rattle.protocol.proofs.NameLaws.{Prefixes_empty, tally_is}
use Rattle.protocol.specs.Ledger.{Step, count, clear, deliver, Ledger, nothing, empty_ledger, made, after_accepted, after_step, after_steps, ledger_value, ledger_holders, count_item, clear_item}
use Rattle.protocol.specs.Chassis.{Replica, Chassis, fresh_chassis, count_message, clear_message, issued, done, enabled, Offer, accepted, stepped, run, answers, read_value, read_holders, counter_of}
use Rattle.protocol.proofs.Chain.{other, mark_from, mark_at}
use Rattle.protocol.proofs.Pairs.{PairOk}
use Rattle.protocol.proofs.Makers.{count_note, count_sends, count_in_order, count_enters, clear_note, clear_sends, clear_in_order, clear_on, clear_enters, holds_is}
use Rattle.protocol.proofs.InvariantSteps.{items, issued_invariant, delivered_invariant}
pub use Rattle.protocol.proofs.InvariantSteps.{Invariant}
pub use Rattle.protocol.specs.Runs.{step_of, after_run, ledger_after}
use Rattle.protocol.proofs.Enabled.{count_enabled, deliver_enabled}

-- ---- the fresh chassis

fresh_pair : PairOk [] 0 0 no_messages absent
unfolding mark_from
fresh_pair = record {
  within = omega arith;
  C_is = refl;
  chain = record { place = 0; within = omega arith; is_mark = refl };
  covers = omega arith;
  entry = even refl refl refl refl;
}

pub fresh_invariant : (r q : ℕ) → Invariant r q fresh_chassis empty_ledger
unfolding mark_from items
fresh_invariant r q = record {
  notes = λ j. [];
  row = λ i j. no_messages;
  logs = λ j. refl;
  valid = λ j. tt;
  targets = λ j n l. absurd (omega arith);
  cards = λ i. record { pairs = λ j. fresh_pair; received_is = Prefixes_empty; cancelled_is = Prefixes_empty };
  own = λ i. refl;
  queues = λ s i d. refl;
  outside = λ j l. refl;
}

-- ---- an accepted step

pub count_counter : (i c w : ℕ) (b : Replica) → counter_of (count_message i c w b) ≡ c
unfolding count_message
count_counter i c w b = refl

pub clear_counter : (r c : ℕ) (b : Replica) → counter_of (clear_message r c b) ≡ c
unfolding clear_message
clear_counter r c b = refl

module _ (r q : ℕ) (st : Chassis) (l : Ledger) (k : Invariant r q st l) where
  count_ok : (i c w : ℕ) → i < r → 0 < w → Invariant r q (issued i (count_message i c w (st.replica i)) st) (made i (cond (eqb c q) (count_item q i w l) (nothing c)) l)
  count_ok i c w below some =
      by_place c q
      (λ e. rw (eq-eqb c q e, e)
      (issued_invariant r q st l k i (count_message i q w (st.replica i)) (count_item q i w l) (count_note i q w (st.replica i)) below
      (count_sends q k.notes k.valid i (k.row i) (st.replica i) l (k.cards i) (k.own i) w)
      (count_enters q k.notes k.valid i (k.row i) (st.replica i) l (k.cards i) (k.own i) w)
      (count_in_order q k.notes k.valid i (k.row i) (st.replica i) l (k.cards i) (k.own i) w some)
      tt))
      (λ d. rw (ne_eqb c q d)
      (issued_invariant r q st l k i (count_message i c w (st.replica i)) (nothing c) (other (count_message i c w (st.replica i))) below refl (ap nothing (sym (count_counter i c w (st.replica i))))
      (λ e. d (sym (count_counter i c w (st.replica i)) ∙ e)) tt))

  clear_ok : (i c : ℕ) → i < r → Invariant r q (issued i (clear_message r c (st.replica i)) st) (made i (cond (eqb c q) (clear_item r q i l) (nothing c)) l)
  clear_ok i c below =
      by_place c q
      (λ e. rw (eq-eqb c q e, e)
      (issued_invariant r q st l k i (clear_message r q (st.replica i)) (clear_item r q i l) (clear_note k.notes (k.row i) r q (st.replica i)) below
      (clear_sends q k.notes k.valid i (k.row i) (st.replica i) l (k.cards i) r)
      (clear_enters q k.notes k.valid i (k.row i) (st.replica i) l (k.cards i) r)
      (clear_in_order q k.notes k.valid i (k.row i) (st.replica i) l (k.cards i) (k.own i) r)
      (clear_on q k.notes k.valid i (k.row i) (st.replica i) l (k.cards i) r)))
      (λ d. rw (ne_eqb c q d)
      (issued_invariant r q st l k i (clear_message r c (st.replica i)) (nothing c) (other (clear_message r c (st.replica i))) below refl (ap nothing (sym (clear_counter r c (st.replica i))))
      (λ e. d (sym (clear_counter r c (st.replica i)) ∙ e)) tt))

  pub done_invariant : (s : Step) → enabled r s st ≡ true → Invariant r q (done r s st) (after_accepted r q s l)
  unfolding enabled done after_accepted
  done_invariant (count i c w) e = let on = count_enabled r i c w st e in count_ok i c w on.0 on.1
  done_invariant (clear i c) e = clear_ok i c (ltb-true i r e)
  done_invariant (deliver i s) e = let on = deliver_enabled r i s st e in delivered_invariant r q st l k i s on.apart (rw (← (k.own s)) on.waits)

-- ---- a list of steps

pub step_invariant : (r q : ℕ) (o : Offer) (st : Chassis) (l : Ledger) → Invariant r q st l → Invariant r q (stepped r o st) (after_step r q o.step (accepted r o st) l)
unfolding stepped after_step
step_invariant r q o st l k =
    by_test (accepted r o st)
    (λ e. rw e (done_invariant r q st l k o.step (and_right o.willing (enabled r o.step st) e)))
    (λ e. rw e k)

pub steps_invariant : (r q : ℕ) (os : List Offer) (st : Chassis) (l : Ledger) → Invariant r q st l
    → Invariant r q (run r os st) (after_steps r q (map step_of os) (answers r os st) l)
unfolding run answers after_steps
steps_invariant r q [] st l k = k
steps_invariant r q (o ∷ os) st l k = steps_invariant r q os (stepped r o st) (after_step r q o.step (accepted r o st) l) (step_invariant r q o st l k)

-- ---- reading

nothing_yet : (n : ℕ) → (mark_at n []).names ≡ 0
unfolding mark_from
nothing_yet zero = refl
nothing_yet (suc n) = refl

module _ (r q : ℕ) (st : Chassis) (l : Ledger) (k : Invariant r q st l) (i : ℕ) where
  pub value_is : read_value r q (st.replica i) ≡ ledger_value i l
  unfolding read_value ledger_value
  value_is =
      sum_cong r _ _ (λ j below. reads_value _ _ ((st.replica i).entry q j) ((k.cards i).pairs j).entry)
      ∙ sym (tally_is r (l.received i) (l.cancelled i) _ _ (k.cards i).received_is (k.cards i).cancelled_is none)
    where
      none : (j : ℕ) → r ≤ j → (mark_at ((st.replica i).N j) (k.notes j)).names ≡ 0
      none j far = rw (k.outside j far) (nothing_yet ((st.replica i).N j))

  pub holders_are : read_holders r q (st.replica i) ≡ ledger_holders r i l
  unfolding read_holders ledger_holders bits
  holders_are =
      sum_cong r _ _ (λ j below. ap (λ (t : Bool). cond t (2 ^ j) 0) (sym (holds_is q k.notes k.valid i (k.row i) (st.replica i) l (k.cards i) j)))

pub record Agrees (r q i : ℕ) (os : List Offer) : Type 0 where
  pub value : read_value r q ((after_run r os).replica i) ≡ ledger_value i (ledger_after r q os)
  pub holders : read_holders r q ((after_run r os).replica i) ≡ ledger_holders r i (ledger_after r q os)

pub run_invariant : (r q : ℕ) (os : List Offer) → Invariant r q (after_run r os) (ledger_after r q os)
run_invariant r q os = steps_invariant r q os fresh_chassis empty_ledger (fresh_invariant r q)

pub ledger_theorem : (r q i : ℕ) (os : List Offer) → Agrees r q i os
ledger_theorem r q i os =
    let k = run_invariant r q os in
    record {
      value = value_is r q (after_run r os) (ledger_after r q os) k i;
      holders = holders_are r q (after_run r os) (ledger_after r q os) k i;
    }
