-- LAWS. An accepted count, clear or take is one thing, a `Move`: the replica takes a message that fits it. A refused one leaves the words as they were.
-- What holds of every move holds of the three calls.
use Rattle.std.specs.Prelude.{ℕ, ◌+◌, ◌-◌, ◌^◌, ◌≤◌, ◌<◌, ◌≡◌, refl, ◌≢◌, List, [], ◌∷◌, Bool, true, cond, length, leb}
use Rattle.std.proofs.Common.{ap, ◌∙◌, arith}
use Rattle.std.proofs.Math.Bool.{and-eq-true_iff}
use borrow.Author.Tests.{leb-true, ltb-true, lt-ltb, eqb-false, not-true}
use Rattle.protocol.specs.Limits.{MAX, short_output}
use Rattle.protocol.proofs.Tables.{sum_cong, bits}
use Rattle.protocol.specs.declared.Entry.{Entry}
use Rattle.protocol.specs.Entry.{present}
use Rattle.protocol.specs.declared.ClearEntry.{ClearEntry}
use Rattle.protocol.specs.Chassis.{Message, increment, clearing, count_message, clear_message, read_value, read_holders, counter_of}
use Rattle.protocol.proofs.StoreLaws.{CardsBelow, InLimits, shown}
use Rattle.protocol.specs.Checks.{AllPass, Gives, or_else}
use Rattle.protocol.proofs.ChecksLaws.{all_first, gives_passes}
use Rattle.protocol.proofs.AcceptanceLaws.{count_cong}
use Rattle.wire.specs.Message.{version_2, message_at, increment_length, clear_length}
use Rattle.replica_model.specs.Layout.{cards, counters, own_card, C_of, N_of, entry_of}
use Rattle.replica_model.specs.Calls.{right, row_well_formed, is_amount, reading, read_on, count_on, clear_on, read_and_clear_on, take_on, send_checks, holders, count_of, clear_of, words_after, making_checks}
use Rattle.replica_model.specs.ClaimTerms.{Right, Performed, OnlyMoves, Keeps, Isolates}
use Rattle.replica_model.proofs.RowLaws.{right_facts, right_from, row_facts, row_from}
use Rattle.replica_model.proofs.CallsLaws.{read_accepted, read_passes, count_decided, clear_decided, read_and_clear_decided, take_decided}
use Rattle.replica_model.proofs.WellFormedKept.{FittingEntries, Fitting}
use Rattle.replica_model.proofs.Performed.{performed, only_moves, right_kept, row_kept}
use Rattle.replica_model.proofs.Senders.{Sending, count_fits, clear_fits}
use Rattle.replica_model.proofs.Receivers.{taking_facts, take_passes, content_counter}
use Rattle.replica_model.proofs.LayoutLaws.{same_cards, same_counters}
use Rattle.replica_model.specs.Format.{content, format_2}

-- card s's message m on counter q, taken by the replica b
pub record Move (b : List ℕ) (q s : ℕ) (m : Message) (after : List ℕ) : Type 0 where
  pub before : Right b
  pub counter : counter_of m ≡ q
  pub below : q < counters b
  pub sender : s < cards b
  pub more : N_of (cards b) b s < MAX
  pub fits : Fitting (cards b) (own_card b) s (C_of b) m
  pub performed : Performed b s m after

-- ---- from what the checks leave

known_cards : (r own : ℕ) (C : ℕ → ℕ) (ts : List ClearEntry) → FittingEntries r own C ts → CardsBelow r ts
known_cards r own C [] f = tt
known_cards r own C (t ∷ ts) (f, fs) = (f.known, known_cards r own C ts fs)

in_limits : (r own s k : ℕ) (C : ℕ → ℕ) (m : Message) → counter_of m < k → Fitting r own s C m → InLimits r k m
in_limits r own s k C (increment q w p start) l f = l
in_limits r own s k C (clearing q ts) l f = (l, known_cards r own C ts f)

moved : (b : List ℕ) (q s : ℕ) (m : Message) → Right b → counter_of m ≡ q → q < counters b → s < cards b → N_of (cards b) b s < MAX
    → Fitting (cards b) (own_card b) s (C_of b) m → Move b q s m (words_after s m b)
moved b q s m f c l hs n fit = record {
  before = f;
  counter = c;
  below = l;
  sender = hs;
  more = n;
  fits = fit;
  performed = performed b s m f hs (in_limits (cards b) (own_card b) s (counters b) (C_of b) m (rw c l) fit);
}

pub sending_from : (b : List ℕ) (q w : ℕ) → right b ≡ true → q < counters b → row_well_formed b q ≡ true → N_of (cards b) b (own_card b) ≢ MAX
    → C_of b (own_card b) + w ≤ MAX → Sending b q w
sending_from b q w h l f d room =
    let r = right_facts b h in
    let k = row_facts b q f in
    record { right = r; counter = l; row = k; more = let n = k.tables.N≤MAX (own_card b) r.own in omega arith; room = room }

-- a clear counts nothing, and there is always room for that
pub none_more : (b : List ℕ) (q : ℕ) → right b ≡ true → row_well_formed b q ≡ true → C_of b (own_card b) + 0 ≤ MAX
none_more b q h f = let c = (row_facts b q f).tables.C≤MAX (own_card b) (right_facts b h).own in omega arith

pub sending_facts : (b : List ℕ) (q : ℕ) (asked : Bool) (w : ℕ) → AllPass (making_checks b q asked w) → Sending b q w × (asked ≡ true)
sending_facts b q asked w (h₁, (h₃, (h₁₆, (h₂, (h₄, _))))) =
    let left = simp and-eq-true_iff at h₄ in
    (sending_from b q w h₁ (ltb-true q (counters b) h₃) h₂ (eqb-false _ MAX (not-true _ left.0)) (leb-true _ MAX left.1), h₁₆)

pub sent_facts : (b : List ℕ) (q : ℕ) (asked : Bool) (w : ℕ) (out : List ℕ) (size : ℕ) → Gives (send_checks b q asked w out size) 0 → Sending b q w × (asked ≡ true)
sent_facts b q asked w out size g =
    sending_facts b q asked w
    (all_first (making_checks b q asked w) (or_else (leb size (length out)) short_output ∷ []) (gives_passes (send_checks b q asked w out size) refl g))

-- ---- the calls

pub count_move : (b : List ℕ) (q w : ℕ) (out : List ℕ) → (count_on b q w out).answer.number ≡ 0 → Move b q (own_card b) (count_of b q w) (count_on b q w out).words
unfolding count_message
count_move b q w out h =
    let d = count_decided b q w out in
    let (k, asked) = sent_facts b q (is_amount w) w out (increment_length version_2) ((d.exact 0).0 h) in
    rw (d.accepted h) (moved b q (own_card b) (count_of b q w) k.right refl k.counter k.right.own k.more (count_fits b q w k asked))

pub clear_move : (b : List ℕ) (q : ℕ) (out : List ℕ) → (clear_on b q out).answer.number ≡ 0 → Move b q (own_card b) (clear_of b q) (clear_on b q out).words
unfolding clear_message
clear_move b q out h =
    let d = clear_decided b q out in
    let k = (sent_facts b q true 0 out (clear_length (holders b q)) ((d.exact 0).0 h)).0 in
    rw (d.accepted h) (moved b q (own_card b) (clear_of b q) k.right refl k.counter k.right.own k.more (clear_fits b q 0 k))

pub take_move : (b bytes : List ℕ) → (take_on b bytes).answer.number ≡ 0
    → let m = message_at version_2 bytes in Move b m.counter m.sender (content m) (take_on b bytes).words
take_move b bytes h =
    let m = message_at version_2 bytes in
    let d = take_decided format_2 b bytes in
    let k = taking_facts b bytes (take_passes b bytes ((d.exact 0).0 h)) in
    rw (d.accepted h) (moved b m.counter m.sender (content m) k.right (content_counter m) (rw (content_counter m) at k.counter) k.sender k.more k.fits)

-- what a read gives just before an accepted read-and-clear
pub read_before : (b : List ℕ) (q : ℕ) (out : List ℕ) → let done = read_and_clear_on b q out in
    done.answer.number ≡ 0 → ((read_on b q).number ≡ 0) × (done.answer.value ≡ (read_on b q).value)
read_before b q out h =
    let d = read_and_clear_decided b q out in
    let k = (sent_facts b q true 0 out (clear_length (holders b q)) ((d.exact 0).0 h)).0 in
    (read_accepted b q k.right k.counter k.row, rw (d.accepted h, read_passes b q k.right k.counter k.row))

-- ---- what every move keeps

-- what read finds, where a row agrees
reading_alike : (b after : List ℕ) (q : ℕ) → cards after ≡ cards b → ((j : ℕ) → j < cards b → entry_of (cards b) after q j ≡ entry_of (cards b) b q j)
    → reading after q ≡ reading b q
unfolding reading read_value read_holders bits shown
reading_alike b after q c e =
    rw c
    (λ i. record {
      number = 0;
      value = sum_cong (cards b) _ _ (λ j l. ap (λ (x : Entry). x.p - x.n) (e j l)) i;
      holders = sum_cong (cards b) _ _ (λ j l. ap (λ (x : Entry). cond (present x) (2 ^ j) 0) (e j l)) i;
      holder_count = count_cong (cards b) _ _ (λ j l. ap (λ (x : Entry). present x) (e j l)) i;
    })

module _ (b : List ℕ) (q s : ℕ) (m : Message) (after : List ℕ) (k : Move b q s m after) where
  pub move_keeps : Keeps b after
  move_keeps = record {
    right_kept = λ _. right_from after (right_kept b s m after k.performed k.before);
    rows_kept = λ q' l h. row_from after q' (row_kept b s m after k.performed k.before k.sender k.more k.fits q' l (row_facts b q' h));
  }

  pub move_moves : OnlyMoves b s m after
  move_moves = only_moves b s m after k.sender (rw k.counter k.below) k.performed

  pub move_isolates : Isolates b q after
  unfolding read_on
  move_isolates = record {
    rows_stay = stay;
    bits_stay = λ q' d. move_moves.other_bits q' (λ e. d (e ∙ k.counter));
    reads_stay = λ q' l d h.
        rw (right_from b k.before, move_keeps.right_kept (right_from b k.before), same_counters b after k.performed.same_head, lt-ltb q' (counters b) l, h, move_keeps.rows_kept q' l h)
        (reading_alike b after q' (same_cards b after k.performed.same_head) (λ j y. stay q' j l y d));
  }
    where
      stay : (q' j : ℕ) → q' < counters b → j < cards b → q' ≢ q → entry_of (cards b) after q' j ≡ entry_of (cards b) b q' j
      stay q' j x y d = move_moves.other_rows q' j x y (λ e. d (e ∙ k.counter))

-- ---- what a refusal keeps: the words are the same

pub unmoved_keeps : (b : List ℕ) → Keeps b b
unmoved_keeps b = record { right_kept = λ h. h; rows_kept = λ q l h. h }

pub unmoved_isolates : (b : List ℕ) (q : ℕ) → Isolates b q b
unmoved_isolates b q = record { rows_stay = λ q' j l y d. refl; bits_stay = λ q' d. refl; reads_stay = λ q' l d h. refl }
