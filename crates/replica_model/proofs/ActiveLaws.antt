-- LAWS. Every call of a card keeps its replica right and all its rows well-formed, so in whatever it reaches from a fresh one each bit of the active counters says
-- whether its row has an entry, which is whether a read of it gives holders.
use Rattle.std.specs.Prelude.{ℕ, ◌^◌, ◌≤◌, ◌<◌, ◌≡◌, refl, List, [], ◌∷◌, false, not, eqb, length}
use Rattle.std.proofs.Common.{sym, ap, ◌∙◌, arith, le-ltb, eq-eqb, ne_eqb}
use Rattle.std.proofs.lemmas.Bool.{false≢true}
use Rattle.protocol.proofs.Cases.{by_test, by_place, and_no_right}
use Rattle.protocol.proofs.BitLaws.{bits_are, any_none}
use Rattle.protocol.specs.Functions.{bits}
use Rattle.protocol.proofs.Totals.{bits_zero}
use Rattle.protocol.specs.Checks.{Decided}
use Rattle.protocol.proofs.ChecksLaws.{decided}
use Rattle.protocol.specs.Entry.{present, has_entry}
use Rattle.protocol.specs.Chassis.{Message, read_holders}
use Rattle.protocol.proofs.StoreLaws.{shown}
use Rattle.protocol.specs.declared.Entry.{Entry}
use Rattle.replica_model.specs.Layout.{head_of, cards, counters, own_card, active_word, active_of, entry_of, fresh_words}
use Rattle.replica_model.proofs.LayoutLaws.{same_cards, same_counters, same_own}
use Rattle.replica_model.specs.Format.{format_2}
use Rattle.replica_model.specs.Calls.{right, replica_fits, sizes_in_range, reading, read_on, active_checks, no_active, active_on, open_on, count_on, clear_on, read_and_clear_on, take_on}
use Rattle.replica_model.specs.ClaimTerms.{Sizes, Right, RowOf}
use Rattle.replica_model.proofs.RowLaws.{tests, right_facts, right_from, row_facts, row_from}
use Rattle.replica_model.proofs.CallsLaws.{open_decided, read_passes, count_decided, clear_decided, take_decided}
use Rattle.replica_model.proofs.FreshReplica.{fresh_right, fresh_row}
use Rattle.replica_model.proofs.AcceptedCalls.{Move, count_move, clear_move, take_move, move_keeps}
use Rattle.replica_model.specs.Active.{CardCall, opening, counting, clearing, reading_and_clearing, taking, left_by, after_calls, active_by_reading}

pub active_decided : (b : List ℕ) → Decided (λ o. o.number) no_active (active_checks b) (record { number = 0; counters = active_word b }) (active_on b)
unfolding active_on
active_decided b = decided (λ o. o.number) no_active (λ n. refl) _ refl (active_checks b) refl

-- the sizes and the word say all
pub word_alone : (b b' : List ℕ) → length b' ≡ length b → head_of b' ≡ head_of b → active_word b' ≡ active_word b → active_on b' ≡ active_on b
unfolding active_on right
word_alone b b' long same word = rw (same_cards b b' same, same_counters b b' same, same_own b b' same, long, word)

-- a bit for a counter that is not there
pub high_wrong : (b : List ℕ) → 2 ^ counters b ≤ active_word b → right b ≡ false
unfolding right
high_wrong b high = and_no_right (replica_fits (cards b) (counters b) (own_card b) _) _ (le-ltb (active_word b) (2 ^ counters b) high)

-- ---- one row

-- a row has an entry exactly if the mask of its holders is not 0
holders_some : (r : ℕ) (row : ℕ → Entry) → has_entry r row ≡ not (eqb (bits r (λ j. present (row j))) 0)
holders_some r row =
    by_test (has_entry r row)
    (λ some. some ∙ sym (ap not (ne_eqb _ 0 (λ none. false≢true (sym ((any_none r _).1 ((bits_zero r (λ j. present (row j))).0 none)) ∙ some)))))
    (λ none. none ∙ sym (ap not (eq-eqb _ 0 ((bits_zero r (λ j. present (row j))).1 ((any_none r _).0 none)))))

pub bit_read : (b : List ℕ) (q : ℕ) → Right b → q < counters b → RowOf b q → active_of b q ≡ not (eqb (read_on b q).holders 0)
unfolding reading read_holders shown
bit_read b q f l w = w.marked ∙ holders_some (cards b) (entry_of (cards b) b q) ∙ ap (λ (x : ℕ). not (eqb x 0)) (sym (ap (λ a. a.holders) (read_passes b q f l w)))

-- ---- all rows

pub record Sound (b : List ℕ) : Type 0 where
  pub whole : Right b
  pub rows : (q : ℕ) → q < counters b → RowOf b q

pub sound_read : (b : List ℕ) → Sound b → active_word b ≡ active_by_reading b
unfolding active_by_reading
sound_read b h = bits_are (active_word b) (counters b) _ h.whole.low (λ q l. bit_read b q h.whole l (h.rows q l))

-- so the call answers it
pub sound_answers : (b : List ℕ) → Sound b → active_on b ≡ record { number = 0; counters = active_by_reading b }
sound_answers b h =
    (active_decided b).accepted (((active_decided b).exact 0).1 (right_from b h.whole, refl)) ∙ ap (λ (x : ℕ). record { number = 0; counters = x }) (sound_read b h)

fresh_sound : (r k own : ℕ) → Sizes r k → own < r → Sound (fresh_words r k own)
unfolding fresh_words
fresh_sound r k own s o = record { whole = fresh_right r k own s o; rows = λ q l. fresh_row r k own q o l }

move_sound : (b : List ℕ) (q s : ℕ) (m : Message) (after : List ℕ) → Move b q s m after → Sound b → Sound after
move_sound b q s m after k h =
    let keeps = move_keeps b q s m after k in
    record {
      whole = right_facts after (keeps.right_kept (right_from b h.whole));
      rows = λ q' l.
          let l' : q' < counters b = rw (same_counters b after k.performed.same_head) at l in
          row_facts after q' (keeps.rows_kept q' l' (row_from b q' (h.rows q' l')));
    }

open_sound : (b : List ℕ) (r k own : ℕ) → Sound b → Sound (open_on b r k own).words
unfolding replica_fits sizes_in_range
open_sound b r k own h =
    by_place (open_on b r k own).number 0
    (λ e.
    let d = open_decided b r k own in
    let f = simp tests at ((d.exact 0).0 e).0 in
    rw (d.accepted e) (fresh_sound r k own (omega arith) (omega arith)))
    (λ e. rw ((open_decided b r k own).refused e) h)

clear_sound : (b : List ℕ) (q : ℕ) (out : List ℕ) → Sound b → Sound (clear_on b q out).words
clear_sound b q out h =
    by_place (clear_on b q out).answer.number 0
    (λ e. move_sound b q _ _ _ (clear_move b q out e) h)
    (λ e. rw ((clear_decided b q out).refused e) h)

call_sound : (c : CardCall) (b : List ℕ) → Sound b → Sound (left_by c b)
unfolding read_and_clear_on
call_sound (opening r k own) b h = open_sound b r k own h
call_sound (counting q w out) b h =
    by_place (count_on b q w out).answer.number 0
    (λ e. move_sound b q _ _ _ (count_move b q w out e) h)
    (λ e. rw ((count_decided b q w out).refused e) h)
call_sound (clearing q out) b h = clear_sound b q out h
call_sound (reading_and_clearing q out) b h = clear_sound b q out h
call_sound (taking bytes) b h =
    by_place (take_on b bytes).answer.number 0
    (λ e. move_sound b _ _ _ _ (take_move b bytes e) h)
    (λ e. rw ((take_decided format_2 b bytes).refused e) h)

calls_sound : (cs : List CardCall) (b : List ℕ) → Sound b → Sound (after_calls cs b)
unfolding after_calls
calls_sound [] b h = h
calls_sound (c ∷ cs) b h = calls_sound cs (left_by c b) (call_sound c b h)

pub reached_sound : (r k own : ℕ) → Sizes r k → own < r → (cs : List CardCall) → Sound (after_calls cs (fresh_words r k own))
reached_sound r k own s o cs = calls_sound cs (fresh_words r k own) (fresh_sound r k own s o)
