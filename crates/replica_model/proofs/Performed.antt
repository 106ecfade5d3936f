-- LAWS. What a message that is taken leaves in the words: the head stays, and through the accessors it is Algorithm 1's step (`Performed`).
-- From that alone: N rises by one, the other counters' rows stay, a right replica stays right and a well-formed row well-formed.
use Rattle.std.specs.Prelude.{ℕ, ◌<◌, ◌≡◌, refl, ◌≢◌, List, [], ◌∷◌}
use Rattle.std.proofs.Math.Path.{sym, ap}
use Rattle.std.proofs.Common.{◌∙◌, arith}
use Rattle.protocol.specs.Limits.{MAX}
use Rattle.protocol.proofs.Tables.{put_same, put_other, put_same_row, put_other_row}
use Rattle.protocol.specs.declared.Entry.{Entry}
use Rattle.protocol.specs.declared.ClearEntry.{ClearEntry}
use Rattle.protocol.proofs.Cases.{by_place}
use Rattle.protocol.proofs.BitLaws.{any_cong}
use Rattle.protocol.specs.Entry.{present, has_entry}
use Rattle.protocol.specs.Chassis.{Replica, Message, increment, clearing, cleared_row, taken, counter_of}
use Rattle.protocol.specs.Acceptance.{entries_of}
use Rattle.protocol.proofs.AcceptanceLaws.{row_alike}
use Rattle.protocol.proofs.StoreLaws.{Shows, CardsBelow, InLimits, shown, taken_head, taken_shows, taken_marked, taken_active}
use Rattle.replica_model.specs.Layout.{cards, counters, own_card, active_of, C_of, N_of, entry_of, Fits, layout}
use Rattle.replica_model.proofs.LayoutLaws.{lawful, same_cards, same_own}
use Rattle.replica_model.specs.Calls.{state, words_after}
use Rattle.replica_model.specs.ClaimTerms.{Right, MarkedIn, RowOf, Performed, NotAmong, OnlyMoves}
use Rattle.replica_model.proofs.RowLaws.{right_after}
use Rattle.replica_model.proofs.WellFormedKept.{Fitting, taken_kept}

right_fits : (b : List ℕ) → Right b → Fits (cards b) (counters b) b
right_fits b f = record { long = f.fits; low = f.low }

-- the words show their own state
state_shown : (b : List ℕ) → Right b → Shows (layout (cards b) (counters b)) (cards b) (counters b) b (state b)
unfolding shown
state_shown b f = record { fits = right_fits b f; entries = λ q j x y. refl; Cs = λ j y. refl; Ns = λ j y. refl }

limits_below : (r k : ℕ) (m : Message) → InLimits r k m → CardsBelow r (entries_of m)
limits_below r k (increment q w p start) on = tt
limits_below r k (clearing q ts) on = on.1

limits_counter : (r k : ℕ) (m : Message) → InLimits r k m → counter_of m < k
limits_counter r k (increment q w p start) on = on
limits_counter r k (clearing q ts) on = on.0

pub performed : (b : List ℕ) (s : ℕ) (m : Message) → Right b → s < cards b → InLimits (cards b) (counters b) m → Performed b s m (words_after s m b)
unfolding words_after
performed b s m f hs on =
    let law = lawful (cards b) (counters b) in
    record {
      same_head = taken_head (cards b) (counters b) (layout (cards b) (counters b)) law (counter_of m) s m b hs (limits_below (cards b) (counters b) m on);
      shows = taken_shows (cards b) (counters b) (layout (cards b) (counters b)) law s m b (state b) hs on (state_shown b f);
      marked = taken_marked (cards b) (counters b) (layout (cards b) (counters b)) law (counter_of m) s m b hs (limits_counter (cards b) (counters b) m on) (right_fits b f);
      other_bits = taken_active (cards b) (counters b) (layout (cards b) (counters b)) law (counter_of m) s m b (limits_counter (cards b) (counters b) m on) (right_fits b f);
    }

-- ---- what moves and what stays

cleared_row_other : (C : ℕ → ℕ) (ts : List ClearEntry) (row : ℕ → Entry) (j : ℕ) → NotAmong j ts → cleared_row C ts row j ≡ row j
unfolding cleared_row
cleared_row_other C [] row j h = refl
cleared_row_other C (t ∷ ts) row j (d, h) = cleared_row_other C ts _ j h ∙ put_other t.card _ row j d

pub only_moves : (b : List ℕ) (s : ℕ) (m : Message) (after : List ℕ) → s < cards b → counter_of m < counters b → Performed b s m after → OnlyMoves b s m after
unfolding taken shown
only_moves b s (increment q w p start) after hs hq k = record {
  N_rises = k.shows.Ns s hs ∙ rw put_same (omega arith);
  C_rises = k.shows.Cs s hs ∙ rw put_same;
  other_N = λ j l d. k.shows.Ns j l ∙ rw put_other;
  other_C = λ j l d. k.shows.Cs j l ∙ rw put_other;
  other_rows = λ q' j x y d. k.shows.entries q' j x y ∙ rw put_other_row;
  other_entries = λ j l d. k.shows.entries q j hq l ∙ rw (put_same_row, put_other);
  other_bits = k.other_bits;
}
only_moves b s (clearing q ts) after hs hq k = record {
  N_rises = k.shows.Ns s hs ∙ rw put_same (omega arith);
  C_rises = k.shows.Cs s hs ∙ omega arith;
  other_N = λ j l d. k.shows.Ns j l ∙ rw put_other;
  other_C = λ j l d. k.shows.Cs j l;
  other_rows = λ q' j x y d. k.shows.entries q' j x y ∙ rw put_other_row;
  other_entries = λ j l d. k.shows.entries q j hq l ∙ rw put_same_row (cleared_row_other _ ts _ j d);
  other_bits = k.other_bits;
}

taken_row_other : (s : ℕ) (m : Message) (c : Replica) (q j : ℕ) → q ≢ counter_of m → (taken s m c).entry q j ≡ c.entry q j
unfolding taken
taken_row_other s (increment q' w p start) c q j d = put_other_row q' _ c.entry q j d
taken_row_other s (clearing q' ts) c q j d = put_other_row q' _ c.entry q j d

-- ---- right and well-formed

module _ (b : List ℕ) (s : ℕ) (m : Message) (after : List ℕ) (k : Performed b s m after) (f : Right b) where
  pub right_kept : Right after
  right_kept = right_after b after k.same_head k.shows.fits f

  -- the row's bit says whether it has an entry: the message's own, and another one that did
  pub row_marked : s < cards b → (q : ℕ) → q < counters b → MarkedIn b q → active_of after q ≡ has_entry (cards b) (entry_of (cards b) after q)
  unfolding shown
  row_marked hs q hq w =
      by_place q (counter_of m)
      (λ e. rw e k.marked)
      (λ d. k.other_bits q d ∙ w ∙ sym (any_cong (cards b) _ _ (λ j l. ap present (k.shows.entries q j hq l ∙ taken_row_other s m (state b) q j d))))

  -- well-formed rows stay well-formed: the message's own and the others
  pub row_kept : s < cards b → N_of (cards b) b s < MAX → Fitting (cards b) (own_card b) s (C_of b) m → (q : ℕ) → q < counters b → RowOf b q → RowOf after q
  unfolding shown
  row_kept hs few fit q hq w = record {
    tables =
        rw (same_cards b after k.same_head, same_own b after k.same_head)
        (row_alike (cards b) (own_card b) _ _ (C_of after) (N_of (cards b) after) _ (entry_of (cards b) after q) f.own
        k.shows.Cs k.shows.Ns (λ j l. k.shows.entries q j hq l)
        (taken_kept (cards b) (own_card b) s m (state b) f.own hs few fit q w.tables));
    marked = rw (same_cards b after k.same_head) (row_marked hs q hq w.marked);
  }
