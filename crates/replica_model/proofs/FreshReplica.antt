-- LAWS. A fresh replica: all its C, N and entries are 0. So it is right and well-formed in every row, and every call has something that it accepts.
use Rattle.std.specs.Prelude.{ℕ, ◌+◌, ◌≤◌, ◌<◌, ◌≡◌, ◌≢◌, List, Bool, ◌&&◌, length}
use Rattle.std.proofs.Math.Path.{refl, ap}
use Rattle.std.proofs.Common.{sym, ◌∙◌, arith}
use Rattle.std.proofs.Math.Bool.{true, not}
use Rattle.std.proofs.Math.Dec.{leb, ltb, eqb}
use borrow.Author.Tests.{lt-ltb, le-leb, ne_eqb}
use Rattle.protocol.proofs.BitLaws.{any_none}
use Rattle.protocol.specs.Entry.{present}
use Rattle.protocol.specs.Acceptance.{all_entries, cards_known, increment_plausible, plausible}
use Rattle.protocol.specs.Checks.{Gives}
use Rattle.protocol.specs.Limits.{MAX, most_amount}
use Rattle.protocol.proofs.ChecksLaws.{passes_gives}
use Rattle.protocol.proofs.AcceptanceLaws.{row_alike, count_none}
use Rattle.wire.specs.Message.{version_2, increment_message, message_bytes, increment_length, clear_length}
use Rattle.wire.specs.Bounds.{increment_in_range_from, increment_entries}
use Rattle.wire.specs.RoundTrips.{message_read, read_as}
use Rattle.replica_model.specs.Layout.{replica_length, C_of, N_of, fresh_words}
use Rattle.replica_model.proofs.LayoutLaws.{fresh_shows, fresh_bit}
use Rattle.replica_model.specs.Calls.{sizes_in_range, right, row_well_formed, open_on, read_on, count_on, clear_on, take_on, is_amount, send_checks, holders, replica_fits}
use Rattle.replica_model.specs.ClaimTerms.{Right, RowOf, Sizes}
use Rattle.replica_model.proofs.RowLaws.{right_from, row_from, tests}
use Rattle.replica_model.specs.Format.{content, format_2}
use Rattle.replica_model.proofs.CallsLaws.{open_decided, read_accepted, count_decided, clear_decided, take_decided}

pub fresh_right : (r k own : ℕ) → Sizes r k → own < r → Right (fresh_words r k own)
unfolding fresh_words
fresh_right r k own s o = record { sizes = s; own = o; fits = (fresh_shows r k own).fits.long; low = (fresh_shows r k own).fits.low }

pub fresh_row : (r k own q : ℕ) → own < r → q < k → RowOf (fresh_words r k own) q
unfolding fresh_words
fresh_row r k own q ho hq = record {
  tables =
      row_alike r own _ _ _ _ _ _ ho (fresh_shows r k own).Cs (fresh_shows r k own).Ns (λ j l. (fresh_shows r k own).entries q j hq l)
      (omega arith);
  marked = fresh_bit r k own q ∙ sym ((any_none r _).1 (λ j l. ap present ((fresh_shows r k own).entries q j hq l)));
}

-- ---- what each call accepts

pub sizes_opened : (b : List ℕ) (r k own : ℕ) → Sizes r k → own < r → length b ≡ replica_length r k → (open_on b r k own).number ≡ 0
unfolding replica_fits sizes_in_range
sizes_opened b r k own s o h = ((open_decided b r k own).exact 0).1 (simp tests (omega arith), refl)

module _ (r k own q : ℕ) (s : Sizes r k) (o : own < r) (hq : q < k) where
  abbrev b : List ℕ
  b = fresh_words r k own

  is_right : right b ≡ true
  is_right = right_from b (fresh_right r k own s o)

  is_well_formed : row_well_formed b q ≡ true
  is_well_formed = row_from b q (fresh_row r k own q o hq)

  sends : (asked : Bool) (w : ℕ) (out : List ℕ) (size : ℕ) → asked ≡ true → w ≤ MAX → size ≤ length out → Gives (send_checks b q asked w out size) 0
  unfolding fresh_words
  sends asked w out size h few l =
      let zero_N : N_of r b own ≡ 0 = (fresh_shows r k own).Ns own o in
      let zero_C : C_of b own ≡ 0 = (fresh_shows r k own).Cs own o in
      let left : not (eqb (N_of r b own) MAX) && leb (C_of b own + w) MAX ≡ true = rw (zero_N, zero_C) (le-leb (0 + w) MAX (omega arith)) in
      passes_gives (send_checks b q asked w out size) refl (is_right, (lt-ltb q k hq, (h, (is_well_formed, (left, (le-leb size (length out) l, tt))))))

  pub fresh_read : (read_on b q).number ≡ 0
  unfolding fresh_words
  fresh_read = read_accepted b q (fresh_right r k own s o) hq (fresh_row r k own q o hq)

  none : holders b q ≡ 0
  unfolding fresh_words
  none = count_none r _ (λ j l. ap present ((fresh_shows r k own).entries q j hq l))

  pub fresh_clear : (out : List ℕ) → clear_length 0 ≤ length out → (clear_on b q out).answer.number ≡ 0
  fresh_clear out l = ((clear_decided b q out).exact 0).1 (sends true 0 out _ refl (omega arith) (let z = none in omega arith))

module _ (r k own q w : ℕ) (s : Sizes r k) (o : own < r) (hq : q < k) (some : 1 ≤ w) (few : w ≤ most_amount) where
  pub fresh_count : (out : List ℕ) → increment_length version_2 ≤ length out → (count_on (fresh_words r k own) q w out).answer.number ≡ 0
  fresh_count out l =
      ((count_decided (fresh_words r k own) q w out).exact 0).1 (sends r k own q s o hq (is_amount w) w out (increment_length version_2) (simp tests (some, few)) (omega arith) l)

  -- another card's first increment
  pub fresh_take : (j : ℕ) → j < r → j ≢ own → (take_on (fresh_words r k own) (message_bytes (increment_message version_2 j 1 q w 1 w))).answer.number ≡ 0
  unfolding fresh_words increment_message content cards_known plausible increment_plausible all_entries
  fresh_take j hj other =
      let b = fresh_words r k own in
      let m = increment_message version_2 j 1 q w 1 w in
      let few_cards = s.few_cards in
      let few_counters = s.few_counters in
      let (h, same) = read_as (message_bytes m) m (message_read m (increment_entries version_2 j 1 q w 1 w) (increment_in_range_from version_2 j 1 q w 1 w (omega arith) (omega arith))) in
      let n : N_of r b j ≡ 0 = (fresh_shows r k own).Ns j hj in
      let c : C_of b j ≡ 0 = (fresh_shows r k own).Cs j hj in
      let known : ltb j r && not (eqb j own) && true ≡ true = rw (lt-ltb j r hj, ne_eqb j own other) in
      let next : ltb (N_of r b j) 1 ≡ true = lt-ltb (N_of r b j) 1 (omega arith) in
      let soon : leb 1 (N_of r b j + 1) ≡ true = le-leb 1 (N_of r b j + 1) (omega arith) in
      let near : eqb w (C_of b j + w) && leb (C_of b j + w) MAX ≡ true = simp tests (omega arith) in
      ((take_decided format_2 b (message_bytes m)).exact 0).1
      (rw same (is_right r k own q s o hq, (h, (lt-ltb q k hq, (is_well_formed r k own q s o hq, (known, (next, (soon, (near, refl)))))))))
