-- LAWS. The order of a sender's messages: after a message is taken its checks before the sequence still pass and N stands at its sequence, so the same bytes again give 8.
use Rattle.std.specs.Prelude.{ℕ, ◌+◌, ◌≤◌, ◌<◌, ◌≡◌, List, [], ◌∷◌, ◌++◌, leb, ltb}
use native.Mathlib.Omega.{arith}
use Rattle.std.proofs.Common.{lt-ltb, le-ltb}
use Rattle.std.proofs.lemmas.Bool.{lt-leb}
use Rattle.protocol.specs.Limits.{repeated, early, implausible, bad_replica, unreadable}
use Rattle.protocol.specs.Checks.{Check, or_else}
use Rattle.protocol.proofs.ChecksLaws.{all_append, refused_at}
use Rattle.protocol.specs.Acceptance.{cards_known, plausible}
use Rattle.protocol.specs.Chassis.{counter_of}
use Rattle.wire.specs.Message.{version_2, message_at, reads}
use Rattle.replica_model.specs.Layout.{cards, own_card, C_of, N_of}
use Rattle.replica_model.proofs.LayoutLaws.{same_cards, same_counters, same_own}
use Rattle.replica_model.specs.Format.{content, received_of, format_2}
use Rattle.replica_model.specs.Calls.{right, address_checks, not_taken, taken_with, take_with, take_on}
use Rattle.replica_model.specs.ClaimTerms.{Addressed}
use Rattle.replica_model.proofs.CallsLaws.{take_decided}
use Rattle.replica_model.proofs.Receivers.{taking_facts, take_passes, content_counter}
use Rattle.replica_model.proofs.AcceptedCalls.{take_move, move_keeps, move_moves}

module _ (b bytes : List ℕ) where
  -- before the sequence is looked at
  abbrev first_checks : List Check
  first_checks = or_else (right b) bad_replica ∷ or_else (reads version_2 bytes) unreadable ∷ address_checks b (received_of (message_at version_2 bytes))

  abbrev N : ℕ
  N = N_of (cards b) b (message_at version_2 bytes).sender

  abbrev last_check : Check
  last_check = or_else (plausible (C_of b) (own_card b) (message_at version_2 bytes).sender (content (message_at version_2 bytes))) implausible

  pub old_refused : Addressed b bytes → (message_at version_2 bytes).sequence ≤ N → take_on b bytes ≡ not_taken repeated b
  unfolding take_with
  old_refused a l =
      refused_at (λ n. not_taken n b) (taken_with b (received_of (message_at version_2 bytes))) first_checks (or_else (ltb N (message_at version_2 bytes).sequence) repeated)
      (or_else (leb (message_at version_2 bytes).sequence (N + 1)) early ∷ last_check ∷ []) a (le-ltb _ _ l)

  pub early_refused : Addressed b bytes → N + 1 < (message_at version_2 bytes).sequence → take_on b bytes ≡ not_taken early b
  unfolding take_with
  early_refused a l =
      let next : Check = or_else (ltb N (message_at version_2 bytes).sequence) repeated in
      let above : N < (message_at version_2 bytes).sequence = omega arith in
      refused_at (λ n. not_taken n b) (taken_with b (received_of (message_at version_2 bytes))) (first_checks ++ (next ∷ [])) (or_else (leb (message_at version_2 bytes).sequence (N + 1)) early)
      (last_check ∷ []) (all_append first_checks (next ∷ []) a (lt-ltb _ _ above, tt)) (lt-leb _ _ l)

module _ (b bytes : List ℕ) (h : (take_on b bytes).answer.number ≡ 0) where
  still_addressed : Addressed (take_on b bytes).words bytes
  unfolding cards_known
  still_addressed =
      let (h₁, (h₆, (h₃, (h₂, (h₇, _))))) = take_passes b bytes (((take_decided format_2 b bytes).exact 0).0 h) in
      let k = take_move b bytes h in
      let w = move_keeps b _ _ _ _ k in
      let same = k.performed.same_head in
      let same_counter = content_counter (message_at version_2 bytes) in (
        w.right_kept h₁,
        (h₆, (rw (same_counters b _ same) h₃, (w.rows_kept (counter_of (content (message_at version_2 bytes))) (rw same_counter k.below) h₂, (rw (same_cards b _ same, same_own b _ same) h₇, tt)))),
      )

  pub again_refused : take_on (take_on b bytes).words bytes ≡ not_taken repeated (take_on b bytes).words
  again_refused =
      let k = take_move b bytes h in
      let rises = (move_moves b _ _ _ _ k).N_rises in
      let next = (taking_facts b bytes (take_passes b bytes (((take_decided format_2 b bytes).exact 0).0 h))).next in
      old_refused (take_on b bytes).words bytes still_addressed (rw (same_cards b _ k.performed.same_head) (omega arith))
