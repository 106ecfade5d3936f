-- LAWS. What a card takes: a message that passes every check of take fits the replica (`Fitting`) and is the next one of its sender.
use Rattle.std.specs.Prelude.{ℕ, ◌+◌, ◌≤◌, ◌<◌, ◌≡◌, refl, List, [], ◌∷◌, Bool, true, false, take, ltb, eqb}
use Rattle.std.proofs.Math.Bool.{and-eq-true_iff}
use Rattle.std.proofs.Common.{arith, leb-true, ltb-true}
use Rattle.protocol.specs.Limits.{MAX}
use Rattle.protocol.proofs.Cases.{by_test}
use Rattle.protocol.specs.Checks.{AllPass, Gives}
use Rattle.protocol.proofs.ChecksLaws.{gives_passes}
use Rattle.protocol.specs.declared.ClearEntry.{ClearEntry}
use Rattle.protocol.specs.Chassis.{counter_of}
use Rattle.protocol.specs.Acceptance.{all_entries, cards_known, increment_plausible, entry_plausible, plausible}
use Rattle.protocol.proofs.AcceptanceLaws.{known_sender, increment_facts, own_near}
use Rattle.wire.specs.declared.Message as wire
use Rattle.wire.specs.Message.{version_2, increment_kind, increment_in_range, entry_in_range, entries_in_range, in_range, message_at}
use Rattle.wire.specs.Bounds.{bounds}
use Rattle.wire.specs.RoundTrips.{readable}
use Rattle.replica_model.specs.Layout.{cards, counters, own_card, C_of, N_of}
use Rattle.replica_model.specs.Format.{Received, content, received_of, format_2}
use Rattle.replica_model.specs.Calls.{take_checks}
use Rattle.replica_model.proofs.RowLaws.{right_facts, row_facts, tests}
use Rattle.replica_model.specs.ClaimTerms.{Right, RowOf}
use Rattle.replica_model.proofs.WellFormedKept.{FittingEntries, Fitting}

-- ---- the message

entries_fit : (r own sender : ℕ) (C : ℕ → ℕ) (low : ℕ) (ts : List ClearEntry) → entries_in_range low ts ≡ true → all_entries (λ e. ltb e.card r) ts ≡ true
    → all_entries (entry_plausible C own sender) ts ≡ true → FittingEntries r own C ts
unfolding entries_in_range entry_in_range all_entries
entries_fit r own sender C low [] h k g = tt
entries_fit r own sender C low (t ∷ ts) h k g =
    let h' = simp tests at h in
    let k' = simp tests at k in
    let g' = simp tests at g in
    (record { known = omega arith; some = omega arith; p≤c = omega arith; c≤MAX = omega arith; own≤C = own_near C own sender t g'.0 }, entries_fit r own sender C (t.card + 1) ts h'.1 k'.1 g'.1)

increment_fits : (C w p : ℕ) (start : Bool) → 1 ≤ p → increment_plausible C w p start ≡ true → (1 ≤ p) × (p ≤ C + w) × (C + w ≤ MAX)
increment_fits C w p true some h = let f = increment_facts C w p true h in omega arith
increment_fits C w p false some h = let f = increment_facts C w p false h in omega arith

message_fits : (r own : ℕ) (C : ℕ → ℕ) (m : wire.Message) → in_range m ≡ true → cards_known r own m.sender (content m) ≡ true
    → plausible C own m.sender (content m) ≡ true → Fitting r own m.sender C (content m)
unfolding in_range increment_in_range cards_known plausible content
message_fits r own C m h k g =
    by_test (eqb m.kind increment_kind)
    (λ t. rw t (let i = simp tests at (rw t at h) in increment_fits (C m.sender) m.amount m.p (eqb m.start 1) (omega arith) (rw t at g)))
    (λ t. rw t (entries_fit r own m.sender C 0 (take m.len m.entries) (simp and-eq-true_iff at h).0.1 (simp and-eq-true_iff at (rw t at k)).1 (rw t at g)))

pub content_counter : (m : wire.Message) → counter_of (content m) ≡ m.counter
unfolding content
content_counter m = by_test (eqb m.kind increment_kind) (λ t. rw t) (λ t. rw t)

-- what the checks of take leave
pub record Taking (b : List ℕ) (m : Received) : Type 0 where
  pub right : Right b
  pub counter : counter_of m.content < counters b
  pub row : RowOf b (counter_of m.content)
  pub sender : m.sender < cards b
  pub next : m.sequence ≡ N_of (cards b) b m.sender + 1
  pub more : N_of (cards b) b m.sender < MAX
  pub fits : Fitting (cards b) (own_card b) m.sender (C_of b) m.content

pub taking_facts : (b bytes : List ℕ) → AllPass (take_checks format_2 b bytes) → Taking b (received_of (message_at version_2 bytes))
taking_facts b bytes (h₁, (h₆, (h₃, (h₂, (h₇, (h₈, (h₉, (h₁₀, _)))))))) =
    let m = message_at version_2 bytes in
    let fit = (readable version_2 bytes h₆).fits in
    let N = N_of (cards b) b m.sender in
    let later = ltb-true N m.sequence h₈ in
    let soon = leb-true m.sequence (N + 1) h₉ in
    record {
      right = right_facts b h₁;
      counter = ltb-true (counter_of (content m)) (counters b) h₃;
      row = row_facts b (counter_of (content m)) h₂;
      sender = known_sender (cards b) (own_card b) m.sender (content m) h₇;
      next = omega arith;
      more = omega (arith, (bounds m fit).header.sequence_most);
      fits = message_fits (cards b) (own_card b) (C_of b) m fit h₇ h₁₀;
    }

-- an accepted take has passed them all
pub take_passes : (b bytes : List ℕ) → Gives (take_checks format_2 b bytes) 0 → AllPass (take_checks format_2 b bytes)
take_passes b bytes g = gives_passes (take_checks format_2 b bytes) refl g
