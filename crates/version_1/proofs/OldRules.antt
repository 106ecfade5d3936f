-- LAWS. What the rules of version 1 say of messages that count by one: their bytes, their effect and what accepts them are those of today.
use Rattle.std.specs.Prelude.{ℕ, ◌+◌, ◌-◌, ◌≤◌, ◌<◌, ◌≡◌, refl, List, Bool, true, false, not, length, replicate}
use Rattle.std.proofs.Common.{ap, ◌∙◌, add-one, arith, le-ltb, eq-eqb, ne_eqb}
use Rattle.std.proofs.Math.Seq.{take-append_seam}
use Rattle.protocol.specs.Limits.{MAX, most_cards}
use Rattle.protocol.proofs.Cases.{by_test}
use Rattle.protocol.specs.Rows.{Plausible, PlausibleIncrement}
use Rattle.protocol.specs.Entry.{present}
use Rattle.protocol.specs.Entry as entry
use Rattle.protocol.specs.Chassis.{Message, increment, clearing, count_message}
use Rattle.protocol.specs.Store.{cleared_words, taken_words, shown}
use Rattle.protocol.specs.Acceptance as acceptance
use Rattle.protocol.proofs.AcceptanceLaws.{tests, tables_from, below_facts, below_from, plausible_from}
use Rattle.wire.specs.Message as form
use Rattle.wire.specs.Message.{version_1, no_entry, message_bytes, message_length}
use Rattle.wire.specs.Claims.{message_bytes_length}
use Rattle.conversion.specs.Conversion.{in_version}
use Rattle.replica_model.specs.Layout.{cards, counters, own_card, C_of, N_of, entry_of, set_C, set_N, set_entry, mark, layout}
use Rattle.replica_model.specs.Format as today_format
use Rattle.replica_model.specs.Calls as today
use Rattle.replica_model.specs.ClaimTerms.{RowOf}
use Rattle.chassis_model.proofs.Numbered.{start_flag}
use Rattle.version_1.specs.Rules as rules
use Rattle.version_1.proofs.Singles.{Single}

-- ---- on the wire

pub on_wire_is : (s n : ℕ) (m : Message) → rules.on_wire s n m ≡ in_version version_1 (today_format.on_wire s n m)
unfolding in_version form.increment_message form.clear_message
on_wire_is s n (increment q w p start) = refl
on_wire_is s n (clearing q es) = refl

pub content_on_wire : (s n : ℕ) (m : Message) → Single m → rules.content (rules.on_wire s n m) ≡ m
unfolding rules.content form.increment_message form.clear_message
content_on_wire s n (increment q w p start) one = rw (one, start_flag start)
content_on_wire s n (clearing q es) one = ap (clearing q) (take-append_seam es (replicate (most_cards - length es) no_entry))

pub on_wire_sender : (s n : ℕ) (m : Message) → (rules.on_wire s n m).sender ≡ s
unfolding form.increment_message form.clear_message
on_wire_sender s n (increment q w p start) = refl
on_wire_sender s n (clearing q es) = refl

pub on_wire_sequence : (s n : ℕ) (m : Message) → (rules.on_wire s n m).sequence ≡ n
unfolding form.increment_message form.clear_message
on_wire_sequence s n (increment q w p start) = refl
on_wire_sequence s n (clearing q es) = refl

on_wire_size : (s n : ℕ) (m : Message) → message_length (rules.on_wire s n m) ≡ rules.size_of m
unfolding form.increment_message form.clear_message
on_wire_size s n (increment q w p start) = refl
on_wire_size s n (clearing q es) = refl

pub on_wire_length : (s n : ℕ) (m : Message) → length (message_bytes (rules.on_wire s n m)) ≡ rules.size_of m
on_wire_length s n m = message_bytes_length (rules.on_wire s n m) ∙ on_wire_size s n m

-- ---- what a message does

pub words_after_is : (s : ℕ) (m : Message) (b : List ℕ) → Single m → rules.words_after s m b ≡ today.words_after s m b
unfolding rules.words_after rules.incremented today.words_after taken_words entry.incremented
words_after_is s (increment q w p start) b one =
    let after : List ℕ = set_C s (C_of b s + 1) (mark (cards b) q (set_entry (cards b) q s (rules.incremented p start (C_of b s) (entry_of (cards b) b q s)) b)) in
    rw one (ap (λ (n : ℕ). set_N (cards b) s n after) (add-one (N_of (cards b) b s)))
words_after_is s (clearing q es) b one =
    ap (λ (n : ℕ). set_N (cards b) s n (mark (cards b) q (cleared_words (layout (cards b) (counters b)) q es b))) (add-one (N_of (cards b) b s))

pub count_of_is : (b : List ℕ) (q : ℕ) → rules.count_of b q ≡ today.count_of b q 1
unfolding rules.count_of count_message shown
count_of_is b q = by_test (present (entry_of (cards b) b q (own_card b))) (λ e. rw e) (λ e. rw e)

-- ---- what it asks

pub row_from_today : (b : List ℕ) (q : ℕ) → RowOf b q → ((j : ℕ) → j < cards b → C_of b j ≤ N_of (cards b) b j) → rules.row_well_formed b q ≡ true
unfolding rules.row_well_formed acceptance.tables_well_formed acceptance.card_well_formed
row_from_today b q row few =
    let h = simp tests at (tables_from (cards b) (own_card b) (C_of b) (N_of (cards b) b) (entry_of (cards b) b q) row.tables) in
    simp tests
    (below_from (cards b) _ (λ j l. let f = simp tests at (below_facts (cards b) _ h.0 j l) in simp tests ((few j l, f.0.1), f.1)), h.1)

increment_from : (C p : ℕ) (start : Bool) → PlausibleIncrement MAX C 1 p start → rules.increment_implausible C p start ≡ false
unfolding rules.increment_implausible
increment_from C p true (is, room) = rw (le-ltb (C + 1) p (omega arith), eq-eqb p (C + 1) is)
increment_from C p false (some, few, room) = rw (le-ltb (C + 1) p few, ne_eqb p 1 (λ e. omega arith))

pub plausible_from_today : (C : ℕ → ℕ) (own sender : ℕ) (m : Message) → Single m → Plausible MAX own sender C m → rules.plausible C own sender m ≡ true
unfolding rules.plausible acceptance.plausible
plausible_from_today C own sender (increment q w p start) one fits = ap not (increment_from (C sender) p start (rw one at fits))
plausible_from_today C own sender (clearing q es) one fits = plausible_from C own sender (clearing q es) fits
