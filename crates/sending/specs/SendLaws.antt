-- LAWS. What the calls that make a message share: the checks before a message is made, as one number, the outcome of a message that is made, whatever it says, and its header;
-- and what a clear sends.
use Rattle.std.specs.Prelude.{ℕ, ◌≤◌, ◌<◌, ◌≡◌, ◌≢◌, refl, Bool, false, List, [], ◌∷◌, length, leb}
use Rattle.std.proofs.Common.{sym, ◌∙◌, length-append, le-leb, ne_eqb}
use Rattle.std.proofs.Math.Path.{ap}
use Rattle.std.proofs.Math.Bool.{true}
use Rattle.std.proofs.lemmas.List.Edits.{sets}
use Rattle.std.proofs.lemmas.Bool.{lt-leb}
use Rattle.protocol.specs.Limits.{most_amount, bad_row, short_output, bad_amount}
use Rattle.protocol.specs.Refusals.{number_of}
use Rattle.protocol.specs.declared.Refusal.{Refusal}
use Rattle.protocol.specs.Checks.{Check, or_else, checked, first_failing}
use Rattle.protocol.proofs.ChecksLaws.{first_refuses, first_passes, all_accepts, checked_append}
use Rattle.protocol.specs.Chassis.{Message, clearing, clear_message, present_entries}
use Rattle.protocol.proofs.StoreLaws.{shown}
use Rattle.protocol.proofs.StoredLists.{sets_append}
use Rattle.wire.specs.Number.{unsigned_int, unsigned_hyper}
use Rattle.wire.specs.NumberLaws.{length_bytes_of}
use Rattle.wire.specs.Message.{version_2, kind_at, sender_at, sequence_at, counter_at, header_bytes_of}
use Rattle.replica_model.specs.Layout.{cards, own_card, C_of, N_of, entry_of}
use Rattle.replica_model.specs.Format.{format_2, size_of}
use Rattle.replica_model.specs.Calls.{SendOutcome, is_amount, row_well_formed, left_checks, making_checks, not_sent, sent_with, send_with, clear_of, clear_on, with_value, with_value_read, read_and_clear_on}
use Rattle.replica_model.proofs.Senders.{Sending}
use Rattle.replica_model.proofs.AcceptedCalls.{sending_facts}
use Rattle.replica_model.proofs.RowLaws.{tests}
use Rattle.layout.specs.WordsLaws.{RowInside, counter_checks, counter_refused, counter_passed}
use Rattle.layout.specs.Effects.{Receives}

-- ---- the checks before a message is made, and the one behind

pub amount_range : (w : ℕ) → is_amount w ≡ true → (1 ≤ w) × (w ≤ most_amount)
amount_range w h = simp tests at h

-- "2, 4": of a card that counts w more
abbrev pub row_checks : List ℕ → ℕ → ℕ → List Check
row_checks b q w = or_else (row_well_formed b q) bad_row ∷ left_checks (N_of (cards b) b (own_card b)) (C_of b (own_card b)) w

-- what is left of the call where those before have passed: "5", and the message m is sent
abbrev room_check : List ℕ → Message → List Check
room_check out m = or_else (leb (size_of m) (length out)) short_output ∷ []

abbrev pub with_room : List ℕ → List ℕ → Message → SendOutcome
with_room b out m = checked (λ n. not_sent n b out) (room_check out m) (sent_with format_2 b out m)

module _ (b : List ℕ) (q : ℕ) (asked : Bool) (w : ℕ) where
  abbrev before : List Check
  before = making_checks b q asked w

  -- behind the first two
  abbrev behind : List Check
  behind = or_else asked bad_amount ∷ row_checks b q w

  -- the number that they give is that of the first two, or else 16, or else the row's
  pub counter_found : (x : Refusal) → number_of x ≡ first_failing (counter_checks b q) → number_of x ≡ first_failing before
  counter_found = counter_refused b q (λ n. n) behind 0

  module _ (r p : ℕ) (row : RowInside b r p × (p ≡ q)) where
    decided : first_failing behind ≡ first_failing before
    decided = counter_passed b q (λ n. n) behind 0 r (rw row.1 at row.0)

    pub amount_found : asked ≡ false → bad_amount ≡ first_failing before
    amount_found out = rw (← decided, out)

    pub row_found : asked ≡ true → (n : ℕ) → n ≡ first_failing (row_checks b p w) → n ≡ first_failing before
    row_found inside n found = rw (← decided, inside) (rw row.1 at found)

  pub sends : 0 ≡ first_failing before → Sending b q w × (asked ≡ true)
  sends none = sending_facts b q asked w (first_passes before refl (sym none))

  module _ (out : List ℕ) (m : Message) where
    parts : send_with format_2 b q asked w out m ≡ checked (λ n. not_sent n b out) before (with_room b out m)
    unfolding send_with
    parts = checked_append (λ n. not_sent n b out) before (room_check out m) (sent_with format_2 b out m)

    pub send_refused : (n : ℕ) → n ≢ 0 → n ≡ first_failing before → not_sent n b out ≡ send_with format_2 b q asked w out m
    send_refused n some found = rw found (first_refuses (λ x. not_sent x b out) (with_room b out m) before (λ none. some (found ∙ none)) ∙ sym parts)

    pub send_passed : 0 ≡ first_failing before → with_room b out m ≡ send_with format_2 b q asked w out m
    send_passed none = sym (parts ∙ all_accepts (λ n. not_sent n b out) (with_room b out m) before (first_passes before refl (sym none)))

-- ---- a clear with the value read before it

module _ (b : List ℕ) (q : ℕ) (out : List ℕ) where
  abbrev before_clear : List Check
  before_clear = making_checks b q true 0

  pub read_and_clear_refused : (n : ℕ) → n ≢ 0 → n ≡ first_failing before_clear → with_value 0 (not_sent n b out) ≡ read_and_clear_on b q out
  unfolding read_and_clear_on clear_on
  read_and_clear_refused n some found = rw (ne_eqb n 0 some) at (ap (with_value_read b q) (send_refused b q true 0 out (clear_of b q) n some found))

  pub read_and_clear_passed : 0 ≡ first_failing before_clear → with_value_read b q (with_room b out (clear_of b q)) ≡ read_and_clear_on b q out
  unfolding read_and_clear_on clear_on
  read_and_clear_passed none = ap (with_value_read b q) (send_passed b q true 0 out (clear_of b q) none)

module _ (b : List ℕ) (r q w : ℕ) (first : r ≡ cards b) (h : Sending b q w) where
  pub row_inside : RowInside b r q
  row_inside = record { right = h.right; first = first; counter = h.counter }

  pub own_below : own_card b < r
  own_below = rw first h.right.own

  pub sends_receives : Receives b r q (own_card b)
  sends_receives = record { row = row_inside; card = own_below }

-- ---- the outcome, from what the code found and made

module _ (b out : List ℕ) (m : Message) where
  pub too_short : length out < size_of m → not_sent short_output b out ≡ with_room b out m
  too_short l = rw (lt-leb (size_of m) (length out) l)

  pub has_room : size_of m ≤ length out → sent_with format_2 b out m ≡ with_room b out m
  has_room l = rw (le-leb (size_of m) (length out) l)

-- ---- the header: five stores side by side

pub header_written : (kind sender sequence counter : ℕ) (out o₁ o₂ o₃ o₄ o₅ : List ℕ) → o₁ ≡ sets out 0 (unsigned_int version_2) → o₂ ≡ sets o₁ kind_at (unsigned_int kind)
    → o₃ ≡ sets o₂ sender_at (unsigned_int sender) → o₄ ≡ sets o₃ sequence_at (unsigned_hyper sequence) → o₅ ≡ sets o₄ counter_at (unsigned_int counter)
    → o₅ ≡ sets out 0 (header_bytes_of version_2 kind sender sequence counter)
header_written kind sender sequence counter out o₁ o₂ o₃ o₄ o₅ one two three four five =
    five ∙ rw (four, three, two, one) (simp (sets_append, length-append, length_bytes_of))

-- ---- what clear sends

-- "send every present entry's (j, p, c)"
pub clear_made : (b : List ℕ) (q r : ℕ) → r ≡ cards b → clearing q (present_entries r (entry_of r b q)) ≡ clear_of b q
unfolding clear_message shown
clear_made b q r first = rw first
