-- DEFINITIONS. What a card of version 1 does (SPECIFICATION 6.4): its count, its clear and its take, where a count is always by one. The words of a replica, and what
-- a clear sends and does, are as they are in `Layout` and `Calls` of replica_model.
use Rattle.std.specs.Prelude.{ℕ, ◌+◌, ◌-◌, List, [], ◌∷◌, Bool, not, cond, ◌&&◌, ◌||◌, length, take, leb, ltb, eqb}
use Rattle.protocol.specs.Limits.{MAX, bad_replica, bad_row, bad_counter, exhausted, short_output, unreadable, bad_card, repeated, early, implausible}
use Rattle.protocol.specs.Checks.{Check, or_else, checked}
use Rattle.protocol.specs.Functions.{all_below}
use Rattle.protocol.specs.declared.Entry.{Entry}
use Rattle.protocol.specs.Entry.{present, larger, removeIf}
use Rattle.protocol.specs.Chassis.{Message, increment, clearing, counter_of}
use Rattle.protocol.specs.Acceptance.{entry_well_formed, all_entries, cards_known, entry_plausible}
use Rattle.protocol.specs.Store.{cleared_words}
use Rattle.wire.specs.declared.Message as wire
use Rattle.wire.specs.Message as form
use Rattle.wire.specs.Message.{version_1, increment_kind, increment_length, clear_length, message_at, message_bytes, over}
use Rattle.replica_model.specs.Layout.{cards, counters, own_card, C_of, N_of, entry_of, set_C, set_N, set_entry, mark, layout}
use Rattle.replica_model.specs.Format.{Received, Format}
use Rattle.replica_model.specs.Calls.{right, SendOutcome, not_sent, own_message, clear_of, TakeOutcome, not_taken}

-- ---- "Its messages are those of version 1."

-- what a message says: an increment is by one, and no amount of it is written or read
unfoldable pub content : wire.Message → Message
content m =
    cond (eqb m.kind increment_kind) (increment m.counter 1 m.p (eqb m.start 1)) (clearing m.counter (take m.len m.entries))

abbrev pub on_wire : ℕ → ℕ → Message → wire.Message
on_wire sender sequence (increment q w p start) = form.increment_message version_1 sender sequence q p (cond start 1 0) 0
on_wire sender sequence (clearing q es) = form.clear_message version_1 sender sequence q es

abbrev pub received_of : wire.Message → Received
received_of m = record { sender = m.sender; sequence = m.sequence; content = content m }

-- "36 bytes in version 1", "28 + 20e bytes"
abbrev pub size_of : Message → ℕ
size_of (increment q w p start) = increment_length version_1
size_of (clearing q es) = clear_length (length es)

abbrev pub format_1 : Format
format_1 = record {
  reads = form.reads version_1;
  received = λ bytes. received_of (message_at version_1 bytes);
  written = λ m. message_bytes (on_wire m.sender m.sequence m.content);
  size = size_of;
}

-- ---- what it asks

-- "A row is well-formed when all C[j] <= N[j] <= MAX, each entry of the counter is absent or has 1 <= p <= c <= MAX and n <= p, and the card's own entry has c <= its own C."
unfoldable pub row_well_formed : List ℕ → ℕ → Bool
row_well_formed b q =
    all_below (cards b) (λ j. leb (C_of b j) (N_of (cards b) b j) && leb (N_of (cards b) b j) MAX && entry_well_formed (entry_of (cards b) b q j))
    && leb (entry_of (cards b) b q (own_card b)).c (C_of b (own_card b))

-- "an increment with p > C[j] + 1, with start and p other than C[j] + 1, or without start and p = 1"; C is the sender's
unfoldable pub increment_implausible : ℕ → ℕ → Bool → Bool
increment_implausible C p start = ltb (C + 1) p || (start && not (eqb p (C + 1))) || (not start && eqb p 1)

-- "a clear as in 5.1"
unfoldable pub plausible : (ℕ → ℕ) → ℕ → ℕ → Message → Bool
plausible C own sender (increment q w p start) = not (increment_implausible (C sender) p start)
plausible C own sender (clearing q es) = all_entries (entry_plausible C own sender) es

-- ---- what a message does

-- "c = C[j] + 1. With start, or M[j] absent, M[j] becomes max(M[j], (p, p - 1, c)); else max(M[j], (p, 0, c)). If then p = n and M[j].c = c, the entry is
-- removed."; e is M[j], `known` is C[j]
unfoldable pub incremented : ℕ → Bool → ℕ → Entry → Entry
incremented p start known e =
    let e₁ = larger e (record { p = p; n = cond (start || not (present e)) (p - 1) 0; c = known + 1 }) in
    removeIf (eqb e₁.p e₁.n && eqb e₁.c (known + 1)) e₁

-- the words when card s's message has been taken: "C[j] becomes c."; "Each message raises the sender's N by one." A card of version 1 has no word of active
-- counters: "compared with the later words in both", it is worked out from the rows (`mark`), and no check of version 1 looks at a row's bit.
-- (1 is today's, so a bit at k or above is 1 to it too; no run reaches that.)
unfoldable pub words_after : ℕ → Message → List ℕ → List ℕ
words_after s (increment q w p start) b =
    let r = cards b in
    set_N r s (N_of r b s + 1) (set_C s (C_of b s + 1) (mark r q (set_entry r q s (incremented p start (C_of b s) (entry_of r b q s)) b)))
words_after s (clearing q es) b =
    let r = cards b in
    set_N r s (N_of r b s + 1) (mark r q (cleared_words (layout r (counters b)) q es b))

-- ---- count and clear: "1, 3, 2, 4, 5; 4 is own N = MAX"

abbrev pub send_checks : List ℕ → ℕ → List ℕ → ℕ → List Check
send_checks b q out size =
    or_else (right b) bad_replica ∷ or_else (ltb q (counters b)) bad_counter ∷ or_else (row_well_formed b q) bad_row
    ∷ or_else (not (eqb (N_of (cards b) b (own_card b)) MAX)) exhausted ∷ or_else (leb size (length out)) short_output ∷ []

abbrev pub sent : List ℕ → List ℕ → Message → SendOutcome
sent b out m = record {
  answer = record { number = 0; sequence = N_of (cards b) b (own_card b) + 1; length = size_of m };
  words = words_after (own_card b) m b;
  out = over (format_1.written (own_message b m)) out;
}

unfoldable pub send : List ℕ → ℕ → List ℕ → Message → SendOutcome
send b q out m = checked (λ n. not_sent n b out) (send_checks b q out (size_of m)) (sent b out m)

-- "with M[i] absent, send p = C[i] + 1 with start; else p = M[i].p + 1 without."
unfoldable pub count_of : List ℕ → ℕ → Message
count_of b q =
    let own = entry_of (cards b) b q (own_card b) in
    increment q 1 (cond (present own) (own.p + 1) (C_of b (own_card b) + 1)) (not (present own))

abbrev pub count_on : List ℕ → ℕ → List ℕ → SendOutcome
count_on b q out = send b q out (count_of b q)

abbrev pub clear_on : List ℕ → ℕ → List ℕ → SendOutcome
clear_on b q out = send b q out (clear_of b q)

-- ---- take: "1, 6, 3, 2, 7, 8, 9, 10"

abbrev pub take_checks : List ℕ → List ℕ → List Check
take_checks b bytes =
    let m = format_1.received bytes in
    or_else (right b) bad_replica ∷ or_else (format_1.reads bytes) unreadable
    ∷ or_else (ltb (counter_of m.content) (counters b)) bad_counter ∷ or_else (row_well_formed b (counter_of m.content)) bad_row
    ∷ or_else (cards_known (cards b) (own_card b) m.sender m.content) bad_card
    ∷ or_else (ltb (N_of (cards b) b m.sender) m.sequence) repeated ∷ or_else (leb m.sequence (N_of (cards b) b m.sender + 1)) early
    ∷ or_else (plausible (C_of b) (own_card b) m.sender m.content) implausible ∷ []

abbrev pub taken : List ℕ → Received → TakeOutcome
taken b m = record { answer = record { number = 0; sequence = m.sequence }; words = words_after m.sender m.content b }

unfoldable pub take_on : List ℕ → List ℕ → TakeOutcome
take_on b bytes = checked (λ n. not_taken n b) (take_checks b bytes) (taken b (format_1.received bytes))
