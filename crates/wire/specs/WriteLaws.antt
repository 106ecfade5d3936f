-- LAWS. The lengths of a message's parts in bytes, and what the stores of a writer leave.
use Rattle.std.specs.Prelude.{◌≡◌, ℕ, ◌<◌, ◌≤◌, true, false, List, ◌++◌, length, ◌≢◌, refl}
use Rattle.std.proofs.Math.Path.{sym}
use Rattle.std.proofs.Common.{◌∙◌, length-append}
use mathlib.Core.List.{append-nil}
use Rattle.std.proofs.Math.Seq.{sets}
use borrow.Author.Tests.{eq-eqb, ne_eqb, le-leb, lt-leb}
use Rattle.protocol.proofs.Cases.{by_test, by_place}
use Rattle.protocol.specs.declared.ClearEntry.{ClearEntry}
use Rattle.protocol.specs.Limits.{short_output, unreadable}
use Rattle.wire.specs.Number.{int_width, unsigned_int, unsigned_hyper}
use Rattle.wire.specs.Message.{Message, WriteOutcome, has_amount, clear_kind, header_length, amount_length, increment_length, clear_length, p_at, start_at, amount_at, count_at, first_entry_at, over, header_bytes_of, header_bytes, amount_bytes, increment_bytes, entries_bytes, clear_bytes, message_bytes, message_length, increment_message, clear_message, in_range, write_declined, write_message}
use Rattle.protocol.proofs.StoredLists.{sets_append, sets_front}
use Rattle.wire.specs.NumberLaws.{length_bytes_of}
use Rattle.wire.specs.EntriesLaws.{length_entries_bytes}

-- ---- lengths

pub length_header_bytes : (m : Message) → length (header_bytes m) ≡ header_length
unfolding header_bytes
length_header_bytes m = simp (length-append, length_bytes_of)

length_amount_bytes : (version amount : ℕ) → length (amount_bytes version amount) ≡ amount_length version
length_amount_bytes version amount = by_test (has_amount version) (λ t. rw t (length_bytes_of int_width amount)) (λ f. rw f)

length_increment_bytes : (m : Message) → length (increment_bytes m) ≡ increment_length m.version
unfolding increment_bytes
length_increment_bytes m = simp (length-append, length_bytes_of, length_header_bytes, length_amount_bytes)

pub length_clear_bytes : (m : Message) → length (clear_bytes m) ≡ clear_length m.len
unfolding clear_bytes
length_clear_bytes m = simp (length-append, length_bytes_of, length_header_bytes, length_entries_bytes)

pub length_message_bytes : (m : Message) → length (message_bytes m) ≡ message_length m
unfolding message_bytes
length_message_bytes m =
    by_place m.kind clear_kind
    (λ e. rw (eq-eqb m.kind clear_kind e) (length_clear_bytes m))
    (λ d. rw (ne_eqb m.kind clear_kind d) (length_increment_bytes m))

pub increment_message_length : (version sender sequence counter p start amount : ℕ) → message_length (increment_message version sender sequence counter p start amount) ≡ increment_length version
unfolding increment_message
increment_message_length version sender sequence counter p start amount = refl

pub clear_message_length : (version sender sequence counter : ℕ) (es : List ClearEntry) → message_length (clear_message version sender sequence counter es) ≡ clear_length (length es)
unfolding clear_message
clear_message_length version sender sequence counter es = refl

-- ---- stores

-- the header with the numbers of an increment after it, the last of them where the version has it
module _ (m : Message) (out first second third : List ℕ) (other : m.kind ≢ clear_kind) (room : increment_length m.version ≤ length out)
    (one : first ≡ sets out 0 (header_bytes m)) (two : second ≡ sets first p_at (unsigned_hyper m.p)) (three : third ≡ sets second start_at (unsigned_int m.start)) where
  abbrev plain : List ℕ
  plain = header_bytes m ++ unsigned_hyper m.p ++ unsigned_int m.start

  plain_length : length plain ≡ amount_at
  plain_length = simp (length-append, length_bytes_of, length_header_bytes)

  plain_stored : third ≡ sets out 0 plain
  plain_stored = three ∙ rw (two, one) (simp (sets_append, length-append, length_bytes_of, length_header_bytes))

  pub increment_stored : has_amount m.version ≡ false → third ≡ over (message_bytes m) out
  unfolding message_bytes increment_bytes
  increment_stored none =
      let fits : length plain ≤ length out = rw plain_length (rw none at room) in
      rw (ne_eqb m.kind clear_kind other, none, append-nil plain) (plain_stored ∙ sets_front plain out fits)

  pub amount_stored : has_amount m.version ≡ true → (last : List ℕ) → last ≡ sets third amount_at (unsigned_int m.amount) → last ≡ over (message_bytes m) out
  unfolding message_bytes increment_bytes
  amount_stored has last four =
      let joined : sets (sets out 0 plain) amount_at (unsigned_int m.amount) ≡ sets out 0 (plain ++ unsigned_int m.amount) = sym (sets_append out 0 plain (unsigned_int m.amount) ∙ rw plain_length) in
      let fits : length (plain ++ unsigned_int m.amount) ≤ length out = rw (length-append plain (unsigned_int m.amount), plain_length, length_bytes_of int_width m.amount) (rw has at room) in
      rw (ne_eqb m.kind clear_kind other, has) (four ∙ rw plain_stored (joined ∙ sets_front (plain ++ unsigned_int m.amount) out fits))

-- the header with a clear's length word and entries after it
pub clear_stored : (m : Message) (out first second last : List ℕ) → m.kind ≡ clear_kind → clear_length m.len ≤ length out
    → first ≡ sets out 0 (header_bytes_of m.version m.kind m.sender m.sequence m.counter)
    → second ≡ sets first count_at (unsigned_int m.len) → last ≡ sets second first_entry_at (entries_bytes m.len m.entries)
    → last ≡ over (message_bytes m) out
unfolding message_bytes clear_bytes header_bytes
clear_stored m out first second last kind room one two three =
    let joined : sets (sets (sets out 0 (header_bytes m)) count_at (unsigned_int m.len)) first_entry_at (entries_bytes m.len m.entries) ≡ sets out 0 (clear_bytes m) = simp (sets_append, length-append, length_bytes_of) in
    rw (eq-eqb m.kind clear_kind kind) (three ∙ rw (two, one) (joined ∙ sets_front (clear_bytes m) out (rw (length_clear_bytes m) room)))

-- ---- the outcome

module _ (m : Message) (out : List ℕ) where
  pub write_unfit : in_range m ≡ false → write_declined unreadable out ≡ write_message m out
  unfolding write_message
  write_unfit fails = rw fails

  pub write_short : (n : ℕ) → n ≡ message_length m → in_range m ≡ true → length out < n → write_declined short_output out ≡ write_message m out
  unfolding write_message
  write_short n long fits short = rw (fits, ← long, lt-leb n (length out) short)

  pub write_done : (n : ℕ) (left : List ℕ) → n ≡ message_length m → in_range m ≡ true → n ≤ length out → left ≡ over (message_bytes m) out
      → ◌≡◌ {A = WriteOutcome} (record { answer = record { number = 0; length = n }; out = left }) (write_message m out)
  unfolding write_message
  write_done n left long fits room stored = rw (fits, ← long, le-leb n (length out) room, stored)
