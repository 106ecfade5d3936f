-- LAWS. Bytes by the parts that take.rt reads one after the other: the header, what an increment has behind it, and the length word and the entries of a clear.
-- By them, whether the bytes read in version 2, and the message that they then stand for.
use Rattle.std.specs.Prelude.{ℕ, ◌-◌, ◌≤◌, ◌<◌, ◌≡◌, refl, ◌≢◌, List, true, false, ◌&&◌, eqb, replicate}
use Rattle.std.proofs.Common.{sym, ◌∙◌, arith}
use Rattle.std.proofs.Math.ListN.{length}
use Rattle.std.proofs.Math.Seq.{take-append_seam}
use Rattle.protocol.specs.Limits.{most_cards, most_amount}
use Rattle.protocol.proofs.Cases.{by_test}
use Rattle.protocol.specs.declared.ClearEntry.{ClearEntry}
use Rattle.protocol.specs.Chassis.{increment, clearing}
use Rattle.wire.specs.Number.{int_at}
use Rattle.wire.specs.Message.{version_2, increment_kind, clear_kind, no_entry, entries_at, entries_in_range, from_one_to, increment_in_range, header_length, increment_length, clear_length, increment_message, clear_message, reads, message_at, kind_at}
use Rattle.wire.specs.declared.reader.Header.{Header}
use Rattle.wire.specs.declared.reader.Increment.{Increment}
use Rattle.wire.specs.MessageParts.{header_at, increment_at, behind_increment}
use Rattle.wire.specs.MessageLaws.{reads_other_version, reads_other_kind, reads_increment_inexact, reads_increment_unfit, reads_increment_counted, reads_clear_many, reads_clear_inexact, reads_clear_exact, increment_fits}
use Rattle.wire.specs.MessagePartsLaws.{HeaderRead, header_read, IncrementRead, increment_read}
use Rattle.wire.specs.RangeLaws.{rest_in_range, known_header}
use Rattle.wire.specs.RoundTrips.{read_amount, read_clear, read_increment}
use Rattle.replica_model.specs.Format.{Received, content, received_of}

-- where the entries of a clear begin
abbrev pub entries_from : ℕ
entries_from = clear_length 0

-- the message of a header, an increment's body and its amount, and of a header and entries
abbrev pub increment_from : Header → Increment → ℕ → Received
increment_from h body amount = record { sender = h.sender; sequence = h.sequence; content = increment h.counter amount body.p (eqb body.start 1) }

abbrev pub clear_from : Header → List ClearEntry → Received
clear_from h es = record { sender = h.sender; sequence = h.sequence; content = clearing h.counter es }

module _ (s : List ℕ) (h : Header) (header : h ≡ header_at s 0) where
  front : HeaderRead s h
  front = header_read s h header

  pub other_version : h.version ≢ version_2 → false ≡ reads version_2 s
  other_version d = reads_other_version version_2 s (λ e. d (front.version ∙ e))

  pub other_kind : h.kind ≢ increment_kind → h.kind ≢ clear_kind → false ≡ reads version_2 s
  other_kind d d' = reads_other_kind version_2 s (λ e. d (front.kind ∙ e)) (λ e. d' (front.kind ∙ e))

  named : h.version ≡ version_2 → int_at s 0 ≡ version_2
  named version = sym front.version ∙ version

  -- ---- an increment

  module _ (version : h.version ≡ version_2) (kind : h.kind ≡ increment_kind) where
    is_increment : int_at s kind_at ≡ increment_kind
    is_increment = sym front.kind ∙ kind

    no_clear : int_at s kind_at ≢ clear_kind
    no_clear e = omega (arith, is_increment)

    pub increment_inexact : length s ≢ increment_length version_2 → false ≡ reads version_2 s
    increment_inexact other = reads_increment_inexact version_2 s (named version) is_increment other

    module _ (body : Increment) (stands : body ≡ increment_at s header_length) (amount : ℕ) (counts : amount ≡ int_at s (behind_increment header_length)) where
      back : IncrementRead s body
      back = increment_read s body stands

      pub increment_received : increment_from h body amount ≡ received_of (message_at version_2 s)
      unfolding increment_message content
      increment_received = rw (read_increment version_2 s no_clear, front.sender, front.sequence, front.counter, back.p, back.start, counts)

      -- in range
      pub amount_bounds : reads version_2 s ≡ true → (1 ≤ amount) × (amount ≤ most_amount)
      amount_bounds read = rw counts (read_amount s read no_clear)

      -- the tests in the order of the code
      pub increment_tested : length s ≡ increment_length version_2
          → increment_in_range body.p body.start && rest_in_range h.sender h.sequence h.counter && from_one_to most_amount amount ≡ reads version_2 s
      increment_tested long =
          let known = known_header version_2 h.sender h.sequence h.counter refl in
          rw (known, front.sender, front.sequence, front.counter, back.p, back.start, counts)
          (by_test (increment_fits s)
          (λ t. rw t (sym (reads_increment_counted version_2 s (named version) is_increment long t refl)))
          (λ f. rw f (reads_increment_unfit version_2 s (named version) is_increment long f)))

  -- ---- a clear

  -- its length word is n
  module _ (version : h.version ≡ version_2) (kind : h.kind ≡ clear_kind) (n : ℕ) (count : n ≡ int_at s header_length) where
    is_clear : int_at s kind_at ≡ clear_kind
    is_clear = sym front.kind ∙ kind

    pub clear_many : most_cards < n → false ≡ reads version_2 s
    clear_many many = reads_clear_many version_2 s (named version) is_clear n count many

    pub clear_inexact : length s ≢ clear_length n → false ≡ reads version_2 s
    clear_inexact other = reads_clear_inexact version_2 s (named version) is_clear n count other

    pub clear_tested : n ≤ most_cards → length s ≡ clear_length n
        → rest_in_range h.sender h.sequence h.counter && entries_in_range 0 (entries_at n s entries_from) ≡ reads version_2 s
    clear_tested few long =
        let known = known_header version_2 h.sender h.sequence h.counter refl in
        rw (known, front.sender, front.sequence, front.counter) (sym (reads_clear_exact version_2 s (named version) is_clear n count few long))

    pub clear_received : clear_from h (entries_at n s entries_from) ≡ received_of (message_at version_2 s)
    unfolding clear_message content
    clear_received =
        let es = entries_at n s entries_from in
        rw (read_clear version_2 s is_clear, front.sender, front.sequence, front.counter, ← count)
        (rw (take-append_seam es (replicate (most_cards - length es) no_entry)))
