-- LAWS. When bytes read in a version, case by case: by the length, the version, the kind and the ranges; and the message that a longer list starts with.
use Rattle.std.specs.Prelude.{◌≡◌, ℕ, ◌<◌, ◌≤◌, Bool, true, false, ◌&&◌, List, length, take, Option, ◌==◌, ◌≢◌, nat_le, refl}
use Rattle.std.specs.Bool.{then_some}
use Rattle.std.proofs.Common.{sym, ◌∙◌, arith}
use Rattle.std.proofs.Math.Bool.{and_assoc, and-true, and-false}
use borrow.Author.Tests.{eq-eqb, ne_eqb, le-leb, lt-leb}
use Rattle.protocol.specs.Limits.{most_cards, most_amount, unreadable}
use Rattle.protocol.proofs.Cases.{by_test, by_place}
use Rattle.wire.specs.Number.{int_at, hyper_at}
use Rattle.wire.specs.Message.{Message, Reading, is_version, has_amount, increment_kind, clear_kind, shortest_message, increment_length, clear_length, kind_at, sender_at, sequence_at, counter_at, p_at, start_at, amount_at, count_at, first_entry_at, from_one_to, header_in_range, increment_in_range, amount_in_range, entries_in_range, entries_at, amount_in, increment_message, clear_message, in_range, called_length, message_at, reads, read_declined, read_message, front_length}
use Rattle.wire.specs.Told.{unless_0}
use Rattle.wire.specs.EntriesLaws.{length_entries_at}
use Rattle.wire.specs.Bounds.{increment_range, clear_range}

-- ---- reading

abbrev pub accepted : Message → Reading
accepted m = record { number = 0; message = m }

-- in the version that the bytes name
module _ (version : ℕ) (s : List ℕ) (named : version ≡ int_at s 0) where
  pub read_yes : reads version s ≡ true → accepted (message_at version s) ≡ read_message s
  unfolding read_message
  read_yes h = rw (← named, h)

  pub read_no : reads version s ≡ false → read_declined unreadable ≡ read_message s
  unfolding read_message
  read_no h = rw (← named, h)

pub called_length_least : (version : ℕ) (s : List ℕ) → shortest_message ≤ called_length version s
unfolding called_length
called_length_least version s =
    by_place (int_at s kind_at) clear_kind
    (λ e. rw (eq-eqb (int_at s kind_at) clear_kind e) (omega arith))
    (λ d. rw (ne_eqb (int_at s kind_at) clear_kind d) (omega arith))

-- the tests of a clear in the order of the code
and_middle : (a b c d : Bool) → a && (b && c && d) ≡ c && a && (b && d)
and_middle true true true d = refl
and_middle true true false d = refl
and_middle true false true d = refl
and_middle true false false d = refl
and_middle false b true d = refl
and_middle false b false d = refl

module _ (version : ℕ) (s : List ℕ) where
  pub reads_short : length s < shortest_message → false ≡ reads version s
  unfolding reads
  reads_short short =
      let other : length s ≡ called_length version s → ⊥ = λ e. omega (arith, called_length_least version s) in
      simp (ne_eqb (length s) (called_length version s) other, and-false)

  pub reads_other_version : (int_at s 0 ≢ version) → false ≡ reads version s
  unfolding reads
  reads_other_version other = rw (ne_eqb (int_at s 0) version other)

  pub reads_no_version : is_version version ≡ false → false ≡ reads version s
  unfolding reads message_at increment_message clear_message in_range header_in_range
  reads_no_version none = by_test (int_at s kind_at == clear_kind) (λ t. simp (t, none, and-false)) (λ f. simp (f, none, and-false))

  pub reads_other_kind : (int_at s kind_at ≢ increment_kind) → (int_at s kind_at ≢ clear_kind) → false ≡ reads version s
  unfolding reads
  reads_other_kind no_increment no_clear = simp (ne_eqb (int_at s kind_at) increment_kind no_increment, ne_eqb (int_at s kind_at) clear_kind no_clear, and-false)

-- the ranges of a header, of an increment's numbers and of n entries that stand in the bytes
abbrev pub header_fits : ℕ → List ℕ → Bool
header_fits version s = header_in_range version (int_at s sender_at) (hyper_at s sequence_at) (int_at s counter_at)

abbrev pub increment_fits : List ℕ → Bool
increment_fits s = increment_in_range (hyper_at s p_at) (int_at s start_at)

abbrev pub amount_fits : ℕ → List ℕ → Bool
amount_fits version s = amount_in_range version (amount_in version s amount_at)

abbrev pub entries_fit : List ℕ → ℕ → Bool
entries_fit s n = entries_in_range 0 (entries_at n s first_entry_at)

-- bytes of an increment's version and kind: the length, then the ranges
module _ (version : ℕ) (s : List ℕ) (same : int_at s 0 ≡ version) (kind : int_at s kind_at ≡ increment_kind) where
  reads_increment : reads version s ≡ (length s == increment_length version) && (header_fits version s && (increment_fits s && amount_fits version s))
  unfolding reads called_length message_at
  reads_increment =
      rw (
        eq-eqb (int_at s 0) version same,
        kind,
        increment_range version (int_at s sender_at) (hyper_at s sequence_at) (int_at s counter_at) (hyper_at s p_at) (int_at s start_at) (amount_in version s amount_at),
      )

  pub reads_increment_inexact : (length s ≢ increment_length version) → false ≡ reads version s
  reads_increment_inexact other = sym (reads_increment ∙ rw (ne_eqb (length s) (increment_length version) other))

  module _ (exact : length s ≡ increment_length version) where
    reads_increment_whole : reads version s ≡ header_fits version s && increment_fits s && amount_fits version s
    reads_increment_whole =
        reads_increment ∙ rw (eq-eqb (length s) (increment_length version) exact) (sym (and_assoc (header_fits version s) (increment_fits s) (amount_fits version s)))

    -- by the version: with its amount, and without
    pub reads_with_amount : has_amount version ≡ true → reads version s ≡ header_fits version s && increment_fits s && from_one_to most_amount (int_at s amount_at)
    unfolding amount_in_range
    reads_with_amount has = reads_increment_whole ∙ rw has

    pub reads_without_amount : has_amount version ≡ false → reads version s ≡ header_fits version s && increment_fits s
    unfolding amount_in_range
    reads_without_amount none = reads_increment_whole ∙ rw none (and-true (header_fits version s && increment_fits s))

    pub reads_increment_unfit : increment_fits s ≡ false → false ≡ reads version s
    reads_increment_unfit fails = sym (reads_increment ∙ rw (fails, and-false (header_fits version s), and-false (length s == increment_length version)))

    module _ (fits : increment_fits s ≡ true) where
      reads_increment_exact : reads version s ≡ header_fits version s && amount_fits version s
      reads_increment_exact = reads_increment ∙ rw (eq-eqb (length s) (increment_length version) exact, fits)

      pub reads_increment_counted : has_amount version ≡ true → reads version s ≡ header_fits version s && from_one_to most_amount (int_at s amount_at)
      unfolding amount_in_range
      reads_increment_counted has = reads_increment_exact ∙ rw has

-- bytes of a clear's version and kind: the number of entries, the length, then the ranges
module _ (version : ℕ) (s : List ℕ) (same : int_at s 0 ≡ version) (kind : int_at s kind_at ≡ clear_kind) (n : ℕ) (count : n ≡ int_at s count_at) where
  reads_clear : reads version s ≡ nat_le n most_cards && length s == clear_length n && (header_fits version s && entries_fit s n)
  unfolding reads called_length message_at
  reads_clear =
      rw (
        eq-eqb (int_at s 0) version same,
        kind,
        ← count,
        clear_range version (int_at s sender_at) (hyper_at s sequence_at) (int_at s counter_at) (entries_at n s first_entry_at),
        length_entries_at n s first_entry_at,
      )
      (and_middle (length s == clear_length n) (header_fits version s) (nat_le n most_cards) (entries_fit s n))

  pub reads_clear_many : most_cards < n → false ≡ reads version s
  reads_clear_many many = sym (reads_clear ∙ rw (lt-leb n most_cards many))

  pub reads_clear_inexact : (length s ≢ clear_length n) → false ≡ reads version s
  reads_clear_inexact other = sym (reads_clear ∙ rw (ne_eqb (length s) (clear_length n) other, and-false (nat_le n most_cards)))

  pub reads_clear_exact : n ≤ most_cards → length s ≡ clear_length n → reads version s ≡ header_fits version s && entries_fit s n
  reads_clear_exact few exact = reads_clear ∙ rw (le-leb n most_cards few, eq-eqb (length s) (clear_length n) exact)

-- ---- the message that a longer list of bytes starts with

module _ (version : ℕ) (s : List ℕ) (n : ℕ) (called : n ≡ called_length version s) where
  pub front_length_short : length s < n → Option.None ≡ unless_0 (front_length version s)
  unfolding front_length
  front_length_short short = rw (← called, lt-leb n (length s) short)

  -- where it has that length, by whether so many bytes read
  pub front_length_read : n ≤ length s → (found : Bool) → found ≡ reads version (take n s) → then_some found n ≡ unless_0 (front_length version s)
  unfolding front_length
  front_length_read room true h =
      let some : n ≢ 0 = λ e. omega (arith, called_length_least version s) in
      rw (← called, le-leb n (length s) room, ← h, ne_eqb n 0 some)
  front_length_read room false h = rw (← called, le-leb n (length s) room, ← h)
