-- LAWS. From a message to its bytes and back, and from bytes that read in a version to the message and back.
use Rattle.std.specs.Prelude.{◌≡◌, ℕ, zero, suc, ◌+◌, ◌-◌, ◌*◌, ◌^◌, ◌<◌, ◌≤◌, true, ◌&&◌, ◌||◌, ◌≢◌, List, [], ◌++◌, length, take, drop, replicate, ◌==◌, nat_eq, nat_le, slice_index_or}
use Rattle.std.proofs.Math.Path.{refl}
use Rattle.std.proofs.Common.{sym, ap, ◌∙◌, subst, append_assoc, append-nil, add-zero, mul-zero, le_refl, not-suc-le-zero, le_of_suc-le-suc, arith, length-append, take-append-drop, take-suc, take_all, take_at, length-take-le}
use Rattle.std.proofs.Math.Bool.{or-false}
use Rattle.std.proofs.Math.ListN.{get_or-append}
use Rattle.std.proofs.Math.Seq.{take-append_seam}
use borrow.Author.Tests.{eq-eqb, ne_eqb, le-leb, lt-leb, eqb-true}
use Rattle.protocol.specs.Limits.{most_cards, most_amount, unreadable}
use Rattle.protocol.specs.declared.ClearEntry.{ClearEntry}
use Rattle.protocol.proofs.Cases.{by_le, by_place, by_test}
use Rattle.protocol.proofs.Tests.{tests}
use Rattle.wire.specs.Number.{int_width, hyper_width, Bytes, number_at, bytes_of, int_at, hyper_at, unsigned_int, unsigned_hyper}
use Rattle.wire.specs.Message.{Message, Reading, version_2, has_amount, increment_kind, clear_kind, header_length, increment_body_length, increment_length, entry_length, clear_length, shortest_message, kind_at, sender_at, sequence_at, counter_at, p_at, start_at, amount_at, count_at, first_entry_at, entry_p_at, entry_c_at, no_entry, header_bytes, amount_bytes, increment_bytes, entry_bytes, entries_bytes, clear_bytes, message_bytes, message_length, increment_message, clear_message, entries_in_range, in_range, entry_at, entries_at, amount_in, increment_in, clear_in, called_length, message_at, reads, version_in, read_message, front_length}
use Rattle.protocol.proofs.StoredLists.{parts_join}
use Rattle.wire.specs.NumberLaws.{length_bytes_of, number_at_left, number_at_right, number_at_bytes_of, bytes_of_number_at, number_joined}
use Rattle.wire.specs.EntriesLaws.{entries_at_more, length_entries_at, length_entries_bytes}
use Rattle.wire.specs.WriteLaws.{length_header_bytes, length_clear_bytes, length_message_bytes}
use Rattle.wire.specs.Bounds.{HeaderBounds, IncrementBounds, EntryBounds, entries_bounds, kind_right, increment_bounds, by_form, len_few, increment_entries, clear_entries}
use Rattle.wire.specs.MessageLaws.{accepted, read_yes, called_length_least}

-- ---- entries written and read

entry_at_bytes : (e : ClearEntry) → EntryBounds e → entry_at (entry_bytes e) 0 ≡ e
unfolding entry_bytes bytes_of number_at
entry_at_bytes e b =
    rw (number_at_bytes_of int_width e.card (omega arith), number_at_bytes_of hyper_width e.p (omega arith), number_at_bytes_of hyper_width e.c (omega arith))

entry_at_left : (xs ys : List ℕ) (at : ℕ) → at + entry_length ≤ length xs → entry_at (xs ++ ys) at ≡ entry_at xs at
entry_at_left xs ys at room =
    rw (number_at_left int_width xs ys at (omega arith), number_at_left hyper_width xs ys (at + entry_p_at) (omega arith), number_at_left hyper_width xs ys (at + entry_c_at) (omega arith))

entry_at_right : (xs ys : List ℕ) (at : ℕ) → length xs ≡ at → entry_at (xs ++ ys) at ≡ entry_at ys 0
entry_at_right xs ys at long =
    let first = rw (add-zero, long) at (number_at_right int_width xs ys 0) in
    let second = rw long at (number_at_right hyper_width xs ys entry_p_at) in
    let third = rw long at (number_at_right hyper_width xs ys entry_c_at) in
    rw (first, second, third)

entries_at_left : (count : ℕ) (xs ys : List ℕ) (at : ℕ) → at + entry_length * count ≤ length xs → entries_at count (xs ++ ys) at ≡ entries_at count xs at
unfolding entries_at
entries_at_left zero xs ys at room = refl
entries_at_left (suc count) xs ys at room =
    rw (entry_at_left xs ys at (omega arith), entries_at_left count xs ys (at + entry_length) (omega arith))

entries_at_none : (s : List ℕ) (at : ℕ) → entries_at zero s at ≡ []
unfolding entries_at
entries_at_none s at = refl

-- entries that are written after other bytes are read again
entries_at_bytes : (count : ℕ) (xs : List ℕ) (es : List ClearEntry) (at : ℕ) → length xs ≡ at → count ≤ length es
    → ((i : ℕ) → i < count → EntryBounds (slice_index_or es i no_entry)) → entries_at count (xs ++ entries_bytes count es) at ≡ take count es
unfolding entries_bytes
entries_at_bytes zero xs es at long few fit = entries_at_none (xs ++ []) at
entries_at_bytes (suc count) xs es at long few fit =
    let front = xs ++ entries_bytes count es in
    let last = entry_bytes (slice_index_or es count no_entry) in
    let whole : xs ++ (entries_bytes count es ++ last) ≡ front ++ last = sym (append_assoc xs (entries_bytes count es) last) in
    let size : length front ≡ at + entry_length * count = length-append xs (entries_bytes count es) ∙ rw (long, length_entries_bytes count es) in
    let before = entries_at_left count front last at (omega arith) ∙ entries_at_bytes count xs es at long (omega arith) (λ i h. fit i (omega arith)) in
    let here = entry_at_right front last (at + entry_length * count) size ∙ entry_at_bytes (slice_index_or es count no_entry) (fit count (omega arith)) in
    rw (whole, entries_at_more count (front ++ last) at, before, here) (sym (take-suc es count no_entry few))

-- ---- fields written and read, with other bytes after them

-- the bytes begin with the fields of the message's header
record HeaderIn (s : List ℕ) (m : Message) : Type 0 where
  version : int_at s 0 ≡ m.version
  kind : int_at s kind_at ≡ m.kind
  sender : int_at s sender_at ≡ m.sender
  sequence : hyper_at s sequence_at ≡ m.sequence
  counter : int_at s counter_at ≡ m.counter

module _ (m : Message) (rest : List ℕ) where
  header_in : m.kind < 2 ^ 32 → HeaderBounds m.version m.sender m.sequence m.counter → HeaderIn (header_bytes m ++ rest) m
  unfolding header_bytes number_at bytes_of
  header_in kind b = record {
    version = number_at_bytes_of int_width m.version (omega arith);
    kind = number_at_bytes_of int_width m.kind kind;
    sender = number_at_bytes_of int_width m.sender (omega arith);
    sequence = number_at_bytes_of hyper_width m.sequence (omega arith);
    counter = number_at_bytes_of int_width m.counter (omega arith);
  }

  -- what stands past the header
  past_header : (width at : ℕ) → number_at width (header_bytes m ++ rest) (header_length + at) ≡ number_at width rest at
  past_header width at = rw (length_header_bytes m) at (number_at_right width (header_bytes m) rest at)

module _ (version p start amount : ℕ) (rest : List ℕ) (b : IncrementBounds version p start amount) where
  p_in : hyper_at (unsigned_hyper p ++ unsigned_int start ++ rest) 0 ≡ p
  unfolding number_at bytes_of
  p_in = number_at_bytes_of hyper_width p (omega (arith, b.p_most))

  start_in : int_at (unsigned_hyper p ++ unsigned_int start ++ rest) hyper_width ≡ start
  unfolding number_at bytes_of
  start_in = number_at_bytes_of int_width start (omega (arith, b.start_flag))

  number_in : int_at (unsigned_hyper p ++ unsigned_int start ++ (unsigned_int amount ++ rest)) increment_body_length ≡ amount
  unfolding number_at bytes_of
  number_in = number_at_bytes_of int_width amount (omega (arith, b.counts.amount_most))

count_in : (len : ℕ) (rest : List ℕ) → len ≤ most_cards → int_at (unsigned_int len ++ rest) 0 ≡ len
unfolding number_at bytes_of
count_in len rest few = number_at_bytes_of int_width len (omega arith)

-- ---- messages written and read

-- bytes that start with a message's
pub record Stands (s : List ℕ) (m : Message) : Type 0 where
  pub version : int_at s 0 ≡ m.version
  pub kind : int_at s kind_at ≡ m.kind
  pub called : called_length m.version s ≡ message_length m
  pub message : message_at m.version s ≡ m

-- the amount of an increment, where the version has one
amount_held : (m : Message) (version p start amount : ℕ) (rest : List ℕ) → IncrementBounds version p start amount
    → amount_in version (header_bytes m ++ (unsigned_hyper p ++ unsigned_int start ++ (amount_bytes version amount ++ rest))) amount_at ≡ amount
amount_held m version p start amount rest b =
    by_le version_2 version
    (λ l.
    let body = unsigned_hyper p ++ unsigned_int start ++ (unsigned_int amount ++ rest) in
    rw (le-leb version_2 version l) (past_header m body int_width increment_body_length ∙ number_in version p start amount rest b))
    (λ g. rw (lt-leb version_2 version g) (sym (b.counts.amount_none g)))

increment_stands : (version sender sequence counter p start amount : ℕ) (rest : List ℕ) → HeaderBounds version sender sequence counter → IncrementBounds version p start amount
    → Stands (message_bytes (increment_message version sender sequence counter p start amount) ++ rest) (increment_message version sender sequence counter p start amount)
unfolding message_bytes increment_bytes increment_message called_length message_at
increment_stands version sender sequence counter p start amount rest h b =
    let m = increment_message version sender sequence counter p start amount in
    let last = amount_bytes version amount ++ rest in
    let body = unsigned_hyper p ++ unsigned_int start ++ last in
    let whole : increment_bytes m ++ rest ≡ header_bytes m ++ body = simp append_assoc in
    let f = header_in m body (omega arith) h in
    rw whole record {
      version = f.version;
      kind = f.kind;
      called = rw f.kind;
      message =
          rw (
            f.kind,
            f.sender,
            f.sequence,
            f.counter,
            past_header m body hyper_width 0,
            past_header m body int_width hyper_width,
            p_in version p start amount last b,
            start_in version p start amount last b,
            amount_held m version p start amount rest b,
          );
    }

clear_stands : (version sender sequence counter : ℕ) (es : List ClearEntry) (rest : List ℕ) → HeaderBounds version sender sequence counter → length es ≤ most_cards → entries_in_range 0 es ≡ true
    → Stands (message_bytes (clear_message version sender sequence counter es) ++ rest) (clear_message version sender sequence counter es)
unfolding message_bytes clear_bytes clear_message called_length message_at
clear_stands version sender sequence counter es rest h short fit =
    let m = clear_message version sender sequence counter es in
    let n = length es in
    let none = replicate (most_cards - n) no_entry in
    let entries = entries_bytes n (es ++ none) in
    let body = unsigned_int n ++ entries ++ rest in
    let whole : clear_bytes m ++ rest ≡ header_bytes m ++ body = simp append_assoc in
    let head : length (header_bytes m ++ unsigned_int n) ≡ first_entry_at = simp (length-append, length_header_bytes, length_bytes_of) in
    let room : n ≤ length (es ++ none) = omega (arith, length-append es none) in
    let fits : (i : ℕ) → i < n → EntryBounds (slice_index_or (es ++ none) i no_entry) =
    λ i l. rw (get_or-append es none no_entry i l) (entries_bounds 0 es fit i l) in
    let listed : entries_at n (clear_bytes m ++ rest) first_entry_at ≡ es =
    entries_at_left n (clear_bytes m) rest first_entry_at (rw (length_clear_bytes m) (le_refl (clear_length n)))
    ∙ entries_at_bytes n (header_bytes m ++ unsigned_int n) (es ++ none) first_entry_at head room fits
    ∙ take-append_seam es none in
    let counted : int_at (header_bytes m ++ body) count_at ≡ n = past_header m body int_width 0 ∙ rw (append_assoc (unsigned_int n) entries rest) (count_in n (entries ++ rest) short) in
    let f = header_in m body (omega arith) h in
    rw whole record {
      version = f.version;
      kind = f.kind;
      called = rw (f.kind, counted);
      message = rw (f.kind, f.sender, f.sequence, f.counter, counted, rw whole at listed);
    }

pub message_stands : (m : Message) (rest : List ℕ) → length m.entries ≡ most_cards → in_range m ≡ true → Stands (message_bytes m ++ rest) m
message_stands m rest full h =
    by_form (λ (x : Message). Stands (message_bytes x ++ rest) x)
    (λ version sender sequence counter p start amount a b. increment_stands version sender sequence counter p start amount rest a b)
    (λ version sender sequence counter es a short fit. clear_stands version sender sequence counter es rest a short fit)
    m full h

-- the bytes of a message in range read, as the message
module _ (m : Message) (full : length m.entries ≡ most_cards) (h : in_range m ≡ true) where
  alone_stands : Stands (message_bytes m) m
  alone_stands = rw (append-nil (message_bytes m)) at (message_stands m [] full h)

  message_reads : reads m.version (message_bytes m) ≡ true
  unfolding reads
  message_reads =
      let s = message_bytes m in
      let right_kind : nat_eq (int_at s kind_at) increment_kind || (int_at s kind_at == clear_kind) ≡ true = rw alone_stands.kind (kind_right m h) in
      rw (eq-eqb _ _ alone_stands.version, right_kind, alone_stands.called, length_message_bytes m, eq-eqb (message_length m) (message_length m) refl, alone_stands.message) h

  pub message_read : read_message (message_bytes m) ≡ accepted m
  unfolding read_message
  message_read = rw (alone_stands.version, message_reads, alone_stands.message)

-- ---- bytes read and written

header_back : (m : Message) (s : List ℕ) → Bytes s → header_length ≤ length s → HeaderIn s m → header_bytes m ≡ take header_length s
unfolding header_bytes
header_back m s bytes room h =
    rw (
      ← h.version,
      ← h.kind,
      ← h.sender,
      ← h.sequence,
      ← h.counter,
      bytes_of_number_at int_width s 0 bytes (omega arith),
      number_joined int_width s 0 kind_at bytes (omega arith),
      number_joined int_width s 0 sender_at bytes (omega arith),
      number_joined hyper_width s 0 sequence_at bytes (omega arith),
      number_joined int_width s 0 counter_at bytes (omega arith),
    )

entry_back : (s : List ℕ) (at : ℕ) → Bytes s → at + entry_length ≤ length s → entry_bytes (entry_at s at) ≡ take entry_length (drop at s)
unfolding entry_bytes
entry_back s at bytes room =
    rw (
      bytes_of_number_at int_width s at bytes (omega arith),
      number_joined hyper_width s at entry_p_at bytes (omega arith),
      number_joined hyper_width s at entry_c_at bytes (omega arith),
    )

-- entry i of those read
entries_at_getD : (count : ℕ) (s : List ℕ) (at i : ℕ) → i < count → slice_index_or (entries_at count s at) i no_entry ≡ entry_at s (at + entry_length * i)
unfolding entries_at
entries_at_getD zero s at i l = absurd (not-suc-le-zero l)
entries_at_getD (suc count) s at zero l = rw (mul-zero, add-zero)
entries_at_getD (suc count) s at (suc i) l =
    let place : at + entry_length * suc i ≡ at + entry_length + entry_length * i = omega arith in
    rw place (entries_at_getD count s (at + entry_length) i (le_of_suc-le-suc l))

entries_back : (count : ℕ) (es : List ClearEntry) (s : List ℕ) (at : ℕ) → Bytes s → at + entry_length * count ≤ length s
    → ((i : ℕ) → i < count → slice_index_or es i no_entry ≡ entry_at s (at + entry_length * i)) → entries_bytes count es ≡ take (entry_length * count) (drop at s)
unfolding entries_bytes
entries_back zero es s at bytes room same = refl
entries_back (suc count) es s at bytes room same =
    let more : entry_length * suc count ≡ entry_length * count + entry_length = omega arith in
    rw (
      entries_back count es s at bytes (omega arith) (λ i l. same i (omega arith)),
      same count (omega arith),
      entry_back s (at + entry_length * count) bytes (omega arith),
      more,
    )
    (parts_join s at (entry_length * count) entry_length)

-- what bytes that read in a version have
pub record Readable (v : ℕ) (s : List ℕ) : Type 0 where
  pub version : int_at s 0 ≡ v
  pub kind : nat_eq (int_at s kind_at) increment_kind || (int_at s kind_at == clear_kind) ≡ true
  pub exact : length s ≡ called_length v s
  pub fits : in_range (message_at v s) ≡ true

pub readable : (version : ℕ) (s : List ℕ) → reads version s ≡ true → Readable version s
unfolding reads
readable version s h = let f = simp tests at h in record { version = f.0.0.0; kind = f.0.0.1; exact = f.0.1; fits = f.1 }

-- no bytes read in two versions
pub one_version : (v w : ℕ) (s : List ℕ) → reads v s ≡ true → reads w s ≡ true → v ≡ w
one_version v w s a b = sym (readable v s a).version ∙ (readable w s b).version

-- of the two kinds, the other one
kind_other : (kind : ℕ) → (kind == increment_kind) || (kind == clear_kind) ≡ true → (kind ≢ clear_kind) → kind ≡ increment_kind
kind_other kind h d = eqb-true kind increment_kind (sym (or-false (kind == increment_kind)) ∙ rw (ne_eqb kind clear_kind d) at h)

-- a proof about bytes that read splits by this
module _ (version : ℕ) (s : List ℕ) (P : Message → Type 0) where
  by_kind : Readable version s
      → (int_at s kind_at ≡ increment_kind → length s ≡ increment_length version → P (increment_in version s))
      → (int_at s kind_at ≡ clear_kind → length s ≡ clear_length (int_at s count_at) → P (clear_in version s))
      → P (message_at version s)
  unfolding message_at called_length
  by_kind b on_increment on_clear =
      by_place (int_at s kind_at) clear_kind
      (λ e. rw (eq-eqb (int_at s kind_at) clear_kind e) (on_clear e (b.exact ∙ rw (eq-eqb (int_at s kind_at) clear_kind e))))
      (λ d. rw (ne_eqb (int_at s kind_at) clear_kind d) (on_increment (kind_other (int_at s kind_at) b.kind d) (b.exact ∙ rw (ne_eqb (int_at s kind_at) clear_kind d))))

-- the numbers of an increment, with the amount where the version has one
increment_front : (version : ℕ) (s : List ℕ) → Bytes s → increment_length version ≤ length s
    → take amount_at s ++ amount_bytes version (amount_in version s amount_at) ≡ take (increment_length version) s
increment_front version s bytes room =
    by_test (has_amount version)
    (λ t. let long = rw t at room in rw t (number_joined int_width s 0 amount_at bytes (omega arith)))
    (λ f. rw f (append-nil (take amount_at s)))

module _ (version : ℕ) (s : List ℕ) (bytes : Bytes s) (same : int_at s 0 ≡ version) where
  increment_back : int_at s kind_at ≡ increment_kind → length s ≡ increment_length version → message_bytes (increment_in version s) ≡ s
  unfolding message_bytes increment_bytes increment_message
  increment_back kind exact =
      rw (
        header_back (increment_in version s) s bytes (omega arith) (record { version = same; kind = kind; sender = refl; sequence = refl; counter = refl }),
        number_joined hyper_width s 0 p_at bytes (omega arith),
        number_joined int_width s 0 start_at bytes (omega arith),
        increment_front version s bytes (omega arith),
      )
      (take_all (increment_length version) s (omega arith))

  clear_back : int_at s kind_at ≡ clear_kind → length s ≡ clear_length (int_at s count_at) → message_bytes (clear_in version s) ≡ s
  unfolding message_bytes clear_bytes clear_message
  clear_back kind exact =
      let n = int_at s count_at in
      let es = entries_at n s first_entry_at in
      let none = replicate (most_cards - n) no_entry in
      let long : length es ≡ n = length_entries_at n s first_entry_at in
      let each : (i : ℕ) → i < n → slice_index_or (es ++ none) i no_entry ≡ entry_at s (first_entry_at + entry_length * i) =
      λ i l. get_or-append es none no_entry i (rw long l) ∙ entries_at_getD n s first_entry_at i l in
      rw (
        header_back (clear_in version s) s bytes (omega arith) (record { version = same; kind = kind; sender = refl; sequence = refl; counter = refl }),
        long,
        number_joined int_width s 0 count_at bytes (omega arith),
        entries_back n (es ++ none) s first_entry_at bytes (omega arith) each,
        parts_join s 0 first_entry_at (entry_length * n),
      )
      (take_all (clear_length n) s (omega arith))

pub message_back : (version : ℕ) (s : List ℕ) → Bytes s → reads version s ≡ true → message_bytes (message_at version s) ≡ s
message_back version s bytes h =
    let b = readable version s h in
    by_kind version s (λ (m : Message). message_bytes m ≡ s) b (increment_back version s bytes b.version) (clear_back version s bytes b.version)

-- the array of a message that was read is full
pub message_full : (version : ℕ) (s : List ℕ) → reads version s ≡ true → length (message_at version s).entries ≡ most_cards
unfolding clear_message
message_full version s h =
    let b = readable version s h in
    by_kind version s (λ (m : Message). m.len ≤ most_cards → length m.entries ≡ most_cards) b
    (λ kind exact few. increment_entries _ _ _ _ _ _ _)
    (λ kind exact few. clear_entries version (int_at s sender_at) (hyper_at s sequence_at) (int_at s counter_at) (entries_at (int_at s count_at) s first_entry_at) few)
    (len_few (message_at version s) b.fits)

-- bytes that read are no shorter than the shortest message; those of an increment have its length
pub read_long : (version : ℕ) (s : List ℕ) → reads version s ≡ true → shortest_message ≤ length s
read_long version s h = omega (arith, (readable version s h).exact, called_length_least version s)

pub read_exact : (version : ℕ) (s : List ℕ) → reads version s ≡ true → (int_at s kind_at ≢ clear_kind) → length s ≡ increment_length version
unfolding called_length
read_exact version s h other = (readable version s h).exact ∙ rw (ne_eqb (int_at s kind_at) clear_kind other)

-- the message by its kind
pub read_clear : (version : ℕ) (s : List ℕ) → int_at s kind_at ≡ clear_kind → message_at version s ≡ clear_in version s
unfolding message_at
read_clear version s kind = rw kind

pub read_increment : (version : ℕ) (s : List ℕ) → (int_at s kind_at ≢ clear_kind) → message_at version s ≡ increment_in version s
unfolding message_at
read_increment version s other = rw (ne_eqb (int_at s kind_at) clear_kind other)

-- it is of the version that it is read in
pub message_version : (version : ℕ) (s : List ℕ) → (message_at version s).version ≡ version
unfolding increment_message clear_message
message_version version s = by_place (int_at s kind_at) clear_kind (λ e. rw (read_clear version s e)) (λ d. rw (read_increment version s d))

-- the numbers of an increment have their bounds
pub read_bounds : (version : ℕ) (s : List ℕ) → reads version s ≡ true → (int_at s kind_at ≢ clear_kind)
    → IncrementBounds version (hyper_at s p_at) (int_at s start_at) (amount_in version s amount_at)
unfolding increment_message
read_bounds version s h other = increment_bounds (increment_in version s) (rw (read_increment version s other) at (readable version s h).fits) (λ e. omega arith)

-- in version 2 the amount is the word behind start
pub read_amount : (s : List ℕ) → reads version_2 s ≡ true → (int_at s kind_at ≢ clear_kind) → (1 ≤ int_at s amount_at) × (int_at s amount_at ≤ most_amount)
read_amount s h other = let b = (read_bounds version_2 s h other).counts in (b.amount_some (le_refl version_2), b.amount_most)

-- the entries of a clear stand in the bytes, and are not too many
pub read_count : (version : ℕ) (s : List ℕ) → reads version s ≡ true → int_at s kind_at ≡ clear_kind → (int_at s count_at ≤ most_cards) × (length s ≡ clear_length (int_at s count_at))
unfolding called_length clear_message
read_count version s h kind =
    let few = rw (read_clear version s kind, length_entries_at (int_at s count_at) s first_entry_at) at (len_few (message_at version s) (readable version s h).fits) in
    (few, (readable version s h).exact ∙ rw kind)

-- and it is made of its header and of them
pub clear_parts : (version : ℕ) (s : List ℕ) → int_at s kind_at ≡ clear_kind → let n = int_at s count_at in
    ◌≡◌ {A = Message} (record {
      version = version;
      kind = clear_kind;
      sender = int_at s sender_at;
      sequence = hyper_at s sequence_at;
      counter = int_at s counter_at;
      p = 0;
      start = 0;
      amount = 0;
      len = n;
      entries = entries_at n s first_entry_at ++ replicate (most_cards - n) no_entry;
    })
    (message_at version s)
unfolding clear_message
clear_parts version s kind = rw (read_clear version s kind, length_entries_at (int_at s count_at) s first_entry_at)

-- bytes that read in a version are answered with that version's message, and an answer with a message says that the bytes read as it
pub read_in : (version : ℕ) (s : List ℕ) → reads version s ≡ true → read_message s ≡ accepted (message_at version s)
read_in version s h = sym (read_yes version s (sym (readable version s h).version) h)

pub read_as : (s : List ℕ) (m : Message) → read_message s ≡ accepted m → (reads m.version s ≡ true) × (message_at m.version s ≡ m)
unfolding read_message
read_as s m e =
    by_test (reads (version_in s) s)
    (λ t.
    let same : message_at (version_in s) s ≡ m = ap (λ (r : Reading). r.message) (rw t at e) in
    let named : version_in s ≡ m.version = sym (message_version (version_in s) s) ∙ ap (λ (x : Message). x.version) same in
    (subst (λ (v : ℕ). reads v s ≡ true) named t, subst (λ (v : ℕ). message_at v s ≡ m) named same))
    (λ f. let no : ◌≡◌ {A = ℕ} unreadable 0 = ap (λ (r : Reading). r.number) (rw f at e) in absurd (omega arith))

-- ---- the message that a longer list of bytes starts with

pub front_message : (m : Message) (rest : List ℕ) → length m.entries ≡ most_cards → in_range m ≡ true → front_length m.version (message_bytes m ++ rest) ≡ message_length m
unfolding front_length
front_message m rest full h =
    let s = message_bytes m ++ rest in
    let called = (message_stands m rest full h).called in
    let room : message_length m ≤ length s = omega (arith, length-append (message_bytes m) rest, length_message_bytes m) in
    let front : take (message_length m) s ≡ message_bytes m = take_at (message_bytes m) rest (message_length m) (length_message_bytes m) in
    rw (called, le-leb (message_length m) (length s) room, front, message_reads m full h)

-- bytes that name one version start with no message of another
front_named : (version : ℕ) (s : List ℕ) → version ≢ version_in s → front_length version s ≡ 0
unfolding front_length
front_named version s apart =
    let n = called_length version s in
    by_test (nat_le n (length s) && reads version (take n s))
    (λ t.
    let f = simp tests at t in
    let long : length (take n s) ≡ n = length-take-le n s f.0 in
    let front : int_at (take n s ++ drop n s) 0 ≡ int_at (take n s) 0 = number_at_left int_width (take n s) (drop n s) 0 (omega (arith, called_length_least version s)) in
    absurd (apart (sym (readable version (take n s) f.1).version ∙ sym front ∙ rw (take-append-drop n s))))
    (λ f. rw f)

pub front_other_version : (version : ℕ) (m : Message) (rest : List ℕ) → length m.entries ≡ most_cards → in_range m ≡ true → version ≢ m.version
    → front_length version (message_bytes m ++ rest) ≡ 0
front_other_version version m rest full h apart =
    front_named version (message_bytes m ++ rest) (λ e. apart (e ∙ (message_stands m rest full h).version))

pub front_readable : (version : ℕ) (s : List ℕ) → 0 < front_length version s → (reads version (take (front_length version s) s) ≡ true) × (front_length version s ≤ length s)
unfolding front_length
front_readable version s some =
    by_test (nat_le (called_length version s) (length s) && reads version (take (called_length version s) s))
    (λ t. let f = simp tests at t in rw t (f.1, f.0))
    (λ f. absurd (not-suc-le-zero (rw f at some)))
