-- LAWS. The messages of a log, one after the other, in another version: what is written of each, and of all.
use Rattle.std.specs.Prelude.{ℕ, suc, ◌+◌, ◌-◌, ◌*◌, ◌≤◌, ◌<◌, ◌≡◌, refl, true, false, length, get_or, set, take}
use Rattle.std.proofs.Math.Path.{sym}
use Rattle.std.proofs.Common.{ap, ◌∙◌, zero-add, arith, length-append, length-drop, take-append-drop, take_at, drop_at, drop-drop, take-add, length-take-le, eq-eqb}
use mathlib.Core.List.{List, ◌++◌, append_assoc, append-nil}
use Rattle.std.proofs.Math.ListN.{drop}
use Rattle.std.proofs.lemmas.List.Edits.{sets}
use Rattle.std.proofs.Math.Seq.{paste-suc}
use Rattle.std.proofs.lemmas.List.{drop-append-le, nil_from_length}
use Rattle.protocol.proofs.Cases.{by_test}
use Rattle.protocol.proofs.StoredLists.{sets_append, sets_front}
use Rattle.wire.specs.Number.{Bytes, int_width, hyper_width, int_at, hyper_at, unsigned_int, unsigned_hyper}
use Rattle.wire.specs.NumberLaws.{length_bytes_of, number_joined}
use Rattle.wire.specs.declared.Message.{Message}
use Rattle.wire.specs.Message.{has_amount, increment_kind, clear_kind, increment_length, kind_at, sender_at, sequence_at, counter_at, p_at, start_at, amount_at, header_bytes_of, header_bytes, amount_bytes, increment_bytes, clear_bytes, message_bytes, increment_message, clear_message, amount_in, increment_in, message_at, version_in, reads, front_length, log_bytes, messages_from, is_log, over}
use Rattle.wire.specs.Claims.{read_is_written, message_bytes_length}
use Rattle.wire.specs.RoundTrips.{readable, read_clear, read_increment, read_long}
use Rattle.conversion.specs.Conversion.{in_version, converted}
use Rattle.conversion.proofs.LogLaws.{bytes_drop, front_there, messages_next}
use Rattle.converter.specs.FirstLaws.{log_first, log_rest}

-- the bytes of a message in another version, of one that stands alone and of the first of a log
unfoldable pub moved : ℕ → List ℕ → List ℕ
moved to s = message_bytes (in_version to (message_at (version_in s) s))

abbrev pub first_moved : (from to : ℕ) → List ℕ → List ℕ
first_moved from to s = moved to (take (front_length from s) s)

-- ---- bytes copied

-- one more
pub copy_next : (bytes out : List ℕ) (i : ℕ) → i < length bytes → i < length out → set (take i bytes ++ drop i out) i (get_or bytes i 0) ≡ take (suc i) bytes ++ drop (suc i) out
copy_next bytes out i below room =
    let turn = paste-suc out 0 bytes i 0 (omega arith) below in
    simp zero-add at turn

-- eight more, as a number
pub eights_next : (bytes out : List ℕ) (from i : ℕ) → Bytes bytes → from + hyper_width * i + hyper_width ≤ length bytes
    → sets (sets out from (take (hyper_width * i) (drop from bytes))) (from + hyper_width * i) (unsigned_hyper (hyper_at bytes (from + hyper_width * i)))
    ≡ sets out from (take (hyper_width * (i + 1)) (drop from bytes))
eights_next bytes out from i all room =
    let n = hyper_width * i in
    let front = take n (drop from bytes) in
    let long : length front ≡ n = length-take-le n (drop from bytes) (omega (arith, length-drop from bytes)) in
    let more : hyper_width * (i + 1) ≡ n + hyper_width = omega arith in
    rw (more, ← number_joined hyper_width bytes from n all room) (sym (sets_append out from front (unsigned_hyper (hyper_at bytes (from + n))) ∙ rw long))

-- the first word written over what was copied
pub copied_with : (to : ℕ) (s out first last : List ℕ) → int_width ≤ length s → length s ≤ length out → first ≡ over s out → last ≡ sets first 0 (unsigned_int to)
    → last ≡ over (unsigned_int to ++ drop int_width s) out
copied_with to s out first last some room one two =
    let word = unsigned_int to in
    let four : length word ≡ int_width = length_bytes_of int_width to in
    let long : length (word ++ drop int_width s) ≡ length s = length-append word (drop int_width s) ∙ omega (arith, four, length-drop int_width s) in
    let fits : length word ≤ length first = rw one (omega (arith, four, length-append s (drop (length s) out))) in
    two ∙ sets_front word first fits
    ∙ rw (long, four, one, drop-append-le int_width s (drop (length s) out) some)
    (sym (append_assoc word (drop int_width s) (drop (length s) out)))

-- an increment's bytes as far as its amount behind another version; and an amount of 1 behind them, where the version has one
module _ (to : ℕ) (s out word first : List ℕ) (some : amount_at ≤ length s) (room : increment_length to ≤ length out) (one : word ≡ sets out 0 (unsigned_int to))
    (two : first ≡ sets word int_width (take (amount_at - int_width) (drop int_width s))) where
  abbrev plain : List ℕ
  plain = unsigned_int to ++ drop int_width (take amount_at s)

  plain_long : length plain ≡ amount_at
  plain_long =
      length-append (unsigned_int to) (drop int_width (take amount_at s))
      ∙ omega (arith, length_bytes_of int_width to, length-drop int_width (take amount_at s), length-take-le amount_at s some)

  body : drop int_width (take amount_at s) ≡ take (amount_at - int_width) (drop int_width s)
  body =
      ap (drop int_width) (take-add int_width (amount_at - int_width) s)
      ∙ drop_at (take int_width s) (take (amount_at - int_width) (drop int_width s)) int_width (length-take-le int_width s (omega arith))

  plain_stored : first ≡ sets out 0 plain
  plain_stored =
      two ∙ rw (one, body) (sym (sets_append out 0 (unsigned_int to) (take (amount_at - int_width) (drop int_width s)) ∙ rw (length_bytes_of int_width to)))

  pub amount_none : has_amount to ≡ false → first ≡ over (plain ++ amount_bytes to 1) out
  amount_none none = rw (none, append-nil plain) (plain_stored ∙ sets_front plain out (rw plain_long (omega arith)))

  pub amount_put : has_amount to ≡ true → (last : List ℕ) → last ≡ sets first amount_at (unsigned_int 1) → last ≡ over (plain ++ amount_bytes to 1) out
  amount_put has last three =
      let whole : length (plain ++ unsigned_int 1) ≤ length out = rw (length-append plain (unsigned_int 1), plain_long, length_bytes_of int_width 1) (rw has at room) in
      let joined : sets (sets out 0 plain) amount_at (unsigned_int 1) ≡ sets out 0 (plain ++ unsigned_int 1) = sym (sets_append out 0 plain (unsigned_int 1) ∙ rw plain_long) in
      rw has (three ∙ rw plain_stored (joined ∙ sets_front (plain ++ unsigned_int 1) out whole))

-- ---- one message

-- a clear but for its version word
clear_moves : (to : ℕ) (m : Message) → m.kind ≡ clear_kind → message_bytes (in_version to m) ≡ unsigned_int to ++ drop int_width (message_bytes m)
unfolding message_bytes clear_bytes header_bytes in_version
clear_moves to m kind =
    rw (eq-eqb m.kind clear_kind kind)
    (simp append_assoc (rw (drop_at (unsigned_int m.version) _ int_width (length_bytes_of int_width m.version))))

-- an increment but for its version word and its amount
increment_moves : (version to sender sequence counter p start amount : ℕ)
    → let s = message_bytes (increment_message version sender sequence counter p start amount) in
    unsigned_int to ++ drop int_width (take amount_at s) ++ amount_bytes to 1 ≡ message_bytes (increment_message to sender sequence counter p start 1)
unfolding message_bytes increment_bytes header_bytes increment_message
increment_moves version to sender sequence counter p start amount =
    let front = header_bytes_of version increment_kind sender sequence counter ++ unsigned_hyper p ++ unsigned_int start in
    let long : length front ≡ amount_at = simp (length-append, length_bytes_of) in
    rw (take_at front (amount_bytes version amount) amount_at long)
    (simp append_assoc (rw (drop_at (unsigned_int version) _ int_width (length_bytes_of int_width version)) (simp append_assoc)))

module _ (to : ℕ) (s : List ℕ) where
  pub moved_clear : Bytes s → reads (version_in s) s ≡ true → int_at s kind_at ≡ clear_kind → unsigned_int to ++ drop int_width s ≡ moved to s
  unfolding moved clear_message
  moved_clear bytes h kind =
      let m = message_at (version_in s) s in
      sym (clear_moves to m (rw (read_clear (version_in s) s kind)) ∙ rw (read_is_written (version_in s) s bytes h))

  by_one_moved : (int_at s kind_at ≡ clear_kind → ⊥)
      → message_bytes (increment_message to (int_at s sender_at) (hyper_at s sequence_at) (int_at s counter_at) (hyper_at s p_at) (int_at s start_at) 1) ≡ moved to s
  unfolding moved in_version increment_message message_bytes increment_bytes header_bytes
  by_one_moved other = rw (read_increment (version_in s) s other) (by_test (has_amount to) (λ t. rw t) (λ f. rw f))

  pub moved_increment : Bytes s → reads (version_in s) s ≡ true → (int_at s kind_at ≡ clear_kind → ⊥)
      → unsigned_int to ++ drop int_width (take amount_at s) ++ amount_bytes to 1 ≡ moved to s
  moved_increment bytes h other =
      let version = version_in s in
      let is : message_bytes (increment_in version s) ≡ s = rw (read_increment version s other) at (read_is_written version s bytes h) in
      ap (λ t. unsigned_int to ++ drop int_width (take amount_at t) ++ amount_bytes to 1) (sym is)
      ∙ increment_moves version to (int_at s sender_at) (hyper_at s sequence_at) (int_at s counter_at) (hyper_at s p_at) (int_at s start_at) (amount_in version s amount_at)
      ∙ by_one_moved other

  -- how long it is: a clear as before, an increment as its version says
  pub moved_clear_long : Bytes s → reads (version_in s) s ≡ true → int_at s kind_at ≡ clear_kind → length s ≡ length (moved to s)
  moved_clear_long bytes h kind =
      rw (← moved_clear bytes h kind, length-append (unsigned_int to) (drop int_width s), length_bytes_of int_width to, length-drop int_width s)
      (omega (arith, read_long (version_in s) s h))

  pub moved_increment_long : (int_at s kind_at ≡ clear_kind → ⊥) → increment_length to ≡ length (moved to s)
  unfolding increment_message
  moved_increment_long other =
      rw (← by_one_moved other)
      (sym (message_bytes_length (increment_message to (int_at s sender_at) (hyper_at s sequence_at) (int_at s counter_at) (hyper_at s p_at) (int_at s start_at) 1)))

-- ---- the first of a log

module _ (from to : ℕ) (s : List ℕ) (some : front_length from s ≡ 0 → ⊥) where
  -- it names the version of the log
  pub first_named : version_in (take (front_length from s) s) ≡ from
  first_named = (readable from (take (front_length from s) s) (front_there from s some).alone).version

  pub first_reads : let t = take (front_length from s) s in reads (version_in t) t ≡ true
  first_reads = rw first_named (front_there from s some).alone

  -- the rest follows
  converted_next : converted from to s ≡ first_moved from to s ++ converted from to (drop (front_length from s) s)
  unfolding converted log_bytes moved
  converted_next = rw (messages_next from s some, first_named)

-- ---- all of them

over_append : (a b out : List ℕ) → over (a ++ b) out ≡ a ++ over b (drop (length a) out)
over_append a b out = rw (append_assoc a b (drop (length (a ++ b)) out), length-append a b, drop-drop (length b) (length a) out)

-- bytes b written from `at` on, and then c behind them
module _ (at : ℕ) (out b last : List ℕ) (room : at + length b ≤ length out) (is : last ≡ take at out ++ over b (drop at out)) where
  abbrev front : List ℕ
  front = take at out ++ b

  abbrev rest : List ℕ
  rest = drop (length b) (drop at out)

  split : last ≡ front ++ rest
  split = is ∙ sym (append_assoc (take at out) b rest)

  front_long : length front ≡ at + length b
  front_long = length-append (take at out) b ∙ rw (length-take-le at out (omega arith))

  put_long : length last ≡ length out
  put_long =
      ap length split ∙ length-append front rest
      ∙ omega (arith, front_long, length-drop (length b) (drop at out), length-drop at out)

  put_on : (c : List ℕ) → take (at + length b) last ++ over c (drop (at + length b) last) ≡ take at out ++ over (b ++ c) (drop at out)
  put_on c =
      rw (split, take_at front rest (at + length b) front_long, drop_at front rest (at + length b) front_long, over_append b c (drop at out))
      (append_assoc (take at out) b (over c rest))

-- `rest` of the log is left and `at` bytes are written; with the rest behind them, the output is what it has to be
pub record Putting (from to : ℕ) (log before rest out : List ℕ) (at : ℕ) : Type 0 where
  pub bytes : Bytes rest
  pub right : is_log from rest ≡ true
  pub same : length out ≡ length before
  pub room : at + length (converted from to rest) ≤ length out
  pub whole : take at out ++ over (converted from to rest) (drop at out) ≡ over (converted from to log) before

module _ (from to : ℕ) (log before : List ℕ) where
  pub putting_begins : Bytes log → is_log from log ≡ true → length (converted from to log) ≤ length before → Putting from to log before log before 0
  putting_begins bytes right room = record { bytes = bytes; right = right; same = refl; room = omega arith; whole = refl }

  module _ (rest out : List ℕ) (at : ℕ) (h : Putting from to log before rest out at) where
    -- a message is left
    pub putting_some : 0 < length rest → front_length from rest ≡ 0 → ⊥
    putting_some more = log_first from rest h.right more

    module _ (more : 0 < length rest) where
      abbrev b : List ℕ
      b = first_moved from to rest

      abbrev n : ℕ
      n = front_length from rest

      -- there is room for it, and then for the rest
      pub putting_room : at + length b + length (converted from to (drop n rest)) ≤ length out
      putting_room = omega (arith, rw (converted_next from to rest (putting_some more), length-append b (converted from to (drop n rest))) at h.room)

      -- it is read and written
      pub putting_next : (read written : ℕ) (last : List ℕ) → read ≡ n → written ≡ length b → last ≡ take at out ++ over b (drop at out)
          → Putting from to log before (drop read rest) last (at + written)
      putting_next read written last front long is =
          let there = putting_some more in
          let left = drop n rest in
          let fits : at + length b ≤ length out = omega (arith, putting_room) in
          rw (front, long) record {
            bytes = bytes_drop n rest h.bytes;
            right = sym (log_rest from rest there h.bytes) ∙ h.right;
            same = put_long at out b last fits is ∙ h.same;
            room = rw (put_long at out b last fits is) putting_room;
            whole = put_on at out b last fits is (converted from to left) ∙ rw (converted_next from to rest there) at h.whole;
          }

    -- none is
    pub putting_ends : length rest ≡ 0 → out ≡ over (converted from to log) before
    unfolding converted messages_from log_bytes
    putting_ends all = sym (take-append-drop at out) ∙ rw (nil_from_length rest all) at h.whole
