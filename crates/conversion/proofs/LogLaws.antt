-- LAWS. A log and its messages: the first stands in front, and the rest of the log is a log of the others.
use Prim.Native.Nat.{ℕ, zero, suc, ◌+◌, ◌≤◌, ◌<◌}
use Rattle.std.specs.Prelude.{◌≡◌, true, List, [], ◌∷◌, ◌++◌, length, take, drop, eqb}
use Rattle.std.proofs.Math.Path.{refl}
use Rattle.std.proofs.Common.{sym, ap, ◌∙◌, append_assoc, append-nil, arith, length-append, length-drop, take-append-drop, get_or-drop, drop-drop, length-take-le, eq-eqb, ne_eqb, eqb-true}
use Rattle.std.proofs.Math.Seq.{take-append_seam, drop-append_seam, drop-length}
use Rattle.protocol.specs.Limits.{most_cards}
use Rattle.protocol.proofs.Cases.{by_place, by_test}
use Rattle.wire.specs.Number.{Bytes}
use Rattle.wire.specs.declared.Message.{Message}
use Rattle.wire.specs.Message.{clear_kind, shortest_message, message_bytes, message_length, in_range, message_at, reads, front_length, log_bytes, messages_from, messages_in, is_log}
use Rattle.wire.specs.Claims.{written_reads, read_is_written, read_is_in_range, version_of_read, message_bytes_length, front_of_message, front_reads}
use Rattle.conversion.specs.ClaimTerms.{AllOf}

-- ---- parts of bytes

pub bytes_take : (n : ℕ) (s : List ℕ) → Bytes s → Bytes (take n s)
bytes_take zero s bytes i = omega arith
bytes_take (suc n) [] bytes i = omega arith
bytes_take (suc n) (x ∷ s) bytes zero = bytes 0
bytes_take (suc n) (x ∷ s) bytes (suc i) = bytes_take n s (λ k. bytes (suc k)) i

pub bytes_drop : (n : ℕ) (s : List ℕ) → Bytes s → Bytes (drop n s)
bytes_drop n s bytes i = rw (get_or-drop n s i 0) (bytes (n + i))

-- ---- the walk, a message at a time

-- what a message in front is: not empty, within the bytes, and it reads
pub record Front (version : ℕ) (s : List ℕ) : Type 0 where
  pub some : 0 < front_length version s
  pub inside : front_length version s ≤ length s
  pub alone : reads version (take (front_length version s) s) ≡ true

module _ (version : ℕ) where
  pub front_there : (s : List ℕ) → (front_length version s ≡ 0 → ⊥) → Front version s
  front_there s some =
      let positive : 0 < front_length version s = omega arith in
      let r = front_reads version s positive in
      record { some = positive; inside = r.1; alone = r.0 }

  front_empty : (s : List ℕ) → length s ≡ 0 → front_length version s ≡ 0
  front_empty s empty = by_place (front_length version s) 0 (λ none. none) (λ some. let f = front_there s some in omega arith)

  from_zero : (s : List ℕ) → messages_from version zero s ≡ []
  unfolding messages_from
  from_zero s = refl

  from_none : (most : ℕ) (s : List ℕ) → front_length version s ≡ 0 → messages_from version most s ≡ []
  unfolding messages_from
  from_none zero s none = refl
  from_none (suc most) s none = rw (eq-eqb (front_length version s) 0 none)

  from_next : (most : ℕ) (s : List ℕ) → (front_length version s ≡ 0 → ⊥)
      → messages_from version (suc most) s ≡ message_at version (take (front_length version s) s) ∷ messages_from version most (drop (front_length version s) s)
  unfolding messages_from
  from_next most s some = rw (ne_eqb (front_length version s) 0 some)

  -- a walk of as many messages as there are bytes finds all
  enough : (most more : ℕ) (s : List ℕ) → length s ≤ most → length s ≤ more → messages_from version most s ≡ messages_from version more s
  enough zero more s few least =
      let none : front_length version s ≡ 0 = front_empty s (omega arith) in from_none zero s none ∙ sym (from_none more s none)
  enough (suc most) zero s few least =
      let none : front_length version s ≡ 0 = front_empty s (omega arith) in from_none (suc most) s none ∙ sym (from_none zero s none)
  enough (suc most) (suc more) s few least =
      by_place (front_length version s) 0
      (λ none. from_none (suc most) s none ∙ sym (from_none (suc more) s none))
      (λ some.
      let n = front_length version s in
      let f = front_there s some in
      rw (from_next most s some, from_next more s some, enough most more (drop n s) (omega (arith, length-drop n s)) (omega (arith, length-drop n s))))

  -- no message stands in front
  pub messages_none : (s : List ℕ) → front_length version s ≡ 0 → messages_in version s ≡ []
  messages_none s none = from_none (length s) s none

  -- one does, and the others are those of the rest
  pub messages_next : (s : List ℕ) → (front_length version s ≡ 0 → ⊥)
      → messages_in version s ≡ message_at version (take (front_length version s) s) ∷ messages_in version (drop (front_length version s) s)
  messages_next s some =
      let n = front_length version s in
      let f = front_there s some in
      enough (length s) (suc (length s)) s (omega arith) (omega arith)
      ∙ from_next (length s) s some
      ∙ ap (λ (ms : List Message). message_at version (take n s) ∷ ms) (enough (length s) (length (drop n s)) (drop n s) (omega (arith, length-drop n s)) (omega arith))

-- ---- messages written one after the other

least_message : (m : Message) → shortest_message ≤ message_length m
least_message m = by_test (eqb m.kind clear_kind) (λ e. rw e (omega arith)) (λ e. rw e (omega arith))

module _ (version : ℕ) (m : Message) (rest : List ℕ) (same : m.version ≡ version) (fits : in_range m ≡ true) (full : length m.entries ≡ most_cards) where
  front : front_length version (message_bytes m ++ rest) ≡ length (message_bytes m)
  front =
      ap (λ (v : ℕ). front_length v (message_bytes m ++ rest)) (sym same)
      ∙ (front_of_message m rest full fits).0
      ∙ sym (message_bytes_length m)

  -- the first is read, and then the rest
  written_first : messages_in version (message_bytes m ++ rest) ≡ m ∷ messages_in version rest
  written_first =
      let s = message_bytes m ++ rest in
      let some : front_length version s ≡ 0 → ⊥ = λ e. omega (arith, e, front, message_bytes_length m, least_message m) in
      let back : message_at version (message_bytes m) ≡ m =
      ap (λ (v : ℕ). message_at v (message_bytes m)) (sym same) ∙ (version_of_read (message_bytes m) m (written_reads m full fits)).1 in
      messages_next version s some
      ∙ rw (front, take-append_seam (message_bytes m) rest, drop-append_seam (message_bytes m) rest, back)

pub written_messages : (version : ℕ) (ms : List Message) → AllOf version ms → messages_in version (log_bytes ms) ≡ ms
unfolding log_bytes messages_from
written_messages version [] all = refl
written_messages version (m ∷ ms) all =
    written_first version m (log_bytes ms) all.0 all.1 all.2 ∙ rw (written_messages version ms all.3)

pub written_is_log : (version : ℕ) (ms : List Message) → AllOf version ms → (is_log version (log_bytes ms) ≡ true) × (messages_in version (log_bytes ms) ≡ ms)
written_is_log version ms all =
    let found = written_messages version ms all in
    (rw found (eq-eqb (length (log_bytes ms)) (length (log_bytes ms)) refl), found)

-- ---- the messages of any bytes

log_bytes_next : (m : Message) (ms : List Message) → log_bytes (m ∷ ms) ≡ message_bytes m ++ log_bytes ms
unfolding log_bytes
log_bytes_next m ms = refl

log_bytes_none : log_bytes [] ≡ []
unfolding log_bytes
log_bytes_none = refl

-- what follows the front, split again
split_on : (n : ℕ) (s t : List ℕ) → n ≤ length s → t ++ drop (length t) (drop n s) ≡ drop n s → take n s ++ t ++ drop (length (take n s ++ t)) s ≡ s
split_on n s t inside rest =
    let long : length (take n s ++ t) ≡ n + length t = length-append (take n s) t ∙ rw (length-take-le n s inside) in
    rw (long, append_assoc (take n s) t (drop (n + length t) s), ← drop-drop (length t) n s, rest) (take-append-drop n s)

module _ (version : ℕ) where
  -- each is of the version and in range
  all_from : (most : ℕ) (s : List ℕ) → AllOf version (messages_from version most s)
  all_from zero s = rw (from_zero version s) tt
  all_from (suc most) s =
      by_place (front_length version s) 0
      (λ none. rw (from_none version (suc most) s none) tt)
      (λ some.
      let r = read_is_in_range version (take (front_length version s) s) (front_there version s some).alone in
      rw (from_next version most s some) (r.0, r.1, r.2, all_from most (drop (front_length version s) s)))

  -- and they are written as the bytes that they stand in
  begins : (most : ℕ) (s : List ℕ) → Bytes s → let t = log_bytes (messages_from version most s) in t ++ drop (length t) s ≡ s
  begins zero s bytes = rw (from_zero version s, log_bytes_none)
  begins (suc most) s bytes =
      by_place (front_length version s) 0
      (λ none. rw (from_none version (suc most) s none, log_bytes_none))
      (λ some.
      let n = front_length version s in
      let f = front_there version s some in
      rw (from_next version most s some, log_bytes_next, read_is_written version (take n s) (bytes_take n s bytes) f.alone)
      (split_on n s (log_bytes (messages_from version most (drop n s))) f.inside (begins most (drop n s) (bytes_drop n s bytes))))

pub log_is_written : (version : ℕ) (s : List ℕ) → Bytes s → is_log version s ≡ true → AllOf version (messages_in version s) × (log_bytes (messages_in version s) ≡ s)
log_is_written version s bytes log =
    let t = log_bytes (messages_in version s) in
    let long : length t ≡ length s = eqb-true (length t) (length s) log in
    let whole = begins version (length s) s bytes in
    (all_from version (length s) s, sym (append-nil t) ∙ rw (long, drop-length s) at whole)
