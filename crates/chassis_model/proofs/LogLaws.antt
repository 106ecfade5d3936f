-- LAWS. A log that begins with the bytes of messages: where the messages end, which one waits, and what one more message at the end changes.
-- By induction over the messages: the first stands in front (`front_of_message` of wire), and the rest of the log is a log of the others.
use Rattle.std.specs.Prelude.{ℕ, zero, suc, ◌+◌, ◌-◌, ◌≤◌, ◌<◌, ◌≡◌, refl, true, List, [], ◌∷◌, ◌++◌, length, get_or, take, drop, eqb}
use Rattle.std.proofs.Common.{sym, ap, ◌∙◌, append_assoc, append-nil, le_refl, sub-one, arith, length-append, take-suc, drop-cons, take_at, eq-eqb, ne_eqb}
use Rattle.std.proofs.Math.Seq.{take-append_seam, drop-append_seam, drop-append-add, get_or-append_seam, take-length}
use Rattle.std.proofs.lemmas.List.{take-append-le}
use Rattle.protocol.specs.Limits.{most_cards}
use Rattle.protocol.proofs.Cases.{by_test}
use Rattle.protocol.proofs.Lists.{places_more}
use Rattle.wire.specs.declared.Message.{Message}
use Rattle.wire.specs.Message.{version_2, no_message, message_bytes, message_length, clear_kind, in_range, called_length, front_length, log_bytes, over, shortest_message}
use Rattle.wire.specs.Claims.{message_bytes_length, front_of_message}
use Rattle.chassis_model.specs.Log.{waiting_part, end_of}

-- a message of version 2 that reads once it is written
pub record Readable (m : Message) : Type 0 where
  pub version : m.version ≡ version_2
  pub fits : in_range m ≡ true
  pub held : length m.entries ≡ most_cards

abbrev pub AllReadable : List Message → Type 0
AllReadable ms = (n : ℕ) → n < length ms → Readable (get_or ms n no_message)

-- ---- the bytes of messages

least_message : (m : Message) → shortest_message ≤ message_length m
least_message m = by_test (eqb m.kind clear_kind) (λ e. rw e (omega arith)) (λ e. rw e (omega arith))

-- one more message at the end
pub log_bytes_append : (ms : List Message) (m : Message) → log_bytes (ms ++ m ∷ []) ≡ log_bytes ms ++ message_bytes m
unfolding log_bytes
log_bytes_append [] m = append-nil (message_bytes m)
log_bytes_append (x ∷ ms) m = rw (log_bytes_append ms m) (sym (append_assoc (message_bytes x) (log_bytes ms) (message_bytes m)))

-- ---- the waiting part, by how far the message is

module _ (q : ℕ) (log : List ℕ) where
  -- none is asked for
  pub waiting_zero : q ≡ 0 → waiting_part q log ≡ []
  unfolding waiting_part
  waiting_zero none = rw none

  -- the one at the front is asked for
  pub waiting_here : q ≡ 1 → waiting_part q log ≡ take (front_length version_2 log) log
  unfolding waiting_part
  waiting_here one = rw one

-- another is asked for, and none stands at the front
pub waiting_none : (q : ℕ) (log : List ℕ) → 1 < q → front_length version_2 log ≡ 0 → waiting_part q log ≡ []
unfolding waiting_part
waiting_none zero log more none = refl
waiting_none (suc zero) log more none = absurd (omega arith)
waiting_none (suc (suc q)) log more none = rw (eq-eqb (front_length version_2 log) 0 none)

-- another is asked for, and the one at the front is passed
pub waiting_next : (q : ℕ) (log : List ℕ) → 1 < q → (front_length version_2 log ≡ 0 → ⊥) → waiting_part (q - 1) (drop (front_length version_2 log) log) ≡ waiting_part q log
unfolding waiting_part
waiting_next zero log more some = absurd (omega arith)
waiting_next (suc zero) log more some = absurd (omega arith)
waiting_next (suc (suc q)) log more some = rw (ne_eqb (front_length version_2 log) 0 some, sub-one)

-- ---- the first message of a log

module _ (m : Message) (rest : List ℕ) (good : Readable m) where
  front : front_length version_2 (message_bytes m ++ rest) ≡ length (message_bytes m)
  front =
      ap (λ (v : ℕ). front_length v (message_bytes m ++ rest)) (sym good.version)
      ∙ (front_of_message m rest good.held good.fits).0
      ∙ sym (message_bytes_length m)

  some : front_length version_2 (message_bytes m ++ rest) ≡ 0 → ⊥
  some e = omega (arith, e, front, message_bytes_length m, least_message m)

  end_of_first : (n : ℕ) → end_of (suc n) (message_bytes m ++ rest) ≡ length (message_bytes m) + end_of n rest
  unfolding end_of
  end_of_first n = rw (front, drop-append_seam (message_bytes m) rest)

  waiting_first : waiting_part 1 (message_bytes m ++ rest) ≡ message_bytes m
  waiting_first = waiting_here 1 (message_bytes m ++ rest) refl ∙ rw (front, take-append_seam (message_bytes m) rest)

  waiting_later : (n : ℕ) → waiting_part (suc (suc n)) (message_bytes m ++ rest) ≡ waiting_part (suc n) rest
  waiting_later n =
      sym (waiting_next (suc (suc n)) (message_bytes m ++ rest) (omega arith) some) ∙ rw (front, drop-append_seam (message_bytes m) rest, sub-one)

-- ---- the n-th

later : (m : Message) (ms : List Message) → AllReadable (m ∷ ms) → AllReadable ms
later m ms all n l = all (suc n) (omega arith)

end_of_bytes : (ms : List Message) (rest : List ℕ) → AllReadable ms → (n : ℕ) → n ≤ length ms
    → end_of n (log_bytes ms ++ rest) ≡ length (log_bytes (take n ms))
unfolding log_bytes end_of
end_of_bytes ms rest all zero l = refl
end_of_bytes [] rest all (suc n) l = absurd (omega arith)
end_of_bytes (m ∷ ms) rest all (suc n) l =
    rw (append_assoc (message_bytes m) (log_bytes ms) rest, length-append (message_bytes m) (log_bytes (take n ms)))
    (end_of_first m (log_bytes ms ++ rest) (all 0 (omega arith)) n
    ∙ ap (λ (k : ℕ). length (message_bytes m) + k) (end_of_bytes ms rest (later m ms all) n (omega arith)))

rest_of_bytes : (ms : List Message) (rest : List ℕ) → AllReadable ms → (n : ℕ) → n ≤ length ms
    → drop (end_of n (log_bytes ms ++ rest)) (log_bytes ms ++ rest) ≡ log_bytes (drop n ms) ++ rest
unfolding log_bytes end_of
rest_of_bytes ms rest all zero l = refl
rest_of_bytes [] rest all (suc n) l = absurd (omega arith)
rest_of_bytes (m ∷ ms) rest all (suc n) l =
    rw (append_assoc (message_bytes m) (log_bytes ms) rest, end_of_first m (log_bytes ms ++ rest) (all 0 (omega arith)) n)
    (drop-append-add (message_bytes m) (log_bytes ms ++ rest) (end_of n (log_bytes ms ++ rest))
    ∙ rest_of_bytes ms rest (later m ms all) n (omega arith))

waiting_of_bytes : (ms : List Message) (rest : List ℕ) → AllReadable ms → (n : ℕ) → n < length ms
    → waiting_part (suc n) (log_bytes ms ++ rest) ≡ message_bytes (get_or ms n no_message)
unfolding log_bytes
waiting_of_bytes [] rest all n l = absurd (omega arith)
waiting_of_bytes (m ∷ ms) rest all zero l =
    rw (append_assoc (message_bytes m) (log_bytes ms) rest) (waiting_first m (log_bytes ms ++ rest) (all 0 l))
waiting_of_bytes (m ∷ ms) rest all (suc n) l =
    rw (append_assoc (message_bytes m) (log_bytes ms) rest)
    (waiting_later m (log_bytes ms ++ rest) (all 0 (omega arith)) n ∙ waiting_of_bytes ms rest (later m ms all) n (omega arith))

-- ---- a log in place: what reads it, a message at a time

-- message m is the one after the first n of the log, and all its bytes are there
pub record Stands (log : List ℕ) (n : ℕ) (m : Message) : Type 0 where
  pub called : called_length version_2 (drop (end_of n log) log) ≡ message_length m
  pub header : shortest_message ≤ length (drop (end_of n log) log)
  pub room : message_length m ≤ length (drop (end_of n log) log)
  pub next : end_of (suc n) log ≡ end_of n log + message_length m
  pub waits : waiting_part (suc n) log ≡ message_bytes m
  pub here : take (message_length m) (drop (end_of n log) log) ≡ waiting_part (suc n) log

module _ (ms : List Message) (rest log : List ℕ) (is : log ≡ log_bytes ms ++ rest) (all : AllReadable ms) where
  pub end_of_log : (n : ℕ) → n ≤ length ms → end_of n log ≡ length (log_bytes (take n ms))
  end_of_log n l = rw is (end_of_bytes ms rest all n l)

  pub waiting_of_log : (n : ℕ) → n < length ms → waiting_part (suc n) log ≡ message_bytes (get_or ms n no_message)
  waiting_of_log n l = rw is (waiting_of_bytes ms rest all n l)

  pub rest_of_log : (n : ℕ) → n < length ms
      → drop (end_of n log) log ≡ message_bytes (get_or ms n no_message) ++ (log_bytes (drop (suc n) ms) ++ rest)
  unfolding log_bytes
  rest_of_log n l =
      rw is (rest_of_bytes ms rest all n (omega arith)
      ∙ rw (drop-cons ms n no_message l) (append_assoc (message_bytes (get_or ms n no_message)) (log_bytes (drop (suc n) ms)) rest))

  pub next_of_log : (n : ℕ) → n < length ms → end_of (suc n) log ≡ end_of n log + message_length (get_or ms n no_message)
  next_of_log n l =
      end_of_log (suc n) l
      ∙ rw (take-suc ms n no_message l, log_bytes_append (take n ms) (get_or ms n no_message), length-append (log_bytes (take n ms)) (message_bytes (get_or ms n no_message)), message_bytes_length (get_or ms n no_message))
      (ap (λ (k : ℕ). k + message_length (get_or ms n no_message)) (sym (end_of_log n (omega arith))))

  pub stands_in_log : (n : ℕ) → n < length ms → Stands log n (get_or ms n no_message)
  stands_in_log n l =
      let m : Message = get_or ms n no_message in
      let good : Readable m = all n l in
      let others : List ℕ = log_bytes (drop (suc n) ms) ++ rest in
      let long : length (drop (end_of n log) log) ≡ message_length m + length others =
      ap length (rest_of_log n l) ∙ length-append (message_bytes m) others ∙ ap (λ (k : ℕ). k + length others) (message_bytes_length m) in
      record {
        called =
            rw (rest_of_log n l)
            (ap (λ (v : ℕ). called_length v (message_bytes m ++ others)) (sym good.version) ∙ (front_of_message m others good.held good.fits).1);
        header = omega (arith, long, least_message m);
        room = omega (arith, long);
        next = next_of_log n l;
        waits = waiting_of_log n l;
        here = rw (rest_of_log n l) (take_at (message_bytes m) others (message_length m) (message_bytes_length m) ∙ sym (waiting_of_log n l));
      }

-- ---- "A message made is appended to its card's L bytes, right after that card's earlier ones"

-- the log with the bytes of message m from `at` on
abbrev pub written : ℕ → Message → List ℕ → List ℕ
written at m log = take at log ++ over (message_bytes m) (drop at log)

pub readable_more : (ms : List Message) (m : Message) → AllReadable ms → Readable m → AllReadable (ms ++ m ∷ [])
readable_more ms m all good = places_more Readable no_message ms m all good

module _ (ms : List Message) (rest log : List ℕ) (is : log ≡ log_bytes ms ++ rest) (all : AllReadable ms) where
  -- where the next message goes
  pub free_place : end_of (length ms) log ≡ length (log_bytes ms)
  free_place = end_of_log ms rest log is all (length ms) (le_refl (length ms)) ∙ rw take-length

  pub free_of_log : drop (end_of (length ms) log) log ≡ rest
  free_of_log = rw (free_place, is) (drop-append_seam (log_bytes ms) rest)

  module _ (m : Message) (good : Readable m) where
    pub written_log : written (end_of (length ms) log) m log ≡ log_bytes (ms ++ m ∷ []) ++ drop (length (message_bytes m)) rest
    written_log =
        rw (free_of_log, free_place, is, take-append_seam (log_bytes ms) rest, log_bytes_append ms m)
        (sym (append_assoc (log_bytes ms) (message_bytes m) (drop (length (message_bytes m)) rest)))

    more : length (ms ++ m ∷ []) ≡ suc (length ms)
    more = length-append ms (m ∷ []) ∙ omega arith

    -- the earlier messages end where they did
    pub ends_stay : (n : ℕ) → n ≤ length ms → end_of n (written (end_of (length ms) log) m log) ≡ end_of n log
    ends_stay n l =
        end_of_log (ms ++ m ∷ []) (drop (length (message_bytes m)) rest) (written (end_of (length ms) log) m log) written_log (readable_more ms m all good) n
        (omega (arith, more))
        ∙ rw (take-append-le n ms (m ∷ []) l) (sym (end_of_log ms rest log is all n l))

    -- and the new one is as far behind them as it is long
    pub end_moves : end_of (suc (length ms)) (written (end_of (length ms) log) m log) ≡ end_of (length ms) log + message_length m
    end_moves =
        next_of_log (ms ++ m ∷ []) (drop (length (message_bytes m)) rest) (written (end_of (length ms) log) m log) written_log (readable_more ms m all good) (length ms)
        (omega (arith, more))
        ∙ rw (get_or-append_seam ms m [] no_message, ends_stay (length ms) (le_refl (length ms)))
