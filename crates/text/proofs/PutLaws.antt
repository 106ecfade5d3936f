-- LAWS. Text stored in stretches side by side, byte by byte, as a number's digits, and at the front.
use Rattle.std.specs.Prelude.{ℕ, zero, suc, ◌+◌, ◌-◌, ◌*◌, ◌^◌, ◌≤◌, ◌<◌, ◌≡◌, refl, true, List, [], ◌++◌, length, set, take, drop}
use Rattle.std.proofs.Common.{sym, ap, ◌∙◌, mul-suc, not-suc-le-zero, add-one, sub-one, arith, append_assoc, append-nil, length-append, length-drop, length-take-le, drop-drop}
use Rattle.std.proofs.lemmas.List.{drop_all}
use Rattle.std.proofs.lemmas.List.Edits.{sets, sets-eq}
use Rattle.std.proofs.lemmas.Slice.{put_mid-paste, between_to_end}
use Rattle.std.proofs.Math.Seq.{length-sets, take-length}
use borrow.Rule.Slice.PartMut.{put_mid}
use Rattle.protocol.proofs.StoredLists.{sets_append, sets_front}
use Rattle.text.specs.Decimal.{digit, word_digits, decimal}
use Rattle.text.specs.Put.{Put, most_digits}
use Rattle.text.specs.Powers.{tens, tens_drop, PowersOfTen}
use Rattle.text.specs.DecimalLaws.{Counted, fixed}
use Rattle.text.proofs.DecimalLaws.{fixed_length, fixed_first, digits_fixed}

pub put_none : (before : List ℕ) (at : ℕ) → Put 0 before at [] before at
put_none before at = record { stored = refl; next = omega arith; short = omega arith }

-- two stretches side by side
pub put_then : {m n at a b : ℕ} {before xs mid ys after : List ℕ} → Put m before at xs mid a → Put n mid a ys after b → Put (m + n) before at (xs ++ ys) after b
put_then {at = at} {before = before} {xs = xs} {ys = ys} first second = record {
  stored = second.stored ∙ rw (first.stored, first.next) (sym (sets_append before at xs ys));
  next = omega (arith, length-append xs ys, first.next, second.next);
  short = omega (arith, first.short, second.short);
}

pub put_within : {m n at a : ℕ} {before xs after : List ℕ} → Put m before at xs after a → m ≤ n → Put n before at xs after a
put_within put more = record { stored = put.stored; next = put.next; short = omega (arith, put.short) }

-- one turn of a loop that stores a stretch of at most `each` bytes behind those of the turns before
pub put_turn : {each n at a b : ℕ} {before mid after ys : List ℕ} (f : ℕ → List ℕ) → f (suc n) ≡ f n ++ ys
    → Put (each * n) before at (f n) mid a → Put each mid a ys after b → Put (each * (n + 1)) before at (f (n + 1)) after b
put_turn {each} {n} f more first second = rw (add-one n, more, mul-suc each n) (put_then first second)

-- a text copied to where it is put
pub put_copied : (before text part : List ℕ) (at : ℕ) → at + length text ≤ length before → part ≡ text
    → Put (length text) before at text (put_mid at (at + length text - at) before part) (at + length text)
put_copied before text part at room copied = record {
  stored = put_mid-paste at (at + length text - at) before part text (length text) copied (omega arith) refl ∙ rw (take-length text) (sym (sets-eq text before at room));
  next = refl;
  short = omega arith;
}

-- bytes put to the front of those from a place on are put there
pub put_past : {most at n : ℕ} {before bytes part : List ℕ} → Put most (take (length before - at) (drop at before)) 0 bytes part n → at + most ≤ length before
    → Put most before at bytes (put_mid at (length before - at) before part) (at + n)
put_past {most} {at} {n} {before} {bytes} {part} put room = record {
  stored = rw (stored, none) (ap (λ (l : List ℕ). take at before ++ l) (append-nil (bytes ++ rest)) ∙ sym (append_assoc (take at before) bytes rest) ∙ sym (sets-eq bytes before at (omega (arith, put.next, put.short))));
  next = omega (arith, put.next);
  short = omega (arith, put.short);
}
  where
    rest : List ℕ
    rest = drop (at + length bytes) before

    stored : part ≡ bytes ++ rest
    stored =
        put.stored
        ∙ rw (between_to_end before at (length before) (omega arith)) (sets_front bytes (drop at before) (omega (arith, put.next, put.short, length-drop at before)))
        ∙ ap (λ (l : List ℕ). bytes ++ l) (drop-drop (length bytes) at before)

    none : drop (length before - at) (drop at before) ≡ []
    none = drop_all (length before - at) (drop at before) (omega (arith, length-drop at before))

-- a number's digits, the first one first: the first, and then the others
pub put_digit : (before : List ℕ) (at left d y : ℕ) → 0 < left → d < 10 → y < 10 ^ (left - 1)
    → sets (set before at (digit d)) (at + 1) (fixed (left - 1) y) ≡ sets before at (fixed left (d * 10 ^ (left - 1) + y))
put_digit before at zero d y some small below = absurd (not-suc-le-zero some)
put_digit before at (suc n) d y some small below =
    let rest : y < 10 ^ n = rw sub-one at below in
    rw (sub-one, add-one at, fixed_first n d y small rest)

-- a number's digits, stored as the last ones
pub put_digits_of : (before after : List ℕ) (at x count end : ℕ) → Counted x count → count ≤ most_digits → after ≡ sets before at (fixed count x) → end ≡ at + count
    → Put most_digits before at (decimal x) after end
put_digits_of before after at x zero end c few stored next = absurd (not-suc-le-zero c.some)
put_digits_of before after at x (suc n) end c few stored next =
    let is = digits_fixed word_digits n x (omega arith) c in record {
      stored = stored ∙ rw is;
      next = next ∙ rw (is, fixed_length);
      short = omega arith;
    }

-- the powers of a number's digits
pub powers_of : (table : List ℕ) (count : ℕ) → PowersOfTen table → 1 ≤ count → count ≤ most_digits
    → (tens (take (length table - (most_digits - count)) (drop (most_digits - count) table)) ≡ true) × (length (take (length table - (most_digits - count)) (drop (most_digits - count) table)) ≡ count)
powers_of table count right some few =
    let front = most_digits - count in
    rw (between_to_end table front (length table) (omega arith)) (tens_drop table front right.0 (omega (arith, right.1)), omega (arith, right.1, length-drop front table))

-- a text stored at the front where there is room: what it leaves, and how long it is
pub put_front : {most behind : ℕ} {out bytes after : List ℕ} → Put most out 0 bytes after behind → most ≤ length out
    → ((after ≡ bytes ++ drop (length bytes) out) × (behind ≡ length bytes)) × ((behind ≤ length after) × (behind ≡ length (take behind after)))
put_front {most} {behind} {out} {bytes} {after} put room =
    let long : behind ≡ length bytes = omega (arith, put.next) in
    let fits : length bytes ≤ length out = omega (arith, put.short) in
    let as_long : length after ≡ length out = ap length put.stored ∙ length-sets out 0 bytes in
    let inside : behind ≤ length after = omega arith in
    ((put.stored ∙ sets_front bytes out fits, long), (inside, sym (length-take-le behind after inside)))
