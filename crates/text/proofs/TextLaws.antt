-- LAWS. What decimal text says: digits read back, and a text made of digits is that of the number that it says.
use Rattle.std.specs.Prelude.{ℕ, zero, suc, ◌+◌, ◌-◌, ◌*◌, ◌/◌, ◌%◌, ◌^◌, ◌≤◌, ◌<◌, ◌≡◌, refl, Bool, true, false, List, [], ◌∷◌, ◌++◌, ltb, length}
use Rattle.std.proofs.Common.{ap, ◌∙◌, zero-add, pow-suc, div-lt_iff_lt-mul, le-div_iff_mul-le, mod-lt, mul-le-mul_right, add-mul, mul_assoc, not-suc-le-zero, sub-one, arith, lit<}
use Rattle.std.proofs.lemmas.Bool.{false≢true}
use Rattle.std.proofs.Math.Nat.{pow-le-pow_right, div-add-mod}
use Rattle.protocol.proofs.Cases.{by_le}
use Rattle.protocol.proofs.Tests.{tests}
use Rattle.text.specs.Decimal.{digit, digits, said, number_of, only_digits, plain}
use Rattle.text.specs.DecimalLaws.{fixed}
use Rattle.text.proofs.DecimalLaws.{fixed_first, digits_one, digits_more, digits_fixed}

-- ---- digits read back

said_last : (front : ℕ) (text : List ℕ) (c : ℕ) → said front (text ++ c ∷ []) ≡ 10 * said front text + (c - digit 0)
unfolding said
said_last front [] c = refl
said_last front (a ∷ text) c = said_last (10 * front + (a - digit 0)) text c

pub digits_said : (most x : ℕ) → x < 10 ^ most → number_of (digits most x) ≡ x
unfolding digits said
digits_said zero x below = omega arith
digits_said (suc most) x below =
    by_le 10 x
    (λ large.
    let less : x / 10 < 10 ^ most = (div-lt_iff_lt-mul (lit< tt)).1 (rw pow-suc at below) in
    ap number_of (digits_more most x large) ∙ said_last 0 (digits most (x / 10)) (digit (x % 10))
    ∙ rw (digits_said most (x / 10) less) (omega (arith, div-add-mod x 10)))
    (λ small. ap number_of (digits_one most x small) ∙ omega arith)

-- ---- a text of digits

said_front : (front : ℕ) (text : List ℕ) → said front text ≡ front * 10 ^ length text + number_of text
unfolding said
said_front front [] = omega arith
said_front front (c ∷ text) =
    let d = c - digit 0 in
    let tens = 10 ^ length text in
    let all : said front (c ∷ text) ≡ (10 * front + d) * tens + number_of text = said_front (10 * front + d) text in
    let behind : number_of (c ∷ text) ≡ d * tens + number_of text = rw zero-add (said_front d text) in
    omega (arith, all, behind, add-mul (10 * front) d tens, mul_assoc 10 front tens, ap (λ (x : ℕ). front * x) (pow-suc 10 (length text)), mul_assoc front tens 10)

first_said : (c : ℕ) (text : List ℕ) → number_of (c ∷ text) ≡ (c - digit 0) * 10 ^ length text + number_of text
unfolding said
first_said c text = rw zero-add (said_front (c - digit 0) text)

-- the digits of a text are those of the number that it says
text_fixed : (text : List ℕ) → only_digits text ≡ true → (number_of text < 10 ^ length text) × (fixed (length text) (number_of text) ≡ text)
unfolding only_digits said fixed
text_fixed [] h = (lit< tt, refl)
text_fixed (c ∷ text) h =
    let f = simp tests at h in
    let d = c - digit 0 in
    let tens = 10 ^ length text in
    let rest = text_fixed text f.1 in
    let is = first_said c text in
    let some : d ≤ 9 = omega (arith, f.0) in
    let back : digit d ≡ c = omega (arith, f.0) in (
      omega (arith, is, rest.0, pow-suc 10 (length text), mul-le-mul_right tens some),
      ap (fixed (suc (length text))) is ∙ fixed_first (length text) d (number_of text) (omega arith) rest.0 ∙ rw (rest.1, back),
    )

-- ---- the text of a number is plain

-- the first digit is not 0
leads : List ℕ → Bool
leads [] = false
leads (c ∷ text) = ltb (digit 0) c

leads_append : (xs ys : List ℕ) → leads xs ≡ true → leads (xs ++ ys) ≡ true
unfolding leads
leads_append [] ys h = absurd (false≢true h)
leads_append (c ∷ xs) ys h = h

only_append : (xs ys : List ℕ) → only_digits xs ≡ true → only_digits ys ≡ true → only_digits (xs ++ ys) ≡ true
unfolding only_digits
only_append [] ys h k = k
only_append (c ∷ xs) ys h k = let f = simp tests at h in simp tests (f.0, only_append xs ys f.1 k)

plain_from : (text : List ℕ) → only_digits text ≡ true → leads text ≡ true → plain text ≡ true
unfolding plain leads
plain_from [] h l = absurd (false≢true l)
plain_from (c ∷ []) h l = h
plain_from (c ∷ d ∷ text) h l = simp tests (h, simp tests at l)

-- the digits of a number that is not 0 begin with one that is not 0
digits_lead : (most x : ℕ) → 1 ≤ x → x < 10 ^ most → leads (digits most x) ≡ true
unfolding leads
digits_lead zero x some below = absurd (omega arith)
digits_lead (suc most) x some below =
    by_le 10 x
    (λ large.
    rw (digits_more most x large)
    (leads_append (digits most (x / 10)) (digit (x % 10) ∷ [])
    (digits_lead most (x / 10) ((le-div_iff_mul-le (lit< tt)).1 large) ((div-lt_iff_lt-mul (lit< tt)).1 (rw pow-suc at below)))))
    (λ small. rw (digits_one most x small) (simp tests (omega arith)))

only_one : (d : ℕ) → d < 10 → only_digits (digit d ∷ []) ≡ true
unfolding only_digits
only_one d small = simp tests ((omega arith, omega arith), refl)

digits_only : (most x : ℕ) → only_digits (digits most x) ≡ true
unfolding digits only_digits
digits_only zero x = refl
digits_only (suc most) x =
    by_le 10 x
    (λ large. rw (digits_more most x large) (only_append (digits most (x / 10)) (digit (x % 10) ∷ []) (digits_only most (x / 10)) (only_one (x % 10) (mod-lt x (lit< tt)))))
    (λ small. rw (digits_one most x small) (only_one x small))

pub digits_plain : (most x : ℕ) → 1 ≤ most → x < 10 ^ most → plain (digits most x) ≡ true
unfolding plain
digits_plain zero x some below = absurd (not-suc-le-zero some)
digits_plain (suc most) x some below =
    by_le 1 x
    (λ more. plain_from (digits (suc most) x) (digits_only (suc most) x) (digits_lead (suc most) x more below))
    (λ none. let small : x < 10 = omega arith in rw (digits_one most x small) (only_one x small))

-- a text of digits, the first of which is 0 only where it is the only one, that says a number of at most `most` digits: it is no longer than these
text_digits : (most c : ℕ) (text : List ℕ) → 1 ≤ most → only_digits (c ∷ text) ≡ true → (1 ≤ length text → digit 0 < c) → number_of (c ∷ text) < 10 ^ most
    → digits most (number_of (c ∷ text)) ≡ c ∷ text
text_digits most c text some only lead below =
    digits_fixed most (length text) (number_of (c ∷ text)) short
    (record { some = omega arith; below = t.0; full = λ two. rw sub-one (full (omega arith)) })
    ∙ t.1
  where
    t : (number_of (c ∷ text) < 10 ^ suc (length text)) × (fixed (suc (length text)) (number_of (c ∷ text)) ≡ c ∷ text)
    t = text_fixed (c ∷ text) only

    full : 1 ≤ length text → 10 ^ length text ≤ number_of (c ∷ text)
    full more =
        let one : 1 ≤ c - digit 0 = omega (arith, lead more) in
        omega (arith, first_said c text, mul-le-mul_right (10 ^ length text) one)

    short : length text < most
    short =
        by_le most (length text)
        (λ long.
        let power : 10 ^ most ≤ 10 ^ length text = pow-le-pow_right (lit< tt) long in
        absurd (omega (arith, power, full (omega arith), below)))
        (λ less. less)

pub plain_text : (most : ℕ) (text : List ℕ) → 1 ≤ most → plain text ≡ true → number_of text < 10 ^ most → digits most (number_of text) ≡ text
unfolding plain
plain_text most [] some h below = absurd (false≢true h)
plain_text most (c ∷ []) some h below = text_digits most c [] some h (λ none. absurd (not-suc-le-zero none)) below
plain_text most (c ∷ d ∷ text) some h below = let f = simp tests at h in text_digits most c (d ∷ text) some f.0 (λ more. f.1) below
