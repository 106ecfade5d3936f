-- DEFINITIONS. A number as decimal text, and the number that such a text says.
use Rattle.std.specs.Prelude.{ℕ, zero, suc, ◌+◌, ◌-◌, ◌*◌, ◌/◌, ◌%◌, List, [], ◌∷◌, ◌++◌, Bool, true, false, cond, ◌&&◌, leb, ltb}

-- a digit in ASCII
abbrev pub digit : ℕ → ℕ
digit d = 48 + d

-- the decimal digits of a number of at most `most` digits, with no zero in front
unfoldable pub digits : ℕ → ℕ → List ℕ
digits zero x = []
digits (suc most) x = cond (ltb x 10) (digit x ∷ []) (digits most (x / 10) ++ digit (x % 10) ∷ [])

-- a word has at most 20 digits
abbrev pub word_digits : ℕ
word_digits = 20

-- "exactly its decimal digits, no zero in front, 0 as one digit"
abbrev pub decimal : ℕ → List ℕ
decimal x = digits word_digits x

-- the number that digits say, behind others that say `front`
unfoldable pub said : ℕ → List ℕ → ℕ
said front [] = front
said front (c ∷ text) = said (10 * front + (c - digit 0)) text

abbrev pub number_of : List ℕ → ℕ
number_of text = said 0 text

-- 0 to 9 in ASCII and nothing else
unfoldable pub only_digits : List ℕ → Bool
only_digits [] = true
only_digits (c ∷ text) = leb (digit 0) c && leb c (digit 9) && only_digits text

-- "no zero in front, 0 as one digit", of a text
unfoldable pub plain : List ℕ → Bool
plain [] = false
plain (c ∷ []) = only_digits (c ∷ [])
plain (c ∷ d ∷ text) = only_digits (c ∷ d ∷ text) && ltb (digit 0) c
