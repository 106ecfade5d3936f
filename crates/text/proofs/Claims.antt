-- CLAIMS. What decimal text is, in other words than those of its definition, for every number of at most 20 digits.
use Rattle.std.specs.Prelude.{ℕ, ◌^◌, ◌≤◌, ◌<◌, ◌≡◌, true, List}
use Rattle.std.proofs.Common.{lit<, lit≤}
use Rattle.text.specs.Decimal.{word_digits, decimal, number_of, plain}
use Rattle.text.proofs.TextLaws.{digits_said, digits_plain, plain_text}

-- EVERY WORD is such a number.
pub every_word : 2 ^ 64 ≤ 10 ^ word_digits
every_word = lit≤ tt

-- READ BACK. The digits of a number say that number.
pub read_back : (x : ℕ) → x < 10 ^ word_digits → number_of (decimal x) ≡ x
read_back x below = digits_said word_digits x below

-- PLAIN. They are digits and nothing else, at least one, with "no zero in front, 0 as one digit".
pub decimal_plain : (x : ℕ) → x < 10 ^ word_digits → plain (decimal x) ≡ true
decimal_plain x below = digits_plain word_digits x (lit< tt) below

-- ONE TEXT. No other text is both, however long: a plain text that says the number is its digits.
pub one_text : (text : List ℕ) → plain text ≡ true → number_of text < 10 ^ word_digits → decimal (number_of text) ≡ text
one_text text h below = plain_text word_digits text (lit< tt) h below
