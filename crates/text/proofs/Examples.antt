-- CLAIMS. Numbers as decimal text, computed on the definitions: 0, 10, MAX, the largest of sixteen digits, the largest word; and texts that are plain or not.
use Rattle.std.specs.Prelude.{◌≡◌, refl, true, false, [], ◌∷◌}
use Rattle.text.specs.Decimal.{digits, decimal, said, number_of, only_digits, plain}

pub decimals : (decimal 0 ≡ 48 ∷ [])
    × (decimal 9 ≡ 57 ∷ [])
    × (decimal 10 ≡ 49 ∷ 48 ∷ [])
    × (decimal 281474976710655 ≡ 50 ∷ 56 ∷ 49 ∷ 52 ∷ 55 ∷ 52 ∷ 57 ∷ 55 ∷ 54 ∷ 55 ∷ 49 ∷ 48 ∷ 54 ∷ 53 ∷ 53 ∷ [])
    × (decimal 9999999999999999 ≡ 57 ∷ 57 ∷ 57 ∷ 57 ∷ 57 ∷ 57 ∷ 57 ∷ 57 ∷ 57 ∷ 57 ∷ 57 ∷ 57 ∷ 57 ∷ 57 ∷ 57 ∷ 57 ∷ [])
    × (decimal 18446744073709551615 ≡ 49 ∷ 56 ∷ 52 ∷ 52 ∷ 54 ∷ 55 ∷ 52 ∷ 52 ∷ 48 ∷ 55 ∷ 51 ∷ 55 ∷ 48 ∷ 57 ∷ 53 ∷ 53 ∷ 49 ∷ 54 ∷ 49 ∷ 53 ∷ [])
unfolding digits
decimals = (refl, refl, refl, refl, refl, refl)

-- the texts 0, 7, 10 and 907 are plain; no text at all, 00, 07, 1/ and 1: are not
pub plain_texts : ((plain (48 ∷ []) ≡ true) × (plain (55 ∷ []) ≡ true) × (plain (49 ∷ 48 ∷ []) ≡ true) × (plain (57 ∷ 48 ∷ 55 ∷ []) ≡ true))
    × ((plain [] ≡ false) × (plain (48 ∷ 48 ∷ []) ≡ false) × (plain (48 ∷ 55 ∷ []) ≡ false) × (plain (49 ∷ 47 ∷ []) ≡ false) × (plain (49 ∷ 58 ∷ []) ≡ false))
unfolding only_digits plain
plain_texts = ((refl, refl, refl, refl), (refl, refl, refl, refl, refl))

-- the text 907 says 907, 007 says 7, no text at all says 0
pub said_texts : (number_of (57 ∷ 48 ∷ 55 ∷ []) ≡ 907) × (number_of (48 ∷ 48 ∷ 55 ∷ []) ≡ 7) × (number_of [] ≡ 0)
unfolding said
said_texts = (refl, refl, refl)
