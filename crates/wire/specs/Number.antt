-- DEFINITIONS. RFC 4506, sections 4.2 and 4.5: an unsigned number stands as 4 bytes (unsigned int) or 8 (unsigned hyper), the most significant first.
use Rattle.std.specs.Prelude.{ℕ, zero, suc, ◌+◌, ◌*◌, ◌/◌, ◌%◌, ◌<◌, List, [], ◌∷◌, ◌++◌, slice_index}

-- every element is a byte
abbrev pub Bytes : List ℕ → Type 0
Bytes s = (i : ℕ) → slice_index s i < 256

-- the number that the `width` bytes of s from `at` on stand for
unfoldable pub number_at : ℕ → List ℕ → ℕ → ℕ
number_at zero s at = 0
number_at (suc width) s at = number_at width s at * 256 + slice_index s (at + width)

-- the `width` bytes that stand for x
unfoldable pub bytes_of : ℕ → ℕ → List ℕ
bytes_of zero x = []
bytes_of (suc width) x = bytes_of width (x / 256) ++ (x % 256 ∷ [])

abbrev pub int_width : ℕ
int_width = 4

abbrev pub hyper_width : ℕ
hyper_width = 8

abbrev pub unsigned_int : ℕ → List ℕ
unsigned_int x = bytes_of int_width x

abbrev pub unsigned_hyper : ℕ → List ℕ
unsigned_hyper x = bytes_of hyper_width x

abbrev pub int_at : List ℕ → ℕ → ℕ
int_at s at = number_at int_width s at

abbrev pub hyper_at : List ℕ → ℕ → ℕ
hyper_at s at = number_at hyper_width s at
