-- DEFINITIONS. A list cut into parts of n elements each: "Each card's replica is its own stretch of the caller's words", and so is its log of the log bytes.
use Rattle.std.specs.Prelude.{ℕ, ◌*◌, List, ◌++◌, take, drop}

-- part i
unfoldable pub part : ℕ → List ℕ → ℕ → List ℕ
part n xs i = take n (drop (i * n) xs)

-- the list with another part i
unfoldable pub put_part : ℕ → ℕ → List ℕ → List ℕ → List ℕ
put_part n i ys xs = take (i * n) xs ++ (ys ++ drop n (drop (i * n) xs))
