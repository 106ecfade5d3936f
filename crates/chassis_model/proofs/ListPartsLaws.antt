-- LAWS. A list cut into parts of n elements: a part that is put there is found there, and the other parts stay.
use Prim.Native.Nat.{ℕ, ◌+◌, ◌-◌, ◌*◌, ◌≤◌, ◌<◌}
use Rattle.std.specs.Prelude.{◌≡◌, take}
use Rattle.std.proofs.Math.Path.{sym, ap}
use Rattle.std.proofs.Common.{◌∙◌, suc-mul, mul-le-mul_right, arith, take-append-drop, length-take-le, take_at, drop_at}
use mathlib.Core.List.{List, ◌++◌}
use Rattle.std.proofs.Math.ListN.{length, drop, length-append, length-drop}
use Rattle.std.proofs.lemmas.List.{take-append-le, drop-append-le}
use Rattle.std.proofs.Math.Seq.{drop-append-add, drop-drop}
use Rattle.protocol.proofs.Cases.{by_place, by_le}
use Rattle.protocol.proofs.Tables.{put, put_at, put_other}
use Rattle.chassis_model.specs.ListParts.{part, put_part}

-- part i ends before the next begins, and so inside a list of r parts
pub part_room : (i r n : ℕ) → i < r → i * n + n ≤ r * n
part_room i r n l = omega (arith, suc-mul i n, mul-le-mul_right n l)

pub part_length : (r n i : ℕ) (xs : List ℕ) → length xs ≡ r * n → i < r → length (part n xs i) ≡ n
unfolding part
part_length r n i xs fits l = length-take-le n (drop (i * n) xs) (rw (length-drop (i * n) xs) (omega (arith, part_room i r n l)))

-- a part of a list is not changed by what follows it
pub part_front : (n j : ℕ) (zs ws : List ℕ) → j * n + n ≤ length zs → part n (zs ++ ws) j ≡ part n zs j
unfolding part
part_front n j zs ws room =
    rw (drop-append-le (j * n) zs ws (omega arith), take-append-le n (drop (j * n) zs) ws (omega (arith, length-drop (j * n) zs)))

pub put_part_same : (n i : ℕ) (xs : List ℕ) → put_part n i (part n xs i) xs ≡ xs
unfolding part put_part
put_part_same n i xs = rw (take-append-drop n (drop (i * n) xs)) (take-append-drop (i * n) xs)

module _ (r n i : ℕ) (ys xs : List ℕ) (fits : length xs ≡ r * n) (inside : i < r) (long : length ys ≡ n) where
  before : length (take (i * n) xs) ≡ i * n
  before = length-take-le (i * n) xs (omega (arith, part_room i r n inside))

  pub put_part_length : length (put_part n i ys xs) ≡ r * n
  unfolding put_part
  put_part_length =
      rw (length-append (take (i * n) xs) (ys ++ drop n (drop (i * n) xs)), length-append ys (drop n (drop (i * n) xs)), before, long, length-drop n (drop (i * n) xs), length-drop (i * n) xs)
      (omega (arith, part_room i r n inside))

  part_here : part n (put_part n i ys xs) i ≡ ys
  unfolding part put_part
  part_here = rw (drop_at (take (i * n) xs) (ys ++ drop n (drop (i * n) xs)) (i * n) before) (take_at ys (drop n (drop (i * n) xs)) n long)

  -- the same list stands before part i
  part_before : (j : ℕ) → j < i → part n (put_part n i ys xs) j ≡ part n xs j
  unfolding put_part
  part_before j l =
      let room : j * n + n ≤ length (take (i * n) xs) = omega (arith, before, part_room j i n l) in
      part_front n j (take (i * n) xs) (ys ++ drop n (drop (i * n) xs)) room
      ∙ sym (part_front n j (take (i * n) xs) (drop (i * n) xs) room)
      ∙ ap (λ (l : List ℕ). part n l j) (take-append-drop (i * n) xs)

  -- and behind it
  part_behind : (j : ℕ) → i < j → part n (put_part n i ys xs) j ≡ part n xs j
  unfolding part put_part
  part_behind j l =
      let past : ℕ = j * n - (i * n + n) in
      let place : j * n ≡ length (take (i * n) xs) + (length ys + past) = omega (arith, before, part_room i j n l) in
      let same : i * n + (n + past) ≡ j * n = omega (arith, part_room i j n l) in
      ap (take n)
      (ap (λ (at : ℕ). drop at (put_part n i ys xs)) place
      ∙ drop-append-add (take (i * n) xs) (ys ++ drop n (drop (i * n) xs)) (length ys + past)
      ∙ drop-append-add ys (drop n (drop (i * n) xs)) past
      ∙ drop-drop past n (drop (i * n) xs)
      ∙ drop-drop (n + past) (i * n) xs
      ∙ ap (λ (at : ℕ). drop at xs) same)

  pub part_put : (j : ℕ) → part n (put_part n i ys xs) j ≡ put i ys (part n xs) j
  part_put j =
      by_place j i
      (λ e. rw (put_at i ys (part n xs) j e, e) part_here)
      (λ d. rw (put_other i ys (part n xs) j d) (by_le i j (λ l. part_behind j (omega arith)) (λ l. part_before j l)))
