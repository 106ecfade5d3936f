-- LAWS. A part that is lent by its range, as `Sizes::replica` and `Sizes::log` give it: what is read there, and what the list is once it is written.
use Rattle.std.specs.Prelude.{ℕ, ◌+◌, ◌-◌, ◌*◌, ◌≡◌, List, ◌++◌, take, drop}
use Rattle.std.proofs.Math.Nat.{add-sub_cancel_left}
use Rattle.chassis_model.specs.ListParts.{part, put_part}

module _ (n i : ℕ) (xs : List ℕ) (start end : ℕ) (from : start ≡ i * n) (to : end ≡ start + n) where
  pub part_read : take (end - start) (drop start xs) ≡ part n xs i
  unfolding part
  part_read = rw (to, add-sub_cancel_left start n, from)

  pub part_written : (ys : List ℕ) → take start xs ++ (ys ++ drop (end - start) (drop start xs)) ≡ put_part n i ys xs
  unfolding put_part
  part_written ys = rw (to, add-sub_cancel_left start n, from)
