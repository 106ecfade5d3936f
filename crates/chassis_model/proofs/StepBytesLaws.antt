-- LAWS. Steps as bytes and as records, one way and back: the bytes of a list of steps are read as that list, and bytes of whole steps are written again as
-- they stand.
use Rattle.std.specs.Prelude.{ℕ, zero, suc, ◌+◌, ◌*◌, ◌/◌, ◌%◌, ◌≤◌, ◌≡◌, refl, List, [], ◌∷◌, ◌++◌, length, take, drop}
use Rattle.std.proofs.Common.{ap, ap₂, ◌∙◌, add_assoc, arith, length-append, take_all}
use Rattle.std.proofs.Math.Nat.{mul-mod_right, mul-div_cancel_left}
use Rattle.wire.specs.Number.{number_at, bytes_of}
use Rattle.protocol.proofs.StoredLists.{parts_join}
use Rattle.wire.specs.NumberLaws.{Bytes, number_at_below, length_bytes_of, number_at_right, number_at_bytes_of, bytes_of_number_at}
use Rattle.chassis_model.specs.Run.{Step, run_on, step_bytes, steps_bytes, StepFits, AllFit, step_at, steps_at, steps_of, run_bytes_on, step_length}
use Rattle.chassis_model.proofs.RunLaws.{whole_steps}

-- ---- lengths

step_bytes_length : (s : Step) → length (step_bytes s) ≡ step_length
unfolding step_bytes
step_bytes_length s = simp (length-append, length_bytes_of)

steps_bytes_length : (ss : List Step) → length (steps_bytes ss) ≡ step_length * length ss
unfolding steps_bytes
steps_bytes_length [] = refl
steps_bytes_length (s ∷ ss) = length-append (step_bytes s) (steps_bytes ss) ∙ omega (arith, step_bytes_length s, steps_bytes_length ss)

-- ---- steps written and read

step_read : (s : Step) (rest : List ℕ) → StepFits s → step_at (step_bytes s ++ rest) 0 ≡ s
unfolding step_bytes bytes_of number_at
step_read s rest fits =
    rw (number_at_bytes_of 4 s.kind fits.kind, number_at_bytes_of 4 s.first fits.first, number_at_bytes_of 4 s.second fits.second, number_at_bytes_of 4 s.amount fits.amount)

-- bytes before the steps are passed
step_at_right : (xs ys : List ℕ) (at : ℕ) → step_at (xs ++ ys) (length xs + at) ≡ step_at ys at
step_at_right xs ys at =
    rw (
      number_at_right 4 xs ys at,
      add_assoc (length xs) at 4,
      number_at_right 4 xs ys (at + 4),
      add_assoc (length xs) at 8,
      number_at_right 4 xs ys (at + 8),
      add_assoc (length xs) at 12,
      number_at_right 4 xs ys (at + 12),
    )

steps_at_right : (n : ℕ) (xs ys : List ℕ) (at : ℕ) → steps_at n (xs ++ ys) (length xs + at) ≡ steps_at n ys at
unfolding steps_at
steps_at_right zero xs ys at = refl
steps_at_right (suc n) xs ys at =
    rw (step_at_right xs ys at, add_assoc (length xs) at step_length) (ap (λ (ss : List Step). step_at ys at ∷ ss) (steps_at_right n xs ys (at + step_length)))

steps_read : (ss : List Step) → AllFit ss → steps_at (length ss) (steps_bytes ss) 0 ≡ ss
unfolding steps_at steps_bytes
steps_read [] fit = refl
steps_read (s ∷ ss) fit =
    let behind : steps_at (length ss) (step_bytes s ++ steps_bytes ss) step_length ≡ ss =
    rw (step_bytes_length s) at (steps_at_right (length ss) (step_bytes s) (steps_bytes ss) 0) ∙ steps_read ss fit.1 in
    ap₂ (λ (t : Step) (ts : List Step). t ∷ ts) (step_read s (steps_bytes ss) fit.0) behind

pub same_run : (r k L : ℕ) (steps : List Step) (words logs answers : List ℕ) → AllFit steps
    → run_bytes_on r k L (steps_bytes steps) words logs answers ≡ run_on r k L steps words logs answers
same_run r k L steps words logs answers fit =
    let long = steps_bytes_length steps in
    let whole : length (steps_bytes steps) % step_length ≡ 0 = rw long (mul-mod_right step_length (length steps)) in
    let count : length (steps_bytes steps) / step_length ≡ length steps = rw long (mul-div_cancel_left (length steps) (omega arith)) in
    let back : steps_of (steps_bytes steps) ≡ steps = rw count (steps_read steps fit) in
    whole_steps r k L (steps_bytes steps) words logs answers whole ∙ rw back

-- ---- bytes read and written

step_written : (bytes : List ℕ) (at : ℕ) → Bytes bytes → at + step_length ≤ length bytes → step_bytes (step_at bytes at) ≡ take step_length (drop at bytes)
unfolding step_bytes
step_written bytes at small room =
    rw (
      bytes_of_number_at 4 bytes at small (omega arith),
      bytes_of_number_at 4 bytes (at + 4) small (omega arith),
      bytes_of_number_at 4 bytes (at + 8) small (omega arith),
      bytes_of_number_at 4 bytes (at + 12) small (omega arith),
    )
    (rw (parts_join bytes at 4 4, parts_join bytes at 8 4, parts_join bytes at 12 4))

steps_written : (n : ℕ) (bytes : List ℕ) (at : ℕ) → Bytes bytes → at + step_length * n ≤ length bytes
    → steps_bytes (steps_at n bytes at) ≡ take (step_length * n) (drop at bytes)
unfolding steps_at steps_bytes
steps_written zero bytes at small room = refl
steps_written (suc n) bytes at small room =
    let more : step_length * suc n ≡ step_length + step_length * n = omega arith in
    rw (step_written bytes at small (omega arith), steps_written n bytes (at + step_length) small (omega arith), more) (parts_join bytes at step_length (step_length * n))

steps_fit : (n : ℕ) (bytes : List ℕ) (at : ℕ) → Bytes bytes → AllFit (steps_at n bytes at)
unfolding steps_at
steps_fit zero bytes at small = tt
steps_fit (suc n) bytes at small = (
  record {
    kind = number_at_below 4 bytes at small;
    first = number_at_below 4 bytes (at + 4) small;
    second = number_at_below 4 bytes (at + 8) small;
    amount = number_at_below 4 bytes (at + 12) small;
  },
  steps_fit n bytes (at + step_length) small,
)

pub steps_of_bytes : (bytes : List ℕ) → Bytes bytes → length bytes % step_length ≡ 0 → AllFit (steps_of bytes) × (steps_bytes (steps_of bytes) ≡ bytes)
steps_of_bytes bytes small whole =
    let all : step_length * (length bytes / step_length) ≡ length bytes = omega arith in (
      steps_fit (length bytes / step_length) bytes 0 small,
      steps_written (length bytes / step_length) bytes 0 small (omega arith) ∙ take_all (step_length * (length bytes / step_length)) bytes (omega arith),
    )
