-- LAWS. The waiting message by its place: what stands there is the waiting part, and it ends inside the log.
use Rattle.std.specs.Prelude.{ℕ, zero, suc, ◌+◌, ◌-◌, ◌≤◌, ◌≡◌, refl, List, [], length, take, drop}
use Rattle.std.proofs.Common.{sym, ap, ◌∙◌, arith, length-drop, length-take, length-take-le, drop-drop, eq-eqb, ne_eqb}
use Rattle.std.proofs.Math.Seq.{take-length}
use Rattle.protocol.proofs.Cases.{by_place}
use Rattle.wire.specs.Message.{version_2, front_length}
use Rattle.chassis_model.specs.Log.{waiting_part, end_of, waiting_span}
use Rattle.chassis_model.proofs.Ends.{front_within, ends_within}

-- the message behind the first n
part_behind : (n : ℕ) (log : List ℕ) → take (length (waiting_part (suc n) log)) (drop (end_of n log) log) ≡ waiting_part (suc n) log
unfolding waiting_part end_of
part_behind zero log = rw (length-take-le (front_length version_2 log) log (front_within log))
part_behind (suc n) log =
    by_place (front_length version_2 log) 0
    (λ e. rw (eq-eqb (front_length version_2 log) 0 e))
    (λ d.
    rw (ne_eqb (front_length version_2 log) 0 d, ← (drop-drop (end_of n (drop (front_length version_2 log) log)) (front_length version_2 log) log))
    (part_behind n (drop (front_length version_2 log) log)))

-- message number q, where there is one
part_from : (q : ℕ) (log : List ℕ) → take (length (waiting_part q log)) (drop (end_of (q - 1) log) log) ≡ waiting_part q log
unfolding waiting_part
part_from zero log = refl
part_from (suc n) log = let before : suc n - 1 ≡ n = omega arith in rw before (part_behind n log)

none_there : (xs : List ℕ) → length xs ≡ 0 → [] ≡ xs
none_there xs none = ap (λ (n : ℕ). take n xs) (sym none) ∙ take-length xs

pub span_is_part : (q : ℕ) (log : List ℕ) → take (waiting_span q log).length (drop (waiting_span q log).start log) ≡ waiting_part q log
unfolding waiting_span
span_is_part q log =
    by_place (length (waiting_part q log)) 0
    (λ e. rw (eq-eqb (length (waiting_part q log)) 0 e) (none_there (waiting_part q log) e))
    (λ d. rw (ne_eqb (length (waiting_part q log)) 0 d) (part_from q log))

pub span_inside : (q : ℕ) (log : List ℕ) → (waiting_span q log).start + (waiting_span q log).length ≤ length log
unfolding waiting_span
span_inside q log =
    by_place (length (waiting_part q log)) 0
    (λ e. rw (eq-eqb (length (waiting_part q log)) 0 e) (omega arith))
    (λ d.
    let long = length-take (length (waiting_part q log)) (drop (end_of (q - 1) log) log) in
    let same = ap length (part_from q log) in
    let rest = length-drop (end_of (q - 1) log) log in
    let within = ends_within (q - 1) log in
    rw (ne_eqb (length (waiting_part q log)) 0 d) (omega arith))
