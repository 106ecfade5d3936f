-- LAWS. How a run begins: "sizes are right" over plain lengths; and the fresh replicas, written one part after the other.
use Prim.Native.Nat.{ℕ, suc, ◌+◌, ◌*◌}
use Rattle.std.specs.Prelude.{◌≡◌, refl, Bool, true, ◌&&◌, length, eqb}
use Rattle.std.proofs.Common.{sym, suc-mul, take_at}
use mathlib.Core.List.{List, ◌++◌, append_assoc}
use Rattle.std.proofs.Math.Numerals.{add-one}
use Rattle.std.proofs.Math.ListN.{drop}
use Rattle.std.proofs.Math.Seq.{drop_at, drop-drop}
use Rattle.replica_model.specs.Layout.{replica_length, fresh_words}
use Rattle.replica_model.specs.ClaimTerms.{Sizes}
use Rattle.replica_model.proofs.RowLaws.{sizes, tests}
use Rattle.chassis_model.specs.ListParts.{put_part}
use Rattle.chassis_model.specs.Run.{answer_length, chassis_fits, sizes_right, fresh_replicas}
use Rattle.chassis_model.proofs.FreshRun.{fresh_length}

-- ---- sizes

abbrev pub lengths_right : ℕ → ℕ → ℕ → ℕ → ℕ → ℕ → ℕ → Bool
lengths_right r k L steps words logs answers = chassis_fits r k L words logs && eqb answers (answer_length * steps)

pub sizes_by_length : (r k L steps : ℕ) (words logs answers : List ℕ)
    → sizes_right r k L steps words logs answers ≡ lengths_right r k L steps (length words) (length logs) (length answers)
unfolding sizes_right
sizes_by_length r k L steps words logs answers = refl

-- what they say
pub record RightLengths (r k L steps words logs answers : ℕ) : Type 0 where
  pub sized : Sizes r k
  pub words_fit : words ≡ r * replica_length r k
  pub logs_fit : logs ≡ r * L
  pub answers_fit : answers ≡ answer_length * steps

pub right_lengths : (r k L steps words logs answers : ℕ) → lengths_right r k L steps words logs answers ≡ true → RightLengths r k L steps words logs answers
unfolding chassis_fits
right_lengths r k L steps words logs answers right =
    let f = simp tests at right in
    record { sized = sizes r k f.0.0.0; words_fit = f.0.0.1; logs_fit = f.0.1; answers_fit = f.1 }

-- ---- fresh replicas

module _ (r k : ℕ) where
  -- the replicas of the first n cards are fresh, and the words behind them as they were: one card more
  pub fresh_next : (n : ℕ) (words : List ℕ)
      → put_part (replica_length r k) n (fresh_words r k n) (fresh_replicas r k n ++ drop (n * replica_length r k) words)
      ≡ fresh_replicas r k (n + 1) ++ drop ((n + 1) * replica_length r k) words
  unfolding put_part fresh_replicas
  fresh_next n words =
      let size : ℕ = replica_length r k in
      let first : List ℕ = fresh_replicas r k n in
      let rest : List ℕ = drop (n * size) words in
      let next : n * size + size ≡ (n + 1) * size = rw (add-one n) (sym (suc-mul n size)) in
      rw (take_at first rest (n * size) (fresh_length r k n), drop_at first rest (n * size) (fresh_length r k n), drop-drop size (n * size) words, next, add-one n)
      (sym (append_assoc first (fresh_words r k n) (drop (suc n * size) words)))
