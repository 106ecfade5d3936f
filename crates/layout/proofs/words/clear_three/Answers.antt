-- Zeros at three places: their order is free.
use Rattle.std.proofs.Common.{List, ℕ, ◌+◌, set, ap, ◌∙◌, arith}
use Rattle.std.proofs.lemmas.List.{set_comm}
use Rattle.layout.proofs.words.clear_three.Goals as goal

pub returns : goal.returns
returns c =
    let b = c.args.words.now in
    let at = c.args.at in
    ap (λ (x : List ℕ). set x at 0) (set_comm b (at + 2) (at + 1) 0 0 (λ e. omega arith))
    ∙ set_comm (set b (at + 1) 0) (at + 2) at 0 0 (λ e. omega arith)
    ∙ ap (λ (x : List ℕ). set x (at + 2) 0) (set_comm b (at + 1) at 0 0 (λ e. omega arith))
