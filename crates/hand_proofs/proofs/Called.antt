-- The rule for a call of a function that is known by its contract, in one step: what it is asked, by y; and once it has returned, its result, what it says of last values, the fact that it ensures, and the tokens.
-- It says nothing of the crate, and can be copied as it stands.
--     calls_fn         the call is a statement with others after it.        calls_fn_last    it is the last statement of its part, as of a loop's turn
--     calls_told       `calls_fn`, with the machine value that the result's type tells, `vals r`, in the place of the one returned
-- `clause` takes what the callee ensures to the fact φ: `λ r ws. id⊢ 𝓤 _`, where φ is its one `ensures`, as it is written.
-- Assumes `Logic`, and that the table of calls is monotone under a frame.
use mathlib.Core.Path.{sym, ap, subst}
use mathlib.Core.List.{List, [], ◌∷◌}
use seplogic.Ra.Ura.{Ura}
use mir.Syntax.{Callee, Place, Opd as Operand, Body, seq, call}
use mir.Val.{Val}
use base.Logic.{ent, id⊢}
use prog.Wp.{Env, Calls, Loops}
use types.Logic.{Logic}
use contract.Monad.{fact}
use types.Kit.{Item, ‵, raw, ◌⊛◌, some, later, Post, Goal, Soaks, runs, lands, settles, Seq, ◌$◌, move, use1, split, pick, await}
use types.Run.{Opds}
use sound.WpLaws.{FmC}
use denote.Laws.{Is, Tells, shows}
use denote.Signature.{type_at}
use denote.Steps.{only, peeks, heard}
use denote.Triple.Statement.{Contract, Triple}
use denote.Triple.Call.{calls_at, calls_at_last}
use denote.Triple.Clauses.{Ended, Clauses, Lasts, lasts, at_exit, closing}
use denote.Triple.Entry.{Res, alive}
use denote.Triple.Spec.{triple_of}

module _ {M : Type 1} {𝓤 : Ura M} (𝓛 : Logic 𝓤) (T : Ended) (c : Clauses 𝓤 T) where
  open 𝓛 use {H}

  abbrev pub Meant : Contract 𝓤
  Meant = triple_of 𝓛 T.signature (closing 𝓛 T c)

  module _ (y : Meant.Ghost) where
    abbrev Says : Type 1
    Says = Res T.signature y.0.0 → Lasts T y.0.0 y.0.3 → Type 0

    -- what the callee ensures gives the fact
    abbrev pub Clause : Says → Type 1
    Clause φ = (r : Res T.signature y.0.0) (ws : Lasts T y.0.0 y.0.3) → ent 𝓤 ((c y.0.0 y.0.3).ensures y.1 r (at_exit T y.0.0 y.0.3 ws)) (fact 𝓤 (φ r ws))

    -- what is had once it has returned w
    abbrev pub Then : (K : Type 0) → List (Item 𝓤) → Says → (Val → Goal 𝓤 H) → Type 1
    Then K Γ φ G = (w : Val) (r : Res T.signature y.0.0) (ws : Lasts T y.0.0 y.0.3) → φ r ws → Is (type_at T.signature.result y.0.0) r (w ∷ [])
        → Seq K 𝓛 (‵ ((type_at T.signature.result y.0.0).own_val r (w ∷ [])) ∷ ‵ (lasts T y.0.0 y.0.3 ws) ∷ raw (alive 𝓛 T.signature y.0.0 y.0.1) ∷ Γ) (G w)

    returned : (K : Type 0) (Γ : List (Item 𝓤)) (φ : Says) (t : K) → Clause φ → (G : Val → Goal 𝓤 H) → ((w : Val) → Soaks (G w)) → Then K Γ φ G → (w : Val) → Seq K 𝓛 (raw (Meant.post y w) ∷ Γ) (G w)
    returned K Γ φ t clause G z k w =
        use1 𝓛 (later (some (λ (r : Res T.signature y.0.0). (raw (alive 𝓛 T.signature y.0.0 y.0.1) ⊛ ‵ ((type_at T.signature.result y.0.0).own_val r (w ∷ []))) ⊛
        some (λ (ws : Lasts T y.0.0 y.0.3). ‵ (lasts T y.0.0 y.0.3 ws) ⊛ raw ((c y.0.0 y.0.3).ensures y.1 r (at_exit T y.0.0 y.0.3 ws)))))) (id⊢ 𝓤 _) $
        await t (z w) $ pick t (λ r. split t $ move t (1 ∷ []) $ pick t (λ ws. split t $ move t (1 ∷ []) $ use1 𝓛 (raw (fact 𝓤 (φ r ws))) (clause r ws) $ heard t (φ r ws) (λ e.
        move t (1 ∷ []) $ split t $ move t (1 ∷ 2 ∷ 0 ∷ []) $ peeks t (type_at T.signature.result y.0.0) (Is (type_at T.signature.result y.0.0)) (shows 𝓛 (type_at T.signature.result y.0.0)) r (w ∷ []) (λ is. k w r ws e is))))

module _ {M : Type 1} {𝓤 : Ura M} {𝓛 : Logic 𝓤} {K : Type 0} {Γ : List (Item 𝓤)} {E : Env 𝓤 𝓛.H} {C : Calls 𝓤 𝓛.H} {Λ : Loops 𝓤 𝓛.H} {q : Post 𝓤 𝓛.H} {f : Callee} {xs : List Operand} {d : Place} where
  open 𝓛 use {H}

  pub calls_fn : K → FmC 𝓤 H 𝓛.laws C → {rest : Body} (T : Ended) (c : Clauses 𝓤 T) → Triple 𝓤 (C f) (Meant 𝓛 T c) → (y : (Meant 𝓛 T c).Ghost) (φ : Res T.signature y.0.0 → Lasts T y.0.0 y.0.3 → Type 0) → Clause 𝓛 T c y φ
      → Opds K 𝓛 (raw ((Meant 𝓛 T c).pre y) ∷ Γ) E xs ((Meant 𝓛 T c).args y) → Then 𝓛 T c y K Γ φ (λ w. lands C Λ E d w rest q) → Seq K 𝓛 (raw ((Meant 𝓛 T c).pre y) ∷ Γ) (runs C Λ E (seq (call f xs d) rest) q)
  calls_fn t fm {rest} T c known y φ clause os k = calls_at t fm (Meant 𝓛 T c) known y os (returned 𝓛 T c y K Γ φ t clause (λ w. lands C Λ E d w rest q) (λ w. tt) k)

  pub calls_fn_last : K → FmC 𝓤 H 𝓛.laws C → (T : Ended) (c : Clauses 𝓤 T) → Triple 𝓤 (C f) (Meant 𝓛 T c) → (y : (Meant 𝓛 T c).Ghost) (φ : Res T.signature y.0.0 → Lasts T y.0.0 y.0.3 → Type 0) → Clause 𝓛 T c y φ
      → Opds K 𝓛 (raw ((Meant 𝓛 T c).pre y) ∷ Γ) E xs ((Meant 𝓛 T c).args y) → Then 𝓛 T c y K Γ φ (λ w. settles E d w q) → Seq K 𝓛 (raw ((Meant 𝓛 T c).pre y) ∷ Γ) (runs C Λ E (call f xs d) q)
  calls_fn_last t fm T c known y φ clause os k = calls_at_last t fm (Meant 𝓛 T c) known y os (returned 𝓛 T c y K Γ φ t clause (λ w. settles E d w q) (λ w. tt) k)

  pub calls_told : K → FmC 𝓤 H 𝓛.laws C → {rest : Body} (T : Ended) (c : Clauses 𝓤 T) → Triple 𝓤 (C f) (Meant 𝓛 T c) → (y : (Meant 𝓛 T c).Ghost) (φ : Res T.signature y.0.0 → Lasts T y.0.0 y.0.3 → Type 0) → Clause 𝓛 T c y φ
      → (vals : Res T.signature y.0.0 → List Val) → Tells (type_at T.signature.result y.0.0) (Is (type_at T.signature.result y.0.0)) vals
      → Opds K 𝓛 (raw ((Meant 𝓛 T c).pre y) ∷ Γ) E xs ((Meant 𝓛 T c).args y)
      → ((r : Res T.signature y.0.0) (ws : Lasts T y.0.0 y.0.3) → φ r ws → Is (type_at T.signature.result y.0.0) r (only (vals r) ∷ [])
      → Seq K 𝓛 (‵ ((type_at T.signature.result y.0.0).own_val r (only (vals r) ∷ [])) ∷ ‵ (lasts T y.0.0 y.0.3 ws) ∷ raw (alive 𝓛 T.signature y.0.0 y.0.1) ∷ Γ) (lands C Λ E d (only (vals r)) rest q))
      → Seq K 𝓛 (raw ((Meant 𝓛 T c).pre y) ∷ Γ) (runs C Λ E (seq (call f xs d) rest) q)
  calls_told t fm {rest} T c known y φ clause vals tells os k = calls_fn t fm T c known y φ clause os (λ w r ws e is.
      subst (λ (v : Val). Is (type_at T.signature.result y.0.0) r (v ∷ []) → Seq K 𝓛 (‵ ((type_at T.signature.result y.0.0).own_val r (v ∷ [])) ∷ ‵ (lasts T y.0.0 y.0.3 ws) ∷ raw (alive 𝓛 T.signature y.0.0 y.0.1) ∷ Γ) (lands C Λ E d v rest q))
      (sym (ap only (tells r (w ∷ []) is))) (k r ws e) is)
