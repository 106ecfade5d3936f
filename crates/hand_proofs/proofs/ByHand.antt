-- The frame of a proof by hand, for a function whose contract says nothing of its parameters at exit, as where none of them is a `&mut`: what is had of them there is let go.
-- It says nothing of the crate, and can be copied as it stands.
--     ends             how the body ends: the tokens and the result are enough, with what is ensured of it
--     by_hand          from the steps of the body, over the parameters' machine values written out, to the function's statement
--     calls_framed     the table of calls there is monotone under a frame, which a call of a function that is known by its contract asks (`Called`)
-- `Silent` is a `refl` at any type that is written out.
use mathlib.Core.List.{List, [], ◌∷◌}
use Prim.Native.Nat.{ℕ}
use seplogic.Ra.Ura.{Ura}
use mir.Syntax.{Fn}
use mir.Val.{Val}
use base.Logic.{SProp, ent, id⊢, sep, emp, via, comm∗, mono_l, emp∗}
use prog.Model.{Model}
use prog.Routine.{Callee, Env}
use prog.Wp.{WpFn, Closed}
use types.Logic.{Logic, sem}
use types.Kit.{‵, raw, ◌$◌, ◌∵◌, !, qed, use0, frame, done}
use sound.WpLaws.{FmC, fm_of, WpFn-mono}
use contract.Lifetimes.{Lfts, Shares, AllOutlive}
use contract.Running.{Running, tables, tables_of}
use denote.RattleType.{Denots, Valss, flat}
use denote.Laws.{Are, Ises, Spells, valss, Tellss}
use denote.Signature.{Slot, type_at, types_at}
use denote.Triple.Statement.{Contract, Triple}
use denote.Triple.Clauses.{Clauses, Ended, Lasts, at_exit, closing}
use denote.Triple.End.{Kepts, Fins}
use denote.Triple.Entry.{Args, Res, alive, on_entry}
use denote.Triple.Spec.{triple_of}
use denote.Triple.Table.{entered}
use denote.Triple.Walked.{Stays, stay_dropped, Goes-dropped, Silent, AllGo, fits_of, has_of, on_exit, Ending, walk_of, ends_at, walked, walk_Meets}

-- nothing is kept of any parameter
module _ {n : ℕ} where
  abbrev pub gone : (ss : List (Slot n)) (ks : Kepts ss) → Stays ss ks
  gone [] ks = tt
  gone (s ∷ ss) ks = (stay_dropped s ks.0, gone ss ks.1)

  gone_fits : (κs : Lfts n) (ss : List (Slot n)) (ks : Kepts ss) (a : Denots (types_at ss κs)) (ws : Fins κs ss ks a) → fits_of κs ss ks (gone ss ks) a ws
  gone_fits κs [] ks a ws = tt
  gone_fits κs (s ∷ ss) ks a ws = (tt, gone_fits κs ss ks.1 a.1 ws.1)

module _ {M : Type 1} {𝓤 : Ura M} (𝓛 : Logic 𝓤) where
  module _ {n : ℕ} where
    gone_has : (κs : Lfts n) (ss : List (Slot n)) (ks : Kepts ss) (a : Denots (types_at ss κs)) (ws : Fins κs ss ks a) (vss : Valss (types_at ss κs)) → ent 𝓤 (emp 𝓤) (sem 𝓛 (has_of κs ss ks (gone ss ks) a ws vss))
    gone_has κs [] ks a ws vss = id⊢ 𝓤 (emp 𝓤)
    gone_has κs (s ∷ ss) ks a ws vss = via 𝓤 _ (gone_has κs ss ks.1 a.1 ws.1 vss.1) (emp∗ 𝓤 _)

    abbrev pub AllSilent : (ss : List (Slot n)) → Kepts ss → Type 1
    AllSilent [] ks = Unit {1}
    AllSilent (s ∷ ss) ks = Silent 𝓛 n s ks.0 × AllSilent ss ks.1

    all_go : (ss : List (Slot n)) (ks : Kepts ss) → AllSilent ss ks → AllGo 𝓛 n ss ks (gone ss ks)
    all_go [] ks q = tt
    all_go (s ∷ ss) ks q = (Goes-dropped 𝓛 n s ks.0 q.0, all_go ss ks.1 q.1)

  module _ (T : Ended) (c : Clauses 𝓤 T) where
    abbrev pub Leaves : Contract 𝓤
    Leaves = walk_of 𝓛 T (gone T.signature.params T.kept) c

    module _ (y : Leaves.Ghost) (v : Val) (r : Res T.signature y.0.0) (ws : Lasts T y.0.0 y.0.3) where
      abbrev Ensured : SProp 𝓤
      Ensured = (c y.0.0 y.0.3).ensures y.1 r (at_exit T y.0.0 y.0.3 ws)

      left : ent 𝓤 (sep 𝓤 (alive 𝓛 T.signature y.0.0 y.0.1) (sem 𝓛 ((type_at T.signature.result y.0.0).own_val r (v ∷ []))))
          (on_exit 𝓛 T (gone T.signature.params T.kept) y.0.0 y.0.1 y.0.4 v r y.0.3 ws)
      left =
          qed 𝓛 (raw (alive 𝓛 T.signature y.0.0 y.0.1) ∷ ‵ ((type_at T.signature.result y.0.0).own_val r (v ∷ [])) ∷ []) ∵ frame ! $
          use0 𝓛 (‵ (has_of y.0.0 T.signature.params T.kept (gone T.signature.params T.kept) y.0.3 ws y.0.4)) (gone_has y.0.0 T.signature.params T.kept y.0.3 ws y.0.4) $ frame ! $ done !

      pub ends : ent 𝓤 (emp 𝓤) Ensured
          → ent 𝓤 (sep 𝓤 (alive 𝓛 T.signature y.0.0 y.0.1) (sem 𝓛 ((type_at T.signature.result y.0.0).own_val r (v ∷ [])))) (Leaves.post y v)
      ends e =
          let P : SProp 𝓤 = on_exit 𝓛 T (gone T.signature.params T.kept) y.0.0 y.0.1 y.0.4 v r y.0.3 ws in
          via 𝓤 (Ending 𝓛 T (gone T.signature.params T.kept) c y v r ws)
          (via 𝓤 P left (via 𝓤 (sep 𝓤 (emp 𝓤) P) (emp∗ 𝓤 P) (via 𝓤 (sep 𝓤 Ensured P) (mono_l 𝓤 P e) (comm∗ 𝓤 Ensured P))))
          (ends_at 𝓛 T (gone T.signature.params T.kept) c y v r ws (gone_fits y.0.0 T.signature.params T.kept y.0.3 ws))

module _ {M : Type 1} {𝓤 : Ura M} (𝓛 : Logic 𝓤) (𝓜 : Model 𝓤 𝓛.H) (𝓡 : Running 𝓤 𝓛.H 𝓜) (γ : Env) where
  open 𝓛 use {H}

  pub calls_framed : FmC 𝓤 H 𝓛.laws (tables 𝓤 H 𝓜 𝓡 γ).C
  unfolding tables_of
  calls_framed = fm_of 𝓤 H 𝓛.laws (tables_of 𝓤 H 𝓜 (tables 𝓤 H 𝓜 𝓡 γ))

  module _ (k : Callee) (e : Fn) (closed : Closed 𝓤 H (tables 𝓤 H 𝓜 𝓡 γ).C (tables 𝓤 H 𝓜 𝓡 γ).Λ k e) (T : Ended) (c : Clauses 𝓤 T) where
    pub by_hand : AllSilent 𝓛 T.signature.params T.kept
        → (sp : (κs : Lfts T.signature.lifetimes) → Spells (types_at T.signature.params κs)) → ((κs : Lfts T.signature.lifetimes) → Tellss (types_at T.signature.params κs) (Ises (types_at T.signature.params κs)) (sp κs))
        → ((κs : Lfts T.signature.lifetimes) (qs : Shares T.signature.lifetimes) (bounds : AllOutlive T.signature.lifetimes T.signature.outlives κs) (a : Args T.signature κs) (g : (c κs a).ghost)
        → Are (types_at T.signature.params κs) (Ises (types_at T.signature.params κs)) a (valss (types_at T.signature.params κs) (sp κs) a)
        → ent 𝓤 (sep 𝓤 (on_entry 𝓛 T.signature κs qs a (valss (types_at T.signature.params κs) (sp κs) a)) ((c κs a).requires g))
        (WpFn 𝓤 H (tables 𝓤 H 𝓜 𝓡 γ).C (tables 𝓤 H 𝓜 𝓡 γ).Λ e (flat (types_at T.signature.params κs) (valss (types_at T.signature.params κs) (sp κs) a))
        ((Leaves 𝓛 T c).post ((κs, qs, bounds, a, valss (types_at T.signature.params κs) (sp κs) a), g))))
        → Triple 𝓤 ((tables 𝓤 H 𝓜 𝓡 γ).C k) (triple_of 𝓛 T.signature (closing 𝓛 T c))
    unfolding tables_of
    by_hand silent sp tl steps =
        let C = (tables 𝓤 H 𝓜 𝓡 γ).C in
        let Λ = (tables 𝓤 H 𝓜 𝓡 γ).Λ in
        entered 𝓤 H (triple_of 𝓛 T.signature (closing 𝓛 T c)) C Λ k e closed
        (walk_Meets 𝓛 T (gone T.signature.params T.kept) (all_go 𝓛 T.signature.params T.kept silent) c (WpFn 𝓤 H C Λ e) (WpFn-mono 𝓤 H 𝓛.laws (tables_of 𝓤 H 𝓜 (tables 𝓤 H 𝓜 𝓡 γ)) e)
        (walked 𝓛 T (gone T.signature.params T.kept) c (WpFn 𝓤 H C Λ e) sp tl steps))
