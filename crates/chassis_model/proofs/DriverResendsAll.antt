-- LAWS. What all cards have written, sent again link by link: each link's receiver then has all of its sender's messages, and later links take nothing from it.
use Prim.Native.Nat.{ℕ, ◌≤◌, ◌<◌}
use Rattle.std.specs.Prelude.{◌≡◌, ◌&&◌}
use Rattle.std.proofs.Math.Path.{refl, sym, ap}
use Rattle.std.proofs.Common.{◌∙◌}
use mathlib.Core.List.{List, [], ◌∷◌, ◌++◌, map}
use native.Mathlib.Omega.{arith}
use Rattle.std.proofs.Math.ListN.{length}
use Rattle.std.proofs.Math.Dec.{eqb}
use borrow.Author.Tests.{eq-eqb, eqb-true}
use Rattle.protocol.proofs.Cases.{by_test, and_left, and_right}
use Rattle.protocol.specs.RoundRobin.{Link, IsLink, times}
use Rattle.replica_model.specs.Layout.{N_of}
use Rattle.chassis_model.specs.Driver.{Call, take, Cards, called, Genuine, after, resends}
use Rattle.chassis_model.proofs.DriverMatches.{DriverAt, driver_at}
use Rattle.chassis_model.proofs.DriverSteps.{history_matches}
use Rattle.chassis_model.proofs.DriverResends.{N_stays, Resent, resent}

pub after_append : (cs ds : List Call) (st : Cards) → after (cs ++ ds) st ≡ after ds (after cs st)
unfolding after
after_append [] ds st = refl
after_append (c ∷ cs) ds st = after_append cs ds (called c st)

pub genuine_append : (cs ds : List Call) (st : Cards) → Genuine cs st → Genuine ds (after cs st) → Genuine (cs ++ ds) st
unfolding after
genuine_append [] ds st g h = h
genuine_append (c ∷ cs) ds st (g, gs) h = (g, genuine_append cs ds (called c st) gs h)

-- who takes writes nothing
takes_write_nothing : (i : ℕ) (xs : List (List ℕ)) (st : Cards) → (after (map (take i) xs) st).written ≡ st.written
unfolding after called
takes_write_nothing i [] st = refl
takes_write_nothing i (x ∷ xs) st = takes_write_nothing i xs (called (take i x) st)

pub record AllResent (r : ℕ) (written : ℕ → List (List ℕ)) (links : List Link) (st : Cards) : Type 0 where
  pub genuine : Genuine (resends links written) st
  pub stays : (after (resends links written) st).written ≡ written
  pub has_all : (i s : ℕ) → IsLink r i s → 0 < times i s links → length (written s) ≤ N_of r ((after (resends links written) st).words i) s

module _ {r k : ℕ} (written : ℕ → List (List ℕ)) where
  pub all_resent : (links : List Link) (now : DriverAt r k) → now.state.written ≡ written
      → ((i s : ℕ) → 0 < times i s links → IsLink r i s) → AllResent r written links now.state
  unfolding resends times after
  all_resent [] now is only = record { genuine = tt; stays = is; has_all = λ i s l some. absurd (omega arith) }
  all_resent (l ∷ links) now is only =
      let i = l.receiver in
      let s = l.sender in
      let l_is = only i s (rw (eq-eqb i i refl, eq-eqb s s refl) (omega arith)) in
      let cs = map (take i) (written s) in
      let here : Resent r i s (written s) now.state = rw (ap (λ (w : ℕ → List (List ℕ)). w s) is) at (resent i s l_is.0 l_is.1 l_is.2 now) in
      let then = driver_at (history_matches cs now here.genuine).0 in
      let next = all_resent links then (takes_write_nothing i (written s) now.state ∙ is) (λ j u some. only j u (omega arith)) in
      let first : length (written s) ≤ N_of r ((after (resends links written) (after cs now.state)).words i) s
      = let a = N_stays i s l_is.0 l_is.1 (resends links written) then next.genuine in
      let b = here.has_all in
      let c = ap (λ (w : ℕ → List (List ℕ)). length (w s)) is in
      omega arith in
      let split = sym (after_append cs (resends links written) now.state) in
      record {
        genuine = genuine_append cs (resends links written) now.state here.genuine next.genuine;
        stays = rw split at next.stays;
        has_all = λ j u js some.
            rw (← split)
            (by_test (eqb j i && eqb u s)
            (λ e. rw (eqb-true j i (and_left (eqb j i) (eqb u s) e), eqb-true u s (and_right (eqb j i) (eqb u s) e)) first)
            (λ e. let later = rw e at some in next.has_all j u js (omega arith)));
      }
