-- LAWS. What a call of `deliver_pending` has made of the state it was given (`CallOk`): the deliveries made, one after the other, each accepted, lead to
-- the state it leaves; each has lowered its own link's waiting by one; and a link that is passed over was declined. Every turn keeps that.
use Prim.Native.Nat.{ℕ, zero, suc, ◌+◌, ◌≤◌, ◌<◌}
use Rattle.std.specs.Prelude.{◌≡◌, true, false, cond, eqb, length, take, drop}
use Rattle.std.proofs.Math.Path.{refl}
use Rattle.std.proofs.Common.{sym, ◌∙◌, arith, length-append, take-append-drop, eq-eqb, ne_eqb}
use Rattle.std.proofs.lemmas.Bool.{false≢true}
use mathlib.Core.List.{List, [], ◌∷◌, ◌++◌, append_assoc, append-nil}
use Rattle.protocol.proofs.Cases.{by_place, and_no_left, and_no_right}
use Rattle.protocol.proofs.Tables.{sum, sum_cong, sum_zero}
use Rattle.protocol.specs.RoundRobin.{Link, link, IsLink, Transport, Progress, turn, deliver_pending, total_waiting, times, replayed, Delivers, AllDeliver, Orderly, PassedOver}
use Rattle.protocol.proofs.RoundRobinLaws.{by_link, begun, moved, passed_over, passed_elsewhere, Due, turn_cases, call_keeps}

-- ---- how often a link was served

pub times_none : (j u : ℕ) → times j u [] ≡ 0
unfolding times
times_none j u = refl

pub times_this : (j u i s : ℕ) (ls : List Link) → j ≡ i → u ≡ s → times j u (link i s ∷ ls) ≡ suc (times j u ls)
unfolding times
times_this j u i s ls e d = rw (eq-eqb j i e, eq-eqb u s d) (omega arith)

pub times_that : (j u i s : ℕ) (ls : List Link) → (j ≡ i → u ≡ s → ⊥) → times j u (link i s ∷ ls) ≡ times j u ls
unfolding times
times_that j u i s ls d =
    by_place j i
    (λ e. rw (and_no_right (eqb j i) (eqb u s) (ne_eqb u s (d e))) (omega arith))
    (λ c. rw (and_no_left (eqb j i) (eqb u s) (ne_eqb j i c)) (omega arith))

pub times_append : (j u : ℕ) (ls ms : List Link) → times j u (ls ++ ms) ≡ times j u ls + times j u ms
unfolding times
times_append j u [] ms = omega arith
times_append j u (l ∷ ls) ms = let h = times_append j u ls ms in omega arith

-- some of the deliveries serve a link no more often than all
pub times_part : (j u n : ℕ) (ls : List Link) → times j u (take n ls) ≤ times j u ls
times_part j u n ls = let e = rw (take-append-drop n ls) at (times_append j u (take n ls) (drop n ls)) in omega arith

-- one delivery more
pub times_here : (j u i s : ℕ) (ls : List Link) → j ≡ i → u ≡ s → times j u (ls ++ link i s ∷ []) ≡ suc (times j u ls)
times_here j u i s ls e d =
    let a = times_append j u ls (link i s ∷ []) in let c = times_this j u i s [] e d in let z = times_none j u in omega arith

pub times_there : (j u i s : ℕ) (ls : List Link) → (j ≡ i → u ≡ s → ⊥) → times j u (ls ++ link i s ∷ []) ≡ times j u ls
times_there j u i s ls d =
    let a = times_append j u ls (link i s ∷ []) in let c = times_that j u i s [] d in let z = times_none j u in omega arith

-- ---- the total, when one link's waiting is lowered

sum_lowered : (n k : ℕ) (f g : ℕ → ℕ) → k < n → f k ≡ suc (g k) → ((j : ℕ) → j < n → (j ≡ k → ⊥) → f j ≡ g j) → sum n f ≡ suc (sum n g)
unfolding sum
sum_lowered zero k f g l e same = absurd (omega arith)
sum_lowered (suc n) k f g l e same =
    by_place k n
    (λ d. let rest = sum_cong n f g (λ j m. same j (omega arith) (λ c. omega arith)) in let last : f n ≡ suc (g n) = rw d at e in omega arith)
    (λ d. let rest = sum_lowered n k f g (omega arith) e (λ j m. same j (omega arith)) in let last = same n (omega arith) (λ c. d (sym c)) in omega arith)

sum_none : (n : ℕ) (f : ℕ → ℕ) → sum n f ≡ 0 → (j : ℕ) → j < n → f j ≡ 0
unfolding sum
sum_none zero f e j l = absurd (omega arith)
sum_none (suc n) f e j l = by_place j n (λ d. rw d (omega arith)) (λ d. sum_none n f (omega arith) j (omega arith))

module _ {S : Type 0} (t : Transport S) (r : ℕ) where
  abbrev on_link : S → ℕ → ℕ → ℕ
  on_link st i s = cond (eqb i s) 0 (t.waiting i s st)

  total_lowered : (i s : ℕ) (st st' : S) → IsLink r i s → t.waiting i s st ≡ suc (t.waiting i s st')
      → ((j u : ℕ) → IsLink r j u → (j ≡ i → u ≡ s → ⊥) → t.waiting j u st' ≡ t.waiting j u st)
      → total_waiting t r st ≡ suc (total_waiting t r st')
  unfolding total_waiting
  total_lowered i s st st' k one others =
      sum_lowered r i (λ j. sum r (on_link st j)) (λ j. sum r (on_link st' j)) k.0
      (sum_lowered r s (on_link st i) (on_link st' i) k.1 (rw (ne_eqb i s k.2) one) (λ u l d. elsewhere i u k.0 l (λ e c. d c)))
      (λ j l d. sum_cong r (on_link st j) (on_link st' j) (λ u m. elsewhere j u l m (λ e c. d e)))
    where
      elsewhere : (j u : ℕ) → j < r → u < r → (j ≡ i → u ≡ s → ⊥) → on_link st j u ≡ on_link st' j u
      elsewhere j u l m d =
          by_place j u (λ e. rw (eq-eqb j u e)) (λ c. rw (ne_eqb j u c) (sym (others j u (l, m, c) d)))

  pub total_none : (st : S) → total_waiting t r st ≡ 0 → (i s : ℕ) → IsLink r i s → t.waiting i s st ≡ 0
  unfolding total_waiting
  total_none st e i s k =
      let row : sum r (on_link st i) ≡ 0 = sum_none r (λ j. sum r (on_link st j)) e i k.0 in
      let cell : on_link st i s ≡ 0 = sum_none r (on_link st i) row s k.1 in
      rw (ne_eqb i s k.2) at cell

  pub total_zero : (st : S) → ((i s : ℕ) → IsLink r i s → t.waiting i s st ≡ 0) → total_waiting t r st ≡ 0
  unfolding total_waiting
  total_zero st none =
      sum_zero r _ (λ i hi. sum_zero r _ (λ s hs. by_place i s (λ e. rw (eq-eqb i s e)) (λ d. rw (ne_eqb i s d) (none i s (hi, hs, d)))))

  -- ---- deliveries one after the other

  pub deliver_first : (n : ℕ) (ls : List Link) (st : S) → AllDeliver t r ls st → AllDeliver t r (take n ls) st
  unfolding AllDeliver
  deliver_first zero ls st a = tt
  deliver_first (suc n) [] st a = tt
  deliver_first (suc n) (l ∷ ls) st a = (a.0, deliver_first n ls (t.attempt l.receiver l.sender st).state a.1)

  replayed_more : (ls : List Link) (i s : ℕ) (st : S) → replayed t (ls ++ link i s ∷ []) st ≡ (t.attempt i s (replayed t ls st)).state
  unfolding replayed
  replayed_more [] i s st = refl
  replayed_more (l ∷ ls) i s st = replayed_more ls i s (t.attempt l.receiver l.sender st).state

  deliver_more : (ls : List Link) (i s : ℕ) (st : S) → AllDeliver t r ls st → Delivers t r (link i s) (replayed t ls st)
      → AllDeliver t r (ls ++ link i s ∷ []) st
  unfolding replayed AllDeliver
  deliver_more [] i s st a e = (e, tt)
  deliver_more (l ∷ ls) i s st a e = (a.0, deliver_more ls i s (t.attempt l.receiver l.sender st).state a.1 e)

  -- ---- the invariant of a call

  pub record CallOk (Good : S → Type 0) (st : S) (p : Progress S) : Type 0 where
    pub good : Good p.state
    pub replays : p.state ≡ replayed t p.made st
    pub delivers : AllDeliver t r p.made st
    pub falls : (j u : ℕ) → IsLink r j u → t.waiting j u st ≡ times j u p.made + t.waiting j u p.state
    pub total_falls : total_waiting t r st ≡ length p.made + total_waiting t r p.state
    pub skipped : (j u : ℕ) → IsLink r j u → p.passed j u ≡ true → PassedOver t st p j u

  module _ (Good : S → Type 0) (o : Orderly t r Good) (b : ℕ) (st : S) where
    pub begun_ok : Good st → CallOk Good st (begun st)
    unfolding replayed AllDeliver times
    begun_ok g = record {
      good = g;
      replays = refl;
      delivers = tt;
      falls = λ j u k. omega arith;
      total_falls = omega arith;
      skipped = λ j u k e. absurd (false≢true e);
    }

    moved_ok : (i s : ℕ) (p : Progress S) → IsLink r i s → Due t r b i s p → (t.attempt i s p.state).accepted ≡ true
        → CallOk Good st p → CallOk Good st (moved t i s p)
    moved_ok i s p k d e h = record {
      good = o.keeps i s p.state k h.good d.waits e;
      replays = rw (replayed_more p.made i s st, ← h.replays);
      delivers = deliver_more p.made i s st h.delivers (rw (← h.replays) (k, d.waits, e));
      falls = λ j u m.
          let f = h.falls j u m in
          by_link j u i s
          (λ a c. let w : t.waiting j u p.state ≡ suc (t.waiting j u after) = rw (a, c) one in let n = times_here j u i s p.made a c in omega arith)
          (λ c. let w = others j u m c in let n = times_there j u i s p.made c in omega arith);
      total_falls =
          let f = h.total_falls in let g = total_lowered i s p.state after k one others in
          rw (length-append p.made (link i s ∷ [])) (omega arith);
      skipped = λ j u m x.
          let w = h.skipped j u m x in
          let far : j ≡ i → u ≡ s → ⊥ = λ a c. false≢true (sym d.open_yet ∙ (rw (a, c) at x)) in
          record {
            before = w.before;
            later = w.later ++ link i s ∷ [];
            in_order = rw w.in_order (append_assoc w.before w.later (link i s ∷ []));
            waited = w.waited;
            declined = w.declined;
            rest_of_call = times_there j u i s w.later far ∙ w.rest_of_call;
            keeps_waiting = others j u m far ∙ w.keeps_waiting;
          };
    }
      where
        after : S
        after = (t.attempt i s p.state).state

        one : t.waiting i s p.state ≡ suc (t.waiting i s (t.attempt i s p.state).state)
        one = o.takes_one i s p.state k h.good d.waits e

        others : (j u : ℕ) → IsLink r j u → (j ≡ i → u ≡ s → ⊥) → t.waiting j u (t.attempt i s p.state).state ≡ t.waiting j u p.state
        others = o.others_stay i s p.state k h.good d.waits e

    passed_ok : (i s : ℕ) (p : Progress S) → IsLink r i s → Due t r b i s p → (t.attempt i s p.state).accepted ≡ false
        → CallOk Good st p → CallOk Good st (passed_over t i s p)
    passed_ok i s p k d e h =
        rw (o.declined_stays i s p.state k h.good d.waits e)
        (record {
          good = h.good;
          replays = h.replays;
          delivers = h.delivers;
          falls = h.falls;
          total_falls = h.total_falls;
          skipped = λ j u m x.
              by_link j u i s
              (λ a c. record {
                before = p.made;
                later = [];
                in_order = sym (append-nil p.made);
                waited = rw (← h.replays, a, c) d.waits;
                declined = rw (← h.replays, a, c) e;
                rest_of_call = times_none j u;
                keeps_waiting = rw (← h.replays);
              })
              (λ c.
              let w = h.skipped j u m (sym (passed_elsewhere i s p.passed j u c) ∙ x) in
              record {
                before = w.before;
                later = w.later;
                in_order = w.in_order;
                waited = w.waited;
                declined = w.declined;
                rest_of_call = w.rest_of_call;
                keeps_waiting = w.keeps_waiting;
              });
        })

    pub turn_ok : (i s : ℕ) (p : Progress S) → i < r → s < r → CallOk Good st p → CallOk Good st (turn t r b i s p)
    turn_ok i s p l m h =
        turn_cases t r b (CallOk Good st) i s p
        (λ d e. moved_ok i s p (l, m, d.apart) d e h)
        (λ d e. passed_ok i s p (l, m, d.apart) d e h)
        (λ idle. h)

    pub call_ok : Good st → CallOk Good st (deliver_pending t r b st)
    call_ok g = call_keeps t r b (CallOk Good st) turn_ok st (begun_ok g)
