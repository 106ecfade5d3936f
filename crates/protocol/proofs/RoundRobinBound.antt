-- LAWS. How soon a link is served. A round makes at most r (r - 1) deliveries, and at its turn in each round a link that waits, is not passed over and
-- finds room for one more hands over one message. So after k rounds that b allows whole it has handed over k, if as many waited at the call
-- (`rounds_serve`), and the message in place q is among the first q r (r - 1) deliveries (`served_within`).
use Prim.Native.Nat.{ℕ, zero, suc, ◌+◌, ◌-◌, ◌*◌, ◌≤◌, ◌<◌}
use Rattle.std.specs.Prelude.{◌≡◌, refl, true, false, ◌⊎◌, List, [], ◌∷◌, ◌++◌, length, take}
use Rattle.std.proofs.Math.Path.{sym}
use Rattle.std.proofs.Common.{◌∙◌, true≢false, inl, append_assoc, append-nil, mul-le-mul_right, length-append}
use Rattle.std.proofs.Math.Logic.{inr}
use Rattle.std.proofs.Math.Nat.{mul-le-mul, mul-le-mul_left}
use native.Mathlib.Omega.{arith}
use Rattle.std.proofs.Math.Seq.{take-append-add}
use Rattle.protocol.proofs.Cases.{by_test, by_le, by_place}
use Rattle.protocol.specs.RoundRobin.{Link, link, IsLink, Transport, Progress, turn, senders, receivers, rounds, deliver_pending, times, Orderly}
use Rattle.protocol.proofs.RoundRobinLaws.{begun, passed_now, passed_stays, turn_own, turn_cases, rounds_on, round_through}
use Rattle.protocol.proofs.RoundRobinMade.{times_append, times_here, CallOk, begun_ok, turn_ok}

-- a link that is passed over, or has handed over k messages in this call
abbrev Served : {S : Type 0} → ℕ → ℕ → ℕ → Progress S → Type 0
Served j u k p = (p.passed j u ≡ true) ⊎ (k ≤ times j u p.made)

-- p is further on than the deliveries ls
abbrev Beyond : {S : Type 0} → List Link → Progress S → Type 0
Beyond ls p = (more : List Link) × (p.made ≡ ls ++ more)

-- the first n deliveries serve a link as often as fewer of them do
times_first : (j u n : ℕ) (ls more : List Link) → length ls ≤ n → times j u ls ≤ times j u (take n (ls ++ more))
times_first j u n ls more l =
    let d : n ≡ length ls + (n - length ls) = omega arith in
    rw (d, take-append-add ls more (n - length ls)) (omega (arith, times_append j u ls (take (n - length ls) more)))

module _ {S : Type 0} (t : Transport S) (r b : ℕ) where
  -- ---- how many deliveries turns make

  turn_length : (i s : ℕ) (p : Progress S) → length (turn t r b i s p).made ≤ suc (length p.made)
  turn_length i s p =
      turn_cases t r b (λ n. length n.made ≤ suc (length p.made)) i s p
      (λ d e. rw (length-append p.made (link i s ∷ [])) (omega arith)) (λ d e. omega arith) (λ idle. omega arith)

  -- the first n senders, before the receiver itself and past it
  senders_below : (i n : ℕ) (p : Progress S) → n ≤ i → length (senders t r b i n p).made ≤ length p.made + n
  unfolding senders
  senders_below i zero p l = omega arith
  senders_below i (suc n) p l = let h = senders_below i n p (omega arith) in let c = turn_length i n (senders t r b i n p) in omega arith

  senders_past : (i n : ℕ) (p : Progress S) → i < n → suc (length (senders t r b i n p).made) ≤ length p.made + n
  unfolding senders
  senders_past i zero p l = absurd (omega arith)
  senders_past i (suc n) p l =
      by_place i n
      (λ e. let h = senders_below i i p (omega arith) in rw (← e, turn_own t r b i (senders t r b i i p)) (omega arith))
      (λ d. let h = senders_past i n p (omega arith) in let c = turn_length i n (senders t r b i n p) in omega arith)

  receivers_length : (n : ℕ) (p : Progress S) → n ≤ r → length (receivers t r b n p).made ≤ length p.made + n * (r - 1)
  unfolding receivers
  receivers_length zero p l = omega arith
  receivers_length (suc n) p l = let h = receivers_length n p (omega arith) in let c = senders_past n r (receivers t r b n p) l in omega arith

  rounds_length : (n : ℕ) (p : Progress S) → length (rounds t r b n p).made ≤ length p.made + n * (r * (r - 1))
  unfolding rounds
  rounds_length zero p = omega arith
  rounds_length (suc n) p = let h = rounds_length n p in let c = receivers_length r (rounds t r b n p) (omega arith) in omega arith

  -- room for one more at the turn of a link, in a round that b allows whole
  turn_room : (j u n : ℕ) (st : S) → IsLink r j u → suc n * (r * (r - 1)) ≤ b
      → length (senders t r b j u (receivers t r b j (rounds t r b n (begun st)))).made < b
  turn_room j u n st k l =
      let p = rounds t r b n (begun st) in
      let a = rounds_length n (begun st) in
      let c = receivers_length j p (omega (arith, k.0)) in
      let d = mul-le-mul_right (r - 1) k.0 in
      by_le u j
      (λ h. let e = senders_below j u (receivers t r b j p) h in let apart = k.2 in let x : u < j = lt_of u j h apart in omega (arith, k.0, k.1))
      (λ h. let e = senders_past j u (receivers t r b j p) h in omega (arith, k.0, k.1))
    where
      lt_of : (u j : ℕ) → u ≤ j → (j ≡ u → ⊥) → u < j
      lt_of u j h d = by_le (suc u) j (λ m. m) (λ m. absurd (d (omega arith)))

  -- ---- what turns keep

  served_stays : (j u k i s : ℕ) (p : Progress S) → i < r → s < r → Served j u k p → Served j u k (turn t r b i s p)
  served_stays j u k i s p l m (inl e) =
      turn_cases t r b (Served j u k) i s p (λ d a. inl e) (λ d a. inl (passed_stays i s p.passed j u e)) (λ idle. inl e)
  served_stays j u k i s p l m (inr n) =
      turn_cases t r b (Served j u k) i s p (λ d a. let x = times_append j u p.made (link i s ∷ []) in inr (omega arith)) (λ d a. inr n) (λ idle. inr n)

  beyond_stays : (ls : List Link) (i s : ℕ) (p : Progress S) → i < r → s < r → Beyond ls p → Beyond ls (turn t r b i s p)
  beyond_stays ls i s p l m (more, e) =
      turn_cases t r b (Beyond ls) i s p
      (λ d a. (more ++ link i s ∷ [], rw e (append_assoc ls more (link i s ∷ []))))
      (λ d a. (more, e)) (λ idle. (more, e))

  -- ---- a link's turn

  module _ (Good : S → Type 0) (o : Orderly t r Good) (st : S) (j u : ℕ) (is : IsLink r j u) where
    serve : (k : ℕ) (p : Progress S) → length p.made < b → CallOk t r Good st p → k < t.waiting j u st
        → Served j u k p → Served j u (suc k) (turn t r b j u p)
    serve k p room h l (inl e) = served_stays j u (suc k) j u p is.0 is.1 (inl e)
    serve k p room h l (inr n) =
        turn_cases t r b (Served j u (suc k)) j u p
        (λ d a. let x = times_here j u j u p.made refl refl in inr (omega arith))
        (λ d a. inl (passed_now j u p.passed))
        (λ idle.
        let f = h.falls j u is in
        by_le (suc k) (times j u p.made) (λ m. inr m)
        (λ m. by_test (p.passed j u) (λ e. inl e)
        (λ e. absurd (idle (record { apart = is.2; room = room; open_yet = e; waits = omega arith })))))

    -- what every turn keeps of the link and of the call
    abbrev OkServed : ℕ → Progress S → Type 0
    OkServed k p = CallOk t r Good st p × Served j u k p

    ok_served_stays : (k i s : ℕ) (p : Progress S) → i < r → s < r → OkServed k p → OkServed k (turn t r b i s p)
    ok_served_stays k i s p l m h = (turn_ok t r Good o b st i s p l m h.0, served_stays j u k i s p l m h.1)

    -- k rounds that b allows whole
    rounds_serve : (k : ℕ) → Good st → k ≤ t.waiting j u st → k * (r * (r - 1)) ≤ b → OkServed k (rounds t r b k (begun st))
    unfolding rounds
    rounds_serve zero g l fits = (begun_ok t r Good o b st g, inr (omega arith))
    rounds_serve (suc k) g l fits =
        round_through t r b (OkServed k) (OkServed (suc k)) (ok_served_stays k) (ok_served_stays (suc k)) j u (rounds t r b k (begun st)) is.0 is.1
        (λ a. (turn_ok t r Good o b st j u _ is.0 is.1 a.0, serve k _ (turn_room j u k st is fits) a.0 l a.1))
        (rounds_serve k g (omega arith) (omega arith))

    -- what the link has to show at the end of a round, if it is not passed over in the whole call
    not_passed : (k m : ℕ) → m ≤ b → (rounds t r b b (begun st)).passed j u ≡ false → Served j u k (rounds t r b m (begun st))
        → k ≤ times j u (rounds t r b m (begun st)).made
    not_passed k m l e (inr h) = h
    not_passed k m l e (inl x) =
        let last = rounds t r b b (begun st) in
        let never : Served j u (suc (times j u last.made)) last
        = rounds_on t r b (Served j u (suc (times j u last.made))) (served_stays j u (suc (times j u last.made))) m b (begun st) l (inl x) in
        absurd (refuted (suc (times j u last.made)) last never e (omega arith))
      where
        refuted : (k : ℕ) (p : Progress S) → Served j u k p → p.passed j u ≡ false → times j u p.made < k → ⊥
        refuted k p (inl a) e l = true≢false (sym a ∙ e)
        refuted k p (inr h) e l = omega arith

    pub served_within : (q : ℕ) → Good st → (deliver_pending t r b st).passed j u ≡ false → q ≤ t.waiting j u st → q * (r * (r - 1)) ≤ b
        → q ≤ times j u (take (q * (r * (r - 1))) (deliver_pending t r b st).made)
    unfolding deliver_pending
    served_within q g e l fits =
        let p = rounds t r b q (begun st) in
        let some : 1 ≤ r * (r - 1) = mul-le-mul {n₁ = 1} {m₁ = 1} (omega (arith, is.0)) (two_cards is.0 is.1 is.2) in
        let few : q ≤ b = omega (arith, mul-le-mul_left q some) in
        let a = rounds_serve q g l fits in
        let h = not_passed q q few e a.1 in
        let w = rounds_length q (begun st) in
        let x = rounds_on t r b (Beyond p.made) (beyond_stays p.made) q b (begun st) few ([], sym (append-nil p.made)) in
        let y = times_first j u (q * (r * (r - 1))) p.made x.0 (omega arith) in
        rw x.1 (omega arith)
      where
        two_cards : j < r → u < r → (j ≡ u → ⊥) → 1 ≤ r - 1
        two_cards x y d = by_le 2 r (λ l. omega arith) (λ l. absurd (d (omega arith)))
