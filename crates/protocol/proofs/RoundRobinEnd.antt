-- LAWS. When a call ends. A round that makes no delivery leaves no link due (`quiet_round`), and where none is due nothing changes any more
-- (`settled`): so the call has made b deliveries, or no link that is not passed over has one waiting (`stops`).
use Prim.Native.Nat.{ℕ, zero, suc, ◌≤◌, ◌<◌}
use Rattle.std.specs.Prelude.{◌≡◌, refl, true, ◌⊎◌, [], ◌∷◌}
use Rattle.std.proofs.Common.{sym, ap, ◌∙◌, true≢false, arith, length-append}
use Rattle.std.proofs.Math.Bool.{false}
use Rattle.std.proofs.Math.Logic.{inl, inr}
use Rattle.std.proofs.Math.ListN.{length}
use Rattle.protocol.proofs.Cases.{by_le, not_yes}
use Rattle.protocol.specs.RoundRobin.{link, IsLink, Transport, Progress, turn, receivers, rounds, deliver_pending, total_waiting, Orderly}
use Rattle.protocol.proofs.RoundRobinLaws.{begun, passed_over, passed_now, passed_stays, Due, turn_cases, rounds_on, call_keeps, round_through}
use Rattle.protocol.proofs.RoundRobinMade.{total_none, CallOk, begun_ok, turn_ok, call_ok}

module _ {S : Type 0} (t : Transport S) (r b : ℕ) where
  pub at_most : (st : S) → length (deliver_pending t r b st).made ≤ b
  at_most st =
      call_keeps t r b (λ p. length p.made ≤ b)
      (λ i s p l m h.
      turn_cases t r b (λ p. length p.made ≤ b) i s p
      (λ d e. let x = d.room in rw (length-append p.made (link i s ∷ [])) (omega arith)) (λ d e. h) (λ idle. h))
      st (omega arith)

  -- ---- no link is due

  abbrev pub NoneDue : Progress S → Type 0
  NoneDue p = (i s : ℕ) → IsLink r i s → Due t r b i s p → ⊥

  settled_turn : (p : Progress S) → NoneDue p → (i s : ℕ) (n : Progress S) → i < r → s < r → n ≡ p → turn t r b i s n ≡ p
  settled_turn p none i s n l m e =
      ap (turn t r b i s) e
      ∙ turn_cases t r b (λ n. n ≡ p) i s p
      (λ d a. absurd (none i s (l, m, d.apart) d)) (λ d a. absurd (none i s (l, m, d.apart) d)) (λ idle. refl)

  pub settled : (m n : ℕ) (p : Progress S) → m ≤ n → NoneDue (rounds t r b m p) → rounds t r b n p ≡ rounds t r b m p
  settled m n p l none =
      rounds_on t r b (λ x. x ≡ rounds t r b m p) (settled_turn (rounds t r b m p) none) m n p l refl

  -- ---- a round that makes no delivery

  module _ (Good : S → Type 0) (o : Orderly t r Good) (p : Progress S) (g : Good p.state) where
    -- since p a delivery was made; or none was, the state is p's, and `rest` holds
    abbrev Quiet : (Progress S → Type 0) → Progress S → Type 0
    Quiet rest n = (length p.made < length n.made) ⊎ ((n.state ≡ p.state) × (length n.made ≡ length p.made) × rest n)

    same_state : (i s : ℕ) (n : Progress S) → i < r → s < r → n.state ≡ p.state → Due t r b i s n → (t.attempt i s n.state).accepted ≡ false
        → (t.attempt i s n.state).state ≡ n.state
    same_state i s n l m e d a = o.declined_stays i s n.state (l, m, d.apart) (rw e g) d.waits a

    module _ (rest : Progress S → Type 0)
        (keeps : (i s : ℕ) (n : Progress S) → (t.attempt i s n.state).state ≡ n.state → rest n → rest (passed_over t i s n)) where
      quiet_stays : (i s : ℕ) (n : Progress S) → i < r → s < r → Quiet rest n → Quiet rest (turn t r b i s n)
      quiet_stays i s n l m (inl h) =
          turn_cases t r b (Quiet rest) i s n
          (λ d a. inl (rw (length-append n.made (link i s ∷ [])) (omega arith))) (λ d a. inl h) (λ idle. inl h)
      quiet_stays i s n l m (inr h) =
          turn_cases t r b (Quiet rest) i s n
          (λ d a. let x = h.1 in inl (rw (length-append n.made (link i s ∷ [])) (omega arith)))
          (λ d a. let e = same_state i s n l m h.0 d a in inr (e ∙ h.0, h.1, keeps i s n e h.2))
          (λ idle. inr h)

    module _ (j u : ℕ) (is : IsLink r j u) where
      not_due_stays : (i s : ℕ) (n : Progress S) → (t.attempt i s n.state).state ≡ n.state → (Due t r b j u n → ⊥) → Due t r b j u (passed_over t i s n) → ⊥
      not_due_stays i s n e none d =
          none (record {
            apart = d.apart;
            room = d.room;
            open_yet = not_yes (n.passed j u) (λ y. true≢false (sym (passed_stays i s n.passed j u y) ∙ d.open_yet));
            waits = rw e at d.waits;
          })

      -- behind its turn a link is not due
      quiet_turn : (n : Progress S) → Quiet (λ n. Unit {0}) n → Quiet (λ n. Due t r b j u n → ⊥) (turn t r b j u n)
      quiet_turn n (inl h) =
          turn_cases t r b (Quiet (λ n. Due t r b j u n → ⊥)) j u n
          (λ d a. inl (rw (length-append n.made (link j u ∷ [])) (omega arith))) (λ d a. inl h) (λ idle. inl h)
      quiet_turn n (inr h) =
          turn_cases t r b (Quiet (λ n. Due t r b j u n → ⊥)) j u n
          (λ d a. let x = h.1 in inl (rw (length-append n.made (link j u ∷ [])) (omega arith)))
          (λ d a. inr (same_state j u n is.0 is.1 h.0 d a ∙ h.0, h.1, λ y. true≢false (sym (passed_now j u n.passed) ∙ y.open_yet)))
          (λ idle. inr (h.0, h.1, idle))

      quiet_link : Quiet (λ n. Due t r b j u n → ⊥) (receivers t r b r p)
      quiet_link =
          round_through t r b (Quiet (λ n. Unit {0})) (Quiet (λ n. Due t r b j u n → ⊥))
          (quiet_stays (λ n. Unit {0}) (λ i s n e x. tt)) (quiet_stays (λ n. Due t r b j u n → ⊥) not_due_stays)
          j u p is.0 is.1 (quiet_turn _) (inr (refl, refl, tt))

    pub quiet_round : length (receivers t r b r p).made ≤ length p.made → NoneDue (receivers t r b r p)
    quiet_round l j u is d = ended (receivers t r b r p) l (quiet_link j u is) d
      where
        ended : (n : Progress S) → length n.made ≤ length p.made → Quiet (λ n. Due t r b j u n → ⊥) n → Due t r b j u n → ⊥
        ended n l (inl h) d = omega arith
        ended n l (inr h) d = h.2 d

  -- ---- the call as a whole

  module _ (Good : S → Type 0) (o : Orderly t r Good) (st : S) (g : Good st) where
    pub rounds_ok : (n : ℕ) → CallOk t r Good st (rounds t r b n (begun st))
    unfolding rounds
    rounds_ok n = rounds_on t r b (CallOk t r Good st) (turn_ok t r Good o b st) 0 n (begun st) (omega arith) (begun_ok t r Good o b st g)

    -- each round makes a delivery, or there is none to make
    pub rounds_grow : (n : ℕ) → (n ≤ length (rounds t r b n (begun st)).made) ⊎ NoneDue (rounds t r b n (begun st))
    unfolding rounds
    rounds_grow zero = inl (omega arith)
    rounds_grow (suc n) = next (rounds_grow n)
      where
        next : (n ≤ length (rounds t r b n (begun st)).made) ⊎ NoneDue (rounds t r b n (begun st))
            → (suc n ≤ length (receivers t r b r (rounds t r b n (begun st))).made) ⊎ NoneDue (receivers t r b r (rounds t r b n (begun st)))
        next (inl h) =
            by_le (length (receivers t r b r (rounds t r b n (begun st))).made) (length (rounds t r b n (begun st)).made)
            (λ l. inr (quiet_round Good o (rounds t r b n (begun st)) (rounds_ok n).good l))
            (λ l. inl (omega arith))
        next (inr none) = inr (rw (settled n (suc n) (begun st) (omega arith) none) none)

    pub stops : (length (deliver_pending t r b st).made ≡ b)
        ⊎ ((i s : ℕ) → IsLink r i s → (deliver_pending t r b st).passed i s ≡ false → t.waiting i s (deliver_pending t r b st).state ≡ 0)
    unfolding deliver_pending
    stops =
        by_le b (length (rounds t r b b (begun st)).made)
        (λ l. let m = at_most st in inl (omega arith))
        (λ l. inr (λ i s k e. empty l i s k e (rounds_grow b)))
      where
        empty : length (rounds t r b b (begun st)).made < b → (i s : ℕ) → IsLink r i s → (rounds t r b b (begun st)).passed i s ≡ false
            → (b ≤ length (rounds t r b b (begun st)).made) ⊎ NoneDue (rounds t r b b (begun st)) → t.waiting i s (rounds t r b b (begun st)).state ≡ 0
        empty l i s k e (inl h) = absurd (omega arith)
        empty l i s k e (inr none) =
            by_le (t.waiting i s (rounds t r b b (begun st)).state) 0
            (λ m. omega arith)
            (λ m. absurd (none i s k (record { apart = k.2; room = l; open_yet = e; waits = m })))

    pub drained : ((i s : ℕ) → IsLink r i s → (deliver_pending t r b st).passed i s ≡ false) → total_waiting t r st ≤ b
        → (i s : ℕ) → IsLink r i s → t.waiting i s (deliver_pending t r b st).state ≡ 0
    drained none enough i s k = either stops
      where
        either : (length (deliver_pending t r b st).made ≡ b)
            ⊎ ((i s : ℕ) → IsLink r i s → (deliver_pending t r b st).passed i s ≡ false → t.waiting i s (deliver_pending t r b st).state ≡ 0)
            → t.waiting i s (deliver_pending t r b st).state ≡ 0
        either (inl e) = let f = (call_ok t r Good o b st g).total_falls in total_none t r (deliver_pending t r b st).state (omega arith) i s k
        either (inr h) = h i s k (none i s k)

    pub never_passed : ((i s : ℕ) (x : S) → IsLink r i s → Good x → 0 < t.waiting i s x → (t.attempt i s x).accepted ≡ true)
        → (i s : ℕ) → (deliver_pending t r b st).passed i s ≡ false
    never_passed accepts i s =
        (call_keeps t r b (λ p. CallOk t r Good st p × (p.passed i s ≡ false))
        (λ j u p l m h. (
          turn_ok t r Good o b st j u p l m h.0,
          turn_cases t r b (λ p. p.passed i s ≡ false) j u p (λ d e. h.1)
              (λ d e. absurd (true≢false (sym (accepts j u p.state (l, m, d.apart) h.0.good d.waits) ∙ e))) (λ idle. h.1),
        ))
        st (begun_ok t r Good o b st g, refl)).1
