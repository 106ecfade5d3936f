-- LAWS. `deliver_pending` over any transport, turn by turn. A turn makes a delivery, passes its link over, or does nothing (`turn_cases`). What every
-- turn keeps, later rounds and the call keep (`rounds_on`, `call_keeps`); what one link's turn brings about, its round has at the end (`round_through`).
use Rattle.std.specs.Prelude.{ℕ, zero, suc, ◌≤◌, ◌<◌, ◌≡◌, refl, Bool, true, false, not, [], ◌∷◌, ◌++◌, eqb, ltb, length}
use Rattle.std.proofs.Common.{sym, ◌∙◌, arith, ltb-true, lt-ltb, eq-eqb, ne_eqb}
use Rattle.std.proofs.Math.Bool.{false≢true}
use Rattle.std.proofs.lemmas.Bool.{eqb-false, not-true}
use Rattle.protocol.proofs.Cases.{by_test, by_le, by_place, and_left, and_right}
use Rattle.protocol.proofs.Tables.{put, put_same_row, put_other_row, put_same, put_other}
use Rattle.protocol.specs.RoundRobin.{link, Transport, Progress, is_due, tried, turn, senders, receivers, rounds, deliver_pending}

-- one link, or another
pub by_link {ℓ} : {P : Type ℓ} (j u i s : ℕ) → (j ≡ i → u ≡ s → P) → ((j ≡ i → u ≡ s → ⊥) → P) → P
by_link j u i s same other = by_place j i (λ e. by_place u s (same e) (λ d. other (λ a c. d c))) (λ d. other (λ a c. d a))

-- the call's beginning; what a delivery leaves that is made, and one that is declined
abbrev pub begun : {S : Type 0} → S → Progress S
begun st = record { state = st; made = []; passed = λ i s. false }

abbrev pub moved : {S : Type 0} → Transport S → ℕ → ℕ → Progress S → Progress S
moved t i s p = record { state = (t.attempt i s p.state).state; made = p.made ++ link i s ∷ []; passed = p.passed }

abbrev pub passed_over : {S : Type 0} → Transport S → ℕ → ℕ → Progress S → Progress S
passed_over t i s p = record { state = (t.attempt i s p.state).state; made = p.made; passed = put i (put s true (p.passed i)) p.passed }

-- the table of links passed over, when one more is
pub passed_now : (i s : ℕ) (f : ℕ → ℕ → Bool) → put i (put s true (f i)) f i s ≡ true
passed_now i s f = rw (put_same_row i (put s true (f i)) f s) (put_same s true (f i))

pub passed_elsewhere : (i s : ℕ) (f : ℕ → ℕ → Bool) (j u : ℕ) → (j ≡ i → u ≡ s → ⊥) → put i (put s true (f i)) f j u ≡ f j u
passed_elsewhere i s f j u d =
    by_place j i
    (λ e. rw (e, put_same_row i (put s true (f i)) f u) (put_other s true (f i) u (d e)))
    (λ c. put_other_row i (put s true (f i)) f j u c)

pub passed_stays : (i s : ℕ) (f : ℕ → ℕ → Bool) (j u : ℕ) → f j u ≡ true → put i (put s true (f i)) f j u ≡ true
passed_stays i s f j u e = by_link j u i s (λ a c. rw (a, c) (passed_now i s f)) (λ d. passed_elsewhere i s f j u d ∙ e)

-- what each number hands to the next, m hands to n
onward : (P : ℕ → Type 0) (m n : ℕ) → ((k : ℕ) → k < n → P k → P (suc k)) → m ≤ n → P m → P n
onward P m zero next l p = let e : m ≡ 0 = omega arith in rw e at p
onward P m (suc n) next l p =
    by_le m n
    (λ h. next n (omega arith) (onward P m n (λ k g. next k (omega arith)) h p))
    (λ h. let e : m ≡ suc n = omega arith in rw e at p)

module _ {S : Type 0} (t : Transport S) (r b : ℕ) where
  -- why a delivery is tried
  pub record Due (i s : ℕ) (p : Progress S) : Type 0 where
    pub apart : i ≡ s → ⊥
    pub room : length p.made < b
    pub open_yet : p.passed i s ≡ false
    pub waits : 0 < t.waiting i s p.state

  pub due : (i s : ℕ) (p : Progress S) → is_due t r b i s p ≡ true → Due i s p
  due i s p e =
      let e₁ = and_right (not (eqb i s)) _ e in
      let e₂ = and_right (ltb (length p.made) b) _ e₁ in
      record {
        apart = eqb-false i s (not-true (eqb i s) (and_left (not (eqb i s)) _ e));
        room = ltb-true (length p.made) b (and_left (ltb (length p.made) b) _ e₁);
        open_yet = not-true (p.passed i s) (and_left (not (p.passed i s)) _ e₂);
        waits = ltb-true 0 (t.waiting i s p.state) (and_right (not (p.passed i s)) _ e₂);
      }

  is_due_yes : (i s : ℕ) (p : Progress S) → Due i s p → is_due t r b i s p ≡ true
  is_due_yes i s p d =
      rw (ne_eqb i s d.apart, lt-ltb (length p.made) b d.room, d.open_yet, lt-ltb 0 (t.waiting i s p.state) d.waits)

  pub turn_own : (i : ℕ) (p : Progress S) → turn t r b i i p ≡ p
  unfolding turn
  turn_own i p = rw (eq-eqb i i refl)

  -- a turn makes a delivery, passes its link over, or does nothing
  pub turn_cases : (P : Progress S → Type 0) (i s : ℕ) (p : Progress S)
      → (Due i s p → (t.attempt i s p.state).accepted ≡ true → P (moved t i s p))
      → (Due i s p → (t.attempt i s p.state).accepted ≡ false → P (passed_over t i s p))
      → ((Due i s p → ⊥) → P p) → P (turn t r b i s p)
  unfolding turn tried
  turn_cases P i s p taken declined idle =
      by_test (is_due t r b i s p)
      (λ e. rw e
      (by_test (t.attempt i s p.state).accepted (λ a. rw a (taken (due i s p e) a)) (λ a. rw a (declined (due i s p e) a))))
      (λ e. rw e (idle (λ d. false≢true (sym e ∙ is_due_yes i s p d))))

  -- ---- what every turn keeps

  module _ (P : Progress S → Type 0) (keeps : (i s : ℕ) (p : Progress S) → i < r → s < r → P p → P (turn t r b i s p)) where
    senders_on : (i m n : ℕ) (p : Progress S) → i < r → m ≤ n → n ≤ r → P (senders t r b i m p) → P (senders t r b i n p)
    unfolding senders
    senders_on i m n p below l e = onward (λ k. P (senders t r b i k p)) m n (λ k h. keeps i k (senders t r b i k p) below (omega arith)) l

    receivers_on : (m n : ℕ) (p : Progress S) → m ≤ n → n ≤ r → P (receivers t r b m p) → P (receivers t r b n p)
    unfolding receivers senders
    receivers_on m n p l e =
        onward (λ k. P (receivers t r b k p)) m n (λ k h. senders_on k 0 r (receivers t r b k p) (omega arith) (omega arith) (omega arith)) l

    pub rounds_on : (m n : ℕ) (p : Progress S) → m ≤ n → P (rounds t r b m p) → P (rounds t r b n p)
    unfolding rounds receivers
    rounds_on m n p l = onward (λ k. P (rounds t r b k p)) m n (λ k h. receivers_on 0 r (rounds t r b k p) (omega arith) (omega arith)) l

    pub call_keeps : (st : S) → P (begun st) → P (deliver_pending t r b st)
    unfolding deliver_pending rounds
    call_keeps st = rounds_on 0 b (begun st) (omega arith)

  -- a round by way of one link's turn: P up to it, Q from it on
  pub round_through : (P Q : Progress S → Type 0)
      → ((i s : ℕ) (p : Progress S) → i < r → s < r → P p → P (turn t r b i s p))
      → ((i s : ℕ) (p : Progress S) → i < r → s < r → Q p → Q (turn t r b i s p))
      → (j u : ℕ) (p : Progress S) → j < r → u < r
      → (P (senders t r b j u (receivers t r b j p)) → Q (turn t r b j u (senders t r b j u (receivers t r b j p))))
      → P p → Q (receivers t r b r p)
  unfolding receivers senders
  round_through P Q keeps_P keeps_Q j u p l m at_turn k =
      receivers_on Q keeps_Q (suc j) r p l (omega arith)
      (senders_on Q keeps_Q j (suc u) r (receivers t r b j p) l m (omega arith)
      (at_turn
      (senders_on P keeps_P j 0 u (receivers t r b j p) l (omega arith) (omega arith)
      (receivers_on P keeps_P 0 j p (omega arith) (omega arith) k))))
