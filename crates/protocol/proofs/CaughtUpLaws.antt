-- LAWS. On a caught-up card the names cancelled are those cleared in the plain sense. One way: a received clear cancels what its sender had received, or a message that the
-- sender had received does, and the card has that one too. The other way: what some received message cancels was known to a clear among the messages that came before it,
-- and the card has all of these. So the value, the number of names received and not cancelled, is the plain one.
use Prim.Native.Nat.{ℕ, zero, suc, ◌+◌, ◌-◌, ◌≤◌, ◌<◌}
use Rattle.std.specs.Prelude.{◌≡◌, Bool, false, ◌&&◌, leb}
use Rattle.std.proofs.Math.Path.{sym}
use Rattle.std.proofs.Common.{◌∙◌, le_refl}
use Rattle.std.proofs.Math.Bool.{true, cond, false≢true}
use mathlib.Core.List.{List, []}
use native.Mathlib.Omega.{arith}
use Rattle.std.proofs.Math.ListN.{length}
use borrow.Author.Tests.{ltb-true, lt-ltb, leb-true, le-leb}
use Rattle.protocol.proofs.Cases.{by_test, by_le, and_yes, and_left, and_right}
use Rattle.protocol.proofs.Tables.{sum, sum_cong}
use Rattle.protocol.specs.Names.{Name, name, has, latest}
use Rattle.protocol.proofs.NameLaws.{Prefixes, tally_is}
use Rattle.protocol.proofs.Totals.{all_has, all_total, some_total, sum_at_least, sum_some, sum_grows, sum_none}
use Rattle.protocol.specs.Ledger.{Ledger, ledger_value}
use Rattle.protocol.specs.Chassis.{Offer, read_value}
use Rattle.protocol.specs.Runs.{after_run, ledger_after}
use Rattle.protocol.proofs.Theorem.{run_invariant, ledger_theorem}
use Rattle.protocol.specs.History.{Sent, ids, History, some_of, all_of, total, history_after, caught_up, increments_of, clear_of, plainly_cleared, plain_value}
use Rattle.protocol.proofs.Messages.{Told, Table, message_at, knew, made_of, KnownIn, Closed, AllClearsIn}
use Rattle.protocol.proofs.HistoryLaws.{Known, run_history}

module _ (r q : ℕ) (T : Table) (N : ℕ → ℕ → ℕ) (l : Ledger) (h : History) (k : Known r q T N l h) (i : ℕ) where
  -- a card from which i has received something is there
  heard_below : (s n : ℕ) → n < N i s → s < r
  heard_below s n a =
      by_le r s
      (λ far. let z : N i s ≤ length {A = Told} [] = rw (k.outside s far) at (k.within i s) in absurd (omega arith))
      (λ near. near)

  -- a place that counts
  place_counts : (f : Sent → ℕ) (s n : ℕ) → n < N i s → f (message_at T s n).sent ≤ total f (h.received i)
  place_counts f s n a =
      let below = heard_below s n a in
      let x = sum_at_least (N i s) (λ m. f (message_at T s m).sent) n a in
      let y = sum_at_least r (λ j. sum (N i j) (λ m. f (message_at T j m).sent)) s below in
      let z = k.totals i f in
      omega arith

  -- a received message that passes a test: there is one, or none
  some_yes : (p : Sent → Bool) (s n : ℕ) → n < N i s → p (message_at T s n).sent ≡ true → some_of p (h.received i) ≡ true
  some_yes p s n a e =
      some_total p (h.received i)
      ∙ lt-ltb 0 _ (let x : cond (p (message_at T s n).sent) 1 0 ≤ total (λ m. cond (p m) 1 0) (h.received i) = place_counts (λ m. cond (p m) 1 0) s n a in
      let y : 1 ≤ total (λ m. cond (p m) 1 0) (h.received i) = rw e at x in y)

  some_where {ℓ} : {P : Type ℓ} (p : Sent → Bool) → some_of p (h.received i) ≡ true
      → ((s n : ℕ) → n < N i s → p (message_at T s n).sent ≡ true → P) → P
  some_where p e f =
      sum_some r _ (rw (k.totals i (λ m. cond (p m) 1 0)) at (ltb-true 0 (total (λ m. cond (p m) 1 0) (h.received i)) (sym (some_total p (h.received i)) ∙ e)))
      (λ s below some. sum_some (N i s) _ some
      (λ n a one. by_test (p (message_at T s n).sent) (f s n a) (λ e. let z : 0 < 0 = rw e at one in absurd (omega arith))))

  all_everywhere : (p : Sent → Bool) → all_of p (h.received i) ≡ true → (s n : ℕ) → n < N i s → p (message_at T s n).sent ≡ true
  all_everywhere p e s n a =
      by_test (p (message_at T s n).sent) (λ y. y)
      (λ y.
      let x : cond (p (message_at T s n).sent) 0 1 ≤ total (λ m. cond (p m) 0 1) (h.received i) = place_counts (λ m. cond (p m) 0 1) s n a in
      let x₁ : 1 ≤ total (λ m. cond (p m) 0 1) (h.received i) = rw y at x in
      let z = all_total p (h.received i) e in
      absurd (omega arith))

  -- what a caught-up card has received is closed
  closed : caught_up i h ≡ true → Closed T (N i)
  unfolding caught_up
  closed e s n a b c =
      let before = all_everywhere (λ m. all_of (has (ids (h.received i))) m.before) e s n b in
      by_le (knew (message_at T s n) c) 0
      (λ z. omega arith)
      (λ z. ((k.names i).only c (knew (message_at T s n) c)
      (all_has (has (ids (h.received i))) (message_at T s n).sent.before (name c (knew (message_at T s n) c)) before
      ((k.messages s n a).before_is.all c (knew (message_at T s n) c) z (omega arith)))).1)

  module _ (caught : caught_up i h ≡ true) (g : ℕ → ℕ) (kc : Prefixes (l.cancelled i) g) where
    -- what a received clear's sender had received is cancelled
    cleared_cancelled : (s n : ℕ) → n < N i s → clear_of q (message_at T s n).sent ≡ true → KnownIn q T (has (l.cancelled i)) (message_at T s n)
    cleared_cancelled s n b e =
        let a : n < length (T s) = let w = k.within i s in omega arith in
        (k.messages s n a).clear_cancels e (has (l.cancelled i))
        (λ c m x y. (k.cards i).cancelled_all c m x (let z = closed caught s n a b c in omega arith))
        ((k.cards i).cancelled_all s n a b)

    -- and what is cancelled had been received by the sender of a received clear
    clear_knows : Name → Sent → Bool
    clear_knows x d = clear_of q d && leb x.ordinal (made_of q T x.card (latest x.card d.before))

    cleared_in : Name → Bool
    cleared_in x = some_of (clear_knows x) (h.received i)

    clears_in : AllClearsIn q T (N i) cleared_in
    unfolding cleared_in clear_knows
    clears_in s n a b e j o u v = some_yes (clear_knows (name j o)) s n b (and_yes _ _ e (le-leb o (made_of q T j (knew (message_at T s n) j)) v))

    cancelled_cleared : (j o : ℕ) → has (l.cancelled i) (name j o) ≡ true → cleared_in (name j o) ≡ true
    cancelled_cleared =
        (k.cards i).cancelled_from cleared_in
        (λ s n a b. (k.messages s n a).cancels_cleared (N i) cleared_in (closed caught) clears_in (closed caught s n a b) (clears_in s n a b))

    -- so, of card j's n-th message, if i has received it: it is cleared exactly if its names are cancelled
    made_grows : (j m n : ℕ) → m ≤ n → made_of q T j m ≤ made_of q T j n
    made_grows j m n a = sum_grows (λ x. increments_of q (message_at T j x).sent) m n a

    cleared_yes : (j n : ℕ) → n < N i j → plainly_cleared q i h (message_at T j n).sent ≡ true → made_of q T j (suc n) ≤ g j
    unfolding plainly_cleared
    cleared_yes j n b e =
        some_where (λ d. clear_of q d && has d.before (message_at T j n).sent.id) e
        (λ s m c d.
        let a : m < length (T s) = let w = k.within i s in omega arith in
        let id : (message_at T j n).sent.id ≡ name j (suc n) = (k.messages j n (let w = k.within i j in omega arith)).id_is in
        let clears = and_left (clear_of q (message_at T s m).sent) _ d in
        let in_before : has (message_at T s m).sent.before (name j (suc n)) ≡ true = rw id at (and_right (clear_of q (message_at T s m).sent) _ d) in
        let knows = ((k.messages s m a).before_is.only j (suc n) in_before).1 in
        by_le (made_of q T j (suc n)) 0
        (λ z. omega arith)
        (λ z. (kc.only j (made_of q T j (suc n)) (cleared_cancelled s m c clears j (made_of q T j (suc n)) z (made_grows j (suc n) (knew (message_at T s m) j) knows))).1))

    cleared_no : (j n : ℕ) → n < N i j → plainly_cleared q i h (message_at T j n).sent ≡ false → g j ≤ made_of q T j n
    unfolding plainly_cleared cleared_in clear_knows
    cleared_no j n b e =
        by_le (g j) (made_of q T j n) (λ z. z)
        (λ z. absurd (some_where (clear_knows (name j (suc (made_of q T j n))))
        (cancelled_cleared j (suc (made_of q T j n)) (kc.all j (suc (made_of q T j n)) (omega arith) z))
        (λ s m c d.
        let clears = and_left (clear_of q (message_at T s m).sent) _ d in
        let reach = leb-true (suc (made_of q T j n)) (made_of q T j (knew (message_at T s m) j)) (and_right (clear_of q (message_at T s m).sent) _ d) in
        let a : m < length (T s) = let w = k.within i s in omega arith in
        let id : (message_at T j n).sent.id ≡ name j (suc n) = (k.messages j n (let w = k.within i j in omega arith)).id_is in
        by_le (suc n) (knew (message_at T s m) j)
        (λ y.
        let in_before : has (message_at T s m).sent.before (message_at T j n).sent.id ≡ true
        = rw id ((k.messages s m a).before_is.all j (suc n) (omega arith) y) in
        false≢true (sym e ∙ some_yes (λ d. clear_of q d && has d.before (message_at T j n).sent.id) s m c (and_yes _ _ clears in_before)))
        (λ y. let w = made_grows j (knew (message_at T s m) j) n (omega arith) in absurd (omega arith)))))

    -- the increments of card j that are not cleared
    by_card : (j n : ℕ) → n ≤ N i j
        → sum n (λ m. cond (plainly_cleared q i h (message_at T j m).sent) 0 (increments_of q (message_at T j m).sent)) ≡ made_of q T j n - g j
    unfolding sum
    by_card j zero a = omega arith
    by_card j (suc n) a =
        let rest = by_card j n (omega arith) in
        by_test (plainly_cleared q i h (message_at T j n).sent)
        (λ e. let c : made_of q T j n + increments_of q (message_at T j n).sent ≤ g j = cleared_yes j n a e in rw e (omega arith))
        (λ e. let c = cleared_no j n a e in rw e (omega arith))

    plain_is : ledger_value i l ≡ plain_value q i h
    unfolding ledger_value plain_value
    plain_is =
        tally_is r (l.received i) (l.cancelled i) _ g (k.cards i).received_is kc none
        ∙ sum_cong r _ _ (λ j below. sym (by_card j (N i j) (le_refl (N i j))))
        ∙ sym (k.totals i (λ m. cond (plainly_cleared q i h m) 0 (increments_of q m)))
      where
        none : (j : ℕ) → r ≤ j → made_of q T j (N i j) ≡ 0
        none j far = let z : N i j ≤ length {A = Told} [] = rw (k.outside j far) at (k.within i j) in let z₁ : N i j ≡ 0 = omega arith in rw (z₁, sum_none)

-- after any list of steps
pub plain_ledger : (r q i : ℕ) (os : List Offer) → caught_up i (history_after r os) ≡ true
    → ledger_value i (ledger_after r q os) ≡ plain_value q i (history_after r os)
plain_ledger r q i os caught =
    let k = run_history r q os in
    plain_is r q k.table k.N (ledger_after r q os) (history_after r os) k.known i caught _ ((run_invariant r q os).cards i).cancelled_is

pub plain_theorem : (r q i : ℕ) (os : List Offer) → caught_up i (history_after r os) ≡ true
    → read_value r q ((after_run r os).replica i) ≡ plain_value q i (history_after r os)
plain_theorem r q i os caught = (ledger_theorem r q i os).value ∙ plain_ledger r q i os caught
