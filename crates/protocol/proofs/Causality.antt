-- LAWS. What a card has cancelled comes from the messages that it has received (`CardKnows`), and what a card sends is in order (`MessageOk`): a clear cancels what its
-- sender had received, or this was cancelled before; and a message cancels only what its sender had received, if it is a clear, and what was cancelled before.
use Rattle.std.specs.Prelude.{ℕ, zero, suc, ◌+◌, ◌≤◌, ◌<◌, max, ◌≡◌, Bool, true, false, cond, eqb}
use Rattle.std.proofs.Math.Path.{refl}
use Rattle.std.proofs.Common.{sym, ◌∙◌, le_refl}
use Rattle.std.proofs.lemmas.Bool.{false≢true}
use mathlib.Core.List.{List, []}
use native.Mathlib.Omega.{arith}
use Rattle.std.proofs.Math.ListN.{length}
use borrow.Author.Tests.{lt-ltb, ltb-false, eq-eqb, ne_eqb}
use Rattle.protocol.proofs.Cases.{by_place, by_le, by_test, and_no_right, or_left}
use Rattle.protocol.proofs.Tables.{put, put_same, put_other, put_agrees, sum}
use Rattle.protocol.specs.Names.{Name, name, has, join, names_after, names_up_to, latest, beyond}
use Rattle.protocol.proofs.NameLaws.{Prefixes, Prefixes_cong, join_ok, latest_is, beyond_is}
use Rattle.protocol.proofs.Joins.{has_none, from_append, has_append_left, has_append_right, from_join, has_join_left, has_join_right, names_after_only, names_after_all}
use Rattle.protocol.proofs.Totals.{sum_suc}
use Rattle.protocol.specs.Ledger.{Item, Ledger, nothing, count_item, clear_item, clear_names, holds}
use Rattle.protocol.specs.History.{Sent, increments_of, clear_of}
use Rattle.protocol.proofs.Messages.{Told, Table, message_at, made_of, CancelsIn, AllCancelsIn, MessageOk, AllOk, more, message_old, place_cases, made_old, each_old}

-- every name of a set is in P
abbrev pub NamesIn : (Name → Bool) → List Name → Type 0
NamesIn P s = (j o : ℕ) → has s (name j o) ≡ true → P (name j o) ≡ true

-- A card that has received the first N j messages of each card j, and its two sets: what is cancelled there is what those messages cancel.
pub record CardKnows (q : ℕ) (T : Table) (N : ℕ → ℕ) (received cancelled : List Name) : Type 0 where
  pub received_is : Prefixes received (λ j. made_of q T j (N j))
  pub cancelled_from : (P : Name → Bool) → AllCancelsIn T N P → NamesIn P cancelled
  pub cancelled_all : AllCancelsIn T N (has cancelled)

-- some card makes one more message
pub card_more : (q : ℕ) (T : Table) (i : ℕ) (t : Told) (N : ℕ → ℕ) (r c : List Name) → ((j : ℕ) → N j ≤ length (T j))
    → CardKnows q T N r c → CardKnows q (more T i t) N r c
card_more q T i t N r c within k = record {
  received_is = Prefixes_cong r _ _ (λ j. sym (made_old T i t q j (N j) (within j))) k.received_is;
  cancelled_from = λ P all. k.cancelled_from P (each_old T i t N (CancelsIn P) all);
  cancelled_all = λ s n l m.
      place_cases T i t s n l
      (λ a. rw (message_old T i t s n a) (k.cancelled_all s n a m))
      (λ e d. let w : N i ≤ length (T i) = within i in let m₁ : n < N i = rw e at m in absurd (omega arith));
}

-- the card takes the next message of card s
pub card_takes : (q : ℕ) (T : Table) (N : ℕ → ℕ) (r c : List Name) (s : ℕ) → N s < length (T s) → MessageOk q T s (N s) (message_at T s (N s))
    → CardKnows q T N r c
    → CardKnows q T (put s (suc (N s)) N) (join (message_at T s (N s)).item.adds r) (join (message_at T s (N s)).item.cancels c)
card_takes q T N r c s waits ok k = record {
  received_is =
      rw ok.adds_are
      (Prefixes_cong _ _ _
      (λ j. sym (put_agrees s (max (made_of q T s (N s)) (made_of q T s (N s) + w)) (λ j. made_of q T j (N j)) (λ j. made_of q T j (put s (suc (N s)) N j))
      (rw (put_same s (suc (N s)) N, sum_suc (N s) (λ m. increments_of q (message_at T s m).sent)) (omega arith))
      (λ i d. rw put_other) j))
      (join_ok w (made_of q T s (N s)) s r (λ j. made_of q T j (N j)) (le_refl (made_of q T s (N s))) k.received_is));
  cancelled_from = λ P all j o h.
      from_join (message_at T s (N s)).item.cancels c (name j o) h
      (all s (N s) waits (rw put_same (omega arith)) j o)
      (k.cancelled_from P (λ i n a b. all i n a (step i n b)) j o);
  cancelled_all = λ i n a b j o h.
      by_le (suc n) (N i)
      (λ old. has_join_right (message_at T s (N s)).item.cancels c (name j o) (k.cancelled_all i n a old j o h))
      (λ new.
      by_place i s
      (λ e.
      let b₁ : n < suc (N s) = rw (e, put_same s (suc (N s)) N) at b in
      let new₁ : N s < suc n = rw e at new in
      let d : n ≡ N s = omega arith in
      has_join_left (message_at T s (N s)).item.cancels c (name j o) (rw (e, d) at h))
      (λ d. let b₁ : n < N i = rw (put_other s (suc (N s)) N i d) at b in absurd (omega arith)));
}
  where
    w : ℕ
    w = increments_of q (message_at T s (N s)).sent

    step : (i n : ℕ) → n < N i → n < put s (suc (N s)) N i
    step i n l =
        by_place i s
        (λ e. let l₁ : n < N s = rw e at l in rw (e, put_same s (suc (N s)) N) (omega arith))
        (λ d. rw (put_other s (suc (N s)) N i d) l)

-- ---- the names that a clear cancels

-- the latest name of j in either of card i's sets
abbrev pub latest_of : ℕ → ℕ → Ledger → ℕ
latest_of i j l = max (latest j (l.received i)) (latest j (l.cancelled i))

pub clear_names_only : (r i : ℕ) (l : Ledger) (j o : ℕ) → has (clear_names r i l) (name j o) ≡ true → (0 < o) × (o ≤ latest_of i j l)
unfolding clear_names
clear_names_only zero i l j o h = has_none (name j o) h
clear_names_only (suc r) i l j o h =
    from_append (clear_names r i l) (cond (holds i r l) (names_up_to r (latest_of i r l)) []) (name j o) h
    (clear_names_only r i l j o)
    (λ g. by_test (holds i r l)
    (λ e.
    let q = names_after_only r 0 (latest_of i r l) j o (rw e at g) in
    (q.1, rw q.0 (omega arith)))
    (λ e. has_none (name j o) (rw e at g)))

pub clear_names_all : (r i : ℕ) (l : Ledger) (j o : ℕ) → j < r → holds i j l ≡ true → 0 < o → o ≤ latest_of i j l → has (clear_names r i l) (name j o) ≡ true
unfolding clear_names
clear_names_all zero i l j o below h a b = absurd (omega arith)
clear_names_all (suc r) i l j o below h a b =
    by_place j r
    (λ e. has_append_right (clear_names r i l) (cond (holds i r l) (names_up_to r (latest_of i r l)) []) (name j o)
    (rw (← e, h) (names_after_all j 0 (latest_of i j l) o a (omega arith))))
    (λ d. has_append_left (clear_names r i l) (cond (holds i r l) (names_up_to r (latest_of i r l)) []) (name j o)
    (clear_names_all r i l j o (omega arith) h a b))

-- ---- what card i makes

module _ (r q : ℕ) (T : Table) (ok : AllOk q T) (outside : (j : ℕ) → r ≤ j → T j ≡ []) (i : ℕ) (N : ℕ → ℕ) (within : (j : ℕ) → N j ≤ length (T j))
    (own : N i ≡ length (T i)) (l : Ledger) (k : CardKnows q T N (l.received i) (l.cancelled i)) (g : ℕ → ℕ) (kc : Prefixes (l.cancelled i) g)
    (before : List Name) (kb : Prefixes before N) where
  -- a message with these fields is in order, if it cancels right
  in_order : (m : Sent) (it : Item) → m.id ≡ name i (suc (length (T i))) → m.before ≡ before
      → it.adds ≡ names_after i (made_of q T i (length (T i))) (increments_of q m)
      → (clear_of q m ≡ true → (P : Name → Bool) → NamesIn P (l.cancelled i) → NamesIn P it.cancels → (j o : ℕ) → 0 < o → o ≤ made_of q T j (N j) → P (name j o) ≡ true)
      → ((P : Name → Bool) → NamesIn P (l.cancelled i) → (clear_of q m ≡ true → (j o : ℕ) → 0 < o → o ≤ made_of q T j (N j) → P (name j o) ≡ true) → NamesIn P it.cancels)
      → MessageOk q T i (length (T i)) (record { sent = m; item = it })
  in_order m it e b a f c = record {
    id_is = e;
    before_is = rw b (Prefixes_cong before N _ (λ c. sym (knows c)) kb);
    knew_within = λ c. rw (b, knows c) (within c);
    adds_are = a;
    clear_cancels = λ clears P all own j o u v.
        f clears P (k.cancelled_from P (λ s n x y. all s n x (rw (b, knows s) y))) own j o u (rw (b, knows j) at v);
    cancels_cleared = λ W P closed clears knows_in own.
        c P (k.cancelled_from P (λ s n x y.
        let z : n < W s = let w : N s ≤ W s = rw (b, knows s) at (knows_in s) in omega arith in
        (ok s n x).cancels_cleared W P closed clears (closed s n x z) (clears s n x z)))
        (λ d j o u v. own d j o u (rw (b, knows j) v));
  }
    where
      knows : (c : ℕ) → latest c before ≡ N c
      knows c = latest_is c before N kb

  -- the sets, by numbers
  received_latest : (j : ℕ) → latest j (l.received i) ≡ made_of q T j (N j)
  received_latest j = latest_is j (l.received i) _ k.received_is

  cancelled_latest : (j : ℕ) → latest j (l.cancelled i) ≡ g j
  cancelled_latest j = latest_is j (l.cancelled i) g kc

  -- where no name of j is received and not cancelled, and where one is
  all_cancelled : (j : ℕ) → beyond j (l.received i) (l.cancelled i) ≡ false → made_of q T j (N j) ≤ g j
  all_cancelled j e = ltb-false (g j) (made_of q T j (N j)) (sym (beyond_is (l.received i) (l.cancelled i) _ g k.received_is kc j) ∙ e)

  holds_one : (j : ℕ) → g j < made_of q T j (N j) → holds i j l ≡ true
  unfolding holds
  holds_one j a = or_left _ _ (beyond_is (l.received i) (l.cancelled i) _ g k.received_is kc j ∙ lt-ltb (g j) (made_of q T j (N j)) a)

  -- only cards below r have names
  below : (j o : ℕ) → 0 < o → o ≤ made_of q T j (N j) → j < r
  unfolding sum
  below j o some known =
      by_le r j
      (λ far.
      let z : N j ≤ length {A = Told} [] = rw (outside j far) at (within j) in
      let z₁ : N j ≡ 0 = omega arith in
      let z₂ : o ≤ 0 = rw z₁ at known in
      absurd (omega arith))
      (λ near. near)

  -- a message of another counter
  pub other_in_order : (c : ℕ) (clears : Bool) (w : ℕ) → (c ≡ q → ⊥)
      → MessageOk q T i (length (T i))
      (record { sent = record { id = name i (suc (length (T i))); counter = c; clears = clears; amount = w; before = before }; item = nothing c })
  unfolding names_after
  other_in_order c clears w d =
      in_order _ (nothing c) refl refl (rw (ne_eqb c q d))
      (λ e. absurd (false≢true (sym (and_no_right clears (eqb c q) (ne_eqb c q d)) ∙ e)))
      (λ P all known j o h. has_none (name j o) h)

  -- a count of q: if it has the start flag, all that card i has made is cancelled at card i
  pub count_in_order : (w : ℕ)
      → MessageOk q T i (length (T i))
      (record { sent = record { id = name i (suc (length (T i))); counter = q; clears = false; amount = w; before = before }; item = count_item q i w l })
  unfolding count_item
  count_in_order w =
      in_order _ (count_item q i w l) refl refl
      (rw (received_latest i, own, eq-eqb q q refl))
      (λ e. absurd (false≢true e))
      (λ P all known j o h. by_test (beyond i (l.received i) (l.cancelled i))
      (λ e. has_none (name j o) (rw e at h))
      (λ e.
      let n = names_after_only i 0 (latest i (l.received i)) j o (rw e at h) in
      let m : made_of q T i (N i) ≤ g i = all_cancelled i e in
      let f = received_latest i in
      all j o (kc.all j o n.1 (rw n.0 (omega arith)))))

  -- a clear of q
  pub clear_in_order : MessageOk q T i (length (T i))
      (record { sent = record { id = name i (suc (length (T i))); counter = q; clears = true; amount = 0; before = before }; item = clear_item r q i l })
  unfolding names_after
  clear_in_order =
      in_order _ (clear_item r q i l) refl refl
      (rw (eq-eqb q q refl))
      (λ e P all new j o some known.
      by_le o (g j)
      (λ m. all j o (kc.all j o some m))
      (λ m. new j o (clear_names_all r i l j o (below j o some known) (holds_one j (omega arith)) some (let a = received_latest j in omega arith))))
      (λ P all known j o h.
      let n = clear_names_only r i l j o h in
      by_le o (g j)
      (λ m. all j o (kc.all j o n.0 m))
      (λ m. known (eq-eqb q q refl) j o n.0 (let a = received_latest j in let b = cancelled_latest j in let c = n.1 in omega arith)))
