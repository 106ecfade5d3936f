-- LAWS. A message whose numbers fit its receiver (`Fitting`) keeps every row well-formed: first of one entry, then of a row, then of Algorithm 1's step.
use Rattle.std.specs.Prelude.{ℕ, suc, ◌+◌, ◌-◌, ◌≤◌, ◌<◌, ◌≡◌, refl, ◌≢◌, Bool, true, false, not, cond, ◌||◌, ltb}
use mathlib.Core.List.{List, [], ◌∷◌}
use Rattle.std.proofs.Common.{arith}
use Rattle.protocol.specs.Limits.{MAX}
use Rattle.protocol.proofs.Cases.{by_place}
use Rattle.protocol.proofs.Tables.{put, put_same, put_at, put_other, put_cases}
use Rattle.protocol.specs.declared.Entry.{Entry}
use Rattle.protocol.specs.declared.ClearEntry.{ClearEntry}
use Rattle.protocol.specs.Entry.{present, larger, removeIf, raised, finished, incremented, lowered, settled, cleared}
use Rattle.protocol.proofs.EntryLaws.{WellFormed}
use Rattle.protocol.specs.Chassis.{Message, increment, clearing, Replica, cleared_row, taken}
use Rattle.protocol.specs.Rows.{WellFormedRow}

-- ---- a message that fits: its sender is s, the receiver's own card is `own`, and C is its units of each card

pub record FittingEntry (r own : ℕ) (C : ℕ → ℕ) (t : ClearEntry) : Type 0 where
  pub known : t.card < r
  pub some : 1 ≤ t.p
  pub p≤c : t.p ≤ t.c
  pub c≤MAX : t.c ≤ MAX
  pub own≤C : t.card ≡ own → t.c ≤ C own

abbrev pub FittingEntries : ℕ → ℕ → (ℕ → ℕ) → List ClearEntry → Type 0
FittingEntries r own C [] = Unit {0}
FittingEntries r own C (t ∷ ts) = FittingEntry r own C t × FittingEntries r own C ts

abbrev pub Fitting : ℕ → ℕ → ℕ → (ℕ → ℕ) → Message → Type 0
Fitting r own s C (increment q w p start) = (1 ≤ p) × (p ≤ C s + w) × (C s + w ≤ MAX)
Fitting r own s C (clearing q ts) = FittingEntries r own C ts

-- ---- one entry

removed_kept : (gone : Bool) (e : Entry) → WellFormed MAX e → WellFormed MAX (removeIf gone e) × ((removeIf gone e).c ≤ e.c)
removed_kept true e w = omega arith
removed_kept false e w = (w, omega arith)

larger_kept : (e f : Entry) → WellFormed MAX e → WellFormed MAX f → WellFormed MAX (larger e f)
larger_kept e f v w = record {
  n≤p = omega arith;
  p≤c = omega arith;
  c≤most = omega arith;
  absent_whole = λ z. let a = v.absent_whole (omega arith) in let b = w.absent_whole (omega arith) in omega arith;
}

chosen≤ : (t : Bool) (p w : ℕ) → cond t (p - w) 0 ≤ p
chosen≤ true p w = omega arith
chosen≤ false p w = omega arith

incremented_kept : (w p : ℕ) (start : Bool) (known : ℕ) (e : Entry) → 1 ≤ p → p ≤ known + w → known + w ≤ MAX → WellFormed MAX e
    → WellFormed MAX (incremented w p start known e) × (e.c ≤ known → (incremented w p start known e).c ≤ known + w)
unfolding incremented
incremented_kept w p start known e some near few k =
    let n≤ = chosen≤ (start || not (present e)) p w in
    let x = removed_kept (finished (known + w) (raised w p start known e)) (raised w p start known e)
    (larger_kept e (record { p = p; n = cond (start || not (present e)) (p - w) 0; c = known + w }) k (omega arith)) in
    (x.0, λ l. omega arith)

cleared_kept : (p c known : ℕ) (e : Entry) → 1 ≤ p → p ≤ c → c ≤ MAX → WellFormed MAX e
    → WellFormed MAX (cleared p c known e) × ((m : ℕ) → c ≤ m → e.c ≤ m → (cleared p c known e).c ≤ m)
unfolding cleared
cleared_kept p c known e some p≤c c≤MAX w = by_tests (present e) (ltb known c)
  where
    by_tests : (here ahead : Bool) → let e₁ = cond here (removeIf (settled known (lowered p c e)) (lowered p c e)) (cond ahead (record { p = p; n = p; c = c }) e) in
        WellFormed MAX e₁ × ((m : ℕ) → c ≤ m → e.c ≤ m → e₁.c ≤ m)
    by_tests true ahead =
        let k = removed_kept (settled known (lowered p c e)) (lowered p c e) (larger_kept e (record { p = p; n = p; c = c }) w (omega arith)) in
        (k.0, λ m a b. omega arith)
    by_tests false true = (omega arith, λ m a b. a)
    by_tests false false = (w, λ m a b. b)

-- ---- a row

module _ (r own : ℕ) where
  put_kept : (C N : ℕ → ℕ) (row : ℕ → Entry) (j : ℕ) (e : Entry) → WellFormed MAX e → (j ≡ own → e.c ≤ C own) → WellFormedRow MAX r own C N row
      → WellFormedRow MAX r own C N (put j e row)
  put_kept C N row j e w o k = record {
    C≤MAX = k.C≤MAX;
    N≤MAX = k.N≤MAX;
    entry = λ i l. put_cases (WellFormed MAX) j e row i (λ _. w) (λ _. k.entry i l);
    own≤C = put_cases (λ x. x.c ≤ C own) j e row own (λ a. o (omega arith)) (λ _. k.own≤C);
  }

  cleared_row_kept : (C N : ℕ → ℕ) (ts : List ClearEntry) (row : ℕ → Entry) → FittingEntries r own C ts → WellFormedRow MAX r own C N row
      → WellFormedRow MAX r own C N (cleared_row C ts row)
  unfolding cleared_row
  cleared_row_kept C N [] row f k = k
  cleared_row_kept C N (t ∷ ts) row (f, fs) k =
      let x = cleared_kept t.p t.c (C t.card) (row t.card) f.some f.p≤c f.c≤MAX (k.entry t.card f.known) in
      cleared_row_kept C N ts _ fs
      (put_kept C N row t.card _ x.0 (λ e. x.1 (C own) (f.own≤C e) (rw e k.own≤C)) k)

  -- a message more of card s, and perhaps some units more
  counted : (C N C' : ℕ → ℕ) (row : ℕ → Entry) (s : ℕ) → own < r → N s < MAX
      → ((j : ℕ) → j ≢ s → C' j ≡ C j) → C s ≤ C' s → C' s ≤ MAX → WellFormedRow MAX r own C N row → WellFormedRow MAX r own C' (put s (suc (N s)) N) row
  counted C N C' row s o few same more most k = record {
    C≤MAX = λ j l. (at j l).1;
    N≤MAX = λ j l. (at j l).2;
    entry = k.entry;
    own≤C = omega (arith, (at own o).0, k.own≤C);
  }
    where
      at : (j : ℕ) → j < r → (C j ≤ C' j) × (C' j ≤ MAX) × (put s (suc (N s)) N j ≤ MAX)
      at j l =
          by_place j s
          (λ e. rw (put_at s (suc (N s)) N j e, e) (omega arith))
          (λ d. rw (put_other s (suc (N s)) N j d, same j d) (omega (arith, k.C≤MAX j l, k.N≤MAX j l)))

  -- ---- Algorithm 1's step: every row that is well-formed stays so, the message's own and the others

  pub taken_kept : (s : ℕ) (m : Message) (b : Replica) → own < r → s < r → b.N s < MAX → Fitting r own s b.C m
      → (q : ℕ) → WellFormedRow MAX r own b.C b.N (b.entry q) → WellFormedRow MAX r own (taken s m b).C (taken s m b).N ((taken s m b).entry q)
  unfolding taken
  taken_kept s (increment q w p start) b o hs few (some, near, room) q' k =
      by_place q' q
      (λ e. rw (put_at q _ b.entry q' e, ← e) (put_kept _ _ (b.entry q') s _ x.0 (λ d. rw (← d) (rw put_same (x.1 (rw d k.own≤C)))) more))
      (λ d. rw (put_other q _ b.entry q' d) more)
    where
      more : WellFormedRow MAX r own (put s (b.C s + w) b.C) (put s (suc (b.N s)) b.N) (b.entry q')
      more = counted b.C b.N _ (b.entry q') s o few (put_other s (b.C s + w) b.C) (rw put_same (omega arith)) (rw put_same (omega arith)) k

      x : WellFormed MAX (incremented w p start (b.C s) (b.entry q' s)) × ((b.entry q' s).c ≤ b.C s → (incremented w p start (b.C s) (b.entry q' s)).c ≤ b.C s + w)
      x = incremented_kept w p start (b.C s) (b.entry q' s) some near room (k.entry s hs)
  taken_kept s (clearing q ts) b o hs few f q' k =
      by_place q' q
      (λ e. rw (put_at q _ b.entry q' e, ← e) (more _ (cleared_row_kept b.C b.N ts (b.entry q') f k)))
      (λ d. rw (put_other q _ b.entry q' d) (more _ k))
    where
      more : (row : ℕ → Entry) → WellFormedRow MAX r own b.C b.N row → WellFormedRow MAX r own b.C (put s (suc (b.N s)) b.N) row
      more row w = counted b.C b.N b.C row s o few (λ j d. refl) (omega arith) (w.C≤MAX s hs) w
