-- LAWS. An entry that a message has made larger goes or stays, by one test. And one whose p is 0 is absent: so a clear needs no case of its own for it, and what a clear
-- leaves has that again.
use Rattle.std.specs.Prelude.{ℕ, ◌+◌, max, ◌≤◌, ◌<◌, ◌≡◌, refl, Bool, true, false, List}
use Rattle.std.proofs.Common.{sym, ◌∙◌, subst, arith, lt-ltb, le-ltb, le-leb, eq-eqb}
use Rattle.std.proofs.Math.Path.{ap}
use Rattle.std.proofs.lemmas.Bool.{lt-leb}
use Rattle.protocol.proofs.Cases.{by_le, by_place, by_test}
use Rattle.protocol.specs.declared.Entry.{Entry}
use Rattle.protocol.specs.Entry.{absent, removeIf, raised, finished, incremented, lowered, settled, cleared}
use Rattle.protocol.proofs.Tables.{put, put_at, put_other, put_same_row}
use Rattle.protocol.specs.declared.ClearEntry.{ClearEntry}
use Rattle.replica_model.specs.Layout.{cards, counters, C_of, entry_of}
use Rattle.replica_model.proofs.LayoutLaws.{entry_entry}
use Rattle.replica_model.specs.ClaimTerms.{RowOf}
use Rattle.layout.specs.WordsLaws.{RowInside}
use Rattle.layout.specs.Effects.{entry_cleared}

-- an entry is absent where its p is 0
abbrev pub Whole : Entry → Type 0
Whole e = e.p ≡ 0 → e ≡ absent

-- `cleared` in one case: the larger, removed if it is settled
max_zero : (x : ℕ) → max 0 x ≡ x
max_zero x = omega arith

pub cleared_larger : (p c known : ℕ) (e : Entry) → Whole e → removeIf (settled known (lowered p c e)) (lowered p c e) ≡ cleared p c known e
unfolding cleared
cleared_larger p c known e h =
    by_le 1 e.p
    (λ some. rw (lt-ltb 0 e.p some))
    (λ none. rw (h (omega arith), max_zero p, max_zero c, eq-eqb p p refl)
    (by_le c known (λ l. rw (le-leb c known l, le-ltb known c l)) (λ g. rw (lt-leb c known g, lt-ltb known c g))))

-- so what is larger goes where it is settled, and else stays; `known` is C, e and `received` are what the code found
module _ (p c known : ℕ) (M : Entry) (h : Whole M) {e : Entry} {received : ℕ} (is : e ≡ lowered p c M) (same : received ≡ known) where
  pub cleared_gone : settled received e ≡ true → absent ≡ cleared p c known M
  cleared_gone t = ap (λ (gone : Bool). removeIf gone (lowered p c M)) (sym (rw (is, same) at t)) ∙ cleared_larger p c known M h

  pub cleared_stays : settled received e ≡ false → e ≡ cleared p c known M
  cleared_stays f = is ∙ ap (λ (gone : Bool). removeIf gone (lowered p c M)) (sym (rw (is, same) at f)) ∙ cleared_larger p c known M h

-- and likewise where it is finished by an increment
module _ (w p known : ℕ) (start : Bool) (M : Entry) {e : Entry} {received : ℕ} (is : e ≡ raised w p start known M) (same : received ≡ known) where
  pub increment_gone : finished (received + w) e ≡ true → absent ≡ incremented w p start known M
  unfolding incremented
  increment_gone t = ap (λ (gone : Bool). removeIf gone (raised w p start known M)) (sym (rw (is, same) at t))

  pub increment_stays : finished (received + w) e ≡ false → e ≡ incremented w p start known M
  unfolding incremented
  increment_stays f = is ∙ ap (λ (gone : Bool). removeIf gone (raised w p start known M)) (sym (rw (is, same) at f))

-- what an entry (p, c) of a message leaves is so again
cleared_whole : (p c known : ℕ) (e : Entry) → 1 ≤ p → Whole e → Whole (cleared p c known e)
cleared_whole p c known e some h =
    rw (← cleared_larger p c known e h)
    (by_test (settled known (lowered p c e)) (λ t. rw t (λ z. refl)) (λ f. rw f (λ z. absurd (omega arith))))

-- ---- a row: so is each entry of one that is well-formed, and of one of which an entry has been cleared

abbrev pub RowWhole : List ℕ → ℕ → ℕ → Type 0
RowWhole b r q = (j : ℕ) → j < r → Whole (entry_of r b q j)

pub row_whole : (b : List ℕ) (q : ℕ) → RowOf b q → RowWhole b (cards b) q
row_whole b q h j l z =
    let k = h.tables.entry j l in
    let e = entry_of (cards b) b q j in
    let no_n : e.n ≡ 0 = omega arith in
    λ i. record { p = z i; n = no_n i; c = k.absent_whole z i }

pub row_whole_cleared : (b : List ℕ) (r q : ℕ) (e : ClearEntry) → RowInside b r q → e.card < r → 1 ≤ e.p → RowWhole b r q → RowWhole (entry_cleared r q e b) r q
row_whole_cleared b r q e inside below some h j l =
    let row = entry_of r b q in
    let new = cleared e.p e.c (C_of b e.card) (row e.card) in
    let found = entry_entry r (counters b) q e.card new b (rw inside.first inside.right.fits) inside.counter below q j inside.counter l
    ∙ put_same_row q (put e.card new row) (entry_of r b) j in
    by_place j e.card
    (λ same. subst Whole (sym (found ∙ put_at e.card new row j same)) (cleared_whole e.p e.c (C_of b e.card) (row e.card) some (h e.card below)))
    (λ other. subst Whole (sym (found ∙ put_other e.card new row j other)) (h j l))
