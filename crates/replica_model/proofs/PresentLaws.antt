-- LAWS. The present entries of a row (`present_entries`, what a clear sends): one card more, how many they are, and that their cards are below the bound.
use Prim.Native.Nat.{ℕ, zero, suc, ◌+◌, ◌≤◌}
use Rattle.std.specs.Prelude.{◌≡◌, List, [], ◌∷◌, ◌++◌, cond, length}
use Rattle.std.proofs.Math.Path.{refl, sym}
use Rattle.std.proofs.Common.{◌∙◌, add-one}
use native.Mathlib.Omega.{arith}
use Rattle.std.proofs.Math.ListN.{length-append}
use Rattle.protocol.proofs.Cases.{by_le, by_test}
use Rattle.protocol.specs.Functions.{count_below}
use Rattle.protocol.specs.declared.Entry.{Entry}
use Rattle.protocol.specs.declared.ClearEntry.{ClearEntry}
use Rattle.protocol.specs.Entry.{present}
use Rattle.protocol.specs.Chassis.{present_entries}
use Rattle.protocol.proofs.StoreLaws.{CardsBelow}
use Rattle.protocol.proofs.AcceptanceLaws.{count_below≤}

below_append : (r : ℕ) (ts us : List ClearEntry) → CardsBelow r ts → CardsBelow r us → CardsBelow r (ts ++ us)
below_append r [] us a b = b
below_append r (t ∷ ts) us a b = (a.0, below_append r ts us a.1 b)

-- what card j's entry e adds to a clear: itself if it is present
abbrev pub entry_sent : ℕ → Entry → List ClearEntry
entry_sent j e = cond (present e) (record { card = j; p = e.p; c = e.c } ∷ []) []

module _ (row : ℕ → Entry) where
  -- one card more
  pub present_next : (j : ℕ) → present_entries (j + 1) row ≡ present_entries j row ++ entry_sent j (row j)
  unfolding present_entries
  present_next j = rw (add-one j)

  -- the same, where they are only counted
  pub present_counted : (j : ℕ) (e : Entry) → e ≡ row j → length (present_entries j row) + cond (present e) 1 0 ≡ length (present_entries (j + 1) row)
  present_counted j e found = rw (found, present_next j, length-append) (by_test (present (row j)) (λ t. rw t) (λ t. rw t))

  -- fewer cards have no more of them
  pub present_fewer : (j r : ℕ) → j ≤ r → length (present_entries j row) ≤ length (present_entries r row)
  unfolding present_entries
  present_fewer j zero l = let none : j ≡ 0 = omega arith in rw none (omega arith)
  present_fewer j (suc r) l =
      by_le j r (λ m. rw length-append (omega (arith, present_fewer j r m))) (λ m. let all : j ≡ suc r = omega arith in rw all (omega arith))

  -- as many as are present, and at most all
  pub present_length : (r : ℕ) → length (present_entries r row) ≡ count_below r (λ j. present (row j))
  unfolding present_entries count_below
  present_length zero = refl
  present_length (suc r) = sym (rw (add-one r) at (present_counted r (row r) refl)) ∙ rw (present_length r)

  pub present_few : (r : ℕ) → length (present_entries r row) ≤ r
  present_few r = rw (present_length r) (count_below≤ r (λ j. present (row j)))

  pub present_below : (r n : ℕ) → n ≤ r → CardsBelow r (present_entries n row)
  unfolding present_entries
  present_below r zero l = tt
  present_below r (suc n) l = below_append r (present_entries n row) _ (present_below r n (omega arith)) (by_test (present (row n)) (λ t. rw t (l, tt)) (λ t. rw t tt))
