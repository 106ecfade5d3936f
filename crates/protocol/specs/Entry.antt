-- DEFINITIONS. One entry of a counter's row, and what the two kinds of message do to it: SPECIFICATION 4, with the
-- lines of Algorithm 1 that each sentence stands for (`Algorithm1` has the lines themselves).
-- An increment is by an amount w, and Algorithm 1's are by 1 (`InARow` compares the two).
-- The entry is the struct of `src/lib.rt`, so a contract cites these definitions with nothing in between.
use Rattle.std.specs.Prelude.{ℕ, ◌+◌, ◌-◌, max, Bool, not, cond, ◌&&◌, ◌||◌, ltb, leb, eqb}
use Rattle.protocol.specs.Functions.{any_below}
pub use Rattle.protocol.specs.declared.Entry.{Entry}

-- "An absent entry is (0,0,0)."
abbrev pub absent : Entry
absent = record { p = 0; n = 0; c = 0 }

-- In a well-formed row p is 0 only where all three numbers are, so the test of p is enough.
abbrev pub present : Entry → Bool
present e = ltb 0 e.p

-- does a row have an entry, for any card below r?
abbrev pub has_entry : ℕ → (ℕ → Entry) → Bool
has_entry r row = any_below r (λ j. present (row j))

-- "max is taken field by field." (line 21)
abbrev pub larger : Entry → Entry → Entry
larger e f = record { p = max e.p f.p; n = max e.n f.n; c = max e.c f.c }

abbrev pub removeIf : Bool → Entry → Entry
removeIf gone e = cond gone absent e

-- ---- "Count by w: with M[i] absent, send p = C[i] + w with start; else p = M[i].p + w without." (lines 13 to 16)
-- `own` is M[i], `known` is C[i].

abbrev pub count_starts : Entry → Bool
count_starts own = not (present own)

abbrev pub count_p : ℕ → ℕ → Entry → ℕ
count_p w known own = cond (present own) own.p known + w

-- ---- "Increment from j by w:"
-- e is M[j], `known` is C[j].

-- "c = C[j] + w. With start, or M[j] absent, M[j] becomes max(M[j], (p, p - w, c)); else max(M[j], (p, 0, c))." (lines 18 to 23)
abbrev pub raised : ℕ → ℕ → Bool → ℕ → Entry → Entry
raised w p start known e = larger e (record { p = p; n = cond (start || not (present e)) (p - w) 0; c = known + w })

-- "If then p = n and M[j].c = c, the entry is removed." (lines 24 and 25)
abbrev pub finished : ℕ → Entry → Bool
finished c e = eqb e.p e.n && eqb e.c c

unfoldable pub incremented : ℕ → ℕ → Bool → ℕ → Entry → Entry
incremented w p start known e =
    let e₁ = raised w p start known e in removeIf (finished (known + w) e₁) e₁

-- ---- "Clear taken, for each (j, p, c):" (line 31)
-- e is M[j], `known` is C[j].

-- "Present: max(M[j], (p, p, c))," (line 36)
abbrev pub lowered : ℕ → ℕ → Entry → Entry
lowered p c e = larger e (record { p = p; n = p; c = c })

-- "then removed if p = n and its c <= C[j]." (lines 37 and 38)
abbrev pub settled : ℕ → Entry → Bool
settled known e = eqb e.p e.n && leb e.c known

-- "with M[j] absent and c > C[j], M[j] becomes (p, p, c); absent otherwise, nothing." (lines 32 to 34)
unfoldable pub cleared : ℕ → ℕ → ℕ → Entry → Entry
cleared p c known e =
    cond (present e)
    (let e₁ = lowered p c e in removeIf (settled known e₁) e₁)
    (cond (ltb known c) (record { p = p; n = p; c = c }) e)
