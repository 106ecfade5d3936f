-- DEFINITIONS. Algorithm 1 of the 2022 paper, line by line; each line's number stands before its text.
-- The specification's wording of the same steps is in `Entry` and `Chassis`; that the two say the same is `Algorithm1Laws`.
--
-- One reading: as the listing is printed, the `else` of line 35 stands below the `if` of line 33. It belongs to line 32 (an entry that is
-- there takes the max), and lines 37 and 38 are run for every (j, p, c). So does the specification have it.
use Rattle.std.specs.Prelude.{ℕ, zero, suc, ◌+◌, ◌-◌, ◌<◌, max, Bool, true, false, not, cond, ◌&&◌, ◌||◌, List, [], ◌∷◌, ◌++◌, eqb, ltb, leb}
use Rattle.protocol.specs.Functions.{put, sum}
use Rattle.protocol.specs.Entry.{Entry, present}
use Rattle.protocol.specs.Chassis.{ClearEntry, Replica, Message, increment, clearing}

-- ---- the state

-- What a partial map has at a key.
pub data Slot : Type 0 where
  unmapped : Slot
  mapped : (p n c : ℕ) → Slot

abbrev pub in_dom : Slot → Bool
in_dom unmapped = false
in_dom (mapped p n c) = true

-- 8   "assuming M[j] = (0, 0, 0) for unmapped keys"
abbrev pub p_of : Slot → ℕ
p_of unmapped = 0
p_of (mapped p n c) = p

abbrev pub n_of : Slot → ℕ
n_of unmapped = 0
n_of (mapped p n c) = n

abbrev pub c_of : Slot → ℕ
c_of unmapped = 0
c_of (mapped p n c) = c

-- 21   "max is taken entry-wise"
abbrev pub max_of : Slot → ℕ → ℕ → ℕ → Slot
max_of m p n c = mapped (max (p_of m) p) (max (n_of m) n) (max (c_of m) c)

-- 1-2   types: 𝕀, set of replica identifiers. Here: the cards, numbered from 0; where all of them are gone through, those below r.
-- 3-8   One instance, at one replica.
pub record State : Type 0 where
  -- 4-5   C : 𝕀 → ℕ, assuming C[j] = 0 for unmapped keys
  pub C : ℕ → ℕ
  -- 7   M : 𝕀 → (p : ℕ, n : ℕ, c : ℕ)
  pub M : ℕ → Slot

-- 9   query value() : ℕ
-- 10    return ∑ {p - n | (j, (p, n, c)) ∈ M}
unfoldable pub value : ℕ → State → ℕ
value r st = sum r (λ j. p_of (st.M j) - n_of (st.M j))

-- What the generators return.
pub data Update : Type 0 where
  -- (inc, j, p, start)
  inc : (j p : ℕ) (start : Bool) → Update
  -- (reset, R), R a set of (j, p, c)
  reset : (R : List ClearEntry) → Update

-- ---- 11   update inc()

-- 12    generator ()
-- 13      if i ∉ dom(M) then
-- 14        return (inc, i, C[i] + 1, true)
-- 15      else
-- 16        return (inc, i, M[i].p + 1, false)
unfoldable pub inc_generator : ℕ → State → Update
inc_generator i st =
    cond (not (in_dom (st.M i)))
    (inc i (st.C i + 1) true)
    (inc i (p_of (st.M i) + 1) false)

-- 17    effector (inc, j, p, start)
unfoldable pub inc_effector : ℕ → ℕ → Bool → State → State
inc_effector j p start st =
    -- 18      let c = C[j] + 1
    let c = st.C j + 1 in
    -- 19      if start ∨ j ∉ dom(M) then
    -- 20        M[j] ← max(M[j], (p, p - 1, c))
    -- 22      else
    -- 23        M[j] ← max(M[j], (p, 0, c))
    let M₁ = put j (cond (start || not (in_dom (st.M j))) (max_of (st.M j) p (p - 1) c) (max_of (st.M j) p 0 c)) st.M in
    record {
      -- 24      if M[j].p = M[j].n ∧ M[j].c = c then
      -- 25        M.remove(j)
      M = cond (eqb (p_of (M₁ j)) (n_of (M₁ j)) && eqb (c_of (M₁ j)) c) (put j unmapped M₁) M₁;
      -- 26      C[j] ← c
      C = put j c st.C;
    }

-- ---- 27   update reset()

abbrev pub triple : ℕ → Slot → List ClearEntry
triple j unmapped = []
triple j (mapped p n c) = record { card = j; p = p; c = c } ∷ []

-- {(j, p, c) | (j, (p, n, c)) ∈ M}, the cards rising
unfoldable pub triples : ℕ → (ℕ → Slot) → List ClearEntry
triples zero M = []
triples (suc r) M = triples r M ++ triple r (M r)

-- 28    generator ()
-- 29      return (reset, {(j, p, c) | (j, (p, n, c)) ∈ M})
unfoldable pub reset_generator : ℕ → State → Update
reset_generator r st = reset (triples r st.M)

-- what lines 32 to 38 do to M
unfoldable pub reset_one : ℕ → ℕ → ℕ → (ℕ → ℕ) → (ℕ → Slot) → ℕ → Slot
reset_one j p c C M =
    -- 32        if j ∉ dom(M) then
    -- 33          if c > C[j] then
    -- 34            M[j] ← (p, p, c)
    -- 35        else
    -- 36          M[j] ← max(M[j], (p, p, c))
    let M₁ = cond (not (in_dom (M j))) (cond (ltb (C j) c) (put j (mapped p p c) M) M) (put j (max_of (M j) p p c) M) in
    -- 37        if M[j].p = M[j].n ∧ M[j].c ≤ C[j] then
    -- 38          M.remove(j)
    cond (eqb (p_of (M₁ j)) (n_of (M₁ j)) && leb (c_of (M₁ j)) (C j)) (put j unmapped M₁) M₁

-- 31      for (j, p, c) in R do
unfoldable pub reset_each : List ClearEntry → (ℕ → ℕ) → (ℕ → Slot) → ℕ → Slot
reset_each [] C M = M
reset_each (t ∷ R) C M = reset_each R C (reset_one t.card t.p t.c C M)

-- 30    effector (reset, R)
unfoldable pub reset_effector : List ClearEntry → State → State
reset_effector R st = record { C = st.C; M = reset_each R st.C st.M }

-- ---- either of the two

-- an update's effector (lines 17 and 30)
unfoldable pub effector : Update → State → State
effector (inc j p start) st = inc_effector j p start st
effector (reset R) st = reset_effector R st

-- ---- the specification's replica and messages, read as the paper's

-- "An absent entry is (0,0,0)": absent is unmapped.
abbrev pub slot_of : Entry → Slot
slot_of e = cond (present e) (mapped e.p e.n e.c) unmapped

-- counter q's instance: "the map C is shared by all CRDTs on a given replica", and each counter has its own M
abbrev pub state_of : ℕ → Replica → State
state_of q b = record { C = b.C; M = λ j. slot_of (b.entry q j) }

-- The paper's message as one of counter q. It names the counter, which in the paper is the instance; its sender is the card whose log it is in.
abbrev pub message_of : ℕ → Update → Message
message_of q (inc i p start) = increment q 1 p start
message_of q (reset R) = clearing q R

-- of a clear message's entries: "1 <= p"
abbrev pub SomeUnits : List ClearEntry → Type 0
SomeUnits [] = Unit {0}
SomeUnits (t ∷ ts) = (0 < t.p) × SomeUnits ts
