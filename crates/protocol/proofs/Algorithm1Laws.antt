-- LAWS. Algorithm 1 as the paper has it (`Algorithm1`) and as the specification words it (`Entry`, `Chassis`) say the same: entry by entry, and
-- then for the whole map at each card.
use Rattle.std.specs.Prelude.{ℕ, zero, suc, ◌+◌, ◌-◌, ◌≤◌, ◌<◌, max, ◌≡◌, refl, Bool, true, false, not, cond, ◌&&◌, ◌||◌, List, [], ◌∷◌, eqb, ltb, leb}
use Rattle.std.proofs.Common.{sym, ap, ◌∙◌, true≢false, arith, ltb-false, lt-ltb, le-ltb, eq-eqb, le-leb}
use Rattle.std.proofs.lemmas.Bool.{lt-leb}
use Rattle.protocol.proofs.Cases.{by_test, by_place, by_le, and_yes, and_no_right}
use Rattle.protocol.proofs.Tables.{put, put_same, put_at, put_other, put_same_row, put_cases, sum_cong}
use Rattle.protocol.specs.Entry.{Entry, present, larger, removeIf, raised, finished, incremented, lowered, settled, cleared}
use Rattle.protocol.specs.Chassis.{ClearEntry, Replica, increment, clearing, cleared_row, taken, count_message, present_entries, clear_message, read_value}
use Rattle.protocol.specs.Rows.{WellFormed}
use Rattle.protocol.specs.Algorithm1.{Slot, unmapped, mapped, in_dom, p_of, n_of, c_of, max_of, State, value, inc_generator, inc_effector, triple, triples, reset_generator, reset_one, reset_each, reset_effector, slot_of, state_of, message_of, SomeUnits}

-- ---- value and generators: they read an entry through its slot alone

slot_value : (e : Entry) → p_of (slot_of e) - n_of (slot_of e) ≡ e.p - e.n
slot_value e = by_test (present e) (λ y. rw y) (λ y. let z = ltb-false 0 e.p y in rw y (omega arith))

pub value_agrees : (r q : ℕ) (b : Replica) → value r (state_of q b) ≡ read_value r q b
unfolding value read_value
value_agrees r q b = sum_cong r _ _ (λ j l. slot_value (b.entry q j))

pub inc_message_agrees : (i q : ℕ) (b : Replica) → message_of q (inc_generator i (state_of q b)) ≡ count_message i q 1 b
unfolding inc_generator count_message
inc_message_agrees i q b = by_test (present (b.entry q i)) (λ y. rw y) (λ y. rw y)

slot_triple : (j : ℕ) (e : Entry) → triple j (slot_of e) ≡ cond (present e) (record { card = j; p = e.p; c = e.c } ∷ []) []
slot_triple j e = by_test (present e) (λ y. rw y) (λ y. rw y)

triples_agree : (r : ℕ) (row : ℕ → Entry) → triples r (λ j. slot_of (row j)) ≡ present_entries r row
unfolding triples present_entries
triples_agree zero row = refl
triples_agree (suc r) row = rw (triples_agree r row, slot_triple r (row r))

pub reset_message_agrees : (r q : ℕ) (b : Replica) → message_of q (reset_generator r (state_of q b)) ≡ clear_message r q b
unfolding reset_generator clear_message
reset_message_agrees r q b = ap (clearing q) (triples_agree r (b.entry q))

-- ---- one entry

-- an absent entry is whole: all that the effectors ask of an entry
abbrev pub Whole : Entry → Type 0
Whole e = e.p ≡ 0 → (e.n ≡ 0) × (e.c ≡ 0)

pub well_formed_whole : (most : ℕ) (e : Entry) → WellFormed most e → Whole e
well_formed_whole most e k z = (omega arith, k.absent_whole z)

slot_dom : (e : Entry) → in_dom (slot_of e) ≡ present e
slot_dom e = by_test (present e) (λ y. rw y) (λ y. rw y)

pub slot_p : (e : Entry) → p_of (slot_of e) ≡ e.p
slot_p e = by_test (present e) (λ y. rw y) (λ y. let z = ltb-false 0 e.p y in rw y (omega arith))

pub slot_n : (e : Entry) → Whole e → n_of (slot_of e) ≡ e.n
slot_n e k = by_test (present e) (λ y. rw y) (λ y. let z = ltb-false 0 e.p y in rw y (sym (k (omega arith)).0))

pub slot_c : (e : Entry) → Whole e → c_of (slot_of e) ≡ e.c
slot_c e k = by_test (present e) (λ y. rw y) (λ y. let z = ltb-false 0 e.p y in rw y (sym (k (omega arith)).1))

-- the closing test, on a slot and on an entry
closed_slot : (gone : Bool) (e : Entry) → (gone ≡ false → 0 < e.p) → cond gone unmapped (mapped e.p e.n e.c) ≡ slot_of (removeIf gone e)
closed_slot true e h = refl
closed_slot false e h = rw (lt-ltb 0 e.p (h refl))

-- lines 19 to 23 and 24 to 25, on the slot
abbrev inc_written : ℕ → Bool → ℕ → Slot → Slot
inc_written p start c m = cond (start || not (in_dom m)) (max_of m p (p - 1) c) (max_of m p 0 c)

abbrev inc_gone : ℕ → Slot → Bool
inc_gone c m = eqb (p_of m) (n_of m) && eqb (c_of m) c

abbrev inc_slot : ℕ → Bool → ℕ → Slot → Slot
inc_slot p start c m = cond (inc_gone c (inc_written p start c m)) unmapped (inc_written p start c m)

-- what stays has a p, as the paper's slot that stays is mapped
stays_present : (p n c : ℕ) (e : Entry) → Whole e → n ≤ p
    → finished c (larger e (record { p = p; n = n; c = c })) ≡ false → 0 < max e.p p
stays_present p n c e k m g =
    by_le 1 (max e.p p) (λ l. l)
    (λ l.
    let z = k (omega arith) in
    absurd (true≢false (sym (and_yes _ _ (eq-eqb (max e.p p) (max e.n n) (omega arith)) (eq-eqb (max e.c c) c (omega arith))) ∙ g)))

inc_slot_agrees : (p : ℕ) (start : Bool) (known : ℕ) (e : Entry) → Whole e
    → inc_slot p start (known + 1) (slot_of e) ≡ slot_of (incremented 1 p start known e)
unfolding incremented
inc_slot_agrees p true known e k =
    rw (slot_p e, slot_n e k, slot_c e k)
    (closed_slot (finished (known + 1) (raised 1 p true known e)) (raised 1 p true known e) (stays_present p (p - 1) (known + 1) e k (omega arith)))
inc_slot_agrees p false known e k =
    by_test (present e)
    (λ y.
    rw (slot_dom e, slot_p e, slot_n e k, slot_c e k, y)
    (closed_slot _ (larger e (record { p = p; n = 0; c = known + 1 })) (stays_present p 0 (known + 1) e k (omega arith))))
    (λ y.
    rw (slot_dom e, slot_p e, slot_n e k, slot_c e k, y)
    (closed_slot _ (larger e (record { p = p; n = p - 1; c = known + 1 })) (stays_present p (p - 1) (known + 1) e k (omega arith))))

-- lines 32 to 36 and 37 to 38, on the slot
abbrev reset_written : ℕ → ℕ → ℕ → Slot → Slot
reset_written p c known m = cond (not (in_dom m)) (cond (ltb known c) (mapped p p c) m) (max_of m p p c)

abbrev reset_gone : ℕ → Slot → Bool
reset_gone known m = eqb (p_of m) (n_of m) && leb (c_of m) known

abbrev reset_slot : ℕ → ℕ → ℕ → Slot → Slot
reset_slot p c known m = cond (reset_gone known (reset_written p c known m)) unmapped (reset_written p c known m)

reset_slot_agrees : (p c known : ℕ) (e : Entry) → 0 < p → Whole e → reset_slot p c known (slot_of e) ≡ slot_of (cleared p c known e)
unfolding cleared
reset_slot_agrees p c known e some k =
    by_test (present e)
    (λ y. rw (slot_dom e, slot_p e, slot_n e k, slot_c e k, y) (closed_slot (settled known (lowered p c e)) (lowered p c e) (λ g. omega arith)))
    (λ y. by_le c known
    (λ l. rw (y, le-ltb known c l) (rw (le-leb 0 known (omega arith), y)))
    (λ l. rw (y, lt-ltb known c l) (rw (and_no_right (eqb p p) (leb c known) (lt-leb c known l), lt-ltb 0 p some))))

cleared_whole : (p c known : ℕ) (e : Entry) → 0 < p → Whole e → Whole (cleared p c known e)
unfolding cleared
cleared_whole p c known e some k =
    by_test (present e)
    (λ y. rw y (closed (settled known (lowered p c e))))
    (λ y. by_le c known (λ l. rw (y, le-ltb known c l) k) (λ l. rw (y, lt-ltb known c l) (λ z. absurd (omega arith))))
  where
    closed : (gone : Bool) → Whole (removeIf gone (lowered p c e))
    closed true = λ z. (refl, refl)
    closed false = λ z. absurd (omega arith)

-- ---- the whole map, at each card

-- a slot is written, and removed again if the test says so
removed_at : (gone : Bool) (s : ℕ) (v : Slot) (M : ℕ → Slot) (j : ℕ)
    → cond gone (put s unmapped (put s v M)) (put s v M) j ≡ put s (cond gone unmapped v) M j
removed_at true s v M j = by_place j s (λ e. simp put_at) (λ d. simp put_other)
removed_at false s v M j = refl

inc_at : (s p : ℕ) (start : Bool) (st : State) (j : ℕ)
    → (inc_effector s p start st).M j ≡ put s (inc_slot p start (st.C s + 1) (st.M s)) st.M j
unfolding inc_effector
inc_at s p start st j =
    let v = inc_written p start (st.C s + 1) (st.M s) in
    rw put_same (removed_at (inc_gone (st.C s + 1) v) s v st.M j)

-- the three writes of lines 32 to 36 (a: unmapped; b: c > C[j]), then lines 37 and 38 with their test
reset_by : (a b : Bool) (gone : Slot → Bool) (s : ℕ) (x y : Slot) (M : ℕ → Slot) (j : ℕ)
    → cond (gone (cond a (cond b (put s x M) M) (put s y M) s)) (put s unmapped (cond a (cond b (put s x M) M) (put s y M))) (cond a (cond b (put s x M) M) (put s y M)) j
    ≡ put s (cond (gone (cond a (cond b x (M s)) y)) unmapped (cond a (cond b x (M s)) y)) M j
reset_by true true gone s x y M j = rw put_same (removed_at (gone x) s x M j)
reset_by true false gone s x y M j =
    by_test (gone (M s)) (λ e. rw e) (λ e. rw e (by_place j s (λ c. rw put_at (ap M c)) (λ d. rw put_other)))
reset_by false b gone s x y M j = rw put_same (removed_at (gone y) s y M j)

reset_at : (s p c : ℕ) (C : ℕ → ℕ) (M : ℕ → Slot) (j : ℕ) → reset_one s p c C M j ≡ put s (reset_slot p c (C s) (M s)) M j
unfolding reset_one
reset_at s p c C M j =
    reset_by (not (in_dom (M s))) (ltb (C s) c) (reset_gone (C s)) s (mapped p p c) (max_of (M s) p p c) M j

pub inc_effector_agrees : (most s q p : ℕ) (start : Bool) (b : Replica) (j : ℕ) → WellFormed most (b.entry q j)
    → (inc_effector s p start (state_of q b)).M j ≡ (state_of q (taken s (increment q 1 p start) b)).M j
unfolding taken
inc_effector_agrees most s q p start b j k =
    inc_at s p start (state_of q b) j
    ∙ rw put_same_row
    (by_place j s
    (λ e. simp put_at (inc_slot_agrees p start (b.C s) (b.entry q s) (rw e at (well_formed_whole most (b.entry q j) k))))
    (λ d. simp put_other))

pub inc_effector_C : (s q p : ℕ) (start : Bool) (b : Replica) (j : ℕ)
    → (inc_effector s p start (state_of q b)).C j ≡ (taken s (increment q 1 p start) b).C j
unfolding inc_effector taken
inc_effector_C s q p start b j = refl

-- at card j, where map and row agree before
reset_each_at : (ts : List ClearEntry) (C : ℕ → ℕ) (M : ℕ → Slot) (row : ℕ → Entry) (j : ℕ) → SomeUnits ts → Whole (row j) → M j ≡ slot_of (row j)
    → reset_each ts C M j ≡ slot_of (cleared_row C ts row j)
unfolding reset_each cleared_row
reset_each_at [] C M row j some k m = m
reset_each_at (t ∷ ts) C M row j some k m =
    reset_each_at ts C _ _ j some.1
    (put_cases Whole t.card _ row j (λ e. cleared_whole t.p t.c (C t.card) (row t.card) some.0 (rw e at k)) (λ d. k))
    (reset_at t.card t.p t.c C M j
    ∙ by_place j t.card
    (λ e.
    let m₁ : M t.card ≡ slot_of (row t.card) = rw e at m in
    simp put_at (rw m₁ (reset_slot_agrees t.p t.c (C t.card) (row t.card) some.0 (rw e at k))))
    (λ d. simp put_other m))

pub reset_effector_agrees : (most s q : ℕ) (ts : List ClearEntry) (b : Replica) (j : ℕ) → SomeUnits ts → WellFormed most (b.entry q j)
    → (reset_effector ts (state_of q b)).M j ≡ (state_of q (taken s (clearing q ts) b)).M j
unfolding reset_effector taken
reset_effector_agrees most s q ts b j some k =
    rw put_same_row (reset_each_at ts b.C _ (b.entry q) j some (well_formed_whole most (b.entry q j) k) refl)

pub reset_effector_C : (s q : ℕ) (ts : List ClearEntry) (b : Replica) (j : ℕ)
    → (reset_effector ts (state_of q b)).C j ≡ (taken s (clearing q ts) b).C j
unfolding reset_effector taken
reset_effector_C s q ts b j = refl
