-- LAWS. The entries of a clear: one turn of each loop that reads, tests or writes them, and how long their bytes are.
use Rattle.std.specs.Prelude.{◌≡◌, ℕ, zero, suc, ◌+◌, ◌-◌, ◌*◌, ◌<◌, ◌≤◌, Bool, true, false, ◌&&◌, List, [], ◌∷◌, ◌++◌, length, get_or, take, drop, slice_index_or, slice_set, refl}
use Rattle.std.proofs.Common.{sym, ap, ◌∙◌, append_assoc, add-zero, mul-zero, add-one, le_refl, arith, length-append, drop_of_length-le, drop-cons, get_or-take}
use Rattle.std.specs.List.{list_all}
use Rattle.std.proofs.lemmas.List.Edits.{sets}
use Rattle.std.proofs.lemmas.List.{set_at}
use Rattle.protocol.specs.declared.ClearEntry.{ClearEntry}
use Rattle.wire.specs.Number.{unsigned_int, unsigned_hyper}
use Rattle.wire.specs.Message.{entry_length, entry_p_at, entry_c_at, no_entry, entry_bytes, entries_bytes, entry_at, entries_at, entry_in_range, entries_in_range, entry_unused, unused}
use Rattle.protocol.proofs.StoredLists.{sets_append}
use Rattle.wire.specs.NumberLaws.{length_bytes_of}

-- ---- reading

-- one entry more at the end
pub entries_at_more : (count : ℕ) (s : List ℕ) (at : ℕ) → entries_at (suc count) s at ≡ entries_at count s at ++ (entry_at s (at + entry_length * count) ∷ [])
unfolding entries_at
entries_at_more zero s at = rw (mul-zero, add-zero)
entries_at_more (suc count) s at =
    let place : at + entry_length * suc count ≡ at + entry_length + entry_length * count = omega arith in
    rw place (ap (λ (es : List ClearEntry). entry_at s at ∷ es) (entries_at_more count s (at + entry_length)))

pub length_entries_at : (count : ℕ) (s : List ℕ) (at : ℕ) → length (entries_at count s at) ≡ count
unfolding entries_at
length_entries_at zero s at = refl
length_entries_at (suc count) s at = ap suc (length_entries_at count s (at + entry_length))

-- a turn stores the next entry, from the position that it stands at, into the places
pub entries_stored : (i : ℕ) (s : List ℕ) (at here : ℕ) (places : List ClearEntry) → i < length places → here ≡ at + entry_length * i
    → slice_set (entries_at i s at ++ drop i places) i (entry_at s here) ≡ entries_at (i + 1) s at ++ drop (i + 1) places
entries_stored i s at here places more moved =
    rw (drop-cons places i no_entry more, moved) (set_at (entries_at i s at) (get_or places i no_entry) (drop (suc i) places) (entry_at s (at + entry_length * i)) i (length_entries_at i s at)
    ∙ rw (add-one i, entries_at_more i s at, append_assoc))

-- and tests it: all entries left are in range where this one is and those past it are
entries_next : (low i count : ℕ) (s : List ℕ) (place : ℕ) → i < count
    → entries_in_range low (entries_at (count - i) s place)
    ≡ entry_in_range low (entry_at s place) && entries_in_range ((entry_at s place).card + 1) (entries_at (count - (i + 1)) s (place + entry_length))
unfolding entries_at entries_in_range
entries_next low i count s place more =
    let left : count - i ≡ suc (count - (i + 1)) = omega arith in
    rw left

module _ (all : Bool) (low i count : ℕ) (s : List ℕ) (place : ℕ) (e : ClearEntry) (more : i < count) (read : e ≡ entry_at s place) (before : entries_in_range low (entries_at (count - i) s place) ≡ all) where
  pub entries_passed : (next behind : ℕ) → entry_in_range low e ≡ true → next ≡ e.card + 1 → behind ≡ place + entry_length → entries_in_range next (entries_at (count - (i + 1)) s behind) ≡ all
  entries_passed next behind fits follows moved = rw (follows, moved, ap (λ (x : ClearEntry). x.card) read) (rw (entries_next low i count s place more, ← read, fits) at before)

  pub entries_failed : entry_in_range low e ≡ false → false ≡ all
  entries_failed fails = rw (entries_next low i count s place more, ← read, fails) at before

-- ---- testing a message's own

-- a turn tests the next of them
next_tested : (low i : ℕ) (es : List ClearEntry) → i < length es → let e = get_or es i no_entry in
    entries_in_range low (drop i es) ≡ entry_in_range low e && entries_in_range (e.card + 1) (drop (i + 1) es)
unfolding entries_in_range
next_tested low i es inside = rw (drop-cons es i no_entry inside, add-one i)

module _ (all : Bool) (low i : ℕ) (es : List ClearEntry) (inside : i < length es) (before : entries_in_range low (drop i es) ≡ all) where
  pub next_passed : (next : ℕ) → let e = get_or es i no_entry in entry_in_range low e ≡ true → next ≡ e.card + 1 → entries_in_range next (drop (i + 1) es) ≡ all
  next_passed next fits follows = rw follows (rw (next_tested low i es inside, fits) at before)

  pub next_failed : entry_in_range low (get_or es i no_entry) ≡ false → false ≡ all
  next_failed fails = rw (next_tested low i es inside, fails) at before

pub all_tested : (low : ℕ) (es : List ClearEntry) → entries_in_range low (drop (length es) es) ≡ true
unfolding entries_in_range
all_tested low es = rw (drop_of_length-le es (le_refl (length es)))

pub unused_all : (es : List ClearEntry) → list_all entry_unused es ≡ unused es
unfolding unused
unused_all [] = refl
unused_all (e ∷ es) = ap (λ rest. entry_unused e && rest) (unused_all es)

-- ---- writing

length_entry_bytes : (e : ClearEntry) → length (entry_bytes e) ≡ entry_length
unfolding entry_bytes
length_entry_bytes e = simp (length-append, length_bytes_of)

pub length_entries_bytes : (count : ℕ) (es : List ClearEntry) → length (entries_bytes count es) ≡ entry_length * count
unfolding entries_bytes
length_entries_bytes zero es = refl
length_entries_bytes (suc count) es = simp (length-append, length_entry_bytes) (omega (arith, length_entries_bytes count es))

-- of the front of a list the same bytes
pub entries_bytes_front : (count most : ℕ) (es : List ClearEntry) → count ≤ most → entries_bytes count (take most es) ≡ entries_bytes count es
unfolding entries_bytes
entries_bytes_front zero most es few = refl
entries_bytes_front (suc count) most es few = rw (entries_bytes_front count most es (omega arith), get_or-take most es count no_entry few)

-- the three numbers of an entry, stored side by side
entry_written : (out : List ℕ) (at : ℕ) (e : ClearEntry)
    → sets (sets (sets out at (unsigned_int e.card)) (at + entry_p_at) (unsigned_hyper e.p)) (at + entry_c_at) (unsigned_hyper e.c) ≡ sets out at (entry_bytes e)
unfolding entry_bytes
entry_written out at e = simp (sets_append, length-append, length_bytes_of)

-- a turn stores the next entry's bytes after those before it
pub entries_written : (out : List ℕ) (at : ℕ) (es : List ClearEntry) (i : ℕ) → let e = get_or es i no_entry in let place = at + entry_length * i in
    sets (sets (sets (sets out at (entries_bytes i es)) place (unsigned_int e.card)) (place + entry_p_at) (unsigned_hyper e.p)) (place + entry_c_at) (unsigned_hyper e.c)
    ≡ sets out at (entries_bytes (i + 1) es)
unfolding entries_bytes
entries_written out at es i =
    entry_written (sets out at (entries_bytes i es)) (at + entry_length * i) (slice_index_or es i no_entry)
    ∙ rw add-one (sym (sets_append out at (entries_bytes i es) (entry_bytes (slice_index_or es i no_entry)) ∙ rw (length_entries_bytes i es)))
