-- LAWS. A clear that is made entry by entry, as clearing.rt makes it: each present entry is written behind those before it and cleared in place (`Making`), and the
-- length word comes last. The row's bit is taken away before the first, and set with each entry that stays (`entry_made`).
use Rattle.std.specs.Prelude.{ℕ, zero, suc, ◌+◌, ◌-◌, ◌*◌, ◌≤◌, ◌<◌, ◌≡◌, Bool, false, ◌||◌, List, [], ◌∷◌, ◌++◌, set, replicate}
use Rattle.std.proofs.Math.Path.{refl, ap}
use Rattle.std.proofs.Common.{sym, ◌∙◌, append-nil, append_assoc, add-zero, add-suc, le_refl, add-one, arith, length-append, get_or-append-add}
use Rattle.std.proofs.Math.Bool.{true, cond}
use Rattle.std.proofs.Math.Nat.{max-eq_left, max-eq_right}
use Rattle.std.proofs.Math.ListN.{length, get_or-append}
use Rattle.std.proofs.lemmas.List.Edits.{sets}
use Rattle.std.proofs.Math.Seq.{length-sets}
use borrow.Author.Tests.{lt-ltb, le-ltb, le-leb, lt-leb, eq-eqb}
use Rattle.protocol.proofs.StoredLists.{sets_append, sets_set}
use Rattle.protocol.specs.Limits.{MAX, most_cards}
use Rattle.protocol.proofs.Cases.{by_test}
use Rattle.protocol.proofs.BitLaws.{any_below, any_cong}
use Rattle.protocol.specs.Rows.{WellFormed}
use Rattle.protocol.proofs.Tables.{sum}
use Rattle.protocol.specs.declared.Entry.{Entry}
use Rattle.protocol.specs.declared.ClearEntry.{ClearEntry}
use Rattle.protocol.specs.Entry.{absent, present, has_entry, cleared}
use Rattle.protocol.specs.Chassis.{Message, clearing, present_entries, read_value}
use Rattle.protocol.proofs.StoreLaws.{Store, CardsBelow, cleared_words, shown}
use Rattle.wire.specs.Number.{unsigned_int, unsigned_hyper}
use Rattle.wire.specs.Message as form
use Rattle.wire.specs.Message.{version_2, clear_kind, header_bytes_of, message_bytes, over, no_entry, entry_length, clear_length, count_at, first_entry_at, entry_p_at, entry_c_at, entry_bytes, entries_bytes}
use Rattle.wire.specs.NumberLaws.{length_bytes_of}
use Rattle.wire.specs.EntriesLaws.{length_entries_bytes}
use Rattle.wire.specs.WriteLaws.{clear_stored}
use Rattle.replica_model.specs.Layout.{head_of, cards, counters, own_card, C_of, N_of, entry_of, set_N, set_entry, set_active, mark, layout}
use Rattle.replica_model.proofs.LayoutLaws.{lawful, set_C_same, set_entry_length, head_active, same_counters}
use Rattle.replica_model.specs.Format.{format_2, size_of}
use Rattle.replica_model.specs.Calls.{ClearedOutcome, sent_with, clear_of, reading, with_value, words_after}
use Rattle.replica_model.proofs.Senders.{Sending}
use Rattle.replica_model.proofs.PresentLaws.{entry_sent, present_next, present_fewer, present_few, present_below}
use Rattle.layout.specs.WordsLaws.{RowInside, head_inside, row_entry, row_active, put_here, put_elsewhere, mark_present, length_active, C_active, N_active, entry_active, entry_then_active, active_or}
use Rattle.layout.specs.Effects.{Receives, with_message, clear_taken}
use Rattle.layout.specs.Totals.{sum_turn, held, held_below}
use Rattle.sending.specs.SendLaws.{row_inside, own_below, sends_receives, clear_made}

-- ---- bytes stored in parts

-- stretches that lie apart, stored in the other order
sets_swap : (l : List ℕ) (at : ℕ) (xs : List ℕ) (i : ℕ) (ys : List ℕ) → at + length xs ≤ i → sets (sets l i ys) at xs ≡ sets (sets l at xs) i ys
sets_swap l at xs i [] past = refl
sets_swap l at xs i (y ∷ ys) past = sets_swap (set l i y) at xs (suc i) ys (omega arith) ∙ rw (sets_set l at xs i y past)

-- the first entries, where others stand behind them
entries_front : (n : ℕ) (es us : List ClearEntry) → n ≤ length es → entries_bytes n (es ++ us) ≡ entries_bytes n es
unfolding entries_bytes
entries_front zero es us l = refl
entries_front (suc n) es us l = rw (entries_front n es us (omega arith), get_or-append es us no_entry n l)

-- their bytes, and then those of the others
entries_joined : (es us : List ClearEntry) (n : ℕ) → entries_bytes (length es + n) (es ++ us) ≡ entries_bytes (length es) es ++ entries_bytes n us
unfolding entries_bytes
entries_joined es us zero = rw (add-zero, append-nil) (entries_front (length es) es us (omega arith))
entries_joined es us (suc n) = rw (add-suc, entries_joined es us n, get_or-append-add es us n no_entry) (append_assoc (entries_bytes (length es) es) _ _)

-- entries stored behind others
entries_behind : (out : List ℕ) (at : ℕ) (es us : List ClearEntry)
    → sets (sets out at (entries_bytes (length es) es)) (at + entry_length * length es) (entries_bytes (length us) us) ≡ sets out at (entries_bytes (length es + length us) (es ++ us))
entries_behind out at es us =
    rw (entries_joined es us (length us), sets_append out at (entries_bytes (length es) es) (entries_bytes (length us) us), length_entries_bytes (length es) es)

-- the three numbers of one entry
pub entry_written : (out : List ℕ) (at card p c : ℕ)
    → sets (sets (sets out at (unsigned_int card)) (at + entry_p_at) (unsigned_hyper p)) (at + entry_c_at) (unsigned_hyper c)
    ≡ sets out at (entries_bytes 1 (record { card = card; p = p; c = c } ∷ []))
unfolding entries_bytes entry_bytes
entry_written out at card p c =
    let e : ClearEntry = record { card = card; p = p; c = c } in
    let joined : sets (sets (sets out at (unsigned_int card)) (at + entry_p_at) (unsigned_hyper p)) (at + entry_c_at) (unsigned_hyper c) ≡ sets out at (entry_bytes e) = simp (sets_append, length-append, length_bytes_of) in
    joined

-- the header, the entries behind their length word, and then that
clear_written : (out : List ℕ) (sender sequence counter : ℕ) (es : List ClearEntry) → clear_length (length es) ≤ length out
    → sets (sets (sets out 0 (header_bytes_of version_2 clear_kind sender sequence counter)) first_entry_at (entries_bytes (length es) es)) count_at (unsigned_int (length es))
    ≡ over (message_bytes (form.clear_message version_2 sender sequence counter es)) out
unfolding form.clear_message
clear_written out sender sequence counter es room =
    let none = replicate (most_cards - length es) no_entry in
    let header = sets out 0 (header_bytes_of version_2 clear_kind sender sequence counter) in
    let size = unsigned_int (length es) in
    let short : count_at + length size ≤ first_entry_at = rw length_bytes_of (omega arith) in
    sets_swap header count_at size first_entry_at (entries_bytes (length es) es) short
    ∙ clear_stored (form.clear_message version_2 sender sequence counter es) out header (sets header count_at size) _ refl room refl refl
    (rw (entries_front (length es) es none (omega arith)))

-- ---- what the own clear makes of an entry that it names

-- n is at most p, so the larger is (p, p, c): it stays where c is ahead of the increments received, and goes where it is not. e and `received` are what the code found.
module _ (M : Entry) (C : ℕ) (n≤p : M.n ≤ M.p) (some : 0 < M.p) (e : Entry) (received : ℕ) (found : e ≡ M) (known : received ≡ C) where
  cleared_ahead : received < e.c → ◌≡◌ {A = Entry} (record { p = e.p; n = e.p; c = e.c }) (cleared M.p M.c C M)
  unfolding cleared
  cleared_ahead l =
      rw (found, lt-ltb 0 M.p some, max-eq_left (le_refl M.p), max-eq_right n≤p, max-eq_left (le_refl M.c), eq-eqb M.p M.p refl, lt-leb M.c C (rw (found, known) at l))

  cleared_gone : e.c ≤ received → absent ≡ cleared M.p M.c C M
  unfolding cleared
  cleared_gone l =
      rw (lt-ltb 0 M.p some, max-eq_left (le_refl M.p), max-eq_right n≤p, max-eq_left (le_refl M.c), eq-eqb M.p M.p refl, le-leb M.c C (rw (found, known) at l))

-- what becomes of the words when card j's entry of row q goes into the clear: it is cleared, if it is present, and where it stays the row's bit is set
abbrev pub entry_made : ℕ → ℕ → ℕ → List ℕ → List ℕ
entry_made r q j b =
    let after = cleared_words (layout r (counters b)) q (entry_sent j (entry_of r b q j)) b in
    cond (present (entry_of r after q j)) (set_active q true after) after

-- an absent one
pub made_absent : (b : List ℕ) (r q j : ℕ) → (entry_of r b q j).p ≡ 0 → b ≡ entry_made r q j b
unfolding cleared_words
made_absent b r q j none =
    let gone : present (entry_of r b q j) ≡ false = le-ltb 0 (entry_of r b q j).p (omega arith) in
    rw (gone, gone)

-- a present one, as the code puts it back: one that stays by `mark`, one that goes by its zeros
module _ (b : List ℕ) (r q j : ℕ) (h : RowInside b r q) (l : j < r) (n≤p : (entry_of r b q j).n ≤ (entry_of r b q j).p) (some : 0 < (entry_of r b q j).p) where
  -- put back as x, which is present or not as t says
  put_back : (x : Entry) → x ≡ cleared (entry_of r b q j).p (entry_of r b q j).c (C_of b j) (entry_of r b q j) → (t : Bool) → present x ≡ t
      → cond t (set_active q true (set_entry r q j x b)) (set_entry r q j x b) ≡ entry_made r q j b
  unfolding cleared_words
  put_back x same t said =
      rw (lt-ltb 0 (entry_of r b q j).p some)
      (ap (λ (u : Bool). cond u (set_active q true (set_entry r q j x b)) (set_entry r q j x b)) (sym (ap present (put_here b r q h j x l) ∙ said))
      ∙ ap (λ (y : Entry). cond (present (entry_of r (set_entry r q j y b) q j)) (set_active q true (set_entry r q j y b)) (set_entry r q j y b)) same)

  module _ (e : Entry) (received : ℕ) (found : e ≡ entry_of r b q j) (known : received ≡ C_of b j) where
    pub made_ahead : received < e.c → (b' : List ℕ) → b' ≡ mark r q (set_entry r q j (record { p = e.p; n = e.p; c = e.c }) b) → b' ≡ entry_made r q j b
    made_ahead ahead b' put =
        let x : Entry = record { p = e.p; n = e.p; c = e.c } in
        let stays : present x ≡ true = lt-ltb 0 e.p (rw found some) in
        put ∙ sym (mark_present b r q h j x l stays) ∙ put_back x (cleared_ahead (entry_of r b q j) (C_of b j) n≤p some e received found known ahead) true stays

    pub made_gone : e.c ≤ received → (b' : List ℕ) → b' ≡ set_entry r q j absent b → b' ≡ entry_made r q j b
    made_gone taken b' put = put ∙ put_back absent (cleared_gone (entry_of r b q j) (C_of b j) n≤p some e received found known taken) false refl

-- ---- entries cleared in parts

-- the first of them, and then the others
cleared_append : (S : Store) (q : ℕ) (es us : List ClearEntry) (ws : S.Words) → cleared_words S q (es ++ us) ws ≡ cleared_words S q us (cleared_words S q es ws)
unfolding cleared_words
cleared_append S q [] us ws = refl
cleared_append S q (e ∷ es) us ws = cleared_append S q es us _

-- the row's bit set before them, or after
cleared_active : (r k q : ℕ) (t : Bool) (es : List ClearEntry) (b : List ℕ)
    → cleared_words (layout r k) q es (set_active q t b) ≡ set_active q t (cleared_words (layout r k) q es b)
unfolding cleared_words
cleared_active r k q t [] b = refl
cleared_active r k q t (e ∷ es) b =
    let e' = cleared e.p e.c (C_of b e.card) (entry_of r b q e.card) in
    rw (C_active q t b e.card, entry_active q t b r q e.card, entry_then_active q t b r e.card e')
    (cleared_active r k q t es (set_entry r q e.card e' b))

-- card j's alone: the entries of the cards before it stay
cleared_earlier : (r k q j : ℕ) (b : List ℕ) → RowInside b r q → j < r → (e : Entry) (i : ℕ) → i < j → entry_of r (cleared_words (layout r k) q (entry_sent j e) b) q i ≡ entry_of r b q i
unfolding cleared_words
cleared_earlier r k q j b h l e i before =
    by_test (present e)
    (λ t. rw t (put_elsewhere b r q h j _ l i (omega arith) (λ same. omega arith)))
    (λ t. rw t)

-- what stays where entries of cards below j are cleared: the row where it is, the head, the length, C, N, and the entries from j on
pub record Stays (r q j : ℕ) (b b' : List ℕ) : Type 0 where
  pub inside : RowInside b' r q
  pub head : head_of b' ≡ head_of b
  pub long : length b' ≡ length b
  pub C_stays : (i : ℕ) → i < r → C_of b' i ≡ C_of b i
  pub N_stays : (i : ℕ) → i < r → N_of r b' i ≡ N_of r b i
  pub later : (i : ℕ) → j ≤ i → i < r → entry_of r b' q i ≡ entry_of r b q i

-- by each entry in turn
cleared_stays : (r k q j : ℕ) → j ≤ r → (es : List ClearEntry) (b : List ℕ) → CardsBelow j es → RowInside b r q → Stays r q j b (cleared_words (layout r k) q es b)
unfolding cleared_words
cleared_stays r k q j few [] b on h = record { inside = h; head = refl; long = refl; C_stays = λ i m. refl; N_stays = λ i m. refl; later = λ i l m. refl }
cleared_stays r k q j few (e ∷ es) b on h =
    let here : e.card < r = omega (arith, on.0) in
    let e' = cleared e.p e.c (C_of b e.card) (entry_of r b q e.card) in
    let law = lawful r (counters b) in
    let rest = cleared_stays r k q j few es (set_entry r q e.card e' b) on.1 (row_entry b r q h e.card e' here) in
    record {
      inside = rest.inside;
      head = rest.head ∙ law.head_entry q e.card e' b here;
      long = rest.long ∙ set_entry_length r q e.card e' b;
      C_stays = λ i m. rest.C_stays i m ∙ law.C_entry q e.card e' b here i m;
      N_stays = λ i m. rest.N_stays i m ∙ law.N_entry q e.card e' b here i m;
      later = λ i l m.
          let other : i ≡ e.card → ⊥ = λ same. omega (arith, on.0) in
          rest.later i l m ∙ put_elsewhere b r q h e.card e' here i m other;
    }

-- and by the row's bit
stays_active : (r q j : ℕ) (t : Bool) (b b' : List ℕ) → Stays r q j b b' → Stays r q j b (set_active q t b')
stays_active r q j t b b' s = record {
  inside = row_active b' r q s.inside t;
  head = head_active r (counters b) q t b' ∙ s.head;
  long = length_active q t b' ∙ s.long;
  C_stays = λ i m. C_active q t b' i ∙ s.C_stays i m;
  N_stays = λ i m. N_active q t b' r i ∙ s.N_stays i m;
  later = λ i l m. entry_active q t b' r q i ∙ s.later i l m;
}

-- ---- the loop over the cards

-- whether a row has an entry, one card more
has_next : (row : ℕ → Entry) (j : ℕ) → has_entry (j + 1) row ≡ has_entry j row || present (row j)
unfolding any_below
has_next row j = rw (add-one j)

-- the words b, where the present entries of the first j cards are cleared
abbrev cleared_below : List ℕ → ℕ → ℕ → ℕ → List ℕ
cleared_below b r q j = cleared_words (layout r (counters b)) q (present_entries j (entry_of r b q)) b

-- j cards passed, over the words b and the output with its header: their present entries are written and cleared, the row's bit says whether one of them is left, and their
-- values are summed up
pub record Making (b out : List ℕ) (r q j : ℕ) (b' out' : List ℕ) (value len : ℕ) : Type 0 where
  pub within : j ≤ r
  pub words : b' ≡ set_active q (has_entry j (entry_of r (cleared_below b r q j) q)) (cleared_below b r q j)
  pub count : len ≡ length (present_entries j (entry_of r b q))
  pub bytes : out' ≡ sets out first_entry_at (entries_bytes len (present_entries j (entry_of r b q)))
  pub summed : value ≡ sum j (held (entry_of r b q))

-- none passed, and the bit taken away
pub making_begins : (b out : List ℕ) (r q : ℕ) (b' : List ℕ) → b' ≡ set_active q false b → Making b out r q 0 b' out 0 0
unfolding present_entries cleared_words entries_bytes sum any_below
making_begins b out r q b' quiet = record { within = omega arith; words = quiet; count = refl; bytes = refl; summed = refl }

-- there are no more entries than cards, and the output is as long as it was
module _ (b out : List ℕ) (r q j : ℕ) (b' out' : List ℕ) (value len : ℕ) (m : Making b out r q j b' out' value len) where
  pub making_few : len ≤ j
  making_few = rw m.count (present_few (entry_of r b q) j)

  pub making_length : length out' ≡ length out
  making_length = rw m.bytes (simp length-sets)

module _ (b : List ℕ) (r q : ℕ) (first : r ≡ cards b) (h : Sending b q 0) where
  -- what the row says of card j's entry
  pub sent_well_formed : (j : ℕ) → j < r → WellFormed MAX (entry_of r b q j)
  sent_well_formed j l = rw first (h.row.tables.entry j (rw first at l))

  -- what clearing the first j leaves as it was
  below_stays : (j : ℕ) → j ≤ r → Stays r q j b (cleared_below b r q j)
  below_stays j few = cleared_stays r (counters b) q j few _ b (present_below (entry_of r b q) j j (omega arith)) (row_inside b r q 0 first h)

  module _ (out : List ℕ) (j : ℕ) (b' out' : List ℕ) (value len : ℕ) (m : Making b out r q j b' out' value len) where
    -- what the loop leaves as it was
    pub making_stays : Stays r q j b b'
    making_stays = rw m.words (stays_active r q j _ b (cleared_below b r q j) (below_stays j m.within))

    -- the value fits
    pub making_small : value ≤ j * MAX
    making_small = rw m.summed (held_below (entry_of r b q) j (λ i l. sent_well_formed i (omega (arith, m.within))))

    module _ (l : j < r) where
      -- the next entry is as it was
      pub making_next : entry_of r b' q j ≡ entry_of r b q j
      making_next = making_stays.later j (omega arith) l

      -- and there is room for it
      pub making_room : size_of (clear_of b q) ≤ length out → clear_length (len + length (entry_sent j (entry_of r b' q j))) ≤ length out'
      making_room room =
          let row = entry_of r b q in
          let fits : clear_length (length (present_entries r row)) ≤ length out = rw (← (clear_made b q r first)) at room in
          let same = ap (λ (e : Entry). length (entry_sent j e)) making_next in
          let more = ap length (present_next row j) ∙ length-append (present_entries j row) (entry_sent j (row j)) in
          omega (arith, making_length b out r q j b' out' value len m, m.count, present_fewer row (j + 1) r (omega arith))

      -- the next entry made is one more cleared, and the bit says whether it is left too
      one_more : entry_made r q j b' ≡ set_active q (has_entry (j + 1) (entry_of r (cleared_below b r q (j + 1)) q)) (cleared_below b r q (j + 1))
      one_more =
          let S = layout r (counters b) in
          let row = entry_of r b q in
          let us = entry_sent j (row j) in
          let w = cleared_below b r q j in
          let w' = cleared_below b r q (j + 1) in
          let s = has_entry j (entry_of r w q) in
          let grown : w' ≡ cleared_words S q us w = ap (λ (es : List ClearEntry). cleared_words S q es b) (present_next row j) ∙ cleared_append S q (present_entries j row) us b in
          let stays = below_stays (j + 1) (omega arith) in
          let long = head_inside w' stays.inside.right in
          let after : cleared_words (layout r (counters b')) q (entry_sent j (entry_of r b' q j)) b' ≡ set_active q s w'
          = ap (λ (e : Entry). cleared_words (layout r (counters b')) q (entry_sent j e) b') making_next
          ∙ ap (λ (k : ℕ). cleared_words (layout r k) q us b') (same_counters b b' making_stays.head)
          ∙ ap (λ (x : List ℕ). cleared_words S q us x) m.words
          ∙ cleared_active r (counters b) q s us w
          ∙ ap (λ (x : List ℕ). set_active q s x) (sym grown) in
          let earlier : (i : ℕ) → i < j → present (entry_of r w q i) ≡ present (entry_of r w' q i)
          = λ i before. ap present (sym (ap (λ (x : List ℕ). entry_of r x q i) grown ∙ cleared_earlier r (counters b) q j w (below_stays j m.within).inside l (row j) i before)) in
          let more : s || present (entry_of r w' q j) ≡ has_entry (j + 1) (entry_of r w' q)
          = ap (λ (t : Bool). t || present (entry_of r w' q j)) (any_cong j _ _ earlier) ∙ sym (has_next (entry_of r w' q) j) in
          ap (λ (x : List ℕ). cond (present (entry_of r x q j)) (set_active q true x) x) after
          ∙ ap (λ (e : Entry). cond (present e) (set_active q true (set_active q s w')) (set_active q s w')) (entry_active q s w' r q j)
          ∙ active_or q s (present (entry_of r w' q j)) w' long
          ∙ ap (λ (t : Bool). set_active q t w') more

      -- an entry e that is as it was, written and cleared
      turn : (e : Entry) → e ≡ entry_of r b q j → (b'' out'' : List ℕ) (len'' : ℕ) → let us = entry_sent j e in
          len'' ≡ len + length us → b'' ≡ entry_made r q j b' → out'' ≡ sets out' (clear_length len) (entries_bytes (length us) us)
          → Making b out r q (j + 1) b'' out'' (value + (e.p - e.n)) len''
      turn e found b'' out'' len'' counted made written =
          let row = entry_of r b q in
          let es = present_entries j row in
          let us = entry_sent j (row j) in
          let long : len'' ≡ length es + length us = counted ∙ rw (found, m.count) in
          record {
            within = omega arith;
            words = made ∙ one_more;
            count = rw (present_next row j, length-append es us) long;
            bytes = written ∙ rw (found, long, present_next row j, m.bytes, m.count) (entries_behind out first_entry_at es us);
            summed = rw (found, m.summed) (sum_turn j (held row));
          }

      -- so one card more is passed
      pub making_turn : (b'' out'' : List ℕ) (len'' : ℕ) → let e = entry_of r b' q j in let us = entry_sent j e in
          len'' ≡ len + length us → b'' ≡ entry_made r q j b' → out'' ≡ sets out' (clear_length len) (entries_bytes (length us) us)
          → Making b out r q (j + 1) b'' out'' (value + (e.p - e.n)) len''
      making_turn = turn (entry_of r b' q j) making_next

  -- all of them passed, then the length word and N: the clear is sent
  pub clear_sent : (out : List ℕ) (own sequence j : ℕ) (b' b'' headed out' out'' : List ℕ) (value len : ℕ) → size_of (clear_of b q) ≤ length out → own ≡ own_card b
      → headed ≡ sets out 0 (header_bytes_of version_2 clear_kind own (N_of r b own + 1) q) → j ≡ r → Making b headed r q j b' out' value len
      → sequence ≡ N_of r b' own + 1 → out'' ≡ sets out' count_at (unsigned_int len) → b'' ≡ set_N r own sequence b'
      → ◌≡◌ {A = ClearedOutcome} (record { answer = record { number = 0; value = value; sequence = sequence; length = clear_length len }; words = b''; out = out'' })
      (with_value (reading b q).value (sent_with format_2 b out (clear_of b q)))
  unfolding reading read_value shown
  clear_sent out own sequence j b' b'' headed out' out'' value len room mine header all making next written counted =
      let m : Making b (sets out 0 (header_bytes_of version_2 clear_kind own (N_of r b own + 1) q)) r q r b' out' value len = rw (header, all) at making in
      let es = present_entries r (entry_of r b q) in
      let stays = making_stays _ r b' out' value len m in
      let on = present_below (entry_of r b q) r r (omega arith) in
      let inside : own < r = rw mine (own_below b r q 0 first h) in
      let receives : Receives b r q own = rw mine (sends_receives b r q 0 first h) in
      let fits : clear_length (length es) ≤ length out = rw (← (clear_made b q r first)) at room in
      let same : C_of b own + 0 ≡ C_of b' own = omega (arith, stays.C_stays own inside) in
      let sent : sequence ≡ N_of r b own + 1 = next ∙ rw (stays.N_stays own inside) in
      let after : with_message r own (C_of b own) 0 b' ≡ words_after own (clearing q es) b = rw m.words (clear_taken b r q own receives es (cleared_below b r q r) on refl) in
      let taken : b'' ≡ words_after own (clearing q es) b = counted ∙ rw next (rw (same, set_C_same own b') at after) in
      let bytes : out'' ≡ over (message_bytes (form.clear_message version_2 own (N_of r b own + 1) q es)) out =
      written ∙ rw (m.bytes, m.count) (clear_written out own (N_of r b own + 1) q es fits) in
      rw (m.summed, sent, m.count, taken, bytes, mine, first)
      (ap (λ (x : Message). with_value (reading b q).value (sent_with format_2 b out x)) (clear_made b q (cards b) refl))
