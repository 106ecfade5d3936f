-- LAWS. Taking a message, by a replica that is right: the entries of a clear, tested one by one; the checks that both kinds have, in two parts, what is known of a
-- message that passes them, and the outcome by the last check; and the outcome of the whole call.
use Rattle.std.specs.Prelude.{ℕ, ◌+◌, ◌*◌, ◌≤◌, ◌<◌, ◌≡◌, ◌≢◌, Bool, true, false, not, ◌&&◌, ◌||◌, leb, ltb, eqb, length, get_or, take, drop}
use Rattle.std.proofs.Math.Path.{refl, sym}
use Rattle.std.proofs.Common.{ap, ◌∙◌, add-one, arith, drop_of_length-le, drop-cons, leb-true, ltb-true, le-leb, ne_eqb, lt-ltb, le-ltb}
use mathlib.Core.List.{List, [], ◌∷◌, ◌++◌}
use Rattle.std.proofs.Math.Bool.{and_assoc, and-true, and-false, and-eq-true_iff}
use Rattle.std.proofs.lemmas.Bool.{lt-leb, eqb-false, not-true}
use Rattle.protocol.specs.Limits.{MAX, bad_row, bad_counter, unreadable, implausible}
use Rattle.protocol.proofs.Cases.{by_place, by_le}
use Rattle.protocol.specs.declared.Refusal.{Refusal}
use Rattle.protocol.specs.Refusals.{number_of}
use Rattle.protocol.specs.Checks.{Check, or_else, checked, first_failing}
use Rattle.protocol.proofs.RefusalLaws.{refusal_some}
use Rattle.protocol.proofs.ChecksLaws.{first_refuses, first_passes, all_accepts}
use Rattle.protocol.specs.declared.ClearEntry.{ClearEntry}
use Rattle.protocol.specs.Acceptance.{all_entries, entries_of, cards_known, increment_plausible, entry_plausible, plausible}
use Rattle.protocol.proofs.AcceptanceLaws.{known_sender, known_entries, increment_facts}
use Rattle.protocol.specs.Entry.{incremented}
use Rattle.protocol.specs.Chassis.{Message, increment, clearing, counter_of}
use Rattle.protocol.proofs.StoreLaws.{CardsBelow, cleared_words, taken_words}
use Rattle.wire.specs.Message.{version_2, no_entry, entry_at, entries_at, entry_length, entry_in_range, reads, message_at}
use Rattle.wire.specs.declared.reader.Header.{Header}
use Rattle.wire.specs.declared.reader.Increment.{Increment}
use Rattle.wire.specs.EntriesLaws.{entries_at_more}
use Rattle.replica_model.specs.Layout.{cards, counters, own_card, C_of, N_of, entry_of, set_C, set_N, set_entry, mark, layout}
use Rattle.replica_model.proofs.LayoutLaws.{lawful}
use Rattle.replica_model.specs.Format.{Received, received_of}
use Rattle.replica_model.specs.Calls.{TakeOutcome, row_well_formed, message_checks, not_taken, taken_with, take_with, take_on, words_after}
use Rattle.replica_model.specs.ClaimTerms.{Right, RowOf}
use Rattle.replica_model.proofs.RowLaws.{tests, right_from, row_facts}
use Rattle.layout.specs.Effects.{Receives, increment_taken}
use Rattle.taking.specs.ReadParts.{increment_from}

-- a plausible increment has a p that its amount can be taken from, and leaves C in range
pub increment_room : (C w p : ℕ) (start : Bool) → increment_plausible C w p start ≡ true → (w ≤ p) × (C + w ≤ MAX)
increment_room C w p true h = let k = increment_facts C w p true h in omega arith
increment_room C w p false h = let k = increment_facts C w p false h in omega arith

-- ---- the entries of a clear, one by one

all_entries_append : (f : ClearEntry → Bool) (es fs : List ClearEntry) → all_entries f (es ++ fs) ≡ (all_entries f es && all_entries f fs)
unfolding all_entries
all_entries_append f [] fs = refl
all_entries_append f (e ∷ es) fs = rw (all_entries_append f es fs, and_assoc (f e) (all_entries f es) (all_entries f fs))

all_entries_turn : (f : ClearEntry → Bool) (s : List ℕ) (at i : ℕ)
    → (all_entries f (entries_at i s at) && f (entry_at s (at + entry_length * i))) ≡ all_entries f (entries_at (i + 1) s at)
unfolding all_entries
all_entries_turn f s at i =
    let e = entry_at s (at + entry_length * i) in
    rw (add-one i, entries_at_more i s at, all_entries_append f (entries_at i s at) (e ∷ []), and-true (f e))

-- whether all from the i-th on pass says whether all do: one turn, and the end
module _ (f : ClearEntry → Bool) (es : List ClearEntry) (i : ℕ) (left : all_entries f (drop i es) ≡ all_entries f es) where
  module _ (more : i < length es) where
    pub entry_passed : f (get_or es i no_entry) ≡ true → all_entries f (drop (i + 1) es) ≡ all_entries f es
    unfolding all_entries
    entry_passed h = rw (add-one i) (rw (drop-cons es i no_entry more, h) at left)

    pub entry_failed : f (get_or es i no_entry) ≡ false → all_entries f es ≡ false
    unfolding all_entries
    entry_failed h = sym (rw (drop-cons es i no_entry more, h) at left)

  pub entries_done : length es ≤ i → all_entries f es ≡ true
  unfolding all_entries
  entries_done all = sym (rw (drop_of_length-le es all) at left)

-- cards rise, so all are below r where the last is: `low` is the card behind the last of the first i entries
pub low_none : (r : ℕ) (s : List ℕ) (at : ℕ) → leb 0 r ≡ all_entries (λ e. ltb e.card r) (entries_at 0 s at)
unfolding all_entries entries_at
low_none r s at = le-leb 0 r (omega arith)

pub low_turn : (r low next : ℕ) (s : List ℕ) (at i : ℕ) (e : ClearEntry) → e ≡ entry_at s (at + entry_length * i) → entry_in_range low e ≡ true → next ≡ e.card + 1
    → leb low r ≡ all_entries (λ e. ltb e.card r) (entries_at i s at) → leb next r ≡ all_entries (λ e. ltb e.card r) (entries_at (i + 1) s at)
unfolding entry_in_range
low_turn r low next s at i e stands fits follows before =
    let above : low ≤ e.card = (simp tests at fits).0.0.0.0 in
    let card = ap (λ (x : ClearEntry). x.card) stands in
    rw (follows, ← all_entries_turn (λ e. ltb e.card r) s at i, ← before, ← card)
    (by_le (e.card + 1) r
    (λ l. rw (le-leb (e.card + 1) r l, le-leb low r (omega arith), lt-ltb e.card r (omega arith)))
    (λ g. rw (lt-leb (e.card + 1) r g, le-ltb e.card r (omega arith), and-false (leb low r))))

same_card : (card j c : ℕ) (C : ℕ → ℕ) → (eqb card j && ltb (C j) c) ≡ (eqb card j && ltb (C card) c)
same_card card j c C = by_place card j (λ e. rw e) (λ d. rw (ne_eqb card j d))

or_and : (s t u : Bool) → ((s && u) || (t && u)) ≡ ((s || t) && u)
or_and true true true = refl
or_and true true false = refl
or_and true false true = refl
or_and true false false = refl
or_and false t u = refl

-- the test of one entry, by the two cards that it looks at and the receiver's C of each
abbrev pub entry_test : ℕ → ℕ → ℕ → ℕ → ClearEntry → Bool
entry_test own ours sender theirs e = not ((eqb e.card own && ltb ours e.c) || (eqb e.card sender && ltb theirs e.c))

module _ (C : ℕ → ℕ) (own sender : ℕ) where
  entry_plausible_is : (e : ClearEntry) → entry_test own (C own) sender (C sender) e ≡ entry_plausible C own sender e
  unfolding entry_plausible
  entry_plausible_is e =
      rw (same_card e.card own e.c C, same_card e.card sender e.c C, or_and (eqb e.card own) (eqb e.card sender) (ltb (C e.card) e.c))

  pub entries_plausible : {own' ours theirs : ℕ} → own' ≡ own → ours ≡ C own' → theirs ≡ C sender
      → (es : List ClearEntry) → all_entries (entry_test own' ours sender theirs) es ≡ all_entries (entry_plausible C own sender) es
  unfolding all_entries
  entries_plausible same mine theirs [] = refl
  entries_plausible same mine theirs (e ∷ es) = rw (entries_plausible same mine theirs es, mine, theirs, same, entry_plausible_is e)

-- ---- the checks that both kinds have

-- the sender is not the own card
other_sender : (r own sender : ℕ) (m : Message) → cards_known r own sender m ≡ true → sender ≢ own
unfolding cards_known
other_sender r own sender m h = let k = simp and-eq-true_iff at h in eqb-false sender own (not-true _ k.0.1)

-- 3 and 2, of counter q
abbrev pub row_checks : List ℕ → ℕ → List Check
row_checks b q = or_else (ltb q (counters b)) bad_counter ∷ or_else (row_well_formed b q) bad_row ∷ []

-- what `check_sender` is given of message m: its sender and sequence, and whether its entries name cards below r
pub record Given (r : ℕ) (m : Received) (s n : ℕ) (below : Bool) : Type 0 where
  pub sender : m.sender ≡ s
  pub sequence : m.sequence ≡ n
  pub entries : all_entries (λ e. ltb e.card r) (entries_of m.content) ≡ below

pub increment_given : (r : ℕ) (h : Header) (body : Increment) (amount : ℕ) → Given r (increment_from h body amount) h.sender h.sequence true
unfolding all_entries
increment_given r h body amount = record { sender = refl; sequence = refl; entries = refl }

module _ (b : List ℕ) (m : Received) where
  -- 7, 8 and 9
  abbrev pub sender_checks : List Check
  sender_checks = take 3 (drop 2 (message_checks b m))

  abbrev first_checks : List Check
  first_checks = row_checks b (counter_of m.content)

  abbrev last_check : List Check
  last_check = or_else (plausible (C_of b) (own_card b) m.sender m.content) implausible ∷ []

  -- what take answers and leaves: all of the checks, those behind the row's, and the last
  abbrev pub judged : TakeOutcome
  judged = checked (λ n. not_taken n b) (message_checks b m) (taken_with b m)

  abbrev at_sender : TakeOutcome
  at_sender = checked (λ n. not_taken n b) (drop 2 (message_checks b m)) (taken_with b m)

  abbrev at_last : TakeOutcome
  at_last = checked (λ n. not_taken n b) last_check (taken_with b m)

  -- a refusal by those of the row
  pub row_refused : (x : Refusal) → number_of x ≡ first_failing first_checks → not_taken (number_of x) b ≡ judged
  row_refused x e = rw e (first_refuses (λ n. not_taken n b) at_sender first_checks (λ none. refusal_some x (e ∙ none)))

  module _ (row : 0 ≡ first_failing first_checks) where
    behind_row : at_sender ≡ judged
    behind_row = sym (all_accepts (λ n. not_taken n b) at_sender first_checks (first_passes first_checks refl (sym row)))

    -- and by those of the sender
    pub sender_refused : (x : Refusal) → number_of x ≡ first_failing sender_checks → not_taken (number_of x) b ≡ judged
    sender_refused x e = rw e (first_refuses (λ n. not_taken n b) at_last sender_checks (λ none. refusal_some x (e ∙ none))) ∙ behind_row

    module _ (sender : 0 ≡ first_failing sender_checks) where
      behind_sender : at_last ≡ judged
      behind_sender = sym (all_accepts (λ n. not_taken n b) at_last sender_checks (first_passes sender_checks refl (sym sender))) ∙ behind_row

      pub taking_declined : plausible (C_of b) (own_card b) m.sender m.content ≡ false → not_taken implausible b ≡ judged
      taking_declined fails = rw (← behind_sender, fails)

      pub was_taken : (after : List ℕ) → plausible (C_of b) (own_card b) m.sender m.content ≡ true → after ≡ words_after m.sender m.content b
          → ◌≡◌ {A = TakeOutcome} (record { answer = record { number = 0; sequence = m.sequence }; words = after }) judged
      was_taken after holds same = rw (← behind_sender, holds, same)

  -- what is known of a message that passes them
  pub record Passed : Type 0 where
    pub counter : counter_of m.content < counters b
    pub row : RowOf b (counter_of m.content)
    pub sender : m.sender < cards b
    pub apart : own_card b ≢ m.sender
    pub entries : CardsBelow (cards b) (entries_of m.content)
    pub next : m.sequence ≡ N_of (cards b) b m.sender + 1

  pub is_passed : 0 ≡ first_failing first_checks → 0 ≡ first_failing sender_checks → Passed
  is_passed row sender =
      let (h₃, (h₂, _)) = first_passes first_checks refl (sym row) in
      let (h₇, (h₈, (h₉, _))) = first_passes sender_checks refl (sym sender) in
      let above = ltb-true (N_of (cards b) b m.sender) m.sequence h₈ in
      let most = leb-true m.sequence (N_of (cards b) b m.sender + 1) h₉ in
      record {
        counter = ltb-true (counter_of m.content) (counters b) h₃;
        row = row_facts b (counter_of m.content) h₂;
        sender = known_sender (cards b) (own_card b) m.sender m.content h₇;
        apart = λ e. other_sender (cards b) (own_card b) m.sender m.content h₇ (sym e);
        entries = known_entries (cards b) (own_card b) m.sender m.content h₇;
        next = omega arith;
      }

  pub receives : Right b → Passed → Receives b (cards b) (counter_of m.content) m.sender
  receives f h = record {
    row = record { right = f; first = refl; counter = h.counter };
    card = h.sender;
  }

  pub C_most : Passed → C_of b m.sender ≤ MAX
  C_most h = h.row.tables.C≤MAX m.sender h.sender

-- ---- the whole call, of a replica that is right

module _ (b s : List ℕ) (f : Right b) where
  -- bytes that do not read
  pub unread : false ≡ reads version_2 s → not_taken unreadable b ≡ take_on b s
  unfolding take_with
  unread fails = rw (right_from b f, ← fails)

  -- bytes that read as m
  pub read_judged : (m : Received) → m ≡ received_of (message_at version_2 s) → reads version_2 s ≡ true → judged b m ≡ take_on b s
  unfolding take_with
  read_judged m is read = rw (right_from b f, read, is)

-- the words that an increment leaves, when its entry has been put and the row's bit is right
pub increment_after : (b : List ℕ) (r q j n : ℕ) → Receives b r q j → n ≡ N_of r b j + 1 → (w p : ℕ) (start : Bool)
    → set_N r j n (set_C j (C_of b j + w) (mark r q (set_entry r q j (incremented w p start (C_of b j) (entry_of r b q j)) b))) ≡ words_after j (increment q w p start) b
increment_after b r q j n h next w p start =
    let law = lawful r (counters b) in
    let e = incremented w p start (C_of b j) (entry_of r b q j) in
    let same : N_of r (mark r q (set_entry r q j e b)) j ≡ N_of r b j = law.N_mark q (set_entry r q j e b) j ∙ law.N_entry q j e b h.card j h.card in
    rw (next, ← same) (increment_taken b r q j h w p start)

-- the words that a clear leaves, when its entries have been taken
pub clear_after : (b b' : List ℕ) (m : Received) (r q : ℕ) (es : List ClearEntry) → r ≡ cards b → m.content ≡ clearing q es → Passed b m
    → b' ≡ cleared_words (layout r (counters b)) q es b → set_N r m.sender m.sequence (mark r q b') ≡ words_after m.sender m.content b
unfolding words_after taken_words
clear_after b b' m r q es first is h same = rw (same, first, is, h.next, add-one (N_of (cards b) b m.sender))
