-- LAWS. The range of a message as plain bounds, both ways, and its one form: a message in range is an increment or a clear made from its fields.
use Rattle.std.specs.Prelude.{◌≡◌, ℕ, zero, suc, ◌+◌, ◌-◌, ◌<◌, ◌≤◌, true, ◌&&◌, ◌||◌, eqb, List, [], ◌∷◌, ◌++◌, length, get_or, take, drop, replicate, ◌==◌, ◌≢◌, nat_le}
use Rattle.std.proofs.Math.Path.{refl, sym, subst}
use Rattle.std.proofs.Common.{◌∙◌, arith, not-suc-le-zero, le_of_suc-le-suc, length-drop, take-append-drop, eq-eqb, ne_eqb, le-leb}
use Rattle.std.proofs.Math.Bool.{and-true, and_assoc}
use Rattle.std.proofs.Math.ListN.{length-append}
use Rattle.std.proofs.lemmas.List.{length-replicate}
use Rattle.std.proofs.Math.Seq.{take-append_seam, drop-append_seam, length-take-le}
use Rattle.std.proofs.lemmas.Bool.{lt-leb}
use Rattle.protocol.specs.Limits.{MAX, most_cards, most_amount}
use Rattle.protocol.specs.declared.ClearEntry.{ClearEntry}
use Rattle.protocol.proofs.Cases.{by_le, by_place}
use Rattle.protocol.proofs.Tests.{tests}
use Rattle.wire.specs.Message.{Message, version_1, version_2, counter_bound, increment_kind, clear_kind, no_entry, increment_message, clear_message, header_in_range, amount_in_range, increment_in_range, clear_in_range, body_in_range, entry_in_range, entries_in_range, unused, in_range}

-- ---- bounds

pub record HeaderBounds (version sender sequence counter : ℕ) : Type 0 where
  pub version_some : version_1 ≤ version
  pub version_most : version ≤ version_2
  pub sender_low : sender < most_cards
  pub sequence_some : 1 ≤ sequence
  pub sequence_most : sequence ≤ MAX
  pub counter_low : counter < counter_bound version

-- an amount from version 2 on, 0 before
pub record AmountBounds (version amount : ℕ) : Type 0 where
  pub amount_some : version_2 ≤ version → 1 ≤ amount
  pub amount_most : amount ≤ most_amount
  pub amount_none : version < version_2 → amount ≡ 0

pub record IncrementBounds (version p start amount : ℕ) : Type 0 where
  pub p_some : 1 ≤ p
  pub p_most : p ≤ MAX
  pub start_flag : start ≤ 1
  pub counts : AmountBounds version amount

pub record EntryBounds (e : ClearEntry) : Type 0 where
  pub card_low : e.card < most_cards
  pub p_some : 1 ≤ e.p
  pub p_most : e.p ≤ e.c
  pub c_most : e.c ≤ MAX

-- what the version and the kind ask of the numbers past the header
pub data BodyBounds (version kind p start amount len : ℕ) : Type 0 where
  increment : kind ≡ increment_kind → len ≡ 0 → IncrementBounds version p start amount → BodyBounds version kind p start amount len
  clear : kind ≡ clear_kind → p ≡ 0 → start ≡ 0 → amount ≡ 0 → len ≤ most_cards → BodyBounds version kind p start amount len

body_cases {ℓ} : {P : Type ℓ} {version kind p start amount len : ℕ} → BodyBounds version kind p start amount len
    → (kind ≡ increment_kind → len ≡ 0 → IncrementBounds version p start amount → P) → (kind ≡ clear_kind → p ≡ 0 → start ≡ 0 → amount ≡ 0 → len ≤ most_cards → P) → P
body_cases (increment kind none range) f g = f kind none range
body_cases (clear kind no_p no_start no_amount few) f g = g kind no_p no_start no_amount few

-- the bounds of a whole message
pub record Bounds (m : Message) : Type 0 where
  pub header : HeaderBounds m.version m.sender m.sequence m.counter
  pub body : BodyBounds m.version m.kind m.p m.start m.amount m.len
  pub used : entries_in_range 0 (take m.len m.entries) ≡ true
  pub rest : unused (drop m.len m.entries) ≡ true

-- ---- of a message in range

amount_bounds : (version amount : ℕ) → amount_in_range version amount ≡ true → AmountBounds version amount
unfolding amount_in_range
amount_bounds version amount h =
    by_le version_2 version
    (λ l. let f = simp tests at (rw (le-leb version_2 version l) at h) in omega arith)
    (λ g. let f = simp tests at (rw (lt-leb version_2 version g) at h) in omega arith)

body_bounds : (version kind p start amount len : ℕ) → body_in_range version kind p start amount len ≡ true → BodyBounds version kind p start amount len
unfolding increment_in_range clear_in_range
body_bounds version kind p start amount len h =
    by_place kind increment_kind
    (λ e.
    let f = simp tests at (rw (eq-eqb kind increment_kind e) at h) in
    increment e (omega arith) (record { p_some = omega arith; p_most = omega arith; start_flag = omega arith; counts = amount_bounds version amount f.0.1 }))
    (λ d. let f = simp tests at (rw (ne_eqb kind increment_kind d) at h) in clear (omega arith) (omega arith) (omega arith) (omega arith) (omega arith))

-- no more entries than there may be, of either kind
pub body_few : (version kind p start amount len : ℕ) → body_in_range version kind p start amount len ≡ true → len ≤ most_cards
body_few version kind p start amount len h = body_cases (body_bounds version kind p start amount len h) (λ kind none range. omega arith) (λ kind no_p no_start no_amount few. few)

pub bounds : (m : Message) → in_range m ≡ true → Bounds m
unfolding in_range header_in_range
bounds m h =
    let f = simp tests at h in
    record {
      header = omega arith;
      body = body_bounds _ _ _ _ _ _ f.0.0.1;
      used = f.0.1;
      rest = f.1;
    }

module _ (m : Message) (h : in_range m ≡ true) where
  pub len_few : m.len ≤ most_cards
  len_few = body_cases (bounds m h).body (λ kind none range. omega arith) (λ kind no_p no_start no_amount few. few)

  -- the numbers of an increment have their bounds
  pub increment_bounds : (m.kind ≢ clear_kind) → IncrementBounds m.version m.p m.start m.amount
  increment_bounds other = body_cases (bounds m h).body (λ kind none range. range) (λ kind no_p no_start no_amount few. absurd (other kind))

  pub kind_right : eqb m.kind increment_kind || (m.kind == clear_kind) ≡ true
  kind_right = body_cases (bounds m h).body (λ kind none range. rw kind) (λ kind no_p no_start no_amount few. rw kind)

entry_bounds : (low : ℕ) (e : ClearEntry) → entry_in_range low e ≡ true → EntryBounds e
unfolding entry_in_range
entry_bounds low e h = let f = simp tests at h in omega arith

-- each entry of a list in range
pub entries_bounds : (low : ℕ) (es : List ClearEntry) → entries_in_range low es ≡ true → (i : ℕ) → i < length es → EntryBounds (get_or es i no_entry)
unfolding entries_in_range
entries_bounds low [] h i inside = absurd (not-suc-le-zero inside)
entries_bounds low (e ∷ es) h zero inside = entry_bounds low e (simp tests at h).0
entries_bounds low (e ∷ es) h (suc i) inside = entries_bounds (e.card + 1) es (simp tests at h).1 i (le_of_suc-le-suc inside)

-- ---- and back, of messages made from their fields

-- the numbers, and then the entries
pub in_range_split : (m : Message) → in_range m ≡ header_in_range m.version m.sender m.sequence m.counter && body_in_range m.version m.kind m.p m.start m.amount m.len && (entries_in_range 0 (take m.len m.entries) && unused (drop m.len m.entries))
unfolding in_range
in_range_split m = simp and_assoc

header_from : (version sender sequence counter : ℕ) → HeaderBounds version sender sequence counter → header_in_range version sender sequence counter ≡ true
unfolding header_in_range
header_from version sender sequence counter b = simp tests (omega arith)

amount_from : (version amount : ℕ) → AmountBounds version amount → amount_in_range version amount ≡ true
unfolding amount_in_range
amount_from version amount b =
    by_le version_2 version
    (λ l. let some = b.amount_some l in rw (le-leb version_2 version l) (simp tests (omega arith)))
    (λ g. rw (lt-leb version_2 version g, b.amount_none g))

increment_from : (p start : ℕ) → 1 ≤ p → p ≤ MAX → start ≤ 1 → increment_in_range p start ≡ true
unfolding increment_in_range
increment_from p start some most flag = simp tests (omega arith)

module _ (version sender sequence counter p start amount : ℕ) where
  pub increment_range : in_range (increment_message version sender sequence counter p start amount) ≡ header_in_range version sender sequence counter && (increment_in_range p start && amount_in_range version amount)
  unfolding increment_message entries_in_range unused
  increment_range = in_range_split (increment_message version sender sequence counter p start amount) ∙ simp and-true

  pub increment_in_range_from : HeaderBounds version sender sequence counter → IncrementBounds version p start amount → in_range (increment_message version sender sequence counter p start amount) ≡ true
  increment_in_range_from h b =
      increment_range
      ∙ rw (header_from version sender sequence counter h, increment_from p start b.p_some b.p_most b.start_flag, amount_from version amount b.counts)

  -- the array is full
  pub increment_entries : length (increment_message version sender sequence counter p start amount).entries ≡ most_cards
  unfolding increment_message
  increment_entries = refl

unused_none : (n : ℕ) → unused (replicate n no_entry) ≡ true
unfolding unused
unused_none zero = refl
unused_none (suc n) = unused_none n

module _ (version sender sequence counter : ℕ) (es : List ClearEntry) where
  pub clear_range : in_range (clear_message version sender sequence counter es) ≡ header_in_range version sender sequence counter && nat_le (length es) most_cards && entries_in_range 0 es
  unfolding clear_message clear_in_range
  clear_range =
      let none = replicate (most_cards - length es) no_entry in
      in_range_split (clear_message version sender sequence counter es)
      ∙ rw (take-append_seam es none, drop-append_seam es none, unused_none (most_cards - length es), and-true (entries_in_range 0 es))

  pub clear_in_range_from : HeaderBounds version sender sequence counter → length es ≤ most_cards → entries_in_range 0 es ≡ true → in_range (clear_message version sender sequence counter es) ≡ true
  clear_in_range_from h short fit = clear_range ∙ rw (header_from version sender sequence counter h, le-leb (length es) most_cards short, fit)

  pub clear_entries : length es ≤ most_cards → length (clear_message version sender sequence counter es).entries ≡ most_cards
  unfolding clear_message
  clear_entries short = length-append es (replicate (most_cards - length es) no_entry) ∙ rw (length-replicate (most_cards - length es) no_entry) (omega arith)

-- ---- the one form

unused_is : (es : List ClearEntry) → unused es ≡ true → es ≡ replicate (length es) no_entry
unfolding unused
unused_is [] h = refl
unused_is (e ∷ es) h =
    let f = simp tests at h in
    let none : e ≡ no_entry = λ i. record { card = f.0.0.0 i; p = f.0.0.1 i; c = f.0.1 i } in
    rw (none, ← unused_is es f.1)

-- messages are the same whose fields are
same_message : (m n : Message) → m.version ≡ n.version → m.kind ≡ n.kind → m.sender ≡ n.sender → m.sequence ≡ n.sequence → m.counter ≡ n.counter
    → m.p ≡ n.p → m.start ≡ n.start → m.amount ≡ n.amount → m.len ≡ n.len → m.entries ≡ n.entries → m ≡ n
same_message m n version kind sender sequence counter p start amount len entries = λ i. record {
  version = version i;
  kind = kind i;
  sender = sender i;
  sequence = sequence i;
  counter = counter i;
  p = p i;
  start = start i;
  amount = amount i;
  len = len i;
  entries = entries i;
}

-- a proof about messages in range splits by this
module _ (P : Message → Type 0)
    (on_increment : (version sender sequence counter p start amount : ℕ) → HeaderBounds version sender sequence counter → IncrementBounds version p start amount → P (increment_message version sender sequence counter p start amount))
    (on_clear : (version sender sequence counter : ℕ) (es : List ClearEntry) → HeaderBounds version sender sequence counter → length es ≤ most_cards → entries_in_range 0 es ≡ true → P (clear_message version sender sequence counter es)) where
  pub by_form : (m : Message) → length m.entries ≡ most_cards → in_range m ≡ true → P m
  unfolding increment_message clear_message
  by_form m full h =
      let b = bounds m h in
      body_cases b.body
      (λ kind none range.
      let all : m.entries ≡ replicate most_cards no_entry = rw full at (unused_is m.entries (rw none at b.rest)) in
      let same : m ≡ increment_message m.version m.sender m.sequence m.counter m.p m.start m.amount = same_message m _ refl kind refl refl refl refl refl refl none all in
      subst P (sym same) (on_increment _ _ _ _ _ _ _ b.header range))
      (λ kind no_p no_start no_amount short.
      let es = take m.len m.entries in
      let long : length es ≡ m.len = length-take-le m.len m.entries (omega arith) in
      let past : drop m.len m.entries ≡ replicate (most_cards - length es) no_entry =
      unused_is (drop m.len m.entries) b.rest ∙ rw (length-drop m.len m.entries, full, long) in
      let all : m.entries ≡ es ++ replicate (most_cards - length es) no_entry = sym (take-append-drop m.len m.entries) ∙ rw past in
      let same : m ≡ clear_message m.version m.sender m.sequence m.counter es = same_message m _ refl kind refl refl refl no_p no_start no_amount (sym long) all in
      subst P (sym same) (on_clear m.version m.sender m.sequence m.counter es b.header (rw long short) b.used))
