-- The length, then the ranges: bytes that pass both read. Then the checks of the row, those of the sender, then whether the increment is plausible; past all, the entry is put,
-- and where it goes the row's bit found by a look at the others: what is left is what `judged` says.
use Rattle.std.proofs.Common.{◌≡◌, ℕ, ◌+◌, ◌≤◌, Bool, true, false, ◌&&◌, List, length, sym, ap, ◌∙◌, arith, eqb}
use Rattle.std.proofs.lemmas.Result.{err_from_is_err_and}
use Rattle.protocol.specs.Limits.{MAX, most_amount, implausible}
use Rattle.protocol.specs.declared.Refusal.{Refusal}
use Rattle.protocol.specs.Refusals.{number_of}
use Rattle.protocol.specs.Checks.{first_failing}
use Rattle.protocol.specs.Acceptance.{increment_plausible, plausible}
use Rattle.protocol.specs.Entry.{incremented}
use Rattle.wire.specs.Number.{int_at}
use Rattle.wire.specs.Message.{version_2, increment_kind, header_length, increment_length, shortest_message, reads, from_one_to, increment_in_range}
use Rattle.wire.specs.MessageParts.{header_at, increment_at, behind_increment}
use Rattle.wire.specs.RangeLaws.{rest_in_range}
use Rattle.wire.specs.declared.reader.Reader.{Reader}
use Rattle.wire.specs.declared.reader.Header.{Header}
use Rattle.wire.specs.declared.reader.Increment.{Increment}
use Rattle.replica_model.specs.Layout.{cards, own_card, C_of, N_of, entry_of, set_C, set_N, set_entry, mark}
use Rattle.replica_model.specs.Format.{Received}
use Rattle.replica_model.specs.Calls.{TakeOutcome, not_taken, take_on}
use Rattle.replica_model.specs.ClaimTerms.{Right}
use Rattle.layout.specs.WordsLaws.{CInside, C_inside, row_N}
use Rattle.layout.specs.Effects.{Receives}
use Rattle.taking.specs.ReadParts.{increment_from, increment_inexact, increment_tested, increment_received, amount_bounds}
use Rattle.taking.specs.Taking.{row_checks, Given, sender_checks, increment_given, judged, row_refused, sender_refused, taking_declined, was_taken, Passed, is_passed, receives, C_most, increment_room, unread, read_judged, increment_after}
use Rattle.taking.proofs.take.take_increment.Goals as goal

-- an increment of the right length whose parts have been read
record Came (b s : List ℕ) (h : Header) (body : Increment) (amount : ℕ) : Type 0 where
  right : Right b
  header : h ≡ header_at s 0
  version : h.version ≡ version_2
  kind : h.kind ≡ increment_kind
  long : length s ≡ increment_length version_2
  stands : body ≡ increment_at s header_length
  counts : amount ≡ int_at s (behind_increment header_length)

came : (b : List ℕ) (h : Header) (rest behind : Reader) (body : Increment) (amount : ℕ)
    → Right b × (shortest_message ≤ length rest.src.now) × (h ≡ header_at rest.src.now 0) × (rest.at ≡ header_length) × (h.version ≡ version_2) × (h.kind ≡ increment_kind)
    → length rest.src.now ≡ increment_length version_2
    → (body ≡ increment_at rest.src.now rest.at) × (behind.src ≡ rest.src) × (behind.at ≡ behind_increment rest.at)
    → amount ≡ int_at behind.src.now behind.at → Came b rest.src.now h body amount
came b h rest behind body amount (right, _, header, at, version, kind) long (stands, same, moved) counts = record {
  right = right;
  header = header;
  version = version;
  kind = kind;
  long = long;
  stands = rw at at stands;
  counts = rw (same, moved, at) at counts;
}

module _ {b s : List ℕ} {h : Header} {body : Increment} {amount : ℕ} (k : Came b s h body amount) where
  -- whether the bytes read
  read_is : {x y z t : Bool} → x ≡ increment_in_range body.p body.start → y ≡ rest_in_range h.sender h.sequence h.counter → z ≡ from_one_to most_amount amount → (x && y && z) ≡ t
      → reads version_2 s ≡ t
  read_is ex ey ez e = sym (increment_tested s h k.header k.version k.kind body k.stands amount k.counts k.long) ∙ (rw (ex, ey, ez) at e)

  module _ (read : reads version_2 s ≡ true) where
    -- what they are taken as
    whole : judged b (increment_from h body amount) ≡ take_on b s
    whole = read_judged b s k.right _ (increment_received s h k.header k.version k.kind body k.stands amount k.counts) read

    row_answer : (x : Refusal) → number_of x ≡ first_failing (row_checks b h.counter) → not_taken (number_of x) b ≡ take_on b s
    row_answer x e = row_refused b (increment_from h body amount) x e ∙ whole

    sender_answer : 0 ≡ first_failing (row_checks b h.counter) → (x : Refusal)
        → ((m : Received) → Given (cards b) m h.sender h.sequence true → number_of x ≡ first_failing (sender_checks b m)) → not_taken (number_of x) b ≡ take_on b s
    sender_answer row x asked = sender_refused b (increment_from h body amount) row x (asked (increment_from h body amount) (increment_given _ h body amount)) ∙ whole

-- its bytes read, and the checks of the row and of the sender pass
record Shared (b s : List ℕ) (h : Header) (body : Increment) (amount : ℕ) : Type 0 where
  came : Came b s h body amount
  read : reads version_2 s ≡ true
  row : 0 ≡ first_failing (row_checks b h.counter)
  sender : 0 ≡ first_failing (sender_checks b (increment_from h body amount))

shared : {b s : List ℕ} {h : Header} {body : Increment} {amount : ℕ} → Came b s h body amount → reads version_2 s ≡ true → 0 ≡ first_failing (row_checks b h.counter)
    → ((m : Received) → Given (cards b) m h.sender h.sequence true → 0 ≡ first_failing (sender_checks b m)) → Shared b s h body amount
shared {h} {body} {amount} k read row asked = record { came = k; read = read; row = row; sender = asked (increment_from h body amount) (increment_given _ h body amount) }

module _ {b s : List ℕ} {h : Header} {body : Increment} {amount : ℕ} (k : Shared b s h body amount) where
  passed : Passed b (increment_from h body amount)
  passed = is_passed b (increment_from h body amount) k.row k.sender

  sender_inside : CInside b h.sender
  sender_inside = C_inside b k.came.right h.sender passed.sender

  bounds : (1 ≤ amount) × (amount ≤ most_amount)
  bounds = let g = k.came in amount_bounds s h g.header g.version g.kind body g.stands amount g.counts k.read

  module _ {received : ℕ} (known : received ≡ C_of b h.sender) where
    known_most : received ≤ MAX
    known_most = rw known (C_most b (increment_from h body amount) passed)

    -- the last check
    judged_as : {t : Bool} → t ≡ increment_plausible received amount body.p (eqb body.start 1) → plausible (C_of b) (own_card b) h.sender (increment_from h body amount).content ≡ t
    unfolding plausible
    judged_as e = sym (e ∙ ap (λ (x : ℕ). increment_plausible x amount body.p (eqb body.start 1)) known)

    declined : {t : Bool} → t ≡ increment_plausible received amount body.p (eqb body.start 1) → t ≡ false → not_taken implausible b ≡ take_on b s
    declined e f = taking_declined b (increment_from h body amount) k.row k.sender (judged_as e ∙ f) ∙ whole k.came k.read

    module _ {t : Bool} (e : t ≡ increment_plausible received amount body.p (eqb body.start 1)) (yes : t ≡ true) where
      -- C does not wrap, the increment's p is at least its amount
      room : (amount ≤ body.p) × (received + amount ≤ MAX)
      room = increment_room received amount body.p (eqb body.start 1) (sym e ∙ yes)

      module _ {r q : ℕ} (row : (r ≡ cards b) × (q ≡ h.counter)) where
        -- the effector's row is there
        ready : Receives b r q h.sender
        ready = rw (row.0, row.1) (receives b (increment_from h body amount) k.came.right passed)

        -- the words when the entry has been put and the row's bit is right: then the message is taken
        done : (b' : List ℕ) → b' ≡ mark r q (set_entry r q h.sender (incremented amount body.p (eqb body.start 1) (C_of b h.sender) (entry_of r b q h.sender)) b)
            → ◌≡◌ {A = TakeOutcome} (record { answer = record { number = 0; sequence = h.sequence }; words = set_N r h.sender h.sequence (set_C h.sender (received + amount) b') }) (take_on b s)
        done b' same =
            let next : h.sequence ≡ N_of r b h.sender + 1 = rw row.0 passed.next in
            was_taken b (increment_from h body amount) k.row k.sender _ (judged_as e ∙ yes)
            (rw (known, same, row.1) (increment_after b r h.counter h.sender h.sequence (rw row.1 at ready) next amount body.p (eqb body.start 1)))
            ∙ whole k.came k.read

pub returns-then-rest-ne-INCREMENT_BYTES : goal.returns-then-rest-ne-INCREMENT_BYTES
returns-then-rest-ne-INCREMENT_BYTES c =
    let (right, _, header, _, version, kind) = c.requires in
    unread _ _ right (increment_inexact _ _ header version kind c.if-rest-ne-INCREMENT_BYTES.true)

pub returns-then-not-increment_in_range-rest_in_range : goal.returns-then-not-increment_in_range-rest_in_range
returns-then-not-increment_in_range-rest_in_range c =
    let k = came c.args.words.now c.args.header c.args.rest c.increment-body.new.self c.increment-body.result c.from-amount.result
    c.requires c.if-rest-ne-INCREMENT_BYTES.false c.increment-body.ensures (c.from-amount.ensures ∙ c.next.ensures.0) in
    unread _ _ k.right (sym (read_is k c.increment_in_range.ensures c.rest_in_range.ensures c.is_amount.ensures c.if-not-increment_in_range-rest_in_range.true))

pub returns-in_err-row : goal.returns-in_err-row
returns-in_err-row c =
    let k = came c.args.words.now c.args.header c.args.rest c.increment-body.new.self c.increment-body.result c.from-amount.result
    c.requires c.if-rest-ne-INCREMENT_BYTES.false c.increment-body.ensures (c.from-amount.ensures ∙ c.next.ensures.0) in
    let read = read_is k c.increment_in_range.ensures c.rest_in_range.ensures c.is_amount.ensures c.if-not-increment_in_range-rest_in_range.false in
    let p = err_from_is_err_and c.from_residual.result c.from_residual.ensures.1 in
    rw (p.1, p.2) (row_answer k read _ c.in_err-row.ensures.checked)

pub returns-in_err-check_sender : goal.returns-in_err-check_sender
returns-in_err-check_sender c =
    let k = came c.args.words.now c.args.header c.args.rest c.increment-body.new.self c.increment-body.result c.from-amount.result
    c.requires c.if-rest-ne-INCREMENT_BYTES.false c.increment-body.ensures (c.from-amount.ensures ∙ c.next.ensures.0) in
    let read = read_is k c.increment_in_range.ensures c.rest_in_range.ensures c.is_amount.ensures c.if-not-increment_in_range-rest_in_range.false in
    let p = err_from_is_err_and c.from_residual-in_err-check_sender.result c.from_residual-in_err-check_sender.ensures.1 in
    rw (p.1, p.2) (sender_answer k read c.in_ok-row.ensures.checked _ c.in_err-check_sender.ensures)

pub increments_at-before-requires : goal.increments_at-before-requires
increments_at-before-requires c =
    let k = came c.args.words.now c.args.header c.args.rest c.increment-body.new.self c.increment-body.result c.from-amount.result
    c.requires c.if-rest-ne-INCREMENT_BYTES.false c.increment-body.ensures (c.from-amount.ensures ∙ c.next.ensures.0) in
    let read = read_is k c.increment_in_range.ensures c.rest_in_range.ensures c.is_amount.ensures c.if-not-increment_in_range-rest_in_range.false in
    sender_inside (shared k read c.in_ok-row.ensures.checked c.in_ok-check_sender.ensures)

pub is_increment_plausible-requires : goal.is_increment_plausible-requires
is_increment_plausible-requires c =
    let k = came c.args.words.now c.args.header c.args.rest c.increment-body.new.self c.increment-body.result c.from-amount.result
    c.requires c.if-rest-ne-INCREMENT_BYTES.false c.increment-body.ensures (c.from-amount.ensures ∙ c.next.ensures.0) in
    let read = read_is k c.increment_in_range.ensures c.rest_in_range.ensures c.is_amount.ensures c.if-not-increment_in_range-rest_in_range.false in
    let g = shared k read c.in_ok-row.ensures.checked c.in_ok-check_sender.ensures in
    (known_most g c.increments_at-before.ensures, (bounds g).1)

pub returns-then-not-is_increment_plausible : goal.returns-then-not-is_increment_plausible
returns-then-not-is_increment_plausible c =
    let k = came c.args.words.now c.args.header c.args.rest c.increment-body.new.self c.increment-body.result c.from-amount.result
    c.requires c.if-rest-ne-INCREMENT_BYTES.false c.increment-body.ensures (c.from-amount.ensures ∙ c.next.ensures.0) in
    let read = read_is k c.increment_in_range.ensures c.rest_in_range.ensures c.is_amount.ensures c.if-not-increment_in_range-rest_in_range.false in
    let g = shared k read c.in_ok-row.ensures.checked c.in_ok-check_sender.ensures in
    declined g c.increments_at-before.ensures c.is_increment_plausible.ensures c.if-not-is_increment_plausible.true

pub put_increment-requires : goal.put_increment-requires
put_increment-requires c =
    let k = came c.args.words.now c.args.header c.args.rest c.increment-body.new.self c.increment-body.result c.from-amount.result
    c.requires c.if-rest-ne-INCREMENT_BYTES.false c.increment-body.ensures (c.from-amount.ensures ∙ c.next.ensures.0) in
    let read = read_is k c.increment_in_range.ensures c.rest_in_range.ensures c.is_amount.ensures c.if-not-increment_in_range-rest_in_range.false in
    let g = shared k read c.in_ok-row.ensures.checked c.in_ok-check_sender.ensures in
    let fits = room g c.increments_at-before.ensures c.is_increment_plausible.ensures c.if-not-is_increment_plausible.false in
    (ready g c.increments_at-before.ensures c.is_increment_plausible.ensures c.if-not-is_increment_plausible.false c.in_ok-row.ensures.row, (bounds g).0, fits.0, omega (arith, fits.1, c.increments_at-before.ensures))

pub overflow_add-before : goal.overflow_add-before
overflow_add-before c =
    let k = came c.args.words.now c.args.header c.args.rest c.increment-body.new.self c.increment-body.result c.from-amount.result
    c.requires c.if-rest-ne-INCREMENT_BYTES.false c.increment-body.ensures (c.from-amount.ensures ∙ c.next.ensures.0) in
    let read = read_is k c.increment_in_range.ensures c.rest_in_range.ensures c.is_amount.ensures c.if-not-increment_in_range-rest_in_range.false in
    let g = shared k read c.in_ok-row.ensures.checked c.in_ok-check_sender.ensures in
    let fits = room g c.increments_at-before.ensures c.is_increment_plausible.ensures c.if-not-is_increment_plausible.false in
    omega (arith, fits.1)

pub set_increments-requires : goal.set_increments-requires
set_increments-requires c =
    let k = came c.args.words.now c.args.header c.args.rest c.increment-body.new.self c.increment-body.result c.from-amount.result
    c.requires c.if-rest-ne-INCREMENT_BYTES.false c.increment-body.ensures (c.from-amount.ensures ∙ c.next.ensures.0) in
    let read = read_is k c.increment_in_range.ensures c.rest_in_range.ensures c.is_amount.ensures c.if-not-increment_in_range-rest_in_range.false in
    let g = shared k read c.in_ok-row.ensures.checked c.in_ok-check_sender.ensures in
    rw c.put_increment.auto.words (sender_inside g)

pub set_messages-requires : goal.set_messages-requires
set_messages-requires c =
    let k = came c.args.words.now c.args.header c.args.rest c.increment-body.new.self c.increment-body.result c.from-amount.result
    c.requires c.if-rest-ne-INCREMENT_BYTES.false c.increment-body.ensures (c.from-amount.ensures ∙ c.next.ensures.0) in
    let read = read_is k c.increment_in_range.ensures c.rest_in_range.ensures c.is_amount.ensures c.if-not-increment_in_range-rest_in_range.false in
    let g = shared k read c.in_ok-row.ensures.checked c.in_ok-check_sender.ensures in
    let h = ready g c.increments_at-before.ensures c.is_increment_plausible.ensures c.if-not-is_increment_plausible.false c.in_ok-row.ensures.row in
    rw (c.set_increments.auto.words, c.put_increment.auto.words) (row_N _ _ _ h.row _ h.card)

pub returns : goal.returns
returns c =
    let k = came c.args.words.now c.args.header c.args.rest c.increment-body.new.self c.increment-body.result c.from-amount.result
    c.requires c.if-rest-ne-INCREMENT_BYTES.false c.increment-body.ensures (c.from-amount.ensures ∙ c.next.ensures.0) in
    let read = read_is k c.increment_in_range.ensures c.rest_in_range.ensures c.is_amount.ensures c.if-not-increment_in_range-rest_in_range.false in
    let g = shared k read c.in_ok-row.ensures.checked c.in_ok-check_sender.ensures in
    let after = c.set_messages.ensures ∙ ap (set_N c.in_ok-row.row.cards c.args.header.sender c.args.header.sequence) c.set_increments.ensures in
    rw after (done g c.increments_at-before.ensures c.is_increment_plausible.ensures c.if-not-is_increment_plausible.false c.in_ok-row.ensures.row _ c.put_increment.ensures)
