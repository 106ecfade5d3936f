-- By the replica, the length, the version and the kind in turn; what is left is the answer of the kind's own function.
use Rattle.std.proofs.Common.{◌≡◌, ◌≢◌, ℕ, sym, ap, ◌∙◌, Result, Ok, Err, ne_eqb}
use Rattle.std.proofs.lemmas.Result.{err_from_is_err_and}
use Rattle.protocol.proofs.Cases.{by_place}
use Rattle.protocol.specs.declared.Refusal.{Refusal}
use Rattle.protocol.specs.declared.Refusal.TheVariants.{Unreadable}
use Rattle.wire.specs.Message.{version_2, increment_kind, clear_kind}
use Rattle.wire.specs.MessageLaws.{reads_short}
use Rattle.wire.specs.Told.{kind_of}
use Rattle.wire.specs.declared.Kind.{Kind}
use Rattle.wire.specs.declared.Kind.TheVariants.{Increment, Clear}
use Rattle.replica_model.specs.Calls.{take_with}
use Rattle.replica_model.proofs.RowLaws.{right_facts}
use Rattle.taking.specs.ReadParts.{other_version, other_kind}
use Rattle.taking.specs.Taking.{unread}
use Rattle.taking.proofs.take.take.Goals as goal

-- the kind that a number stands for, case by case
by_kind : (n : ℕ) (P : Result Kind Refusal → Type 0) → (n ≡ increment_kind → P (Ok Increment)) → (n ≡ clear_kind → P (Ok Clear))
    → (n ≢ increment_kind → n ≢ clear_kind → P (Err Unreadable)) → P (kind_of n)
by_kind n P increment clear other =
    by_place n increment_kind (λ e. rw e (increment e))
    (λ d. by_place n clear_kind (λ e. rw e (clear e)) (λ d'. rw (ne_eqb n increment_kind d, ne_eqb n clear_kind d') (other d d')))

is_increment : (n : ℕ) → Ok Increment ≡ kind_of n → n ≡ increment_kind
is_increment n = by_kind n (λ kind. Ok Increment ≡ kind → n ≡ increment_kind) (λ e _. e) (λ e h. cc) (λ d d' h. cc)

is_clear : (n : ℕ) → Ok Clear ≡ kind_of n → n ≡ clear_kind
is_clear n = by_kind n (λ kind. Ok Clear ≡ kind → n ≡ clear_kind) (λ e h. cc) (λ e _. e) (λ d d' h. cc)

is_refused : (n : ℕ) (x : Refusal) → Err x ≡ kind_of n → (n ≢ increment_kind) × (n ≢ clear_kind) × (x ≡ Unreadable)
is_refused n x =
    by_kind n (λ kind. Err x ≡ kind → (n ≢ increment_kind) × (n ≢ clear_kind) × (x ≡ Unreadable)) (λ e h. absurd cc) (λ e h. absurd cc) (λ d d' h. (d, d', cc))

pub returns-then-not-is_right : goal.returns-then-not-is_right
unfolding take_with
returns-then-not-is_right c = rw (sym c.is_right.ensures ∙ c.if-not-is_right.true)

pub returns-then-message-lt-EMPTY_CLEAR_BYTES : goal.returns-then-message-lt-EMPTY_CLEAR_BYTES
returns-then-message-lt-EMPTY_CLEAR_BYTES c =
    let right = right_facts _ (sym c.is_right.ensures ∙ c.if-not-is_right.false) in
    unread _ _ right (reads_short version_2 _ c.if-message-lt-EMPTY_CLEAR_BYTES.true)

pub returns-then-header-ne-VERSION_2 : goal.returns-then-header-ne-VERSION_2
returns-then-header-ne-VERSION_2 c =
    let right = right_facts _ (sym c.is_right.ensures ∙ c.if-not-is_right.false) in
    unread _ _ right (other_version _ _ c.header-header.ensures.0 c.if-header-ne-VERSION_2.true)

pub returns-in_err-try_from : goal.returns-in_err-try_from
returns-in_err-try_from c =
    let right = right_facts _ (sym c.is_right.ensures ∙ c.if-not-is_right.false) in
    let p = err_from_is_err_and c.from_residual.result c.from_residual.ensures.1 in
    let (no_increment, no_clear, unread_so) = is_refused c.header-header.result.kind _ c.in_err-try_from.ensures in
    rw (p.1, p.2, unread_so) (unread _ _ right (other_kind _ _ c.header-header.ensures.0 no_increment no_clear))

pub take_increment-requires : goal.take_increment-requires
take_increment-requires c =
    let right = right_facts _ (sym c.is_right.ensures ∙ c.if-not-is_right.false) in
    rw c.header-header.ensures.1 (
      right,
      c.if-message-lt-EMPTY_CLEAR_BYTES.false,
      c.header-header.ensures.0,
      c.header-header.ensures.2,
      c.if-header-ne-VERSION_2.false,
      is_increment c.header-header.result.kind (ap Ok (sym c.in-Increment.is) ∙ c.in_ok-try_from.ensures),
    )

pub take_clear-requires : goal.take_clear-requires
take_clear-requires c =
    let right = right_facts _ (sym c.is_right.ensures ∙ c.if-not-is_right.false) in
    rw c.header-header.ensures.1 (
      right,
      c.if-message-lt-EMPTY_CLEAR_BYTES.false,
      c.header-header.ensures.0,
      c.header-header.ensures.2,
      c.if-header-ne-VERSION_2.false,
      is_clear c.header-header.result.kind (ap Ok (sym c.in-Clear.is) ∙ c.in_ok-try_from.ensures),
    )
