-- LAWS. Which number is named as which kind.
use Rattle.std.specs.Prelude.{◌≡◌, ℕ, Result, ◌≢◌}
use borrow.Author.Tests.{eq-eqb, ne_eqb}
use Rattle.protocol.specs.declared.Refusal.{Refusal}
use Rattle.protocol.proofs.Cases.{by_place}
use Rattle.wire.specs.Message.{increment_kind, clear_kind}
use Rattle.wire.specs.Told.{kind_of}
use Rattle.wire.specs.declared.Kind.TheVariants.{Clear}

module _ (number : ℕ) where
  pub names_clear : kind_of number ≡ Result.Ok Clear → number ≡ clear_kind
  names_clear named =
      by_place number increment_kind
      (λ e. let h = rw (eq-eqb number increment_kind e) at named in cc)
      (λ d.
      by_place number clear_kind
      (λ e. e)
      (λ g. let h = rw (ne_eqb number increment_kind d, ne_eqb number clear_kind g) at named in cc))

  pub names_none : (refusal : Refusal) → kind_of number ≡ Result.Err refusal → (number ≢ increment_kind) × (number ≢ clear_kind)
  names_none refusal named = (λ e. let h = rw e at named in cc, λ e. let h = rw e at named in cc)
