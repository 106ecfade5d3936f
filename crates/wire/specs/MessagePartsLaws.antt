-- LAWS. The numbers of a part that was read, one by one.
use Rattle.std.specs.Prelude.{◌≡◌, ℕ, List}
use Rattle.std.proofs.Common.{ap}
use Rattle.wire.specs.Number.{int_at, hyper_at}
use Rattle.wire.specs.Message.{kind_at, sender_at, sequence_at, counter_at, p_at, start_at}
use Rattle.wire.specs.MessageParts.{Header, Increment, header_at, behind_header, increment_at}

-- of the header at the front
pub record HeaderRead (s : List ℕ) (h : Header) : Type 0 where
  pub version : h.version ≡ int_at s 0
  pub kind : h.kind ≡ int_at s kind_at
  pub sender : h.sender ≡ int_at s sender_at
  pub sequence : h.sequence ≡ hyper_at s sequence_at
  pub counter : h.counter ≡ int_at s counter_at

pub header_read : (s : List ℕ) (h : Header) → h ≡ header_at s 0 → HeaderRead s h
header_read s h e = record {
  version = ap (λ (g : Header). g.version) e;
  kind = ap (λ (g : Header). g.kind) e;
  sender = ap (λ (g : Header). g.sender) e;
  sequence = ap (λ (g : Header). g.sequence) e;
  counter = ap (λ (g : Header). g.counter) e;
}

-- of what an increment has behind it
pub record IncrementRead (s : List ℕ) (b : Increment) : Type 0 where
  pub p : b.p ≡ hyper_at s p_at
  pub start : b.start ≡ int_at s start_at

pub increment_read : (s : List ℕ) (b : Increment) → b ≡ increment_at s (behind_header 0) → IncrementRead s b
increment_read s b e = record { p = ap (λ (g : Increment). g.p) e; start = ap (λ (g : Increment). g.start) e }
