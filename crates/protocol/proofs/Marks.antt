-- LAWS. Marks. For one card j (the origin of messages) and one counter q, a mark sums up the first so-many messages that j has made.
-- All that the proof knows about the p and c fields of q's increments is said of marks, so no proof ever looks into a history:
-- two marks of one history are ordered (`Before`), and each is `Proper`. Both are plain linear facts, which `omega` uses.
use Rattle.std.specs.Prelude.{ℕ, ◌+◌, ◌≤◌, ◌<◌, ◌≡◌, Bool, true, false, cond, leb}
use Rattle.std.proofs.Common.{◌∙◌, arith}
use Rattle.protocol.proofs.Cases.{by_le}

-- Of the messages summed up:
pub record Mark : Type 0 where
  -- the names of q that they make: one for each unit of an increment on q
  pub names : ℕ
  -- the names of q made before the last increment on q that has the start flag
  pub base : ℕ
  -- the p of the last increment on q, and how many units the card had made up to it, on all counters; 0 where there is none
  pub p : ℕ
  pub c : ℕ
  -- the units of all increments, on all counters: what a card that has received just these messages keeps as C
  pub units : ℕ

abbrev pub no_messages : Mark
no_messages = record { names = 0; base = 0; p = 0; c = 0; units = 0 }

-- one more message: an increment on q by w units, or a message of another counter (or a clear of any), which has `w` units (none)
abbrev pub after_increment : ℕ → ℕ → Bool → Mark → Mark
after_increment w p start m =
    record { names = m.names + w; base = cond start m.names m.base; p = p; c = m.units + w; units = m.units + w }

abbrev pub after_other : ℕ → Mark → Mark
after_other w m = record { names = m.names; base = m.base; p = m.p; c = m.c; units = m.units + w }

-- What the sender's rule gives of an increment that it makes when m sums up its messages so far.
pub record Follows (m : Mark) (w p : ℕ) (start : Bool) : Type 0 where
  pub some_units : 0 < w
  pub rule : p ≡ cond start m.units m.p + w
  pub goes_on : 0 < cond start 1 m.names

pub record Proper (m : Mark) : Type 0 where
  pub base≤names : m.base ≤ m.names
  pub names≤p : m.names ≤ m.p
  pub p≤c : m.p ≤ m.c
  pub c≤units : m.c ≤ m.units
  pub none : m.names ≡ 0 → m.c ≡ 0

-- m sums up no more messages of the same card than n does.
pub record Before (m n : Mark) : Type 0 where
  pub names≤ : m.names ≤ n.names
  pub base≤ : m.base ≤ n.base
  pub c≤ : m.c ≤ n.c
  pub units≤ : m.units ≤ n.units
  -- p grows at least as fast as the number of names does
  pub p_grows : m.p + n.names ≤ n.p + m.names
  -- and just as fast where no start lies between
  pub p_runs : n.base < m.names → n.p + m.names ≡ m.p + n.names
  pub same_p : m.names ≡ n.names → m.p ≡ n.p
  pub same_c : m.names ≡ n.names → m.c ≡ n.c
  -- a name that m lacks has a later c than any message of m
  pub c_later : m.names < n.names → m.units < n.c

-- `omega` proves a declared record by its fields, and enters the fields that are functions.
pub Proper_none : Proper no_messages
Proper_none = omega arith

pub Proper_increment : (m : Mark) (w p : ℕ) (start : Bool) → Proper m → Follows m w p start → Proper (after_increment w p start m)
Proper_increment m w p true k f = omega arith
Proper_increment m w p false k f = omega arith

pub Proper_other : (m : Mark) (w : ℕ) → Proper m → Proper (after_other w m)
Proper_other m w k = record { base≤names = omega arith; names≤p = omega arith; p≤c = omega arith; c≤units = omega arith; none = k.none }

pub Before_refl : (m : Mark) → Before m m
Before_refl m = omega arith

pub Before_increment : (m : Mark) (w p : ℕ) (start : Bool) → Proper m → Follows m w p start → Before m (after_increment w p start m)
Before_increment m w p true k f = omega arith
Before_increment m w p false k f = omega arith

pub Before_other : (m : Mark) (w : ℕ) → Proper m → Before m (after_other w m)
Before_other m w k = omega arith

pub Before_trans : (l m n : Mark) → Before l m → Before m n → Before l n
Before_trans l m n a b = record {
  names≤ = omega arith;
  base≤ = omega arith;
  c≤ = omega arith;
  units≤ = omega arith;
  p_grows = omega arith;
  p_runs = λ h. omega (arith, a.p_runs (omega arith), b.p_runs (omega arith));
  same_p = λ h. a.same_p (omega arith) ∙ b.same_p (omega arith);
  same_c = λ h. a.same_c (omega arith) ∙ b.same_c (omega arith);
  c_later = λ h.
      by_le m.names l.names (λ q. omega (arith, b.c_later (omega arith))) (λ q. omega (arith, a.c_later (omega arith)));
}

-- Two marks of one history are comparable; the later of the two.
abbrev pub later_of : Mark → Mark → Mark
later_of m n = cond (leb m.names n.names) n m
