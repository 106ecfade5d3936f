-- DEFINITIONS. A part of the caller's bytes that is handed out as that part, not as a copy (SPECIFICATION 6.2: "The waiting message is handed out as that part of the log").
use Rattle.std.specs.Prelude.{ℕ, ◌+◌, ◌≡◌, List}
use Rattle.std.specs.Borrow.{Bor}

-- The reference r is the part of s that begins `start` bytes behind the front of s and holds `bytes`. A reference points to a block of memory and an offset in it, and a byte takes one.
pub record PartOf (s : Bor (List ℕ)) (start : ℕ) (bytes : List ℕ) (r : Bor (List ℕ)) : Type 0 where
  pub holds : r.now ≡ bytes
  pub block : r.ref_ptr.0 ≡ s.ref_ptr.0
  pub offset : r.ref_ptr.1 ≡ s.ref_ptr.1 + start
