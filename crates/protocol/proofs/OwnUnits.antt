-- LAWS. A card's own C is what its messages count.
use Rattle.std.specs.Prelude.{ℕ, ◌+◌, ◌≡◌, List, [], ◌∷◌, map, length}
use Rattle.std.proofs.Common.{◌∙◌, arith}
use Rattle.protocol.proofs.Marks.{Mark, no_messages}
use Rattle.protocol.proofs.Chain.{Note, wire, after, mark_from}
use Rattle.protocol.specs.Ledger.{Ledger}
use Rattle.protocol.specs.Chassis.{Chassis, units_of}
use Rattle.protocol.specs.Alone.{room}
use Rattle.protocol.proofs.Theorem.{Invariant}
use Rattle.protocol.proofs.Refusals.{after_units}

units_from : (q : ℕ) (h : List Note) (m : Mark) → (mark_from (length h) h m).units ≡ m.units + room units_of (map (wire q) h)
unfolding mark_from room
units_from q [] m = omega arith
units_from q (t ∷ h) m = let e = after_units q t m in units_from q h (after t m) ∙ omega arith

pub own_C_is : (r q : ℕ) (st : Chassis) (l : Ledger) → Invariant r q st l → (i : ℕ) → (st.replica i).C i ≡ room units_of (st.log i)
own_C_is r q st l k i = rw (((k.cards i).pairs i).C_is, k.own i, k.logs i) (units_from q (k.notes i) no_messages ∙ omega arith)
