-- LAWS. What an enabled step has (`Chassis.enabled`), as facts of numbers.
use Rattle.std.specs.Prelude.{ℕ, ◌<◌, ◌≡◌, true, not, eqb, ltb}
use borrow.Author.Tests.{ltb-true, lt-ltb, eqb-false, ne_eqb, not-true}
use Rattle.protocol.proofs.Cases.{and_left, and_right}
use Rattle.protocol.specs.Ledger.{count, deliver}
use Rattle.protocol.specs.Chassis.{Chassis, enabled}

pub count_enabled : (r i q w : ℕ) (st : Chassis) → enabled r (count i q w) st ≡ true → (i < r) × (0 < w)
unfolding enabled
count_enabled r i q w st e = (ltb-true i r (and_left (ltb i r) (ltb 0 w) e), ltb-true 0 w (and_right (ltb i r) (ltb 0 w) e))

-- a deliver step between two cards, and one waits
pub record Deliverable (r i s : ℕ) (st : Chassis) : Type 0 where
  pub receiver : i < r
  pub sender : s < r
  pub apart : i ≡ s → ⊥
  pub waits : (st.replica i).N s < (st.replica s).N s

module _ (r i s : ℕ) (st : Chassis) where
  pub deliver_enabled : enabled r (deliver i s) st ≡ true → Deliverable r i s st
  unfolding enabled
  deliver_enabled e =
      let e₁ = and_right (ltb i r) _ e in
      let e₂ = and_right (ltb s r) _ e₁ in
      record {
        receiver = ltb-true i r (and_left (ltb i r) _ e);
        sender = ltb-true s r (and_left (ltb s r) _ e₁);
        apart = eqb-false i s (not-true (eqb i s) (and_left (not (eqb i s)) _ e₂));
        waits = ltb-true ((st.replica i).N s) ((st.replica s).N s) (and_right (not (eqb i s)) _ e₂);
      }

  pub deliverable : Deliverable r i s st → enabled r (deliver i s) st ≡ true
  unfolding enabled
  deliverable d = rw (lt-ltb i r d.receiver, lt-ltb s r d.sender, ne_eqb i s d.apart, lt-ltb ((st.replica i).N s) ((st.replica s).N s) d.waits)
