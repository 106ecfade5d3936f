-- LAWS. The words of r cards beside the theory's chassis and ledgers: the words of each card show its replica, and the messages that it has made can be
-- read again (`CardsShow`); the theory's invariant holds for every counter (`InStep`). So every replica is right, every row is well-formed, and no message
-- that is next is declined. Where the words stand and what carries the messages is not said here: a run has one list of words and logs (`Matches`), a
-- driver's cards have words of their own and a network (`DriverMatches`).
use Rattle.std.specs.Prelude.{ℕ, ◌≤◌, ◌<◌, ◌≡◌, List, length, get_or}
use Rattle.std.proofs.Common.{◌∙◌}
use Rattle.protocol.specs.Limits.{MAX}
use Rattle.protocol.specs.Ledger.{Ledger}
use Rattle.protocol.specs.Chassis.{no_message, Replica, Chassis}
use Rattle.protocol.proofs.StoreLaws.{Shows}
use Rattle.protocol.proofs.Theorem.{Invariant}
use Rattle.protocol.proofs.Refusals.{received_within, rows_well_formed}
use Rattle.protocol.proofs.OwnBounded.{OwnBounded}
use Rattle.protocol.proofs.Links.{own_N_is}
use Rattle.protocol.specs.Rows.{WellFormedRow}
use Rattle.protocol.proofs.AcceptanceLaws.{row_alike}
use Rattle.replica_model.specs.Layout.{cards, counters, own_card, C_of, N_of, entry_of, Fits, layout}
pub use Rattle.replica_model.specs.ClaimTerms.{Sizes}
use Rattle.replica_model.specs.ClaimTerms.{Right, MarkedIn, RowOf}
use Rattle.chassis_model.proofs.LogLaws.{AllReadable}
use Rattle.chassis_model.proofs.Numbered.{wire_log, Sendable}

-- the first three words of card i's replica
pub record Heads (r k i : ℕ) (b : List ℕ) : Type 0 where
  pub cards_are : cards b ≡ r
  pub counters_are : counters b ≡ k
  pub own_is : own_card b ≡ i

-- the words of each card, beside the chassis
pub record CardsShow (r k : ℕ) (replicas : ℕ → List ℕ) (ch : Chassis) : Type 0 where
  pub heads : (i : ℕ) → i < r → Heads r k i (replicas i)
  pub shows : (i : ℕ) → i < r → Shows (layout r k) r k (replicas i) (ch.replica i)
  -- every row's bit says whether it has an entry
  pub marked : (i q : ℕ) → i < r → q < k → MarkedIn (replicas i) q
  pub readable : (j : ℕ) → j < r → AllReadable (wire_log j (ch.log j))
  pub sendable : (j : ℕ) → j < r → (n : ℕ) → n < length (ch.log j) → Sendable r k (get_or (ch.log j) n no_message)
  -- no card has made more messages, or counted more, than MAX
  pub own : OwnBounded MAX ch

pub record InStep (r k : ℕ) (replicas : ℕ → List ℕ) (ch : Chassis) (ls : ℕ → Ledger) : Type 0 where
  pub sizes : Sizes r k
  pub cards_show : CardsShow r k replicas ch
  -- the theory's invariant, for the ledger of every counter
  pub invariants : (q : ℕ) → Invariant r q ch (ls q)

-- the words of the cards, and the chassis and ledgers that they are in step with
pub record CardsAt (r k : ℕ) : Type 0 where
  pub replicas : ℕ → List ℕ
  pub chassis : Chassis
  pub ledgers : ℕ → Ledger
  pub in_step : InStep r k replicas chassis ledgers

abbrev pub cards_at : {r k : ℕ} {replicas : ℕ → List ℕ} {ch : Chassis} {ls : ℕ → Ledger} → InStep r k replicas ch ls → CardsAt r k
cards_at {replicas = replicas} {ch = ch} {ls = ls} h = record { replicas = replicas; chassis = ch; ledgers = ls; in_step = h }

-- ---- what is known of the chassis

row_of_chassis : (r k : ℕ) (replicas : ℕ → List ℕ) (ch : Chassis) → CardsShow r k replicas ch → (q : ℕ) (l : Ledger) → Invariant r q ch l
    → (i : ℕ) → WellFormedRow MAX r i (ch.replica i).C (ch.replica i).N ((ch.replica i).entry q)
row_of_chassis r k replicas ch a q l ok i = rows_well_formed r q ch l ok MAX a.own r i

-- ---- what is known of the words

right_of_words : (r k i : ℕ) (b : List ℕ) → Sizes r k → i < r → Heads r k i b → Fits r k b → Right b
right_of_words r k i b z hi h fits = record {
  sizes = rw (h.cards_are, h.counters_are) z;
  own = rw (h.own_is, h.cards_are) hi;
  fits = rw (h.cards_are, h.counters_are) fits.long;
  low = rw h.counters_are fits.low;
}

row_of_words : (r k i q : ℕ) (b : List ℕ) (c : Replica) → i < r → q < k → Heads r k i b → Shows (layout r k) r k b c → MarkedIn b q
    → WellFormedRow MAX r i c.C c.N (c.entry q) → RowOf b q
row_of_words r k i q b c hi hq h s m w = record {
  tables =
      rw (h.cards_are, h.own_is)
      (row_alike r i c.C c.N (C_of b) (N_of r b) (c.entry q) (entry_of r b q) hi s.Cs s.Ns (λ j m. s.entries q j hq m) w);
  marked = m;
}

module _ {r k : ℕ} (now : CardsAt r k) where
  pub reached_right : (i : ℕ) → i < r → Right (now.replicas i)
  reached_right i hi =
      let h = now.in_step in
      right_of_words r k i (now.replicas i) h.sizes hi (h.cards_show.heads i hi) (h.cards_show.shows i hi).fits

  pub reached_row : (i q : ℕ) → i < r → q < k → RowOf (now.replicas i) q
  reached_row i q hi hq =
      let h = now.in_step in
      row_of_words r k i q (now.replicas i) (now.chassis.replica i) hi hq (h.cards_show.heads i hi) (h.cards_show.shows i hi) (h.cards_show.marked i q hi hq)
      (row_of_chassis r k now.replicas now.chassis h.cards_show q (now.ledgers q) (h.invariants q) i)

  -- N as the words have it
  pub reached_N : (i s : ℕ) → i < r → s < r → N_of r (now.replicas i) s ≡ (now.chassis.replica i).N s
  reached_N i s hi hs = (now.in_step.cards_show.shows i hi).Ns s hs

  -- and so C of a card itself
  pub reached_C : (i : ℕ) → i < r → C_of (now.replicas i) i ≡ (now.chassis.replica i).C i
  reached_C i hi = (now.in_step.cards_show.shows i hi).Cs i hi

  -- a card has received no more than was made, and of its own messages all
  pub received_few : (i s : ℕ) → (now.chassis.replica i).N s ≤ length (now.chassis.log s)
  received_few i s =
      rw (← (own_N_is r 0 now.chassis (now.ledgers 0) (now.in_step.invariants 0) s))
      (received_within r 0 now.chassis (now.ledgers 0) (now.in_step.invariants 0) i s).1

  pub made_all : (i : ℕ) → (now.chassis.replica i).N i ≡ length (now.chassis.log i)
  made_all i = own_N_is r 0 now.chassis (now.ledgers 0) (now.in_step.invariants 0) i

  pub own_N : (i : ℕ) → i < r → N_of r (now.replicas i) i ≡ length (now.chassis.log i)
  own_N i hi = reached_N i i hi hi ∙ made_all i
