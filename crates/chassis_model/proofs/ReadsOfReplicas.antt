-- LAWS. A read on a card in step with the theory is the ledger's reading: the checks pass, the words show the replica, and the theory's theorem says what it reads.
use Rattle.std.specs.Prelude.{ℕ, ◌<◌, ◌≡◌, List}
use Rattle.std.proofs.Common.{sym, ◌∙◌}
use Rattle.std.proofs.Math.Path.{ap}
use Rattle.protocol.specs.Entry.{present}
use Rattle.protocol.specs.Ledger.{holds, ledger_value}
use Rattle.protocol.specs.Chassis.{Replica, read_value, read_holders}
use Rattle.protocol.proofs.StoreLaws.{Shows, value_shown, holders_shown}
use Rattle.protocol.proofs.Makers.{holds_is}
use Rattle.protocol.proofs.Theorem.{value_is, holders_are}
use Rattle.protocol.specs.Functions.{count_below}
use Rattle.protocol.proofs.AcceptanceLaws.{count_cong}
use Rattle.replica_model.specs.Layout.{entry_of, layout}
use Rattle.replica_model.specs.declared.Reading.{Reading}
use Rattle.replica_model.specs.Calls.{reading, read_on, holders}
use Rattle.replica_model.proofs.CallsLaws.{read_passes}
use Rattle.chassis_model.specs.Ledger.{ledger_reading}
use Rattle.chassis_model.proofs.InStep.{Heads, CardsAt, reached_right, reached_row}

-- what is read, in words that show a replica
reading_shown : (r k i q : ℕ) (b : List ℕ) (c : Replica) → Heads r k i b → Shows (layout r k) r k b c → q < k
    → reading b q ≡ record { number = 0; value = read_value r q c; holders = read_holders r q c; holder_count = count_below r (λ j. present (c.entry q j)) }
unfolding reading
reading_shown r k i q b c h s hq =
    rw (
      h.cards_are,
      h.counters_are,
      value_shown r k (layout r k) q b c hq s,
      holders_shown r k (layout r k) q b c hq s,
      count_cong r (λ j. present (entry_of r b q j)) (λ j. present (c.entry q j)) (λ j l. ap present (s.entries q j hq l)),
    )

module _ {r k : ℕ} (now : CardsAt r k) (i q : ℕ) (hi : i < r) (hq : q < k) where
  -- the ledger's holding cards are the replica's
  holding_is : (j : ℕ) → present ((now.chassis.replica i).entry q j) ≡ holds i j (now.ledgers q)
  holding_is j = let ok = now.in_step.invariants q in sym (holds_is q ok.notes ok.valid i (ok.row i) (now.chassis.replica i) (now.ledgers q) (ok.cards i) j)

  -- and so are the words'
  pub holding_there : (j : ℕ) → j < r → present (entry_of r (now.replicas i) q j) ≡ holds i j (now.ledgers q)
  holding_there j l = ap present ((now.in_step.cards_show.shows i hi).entries q j hq l) ∙ holding_is j

  pub holders_counted : holders (now.replicas i) q ≡ count_below r (λ j. holds i j (now.ledgers q))
  holders_counted =
      rw (now.in_step.cards_show.heads i hi).cards_are
      (count_cong r (λ j. present (entry_of r (now.replicas i) q j)) (λ j. holds i j (now.ledgers q)) holding_there)

  reading_matches : reading (now.replicas i) q ≡ ledger_reading r i (now.ledgers q)
  unfolding ledger_reading
  reading_matches =
      reading_shown r k i q (now.replicas i) (now.chassis.replica i) (now.in_step.cards_show.heads i hi) (now.in_step.cards_show.shows i hi) hq
      ∙ rw (
        value_is r q now.chassis (now.ledgers q) (now.in_step.invariants q) i,
        holders_are r q now.chassis (now.ledgers q) (now.in_step.invariants q) i,
        count_cong r (λ j. present ((now.chassis.replica i).entry q j)) (λ j. holds i j (now.ledgers q)) (λ j l. holding_is j),
      )

  pub read_matches : read_on (now.replicas i) q ≡ ledger_reading r i (now.ledgers q)
  read_matches =
      let on = now.in_step.cards_show.heads i hi in
      read_passes (now.replicas i) q (reached_right now i hi) (rw on.counters_are hq) (reached_row now i q hi hq) ∙ reading_matches

  pub value_reads : (reading (now.replicas i) q).value ≡ ledger_value i (now.ledgers q)
  unfolding ledger_reading
  value_reads = ap (λ (a : Reading). a.value) reading_matches
