-- DEFINITIONS. Which counters are active on a card, as their ledgers have it, and what it is for the call to answer just these.
use Rattle.std.specs.Prelude.{ℕ, ◌<◌, ◌≡◌, not, List}
use Rattle.protocol.specs.Functions.{bits, any_below}
use Rattle.protocol.specs.Ledger.{Ledger, holds}
use Rattle.replica_model.specs.Layout.{active_of}
use Rattle.replica_model.specs.Calls.{is_quiet, read_on, active_on}
use Rattle.replica_model.specs.Active.{active_by_reading}

-- bit q is one where counter q's ledger has a holding card at card i, of the k counters and the r cards
unfoldable pub ledger_active : ℕ → ℕ → ℕ → (ℕ → Ledger) → ℕ
ledger_active r k i ledgers = bits k (λ q. any_below r (λ j. holds i j (ledgers q)))

-- Of card i, whose words are b: the call is accepted and answers the counters that a read of each finds to have holders; these are the ones that have a holding card
-- in their ledgers; and a counter's bit is one exactly when it is not quiet there.
pub record ActiveAre (r k i : ℕ) (b : List ℕ) (ledgers : ℕ → Ledger) : Type 0 where
  pub answered : active_on b ≡ record { number = 0; counters = active_by_reading b }
  pub held : active_by_reading b ≡ ledger_active r k i ledgers
  pub not_quiet : (q : ℕ) → q < k → active_of b q ≡ not (is_quiet (read_on b q))
