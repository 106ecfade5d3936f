-- LAWS. The call of the code: the first check that fails gives the number (`refused_sizes` and the others); where all pass the rounds are given what they ask for, and
-- what they leave is the call's.
use Rattle.std.specs.Prelude.{ℕ, ◌*◌, ◌≡◌, refl, Bool, true, false, List, length}
use Rattle.std.proofs.Common.{sym, ◌∙◌}
use Rattle.protocol.specs.Limits.{bad_sizes, bad_replica, bad_row, bad_log}
use Rattle.replica_model.specs.ClaimTerms as terms
use Rattle.replica_model.proofs.RowLaws.{sizes, tests}
use Rattle.chassis_model.specs.Run.{State, chassis_fits}
use Rattle.chassis_model.specs.Pending.{DeliverOutcome, none_delivered, deliver_pending_on}
use Rattle.chassis_model.proofs.PendingChecked.{passes_checked}
use Rattle.chassis.specs.SizesOf.{sizes_of}
use Rattle.chassis.specs.StepCodeLaws.{WordsFit}
use Rattle.lent.specs.declared.Replicas.{Replicas}
use Rattle.lent.specs.Lent.{lent_state, are_placed, are_formed, are_logs_right, AllFound}
use Rattle.pending.specs.Ready.{PumpReady}
use Rattle.pending.specs.Rounds.{PumpDone}

pub refused_sizes : (r k L b : ℕ) (words logs : List ℕ) → chassis_fits r k L (length words) (length logs) ≡ false
    → none_delivered words bad_sizes ≡ deliver_pending_on r k L b words logs
unfolding deliver_pending_on
refused_sizes r k L b words logs wrong = rw wrong

-- what passes has its sizes in range, and its words and its logs are as long as they ask for
module _ (r k L : ℕ) (words logs : List ℕ) (fit : chassis_fits r k L (length words) (length logs) ≡ true) where
  pub sized : terms.Sizes r k
  unfolding chassis_fits
  sized = let is = simp tests at fit in sizes r k is.0.0

  pub words_fit : WordsFit (sizes_of r k L) words
  unfolding chassis_fits
  words_fit = let is = simp tests at fit in record { few_cards = sized.few_cards; few_counters = sized.few_counters; replica_is = refl; long = is.0.1 }

  pub logs_long : length logs ≡ r * L
  unfolding chassis_fits
  logs_long = let is = simp tests at fit in is.1

-- ---- the checks of its replicas and logs

module _ (replicas : Replicas) (logs : List ℕ)
    (fit : chassis_fits replicas.sizes.cards replicas.sizes.counters replicas.sizes.log_bytes (length replicas.words.now) (length logs) ≡ true) where
  pub pump_given : are_placed replicas ≡ true → are_formed replicas ≡ true → (ok : Bool) (places : List ℕ) → AllFound replicas logs ok places → ok ≡ true
      → PumpReady replicas.sizes replicas.words.now logs places
  unfolding are_placed are_formed are_logs_right
  pump_given placed formed ok places found right = record {
    words_fit = replicas.fit;
    checked = passes_checked replicas.sizes.cards replicas.sizes.counters replicas.sizes.log_bytes (lent_state replicas logs) (fit, (placed, (formed, (sym found.right ∙ right, tt))));
    places_are = found.places right;
  }

  module _ (b : ℕ) where
    abbrev call : DeliverOutcome
    call = deliver_pending_on replicas.sizes.cards replicas.sizes.counters replicas.sizes.log_bytes b replicas.words.now logs

    pub refused_replica : are_placed replicas ≡ false → none_delivered replicas.words.now bad_replica ≡ call
    unfolding deliver_pending_on are_placed
    refused_replica wrong = rw (fit, wrong)

    pub refused_row : are_placed replicas ≡ true → are_formed replicas ≡ false → none_delivered replicas.words.now bad_row ≡ call
    unfolding deliver_pending_on are_placed are_formed
    refused_row placed wrong = rw (fit, placed, wrong)

    pub refused_log : are_placed replicas ≡ true → are_formed replicas ≡ true → are_logs_right replicas logs ≡ false → none_delivered replicas.words.now bad_log ≡ call
    unfolding deliver_pending_on are_placed are_formed are_logs_right
    refused_log placed formed wrong = rw (fit, placed, formed, wrong)

    pub pumped : are_placed replicas ≡ true → are_formed replicas ≡ true → are_logs_right replicas logs ≡ true → (n : ℕ) (st' : State)
        → PumpDone replicas.sizes b (lent_state replicas logs) n st'
        → ◌≡◌ {A = DeliverOutcome} (record { answer = record { number = 0; deliveries = n }; words = st'.words }) call
    unfolding deliver_pending_on are_placed are_formed are_logs_right
    pumped placed formed right n st' done = rw (fit, placed, formed, right, done.state_is, done.made_is)
