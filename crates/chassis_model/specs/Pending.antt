-- DEFINITIONS. Delivering what waits, in rounds (SPECIFICATION 6.3): the links of a chassis of words and logs as a transport (`protocol`'s `RoundRobin`), what
-- the call checks, answers and leaves, and calls one after the other with their deliveries as steps of a run.
use Rattle.std.specs.Prelude.{ℕ, suc, ◌-◌, List, [], ◌∷◌, ◌++◌, map, Bool, ◌&&◌, leb, eqb, length}
use Rattle.protocol.specs.Checks.{Check, or_else, checked}
use Rattle.protocol.specs.Limits.{bad_replica, bad_row, bad_sizes, bad_log}
use Rattle.protocol.specs.Functions.{all_below}
use Rattle.protocol.specs.RoundRobin.{Link, Transport, Progress, deliver_pending, total_waiting}
use Rattle.replica_model.specs.Format.{format_2}
use Rattle.replica_model.specs.Calls.{in_place, row_well_formed}
use Rattle.chassis_model.specs.Log.{waiting_part}
use Rattle.chassis_model.specs.Run.{Step, State, state_of, N_at, replica_of, log_of, delivered, chassis_fits, deliver_kind}
pub use Rattle.chassis_model.specs.declared.Delivered.{Delivered}

-- message number q of card s: "they read, the sender is the card, the sequences are 1, 2, .."
unfoldable pub is_numbered : ℕ → ℕ → List ℕ → Bool
is_numbered s q message =
    format_2.reads message && eqb (format_2.received message).sender s && eqb (format_2.received message).sequence q

-- whether card s's log begins so, N being n; where "its bytes do not begin with that card's messages numbered 1 to its own N", 15
unfoldable pub begins_with : ℕ → ℕ → List ℕ → Bool
begins_with s n log = all_below n (λ j. is_numbered s (suc j) (waiting_part (suc j) log))

module _ (r k L : ℕ) where
  -- "One waits exactly when the sender's own N is above the receiver's N of that sender"; a delivery is the run's
  abbrev pub state_links : Transport State
  state_links = record {
    waiting = λ i s st. N_at r k L st s s - N_at r k L st i s;
    attempt = λ i s st. record { accepted = eqb (delivered r k L i s st).answer.number 0; state = (delivered r k L i s st).state };
  }

  -- at most b deliveries from a state on: what they leave, and which they are
  abbrev pub pump : ℕ → State → Progress State
  pump b st = deliver_pending state_links r b st

  -- "the sum over all links of the sender's own N less the receiver's N of it"
  abbrev pub all_waiting : State → ℕ
  all_waiting st = total_waiting state_links r st

  -- ---- the call

  -- whether card s's log begins so and no card has had more of its messages; 15 "or some receiver's N of that card is above its own N"
  unfoldable pub log_right : State → ℕ → Bool
  log_right st s = begins_with s (N_at r k L st s s) (log_of r k L st s) && all_below r (λ i. leb (N_at r k L st i s) (N_at r k L st s s))

  -- "11, 1, 2, 15", "over all replicas before the next"; 1: "a replica of other sizes or out of its place"
  abbrev pub pending_checks : State → List Check
  pending_checks st =
      or_else (chassis_fits r k L (length st.words) (length st.logs)) bad_sizes
      ∷ or_else (all_below r (λ i. in_place r k i (replica_of r k L st i))) bad_replica
      ∷ or_else (all_below r (λ i. all_below k (row_well_formed (replica_of r k L st i)))) bad_row
      ∷ or_else (all_below r (log_right st)) bad_log ∷ []

-- what the call answers, and what it leaves in the words; "Logs never change."
pub record DeliverOutcome : Type 0 where
  pub answer : Delivered
  pub words : List ℕ

abbrev pub none_delivered : List ℕ → ℕ → DeliverOutcome
none_delivered words number = record { answer = record { number = number; deliveries = 0 }; words = words }

-- "It returns how many it made"
abbrev pub delivered_all : Progress State → DeliverOutcome
delivered_all p = record { answer = record { number = 0; deliveries = length p.made }; words = p.state.words }

unfoldable pub deliver_pending_on : ℕ → ℕ → ℕ → ℕ → List ℕ → List ℕ → DeliverOutcome
deliver_pending_on r k L b words logs =
    checked (none_delivered words) (pending_checks r k L (state_of words logs)) (delivered_all (pump r k L b (state_of words logs)))

-- ---- calls one after the other, each with its own b

unfoldable pub words_after_calls : ℕ → ℕ → ℕ → List ℕ → List ℕ → List ℕ → List ℕ
words_after_calls r k L [] words logs = words
words_after_calls r k L (b ∷ bs) words logs = words_after_calls r k L bs (deliver_pending_on r k L b words logs).words logs

-- "The ledger counts each pumped delivery as a deliver step.": the deliveries as steps of a run
abbrev pub pump_steps : List Link → List Step
pump_steps ls = map (λ l. record { kind = deliver_kind; first = l.receiver; second = l.sender; amount = 0 }) ls

-- those of all the calls, in order
unfoldable pub steps_of_calls : ℕ → ℕ → ℕ → List ℕ → List ℕ → List ℕ → List Step
steps_of_calls r k L [] words logs = []
steps_of_calls r k L (b ∷ bs) words logs =
    pump_steps (pump r k L b (state_of words logs)).made ++ steps_of_calls r k L bs (deliver_pending_on r k L b words logs).words logs
