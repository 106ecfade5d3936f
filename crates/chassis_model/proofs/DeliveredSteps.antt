-- LAWS. A delivery in a reached state: where a message waits it is accepted, and the state after it matches.
use Rattle.std.specs.Prelude.{ℕ, ◌+◌, ◌*◌, ◌<◌, ◌≡◌, List, length}
use Rattle.std.proofs.Common.{arith}
use Rattle.protocol.proofs.Tables.{put}
use Rattle.protocol.specs.Chassis as protocol
use Rattle.replica_model.specs.Layout.{replica_length}
use Rattle.replica_model.specs.Format.{on_wire}
use Rattle.replica_model.specs.Calls.{words_after}
use Rattle.chassis_model.specs.ListParts.{put_part}
use Rattle.chassis_model.specs.Run.{State, answered, replica_of, log_of, delivered}
use Rattle.chassis_model.proofs.LogLaws.{Stands}
use Rattle.chassis_model.proofs.Numbered.{wire_log}
use Rattle.chassis_model.proofs.InStep.{CardsShow, reached_N, own_N}
use Rattle.chassis_model.proofs.Matches.{Holds, RunAt, run_cards, words_in, log_in, N_in, put_words_fit, put_words_show, message_stands}
use Rattle.chassis_model.proofs.Moves.{due_message, delivered_cards_show}
use Rattle.chassis_model.proofs.Takes.{due_taken}

-- card i's words with the due message of s taken, and the state with it handed over
module _ {r k L : ℕ} (now : RunAt r k L) (i s : ℕ) where
  abbrev words_taken : List ℕ
  words_taken = words_after s (due_message now.chassis i s) (words_in now i)

  abbrev pub state_delivered : State
  state_delivered = record { words = put_part (replica_length r k) i words_taken now.state.words; logs = now.state.logs }

module _ {r k L : ℕ} (now : RunAt r k L) (i s : ℕ) (hi : i < r) (hs : s < r) where
  module _ (waits : N_in now i s < N_in now s s) where
    -- it is one of the messages that s has made
    waits_in_log : (now.chassis.replica i).N s < length (now.chassis.log s)
    waits_in_log =
        let a = reached_N (run_cards now) i s hi hs in
        let b = own_N (run_cards now) s hs in
        omega arith

    -- where it stands
    pub due_stands : Stands (log_in now s) (N_in now i s) (on_wire s (N_in now i s + 1) (due_message now.chassis i s))
    due_stands = rw (reached_N (run_cards now) i s hi hs) (message_stands now s ((now.chassis.replica i).N s) hs waits_in_log)

    module _ (apart : i ≡ s → ⊥) where
      pub one_delivered : delivered r k L i s now.state ≡ record { answer = answered 0; state = state_delivered now i s }
      unfolding delivered
      one_delivered = rw (due_stands.waits, due_taken (run_cards now) i s hi hs apart waits_in_log)

      taken_here : CardsShow r k (put i (words_taken now i s) (words_in now)) (protocol.delivered i s now.chassis)
      taken_here = delivered_cards_show (run_cards now) i s hi hs apart waits_in_log

      -- the state after it is that of the chassis after it
      pub delivered_fits : length (state_delivered now i s).words ≡ r * replica_length r k
      delivered_fits = put_words_fit now i hi _ taken_here

      pub delivered_shows : CardsShow r k (replica_of r k L (state_delivered now i s)) (protocol.delivered i s now.chassis)
      delivered_shows = put_words_show now i hi _ taken_here

      pub delivered_holds : (j : ℕ) → j < r → Holds (log_of r k L (state_delivered now i s) j) (wire_log j ((protocol.delivered i s now.chassis).log j))
      unfolding protocol.delivered
      delivered_holds j l = now.matches.holds j l
