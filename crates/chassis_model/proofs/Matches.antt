-- LAWS. A state that a run reaches, beside the theory's chassis and ledgers: the words of its cards are in step with them (`InStep`), and each log begins
-- with the bytes of its card's messages.
use Rattle.std.specs.Prelude.{ℕ, ◌+◌, ◌*◌, ◌<◌, ◌≡◌, List, ◌++◌, length, drop}
use Rattle.protocol.proofs.Tables.{put, put_same}
use Rattle.protocol.specs.Ledger.{Ledger}
use Rattle.protocol.specs.Chassis.{Chassis}
use Rattle.wire.specs.declared.Message as wire
use Rattle.wire.specs.Message.{log_bytes}
use Rattle.replica_model.specs.Layout.{replica_length}
use Rattle.replica_model.specs.Format.{on_wire}
use Rattle.chassis_model.specs.ListParts.{part, put_part}
use Rattle.chassis_model.proofs.ListPartsLaws.{part_put, put_part_length}
use Rattle.chassis_model.specs.Run.{State, replica_of, log_of, N_at, C_at, free_from}
use Rattle.chassis_model.proofs.LogLaws.{Stands, stands_in_log}
use Rattle.chassis_model.proofs.Numbered.{wire_log, wire_log_at, length_numbered}
pub use Rattle.chassis_model.proofs.InStep.{Sizes, InStep, CardsAt}
use Rattle.chassis_model.proofs.InStep.{CardsShow}
use Rattle.chassis_model.proofs.Moves.{message_behind, cards_show_same}

-- a log that begins with messages
pub record Holds (log : List ℕ) (ms : List wire.Message) : Type 0 where
  pub rest : List ℕ
  pub bytes : log ≡ log_bytes ms ++ rest

pub record Matches (r k L : ℕ) (st : State) (ch : Chassis) (ls : ℕ → Ledger) : Type 0 where
  pub words_fit : length st.words ≡ r * replica_length r k
  pub logs_fit : length st.logs ≡ r * L
  pub cards : InStep r k (replica_of r k L st) ch ls
  pub holds : (j : ℕ) → j < r → Holds (log_of r k L st j) (wire_log j (ch.log j))

-- a state of a run, and the chassis and ledgers that it matches
pub record RunAt (r k L : ℕ) : Type 0 where
  pub state : State
  pub chassis : Chassis
  pub ledgers : ℕ → Ledger
  pub matches : Matches r k L state chassis ledgers

abbrev pub run_at : {r k L : ℕ} {st : State} {ch : Chassis} {ls : ℕ → Ledger} → Matches r k L st ch ls → RunAt r k L
run_at {st = st} {ch = ch} {ls = ls} h = record { state = st; chassis = ch; ledgers = ls; matches = h }

module _ {r k L : ℕ} (now : RunAt r k L) where
  -- each card's words and log
  abbrev pub words_in : ℕ → List ℕ
  words_in i = replica_of r k L now.state i

  abbrev pub log_in : ℕ → List ℕ
  log_in i = log_of r k L now.state i

  -- how many messages of card s card i has received
  abbrev pub N_in : ℕ → ℕ → ℕ
  N_in i s = N_at r k L now.state i s

  -- how much card i has counted
  abbrev pub C_in : ℕ → ℕ
  C_in i = C_at r k L now.state i

  -- where card i's next message goes, and the bytes from there on
  abbrev pub free_in : ℕ → ℕ
  free_in i = free_from r k L now.state i

  abbrev pub room_in : ℕ → List ℕ
  room_in i = drop (free_in i) (log_in i)

  abbrev pub run_cards : CardsAt r k
  run_cards = record { replicas = words_in; chassis = now.chassis; ledgers = now.ledgers; in_step = now.matches.cards }

-- ---- card i gets other words, which show the chassis that follows

module _ {r k L : ℕ} (now : RunAt r k L) (i : ℕ) (hi : i < r) (b : List ℕ) {ch : Chassis} (shows : CardsShow r k (put i b (words_in now)) ch) where
  put_length : length b ≡ replica_length r k
  put_length = rw (put_same i b (words_in now)) at (shows.shows i hi).fits.long

  pub put_words_fit : length (put_part (replica_length r k) i b now.state.words) ≡ r * replica_length r k
  put_words_fit = put_part_length r (replica_length r k) i b now.state.words now.matches.words_fit hi put_length

  pub put_words_show : CardsShow r k (part (replica_length r k) (put_part (replica_length r k) i b now.state.words)) ch
  put_words_show =
      cards_show_same r k (put i b (words_in now)) _ ch (λ j l. part_put r (replica_length r k) i b now.state.words now.matches.words_fit hi put_length j) shows

-- ---- the messages of a log

module _ {r k L : ℕ} (now : RunAt r k L) (s n : ℕ) (hs : s < r) (made : n < length (now.chassis.log s)) where
  -- where the one behind the first n stands
  pub message_stands : Stands (log_in now s) n (on_wire s (n + 1) (message_behind now.chassis s n))
  message_stands =
      let log = now.chassis.log s in
      let on = now.matches.holds s hs in
      rw (← (wire_log_at s log n made))
      (stands_in_log (wire_log s log) on.rest (log_in now s) on.bytes (now.matches.cards.cards_show.readable s hs) n (rw (length_numbered s 0 log) made))
