-- CLAIMS. Request 2026-14, "What planners may rely on". `History` has the definitions, `CaughtUpExamples` small lists. r, q, os, `after_run` and `ledger_after` are
-- those of `Claims`; `history_after r os` is the history of the same list, told which steps were accepted, and nothing else.
use Rattle.std.specs.Prelude.{ℕ, ◌≡◌, true, cond, ◌&&◌, List, eqb, ltb, leb}
use Rattle.protocol.specs.Names.{name, has}
use Rattle.protocol.specs.Chassis.{Offer, read_value}
use Rattle.protocol.specs.Runs.{after_run}
use Rattle.protocol.specs.History.{ids, total, history_after, caught_up, plain_value}
use Rattle.protocol.proofs.HistoryLaws.{received_is, received_number}
use Rattle.protocol.proofs.CaughtUpLaws.{plain_theorem}

-- "On a caught-up card, after every list of steps, the value is the number of received increments for which no received clear of that counter was made by a card
-- that had received the increment earlier."
pub caught_up_value : (r q i : ℕ) (os : List Offer) → caught_up i (history_after r os) ≡ true
    → read_value r q ((after_run r os).replica i) ≡ plain_value q i (history_after r os)
caught_up_value = plain_theorem

-- What a history has as received is what the replica counts as received: of each card j the messages 1 to N[j], over all counters,
pub received_messages : (r i j o : ℕ) (os : List Offer)
    → has (ids ((history_after r os).received i)) (name j o) ≡ ltb 0 o && leb o (((after_run r os).replica i).N j)
received_messages = received_is

-- and each of them once: N[j] is their number.
pub received_once : (r i j : ℕ) (os : List Offer)
    → total (λ m. cond (eqb m.id.card j) 1 0) ((history_after r os).received i) ≡ ((after_run r os).replica i).N j
received_once = received_number
