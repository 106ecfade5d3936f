-- CLAIMS. Small calls of `deliver_pending`, proved by computing them: on the chassis of tables after runs of two and of three cards, and over a bare
-- table of waiting numbers on which one link declines.
use Rattle.std.specs.Prelude.{ℕ, ◌-◌, ◌≡◌, refl, true, false, not, cond, ◌&&◌, List, [], ◌∷◌, map, eqb, length}
use Rattle.protocol.proofs.Tables.{put, sum, bits}
use Rattle.protocol.specs.Entry.{incremented, cleared}
use Rattle.protocol.specs.Ledger.{Step, count, clear, deliver}
use Rattle.protocol.specs.Chassis.{Chassis, cleared_row, taken, count_message, present_entries, clear_message, issued, delivered, done, enabled, stepped, run, read_value, read_holders}
use Rattle.protocol.specs.Runs.{after_run}
use Rattle.protocol.specs.RoundRobin.{link, Transport, tried, turn, senders, receivers, rounds, deliver_pending, total_waiting}
use Rattle.protocol.specs.Pending.{pump, all_waiting, after_pumps}

abbrev after : ℕ → List Step → Chassis
after r ss = after_run r (map (λ s. record { step = s; willing = true }) ss)

-- what cards 0, 1 and 2 read of counter 0
abbrev values : ℕ → Chassis → List ℕ
values r st = read_value r 0 (st.replica 0) ∷ read_value r 0 (st.replica 1) ∷ read_value r 0 (st.replica 2) ∷ []

abbrev holder_sets : ℕ → Chassis → List ℕ
holder_sets r st = read_holders r 0 (st.replica 0) ∷ read_holders r 0 (st.replica 1) ∷ read_holders r 0 (st.replica 2) ∷ []

-- two cards: three messages of card 0 wait for card 1, one of card 1 for card 0
pub busy : Chassis
busy = after 2 (count 0 0 1 ∷ count 0 0 1 ∷ count 0 0 1 ∷ clear 1 0 ∷ [])

-- three cards: a clear by card 1 of card 0's first count, and a count of card 2, all under way
pub crossing : Chassis
crossing = after 3 (count 0 0 1 ∷ deliver 1 0 ∷ clear 1 0 ∷ count 0 0 1 ∷ count 2 0 1 ∷ [])

-- the busy link does not hold up the other, b stops the call in a round, and a larger b stops it where nothing waits
pub busy_calls : (all_waiting 2 busy ≡ 4)
    × ((pump 2 0 busy).made ≡ [])
    × ((pump 2 1 busy).made ≡ link 0 1 ∷ [])
    × ((pump 2 3 busy).made ≡ link 0 1 ∷ link 1 0 ∷ link 1 0 ∷ [])
    × (all_waiting 2 (pump 2 3 busy).state ≡ 1)
    × ((pump 2 9 busy).made ≡ link 0 1 ∷ link 1 0 ∷ link 1 0 ∷ link 1 0 ∷ [])
    × (all_waiting 2 (pump 2 9 busy).state ≡ 0)
unfolding busy put sum incremented cleared cleared_row taken count_message present_entries clear_message issued delivered done enabled stepped run tried turn senders receivers rounds deliver_pending total_waiting
busy_calls = (refl, refl, refl, refl, refl, refl, refl)

-- receivers rising, senders rising, then the next round; the cards read different things until all has come, and then the same
pub crossing_calls : (all_waiting 3 crossing ≡ 7)
    × ((pump 3 7 crossing).made ≡ link 0 1 ∷ link 0 2 ∷ link 1 0 ∷ link 1 2 ∷ link 2 0 ∷ link 2 1 ∷ link 2 0 ∷ [])
    × (values 3 crossing ≡ 2 ∷ 0 ∷ 1 ∷ [])
    × (holder_sets 3 crossing ≡ 1 ∷ 0 ∷ 4 ∷ [])
    × (values 3 (pump 3 6 crossing).state ≡ 2 ∷ 2 ∷ 1 ∷ [])
    × (values 3 (pump 3 7 crossing).state ≡ 2 ∷ 2 ∷ 2 ∷ [])
    × (holder_sets 3 (pump 3 7 crossing).state ≡ 5 ∷ 5 ∷ 5 ∷ [])
    × (values 3 (after_pumps 3 (2 ∷ 0 ∷ 5 ∷ []) crossing) ≡ 2 ∷ 2 ∷ 2 ∷ [])
unfolding crossing put sum bits incremented cleared cleared_row taken count_message present_entries clear_message issued delivered done enabled stepped run read_value read_holders tried turn senders receivers rounds deliver_pending total_waiting after_pumps
crossing_calls = (refl, refl, refl, refl, refl, refl, refl, refl)

-- a table of waiting numbers, by receiver, then by sender; from sender 0 to receiver 1 a message is declined while two wait
pub declining : Transport (ℕ → ℕ → ℕ)
declining = record {
  waiting = λ i s w. w i s;
  attempt = λ i s w.
      let yes = not (eqb i 1 && eqb s 0 && eqb (w i s) 2) in
      record { accepted = yes; state = cond yes (put i (put s (w i s - 1) (w i)) w) w };
}

pub threes : ℕ → ℕ → ℕ
threes i s = 3

-- two cards: the link hands over one message, is passed over with two waiting, and the other link goes on; declined attempts do not count for b
pub declining_calls : ((deliver_pending declining 2 9 threes).made ≡ link 0 1 ∷ link 1 0 ∷ link 0 1 ∷ link 0 1 ∷ [])
    × ((deliver_pending declining 2 9 threes).passed 1 0 ≡ true)
    × ((deliver_pending declining 2 9 threes).passed 0 1 ≡ false)
    × ((deliver_pending declining 2 9 threes).state 1 0 ≡ 2)
    × (total_waiting declining 2 threes ≡ 6)
    × (total_waiting declining 2 (deliver_pending declining 2 9 threes).state ≡ 2)
    × (length (deliver_pending declining 2 4 threes).made ≡ 4)
unfolding declining threes put sum tried turn senders receivers rounds deliver_pending total_waiting
declining_calls = (refl, refl, refl, refl, refl, refl, refl)
