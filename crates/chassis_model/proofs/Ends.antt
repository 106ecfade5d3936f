-- LAWS. Where the messages that a card has received end in their sender's log: a step moves one such end, by the length of its message, and no other.
use Prim.Native.Nat.{ℕ, zero, suc, ◌+◌, ◌≤◌, ◌<◌}
use Rattle.std.specs.Prelude.{◌≡◌, ◌&&◌, List, length, take, drop, leb}
use Rattle.std.proofs.Math.Path.{sym, ap}
use Rattle.std.proofs.Common.{◌∙◌, arith, length-drop, leb-true}
use Rattle.protocol.proofs.Cases.{by_place, by_test, and_left}
use Rattle.protocol.proofs.Tables.{put, put_same, put_other}
use Rattle.protocol.specs.Chassis as protocol
use Rattle.protocol.specs.Chassis.{Message, Replica, taken, issued}
use Rattle.protocol.proofs.InvariantSteps.{taken_N}
use Rattle.wire.specs.declared.Message as wire
use Rattle.wire.specs.Message.{version_2, called_length, reads, front_length, message_length}
use Rattle.replica_model.specs.Format.{on_wire}
use Rattle.chassis_model.specs.Log.{end_of}
use Rattle.chassis_model.proofs.LogLaws.{Readable, AllReadable, written, end_moves, ends_stay}
use Rattle.chassis_model.proofs.Numbered.{wire_log, length_numbered}
use Rattle.chassis_model.specs.Run.{State, log_of, N_at}
use Rattle.chassis_model.proofs.InStep.{reached_N, received_few, own_N}
use Rattle.chassis_model.proofs.Matches.{Holds, RunAt, run_cards, words_in, log_in, N_in, room_in}
use Rattle.chassis_model.proofs.Sends.{Outgoing}
use Rattle.chassis_model.proofs.Moves.{due_message}
use Rattle.chassis_model.proofs.MadeSteps.{as_sent, log_with, state_made, log_made, made_shows}
use Rattle.chassis_model.proofs.DeliveredSteps.{due_stands, state_delivered, delivered_shows}

-- ---- messages end in their log

pub front_within : (log : List ℕ) → front_length version_2 log ≤ length log
unfolding front_length
front_within log =
    by_test (leb (called_length version_2 log) (length log) && reads version_2 (take (called_length version_2 log) log))
    (λ e. rw e (leb-true (called_length version_2 log) (length log) (and_left (leb (called_length version_2 log) (length log)) _ e)))
    (λ e. rw e (omega arith))

pub ends_within : (n : ℕ) (log : List ℕ) → end_of n log ≤ length log
unfolding end_of
ends_within zero log = omega arith
ends_within (suc n) log =
    let rest = ends_within n (drop (front_length version_2 log) log) in
    let long = length-drop (front_length version_2 log) log in
    let front = front_within log in
    omega arith

-- of the messages that i has received from s
abbrev pub ends_in : ℕ → ℕ → ℕ → State → ℕ → ℕ → ℕ
ends_in r k L st i s = end_of (N_at r k L st i s) (log_of r k L st s)

-- ---- N, where card i has taken a message of card s

module _ (i s : ℕ) (m : Message) (replicas : ℕ → Replica) where
  N_here : (put i (taken s m (replicas i)) replicas i).N s ≡ suc ((replicas i).N s)
  N_here = simp (put_same, taken_N)

  N_there : (j t : ℕ) → (j ≡ i → t ≡ s → ⊥) → (put i (taken s m (replicas i)) replicas j).N t ≡ (replicas j).N t
  N_there j t d =
      by_place j i
      (λ e. by_place t s (λ f. absurd (d e f)) (λ f. rw e (simp (put_same, taken_N, put_other))))
      (λ e. simp put_other)

-- ---- a message goes to the end of a log

module _ (log : List ℕ) (ms : List wire.Message) (on : Holds log ms) (readable : AllReadable ms) (x : wire.Message) (good : Readable x) (n : ℕ) (all : n ≡ length ms) where
  end_more : end_of (suc n) (written (end_of n log) x log) ≡ end_of n log + message_length x
  end_more = rw all (end_moves ms on.rest log on.bytes readable x good)

  end_same : (n' : ℕ) → n' ≤ n → end_of n' (written (end_of n log) x log) ≡ end_of n' log
  end_same n' l = let l' : n' ≤ length ms = omega arith in rw all (ends_stay ms on.rest log on.bytes readable x good n' l')

-- ---- a message made by card i

module _ {r k L : ℕ} (now : RunAt r k L) (i : ℕ) (hi : i < r) (m : Message) (goes : Outgoing r k i (words_in now i) m)
    (room : message_length (as_sent now i m) ≤ length (room_in now i)) where
  own_all : N_in now i i ≡ length (wire_log i (now.chassis.log i))
  own_all = own_N (run_cards now) i hi ∙ sym (length_numbered i 0 (now.chassis.log i))

  N_made_here : N_at r k L (state_made now i m) i i ≡ suc (N_in now i i)
  unfolding issued
  N_made_here =
      ((made_shows now i hi m goes).shows i hi).Ns i hi ∙ N_here i i m now.chassis.replica ∙ ap suc (sym (reached_N (run_cards now) i i hi hi))

  N_made_there : (j t : ℕ) → j < r → t < r → (j ≡ i → t ≡ i → ⊥) → N_at r k L (state_made now i m) j t ≡ N_in now j t
  unfolding issued
  N_made_there j t hj ht d =
      ((made_shows now i hi m goes).shows j hj).Ns t ht ∙ N_there i i m now.chassis.replica j t d ∙ sym (reached_N (run_cards now) j t hj ht)

  log_here : log_of r k L (state_made now i m) i ≡ log_with now i m
  log_here = log_made now i hi m goes room i ∙ put_same i _ (log_in now)

  log_there : (t : ℕ) → (t ≡ i → ⊥) → log_of r k L (state_made now i m) t ≡ log_in now t
  log_there t d = log_made now i hi m goes room t ∙ put_other i _ (log_in now) t d

  -- what a card has received is no more than i had made
  received_before : (j : ℕ) → j < r → N_in now j i ≤ N_in now i i
  received_before j hj =
      rw (reached_N (run_cards now) j i hj hi, own_N (run_cards now) i hi) (received_few (run_cards now) j i)

  pub end_made : ends_in r k L (state_made now i m) i i ≡ ends_in r k L now.state i i + message_length (as_sent now i m)
  end_made =
      rw (N_made_here, log_here)
      (end_more (log_in now i) (wire_log i (now.chassis.log i)) (now.matches.holds i hi) (now.matches.cards.cards_show.readable i hi) (as_sent now i m) goes.readable (N_in now i i) own_all)

  pub ends_made : (j t : ℕ) → j < r → t < r → (j ≡ i → t ≡ i → ⊥) → ends_in r k L (state_made now i m) j t ≡ ends_in r k L now.state j t
  ends_made j t hj ht d =
      rw (N_made_there j t hj ht d)
      (by_place t i
      (λ e. rw (e, log_here)
      (end_same (log_in now i) (wire_log i (now.chassis.log i)) (now.matches.holds i hi) (now.matches.cards.cards_show.readable i hi) (as_sent now i m) goes.readable (N_in now i i) own_all
      (N_in now j i) (received_before j hj)))
      (λ f. rw (log_there t f)))

-- ---- a message of card s handed over to card i

module _ {r k L : ℕ} (now : RunAt r k L) (i s : ℕ) (hi : i < r) (hs : s < r)
    (waits : N_in now i s < N_in now s s) (apart : i ≡ s → ⊥) where
  N_delivered_here : N_at r k L (state_delivered now i s) i s ≡ suc (N_in now i s)
  unfolding protocol.delivered
  N_delivered_here =
      ((delivered_shows now i s hi hs waits apart).shows i hi).Ns s hs ∙ N_here i s (due_message now.chassis i s) now.chassis.replica
      ∙ ap suc (sym (reached_N (run_cards now) i s hi hs))

  N_delivered_there : (j t : ℕ) → j < r → t < r → (j ≡ i → t ≡ s → ⊥) → N_at r k L (state_delivered now i s) j t ≡ N_in now j t
  unfolding protocol.delivered
  N_delivered_there j t hj ht d =
      ((delivered_shows now i s hi hs waits apart).shows j hj).Ns t ht ∙ N_there i s (due_message now.chassis i s) now.chassis.replica j t d
      ∙ sym (reached_N (run_cards now) j t hj ht)

  pub end_delivered : ends_in r k L (state_delivered now i s) i s
      ≡ ends_in r k L now.state i s + message_length (on_wire s (N_in now i s + 1) (due_message now.chassis i s))
  end_delivered = rw N_delivered_here (due_stands now i s hi hs waits).next

  pub ends_delivered : (j t : ℕ) → j < r → t < r → (j ≡ i → t ≡ s → ⊥)
      → ends_in r k L (state_delivered now i s) j t ≡ ends_in r k L now.state j t
  ends_delivered j t hj ht d = rw (N_delivered_there j t hj ht d)
