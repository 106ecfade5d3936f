-- LAWS. Where every increment of every log is by one, no card has counted more of any card than it has messages of it: C is at most N.
use Rattle.std.specs.Prelude.{ℕ, zero, suc, ◌≤◌, ◌<◌, ◌≡◌, List, length, get_or}
use Rattle.std.proofs.Common.{arith}
use Rattle.std.proofs.lemmas.List.{length-map}
use Rattle.std.proofs.Math.ListN.{get_or-map}
use Rattle.protocol.proofs.Cases.{by_place}
use Rattle.protocol.proofs.Tables.{put_at, put_other}
use Rattle.protocol.proofs.Lists.{places_more}
use Rattle.protocol.specs.Ledger.{Ledger}
use Rattle.protocol.specs.Chassis.{Message, increment, clearing, no_message, Chassis, fresh_chassis, issued, units_of}
use Rattle.protocol.proofs.Chain.{Note, no_note, wire, mark_from, mark_at, mark_suc}
use Rattle.protocol.proofs.Refusals.{after_units}
use Rattle.protocol.proofs.Theorem.{Invariant}

-- an increment by one, or a clear
abbrev pub Single : Message → Type 0
Single (increment q w p start) = w ≡ 1
Single (clearing q es) = Unit {0}

pub single_units : (m : Message) → Single m → units_of m ≤ 1
single_units (increment q w p start) one = omega arith
single_units (clearing q es) one = omega arith

-- every message of every log is
abbrev pub Singles : Chassis → Type 0
Singles ch = (j n : ℕ) → n < length (ch.log j) → Single (get_or (ch.log j) n no_message)

pub fresh_singles : Singles fresh_chassis
fresh_singles j n l = absurd (omega arith)

pub issued_singles : (i : ℕ) (m : Message) (ch : Chassis) → Single m → Singles ch → Singles (issued i m ch)
unfolding issued
issued_singles i m ch one all j n =
    by_place j i (λ e. simp put_at (places_more Single no_message (ch.log i) m (all i) one n)) (λ d. simp put_other (all j n))

-- ---- C is at most N

units≤count : (q : ℕ) (h : List Note) → ((n : ℕ) → n < length h → units_of (wire q (get_or h n no_note)) ≤ 1) → (n : ℕ) → n ≤ length h → (mark_at n h).units ≤ n
unfolding mark_from
units≤count q h ones zero l = omega arith
units≤count q h ones (suc n) l =
    rw (mark_suc n h l, after_units q (get_or h n no_note) (mark_at n h))
    (let a = units≤count q h ones n (omega arith) in let b = ones n l in omega arith)

module _ (r q : ℕ) (ch : Chassis) (l : Ledger) (k : Invariant r q ch l) (all : Singles ch) where
  note_single : (j n : ℕ) → n < length (k.notes j) → units_of (wire q (get_or (k.notes j) n no_note)) ≤ 1
  note_single j n below =
      let long : n < length (ch.log j) = rw (k.logs j, length-map (k.notes j) (wire q)) below in
      let is : get_or (ch.log j) n no_message ≡ wire q (get_or (k.notes j) n no_note) = rw (k.logs j) (get_or-map (wire q) (k.notes j) n no_note) in
      rw (← is) (single_units (get_or (ch.log j) n no_message) (all j n long))

  pub C≤N : (i j : ℕ) → (ch.replica i).C j ≤ (ch.replica i).N j
  C≤N i j =
      rw ((k.cards i).pairs j).C_is
      (units≤count q (k.notes j) (note_single j) ((ch.replica i).N j) ((k.cards i).pairs j).within)
