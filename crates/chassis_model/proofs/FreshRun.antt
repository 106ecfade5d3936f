-- LAWS. The state in which a run begins: all replicas fresh, whatever the logs hold. It is the fresh chassis, with empty ledgers.
use Prim.Native.Nat.{ℕ, zero, suc, ◌+◌, ◌*◌, ◌≤◌, ◌<◌}
use Rattle.std.specs.Prelude.{◌≡◌, refl, List, [], ◌++◌}
use Rattle.std.proofs.Common.{◌∙◌, take_all, drop_at}
use Rattle.std.proofs.Math.Nat.{suc-mul}
use native.Mathlib.Omega.{arith}
use Rattle.std.proofs.Math.ListN.{length, length-append}
use Rattle.protocol.proofs.Cases.{by_place}
use Rattle.protocol.specs.Ledger.{empty_ledger}
use Rattle.protocol.specs.Chassis.{fresh_chassis}
use Rattle.protocol.specs.Limits.{MAX}
use Rattle.protocol.proofs.OwnBounded.{fresh_bounded}
use Rattle.protocol.proofs.Theorem.{fresh_invariant}
use Rattle.wire.specs.Message.{log_bytes}
use Rattle.replica_model.specs.Layout.{replica_length, fresh_words}
use Rattle.replica_model.proofs.FreshReplica.{fresh_row}
use Rattle.replica_model.proofs.LayoutLaws.{fresh_shows}
use Rattle.chassis_model.specs.ListParts.{part}
use Rattle.chassis_model.proofs.ListPartsLaws.{part_room, part_front}
use Rattle.chassis_model.specs.Run.{replica_of, log_of, fresh_replicas}
use Rattle.chassis_model.proofs.Numbered.{numbered, wire_log}
pub use Rattle.chassis_model.specs.Answers.{fresh_state}
use Rattle.chassis_model.proofs.InStep.{Sizes, Heads, CardsShow}
use Rattle.chassis_model.proofs.Matches.{Holds, Matches}
use Rattle.chassis_model.proofs.Moves.{cards_show_same}

-- ---- the parts of the fresh words

module _ (r k : ℕ) where
  pub fresh_length : (n : ℕ) → length (fresh_replicas r k n) ≡ n * replica_length r k
  unfolding fresh_replicas
  fresh_length zero = omega arith
  fresh_length (suc n) =
      length-append (fresh_replicas r k n) (fresh_words r k n) ∙ omega (arith, fresh_length n, (fresh_shows r k n).fits.long, suc-mul n (replica_length r k))

  -- the last of n + 1 parts
  last_part : (n : ℕ) → part (replica_length r k) (fresh_replicas r k n ++ fresh_words r k n) n ≡ fresh_words r k n
  unfolding part
  last_part n =
      rw (drop_at (fresh_replicas r k n) (fresh_words r k n) (n * replica_length r k) (fresh_length n))
      (take_all (replica_length r k) (fresh_words r k n) (let e = (fresh_shows r k n).fits.long in omega arith))

  fresh_part : (n i : ℕ) → i < n → part (replica_length r k) (fresh_replicas r k n) i ≡ fresh_words r k i
  unfolding fresh_replicas
  fresh_part zero i l = absurd (omega arith)
  fresh_part (suc n) i l =
      by_place i n
      (λ e. rw e (last_part n))
      (λ d.
      let m : i < n = omega arith in
      let room : i * replica_length r k + replica_length r k ≤ length (fresh_replicas r k n) = rw (fresh_length n) (part_room i n (replica_length r k) m) in
      part_front (replica_length r k) i (fresh_replicas r k n) (fresh_words r k n) room ∙ fresh_part n i m)

-- ---- the state

fresh_heads : (r k i : ℕ) → Heads r k i (fresh_words r k i)
unfolding fresh_words
fresh_heads r k i = record { cards_are = refl; counters_are = refl; own_is = refl }

-- a log in which nothing was written
fresh_holds : (j : ℕ) (log : List ℕ) → Holds log (wire_log j [])
unfolding numbered log_bytes
fresh_holds j log = record { rest = log; bytes = refl }

pub fresh_cards_show : (r k : ℕ) → CardsShow r k (fresh_words r k) fresh_chassis
unfolding numbered
fresh_cards_show r k = record {
  heads = λ i l. fresh_heads r k i;
  shows = λ i l. fresh_shows r k i;
  marked = λ i q l hq. (fresh_row r k i q l hq).marked;
  readable = λ j l n m. absurd (omega arith);
  sendable = λ j l n m. absurd (omega arith);
  own = fresh_bounded MAX;
}

pub fresh_matches : (r k L : ℕ) (logs : List ℕ) → Sizes r k → length logs ≡ r * L
    → Matches r k L (fresh_state r k L logs) fresh_chassis (λ q. empty_ledger)
fresh_matches r k L logs z fits = record {
  words_fit = fresh_length r k r;
  logs_fit = fits;
  cards = record {
    sizes = z;
    cards_show = cards_show_same r k (fresh_words r k) (replica_of r k L (fresh_state r k L logs)) fresh_chassis (λ i l. fresh_part r k r i l) (fresh_cards_show r k);
    invariants = λ q. fresh_invariant r q;
  };
  holds = λ j l. fresh_holds j (log_of r k L (fresh_state r k L logs) j);
}
