-- LAWS. The active counters on words of a run of the theory (`TheoryRun`): the replica is right and every row is well-formed, so the word is what reading every row finds;
-- and a row has an entry exactly where the counter's ledger has a holding card.
use Rattle.std.specs.Prelude.{ℕ, ◌<◌, ◌≡◌, not, ◌&&◌, List, eqb}
use Rattle.std.proofs.Common.{sym, ap, ◌∙◌}
use Rattle.protocol.specs.Functions.{any_below}
use Rattle.protocol.proofs.BitLaws.{bits_are, any_cong}
use Rattle.protocol.specs.Ledger.{Step, Ledger, holds}
use Rattle.replica_model.specs.Layout.{counters, active_word, active_of}
use Rattle.replica_model.specs.Calls.{is_quiet, read_on}
use Rattle.replica_model.proofs.CallsLaws.{read_accepted}
use Rattle.replica_model.proofs.ActiveLaws.{Sound, bit_read, sound_read, sound_answers}
use Rattle.chassis_model.proofs.InStep.{CardsAt, cards_at, reached_right, reached_row}
use Rattle.chassis_model.proofs.ReadsOfReplicas.{holding_there}
use Rattle.chassis_model.proofs.Offers.{ledgers_told, TheoryRun}
use Rattle.chassis_model.specs.ActiveOf.{ledger_active, ActiveAre}

module _ {r k : ℕ} {steps : List Step} {numbers : List ℕ} {replicas : ℕ → List ℕ} (t : TheoryRun r k steps numbers replicas) (i : ℕ) (hi : i < r) where
  abbrev now : CardsAt r k
  now = cards_at t.cards

  abbrev ledgers : ℕ → Ledger
  ledgers = ledgers_told r steps numbers

  counters_are : counters (replicas i) ≡ k
  counters_are = (t.cards.cards_show.heads i hi).counters_are

  -- the replica is right, and every row well-formed
  sound : Sound (replicas i)
  sound = record { whole = reached_right now i hi; rows = λ q l. reached_row now i q hi (rw counters_are at l) }

  -- a bit says whether the ledger has a holding card
  bit_held : (q : ℕ) → q < k → active_of (replicas i) q ≡ any_below r (λ j. holds i j (ledgers q))
  bit_held q hq =
      rw (t.cards.cards_show.heads i hi).cards_are at (t.cards.cards_show.marked i q hi hq)
      ∙ any_cong r _ (λ j. holds i j (ledgers q)) (holding_there now i q hi hq)

  word_held : active_word (replicas i) ≡ ledger_active r k i ledgers
  unfolding ledger_active
  word_held = bits_are (active_word (replicas i)) k _ (t.cards.cards_show.shows i hi).fits.low bit_held

  -- and so whether the counter is quiet
  bit_quiet : (q : ℕ) → q < counters (replicas i) → active_of (replicas i) q ≡ not (is_quiet (read_on (replicas i) q))
  bit_quiet q l =
      bit_read (replicas i) q sound.whole l (sound.rows q l)
      ∙ ap (λ (n : ℕ). not (eqb n 0 && eqb (read_on (replicas i) q).holders 0)) (sym (read_accepted (replicas i) q sound.whole l (sound.rows q l)))

  pub active_are : ActiveAre r k i (replicas i) ledgers
  active_are = record {
    answered = sound_answers (replicas i) sound;
    held = sym (sound_read (replicas i) sound) ∙ word_held;
    not_quiet = λ q hq. bit_quiet q (rw counters_are hq);
  }
