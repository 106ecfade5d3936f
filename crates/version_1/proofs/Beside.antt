-- LAWS. A chassis of old and new cards beside the theory's chassis and ledgers: the words are in step with them, every message is by one, and each log is the bytes of
-- its card's messages in the card's version. So by the rules of version 1 every row is well-formed.
use Rattle.std.specs.Prelude.{ℕ, suc, ◌≤◌, ◌<◌, ◌≡◌, refl, Bool, true, List}
use Rattle.std.proofs.Common.{ap, ◌∙◌, arith}
use Rattle.protocol.proofs.Cases.{by_le, by_test}
use Rattle.protocol.specs.Ledger.{Ledger, empty_ledger}
use Rattle.protocol.specs.Chassis as protocol
use Rattle.protocol.specs.Chassis.{fresh_chassis}
use Rattle.protocol.proofs.Links.{outside_log}
use Rattle.protocol.proofs.Theorem.{fresh_invariant}
use Rattle.wire.specs.Message.{version_1, version_2, is_version, log_bytes, is_log}
use Rattle.replica_model.specs.Layout.{cards, C_of, N_of, fresh_words}
use Rattle.chassis_model.proofs.LogLaws.{AllReadable}
use Rattle.chassis_model.proofs.Numbered.{numbered, wire_log}
use Rattle.chassis_model.proofs.InStep.{Sizes, InStep, CardsAt, reached_row}
use Rattle.chassis_model.proofs.FreshRun.{fresh_cards_show}
use Rattle.version_1.specs.Rules as rules
use Rattle.version_1.specs.Run.{Chassis, fresh, version_of, with_converted_logs}
use Rattle.version_1.proofs.Singles.{Singles, fresh_singles, C≤N}
use Rattle.version_1.proofs.OldRules.{row_from_today}
use Rattle.version_1.proofs.OldLogs.{log_in, today_log, is_log_in, log_converts}

pub is_version_of : (is_old : ℕ → Bool) (i : ℕ) → is_version (version_of is_old i) ≡ true
is_version_of is_old i = by_test (is_old i) (λ t. rw t) (λ f. rw f)

module _ (is_old : ℕ → Bool) where
  pub record Beside (r k : ℕ) (st : Chassis) : Type 0 where
    pub chassis : protocol.Chassis
    pub ledgers : ℕ → Ledger
    pub in_step : InStep r k st.words chassis ledgers
    pub singles : Singles chassis
    pub logs_are : (j : ℕ) → st.logs j ≡ log_bytes (log_in (version_of is_old j) j (chassis.log j))
    -- a card that is not there is as it was
    pub not_there : (i : ℕ) → r ≤ i → st.words i ≡ fresh_words r k i

abbrev pub cards_beside : {is_old : ℕ → Bool} {r k : ℕ} {st : Chassis} → Beside is_old r k st → CardsAt r k
cards_beside {st = st} now = record { replicas = st.words; chassis = now.chassis; ledgers = now.ledgers; in_step = now.in_step }

-- ---- at the beginning

pub fresh_beside : (is_old : ℕ → Bool) (r k : ℕ) → Sizes r k → Beside is_old r k (fresh r k)
unfolding numbered log_bytes
fresh_beside is_old r k z = record {
  chassis = fresh_chassis;
  ledgers = λ q. empty_ledger;
  in_step = record { sizes = z; cards_show = fresh_cards_show r k; invariants = λ q. fresh_invariant r q };
  singles = fresh_singles;
  logs_are = λ j. refl;
  not_there = λ i far. refl;
}

-- ---- what is known of it

module _ {is_old : ℕ → Bool} {r k : ℕ} {st : Chassis} (now : Beside is_old r k st) where
  -- the messages of every log can be read again; a card that is not there has made none
  pub all_readable : (j : ℕ) → AllReadable (wire_log j (now.chassis.log j))
  unfolding numbered
  all_readable j =
      by_le (suc j) r
      (λ l. now.in_step.cards_show.readable j l)
      (λ l. rw (outside_log r 0 now.chassis (now.ledgers 0) (now.in_step.invariants 0) j (omega arith)) (λ n m. absurd (omega arith)))

  -- each log is one of its card's version, and in version 2 it is that of today
  pub log_is : (j : ℕ) → is_log (version_of is_old j) (st.logs j) ≡ true
  log_is j = rw (now.logs_are j) (is_log_in j (now.chassis.log j) (all_readable j) (now.singles j) (version_of is_old j) (is_version_of is_old j))

  pub converts : (j : ℕ) → (with_converted_logs is_old st).logs j ≡ log_bytes (wire_log j (now.chassis.log j))
  converts j =
      let ms = now.chassis.log j in
      let today = today_log j ms (all_readable j) (now.singles j) in
      by_test (is_old j)
      (λ t. rw (now.logs_are j, t) (log_converts j ms (all_readable j) (now.singles j) version_1 refl version_2 ∙ ap log_bytes today))
      (λ f. rw (now.logs_are j, f) (ap log_bytes today))

  module _ (i : ℕ) (hi : i < r) where
    abbrev b : List ℕ
    b = st.words i

    pub C≤N_in_words : (j : ℕ) → j < cards b → C_of b j ≤ N_of (cards b) b j
    C≤N_in_words j l =
        let is = (now.in_step.cards_show.heads i hi).cards_are in
        let l₁ : j < r = rw is at l in
        let shown = now.in_step.cards_show.shows i hi in
        rw (is, shown.Cs j l₁, shown.Ns j l₁) (C≤N r 0 now.chassis (now.ledgers 0) (now.in_step.invariants 0) now.singles i j)

    pub old_row : (q : ℕ) → q < k → rules.row_well_formed b q ≡ true
    old_row q hq = row_from_today b q (reached_row (cards_beside now) i q hi hq) C≤N_in_words
