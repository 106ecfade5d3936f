-- LAWS. Every run of old and new cards stays beside the theory's chassis, so the logs of version 1 convert; and deliveries behind it, from its logs by version 1's rules or from the
-- converted ones by the rules of today, leave the same words and answer the same numbers.
use Rattle.std.specs.Prelude.{ℕ, ◌≤◌, ◌≡◌, refl, Bool, true, false, List, [], ◌∷◌, length, ltb}
use Rattle.std.proofs.Common.{sym, ap, ap₂, ◌∙◌, ltb-true}
use Rattle.protocol.proofs.Cases.{by_test}
use Rattle.protocol.specs.Checks.{first_failing}
use Rattle.protocol.specs.RoundRobin.{Link}
use Rattle.wire.specs.Message.{version_1, version_2, increment_length, clear_length, log_bytes}
use Rattle.conversion.specs.Conversion.{converted, converted_into, to_version_2_on, to_version_1_on}
use Rattle.conversion.proofs.ConversionLaws.{up_does, down_does}
use Rattle.replica_model.specs.Calls as today
use Rattle.replica_model.specs.Calls.{sizes_in_range, holders}
use Rattle.replica_model.proofs.RowLaws.{sizes}
use Rattle.chassis_model.proofs.Numbered.{wire_log}
use Rattle.version_1.specs.Rules as rules
use Rattle.version_1.specs.Run.{Step, count, clear, deliver, Chassis, Stepped, fresh, making_checks, link_checks, delivered, after_deliveries, delivery_numbers, version_of, take_on, step_on, after_steps, with_converted_logs, all_old, after_run, deliver_steps, by_old_rules, old_numbers, by_new_rules, new_numbers}
use Rattle.version_1.proofs.OldLogs.{today_log, log_by_one}
use Rattle.version_1.proofs.Beside.{Beside, fresh_beside, all_readable, log_is, converts}
use Rattle.version_1.proofs.DeliveredBeside.{with_logs, after_taken, waiting_bytes, old_taken, new_taken, taken, taken_beside, taken_logs, Takes, delivery_cases, delivery_number}
use Rattle.version_1.proofs.MadeNumbers.{count_number, clear_number}
use Rattle.version_1.proofs.StepBeside.{step_beside}

-- ---- every run is beside the theory's chassis

steps_beside : (is_old : ℕ → Bool) (r k L : ℕ) (steps : List Step) (st : Chassis) → Beside is_old r k st → Beside is_old r k (after_steps is_old r L steps st)
unfolding after_steps
steps_beside is_old r k L [] st now = now
steps_beside is_old r k L (s ∷ ss) st now = steps_beside is_old r k L ss (step_on is_old r L s st).chassis (step_beside now L s)

run_beside : (is_old : ℕ → Bool) (r k L : ℕ) → sizes_in_range r k ≡ true → (steps : List Step) → Beside is_old r k (after_steps is_old r L steps (fresh r k))
run_beside is_old r k L fits steps = steps_beside is_old r k L steps _ (fresh_beside is_old r k (sizes r k fits))

-- ---- its logs convert

pub logs_convert : (is_old : ℕ → Bool) (r k L : ℕ) → sizes_in_range r k ≡ true → (steps : List Step) (i : ℕ) (out : List ℕ)
    → let log = (after_steps is_old r L steps (fresh r k)).logs i in
    (is_old i ≡ true → length (converted version_1 version_2 log) ≤ length out → to_version_2_on log out ≡ converted_into version_1 version_2 log out)
    × (is_old i ≡ false → length (converted version_2 version_1 log) ≤ length out → to_version_1_on log out ≡ converted_into version_2 version_1 log out)
logs_convert is_old r k L fits steps i out =
    let now = run_beside is_old r k L fits steps in
    let log = (after_steps is_old r L steps (fresh r k)).logs i in (
      (λ old room. up_does log out (rw old at (log_is now i)) room),
      (λ new room.
          let is = rw new at (converts now i) in
          let one = rw (← is) at (log_by_one i (now.chassis.log i) (all_readable now i) (now.singles i)) in
          down_does log out (rw new at (log_is now i)) one room),
    )

-- ---- deliveries behind it

-- by version 1's rules from st, and by those of today from st'
record SameAfter (r : ℕ) (links : List Link) (st st' : Chassis) : Type 0 where
  words : (after_deliveries version_1 rules.take_on r links st).words ≡ (after_deliveries version_2 today.take_on r links st').words
  numbers : delivery_numbers version_1 rules.take_on r links st ≡ delivery_numbers version_2 today.take_on r links st'

-- the logs of today, of the messages that a chassis is beside
abbrev New : {r k : ℕ} {st : Chassis} → Beside all_old r k st → (ℕ → List ℕ) → Type 0
New now logs = (j : ℕ) → logs j ≡ log_bytes (wire_log j (now.chassis.log j))

-- both take what waits
module _ {r k : ℕ} {st : Chassis} (now : Beside all_old r k st) (i s : ℕ) where
  old_takes : Takes now i s version_1 rules.take_on st.logs
  old_takes linked waits = rw (waiting_bytes now i s linked waits version_1 refl st.logs (now.logs_are s)) (old_taken now i s linked waits)

  new_takes : (logs : ℕ → List ℕ) → logs s ≡ log_bytes (wire_log s (now.chassis.log s)) → Takes now i s version_2 today.take_on logs
  new_takes logs are linked waits =
      let today = today_log s (now.chassis.log s) (all_readable now s) (now.singles s) in
      rw (waiting_bytes now i s linked waits version_2 refl logs (are ∙ ap log_bytes (sym today))) (new_taken now i s linked waits)

-- one delivery by each, and what comes behind it
record SameFrom (r : ℕ) (links : List Link) (x y : Stepped) : Type 0 where
  number : x.number ≡ y.number
  behind : SameAfter r links x.chassis y.chassis

one_same : (r k : ℕ) (l : Link) (links : List Link) (st : Chassis) (now : Beside all_old r k st) (logs : ℕ → List ℕ) → New now logs
    → ((st' : Chassis) (next : Beside all_old r k st') → New next logs → SameAfter r links st' (with_logs st' logs)) → SameAfter r (l ∷ links) st (with_logs st logs)
unfolding after_deliveries delivery_numbers
one_same r k l links st now logs are rest =
    let i = l.receiver in
    let s = l.sender in
    let both = delivery_cases now i s version_1 version_2 rules.take_on today.take_on st.logs logs (old_takes now i s) (new_takes now i s logs (are s)) (SameFrom r links)
    (λ n _. record { number = refl; behind = rest st now are })
    (λ linked waits. record {
      number = refl;
      behind = rest (after_taken now i s) (taken_beside now i s linked waits) (λ j. rw (taken_logs now i s linked waits) (are j));
    }) in
    record { words = both.behind.words; numbers = ap₂ (λ (n : ℕ) (ns : List ℕ). n ∷ ns) both.number both.behind.numbers }

all_same : (r k : ℕ) (links : List Link) (logs : ℕ → List ℕ) (st : Chassis) (now : Beside all_old r k st) → New now logs → SameAfter r links st (with_logs st logs)
unfolding after_deliveries delivery_numbers
all_same r k [] logs st now are = record { words = refl; numbers = refl }
all_same r k (l ∷ links) logs st now are = one_same r k l links st now logs are (all_same r k links logs)

run_same : (r k L : ℕ) → sizes_in_range r k ≡ true → (steps : List Step) (links : List Link)
    → let st = after_run r k L steps in SameAfter r links st (with_converted_logs all_old st)
run_same r k L fits steps links =
    let now = run_beside all_old r k L fits steps in all_same r k links (with_converted_logs all_old (after_run r k L steps)).logs (after_run r k L steps) now (converts now)

pub same_replicas : (r k L : ℕ) → sizes_in_range r k ≡ true → (steps : List Step) (links : List Link)
    → let st = after_run r k L steps in
    (i : ℕ) → (by_old_rules r links st).words i ≡ (by_new_rules r links st).words i
same_replicas r k L fits steps links i = ap (λ (words : ℕ → List ℕ). words i) (run_same r k L fits steps links).words

pub same_numbers : (r k L : ℕ) → sizes_in_range r k ≡ true → (steps : List Step) (links : List Link)
    → let st = after_run r k L steps in old_numbers r links st ≡ new_numbers r links st
same_numbers r k L fits steps links = (run_same r k L fits steps links).numbers

pub old_deliveries_are_steps : (r L : ℕ) (links : List Link) (st : Chassis) → by_old_rules r links st ≡ after_steps all_old r L (deliver_steps links) st
unfolding after_deliveries after_steps step_on
old_deliveries_are_steps r L [] st = refl
old_deliveries_are_steps r L (l ∷ links) st = old_deliveries_are_steps r L links (delivered version_1 rules.take_on r l.receiver l.sender st).chassis

-- ---- what a step answers

pub making_exact : (is_old : ℕ → Bool) (r k L : ℕ) → sizes_in_range r k ≡ true → (steps : List Step)
    → let st = after_steps is_old r L steps (fresh r k) in
    (i q : ℕ) → ((step_on is_old r L (count i q) st).number ≡ first_failing (making_checks r k L i q (increment_length (version_of is_old i)) st))
    × ((step_on is_old r L (clear i q) st).number ≡ first_failing (making_checks r k L i q (clear_length (holders (st.words i) q)) st))
unfolding step_on
making_exact is_old r k L fits steps i q =
    let now = run_beside is_old r k L fits steps in
    by_test (ltb i r)
    (λ t. let hi = ltb-true i r t in rw t (count_number now i hi q L, clear_number now i hi q L))
    (λ t. rw t (refl, refl))

pub delivery_exact : (is_old : ℕ → Bool) (r k L : ℕ) → sizes_in_range r k ≡ true → (steps : List Step)
    → let st = after_steps is_old r L steps (fresh r k) in
    (i s : ℕ) → (step_on is_old r L (deliver i s) st).number ≡ first_failing (link_checks r i s st)
unfolding step_on
delivery_exact is_old r k L fits steps i s =
    let now = run_beside is_old r k L fits steps in delivery_number now i s (version_of is_old s) (take_on is_old s i) (taken now i s)
