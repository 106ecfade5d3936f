-- CLAIMS. What a clear takes: what its card had seen, all of that, and for good. A clear that took counts that its card had not seen, or a cleared count
-- that came back, would give one partition's bandwidth to another. Claims on the ledger; by `Claims.ledger_theorem` they are about what cards read.
-- r, q, os, `after_run` and `ledger_after` are those of `Claims`; `Cleared` has the definition, `ClearedExamples` small lists.
use Rattle.std.specs.Prelude.{ℕ, ◌≡◌, true, false, ◌||◌, List, ◌++◌}
use Rattle.protocol.proofs.Cases.{not_yes}
use Rattle.protocol.specs.Names.{Name, has}
use Rattle.protocol.specs.Ledger.{clear, clear_names, after_accepted, ledger_value}
use Rattle.protocol.specs.Chassis.{Offer}
use Rattle.protocol.specs.Runs.{after_run, ledger_after}
use Rattle.protocol.proofs.Theorem.{run_invariant}
use Rattle.protocol.specs.Cleared.{ClearedBySeer}
use Rattle.protocol.proofs.ClearedLaws.{was_cleared, is_cleared, stays_cancelled, clear_message_seen, clear_cancelled, clear_received, clear_value, clear_others}

-- No increment is cancelled on any card unless a card that had received it cleared its counter.
pub cancelled_was_cleared : (r q i : ℕ) (os : List Offer) (n : Name) → has ((ledger_after r q os).cancelled i) n ≡ true → ClearedBySeer r q os n
cancelled_was_cleared = was_cleared

-- An increment that no clearing card had received when it cleared is counted on every card that has received it.
pub unseen_is_untouched : (r q i : ℕ) (os : List Offer) (n : Name) → has ((ledger_after r q os).received i) n ≡ true → (ClearedBySeer r q os n → ⊥)
    → has ((ledger_after r q os).cancelled i) n ≡ false
unseen_is_untouched r q i os n received unseen = not_yes (has ((ledger_after r q os).cancelled i) n) (λ c. unseen (cancelled_was_cleared r q i os n c))

-- A clear: its message cancels only what its card had received or had cancelled;
-- on its own card there is cancelled exactly what was cancelled there before and what was received,
-- nothing else is received there, and the value there is 0;
-- and no other card's sets move until the message comes.
pub clear_cancels_seen : (r q i : ℕ) (os : List Offer)
    → let l = ledger_after r q os in
    let l' = after_accepted r q (clear i q) l in
    ((n : Name) → has (clear_names r i l) n ≡ true → has (l.received i) n || has (l.cancelled i) n ≡ true)
    × ((n : Name) → has (l'.cancelled i) n ≡ has (l.cancelled i) n || has (l.received i) n)
    × (l'.received i ≡ l.received i)
    × (ledger_value i l' ≡ 0)
    × ((j : ℕ) → (j ≡ i → ⊥) → (l'.received j ≡ l.received j) × (l'.cancelled j ≡ l.cancelled j))
clear_cancels_seen r q i os =
    let st = after_run r os in
    let l = ledger_after r q os in
    let ok = run_invariant r q os in
    (clear_message_seen r q st l ok i, clear_cancelled r q st l ok i, clear_received r q st l ok i, clear_value r q st l ok i, clear_others r q st l ok i)

-- A cleared increment does not come back: on the card that cleared it is cancelled from then on,
pub cleared_is_cancelled : (r q : ℕ) (os : List Offer) (n : Name) (w : ClearedBySeer r q os n) → has ((ledger_after r q os).cancelled w.card) n ≡ true
cleared_is_cancelled = is_cleared

-- and what is cancelled on a card, before or after it comes there, stays cancelled, whatever steps follow.
pub cancelled_stays : (r q i : ℕ) (os os' : List Offer) (n : Name) → has ((ledger_after r q os).cancelled i) n ≡ true
    → has ((ledger_after r q (os ++ os')).cancelled i) n ≡ true
cancelled_stays = stays_cancelled
