-- CLAIMS. Whole isolation: to counter q, other counters might as well not exist. `alone r q os` are q's own steps of the list os: its accepted counts
-- and clears, and the accepted deliveries that handed over one of q's messages (`Alone`). No hypothesis is made on answers.
use Rattle.std.specs.Prelude.{ℕ, ◌≤◌, ◌≡◌, Bool, List, ◌++◌, map}
use Rattle.std.proofs.Common.{sym, ap, ◌∙◌}
use Rattle.protocol.specs.Entry.{present}
use Rattle.protocol.specs.Ledger.{Step, empty_ledger, after_steps}
use Rattle.protocol.specs.Chassis.{Message, fresh_chassis, Offer, answers, read_value, read_holders}
use Rattle.protocol.specs.Runs.{step_of, after_run, all_accepted}
use Rattle.protocol.proofs.Theorem.{ledger_theorem}
use Rattle.protocol.specs.Alone.{no_turns, own_steps, alone, accepted_of, messages_of, outline, room}
use Rattle.protocol.proofs.AloneLedgers.{beside_empty, own_after_steps, own_same, same_value, same_holders}
use Rattle.protocol.proofs.AloneTurns.{alone_is_accepted, accepted_append}
use Rattle.protocol.proofs.AloneRuns.{own_run, fresh_beside, same_present, same_read_value, same_read_holders, room_within}

-- q's own steps are those that the run accepts and that are counts or clears of q, or deliveries that hand over a message of q, as the chassis has it.
pub alone_is : (r q : ℕ) (os : List Offer) → alone r q os ≡ accepted_of r q os fresh_chassis
alone_is = alone_is_accepted

-- Those of a longer list begin with those of the shorter, so the claims below speak of every step of a list.
pub alone_append : (r q : ℕ) (os os' : List Offer) → alone r q (os ++ os') ≡ alone r q os ++ accepted_of r q os' (after_run r os)
alone_append r q os os' =
    alone_is_accepted r q (os ++ os')
    ∙ accepted_append r q os os' fresh_chassis
    ∙ ap (λ (own : List Offer). own ++ accepted_of r q os' (after_run r os)) (sym (alone_is_accepted r q os))

-- The ledger of q that is fed q's own steps, all of them accepted, has the same two sets at every card as the one that is fed the whole list,
-- whichever steps were accepted.
pub ledger_alone {ℓ} : {A : Type ℓ} (step : A → Step) (r q i : ℕ) (xs : List A) (flags : List Bool)
    → let own = own_steps step q xs flags no_turns in
    let l = after_steps r q (map step xs) flags empty_ledger in
    let l' = after_steps r q (map step own) (all_accepted own) empty_ledger in
    (l'.received i ≡ l.received i) × (l'.cancelled i ≡ l.cancelled i)
ledger_alone step r q i xs flags =
    let h = own_after_steps step r q xs flags no_turns empty_ledger empty_ledger (beside_empty q) in (h.received i, h.cancelled i)

-- WHOLE ISOLATION. A run of q's own steps alone accepts every one of them, and every card reads of q what it reads after the whole list.
pub whole_isolation : (r q : ℕ) (os : List Offer)
    → (answers r (alone r q os) fresh_chassis ≡ all_accepted (alone r q os))
    × ((i : ℕ) → read_value r q ((after_run r (alone r q os)).replica i) ≡ read_value r q ((after_run r os).replica i))
    × ((i : ℕ) → read_holders r q ((after_run r (alone r q os)).replica i) ≡ read_holders r q ((after_run r os).replica i))
whole_isolation r q os =
    let h = own_run r q os no_turns fresh_chassis empty_ledger fresh_chassis empty_ledger (fresh_beside r q) in (
      h.accepts,
      same_read_value r q _ _ _ _ _ h.ends.beside,
      same_read_holders r q _ _ _ _ _ h.ends.beside,
    )

-- So two lists with the same own steps of q, whatever else is in them and whatever was answered there, leave every card with the same read of q.
pub same_own_steps : (r q : ℕ) (os os' : List Offer) → map step_of (alone r q os) ≡ map step_of (alone r q os')
    → (i : ℕ)
    → (read_value r q ((after_run r os).replica i) ≡ read_value r q ((after_run r os').replica i))
    × (read_holders r q ((after_run r os).replica i) ≡ read_holders r q ((after_run r os').replica i))
same_own_steps r q os os' e i =
    let same = own_same step_of step_of r q os os' (answers r os fresh_chassis) (answers r os' fresh_chassis) e in
    let a = ledger_theorem r q i os in
    let b = ledger_theorem r q i os' in
    (a.value ∙ sym (same_value _ _ same i) ∙ sym b.value, a.holders ∙ sym (same_holders _ _ same r i) ∙ sym b.holders)

-- The same entries are present, so a clear has as many.
pub present_alone : (r q i j : ℕ) (os : List Offer)
    → present (((after_run r (alone r q os)).replica i).entry q j) ≡ present (((after_run r os).replica i).entry q j)
present_alone r q i j os =
    let h = own_run r q os no_turns fresh_chassis empty_ledger fresh_chassis empty_ledger (fresh_beside r q) in
    same_present r q _ _ _ _ _ h.ends.beside i j

-- Each card then sends the messages of q that it sends in the whole run, in that order: of the same kind, amount and start, and for the same cards.
pub messages_alone : (r q i : ℕ) (os : List Offer)
    → map outline ((after_run r (alone r q os)).log i) ≡ map outline (messages_of q ((after_run r os).log i))
messages_alone r q i os =
    let h = own_run r q os no_turns fresh_chassis empty_ledger fresh_chassis empty_ledger (fresh_beside r q) in h.ends.beside.logs i

-- So its log takes no more room than in the whole run, where the room that a message takes does not depend on its numbers p and c.
pub room_alone : (r q i : ℕ) (os : List Offer) (size : Message → ℕ) → ((m : Message) → size (outline m) ≡ size m)
    → room size ((after_run r (alone r q os)).log i) ≤ room size ((after_run r os).log i)
room_alone r q i os size same = room_within size same q _ _ (messages_alone r q i os)
