-- CLAIMS. What the ledger of a counter does when it is fed, whichever of the steps were accepted, and which counter a delivery belongs to. Each has the specification's
-- sentence, its statement, and the law that proves it. `after_steps r q ss flags empty_ledger` is counter q's ledger, fed the steps and told which were accepted.
use Rattle.std.specs.Prelude.{ℕ, suc, ◌+◌, ◌≡◌, refl, Bool, true, false, ◌||◌, List, [], ◌∷◌, map, eqb, drop}
use Rattle.std.proofs.Common.{sym}
use Rattle.protocol.specs.Names.{Name, name, has, names_after, latest}
use Rattle.protocol.specs.Ledger.{Step, count, Ledger, empty_ledger, belongs, after_accepted, after_step, after_steps, ledger_value, ledger_holders}
use Rattle.protocol.specs.Chassis.{Offer, enabled, counter_of}
use Rattle.protocol.specs.Runs.{after_run, ledger_after}
use Rattle.protocol.specs.Alone.{step_counter}
use Rattle.protocol.proofs.LedgerLaws.{after_steps_grows, other_after_step, same_value, same_holders}
use Rattle.protocol.proofs.NewNames.{new_to_all, maker_gains, others_stay, value_gains}
use Rattle.protocol.proofs.Links.{link_counters}
use Rattle.protocol.proofs.Theorem.{run_invariant}
use Rattle.protocol.proofs.AloneTurns.{belongs_to}

-- "join received", "join cancelled": no name ever leaves a set.
pub sets_only_grow : (r q : ℕ) (ss : List Step) (flags : List Bool) (l : Ledger) (i : ℕ) (n : Name)
    → (has (l.received i) n ≡ true → has ((after_steps r q ss flags l).received i) n ≡ true)
    × (has (l.cancelled i) n ≡ true → has ((after_steps r q ss flags l).cancelled i) n ≡ true)
sets_only_grow r q ss flags l i n = let h = after_steps_grows r q ss flags l in (h.received i n, h.cancelled i n)

-- "Count by i, of w: w new names, with one message." No card has one of the names of a count in either set, card i's received set gains just these, no other card's sets move, and the value at
-- card i rises by the amount.
pub count_adds_new_names : (r q i w : ℕ) (ss : List Step) (flags : List Bool)
    → let l = after_steps r q ss flags empty_ledger in
    let new = names_after i (latest i (l.received i)) w in
    let l' = after_accepted r q (count i q w) l in
    ((j : ℕ) (n : Name) → has new n ≡ true → (has (l.received j) n ≡ false) × (has (l.cancelled j) n ≡ false))
    × ((n : Name) → has (l'.received i) n ≡ has (l.received i) n || has new n)
    × ((j : ℕ) → (j ≡ i → ⊥) → (l'.received j ≡ l.received j) × (l'.cancelled j ≡ l.cancelled j))
    × (ledger_value i l' ≡ ledger_value i l + w)
count_adds_new_names r q i w ss flags =
    (new_to_all r q ss flags i w, maker_gains r q ss flags i w, others_stay r q ss flags i w, value_gains r q ss flags i w)

-- By 1, as in the specification, it is one name: card i's next.
pub one_new_name : (i earlier : ℕ) → names_after i earlier 1 ≡ name i (suc earlier) ∷ []
unfolding names_after
one_new_name i earlier = refl

-- "an accepted step of another counter changes only its queues.": the sets of every card stay as they are. A delivery that hands over a message of another counter
-- is such a step.
pub other_steps_leave : (r q : ℕ) (ss : List Step) (flags : List Bool) (s : Step) (a : Bool)
    → let l = after_steps r q ss flags empty_ledger in
    belongs q s l ≡ false → (i : ℕ) → ((after_step r q s a l).received i ≡ l.received i) × ((after_step r q s a l).cancelled i ≡ l.cancelled i)
other_steps_leave r q ss flags s a e i = let h = other_after_step r q ss flags s a e in (sym (h.received i), sym (h.cancelled i))

-- So its value and its holding cards are the same at every card.
pub other_steps_read : (r q : ℕ) (ss : List Step) (flags : List Bool) (s : Step) (a : Bool)
    → let l = after_steps r q ss flags empty_ledger in
    belongs q s l ≡ false
    → (i : ℕ) → (ledger_value i (after_step r q s a l) ≡ ledger_value i l) × ((r' : ℕ) → ledger_holders r' i (after_step r q s a l) ≡ ledger_holders r' i l)
other_steps_read r q ss flags s a e i =
    let h = other_after_step r q ss flags s a e in (sym (same_value _ _ h i), λ r'. sym (same_holders _ _ h r' i))

-- "a link hands over its sender's accepted counts and clears, of all counters, in the order made": after any list of steps, what the ledger's link from s to another
-- card i has still to hand over is of the counters of the messages that s has made and i has not received, one for one and in order.
pub turns_are_counters : (r q i s : ℕ) (os : List Offer) → (i ≡ s → ⊥)
    → map (λ it. it.counter) ((ledger_after r q os).queue s i) ≡ map counter_of (drop (((after_run r os).replica i).N s) ((after_run r os).log s))
turns_are_counters r q i s os apart = link_counters r q (after_run r os) (ledger_after r q os) (run_invariant r q os) i s apart

-- "the step belongs to the counter of the one whose turn it is.": after any list of steps, a step that is enabled belongs to counter q, as q's ledger has it, exactly if
-- it is a count or clear of q, or hands over a message of q, as the chassis has it.
pub belongs_to_its_counter : (r q : ℕ) (os : List Offer) (s : Step) → enabled r s (after_run r os) ≡ true
    → belongs q s (ledger_after r q os) ≡ eqb (step_counter s (after_run r os)) q
belongs_to_its_counter r q os = belongs_to r q (after_run r os) (ledger_after r q os) (run_invariant r q os)
