-- DEFINITIONS. The ledger (SPECIFICATION 7), each of its sentences quoted above what says it, in that order but for one thing:
-- how the ledger is fed comes after the three steps, since a definition stands above its use.
use Rattle.std.specs.Prelude.{ℕ, zero, suc, max, Bool, true, false, not, cond, ◌||◌, List, [], ◌∷◌, ◌++◌, eqb}
use Rattle.protocol.specs.Functions.{put, bits}
use Rattle.protocol.specs.Names.{Name, join, names_after, names_up_to, tally, has, latest, beyond}

-- "1 count (card, counter), 2 clear (card, counter), 3 deliver (receiver, sender)"; the third number of a count is its amount
pub data Step : Type 0 where
  count : ℕ → ℕ → ℕ → Step
  clear : ℕ → ℕ → Step
  deliver : ℕ → ℕ → Step

-- a message, as a link has it
pub record Item : Type 0 where
  -- the counter that it is of
  pub counter : ℕ
  -- what it says of the ledger's counter: the names that join received, and those that join cancelled
  pub adds : List Name
  pub cancels : List Name

-- a message of another counter k
abbrev pub nothing : ℕ → Item
nothing k = record { counter = k; adds = []; cancels = [] }

-- "One ledger for each counter." "Each card has a received set and a cancelled set, .. and each link a queue."
pub record Ledger : Type 0 where
  pub received : ℕ → List Name
  pub cancelled : ℕ → List Name
  -- by sender, then by receiver: what the link has still to hand over, "in the order made"
  pub queue : ℕ → ℕ → List Item

-- "empty at first"
abbrev pub empty_ledger : Ledger
empty_ledger = record { received = λ i. []; cancelled = λ i. []; queue = λ s i. [] }

-- ---- "Count by i, of w: w new names, with one message. If no name of i is received and uncancelled at i, the message also cancels all earlier names of i."
-- The rule is looked at before the new names join. Card i has received all its own names, so the latest of them is the last one made.
unfoldable pub count_item : ℕ → ℕ → ℕ → Ledger → Item
count_item q i w l =
    let earlier = latest i (l.received i) in
    record {
      counter = q;
      adds = names_after i earlier w;
      cancels = cond (beyond i (l.received i) (l.cancelled i)) [] (names_up_to i earlier);
    }

-- ---- "Clear by i: for each card j with a name in exactly one of i's two sets,"
unfoldable pub holds : ℕ → ℕ → Ledger → Bool
holds i j l = beyond j (l.received i) (l.cancelled i) || beyond j (l.cancelled i) (l.received i)

-- "the message cancels j's names up to the latest in either set." The cards j are those below r.
unfoldable pub clear_names : ℕ → ℕ → Ledger → List Name
clear_names zero i l = []
clear_names (suc r) i l =
    clear_names r i l ++ cond (holds i r l) (names_up_to r (max (latest r (l.received i)) (latest r (l.cancelled i)))) []

abbrev pub clear_item : ℕ → ℕ → ℕ → Ledger → Item
clear_item r q i l = record { counter = q; adds = []; cancels = clear_names r i l }

-- ---- "Deliver: a link hands over its sender's accepted counts and clears, of all counters, in the order made,"

-- the one whose turn it is
unfoldable pub next_item : List Item → Item
next_item [] = nothing 0
next_item (it ∷ rest) = it

unfoldable pub rest_items : List Item → List Item
rest_items [] = []
rest_items (it ∷ rest) = rest

-- "and the step belongs to the counter of the one whose turn it is.": is it counter q's?
unfoldable pub turn_is : ℕ → List Item → Bool
turn_is q [] = false
turn_is q (it ∷ rest) = eqb it.counter q

-- does a step belong to counter q? (claim `other_steps_leave`)
unfoldable pub belongs : ℕ → Step → Ledger → Bool
belongs q (count i k w) l = eqb k q
belongs q (clear i k) l = eqb k q
belongs q (deliver i s) l = turn_is q (l.queue s i)

-- "While a link has nothing to hand over, no deliver step on it is accepted.": has the link from s to i something? (claim `deliver_enabled`)
unfoldable pub some_item : List Item → Bool
some_item [] = false
some_item (it ∷ rest) = true

abbrev pub link_waits : ℕ → ℕ → Ledger → Bool
link_waits i s l = some_item (l.queue s i)

-- "An increment's names join received, its cancellations join cancelled.": card i applies an item
unfoldable pub applied : ℕ → Item → Ledger → Ledger
applied i it l = record {
  received = put i (join it.adds (l.received i)) l.received;
  cancelled = put i (join it.cancels (l.cancelled i)) l.cancelled;
  queue = l.queue;
}

-- a deliver step: the link from s hands over to i
unfoldable pub handed : ℕ → ℕ → Ledger → Ledger
handed i s l = applied i (next_item (l.queue s i))
    (record { received = l.received; cancelled = l.cancelled; queue = put s (put i (rest_items (l.queue s i)) (l.queue s)) l.queue })

-- what i makes goes to every link that leaves i (the queue from i to i itself is no link: no step takes from it)
unfoldable pub sent : ℕ → Item → Ledger → Ledger
sent i it l = record { received = l.received; cancelled = l.cancelled; queue = put i (λ k. l.queue i k ++ it ∷ []) l.queue }

-- "The maker applies its own message when making it."
unfoldable pub made : ℕ → Item → Ledger → Ledger
made i it l = applied i it (sent i it l)

-- ---- "It is fed the list's steps in order and told which of them were accepted (number 0). It takes nothing else from answers, replicas or logs."

-- "an accepted step of another counter changes only its queues"
unfoldable pub after_accepted : ℕ → ℕ → Step → Ledger → Ledger
after_accepted r q (count i k w) l = made i (cond (eqb k q) (count_item q i w l) (nothing k)) l
after_accepted r q (clear i k) l = made i (cond (eqb k q) (clear_item r q i l) (nothing k)) l
after_accepted r q (deliver i s) l = handed i s l

-- "A declined step changes nothing in it"
unfoldable pub after_step : ℕ → ℕ → Step → Bool → Ledger → Ledger
after_step r q s accepted l = cond accepted (after_accepted r q s l) l

-- the list's steps, and of each whether it was accepted
unfoldable pub after_steps : ℕ → ℕ → List Step → List Bool → Ledger → Ledger
after_steps r q [] fs l = l
after_steps r q (s ∷ ss) [] l = l
after_steps r q (s ∷ ss) (a ∷ fs) l = after_steps r q ss fs (after_step r q s a l)

-- ---- "Value at a card: the number of names received and not cancelled there."
unfoldable pub ledger_value : ℕ → Ledger → ℕ
ledger_value i l = tally (λ n. not (has (l.cancelled i) n)) (l.received i)

-- "Holding cards: those with a name in exactly one of that card's two sets; card j is bit j of read's holder set."
unfoldable pub ledger_holders : ℕ → ℕ → Ledger → ℕ
ledger_holders r i l = bits r (λ j. holds i j l)
