-- LAWS. The rounds of the code: what its functions are given and what they leave, as records. A link is kept as a number, the one at which its place is kept
-- (`link_place`); a list of links is the front of an array of such numbers (`listed`).
use Rattle.std.specs.Prelude.{ℕ, ◌+◌, ◌*◌, ◌/◌, ◌%◌, ◌≤◌, ◌<◌, ◌≡◌, Bool, true, false, ◌&&◌, List, ◌++◌, map, ltb, length, take, set}
use Rattle.std.proofs.Common.{◌∙◌}
use Rattle.protocol.specs.Limits.{most_cards}
use Rattle.protocol.specs.RoundRobin.{Link, link, IsLink, Transport}
use Rattle.protocol.proofs.RoundRobinOpen.{waiting_to, waiting_links, serve, Visits}
use Rattle.chassis_model.specs.Run.{State, state_of, N_at}
use Rattle.chassis_model.proofs.Places.{links}
use Rattle.chassis_model.specs.Pending as pending
use Rattle.chassis_model.proofs.PendingChecked.{Checked, checked_orderly}
use Rattle.chassis.specs.declared.Sizes.{Sizes}
use Rattle.pending.specs.declared.rounds.Pump.{Pump}
use Rattle.pending.specs.declared.rounds.OpenLinks.{OpenLinks}
use Rattle.pending.specs.declared.rounds.Turn.{Turn}
use Rattle.pending.specs.declared.rounds.Turn.TheVariants.{Declined, Open, Done}

-- the link of a number
abbrev pub link_of : ℕ → Link
link_of which = link (which / most_cards) (which % most_cards)

abbrev pub links_in : List ℕ → List Link
links_in numbers = map link_of numbers

-- the links of a chassis of these sizes
abbrev pub links_of : Sizes → Transport State
links_of sizes = pending.state_links sizes.cards sizes.counters sizes.log_bytes

-- how many of card s's messages card i has had
abbrev pub had : Sizes → State → ℕ → ℕ → ℕ
had sizes st i s = N_at sizes.cards sizes.counters sizes.log_bytes st i s

-- whether one waits on the link to card i from card s
abbrev pub one_waits : Sizes → State → ℕ → ℕ → Bool
one_waits sizes st i s = ltb (had sizes st i s) (had sizes st s s)

-- ---- what the rounds go over

-- its words and logs as a run's
abbrev pub pump_state : Pump → State
pump_state pump = state_of pump.words.now pump.logs.now

-- the sizes stay, and the words are the same reference
pub record Kept (pump pump' : Pump) : Type 0 where
  pub sizes : pump'.sizes ≡ pump.sizes
  pub words : pump'.words.ghost_name ≡ pump.words.ghost_name

pub kept_after : {pump pump' pump'' : Pump} → Kept pump pump' → Kept pump' pump'' → Kept pump pump''
kept_after h h' = record { sizes = h'.sizes ∙ h.sizes; words = h'.words ∙ h.words }

-- ---- the list of open links

-- the numbers of those that are listed
abbrev pub listed : OpenLinks → List ℕ
listed list = take list.count list.numbers

-- one more behind them
abbrev pub pushed : ℕ → OpenLinks → OpenLinks
pushed which list = record { numbers = set list.numbers list.count which; count = list.count + 1 }

pub record ListedTo (sizes : Sizes) (st : State) (i senders : ℕ) (before after : OpenLinks) : Type 0 where
  pub size : length after.numbers ≡ length before.numbers
  pub few : after.count ≤ before.count + senders
  pub links_are : links_in (listed after) ≡ links_in (listed before) ++ waiting_to (links_of sizes) sizes.cards i senders st

pub record Listed (sizes : Sizes) (st : State) (receivers : ℕ) (list : OpenLinks) : Type 0 where
  pub size : length list.numbers ≡ links
  pub few : list.count ≤ receivers * sizes.cards
  pub links_are : links_in (listed list) ≡ waiting_links (links_of sizes) sizes.cards receivers st

-- ---- one turn

-- one waits on the link of number `which`
pub record TurnReady (sizes : Sizes) (which : ℕ) (st : State) : Type 0 where
  pub is_link : IsLink sizes.cards (which / most_cards) (which % most_cards)
  pub waits : had sizes st (which / most_cards) (which % most_cards) < had sizes st (which % most_cards) (which % most_cards)

-- whether the delivery is made, and whether another one waits behind it
abbrev pub is_made : Sizes → ℕ → State → Bool
is_made sizes which st = ((links_of sizes).attempt (which / most_cards) (which % most_cards) st).accepted

abbrev pub stays_open : Sizes → ℕ → State → State → Bool
stays_open sizes which st st' = is_made sizes which st && ltb 0 ((links_of sizes).waiting (which / most_cards) (which % most_cards) st')

-- what came of the turn says both
abbrev pub was_taken : Turn → Bool
was_taken Declined = false
was_taken Open = true
was_taken Done = true

abbrev pub is_open : Turn → Bool
is_open Declined = false
is_open Open = true
is_open Done = false

pub record TurnDone (sizes : Sizes) (which : ℕ) (st : State) (turn : Turn) (st' : State) : Type 0 where
  pub state_is : ((links_of sizes).attempt (which / most_cards) (which % most_cards) st).state ≡ st'
  pub made_is : was_taken turn ≡ is_made sizes which st
  pub open_is : is_open turn ≡ stays_open sizes which st st'

-- ---- a round

abbrev pub AllVisit : Sizes → ℕ → List Link → State → Type 0
AllVisit sizes b ls st =
    Visits (links_of sizes) sizes.cards b (Checked sizes.cards sizes.counters sizes.log_bytes)
    (checked_orderly sizes.cards sizes.counters sizes.log_bytes) ls st

pub record RoundReady (sizes : Sizes) (b : ℕ) (st : State) (list : OpenLinks) : Type 0 where
  pub size : length list.numbers ≡ links
  pub few : list.count ≤ links
  pub visits : AllVisit sizes b (links_in (listed list)) st

pub record RoundDone (sizes : Sizes) (b made : ℕ) (st : State) (list : OpenLinks) (made' : ℕ) (st' : State) (list' : OpenLinks) : Type 0 where
  pub size : length list'.numbers ≡ links
  pub few : list'.count ≤ list.count
  pub state_is : (serve (links_of sizes) sizes.cards b (links_in (listed list)) made st).state ≡ st'
  pub made_is : (serve (links_of sizes) sizes.cards b (links_in (listed list)) made st).count ≡ made'
  pub open_are : (serve (links_of sizes) sizes.cards b (links_in (listed list)) made st).open_links ≡ links_in (listed list')

-- ---- all rounds

pub record PumpDone (sizes : Sizes) (b : ℕ) (st : State) (n : ℕ) (st' : State) : Type 0 where
  pub state_is : (pending.pump sizes.cards sizes.counters sizes.log_bytes b st).state ≡ st'
  pub made_is : length (pending.pump sizes.cards sizes.counters sizes.log_bytes b st).made ≡ n
