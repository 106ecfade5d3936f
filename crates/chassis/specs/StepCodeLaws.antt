-- LAWS. What the code of a step is given and what it has done, as records; and that what the code's parts do is the step.
use Rattle.std.specs.Prelude.{ℕ, Result, suc, ◌+◌, ◌*◌, ◌≤◌, ◌<◌, refl, ◌≢◌, Bool, not, cond, ◌&&◌, ltb, eqb, length, take, drop, replicate, set, get_or}
use Rattle.std.proofs.Math.Path.{◌≡◌, sym, ap, subst}
use Rattle.std.proofs.Common.{◌∙◌, add-zero, arith, get_or-set_same, length-take-le, length-set, lt-ltb}
use Rattle.std.proofs.Math.Bool.{true, false}
use mathlib.Core.List.{List, [], ◌∷◌, ◌++◌}
use Rattle.std.proofs.lemmas.Bool.{ltb-true}
use Rattle.std.proofs.lemmas.List.{set-get_or}
use Rattle.std.proofs.lemmas.List.Edits.{sets}
use Rattle.std.proofs.Props.{props}
use Rattle.protocol.specs.Limits.{most_cards, most_counters, short_output, bad_counter, bad_card, nothing_waiting, log_full, bad_amount}
use Rattle.protocol.specs.Refusals.{number_of, number_in}
use Rattle.protocol.specs.declared.Refusal.{Refusal}
use Rattle.protocol.specs.Checks.{Check, or_else, checked, first_failing, Gives}
use Rattle.protocol.proofs.RefusalLaws.{refusal_some}
use Rattle.protocol.proofs.ChecksLaws.{first_refuses}
use Rattle.protocol.specs.RoundRobin.{IsLink}
use Rattle.wire.specs.Message.{version_2, called_length}
use Rattle.replica_model.specs.declared.Cleared.{Cleared}
use Rattle.replica_model.specs.Layout.{replica_length}
use Rattle.replica_model.specs.ClaimTerms as terms
use Rattle.replica_model.specs.Told.{taken_answer}
use Rattle.replica_model.specs.Calls.{ClearedOutcome, TakeOutcome, take_on}
use Rattle.chassis_model.specs.ListParts.{part, put_part}
use Rattle.chassis_model.specs.Log.{waiting_part}
use Rattle.chassis_model.proofs.ListPartsLaws.{part_room, part_length}
use Rattle.chassis_model.specs.declared.Making.{Making}
use Rattle.chassis_model.specs.declared.Action.{Action}
use Rattle.chassis_model.specs.declared.Action.TheVariants.{Make, Deliver}
use Rattle.chassis_model.specs.declared.Step.{Step}
use Rattle.chassis_model.specs.declared.StepAnswer.{StepAnswer}
pub use Rattle.chassis_model.specs.Run.{state_of}
use Rattle.chassis_model.specs.Run.{call_of, State, Stepped, answered, answer_words, answer_length, N_at, made, delivered, declined, step_checks, performed, acted, step_on, state_after, answers_of, fresh_replicas}
use Rattle.chassis_model.proofs.StepLaws.{link_test, performed_is, declined_is, link_passes}
use Rattle.chassis_model.proofs.Places.{links, link_place, Reached, fresh_reached, WaitsAt, free_place_is, place_inside, waits_at, made_reached, delivered_reached}
use Rattle.chassis.specs.declared.Sizes.{Sizes}
use Rattle.chassis.specs.declared.stepping.Handed.{Handed}

-- the words of as many replicas as there are cards
pub record WordsFit (sizes : Sizes) (words : List ℕ) : Type 0 where
  pub few_cards : sizes.cards ≤ most_cards
  pub few_counters : sizes.counters ≤ most_counters
  pub replica_is : sizes.replica_words ≡ replica_length sizes.cards sizes.counters
  pub long : length words ≡ sizes.cards * sizes.replica_words

-- whether one of card s's messages waits for card i
abbrev pub one_waits : Sizes → State → ℕ → ℕ → Bool
one_waits sizes st i s =
    ltb (N_at sizes.cards sizes.counters sizes.log_bytes st i s) (N_at sizes.cards sizes.counters sizes.log_bytes st s s)

-- card s's next message for card i stands from `at` on in its log
pub record HandReady (sizes : Sizes) (i s at : ℕ) (words logs : List ℕ) : Type 0 where
  pub words_fit : WordsFit sizes words
  pub logs_long : length logs ≡ sizes.cards * sizes.log_bytes
  pub receiver : i < sizes.cards
  pub sender : s < sizes.cards
  pub stands : WaitsAt sizes.log_bytes (part sizes.log_bytes logs s) (N_at sizes.cards sizes.counters sizes.log_bytes (state_of words logs) i s) at

-- it was handed over, and take gave what it gives for that message
pub record HandedOver (sizes : Sizes) (i s at : ℕ) (words logs : List ℕ) (handed : Handed) (words' : List ℕ) : Type 0 where
  pub taken_is : taken_answer handed.taken
      ≡ (take_on (part sizes.replica_words words i) (take (called_length version_2 (drop at (part sizes.log_bytes logs s))) (drop at (part sizes.log_bytes logs s)))).answer
  pub outcome : ◌≡◌ {A = Stepped} (record { answer = answered (number_in handed.taken); state = state_of words' logs })
      (delivered sizes.cards sizes.counters sizes.log_bytes i s (state_of words logs))
  pub behind : handed.behind ≡ at + called_length version_2 (drop at (part sizes.log_bytes logs s))

-- sizes within the limits, and words and logs of as many cards
pub record SizesFit (sizes : Sizes) (words logs : ℕ) : Type 0 where
  pub sized : terms.Sizes sizes.cards sizes.counters
  pub replica_is : sizes.replica_words ≡ replica_length sizes.cards sizes.counters
  pub words_fit : words ≡ sizes.cards * replica_length sizes.cards sizes.counters
  pub logs_fit : logs ≡ sizes.cards * sizes.log_bytes

-- a state that a run of these sizes has reached, with the place of each link's next message
pub record StepReady (sizes : Sizes) (words logs places : List ℕ) : Type 0 where
  pub replica_is : sizes.replica_words ≡ replica_length sizes.cards sizes.counters
  pub reached : Reached sizes.cards sizes.counters sizes.log_bytes (state_of words logs) places

-- fresh replicas are reached before any step
pub fresh_ready : (sizes : Sizes) (words logs : List ℕ) → SizesFit sizes (length words) (length logs)
    → StepReady sizes (fresh_replicas sizes.cards sizes.counters sizes.cards) logs (replicate links 0)
fresh_ready sizes words logs fit = record { replica_is = fit.replica_is; reached = fresh_reached sizes.cards sizes.counters sizes.log_bytes logs fit.sized fit.logs_fit }

-- what the action does was done
abbrev pub StepDone : Sizes → Action → Bool → State → StepAnswer → State → Type 0
StepDone sizes action fits st answer st' =
    ◌≡◌ {A = Stepped} (record { answer = answer; state = st' }) (acted sizes.cards sizes.counters sizes.log_bytes action fits st)

-- what a step that makes a message, and a delivery, has against itself before words and logs are looked at: the first of `step_checks`
abbrev pub maker_own_checks : Sizes → ℕ → ℕ → Bool → List Check
maker_own_checks sizes card counter fits =
    or_else (ltb card sizes.cards) bad_card ∷ or_else (ltb counter sizes.counters) bad_counter ∷ or_else fits bad_amount ∷ []

abbrev pub link_own_checks : Sizes → ℕ → ℕ → Bool → List Check
link_own_checks sizes receiver sender fits =
    or_else (ltb receiver sizes.cards && ltb sender sizes.cards && not (eqb receiver sender)) bad_card ∷ or_else fits bad_amount ∷ []

-- a call's answer in a step: a log is the step's output, so number 5 becomes 14
abbrev pub in_step : Cleared → Cleared
in_step sent = record {
  number = cond (eqb sent.number short_output) log_full sent.number;
  value = sent.value;
  sequence = sent.sequence;
  length = sent.length;
}

-- a step's call with the rest of a log as its output
unfoldable pub appended : Making → ℕ → List ℕ → List ℕ → ℕ → ClearedOutcome
appended making counter b log at =
    let done = call_of making counter b (drop at log) in
    record { answer = in_step done.answer; words = done.words; out = take at log ++ done.out }

-- step i is done: its answer stands in its words
pub record StepAnswered (sizes : Sizes) (s : Step) (i : ℕ) (st : State) (answers : List ℕ) (st' : State) (answers' : List ℕ) : Type 0 where
  pub state_is : st' ≡ (step_on sizes.cards sizes.counters sizes.log_bytes s st).state
  pub answers_are : answers' ≡ sets answers (i * answer_length) (answer_words (step_on sizes.cards sizes.counters sizes.log_bytes s st).answer)

pub answers_long : {sizes : Sizes} {s : Step} {i : ℕ} {st st' : State} {answers answers' : List ℕ}
    → StepAnswered sizes s i st answers st' answers' → length answers' ≡ length answers
answers_long done = ap length done.answers_are ∙ simp length-set

-- all steps are done, from the first state on
pub record RunDone (sizes : Sizes) (steps : List Step) (st st' : State) (answers' : List ℕ) : Type 0 where
  pub state_is : st' ≡ state_after sizes.cards sizes.counters sizes.log_bytes steps st
  pub answers_are : answers' ≡ answers_of sizes.cards sizes.counters sizes.log_bytes steps st

-- ---- an action that its checks decline leaves all as it is

module _ (sizes : Sizes) (st : State) where
  pub declined_did : (a : Action) (fits : Bool) (n : ℕ) → n ≢ 0 → Gives (step_checks sizes.cards sizes.counters sizes.log_bytes a fits st) n
      → StepDone sizes a fits st (answered n) st
  declined_did a fits n some gives = sym (declined_is sizes.cards sizes.counters sizes.log_bytes st a fits n some gives)

  pub none_did : (i s : ℕ) → IsLink sizes.cards i s → one_waits sizes st i s ≡ false → StepDone sizes (Deliver i s) true st (answered nothing_waiting) st
  none_did i s is none = declined_did (Deliver i s) true nothing_waiting (λ e. omega arith) (link_test sizes.cards i s is, (refl, none))

  -- by the refusal that the code finds
  pub maker_declined : (m : Making) (card counter : ℕ) (fits : Bool) (e : Refusal) → number_of e ≡ first_failing (maker_own_checks sizes card counter fits)
      → StepDone sizes (Make m card counter) fits st (answered (number_of e)) st
  unfolding acted
  maker_declined m card counter fits e is =
      rw is
      (first_refuses (declined st) (performed sizes.cards sizes.counters sizes.log_bytes (Make m card counter) st) (maker_own_checks sizes card counter fits)
      (λ z. refusal_some e (is ∙ z)))

  pub link_declined : (i s : ℕ) (fits : Bool) (e : Refusal) → number_of e ≡ first_failing (link_own_checks sizes i s fits)
      → StepDone sizes (Deliver i s) fits st (answered (number_of e)) st
  unfolding acted
  link_declined i s fits e is =
      let waits : List Check
      = or_else (ltb (N_at sizes.cards sizes.counters sizes.log_bytes st i s) (N_at sizes.cards sizes.counters sizes.log_bytes st s s)) nothing_waiting ∷ [] in
      rw is
      (first_refuses (declined st) (checked (declined st) waits (performed sizes.cards sizes.counters sizes.log_bytes (Deliver i s) st))
      (link_own_checks sizes i s fits) (λ z. refusal_some e (is ∙ z)))

-- ---- what holds in one way at most, and so also where it is only known that a run reached the state

pub words_fit_prop : {sizes : Sizes} {words : List ℕ} → IsProp (WordsFit sizes words)
words_fit_prop = Prim.hlevel props

pub hand_ready_prop : {sizes : Sizes} {i s at : ℕ} {words logs : List ℕ} → IsProp (HandReady sizes i s at words logs)
hand_ready_prop = Prim.hlevel props

pub stepped_prop : (done done' : Stepped) → IsProp (done ≡ done')
stepped_prop done done' = Prim.hlevel props

-- ---- a state that a run has reached

module _ (sizes : Sizes) (words logs places : List ℕ) (g : StepReady sizes words logs places) where
  abbrev r : ℕ
  r = sizes.cards

  abbrev k : ℕ
  k = sizes.counters

  abbrev L : ℕ
  L = sizes.log_bytes

  abbrev size : ℕ
  size = sizes.replica_words

  abbrev st : State
  st = state_of words logs

  -- ---- what is lent

  pub words_fit : WordsFit sizes words
  words_fit =
      let m = g.reached.matches in
      record { few_cards = m.cards.sizes.few_cards; few_counters = m.cards.sizes.few_counters; replica_is = g.replica_is; long = rw g.replica_is m.words_fit }

  -- a card's log lies inside
  pub logs_room : (card : ℕ) → card < r → card * L + L ≤ length logs
  logs_room card below = rw g.reached.matches.logs_fit (part_room card r L below)

  pub log_long : (card : ℕ) → card < r → length (part L logs card) ≡ L
  log_long card below = part_length r L card logs g.reached.matches.logs_fit below

  pub card_few : (card : ℕ) → card < r → card < most_cards
  card_few card below = let few = words_fit.few_cards in omega arith

  pub place_small : (i s : ℕ) → i < r → s < r → get_or places (link_place i s) 0 ≤ L
  place_small i s hi hs = place_inside r k L st places g.reached i s hi hs

  -- ---- a message made

  module _ (m : Making) (card counter at : ℕ) (sent : Cleared) (b log : List ℕ) (below : card < r) (there : counter < k) (here : at ≡ get_or places (link_place card card) 0)
      (done : ◌≡◌ {A = ClearedOutcome} (record { answer = sent; words = b; out = log }) (appended m counter (part size words card) (part L logs card) at)) where
    answer_is : sent ≡ in_step (call_of m counter (part (replica_length r k) words card) (drop (get_or places (link_place card card) 0) (part L logs card))).answer
    unfolding appended
    answer_is = ap (λ o. o.answer) (rw (here, g.replica_is) at done)

    made_outcome : StepDone sizes (Make m card counter) true st (record { number = sent.number; value = sent.value })
        (state_of (put_part size card b words) (put_part L card log logs))
    unfolding made appended
    made_outcome =
        let now_done = rw (here, g.replica_is) at done in
        let outcome : ◌≡◌ {A = Stepped} (record { answer = record { number = sent.number; value = sent.value }; state = state_of (put_part size card b words) (put_part L card log logs) })
        (made r k L card (call_of m counter) st)
        = rw (answer_is, ap (λ o. o.words) now_done, ap (λ o. o.out) now_done, g.replica_is, free_place_is r k L st places g.reached card below) in
        outcome ∙ sym (performed_is r k L st (Make m card counter) true (lt-ltb card r below, (lt-ltb counter k there, (refl, tt))))

    made_ready : StepReady sizes (put_part size card b words) (put_part L card log logs) (set places (link_place card card) (at + sent.length))
    made_ready = record {
      replica_is = g.replica_is;
      reached =
          subst (λ (s : State). Reached r k L s (set places (link_place card card) (at + sent.length)))
          (sym (ap (λ o. o.state) (made_outcome ∙ performed_is r k L st (Make m card counter) true (lt-ltb card r below, (lt-ltb counter k there, (refl, tt))))))
          (rw (answer_is, here) (made_reached r k L st places g.reached m card counter below));
    }

    -- the step is done, and it has reached what it leaves
    pub made_did : StepDone sizes (Make m card counter) true st (record { number = sent.number; value = sent.value })
        (state_of (put_part size card b words) (put_part L card log logs))
        × StepReady sizes (put_part size card b words) (put_part L card log logs) (set places (link_place card card) (at + sent.length))
    made_did = (made_outcome, made_ready)

    -- a refusal moves no place
    pub refused_ready : sent.length ≡ 0 → StepReady sizes (put_part size card b words) (put_part L card log logs) places
    refused_ready none =
        let same : set places (link_place card card) (at + sent.length) ≡ places = rw (none, here, add-zero, set-get_or) in
        rw same at made_ready

    -- the place it leaves lies inside the log
    pub made_place : at + sent.length ≤ L
    made_place =
        let few = card_few card below in
        let inside : link_place card card < length places = omega (arith, g.reached.places_are.size) in
        rw (get_or-set_same places (link_place card card) (at + sent.length) 0 inside) at (place_inside r k L _ _ made_ready.reached card card below below)

  -- ---- a message handed over

  module _ (i s : ℕ) (is : IsLink r i s) (some : one_waits sizes st i s ≡ true) where
    waits : N_at r k L st i s < N_at r k L st s s
    waits = ltb-true _ _ some

    pub hand_ready : HandReady sizes i s (get_or places (link_place i s) 0) words logs
    hand_ready = record {
      words_fit = words_fit;
      logs_long = g.reached.matches.logs_fit;
      receiver = is.0;
      sender = is.1;
      stands = waits_at r k L st places g.reached i s is.0 is.1 waits;
    }

    module _ (handed : Handed) (b : List ℕ) (done : HandedOver sizes i s (get_or places (link_place i s) 0) words logs handed b) where
      delivered_ready : StepReady sizes b logs (set places (link_place i s) handed.behind)
      delivered_ready = record {
        replica_is = g.replica_is;
        reached =
            rw done.behind
            (subst (λ (x : Stepped). Reached r k L x.state (set places (link_place i s) (get_or places (link_place i s) 0 + called_length version_2 (drop (get_or places (link_place i s) 0) (part L logs s)))))
            (sym done.outcome) (delivered_reached r k L st places g.reached i s is.0 is.1 is.2 waits));
      }

      pub delivered_did : StepDone sizes (Deliver i s) true st (answered (number_in handed.taken)) (state_of b logs)
          × StepReady sizes b logs (set places (link_place i s) handed.behind)
      delivered_did = (done.outcome ∙ sym (performed_is r k L st (Deliver i s) true (link_passes r k L st i s true refl is waits)), delivered_ready)

-- ---- take of the message that stands there

taken_number : (taken : Result ℕ Refusal) → (taken_answer taken).number ≡ number_in taken
taken_number (Result.Ok sequence) = refl
taken_number (Result.Err refusal) = refl

module _ (sizes : Sizes) (i s at : ℕ) (words logs : List ℕ) (h : HandReady sizes i s at words logs) where
  pub log_is_long : length (part sizes.log_bytes logs s) ≡ sizes.log_bytes
  log_is_long = part_length sizes.cards sizes.log_bytes s logs h.logs_long h.sender

  module _ (message : List ℕ) (here : message ≡ take (called_length version_2 (drop at (part sizes.log_bytes logs s))) (drop at (part sizes.log_bytes logs s))) where
    pub message_long : length message ≡ called_length version_2 (drop at (part sizes.log_bytes logs s))
    message_long = rw here (length-take-le _ _ h.stands.room)

    pub handed_over : (taken : Result ℕ Refusal) (b : List ℕ)
        → ◌≡◌ {A = TakeOutcome} (record { answer = taken_answer taken; words = b }) (take_on (part sizes.replica_words words i) message)
        → HandedOver sizes i s at words logs (record { taken = taken; behind = at + length message }) (put_part sizes.replica_words i b words)
    unfolding delivered
    handed_over taken b done = record {
      taken_is = rw (← here) (ap (λ (o : TakeOutcome). o.answer) done);
      outcome =
          let waiting : message ≡ waiting_part (suc (N_at sizes.cards sizes.counters sizes.log_bytes (state_of words logs) i s)) (part sizes.log_bytes logs s)
          = here ∙ sym h.stands.waits in
          rw (← waiting, ← h.words_fit.replica_is, ← done, taken_number taken);
      behind = rw message_long;
    }
