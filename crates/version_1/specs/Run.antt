-- DEFINITIONS. A run of cards of version 1, alone or beside cards of today (SPECIFICATION 6.4), and the deliveries behind a run of theirs: by version 1's rules, or of
-- the converted logs by the rules of today.
-- A card's log is here the bytes of the messages that it has made, with nothing behind them: "bytes past the card's own messages never count as a message".
use Rattle.std.specs.Prelude.{ℕ, ◌+◌, ◌-◌, List, [], ◌∷◌, ◌++◌, map, Bool, true, not, cond, ◌&&◌, length, get_or, take, replicate, leb, ltb, eqb}
use Rattle.protocol.specs.Limits.{MAX, bad_counter, exhausted, short_output, bad_card, nothing_waiting, log_full}
use Rattle.protocol.specs.Checks.{Check, or_else, checked}
use Rattle.protocol.specs.Functions.{put}
use Rattle.protocol.specs.RoundRobin.{Link}
use Rattle.wire.specs.Message.{version_1, version_2, no_message, message_bytes, messages_in}
use Rattle.conversion.specs.Conversion.{converted}
use Rattle.replica_model.specs.Layout.{N_of, fresh_words}
use Rattle.replica_model.specs.Calls.{SendOutcome, TakeOutcome}
use Rattle.replica_model.specs.Calls as today
use Rattle.version_1.specs.Rules as rules

-- "count (card, counter), clear (card, counter), deliver (receiver, sender); another kind is 12 and changes nothing": so there are no steps of another kind here
pub data Step : Type 0 where
  count : ℕ → ℕ → Step
  clear : ℕ → ℕ → Step
  deliver : ℕ → ℕ → Step

-- of each card, its words and its log
pub record Chassis : Type 0 where
  pub words : ℕ → List ℕ
  pub logs : ℕ → List ℕ

-- "All replicas begin fresh."
abbrev pub fresh : ℕ → ℕ → Chassis
fresh r k = record { words = λ i. fresh_words r k i; logs = λ i. [] }

-- what a step answers, and the chassis that it leaves
pub record Stepped : Type 0 where
  pub number : ℕ
  pub chassis : Chassis

abbrev pub declined : Chassis → ℕ → Stepped
declined st number = record { number = number; chassis = st }

-- "A message made is appended to its card's L bytes, right after that card's earlier ones": the call's output is what is left of these, and where that is too
-- short the step answers 14
unfoldable pub made : ℕ → ℕ → (List ℕ → List ℕ → SendOutcome) → Chassis → Stepped
made L i call st =
    let done = call (st.words i) (replicate (L - length (st.logs i)) 0) in
    record {
      number = cond (eqb done.answer.number short_output) log_full done.answer.number;
      chassis = record {
        words = put i done.words st.words;
        logs = put i (st.logs i ++ take done.answer.length done.out) st.logs;
      };
    }

-- the sender's message behind the first n, as its log of that version has it
abbrev pub message_behind : ℕ → Chassis → ℕ → ℕ → List ℕ
message_behind version st s n = message_bytes (get_or (messages_in version (st.logs s)) n no_message)

-- what is asked of a count or a clear whose message has `size` bytes
abbrev pub making_checks : (r k L i q size : ℕ) → Chassis → List Check
making_checks r k L i q size st =
    or_else (ltb i r) bad_card ∷ or_else (ltb q k) bad_counter ∷ or_else (not (eqb (N_of r (st.words i) i) MAX)) exhausted
    ∷ or_else (leb (length (st.logs i) + size) L) log_full ∷ []

-- "the same card twice is 7"; "One waits exactly when the sender's own N is above the receiver's N of that sender"
abbrev pub link_checks : (r i s : ℕ) → Chassis → List Check
link_checks r i s st =
    or_else (ltb i r && ltb s r && not (eqb i s)) bad_card ∷ or_else (ltb (N_of r (st.words i) s) (N_of r (st.words s) s)) nothing_waiting ∷ []

-- a delivery of what waits in logs of that version, by that take
module _ (version : ℕ) (take_on : List ℕ → List ℕ → TakeOutcome) (r : ℕ) where
  -- "Deliver takes the sender's message number N + 1, N being the receiver's."
  unfoldable pub delivered : ℕ → ℕ → Chassis → Stepped
  delivered i s st =
      let done = take_on (st.words i) (message_behind version st s (N_of r (st.words i) s)) in
      checked (declined st) (link_checks r i s st)
      (record { number = done.answer.number; chassis = record { words = put i done.words st.words; logs = st.logs } })

  -- "in the same order": the chassis after deliveries on these links, one after the other, and the numbers that they answer
  unfoldable pub after_deliveries : List Link → Chassis → Chassis
  after_deliveries [] st = st
  after_deliveries (l ∷ links) st = after_deliveries links (delivered l.receiver l.sender st).chassis

  unfoldable pub delivery_numbers : List Link → Chassis → List ℕ
  delivery_numbers [] st = []
  delivery_numbers (l ∷ links) st = (delivered l.receiver l.sender st).number ∷ delivery_numbers links (delivered l.receiver l.sender st).chassis

-- ---- a run of cards of version 1, or of these and cards of today

-- `is_old` says which cards are of version 1. Each card works by the rules of its version, and all count by one.
module _ (is_old : ℕ → Bool) where
  abbrev pub version_of : ℕ → ℕ
  version_of i = cond (is_old i) version_1 version_2

  abbrev pub count_on : (i q : ℕ) → List ℕ → List ℕ → SendOutcome
  count_on i q b out = cond (is_old i) (rules.count_on b q out) (today.count_on b q 1 out)

  abbrev pub clear_on : (i q : ℕ) → List ℕ → List ℕ → SendOutcome
  clear_on i q b out = cond (is_old i) (rules.clear_on b q out) (today.clear_on b q out)

  -- "A message is converted where its receiver is of the other version.": from card s to card i
  abbrev pub handed : (s i : ℕ) → List ℕ → List ℕ
  handed s i bytes = cond (eqb (version_of s) (version_of i)) bytes (converted (version_of s) (version_of i) bytes)

  abbrev pub take_on : (s i : ℕ) → List ℕ → List ℕ → TakeOutcome
  take_on s i b bytes = cond (is_old i) (rules.take_on b (handed s i bytes)) (today.take_on b (handed s i bytes))

  module _ (r L : ℕ) where
    unfoldable pub step_on : Step → Chassis → Stepped
    step_on (count i q) st = checked (declined st) (or_else (ltb i r) bad_card ∷ []) (made L i (count_on i q) st)
    step_on (clear i q) st = checked (declined st) (or_else (ltb i r) bad_card ∷ []) (made L i (clear_on i q) st)
    step_on (deliver i s) st = delivered (version_of s) (take_on s i) r i s st

    unfoldable pub after_steps : List Step → Chassis → Chassis
    after_steps [] st = st
    after_steps (s ∷ ss) st = after_steps ss (step_on s st).chassis

  -- the same chassis with each log of version 1 in version 2, as `yelansub_to_version_2` writes it
  abbrev pub with_converted_logs : Chassis → Chassis
  with_converted_logs st = record { words = st.words; logs = λ i. cond (is_old i) (converted version_1 version_2 (st.logs i)) (st.logs i) }

-- ---- all cards of version 1

abbrev pub all_old : ℕ → Bool
all_old i = true

-- the chassis that a list of steps leaves
abbrev pub after_run : (r k L : ℕ) → List Step → Chassis
after_run r k L steps = after_steps all_old r L steps (fresh r k)

-- deliveries of what waits: by version 1's rules from its logs, and by the rules of today from the converted ones
abbrev pub by_old_rules : ℕ → List Link → Chassis → Chassis
by_old_rules r = after_deliveries version_1 rules.take_on r

-- the same as steps
abbrev pub deliver_steps : List Link → List Step
deliver_steps links = map (λ (l : Link). deliver l.receiver l.sender) links

abbrev pub old_numbers : ℕ → List Link → Chassis → List ℕ
old_numbers r = delivery_numbers version_1 rules.take_on r

abbrev pub by_new_rules : ℕ → List Link → Chassis → Chassis
by_new_rules r links st = after_deliveries version_2 today.take_on r links (with_converted_logs all_old st)

abbrev pub new_numbers : ℕ → List Link → Chassis → List ℕ
new_numbers r links st = delivery_numbers version_2 today.take_on r links (with_converted_logs all_old st)
