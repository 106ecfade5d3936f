-- LAWS. For the code of a run: the places where the next message of each link starts, and that every step keeps them (`Reached`).
-- The code keeps, for a receiver i and a sender s, the place at `link_place` i s; at that of i and i stands where i's own next message goes.
use Rattle.std.specs.Prelude.{ℕ, suc, ◌+◌, ◌*◌, ◌≤◌, ◌<◌, ◌≡◌, refl, List, length, get_or, set, take, drop, replicate}
use Rattle.std.proofs.Common.{sym, ◌∙◌, subst, arith, length-set, length-drop, get_or-set_same, get_or-set_other}
use Rattle.std.proofs.lemmas.List.{length-replicate, get_or-replicate, set-get_or}
use Rattle.protocol.specs.Limits.{most_cards}
use Rattle.protocol.proofs.Cases.{by_place}
use Rattle.protocol.specs.Ledger.{Ledger}
use Rattle.protocol.specs.Chassis.{Chassis}
use Rattle.wire.specs.declared.Message as wire
use Rattle.wire.specs.Message.{version_2, clear_length, called_length}
use Rattle.replica_model.specs.Calls.{not_sent, ClearedOutcome, with_value}
use Rattle.replica_model.proofs.FormatLaws.{on_wire_size}
use Rattle.chassis_model.specs.Log.{waiting_part, end_of}
use Rattle.chassis_model.proofs.ListPartsLaws.{part_length}
use Rattle.chassis_model.proofs.LogLaws.{Stands}
use Rattle.chassis_model.specs.Run.{Making, call_of, State, Stepped, replica_of, log_of, N_at, free_from, made, delivered}
use Rattle.chassis_model.proofs.InStep.{Sizes, cards_at, reached_N}
use Rattle.chassis_model.proofs.Matches.{Matches, RunAt, run_at, run_cards}
use Rattle.chassis_model.proofs.FreshRun.{fresh_state, fresh_matches}
use Rattle.chassis_model.proofs.Sends.{next_message, call_cases, size_is}
use Rattle.chassis_model.proofs.MadeSteps.{made_of, state_made, declined_made}
use Rattle.chassis_model.proofs.DeliveredSteps.{state_delivered, due_stands, one_delivered}
use Rattle.chassis_model.proofs.StepLaws.{made_matches, link_matches}
use Rattle.chassis_model.proofs.Ends.{ends_within, ends_in, end_made, ends_made, end_delivered, ends_delivered}

-- ---- a table of places

-- one for each receiver and sender
abbrev pub links : ℕ
links = most_cards * most_cards

-- where that of a receiver and a sender is kept
abbrev pub link_place : ℕ → ℕ → ℕ
link_place receiver sender = most_cards * receiver + sender

pub record PlacesOf (r : ℕ) (ends : ℕ → ℕ → ℕ) (places : List ℕ) : Type 0 where
  pub size : length places ≡ links
  pub place : (i s : ℕ) → i < r → s < r → get_or places (link_place i s) 0 ≡ ends i s

-- one place moves
pub places_move : (r : ℕ) (ends ends' : ℕ → ℕ → ℕ) (places : List ℕ) (i s far : ℕ) → r ≤ most_cards → i < r → s < r → PlacesOf r ends places → ends' i s ≡ ends i s + far
    → ((j t : ℕ) → j < r → t < r → (j ≡ i → t ≡ s → ⊥) → ends' j t ≡ ends j t)
    → PlacesOf r ends' (set places (link_place i s) (ends i s + far))
places_move r ends ends' places i s far few hi hs p here there = record {
  size = length-set places (link_place i s) _ ∙ p.size;
  place = λ j t hj ht.
      by_place (link_place j t) (link_place i s)
      (λ e.
      let ei : j ≡ i = omega arith in
      let es : t ≡ s = omega arith in
      rw (ei, es) (get_or-set_same places (link_place i s) _ 0 (let z = p.size in omega arith) ∙ sym here))
      (λ d. get_or-set_other places (link_place i s) (link_place j t) _ 0 d ∙ p.place j t hj ht ∙ sym (there j t hj ht (λ a b. d (omega arith))));
}

-- ---- for the code

-- of each link the place where its next message starts; of i and i itself, the place where i's next message goes
abbrev pub Places : ℕ → ℕ → ℕ → State → List ℕ → Type 0
Places r k L st places = PlacesOf r (ends_in r k L st) places

pub record Reached (r k L : ℕ) (st : State) (places : List ℕ) : Type 0 where
  pub chassis : Chassis
  pub ledgers : ℕ → Ledger
  pub matches : Matches r k L st chassis ledgers
  pub places_are : Places r k L st places

-- what stands at the place of a link on which a message waits
pub record WaitsAt (L : ℕ) (log : List ℕ) (n place : ℕ) : Type 0 where
  pub inside : place ≤ L
  pub header : clear_length 0 ≤ length (drop place log)
  pub room : called_length version_2 (drop place log) ≤ length (drop place log)
  pub within : place + called_length version_2 (drop place log) ≤ L
  pub waits : waiting_part (suc n) log ≡ take (called_length version_2 (drop place log)) (drop place log)

waits_from : (L : ℕ) (log : List ℕ) (n : ℕ) (x : wire.Message) → length log ≡ L → Stands log n x → WaitsAt L log n (end_of n log)
waits_from L log n x long stands =
    let in_log = ends_within n log in
    let cut = length-drop (end_of n log) log in
    let room = stands.room in
    record {
      inside = omega arith;
      header = stands.header;
      room = rw stands.called room;
      within = rw stands.called (omega arith);
      waits = rw stands.called (sym stands.here);
    }

module _ (r k L : ℕ) (st : State) (places : List ℕ) (h : Reached r k L st places) where
  abbrev now : RunAt r k L
  now = run_at h.matches

  -- where i's next message goes
  pub free_place_is : (i : ℕ) → i < r → get_or places (link_place i i) 0 ≡ free_from r k L st i
  free_place_is i hi = h.places_are.place i i hi hi

  pub place_inside : (i s : ℕ) → i < r → s < r → get_or places (link_place i s) 0 ≤ L
  place_inside i s hi hs =
      rw (h.places_are.place i s hi hs)
      (let a = ends_within (N_at r k L st i s) (log_of r k L st s) in let b = part_length r L s st.logs h.matches.logs_fit hs in omega arith)

  pub waits_at : (i s : ℕ) → i < r → s < r → N_at r k L st i s < N_at r k L st s s
      → WaitsAt L (log_of r k L st s) (N_at r k L st i s) (get_or places (link_place i s) 0)
  waits_at i s hi hs waits =
      rw (h.places_are.place i s hi hs)
      (waits_from L (log_of r k L st s) (N_at r k L st i s) _ (part_length r L s st.logs h.matches.logs_fit hs)
      (due_stands now i s hi hs waits))

  -- ---- a message made: i's own place moves by the length that the call gives (0 where it declines)

  -- the places after the call's outcome
  module _ (i : ℕ) (hi : i < r) where
    abbrev PlacesAfter : ClearedOutcome → Type 0
    PlacesAfter done = Places r k L (made_of r k L st i done).state (set places (link_place i i) (free_from r k L st i + done.answer.length))

    places_declined : (number : ℕ) → PlacesAfter (with_value 0 (not_sent number (replica_of r k L st i) (drop (free_from r k L st i) (log_of r k L st i))))
    places_declined number =
        let none : set places (link_place i i) (free_from r k L st i + 0) ≡ places
        = rw (← (free_place_is i hi)) (let z : get_or places (link_place i i) 0 + 0 ≡ get_or places (link_place i i) 0 = omega arith in rw z (set-get_or places (link_place i i) 0)) in
        rw none (subst (λ (stepped : Stepped). Places r k L stepped.state places) (sym (declined_made r k L st i number)) h.places_are)

    places_made : (m : Making) (q : ℕ) → PlacesAfter (call_of m q (replica_of r k L st i) (drop (free_from r k L st i) (log_of r k L st i)))
    places_made m q =
        call_cases (run_cards now) m i q hi PlacesAfter (drop (free_from r k L st i) (log_of r k L st i))
        (λ n _ _. places_declined n)
        (λ _ may goes fits.
        let x = next_message r h.chassis m i q in
        let room = rw (← (size_is (run_cards now) m i q hi may)) at fits in
        rw (← (on_wire_size i (N_at r k L st i i + 1) x))
        (places_move r (ends_in r k L st) (ends_in r k L (state_made now i x)) places i i _ h.matches.cards.sizes.few_cards hi hi h.places_are
        (end_made now i hi x goes room)
        (ends_made now i hi x goes room)))

  pub made_reached : (m : Making) (i q : ℕ) → i < r
      → Reached r k L (made r k L i (call_of m q) st).state
      (set places (link_place i i)
      (get_or places (link_place i i) 0 + (call_of m q (replica_of r k L st i) (drop (get_or places (link_place i i) 0) (log_of r k L st i))).answer.length))
  unfolding made
  made_reached m i q hi = record {
    chassis = _;
    ledgers = _;
    matches = (made_matches now m i q hi).0;
    places_are = rw (free_place_is i hi) (places_made i hi m q);
  }

  -- ---- a deliver: the link's place moves by the length of the message that waits; where none waits, nothing moves

  pub delivered_reached : (i s : ℕ) → i < r → s < r → (i ≡ s → ⊥) → N_at r k L st i s < N_at r k L st s s
      → Reached r k L (delivered r k L i s st).state
      (set places (link_place i s) (get_or places (link_place i s) 0 + called_length version_2 (drop (get_or places (link_place i s) 0) (log_of r k L st s))))
  delivered_reached i s hi hs apart waits = record {
    chassis = _;
    ledgers = _;
    matches = (link_matches now i s (hi, hs, apart) waits).0;
    places_are =
        rw (
          one_delivered now i s hi hs waits apart,
          h.places_are.place i s hi hs,
          (due_stands now i s hi hs waits).called,
        )
        (places_move r (ends_in r k L st) (ends_in r k L (state_delivered now i s)) places i s _ h.matches.cards.sizes.few_cards hi hs h.places_are
        (end_delivered now i s hi hs waits apart)
        (ends_delivered now i s hi hs waits apart));
  }

-- ---- at the beginning

fresh_places : (r n : ℕ) (ends : ℕ → ℕ → ℕ) → n ≡ links → r ≤ most_cards → ((i s : ℕ) → i < r → s < r → ends i s ≡ 0) → PlacesOf r ends (replicate n 0)
fresh_places r n ends e few none = record {
  size = length-replicate n 0 ∙ e;
  place = λ i s hi hs. get_or-replicate n (link_place i s) 0 0 (omega arith) ∙ sym (none i s hi hs);
}

pub fresh_reached : (r k L : ℕ) (logs : List ℕ) → Sizes r k → length logs ≡ r * L
    → Reached r k L (fresh_state r k L logs) (replicate links 0)
unfolding end_of
fresh_reached r k L logs z fits =
    let h = fresh_matches r k L logs z fits in
    record {
      chassis = _;
      ledgers = _;
      matches = h;
      places_are = fresh_places r links (ends_in r k L (fresh_state r k L logs)) refl z.few_cards (λ i s hi hs. rw (reached_N (cards_at h.cards) i s hi hs));
    }
