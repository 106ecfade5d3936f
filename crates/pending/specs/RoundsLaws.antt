-- LAWS. The rounds of the code are those of `deliver_pending` by its open links (`RoundRobinOpen` of protocol): the list of open links, one turn, a round, all
-- rounds.
use Rattle.std.specs.Prelude.{ℕ, suc, ◌+◌, ◌-◌, ◌*◌, ◌/◌, ◌%◌, ◌≤◌, ◌<◌, ◌≡◌, Bool, true, false, not, cond, ◌&&◌, ◌⊎◌, eqb, ltb, Result, is_err, length, take, drop, set, get_or}
use Rattle.std.proofs.Math.Path.{refl, sym}
use Rattle.std.proofs.Common.{ap, ◌∙◌, inl, inr, mul-le-mul, add-one, arith, length-set, take-suc-set, drop-set-lt, drop-cons, length-take-le, lt-ltb, le-ltb, le_refl, eq-eqb, ne_eqb}
use mathlib.Core.List.{List, [], ◌∷◌, ◌++◌, map-append, append_assoc, append-nil}
use Rattle.std.proofs.lemmas.List.{length-map}
use Rattle.protocol.proofs.RefusalLaws.{refusal_some}
use Rattle.protocol.specs.Limits.{most_cards}
use Rattle.protocol.proofs.Cases.{by_test, by_le, by_place}
use Rattle.protocol.specs.declared.Refusal.{Refusal}
use Rattle.protocol.specs.Refusals.{number_of, number_in}
use Rattle.protocol.specs.RoundRobin.{Link, link, Orderly}
use Rattle.protocol.proofs.RoundRobinOpen.{waiting_to, waiting_links, Served, serve, serve_none, serve_full, serve_room, serve_less, visits_next, Serving, serving_begins, serving_visits, serving_next, serving_done}
use Rattle.wire.specs.Message.{version_2, called_length}
use Rattle.chassis_model.specs.ListParts.{part}
use Rattle.chassis_model.specs.Run.{State, state_of, N_at, delivered}
use Rattle.chassis_model.proofs.Ends.{ends_in}
use Rattle.chassis_model.proofs.Places.{links, link_place, places_move}
use Rattle.chassis_model.proofs.PendingChecked.{Checked, N_here, N_there, checked_after, checked_orderly}
use Rattle.chassis.specs.declared.Sizes.{Sizes}
use Rattle.chassis.specs.declared.stepping.Handed.{Handed}
use Rattle.chassis.specs.StepCodeLaws.{HandReady, HandedOver}
use Rattle.lent.specs.PlacesLaws.{numbered_waits, end_behind}
use Rattle.pending.specs.Ready.{PumpReady}
use Rattle.pending.specs.declared.rounds.OpenLinks.{OpenLinks}
use Rattle.pending.specs.declared.rounds.Turn.{Turn}
use Rattle.pending.specs.declared.rounds.Turn.TheVariants.{Declined, Open, Done}
use Rattle.pending.specs.Rounds.{link_of, links_in, links_of, had, one_waits, listed, pushed, ListedTo, Listed, was_taken, is_open, TurnReady, TurnDone, AllVisit, RoundReady, RoundDone, PumpDone}

-- ---- links as numbers

pub link_back : (i s : ℕ) → s < most_cards → link_of (link_place i s) ≡ link i s
link_back i s few =
    let receiver : link_place i s / most_cards ≡ i = omega arith in
    let sender : link_place i s % most_cards ≡ s = omega arith in
    rw (receiver, sender)

pub number_back : (which : ℕ) → link_place (which / most_cards) (which % most_cards) ≡ which
number_back which = omega arith

-- ---- the list of open links

pub pushed_list : (which : ℕ) (list : OpenLinks) → list.count < length list.numbers → listed (pushed which list) ≡ listed list ++ (which ∷ [])
pushed_list which list room = rw (add-one list.count) (take-suc-set list.numbers list.count which room)

-- one waits where more was made than had
waits_test : (made had : ℕ) → ltb 0 (made - had) ≡ ltb had made
waits_test made had =
    by_le made had
    (λ l. rw (le-ltb had made l, le-ltb 0 (made - had) (omega arith)))
    (λ l. rw (lt-ltb had made l, lt-ltb 0 (made - had) (omega arith)))

-- none waits on a card's link to itself
waits_between : (i s : ℕ) (n : ℕ → ℕ) → not (eqb i s) && ltb (n i) (n s) ≡ ltb (n i) (n s)
waits_between i s n = by_place i s (λ e. rw (e, le-ltb (n s) (n s) (le_refl (n s)), eq-eqb s s refl)) (λ d. rw (ne_eqb i s d))

module _ (sizes : Sizes) (st : State) where
  module _ (i s : ℕ) (before after : OpenLinks) (h : ListedTo sizes st i s before after) where
    to_more : waiting_to (links_of sizes) sizes.cards i (s + 1) st
        ≡ waiting_to (links_of sizes) sizes.cards i s st ++ cond (one_waits sizes st i s) (link i s ∷ []) []
    unfolding waiting_to
    to_more =
        rw (add-one s)
        (ap (λ (t : Bool). waiting_to (links_of sizes) sizes.cards i s st ++ cond t (link i s ∷ []) [])
        (rw (waits_test (had sizes st s s) (had sizes st i s)) (waits_between i s (λ j. had sizes st j s))))

    pub to_pushed : s < most_cards → after.count < length after.numbers → one_waits sizes st i s ≡ true → ListedTo sizes st i (s + 1) before (pushed (link_place i s) after)
    to_pushed few room some = record {
      size = length-set after.numbers after.count (link_place i s) ∙ h.size;
      few = let low = h.few in omega arith;
      links_are =
          rw (pushed_list (link_place i s) after room, map-append link_of (listed after) (link_place i s ∷ []), link_back i s few, h.links_are, to_more, some)
          (append_assoc (links_in (listed before)) (waiting_to (links_of sizes) sizes.cards i s st) (link i s ∷ []));
    }

    pub to_passed : one_waits sizes st i s ≡ false → ListedTo sizes st i (s + 1) before after
    to_passed none = record {
      size = h.size;
      few = let low = h.few in omega arith;
      links_are = h.links_are ∙ rw (to_more, none, append-nil (waiting_to (links_of sizes) sizes.cards i s st));
    }

  pub to_none : (i : ℕ) (list : OpenLinks) → ListedTo sizes st i 0 list list
  unfolding waiting_to
  to_none i list = record { size = refl; few = omega arith; links_are = sym (append-nil (links_in (listed list))) }

  pub listed_none : (numbers : List ℕ) → length numbers ≡ links → Listed sizes st 0 (record { numbers = numbers; count = 0 })
  unfolding waiting_links
  listed_none numbers long = record { size = long; few = omega arith; links_are = refl }

  pub listed_next : (i : ℕ) (list list' : OpenLinks) → Listed sizes st i list → ListedTo sizes st i sizes.cards list list' → Listed sizes st (i + 1) list'
  unfolding waiting_links
  listed_next i list list' h p = record {
    size = p.size ∙ h.size;
    few = let a = h.few in let b = p.few in omega arith;
    links_are = rw (add-one i, p.links_are, h.links_are);
  }

-- ---- one turn

-- the answer's number says whether the message was taken
err_number : (taken : Result ℕ Refusal) → is_err taken ≡ true → eqb (number_in taken) 0 ≡ false
err_number (Result.Ok sequence) err = cc
err_number (Result.Err refusal) err = ne_eqb (number_of refusal) 0 (refusal_some refusal)

ok_number : (taken : Result ℕ Refusal) → is_err taken ≡ false → eqb (number_in taken) 0 ≡ true
ok_number (Result.Ok sequence) fine = refl
ok_number (Result.Err refusal) fine = cc

module _ (sizes : Sizes) (which : ℕ) (words logs places : List ℕ) (ready : PumpReady sizes words logs places) (h : TurnReady sizes which (state_of words logs)) where
  abbrev r : ℕ
  r = sizes.cards

  abbrev k : ℕ
  k = sizes.counters

  abbrev L : ℕ
  L = sizes.log_bytes

  abbrev i : ℕ
  i = which / most_cards

  abbrev s : ℕ
  s = which % most_cards

  abbrev st : State
  st = state_of words logs

  place_is : get_or places which 0 ≡ ends_in r k L st i s
  place_is = rw (number_back which) at (ready.places_are.place i s h.is_link.0 h.is_link.1)

  pub turn_hand_ready : HandReady sizes i s (get_or places which 0) words logs
  turn_hand_ready = record {
    words_fit = ready.words_fit;
    logs_long = ready.checked.logs_fit;
    receiver = h.is_link.0;
    sender = h.is_link.1;
    stands = rw place_is (numbered_waits r k L st ready.checked i s h.is_link.0 h.is_link.1 h.waits);
  }

  some_wait : 0 < N_at r k L st s s - N_at r k L st i s
  some_wait = let w = h.waits in omega arith

  module _ (handed : Handed) (words' : List ℕ) (done : HandedOver sizes i s (get_or places which 0) words logs handed words') where
    state_then : (delivered r k L i s st).state ≡ state_of words' logs
    state_then = ap (λ stepped. stepped.state) (sym done.outcome)

    number_then : (delivered r k L i s st).answer.number ≡ number_in handed.taken
    number_then = ap (λ stepped. stepped.answer.number) (sym done.outcome)

    module _ (err : is_err handed.taken ≡ true) where
      refused : eqb (delivered r k L i s st).answer.number 0 ≡ false
      refused = rw number_then (err_number handed.taken err)

      declined_ready : PumpReady sizes words' logs places
      declined_ready =
          let same : state_of words' logs ≡ st = sym state_then ∙ (checked_orderly r k L).declined_stays i s st h.is_link ready.checked some_wait refused in
          let words_same : words' ≡ words = ap (λ state. state.words) same in
          rw words_same ready

      pub turn_declined : TurnDone sizes which st Declined (state_of words' logs) × PumpReady sizes words' logs places
      turn_declined = (record { state_is = state_then; made_is = rw refused; open_is = rw refused }, declined_ready)

    module _ (fine : is_err handed.taken ≡ false) where
      taken : eqb (delivered r k L i s st).answer.number 0 ≡ true
      taken = rw number_then (ok_number handed.taken fine)

      checked_then : Checked r k L (state_of words' logs)
      checked_then = rw state_then at (checked_after r k L i s st h.is_link ready.checked some_wait taken)

      pub turn_ready : PumpReady sizes words' logs (set places which handed.behind)
      turn_ready = record {
        words_fit =
            let fit = ready.words_fit in
            record { few_cards = fit.few_cards; few_counters = fit.few_counters; replica_is = fit.replica_is; long = rw fit.replica_is checked_then.words_fit };
        checked = checked_then;
        places_are =
            let here = rw state_then at (N_here r k L i s st h.is_link ready.checked some_wait taken) in
            let there = rw state_then at (N_there r k L i s st h.is_link ready.checked some_wait taken) in
            let far : ℕ = called_length version_2 (drop (ends_in r k L st i s) (part L logs s)) in
            let moved = places_move r (ends_in r k L st) (ends_in r k L (state_of words' logs)) places i s far ready.words_fit.few_cards h.is_link.0 h.is_link.1
            ready.places_are (rw (here, add-one (N_at r k L st i s)) (end_behind r k L st ready.checked i s h.is_link.0 h.is_link.1 h.waits))
            (λ j t hj ht other. rw (there j t ht other)) in
            rw (done.behind, place_is) (rw (number_back which) at moved);
      }

      turn_open : one_waits sizes (state_of words' logs) i s ≡ true → TurnDone sizes which st Open (state_of words' logs)
      turn_open more = record {
        state_is = state_then;
        made_is = sym taken;
        open_is = rw (taken, waits_test (had sizes (state_of words' logs) s s) (had sizes (state_of words' logs) i s), more);
      }

      turn_done : one_waits sizes (state_of words' logs) i s ≡ false → TurnDone sizes which st Done (state_of words' logs)
      turn_done more = record {
        state_is = state_then;
        made_is = sym taken;
        open_is = rw (taken, waits_test (had sizes (state_of words' logs) s s) (had sizes (state_of words' logs) i s), more);
      }

      pub turn_taken : (turn : Turn) → turn ≡ cond (one_waits sizes (state_of words' logs) i s) Open Done
          → TurnDone sizes which st turn (state_of words' logs) × PumpReady sizes words' logs (set places which handed.behind)
      turn_taken turn is =
          (rw is (by_test (one_waits sizes (state_of words' logs) i s) (λ t. rw t (turn_open t)) (λ f. rw f (turn_done f))), turn_ready)

-- ---- a round

module _ (sizes : Sizes) (b : ℕ) where
  -- a round over these links from these words on
  abbrev pub over : List Link → ℕ → State → Served (links_of sizes) sizes.cards b
  over ls n st = serve (links_of sizes) sizes.cards b ls n st

  serve_first : (l : Link) (ls : List Link) (n : ℕ) (st : State) → n < b
      → let a = (links_of sizes).attempt l.receiver l.sender st in
      let rest = over ls (cond a.accepted (suc n) n) a.state in
      over (l ∷ ls) n st
      ≡ record {
        state = rest.state;
        count = rest.count;
        open_links = cond (a.accepted && ltb 0 ((links_of sizes).waiting l.receiver l.sender a.state)) (l ∷ rest.open_links) rest.open_links;
      }
  unfolding serve
  serve_first l ls n st room = rw (lt-ltb n b room)

  -- the links that are left of a round over the first `count`, when it has come to `next`
  abbrev left : ℕ → ℕ → List ℕ → List Link
  left count next numbers = links_in (take (count - next) (drop next numbers))

  module _ (made count : ℕ) (st₀ : State) (numbers₀ : List ℕ) where
    abbrev whole : Served (links_of sizes) sizes.cards b
    whole = over (links_in (take count numbers₀)) made st₀

    pub record Rounding (st : State) (numbers : List ℕ) (n kept next : ℕ) : Type 0 where
      pub size : length numbers ≡ links
      pub few : count ≤ links
      pub behind : kept ≤ next
      pub within : next ≤ count
      pub visits : AllVisit sizes b (left count next numbers) st
      pub state_is : (over (left count next numbers) n st).state ≡ whole.state
      pub made_is : (over (left count next numbers) n st).count ≡ whole.count
      pub open_are : links_in (take kept numbers) ++ (over (left count next numbers) n st).open_links ≡ whole.open_links

    module _ (st : State) (numbers : List ℕ) (n kept next : ℕ) (h : Rounding st numbers n kept next) where
      pub rounding_done : (count ≤ next) ⊎ (b ≤ n)
          → RoundDone sizes b made st₀ (record { numbers = numbers₀; count = count }) n st (record { numbers = numbers; count = kept })
      rounding_done end =
          let over_now : over (left count next numbers) n st ≡ record { state = st; count = n; open_links = [] } = ended end in
          record {
            size = h.size;
            few = let a = h.behind in let c = h.within in omega arith;
            state_is = sym h.state_is ∙ rw over_now;
            made_is = sym h.made_is ∙ rw over_now;
            open_are = sym h.open_are ∙ rw over_now (append-nil (links_in (take kept numbers)));
          }
        where
          ended : (count ≤ next) ⊎ (b ≤ n) → over (left count next numbers) n st ≡ record { state = st; count = n; open_links = [] }
          ended (inl done) = let none : count - next ≡ 0 = omega arith in rw none (serve_none (links_of sizes) sizes.cards b n st)
          ended (inr full) = serve_full (links_of sizes) sizes.cards b (left count next numbers) n st full

      module _ (more : next < count) where
        abbrev which : ℕ
        which = get_or numbers next 0

        abbrev others : List Link
        others = links_in (take (count - suc next) (drop (suc next) numbers))

        left_first : left count next numbers ≡ link_of which ∷ others
        left_first =
            let one : count - next ≡ suc (count - suc next) = omega arith in
            let inside : next < length numbers = let long = h.size in let few = h.few in omega arith in
            rw (one, drop-cons numbers next 0 inside)

        first_visits : AllVisit sizes b (link_of which ∷ others) st
        first_visits = rw left_first at h.visits

        pub rounding_turn : TurnReady sizes which st
        rounding_turn = record {
          is_link = first_visits.wait.0.0;
          waits = let w = first_visits.wait.0.1 in omega arith;
        }

        module _ (room : n < b) (turn : Turn) (st' : State) (done : TurnDone sizes which st turn st') where
          abbrev counted : ℕ
          counted = cond (was_taken turn) (n + 1) n

          abbrev rest : Served (links_of sizes) sizes.cards b
          rest = over others counted st'

          first_served : over (left count next numbers) n st
              ≡ record { state = rest.state; count = rest.count; open_links = cond (is_open turn) (link_of which ∷ rest.open_links) rest.open_links }
          first_served =
              let more : n + 1 ≡ suc n = add-one n in
              rw (more, done.made_is, done.open_is)
              (ap (λ ls. over ls n st) left_first ∙ (rw done.state_is at (serve_first (link_of which) others n st room)))

          -- the links that are left, and those that are kept, the one of this turn among them if it is still open
          module _ (numbers' : List ℕ) (kept' : ℕ) (size' : length numbers' ≡ links) (behind' : kept' ≤ next + 1) (left_now : left count (next + 1) numbers' ≡ others)
              (kept_now : links_in (take kept' numbers') ++ rest.open_links ≡ links_in (take kept numbers) ++ cond (is_open turn) (link_of which ∷ rest.open_links) rest.open_links) where
            rounding_next : Rounding st' numbers' counted kept' (next + 1)
            rounding_next = record {
              size = size';
              few = h.few;
              behind = behind';
              within = omega arith;
              visits = rw (left_now, ← done.state_is) (visits_next (links_of sizes) sizes.cards b _ _ (link_of which) others st first_visits);
              state_is = rw left_now (sym (ap (λ v. v.state) first_served) ∙ h.state_is);
              made_is = rw left_now (sym (ap (λ v. v.count) first_served) ∙ h.made_is);
              open_are = rw left_now (kept_now ∙ (rw first_served at h.open_are));
            }

          pub rounding_kept : is_open turn ≡ true → Rounding st' (set numbers kept which) counted (kept + 1) (next + 1)
          rounding_kept stays =
              let inside : kept < length numbers = let long = h.size in let few = h.few in let l = h.behind in omega arith in
              rounding_next (set numbers kept which) (kept + 1) (length-set numbers kept which ∙ h.size) (let l = h.behind in omega arith)
              (rw (add-one next, drop-set-lt (suc next) numbers kept which (let l = h.behind in omega arith)))
              (rw (stays, add-one kept, take-suc-set numbers kept which inside, map-append link_of (take kept numbers) (which ∷ []))
              (append_assoc (links_in (take kept numbers)) (link_of which ∷ []) rest.open_links))

          pub rounding_left_out : is_open turn ≡ false → Rounding st' numbers counted kept (next + 1)
          rounding_left_out none = rounding_next numbers kept h.size (let l = h.behind in omega arith) (rw (add-one next)) (rw none)

-- ---- all rounds

module _ (sizes : Sizes) (b : ℕ) (st₀ : State) where
  abbrev Good : State → Type 0
  Good = Checked sizes.cards sizes.counters sizes.log_bytes

  abbrev orderly : Orderly (links_of sizes) sizes.cards Good
  orderly = checked_orderly sizes.cards sizes.counters sizes.log_bytes

  -- so many deliveries are made, and the first `count` links of the list are open
  pub record Pumping (st : State) (list : OpenLinks) (made : ℕ) : Type 0 where
    pub size : length list.numbers ≡ links
    pub few : list.count ≤ links
    pub room : made ≤ b
    pub serving : Serving (links_of sizes) sizes.cards b Good orderly st₀ (links_in (listed list)) made st

  pub pumping_begins : (list : OpenLinks) → sizes.cards ≤ most_cards → Good st₀ → Listed sizes st₀ sizes.cards list → Pumping st₀ list 0
  pumping_begins list small g from = record {
    size = from.size;
    few = let few = from.few in let all : sizes.cards * sizes.cards ≤ most_cards * most_cards = mul-le-mul small small in omega arith;
    room = omega arith;
    serving = rw from.links_are (serving_begins (links_of sizes) sizes.cards b Good orderly st₀ g);
  }

  module _ (st : State) (list : OpenLinks) (made : ℕ) (h : Pumping st list made) where
    links_long : length (links_in (listed list)) ≡ list.count
    links_long = length-map (listed list) link_of ∙ length-take-le list.count list.numbers (let long = h.size in let few = h.few in omega arith)

    pub pumping_round : made < b → RoundReady sizes b st list
    pumping_round more = record {
      size = h.size;
      few = h.few;
      visits = serving_visits (links_of sizes) sizes.cards b Good orderly st₀ (links_in (listed list)) made st h.serving more;
    }

    pub pumping_done : (list.count ≤ 0) ⊎ (b ≤ made) → PumpDone sizes b st₀ made st
    pumping_done end =
        let all = serving_done (links_of sizes) sizes.cards b Good orderly st₀ (links_in (listed list)) made st h.serving (ended end) in
        record { state_is = all.0; made_is = all.1 }
      where
        ended : (list.count ≤ 0) ⊎ (b ≤ made) → (b ≤ made) ⊎ (links_in (listed list) ≡ [])
        ended (inl few) = let none : list.count ≡ 0 = omega arith in inr (rw none)
        ended (inr full) = inl full

    module _ (more : made < b) (made' : ℕ) (st' : State) (list' : OpenLinks) (done : RoundDone sizes b made st list made' st' list') where
      pub pumping_next : Pumping st' list' made'
      pumping_next = record {
        size = done.size;
        few = let a = done.few in let few = h.few in omega arith;
        room = rw (← done.made_is) (serve_room (links_of sizes) sizes.cards b (links_in (listed list)) made st h.room);
        serving =
            rw (← done.open_are, ← done.made_is, ← done.state_is)
            (serving_next (links_of sizes) sizes.cards b Good orderly st₀ (links_in (listed list)) made st h.serving more);
      }

      -- the end is nearer
      pub pumping_less : 0 < list.count → (b - made') + list'.count < (b - made) + list.count
      pumping_less some =
          let less = nearer (links_in (listed list)) (rw links_long some) in
          let long' : length (links_in (listed list')) ≡ list'.count
          = length-map (listed list') link_of ∙ length-take-le list'.count list'.numbers (let long = done.size in let a = done.few in let few = h.few in omega arith) in
          rw (done.made_is, done.open_are, long', links_long) at less
        where
          nearer : (ls : List Link) → 0 < length ls
              → let v = over sizes b ls made st in (b - v.count) + length v.open_links < (b - made) + length ls
          nearer [] none = absurd (omega arith)
          nearer (l ∷ ls) some = serve_less (links_of sizes) sizes.cards b l ls made st more
