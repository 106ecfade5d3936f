-- LAWS. `deliver_pending` by its open links. A link on which nothing waits, or that is passed over, stays so; so a round over the links on which one waits
-- (`serve`) does what a round over all of them does, and the next round is over those of them that it found open behind their delivery. Rounds over open
-- links, until none is left or b deliveries are made, are the call (`serving_done`). What is done for each delivery is then one attempt and no search.
use Prim.Native.Nat.{ℕ, zero, suc, ◌+◌, ◌-◌, ◌≤◌, ◌<◌}
use Rattle.std.specs.Prelude.{◌≡◌, true, false, not, cond, ◌&&◌, ◌⊎◌, eqb, ltb}
use Rattle.std.proofs.Math.Path.{refl, sym}
use Rattle.std.proofs.Common.{ap, ◌∙◌, inl, inr}
use mathlib.Core.List.{List, [], ◌∷◌, ◌++◌}
use native.Mathlib.Omega.{arith}
use Rattle.std.proofs.Math.ListN.{length, length-append}
use borrow.Author.Tests.{lt-ltb, le-ltb, ne_eqb}
use Rattle.protocol.proofs.Cases.{by_test, by_le}
use Rattle.protocol.specs.RoundRobin.{Link, link, IsLink, Transport, Progress, receivers, rounds, deliver_pending, times, Orderly}
use Rattle.protocol.proofs.RoundRobinLaws.{begun, moved, passed_over, passed_now, turn_cases}
use Rattle.protocol.proofs.RoundRobinEnd.{NoneDue, settled, quiet_round, rounds_ok, rounds_grow}
use Rattle.protocol.proofs.RoundRobinTurns.{times_of, times_same, times_rest, links_to, all_links, AllBelow, keep, keep_append, turn_of, turns, turns_full, is_open, open_of, open_due, AllOpen, all_open, open_first, open_rest, attempt_good, attempt_others, turn_good, turn_others, turns_others, round_open, round_narrows}

-- ---- what the code does

module _ {S : Type 0} (t : Transport S) (r : ℕ) where
  -- the links to receiver i from the first n senders on which one waits, in the order of a round
  unfoldable pub waiting_to : ℕ → ℕ → S → List Link
  waiting_to i zero st = []
  waiting_to i (suc n) st = waiting_to i n st ++ cond (not (eqb i n) && ltb 0 (t.waiting i n st)) (link i n ∷ []) []

  -- those of the first n receivers
  unfoldable pub waiting_links : ℕ → S → List Link
  waiting_links zero st = []
  waiting_links (suc n) st = waiting_links n st ++ waiting_to n r st

module _ {S : Type 0} (t : Transport S) (r b : ℕ) where
  -- what a round over open links leaves: the state, the deliveries made so far, and the links that are still open
  pub record Served : Type 0 where
    pub state : S
    pub count : ℕ
    pub open_links : List Link

  -- a round over a list of open links, with n deliveries made before it
  unfoldable pub serve : List Link → ℕ → S → Served
  serve [] n st = record { state = st; count = n; open_links = [] }
  serve (l ∷ ls) n st =
      let a = t.attempt l.receiver l.sender st in
      let rest = serve ls (cond a.accepted (suc n) n) a.state in
      cond (ltb n b)
      (record {
        state = rest.state;
        count = rest.count;
        open_links = cond (a.accepted && ltb 0 (t.waiting l.receiver l.sender a.state)) (l ∷ rest.open_links) rest.open_links;
      })
      (record { state = st; count = n; open_links = [] })

  -- ---- one turn of it

  pub serve_none : (n : ℕ) (st : S) → serve [] n st ≡ record { state = st; count = n; open_links = [] }
  unfolding serve
  serve_none n st = refl

  pub serve_full : (ls : List Link) (n : ℕ) (st : S) → b ≤ n → serve ls n st ≡ record { state = st; count = n; open_links = [] }
  unfolding serve
  serve_full [] n st full = refl
  serve_full (l ∷ ls) n st full = rw (le-ltb n b full)

  module _ (l : Link) (ls : List Link) (n : ℕ) (st : S) (room : n < b) where
    -- it is made, and another one waits
    serve_kept : (t.attempt l.receiver l.sender st).accepted ≡ true
        → 0 < t.waiting l.receiver l.sender (t.attempt l.receiver l.sender st).state
        → let rest = serve ls (suc n) (t.attempt l.receiver l.sender st).state in
        serve (l ∷ ls) n st ≡ record { state = rest.state; count = rest.count; open_links = l ∷ rest.open_links }
    unfolding serve
    serve_kept made more = rw (lt-ltb n b room, made, lt-ltb 0 _ more)

    -- it is made, and no other waits
    serve_emptied : (t.attempt l.receiver l.sender st).accepted ≡ true
        → t.waiting l.receiver l.sender (t.attempt l.receiver l.sender st).state ≡ 0
        → serve (l ∷ ls) n st ≡ serve ls (suc n) (t.attempt l.receiver l.sender st).state
    unfolding serve
    serve_emptied made none = rw (lt-ltb n b room, made, none)

    -- it is declined
    serve_declined : (t.attempt l.receiver l.sender st).accepted ≡ false
        → serve (l ∷ ls) n st ≡ serve ls n (t.attempt l.receiver l.sender st).state
    unfolding serve
    serve_declined declined = rw (lt-ltb n b room, declined)

  -- there is no room, or it is declined, or it is made and no other waits or one does
  serve_cases : (P : Served → Type 0) (l : Link) (ls : List Link) (n : ℕ) (st : S) → let after = (t.attempt l.receiver l.sender st).state in
      let rest = serve ls (suc n) after in
      (b ≤ n → P (record { state = st; count = n; open_links = [] })) → P (serve ls n after) → (n < b → P rest)
      → (n < b → P (record { state = rest.state; count = rest.count; open_links = l ∷ rest.open_links })) → P (serve (l ∷ ls) n st)
  serve_cases P l ls n st full declined emptied kept =
      by_le b n
      (λ h. rw (serve_full (l ∷ ls) n st h) (full h))
      (λ h. by_test (t.attempt l.receiver l.sender st).accepted
      (λ a. by_le (t.waiting l.receiver l.sender (t.attempt l.receiver l.sender st).state) 0
      (λ z. rw (serve_emptied l ls n st h a (omega arith)) (emptied h))
      (λ m. rw (serve_kept l ls n st h a m) (kept h)))
      (λ a. rw (serve_declined l ls n st h a) declined))

  -- ---- no more than b deliveries, and an end

  pub serve_room : (ls : List Link) (n : ℕ) (st : S) → n ≤ b → (serve ls n st).count ≤ b
  serve_room [] n st m = rw (serve_none n st) m
  serve_room (l ∷ ls) n st m =
      let after = (t.attempt l.receiver l.sender st).state in
      serve_cases (λ v. v.count ≤ b) l ls n st (λ h. m) (serve_room ls n after m) (serve_room ls (suc n) after) (serve_room ls (suc n) after)

  -- no link is added, and none of the deliveries made before is forgotten
  serve_fewer : (ls : List Link) (n : ℕ) (st : S) → (length (serve ls n st).open_links ≤ length ls) × (n ≤ (serve ls n st).count)
  serve_fewer [] n st = rw (serve_none n st) (omega arith)
  serve_fewer (l ∷ ls) n st =
      let after = (t.attempt l.receiver l.sender st).state in
      let same = serve_fewer ls n after in
      let more = serve_fewer ls (suc n) after in
      serve_cases (λ v. (length v.open_links ≤ length (l ∷ ls)) × (n ≤ v.count)) l ls n st
      (λ h. omega arith) (omega arith) (λ h. omega arith) (λ h. omega arith)

  -- each link that is visited is served or dropped, so a round that visits one brings the end nearer
  pub serve_less : (l : Link) (ls : List Link) (n : ℕ) (st : S) → n < b
      → let v = serve (l ∷ ls) n st in (b - v.count) + length v.open_links < (b - n) + length (l ∷ ls)
  serve_less l ls n st room =
      let after = (t.attempt l.receiver l.sender st).state in
      let same = serve_fewer ls n after in
      let more = serve_fewer ls (suc n) after in
      serve_cases (λ v. (b - v.count) + length v.open_links < (b - n) + length (l ∷ ls)) l ls n st
      (λ h. omega arith) (omega arith) (λ h. omega arith) (λ h. omega arith)

  -- at the beginning of a call they are the open ones
  waiting_to_open : (i n : ℕ) (st : S) → waiting_to t r i n st ≡ open_of t r b (begun st) (links_to i n)
  unfolding waiting_to links_to keep
  waiting_to_open i zero st = refl
  waiting_to_open i (suc n) st = rw (keep_append (λ l. is_open t r b l (begun st)) (links_to i n) (link i n ∷ []), ← (waiting_to_open i n st))

  waiting_links_open : (n : ℕ) (st : S) → waiting_links t r n st ≡ open_of t r b (begun st) (all_links r n)
  unfolding waiting_links all_links keep
  waiting_links_open zero st = refl
  waiting_links_open (suc n) st =
      rw (keep_append (λ l. is_open t r b l (begun st)) (all_links r n) (links_to n r), ← (waiting_links_open n st), ← (waiting_to_open n r st))

  -- ---- it is the call

  module _ (Good : S → Type 0) (o : Orderly t r Good) where
    -- links of the chassis on each of which one waits
    abbrev pub AllWait : List Link → S → Type 0
    AllWait [] st = Unit {0}
    AllWait (l ∷ ls) st = (IsLink r l.receiver l.sender × (0 < t.waiting l.receiver l.sender st)) × AllWait ls st

    -- the links that a round has still to visit: each once, and one waits on each
    pub record Visits (ls : List Link) (st : S) : Type 0 where
      pub good : Good st
      pub wait : AllWait ls st
      pub once : (i s : ℕ) → times i s ls ≤ 1

    -- an attempt on the first of them, made or declined, leaves the others waiting
    pub visits_next : (l : Link) (ls : List Link) (st : S) → Visits (l ∷ ls) st → Visits ls (t.attempt l.receiver l.sender st).state
    visits_next l ls st v = record {
      good = attempt_good t r b Good o l st v.wait.0.0 v.good v.wait.0.1;
      wait = let h = v.once l.receiver l.sender in others ls (omega (arith, times_same l l ls refl)) v.wait.1;
      once = λ i s. let h = v.once i s in omega (arith, times_rest (link i s) l ls);
    }
      where
        others : (ms : List Link) → times_of l ms ≡ 0 → AllWait ms st → AllWait ms (t.attempt l.receiver l.sender st).state
        others [] z a = tt
        others (m ∷ ms) z a =
            let far : m ≡ l → ⊥ = λ e. let x = times_same l m ms (sym e) in omega arith in
            let same = attempt_others t r b Good o l st v.wait.0.0 v.good v.wait.0.1 m a.0.0 far in
            ((a.0.0, rw same a.0.1), others ms (omega (arith, times_rest l m ms)) a.1)

    -- ---- a round over open links

    -- on open links one waits
    all_wait : (ls : List Link) (p : Progress S) → length p.made < b → AllOpen t r b ls p → AllWait ls p.state
    all_wait [] p room h = tt
    all_wait (l ∷ ls) p room h =
        let first = open_first t r b l ls p h in
        let d = open_due t r b l p room first.1 in
        (((first.0.0, first.0.1, d.apart), d.waits), all_wait ls p room (open_rest t r b l ls p p h (λ m k far. refl)))

    -- v is what the turns of ls leave
    abbrev Leaves : List Link → Progress S → Served → Type 0
    Leaves ls p v = (p.state ≡ v.state) × (length p.made ≡ v.count) × (v.count < b → v.open_links ≡ open_of t r b p ls)

    -- the turn of its first link, and then the turns of the rest
    serve_turn : (l : Link) (ls : List Link) (p : Progress S) → AllOpen t r b (l ∷ ls) p → length p.made < b → Good (turn_of t r b l p).state
        → Leaves ls (turns t r b ls (turn_of t r b l p)) (serve ls (length (turn_of t r b l p).made) (turn_of t r b l p).state)
        → Leaves (l ∷ ls) (turns t r b ls (turn_of t r b l p)) (serve (l ∷ ls) (length p.made) p.state)
    unfolding serve keep
    serve_turn l ls p h room =
        let first = open_first t r b l ls p h in
        let rest : AllBelow r ls = λ m x. ((h m).1 (omega (arith, times_rest m l ls))).0 in
        let stays : (q : Progress S) → Good q.state → is_open t r b l (turns t r b ls q) ≡ is_open t r b l q
        = λ q g. let once = (h l).0 in turns_others t r b Good o l ls q first.0 rest g (omega (arith, times_same l l ls refl)) in
        turn_cases t r b
        (λ q. Good q.state → Leaves ls (turns t r b ls q) (serve ls (length q.made) q.state)
        → Leaves (l ∷ ls) (turns t r b ls q) (serve (l ∷ ls) (length p.made) p.state))
        l.receiver l.sender p
        (λ d a g v.
        let e : length (p.made ++ l ∷ []) ≡ suc (length p.made) = length-append p.made (l ∷ []) ∙ omega arith in
        let w = rw e at v in
        rw (lt-ltb (length p.made) b room, a)
        (w.0, w.1, λ x. rw (w.2 x, stays (moved t l.receiver l.sender p) g, ne_eqb l.receiver l.sender d.apart, d.open_yet)))
        (λ d a g v.
        let gone = passed_now l.receiver l.sender p.passed in
        rw (lt-ltb (length p.made) b room, a)
        (v.0, v.1, λ x. rw (v.2 x, stays (passed_over t l.receiver l.sender p) g, ne_eqb l.receiver l.sender d.apart, gone)))
        (λ idle. absurd (idle (open_due t r b l p room first.1)))

    -- where there is no room; and in any case
    serve_turns_full : (ls : List Link) (p : Progress S) → b ≤ length p.made → Leaves ls (turns t r b ls p) (serve ls (length p.made) p.state)
    serve_turns_full ls p full = rw (turns_full t r b ls p full, serve_full ls (length p.made) p.state full) (refl, refl, λ room. absurd (omega arith))

    serve_turns : (ls : List Link) (p : Progress S) → AllOpen t r b ls p → Good p.state
        → Leaves ls (turns t r b ls p) (serve ls (length p.made) p.state)
    unfolding serve keep turns
    serve_turns [] p h g = (refl, refl, λ room. refl)
    serve_turns (l ∷ ls) p h g =
        let k = (open_first t r b l ls p h).0 in
        let good = turn_good t r b Good o l p k g in
        let next = open_rest t r b l ls p (turn_of t r b l p) h (turn_others t r b Good o l p k g) in
        by_le b (length p.made)
        (λ full. serve_turns_full (l ∷ ls) p full)
        (λ room. serve_turn l ls p h room good (serve_turns ls (turn_of t r b l p) next good))

    -- a round over the links that are open is a round
    serve_round : (p : Progress S) → Good p.state
        → Leaves (all_links r r) (receivers t r b r p) (serve (open_of t r b p (all_links r r)) (length p.made) p.state)
    serve_round p g =
        let v = rw (← (round_open t r b Good o p g)) at (serve_turns (open_of t r b p (all_links r r)) p (all_open t r b p) g) in
        (v.0, v.1, λ room. v.2 room ∙ round_narrows t r b Good o p g)

    -- ---- rounds

    -- after some rounds of the call from st₀ on: n deliveries are made, st is the state, and where b allows another, `ls` are the links that are open
    pub record Serving (st₀ : S) (ls : List Link) (n : ℕ) (st : S) : Type 0 where
      pub so_far : ℕ
      good_before : Good st₀
      state_is : (rounds t r b so_far (begun st₀)).state ≡ st
      made_is : length (rounds t r b so_far (begun st₀)).made ≡ n
      open_are : n < b → ls ≡ open_of t r b (rounds t r b so_far (begun st₀)) (all_links r r)

    pub serving_begins : (st₀ : S) → Good st₀ → Serving st₀ (waiting_links t r r st₀) 0 st₀
    unfolding rounds
    serving_begins st₀ g = record { so_far = 0; good_before = g; state_is = refl; made_is = refl; open_are = λ room. waiting_links_open r st₀ }

    serving_good : (st₀ : S) (ls : List Link) (n : ℕ) (st : S) → Serving st₀ ls n st → Good st
    serving_good st₀ ls n st h = rw (← h.state_is) (rounds_ok t r b Good o st₀ h.good_before h.so_far).good

    pub serving_visits : (st₀ : S) (ls : List Link) (n : ℕ) (st : S) → Serving st₀ ls n st → n < b → Visits ls st
    serving_visits st₀ ls n st h room =
        let p = rounds t r b h.so_far (begun st₀) in
        let a = rw (← (h.open_are room)) at (all_open t r b p) in
        record {
          good = serving_good st₀ ls n st h;
          wait = rw h.state_is at (all_wait ls p (rw h.made_is room) a);
          once = λ i s. (a (link i s)).0;
        }

    pub serving_next : (st₀ : S) (ls : List Link) (n : ℕ) (st : S) → Serving st₀ ls n st → n < b
        → Serving st₀ (serve ls n st).open_links (serve ls n st).count (serve ls n st).state
    unfolding rounds
    serving_next st₀ ls n st h room =
        let v = serve_round (rounds t r b h.so_far (begun st₀)) (rounds_ok t r b Good o st₀ h.good_before h.so_far).good in
        let w = rw (← (h.open_are room), h.made_is, h.state_is) at v in
        record { so_far = suc h.so_far; good_before = h.good_before; state_is = w.0; made_is = w.1; open_are = w.2 }

    pub serving_done : (st₀ : S) (ls : List Link) (n : ℕ) (st : S) → Serving st₀ ls n st → (b ≤ n) ⊎ (ls ≡ [])
        → ((deliver_pending t r b st₀).state ≡ st) × (length (deliver_pending t r b st₀).made ≡ n)
    unfolding deliver_pending turns
    serving_done st₀ ls n st h end =
        let e : rounds t r b b (begun st₀) ≡ p
        = by_le h.so_far b
        (λ l. settled t r b h.so_far b (begun st₀) l (by_le b n (λ full. none_full p (rw h.made_is full)) (λ room. none_open (empty end room) room)))
        (λ l. sym (settled t r b b h.so_far (begun st₀) (omega arith) (none_last (rounds_grow t r b Good o st₀ h.good_before b)))) in
        (rw e h.state_is, rw e h.made_is)
      where
        p : Progress S
        p = rounds t r b h.so_far (begun st₀)

        empty : (b ≤ n) ⊎ (ls ≡ []) → n < b → ls ≡ []
        empty (inl full) room = absurd (omega arith)
        empty (inr e) room = e

        none_full : (q : Progress S) → b ≤ length q.made → NoneDue t r b q
        none_full q full i s k d = let x = d.room in omega arith

        none_open : ls ≡ [] → n < b → NoneDue t r b p
        none_open e room =
            let g = (rounds_ok t r b Good o st₀ h.good_before h.so_far).good in
            let same : receivers t r b r p ≡ p = round_open t r b Good o p g ∙ ap (λ ms. turns t r b ms p) (sym (h.open_are room) ∙ e) in
            rw same at (quiet_round t r b Good o p g (rw same (omega arith)))

        none_last : (b ≤ length (rounds t r b b (begun st₀)).made) ⊎ NoneDue t r b (rounds t r b b (begun st₀)) → NoneDue t r b (rounds t r b b (begun st₀))
        none_last (inl full) = none_full (rounds t r b b (begun st₀)) full
        none_last (inr none) = none
