-- LAWS. A walk along a log, message by message (`stands_next`, `stands_not`), and finding the places of a sender's links on the way (`Finding`); and what waits
-- at such a place (`numbered_waits`).
use Rattle.std.specs.Prelude.{ℕ, zero, suc, ◌+◌, ◌≤◌, ◌<◌, ◌≡◌, refl, Bool, true, false, cond, ◌&&◌, min, Option, List, ◌++◌, leb, ltb, eqb, take, drop, get_or, set}
use Rattle.std.proofs.Math.Path.{sym}
use Rattle.std.proofs.Common.{ap, ◌∙◌, sub-one, length-drop, length-set, drop-drop, length-take-le, take-append-drop, get_or-set_same, get_or-set_other}
use Rattle.std.proofs.Math.Bool.{and-false}
use Rattle.std.proofs.lemmas.Bool.{false≢true}
use native.Mathlib.Omega.{arith}
use Rattle.std.proofs.Math.ListN.{length}
use borrow.Author.Tests.{leb-true, eq-eqb, ne_eqb, lt-ltb, le-ltb}
use Rattle.protocol.specs.Limits.{most_cards}
use Rattle.protocol.proofs.Cases.{by_test, by_place, by_le, and_yes, and_no_left, and_no_right, not_yes}
use Rattle.protocol.proofs.AcceptanceLaws.{tests, below_facts, below_from}
use Rattle.wire.specs.Number.{int_width, hyper_width, int_at, hyper_at}
use Rattle.wire.specs.Message.{clear_kind, shortest_message, kind_at, sender_at, sequence_at, increment_message, clear_message}
use Rattle.wire.specs.Message.{version_2, called_length, message_at, reads, front_length}
use Rattle.wire.specs.NumberLaws.{number_at_left}
use Rattle.wire.specs.Claims.{front_reads}
use Rattle.wire.specs.RoundTrips.{read_long}
use Rattle.wire.specs.Told.{unless_0}
use Rattle.chassis.proofs.LogWalkLaws.{length_there, length_missing}
use Rattle.chassis_model.proofs.ListPartsLaws.{part_length}
use Rattle.chassis_model.specs.Log.{waiting_part, end_of}
use Rattle.chassis_model.proofs.LogLaws.{waiting_here, waiting_none, waiting_next}
use Rattle.chassis_model.specs.Run.{State, log_of, N_at}
use Rattle.chassis_model.proofs.Ends.{ends_within, ends_in}
use Rattle.chassis_model.proofs.Places.{links, link_place, WaitsAt}
use Rattle.chassis_model.specs.Pending.{is_numbered, begins_with, log_right}
use Rattle.chassis_model.proofs.PendingChecked.{Checked}
use Rattle.lent.specs.declared.Replicas.{Replicas}
use Rattle.lent.specs.Each.{below_fails}
use Rattle.lent.specs.Lent.{lent_log, received, next_place, none_ahead, is_log_right, are_logs_right, numbered_length, Missing, Arrived, NextStop, Marked, Found, AllFound}

-- ---- the messages of a log, one by one

-- the first one passed
end_of_rest : (n : ℕ) (log : List ℕ) → end_of (suc n) log ≡ front_length version_2 log + end_of n (drop (front_length version_2 log) log)
unfolding end_of
end_of_rest n log = refl

end_of_next : (n : ℕ) (log : List ℕ) → end_of (suc n) log ≡ end_of n log + front_length version_2 (drop (end_of n log) log)
unfolding end_of
end_of_next zero log = omega arith
end_of_next (suc n) log =
    let f = front_length version_2 log in
    let rest = drop f log in
    let more = end_of_next n rest in
    let same : drop (end_of n rest) rest ≡ drop (f + end_of n rest) log = drop-drop (end_of n rest) f log in
    end_of_rest (suc n) log ∙ rw (end_of_rest n log, ← same) (omega arith)

-- where none stands at the front, none stands behind it
ends_nowhere : (n : ℕ) (log : List ℕ) → front_length version_2 log ≡ 0 → end_of n log ≡ 0
unfolding end_of
ends_nowhere zero log none = refl
ends_nowhere (suc n) log none = end_of_rest n log ∙ rw none (omega (arith, ends_nowhere n log none))

-- message number n + 1 is at the front of what follows the first n
pub waiting_at : (n : ℕ) (log : List ℕ) → waiting_part (suc n) log ≡ take (front_length version_2 (drop (end_of n log) log)) (drop (end_of n log) log)
unfolding end_of
waiting_at zero log = waiting_here 1 log refl
waiting_at (suc n) log =
    let f = front_length version_2 log in
    let rest = drop f log in
    by_place f 0
    (λ e. waiting_none (suc (suc n)) log (omega arith) e ∙ rw (ends_nowhere (suc n) log e, e))
    (λ d.
    let same : drop (end_of n rest) rest ≡ drop (f + end_of n rest) log = drop-drop (end_of n rest) f log in
    sym (rw sub-one at (waiting_next (suc (suc n)) log (omega arith) d)) ∙ waiting_at n rest ∙ rw (end_of_rest n log, same))

-- ---- the sender and the number of a message

pub header_of : (s : List ℕ) → ((message_at version_2 s).sender ≡ int_at s sender_at) × ((message_at version_2 s).sequence ≡ hyper_at s sequence_at)
unfolding message_at increment_message clear_message
header_of s = by_test (eqb (int_at s kind_at) clear_kind) (λ e. rw e (refl, refl)) (λ e. rw e (refl, refl))

-- a message that stands at the front is not empty
pub front_long : (rest : List ℕ) → (front_length version_2 rest ≡ 0 → ⊥) → shortest_message ≤ front_length version_2 rest
front_long rest some =
    let front = front_reads version_2 rest (omega arith) in
    rw (length-take-le (front_length version_2 rest) rest front.1) at (read_long version_2 (take (front_length version_2 rest) rest) front.0)

pub front_inside : (rest : List ℕ) → (front_length version_2 rest ≡ 0 → ⊥) → shortest_message ≤ length rest
front_inside rest some = omega (arith, front_long rest some, (front_reads version_2 rest (omega arith)).1)

-- the message at the front of a list of bytes
module _ (s q : ℕ) (rest : List ℕ) where
  abbrev front : List ℕ
  front = take (front_length version_2 rest) rest

  numbered_there : is_numbered s q front ≡ true → front_length version_2 rest ≡ 0 → ⊥
  unfolding is_numbered
  numbered_there h e =
      let f = simp tests at h in
      let none : shortest_message ≤ length (take 0 rest) = rw e at (read_long version_2 front f.0.0) in
      omega arith

  -- its header is that of the bytes behind it too
  pub numbered_some : (front_length version_2 rest ≡ 0 → ⊥) → is_numbered s q front ≡ eqb (int_at rest sender_at) s && eqb (hyper_at rest sequence_at) q
  unfolding is_numbered
  numbered_some d =
      let long : shortest_message ≤ length front = read_long version_2 front (front_reads version_2 rest (omega arith)).0 in
      let behind = drop (front_length version_2 rest) rest in
      let sender : int_at (front ++ behind) sender_at ≡ int_at front sender_at = number_at_left int_width front behind sender_at (omega arith) in
      let sequence : hyper_at (front ++ behind) sequence_at ≡ hyper_at front sequence_at = number_at_left hyper_width front behind sequence_at (omega arith) in
      rw ((front_reads version_2 rest (omega arith)).0, (header_of front).0, (header_of front).1, ← sender, ← sequence, take-append-drop)

-- ---- a walk

-- message number n + 1 of card s is looked for behind the first n
module _ (log : List ℕ) (s n at : ℕ) (place : at ≡ end_of n log) where
  abbrev is_there : Bool
  is_there = is_numbered s (suc n) (waiting_part (suc n) log)

  same : is_numbered s (suc n) (take (front_length version_2 (drop at log)) (drop at log)) ≡ is_there
  same = rw (waiting_at n log, place)

  pub stands_next : (a : ℕ) → Option.Some a ≡ unless_0 (numbered_length s (suc n) (drop at log)) → (at + a ≡ end_of (suc n) log) × (is_there ≡ true)
  stands_next a found =
      let there = length_there a (numbered_length s (suc n) (drop at log)) found in
      by_test is_there
      (λ t. let front = rw (same ∙ t, place) at there.0 in (omega (arith, end_of_next n log), t))
      (λ f. absurd (there.1 (rw (same ∙ f))))

  pub stands_not : Option.None ≡ unless_0 (numbered_length s (suc n) (drop at log)) → is_there ≡ false
  stands_not none =
      not_yes is_there
      (λ t. numbered_there s (suc n) (drop at log) (same ∙ t) (rw (same ∙ t) at (length_missing _ none)))

-- ---- the next stop, a receiver at a time

module _ (replicas : Replicas) (s passed made : ℕ) where
  -- a receiver that has had no more is no stop
  pub stop_passed : (n stop : ℕ) → received replicas n s ≤ passed → NextStop replicas s passed made n stop
      → NextStop replicas s passed made (n + 1) stop
  stop_passed n stop low h = record {
    above = h.above;
    within = h.within;
    nearest = λ i l p. by_place i n (λ e. absurd (let p' = rw e at p in omega arith)) (λ d. h.nearest i (omega arith) p);
  }

  pub stop_next : (n stop : ℕ) → passed < received replicas n s → NextStop replicas s passed made n stop
      → NextStop replicas s passed made (n + 1) (min stop (received replicas n s))
  stop_next n stop high h =
      let below = h.above in
      let within = h.within in
      record {
        above = grind arith;
        within = grind arith;
        nearest = λ i l p. by_place i n (λ e. rw e (grind arith)) (λ d. let far = h.nearest i (omega arith) p in grind arith);
      }

-- ---- the places, a receiver at a time

module _ (replicas : Replicas) (s number at : ℕ) (before : List ℕ) where
  -- whether the place of receiver i and sender u is marked, where n receivers are passed
  abbrev marks : ℕ → ℕ → ℕ → Bool
  marks n i u = ltb i n && eqb u s && eqb (received replicas i s) number

  marks_same : (n i u : ℕ) → (i ≡ n → u ≡ s → ⊥) → marks n i u ≡ marks (n + 1) i u
  marks_same n i u d =
      by_place u s
      (λ e. by_le n i
      (λ l. rw (le-ltb i n l, le-ltb i (n + 1) (let far : i ≡ n → ⊥ = λ x. d x e in omega arith)))
      (λ l. rw (lt-ltb i n l, lt-ltb i (n + 1) (omega arith))))
      (λ f. simp (ne_eqb u s f, and-false))

  pub mark_passed : (n : ℕ) (places : List ℕ) → (received replicas n s ≡ number → ⊥) → Marked replicas s number at n before places
      → Marked replicas s number at (n + 1) before places
  mark_passed n places other h = record {
    size = h.size;
    place = λ i u hi hu.
        h.place i u hi hu
        ∙ ap (λ (b : Bool). cond b at (get_or before (link_place i u) 0))
        (by_place i n (λ e. rw e (simp (ne_eqb (received replicas n s) number other, and-false))) (λ d. marks_same n i u (λ x y. d x)));
  }

  pub mark_next : (n : ℕ) (places : List ℕ) → n < most_cards → s < most_cards → link_place n s < length places → received replicas n s ≡ number
      → Marked replicas s number at n before places → Marked replicas s number at (n + 1) before (set places (link_place n s) at)
  mark_next n places few hs inside same h = record {
    size = length-set places (link_place n s) at ∙ h.size;
    place = λ i u hi hu.
        by_place (link_place i u) (link_place n s)
        (λ e.
        let ei : i ≡ n = omega arith in
        let es : u ≡ s = omega arith in
        rw (ei, es)
        (get_or-set_same places (link_place n s) at 0 inside
        ∙ rw (lt-ltb n (n + 1) (omega arith), eq-eqb s s refl, eq-eqb (received replicas n s) number same)))
        (λ d.
        get_or-set_other places (link_place n s) (link_place i u) at 0 d ∙ h.place i u hi hu
        ∙ ap (λ (b : Bool). cond b at (get_or before (link_place i u) 0)) (marks_same n i u (λ x y. d (omega arith))));
  }

-- ---- the places of a sender's links, as the walk along its log goes on

-- the first n messages of card s end at `at`; they are the card's of their numbers, and the places of all receivers that have had no more are found
pub record Finding (replicas : Replicas) (log : List ℕ) (s : ℕ) (before : List ℕ) (n at : ℕ) (places : List ℕ) : Type 0 where
  pub within : n ≤ received replicas s s
  pub end : at ≡ end_of n log
  pub numbered : (j : ℕ) → j < n → is_numbered s (suc j) (waiting_part (suc j) log) ≡ true
  pub size : length places ≡ length before
  pub here : (i : ℕ) → i < replicas.sizes.cards → received replicas i s ≤ n
      → get_or places (link_place i s) 0 ≡ end_of (received replicas i s) log
  pub others : (i u : ℕ) → i < replicas.sizes.cards → u < replicas.sizes.cards → (u ≡ s → ⊥) → get_or places (link_place i u) 0 ≡ get_or before (link_place i u) 0

module _ (replicas : Replicas) (log : List ℕ) (s : ℕ) (below : s < replicas.sizes.cards) where
  few : replicas.sizes.cards ≤ most_cards
  few = replicas.fit.few_cards

  -- what a mark did
  module _ (number at : ℕ) (places places' : List ℕ) (m : Marked replicas s number at replicas.sizes.cards places places') where
    marked_here : (i : ℕ) → i < replicas.sizes.cards → received replicas i s ≡ number → get_or places' (link_place i s) 0 ≡ at
    marked_here i hi e =
        m.place i s (omega (arith, few)) (omega (arith, few))
        ∙ rw (lt-ltb i replicas.sizes.cards hi, eq-eqb s s refl, eq-eqb (received replicas i s) number e)

    marked_there : (i : ℕ) → i < replicas.sizes.cards → (received replicas i s ≡ number → ⊥)
        → get_or places' (link_place i s) 0 ≡ get_or places (link_place i s) 0
    marked_there i hi d = m.place i s (omega (arith, few)) (omega (arith, few)) ∙ simp (ne_eqb (received replicas i s) number d, and-false)

    marked_others : (i u : ℕ) → i < replicas.sizes.cards → u < replicas.sizes.cards → (u ≡ s → ⊥) → get_or places' (link_place i u) 0 ≡ get_or places (link_place i u) 0
    marked_others i u hi hu d = m.place i u (omega (arith, few)) (omega (arith, few)) ∙ simp (ne_eqb u s d, and-false)

  pub finding_begins : (before places : List ℕ) → Marked replicas s 0 0 replicas.sizes.cards before places → Finding replicas log s places 0 0 places
  unfolding end_of
  finding_begins before places m = record {
    within = omega arith;
    end = refl;
    numbered = λ j l. absurd (omega arith);
    size = refl;
    here = λ i hi l. let none : received replicas i s ≡ 0 = omega arith in marked_here 0 0 before places m i hi none ∙ rw none;
    others = λ i u hi hu d. refl;
  }

  module _ (before : List ℕ) (n at : ℕ) (places : List ℕ) (h : Finding replicas log s before n at places) where
    pub finding_next : (stop at' : ℕ) (places' : List ℕ) → NextStop replicas s n (received replicas s s) replicas.sizes.cards stop
        → Arrived log s n stop at' → Marked replicas s stop at' replicas.sizes.cards places places' → Finding replicas log s before stop at' places'
    finding_next stop at' places' next walked m = record {
      within = next.within;
      end = walked.place;
      numbered = λ j l. by_le n j (λ low. walked.there j low l) (λ low. h.numbered j low);
      size = m.size ∙ h.size;
      here = λ i hi l.
          by_place (received replicas i s) stop
          (λ e. marked_here stop at' places places' m i hi e ∙ walked.place ∙ rw e)
          (λ d. by_le (received replicas i s) n
          (λ low. marked_there stop at' places places' m i hi d ∙ h.here i hi low)
          (λ high. let far = next.nearest i hi high in absurd (omega arith)));
      others = λ i u hi hu d. marked_others stop at' places places' m i u hi hu d ∙ h.others i u hi hu d;
    }

    -- all messages are passed
    pub found_right : received replicas s s ≤ n → none_ahead replicas s ≡ true → Found replicas log s before true places
    unfolding begins_with
    found_right all none =
        let same : n ≡ received replicas s s = omega (arith, h.within) in
        record {
          right = sym (and_yes _ _ (below_from (received replicas s s) _ (λ j l. h.numbered j (omega arith))) none);
          size = h.size;
          here = λ _ i hi.
              let within : received replicas i s ≤ received replicas s s = leb-true _ _ (below_facts replicas.sizes.cards _ none i hi) in
              h.here i hi (omega arith);
          others = h.others;
        }

    -- one of them is not there
    pub found_missing : (stop : ℕ) → stop ≤ received replicas s s → Missing log s stop → Found replicas log s before false places
    unfolding begins_with
    found_missing stop within m = record {
      right = sym (and_no_left _ _ (below_fails (received replicas s s) _ m.behind (let l = m.below in omega arith) m.other));
      size = h.size;
      here = λ e. absurd (false≢true e);
      others = h.others;
    }

  -- a card is ahead, and nothing was marked
  pub found_ahead : (places : List ℕ) → none_ahead replicas s ≡ false → Found replicas log s places false places
  found_ahead places ahead = record {
    right = sym (and_no_right (begins_with s (received replicas s s) log) _ ahead);
    size = refl;
    here = λ e. absurd (false≢true e);
    others = λ i u hi hu d. refl;
  }

  -- what was marked before the walk
  pub found_since : (before places : List ℕ) → Marked replicas s 0 0 replicas.sizes.cards before places
      → (ok : Bool) (places' : List ℕ) → Found replicas log s places ok places' → Found replicas log s before ok places'
  found_since before places m ok places' f = record {
    right = f.right;
    size = f.size ∙ m.size;
    here = f.here;
    others = λ i u hi hu d. f.others i u hi hu d ∙ marked_others 0 0 before places m i u hi hu d;
  }

-- ---- a sender at a time

-- of the first n senders, whose logs are right
pub record FoundBelow (replicas : Replicas) (logs : List ℕ) (n : ℕ) (places : List ℕ) : Type 0 where
  pub right : (s : ℕ) → s < n → is_log_right replicas (lent_log replicas logs s) s ≡ true
  pub size : length places ≡ links
  pub place : (i s : ℕ) → i < replicas.sizes.cards → s < n → get_or places (link_place i s) 0 ≡ next_place replicas logs i s

module _ (replicas : Replicas) (logs : List ℕ) where
  module _ (n : ℕ) (places places' : List ℕ) (below : n < replicas.sizes.cards) where
    -- one log is not right
    pub found_wrong : Found replicas (lent_log replicas logs n) n places false places' → AllFound replicas logs false places'
    unfolding are_logs_right log_right
    found_wrong f = record { right = sym (below_fails replicas.sizes.cards _ n below (sym f.right)); places = λ e. absurd (false≢true e) }

    -- one more that is
    pub found_next : Found replicas (lent_log replicas logs n) n places true places' → FoundBelow replicas logs n places → FoundBelow replicas logs (n + 1) places'
    found_next f h = record {
      right = λ s l. by_place s n (λ e. rw e (sym f.right)) (λ d. h.right s (omega arith));
      size = f.size ∙ h.size;
      place = λ i s hi l. by_place s n (λ e. rw e (f.here refl i hi)) (λ d. f.others i s hi (omega arith) d ∙ h.place i s hi (omega arith));
    }

  pub found_all : (n : ℕ) → replicas.sizes.cards ≤ n → (places : List ℕ) → FoundBelow replicas logs n places → AllFound replicas logs true places
  unfolding are_logs_right log_right
  found_all n end places h = record {
    right = sym (below_from replicas.sizes.cards _ (λ s hs. h.right s (omega arith)));
    places = λ _. record { size = h.size; place = λ i s hi hs. h.place i s hi (omega arith) };
  }

-- ---- a message that waits, of words and logs that pass the checks

-- what stands at the front is as long as it asks for
front_called : (rest : List ℕ) → (front_length version_2 rest ≡ 0 → ⊥) → front_length version_2 rest ≡ called_length version_2 rest
unfolding front_length
front_called rest some =
    by_test (leb (called_length version_2 rest) (length rest) && reads version_2 (take (called_length version_2 rest) rest)) (λ t. rw t) (λ f. absurd (some (rw f)))

module _ (r k L : ℕ) (st : State) (g : Checked r k L st) (i s : ℕ) (hi : i < r) (hs : s < r) (waits : N_at r k L st i s < N_at r k L st s s) where
  abbrev behind : List ℕ
  behind = drop (ends_in r k L st i s) (log_of r k L st s)

  some : front_length version_2 behind ≡ 0 → ⊥
  some =
      let n = N_at r k L st i s in
      numbered_there s (suc n) behind (rw (waiting_at n (log_of r k L st s)) at (g.numbered s n hs waits))

  pub numbered_waits : WaitsAt L (log_of r k L st s) (N_at r k L st i s) (ends_in r k L st i s)
  numbered_waits =
      let n = N_at r k L st i s in
      let log = log_of r k L st s in
      let long : length log ≡ L = part_length r L s st.logs g.logs_fit hs in
      let least = front_long behind some in
      let called = front_called behind some in
      let room : front_length version_2 behind ≤ length behind = (front_reads version_2 behind (omega arith)).1 in
      let in_log = ends_within n log in
      let cut = length-drop (end_of n log) log in
      record {
        inside = omega arith;
        header = omega arith;
        room = rw (← called) room;
        within = rw (← called) (omega arith);
        waits = rw (← called) (waiting_at n log);
      }

  pub end_behind : end_of (suc (N_at r k L st i s)) (log_of r k L st s) ≡ ends_in r k L st i s + called_length version_2 behind
  end_behind = rw (← (front_called behind some)) (end_of_next (N_at r k L st i s) (log_of r k L st s))
