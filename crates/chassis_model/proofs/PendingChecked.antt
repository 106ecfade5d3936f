-- LAWS. The transport of words and bytes is orderly on every state that the checks before a call pass (`Checked`), reached by a run or not: a delivery that is
-- accepted raises the receiver's N of the sender by one and nothing else of N, and the checks pass again; one that is declined leaves all as it was.
use Rattle.std.specs.Prelude.{ℕ, suc, ◌+◌, ◌-◌, ◌*◌, ◌^◌, ◌≤◌, ◌<◌, ◌≡◌, true, false, List, leb, eqb, length}
use Rattle.std.proofs.Math.Path.{refl}
use Rattle.std.proofs.Common.{sym, ap, ◌∙◌, arith}
use borrow.Author.Tests.{eqb-true, eqb-false, leb-true, le-leb}
use Rattle.protocol.proofs.Cases.{by_place, and_yes}
use Rattle.protocol.proofs.Tables.{put, put_same, put_other, put_at}
use Rattle.protocol.specs.Functions.{all_below}
use Rattle.protocol.specs.Checks.{AllPass}
use Rattle.protocol.proofs.AcceptanceLaws.{below_facts, below_from}
use Rattle.protocol.specs.RoundRobin.{IsLink, Orderly}
use Rattle.protocol.proofs.RoundRobinLaws.{by_link}
use Rattle.wire.specs.Message.{version_2, message_at}
use Rattle.replica_model.specs.Layout.{replica_length, active_word}
use Rattle.replica_model.specs.Calls.{sizes_in_range, in_place, row_well_formed, take_on}
use Rattle.replica_model.specs.ClaimTerms.{OnlyMoves}
use Rattle.replica_model.proofs.Claims.{take_performs, take_moves, take_keeps, take_exact}
use Rattle.replica_model.specs.Format.{content}
use Rattle.replica_model.proofs.LayoutLaws.{same_cards, same_counters, same_own}
use Rattle.replica_model.proofs.RowLaws.{sizes, tests}
use Rattle.chassis_model.proofs.InStep.{Sizes, Heads}
use Rattle.chassis_model.specs.ListParts.{put_part}
use Rattle.chassis_model.proofs.ListPartsLaws.{part_put, put_part_length, put_part_same}
use Rattle.chassis_model.specs.Log.{waiting_part}
use Rattle.chassis_model.specs.Run.{State, answered, N_at, replica_of, log_of, delivered, chassis_fits}
use Rattle.chassis_model.specs.Pending.{state_links, is_numbered, begins_with, log_right, pending_checks}

-- What the checks before a call say, of words and logs that may come from no run: sizes in range, r replicas each in its place with no bit at k or above and well-formed rows, and r
-- logs, each of which begins with the messages of its own card, as far as its own N, above which no receiver's N of that card is.
pub record Checked (r k L : ℕ) (st : State) : Type 0 where
  pub sizes : Sizes r k
  pub words_fit : length st.words ≡ r * replica_length r k
  pub logs_fit : length st.logs ≡ r * L
  pub heads : (i : ℕ) → i < r → Heads r k i (replica_of r k L st i)
  pub low : (i : ℕ) → i < r → active_word (replica_of r k L st i) < 2 ^ k
  pub rows : (i q : ℕ) → i < r → q < k → row_well_formed (replica_of r k L st i) q ≡ true
  pub numbered : (s n : ℕ) → s < r → n < N_at r k L st s s → is_numbered s (suc n) (waiting_part (suc n) (log_of r k L st s)) ≡ true
  pub few : (i s : ℕ) → i < r → s < r → N_at r k L st i s ≤ N_at r k L st s s

-- the checks give it, and it gives them
pub passes_checked : (r k L : ℕ) (st : State) → AllPass (pending_checks r k L st) → Checked r k L st
unfolding chassis_fits log_right begins_with
passes_checked r k L st (fits, (places, (formed, (logs, _)))) =
    let f = simp tests at fits in
    record {
      sizes = sizes r k f.0.0;
      words_fit = f.0.1;
      logs_fit = f.1;
      heads = λ i hi.
          let h = simp tests at (below_facts r (λ i. in_place r k i (replica_of r k L st i)) places i hi) in
          record { cards_are = h.0.0.0; counters_are = h.0.0.1; own_is = h.0.1 };
      low = λ i hi. (simp tests at (below_facts r (λ i. in_place r k i (replica_of r k L st i)) places i hi)).1;
      rows = λ i q hi.
          below_facts k (row_well_formed (replica_of r k L st i)) (below_facts r (λ i. all_below k (row_well_formed (replica_of r k L st i))) formed i hi) q;
      numbered = λ s n hs l.
          let h = simp tests at (below_facts r (log_right r k L st) logs s hs) in
          below_facts (N_at r k L st s s) (λ j. is_numbered s (suc j) (waiting_part (suc j) (log_of r k L st s))) h.0 n l;
      few = λ i s hi hs.
          let h = simp tests at (below_facts r (log_right r k L st) logs s hs) in
          leb-true (N_at r k L st i s) (N_at r k L st s s) (below_facts r (λ i. leb (N_at r k L st i s) (N_at r k L st s s)) h.1 i hi);
    }

module _ (r k L : ℕ) (st : State) (g : Checked r k L st) where
  passes_fits : chassis_fits r k L (length st.words) (length st.logs) ≡ true
  unfolding chassis_fits sizes_in_range
  passes_fits = let z = g.sizes in let w = g.words_fit in let l = g.logs_fit in simp tests (omega arith)

  passes_place : (i : ℕ) → i < r → in_place r k i (replica_of r k L st i) ≡ true
  passes_place i hi = let h = g.heads i hi in simp tests (((h.cards_are, h.counters_are), h.own_is), g.low i hi)

  passes_log : (s : ℕ) → s < r → log_right r k L st s ≡ true
  unfolding log_right begins_with
  passes_log s hs =
      and_yes _ _ (below_from (N_at r k L st s s) _ (λ n l. g.numbered s n hs l))
      (below_from r _ (λ i hi. le-leb (N_at r k L st i s) (N_at r k L st s s) (g.few i s hi hs)))

  pub checked_passes : AllPass (pending_checks r k L st)
  checked_passes =
      (passes_fits, (below_from r _ passes_place, (below_from r _ (λ i hi. below_from k _ (λ q hq. g.rows i q hi hq)), (below_from r _ passes_log, tt))))

module _ (r k L i s : ℕ) (st : State) (is : IsLink r i s) (g : Checked r k L st) (w : 0 < N_at r k L st s s - N_at r k L st i s) where
  abbrev bytes : List ℕ
  bytes = waiting_part (suc (N_at r k L st i s)) (log_of r k L st s)

  abbrev words : List ℕ
  words = (take_on (replica_of r k L st i) bytes).words

  pub one_tried : delivered r k L i s st
      ≡ record {
        answer = answered (take_on (replica_of r k L st i) bytes).answer.number;
        state = record { words = put_part (replica_length r k) i words st.words; logs = st.logs };
      }
  unfolding delivered
  one_tried = refl

  module _ (e : eqb (delivered r k L i s st).answer.number 0 ≡ true) where
    taken : (take_on (replica_of r k L st i) bytes).answer.number ≡ 0
    taken = sym (ap (λ stepped. stepped.answer.number) one_tried) ∙ eqb-true (delivered r k L i s st).answer.number 0 e

    from_s : (message_at version_2 bytes).sender ≡ s
    unfolding is_numbered
    from_s = let h = simp tests at (g.numbered s (N_at r k L st i s) is.1 (omega arith)) in h.0.1

    fits : length words ≡ replica_length r k
    fits = rw ((g.heads i is.0).cards_are, (g.heads i is.0).counters_are) at (take_performs (replica_of r k L st i) bytes taken).shows.fits.long

    replica_after : (j : ℕ) → replica_of r k L (delivered r k L i s st).state j ≡ put i words (replica_of r k L st) j
    replica_after j = rw one_tried (part_put r (replica_length r k) i words st.words g.words_fit is.0 fits j)

    moves : OnlyMoves (replica_of r k L st i) s (content (message_at version_2 bytes)) words
    unfolding message_at
    moves = rw from_s at (take_moves (replica_of r k L st i) bytes taken)

    pub N_here : N_at r k L (delivered r k L i s st).state i s ≡ N_at r k L st i s + 1
    N_here = rw (replica_after i, put_same i words (replica_of r k L st)) (rw (g.heads i is.0).cards_are at moves.N_rises)

    pub N_there : (j u : ℕ) → u < r → (j ≡ i → u ≡ s → ⊥) → N_at r k L (delivered r k L i s st).state j u ≡ N_at r k L st j u
    N_there j u hu far =
        rw (replica_after j)
        (by_place j i
        (λ c. rw (put_at i words (replica_of r k L st) j c, c)
        (rw (g.heads i is.0).cards_are at (moves.other_N u (rw (g.heads i is.0).cards_are hu) (far c))))
        (λ d. rw (put_other i words (replica_of r k L st) j d)))

    -- so every card's N of itself stays
    N_own : (u : ℕ) → u < r → N_at r k L (delivered r k L i s st).state u u ≡ N_at r k L st u u
    N_own u hu = N_there u u hu (λ c d. is.2 (sym c ∙ d))

    pub checked_after : Checked r k L (delivered r k L i s st).state
    checked_after = record {
      sizes = g.sizes;
      words_fit = rw one_tried (put_part_length r (replica_length r k) i words st.words g.words_fit is.0 fits);
      logs_fit = rw one_tried g.logs_fit;
      heads = λ j hj.
          rw (replica_after j)
          (by_place j i
          (λ c.
          let b = replica_of r k L st i in
          let p = take_performs b bytes taken in
          rw (put_at i words (replica_of r k L st) j c, c)
          (record {
            cards_are = same_cards b words p.same_head ∙ (g.heads i is.0).cards_are;
            counters_are = same_counters b words p.same_head ∙ (g.heads i is.0).counters_are;
            own_is = same_own b words p.same_head ∙ (g.heads i is.0).own_is;
          }))
          (λ d. rw (put_other i words (replica_of r k L st) j d) (g.heads j hj)));
      low = λ j hj.
          rw (replica_after j)
          (by_place j i
          (λ c.
          rw (put_at i words (replica_of r k L st) j c)
          (rw (g.heads i is.0).counters_are at (take_performs (replica_of r k L st i) bytes taken).shows.fits.low))
          (λ d. rw (put_other i words (replica_of r k L st) j d) (g.low j hj)));
      rows = λ j q hj hq.
          rw (replica_after j)
          (by_place j i
          (λ c.
          rw (put_at i words (replica_of r k L st) j c)
          ((take_keeps (replica_of r k L st i) bytes).rows_kept q (rw (g.heads i is.0).counters_are hq) (g.rows i q is.0 hq)))
          (λ d. rw (put_other i words (replica_of r k L st) j d) (g.rows j q hj hq)));
      numbered = λ u n hu l.
          let same : log_of r k L (delivered r k L i s st).state u ≡ log_of r k L st u = rw one_tried in
          rw same (g.numbered u n hu (rw (N_own u hu) at l));
      few = λ j u hj hu.
          by_link j u i s
          (λ c d. rw (c, d, N_here, N_own s is.1) (omega arith))
          (λ far. rw (N_there j u hu far, N_own u hu) (g.few j u hj hu));
    }

  declined_same : eqb (delivered r k L i s st).answer.number 0 ≡ false → (delivered r k L i s st).state ≡ st
  declined_same e =
      let d = eqb-false (delivered r k L i s st).answer.number 0 e in
      let no : (take_on (replica_of r k L st i) bytes).words ≡ replica_of r k L st i
      = ap (λ outcome. outcome.words) ((take_exact (replica_of r k L st i) bytes).refused (λ z. d (ap (λ stepped. stepped.answer.number) one_tried ∙ z))) in
      ap (λ stepped. stepped.state) one_tried ∙ rw (no, put_part_same (replica_length r k) i st.words)

module _ (r k L : ℕ) where
  pub checked_orderly : Orderly (state_links r k L) r (Checked r k L)
  checked_orderly = record {
    keeps = λ i s st is g w e. checked_after r k L i s st is g w e;
    takes_one = λ i s st is g w e.
        let a = N_here r k L i s st is g w e in let c = N_own r k L i s st is g w e s is.1 in omega arith;
    others_stay = λ i s st is g w e j u js far.
        let a = N_there r k L i s st is g w e j u js.1 far in let c = N_own r k L i s st is g w e u js.1 in omega arith;
    declined_stays = λ i s st is g w e. declined_same r k L i s st is g w e;
  }
