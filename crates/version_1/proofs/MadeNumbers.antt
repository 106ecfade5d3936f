-- LAWS. What a count by one or a clear answers on a chassis beside the theory's, by the rules of either version: 3, 4 and then 14, each where its cause holds.
use Rattle.std.specs.Prelude.{ℕ, suc, ◌+◌, ◌-◌, ◌≤◌, ◌<◌, ◌≡◌, Bool, not, cond, ◌&&◌, List, [], ◌∷◌, length, replicate, leb, ltb, eqb}
use Rattle.std.proofs.Math.Path.{refl, sym, ap}
use Rattle.std.proofs.Common.{◌∙◌, arith, le-leb, le-ltb, eq-eqb, ne_eqb}
use Rattle.std.proofs.lemmas.List.{length-replicate}
use Rattle.std.proofs.lemmas.Bool.{lt-leb}
use Rattle.protocol.specs.Limits.{MAX, bad_counter, exhausted, short_output, log_full}
use Rattle.protocol.proofs.Cases.{by_le, by_place, by_test}
use Rattle.protocol.specs.Checks.{Check, or_else, first_failing}
use Rattle.protocol.proofs.ChecksLaws.{decided, first_is}
use Rattle.protocol.specs.Chassis.{Message, clear_message}
use Rattle.wire.specs.Message.{increment_length, clear_length, version_1, version_2}
use Rattle.replica_model.specs.Layout.{cards, C_of, N_of}
use Rattle.replica_model.specs.Calls as today
use Rattle.replica_model.specs.Calls.{SendOutcome, not_sent, holders, clear_of}
use Rattle.replica_model.proofs.CallsLaws.{clear_size}
use Rattle.replica_model.proofs.RowLaws.{right_from, row_from}
use Rattle.chassis_model.specs.declared.Making.{Making}
use Rattle.chassis_model.specs.declared.Making.TheVariants.{Count, Clear}
use Rattle.chassis_model.specs.Run.{counted, asked, call_of}
use Rattle.chassis_model.specs.Ledger.{ledger_action}
use Rattle.chassis_model.specs.Answers.{step_size}
use Rattle.chassis_model.proofs.InStep.{reached_right, reached_row}
use Rattle.chassis_model.proofs.Makings.{own_size, making}
use Rattle.version_1.specs.Rules as rules
use Rattle.version_1.specs.Run.{Chassis, made, version_of, count_on, clear_on}
use Rattle.version_1.proofs.Beside.{Beside, cards_beside, C≤N_in_words, old_row}
use Rattle.version_1.proofs.MadeBeside.{ByOne, count_by_one, clear_by_one}

-- room for a message behind what is in the log
room_is : (L len size : ℕ) → 0 < size → leb size (length (replicate {A = ℕ} (L - len) 0)) ≡ leb (len + size) L
room_is L len size some =
    rw (length-replicate {A = ℕ} (L - len) 0)
    (by_le (len + size) L
    (λ l. le-leb size (L - len) (omega arith) ∙ sym (le-leb (len + size) L l))
    (λ g. lt-leb size (L - len) (omega arith) ∙ sym (lt-leb (len + size) L g)))

module _ {is_old : ℕ → Bool} {r k : ℕ} {st : Chassis} (now : Beside is_old r k st) (i : ℕ) (hi : i < r) (q : ℕ) where
  abbrev b : List ℕ
  b = st.words i

  abbrev N : ℕ
  N = N_of r b i

  -- what is left of the checks, of either version and of the step
  abbrev left : Bool → ℕ → List Check
  left room full = or_else (ltb q k) bad_counter ∷ or_else (not (eqb N MAX)) exhausted ∷ or_else room full ∷ []

  left_full : (room : Bool) → let n = first_failing (left room short_output) in cond (eqb n short_output) log_full n ≡ first_failing (left room log_full)
  left_full room =
      by_test (ltb q k)
      (λ t. by_test (eqb N MAX) (λ x. rw (t, x)) (λ x. by_test room (λ y. rw (t, x, y)) (λ y. rw (t, x, y))))
      (λ t. rw t)

  -- ---- by the rules of version 1

  old_left : (out : List ℕ) (size : ℕ) → first_failing (rules.send_checks b q out size) ≡ first_failing (left (leb size (length out)) short_output)
  old_left out size =
      let on = now.in_step.cards_show.heads i hi in
      let right = right_from b (reached_right (cards_beside now) i hi) in
      by_le (suc q) k
      (λ hq. rw (right, old_row now i hi q hq, on.counters_are, on.own_is, on.cards_are))
      (λ far. rw (right, on.counters_are, le-ltb q k (omega arith)))

  old_number : (x : Message) (out : List ℕ) → (rules.send b q out x).answer.number ≡ first_failing (left (leb (rules.size_of x) (length out)) short_output)
  unfolding rules.send
  old_number x out =
      let cs = rules.send_checks b q out (rules.size_of x) in
      let d = decided (λ (o : SendOutcome). o.answer.number) (λ n. not_sent n b out) (λ n. refl) (rules.sent b out x) refl cs refl in
      let n = (rules.send b q out x).answer.number in
      sym (first_is cs refl n ((d.exact n).0 refl)) ∙ old_left out (rules.size_of x)

  -- ---- and by those of today

  -- a unit more can be counted where a message more can be made
  unit_left : q < k → (w : ℕ) → w ≤ 1 → not (eqb N MAX) && leb (C_of b i + w) MAX ≡ not (eqb N MAX)
  unit_left hq w few =
      let on = now.in_step.cards_show.heads i hi in
      let below : i < cards b = rw on.cards_are hi in
      let C≤ : C_of b i ≤ N = rw on.cards_are at (C≤N_in_words now i hi i below) in
      let N≤ : N ≤ MAX = rw on.cards_are at ((reached_row (cards_beside now) i q hi hq).tables.N≤MAX i below) in
      by_place N MAX (λ e. rw (eq-eqb N MAX e)) (λ d. rw (ne_eqb N MAX d, le-leb (C_of b i + w) MAX (omega arith)))

  new_left : (mk : Making) → ByOne mk → (out : List ℕ) (size : ℕ)
      → first_failing (today.send_checks b q (asked mk) (counted mk) out size) ≡ first_failing (left (leb size (length out)) short_output)
  new_left mk one out size =
      let on = now.in_step.cards_show.heads i hi in
      let right = right_from b (reached_right (cards_beside now) i hi) in
      by_le (suc q) k
      (λ hq.
      rw (right, one.amount, row_from b q (reached_row (cards_beside now) i q hi hq), on.counters_are, on.own_is, on.cards_are, unit_left hq (counted mk) one.few))
      (λ far. rw (right, on.counters_are, le-ltb q k (omega arith)))

  new_number : (mk : Making) → ByOne mk → (out : List ℕ) → (call_of mk q b out).answer.number ≡ first_failing (left (leb (own_size mk b q) (length out)) short_output)
  new_number mk one out =
      let n = (call_of mk q b out).answer.number in
      sym (first_is (today.send_checks b q (asked mk) (counted mk) out (own_size mk b q)) refl n ((((making mk).decided q b out).exact n).0 refl)) ∙ new_left mk one out (own_size mk b q)

  -- ---- the step

  module _ (L : ℕ) where
    abbrev out : List ℕ
    out = replicate (L - length (st.logs i)) 0

    step_number : (n size : ℕ) → 0 < size → n ≡ first_failing (left (leb size (length out)) short_output)
        → cond (eqb n short_output) log_full n ≡ first_failing (left (leb (length (st.logs i) + size) L) log_full)
    step_number n size some is = rw (is, room_is L (length (st.logs i)) size some) (left_full (leb (length (st.logs i) + size) L))

    pub count_number : (made L i (count_on is_old i q) st).number ≡ first_failing (left (leb (length (st.logs i) + increment_length (version_of is_old i)) L) log_full)
    unfolding made call_of rules.count_of step_size ledger_action
    count_number =
        by_test (is_old i)
        (λ t. rw t (step_number _ (increment_length version_1) (omega arith) (old_number (rules.count_of b q) out)))
        (λ f. rw f (step_number _ (increment_length version_2) (omega arith) (new_number (Count 1) count_by_one out)))

    pub clear_number : (made L i (clear_on is_old i q) st).number ≡ first_failing (left (leb (length (st.logs i) + clear_length (holders b q)) L) log_full)
    unfolding made call_of step_size ledger_action clear_message
    clear_number =
        by_test (is_old i)
        (λ t. rw t (step_number _ (clear_length (holders b q)) (omega arith) (old_number (clear_of b q) out ∙ ap (λ (size : ℕ). first_failing (left (leb size (length out)) short_output)) (clear_size b q))))
        (λ f. rw f (step_number _ (clear_length (holders b q)) (omega arith) (new_number Clear clear_by_one out)))
