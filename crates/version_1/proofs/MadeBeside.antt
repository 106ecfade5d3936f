-- LAWS. A count by one or a clear on a chassis beside the theory's, by the rules of the card's version: a refused one leaves the chassis, and an accepted one makes the
-- theory's message.
use Rattle.std.specs.Prelude.{ℕ, ◌+◌, ◌-◌, ◌≤◌, ◌<◌, ◌≡◌, ◌≢◌, Bool, true, false, cond, List, [], ◌∷◌, ◌++◌, length, take, replicate, eqb}
use Rattle.std.proofs.Math.Path.{refl, sym}
use Rattle.std.proofs.Common.{◌∙◌, append-nil, arith, take_at, ltb-true}
use Rattle.std.proofs.lemmas.Bool.{eqb-false, not-true}
use Rattle.protocol.specs.Limits.{MAX, short_output, log_full}
use Rattle.protocol.proofs.Cases.{by_place, by_le, by_test}
use Rattle.protocol.proofs.Tables.{put, put_same, put_other}
use Rattle.protocol.specs.Checks.{AllPass}
use Rattle.protocol.proofs.ChecksLaws.{checked_cases}
use Rattle.protocol.specs.Ledger.{Step, after_step}
use Rattle.protocol.specs.Chassis as protocol
use Rattle.protocol.specs.Chassis.{Message, issued, done, count_message, clear_message}
use Rattle.wire.specs.Message.{message_bytes, log_bytes}
use Rattle.replica_model.specs.Layout.{cards, counters, own_card, C_of, N_of}
use Rattle.replica_model.specs.Calls as today
use Rattle.replica_model.specs.Calls.{SendOutcome, not_sent, clear_of, ClearedOutcome}
use Rattle.replica_model.specs.Format as format
use Rattle.replica_model.specs.Format.{on_wire}
use Rattle.replica_model.proofs.FormatLaws as format_laws
use Rattle.chassis_model.specs.declared.Making.{Making}
use Rattle.chassis_model.specs.declared.Making.TheVariants.{Count, Clear}
use Rattle.chassis_model.specs.declared.Action.TheVariants.{Make}
use Rattle.chassis_model.specs.Run.{counted, asked, call_of}
use Rattle.chassis_model.proofs.LogLaws.{Readable}
use Rattle.chassis_model.specs.Ledger.{ledger_action}
use Rattle.chassis_model.proofs.InStep.{CardsShow, InStep, reached_row, own_N}
use Rattle.chassis_model.proofs.Makings.{step_message, own_message, making_enabled, making_done, message_shown}
use Rattle.chassis_model.proofs.Moves.{done_after, accepted_in_step}
use Rattle.chassis_model.proofs.Sends.{Going, sent_outcome, next_message, next_outgoing, call_cases, issued_here}
use Rattle.chassis_model.proofs.DriverMatches.{put_back}
use Rattle.version_1.specs.Rules as rules
use Rattle.version_1.specs.Run.{Chassis, Stepped, declined, made, version_of, count_on, clear_on}
use Rattle.version_1.proofs.Singles.{Single, issued_singles}
use Rattle.version_1.proofs.OldRules.{on_wire_is, words_after_is, count_of_is, on_wire_length}
use Rattle.version_1.proofs.OldLogs.{log_in, bytes_in, today_bytes, log_in_append}
use Rattle.version_1.proofs.Beside.{Beside, cards_beside, C≤N_in_words}

-- ---- the makings of version 1

-- they count one at the most
pub record ByOne (mk : Making) : Type 0 where
  pub amount : asked mk ≡ true
  pub few : counted mk ≤ 1
  pub single : (r i q : ℕ) (ch : protocol.Chassis) → Single (next_message r ch mk i q)

pub count_by_one : ByOne (Count 1)
unfolding asked counted step_message ledger_action count_message
count_by_one = record { amount = refl; few = omega arith; single = λ r i q ch. refl }

pub clear_by_one : ByOne Clear
unfolding asked counted step_message ledger_action clear_message
clear_by_one = record { amount = refl; few = omega arith; single = λ r i q ch. tt }

-- their messages, from the words of the card
count_message_is : (b : List ℕ) (q : ℕ) → rules.count_of b q ≡ own_message (Count 1) b q
unfolding step_message ledger_action
count_message_is b q = count_of_is b q

clear_message_is : (b : List ℕ) (q : ℕ) → clear_of b q ≡ own_message Clear b q
unfolding step_message ledger_action
clear_message_is b q = refl

-- ---- what a step makes of a call of card i

abbrev after_call : ℕ → Chassis → SendOutcome → Stepped
after_call i st done = record {
  number = cond (eqb done.answer.number short_output) log_full done.answer.number;
  chassis = record { words = put i done.words st.words; logs = put i (st.logs i ++ take done.answer.length done.out) st.logs };
}

-- a refused one leaves all as it was
refused_stays : (i number : ℕ) (out : List ℕ) (st : Chassis)
    → after_call i st (not_sent number (st.words i) out) ≡ declined st (cond (eqb number short_output) log_full number)
refused_stays i number out st =
    rw (append-nil (st.logs i))
    (λ x. record {
      number = cond (eqb number short_output) log_full number;
      chassis = record { words = put_back i st.words x; logs = put_back i st.logs x };
    })

-- and its number is a refusal's
refused_number : (n : ℕ) → n ≢ 0 → cond (eqb n short_output) log_full n ≢ 0
refused_number n some = by_test (eqb n short_output) (λ t. rw t (λ e. omega arith)) (λ t. rw t some)

-- a call that sends, without the value
abbrev sent_of : ClearedOutcome → SendOutcome
sent_of o = record { answer = record { number = o.answer.number; sequence = o.answer.sequence; length = o.answer.length }; words = o.words; out = o.out }

module _ {is_old : ℕ → Bool} {r k : ℕ} {st : Chassis} (now : Beside is_old r k st) (i : ℕ) (hi : i < r) where
  abbrev b : List ℕ
  b = st.words i

  -- the chassis with card i's message m made
  abbrev pub after_sent : Message → Chassis
  after_sent m = record {
    words = put i (today.words_after i m b) st.words;
    logs = put i (st.logs i ++ bytes_in (version_of is_old i) i (N_of r b i + 1) m) st.logs;
  }

  -- by the rules of version 1
  old_sent : is_old i ≡ true → (m : Message) (out : List ℕ) → Single m → after_call i st (rules.sent b out m) ≡ record { number = 0; chassis = after_sent m }
  old_sent old m out one =
      let on = now.in_step.cards_show.heads i hi in
      let n = N_of r b i + 1 in
      rw (old, words_after_is (own_card b) m b one, on.own_is, on.cards_are, take_at (message_bytes (rules.on_wire i n m)) _ (rules.size_of m) (on_wire_length i n m), on_wire_is i n m)

  -- and by those of today
  new_sent : is_old i ≡ false → (m : Message) (out : List ℕ) → Single m → Readable (on_wire i (N_of r b i + 1) m)
      → after_call i st (sent_outcome r i b out m) ≡ record { number = 0; chassis = after_sent m }
  new_sent new m out one good =
      let n = N_of r b i + 1 in
      rw (new, take_at (message_bytes (on_wire i n m)) _ (format.size_of m) (format_laws.on_wire_length i n m), today_bytes i n m one good)

  module _ (mk : Making) (one : ByOne mk) (q : ℕ) where
    abbrev m : Message
    m = next_message r now.chassis mk i q

    abbrev act : Step
    act = ledger_action (Make mk i q)

    abbrev v : ℕ
    v = version_of is_old i

    log_more : st.logs i ++ bytes_in v i (N_of r b i + 1) m ≡ log_bytes (log_in v i (now.chassis.log i ++ m ∷ []))
    log_more = rw (own_N (cards_beside now) i hi, now.logs_are i) (sym (log_in_append v i (now.chassis.log i) m))

    -- the message that it may make leaves the chassis beside the theory's
    module _ (may : Going r k i q b mk) where
      issued_logs : (j : ℕ) → (after_sent m).logs j ≡ log_bytes (log_in (version_of is_old j) j ((issued i m now.chassis).log j))
      unfolding issued
      issued_logs j = by_place j i (λ e. rw e (simp put_same log_more)) (λ d. simp put_other (now.logs_are j))

      issued_in_step : InStep r k (after_sent m).words (issued i m now.chassis) (λ c. after_step r c act true (now.ledgers c))
      issued_in_step =
          let on = making_enabled mk r i q now.chassis hi may.amount in
          let is = making_done mk r i q now.chassis in
          let goes = next_outgoing (cards_beside now) mk i q hi may in
          let shows : CardsShow r k (after_sent m).words (done r act now.chassis) = rw is (issued_here (cards_beside now) i hi m goes) in
          rw (done_after (cards_beside now) act on, is) at (accepted_in_step (cards_beside now) act on (after_sent m).words shows)

      pub sent_beside : Beside is_old r k (after_sent m)
      sent_beside = record {
        chassis = issued i m now.chassis;
        ledgers = λ c. after_step r c act true (now.ledgers c);
        in_step = issued_in_step;
        singles = issued_singles i m now.chassis (one.single r i q now.chassis) now.singles;
        logs_are = issued_logs;
        not_there = λ j far. by_place j i (λ e. absurd (omega arith)) (λ d. simp put_other (now.not_there j far));
      }

      pub sent_chassis : sent_beside.chassis ≡ done r act now.chassis
      unfolding sent_beside
      sent_chassis = sym (making_done mk r i q now.chassis)

    -- what the checks leave: there is a message more to make, and room for one unit more
    going : (out : List ℕ) (size : ℕ) → AllPass (rules.send_checks b q out size) → Going r k i q b mk
    going out size (_, (there, (_, (more, _)))) =
        let on = now.in_step.cards_show.heads i hi in
        let few = one.few in
        let below : i < cards b = rw on.cards_are hi in
        let hq : q < k = rw on.counters_are at (ltb-true q (counters b) there) in
        let C≤ : C_of b i ≤ N_of r b i = rw on.cards_are at (C≤N_in_words now i hi i below) in
        let N≤ : N_of r b i ≤ MAX = rw on.cards_are at ((reached_row (cards_beside now) i q hi hq).tables.N≤MAX i below) in
        let own : N_of (cards b) b (own_card b) ≡ N_of r b i = rw (on.cards_are, on.own_is) in
        let apart = eqb-false (N_of (cards b) b (own_card b)) MAX (not-true _ more) in
        let short : N_of r b i < MAX = by_le MAX (N_of r b i) (λ l. absurd (apart (own ∙ omega arith))) (λ l. l) in
        record {
          counter = hq;
          amount = one.amount;
          few = short;
          room = omega arith;
        }

    -- one of two things comes of a call that sends the making's message: by the rules of version 1,
    old_cases : is_old i ≡ true → (P : Stepped → Type 0) (x : Message) → x ≡ own_message mk b q → (out : List ℕ)
        → ((n : ℕ) → n ≢ 0 → P (declined st n)) → (Going r k i q b mk → P (record { number = 0; chassis = after_sent m })) → P (after_call i st (rules.send b q out x))
    unfolding rules.send
    old_cases old P x is out refuses sends =
        checked_cases (λ n. not_sent n b out) (rules.send_checks b q out (rules.size_of x)) (rules.sent b out x) refl (λ (o : SendOutcome). P (after_call i st o))
        (λ n some. rw (refused_stays i n out st) (refuses _ (refused_number n some)))
        (λ passes.
        let may = going out (rules.size_of x) passes in
        let on = now.in_step.cards_show.heads i hi in
        let same : x ≡ m = is ∙ message_shown mk r k i q b (now.chassis.replica i) on (now.in_step.cards_show.shows i hi) hi may.counter in
        rw (same, old_sent old m out (one.single r i q now.chassis)) (sends may))

    -- and by those of today
    new_cases : is_old i ≡ false → (P : Stepped → Type 0) (out : List ℕ)
        → ((n : ℕ) → n ≢ 0 → P (declined st n)) → (Going r k i q b mk → P (record { number = 0; chassis = after_sent m })) → P (after_call i st (sent_of (call_of mk q b out)))
    new_cases new P out refuses sends =
        call_cases (cards_beside now) mk i q hi (λ (o : ClearedOutcome). P (after_call i st (sent_of o))) out
        (λ n some _. rw (refused_stays i n out st) (refuses _ (refused_number n some)))
        (λ _ may goes _. rw (new_sent new m out (one.single r i q now.chassis) goes.readable) (sends may))

  -- ---- the two calls

  module _ (L q : ℕ) (P : Stepped → Type 0) (refuses : (n : ℕ) → n ≢ 0 → P (declined st n)) where
    abbrev out : List ℕ
    out = replicate (L - length (st.logs i)) 0

    abbrev Sends : Making → Type 0
    Sends mk = Going r k i q b mk → P (record { number = 0; chassis = after_sent (next_message r now.chassis mk i q) })

    pub count_cases : Sends (Count 1) → P (made L i (count_on is_old i q) st)
    unfolding made call_of
    count_cases sends =
        by_test (is_old i)
        (λ t. rw t (old_cases (Count 1) count_by_one q t P (rules.count_of b q) (count_message_is b q) out refuses sends))
        (λ f. rw f (new_cases (Count 1) count_by_one q f P out refuses sends))

    pub clear_cases : Sends Clear → P (made L i (clear_on is_old i q) st)
    unfolding made call_of
    clear_cases sends =
        by_test (is_old i)
        (λ t. rw t (old_cases Clear clear_by_one q t P (clear_of b q) (clear_message_is b q) out refuses sends))
        (λ f. rw f (new_cases Clear clear_by_one q f P out refuses sends))
