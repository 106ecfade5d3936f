-- LAWS. A history beside a run and the ledger of counter q. `Known`: the messages are in order, every card's two sets are what the messages that it has received make
-- of them, and the history has received what the ledger has taken. Two moves keep it: some card makes a message (`known_more`), and a card takes the next message
-- of some card (`known_taken`). Every step is one of them, or both at its maker.
use Rattle.std.specs.Prelude.{ℕ, suc, ◌+◌, ◌≤◌, ◌<◌, ◌≡◌, refl, true, false, cond, ◌&&◌, List, [], ◌∷◌, ◌++◌, map, eqb, ltb, leb, length, drop}
use Rattle.std.proofs.Common.{sym, ◌∙◌, arith, drop-cons, ltb-true, lt-ltb, le-ltb, le-leb, eq-eqb, ne_eqb}
use Rattle.std.proofs.Math.Path.{ap}
use Rattle.std.proofs.lemmas.Bool.{false≢true, lt-leb}
use Rattle.std.proofs.lemmas.List.{map-append, length-map, drop-append-le}
use Rattle.std.proofs.Math.ListN.{get_or-map}
use Rattle.protocol.proofs.Cases.{by_place, by_le, by_test, and_right}
use Rattle.protocol.proofs.Tables.{put, put_same, put_other, put_at, put_same_row, put_other_row, sum, sum_cong, sum_zero, sum_one}
use Rattle.protocol.specs.Names.{Name, name, has}
use Rattle.protocol.proofs.NameLaws.{Prefixes, Prefixes_empty, add_next, latest_is}
use Rattle.protocol.proofs.Joins.{has_none}
use Rattle.protocol.proofs.Totals.{sum_ones, sum_next}
use Rattle.protocol.specs.Ledger.{Step, count, clear, deliver, Item, Ledger, nothing, empty_ledger, next_item, rest_items, applied, sent, made, handed, count_item, clear_item, after_accepted, after_step, after_steps}
use Rattle.protocol.specs.Chassis.{Message, Chassis, fresh_chassis, taken, count_message, clear_message, issued, delivered, done, enabled, Offer, accepted, stepped, run, answers}
use Rattle.protocol.specs.Runs.{step_of, after_run, ledger_after}
use Rattle.protocol.proofs.InvariantSteps.{Invariant, taken_N}
use Rattle.protocol.proofs.Theorem.{fresh_invariant, step_invariant}
use Rattle.protocol.specs.History.{Sent, ids, History, empty_history, total, received_by, made_by, next_made, next_received, extended, recorded, history_after}
use Rattle.protocol.proofs.Messages.{Told, no_told, Table, message_at, MessageOk, AllOk, more, message_old, message_new, more_here, longer, all_more}
use Rattle.protocol.proofs.Causality.{CardKnows, card_more, card_takes, other_in_order, count_in_order, clear_in_order}
use Rattle.protocol.proofs.Enabled.{count_enabled, deliver_enabled}

abbrev pub told_sent : Told → Sent
told_sent t = t.sent

abbrev pub told_item : Told → Item
told_item t = t.item

-- by card, then by card: how many messages the first has received from the second
pub record Known (r q : ℕ) (T : Table) (N : ℕ → ℕ → ℕ) (l : Ledger) (h : History) : Type 0 where
  pub messages : AllOk q T
  pub cards : (i : ℕ) → CardKnows q T (N i) (l.received i) (l.cancelled i)
  pub within : (i j : ℕ) → N i j ≤ length (T j)
  pub outside : (j : ℕ) → r ≤ j → T j ≡ []
  pub queues : (s i : ℕ) → (i ≡ s → ⊥) → l.queue s i ≡ map told_item (drop (N i s) (T s))
  pub logs : (j : ℕ) → h.log j ≡ map told_sent (T j)
  pub names : (i : ℕ) → Prefixes (ids (h.received i)) (N i)
  pub totals : (i : ℕ) (f : Sent → ℕ) → total f (h.received i) ≡ sum r (λ j. sum (N i j) (λ n. f (message_at T j n).sent))

-- ---- a card makes a message, and has not yet taken it

known_more : (r q : ℕ) (T : Table) (N : ℕ → ℕ → ℕ) (l : Ledger) (h : History) → Known r q T N l h
    → (i : ℕ) (t : Told) → i < r → MessageOk q T i (length (T i)) t
    → Known r q (more T i t) N (sent i t.item l) (record { log = put i (h.log i ++ t.sent ∷ []) h.log; received = h.received })
unfolding sent
known_more r q T N l h k i t below o = record {
  messages = all_more T i t q k.messages o;
  cards = λ j. card_more q T i t (N j) (l.received j) (l.cancelled j) (k.within j) (k.cards j);
  within = λ j s. let a = k.within j s in let b = longer T i t s in omega arith;
  outside = λ j far. rw (put_other i (T i ++ t ∷ []) T j (λ e. omega arith)) (k.outside j far);
  queues = λ s j apart.
      by_place s i
      (λ e. rw e (simp (put_same_row, put_same)
      (rw (drop-append-le (N j i) (T i) (t ∷ []) (k.within j i), k.queues i j (λ c. apart (c ∙ sym e)))
      (sym (map-append told_item (drop (N j i) (T i)) (t ∷ []))))))
      (λ d. simp (put_other_row, put_other) (k.queues s j apart));
  logs = λ j.
      by_place j i
      (λ e. rw e (simp put_same (rw (k.logs i) (sym (map-append told_sent (T i) (t ∷ []))))))
      (λ d. simp put_other (k.logs j));
  names = k.names;
  totals = λ j f.
      k.totals j f
      ∙ sum_cong r _ _ (λ c m. sum_cong (N j c) _ _ (λ n a. let w = k.within j c in ap (λ (u : Told). f u.sent) (sym (message_old T i t c n (omega arith)))));
}

-- ---- a card takes the next message of card s

abbrev taken_from : ℕ → ℕ → (ℕ → ℕ → ℕ) → ℕ → ℕ → ℕ
taken_from i s N = put i (put s (suc (N i s)) (N i)) N

known_taken : (r q : ℕ) (T : Table) (N : ℕ → ℕ → ℕ) (l : Ledger) (h : History) → Known r q T N l h
    → (i s : ℕ) → s < r → N i s < length (T s)
    → (queue : ℕ → ℕ → List Item) → ((c j : ℕ) → (j ≡ c → ⊥) → queue c j ≡ map told_item (drop (taken_from i s N j c) (T c)))
    → Known r q T (taken_from i s N)
    (applied i (message_at T s (N i s)).item (record { received = l.received; cancelled = l.cancelled; queue = queue }))
    (received_by i (message_at T s (N i s)).sent h)
unfolding applied received_by total
known_taken r q T N l h k i s below waits queue qs = record {
  messages = k.messages;
  cards = λ j.
      by_place j i
      (λ e. simp put_at (card_takes q T (N i) (l.received i) (l.cancelled i) s waits (k.messages s (N i s) waits) (k.cards i)))
      (λ d. simp put_other (k.cards j));
  within = λ j c.
      by_place j i
      (λ e. by_place c s
      (λ f. rw (put_at i (put s (suc (N i s)) (N i)) N j e, put_at s (suc (N i s)) (N i) c f, f) waits)
      (λ f. rw (put_at i (put s (suc (N i s)) (N i)) N j e, put_other s (suc (N i s)) (N i) c f) (k.within i c)))
      (λ d. rw (put_other i (put s (suc (N i s)) (N i)) N j d) (k.within j c));
  outside = k.outside;
  queues = qs;
  logs = k.logs;
  names = λ j.
      by_place j i
      (λ e. simp put_at (rw (k.messages s (N i s) waits).id_is (add_next (ids (h.received i)) (N i) (k.names i) s (suc (N i s)) refl)))
      (λ d. simp put_other (k.names j));
  totals = λ j f.
      by_place j i
      (λ e. rw e (simp (put_same, put_same_row)
      (ap (λ (x : ℕ). f (message_at T s (N i s)).sent + x) (k.totals i f)
      ∙ sum_next r (N i) (λ c n. f (message_at T c n).sent) s below)))
      (λ d. simp (put_other, put_other_row) (k.totals j f));
}

-- ---- the whole: a chassis, the ledger of q and a history of the same steps

pub record Traced (r q : ℕ) (st : Chassis) (l : Ledger) (h : History) : Type 0 where
  pub table : Table
  pub N : ℕ → ℕ → ℕ
  pub known : Known r q table N l h
  pub own : (i : ℕ) → N i i ≡ length (table i)
  -- the replicas count the same messages
  pub counted : (i j : ℕ) → (st.replica i).N j ≡ N i j

fresh_traced : (r q : ℕ) → Traced r q fresh_chassis empty_ledger empty_history
unfolding sum total
fresh_traced r q = record {
  table = λ j. [];
  N = λ i j. 0;
  known = record {
    messages = λ s n l. absurd (omega arith);
    cards = λ i. record { received_is = Prefixes_empty; cancelled_from = λ P all j o c. has_none (name j o) c; cancelled_all = λ s n l. absurd (omega arith) };
    within = λ i j. omega arith;
    outside = λ j far. refl;
    queues = λ s i apart. refl;
    logs = λ j. refl;
    names = λ i. Prefixes_empty;
    totals = λ i f. sym (sum_zero r _ (λ j below. refl));
  };
  own = λ i. refl;
  counted = λ i j. refl;
}

module _ (r q : ℕ) (st : Chassis) (l : Ledger) (h : History) (k : Traced r q st l h) where
  counted_taken : (i s : ℕ) (m : Message) (j c : ℕ) → (put i (taken s m (st.replica i)) st.replica j).N c ≡ taken_from i s k.N j c
  counted_taken i s m j c =
      by_place j i
      (λ e. rw e (simp (put_same, put_same_row, taken_N)
      (by_place c s (λ f. simp put_at (ap suc (k.counted i s))) (λ f. simp put_other (k.counted i c)))))
      (λ d. simp (put_other, put_other_row) (k.counted j c))

  -- what a card has received of other cards is no other when it takes its own message
  others_same : (i c j : ℕ) → (j ≡ c → ⊥) → taken_from i i k.N j c ≡ k.N j c
  others_same i c j apart =
      by_place j i
      (λ e. rw e (simp put_same_row (rw (put_other i (suc (k.N i i)) (k.N i) c (λ f. apart (e ∙ sym f))))))
      (λ d. simp put_other_row)

  -- a card makes a message, and takes it
  module _ (i : ℕ) (t : Told) (below : i < r) (o : MessageOk q k.table i (length (k.table i)) t) where
    more_known : Known r q (more k.table i t) k.N (sent i t.item l) (record { log = put i (h.log i ++ t.sent ∷ []) h.log; received = h.received })
    more_known = known_more r q k.table k.N l h k.known i t below o

    it_is : message_at (more k.table i t) i (k.N i i) ≡ t
    it_is = rw (k.own i) (message_new k.table i t)

    own_more : (j : ℕ) → taken_from i i k.N j j ≡ length (more k.table i t j)
    own_more j =
        by_place j i
        (λ e. rw e (simp (put_same_row, put_same) (ap suc (k.own i) ∙ sym (rw (put_same i (k.table i ++ t ∷ []) k.table) at (more_here k.table i t)))))
        (λ d. simp (put_other_row, put_other) (k.own j))

    issued_traced : (m : Message) → Traced r q (issued i m st) (made i t.item l) (made_by i t.sent h)
    unfolding issued made made_by
    issued_traced m = record {
      table = more k.table i t;
      N = taken_from i i k.N;
      known =
          rw it_is at
          (known_taken r q (more k.table i t) k.N _ _ more_known i i below
          (rw (k.own i, more_here k.table i t) (omega arith))
          (sent i t.item l).queue (λ c j apart. rw (others_same i c j apart) (more_known.queues c j apart)));
      own = own_more;
      counted = counted_taken i i m;
    }

  -- a card takes the next message of another card
  module _ (i s : ℕ) (below : s < r) (apart : i ≡ s → ⊥) (waits : k.N i s < length (k.table s)) where
    link : l.queue s i ≡ (message_at k.table s (k.N i s)).item ∷ map told_item (drop (suc (k.N i s)) (k.table s))
    link = k.known.queues s i apart ∙ ap (map told_item) (drop-cons (k.table s) (k.N i s) no_told waits)

    next_is : next_item (l.queue s i) ≡ (message_at k.table s (k.N i s)).item
    unfolding next_item
    next_is = ap next_item link

    rest_is : rest_items (l.queue s i) ≡ map told_item (drop (suc (k.N i s)) (k.table s))
    unfolding rest_items
    rest_is = ap rest_items link

    sent_is : next_received i s h ≡ (message_at k.table s (k.N i s)).sent
    unfolding next_received
    sent_is =
        rw (latest_is s (ids (h.received i)) (k.N i) (k.known.names i), k.known.logs s)
        (get_or-map told_sent (k.table s) (k.N i s) no_told)

    queues_after : (c j : ℕ) → (j ≡ c → ⊥)
        → put s (put i (rest_items (l.queue s i)) (l.queue s)) l.queue c j ≡ map told_item (drop (taken_from i s k.N j c) (k.table c))
    queues_after c j far =
        by_place c s
        (λ e. by_place j i
        (λ f. rw (e, f) (simp (put_same_row, put_same) rest_is))
        (λ f. rw e (simp (put_same_row, put_other, put_other_row) (k.known.queues s j (λ x. far (x ∙ sym e))))))
        (λ d. by_place j i
        (λ f. rw f (simp (put_other_row, put_same_row, put_other) (k.known.queues c i (λ x. far (f ∙ x)))))
        (λ f. simp put_other_row (k.known.queues c j far)))

    own_after : (j : ℕ) → taken_from i s k.N j j ≡ length (k.table j)
    own_after j =
        by_place j i
        (λ e. rw e (simp (put_same_row, put_other) (k.own i)))
        (λ d. simp put_other_row (k.own j))

    delivered_traced : Traced r q (delivered i s st) (handed i s l) (received_by i (next_received i s h) h)
    unfolding delivered handed
    delivered_traced = record {
      table = k.table;
      N = taken_from i s k.N;
      known = rw (next_is, sent_is) (known_taken r q k.table k.N l h k.known i s below waits _ queues_after);
      own = own_after;
      counted = counted_taken i s _;
    }

-- ---- an accepted step

module _ (r q : ℕ) (st : Chassis) (l : Ledger) (h : History) (ok : Invariant r q st l) (k : Traced r q st l h) where
  made_so_far : (i : ℕ) → length (h.log i) ≡ length (k.table i)
  made_so_far i = rw (k.known.logs i) (length-map (k.table i) told_sent)

  -- what card i makes is in order: a count or a clear of q, and a message of another counter
  count_traced : (i c w : ℕ) → i < r → (m : Message)
      → Traced r q (issued i m st) (made i (cond (eqb c q) (count_item q i w l) (nothing c)) l) (made_by i (next_made i c false w h) h)
  count_traced i c w below m =
      by_place c q
      (λ e. rw (eq-eqb c q e, e, made_so_far i)
      (issued_traced r q st l h k i _ below
      (count_in_order r q k.table k.known.messages k.known.outside i (k.N i) (k.known.within i) (k.own i) l (k.known.cards i)
      _ (ok.cards i).cancelled_is (ids (h.received i)) (k.known.names i) w) m))
      (λ d. rw (ne_eqb c q d, made_so_far i)
      (issued_traced r q st l h k i _ below
      (other_in_order r q k.table k.known.messages k.known.outside i (k.N i) (k.known.within i) (k.own i) l (k.known.cards i)
      _ (ok.cards i).cancelled_is (ids (h.received i)) (k.known.names i) c false w d) m))

  clear_traced : (i c : ℕ) → i < r → (m : Message)
      → Traced r q (issued i m st) (made i (cond (eqb c q) (clear_item r q i l) (nothing c)) l) (made_by i (next_made i c true 0 h) h)
  clear_traced i c below m =
      by_place c q
      (λ e. rw (eq-eqb c q e, e, made_so_far i)
      (issued_traced r q st l h k i _ below
      (clear_in_order r q k.table k.known.messages k.known.outside i (k.N i) (k.known.within i) (k.own i) l (k.known.cards i)
      _ (ok.cards i).cancelled_is (ids (h.received i)) (k.known.names i)) m))
      (λ d. rw (ne_eqb c q d, made_so_far i)
      (issued_traced r q st l h k i _ below
      (other_in_order r q k.table k.known.messages k.known.outside i (k.N i) (k.known.within i) (k.own i) l (k.known.cards i)
      _ (ok.cards i).cancelled_is (ids (h.received i)) (k.known.names i) c true 0 d) m))

  done_traced : (s : Step) → enabled r s st ≡ true → Traced r q (done r s st) (after_accepted r q s l) (extended s h)
  unfolding enabled done after_accepted extended
  done_traced (count i c w) e = count_traced i c w (count_enabled r i c w st e).0 (count_message i c w (st.replica i))
  done_traced (clear i c) e = clear_traced i c (ltb-true i r e) (clear_message r c (st.replica i))
  done_traced (deliver i s) e =
      let on = deliver_enabled r i s st e in
      delivered_traced r q st l h k i s on.sender on.apart
      (let w = on.waits in let a = k.counted i s in let b = k.counted s s in let c = k.own s in omega arith)

-- ---- a list of steps

step_traced : (r q : ℕ) (o : Offer) (st : Chassis) (l : Ledger) (h : History) → Invariant r q st l → Traced r q st l h
    → Traced r q (stepped r o st) (after_step r q o.step (accepted r o st) l) (cond (accepted r o st) (extended o.step h) h)
unfolding stepped after_step
step_traced r q o st l h ok k =
    by_test (accepted r o st)
    (λ e. rw e (done_traced r q st l h ok k o.step (and_right o.willing (enabled r o.step st) e)))
    (λ e. rw e k)

run_traced : (r q : ℕ) (os : List Offer) (st : Chassis) (l : Ledger) (h : History) → Invariant r q st l → Traced r q st l h
    → Traced r q (run r os st) (after_steps r q (map step_of os) (answers r os st) l) (recorded (map step_of os) (answers r os st) h)
unfolding run answers after_steps recorded
run_traced r q [] st l h ok k = k
run_traced r q (o ∷ os) st l h ok k = run_traced r q os (stepped r o st) (after_step r q o.step (accepted r o st) l) _ (step_invariant r q o st l ok) (step_traced r q o st l h ok k)

pub run_history : (r q : ℕ) (os : List Offer) → Traced r q (after_run r os) (ledger_after r q os) (history_after r os)
run_history r q os = run_traced r q os fresh_chassis empty_ledger empty_history (fresh_invariant r q) (fresh_traced r q)

-- ---- what a history has as received is what the replica counts

prefix_has : (s : List Name) (f : ℕ → ℕ) → Prefixes s f → (j o : ℕ) → has s (name j o) ≡ ltb 0 o && leb o (f j)
prefix_has s f k j o =
    by_test (has s (name j o))
    (λ e. let a = k.only j o e in rw (e, lt-ltb 0 o a.0, le-leb o (f j) a.1))
    (λ e. rw e (by_le o 0
    (λ a. rw (le-ltb 0 o a))
    (λ a. rw (lt-ltb 0 o a) (by_le o (f j) (λ b. absurd (false≢true (sym e ∙ k.all j o a b))) (λ b. rw (lt-leb o (f j) b))))))

pub received_is : (r i j o : ℕ) (os : List Offer)
    → has (ids ((history_after r os).received i)) (name j o) ≡ ltb 0 o && leb o (((after_run r os).replica i).N j)
received_is r i j o os = let k = run_history r 0 os in rw (k.counted i j) (prefix_has (ids ((history_after r os).received i)) (k.N i) (k.known.names i) j o)

module _ (r q : ℕ) (T : Table) (N : ℕ → ℕ → ℕ) (l : Ledger) (h : History) (k : Known r q T N l h) (i j : ℕ) where
  -- of card c's messages all are card j's, or none
  from_card : (c : ℕ) → sum (N i c) (λ n. cond (eqb (message_at T c n).sent.id.card j) 1 0) ≡ cond (eqb c j) (N i c) 0
  from_card c =
      sum_cong (N i c) _ (λ n. cond (eqb c j) 1 0)
      (λ n a. let w = k.within i c in ap (λ (x : Name). cond (eqb x.card j) 1 0) (k.messages c n (omega arith)).id_is)
      ∙ by_place c j (λ e. rw (eq-eqb c j e) (sum_ones (N i c))) (λ d. rw (ne_eqb c j d) (sum_zero (N i c) _ (λ n a. refl)))

  of_card : sum r (λ c. cond (eqb c j) (N i c) 0) ≡ N i j
  of_card =
      by_le r j
      (λ far.
      let z : N i j ≤ length {A = Told} [] = rw (k.outside j far) at (k.within i j) in
      sum_zero r _ (λ c below. rw (ne_eqb c j (λ e. omega arith))) ∙ omega arith)
      (λ near. sum_one r _ j near (λ c d. rw (ne_eqb c j d)) ∙ rw (eq-eqb j j refl))

  number_from : total (λ m. cond (eqb m.id.card j) 1 0) (h.received i) ≡ N i j
  number_from = k.totals i (λ m. cond (eqb m.id.card j) 1 0) ∙ sum_cong r _ _ (λ c below. from_card c) ∙ of_card

pub received_number : (r i j : ℕ) (os : List Offer)
    → total (λ m. cond (eqb m.id.card j) 1 0) ((history_after r os).received i) ≡ ((after_run r os).replica i).N j
received_number r i j os =
    let k = run_history r 0 os in
    number_from r 0 k.table k.N (ledger_after r 0 os) (history_after r os) k.known i j ∙ sym (k.counted i j)
