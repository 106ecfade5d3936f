-- LAWS. The two moves, on the words of the cards and on the chassis: a card makes a message, and a card takes the message that is due.
-- Where the words were the chassis's before, they are after; so an accepted step of the theory leaves words that are in step with it.
use Rattle.std.specs.Prelude.{ℕ, ◌+◌, ◌≤◌, ◌<◌, ◌≡◌, true, List, [], ◌∷◌, ◌++◌, length, get_or}
use Rattle.std.proofs.Common.{◌∙◌}
use Rattle.protocol.specs.Limits.{MAX}
use Rattle.protocol.proofs.Cases.{by_place}
use Rattle.protocol.proofs.Tables.{put, put_same, put_at, put_other}
use Rattle.protocol.proofs.Lists.{places_more}
use Rattle.protocol.specs.Ledger.{Step, after_step}
use Rattle.protocol.specs.Chassis.{Message, no_message, Replica, Chassis, taken, issued, delivered, done, enabled, Offer, stepped, units_of}
use Rattle.protocol.proofs.StoreLaws.{Shows, InLimits, taken_shows}
use Rattle.protocol.proofs.OwnBounded.{issued_bounded, delivered_bounded}
use Rattle.protocol.proofs.Theorem.{Invariant, step_invariant}
use Rattle.replica_model.specs.Layout.{cards, layout}
use Rattle.replica_model.specs.ClaimTerms.{Right, MarkedIn}
use Rattle.replica_model.proofs.Performed.{performed, row_marked}
use Rattle.replica_model.specs.Format.{on_wire}
use Rattle.replica_model.specs.Calls.{words_after}
use Rattle.replica_model.proofs.LayoutLaws.{same_cards, lawful, same_counters, same_own}
use Rattle.chassis_model.proofs.LogLaws.{Readable, AllReadable, readable_more}
use Rattle.chassis_model.proofs.Numbered.{wire_log, wire_log_append, Sendable, sendable_limits}
use Rattle.chassis_model.proofs.InStep.{Heads, CardsShow, InStep, CardsAt, reached_right, made_all}

-- ---- one replica: card s's message m is taken

module _ (r k i s : ℕ) (m : Message) (b : List ℕ) (h : Heads r k i b) (hs : s < r) (on : InLimits r k m) where
  taken_heads : Right b → Heads r k i (words_after s m b)
  taken_heads f =
      let done = performed b s m f (rw h.cards_are hs) (rw (h.cards_are, h.counters_are) on) in
      record {
        cards_are = same_cards b (words_after s m b) done.same_head ∙ h.cards_are;
        counters_are = same_counters b (words_after s m b) done.same_head ∙ h.counters_are;
        own_is = same_own b (words_after s m b) done.same_head ∙ h.own_is;
      }

  taken_alike : (c : Replica) → Shows (layout r k) r k b c → Shows (layout r k) r k (words_after s m b) (taken s m c)
  unfolding words_after
  taken_alike c shows = rw (h.cards_are, h.counters_are) (taken_shows r k (layout r k) (lawful r k) s m b c hs on shows)

  taken_marks : Right b → (q : ℕ) → q < k → MarkedIn b q → MarkedIn (words_after s m b) q
  taken_marks f q hq w =
      let hs' : s < cards b = rw h.cards_are hs in
      let done = performed b s m f hs' (rw (h.cards_are, h.counters_are) on) in
      rw (same_cards b (words_after s m b) done.same_head) (row_marked b s m (words_after s m b) done f hs' q (rw h.counters_are hq) w)

-- ---- the chassis

-- card s's message behind its first n, and the one that i is to take next
abbrev pub message_behind : Chassis → ℕ → ℕ → Message
message_behind ch s n = get_or (ch.log s) n no_message

abbrev pub due_message : Chassis → ℕ → ℕ → Message
due_message ch i s = message_behind ch s ((ch.replica i).N s)

module _ {r k : ℕ} (now : CardsAt r k) where
  abbrev shown : CardsShow r k now.replicas now.chassis
  shown = now.in_step.cards_show

  -- card i makes m, which is its next message
  pub issued_cards_show : (i : ℕ) (m : Message) → i < r → Sendable r k m → (now.chassis.replica i).N i < MAX → (now.chassis.replica i).C i + units_of m ≤ MAX
      → Readable (on_wire i ((now.chassis.replica i).N i + 1) m)
      → CardsShow r k (put i (words_after i m (now.replicas i)) now.replicas) (issued i m now.chassis)
  unfolding issued
  issued_cards_show i m hi sends few fits good =
      let on = sendable_limits r k m sends in
      let log = now.chassis.log i in
      let log_more : AllReadable (wire_log i (log ++ m ∷ []))
      = rw (wire_log_append i log m) (readable_more (wire_log i log) _ (shown.readable i hi) (rw (made_all now i) at good)) in
      record {
        heads = λ j l. by_place j i (λ e. rw e (simp put_same (taken_heads r k i i m (now.replicas i) (shown.heads i hi) hi on (reached_right now i hi)))) (λ d. simp put_other (shown.heads j l));
        shows = λ j l. by_place j i (λ e. simp put_at (taken_alike r k i i m (now.replicas i) (shown.heads i hi) hi on (now.chassis.replica i) (shown.shows i hi))) (λ d. simp put_other (shown.shows j l));
        marked = λ j q l hq. by_place j i (λ e. simp put_at (taken_marks r k i i m (now.replicas i) (shown.heads i hi) hi on (reached_right now i hi) q hq (shown.marked i q hi hq))) (λ d. simp put_other (shown.marked j q l hq));
        readable = λ j l. by_place j i (λ e. rw e (simp put_same log_more)) (λ d. simp put_other (shown.readable j l));
        sendable = λ j l n.
            by_place j i
            (λ e. simp put_at (places_more (Sendable r k) no_message log m (shown.sendable i hi) sends n))
            (λ d. simp put_other (shown.sendable j l n));
        own = issued_bounded MAX i m now.chassis few fits shown.own;
      }

  -- card i takes the message of card s that is due
  pub delivered_cards_show : (i s : ℕ) → i < r → s < r → (i ≡ s → ⊥) → (now.chassis.replica i).N s < length (now.chassis.log s)
      → CardsShow r k (put i (words_after s (due_message now.chassis i s) (now.replicas i)) now.replicas) (delivered i s now.chassis)
  unfolding delivered
  delivered_cards_show i s hi hs apart waits =
      let m = due_message now.chassis i s in
      let on = sendable_limits r k m (shown.sendable s hs ((now.chassis.replica i).N s) waits) in
      record {
        heads = λ j l. by_place j i (λ e. rw e (simp put_same (taken_heads r k i s m (now.replicas i) (shown.heads i hi) hs on (reached_right now i hi)))) (λ d. simp put_other (shown.heads j l));
        shows = λ j l. by_place j i (λ e. simp put_at (taken_alike r k i s m (now.replicas i) (shown.heads i hi) hs on (now.chassis.replica i) (shown.shows i hi))) (λ d. simp put_other (shown.shows j l));
        marked = λ j q l hq. by_place j i (λ e. simp put_at (taken_marks r k i s m (now.replicas i) (shown.heads i hi) hs on (reached_right now i hi) q hq (shown.marked i q hi hq))) (λ d. simp put_other (shown.marked j q l hq));
        readable = shown.readable;
        sendable = shown.sendable;
        own = delivered_bounded MAX i s now.chassis apart shown.own;
      }

-- tables that agree below r
pub cards_show_same : (r k : ℕ) (replicas replicas' : ℕ → List ℕ) (ch : Chassis)
    → ((i : ℕ) → i < r → replicas' i ≡ replicas i) → CardsShow r k replicas ch → CardsShow r k replicas' ch
cards_show_same r k replicas replicas' ch e a = record {
  heads = λ i l. rw (e i l) (a.heads i l);
  shows = λ i l. rw (e i l) (a.shows i l);
  marked = λ i q l m. rw (e i l) (a.marked i q l m);
  readable = a.readable;
  sendable = a.sendable;
  own = a.own;
}

-- ---- an accepted step

abbrev pub accepted_offer : Step → Offer
accepted_offer s = record { step = s; willing = true }

module _ {r k : ℕ} (now : CardsAt r k) (s : Step) (on : enabled r s now.chassis ≡ true) where
  pub done_after : stepped r (accepted_offer s) now.chassis ≡ done r s now.chassis
  unfolding stepped
  done_after = rw on

  invariants_after : (q : ℕ) → Invariant r q (stepped r (accepted_offer s) now.chassis) (after_step r q s true (now.ledgers q))
  invariants_after q = rw on at (step_invariant r q (accepted_offer s) now.chassis (now.ledgers q) (now.in_step.invariants q))

  pub accepted_in_step : (replicas' : ℕ → List ℕ) → CardsShow r k replicas' (done r s now.chassis)
      → InStep r k replicas' (stepped r (accepted_offer s) now.chassis) (λ q. after_step r q s true (now.ledgers q))
  accepted_in_step replicas' cards_show = record { sizes = now.in_step.sizes; cards_show = rw done_after cards_show; invariants = invariants_after }
