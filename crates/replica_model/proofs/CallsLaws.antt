-- LAWS. Each call is a list of checks and a result, so it is decided by its list (`ChecksLaws` of protocol); when a read is accepted; and how long a clear's message is.
use Rattle.std.specs.Prelude.{ℕ, ◌<◌, ◌≡◌, refl, ◌≢◌, List, Bool, true}
use Rattle.std.proofs.Common.{ap, lt-ltb, eq-eqb, ne_eqb}
use Rattle.protocol.specs.Checks.{Check, Decided}
use Rattle.protocol.proofs.ChecksLaws.{decided}
use Rattle.protocol.specs.Chassis.{Message, count_message, clear_message}
use Rattle.protocol.specs.Store.{shown}
use Rattle.wire.specs.Message.{version_2, increment_length, clear_length}
use Rattle.replica_model.specs.Layout.{cards, counters, entry_of, fresh_words}
use Rattle.replica_model.specs.Format.{Format, format_2, size_of}
use Rattle.replica_model.proofs.PresentLaws.{present_length}
use Rattle.replica_model.specs.ClaimTerms.{Right, RowOf}
use Rattle.replica_model.proofs.RowLaws.{right_from, row_from}
use Rattle.replica_model.specs.Calls.{open_checks, open_on, is_amount, read_checks, no_reading, reading, read_on, send_checks, SendOutcome, not_sent, sent_with, send_with, holders, count_of, count_on, clear_of, clear_on, with_value, read_and_clear_on, take_checks, not_taken, taken_with, take_with}

pub open_decided : (b : List ℕ) (r k own : ℕ)
    → Decided (λ o. o.number) (λ n. record { number = n; words = b }) (open_checks b r k own) (record { number = 0; words = fresh_words r k own }) (open_on b r k own)
unfolding open_on
open_decided b r k own = decided (λ o. o.number) _ (λ n. refl) _ refl (open_checks b r k own) refl

pub read_decided : (b : List ℕ) (q : ℕ) → Decided (λ o. o.number) no_reading (read_checks b q) (reading b q) (read_on b q)
unfolding read_on reading
read_decided b q = decided (λ o. o.number) no_reading (λ n. refl) (reading b q) refl (read_checks b q) refl

-- where the replica is right, the counter is there and its row is well-formed, a read is accepted
pub read_accepted : (b : List ℕ) (q : ℕ) → Right b → q < counters b → RowOf b q → (read_on b q).number ≡ 0
read_accepted b q f l w = ((read_decided b q).exact 0).1 (right_from b f, (lt-ltb q (counters b) l, (row_from b q w, refl)))

pub read_passes : (b : List ℕ) (q : ℕ) → Right b → q < counters b → RowOf b q → read_on b q ≡ reading b q
read_passes b q f l w = (read_decided b q).accepted (read_accepted b q f l w)

-- a message that is sent, whatever it says
pub send_decided : (F : Format) (b : List ℕ) (q : ℕ) (asked : Bool) (w : ℕ) (out : List ℕ) (m : Message)
    → Decided (λ o. o.answer.number) (λ n. not_sent n b out) (send_checks b q asked w out (F.size m)) (sent_with F b out m) (send_with F b q asked w out m)
unfolding send_with
send_decided F b q asked w out m = decided (λ o. o.answer.number) _ (λ n. refl) _ refl (send_checks b q asked w out (F.size m)) refl

pub count_size : (b : List ℕ) (q w : ℕ) → size_of (count_of b q w) ≡ increment_length version_2
unfolding count_message
count_size b q w = refl

pub count_decided : (b : List ℕ) (q w : ℕ) (out : List ℕ)
    → Decided (λ o. o.answer.number) (λ n. not_sent n b out) (send_checks b q (is_amount w) w out (increment_length version_2)) (sent_with format_2 b out (count_of b q w)) (count_on b q w out)
unfolding count_on count_message
count_decided b q w out = send_decided format_2 b q (is_amount w) w out (count_of b q w)

pub clear_size : (b : List ℕ) (q : ℕ) → size_of (clear_of b q) ≡ clear_length (holders b q)
unfolding clear_message shown
clear_size b q = rw (present_length (entry_of (cards b) b q) (cards b))

pub clear_decided : (b : List ℕ) (q : ℕ) (out : List ℕ)
    → Decided (λ o. o.answer.number) (λ n. not_sent n b out) (send_checks b q true 0 out (clear_length (holders b q))) (sent_with format_2 b out (clear_of b q)) (clear_on b q out)
unfolding clear_on
clear_decided b q out = rw (← (clear_size b q)) (send_decided format_2 b q true 0 out (clear_of b q))

-- a value beside a call that sends: v where it is accepted, 0 where it is refused
pub value_decided : (v w : ℕ) (b out : List ℕ) (cs : List Check) (result done : SendOutcome)
    → (done.answer.number ≡ 0 → w ≡ v) → (done.answer.number ≢ 0 → w ≡ 0)
    → Decided (λ o. o.answer.number) (λ n. not_sent n b out) cs result done
    → Decided (λ o. o.answer.number) (λ n. with_value 0 (not_sent n b out)) cs (with_value v result) (with_value w done)
value_decided v w b out cs result done taken none d = record {
  exact = d.exact;
  refused = λ some. rw (none some) (ap (with_value 0) (d.refused some));
  accepted = λ e. rw (taken e) (ap (with_value v) (d.accepted e));
}

pub read_and_clear_decided : (b : List ℕ) (q : ℕ) (out : List ℕ)
    → Decided (λ o. o.answer.number) (λ n. with_value 0 (not_sent n b out)) (send_checks b q true 0 out (clear_length (holders b q)))
    (with_value (reading b q).value (sent_with format_2 b out (clear_of b q))) (read_and_clear_on b q out)
unfolding read_and_clear_on
read_and_clear_decided b q out =
    value_decided (reading b q).value _ b out _ _ (clear_on b q out)
    (λ none. rw (eq-eqb (clear_on b q out).answer.number 0 none)) (λ some. rw (ne_eqb (clear_on b q out).answer.number 0 some)) (clear_decided b q out)

pub take_decided : (F : Format) (b bytes : List ℕ)
    → Decided (λ o. o.answer.number) (λ n. not_taken n b) (take_checks F b bytes) (taken_with b (F.received bytes)) (take_with F b bytes)
unfolding take_with
take_decided F b bytes = decided (λ o. o.answer.number) _ (λ n. refl) _ refl (take_checks F b bytes) refl
