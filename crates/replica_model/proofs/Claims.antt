-- CLAIMS. What a caller of open, read, count, clear, read and clear, and take relies on, beyond each call's own equation (`Calls`). The terms are those of `ClaimTerms`.
use Rattle.std.specs.Prelude.{ℕ, ◌+◌, ◌≤◌, ◌<◌, ◌≡◌, refl, ◌≢◌, ◌↔◌, List, true, false, length, ltb}
use Rattle.std.proofs.Common.{true≢false, arith, le-leb, eq-eqb, ne_eqb}
use Rattle.protocol.specs.Limits.{MAX, unreadable, repeated, early, bad_amount}
use Rattle.protocol.proofs.Cases.{by_place, by_test}
use Rattle.protocol.specs.Chassis.{count_message, clear_message}
use Rattle.protocol.proofs.StoreLaws.{shown}
use Rattle.protocol.specs.Checks.{Decided}
use Rattle.protocol.proofs.ChecksLaws.{refusal_given}
use Rattle.wire.specs.Message as form
use Rattle.wire.specs.Message.{version_1, version_2, increment_message, message_at, message_bytes, reads, over, increment_length, clear_length}
use Rattle.wire.specs.RoundTrips.{one_version}
use Rattle.replica_model.specs.Layout.{cards, counters, own_card, replica_length, C_of, N_of, entry_of, fresh_words}
use Rattle.replica_model.specs.Calls.{right, row_well_formed, is_amount, open_on, no_reading, reading, is_quiet, read_on, not_sent, count_on, clear_on, with_value, read_and_clear_on, not_taken, take_on, open_checks, read_checks, take_checks, holders, count_of, clear_of, sent_with, taken_with, send_checks}
use Rattle.replica_model.specs.ClaimTerms.{Right, RowOf, AllZeros, sent_as, Performed, OnlyMoves, Keeps, Isolates, Writable, Addressed, Sizes}
use Rattle.replica_model.proofs.RowLaws.{right_facts, right_from, row_facts, row_from}
use Rattle.replica_model.proofs.PresentLaws.{present_length}
use Rattle.replica_model.proofs.CallsLaws.{open_decided, read_decided, count_decided, clear_decided, read_and_clear_decided, take_decided}
use Rattle.replica_model.proofs.QuietLaws.{all_zeros, reads_zeros}
use Rattle.replica_model.proofs.FreshReplica.{fresh_right, fresh_row, sizes_opened, fresh_read, fresh_count, fresh_clear, fresh_take}
use Rattle.replica_model.proofs.Senders.{count_writable, clear_writable}
use Rattle.replica_model.proofs.SequenceLaws.{again_refused, old_refused, early_refused}
use Rattle.replica_model.proofs.AcceptedCalls.{sending_from, none_more, read_before, count_move, clear_move, take_move, move_keeps, move_moves, move_isolates, unmoved_keeps, unmoved_isolates}
use Rattle.replica_model.specs.Format.{content, format_2}

-- ---- WELL-FORMED, in plain numbers

-- A replica is right exactly if its sizes are in range, the own card is one of its cards, it is as long as those sizes ask, and no bit of the active counters is one at k or above.
pub right_is : (b : List ℕ) → (right b ≡ true) ↔ Right b
right_is b = (right_facts b, right_from b)

-- A row is well-formed exactly if every C and N is at most MAX, every entry is absent (all zero) or has 1 ≤ p ≤ c ≤ MAX and n ≤ p, the own entry's c is at most the own C,
-- and its bit is one exactly where it has an entry.
pub row_well_formed_is : (b : List ℕ) (q : ℕ) → (row_well_formed b q ≡ true) ↔ RowOf b q
row_well_formed_is b q = (row_facts b q, row_from b q)

-- ---- WELL-FORMEDNESS IS KEPT

-- A fresh replica is right and well-formed in every row.
pub fresh_well_formed : (r k own : ℕ) → Sizes r k → own < r
    → (right (fresh_words r k own) ≡ true) × ((q : ℕ) → q < k → row_well_formed (fresh_words r k own) q ≡ true)
fresh_well_formed r k own s o =
    (right_from (fresh_words r k own) (fresh_right r k own s o), λ q hq. row_from (fresh_words r k own) q (fresh_row r k own q o hq))

-- Whatever count answers, a right replica stays right and every well-formed row stays well-formed: the counter's own and the others.
pub count_keeps : (b : List ℕ) (q w : ℕ) (out : List ℕ) → Keeps b (count_on b q w out).words
count_keeps b q w out =
    by_place (count_on b q w out).answer.number 0
    (λ h. move_keeps b q _ _ _ (count_move b q w out h))
    (λ d. rw ((count_decided b q w out).refused d) (unmoved_keeps b))

-- Whatever clear answers, a right replica stays right and every well-formed row stays well-formed.
pub clear_keeps : (b : List ℕ) (q : ℕ) (out : List ℕ) → Keeps b (clear_on b q out).words
clear_keeps b q out =
    by_place (clear_on b q out).answer.number 0
    (λ h. move_keeps b q _ _ _ (clear_move b q out h))
    (λ d. rw ((clear_decided b q out).refused d) (unmoved_keeps b))

-- Whatever bytes are taken, a right replica stays right and every well-formed row stays well-formed.
pub take_keeps : (b bytes : List ℕ) → Keeps b (take_on b bytes).words
take_keeps b bytes =
    by_place (take_on b bytes).answer.number 0
    (λ h. move_keeps b _ _ _ _ (take_move b bytes h))
    (λ d. rw ((take_decided format_2 b bytes).refused d) (unmoved_keeps b))

-- ---- ALGORITHM 1

-- An accepted count by w: the own replica takes the increment by w that the specification says, seen through every accessor. (By 1 it is Algorithm 1's, `PaperClaims`.)
pub count_performs : (b : List ℕ) (q w : ℕ) (out : List ℕ) → (count_on b q w out).answer.number ≡ 0 → Performed b (own_card b) (count_of b q w) (count_on b q w out).words
count_performs b q w out h = (count_move b q w out h).performed

-- An accepted clear is Algorithm 1's: the own replica takes the clear that the generator returns.
pub clear_performs : (b : List ℕ) (q : ℕ) (out : List ℕ) → (clear_on b q out).answer.number ≡ 0 → Performed b (own_card b) (clear_of b q) (clear_on b q out).words
clear_performs b q out h = (clear_move b q out h).performed

-- An accepted take does what the specification says of the message that the bytes are, from the sender that they name.
pub take_performs : (b bytes : List ℕ) → (take_on b bytes).answer.number ≡ 0
    → let m = message_at version_2 bytes in Performed b m.sender (content m) (take_on b bytes).words
take_performs b bytes h = (take_move b bytes h).performed

-- The message that an accepted count by w sends is the increment by w, numbered N + 1, in 40 bytes; the output behind it stays.
pub count_sends : (b : List ℕ) (q w : ℕ) (out : List ℕ) → (count_on b q w out).answer.number ≡ 0
    → ((count_on b q w out).answer ≡ record { number = 0; sequence = N_of (cards b) b (own_card b) + 1; length = increment_length version_2 })
    × ((count_on b q w out).out ≡ over (message_bytes (sent_as b (count_of b q w))) out)
unfolding count_message increment_message
count_sends b q w out h = rw ((count_decided b q w out).accepted h) (refl, refl)

-- The message that an accepted clear sends is the one that the generator returns, numbered N + 1, in 28 bytes and 20 for each present entry; the output behind it stays.
pub clear_sends : (b : List ℕ) (q : ℕ) (out : List ℕ) → (clear_on b q out).answer.number ≡ 0
    → ((clear_on b q out).answer ≡ record { number = 0; sequence = N_of (cards b) b (own_card b) + 1; length = clear_length (holders b q) })
    × ((clear_on b q out).out ≡ over (message_bytes (sent_as b (clear_of b q))) out)
unfolding clear_message form.clear_message shown
clear_sends b q out h = rw ((clear_decided b q out).accepted h) (rw (present_length (entry_of (cards b) b q) (cards b)), refl)

-- After an accepted count by w the own N is one more and the own C is w more; no other C or N moves, no entry but the own one of the counter, and no other counter's bit.
pub count_moves : (b : List ℕ) (q w : ℕ) (out : List ℕ) → (count_on b q w out).answer.number ≡ 0 → OnlyMoves b (own_card b) (count_of b q w) (count_on b q w out).words
count_moves b q w out h = move_moves b q _ _ _ (count_move b q w out h)

-- After an accepted clear the own N is one more; no C and no other N moves, no entry but those of the counter that the clear names, and no other counter's bit.
pub clear_moves : (b : List ℕ) (q : ℕ) (out : List ℕ) → (clear_on b q out).answer.number ≡ 0 → OnlyMoves b (own_card b) (clear_of b q) (clear_on b q out).words
clear_moves b q out h = move_moves b q _ _ _ (clear_move b q out h)

-- After an accepted take the sender's N is one more, and its C is more by the amount if it was an increment; no other C or N moves, no entry but those of the counter that the message names,
-- and no other counter's bit.
pub take_moves : (b bytes : List ℕ) → (take_on b bytes).answer.number ≡ 0
    → let m = message_at version_2 bytes in OnlyMoves b m.sender (content m) (take_on b bytes).words
take_moves b bytes h = move_moves b _ _ _ _ (take_move b bytes h)

-- ---- MESSAGES THAT COUNT AND CLEAR WRITE

-- Where count makes a message, it is in range, it is 40 bytes long, and its bytes read as it: a message of 6 cannot come out of count.
pub count_message_writable : (b : List ℕ) (q w : ℕ) → right b ≡ true → q < counters b → is_amount w ≡ true → row_well_formed b q ≡ true
    → N_of (cards b) b (own_card b) ≢ MAX → C_of b (own_card b) + w ≤ MAX
    → Writable (sent_as b (count_of b q w)) (increment_length version_2)
count_message_writable b q w h l a f d room = count_writable b q w (sending_from b q w h l f d room) a

-- Where clear makes a message, it is in range, it is 28 bytes long and 20 for each present entry, never more than the longest message, and its bytes read as it: nor out of clear.
pub clear_message_writable : (b : List ℕ) (q : ℕ) → right b ≡ true → q < counters b → row_well_formed b q ≡ true → N_of (cards b) b (own_card b) ≢ MAX
    → Writable (sent_as b (clear_of b q)) (clear_length (holders b q))
clear_message_writable b q h l w d = clear_writable b q 0 (sending_from b q 0 h l w d (none_more b q h w))

-- Number 6 is never given by count, clear or read-and-clear.
pub never_unreadable : (b : List ℕ) (q w : ℕ) (out : List ℕ)
    → ((count_on b q w out).answer.number ≢ unreadable) × ((clear_on b q out).answer.number ≢ unreadable) × ((read_and_clear_on b q out).answer.number ≢ unreadable)
never_unreadable b q w out = (
  λ h. let z = (((count_decided b q w out).exact unreadable).0 h).1.1.1.1.1.1 in omega arith,
  λ h. let z = (((clear_decided b q out).exact unreadable).0 h).1.1.1.1.1.1 in omega arith,
  λ h. let z = (((read_and_clear_decided b q out).exact unreadable).0 h).1.1.1.1.1.1 in omega arith,
)

-- Number 16 is never given by clear or read-and-clear.
pub never_bad_amount : (b : List ℕ) (q : ℕ) (out : List ℕ)
    → ((clear_on b q out).answer.number ≢ bad_amount) × ((read_and_clear_on b q out).answer.number ≢ bad_amount)
never_bad_amount b q out = (
  λ h. true≢false (((clear_decided b q out).exact bad_amount).0 h).1.1,
  λ h. true≢false (((read_and_clear_decided b q out).exact bad_amount).0 h).1.1,
)

-- ---- EVERY REFUSAL IS EXACT
-- `Decided`: the call gives a number if and only if its cause holds and no earlier one does, 0 if and only if none does; refused, it is that number with zeros and
-- everything as it was; accepted, it is the result.

-- Open gives 1 or the fresh replica, and is exact.
pub open_exact : (b : List ℕ) (r k own : ℕ)
    → Decided (λ o. o.number) (λ n. record { number = n; words = b }) (open_checks b r k own) (record { number = 0; words = fresh_words r k own }) (open_on b r k own)
open_exact = open_decided

-- Read gives 1, 3, 2 in that order or the counter's reading, and is exact.
pub read_exact : (b : List ℕ) (q : ℕ) → Decided (λ o. o.number) no_reading (read_checks b q) (reading b q) (read_on b q)
read_exact = read_decided

-- Count gives 1, 3, 16, 2, 4, 5 in that order or sends the increment by w, and is exact.
pub count_exact : (b : List ℕ) (q w : ℕ) (out : List ℕ)
    → Decided (λ o. o.answer.number) (λ n. not_sent n b out) (send_checks b q (is_amount w) w out (increment_length version_2)) (sent_with format_2 b out (count_of b q w)) (count_on b q w out)
count_exact = count_decided

-- Clear gives 1, 3, 2, 4, 5 in that order or sends Algorithm 1's clear, and is exact.
pub clear_exact : (b : List ℕ) (q : ℕ) (out : List ℕ)
    → Decided (λ o. o.answer.number) (λ n. not_sent n b out) (send_checks b q true 0 out (clear_length (holders b q))) (sent_with format_2 b out (clear_of b q)) (clear_on b q out)
clear_exact = clear_decided

-- Take gives 1, 6, 3, 2, 7, 8, 9, 10 in that order or applies the message, and is exact.
pub take_exact : (b bytes : List ℕ)
    → Decided (λ o. o.answer.number) (λ n. not_taken n b) (take_checks format_2 b bytes) (taken_with b (format_2.received bytes)) (take_on b bytes)
take_exact = take_decided format_2

-- What `exact` says, read at one number: count gives 3 exactly where the replica is right and the counter is not below k.
pub count_gives_3 : (b : List ℕ) (q w : ℕ) (out : List ℕ) → ((count_on b q w out).answer.number ≡ 3) ↔ ((right b ≡ true) × (ltb q (counters b) ≡ false))
count_gives_3 b q w out = (count_decided b q w out).exact 3

-- At 16: exactly where the replica is right, the counter is below k and the amount is not 1 to 65,535.
pub count_gives_16 : (b : List ℕ) (q w : ℕ) (out : List ℕ)
    → ((count_on b q w out).answer.number ≡ 16) ↔ ((right b ≡ true) × ((ltb q (counters b) ≡ true) × (is_amount w ≡ false)))
count_gives_16 b q w out = (count_decided b q w out).exact 16

-- At 4, of clear, which counts nothing: exactly where the replica is right, the counter is below k, its row is well-formed and the own N is MAX.
pub clear_gives_4 : (b : List ℕ) (q : ℕ) (out : List ℕ)
    → ((clear_on b q out).answer.number ≡ 4)
    ↔ ((right b ≡ true) × (ltb q (counters b) ≡ true) × (row_well_formed b q ≡ true) × (N_of (cards b) b (own_card b) ≡ MAX))
clear_gives_4 b q out =
    let e = (clear_decided b q out).exact 4 in
    let N = N_of (cards b) b (own_card b) in (
      λ h.
          let (h₁, (h₃, (_, (h₂, h₄)))) = e.0 h in
          (h₁, h₃, h₂, by_place N MAX (λ same. same) (λ d. absurd (true≢false (rw (ne_eqb N MAX d, le-leb (C_of b (own_card b) + 0) MAX (none_more b q h₁ h₂)) at h₄)))),
      λ h. e.1 (h.0, (h.1, (refl, (h.2, rw (eq-eqb N MAX h.3))))),
    )

-- And at 0: read answers exactly where the replica is right, the counter is below k and its row is well-formed.
pub read_gives_0 : (b : List ℕ) (q : ℕ) → ((read_on b q).number ≡ 0) ↔ ((right b ≡ true) × ((ltb q (counters b) ≡ true) × ((row_well_formed b q ≡ true) × (◌≡◌ {A = ℕ} 0 0))))
read_gives_0 b q = (read_decided b q).exact 0

-- ---- NO CALL ONLY DECLINES

-- Open accepts every right size.
pub open_accepts : (b : List ℕ) (r k own : ℕ) → Sizes r k → own < r → length b ≡ replica_length r k → (open_on b r k own).number ≡ 0
open_accepts = sizes_opened

-- Read accepts every counter of every fresh replica.
pub read_accepts : (r k own q : ℕ) → Sizes r k → own < r → q < k → (read_on (fresh_words r k own) q).number ≡ 0
read_accepts = fresh_read

-- Count accepts every counter of every fresh replica and every amount from 1 to 65,535, into 40 bytes or more.
pub count_accepts : (r k own q w : ℕ) → Sizes r k → own < r → q < k → 1 ≤ w → w ≤ 65535 → (out : List ℕ) → increment_length version_2 ≤ length out
    → (count_on (fresh_words r k own) q w out).answer.number ≡ 0
count_accepts = fresh_count

-- Clear accepts every counter of every fresh replica, into 28 bytes or more.
pub clear_accepts : (r k own q : ℕ) → Sizes r k → own < r → q < k → (out : List ℕ) → clear_length 0 ≤ length out → (clear_on (fresh_words r k own) q out).answer.number ≡ 0
clear_accepts = fresh_clear

-- Read-and-clear accepts what clear accepts.
pub read_and_clear_accepts : (r k own q : ℕ) → Sizes r k → own < r → q < k → (out : List ℕ) → clear_length 0 ≤ length out
    → (read_and_clear_on (fresh_words r k own) q out).answer.number ≡ 0
unfolding read_and_clear_on
read_and_clear_accepts = fresh_clear

-- Take accepts any other card's first increment, by any amount from 1 to 65,535, on any counter of a fresh replica.
pub take_accepts : (r k own q w : ℕ) → Sizes r k → own < r → q < k → 1 ≤ w → w ≤ 65535 → (j : ℕ) → j < r → j ≢ own
    → (take_on (fresh_words r k own) (message_bytes (increment_message version_2 j 1 q w 1 w))).answer.number ≡ 0
take_accepts = fresh_take

-- ---- ISOLATION

-- Whatever count on counter q answers, every other row keeps its words and its bit, and read its whole answer for every other counter whose row was well-formed.
pub count_isolates : (b : List ℕ) (q w : ℕ) (out : List ℕ) → Isolates b q (count_on b q w out).words
count_isolates b q w out =
    by_place (count_on b q w out).answer.number 0
    (λ h. move_isolates b q _ _ _ (count_move b q w out h))
    (λ d. rw ((count_decided b q w out).refused d) (unmoved_isolates b q))

-- Whatever clear on counter q answers, every other row keeps its words and its bit, and read its whole answer for every other counter whose row was well-formed.
pub clear_isolates : (b : List ℕ) (q : ℕ) (out : List ℕ) → Isolates b q (clear_on b q out).words
clear_isolates b q out =
    by_place (clear_on b q out).answer.number 0
    (λ h. move_isolates b q _ _ _ (clear_move b q out h))
    (λ d. rw ((clear_decided b q out).refused d) (unmoved_isolates b q))

-- Whatever take answers to bytes on counter q, every other row keeps its words and its bit, and read its whole answer for every other counter whose row was well-formed.
pub take_isolates : (b bytes : List ℕ) → Isolates b (message_at version_2 bytes).counter (take_on b bytes).words
take_isolates b bytes =
    by_place (take_on b bytes).answer.number 0
    (λ h. move_isolates b _ _ _ _ (take_move b bytes h))
    (λ d. rw ((take_decided format_2 b bytes).refused d) (unmoved_isolates b (message_at version_2 bytes).counter))

-- ---- READ AND CLEAR IN ONE CALL

-- All but its value is clear's, word for word and byte for byte: so every claim on clear is one on read-and-clear.
pub read_and_clear_is_clear : (b : List ℕ) (q : ℕ) (out : List ℕ)
    → let done = read_and_clear_on b q out in done ≡ with_value done.answer.value (clear_on b q out)
unfolding read_and_clear_on
read_and_clear_is_clear b q out = refl

-- Accepted, it answers the value that a read gives just before, and that read is accepted. Refused, it answers 0.
pub read_and_clear_value : (b : List ℕ) (q : ℕ) (out : List ℕ)
    → let done = read_and_clear_on b q out in
    (done.answer.number ≡ 0 → ((read_on b q).number ≡ 0) × (done.answer.value ≡ (read_on b q).value)) × (done.answer.number ≢ 0 → done.answer.value ≡ 0)
read_and_clear_value b q out = (read_before b q out, λ some. rw ((read_and_clear_decided b q out).refused some))

-- Read-and-clear gives 1, 3, 2, 4, 5 in that order, or sends Algorithm 1's clear and answers the counter's value, and is exact.
pub read_and_clear_exact : (b : List ℕ) (q : ℕ) (out : List ℕ)
    → Decided (λ o. o.answer.number) (λ n. with_value 0 (not_sent n b out)) (send_checks b q true 0 out (clear_length (holders b q)))
    (with_value (reading b q).value (sent_with format_2 b out (clear_of b q))) (read_and_clear_on b q out)
read_and_clear_exact = read_and_clear_decided

-- Whatever read-and-clear on counter q answers, every other row keeps its words and its bit, and read its whole answer for every other counter whose row was well-formed.
pub read_and_clear_isolates : (b : List ℕ) (q : ℕ) (out : List ℕ) → Isolates b q (read_and_clear_on b q out).words
unfolding read_and_clear_on
read_and_clear_isolates = clear_isolates

-- ---- QUIET

-- A well-formed row is quiet exactly when the counter's r entries are all zeros.
pub quiet_is_all_zeros : (b : List ℕ) (q : ℕ) → right b ≡ true → q < counters b → row_well_formed b q ≡ true
    → (is_quiet (read_on b q) ≡ true) ↔ AllZeros b q
quiet_is_all_zeros = all_zeros

-- For all words and numbers, a counter is quiet exactly when the four numbers that read gives are 0: a refused read is not quiet, and a quiet counter's value is 0.
pub quiet_reads_zeros : (b : List ℕ) (q : ℕ)
    → (is_quiet (read_on b q) ≡ true) ↔ (read_on b q ≡ record { number = 0; value = 0; holders = 0; holder_count = 0 })
quiet_reads_zeros = reads_zeros

-- ---- VERSIONS

-- Take refuses messages of version 1 with 6, and nothing moves.
pub take_version_1 : (b bytes : List ℕ) → right b ≡ true → reads version_1 bytes ≡ true → take_on b bytes ≡ not_taken unreadable b
take_version_1 b bytes h v =
    let other : reads version_2 bytes ≡ false = by_test (reads version_2 bytes) (λ t. let same = one_version version_1 version_2 bytes v t in absurd (omega arith)) (λ t. t) in
    refusal_given (take_decided format_2 b bytes) unreadable (λ e. omega arith) (h, other)

-- ---- ORDER AND REPEATS

-- A message taken twice is refused the second time with 8, and nothing moves.
pub take_twice : (b bytes : List ℕ) → (take_on b bytes).answer.number ≡ 0 → take_on (take_on b bytes).words bytes ≡ not_taken repeated (take_on b bytes).words
take_twice = again_refused

-- A message at or below N of its sender is refused with 8, and nothing moves.
pub take_late : (b bytes : List ℕ) → Addressed b bytes → (message_at version_2 bytes).sequence ≤ N_of (cards b) b (message_at version_2 bytes).sender → take_on b bytes ≡ not_taken repeated b
take_late = old_refused

-- A message above N + 1 of its sender is refused with 9, and nothing moves.
pub take_early : (b bytes : List ℕ) → Addressed b bytes → N_of (cards b) b (message_at version_2 bytes).sender + 1 < (message_at version_2 bytes).sequence → take_on b bytes ≡ not_taken early b
take_early = early_refused
