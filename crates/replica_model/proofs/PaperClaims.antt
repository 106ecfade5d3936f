-- CLAIMS. Each accepted call performs Algorithm 1 of the 2022 paper, in the paper's own form (`protocol`'s `Algorithm1`, line by line), from every replica on which the call is
-- accepted, whether a run reaches it or not. The paper's increments are by 1, so a count and an increment taken are by 1 here; by other amounts they are increments in a row,
-- in every run (`chassis_model`'s `Algorithm1Claims`). `instance_of b q` is counter q of the words b as the paper's instance, `update_of` a message as the paper's update (`Paper`).
use Rattle.std.specs.Prelude.{ℕ, ◌+◌, ◌≤◌, ◌≡◌, List, true, take}
use Rattle.std.proofs.Common.{sym, ◌∙◌}
use Rattle.protocol.specs.Algorithm1.{value, inc_generator, reset_generator}
use Rattle.protocol.proofs.Claims.{algorithm_1_value, algorithm_1_count, algorithm_1_clear}
use Rattle.wire.specs.Message.{version_2, message_at, increment_length, clear_length}
use Rattle.replica_model.specs.Layout.{cards, own_card, N_of}
use Rattle.replica_model.specs.Calls.{state, is_amount, reading, read_on, count_on, clear_on, read_and_clear_on, take_on, holders, count_of, clear_of}
use Rattle.replica_model.specs.Format.{format_2}
use Rattle.replica_model.proofs.CallsLaws.{read_decided, count_decided, clear_decided, take_decided}
use Rattle.replica_model.proofs.Senders.{count_writable, clear_writable}
use Rattle.replica_model.proofs.Receivers.{taking_facts, take_passes, content_counter}
use Rattle.replica_model.proofs.AcceptedCalls.{sent_facts, read_before, count_move, clear_move, take_move}
use Rattle.replica_model.specs.Paper.{instance_of, update_of, PaperStep, Says}
use Rattle.replica_model.proofs.PaperLaws.{inc_made, reset_made, content_is, move_performs, sends}

-- Lines 9-10: an answered read gives the paper's value of the counter's instance.
pub read_is_algorithm_1 : (b : List ℕ) (q : ℕ) → (read_on b q).number ≡ 0 → (read_on b q).value ≡ value (cards b) (instance_of b q)
unfolding reading
read_is_algorithm_1 b q h = rw ((read_decided b q).accepted h) (sym (algorithm_1_value (cards b) q (state b)))

-- Lines 11-26: an accepted count by 1 writes what the generator of inc returns, as the own card's message number N + 1, and performs its effector.
pub count_is_algorithm_1 : (b : List ℕ) (q : ℕ) (out : List ℕ) → (count_on b q 1 out).answer.number ≡ 0
    → let u = inc_generator (own_card b) (instance_of b q) in
    let done = count_on b q 1 out in
    Says (take done.answer.length done.out) (own_card b) (N_of (cards b) b (own_card b) + 1) q u × PaperStep b q u done.words
count_is_algorithm_1 b q out h =
    let d = count_decided b q 1 out in
    let size = increment_length version_2 in
    let (k, asked) = sent_facts b q (is_amount 1) 1 out size ((d.exact 0).0 h) in
    sends b out q _ (count_of b q 1) size _ (algorithm_1_count (own_card b) q (state b)) (inc_made b q) k.row (count_writable b q 1 k asked) (d.accepted h) (count_move b q 1 out h)

-- Lines 27-38: an accepted clear writes what the generator of reset returns, as the own card's message number N + 1, and performs its effector.
pub clear_is_algorithm_1 : (b : List ℕ) (q : ℕ) (out : List ℕ) → (clear_on b q out).answer.number ≡ 0
    → let u = reset_generator (cards b) (instance_of b q) in
    let done = clear_on b q out in
    Says (take done.answer.length done.out) (own_card b) (N_of (cards b) b (own_card b) + 1) q u × PaperStep b q u done.words
clear_is_algorithm_1 b q out h =
    let d = clear_decided b q out in
    let size = clear_length (holders b q) in
    let k = (sent_facts b q true 0 out size ((d.exact 0).0 h)).0 in
    sends b out q _ (clear_of b q) size _ (algorithm_1_clear (cards b) q (state b)) (reset_made b q) k.row (clear_writable b q 0 k) (d.accepted h) (clear_move b q out h)

-- Lines 9-10 and 27-38: an accepted read-and-clear answers the paper's value of the counter's instance, and then does what the accepted clear does.
pub read_and_clear_is_algorithm_1 : (b : List ℕ) (q : ℕ) (out : List ℕ) → (read_and_clear_on b q out).answer.number ≡ 0
    → let u = reset_generator (cards b) (instance_of b q) in
    let done = read_and_clear_on b q out in
    (done.answer.value ≡ value (cards b) (instance_of b q))
    × Says (take done.answer.length done.out) (own_card b) (N_of (cards b) b (own_card b) + 1) q u × PaperStep b q u done.words
unfolding read_and_clear_on
read_and_clear_is_algorithm_1 b q out h =
    let read = read_before b q out h in
    let cleared = clear_is_algorithm_1 b q out h in
    (read.1 ∙ read_is_algorithm_1 b q read.0, cleared.0, cleared.1)

-- Lines 17-26 and 30-38: an accepted take of a clear, or of an increment by 1, performs the effector of the update that the bytes say, on the counter that they name.
pub take_is_algorithm_1 : (b bytes : List ℕ) → (message_at version_2 bytes).amount ≤ 1 → (take_on b bytes).answer.number ≡ 0
    → let m = message_at version_2 bytes in PaperStep b m.counter (update_of m) (take_on b bytes).words
take_is_algorithm_1 b bytes few h =
    let m = message_at version_2 bytes in
    let passes = take_passes b bytes (((take_decided format_2 b bytes).exact 0).0 h) in
    let says = content_is bytes passes.1.0 few in
    let k = taking_facts b bytes passes in
    move_performs b m.counter m.sender (update_of m) _ (rw (content_counter m) at k.row) says.1 (rw (← says.0) (take_move b bytes h))
