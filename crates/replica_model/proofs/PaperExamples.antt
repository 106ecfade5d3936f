-- CLAIMS. `Paper`'s terms on counts of a fresh replica, computed; and two wrong outcomes that are no step of the paper's.
use Rattle.std.specs.Prelude.{ℕ, ◌≡◌, refl, List, true, take, replicate}
use Rattle.std.proofs.Common.{ap, arith}
use Rattle.protocol.proofs.Tables.{put}
use Rattle.protocol.specs.Entry.{incremented}
use Rattle.protocol.specs.Chassis.{count_message}
use Rattle.protocol.proofs.StoreLaws.{taken_words, shown}
use Rattle.protocol.specs.Algorithm1.{unmapped, mapped, c_of, inc, inc_generator, inc_effector, effector}
use Rattle.protocol.specs.Functions.{bit, with_bit, any_below, all_below}
use Rattle.protocol.specs.Acceptance.{tables_well_formed, entry_well_formed, card_well_formed}
use Rattle.wire.specs.Number.{number_at, bytes_of}
use Rattle.wire.specs.Message.{version_2, header_bytes, increment_bytes, message_bytes, increment_message, message_at}
use Rattle.replica_model.specs.Layout.{fresh_words}
use Rattle.replica_model.specs.Calls.{replica_fits, words_after, send_with, SendOutcome, sizes_in_range, right, row_well_formed, count_on}
use Rattle.replica_model.specs.Paper.{instance_of, update_of, PaperStep}

-- card 0 of two, with two counters
abbrev pub fresh : List ℕ
fresh = fresh_words 2 2 0

abbrev pub counted : List ℕ → ℕ → SendOutcome
counted b q = count_on b q 1 (replicate 40 0)

-- Lines 14 and 20: the first count returns and sends (inc, 0, 1, true), and leaves M[0] = (1, 0, 1) and C[0] = 1; the other counter shares C and has no M[0].
pub count_on_fresh : let done = counted fresh 0 in
    (inc_generator 0 (instance_of fresh 0) ≡ inc 0 1 true) × (update_of (message_at version_2 (take 40 done.out)) ≡ inc 0 1 true)
    × ((instance_of done.words 0).M 0 ≡ mapped 1 0 1) × ((instance_of done.words 0).C 0 ≡ 1) × ((instance_of done.words 1).M 0 ≡ unmapped) × ((instance_of done.words 1).C 0 ≡ 1)
unfolding sizes_in_range right replica_fits all_below any_below bit with_bit entry_well_formed card_well_formed row_well_formed tables_well_formed send_with words_after count_on fresh_words header_bytes increment_bytes message_bytes increment_message message_at number_at bytes_of taken_words shown count_message put incremented inc_generator update_of
count_on_fresh = (refl, refl, refl, refl, refl, refl)

-- Words that stay as they were are no increment performed: C[0] is 1 afterwards.
pub nothing_performed : PaperStep fresh 0 (inc 0 1 true) fresh → ⊥
unfolding fresh_words shown effector inc_effector put
nothing_performed k = let z = (k.own 0 (omega arith)).0 in omega arith

-- Nor is a count of another counter: the C is right, and M[0] of counter 0 is still unmapped.
pub another_performed : PaperStep fresh 0 (inc 0 1 true) (counted fresh 1).words → ⊥
unfolding sizes_in_range right replica_fits all_below any_below bit with_bit entry_well_formed card_well_formed row_well_formed tables_well_formed send_with words_after count_on fresh_words increment_message taken_words shown count_message put incremented effector inc_effector
another_performed k = let z = ap c_of (k.own 0 (omega arith)).1 in omega arith
