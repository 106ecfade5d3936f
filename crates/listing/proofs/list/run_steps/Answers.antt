-- The run begins with zeros in the words, the logs and the answers, as its definition here does.
use Rattle.std.proofs.Common.{◌*◌, ◌/◌, ◌≤◌, length, arith}
use Rattle.chassis_model.specs.Run.{answer_length, step_length}
use Rattle.listing.specs.Listing.{most_listed_cards, most_listed_steps, log_bytes}
use Rattle.listing.proofs.ListingLaws.{take_replicate, run_words_are}
use Rattle.listing.proofs.list.run_steps.Goals as goal

pub returns : goal.returns
returns c =
    let cards = c.args.input.cards in
    let steps = c.args.input.steps.now in
    let few_cards : cards * log_bytes ≤ most_listed_cards * log_bytes = omega arith in
    let few_steps : answer_length * (length steps / step_length) ≤ answer_length * most_listed_steps = omega arith in
    run_words_are cards c.args.input.counters steps _ _ _ _ _ _ _
    c.requires.1
    (take_replicate (cards * log_bytes) (most_listed_cards * log_bytes) 0 few_cards)
    (take_replicate (answer_length * (length steps / step_length)) (answer_length * most_listed_steps) 0 few_steps)
    c.run.ensures
