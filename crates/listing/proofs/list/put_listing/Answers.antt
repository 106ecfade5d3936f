-- The words of every right run fit, and begin as zeros.
use Rattle.std.proofs.Common.{◌*◌, ◌≤◌, arith}
use Rattle.listing.specs.Sizes.{most_words}
use Rattle.listing.proofs.ListingLaws.{words_fit, take_replicate}
use Rattle.listing.proofs.list.put_listing.Goals as goal

pub put_run-requires : goal.put_run-requires
put_run-requires c =
    let fit : c.args.input.cards * c.replica_words.result ≤ most_words =
    rw c.replica_words.ensures (words_fit c.args.input.cards c.args.input.counters c.requires.0.cards c.requires.0.counters) in
    (c.requires.0, rw (← c.replica_words.ensures) (take_replicate (c.args.input.cards * c.replica_words.result) most_words 0 fit), omega arith)
