-- The line of what the read answers: no read gives a number that cannot be written.
use Rattle.std.proofs.Common.{◌≡◌, ◌∙◌, arith}
use Rattle.replica_model.specs.Calls.{read_on}
use Rattle.replica.specs.Holders.{read_below}
use Rattle.listing.proofs.lines.put_counter.Goals as goal

pub put_line-requires : goal.put_line-requires
put_line-requires c =
    let answer : c.from-a.result ≡ read_on c.args.b.now c.args.counter = c.from-a.ensures ∙ c.read.ensures in
    let small = read_below c.args.b.now c.args.counter in (
      rw answer (record {
        card_small = omega arith;
        counter_small = omega arith;
        value_small = omega (arith, small.0);
        holders_small = omega (arith, small.1);
      }),
      omega arith,
    )
