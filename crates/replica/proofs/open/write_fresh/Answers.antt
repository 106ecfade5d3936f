-- Zeros with a head are the fresh words.
use Rattle.std.proofs.Common.{◌∙◌}
use Rattle.layout.specs.WordsLaws.{fresh_made}
use Rattle.replica.proofs.open.write_fresh.Goals as goal

pub returns : goal.returns
returns c = c.set_head.ensures ∙ rw (c.fill.ensures.after (λ y same. same)) (fresh_made _ c.args.cards c.args.counters c.args.own c.requires)
