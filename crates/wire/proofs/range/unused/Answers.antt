-- Each of them is tested until one is not zeros.
use Rattle.std.proofs.Common.{◌∙◌, rules, tests}
use Rattle.std.proofs.lemmas.Iterator.{YieldsList-from_slice}
use Rattle.std.proofs.lemmas.Iterator.Search.{all_from_yields_List}
use Rattle.wire.specs.Message.{entry_unused}
use Rattle.wire.specs.EntriesLaws.{unused_all}
use Rattle.wire.proofs.range.unused.Goals as goal

pub returns : goal.returns
returns c =
    all_from_yields_List entry_unused _ _ c.all.result c.all.ensures.ran (YieldsList-from_slice c.args.entries.now cc) (λ x b q k. search (rules, tests))
    ∙ unused_all c.args.entries.now
