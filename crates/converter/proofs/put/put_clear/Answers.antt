-- The bytes are copied, and the version is written over their first word.
use Rattle.converter.specs.PutLaws.{copied_with}
use Rattle.converter.proofs.put.put_clear.Goals as goal

pub returns : goal.returns
returns c = copied_with c.args.to c.args.message.now c.args.out.now _ _ c.requires.0 c.requires.1 c.copy.ensures c.write.ensures
