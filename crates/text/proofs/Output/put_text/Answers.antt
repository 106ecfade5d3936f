-- The text is copied to the bytes behind those written.
use Rattle.text.proofs.PutLaws.{put_copied}
use Rattle.text.proofs.Output.put_text.Goals as goal

pub returns-clause-put : goal.returns-clause-put
returns-clause-put c = put_copied _ _ _ _ c.requires c.copy_from_slice.ensures.after
