-- An entry that is present makes the row one that has an entry.
use Rattle.std.proofs.Common.{◌∙◌, lt-ltb}
use Rattle.layout.specs.WordsLaws.{mark_present}
use Rattle.layout.proofs.words.Row.put_present.Goals as goal

pub returns : goal.returns
returns c =
    c.set_active.ensures ∙ rw c.put_entry.ensures (mark_present _ _ _ c.requires.0 _ _ c.requires.1 (lt-ltb 0 _ c.requires.2))
