-- The digits to the front of what is left, and the text behind them.
use Rattle.std.proofs.Common.{arith}
use Rattle.text.proofs.PutLaws.{put_then, put_past}
use Rattle.text.proofs.Output.put_field.Goals as goal

pub returns-clause-put : goal.returns-clause-put
returns-clause-put c = put_then (put_past c.put_decimal.ensures (omega arith)) c.put_text.ensures.put
