-- The present entries of the cards below `card` are written and cleared (`Making`), over the words before the call and the output with its header.
use Rattle.sending.specs.ClearLaws.{Making}
use Rattle.sending.proofs.clearing.make.Given as goal

abbrev pub invariant-loop-card : goal.invariant-loop-card
invariant-loop-card l = Making l.fn.words l.initial.out l.row.cards l.row.counter l.card l.words l.out l.value l.len
