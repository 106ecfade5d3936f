use Rattle.std.proofs.Common.{◌∙◌, arith}
use Rattle.converter.specs.PutLaws.{eights_next}
use Rattle.converter.proofs.put.copy_eights.Goals as goal

pub loop-i-preserved : goal.loop-i-preserved
loop-i-preserved c =
    let next = eights_next c.args.bytes.now c.args.out.now c.args.from c.loop-i.i (λ k. omega (arith, c.type_inv.bytes k)) (omega arith) in
    c.write.ensures ∙ rw (c.read.ensures, c.loop-i.invariant) next
