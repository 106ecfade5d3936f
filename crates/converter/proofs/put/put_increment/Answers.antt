-- The version, the bytes behind it as far as the amount, and the amount where the version has one (`amount_none`, `amount_put`).
use Rattle.std.proofs.Common.{◌≡◌, true, false, sym, ◌∙◌}
use Rattle.wire.specs.Message.{has_amount}
use Rattle.converter.specs.PutLaws.{amount_none, amount_put}
use Rattle.converter.proofs.put.put_increment.Goals as goal

pub returns-then-not-has_amount : goal.returns-then-not-has_amount
returns-then-not-has_amount c =
    let none : has_amount c.args.to ≡ false = sym c.has_amount.ensures ∙ c.if-not-has_amount.true in
    (rw none, amount_none c.args.to c.args.message.now c.args.out.now _ _ c.requires.0 c.requires.1 c.write.ensures c.copy_eights.ensures none)

pub returns : goal.returns
returns c =
    let has : has_amount c.args.to ≡ true = sym c.has_amount.ensures ∙ c.if-not-has_amount.false in
    (rw has, amount_put c.args.to c.args.message.now c.args.out.now _ _ c.requires.0 c.requires.1 c.write.ensures c.copy_eights.ensures has _ c.write-2.ensures)
