use Rattle.std.proofs.Common.{◌∙◌, sym, arith}
use Rattle.njs_code.proofs.Outwards.{split_entered}
use Rattle.njs_code.proofs.slots.are_outwards.Goals as goal

pub returns-then-all_have_one : goal.returns-then-all_have_one
returns-then-all_have_one c =
    c.same_slots.ensures
    ∙ sym (split_entered c.args.got.now c.args.entered c.args.slots.now (omega arith) (sym c.all_have_one.ensures ∙ c.if-all_have_one.true))
