use Rattle.std.proofs.Common.{subst, refl}
use Rattle.std.proofs.lemmas.List.Elements.{All-more}
use Rattle.http_out.specs.Reply.{IsField}
use Rattle.http_out.proofs.reply.are_fields.Goals as goal

pub loop-name-preserved : goal.loop-name-preserved
loop-name-preserved c =
    All-more IsField c.args.fields.now c.loop-name.name-index c.loop-name-item.result c.loop-name-test.true c.loop-name.invariant
    (subst IsField c.loop-name-item.is (c.if-not-is_field_name.ensures.0 refl, c.if-not-is_field_value.ensures.0 refl))
