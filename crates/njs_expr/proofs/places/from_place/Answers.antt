use Rattle.njs_expr.proofs.Answered.{tokens_cut, from_place}
use Rattle.njs_expr.proofs.places.from_place.Goals as goal

pub new-requires : goal.new-requires
new-requires c = tokens_cut c.args.text.now c.as_str.result.now c.args.tokens.now c.rest_of.result.now c.args.at c.as_str.ensures c.as_bytes-bytes.ensures.scalars c.rest_of.ensures c.requires.tokens

pub returns : goal.returns
returns c =
    from_place c.args.text.now c.as_str.result.now c.args.tokens.now c.rest_of.result.now c.args.at c.new.result c.as_str.ensures c.as_bytes-bytes.ensures.scalars c.rest_of.ensures c.new.ensures
