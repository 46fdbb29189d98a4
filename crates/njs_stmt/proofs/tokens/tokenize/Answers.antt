use Rattle.std.proofs.Common.{◌-◌, ◌<◌, List, length, sym, subst, arith}
use Rattle.std.specs.Str.{encode_utf8_all}
use Rattle.njs_tree.specs.declared.token.Token.{Token}
use Rattle.njs_tree.specs.TokenList.{Tokens}
use Rattle.njs_stmt.proofs.Cutting.{CutTo, cut_boundary, cut_faulty, cut_further, cut_more, cut_stands, cut_whole}
use Rattle.njs_stmt.proofs.tokens.tokenize.Goals as goal

pub next-requires : goal.next-requires
next-requires c = cut_boundary c.args.text.now c.loop-tokens.tokens.items c.loop-tokens.at c.loop-tokens.line c.as_bytes.ensures.scalars c.loop-tokens.invariant

pub returns-in-Err : goal.returns-in-Err
returns-in-Err c = cut_faulty c.args.text.now c.loop-tokens.tokens.items c.loop-tokens.at c.loop-tokens.line c.in-Err.field-0 c.as_bytes.ensures.scalars c.loop-tokens.invariant c.in-Err.ensures

pub returns-then-is_end : goal.returns-then-is_end
returns-then-is_end c =
    subst (Tokens c.args.text.now) (sym c.in_ok-push-in-Ok.ensures.items)
    (cut_whole c.args.text.now c.loop-tokens.tokens.items c.loop-tokens.at c.loop-tokens.line c.in-Ok.token c.as_bytes.ensures.scalars c.as_bytes.ensures.few c.loop-tokens.invariant c.in-Ok.ensures (sym c.if-is_end.ensures))

pub line_behind-line-requires : goal.line_behind-line-requires
line_behind-line-requires c =
    cut_stands c.args.text.now c.loop-tokens.tokens.items c.loop-tokens.at c.loop-tokens.line c.in-Ok.token c.as_bytes.ensures.scalars c.as_bytes.ensures.few c.loop-tokens.invariant c.in-Ok.ensures (sym c.if-is_end.ensures)

pub loop-tokens-smaller : goal.loop-tokens-smaller
loop-tokens-smaller c =
    let further = cut_further c.args.text.now c.loop-tokens.tokens.items c.loop-tokens.at c.loop-tokens.line c.in-Ok.token c.as_bytes.ensures.scalars c.as_bytes.ensures.few c.loop-tokens.invariant c.in-Ok.ensures (sym c.if-is_end.ensures) in
    let bytes = encode_utf8_all c.args.text.now in
    let smaller : length bytes - c.in-Ok.token.to < length bytes - c.loop-tokens.at = omega (arith, further) in
    smaller

pub loop-tokens-preserved : goal.loop-tokens-preserved
loop-tokens-preserved c =
    let P : List Token → Type 0 = λ tokens. CutTo c.args.text.now tokens c.in-Ok.token.to c.line_behind-line.result in
    subst P (sym c.in_ok-push-in-Ok.ensures.items)
    (cut_more c.args.text.now c.loop-tokens.tokens.items c.loop-tokens.at c.loop-tokens.line c.in-Ok.token c.line_behind-line.result c.as_bytes.ensures.scalars c.as_bytes.ensures.few c.loop-tokens.invariant c.in-Ok.ensures
    (sym c.if-is_end.ensures) c.line_behind-line.ensures)
