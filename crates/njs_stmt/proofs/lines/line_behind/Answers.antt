use Rattle.std.proofs.Common.{◌≡◌, ◌+◌, ◌≤◌, arith}
use Rattle.njs_tree.specs.Characters.{line_at}
use Rattle.njs_tree.specs.TokenList.{text_from}
use Rattle.njs_stmt.proofs.LineEnds.{few_lines, from_boundary, to_boundary, token_line, token_rest}
use Rattle.njs_stmt.proofs.lines.line_behind.Goals as goal

pub range_from-requires : goal.range_from-requires
range_from-requires c = λ some. from_boundary c.args.text.now c.as_str-whole.result.now c.args.token c.as_bytes.ensures.scalars c.as_str-whole.ensures c.requires

pub range_from-requires-2 : goal.range_from-requires-2
range_from-requires-2 c = λ some. to_boundary c.args.text.now c.as_str-whole.result.now c.args.token c.as_bytes.ensures.scalars c.as_str-whole.ensures c.requires

pub lines_between-lines-requires : goal.lines_between-lines-requires
lines_between-lines-requires c =
    token_rest c.args.text.now c.as_str-whole.result.now c.range_from.result.now c.range_from-2.result.now c.args.token c.as_bytes.ensures.scalars c.as_str-whole.ensures c.range_from.ensures.value c.range_from-2.ensures.value c.requires

pub returns : goal.returns
returns c =
    token_line c.args.text.now c.as_str-whole.result.now c.range_from.result.now c.range_from-2.result.now c.lines_between-lines.result c.args.token c.as_bytes.ensures.scalars c.as_str-whole.ensures c.range_from.ensures.value
    c.range_from-2.ensures.value c.requires c.lines_between-lines.ensures

pub overflow_add-result : goal.overflow_add-result
overflow_add-result c =
    let line : c.args.token.line + c.lines_between-lines.result ≡ line_at c.args.text.now (text_from c.args.text.now c.args.token.to) =
    token_line c.args.text.now c.as_str-whole.result.now c.range_from.result.now c.range_from-2.result.now c.lines_between-lines.result c.args.token c.as_bytes.ensures.scalars c.as_str-whole.ensures c.range_from.ensures.value
    c.range_from-2.ensures.value c.requires c.lines_between-lines.ensures in
    let small : c.args.token.line + c.lines_between-lines.result ≤ 1048577 = few_lines c.args.text.now (c.args.token.line + c.lines_between-lines.result) c.args.token.to c.as_bytes.ensures.few line in
    omega (arith, small)

pub overflow_cast-result : goal.overflow_cast-result
overflow_cast-result c =
    let line : c.args.token.line + c.lines_between-lines.result ≡ line_at c.args.text.now (text_from c.args.text.now c.args.token.to) =
    token_line c.args.text.now c.as_str-whole.result.now c.range_from.result.now c.range_from-2.result.now c.lines_between-lines.result c.args.token c.as_bytes.ensures.scalars c.as_str-whole.ensures c.range_from.ensures.value
    c.range_from-2.ensures.value c.requires c.lines_between-lines.ensures in
    let small : c.args.token.line + c.lines_between-lines.result ≤ 1048577 = few_lines c.args.text.now (c.args.token.line + c.lines_between-lines.result) c.args.token.to c.as_bytes.ensures.few line in
    omega (arith, small)
