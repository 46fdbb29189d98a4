use Rattle.std.proofs.Common.{◌+◌, ◌<◌, length, sym, arith}
use Rattle.njs_tree.specs.declared.token.Keyword.TheVariants as keyword
use Rattle.njs_stmt.proofs.Reading.{default_refused, export_found, export_stopped, second_refused, word_further}
use Rattle.njs_stmt.proofs.items.export.Goals as goal

pub returns-then-exported : goal.returns-then-exported
returns-then-exported c = second_refused c.args.text.now c.args.tokens.now c.args.exported c.args.at c.line_at.result c.requires.fit.0 c.requires.word c.if-exported.true c.line_at.ensures

pub returns-then-not-is_default_at : goal.returns-then-not-is_default_at
returns-then-not-is_default_at c =
    default_refused c.args.text.now c.args.tokens.now c.args.exported c.args.at c.line_at-then-not-is_default_at.result c.requires.fit.0 c.requires.word (sym c.if-not-is_default_at.ensures) c.line_at-then-not-is_default_at.ensures

pub value-requires-clause-place : goal.value-requires-clause-place
value-requires-clause-place c =
    let further : c.args.at + 1 + 1 < length c.args.tokens.now = word_further c.args.text.now c.args.tokens.now keyword.Default (c.args.at + 1) c.requires.fit.0 (sym c.if-not-is_default_at.ensures) in
    omega (arith, further)

pub returns-in-Ok : goal.returns-in-Ok
returns-in-Ok c =
    export_found c.args.text.now c.args.tokens.now c.args.exported c.args.at c.in-Ok.to c.line_at-in-Ok.result c.in-Ok.value c.if-exported.false c.requires.word (sym c.if-not-is_default_at.ensures) c.in-Ok.ensures c.line_at-in-Ok.ensures

pub returns-in-Err : goal.returns-in-Err
returns-in-Err c = export_stopped c.args.text.now c.args.tokens.now c.args.exported c.args.at c.in-Err.stop c.requires.word c.in-Err.ensures
