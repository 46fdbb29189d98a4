use Rattle.std.proofs.Common.{None}
use Rattle.njs_stmt.proofs.Reading.{refused_items}
use Rattle.njs_stmt.proofs.Symbols.{finished, none_finished, shallow}
use Rattle.njs_stmt.proofs.parser.parse_items.Goals as goal

pub returns-in-Ok : goal.returns-in-Ok
returns-in-Ok c = (
  c.requires.short,
  shallow c.args.text.now c.args.tokens.now None c.requires.tokens c.requires.brackets,
  finished c.args.text.now c.args.tokens.now c.in-Ok.items c.requires.tokens c.in-Ok.ensures,
)

pub returns-in-Err-Refused : goal.returns-in-Err-Refused
returns-in-Err-Refused c =
    let refused = refused_items c.args.text.now c.args.tokens.now c.in-Err-Refused.field-0 c.in-Err-Refused.line c.in-Err-Refused.ensures c.in-Err-Refused.field-0-is in (
      c.requires.short,
      shallow c.args.text.now c.args.tokens.now None c.requires.tokens c.requires.brackets,
      none_finished c.args.text.now c.args.tokens.now c.requires.tokens refused.1,
      refused.0,
    )
