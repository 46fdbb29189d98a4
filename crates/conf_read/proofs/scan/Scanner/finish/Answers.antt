use Rattle.std.proofs.Common.{◌∙◌, sym, ap, subst}
use Rattle.conf_read.specs.Tree.{Ending}
use Rattle.conf_read.specs.Scan.{Gives, ended}
use Rattle.conf_read.proofs.Reading.{ends_word, ends_quoted, ends_escaped}
use Rattle.conf_read.proofs.scan.Scanner.finish.Goals as goal

pub returns-in_ok-end_word-in-Word : goal.returns-in_ok-end_word-in-Word
returns-in_ok-end_word-in-Word c =
    subst (λ g. Gives g c.args.last c.into_pieces-in-Word.result) (sym (ends_word c.args.self c.in-Word.is ∙ c.in_ok-end_word-in-Word.ensures.takes (ended Ending.whole))) c.into_pieces-in-Word.ensures

pub returns-in-Quoted : goal.returns-in-Quoted
returns-in-Quoted c = ends_quoted c.args.self c.in-Quoted.field-0 c.args.last c.in-Quoted.is

pub returns-in-Escaped : goal.returns-in-Escaped
returns-in-Escaped c = ends_escaped c.args.self c.in-Escaped.field-0 c.args.last c.in-Escaped.is
