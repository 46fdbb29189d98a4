use Rattle.std.proofs.Common.{◌≡◌, drop}
use Rattle.std.specs.Str.{chars}
use Rattle.njs_lexer.specs.Steps.{first_begun}
use Rattle.njs_lexer.proofs.marks.first_of.Given as goal

abbrev pub invariant-loop-mark : goal.invariant-loop-mark
invariant-loop-mark l = first_begun l.marks (chars l.text) ≡ first_begun (drop l.mark-index l.marks) (chars l.text)
