use Rattle.std.proofs.Common.{◌-◌, length}
use Rattle.std.specs.Str.{encode_utf8_all}
use Rattle.njs_stmt.proofs.Cutting.{CutTo}
use Rattle.njs_stmt.proofs.tokens.tokenize.Given as goal

-- the text is cut up to the place
abbrev pub invariant-loop-tokens : goal.invariant-loop-tokens
invariant-loop-tokens l = CutTo l.text l.tokens.items l.at l.line

abbrev pub decreases-loop-tokens : goal.decreases-loop-tokens
decreases-loop-tokens l = length (encode_utf8_all l.text) - l.at
