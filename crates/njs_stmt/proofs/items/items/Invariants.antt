use Rattle.std.proofs.Common.{◌-◌, length, drop}
use Rattle.njs_tree.specs.TokenList.{symbols_of}
use Rattle.njs_stmt.proofs.NextItems.{ReadTo}
use Rattle.njs_stmt.proofs.items.items.Given as goal

-- what is read from here on decides
abbrev pub invariant-loop-token : goal.invariant-loop-token
invariant-loop-token l = ReadTo (symbols_of l.text l.tokens) l.found l.exported (drop l.at (symbols_of l.text l.tokens))

abbrev pub decreases-loop-token : goal.decreases-loop-token
decreases-loop-token l = length l.tokens - l.at
