use Rattle.std.proofs.Common.{◌≡◌, ◌≤◌, drop}
use Rattle.njs_tree.specs.Brackets as spec
use Rattle.njs_stmt.proofs.brackets.too_deep.Given as goal

-- the rest of the tokens decides
abbrev pub invariant-loop-token : goal.invariant-loop-token
invariant-loop-token l = (l.level ≤ 200) × (spec.too_deep 0 l.tokens ≡ spec.too_deep l.level (drop l.token-index l.tokens))
