-- Where the operations that end a part of the code go on.
use Rattle.std.proofs.Common.{◌≡◌, ℕ, ◌≤◌, List, Some, refl, arith}
use Rattle.njs_code.specs.declared.op.Address.{Address}
use Rattle.njs_code.specs.declared.op.Kind.{Kind}
use Rattle.njs_code.specs.declared.op.Kind.TheVariants as kind
use Rattle.njs_code.specs.Effects.{goes_on, past_of, operands_taken, operands_given, scopes_needed, scopes_taken, scopes_given, lists_taken, lists_given, endings_taken, endings_given}
use Rattle.njs_interp.specs.Leading.{GoesOn}

pub body_past : (labels : List (List ℕ)) (past : Address) → past_of (kind.EndBody labels past) ≡ Some past
unfolding past_of
body_past labels past = refl

pub body_goes : (labels : List (List ℕ)) (past : Address) → GoesOn (kind.EndBody labels past) 0 0
unfolding goes_on operands_taken operands_given scopes_taken scopes_given lists_taken lists_given endings_taken endings_given
body_goes labels past = record { on = refl; operands_taken = refl; operands_given = refl; scopes_taken = refl; scopes_given = refl; lists_taken = refl; lists_given = refl; endings_taken = refl; endings_given = refl }

pub switch_goes : GoesOn kind.EndSwitch 0 0
unfolding goes_on operands_taken operands_given scopes_taken scopes_given lists_taken lists_given endings_taken endings_given
switch_goes = record { on = refl; operands_taken = refl; operands_given = refl; scopes_taken = refl; scopes_given = refl; lists_taken = refl; lists_given = refl; endings_taken = refl; endings_given = refl }

pub block_goes : GoesOn kind.EndBlock 1 0
unfolding goes_on operands_taken operands_given scopes_taken scopes_given lists_taken lists_given endings_taken endings_given
block_goes = record { on = refl; operands_taken = refl; operands_given = refl; scopes_taken = refl; scopes_given = refl; lists_taken = refl; lists_given = refl; endings_taken = refl; endings_given = refl }

pub finally_goes : GoesOn kind.Finally 0 1
unfolding goes_on operands_taken operands_given scopes_taken scopes_given lists_taken lists_given endings_taken endings_given
finally_goes = record { on = refl; operands_taken = refl; operands_given = refl; scopes_taken = refl; scopes_given = refl; lists_taken = refl; lists_given = refl; endings_taken = refl; endings_given = refl }

-- at every operation a scope stands
pub some_scope : (k : Kind) → 1 ≤ scopes_needed k
unfolding scopes_needed
some_scope kind.Leave = omega arith
some_scope _ = omega arith
