-- Small examples of what scripts mean.
use Rattle.std.proofs.Common.{◌≡◌, ℕ, true, false, List, [], ◌∷◌, Option, Some, None, codes, pos, refl, arith}
use Rattle.njs_tree.specs.declared.tree.BinaryOp.TheVariants as op
use Rattle.njs_tree.specs.declared.tree.Expr.{Expr, roll-Expr, the_lemmas}
use Rattle.njs_tree.specs.declared.tree.ExprNode.{ExprNode}
use Rattle.njs_tree.specs.declared.tree.ExprNode.TheVariants as node
use Rattle.njs_tree.specs.declared.tree.Stmt.{Stmt, roll-Stmt}
use Rattle.njs_tree.specs.declared.tree.StmtNode.{StmtNode}
use Rattle.njs_tree.specs.declared.tree.StmtNode.TheVariants as step
use Rattle.njs_tree.specs.declared.tree.Case.{Case, roll-Case}
use Rattle.njs_value.specs.declared.Cause.TheVariants.{NullBase}
use Rattle.njs_meaning.specs.Primitives.{Undefined, Number}
use Rattle.njs_meaning.specs.Values.{Simple}
use Rattle.njs_meaning.specs.State.{Response, State, Outcome, Gives, Throws, Spent}
use Rattle.njs_meaning.specs.Errors.{throw}
use Rattle.njs_meaning.specs.Running.{Context, throw_not_defined}
use Rattle.njs_meaning.specs.Completions.{Completion, Normal, Returned, Statement}
use Rattle.njs_meaning.specs.References.{Named}
use Rattle.njs_meaning.specs.Scopes.{bound, with_scope}
use Rattle.njs_meaning.specs.Meaning.{statement, is_value, throw_value, return, try_catch}

abbrev on : ExprNode → Expr
on n = roll-Expr (record { line = 1; node = n })

abbrev stands : StmtNode → Stmt
stands n = roll-Stmt (record { line = 1; node = n })

abbrev no_answer : Response
no_answer = record { head = None; body = []; is_finished = false }

abbrev with_ticks : ℕ → State
with_ticks n = record { objects = []; scopes = []; response = no_answer; zones = []; asked = []; log = []; ticks = n }

abbrev number : ℕ → Expr
number n = on (node.Num (pos n))

abbrev runs : StmtNode → Context → ℕ → Outcome Completion
runs n x ticks = (statement (stands n)).means 0 [] x (with_ticks ticks)

abbrev gives_back : ℕ → Stmt
gives_back n = stands (step.Return (Some (number n)))

-- `1 + 2;` takes four ticks
four_ticks : (x : Context) → runs (step.Expr (on (node.Binary op.Add (number 1) (number 2)))) x 4 ≡ Gives Normal (with_ticks 0)
unfolding statement
four_ticks x = grind (arith, the_lemmas)

too_few : (x : Context) → runs (step.Expr (on (node.Binary op.Add (number 1) (number 2)))) x 3 ≡ Spent (with_ticks 0)
unfolding statement
too_few x = grind (arith, the_lemmas)

-- `null.a;`
no_base : (x : Context) → runs (step.Expr (on (node.Member (on node.Null) (codes "a")))) x 5 ≡ throw NullBase (with_ticks 2)
unfolding statement
no_base x = grind (arith, the_lemmas)

-- `a = 1;` where no scope has the name: thrown after the right side
not_bound : (x : Context) → runs (step.Expr (on (node.Assign None (on (node.Name (codes "a"))) (number 1)))) x 4 ≡ throw_not_defined (codes "a") (with_ticks 0)
unfolding statement
not_bound x = grind (arith, the_lemmas)

-- `for (;;) {}`: one tick for each turn, and one for the block
for_ever : (x : Context) → runs (step.For None None None (stands (step.Block []))) x 6 ≡ Spent (with_ticks 0)
unfolding statement
for_ever x = grind (arith, the_lemmas)

-- `while (true) break;`
left : (x : Context) → runs (step.While (on (node.Bool true)) (stands (step.Break None))) x 4 ≡ Gives Normal (with_ticks 0)
unfolding statement
left x = grind (arith, the_lemmas)

-- `do continue; while (false);`: the test comes behind a `continue`
tested_last : (x : Context) → runs (step.Do (stands (step.Continue None)) (on (node.Bool false))) x 4 ≡ Gives Normal (with_ticks 0)
unfolding statement
tested_last x = grind (arith, the_lemmas)

-- `a: while (true) while (true) break a;`
left_by_label : (x : Context) → runs (step.Label (codes "a") (stands (step.While (on (node.Bool true)) (stands (step.While (on (node.Bool true)) (stands (step.Break (Some (codes "a"))))))))) x 9 ≡ Gives Normal (with_ticks 1)
unfolding statement
left_by_label x = grind (arith, the_lemmas)

-- a `finally` that ends normally keeps the pending ending, and one that returns takes its place
abbrev throwing : Statement
throwing = throw_value (is_value (Simple (Number (pos 1))))

kept : (x : Context) → try_catch (throwing ∷ []) None (Some []) [] x (with_ticks 0) ≡ Throws (Simple (Number (pos 1))) (with_ticks 0)
kept x = refl

replaced : (x : Context) → try_catch (throwing ∷ []) None (Some (return None ∷ [])) [] x (with_ticks 0) ≡ Gives (Returned (Simple Undefined)) (with_ticks 0)
replaced x = refl

-- a thrown value has a name in the block of the `catch`
caught : (x : Context) → try_catch (throwing ∷ []) (Some (codes "e", return (Some (λ x s. Gives (Named (codes "e")) s)) ∷ [])) None [] x (with_ticks 0)
    ≡ Gives (Returned (Simple (Number (pos 1)))) (with_scope x.scope (bound (codes "e") (Simple (Number (pos 1))) ∷ []) (with_ticks 0))
caught x = refl

-- `switch`, with `default` in the middle: a later case is met before it, and it falls through
abbrev branch : Option Expr → List Stmt → Case
branch test body = roll-Case (record { test = test; body = body })

met_later : (x : Context) → runs (step.Switch (number 2) (branch (Some (number 1)) (gives_back 1 ∷ []) ∷ branch None [] ∷ branch (Some (number 2)) (gives_back 3 ∷ []) ∷ [])) x 6 ≡ Gives (Returned (Simple (Number (pos 3)))) (with_ticks 0)
unfolding statement
met_later x = grind (arith, the_lemmas)

falls_through : (x : Context) → runs (step.Switch (number 5) (branch (Some (number 1)) (gives_back 1 ∷ []) ∷ branch None [] ∷ branch (Some (number 2)) (gives_back 3 ∷ []) ∷ [])) x 6 ≡ Gives (Returned (Simple (Number (pos 3)))) (with_ticks 0)
unfolding statement
falls_through x = grind (arith, the_lemmas)
