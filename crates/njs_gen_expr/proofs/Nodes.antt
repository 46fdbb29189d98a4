-- The code of a node, and the names in use in it, by its parts.
use Rattle.std.proofs.Common.{◌≡◌, ℕ, List, Bool, ap, ◌∙◌, rules}
use Rattle.njs_tree.specs.declared.tree.Expr.{Expr, the_lemmas}
use Rattle.njs_tree.specs.declared.tree.ExprNode.TheVariants.{Member as MemberNode, Update as UpdateNode}
use Rattle.njs_tree.specs.declared.tree.UpdateOp.{UpdateOp}
use Rattle.njs_meaning.specs.Parts.{one}
use Rattle.njs_simul.specs.Emission as emit
use Rattle.njs_simul.specs.Compiled.{expression}

pub member_is : (e a : Expr) (text : List ℕ) → e.node ≡ MemberNode a text → expression e ≡ one (expression a) (λ c. emit.member c text)
unfolding expression
member_is e a text same =
    let known : expression (record e { node = MemberNode a text }) ≡ one (expression a) (λ c. emit.member c text) = search (rules, the_lemmas) in
    ap (λ node. expression (record e { node = node })) same ∙ known

pub update_is : (e a : Expr) (f : UpdateOp) (prefix : Bool) → e.node ≡ UpdateNode f prefix a → expression e ≡ one (expression a) (emit.stepping f prefix)
unfolding expression
update_is e a f prefix same =
    let known : expression (record e { node = UpdateNode f prefix a }) ≡ one (expression a) (emit.stepping f prefix) = search (rules, the_lemmas) in
    ap (λ node. expression (record e { node = node })) same ∙ known
