-- The names in use in a node, by its parts.
use Rattle.std.proofs.Common.{◌≡◌, Option, None, Some, ap, ◌∙◌, rules}
use Rattle.njs_tree.specs.declared.tree.Expr.{Expr, the_lemmas}
use Rattle.njs_tree.specs.declared.tree.Stmt.{Stmt}
use Rattle.njs_tree.specs.declared.tree.ForFirst.{ForFirst}
use Rattle.njs_tree.specs.declared.tree.StmtNode.TheVariants.{For as ForNode}
use Rattle.njs_meaning.specs.Parts.{four}
use Rattle.njs_scope.specs.Uses as uses
use Rattle.njs_gen_stmt.specs.Statements.{optional_uses, first_uses}

for_known : (s : Stmt) (f : Option ForFirst) (t u : Option Expr) (b : Stmt)
    → uses.statement (record s { node = ForNode f t u b }) ≡ four (first_uses f) (optional_uses t) (optional_uses u) (uses.statement b) (λ a b c d. uses.both a (uses.both b (uses.both c d)))
unfolding uses.expression uses.statement uses.function uses.branch uses.first uses.head
for_known s (Some f) (Some t) (Some u) b = search (rules, the_lemmas)
for_known s None (Some t) (Some u) b = search (rules, the_lemmas)
for_known s (Some f) None (Some u) b = search (rules, the_lemmas)
for_known s None None (Some u) b = search (rules, the_lemmas)
for_known s (Some f) (Some t) None b = search (rules, the_lemmas)
for_known s None (Some t) None b = search (rules, the_lemmas)
for_known s (Some f) None None b = search (rules, the_lemmas)
for_known s None None None b = search (rules, the_lemmas)

pub for_used : (s : Stmt) (f : Option ForFirst) (t u : Option Expr) (b : Stmt) → s.node ≡ ForNode f t u b
    → uses.statement s ≡ four (first_uses f) (optional_uses t) (optional_uses u) (uses.statement b) (λ a b c d. uses.both a (uses.both b (uses.both c d)))
for_used s f t u b same = ap (λ node. uses.statement (record s { node = node })) same ∙ for_known s f t u b
