use Rattle.std.proofs.Common.{◌≡◌, ℕ, ◌+◌, List, [], ◌++◌, Option, sym, ap, ◌∙◌, subst, rules}
use Rattle.std.proofs.lemmas.List.{map-append}
use Rattle.njs_tree.specs.declared.tree.Expr.{Expr, the_lemmas}
use Rattle.njs_tree.specs.declared.tree.Stmt.{Stmt}
use Rattle.njs_scope.specs.Uses.{expression, statement, branch, first, head}
use Rattle.njs_scope.specs.Walked.{declared_names, declaring_all, optional, optional_first}
use Rattle.njs_scope.proofs.own.+own.Goals as goal

pub in_statement-returns-in_ok-in_vars-in-Var-clause-declared : goal.in_statement-returns-in_ok-in_vars-in-Var-clause-declared
unfolding expression statement branch first head
in_statement-returns-in_ok-in_vars-in-Var-clause-declared t c number =
    let shape : declared_names (statement c.args.s.now) number ≡ declared_names (declaring_all c.in-Var.list) number = search (rules, the_lemmas) in
    let none = subst (λ (list : List (List ℕ × Option Expr)). declared_names (declaring_all list) number ≡ []) c.as_slice-in-Var.ensures (c.in_vars.ensures.declared number) in
    sym (ap (λ names. names ++ c.args.declared.now) (shape ∙ none))

-- of four parts the last declares alone
last_alone : (a b c d : List (List ℕ)) → a ≡ [] → b ≡ [] → c ≡ [] → ((a ++ b) ++ c) ++ d ≡ d
last_alone a b c d ea eb ec = rw (ea, eb, ec)

pub in_statement-returns-in_ok-in_first-in-For-clause-declared : goal.in_statement-returns-in_ok-in_first-in-For-clause-declared
unfolding expression statement branch first head
in_statement-returns-in_ok-in_first-in-For-clause-declared t c number =
    let i = c.in-For in
    let part = (optional_first i.first).size in
    let test = (optional i.test).size in
    let update = (optional i.update).size in
    let at_test = number + part in
    let at_update = number + (part + test) in
    let at_body = number + (part + test + update) in
    let shape : declared_names (statement c.args.s.now) number
    ≡ ((declared_names (optional_first i.first) number ++ declared_names (optional i.test) at_test) ++ declared_names (optional i.update) at_update) ++ declared_names (statement i.body) at_body =
    search (rules, the_lemmas, map-append) in
    let body = subst (λ (s : Stmt). c.in_statement-in-For.new.declared ≡ declared_names (statement s) at_body ++ c.args.declared.now) c.get-in-For.ensures (c.in_ok-in_statement-in-For.ensures.declared at_body) in
    body ∙ sym (ap (λ names. names ++ c.args.declared.now) (shape
    ∙ last_alone _ _ _ _ (c.in_first.ensures.declared number) (c.mention_any-in-For.ensures.declared at_test) (c.mention_any.ensures.declared at_update)))
