use Rattle.std.proofs.Common.{◌≡◌, ℕ, ◌+◌, List, ◌∷◌, ◌++◌, Option, None, Some, refl, sym, ap, ◌∙◌, subst, arith, rules}
use Rattle.std.proofs.lemmas.Result.{on_ok_weaker}
use Rattle.njs_meaning.specs.declared.place.Place.{Place}
use Rattle.njs_tree.specs.declared.tree.Expr.{Expr, the_lemmas}
use Rattle.njs_tree.specs.declared.tree.Stmt.{Stmt}
use Rattle.njs_tree.specs.declared.tree.Case.{Case, out-Case}
use Rattle.njs_tree.specs.declared.tree.FunctionTree.{out-FunctionTree}
use Rattle.njs_meaning.specs.Parts.{two}
use Rattle.njs_meaning.specs.Places.{Bindings, assignable}
use Rattle.njs_meaning.specs.Functions.{scope_names}
use Rattle.njs_scope.specs.Uses.{Of_part, Of_function, Uses, both, function_of, expression, statement, branch, first, head, function}
use Rattle.njs_scope.specs.Walked.{around_of, places_of, scopes_of, expressions, elements, properties, variables, optional, optional_first, statements, branches, caught, caught_of, last_of}
use Rattle.njs_scope.proofs.Lists.{from_start}
use Rattle.njs_scope.proofs.Found.{joined}
use Rattle.njs_scope.specs.declared.around.Around.{the_lemmas as around_lemmas}
use Rattle.njs_scope.specs.declared.walk.Found.{Found}
use Rattle.njs_scope.proofs.walk.+walk.Goals as goal
use Rattle.njs_scope.proofs.walk.+walk.Goals.{in_statement-in-Some-finally+in_ok-in_statements-in-Try, in_statement-in_default-finally, in_statement-in-Some-caught+in_ok-in_caught-in-Try, in_statement-in_default-caught}

pub in_expressions-returns-clause-places : goal.in_expressions-returns-clause-places
in_expressions-returns-clause-places t c number =
    subst (λ (list : List (Expr)). c.loop-i.found.places ≡ places_of (expressions list) number c.args.around.now ++ c.args.found.now.places)
    (from_start c.loop-i.i c.args.list.now c.args.list.now (omega arith) refl) (c.loop-i.invariant.places number)

pub in_elements-returns-clause-places : goal.in_elements-returns-clause-places
in_elements-returns-clause-places t c number =
    subst (λ (list : List (Option Expr)). c.loop-i.found.places ≡ places_of (elements list) number c.args.around.now ++ c.args.found.now.places)
    (from_start c.loop-i.i c.args.list.now c.args.list.now (omega arith) refl) (c.loop-i.invariant.places number)

pub in_properties-returns-clause-places : goal.in_properties-returns-clause-places
in_properties-returns-clause-places t c number =
    subst (λ (list : List (List ℕ × Expr)). c.loop-i.found.places ≡ places_of (properties list) number c.args.around.now ++ c.args.found.now.places)
    (from_start c.loop-i.i c.args.list.now c.args.list.now (omega arith) refl) (c.loop-i.invariant.places number)

pub in_variables-returns-clause-places : goal.in_variables-returns-clause-places
in_variables-returns-clause-places t c number =
    subst (λ (list : List (List ℕ × Option Expr)). c.loop-i.found.places ≡ places_of (variables list) number c.args.around.now ++ c.args.found.now.places)
    (from_start c.loop-i.i c.args.list.now c.args.list.now (omega arith) refl) (c.loop-i.invariant.places number)

pub in_statements-returns-clause-places : goal.in_statements-returns-clause-places
in_statements-returns-clause-places t c number =
    subst (λ (list : List (Stmt)). c.loop-i.found.places ≡ places_of (statements list) number c.args.around.now ++ c.args.found.now.places)
    (from_start c.loop-i.i c.args.list.now c.args.list.now (omega arith) refl) (c.loop-i.invariant.places number)

pub in_branches-returns-clause-places : goal.in_branches-returns-clause-places
in_branches-returns-clause-places t c number =
    subst (λ (list : List (Case)). c.loop-i.found.places ≡ places_of (branches list) number c.args.around.now ++ c.args.found.now.places)
    (from_start c.loop-i.i c.args.list.now c.args.list.now (omega arith) refl) (c.loop-i.invariant.places number)

pub in_expression-returns-in_ok-in_elements-in-Array-clause-places : goal.in_expression-returns-in_ok-in_elements-in-Array-clause-places
unfolding expression statement branch first head function
in_expression-returns-in_ok-in_elements-in-Array-clause-places t c number =
    let shape : expression c.args.e.now ≡ elements c.in-Array.list = search (rules, the_lemmas) in
    let found = subst (λ (list : List (Option Expr)). c.in_elements.new.found.places ≡ places_of (elements list) number c.args.around.now ++ c.args.found.now.places) c.as_slice.ensures (c.in_ok-in_elements-in-Array.ensures.places number) in
    subst (λ (part : Of_part). c.in_elements.new.found.places ≡ places_of part number c.args.around.now ++ c.args.found.now.places) (sym shape) found

pub in_expression-returns-in_ok-in_properties-in-Object-clause-places : goal.in_expression-returns-in_ok-in_properties-in-Object-clause-places
unfolding expression statement branch first head function
in_expression-returns-in_ok-in_properties-in-Object-clause-places t c number =
    let shape : expression c.args.e.now ≡ properties c.in-Object.list = search (rules, the_lemmas) in
    let found = subst (λ (list : List (List ℕ × Expr)). c.in_properties.new.found.places ≡ places_of (properties list) number c.args.around.now ++ c.args.found.now.places) c.as_slice-in-Object.ensures (c.in_ok-in_properties-in-Object.ensures.places number) in
    subst (λ (part : Of_part). c.in_properties.new.found.places ≡ places_of part number c.args.around.now ++ c.args.found.now.places) (sym shape) found

pub in_statement-returns-in_ok-in_statements-in-Block-clause-places : goal.in_statement-returns-in_ok-in_statements-in-Block-clause-places
unfolding expression statement branch first head function
in_statement-returns-in_ok-in_statements-in-Block-clause-places t c number =
    let shape : statement c.args.s.now ≡ statements c.in-Block.body = search (rules, the_lemmas) in
    let found = subst (λ (list : List (Stmt)). c.in_statements.new.found.places ≡ places_of (statements list) number c.args.around.now ++ c.args.found.now.places) c.as_slice.ensures (c.in_ok-in_statements-in-Block.ensures.places number) in
    subst (λ (part : Of_part). c.in_statements.new.found.places ≡ places_of part number c.args.around.now ++ c.args.found.now.places) (sym shape) found

pub in_statement-returns-in_ok-in_variables-in-Var-clause-places : goal.in_statement-returns-in_ok-in_variables-in-Var-clause-places
unfolding expression statement branch first head function
in_statement-returns-in_ok-in_variables-in-Var-clause-places t c number =
    let shape : (statement c.args.s.now).means ≡ (variables c.in-Var.list).means = search (rules, the_lemmas) in
    let found = subst (λ (list : List (List ℕ × Option Expr)). c.in_variables.new.found.places ≡ places_of (variables list) number c.args.around.now ++ c.args.found.now.places) c.as_slice-in-Var.ensures (c.in_ok-in_variables-in-Var.ensures.places number) in
    subst (λ (means : ℕ → Uses). c.in_variables.new.found.places ≡ (means number).places (around_of c.args.around.now) ++ c.args.found.now.places) (sym shape) found

pub in_expression-returns-in_ok-in_expression-in-Call-clause-places : goal.in_expression-returns-in_ok-in_expression-in-Call-clause-places
unfolding expression statement branch first head function
in_expression-returns-in_ok-in_expression-in-Call-clause-places t c number =
    let i = c.in-Call in
    let behind = number + (expression i.callee).size in
    let shape : expression c.args.e.now ≡ two (expression i.callee) (expressions i.list) both = search (rules, the_lemmas) in
    let front = subst (λ (e : Expr). c.in_expression-in-Call.new.found.places ≡ places_of (expression e) number c.args.around.now ++ c.in_expressions.new.found.places) c.get-in-Call.ensures (c.in_ok-in_expression-in-Call.ensures.places number) in
    let later = subst (λ (list : List Expr). c.in_expressions.new.found.places ≡ places_of (expressions list) behind c.args.around.now ++ c.args.found.now.places) c.as_slice-in-Call.ensures (c.in_ok-in_expressions-in-Call.ensures.places behind) in
    subst (λ (part : Of_part). c.in_expression-in-Call.new.found.places ≡ places_of part number c.args.around.now ++ c.args.found.now.places) (sym shape)
    (joined (places_of (expression i.callee) number c.args.around.now) (places_of (expressions i.list) behind c.args.around.now) c.in_expression-in-Call.new.found.places c.in_expressions.new.found.places c.args.found.now.places front later)

pub in_branch-returns-clause-places : goal.in_branch-returns-clause-places
unfolding expression statement branch first head function
in_branch-returns-clause-places t c number =
    let part = out-Case c.args.part.now in
    let behind = number + (optional part.test).size in
    let shape : branch c.args.part.now ≡ two (optional part.test) (statements part.body) both = search (rules, the_lemmas) in
    let front : c.in_any.new.found.places ≡ places_of (optional part.test) number c.args.around.now ++ c.in_statements.new.found.places = c.in_ok-in_any.ensures.places number in
    let later = subst (λ (list : List Stmt). c.in_statements.new.found.places ≡ places_of (statements list) behind c.args.around.now ++ c.args.found.now.places) c.as_slice.ensures (c.in_ok-in_statements.ensures.places behind) in
    subst (λ (part : Of_part). c.in_any.new.found.places ≡ places_of part number c.args.around.now ++ c.args.found.now.places) (sym shape)
    (joined (places_of (optional part.test) number c.args.around.now) (places_of (statements part.body) behind c.args.around.now) c.in_any.new.found.places c.in_statements.new.found.places c.args.found.now.places front later)

pub in_first-returns-in-Some-Var-clause-places : goal.in_first-returns-in-Some-Var-clause-places
unfolding expression statement branch first head function
in_first-returns-in-Some-Var-clause-places t c number =
    let shape : (optional_first c.args.part.now).means ≡ (variables c.in-Some-Var.list).means = search (rules, the_lemmas) in
    on_ok_weaker c.in_variables.result (λ (found : c.in_variables.new.found.places ≡ places_of (variables c.as_slice.result.now) number c.args.around.now ++ c.args.found.now.places).
    subst (λ (means : ℕ → Uses). c.in_variables.new.found.places ≡ (means number).places (around_of c.args.around.now) ++ c.args.found.now.places) (sym shape)
    (subst (λ (list : List (List ℕ × Option Expr)). c.in_variables.new.found.places ≡ places_of (variables list) number c.args.around.now ++ c.args.found.now.places) c.as_slice.ensures found)) (c.in_variables.ensures.places number)

pub in_statement-returns-in_ok-in_any-in-Return-clause-places : goal.in_statement-returns-in_ok-in_any-in-Return-clause-places
unfolding expression statement branch first head function
in_statement-returns-in_ok-in_any-in-Return-clause-places t c number =
    let shape : statement c.args.s.now ≡ optional c.in-Return.value = search (rules, the_lemmas) in
    let found : c.in_any-in-Return.new.found.places ≡ places_of (optional c.in-Return.value) number c.args.around.now ++ c.args.found.now.places = c.in_ok-in_any-in-Return.ensures.places number in
    subst (λ (part : Of_part). c.in_any-in-Return.new.found.places ≡ places_of part number c.args.around.now ++ c.args.found.now.places) (sym shape) found

pub in_statement-returns-in_ok-in_expression-in-Switch-clause-places : goal.in_statement-returns-in_ok-in_expression-in-Switch-clause-places
unfolding expression statement branch first head function
in_statement-returns-in_ok-in_expression-in-Switch-clause-places t c number =
    let i = c.in-Switch in
    let behind = number + (expression i.value).size in
    let shape : statement c.args.s.now ≡ two (expression i.value) (branches i.cases) both = search (rules, the_lemmas) in
    let front : c.in_expression-in-Switch.new.found.places ≡ places_of (expression i.value) number c.args.around.now ++ c.in_branches.new.found.places = c.in_ok-in_expression-in-Switch.ensures.places number in
    let later = subst (λ (list : List Case). c.in_branches.new.found.places ≡ places_of (branches list) behind c.args.around.now ++ c.args.found.now.places) c.as_slice-in-Switch.ensures (c.in_ok-in_branches-in-Switch.ensures.places behind) in
    subst (λ (part : Of_part). c.in_expression-in-Switch.new.found.places ≡ places_of part number c.args.around.now ++ c.args.found.now.places) (sym shape)
    (joined (places_of (expression i.value) number c.args.around.now) (places_of (branches i.cases) behind c.args.around.now) c.in_expression-in-Switch.new.found.places c.in_branches.new.found.places c.args.found.now.places front later)

pub in_statement-returns-in_ok-in_first-in-For-clause-places : goal.in_statement-returns-in_ok-in_first-in-For-clause-places
unfolding expression statement branch first head function
in_statement-returns-in_ok-in_first-in-For-clause-places t c number =
    let i = c.in-For in
    let head = (optional_first i.first).size in
    let test = (optional i.test).size in
    let update = (optional i.update).size in
    let at_test = number + head in
    let at_update = number + (head + test) in
    let at_body = number + (head + test + update) in
    let a = places_of (optional_first i.first) number c.args.around.now in
    let b = places_of (optional i.test) at_test c.args.around.now in
    let d = places_of (optional i.update) at_update c.args.around.now in
    let e = places_of (statement i.body) at_body c.args.around.now in
    let shape : places_of (statement c.args.s.now) number c.args.around.now
    ≡ places_of (optional_first i.first) number c.args.around.now ++ (places_of (optional i.test) at_test c.args.around.now ++ (places_of (optional i.update) at_update c.args.around.now ++ places_of (statement i.body) at_body c.args.around.now)) =
    search (rules, the_lemmas) in
    let body = subst (λ (s : Stmt). c.in_statement-in-For.new.found.places ≡ places_of (statement s) at_body c.args.around.now ++ c.args.found.now.places) c.get-in-For.ensures (c.in_ok-in_statement-in-For.ensures.places at_body) in
    subst (λ (all : List Place). c.in_first.new.found.places ≡ all ++ c.args.found.now.places) (sym shape)
    (joined a (b ++ (d ++ e)) c.in_first.new.found.places c.in_any-in-For.new.found.places c.args.found.now.places (c.in_ok-in_first-in-For.ensures.places number)
    (joined b (d ++ e) c.in_any-in-For.new.found.places c.in_any.new.found.places c.args.found.now.places (c.in_ok-in_any-in-For-2.ensures.places at_test)
    (joined d e c.in_any.new.found.places c.in_statement-in-For.new.found.places c.args.found.now.places (c.in_ok-in_any-in-For.ensures.places at_update) body)))

pub in_statement-returns-in_ok-in_statements-in-Try-2-clause-places : goal.in_statement-returns-in_ok-in_statements-in-Try-2-clause-places
unfolding expression statement branch first head function
in_statement-returns-in_ok-in_statements-in-Try-2-clause-places t c number =
    let i = c.in-Try in
    let behind = number + (statements i.body).size in
    let at_last = number + ((statements i.body).size + (caught_of i.caught).size) in
    let a = places_of (statements i.body) number c.args.around.now in
    let b = places_of (caught_of i.caught) behind c.args.around.now in
    let d = places_of (last_of i.finally) at_last c.args.around.now in
    let shape : places_of (statement c.args.s.now) number c.args.around.now
    ≡ places_of (statements i.body) number c.args.around.now ++ (places_of (caught_of i.caught) behind c.args.around.now ++ places_of (last_of i.finally) at_last c.args.around.now) = search (rules, the_lemmas) in
    let front = subst (λ (list : List Stmt). c.in_statements-in-Try.new.found.places ≡ places_of (statements list) number c.args.around.now ++ c.match-caught.found.places) c.as_slice-in-Try.ensures (c.in_ok-in_statements-in-Try-2.ensures.places number) in
    let handled : c.match-caught.found.places ≡ places_of (caught_of i.caught) behind c.args.around.now ++ c.match-finally.found.places = elim c.match-caught.branch [
      | in_statement-in-Some-caught+in_ok-in_caught-in-Try w ↦
          (let found = subst (λ (list : List Stmt). w.in_caught.new.found.places ≡ places_of (caught w.in-Some-caught.name list) behind c.args.around.now ++ c.match-finally.found.places) w.as_slice-in-Some-caught.ensures (w.in_ok-in_caught-in-Try.ensures.places behind) in
          let is : i.caught ≡ Some (w.in-Some-caught.name, w.in-Some-caught.handler) = search rules in
          subst (λ (o : Option (List ℕ × List Stmt)). c.match-caught.found.places ≡ places_of (caught_of o) behind c.args.around.now ++ c.match-finally.found.places) (sym is) (ap (λ (f : Found). f.places) w.found-is ∙ found))
      | in_statement-in_default-caught w ↦
          (let is : i.caught ≡ None = search rules in
          subst (λ (o : Option (List ℕ × List Stmt)). c.match-caught.found.places ≡ places_of (caught_of o) behind c.args.around.now ++ c.match-finally.found.places) (sym is) (ap (λ (f : Found). f.places) w.found-is))
    ] in
    let last : c.match-finally.found.places ≡ places_of (last_of i.finally) at_last c.args.around.now ++ c.args.found.now.places = elim c.match-finally.branch [
      | in_statement-in-Some-finally+in_ok-in_statements-in-Try w ↦
          (let found = subst (λ (list : List Stmt). w.in_statements-in-Some-finally.new.found.places ≡ places_of (statements list) at_last c.args.around.now ++ c.args.found.now.places) w.as_slice-in-Some-finally.ensures (w.in_ok-in_statements-in-Try.ensures.places at_last) in
          let is : i.finally ≡ Some w.in-Some-finally.last = search rules in
          subst (λ (o : Option (List Stmt)). c.match-finally.found.places ≡ places_of (last_of o) at_last c.args.around.now ++ c.args.found.now.places) (sym is) (ap (λ (f : Found). f.places) w.found-is ∙ found))
      | in_statement-in_default-finally w ↦
          (let is : i.finally ≡ None = search rules in
          subst (λ (o : Option (List Stmt)). c.match-finally.found.places ≡ places_of (last_of o) at_last c.args.around.now ++ c.args.found.now.places) (sym is) (ap (λ (f : Found). f.places) w.found-is))
    ] in
    subst (λ (all : List Place). c.in_statements-in-Try.new.found.places ≡ all ++ c.args.found.now.places) (sym shape)
    (joined a (b ++ d) c.in_statements-in-Try.new.found.places c.match-caught.found.places c.args.found.now.places front (joined b d c.match-caught.found.places c.match-finally.found.places c.args.found.now.places handled last))

pub in_expressions-returns-clause-scopes : goal.in_expressions-returns-clause-scopes
in_expressions-returns-clause-scopes t c number =
    subst (λ (list : List (Expr)). c.loop-i.found.scopes ≡ scopes_of (expressions list) number c.args.around.now ++ c.args.found.now.scopes)
    (from_start c.loop-i.i c.args.list.now c.args.list.now (omega arith) refl) (c.loop-i.invariant.scopes number)

pub in_elements-returns-clause-scopes : goal.in_elements-returns-clause-scopes
in_elements-returns-clause-scopes t c number =
    subst (λ (list : List (Option Expr)). c.loop-i.found.scopes ≡ scopes_of (elements list) number c.args.around.now ++ c.args.found.now.scopes)
    (from_start c.loop-i.i c.args.list.now c.args.list.now (omega arith) refl) (c.loop-i.invariant.scopes number)

pub in_properties-returns-clause-scopes : goal.in_properties-returns-clause-scopes
in_properties-returns-clause-scopes t c number =
    subst (λ (list : List (List ℕ × Expr)). c.loop-i.found.scopes ≡ scopes_of (properties list) number c.args.around.now ++ c.args.found.now.scopes)
    (from_start c.loop-i.i c.args.list.now c.args.list.now (omega arith) refl) (c.loop-i.invariant.scopes number)

pub in_variables-returns-clause-scopes : goal.in_variables-returns-clause-scopes
in_variables-returns-clause-scopes t c number =
    subst (λ (list : List (List ℕ × Option Expr)). c.loop-i.found.scopes ≡ scopes_of (variables list) number c.args.around.now ++ c.args.found.now.scopes)
    (from_start c.loop-i.i c.args.list.now c.args.list.now (omega arith) refl) (c.loop-i.invariant.scopes number)

pub in_statements-returns-clause-scopes : goal.in_statements-returns-clause-scopes
in_statements-returns-clause-scopes t c number =
    subst (λ (list : List (Stmt)). c.loop-i.found.scopes ≡ scopes_of (statements list) number c.args.around.now ++ c.args.found.now.scopes)
    (from_start c.loop-i.i c.args.list.now c.args.list.now (omega arith) refl) (c.loop-i.invariant.scopes number)

pub in_branches-returns-clause-scopes : goal.in_branches-returns-clause-scopes
in_branches-returns-clause-scopes t c number =
    subst (λ (list : List (Case)). c.loop-i.found.scopes ≡ scopes_of (branches list) number c.args.around.now ++ c.args.found.now.scopes)
    (from_start c.loop-i.i c.args.list.now c.args.list.now (omega arith) refl) (c.loop-i.invariant.scopes number)

pub in_expression-returns-in_ok-in_elements-in-Array-clause-scopes : goal.in_expression-returns-in_ok-in_elements-in-Array-clause-scopes
unfolding expression statement branch first head function
in_expression-returns-in_ok-in_elements-in-Array-clause-scopes t c number =
    let shape : expression c.args.e.now ≡ elements c.in-Array.list = search (rules, the_lemmas) in
    let found = subst (λ (list : List (Option Expr)). c.in_elements.new.found.scopes ≡ scopes_of (elements list) number c.args.around.now ++ c.args.found.now.scopes) c.as_slice.ensures (c.in_ok-in_elements-in-Array.ensures.scopes number) in
    subst (λ (part : Of_part). c.in_elements.new.found.scopes ≡ scopes_of part number c.args.around.now ++ c.args.found.now.scopes) (sym shape) found

pub in_expression-returns-in_ok-in_properties-in-Object-clause-scopes : goal.in_expression-returns-in_ok-in_properties-in-Object-clause-scopes
unfolding expression statement branch first head function
in_expression-returns-in_ok-in_properties-in-Object-clause-scopes t c number =
    let shape : expression c.args.e.now ≡ properties c.in-Object.list = search (rules, the_lemmas) in
    let found = subst (λ (list : List (List ℕ × Expr)). c.in_properties.new.found.scopes ≡ scopes_of (properties list) number c.args.around.now ++ c.args.found.now.scopes) c.as_slice-in-Object.ensures (c.in_ok-in_properties-in-Object.ensures.scopes number) in
    subst (λ (part : Of_part). c.in_properties.new.found.scopes ≡ scopes_of part number c.args.around.now ++ c.args.found.now.scopes) (sym shape) found

pub in_statement-returns-in_ok-in_statements-in-Block-clause-scopes : goal.in_statement-returns-in_ok-in_statements-in-Block-clause-scopes
unfolding expression statement branch first head function
in_statement-returns-in_ok-in_statements-in-Block-clause-scopes t c number =
    let shape : statement c.args.s.now ≡ statements c.in-Block.body = search (rules, the_lemmas) in
    let found = subst (λ (list : List (Stmt)). c.in_statements.new.found.scopes ≡ scopes_of (statements list) number c.args.around.now ++ c.args.found.now.scopes) c.as_slice.ensures (c.in_ok-in_statements-in-Block.ensures.scopes number) in
    subst (λ (part : Of_part). c.in_statements.new.found.scopes ≡ scopes_of part number c.args.around.now ++ c.args.found.now.scopes) (sym shape) found

pub in_statement-returns-in_ok-in_variables-in-Var-clause-scopes : goal.in_statement-returns-in_ok-in_variables-in-Var-clause-scopes
unfolding expression statement branch first head function
in_statement-returns-in_ok-in_variables-in-Var-clause-scopes t c number =
    let shape : (statement c.args.s.now).means ≡ (variables c.in-Var.list).means = search (rules, the_lemmas) in
    let found = subst (λ (list : List (List ℕ × Option Expr)). c.in_variables.new.found.scopes ≡ scopes_of (variables list) number c.args.around.now ++ c.args.found.now.scopes) c.as_slice-in-Var.ensures (c.in_ok-in_variables-in-Var.ensures.scopes number) in
    subst (λ (means : ℕ → Uses). c.in_variables.new.found.scopes ≡ (means number).scopes (around_of c.args.around.now) ++ c.args.found.now.scopes) (sym shape) found

pub in_expression-returns-in_ok-in_expression-in-Call-clause-scopes : goal.in_expression-returns-in_ok-in_expression-in-Call-clause-scopes
unfolding expression statement branch first head function
in_expression-returns-in_ok-in_expression-in-Call-clause-scopes t c number =
    let i = c.in-Call in
    let behind = number + (expression i.callee).size in
    let shape : expression c.args.e.now ≡ two (expression i.callee) (expressions i.list) both = search (rules, the_lemmas) in
    let front = subst (λ (e : Expr). c.in_expression-in-Call.new.found.scopes ≡ scopes_of (expression e) number c.args.around.now ++ c.in_expressions.new.found.scopes) c.get-in-Call.ensures (c.in_ok-in_expression-in-Call.ensures.scopes number) in
    let later = subst (λ (list : List Expr). c.in_expressions.new.found.scopes ≡ scopes_of (expressions list) behind c.args.around.now ++ c.args.found.now.scopes) c.as_slice-in-Call.ensures (c.in_ok-in_expressions-in-Call.ensures.scopes behind) in
    subst (λ (part : Of_part). c.in_expression-in-Call.new.found.scopes ≡ scopes_of part number c.args.around.now ++ c.args.found.now.scopes) (sym shape)
    (joined (scopes_of (expression i.callee) number c.args.around.now) (scopes_of (expressions i.list) behind c.args.around.now) c.in_expression-in-Call.new.found.scopes c.in_expressions.new.found.scopes c.args.found.now.scopes front later)

pub in_branch-returns-clause-scopes : goal.in_branch-returns-clause-scopes
unfolding expression statement branch first head function
in_branch-returns-clause-scopes t c number =
    let part = out-Case c.args.part.now in
    let behind = number + (optional part.test).size in
    let shape : branch c.args.part.now ≡ two (optional part.test) (statements part.body) both = search (rules, the_lemmas) in
    let front : c.in_any.new.found.scopes ≡ scopes_of (optional part.test) number c.args.around.now ++ c.in_statements.new.found.scopes = c.in_ok-in_any.ensures.scopes number in
    let later = subst (λ (list : List Stmt). c.in_statements.new.found.scopes ≡ scopes_of (statements list) behind c.args.around.now ++ c.args.found.now.scopes) c.as_slice.ensures (c.in_ok-in_statements.ensures.scopes behind) in
    subst (λ (part : Of_part). c.in_any.new.found.scopes ≡ scopes_of part number c.args.around.now ++ c.args.found.now.scopes) (sym shape)
    (joined (scopes_of (optional part.test) number c.args.around.now) (scopes_of (statements part.body) behind c.args.around.now) c.in_any.new.found.scopes c.in_statements.new.found.scopes c.args.found.now.scopes front later)

pub in_first-returns-in-Some-Var-clause-scopes : goal.in_first-returns-in-Some-Var-clause-scopes
unfolding expression statement branch first head function
in_first-returns-in-Some-Var-clause-scopes t c number =
    let shape : (optional_first c.args.part.now).means ≡ (variables c.in-Some-Var.list).means = search (rules, the_lemmas) in
    on_ok_weaker c.in_variables.result (λ (found : c.in_variables.new.found.scopes ≡ scopes_of (variables c.as_slice.result.now) number c.args.around.now ++ c.args.found.now.scopes).
    subst (λ (means : ℕ → Uses). c.in_variables.new.found.scopes ≡ (means number).scopes (around_of c.args.around.now) ++ c.args.found.now.scopes) (sym shape)
    (subst (λ (list : List (List ℕ × Option Expr)). c.in_variables.new.found.scopes ≡ scopes_of (variables list) number c.args.around.now ++ c.args.found.now.scopes) c.as_slice.ensures found)) (c.in_variables.ensures.scopes number)

pub in_statement-returns-in_ok-in_any-in-Return-clause-scopes : goal.in_statement-returns-in_ok-in_any-in-Return-clause-scopes
unfolding expression statement branch first head function
in_statement-returns-in_ok-in_any-in-Return-clause-scopes t c number =
    let shape : statement c.args.s.now ≡ optional c.in-Return.value = search (rules, the_lemmas) in
    let found : c.in_any-in-Return.new.found.scopes ≡ scopes_of (optional c.in-Return.value) number c.args.around.now ++ c.args.found.now.scopes = c.in_ok-in_any-in-Return.ensures.scopes number in
    subst (λ (part : Of_part). c.in_any-in-Return.new.found.scopes ≡ scopes_of part number c.args.around.now ++ c.args.found.now.scopes) (sym shape) found

pub in_statement-returns-in_ok-in_expression-in-Switch-clause-scopes : goal.in_statement-returns-in_ok-in_expression-in-Switch-clause-scopes
unfolding expression statement branch first head function
in_statement-returns-in_ok-in_expression-in-Switch-clause-scopes t c number =
    let i = c.in-Switch in
    let behind = number + (expression i.value).size in
    let shape : statement c.args.s.now ≡ two (expression i.value) (branches i.cases) both = search (rules, the_lemmas) in
    let front : c.in_expression-in-Switch.new.found.scopes ≡ scopes_of (expression i.value) number c.args.around.now ++ c.in_branches.new.found.scopes = c.in_ok-in_expression-in-Switch.ensures.scopes number in
    let later = subst (λ (list : List Case). c.in_branches.new.found.scopes ≡ scopes_of (branches list) behind c.args.around.now ++ c.args.found.now.scopes) c.as_slice-in-Switch.ensures (c.in_ok-in_branches-in-Switch.ensures.scopes behind) in
    subst (λ (part : Of_part). c.in_expression-in-Switch.new.found.scopes ≡ scopes_of part number c.args.around.now ++ c.args.found.now.scopes) (sym shape)
    (joined (scopes_of (expression i.value) number c.args.around.now) (scopes_of (branches i.cases) behind c.args.around.now) c.in_expression-in-Switch.new.found.scopes c.in_branches.new.found.scopes c.args.found.now.scopes front later)

pub in_statement-returns-in_ok-in_first-in-For-clause-scopes : goal.in_statement-returns-in_ok-in_first-in-For-clause-scopes
unfolding expression statement branch first head function
in_statement-returns-in_ok-in_first-in-For-clause-scopes t c number =
    let i = c.in-For in
    let head = (optional_first i.first).size in
    let test = (optional i.test).size in
    let update = (optional i.update).size in
    let at_test = number + head in
    let at_update = number + (head + test) in
    let at_body = number + (head + test + update) in
    let a = scopes_of (optional_first i.first) number c.args.around.now in
    let b = scopes_of (optional i.test) at_test c.args.around.now in
    let d = scopes_of (optional i.update) at_update c.args.around.now in
    let e = scopes_of (statement i.body) at_body c.args.around.now in
    let shape : scopes_of (statement c.args.s.now) number c.args.around.now
    ≡ scopes_of (optional_first i.first) number c.args.around.now ++ (scopes_of (optional i.test) at_test c.args.around.now ++ (scopes_of (optional i.update) at_update c.args.around.now ++ scopes_of (statement i.body) at_body c.args.around.now)) =
    search (rules, the_lemmas) in
    let body = subst (λ (s : Stmt). c.in_statement-in-For.new.found.scopes ≡ scopes_of (statement s) at_body c.args.around.now ++ c.args.found.now.scopes) c.get-in-For.ensures (c.in_ok-in_statement-in-For.ensures.scopes at_body) in
    subst (λ (all : List Bindings). c.in_first.new.found.scopes ≡ all ++ c.args.found.now.scopes) (sym shape)
    (joined a (b ++ (d ++ e)) c.in_first.new.found.scopes c.in_any-in-For.new.found.scopes c.args.found.now.scopes (c.in_ok-in_first-in-For.ensures.scopes number)
    (joined b (d ++ e) c.in_any-in-For.new.found.scopes c.in_any.new.found.scopes c.args.found.now.scopes (c.in_ok-in_any-in-For-2.ensures.scopes at_test)
    (joined d e c.in_any.new.found.scopes c.in_statement-in-For.new.found.scopes c.args.found.now.scopes (c.in_ok-in_any-in-For.ensures.scopes at_update) body)))

pub in_statement-returns-in_ok-in_statements-in-Try-2-clause-scopes : goal.in_statement-returns-in_ok-in_statements-in-Try-2-clause-scopes
unfolding expression statement branch first head function
in_statement-returns-in_ok-in_statements-in-Try-2-clause-scopes t c number =
    let i = c.in-Try in
    let behind = number + (statements i.body).size in
    let at_last = number + ((statements i.body).size + (caught_of i.caught).size) in
    let a = scopes_of (statements i.body) number c.args.around.now in
    let b = scopes_of (caught_of i.caught) behind c.args.around.now in
    let d = scopes_of (last_of i.finally) at_last c.args.around.now in
    let shape : scopes_of (statement c.args.s.now) number c.args.around.now
    ≡ scopes_of (statements i.body) number c.args.around.now ++ (scopes_of (caught_of i.caught) behind c.args.around.now ++ scopes_of (last_of i.finally) at_last c.args.around.now) = search (rules, the_lemmas) in
    let front = subst (λ (list : List Stmt). c.in_statements-in-Try.new.found.scopes ≡ scopes_of (statements list) number c.args.around.now ++ c.match-caught.found.scopes) c.as_slice-in-Try.ensures (c.in_ok-in_statements-in-Try-2.ensures.scopes number) in
    let handled : c.match-caught.found.scopes ≡ scopes_of (caught_of i.caught) behind c.args.around.now ++ c.match-finally.found.scopes = elim c.match-caught.branch [
      | in_statement-in-Some-caught+in_ok-in_caught-in-Try w ↦
          (let found = subst (λ (list : List Stmt). w.in_caught.new.found.scopes ≡ scopes_of (caught w.in-Some-caught.name list) behind c.args.around.now ++ c.match-finally.found.scopes) w.as_slice-in-Some-caught.ensures (w.in_ok-in_caught-in-Try.ensures.scopes behind) in
          let is : i.caught ≡ Some (w.in-Some-caught.name, w.in-Some-caught.handler) = search rules in
          subst (λ (o : Option (List ℕ × List Stmt)). c.match-caught.found.scopes ≡ scopes_of (caught_of o) behind c.args.around.now ++ c.match-finally.found.scopes) (sym is) (ap (λ (f : Found). f.scopes) w.found-is ∙ found))
      | in_statement-in_default-caught w ↦
          (let is : i.caught ≡ None = search rules in
          subst (λ (o : Option (List ℕ × List Stmt)). c.match-caught.found.scopes ≡ scopes_of (caught_of o) behind c.args.around.now ++ c.match-finally.found.scopes) (sym is) (ap (λ (f : Found). f.scopes) w.found-is))
    ] in
    let last : c.match-finally.found.scopes ≡ scopes_of (last_of i.finally) at_last c.args.around.now ++ c.args.found.now.scopes = elim c.match-finally.branch [
      | in_statement-in-Some-finally+in_ok-in_statements-in-Try w ↦
          (let found = subst (λ (list : List Stmt). w.in_statements-in-Some-finally.new.found.scopes ≡ scopes_of (statements list) at_last c.args.around.now ++ c.args.found.now.scopes) w.as_slice-in-Some-finally.ensures (w.in_ok-in_statements-in-Try.ensures.scopes at_last) in
          let is : i.finally ≡ Some w.in-Some-finally.last = search rules in
          subst (λ (o : Option (List Stmt)). c.match-finally.found.scopes ≡ scopes_of (last_of o) at_last c.args.around.now ++ c.args.found.now.scopes) (sym is) (ap (λ (f : Found). f.scopes) w.found-is ∙ found))
      | in_statement-in_default-finally w ↦
          (let is : i.finally ≡ None = search rules in
          subst (λ (o : Option (List Stmt)). c.match-finally.found.scopes ≡ scopes_of (last_of o) at_last c.args.around.now ++ c.args.found.now.scopes) (sym is) (ap (λ (f : Found). f.scopes) w.found-is))
    ] in
    subst (λ (all : List Bindings). c.in_statements-in-Try.new.found.scopes ≡ all ++ c.args.found.now.scopes) (sym shape)
    (joined a (b ++ d) c.in_statements-in-Try.new.found.scopes c.match-caught.found.scopes c.args.found.now.scopes front (joined b d c.match-caught.found.scopes c.match-finally.found.scopes c.args.found.now.scopes handled last))

pub in_function-returns-clause-places : goal.in_function-returns-clause-places
unfolding expression statement branch first head function around_of
in_function-returns-clause-places t c number =
    let tree = out-FunctionTree c.args.f.now in
    let body = statements tree.body in
    let names = assignable (scope_names tree.params (body.declared (number + 1)) body.names_arguments body.vars) in
    let shape : function c.args.f.now ≡ function_of tree.name tree.params body = search (rules, the_lemmas) in
    let found : c.in_statements.new.found.places ≡ ((statements c.as_slice.result.now).means (number + 1)).places (c.in_ok-names.names ∷ around_of c.args.around.now) ++ c.args.found.now.places =
    search (rules, around_lemmas, c.in_ok-in_statements.ensures.places (number + 1)) in
    let listed = subst (λ (list : List Stmt). c.in_statements.new.found.places ≡ ((statements list).means (number + 1)).places (c.in_ok-names.names ∷ around_of c.args.around.now) ++ c.args.found.now.places) c.as_slice.ensures found in
    let named = subst (λ (bs : Bindings). c.in_statements.new.found.places ≡ (body.means (number + 1)).places (bs ∷ around_of c.args.around.now) ++ c.args.found.now.places) (c.in_ok-names.ensures (number + 1)) listed in
    subst (λ (f : Of_function). c.in_statements.new.found.places ≡ (f.means number).uses.places (around_of c.args.around.now) ++ c.args.found.now.places) (sym shape) named

pub in_function-returns-clause-scopes : goal.in_function-returns-clause-scopes
unfolding expression statement branch first head function around_of
in_function-returns-clause-scopes t c number =
    let tree = out-FunctionTree c.args.f.now in
    let body = statements tree.body in
    let shape : function c.args.f.now ≡ function_of tree.name tree.params body = search (rules, the_lemmas) in
    let found : c.in_statements.new.found.scopes ≡ ((statements c.as_slice.result.now).means (number + 1)).scopes (c.in_ok-names.names ∷ around_of c.args.around.now) ++ c.args.found.now.scopes =
    search (rules, around_lemmas, c.in_ok-in_statements.ensures.scopes (number + 1)) in
    let pushed : c.push.new.self ≡ c.in_ok-names.names ∷ (((statements c.as_slice.result.now).means (number + 1)).scopes (c.in_ok-names.names ∷ around_of c.args.around.now) ++ c.args.found.now.scopes) =
    cc (c.in_ok-push.ensures.ok, found) in
    let listed = subst (λ (list : List Stmt). c.push.new.self ≡ c.in_ok-names.names ∷ (((statements list).means (number + 1)).scopes (c.in_ok-names.names ∷ around_of c.args.around.now) ++ c.args.found.now.scopes)) c.as_slice.ensures pushed in
    let named = subst (λ (bs : Bindings). c.push.new.self ≡ bs ∷ ((body.means (number + 1)).scopes (bs ∷ around_of c.args.around.now) ++ c.args.found.now.scopes)) (c.in_ok-names.ensures (number + 1)) listed in
    subst (λ (f : Of_function). c.push.new.self ≡ (f.means number).uses.scopes (around_of c.args.around.now) ++ c.args.found.now.scopes) (sym shape) named
