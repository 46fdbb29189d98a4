use Rattle.std.proofs.lemmas.List.{append-nil}
use Rattle.njs_tree.specs.declared.tree.FunctionTree.{out-FunctionTree}
use Rattle.njs_scope.specs.Walked.{declared_names, statements}
use Rattle.njs_scope.proofs.Once.{or_none, scope_once}
use Rattle.njs_scope.proofs.scope.scope_names.Goals as goal

pub returns : goal.returns
returns c first =
    let tree = out-FunctionTree c.args.f.now in
    let part = statements tree.body in
    cc (
      scope_once tree.params (part.declared first) part.names_arguments part.vars,
      append-nil (declared_names part first),
      append-nil part.vars,
      or_none part.names_arguments,
      c.in_ok-in_statements.ensures.declared first,
      c.in_ok-in_statements.ensures.vars,
      c.in_ok-in_statements.ensures.names,
      c.in_ok-add_copies.ensures,
      c.in_ok-add_all.ensures,
      c.in_ok-add_arguments.ensures,
      c.in_ok-add_all-2.ensures,
    )
