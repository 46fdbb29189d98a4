use Rattle.std.proofs.Common.{◌≡◌, ℕ, suc, ◌+◌, ◌-◌, ◌≤◌, drop, List, length, map, Option, Some, None, true, false, refl, sym, ap, ◌∙◌, subst, arith, rules}
use Rattle.std.specs.Option.{option_map}
use Rattle.njs_tree.specs.declared.tree.Expr.{Expr, the_lemmas}
use Rattle.njs_code.specs.declared.op.Kind.TheVariants as kind
use Rattle.njs_meaning.specs.Parts.{leaf, one, two, three, each, each_held, each_named}
use Rattle.njs_simul.specs.Emission as emit
use Rattle.njs_simul.specs.Compiled as code
use Rattle.njs_simul.specs.Compiled.{expression}
use Rattle.njs_scope.specs.Uses as uses
use Rattle.njs_scope.specs.Uses.{expression as used}
use Rattle.njs_gen_expr.specs.declared.here.Here.{Here}
use Rattle.njs_gen_expr.specs.declared.reference.Reference.{Reference}
use Rattle.njs_gen_expr.specs.Written.{Progress, IsGoing, Holds, Stands}
use Rattle.njs_gen_expr.specs.References.{form_of, operator_count, operator_emits}
use Rattle.njs_gen_expr.specs.Parts.{WroteValue, begun_count, begun_value}
use Rattle.njs_tree.specs.declared.tree.ExprNode.TheVariants.{Update as UpdateNode}
use Rattle.std.proofs.lemmas.List.{drop_all}
use Rattle.njs_gen_expr.specs.Trees.{function}
use Rattle.njs_gen_expr.proofs.Lists.{from_start}
use Rattle.njs_gen_expr.proofs.ListShapes.{WroteValues, WroteElements, WroteFields, no_values, no_elements, no_fields, values_more, hole_more, element_more, fields_more, with_arguments, array_written, object_written}
use Rattle.njs_gen_expr.proofs.Nodes.{member_is, update_is}
use Rattle.njs_gen_expr.proofs.Shapes.{First, FirstTarget, Refers, Assigned, as_part, comma_written, both_written, logical_written, conditional_written, target_written, value_written, first_written, first_target_written, operator_written, member_written, assign_written, assign_by_written, kept_behind, steps_before, steps_behind}
use Rattle.njs_gen_expr.proofs.expression.+expression.Goals as goal

-- what is told of a part that stands in a box
is_value : (a b : Expr) (here : Here) (w0 w1 : Progress) → a ≡ b → WroteValue (expression a) (used a) here w0 w1 → WroteValue (expression b) (used b) here w0 w1
is_value a b here w0 w1 same f = subst (λ x. WroteValue (expression x) (used x) here w0 w1) same f

is_first : (a b : Expr) (here : Here) (w0 w1 : Progress) → a ≡ b → First (expression a) (used a) here w0 w1 → First (expression b) (used b) here w0 w1
is_first a b here w0 w1 same f = subst (λ x. First (expression x) (used x) here w0 w1) same f

is_first_target : (a b : Expr) (here : Here) (w0 w1 : Progress) → a ≡ b → FirstTarget (expression a) (used a) here w0 w1 → FirstTarget (expression b) (used b) here w0 w1
is_first_target a b here w0 w1 same f = subst (λ x. FirstTarget (expression x) (used x) here w0 w1) same f

has_form : (a b : Expr) (r : Reference) → a ≡ b → ((first : ℕ) → form_of r ≡ ((expression a).means first).form) → (first : ℕ) → form_of r ≡ ((expression b).means first).form
has_form a b r same f = subst (λ x. (first : ℕ) → form_of r ≡ ((expression x).means first).form) same f

refers : (a b : Expr) (r : Reference) (w : Progress) → a ≡ b → Refers r w (used a) → Refers r w (used b)
refers a b r w same f = subst (λ x. Refers r w (used x)) same f

pub value-returns-clause-written : goal.value-returns-clause-written
value-returns-clause-written t c =
    value_written (expression c.args.e.now) (used c.args.e.now) c.args.here c.reference_of-r.result c.args.w.now c.fetch.new.w c.target.new.w
    c.reference_of-r.ensures.form c.reference_of-r.ensures.placed c.fetch.ensures.written c.target.ensures.written

pub first-returns-clause-written : goal.first-returns-clause-written
first-returns-clause-written t c =
    first_written (expression c.args.e.now) (used c.args.e.now) c.args.here c.args.w.now c.value.new.w c.write.new.self c.value.ensures.written c.write.ensures.written

pub first_target-returns-clause-written : goal.first_target-returns-clause-written
first_target-returns-clause-written t c =
    first_target_written (expression c.args.e.now) (used c.args.e.now) c.args.here c.args.w.now c.target.new.w c.write.new.self c.target.ensures.written c.write.ensures.written

pub target-returns-in-Comma-clause-written : goal.target-returns-in-Comma-clause-written
unfolding expression used
target-returns-in-Comma-clause-written t c =
    let coded : expression c.args.e.now ≡ (two (expression c.in-Comma.a) (expression c.in-Comma.b) emit.comma) = search (rules, the_lemmas) in
    let named : used c.args.e.now ≡ (two (used c.in-Comma.a) (used c.in-Comma.b) uses.both) = search (rules, the_lemmas) in
    as_part (expression c.args.e.now) (two (expression c.in-Comma.a) (expression c.in-Comma.b) emit.comma) (used c.args.e.now) (two (used c.in-Comma.a) (used c.in-Comma.b) uses.both) c.args.here _ _ coded named
    (comma_written (expression c.in-Comma.a) (expression c.in-Comma.b) (used c.in-Comma.a) (used c.in-Comma.b) c.args.here c.args.w.now c.value.new.w c.write.new.self c.first.new.w c.deeper.result (is_value c.get.result.now c.in-Comma.b c.args.here c.args.w.now c.value.new.w c.get.ensures c.value.ensures.written) c.write.ensures.written c.deeper.ensures (is_first c.get-in-Comma.result.now c.in-Comma.a c.args.here c.write.new.self c.first.new.w c.get-in-Comma.ensures c.first.ensures.written))

pub target-returns-in-Binary-clause-written : goal.target-returns-in-Binary-clause-written
unfolding expression used
target-returns-in-Binary-clause-written t c =
    let coded : expression c.args.e.now ≡ (two (expression c.in-Binary.a) (expression c.in-Binary.b) (emit.both c.in-Binary.op)) = search (rules, the_lemmas) in
    let named : used c.args.e.now ≡ (two (used c.in-Binary.a) (used c.in-Binary.b) uses.both) = search (rules, the_lemmas) in
    as_part (expression c.args.e.now) (two (expression c.in-Binary.a) (expression c.in-Binary.b) (emit.both c.in-Binary.op)) (used c.args.e.now) (two (used c.in-Binary.a) (used c.in-Binary.b) uses.both) c.args.here _ _ coded named
    (both_written (expression c.in-Binary.a) (expression c.in-Binary.b) (used c.in-Binary.a) (used c.in-Binary.b) c.args.here (kind.Binary c.in-Binary.op) c.args.w.now c.write-in-Binary.new.self c.value-in-Binary.new.w c.first-in-Binary.new.w c.deeper-in-Binary-2.result c.deeper-in-Binary.result c.write-in-Binary.ensures.written c.deeper-in-Binary.ensures (is_value c.get-in-Binary.result.now c.in-Binary.b c.deeper-in-Binary-2.result c.write-in-Binary.new.self c.value-in-Binary.new.w c.get-in-Binary.ensures c.value-in-Binary.ensures.written) c.deeper-in-Binary-2.ensures (is_first c.get-in-Binary-2.result.now c.in-Binary.a c.args.here c.value-in-Binary.new.w c.first-in-Binary.new.w c.get-in-Binary-2.ensures c.first-in-Binary.ensures.written))

pub target-returns-in-Index-clause-written : goal.target-returns-in-Index-clause-written
unfolding expression used
target-returns-in-Index-clause-written t c =
    let coded : expression c.args.e.now ≡ (two (expression c.in-Index.a) (expression c.in-Index.b) emit.index) = search (rules, the_lemmas) in
    let named : used c.args.e.now ≡ (two (used c.in-Index.a) (used c.in-Index.b) uses.both) = search (rules, the_lemmas) in
    as_part (expression c.args.e.now) (two (expression c.in-Index.a) (expression c.in-Index.b) emit.index) (used c.args.e.now) (two (used c.in-Index.a) (used c.in-Index.b) uses.both) c.args.here _ _ coded named
    (both_written (expression c.in-Index.a) (expression c.in-Index.b) (used c.in-Index.a) (used c.in-Index.b) c.args.here kind.Key c.args.w.now c.write-in-Index.new.self c.value-in-Index.new.w c.first-in-Index.new.w c.deeper-in-Index-2.result c.deeper-in-Index.result c.write-in-Index.ensures.written c.deeper-in-Index.ensures (is_value c.get-in-Index.result.now c.in-Index.b c.deeper-in-Index-2.result c.write-in-Index.new.self c.value-in-Index.new.w c.get-in-Index.ensures c.value-in-Index.ensures.written) c.deeper-in-Index-2.ensures (is_first c.get-in-Index-2.result.now c.in-Index.a c.args.here c.value-in-Index.new.w c.first-in-Index.new.w c.get-in-Index-2.ensures c.first-in-Index.ensures.written))

pub target-returns-in-Logical-clause-written : goal.target-returns-in-Logical-clause-written
unfolding expression used
target-returns-in-Logical-clause-written t c =
    let coded : expression c.args.e.now ≡ (two (expression c.in-Logical.a) (expression c.in-Logical.b) (emit.either c.in-Logical.op)) = search (rules, the_lemmas) in
    let named : used c.args.e.now ≡ (two (used c.in-Logical.a) (used c.in-Logical.b) uses.both) = search (rules, the_lemmas) in
    as_part (expression c.args.e.now) (two (expression c.in-Logical.a) (expression c.in-Logical.b) (emit.either c.in-Logical.op)) (used c.args.e.now) (two (used c.in-Logical.a) (used c.in-Logical.b) uses.both) c.args.here _ _ coded named
    (logical_written (expression c.in-Logical.a) (expression c.in-Logical.b) (used c.in-Logical.a) (used c.in-Logical.b) c.args.here c.in-Logical.op c.address-past-in-Logical.result c.args.w.now c.value-in-Logical.new.w c.write-in-Logical.new.self c.first-in-Logical.new.w c.deeper-in-Logical.result c.address-past-in-Logical.ensures c.value-in-Logical.ensures.stays (is_value c.get-in-Logical.result.now c.in-Logical.b c.args.here c.args.w.now c.value-in-Logical.new.w c.get-in-Logical.ensures c.value-in-Logical.ensures.written) c.write-in-Logical.ensures.written c.deeper-in-Logical.ensures (is_first c.get-in-Logical-2.result.now c.in-Logical.a c.args.here c.write-in-Logical.new.self c.first-in-Logical.new.w c.get-in-Logical-2.ensures c.first-in-Logical.ensures.written))

pub target-returns-in-Cond-clause-written : goal.target-returns-in-Cond-clause-written
unfolding expression used
target-returns-in-Cond-clause-written t c =
    let coded : expression c.args.e.now ≡ (three (expression c.in-Cond.a) (expression c.in-Cond.b) (expression c.in-Cond.c) emit.conditional) = search (rules, the_lemmas) in
    let named : used c.args.e.now ≡ (three (used c.in-Cond.a) (used c.in-Cond.b) (used c.in-Cond.c) (λ a b c. uses.both a (uses.both b c))) = search (rules, the_lemmas) in
    as_part (expression c.args.e.now) (three (expression c.in-Cond.a) (expression c.in-Cond.b) (expression c.in-Cond.c) emit.conditional) (used c.args.e.now) (three (used c.in-Cond.a) (used c.in-Cond.b) (used c.in-Cond.c) (λ a b c. uses.both a (uses.both b c))) c.args.here _ _ coded named
    (conditional_written (expression c.in-Cond.a) (expression c.in-Cond.b) (expression c.in-Cond.c) (used c.in-Cond.a) (used c.in-Cond.b) (used c.in-Cond.c) c.args.here c.address-past.result c.address-other.result c.args.w.now c.value-in-Cond.new.w c.write-in-Cond.new.self c.value-in-Cond-2.new.w c.write-in-Cond-2.new.self c.first-in-Cond.new.w c.deeper-in-Cond-2.result c.deeper-in-Cond.result
    c.address-past.ensures c.value-in-Cond.ensures.stays c.address-other.ensures (λ g. c.write-in-Cond.ensures.stays (c.value-in-Cond-2.ensures.stays g))
    (is_value c.get-in-Cond.result.now c.in-Cond.c c.args.here c.args.w.now c.value-in-Cond.new.w c.get-in-Cond.ensures c.value-in-Cond.ensures.written) c.write-in-Cond.ensures.written c.deeper-in-Cond.ensures (is_value c.get-in-Cond-2.result.now c.in-Cond.b c.args.here c.write-in-Cond.new.self c.value-in-Cond-2.new.w c.get-in-Cond-2.ensures c.value-in-Cond-2.ensures.written) c.write-in-Cond-2.ensures.written c.deeper-in-Cond-2.ensures (is_first c.get-in-Cond-3.result.now c.in-Cond.a c.args.here c.write-in-Cond-2.new.self c.first-in-Cond.new.w c.get-in-Cond-3.ensures c.first-in-Cond.ensures.written))

pub target-returns-in-Assign-None-default-default-clause-written : goal.target-returns-in-Assign-None-default-default-clause-written
unfolding expression used
target-returns-in-Assign-None-default-default-clause-written t c =
    let coded : expression c.args.e.now ≡ (two (expression c.in-Assign-None-default-default.a) (expression c.in-Assign-None-default-default.b) (emit.assignment None)) = search (rules, the_lemmas) in
    let named : used c.args.e.now ≡ (two (used c.in-Assign-None-default-default.a) (used c.in-Assign-None-default-default.b) uses.both) = search (rules, the_lemmas) in
    let form = has_form c.get-in-Assign-None-default-default.result.now c.in-Assign-None-default-default.a c.assigned-r.result c.get-in-Assign-None-default-default.ensures c.assigned-r.ensures.form in
    let placed = subst (λ (y : Expr). Assigned (expression c.in-Assign-None-default-default.a) (expression c.in-Assign-None-default-default.b) (used c.in-Assign-None-default-default.a) (used y) c.args.here c.assigned-r.result c.args.w.now) c.get-in-Assign-None-default-default-2.ensures (subst (λ (y : Expr). Assigned (expression c.in-Assign-None-default-default.a) (expression c.in-Assign-None-default-default.b) (used y) (used c.get-in-Assign-None-default-default-2.result.now) c.args.here c.assigned-r.result c.args.w.now) c.get-in-Assign-None-default-default.ensures c.assigned-r.ensures.placed) in
    as_part (expression c.args.e.now) (two (expression c.in-Assign-None-default-default.a) (expression c.in-Assign-None-default-default.b) (emit.assignment None)) (used c.args.e.now) (two (used c.in-Assign-None-default-default.a) (used c.in-Assign-None-default-default.b) uses.both) c.args.here _ _ coded named
    (assign_written (expression c.in-Assign-None-default-default.a) (expression c.in-Assign-None-default-default.b) (used c.in-Assign-None-default-default.a) (used c.in-Assign-None-default-default.b) c.args.here c.assigned-r.result c.args.w.now c.assign_to.new.w c.value-in-Assign-None-default-default.new.w c.first_target.new.w c.over.result form placed c.assign_to.ensures.written c.over.ensures (is_value c.get-in-Assign-None-default-default-3.result.now c.in-Assign-None-default-default.b c.over.result c.assign_to.new.w c.value-in-Assign-None-default-default.new.w c.get-in-Assign-None-default-default-3.ensures c.value-in-Assign-None-default-default.ensures.written) (is_first_target c.get-in-Assign-None-default-default-4.result.now c.in-Assign-None-default-default.a c.args.here c.value-in-Assign-None-default-default.new.w c.first_target.new.w c.get-in-Assign-None-default-default-4.ensures c.first_target.ensures.written))

pub target-returns-in-Assign-Some-default-default-clause-written : goal.target-returns-in-Assign-Some-default-default-clause-written
unfolding expression used
target-returns-in-Assign-Some-default-default-clause-written t c =
    let coded : expression c.args.e.now ≡ (two (expression c.in-Assign-Some-default-default.a) (expression c.in-Assign-Some-default-default.b) (emit.assignment (Some c.in-Assign-Some-default-default.op))) = search (rules, the_lemmas) in
    let named : used c.args.e.now ≡ (two (used c.in-Assign-Some-default-default.a) (used c.in-Assign-Some-default-default.b) uses.both) = search (rules, the_lemmas) in
    let form = has_form c.get-in-Assign-Some-default-default.result.now c.in-Assign-Some-default-default.a c.assigned-r-in-Assign-Some-default-default.result c.get-in-Assign-Some-default-default.ensures c.assigned-r-in-Assign-Some-default-default.ensures.form in
    let placed = subst (λ (y : Expr). Assigned (expression c.in-Assign-Some-default-default.a) (expression c.in-Assign-Some-default-default.b) (used c.in-Assign-Some-default-default.a) (used y) c.args.here c.assigned-r-in-Assign-Some-default-default.result c.args.w.now) c.get-in-Assign-Some-default-default-2.ensures (subst (λ (y : Expr). Assigned (expression c.in-Assign-Some-default-default.a) (expression c.in-Assign-Some-default-default.b) (used y) (used c.get-in-Assign-Some-default-default-2.result.now) c.args.here c.assigned-r-in-Assign-Some-default-default.result c.args.w.now) c.get-in-Assign-Some-default-default.ensures c.assigned-r-in-Assign-Some-default-default.ensures.placed) in
    as_part (expression c.args.e.now) (two (expression c.in-Assign-Some-default-default.a) (expression c.in-Assign-Some-default-default.b) (emit.assignment (Some c.in-Assign-Some-default-default.op))) (used c.args.e.now) (two (used c.in-Assign-Some-default-default.a) (used c.in-Assign-Some-default-default.b) uses.both) c.args.here _ _ coded named
    (assign_by_written (expression c.in-Assign-Some-default-default.a) (expression c.in-Assign-Some-default-default.b) (used c.in-Assign-Some-default-default.a) (used c.in-Assign-Some-default-default.b) c.args.here c.in-Assign-Some-default-default.op c.assigned-r-in-Assign-Some-default-default.result c.args.w.now c.assign_to-in-Assign-Some-default-default.new.w c.write-in-Assign-Some-default-default.new.self c.value-in-Assign-Some-default-default.new.w c.fetch_kept.new.w c.first_target-in-Assign-Some-default-default.new.w c.over-in-Assign-Some-default-default-2.result c.over-in-Assign-Some-default-default.result form placed (λ g. c.assign_to-in-Assign-Some-default-default.ensures.stays (c.write-in-Assign-Some-default-default.ensures.stays (c.value-in-Assign-Some-default-default.ensures.stays g)))
    c.assign_to-in-Assign-Some-default-default.ensures.written c.write-in-Assign-Some-default-default.ensures.written c.over-in-Assign-Some-default-default.ensures (is_value c.get-in-Assign-Some-default-default-3.result.now c.in-Assign-Some-default-default.b c.over-in-Assign-Some-default-default-2.result c.write-in-Assign-Some-default-default.new.self c.value-in-Assign-Some-default-default.new.w c.get-in-Assign-Some-default-default-3.ensures c.value-in-Assign-Some-default-default.ensures.written) c.over-in-Assign-Some-default-default-2.ensures c.fetch_kept.ensures.written (is_first_target c.get-in-Assign-Some-default-default-4.result.now c.in-Assign-Some-default-default.a c.args.here c.fetch_kept.new.w c.first_target-in-Assign-Some-default-default.new.w c.get-in-Assign-Some-default-default-4.ensures c.first_target-in-Assign-Some-default-default.ensures.written))

pub target-returns-in-This-clause-written : goal.target-returns-in-This-clause-written
unfolding expression used
target-returns-in-This-clause-written t c =
    let coded : expression c.args.e.now ≡ (leaf (emit.constant kind.This)) = search (rules, the_lemmas) in
    let named : used c.args.e.now ≡ (leaf uses.none) = search (rules, the_lemmas) in
    as_part (expression c.args.e.now) (leaf (emit.constant kind.This)) (used c.args.e.now) (leaf uses.none) c.args.here _ _ coded named
    (c.constant.ensures.written kind.This (λ g. refl))

pub target-returns-in-Null-clause-written : goal.target-returns-in-Null-clause-written
unfolding expression used
target-returns-in-Null-clause-written t c =
    let coded : expression c.args.e.now ≡ (leaf (emit.constant kind.Null)) = search (rules, the_lemmas) in
    let named : used c.args.e.now ≡ (leaf uses.none) = search (rules, the_lemmas) in
    as_part (expression c.args.e.now) (leaf (emit.constant kind.Null)) (used c.args.e.now) (leaf uses.none) c.args.here _ _ coded named
    (c.constant-in-Null.ensures.written kind.Null (λ g. refl))

pub target-returns-in-Bool-clause-written : goal.target-returns-in-Bool-clause-written
unfolding expression used
target-returns-in-Bool-clause-written t c =
    let coded : expression c.args.e.now ≡ (leaf (emit.constant (kind.Bool c.in-Bool.value))) = search (rules, the_lemmas) in
    let named : used c.args.e.now ≡ (leaf uses.none) = search (rules, the_lemmas) in
    as_part (expression c.args.e.now) (leaf (emit.constant (kind.Bool c.in-Bool.value))) (used c.args.e.now) (leaf uses.none) c.args.here _ _ coded named
    (c.constant-in-Bool.ensures.written (kind.Bool c.in-Bool.value) (λ g. refl))

pub target-returns-in-Str-clause-written : goal.target-returns-in-Str-clause-written
unfolding expression used
target-returns-in-Str-clause-written t c =
    let coded : expression c.args.e.now ≡ (leaf (emit.constant (kind.Str c.in-Str.text))) = search (rules, the_lemmas) in
    let named : used c.args.e.now ≡ (leaf uses.none) = search (rules, the_lemmas) in
    as_part (expression c.args.e.now) (leaf (emit.constant (kind.Str c.in-Str.text))) (used c.args.e.now) (leaf uses.none) c.args.here _ _ coded named
    (c.string.ensures.written)

pub target-returns-in-Name-clause-written : goal.target-returns-in-Name-clause-written
unfolding expression used
target-returns-in-Name-clause-written t c =
    let coded : expression c.args.e.now ≡ (code.name_part c.in-Name.field-0) = search (rules, the_lemmas) in
    let named : used c.args.e.now ≡ (uses.name_part c.in-Name.field-0) = search (rules, the_lemmas) in
    as_part (expression c.args.e.now) (code.name_part c.in-Name.field-0) (used c.args.e.now) (uses.name_part c.in-Name.field-0) c.args.here _ _ coded named
    (c.name.ensures.written c.in-Name.field-0)

pub target-returns-in-Unary-clause-written : goal.target-returns-in-Unary-clause-written
unfolding expression used
target-returns-in-Unary-clause-written t c =
    let coded : expression c.args.e.now ≡ (one (expression c.in-Unary.a) (emit.sole c.in-Unary.op)) = search (rules, the_lemmas) in
    let named : used c.args.e.now ≡ (used c.in-Unary.a) = search (rules, the_lemmas) in
    let form = has_form c.get-in-Unary.result.now c.in-Unary.a c.reference_of-r.result c.get-in-Unary.ensures c.reference_of-r.ensures.form in
    let placed = refers c.get-in-Unary.result.now c.in-Unary.a c.reference_of-r.result c.args.w.now c.get-in-Unary.ensures c.reference_of-r.ensures.placed in
    let written = target_written (expression c.in-Unary.a) (used c.in-Unary.a) c.args.here c.reference_of-r.result (operator_count c.in-Unary.op) (operator_emits c.in-Unary.op) c.args.w.now c.operator.new.w c.first_target-in-Unary.new.w form placed c.operator.ensures.written
    (is_first_target c.get-in-Unary-2.result.now c.in-Unary.a c.args.here c.operator.new.w c.first_target-in-Unary.new.w c.get-in-Unary-2.ensures c.first_target-in-Unary.ensures.written) in
    as_part (expression c.args.e.now) (one (expression c.in-Unary.a) (emit.sole c.in-Unary.op)) (used c.args.e.now) (used c.in-Unary.a) c.args.here _ _ coded named
    (operator_written (expression c.in-Unary.a) (used c.in-Unary.a) c.args.here c.in-Unary.op c.args.w.now c.first_target-in-Unary.new.w written)

pub target-returns-in-Update-default-true-default-clause-written : goal.target-returns-in-Update-default-true-default-clause-written
unfolding expression used
target-returns-in-Update-default-true-default-clause-written t c =
    let coded : expression c.args.e.now ≡ (one (expression c.in-Update-default-true-default.a) (emit.stepping c.in-Update-default-true-default.op true)) = update_is c.args.e.now c.in-Update-default-true-default.a c.in-Update-default-true-default.op true (c.in-Update-default-true-default.is ∙ ap (λ prefix. UpdateNode c.in-Update-default-true-default.op prefix c.in-Update-default-true-default.a) (sym c.in-Update-default-true-default.prefix-is ∙ c.in-Update-default-true-default.prefix-test)) in
    let named : used c.args.e.now ≡ (used c.in-Update-default-true-default.a) = search (rules, the_lemmas) in
    let form = has_form c.get-in-Update-default-true-default.result.now c.in-Update-default-true-default.a c.reference_of-r-in-Update-default-true-default.result c.get-in-Update-default-true-default.ensures c.reference_of-r-in-Update-default-true-default.ensures.form in
    let placed = refers c.get-in-Update-default-true-default.result.now c.in-Update-default-true-default.a c.reference_of-r-in-Update-default-true-default.result c.args.w.now c.get-in-Update-default-true-default.ensures c.reference_of-r-in-Update-default-true-default.ensures.placed in
    let written = target_written (expression c.in-Update-default-true-default.a) (used c.in-Update-default-true-default.a) c.args.here c.reference_of-r-in-Update-default-true-default.result (λ f. 4) (λ f at rest. emit.fetch_kept f at (steps_before c.in-Update-default-true-default.op f at rest)) c.args.w.now c.fetch_kept-in-Update-default-true-default.new.w c.first_target-in-Update-default-true-default.new.w form placed (kept_behind c.reference_of-r-in-Update-default-true-default.result 3 (steps_before c.in-Update-default-true-default.op) c.args.here c.args.w.now c.step_before.new.w c.fetch_kept-in-Update-default-true-default.new.w c.step_before.ensures.stays c.step_before.ensures.written c.fetch_kept-in-Update-default-true-default.ensures.written)
    (is_first_target c.get-in-Update-default-true-default-2.result.now c.in-Update-default-true-default.a c.args.here c.fetch_kept-in-Update-default-true-default.new.w c.first_target-in-Update-default-true-default.new.w c.get-in-Update-default-true-default-2.ensures c.first_target-in-Update-default-true-default.ensures.written) in
    as_part (expression c.args.e.now) (one (expression c.in-Update-default-true-default.a) (emit.stepping c.in-Update-default-true-default.op true)) (used c.args.e.now) (used c.in-Update-default-true-default.a) c.args.here _ _ coded named
    written

pub target-returns-in-Update-default-false-default-clause-written : goal.target-returns-in-Update-default-false-default-clause-written
unfolding expression used
target-returns-in-Update-default-false-default-clause-written t c =
    let coded : expression c.args.e.now ≡ (one (expression c.in-Update-default-false-default.a) (emit.stepping c.in-Update-default-false-default.op false)) = update_is c.args.e.now c.in-Update-default-false-default.a c.in-Update-default-false-default.op false (c.in-Update-default-false-default.is ∙ ap (λ prefix. UpdateNode c.in-Update-default-false-default.op prefix c.in-Update-default-false-default.a) (sym c.in-Update-default-false-default.prefix-is ∙ c.in-Update-default-false-default.prefix-test)) in
    let named : used c.args.e.now ≡ (used c.in-Update-default-false-default.a) = search (rules, the_lemmas) in
    let form = has_form c.get-in-Update-default-false-default.result.now c.in-Update-default-false-default.a c.reference_of-r-in-Update-default-false-default.result c.get-in-Update-default-false-default.ensures c.reference_of-r-in-Update-default-false-default.ensures.form in
    let placed = refers c.get-in-Update-default-false-default.result.now c.in-Update-default-false-default.a c.reference_of-r-in-Update-default-false-default.result c.args.w.now c.get-in-Update-default-false-default.ensures c.reference_of-r-in-Update-default-false-default.ensures.placed in
    let written = target_written (expression c.in-Update-default-false-default.a) (used c.in-Update-default-false-default.a) c.args.here c.reference_of-r-in-Update-default-false-default.result (λ f. 6) (λ f at rest. emit.fetch_kept f at (steps_behind c.in-Update-default-false-default.op f at rest)) c.args.w.now c.fetch_kept-in-Update-default-false-default.new.w c.first_target-in-Update-default-false-default.new.w form placed (kept_behind c.reference_of-r-in-Update-default-false-default.result 5 (steps_behind c.in-Update-default-false-default.op) c.args.here c.args.w.now c.step_behind.new.w c.fetch_kept-in-Update-default-false-default.new.w c.step_behind.ensures.stays c.step_behind.ensures.written c.fetch_kept-in-Update-default-false-default.ensures.written)
    (is_first_target c.get-in-Update-default-false-default-2.result.now c.in-Update-default-false-default.a c.args.here c.fetch_kept-in-Update-default-false-default.new.w c.first_target-in-Update-default-false-default.new.w c.get-in-Update-default-false-default-2.ensures c.first_target-in-Update-default-false-default.ensures.written) in
    as_part (expression c.args.e.now) (one (expression c.in-Update-default-false-default.a) (emit.stepping c.in-Update-default-false-default.op false)) (used c.args.e.now) (used c.in-Update-default-false-default.a) c.args.here _ _ coded named
    written

pub target-returns-in-Member-clause-written : goal.target-returns-in-Member-clause-written
unfolding expression used
target-returns-in-Member-clause-written t c =
    let named : used c.args.e.now ≡ (used c.in-Member.object) = search (rules, the_lemmas) in
    as_part (expression c.args.e.now) (one (expression c.in-Member.object) (λ e. emit.member e c.in-Member.text)) (used c.args.e.now) (used c.in-Member.object) c.args.here _ _ (member_is c.args.e.now c.in-Member.object c.in-Member.text c.in-Member.is) named
    (member_written (expression c.in-Member.object) (used c.in-Member.object) c.args.here c.in-Member.text c.args.w.now c.key.new.w c.first-in-Member.new.w c.key.ensures.written (is_first c.get-in-Member.result.now c.in-Member.object c.args.here c.key.new.w c.first-in-Member.new.w c.get-in-Member.ensures c.first-in-Member.ensures.written))

pub target-returns-in-Num-clause-written : goal.target-returns-in-Num-clause-written
unfolding expression used
target-returns-in-Num-clause-written t c =
    let coded : expression c.args.e.now ≡ (leaf (emit.constant (kind.Num c.in-Num.n))) = search (rules, the_lemmas) in
    let named : used c.args.e.now ≡ (leaf uses.none) = search (rules, the_lemmas) in
    as_part (expression c.args.e.now) (leaf (emit.constant (kind.Num c.in-Num.n))) (used c.args.e.now) (leaf uses.none) c.args.here _ _ coded named
    c.number.ensures.written

pub values-returns-clause-written : goal.values-returns-clause-written
values-returns-clause-written t c =
    let none : c.loop-i.i ≡ 0 = omega arith in
    let all = from_start c.loop-i.i c.as_slice-list.result.now c.args.list.now (omega arith) c.as_slice-list.ensures in
    let here : WroteValues 0 (drop c.loop-i.i c.as_slice-list.result.now) c.args.here c.args.w.now c.loop-i.w = subst (λ i. WroteValues i (drop c.loop-i.i c.as_slice-list.result.now) c.args.here c.args.w.now c.loop-i.w) none c.loop-i.invariant.1 in
    subst (λ (list : List Expr). WroteValues 0 list c.args.here c.args.w.now c.loop-i.w) all here

pub values-loop-i-preserved : goal.values-loop-i-preserved
values-loop-i-preserved t c = (
  λ g. c.loop-i.invariant.0 (c.value.ensures.stays g),
  values_more (c.loop-i.i - 1) c.loop-i.i c.as_slice-list.result.now c.index-list-i.result c.args.here c.deeper.result c.args.w.now c.loop-i.w c.value.new.w (omega arith) (omega arith) c.index-list-i.is c.deeper.ensures c.loop-i.invariant.1 c.value.ensures.written,
)

pub values-loop-i-init : goal.values-loop-i-init
values-loop-i-init t c =
    let all : length c.as_slice-list.result.now ≤ length c.as_slice-list.result.now = omega arith in
    (λ g. g, subst (λ (l : List Expr). WroteValues (length c.as_slice-list.result.now) l c.args.here c.args.w.now c.args.w.now) (sym (drop_all (length c.as_slice-list.result.now) c.as_slice-list.result.now all)) (no_values (length c.as_slice-list.result.now) c.args.here c.args.w.now))

pub elements-returns-clause-written : goal.elements-returns-clause-written
elements-returns-clause-written t c =
    let none : c.loop-i.i ≡ 0 = omega arith in
    let all = from_start c.loop-i.i c.as_slice-list.result.now c.args.list.now (omega arith) c.as_slice-list.ensures in
    let here : WroteElements 0 (drop c.loop-i.i c.as_slice-list.result.now) c.args.here c.args.w.now c.loop-i.w = subst (λ i. WroteElements i (drop c.loop-i.i c.as_slice-list.result.now) c.args.here c.args.w.now c.loop-i.w) none c.loop-i.invariant.1 in
    subst (λ (list : List (Option Expr)). WroteElements 0 list c.args.here c.args.w.now c.loop-i.w) all here

pub elements-loop-i-preserved : goal.elements-loop-i-preserved
elements-loop-i-preserved t c =
    (c.loop-i.invariant.0, hole_more (c.loop-i.i - 1) c.loop-i.i c.as_slice-list.result.now c.index-list-i.result c.args.here c.args.w.now c.loop-i.w (omega arith) (omega arith) c.index-list-i.is c.in_default.is c.loop-i.invariant.1)

pub elements-loop-i-init : goal.elements-loop-i-init
elements-loop-i-init t c =
    let all : length c.as_slice-list.result.now ≤ length c.as_slice-list.result.now = omega arith in
    (λ g. g, subst (λ (l : List (Option Expr)). WroteElements (length c.as_slice-list.result.now) l c.args.here c.args.w.now c.args.w.now) (sym (drop_all (length c.as_slice-list.result.now) c.as_slice-list.result.now all)) (no_elements (length c.as_slice-list.result.now) c.args.here c.args.w.now))

pub fields-returns-clause-written : goal.fields-returns-clause-written
fields-returns-clause-written t c =
    let all = from_start c.loop-i.i c.as_slice-list.result.now c.args.list.now (omega arith) c.as_slice-list.ensures in
    subst (λ (list : List (List ℕ × Expr)). WroteFields list c.args.here c.args.w.now c.loop-i.w) all c.loop-i.invariant.1

pub fields-loop-i-preserved : goal.fields-loop-i-preserved
fields-loop-i-preserved t c = (
  λ g. c.loop-i.invariant.0 (c.copy-name.ensures.stays (c.write.ensures.stays (c.value.ensures.stays g))),
  fields_more (c.loop-i.i - 1) c.loop-i.i c.as_slice-list.result.now c.index-list-i.result c.args.here c.deeper-in-loop-i.result c.args.w.now c.loop-i.w c.write.new.self c.value.new.w (omega arith) (omega arith) c.index-list-i.is c.loop-i.invariant.1
      (λ at d s h. c.write.ensures.written (kind.Define c.index-list-i.result.0) (emit.deeper 2 at) d (λ g. ap (λ text. kind.Define text) (c.copy-name.ensures.copied g)) (c.deeper.ensures at s) (c.copy-name.ensures.holds d h))
      c.value.ensures.written c.deeper-in-loop-i.ensures,
)

pub fields-loop-i-init : goal.fields-loop-i-init
fields-loop-i-init t c =
    let all : length c.as_slice-list.result.now ≤ length c.as_slice-list.result.now = omega arith in
    (λ g. g, subst (λ (l : List (List ℕ × Expr)). WroteFields l c.args.here c.args.w.now c.args.w.now) (sym (drop_all (length c.as_slice-list.result.now) c.as_slice-list.result.now all)) (no_fields c.args.here c.args.w.now))

pub target-returns-in-Call-clause-written : goal.target-returns-in-Call-clause-written
unfolding expression used
target-returns-in-Call-clause-written t c at first start n ops front s h =
    let coded : expression c.args.e.now ≡ (two (expression c.in-Call.callee) (each (map expression c.in-Call.arguments)) emit.calling) = search (rules, the_lemmas) in
    let named : used c.args.e.now ≡ (two (used c.in-Call.callee) (uses.all_of (map used c.in-Call.arguments)) uses.both) = search (rules, the_lemmas) in
    let known : IsGoing c.counted-count.new.w → kind.Call c.counted-count.result ≡ kind.Call (length c.in-Call.arguments) = λ g. ap (λ k. kind.Call k) (c.counted-count.ensures.given g ∙ c.len.ensures) in
    let over : (at : emit.Here) → Stands c.args.here at → Stands c.beyond.result (emit.deeper (emit.on (length c.in-Call.arguments) 2) at) =
    λ at s. subst (λ k. Stands c.beyond.result (emit.deeper (emit.on k 2) at)) c.len-in-Call.ensures (c.beyond.ensures at s) in
    let form = has_form c.get-in-Call.result.now c.in-Call.callee c.reference_of-r-in-Call.result c.get-in-Call.ensures c.reference_of-r-in-Call.ensures.form in
    let placed = refers c.get-in-Call.result.now c.in-Call.callee c.reference_of-r-in-Call.result c.values.new.w c.get-in-Call.ensures c.reference_of-r-in-Call.ensures.placed in
    let called = target_written (expression c.in-Call.callee) (used c.in-Call.callee) c.args.here c.reference_of-r-in-Call.result emit.method_size emit.method c.values.new.w c.method.new.w c.first_target-in-Call.new.w form placed c.method.ensures.written
    (is_first_target c.get-in-Call-2.result.now c.in-Call.callee c.args.here c.method.new.w c.first_target-in-Call.new.w c.get-in-Call-2.ensures c.first_target-in-Call.ensures.written) in
    let written = with_arguments c.in-Call.arguments (expression c.in-Call.callee) (used c.in-Call.callee) c.args.here c.deeper-in-Call.result c.beyond.result (λ k. kind.Call k) (kind.Call c.counted-count.result) 2 (λ k. suc (k.size + emit.method_size k.form)) (λ k. emit.begun (λ at rest. k.target at (emit.method k.form at rest))) (λ p. suc (p.0.size + (emit.method_size p.0.form + (emit.values_size p.1 + 1)))) (λ p. omega arith)
    c.counted-count.new.w c.write-in-Call.new.self c.values.new.w c.first_target-in-Call.new.w known c.write-in-Call.ensures.written over c.values.ensures.written c.deeper-in-Call.ensures called in
    as_part (expression c.args.e.now) (two (expression c.in-Call.callee) (each (map expression c.in-Call.arguments)) emit.calling) (used c.args.e.now) (two (used c.in-Call.callee) (uses.all_of (map used c.in-Call.arguments)) uses.both) c.args.here c.counted-count.new.w c.first_target-in-Call.new.w coded named written at first start n ops front s (c.counted-count.ensures.holds _ h)

pub target-returns-in-New-clause-written : goal.target-returns-in-New-clause-written
unfolding expression used
target-returns-in-New-clause-written t c at first start n ops front s h =
    let coded : expression c.args.e.now ≡ (two (expression c.in-New.callee) (each (map expression c.in-New.arguments)) emit.making) = search (rules, the_lemmas) in
    let named : used c.args.e.now ≡ (two (used c.in-New.callee) (uses.all_of (map used c.in-New.arguments)) uses.both) = search (rules, the_lemmas) in
    let known : IsGoing c.counted-count-in-New.new.w → kind.New c.counted-count-in-New.result ≡ kind.New (length c.in-New.arguments) = λ g. ap (λ k. kind.New k) (c.counted-count-in-New.ensures.given g ∙ c.len-in-New.ensures) in
    let over : (at : emit.Here) → Stands c.args.here at → Stands c.beyond-in-New.result (emit.deeper (emit.on (length c.in-New.arguments) 1) at) =
    λ at s. subst (λ k. Stands c.beyond-in-New.result (emit.deeper (emit.on k 1) at)) c.len-in-New-2.ensures (c.beyond-in-New.ensures at s) in
    let called = is_first c.get-in-New.result.now c.in-New.callee c.args.here c.values-in-New.new.w c.first-in-New.new.w c.get-in-New.ensures c.first-in-New.ensures.written in
    let written = with_arguments c.in-New.arguments (expression c.in-New.callee) (used c.in-New.callee) c.args.here c.deeper-in-New.result c.beyond-in-New.result (λ k. kind.New k) (kind.New c.counted-count-in-New.result) 1 begun_count begun_value (λ p. suc (emit.value_size p.0 + (emit.values_size p.1 + 1))) (λ p. omega arith)
    c.counted-count-in-New.new.w c.write-in-New.new.self c.values-in-New.new.w c.first-in-New.new.w known c.write-in-New.ensures.written over c.values-in-New.ensures.written c.deeper-in-New.ensures called in
    as_part (expression c.args.e.now) (two (expression c.in-New.callee) (each (map expression c.in-New.arguments)) emit.making) (used c.args.e.now) (two (used c.in-New.callee) (uses.all_of (map used c.in-New.arguments)) uses.both) c.args.here c.counted-count-in-New.new.w c.first-in-New.new.w coded named written at first start n ops front s (c.counted-count-in-New.ensures.holds _ h)

pub target-returns-in-Array-clause-written : goal.target-returns-in-Array-clause-written
unfolding expression used
target-returns-in-Array-clause-written t c =
    let coded : expression c.args.e.now ≡ (one (each_held (map (option_map expression) c.in-Array.list)) emit.array) = search (rules, the_lemmas) in
    let named : used c.args.e.now ≡ (one (each_held (map (option_map used) c.in-Array.list)) uses.all_held) = search (rules, the_lemmas) in
    as_part (expression c.args.e.now) (one (each_held (map (option_map expression) c.in-Array.list)) emit.array) (used c.args.e.now) (one (each_held (map (option_map used) c.in-Array.list)) uses.all_held) c.args.here c.args.w.now c.write-in-Array-2.new.self coded named
    (array_written c.in-Array.list c.args.here c.args.w.now c.with_length.new.w c.elements.new.w c.write-in-Array.new.self c.write-in-Array-2.new.self
    (λ at d s h. subst (λ k. Holds c.with_length.new.w (record d { ops = emit.with_length k at d.ops; count = emit.on 5 d.count })) c.len-in-Array.ensures (c.with_length.ensures.written at d s h))
    c.elements.ensures.written c.write-in-Array.ensures.written c.write-in-Array-2.ensures.written)

pub target-returns-in-Object-clause-written : goal.target-returns-in-Object-clause-written
unfolding expression used
target-returns-in-Object-clause-written t c =
    let coded : expression c.args.e.now ≡ (one (each_named (map (λ p. (p.0, expression p.1)) c.in-Object.list)) emit.object) = search (rules, the_lemmas) in
    let named : used c.args.e.now ≡ (one (each_named (map (λ p. (p.0, used p.1)) c.in-Object.list)) uses.all_named) = search (rules, the_lemmas) in
    as_part (expression c.args.e.now) (one (each_named (map (λ p. (p.0, expression p.1)) c.in-Object.list)) emit.object) (used c.args.e.now) (one (each_named (map (λ p. (p.0, used p.1)) c.in-Object.list)) uses.all_named) c.args.here c.args.w.now c.write-in-Object-2.new.self coded named
    (object_written c.in-Object.list c.args.here c.args.w.now c.fields.new.w c.write-in-Object.new.self c.write-in-Object-2.new.self c.fields.ensures.written c.write-in-Object.ensures.written c.write-in-Object-2.ensures.written)

pub elements-loop-i-preserved-in-Some : goal.elements-loop-i-preserved-in-Some
elements-loop-i-preserved-in-Some t c =
    let name = c.element_name-name in (
      λ g. c.loop-i.invariant.0 (name.ensures.stays (c.write.ensures.stays (c.value.ensures.stays g))),
      element_more (c.loop-i.i - 1) c.loop-i.i c.as_slice-list.result.now c.index-list-i.result c.in-Some.e c.args.here c.deeper-in-Some.result c.deeper.result c.args.w.now c.loop-i.w c.write.new.self c.value.new.w (omega arith) (omega arith) c.index-list-i.is c.in-Some.is c.loop-i.invariant.1
          (λ k at d known s h. c.write.ensures.written k at d (λ g. ap (λ text. kind.Define text) (name.ensures.given g) ∙ known (name.ensures.stays g)) s (name.ensures.holds d h))
          c.deeper.ensures c.value.ensures.written c.deeper-in-Some.ensures,
    )

pub target-returns-in-Function-clause-written : goal.target-returns-in-Function-clause-written
unfolding expression used function uses.function
target-returns-in-Function-clause-written t c =
    let coded : expression c.args.e.now ≡ code.function_expression (function c.in-Function.f) = search (rules, the_lemmas) in
    let named : used c.args.e.now ≡ one (uses.function c.in-Function.f) uses.function_expression = search (rules, the_lemmas) in
    as_part (expression c.args.e.now) (code.function_expression (function c.in-Function.f)) (used c.args.e.now) (one (uses.function c.in-Function.f) uses.function_expression) c.args.here c.args.w.now c.closure.new.w coded named
    c.closure.ensures.written
