-- Each production of expressions is read, where its parts are.
use Rattle.std.proofs.Common.{◌≡◌, ℕ, suc, ◌+◌, ◌-◌, max, ◌<◌, ◌≤◌, Bool, true, false, List, [], ◌∷◌, length, Option, Some, refl, ap, sym, ◌∙◌, arith}
use Rattle.njs_tree.specs.declared.token.Keyword.TheVariants as keyword
use Rattle.njs_tree.specs.declared.token.Mark.TheVariants as mark
use Rattle.njs_tree.specs.declared.token.Joint.TheVariants as joint
use Rattle.njs_tree.specs.declared.tree.BinaryOp.{BinaryOp}
use Rattle.njs_tree.specs.declared.tree.LogicalOp.{LogicalOp}
use Rattle.njs_tree.specs.declared.tree.UnaryOp.{UnaryOp}
use Rattle.njs_tree.specs.declared.tree.UpdateOp.{UpdateOp}
use Rattle.njs_tree.specs.declared.tree.Expr.{Expr}
use Rattle.njs_tree.specs.declared.tree.ExprNode.TheVariants as node
use Rattle.njs_tree.specs.Lexemes.{Lexeme, Symbol, word_text}
use Rattle.njs_tree.specs.Symbols.{lexeme_of, line_of, joint_of, binds, logical_level, binary_level, prefix_of, update_of, strength}
use Rattle.njs_tree.specs.Grammar.{at, is_target, is_target_node, Spells, BareNew, Arguments}
use Rattle.njs_expr.specs.declared.terminal.Terminal.{Terminal}
use Rattle.njs_expr.specs.Readers.{Symbols, terminal_of, next_of}
use Rattle.njs_expr.specs.Expressions.{links, link, primary, chained, postfix, operand, joined}
use Rattle.njs_expr.specs.Descent.{expr, stmt}
use Rattle.njs_expr.proofs.Forwards.{never}
use Rattle.njs_expr.proofs.Past.{past, shorter, deep, bare_past, bare_deep, arguments_past}
use Rattle.njs_expr.proofs.Begins.{Unprefixed, chain_begun}
use Rattle.njs_expr.proofs.Follow.{Follows, logical_bounds, binary_bounds, binds_small, joint_strength, weak, unlinked, unlinked_more, no_call, unupdated, update_unlinked, not_prefix, closed}
use Rattle.njs_expr.proofs.ExpressionSteps.{joined_comma, joined_assign, conditioned, joined_question, joined_logical, joined_binary, climbs, climb_stops, chain_links, chain_stops, linked_call, linked_member, linked_index, newed_with, newed_bare, prefixed_unary, prefixed_update, unprefixed, postfixed, chained_from, primary_new, level_climbs, level_chains, nested}
use Rattle.njs_expr.proofs.Read.{Chains, Climbs, chain_level, Reads, ReadsBare, ReadsArguments}

-- an operand is followed by the operators
climbs_from : (with_in : Bool) (i : Symbols) (tree : Expr) (d : ℕ) (r : Symbols) (lower fuel room : ℕ) → lower ≤ 14
    → operand (expr fuel) (stmt fuel) with_in room (line_of i) i ≡ Some ((tree, d), r) → Climbs with_in i tree d r lower fuel room
climbs_from with_in i tree d r lower fuel room low found = (length r, omega arith, level_climbs (expr fuel) (stmt fuel) with_in lower room i (tree, d) r low found)

-- a chain that stops, and no postfix after it
operand_from : (with_in : Bool) (i : Symbols) (tree : Expr) (d : ℕ) (r : Symbols) (fuel room : ℕ) → Unprefixed (lexeme_of i)
    → chained (expr fuel) (stmt fuel) with_in true room (line_of i) i ≡ Some ((tree, d), r) → strength with_in false r ≤ 14
    → operand (expr fuel) (stmt fuel) with_in room (line_of i) i ≡ Some ((tree, d), r)
unfolding postfix
operand_from with_in i tree d r fuel room plain found loose =
    rw (unprefixed (expr fuel) (stmt fuel) with_in room (line_of i) i plain.0 plain.1, found) (unupdated with_in room (line_of i) (tree, d) r loose)

chain_over : (with_in with_calls : Bool) (i : Symbols) (tree : Expr) (d : ℕ) (r : Symbols) (fuel room : ℕ) → Chains with_in with_calls i tree d r fuel room
    → links with_calls (next_of r) ≡ false → chained (expr fuel) (stmt fuel) with_in with_calls room (line_of i) i ≡ Some ((tree, d), r)
chain_over with_in with_calls i tree d r fuel room c stop = c.2 ∙ chain_stops (expr fuel) with_calls room (line_of i) c.0 (tree, d) r stop

-- a whole expression at a level of operators
pub whole : (with_in : Bool) (least : ℕ) (tree : Expr) (d : ℕ) (ends : Bool) (i r : Symbols) (lower fuel room : ℕ) → Spells with_in least tree d ends i r → Reads with_in least tree d ends i r
    → Follows with_in least ends r → lower ≤ least → lower ≤ 14 → binds (joint_of with_in (lexeme_of r)) < lower → d ≤ room → length i ≤ fuel
    → expr fuel with_in lower room i ≡ Some ((tree, d), r)
whole with_in least tree d ends i r lower fuel room s h f low high stop fits short =
    let c = h.levels f lower (fuel - 1) room low high fits (omega (arith, shorter (past s))) in
    nested fuel with_in lower room (omega (arith, shorter (past s))) (omega (arith, deep s)) i ∙ c.2
    ∙ climb_stops (expr (fuel - 1)) with_in lower room (line_of i) c.0 (tree, d) r stop

-- the callee of a `new`
callee : (with_in : Bool) (tree : Expr) (d : ℕ) (ends : Bool) (i r : Symbols) (fuel room : ℕ) → Spells with_in 18 tree d ends i r → Reads with_in 18 tree d ends i r
    → links false (next_of r) ≡ false → d ≤ room → length i ≤ fuel → expr fuel with_in 18 room i ≡ Some ((tree, d), r)
callee with_in tree d ends i r fuel room s h stop fits short =
    let c = h.chains false (omega arith) (fuel - 1) room fits (omega (arith, shorter (past s))) in
    nested fuel with_in 18 room (omega (arith, shorter (past s))) (omega (arith, deep s)) i ∙ level_chains (expr (fuel - 1)) (stmt (fuel - 1)) with_in room i
    ∙ chain_over with_in false i tree d r (fuel - 1) room c stop

-- a chain, at each level up to its own
pub chain_reads : (with_in : Bool) (least top : ℕ) (tree : Expr) (d : ℕ) (i r : Symbols) → least ≤ top → 17 ≤ top → Unprefixed (lexeme_of i)
    → ((with_calls : Bool) → chain_level with_calls ≤ top → (fuel room : ℕ) → d ≤ room → length i ≤ suc fuel → Chains with_in with_calls i tree d r fuel room)
    → Reads with_in least tree d false i r
chain_reads with_in least top tree d i r under high plain c = record {
  chains = λ with_calls h. c with_calls (omega (arith, h));
  targets = λ is fuel room fits short. (plain, c true high fuel room fits short);
  levels = λ f lower fuel room low small fits short.
      climbs_from with_in i tree d r lower fuel room small
      (operand_from with_in i tree d r fuel room plain (chain_over with_in true i tree d r fuel room (c true high fuel room fits short) (unlinked with_in r f.loose)) f.loose);
}

-- a primary expression, at every level
pub primary_reads : (with_in : Bool) (least : ℕ) (tree : Expr) (d : ℕ) (i r : Symbols) → Unprefixed (lexeme_of i)
    → ((fuel room : ℕ) → d ≤ room → length i ≤ suc fuel → primary (expr fuel) (stmt fuel) with_in room (line_of i) i ≡ Some ((tree, d), r))
    → Reads with_in least tree d false i r
primary_reads with_in least tree d i r plain found =
    chain_reads with_in least (max least 18) tree d i r (omega arith) (omega arith) plain
    (λ with_calls h fuel room fits short. (length r, omega arith, chained_from (expr fuel) (stmt fuel) with_in with_calls room (line_of i) (tree, d) i r (found fuel room fits short)))

chain_level_high : (with_calls : Bool) → 17 ≤ chain_level with_calls
chain_level_high true = omega arith
chain_level_high false = omega arith

chain_level_calls : (with_calls : Bool) → chain_level with_calls ≤ 17 → with_calls ≡ true
chain_level_calls true h = refl
chain_level_calls false h = absurd (omega arith)

-- an operand that is no chain
operand_reads : (with_in : Bool) (least : ℕ) (tree : Expr) (d : ℕ) (ends : Bool) (i r : Symbols) → least ≤ 16 → is_target tree ≡ false
    → (Follows with_in least ends r → (fuel room : ℕ) → d ≤ room → length i ≤ suc fuel → operand (expr fuel) (stmt fuel) with_in room (line_of i) i ≡ Some ((tree, d), r))
    → Reads with_in least tree d ends i r
operand_reads with_in least tree d ends i r low untargeted found = record {
  chains = λ with_calls h. absurd (omega (arith, h, chain_level_high with_calls));
  targets = λ is. absurd (never (sym is ∙ untargeted));
  levels = λ f lower fuel room under small fits short. climbs_from with_in i tree d r lower fuel room small (found f fuel room fits short);
}

call_links : (with_calls : Bool) (x : Lexeme) → x ≡ Lexeme.mark mark.LeftParen → with_calls ≡ true → links with_calls (terminal_of x) ≡ true
call_links with_calls x is e = rw (is, e)

mark_links : (with_calls : Bool) (x y : Lexeme) → x ≡ y → links with_calls (terminal_of y) ≡ true → links with_calls (terminal_of x) ≡ true
mark_links with_calls x y is h = rw is h

mark_unlinked : (x : Lexeme) → x ≡ Lexeme.mark mark.LeftParen → links false (terminal_of x) ≡ false
mark_unlinked x is = rw is

plain_new : (x : Lexeme) → x ≡ Lexeme.reserved keyword.New → Unprefixed x
plain_new x is = rw is (refl, refl)

unlinked_by : (with_calls : Bool) (k : Terminal) → links true k ≡ false → links with_calls k ≡ false
unlinked_by true k h = h
unlinked_by false k h = unlinked_more k h

-- a link of the chain
link_chains : (with_in with_calls : Bool) (i : Symbols) (a tree : Expr) (base da d : ℕ) (ea : Bool) (j r : Symbols) (fuel room : ℕ) → Reads with_in base a da ea i j
    → chain_level with_calls ≤ base → links with_calls (next_of j) ≡ true → length r < length j → da ≤ room → length i ≤ suc fuel
    → link (expr fuel) room (line_of i) (a, da) j ≡ Some ((tree, d), r) → Chains with_in with_calls i tree d r fuel room
link_chains with_in with_calls i a tree base da d ea j r fuel room h high is less fits short found =
    let c = h.chains with_calls high fuel room fits short in
    (c.0 - 1, omega (arith, c.1), c.2 ∙ chain_links (expr fuel) with_calls room (line_of i) c.0 (a, da) (tree, d) j r is found (omega (arith, c.1)))

-- an operator and what is on its right
joint_climbs : (with_in : Bool) (i : Symbols) (a tree : Expr) (least da d : ℕ) (ea : Bool) (t : Symbol) (j r : Symbols) (lower fuel room : ℕ)
    → Reads with_in least a da ea i (t ∷ j) → Follows with_in least ea (t ∷ j) → lower ≤ binds (joint_of with_in t.lexeme) → lower ≤ least → lower ≤ 14
    → length r < length j + 1 → da ≤ room → length i ≤ suc fuel
    → joined (expr fuel) with_in room (line_of i) (a, da) (t ∷ j) ≡ Some ((tree, d), r) → Climbs with_in i tree d r lower fuel room
joint_climbs with_in i a tree least da d ea t j r lower fuel room h f low le small less fits short found =
    let c = h.levels f lower fuel room le small fits short in
    (c.0 - 1, omega (arith, c.1), c.2 ∙ climbs (expr fuel) with_in lower room (line_of i) c.0 (a, da) (tree, d) t j r low found (omega (arith, c.1)))

-- an expression that a joint made
joint_reads : (with_in : Bool) (least : ℕ) (tree : Expr) (d : ℕ) (ends : Bool) (i r : Symbols) → least ≤ 14 → is_target tree ≡ false
    → (Follows with_in least ends r → (lower fuel room : ℕ) → lower ≤ least → d ≤ room → length i ≤ suc fuel → Climbs with_in i tree d r lower fuel room)
    → Reads with_in least tree d ends i r
joint_reads with_in least tree d ends i r low untargeted c = record {
  chains = λ with_calls h. absurd (omega (arith, h, chain_level_high with_calls));
  targets = λ is. absurd (never (sym is ∙ untargeted));
  levels = λ f lower fuel room under small fits short. c f lower fuel room under fits short;
}

-- the right side of a joint, at level 2
pub right_side : (with_in : Bool) (b : Expr) (db : ℕ) (eb : Bool) (j r : Symbols) (fuel room : ℕ) → Spells with_in 2 b db eb j r → Reads with_in 2 b db eb j r
    → strength with_in eb r ≤ 1 → db ≤ room → length j ≤ fuel → expr fuel with_in 2 room j ≡ Some ((b, db), r)
right_side with_in b db eb j r fuel room s h one fits short =
    let f : Follows with_in 2 eb r = record { tight = omega arith; low = λ three. one; loose = omega arith } in
    whole with_in 2 b db eb j r 2 fuel room s h f (omega arith) (omega arith) (omega (arith, weak with_in eb r)) fits short

-- a whole expression, after which nothing goes on
pub inside : (with_in : Bool) (a : Expr) (d : ℕ) (e : Bool) (j r : Symbols) (fuel room : ℕ) → Spells with_in 1 a d e j r → Reads with_in 1 a d e j r
    → strength with_in e r ≡ 0 → d ≤ room → length j ≤ fuel → expr fuel with_in 1 room j ≡ Some ((a, d), r)
inside with_in a d e j r fuel room s h none fits short =
    let f : Follows with_in 1 e r = record { tight = omega (arith, none); low = λ three. omega (arith, none); loose = omega (arith, none) } in
    whole with_in 1 a d e j r 1 fuel room s h f (omega arith) (omega arith) (omega (arith, weak with_in e r, none)) fits short

-- ---- operators between values

pub comma_reads : (with_in : Bool) (least : ℕ) (a b : Expr) (da db : ℕ) (ea eb : Bool) (t : Symbol) (i j r : Symbols) → least ≤ 1
    → Spells with_in 1 a da ea i (t ∷ j) → Reads with_in 1 a da ea i (t ∷ j) → joint_of with_in t.lexeme ≡ joint.Comma → Spells with_in 2 b db eb j r → Reads with_in 2 b db eb j r
    → Reads with_in least (at i (node.Comma a b)) (max da db + 1) eb i r
comma_reads with_in least a b da db ea eb t i j r low sa ha is sb hb =
    joint_reads with_in least (at i (node.Comma a b)) (max da db + 1) eb i r (omega arith) (ap is_target_node (node.outs-Comma a b)) (λ f lower fuel room le fits short.
    let e : strength with_in ea (t ∷ j) ≡ 1 = joint_strength with_in ea t j joint.Comma is (omega arith) in
    let fa : Follows with_in 1 ea (t ∷ j) = record { tight = omega (arith, e); low = λ three. omega (arith, e); loose = omega (arith, e) } in
    let found = right_side with_in b db eb j r fuel (room - 1) sb hb (omega (arith, f.tight, low)) (omega (arith, fits)) (omega (arith, shorter (past sa), short)) in
    joint_climbs with_in i a (at i (node.Comma a b)) 1 da (max da db + 1) ea t j r lower fuel room ha fa (rw is (omega (arith, le, low))) (omega (arith, le, low)) (omega (arith, le, low)) (omega (arith, shorter (past sb)))
    (omega (arith, fits)) short (joined_comma (expr fuel) with_in room (line_of i) (a, da) (b, db) t j r is found (omega (arith, fits))))

pub assign_reads : (with_in : Bool) (least : ℕ) (op : Option BinaryOp) (a b : Expr) (da db : ℕ) (ea eb : Bool) (t : Symbol) (i j r : Symbols) → least ≤ 2
    → Spells with_in 16 a da ea i (t ∷ j) → Reads with_in 16 a da ea i (t ∷ j) → is_target a ≡ true → joint_of with_in t.lexeme ≡ joint.Assign op
    → Spells with_in 2 b db eb j r → Reads with_in 2 b db eb j r → Reads with_in least (at i (node.Assign op a b)) (max da db + 1) eb i r
assign_reads with_in least op a b da db ea eb t i j r low sa ha target is sb hb =
    joint_reads with_in least (at i (node.Assign op a b)) (max da db + 1) eb i r (omega arith) (ap is_target_node (node.outs-Assign op a b)) (λ f lower fuel room le fits short.
    let e : strength with_in ea (t ∷ j) ≡ 2 = joint_strength with_in ea t j (joint.Assign op) is (omega arith) in
    let fa : Follows with_in 16 ea (t ∷ j) = record { tight = omega (arith, e); low = λ three. absurd (omega arith); loose = omega (arith, e) } in
    let found = right_side with_in b db eb j r fuel (room - 1) sb hb (f.low (omega (arith, low))) (omega (arith, fits)) (omega (arith, shorter (past sa), short)) in
    joint_climbs with_in i a (at i (node.Assign op a b)) 16 da (max da db + 1) ea t j r lower fuel room ha fa (rw is (omega (arith, le, low))) (omega (arith, le, low)) (omega (arith, le, low))
    (omega (arith, shorter (past sb))) (omega (arith, fits)) short (joined_assign (expr fuel) with_in room (line_of i) op (a, da) (b, db) t j r is target found (omega (arith, fits))))

pub cond_reads : (with_in : Bool) (least : ℕ) (a b c : Expr) (da db dc : ℕ) (ea eb ec : Bool) (t u : Symbol) (i j k r : Symbols) → least ≤ 3
    → Spells with_in 4 a da ea i (t ∷ j) → Reads with_in 4 a da ea i (t ∷ j) → joint_of with_in t.lexeme ≡ joint.Question → Spells true 2 b db eb j (u ∷ k) → Reads true 2 b db eb j (u ∷ k)
    → u.lexeme ≡ Lexeme.mark mark.Colon → Spells with_in 2 c dc ec k r → Reads with_in 2 c dc ec k r → Reads with_in least (at i (node.Cond a b c)) (max da (max db dc) + 1) ec i r
cond_reads with_in least a b c da db dc ea eb ec t u i j k r low sa ha is sb hb is_u sc hc =
    joint_reads with_in least (at i (node.Cond a b c)) (max da (max db dc) + 1) ec i r (omega arith) (ap is_target_node (node.outs-Cond a b c)) (λ f lower fuel room le fits short.
    let e : strength with_in ea (t ∷ j) ≡ 3 = joint_strength with_in ea t j joint.Question is (omega arith) in
    let fa : Follows with_in 4 ea (t ∷ j) = record { tight = omega (arith, e); low = λ three. absurd (omega arith); loose = omega (arith, e) } in
    let found_b = right_side true b db eb j (u ∷ k) fuel (room - 1) sb hb (omega (arith, closed true eb mark.Colon u k is_u refl)) (omega (arith, fits)) (omega (arith, shorter (past sa), short)) in
    let found_c = right_side with_in c dc ec k r fuel (room - 1) sc hc (f.low (omega (arith, low))) (omega (arith, fits)) (omega (arith, shorter (past sa), shorter (past sb), short)) in
    joint_climbs with_in i a (at i (node.Cond a b c)) 4 da (max da (max db dc) + 1) ea t j r lower fuel room ha fa (rw is (omega (arith, le, low))) (omega (arith, le, low)) (omega (arith, le, low))
    (omega (arith, shorter (past sb), shorter (past sc))) (omega (arith, fits)) short
    (joined_question (expr fuel) with_in room (line_of i) (a, da) (at i (node.Cond a b c), max da (max db dc) + 1) t j r is
    (conditioned (expr fuel) with_in room (line_of i) (a, da) (b, db) (c, dc) u j k r found_b is_u found_c (omega (arith, fits)))))

pub logical_reads : (with_in : Bool) (least : ℕ) (op : LogicalOp) (a b : Expr) (da db : ℕ) (ea eb : Bool) (t : Symbol) (i j r : Symbols) → least ≤ logical_level op
    → Spells with_in (logical_level op) a da ea i (t ∷ j) → Reads with_in (logical_level op) a da ea i (t ∷ j) → joint_of with_in t.lexeme ≡ joint.Logical op
    → Spells with_in (logical_level op + 1) b db eb j r → Reads with_in (logical_level op + 1) b db eb j r → Reads with_in least (at i (node.Logical op a b)) (max da db + 1) eb i r
logical_reads with_in least op a b da db ea eb t i j r low sa ha is sb hb =
    let bounds = logical_bounds op in
    joint_reads with_in least (at i (node.Logical op a b)) (max da db + 1) eb i r (omega (arith, bounds.1)) (ap is_target_node (node.outs-Logical op a b)) (λ f lower fuel room le fits short.
    let e : strength with_in ea (t ∷ j) ≡ logical_level op = joint_strength with_in ea t j (joint.Logical op) is (omega (arith, bounds.0)) in
    let fa : Follows with_in (logical_level op) ea (t ∷ j) = record { tight = omega (arith, e); low = λ three. absurd (omega (arith, bounds.0)); loose = omega (arith, e, bounds.1) } in
    let fb : Follows with_in (logical_level op + 1) eb r = record { tight = omega (arith, f.tight); low = λ three. absurd (omega (arith, bounds.0)); loose = f.loose } in
    let found : expr fuel with_in (logical_level op + 1) (room - 1) j ≡ Some ((b, db), r) =
    whole with_in (logical_level op + 1) b db eb j r (logical_level op + 1) fuel (room - 1) sb hb fb (omega arith) (omega (arith, bounds.1)) (omega (arith, weak with_in eb r, f.tight, low)) (omega (arith, fits))
    (omega (arith, shorter (past sa), short)) in
    joint_climbs with_in i a (at i (node.Logical op a b)) (logical_level op) da (max da db + 1) ea t j r lower fuel room ha fa (rw is (omega (arith, le, low))) (omega (arith, le, low)) (omega (arith, le, low, bounds.1))
    (omega (arith, shorter (past sb))) (omega (arith, fits)) short (joined_logical (expr fuel) with_in room (line_of i) op (a, da) (b, db) t j r is found (omega (arith, fits))))

pub binary_reads : (with_in : Bool) (least : ℕ) (op : BinaryOp) (a b : Expr) (da db : ℕ) (ea eb : Bool) (t : Symbol) (i j r : Symbols) → least ≤ binary_level op
    → Spells with_in (binary_level op) a da ea i (t ∷ j) → Reads with_in (binary_level op) a da ea i (t ∷ j) → joint_of with_in t.lexeme ≡ joint.Binary op
    → Spells with_in (binary_level op + 1) b db eb j r → Reads with_in (binary_level op + 1) b db eb j r → Reads with_in least (at i (node.Binary op a b)) (max da db + 1) eb i r
binary_reads with_in least op a b da db ea eb t i j r low sa ha is sb hb =
    let bounds = binary_bounds op in
    joint_reads with_in least (at i (node.Binary op a b)) (max da db + 1) eb i r (omega (arith, bounds.1)) (ap is_target_node (node.outs-Binary op a b)) (λ f lower fuel room le fits short.
    let e : strength with_in ea (t ∷ j) ≡ binary_level op = joint_strength with_in ea t j (joint.Binary op) is (omega (arith, bounds.0)) in
    let fa : Follows with_in (binary_level op) ea (t ∷ j) = record { tight = omega (arith, e); low = λ three. absurd (omega (arith, bounds.0)); loose = omega (arith, e, bounds.1) } in
    let fb : Follows with_in (binary_level op + 1) eb r = record { tight = omega (arith, f.tight); low = λ three. absurd (omega (arith, bounds.0)); loose = f.loose } in
    let found : expr fuel with_in (binary_level op + 1) (room - 1) j ≡ Some ((b, db), r) =
    whole with_in (binary_level op + 1) b db eb j r (binary_level op + 1) fuel (room - 1) sb hb fb (omega arith) (omega (arith, bounds.1)) (omega (arith, weak with_in eb r, f.tight, low)) (omega (arith, fits))
    (omega (arith, shorter (past sa), short)) in
    joint_climbs with_in i a (at i (node.Binary op a b)) (binary_level op) da (max da db + 1) ea t j r lower fuel room ha fa (rw is (omega (arith, le, low))) (omega (arith, le, low)) (omega (arith, le, low, bounds.1))
    (omega (arith, shorter (past sb))) (omega (arith, fits)) short (joined_binary (expr fuel) with_in room (line_of i) op (a, da) (b, db) t j r is found (omega (arith, fits))))

-- ---- operators before and after one value

pub unary_reads : (with_in : Bool) (least : ℕ) (op : UnaryOp) (a : Expr) (d : ℕ) (e : Bool) (t : Symbol) (j r : Symbols) → least ≤ 14 → prefix_of t.lexeme ≡ Some op
    → Spells with_in 14 a d e j r → Reads with_in 14 a d e j r → Reads with_in least (at (t ∷ j) (node.Unary op a)) (d + 1) e (t ∷ j) r
unary_reads with_in least op a d e t j r low is sa ha =
    operand_reads with_in least (at (t ∷ j) (node.Unary op a)) (d + 1) e (t ∷ j) r (omega arith) (ap is_target_node (node.outs-Unary op a)) (λ f fuel room fits short.
    let fa : Follows with_in 14 e r = record { tight = f.loose; low = λ three. absurd (omega arith); loose = f.loose } in
    prefixed_unary (expr fuel) (stmt fuel) with_in room t.line op (a, d) t j r is
    (whole with_in 14 a d e j r 14 fuel (room - 1) sa ha fa (omega arith) (omega arith) (omega (arith, binds_small (joint_of with_in (lexeme_of r)))) (omega (arith, fits)) (omega (arith, short))) (omega (arith, fits)))

pub before_reads : (with_in : Bool) (least : ℕ) (op : UpdateOp) (a : Expr) (d : ℕ) (e : Bool) (t : Symbol) (j r : Symbols) → least ≤ 14 → update_of t.lexeme ≡ Some op
    → Spells with_in 16 a d e j r → Reads with_in 16 a d e j r → is_target a ≡ true → Reads with_in least (at (t ∷ j) (node.Update op true a)) (d + 1) e (t ∷ j) r
before_reads with_in least op a d e t j r low is sa ha target =
    operand_reads with_in least (at (t ∷ j) (node.Update op true a)) (d + 1) e (t ∷ j) r (omega arith) (ap is_target_node (node.outs-Update op true a)) (λ f fuel room fits short.
    let fa : Follows with_in 16 e r = record { tight = omega (arith, f.loose); low = λ three. absurd (omega arith); loose = f.loose } in
    prefixed_update (expr fuel) (stmt fuel) with_in room t.line op (a, d) t j r (not_prefix t.lexeme op is) is
    (whole with_in 16 a d e j r 14 fuel (room - 1) sa ha fa (omega arith) (omega arith) (omega (arith, binds_small (joint_of with_in (lexeme_of r)))) (omega (arith, fits)) (omega (arith, short))) target (omega (arith, fits)))

pub after_reads : (with_in : Bool) (least : ℕ) (op : UpdateOp) (a : Expr) (d : ℕ) (e : Bool) (t : Symbol) (i r : Symbols) → least ≤ 15 → Reads with_in 16 a d e i (t ∷ r)
    → is_target a ≡ true → update_of t.lexeme ≡ Some op → t.after_break ≡ false → Reads with_in least (at i (node.Update op false a)) (d + 1) true i r
after_reads with_in least op a d e t i r low ha target is same =
    operand_reads with_in least (at i (node.Update op false a)) (d + 1) true i r (omega arith) (ap is_target_node (node.outs-Update op false a)) (λ f fuel room fits short.
    let c = ha.targets target fuel room (omega (arith, fits)) short in
    unprefixed (expr fuel) (stmt fuel) with_in room (line_of i) i c.0.0 c.0.1
    ∙ postfixed (expr fuel) (stmt fuel) with_in room (line_of i) op (a, d) t i r (chain_over with_in true i a d (t ∷ r) fuel room c.1 (update_unlinked t.lexeme op true is)) target is same (omega (arith, fits)))

-- ---- `new` without arguments

bare_plain : {with_in : Bool} {tree : Expr} {d : ℕ} {i r : Symbols} → BareNew with_in tree d i r → Unprefixed (lexeme_of i)
bare_plain (BareNew.new_chain with_in a d e t j r is_t ha) = rw is_t (refl, refl)
bare_plain (BareNew.new_new with_in a d t j r is_t ha) = rw is_t (refl, refl)

pub bare_untargeted : {with_in : Bool} {tree : Expr} {d : ℕ} {i r : Symbols} → BareNew with_in tree d i r → is_target tree ≡ false
bare_untargeted (BareNew.new_chain with_in a d e t j r is_t ha) = ap is_target_node (node.outs-New a [])
bare_untargeted (BareNew.new_new with_in a d t j r is_t ha) = ap is_target_node (node.outs-New a [])

pub bare_reads : (with_in : Bool) (least : ℕ) (a : Expr) (d : ℕ) (i r : Symbols) → least ≤ 16 → BareNew with_in a d i r → ReadsBare with_in a d i r → Reads with_in least a d false i r
bare_reads with_in least a d i r low b h =
    operand_reads with_in least a d false i r low (bare_untargeted b) (λ f fuel room fits short.
    operand_from with_in i a d r fuel room (bare_plain b) (h (unlinked with_in r f.loose) true fuel room fits short) f.loose)

new_bare : (with_in : Bool) (a : Expr) (d : ℕ) (t : Symbol) (j r : Symbols) → t.lexeme ≡ Lexeme.reserved keyword.New → links true (next_of r) ≡ false → (with_calls : Bool) (fuel room : ℕ) → d + 1 ≤ room
    → expr fuel with_in 18 (room - 1) j ≡ Some ((a, d), r)
    → chained (expr fuel) (stmt fuel) with_in with_calls room t.line (t ∷ j) ≡ Some ((at (t ∷ j) (node.New a []), d + 1), r)
new_bare with_in a d t j r is stop with_calls fuel room fits found =
    chained_from (expr fuel) (stmt fuel) with_in with_calls room t.line (at (t ∷ j) (node.New a []), d + 1) (t ∷ j) r
    (primary_new (expr fuel) (stmt fuel) with_in room t.line (at (t ∷ j) (node.New a []), d + 1) t j r is
    (newed_bare (expr fuel) with_in room t.line (a, d) j r found (no_call (next_of r) stop) (omega (arith, fits))))
    ∙ chain_stops (expr fuel) with_calls room t.line (length r) (at (t ∷ j) (node.New a []), d + 1) r (unlinked_by with_calls (next_of r) stop)

pub new_chain_reads : (with_in : Bool) (a : Expr) (d : ℕ) (e : Bool) (t : Symbol) (j r : Symbols) → t.lexeme ≡ Lexeme.reserved keyword.New → Spells with_in 18 a d e j r → Reads with_in 18 a d e j r
    → ReadsBare with_in (at (t ∷ j) (node.New a [])) (d + 1) (t ∷ j) r
new_chain_reads with_in a d e t j r is sa ha stop with_calls fuel room fits short =
    new_bare with_in a d t j r is stop with_calls fuel room fits (callee with_in a d e j r fuel (room - 1) sa ha (unlinked_more (next_of r) stop) (omega (arith, fits)) (omega (arith, short)))

pub new_new_reads : (with_in : Bool) (a : Expr) (d : ℕ) (t : Symbol) (j r : Symbols) → t.lexeme ≡ Lexeme.reserved keyword.New → BareNew with_in a d j r → ReadsBare with_in a d j r
    → ReadsBare with_in (at (t ∷ j) (node.New a [])) (d + 1) (t ∷ j) r
new_new_reads with_in a d t j r is b h stop with_calls fuel room fits short =
    let less = shorter (bare_past b) in
    new_bare with_in a d t j r is stop with_calls fuel room fits
    (nested fuel with_in 18 (room - 1) (omega (arith, less, short)) (omega (arith, bare_deep b, fits)) j ∙ level_chains (expr (fuel - 1)) (stmt (fuel - 1)) with_in (room - 1) j
    ∙ h stop false (fuel - 1) (room - 1) (omega (arith, fits)) (omega (arith, less, short)))

-- ---- chains

pub call_reads : (with_in : Bool) (least : ℕ) (a : Expr) (xs : List Expr) (da dx : ℕ) (ea : Bool) (t : Symbol) (i j r : Symbols) → least ≤ 17
    → Spells with_in 17 a da ea i (t ∷ j) → Reads with_in 17 a da ea i (t ∷ j) → t.lexeme ≡ Lexeme.mark mark.LeftParen → Arguments xs dx j r → ReadsArguments xs dx j r
    → Reads with_in least (at i (node.Call a xs)) (max da dx + 1) false i r
call_reads with_in least a xs da dx ea t i j r low sa ha is sx hx =
    chain_reads with_in least 17 (at i (node.Call a xs)) (max da dx + 1) i r low (omega arith) (chain_begun sa (omega arith)) (λ with_calls h fuel room fits short.
    link_chains with_in with_calls i a (at i (node.Call a xs)) 17 da (max da dx + 1) ea (t ∷ j) r fuel room ha h (call_links with_calls t.lexeme is (chain_level_calls with_calls h))
    (omega (arith, shorter (arguments_past sx))) (omega (arith, fits)) short
    (linked_call (expr fuel) room (line_of i) (a, da) xs dx t j r is (hx fuel room (omega (arith, fits)) (omega (arith, shorter (past sa), short))) (omega (arith, fits))))

pub member_reads : (with_in : Bool) (least base : ℕ) (a : Expr) (name : List ℕ) (d : ℕ) (e : Bool) (t u : Symbol) (i r : Symbols) → least ≤ base → 17 ≤ base
    → Spells with_in base a d e i (t ∷ u ∷ r) → Reads with_in base a d e i (t ∷ u ∷ r) → t.lexeme ≡ Lexeme.mark mark.Dot → word_text u.lexeme ≡ Some name
    → Reads with_in least (at i (node.Member a name)) (d + 1) false i r
member_reads with_in least base a name d e t u i r low high sa ha is is_u =
    chain_reads with_in least base (at i (node.Member a name)) (d + 1) i r low high (chain_begun sa high) (λ with_calls h fuel room fits short.
    link_chains with_in with_calls i a (at i (node.Member a name)) base d (d + 1) e (t ∷ u ∷ r) r fuel room ha h (mark_links with_calls t.lexeme _ is refl)
    (omega arith) (omega (arith, fits)) short (linked_member (expr fuel) room (line_of i) (a, d) name t u r is is_u (omega (arith, fits))))

pub index_reads : (with_in : Bool) (least base : ℕ) (a b : Expr) (da db : ℕ) (ea eb : Bool) (t u : Symbol) (i j r : Symbols) → least ≤ base → 17 ≤ base
    → Spells with_in base a da ea i (t ∷ j) → Reads with_in base a da ea i (t ∷ j) → t.lexeme ≡ Lexeme.mark mark.LeftBracket → Spells true 1 b db eb j (u ∷ r) → Reads true 1 b db eb j (u ∷ r)
    → u.lexeme ≡ Lexeme.mark mark.RightBracket → Reads with_in least (at i (node.Index a b)) (max da db + 1) false i r
index_reads with_in least base a b da db ea eb t u i j r low high sa ha is sb hb is_u =
    chain_reads with_in least base (at i (node.Index a b)) (max da db + 1) i r low high (chain_begun sa high) (λ with_calls h fuel room fits short.
    link_chains with_in with_calls i a (at i (node.Index a b)) base da (max da db + 1) ea (t ∷ j) r fuel room ha h (mark_links with_calls t.lexeme _ is refl)
    (omega (arith, shorter (past sb))) (omega (arith, fits)) short
    (linked_index (expr fuel) room (line_of i) (a, da) (b, db) t u j r is
    (inside true b db eb j (u ∷ r) fuel (room - 1) sb hb (closed true eb mark.RightBracket u r is_u refl) (omega (arith, fits)) (omega (arith, shorter (past sa), short))) is_u (omega (arith, fits))))

pub new_reads : (with_in : Bool) (least : ℕ) (a : Expr) (xs : List Expr) (da dx : ℕ) (ea : Bool) (t u : Symbol) (j k r : Symbols) → t.lexeme ≡ Lexeme.reserved keyword.New
    → Spells with_in 18 a da ea j (u ∷ k) → Reads with_in 18 a da ea j (u ∷ k) → u.lexeme ≡ Lexeme.mark mark.LeftParen → ReadsArguments xs dx k r
    → Reads with_in least (at (t ∷ j) (node.New a xs)) (max da dx + 1) false (t ∷ j) r
new_reads with_in least a xs da dx ea t u j k r is sa ha is_u hx =
    primary_reads with_in least (at (t ∷ j) (node.New a xs)) (max da dx + 1) (t ∷ j) r (plain_new t.lexeme is) (λ fuel room fits short.
    primary_new (expr fuel) (stmt fuel) with_in room t.line (at (t ∷ j) (node.New a xs), max da dx + 1) t j r is
    (newed_with (expr fuel) with_in room t.line (a, da) xs dx u j k r (callee with_in a da ea j (u ∷ k) fuel (room - 1) sa ha (mark_unlinked u.lexeme is_u) (omega (arith, fits)) (omega (arith, short))) is_u
    (hx fuel room (omega (arith, fits)) (omega (arith, shorter (past sa), short))) (omega (arith, fits))))
