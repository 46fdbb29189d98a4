-- What a text spells is sound where nothing in it is refused: by induction on the grammar.
use Rattle.std.proofs.Common.{◌≡◌, ℕ, suc, ◌+◌, ◌≤◌, pos, List, [], ◌∷◌, ◌++◌, length, Bool, true, false, ◌&&◌, Option, Some, None, refl, ap, ◌∙◌, arith}
use Rattle.std.proofs.lemmas.Bool.{and_from}
use Rattle.njs_tree.specs.declared.token.EarlyFault.{EarlyFault}
use Rattle.njs_tree.specs.declared.token.Mark.{Mark}
use Rattle.njs_tree.specs.declared.tree.Expr.{Expr}
use Rattle.njs_tree.specs.declared.tree.ExprNode.TheVariants as node
use Rattle.njs_tree.specs.declared.tree.Stmt.{Stmt}
use Rattle.njs_tree.specs.declared.tree.StmtNode.TheVariants as step
use Rattle.njs_tree.specs.declared.tree.FunctionTree.{FunctionTree}
use Rattle.njs_tree.specs.declared.tree.ForFirst.{ForFirst}
use Rattle.njs_tree.specs.declared.tree.ForInHead.{ForInHead}
use Rattle.njs_tree.specs.declared.tree.Case.{Case}
use Rattle.njs_tree.specs.declared.tree.ExprNode.TheOpen.{ExprNode-F, StmtNode-F}
use Rattle.njs_tree.specs.declared.tree.ExprNode.TheShapes.{former-ExprNode-Array-0}
use Rattle.njs_tree.specs.Lexemes.{Lexeme, Symbol}
use Rattle.njs_tree.specs.Symbols.{line_of}
use Rattle.njs_tree.specs.Early.{of_loop, of_switch, of_label}
use Rattle.njs_tree.specs.Grammar.{at, stands, Ends, Names, Parameters, Spells, BareNew, Arguments, Listed, Elements, Properties, Function, Body, IsItem, Statements, Block, Grouped, Declares, Optional, First, Head, Cases, Catch, Stands}
use Rattle.njs_code.specs.Valid.{is_safe}
use Rattle.njs_simul.proofs.ValidTrees.{sound_expression, sound_head, sound_statement}
use Rattle.njs_simul.proofs.AcceptedNodes.{SoExpr, SoStmt, SoFunction, SoHead, SoExprs, SoElements, SoProperties, SoValues, SoStmts, SoCases, SoHeld, SoHeldFirst, SoCaught, SoLast, two_so, behind_so, exprs_more, elements_hole, elements_more, properties_more, values_bare, values_more, stmts_more, cases_more, node_at, step_at, function_so, case_so, first_var_so, first_expr_so, held_first_so, head_var_so, head_target_so}

-- ---- symbols, and how many are left

-- the greatest number that is safe
abbrev pub most : ℕ
most = 9007199254740991

abbrev pub AllSafe : List Symbol → Type 0
AllSafe [] = Unit {0}
AllSafe (t ∷ i) = ((n : ℕ) → t.lexeme ≡ Lexeme.number n → n ≤ most) × AllSafe i

-- at most so many symbols, and each number of them is safe
pub record Small (i : List Symbol) : Type 0 where
  pub count : length i ≤ most
  pub numbers : AllSafe i

-- symbols that begin with what is so, and those after them
abbrev pub Reads : List Symbol → List Symbol → Type 0 → Type 0
Reads i r P = Small i → (length r ≤ length i) × Small r × P

nothing : {r : List Symbol} → Reads r r (Unit {0})
nothing s = (omega arith, s, tt)

behind : (t : Symbol) (i : List Symbol) → Small (t ∷ i) → Small i
behind t i s = record { count = omega (arith, s.count); numbers = s.numbers.1 }

pub after : (t : Symbol) {i r : List Symbol} {P : Type 0} → Reads i r P → Reads (t ∷ i) r P
after t {i = i} f s = let g = f (behind t i s) in (omega (arith, g.0), g.1, g.2)

pub chain : {i j r : List Symbol} {P Q : Type 0} → Reads i j P → Reads j r Q → Reads i r (P × Q)
chain f g s = let a = f s in let b = g a.1 in (omega (arith, a.0, b.0), b.1, (a.2, b.2))

pub so : {i r : List Symbol} {P Q : Type 0} → Reads i r P → (P → Q) → Reads i r Q
so f g s = let a = f s in (a.0, a.1, g a.2)

-- up to a symbol, and that symbol
up_to : {i r : List Symbol} {P : Type 0} (t : Symbol) → Reads i (t ∷ r) P → Reads i r P
up_to t f = so (chain f (after t nothing)) (λ p. p.0)

-- up to what says nothing
pub and_then : {i j r : List Symbol} {P : Type 0} → Reads i j P → Reads j r (Unit {0}) → Reads i r P
and_then f g = so (chain f g) (λ p. p.0)

-- ---- numbers, and lengths of arrays

safe_number : (n : ℕ) → n ≤ most → is_safe (pos n) ≡ true
safe_number n h = grind arith

same_count : (xs : List (Option Expr)) → length (former-ExprNode-Array-0.map Expr Bool sound_expression xs) ≡ length xs
same_count [] = refl
same_count (None ∷ xs) = ap suc (same_count xs)
same_count (Some a ∷ xs) = ap suc (same_count xs)

-- ---- nodes

three_so : (xs ys zs : List EarlyFault) (p q r : Bool) → (xs ≡ [] → p ≡ true) → (ys ≡ [] → q ≡ true) → (zs ≡ [] → r ≡ true) → xs ++ ys ++ zs ≡ [] → (p && q && r) ≡ true
three_so xs ys zs p q r f g k h = two_so (xs ++ ys) zs (p && q) r (two_so xs ys p q f g) k h

four_so : (xs ys zs ws : List EarlyFault) (p q r t : Bool) → (xs ≡ [] → p ≡ true) → (ys ≡ [] → q ≡ true) → (zs ≡ [] → r ≡ true) → (ws ≡ [] → t ≡ true)
    → xs ++ ys ++ zs ++ ws ≡ [] → (p && q && r && t) ≡ true
four_so xs ys zs ws p q r t f g k m h = two_so (xs ++ ys ++ zs) ws (p && q && r) t (three_so xs ys zs p q r f g k) m h

name_so : (i : List Symbol) (text : List ℕ) → SoExpr (at i (node.Name text))
name_so i text = node_at i (node.Name text) (ExprNode-F.Name text) (node.rolls-Name text) (λ line around h. refl)

call_so : (i : List Symbol) (a : Expr) (xs : List Expr) → SoExpr a → SoExprs xs → SoExpr (at i (node.Call a xs))
call_so i a xs p q = node_at i (node.Call a xs) (ExprNode-F.Call a xs) (node.rolls-Call a xs) (λ line around. two_so _ _ (sound_expression a) _ (behind_so _ _ (sound_expression a) (p around)) (q around))

new_so : (i : List Symbol) (a : Expr) (xs : List Expr) → SoExpr a → SoExprs xs → SoExpr (at i (node.New a xs))
new_so i a xs p q = node_at i (node.New a xs) (ExprNode-F.New a xs) (node.rolls-New a xs) (λ line around. two_so _ _ (sound_expression a) _ (behind_so _ _ (sound_expression a) (p around)) (q around))

array_so : (i : List Symbol) (xs : List (Option Expr)) → length xs ≤ most → SoElements xs → SoExpr (at i (node.Array xs))
array_so i xs n p = node_at i (node.Array xs) (ExprNode-F.Array xs) (node.rolls-Array xs) (λ line around h.
    and_from (is_safe (pos (length (former-ExprNode-Array-0.map Expr Bool sound_expression xs)))) _ (ap (λ n. is_safe (pos n)) (same_count xs) ∙ safe_number (length xs) n) (p around h))

try_so : (line : ℕ) (body : List Stmt) (caught : Option (List ℕ × List Stmt)) (last : Option (List Stmt)) → SoStmts body → SoCaught caught → SoLast last → SoStmt (stands line (step.Try body caught last))
try_so line body caught last p q r = step_at line (step.Try body caught last) (StmtNode-F.Try body caught last) (step.rolls-Try body caught last) (λ line around. three_so _ _ _ _ _ _ (behind_so _ _ _ (p around)) (q around) (r around))

-- ---- ends, and names

pub ends : {on : Bool} {i r : List Symbol} → Ends on i r → Reads i r (Unit {0})
ends (Ends.written on t r is_t) = after t nothing
ends (Ends.missing on r miss) = nothing

names : {ns : List (List ℕ)} {i r : List Symbol} → Names ns i r → Reads i r (Unit {0})
names (Names.last name t u r is_t is_u) = after t (after u nothing)
names (Names.more name ns t u i r is_t is_u hp) = after t (after u (names hp))

parameters : {ns : List (List ℕ)} {i r : List Symbol} → Parameters ns i r → Reads i r (Unit {0})
parameters (Parameters.none t u r is_t is_u) = after t (after u nothing)
parameters (Parameters.some ns t i r is_t hp) = after t (names hp)

-- ---- trees

mutual
  pub spells : {with_in : Bool} {least : ℕ} {tree : Expr} {d : ℕ} {e : Bool} {i r : List Symbol} → Spells with_in least tree d e i r → Reads i r (SoExpr tree)
  spells (Spells.comma with_in least a b da db ea eb t i j r low ha is_t hb) =
      so (chain (spells ha) (after t (spells hb))) (λ p. node_at i (node.Comma a b) (ExprNode-F.Comma a b) (node.rolls-Comma a b) (λ line around. two_so _ _ (sound_expression a) (sound_expression b) (p.0 around) (p.1 around)))
  spells (Spells.assign with_in least op a b da db ea eb t i j r low ha target is_t hb) =
      so (chain (spells ha) (after t (spells hb))) (λ p. node_at i (node.Assign op a b) (ExprNode-F.Assign op a b) (node.rolls-Assign op a b)
      (λ line around. two_so _ _ (sound_expression a) (sound_expression b) (behind_so _ _ (sound_expression a) (p.0 around)) (p.1 around)))
  spells (Spells.cond with_in least a b c da db dc ea eb ec t u i j k r low ha is_t hb is_u hc) =
      so (chain (spells ha) (after t (chain (spells hb) (after u (spells hc))))) (λ p. node_at i (node.Cond a b c) (ExprNode-F.Cond a b c) (node.rolls-Cond a b c)
      (λ line around. three_so _ _ _ (sound_expression a) (sound_expression b) (sound_expression c) (p.0 around) (p.1.0 around) (p.1.1 around)))
  spells (Spells.logical with_in least op a b da db ea eb t i j r low ha is_t hb) =
      so (chain (spells ha) (after t (spells hb))) (λ p. node_at i (node.Logical op a b) (ExprNode-F.Logical op a b) (node.rolls-Logical op a b) (λ line around. two_so _ _ (sound_expression a) (sound_expression b) (p.0 around) (p.1 around)))
  spells (Spells.binary with_in least op a b da db ea eb t i j r low ha is_t hb) =
      so (chain (spells ha) (after t (spells hb))) (λ p. node_at i (node.Binary op a b) (ExprNode-F.Binary op a b) (node.rolls-Binary op a b) (λ line around. two_so _ _ (sound_expression a) (sound_expression b) (p.0 around) (p.1 around)))
  spells (Spells.unary with_in least op a d e t j r low is_t ha) =
      so (after t (spells ha)) (λ p. node_at (t ∷ j) (node.Unary op a) (ExprNode-F.Unary op a) (node.rolls-Unary op a) (λ line around. behind_so _ _ (sound_expression a) (p around)))
  spells (Spells.update_before with_in least op a d e t j r low is_t ha target) =
      so (after t (spells ha)) (λ p. node_at (t ∷ j) (node.Update op true a) (ExprNode-F.Update op true a) (node.rolls-Update op true a) (λ line around. behind_so _ _ (sound_expression a) (p around)))
  spells (Spells.update_after with_in least op a d e t i r low ha target is_t same) =
      so (up_to t (spells ha)) (λ p. node_at i (node.Update op false a) (ExprNode-F.Update op false a) (node.rolls-Update op false a) (λ line around. behind_so _ _ (sound_expression a) (p around)))
  spells (Spells.bare_new with_in least a d i r low ha) = bare ha
  spells (Spells.call with_in least a xs da dx ea t i j r low ha is_t hxs) = so (chain (spells ha) (after t (arguments hxs))) (λ p. call_so i a xs p.0 p.1)
  spells (Spells.member with_in least base a name d e t u i r low low2 low3 ha is_t is_u) =
      so (up_to u (up_to t (spells ha))) (λ p. node_at i (node.Member a name) (ExprNode-F.Member a name) (node.rolls-Member a name) (λ line around. p around))
  spells (Spells.index with_in least base a b da db ea eb t u i j r low low2 low3 ha is_t hb is_u) =
      so (chain (spells ha) (after t (up_to u (spells hb)))) (λ p. node_at i (node.Index a b) (ExprNode-F.Index a b) (node.rolls-Index a b) (λ line around. two_so _ _ (sound_expression a) (sound_expression b) (p.0 around) (p.1 around)))
  spells (Spells.new with_in least a xs da dx ea t u j k r low is_t ha is_u hxs) = so (after t (chain (spells ha) (after u (arguments hxs)))) (λ p. new_so (t ∷ j) a xs p.0 p.1)
  spells (Spells.parenthesized with_in least a d e t u j r is_t ha is_u) = after t (up_to u (spells ha))
  spells (Spells.number with_in least n t r is_t) =
      λ s. so (after t nothing) (λ p. node_at (t ∷ r) (node.Num (pos n)) (ExprNode-F.Num (pos n)) (node.rolls-Num (pos n)) (λ line around h. safe_number n (s.numbers.0 n is_t))) s
  spells (Spells.string with_in least text t r is_t) = so (after t nothing) (λ p. node_at (t ∷ r) (node.Str text) (ExprNode-F.Str text) (node.rolls-Str text) (λ line around h. refl))
  spells (Spells.name with_in least text t r is_t) = so (after t nothing) (λ p. name_so (t ∷ r) text)
  spells (Spells.this with_in least t r is_t) = so (after t nothing) (λ p. node_at (t ∷ r) node.This ExprNode-F.This node.rolls-This (λ line around h. refl))
  spells (Spells.null with_in least t r is_t) = so (after t nothing) (λ p. node_at (t ∷ r) node.Null ExprNode-F.Null node.rolls-Null (λ line around h. refl))
  spells (Spells.yes with_in least t r is_t) = so (after t nothing) (λ p. node_at (t ∷ r) (node.Bool true) (ExprNode-F.Bool true) (node.rolls-Bool true) (λ line around h. refl))
  spells (Spells.no with_in least t r is_t) = so (after t nothing) (λ p. node_at (t ∷ r) (node.Bool false) (ExprNode-F.Bool false) (node.rolls-Bool false) (λ line around h. refl))
  spells (Spells.array with_in least xs d t j r is_t hxs) =
      λ s. so (after t (elements hxs)) (λ p. let n = s.count in let m = p.0 in array_so (t ∷ j) xs (omega (arith, n, m)) p.1) s
  spells (Spells.object with_in least ps d t j r is_t hps) = so (after t (properties hps)) (λ p. node_at (t ∷ j) (node.Object ps) (ExprNode-F.Object ps) (node.rolls-Object ps) (λ line around. p around))
  spells (Spells.unnamed with_in least f d t j r is_t hf) = so (after t (function hf)) (λ p. node_at (t ∷ j) (node.Function f) (ExprNode-F.Function f) (node.rolls-Function f) p)
  spells (Spells.named with_in least name f d t u j r is_t is_u hf) = so (after t (after u (function hf))) (λ p. node_at (t ∷ u ∷ j) (node.Function f) (ExprNode-F.Function f) (node.rolls-Function f) p)

  bare : {with_in : Bool} {tree : Expr} {d : ℕ} {i r : List Symbol} → BareNew with_in tree d i r → Reads i r (SoExpr tree)
  bare (BareNew.new_chain with_in a d e t j r is_t ha) = so (after t (spells ha)) (λ p. new_so (t ∷ j) a [] p (λ around h. refl))
  bare (BareNew.new_new with_in a d t j r is_t ha) = so (after t (bare ha)) (λ p. new_so (t ∷ j) a [] p (λ around h. refl))

  arguments : {xs : List Expr} {d : ℕ} {i r : List Symbol} → Arguments xs d i r → Reads i r (SoExprs xs)
  arguments (Arguments.no_arguments t r is_t) = so (after t nothing) (λ p around h. refl)
  arguments (Arguments.some_arguments xs d i r hxs) = listed hxs

  listed : {xs : List Expr} {d : ℕ} {i r : List Symbol} → Listed xs d i r → Reads i r (SoExprs xs)
  listed (Listed.last_argument a d e t i r ha is_t) = so (up_to t (spells ha)) (λ p. exprs_more a [] p (λ around h. refl))
  listed (Listed.more_arguments a xs d dx e t i j r ha is_t hxs) = so (chain (spells ha) (after t (listed hxs))) (λ p. exprs_more a xs p.0 p.1)

  -- an element or a hole takes a symbol at least
  elements : {xs : List (Option Expr)} {d : ℕ} {i r : List Symbol} → Elements xs d i r → Reads i r ((length xs + length r ≤ length i) × SoElements xs)
  elements (Elements.no_element t r is_t) = so (after t nothing) (λ p. (omega arith, λ around h. refl))
  elements (Elements.hole xs d t j r is_t hxs) = so (after t (elements hxs)) (λ p. let n = p.0 in (omega (arith, n), elements_hole xs p.1))
  elements (Elements.last_element a d e t i r ha is_t) = λ s.
      let p = spells ha s in let n = p.0 in
      (omega (arith, n), behind t r p.1, (omega (arith, n), elements_more a [] p.2 (λ around h. refl)))
  elements (Elements.element a xs d dx e t i j r ha is_t hxs) = λ s.
      let p = spells ha s in let n = p.0 in
      let q = after t (elements hxs) p.1 in let m = q.2.0 in let k = q.0 in
      (omega (arith, n, k), q.1, (omega (arith, n, m), elements_more a xs p.2 q.2.1))

  properties : {ps : List (List ℕ × Expr)} {d : ℕ} {i r : List Symbol} → Properties ps d i r → Reads i r (SoProperties ps)
  properties (Properties.no_property t r is_t) = so (after t nothing) (λ p around h. refl)
  properties (Properties.last_property key a d e t u v i r is_t is_u ha is_v) = so (after t (after u (up_to v (spells ha)))) (λ p. properties_more key a [] p (λ around h. refl))
  properties (Properties.property key a ps d dp e t u v i j r is_t is_u ha is_v hps) = so (after t (after u (chain (spells ha) (after v (properties hps))))) (λ p. properties_more key a ps p.0 p.1)
  properties (Properties.last_name name t u r is_t is_u) = so (after t (after u nothing)) (λ p. properties_more name _ [] (name_so (t ∷ u ∷ r) name) (λ around h. refl))
  properties (Properties.property_name name ps dp t u j r is_t is_u hps) = so (after t (after u (properties hps))) (λ p. properties_more name _ ps (name_so (t ∷ u ∷ j) name) p)

  function : {name : Option (List ℕ)} {f : FunctionTree} {d : ℕ} {i r : List Symbol} → Function name f d i r → Reads i r (SoFunction f)
  function (Function.function name params body d t u i j r hp is_t hbody is_u) = so (chain (parameters hp) (after t (up_to u (body_reads hbody)))) (λ p. function_so name params body p.1)

  body_reads : {ss : List Stmt} {d : ℕ} {i r : List Symbol} → Body ss d i r → Reads i r (SoStmts ss)
  body_reads (Body.no_item r) = so nothing (λ p around h. refl)
  body_reads (Body.item s ss d ds i j r hs hss) = so (chain (item hs) (body_reads hss)) (λ p. stmts_more s ss p.0 p.1)

  pub item : {s : Stmt} {d : ℕ} {i r : List Symbol} → IsItem s d i r → Reads i r (SoStmt s)
  item (IsItem.statement s d i r hs) = statement hs
  item (IsItem.declaration name f d t u j r is_t is_u hf) = so (after t (after u (function hf))) (λ p. step_at t.line (step.FunctionDecl f) (StmtNode-F.FunctionDecl f) (step.rolls-FunctionDecl f) p)

  statements : {ss : List Stmt} {d : ℕ} {i r : List Symbol} → Statements ss d i r → Reads i r (SoStmts ss)
  statements (Statements.no_statement r) = so nothing (λ p around h. refl)
  statements (Statements.one_more s ss d ds i j r hs hss) = so (chain (statement hs) (statements hss)) (λ p. stmts_more s ss p.0 p.1)

  block : {ss : List Stmt} {d : ℕ} {i r : List Symbol} → Block ss d i r → Reads i r (SoStmts ss)
  block (Block.braced ss d t u i r is_t hss is_u) = after t (up_to u (statements hss))

  grouped : {a : Expr} {d : ℕ} {i r : List Symbol} → Grouped a d i r → Reads i r (SoExpr a)
  grouped (Grouped.grouped a d e t u i r is_t ha is_u) = after t (up_to u (spells ha))

  declares : {with_in : Bool} {vs : List (List ℕ × Option Expr)} {d : ℕ} {last : Option Bool} {i r : List Symbol} → Declares with_in vs d last i r → Reads i r (SoValues vs)
  declares (Declares.last_bare with_in name t r is_t) = so (after t nothing) (λ p. values_bare name [] (λ around h. refl))
  declares (Declares.last_value with_in name a d e t u i r is_t is_u ha) = so (after t (after u (spells ha))) (λ p. values_more name a [] p (λ around h. refl))
  declares (Declares.more_bare with_in name vs d last t u j r is_t is_u hvs) = so (after t (after u (declares hvs))) (λ p. values_bare name vs p)
  declares (Declares.more_value with_in name a vs d dv e last t u v i j r is_t is_u ha is_v hvs) = so (after t (after u (chain (spells ha) (after v (declares hvs))))) (λ p. values_more name a vs p.0 p.1)

  optional : {a : Option Expr} {d : ℕ} {m : Mark} {i r : List Symbol} → Optional a d m i r → Reads i r (SoHeld a)
  optional (Optional.left_out m t r is_t) = so (after t nothing) (λ p around h. refl)
  optional (Optional.given m a d e t i r ha is_t) = so (up_to t (spells ha)) (λ p around. p around)

  first_reads : {f : Option ForFirst} {d : ℕ} {i r : List Symbol} → First f d i r → Reads i r (SoHeldFirst f)
  first_reads (First.no_first t r is_t) = so (after t nothing) (λ p line around h. refl)
  first_reads (First.first_var vs d last t u i r is_t hvs is_u) = so (after t (up_to u (declares hvs))) (λ p. held_first_so _ (first_var_so vs p))
  first_reads (First.first_expr a d e t i r ha is_t) = so (up_to t (spells ha)) (λ p. held_first_so _ (first_expr_so a p))

  head_reads : {h : ForInHead} {d : ℕ} {i r : List Symbol} → Head h d i r → Reads i r (SoHead h)
  head_reads (Head.head_var name t u r is_t is_u) = so (after t (after u nothing)) (λ p. head_var_so name)
  head_reads (Head.head_target a d e i r ha target) = so (spells ha) (λ p. head_target_so a p)

  cases : {cs : List Case} {d : ℕ} {has_default : Bool} {i r : List Symbol} → Cases cs d has_default i r → Reads i r (SoCases cs)
  cases (Cases.no_case t r is_t) = so (after t nothing) (λ p around h. refl)
  cases (Cases.test_case a ss cs da ds dc e has_default t u i j k r is_t ha is_u hss hcs) =
      so (after t (chain (spells ha) (after u (chain (statements hss) (cases hcs))))) (λ p. cases_more _ cs (case_so (Some a) ss (λ around. p.0 around) p.1.0) p.1.1)
  cases (Cases.default_case ss cs ds dc t u j k r is_t is_u hss hcs) = so (after t (after u (chain (statements hss) (cases hcs)))) (λ p. cases_more _ cs (case_so None ss (λ around h. refl) p.0) p.1)

  catch : {name : List ℕ} {ss : List Stmt} {d : ℕ} {i r : List Symbol} → Catch name ss d i r → Reads i r (SoStmts ss)
  catch (Catch.caught name ss d t u v w i r is_t is_u is_v is_w hss) = after t (after u (after v (after w (block hss))))

  statement : {s : Stmt} {d : ℕ} {i r : List Symbol} → Stands s d i r → Reads i r (SoStmt s)
  statement (Stands.block ss d i r hss) = so (block hss) (λ p. step_at (line_of i) (step.Block ss) (StmtNode-F.Block ss) (step.rolls-Block ss) (λ line around. p around))
  statement (Stands.var vs d last t i k r is_t hvs ending) =
      so (after t (and_then (declares hvs) (ends ending))) (λ p. step_at t.line (step.Var vs) (StmtNode-F.StmtNode::Var vs) (step.rolls-Var vs) (λ line around. behind_so _ _ _ (p around)))
  statement (Stands.empty t r is_t) = so (after t nothing) (λ p. step_at t.line step.Empty StmtNode-F.Empty step.rolls-Empty (λ line around h. refl))
  statement (Stands.expr a d e i k r other unlabelled ha ending) =
      so (and_then (spells ha) (ends ending)) (λ p. step_at (line_of i) (step.Expr a) (StmtNode-F.StmtNode::Expr a) (step.rolls-Expr a) (λ line around. p around))
  statement (Stands.if_only a s da ds t i j r is_t ha hs not_on) =
      so (after t (chain (grouped ha) (statement hs))) (λ p. step_at t.line (step.If a s None) (StmtNode-F.If a s None) (step.rolls-If a s None)
      (λ line around. three_so _ _ _ (sound_expression a) (sound_statement s) true (p.0 around) (p.1 around) (λ h. refl)))
  statement (Stands.if_else a s o da ds dn t u i j k r is_t ha hs is_u ho) =
      so (after t (chain (grouped ha) (chain (statement hs) (after u (statement ho))))) (λ p. step_at t.line (step.If a s (Some o)) (StmtNode-F.If a s (Some o)) (step.rolls-If a s (Some o))
      (λ line around. three_so _ _ _ (sound_expression a) (sound_statement s) (sound_statement o) (p.0 around) (p.1.0 around) (p.1.1 around)))
  statement (Stands.do_while s a ds da t u i j k r is_t hs is_u ha ending) =
      so (after t (chain (statement hs) (after u (and_then (grouped ha) (ends ending))))) (λ p. step_at t.line (step.Do s a) (StmtNode-F.Do s a) (step.rolls-Do s a)
      (λ line around. two_so _ _ (sound_statement s) (sound_expression a) (p.0 (of_loop around)) (p.1 around)))
  statement (Stands.while a s da ds t i j r is_t ha hs) =
      so (after t (chain (grouped ha) (statement hs))) (λ p. step_at t.line (step.While a s) (StmtNode-F.While a s) (step.rolls-While a s)
      (λ line around. two_so _ _ (sound_expression a) (sound_statement s) (p.0 around) (p.1 (of_loop around))))
  statement (Stands.for f a b s df da db ds t u i j k l r is_t is_u hf ha hb hs) =
      so (after t (after u (chain (first_reads hf) (chain (optional ha) (chain (optional hb) (statement hs)))))) (λ p. step_at t.line (step.For f a b s) (StmtNode-F.For f a b s) (step.rolls-For f a b s)
      (λ line around. four_so _ _ _ _ _ _ _ (sound_statement s) (p.0 line around) (p.1.0 around) (p.1.1.0 around) (p.1.1.1 (of_loop around))))
  statement (Stands.for_in h a s dh da ds e t u v w i j k r is_t is_u hh is_v ha is_w hs) =
      so (after t (after u (chain (head_reads hh) (after v (chain (spells ha) (after w (statement hs))))))) (λ p. step_at t.line (step.ForIn h a s) (StmtNode-F.ForIn h a s) (step.rolls-ForIn h a s)
      (λ line around. three_so _ _ _ (sound_head h) (sound_expression a) (sound_statement s) (behind_so _ _ (sound_head h) (p.0 around)) (p.1.0 around) (p.1.1 (of_loop around))))
  statement (Stands.continue t j r is_t ending) = so (after t (ends ending)) (λ p. step_at t.line (step.Continue None) (StmtNode-F.Continue None) (step.rolls-Continue None) (λ line around h. refl))
  statement (Stands.continue_to label t u j r is_t same is_u ending) = so (after t (after u (ends ending))) (λ p. step_at t.line (step.Continue (Some label)) (StmtNode-F.Continue (Some label)) (step.rolls-Continue (Some label)) (λ line around h. refl))
  statement (Stands.break t j r is_t ending) = so (after t (ends ending)) (λ p. step_at t.line (step.Break None) (StmtNode-F.Break None) (step.rolls-Break None) (λ line around h. refl))
  statement (Stands.break_to label t u j r is_t same is_u ending) = so (after t (after u (ends ending))) (λ p. step_at t.line (step.Break (Some label)) (StmtNode-F.Break (Some label)) (step.rolls-Break (Some label)) (λ line around h. refl))
  statement (Stands.return t j r is_t ending) = so (after t (ends ending)) (λ p. step_at t.line (step.Return None) (StmtNode-F.Return None) (step.rolls-Return None) (λ line around h. refl))
  statement (Stands.return_value a d e t i k r is_t same ha ending) =
      so (after t (and_then (spells ha) (ends ending))) (λ p. step_at t.line (step.Return (Some a)) (StmtNode-F.Return (Some a)) (step.rolls-Return (Some a)) (λ line around. behind_so _ _ (sound_expression a) (p around)))
  statement (Stands.throw a d e t i k r is_t same ha ending) =
      so (after t (and_then (spells ha) (ends ending))) (λ p. step_at t.line (step.Throw a) (StmtNode-F.Throw a) (step.rolls-Throw a) (λ line around. p around))
  statement (Stands.switch a cs da dc has_default t u i j r is_t ha is_u hcs) =
      so (after t (chain (grouped ha) (after u (cases hcs)))) (λ p. step_at t.line (step.Switch a cs) (StmtNode-F.Switch a cs) (step.rolls-Switch a cs)
      (λ line around. two_so _ _ (sound_expression a) _ (p.0 around) (p.1 (of_switch around))))
  statement (Stands.try_catch ss cs name ds dc t i j r is_t hss hcs not_on) = so (after t (chain (block hss) (catch hcs))) (λ p. try_so t.line ss (Some (name, cs)) None p.0 (λ around. p.1 around) (λ around h. refl))
  statement (Stands.try_finally ss fs ds df t u i j r is_t hss is_u hfs) = so (after t (chain (block hss) (after u (block hfs)))) (λ p. try_so t.line ss None (Some fs) p.0 (λ around h. refl) (λ around. p.1 around))
  statement (Stands.try_both ss cs fs name ds dc df t u i j k r is_t hss hcs is_u hfs) =
      so (after t (chain (block hss) (chain (catch hcs) (after u (block hfs))))) (λ p. try_so t.line ss (Some (name, cs)) (Some fs) p.0 (λ around. p.1.0 around) (λ around. p.1.1 around))
  statement (Stands.label name s d t u j r is_t is_u hs loop) =
      so (after t (after u (statement hs))) (λ p. step_at t.line (step.Label name s) (StmtNode-F.Label name s) (step.rolls-Label name s) (λ line around. behind_so _ _ (sound_statement s) (p (of_label name around))))
