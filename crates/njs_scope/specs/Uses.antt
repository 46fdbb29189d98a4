-- The scopes that begin in each part of a script, and where the names stand that it uses (ECMA-262 5.1 §10.2, §10.5, §12.14, §13).
use Rattle.std.specs.Prelude.{ℕ, ◌+◌, List, [], ◌∷◌, ◌++◌, map, length, true, false, Option, Some, None, codes, bytes_eq}
use Rattle.njs_tree.specs.declared.tree.Expr.{Expr}
use Rattle.njs_tree.specs.declared.tree.Stmt.{Stmt}
use Rattle.njs_tree.specs.declared.tree.Case.{Case}
use Rattle.njs_tree.specs.declared.tree.FunctionTree.{FunctionTree}
use Rattle.njs_tree.specs.declared.tree.ForFirst.{ForFirst}
use Rattle.njs_tree.specs.declared.tree.ForInHead.{ForInHead}
use Rattle.njs_tree.specs.declared.tree.Item.{Item}
use Rattle.njs_tree.specs.declared.tree.Item.TheVariants as items
use Rattle.njs_tree.specs.declared.tree.ExprNode.TheOpen.{ExprNode-F, ForFirst-F, ForInHead-F, StmtNode-F, Case-F, Expr-F, FunctionTree-F, Stmt-F}
use Rattle.njs_tree.specs.declared.tree.ExprNode.TheFolds.{fold-Expr, fold-Stmt, fold-Case, fold-FunctionTree, fold-ForFirst, fold-ForInHead}
use Rattle.njs_meaning.specs.declared.place.Place.{Place}
use Rattle.njs_meaning.specs.Places.{Bindings, Around, place_in, assignable}
use Rattle.njs_meaning.specs.Functions.{scope_names}
use Rattle.njs_meaning.specs.Parts.{Part, leaf, one, two, three, four, each, held, each_named, each_held, with_vars, with_declaration, without_declared}
use Rattle.njs_meaning.specs.Meaning.{Made, declared_as}

-- by the names of the scopes around a part: the places of the names that it uses, in order of the text, and the names of the
-- scopes that begin in it, as they begin, of two that begin together the outer first
pub record Uses : Type 0 where
  pub places : Around → List Place
  pub scopes : Around → List Bindings

abbrev pub none : Uses
none = record { places = λ around. []; scopes = λ around. [] }

abbrev pub both : Uses → Uses → Uses
both a b = record { places = λ around. a.places around ++ b.places around; scopes = λ around. a.scopes around ++ b.scopes around }

abbrev pub all : List Uses → Uses
all [] = none
all (u ∷ us) = both u (all us)

abbrev pub if_any : Option Uses → Uses
if_any None = none
if_any (Some u) = u

abbrev pub all_held : List (Option Uses) → Uses
all_held [] = none
all_held (u ∷ us) = both (if_any u) (all_held us)

abbrev pub all_named : List (List ℕ × Uses) → Uses
all_named [] = none
all_named (p ∷ ps) = both p.1 (all_named ps)

-- a name that is read or assigned
abbrev pub use_of : List ℕ → Uses
use_of name = record { places = λ around. place_in name around ∷ []; scopes = λ around. [] }

-- a name that is declared is used where it has a value
abbrev pub declared_with : List ℕ × Option Uses → Uses
declared_with (name, None) = none
declared_with (name, Some u) = both (use_of name) u

-- a part in a scope of its own
abbrev pub in_scope : Bindings → Uses → Uses
in_scope names u = record { places = λ around. u.places (names ∷ around); scopes = λ around. names ∷ u.scopes (names ∷ around) }

abbrev pub Of_part : Type 0
Of_part = Part (Unit {0}) Uses

-- a function, with its own name
pub record Own : Type 0 where
  pub made : Made
  pub uses : Uses

abbrev pub Of_function : Type 0
Of_function = Part (Unit {0}) Own

abbrev pub all_of : List Of_part → Of_part
all_of parts = one (each parts) all

abbrev pub held_of : Option Of_part → Of_part
held_of part = one (held part) if_any

-- a function expression with a name stands in a scope with that name, which can't be assigned
abbrev pub in_own_name : Option (List ℕ) → Uses → Uses
in_own_name None u = u
in_own_name (Some name) u = in_scope ((name, false) ∷ []) u

abbrev pub function_expression : Own → Uses
function_expression f = in_own_name f.made.name f.uses

abbrev pub name_part : List ℕ → Of_part
name_part text = record (leaf (use_of text)) { names_arguments = bytes_eq text (codes "arguments") }

abbrev pub node_part : ExprNode-F Of_part Of_part Of_part Of_part Of_part Of_part Of_function Of_part → Of_part
node_part (ExprNode-F.Comma a b) = two a b both
node_part (ExprNode-F.Assign op target value) = two target value both
node_part (ExprNode-F.Cond a b c) = three a b c (λ a b c. both a (both b c))
node_part (ExprNode-F.Logical op a b) = two a b both
node_part (ExprNode-F.Binary op a b) = two a b both
node_part (ExprNode-F.Unary op a) = a
node_part (ExprNode-F.Update op prefix target) = target
node_part (ExprNode-F.Call callee args) = two callee (all_of args) both
node_part (ExprNode-F.Member a name) = a
node_part (ExprNode-F.Index a b) = two a b both
node_part (ExprNode-F.New callee args) = two callee (all_of args) both
node_part (ExprNode-F.Num n) = leaf none
node_part (ExprNode-F.Str text) = leaf none
node_part (ExprNode-F.Name text) = name_part text
node_part ExprNode-F.This = leaf none
node_part ExprNode-F.Null = leaf none
node_part (ExprNode-F.Bool b) = leaf none
node_part (ExprNode-F.Array elements) = one (each_held elements) all_held
node_part (ExprNode-F.Object properties) = one (each_named properties) all_named
node_part (ExprNode-F.Function f) = one f function_expression

abbrev pub expr_part : Expr-F Of_part Of_part Of_part Of_part Of_part Of_part Of_function Of_part → Of_part
expr_part e = e.node

-- ---- functions

abbrev pub function_of : Option (List ℕ) → List (List ℕ) → Of_part → Of_function
function_of name params body = record {
  size = 1 + body.size;
  functions = λ first. tt ∷ body.functions (first + 1);
  declared = λ first. [];
  vars = [];
  names_arguments = false;
  means = λ first. record {
    made = record { number = first; name = name; params = length params };
    uses = in_scope (assignable (scope_names params (body.declared (first + 1)) body.names_arguments body.vars)) (body.means (first + 1));
  };
}

abbrev pub function_part : FunctionTree-F Of_part Of_part Of_part Of_part Of_part Of_part Of_function Of_part → Of_function
function_part f = function_of f.name f.params (all_of f.body)

-- ---- statements

-- the parts of what is declared, each with its name
abbrev pub each_declared : List (List ℕ × Option Of_part) → Of_part
each_declared [] = leaf none
each_declared ((name, None) ∷ vs) = each_declared vs
each_declared ((name, Some a) ∷ vs) = two a (each_declared vs) (λ u us. both (both (use_of name) u) us)

abbrev pub declaring : List (List ℕ × Option Of_part) → Of_part
declaring vs = with_vars (map (λ v. v.0) vs) (each_declared vs)

abbrev pub first_part : ForFirst-F Of_part Of_part Of_part Of_part Of_part Of_part Of_function Of_part → Of_part
first_part (ForFirst-F.ForFirst::Var vs) = declaring vs
first_part (ForFirst-F.ForFirst::Expr a) = a

abbrev pub head_part : ForInHead-F Of_part Of_part Of_part Of_part Of_part Of_part Of_function Of_part → Of_part
head_part (ForInHead-F.ForInHead::Var text) = with_vars (text ∷ []) (leaf (use_of text))
head_part (ForInHead-F.Target target) = target

abbrev pub branch_part : Case-F Of_part Of_part Of_part Of_part Of_part Of_part Of_function Of_part → Of_part
branch_part c = two (held_of c.test) (all_of c.body) both

-- the block of a `catch` stands in a scope with its name
abbrev pub caught_part : Option (List ℕ × List Of_part) → Of_part
caught_part None = leaf none
caught_part (Some caught) = one (without_declared (all_of caught.1)) (in_scope ((caught.0, true) ∷ []))

abbrev pub last_part : Option (List Of_part) → Of_part
last_part None = leaf none
last_part (Some last) = all_of last

abbrev pub declared_function : Own → Uses
declared_function f = f.uses

abbrev pub statement_part : StmtNode-F Of_part Of_part Of_part Of_part Of_part Of_part Of_function Of_part → Of_part
statement_part (StmtNode-F.Block body) = all_of body
statement_part (StmtNode-F.StmtNode::Var vs) = declaring vs
statement_part StmtNode-F.Empty = leaf none
statement_part (StmtNode-F.StmtNode::Expr a) = a
statement_part (StmtNode-F.If test body other) = three test body (held_of other) (λ a b c. both a (both b c))
statement_part (StmtNode-F.Do body test) = two body test both
statement_part (StmtNode-F.While test body) = two test body both
statement_part (StmtNode-F.For first test update body) =
    four (held_of first) (held_of test) (held_of update) body (λ a b c d. both a (both b (both c d)))
statement_part (StmtNode-F.ForIn head value body) = three head value body (λ a b c. both a (both b c))
statement_part (StmtNode-F.Continue label) = leaf none
statement_part (StmtNode-F.Break label) = leaf none
statement_part (StmtNode-F.Return value) = held_of value
statement_part (StmtNode-F.Throw value) = value
statement_part (StmtNode-F.Switch value cases) = two value (all_of cases) both
statement_part (StmtNode-F.Try body caught last) = three (all_of body) (caught_part caught) (last_part last) (λ a b c. both a (both b c))
statement_part (StmtNode-F.Label label body) = body
statement_part (StmtNode-F.FunctionDecl f) = with_declaration f (λ own. declared_as own.made) declared_function

abbrev pub stmt_part : Stmt-F Of_part Of_part Of_part Of_part Of_part Of_part Of_function Of_part → Of_part
stmt_part s = s.node

-- ---- whole trees

unfoldable pub expression : Expr → Of_part
expression = fold-Expr Of_part Of_part Of_part Of_part Of_part Of_part Of_function Of_part node_part first_part head_part statement_part branch_part expr_part function_part stmt_part

unfoldable pub statement : Stmt → Of_part
statement = fold-Stmt Of_part Of_part Of_part Of_part Of_part Of_part Of_function Of_part node_part first_part head_part statement_part branch_part expr_part function_part stmt_part

unfoldable pub function : FunctionTree → Of_function
function = fold-FunctionTree Of_part Of_part Of_part Of_part Of_part Of_part Of_function Of_part node_part first_part head_part statement_part branch_part expr_part function_part stmt_part

unfoldable pub branch : Case → Of_part
branch = fold-Case Of_part Of_part Of_part Of_part Of_part Of_part Of_function Of_part node_part first_part head_part statement_part branch_part expr_part function_part stmt_part

unfoldable pub first : ForFirst → Of_part
first = fold-ForFirst Of_part Of_part Of_part Of_part Of_part Of_part Of_function Of_part node_part first_part head_part statement_part branch_part expr_part function_part stmt_part

unfoldable pub head : ForInHead → Of_part
head = fold-ForInHead Of_part Of_part Of_part Of_part Of_part Of_part Of_function Of_part node_part first_part head_part statement_part branch_part expr_part function_part stmt_part

abbrev pub item : Item → Of_part
item (items.Stmt s) = statement s
item (items.Export line a) = expression a

abbrev pub items_part : List Item → Of_part
items_part [] = leaf none
items_part (i ∷ is) = two (item i) (items_part is) both
