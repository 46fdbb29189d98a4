-- The code of whole trees, by cases on their nodes. Its cases are those of the meaning.
use Rattle.std.specs.Prelude.{ℕ, ◌+◌, List, [], ◌∷◌, ◌++◌, length, map, codes, true, false, Option, Some, None, bytes_eq}
use Rattle.njs_tree.specs.declared.tree.Script.{Script}
use Rattle.njs_tree.specs.declared.tree.Item.{Item}
use Rattle.njs_tree.specs.declared.tree.Item.TheVariants as items
use Rattle.njs_tree.specs.declared.tree.Expr.{Expr}
use Rattle.njs_tree.specs.declared.tree.Stmt.{Stmt}
use Rattle.njs_tree.specs.declared.tree.ExprNode.TheOpen.{ExprNode-F, ForFirst-F, ForInHead-F, StmtNode-F, Case-F, Expr-F, FunctionTree-F, Stmt-F}
use Rattle.njs_tree.specs.declared.tree.ExprNode.TheFolds.{fold-Expr, fold-Stmt}
use Rattle.njs_code.specs.declared.op.Kind.TheVariants as kind
use Rattle.njs_code.specs.declared.code.Code.{Code}
use Rattle.njs_meaning.specs.Places.{Bindings, Around, assignable}
use Rattle.njs_meaning.specs.Functions.{scope_names, each_once}
use Rattle.njs_meaning.specs.Parts.{Declared, Part, leaf, one, two, three, four, each, held, each_named, each_held, each_named_held, with_vars, with_declaration, without_declared}
use Rattle.njs_meaning.specs.Meaning.{Made, declared_as}
use Rattle.njs_simul.specs.Emission as emit
use Rattle.njs_simul.specs.Emission.{Here, Emits, op, deeper, Coded, value, value_size}
use Rattle.njs_simul.specs.EmissionOfStatements as step
use Rattle.njs_simul.specs.EmissionOfStatements.{CodedStatement, CodedPart, CodedBranch, CodedFunction, slots_of, at_start, declared, in_turn, function_code}

-- a function, by what stands around it
abbrev pub Placed : Type 0
Placed = Around → CodedFunction

abbrev pub Of_expression : Type 0
Of_expression = Part Placed Coded

abbrev pub Of_statement : Type 0
Of_statement = Part Placed CodedStatement

abbrev pub Of_first : Type 0
Of_first = Part Placed CodedPart

abbrev pub Of_branch : Type 0
Of_branch = Part Placed CodedBranch

abbrev pub Of_function : Type 0
Of_function = Part Placed Made

-- a part whose functions stand in further scopes
abbrev pub further_in : {A : Type 0} → (ℕ → Around → Around) → Part Placed A → Part Placed A
further_in scopes a = record {
  size = a.size;
  functions = λ first. map (λ f around. f (scopes first around)) (a.functions first);
  declared = a.declared;
  vars = a.vars;
  names_arguments = a.names_arguments;
  means = a.means;
}

-- a function as an expression that has a name stands in a scope with that name
abbrev pub in_own_name : Option (List ℕ) → Around → Around
in_own_name None around = around
in_own_name (Some name) around = ((name, false) ∷ []) ∷ around

abbrev pub function_expression : Of_function → Of_expression
function_expression f = one (further_in (λ first. in_own_name (f.means first).name) f) emit.function

abbrev pub name_part : List ℕ → Of_expression
name_part text = record (leaf (emit.name text)) { names_arguments = bytes_eq text (codes "arguments") }

abbrev pub node_part : ExprNode-F Of_expression Of_first Of_expression Of_statement Of_branch Of_expression Of_function Of_statement → Of_expression
node_part (ExprNode-F.Comma a b) = two a b emit.comma
node_part (ExprNode-F.Assign op target value) = two target value (emit.assignment op)
node_part (ExprNode-F.Cond a b c) = three a b c emit.conditional
node_part (ExprNode-F.Logical op a b) = two a b (emit.either op)
node_part (ExprNode-F.Binary op a b) = two a b (emit.both op)
node_part (ExprNode-F.Unary op a) = one a (emit.sole op)
node_part (ExprNode-F.Update op prefix target) = one target (emit.stepping op prefix)
node_part (ExprNode-F.Call callee args) = two callee (each args) emit.calling
node_part (ExprNode-F.Member a name) = one a (λ e. emit.member e name)
node_part (ExprNode-F.Index a b) = two a b emit.index
node_part (ExprNode-F.New callee args) = two callee (each args) emit.making
node_part (ExprNode-F.Num n) = leaf (emit.constant (kind.Num n))
node_part (ExprNode-F.Str text) = leaf (emit.constant (kind.Str text))
node_part (ExprNode-F.Name text) = name_part text
node_part ExprNode-F.This = leaf (emit.constant kind.This)
node_part ExprNode-F.Null = leaf (emit.constant kind.Null)
node_part (ExprNode-F.Bool b) = leaf (emit.constant (kind.Bool b))
node_part (ExprNode-F.Array elements) = one (each_held elements) emit.array
node_part (ExprNode-F.Object properties) = one (each_named properties) emit.object
node_part (ExprNode-F.Function f) = function_expression f

abbrev pub expr_part : Expr-F Of_expression Of_first Of_expression Of_statement Of_branch Of_expression Of_function Of_statement → Of_expression
expr_part e = e.node

-- ---- functions

-- the names of the scope of a call
abbrev pub names_in : List (List ℕ) → Part Placed (List CodedStatement) → ℕ → List (List ℕ)
names_in params body first = scope_names params (body.declared (first + 1)) body.names_arguments body.vars

abbrev pub function_in : List (List ℕ) → Part Placed (List CodedStatement) → ℕ → Placed
function_in params body first around = record {
  around = around;
  code = function_code (length params) (names_in params body first) (body.declared (first + 1)) body.names_arguments (body.means (first + 1)) around;
}

abbrev pub in_call : List (List ℕ) → Part Placed (List CodedStatement) → ℕ → Placed → Placed
in_call params body first f around = f (assignable (names_in params body first) ∷ around)

abbrev pub function_of : Option (List ℕ) → List (List ℕ) → Part Placed (List CodedStatement) → Of_function
function_of name params body = record {
  size = 1 + body.size;
  functions = λ first. function_in params body first ∷ map (in_call params body first) (body.functions (first + 1));
  declared = λ first. [];
  vars = [];
  names_arguments = false;
  means = λ first. record { number = first; name = name; params = length params };
}

abbrev pub function_part : FunctionTree-F Of_expression Of_first Of_expression Of_statement Of_branch Of_expression Of_function Of_statement → Of_function
function_part f = function_of f.name f.params (each f.body)

-- ---- statements

abbrev pub declaring : List (List ℕ × Option Of_expression) → Of_first
declaring vs = with_vars (map (λ v. v.0) vs) (one (each_named_held vs) step.declaring)

abbrev pub first_part : ForFirst-F Of_expression Of_first Of_expression Of_statement Of_branch Of_expression Of_function Of_statement → Of_first
first_part (ForFirst-F.ForFirst::Var vs) = declaring vs
first_part (ForFirst-F.ForFirst::Expr a) = one a step.evaluate

-- a name that is assigned to takes no tick of its own
abbrev pub bare_name : List ℕ → Coded
bare_name text = record { form = emit.IsName text; size = 0; target = step.nothing }

abbrev pub head_part : ForInHead-F Of_expression Of_first Of_expression Of_statement Of_branch Of_expression Of_function Of_statement → Of_expression
head_part (ForInHead-F.ForInHead::Var text) = with_vars (text ∷ []) (leaf (bare_name text))
head_part (ForInHead-F.Target target) = target

abbrev pub branch_part : Case-F Of_expression Of_first Of_expression Of_statement Of_branch Of_expression Of_function Of_statement → Of_branch
branch_part c = two (held c.test) (each c.body) (λ test body. record { test = test; body = body })

-- the functions of a `catch` stand in the scope with its name
abbrev pub caught_part : Option (List ℕ × List Of_statement) → Part Placed (Option (List ℕ × List CodedStatement))
caught_part None = leaf None
caught_part (Some caught) =
    one (further_in (λ first around. ((caught.0, true) ∷ []) ∷ around) (without_declared (each caught.1))) (λ body. Some (caught.0, body))

abbrev pub last_part : Option (List Of_statement) → Part Placed (Option (List CodedStatement))
last_part None = leaf None
last_part (Some last) = one (each last) Some

abbrev pub declaration : Made → CodedStatement
declaration made = step.empty

abbrev pub statement_part : StmtNode-F Of_expression Of_first Of_expression Of_statement Of_branch Of_expression Of_function Of_statement → Of_statement
statement_part (StmtNode-F.Block body) = one (each body) step.block
statement_part (StmtNode-F.StmtNode::Var vs) = one (declaring vs) step.statement_of
statement_part StmtNode-F.Empty = leaf step.empty
statement_part (StmtNode-F.StmtNode::Expr a) = one a (λ a. step.statement_of (step.evaluate a))
statement_part (StmtNode-F.If test body other) = three test body (held other) step.if_else
statement_part (StmtNode-F.Do body test) = two body test step.do_loop
statement_part (StmtNode-F.While test body) = two test body step.while_loop
statement_part (StmtNode-F.For first test update body) = four (held first) (held test) (held update) body step.for_loop
statement_part (StmtNode-F.ForIn head value body) = three head value body step.for_in
statement_part (StmtNode-F.Continue label) = leaf (step.ends_with (kind.Continue label))
statement_part (StmtNode-F.Break label) = leaf (step.ends_with (kind.Break label))
statement_part (StmtNode-F.Return value) = one (held value) step.return
statement_part (StmtNode-F.Throw value) = one value step.throw_value
statement_part (StmtNode-F.Switch value cases) = two value (each cases) step.switch
statement_part (StmtNode-F.Try body caught last) = three (each body) (caught_part caught) (last_part last) step.try_catch
statement_part (StmtNode-F.Label label body) = one body (step.labelled label)
statement_part (StmtNode-F.FunctionDecl f) = with_declaration f declared_as declaration

abbrev pub stmt_part : Stmt-F Of_expression Of_first Of_expression Of_statement Of_branch Of_expression Of_function Of_statement → Of_statement
stmt_part s = s.node

-- ---- whole trees

unfoldable pub expression : Expr → Of_expression
expression = fold-Expr Of_expression Of_first Of_expression Of_statement Of_branch Of_expression Of_function Of_statement node_part first_part head_part statement_part branch_part expr_part function_part stmt_part

unfoldable pub statement : Stmt → Of_statement
statement = fold-Stmt Of_expression Of_first Of_expression Of_statement Of_branch Of_expression Of_function Of_statement node_part first_part head_part statement_part branch_part expr_part function_part stmt_part

-- an item; what is exported stands below all that follows
abbrev pub item_part : Item → Of_first
item_part (items.Stmt s) = one (statement s) (λ a. record { size = a.size; emit = a.emit [] })
item_part (items.Export line a) = one (expression a) (λ a. record {
  size = value_size a + 1;
  emit = λ here rest. value a here (op kind.Nip (deeper 1 here) rest);
})

abbrev pub items_part : List Item → Part Placed (List CodedPart)
items_part [] = leaf []
items_part (i ∷ is) = two (item_part i) (items_part is) (λ a rest. a ∷ rest)

abbrev pub items_in_turn : List CodedPart → Emits
items_in_turn [] here rest = rest
items_in_turn (a ∷ more) here rest = a.emit here (items_in_turn more here rest)

abbrev pub body_of : List Declared → List CodedPart → Emits
body_of ds parts here rest =
    declared ds here (op kind.Undefined here (items_in_turn parts (deeper 1 here) (op kind.Return (deeper 1 here) rest)))

-- the names of a module's scope and of the outermost one
abbrev pub module_around : Part Placed (List CodedPart) → Bindings → Around
module_around part outermost =
    assignable (each_once [] (map (λ d. d.name) (part.declared 0) ++ part.vars)) ∷ outermost ∷ []

-- the code of a script, by the names of the outermost scope
abbrev pub code_of : Script → Bindings → Code
code_of script outermost =
    let part = items_part script.items in
    let around = module_around part outermost in
    record {
      functions = map (λ f. (f around).code) (part.functions 0);
      body = record { params = 0; builds = true; slots = slots_of around; ops = body_of (part.declared 0) (part.means 0) (at_start around) [] };
    }
