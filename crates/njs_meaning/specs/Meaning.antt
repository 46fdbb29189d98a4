-- What a script means (ECMA-262 5.1 §11 to §14): by cases on the nodes of its tree.
use Rattle.std.specs.Prelude.{ℕ, ◌+◌, ℤ, List, [], ◌∷◌, ◌++◌, length, map, codes, Bool, true, false, Option, Some, None, if◌then◌else◌, bytes_eq}
use Rattle.std.specs.Option.{option_map_or}
use Rattle.std.specs.Fmt.{decimal}
use Rattle.njs_tree.specs.declared.tree.BinaryOp.{BinaryOp}
use Rattle.njs_tree.specs.declared.tree.LogicalOp.{LogicalOp}
use Rattle.njs_tree.specs.declared.tree.UnaryOp.{UnaryOp}
use Rattle.njs_tree.specs.declared.tree.UnaryOp.TheVariants as sign
use Rattle.njs_tree.specs.declared.tree.UpdateOp.{UpdateOp}
use Rattle.njs_tree.specs.declared.tree.Script.{Script}
use Rattle.njs_tree.specs.declared.tree.Item.{Item}
use Rattle.njs_tree.specs.declared.tree.Item.TheVariants as items
use Rattle.njs_tree.specs.declared.tree.Expr.{Expr}
use Rattle.njs_tree.specs.declared.tree.Stmt.{Stmt}
use Rattle.njs_tree.specs.declared.tree.ExprNode.TheOpen.{ExprNode-F, ForFirst-F, ForInHead-F, StmtNode-F, Case-F, Expr-F, FunctionTree-F, Stmt-F}
use Rattle.njs_tree.specs.declared.tree.ExprNode.TheFolds.{fold-Expr, fold-Stmt}
use Rattle.njs_value.specs.declared.Class.TheVariants as class
use Rattle.njs_value.specs.declared.Desc.{Desc}
use Rattle.njs_props.specs.Names.{length_name}
use Rattle.njs_meaning.specs.declared.prototypes.Prototype.TheVariants as prototype
use Rattle.njs_meaning.specs.Primitives.{Undefined, Null, Truth, Number, Characters}
use Rattle.njs_meaning.specs.Values.{PlainValue, Simple, ObjectAt, is_same, given_length, stored_length, length_value}
use Rattle.njs_meaning.specs.PlainHeap.{Plain}
use Rattle.njs_meaning.specs.Objects.{define_at, with_new_object}
use Rattle.njs_meaning.specs.State.{State, Outcome, Gives, Throws, and_then}
use Rattle.njs_meaning.specs.Errors.{place_of}
use Rattle.njs_meaning.specs.Conversions.{to_boolean, to_number, to_text}
use Rattle.njs_meaning.specs.Running.{Calls, Context, Runs, charge, choose, changed, after, all_in_turn}
use Rattle.njs_meaning.specs.Scopes.{bound, unbound, fixed, next_scope, with_scope, assign_name, with_variable}
use Rattle.njs_meaning.specs.Members.{with_members, put_member, has_member, names_in}
use Rattle.njs_meaning.specs.References.{Reference, Of, Named, Member, Expression, value_of, assigned, deleted, this_of, is_unbound, evaluated}
use Rattle.njs_meaning.specs.Operations.{answered, binary, unary, stepped, leaves_out, type_of}
use Rattle.njs_meaning.specs.Completions.{Completion, Normal, Returned, Broken, Continued, Statement, and_on, in_turn, after_body, Test, goes_on, loop, caught_by, done_at_last, after_switch, returned}
use Rattle.njs_meaning.specs.Functions.{Function, made_in, with_declared, each_once}
use Rattle.njs_meaning.specs.Parts.{Declared, Part, leaf, one, two, three, four, each, held, each_named, each_held, each_named_held, with_vars, with_declaration, without_declared}

-- a value is what an expression is
abbrev pub given : Runs PlainValue → Expression
given run x s = and_then (run x s) (λ v s. Gives (Of v) s)

abbrev pub is_value : PlainValue → Expression
is_value v x s = Gives (Of v) s

-- ---- expressions

-- `a, b` (§11.14)
abbrev pub comma : Expression → Expression → Expression
comma a b = given (after (evaluated a) (λ v. evaluated b))

-- `a = b` (§11.13.1): what is assigned to comes first
abbrev pub assign : Expression → Expression → Expression
assign a b = given (after a (λ r. after (evaluated b) (assigned r)))

-- `a += b` and the like (§11.13.2): the old value is read before the right side
abbrev pub operate : BinaryOp → PlainValue → PlainValue → Runs PlainValue
operate op v w x s = binary x.calls.call op v w s

abbrev pub assign_by : BinaryOp → Expression → Expression → Expression
assign_by op a b = given (after a (λ r. after (value_of r) (λ v. after (evaluated b) (λ w. after (operate op v w) (assigned r)))))

abbrev pub assignment : Option BinaryOp → Expression → Expression → Expression
assignment None a b = assign a b
assignment (Some op) a b = assign_by op a b

-- `a ? b : c` (§11.12)
abbrev pub conditional : Expression → Expression → Expression → Expression
conditional a b c = given (after (evaluated a) (λ v x. choose (to_boolean v) (evaluated b x) (evaluated c x)))

-- `a || b`, `a && b` (§11.11)
abbrev pub either : LogicalOp → Expression → Expression → Expression
either op a b = given (after (evaluated a) (λ v x. choose (leaves_out op v) (Gives v) (evaluated b x)))

-- the operators of two values (§11.5 to §11.10)
abbrev pub both : BinaryOp → Expression → Expression → Expression
both op a b = given (after (evaluated a) (λ v. after (evaluated b) (operate op v)))

-- the operators of one value (§11.4): `delete` and `typeof` don't ask a name's or a member's value at once
abbrev pub operate_one : UnaryOp → PlainValue → Runs PlainValue
operate_one op v x s = unary x.calls.call op v s

abbrev pub type_of_reference : Reference → Runs PlainValue
type_of_reference r x s = if is_unbound r x s then type_of (Simple Undefined) s else and_then (value_of r x s) type_of

abbrev pub sole : UnaryOp → Expression → Expression
sole sign.Delete a = given (after a deleted)
sole sign.TypeOf a = given (after a type_of_reference)
sole op a = given (after (evaluated a) (operate_one op))

-- `++` and `--` (§11.3, §11.4.4, §11.4.5): the old number is given where they stand behind
abbrev pub step_to : Bool → UpdateOp → Reference → ℤ → Runs PlainValue
step_to prefix op r n x s =
    and_then (answered (stepped op n) s) (λ v s. and_then (assigned r v x s) (λ w s. Gives (if prefix then w else Simple (Number n)) s))

abbrev pub number_in : PlainValue → Runs ℤ
number_in v x s = to_number x.calls.call v s

abbrev pub stepping : UpdateOp → Bool → Expression → Expression
stepping op prefix a = given (after a (λ r. after (value_of r) (λ v. after (number_in v) (step_to prefix op r))))

-- `f(args)` (§11.2.3)
abbrev pub call_with : PlainValue → PlainValue → List PlainValue → Runs PlainValue
call_with f this args x s = x.calls.call f this args s

abbrev pub calling : Expression → List Expression → Expression
calling f args = given (after f (λ r. after (value_of r) (λ v. after (all_in_turn (map evaluated args)) (call_with v (this_of r)))))

-- `new f(args)` (§11.2.2)
abbrev pub construct_with : PlainValue → List PlainValue → Runs PlainValue
construct_with f args x s = x.calls.construct f args s

abbrev pub making : Expression → List Expression → Expression
making f args = given (after (evaluated f) (λ v. after (all_in_turn (map evaluated args)) (construct_with v)))

-- `a.name` and `a[b]` (§11.2.1): the base is tested after the key was evaluated, and before it becomes a text
abbrev pub member_of : PlainValue → List ℕ → Expression
member_of base name x s = and_then (with_members base (Gives base) s) (λ v s. Gives (Member v name) s)

abbrev pub member_by : PlainValue → PlainValue → Expression
member_by base key x s =
    and_then (with_members base (Gives base) s) (λ v s. and_then (to_text x.calls.call key s) (λ name s. Gives (Member v name) s))

abbrev pub member : Expression → List ℕ → Expression
member a name = after (evaluated a) (λ v. member_of v name)

abbrev pub index : Expression → Expression → Expression
index a b = after (evaluated a) (λ v. after (evaluated b) (member_by v))

-- `[a, , b]` (§11.1.4): the array is made first, and its length is set last
abbrev pub ordinary : PlainValue → Desc PlainValue
ordinary v = record { value = Some v; writable = Some true; enumerable = Some true; configurable = Some true }

abbrev pub with_element : ℕ → List ℕ → PlainValue → (State → Outcome PlainValue) → State → Outcome PlainValue
with_element made name v go s =
    changed made (define_at given_length stored_length length_value (Simple Undefined) is_same name (ordinary v) s.objects made) go s

abbrev pub with_elements : ℕ → ℕ → List (Option Expression) → Runs PlainValue → Runs PlainValue
with_elements made i [] go x s = go x s
with_elements made i (None ∷ rest) go x s = with_elements made (i + 1) rest go x s
with_elements made i (Some a ∷ rest) go x s =
    and_then (evaluated a x s) (λ v. with_element made (decimal i) v (with_elements made (i + 1) rest go x))

abbrev pub finished_array : ℕ → ℕ → Runs PlainValue
finished_array made n x s = and_then (put_member length_name (ObjectAt made) (length_value n) s) (λ v s. Gives (ObjectAt made) s)

abbrev pub array : List (Option Expression) → Expression
array elements x s =
    let made = length s.objects in
    given (with_elements made 0 elements (finished_array made (length elements))) x
    (record s { objects = with_new_object length_value class.Array (Some (record { 0 = place_of prototype.Array })) Plain s.objects })

-- `{key: value}` (§11.1.5): the object is made first
abbrev pub with_fields : ℕ → List (List ℕ × Expression) → Runs PlainValue → Runs PlainValue
with_fields made [] go x s = go x s
with_fields made (p ∷ ps) go x s = and_then (evaluated p.1 x s) (λ v. with_element made p.0 v (with_fields made ps go x))

abbrev pub object : List (List ℕ × Expression) → Expression
object ps x s =
    let made = length s.objects in
    given (with_fields made ps (λ x. Gives (ObjectAt made))) x
    (record s { objects = with_new_object length_value class.Object (Some (record { 0 = place_of prototype.Object })) Plain s.objects })

-- a function as an expression (§13): one with a name stands in a scope with that name, which can't be assigned
pub record Made : Type 0 where
  pub number : ℕ
  pub name : Option (List ℕ)
  pub params : ℕ

abbrev pub function_named : List ℕ → Made → Expression
function_named name made x s =
    let scope = next_scope s in
    and_then (made_in scope made.number made.params x (with_scope x.scope (fixed name (Simple Undefined) ∷ []) s))
    (λ f s. Gives (Of f) (record s { scopes = with_variable name f s.scopes scope.0 }))

abbrev pub function_without_name : Made → Expression
function_without_name made x s = given (made_in x.scope made.number made.params) x s

abbrev pub function : Made → Expression
function made = option_map_or (λ name. function_named name made) made.name (function_without_name made)

-- each expression takes a tick as it begins
abbrev pub begun : Expression → Expression
begun e x s = charge 1 (e x) s

-- ---- statements

-- `var name = value` (§12.2)
abbrev pub declare : List (List ℕ × Option Expression) → Runs Completion
declare [] x s = Gives Normal s
declare ((name, None) ∷ vs) x s = declare vs x s
declare ((name, Some a) ∷ vs) x s = and_then (evaluated a x s) (λ v s. and_then (assign_name name v x s) (λ w s. declare vs x s))

-- an expression as a statement (§12.4)
abbrev pub value_and_on : Expression → Runs Completion
value_and_on a x s = and_on (evaluated a x s)

-- `if` (§12.5)
abbrev pub optional : Option Statement → Runs Completion
optional None x s = Gives Normal s
optional (Some a) x s = a [] x s

abbrev pub if_else : Expression → Statement → Option Statement → Statement
if_else test body other labels x s = and_then (evaluated test x s) (λ v. choose (to_boolean v) (body [] x) (optional other x))

-- a test, which holds where there is none
abbrev pub tests : Expression → Context → Test
tests a x s = and_then (evaluated a x s) (λ v s. Gives (to_boolean v) s)

abbrev pub tests_if_any : Option Expression → Context → Test
tests_if_any None x s = goes_on s
tests_if_any (Some a) x s = tests a x s

abbrev pub does_if_any : Option Expression → Context → Test
does_if_any None x s = goes_on s
does_if_any (Some a) x s = and_then (evaluated a x s) (λ v. goes_on)

-- `do`, `while` and `for` (§12.6.1 to §12.6.3)
abbrev pub do_loop : Statement → Expression → Statement
do_loop body test labels x s = loop labels goes_on (body [] x) (tests test x) s

abbrev pub while_loop : Expression → Statement → Statement
while_loop test body labels x s = loop labels (tests test x) (body [] x) goes_on s

-- what stands first in the head of a `for`
abbrev pub First : Type 0
First = Runs Completion

abbrev pub first_of : Option First → Runs Completion
first_of None x s = Gives Normal s
first_of (Some first) x s = first x s

abbrev pub for_loop : Option First → Option Expression → Option Expression → Statement → Statement
for_loop first test update body labels x s =
    and_then (first_of first x s) (λ c. loop labels (tests_if_any test x) (body [] x) (does_if_any update x))

-- `for in` (§12.6.4): the names are listed at the start, and a name that isn't there any more has no turn
abbrev pub each_name : List (List ℕ) → PlainValue → Expression → Statement → List (List ℕ) → Runs Completion
each_name labels v head body [] x s = Gives Normal s
each_name labels v head body (name ∷ names) x s =
    if has_member name v s.objects then
    charge 1 (λ s.
    and_then (head x s) (λ r s. and_then (assigned r (Simple (Characters name)) x s) (λ w s.
    and_then (body [] x s) (λ c. after_body labels c (each_name labels v head body names x))))) s
    else each_name labels v head body names x s

abbrev pub list_names : List (List ℕ) → PlainValue → Expression → Statement → Runs Completion
list_names labels v head body x s =
    let names = names_in v s.objects in
    charge (length names) (each_name labels v head body names x) s

abbrev pub for_in : Expression → Expression → Statement → Statement
for_in head value body labels x s = and_then (evaluated value x s) (λ v. list_names labels v head body x)

-- `return` and `throw` (§12.9, §12.13)
abbrev pub value_or_undefined : Option Expression → Runs PlainValue
value_or_undefined None x s = Gives (Simple Undefined) s
value_or_undefined (Some a) x s = evaluated a x s

abbrev pub return : Option Expression → Statement
return a labels x s = and_then (value_or_undefined a x s) (λ v s. Gives (Returned v) s)

abbrev pub throw_value : Expression → Statement
throw_value a labels x s = and_then (evaluated a x s) (λ v s. Throws v s)

-- `switch` (§12.11): the tests are compared in order; from the case that is met on, else from `default` on, all bodies run
pub record Branch : Type 0 where
  pub test : Option Expression
  pub body : List Statement

abbrev pub bodies : List Branch → List Statement
bodies [] = []
bodies (b ∷ bs) = b.body ++ bodies bs

abbrev pub from_default : List Branch → List Statement
from_default [] = []
from_default (b ∷ bs) = option_map_or (λ test. from_default bs) b.test (bodies (b ∷ bs))

abbrev pub from_met : PlainValue → List Branch → List Statement → Runs (List Statement)
from_met v [] otherwise x s = Gives otherwise s
from_met v (b ∷ bs) otherwise x s =
    option_map_or (λ test. and_then (evaluated test x s) (λ w. choose (is_same v w) (Gives (bodies (b ∷ bs))) (from_met v bs otherwise x)))
    b.test (from_met v bs otherwise x s)

abbrev pub switch : Expression → List Branch → Statement
switch value branches labels x s =
    and_then (evaluated value x s) (λ v s.
    and_then (from_met v branches (from_default branches) x s) (λ run s.
    and_then (in_turn run x s) (λ c s. Gives (after_switch c) s)))

-- `try` (§12.14): the block of the `catch` stands in a scope with the thrown value's name
abbrev pub handler : List ℕ → List Statement → Context → PlainValue → State → Outcome Completion
handler name body x v s =
    in_turn body (record x { scope = next_scope s }) (with_scope x.scope (bound name v ∷ []) s)

abbrev pub with_handler : Option (List ℕ × List Statement) → Runs Completion → Runs Completion
with_handler None block x s = block x s
with_handler (Some caught) block x s = caught_by (handler caught.0 caught.1 x) (block x s)

abbrev pub with_last : Option (List Statement) → Runs Completion → Runs Completion
with_last None block x s = block x s
with_last (Some last) block x s = done_at_last (in_turn last x) (block x s)

abbrev pub try_catch : List Statement → Option (List ℕ × List Statement) → Option (List Statement) → Statement
try_catch body caught last labels = with_last last (with_handler caught (in_turn body))

abbrev pub labelled : List ℕ → Statement → Statement
labelled label body labels = body (label ∷ labels)

-- each statement takes a tick as it begins
abbrev pub begun_statement : Statement → Statement
begun_statement a labels x s = charge 1 (a labels x) s

-- ---- the nodes

-- parts of expressions and of statements; of a function what is made of it
abbrev pub Of_expression : Type 0
Of_expression = Part Function Expression

abbrev pub Of_statement : Type 0
Of_statement = Part Function Statement

abbrev pub Of_first : Type 0
Of_first = Part Function First

abbrev pub Of_branch : Type 0
Of_branch = Part Function Branch

abbrev pub Of_function : Type 0
Of_function = Part Function Made

-- a name, which may be `arguments`
abbrev pub name_part : List ℕ → Of_expression
name_part name = record (leaf (λ x s. Gives (Named name) s)) { names_arguments = bytes_eq name (codes "arguments") }

abbrev pub this_value : Expression
this_value x s = Gives (Of x.this) s

abbrev pub node_part : ExprNode-F Of_expression Of_first Of_expression Of_statement Of_branch Of_expression Of_function Of_statement → Of_expression
node_part (ExprNode-F.Comma a b) = two a b comma
node_part (ExprNode-F.Assign op target value) = two target value (assignment op)
node_part (ExprNode-F.Cond a b c) = three a b c conditional
node_part (ExprNode-F.Logical op a b) = two a b (either op)
node_part (ExprNode-F.Binary op a b) = two a b (both op)
node_part (ExprNode-F.Unary op a) = one a (sole op)
node_part (ExprNode-F.Update op prefix target) = one target (stepping op prefix)
node_part (ExprNode-F.Call callee args) = two callee (each args) calling
node_part (ExprNode-F.Member a name) = one a (λ e. member e name)
node_part (ExprNode-F.Index a b) = two a b index
node_part (ExprNode-F.New callee args) = two callee (each args) making
node_part (ExprNode-F.Num n) = leaf (is_value (Simple (Number n)))
node_part (ExprNode-F.Str text) = leaf (is_value (Simple (Characters text)))
node_part (ExprNode-F.Name name) = name_part name
node_part ExprNode-F.This = leaf this_value
node_part ExprNode-F.Null = leaf (is_value (Simple Null))
node_part (ExprNode-F.Bool b) = leaf (is_value (Simple (Truth b)))
node_part (ExprNode-F.Array elements) = one (each_held elements) array
node_part (ExprNode-F.Object properties) = one (each_named properties) object
node_part (ExprNode-F.Function f) = one f function

abbrev pub expr_part : Expr-F Of_expression Of_first Of_expression Of_statement Of_branch Of_expression Of_function Of_statement → Of_expression
expr_part e = one e.node begun

-- a function: its own names are not those of what stands around it, and it comes before the functions in it
abbrev pub function_in : Option (List ℕ) → List (List ℕ) → Part Function (List Statement) → ℕ → Function
function_in name params body first = record {
  name = name;
  params = params;
  declared = body.declared (first + 1);
  takes_arguments = body.names_arguments;
  vars = body.vars;
  body = in_turn (body.means (first + 1));
}

abbrev pub function_of : Option (List ℕ) → List (List ℕ) → Part Function (List Statement) → Of_function
function_of name params body = record {
  size = 1 + body.size;
  functions = λ first. function_in name params body first ∷ body.functions (first + 1);
  declared = λ first. [];
  vars = [];
  names_arguments = false;
  means = λ first. record { number = first; name = name; params = length params };
}

abbrev pub function_part : FunctionTree-F Of_expression Of_first Of_expression Of_statement Of_branch Of_expression Of_function Of_statement → Of_function
function_part f = function_of f.name f.params (each f.body)

-- names that are declared, each with its value, if it has one
abbrev pub declaring : List (List ℕ × Option Of_expression) → Part Function First
declaring vs = with_vars (map (λ v. v.0) vs) (one (each_named_held vs) declare)

abbrev pub first_part : ForFirst-F Of_expression Of_first Of_expression Of_statement Of_branch Of_expression Of_function Of_statement → Of_first
first_part (ForFirst-F.ForFirst::Var vs) = declaring vs
first_part (ForFirst-F.ForFirst::Expr a) = one a value_and_on

-- what is assigned to at each turn of a `for in`
abbrev pub head_part : ForInHead-F Of_expression Of_first Of_expression Of_statement Of_branch Of_expression Of_function Of_statement → Of_expression
head_part (ForInHead-F.ForInHead::Var name) = with_vars (name ∷ []) (leaf (λ x s. Gives (Named name) s))
head_part (ForInHead-F.Target target) = target

abbrev pub branch_part : Case-F Of_expression Of_first Of_expression Of_statement Of_branch Of_expression Of_function Of_statement → Of_branch
branch_part c = two (held c.test) (each c.body) (λ test body. record { test = test; body = body })

-- the block of a `catch`, with its name. It stands in a scope of its own, and the grammar lets no function be declared there
abbrev pub caught_part : Option (List ℕ × List Of_statement) → Part Function (Option (List ℕ × List Statement))
caught_part None = leaf None
caught_part (Some caught) = one (without_declared (each caught.1)) (λ body. Some (caught.0, body))

abbrev pub last_part : Option (List Of_statement) → Part Function (Option (List Statement))
last_part None = leaf None
last_part (Some last) = one (each last) Some

-- a statement that no label is for
abbrev pub plain : Runs Completion → Statement
plain run labels = run

abbrev pub ends_with : Completion → Statement
ends_with c labels x s = Gives c s

-- a declared function is made where the scope is, and not where it stands
abbrev pub declared_as : Made → Declared
declared_as made = record { name = option_map_or (λ name. name) made.name []; number = made.number; params = made.params }

abbrev pub declaration : Made → Statement
declaration made = ends_with Normal

abbrev pub statement_part : StmtNode-F Of_expression Of_first Of_expression Of_statement Of_branch Of_expression Of_function Of_statement → Of_statement
statement_part (StmtNode-F.Block body) = one (each body) (λ body. plain (in_turn body))
statement_part (StmtNode-F.StmtNode::Var vs) = one (declaring vs) plain
statement_part StmtNode-F.Empty = leaf (ends_with Normal)
statement_part (StmtNode-F.StmtNode::Expr a) = one a (λ a. plain (value_and_on a))
statement_part (StmtNode-F.If test body other) = three test body (held other) if_else
statement_part (StmtNode-F.Do body test) = two body test do_loop
statement_part (StmtNode-F.While test body) = two test body while_loop
statement_part (StmtNode-F.For first test update body) = four (held first) (held test) (held update) body for_loop
statement_part (StmtNode-F.ForIn head value body) = three head value body for_in
statement_part (StmtNode-F.Continue label) = leaf (ends_with (Continued label))
statement_part (StmtNode-F.Break label) = leaf (ends_with (Broken label))
statement_part (StmtNode-F.Return value) = one (held value) return
statement_part (StmtNode-F.Throw value) = one value throw_value
statement_part (StmtNode-F.Switch value cases) = two value (each cases) switch
statement_part (StmtNode-F.Try body caught last) = three (each body) (caught_part caught) (last_part last) try_catch
statement_part (StmtNode-F.Label label body) = one body (labelled label)
statement_part (StmtNode-F.FunctionDecl f) = with_declaration f declared_as declaration

abbrev pub stmt_part : Stmt-F Of_expression Of_first Of_expression Of_statement Of_branch Of_expression Of_function Of_statement → Of_statement
stmt_part s = one s.node begun_statement

-- ---- whole trees

unfoldable pub expression : Expr → Of_expression
expression = fold-Expr Of_expression Of_first Of_expression Of_statement Of_branch Of_expression Of_function Of_statement node_part first_part head_part statement_part branch_part expr_part function_part stmt_part

unfoldable pub statement : Stmt → Of_statement
statement = fold-Stmt Of_expression Of_first Of_expression Of_statement Of_branch Of_expression Of_function Of_statement node_part first_part head_part statement_part branch_part expr_part function_part stmt_part

-- an item gives the value that it exports, if it exports one. An ending that leads out of the item, which early refusals rule
-- out, would end the module as it ends a function
pub data Ending : Type 0 where
  Done : Ending
  Exported : PlainValue → Ending
  Ended : PlainValue → Ending

abbrev pub Item_means : Type 0
Item_means = Runs Ending

abbrev pub ending_of : Completion → Ending
ending_of Normal = Done
ending_of c = Ended (returned c)

abbrev pub statement_item : Statement → Item_means
statement_item a x s = and_then (a [] x s) (λ c s. Gives (ending_of c) s)

abbrev pub export_item : Expression → Item_means
export_item a x s = and_then (evaluated a x s) (λ v s. Gives (Exported v) s)

abbrev pub item_part : Item → Part Function Item_means
item_part (items.Stmt s) = one (statement s) statement_item
item_part (items.Export line a) = one (expression a) export_item

abbrev pub items_part : List Item → Part Function (List Item_means)
items_part [] = leaf []
items_part (i ∷ is) = two (item_part i) (items_part is) (λ a rest. a ∷ rest)

abbrev pub script_part : Script → Part Function (List Item_means)
script_part script = items_part script.items

-- the items of a module in order; what is exported is given in the end, undefined where nothing is
abbrev pub after_item : PlainValue → Ending → (PlainValue → State → Outcome PlainValue) → State → Outcome PlainValue
after_item v Done next s = next v s
after_item v (Exported w) next s = next w s
after_item v (Ended w) next s = Gives w s

abbrev pub run_items : PlainValue → List Item_means → Runs PlainValue
run_items v [] x s = Gives v s
run_items v (i ∷ is) x s = and_then (i x s) (λ e. after_item v e (λ w. run_items w is x))

-- the functions of a module, numbered in order of the text
abbrev pub functions_of : Script → List Function
functions_of script = (script_part script).functions 0

-- the names of a module's scope: those of its functions and of its `var`s
abbrev pub module_names : Script → List (List ℕ)
module_names script =
    let part = script_part script in
    each_once [] (map (λ d. d.name) (part.declared 0) ++ part.vars)

-- the body of the module with a number (§10.4.1): in a scope below the outermost one, its declared functions are made, and then
-- its items run; `this` is undefined
abbrev pub run_module : Calls → ℕ → Script → State → Outcome PlainValue
run_module calls unit script s =
    let part = script_part script in
    with_declared (part.declared 0) (run_items (Simple Undefined) (part.means 0))
    (record { calls = calls; unit = unit; scope = next_scope s; this = Simple Undefined })
    (with_scope (record { 0 = 0 }) (map unbound (module_names script)) s)
