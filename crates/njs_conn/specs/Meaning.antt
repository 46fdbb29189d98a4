-- What the scripts of a site mean for one request, by cases on the nodes of their trees. A node that has no case here has no meaning yet: it gives
-- nothing. No handler of an accepted script reaches one, which `accepted_scripts_answer` proves.
use Rattle.std.specs.Prelude.{ℕ, ℤ, pos, List, [], ◌∷◌, Bool, false, if◌then◌else◌, Option, Some, None, bytes_eq, codes, encode_utf8_all, slice_get, ◌==◌}
use Rattle.std.specs.Option.{option_map}
use Rattle.std.specs.List.{list_any}
use Rattle.njs_tree.specs.declared.tree.Item.{Item}
use Rattle.njs_tree.specs.declared.tree.Item.TheVariants as items
use Rattle.njs_tree.specs.declared.tree.FunctionTree.{FunctionTree, out-FunctionTree}
use Rattle.njs_tree.specs.declared.tree.Expr.{Expr}
use Rattle.njs_tree.specs.declared.tree.ExprNode.{ExprNode-F}
use Rattle.njs_tree.specs.declared.tree.Stmt.{Stmt}
use Rattle.njs_tree.specs.declared.tree.StmtNode.{StmtNode-F}
use Rattle.http_out.specs.declared.reply.Reply.{Reply}
use Rattle.conf_read.specs.declared.conf.Location.{Location}
use Rattle.http_in.specs.declared.request.Request.{Request}
use Rattle.conf_read.specs.Choose.{choice}
use Rattle.njs_conn.specs.Nodes.{ExprCases, StmtCases, expr_node, stmt_node, is_ok_status}
use Rattle.njs_conn.specs.Site.{Site}

infixl 10 ◌>>=◌
abbrev pub ◌>>=◌ : {A B : Type 0} → Option A → (A → Option B) → Option B
None >>= f = None
(Some x) >>= f = f x

-- the first that is there
abbrev pub or_else : {A : Type 0} → Option A → Option A → Option A
or_else (Some x) other = Some x
or_else None other = other

-- a value (ECMA-262 5.1 §8): the request is the object `r` of njs, and it has a method `return`
pub data Value : Type 0 where
  Undefined : Value
  Number : ℤ → Value
  String : List ℕ → Value
  Function : FunctionTree → Value
  TheRequest : Value
  ReturnMethod : Value

-- §10.5: a script's function declarations bind their names before it runs, and of two with one name the later counts
abbrev pub if_named : List ℕ → Option (List ℕ) → FunctionTree → Option FunctionTree
if_named name None f = None
if_named name (Some own) f = if bytes_eq own name then Some f else None

abbrev pub declared_by_node : List ℕ → StmtCases → Option FunctionTree
declared_by_node name (StmtNode-F.FunctionDecl f) = if_named name (out-FunctionTree f).name f
declared_by_node name _ = None

abbrev pub declared_by : List ℕ → Item → Option FunctionTree
declared_by name (items.Stmt s) = declared_by_node name (stmt_node s)
declared_by name (items.Export line e) = None

abbrev pub function_named : List ℕ → List Item → Option FunctionTree
function_named name [] = None
function_named name (item ∷ rest) = or_else (function_named name rest) (declared_by name item)

-- §13.2.1: a handler is called with the request alone, so its further parameters are undefined; of two with one name the later counts
abbrev pub parameter : List ℕ → List (List ℕ) → Option Value
parameter name [] = None
parameter name (first ∷ rest) = if list_any (λ p. bytes_eq p name) rest then Some Undefined else (if bytes_eq first name then Some TheRequest else None)

-- §10.2.2.1: a name stands for a parameter of the function that runs, or for a function of its script
abbrev pub value_of_name : List Item → List (List ℕ) → List ℕ → Option Value
value_of_name script parameters name = or_else (parameter name parameters) (option_map Function (function_named name script))

-- §11.1
abbrev pub value_of : List Item → List (List ℕ) → ExprCases → Option Value
value_of script parameters (ExprNode-F.Num n) = Some (Number n)
value_of script parameters (ExprNode-F.Str text) = Some (String text)
value_of script parameters (ExprNode-F.Name name) = value_of_name script parameters name
value_of script parameters _ = None

-- §11.2.1
abbrev pub request_member : List ℕ → Option Value
request_member name = if bytes_eq (encode_utf8_all name) (codes "return") then Some ReturnMethod else None

abbrev pub member : Value → List ℕ → Option Value
member TheRequest name = request_member name
member _ name = None

abbrev pub callee_of : List Item → List (List ℕ) → ExprCases → Option Value
callee_of script parameters (ExprNode-F.Member object name) = value_of script parameters (expr_node object) >>= λ v. member v name
callee_of script parameters _ = None

-- a text as a reply: it is sent as plain text, with no further field, until handlers can state fields
abbrev pub plain_text : ℕ → List ℕ → Reply
plain_text status body = record { status = status; kind = codes "text/plain"; fields = []; body = body }

-- the njs reference, `r.return`: with the status 200 and a text as body
abbrev pub returned : Value → Value → Option Reply
returned (Number status) (String body) = if is_ok_status status then Some (plain_text 200 body) else None
returned _ _ = None

abbrev pub call_of : List Item → List (List ℕ) → Value → List Expr → Option Reply
call_of script parameters ReturnMethod (status ∷ body ∷ []) =
    value_of script parameters (expr_node status) >>= λ s. value_of script parameters (expr_node body) >>= λ b. returned s b
call_of script parameters _ _ = None

-- §11.2.3
abbrev pub effect_of : List Item → List (List ℕ) → ExprCases → Option Reply
effect_of script parameters (ExprNode-F.Call callee arguments) = callee_of script parameters (expr_node callee) >>= λ f. call_of script parameters f arguments
effect_of script parameters _ = None

-- §12.4
abbrev pub statement : List Item → List (List ℕ) → StmtCases → Option Reply
statement script parameters (StmtNode-F.«StmtNode::Expr» e) = effect_of script parameters (expr_node e)
statement script parameters _ = None

-- the answer of a function's body, where each of its nodes has a meaning yet: none of an empty one
abbrev pub body_of : List Item → List (List ℕ) → List Stmt → Option Reply
body_of script parameters (s ∷ []) = statement script parameters (stmt_node s)
body_of script parameters _ = None

-- the value that a script exports
abbrev pub exported : List Item → Option Expr
exported [] = None
exported (items.Export line e ∷ rest) = Some e
exported (items.Stmt s ∷ rest) = exported rest

-- §11.1.5: of two equal keys the later counts
abbrev pub property : List ℕ → List (List ℕ × Expr) → Option Expr
property name [] = None
property name (p ∷ rest) = or_else (property name rest) (if bytes_eq p.0 name then Some p.1 else None)

abbrev pub property_of : List ℕ → ExprCases → Option Expr
property_of name (ExprNode-F.Object properties) = property name properties
property_of name _ = None

abbrev pub function_of : Value → Option FunctionTree
function_of (Function f) = Some f
function_of _ = None

abbrev pub function_at : List Item → Expr → Option FunctionTree
function_at script e = value_of script [] (expr_node e) >>= λ v. function_of v

-- the handler is the property of that name of the exported value, where it is a function
abbrev pub handler_of : List Item → List ℕ → Option FunctionTree
handler_of script name = exported script >>= λ e. property_of name (expr_node e) >>= λ v. function_at script v

abbrev pub answer_of : List Item → FunctionTree → Option Reply
answer_of script f = body_of script (out-FunctionTree f).params (out-FunctionTree f).body

-- a request without a location answers 404, one whose handler is missing or gives no answer 500
abbrev pub without_location : Reply
without_location = plain_text 404 []

abbrev pub without_answer : Reply
without_answer = plain_text 500 []

abbrev pub or_failure : Option Reply → Reply
or_failure (Some reply) = reply
or_failure None = without_answer

abbrev pub handled_by : Site → Location → Option Reply
handled_by site location = slice_get site.trees location.module >>= λ tree. handler_of tree.items location.handler >>= λ f. answer_of tree.items f

abbrev pub located : Site → Option Location → Reply
located site None = without_location
located site (Some location) = or_failure (handled_by site location)

abbrev pub location_of : Site → List ℕ → Option Location
location_of site path = choice site.conf.locations path >>= λ n. slice_get site.conf.locations n

-- what a request is answered
abbrev pub reply_of : Site → Request → Reply
reply_of site request = located site (location_of site request.path)
