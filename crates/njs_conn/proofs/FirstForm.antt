-- What a script of the form answers, read node by node.
use Rattle.std.proofs.Common.{◌≡◌, ◌≢◌, ℕ, ℤ, List, [], ◌∷◌, Bool, true, false, Option, Some, None, Result, Ok, Err, if◌then◌else◌, refl, sym, ap, subst, ◌∙◌}
use Rattle.std.specs.Cmp.Lexicographic.{bytes_decides}
use Rattle.std.specs.Prelude.{bytes_eq}
use Rattle.njs_tree.specs.declared.tree.Script.{Script}
use Rattle.njs_tree.specs.declared.tree.Item.{Item}
use Rattle.njs_tree.specs.declared.tree.Item.TheVariants as items
use Rattle.njs_tree.specs.declared.tree.Expr.{Expr, out-Expr}
use Rattle.njs_tree.specs.declared.tree.ExprNode.{ExprNode-F}
use Rattle.njs_tree.specs.declared.tree.Stmt.{Stmt, out-Stmt}
use Rattle.njs_tree.specs.declared.tree.StmtNode.{StmtNode-F}
use Rattle.njs_tree.specs.declared.tree.FunctionTree.{FunctionTree, out-FunctionTree}
use Rattle.njs_conn.specs.Nodes.{ExprCases, StmtCases, expr_node, stmt_node, is_ok_status}
use Rattle.njs_conn.specs.FirstForm.{and_then, unless, string_node, status_node, name_node, is_string, is_status, names, is_return, callee_node, is_callee, arguments_by, has_two, call_node, is_call, statement_node, is_statement, function_by, declaration_node, declared_name, property_by, object_node, exports, is_over, exports_by, form_of}
use Rattle.njs_conn.specs.Meaning.{◌>>=◌, Value, Number, String, Function, TheRequest, ReturnMethod, plain_text, handler_of, answer_of, function_at, function_of, value_of, callee_of, call_of, effect_of, statement, body_of, property_of}
use Rattle.njs_conn.specs.Handled.{Answers, handles}

same_name : (xs : List ℕ) → bytes_eq xs xs ≡ true
same_name xs = (bytes_decides xs xs).1 refl

equal : (xs ys : List ℕ) → bytes_eq xs ys ≡ true → xs ≡ ys
equal xs ys e = (bytes_decides xs ys).0 e

other_name : (t : Bool) (xs ys : List ℕ) → bytes_eq xs ys ≡ t → (xs ≢ ys) → bytes_eq xs ys ≡ false
other_name true xs ys same differ = absurd (differ ((bytes_decides xs ys).0 same))
other_name false xs ys same differ = same

err_ok : {A : Type 0} {a : A} {line : ℕ} → ◌≡◌ {A = Result A ℕ} (Err line) (Ok a) → ⊥
err_ok e = cc

ok_ok : {A : Type 0} {a b : A} → ◌≡◌ {A = Result A ℕ} (Ok a) (Ok b) → a ≡ b
ok_ok e = cc

passed : (t : Bool) (line : ℕ) → unless t line ≡ Ok tt → t ≡ true
passed true line e = refl
passed false line e = absurd (err_ok e)

then_case : {A B : Type 0} {C : Type 0} (x : Result A ℕ) (f : A → Result B ℕ) (b : B) → and_then x f ≡ Ok b → ((a : A) → x ≡ Ok a → f a ≡ Ok b → C) → C
then_case (Ok a) f b e k = k a refl e
then_case (Err line) f b e k = absurd (err_ok e)

if_case : {B : Type 0} {C : Type 0} (t : Bool) (x : Result B ℕ) (line : ℕ) (b : B) → (if t then x else Err line) ≡ Ok b → (t ≡ true → x ≡ Ok b → C) → C
if_case true x line b e k = k refl e
if_case false x line b e k = absurd (err_ok e)

-- ---- what each node of the form is

string_found : (line : ℕ) (n : ExprCases) → string_node line n ≡ Ok tt → (text : List ℕ) × (n ≡ ExprNode-F.Str text)
string_found line (ExprNode-F.Str text) e = (text, refl)
string_found line _ e = absurd (err_ok e)

status_found : (line : ℕ) (n : ExprCases) → status_node line n ≡ Ok tt → (k : ℤ) × (n ≡ ExprNode-F.Num k) × (is_ok_status k ≡ true)
status_found line (ExprNode-F.Num k) e = (k, refl, passed (is_ok_status k) line e)
status_found line _ e = absurd (err_ok e)

name_found : (name : List ℕ) (line : ℕ) (n : ExprCases) → name_node name line n ≡ Ok tt → n ≡ ExprNode-F.Name name
name_found name line (ExprNode-F.Name own) e = ap ExprNode-F.Name (equal own name (passed (bytes_eq own name) line e))
name_found name line _ e = absurd (err_ok e)

callee_found : (parameter : List ℕ) (line : ℕ) (n : ExprCases) → callee_node parameter line n ≡ Ok tt
    → (object : Expr) × (name : List ℕ) × (n ≡ ExprNode-F.Member object name) × (is_return name ≡ true) × (expr_node object ≡ ExprNode-F.Name parameter)
callee_found parameter line (ExprNode-F.Member object name) e =
    if_case (is_return name) (names parameter object) line tt e (λ back named. (object, name, refl, back, name_found parameter (out-Expr object).line (expr_node object) named))
callee_found parameter line _ e = absurd (err_ok e)

-- the call answers its string
Answered : List Item → List ℕ → ExprCases → Type 0
Answered script parameter n = (answer : List ℕ) × (effect_of script (parameter ∷ []) n ≡ Some (plain_text 200 answer))

requested : (script : List Item) (parameter : List ℕ) (n : ExprCases) → n ≡ ExprNode-F.Name parameter → value_of script (parameter ∷ []) n ≡ Some TheRequest
requested script parameter n is = rw (is, same_name parameter)

returning : (script : List Item) (parameter : List ℕ) (callee : ExprCases) (object : Expr) (name : List ℕ) → callee ≡ ExprNode-F.Member object name → is_return name ≡ true
    → expr_node object ≡ ExprNode-F.Name parameter → callee_of script (parameter ∷ []) callee ≡ Some ReturnMethod
returning script parameter callee object name is back named = rw (is, requested script parameter (expr_node object) named, back)

returned_ok : (script : List Item) (parameter : List ℕ) (a b : Expr) (k : ℤ) (text : List ℕ) → expr_node a ≡ ExprNode-F.Num k → is_ok_status k ≡ true → expr_node b ≡ ExprNode-F.Str text
    → call_of script (parameter ∷ []) ReturnMethod (a ∷ b ∷ []) ≡ Some (plain_text 200 text)
returned_ok script parameter a b k text status ok string = rw (status, string, ok)

arguments_answered : (script : List Item) (parameter : List ℕ) (line : ℕ) (arguments : List Expr) → arguments_by line arguments ≡ Ok tt
    → (answer : List ℕ) × (call_of script (parameter ∷ []) ReturnMethod arguments ≡ Some (plain_text 200 answer))
arguments_answered script parameter line [] e = absurd (err_ok e)
arguments_answered script parameter line (a ∷ []) e = absurd (err_ok e)
arguments_answered script parameter line (a ∷ b ∷ []) e =
    then_case (is_status a) (λ _. is_string b) tt e (λ u status string.
    let s = status_found (out-Expr a).line (expr_node a) status in
    let t = string_found (out-Expr b).line (expr_node b) string in
    (t.0, returned_ok script parameter a b s.0 t.0 s.1 s.2 t.1))
arguments_answered script parameter line (a ∷ b ∷ c ∷ more) e = absurd (err_ok e)

call_answered : (script : List Item) (parameter : List ℕ) (line : ℕ) (n : ExprCases) → call_node parameter line n ≡ Ok tt → Answered script parameter n
unfolding Answered
call_answered script parameter line (ExprNode-F.Call callee arguments) e =
    if_case (has_two arguments) _ line tt e (λ two e1.
    then_case (is_callee parameter callee) (λ _. arguments_by line arguments) tt e1 (λ u called given.
    let f = callee_found parameter (out-Expr callee).line (expr_node callee) called in
    let a = arguments_answered script parameter line arguments given in
    (a.0, rw (returning script parameter (expr_node callee) f.0 f.1 f.2 f.3 f.4) a.1)))
call_answered script parameter line _ e = absurd (err_ok e)

statement_answered : (script : List Item) (parameter : List ℕ) (line : ℕ) (n : StmtCases) → statement_node parameter line n ≡ Ok tt
    → (answer : List ℕ) × (statement script (parameter ∷ []) n ≡ Some (plain_text 200 answer))
unfolding Answered
statement_answered script parameter line (StmtNode-F.«StmtNode::Expr» c) e = call_answered script parameter (out-Expr c).line (expr_node c) e
statement_answered script parameter line _ e = absurd (err_ok e)

-- a function of the form, which has a name
pub record IsHandler (script : List Item) (f : FunctionTree) (name : List ℕ) : Type 0 where
  pub named : (out-FunctionTree f).name ≡ Some name
  pub answer : List ℕ
  pub answers : answer_of script f ≡ Some (plain_text 200 answer)

function_answered : (script : List Item) (line : ℕ) (own : Option (List ℕ)) (params : List (List ℕ)) (body : List Stmt) (name : List ℕ) → function_by line own params body ≡ Ok name
    → (own ≡ Some name) × (answer : List ℕ) × (body_of script params body ≡ Some (plain_text 200 answer))
function_answered script line (Some own) (parameter ∷ []) (s ∷ []) name e =
    then_case (is_statement parameter s) (λ _. Ok own) name e (λ u stands same.
    let a = statement_answered script parameter (out-Stmt s).line (stmt_node s) stands in
    (ap Some (ok_ok same), a.0, a.1))
function_answered script line None params body name e = absurd (err_ok e)
function_answered script line (Some own) [] body name e = absurd (err_ok e)
function_answered script line (Some own) (p ∷ q ∷ more) body name e = absurd (err_ok e)
function_answered script line (Some own) (p ∷ []) [] name e = absurd (err_ok e)
function_answered script line (Some own) (p ∷ []) (s ∷ t ∷ more) name e = absurd (err_ok e)

declared : (script : List Item) (line : ℕ) (n : StmtCases) (name : List ℕ) → declaration_node line n ≡ Ok name → (f : FunctionTree) × (n ≡ StmtNode-F.FunctionDecl f) × IsHandler script f name
declared script line (StmtNode-F.FunctionDecl f) name e =
    let a = function_answered script line (out-FunctionTree f).name (out-FunctionTree f).params (out-FunctionTree f).body name e in
    (f, refl, record { named = a.0; answer = a.1; answers = a.2 })
declared script line _ name e = absurd (err_ok e)

property_found : (name : List ℕ) (line : ℕ) (properties : List (List ℕ × Expr)) → property_by name line properties ≡ Ok tt
    → (value : Expr) × (properties ≡ (name, value) ∷ []) × (expr_node value ≡ ExprNode-F.Name name)
property_found name line [] e = absurd (err_ok e)
property_found name line ((key, value) ∷ []) e =
    if_case (bytes_eq key name) (names name value) line tt e (λ same named.
    (value, ap (λ k. (k, value) ∷ []) (equal key name same), name_found name (out-Expr value).line (expr_node value) named))
property_found name line (p ∷ q ∷ more) e = absurd (err_ok e)

object_found : (name : List ℕ) (line : ℕ) (n : ExprCases) → object_node name line n ≡ Ok tt
    → (value : Expr) × (n ≡ ExprNode-F.Object ((name, value) ∷ [])) × (expr_node value ≡ ExprNode-F.Name name)
object_found name line (ExprNode-F.Object properties) e = let p = property_found name line properties e in (p.0, ap ExprNode-F.Object p.1, p.2)
object_found name line _ e = absurd (err_ok e)

nothing_more : (rest : List Item) → is_over rest ≡ Ok tt → rest ≡ []
nothing_more [] e = refl
nothing_more (item ∷ rest) e = absurd (err_ok e)

-- the two items of the form
pub record Shaped (script : List Item) : Type 0 where
  pub name : List ℕ
  pub s : Stmt
  pub f : FunctionTree
  pub line : ℕ
  pub e : Expr
  pub value : Expr
  pub is : script ≡ items.Stmt s ∷ items.Export line e ∷ []
  pub declares : stmt_node s ≡ StmtNode-F.FunctionDecl f
  pub handler : IsHandler script f name
  pub object : expr_node e ≡ ExprNode-F.Object ((name, value) ∷ [])
  pub exported : expr_node value ≡ ExprNode-F.Name name

exported_shaped : (script : List Item) (name : List ℕ) (s : Stmt) (f : FunctionTree) (rest : List Item) → script ≡ items.Stmt s ∷ rest → stmt_node s ≡ StmtNode-F.FunctionDecl f → IsHandler script f name
    → exports_by name rest ≡ Ok tt → Shaped script
exported_shaped script name s f [] is declares handler e = absurd (err_ok e)
exported_shaped script name s f (items.Stmt t ∷ rest) is declares handler e = absurd (err_ok e)
exported_shaped script name s f (items.Export line x ∷ rest) is declares handler e =
    then_case (exports name (items.Export line x)) (λ _. is_over rest) tt e (λ u exported over.
    let o = object_found name (out-Expr x).line (expr_node x) exported in
    record {
      name = name;
      s = s;
      f = f;
      line = line;
      e = x;
      value = o.0;
      is = is ∙ ap (λ l. items.Stmt s ∷ items.Export line x ∷ l) (nothing_more rest over);
      declares = declares;
      handler = handler;
      object = o.1;
      exported = o.2;
    })

shaped : (script : List Item) → form_of script ≡ Ok tt → Shaped script
shaped [] e = absurd (err_ok e)
shaped (items.Export line x ∷ rest) e = absurd (err_ok e)
shaped (items.Stmt s ∷ rest) e =
    then_case (declared_name (items.Stmt s)) (λ name. exports_by name rest) tt e (λ name found exported.
    let d = declared (items.Stmt s ∷ rest) (out-Stmt s).line (stmt_node s) name found in
    exported_shaped (items.Stmt s ∷ rest) name s d.0 rest refl d.1 d.2 exported)

-- ---- what its handlers are

-- the name of the function stands for it
named : (s : Stmt) (line : ℕ) (e value : Expr) (f : FunctionTree) (name : List ℕ) → stmt_node s ≡ StmtNode-F.FunctionDecl f → (out-FunctionTree f).name ≡ Some name → expr_node value ≡ ExprNode-F.Name name
    → function_at (items.Stmt s ∷ items.Export line e ∷ []) value ≡ Some f
named s line e value f name declares own exported = rw (exported, declares, own, same_name name)

choose_handler : (t : Bool) (e : Expr) (f : FunctionTree) (at : Expr → Option FunctionTree) → at e ≡ Some f → ((if t then Some e else None) >>= at) ≡ if t then Some f else None
choose_handler true e f at stands = stands
choose_handler false e f at stands = refl

handler : (s : Stmt) (line : ℕ) (e value : Expr) (f : FunctionTree) (name n : List ℕ) → stmt_node s ≡ StmtNode-F.FunctionDecl f → (out-FunctionTree f).name ≡ Some name
    → expr_node e ≡ ExprNode-F.Object ((name, value) ∷ []) → expr_node value ≡ ExprNode-F.Name name
    → handler_of (items.Stmt s ∷ items.Export line e ∷ []) n ≡ if bytes_eq name n then Some f else None
handler s line e value f name n declares own object exported =
    let at = function_at (items.Stmt s ∷ items.Export line e ∷ []) in
    rw object (choose_handler (bytes_eq name n) value f at (named s line e value f name declares own exported))

handled : (script : List Item) (h : Shaped script) (n : List ℕ) → handler_of script n ≡ if bytes_eq h.name n then Some h.f else None
handled script h n =
    subst (λ xs. handler_of xs n ≡ if bytes_eq h.name n then Some h.f else None) (sym h.is) (handler h.s h.line h.e h.value h.f h.name n h.declares h.handler.named h.object h.exported)

answers_by : (script : Script) → Shaped script.items → Answers script
answers_by script h = record {
  name = h.name;
  answer = h.handler.answer;
  own = rw (handled script.items h h.name, same_name h.name) h.handler.answers;
  other = λ n differ. handled script.items h n ∙ ap (λ t. if t then Some h.f else None) (other_name (bytes_eq h.name n) h.name n refl differ);
}

pub answers : (script : Script) → form_of script.items ≡ Ok tt → Answers script
answers script e = answers_by script (shaped script.items e)
