-- The sizes of parts are the numbers of their operations.
use Rattle.std.proofs.Common.{◌≡◌, ℕ, suc, ◌+◌, ◌-◌, List, [], ◌∷◌, Bool, true, false, ap, subst, arith}
use Rattle.std.specs.Option.{option_map_or}
use Rattle.njs_tree.specs.declared.tree.Item.{Item}
use Rattle.njs_tree.specs.declared.tree.Item.TheVariants as items
use Rattle.njs_tree.specs.declared.tree.Expr.{Expr}
use Rattle.njs_tree.specs.declared.tree.Stmt.{Stmt}
use Rattle.njs_code.specs.declared.op.Op.{Op}
use Rattle.njs_meaning.specs.Functions.{arguments_name}
use Rattle.njs_meaning.specs.Parts.{Declared}
use Rattle.njs_simul.specs.Emission.{Here, Emits, deeper, IsName}
use Rattle.njs_simul.specs.EmissionOfStatements.{bind, in_turn, in_turn_size, declared, with_arguments, function_body}
use Rattle.njs_simul.specs.Compiled.{Placed, expression, statement, item_part, items_part, items_in_turn, body_of}
use Rattle.njs_simul.specs.Fits.{Names}
use Rattle.njs_simul.specs.Laws.{Front, Writes}
use Rattle.njs_simul.specs.Program.{around_in}
use Rattle.njs_simul.specs.Sizes.{declared_size, arguments_size, function_size, items_size, body_size, Written, statements_in, SizesAreTrue}
use Rattle.njs_simul.proofs.Steps.{front_none, front_op, front_then, front_count, front_length}
use Rattle.njs_simul.proofs.Sequences.{assign_front, value_writes}
use Rattle.njs_simul.proofs.TiedParts.{Knows}
use Rattle.njs_simul.proofs.Whole.{expression_tied, statement_tied}

-- ---- expressions and statements, by what ties them to their meaning

-- functions with these numbers stand where they are placed
abbrev numbered_from : List Placed → ℕ → Names
numbered_from fs first unit number = around_in fs [] (number - first)

numbered_known : (fs : List Placed) (first : ℕ) → Knows (numbered_from fs first) 0 fs first []
numbered_known fs first at f is =
    let e : at ≡ first + at - first = omega arith in
    subst (λ n. around_in fs [] n ≡ (f []).around) e (ap (λ o. option_map_or (λ (f : Placed). (f []).around) o []) is)

target_writes : (e : Expr) (first : ℕ) → Writes ((expression e).means first).size ((expression e).means first).target
target_writes e first =
    let fs = (expression e).functions first in
    ((expression_tied (numbered_from fs first) 0 e).means first [] (numbered_known fs first)).writes

statement_writes : (s : Stmt) (first : ℕ) (labels : List (List ℕ)) → Writes ((statement s).means first).size (((statement s).means first).emit labels)
statement_writes s first labels =
    let fs = (statement s).functions first in
    (((statement_tied (numbered_from fs first) 0 s).means first [] (numbered_known fs first)).with_labels labels).writes

-- ---- lists of statements, and functions

list_writes : (list : List Stmt) (first : ℕ) → Writes (in_turn_size ((statements_in list).means first)) (in_turn ((statements_in list).means first))
list_writes [] first here rest = front_none rest
list_writes (s ∷ list) first here rest =
    front_then _ _ _ _ rest (statement_writes s first [] here _) (list_writes list (first + (statement s).size) here rest)

bind_front : (name : List ℕ) (here : Here) (count : ℕ) (middle rest : List Op) → Front count middle rest → Front (suc (suc count)) (bind name here middle) rest
bind_front name here count middle rest f = assign_front (IsName name) here _ _ rest (front_op count _ middle rest f)

declared_front : (ds : List Declared) (here : Here) (count : ℕ) (middle rest : List Op) → Front count middle rest → Front (declared_size ds + count) (declared ds here middle) rest
declared_front [] here count middle rest f = front_count _ _ _ rest (omega arith) f
declared_front (d ∷ ds) here count middle rest f =
    let e : suc (suc (suc (declared_size ds + count))) ≡ 3 + declared_size ds + count = omega arith in
    front_count _ _ _ rest e (front_op _ _ _ rest (bind_front d.name here _ _ rest (declared_front ds here count middle rest f)))

arguments_front : (b : Bool) (here : Here) (count : ℕ) (middle rest : List Op) → Front count middle rest → Front (arguments_size b + count) (with_arguments b here middle) rest
arguments_front false here count middle rest f = front_count _ _ _ rest (omega arith) f
arguments_front true here count middle rest f =
    let e : suc (suc (suc count)) ≡ 3 + count = omega arith in
    front_count _ _ _ rest e (front_op _ _ _ rest (bind_front arguments_name here _ _ rest f))

function_writes : (list : List Stmt) (first : ℕ) (ds : List Declared) (b : Bool) → Writes (function_size ds b ((statements_in list).means first)) (function_body ds b ((statements_in list).means first))
function_writes list first ds b here rest =
    declared_front ds here _ _ rest (arguments_front b here _ _ rest
    (front_then _ _ _ _ rest (list_writes list first here _) (front_op _ _ _ rest (front_op _ _ _ rest (front_none rest)))))

-- ---- the bodies of modules

item_writes : (i : Item) (first : ℕ) → Writes ((item_part i).means first).size ((item_part i).means first).emit
item_writes (items.Stmt s) first here rest = statement_writes s first [] here rest
item_writes (items.Export line a) first here rest =
    front_then _ 1 _ _ rest (value_writes ((expression a).means first) (target_writes a first) here _) (front_op _ _ _ rest (front_none rest))

items_writes : (list : List Item) (first : ℕ) → Writes (items_size ((items_part list).means first)) (items_in_turn ((items_part list).means first))
items_writes [] first here rest = front_none rest
items_writes (i ∷ list) first here rest = front_then _ _ _ _ rest (item_writes i first here _) (items_writes list (first + (item_part i).size) here rest)

body_writes : (list : List Item) (first : ℕ) (ds : List Declared) → Writes (body_size ds ((items_part list).means first)) (body_of ds ((items_part list).means first))
body_writes list first ds here rest =
    declared_front ds here _ _ rest (front_op _ _ _ rest
    (front_then _ _ _ _ rest (items_writes list first (deeper 1 here) _) (front_op _ _ _ rest (front_none rest))))

-- ---- all of them

written : (count : ℕ) (emit : Emits) → Writes count emit → Written count emit
written count emit w = record { keeps = w; long = λ here rest. front_length count (emit here rest) rest (w here rest) }

pub sizes_are_true : SizesAreTrue
sizes_are_true = record {
  targets = λ e first. written _ _ (target_writes e first);
  values = λ e first. written _ _ (value_writes ((expression e).means first) (target_writes e first));
  statements = λ s first labels. written _ _ (statement_writes s first labels);
  lists = λ list first. written _ _ (list_writes list first);
  functions = λ list first ds b. written _ _ (function_writes list first ds b);
  items = λ list first. written _ _ (items_writes list first);
  bodies = λ list first ds. written _ _ (body_writes list first ds);
}
