-- Primary expressions, lists and functions are read, where their parts are.
use Rattle.std.proofs.Common.{◌≡◌, ℕ, ◌+◌, ◌-◌, max, ◌<◌, ◌≤◌, Bool, true, false, List, [], ◌∷◌, ◌++◌, length, Option, Some, None, refl, ap, ◌∙◌, arith, pos}
use Rattle.njs_tree.specs.declared.token.Keyword.TheVariants as keyword
use Rattle.njs_tree.specs.declared.token.Mark.TheVariants as mark
use Rattle.njs_tree.specs.declared.tree.Expr.{Expr}
use Rattle.njs_tree.specs.declared.tree.ExprNode.TheVariants as node
use Rattle.njs_tree.specs.declared.tree.Stmt.{Stmt}
use Rattle.njs_tree.specs.declared.tree.FunctionTree.{FunctionTree, roll-FunctionTree}
use Rattle.njs_expr.specs.declared.terminal.Terminal.TheVariants as terminal
use Rattle.njs_tree.specs.Lexemes.{Lexeme, Symbol, key_text}
use Rattle.njs_tree.specs.Grammar.{at, Spells, Listed, Function, Parameters}
use Rattle.njs_expr.specs.Readers.{Symbols, terminal_of, next_of, sees}
use Rattle.njs_expr.specs.Expressions.{closes}
use Rattle.njs_expr.specs.Descent.{expr, stmt}
use Rattle.njs_expr.proofs.Terminals.{other_mark}
use Rattle.njs_expr.proofs.Forwards.{separated, separated_last}
use Rattle.njs_expr.proofs.Past.{past, shorter, parameters_past}
use Rattle.njs_expr.proofs.Begins.{plain_start, begun, unseen}
use Rattle.njs_expr.proofs.Follow.{closed, comma_strength}
use Rattle.njs_expr.proofs.ExpressionSteps.{joins, nothing_more, from_none, arguments_none, arguments_some, listed_last, listed_more, elements_end, elements_more, element_hole, element_value, properties_end, properties_more, property_pair, property_short, reads_parameters, statements_end, statements_more, braced_ok, function_ok, primary_number, primary_string, primary_name, primary_this, primary_null, primary_true, primary_false, primary_paren, primary_array, primary_object, primary_function, primary_named}
use Rattle.njs_expr.proofs.Read.{Reads, ReadsArguments, ReadsListed, ReadsElements, ReadsProperties, ReadsFunction, ReadsStatements}
use Rattle.njs_expr.proofs.ExpressionsRead.{primary_reads, right_side, inside}

-- ---- primary expressions

pub number_reads : (with_in : Bool) (least n : ℕ) (t : Symbol) (r : Symbols) → t.lexeme ≡ Lexeme.number n → Reads with_in least (at (t ∷ r) (node.Num (pos n))) 1 false (t ∷ r) r
number_reads with_in least n t r is =
    primary_reads with_in least (at (t ∷ r) (node.Num (pos n))) 1 (t ∷ r) r (plain_start t.lexeme _ is (refl, refl)) (λ fuel room fits short.
    primary_number (expr fuel) (stmt fuel) with_in room t.line n t r is (omega (arith, fits)))

pub string_reads : (with_in : Bool) (least : ℕ) (text : List ℕ) (t : Symbol) (r : Symbols) → t.lexeme ≡ Lexeme.string text → Reads with_in least (at (t ∷ r) (node.Str text)) 1 false (t ∷ r) r
string_reads with_in least text t r is =
    primary_reads with_in least (at (t ∷ r) (node.Str text)) 1 (t ∷ r) r (plain_start t.lexeme _ is (refl, refl)) (λ fuel room fits short.
    primary_string (expr fuel) (stmt fuel) with_in room t.line text t r is (omega (arith, fits)))

pub name_reads : (with_in : Bool) (least : ℕ) (text : List ℕ) (t : Symbol) (r : Symbols) → t.lexeme ≡ Lexeme.name text → Reads with_in least (at (t ∷ r) (node.Name text)) 1 false (t ∷ r) r
name_reads with_in least text t r is =
    primary_reads with_in least (at (t ∷ r) (node.Name text)) 1 (t ∷ r) r (plain_start t.lexeme _ is (refl, refl)) (λ fuel room fits short.
    primary_name (expr fuel) (stmt fuel) with_in room t.line text t r is (omega (arith, fits)))

pub this_reads : (with_in : Bool) (least : ℕ) (t : Symbol) (r : Symbols) → t.lexeme ≡ Lexeme.reserved keyword.This → Reads with_in least (at (t ∷ r) node.This) 1 false (t ∷ r) r
this_reads with_in least t r is =
    primary_reads with_in least (at (t ∷ r) node.This) 1 (t ∷ r) r (plain_start t.lexeme _ is (refl, refl)) (λ fuel room fits short.
    primary_this (expr fuel) (stmt fuel) with_in room t.line t r is (omega (arith, fits)))

pub null_reads : (with_in : Bool) (least : ℕ) (t : Symbol) (r : Symbols) → t.lexeme ≡ Lexeme.reserved keyword.Null → Reads with_in least (at (t ∷ r) node.Null) 1 false (t ∷ r) r
null_reads with_in least t r is =
    primary_reads with_in least (at (t ∷ r) node.Null) 1 (t ∷ r) r (plain_start t.lexeme _ is (refl, refl)) (λ fuel room fits short.
    primary_null (expr fuel) (stmt fuel) with_in room t.line t r is (omega (arith, fits)))

pub true_reads : (with_in : Bool) (least : ℕ) (t : Symbol) (r : Symbols) → t.lexeme ≡ Lexeme.reserved keyword.True → Reads with_in least (at (t ∷ r) (node.Bool true)) 1 false (t ∷ r) r
true_reads with_in least t r is =
    primary_reads with_in least (at (t ∷ r) (node.Bool true)) 1 (t ∷ r) r (plain_start t.lexeme _ is (refl, refl)) (λ fuel room fits short.
    primary_true (expr fuel) (stmt fuel) with_in room t.line t r is (omega (arith, fits)))

pub false_reads : (with_in : Bool) (least : ℕ) (t : Symbol) (r : Symbols) → t.lexeme ≡ Lexeme.reserved keyword.False → Reads with_in least (at (t ∷ r) (node.Bool false)) 1 false (t ∷ r) r
false_reads with_in least t r is =
    primary_reads with_in least (at (t ∷ r) (node.Bool false)) 1 (t ∷ r) r (plain_start t.lexeme _ is (refl, refl)) (λ fuel room fits short.
    primary_false (expr fuel) (stmt fuel) with_in room t.line t r is (omega (arith, fits)))

pub parenthesized_reads : (with_in : Bool) (least : ℕ) (a : Expr) (d : ℕ) (e : Bool) (t u : Symbol) (j r : Symbols) → t.lexeme ≡ Lexeme.mark mark.LeftParen
    → Spells true 1 a d e j (u ∷ r) → Reads true 1 a d e j (u ∷ r) → u.lexeme ≡ Lexeme.mark mark.RightParen → Reads with_in least a d false (t ∷ j) r
parenthesized_reads with_in least a d e t u j r is sa ha is_u =
    primary_reads with_in least a d (t ∷ j) r (plain_start t.lexeme _ is (refl, refl)) (λ fuel room fits short.
    primary_paren (expr fuel) (stmt fuel) with_in room t.line (a, d) t u j r is (inside true a d e j (u ∷ r) fuel room sa ha (closed true e mark.RightParen u r is_u refl) fits (omega (arith, short))) is_u)

pub array_reads : (with_in : Bool) (least : ℕ) (xs : List (Option Expr)) (d : ℕ) (t : Symbol) (j r : Symbols) → t.lexeme ≡ Lexeme.mark mark.LeftBracket → ReadsElements xs d j r
    → Reads with_in least (at (t ∷ j) (node.Array xs)) (d + 1) false (t ∷ j) r
array_reads with_in least xs d t j r is hx =
    primary_reads with_in least (at (t ∷ j) (node.Array xs)) (d + 1) (t ∷ j) r (plain_start t.lexeme _ is (refl, refl)) (λ fuel room fits short.
    primary_array (expr fuel) (stmt fuel) with_in room t.line xs d t j r is (hx fuel room (length j) [] 0 (omega (arith, fits)) (omega (arith, short)) (omega arith) ∙ from_none xs d r) (omega (arith, fits)))

pub object_reads : (with_in : Bool) (least : ℕ) (ps : List (List ℕ × Expr)) (d : ℕ) (t : Symbol) (j r : Symbols) → t.lexeme ≡ Lexeme.mark mark.LeftBrace → ReadsProperties ps d j r
    → Reads with_in least (at (t ∷ j) (node.Object ps)) (d + 1) false (t ∷ j) r
object_reads with_in least ps d t j r is hp =
    primary_reads with_in least (at (t ∷ j) (node.Object ps)) (d + 1) (t ∷ j) r (plain_start t.lexeme _ is (refl, refl)) (λ fuel room fits short.
    primary_object (expr fuel) (stmt fuel) with_in room t.line ps d t j r is (hp fuel room (length j) [] 0 (omega (arith, fits)) (omega (arith, short)) (omega arith) ∙ from_none ps d r) (omega (arith, fits)))

parameters_open : {xs : List (List ℕ)} {i r : Symbols} → Parameters xs i r → next_of i ≡ terminal.Mark mark.LeftParen
parameters_open (Parameters.none t u r is_t is_u) = ap terminal_of is_t
parameters_open (Parameters.some names t i r is_t hp) = ap terminal_of is_t

function_open : {name : Option (List ℕ)} {f : FunctionTree} {d : ℕ} {i r : Symbols} → Function name f d i r → next_of i ≡ terminal.Mark mark.LeftParen
function_open (Function.function name params body d t u i j r hp is_t hbody is_u) = parameters_open hp

pub unnamed_reads : (with_in : Bool) (least : ℕ) (f : FunctionTree) (d : ℕ) (t : Symbol) (j r : Symbols) → t.lexeme ≡ Lexeme.reserved keyword.Function → Function None f d j r → ReadsFunction None f d j r
    → Reads with_in least (at (t ∷ j) (node.Function f)) (d + 1) false (t ∷ j) r
unnamed_reads with_in least f d t j r is sf hf =
    primary_reads with_in least (at (t ∷ j) (node.Function f)) (d + 1) (t ∷ j) r (plain_start t.lexeme _ is (refl, refl)) (λ fuel room fits short.
    primary_function (expr fuel) (stmt fuel) with_in room t.line (f, d) t j r is (function_open sf) (hf fuel room (omega (arith, fits)) (omega (arith, short))) (omega (arith, fits)))

pub named_reads : (with_in : Bool) (least : ℕ) (name : List ℕ) (f : FunctionTree) (d : ℕ) (t u : Symbol) (j r : Symbols) → t.lexeme ≡ Lexeme.reserved keyword.Function → u.lexeme ≡ Lexeme.name name
    → ReadsFunction (Some name) f d j r → Reads with_in least (at (t ∷ u ∷ j) (node.Function f)) (d + 1) false (t ∷ u ∷ j) r
named_reads with_in least name f d t u j r is is_u hf =
    primary_reads with_in least (at (t ∷ u ∷ j) (node.Function f)) (d + 1) (t ∷ u ∷ j) r (plain_start t.lexeme _ is (refl, refl)) (λ fuel room fits short.
    primary_named (expr fuel) (stmt fuel) with_in room t.line name (f, d) t u j r is is_u (hf fuel room (omega (arith, fits)) (omega (arith, short))) (omega (arith, fits)))

-- ---- arguments

pub no_arguments_read : (t : Symbol) (r : Symbols) → t.lexeme ≡ Lexeme.mark mark.RightParen → ReadsArguments [] 0 (t ∷ r) r
no_arguments_read t r is fuel room fits short = arguments_none (expr fuel) room t r is

listed_open : {xs : List Expr} {d : ℕ} {i r : Symbols} → Listed xs d i r → sees mark.RightParen (next_of i) ≡ false
listed_open (Listed.last_argument a d e t i r ha is_t) = unseen mark.RightParen (next_of i) (begun ha) refl
listed_open (Listed.more_arguments a xs d dx e t i j r ha is_t hxs) = unseen mark.RightParen (next_of i) (begun ha) refl

pub arguments_read : (xs : List Expr) (d : ℕ) (i r : Symbols) → Listed xs d i r → ReadsListed xs d i r → ReadsArguments xs d i r
arguments_read xs d i r s h fuel room fits short =
    arguments_some (expr fuel) room i (listed_open s) ∙ h fuel room (length i) [] 0 (omega (arith, fits)) short (omega arith) ∙ from_none xs d r

pub last_argument_reads : (a : Expr) (d : ℕ) (e : Bool) (t : Symbol) (i r : Symbols) → Spells true 2 a d e i (t ∷ r) → Reads true 2 a d e i (t ∷ r) → t.lexeme ≡ Lexeme.mark mark.RightParen
    → ReadsListed (a ∷ []) d i r
last_argument_reads a d e t i r sa ha is fuel room n found below fits short turns =
    listed_last (expr fuel) room n found below (a, d) t i r (omega (arith, shorter (past sa), turns))
    (right_side true a d e i (t ∷ r) fuel (room - 1) sa ha (omega (arith, closed true e mark.RightParen t r is refl)) (omega (arith, fits)) short) is

pub arguments_more : (a : Expr) (xs : List Expr) (d dx : ℕ) (e : Bool) (t : Symbol) (i j r : Symbols) → Spells true 2 a d e i (t ∷ j) → Reads true 2 a d e i (t ∷ j)
    → t.lexeme ≡ Lexeme.mark mark.Comma → ReadsListed xs dx j r → ReadsListed (a ∷ xs) (max d dx) i r
arguments_more a xs d dx e t i j r sa ha is h fuel room n found below fits short turns =
    listed_more (expr fuel) room n found below (a, d) t i j (omega (arith, shorter (past sa), turns))
    (right_side true a d e i (t ∷ j) fuel (room - 1) sa ha (omega (arith, comma_strength true e t j is)) (omega (arith, fits)) short) is
    ∙ h fuel room (n - 1) (found ++ a ∷ []) (max below d) (omega (arith, fits)) (omega (arith, shorter (past sa), short)) (omega (arith, shorter (past sa), turns))
    ∙ joins found a xs below d dx r

-- ---- elements of an array

pub no_element_reads : (t : Symbol) (r : Symbols) → t.lexeme ≡ Lexeme.mark mark.RightBracket → ReadsElements [] 0 (t ∷ r) r
no_element_reads t r is fuel room n found below fits short turns = elements_end (expr fuel) room n found below t r (omega (arith, turns)) is ∙ nothing_more found below r

pub hole_reads : (xs : List (Option Expr)) (d : ℕ) (t : Symbol) (j r : Symbols) → t.lexeme ≡ Lexeme.mark mark.Comma → ReadsElements xs d j r → ReadsElements (None ∷ xs) d (t ∷ j) r
unfolding sees
hole_reads xs d t j r is h fuel room n found below fits short turns =
    let e : max below (max 0 d) ≡ max below d = omega arith in
    elements_more (expr fuel) room n found below (None, 0) (t ∷ j) j (omega (arith, turns)) (other_mark mark.RightBracket t.lexeme _ is refl) (element_hole (expr fuel) room t j is)
    ∙ h fuel room (n - 1) (found ++ None ∷ []) (max below 0) (omega (arith, fits)) (omega (arith, short)) (omega (arith, turns))
    ∙ joins found None xs below 0 d r ∙ ap (λ m. Some ((found ++ (None ∷ xs), m), r)) e

pub last_element_reads : (a : Expr) (d : ℕ) (e : Bool) (t : Symbol) (i r : Symbols) → Spells true 2 a d e i (t ∷ r) → Reads true 2 a d e i (t ∷ r) → t.lexeme ≡ Lexeme.mark mark.RightBracket
    → ReadsElements (Some a ∷ []) d i r
unfolding sees
last_element_reads a d e t i r sa ha is fuel room n found below fits short turns =
    let less = shorter (past sa) in
    elements_more (expr fuel) room n found below (Some a, d) i (t ∷ r) (omega (arith, less, turns)) (unseen mark.RightBracket (next_of i) (begun sa) refl)
    (element_value (expr fuel) room (a, d) i (t ∷ r) (t ∷ r) (unseen mark.Comma (next_of i) (begun sa) refl)
    (right_side true a d e i (t ∷ r) fuel (room - 1) sa ha (omega (arith, closed true e mark.RightBracket t r is refl)) (omega (arith, fits)) short)
    (separated_last mark.RightBracket t r (other_mark mark.Comma t.lexeme _ is refl) is))
    ∙ elements_end (expr fuel) room (n - 1) (found ++ Some a ∷ []) (max below d) t r (omega (arith, less, turns)) is

pub element_reads : (a : Expr) (xs : List (Option Expr)) (d dx : ℕ) (e : Bool) (t : Symbol) (i j r : Symbols) → Spells true 2 a d e i (t ∷ j) → Reads true 2 a d e i (t ∷ j)
    → t.lexeme ≡ Lexeme.mark mark.Comma → ReadsElements xs dx j r → ReadsElements (Some a ∷ xs) (max d dx) i r
element_reads a xs d dx e t i j r sa ha is h fuel room n found below fits short turns =
    let less = shorter (past sa) in
    elements_more (expr fuel) room n found below (Some a, d) i j (omega (arith, less, turns)) (unseen mark.RightBracket (next_of i) (begun sa) refl)
    (element_value (expr fuel) room (a, d) i (t ∷ j) j (unseen mark.Comma (next_of i) (begun sa) refl)
    (right_side true a d e i (t ∷ j) fuel (room - 1) sa ha (omega (arith, comma_strength true e t j is)) (omega (arith, fits)) short)
    (separated mark.RightBracket t j is))
    ∙ h fuel room (n - 1) (found ++ Some a ∷ []) (max below d) (omega (arith, fits)) (omega (arith, less, short)) (omega (arith, less, turns))
    ∙ joins found (Some a) xs below d dx r

-- ---- properties of an object

key_open : (x : Lexeme) (key : List ℕ) → key_text x ≡ Some key → sees mark.RightBrace (terminal_of x) ≡ false
unfolding sees
key_open (Lexeme.name text) key e = refl
key_open (Lexeme.reserved k) key e = refl
key_open (Lexeme.number n) key e = refl
key_open (Lexeme.string text) key e = refl
key_open (Lexeme.mark m) key e = absurd (cc)
key_open Lexeme.over key e = absurd (cc)

pub no_property_reads : (t : Symbol) (r : Symbols) → t.lexeme ≡ Lexeme.mark mark.RightBrace → ReadsProperties [] 0 (t ∷ r) r
no_property_reads t r is fuel room n found below fits short turns = properties_end (expr fuel) room n found below t r (omega (arith, turns)) is ∙ nothing_more found below r

pub last_property_reads : (key : List ℕ) (a : Expr) (d : ℕ) (e : Bool) (t u v : Symbol) (i r : Symbols) → key_text t.lexeme ≡ Some key → u.lexeme ≡ Lexeme.mark mark.Colon
    → Spells true 2 a d e i (v ∷ r) → Reads true 2 a d e i (v ∷ r) → v.lexeme ≡ Lexeme.mark mark.RightBrace → ReadsProperties ((key, a) ∷ []) d (t ∷ u ∷ i) r
unfolding sees
last_property_reads key a d e t u v i r is is_u sa ha is_v fuel room n found below fits short turns =
    let less = shorter (past sa) in
    properties_more (expr fuel) room n found below ((key, a), d) (t ∷ u ∷ i) (v ∷ r) (omega (arith, turns)) (key_open t.lexeme key is)
    (property_pair (expr fuel) room key (a, d) t u i (v ∷ r) (v ∷ r) is is_u
    (right_side true a d e i (v ∷ r) fuel (room - 1) sa ha (omega (arith, closed true e mark.RightBrace v r is_v refl)) (omega (arith, fits)) (omega (arith, short)))
    (separated_last mark.RightBrace v r (other_mark mark.Comma v.lexeme _ is_v refl) is_v))
    ∙ properties_end (expr fuel) room (n - 1) (found ++ (key, a) ∷ []) (max below d) v r (omega (arith, less, turns)) is_v

pub property_reads : (key : List ℕ) (a : Expr) (ps : List (List ℕ × Expr)) (d dp : ℕ) (e : Bool) (t u v : Symbol) (i j r : Symbols) → key_text t.lexeme ≡ Some key
    → u.lexeme ≡ Lexeme.mark mark.Colon → Spells true 2 a d e i (v ∷ j) → Reads true 2 a d e i (v ∷ j) → v.lexeme ≡ Lexeme.mark mark.Comma → ReadsProperties ps dp j r
    → ReadsProperties ((key, a) ∷ ps) (max d dp) (t ∷ u ∷ i) r
property_reads key a ps d dp e t u v i j r is is_u sa ha is_v h fuel room n found below fits short turns =
    let less = shorter (past sa) in
    properties_more (expr fuel) room n found below ((key, a), d) (t ∷ u ∷ i) j (omega (arith, turns)) (key_open t.lexeme key is)
    (property_pair (expr fuel) room key (a, d) t u i (v ∷ j) j is is_u
    (right_side true a d e i (v ∷ j) fuel (room - 1) sa ha (omega (arith, comma_strength true e v j is_v)) (omega (arith, fits)) (omega (arith, short)))
    (separated mark.RightBrace v j is_v))
    ∙ h fuel room (n - 1) (found ++ (key, a) ∷ []) (max below d) (omega (arith, fits)) (omega (arith, less, short)) (omega (arith, less, turns))
    ∙ joins found (key, a) ps below d dp r

pub last_name_reads : (name : List ℕ) (t u : Symbol) (r : Symbols) → t.lexeme ≡ Lexeme.name name → u.lexeme ≡ Lexeme.mark mark.RightBrace
    → ReadsProperties ((name, at (t ∷ u ∷ r) (node.Name name)) ∷ []) 1 (t ∷ u ∷ r) r
unfolding sees
last_name_reads name t u r is is_u fuel room n found below fits short turns =
    properties_more (expr fuel) room n found below ((name, at (t ∷ u ∷ r) (node.Name name)), 1) (t ∷ u ∷ r) (u ∷ r) (omega (arith, turns)) (other_mark mark.RightBrace t.lexeme _ is refl)
    (property_short (expr fuel) room name t u r (u ∷ r) is (other_mark mark.Colon u.lexeme _ is_u refl) (separated_last mark.RightBrace u r (other_mark mark.Comma u.lexeme _ is_u refl) is_u) (omega (arith, fits)))
    ∙ properties_end (expr fuel) room (n - 1) (found ++ (name, at (t ∷ u ∷ r) (node.Name name)) ∷ []) (max below 1) u r (omega (arith, turns)) is_u

pub property_name_reads : (name : List ℕ) (ps : List (List ℕ × Expr)) (dp : ℕ) (t u : Symbol) (j r : Symbols) → t.lexeme ≡ Lexeme.name name → u.lexeme ≡ Lexeme.mark mark.Comma
    → ReadsProperties ps dp j r → ReadsProperties ((name, at (t ∷ u ∷ j) (node.Name name)) ∷ ps) (max 1 dp) (t ∷ u ∷ j) r
unfolding sees
property_name_reads name ps dp t u j r is is_u h fuel room n found below fits short turns =
    properties_more (expr fuel) room n found below ((name, at (t ∷ u ∷ j) (node.Name name)), 1) (t ∷ u ∷ j) j (omega (arith, turns)) (other_mark mark.RightBrace t.lexeme _ is refl)
    (property_short (expr fuel) room name t u j j is (other_mark mark.Colon u.lexeme _ is_u refl) (separated mark.RightBrace u j is_u) (omega (arith, fits)))
    ∙ h fuel room (n - 1) (found ++ (name, at (t ∷ u ∷ j) (node.Name name)) ∷ []) (max below 1) (omega (arith, fits)) (omega (arith, short)) (omega (arith, turns))
    ∙ joins found (name, at (t ∷ u ∷ j) (node.Name name)) ps below 1 dp r

-- ---- functions and lists of statements

pub closing_brace : (x : Lexeme) → x ≡ Lexeme.mark mark.RightBrace → closes (terminal_of x) ≡ true
closing_brace x is = rw is

pub function_reads : (name : Option (List ℕ)) (params : List (List ℕ)) (body : List Stmt) (d : ℕ) (t u : Symbol) (i j r : Symbols) → Parameters params i (t ∷ j)
    → t.lexeme ≡ Lexeme.mark mark.LeftBrace → ReadsStatements true body d j (u ∷ r) → u.lexeme ≡ Lexeme.mark mark.RightBrace
    → ReadsFunction name (roll-FunctionTree (record { name = name; params = params; body = body })) d i r
function_reads name params body d t u i j r hp is h is_u fuel room fits short =
    function_ok (stmt fuel) room name params (body, d) i (t ∷ j) r (reads_parameters hp)
    (braced_ok (stmt fuel) true room (body, d) t u j r is
    (h (closing_brace u.lexeme is_u) fuel room (length j) [] 0 (omega (arith, fits)) (omega (arith, shorter (parameters_past hp), short)) (omega arith) ∙ from_none body d (u ∷ r)) is_u)

pub no_statement_reads : (declares : Bool) (r : Symbols) → ReadsStatements declares [] 0 r r
no_statement_reads declares r end fuel room n found below fits short turns = statements_end (stmt fuel) declares room n found below r end ∙ nothing_more found below r

pub statement_more : (declares : Bool) (s : Stmt) (ss : List Stmt) (d ds : ℕ) (i j r : Symbols) → closes (next_of i) ≡ false → length j < length i
    → ((fuel room : ℕ) → d ≤ room → length i < fuel → stmt fuel declares room i ≡ Some ((s, d), j)) → ReadsStatements declares ss ds j r → ReadsStatements declares (s ∷ ss) (max d ds) i r
statement_more declares s ss d ds i j r opens less one h end fuel room n found below fits short turns =
    statements_more (stmt fuel) declares room n found below (s, d) i j (omega (arith, less, turns)) opens (one fuel (room - 1) (omega (arith, fits)) short)
    ∙ h end fuel room (n - 1) (found ++ s ∷ []) (max below d) (omega (arith, fits)) (omega (arith, less, short)) (omega (arith, less, turns))
    ∙ joins found s ss below d ds r
