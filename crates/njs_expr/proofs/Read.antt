-- What it is to read the symbols of a tree, with any reader that has fuel and room enough.
use Rattle.std.proofs.Common.{◌≡◌, ℕ, suc, max, ◌<◌, ◌≤◌, Bool, true, false, ◌&&◌, List, ◌∷◌, ◌++◌, length, Option, Some, if◌then◌else◌}
use Rattle.njs_tree.specs.declared.token.Keyword.TheVariants as keyword
use Rattle.njs_tree.specs.declared.token.Mark.{Mark}
use Rattle.njs_tree.specs.declared.token.Mark.TheVariants as mark
use Rattle.njs_tree.specs.declared.tree.Expr.{Expr}
use Rattle.njs_tree.specs.declared.tree.Stmt.{Stmt}
use Rattle.njs_tree.specs.declared.tree.FunctionTree.{FunctionTree}
use Rattle.njs_tree.specs.declared.tree.ForFirst.{ForFirst}
use Rattle.njs_tree.specs.declared.tree.ForInHead.{ForInHead}
use Rattle.njs_tree.specs.declared.tree.Case.{Case}
use Rattle.njs_tree.specs.Lexemes.{Lexeme, Symbol}
use Rattle.njs_tree.specs.Symbols.{lexeme_of, line_of}
use Rattle.njs_tree.specs.Grammar.{is_target}
use Rattle.njs_expr.specs.Readers.{Symbols, next_of, sees_word}
use Rattle.njs_expr.specs.Expressions.{links, listed, arguments, chain, elements, properties, closes, statements, braced, function, chained, climb, level_of}
use Rattle.njs_expr.specs.Statements.{grouped, optional, declarators, optional_catch, for_rest, for_in_rest, for_first, cases}
use Rattle.njs_expr.specs.Descent.{expr, stmt}
use Rattle.njs_expr.proofs.Begins.{Unprefixed}
use Rattle.njs_expr.proofs.Follow.{Follows, is_closing, var_stops}

-- the chain goes on from the tree
abbrev pub Chains : Bool → Bool → Symbols → Expr → ℕ → Symbols → ℕ → ℕ → Type 0
Chains with_in with_calls i tree d r fuel room =
    (m : ℕ) × (length r ≤ m) × (chained (expr fuel) (stmt fuel) with_in with_calls room (line_of i) i ≡ chain (expr fuel) with_calls room (line_of i) m (tree, d) r)

-- the operators go on from the tree
abbrev pub Climbs : Bool → Symbols → Expr → ℕ → Symbols → ℕ → ℕ → ℕ → Type 0
Climbs with_in i tree d r lower fuel room =
    (m : ℕ) × (length r ≤ m) × (level_of (expr fuel) (stmt fuel) with_in lower room i ≡ climb (expr fuel) with_in lower room (line_of i) m (tree, d) r)

-- the level of chains
abbrev pub chain_level : Bool → ℕ
chain_level with_calls = if with_calls then 17 else 18

-- a target is a chain, at whatever level it is spelled
abbrev pub Targets : Bool → Symbols → Expr → ℕ → Symbols → Type 0
Targets with_in i tree d r = (fuel room : ℕ) → d ≤ room → length i ≤ suc fuel → Unprefixed (lexeme_of i) × Chains with_in true i tree d r fuel room

pub record Reads (with_in : Bool) (least : ℕ) (tree : Expr) (d : ℕ) (ends : Bool) (i r : Symbols) : Type 0 where
  pub chains : (with_calls : Bool) → chain_level with_calls ≤ least → (fuel room : ℕ) → d ≤ room → length i ≤ suc fuel → Chains with_in with_calls i tree d r fuel room
  pub targets : is_target tree ≡ true → Targets with_in i tree d r
  pub levels : Follows with_in least ends r → (lower fuel room : ℕ) → lower ≤ least → lower ≤ 14 → d ≤ room → length i ≤ suc fuel → Climbs with_in i tree d r lower fuel room

abbrev pub ReadsBare : Bool → Expr → ℕ → Symbols → Symbols → Type 0
ReadsBare with_in tree d i r = links true (next_of r) ≡ false → (with_calls : Bool) (fuel room : ℕ) → d ≤ room → length i ≤ suc fuel
    → chained (expr fuel) (stmt fuel) with_in with_calls room (line_of i) i ≡ Some ((tree, d), r)

abbrev pub ReadsArguments : List Expr → ℕ → Symbols → Symbols → Type 0
ReadsArguments xs d i r = (fuel room : ℕ) → d < room → length i ≤ fuel → arguments (expr fuel) room i ≡ Some ((xs, d), r)

abbrev pub ReadsListed : List Expr → ℕ → Symbols → Symbols → Type 0
ReadsListed xs d i r = (fuel room n : ℕ) (found : List Expr) (below : ℕ) → max below d < room → length i ≤ fuel → length i ≤ n
    → listed (expr fuel) room n found below i ≡ Some ((found ++ xs, max below d), r)

abbrev pub ReadsElements : List (Option Expr) → ℕ → Symbols → Symbols → Type 0
ReadsElements xs d i r = (fuel room n : ℕ) (found : List (Option Expr)) (below : ℕ) → max below d < room → length i ≤ fuel → length i ≤ n
    → elements (expr fuel) room n found below i ≡ Some ((found ++ xs, max below d), r)

abbrev pub ReadsProperties : List (List ℕ × Expr) → ℕ → Symbols → Symbols → Type 0
ReadsProperties ps d i r = (fuel room n : ℕ) (found : List (List ℕ × Expr)) (below : ℕ) → max below d < room → length i ≤ fuel → length i ≤ n
    → properties (expr fuel) room n found below i ≡ Some ((found ++ ps, max below d), r)

abbrev pub ReadsFunction : Option (List ℕ) → FunctionTree → ℕ → Symbols → Symbols → Type 0
ReadsFunction name f d i r = (fuel room : ℕ) → d < room → length i ≤ fuel → function (stmt fuel) room name i ≡ Some ((f, d), r)

-- statements, and where the test holds declarations of functions too
abbrev pub ReadsStatements : Bool → List Stmt → ℕ → Symbols → Symbols → Type 0
ReadsStatements declares ss d i r = closes (next_of r) ≡ true → (fuel room n : ℕ) (found : List Stmt) (below : ℕ) → max below d < room → length i < fuel → length i ≤ n
    → statements (stmt fuel) declares room n found below i ≡ Some ((found ++ ss, max below d), r)

abbrev pub ReadsItem : Stmt → ℕ → Symbols → Symbols → Type 0
ReadsItem s d i r = (fuel room : ℕ) → d ≤ room → length i < fuel → stmt fuel true room i ≡ Some ((s, d), r)

abbrev pub ReadsStatement : Stmt → ℕ → Symbols → Symbols → Type 0
ReadsStatement s d i r = (declares : Bool) (fuel room : ℕ) → d ≤ room → length i < fuel → stmt fuel declares room i ≡ Some ((s, d), r)

abbrev pub ReadsBlock : List Stmt → ℕ → Symbols → Symbols → Type 0
ReadsBlock ss d i r = (fuel room : ℕ) → d < room → length i ≤ fuel → braced (stmt fuel) false room i ≡ Some ((ss, d), r)

abbrev pub ReadsGrouped : Expr → ℕ → Symbols → Symbols → Type 0
ReadsGrouped a d i r = (fuel room : ℕ) → d ≤ room → length i ≤ fuel → grouped (expr fuel) room i ≡ Some ((a, d), r)

abbrev pub ReadsDeclares : Bool → List (List ℕ × Option Expr) → ℕ → Option Bool → Symbols → Symbols → Type 0
ReadsDeclares with_in vs d last i r = var_stops with_in last r → (fuel room n : ℕ) (found : List (List ℕ × Option Expr)) (below : ℕ) → max below d ≤ room → length i ≤ fuel → length i ≤ n
    → declarators (expr fuel) with_in room n found below i ≡ Some ((found ++ vs, max below d), r)

abbrev pub ReadsOptional : Option Expr → ℕ → Mark → Symbols → Symbols → Type 0
ReadsOptional a d m i r = is_closing m ≡ true → (fuel room : ℕ) → d ≤ room → length i ≤ fuel → optional (expr fuel) room m i ≡ Some ((a, d), r)

-- up to its semicolon
abbrev pub ReadsFirst : Option ForFirst → ℕ → Symbols → Symbols → Type 0
ReadsFirst f d i r = (fuel room line : ℕ) → d < room → length i ≤ fuel
    → (t : Symbol) × (t.lexeme ≡ Lexeme.mark mark.Semicolon) × (for_first (expr fuel) (stmt fuel) room line (next_of i) i ≡ for_rest (expr fuel) (stmt fuel) room line f d (t ∷ r))

abbrev pub ReadsHead : ForInHead → ℕ → Symbols → Symbols → Type 0
ReadsHead h d i r = sees_word keyword.In (next_of r) ≡ true → (fuel room line : ℕ) → d < room → length i ≤ fuel
    → for_first (expr fuel) (stmt fuel) room line (next_of i) i ≡ for_in_rest (expr fuel) (stmt fuel) room line h d r

abbrev pub ReadsCases : List Case → ℕ → Bool → Symbols → Symbols → Type 0
ReadsCases cs d has_default i r = (fuel room n : ℕ) (seen : Bool) (found : List Case) (below : ℕ) → (seen && has_default) ≡ false → max below d < room → length i ≤ fuel → length i ≤ n
    → cases (expr fuel) (stmt fuel) room n seen found below i ≡ Some ((found ++ cs, max below d), r)

abbrev pub ReadsCatch : List ℕ → List Stmt → ℕ → Symbols → Symbols → Type 0
ReadsCatch name ss d i r = (fuel room : ℕ) → d < room → length i ≤ fuel → optional_catch (stmt fuel) room i ≡ Some ((Some (name, ss), d), r)
