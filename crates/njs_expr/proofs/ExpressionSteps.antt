-- What each step of reading an expression gives, from what its parts give.
use Rattle.std.proofs.Common.{◌≡◌, ℕ, zero, suc, ◌+◌, ◌-◌, max, ◌<◌, ◌≤◌, Bool, true, false, ◌==◌, List, [], ◌∷◌, ◌++◌, length, Option, Some, None, refl, ap, ◌∙◌, arith, pos, append_assoc, append-nil}
use Rattle.std.proofs.lemmas.Bool.Decides.{nat_tests}
use Rattle.njs_tree.specs.declared.token.Keyword.TheVariants as keyword
use Rattle.njs_tree.specs.declared.token.Mark.TheVariants as mark
use Rattle.njs_tree.specs.declared.token.Joint.TheVariants as joint
use Rattle.njs_tree.specs.declared.tree.BinaryOp.{BinaryOp}
use Rattle.njs_tree.specs.declared.tree.LogicalOp.{LogicalOp}
use Rattle.njs_tree.specs.declared.tree.UnaryOp.{UnaryOp}
use Rattle.njs_tree.specs.declared.tree.UpdateOp.{UpdateOp}
use Rattle.njs_tree.specs.declared.tree.Expr.{Expr}
use Rattle.njs_tree.specs.declared.tree.ExprNode.TheVariants as node
use Rattle.njs_tree.specs.declared.tree.Stmt.{Stmt}
use Rattle.njs_tree.specs.declared.tree.FunctionTree.{FunctionTree, roll-FunctionTree}
use Rattle.njs_expr.specs.declared.terminal.Terminal.TheVariants as terminal
use Rattle.njs_tree.specs.Lexemes.{Lexeme, Symbol, word_text, key_text}
use Rattle.njs_tree.specs.Symbols.{lexeme_of, line_of, joint_of, binds, logical_level, binary_level, prefix_of, update_of}
use Rattle.njs_tree.specs.Grammar.{is_target, Names, Parameters}
use Rattle.njs_expr.specs.Readers.{Symbols, Reader, terminal_of, next_of, sees, after, separate, Grown, Stood, on}
use Rattle.njs_expr.specs.Expressions.{links, member, updated, listed, some_listed, arguments, new_arguments, call, index, link, chain, whole_chain, newed, parenthesized, valued_element, element, elements, whole_elements, array, property_value, property, properties, whole_properties, object, prefix_update, prefix_unary, conditional, comma, assigned, logical_joined, binary_joined, joined, climb, whole_climb, names, some_names, parameters, closes, optional_name, statements, whole_statements, braced, function, function_value, primary, chained, postfix, operand, operators, level_of}
use Rattle.njs_expr.specs.Descent.{expr, stmt}
use Rattle.njs_expr.proofs.Terminals.{joint_like, prefix_like, update_like, is_seen, other_mark}
use Rattle.njs_expr.proofs.Forwards.{lt_yes, lt_no, grown_ok, expected, took_name, took_number, took_string, took_word, took_key}

-- ---- lists and their depths

pub joins : {A : Type 0} (found : List A) (a : A) (ys : List A) (below d ds : ℕ) (r : Symbols)
    → ◌≡◌ {A = Option ((List A × ℕ) × Symbols)} (Some (((found ++ a ∷ []) ++ ys, max (max below d) ds), r)) (Some ((found ++ (a ∷ ys), max below (max d ds)), r))
joins found a ys below d ds r = let e : max (max below d) ds ≡ max below (max d ds) = omega arith in rw (append_assoc found (a ∷ []) ys, e)

pub nothing_more : {A : Type 0} (found : List A) (below : ℕ) (r : Symbols)
    → ◌≡◌ {A = Option ((List A × ℕ) × Symbols)} (Some ((found, below), r)) (Some ((found ++ [], max below 0), r))
nothing_more found below r = let e : max below 0 ≡ below = omega arith in rw (append-nil found, e)

pub from_none : {A : Type 0} (xs : List A) (d : ℕ) (r : Symbols)
    → ◌≡◌ {A = Option ((List A × ℕ) × Symbols)} (Some (([] ++ xs, max 0 d), r)) (Some ((xs, d), r))
from_none xs d r = let e : max 0 d ≡ d = omega arith in ap (λ n. Some ((xs, n), r)) e

-- a turn less
pub turned : {A : Type 0} (f : ℕ → A) (n : ℕ) → f n ≡ f (suc n - 1)
turned f n = let e : n ≡ suc n - 1 = omega arith in ap f e

module _ (E : Bool → ℕ → ℕ → Reader Grown) where
  -- ---- operators between values

  pub joined_comma : (with_in : Bool) (room line : ℕ) (a b : Grown) (t : Symbol) (j r : Symbols) → joint_of with_in t.lexeme ≡ joint.Comma
      → E with_in 2 (room - 1) j ≡ Some (b, r) → max a.1 b.1 < room
      → joined E with_in room line a (t ∷ j) ≡ Some ((on line (node.Comma a.0 b.0), max a.1 b.1 + 1), r)
  unfolding joined comma
  joined_comma with_in room line a b t j r is found fits = rw (joint_like with_in t.lexeme, is, found) (grown_ok room line (node.Comma a.0 b.0) (max a.1 b.1) r fits)

  pub joined_assign : (with_in : Bool) (room line : ℕ) (op : Option BinaryOp) (a b : Grown) (t : Symbol) (j r : Symbols) → joint_of with_in t.lexeme ≡ joint.Assign op
      → is_target a.0 ≡ true → E with_in 2 (room - 1) j ≡ Some (b, r) → max a.1 b.1 < room
      → joined E with_in room line a (t ∷ j) ≡ Some ((on line (node.Assign op a.0 b.0), max a.1 b.1 + 1), r)
  unfolding joined assigned
  joined_assign with_in room line op a b t j r is target found fits =
      rw (joint_like with_in t.lexeme, is, target, found) (grown_ok room line (node.Assign op a.0 b.0) (max a.1 b.1) r fits)

  pub conditioned : (with_in : Bool) (room line : ℕ) (a b c : Grown) (u : Symbol) (j k r : Symbols) → E true 2 (room - 1) j ≡ Some (b, u ∷ k)
      → u.lexeme ≡ Lexeme.mark mark.Colon → E with_in 2 (room - 1) k ≡ Some (c, r) → max a.1 (max b.1 c.1) < room
      → conditional E with_in room line a j ≡ Some ((on line (node.Cond a.0 b.0 c.0), max a.1 (max b.1 c.1) + 1), r)
  unfolding conditional
  conditioned with_in room line a b c u j k r found_b is_u found_c fits =
      rw (found_b, expected mark.Colon u k is_u, found_c) (grown_ok room line (node.Cond a.0 b.0 c.0) (max a.1 (max b.1 c.1)) r fits)

  pub joined_question : (with_in : Bool) (room line : ℕ) (a g : Grown) (t : Symbol) (j r : Symbols) → joint_of with_in t.lexeme ≡ joint.Question
      → conditional E with_in room line a j ≡ Some (g, r) → joined E with_in room line a (t ∷ j) ≡ Some (g, r)
  unfolding joined
  joined_question with_in room line a g t j r is found = rw (joint_like with_in t.lexeme, is, found)

  pub joined_logical : (with_in : Bool) (room line : ℕ) (op : LogicalOp) (a b : Grown) (t : Symbol) (j r : Symbols) → joint_of with_in t.lexeme ≡ joint.Logical op
      → E with_in (logical_level op + 1) (room - 1) j ≡ Some (b, r) → max a.1 b.1 < room
      → joined E with_in room line a (t ∷ j) ≡ Some ((on line (node.Logical op a.0 b.0), max a.1 b.1 + 1), r)
  unfolding joined logical_joined
  joined_logical with_in room line op a b t j r is found fits =
      rw (joint_like with_in t.lexeme, is, found) (grown_ok room line (node.Logical op a.0 b.0) (max a.1 b.1) r fits)

  pub joined_binary : (with_in : Bool) (room line : ℕ) (op : BinaryOp) (a b : Grown) (t : Symbol) (j r : Symbols) → joint_of with_in t.lexeme ≡ joint.Binary op
      → E with_in (binary_level op + 1) (room - 1) j ≡ Some (b, r) → max a.1 b.1 < room
      → joined E with_in room line a (t ∷ j) ≡ Some ((on line (node.Binary op a.0 b.0), max a.1 b.1 + 1), r)
  unfolding joined binary_joined
  joined_binary with_in room line op a b t j r is found fits =
      rw (joint_like with_in t.lexeme, is, found) (grown_ok room line (node.Binary op a.0 b.0) (max a.1 b.1) r fits)

  pub climbs : (with_in : Bool) (lower room line n : ℕ) (a g : Grown) (t : Symbol) (j r : Symbols) → lower ≤ binds (joint_of with_in t.lexeme)
      → joined E with_in room line a (t ∷ j) ≡ Some (g, r) → 0 < n
      → climb E with_in lower room line n a (t ∷ j) ≡ climb E with_in lower room line (n - 1) g r
  unfolding climb
  climbs with_in lower room line zero a g t j r low found some = absurd (omega arith)
  climbs with_in lower room line (suc n) a g t j r low found some =
      rw (joint_like with_in t.lexeme, lt_no (binds (joint_of with_in t.lexeme)) lower low, found) (turned (λ k. climb E with_in lower room line k g r) n)

  pub climb_stops : (with_in : Bool) (lower room line n : ℕ) (a : Grown) (r : Symbols) → binds (joint_of with_in (lexeme_of r)) < lower
      → climb E with_in lower room line n a r ≡ Some (a, r)
  unfolding climb
  climb_stops with_in lower room line zero a r low = refl
  climb_stops with_in lower room line (suc n) a r low = rw (joint_like with_in (lexeme_of r), lt_yes (binds (joint_of with_in (lexeme_of r))) lower low)

  -- ---- chains

  pub chain_links : (with_calls : Bool) (room line n : ℕ) (a g : Grown) (i r : Symbols) → links with_calls (next_of i) ≡ true → link E room line a i ≡ Some (g, r) → 0 < n
      → chain E with_calls room line n a i ≡ chain E with_calls room line (n - 1) g r
  unfolding chain
  chain_links with_calls room line zero a g i r is found some = absurd (omega arith)
  chain_links with_calls room line (suc n) a g i r is found some = rw (is, found) (turned (λ k. chain E with_calls room line k g r) n)

  pub chain_stops : (with_calls : Bool) (room line n : ℕ) (a : Grown) (r : Symbols) → links with_calls (next_of r) ≡ false → chain E with_calls room line n a r ≡ Some (a, r)
  unfolding chain
  chain_stops with_calls room line zero a r unlinked = refl
  chain_stops with_calls room line (suc n) a r unlinked = rw unlinked

  pub linked_call : (room line : ℕ) (a : Grown) (xs : List Expr) (d : ℕ) (t : Symbol) (j r : Symbols) → t.lexeme ≡ Lexeme.mark mark.LeftParen
      → arguments E room j ≡ Some ((xs, d), r) → max a.1 d < room
      → link E room line a (t ∷ j) ≡ Some ((on line (node.Call a.0 xs), max a.1 d + 1), r)
  unfolding link call
  linked_call room line a xs d t j r is found fits = rw (is, found) (grown_ok room line (node.Call a.0 xs) (max a.1 d) r fits)

  pub linked_member : (room line : ℕ) (a : Grown) (name : List ℕ) (t u : Symbol) (r : Symbols) → t.lexeme ≡ Lexeme.mark mark.Dot → word_text u.lexeme ≡ Some name → a.1 < room
      → link E room line a (t ∷ u ∷ r) ≡ Some ((on line (node.Member a.0 name), a.1 + 1), r)
  unfolding link member
  linked_member room line a name t u r is is_u fits = rw (is, took_word name u r is_u) (grown_ok room line (node.Member a.0 name) a.1 r fits)

  pub linked_index : (room line : ℕ) (a b : Grown) (t u : Symbol) (j r : Symbols) → t.lexeme ≡ Lexeme.mark mark.LeftBracket → E true 1 (room - 1) j ≡ Some (b, u ∷ r)
      → u.lexeme ≡ Lexeme.mark mark.RightBracket → max a.1 b.1 < room
      → link E room line a (t ∷ j) ≡ Some ((on line (node.Index a.0 b.0), max a.1 b.1 + 1), r)
  unfolding link index
  linked_index room line a b t u j r is found is_u fits =
      rw (is, found, expected mark.RightBracket u r is_u) (grown_ok room line (node.Index a.0 b.0) (max a.1 b.1) r fits)

  -- ---- arguments

  pub arguments_none : (room : ℕ) (t : Symbol) (r : Symbols) → t.lexeme ≡ Lexeme.mark mark.RightParen → arguments E room (t ∷ r) ≡ Some (([], 0), r)
  unfolding arguments after
  arguments_none room t r is = rw (is_seen mark.RightParen t.lexeme is)

  pub arguments_some : (room : ℕ) (i : Symbols) → sees mark.RightParen (next_of i) ≡ false → arguments E room i ≡ listed E room (length i) [] 0 i
  unfolding arguments after some_listed
  arguments_some room i unseen = rw unseen

  pub listed_last : (room n : ℕ) (found : List Expr) (below : ℕ) (a : Grown) (t : Symbol) (i r : Symbols) → 0 < n → E true 2 (room - 1) i ≡ Some (a, t ∷ r)
      → t.lexeme ≡ Lexeme.mark mark.RightParen → listed E room n found below i ≡ Some ((found ++ a.0 ∷ [], max below a.1), r)
  unfolding listed after sees
  listed_last room zero found below a t i r some is_a is = absurd (omega arith)
  listed_last room (suc n) found below a t i r some is_a is = rw (is_a, other_mark mark.Comma t.lexeme _ is refl, expected mark.RightParen t r is)

  pub listed_more : (room n : ℕ) (found : List Expr) (below : ℕ) (a : Grown) (t : Symbol) (i r : Symbols) → 0 < n → E true 2 (room - 1) i ≡ Some (a, t ∷ r)
      → t.lexeme ≡ Lexeme.mark mark.Comma → listed E room n found below i ≡ listed E room (n - 1) (found ++ a.0 ∷ []) (max below a.1) r
  unfolding listed after
  listed_more room zero found below a t i r some is_a is = absurd (omega arith)
  listed_more room (suc n) found below a t i r some is_a is =
      rw (is_a, is_seen mark.Comma t.lexeme is) (turned (λ k. listed E room k (found ++ a.0 ∷ []) (max below a.1) r) n)

  -- ---- `new`

  pub newed_with : (with_in : Bool) (room line : ℕ) (a : Grown) (xs : List Expr) (d : ℕ) (u : Symbol) (j k r : Symbols) → E with_in 18 (room - 1) j ≡ Some (a, u ∷ k)
      → u.lexeme ≡ Lexeme.mark mark.LeftParen → arguments E room k ≡ Some ((xs, d), r) → max a.1 d < room
      → newed E with_in room line j ≡ Some ((on line (node.New a.0 xs), max a.1 d + 1), r)
  unfolding newed new_arguments after
  newed_with with_in room line a xs d u j k r found is_u found_xs fits =
      rw (found, is_seen mark.LeftParen u.lexeme is_u, found_xs) (grown_ok room line (node.New a.0 xs) (max a.1 d) r fits)

  pub newed_bare : (with_in : Bool) (room line : ℕ) (a : Grown) (j r : Symbols) → E with_in 18 (room - 1) j ≡ Some (a, r)
      → sees mark.LeftParen (next_of r) ≡ false → a.1 < room → newed E with_in room line j ≡ Some ((on line (node.New a.0 []), a.1 + 1), r)
  unfolding newed new_arguments after
  newed_bare with_in room line a j r found unseen fits =
      let e : max a.1 0 ≡ a.1 = omega arith in rw (found, unseen, e) (grown_ok room line (node.New a.0 []) a.1 r fits)

  -- ---- arrays

  pub elements_end : (room n : ℕ) (found : List (Option Expr)) (below : ℕ) (t : Symbol) (r : Symbols) → 0 < n → t.lexeme ≡ Lexeme.mark mark.RightBracket
      → elements E room n found below (t ∷ r) ≡ Some ((found, below), r)
  unfolding elements after
  elements_end room zero found below t r some is = absurd (omega arith)
  elements_end room (suc n) found below t r some is = rw (is_seen mark.RightBracket t.lexeme is)

  pub elements_more : (room n : ℕ) (found : List (Option Expr)) (below : ℕ) (x : Option Expr × ℕ) (i r : Symbols) → 0 < n → sees mark.RightBracket (next_of i) ≡ false
      → element E room i ≡ Some (x, r) → elements E room n found below i ≡ elements E room (n - 1) (found ++ x.0 ∷ []) (max below x.1) r
  unfolding elements after
  elements_more room zero found below x i r some unseen is_x = absurd (omega arith)
  elements_more room (suc n) found below x i r some unseen is_x = rw (unseen, is_x) (turned (λ k. elements E room k (found ++ x.0 ∷ []) (max below x.1) r) n)

  pub element_hole : (room : ℕ) (t : Symbol) (r : Symbols) → t.lexeme ≡ Lexeme.mark mark.Comma → element E room (t ∷ r) ≡ Some ((None, 0), r)
  unfolding element after
  element_hole room t r is = rw (is_seen mark.Comma t.lexeme is)

  pub element_value : (room : ℕ) (a : Grown) (i j r : Symbols) → sees mark.Comma (next_of i) ≡ false → E true 2 (room - 1) i ≡ Some (a, j)
      → separate mark.RightBracket j ≡ Some (tt, r) → element E room i ≡ Some ((Some a.0, a.1), r)
  unfolding element valued_element after
  element_value room a i j r unseen is_a apart = rw (unseen, is_a, apart)

  -- ---- objects

  pub properties_end : (room n : ℕ) (found : List (List ℕ × Expr)) (below : ℕ) (t : Symbol) (r : Symbols) → 0 < n → t.lexeme ≡ Lexeme.mark mark.RightBrace
      → properties E room n found below (t ∷ r) ≡ Some ((found, below), r)
  unfolding properties after
  properties_end room zero found below t r some is = absurd (omega arith)
  properties_end room (suc n) found below t r some is = rw (is_seen mark.RightBrace t.lexeme is)

  pub properties_more : (room n : ℕ) (found : List (List ℕ × Expr)) (below : ℕ) (p : (List ℕ × Expr) × ℕ) (i r : Symbols) → 0 < n → sees mark.RightBrace (next_of i) ≡ false
      → property E room i ≡ Some (p, r) → properties E room n found below i ≡ properties E room (n - 1) (found ++ p.0 ∷ []) (max below p.1) r
  unfolding properties after
  properties_more room zero found below p i r some unseen is_p = absurd (omega arith)
  properties_more room (suc n) found below p i r some unseen is_p = rw (unseen, is_p) (turned (λ k. properties E room k (found ++ p.0 ∷ []) (max below p.1) r) n)

  pub property_pair : (room : ℕ) (key : List ℕ) (a : Grown) (t u : Symbol) (i j r : Symbols) → key_text t.lexeme ≡ Some key → u.lexeme ≡ Lexeme.mark mark.Colon
      → E true 2 (room - 1) i ≡ Some (a, j) → separate mark.RightBrace j ≡ Some (tt, r) → property E room (t ∷ u ∷ i) ≡ Some (((key, a.0), a.1), r)
  unfolding property property_value after
  property_pair room key a t u i j r is is_u is_a apart = rw (took_key key t (u ∷ i) is, is_seen mark.Colon u.lexeme is_u, is_a, apart)

  name_key : (x : Lexeme) (name : List ℕ) → x ≡ Lexeme.name name → key_text x ≡ Some name
  name_key x name e = rw e

  pub property_short : (room : ℕ) (name : List ℕ) (t u : Symbol) (i r : Symbols) → t.lexeme ≡ Lexeme.name name → sees mark.Colon (terminal_of u.lexeme) ≡ false
      → separate mark.RightBrace (u ∷ i) ≡ Some (tt, r) → 1 < room → property E room (t ∷ u ∷ i) ≡ Some (((name, on t.line (node.Name name)), 1), r)
  unfolding property property_value after
  property_short room name t u i r is unseen apart fits =
      rw (took_key name t (u ∷ i) (name_key t.lexeme name is), unseen, is, grown_ok (room - 1) t.line (node.Name name) 0 (u ∷ i) (omega arith), apart)

-- ---- parameters

pub names_last : (n : ℕ) (found : List (List ℕ)) (name : List ℕ) (t u : Symbol) (r : Symbols) → 0 < n → t.lexeme ≡ Lexeme.name name → u.lexeme ≡ Lexeme.mark mark.RightParen
    → names n found (t ∷ u ∷ r) ≡ Some (found ++ name ∷ [], r)
unfolding names after sees
names_last zero found name t u r some is is_u = absurd (omega arith)
names_last (suc n) found name t u r some is is_u = rw (took_name name t (u ∷ r) is, other_mark mark.Comma u.lexeme _ is_u refl, expected mark.RightParen u r is_u)

pub names_more : (n : ℕ) (found : List (List ℕ)) (name : List ℕ) (t u : Symbol) (r : Symbols) → 0 < n → t.lexeme ≡ Lexeme.name name → u.lexeme ≡ Lexeme.mark mark.Comma
    → names n found (t ∷ u ∷ r) ≡ names (n - 1) (found ++ name ∷ []) r
unfolding names after
names_more zero found name t u r some is is_u = absurd (omega arith)
names_more (suc n) found name t u r some is is_u = rw (took_name name t (u ∷ r) is, is_seen mark.Comma u.lexeme is_u) (turned (λ k. names k (found ++ name ∷ []) r) n)

joins_name : (found : List (List ℕ)) (a : List ℕ) (ys : List (List ℕ)) (r : Symbols)
    → ◌≡◌ {A = Option (List (List ℕ) × Symbols)} (Some ((found ++ a ∷ []) ++ ys, r)) (Some (found ++ (a ∷ ys), r))
joins_name found a ys r = rw (append_assoc found (a ∷ []) ys)

pub reads_names : {xs : List (List ℕ)} {i r : Symbols} → Names xs i r → (n : ℕ) (found : List (List ℕ)) → length i ≤ n → names n found i ≡ Some (found ++ xs, r)
reads_names (Names.last name t u r is_t is_u) n found turns = names_last n found name t u r (omega arith) is_t is_u
reads_names (Names.more name xs t u i r is_t is_u hp) n found turns =
    names_more n found name t u i (omega arith) is_t is_u ∙ reads_names hp (n - 1) (found ++ name ∷ []) (omega arith) ∙ joins_name found name xs r

names_open : {xs : List (List ℕ)} {i r : Symbols} → Names xs i r → sees mark.RightParen (next_of i) ≡ false
unfolding sees
names_open (Names.last name t u r is_t is_u) = rw is_t
names_open (Names.more name xs t u i r is_t is_u hp) = rw is_t

pub reads_parameters : {xs : List (List ℕ)} {i r : Symbols} → Parameters xs i r → parameters i ≡ Some (xs, r)
unfolding parameters some_names after
reads_parameters (Parameters.none t u r is_t is_u) = rw (expected mark.LeftParen t (u ∷ r) is_t, is_seen mark.RightParen u.lexeme is_u)
reads_parameters (Parameters.some xs t i r is_t hp) = rw (expected mark.LeftParen t i is_t, names_open hp) (reads_names hp (length i) [] (omega arith))

-- ---- lists of statements

module _ (S : Bool → ℕ → Reader Stood) where
  pub statements_end : (declares : Bool) (room n : ℕ) (found : List Stmt) (below : ℕ) (r : Symbols) → closes (next_of r) ≡ true
      → statements S declares room n found below r ≡ Some ((found, below), r)
  unfolding statements
  statements_end declares room zero found below r end = refl
  statements_end declares room (suc n) found below r end = rw end

  pub statements_more : (declares : Bool) (room n : ℕ) (found : List Stmt) (below : ℕ) (s : Stood) (i r : Symbols) → 0 < n → closes (next_of i) ≡ false
      → S declares (room - 1) i ≡ Some (s, r) → statements S declares room n found below i ≡ statements S declares room (n - 1) (found ++ s.0 ∷ []) (max below s.1) r
  unfolding statements
  statements_more declares room zero found below s i r some opens is_s = absurd (omega arith)
  statements_more declares room (suc n) found below s i r some opens is_s =
      rw (opens, is_s) (turned (λ k. statements S declares room k (found ++ s.0 ∷ []) (max below s.1) r) n)

  pub braced_ok : (declares : Bool) (room : ℕ) (ss : List Stmt × ℕ) (t u : Symbol) (i r : Symbols) → t.lexeme ≡ Lexeme.mark mark.LeftBrace
      → statements S declares room (length i) [] 0 i ≡ Some (ss, u ∷ r) → u.lexeme ≡ Lexeme.mark mark.RightBrace → braced S declares room (t ∷ i) ≡ Some (ss, r)
  unfolding braced whole_statements
  braced_ok declares room ss t u i r is_t found is_u = rw (expected mark.LeftBrace t i is_t, found, expected mark.RightBrace u r is_u)

  pub function_ok : (room : ℕ) (name : Option (List ℕ)) (params : List (List ℕ)) (body : List Stmt × ℕ) (i j r : Symbols) → parameters i ≡ Some (params, j)
      → braced S true room j ≡ Some (body, r) → function S room name i ≡ Some ((roll-FunctionTree (record { name = name; params = params; body = body.0 }), body.1), r)
  unfolding function
  function_ok room name params body i j r found_params found_body = rw (found_params, found_body)

module _ (E : Bool → ℕ → ℕ → Reader Grown) (S : Bool → ℕ → Reader Stood) where
  -- ---- operators before and after one value

  pub prefixed_unary : (with_in : Bool) (room line : ℕ) (op : UnaryOp) (a : Grown) (t : Symbol) (j r : Symbols) → prefix_of t.lexeme ≡ Some op
      → E with_in 14 (room - 1) j ≡ Some (a, r) → a.1 < room
      → operand E S with_in room line (t ∷ j) ≡ Some ((on line (node.Unary op a.0), a.1 + 1), r)
  unfolding operand prefix_unary
  prefixed_unary with_in room line op a t j r is found fits = rw (prefix_like t.lexeme, is, found) (grown_ok room line (node.Unary op a.0) a.1 r fits)

  pub prefixed_update : (with_in : Bool) (room line : ℕ) (op : UpdateOp) (a : Grown) (t : Symbol) (j r : Symbols) → prefix_of t.lexeme ≡ None → update_of t.lexeme ≡ Some op
      → E with_in 14 (room - 1) j ≡ Some (a, r) → is_target a.0 ≡ true → a.1 < room
      → operand E S with_in room line (t ∷ j) ≡ Some ((on line (node.Update op true a.0), a.1 + 1), r)
  unfolding operand prefix_update
  prefixed_update with_in room line op a t j r none is found target fits =
      rw (prefix_like t.lexeme, update_like t.lexeme, none, is, found, target) (grown_ok room line (node.Update op true a.0) a.1 r fits)

  pub unprefixed : (with_in : Bool) (room line : ℕ) (i : Symbols) → prefix_of (lexeme_of i) ≡ None → update_of (lexeme_of i) ≡ None
      → operand E S with_in room line i ≡ postfix E S with_in room line i
  unfolding operand
  unprefixed with_in room line i none other = rw (prefix_like (lexeme_of i), update_like (lexeme_of i), none, other)

  pub postfixed : (with_in : Bool) (room line : ℕ) (op : UpdateOp) (a : Grown) (t : Symbol) (i r : Symbols) → chained E S with_in true room line i ≡ Some (a, t ∷ r) → is_target a.0 ≡ true
      → update_of t.lexeme ≡ Some op → t.after_break ≡ false → a.1 < room
      → postfix E S with_in room line i ≡ Some ((on line (node.Update op false a.0), a.1 + 1), r)
  unfolding postfix updated
  postfixed with_in room line op a t i r found target is same fits =
      rw (found, same, update_like t.lexeme, is, target) (grown_ok room line (node.Update op false a.0) a.1 r fits)

  -- ---- primary expressions

  pub chained_from : (with_in with_calls : Bool) (room line : ℕ) (a : Grown) (i r : Symbols) → primary E S with_in room line i ≡ Some (a, r)
      → chained E S with_in with_calls room line i ≡ chain E with_calls room line (length r) a r
  unfolding chained whole_chain
  chained_from with_in with_calls room line a i r found = rw found

  pub primary_number : (with_in : Bool) (room line n : ℕ) (t : Symbol) (r : Symbols) → t.lexeme ≡ Lexeme.number n → 0 < room
      → primary E S with_in room line (t ∷ r) ≡ Some ((on line (node.Num (pos n)), 1), r)
  unfolding primary
  primary_number with_in room line n t r is fits =
      let e : terminal_of t.lexeme ≡ terminal.Number = ap terminal_of is in rw (e, took_number n t r is) (grown_ok room line (node.Num (pos n)) 0 r fits)

  pub primary_string : (with_in : Bool) (room line : ℕ) (text : List ℕ) (t : Symbol) (r : Symbols) → t.lexeme ≡ Lexeme.string text → 0 < room
      → primary E S with_in room line (t ∷ r) ≡ Some ((on line (node.Str text), 1), r)
  unfolding primary
  primary_string with_in room line text t r is fits =
      let e : terminal_of t.lexeme ≡ terminal.Str = ap terminal_of is in rw (e, took_string text t r is) (grown_ok room line (node.Str text) 0 r fits)

  pub primary_name : (with_in : Bool) (room line : ℕ) (text : List ℕ) (t : Symbol) (r : Symbols) → t.lexeme ≡ Lexeme.name text → 0 < room
      → primary E S with_in room line (t ∷ r) ≡ Some ((on line (node.Name text), 1), r)
  unfolding primary
  primary_name with_in room line text t r is fits =
      let e : terminal_of t.lexeme ≡ terminal.Name = ap terminal_of is in rw (e, took_name text t r is) (grown_ok room line (node.Name text) 0 r fits)

  pub primary_this : (with_in : Bool) (room line : ℕ) (t : Symbol) (r : Symbols) → t.lexeme ≡ Lexeme.reserved keyword.This → 0 < room
      → primary E S with_in room line (t ∷ r) ≡ Some ((on line node.This, 1), r)
  unfolding primary
  primary_this with_in room line t r is fits = rw is (grown_ok room line node.This 0 r fits)

  pub primary_null : (with_in : Bool) (room line : ℕ) (t : Symbol) (r : Symbols) → t.lexeme ≡ Lexeme.reserved keyword.Null → 0 < room
      → primary E S with_in room line (t ∷ r) ≡ Some ((on line node.Null, 1), r)
  unfolding primary
  primary_null with_in room line t r is fits = rw is (grown_ok room line node.Null 0 r fits)

  pub primary_true : (with_in : Bool) (room line : ℕ) (t : Symbol) (r : Symbols) → t.lexeme ≡ Lexeme.reserved keyword.True → 0 < room
      → primary E S with_in room line (t ∷ r) ≡ Some ((on line (node.Bool true), 1), r)
  unfolding primary
  primary_true with_in room line t r is fits = rw is (grown_ok room line (node.Bool true) 0 r fits)

  pub primary_false : (with_in : Bool) (room line : ℕ) (t : Symbol) (r : Symbols) → t.lexeme ≡ Lexeme.reserved keyword.False → 0 < room
      → primary E S with_in room line (t ∷ r) ≡ Some ((on line (node.Bool false), 1), r)
  unfolding primary
  primary_false with_in room line t r is fits = rw is (grown_ok room line (node.Bool false) 0 r fits)

  pub primary_paren : (with_in : Bool) (room line : ℕ) (a : Grown) (t u : Symbol) (j r : Symbols) → t.lexeme ≡ Lexeme.mark mark.LeftParen → E true 1 room j ≡ Some (a, u ∷ r)
      → u.lexeme ≡ Lexeme.mark mark.RightParen → primary E S with_in room line (t ∷ j) ≡ Some (a, r)
  unfolding primary parenthesized
  primary_paren with_in room line a t u j r is found is_u = rw (is, found, expected mark.RightParen u r is_u)

  pub primary_array : (with_in : Bool) (room line : ℕ) (xs : List (Option Expr)) (d : ℕ) (t : Symbol) (j r : Symbols) → t.lexeme ≡ Lexeme.mark mark.LeftBracket
      → elements E room (length j) [] 0 j ≡ Some ((xs, d), r) → d < room → primary E S with_in room line (t ∷ j) ≡ Some ((on line (node.Array xs), d + 1), r)
  unfolding primary array whole_elements
  primary_array with_in room line xs d t j r is found fits = rw (is, found) (grown_ok room line (node.Array xs) d r fits)

  pub primary_object : (with_in : Bool) (room line : ℕ) (ps : List (List ℕ × Expr)) (d : ℕ) (t : Symbol) (j r : Symbols) → t.lexeme ≡ Lexeme.mark mark.LeftBrace
      → properties E room (length j) [] 0 j ≡ Some ((ps, d), r) → d < room → primary E S with_in room line (t ∷ j) ≡ Some ((on line (node.Object ps), d + 1), r)
  unfolding primary object whole_properties
  primary_object with_in room line ps d t j r is found fits = rw (is, found) (grown_ok room line (node.Object ps) d r fits)

  pub primary_new : (with_in : Bool) (room line : ℕ) (a : Grown) (t : Symbol) (j r : Symbols) → t.lexeme ≡ Lexeme.reserved keyword.New → newed E with_in room line j ≡ Some (a, r)
      → primary E S with_in room line (t ∷ j) ≡ Some (a, r)
  unfolding primary
  primary_new with_in room line a t j r is found = rw (is, found)

  pub primary_function : (with_in : Bool) (room line : ℕ) (f : FunctionTree × ℕ) (t : Symbol) (j r : Symbols) → t.lexeme ≡ Lexeme.reserved keyword.Function
      → next_of j ≡ terminal.Mark mark.LeftParen → function S room None j ≡ Some (f, r) → f.1 < room
      → primary E S with_in room line (t ∷ j) ≡ Some ((on line (node.Function f.0), f.1 + 1), r)
  unfolding primary function_value optional_name
  primary_function with_in room line f t j r is opens found fits =
      let e : terminal_of t.lexeme ≡ terminal.Reserved keyword.Function = ap terminal_of is in
      rw (e, opens, found) (grown_ok room line (node.Function f.0) f.1 r fits)

  pub primary_named : (with_in : Bool) (room line : ℕ) (name : List ℕ) (f : FunctionTree × ℕ) (t u : Symbol) (j r : Symbols) → t.lexeme ≡ Lexeme.reserved keyword.Function
      → u.lexeme ≡ Lexeme.name name → function S room (Some name) j ≡ Some (f, r) → f.1 < room
      → primary E S with_in room line (t ∷ u ∷ j) ≡ Some ((on line (node.Function f.0), f.1 + 1), r)
  unfolding primary function_value optional_name
  primary_named with_in room line name f t u j r is is_u found fits =
      let e : terminal_of t.lexeme ≡ terminal.Reserved keyword.Function = ap terminal_of is in let e_u : terminal_of u.lexeme ≡ terminal.Name = ap terminal_of is_u in
      rw (e, e_u, took_name name u j is_u, found) (grown_ok room line (node.Function f.0) f.1 r fits)

  -- ---- levels

  pub level_climbs : (with_in : Bool) (least room : ℕ) (i : Symbols) (a : Grown) (r : Symbols) → least ≤ 14 → operand E S with_in room (line_of i) i ≡ Some (a, r)
      → level_of E S with_in least room i ≡ climb E with_in least room (line_of i) (length r) a r
  unfolding level_of operators whole_climb
  level_climbs with_in least room i a r low found = rw (lt_no 14 least low, found)

  pub level_chains : (with_in : Bool) (room : ℕ) (i : Symbols) → level_of E S with_in 18 room i ≡ chained E S with_in false room (line_of i) i
  unfolding level_of
  level_chains with_in room i = refl

-- ---- with one more level of nesting

pub nested : (fuel : ℕ) (with_in : Bool) (lower room : ℕ) → 0 < fuel → 0 < room → (i : Symbols)
    → expr fuel with_in lower room i ≡ level_of (expr (fuel - 1)) (stmt (fuel - 1)) with_in lower room i
unfolding expr
nested zero with_in lower room some fits i = absurd (omega arith)
nested (suc fuel) with_in lower room some fits i =
    let filled : (room == 0) ≡ false = grind (arith, nat_tests) in rw filled (turned (λ k. level_of (expr k) (stmt k) with_in lower room i) fuel)
