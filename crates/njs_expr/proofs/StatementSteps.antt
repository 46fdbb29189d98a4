-- What each step of reading a statement gives, from what its parts give.
use Rattle.std.proofs.Common.{◌≡◌, ℕ, zero, suc, ◌+◌, ◌-◌, max, ◌<◌, Bool, true, false, ◌&&◌, ◌||◌, ◌==◌, List, [], ◌∷◌, ◌++◌, length, Option, Some, None, ap, arith, is_none}
use Rattle.std.proofs.lemmas.Bool.Decides.{nat_tests}
use Rattle.njs_tree.specs.declared.token.Keyword.{Keyword}
use Rattle.njs_tree.specs.declared.token.Keyword.TheVariants as keyword
use Rattle.njs_tree.specs.declared.token.Mark.{Mark}
use Rattle.njs_tree.specs.declared.token.Mark.TheVariants as mark
use Rattle.njs_tree.specs.declared.tree.Expr.{Expr}
use Rattle.njs_tree.specs.declared.tree.Stmt.{Stmt}
use Rattle.njs_tree.specs.declared.tree.StmtNode.TheVariants as step
use Rattle.njs_tree.specs.declared.tree.FunctionTree.{FunctionTree}
use Rattle.njs_tree.specs.declared.tree.ForFirst.{ForFirst}
use Rattle.njs_tree.specs.declared.tree.ForFirst.TheVariants as first
use Rattle.njs_tree.specs.declared.tree.ForInHead.{ForInHead}
use Rattle.njs_tree.specs.declared.tree.ForInHead.TheVariants as head
use Rattle.njs_tree.specs.declared.tree.Case.{Case, roll-Case}
use Rattle.njs_expr.specs.declared.terminal.Terminal.{Terminal}
use Rattle.njs_expr.specs.declared.terminal.Terminal.TheVariants as terminal
use Rattle.njs_tree.specs.Lexemes.{Lexeme, Symbol}
use Rattle.njs_tree.specs.Symbols.{breaks}
use Rattle.njs_tree.specs.Grammar.{stands, is_target, is_loop}
use Rattle.njs_expr.specs.Readers.{Symbols, Reader, terminal_of, next_of, second_of, sees, sees_word, after, after_word, semicolon, take_name, Grown, Stood}
use Rattle.njs_expr.specs.Expressions.{whole_statements, statements, braced, function}
use Rattle.njs_expr.specs.Statements.{begins_for_in, label_by, optional_label, continue_by, break_by, ends_here, grouped, given, optional, assigned_value, initial_value, declarator, declarators, whole_declarators, var_by, expr_by, returned_value, returned, return_by, thrown, throw_by, block_by, label_statement, declaration_by, caught, optional_catch, final_block, optional_finally, try_by, else_by, if_by, do_by, while_by, for_rest, for_in_rest, for_in_var, for_plain_var, for_var, for_in_target, for_expr, for_first, for_by, tested, case_test, one_case, cases, whole_cases, switch_by, name_by, function_by, statement_by, one_statement}
use Rattle.njs_expr.specs.Descent.{expr, stmt}
use Rattle.njs_expr.proofs.Terminals.{is_seen, is_word_seen}
use Rattle.njs_expr.proofs.Forwards.{stood_ok, expected, expected_word, took_name}
use Rattle.njs_expr.proofs.ExpressionSteps.{turned}

-- ---- `continue` and `break`

label_named : (k : Terminal) (same : Bool) (label : List ℕ) (i r : Symbols) → k ≡ terminal.Name → same ≡ false → take_name i ≡ Some (label, r)
    → label_by k same i ≡ Some (Some label, r)
label_named k same label i r e f found = rw (e, f, found)

pub label_here : (label : List ℕ) (u : Symbol) (j : Symbols) → u.lexeme ≡ Lexeme.name label → u.after_break ≡ false → optional_label (u ∷ j) ≡ Some (Some label, j)
unfolding optional_label
label_here label u j is same = label_named (terminal_of u.lexeme) u.after_break label (u ∷ j) j (ap terminal_of is) same (took_name label u j is)

pub continued : (room line : ℕ) (label : Option (List ℕ)) (i j r : Symbols) → optional_label i ≡ Some (label, j) → semicolon j ≡ Some (tt, r) → 0 < room
    → continue_by room line i ≡ Some ((stands line (step.Continue label), 1), r)
unfolding continue_by
continued room line label i j r found ending fits = rw (found, ending) (stood_ok room line (step.Continue label) 0 r fits)

pub broken : (room line : ℕ) (label : Option (List ℕ)) (i j r : Symbols) → optional_label i ≡ Some (label, j) → semicolon j ≡ Some (tt, r) → 0 < room
    → break_by room line i ≡ Some ((stands line (step.Break label), 1), r)
unfolding break_by
broken room line label i j r found ending fits = rw (found, ending) (stood_ok room line (step.Break label) 0 r fits)

module _ (E : Bool → ℕ → ℕ → Reader Grown) where
  -- ---- expressions in statements

  pub grouped_ok : (room : ℕ) (a : Grown) (t u : Symbol) (i r : Symbols) → t.lexeme ≡ Lexeme.mark mark.LeftParen → E true 1 room i ≡ Some (a, u ∷ r)
      → u.lexeme ≡ Lexeme.mark mark.RightParen → grouped E room (t ∷ i) ≡ Some (a, r)
  unfolding grouped
  grouped_ok room a t u i r is found is_u = rw (expected mark.LeftParen t i is, found, expected mark.RightParen u r is_u)

  pub optional_none : (room : ℕ) (m : Mark) (t : Symbol) (r : Symbols) → t.lexeme ≡ Lexeme.mark m → optional E room m (t ∷ r) ≡ Some ((None, 0), r)
  unfolding optional after
  optional_none room m t r is = rw (is_seen m t.lexeme is)

  pub optional_given : (room : ℕ) (m : Mark) (a : Grown) (t : Symbol) (i r : Symbols) → sees m (next_of i) ≡ false → E true 1 room i ≡ Some (a, t ∷ r)
      → t.lexeme ≡ Lexeme.mark m → optional E room m i ≡ Some ((Some a.0, a.1), r)
  unfolding optional given after
  optional_given room m a t i r unseen found is = rw (unseen, found, expected m t r is)

  -- ---- `var`

  pub declarator_bare : (with_in : Bool) (room : ℕ) (name : List ℕ) (t : Symbol) (r : Symbols) → t.lexeme ≡ Lexeme.name name → sees mark.Assign (next_of r) ≡ false
      → declarator E with_in room (t ∷ r) ≡ Some (((name, None), 0), r)
  unfolding declarator initial_value after
  declarator_bare with_in room name t r is unseen = rw (took_name name t r is, unseen)

  pub declarator_value : (with_in : Bool) (room : ℕ) (name : List ℕ) (a : Grown) (t u : Symbol) (i r : Symbols) → t.lexeme ≡ Lexeme.name name
      → u.lexeme ≡ Lexeme.mark mark.Assign → E with_in 2 room i ≡ Some (a, r) → declarator E with_in room (t ∷ u ∷ i) ≡ Some (((name, Some a.0), a.1), r)
  unfolding declarator initial_value assigned_value after
  declarator_value with_in room name a t u i r is is_u found = rw (took_name name t (u ∷ i) is, is_seen mark.Assign u.lexeme is_u, found)

  pub declarators_last : (with_in : Bool) (room n : ℕ) (found : List (List ℕ × Option Expr)) (below : ℕ) (v : (List ℕ × Option Expr) × ℕ) (i r : Symbols) → 0 < n
      → declarator E with_in room i ≡ Some (v, r) → sees mark.Comma (next_of r) ≡ false
      → declarators E with_in room n found below i ≡ Some ((found ++ v.0 ∷ [], max below v.1), r)
  unfolding declarators after
  declarators_last with_in room zero found below v i r some is_v unseen = absurd (omega arith)
  declarators_last with_in room (suc n) found below v i r some is_v unseen = rw (is_v, unseen)

  pub declarators_more : (with_in : Bool) (room n : ℕ) (found : List (List ℕ × Option Expr)) (below : ℕ) (v : (List ℕ × Option Expr) × ℕ) (t : Symbol) (i r : Symbols) → 0 < n
      → declarator E with_in room i ≡ Some (v, t ∷ r) → t.lexeme ≡ Lexeme.mark mark.Comma
      → declarators E with_in room n found below i ≡ declarators E with_in room (n - 1) (found ++ v.0 ∷ []) (max below v.1) r
  unfolding declarators after
  declarators_more with_in room zero found below v t i r some is_v is = absurd (omega arith)
  declarators_more with_in room (suc n) found below v t i r some is_v is =
      rw (is_v, is_seen mark.Comma t.lexeme is) (turned (λ k. declarators E with_in room k (found ++ v.0 ∷ []) (max below v.1) r) n)

  pub var_ok : (room line : ℕ) (vs : List (List ℕ × Option Expr)) (d : ℕ) (i k r : Symbols) → declarators E true (room - 1) (length i) [] 0 i ≡ Some ((vs, d), k)
      → semicolon k ≡ Some (tt, r) → d < room → var_by E room line i ≡ Some ((stands line (step.Var vs), d + 1), r)
  unfolding var_by whole_declarators
  var_ok room line vs d i k r found ending fits = rw (found, ending) (stood_ok room line (step.Var vs) d r fits)

  -- ---- statements without statements in them

  pub expr_ok : (room line : ℕ) (a : Grown) (i k r : Symbols) → E true 1 (room - 1) i ≡ Some (a, k) → semicolon k ≡ Some (tt, r) → a.1 < room
      → expr_by E room line i ≡ Some ((stands line (step.Expr a.0), a.1 + 1), r)
  unfolding expr_by
  expr_ok room line a i k r found ending fits = rw (found, ending) (stood_ok room line (step.Expr a.0) a.1 r fits)

  pub return_none : (room line : ℕ) (i r : Symbols) → ends_here i ≡ true → semicolon i ≡ Some (tt, r) → 0 < room
      → return_by E room line i ≡ Some ((stands line (step.Return None), 1), r)
  unfolding return_by returned
  return_none room line i r here ending fits = rw (here, ending) (stood_ok room line (step.Return None) 0 r fits)

  pub return_some : (room line : ℕ) (a : Grown) (i k r : Symbols) → ends_here i ≡ false → E true 1 (room - 1) i ≡ Some (a, k) → semicolon k ≡ Some (tt, r) → a.1 < room
      → return_by E room line i ≡ Some ((stands line (step.Return (Some a.0)), a.1 + 1), r)
  unfolding return_by returned_value
  return_some room line a i k r here found ending fits = rw (here, found, ending) (stood_ok room line (step.Return (Some a.0)) a.1 r fits)

  pub throw_ok : (room line : ℕ) (a : Grown) (i k r : Symbols) → breaks i ≡ false → E true 1 (room - 1) i ≡ Some (a, k) → semicolon k ≡ Some (tt, r) → a.1 < room
      → throw_by E room line i ≡ Some ((stands line (step.Throw a.0), a.1 + 1), r)
  unfolding throw_by thrown
  throw_ok room line a i k r same found ending fits = rw (same, found, ending) (stood_ok room line (step.Throw a.0) a.1 r fits)

module _ (S : Bool → ℕ → Reader Stood) where
  pub block_ok : (room line : ℕ) (ss : List Stmt × ℕ) (i r : Symbols) → braced S false room i ≡ Some (ss, r) → ss.1 < room
      → block_by S room line i ≡ Some ((stands line (step.Block ss.0), ss.1 + 1), r)
  unfolding block_by
  block_ok room line ss i r found fits = rw found (stood_ok room line (step.Block ss.0) ss.1 r fits)

  pub label_ok : (room line : ℕ) (name : List ℕ) (s : Stood) (t u : Symbol) (j r : Symbols) → t.lexeme ≡ Lexeme.name name → u.lexeme ≡ Lexeme.mark mark.Colon
      → S false (room - 1) j ≡ Some (s, r) → is_loop s.0 ≡ true → s.1 < room → label_statement S room line (t ∷ u ∷ j) ≡ Some ((stands line (step.Label name s.0), s.1 + 1), r)
  unfolding label_statement
  label_ok room line name s t u j r is is_u found loop fits =
      rw (took_name name t (u ∷ j) is, expected mark.Colon u j is_u, found, loop) (stood_ok room line (step.Label name s.0) s.1 r fits)

  pub declaration_ok : (room line : ℕ) (name : List ℕ) (f : FunctionTree × ℕ) (u : Symbol) (j r : Symbols) → u.lexeme ≡ Lexeme.name name
      → function S room (Some name) j ≡ Some (f, r) → f.1 < room → declaration_by S room line (u ∷ j) ≡ Some ((stands line (step.FunctionDecl f.0), f.1 + 1), r)
  unfolding declaration_by
  declaration_ok room line name f u j r is_u found fits = rw (took_name name u j is_u, found) (stood_ok room line (step.FunctionDecl f.0) f.1 r fits)

  -- ---- `try`

  pub catch_ok : (room : ℕ) (name : List ℕ) (ss : List Stmt × ℕ) (t u v w : Symbol) (i r : Symbols) → t.lexeme ≡ Lexeme.reserved keyword.Catch → u.lexeme ≡ Lexeme.mark mark.LeftParen
      → v.lexeme ≡ Lexeme.name name → w.lexeme ≡ Lexeme.mark mark.RightParen → braced S false room i ≡ Some (ss, r)
      → optional_catch S room (t ∷ u ∷ v ∷ w ∷ i) ≡ Some ((Some (name, ss.0), ss.1), r)
  unfolding optional_catch caught after_word
  catch_ok room name ss t u v w i r is is_u is_v is_w found =
      rw (is_word_seen keyword.Catch t.lexeme is, expected mark.LeftParen u (v ∷ w ∷ i) is_u, took_name name v (w ∷ i) is_v, expected mark.RightParen w i is_w, found)

  pub catch_none : (room : ℕ) (i : Symbols) → sees_word keyword.Catch (next_of i) ≡ false → optional_catch S room i ≡ Some ((None, 0), i)
  unfolding optional_catch after_word
  catch_none room i unseen = rw unseen

  pub finally_ok : (room : ℕ) (ss : List Stmt × ℕ) (t : Symbol) (i r : Symbols) → t.lexeme ≡ Lexeme.reserved keyword.Finally → braced S false room i ≡ Some (ss, r)
      → optional_finally S room (t ∷ i) ≡ Some ((Some ss.0, ss.1), r)
  unfolding optional_finally final_block after_word
  finally_ok room ss t i r is found = rw (is_word_seen keyword.Finally t.lexeme is, found)

  pub finally_none : (room : ℕ) (i : Symbols) → sees_word keyword.Finally (next_of i) ≡ false → optional_finally S room i ≡ Some ((None, 0), i)
  unfolding optional_finally after_word
  finally_none room i unseen = rw unseen

  pub try_ok : (room line : ℕ) (ss : List Stmt × ℕ) (c : Option (List ℕ × List Stmt) × ℕ) (f : Option (List Stmt) × ℕ) (i j k r : Symbols) → braced S false room i ≡ Some (ss, j)
      → optional_catch S room j ≡ Some (c, k) → optional_finally S room k ≡ Some (f, r) → (is_none c.0 && is_none f.0) ≡ false → max ss.1 (max c.1 f.1) < room
      → try_by S room line i ≡ Some ((stands line (step.Try ss.0 c.0 f.0), max ss.1 (max c.1 f.1) + 1), r)
  unfolding try_by
  try_ok room line ss c f i j k r found found_c found_f some fits = rw (found, found_c, found_f, some) (stood_ok room line (step.Try ss.0 c.0 f.0) (max ss.1 (max c.1 f.1)) r fits)

module _ (E : Bool → ℕ → ℕ → Reader Grown) (S : Bool → ℕ → Reader Stood) where
  -- ---- `if` and loops

  pub if_none : (room line : ℕ) (a : Grown) (s : Stood) (i j r : Symbols) → grouped E (room - 1) i ≡ Some (a, j) → S false (room - 1) j ≡ Some (s, r)
      → sees_word keyword.Else (next_of r) ≡ false → max a.1 s.1 < room → if_by E S room line i ≡ Some ((stands line (step.If a.0 s.0 None), max a.1 s.1 + 1), r)
  unfolding if_by after_word
  if_none room line a s i j r found found_s unseen fits = rw (found, found_s, unseen) (stood_ok room line (step.If a.0 s.0 None) (max a.1 s.1) r fits)

  pub if_some : (room line : ℕ) (a : Grown) (s o : Stood) (u : Symbol) (i j k r : Symbols) → grouped E (room - 1) i ≡ Some (a, j) → S false (room - 1) j ≡ Some (s, u ∷ k)
      → u.lexeme ≡ Lexeme.reserved keyword.Else → S false (room - 1) k ≡ Some (o, r) → max a.1 (max s.1 o.1) < room
      → if_by E S room line i ≡ Some ((stands line (step.If a.0 s.0 (Some o.0)), max a.1 (max s.1 o.1) + 1), r)
  unfolding if_by else_by after_word
  if_some room line a s o u i j k r found found_s is_u found_o fits =
      rw (found, found_s, is_word_seen keyword.Else u.lexeme is_u, found_o) (stood_ok room line (step.If a.0 s.0 (Some o.0)) (max a.1 (max s.1 o.1)) r fits)

  pub do_ok : (room line : ℕ) (s : Stood) (a : Grown) (u : Symbol) (i j k r : Symbols) → S false (room - 1) i ≡ Some (s, u ∷ j) → u.lexeme ≡ Lexeme.reserved keyword.While
      → grouped E (room - 1) j ≡ Some (a, k) → semicolon k ≡ Some (tt, r) → max s.1 a.1 < room → do_by E S room line i ≡ Some ((stands line (step.Do s.0 a.0), max s.1 a.1 + 1), r)
  unfolding do_by
  do_ok room line s a u i j k r found_s is_u found ending fits =
      rw (found_s, expected_word keyword.While u j is_u, found, ending) (stood_ok room line (step.Do s.0 a.0) (max s.1 a.1) r fits)

  pub while_ok : (room line : ℕ) (a : Grown) (s : Stood) (i j r : Symbols) → grouped E (room - 1) i ≡ Some (a, j) → S false (room - 1) j ≡ Some (s, r)
      → max a.1 s.1 < room → while_by E S room line i ≡ Some ((stands line (step.While a.0 s.0), max a.1 s.1 + 1), r)
  unfolding while_by
  while_ok room line a s i j r found found_s fits = rw (found, found_s) (stood_ok room line (step.While a.0 s.0) (max a.1 s.1) r fits)

  pub for_rest_ok : (room line : ℕ) (f : Option ForFirst) (df : ℕ) (a b : Option Expr × ℕ) (s : Stood) (t : Symbol) (j k l r : Symbols) → t.lexeme ≡ Lexeme.mark mark.Semicolon
      → optional E (room - 1) mark.Semicolon j ≡ Some (a, k) → optional E (room - 1) mark.RightParen k ≡ Some (b, l) → S false (room - 1) l ≡ Some (s, r)
      → max df (max a.1 (max b.1 s.1)) < room
      → for_rest E S room line f df (t ∷ j) ≡ Some ((stands line (step.For f a.0 b.0 s.0), max df (max a.1 (max b.1 s.1)) + 1), r)
  unfolding for_rest
  for_rest_ok room line f df a b s t j k l r is found_a found_b found_s fits =
      rw (expected mark.Semicolon t j is, found_a, found_b, found_s) (stood_ok room line (step.For f a.0 b.0 s.0) (max df (max a.1 (max b.1 s.1))) r fits)

  pub for_in_rest_ok : (room line : ℕ) (h : ForInHead) (dh : ℕ) (a : Grown) (s : Stood) (v w : Symbol) (j k r : Symbols) → v.lexeme ≡ Lexeme.reserved keyword.In
      → E true 1 (room - 1) j ≡ Some (a, w ∷ k) → w.lexeme ≡ Lexeme.mark mark.RightParen → S false (room - 1) k ≡ Some (s, r) → max dh (max a.1 s.1) < room
      → for_in_rest E S room line h dh (v ∷ j) ≡ Some ((stands line (step.ForIn h a.0 s.0), max dh (max a.1 s.1) + 1), r)
  unfolding for_in_rest
  for_in_rest_ok room line h dh a s v w j k r is_v found is_w found_s fits =
      rw (expected_word keyword.In v j is_v, found, expected mark.RightParen w k is_w, found_s) (stood_ok room line (step.ForIn h a.0 s.0) (max dh (max a.1 s.1)) r fits)

  pub for_opened : (room line : ℕ) (u : Symbol) (i : Symbols) → u.lexeme ≡ Lexeme.mark mark.LeftParen → for_by E S room line (u ∷ i) ≡ for_first E S room line (next_of i) i
  unfolding for_by
  for_opened room line u i is_u = rw (expected mark.LeftParen u i is_u)

  pub first_none : (room line : ℕ) (t : Symbol) (r : Symbols) → t.lexeme ≡ Lexeme.mark mark.Semicolon → for_first E S room line (next_of (t ∷ r)) (t ∷ r) ≡ for_rest E S room line None 0 (t ∷ r)
  first_none room line t r is = let e : terminal_of t.lexeme ≡ terminal.Mark mark.Semicolon = ap terminal_of is in rw e

  pub first_var : (room line : ℕ) (vs : List (List ℕ × Option Expr)) (d : ℕ) (t : Symbol) (i r : Symbols) → t.lexeme ≡ Lexeme.reserved keyword.Var
      → begins_for_in (next_of i) (second_of i) ≡ false → declarators E false (room - 1) (length i) [] 0 i ≡ Some ((vs, d), r)
      → for_first E S room line (next_of (t ∷ i)) (t ∷ i) ≡ for_rest E S room line (Some (first.Var vs)) d r
  unfolding for_var for_plain_var whole_declarators
  first_var room line vs d t i r is unlike found = let e : terminal_of t.lexeme ≡ terminal.Reserved keyword.Var = ap terminal_of is in rw (e, unlike, found)

  pub head_var : (room line : ℕ) (name : List ℕ) (t u : Symbol) (r : Symbols) → t.lexeme ≡ Lexeme.reserved keyword.Var → u.lexeme ≡ Lexeme.name name → sees_word keyword.In (next_of r) ≡ true
      → for_first E S room line (next_of (t ∷ u ∷ r)) (t ∷ u ∷ r) ≡ for_in_rest E S room line (head.Var name) 0 r
  unfolding for_var for_in_var
  head_var room line name t u r is is_u seen =
      let e : terminal_of t.lexeme ≡ terminal.Reserved keyword.Var = ap terminal_of is in let e_u : terminal_of u.lexeme ≡ terminal.Name = ap terminal_of is_u in
      rw (e, e_u, seen, took_name name u r is_u)

  pub first_expr : (room line : ℕ) (a : Grown) (i r : Symbols) → E false 1 (room - 1) i ≡ Some (a, r) → sees_word keyword.In (next_of r) ≡ false
      → for_expr E S room line i ≡ for_rest E S room line (Some (first.Expr a.0)) a.1 r
  unfolding for_expr
  first_expr room line a i r found unseen = rw (found, unseen)

  pub head_target : (room line : ℕ) (a : Grown) (i r : Symbols) → E false 1 (room - 1) i ≡ Some (a, r) → sees_word keyword.In (next_of r) ≡ true → is_target a.0 ≡ true
      → for_expr E S room line i ≡ for_in_rest E S room line (head.Target a.0) a.1 r
  unfolding for_expr for_in_target
  head_target room line a i r found seen target = rw (found, seen, target)

  -- ---- `switch`

  pub case_ok : (room : ℕ) (has_default : Bool) (a : Grown) (ss : List Stmt × ℕ) (t u : Symbol) (i j k : Symbols) → t.lexeme ≡ Lexeme.reserved keyword.Case
      → E true 1 (room - 1) i ≡ Some (a, u ∷ j) → u.lexeme ≡ Lexeme.mark mark.Colon → statements S false room (length j) [] 0 j ≡ Some (ss, k)
      → one_case E S room has_default (t ∷ i) ≡ Some ((roll-Case (record { test = Some a.0; body = ss.0 }), max a.1 ss.1, has_default || false), k)
  unfolding one_case case_test tested whole_statements
  case_ok room has_default a ss t u i j k is found is_u found_ss =
      let e : terminal_of t.lexeme ≡ terminal.Reserved keyword.Case = ap terminal_of is in rw (e, found, expected mark.Colon u j is_u, found_ss)

  pub default_ok : (room : ℕ) (ss : List Stmt × ℕ) (t u : Symbol) (j k : Symbols) → t.lexeme ≡ Lexeme.reserved keyword.Default
      → u.lexeme ≡ Lexeme.mark mark.Colon → statements S false room (length j) [] 0 j ≡ Some (ss, k)
      → one_case E S room false (t ∷ u ∷ j) ≡ Some ((roll-Case (record { test = None; body = ss.0 }), max 0 ss.1, true), k)
  unfolding one_case case_test whole_statements
  default_ok room ss t u j k is is_u found_ss =
      let e : terminal_of t.lexeme ≡ terminal.Reserved keyword.Default = ap terminal_of is in rw (e, expected mark.Colon u j is_u, found_ss)

  pub cases_end : (room n : ℕ) (has_default : Bool) (found : List Case) (below : ℕ) (t : Symbol) (r : Symbols) → 0 < n → t.lexeme ≡ Lexeme.mark mark.RightBrace
      → cases E S room n has_default found below (t ∷ r) ≡ Some ((found, below), r)
  unfolding cases after
  cases_end room zero has_default found below t r some is = absurd (omega arith)
  cases_end room (suc n) has_default found below t r some is = rw (is_seen mark.RightBrace t.lexeme is)

  pub cases_more : (room n : ℕ) (has_default : Bool) (found : List Case) (below : ℕ) (c : Case × ℕ × Bool) (i r : Symbols) → 0 < n → sees mark.RightBrace (next_of i) ≡ false
      → one_case E S room has_default i ≡ Some (c, r)
      → cases E S room n has_default found below i ≡ cases E S room (n - 1) c.2 (found ++ c.0 ∷ []) (max below c.1) r
  unfolding cases after
  cases_more room zero has_default found below c i r some unseen is_c = absurd (omega arith)
  cases_more room (suc n) has_default found below c i r some unseen is_c =
      rw (unseen, is_c) (turned (λ k. cases E S room k c.2 (found ++ c.0 ∷ []) (max below c.1) r) n)

  pub switch_ok : (room line : ℕ) (a : Grown) (cs : List Case × ℕ) (u : Symbol) (i j r : Symbols) → grouped E (room - 1) i ≡ Some (a, u ∷ j) → u.lexeme ≡ Lexeme.mark mark.LeftBrace
      → cases E S room (length j) false [] 0 j ≡ Some (cs, r) → max a.1 cs.1 < room → switch_by E S room line i ≡ Some ((stands line (step.Switch a.0 cs.0), max a.1 cs.1 + 1), r)
  unfolding switch_by whole_cases
  switch_ok room line a cs u i j r found is_u found_cs fits =
      rw (found, expected mark.LeftBrace u j is_u, found_cs) (stood_ok room line (step.Switch a.0 cs.0) (max a.1 cs.1) r fits)

  -- ---- by the first symbols

  pub by_word : (declares : Bool) (room : ℕ) (w : Keyword) (t : Symbol) (i : Symbols) → t.lexeme ≡ Lexeme.reserved w
      → one_statement E S declares room (t ∷ i) ≡ statement_by E S declares room t.line (terminal.Reserved w) (next_of i) (t ∷ i)
  unfolding one_statement
  by_word declares room w t i is = let e : terminal_of t.lexeme ≡ terminal.Reserved w = ap terminal_of is in rw e

  pub by_mark : (declares : Bool) (room : ℕ) (m : Mark) (t : Symbol) (i : Symbols) → t.lexeme ≡ Lexeme.mark m
      → one_statement E S declares room (t ∷ i) ≡ statement_by E S declares room t.line (terminal.Mark m) (next_of i) (t ∷ i)
  unfolding one_statement
  by_mark declares room m t i is = let e : terminal_of t.lexeme ≡ terminal.Mark m = ap terminal_of is in rw e

  pub by_label : (declares : Bool) (room : ℕ) (name : List ℕ) (t u : Symbol) (j : Symbols) → t.lexeme ≡ Lexeme.name name → u.lexeme ≡ Lexeme.mark mark.Colon
      → one_statement E S declares room (t ∷ u ∷ j) ≡ label_statement S room t.line (t ∷ u ∷ j)
  unfolding one_statement name_by
  by_label declares room name t u j is is_u = let e : terminal_of t.lexeme ≡ terminal.Name = ap terminal_of is in rw (e, is_seen mark.Colon u.lexeme is_u)

  pub by_declaration : (room : ℕ) (t : Symbol) (i : Symbols) → t.lexeme ≡ Lexeme.reserved keyword.Function
      → one_statement E S true room (t ∷ i) ≡ declaration_by S room t.line i
  unfolding one_statement function_by
  by_declaration room t i is = let e : terminal_of t.lexeme ≡ terminal.Reserved keyword.Function = ap terminal_of is in rw e

-- ---- with one more level of nesting

pub nested_statement : (fuel : ℕ) (declares : Bool) (room : ℕ) → 0 < fuel → 0 < room → (i : Symbols)
    → stmt fuel declares room i ≡ one_statement (expr (fuel - 1)) (stmt (fuel - 1)) declares room i
unfolding stmt
nested_statement zero declares room some fits i = absurd (omega arith)
nested_statement (suc fuel) declares room some fits i =
    let filled : (room == 0) ≡ false = grind (arith, nat_tests) in rw filled (turned (λ k. one_statement (expr k) (stmt k) declares room i) fuel)
