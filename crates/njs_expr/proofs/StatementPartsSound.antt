-- What the rules of parts of statements read is spelled, where their own parts are.
use Rattle.std.proofs.Common.{◌≡◌, ℕ, zero, suc, ◌-◌, max, ◌<◌, Bool, true, false, ◌&&◌, ◌||◌, List, [], ◌∷◌, ◌++◌, length, Option, Some, None, is_none, refl, sym, ◌∙◌, subst, arith}
use Rattle.njs_tree.specs.declared.token.Keyword.TheVariants as keyword
use Rattle.njs_tree.specs.declared.token.Mark.{Mark}
use Rattle.njs_tree.specs.declared.token.Mark.TheVariants as mark
use Rattle.njs_tree.specs.declared.tree.Expr.{Expr}
use Rattle.njs_tree.specs.declared.tree.Stmt.{Stmt}
use Rattle.njs_tree.specs.declared.tree.Case.{Case, roll-Case}
use Rattle.njs_expr.specs.declared.terminal.Terminal.{Terminal}
use Rattle.njs_expr.specs.declared.terminal.Terminal.TheVariants as terminal
use Rattle.njs_tree.specs.Lexemes.{Lexeme, Symbol}
use Rattle.njs_tree.specs.Symbols.{lexeme_of, joint_of, binds, strength, declares_on, var_goes_on}
use Rattle.njs_tree.specs.Grammar.{Spells, Statements, Block, Grouped, Declares, Optional, Cases, Catch}
use Rattle.njs_expr.specs.Readers.{Symbols, Reader, and_then, ◌>>=◌, pure, expect, after, terminal_of, next_of, sees, sees_word, Grown, Stood}
use Rattle.njs_expr.specs.Expressions.{whole_statements, braced}
use Rattle.njs_expr.specs.Statements.{grouped, given, optional, assigned_value, initial_value, declarator, declarators, whole_declarators, caught, optional_catch, final_block, optional_finally, tested, test_by, case_test, one_case, cases, whole_cases}
use Rattle.njs_expr.proofs.Follow.{var_stops}
use Rattle.njs_expr.proofs.Forwards.{never}
use Rattle.njs_expr.proofs.Backwards.{bind_case, bind_bind, chosen_then, none_some, pure_case, eat_case, eat_word_case, expect_case, name_case, quiet}
use Rattle.njs_expr.proofs.Levels.{kept}
use Rattle.njs_expr.proofs.Soundness.{Sound, Rest, rest_more, rest_none, rest_last, rest_whole}
use Rattle.njs_expr.proofs.PartsSound.{Braced, in_braces, braced_sound, whole_statements_sound}
use Rattle.njs_expr.proofs.ExpressionsSound.{of_word}

-- ---- after the names of a `var`

uncomma_binds : (with_in : Bool) (x : Lexeme) → sees mark.Comma (terminal_of x) ≡ false → binds (joint_of with_in x) < 2 → binds (joint_of with_in x) ≡ 0
unfolding sees
uncomma_binds with_in (Lexeme.mark mark.Comma) unseen h = absurd (never unseen)
uncomma_binds with_in (Lexeme.mark mark.Assign) unseen h = absurd (omega arith)
uncomma_binds with_in (Lexeme.mark mark.AddAssign) unseen h = absurd (omega arith)
uncomma_binds with_in (Lexeme.mark mark.SubAssign) unseen h = absurd (omega arith)
uncomma_binds with_in (Lexeme.mark mark.MulAssign) unseen h = absurd (omega arith)
uncomma_binds with_in (Lexeme.mark mark.DivAssign) unseen h = absurd (omega arith)
uncomma_binds with_in (Lexeme.mark mark.RemAssign) unseen h = absurd (omega arith)
uncomma_binds with_in (Lexeme.mark mark.ShlAssign) unseen h = absurd (omega arith)
uncomma_binds with_in (Lexeme.mark mark.ShrAssign) unseen h = absurd (omega arith)
uncomma_binds with_in (Lexeme.mark mark.UShrAssign) unseen h = absurd (omega arith)
uncomma_binds with_in (Lexeme.mark mark.AndAssign) unseen h = absurd (omega arith)
uncomma_binds with_in (Lexeme.mark mark.OrAssign) unseen h = absurd (omega arith)
uncomma_binds with_in (Lexeme.mark mark.XorAssign) unseen h = absurd (omega arith)
uncomma_binds true (Lexeme.reserved keyword.In) unseen h = absurd (omega arith)
uncomma_binds false (Lexeme.reserved keyword.In) unseen h = refl
uncomma_binds with_in _ unseen h = omega arith

pub only_comma : (with_in ends : Bool) (r : Symbols) → strength with_in ends r < 2 → sees mark.Comma (next_of r) ≡ false → strength with_in ends r ≡ 0
only_comma with_in ends r h unseen =
    let e = kept with_in r ends (omega (arith, h)) in e ∙ uncomma_binds with_in (lexeme_of r) unseen (omega (arith, e, h))

no_declarator : (x : Lexeme) → sees mark.Comma (terminal_of x) ≡ false → sees mark.Assign (terminal_of x) ≡ false → declares_on x ≡ false
unfolding sees
no_declarator (Lexeme.mark mark.Comma) unseen h = absurd (never unseen)
no_declarator (Lexeme.mark mark.Assign) unseen h = absurd (never h)
no_declarator _ unseen h = refl

pub var_quiet : (last : Option Bool) (r : Symbols) → var_stops true last r → var_goes_on last r ≡ false
var_quiet None r h = h
var_quiet (Some ends) r h = quiet ends r h

-- one name, and its value
data DeclaratorRead (with_in : Bool) : Symbols → (List ℕ × Option Expr) × ℕ → Symbols → Type 0 where
  bare_name : (name : List ℕ) (t : Symbol) (k : Symbols) → t.lexeme ≡ Lexeme.name name → sees mark.Assign (next_of k) ≡ false → DeclaratorRead with_in (t ∷ k) ((name, None), 0) k
  valued : (name : List ℕ) (a : Expr) (d : ℕ) (e : Bool) (t u : Symbol) (i k : Symbols) → t.lexeme ≡ Lexeme.name name → u.lexeme ≡ Lexeme.mark mark.Assign → Spells with_in 2 a d e i k
      → strength with_in e k < 2 → DeclaratorRead with_in (t ∷ u ∷ i) ((name, Some a), d) k

-- names, and what their end is
abbrev pub Declared : Bool → List (List ℕ × Option Expr) → ℕ → Symbols → Symbols → Type 0
Declared with_in vs d i r = (last : Option Bool) × Declares with_in vs d last i r × var_stops with_in last r

declared_last : {with_in : Bool} {i r : Symbols} {v : (List ℕ × Option Expr) × ℕ} → DeclaratorRead with_in i v r → sees mark.Comma (next_of r) ≡ false → Declared with_in (v.0 ∷ []) v.1 i r
declared_last {with_in = with_in} (bare_name name t r is unassigned) unseen = (None, Declares.last_bare with_in name t r is, no_declarator (lexeme_of r) unseen unassigned)
declared_last {with_in = with_in} (valued name a d e t u i r is is_u sa stop) unseen = (Some e, Declares.last_value with_in name a d e t u i r is is_u sa, only_comma with_in e r stop unseen)

declared_more : {with_in : Bool} {i k : Symbols} {v : (List ℕ × Option Expr) × ℕ} → DeclaratorRead with_in i v k → (u : Symbol) (j r : Symbols) → k ≡ u ∷ j → u.lexeme ≡ Lexeme.mark mark.Comma
    → (vs : List (List ℕ × Option Expr)) (dv : ℕ) → Declared with_in vs dv j r → Declared with_in (v.0 ∷ vs) (max v.1 dv) i r
declared_more {with_in = with_in} (bare_name name t k is unassigned) u j r same is_u vs dv h =
    let e : dv ≡ max 0 dv = omega arith in
    (h.0, subst (λ q. Declares with_in ((name, None) ∷ vs) (max 0 dv) h.0 (t ∷ q) r) (sym same) (subst (λ n. Declares with_in ((name, None) ∷ vs) n h.0 (t ∷ u ∷ j) r) e (Declares.more_bare with_in name vs dv h.0 t u j r is is_u h.1)), h.2)
declared_more {with_in = with_in} (valued name a d e t v i k is is_v sa stop) u j r same is_u vs dv h =
    (h.0, Declares.more_value with_in name a vs d dv e h.0 t v u i j r is is_v (subst (λ q. Spells with_in 2 a d e i q) same sa) is_u h.1, h.2)

-- ---- cases

-- a case or the default one
data CaseRead (seen : Bool) : Symbols → Case × ℕ × Bool → Symbols → Type 0 where
  with_test : (a : Expr) (ss : List Stmt) (da ds : ℕ) (e : Bool) (t u : Symbol) (i j k : Symbols) → t.lexeme ≡ Lexeme.reserved keyword.Case → Spells true 1 a da e i (u ∷ j)
      → u.lexeme ≡ Lexeme.mark mark.Colon → Statements ss ds j k → CaseRead seen (t ∷ i) (roll-Case (record { test = Some a; body = ss }), max da ds, seen || false) k
  by_default : (ss : List Stmt) (ds : ℕ) (t u : Symbol) (j k : Symbols) → seen ≡ false → t.lexeme ≡ Lexeme.reserved keyword.Default → u.lexeme ≡ Lexeme.mark mark.Colon → Statements ss ds j k
      → CaseRead seen (t ∷ u ∷ j) (roll-Case (record { test = None; body = ss }), max 0 ds, seen || true) k

-- with at most one default, also with those before
abbrev pub CasesRead : Bool → List Case → ℕ → Symbols → Symbols → Type 0
CasesRead seen cs d i r = (has_default : Bool) × ((seen && has_default) ≡ false) × Cases cs d has_default i r

seen_or_false : (seen has_default : Bool) → ((seen || false) && has_default) ≡ false → (seen && has_default) ≡ false
seen_or_false true has_default h = h
seen_or_false false has_default h = h

or_true : (seen has_default : Bool) → ((seen || true) && has_default) ≡ false → has_default ≡ false
or_true true has_default h = h
or_true false has_default h = h

and_false : (seen : Bool) → (seen && false) ≡ false
and_false true = refl
and_false false = refl

unseen_and : (seen : Bool) → seen ≡ false → (seen && true) ≡ false
unseen_and seen h = rw h

case_more : {seen : Bool} {i k : Symbols} {c : Case × ℕ × Bool} → CaseRead seen i c k → (r : Symbols) (cs : List Case) (dc : ℕ) → CasesRead c.2 cs dc k r → CasesRead seen (c.0 ∷ cs) (max c.1 dc) i r
case_more {seen = seen} (with_test a ss da ds e t u i j k is sa is_u hs) r cs dc h =
    let same : max da (max ds dc) ≡ max (max da ds) dc = omega arith in (
      h.0,
      seen_or_false seen h.0 h.1,
      subst (λ n. Cases (roll-Case (record { test = Some a; body = ss }) ∷ cs) n h.0 (t ∷ i) r) same (Cases.test_case a ss cs da ds dc e h.0 t u i j k r is sa is_u hs h.2),
    )
case_more {seen = seen} (by_default ss ds t u j k unseen is is_u hs) r cs dc h =
    let same : max ds dc ≡ max (max 0 ds) dc = omega arith in (
      true,
      unseen_and seen unseen,
      subst (λ n. Cases (roll-Case (record { test = None; body = ss }) ∷ cs) n true (t ∷ u ∷ j) r) same
          (Cases.default_case ss cs ds dc t u j k r is is_u hs (subst (λ b. Cases cs dc b k r) (or_true seen h.0 h.1) h.2)),
    )

-- ---- `catch` and `finally`

pub data CatchRead : Symbols → Option (List ℕ × List Stmt) × ℕ → Symbols → Type 0 where
  no_catch : (i : Symbols) → sees_word keyword.Catch (next_of i) ≡ false → CatchRead i (None, 0) i
  some_catch : (name : List ℕ) (ss : List Stmt) (d : ℕ) (i r : Symbols) → Catch name ss d i r → CatchRead i (Some (name, ss), d) r

pub data FinallyRead : Symbols → Option (List Stmt) × ℕ → Symbols → Type 0 where
  no_finally : (i : Symbols) → sees_word keyword.Finally (next_of i) ≡ false → FinallyRead i (None, 0) i
  some_finally : (ss : List Stmt) (d : ℕ) (t : Symbol) (i r : Symbols) → t.lexeme ≡ Lexeme.reserved keyword.Finally → Block ss d i r → FinallyRead (t ∷ i) (Some ss, d) r

pub block_of : {xs : List Stmt × ℕ} {i r : Symbols} → Braced false xs i r → Block xs.0 xs.1 i r
block_of (in_braces ss t u i r is h is_u) = Block.braced ss.0 ss.1 t u i r is h is_u

module _ (E : Bool → ℕ → ℕ → Reader Grown) (S : Bool → ℕ → Reader Stood) (sound : Sound E S) where
  pub grouped_sound : (room : ℕ) (i : Symbols) (a : Grown) (r : Symbols) → grouped E room i ≡ Some (a, r) → Grouped a.0 a.1 i r
  unfolding grouped
  grouped_sound room i a r e =
      expect_case (λ q. Grouped a.0 a.1 q r) mark.LeftParen _ i (a, r) e (λ t j is e1.
      bind_case (E true 1 room j) _ (a, r) e1 (λ x k found e2.
      let b = sound.reads true 1 room j x k (omega arith) (omega arith) found in
      expect_case (λ q. Spells true 1 x.0 x.1 b.ends j q → Grouped a.0 a.1 (t ∷ j) r) mark.RightParen _ k (a, r) e2
      (λ u l is_u e3 sb. pure_case (λ (y : Grown) q. Grouped y.0 y.1 (t ∷ j) q) e3 (Grouped.grouped x.0 x.1 b.ends t u j l is sb is_u)) b.spells))

  pub optional_sound : (room : ℕ) (m : Mark) (i : Symbols) (a : Option Expr × ℕ) (r : Symbols) → optional E room m i ≡ Some (a, r) → Optional a.0 a.1 m i r
  unfolding optional given
  optional_sound room m i a r e =
      eat_case (λ q. Optional a.0 a.1 m q r) m _ _ i (a, r) e
      (λ t j is e1. pure_case (λ (y : Option Expr × ℕ) q. Optional y.0 y.1 m (t ∷ j) q) e1 (Optional.left_out m t j is))
      (λ unseen e1. bind_case (E true 1 room i) _ (a, r) e1 (λ x k found e2.
      let b = sound.reads true 1 room i x k (omega arith) (omega arith) found in
      expect_case (λ q. Spells true 1 x.0 x.1 b.ends i q → Optional a.0 a.1 m i r) m _ k (a, r) e2
      (λ u l is_u e3 sb. pure_case (λ (y : Option Expr × ℕ) q. Optional y.0 y.1 m i q) e3 (Optional.given m x.0 x.1 b.ends u i l sb is_u)) b.spells))

  -- ---- `var`

  declarator_sound : (with_in : Bool) (room : ℕ) (i : Symbols) (v : (List ℕ × Option Expr) × ℕ) (k : Symbols) → declarator E with_in room i ≡ Some (v, k) → DeclaratorRead with_in i v k
  unfolding declarator initial_value assigned_value
  declarator_sound with_in room i v k e =
      name_case (λ q. DeclaratorRead with_in q v k) _ i (v, k) e (λ name t j is e1.
      eat_case (λ q. DeclaratorRead with_in (t ∷ q) v k) mark.Assign _ _ j (v, k) (chosen_then (sees mark.Assign (next_of j)) _ _ _ (after mark.Assign j) (Some (v, k)) e1)
      (λ u l is_u e2. bind_case (E with_in 2 room l) _ (v, k) (bind_bind (E with_in 2 room l) _ _ (Some (v, k)) e2) (λ a m found e3.
      let s = sound.reads with_in 2 room l a m (omega arith) (omega arith) found in
      pure_case (λ y q. DeclaratorRead with_in (t ∷ u ∷ l) y q) e3 (valued name a.0 a.1 s.ends t u l m is is_u s.spells s.stop)))
      (λ unseen e2. pure_case (λ y q. DeclaratorRead with_in (t ∷ j) y q) e2 (bare_name name t j is unseen)))

  declarators_sound : (with_in : Bool) (room n : ℕ) (found : List (List ℕ × Option Expr)) (below : ℕ) (i : Symbols) (xs : List (List ℕ × Option Expr) × ℕ) (r : Symbols)
      → declarators E with_in room n found below i ≡ Some (xs, r) → Rest (λ vs d. Declared with_in vs d i r) found below xs
  unfolding declarators
  declarators_sound with_in room zero found below i xs r e = absurd (none_some (xs, r) e)
  declarators_sound with_in room (suc n) found below i xs r e = bind_case (declarator E with_in room i) _ (xs, r) e (λ v k found_v e1.
      let one = declarator_sound with_in room i v k found_v in
      eat_case (λ q. k ≡ q → Rest (λ vs d. Declared with_in vs d i r) found below xs) mark.Comma _ _ k (xs, r) e1
      (λ u j is_u e2 same. rest_more (λ vs d. Declared with_in vs d j r) (λ vs d. Declared with_in vs d i r) found v.0 below v.1 xs (declarators_sound with_in room n (found ++ v.0 ∷ []) (max below v.1) j xs r e2)
      (λ vs d h. declared_more one u j r same is_u vs d h))
      (λ unseen e2 same. pure_case (λ y q. Rest (λ vs d. Declared with_in vs d i q) found below y) e2
      (rest_last (λ vs d. Declared with_in vs d i k) found v.0 below v.1 (declared_last one unseen))) refl)

  pub whole_declarators_sound : (with_in : Bool) (room : ℕ) (i : Symbols) (xs : List (List ℕ × Option Expr) × ℕ) (r : Symbols) → whole_declarators E with_in room i ≡ Some (xs, r) → Declared with_in xs.0 xs.1 i r
  unfolding whole_declarators
  whole_declarators_sound with_in room i xs r e = rest_whole (λ vs d. Declared with_in vs d i r) xs (declarators_sound with_in room (length i) [] 0 i xs r e)

  -- ---- `try`

  catch_sound : (room : ℕ) (t : Symbol) (i : Symbols) (c : Option (List ℕ × List Stmt) × ℕ) (r : Symbols) → t.lexeme ≡ Lexeme.reserved keyword.Catch → caught S room i ≡ Some (c, r) → CatchRead (t ∷ i) c r
  unfolding caught
  catch_sound room t i c r is e =
      expect_case (λ q. CatchRead (t ∷ q) c r) mark.LeftParen _ i (c, r) e (λ u j is_u e1.
      name_case (λ q. CatchRead (t ∷ u ∷ q) c r) _ j (c, r) e1 (λ name v k is_v e2.
      expect_case (λ q. CatchRead (t ∷ u ∷ v ∷ q) c r) mark.RightParen _ k (c, r) e2 (λ w l is_w e3.
      bind_case (braced S false room l) _ (c, r) e3 (λ ss m found e4.
      pure_case (λ y q. CatchRead (t ∷ u ∷ v ∷ w ∷ l) y q) e4
      (some_catch name ss.0 ss.1 (t ∷ u ∷ v ∷ w ∷ l) m (Catch.caught name ss.0 ss.1 t u v w l m is is_u is_v is_w (block_of (braced_sound E S sound false room l ss m found))))))))

  pub optional_catch_sound : (room : ℕ) (i : Symbols) (c : Option (List ℕ × List Stmt) × ℕ) (r : Symbols) → optional_catch S room i ≡ Some (c, r) → CatchRead i c r
  unfolding optional_catch
  optional_catch_sound room i c r e =
      eat_word_case (λ q. CatchRead q c r) keyword.Catch _ _ i (c, r) e (λ t j is e1. catch_sound room t j c r is e1)
      (λ unseen e1. pure_case (λ y q. CatchRead i y q) e1 (no_catch i unseen))

  pub optional_finally_sound : (room : ℕ) (i : Symbols) (f : Option (List Stmt) × ℕ) (r : Symbols) → optional_finally S room i ≡ Some (f, r) → FinallyRead i f r
  unfolding optional_finally final_block
  optional_finally_sound room i f r e =
      eat_word_case (λ q. FinallyRead q f r) keyword.Finally _ _ i (f, r) e
      (λ t j is e1. bind_case (braced S false room j) _ (f, r) e1 (λ ss k found e2.
      pure_case (λ y q. FinallyRead (t ∷ j) y q) e2 (some_finally ss.0 ss.1 t j k is (block_of (braced_sound E S sound false room j ss k found)))))
      (λ unseen e1. pure_case (λ y q. FinallyRead i y q) e1 (no_finally i unseen))

  -- ---- `switch`

  tested_sound : (room : ℕ) (seen : Bool) (t : Symbol) (i : Symbols) (c : Case × ℕ × Bool) (r : Symbols) → t.lexeme ≡ Lexeme.reserved keyword.Case
      → and_then (tested E S room i) (λ test. expect mark.Colon >>= (λ u. whole_statements S false room >>= (λ ss. pure (roll-Case (record { test = test.0; body = ss.0 }), max test.1 ss.1, seen || is_none test.0)))) ≡ Some (c, r)
      → CaseRead seen (t ∷ i) c r
  unfolding tested
  tested_sound room seen t i c r is e = bind_case (E true 1 (room - 1) i) _ (c, r) (bind_bind (E true 1 (room - 1) i) _ _ (Some (c, r)) e) (λ a k found e1.
      let b = sound.reads true 1 (room - 1) i a k (omega arith) (omega arith) found in
      expect_case (λ q. Spells true 1 a.0 a.1 b.ends i q → CaseRead seen (t ∷ i) c r) mark.Colon _ k (c, r) e1 (λ u l is_u e2 sb.
      bind_case (whole_statements S false room l) _ (c, r) e2 (λ ss m found_ss e3.
      pure_case (λ y q. CaseRead seen (t ∷ i) y q) e3 (with_test a.0 ss.0 a.1 ss.1 b.ends t u i l m is sb is_u (whole_statements_sound E S sound false room l ss m found_ss)))) b.spells)

  default_sound : (room : ℕ) (seen : Bool) (t : Symbol) (i : Symbols) (c : Case × ℕ × Bool) (r : Symbols) → seen ≡ false → t.lexeme ≡ Lexeme.reserved keyword.Default
      → and_then (expect mark.Colon i) (λ u. whole_statements S false room >>= (λ ss. pure (roll-Case (record { test = None; body = ss.0 }), max 0 ss.1, seen || true))) ≡ Some (c, r)
      → CaseRead seen (t ∷ i) c r
  default_sound room seen t i c r first is e =
      expect_case (λ q. CaseRead seen (t ∷ q) c r) mark.Colon _ i (c, r) e (λ u l is_u e2.
      bind_case (whole_statements S false room l) _ (c, r) e2 (λ ss m found_ss e3.
      pure_case (λ y q. CaseRead seen (t ∷ u ∷ l) y q) e3 (by_default ss.0 ss.1 t u l m first is is_u (whole_statements_sound E S sound false room l ss m found_ss))))

  case_by_sound : (room : ℕ) (seen : Bool) (t : Symbol) (k : Terminal) (i : Symbols) (c : Case × ℕ × Bool) (r : Symbols) → terminal_of t.lexeme ≡ k
      → and_then (test_by E S room seen k (t ∷ i)) (λ test. expect mark.Colon >>= (λ u. whole_statements S false room >>= (λ ss. pure (roll-Case (record { test = test.0; body = ss.0 }), max test.1 ss.1, seen || is_none test.0)))) ≡ Some (c, r)
      → CaseRead seen (t ∷ i) c r
  case_by_sound room seen t (terminal.Reserved keyword.Case) i c r is e = tested_sound room seen t i c r (of_word keyword.Case t.lexeme is) e
  case_by_sound room true t (terminal.Reserved keyword.Default) i c r is e = absurd (none_some (c, r) e)
  case_by_sound room false t (terminal.Reserved keyword.Default) i c r is e = default_sound room false t i c r refl (of_word keyword.Default t.lexeme is) e
  case_by_sound room seen t _ i c r is e = absurd (none_some (c, r) e)

  one_case_sound : (room : ℕ) (seen : Bool) (i : Symbols) (c : Case × ℕ × Bool) (r : Symbols) → one_case E S room seen i ≡ Some (c, r) → CaseRead seen i c r
  unfolding one_case case_test
  one_case_sound room seen [] c r e = absurd (none_some (c, r) e)
  one_case_sound room seen (t ∷ i) c r e = case_by_sound room seen t (terminal_of t.lexeme) i c r refl e

  cases_sound : (room n : ℕ) (seen : Bool) (found : List Case) (below : ℕ) (i : Symbols) (xs : List Case × ℕ) (r : Symbols) → cases E S room n seen found below i ≡ Some (xs, r)
      → Rest (λ cs d. CasesRead seen cs d i r) found below xs
  unfolding cases
  cases_sound room zero seen found below i xs r e = absurd (none_some (xs, r) e)
  cases_sound room (suc n) seen found below i xs r e =
      eat_case (λ q. Rest (λ cs d. CasesRead seen cs d q r) found below xs) mark.RightBrace _ _ i (xs, r) e
      (λ t j is e1. pure_case (λ y q. Rest (λ cs d. CasesRead seen cs d (t ∷ j) q) found below y) e1
      (rest_none (λ cs d. CasesRead seen cs d (t ∷ j) j) found below (false, and_false seen, Cases.no_case t j is)))
      (λ unseen e1. bind_case (one_case E S room seen i) _ (xs, r) e1 (λ c k found_c e2.
      rest_more (λ cs d. CasesRead c.2 cs d k r) (λ cs d. CasesRead seen cs d i r) found c.0 below c.1 xs (cases_sound room n c.2 (found ++ c.0 ∷ []) (max below c.1) k xs r e2)
      (λ cs d h. case_more (one_case_sound room seen i c k found_c) r cs d h)))

  pub whole_cases_sound : (room : ℕ) (i : Symbols) (xs : List Case × ℕ) (r : Symbols) → whole_cases E S room i ≡ Some (xs, r) → CasesRead false xs.0 xs.1 i r
  unfolding whole_cases
  whole_cases_sound room i xs r e = rest_whole (λ cs d. CasesRead false cs d i r) xs (cases_sound room (length i) false [] 0 i xs r e)
