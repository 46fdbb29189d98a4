-- What the rules of statements read is spelled, where their parts are.
use Rattle.std.proofs.Common.{◌≡◌, ℕ, ◌+◌, ◌-◌, max, ◌<◌, Bool, true, false, ◌&&◌, ◌||◌, List, [], ◌∷◌, Option, Some, None, is_none, refl, ap, sym, ◌∙◌, subst, arith}
use Rattle.njs_tree.specs.declared.token.Keyword.TheVariants as keyword
use Rattle.njs_tree.specs.declared.token.Mark.TheVariants as mark
use Rattle.njs_tree.specs.declared.tree.Stmt.{Stmt}
use Rattle.njs_tree.specs.declared.tree.StmtNode.TheVariants as step
use Rattle.njs_tree.specs.declared.tree.ForFirst.{ForFirst}
use Rattle.njs_tree.specs.declared.tree.ForFirst.TheVariants as first
use Rattle.njs_tree.specs.declared.tree.ForInHead.{ForInHead}
use Rattle.njs_tree.specs.declared.tree.ForInHead.TheVariants as head
use Rattle.njs_expr.specs.declared.terminal.Terminal.{Terminal}
use Rattle.njs_expr.specs.declared.terminal.Terminal.TheVariants as terminal
use Rattle.njs_tree.specs.Lexemes.{Lexeme, Symbol}
use Rattle.njs_tree.specs.Symbols.{lexeme_of, line_of, breaks, strength, goes_on, var_goes_on, begins_other, begins_label, may_miss}
use Rattle.njs_tree.specs.Grammar.{stands, is_target, is_loop, Ends, Spells, Stands, IsItem, Block, Grouped, Declares, First, Head}
use Rattle.njs_expr.specs.Readers.{Symbols, Reader, and_then, pure, terminal_of, next_of, second_of, like, sees, sees_word, take_name, Grown, Stood, stood}
use Rattle.njs_expr.specs.Expressions.{braced, function}
use Rattle.njs_expr.specs.Statements.{begins_for_in, begins_labelled, label_by, optional_label, continue_by, break_by, ends_here, grouped, optional, whole_declarators, var_by, expr_by, returned_value, returned, return_by, thrown, throw_by, block_by, label_statement, declaration_by, optional_catch, optional_finally, try_by, else_by, if_by, do_by, while_by, for_rest, for_in_rest, for_in_var, for_plain_var, for_var, for_in_target, for_expr, for_first, for_by, whole_cases, switch_by, keyword_by, name_by, function_by, statement_by, one_statement}
use Rattle.njs_expr.proofs.Terminals.{else_like, finally_like, label_like}
use Rattle.njs_expr.proofs.Begins.{other_like}
use Rattle.njs_expr.proofs.Forwards.{never}
use Rattle.njs_expr.proofs.Backwards.{bind_case, none_some, pure_case, if_case, pick_case, eat_word_case, expect_case, expect_word_case, name_case, stood_case, semicolon_case, quiet}
use Rattle.njs_expr.proofs.Levels.{tighten}
use Rattle.njs_expr.proofs.Soundness.{Standing, Sound}
use Rattle.njs_expr.proofs.PartsSound.{of_mark, braced_sound, function_sound}
use Rattle.njs_expr.proofs.ExpressionsSound.{of_word}
use Rattle.njs_expr.proofs.StatementPartsSound.{var_quiet, CatchRead, no_catch, some_catch, FinallyRead, no_finally, some_finally, block_of, grouped_sound, optional_sound, whole_declarators_sound, optional_catch_sound, optional_finally_sound, whole_cases_sound}

-- a statement, as its rule reads it
abbrev IsRead : ℕ → Symbols → Stood → Symbols → Type 0
IsRead = Standing false

-- ---- `continue` and `break`

data LabelRead : Symbols → Option (List ℕ) → Symbols → Type 0 where
  unlabelled : (i : Symbols) → LabelRead i None i
  labelled : (label : List ℕ) (t : Symbol) (j : Symbols) → t.after_break ≡ false → t.lexeme ≡ Lexeme.name label → LabelRead (t ∷ j) (Some label) j

name_label_sound : (t : Symbol) (j : Symbols) (label : Option (List ℕ)) (k : Symbols) → t.after_break ≡ false → and_then (take_name (t ∷ j)) (λ name. pure (Some name)) ≡ Some (label, k) → LabelRead (t ∷ j) label k
name_label_sound t j label k same e =
    name_case (λ q. breaks q ≡ false → LabelRead q label k) _ (t ∷ j) (label, k) e (λ name u l is e1 unbroken. pure_case (λ y q. LabelRead (u ∷ l) y q) e1 (labelled name u l unbroken is)) same

label_by_sound : (t : Symbol) (k : Terminal) (broken : Bool) (j : Symbols) (label : Option (List ℕ)) (r : Symbols) → t.after_break ≡ broken → label_by k broken (t ∷ j) ≡ Some (label, r) → LabelRead (t ∷ j) label r
label_by_sound t terminal.Name false j label r same e = name_label_sound t j label r same e
label_by_sound t _ _ j label r same e = pure_case (λ y q. LabelRead (t ∷ j) y q) e (unlabelled (t ∷ j))

label_sound : (i : Symbols) (label : Option (List ℕ)) (r : Symbols) → optional_label i ≡ Some (label, r) → LabelRead i label r
unfolding optional_label
label_sound [] label r e = pure_case (λ y q. LabelRead [] y q) e (unlabelled [])
label_sound (t ∷ j) label r e = label_by_sound t (terminal_of t.lexeme) t.after_break j label r refl e

continue_of : {i k : Symbols} {label : Option (List ℕ)} → LabelRead i label k → (t : Symbol) (r : Symbols) → t.lexeme ≡ Lexeme.reserved keyword.Continue → Ends false k r
    → Stands (stands t.line (step.Continue label)) 1 (t ∷ i) r
continue_of (unlabelled i) t r is ending = Stands.continue t i r is ending
continue_of (labelled label u j same is_u) t r is ending = Stands.continue_to label t u j r is same is_u ending

break_of : {i k : Symbols} {label : Option (List ℕ)} → LabelRead i label k → (t : Symbol) (r : Symbols) → t.lexeme ≡ Lexeme.reserved keyword.Break → Ends false k r
    → Stands (stands t.line (step.Break label)) 1 (t ∷ i) r
break_of (unlabelled i) t r is ending = Stands.break t i r is ending
break_of (labelled label u j same is_u) t r is ending = Stands.break_to label t u j r is same is_u ending

continue_sound : (room : ℕ) (t : Symbol) (j : Symbols) (g : Stood) (r : Symbols) → t.lexeme ≡ Lexeme.reserved keyword.Continue → continue_by room t.line j ≡ Some (g, r) → IsRead room (t ∷ j) g r
unfolding continue_by
continue_sound room t j g r is e = bind_case (optional_label j) _ (g, r) e (λ label k found e1.
    semicolon_case false _ k (g, r) refl e1 (λ l ending e2.
    stood_case (λ y q. IsRead room (t ∷ j) y q) room t.line (step.Continue label) 0 l g r e2
    (λ fits. record { stands = continue_of (label_sound j label k found) t l is ending; fits = omega (arith, fits) })))

break_sound : (room : ℕ) (t : Symbol) (j : Symbols) (g : Stood) (r : Symbols) → t.lexeme ≡ Lexeme.reserved keyword.Break → break_by room t.line j ≡ Some (g, r) → IsRead room (t ∷ j) g r
unfolding break_by
break_sound room t j g r is e = bind_case (optional_label j) _ (g, r) e (λ label k found e1.
    semicolon_case false _ k (g, r) refl e1 (λ l ending e2.
    stood_case (λ y q. IsRead room (t ∷ j) y q) room t.line (step.Break label) 0 l g r e2
    (λ fits. record { stands = break_of (label_sound j label k found) t l is ending; fits = omega (arith, fits) })))

-- ---- where an expression ends nothing goes on

nothing_on : (ends : Bool) (i : Symbols) → strength true ends i < 1 → goes_on ends i ≡ false
nothing_on ends i h = quiet ends i (omega (arith, h))

-- a value begins on the line
unbroken_by : (k : Terminal) (broken : Bool) → (sees mark.Semicolon k || may_miss (like k) broken false) ≡ false → broken ≡ false
unfolding sees
unbroken_by (terminal.Mark mark.Semicolon) broken h = absurd (never h)
unbroken_by (terminal.Mark mark.RightBrace) broken h = absurd (never h)
unbroken_by terminal.End broken h = absurd (never h)
unbroken_by _ true h = absurd (never h)
unbroken_by _ false h = refl

unbroken : (i : Symbols) → ends_here i ≡ false → breaks i ≡ false
unfolding ends_here
unbroken i h = unbroken_by (next_of i) (breaks i) h

-- ---- `try`

try_of : {j k r : Symbols} {c : Option (List ℕ × List Stmt) × ℕ} {f : Option (List Stmt) × ℕ} → CatchRead j c k → FinallyRead k f r → (ss : List Stmt) (ds : ℕ) (t : Symbol) (i : Symbols) → t.lexeme ≡ Lexeme.reserved keyword.Try
    → Block ss ds i j → (is_none c.0 && is_none f.0) ≡ false → Stands (stands t.line (step.Try ss c.0 f.0)) (max ds (max c.1 f.1) + 1) (t ∷ i) r
try_of (no_catch j none) (no_finally k alone) ss ds t i is hss h = absurd (never h)
try_of (no_catch j none) (some_finally fs df u k r is_u hf) ss ds t i is hss h =
    let same : max ds df + 1 ≡ max ds (max 0 df) + 1 = omega arith in
    subst (λ n. Stands (stands t.line (step.Try ss None (Some fs))) n (t ∷ i) r) same (Stands.try_finally ss fs ds df t u i k r is hss is_u hf)
try_of (some_catch name cs dc j k hc) (no_finally k2 alone) ss ds t i is hss h =
    let same : max ds dc + 1 ≡ max ds (max dc 0) + 1 = omega arith in
    subst (λ n. Stands (stands t.line (step.Try ss (Some (name, cs)) None)) n (t ∷ i) k) same
    (Stands.try_catch ss cs name ds dc t i j k is hss hc (sym (finally_like (lexeme_of k)) ∙ alone))
try_of (some_catch name cs dc j k hc) (some_finally fs df u l r is_u hf) ss ds t i is hss h = Stands.try_both ss cs fs name ds dc df t u i j l r is hss hc is_u hf

module _ (E : Bool → ℕ → ℕ → Reader Grown) (S : Bool → ℕ → Reader Stood) (sound : Sound E S) where
  -- ---- statements without statements in them

  var_sound : (room : ℕ) (t : Symbol) (j : Symbols) (g : Stood) (r : Symbols) → t.lexeme ≡ Lexeme.reserved keyword.Var → var_by E room t.line j ≡ Some (g, r) → IsRead room (t ∷ j) g r
  unfolding var_by
  var_sound room t j g r is e = bind_case (whole_declarators E true (room - 1) j) _ (g, r) e (λ vs k found e1.
      let d = whole_declarators_sound E S sound true (room - 1) j vs k found in
      semicolon_case (var_goes_on d.0 k) _ k (g, r) (var_quiet d.0 k d.2) e1 (λ l ending e2.
      stood_case (λ y q. IsRead room (t ∷ j) y q) room t.line (step.Var vs.0) vs.1 l g r e2
      (λ fits. record { stands = Stands.var vs.0 vs.1 d.0 t j k l is d.1 ending; fits = omega (arith, fits) })))

  expr_sound : (room : ℕ) (i : Symbols) (g : Stood) (r : Symbols) → begins_other (lexeme_of i) ≡ false → begins_label i ≡ false → expr_by E room (line_of i) i ≡ Some (g, r) → IsRead room i g r
  unfolding expr_by
  expr_sound room i g r other unlike e = bind_case (E true 1 (room - 1) i) _ (g, r) e (λ a k found e1.
      let b = sound.reads true 1 (room - 1) i a k (omega arith) (omega arith) found in
      semicolon_case (goes_on b.ends k) _ k (g, r) (nothing_on b.ends k b.stop) e1 (λ l ending e2.
      stood_case (λ y q. IsRead room i y q) room (line_of i) (step.Expr a.0) a.1 l g r e2
      (λ fits. record { stands = Stands.expr a.0 a.1 b.ends i k l other unlike b.spells ending; fits = omega (arith, fits) })))

  return_sound : (room : ℕ) (t : Symbol) (j : Symbols) (g : Stood) (r : Symbols) → t.lexeme ≡ Lexeme.reserved keyword.Return → return_by E room t.line j ≡ Some (g, r) → IsRead room (t ∷ j) g r
  unfolding return_by returned returned_value
  return_sound room t j g r is e =
      pick_case (ends_here j) _ _ (g, r) e
      (λ here e1. semicolon_case false _ j (g, r) refl e1 (λ l ending e2.
      stood_case (λ y q. IsRead room (t ∷ j) y q) room t.line (step.Return None) 0 l g r e2 (λ fits. record { stands = Stands.return t j l is ending; fits = omega (arith, fits) })))
      (λ here e1. bind_case (E true 1 (room - 1) j) _ (g, r) e1 (λ a k found e2.
      let b = sound.reads true 1 (room - 1) j a k (omega arith) (omega arith) found in
      semicolon_case (goes_on b.ends k) _ k (g, r) (nothing_on b.ends k b.stop) e2 (λ l ending e3.
      stood_case (λ y q. IsRead room (t ∷ j) y q) room t.line (step.Return (Some a.0)) a.1 l g r e3
      (λ fits. record { stands = Stands.return_value a.0 a.1 b.ends t j k l is (unbroken j here) b.spells ending; fits = omega (arith, fits) }))))

  throw_sound : (room : ℕ) (t : Symbol) (j : Symbols) (g : Stood) (r : Symbols) → t.lexeme ≡ Lexeme.reserved keyword.Throw → throw_by E room t.line j ≡ Some (g, r) → IsRead room (t ∷ j) g r
  unfolding throw_by thrown
  throw_sound room t j g r is e =
      pick_case (breaks j) _ _ (g, r) e (λ broken e1. absurd (none_some (g, r) e1))
      (λ same e1. bind_case (E true 1 (room - 1) j) _ (g, r) e1 (λ a k found e2.
      let b = sound.reads true 1 (room - 1) j a k (omega arith) (omega arith) found in
      semicolon_case (goes_on b.ends k) _ k (g, r) (nothing_on b.ends k b.stop) e2 (λ l ending e3.
      stood_case (λ y q. IsRead room (t ∷ j) y q) room t.line (step.Throw a.0) a.1 l g r e3
      (λ fits. record { stands = Stands.throw a.0 a.1 b.ends t j k l is same b.spells ending; fits = omega (arith, fits) }))))

  -- ---- blocks, labels and declarations

  block_sound : (room : ℕ) (i : Symbols) (g : Stood) (r : Symbols) → block_by S room (line_of i) i ≡ Some (g, r) → IsRead room i g r
  unfolding block_by
  block_sound room i g r e = bind_case (braced S false room i) _ (g, r) e (λ ss k found e1.
      stood_case (λ y q. IsRead room i y q) room (line_of i) (step.Block ss.0) ss.1 k g r e1
      (λ fits. record { stands = Stands.block ss.0 ss.1 i k (block_of (braced_sound E S sound false room i ss k found)); fits = omega (arith, fits) }))

  label_statement_sound : (room : ℕ) (t : Symbol) (j : Symbols) (g : Stood) (r : Symbols) → label_statement S room t.line (t ∷ j) ≡ Some (g, r) → IsRead room (t ∷ j) g r
  unfolding label_statement
  label_statement_sound room t j g r e =
      name_case (λ q. line_of q ≡ t.line → IsRead room q g r) _ (t ∷ j) (g, r) e (λ name u k is e1 same.
      expect_case (λ q. IsRead room (u ∷ q) g r) mark.Colon _ k (g, r) e1 (λ v l is_v e2.
      bind_case (S false (room - 1) l) _ (g, r) e2 (λ s m found e3.
      let one = sound.stands false (room - 1) l s m found in
      if_case (is_loop s.0) _ _ m (g, r) e3
      (λ loop e4. stood_case (λ y q. IsRead room (u ∷ v ∷ l) y q) room u.line (step.Label name s.0) s.1 m g r (rw same e4)
      (λ fits. record { stands = Stands.label name s.0 s.1 u v l m is is_v one.stands loop; fits = omega (arith, fits) }))
      (λ other e4. absurd (none_some (g, r) e4))))) refl

  declaration_sound : (room : ℕ) (t : Symbol) (j : Symbols) (g : Stood) (r : Symbols) → t.lexeme ≡ Lexeme.reserved keyword.Function → declaration_by S room t.line j ≡ Some (g, r) → Standing true room (t ∷ j) g r
  unfolding declaration_by
  declaration_sound room t j g r is e =
      name_case (λ q. Standing true room (t ∷ q) g r) _ j (g, r) e (λ name u k is_u e1.
      bind_case (function S room (Some name) k) _ (g, r) e1 (λ f l found e2.
      stood_case (λ y q. Standing true room (t ∷ u ∷ k) y q) room t.line (step.FunctionDecl f.0) f.1 l g r e2
      (λ fits. record { stands = IsItem.declaration name f.0 f.1 t u k l is is_u (function_sound E S sound room (Some name) k f l found); fits = omega (arith, fits) })))

  try_sound : (room : ℕ) (t : Symbol) (j : Symbols) (g : Stood) (r : Symbols) → t.lexeme ≡ Lexeme.reserved keyword.Try → try_by S room t.line j ≡ Some (g, r) → IsRead room (t ∷ j) g r
  unfolding try_by
  try_sound room t j g r is e = bind_case (braced S false room j) _ (g, r) e (λ ss k found e1.
      bind_case (optional_catch S room k) _ (g, r) e1 (λ c l found_c e2.
      bind_case (optional_finally S room l) _ (g, r) e2 (λ f m found_f e3.
      if_case (is_none c.0 && is_none f.0) _ _ m (g, r) e3 (λ neither e4. absurd (none_some (g, r) e4))
      (λ either e4. stood_case (λ y q. IsRead room (t ∷ j) y q) room t.line (step.Try ss.0 c.0 f.0) (max ss.1 (max c.1 f.1)) m g r e4 (λ fits. record {
        stands = try_of (optional_catch_sound E S sound room k c l found_c) (optional_finally_sound E S sound room l f m found_f) ss.0 ss.1 t j is (block_of (braced_sound E S sound false room j ss k found)) either;
        fits = omega (arith, fits);
      })))))

  -- ---- `if` and loops

  if_sound : (room : ℕ) (t : Symbol) (j : Symbols) (g : Stood) (r : Symbols) → t.lexeme ≡ Lexeme.reserved keyword.If → if_by E S room t.line j ≡ Some (g, r) → IsRead room (t ∷ j) g r
  unfolding if_by else_by
  if_sound room t j g r is e = bind_case (grouped E (room - 1) j) _ (g, r) e (λ a k found e1.
      let ga = grouped_sound E S sound (room - 1) j a k found in
      bind_case (S false (room - 1) k) _ (g, r) e1 (λ s l found_s e2.
      let one = sound.stands false (room - 1) k s l found_s in
      eat_word_case (λ q. Stands s.0 s.1 k q → IsRead room (t ∷ j) g r) keyword.Else _ _ l (g, r) e2
      (λ u m is_u e3 hs. bind_case (S false (room - 1) m) _ (g, r) e3 (λ o n found_o e4.
      let other = sound.stands false (room - 1) m o n found_o in
      stood_case (λ y q. IsRead room (t ∷ j) y q) room t.line (step.If a.0 s.0 (Some o.0)) (max a.1 (max s.1 o.1)) n g r e4
      (λ fits. record { stands = Stands.if_else a.0 s.0 o.0 a.1 s.1 o.1 t u j k m n is ga hs is_u other.stands; fits = omega (arith, fits) })))
      (λ unseen e3 hs. stood_case (λ y q. IsRead room (t ∷ j) y q) room t.line (step.If a.0 s.0 None) (max a.1 s.1) l g r e3
      (λ fits. record { stands = Stands.if_only a.0 s.0 a.1 s.1 t j k l is ga hs (sym (else_like (lexeme_of l)) ∙ unseen); fits = omega (arith, fits) })) one.stands))

  do_sound : (room : ℕ) (t : Symbol) (j : Symbols) (g : Stood) (r : Symbols) → t.lexeme ≡ Lexeme.reserved keyword.Do → do_by E S room t.line j ≡ Some (g, r) → IsRead room (t ∷ j) g r
  unfolding do_by
  do_sound room t j g r is e = bind_case (S false (room - 1) j) _ (g, r) e (λ s k found_s e1.
      let one = sound.stands false (room - 1) j s k found_s in
      expect_word_case (λ q. Stands s.0 s.1 j q → IsRead room (t ∷ j) g r) keyword.While _ k (g, r) e1 (λ u l is_u e2 hs.
      bind_case (grouped E (room - 1) l) _ (g, r) e2 (λ a m found e3.
      semicolon_case false _ m (g, r) refl e3 (λ n ending e4.
      stood_case (λ y q. IsRead room (t ∷ j) y q) room t.line (step.Do s.0 a.0) (max s.1 a.1) n g r e4
      (λ fits. record { stands = Stands.do_while s.0 a.0 s.1 a.1 t u j l m n is hs is_u (grouped_sound E S sound (room - 1) l a m found) ending; fits = omega (arith, fits) })))) one.stands)

  while_sound : (room : ℕ) (t : Symbol) (j : Symbols) (g : Stood) (r : Symbols) → t.lexeme ≡ Lexeme.reserved keyword.While → while_by E S room t.line j ≡ Some (g, r) → IsRead room (t ∷ j) g r
  unfolding while_by
  while_sound room t j g r is e = bind_case (grouped E (room - 1) j) _ (g, r) e (λ a k found e1.
      bind_case (S false (room - 1) k) _ (g, r) e1 (λ s l found_s e2.
      let one = sound.stands false (room - 1) k s l found_s in
      stood_case (λ y q. IsRead room (t ∷ j) y q) room t.line (step.While a.0 s.0) (max a.1 s.1) l g r e2
      (λ fits. record { stands = Stands.while a.0 s.0 a.1 s.1 t j k l is (grouped_sound E S sound (room - 1) j a k found) one.stands; fits = omega (arith, fits) })))

  for_rest_sound : (room : ℕ) (f : Option ForFirst) (below : ℕ) (t u : Symbol) (i p : Symbols) (g : Stood) (r : Symbols) → t.lexeme ≡ Lexeme.reserved keyword.For → u.lexeme ≡ Lexeme.mark mark.LeftParen
      → ((v : Symbol) (q : Symbols) → v.lexeme ≡ Lexeme.mark mark.Semicolon → p ≡ v ∷ q → First f below i q) → for_rest E S room t.line f below p ≡ Some (g, r) → IsRead room (t ∷ u ∷ i) g r
  unfolding for_rest
  for_rest_sound room f below t u i p g r is is_u start e =
      expect_case (λ q. p ≡ q → IsRead room (t ∷ u ∷ i) g r) mark.Semicolon _ p (g, r) e (λ v j is_v e1 same.
      bind_case (optional E (room - 1) mark.Semicolon j) _ (g, r) e1 (λ a k found_a e2.
      bind_case (optional E (room - 1) mark.RightParen k) _ (g, r) e2 (λ b l found_b e3.
      bind_case (S false (room - 1) l) _ (g, r) e3 (λ s m found_s e4.
      let one = sound.stands false (room - 1) l s m found_s in
      stood_case (λ y q. IsRead room (t ∷ u ∷ i) y q) room t.line (step.For f a.0 b.0 s.0) (max below (max a.1 (max b.1 s.1))) m g r e4 (λ fits. record {
        stands = Stands.for f a.0 b.0 s.0 below a.1 b.1 s.1 t u i j k l m is is_u (start v j is_v same) (optional_sound E S sound (room - 1) mark.Semicolon j a k found_a)
            (optional_sound E S sound (room - 1) mark.RightParen k b l found_b) one.stands;
        fits = omega (arith, fits);
      }))))) refl

  for_in_rest_sound : (room : ℕ) (h : ForInHead) (below : ℕ) (t u : Symbol) (i p : Symbols) (g : Stood) (r : Symbols) → t.lexeme ≡ Lexeme.reserved keyword.For → u.lexeme ≡ Lexeme.mark mark.LeftParen
      → Head h below i p → for_in_rest E S room t.line h below p ≡ Some (g, r) → IsRead room (t ∷ u ∷ i) g r
  unfolding for_in_rest
  for_in_rest_sound room h below t u i p g r is is_u start e =
      expect_word_case (λ q. Head h below i q → IsRead room (t ∷ u ∷ i) g r) keyword.In _ p (g, r) e (λ v j is_v e1 hh.
      bind_case (E true 1 (room - 1) j) _ (g, r) e1 (λ a k found e2.
      let b = sound.reads true 1 (room - 1) j a k (omega arith) (omega arith) found in
      expect_case (λ q. Spells true 1 a.0 a.1 b.ends j q → IsRead room (t ∷ u ∷ i) g r) mark.RightParen _ k (g, r) e2 (λ w l is_w e3 sa.
      bind_case (S false (room - 1) l) _ (g, r) e3 (λ s m found_s e4.
      let one = sound.stands false (room - 1) l s m found_s in
      stood_case (λ y q. IsRead room (t ∷ u ∷ i) y q) room t.line (step.ForIn h a.0 s.0) (max below (max a.1 s.1)) m g r e4 (λ fits. record {
        stands = Stands.for_in h a.0 s.0 below a.1 s.1 b.ends t u v w i j l m is is_u hh is_v sa is_w one.stands;
        fits = omega (arith, fits);
      }))) b.spells)) start

  -- the `var` of a head
  for_var_sound : (room : ℕ) (t u v : Symbol) (i : Symbols) (g : Stood) (r : Symbols) → t.lexeme ≡ Lexeme.reserved keyword.For → u.lexeme ≡ Lexeme.mark mark.LeftParen → v.lexeme ≡ Lexeme.reserved keyword.Var
      → for_var E S room t.line i ≡ Some (g, r) → IsRead room (t ∷ u ∷ v ∷ i) g r
  unfolding for_var for_in_var for_plain_var
  for_var_sound room t u v i g r is is_u is_v e =
      pick_case (begins_for_in (next_of i) (second_of i)) _ _ (g, r) e
      (λ ahead e1. name_case (λ q. IsRead room (t ∷ u ∷ v ∷ q) g r) _ i (g, r) e1 (λ name w k is_w e2.
      for_in_rest_sound room (head.Var name) 0 t u (v ∷ w ∷ k) k g r is is_u (Head.head_var name v w k is_v is_w) e2))
      (λ other e1. bind_case (whole_declarators E false (room - 1) i) _ (g, r) e1 (λ vs k found e2.
      let d = whole_declarators_sound E S sound false (room - 1) i vs k found in
      for_rest_sound room (Some (first.Var vs.0)) vs.1 t u (v ∷ i) k g r is is_u
      (λ w q is_w same. First.first_var vs.0 vs.1 d.0 v w i q is_v (subst (λ x. Declares false vs.0 vs.1 d.0 i x) same d.1) is_w) e2))

  for_expr_sound : (room : ℕ) (t u : Symbol) (i : Symbols) (g : Stood) (r : Symbols) → t.lexeme ≡ Lexeme.reserved keyword.For → u.lexeme ≡ Lexeme.mark mark.LeftParen
      → for_expr E S room t.line i ≡ Some (g, r) → IsRead room (t ∷ u ∷ i) g r
  unfolding for_expr for_in_target
  for_expr_sound room t u i g r is is_u e = bind_case (E false 1 (room - 1) i) _ (g, r) e (λ a k found e1.
      let b = sound.reads false 1 (room - 1) i a k (omega arith) (omega arith) found in
      if_case (sees_word keyword.In (next_of k)) _ _ k (g, r) e1
      (λ seen e2. if_case (is_target a.0) _ _ k (g, r) e2
      (λ target e3. for_in_rest_sound room (head.Target a.0) a.1 t u i k g r is is_u (Head.head_target a.0 a.1 b.ends i k (tighten b.spells target) target) e3)
      (λ other e3. absurd (none_some (g, r) e3)))
      (λ unseen e2. for_rest_sound room (Some (first.Expr a.0)) a.1 t u i k g r is is_u
      (λ w q is_w same. First.first_expr a.0 a.1 b.ends w i q (subst (λ x. Spells false 1 a.0 a.1 b.ends i x) same b.spells) is_w) e2))

  for_first_sound : (room : ℕ) (t u v : Symbol) (k : Terminal) (i : Symbols) (g : Stood) (r : Symbols) → t.lexeme ≡ Lexeme.reserved keyword.For → u.lexeme ≡ Lexeme.mark mark.LeftParen → terminal_of v.lexeme ≡ k
      → for_first E S room t.line k (v ∷ i) ≡ Some (g, r) → IsRead room (t ∷ u ∷ v ∷ i) g r
  for_first_sound room t u v (terminal.Mark mark.Semicolon) i g r is is_u is_v e =
      for_rest_sound room None 0 t u (v ∷ i) (v ∷ i) g r is is_u (λ w q is_w same. subst (λ x. First None 0 x q) (sym same) (First.no_first w q is_w)) e
  for_first_sound room t u v (terminal.Reserved keyword.Var) i g r is is_u is_v e = for_var_sound room t u v i g r is is_u (of_word keyword.Var v.lexeme is_v) e
  for_first_sound room t u v _ i g r is is_u is_v e = for_expr_sound room t u (v ∷ i) g r is is_u e

  for_opened_sound : (room : ℕ) (t u : Symbol) (i : Symbols) (g : Stood) (r : Symbols) → t.lexeme ≡ Lexeme.reserved keyword.For → u.lexeme ≡ Lexeme.mark mark.LeftParen
      → for_first E S room t.line (next_of i) i ≡ Some (g, r) → IsRead room (t ∷ u ∷ i) g r
  for_opened_sound room t u [] g r is is_u e = for_expr_sound room t u [] g r is is_u e
  for_opened_sound room t u (v ∷ i) g r is is_u e = for_first_sound room t u v (terminal_of v.lexeme) i g r is is_u refl e

  for_sound : (room : ℕ) (t : Symbol) (j : Symbols) (g : Stood) (r : Symbols) → t.lexeme ≡ Lexeme.reserved keyword.For → for_by E S room t.line j ≡ Some (g, r) → IsRead room (t ∷ j) g r
  unfolding for_by
  for_sound room t j g r is e = expect_case (λ q. IsRead room (t ∷ q) g r) mark.LeftParen _ j (g, r) e (λ u i is_u e1. for_opened_sound room t u i g r is is_u e1)

  switch_sound : (room : ℕ) (t : Symbol) (j : Symbols) (g : Stood) (r : Symbols) → t.lexeme ≡ Lexeme.reserved keyword.Switch → switch_by E S room t.line j ≡ Some (g, r) → IsRead room (t ∷ j) g r
  unfolding switch_by
  switch_sound room t j g r is e = bind_case (grouped E (room - 1) j) _ (g, r) e (λ a k found e1.
      expect_case (λ q. Grouped a.0 a.1 j q → IsRead room (t ∷ j) g r) mark.LeftBrace _ k (g, r) e1 (λ u l is_u e2 ga.
      bind_case (whole_cases E S room l) _ (g, r) e2 (λ cs m found_cs e3.
      let h = whole_cases_sound E S sound room l cs m found_cs in
      stood_case (λ y q. IsRead room (t ∷ j) y q) room t.line (step.Switch a.0 cs.0) (max a.1 cs.1) m g r e3
      (λ fits. record { stands = Stands.switch a.0 cs.0 a.1 cs.1 h.0 t u j l m is ga is_u h.2; fits = omega (arith, fits) }))) (grouped_sound E S sound (room - 1) j a k found))

  -- ---- by the first symbols

  -- a reserved word that begins no declaration
  keyword_sound : (room : ℕ) (t : Symbol) (k : Terminal) (j : Symbols) (g : Stood) (r : Symbols) → terminal_of t.lexeme ≡ k → begins_other (like k) ≡ false → begins_labelled k (next_of j) ≡ false
      → keyword_by E S room t.line k (t ∷ j) ≡ Some (g, r) → IsRead room (t ∷ j) g r
  keyword_sound room t (terminal.Reserved keyword.Var) j g r is other unlike e = var_sound room t j g r (of_word keyword.Var t.lexeme is) e
  keyword_sound room t (terminal.Reserved keyword.If) j g r is other unlike e = if_sound room t j g r (of_word keyword.If t.lexeme is) e
  keyword_sound room t (terminal.Reserved keyword.Do) j g r is other unlike e = do_sound room t j g r (of_word keyword.Do t.lexeme is) e
  keyword_sound room t (terminal.Reserved keyword.While) j g r is other unlike e = while_sound room t j g r (of_word keyword.While t.lexeme is) e
  keyword_sound room t (terminal.Reserved keyword.For) j g r is other unlike e = for_sound room t j g r (of_word keyword.For t.lexeme is) e
  keyword_sound room t (terminal.Reserved keyword.Continue) j g r is other unlike e = continue_sound room t j g r (of_word keyword.Continue t.lexeme is) e
  keyword_sound room t (terminal.Reserved keyword.Break) j g r is other unlike e = break_sound room t j g r (of_word keyword.Break t.lexeme is) e
  keyword_sound room t (terminal.Reserved keyword.Return) j g r is other unlike e = return_sound room t j g r (of_word keyword.Return t.lexeme is) e
  keyword_sound room t (terminal.Reserved keyword.Throw) j g r is other unlike e = throw_sound room t j g r (of_word keyword.Throw t.lexeme is) e
  keyword_sound room t (terminal.Reserved keyword.Switch) j g r is other unlike e = switch_sound room t j g r (of_word keyword.Switch t.lexeme is) e
  keyword_sound room t (terminal.Reserved keyword.Try) j g r is other unlike e = try_sound room t j g r (of_word keyword.Try t.lexeme is) e
  keyword_sound room t k j g r is other unlike e = expr_sound room (t ∷ j) g r (sym (other_like t.lexeme) ∙ ap (λ x. begins_other (like x)) is ∙ other) (sym (label_like (t ∷ j)) ∙ ap (λ x. begins_labelled x (next_of j)) is ∙ unlike) e

  as_item : (declares : Bool) (room : ℕ) (i : Symbols) (g : Stood) (r : Symbols) → IsRead room i g r → Standing declares room i g r
  as_item true room i g r h = record { stands = IsItem.statement g.0 g.1 i r h.stands; fits = h.fits }
  as_item false room i g r h = h

  empty_sound : (room : ℕ) (t : Symbol) (j : Symbols) (g : Stood) (r : Symbols) → t.lexeme ≡ Lexeme.mark mark.Semicolon → stood room t.line step.Empty 0 j ≡ Some (g, r) → IsRead room (t ∷ j) g r
  empty_sound room t j g r is e = stood_case (λ y q. IsRead room (t ∷ j) y q) room t.line step.Empty 0 j g r e (λ fits. record { stands = Stands.empty t j is; fits = omega (arith, fits) })

  name_by_sound : (room : ℕ) (t : Symbol) (j : Symbols) (g : Stood) (r : Symbols) → terminal_of t.lexeme ≡ terminal.Name → name_by E S room t.line (next_of j) (t ∷ j) ≡ Some (g, r) → IsRead room (t ∷ j) g r
  unfolding name_by
  name_by_sound room t j g r is e =
      if_case (sees mark.Colon (next_of j)) _ _ (t ∷ j) (g, r) e (λ seen e1. label_statement_sound room t j g r e1)
      (λ unseen e1. expr_sound room (t ∷ j) g r (sym (other_like t.lexeme) ∙ ap (λ x. begins_other (like x)) is) (sym (label_like (t ∷ j)) ∙ ap (λ x. begins_labelled x (next_of j)) is ∙ unseen) e1)

  function_by_sound : (declares : Bool) (room : ℕ) (t : Symbol) (j : Symbols) (g : Stood) (r : Symbols) → t.lexeme ≡ Lexeme.reserved keyword.Function → function_by E S declares room t.line (t ∷ j) ≡ Some (g, r)
      → Standing declares room (t ∷ j) g r
  unfolding function_by
  function_by_sound true room t j g r is e = declaration_sound room t j g r is e
  function_by_sound false room t j g r is e = absurd (none_some (g, r) e)

  statement_by_sound : (declares : Bool) (room : ℕ) (t : Symbol) (k : Terminal) (j : Symbols) (g : Stood) (r : Symbols) → terminal_of t.lexeme ≡ k
      → statement_by E S declares room t.line k (next_of j) (t ∷ j) ≡ Some (g, r) → Standing declares room (t ∷ j) g r
  statement_by_sound declares room t (terminal.Mark mark.Semicolon) j g r is e = as_item declares room (t ∷ j) g r (empty_sound room t j g r (of_mark mark.Semicolon t.lexeme is) e)
  statement_by_sound declares room t (terminal.Mark mark.LeftBrace) j g r is e = as_item declares room (t ∷ j) g r (block_sound room (t ∷ j) g r e)
  statement_by_sound declares room t (terminal.Reserved keyword.Function) j g r is e = function_by_sound declares room t j g r (of_word keyword.Function t.lexeme is) e
  statement_by_sound declares room t terminal.Name j g r is e = as_item declares room (t ∷ j) g r (name_by_sound room t j g r is e)
  statement_by_sound declares room t k j g r is e = as_item declares room (t ∷ j) g r (keyword_sound room t k j g r is refl refl e)

  pub one_sound : (declares : Bool) (room : ℕ) (i : Symbols) (g : Stood) (r : Symbols) → one_statement E S declares room i ≡ Some (g, r) → Standing declares room i g r
  unfolding one_statement
  one_sound declares room [] g r e = as_item declares room [] g r (expr_sound room [] g r refl refl e)
  one_sound declares room (t ∷ j) g r e = statement_by_sound declares room t (terminal_of t.lexeme) j g r refl e
