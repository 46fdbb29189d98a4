-- Each production of statements is read, where its parts are.
use Rattle.std.proofs.Common.{◌≡◌, ℕ, ◌+◌, ◌-◌, max, ◌<◌, ◌≤◌, Bool, true, false, ◌||◌, List, [], ◌∷◌, ◌++◌, length, Option, Some, None, refl, ap, sym, ◌∙◌, arith}
use Rattle.njs_tree.specs.declared.token.Keyword.{Keyword}
use Rattle.njs_tree.specs.declared.token.Keyword.TheVariants as keyword
use Rattle.njs_tree.specs.declared.token.Mark.{Mark}
use Rattle.njs_tree.specs.declared.token.Mark.TheVariants as mark
use Rattle.njs_tree.specs.declared.tree.Expr.{Expr}
use Rattle.njs_tree.specs.declared.tree.Stmt.{Stmt}
use Rattle.njs_tree.specs.declared.tree.StmtNode.TheVariants as step
use Rattle.njs_tree.specs.declared.tree.FunctionTree.{FunctionTree}
use Rattle.njs_tree.specs.declared.tree.ForFirst.{ForFirst}
use Rattle.njs_tree.specs.declared.tree.ForFirst.TheVariants as first
use Rattle.njs_tree.specs.declared.tree.ForInHead.{ForInHead}
use Rattle.njs_tree.specs.declared.tree.ForInHead.TheVariants as head
use Rattle.njs_tree.specs.declared.tree.Case.{Case, roll-Case}
use Rattle.njs_expr.specs.declared.terminal.Terminal.{Terminal}
use Rattle.njs_expr.specs.declared.terminal.Terminal.TheVariants as terminal
use Rattle.njs_tree.specs.Lexemes.{Lexeme, Symbol}
use Rattle.njs_tree.specs.Symbols.{lexeme_of, line_of, breaks, strength, goes_on, var_goes_on, declares_on, begins_other, begins_label, may_miss, is_else, is_finally}
use Rattle.njs_tree.specs.Grammar.{stands, is_target, is_loop, Ends, Spells, Declares, Cases, Block}
use Rattle.njs_expr.specs.Readers.{Symbols, terminal_of, next_of, second_of, tail, like, sees, sees_word}
use Rattle.njs_expr.specs.Expressions.{closes}
use Rattle.njs_expr.specs.Statements.{begins_for_in, label_by, optional_label, ends_here, for_first, for_expr, statement_by, one_statement}
use Rattle.njs_expr.specs.Descent.{expr, stmt}
use Rattle.njs_expr.proofs.Terminals.{other_mark, other_word, is_word_seen, else_like, finally_like, label_like, word_seen_symbol}
use Rattle.njs_expr.proofs.Forwards.{never, stood_ok, ended}
use Rattle.njs_expr.proofs.Past.{past, shorter}
use Rattle.njs_expr.proofs.Begins.{begins, begun, unseen, plain, goes_on_here, ended_here, other_like}
use Rattle.njs_expr.proofs.Follow.{Follows, is_closing, closed, comma_strength, in_strength, stops, var_stops, weak}
use Rattle.njs_expr.proofs.ExpressionSteps.{joins, nothing_more, from_none, braced_ok}
use Rattle.njs_expr.proofs.StatementSteps.{label_here, continued, broken, grouped_ok, optional_none, optional_given, declarator_bare, declarator_value, declarators_last, declarators_more, var_ok, expr_ok, return_none, return_some, throw_ok, block_ok, label_ok, declaration_ok, catch_ok, catch_none, finally_ok, finally_none, try_ok, if_none, if_some, do_ok, while_ok, for_rest_ok, for_in_rest_ok, for_opened, first_none, first_var, head_var, first_expr, head_target, case_ok, default_ok, cases_end, cases_more, switch_ok, by_word, by_mark, by_label, by_declaration, nested_statement}
use Rattle.njs_expr.proofs.Read.{Reads, ReadsFunction, ReadsStatements, ReadsItem, ReadsStatement, ReadsBlock, ReadsGrouped, ReadsDeclares, ReadsOptional, ReadsFirst, ReadsHead, ReadsCases, ReadsCatch}
use Rattle.njs_expr.proofs.ExpressionsRead.{right_side, inside, whole}
use Rattle.njs_expr.proofs.PartsRead.{closing_brace}

-- ---- parts of statements

pub declaration_reads : (name : List ℕ) (f : FunctionTree) (d : ℕ) (t u : Symbol) (j r : Symbols) → t.lexeme ≡ Lexeme.reserved keyword.Function → u.lexeme ≡ Lexeme.name name
    → ReadsFunction (Some name) f d j r → ReadsItem (stands t.line (step.FunctionDecl f)) (d + 1) (t ∷ u ∷ j) r
declaration_reads name f d t u j r is is_u hf fuel room fits short =
    nested_statement fuel true room (omega arith) (omega (arith, fits)) (t ∷ u ∷ j)
    ∙ by_declaration (expr (fuel - 1)) (stmt (fuel - 1)) room t (u ∷ j) is
    ∙ declaration_ok (stmt (fuel - 1)) room t.line name (f, d) u j r is_u (hf (fuel - 1) room (omega (arith, fits)) (omega (arith, short))) (omega (arith, fits))

pub braced_reads : (ss : List Stmt) (d : ℕ) (t u : Symbol) (i r : Symbols) → t.lexeme ≡ Lexeme.mark mark.LeftBrace → ReadsStatements false ss d i (u ∷ r) → u.lexeme ≡ Lexeme.mark mark.RightBrace
    → ReadsBlock ss d (t ∷ i) r
braced_reads ss d t u i r is h is_u fuel room fits short =
    braced_ok (stmt fuel) false room (ss, d) t u i r is
    (h (closing_brace u.lexeme is_u) fuel room (length i) [] 0 (omega (arith, fits)) (omega (arith, short)) (omega arith) ∙ from_none ss d (u ∷ r)) is_u

pub grouped_reads : (a : Expr) (d : ℕ) (e : Bool) (t u : Symbol) (i r : Symbols) → t.lexeme ≡ Lexeme.mark mark.LeftParen → Spells true 1 a d e i (u ∷ r) → Reads true 1 a d e i (u ∷ r)
    → u.lexeme ≡ Lexeme.mark mark.RightParen → ReadsGrouped a d (t ∷ i) r
grouped_reads a d e t u i r is sa ha is_u fuel room fits short =
    grouped_ok (expr fuel) room (a, d) t u i r is (inside true a d e i (u ∷ r) fuel room sa ha (closed true e mark.RightParen u r is_u refl) fits (omega (arith, short))) is_u

-- ---- `var`

undeclared : (x : Lexeme) → declares_on x ≡ false → (sees mark.Comma (terminal_of x) ≡ false) × (sees mark.Assign (terminal_of x) ≡ false)
unfolding sees
undeclared (Lexeme.mark mark.Comma) h = absurd (cc)
undeclared (Lexeme.mark mark.Assign) h = absurd (cc)
undeclared _ h = (refl, refl)

pub last_bare_reads : (with_in : Bool) (name : List ℕ) (t : Symbol) (r : Symbols) → t.lexeme ≡ Lexeme.name name → ReadsDeclares with_in ((name, None) ∷ []) 0 None (t ∷ r) r
last_bare_reads with_in name t r is stop fuel room n found below fits short turns =
    let unlike = undeclared (lexeme_of r) stop in
    declarators_last (expr fuel) with_in room n found below ((name, None), 0) (t ∷ r) r (omega (arith, turns)) (declarator_bare (expr fuel) with_in room name t r is unlike.1) unlike.0

uncomma : (with_in ends : Bool) (x : Lexeme) (b : Bool) → sees mark.Comma (terminal_of x) ≡ b → (x ≡ Lexeme.mark mark.Comma → ⊥) → b ≡ false
unfolding sees
uncomma with_in ends (Lexeme.mark mark.Comma) b e h = absurd (h refl)
uncomma with_in ends _ b e h = sym e

strength_comma : (with_in ends : Bool) (r : Symbols) → strength with_in ends r ≡ 0 → lexeme_of r ≡ Lexeme.mark mark.Comma → ⊥
strength_comma with_in ends [] none is = cc
strength_comma with_in ends (t ∷ r) none is = omega (arith, comma_strength with_in ends t r is, none)

pub last_value_reads : (with_in : Bool) (name : List ℕ) (a : Expr) (d : ℕ) (e : Bool) (t u : Symbol) (i r : Symbols) → t.lexeme ≡ Lexeme.name name → u.lexeme ≡ Lexeme.mark mark.Assign
    → Spells with_in 2 a d e i r → Reads with_in 2 a d e i r → ReadsDeclares with_in ((name, Some a) ∷ []) d (Some e) (t ∷ u ∷ i) r
last_value_reads with_in name a d e t u i r is is_u sa ha stop fuel room n found below fits short turns =
    declarators_last (expr fuel) with_in room n found below ((name, Some a), d) (t ∷ u ∷ i) r (omega (arith, turns))
    (declarator_value (expr fuel) with_in room name (a, d) t u i r is is_u (right_side with_in a d e i r fuel room sa ha (omega (arith, stop)) (omega (arith, fits)) (omega (arith, short))))
    (uncomma with_in e (lexeme_of r) (sees mark.Comma (next_of r)) refl (strength_comma with_in e r stop))

pub more_bare_reads : (with_in : Bool) (name : List ℕ) (vs : List (List ℕ × Option Expr)) (d : ℕ) (last : Option Bool) (t u : Symbol) (j r : Symbols) → t.lexeme ≡ Lexeme.name name
    → u.lexeme ≡ Lexeme.mark mark.Comma → ReadsDeclares with_in vs d last j r → ReadsDeclares with_in ((name, None) ∷ vs) d last (t ∷ u ∷ j) r
unfolding sees
more_bare_reads with_in name vs d last t u j r is is_u h stop fuel room n found below fits short turns =
    let e : max below (max 0 d) ≡ max below d = omega arith in
    declarators_more (expr fuel) with_in room n found below ((name, None), 0) u (t ∷ u ∷ j) j (omega (arith, turns))
    (declarator_bare (expr fuel) with_in room name t (u ∷ j) is (other_mark mark.Assign u.lexeme _ is_u refl)) is_u
    ∙ h stop fuel room (n - 1) (found ++ (name, None) ∷ []) (max below 0) (omega (arith, fits)) (omega (arith, short)) (omega (arith, turns))
    ∙ joins found (name, None) vs below 0 d r ∙ ap (λ m. Some ((found ++ ((name, None) ∷ vs), m), r)) e

pub more_value_reads : (with_in : Bool) (name : List ℕ) (a : Expr) (vs : List (List ℕ × Option Expr)) (d dv : ℕ) (e : Bool) (last : Option Bool) (t u v : Symbol) (i j r : Symbols)
    → t.lexeme ≡ Lexeme.name name → u.lexeme ≡ Lexeme.mark mark.Assign → Spells with_in 2 a d e i (v ∷ j) → Reads with_in 2 a d e i (v ∷ j) → v.lexeme ≡ Lexeme.mark mark.Comma
    → ReadsDeclares with_in vs dv last j r → ReadsDeclares with_in ((name, Some a) ∷ vs) (max d dv) last (t ∷ u ∷ i) r
more_value_reads with_in name a vs d dv e last t u v i j r is is_u sa ha is_v h stop fuel room n found below fits short turns =
    let less = shorter (past sa) in
    declarators_more (expr fuel) with_in room n found below ((name, Some a), d) v (t ∷ u ∷ i) j (omega (arith, turns))
    (declarator_value (expr fuel) with_in room name (a, d) t u i (v ∷ j) is is_u
    (right_side with_in a d e i (v ∷ j) fuel room sa ha (omega (arith, comma_strength with_in e v j is_v)) (omega (arith, fits)) (omega (arith, short)))) is_v
    ∙ h stop fuel room (n - 1) (found ++ (name, Some a) ∷ []) (max below d) (omega (arith, fits)) (omega (arith, less, short)) (omega (arith, less, turns))
    ∙ joins found (name, Some a) vs below d dv r

-- ---- the heads of `for`

pub left_out_reads : (m : Mark) (t : Symbol) (r : Symbols) → t.lexeme ≡ Lexeme.mark m → ReadsOptional None 0 m (t ∷ r) r
left_out_reads m t r is closing fuel room fits short = optional_none (expr fuel) room m t r is

closing_begins : (m : Mark) → is_closing m ≡ true → begins (terminal.Mark m) ≡ false
closing_begins mark.RightParen h = refl
closing_begins mark.RightBracket h = refl
closing_begins mark.RightBrace h = refl
closing_begins mark.Colon h = refl
closing_begins mark.Semicolon h = refl
closing_begins _ h = absurd (cc)

pub given_reads : (m : Mark) (a : Expr) (d : ℕ) (e : Bool) (t : Symbol) (i r : Symbols) → Spells true 1 a d e i (t ∷ r) → Reads true 1 a d e i (t ∷ r) → t.lexeme ≡ Lexeme.mark m
    → ReadsOptional (Some a) d m i r
given_reads m a d e t i r sa ha is closing fuel room fits short =
    optional_given (expr fuel) room m (a, d) t i r (unseen m (next_of i) (begun sa) (closing_begins m closing))
    (inside true a d e i (t ∷ r) fuel room sa ha (closed true e m t r is closing) fits short) is

pub no_first_reads : (t : Symbol) (r : Symbols) → t.lexeme ≡ Lexeme.mark mark.Semicolon → ReadsFirst None 0 (t ∷ r) r
no_first_reads t r is fuel room line fits short = (t, is, first_none (expr fuel) (stmt fuel) room line t r is)

-- names with a semicolon after them are no head of a `for in`
var_head : {with_in : Bool} {vs : List (List ℕ × Option Expr)} {d : ℕ} {last : Option Bool} {i r : Symbols} → Declares with_in vs d last i r → sees_word keyword.In (next_of r) ≡ false
    → begins_for_in (next_of i) (second_of i) ≡ false
unfolding sees_word
var_head (Declares.last_bare with_in name t r is_t) h = rw is_t h
var_head (Declares.last_value with_in name a d e t u i r is_t is_u ha) h = rw (is_t, is_u)
var_head (Declares.more_bare with_in name vs d last t u j r is_t is_u hvs) h = rw (is_t, is_u)
var_head (Declares.more_value with_in name a vs d dv e last t u v i j r is_t is_u ha is_v hvs) h = rw (is_t, is_u)

pub first_var_reads : (vs : List (List ℕ × Option Expr)) (d : ℕ) (last : Option Bool) (t u : Symbol) (i r : Symbols) → t.lexeme ≡ Lexeme.reserved keyword.Var
    → Declares false vs d last i (u ∷ r) → ReadsDeclares false vs d last i (u ∷ r) → var_stops false last (u ∷ r) → u.lexeme ≡ Lexeme.mark mark.Semicolon → ReadsFirst (Some (first.Var vs)) d (t ∷ i) r
unfolding sees_word
first_var_reads vs d last t u i r is sv hv stop is_u fuel room line fits short =
    let unlike : sees_word keyword.In (terminal_of u.lexeme) ≡ false = other_word keyword.In u.lexeme _ is_u refl in (
      u,
      is_u,
      first_var (expr fuel) (stmt fuel) room line vs d t i (u ∷ r) is (var_head sv unlike)
          (hv stop fuel (room - 1) (length i) [] 0 (omega (arith, fits)) (omega (arith, short)) (omega arith) ∙ from_none vs d (u ∷ r)),
    )

-- what begins an expression is neither `;` nor `var`
expr_first : (k : Terminal) (fuel room line : ℕ) (i : Symbols) → begins k ≡ true → for_first (expr fuel) (stmt fuel) room line k i ≡ for_expr (expr fuel) (stmt fuel) room line i
expr_first (terminal.Mark mark.Semicolon) fuel room line i h = absurd (cc)
expr_first (terminal.Reserved keyword.Var) fuel room line i h = absurd (cc)
expr_first _ fuel room line i h = refl

pub first_expr_reads : (a : Expr) (d : ℕ) (e : Bool) (t : Symbol) (i r : Symbols) → Spells false 1 a d e i (t ∷ r) → Reads false 1 a d e i (t ∷ r) → t.lexeme ≡ Lexeme.mark mark.Semicolon
    → ReadsFirst (Some (first.Expr a)) d i r
unfolding sees_word
first_expr_reads a d e t i r sa ha is fuel room line fits short = (
  t,
  is,
  expr_first (next_of i) fuel room line i (begun sa)
      ∙ first_expr (expr fuel) (stmt fuel) room line (a, d) i (t ∷ r) (inside false a d e i (t ∷ r) fuel (room - 1) sa ha (closed false e mark.Semicolon t r is refl) (omega (arith, fits)) short)
      (other_word keyword.In t.lexeme _ is refl),
)

pub head_var_reads : (name : List ℕ) (t u : Symbol) (r : Symbols) → t.lexeme ≡ Lexeme.reserved keyword.Var → u.lexeme ≡ Lexeme.name name → ReadsHead (head.Var name) 0 (t ∷ u ∷ r) r
head_var_reads name t u r is is_u seen fuel room line fits short = head_var (expr fuel) (stmt fuel) room line name t u r is is_u seen

in_follows : (ends : Bool) (r : Symbols) → sees_word keyword.In (next_of r) ≡ true → strength false ends r ≡ 0
in_follows ends r seen =
    let s = word_seen_symbol keyword.In r seen in let e : strength false ends (s.0 ∷ tail r) ≡ 0 = in_strength ends s.0 (tail r) s.2 in ap (λ x. strength false ends x) s.1 ∙ e

pub head_target_reads : (a : Expr) (d : ℕ) (e : Bool) (i r : Symbols) → Spells false 16 a d e i r → Reads false 16 a d e i r → is_target a ≡ true → ReadsHead (head.Target a) d i r
head_target_reads a d e i r sa ha target seen fuel room line fits short =
    let none = in_follows e r seen in
    let f : Follows false 16 e r = record { tight = omega (arith, none); low = λ three. omega (arith, none); loose = omega (arith, none) } in
    expr_first (next_of i) fuel room line i (begun sa)
    ∙ head_target (expr fuel) (stmt fuel) room line (a, d) i r
    (whole false 16 a d e i r 1 fuel (room - 1) sa ha f (omega arith) (omega arith) (omega (arith, weak false e r, none)) (omega (arith, fits)) short) seen target

-- ---- cases

pub cases_close : {cs : List Case} {d : ℕ} {has_default : Bool} {i r : Symbols} → Cases cs d has_default i r → closes (next_of i) ≡ true
cases_close (Cases.no_case t r is_t) = rw is_t
cases_close (Cases.test_case a ss cs da ds dc e has_default t u i j k r is_t ha is_u hss hcs) = rw is_t
cases_close (Cases.default_case ss cs ds dc t u j k r is_t is_u hss hcs) = rw is_t

pub no_case_reads : (t : Symbol) (r : Symbols) → t.lexeme ≡ Lexeme.mark mark.RightBrace → ReadsCases [] 0 false (t ∷ r) r
no_case_reads t r is fuel room n seen found below once fits short turns = cases_end (expr fuel) (stmt fuel) room n seen found below t r (omega (arith, turns)) is ∙ nothing_more found below r

or_false : (a : Bool) → (a || false) ≡ a
or_false true = refl
or_false false = refl

pub test_case_reads : (a : Expr) (ss : List Stmt) (cs : List Case) (da ds dc : ℕ) (e has_default : Bool) (t u : Symbol) (i j k r : Symbols) → t.lexeme ≡ Lexeme.reserved keyword.Case
    → Spells true 1 a da e i (u ∷ j) → Reads true 1 a da e i (u ∷ j) → u.lexeme ≡ Lexeme.mark mark.Colon → closes (next_of k) ≡ true → length k ≤ length j → ReadsStatements false ss ds j k
    → ReadsCases cs dc has_default k r → ReadsCases (roll-Case (record { test = Some a; body = ss }) ∷ cs) (max da (max ds dc)) has_default (t ∷ i) r
unfolding sees
test_case_reads a ss cs da ds dc e has_default t u i j k r is sa ha is_u end less h hc fuel room n seen found below once fits short turns =
    let c : Case = roll-Case (record { test = Some a; body = ss }) in
    let less_a = shorter (past sa) in
    let same : max below (max (max da ds) dc) ≡ max below (max da (max ds dc)) = omega arith in
    cases_more (expr fuel) (stmt fuel) room n seen found below (c, max da ds, seen || false) (t ∷ i) k (omega (arith, turns)) (other_mark mark.RightBrace t.lexeme _ is refl)
    (case_ok (expr fuel) (stmt fuel) room seen (a, da) (ss, ds) t u i j k is
    (inside true a da e i (u ∷ j) fuel (room - 1) sa ha (closed true e mark.Colon u j is_u refl) (omega (arith, fits)) (omega (arith, short))) is_u
    (h end fuel room (length j) [] 0 (omega (arith, fits)) (omega (arith, less_a, short)) (omega arith) ∙ from_none ss ds k))
    ∙ hc fuel room (n - 1) (seen || false) (found ++ c ∷ []) (max below (max da ds)) (rw (or_false seen) once) (omega (arith, fits)) (omega (arith, less_a, less, short)) (omega (arith, less_a, less, turns))
    ∙ joins found c cs below (max da ds) dc r ∙ ap (λ m. Some ((found ++ (c ∷ cs), m), r)) same

pub default_case_reads : (ss : List Stmt) (cs : List Case) (ds dc : ℕ) (t u : Symbol) (j k r : Symbols) → t.lexeme ≡ Lexeme.reserved keyword.Default → u.lexeme ≡ Lexeme.mark mark.Colon
    → closes (next_of k) ≡ true → length k ≤ length j → ReadsStatements false ss ds j k → ReadsCases cs dc false k r
    → ReadsCases (roll-Case (record { test = None; body = ss }) ∷ cs) (max ds dc) true (t ∷ u ∷ j) r
unfolding sees
default_case_reads ss cs ds dc t u j k r is is_u end less h hc fuel room n true found below once fits short turns = absurd (never once)
default_case_reads ss cs ds dc t u j k r is is_u end less h hc fuel room n false found below once fits short turns =
    let c : Case = roll-Case (record { test = None; body = ss }) in
    let same : max below (max (max 0 ds) dc) ≡ max below (max ds dc) = omega arith in
    cases_more (expr fuel) (stmt fuel) room n false found below (c, max 0 ds, true) (t ∷ u ∷ j) k (omega (arith, turns)) (other_mark mark.RightBrace t.lexeme _ is refl)
    (default_ok (expr fuel) (stmt fuel) room (ss, ds) t u j k is is_u
    (h end fuel room (length j) [] 0 (omega (arith, fits)) (omega (arith, short)) (omega arith) ∙ from_none ss ds k))
    ∙ hc fuel room (n - 1) true (found ++ c ∷ []) (max below (max 0 ds)) refl (omega (arith, fits)) (omega (arith, less, short)) (omega (arith, less, turns))
    ∙ joins found c cs below (max 0 ds) dc r ∙ ap (λ m. Some ((found ++ (c ∷ cs), m), r)) same

pub caught_reads : (name : List ℕ) (ss : List Stmt) (d : ℕ) (t u v w : Symbol) (i r : Symbols) → t.lexeme ≡ Lexeme.reserved keyword.Catch → u.lexeme ≡ Lexeme.mark mark.LeftParen
    → v.lexeme ≡ Lexeme.name name → w.lexeme ≡ Lexeme.mark mark.RightParen → ReadsBlock ss d i r → ReadsCatch name ss d (t ∷ u ∷ v ∷ w ∷ i) r
caught_reads name ss d t u v w i r is is_u is_v is_w h fuel room fits short = catch_ok (stmt fuel) room name (ss, d) t u v w i r is is_u is_v is_w (h fuel room fits (omega (arith, short)))

-- ---- statements

-- from what the rule of its first symbols reads
statement_reads : (s : Stmt) (d : ℕ) (i r : Symbols) → 0 < d
    → ((declares : Bool) (fuel room : ℕ) → d ≤ room → length i ≤ fuel → one_statement (expr fuel) (stmt fuel) declares room i ≡ Some ((s, d), r)) → ReadsStatement s d i r
statement_reads s d i r deep h declares fuel room fits short =
    nested_statement fuel declares room (omega (arith, short)) (omega (arith, deep, fits)) i ∙ h declares (fuel - 1) room fits (omega (arith, short))

word_reads : (w : Keyword) (s : Stmt) (d : ℕ) (t : Symbol) (i r : Symbols) → t.lexeme ≡ Lexeme.reserved w → 0 < d
    → ((declares : Bool) (fuel room : ℕ) → d ≤ room → length i < fuel → statement_by (expr fuel) (stmt fuel) declares room t.line (terminal.Reserved w) (next_of i) (t ∷ i) ≡ Some ((s, d), r))
    → ReadsStatement s d (t ∷ i) r
word_reads w s d t i r is deep h =
    statement_reads s d (t ∷ i) r deep (λ declares fuel room fits short. by_word (expr fuel) (stmt fuel) declares room w t i is ∙ h declares fuel room fits (omega (arith, short)))

mark_reads : (m : Mark) (s : Stmt) (d : ℕ) (t : Symbol) (i r : Symbols) → t.lexeme ≡ Lexeme.mark m → 0 < d
    → ((declares : Bool) (fuel room : ℕ) → d ≤ room → length i < fuel → statement_by (expr fuel) (stmt fuel) declares room t.line (terminal.Mark m) (next_of i) (t ∷ i) ≡ Some ((s, d), r))
    → ReadsStatement s d (t ∷ i) r
mark_reads m s d t i r is deep h =
    statement_reads s d (t ∷ i) r deep (λ declares fuel room fits short. by_mark (expr fuel) (stmt fuel) declares room m t i is ∙ h declares fuel room fits (omega (arith, short)))

pub block_reads : {ss : List Stmt} {d : ℕ} {i r : Symbols} → Block ss d i r → ReadsBlock ss d i r → ReadsStatement (stands (line_of i) (step.Block ss)) (d + 1) i r
block_reads (Block.braced ss d t u i r is_t hss is_u) h =
    mark_reads mark.LeftBrace (stands t.line (step.Block ss)) (d + 1) t i r is_t (omega arith) (λ declares fuel room fits short.
    block_ok (stmt fuel) room t.line (ss, d) (t ∷ i) r (h fuel room (omega (arith, fits)) (omega (arith, short))) (omega (arith, fits)))

pub var_reads : (vs : List (List ℕ × Option Expr)) (d : ℕ) (last : Option Bool) (t : Symbol) (i k r : Symbols) → t.lexeme ≡ Lexeme.reserved keyword.Var → ReadsDeclares true vs d last i k
    → var_stops true last k → Ends (var_goes_on last k) k r → ReadsStatement (stands t.line (step.Var vs)) (d + 1) (t ∷ i) r
var_reads vs d last t i k r is h stop ending =
    word_reads keyword.Var (stands t.line (step.Var vs)) (d + 1) t i r is (omega arith) (λ declares fuel room fits short.
    var_ok (expr fuel) room t.line vs d i k r (h stop fuel (room - 1) (length i) [] 0 (omega (arith, fits)) (omega (arith, short)) (omega arith) ∙ from_none vs d k)
    (ended (var_goes_on last k) k r ending) (omega (arith, fits)))

pub empty_reads : (t : Symbol) (r : Symbols) → t.lexeme ≡ Lexeme.mark mark.Semicolon → ReadsStatement (stands t.line step.Empty) 1 (t ∷ r) r
empty_reads t r is =
    mark_reads mark.Semicolon (stands t.line step.Empty) 1 t r r is (omega arith) (λ declares fuel room fits short. stood_ok room t.line step.Empty 0 r (omega (arith, fits)))

pub expr_reads : (a : Expr) (d : ℕ) (e : Bool) (i k r : Symbols) → begins_other (lexeme_of i) ≡ false → begins_label i ≡ false → Spells true 1 a d e i k → Reads true 1 a d e i k
    → Ends (goes_on e k) k r → ReadsStatement (stands (line_of i) (step.Expr a)) (d + 1) i r
unfolding one_statement
expr_reads a d e i k r other unlabelled sa ha ending =
    statement_reads (stands (line_of i) (step.Expr a)) (d + 1) i r (omega arith) (λ declares fuel room fits short.
    plain (expr fuel) (stmt fuel) declares room (line_of i) (next_of i) (second_of i) i (begun sa) (other_like (lexeme_of i) ∙ other) (label_like i ∙ unlabelled)
    ∙ expr_ok (expr fuel) room (line_of i) (a, d) i k r (inside true a d e i k fuel (room - 1) sa ha (stops e k r ending) (omega (arith, fits)) short) (ended (goes_on e k) k r ending) (omega (arith, fits)))

pub if_only_reads : (a : Expr) (s : Stmt) (da ds : ℕ) (t : Symbol) (i j r : Symbols) → t.lexeme ≡ Lexeme.reserved keyword.If → length j < length i → ReadsGrouped a da i j → ReadsStatement s ds j r
    → is_else (lexeme_of r) ≡ false → ReadsStatement (stands t.line (step.If a s None)) (max da ds + 1) (t ∷ i) r
if_only_reads a s da ds t i j r is less ha hs alone =
    word_reads keyword.If (stands t.line (step.If a s None)) (max da ds + 1) t i r is (omega arith) (λ declares fuel room fits short.
    if_none (expr fuel) (stmt fuel) room t.line (a, da) (s, ds) i j r (ha fuel (room - 1) (omega (arith, fits)) (omega (arith, short)))
    (hs false fuel (room - 1) (omega (arith, fits)) (omega (arith, less, short))) (else_like (lexeme_of r) ∙ alone) (omega (arith, fits)))

pub if_else_reads : (a : Expr) (s o : Stmt) (da ds dn : ℕ) (t u : Symbol) (i j k r : Symbols) → t.lexeme ≡ Lexeme.reserved keyword.If → length j < length i → length k < length j
    → ReadsGrouped a da i j → ReadsStatement s ds j (u ∷ k) → u.lexeme ≡ Lexeme.reserved keyword.Else → ReadsStatement o dn k r
    → ReadsStatement (stands t.line (step.If a s (Some o))) (max da (max ds dn) + 1) (t ∷ i) r
if_else_reads a s o da ds dn t u i j k r is less less_s ha hs is_u ho =
    word_reads keyword.If (stands t.line (step.If a s (Some o))) (max da (max ds dn) + 1) t i r is (omega arith) (λ declares fuel room fits short.
    if_some (expr fuel) (stmt fuel) room t.line (a, da) (s, ds) (o, dn) u i j k r (ha fuel (room - 1) (omega (arith, fits)) (omega (arith, short)))
    (hs false fuel (room - 1) (omega (arith, fits)) (omega (arith, less, short))) is_u (ho false fuel (room - 1) (omega (arith, fits)) (omega (arith, less, less_s, short))) (omega (arith, fits)))

pub do_while_reads : (s : Stmt) (a : Expr) (ds da : ℕ) (t u : Symbol) (i j k r : Symbols) → t.lexeme ≡ Lexeme.reserved keyword.Do → length j < length i → ReadsStatement s ds i (u ∷ j)
    → u.lexeme ≡ Lexeme.reserved keyword.While → ReadsGrouped a da j k → Ends false k r → ReadsStatement (stands t.line (step.Do s a)) (max ds da + 1) (t ∷ i) r
do_while_reads s a ds da t u i j k r is less hs is_u ha ending =
    word_reads keyword.Do (stands t.line (step.Do s a)) (max ds da + 1) t i r is (omega arith) (λ declares fuel room fits short.
    do_ok (expr fuel) (stmt fuel) room t.line (s, ds) (a, da) u i j k r (hs false fuel (room - 1) (omega (arith, fits)) short) is_u
    (ha fuel (room - 1) (omega (arith, fits)) (omega (arith, less, short))) (ended false k r ending) (omega (arith, fits)))

pub while_reads : (a : Expr) (s : Stmt) (da ds : ℕ) (t : Symbol) (i j r : Symbols) → t.lexeme ≡ Lexeme.reserved keyword.While → length j < length i → ReadsGrouped a da i j → ReadsStatement s ds j r
    → ReadsStatement (stands t.line (step.While a s)) (max da ds + 1) (t ∷ i) r
while_reads a s da ds t i j r is less ha hs =
    word_reads keyword.While (stands t.line (step.While a s)) (max da ds + 1) t i r is (omega arith) (λ declares fuel room fits short.
    while_ok (expr fuel) (stmt fuel) room t.line (a, da) (s, ds) i j r (ha fuel (room - 1) (omega (arith, fits)) (omega (arith, short)))
    (hs false fuel (room - 1) (omega (arith, fits)) (omega (arith, less, short))) (omega (arith, fits)))

pub for_reads : (f : Option ForFirst) (a b : Option Expr) (s : Stmt) (df da db ds : ℕ) (t u : Symbol) (i j k l r : Symbols) → t.lexeme ≡ Lexeme.reserved keyword.For
    → u.lexeme ≡ Lexeme.mark mark.LeftParen → length j < length i → length k < length j → length l < length k → ReadsFirst f df i j → ReadsOptional a da mark.Semicolon j k
    → ReadsOptional b db mark.RightParen k l → ReadsStatement s ds l r → ReadsStatement (stands t.line (step.For f a b s)) (max df (max da (max db ds)) + 1) (t ∷ u ∷ i) r
for_reads f a b s df da db ds t u i j k l r is is_u less less_a less_b hf ha hb hs =
    word_reads keyword.For (stands t.line (step.For f a b s)) (max df (max da (max db ds)) + 1) t (u ∷ i) r is (omega arith) (λ declares fuel room fits short.
    let opened = hf fuel room t.line (omega (arith, fits)) (omega (arith, short)) in
    for_opened (expr fuel) (stmt fuel) room t.line u i is_u ∙ opened.2
    ∙ for_rest_ok (expr fuel) (stmt fuel) room t.line f df (a, da) (b, db) (s, ds) opened.0 j k l r opened.1 (ha refl fuel (room - 1) (omega (arith, fits)) (omega (arith, less, short)))
    (hb refl fuel (room - 1) (omega (arith, fits)) (omega (arith, less, less_a, short))) (hs false fuel (room - 1) (omega (arith, fits)) (omega (arith, less, less_a, less_b, short))) (omega (arith, fits)))

pub for_in_reads : (h : ForInHead) (a : Expr) (s : Stmt) (dh da ds : ℕ) (e : Bool) (t u v w : Symbol) (i j k r : Symbols) → t.lexeme ≡ Lexeme.reserved keyword.For
    → u.lexeme ≡ Lexeme.mark mark.LeftParen → length j < length i → ReadsHead h dh i (v ∷ j) → v.lexeme ≡ Lexeme.reserved keyword.In → Spells true 1 a da e j (w ∷ k) → Reads true 1 a da e j (w ∷ k)
    → w.lexeme ≡ Lexeme.mark mark.RightParen → ReadsStatement s ds k r → ReadsStatement (stands t.line (step.ForIn h a s)) (max dh (max da ds) + 1) (t ∷ u ∷ i) r
for_in_reads h a s dh da ds e t u v w i j k r is is_u less hh is_v sa ha is_w hs =
    word_reads keyword.For (stands t.line (step.ForIn h a s)) (max dh (max da ds) + 1) t (u ∷ i) r is (omega arith) (λ declares fuel room fits short.
    for_opened (expr fuel) (stmt fuel) room t.line u i is_u ∙ hh (is_word_seen keyword.In v.lexeme is_v) fuel room t.line (omega (arith, fits)) (omega (arith, short))
    ∙ for_in_rest_ok (expr fuel) (stmt fuel) room t.line h dh (a, da) (s, ds) v w j k r is_v
    (inside true a da e j (w ∷ k) fuel (room - 1) sa ha (closed true e mark.RightParen w k is_w refl) (omega (arith, fits)) (omega (arith, less, short))) is_w
    (hs false fuel (room - 1) (omega (arith, fits)) (omega (arith, less, shorter (past sa), short))) (omega (arith, fits)))

-- where a statement ends no label follows
unlabelled_by : (k : Terminal) (broken : Bool) (i : Symbols) → (sees mark.Semicolon k || may_miss (like k) broken false) ≡ true → label_by k broken i ≡ Some (None, i)
unfolding sees
unlabelled_by terminal.Name true i h = refl
unlabelled_by terminal.Name false i h = absurd (cc)
unlabelled_by (terminal.Reserved k) broken i h = refl
unlabelled_by terminal.Number broken i h = refl
unlabelled_by terminal.Str broken i h = refl
unlabelled_by (terminal.Mark m) broken i h = refl
unlabelled_by terminal.End broken i h = refl

no_label : (i r : Symbols) → Ends false i r → optional_label i ≡ Some (None, i)
unfolding optional_label ends_here
no_label i r ending = unlabelled_by (next_of i) (breaks i) i (ended_here false i r ending)

pub continue_reads : (t : Symbol) (j r : Symbols) → t.lexeme ≡ Lexeme.reserved keyword.Continue → Ends false j r → ReadsStatement (stands t.line (step.Continue None)) 1 (t ∷ j) r
continue_reads t j r is ending =
    word_reads keyword.Continue (stands t.line (step.Continue None)) 1 t j r is (omega arith) (λ declares fuel room fits short.
    continued room t.line None j j r (no_label j r ending) (ended false j r ending) (omega (arith, fits)))

pub continue_to_reads : (label : List ℕ) (t u : Symbol) (j r : Symbols) → t.lexeme ≡ Lexeme.reserved keyword.Continue → u.after_break ≡ false → u.lexeme ≡ Lexeme.name label → Ends false j r
    → ReadsStatement (stands t.line (step.Continue (Some label))) 1 (t ∷ u ∷ j) r
continue_to_reads label t u j r is same is_u ending =
    word_reads keyword.Continue (stands t.line (step.Continue (Some label))) 1 t (u ∷ j) r is (omega arith) (λ declares fuel room fits short.
    continued room t.line (Some label) (u ∷ j) j r (label_here label u j is_u same) (ended false j r ending) (omega (arith, fits)))

pub break_reads : (t : Symbol) (j r : Symbols) → t.lexeme ≡ Lexeme.reserved keyword.Break → Ends false j r → ReadsStatement (stands t.line (step.Break None)) 1 (t ∷ j) r
break_reads t j r is ending =
    word_reads keyword.Break (stands t.line (step.Break None)) 1 t j r is (omega arith) (λ declares fuel room fits short.
    broken room t.line None j j r (no_label j r ending) (ended false j r ending) (omega (arith, fits)))

pub break_to_reads : (label : List ℕ) (t u : Symbol) (j r : Symbols) → t.lexeme ≡ Lexeme.reserved keyword.Break → u.after_break ≡ false → u.lexeme ≡ Lexeme.name label → Ends false j r
    → ReadsStatement (stands t.line (step.Break (Some label))) 1 (t ∷ u ∷ j) r
break_to_reads label t u j r is same is_u ending =
    word_reads keyword.Break (stands t.line (step.Break (Some label))) 1 t (u ∷ j) r is (omega arith) (λ declares fuel room fits short.
    broken room t.line (Some label) (u ∷ j) j r (label_here label u j is_u same) (ended false j r ending) (omega (arith, fits)))

pub return_reads : (t : Symbol) (j r : Symbols) → t.lexeme ≡ Lexeme.reserved keyword.Return → Ends false j r → ReadsStatement (stands t.line (step.Return None)) 1 (t ∷ j) r
return_reads t j r is ending =
    word_reads keyword.Return (stands t.line (step.Return None)) 1 t j r is (omega arith) (λ declares fuel room fits short.
    return_none (expr fuel) room t.line j r (ended_here false j r ending) (ended false j r ending) (omega (arith, fits)))

pub return_value_reads : (a : Expr) (d : ℕ) (e : Bool) (t : Symbol) (i k r : Symbols) → t.lexeme ≡ Lexeme.reserved keyword.Return → breaks i ≡ false → Spells true 1 a d e i k
    → Reads true 1 a d e i k → Ends (goes_on e k) k r → ReadsStatement (stands t.line (step.Return (Some a))) (d + 1) (t ∷ i) r
return_value_reads a d e t i k r is same sa ha ending =
    word_reads keyword.Return (stands t.line (step.Return (Some a))) (d + 1) t i r is (omega arith) (λ declares fuel room fits short.
    return_some (expr fuel) room t.line (a, d) i k r (goes_on_here i (begun sa) same) (inside true a d e i k fuel (room - 1) sa ha (stops e k r ending) (omega (arith, fits)) (omega (arith, short)))
    (ended (goes_on e k) k r ending) (omega (arith, fits)))

pub throw_reads : (a : Expr) (d : ℕ) (e : Bool) (t : Symbol) (i k r : Symbols) → t.lexeme ≡ Lexeme.reserved keyword.Throw → breaks i ≡ false → Spells true 1 a d e i k
    → Reads true 1 a d e i k → Ends (goes_on e k) k r → ReadsStatement (stands t.line (step.Throw a)) (d + 1) (t ∷ i) r
throw_reads a d e t i k r is same sa ha ending =
    word_reads keyword.Throw (stands t.line (step.Throw a)) (d + 1) t i r is (omega arith) (λ declares fuel room fits short.
    throw_ok (expr fuel) room t.line (a, d) i k r same (inside true a d e i k fuel (room - 1) sa ha (stops e k r ending) (omega (arith, fits)) (omega (arith, short)))
    (ended (goes_on e k) k r ending) (omega (arith, fits)))

pub switch_reads : (a : Expr) (cs : List Case) (da dc : ℕ) (has_default : Bool) (t u : Symbol) (i j r : Symbols) → t.lexeme ≡ Lexeme.reserved keyword.Switch → length j < length i
    → ReadsGrouped a da i (u ∷ j) → u.lexeme ≡ Lexeme.mark mark.LeftBrace → ReadsCases cs dc has_default j r → ReadsStatement (stands t.line (step.Switch a cs)) (max da dc + 1) (t ∷ i) r
switch_reads a cs da dc has_default t u i j r is less ha is_u hc =
    word_reads keyword.Switch (stands t.line (step.Switch a cs)) (max da dc + 1) t i r is (omega arith) (λ declares fuel room fits short.
    switch_ok (expr fuel) (stmt fuel) room t.line (a, da) (cs, dc) u i j r (ha fuel (room - 1) (omega (arith, fits)) (omega (arith, short))) is_u
    (hc fuel room (length j) false [] 0 refl (omega (arith, fits)) (omega (arith, less, short)) (omega arith) ∙ from_none cs dc r) (omega (arith, fits)))

pub try_catch_reads : (ss cs : List Stmt) (name : List ℕ) (ds dc : ℕ) (t : Symbol) (i j r : Symbols) → t.lexeme ≡ Lexeme.reserved keyword.Try → length j < length i → ReadsBlock ss ds i j
    → ReadsCatch name cs dc j r → is_finally (lexeme_of r) ≡ false → ReadsStatement (stands t.line (step.Try ss (Some (name, cs)) None)) (max ds dc + 1) (t ∷ i) r
try_catch_reads ss cs name ds dc t i j r is less hs hc alone =
    word_reads keyword.Try (stands t.line (step.Try ss (Some (name, cs)) None)) (max ds dc + 1) t i r is (omega arith) (λ declares fuel room fits short.
    let same : max ds (max dc 0) + 1 ≡ max ds dc + 1 = omega arith in
    try_ok (stmt fuel) room t.line (ss, ds) (Some (name, cs), dc) (None, 0) i j r r (hs fuel room (omega (arith, fits)) (omega (arith, short))) (hc fuel room (omega (arith, fits)) (omega (arith, less, short)))
    (finally_none (stmt fuel) room r (finally_like (lexeme_of r) ∙ alone)) refl (omega (arith, fits))
    ∙ ap (λ d. Some ((stands t.line (step.Try ss (Some (name, cs)) None), d), r)) same)

pub try_finally_reads : (ss fs : List Stmt) (ds df : ℕ) (t u : Symbol) (i j r : Symbols) → t.lexeme ≡ Lexeme.reserved keyword.Try → length j < length i → ReadsBlock ss ds i (u ∷ j)
    → u.lexeme ≡ Lexeme.reserved keyword.Finally → ReadsBlock fs df j r → ReadsStatement (stands t.line (step.Try ss None (Some fs))) (max ds df + 1) (t ∷ i) r
unfolding sees_word
try_finally_reads ss fs ds df t u i j r is less hs is_u hf =
    word_reads keyword.Try (stands t.line (step.Try ss None (Some fs))) (max ds df + 1) t i r is (omega arith) (λ declares fuel room fits short.
    let same : max ds (max 0 df) + 1 ≡ max ds df + 1 = omega arith in
    try_ok (stmt fuel) room t.line (ss, ds) (None, 0) (Some fs, df) i (u ∷ j) (u ∷ j) r (hs fuel room (omega (arith, fits)) (omega (arith, short)))
    (catch_none (stmt fuel) room (u ∷ j) (other_word keyword.Catch u.lexeme _ is_u refl))
    (finally_ok (stmt fuel) room (fs, df) u j r is_u (hf fuel room (omega (arith, fits)) (omega (arith, less, short)))) refl (omega (arith, fits))
    ∙ ap (λ d. Some ((stands t.line (step.Try ss None (Some fs)), d), r)) same)

pub try_both_reads : (ss cs fs : List Stmt) (name : List ℕ) (ds dc df : ℕ) (t u : Symbol) (i j k r : Symbols) → t.lexeme ≡ Lexeme.reserved keyword.Try → length j < length i → length k < length j
    → ReadsBlock ss ds i j → ReadsCatch name cs dc j (u ∷ k) → u.lexeme ≡ Lexeme.reserved keyword.Finally → ReadsBlock fs df k r
    → ReadsStatement (stands t.line (step.Try ss (Some (name, cs)) (Some fs))) (max ds (max dc df) + 1) (t ∷ i) r
try_both_reads ss cs fs name ds dc df t u i j k r is less less_c hs hc is_u hf =
    word_reads keyword.Try (stands t.line (step.Try ss (Some (name, cs)) (Some fs))) (max ds (max dc df) + 1) t i r is (omega arith) (λ declares fuel room fits short.
    try_ok (stmt fuel) room t.line (ss, ds) (Some (name, cs), dc) (Some fs, df) i j (u ∷ k) r (hs fuel room (omega (arith, fits)) (omega (arith, short))) (hc fuel room (omega (arith, fits)) (omega (arith, less, short)))
    (finally_ok (stmt fuel) room (fs, df) u k r is_u (hf fuel room (omega (arith, fits)) (omega (arith, less, less_c, short)))) refl (omega (arith, fits)))

pub label_reads : (name : List ℕ) (s : Stmt) (d : ℕ) (t u : Symbol) (j r : Symbols) → t.lexeme ≡ Lexeme.name name → u.lexeme ≡ Lexeme.mark mark.Colon → ReadsStatement s d j r → is_loop s ≡ true
    → ReadsStatement (stands t.line (step.Label name s)) (d + 1) (t ∷ u ∷ j) r
label_reads name s d t u j r is is_u hs loop =
    statement_reads (stands t.line (step.Label name s)) (d + 1) (t ∷ u ∷ j) r (omega arith) (λ declares fuel room fits short.
    by_label (expr fuel) (stmt fuel) declares room name t u j is is_u
    ∙ label_ok (stmt fuel) room t.line name (s, d) t u j r is is_u (hs false fuel (room - 1) (omega (arith, fits)) (omega (arith, short))) loop (omega (arith, fits)))
