-- Expressions and items from a place to a place.
use Rattle.std.proofs.Common.{◌≡◌, ℕ, ◌+◌, ◌-◌, ◌<◌, ◌≤◌, Bool, true, false, ◌||◌, List, length, drop, Some, None, refl, ap, sym, ◌∙◌, subst, arith, length-drop}
use Rattle.std.proofs.Math.Seq.{drop-drop}
use Rattle.njs_tree.specs.declared.token.Keyword.TheVariants as keyword
use Rattle.njs_tree.specs.declared.tree.Expr.{Expr}
use Rattle.njs_tree.specs.declared.tree.Stmt.{Stmt}
use Rattle.njs_tree.specs.Symbols.{lexeme_of, breaks, update_of, is_else, is_finally}
use Rattle.njs_tree.specs.Grammar.{IsExpression, IsWholeItem, max_depth, least_of, updates_here}
use Rattle.njs_expr.specs.Readers.{Symbols, like, next_of, sees_word, Grown, Stood}
use Rattle.njs_expr.specs.Descent.{expr, stmt, unless_updated, unless_carried, whole_expression, whole_item}
use Rattle.njs_expr.proofs.Terminals.{update_like, else_like, finally_like}
use Rattle.njs_expr.proofs.Past.{Suffix, past, wide, shorter, dropped, item_past}
use Rattle.njs_expr.proofs.Backwards.{bind_case, none_some, some_pair, pick_case}
use Rattle.njs_expr.proofs.Sound.{sound, item_sound}
use Rattle.njs_expr.proofs.Complete.{complete, item_complete, one_expression, one_item}

pub least_bounds : (with_comma : Bool) → (1 ≤ least_of with_comma) × (least_of with_comma ≤ 2)
least_bounds true = (omega arith, omega arith)
least_bounds false = (omega arith, omega arith)

-- ---- expressions

-- what is read is an expression
pub expression_found : (with_in with_comma : Bool) (i : Symbols) (g : Grown) (r : Symbols) → whole_expression with_in with_comma i ≡ Some (g, r) → IsExpression with_in with_comma g.0 i r
unfolding whole_expression unless_updated
expression_found with_in with_comma i g r e =
    let low = least_bounds with_comma in
    bind_case (expr (length i) with_in (least_of with_comma) max_depth i) _ (g, r) e (λ a k found e1.
    pick_case (updates_here (update_of (like (next_of k))) (breaks k)) None (Some (a, k)) (g, r) e1
    (λ here e2. absurd (none_some (g, r) e2))
    (λ quiet e2.
    let p = some_pair e2 in
    let s = sound (length i) with_in (least_of with_comma) max_depth i a.0 a.1 k low.0 (omega (arith, low.1)) found in
    let h : IsExpression with_in with_comma a.0 i k = (a.1, s.0, s.1, s.3, s.2, ap (λ u. updates_here u (breaks k)) (sym (update_like (lexeme_of k))) ∙ quiet) in
    subst (λ (q : Grown). IsExpression with_in with_comma q.0 i r) p.0 (subst (λ q. IsExpression with_in with_comma a.0 i q) p.1 h)))

expression_end : (g : Grown) (r : Symbols) → updates_here (update_of (lexeme_of r)) (breaks r) ≡ false → unless_updated g r ≡ Some (g, r)
unfolding unless_updated
expression_end g r quiet = rw (update_like (lexeme_of r), quiet)

-- an expression is read
pub expression_read : (with_in with_comma : Bool) (tree : Expr) (i r : Symbols) → (h : IsExpression with_in with_comma tree i r) → whole_expression with_in with_comma i ≡ Some ((tree, h.0), r)
unfolding whole_expression
expression_read with_in with_comma tree i r h =
    let low = least_bounds with_comma in
    rw (complete with_in (least_of with_comma) tree h.0 h.1 i r (length i) max_depth h.2 low.1 h.4 h.3 (omega arith)) (expression_end (tree, h.0) r h.5)

-- where none is read none is
pub expression_none : (with_in with_comma : Bool) (i : Symbols) → whole_expression with_in with_comma i ≡ None → (tree : Expr) (r : Symbols) → IsExpression with_in with_comma tree i r → ⊥
expression_none with_in with_comma i e tree r h = none_some ((tree, h.0), r) (sym e ∙ expression_read with_in with_comma tree i r h)

pub expression_past : (with_in with_comma : Bool) (tree : Expr) (i r : Symbols) → IsExpression with_in with_comma tree i r → Suffix i r × (length r < length i)
expression_past with_in with_comma tree i r h = (wide (past h.2), shorter (past h.2))

-- symbols begin with one expression at most, and it ends at one place
pub expression_once : (with_in with_comma : Bool) (a b : Expr) (i r q : Symbols) → IsExpression with_in with_comma a i r → IsExpression with_in with_comma b i q → (a ≡ b) × (r ≡ q)
expression_once with_in with_comma a b i r q ha hb =
    one_expression with_in (least_of with_comma) a b ha.0 hb.0 ha.1 hb.1 i r q (least_bounds with_comma).1 ha.2 ha.4 hb.2 hb.4

-- ---- items

both_false : (a b : Bool) → (a || b) ≡ false → (a ≡ false) × (b ≡ false)
both_false true b h = absurd (cc)
both_false false b h = (refl, h)

-- what is read is an item
pub item_found : (i : Symbols) (g : Stood) (r : Symbols) → whole_item i ≡ Some (g, r) → IsWholeItem g.0 i r
unfolding whole_item unless_carried
item_found i g r e =
    bind_case (stmt (length i + 1) true max_depth i) _ (g, r) e (λ a k found e1.
    pick_case (sees_word keyword.Else (next_of k) || sees_word keyword.Finally (next_of k)) None (Some (a, k)) (g, r) e1
    (λ here e2. absurd (none_some (g, r) e2))
    (λ alone e2.
    let p = some_pair e2 in
    let s = item_sound (length i + 1) max_depth i a.0 a.1 k found in
    let no_word = both_false _ _ alone in
    let h : IsWholeItem a.0 i k = (a.1, s.0, s.1, sym (else_like (lexeme_of k)) ∙ no_word.0, sym (finally_like (lexeme_of k)) ∙ no_word.1) in
    subst (λ (q : Stood). IsWholeItem q.0 i r) p.0 (subst (λ q. IsWholeItem a.0 i q) p.1 h)))

item_end : (g : Stood) (r : Symbols) → is_else (lexeme_of r) ≡ false → is_finally (lexeme_of r) ≡ false → unless_carried g r ≡ Some (g, r)
unfolding unless_carried
item_end g r no_else no_finally = rw (else_like (lexeme_of r), no_else, finally_like (lexeme_of r), no_finally)

-- an item is read
pub item_read : (s : Stmt) (i r : Symbols) → (h : IsWholeItem s i r) → whole_item i ≡ Some ((s, h.0), r)
unfolding whole_item
item_read s i r h = rw (item_complete s h.0 i r (length i + 1) max_depth h.1 h.2 (omega arith)) (item_end (s, h.0) r h.3 h.4)

-- where none is read none is
pub item_none : (i : Symbols) → whole_item i ≡ None → (s : Stmt) (r : Symbols) → IsWholeItem s i r → ⊥
item_none i e s r h = none_some ((s, h.0), r) (sym e ∙ item_read s i r h)

pub whole_item_past : (s : Stmt) (i r : Symbols) → IsWholeItem s i r → Suffix i r × (length r < length i)
whole_item_past s i r h = (wide (item_past h.1), shorter (item_past h.1))

-- symbols begin with one item at most, and it ends at one place
pub item_once : (a b : Stmt) (i r q : Symbols) → IsWholeItem a i r → IsWholeItem b i q → (a ≡ b) × (r ≡ q)
item_once a b i r q ha hb = let e = one_item a b ha.0 hb.0 i r q ha.1 hb.1 in (e.0, e.2)

-- ---- between places

dropped_within : {A : Type 0} (xs : List A) (place : ℕ) (r : List A) → place ≤ length xs → drop (length (drop place xs) - length r) (drop place xs) ≡ r
    → length r ≤ length (drop place xs) → drop (length xs - length r) xs ≡ r
dropped_within xs place r within e short =
    let l : length (drop place xs) ≡ length xs - place = length-drop place xs in
    let n : length xs - length r ≡ place + (length (drop place xs) - length r) = omega (arith, l) in
    ap (λ k. drop k xs) n ∙ sym (drop-drop (length (drop place xs) - length r) place xs) ∙ e

-- the place after what was read from a place on
pub placed : (xs : Symbols) (place : ℕ) (r : Symbols) → place ≤ length xs → Suffix (drop place xs) r × (length r < length (drop place xs))
    → (r ≡ drop (length xs - length r) xs) × (place < length xs - length r) × (length xs - length r ≤ length xs) × (length r ≤ length xs)
placed xs place r within h =
    let l : length (drop place xs) ≡ length xs - place = length-drop place xs in
    let back = dropped h.0 in
    (sym (dropped_within xs place r within back.0 back.1), omega (arith, l, h.1), omega arith, omega (arith, l, h.1))

-- An expression that is read from a place on, up to the place that is as far from the end as what is left.
pub expression_placed : (with_in with_comma : Bool) (xs : Symbols) (place : ℕ) (g : Grown) (r : Symbols) → place ≤ length xs → whole_expression with_in with_comma (drop place xs) ≡ Some (g, r)
    → IsExpression with_in with_comma g.0 (drop place xs) (drop (length xs - length r) xs) × (place < length xs - length r) × (length xs - length r ≤ length xs) × (length r ≤ length xs)
expression_placed with_in with_comma xs place g r within e =
    let h = expression_found with_in with_comma (drop place xs) g r e in
    let p = placed xs place r within (expression_past with_in with_comma g.0 (drop place xs) r h) in
    (subst (λ q. IsExpression with_in with_comma g.0 (drop place xs) q) p.0 h, p.1, p.2, p.3)

-- and an item
pub item_placed : (xs : Symbols) (place : ℕ) (g : Stood) (r : Symbols) → place ≤ length xs → whole_item (drop place xs) ≡ Some (g, r)
    → IsWholeItem g.0 (drop place xs) (drop (length xs - length r) xs) × (place < length xs - length r) × (length xs - length r ≤ length xs) × (length r ≤ length xs)
item_placed xs place g r within e =
    let h = item_found (drop place xs) g r e in
    let p = placed xs place r within (whole_item_past g.0 (drop place xs) r h) in
    (subst (λ q. IsWholeItem g.0 (drop place xs) q) p.0 h, p.1, p.2, p.3)
