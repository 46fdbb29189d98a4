-- The items of a script, found one at a time.
use Rattle.std.proofs.Common.{◌≡◌, ℕ, ◌≤◌, max, Bool, true, false, ◌||◌, List, [], ◌∷◌, ◌++◌, Some, None, refl, ap, subst, sym, ◌∙◌, arith, append_assoc}
use Rattle.std.proofs.lemmas.List.{append-nil}
use Rattle.njs_tree.specs.declared.token.Keyword.TheVariants as keyword
use Rattle.njs_tree.specs.declared.token.Mark.TheVariants as mark
use Rattle.njs_tree.specs.declared.tree.Expr.{Expr}
use Rattle.njs_tree.specs.declared.tree.Stmt.{Stmt}
use Rattle.njs_tree.specs.declared.tree.Item.{Item}
use Rattle.njs_tree.specs.declared.tree.Item.TheVariants as items
use Rattle.njs_tree.specs.Lexemes.{Lexeme, Symbol}
use Rattle.njs_tree.specs.Symbols.{lexeme_of, goes_on, strength, binds, joint_of}
use Rattle.njs_tree.specs.Grammar.{Ends, IsItem, Items, IsExpression, IsWholeItem, max_depth}
use Rattle.njs_expr.specs.Readers.{Symbols, next_of, terminal_of, sees, sees_word, semicolon, tail}
use Rattle.njs_expr.proofs.Forwards.{never, ended}
use Rattle.njs_expr.proofs.Backwards.{some_pair, none_some}
use Rattle.njs_expr.proofs.Terminals.{seen_is, is_word_seen}
use Rattle.njs_expr.proofs.Follow.{weak, stops}
use Rattle.njs_lexer.proofs.Runs.{differs}
use Rattle.njs_expr.proofs.Whole.{expression_once, item_once}
use Rattle.njs_expr.proofs.Once.{item_native, is_foreign}
use Rattle.njs_expr.proofs.Items.{whole_before, exported, may_export}
use Rattle.njs_stmt.specs.Script.{is_over, ends_here, is_export, Exports, IsNextItem, Finishes}

foreign_as : (x y : Lexeme) → x ≡ y → is_foreign (terminal_of y) ≡ true → is_foreign (terminal_of x) ≡ true
foreign_as x y e h = rw e h

-- neither the end nor an `export` begins an item
pub no_item : {s : Stmt} {d : ℕ} {i r : Symbols} {A : Type 0} → IsItem s d i r → (y : Lexeme) → lexeme_of i ≡ y → is_foreign (terminal_of y) ≡ true → A
no_item {i = i} h y e foreign = absurd (never (sym (foreign_as (lexeme_of i) y e foreign) ∙ item_native h))

over_here : (t : Symbol) → t.lexeme ≡ Lexeme.over → is_over t.lexeme ≡ true
over_here t e = ap is_over e

-- ---- what is found from a place on decides what is found from the next place on

pub record ReadTo (all : Symbols) (found : List Item) (exported : Bool) (i : Symbols) : Type 0 where
  pub forwards : (xs : List Item) → Finishes exported xs i → Finishes false (found ++ xs) all
  pub backwards : (ys : List Item) → Finishes false ys all → (xs : List Item) × Finishes exported xs i

nil_left : {A : Type 0} (xs : List A) → [] ++ xs ≡ xs
nil_left [] = refl
nil_left (x ∷ xs) = refl

pub nothing_read : (all : Symbols) → ReadTo all [] false all
nothing_read all = record {
  forwards = λ xs h. subst (λ z. Finishes false z all) (sym (nil_left xs)) h;
  backwards = λ ys h. (ys, h);
}

or_true : (b : Bool) → (b || true) ≡ true
or_true true = refl
or_true false = refl

or_false : (b : Bool) → (b || false) ≡ b
or_false true = refl
or_false false = refl

no_absurd : {A : Type 0} (b : Bool) → b ≡ false → b ≡ true → A
no_absurd b f t = absurd (never (sym t ∙ f))

forward_item : (exported : Bool) (it : Item) (xs : List Item) (i r : Symbols) → IsNextItem exported it i r → Finishes (exported || is_export it) xs r → Finishes exported (it ∷ xs) i
forward_item exported (items.Stmt s) xs i r h f = record {
  depth = max h.0 f.depth;
  exports = f.exports;
  spelled = Items.item s xs h.0 f.depth f.exports i r h.1 f.spelled;
  fits = (let a = h.2 in let b = f.fits in omega (arith, a, b));
  once = λ e. f.once (or_false exported ∙ e);
}
forward_item exported (items.Export line a) xs i r (first, h) f =
    let none : f.exports ≡ false = f.once (or_true exported) in
    let rest : Items xs f.depth false r = subst (λ z. Items xs f.depth z r) none f.spelled in
    let here : Items (items.Export h.first.line a ∷ xs) (max h.depth f.depth) true (h.first ∷ h.second ∷ h.value) =
    Items.export a xs h.depth f.depth h.updated h.first h.second h.value h.past r h.export_word h.default_word h.spelled h.ended rest in
    record {
      depth = max h.depth f.depth;
      exports = true;
      spelled = subst (λ z. Items (items.Export line a ∷ xs) (max h.depth f.depth) true z) (sym h.begins) (subst (λ z. Items (items.Export z a ∷ xs) (max h.depth f.depth) true (h.first ∷ h.second ∷ h.value)) (sym h.on_line) here);
      fits = (let a1 = h.fits in let b1 = f.fits in omega (arith, a1, b1));
      once = λ e. no_absurd exported first e;
    }

-- ---- what follows an item that was found

left_fits : (a b : ℕ) → max a b ≤ max_depth → a ≤ max_depth
left_fits a b h = omega (arith, h)

right_fits : (a b : ℕ) → max a b ≤ max_depth → b ≤ max_depth
right_fits a b h = omega (arith, h)

after_stmt : (flag : Bool) (s : Stmt) {xs : List Item} {d : ℕ} {ex : Bool} {i : Symbols} (r : Symbols) → IsWholeItem s i r → Items xs d ex i → d ≤ max_depth → (flag ≡ true → ex ≡ false)
    → (ys : List Item) × Finishes flag ys r
after_stmt flag s r h (Items.over t is_t) fits once = no_item h.1 Lexeme.over is_t refl
after_stmt flag s r h (Items.item o xs d dx ex i q ho hxs) fits once =
    let one = item_once s o i r q h (whole_before ho (left_fits d dx fits) hxs) in
    (xs, record { depth = dx; exports = ex; spelled = subst (λ z. Items xs dx ex z) (sym one.1) hxs; fits = right_fits d dx fits; once = once })
after_stmt flag s r h (Items.export a xs d dx e t u i k q is_t is_u ha ending hxs) fits once = no_item h.1 (Lexeme.reserved keyword.Export) is_t refl

cons_one : {A : Type 0} {x y : A} {xs ys : List A} → x ∷ xs ≡ y ∷ ys → (x ≡ y) × (xs ≡ ys)
cons_one e = (cc, cc)

one_end : (on off : Bool) (i r q : Symbols) → Ends on i r → Ends off i q → r ≡ q
one_end on off i r q a b = (some_pair (sym (ended on i r a) ∙ ended off i q b)).1

whole_value : (line : ℕ) (a : Expr) (i r : Symbols) (h : Exports line a i r) → IsExpression true false a h.value h.past
whole_value line a i r h = exported h.spelled h.fits h.ended

after_export : (flag : Bool) (line : ℕ) (a : Expr) {xs : List Item} {d : ℕ} {ex : Bool} {i : Symbols} (r : Symbols) → Exports line a i r → Items xs d ex i → d ≤ max_depth → (flag ≡ true → ex ≡ false)
    → (ys : List Item) × Finishes true ys r
after_export flag line a r h (Items.over t is_t) fits once =
    absurd (let e = (cons_one h.begins).0 in let same : Lexeme.over ≡ Lexeme.reserved keyword.Export = sym is_t ∙ ap (λ z. z.lexeme) e ∙ h.export_word in cc)
after_export flag line a r h (Items.item o xs d dx ex i q ho hxs) fits once =
    no_item ho (Lexeme.reserved keyword.Export) (ap lexeme_of h.begins ∙ h.export_word) refl
after_export flag line a r h (Items.export b xs d dx e t u i k q is_t is_u hb ending hxs) fits once =
    let second = (cons_one (cons_one h.begins).1).1 in
    let other : IsExpression true false b h.value k = subst (λ z. IsExpression true false b z k) second (exported hb (left_fits d dx fits) ending) in
    let one = expression_once true false a b h.value h.past k (whole_value line a (t ∷ u ∷ i) r h) other in
    let same = one_end (goes_on h.updated h.past) (goes_on e k) h.past r q h.ended (subst (λ z. Ends (goes_on e k) z q) (sym one.1) ending) in
    (xs, record { depth = dx; exports = false; spelled = subst (λ z. Items xs dx false z) (sym same) hxs; fits = right_fits d dx fits; once = λ z. refl })

backward_item : (flag : Bool) (it : Item) (xs : List Item) (i r : Symbols) → IsNextItem flag it i r → Finishes flag xs i → (ys : List Item) × Finishes (flag || is_export it) ys r
backward_item flag (items.Stmt s) xs i r h f =
    let rest = after_stmt flag s r h f.spelled f.fits f.once in (rest.0, subst (λ z. Finishes z rest.0 r) (sym (or_false flag)) rest.1)
backward_item flag (items.Export line a) xs i r (first, h) f =
    let rest = after_export flag line a r h f.spelled f.fits f.once in (rest.0, subst (λ z. Finishes z rest.0 r) (sym (or_true flag)) rest.1)

joined : (found xs : List Item) (it : Item) → (found ++ it ∷ []) ++ xs ≡ found ++ it ∷ xs
joined found xs it = append_assoc found (it ∷ []) xs ∙ ap (λ z. found ++ z) (ap (λ z. it ∷ z) (nil_left xs))

-- one more item
pub read_more : (all : Symbols) (found : List Item) (flag : Bool) (it : Item) (i r : Symbols) → ReadTo all found flag i → IsNextItem flag it i r → ReadTo all (found ++ it ∷ []) (flag || is_export it) r
read_more all found flag it i r s h = record {
  forwards = λ xs f. subst (λ z. Finishes false z all) (sym (joined found xs it)) (s.forwards (it ∷ xs) (forward_item flag it xs i r h f));
  backwards = λ ys f. let before = s.backwards ys f in backward_item flag it before.0 i r h before.1;
}

-- at the end all are found
pub read_whole : (all : Symbols) (found : List Item) (flag : Bool) (t : Symbol) (i : Symbols) → ReadTo all found flag i → i ≡ t ∷ [] → t.lexeme ≡ Lexeme.over → Finishes false found all
read_whole all found flag t i s e over =
    let last : Finishes flag [] i = record { depth = 0; exports = false; spelled = subst (λ z. Items [] 0 false z) (sym e) (Items.over t over); fits = omega arith; once = λ z. refl } in
    subst (λ z. Finishes false z all) (append-nil found) (s.forwards [] last)

-- where none goes on, none is whole
pub read_none : (all : Symbols) (found : List Item) (flag : Bool) (i : Symbols) → ReadTo all found flag i → ((xs : List Item) → Finishes flag xs i → ⊥) → (ys : List Item) → Finishes false ys all → ⊥
read_none all found flag i s none ys f = let rest = s.backwards ys f in none rest.0 rest.1

-- ---- where no item stands

abbrev pub NoItems : Bool → Symbols → Type 0
NoItems flag i = (xs : List Item) → Finishes flag xs i → ⊥

no_stmt_by : {xs : List Item} {d : ℕ} {ex : Bool} {i : Symbols} → Items xs d ex i → d ≤ max_depth → ends_here i ≡ false → sees_word keyword.Export (next_of i) ≡ false
    → ((s : Stmt) (r : Symbols) → IsWholeItem s i r → ⊥) → ⊥
no_stmt_by (Items.over t is_t) fits going other none = absurd (never (sym (over_here t is_t) ∙ going))
no_stmt_by (Items.item s xs d dx ex i r hs hxs) fits going other none = none s r (whole_before hs (left_fits d dx fits) hxs)
no_stmt_by (Items.export a xs d dx e t u i k r is_t is_u ha ending hxs) fits going other none = absurd (never (sym (is_word_seen keyword.Export t.lexeme is_t) ∙ other))

pub no_stmt : (flag : Bool) (i : Symbols) → ends_here i ≡ false → sees_word keyword.Export (next_of i) ≡ false → ((s : Stmt) (r : Symbols) → IsWholeItem s i r → ⊥) → NoItems flag i
no_stmt flag i going other none xs f = no_stmt_by f.spelled f.fits going other none

-- after `export`: the value and what follows it
record Exported (flag : Bool) (i : Symbols) : Type 0 where
  pub free : flag ≡ false
  pub second : Symbol
  pub value : Symbols
  pub tail_is : tail i ≡ second ∷ value
  pub default_word : second.lexeme ≡ Lexeme.reserved keyword.Default
  pub tree : Expr
  pub past : Symbols
  pub rest : Symbols
  pub updated : Bool
  pub whole : IsExpression true false tree value past
  pub closed : Ends (goes_on updated past) past rest

not_true : (b : Bool) → (b ≡ true → true ≡ false) → b ≡ false
not_true true h = absurd (never (h refl))
not_true false h = refl

exported_by : {xs : List Item} {d : ℕ} {ex : Bool} {i : Symbols} (flag : Bool) → Items xs d ex i → d ≤ max_depth → (flag ≡ true → ex ≡ false) → lexeme_of i ≡ Lexeme.reserved keyword.Export → Exported flag i
exported_by flag (Items.over t is_t) fits once here = absurd (let same : Lexeme.over ≡ Lexeme.reserved keyword.Export = sym is_t ∙ here in cc)
exported_by flag (Items.item s xs d dx ex i r hs hxs) fits once here = no_item hs (Lexeme.reserved keyword.Export) here refl
exported_by flag (Items.export a xs d dx e t u i k r is_t is_u ha ending hxs) fits once here = record {
  free = not_true flag once;
  second = u;
  value = i;
  tail_is = refl;
  default_word = is_u;
  tree = a;
  past = k;
  rest = r;
  updated = e;
  whole = exported ha (left_fits d dx fits) ending;
  closed = ending;
}

-- a second export
pub no_second : (i : Symbols) → lexeme_of i ≡ Lexeme.reserved keyword.Export → NoItems true i
no_second i here xs f = let e = exported_by true f.spelled f.fits f.once here in never e.free

-- an export without `default`
pub no_default : (flag : Bool) (i : Symbols) → lexeme_of i ≡ Lexeme.reserved keyword.Export → sees_word keyword.Default (next_of (tail i)) ≡ false → NoItems flag i
no_default flag i here other xs f =
    let e = exported_by flag f.spelled f.fits f.once here in
    never (sym (is_word_seen keyword.Default e.second.lexeme e.default_word) ∙ ap (λ z. sees_word keyword.Default (next_of z)) (sym e.tail_is) ∙ other)

value_same : {i value v : Symbols} {u w : Symbol} → i ≡ u ∷ value → i ≡ w ∷ v → value ≡ v
value_same a b = (cons_one (sym a ∙ b)).1

-- an export without a value
pub no_value : (flag : Bool) (i value : Symbols) → lexeme_of i ≡ Lexeme.reserved keyword.Export → tail (tail i) ≡ value → ((a : Expr) (r : Symbols) → IsExpression true false a value r → ⊥) → NoItems flag i
no_value flag i value here v none xs f =
    let e = exported_by flag f.spelled f.fits f.once here in
    let same : e.value ≡ value = ap tail (sym e.tail_is) ∙ v in
    none e.tree e.past (subst (λ z. IsExpression true false e.tree z e.past) same e.whole)

comma_strength : (e : Bool) (k : Symbols) → lexeme_of k ≡ Lexeme.mark mark.Comma → 1 ≤ strength true e k
comma_strength e k is = let w = weak true e k in let b : binds (joint_of true (lexeme_of k)) ≡ 1 = ap (λ z. binds (joint_of true z)) is in omega (arith, w, b)

comma_ends : (e : Bool) (k r : Symbols) → Ends (goes_on e k) k r → sees mark.Comma (next_of k) ≡ false
comma_ends e k r h = differs (sees mark.Comma (next_of k)) (λ seen. let a = comma_strength e k (seen_is mark.Comma (lexeme_of k) seen) in let z = stops e k r h in absurd (omega (arith, a, z)))

-- an export with a comma after the value
pub no_comma : (flag : Bool) (i value past : Symbols) (a : Expr) → lexeme_of i ≡ Lexeme.reserved keyword.Export → tail (tail i) ≡ value → IsExpression true false a value past → sees mark.Comma (next_of past) ≡ true
    → NoItems flag i
no_comma flag i value past a here v h comma xs f =
    let e = exported_by flag f.spelled f.fits f.once here in
    let same : e.value ≡ value = ap tail (sym e.tail_is) ∙ v in
    let one = expression_once true false a e.tree value past e.past h (subst (λ z. IsExpression true false e.tree z e.past) same e.whole) in
    never (sym comma ∙ ap (λ z. sees mark.Comma (next_of z)) one.1 ∙ comma_ends e.updated e.past e.rest e.closed)

-- an export without its semicolon
pub no_semicolon : (flag : Bool) (i value past : Symbols) (a : Expr) → lexeme_of i ≡ Lexeme.reserved keyword.Export → tail (tail i) ≡ value → IsExpression true false a value past → semicolon past ≡ None
    → NoItems flag i
no_semicolon flag i value past a here v h missing xs f =
    let e = exported_by flag f.spelled f.fits f.once here in
    let same : e.value ≡ value = ap tail (sym e.tail_is) ∙ v in
    let one = expression_once true false a e.tree value past e.past h (subst (λ z. IsExpression true false e.tree z e.past) same e.whole) in
    none_some (tt, e.rest) (sym missing ∙ ap semicolon one.1 ∙ ended (goes_on e.updated e.past) e.past e.rest e.closed)

-- an export
pub one_export : (flag : Bool) (i value past r : Symbols) (a : Expr) (line : ℕ) (t u : Symbol) → flag ≡ false → i ≡ t ∷ u ∷ value → t.lexeme ≡ Lexeme.reserved keyword.Export → u.lexeme ≡ Lexeme.reserved keyword.Default
    → line ≡ t.line → IsExpression true false a value past → sees mark.Comma (next_of past) ≡ false → semicolon past ≡ Some (tt, r) → IsNextItem flag (items.Export line a) i r
one_export flag i value past r a line t u free begins is_t is_u l h unseen found =
    let m = may_export a value past r h unseen found in
    (free, record { depth = m.0; updated = m.1; first = t; second = u; value = value; past = past; begins = begins; export_word = is_t; default_word = is_u; on_line = l; spelled = m.2; fits = m.3; ended = m.4 })
