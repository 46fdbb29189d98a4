-- A text is spelled by one tree at most.
use Rattle.std.proofs.Common.{◌≡◌, ℕ, Bool, true, false, List, ◌∷◌, refl, ap, sym, ◌∙◌, subst, arith}
use Rattle.njs_tree.specs.declared.token.Keyword.TheVariants as keyword
use Rattle.njs_tree.specs.declared.tree.Stmt.{Stmt}
use Rattle.njs_tree.specs.declared.tree.Item.{Item}
use Rattle.njs_tree.specs.declared.tree.Item.TheVariants as items
use Rattle.njs_expr.specs.declared.terminal.Terminal.{Terminal}
use Rattle.njs_expr.specs.declared.terminal.Terminal.TheVariants as terminal
use Rattle.njs_tree.specs.Lexemes.{Lexeme}
use Rattle.njs_tree.specs.Symbols.{lexeme_of, goes_on}
use Rattle.njs_tree.specs.TokenList.{symbols_of}
use Rattle.njs_tree.specs.Grammar.{Ends, Block, IsItem, Stands, Items, OneTree}
use Rattle.njs_lexer.proofs.Once.{one_list}
use Rattle.njs_expr.specs.Readers.{Symbols, terminal_of, next_of}
use Rattle.njs_expr.proofs.Forwards.{never, ended}
use Rattle.njs_expr.proofs.Begins.{begins, begun}
use Rattle.njs_expr.proofs.Follow.{stops}
use Rattle.njs_expr.proofs.Backwards.{some_pair}
use Rattle.njs_expr.proofs.Complete.{one_expression, one_item}

-- ---- what begins no item

abbrev pub is_foreign : Terminal → Bool
is_foreign terminal.End = true
is_foreign (terminal.Reserved keyword.Export) = true
is_foreign (terminal.Reserved keyword.Else) = true
is_foreign (terminal.Reserved keyword.Finally) = true
is_foreign _ = false

native : (k : Terminal) → begins k ≡ true → is_foreign k ≡ false
native terminal.End h = absurd (never (sym h))
native (terminal.Reserved keyword.Export) h = absurd (never (sym h))
native (terminal.Reserved keyword.Else) h = absurd (never (sym h))
native (terminal.Reserved keyword.Finally) h = absurd (never (sym h))
native _ h = refl

native_as : (x y : Lexeme) → x ≡ y → is_foreign (terminal_of y) ≡ false → is_foreign (terminal_of x) ≡ false
native_as x y e h = rw e h

block_native : {ss : List Stmt} {d : ℕ} {i r : Symbols} → Block ss d i r → is_foreign (next_of i) ≡ false
block_native (Block.braced ss d t u i r is_t hss is_u) = native_as t.lexeme _ is_t refl

statement_native : {s : Stmt} {d : ℕ} {i r : Symbols} → Stands s d i r → is_foreign (next_of i) ≡ false
statement_native (Stands.block ss d i r hss) = block_native hss
statement_native (Stands.var vs d last t i k r is_t hvs ending) = native_as t.lexeme _ is_t refl
statement_native (Stands.empty t r is_t) = native_as t.lexeme _ is_t refl
statement_native (Stands.expr a d e i k r other unlabelled ha ending) = native (next_of i) (begun ha)
statement_native (Stands.if_only a s da ds t i j r is_t ha hs not_on) = native_as t.lexeme _ is_t refl
statement_native (Stands.if_else a s o da ds dn t u i j k r is_t ha hs is_u ho) = native_as t.lexeme _ is_t refl
statement_native (Stands.do_while s a ds da t u i j k r is_t hs is_u ha ending) = native_as t.lexeme _ is_t refl
statement_native (Stands.while a s da ds t i j r is_t ha hs) = native_as t.lexeme _ is_t refl
statement_native (Stands.for f a b s df da db ds t u i j k l r is_t is_u hf ha hb hs) = native_as t.lexeme _ is_t refl
statement_native (Stands.for_in h a s dh da ds e t u v w i j k r is_t is_u hh is_v ha is_w hs) = native_as t.lexeme _ is_t refl
statement_native (Stands.continue t j r is_t ending) = native_as t.lexeme _ is_t refl
statement_native (Stands.continue_to label t u j r is_t same is_u ending) = native_as t.lexeme _ is_t refl
statement_native (Stands.break t j r is_t ending) = native_as t.lexeme _ is_t refl
statement_native (Stands.break_to label t u j r is_t same is_u ending) = native_as t.lexeme _ is_t refl
statement_native (Stands.return t j r is_t ending) = native_as t.lexeme _ is_t refl
statement_native (Stands.return_value a d e t i k r is_t same ha ending) = native_as t.lexeme _ is_t refl
statement_native (Stands.throw a d e t i k r is_t same ha ending) = native_as t.lexeme _ is_t refl
statement_native (Stands.switch a cs da dc has_default t u i j r is_t ha is_u hcs) = native_as t.lexeme _ is_t refl
statement_native (Stands.try_catch ss cs name ds dc t i j r is_t hss hcs not_on) = native_as t.lexeme _ is_t refl
statement_native (Stands.try_finally ss fs ds df t u i j r is_t hss is_u hfs) = native_as t.lexeme _ is_t refl
statement_native (Stands.try_both ss cs fs name ds dc df t u i j k r is_t hss hcs is_u hfs) = native_as t.lexeme _ is_t refl
statement_native (Stands.label name s d t u j r is_t is_u hs loop) = native_as t.lexeme _ is_t refl

pub item_native : {s : Stmt} {d : ℕ} {i r : Symbols} → IsItem s d i r → is_foreign (next_of i) ≡ false
item_native (IsItem.statement s d i r hs) = statement_native hs
item_native (IsItem.declaration name f d t u j r is_t is_u hf) = native_as t.lexeme _ is_t refl

foreign_as : (x y : Lexeme) → x ≡ y → is_foreign (terminal_of y) ≡ true → is_foreign (terminal_of x) ≡ true
foreign_as x y e h = rw e h

-- neither the end nor an `export` is an item
no_item : {s : Stmt} {d : ℕ} {i r : Symbols} {A : Type 0} → IsItem s d i r → (y : Lexeme) → lexeme_of i ≡ y → is_foreign (terminal_of y) ≡ true → A
no_item {i = i} h y e foreign = absurd (never (sym (foreign_as (lexeme_of i) y e foreign) ∙ item_native h))

distinct : {A : Type 0} (x : Lexeme) → x ≡ Lexeme.over → x ≡ Lexeme.reserved keyword.Export → A
distinct x a b = absurd (let e : Lexeme.over ≡ Lexeme.reserved keyword.Export = sym a ∙ b in cc)

-- a semicolon ends at one place
one_end : (on off : Bool) (i r q : Symbols) → Ends on i r → Ends off i q → r ≡ q
one_end on off i r q a b = (some_pair (sym (ended on i r a) ∙ ended off i q b)).1

-- ---- items

-- Symbols are those of one list of items at most.
pub one_items : {xs ys : List Item} {dx dy : ℕ} {ex ey : Bool} {i : Symbols} → Items xs dx ex i → Items ys dy ey i → xs ≡ ys
one_items (Items.over t is_t) (Items.over _ is_u) = refl
one_items (Items.over t is_t) (Items.item s ys d dy ey _ q hs hys) = no_item hs Lexeme.over is_t refl
one_items (Items.item s xs d dx ex _ r hs hxs) (Items.over u is_u) = no_item hs Lexeme.over is_u refl
one_items (Items.item s xs d dx ex i r hs hxs) (Items.item o ys e dy ey _ q ho hys) =
    let one = one_item s o d e i r q hs ho in
    let more = one_items hxs (subst (λ k. Items ys dy ey k) (sym one.2) hys) in
    ap (λ s. items.Stmt s ∷ xs) one.0 ∙ ap (λ zs. items.Stmt o ∷ zs) more
one_items (Items.item s xs d dx ex _ r hs hxs) (Items.export a ys da dy e t u i k q is_t is_u ha ending hys) = no_item hs (Lexeme.reserved keyword.Export) is_t refl
one_items (Items.export a xs da dx e t u i k r is_t is_u ha ending hxs) (Items.item s ys d dy ey _ q hs hys) = no_item hs (Lexeme.reserved keyword.Export) is_t refl
one_items (Items.export a xs da dx e t u i k r is_t is_u ha ending hxs) (Items.export b ys db dy f _ _ _ l q is_v is_w hb close hys) =
    let one = one_expression true 2 a b da db e f i k l (omega arith) ha (omega (arith, stops e k r ending)) hb (omega (arith, stops f l q close)) in
    let same = one_end (goes_on e k) (goes_on f l) k r q ending (subst (λ j. Ends (goes_on f l) j q) (sym one.1) close) in
    let more = one_items hxs (subst (λ j. Items ys dy false j) (sym same) hys) in
    ap (λ x. items.Export t.line x ∷ xs) one.0 ∙ ap (λ zs. items.Export t.line b ∷ zs) more

-- a text has one tree at most
pub one_tree : OneTree
one_tree text a b da db sa sb =
    let same : sb.0 ≡ sa.0 = one_list text sb.0 sa.0 sb.2 sa.2 in
    let e : a.items ≡ b.items = one_items sa.3 (subst (λ tokens. Items b.items db sb.1 (symbols_of text tokens)) same sb.3) in
    ap (λ xs. record { items = xs }) e
