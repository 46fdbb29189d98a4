-- What the public functions answer, from what was read.
use Rattle.std.proofs.Common.{◌≡◌, get_or, ℕ, zero, suc, ◌+◌, ◌-◌, ◌<◌, ◌≤◌, Bool, true, List, [], ◌∷◌, length, drop, map, Option, Some, None, Result, Ok, Err, refl, ap, sym, ◌∙◌, subst, arith}
use Rattle.std.specs.Str.{chars, encode_utf8_all, all_scalars}
use Rattle.std.proofs.lemmas.Str.{chars-encodes}
use Rattle.njs_tree.specs.declared.token.Token.{Token}
use Rattle.njs_tree.specs.declared.tree.Expr.{Expr}
use Rattle.njs_tree.specs.declared.tree.Stmt.{Stmt}
use Rattle.njs_tree.specs.Characters.{IsLine}
use Rattle.njs_tree.specs.TokenList.{Tokens, symbols_of, symbol_of}
use Rattle.njs_tree.specs.Grammar.{IsExpression, IsWholeItem}
use Rattle.njs_expr.specs.declared.stop.ParseStop.{ParseStop}
use Rattle.njs_expr.specs.declared.stop.ParseStop.TheVariants as stop
use Rattle.njs_expr.specs.Readers.{Symbols, Grown, Stood}
use Rattle.njs_expr.specs.Descent.{whole_expression, whole_item}
use Rattle.njs_expr.specs.Reads.{Refuses}
use Rattle.njs_expr.specs.Cuts.{AreOf}
use Rattle.njs_expr.specs.Answers.{ExpressionAt, ItemAt, IsPlaced}
use Rattle.njs_expr.proofs.Tokens.{tokens_of, are_dropped, on_line}
use Rattle.njs_expr.proofs.Whole.{expression_placed, expression_none, item_placed, item_none}

same_length : {A B : Type 0} (f : A → B) (xs : List A) → length (map f xs) ≡ length xs
same_length f [] = refl
same_length f (x ∷ xs) = ap suc (same_length f xs)

map_dropped : {A B : Type 0} (f : A → B) (n : ℕ) (xs : List A) → map f (drop n xs) ≡ drop n (map f xs)
map_dropped f zero xs = refl
map_dropped f (suc n) [] = refl
map_dropped f (suc n) (x ∷ xs) = map_dropped f n xs

-- the symbols from a place on
pub from_place : (text bytes : List ℕ) (tokens rest : List Token) (place : ℕ) (i : Symbols) → bytes ≡ encode_utf8_all text → all_scalars text ≡ true → rest ≡ drop place tokens
    → i ≡ symbols_of (chars bytes) rest → i ≡ drop place (symbols_of text tokens)
from_place text bytes tokens rest place i b s r e =
    e ∙ ap (λ z. symbols_of z rest) (ap chars b ∙ chars-encodes text s) ∙ ap (symbols_of text) r ∙ map_dropped (symbol_of text) place tokens

pub tokens_cut : (text bytes : List ℕ) (tokens rest : List Token) (place : ℕ) → bytes ≡ encode_utf8_all text → all_scalars text ≡ true → rest ≡ drop place tokens → Tokens text tokens → AreOf (chars bytes) rest
tokens_cut text bytes tokens rest place b s r h =
    subst (λ z. AreOf z rest) (sym (ap chars b ∙ chars-encodes text s)) (subst (AreOf text) (sym r) (are_dropped text place tokens (tokens_of h 0 refl)))

pub expression_found_at : (with_in with_comma : Bool) (text : List ℕ) (tokens : List Token) (place left : ℕ) (tree : Expr) (depth : ℕ) (i r : Symbols) → place < length tokens
    → i ≡ drop place (symbols_of text tokens) → whole_expression with_in with_comma i ≡ Some ((tree, depth), r) → left ≡ length r
    → ExpressionAt with_in with_comma text tokens place (Ok (tree, length tokens - left)) × (left ≤ length tokens)
expression_found_at with_in with_comma text tokens place left tree depth i r within is e l =
    let n : length (symbols_of text tokens) ≡ length tokens = same_length (symbol_of text) tokens in
    let p = expression_placed with_in with_comma (symbols_of text tokens) place (tree, depth) r (omega (arith, n, within)) (ap (whole_expression with_in with_comma) (sym is) ∙ e) in
    let to : length (symbols_of text tokens) - length r ≡ length tokens - left = omega (arith, n, l) in
    ((subst (λ k. IsExpression with_in with_comma tree (drop place (symbols_of text tokens)) (drop k (symbols_of text tokens))) to p.0, omega (arith, to, p.1), omega arith), omega (arith, n, l, p.3))

pub expression_refused_at : (with_in with_comma : Bool) (text : List ℕ) (tokens : List Token) (place : ℕ) (i : Symbols) (e : ParseStop) (line : ℕ)
    → i ≡ drop place (symbols_of text tokens) → e ≡ stop.Refused line → Refuses (whole_expression with_in with_comma i) e
    → (tree : Expr) (r : Symbols) → IsExpression with_in with_comma tree (drop place (symbols_of text tokens)) r → ⊥
expression_refused_at with_in with_comma text tokens place i e line is stopped refuses =
    expression_none with_in with_comma (drop place (symbols_of text tokens)) (ap (whole_expression with_in with_comma) (sym is) ∙ subst (Refuses (whole_expression with_in with_comma i)) stopped refuses)

pub item_found_at : (text : List ℕ) (tokens : List Token) (place left : ℕ) (tree : Stmt) (depth : ℕ) (i r : Symbols) → place < length tokens
    → i ≡ drop place (symbols_of text tokens) → whole_item i ≡ Some ((tree, depth), r) → left ≡ length r
    → ItemAt text tokens place (Ok (tree, length tokens - left)) × (left ≤ length tokens)
item_found_at text tokens place left tree depth i r within is e l =
    let n : length (symbols_of text tokens) ≡ length tokens = same_length (symbol_of text) tokens in
    let p = item_placed (symbols_of text tokens) place (tree, depth) r (omega (arith, n, within)) (ap whole_item (sym is) ∙ e) in
    let to : length (symbols_of text tokens) - length r ≡ length tokens - left = omega (arith, n, l) in
    ((subst (λ k. IsWholeItem tree (drop place (symbols_of text tokens)) (drop k (symbols_of text tokens))) to p.0, omega (arith, to, p.1), omega arith), omega (arith, n, l, p.3))

pub item_refused_at : (text : List ℕ) (tokens : List Token) (place : ℕ) (i : Symbols) (e : ParseStop) (line : ℕ)
    → i ≡ drop place (symbols_of text tokens) → e ≡ stop.Refused line → Refuses (whole_item i) e
    → (tree : Stmt) (r : Symbols) → IsWholeItem tree (drop place (symbols_of text tokens)) r → ⊥
item_refused_at text tokens place i e line is stopped refuses =
    item_none (drop place (symbols_of text tokens)) (ap whole_item (sym is) ∙ subst (Refuses (whole_item i)) stopped refuses)

-- ---- lines

line_first : (text : List ℕ) (rest : List Token) (d : Token) → AreOf text rest → 1 ≤ length rest → IsLine (get_or rest 0 d).line text
line_first text [] d h some = absurd (omega arith)
line_first text (t ∷ ts) d h some = on_line text t h.0

-- the line of a token that is left
pub line_left : (text : List ℕ) (ts rest : List Token) (d : Token) (k : ℕ) → Tokens text ts → rest ≡ drop k ts → 1 ≤ length rest → IsLine (get_or rest 0 d).line text
line_left text ts rest d k h e some = line_first text rest d (subst (AreOf text) (sym e) (are_dropped text k ts (tokens_of h 0 refl))) some

pub expression_stopped : (with_in with_comma : Bool) (text : List ℕ) (tokens : List Token) (place : ℕ) (i : Symbols) (e f : ParseStop) → i ≡ drop place (symbols_of text tokens) → Tokens text tokens
    → Refuses (whole_expression with_in with_comma i) e → IsPlaced e tokens f → ExpressionAt with_in with_comma text tokens place (Err f)
expression_stopped with_in with_comma text tokens place i (stop.Refused before) (stop.Refused line) is cut h placed =
    (expression_refused_at with_in with_comma text tokens place i (stop.Refused before) before is refl h, placed text cut)
expression_stopped with_in with_comma text tokens place i (stop.Refused before) stop.NoMemory is cut h placed = tt
expression_stopped with_in with_comma text tokens place i stop.NoMemory (stop.Refused line) is cut h placed = absurd placed
expression_stopped with_in with_comma text tokens place i stop.NoMemory stop.NoMemory is cut h placed = tt

pub item_stopped : (text : List ℕ) (tokens : List Token) (place : ℕ) (i : Symbols) (e f : ParseStop) → i ≡ drop place (symbols_of text tokens) → Tokens text tokens
    → Refuses (whole_item i) e → IsPlaced e tokens f → ItemAt text tokens place (Err f)
item_stopped text tokens place i (stop.Refused before) (stop.Refused line) is cut h placed = (item_refused_at text tokens place i (stop.Refused before) before is refl h, placed text cut)
item_stopped text tokens place i (stop.Refused before) stop.NoMemory is cut h placed = tt
item_stopped text tokens place i stop.NoMemory (stop.Refused line) is cut h placed = absurd placed
item_stopped text tokens place i stop.NoMemory stop.NoMemory is cut h placed = tt
