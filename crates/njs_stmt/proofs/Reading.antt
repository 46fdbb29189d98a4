-- How the items of a script are read off the tokens of its text.
use Rattle.std.proofs.Common.{◌≡◌, ℕ, zero, suc, ◌+◌, ◌<◌, Bool, true, false, ◌||◌, List, [], ◌∷◌, ◌++◌, length, drop, slice_get, Option, Some, None, Ok, Err, refl, ap, subst, sym, ◌∙◌, arith}
use Rattle.njs_tree.specs.declared.token.Token.{Token}
use Rattle.njs_tree.specs.declared.token.LexFault.{LexFault}
use Rattle.njs_tree.specs.declared.token.Mark.TheVariants as mark
use Rattle.njs_tree.specs.declared.token.Keyword.{Keyword}
use Rattle.njs_tree.specs.declared.token.Keyword.TheVariants as keyword
use Rattle.njs_tree.specs.declared.tree.Expr.{Expr}
use Rattle.njs_tree.specs.declared.tree.Stmt.{Stmt}
use Rattle.njs_tree.specs.declared.tree.Item.{Item}
use Rattle.njs_tree.specs.declared.tree.Item.TheVariants as items
use Rattle.njs_tree.specs.Characters.{IsLine, line_at}
use Rattle.njs_tree.specs.Lexemes.{Lexeme, Symbol}
use Rattle.njs_tree.specs.Symbols.{lexeme_of}
use Rattle.njs_tree.specs.TokenList.{Tokens, TokensFrom, token_of, kind_of, symbol_of, symbols_of}
use Rattle.njs_tree.specs.Grammar.{IsExpression}
use Rattle.njs_lexer.proofs.Runs.{never, none_some}
use Rattle.njs_expr.specs.Readers.{Symbols, next_of, sees, sees_word, tail}
use Rattle.njs_expr.proofs.Terminals.{word_seen_is, word_seen_symbol}
use Rattle.njs_expr.specs.Answers.{ExpressionAt, ItemAt}
use Rattle.njs_expr.specs.declared.stop.ParseStop.{ParseStop}
use Rattle.njs_expr.specs.declared.stop.ParseStop.TheVariants as stop
use Rattle.njs_stmt.specs.Cut.{IsCut, is_end}
use Rattle.njs_stmt.specs.Script.{EndsAt, Finishes, ReadsItem, ReadsItems, ends_here, is_export, is_over, line_from}
use Rattle.njs_stmt.specs.Export.{NoValue, ReadsValue}
use Rattle.njs_stmt.proofs.Cutting.{end_kind, never_over}
use Rattle.njs_stmt.proofs.NextItems.{NoItems, ReadTo, no_comma, no_default, no_item, no_second, no_semicolon, no_stmt, no_value, nothing_read, one_export, read_more, read_none, read_whole}
use Rattle.njs_stmt.proofs.Symbols.{at_none, first_line, length_map, lined_at, over_kind, over_some}

-- ---- places

drop_none : {A : Type 0} (n : ℕ) → drop {A = A} n [] ≡ []
drop_none zero = refl
drop_none (suc n) = refl

tail_drop : (n : ℕ) (i : Symbols) → tail (drop n i) ≡ drop (n + 1) i
tail_drop zero [] = refl
tail_drop zero (t ∷ i) = refl
tail_drop (suc n) [] = sym (drop_none (suc n + 1))
tail_drop (suc n) (t ∷ i) = let h : suc n + 1 ≡ suc (n + 1) = omega arith in tail_drop n i ∙ sym (ap (λ k. drop k (t ∷ i)) h)

tail_twice : (n : ℕ) (i : Symbols) → tail (tail (drop n i)) ≡ drop (n + 2) i
tail_twice n i = let h : n + 1 + 1 ≡ n + 2 = omega arith in ap tail (tail_drop n i) ∙ tail_drop (n + 1) i ∙ ap (λ k. drop k i) h

-- ---- the end stands last, and only there

-- here comes the end, and nothing more
record Last (i : Symbols) : Type 0 where
  pub symbol : Symbol
  pub alone : i ≡ symbol ∷ []
  pub over : symbol.lexeme ≡ Lexeme.over

more_plain : (text i j : List ℕ) (x : Lexeme) (m : ℕ) → is_over x ≡ false → ends_here (symbol_of text (token_of text i j (line_at text j) x m) ∷ []) ≡ false
more_plain text i j x m h = over_kind (kind_of x) text (token_of text i j (line_at text j) x m) ∙ end_kind x ∙ h

last_from : {text i : List ℕ} {ts : List Token} {f : Option LexFault} → TokensFrom text i ts f → f ≡ None → (n : ℕ) → ends_here (drop n (symbols_of text ts)) ≡ true → Last (drop n (symbols_of text ts))
last_from {text = text} (TokensFrom.over i b) e zero h = record { symbol = symbol_of text (token_of text i [] (line_at text []) Lexeme.over 0); alone = refl; over = refl }
last_from (TokensFrom.over i b) e (suc n) h = absurd (never (sym h ∙ ap ends_here (drop_none n)))
last_from (TokensFrom.fault i j f b stop at) e n h = absurd (none_some (sym e))
last_from {text = text} (TokensFrom.more i j x m ts f b c rest) e zero h = absurd (never (sym h ∙ more_plain text i j x m (never_over c)))
last_from (TokensFrom.more i j x m ts f b c rest) e (suc n) h = last_from rest e n h

some_token : {text i : List ℕ} {ts : List Token} {f : Option LexFault} → TokensFrom text i ts f → f ≡ None → 0 < length ts
some_token (TokensFrom.over i b) e = omega arith
some_token (TokensFrom.fault i j f b stop at) e = absurd (none_some (sym e))
some_token (TokensFrom.more i j x m ts f b c rest) e = omega arith

-- behind a symbol that isn't the end stands another
goes_further : {text i : List ℕ} {ts : List Token} {f : Option LexFault} → TokensFrom text i ts f → f ≡ None → (n : ℕ) → n < length ts → ends_here (drop n (symbols_of text ts)) ≡ false → n + 1 < length ts
goes_further (TokensFrom.over i b) e zero l h = absurd (never h)
goes_further (TokensFrom.over i b) e (suc n) l h = absurd (omega (arith, l))
goes_further (TokensFrom.fault i j f b stop at) e n l h = absurd (none_some (sym e))
goes_further (TokensFrom.more i j x m ts f b c rest) e zero l h = let s = some_token rest e in omega (arith, s)
goes_further (TokensFrom.more i j x m ts f b c rest) e (suc n) l h = let s = goes_further rest e n (omega (arith, l)) h in omega (arith, s)

word_plain : (k : Keyword) (i : Symbols) → sees_word k (next_of i) ≡ true → ends_here i ≡ false
word_plain k [] h = refl
word_plain k (t ∷ r) h = ap is_over (word_seen_is k t.lexeme h)

within_by : (text : List ℕ) (tokens : List Token) (k : Keyword) (n : ℕ) (t : Symbol) (r : Symbols) → drop n (symbols_of text tokens) ≡ t ∷ r → n < length tokens
within_by text [] k n t r e = absurd (let h : ◌≡◌ {A = Symbols} [] (t ∷ r) = sym (drop_none n) ∙ e in cc)
within_by text (x ∷ tokens) k zero t r e = omega arith
within_by text (x ∷ tokens) k (suc n) t r e = let h = within_by text tokens k n t r e in omega (arith, h)

-- behind a reserved word stands another token
pub word_further : (text : List ℕ) (tokens : List Token) (k : Keyword) (n : ℕ) → Tokens text tokens → sees_word k (next_of (drop n (symbols_of text tokens))) ≡ true → n + 1 < length tokens
word_further text tokens k n h seen =
    let s = word_seen_symbol k (drop n (symbols_of text tokens)) seen in
    goes_further h refl n (within_by text tokens k n s.0 (tail (drop n (symbols_of text tokens))) s.1) (word_plain k (drop n (symbols_of text tokens)) seen)

-- ---- lines

lined_by : (text : List ℕ) (tokens : List Token) (n : ℕ) → ((k : ℕ) (t : Token) → slice_get tokens k ≡ Some t → IsLine t.line text) → IsLine (line_from (drop n tokens)) text
lined_by text [] zero all = first_line text
lined_by text [] (suc n) all = first_line text
lined_by text (x ∷ tokens) zero all = all 0 x refl
lined_by text (x ∷ tokens) (suc n) all = lined_by text tokens n (λ k t g. all (suc k) t g)

pub line_within : (text : List ℕ) (tokens : List Token) (n : ℕ) → Tokens text tokens → IsLine (line_from (drop n tokens)) text
line_within text tokens n h = lined_by text tokens n (λ k t g. lined_at text tokens k t h g)

-- the same as an equation asks it
pub line_answered : (text : List ℕ) (tokens : List Token) (n line : ℕ) → Tokens text tokens → line ≡ line_from (drop n tokens) → IsLine line text
line_answered text tokens n line h e = subst (λ z. IsLine z text) (sym e) (line_within text tokens n h)

cons_one : {A : Type 0} {x y : A} {xs ys : List A} → x ∷ xs ≡ y ∷ ys → x ≡ y
cons_one e = cc

line_same : (text : List ℕ) (tokens : List Token) (n : ℕ) (t : Symbol) (r : Symbols) → drop n (symbols_of text tokens) ≡ t ∷ r → line_from (drop n tokens) ≡ t.line
line_same text [] n t r e = absurd (let h : ◌≡◌ {A = Symbols} [] (t ∷ r) = sym (drop_none n) ∙ e in cc)
line_same text (x ∷ tokens) zero t r e = ap (λ z. z.line) (cons_one e)
line_same text (x ∷ tokens) (suc n) t r e = line_same text tokens n t r e

-- ---- the value of an export

pub value_found : (text : List ℕ) (tokens : List Token) (at to end : ℕ) (a : Expr) → ExpressionAt true false text tokens at (Ok (a, to))
    → sees mark.Comma (next_of (drop to (symbols_of text tokens))) ≡ false → EndsAt (symbols_of text tokens) to (Some end) → ReadsValue text tokens at (Ok (a, end))
value_found text tokens at to end a h unseen ends =
    let l = length_map (symbol_of text) tokens in let further = h.1 in let on = ends.1 in let within = ends.2 in
    (record { past = drop to (symbols_of text tokens); value = h.0; no_comma = unseen; closed = ends.0 }, omega (arith, further, on), omega (arith, within, l))

pub value_missing : (text : List ℕ) (tokens : List Token) (at : ℕ) → ((a : Expr) (r : List Symbol) → IsExpression true false a (drop at (symbols_of text tokens)) r → ⊥) → NoValue (drop at (symbols_of text tokens))
value_missing text tokens at none = λ flag i here v. no_value flag i (drop at (symbols_of text tokens)) here v none

pub value_goes_on : (text : List ℕ) (tokens : List Token) (at to : ℕ) (a : Expr) → ExpressionAt true false text tokens at (Ok (a, to))
    → sees mark.Comma (next_of (drop to (symbols_of text tokens))) ≡ true → NoValue (drop at (symbols_of text tokens))
value_goes_on text tokens at to a h comma = λ flag i here v. no_comma flag i (drop at (symbols_of text tokens)) (drop to (symbols_of text tokens)) a here v h.0 comma

pub value_open : (text : List ℕ) (tokens : List Token) (at to : ℕ) (a : Expr) → ExpressionAt true false text tokens at (Ok (a, to))
    → EndsAt (symbols_of text tokens) to None → NoValue (drop at (symbols_of text tokens))
value_open text tokens at to a h missing = λ flag i here v. no_semicolon flag i (drop at (symbols_of text tokens)) (drop to (symbols_of text tokens)) a here v h.0 missing

-- ---- an export

here : (text : List ℕ) (tokens : List Token) (at : ℕ) → sees_word keyword.Export (next_of (drop at (symbols_of text tokens))) ≡ true → lexeme_of (drop at (symbols_of text tokens)) ≡ Lexeme.reserved keyword.Export
here text tokens at seen = word_seen_is keyword.Export (lexeme_of (drop at (symbols_of text tokens))) seen

pub second_refused : (text : List ℕ) (tokens : List Token) (flag : Bool) (at line : ℕ) → Tokens text tokens → sees_word keyword.Export (next_of (drop at (symbols_of text tokens))) ≡ true → flag ≡ true → line ≡ line_from (drop at tokens)
    → ReadsItem flag text tokens at (Err (stop.Refused line))
second_refused text tokens flag at line h seen twice e =
    (line_answered text tokens at line h e, λ going. subst (λ z. NoItems z (drop at (symbols_of text tokens))) (sym twice) (no_second (drop at (symbols_of text tokens)) (here text tokens at seen)))

pub default_refused : (text : List ℕ) (tokens : List Token) (flag : Bool) (at line : ℕ) → Tokens text tokens → sees_word keyword.Export (next_of (drop at (symbols_of text tokens))) ≡ true
    → sees_word keyword.Default (next_of (drop (at + 1) (symbols_of text tokens))) ≡ false → line ≡ line_from (drop (at + 1) tokens) → ReadsItem flag text tokens at (Err (stop.Refused line))
default_refused text tokens flag at line h seen other e =
    (line_answered text tokens (at + 1) line h e, λ going. no_default flag (drop at (symbols_of text tokens)) (here text tokens at seen) (ap (λ z. sees_word keyword.Default (next_of z)) (tail_drop at (symbols_of text tokens)) ∙ other))

pub value_refused : (text : List ℕ) (tokens : List Token) (flag : Bool) (at line : ℕ) → sees_word keyword.Export (next_of (drop at (symbols_of text tokens))) ≡ true → ReadsValue text tokens (at + 2) (Err (stop.Refused line))
    → ReadsItem flag text tokens at (Err (stop.Refused line))
value_refused text tokens flag at line seen h = (h.0, λ going. h.1 flag (drop at (symbols_of text tokens)) (here text tokens at seen) (tail_twice at (symbols_of text tokens)))

cons_same : (i r : Symbols) (t : Symbol) → i ≡ t ∷ tail i → tail i ≡ r → i ≡ t ∷ r
cons_same i r t e f = e ∙ ap (λ z. t ∷ z) f

pub export_found : (text : List ℕ) (tokens : List Token) (flag : Bool) (at to line : ℕ) (a : Expr) → flag ≡ false → sees_word keyword.Export (next_of (drop at (symbols_of text tokens))) ≡ true
    → sees_word keyword.Default (next_of (drop (at + 1) (symbols_of text tokens))) ≡ true → ReadsValue text tokens (at + 2) (Ok (a, to)) → line ≡ line_from (drop at tokens) → ReadsItem flag text tokens at (Ok (items.Export line a, to))
export_found text tokens flag at to line a free seen seen2 h e =
    let all = symbols_of text tokens in
    let t = word_seen_symbol keyword.Export (drop at all) seen in
    let u = word_seen_symbol keyword.Default (drop (at + 1) all) seen2 in
    let v : at + 1 + 1 ≡ at + 2 = omega arith in
    let second = cons_same (drop (at + 1) all) (drop (at + 2) all) u.0 u.1 (tail_drop (at + 1) all ∙ ap (λ k. drop k all) v) in
    let both : drop at all ≡ t.0 ∷ u.0 ∷ drop (at + 2) all = cons_same (drop at all) (u.0 ∷ drop (at + 2) all) t.0 t.1 (tail_drop at all ∙ second) in
    let on_line : line ≡ t.0.line = e ∙ line_same text tokens at t.0 (tail (drop at all)) t.1 in
    let further = h.1 in
    (one_export flag (drop at all) (drop (at + 2) all) h.0.past (drop to all) a line t.0 u.0 free both t.2 u.2 on_line h.0.value h.0.no_comma h.0.closed, omega (arith, further), h.2)

-- ---- a statement

pub statement_found : (text : List ℕ) (tokens : List Token) (flag : Bool) (at to : ℕ) (s : Stmt) → ItemAt text tokens at (Ok (s, to)) → ReadsItem flag text tokens at (Ok (items.Stmt s, to))
statement_found text tokens flag at to s h = h

pub statement_refused : (text : List ℕ) (tokens : List Token) (flag : Bool) (at line : ℕ) → sees_word keyword.Export (next_of (drop at (symbols_of text tokens))) ≡ false → ItemAt text tokens at (Err (stop.Refused line))
    → ReadsItem flag text tokens at (Err (stop.Refused line))
statement_refused text tokens flag at line other h = (h.1, λ going. no_stmt flag (drop at (symbols_of text tokens)) going other h.0)

-- ---- all items

pub items_begin : (text : List ℕ) (tokens : List Token) → ReadTo (symbols_of text tokens) [] false (drop 0 (symbols_of text tokens))
items_begin text tokens = nothing_read (symbols_of text tokens)

pub items_whole : (text : List ℕ) (tokens : List Token) (found : List Item) (flag : Bool) (at : ℕ) (t : Token) → Tokens text tokens → ReadTo (symbols_of text tokens) found flag (drop at (symbols_of text tokens))
    → slice_get tokens at ≡ Some t → is_end t.kind ≡ true → Finishes false found (symbols_of text tokens)
items_whole text tokens found flag at t h s g over =
    let last = last_from h refl at (sym (over_some text tokens at t g) ∙ over) in
    read_whole (symbols_of text tokens) found flag last.symbol (drop at (symbols_of text tokens)) s last.alone last.over

pub items_refused : (text : List ℕ) (tokens : List Token) (found : List Item) (flag : Bool) (at line : ℕ) (t : Token) → ReadTo (symbols_of text tokens) found flag (drop at (symbols_of text tokens))
    → slice_get tokens at ≡ Some t → is_end t.kind ≡ false → ReadsItem flag text tokens at (Err (stop.Refused line)) → ReadsItems text tokens (Err (stop.Refused line))
items_refused text tokens found flag at line t s g going h =
    (h.0, λ xs. read_none (symbols_of text tokens) found flag (drop at (symbols_of text tokens)) s (h.1 (sym (over_some text tokens at t g) ∙ going)) xs)

-- where the tokens are at their end, no item follows
none_behind : (flag : Bool) (i : Symbols) → i ≡ [] → NoItems flag i
unfolding sees_word
none_behind flag i e = subst (λ z. NoItems flag z) (sym e) (no_stmt flag [] refl refl (λ s r h. no_item h.1 Lexeme.over refl refl))

pub items_cut_off : (text : List ℕ) (tokens : List Token) (found : List Item) (flag : Bool) (at line : ℕ) → Tokens text tokens → ReadTo (symbols_of text tokens) found flag (drop at (symbols_of text tokens))
    → slice_get tokens at ≡ None → line ≡ line_from (drop at tokens) → ReadsItems text tokens (Err (stop.Refused line))
items_cut_off text tokens found flag at line h s g e =
    (line_answered text tokens at line h e, λ xs. read_none (symbols_of text tokens) found flag (drop at (symbols_of text tokens)) s (none_behind flag (drop at (symbols_of text tokens)) (at_none (symbol_of text) tokens at g)) xs)

pub items_more : (text : List ℕ) (tokens : List Token) (found : List Item) (flag : Bool) (at to : ℕ) (it : Item) → ReadTo (symbols_of text tokens) found flag (drop at (symbols_of text tokens)) → ReadsItem flag text tokens at (Ok (it, to))
    → ReadTo (symbols_of text tokens) (found ++ it ∷ []) (flag || is_export it) (drop to (symbols_of text tokens))
items_more text tokens found flag at to it s h = read_more (symbols_of text tokens) found flag it (drop at (symbols_of text tokens)) (drop to (symbols_of text tokens)) s h.0

-- ---- what is handed on

pub value_stopped : (text : List ℕ) (tokens : List Token) (at : ℕ) (s : ParseStop) → ExpressionAt true false text tokens at (Err s) → ReadsValue text tokens at (Err s)
value_stopped text tokens at (stop.Refused line) h = (h.1, value_missing text tokens at h.0)
value_stopped text tokens at stop.NoMemory h = tt

pub export_stopped : (text : List ℕ) (tokens : List Token) (flag : Bool) (at : ℕ) (s : ParseStop) → sees_word keyword.Export (next_of (drop at (symbols_of text tokens))) ≡ true → ReadsValue text tokens (at + 2) (Err s)
    → ReadsItem flag text tokens at (Err s)
export_stopped text tokens flag at (stop.Refused line) seen h = value_refused text tokens flag at line seen h
export_stopped text tokens flag at stop.NoMemory seen h = tt

pub statement_stopped : (text : List ℕ) (tokens : List Token) (flag : Bool) (at : ℕ) (s : ParseStop) → sees_word keyword.Export (next_of (drop at (symbols_of text tokens))) ≡ false → ItemAt text tokens at (Err s)
    → ReadsItem flag text tokens at (Err s)
statement_stopped text tokens flag at (stop.Refused line) other h = statement_refused text tokens flag at line other h
statement_stopped text tokens flag at stop.NoMemory other h = tt

pub items_stopped : (text : List ℕ) (tokens : List Token) (found : List Item) (flag : Bool) (at : ℕ) (s : ParseStop) (t : Token) → ReadTo (symbols_of text tokens) found flag (drop at (symbols_of text tokens))
    → slice_get tokens at ≡ Some t → is_end t.kind ≡ false → ReadsItem flag text tokens at (Err s) → ReadsItems text tokens (Err s)
items_stopped text tokens found flag at (stop.Refused line) t s g going h = items_refused text tokens found flag at line t s g going h
items_stopped text tokens found flag at stop.NoMemory t s g going h = tt

pub refused_items : (text : List ℕ) (tokens : List Token) (s : ParseStop) (line : ℕ) → ReadsItems text tokens (Err s) → s ≡ stop.Refused line → ReadsItems text tokens (Err (stop.Refused line))
refused_items text tokens s line h e = subst (λ z. ReadsItems text tokens (Err z)) e h

pub fault_cut : (text : List ℕ) (tokens : List Token) (fault : Option ℕ) (line : ℕ) → IsCut text tokens fault → fault ≡ Some line → IsCut text tokens (Some line)
fault_cut text tokens fault line h e = subst (IsCut text tokens) e h
