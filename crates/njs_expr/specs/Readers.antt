-- Readers: functions from the symbols from a place on to a value and the symbols after it, or to none.
use Rattle.std.specs.Prelude.{ℕ, ◌+◌, Bool, false, nat_lt, if◌then◌else◌, List, [], ◌∷◌, Option, Some, None}
use denote.Enum.Bare.{sameb}
use Rattle.njs_tree.specs.contracts.token.Keyword as Keyword_derived
use Rattle.njs_tree.specs.contracts.token.Mark as Mark_derived
use Rattle.njs_tree.specs.declared.token.Keyword.{Keyword}
use Rattle.njs_tree.specs.declared.token.Mark.{Mark}
use Rattle.njs_tree.specs.declared.token.Mark.TheVariants as mark
use Rattle.njs_tree.specs.declared.tree.Expr.{Expr, roll-Expr}
use Rattle.njs_tree.specs.declared.tree.ExprNode.{ExprNode}
use Rattle.njs_tree.specs.declared.tree.Stmt.{Stmt}
use Rattle.njs_tree.specs.declared.tree.StmtNode.{StmtNode}
use Rattle.njs_expr.specs.declared.terminal.Terminal.{Terminal}
use Rattle.njs_expr.specs.declared.terminal.Terminal.TheVariants as terminal
use Rattle.njs_tree.specs.Lexemes.{Lexeme, Symbol, word_text, key_text}
use Rattle.njs_tree.specs.Symbols.{lexeme_of, breaks, may_miss}
use Rattle.njs_tree.specs.Grammar.{stands}

abbrev pub Symbols : Type 0
Symbols = List Symbol

abbrev pub terminal_of : Lexeme → Terminal
terminal_of (Lexeme.name text) = terminal.Name
terminal_of (Lexeme.reserved k) = terminal.Reserved k
terminal_of (Lexeme.number n) = terminal.Number
terminal_of (Lexeme.string text) = terminal.Str
terminal_of (Lexeme.mark m) = terminal.Mark m
terminal_of Lexeme.over = terminal.End

-- a lexeme of the kind
abbrev pub like : Terminal → Lexeme
like terminal.Name = Lexeme.name []
like (terminal.Reserved k) = Lexeme.reserved k
like terminal.Number = Lexeme.number 0
like terminal.Str = Lexeme.string []
like (terminal.Mark m) = Lexeme.mark m
like terminal.End = Lexeme.over

abbrev pub tail : Symbols → Symbols
tail [] = []
tail (t ∷ ts) = ts

abbrev pub next_of : Symbols → Terminal
next_of i = terminal_of (lexeme_of i)

abbrev pub second_of : Symbols → Terminal
second_of i = next_of (tail i)

-- ---- how readers are put together

abbrev pub Reader : Type 0 → Type 0
Reader A = Symbols → Option (A × Symbols)

abbrev pub and_then : {A B : Type 0} → Option (A × Symbols) → (A → Reader B) → Option (B × Symbols)
and_then (Some p) f = f p.0 p.1
and_then None f = None

infixl 10 ◌>>=◌
abbrev pub ◌>>=◌ : {A B : Type 0} → Reader A → (A → Reader B) → Reader B
p >>= f = λ i. and_then (p i) f

infixl 10 ◌>>◌
abbrev pub ◌>>◌ : {A B : Type 0} → Reader A → Reader B → Reader B
p >> q = p >>= (λ _. q)

abbrev pub pure : {A : Type 0} → A → Reader A
pure a = λ i. Some (a, i)

abbrev pub refuse : {A : Type 0} → Reader A
refuse = λ i. None

abbrev pub peek : Reader Terminal
peek = λ i. Some (next_of i, i)

abbrev pub take_symbol : Reader (Unit {0})
take_symbol = λ i. Some (tt, tail i)

-- ---- marks and reserved words

unfoldable pub sees : Mark → Terminal → Bool
sees m (terminal.Mark n) = sameb Mark_derived.the_type n m
sees m _ = false

unfoldable pub sees_word : Keyword → Terminal → Bool
sees_word w (terminal.Reserved k) = sameb Keyword_derived.the_type k w
sees_word w _ = false

unfoldable pub expect : Mark → Reader (Unit {0})
expect m = λ i. if sees m (next_of i) then Some (tt, tail i) else None

unfoldable pub expect_word : Keyword → Reader (Unit {0})
expect_word w = λ i. if sees_word w (next_of i) then Some (tt, tail i) else None

unfoldable pub after : Mark → Symbols → Symbols
after m i = if sees m (next_of i) then tail i else i

unfoldable pub after_word : Keyword → Symbols → Symbols
after_word w i = if sees_word w (next_of i) then tail i else i

-- takes the mark, if it comes next
abbrev pub eat : Mark → Reader Bool
eat m = λ i. Some (sees m (next_of i), after m i)

abbrev pub eat_word : Keyword → Reader Bool
eat_word w = λ i. Some (sees_word w (next_of i), after_word w i)

-- after one of several: a comma, or else the closing mark, which stays
unfoldable pub separate : Mark → Reader (Unit {0})
separate close = λ i. if sees mark.Comma (next_of i) then Some (tt, tail i) else (if sees close (next_of i) then Some (tt, i) else None)

-- the end of a statement that the next symbol doesn't carry on (ECMA-262 5.1 §7.9)
unfoldable pub semicolon : Reader (Unit {0})
semicolon = λ i. if sees mark.Semicolon (next_of i) then Some (tt, tail i) else (if may_miss (like (next_of i)) (breaks i) false then Some (tt, i) else None)

-- ---- what symbols stand for

abbrev pub name_by : Lexeme → Reader (List ℕ)
name_by (Lexeme.name text) = take_symbol >> pure text
name_by _ = refuse

unfoldable pub take_name : Reader (List ℕ)
take_name = λ i. name_by (lexeme_of i) i

abbrev pub number_by : Lexeme → Reader ℕ
number_by (Lexeme.number n) = take_symbol >> pure n
number_by _ = refuse

unfoldable pub take_number : Reader ℕ
take_number = λ i. number_by (lexeme_of i) i

abbrev pub string_by : Lexeme → Reader (List ℕ)
string_by (Lexeme.string text) = take_symbol >> pure text
string_by _ = refuse

unfoldable pub take_string : Reader (List ℕ)
take_string = λ i. string_by (lexeme_of i) i

abbrev pub text_by : Option (List ℕ) → Reader (List ℕ)
text_by (Some text) = take_symbol >> pure text
text_by None = refuse

-- the characters of a word, and the key of a property
unfoldable pub take_word : Reader (List ℕ)
take_word = λ i. text_by (word_text (lexeme_of i)) i

unfoldable pub take_key : Reader (List ℕ)
take_key = λ i. text_by (key_text (lexeme_of i)) i

-- ---- trees with their depths

abbrev pub Grown : Type 0
Grown = Expr × ℕ

abbrev pub Stood : Type 0
Stood = Stmt × ℕ

-- a node on a line
abbrev pub on : ℕ → ExprNode → Expr
on line n = roll-Expr (record { line = line; node = n })

-- a node over parts of at most this depth
unfoldable pub grown : ℕ → ℕ → ExprNode → ℕ → Reader Grown
grown room line n below = λ i. if nat_lt below room then Some ((on line n, below + 1), i) else None

unfoldable pub stood : ℕ → ℕ → StmtNode → ℕ → Reader Stood
stood room line s below = λ i. if nat_lt below room then Some ((stands line s, below + 1), i) else None
