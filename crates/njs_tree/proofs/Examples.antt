-- Small examples of the definitions of tokens, grammar and early refusals.
use Rattle.std.proofs.Common.{◌≡◌, ℕ, ◌++◌, true, false, List, [], ◌∷◌, Some, None, codes, pos, refl, arith}
use Rattle.njs_tree.specs.declared.token.Mark.TheVariants as mark
use Rattle.njs_tree.specs.declared.token.Keyword.TheVariants as keyword
use Rattle.njs_tree.specs.declared.token.LexFault.TheVariants as fault
use Rattle.njs_tree.specs.declared.tree.Item.TheVariants as items
use Rattle.njs_tree.specs.declared.tree.ExprNode.TheVariants as node
use Rattle.njs_tree.specs.declared.tree.StmtNode.TheVariants as step
use Rattle.njs_tree.specs.declared.token.EarlyKind.TheVariants as early_kind
use Rattle.njs_tree.specs.declared.tree.Expr.{Expr, roll-Expr, the_lemmas}
use Rattle.njs_tree.specs.declared.tree.ExprNode.{ExprNode}
use Rattle.njs_tree.specs.declared.tree.UnaryOp.TheVariants as unary
use Rattle.njs_tree.specs.Early.{early, seen, of_stmt}
use Rattle.njs_tree.specs.Lexemes.{Lexeme, Symbol, keywords, keyword_of, marks, mark_of}
use Rattle.njs_tree.specs.Lexical.{lexeme_at, fault_at, blank_length}
use Rattle.njs_tree.specs.TokenList.{string_value}
use Rattle.njs_tree.specs.Symbols.{lexeme_of, breaks, may_miss, var_goes_on}
use Rattle.njs_tree.specs.Grammar.{at, stands, Spells, Declares, Ends, Stands, IsItem, Items}

-- ---- tokens

shifts : (lexeme_at 2 (codes ">>>=1") ≡ Some (Lexeme.mark mark.Shr)) × (lexeme_at 4 (codes ">>>=1") ≡ Some (Lexeme.mark mark.UShrAssign)) × (lexeme_at 5 (codes ">>>=1") ≡ None)
unfolding mark_of marks
shifts = (refl, refl, refl)

words : (lexeme_at 2 (codes "in x") ≡ Some (Lexeme.reserved keyword.In)) × (lexeme_at 3 (codes "in_ x") ≡ Some (Lexeme.name (codes "in_"))) × (lexeme_at 3 (codes "in x") ≡ None)
unfolding keyword_of keywords
words = (refl, refl, refl)

numbers : (lexeme_at 4 (codes "0x1F;") ≡ Some (Lexeme.number 31)) × (lexeme_at 1 (codes "0;") ≡ Some (Lexeme.number 0)) × (lexeme_at 2 (codes "00") ≡ None) × (fault_at (codes "9007199254740991") ≡ None)
numbers = (refl, refl, refl, refl)

bad_numbers : (fault_at (codes "9007199254740992") ≡ Some fault.BadNumber) × (fault_at (codes "00") ≡ Some fault.BadNumber) × (fault_at (codes "0x") ≡ Some fault.BadNumber) × (fault_at (codes "1.") ≡ Some fault.BadNumber) × (fault_at (codes ".5") ≡ Some fault.BadNumber) × (fault_at (codes "3a") ≡ Some fault.BadNumber)
bad_numbers = (refl, refl, refl, refl, refl, refl)

-- `'\x41\u00e9\0\q'` with a backslash and CR LF before the end
escapes : string_value (codes "'" ++ 92 ∷ codes "x41" ++ 92 ∷ codes "u00e9" ++ 92 ∷ codes "0" ++ 92 ∷ codes "q" ++ 92 ∷ 13 ∷ 10 ∷ codes "'") ≡ 65 ∷ 233 ∷ 0 ∷ 113 ∷ []
escapes = refl

-- two escapes that are one character
pair : string_value (codes "'" ++ 92 ∷ codes "uD83D" ++ 92 ∷ codes "uDE00'") ≡ 0x1F600 ∷ []
pair = refl

-- of two faults the first; a backslash that the text's end cuts; a high surrogate alone
bad_strings : (fault_at (codes "'" ++ 92 ∷ codes "1") ≡ Some fault.BadEscape) × (fault_at (codes "'ab" ++ 92 ∷ []) ≡ Some fault.OpenText) × (fault_at (codes "'" ++ 92 ∷ codes "uD83D'") ≡ Some fault.BadEscape) × (fault_at (codes "'a" ++ 10 ∷ codes "'") ≡ Some fault.OpenText)
bad_strings = (refl, refl, refl, refl)

comments : (blank_length (codes "/* a */b") ≡ 7) × (blank_length (codes "// a") ≡ 4) × (blank_length (codes "/ a") ≡ 0) × (fault_at (codes "/* a *") ≡ Some fault.OpenComment)
comments = (refl, refl, refl, refl)

unknown : fault_at (codes "#") ≡ Some fault.BadByte
unfolding mark_of marks
unknown = refl

abbrev on : ℕ → ExprNode → Expr
on line n = roll-Expr (record { line = line; node = n })

-- ---- semicolons

-- on line 2: `(a)`
abbrev second : List Symbol
second = record { lexeme = Lexeme.mark mark.LeftParen; line = 2; after_break = true } ∷ record { lexeme = Lexeme.name (codes "a"); line = 2; after_break = false } ∷ record { lexeme = Lexeme.mark mark.RightParen; line = 2; after_break = false } ∷ record { lexeme = Lexeme.over; line = 2; after_break = false } ∷ []

abbrev last : List Symbol
last = record { lexeme = Lexeme.name (codes "b"); line = 1; after_break = false } ∷ second

abbrev value : List Symbol
value = record { lexeme = Lexeme.number 1; line = 1; after_break = false } ∷ record { lexeme = Lexeme.mark mark.Comma; line = 1; after_break = false } ∷ last

abbrev script : List Symbol
script = record { lexeme = Lexeme.reserved keyword.Var; line = 1; after_break = false } ∷ record { lexeme = Lexeme.name (codes "a"); line = 1; after_break = false } ∷ record { lexeme = Lexeme.mark mark.Assign; line = 1; after_break = false } ∷ value

-- `var a = 1, b` and on the next line `(a)`: after the bare name the `(` begins a statement
two_statements : Items (items.Stmt (stands 1 (step.Var ((codes "a", Some (at value (node.Num (pos 1)))) ∷ (codes "b", None) ∷ []))) ∷ items.Stmt (stands 2 (step.Expr (at (record { lexeme = Lexeme.name (codes "a"); line = 2; after_break = false } ∷ []) (node.Name (codes "a"))))) ∷ []) 2 false script
two_statements =
    Items.item _ _ 2 2 false script second (IsItem.statement _ 2 script second (Stands.var _ 1 None _ _ second second refl
    (Declares.more_value true (codes "a") _ _ 1 0 false None _ _ _ value last second refl refl (Spells.number true 2 1 _ _ refl) refl (Declares.last_bare true (codes "b") _ second refl))
    (Ends.missing false second refl)))
    (Items.item _ _ 2 0 false second _ (IsItem.statement _ 2 second _ (Stands.expr _ 1 false second _ _ refl refl
    (Spells.parenthesized true 1 _ 1 false _ _ _ _ refl (Spells.name true 1 (codes "a") _ _ refl) refl)
    (Ends.missing false _ refl)))
    (Items.over _ refl))

-- after a value the `(` carries it on
no_semicolon : may_miss (lexeme_of second) (breaks second) (var_goes_on (Some false) second) ≡ false
no_semicolon = refl

-- ---- early refusals

-- `return;` and then, on the next line, `delete eval` and `eval = 1`
refused : early (record { items = items.Stmt (stands 1 (step.Return None)) ∷ items.Stmt (stands 2 (step.Expr (on 2 (node.Comma (on 2 (node.Unary unary.Delete (on 2 (node.Name (codes "eval"))))) (on 3 (node.Assign None (on 3 (node.Name (codes "eval"))) (on 3 (node.Num (pos 1))))))))) ∷ [] })
    ≡ record { kind = early_kind.Return; line = 1 } ∷ record { kind = early_kind.Delete; line = 2 } ∷ record { kind = early_kind.Reserved; line = 3 } ∷ []
unfolding of_stmt seen
refused = grind (arith, the_lemmas)
