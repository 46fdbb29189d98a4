-- The items of a script, one at a time.
use Rattle.std.specs.Prelude.{◌≡◌, ℕ, ◌≤◌, ◌<◌, Bool, true, false, if◌then◌else◌, List, [], ◌∷◌, length, drop, Option, Some, None, Result, Ok, Err}
use Rattle.njs_tree.specs.declared.token.Kind.{Kind}
use Rattle.njs_tree.specs.declared.token.Kind.TheVariants as kind
use Rattle.njs_tree.specs.declared.token.Mark.TheVariants as mark
use Rattle.njs_tree.specs.declared.tree.Script.{Script}
use Rattle.njs_tree.specs.Characters.{IsLine}
use Rattle.njs_tree.specs.TokenList.{Tokens, symbols_of}
use Rattle.njs_tree.specs.Brackets.{too_deep, IsTooDeep}
use Rattle.njs_expr.specs.declared.stop.ParseStop.{ParseStop}
use Rattle.njs_expr.specs.declared.stop.ParseStop.TheVariants as stop
use Rattle.njs_expr.specs.Readers.{semicolon}
use Rattle.njs_stmt.specs.declared.fault.ScriptFault.{ScriptFault}
use Rattle.njs_stmt.specs.declared.fault.ScriptFault.TheVariants as fault
use Rattle.njs_stmt.specs.Cut.{IsTooLong}
use Rattle.njs_tree.specs.declared.token.Token.{Token}
use Rattle.njs_tree.specs.declared.token.Keyword.TheVariants as keyword
use Rattle.njs_tree.specs.declared.tree.Expr.{Expr}
use Rattle.njs_tree.specs.declared.tree.Item.{Item}
use Rattle.njs_tree.specs.declared.tree.Item.TheVariants as items
use Rattle.njs_tree.specs.Lexemes.{Lexeme, Symbol}
use Rattle.njs_tree.specs.Symbols.{goes_on}
use Rattle.njs_tree.specs.Grammar.{Ends, Spells, Items, IsWholeItem, IsParsed, max_depth}

abbrev pub is_over : Lexeme → Bool
is_over Lexeme.over = true
is_over _ = false

-- whether the end comes next
abbrev pub ends_here : List Symbol → Bool
ends_here [] = false
ends_here (t ∷ r) = is_over t.lexeme

-- the line of the first of some tokens
abbrev pub line_from : List Token → ℕ
line_from [] = 1
line_from (t ∷ ts) = t.line

abbrev pub is_export : Item → Bool
is_export (items.Stmt s) = false
is_export (items.Export line a) = true

-- `export default`, a value and a semicolon
pub record Exports (line : ℕ) (a : Expr) (i r : List Symbol) : Type 0 where
  pub depth : ℕ
  pub updated : Bool
  pub first : Symbol
  pub second : Symbol
  pub value : List Symbol
  pub past : List Symbol
  pub begins : i ≡ first ∷ second ∷ value
  pub export_word : first.lexeme ≡ Lexeme.reserved keyword.Export
  pub default_word : second.lexeme ≡ Lexeme.reserved keyword.Default
  pub on_line : line ≡ first.line
  pub spelled : Spells true 2 a depth updated value past
  pub fits : depth ≤ max_depth
  pub ended : Ends (goes_on updated past) past r

-- Between these symbols stands an item, which may be an export only where none came before.
abbrev pub IsNextItem : Bool → Item → List Symbol → List Symbol → Type 0
IsNextItem exported (items.Stmt s) i r = IsWholeItem s i r
IsNextItem exported (items.Export line a) i r = (exported ≡ false) × Exports line a i r

-- From these symbols on stand the items of a script, and no export where one came before.
pub record Finishes (exported : Bool) (xs : List Item) (i : List Symbol) : Type 0 where
  pub depth : ℕ
  pub exports : Bool
  pub spelled : Items xs depth exports i
  pub fits : depth ≤ max_depth
  pub once : exported ≡ true → exports ≡ false

-- ---- what the functions over tokens answer

-- the tokens of a text, whose brackets don't nest too deep
abbrev pub AreFit : List ℕ → List Token → Type 0
AreFit text tokens = Tokens text tokens × (too_deep 0 tokens ≡ None)

-- how many tokens the end of a statement takes that the next one doesn't carry on, or none where there is no such end
abbrev pub semicolon_size : Kind → Bool → Option ℕ
semicolon_size (kind.Mark mark.Semicolon) broken = Some 1
semicolon_size (kind.Mark mark.RightBrace) broken = Some 0
semicolon_size kind.End broken = Some 0
semicolon_size _ broken = if broken then Some 0 else None

abbrev pub is_comma : Kind → Bool
is_comma (kind.Mark mark.Comma) = true
is_comma _ = false

-- the end of a statement that begins at a place, and the place behind it
abbrev pub EndsAt : List Symbol → ℕ → Option ℕ → Type 0
EndsAt all place (Some to) = (semicolon (drop place all) ≡ Some (tt, drop to all)) × (place ≤ to) × (to ≤ length all)
EndsAt all place None = semicolon (drop place all) ≡ None

-- An item from a place on and the place behind it, or a line of the text where the items of a script don't go on.
abbrev pub ReadsItem : Bool → List ℕ → List Token → ℕ → Result (Item × ℕ) ParseStop → Type 0
ReadsItem exported text tokens place (Ok p) =
    IsNextItem exported p.0 (drop place (symbols_of text tokens)) (drop p.1 (symbols_of text tokens)) × (place < p.1) × (p.1 ≤ length tokens)
ReadsItem exported text tokens place (Err (stop.Refused line)) =
    IsLine line text × (ends_here (drop place (symbols_of text tokens)) ≡ false → (xs : List Item) → Finishes exported xs (drop place (symbols_of text tokens)) → ⊥)
ReadsItem exported text tokens place (Err stop.NoMemory) = Unit {0}

-- The items of a script, or a line of the text where it has none.
abbrev pub ReadsItems : List ℕ → List Token → Result (List Item) ParseStop → Type 0
ReadsItems text tokens (Ok xs) = Finishes false xs (symbols_of text tokens)
ReadsItems text tokens (Err (stop.Refused line)) = IsLine line text × ((xs : List Item) → Finishes false xs (symbols_of text tokens) → ⊥)
ReadsItems text tokens (Err stop.NoMemory) = Unit {0}

-- ---- what is answered of a text

-- brackets nest deep enough nowhere
abbrev pub IsShallow : List ℕ → Type 0
IsShallow text = (line : ℕ) → IsTooDeep line text → ⊥

-- What may be answered of a text, the earlier cause first. `NoMemory` is answered of no text that is too long.
abbrev pub Parses : List ℕ → Result Script ScriptFault → Type 0
Parses text (Ok script) = (IsTooLong text → ⊥) × IsShallow text × IsParsed script text
Parses text (Err fault.TooLong) = IsTooLong text
Parses text (Err (fault.TooDeep line)) = (IsTooLong text → ⊥) × IsTooDeep line text
Parses text (Err (fault.Syntax line)) = (IsTooLong text → ⊥) × IsShallow text × ((script : Script) → IsParsed script text → ⊥) × IsLine line text
Parses text (Err fault.NoMemory) = IsTooLong text → ⊥
