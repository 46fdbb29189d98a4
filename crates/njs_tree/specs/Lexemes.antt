-- The terminal symbols of the grammar, and how words and marks are spelled (ECMA-262 5.1 §7).
use Rattle.std.specs.Prelude.{ℕ, Bool, List, [], ◌∷◌, Option, Some, None, bytes_eq, codes}
use Rattle.std.specs.List.{find}
use Rattle.std.specs.Fmt.{decimal}
use Rattle.njs_tree.specs.declared.token.Mark.{Mark}
use Rattle.njs_tree.specs.declared.token.Mark.TheVariants as sign
use Rattle.njs_tree.specs.declared.token.Keyword.{Keyword}
use Rattle.njs_tree.specs.declared.token.Keyword.TheVariants as keyword

-- A name has its characters, a number its value, and a string the characters that it stands for.
pub data Lexeme : Type 0 where
  name : List ℕ → Lexeme
  reserved : Keyword → Lexeme
  number : ℕ → Lexeme
  string : List ℕ → Lexeme
  mark : Mark → Lexeme
  over : Lexeme

-- A terminal symbol: a token's lexeme, its line, and whether a line end stands between the token before and it.
pub record Symbol : Type 0 where
  pub lexeme : Lexeme
  pub line : ℕ
  pub after_break : Bool

-- the reserved words (ECMA-262 5.1 §7.6.1)
abbrev pub keyword_text : Keyword → List ℕ
keyword_text keyword.Break = codes "break"
keyword_text keyword.Case = codes "case"
keyword_text keyword.Catch = codes "catch"
keyword_text keyword.Class = codes "class"
keyword_text keyword.Const = codes "const"
keyword_text keyword.Continue = codes "continue"
keyword_text keyword.Debugger = codes "debugger"
keyword_text keyword.Default = codes "default"
keyword_text keyword.Delete = codes "delete"
keyword_text keyword.Do = codes "do"
keyword_text keyword.Else = codes "else"
keyword_text keyword.Enum = codes "enum"
keyword_text keyword.Export = codes "export"
keyword_text keyword.Extends = codes "extends"
keyword_text keyword.Finally = codes "finally"
keyword_text keyword.For = codes "for"
keyword_text keyword.Function = codes "function"
keyword_text keyword.If = codes "if"
keyword_text keyword.Implements = codes "implements"
keyword_text keyword.Import = codes "import"
keyword_text keyword.In = codes "in"
keyword_text keyword.InstanceOf = codes "instanceof"
keyword_text keyword.Interface = codes "interface"
keyword_text keyword.Let = codes "let"
keyword_text keyword.New = codes "new"
keyword_text keyword.Package = codes "package"
keyword_text keyword.Private = codes "private"
keyword_text keyword.Protected = codes "protected"
keyword_text keyword.Public = codes "public"
keyword_text keyword.Return = codes "return"
keyword_text keyword.Static = codes "static"
keyword_text keyword.Super = codes "super"
keyword_text keyword.Switch = codes "switch"
keyword_text keyword.This = codes "this"
keyword_text keyword.Throw = codes "throw"
keyword_text keyword.Try = codes "try"
keyword_text keyword.TypeOf = codes "typeof"
keyword_text keyword.Var = codes "var"
keyword_text keyword.Void = codes "void"
keyword_text keyword.While = codes "while"
keyword_text keyword.With = codes "with"
keyword_text keyword.Yield = codes "yield"
keyword_text keyword.Null = codes "null"
keyword_text keyword.True = codes "true"
keyword_text keyword.False = codes "false"

unfoldable pub keywords : List Keyword
keywords =
    keyword.Break ∷ keyword.Case ∷ keyword.Catch ∷ keyword.Class ∷ keyword.Const ∷ keyword.Continue ∷ keyword.Debugger ∷ keyword.Default ∷ keyword.Delete ∷ keyword.Do ∷ keyword.Else ∷ keyword.Enum ∷ keyword.Export ∷ keyword.Extends ∷ keyword.Finally ∷ keyword.For ∷ keyword.Function ∷ keyword.If ∷ keyword.Implements ∷ keyword.Import ∷ keyword.In ∷ keyword.InstanceOf ∷ keyword.Interface ∷ keyword.Let ∷ keyword.New ∷ keyword.Package ∷ keyword.Private ∷ keyword.Protected ∷ keyword.Public ∷ keyword.Return ∷ keyword.Static ∷ keyword.Super ∷ keyword.Switch ∷ keyword.This ∷ keyword.Throw ∷ keyword.Try ∷ keyword.TypeOf ∷ keyword.Var ∷ keyword.Void ∷ keyword.While ∷ keyword.With ∷ keyword.Yield ∷ keyword.Null ∷ keyword.True ∷ keyword.False ∷ []

-- the reserved word that has these characters
unfoldable pub keyword_of : List ℕ → Option Keyword
keyword_of text = find (λ k. bytes_eq text (keyword_text k)) keywords

abbrev pub name_unless : List ℕ → Option Keyword → Lexeme
name_unless text None = Lexeme.name text
name_unless text (Some k) = Lexeme.reserved k

-- a word is reserved or a name
abbrev pub word : List ℕ → Lexeme
word text = name_unless text (keyword_of text)

-- the characters of a word: any may be the name of a property (ECMA-262 5.1 §11.2.1)
abbrev pub word_text : Lexeme → Option (List ℕ)
word_text (Lexeme.name text) = Some text
word_text (Lexeme.reserved k) = Some (keyword_text k)
word_text _ = None

-- the key that a token is in an object literal; of a number its decimal text (ECMA-262 5.1 §11.1.5)
abbrev pub key_text : Lexeme → Option (List ℕ)
key_text (Lexeme.number n) = Some (decimal n)
key_text (Lexeme.string text) = Some text
key_text x = word_text x

-- the marks (ECMA-262 5.1 §7.7)
abbrev pub mark_text : Mark → List ℕ
mark_text sign.LeftBrace = codes "{"
mark_text sign.RightBrace = codes "}"
mark_text sign.LeftParen = codes "("
mark_text sign.RightParen = codes ")"
mark_text sign.LeftBracket = codes "["
mark_text sign.RightBracket = codes "]"
mark_text sign.Dot = codes "."
mark_text sign.Semicolon = codes ";"
mark_text sign.Comma = codes ","
mark_text sign.Lt = codes "<"
mark_text sign.Gt = codes ">"
mark_text sign.Le = codes "<="
mark_text sign.Ge = codes ">="
mark_text sign.Eq = codes "=="
mark_text sign.Ne = codes "!="
mark_text sign.StrictEq = codes "==="
mark_text sign.StrictNe = codes "!=="
mark_text sign.Plus = codes "+"
mark_text sign.Minus = codes "-"
mark_text sign.Star = codes "*"
mark_text sign.Slash = codes "/"
mark_text sign.Percent = codes "%"
mark_text sign.PlusPlus = codes "++"
mark_text sign.MinusMinus = codes "--"
mark_text sign.Shl = codes "<<"
mark_text sign.Shr = codes ">>"
mark_text sign.UShr = codes ">>>"
mark_text sign.BitAnd = codes "&"
mark_text sign.BitOr = codes "|"
mark_text sign.BitXor = codes "^"
mark_text sign.Not = codes "!"
mark_text sign.BitNot = codes "~"
mark_text sign.And = codes "&&"
mark_text sign.Or = codes "||"
mark_text sign.Question = codes "?"
mark_text sign.Colon = codes ":"
mark_text sign.Assign = codes "="
mark_text sign.AddAssign = codes "+="
mark_text sign.SubAssign = codes "-="
mark_text sign.MulAssign = codes "*="
mark_text sign.DivAssign = codes "/="
mark_text sign.RemAssign = codes "%="
mark_text sign.ShlAssign = codes "<<="
mark_text sign.ShrAssign = codes ">>="
mark_text sign.UShrAssign = codes ">>>="
mark_text sign.AndAssign = codes "&="
mark_text sign.OrAssign = codes "|="
mark_text sign.XorAssign = codes "^="

-- the longer ones first
unfoldable pub marks : List Mark
marks =
    sign.UShrAssign ∷ sign.StrictEq ∷ sign.StrictNe ∷ sign.UShr ∷ sign.ShlAssign ∷ sign.ShrAssign ∷ sign.Le ∷ sign.Ge ∷ sign.Eq ∷ sign.Ne ∷ sign.PlusPlus ∷ sign.MinusMinus ∷ sign.Shl ∷ sign.Shr ∷ sign.And ∷ sign.Or ∷ sign.AddAssign ∷ sign.SubAssign ∷ sign.MulAssign ∷ sign.DivAssign ∷ sign.RemAssign ∷ sign.AndAssign ∷ sign.OrAssign ∷ sign.XorAssign ∷ sign.LeftBrace ∷ sign.RightBrace ∷ sign.LeftParen ∷ sign.RightParen ∷ sign.LeftBracket ∷ sign.RightBracket ∷ sign.Dot ∷ sign.Semicolon ∷ sign.Comma ∷ sign.Lt ∷ sign.Gt ∷ sign.Plus ∷ sign.Minus ∷ sign.Star ∷ sign.Slash ∷ sign.Percent ∷ sign.BitAnd ∷ sign.BitOr ∷ sign.BitXor ∷ sign.Not ∷ sign.BitNot ∷ sign.Question ∷ sign.Colon ∷ sign.Assign ∷ []

-- the mark that has these characters
unfoldable pub mark_of : List ℕ → Option Mark
mark_of text = find (λ m. bytes_eq text (mark_text m)) marks
