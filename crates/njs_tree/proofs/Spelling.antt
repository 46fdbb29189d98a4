-- Reserved words are ASCII, so their characters are their bytes.
use Rattle.std.proofs.Common.{◌≡◌, refl}
use Rattle.std.specs.Str.{chars}
use Rattle.njs_tree.specs.declared.token.Keyword.{Keyword}
use Rattle.njs_tree.specs.declared.token.Keyword.TheVariants as keyword
use Rattle.njs_tree.specs.Lexemes.{keyword_text}

pub keyword_chars : (k : Keyword) → chars (keyword_text k) ≡ keyword_text k
unfolding chars
keyword_chars keyword.Break = refl
keyword_chars keyword.Case = refl
keyword_chars keyword.Catch = refl
keyword_chars keyword.Class = refl
keyword_chars keyword.Const = refl
keyword_chars keyword.Continue = refl
keyword_chars keyword.Debugger = refl
keyword_chars keyword.Default = refl
keyword_chars keyword.Delete = refl
keyword_chars keyword.Do = refl
keyword_chars keyword.Else = refl
keyword_chars keyword.Enum = refl
keyword_chars keyword.Export = refl
keyword_chars keyword.Extends = refl
keyword_chars keyword.Finally = refl
keyword_chars keyword.For = refl
keyword_chars keyword.Function = refl
keyword_chars keyword.If = refl
keyword_chars keyword.Implements = refl
keyword_chars keyword.Import = refl
keyword_chars keyword.In = refl
keyword_chars keyword.InstanceOf = refl
keyword_chars keyword.Interface = refl
keyword_chars keyword.Let = refl
keyword_chars keyword.New = refl
keyword_chars keyword.Package = refl
keyword_chars keyword.Private = refl
keyword_chars keyword.Protected = refl
keyword_chars keyword.Public = refl
keyword_chars keyword.Return = refl
keyword_chars keyword.Static = refl
keyword_chars keyword.Super = refl
keyword_chars keyword.Switch = refl
keyword_chars keyword.This = refl
keyword_chars keyword.Throw = refl
keyword_chars keyword.Try = refl
keyword_chars keyword.TypeOf = refl
keyword_chars keyword.Var = refl
keyword_chars keyword.Void = refl
keyword_chars keyword.While = refl
keyword_chars keyword.With = refl
keyword_chars keyword.Yield = refl
keyword_chars keyword.Null = refl
keyword_chars keyword.True = refl
keyword_chars keyword.False = refl
