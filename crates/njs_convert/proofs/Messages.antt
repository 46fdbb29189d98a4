-- The message of a cause that holds no name goes by the cause alone.
use Rattle.std.proofs.Common.{◌≡◌, ℕ, ◌<◌, ◌≤◌, ◌-◌, min, List, [], Some, None, Bool, true, false, nat_lt, length, take, refl, ap, sym, ◌∙◌, arith}
use Rattle.std.proofs.lemmas.Bool.Decides.{nat_tests}
use Rattle.std.proofs.lemmas.List.{take_all}
use Rattle.std.specs.List.{slice_range}
use Rattle.njs_value.specs.declared.Cause.{Cause}
use Rattle.njs_value.specs.declared.Cause.TheVariants as cause
use Rattle.njs_value.specs.declared.TextId.{TextId}
use Rattle.njs_meaning.specs.Errors.{name_of, message_of, named_message}

pub unnamed : (content : TextId → List ℕ) (c : Cause) → name_of c ≡ None → message_of (λ name. []) c ≡ message_of content c
unnamed content (cause.NotDefined name) e = cc
unnamed content cause.NotFunction e = refl
unnamed content cause.NotConstructor e = refl
unnamed content cause.NullBase e = refl
unnamed content cause.NotObject e = refl
unnamed content cause.ReadOnly e = refl
unnamed content cause.NotExtensible e = refl
unnamed content cause.NotConfigurable e = refl
unnamed content cause.WrongReceiver e = refl
unnamed content cause.WrongArgument e = refl
unnamed content cause.NoPrimitive e = refl
unnamed content cause.Circular e = refl
unnamed content cause.EmptyReduce e = refl
unnamed content cause.ResponseState e = refl
unnamed content cause.BadField e = refl
unnamed content cause.OutOfRange e = refl
unnamed content cause.Fraction e = refl
unnamed content cause.DivideByZero e = refl
unnamed content cause.NotNumber e = refl
unnamed content cause.CallDepth e = refl
unnamed content cause.TextTooLong e = refl
unnamed content cause.BadLength e = refl
unnamed content cause.BadArgument e = refl
unnamed content cause.TooNested e = refl
unnamed content cause.BadJson e = refl
unnamed content cause.BadUri e = refl
unnamed content cause.NoRoom e = refl

pub named : (content : TextId → List ℕ) (c : Cause) (name : TextId) → name_of c ≡ Some name → named_message (content name) ≡ message_of content c
named content (cause.NotDefined other) name e = let same : other ≡ name = cc in ap (λ t. named_message (content t)) (sym same)
named content cause.NotFunction name e = cc
named content cause.NotConstructor name e = cc
named content cause.NullBase name e = cc
named content cause.NotObject name e = cc
named content cause.ReadOnly name e = cc
named content cause.NotExtensible name e = cc
named content cause.NotConfigurable name e = cc
named content cause.WrongReceiver name e = cc
named content cause.WrongArgument name e = cc
named content cause.NoPrimitive name e = cc
named content cause.Circular name e = cc
named content cause.EmptyReduce name e = cc
named content cause.ResponseState name e = cc
named content cause.BadField name e = cc
named content cause.OutOfRange name e = cc
named content cause.Fraction name e = cc
named content cause.DivideByZero name e = cc
named content cause.NotNumber name e = cc
named content cause.CallDepth name e = cc
named content cause.TextTooLong name e = cc
named content cause.BadLength name e = cc
named content cause.BadArgument name e = cc
named content cause.TooNested name e = cc
named content cause.BadJson name e = cc
named content cause.BadUri name e = cc
named content cause.NoRoom name e = cc

-- the front of a name
pub front_of : (name : List ℕ) → slice_range name 0 (min (length name) 1048000) ≡ take 1048000 name
front_of name =
    let same : min (length name) 1048000 - 0 ≡ min (length name) 1048000 = omega arith in
    ap (λ k. take k name) same ∙ by (nat_lt (length name) 1048000) refl
  where
    by : (b : Bool) → nat_lt (length name) 1048000 ≡ b → take (min (length name) 1048000) name ≡ take 1048000 name
    by true e =
        let less : length name < 1048000 = grind (arith, nat_tests) in
        let least : min (length name) 1048000 ≡ length name = omega arith in
        ap (λ k. take k name) least ∙ take_all (length name) name (omega arith) ∙ sym (take_all 1048000 name (omega arith))
    by false e =
        let more : 1048000 ≤ length name = grind (arith, nat_tests) in
        let least : min (length name) 1048000 ≡ 1048000 = omega arith in
        ap (λ k. take k name) least
