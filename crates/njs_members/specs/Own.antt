-- What a value that is no object has itself (ECMA-262 5.1 §15.5.5).
use Rattle.std.specs.Prelude.{ℕ, List, [], ◌∷◌, Option, None, length, ◌≤◌}
use Rattle.njs_meaning.specs.Primitives.{Undefined, Null, Truth, Number, Characters}
use Rattle.njs_meaning.specs.Values.{PlainValue, Simple, ObjectAt, length_value}
use Rattle.njs_meaning.specs.Members.{own_member}
use Rattle.njs_members.specs.declared.own.TextMember.{TextMember}
use Rattle.njs_members.specs.declared.own.TextMember.TheVariants.{Length, Character}

-- a member of a text, as a value
abbrev pub member_value : TextMember → PlainValue
member_value (Length n) = length_value n
member_value (Character c) = Simple (Characters (c ∷ []))

-- the member that a value has beside the properties of objects
abbrev pub own_of : List ℕ → PlainValue → Option PlainValue
own_of name (Simple p) = own_member name p
own_of name (ObjectAt o) = None

-- a value that is no text longer than texts are
abbrev pub IsShort : PlainValue → Type 0
IsShort (Simple Undefined) = Unit {0}
IsShort (Simple Null) = Unit {0}
IsShort (Simple (Truth b)) = Unit {0}
IsShort (Simple (Number n)) = Unit {0}
IsShort (Simple (Characters text)) = length text ≤ 1048576
IsShort (ObjectAt o) = Unit {0}
