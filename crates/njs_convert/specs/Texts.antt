-- The texts of values that are no texts and no objects.
use Rattle.std.specs.Prelude.{◌≡◌, ◌<◌, List, ℕ, [], length}
use Rattle.njs_value.specs.declared.Value.{Value}
use Rattle.njs_value.specs.declared.Value.TheVariants as value
use Rattle.njs_value.specs.declared.TextId.{TextId}
use Rattle.njs_shared.specs.Heap.{Heap}
use Rattle.njs_clone.specs.Content.{content}
use Rattle.njs_clone.specs.StandsFor.{plain_objects}
use Rattle.njs_meaning.specs.Primitives.{Primitive, Undefined, Null, Truth, Number}
use Rattle.njs_meaning.specs.Values.{Simple}
use Rattle.njs_meaning.specs.Numbers.{text_of}
use Rattle.njs_convert.specs.Tells.{text_at}

-- no text and no object
abbrev pub IsShown : Value → Type 0
IsShown value.Undefined = Unit {0}
IsShown value.Null = Unit {0}
IsShown (value.Bool b) = Unit {0}
IsShown (value.Num n) = Unit {0}
IsShown (value.Str t) = ⊥
IsShown (value.Obj o) = ⊥

abbrev pub shown_text : Value → List ℕ
shown_text value.Undefined = text_of Undefined
shown_text value.Null = text_of Null
shown_text (value.Bool b) = text_of (Truth b)
shown_text (value.Num n) = text_of (Number n)
shown_text (value.Str t) = []
shown_text (value.Obj o) = []

-- the text of a value that is no object is one of the heap's, and the objects are by content as before
pub record HasText (old new : Heap) (v : Value) (t : TextId) : Type 0 where
  pub shows : (p : Primitive) → content old.texts v ≡ Simple p → text_at new.texts t ≡ text_of p
  pub within : t.0 < length new.texts
  pub objects : plain_objects new ≡ plain_objects old
