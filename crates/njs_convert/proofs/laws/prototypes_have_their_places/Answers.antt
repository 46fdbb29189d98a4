use Rattle.std.proofs.Common.{◌≡◌, Some, refl, slice_get}
use Rattle.njs_meaning.specs.declared.prototypes.Prototype.{Prototype}
use Rattle.njs_meaning.specs.declared.prototypes.Prototype.TheVariants as prototype
use Rattle.njs_meaning.specs.Errors.{place_of}
use Rattle.njs_convert.specs.FirstHeap.{first_object, first_objects}
use Rattle.njs_convert.proofs.laws.prototypes_have_their_places.Goals as goal

at_place : (p : Prototype) → slice_get first_objects (place_of p) ≡ Some (first_object p)
at_place prototype.Object = refl
at_place prototype.Function = refl
at_place prototype.Array = refl
at_place prototype.String = refl
at_place prototype.Number = refl
at_place prototype.Boolean = refl
at_place prototype.Error = refl
at_place prototype.TypeError = refl
at_place prototype.RangeError = refl
at_place prototype.ReferenceError = refl
at_place prototype.SyntaxError = refl
at_place prototype.UriError = refl
at_place prototype.SharedMemoryError = refl

pub returns : goal.returns
returns c = record { at = at_place; count = refl }
