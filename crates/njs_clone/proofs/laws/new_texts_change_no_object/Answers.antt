use Rattle.std.proofs.Common.{◌≡◌, [], ◌∷◌, refl}
use Rattle.njs_shared.specs.Heap.{sizes}
use Rattle.njs_clone.proofs.Longer.{objects_same}
use Rattle.njs_clone.proofs.laws.new_texts_change_no_object.Goals as goal

pub returns : goal.returns
returns c heap fits text = objects_same (sizes heap) heap.texts (text ∷ []) refl heap.objects fits.objects
