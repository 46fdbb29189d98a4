use Rattle.std.proofs.Common.{refl, map, ◌∷◌, []}
use Rattle.std.specs.Option.{option_map}
use Rattle.njs_meaning.specs.PlainHeap.{PlainObject, PlainScope, bound_target}
use Rattle.njs_convert.specs.FirstHeap.{first_objects, first_scope}
use Rattle.njs_convert.proofs.FirstEnds.{ends}
use Rattle.njs_convert.proofs.laws.first_heap_has_ends.Goals as goal

pub returns : goal.returns
returns c further = record {
  prototypes = ends (map (λ (o : PlainObject). option_map (λ up. up.0) o.prototype) first_objects) refl;
  targets = ends (map (λ (o : PlainObject). bound_target o.inner) first_objects) refl;
  scopes = ends (map (λ (s : PlainScope). option_map (λ up. up.0) s.parent) (first_scope further ∷ [])) refl;
}
