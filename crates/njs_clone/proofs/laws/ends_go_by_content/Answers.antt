use Rattle.std.proofs.Common.{◌≡◌, List, [], ◌∷◌, Option, map, ap, refl, sym, ◌∙◌, subst, ℕ}
use Rattle.std.specs.Option.{option_map}
use Rattle.njs_value.specs.Ends.{Ends}
use Rattle.njs_value.specs.declared.ScopeId.{ScopeId}
use Rattle.njs_shared.specs.declared.object.Inner.{Inner}
use Rattle.njs_shared.specs.declared.object.Inner.TheVariants as inner
use Rattle.njs_shared.specs.declared.object.Scope.{Scope}
use Rattle.njs_shared.specs.Heap.{HeapObject}
use Rattle.njs_shared.specs.Ends as shared
use Rattle.njs_meaning.specs.PlainHeap.{PlainObject, PlainScope, bound_target}
use Rattle.njs_clone.specs.StandsFor.{content_inner, content_objects}
use Rattle.njs_clone.proofs.laws.ends_go_by_content.Goals as goal

prototypes_same : (texts : List (List ℕ)) (objects : List HeapObject) → shared.prototypes objects ≡ map (λ (o : PlainObject). option_map (λ up. up.0) o.prototype) (content_objects texts objects)
prototypes_same texts [] = refl
prototypes_same texts (o ∷ os) = ap (λ ways. option_map (λ up. up.0) o.prototype ∷ ways) (prototypes_same texts os)

target_same : (texts : List (List ℕ)) (i : Inner) → shared.bound_target i ≡ bound_target (content_inner texts i)
target_same texts inner.Plain = refl
target_same texts (inner.Script unit code scope) = refl
target_same texts (inner.BuiltIn row) = refl
target_same texts (inner.Bound target this args) = refl
target_same texts (inner.ZoneNumber zone) = refl

targets_same : (texts : List (List ℕ)) (objects : List HeapObject) → shared.targets objects ≡ map (λ (o : PlainObject). bound_target o.inner) (content_objects texts objects)
targets_same texts [] = refl
targets_same texts (o ∷ os) =
    ap (λ way. way ∷ shared.targets os) (target_same texts o.inner) ∙ ap (λ ways. bound_target (content_inner texts o.inner) ∷ ways) (targets_same texts os)

abbrev number_of : Option ScopeId → Option ℕ
number_of parent = option_map (λ up. up.0) parent

numbers_of : {S : Type 0} (parent : S → Option ScopeId) (scopes : List S) → map number_of (map parent scopes) ≡ map (λ s. number_of (parent s)) scopes
numbers_of parent [] = refl
numbers_of parent (s ∷ ss) = ap (λ ways. number_of (parent s) ∷ ways) (numbers_of parent ss)

pub returns : goal.returns
returns c heap plain ends objects parents = record {
  prototypes = subst (λ (os : List PlainObject). Ends (map (λ (o : PlainObject). option_map (λ up. up.0) o.prototype) os)) (sym objects) (subst Ends (prototypes_same heap.texts heap.objects) ends.prototypes);
  targets = subst (λ (os : List PlainObject). Ends (map (λ (o : PlainObject). bound_target o.inner) os)) (sym objects) (subst Ends (targets_same heap.texts heap.objects) ends.targets);
  scopes =
      subst Ends (sym (numbers_of (λ (s : Scope). s.parent) heap.scopes) ∙ ap (map number_of) (sym parents) ∙ numbers_of (λ (s : PlainScope). s.parent) plain.scopes) ends.scopes;
}
