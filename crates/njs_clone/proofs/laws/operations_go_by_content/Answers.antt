use Rattle.std.proofs.Common.{◌≡◌, refl, List, ℕ}
use Rattle.njs_value.specs.declared.Value.{Value}
use Rattle.njs_value.specs.declared.Value.TheVariants as value
use Rattle.njs_meaning.specs.Primitives.{Undefined}
use Rattle.njs_meaning.specs.Values.{Simple, is_same, given_length, stored_length, length_value}
use Rattle.njs_clone.specs.Content.{content, same_value, given, stored, written}
use Rattle.njs_clone.specs.StandsFor.{content_inner}
use Rattle.njs_clone.proofs.MappedHeap.{get-mapped, own_at-mapped, keys-mapped, put_at-mapped, define_at-mapped, delete_at-mapped, with_props-mapped, with_stopped-mapped, created-mapped}
use Rattle.njs_clone.proofs.laws.operations_go_by_content.Goals as goal

stored_same : (texts : List (List ℕ)) (v : Value) → stored_length (content texts v) ≡ stored v
stored_same texts value.Undefined = refl
stored_same texts value.Null = refl
stored_same texts (value.Bool b) = refl
stored_same texts (value.Num n) = refl
stored_same texts (value.Str t) = refl
stored_same texts (value.Obj o) = refl

pub returns : goal.returns
returns c heap =
    let f = content heap.texts in
    let g = content_inner heap.texts in
    record {
      get = λ at name. get-mapped f g value.Undefined (Simple Undefined) refl name heap.objects at;
      own = λ at name. own_at-mapped f g name heap.objects at;
      keys = λ object. keys-mapped f g object;
      put = λ at name v. put_at-mapped f g (given heap.texts) given_length (λ v. refl) stored stored_length (stored_same heap.texts) written length_value (λ n. refl) name v heap.objects at;
      define = λ at name d. define_at-mapped f g (given heap.texts) given_length (λ v. refl) stored stored_length (stored_same heap.texts) written length_value (λ n. refl)
          value.Undefined (Simple Undefined) refl (same_value heap.texts) is_same (λ v w. refl) name d heap.objects at;
      delete = λ at name. delete_at-mapped f g name heap.objects at;
      changed = λ at props. with_props-mapped f g heap.objects at props;
      stopped = λ at. with_stopped-mapped f g heap.objects at;
      created = λ class prototype inner. created-mapped f g (given heap.texts) given_length (λ v. refl) stored stored_length (stored_same heap.texts) written length_value (λ n. refl) class prototype inner heap.objects;
    }
