-- A conversion that ends in the throw of a new error.
use Rattle.std.proofs.Common.{◌≡◌, [], ◌∷◌, ◌++◌, length, sym, ap, ◌∙◌, subst, Err}
use Rattle.std.proofs.lemmas.List.{length-map}
use Rattle.njs_value.specs.declared.Cause.{Cause}
use Rattle.njs_value.specs.declared.Value.TheVariants.{Undefined, Null, Bool, Num, Str, Obj}
use Rattle.njs_shared.specs.Heap.{Heap, sizes}
use Rattle.njs_clone.specs.Content.{content}
use Rattle.njs_clone.specs.StandsFor.{mapped_object, content_inner, plain_objects}
use Rattle.njs_meaning.specs.Values.{ObjectAt}
use Rattle.njs_meaning.specs.State.{State}
use Rattle.njs_meaning.specs.Replies.{state_of}
use Rattle.njs_meaning.specs.Errors.{prototype_of, message_of, error_with, throw}
use Rattle.njs_convert.specs.declared.stop.Stop.{Stop}
use Rattle.njs_convert.specs.declared.stop.Stop.TheVariants.{Throw, Fuel, NoMemory}
use Rattle.njs_convert.specs.Tells.{Tells, ThrowsError, FitsAnswer, text_at}

pub thrown : {V A : Type 0} (stands stopped : State → Type 0) (h k : Heap) (shows : V → A → Type 0) (cause : Cause) (stop : Stop) (s : State)
    → s.objects ≡ plain_objects h → stands (record s { objects = plain_objects k }) → message_of (text_at h.texts) cause ≡ message_of (λ name. []) cause → ThrowsError cause h k stop
    → stopped (state_of (throw {A = A} cause s)) → Tells stands stopped k.texts shows (Err stop) (throw cause s)
thrown stands stopped h k shows cause (Throw (Obj o)) s objects after message made ended =
    let size : length h.objects ≡ length s.objects = sym (length-map h.objects (mapped_object (content h.texts) (content_inner h.texts))) ∙ ap length (sym objects) in
    let same : plain_objects k ≡ s.objects ++ error_with (prototype_of cause) (message_of (λ name. []) cause) ∷ [] =
    made.objects ∙ ap (λ os. os ++ error_with (prototype_of cause) (message_of (text_at h.texts) cause) ∷ []) (sym objects)
    ∙ ap (λ m. s.objects ++ error_with (prototype_of cause) m ∷ []) message
    in
    (ap ObjectAt (made.last ∙ size), subst (λ os. stands (record s { objects = os })) same after)
thrown stands stopped h k shows cause (Throw Undefined) s objects after message made ended = absurd made
thrown stands stopped h k shows cause (Throw Null) s objects after message made ended = absurd made
thrown stands stopped h k shows cause (Throw (Bool b)) s objects after message made ended = absurd made
thrown stands stopped h k shows cause (Throw (Num n)) s objects after message made ended = absurd made
thrown stands stopped h k shows cause (Throw (Str t)) s objects after message made ended = absurd made
thrown stands stopped h k shows cause Fuel s objects after message made ended = absurd made
thrown stands stopped h k shows cause NoMemory s objects after message made ended = ended

pub thrown_fits : {V : Type 0} (fits : V → Type 0) (h k : Heap) (cause : Cause) (stop : Stop) → ThrowsError cause h k stop → FitsAnswer fits (sizes k) (Err stop)
thrown_fits fits h k cause (Throw (Obj o)) made = made.within
thrown_fits fits h k cause (Throw Undefined) made = absurd made
thrown_fits fits h k cause (Throw Null) made = absurd made
thrown_fits fits h k cause (Throw (Bool b)) made = absurd made
thrown_fits fits h k cause (Throw (Num n)) made = absurd made
thrown_fits fits h k cause (Throw (Str t)) made = absurd made
thrown_fits fits h k cause Fuel made = absurd made
thrown_fits fits h k cause NoMemory made = tt
