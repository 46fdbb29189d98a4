-- How answers tell the outcomes of definitions that are put together.
use Rattle.std.proofs.Common.{◌≡◌, ℕ, List, true, false, refl, Result, Ok, Err}
use Rattle.njs_value.specs.declared.Value.{Value}
use Rattle.njs_value.specs.declared.Value.TheVariants.{Undefined, Null, Bool as BoolValue, Num, Str, Obj}
use Rattle.njs_clone.specs.Content.{content}
use Rattle.njs_meaning.specs.Primitives.{Primitive}
use Rattle.njs_meaning.specs.State.{State, Outcome, Gives, Throws, Spent, Asks, and_then}
use Rattle.njs_meaning.specs.Replies.{state_of}
use Rattle.njs_meaning.specs.Conversions.{primitive_or}
use Rattle.njs_convert.specs.declared.stop.Stop.{Stop}
use Rattle.njs_convert.specs.declared.stop.Stop.TheVariants.{Throw, Fuel, NoMemory}
use Rattle.njs_convert.specs.Tells.{Tells, ShowsPrimitive}
use Rattle.njs_convert.specs.Tests.{is_object}
use Rattle.njs_convert.proofs.Stopped.{then_keeps}

-- after a value
pub then_tells : {V W A B : Type 0} (after after' stopped stopped' : State → Type 0) (texts texts' : List (List ℕ)) (shows : V → A → Type 0) (shows' : W → B → Type 0) (v : V) (r : Result W Stop) (o : Outcome A) (go : A → State → Outcome B)
    → Tells after stopped texts shows (Ok v) o → ((a : A) (s : State) → shows v a → after s → Tells after' stopped' texts' shows' r (go a s)) → Tells after' stopped' texts' shows' r (and_then o go)
then_tells after after' stopped stopped' texts texts' shows shows' v r (Gives a s) go t rest = rest a s t.0 t.1
then_tells after after' stopped stopped' texts texts' shows shows' v r (Throws w s) go t rest = absurd t
then_tells after after' stopped stopped' texts texts' shows shows' v r (Spent s) go t rest = absurd t
then_tells after after' stopped stopped' texts texts' shows shows' v r (Asks zone op s) go t rest = absurd t

-- after an end; what would have followed keeps `stopped`
pub then_ends : {V W A B : Type 0} (after stopped : State → Type 0) (texts : List (List ℕ)) (shows : V → A → Type 0) (shows' : W → B → Type 0) (stop : Stop) (o : Outcome A) (go : A → State → Outcome B)
    → Tells after stopped texts shows (Err stop) o → ((a : A) (s : State) → stopped s → stopped (state_of (go a s))) → Tells after stopped texts shows' (Err stop) (and_then o go)
then_ends after stopped texts shows shows' (Throw v) (Gives a s) go t rest = absurd t
then_ends after stopped texts shows shows' (Throw v) (Throws w s) go t rest = t
then_ends after stopped texts shows shows' (Throw v) (Spent s) go t rest = absurd t
then_ends after stopped texts shows shows' (Throw v) (Asks zone op s) go t rest = absurd t
then_ends after stopped texts shows shows' Fuel (Gives a s) go t rest = absurd t
then_ends after stopped texts shows shows' Fuel (Throws w s) go t rest = absurd t
then_ends after stopped texts shows shows' Fuel (Spent s) go t rest = t
then_ends after stopped texts shows shows' Fuel (Asks zone op s) go t rest = absurd t
then_ends after stopped texts shows shows' NoMemory o go t rest = then_keeps stopped o go t rest

-- a value that is no object wins
pub primitive_wins : (stands stopped : State → Type 0) (texts : List (List ℕ)) (otherwise : State → Outcome Primitive) (v : Value) (s : State) → is_object v ≡ false → stands s
    → Tells stands stopped texts (ShowsPrimitive texts) (Ok v) (primitive_or otherwise (content texts v) s)
primitive_wins stands stopped texts otherwise Undefined s e h = (refl, h)
primitive_wins stands stopped texts otherwise Null s e h = (refl, h)
primitive_wins stands stopped texts otherwise (BoolValue b) s e h = (refl, h)
primitive_wins stands stopped texts otherwise (Num n) s e h = (refl, h)
primitive_wins stands stopped texts otherwise (Str t) s e h = (refl, h)
primitive_wins stands stopped texts otherwise (Obj o) s e h = cc

-- an object doesn't
pub object_loses : (texts : List (List ℕ)) (otherwise : State → Outcome Primitive) (v : Value) (s : State) → is_object v ≡ true → primitive_or otherwise (content texts v) s ≡ otherwise s
object_loses texts otherwise Undefined s e = cc
object_loses texts otherwise Null s e = cc
object_loses texts otherwise (BoolValue b) s e = cc
object_loses texts otherwise (Num n) s e = cc
object_loses texts otherwise (Str t) s e = cc
object_loses texts otherwise (Obj o) s e = refl
