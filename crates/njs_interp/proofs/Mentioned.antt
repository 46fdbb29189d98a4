-- Members: what is asked, what is thrown.
use Rattle.std.proofs.Common.{◌≡◌, ℕ, List, [], Option, Some, None, Result, Ok, Err, Bool, true, false, cond, is_some, refl}
use Rattle.std.specs.Option.{option_map_or}
use Rattle.njs_value.specs.declared.Cause.{Cause}
use Rattle.njs_value.specs.declared.Cause.TheVariants.{NotObject, NotConfigurable}
use Rattle.njs_value.specs.declared.HeapStop.{HeapStop}
use Rattle.njs_value.specs.declared.HeapStop.TheVariants.{Throw, NoMemory}
use Rattle.njs_shared.specs.Heap.{Heap}
use Rattle.njs_clone.specs.StandsFor.{plain_objects, plain_put, plain_define}
use Rattle.njs_meaning.specs.Primitives.{Undefined, Null, Truth, Number, Characters}
use Rattle.njs_meaning.specs.Values.{PlainValue, Simple, ObjectAt}
use Rattle.njs_meaning.specs.Properties.{Change}
use Rattle.njs_meaning.specs.Objects.{delete_at, with_props}
use Rattle.njs_meaning.specs.Meaning.{ordinary}
use Rattle.njs_simul.specs.Step.{defined}
use Rattle.njs_meaning.specs.Members.{with_members, put_member, delete_member, own_member}
use Rattle.njs_meaning.specs.State.{State, Gives}
use Rattle.njs_meaning.specs.Errors.{name_of, throw}
use Rattle.njs_meaning.specs.Replies.{state_of}
use Rattle.njs_meaning.specs.Running.{changed}
use Rattle.njs_members.specs.Tells as members
use Rattle.njs_interp.specs.Acts.{Unanswered}
use Rattle.njs_interp.specs.Outcomes.{AsksNothing, ThrowsNoName}
use Rattle.njs_interp.proofs.Kept.{Unanswered-refl}
use Rattle.njs_interp.proofs.Causes.{put-other, define-other, delete-other, changed-cause, other-cause}

pub changed-asks : (at : ℕ) (change : Change PlainValue) (given : PlainValue) (s : State) → Unanswered s (state_of (changed at change (Gives given) s))
changed-asks at change given s = by change.thrown
  where
    u : State
    u = record s { objects = with_props s.objects at change.props }

    by : (r : Option Cause) → Unanswered s (state_of (option_map_or (λ cause. throw {A = PlainValue} cause u) r (Gives given u)))
    by None = record { zones = refl; asked = refl }
    by (Some c) = record { zones = refl; asked = refl }

pub with_members-asks : (v given : PlainValue) → AsksNothing (with_members v (Gives given))
with_members-asks v given = record { by = λ s. by v s }
  where
    by : (v : PlainValue) (s : State) → Unanswered s (state_of (with_members v (Gives given) s))
    by (Simple Undefined) s = record { zones = refl; asked = refl }
    by (Simple Null) s = record { zones = refl; asked = refl }
    by (Simple (Truth b)) s = Unanswered-refl s
    by (Simple (Number n)) s = Unanswered-refl s
    by (Simple (Characters t)) s = Unanswered-refl s
    by (ObjectAt o) s = Unanswered-refl s

pub put-asks : (name : List ℕ) (base v : PlainValue) → AsksNothing (put_member name base v)
put-asks name (ObjectAt o) v = record { by = λ s. changed-asks o (plain_put s.objects o name v) v s }
put-asks name (Simple p) v = record { by = λ s. record { zones = refl; asked = refl } }

pub delete-asks : (name : List ℕ) (base : PlainValue) → AsksNothing (delete_member name base)
delete-asks name (ObjectAt o) = record { by = λ s. changed-asks o (delete_at name s.objects o) (Simple (Truth true)) s }
delete-asks name (Simple p) = record { by = λ s. by (is_some (own_member name p)) s }
  where
    by : (b : Bool) (s : State) → Unanswered s (state_of (cond b (throw NotConfigurable s) (Gives (Simple (Truth true)) s)))
    by true s = record { zones = refl; asked = refl }
    by false s = Unanswered-refl s

-- ---- causes

-- a state with the objects of a heap
abbrev some_state : Heap → State
some_state h = record {
  objects = plain_objects h;
  scopes = [];
  response = record { head = None; body = []; is_finished = false };
  zones = [];
  asked = [];
  log = [];
  ticks = 0;
}

module _ (h k : Heap) (given : PlainValue) where
  pub put-cause : (name : List ℕ) (base v : PlainValue) (r : Result (Unit {0}) HeapStop) → members.Tells given (put_member name base v) h k r → ThrowsNoName r
  put-cause name base v (Ok done) told = tt
  put-cause name base v (Err NoMemory) told = tt
  put-cause name base v (Err (Throw cause)) told = by base (told (some_state h) refl)
    where
      by : (base : PlainValue) → put_member name base v (some_state h) ≡ throw cause (record (some_state h) { objects = plain_objects k }) → name_of cause ≡ None
      by (ObjectAt o) same = changed-cause o (plain_put (plain_objects h) o name v) v cause (some_state h) (record (some_state h) { objects = plain_objects k }) (put-other (plain_objects h) o name v) same
      by (Simple p) same = other-cause NotObject cause (some_state h) (record (some_state h) { objects = plain_objects k }) refl same

  pub delete-cause : (name : List ℕ) (base : PlainValue) (r : Result (Unit {0}) HeapStop) → members.Tells given (delete_member name base) h k r → ThrowsNoName r
  delete-cause name base (Ok done) told = tt
  delete-cause name base (Err NoMemory) told = tt
  delete-cause name base (Err (Throw cause)) told = by base (told (some_state h) refl)
    where
      t : State
      t = record (some_state h) { objects = plain_objects k }

      simple : (b : Bool) → cond b (throw NotConfigurable (some_state h)) (Gives (Simple (Truth true)) (some_state h)) ≡ throw cause t → name_of cause ≡ None
      simple true same = other-cause NotConfigurable cause (some_state h) t refl same
      simple false same = cc

      by : (base : PlainValue) → delete_member name base (some_state h) ≡ throw cause t → name_of cause ≡ None
      by (ObjectAt o) same = changed-cause o (delete_at name (plain_objects h) o) (Simple (Truth true)) cause (some_state h) t (delete-other (plain_objects h) o name) same
      by (Simple p) same = simple (is_some (own_member name p)) same

  pub define-cause : (name : List ℕ) (object v : PlainValue) (r : Result (Unit {0}) HeapStop) → members.Tells given (defined name object v) h k r → ThrowsNoName r
  define-cause name object v (Ok done) told = tt
  define-cause name object v (Err NoMemory) told = tt
  define-cause name object v (Err (Throw cause)) told = by object (told (some_state h) refl)
    where
      by : (object : PlainValue) → defined name object v (some_state h) ≡ throw cause (record (some_state h) { objects = plain_objects k }) → name_of cause ≡ None
      by (ObjectAt o) same =
          changed-cause o (plain_define (plain_objects h) o name (ordinary v)) (ObjectAt o) cause (some_state h) (record (some_state h) { objects = plain_objects k }) (define-other (plain_objects h) o name (ordinary v)) same
      by (Simple p) same = cc

pub define-asks : (name : List ℕ) (object v : PlainValue) → AsksNothing (defined name object v)
define-asks name (ObjectAt o) v = record { by = λ s. changed-asks o (plain_define s.objects o name (ordinary v)) (ObjectAt o) s }
define-asks name (Simple p) v = record { by = λ s. Unanswered-refl s }
