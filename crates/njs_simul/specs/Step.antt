-- One operation of code (ECMA-262 5.1 §11 to §14, by the operations of `njs_meaning`).
use Rattle.std.specs.Prelude.{ℕ, zero, suc, ◌-◌, List, [], ◌∷◌, ◌++◌, length, take, drop, reverse, true, Option, Some, None, if◌then◌else◌, slice_get, slice_set}
use Rattle.std.specs.Option.{option_map_or, option_and_then}
use Rattle.njs_tree.specs.declared.tree.UpdateOp.{UpdateOp}
use Rattle.njs_code.specs.declared.op.Failure.{Failure}
use Rattle.njs_code.specs.declared.op.Failure.TheVariants as failure
use Rattle.njs_code.specs.declared.op.Kind.{Kind}
use Rattle.njs_code.specs.declared.op.Kind.TheVariants as kind
use Rattle.njs_code.specs.declared.op.Op.{Op}
use Rattle.njs_value.specs.declared.Cause.TheVariants.{ReadOnly}
use Rattle.njs_value.specs.declared.Class.TheVariants as class
use Rattle.njs_meaning.specs.declared.prototypes.Prototype.TheVariants as prototype
use Rattle.njs_meaning.specs.Primitives.{Undefined, Null, Truth, Number, Characters}
use Rattle.njs_meaning.specs.Values.{PlainValue, Simple, ObjectAt, is_same, length_value}
use Rattle.njs_meaning.specs.PlainHeap.{PlainObject, PlainScope, Variable, Plain}
use Rattle.njs_meaning.specs.Objects.{with_new_object}
use Rattle.njs_meaning.specs.State.{State, Outcome, Gives, Throws, Spent, Asks}
use Rattle.njs_meaning.specs.Errors.{place_of, throw}
use Rattle.njs_meaning.specs.Conversions.{to_boolean, to_number}
use Rattle.njs_meaning.specs.Running.{charge, one_and, throw_not_defined, with_object}
use Rattle.njs_meaning.specs.Scopes.{bound, with_scope}
use Rattle.njs_meaning.specs.Members.{with_members, get_member, put_member, delete_member, names_in, has_member}
use Rattle.njs_meaning.specs.References.{Reference, Of, Named, Member}
use Rattle.njs_meaning.specs.Operations.{answered, binary, unary, stepped, leaves_out}
use Rattle.njs_meaning.specs.Completions.{Normal, Returned, Broken, Continued, is_one_of, returned}
use Rattle.njs_meaning.specs.Functions.{arguments_object}
use Rattle.njs_meaning.specs.Meaning.{member_by, function, with_element}
use Rattle.njs_simul.specs.Stacks.{Listing, Ending, Ended, Thrown, Stacks, Frame, inner, context, with_operands, push}

-- what an operation does: it goes on at a place of the code, the function ends, an ending leads out, or an operand is missing
pub data Action : Type 0 where
  Goes : List Op → Stacks → State → Action
  Ends : Outcome PlainValue → Action
  Leads : Ending → Stacks → State → Action
  Stuck : Action

-- ---- slots

abbrev pub ancestor : ℕ → List PlainScope → ℕ → ℕ
ancestor zero scopes at = at
ancestor (suc up) scopes at = option_map_or (λ scope. option_map_or (λ p. ancestor up scopes p.0) scope.parent at) (slice_get scopes at) at

abbrev pub value_at : List PlainScope → ℕ → ℕ → PlainValue
value_at scopes at slot = option_map_or (λ v. v.value) (option_and_then (λ scope. slice_get scope.variables slot) (slice_get scopes at)) (Simple Undefined)

abbrev pub with_slot_value : ℕ → PlainValue → List Variable → List Variable
with_slot_value slot value variables = option_map_or (λ v. slice_set variables slot (record v { value = value })) (slice_get variables slot) variables

abbrev pub with_value_at : List PlainScope → ℕ → ℕ → PlainValue → List PlainScope
with_value_at scopes at slot value =
    option_map_or (λ scope. slice_set scopes at (record scope { variables = with_slot_value slot value scope.variables })) (slice_get scopes at) scopes

abbrev pub in_slot : ℕ → ℕ → PlainValue → State → State
in_slot at slot value s = record s { scopes = with_value_at s.scopes at slot value }

-- ---- operands

abbrev pub on_top : List PlainValue → (PlainValue → List PlainValue → Action) → Action
on_top [] go = Stuck
on_top (v ∷ vs) go = go v vs

abbrev pub on_two : List PlainValue → (PlainValue → PlainValue → List PlainValue → Action) → Action
on_two vs go = on_top vs (λ b vs. on_top vs (λ a vs. go a b vs))

-- a text that is a name; of any other value the empty one
abbrev pub name_in : PlainValue → List ℕ
name_in (Simple (Characters name)) = name
name_in v = []

-- a base and a name
abbrev pub on_member : List PlainValue → (PlainValue → List ℕ → List PlainValue → Action) → Action
on_member vs go = on_two vs (λ base name vs. go base (name_in name) vs)

-- the operands of a reference
abbrev pub operands_of : Reference → List PlainValue
operands_of (Of v) = v ∷ []
operands_of (Named name) = []
operands_of (Member base name) = Simple (Characters name) ∷ base ∷ []

abbrev pub on_list : List Listing → (Listing → List Listing → Action) → Action
on_list [] go = Stuck
on_list (l ∷ ls) go = go l ls

-- ---- what follows an outcome

abbrev pub on : {A : Type 0} → Outcome A → Stacks → (A → State → Action) → Action
on (Gives a s) st go = go a s
on (Throws v s) st go = Leads (Thrown v) st s
on (Spent s) st go = Ends (Spent s)
on (Asks zone op s) st go = Ends (Asks zone op s)

-- on with its value
abbrev pub finish : List Op → Stacks → Outcome PlainValue → Action
finish rest st o = on o st (λ v s. Goes rest (push v st) s)

-- ---- single operations

abbrev pub fails : Failure → State → Outcome PlainValue
fails (failure.NotDefined name) s = throw_not_defined name s
fails failure.ReadOnly s = throw ReadOnly s

-- a property of an object that is being made
abbrev pub defined : List ℕ → PlainValue → PlainValue → State → Outcome PlainValue
defined name (ObjectAt o) v s = with_element o name v (Gives (ObjectAt o)) s
defined name (Simple p) v s = Gives (Simple p) s

-- the number after `++` or `--`; a value that is no number stays
abbrev pub stepped_from : UpdateOp → PlainValue → State → Outcome PlainValue
stepped_from op (Simple (Number n)) s = answered (stepped op n) s
stepped_from op v s = Gives v s

-- the names from the first on that is still there
abbrev pub still_there : PlainValue → List PlainObject → List (List ℕ) → List (List ℕ)
still_there v objects [] = []
still_there v objects (name ∷ names) = if has_member name v objects then name ∷ names else still_there v objects names

abbrev pub unless_empty : List (List ℕ) → (List (List ℕ) → Action) → Action → Action
unless_empty [] go otherwise = otherwise
unless_empty (name ∷ names) go otherwise = go (name ∷ names)

-- the next name as an operand
abbrev pub next_name : List (List ℕ) → PlainValue
next_name [] = Simple Undefined
next_name (name ∷ names) = Simple (Characters name)

abbrev pub new_array : State → State
new_array s = record s { objects = with_new_object length_value class.Array (Some (record { 0 = place_of prototype.Array })) Plain s.objects }

abbrev pub new_object : State → State
new_object s = record s { objects = with_new_object length_value class.Object (Some (record { 0 = place_of prototype.Object })) Plain s.objects }

-- an ending that waited goes on; one that led nowhere is over
abbrev pub resumed : List Op → Ending → Stacks → State → Action
resumed rest (Ended Normal) st s = Goes rest st s
resumed rest e st s = Leads e st s

abbrev pub on_ending : List Ending → (Ending → List Ending → Action) → Action
on_ending [] go = Stuck
on_ending (e ∷ es) go = go e es

-- how a function's code ends by an ending that leads out of it
abbrev pub ended_by : Ending → State → Outcome PlainValue
ended_by (Ended c) s = Gives (returned c) s
ended_by (Thrown v) s = Throws v s

module _ (frame : Frame) (code : List Op) where
  -- the code from an address on
  abbrev pub from : ℕ → List Op
  from at = drop (length code - at) code

  -- an operation, with the code behind it
  abbrev pub act : Kind → List Op → Stacks → State → Action
  act kind.Charge rest st s = on (charge 1 (Gives true) s) st (λ paid s. Goes rest st s)
  act kind.Undefined rest st s = Goes rest (push (Simple Undefined) st) s
  act kind.Null rest st s = Goes rest (push (Simple Null) st) s
  act (kind.Bool b) rest st s = Goes rest (push (Simple (Truth b)) st) s
  act (kind.Num n) rest st s = Goes rest (push (Simple (Number n)) st) s
  act (kind.Str text) rest st s = Goes rest (push (Simple (Characters text)) st) s
  act kind.This rest st s = Goes rest (push frame.this st) s
  act (kind.Load up slot) rest st s = Goes rest (push (value_at s.scopes (ancestor up s.scopes (inner st.scopes)) slot) st) s
  act (kind.Store up slot) rest st s = on_top st.operands (λ v vs. Goes rest st (in_slot (ancestor up s.scopes (inner st.scopes)) slot v s))
  act (kind.LoadGlobal slot) rest st s = Goes rest (push (value_at s.scopes 0 slot) st) s
  act (kind.StoreGlobal slot) rest st s = on_top st.operands (λ v vs. Goes rest st (in_slot 0 slot v s))
  act (kind.Fail f) rest st s = finish rest st (fails f s)
  act kind.Base rest st s = on_top st.operands (λ v vs. finish rest (with_operands st vs) (with_members v (Gives v) s))
  act kind.Key rest st s =
      on_two st.operands (λ base key vs. on (member_by base key (context frame st) s) st (λ r s. Goes rest (with_operands st (operands_of r ++ vs)) s))
  act kind.Get rest st s = on_member st.operands (λ base name vs. Goes rest (with_operands st (get_member name base s.objects ∷ vs)) s)
  act kind.GetKept rest st s = on_member st.operands (λ base name vs. Goes rest (push (get_member name base s.objects) st) s)
  act kind.Method rest st s = on_member st.operands (λ base name vs. Goes rest (with_operands st (get_member name base s.objects ∷ base ∷ vs)) s)
  act kind.Put rest st s =
      on_top st.operands (λ v vs. on_member vs (λ base name vs. finish rest (with_operands st vs) (put_member name base v s)))
  act kind.DeleteMember rest st s = on_member st.operands (λ base name vs. finish rest (with_operands st vs) (delete_member name base s))
  act (kind.Binary op) rest st s = on_two st.operands (λ a b vs. finish rest (with_operands st vs) (binary frame.calls.call op a b s))
  act (kind.Unary op) rest st s = on_top st.operands (λ v vs. finish rest (with_operands st vs) (unary frame.calls.call op v s))
  act kind.ToNumber rest st s =
      on_top st.operands (λ v vs. on (to_number frame.calls.call v s) st (λ n s. Goes rest (with_operands st (Simple (Number n) ∷ vs)) s))
  act (kind.Step op) rest st s = on_top st.operands (λ v vs. finish rest (with_operands st vs) (stepped_from op v s))
  act (kind.Tuck under) rest st s = on_top st.operands (λ v vs. Goes rest (with_operands st (v ∷ take under vs ++ v ∷ drop under vs)) s)
  act kind.Drop rest st s = on_top st.operands (λ v vs. Goes rest (with_operands st vs) s)
  act kind.Nip rest st s = on_two st.operands (λ a b vs. Goes rest (with_operands st (b ∷ vs)) s)
  act kind.Receiver rest st s = on_top st.operands (λ v vs. Goes rest (with_operands st (v ∷ Simple Undefined ∷ vs)) s)
  act (kind.Jump to) rest st s = Goes (from to.0) st s
  act (kind.JumpFalse to) rest st s =
      on_top st.operands (λ v vs. if to_boolean v then Goes rest (with_operands st vs) s else Goes (from to.0) (with_operands st vs) s)
  act (kind.JumpLogical op to) rest st s =
      on_top st.operands (λ v vs. if leaves_out op v then Goes (from to.0) st s else Goes rest (with_operands st vs) s)
  act (kind.JumpSame to) rest st s =
      on_two st.operands (λ a b vs. if is_same a b then Goes (from to.0) (with_operands st vs) s else Goes rest (with_operands st (a ∷ vs)) s)
  act (kind.Call count) rest st s =
      on_two (drop count st.operands) (λ this f vs.
      finish rest (with_operands st vs) (frame.calls.call f this (reverse (take count st.operands)) s))
  act (kind.New count) rest st s =
      on_top (drop count st.operands) (λ f vs.
      finish rest (with_operands st vs) (frame.calls.construct f (reverse (take count st.operands)) s))
  act kind.NewArray rest st s = Goes rest (push (ObjectAt (length s.objects)) st) (new_array s)
  act kind.NewObject rest st s = Goes rest (push (ObjectAt (length s.objects)) st) (new_object s)
  act (kind.Define name) rest st s = on_two st.operands (λ object v vs. finish rest (with_operands st vs) (defined name object v s))
  act (kind.Closure number params name) rest st s =
      on (function (record { number = number; name = name; params = params }) (context frame st) s) st
      (λ r s. Goes rest (with_operands st (operands_of r ++ st.operands)) s)
  act kind.Arguments rest st s =
      on (charge (one_and (length frame.args) 8) (Gives true) s) st
      (λ paid s. Goes rest (push (ObjectAt (length s.objects)) st) (with_object (arguments_object frame.args) s))
  act kind.ListNames rest st s =
      on_top st.operands (λ v vs. on (charge (length (names_in v s.objects)) (Gives (names_in v s.objects)) s) st
      (λ names s. Goes rest (record st { operands = vs; lists = record { value = v; names = names } ∷ st.lists }) s))
  act (kind.MoreNames to) rest st s =
      on_list st.lists (λ l ls. unless_empty (still_there l.value s.objects l.names)
      (λ names. Goes rest (record st { lists = record l { names = names } ∷ ls }) s) (Goes (from to.0) (record st { lists = record l { names = [] } ∷ ls }) s))
  act kind.NextName rest st s =
      on_list st.lists (λ l ls. Goes rest (record st { operands = next_name l.names ∷ st.operands; lists = record l { names = drop 1 l.names } ∷ ls }) s)
  act kind.DropList rest st s = Goes rest (record st { lists = drop 1 st.lists }) s
  act (kind.Enter name) rest st s =
      on_top st.operands (λ v vs. Goes rest (record st { operands = vs; scopes = length s.scopes ∷ st.scopes })
      (with_scope (record { 0 = inner st.scopes }) (bound name v ∷ []) s))
  act kind.Leave rest st s = Goes rest (record st { scopes = drop 1 st.scopes }) s
  act kind.Return rest st s = on_top st.operands (λ v vs. Leads (Ended (Returned v)) (with_operands st vs) s)
  act (kind.Break label) rest st s = Leads (Ended (Broken label)) st s
  act (kind.Continue label) rest st s = Leads (Ended (Continued label)) st s
  act kind.Throw rest st s = on_top st.operands (λ v vs. Leads (Thrown v) (with_operands st vs) s)
  act (kind.EndBody labels past) rest st s = Goes rest st s
  act kind.EndSwitch rest st s = Goes rest st s
  act kind.EndBlock rest st s = Goes rest (push (Simple Undefined) st) s
  act kind.Finally rest st s = Goes rest (record st { endings = Ended Normal ∷ st.endings }) s
  act kind.Resume rest st s = on_ending st.endings (λ e es. resumed rest e (record st { endings = es }) s)

  -- where an ending goes on that comes to the end of a part: nowhere there, or at a place of the code
  abbrev pub taken : Kind → List Op → Ending → Stacks → Option (List Op × Stacks)
  taken (kind.EndBody labels past) rest (Ended (Broken label)) st = if is_one_of label labels then Some (from past.0, st) else None
  taken (kind.EndBody labels past) rest (Ended (Continued label)) st = if is_one_of label labels then Some (rest, st) else None
  taken kind.EndSwitch rest (Ended (Broken None)) st = Some (rest, st)
  taken kind.EndBlock rest (Thrown v) st = Some (rest, push v st)
  taken kind.Finally rest e st = Some (rest, record st { endings = e ∷ st.endings })
  taken k rest e st = None
