-- What stands in the code for each node of a tree. A part of the code is written in front of what stands behind it.
use Rattle.std.specs.Prelude.{ℕ, zero, suc, ◌+◌, List, [], ◌∷◌, length, Bool, true, false, Option, Some, None, pos}
use Rattle.std.specs.Fmt.{decimal}
use Rattle.njs_tree.specs.declared.tree.BinaryOp.{BinaryOp}
use Rattle.njs_tree.specs.declared.tree.LogicalOp.{LogicalOp}
use Rattle.njs_tree.specs.declared.tree.UnaryOp.{UnaryOp}
use Rattle.njs_tree.specs.declared.tree.UnaryOp.TheVariants as sign
use Rattle.njs_tree.specs.declared.tree.UpdateOp.{UpdateOp}
use Rattle.njs_code.specs.declared.op.Address.{Address}
use Rattle.njs_code.specs.declared.op.Depth.{Depth}
use Rattle.njs_code.specs.declared.op.Failure.TheVariants as failure
use Rattle.njs_code.specs.declared.op.Kind.{Kind}
use Rattle.njs_code.specs.declared.op.Kind.TheVariants as kind
use Rattle.njs_code.specs.declared.op.Op.{Op}
use Rattle.njs_props.specs.Names.{length_name}
use Rattle.njs_meaning.specs.declared.place.Place.{Place}
use Rattle.njs_meaning.specs.declared.place.Place.TheVariants.{Slot, Global, Nowhere}
use Rattle.njs_meaning.specs.Places.{Around, place_in}
use Rattle.njs_meaning.specs.Meaning.{Made}

-- where a part stands: the names of the scopes around it, what stands there, and the operation that ends the part around it
pub record Here : Type 0 where
  pub names : Around
  pub depth : Depth
  pub around : Option Address

-- what is written in front of what stands behind
abbrev pub Emits : Type 0
Emits = Here → List Op → List Op

abbrev pub op : Kind → Emits
op k here rest = record { kind = k; depth = here.depth; around = here.around } ∷ rest

-- the address of what stands behind
abbrev pub address : List Op → Address
address rest = record { 0 = length rest }

-- so many further on
abbrev pub on : ℕ → ℕ → ℕ
on zero k = k
on (suc n) k = suc (on n k)

-- with so many operands more
abbrev pub deeper : ℕ → Here → Here
deeper n here = record here { depth = record here.depth { operands = on n here.depth.operands } }

-- in a part that the first operation of these ends
abbrev pub inside : List Op → Here → Here
inside end here = record here { around = Some (address end) }

-- ---- names and members

-- what an expression is before its value is asked
pub data Form : Type 0 where
  IsValue : Form
  IsName : List ℕ → Form
  IsMember : Form

-- how many operands stand for it
abbrev pub width : Form → ℕ
width IsValue = 1
width (IsName name) = 0
width IsMember = 2

abbrev pub load : List ℕ → Place → Kind
load name (Slot up slot a) = kind.Load up slot
load name (Global slot a) = kind.LoadGlobal slot
load name Nowhere = kind.Fail (failure.NotDefined name)

abbrev pub store : List ℕ → Place → Kind
store name (Slot up slot true) = kind.Store up slot
store name (Slot up slot false) = kind.Fail failure.ReadOnly
store name (Global slot true) = kind.StoreGlobal slot
store name (Global slot false) = kind.Fail failure.ReadOnly
store name Nowhere = kind.Fail (failure.NotDefined name)

-- the value in place of the reference
abbrev pub fetch : Form → Emits
fetch IsValue here rest = rest
fetch (IsName name) here rest = op (load name (place_in name here.names)) here rest
fetch IsMember here rest = op kind.Get (deeper 2 here) rest

abbrev pub fetch_size : Form → ℕ
fetch_size IsValue = 0
fetch_size (IsName name) = 1
fetch_size IsMember = 1

-- the value on top of the reference
abbrev pub fetch_kept : Form → Emits
fetch_kept IsValue here rest = op (kind.Tuck 0) (deeper 1 here) rest
fetch_kept (IsName name) here rest = op (load name (place_in name here.names)) here rest
fetch_kept IsMember here rest = op kind.GetKept (deeper 2 here) rest

-- the value on top goes into the reference below it, and stays
abbrev pub assign_to : Form → Emits
assign_to IsValue here rest = op kind.Nip (deeper 2 here) rest
assign_to (IsName name) here rest = op (store name (place_in name here.names)) (deeper 1 here) rest
assign_to IsMember here rest = op kind.Put (deeper 3 here) rest

-- what is called, on top of its `this`
abbrev pub method : Form → Emits
method IsValue here rest = op kind.Receiver (deeper 1 here) rest
method (IsName name) here rest = op (load name (place_in name here.names)) here (op kind.Receiver (deeper 1 here) rest)
method IsMember here rest = op kind.Method (deeper 2 here) rest

abbrev pub method_size : Form → ℕ
method_size IsValue = 1
method_size (IsName name) = 2
method_size IsMember = 1

abbrev pub delete_at : Form → Emits
delete_at IsValue here rest = op kind.Drop (deeper 1 here) (op (kind.Bool true) here rest)
delete_at (IsName name) here rest = op (kind.Bool true) here rest
delete_at IsMember here rest = op kind.DeleteMember (deeper 2 here) rest

abbrev pub delete_size : Form → ℕ
delete_size IsValue = 2
delete_size (IsName name) = 1
delete_size IsMember = 1

-- `typeof` of a name that is bound nowhere doesn't throw
abbrev pub value_for_type : List ℕ → Place → Kind
value_for_type name Nowhere = kind.Undefined
value_for_type name place = load name place

abbrev pub type_of : Form → Emits
type_of IsValue here rest = op (kind.Unary sign.TypeOf) (deeper 1 here) rest
type_of (IsName name) here rest =
    op (value_for_type name (place_in name here.names)) here (op (kind.Unary sign.TypeOf) (deeper 1 here) rest)
type_of IsMember here rest = op kind.Get (deeper 2 here) (op (kind.Unary sign.TypeOf) (deeper 1 here) rest)

abbrev pub type_size : Form → ℕ
type_size IsValue = 1
type_size (IsName name) = 2
type_size IsMember = 2

-- ---- expressions (ECMA-262 5.1 §11)

-- an expression: what it is, how many operations stand for it, and these
pub record Coded : Type 0 where
  pub form : Form
  pub size : ℕ
  pub target : Emits

-- its value
abbrev pub value : Coded → Emits
value a here rest = a.target here (fetch a.form here rest)

abbrev pub value_size : Coded → ℕ
value_size a = a.size + fetch_size a.form

abbrev pub begun : Emits → Emits
begun emit here rest = op kind.Charge here (emit here rest)

-- an expression that is a value, with one tick as it begins
abbrev pub coded : ℕ → Emits → Coded
coded size emit = record { form = IsValue; size = suc size; target = begun emit }

abbrev pub constant : Kind → Coded
constant k = coded 1 (op k)

abbrev pub name : List ℕ → Coded
name text = record { form = IsName text; size = 1; target = op kind.Charge }

abbrev pub comma : Coded → Coded → Coded
comma a b = coded (value_size a + suc (value_size b)) (λ here rest. value a here (op kind.Drop (deeper 1 here) (value b here rest)))

abbrev pub assign : Coded → Coded → Coded
assign a b = coded (a.size + (value_size b + 1)) (λ here rest. a.target here (value b (deeper (width a.form) here) (assign_to a.form here rest)))

abbrev pub assign_by : BinaryOp → Coded → Coded → Coded
assign_by f a b = coded (a.size + suc (value_size b + 2)) (λ here rest.
    a.target here (fetch_kept a.form here (value b (deeper (suc (width a.form)) here)
    (op (kind.Binary f) (deeper (suc (suc (width a.form))) here) (assign_to a.form here rest)))))

abbrev pub assignment : Option BinaryOp → Coded → Coded → Coded
assignment None a b = assign a b
assignment (Some f) a b = assign_by f a b

abbrev pub conditional : Coded → Coded → Coded → Coded
conditional a b c = coded (value_size a + suc (value_size b + suc (value_size c))) (λ here rest.
    let other = value c here rest in
    value a here (op (kind.JumpFalse (address other)) (deeper 1 here) (value b here (op (kind.Jump (address rest)) (deeper 1 here) other))))

abbrev pub either : LogicalOp → Coded → Coded → Coded
either f a b = coded (value_size a + suc (value_size b)) (λ here rest.
    value a here (op (kind.JumpLogical f (address rest)) (deeper 1 here) (value b here rest)))

abbrev pub both : BinaryOp → Coded → Coded → Coded
both f a b = coded (value_size a + (value_size b + 1)) (λ here rest.
    value a here (value b (deeper 1 here) (op (kind.Binary f) (deeper 2 here) rest)))

abbrev pub sole : UnaryOp → Coded → Coded
sole sign.Delete a = coded (a.size + delete_size a.form) (λ here rest. a.target here (delete_at a.form here rest))
sole sign.TypeOf a = coded (a.size + type_size a.form) (λ here rest. a.target here (type_of a.form here rest))
sole f a = coded (value_size a + 1) (λ here rest. value a here (op (kind.Unary f) (deeper 1 here) rest))

-- the old number stays below where `++` or `--` stands behind
abbrev pub stepping : UpdateOp → Bool → Coded → Coded
stepping f true a = coded (a.size + 4) (λ here rest.
    a.target here (fetch_kept a.form here (op kind.ToNumber (deeper (suc (width a.form)) here)
    (op (kind.Step f) (deeper (suc (width a.form)) here) (assign_to a.form here rest)))))
stepping f false a = coded (a.size + 6) (λ here rest.
    a.target here (fetch_kept a.form here (op kind.ToNumber (deeper (suc (width a.form)) here)
    (op (kind.Tuck (width a.form)) (deeper (suc (width a.form)) here) (op (kind.Step f) (deeper (suc (suc (width a.form))) here)
    (assign_to a.form (deeper 1 here) (op kind.Drop (deeper 2 here) rest)))))))

-- values one after the other
abbrev pub values : List Coded → Emits
values [] here rest = rest
values (a ∷ more) here rest = value a here (values more (deeper 1 here) rest)

abbrev pub values_size : List Coded → ℕ
values_size [] = 0
values_size (a ∷ more) = value_size a + values_size more

abbrev pub calling : Coded → List Coded → Coded
calling f args = coded (f.size + (method_size f.form + (values_size args + 1))) (λ here rest.
    f.target here (method f.form here (values args (deeper 2 here) (op (kind.Call (length args)) (deeper (on (length args) 2) here) rest))))

abbrev pub making : Coded → List Coded → Coded
making f args = coded (value_size f + (values_size args + 1)) (λ here rest.
    value f here (values args (deeper 1 here) (op (kind.New (length args)) (deeper (on (length args) 1) here) rest)))

abbrev pub member : Coded → List ℕ → Coded
member a text = record {
  form = IsMember;
  size = suc (value_size a + 2);
  target = begun (λ here rest. value a here (op kind.Base (deeper 1 here) (op (kind.Str text) (deeper 1 here) rest)));
}

abbrev pub index : Coded → Coded → Coded
index a b = record {
  form = IsMember;
  size = suc (value_size a + (value_size b + 1));
  target = begun (λ here rest. value a here (value b (deeper 1 here) (op kind.Key (deeper 2 here) rest)));
}

-- the elements of an array, from an index on, and its length
abbrev pub elements : ℕ → List (Option Coded) → Emits
elements i [] here rest = rest
elements i (None ∷ es) here rest = elements (i + 1) es here rest
elements i (Some a ∷ es) here rest = value a (deeper 1 here) (op (kind.Define (decimal i)) (deeper 2 here) (elements (i + 1) es here rest))

abbrev pub elements_size : List (Option Coded) → ℕ
elements_size [] = 0
elements_size (None ∷ es) = elements_size es
elements_size (Some a ∷ es) = value_size a + suc (elements_size es)

abbrev pub with_length : ℕ → Emits
with_length n here rest =
    op (kind.Tuck 0) (deeper 1 here) (op (kind.Str length_name) (deeper 2 here) (op (kind.Num (pos n)) (deeper 3 here)
    (op kind.Put (deeper 4 here) (op kind.Drop (deeper 2 here) rest))))

abbrev pub array : List (Option Coded) → Coded
array es = coded (suc (elements_size es + 5)) (λ here rest.
    op kind.NewArray here (elements 0 es here (with_length (length es) here rest)))

abbrev pub fields : List (List ℕ × Coded) → Emits
fields [] here rest = rest
fields (p ∷ ps) here rest = value p.1 (deeper 1 here) (op (kind.Define p.0) (deeper 2 here) (fields ps here rest))

abbrev pub fields_size : List (List ℕ × Coded) → ℕ
fields_size [] = 0
fields_size (p ∷ ps) = value_size p.1 + suc (fields_size ps)

abbrev pub object : List (List ℕ × Coded) → Coded
object ps = coded (suc (fields_size ps)) (λ here rest. op kind.NewObject here (fields ps here rest))

abbrev pub function : Made → Coded
function made = coded 1 (op (kind.Closure made.number made.params made.name))
