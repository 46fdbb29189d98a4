-- What stands in the code for each statement, for functions and for the body of a module (ECMA-262 5.1 §12 to §14).
use Rattle.std.specs.Prelude.{ℕ, suc, ◌+◌, List, [], ◌∷◌, length, map, Bool, true, false, Option, Some, None}
use Rattle.std.specs.Option.{option_map_or}
use Rattle.njs_code.specs.declared.op.Address.{Address}
use Rattle.njs_code.specs.declared.op.Kind.{Kind}
use Rattle.njs_code.specs.declared.op.Kind.TheVariants as kind
use Rattle.njs_code.specs.declared.op.Op.{Op}
use Rattle.njs_code.specs.declared.code.FunctionCode.{FunctionCode}
use Rattle.njs_meaning.specs.Places.{Around, assignable}
use Rattle.njs_meaning.specs.Functions.{arguments_name}
use Rattle.njs_meaning.specs.Parts.{Declared}
use Rattle.njs_simul.specs.Emission.{Here, Emits, op, address, deeper, inside, IsName, width, assign_to, Coded, value, value_size, begun}

-- a statement, before a loop with the labels that stand before it
pub record CodedStatement : Type 0 where
  pub size : ℕ
  pub emit : List (List ℕ) → Emits

abbrev pub nothing : Emits
nothing here rest = rest

-- a statement with one tick as it begins, which no label is for
abbrev pub plain : ℕ → Emits → CodedStatement
plain size emit = record { size = suc size; emit = λ labels. begun emit }

-- one after the other
abbrev pub in_turn : List CodedStatement → Emits
in_turn [] here rest = rest
in_turn (a ∷ more) here rest = a.emit [] here (in_turn more here rest)

abbrev pub in_turn_size : List CodedStatement → ℕ
in_turn_size [] = 0
in_turn_size (a ∷ more) = a.size + in_turn_size more

abbrev pub block : List CodedStatement → CodedStatement
block body = plain (in_turn_size body) (in_turn body)

-- a value for a name
abbrev pub bind : List ℕ → Emits
bind name here rest = assign_to (IsName name) here (op kind.Drop (deeper 1 here) rest)

-- what is declared, each with its value, if it has one
pub record CodedPart : Type 0 where
  pub size : ℕ
  pub emit : Emits

abbrev pub declare : List (List ℕ × Option Coded) → Emits
declare [] here rest = rest
declare ((name, None) ∷ vs) here rest = declare vs here rest
declare ((name, Some a) ∷ vs) here rest = value a here (bind name here (declare vs here rest))

abbrev pub declare_size : List (List ℕ × Option Coded) → ℕ
declare_size [] = 0
declare_size ((name, None) ∷ vs) = declare_size vs
declare_size ((name, Some a) ∷ vs) = value_size a + (2 + declare_size vs)

abbrev pub declaring : List (List ℕ × Option Coded) → CodedPart
declaring vs = record { size = declare_size vs; emit = declare vs }

-- a value that nothing is done with
abbrev pub evaluate : Coded → CodedPart
evaluate a = record { size = value_size a + 1; emit = λ here rest. value a here (op kind.Drop (deeper 1 here) rest) }

abbrev pub statement_of : CodedPart → CodedStatement
statement_of part = plain part.size part.emit

abbrev pub empty : CodedStatement
empty = plain 0 nothing

-- a statement that may be missing
abbrev pub optional : Option CodedStatement → CodedPart
optional None = record { size = 0; emit = nothing }
optional (Some a) = record { size = a.size; emit = a.emit [] }

abbrev pub if_else : Coded → CodedStatement → Option CodedStatement → CodedStatement
if_else test body other = plain (value_size test + suc (body.size + suc (optional other).size)) (λ here rest.
    let otherwise = (optional other).emit here rest in
    value test here (op (kind.JumpFalse (address otherwise)) (deeper 1 here) (body.emit [] here (op (kind.Jump (address rest)) here otherwise))))

-- ---- loops (§12.6)

-- a test of a loop, which goes on behind or at the address
pub record CodedTest : Type 0 where
  pub size : ℕ
  pub emit : Address → Emits

abbrev pub no_test : CodedTest
no_test = record { size = 0; emit = λ past. nothing }

abbrev pub test_of : Coded → CodedTest
test_of a = record { size = suc (value_size a); emit = λ past here rest. value a here (op (kind.JumpFalse past) (deeper 1 here) rest) }

abbrev pub tests_if_any : Option Coded → CodedTest
tests_if_any None = no_test
tests_if_any (Some a) = test_of a

abbrev pub does_if_any : Option Coded → CodedTest
does_if_any None = no_test
does_if_any (Some a) = record { size = (evaluate a).size; emit = λ past. (evaluate a).emit }

-- the address of the head of a loop with so many operations up to the jump back
abbrev pub head_of : ℕ → List Op → Address
head_of size rest = record { 0 = suc (size + suc (length rest)) }

abbrev pub loop_size : CodedTest → CodedStatement → CodedTest → ℕ
loop_size before body behind = suc (before.size + (body.size + suc (behind.size + 1)))

-- a turn of a loop up to the jump back to its head
abbrev pub turn : List (List ℕ) → CodedTest → CodedStatement → CodedTest → Address → Address → Emits
turn labels before body behind head past here rest =
    let back = op (kind.Jump head) here rest in
    let end = op (kind.EndBody labels past) here (behind.emit past here back) in
    op kind.Charge here (before.emit past here (body.emit [] (inside end here) end))

abbrev pub loop : List (List ℕ) → CodedTest → CodedStatement → CodedTest → Emits
loop labels before body behind here rest =
    turn labels before body behind (head_of (before.size + (body.size + suc behind.size)) rest) (address rest) here rest

abbrev pub loop_statement : CodedPart → CodedTest → CodedStatement → CodedTest → CodedStatement
loop_statement first before body behind = record {
  size = suc (first.size + loop_size before body behind);
  emit = λ labels. begun (λ here rest. first.emit here (loop labels before body behind here rest));
}

abbrev pub no_part : CodedPart
no_part = record { size = 0; emit = nothing }

abbrev pub do_loop : CodedStatement → Coded → CodedStatement
do_loop body test = loop_statement no_part no_test body (test_of test)

abbrev pub while_loop : Coded → CodedStatement → CodedStatement
while_loop test body = loop_statement no_part (test_of test) body no_test

abbrev pub first_of : Option CodedPart → CodedPart
first_of None = no_part
first_of (Some first) = first

abbrev pub for_loop : Option CodedPart → Option Coded → Option Coded → CodedStatement → CodedStatement
for_loop first test update body = loop_statement (first_of first) (tests_if_any test) body (does_if_any update)

-- with a list of names
abbrev pub listing : Here → Here
listing here = record here { depth = record here.depth { lists = suc here.depth.lists } }

-- what a turn of a `for in` assigns to
abbrev pub next_name : Coded → Emits
next_name head here rest =
    head.target here (op kind.NextName (deeper (width head.form) here) (assign_to head.form here (op kind.Drop (deeper 1 here) rest)))

abbrev pub turn_in : List (List ℕ) → Coded → CodedStatement → Address → Address → Emits
turn_in labels head body top past here rest =
    let end = op (kind.EndBody labels past) here (op (kind.MoreNames past) here (op (kind.Jump top) here rest)) in
    op kind.Charge here (next_name head here (body.emit [] (inside end here) end))

abbrev pub each_name : List (List ℕ) → Coded → CodedStatement → Emits
each_name labels head body here rest =
    let last = op kind.DropList here rest in
    op (kind.MoreNames (address last)) here
    (turn_in labels head body (head_of (head.size + (3 + (body.size + 2))) last) (address last) here last)

abbrev pub for_in : Coded → Coded → CodedStatement → CodedStatement
for_in head v body = record {
  size = suc (value_size v + suc (suc (suc (head.size + (3 + (body.size + 4))))));
  emit = λ labels. begun (λ here rest. value v here (op kind.ListNames (deeper 1 here) (each_name labels head body (listing here) rest)));
}

-- ---- endings (§12.7 to §12.9, §12.13)

abbrev pub ends_with : Kind → CodedStatement
ends_with k = plain 1 (op k)

abbrev pub value_or_undefined : Option Coded → CodedPart
value_or_undefined None = record { size = 1; emit = op kind.Undefined }
value_or_undefined (Some a) = record { size = value_size a; emit = value a }

abbrev pub return : Option Coded → CodedStatement
return a = plain ((value_or_undefined a).size + 1) (λ here rest. (value_or_undefined a).emit here (op kind.Return (deeper 1 here) rest))

abbrev pub throw_value : Coded → CodedStatement
throw_value a = plain (value_size a + 1) (λ here rest. value a here (op kind.Throw (deeper 1 here) rest))

-- ---- `switch` (§12.11)

pub record CodedBranch : Type 0 where
  pub test : Option Coded
  pub body : List CodedStatement

-- the bodies, one behind the other
abbrev pub bodies : List CodedBranch → Emits
bodies [] here rest = rest
bodies (b ∷ bs) here rest = in_turn b.body here (bodies bs here rest)

abbrev pub bodies_size : List CodedBranch → ℕ
bodies_size [] = 0
bodies_size (b ∷ bs) = in_turn_size b.body + bodies_size bs

-- where the bodies begin from `default` on
abbrev pub default_at : List CodedBranch → Here → List Op → Address
default_at [] here rest = address rest
default_at (b ∷ bs) here rest = option_map_or (λ test. default_at bs here rest) b.test (address (bodies (b ∷ bs) here rest))

-- the tests in order; the one that is met leads to its body
abbrev pub branches : List CodedBranch → (List CodedBranch → Address) → Emits
branches [] body_at here rest = rest
branches (b ∷ bs) body_at here rest =
    option_map_or (λ test. value test (deeper 1 here) (op (kind.JumpSame (body_at (b ∷ bs))) (deeper 2 here) (branches bs body_at here rest)))
    b.test (branches bs body_at here rest)

abbrev pub branches_size : List CodedBranch → ℕ
branches_size [] = 0
branches_size (b ∷ bs) = option_map_or (λ test. value_size test + 1) b.test 0 + branches_size bs

abbrev pub switch_branches : List CodedBranch → Emits
switch_branches bs here rest =
    let end = op kind.EndSwitch here rest in
    let within = inside end here in
    branches bs (λ left. address (bodies left within end)) here
    (op kind.Drop (deeper 1 here) (op (kind.Jump (default_at bs within end)) here (bodies bs within end)))

abbrev pub switch : Coded → List CodedBranch → CodedStatement
switch v bs = plain (value_size v + (branches_size bs + suc (suc (bodies_size bs + 1)))) (λ here rest. value v here (switch_branches bs here rest))

-- ---- `try` (§12.14)

abbrev pub in_catch : List ℕ → Here → Here
in_catch name here = record here {
  names = ((name, true) ∷ []) ∷ here.names;
  depth = record here.depth { scopes = suc here.depth.scopes };
}

abbrev pub waiting : Here → Here
waiting here = record here { depth = record here.depth { endings = suc here.depth.endings } }

-- a block with its `catch`, which an ending that is thrown leads to
abbrev pub handled : List CodedStatement → List ℕ → List CodedStatement → Emits
handled body name handler here rest =
    let caught = op (kind.Enter name) (deeper 1 here) (in_turn handler (in_catch name here) (op kind.Leave (in_catch name here) rest)) in
    let end = op kind.EndBlock here caught in
    in_turn body (inside end here) (op (kind.Jump (address rest)) here end)

abbrev pub with_handler : List CodedStatement → Option (List ℕ × List CodedStatement) → CodedPart
with_handler body None = record { size = in_turn_size body; emit = in_turn body }
with_handler body (Some caught) = record {
  size = in_turn_size body + suc (suc (suc (in_turn_size caught.1 + 1)));
  emit = handled body caught.0 caught.1;
}

abbrev pub with_last : CodedPart → Option (List CodedStatement) → CodedPart
with_last part None = part
with_last part (Some last) = record {
  size = part.size + suc (in_turn_size last + 1);
  emit = λ here rest.
      let end = op kind.Finally here (in_turn last (waiting here) (op kind.Resume (waiting here) rest)) in
      part.emit (inside end here) end;
}

abbrev pub try_catch : List CodedStatement → Option (List ℕ × List CodedStatement) → Option (List CodedStatement) → CodedStatement
try_catch body caught last = statement_of (with_last (with_handler body caught) last)

abbrev pub labelled : List ℕ → CodedStatement → CodedStatement
labelled label a = record { size = suc a.size; emit = λ labels. begun (a.emit (label ∷ labels)) }

-- ---- functions (§10.4, §10.5, §10.6, §13)

-- the declared functions are made, in order of the text
abbrev pub declared : List Declared → Emits
declared [] here rest = rest
declared (d ∷ ds) here rest = op (kind.Closure d.number d.params None) here (bind d.name here (declared ds here rest))

abbrev pub with_arguments : Bool → Emits
with_arguments false here rest = rest
with_arguments true here rest = op kind.Arguments here (bind arguments_name here rest)

abbrev pub at_start : Around → Here
at_start names = record { names = names; depth = record { operands = 0; scopes = 1; lists = 0; endings = 0 }; around = None }

-- a function that is called gives undefined where it doesn't return
abbrev pub function_body : List Declared → Bool → List CodedStatement → Emits
function_body ds takes_arguments body here rest =
    declared ds here (with_arguments takes_arguments here (in_turn body here (op kind.Undefined here (op kind.Return (deeper 1 here) rest))))

-- a function: what stands around it, and its code there
pub record CodedFunction : Type 0 where
  pub around : Around
  pub code : FunctionCode

abbrev pub slots_of : Around → List ℕ
slots_of names = map length names

abbrev pub function_code : ℕ → List (List ℕ) → List Declared → Bool → List CodedStatement → Around → FunctionCode
function_code params names ds takes_arguments body around = record {
  params = params;
  builds = true;
  slots = slots_of (assignable names ∷ around);
  ops = function_body ds takes_arguments body (at_start (assignable names ∷ around)) [];
}
