-- Code does what the tree means.
use Rattle.std.specs.Prelude.{◌≡◌, ℕ, List, ◌++◌, length}
use Rattle.njs_code.specs.declared.op.Op.{Op}
use Rattle.njs_meaning.specs.Values.{PlainValue}
use Rattle.njs_meaning.specs.State.{State, Outcome, Gives, Throws, Spent, Asks}
use Rattle.njs_meaning.specs.Running.{Context, Runs as Meaning}
use Rattle.njs_meaning.specs.Places.{Around}
use Rattle.njs_meaning.specs.References.{Reference, Of, Named, Member, Expression}
use Rattle.njs_meaning.specs.Completions.{Completion, Normal, Statement}
use Rattle.njs_simul.specs.Stacks.{Ending, Ended, Thrown, Stacks, Frame, inner, context, with_operands}
use Rattle.njs_simul.specs.Step.{operands_of}
use Rattle.njs_simul.specs.Runs.{Runs, LeadsOut}
use Rattle.njs_simul.specs.Emission.{Here, Emits, Form, IsValue, IsName, IsMember, Coded}
use Rattle.njs_simul.specs.EmissionOfStatements.{CodedStatement, CodedPart}
use Rattle.njs_simul.specs.Fits.{Names, Scoped, Good, Fared, CallsFare}

-- a state and what stands in it, as a place of the code counts on it
pub record Stands (env : Names) (here : Here) (st : Stacks) (s : State) : Type 0 where
  pub operands : length st.operands ≡ here.depth.operands
  pub scopes : length st.scopes ≡ here.depth.scopes
  pub lists : length st.lists ≡ here.depth.lists
  pub endings : length st.endings ≡ here.depth.endings
  pub scoped : Scoped here.names s.scopes (inner st.scopes)
  pub good : Good env s

-- the code ends with this
abbrev pub EndsWith : List Op → List Op → Type 0
EndsWith code rest = (front : List Op) × (code ≡ front ++ rest)

-- what comes of a part: a value goes on, a throw leads out, and every other outcome is the whole one
abbrev pub Comes : {A : Type 0} → Outcome PlainValue → (A → State → Type 0) → (PlainValue → State → Type 0) → Outcome A → Type 0
Comes outcome next thrown (Gives a s) = next a s
Comes outcome next thrown (Throws v s) = thrown v s
Comes outcome next thrown (Spent s) = Spent s ≡ outcome
Comes outcome next thrown (Asks zone op s) = Asks zone op s ≡ outcome

-- what is given is so
abbrev pub Given : {A : Type 0} → (A → Type 0) → Outcome A → Type 0
Given is (Gives a s) = is a
Given is (Throws v s) = Unit {0}
Given is (Spent s) = Unit {0}
Given is (Asks zone op s) = Unit {0}

abbrev pub HasForm : Form → Reference → Type 0
HasForm IsValue r = (v : PlainValue) × (r ≡ Of v)
HasForm (IsName name) r = r ≡ Named name
HasForm IsMember r = (base : PlainValue) × (name : List ℕ) × (r ≡ Member base name)

-- so many operations stand in front of what stands behind
pub record Front (count : ℕ) (whole rest : List Op) : Type 0 where
  pub ops : List Op
  pub is : whole ≡ ops ++ rest
  pub length_is : length ops ≡ count

abbrev pub Writes : ℕ → Emits → Type 0
Writes count emit = (here : Here) (rest : List Op) → Front count (emit here rest) rest

-- what a part means leads from good states to good ones, in these scopes
abbrev pub Fine : Names → ℕ → Around → {A : Type 0} → Meaning A → Type 0
Fine env unit names m =
    (x : Context) (s : State) → CallsFare env x.calls → x.unit ≡ unit → Scoped names s.scopes x.scope.0 → Good env s → Fared env s (m x s)

-- the run of a function's code in a module, and how it ends
pub record Running (env : Names) (unit : ℕ) : Type 0 where
  pub frame : Frame
  pub code : List Op
  pub outcome : Outcome PlainValue
  pub fare : CallsFare env frame.calls
  pub unit_is : frame.unit ≡ unit

abbrev pub GoesOn : (env : Names) (unit : ℕ) → Running env unit → List Op → Stacks → State → Type 0
GoesOn env unit run rest st s = Runs (Good env) run.frame run.code run.outcome rest st s

abbrev pub GoesOut : (env : Names) (unit : ℕ) → Running env unit → Here → Ending → Stacks → State → Type 0
GoesOut env unit run here e st s = LeadsOut (Good env) run.frame run.code run.outcome here.around e st s

-- the code of a part runs as it means: behind it come the operands that stand for what it gives
abbrev pub RunsAs : Names → ℕ → Around → {A : Type 0} → (A → Type 0) → (A → List PlainValue) → Meaning A → Emits → Type 0
RunsAs env unit names is operands m emit =
    (run : Running env unit) (here : Here) (rest : List Op) (st : Stacks) (s : State)
    → here.names ≡ names → EndsWith run.code (emit here rest) → Stands env here st s
    → Comes run.outcome (λ a t. is a → GoesOn env unit run rest (with_operands st (operands a ++ st.operands)) t)
    (λ v t. GoesOut env unit run here (Thrown v) st t) (m (context run.frame st) s)
    → GoesOn env unit run (emit here rest) st s

-- an expression and its code
pub record ExpressionTied (env : Names) (unit : ℕ) (names : Around) (m : Expression) (c : Coded) : Type 0 where
  pub writes : Writes c.size c.target
  pub fine : Fine env unit names m
  pub forms : (x : Context) (s : State) → Given (HasForm c.form) (m x s)
  pub runs : RunsAs env unit names (HasForm c.form) operands_of m c.target

-- what follows a statement
abbrev pub Follows : (env : Names) (unit : ℕ) → Running env unit → Here → List Op → Stacks → Completion → State → Type 0
Follows env unit run here rest st Normal t = GoesOn env unit run rest st t
Follows env unit run here rest st c t = GoesOut env unit run here (Ended c) st t

-- the code of a statement runs as it means
abbrev pub RunsOn : Names → ℕ → Around → Meaning Completion → Emits → Type 0
RunsOn env unit names m emit =
    (run : Running env unit) (here : Here) (rest : List Op) (st : Stacks) (s : State)
    → here.names ≡ names → EndsWith run.code (emit here rest) → Stands env here st s
    → Comes run.outcome (Follows env unit run here rest st) (λ v t. GoesOut env unit run here (Thrown v) st t) (m (context run.frame st) s)
    → GoesOn env unit run (emit here rest) st s

-- a part of a statement and its code
pub record PartTied (env : Names) (unit : ℕ) (names : Around) (m : Meaning Completion) (c : CodedPart) : Type 0 where
  pub writes : Writes c.size c.emit
  pub fine : Fine env unit names m
  pub runs : RunsOn env unit names m c.emit

-- a statement and its code, with whatever labels before it
pub record StatementTied (env : Names) (unit : ℕ) (names : Around) (m : Statement) (c : CodedStatement) : Type 0 where
  pub with_labels : (labels : List (List ℕ)) → PartTied env unit names (m labels) (record { size = c.size; emit = c.emit labels })
