-- What runs do to the replies of dictionaries: only a call on one takes a reply, and it is the next.
use Rattle.std.specs.Prelude.{◌≡◌, ℕ, List, Bool, map}
use Rattle.njs_tree.specs.declared.tree.Script.{Script}
use Rattle.njs_value.specs.declared.Row.{Row}
use Rattle.dict_model.specs.declared.operation.DictOp.{DictOp}
use Rattle.dict_model.specs.declared.operation.DictReply.{DictReply}
use Rattle.njs_code.specs.declared.op.Op.{Op}
use Rattle.njs_meaning.specs.Values.{PlainValue}
use Rattle.njs_meaning.specs.State.{State, Outcome}
use Rattle.njs_meaning.specs.Running.{Calls, ask}
use Rattle.njs_meaning.specs.Places.{Bindings}
use Rattle.njs_meaning.specs.Functions.{Program, calls_at}
use Rattle.njs_meaning.specs.Meaning as means
use Rattle.njs_meaning.specs.Replies.{Replies, HasReplies, IsExhausted, state_of}
use Rattle.njs_simul.specs.Stacks.{Stacks, Frame}
use Rattle.njs_simul.specs.Runs.{Runs}
use Rattle.njs_simul.specs.Fits.{Names, Good, CallsFare}
use Rattle.njs_simul.specs.Program.{names_in, AnswersFare}

-- where no reply is still to come, no call on a dictionary is answered, and none comes
abbrev pub Quiet : State → State → Type 0
Quiet s t = IsExhausted s → (t.asked ≡ s.asked) × IsExhausted t

-- the replies given and those still to come stay the same together
abbrev pub KeepsReplies : State → State → Type 0
KeepsReplies s t = (replies : Replies) → HasReplies replies s → HasReplies replies t

-- a relation between the state before and the one after
module _ (R : State → State → Type 0) where
  -- from good states calls end so
  pub record CallsEnd (env : Names) (calls : Calls) : Type 0 where
    pub call : (f this : PlainValue) (args : List PlainValue) (s : State) → Good env s → R s (state_of (calls.call f this args s))
    pub construct : (f : PlainValue) (args : List PlainValue) (s : State) → Good env s → R s (state_of (calls.construct f args s))

  -- a call on a dictionary ends so where what follows its reply does
  abbrev pub AsksEnd : Type 0
  AsksEnd =
      (zone : ℕ) (op : DictOp) (go : DictReply → State → Outcome PlainValue) (s : State)
      → ((reply : DictReply) (t : State) → R t (state_of (go reply t))) → R s (state_of (ask zone op go s))

  -- and what built-in functions answer, where the calls that they make do
  abbrev pub AnswersEnd : Names → Program → Type 0
  AnswersEnd env program =
      (calls : Calls) → CallsFare env calls → CallsEnd env calls
      → (row : Row) (this : PlainValue) (args : List PlainValue) (by_new : Bool) (s : State) → Good env s → R s (state_of (program.answers calls row this args by_new s))

  -- a run of code ends so where the calls in it do
  abbrev pub RunsEnd : Type 0
  RunsEnd =
      (env : Names) (frame : Frame) (code : List Op) (outcome : Outcome PlainValue) (rest : List Op) (st : Stacks) (s : State)
      → CallsFare env frame.calls → CallsEnd env frame.calls → Runs (Good env) frame code outcome rest st s → R s (state_of outcome)

  -- calls of a program of scripts do, however many may be active
  abbrev pub ProgramEnds : Type 0
  ProgramEnds =
      (scripts : List Script) (outermost : Bindings) (program : Program) → program.functions ≡ map means.functions_of scripts
      → AnswersFare (names_in scripts outermost) program → AnswersEnd (names_in scripts outermost) program
      → (n : ℕ) → CallsEnd (names_in scripts outermost) (calls_at program n)

-- the same from every state, whatever scopes its functions stand in
module _ (R : State → State → Type 0) where
  pub record CallsAlwaysEnd (calls : Calls) : Type 0 where
    pub call : (f this : PlainValue) (args : List PlainValue) (s : State) → R s (state_of (calls.call f this args s))
    pub construct : (f : PlainValue) (args : List PlainValue) (s : State) → R s (state_of (calls.construct f args s))

  -- what built-in functions answer, where the calls that they make do
  abbrev pub AnswersAlwaysEnd : Program → Type 0
  AnswersAlwaysEnd program =
      (calls : Calls) → CallsAlwaysEnd calls
      → (row : Row) (this : PlainValue) (args : List PlainValue) (by_new : Bool) (s : State) → R s (state_of (program.answers calls row this args by_new s))

  -- the body of a module, where the calls in it do
  abbrev pub ModulesAlwaysEnd : Type 0
  ModulesAlwaysEnd = (calls : Calls) → CallsAlwaysEnd calls → (unit : ℕ) (script : Script) (s : State) → R s (state_of (means.run_module calls unit script s))

  -- calls of a program of scripts, however many may be active
  abbrev pub ProgramAlwaysEnds : Type 0
  ProgramAlwaysEnds =
      (scripts : List Script) (program : Program) → program.functions ≡ map means.functions_of scripts → AnswersAlwaysEnd program → (n : ℕ) → CallsAlwaysEnd (calls_at program n)

  abbrev pub AlwaysEnds : Type 0
  AlwaysEnds = ProgramAlwaysEnds × ModulesAlwaysEnd

-- a predicate of states that stays where the dictionaries, and the calls on them that were answered, do
abbrev pub SaysOfDictionaries : (State → Type 0) → Type 0
SaysOfDictionaries P = (s t : State) → t.zones ≡ s.zones → t.asked ≡ s.asked → P s → P t

-- where it holds before, it holds after
abbrev pub Holding : (State → Type 0) → State → State → Type 0
Holding P s t = P s → P t

-- calls and modules keep it, where built-in functions do, from every state
abbrev pub KeepsEverywhere : (State → Type 0) → Type 0
KeepsEverywhere P = AlwaysEnds (Holding P)

-- once no reply is still to come, nothing is answered any more
abbrev pub NothingMore : Type 0
NothingMore = AsksEnd Quiet × RunsEnd Quiet × ProgramEnds Quiet × AlwaysEnds Quiet

-- the replies of a run are known from its start
abbrev pub RepliesStay : Type 0
RepliesStay = AsksEnd KeepsReplies × RunsEnd KeepsReplies × ProgramEnds KeepsReplies × AlwaysEnds KeepsReplies
