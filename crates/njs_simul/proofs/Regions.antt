-- Parts of the code that an operation ends: an ending is taken there, or goes further out.
use Rattle.std.proofs.Common.{◌≡◌, ℕ, List, Some, None, ap, ◌∙◌}
use Rattle.njs_code.specs.declared.op.Kind.{Kind}
use Rattle.njs_code.specs.declared.op.Op.{Op}
use Rattle.njs_meaning.specs.Values.{PlainValue}
use Rattle.njs_meaning.specs.State.{State}
use Rattle.njs_meaning.specs.Running.{Runs as Meaning}
use Rattle.njs_meaning.specs.Places.{Around}
use Rattle.njs_meaning.specs.Completions.{Completion}
use Rattle.njs_simul.specs.Stacks.{Ending, Thrown, Stacks, context, cut_to, Within}
use Rattle.njs_simul.specs.Step.{taken}
use Rattle.njs_simul.specs.Runs.{taken_up, passed_by}
use Rattle.njs_simul.specs.Emission.{Here, op, address, inside}
use Rattle.njs_simul.specs.EmissionOfStatements.{CodedPart}
use Rattle.njs_simul.specs.Fits.{Names, Fares}
use Rattle.njs_simul.specs.Laws.{Stands, EndsWith, Comes, Running, GoesOn, GoesOut, Follows, PartTied}
use Rattle.njs_simul.proofs.Runs.{found, cut_all, within_all}
use Rattle.njs_simul.proofs.Steps.{behind_front, stands_in}
use Rattle.njs_simul.proofs.Statements.{comes_both, part_fared}

module _ (env : Names) (unit : ℕ) (run : Running env unit) (here : Here) (k : Kind) (tail : List Op) (st : Stacks) (s : State) (stands : Stands env here st s) (ends : EndsWith run.code (op k here tail)) (e : Ending) where
  abbrev end : List Op
  end = op k here tail

  cut : cut_to here.depth st ≡ st
  cut = cut_all here.depth st stands.operands stands.scopes stands.lists stands.endings

  within : Within here.depth st
  within = within_all here.depth st stands.operands stands.scopes stands.lists stands.endings

  pub takes : (after_code : List Op) (after : Stacks) → taken run.frame run.code k tail e st ≡ Some (after_code, after) → GoesOn env unit run after_code after s → GoesOut env unit run (inside end here) e st s
  takes after_code after is r =
      taken_up (address end) (record { kind = k; depth = here.depth; around = here.around }) tail e st s after_code after (found run.frame run.code end ends) within
      (ap (λ st. taken run.frame run.code k tail e st) cut ∙ is) r

  pub passes : taken run.frame run.code k tail e st ≡ None → GoesOut env unit run here e st s → GoesOut env unit run (inside end here) e st s
  passes is out =
      passed_by (address end) (record { kind = k; depth = here.depth; around = here.around }) tail e st s (found run.frame run.code end ends) within
      (ap (λ st. taken run.frame run.code k tail e st) cut ∙ is) out

-- a part there, and what follows each of its endings
pub part_in : (env : Names) (unit : ℕ) (names : Around) (m : Meaning Completion) (c : CodedPart) → PartTied env unit names m c → (run : Running env unit) (here : Here) (end middle : List Op) (st : Stacks) (s : State)
    → here.names ≡ names → Stands env here st s → EndsWith run.code (c.emit (inside end here) middle) → (goal : Completion → State → Type 0) (thrown : PlainValue → State → Type 0)
    → ((d : Completion) (t : State) → EndsWith run.code middle → Fares env s t → goal d t → Follows env unit run (inside end here) middle st d t)
    → ((v : PlainValue) (t : State) → EndsWith run.code middle → Fares env s t → thrown v t → GoesOut env unit run (inside end here) (Thrown v) st t)
    → Comes run.outcome goal thrown (m (context run.frame st) s) → GoesOn env unit run (c.emit (inside end here) middle) st s
part_in env unit names m c tied run here end middle st s same stands ends goal thrown go out d =
    let ends_middle = behind_front c.size run.code (c.emit (inside end here) middle) middle (tied.writes (inside end here) middle) ends in
    let stands_in_it = stands_in env here (Some (address end)) st s stands in
    tied.runs run (inside end here) middle st s same ends stands_in_it
    (comes_both env run.outcome s (m (context run.frame st) s) goal (Follows env unit run (inside end here) middle st) thrown (λ v t. GoesOut env unit run (inside end here) (Thrown v) st t)
    (part_fared env unit names m c tied run (inside end here) st s same stands_in_it)
    (λ a t fares g. go a t ends_middle fares g) (λ v t fares g. out v t ends_middle fares g) d)
