use Rattle.std.proofs.Common.{◌≡◌, ◌≤◌}
use Rattle.njs_meaning.specs.Replies.{Known}
use Rattle.njs_meaning.specs.Running.{Calls}
use Rattle.njs_interp.specs.Grown.{Widens}
use Rattle.njs_interp.specs.Leading.{SitsAt}
use Rattle.njs_interp.specs.Turning.{RanTo}
use Rattle.njs_interp.proofs.Running.{left_of}
use Rattle.njs_interp.proofs.code_run.run_code.Given as goal

-- every run of the code is at a place, with all that the operation there counts on
abbrev pub invariant-loop-to : goal.invariant-loop-to
invariant-loop-to g l = record {
  sits : SitsAt l.function l.machine l.stacks l.place;
  ran : (k : Known) → RanTo k.around (g.C.Caller.follows l.fn.caller k) (g.C.Caller.agrees l.caller k) (g.C.Caller.stands l.fn.caller k l.fn.machine) (g.C.Caller.stands l.caller k l.machine) l.call.unit l.call.this l.call.args.now l.function.ops l.fn.scope.0 l.fn.machine l.machine l.stacks l.place;
  kept : (calls : Calls) (k : Known) → g.C.Caller.follows l.fn.caller k calls → g.C.Caller.follows l.caller k calls;
  agrees : (k : Known) → g.C.Caller.agrees l.caller k → g.C.Caller.agrees l.fn.caller k;
  may : g.C.Caller.may_call l.caller;
  fits : g.C.Caller.fits l.caller l.machine;
  same : g.C.Caller.lent l.caller ≡ g.C.Caller.lent l.fn.caller;
  spent : g.C.Caller.ticks_of l.caller ≤ g.C.Caller.ticks_of l.fn.caller;
  widens : Widens l.fn.machine l.machine;
  steps : l.fn.steps ≤ l.steps;
}

abbrev pub decreases-loop-to : goal.decreases-loop-to
decreases-loop-to g l = left_of l.function.ops (g.C.Caller.ticks_of l.caller) l.place
