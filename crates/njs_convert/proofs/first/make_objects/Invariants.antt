use Rattle.std.proofs.Common.{◌≡◌, ◌+◌, true, drop, length}
use Rattle.std.specs.Prelude.{fold}
use Rattle.njs_clone.specs.StandsFor.{plain_objects}
use Rattle.njs_convert.specs.FirstRows.{made, rows_fit}
use Rattle.njs_convert.specs.Tells.{Grows}
use Rattle.njs_convert.proofs.first.make_objects.Given as goal

-- the rest of the rows gives what all rows give
abbrev pub invariant-loop-row : goal.invariant-loop-row
invariant-loop-row g l = record {
  made : fold made (plain_objects l.machine) (drop l.row-index l.rows) ≡ fold made (plain_objects l.fn.machine) l.rows;
  fit : rows_fit (length l.machine.objects) (drop l.row-index l.rows) ≡ true;
  count : length l.machine.objects ≡ length l.fn.machine.objects + l.row-index;
  scopes : l.machine.scopes ≡ l.fn.machine.scopes;
  grows : Grows l.fn.machine l.machine;
  steps : l.steps ≡ l.fn.steps + l.row-index;
}
