-- What takes no memory stores nothing.
use Rattle.std.proofs.Common.{◌≡◌, false, refl}
use Rattle.dict_model.specs.declared.operation.DictOp.{DictOp}
use Rattle.dict_model.specs.declared.operation.DictOp.TheVariants as ops
use Rattle.dict_model.specs.Operation.{TakesNoMemory, is_storing}

pub free_stores_nothing : (op : DictOp) → TakesNoMemory op → is_storing op ≡ false
free_stores_nothing (ops.Add key value) free = absurd free
free_stores_nothing (ops.Set key value) free = absurd free
free_stores_nothing (ops.Replace key value) free = absurd free
free_stores_nothing (ops.Incr key step initial) free = absurd free
free_stores_nothing _ free = refl
