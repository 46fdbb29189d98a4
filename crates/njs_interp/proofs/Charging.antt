-- The operation that takes a tick.
use Rattle.std.proofs.Common.{◌≡◌, ℕ, ◌-◌, ◌<◌, ◌≤◌, List, true, false, cond, Result, Ok, Err, refl, sym, ap, ◌∙◌, subst, arith}
use Rattle.std.proofs.lemmas.Bool.{le-ltb, lt-ltb}
use Rattle.std.specs.Prelude.{OnOk, OnErr, nat_lt}
use Rattle.njs_shared.specs.Heap.{Heap}
use Rattle.njs_code.specs.declared.op.Kind.TheVariants as kind
use Rattle.njs_code.specs.declared.op.Op.{Op}
use Rattle.njs_code.specs.declared.code.FunctionCode.{FunctionCode}
use Rattle.njs_code.specs.Effects.{depth_next}
use Rattle.njs_meaning.specs.State.{State, Gives, Spent}
use Rattle.njs_convert.specs.declared.stop.Stop.{Stop}
use Rattle.njs_convert.specs.declared.stop.Stop.TheVariants.{Throw, Fuel, NoMemory}
use Rattle.njs_simul.specs.Stacks.{Frame}
use Rattle.njs_simul.specs.Step.{Goes, on, act}
use Rattle.njs_interp.specs.declared.stacks.Stacks.{Stacks}
use Rattle.njs_interp.specs.Plain.{plain_stacks}
use Rattle.njs_interp.specs.Sits.{Sits}
use Rattle.njs_interp.specs.Acts.{Acts}
use Rattle.njs_interp.specs.Tells.{Leaves}
use Rattle.njs_interp.proofs.Paying.{err_same}

pub charge_acts : (frame : Frame) (code rest : List Op) (texts : List (List ℕ)) (st : Stacks) (stands holds stopped : State → Type 0) (ticks left : ℕ) (r : Result (Unit {0}) Stop) (s : State) → s.ticks ≡ ticks
    → ((t : State) → stands t → holds t) → OnOk r ((1 ≤ ticks) × (left ≡ ticks - 1)) → OnErr r ((r ≡ Err Fuel) × (ticks < 1) × (left ≡ ticks)) → stands (record s { ticks = left })
    → Acts holds stopped texts rest (plain_stacks texts st) r (act frame code kind.Charge rest (plain_stacks texts st) s)
charge_acts frame code rest texts st stands holds stopped ticks left (Ok done) s own holds_of ok err here =
    let free : nat_lt s.ticks 1 ≡ false = le-ltb s.ticks 1 (omega (arith, ok.0, own)) in
    let taken : left ≡ s.ticks - 1 = ok.1 ∙ ap (λ n. n - 1) (sym own) in
    subst (λ b. Acts holds stopped texts rest (plain_stacks texts st) (Ok done) (on (cond b (Spent s) (Gives true (record s { ticks = s.ticks - 1 }))) (plain_stacks texts st) (λ paid t. Goes rest (plain_stacks texts st) t))) (sym free)
    (refl, refl, subst (λ n. holds (record s { ticks = n })) taken (holds_of (record s { ticks = left }) here))
charge_acts frame code rest texts st stands holds stopped ticks left (Err (Throw v)) s own holds_of ok err here = let same : Throw v ≡ Fuel = err_same (Throw v) Fuel (Err (Throw v)) (Err Fuel) refl refl err.0 in cc
charge_acts frame code rest texts st stands holds stopped ticks left (Err NoMemory) s own holds_of ok err here = let same : NoMemory ≡ Fuel = err_same NoMemory Fuel (Err NoMemory) (Err Fuel) refl refl err.0 in cc
charge_acts frame code rest texts st stands holds stopped ticks left (Err Fuel) s own holds_of ok err here =
    let short : nat_lt s.ticks 1 ≡ true = lt-ltb s.ticks 1 (omega (arith, err.1, own)) in
    let kept : left ≡ s.ticks = err.2 ∙ sym own in
    subst (λ b. Acts holds stopped texts rest (plain_stacks texts st) (Err Fuel) (on (cond b (Spent s) (Gives true (record s { ticks = s.ticks - 1 }))) (plain_stacks texts st) (λ paid t. Goes rest (plain_stacks texts st) t))) (sym short)
    (subst (λ n. holds (record s { ticks = n })) kept (holds_of (record s { ticks = left }) here))

pub charge_leaves : (f : FunctionCode) (op : Op) (h : Heap) (st : Stacks) (r : Result (Unit {0}) Stop) → Sits h f.slots (depth_next op.kind op.depth) st → (ticks left : ℕ) → OnErr r ((r ≡ Err Fuel) × (ticks < 1) × (left ≡ ticks)) → Leaves f op h st r
charge_leaves f op h st (Ok done) sits ticks left err = sits
charge_leaves f op h st (Err (Throw v)) sits ticks left err = let same : Throw v ≡ Fuel = err_same (Throw v) Fuel (Err (Throw v)) (Err Fuel) refl refl err.0 in cc
charge_leaves f op h st (Err Fuel) sits ticks left err = tt
charge_leaves f op h st (Err NoMemory) sits ticks left err = tt
