-- What a joined text costs.
use Rattle.std.proofs.Common.{◌≡◌, ℕ, ◌-◌, ◌<◌, ◌≤◌, List, ◌++◌, length, Bool, true, false, cond, Result, Ok, Err, refl, sym, ap, ◌∙◌, subst, arith}
use Rattle.std.proofs.lemmas.Bool.{le-leb, le-ltb, lt-ltb}
use Rattle.std.specs.Prelude.{OnOk, OnErr, nat_lt, ◌||◌}
use Rattle.njs_tree.specs.declared.tree.BinaryOp.TheVariants as op
use Rattle.njs_shared.specs.Heap.{Sizes}
use Rattle.njs_meaning.specs.Primitives.{Primitive, Characters}
use Rattle.njs_meaning.specs.Values.{PlainValue, Simple}
use Rattle.njs_meaning.specs.Numbers.{text_of}
use Rattle.njs_meaning.specs.Operators.{Answer, binary_of, is_text}
use Rattle.njs_meaning.specs.State.{State, Gives, Spent}
use Rattle.njs_meaning.specs.Running.{one_and}
use Rattle.njs_meaning.specs.Operations.{answered, paid}
use Rattle.njs_convert.specs.declared.stop.Stop.{Stop}
use Rattle.njs_convert.specs.declared.stop.Stop.TheVariants.{Throw, Fuel, NoMemory}
use Rattle.njs_convert.specs.Tells.{Tells, FitsAnswer}
use Rattle.njs_interp.specs.Alone.{Pays, ThrowsNothing}
use Rattle.njs_interp.proofs.Meanings.{sum_texts}
use Rattle.njs_interp.proofs.Stopping.{paid_keeps}

-- what wasn't paid ends the operator
pub unpaid_tells : {V : Type 0} (stands stopped : State → Type 0) (stops : (s : State) → stands s → stopped s) (same : (s t : State) → t.zones ≡ s.zones → t.asked ≡ s.asked → stopped s → stopped t)
    (texts : List (List ℕ)) (shows : V → PlainValue → Type 0) (left : ℕ) (stop : Stop) (a : Answer) (s : State) → Pays stands left (Err stop) a s → Tells stands stopped texts shows (Err stop) (paid a s)
unpaid_tells stands stopped stops same texts shows left (Throw v) a s pays = absurd pays
unpaid_tells stands stopped stops same texts shows left Fuel a s pays = subst (Tells stands stopped texts shows (Err Fuel)) (sym pays.0) pays.1
unpaid_tells stands stopped stops same texts shows left NoMemory a s pays = paid_keeps stopped same a s (stops s pays)

pub nothing_fits : {V : Type 0} (fits : V → Type 0) (n : Sizes) (stop : Stop) → ThrowsNothing {V = Unit {0}} (Err stop) → FitsAnswer fits n (Err stop)
nothing_fits fits n (Throw v) nothing = absurd nothing
nothing_fits fits n Fuel nothing = tt
nothing_fits fits n NoMemory nothing = tt

-- the joined text is no longer than a text may be
pub joined_is : (p q : Primitive) (n : ℕ) → (is_text p || is_text q) ≡ true → n ≡ length (text_of p ++ text_of q) → n ≤ 1048576 → binary_of op.Add p q ≡ Ok (Characters (text_of p ++ text_of q))
joined_is p q n some long few = sum_texts p q true some (le-leb (length (text_of p ++ text_of q)) 1048576 (omega arith))

pub err_same : (a b : Stop) (r s : Result (Unit {0}) Stop) → r ≡ Err a → s ≡ Err b → r ≡ s → a ≡ b
err_same a b r s first second is = cc

-- a charge that was paid, or wasn't
pub pays_charged : (after : State → Type 0) (left n ticks : ℕ) (r : Result (Unit {0}) Stop) (a : Answer) (text : List ℕ) (s : State) → a ≡ Ok (Characters text) → n ≡ one_and (length text) 64 → s.ticks ≡ ticks
    → OnOk r ((n ≤ ticks) × (left ≡ ticks - n)) → OnErr r ((r ≡ Err Fuel) × (ticks < n) × (left ≡ ticks)) → after (record s { ticks = left }) → Pays after left r a s
pays_charged after left n ticks (Ok done) a text s is cost own ok err here =
    let free : nat_lt s.ticks (one_and (length text) 64) ≡ false = le-ltb s.ticks (one_and (length text) 64) (omega (arith, ok.0, cost, own)) in
    let taken : s.ticks - one_and (length text) 64 ≡ left = omega (arith, ok.1, cost, own) in (
      ap (λ b. paid b s) is
          ∙ ap (λ b. cond b (Spent s) (Gives (Simple (Characters text)) (record s { ticks = s.ticks - one_and (length text) 64 }))) free
          ∙ ap (λ t. Gives (Simple (Characters text)) (record s { ticks = t })) taken
          ∙ sym (ap (λ b. answered b (record s { ticks = left })) is),
      here,
    )
pays_charged after left n ticks (Err (Throw v)) a text s is cost own ok err here = let same : Throw v ≡ Fuel = err_same (Throw v) Fuel (Err (Throw v)) (Err Fuel) refl refl err.0 in cc
pays_charged after left n ticks (Err NoMemory) a text s is cost own ok err here = let same : NoMemory ≡ Fuel = err_same NoMemory Fuel (Err NoMemory) (Err Fuel) refl refl err.0 in cc
pays_charged after left n ticks (Err Fuel) a text s is cost own ok err here =
    let short : nat_lt s.ticks (one_and (length text) 64) ≡ true = lt-ltb s.ticks (one_and (length text) 64) (omega (arith, err.1, cost, own)) in
    let kept : left ≡ s.ticks = err.2 ∙ sym own in (
      ap (λ b. paid b s) is
          ∙ ap (λ b. cond b (Spent s) (Gives (Simple (Characters text)) (record s { ticks = s.ticks - one_and (length text) 64 }))) short,
      subst (λ t. after (record s { ticks = t })) kept here,
    )

-- one of two is true
pub or_left : (a b : Bool) → a ≡ true → (a || b) ≡ true
or_left true b is = refl
or_left false b is = cc

pub or_right : (a b : Bool) → b ≡ true → (a || b) ≡ true
or_right true b is = refl
or_right false b is = is
