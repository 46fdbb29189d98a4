-- Single operations and their sequences in a run.
use Rattle.std.proofs.Common.{◌≡◌, ℕ, suc, ◌+◌, ◌-◌, List, [], ◌∷◌, ◌++◌, length, Bool, true, false, Option, refl, ap, sym, subst, ◌∙◌, if◌then◌else◌, nat_lt}
use Rattle.std.proofs.lemmas.List.{length-append, append_assoc}
use Rattle.njs_code.specs.declared.op.Address.{Address}
use Rattle.njs_code.specs.declared.op.Kind.{Kind}
use Rattle.njs_code.specs.declared.op.Kind.TheVariants as kind
use Rattle.njs_code.specs.declared.op.Op.{Op}
use Rattle.njs_meaning.specs.Values.{PlainValue}
use Rattle.njs_meaning.specs.State.{State, Outcome, Gives, Spent}
use Rattle.njs_meaning.specs.Running.{charge, Runs as Meaning}
use Rattle.njs_meaning.specs.Places.{Around}
use Rattle.njs_simul.specs.Stacks.{Ending, Thrown, Stacks, context, with_operands, push, inner}
use Rattle.njs_simul.specs.Step.{Action, Goes, act, on}
use Rattle.njs_simul.specs.Emission.{Here, Emits, op, deeper, begun}
use Rattle.njs_simul.specs.Fits.{Names, Good, Fares}
use Rattle.njs_simul.specs.Laws.{Stands, EndsWith, Comes, Front, Writes, Running, GoesOn, GoesOut, RunsAs}
use Rattle.njs_simul.proofs.Kept.{scoped_keeps}
use Rattle.njs_simul.proofs.Runs.{behind, next, on_it, some_on, Over, leads_over, Does, by_op, on_does}

-- ---- what stands in front

pub front_none : (rest : List Op) → Front 0 rest rest
front_none rest = record { ops = []; is = refl; length_is = refl }

pub front_op : (count : ℕ) (o : Op) (whole rest : List Op) → Front count whole rest → Front (suc count) (o ∷ whole) rest
front_op count o whole rest f = record { ops = o ∷ f.ops; is = ap (λ xs. o ∷ xs) f.is; length_is = ap suc f.length_is }

pub front_then : (n m : ℕ) (whole middle rest : List Op) → Front n whole middle → Front m middle rest → Front (n + m) whole rest
front_then n m whole middle rest f g = record {
  ops = f.ops ++ g.ops;
  is = f.is ∙ ap (λ xs. f.ops ++ xs) g.is ∙ sym (append_assoc f.ops g.ops rest);
  length_is = length-append f.ops g.ops ∙ ap (λ k. k + length g.ops) f.length_is ∙ ap (λ k. n + k) g.length_is;
}

pub front_count : (n m : ℕ) (whole rest : List Op) → n ≡ m → Front n whole rest → Front m whole rest
front_count n m whole rest same f = record { ops = f.ops; is = f.is; length_is = f.length_is ∙ same }

pub front_length : (count : ℕ) (whole rest : List Op) → Front count whole rest → length whole ≡ count + length rest
front_length count whole rest f = ap length f.is ∙ length-append f.ops rest ∙ ap (λ k. k + length rest) f.length_is

pub behind_front : (count : ℕ) (code whole rest : List Op) → Front count whole rest → EndsWith code whole → EndsWith code rest
behind_front count code whole rest f e = behind code f.ops rest (e.0, e.1 ∙ ap (λ xs. e.0 ++ xs) f.is)

-- ---- what stands

pub stands_kept : (env : Names) (here : Here) (st : Stacks) (s t : State) → Stands env here st s → Fares env s t → Stands env here st t
stands_kept env here st s t h f = record {
  operands = h.operands;
  scopes = h.scopes;
  lists = h.lists;
  endings = h.endings;
  scoped = scoped_keeps here.names (inner st.scopes) h.scoped f.keeps;
  good = f.good;
}

pub stands_push : (env : Names) (here : Here) (st : Stacks) (s : State) (v : PlainValue) → Stands env here st s → Stands env (deeper 1 here) (push v st) s
stands_push env here st s v h = record {
  operands = ap suc h.operands;
  scopes = h.scopes;
  lists = h.lists;
  endings = h.endings;
  scoped = h.scoped;
  good = h.good;
}

-- in another part of the code
pub stands_in : (env : Names) (here : Here) (around : Option Address) (st : Stacks) (s : State) → Stands env here st s → Stands env (record here { around = around }) st s
stands_in env here around st s h = record {
  operands = h.operands;
  scopes = h.scopes;
  lists = h.lists;
  endings = h.endings;
  scoped = h.scoped;
  good = h.good;
}

-- with fewer ticks
abbrev pub paid : ℕ → State → State
paid n s = record s { ticks = s.ticks - n }

pub stands_paid : (env : Names) (n : ℕ) (here : Here) (st : Stacks) (s : State) → Stands env here st s → Stands env here st (paid n s)
stands_paid env n here st s h = record {
  operands = h.operands;
  scopes = h.scopes;
  lists = h.lists;
  endings = h.endings;
  scoped = h.scoped;
  good = record { each = h.good.each };
}

-- ---- more on top

pub over_it : (st : Stacks) → Over st st
over_it st = record { operands = on_it st.operands; scopes = on_it st.scopes; lists = on_it st.lists; endings = on_it st.endings }

pub over_some : (vs : List PlainValue) (st : Stacks) → Over st (with_operands st (vs ++ st.operands))
over_some vs st = record { operands = some_on vs st.operands; scopes = on_it st.scopes; lists = on_it st.lists; endings = on_it st.endings }

module _ (env : Names) (unit : ℕ) (run : Running env unit) where
  pub out_over : (here : Here) (e : Ending) (low all : Stacks) (s : State) → Over low all → GoesOut env unit run here e low s → GoesOut env unit run here e all s
  out_over here e low all s more out = leads_over (Good env) run.frame run.code run.outcome here.around e low all s more out

  abbrev pub Acts : Here → Action → Type 0
  Acts here a = Does (Good env) run.frame run.code run.outcome here.around a

  pub step : (k : Kind) (here : Here) (rest : List Op) (st : Stacks) (s : State) → Good env s → Acts here (act run.frame run.code k rest st s) → GoesOn env unit run (op k here rest) st s
  step k here rest st s g d = by_op (Good env) run.frame run.code run.outcome k here rest st s g d

  -- an operation that asks for an outcome
  pub asks : {A : Type 0} (here : Here) (r : Outcome A) (st low : Stacks) (go : A → State → Action) → Over low st
      → Comes run.outcome (λ a t. Acts here (go a t)) (λ v t. GoesOut env unit run here (Thrown v) low t) r → Acts here (on r st go)
  asks here r st low go more d = on_does (Good env) run.frame run.code run.outcome here.around r st low go more d

  -- a jump
  pub lands : (rest : List Op) (st : Stacks) (s : State) → EndsWith run.code rest → GoesOn env unit run rest st s
      → (code : List Op) → code ≡ rest → GoesOn env unit run code st s
  lands rest st s e r code is = subst (λ c. GoesOn env unit run c st s) (sym is) r

  -- one tick
  charged : {A : Type 0} (b : Bool) (here : Here) (rest : List Op) (st : Stacks) (s t : State) (goal : A → State → Type 0) (thrown : PlainValue → State → Type 0) (r : Outcome A)
      → (Comes run.outcome goal thrown r → GoesOn env unit run rest st t)
      → Comes run.outcome goal thrown (if b then Spent s else r) → Acts here (on (if b then Spent s else Gives true t) st (λ done s. Goes rest st s))
  charged true here rest st s t goal thrown r go c = c
  charged false here rest st s t goal thrown r go c = go c

  pub charges : {A : Type 0} (here : Here) (rest : List Op) (st : Stacks) (s : State) (goal : A → State → Type 0) (thrown : PlainValue → State → Type 0) (r : State → Outcome A)
      → Good env s → (Comes run.outcome goal thrown (r (paid 1 s)) → GoesOn env unit run rest st (paid 1 s))
      → Comes run.outcome goal thrown (charge 1 r s) → GoesOn env unit run (op kind.Charge here rest) st s
  charges here rest st s goal thrown r g go c =
      step kind.Charge here rest st s g (charged (nat_lt s.ticks 1) here rest st s (paid 1 s) goal thrown (r (paid 1 s)) go c)

-- a part that takes a tick as it begins
pub begun_runs : (env : Names) (unit : ℕ) (names : Around) {A : Type 0} (is : A → Type 0) (operands : A → List PlainValue) (m : Meaning A) (emit : Emits)
    → RunsAs env unit names is operands m emit → RunsAs env unit names is operands (λ x s. charge 1 (m x) s) (begun emit)
begun_runs env unit names is operands m emit r run here rest st s same ends stands c =
    charges env unit run here (emit here rest) st s _ _ (m (context run.frame st)) stands.good
    (λ c. r run here rest st (paid 1 s) same (next run.code _ (emit here rest) ends) (stands_paid env 1 here st s stands) c) c

pub begun_writes : (count : ℕ) (emit : Emits) → Writes count emit → Writes (suc count) (begun emit)
begun_writes count emit w here rest = front_op count _ (emit here rest) rest (w here rest)
