-- The top of a stack, put also further down.
use Rattle.std.proofs.Common.{◌≡◌, ℕ, zero, suc, ◌<◌, ◌≤◌, List, [], ◌∷◌, ◌++◌, length, map, take, drop, Ok, ap, refl, sym, ◌∙◌, subst, arith}
use Rattle.std.specs.List.{AllByRecursion}
use Rattle.njs_value.specs.declared.Value.{Value}
use Rattle.njs_shared.specs.Heap.{Heap, sizes}
use Rattle.njs_shared.specs.Fits.{FitsValue}
use Rattle.njs_clone.specs.Content.{content}
use Rattle.njs_code.specs.declared.op.Kind.TheVariants as kind
use Rattle.njs_code.specs.declared.op.Op.{Op}
use Rattle.njs_code.specs.declared.code.FunctionCode.{FunctionCode}
use Rattle.njs_code.specs.Effects.{depth_next, operands_taken, scopes_taken, lists_taken, endings_taken, operands_given, scopes_given, lists_given, endings_given}
use Rattle.njs_simul.specs.Stacks.{with_operands}
use Rattle.njs_simul.specs.Step.{Goes, on_top}
use Rattle.njs_interp.specs.declared.stacks.Stacks.{Stacks}
use Rattle.njs_interp.specs.Plain.{plain_stacks}
use Rattle.njs_interp.specs.Sits.{Sits, Ready}
use Rattle.njs_interp.specs.Acts.{OnHeap, Unanswered, Acts}
use Rattle.njs_interp.specs.Tells.{ActsOnHeap}
use Rattle.njs_interp.specs.Tucked.{tucked}
use Rattle.njs_interp.proofs.Kept.{OnHeap-refl}

map_under : {A B : Type 0} (f : A → B) (n : ℕ) (x : A) (xs : List A) → map f (take n xs ++ x ∷ drop n xs) ≡ take n (map f xs) ++ f x ∷ drop n (map f xs)
map_under f zero x xs = refl
map_under f (suc n) x [] = refl
map_under f (suc n) x (y ∷ ys) = ap (λ l. f y ∷ l) (map_under f n x ys)

length_under : {A : Type 0} (n : ℕ) (x : A) (xs : List A) → length (take n xs ++ x ∷ drop n xs) ≡ suc (length xs)
length_under zero x xs = refl
length_under (suc n) x [] = refl
length_under (suc n) x (y ∷ ys) = let rest = length_under n x ys in omega arith

all_under : {A : Type 0} (P : A → Type 0) (n : ℕ) (x : A) (xs : List A) → P x → AllByRecursion P xs → AllByRecursion P (take n xs ++ x ∷ drop n xs)
all_under P zero x xs here all = (here, all)
all_under P (suc n) x [] here all = (here, tt)
all_under P (suc n) x (y ∷ ys) here all = (all.0, all_under P n x ys here all.1)

pub tuck-there : (functions : List FunctionCode) (f : FunctionCode) (op : Op) (h : Heap) (st : Stacks) (under : ℕ) → op.kind ≡ kind.Tuck under → Ready functions f op h st → under < length st.operands
unfolding operands_taken
tuck-there functions f op h st under is ready =
    let enough : operands_taken (kind.Tuck under) ≤ op.depth.operands = subst (λ k. operands_taken k ≤ op.depth.operands) is ready.operands in
    omega (arith, enough, ready.sits.operands)

pub tuck-told : (h : Heap) (before : Stacks) (under : ℕ) (top : Value) (below vs : List Value) → before.operands ≡ top ∷ below → vs ≡ tucked under top below
    → ActsOnHeap (kind.Tuck under) h h before (record before { operands = vs }) (Ok tt)
tuck-told h before under top below vs is more = record {
  by = λ frame code rest s stands.
      let after : tucked under (content h.texts top) (map (content h.texts) below) ≡ map (content h.texts) vs =
      ap (λ l. content h.texts top ∷ l) (sym (map_under (content h.texts) under top below)) ∙ ap (map (content h.texts)) (sym more)
      in
      subst (λ (all : List Value). Acts (OnHeap h s) (Unanswered s) h.texts rest (plain_stacks h.texts (record before { operands = vs })) (Ok tt)
      (on_top (map (content h.texts) all) (λ v ws. Goes rest (with_operands (plain_stacks h.texts before) (v ∷ take under ws ++ v ∷ drop under ws)) s))) (sym is)
      (refl, ap (with_operands (plain_stacks h.texts before)) after, OnHeap-refl h s stands);
}

pub tuck-sits : (f : FunctionCode) (op : Op) (h : Heap) (before : Stacks) (under : ℕ) (top : Value) (below vs : List Value) → op.kind ≡ kind.Tuck under → before.operands ≡ top ∷ below → vs ≡ tucked under top below
    → under < length before.operands → Sits h f.slots op.depth before → Sits h f.slots (depth_next op.kind op.depth) (record before { operands = vs })
unfolding operands_taken scopes_taken lists_taken endings_taken operands_given scopes_given lists_given endings_given
tuck-sits f op h before under top below vs kind is more enough sits =
    let all : AllByRecursion (FitsValue (sizes h)) (top ∷ below) = subst (AllByRecursion (FitsValue (sizes h))) is sits.values in
    subst (λ k. Sits h f.slots (depth_next k op.depth) (record before { operands = vs })) (sym kind) (record {
      operands = omega (arith, sits.operands, ap length is, ap length more, length_under under top below, enough);
      scopes = omega (arith, sits.scopes);
      lists = omega (arith, sits.lists);
      endings = omega (arith, sits.endings);
      values = subst (AllByRecursion (FitsValue (sizes h))) (sym more) (all.0, all_under (FitsValue (sizes h)) under top below all.0 all.1);
      listed = sits.listed;
      ended = sits.ended;
      entered = sits.entered;
    })
