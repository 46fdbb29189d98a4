-- How runs are put together.
use Rattle.std.proofs.Common.{◌≡◌, ℕ, ◌+◌, ◌-◌, ◌≤◌, List, [], ◌∷◌, ◌++◌, length, drop, Option, Some, None, refl, ap, sym, subst, ◌∙◌, arith}
use Rattle.std.proofs.lemmas.List.{length-append, append_assoc}
use Rattle.std.proofs.Math.Seq.{drop-append_seam, drop-append-add}
use Rattle.njs_code.specs.declared.op.Address.{Address}
use Rattle.njs_code.specs.declared.op.Depth.{Depth}
use Rattle.njs_code.specs.declared.op.Kind.{Kind}
use Rattle.njs_code.specs.declared.op.Op.{Op}
use Rattle.njs_meaning.specs.Values.{PlainValue}
use Rattle.njs_meaning.specs.State.{State, Outcome, Gives, Throws, Spent, Asks, and_then}
use Rattle.njs_simul.specs.Stacks.{Ending, Thrown, Stacks, Frame, push, lowest, cut_to, Within}
use Rattle.njs_simul.specs.Step.{Action, Goes, Ends, Leads, Stuck, act, taken, from, on}
use Rattle.njs_simul.specs.Runs.{Runs, LeadsOut, goes, ends, leads, over, taken_up, passed_by}
use Rattle.njs_simul.specs.Emission.{Here, op}
use Rattle.njs_simul.specs.Fits.{Names, Fared, Fares}
use Rattle.njs_simul.specs.Laws.{EndsWith, Comes}

-- ---- ends of the code

last_of : {A : Type 0} (front rest : List A) → drop (length (front ++ rest) - length rest) (front ++ rest) ≡ rest
last_of front rest =
    let count : length (front ++ rest) - length rest ≡ length front = (let both : length (front ++ rest) ≡ length front + length rest = length-append front rest in omega (arith, both)) in
    ap (λ n. drop n (front ++ rest)) count ∙ drop-append_seam front rest

pub found : (frame : Frame) (code rest : List Op) → EndsWith code rest → from frame code (length rest) ≡ rest
found frame code rest e = subst (λ c. drop (length c - length rest) c ≡ rest) (sym e.1) (last_of e.0 rest)

-- what stands behind
pub behind : (code front rest : List Op) → EndsWith code (front ++ rest) → EndsWith code rest
behind code front rest e = (e.0 ++ front, e.1 ∙ sym (append_assoc e.0 front rest))

pub next : (code : List Op) (o : Op) (rest : List Op) → EndsWith code (o ∷ rest) → EndsWith code rest
next code o rest e = behind code (o ∷ []) rest e

-- ---- more on top

pub record OnTop {A : Type 0} (low all : List A) : Type 0 where
  pub front : List A
  pub is : all ≡ front ++ low

pub on_it : {A : Type 0} (xs : List A) → OnTop xs xs
on_it xs = record { front = []; is = refl }

pub one_on : {A : Type 0} (x : A) (xs : List A) → OnTop xs (x ∷ xs)
one_on x xs = record { front = x ∷ []; is = refl }

pub some_on : {A : Type 0} (front xs : List A) → OnTop xs (front ++ xs)
some_on front xs = record { front = front; is = refl }

pub record Over (low all : Stacks) : Type 0 where
  pub operands : OnTop low.operands all.operands
  pub scopes : OnTop low.scopes all.scopes
  pub lists : OnTop low.lists all.lists
  pub endings : OnTop low.endings all.endings

lowest_on : {A : Type 0} (n : ℕ) (low all : List A) → n ≤ length low → OnTop low all → lowest n all ≡ lowest n low
lowest_on n low all fits more =
    let same : length more.front + length low ≡ length (more.front ++ low) = sym (length-append more.front low) in
    let count : length (more.front ++ low) - n ≡ length more.front + (length low - n) = omega (arith, same, fits) in
    subst (λ xs. lowest n xs ≡ lowest n low) (sym more.is)
    (ap (λ k. drop k (more.front ++ low)) count ∙ drop-append-add more.front low (length low - n))

longer_on : {A : Type 0} (n : ℕ) (low all : List A) → n ≤ length low → OnTop low all → n ≤ length all
longer_on n low all fits more =
    let same : length (more.front ++ low) ≡ length more.front + length low = length-append more.front low in
    let count : length all ≡ length (more.front ++ low) = ap length more.is in
    omega (arith, same, fits, count)

within_over : (depth : Depth) (low all : Stacks) → Within depth low → Over low all → Within depth all
within_over depth low all w more = record {
  operands = longer_on depth.operands low.operands all.operands w.operands more.operands;
  scopes = longer_on depth.scopes low.scopes all.scopes w.scopes more.scopes;
  lists = longer_on depth.lists low.lists all.lists w.lists more.lists;
  endings = longer_on depth.endings low.endings all.endings w.endings more.endings;
}

stacks_same : (a b : Stacks) → a.operands ≡ b.operands → a.scopes ≡ b.scopes → a.lists ≡ b.lists → a.endings ≡ b.endings → a ≡ b
stacks_same a b o s l e =
    ap (λ x. record a { operands = x }) o ∙ ap (λ x. record a { operands = b.operands; scopes = x }) s
    ∙ ap (λ x. record b { lists = x; endings = a.endings }) l ∙ ap (λ x. record b { endings = x }) e

cut_over : (depth : Depth) (low all : Stacks) → Within depth low → Over low all → cut_to depth all ≡ cut_to depth low
cut_over depth low all w more =
    stacks_same (cut_to depth all) (cut_to depth low)
    (lowest_on depth.operands low.operands all.operands w.operands more.operands)
    (lowest_on depth.scopes low.scopes all.scopes w.scopes more.scopes)
    (lowest_on depth.lists low.lists all.lists w.lists more.lists)
    (lowest_on depth.endings low.endings all.endings w.endings more.endings)

module _ (good : State → Type 0) (frame : Frame) (code : List Op) (outcome : Outcome PlainValue) where
  -- an ending leads out in the same way with more on top
  pub leads_over : (around : Option Address) (e : Ending) (low all : Stacks) (s : State) → Over low all
      → LeadsOut good frame code outcome around e low s → LeadsOut good frame code outcome around e all s
  leads_over None e low all s more (over _ _ _ is) = over e all s is
  leads_over (Some at) e low all s more (taken_up _ o rest _ _ _ after_code after here w is r) =
      taken_up at o rest e all s after_code after here (within_over o.depth low all w more)
      (ap (λ st. taken frame code o.kind rest e st) (cut_over o.depth low all w more) ∙ is) r
  leads_over (Some at) e low all s more (passed_by _ o rest _ _ _ here w is out) =
      passed_by at o rest e all s here (within_over o.depth low all w more)
      (ap (λ st. taken frame code o.kind rest e st) (cut_over o.depth low all w more) ∙ is) (leads_over o.around e low all s more out)

  -- ---- single operations

  abbrev pub Does : Option Address → Action → Type 0
  Does around (Goes rest st s) = Runs good frame code outcome rest st s
  Does around (Ends o) = o ≡ outcome
  Does around (Leads e st s) = LeadsOut good frame code outcome around e st s
  Does around Stuck = ⊥

  by_action : (o : Op) (rest : List Op) (st : Stacks) (s : State) (a : Action) → act frame code o.kind rest st s ≡ a → good s → Does o.around a
      → Runs good frame code outcome (o ∷ rest) st s
  by_action o rest st s (Goes after_code after t) is g d = goes o rest st s after_code after t g is d
  by_action o rest st s (Ends r) is g d = ends o rest st s g (is ∙ ap Ends d)
  by_action o rest st s (Leads e after t) is g d = leads o rest st s e after t g is d
  by_action o rest st s Stuck is g d = absurd d

  pub by_op : (k : Kind) (here : Here) (rest : List Op) (st : Stacks) (s : State) → good s → Does here.around (act frame code k rest st s)
      → Runs good frame code outcome (op k here rest) st s
  by_op k here rest st s g d = by_action (record { kind = k; depth = here.depth; around = here.around }) rest st s (act frame code k rest st s) refl g d

  -- an operation that asks for an outcome
  pub on_does : {A : Type 0} (around : Option Address) (r : Outcome A) (st low : Stacks) (go : A → State → Action) → Over low st
      → Comes outcome (λ a t. Does around (go a t)) (λ v t. LeadsOut good frame code outcome around (Thrown v) low t) r
      → Does around (on r st go)
  on_does around (Gives a s) st low go more d = d
  on_does around (Throws v s) st low go more d = leads_over around (Thrown v) low st s more d
  on_does around (Spent s) st low go more d = d
  on_does around (Asks zone q s) st low go more d = d

-- ---- what comes of a sequence

pub comes_then : (env : Names) (outcome : Outcome PlainValue) {A B : Type 0} (s : State) (r : Outcome A) (f : A → State → Outcome B)
    (goal : B → State → Type 0) (mid : A → State → Type 0) (thrown : PlainValue → State → Type 0) → Fared env s r
    → ((a : A) (t : State) → Fares env s t → Comes outcome goal thrown (f a t) → mid a t)
    → Comes outcome goal thrown (and_then r f) → Comes outcome mid thrown r
comes_then env outcome s (Gives a t) f goal mid thrown fares go c = go a t fares c
comes_then env outcome s (Throws v t) f goal mid thrown fares go c = c
comes_then env outcome s (Spent t) f goal mid thrown fares go c = c
comes_then env outcome s (Asks zone q t) f goal mid thrown fares go c = c

pub comes_all : (outcome : Outcome PlainValue) {A : Type 0} (r : Outcome A) (goal mid : A → State → Type 0) (thrown : PlainValue → State → Type 0)
    → ((a : A) (t : State) → goal a t → mid a t) → Comes outcome goal thrown r → Comes outcome mid thrown r
comes_all outcome (Gives a t) goal mid thrown go c = go a t c
comes_all outcome (Throws v t) goal mid thrown go c = c
comes_all outcome (Spent t) goal mid thrown go c = c
comes_all outcome (Asks zone q t) goal mid thrown go c = c

pub comes_on : (env : Names) (outcome : Outcome PlainValue) {A : Type 0} (s : State) (r : Outcome A) (goal mid : A → State → Type 0) (thrown : PlainValue → State → Type 0)
    → Fared env s r → ((a : A) (t : State) → Fares env s t → goal a t → mid a t) → Comes outcome goal thrown r → Comes outcome mid thrown r
comes_on env outcome s (Gives a t) goal mid thrown fares go c = go a t fares c
comes_on env outcome s (Throws v t) goal mid thrown fares go c = c
comes_on env outcome s (Spent t) goal mid thrown fares go c = c
comes_on env outcome s (Asks zone q t) goal mid thrown fares go c = c

-- a value that is handed on
pub comes_handed : (outcome : Outcome PlainValue) {A : Type 0} (r : Outcome A) (goal : A → State → Type 0) (thrown : PlainValue → State → Type 0)
    → Comes outcome goal thrown r → Comes outcome goal thrown (and_then r Gives)
comes_handed outcome (Gives a t) goal thrown c = c
comes_handed outcome (Throws v t) goal thrown c = c
comes_handed outcome (Spent t) goal thrown c = c
comes_handed outcome (Asks zone q t) goal thrown c = c

-- ---- where just so much stands

lowest_all : {A : Type 0} (n : ℕ) (xs : List A) → length xs ≡ n → lowest n xs ≡ xs
lowest_all n xs same = let none : length xs - n ≡ 0 = omega (arith, same) in ap (λ k. drop k xs) none

pub cut_all : (depth : Depth) (st : Stacks) → length st.operands ≡ depth.operands → length st.scopes ≡ depth.scopes → length st.lists ≡ depth.lists → length st.endings ≡ depth.endings
    → cut_to depth st ≡ st
cut_all depth st o s l e =
    stacks_same (cut_to depth st) st (lowest_all depth.operands st.operands o) (lowest_all depth.scopes st.scopes s) (lowest_all depth.lists st.lists l) (lowest_all depth.endings st.endings e)

pub within_all : (depth : Depth) (st : Stacks) → length st.operands ≡ depth.operands → length st.scopes ≡ depth.scopes → length st.lists ≡ depth.lists → length st.endings ≡ depth.endings
    → Within depth st
within_all depth st o s l e = record { operands = omega (arith, o); scopes = omega (arith, s); lists = omega (arith, l); endings = omega (arith, e) }

-- a sequence of three, put together in two ways
pub joined : (outcome : Outcome PlainValue) {A B C : Type 0} (r : Outcome A) (f : A → State → Outcome B) (g : B → State → Outcome C) (goal : C → State → Type 0) (thrown : PlainValue → State → Type 0)
    → Comes outcome goal thrown (and_then (and_then r f) g) → Comes outcome goal thrown (and_then r (λ a s. and_then (f a s) g))
joined outcome (Gives a t) f g goal thrown c = c
joined outcome (Throws v t) f g goal thrown c = c
joined outcome (Spent t) f g goal thrown c = c
joined outcome (Asks zone q t) f g goal thrown c = c

pub over_push : (v : PlainValue) (low all : Stacks) → Over low all → Over low (push v all)
over_push v low all more = record {
  operands = record { front = v ∷ more.operands.front; is = ap (λ xs. v ∷ xs) more.operands.is };
  scopes = more.scopes;
  lists = more.lists;
  endings = more.endings;
}
