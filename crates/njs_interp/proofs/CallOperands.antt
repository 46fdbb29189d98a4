-- The operands of calls and of `new`.
use Rattle.std.proofs.Common.{◌≡◌, ℕ, ◌+◌, List, [], ◌∷◌, ◌++◌, length, map, reverse, take, drop, length-append, append_assoc, ap, refl, sym, ◌∙◌, subst, arith}
use Rattle.std.proofs.lemmas.List.{map-append, reverse-append, reverse-reverse, length-reverse, length-map}
use Rattle.std.proofs.Math.Seq.{drop-append_seam, take-append_seam}
use Rattle.std.specs.List.{AllByRecursion}
use Rattle.njs_value.specs.declared.Value.{Value}
use Rattle.njs_shared.specs.Heap.{Heap, sizes}
use Rattle.njs_shared.specs.Fits.{FitsValue}
use Rattle.njs_clone.specs.Content.{content}
use Rattle.njs_code.specs.declared.op.Kind.{Kind}
use Rattle.njs_code.specs.declared.op.Kind.TheVariants as kind
use Rattle.njs_code.specs.declared.op.Op.{Op}
use Rattle.njs_code.specs.declared.code.FunctionCode.{FunctionCode}
use Rattle.njs_code.specs.Effects.{operands_taken, operands_given, scopes_taken, scopes_given, lists_taken, lists_given, endings_taken, endings_given}
use Rattle.njs_meaning.specs.Values.{PlainValue}
use Rattle.njs_meaning.specs.State.{State, Outcome, Gives, Throws, Spent, Asks}
use Rattle.njs_meaning.specs.Replies.{state_of}
use Rattle.njs_simul.specs.Stacks as plain
use Rattle.njs_simul.specs.Stacks.{Frame, push, with_operands}
use Rattle.njs_simul.specs.Step.{Action, Goes, act, on, on_top, on_two, finish}
use Rattle.njs_interp.specs.declared.stacks.Stacks.{Stacks}
use Rattle.njs_interp.specs.Plain.{plain_stacks}
use Rattle.njs_interp.specs.Sits.{Sits}
use Rattle.njs_interp.specs.Acts.{state_in}
use Rattle.njs_interp.specs.Operands.{Takes, HasTaken}
use Rattle.njs_interp.specs.Operands.{Gives as GivesOperands}
use Rattle.njs_interp.proofs.Kept.{all-behind, all-front, map-reversed}
use Rattle.njs_interp.proofs.AskedFinish.{with_taken}

pub call_takes : (count : ℕ) (k : Kind) → k ≡ kind.Call count → Takes k (count + 2)
unfolding operands_taken scopes_taken lists_taken endings_taken
call_takes count k is = subst (λ k. Takes k (count + 2)) (sym is) (record { operands = refl; scopes = refl; lists = refl; endings = refl })

pub call_gives : (count : ℕ) (k : Kind) → k ≡ kind.Call count → GivesOperands k 1
unfolding operands_given scopes_given lists_given endings_given
call_gives count k is = subst (λ k. GivesOperands k 1) (sym is) (record { operands = refl; scopes = refl; lists = refl; endings = refl })

pub new_takes : (count : ℕ) (k : Kind) → k ≡ kind.New count → Takes k (count + 1)
unfolding operands_taken scopes_taken lists_taken endings_taken
new_takes count k is = subst (λ k. Takes k (count + 1)) (sym is) (record { operands = refl; scopes = refl; lists = refl; endings = refl })

pub new_gives : (count : ℕ) (k : Kind) → k ≡ kind.New count → GivesOperands k 1
unfolding operands_given scopes_given lists_given endings_given
new_gives count k is = subst (λ k. GivesOperands k 1) (sym is) (record { operands = refl; scopes = refl; lists = refl; endings = refl })

pub all-reversed : {X : Type 0} (P : X → Type 0) (xs : List X) → AllByRecursion P (reverse xs) → AllByRecursion P xs
all-reversed P [] all = tt
all-reversed P (x ∷ xs) all =
    let parts : AllByRecursion P (reverse xs ++ x ∷ []) = subst (AllByRecursion P) (reverse-append (x ∷ []) xs) all in
    ((all-behind P (reverse xs) (x ∷ []) parts).0, all-reversed P xs (all-front P (reverse xs) (x ∷ []) parts))

-- so many operands were taken
pub has-taken : (f : FunctionCode) (op : Op) (h : Heap) (before after : Stacks) (taken : List Value) (count : ℕ) → Takes op.kind count → length taken ≡ count → before ≡ record after { operands = taken ++ after.operands }
    → Sits h f.slots op.depth before → HasTaken f op h before after taken
has-taken f op h before after taken count takes is whole sits =
    let there : Sits h f.slots op.depth (record after { operands = taken ++ after.operands }) = subst (Sits h f.slots op.depth) whole sits in
    record {
      is = whole;
      sits = record {
        operands = omega (arith, there.operands, length-append taken after.operands, is, takes.operands);
        scopes = omega (arith, there.scopes, takes.scopes);
        lists = omega (arith, there.lists, takes.lists);
        endings = omega (arith, there.endings, takes.endings);
        values = all-behind (FitsValue (sizes h)) taken after.operands there.values;
        listed = there.listed;
        ended = there.ended;
        entered = there.entered;
      };
      fits = all-front (FitsValue (sizes h)) taken after.operands there.values;
    }

-- the arguments lie above the other operands
pub above-others : (args others below operands : List Value) → operands ≡ reverse args ++ (others ++ below) → operands ≡ (reverse args ++ others) ++ below
above-others args others below operands is = is ∙ sym (append_assoc (reverse args) others below)

pub taken-count : (args others : List Value) (count more : ℕ) → length args ≡ count → length others ≡ more → length (reverse args ++ others) ≡ count + more
taken-count args others count more first second = omega (arith, length-append (reverse args) others, length-reverse args, first, second)

-- what was taken fits
module _ (P : Value → Type 0) (args others : List Value) (all : AllByRecursion P (reverse args ++ others)) where
  pub args-all : AllByRecursion P args
  args-all = all-reversed P args (all-front P (reverse args) others all)

  pub others-all : AllByRecursion P others
  others-all = all-behind P (reverse args) others all

module _ (texts : List (List ℕ)) (after : Stacks) (args others : List Value) where
  abbrev below : List PlainValue
  below = map (content texts) others ++ map (content texts) after.operands

  shown : (with_taken texts after (reverse args ++ others)).operands ≡ reverse (map (content texts) args) ++ below
  shown =
      ap (map (content texts)) (append_assoc (reverse args) others after.operands)
      ∙ map-append (content texts) (reverse args) (others ++ after.operands)
      ∙ ap (λ vs. vs ++ map (content texts) (others ++ after.operands)) (map-reversed (content texts) args)
      ∙ ap (λ vs. reverse (map (content texts) args) ++ vs) (map-append (content texts) others after.operands)

  many : length (reverse (map (content texts) args)) ≡ length args
  many = length-reverse (map (content texts) args) ∙ length-map args (content texts)

  dropped : drop (length args) (reverse (map (content texts) args) ++ below) ≡ below
  dropped = ap (λ n. drop n (reverse (map (content texts) args) ++ below)) (sym many) ∙ drop-append_seam (reverse (map (content texts) args)) below

  kept : reverse (take (length args) (reverse (map (content texts) args) ++ below)) ≡ map (content texts) args
  kept =
      ap (λ n. reverse (take n (reverse (map (content texts) args) ++ below))) (sym many)
      ∙ ap reverse (take-append_seam (reverse (map (content texts) args)) below)
      ∙ reverse-reverse (map (content texts) args)

  pub operands-below : drop (length args) (with_taken texts after (reverse args ++ others)).operands ≡ below
  operands-below = ap (drop (length args)) shown ∙ dropped

  pub operands-above : reverse (take (length args) (with_taken texts after (reverse args ++ others)).operands) ≡ map (content texts) args
  operands-above = ap (λ vs. reverse (take (length args) vs)) shown ∙ kept

-- what goes on with a value
abbrev pub pushes : plain.Stacks → List Op → Outcome PlainValue → Action
pushes st rest o = on o st (λ v t. Goes rest (push v st) t)

pub call_is : (frame : Frame) (code rest : List Op) (texts : List (List ℕ)) (after : Stacks) (args : List Value) (callee this : Value) (s : State)
    → act frame code (kind.Call (length args)) rest (with_taken texts after (reverse args ++ callee ∷ this ∷ [])) s
    ≡ pushes (plain_stacks texts after) rest (frame.calls.call (content texts callee) (content texts this) (map (content texts) args) s)
call_is frame code rest texts after args callee this s =
    ap (λ vs. on_two vs (λ t f vs. finish rest (with_operands (with_taken texts after (reverse args ++ callee ∷ this ∷ [])) vs)
    (frame.calls.call f t (reverse (take (length args) (with_taken texts after (reverse args ++ callee ∷ this ∷ [])).operands)) s))) (operands-below texts after args (callee ∷ this ∷ []))
    ∙ ap (λ vs. pushes (plain_stacks texts after) rest (frame.calls.call (content texts callee) (content texts this) vs s)) (operands-above texts after args (callee ∷ this ∷ []))

pub new_is : (frame : Frame) (code rest : List Op) (texts : List (List ℕ)) (after : Stacks) (args : List Value) (callee : Value) (s : State)
    → act frame code (kind.New (length args)) rest (with_taken texts after (reverse args ++ callee ∷ [])) s
    ≡ pushes (plain_stacks texts after) rest (frame.calls.construct (content texts callee) (map (content texts) args) s)
new_is frame code rest texts after args callee s =
    ap (λ vs. on_top vs (λ f vs. finish rest (with_operands (with_taken texts after (reverse args ++ callee ∷ [])) vs)
    (frame.calls.construct f (reverse (take (length args) (with_taken texts after (reverse args ++ callee ∷ [])).operands)) s))) (operands-below texts after args (callee ∷ []))
    ∙ ap (λ vs. pushes (plain_stacks texts after) rest (frame.calls.construct (content texts callee) vs s)) (operands-above texts after args (callee ∷ []))

-- ---- where no memory was left for the arguments

finished-in : (stopped : State → Type 0) (rest : List Op) (st : plain.Stacks) (o : Outcome PlainValue) → stopped (state_of o) → state_in (finish rest st o) stopped
finished-in stopped rest st (Gives v t) here = here
finished-in stopped rest st (Throws v t) here = here
finished-in stopped rest st (Spent t) here = here
finished-in stopped rest st (Asks zone op t) here = here

pub call_stopped : (stopped : State → Type 0) (frame : Frame) (code rest : List Op) (count : ℕ) (st : plain.Stacks) (s : State)
    → ((f this : PlainValue) (args : List PlainValue) → stopped (state_of (frame.calls.call f this args s))) → state_in (act frame code (kind.Call count) rest st s) stopped
call_stopped stopped frame code rest count st s calls = by (drop count st.operands)
  where
    by : (vs : List PlainValue)
        → state_in (on_two vs (λ this f vs. finish rest (with_operands st vs) (frame.calls.call f this (reverse (take count st.operands)) s))) stopped
    by [] = tt
    by (f ∷ []) = tt
    by (f ∷ (this ∷ vs)) = finished-in stopped rest (with_operands st vs) (frame.calls.call f this (reverse (take count st.operands)) s) (calls f this (reverse (take count st.operands)))

pub new_stopped : (stopped : State → Type 0) (frame : Frame) (code rest : List Op) (count : ℕ) (st : plain.Stacks) (s : State)
    → ((f : PlainValue) (args : List PlainValue) → stopped (state_of (frame.calls.construct f args s))) → state_in (act frame code (kind.New count) rest st s) stopped
new_stopped stopped frame code rest count st s calls = by (drop count st.operands)
  where
    by : (vs : List PlainValue) → state_in (on_top vs (λ f vs. finish rest (with_operands st vs) (frame.calls.construct f (reverse (take count st.operands)) s))) stopped
    by [] = tt
    by (f ∷ vs) = finished-in stopped rest (with_operands st vs) (frame.calls.construct f (reverse (take count st.operands)) s) (calls f (reverse (take count st.operands)))
