-- Operations that push the value that an answer gives.
use Rattle.std.proofs.Common.{◌≡◌, ℕ, ℤ, ◌≤◌, arith, List, [], ◌∷◌, ◌++◌, map, Result, Ok, Err, refl, sym, ap, ◌∙◌, subst}
use Rattle.std.proofs.lemmas.List.{map-append}
use Rattle.njs_value.specs.declared.Value.{Value}
use Rattle.njs_clone.specs.Content.{content}
use Rattle.njs_code.specs.declared.op.Op.{Op}
use Rattle.njs_meaning.specs.Primitives.{Number}
use Rattle.njs_meaning.specs.Values.{PlainValue, Simple}
use Rattle.njs_meaning.specs.Conversions.{to_number}
use Rattle.njs_meaning.specs.Operations.{binary, unary}
use Rattle.njs_meaning.specs.Meaning.{member_by}
use Rattle.njs_tree.specs.declared.tree.BinaryOp.{BinaryOp}
use Rattle.njs_tree.specs.declared.tree.UnaryOp.{UnaryOp}
use Rattle.njs_value.specs.Number.{IsSafe}
use Rattle.njs_shared.specs.Heap.{Sizes}
use Rattle.njs_shared.specs.Fits.{FitsValue}
use Rattle.njs_code.specs.declared.op.Kind.TheVariants as kind
use Rattle.njs_meaning.specs.State.{State, Outcome, Gives, Throws, Spent, Asks}
use Rattle.njs_meaning.specs.Replies.{state_of}
use Rattle.njs_convert.specs.declared.stop.Stop.{Stop}
use Rattle.njs_convert.specs.declared.stop.Stop.TheVariants.{Throw, Fuel, NoMemory}
use Rattle.njs_convert.specs.Tells.{Tells, ShowsNumber, FitsAnswer, Counts}
use Rattle.njs_simul.specs.Stacks as plain
use Rattle.njs_simul.specs.Stacks.{with_operands, push, context}
use Rattle.njs_simul.specs.Step.{Action, Goes, on, act, operands_of}
use Rattle.njs_interp.specs.declared.stacks.Stacks.{Stacks}
use Rattle.njs_interp.specs.Plain.{plain_stacks}
use Rattle.njs_interp.specs.Acts.{Below, Acts, state_in}
use Rattle.njs_interp.specs.Asked.{Finished, number_answer}

-- the state in which an outcome ends is that in which the action that follows it does, where it goes on with the stacks alone
state_kept : {A : Type 0} (stopped : State → Type 0) (o : Outcome A) (st : plain.Stacks) (rest : List Op) (next : A → plain.Stacks)
    → stopped (state_of o) → state_in (on o st (λ a t. Goes rest (next a) t)) stopped
state_kept stopped (Gives a t) st rest next here = here
state_kept stopped (Throws w t) st rest next here = here
state_kept stopped (Spent t) st rest next here = here
state_kept stopped (Asks zone op t) st rest next here = here

-- what an answer tells, and what it gives on top. `before` stands without the operands that the operation takes; where the
-- outcome is a throw, `st` stands, which may have more of them
module _ {V A : Type 0} (stands holds stopped : State → Type 0) (texts : List (List ℕ)) (shows : V → A → Type 0) (given : V → List Value) (tops : A → List PlainValue)
    (are : (v : V) (a : A) → shows v a → map (content texts) (given v) ≡ tops a) (rest : List Op) (holds_of : (t : State) → stands t → holds t) (stops : (t : State) → stands t → stopped t)
    (before after : Stacks) (st : plain.Stacks) (below : Below st (plain_stacks texts before)) where
  abbrev pub on_top : A → plain.Stacks
  on_top a = with_operands (plain_stacks texts before) (tops a ++ (plain_stacks texts before).operands)

  abbrev pub goes : A → State → Action
  goes a t = Goes rest (on_top a) t

  pushed : (v : V) (a : A) → shows v a → after ≡ record before { operands = given v ++ before.operands } → on_top a ≡ plain_stacks texts after
  pushed v a shown is =
      ap (λ (vs : List PlainValue). with_operands (plain_stacks texts before) (vs ++ map (content texts) before.operands)) (sym (are v a shown))
      ∙ ap (with_operands (plain_stacks texts before)) (sym (map-append (content texts) (given v) before.operands))
      ∙ sym (ap (plain_stacks texts) is)

  pub acts : (answer : Result V Stop) (r : Result (Unit {0}) Stop) (o : Outcome A) → Tells stands stopped texts shows answer o → Finished given answer before after r
      → Acts holds stopped texts rest (plain_stacks texts after) r (on o st goes)
  acts (Ok v) (Ok done) (Gives a t) tells is = (refl, pushed v a tells.0 is, holds_of t tells.1)
  acts (Ok v) (Ok done) (Throws w t) tells is = absurd tells
  acts (Ok v) (Ok done) (Spent t) tells is = absurd tells
  acts (Ok v) (Ok done) (Asks zone op t) tells is = absurd tells
  acts (Ok v) (Err (Throw w)) o tells is = absurd is
  acts (Ok v) (Err Fuel) o tells is = absurd is
  acts (Ok v) (Err NoMemory) (Gives a t) tells is = stops t tells.1
  acts (Ok v) (Err NoMemory) (Throws w t) tells is = absurd tells
  acts (Ok v) (Err NoMemory) (Spent t) tells is = absurd tells
  acts (Ok v) (Err NoMemory) (Asks zone op t) tells is = absurd tells
  acts (Err stop) (Ok done) o tells is = absurd is
  acts (Err stop) (Err other) o tells is =
      subst (λ q. Acts holds stopped texts rest (plain_stacks texts after) (Err q) (on o st goes)) (sym is.0)
      (subst (λ (m : Stacks). Acts holds stopped texts rest (plain_stacks texts m) (Err stop) (on o st goes)) (sym is.1) (ended stop o tells))
    where
      ended : (stop : Stop) (o : Outcome A) → Tells stands stopped texts shows (Err stop) o → Acts holds stopped texts rest (plain_stacks texts before) (Err stop) (on o st goes)
      ended (Throw v) (Gives a t) tells = absurd tells
      ended (Throw v) (Throws w t) tells = (tells.0, below, holds_of t tells.1)
      ended (Throw v) (Spent t) tells = absurd tells
      ended (Throw v) (Asks zone op t) tells = absurd tells
      ended Fuel (Gives a t) tells = absurd tells
      ended Fuel (Throws w t) tells = absurd tells
      ended Fuel (Spent t) tells = holds_of t tells
      ended Fuel (Asks zone op t) tells = absurd tells
      ended NoMemory o tells = state_kept stopped o st rest on_top tells

pub below_same : (st : plain.Stacks) → Below st st
below_same st = record { above = []; operands = refl; scopes = refl; lists = refl; endings = refl }

-- ---- the operations

-- the operands that an operation takes, by content
abbrev pub with_taken : List (List ℕ) → Stacks → List Value → plain.Stacks
with_taken texts after taken = plain_stacks texts (record after { operands = taken ++ after.operands })

pub binary_is : (frame : plain.Frame) (code rest : List Op) (f : BinaryOp) (texts : List (List ℕ)) (after : Stacks) (a b : Value) (s : State)
    → act frame code (kind.Binary f) rest (with_taken texts after (b ∷ a ∷ [])) s ≡ on (binary frame.calls.call f (content texts a) (content texts b) s) (plain_stacks texts after) (λ v t. Goes rest (push v (plain_stacks texts after)) t)
binary_is frame code rest f texts after a b s = refl

pub unary_is : (frame : plain.Frame) (code rest : List Op) (f : UnaryOp) (texts : List (List ℕ)) (after : Stacks) (v : Value) (s : State)
    → act frame code (kind.Unary f) rest (with_taken texts after (v ∷ [])) s ≡ on (unary frame.calls.call f (content texts v) s) (plain_stacks texts after) (λ v t. Goes rest (push v (plain_stacks texts after)) t)
unary_is frame code rest f texts after v s = refl

pub to_number_is : (frame : plain.Frame) (code rest : List Op) (texts : List (List ℕ)) (after : Stacks) (v : Value) (s : State)
    → act frame code kind.ToNumber rest (with_taken texts after (v ∷ [])) s ≡ on (to_number frame.calls.call (content texts v) s) (with_taken texts after (v ∷ [])) (λ n t. Goes rest (push (Simple (Number n)) (plain_stacks texts after)) t)
to_number_is frame code rest texts after v s = refl

-- with an operand more
pub below_one : (texts : List (List ℕ)) (after : Stacks) (v : Value) (st : plain.Stacks) → st ≡ plain_stacks texts after → Below (with_taken texts after (v ∷ [])) st
below_one texts after v st is = subst (Below (with_taken texts after (v ∷ []))) (sym is) (record { above = content texts v ∷ []; operands = refl; scopes = refl; lists = refl; endings = refl })

-- with two operands more
pub below_two : (texts : List (List ℕ)) (after : Stacks) (b a : Value) (st : plain.Stacks) → st ≡ plain_stacks texts after → Below (with_taken texts after (b ∷ a ∷ [])) st
below_two texts after b a st is = subst (Below (with_taken texts after (b ∷ a ∷ []))) (sym is) (record { above = content texts b ∷ content texts a ∷ []; operands = refl; scopes = refl; lists = refl; endings = refl })

pub key_is : (frame : plain.Frame) (code rest : List Op) (texts : List (List ℕ)) (after : Stacks) (base key : Value) (s : State)
    → act frame code kind.Key rest (with_taken texts after (key ∷ base ∷ [])) s
    ≡ on (member_by (content texts base) (content texts key) (context frame (plain_stacks texts after)) s) (with_taken texts after (key ∷ base ∷ [])) (λ r t. Goes rest (with_operands (plain_stacks texts after) (operands_of r ++ (plain_stacks texts after).operands)) t)
key_is frame code rest texts after base key s = refl

-- a number that is told is told as a value
pub number_tells : (stands stopped : State → Type 0) (texts : List (List ℕ)) (r : Result ℤ Stop) (o : Outcome ℤ) → Tells stands stopped texts (ShowsNumber {N = ℤ}) r o
    → Tells stands stopped texts (λ (v : Value) n. content texts v ≡ Simple (Number n)) (number_answer r) o
number_tells stands stopped texts (Ok n) (Gives m t) tells = (ap (λ i. Simple (Number i)) tells.0, tells.1)
number_tells stands stopped texts (Ok n) (Throws w t) tells = absurd tells
number_tells stands stopped texts (Ok n) (Spent t) tells = absurd tells
number_tells stands stopped texts (Ok n) (Asks zone op t) tells = absurd tells
number_tells stands stopped texts (Err (Throw v)) (Gives a t) tells = absurd tells
number_tells stands stopped texts (Err (Throw v)) (Throws w t) tells = tells
number_tells stands stopped texts (Err (Throw v)) (Spent t) tells = absurd tells
number_tells stands stopped texts (Err (Throw v)) (Asks zone op t) tells = absurd tells
number_tells stands stopped texts (Err Fuel) (Gives a t) tells = absurd tells
number_tells stands stopped texts (Err Fuel) (Throws w t) tells = absurd tells
number_tells stands stopped texts (Err Fuel) (Spent t) tells = tells
number_tells stands stopped texts (Err Fuel) (Asks zone op t) tells = absurd tells
number_tells stands stopped texts (Err NoMemory) o tells = tells

-- so a number's answer fits as a value
pub number_fits : (n : Sizes) (r : Result ℤ Stop) → FitsAnswer IsSafe n r → FitsAnswer (FitsValue n) n (number_answer r)
number_fits n (Ok i) fits = fits
number_fits n (Err (Throw v)) fits = fits
number_fits n (Err Fuel) fits = fits
number_fits n (Err NoMemory) fits = fits

-- steps that are counted don't get fewer
pub counts_up : {V : Type 0} (adds : ℕ → Type 0) (old new : ℕ) (r : Result V Stop) → ((n : ℕ) → adds n → old ≤ n) → Counts adds new r → old ≤ new
counts_up adds old new (Ok v) up counts = up new counts
counts_up adds old new (Err stop) up counts = let first = up counts.0 counts.1 in let second = counts.2 in omega arith
