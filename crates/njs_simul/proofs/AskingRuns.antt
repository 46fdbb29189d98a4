-- What runs of code leave of the dictionaries: by induction on the run, operation by operation.
use Rattle.std.proofs.Common.{ℕ, List, [], ◌∷◌, length, take, drop, reverse, true, refl, subst, if◌then◌else◌, Bool, false, Option}
use Rattle.njs_code.specs.declared.op.Address.{Address}
use Rattle.njs_code.specs.declared.op.Kind.{Kind}
use Rattle.njs_code.specs.declared.op.Kind.TheVariants as kind
use Rattle.njs_code.specs.declared.op.Op.{Op}
use Rattle.njs_meaning.specs.Values.{PlainValue, is_same}
use Rattle.njs_meaning.specs.State.{State, Outcome, Gives, Throws, Spent, Asks}
use Rattle.njs_meaning.specs.Conversions.{to_boolean, to_number}
use Rattle.njs_meaning.specs.Running.{charge, one_and}
use Rattle.njs_meaning.specs.Members.{with_members, put_member, delete_member, names_in}
use Rattle.njs_meaning.specs.Operations.{binary, unary, leaves_out}
use Rattle.njs_meaning.specs.Completions.{Normal, Returned, Broken, Continued}
use Rattle.njs_meaning.specs.Meaning.{Made, member_by, function}
use Rattle.njs_meaning.specs.Replies.{state_of}
use Rattle.njs_simul.specs.Stacks.{Listing, Ending, Ended, Thrown, Stacks, Frame, context, with_operands, push}
use Rattle.njs_simul.specs.Step.{Action, Goes, Ends, Leads, Stuck, on_top, on_two, name_in, on_list, on, finish, fails, defined, stepped_from, still_there, unless_empty, on_ending, resumed, ended_by, from, act}
use Rattle.njs_simul.specs.Runs.{Runs, LeadsOut}
use Rattle.njs_simul.specs.Fits.{Names, Good, CallsFare}
use Rattle.njs_simul.specs.Asking.{CallsEnd}
use Rattle.njs_simul.proofs.AskingSteps.{IsThrough, To, Lands, fared_lands, stays, to_charge, to_with_members, to_put_member, to_delete_member, to_fails, to_defined, to_stepped_from, to_function, to_number_ends, to_binary, to_unary, to_member_by}

module _ (R : State → State → Type 0) (through : IsThrough R) where
  -- what an operation does ends so
  abbrev pub ActsTo : State → Action → Type 0
  ActsTo s (Goes rest st t) = R s t
  ActsTo s (Ends o) = R s (state_of o)
  ActsTo s (Leads e st t) = R s t
  ActsTo s Stuck = Unit {0}

  top_to : (s : State) (vs : List PlainValue) (go : PlainValue → List PlainValue → Action) → ((v : PlainValue) (vs : List PlainValue) → ActsTo s (go v vs)) → ActsTo s (on_top vs go)
  top_to s [] go k = tt
  top_to s (v ∷ vs) go k = k v vs

  two_to : (s : State) (vs : List PlainValue) (go : PlainValue → PlainValue → List PlainValue → Action) → ((a b : PlainValue) (vs : List PlainValue) → ActsTo s (go a b vs)) → ActsTo s (on_two vs go)
  two_to s [] go k = tt
  two_to s (b ∷ []) go k = tt
  two_to s (b ∷ (a ∷ vs)) go k = k a b vs

  list_to : (s : State) (ls : List Listing) (go : Listing → List Listing → Action) → ((l : Listing) (ls : List Listing) → ActsTo s (go l ls)) → ActsTo s (on_list ls go)
  list_to s [] go k = tt
  list_to s (l ∷ ls) go k = k l ls

  ending_to : (s : State) (es : List Ending) (go : Ending → List Ending → Action) → ((e : Ending) (es : List Ending) → ActsTo s (go e es)) → ActsTo s (on_ending es go)
  ending_to s [] go k = tt
  ending_to s (e ∷ es) go k = k e es

  if_to : (s : State) (b : Bool) (x y : Action) → ActsTo s x → ActsTo s y → ActsTo s (if b then x else y)
  if_to s true x y h k = h
  if_to s false x y h k = k

  empty_to : (s : State) (names : List (List ℕ)) (go : List (List ℕ) → Action) (otherwise : Action) → ((names : List (List ℕ)) → ActsTo s (go names)) → ActsTo s otherwise → ActsTo s (unless_empty names go otherwise)
  empty_to s [] go otherwise h k = k
  empty_to s (name ∷ names) go otherwise h k = h (name ∷ names)

  on_to : {A : Type 0} (s : State) (o : Outcome A) (st : Stacks) (go : A → State → Action) → To R through s o → ((a : A) (t : State) → R s t → ActsTo s (go a t)) → ActsTo s (on o st go)
  on_to s (Gives a t) st go h k = k a t h
  on_to s (Throws v t) st go h k = h
  on_to s (Spent t) st go h k = h
  on_to s (Asks zone q t) st go h k = h

  finish_to : (s : State) (rest : List Op) (st : Stacks) (o : Outcome PlainValue) → To R through s o → ActsTo s (finish rest st o)
  finish_to s rest st o h = on_to s o st (λ v s. Goes rest (push v st) s) h (λ v t k. k)

  resumed_to : (rest : List Op) (e : Ending) (st : Stacks) (s : State) → ActsTo s (resumed rest e st s)
  resumed_to rest (Ended Normal) st s = stays R through s
  resumed_to rest (Ended (Returned v)) st s = stays R through s
  resumed_to rest (Ended (Broken label)) st s = stays R through s
  resumed_to rest (Ended (Continued label)) st s = stays R through s
  resumed_to rest (Thrown v) st s = stays R through s

  module _ (env : Names) (frame : Frame) (code : List Op) (fare : CallsFare env frame.calls) (ends : CallsEnd R env frame.calls) where
    lands : (f this : PlainValue) (args : List PlainValue) (s : State) → Good env s → Lands R through (Good env) (frame.calls.call f this args s)
    lands f this args s g = fared_lands R through env s (frame.calls.call f this args s) (fare.call f this args s g)

    act_to : (k : Kind) (rest : List Op) (st : Stacks) (s : State) → Good env s → ActsTo s (act frame code k rest st s)
    act_to kind.Charge rest st s g = on_to s (charge 1 (Gives true) s) st _ (to_charge R through 1 (Gives true) s (λ t is. stays R through t)) (λ paid t h. h)
    act_to kind.Undefined rest st s g = stays R through s
    act_to kind.Null rest st s g = stays R through s
    act_to (kind.Bool b) rest st s g = stays R through s
    act_to (kind.Num n) rest st s g = stays R through s
    act_to (kind.Str text) rest st s g = stays R through s
    act_to kind.This rest st s g = stays R through s
    act_to (kind.Load up slot) rest st s g = stays R through s
    act_to (kind.Store up slot) rest st s g = top_to s st.operands _ (λ v vs. through.same s _ refl refl)
    act_to (kind.LoadGlobal slot) rest st s g = stays R through s
    act_to (kind.StoreGlobal slot) rest st s g = top_to s st.operands _ (λ v vs. through.same s _ refl refl)
    act_to (kind.Fail f) rest st s g = finish_to s rest st (fails f s) (to_fails R through f s)
    act_to kind.Base rest st s g = top_to s st.operands _ (λ v vs. finish_to s rest (with_operands st vs) (with_members v (Gives v) s) (to_with_members R through v (Gives v) s (stays R through s)))
    act_to kind.Key rest st s g =
        two_to s st.operands _ (λ base key vs. on_to s (member_by base key (context frame st) s) st _ (to_member_by R through (Good env) (context frame st) lands ends.call base key s g) (λ r t h. h))
    act_to kind.Get rest st s g = two_to s st.operands _ (λ base name vs. stays R through s)
    act_to kind.GetKept rest st s g = two_to s st.operands _ (λ base name vs. stays R through s)
    act_to kind.Method rest st s g = two_to s st.operands _ (λ base name vs. stays R through s)
    act_to kind.Put rest st s g =
        top_to s st.operands _ (λ v vs. two_to s vs _ (λ base name vs. finish_to s rest (with_operands st vs) (put_member (name_in name) base v s) (to_put_member R through (name_in name) base v s)))
    act_to kind.DeleteMember rest st s g =
        two_to s st.operands _ (λ base name vs. finish_to s rest (with_operands st vs) (delete_member (name_in name) base s) (to_delete_member R through (name_in name) base s))
    act_to (kind.Binary op) rest st s g =
        two_to s st.operands _ (λ a b vs. finish_to s rest (with_operands st vs) (binary frame.calls.call op a b s) (to_binary R through (Good env) frame.calls.call lands ends.call op a b s g))
    act_to (kind.Unary op) rest st s g =
        top_to s st.operands _ (λ v vs. finish_to s rest (with_operands st vs) (unary frame.calls.call op v s) (to_unary R through (Good env) frame.calls.call lands ends.call op v s g))
    act_to kind.ToNumber rest st s g =
        top_to s st.operands _ (λ v vs. on_to s (to_number frame.calls.call v s) st _ (to_number_ends R through (Good env) frame.calls.call lands ends.call v s g) (λ n t h. h))
    act_to (kind.Step op) rest st s g = top_to s st.operands _ (λ v vs. finish_to s rest (with_operands st vs) (stepped_from op v s) (to_stepped_from R through op v s))
    act_to (kind.Tuck under) rest st s g = top_to s st.operands _ (λ v vs. stays R through s)
    act_to kind.Drop rest st s g = top_to s st.operands _ (λ v vs. stays R through s)
    act_to kind.Nip rest st s g = two_to s st.operands _ (λ a b vs. stays R through s)
    act_to kind.Receiver rest st s g = top_to s st.operands _ (λ v vs. stays R through s)
    act_to (kind.Jump to) rest st s g = stays R through s
    act_to (kind.JumpFalse to) rest st s g =
        top_to s st.operands _ (λ v vs. if_to s (to_boolean v) (Goes rest (with_operands st vs) s) (Goes (from frame code to.0) (with_operands st vs) s) (stays R through s) (stays R through s))
    act_to (kind.JumpLogical op to) rest st s g =
        top_to s st.operands _ (λ v vs. if_to s (leaves_out op v) (Goes (from frame code to.0) st s) (Goes rest (with_operands st vs) s) (stays R through s) (stays R through s))
    act_to (kind.JumpSame to) rest st s g =
        two_to s st.operands _ (λ a b vs. if_to s (is_same a b) (Goes (from frame code to.0) (with_operands st vs) s) (Goes rest (with_operands st (a ∷ vs)) s) (stays R through s) (stays R through s))
    act_to (kind.Call count) rest st s g =
        two_to s (drop count st.operands) _ (λ this f vs.
        finish_to s rest (with_operands st vs) (frame.calls.call f this (reverse (take count st.operands)) s) (ends.call f this (reverse (take count st.operands)) s g))
    act_to (kind.New count) rest st s g =
        top_to s (drop count st.operands) _ (λ f vs.
        finish_to s rest (with_operands st vs) (frame.calls.construct f (reverse (take count st.operands)) s) (ends.construct f (reverse (take count st.operands)) s g))
    act_to kind.NewArray rest st s g = through.same s _ refl refl
    act_to kind.NewObject rest st s g = through.same s _ refl refl
    act_to (kind.Define name) rest st s g = two_to s st.operands _ (λ object v vs. finish_to s rest (with_operands st vs) (defined name object v s) (to_defined R through name object v s))
    act_to (kind.Closure number params name) rest st s g =
        let made : Made = record { number = number; name = name; params = params } in
        on_to s (function made (context frame st) s) st _ (to_function R through made (context frame st) s) (λ r t h. h)
    act_to kind.Arguments rest st s g =
        on_to s (charge (one_and (length frame.args) 8) (Gives true) s) st _ (to_charge R through (one_and (length frame.args) 8) (Gives true) s (λ t is. stays R through t))
        (λ paid t h. through.join s t _ h (through.same t _ refl refl))
    act_to kind.ListNames rest st s g =
        top_to s st.operands _ (λ v vs. on_to s (charge (length (names_in v s.objects)) (Gives (names_in v s.objects)) s) st _
        (to_charge R through (length (names_in v s.objects)) (Gives (names_in v s.objects)) s (λ t is. stays R through t)) (λ names t h. h))
    act_to (kind.MoreNames to) rest st s g = list_to s st.lists _ (λ l ls. empty_to s (still_there l.value s.objects l.names) _ _ (λ names. stays R through s) (stays R through s))
    act_to kind.NextName rest st s g = list_to s st.lists _ (λ l ls. stays R through s)
    act_to kind.DropList rest st s g = stays R through s
    act_to (kind.Enter name) rest st s g = top_to s st.operands _ (λ v vs. through.same s _ refl refl)
    act_to kind.Leave rest st s g = stays R through s
    act_to kind.Return rest st s g = top_to s st.operands _ (λ v vs. stays R through s)
    act_to (kind.Break label) rest st s g = stays R through s
    act_to (kind.Continue label) rest st s g = stays R through s
    act_to kind.Throw rest st s g = top_to s st.operands _ (λ v vs. stays R through s)
    act_to (kind.EndBody labels past) rest st s g = stays R through s
    act_to kind.EndSwitch rest st s g = stays R through s
    act_to kind.EndBlock rest st s g = stays R through s
    act_to kind.Finally rest st s g = stays R through s
    act_to kind.Resume rest st s g = ending_to s st.endings _ (λ e es. resumed_to rest e (record st { endings = es }) s)

    over_to : (e : Ending) (s : State) → R s (state_of (ended_by e s))
    over_to (Ended c) s = stays R through s
    over_to (Thrown v) s = stays R through s

    module _ (outcome : Outcome PlainValue) where
      mutual
        pub run_to : {rest : List Op} {st : Stacks} {s : State} → Runs (Good env) frame code outcome rest st s → R s (state_of outcome)
        run_to (Runs.goes op rest st s next after t g is r) =
            through.join s t (state_of outcome) (subst (ActsTo s) is (act_to op.kind rest st s g)) (run_to r)
        run_to (Runs.ends op rest st s g is) = subst (ActsTo s) is (act_to op.kind rest st s g)
        run_to (Runs.leads op rest st s e after t g is out) =
            through.join s t (state_of outcome) (subst (ActsTo s) is (act_to op.kind rest st s g)) (out_to out)

        out_to : {around : Option Address} {e : Ending} {st : Stacks} {s : State} → LeadsOut (Good env) frame code outcome around e st s → R s (state_of outcome)
        out_to (LeadsOut.over e st s is) = subst (λ o. R s (state_of o)) is (over_to e s)
        out_to (LeadsOut.taken_up at op rest e st s next after here within is r) = run_to r
        out_to (LeadsOut.passed_by at op rest e st s here within is out) = out_to out
