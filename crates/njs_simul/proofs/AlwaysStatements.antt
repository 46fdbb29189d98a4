-- What statements mean ends, from every state, as the calls in it do.
use Rattle.std.proofs.Common.{ℕ, zero, suc, List, [], ◌∷◌, ◌++◌, length, Option, Some, None, Bool, true, false, refl}
use Rattle.std.specs.Option.{option_map_or}
use Rattle.njs_meaning.specs.Primitives.{Characters}
use Rattle.njs_meaning.specs.Values.{PlainValue, Simple, is_same}
use Rattle.njs_meaning.specs.State.{State, Outcome, Gives, Throws, Spent, Asks, and_then}
use Rattle.njs_meaning.specs.Conversions.{to_boolean}
use Rattle.njs_meaning.specs.Running.{Context, Runs, charge, choose}
use Rattle.njs_meaning.specs.Scopes.{bound, next_scope, with_scope, assign_name}
use Rattle.njs_meaning.specs.Members.{has_member, names_in}
use Rattle.njs_meaning.specs.References.{Expression, assigned, evaluated}
use Rattle.njs_meaning.specs.Completions.{Completion, Normal, Returned, Broken, Continued, Statement, unless_ended, in_turn, is_one_of, after_body, Test, goes_on, if_so, turns, loop, caught_by, done_at_last, after_switch}
use Rattle.njs_meaning.specs.Meaning.{declare, value_and_on, optional, if_else, tests, tests_if_any, does_if_any, do_loop, while_loop, First, first_of, for_loop, each_name, list_names, for_in, value_or_undefined, return, throw_value, Branch, bodies, from_default, from_met, switch, handler, with_handler, with_last, try_catch, labelled, begun_statement, ends_with}
use Rattle.njs_meaning.specs.Replies.{state_of}
use Rattle.njs_simul.specs.Laws.{Given}
use Rattle.njs_simul.proofs.FineStatements.{given_then, given_choose}
use Rattle.njs_simul.proofs.AskingSteps.{IsThrough, To, stays, to_then, to_if, to_charge}
use Rattle.njs_simul.proofs.AlwaysExpressions.{Every, IfAny, Always, HeldAlways, EachNamedHeldAlways, to_assign_name, to_assigned, always_evaluated}

module _ (R : State → State → Type 0) where
  -- a statement ends so, whatever labels stand before it
  abbrev pub StatementAlways : Statement → Type 0
  StatementAlways m = (labels : List (List ℕ)) → Always R (m labels)

  abbrev pub EachStatementAlways : List Statement → Type 0
  EachStatementAlways ms = Every StatementAlways ms

  abbrev pub HeldStatementAlways : Option Statement → Type 0
  HeldStatementAlways m = IfAny StatementAlways m

  abbrev pub CaughtAlways : Option (List ℕ × List Statement) → Type 0
  CaughtAlways caught = IfAny (λ c. EachStatementAlways c.1) caught

  abbrev pub LastAlways : Option (List Statement) → Type 0
  LastAlways last = IfAny EachStatementAlways last

  pub record BranchAlways (b : Branch) : Type 0 where
    pub test : HeldAlways R b.test
    pub body : EachStatementAlways b.body

  abbrev pub EachBranchAlways : List Branch → Type 0
  EachBranchAlways bs = Every BranchAlways bs

module _ (R : State → State → Type 0) (through : IsThrough R) where
  -- what is known of what is given
  to_then_so : {A B : Type 0} (is : A → Type 0) (s : State) (o : Outcome A) (f : A → State → Outcome B) → To R through s o → Given is o → ((a : A) (t : State) → is a → To R through t (f a t))
      → To R through s (and_then o f)
  to_then_so is s (Gives a t) f h so k = through.join s t (state_of (f a t)) h (k a t so)
  to_then_so is s (Throws v t) f h so k = h
  to_then_so is s (Spent t) f h so k = h
  to_then_so is s (Asks zone q t) f h so k = h

  -- ---- endings

  to_unless_ended : (c : Completion) (next : State → Outcome Completion) (s : State) → To R through s (next s) → To R through s (unless_ended c next s)
  to_unless_ended Normal next s h = h
  to_unless_ended (Returned v) next s h = stays R through s
  to_unless_ended (Broken label) next s h = stays R through s
  to_unless_ended (Continued label) next s h = stays R through s

  to_caught_by : (s : State) (handler : PlainValue → State → Outcome Completion) (o : Outcome Completion) → To R through s o → ((v : PlainValue) (t : State) → To R through t (handler v t))
      → To R through s (caught_by handler o)
  to_caught_by s handler (Gives c t) h by = h
  to_caught_by s handler (Throws v t) h by = through.join s t (state_of (handler v t)) h (by v t)
  to_caught_by s handler (Spent t) h by = h
  to_caught_by s handler (Asks zone q t) h by = h

  -- what is done at last, and then the pending ending
  to_pending : (last pending : State → Outcome Completion) (s : State) → To R through s (last s) → ((t : State) → To R through t (pending t)) → To R through s (and_then (last s) (λ d. unless_ended d pending))
  to_pending last pending s h k = to_then R through s (last s) (λ d. unless_ended d pending) h (λ d t. to_unless_ended d pending t (k t))

  to_done_at_last : (s : State) (last : State → Outcome Completion) (o : Outcome Completion) → To R through s o → ((t : State) → To R through t (last t)) → To R through s (done_at_last last o)
  to_done_at_last s last (Gives c t) h by =
      through.join s t (state_of (and_then (last t) (λ d. unless_ended d (Gives c)))) h (to_pending last (Gives c) t (by t) (λ u. stays R through u))
  to_done_at_last s last (Throws v t) h by =
      through.join s t (state_of (and_then (last t) (λ d. unless_ended d (Throws v)))) h (to_pending last (Throws v) t (by t) (λ u. stays R through u))
  to_done_at_last s last (Spent t) h by = h
  to_done_at_last s last (Asks zone q t) h by = h

  -- ---- one after the other

  pub always_in_turn : (body : List Statement) → EachStatementAlways R body → Always R (in_turn body)
  always_in_turn [] all = λ x s calls. stays R through s
  always_in_turn (a ∷ rest) all = λ x s calls.
      to_then R through s (a [] x s) (λ c. unless_ended c (in_turn rest x)) (all.0 [] x s calls) (λ c t. to_unless_ended c (in_turn rest x) t (always_in_turn rest all.1 x t calls))

  pub always_ends_with : (c : Completion) → StatementAlways R (ends_with c)
  always_ends_with c = λ labels x s calls. stays R through s

  pub always_begun_statement : (a : Statement) → StatementAlways R a → StatementAlways R (begun_statement a)
  always_begun_statement a h = λ labels x s calls. to_charge R through 1 (a labels x) s (λ t is. h labels x t calls)

  pub always_labelled : (label : List ℕ) (body : Statement) → StatementAlways R body → StatementAlways R (labelled label body)
  always_labelled label body h = λ labels. h (label ∷ labels)

  -- ---- expressions and declarations

  pub always_value_and_on : (a : Expression) → Always R a → Always R (value_and_on a)
  always_value_and_on a h = λ x s calls. to_then R through s (evaluated a x s) (λ v s. Gives Normal s) (always_evaluated R through a h x s calls) (λ v t. stays R through t)

  pub always_declare : (vs : List (List ℕ × Option Expression)) → EachNamedHeldAlways R vs → Always R (declare vs)
  always_declare [] all = λ x s calls. stays R through s
  always_declare ((name, None) ∷ vs) all = always_declare vs all.1
  always_declare ((name, Some a) ∷ vs) all = λ x s calls.
      to_then R through s (evaluated a x s) (λ v s. and_then (assign_name name v x s) (λ w s. declare vs x s)) (always_evaluated R through a all.0 x s calls)
      (λ v t. to_then R through t (assign_name name v x t) (λ w s. declare vs x s) (to_assign_name R through name v x t) (λ w u. always_declare vs all.1 x u calls))

  -- ---- `if`, `return` and `throw`

  always_optional : (a : Option Statement) → HeldStatementAlways R a → Always R (optional a)
  always_optional None h = λ x s calls. stays R through s
  always_optional (Some a) h = h []

  pub always_if_else : (test : Expression) (body : Statement) (other : Option Statement) → Always R test → StatementAlways R body → HeldStatementAlways R other → StatementAlways R (if_else test body other)
  always_if_else test body other h k l = λ labels x s calls.
      to_then R through s (evaluated test x s) (λ v. choose (to_boolean v) (body [] x) (optional other x)) (always_evaluated R through test h x s calls)
      (λ v t. to_if R through t (to_boolean v) (body [] x t) (optional other x t) (k [] x t calls) (always_optional other l x t calls))

  always_value_or_undefined : (a : Option Expression) → HeldAlways R a → Always R (value_or_undefined a)
  always_value_or_undefined None h = λ x s calls. stays R through s
  always_value_or_undefined (Some a) h = always_evaluated R through a h

  pub always_return : (a : Option Expression) → HeldAlways R a → StatementAlways R (return a)
  always_return a h = λ labels x s calls. to_then R through s (value_or_undefined a x s) (λ v s. Gives (Returned v) s) (always_value_or_undefined a h x s calls) (λ v t. stays R through t)

  pub always_throw_value : (a : Expression) → Always R a → StatementAlways R (throw_value a)
  always_throw_value a h = λ labels x s calls. to_then R through {B = Completion} s (evaluated a x s) (λ v s. Throws v s) (always_evaluated R through a h x s calls) (λ v t. stays R through t)

  -- ---- `switch`

  each_and : (front back : List Statement) → EachStatementAlways R front → EachStatementAlways R back → EachStatementAlways R (front ++ back)
  each_and [] back h k = k
  each_and (a ∷ front) back h k = (h.0, each_and front back h.1 k)

  always_bodies : (bs : List Branch) → EachBranchAlways R bs → EachStatementAlways R (bodies bs)
  always_bodies [] all = tt
  always_bodies (b ∷ bs) all = each_and b.body (bodies bs) all.0.body (always_bodies bs all.1)

  default_by : (test : Option Expression) (otherwise here : List Statement) → EachStatementAlways R otherwise → EachStatementAlways R here → EachStatementAlways R (option_map_or (λ test. otherwise) test here)
  default_by None otherwise here h k = k
  default_by (Some test) otherwise here h k = h

  always_from_default : (bs : List Branch) → EachBranchAlways R bs → EachStatementAlways R (from_default bs)
  always_from_default [] all = tt
  always_from_default (b ∷ bs) all = default_by b.test (from_default bs) (bodies (b ∷ bs)) (always_from_default bs all.1) (always_bodies (b ∷ bs) all)

  met_by : (v : PlainValue) (test : Option Expression) (here : List Statement) (next : Runs (List Statement)) → HeldAlways R test → Always R next
      → Always R (λ x s. option_map_or (λ test. and_then (evaluated test x s) (λ w. choose (is_same v w) (Gives here) (next x))) test (next x s))
  met_by v None here next h k = k
  met_by v (Some test) here next h k = λ x s calls.
      to_then R through s (evaluated test x s) (λ w. choose (is_same v w) (Gives here) (next x)) (always_evaluated R through test h x s calls)
      (λ w t. to_if R through t (is_same v w) (Gives here t) (next x t) (stays R through t) (k x t calls))

  always_from_met : (v : PlainValue) (bs : List Branch) (otherwise : List Statement) → EachBranchAlways R bs → Always R (from_met v bs otherwise)
  always_from_met v [] otherwise all = λ x s calls. stays R through s
  always_from_met v (b ∷ bs) otherwise all = met_by v b.test (bodies (b ∷ bs)) (from_met v bs otherwise) all.0.test (always_from_met v bs otherwise all.1)

  -- what is met are statements that end so
  met_given : (v : PlainValue) (test : Option Expression) (here : List Statement) (next : Runs (List Statement)) (x : Context) (s : State)
      → EachStatementAlways R here → ((t : State) → Given (EachStatementAlways R) (next x t))
      → Given (EachStatementAlways R) (option_map_or (λ test. and_then (evaluated test x s) (λ w. choose (is_same v w) (Gives here) (next x))) test (next x s))
  met_given v None here next x s h k = k s
  met_given v (Some test) here next x s h k =
      given_then (EachStatementAlways R) (evaluated test x s) (λ w. choose (is_same v w) (Gives here) (next x)) (λ w t. given_choose (EachStatementAlways R) (is_same v w) (Gives here) (next x) t h (k t))

  given_from_met : (v : PlainValue) (bs : List Branch) (otherwise : List Statement) (x : Context) (s : State) → EachBranchAlways R bs → EachStatementAlways R otherwise
      → Given (EachStatementAlways R) (from_met v bs otherwise x s)
  given_from_met v [] otherwise x s all h = h
  given_from_met v (b ∷ bs) otherwise x s all h = met_given v b.test (bodies (b ∷ bs)) (from_met v bs otherwise) x s (always_bodies (b ∷ bs) all) (λ t. given_from_met v bs otherwise x t all.1 h)

  pub always_switch : (value : Expression) (branches : List Branch) → Always R value → EachBranchAlways R branches → StatementAlways R (switch value branches)
  always_switch value branches h all = λ labels x s calls.
      let otherwise = from_default branches in
      to_then R through s (evaluated value x s) (λ v s. and_then (from_met v branches otherwise x s) (λ run s. and_then (in_turn run x s) (λ c s. Gives (after_switch c) s)))
      (always_evaluated R through value h x s calls)
      (λ v t. to_then_so (EachStatementAlways R) t (from_met v branches otherwise x t) (λ run s. and_then (in_turn run x s) (λ c s. Gives (after_switch c) s))
      (always_from_met v branches otherwise all x t calls) (given_from_met v branches otherwise x t all (always_from_default branches all))
      (λ run u so. to_then R through u (in_turn run x u) (λ c s. Gives (after_switch c) s) (always_in_turn run so x u calls) (λ c w. stays R through w)))

  -- ---- `try`

  always_handler : (name : List ℕ) (body : List Statement) → EachStatementAlways R body → (v : PlainValue) → Always R (λ x. handler name body x v)
  always_handler name body all v = λ x s calls.
      let t = with_scope x.scope (bound name v ∷ []) s in
      through.join s t (state_of (handler name body x v s)) (through.same s t refl refl) (always_in_turn body all (record x { scope = next_scope s }) t calls)

  always_with_handler : (caught : Option (List ℕ × List Statement)) (block : Runs Completion) → CaughtAlways R caught → Always R block → Always R (with_handler caught block)
  always_with_handler None block all h = h
  always_with_handler (Some caught) block all h = λ x s calls.
      to_caught_by s (handler caught.0 caught.1 x) (block x s) (h x s calls) (λ v t. always_handler caught.0 caught.1 all v x t calls)

  always_with_last : (last : Option (List Statement)) (block : Runs Completion) → LastAlways R last → Always R block → Always R (with_last last block)
  always_with_last None block all h = h
  always_with_last (Some last) block all h = λ x s calls. to_done_at_last s (in_turn last x) (block x s) (h x s calls) (λ t. always_in_turn last all x t calls)

  pub always_try_catch : (body : List Statement) (caught : Option (List ℕ × List Statement)) (last : Option (List Statement)) → EachStatementAlways R body → CaughtAlways R caught → LastAlways R last
      → StatementAlways R (try_catch body caught last)
  always_try_catch body caught last h k l = λ labels. always_with_last last (with_handler caught (in_turn body)) l (always_with_handler caught (in_turn body) k (always_in_turn body h))

  -- ---- loops

  to_after_body : (labels : List (List ℕ)) (c : Completion) (next : State → Outcome Completion) (s : State) → To R through s (next s) → To R through s (after_body labels c next s)
  to_after_body labels Normal next s h = h
  to_after_body labels (Returned v) next s h = stays R through s
  to_after_body labels (Broken label) next s h = stays R through s
  to_after_body labels (Continued label) next s h = to_if R through s (is_one_of label labels) (next s) (Gives (Continued label) s) h (stays R through s)

  to_if_so : (b : Bool) (next : State → Outcome Completion) (s : State) → To R through s (next s) → To R through s (if_so b next s)
  to_if_so true next s h = h
  to_if_so false next s h = stays R through s

  module _ (labels : List (List ℕ)) (before : Test) (body : State → Outcome Completion) (behind : Test)
      (to_before : (s : State) → To R through s (before s)) (to_body : (s : State) → To R through s (body s)) (to_behind : (s : State) → To R through s (behind s)) where
    to_turns : (n : ℕ) (s : State) → To R through s (turns n labels before body behind s)
    to_turns zero s = stays R through s
    to_turns (suc n) s =
        let next : State → Outcome Completion = turns n labels before body behind in
        let again : State → Outcome Completion = λ s. and_then (behind s) (λ go. if_so go next) in
        let within : State → Outcome Completion = λ s. and_then (body s) (λ c. after_body labels c again) in
        to_charge R through 1 (λ s. and_then (before s) (λ go. if_so go within)) s
        (λ t is. to_then R through t (before t) (λ go. if_so go within) (to_before t)
        (λ go u. to_if_so go within u (to_then R through u (body u) (λ c. after_body labels c again) (to_body u)
        (λ c v. to_after_body labels c again v (to_then R through v (behind v) (λ go. if_so go next) (to_behind v) (λ go w. to_if_so go next w (to_turns n w)))))))

    to_loop : (s : State) → To R through s (loop labels before body behind s)
    to_loop s = to_turns s.ticks s

  always_tests : (a : Expression) → Always R a → Always R (tests a)
  always_tests a h = λ x s calls. to_then R through s (evaluated a x s) (λ v s. Gives (to_boolean v) s) (always_evaluated R through a h x s calls) (λ v t. stays R through t)

  always_tests_if_any : (a : Option Expression) → HeldAlways R a → Always R (tests_if_any a)
  always_tests_if_any None h = λ x s calls. stays R through s
  always_tests_if_any (Some a) h = always_tests a h

  always_does_if_any : (a : Option Expression) → HeldAlways R a → Always R (does_if_any a)
  always_does_if_any None h = λ x s calls. stays R through s
  always_does_if_any (Some a) h = λ x s calls. to_then R through s (evaluated a x s) (λ v. goes_on) (always_evaluated R through a h x s calls) (λ v t. stays R through t)

  pub always_do_loop : (body : Statement) (test : Expression) → StatementAlways R body → Always R test → StatementAlways R (do_loop body test)
  always_do_loop body test h k = λ labels x s calls. to_loop labels goes_on (body [] x) (tests test x) (λ t. stays R through t) (λ t. h [] x t calls) (λ t. always_tests test k x t calls) s

  pub always_while_loop : (test : Expression) (body : Statement) → Always R test → StatementAlways R body → StatementAlways R (while_loop test body)
  always_while_loop test body h k = λ labels x s calls. to_loop labels (tests test x) (body [] x) goes_on (λ t. always_tests test h x t calls) (λ t. k [] x t calls) (λ t. stays R through t) s

  always_first_of : (first : Option First) → HeldAlways R first → Always R (first_of first)
  always_first_of None h = λ x s calls. stays R through s
  always_first_of (Some first) h = h

  pub always_for_loop : (first : Option First) (test update : Option Expression) (body : Statement) → HeldAlways R first → HeldAlways R test → HeldAlways R update → StatementAlways R body
      → StatementAlways R (for_loop first test update body)
  always_for_loop first test update body h k l m = λ labels x s calls.
      to_then R through s (first_of first x s) (λ c. loop labels (tests_if_any test x) (body [] x) (does_if_any update x)) (always_first_of first h x s calls)
      (λ c t. to_loop labels (tests_if_any test x) (body [] x) (does_if_any update x) (λ u. always_tests_if_any test k x u calls) (λ u. m [] x u calls) (λ u. always_does_if_any update l x u calls) t)

  -- ---- `for in`

  module _ (labels : List (List ℕ)) (v : PlainValue) (head : Expression) (body : Statement) (always_head : Always R head) (always_body : StatementAlways R body) where
    always_each_name : (listed : List (List ℕ)) → Always R (each_name labels v head body listed)
    always_each_name [] = λ x s calls. stays R through s
    always_each_name (name ∷ listed) = λ x s calls.
        let next = each_name labels v head body listed x in
        let turn : State → Outcome Completion = λ s.
        and_then (head x s) (λ r s. and_then (assigned r (Simple (Characters name)) x s) (λ w s. and_then (body [] x s) (λ c. after_body labels c next))) in
        to_if R through s (has_member name v s.objects) (charge 1 turn s) (next s)
        (to_charge R through 1 turn s
        (λ t is. to_then R through t (head x t) (λ r s. and_then (assigned r (Simple (Characters name)) x s) (λ w s. and_then (body [] x s) (λ c. after_body labels c next))) (always_head x t calls)
        (λ r u. to_then R through u (assigned r (Simple (Characters name)) x u) (λ w s. and_then (body [] x s) (λ c. after_body labels c next)) (to_assigned R through r (Simple (Characters name)) x u)
        (λ w y. to_then R through y (body [] x y) (λ c. after_body labels c next) (always_body [] x y calls) (λ c z. to_after_body labels c next z (always_each_name listed x z calls))))))
        (always_each_name listed x s calls)

    always_list_names : Always R (list_names labels v head body)
    always_list_names = λ x s calls.
        let listed = names_in v s.objects in
        to_charge R through (length listed) (each_name labels v head body listed x) s (λ t is. always_each_name listed x t calls)

  pub always_for_in : (head value : Expression) (body : Statement) → Always R head → Always R value → StatementAlways R body → StatementAlways R (for_in head value body)
  always_for_in head value body h k l = λ labels x s calls.
      to_then R through s (evaluated value x s) (λ v. list_names labels v head body x) (always_evaluated R through value k x s calls) (λ v t. always_list_names labels v head body h l x t calls)
