-- What loops mean leads from good states to good ones, where what their parts mean does.
use Rattle.std.proofs.Common.{ℕ, zero, suc, List, [], ◌∷◌, length, Option, Some, None, Bool, true, false}
use Rattle.njs_meaning.specs.Primitives.{Characters}
use Rattle.njs_meaning.specs.Values.{PlainValue, Simple}
use Rattle.njs_meaning.specs.Places.{Around}
use Rattle.njs_meaning.specs.State.{State, Outcome, Gives, and_then}
use Rattle.njs_meaning.specs.Conversions.{to_boolean}
use Rattle.njs_meaning.specs.Running.{Context, charge}
use Rattle.njs_meaning.specs.Members.{has_member, names_in}
use Rattle.njs_meaning.specs.References.{Expression, assigned, evaluated}
use Rattle.njs_meaning.specs.Completions.{Completion, Normal, Returned, Broken, Continued, Statement, is_one_of, after_body, Test, goes_on, if_so, turns, loop}
use Rattle.njs_meaning.specs.Meaning.{tests, tests_if_any, does_if_any, do_loop, while_loop, First, first_of, for_loop, each_name, list_names, for_in}
use Rattle.njs_simul.specs.Fits.{Scoped, Names, Good, Fared}
use Rattle.njs_simul.specs.Laws.{Fine}
use Rattle.njs_simul.proofs.Kept.{scoped_keeps, fares_refl, fared_then, fared_if, fared_charge}
use Rattle.njs_simul.proofs.FineSteps.{fared_assigned}
use Rattle.njs_simul.proofs.FineExpressions.{HeldFine, fine_evaluated}
use Rattle.njs_simul.proofs.FineStatements.{StatementFine}

module _ (env : Names) where
  pub fared_after_body : (labels : List (List ℕ)) (c : Completion) (next : State → Outcome Completion) (s : State) → Good env s → Fared env s (next s)
      → Fared env s (after_body labels c next s)
  fared_after_body labels Normal next s g h = h
  fared_after_body labels (Returned v) next s g h = fares_refl env s g
  fared_after_body labels (Broken label) next s g h = fares_refl env s g
  fared_after_body labels (Continued label) next s g h = fared_if env s (is_one_of label labels) (next s) (Gives (Continued label) s) h (fares_refl env s g)

  pub fared_if_so : (b : Bool) (next : State → Outcome Completion) (s : State) → Good env s → Fared env s (next s) → Fared env s (if_so b next s)
  fared_if_so true next s g h = h
  fared_if_so false next s g h = fares_refl env s g

  -- from states where a scope has these names
  abbrev pub FineAt : Around → ℕ → {A : Type 0} → (State → Outcome A) → Type 0
  FineAt names at f = (s : State) → Scoped names s.scopes at → Good env s → Fared env s (f s)

  module _ (names : Around) (at : ℕ) (labels : List (List ℕ)) (before : Test) (body : State → Outcome Completion) (behind : Test)
      (fine_before : FineAt names at before) (fine_body : FineAt names at body) (fine_behind : FineAt names at behind) where
    pub fine_turns : (n : ℕ) → FineAt names at (turns n labels before body behind)
    fine_turns zero s scoped g = fares_refl env s g
    fine_turns (suc n) s scoped g =
        let again : Test → State → Outcome Completion = λ test s. and_then (test s) (λ go. if_so go (turns n labels before body behind)) in
        let within : State → Outcome Completion = λ s. and_then (body s) (λ c. after_body labels c (again behind)) in
        fared_charge env 1 (λ s. and_then (before s) (λ go. if_so go within)) s g
        (λ t f. let scoped_t = scoped_keeps names at scoped f.keeps in
        fared_then env (before t) (λ go. if_so go within) (fine_before t scoped_t f.good)
        (λ go u k. let scoped_u = scoped_keeps names at scoped_t k.keeps in
        fared_if_so go within u k.good
        (fared_then env (body u) (λ c. after_body labels c (again behind)) (fine_body u scoped_u k.good)
        (λ c v l. let scoped_v = scoped_keeps names at scoped_u l.keeps in
        fared_after_body labels c (again behind) v l.good
        (fared_then env (behind v) (λ go. if_so go (turns n labels before body behind)) (fine_behind v scoped_v l.good)
        (λ go w m. fared_if_so go (turns n labels before body behind) w m.good (fine_turns n w (scoped_keeps names at scoped_v m.keeps) m.good)))))))

    pub fine_loop : FineAt names at (loop labels before body behind)
    fine_loop s scoped g = fine_turns s.ticks s scoped g

module _ (env : Names) (unit : ℕ) (names : Around) where
  -- ---- tests

  pub fine_tests : (a : Expression) → Fine env unit names a → Fine env unit names (tests a)
  fine_tests a h = λ x s calls same scoped g.
      fared_then env (evaluated a x s) (λ v s. Gives (to_boolean v) s) (fine_evaluated env unit names a h x s calls same scoped g) (λ v t f. fares_refl env t f.good)

  pub fine_tests_if_any : (a : Option Expression) → HeldFine env unit names a → Fine env unit names (tests_if_any a)
  fine_tests_if_any None h = λ x s calls same scoped g. fares_refl env s g
  fine_tests_if_any (Some a) h = fine_tests a h

  pub fine_does_if_any : (a : Option Expression) → HeldFine env unit names a → Fine env unit names (does_if_any a)
  fine_does_if_any None h = λ x s calls same scoped g. fares_refl env s g
  fine_does_if_any (Some a) h = λ x s calls same scoped g.
      fared_then env (evaluated a x s) (λ v. goes_on) (fine_evaluated env unit names a h x s calls same scoped g) (λ v t f. fares_refl env t f.good)

  -- ---- `do`, `while` and `for`

  fine_goes_on : (x : Context) → FineAt env names x.scope.0 goes_on
  fine_goes_on x s scoped g = fares_refl env s g

  pub fine_do_loop : (body : Statement) (test : Expression) → StatementFine env unit names body → Fine env unit names test → StatementFine env unit names (do_loop body test)
  fine_do_loop body test h k = λ labels x s calls same scoped g.
      fine_loop env names x.scope.0 labels goes_on (body [] x) (tests test x) (fine_goes_on x) (λ t inside good. h [] x t calls same inside good)
      (λ t inside good. fine_tests test k x t calls same inside good) s scoped g

  pub fine_while_loop : (test : Expression) (body : Statement) → Fine env unit names test → StatementFine env unit names body → StatementFine env unit names (while_loop test body)
  fine_while_loop test body h k = λ labels x s calls same scoped g.
      fine_loop env names x.scope.0 labels (tests test x) (body [] x) goes_on (λ t inside good. fine_tests test h x t calls same inside good)
      (λ t inside good. k [] x t calls same inside good) (fine_goes_on x) s scoped g

  pub fine_first_of : (first : Option First) → HeldFine env unit names first → Fine env unit names (first_of first)
  fine_first_of None h = λ x s calls same scoped g. fares_refl env s g
  fine_first_of (Some first) h = h

  pub fine_for_loop : (first : Option First) (test update : Option Expression) (body : Statement) → HeldFine env unit names first → HeldFine env unit names test
      → HeldFine env unit names update → StatementFine env unit names body → StatementFine env unit names (for_loop first test update body)
  fine_for_loop first test update body h k l m = λ labels x s calls same scoped g.
      fared_then env (first_of first x s) (λ c. loop labels (tests_if_any test x) (body [] x) (does_if_any update x)) (fine_first_of first h x s calls same scoped g)
      (λ c t f. fine_loop env names x.scope.0 labels (tests_if_any test x) (body [] x) (does_if_any update x)
      (λ u inside good. fine_tests_if_any test k x u calls same inside good) (λ u inside good. m [] x u calls same inside good)
      (λ u inside good. fine_does_if_any update l x u calls same inside good) t (scoped_keeps names x.scope.0 scoped f.keeps) f.good)

  -- ---- `for in`

  module _ (labels : List (List ℕ)) (v : PlainValue) (head : Expression) (body : Statement) (fine_head : Fine env unit names head) (fine_body : StatementFine env unit names body) where
    pub fine_each_name : (listed : List (List ℕ)) → Fine env unit names (each_name labels v head body listed)
    fine_each_name [] = λ x s calls same scoped g. fares_refl env s g
    fine_each_name (name ∷ listed) = λ x s calls same scoped g.
        let next = each_name labels v head body listed x in
        let turn : State → Outcome Completion = λ s.
        and_then (head x s) (λ r s. and_then (assigned r (Simple (Characters name)) x s) (λ w s. and_then (body [] x s) (λ c. after_body labels c next))) in
        fared_if env s (has_member name v s.objects) (charge 1 turn s) (next s)
        (fared_charge env 1 turn s g
        (λ t f. let scoped_t = scoped_keeps names x.scope.0 scoped f.keeps in
        fared_then env (head x t) (λ r s. and_then (assigned r (Simple (Characters name)) x s) (λ w s. and_then (body [] x s) (λ c. after_body labels c next)))
        (fine_head x t calls same scoped_t f.good)
        (λ r u k. let scoped_u = scoped_keeps names x.scope.0 scoped_t k.keeps in
        fared_then env (assigned r (Simple (Characters name)) x u) (λ w s. and_then (body [] x s) (λ c. after_body labels c next))
        (fared_assigned env r (Simple (Characters name)) x u k.good)
        (λ w y l. let scoped_y = scoped_keeps names x.scope.0 scoped_u l.keeps in
        fared_then env (body [] x y) (λ c. after_body labels c next) (fine_body [] x y calls same scoped_y l.good)
        (λ c z m. fared_after_body env labels c next z m.good (fine_each_name listed x z calls same (scoped_keeps names x.scope.0 scoped_y m.keeps) m.good))))))
        (fine_each_name listed x s calls same scoped g)

    pub fine_list_names : Fine env unit names (list_names labels v head body)
    fine_list_names = λ x s calls same scoped g.
        let listed = names_in v s.objects in
        fared_charge env (length listed) (each_name labels v head body listed x) s g
        (λ t f. fine_each_name listed x t calls same (scoped_keeps names x.scope.0 scoped f.keeps) f.good)

  pub fine_for_in : (head value : Expression) (body : Statement) → Fine env unit names head → Fine env unit names value → StatementFine env unit names body
      → StatementFine env unit names (for_in head value body)
  fine_for_in head value body h k l = λ labels x s calls same scoped g.
      fared_then env (evaluated value x s) (λ v. list_names labels v head body x) (fine_evaluated env unit names value k x s calls same scoped g)
      (λ v t f. fine_list_names labels v head body h l x t calls same (scoped_keeps names x.scope.0 scoped f.keeps) f.good)
