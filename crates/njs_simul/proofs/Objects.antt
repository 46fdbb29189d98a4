-- The code of members, arrays, objects and functions runs as they mean.
use Rattle.std.proofs.Common.{◌≡◌, ℕ, ◌+◌, List, [], ◌∷◌, ◌++◌, length, pos, Option, Some, None, refl, subst}
use Rattle.std.specs.Option.{option_map_or}
use Rattle.std.specs.Fmt.{decimal}
use Rattle.njs_code.specs.declared.op.Kind.TheVariants as kind
use Rattle.njs_code.specs.declared.op.Op.{Op}
use Rattle.njs_value.specs.declared.Cause.{Cause}
use Rattle.njs_props.specs.Names.{length_name}
use Rattle.njs_meaning.specs.Primitives.{Characters}
use Rattle.njs_meaning.specs.Values.{PlainValue, Simple, ObjectAt, is_same, given_length, stored_length, length_value}
use Rattle.njs_meaning.specs.Objects.{define_at, with_props}
use Rattle.njs_meaning.specs.Primitives as primitive
use Rattle.njs_meaning.specs.State.{State, Outcome, Gives, Throws, Spent, Asks, and_then}
use Rattle.njs_meaning.specs.Errors.{throw}
use Rattle.njs_meaning.specs.Running.{Context, after, Runs as Meaning}
use Rattle.njs_meaning.specs.Members.{with_members, put_member}
use Rattle.njs_meaning.specs.Places.{Around}
use Rattle.njs_meaning.specs.References.{Reference, Member, Expression, evaluated}
use Rattle.njs_meaning.specs.Meaning as means
use Rattle.njs_meaning.specs.Meaning.{Made, member_of, member_by, with_element, with_elements, with_fields, finished_array}
use Rattle.njs_simul.specs.Stacks.{Thrown, Stacks, context, with_operands, push}
use Rattle.njs_simul.specs.Step.{Goes, operands_of, new_array, new_object}
use Rattle.njs_simul.specs.Emission.{Here, op, deeper, IsMember, Coded, value, elements, with_length, fields}
use Rattle.njs_simul.specs.Fits.{Names, Good, Fares}
use Rattle.njs_simul.specs.Laws.{Stands, EndsWith, Comes, Given, HasForm, Running, GoesOn, GoesOut, RunsAs, ExpressionTied}
use Rattle.njs_simul.proofs.Pairs.{Each, Held, Named, each_length}
use Rattle.njs_simul.proofs.FineSteps.{fared_with_members, fared_put_member, fares_new_array, fares_new_object}
use Rattle.njs_simul.proofs.Kept.{fares_refl, fares_trans, fares_props}
use Rattle.njs_simul.proofs.Runs.{next, comes_then}
use Rattle.njs_simul.proofs.Steps.{stands_kept, stands_push, over_it, over_some, step, asks}
use Rattle.njs_simul.proofs.Sequences.{ValueRuns, value_then}

-- what is given with its form
pub comes_formed : (outcome : Outcome PlainValue) (is : Reference → Type 0) (r : Outcome Reference) (goal : Reference → State → Type 0) (thrown : PlainValue → State → Type 0)
    → Given is r → Comes outcome (λ r t. is r → goal r t) thrown r → Comes outcome goal thrown r
comes_formed outcome is (Gives r t) goal thrown g c = c g
comes_formed outcome is (Throws v t) goal thrown g c = c
comes_formed outcome is (Spent t) goal thrown g c = c
comes_formed outcome is (Asks zone q t) goal thrown g c = c

given_member : (name : List ℕ) (o : Outcome PlainValue) → Given (HasForm IsMember) (and_then o (λ v s. Gives (Member v name) s))
given_member name (Gives v s) = (v, name, refl)
given_member name (Throws v s) = tt
given_member name (Spent s) = tt
given_member name (Asks zone q s) = tt

given_named : (v : PlainValue) (o : Outcome (List ℕ)) → Given (HasForm IsMember) (and_then o (λ name s. Gives (Member v name) s))
given_named v (Gives name s) = (v, name, refl)
given_named v (Throws e s) = tt
given_named v (Spent s) = tt
given_named v (Asks zone q s) = tt

pub given_then : {A B : Type 0} (is : B → Type 0) (o : Outcome A) (f : A → State → Outcome B) → ((a : A) (s : State) → Given is (f a s)) → Given is (and_then o f)
given_then is (Gives a s) f g = g a s
given_then is (Throws v s) f g = tt
given_then is (Spent s) f g = tt
given_then is (Asks zone q s) f g = tt

module _ (env : Names) (unit : ℕ) (names : Around) where
  -- an expression that may be missing, and its code; lists of them, and of named ones
  abbrev pub HeldTied : Option Expression → Option Coded → Type 0
  HeldTied = Held (ExpressionTied env unit names)

  abbrev pub EachHeldTied : List (Option Expression) → List (Option Coded) → Type 0
  EachHeldTied = Each HeldTied

  abbrev pub EachNamedTied : List (List ℕ × Expression) → List (List ℕ × Coded) → Type 0
  EachNamedTied = Each (Named (ExpressionTied env unit names))

  -- ---- members

  pub member_forms : (a : Expression) (name : List ℕ) (x : Context) (s : State) → Given (HasForm IsMember) (means.member a name x s)
  member_forms a name x s = given_then (HasForm IsMember) (evaluated a x s) (λ v. member_of v name x) (λ v t. given_member name (with_members v (Gives v) t))

  pub index_forms : (a b : Expression) (x : Context) (s : State) → Given (HasForm IsMember) (means.index a b x s)
  index_forms a b x s =
      given_then (HasForm IsMember) (evaluated a x s) (λ v. after (evaluated b) (member_by v) x) (λ v t.
      given_then (HasForm IsMember) (evaluated b x t) (λ w. member_by v w x) (λ w u.
      given_then (HasForm IsMember) (with_members v (Gives v) u) _ (λ v' y. given_named v' _)))

  pub member_runs : (a : Expression) (ca : Coded) (name : List ℕ) → ExpressionTied env unit names a ca
      → RunsAs env unit names (HasForm IsMember) operands_of (means.member a name)
      (λ here rest. value ca here (op kind.Base (deeper 1 here) (op (kind.Str name) (deeper 1 here) rest)))
  member_runs a ca name ta run here rest st s same ends stands c =
      let x = context run.frame st in let text = op (kind.Str name) (deeper 1 here) rest in
      value_then env unit names a ca ta run here (op kind.Base (deeper 1 here) text) st s same stands st (over_it st) _ (λ v. member_of v name x) ends
      (λ v t ends fares c. step env unit run kind.Base (deeper 1 here) text (push v st) t fares.good
      (asks env unit run here (with_members v (Gives v) t) st st (λ v t. Goes text (push v st) t) (over_it st)
      (comes_then env run.outcome t (with_members v (Gives v) t) (λ v s. Gives (Member v name) s) _ _ _ (fared_with_members env v (Gives v) t fares.good (fares_refl env t fares.good))
      (λ v u fares c. step env unit run (kind.Str name) (deeper 1 here) rest (push v st) u fares.good (c (v, name, refl))) c))) c

  pub index_runs : (a b : Expression) (ca cb : Coded) → ExpressionTied env unit names a ca → ExpressionTied env unit names b cb
      → RunsAs env unit names (HasForm IsMember) operands_of (means.index a b)
      (λ here rest. value ca here (value cb (deeper 1 here) (op kind.Key (deeper 2 here) rest)))
  index_runs a b ca cb ta tb run here rest st s same ends stands c =
      let x = context run.frame st in let last = op kind.Key (deeper 2 here) rest in
      value_then env unit names a ca ta run here (value cb (deeper 1 here) last) st s same stands st (over_it st) _ (λ v. after (evaluated b) (member_by v) x) ends
      (λ v t ends fares c.
      value_then env unit names b cb tb run (deeper 1 here) last (push v st) t same (stands_push env here st t v (stands_kept env here st s t stands fares)) st (over_some (v ∷ []) st) _ (λ w. member_by v w x) ends
      (λ w u ends fares c. step env unit run kind.Key (deeper 2 here) rest (push w (push v st)) u fares.good
      (asks env unit run here (member_by v w x u) (push w (push v st)) st (λ r t. Goes rest (with_operands st (operands_of r ++ st.operands)) t) (over_some (w ∷ v ∷ []) st)
      (comes_formed run.outcome (HasForm IsMember) (member_by v w x u) _ _ (given_then (HasForm IsMember) (with_members v (Gives v) u) _ (λ v' y. given_named v' _)) c))) c) c

  -- ---- elements

  -- a property of an object that is being made, and what follows
  define_comes : (outcome : Outcome PlainValue) (cause : Option Cause) (t : State) (o : PlainValue) (go : State → Outcome PlainValue) (goal then_on : PlainValue → State → Type 0) (thrown : PlainValue → State → Type 0)
      → (Comes outcome goal thrown (go t) → then_on o t)
      → Comes outcome goal thrown (option_map_or (λ cause. throw cause t) cause (go t))
      → Comes outcome then_on thrown (option_map_or (λ cause. throw cause t) cause (Gives o t))
  define_comes outcome None t o go goal then_on thrown k c = k c
  define_comes outcome (Some cause) t o go goal then_on thrown k c = c

  defines : (run : Running env unit) (here : Here) (rest : List Op) (st : Stacks) (s : State) (at : ℕ) (name : List ℕ) (v : PlainValue) (go : State → Outcome PlainValue) (goal : PlainValue → State → Type 0)
      → Good env s
      → ((t : State) → Fares env s t → Comes run.outcome goal (λ e t. GoesOut env unit run here (Thrown e) st t) (go t) → GoesOn env unit run rest (push (ObjectAt at) st) t)
      → Comes run.outcome goal (λ e t. GoesOut env unit run here (Thrown e) st t) (with_element at name v go s)
      → GoesOn env unit run (op (kind.Define name) (deeper 2 here) rest) (push v (push (ObjectAt at) st)) s
  defines run here rest st s at name v go goal good k c =
      let change = define_at given_length stored_length length_value (Simple primitive.Undefined) is_same name (means.ordinary v) s.objects at in
      let t : State = record s { objects = with_props s.objects at change.props } in
      step env unit run (kind.Define name) (deeper 2 here) rest (push v (push (ObjectAt at) st)) s good
      (asks env unit run here (with_element at name v (Gives (ObjectAt at)) s) st st (λ v t. Goes rest (push v st) t) (over_it st)
      (define_comes run.outcome change.thrown t (ObjectAt at) go goal _ _ (k t (fares_props env at change.props s good)) c))

  pub elements_run : (es : List (Option Expression)) (cs : List (Option Coded)) → EachHeldTied es cs
      → (run : Running env unit) (here : Here) (rest : List Op) (st : Stacks) (s : State) (i at : ℕ) (go : Meaning PlainValue) (goal : PlainValue → State → Type 0)
      → here.names ≡ names → EndsWith run.code (elements i cs here rest) → Stands env here st s
      → ((t : State) → EndsWith run.code rest → Fares env s t → Comes run.outcome goal (λ e t. GoesOut env unit run here (Thrown e) st t) (go (context run.frame st) t) → GoesOn env unit run rest (push (ObjectAt at) st) t)
      → Comes run.outcome goal (λ e t. GoesOut env unit run here (Thrown e) st t) (with_elements at i es go (context run.frame st) s)
      → GoesOn env unit run (elements i cs here rest) (push (ObjectAt at) st) s
  elements_run [] [] t run here rest st s i at go goal same ends stands k c = k s ends (fares_refl env s stands.good) c
  elements_run (None ∷ es) (None ∷ cs) t run here rest st s i at go goal same ends stands k c = elements_run es cs t.1 run here rest st s (i + 1) at go goal same ends stands k c
  elements_run (Some a ∷ es) (Some d ∷ cs) t run here rest st s i at go goal same ends stands k c =
      let x = context run.frame st in let others = elements (i + 1) cs here rest in
      let later = with_elements at (i + 1) es go x in
      value_then env unit names a d t.0 run (deeper 1 here) (op (kind.Define (decimal i)) (deeper 2 here) others) (push (ObjectAt at) st) s same (stands_push env here st s (ObjectAt at) stands) st (over_some (ObjectAt at ∷ []) st) goal
      (λ v. with_element at (decimal i) v later) ends
      (λ v u ends fares c. defines run here others st u at (decimal i) v later goal fares.good
      (λ y fares' c. let all = fares_trans env fares fares' in
      elements_run es cs t.1 run here rest st y (i + 1) at go goal same (next run.code _ others ends) (stands_kept env here st s y stands all)
      (λ z ends fares2 c. k z ends (fares_trans env all fares2) c) c) c) c
  elements_run [] (c ∷ cs) t run here rest st s i at go goal same ends stands k d = absurd t
  elements_run (m ∷ ms) [] t run here rest st s i at go goal same ends stands k d = absurd t
  elements_run (None ∷ es) (Some d ∷ cs) t run here rest st s i at go goal same ends stands k c = absurd t.0
  elements_run (Some a ∷ es) (None ∷ cs) t run here rest st s i at go goal same ends stands k c = absurd t.0

  pub fields_run : (ps : List (List ℕ × Expression)) (cs : List (List ℕ × Coded)) → EachNamedTied ps cs
      → (run : Running env unit) (here : Here) (rest : List Op) (st : Stacks) (s : State) (at : ℕ) (go : Meaning PlainValue) (goal : PlainValue → State → Type 0)
      → here.names ≡ names → EndsWith run.code (fields cs here rest) → Stands env here st s
      → ((t : State) → EndsWith run.code rest → Fares env s t → Comes run.outcome goal (λ e t. GoesOut env unit run here (Thrown e) st t) (go (context run.frame st) t) → GoesOn env unit run rest (push (ObjectAt at) st) t)
      → Comes run.outcome goal (λ e t. GoesOut env unit run here (Thrown e) st t) (with_fields at ps go (context run.frame st) s)
      → GoesOn env unit run (fields cs here rest) (push (ObjectAt at) st) s
  fields_run [] [] t run here rest st s at go goal same ends stands k c = k s ends (fares_refl env s stands.good) c
  fields_run (p ∷ ps) (d ∷ cs) t run here rest st s at go goal same ends stands k c =
      let x = context run.frame st in let others = fields cs here rest in
      let later = with_fields at ps go x in
      value_then env unit names p.1 d.1 t.0.1 run (deeper 1 here) (op (kind.Define d.0) (deeper 2 here) others) (push (ObjectAt at) st) s same (stands_push env here st s (ObjectAt at) stands) st (over_some (ObjectAt at ∷ []) st) goal
      (λ v. with_element at p.0 v later) ends
      (λ v u ends fares c. subst (λ name. GoesOn env unit run (op (kind.Define name) (deeper 2 here) others) (push v (push (ObjectAt at) st)) u) t.0.0
      (defines run here others st u at p.0 v later goal fares.good
      (λ y fares' c. let all = fares_trans env fares fares' in
      fields_run ps cs t.1 run here rest st y at go goal same (next run.code _ others ends) (stands_kept env here st s y stands all)
      (λ z ends fares2 c. k z ends (fares_trans env all fares2) c) c) c)) c
  fields_run [] (c ∷ cs) t run here rest st s at go goal same ends stands k d = absurd t
  fields_run (m ∷ ms) [] t run here rest st s at go goal same ends stands k d = absurd t

  -- the length of an array is set last
  pub length_runs : (n at : ℕ) (run : Running env unit) (here : Here) (rest : List Op) (st : Stacks) (s : State) → Good env s
      → Comes run.outcome (λ v t. GoesOn env unit run rest (push v st) t) (λ e t. GoesOut env unit run here (Thrown e) st t) (finished_array at n (context run.frame st) s)
      → GoesOn env unit run (with_length n here rest) (push (ObjectAt at) st) s
  length_runs n at run here rest st s good c =
      let base = push (ObjectAt at) st in let drops = op kind.Drop (deeper 2 here) rest in let puts = op kind.Put (deeper 4 here) drops in
      let number = op (kind.Num (pos n)) (deeper 3 here) puts in let name = op (kind.Str length_name) (deeper 2 here) number in
      step env unit run (kind.Tuck 0) (deeper 1 here) name base s good
      (step env unit run (kind.Str length_name) (deeper 2 here) number (push (ObjectAt at) base) s good
      (step env unit run (kind.Num (pos n)) (deeper 3 here) puts (push (Simple (Characters length_name)) (push (ObjectAt at) base)) s good
      (step env unit run kind.Put (deeper 4 here) drops (push (length_value n) (push (Simple (Characters length_name)) (push (ObjectAt at) base))) s good
      (asks env unit run here (put_member length_name (ObjectAt at) (length_value n) s) base st (λ v t. Goes drops (push v base) t) (over_some (ObjectAt at ∷ []) st)
      (comes_then env run.outcome s (put_member length_name (ObjectAt at) (length_value n) s) (λ v s. Gives (ObjectAt at) s) _ _ _ (fared_put_member env length_name (ObjectAt at) (length_value n) s good)
      (λ v t fares c. step env unit run kind.Drop (deeper 2 here) rest (push v base) t fares.good c) c)))))

  pub array_runs : (es : List (Option Expression)) (cs : List (Option Coded)) → EachHeldTied es cs
      → ValueRuns env unit names (λ x s. with_elements (length s.objects) 0 es (finished_array (length s.objects) (length es)) x (new_array s))
      (λ here rest. op kind.NewArray here (elements 0 cs here (with_length (length cs) here rest)))
  array_runs es cs t run here rest st s same ends stands c =
      let last = with_length (length cs) here rest in let at = length s.objects in
      let fares = fares_new_array env s stands.good in
      step env unit run kind.NewArray here (elements 0 cs here last) st s stands.good
      (elements_run es cs t run here last st (new_array s) 0 at (finished_array at (length es)) _ same (next run.code _ (elements 0 cs here last) ends) (stands_kept env here st s (new_array s) stands fares)
      (λ u ends fares c. length_runs (length cs) at run here rest st u fares.good
      (subst (λ n. Comes run.outcome (λ v t. GoesOn env unit run rest (push v st) t) (λ e t. GoesOut env unit run here (Thrown e) st t) (finished_array at n (context run.frame st) u)) (each_length HeldTied es cs t) c)) c)

  pub object_runs : (ps : List (List ℕ × Expression)) (cs : List (List ℕ × Coded)) → EachNamedTied ps cs
      → ValueRuns env unit names (λ x s. with_fields (length s.objects) ps (λ x. Gives (ObjectAt (length s.objects))) x (new_object s))
      (λ here rest. op kind.NewObject here (fields cs here rest))
  object_runs ps cs t run here rest st s same ends stands c =
      let at = length s.objects in
      let fares = fares_new_object env s stands.good in
      step env unit run kind.NewObject here (fields cs here rest) st s stands.good
      (fields_run ps cs t run here rest st (new_object s) at (λ x. Gives (ObjectAt at)) _ same (next run.code _ (fields cs here rest) ends) (stands_kept env here st s (new_object s) stands fares)
      (λ u ends fares c. c) c)
