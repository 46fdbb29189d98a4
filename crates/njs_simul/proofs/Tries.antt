-- `try` in a run.
use Rattle.std.proofs.Common.{◌≡◌, ℕ, suc, ◌+◌, List, [], ◌∷◌, length, true, Option, Some, None, refl, ap, sym, subst}
use Rattle.njs_code.specs.declared.op.Kind.TheVariants as kind
use Rattle.njs_code.specs.declared.op.Op.{Op}
use Rattle.njs_meaning.specs.Values.{PlainValue}
use Rattle.njs_meaning.specs.State.{State, Outcome, Gives, Throws}
use Rattle.njs_meaning.specs.Running.{Context, Runs as Meaning}
use Rattle.njs_meaning.specs.Scopes.{bound, with_scope}
use Rattle.njs_meaning.specs.Places.{Around}
use Rattle.njs_meaning.specs.Completions.{Completion, Normal, Returned, Broken, Continued, Statement, caught_by}
use Rattle.njs_meaning.specs.Completions as completions
use Rattle.njs_meaning.specs.Meaning as means
use Rattle.njs_simul.specs.Stacks.{Ending, Ended, Thrown, Stacks, context, push, inner}
use Rattle.njs_simul.specs.Step.{resumed}
use Rattle.njs_simul.specs.Emission.{Here, Emits, op, address, deeper, inside}
use Rattle.njs_simul.specs.EmissionOfStatements.{CodedStatement, CodedPart, in_turn, in_turn_size, in_catch, waiting, handled, with_handler, with_last}
use Rattle.njs_simul.specs.Fits.{Names, Good}
use Rattle.njs_simul.specs.Laws.{Stands, EndsWith, Writes, Running, GoesOn, GoesOut, Follows, RunsOn, PartTied}
use Rattle.njs_simul.proofs.Kept.{scoped_inner, fares_scope}
use Rattle.njs_simul.proofs.FineStatements.{CaughtFine, LastFine, fine_with_handler, fine_with_last}
use Rattle.njs_simul.proofs.Runs.{found, next, on_it, one_on, Over}
use Rattle.njs_simul.proofs.Steps.{front_none, front_op, front_then, behind_front, stands_kept, out_over, Acts, step}
use Rattle.njs_simul.proofs.Statements.{comes_both, comes_in, comes_caught, at_last, comes_at_last, ComesOn, part_fared, StatementsTied, statements_fine, in_turn_writes, in_turn_runs, in_turn_tied}
use Rattle.njs_simul.proofs.Regions.{takes, passes, part_in}

-- the block of a `catch` stands in a scope with its name
abbrev pub CaughtTied : Names → ℕ → Around → Option (List ℕ × List Statement) → Option (List ℕ × List CodedStatement) → Type 0
CaughtTied env unit names None None = Unit {0}
CaughtTied env unit names (Some m) (Some c) = (m.0 ≡ c.0) × StatementsTied env unit (((m.0, true) ∷ []) ∷ names) m.1 c.1
CaughtTied env unit names m c = ⊥

abbrev pub LastTied : Names → ℕ → Around → Option (List Statement) → Option (List CodedStatement) → Type 0
LastTied env unit names None None = Unit {0}
LastTied env unit names (Some m) (Some c) = StatementsTied env unit names m c
LastTied env unit names m c = ⊥

-- in a scope more
abbrev entered : ℕ → Stacks → Stacks
entered scope st = record st { scopes = scope ∷ st.scopes }

over_entered : (scope : ℕ) (st : Stacks) → Over st (entered scope st)
over_entered scope st = record { operands = on_it st.operands; scopes = one_on scope st.scopes; lists = on_it st.lists; endings = on_it st.endings }

-- an ending waits
abbrev with_ending : Ending → Stacks → Stacks
with_ending e st = record st { endings = e ∷ st.endings }

over_ending : (e : Ending) (st : Stacks) → Over st (with_ending e st)
over_ending e st = record { operands = on_it st.operands; scopes = on_it st.scopes; lists = on_it st.lists; endings = one_on e st.endings }

module _ (env : Names) where
  stands_entered : (name : List ℕ) (v : PlainValue) (here : Here) (st : Stacks) (s : State) → Stands env here st s
      → Stands env (in_catch name here) (entered (length s.scopes) st) (with_scope (record { 0 = inner st.scopes }) (bound name v ∷ []) s)
  stands_entered name v here st s h = record {
    operands = h.operands;
    scopes = ap suc h.scopes;
    lists = h.lists;
    endings = h.endings;
    scoped = scoped_inner here.names ((name, true) ∷ []) (record { 0 = inner st.scopes }) (bound name v ∷ []) s refl h.scoped;
    good = (fares_scope env (record { 0 = inner st.scopes }) (bound name v ∷ []) s h.good).good;
  }

  stands_ending : (e : Ending) (here : Here) (st : Stacks) (s : State) → Stands env here st s → Stands env (waiting here) (with_ending e st) s
  stands_ending e here st s h = record {
    operands = h.operands;
    scopes = h.scopes;
    lists = h.lists;
    endings = ap suc h.endings;
    scoped = h.scoped;
    good = h.good;
  }

module _ (env : Names) (unit : ℕ) (names : Around) where
  pub caught_fine : (m : Option (List ℕ × List Statement)) (c : Option (List ℕ × List CodedStatement)) → CaughtTied env unit names m c → CaughtFine env unit names m
  caught_fine None None h = tt
  caught_fine None (Some c) h = absurd h
  caught_fine (Some m) None h = absurd h
  caught_fine (Some m) (Some c) h = statements_fine env unit (((m.0, true) ∷ []) ∷ names) m.1 c.1 h.1

  pub last_fine : (m : Option (List Statement)) (c : Option (List CodedStatement)) → LastTied env unit names m c → LastFine env unit names m
  last_fine None None h = tt
  last_fine None (Some c) h = absurd h
  last_fine (Some m) None h = absurd h
  last_fine (Some m) (Some c) h = statements_fine env unit names m c h

  -- ---- `catch`

  -- what follows a part with more below it is what follows it there
  follows_over : (run : Running env unit) (here there : Here) (rest middle : List Op) (low all : Stacks) (d : Completion) (t : State) → here.around ≡ there.around → Over low all
      → (GoesOn env unit run rest low t → GoesOn env unit run middle all t) → Follows env unit run here rest low d t → Follows env unit run there middle all d t
  follows_over run here there rest middle low all Normal t is more go f = go f
  follows_over run here there rest middle low all (Returned v) t is more go f =
      out_over env unit run there (Ended (Returned v)) low all t more (subst (λ a. GoesOut env unit run (record here { around = a }) (Ended (Returned v)) low t) is f)
  follows_over run here there rest middle low all (Broken label) t is more go f =
      out_over env unit run there (Ended (Broken label)) low all t more (subst (λ a. GoesOut env unit run (record here { around = a }) (Ended (Broken label)) low t) is f)
  follows_over run here there rest middle low all (Continued label) t is more go f =
      out_over env unit run there (Ended (Continued label)) low all t more (subst (λ a. GoesOut env unit run (record here { around = a }) (Ended (Continued label)) low t) is f)

  module _ (body : List Statement) (cb : List CodedStatement) (tb : StatementsTied env unit names body cb) (name : List ℕ) (block : List Statement) (ck : List CodedStatement)
      (tc : StatementsTied env unit (((name, true) ∷ []) ∷ names) block ck) where
    pub handled_writes : Writes (in_turn_size cb + suc (suc (suc (in_turn_size ck + 1)))) (handled cb name ck)
    handled_writes here rest =
        let leave = op kind.Leave (in_catch name here) rest in let handler = in_turn ck (in_catch name here) leave in
        let caught = op (kind.Enter name) (deeper 1 here) handler in let end = op kind.EndBlock here caught in let jump = op (kind.Jump (address rest)) here end in
        front_then (in_turn_size cb) (suc (suc (suc (in_turn_size ck + 1)))) (in_turn cb (inside end here) jump) jump rest (in_turn_writes env unit names body cb tb (inside end here) jump)
        (front_op (suc (suc (in_turn_size ck + 1))) _ end rest
        (front_op (suc (in_turn_size ck + 1)) _ caught rest
        (front_op (in_turn_size ck + 1) _ handler rest
        (front_then (in_turn_size ck) 1 handler leave rest (in_turn_writes env unit (((name, true) ∷ []) ∷ names) block ck tc (in_catch name here) leave) (front_op 0 _ rest rest (front_none rest))))))

    module _ (run : Running env unit) (here : Here) (rest : List Op) (st : Stacks) (same : here.names ≡ names) (ends : EndsWith run.code (handled cb name ck here rest)) where
      abbrev x : Context
      x = context run.frame st

      abbrev leave : List Op
      leave = op kind.Leave (in_catch name here) rest

      abbrev handler : List Op
      handler = in_turn ck (in_catch name here) leave

      abbrev caught : List Op
      caught = op (kind.Enter name) (deeper 1 here) handler

      abbrev end : List Op
      end = op kind.EndBlock here caught

      abbrev jump : List Op
      jump = op (kind.Jump (address rest)) here end

      ends_jump : EndsWith run.code jump
      ends_jump = behind_front (in_turn_size cb) run.code (in_turn cb (inside end here) jump) jump (in_turn_writes env unit names body cb tb (inside end here) jump) ends

      ends_end : EndsWith run.code end
      ends_end = next run.code _ end ends_jump

      ends_handler : EndsWith run.code handler
      ends_handler = next run.code _ handler (next run.code _ caught ends_end)

      ends_rest : EndsWith run.code rest
      ends_rest = next run.code _ rest (behind_front (in_turn_size ck) run.code handler leave (in_turn_writes env unit (((name, true) ∷ []) ∷ names) block ck tc (in_catch name here) leave) ends_handler)

      abbrev On : Outcome Completion → Type 0
      On o = ComesOn env unit run here st rest o

      -- what was thrown is caught
      caught_runs : (v : PlainValue) (t : State) → Stands env here st t → On (means.handler name block x v t) → GoesOn env unit run caught (push v st) t
      caught_runs v t stands d =
          let low = entered (length t.scopes) st in let u = with_scope (record { 0 = inner st.scopes }) (bound name v ∷ []) t in let deep = in_catch name here in
          let stands_u = stands_entered env name v here st t stands in
          let same_u : deep.names ≡ ((name, true) ∷ []) ∷ names = ap (λ around. ((name, true) ∷ []) ∷ around) same in
          step env unit run (kind.Enter name) (deeper 1 here) handler (push v st) t stands.good
          (in_turn_runs env unit (((name, true) ∷ []) ∷ names) block ck tc run deep leave low u same_u ends_handler stands_u
          (comes_both env run.outcome u (completions.in_turn block (context run.frame low) u) (Follows env unit run here rest st) (Follows env unit run deep leave low)
          (λ e t. GoesOut env unit run here (Thrown e) st t) (λ e t. GoesOut env unit run deep (Thrown e) low t)
          (part_fared env unit (((name, true) ∷ []) ∷ names) (completions.in_turn block) (record { size = in_turn_size ck; emit = in_turn ck }) (in_turn_tied env unit (((name, true) ∷ []) ∷ names) block ck tc)
          run deep low u same_u stands_u)
          (λ d y fares f. follows_over run here deep rest leave st low d y refl (over_entered (length t.scopes) st)
          (λ go. step env unit run kind.Leave deep rest low y fares.good go) f)
          (λ e y fares f. out_over env unit run deep (Thrown e) st low y (over_entered (length t.scopes) st) f) d))

      block_follows : (d : Completion) (t : State) → Stands env here st t → Follows env unit run here rest st d t → Follows env unit run (inside end here) jump st d t
      block_follows Normal t stands d =
          step env unit run (kind.Jump (address rest)) here end st t stands.good (subst (λ code. GoesOn env unit run code st t) (sym (found run.frame run.code rest ends_rest)) d)
      block_follows (Returned v) t stands d = passes env unit run here kind.EndBlock caught st t stands ends_end (Ended (Returned v)) refl d
      block_follows (Broken label) t stands d = passes env unit run here kind.EndBlock caught st t stands ends_end (Ended (Broken label)) refl d
      block_follows (Continued label) t stands d = passes env unit run here kind.EndBlock caught st t stands ends_end (Ended (Continued label)) refl d

      handled_run : (s : State) → Stands env here st s → On (caught_by (means.handler name block x) (completions.in_turn body x s)) → GoesOn env unit run (handled cb name ck here rest) st s
      handled_run s stands d =
          part_in env unit names (completions.in_turn body) (record { size = in_turn_size cb; emit = in_turn cb }) (in_turn_tied env unit names body cb tb) run here end jump st s same stands ends
          (Follows env unit run here rest st) (λ v t. On (means.handler name block x v t))
          (λ d t ends fares f. block_follows d t (stands_kept env here st s t stands fares) f)
          (λ v t ends fares f. let stands_t = stands_kept env here st s t stands fares in
          takes env unit run here kind.EndBlock caught st t stands_t ends_end (Thrown v) caught (push v st) refl (caught_runs v t stands_t f))
          (comes_caught run.outcome (completions.in_turn body x s) (means.handler name block x) (Follows env unit run here rest st) _ d)

    pub handled_runs : RunsOn env unit names (λ x s. caught_by (means.handler name block x) (completions.in_turn body x s)) (handled cb name ck)
    handled_runs run here rest st s same ends stands d = handled_run run here rest st same ends s stands d

  pub handler_writes : (body : List Statement) (cb : List CodedStatement) → StatementsTied env unit names body cb → (m : Option (List ℕ × List Statement)) (c : Option (List ℕ × List CodedStatement))
      → CaughtTied env unit names m c → Writes (with_handler cb c).size (with_handler cb c).emit
  handler_writes body cb tb None None h here rest = in_turn_writes env unit names body cb tb here rest
  handler_writes body cb tb None (Some c) h here rest = absurd h
  handler_writes body cb tb (Some m) None h here rest = absurd h
  handler_writes body cb tb (Some m) (Some c) h here rest =
      handled_writes body cb tb c.0 m.1 c.1 (subst (λ n. StatementsTied env unit (((n, true) ∷ []) ∷ names) m.1 c.1) h.0 h.1) here rest

  pub handler_runs : (body : List Statement) (cb : List CodedStatement) → StatementsTied env unit names body cb → (m : Option (List ℕ × List Statement)) (c : Option (List ℕ × List CodedStatement))
      → CaughtTied env unit names m c → RunsOn env unit names (means.with_handler m (completions.in_turn body)) (with_handler cb c).emit
  handler_runs body cb tb None None h run here rest st s same ends stands d = in_turn_runs env unit names body cb tb run here rest st s same ends stands d
  handler_runs body cb tb None (Some c) h run here rest st s same ends stands d = absurd h
  handler_runs body cb tb (Some m) None h run here rest st s same ends stands d = absurd h
  handler_runs body cb tb (Some m) (Some c) h run here rest st s same ends stands d =
      let x = context run.frame st in
      handled_runs body cb tb c.0 m.1 c.1 (subst (λ n. StatementsTied env unit (((n, true) ∷ []) ∷ names) m.1 c.1) h.0 h.1) run here rest st s same ends stands
      (subst (λ n. ComesOn env unit run here st rest (caught_by (means.handler n m.1 x) (completions.in_turn body x s))) h.0 d)

  pub handler_tied : (body : List Statement) (cb : List CodedStatement) → StatementsTied env unit names body cb → (m : Option (List ℕ × List Statement)) (c : Option (List ℕ × List CodedStatement))
      → CaughtTied env unit names m c → PartTied env unit names (means.with_handler m (completions.in_turn body)) (with_handler cb c)
  handler_tied body cb tb m c h = record {
    writes = handler_writes body cb tb m c h;
    fine = fine_with_handler env unit names m (completions.in_turn body) (caught_fine m c h) (in_turn_tied env unit names body cb tb).fine;
    runs = handler_runs body cb tb m c h;
  }

  -- ---- `finally`

  abbrev pub finally_emit : CodedPart → List CodedStatement → Emits
  finally_emit part cl here rest =
      let end = op kind.Finally here (in_turn cl (waiting here) (op kind.Resume (waiting here) rest)) in
      part.emit (inside end here) end

  module _ (m : Meaning Completion) (part : CodedPart) (tp : PartTied env unit names m part) (last : List Statement) (cl : List CodedStatement) (tl : StatementsTied env unit names last cl) where
    pub finally_writes : Writes (part.size + suc (in_turn_size cl + 1)) (finally_emit part cl)
    finally_writes here rest =
        let resume = op kind.Resume (waiting here) rest in let block = in_turn cl (waiting here) resume in let end = op kind.Finally here block in
        front_then part.size (suc (in_turn_size cl + 1)) (part.emit (inside end here) end) end rest (tp.writes (inside end here) end)
        (front_op (in_turn_size cl + 1) _ block rest
        (front_then (in_turn_size cl) 1 block resume rest (in_turn_writes env unit names last cl tl (waiting here) resume) (front_op 0 _ rest rest (front_none rest))))

    module _ (run : Running env unit) (here : Here) (rest : List Op) (st : Stacks) (same : here.names ≡ names) (ends : EndsWith run.code (finally_emit part cl here rest)) where
      abbrev x' : Context
      x' = context run.frame st

      abbrev resume : List Op
      resume = op kind.Resume (waiting here) rest

      abbrev block_last : List Op
      block_last = in_turn cl (waiting here) resume

      abbrev end_last : List Op
      end_last = op kind.Finally here block_last

      ends_last : EndsWith run.code end_last
      ends_last = behind_front part.size run.code (part.emit (inside end_last here) end_last) end_last (tp.writes (inside end_last here) end_last) ends

      abbrev OnLast : Outcome Completion → Type 0
      OnLast o = ComesOn env unit run here st rest o

      -- the last block ended, and what waited goes on unless it ended otherwise
      last_follows : (e : Ending) (o : State → Outcome Completion) (d : Completion) (t : State) → Good env t → ((u : State) → OnLast (o u) → Acts env unit run here (resumed rest e st u))
          → OnLast (completions.unless_ended d o t) → Follows env unit run (waiting here) resume (with_ending e st) d t
      last_follows e o Normal t good on f = step env unit run kind.Resume (waiting here) rest (with_ending e st) t good (on t f)
      last_follows e o (Returned v) t good on f = out_over env unit run here (Ended (Returned v)) st (with_ending e st) t (over_ending e st) f
      last_follows e o (Broken label) t good on f = out_over env unit run here (Ended (Broken label)) st (with_ending e st) t (over_ending e st) f
      last_follows e o (Continued label) t good on f = out_over env unit run here (Ended (Continued label)) st (with_ending e st) t (over_ending e st) f

      last_runs : (e : Ending) (o : State → Outcome Completion) (t : State) → Stands env here st t → ((u : State) → OnLast (o u) → Acts env unit run here (resumed rest e st u))
          → OnLast (at_last (completions.in_turn last x') o t) → GoesOn env unit run block_last (with_ending e st) t
      last_runs e o t stands on d =
          let low = with_ending e st in let stands_e = stands_ending env e here st t stands in
          in_turn_runs env unit names last cl tl run (waiting here) resume low t same (next run.code _ block_last ends_last) stands_e
          (comes_both env run.outcome t (completions.in_turn last x' t) (λ d u. OnLast (completions.unless_ended d o u)) (Follows env unit run (waiting here) resume low)
          (λ v u. GoesOut env unit run here (Thrown v) st u) (λ v u. GoesOut env unit run (waiting here) (Thrown v) low u)
          (part_fared env unit names (completions.in_turn last) (record { size = in_turn_size cl; emit = in_turn cl }) (in_turn_tied env unit names last cl tl) run (waiting here) low t same stands_e)
          (λ d u fares f. last_follows e o d u fares.good on f) (λ v u fares f. out_over env unit run here (Thrown v) st low u (over_ending e st) f)
          (comes_in run.outcome (completions.in_turn last x' t) (λ d. completions.unless_ended d o) (Follows env unit run here rest st) _ d))

      -- however the block ended
      ending_follows : (d : Completion) (t : State) → Stands env here st t → OnLast (at_last (completions.in_turn last x') (Gives d) t) → Follows env unit run (inside end_last here) end_last st d t
      ending_follows Normal t stands d =
          step env unit run kind.Finally here block_last st t stands.good (last_runs (Ended Normal) (Gives Normal) t stands (λ u f. f) d)
      ending_follows (Returned v) t stands d =
          takes env unit run here kind.Finally block_last st t stands ends_last (Ended (Returned v)) block_last (with_ending (Ended (Returned v)) st) refl
          (last_runs (Ended (Returned v)) (Gives (Returned v)) t stands (λ u f. f) d)
      ending_follows (Broken label) t stands d =
          takes env unit run here kind.Finally block_last st t stands ends_last (Ended (Broken label)) block_last (with_ending (Ended (Broken label)) st) refl
          (last_runs (Ended (Broken label)) (Gives (Broken label)) t stands (λ u f. f) d)
      ending_follows (Continued label) t stands d =
          takes env unit run here kind.Finally block_last st t stands ends_last (Ended (Continued label)) block_last (with_ending (Ended (Continued label)) st) refl
          (last_runs (Ended (Continued label)) (Gives (Continued label)) t stands (λ u f. f) d)

      finally_run : (s : State) → Stands env here st s → OnLast (completions.done_at_last (completions.in_turn last x') (m x' s)) → GoesOn env unit run (finally_emit part cl here rest) st s
      finally_run s stands d =
          part_in env unit names m part tp run here end_last end_last st s same stands ends
          (λ d t. OnLast (at_last (completions.in_turn last x') (Gives d) t)) (λ v t. OnLast (at_last (completions.in_turn last x') (Throws v) t))
          (λ d t ends fares f. ending_follows d t (stands_kept env here st s t stands fares) f)
          (λ v t ends fares f. let stands_t = stands_kept env here st s t stands fares in
          takes env unit run here kind.Finally block_last st t stands_t ends_last (Thrown v) block_last (with_ending (Thrown v) st) refl
          (last_runs (Thrown v) (Throws v) t stands_t (λ u f. f) f))
          (comes_at_last run.outcome (m x' s) (completions.in_turn last x') (Follows env unit run here rest st) _ d)

    pub finally_runs : RunsOn env unit names (λ x s. completions.done_at_last (completions.in_turn last x) (m x s)) (finally_emit part cl)
    finally_runs run here rest st s same ends stands d = finally_run run here rest st same ends s stands d

  pub last_writes : (m : Meaning Completion) (part : CodedPart) → PartTied env unit names m part → (l : Option (List Statement)) (c : Option (List CodedStatement)) → LastTied env unit names l c
      → Writes (with_last part c).size (with_last part c).emit
  last_writes m part tp None None h = tp.writes
  last_writes m part tp None (Some c) h = absurd h
  last_writes m part tp (Some l) None h = absurd h
  last_writes m part tp (Some l) (Some c) h = finally_writes m part tp l c h

  pub last_runs_on : (m : Meaning Completion) (part : CodedPart) → PartTied env unit names m part → (l : Option (List Statement)) (c : Option (List CodedStatement)) → LastTied env unit names l c
      → RunsOn env unit names (means.with_last l m) (with_last part c).emit
  last_runs_on m part tp None None h = tp.runs
  last_runs_on m part tp None (Some c) h = absurd h
  last_runs_on m part tp (Some l) None h = absurd h
  last_runs_on m part tp (Some l) (Some c) h = finally_runs m part tp l c h

  pub last_tied : (m : Meaning Completion) (part : CodedPart) → PartTied env unit names m part → (l : Option (List Statement)) (c : Option (List CodedStatement)) → LastTied env unit names l c
      → PartTied env unit names (means.with_last l m) (with_last part c)
  last_tied m part tp l c h = record {
    writes = last_writes m part tp l c h;
    fine = fine_with_last env unit names l m (last_fine l c h) tp.fine;
    runs = last_runs_on m part tp l c h;
  }
