-- Each statement and its code: by the cases of `statement_part` (njs_meaning, `Meaning`; here, `Compiled`).
use Rattle.std.proofs.Common.{ℕ, List, ◌∷◌, Option, refl}
use Rattle.njs_code.specs.declared.op.Kind.TheVariants as kind
use Rattle.njs_meaning.specs.State.{Gives}
use Rattle.njs_meaning.specs.Running.{Runs as Meaning}
use Rattle.njs_meaning.specs.Places.{Around}
use Rattle.njs_meaning.specs.References.{Named, Expression}
use Rattle.njs_meaning.specs.Completions.{Completion, Normal, Broken, Continued, Statement}
use Rattle.njs_meaning.specs.Completions as completions
use Rattle.njs_meaning.specs.Meaning as means
use Rattle.njs_meaning.specs.Meaning.{Made, First, Branch, begun_statement}
use Rattle.njs_simul.specs.Emission.{op, Coded}
use Rattle.njs_simul.specs.EmissionOfStatements as emit
use Rattle.njs_simul.specs.EmissionOfStatements.{CodedStatement, CodedPart, CodedBranch}
use Rattle.njs_simul.specs.Compiled.{bare_name}
use Rattle.njs_simul.specs.Compiled as compiled
use Rattle.njs_simul.specs.Fits.{Names}
use Rattle.njs_simul.specs.Laws.{ExpressionTied, PartTied, StatementTied}
use Rattle.njs_simul.proofs.Kept.{fares_refl}
use Rattle.njs_simul.proofs.FineStatements.{fine_if_else, fine_return, fine_throw_value}
use Rattle.njs_simul.proofs.Steps.{front_none, front_op, step}
use Rattle.njs_simul.proofs.Statements.{HeldTied, NamedHeldTied, StatementsTied, HeldStatementTied, held_fine, statement_fine, held_statement_fine, in_turn_tied, begun_tied, declaring_tied, evaluate_tied, if_emit, if_size, if_writes, if_runs, return_writes, return_runs, throw_writes, throw_runs}
use Rattle.njs_simul.proofs.Loops.{HeldFirstTied, do_part, while_part, for_part}
use Rattle.njs_simul.proofs.ForIn.{for_in_part}
use Rattle.njs_simul.proofs.Switches.{BranchTied, BranchesTied, switch_part}
use Rattle.njs_simul.proofs.Tries.{CaughtTied, LastTied, handler_tied, last_tied}

module _ (env : Names) (unit : ℕ) (names : Around) where
  abbrev Tied : Statement → CodedStatement → Type 0
  Tied m c = StatementTied env unit names (begun_statement m) c

  -- ---- parts without a tick

  -- what a `for in` assigns to
  pub bare_name_tied : (text : List ℕ) → ExpressionTied env unit names (λ x s. Gives (Named text) s) (bare_name text)
  bare_name_tied text = record {
    writes = λ here rest. front_none rest;
    fine = λ x s calls same scoped g. fares_refl env s g;
    forms = λ x s. refl;
    runs = λ run here rest st s same ends stands c. c refl;
  }

  pub branch_tied : (m : Option Expression) (ms : List Statement) (c : Option Coded) (cs : List CodedStatement) → HeldTied env unit names m c → StatementsTied env unit names ms cs
      → BranchTied env unit names (record { test = m; body = ms }) (record { test = c; body = cs })
  branch_tied m ms c cs h k = record { test = h; body = k }

  -- ---- statements

  -- one that no label is for
  pub plain_tied : (m : Meaning Completion) (c : CodedPart) → PartTied env unit names m c → Tied (means.plain m) (emit.statement_of c)
  plain_tied m c h = record { with_labels = λ labels. begun_tied env unit names m c h }

  pub block_tied : (ms : List Statement) (cs : List CodedStatement) → StatementsTied env unit names ms cs → Tied (means.plain (completions.in_turn ms)) (emit.block cs)
  block_tied ms cs h = record { with_labels = λ labels. begun_tied env unit names (completions.in_turn ms) _ (in_turn_tied env unit names ms cs h) }

  pub var_tied : (ms : List (List ℕ × Option Expression)) (cs : List (List ℕ × Option Coded)) → NamedHeldTied env unit names ms cs → Tied (means.plain (means.declare ms)) (emit.statement_of (emit.declaring cs))
  var_tied ms cs h = plain_tied (means.declare ms) (emit.declaring cs) (declaring_tied env unit names ms cs h)

  empty_part : PartTied env unit names (λ x s. Gives Normal s) (record { size = 0; emit = emit.nothing })
  empty_part = record { writes = λ here rest. front_none rest; fine = λ x s calls same scoped g. fares_refl env s g; runs = λ run here rest st s same ends stands d. d }

  pub empty_tied : Tied (means.ends_with Normal) emit.empty
  empty_tied = record { with_labels = λ labels. begun_tied env unit names (λ x s. Gives Normal s) _ empty_part }

  pub value_tied : (a : Expression) (ca : Coded) → ExpressionTied env unit names a ca → Tied (means.plain (means.value_and_on a)) (emit.statement_of (emit.evaluate ca))
  value_tied a ca h = plain_tied (means.value_and_on a) (emit.evaluate ca) (evaluate_tied env unit names a ca h)

  pub if_tied : (a : Expression) (b : Statement) (d : Option Statement) (ca : Coded) (cb : CodedStatement) (cd : Option CodedStatement) → ExpressionTied env unit names a ca → StatementTied env unit names b cb
      → HeldStatementTied env unit names d cd → Tied (means.if_else a b d) (emit.if_else ca cb cd)
  if_tied a b d ca cb cd ta tb td = record {
    with_labels = λ labels. begun_tied env unit names (means.if_else a b d labels) (record { size = if_size env unit names ca cb cd; emit = if_emit env unit names ca cb cd }) (record {
      writes = if_writes env unit names a b d ca cb cd ta tb td;
      fine = fine_if_else env unit names a b d ta.fine (statement_fine env unit names b cb tb) (held_statement_fine env unit names d cd td) labels;
      runs = if_runs env unit names a b d ca cb cd ta tb td labels;
    });
  }

  pub do_tied : (b : Statement) (a : Expression) (cb : CodedStatement) (ca : Coded) → StatementTied env unit names b cb → ExpressionTied env unit names a ca → Tied (means.do_loop b a) (emit.do_loop cb ca)
  do_tied b a cb ca tb ta = record { with_labels = λ labels. begun_tied env unit names (means.do_loop b a labels) _ (do_part env unit names b a cb ca tb ta labels) }

  pub while_tied : (a : Expression) (b : Statement) (ca : Coded) (cb : CodedStatement) → ExpressionTied env unit names a ca → StatementTied env unit names b cb → Tied (means.while_loop a b) (emit.while_loop ca cb)
  while_tied a b ca cb ta tb = record { with_labels = λ labels. begun_tied env unit names (means.while_loop a b labels) _ (while_part env unit names a b ca cb ta tb labels) }

  pub for_tied : (f : Option First) (a u : Option Expression) (b : Statement) (cf : Option CodedPart) (ca cu : Option Coded) (cb : CodedStatement) → HeldFirstTied env unit names f cf → HeldTied env unit names a ca
      → HeldTied env unit names u cu → StatementTied env unit names b cb → Tied (means.for_loop f a u b) (emit.for_loop cf ca cu cb)
  for_tied f a u b cf ca cu cb tf ta tu tb = record { with_labels = λ labels. begun_tied env unit names (means.for_loop f a u b labels) _ (for_part env unit names f a u b cf ca cu cb tf ta tu tb labels) }

  pub for_in_tied : (h v : Expression) (b : Statement) (ch cv : Coded) (cb : CodedStatement) → ExpressionTied env unit names h ch → ExpressionTied env unit names v cv → StatementTied env unit names b cb
      → Tied (means.for_in h v b) (emit.for_in ch cv cb)
  for_in_tied h v b ch cv cb th tv tb = record { with_labels = λ labels. begun_tied env unit names (means.for_in h v b labels) _ (for_in_part env unit names h v b ch cv cb th tv tb labels) }

  -- ---- endings

  pub continue_tied : (label : Option (List ℕ)) → Tied (means.ends_with (Continued label)) (emit.ends_with (kind.Continue label))
  continue_tied label = record {
    with_labels = λ labels. begun_tied env unit names (λ x s. Gives (Continued label) s) (record { size = 1; emit = op (kind.Continue label) }) (record {
      writes = λ here rest. front_op 0 _ rest rest (front_none rest);
      fine = λ x s calls same scoped g. fares_refl env s g;
      runs = λ run here rest st s same ends stands d. step env unit run (kind.Continue label) here rest st s stands.good d;
    });
  }

  pub break_tied : (label : Option (List ℕ)) → Tied (means.ends_with (Broken label)) (emit.ends_with (kind.Break label))
  break_tied label = record {
    with_labels = λ labels. begun_tied env unit names (λ x s. Gives (Broken label) s) (record { size = 1; emit = op (kind.Break label) }) (record {
      writes = λ here rest. front_op 0 _ rest rest (front_none rest);
      fine = λ x s calls same scoped g. fares_refl env s g;
      runs = λ run here rest st s same ends stands d. step env unit run (kind.Break label) here rest st s stands.good d;
    });
  }

  pub return_tied : (a : Option Expression) (ca : Option Coded) → HeldTied env unit names a ca → Tied (means.return a) (emit.return ca)
  return_tied a ca h = record {
    with_labels = λ labels. begun_tied env unit names (means.return a labels) _ (record {
      writes = return_writes env unit names a ca h;
      fine = fine_return env unit names a (held_fine env unit names a ca h) labels;
      runs = return_runs env unit names a ca h labels;
    });
  }

  pub throw_tied : (a : Expression) (ca : Coded) → ExpressionTied env unit names a ca → Tied (means.throw_value a) (emit.throw_value ca)
  throw_tied a ca h = record {
    with_labels = λ labels. begun_tied env unit names (means.throw_value a labels) _ (record {
      writes = throw_writes env unit names a ca h;
      fine = fine_throw_value env unit names a h.fine labels;
      runs = throw_runs env unit names a ca h labels;
    });
  }

  pub switch_tied : (v : Expression) (ms : List Branch) (cv : Coded) (cs : List CodedBranch) → ExpressionTied env unit names v cv → BranchesTied env unit names ms cs → Tied (means.switch v ms) (emit.switch cv cs)
  switch_tied v ms cv cs tv ts = record { with_labels = λ labels. begun_tied env unit names (means.switch v ms labels) _ (switch_part env unit names v ms cv cs tv ts labels) }

  pub try_tied : (body : List Statement) (caught : Option (List ℕ × List Statement)) (last : Option (List Statement)) (cb : List CodedStatement) (ck : Option (List ℕ × List CodedStatement)) (cl : Option (List CodedStatement))
      → StatementsTied env unit names body cb → CaughtTied env unit names caught ck → LastTied env unit names last cl → Tied (means.try_catch body caught last) (emit.try_catch cb ck cl)
  try_tied body caught last cb ck cl tb tk tl =
      let block = means.with_handler caught (completions.in_turn body) in
      record {
        with_labels = λ labels. begun_tied env unit names (means.with_last last block) _
            (last_tied env unit names block (emit.with_handler cb ck) (handler_tied env unit names body cb tb caught ck tk) last cl tl);
      }

  pub label_tied : (label : List ℕ) (b : Statement) (cb : CodedStatement) → StatementTied env unit names b cb → Tied (means.labelled label b) (emit.labelled label cb)
  label_tied label b cb tb = record { with_labels = λ labels. begun_tied env unit names (b (label ∷ labels)) (record { size = cb.size; emit = cb.emit (label ∷ labels) }) (tb.with_labels (label ∷ labels)) }

  pub declaration_tied : (m c : Made) → Tied (means.declaration m) (compiled.declaration c)
  declaration_tied m c = record { with_labels = λ labels. begun_tied env unit names (λ x s. Gives Normal s) _ empty_part }
