-- The code of each statement is valid, by that of its parts.
use Rattle.std.proofs.Common.{◌≡◌, ℕ, suc, ◌+◌, List, [], ◌∷◌, length, Option, Some, None, refl, subst, ◌∙◌, arith}
use Rattle.njs_code.specs.declared.op.Address.{Address}
use Rattle.njs_code.specs.declared.op.Kind.TheVariants as kind
use Rattle.njs_code.specs.declared.op.Op.{Op}
use Rattle.njs_code.specs.declared.code.FunctionCode.{FunctionCode}
use Rattle.njs_code.specs.Effects.{is_ending}
use Rattle.njs_code.specs.Valid.{op_at}
use Rattle.njs_meaning.specs.Places.{Around}
use Rattle.njs_simul.specs.Emission.{Here, Emits, op, address, deeper, inside, IsName, Coded, begun}
use Rattle.njs_simul.specs.EmissionOfStatements as emit
use Rattle.njs_simul.specs.EmissionOfStatements.{CodedStatement, CodedPart, CodedBranch, CodedTest, in_turn, in_turn_size, bind, declare, declare_size, optional, no_test, test_of, tests_if_any, does_if_any, head_of, loop_size, turn, loop, loop_statement, no_part, first_of, listing, next_name, turn_in, each_name, value_or_undefined, bodies, bodies_size, default_at, branches, branches_size, switch_branches, in_catch, waiting, handled, with_handler, with_last}
use Rattle.njs_simul.specs.Compiled.{bare_name}
use Rattle.njs_simul.specs.Laws.{Front, Writes}
use Rattle.njs_simul.specs.Checks.{Fits, Well, Checks, CodedChecked, PartChecked, StatementChecked, is_simple, is_jump}
use Rattle.njs_simul.proofs.Steps.{front_none, front_op, front_then, front_count, front_length, begun_writes}
use Rattle.njs_simul.proofs.Sequences.{assign_front}
use Rattle.njs_simul.proofs.ValidSteps.{at_address, simple_well, jump_well}
use Rattle.njs_simul.proofs.ValidNames.{assign_well}
use Rattle.njs_simul.proofs.ValidPlaces.{region_well, end_body_well, back_well}
use Rattle.njs_simul.proofs.ValidExpressions.{All, Perhaps, Called, then_value, one, value_at, begun_checks}

module _ (functions : List FunctionCode) (names : Around) where
  abbrev Codes : Coded → Type 0
  Codes c = CodedChecked functions names c

  abbrev IsPart : CodedPart → Type 0
  IsPart c = PartChecked functions names c

  abbrev IsStatement : CodedStatement → Type 0
  IsStatement c = StatementChecked functions names c

  pub part_of : (count : ℕ) (emit : Emits) → Writes count emit → Checks functions names emit 0 → IsPart (record { size = count; emit = emit })
  part_of count emit writes checks = record { writes = writes; checks = checks }

  pub begun_part : (c : CodedPart) → IsPart c → IsPart (record { size = suc c.size; emit = begun c.emit })
  begun_part c t = record { writes = begun_writes c.size c.emit t.writes; checks = begun_checks functions names c.emit 0 t.checks }

  -- one that no label is for
  pub plain_checked : (c : CodedPart) → IsPart c → IsStatement (emit.statement_of c)
  plain_checked c t = record { with_labels = λ labels. begun_part c t }

  -- ---- one after the other

  pub in_turn_writes : (cs : List CodedStatement) → All IsStatement cs → Writes (in_turn_size cs) (in_turn cs)
  in_turn_writes [] t here rest = front_none rest
  in_turn_writes (c ∷ cs) t here rest = front_then c.size (in_turn_size cs) _ _ rest ((t.0.with_labels []).writes here _) (in_turn_writes cs t.1 here rest)

  pub in_turn_checks : (cs : List CodedStatement) → All IsStatement cs → Checks functions names (in_turn cs) 0
  in_turn_checks [] t f here rest same fits well = well
  in_turn_checks (c ∷ cs) t f here rest same fits well = (t.0.with_labels []).checks f here _ same fits (in_turn_checks cs t.1 f here rest same fits well)

  pub in_turn_part : (cs : List CodedStatement) → All IsStatement cs → IsPart (record { size = in_turn_size cs; emit = in_turn cs })
  in_turn_part cs t = part_of (in_turn_size cs) (in_turn cs) (in_turn_writes cs t) (in_turn_checks cs t)

  pub block_checked : (cs : List CodedStatement) → All IsStatement cs → IsStatement (emit.block cs)
  block_checked cs t = record { with_labels = λ labels. begun_part (record { size = in_turn_size cs; emit = in_turn cs }) (in_turn_part cs t) }

  -- ---- values and names

  pub bind_well : (name : List ℕ) (f : FunctionCode) (here : Here) (rest : List Op) → Fits f here → Well functions f here rest → Well functions f (deeper 1 here) (bind name here rest)
  unfolding is_simple
  bind_well name f here rest fits well = assign_well functions f (IsName name) here (op kind.Drop (deeper 1 here) rest) fits (simple_well functions f kind.Drop 1 0 refl here rest fits well)

  declare_writes : (vs : List (List ℕ × Option Coded)) → All (Called (Perhaps Codes)) vs → Writes (declare_size vs) (declare vs)
  declare_writes [] t here rest = front_none rest
  declare_writes ((name, None) ∷ vs) t here rest = declare_writes vs t.1 here rest
  declare_writes ((name, Some c) ∷ vs) t here rest =
      let e : suc (suc (declare_size vs)) ≡ 2 + declare_size vs = omega arith in
      then_value functions names c here _ _ rest t.0 (front_count _ _ _ rest e (assign_front (IsName name) here _ _ rest (front_op _ _ _ rest (declare_writes vs t.1 here rest))))

  declare_checks : (vs : List (List ℕ × Option Coded)) → All (Called (Perhaps Codes)) vs → Checks functions names (declare vs) 0
  declare_checks [] t f here rest same fits well = well
  declare_checks ((name, None) ∷ vs) t f here rest same fits well = declare_checks vs t.1 f here rest same fits well
  declare_checks ((name, Some c) ∷ vs) t f here rest same fits well =
      value_at functions names f here same fits c 0 _ t.0 (bind_well name f here _ fits (declare_checks vs t.1 f here rest same fits well))

  pub declaring_part : (vs : List (List ℕ × Option Coded)) → All (Called (Perhaps Codes)) vs → IsPart (emit.declaring vs)
  declaring_part vs t = part_of (declare_size vs) (declare vs) (declare_writes vs t) (declare_checks vs t)

  pub evaluate_part : (c : Coded) → Codes c → IsPart (emit.evaluate c)
  unfolding is_simple
  evaluate_part c t = record {
    writes = λ here rest. then_value functions names c here 1 _ rest t (one functions names _ rest);
    checks = λ f here rest same fits well. value_at functions names f here same fits c 0 _ t (simple_well functions f kind.Drop 1 0 refl here rest fits well);
  }

  -- what a `for in` assigns to
  pub bare_name_checked : (text : List ℕ) → Codes (bare_name text)
  bare_name_checked text = record { writes = λ here rest. front_none rest; checks = λ f here rest same fits well. well }

  pub nothing_part : IsPart (record { size = 0; emit = emit.nothing })
  nothing_part = record { writes = λ here rest. front_none rest; checks = λ f here rest same fits well. well }

  pub empty_checked : IsStatement emit.empty
  empty_checked = record { with_labels = λ labels. begun_part (record { size = 0; emit = emit.nothing }) nothing_part }

  optional_part : (c : Option CodedStatement) → Perhaps IsStatement c → IsPart (optional c)
  optional_part None t = nothing_part
  optional_part (Some c) t = t.with_labels []

  pub if_checked : (ca : Coded) (cb : CodedStatement) (cd : Option CodedStatement) → Codes ca → IsStatement cb → Perhaps IsStatement cd → IsStatement (emit.if_else ca cb cd)
  unfolding is_simple is_jump
  if_checked ca cb cd ta tb td =
      let b = tb.with_labels [] in let d = optional_part cd td in
      record {
        with_labels = λ labels. begun_part (record { size = _; emit = _ }) (record {
          writes = λ here rest. then_value functions names ca here _ _ rest ta (front_op _ _ _ rest (front_then cb.size _ _ _ rest (b.writes here _) (front_op _ _ _ rest (d.writes here rest))));
          checks = λ f here rest same fits well.
              let otherwise = (optional cd).emit here rest in
              let jump = op (kind.Jump (address rest)) here otherwise in
              let other_well = d.checks f here rest same fits well in
              value_at functions names f here same fits ca 0 _ ta
              (jump_well functions f (kind.JumpFalse (address otherwise)) 1 0 0 refl _ here (cb.emit [] here jump) otherwise refl (omega arith) fits
              (front_then cb.size 1 _ jump otherwise (b.writes here jump) (one functions names _ otherwise))
              (b.checks f here jump same fits
              (jump_well functions f (kind.Jump (address rest)) 0 0 0 refl _ here otherwise rest refl (omega arith) fits (d.writes here rest) other_well well))
              other_well);
        });
      }

  -- ---- loops

  -- a test, which goes on behind or at an address further on
  pub record TestChecked (c : CodedTest) : Type 0 where
    pub writes : (past : Address) → Writes c.size (c.emit past)
    pub checks : (f : FunctionCode) (here : Here) (rest target : List Op) (count : ℕ) → here.names ≡ names → Fits f here → Front count rest target
        → Well functions f here rest → Well functions f here target → Well functions f here (c.emit (address target) here rest)

  no_test_checked : TestChecked no_test
  no_test_checked = record { writes = λ past here rest. front_none rest; checks = λ f here rest target count same fits front well there. well }

  test_checked : (c : Coded) → Codes c → TestChecked (test_of c)
  unfolding is_simple is_jump
  test_checked c t = record {
    writes = λ past here rest. front_count _ _ _ rest (omega arith) (then_value functions names c here 1 _ rest t (one functions names _ rest));
    checks = λ f here rest target count same fits front well there.
        value_at functions names f here same fits c 0 _ t (jump_well functions f (kind.JumpFalse (address target)) 1 0 0 refl count here rest target refl (omega arith) fits front well there);
  }

  tests_checked : (c : Option Coded) → Perhaps Codes c → TestChecked (tests_if_any c)
  tests_checked None t = no_test_checked
  tests_checked (Some c) t = test_checked c t

  does_checked : (c : Option Coded) → Perhaps Codes c → TestChecked (does_if_any c)
  does_checked None t = no_test_checked
  does_checked (Some c) t = record {
    writes = λ past. (evaluate_part c t).writes;
    checks = λ f here rest target count same fits front well there. (evaluate_part c t).checks f here rest same fits well;
  }

  module _ (labels : List (List ℕ)) (before : CodedTest) (body : CodedStatement) (behind : CodedTest) (tb : TestChecked before) (t : IsStatement body) (th : TestChecked behind) where
    behind_written : (past head : Address) (here : Here) (rest : List Op)
        → Front (behind.size + 1) (behind.emit past here (op (kind.Jump head) here rest)) rest
    behind_written past head here rest = front_then behind.size 1 _ _ rest (th.writes past here _) (one functions names _ rest)

    turn_writes : (head past : Address) → Writes (loop_size before body behind) (turn labels before body behind head past)
    turn_writes head past here rest =
        front_op _ _ _ rest (front_then before.size _ _ _ rest (tb.writes past here _)
        (front_then body.size _ _ _ rest ((t.with_labels []).writes _ _) (front_op _ _ _ rest (behind_written past head here rest))))

    loop_writes : Writes (loop_size before body behind) (loop labels before body behind)
    loop_writes here rest = turn_writes _ _ here rest

    head_size : (b d h r : ℕ) → suc (b + (d + suc (h + 1))) + r ≡ suc ((b + (d + suc h)) + suc r)
    head_size b d h r = omega arith

    loop_checks : Checks functions names (loop labels before body behind) 0
    unfolding is_simple is_ending
    loop_checks f here rest same fits well ends =
        let past = address rest in
        let head = head_of (before.size + (body.size + suc behind.size)) rest in
        let back = op (kind.Jump head) here rest in
        let after = behind.emit past here back in
        let end = op (kind.EndBody labels past) here after in
        let inner = body.emit [] (inside end here) end in
        let tail = before.emit past here inner in
        let charge : Op = record { kind = kind.Charge; depth = here.depth; around = here.around } in
        let place : length (charge ∷ tail) ≡ head.0 =
        front_length (loop_size before body behind) (charge ∷ tail) rest (turn_writes head past here rest) ∙ head_size before.size body.size behind.size (length rest) in
        let found : op_at f.ops head.0 ≡ Some charge = subst (λ n. op_at f.ops n ≡ Some charge) place (at_address f.ops charge tail ends) in
        let after_front = behind_written past head here rest in
        let after_well = th.checks f here back rest 1 same fits (one functions names _ rest) (back_well functions f here rest head found fits well) well in
        let end_well = end_body_well functions f labels _ here after rest after_front fits after_well well in
        let inner_well = region_well functions f (kind.EndBody labels past) names here after end 0 body.size (body.emit []) refl (front_none end) (t.with_labels []).writes (t.with_labels []).checks same fits end_well in
        let inner_front = front_then body.size _ inner end rest ((t.with_labels []).writes (inside end here) end) (front_op _ _ after rest after_front) in
        simple_well functions f kind.Charge 0 0 refl here tail fits (tb.checks f here inner rest _ same fits inner_front inner_well well) ends

  pub loop_checked : (first : CodedPart) (before : CodedTest) (body : CodedStatement) (behind : CodedTest) → IsPart first → TestChecked before → IsStatement body → TestChecked behind
      → IsStatement (loop_statement first before body behind)
  loop_checked first before body behind tf tb t th = record {
    with_labels = λ labels. begun_part (record { size = _; emit = _ }) (record {
      writes = λ here rest. front_then first.size _ _ _ rest (tf.writes here _) (loop_writes labels before body behind tb t th here rest);
      checks = λ f here rest same fits well. tf.checks f here _ same fits (loop_checks labels before body behind tb t th f here rest same fits well);
    });
  }

  pub do_checked : (cb : CodedStatement) (ca : Coded) → IsStatement cb → Codes ca → IsStatement (emit.do_loop cb ca)
  do_checked cb ca tb ta = loop_checked no_part no_test cb (test_of ca) nothing_part no_test_checked tb (test_checked ca ta)

  pub while_checked : (ca : Coded) (cb : CodedStatement) → Codes ca → IsStatement cb → IsStatement (emit.while_loop ca cb)
  while_checked ca cb ta tb = loop_checked no_part (test_of ca) cb no_test nothing_part (test_checked ca ta) tb no_test_checked

  first_part : (c : Option CodedPart) → Perhaps IsPart c → IsPart (first_of c)
  first_part None t = nothing_part
  first_part (Some c) t = t

  pub for_checked : (cf : Option CodedPart) (ca cu : Option Coded) (cb : CodedStatement) → Perhaps IsPart cf → Perhaps Codes ca → Perhaps Codes cu → IsStatement cb → IsStatement (emit.for_loop cf ca cu cb)
  for_checked cf ca cu cb tf ta tu tb = loop_checked (first_of cf) (tests_if_any ca) cb (does_if_any cu) (first_part cf tf) (tests_checked ca ta) tb (does_checked cu tu)
