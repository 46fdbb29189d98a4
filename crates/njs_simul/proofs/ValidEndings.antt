-- The code of `for in`, `switch`, `try` and of endings is valid, by that of its parts.
use Rattle.std.proofs.Common.{◌≡◌, ℕ, suc, ◌+◌, ◌≤◌, List, [], ◌∷◌, length, true, Option, Some, None, refl, ap, subst, ◌∙◌, arith}
use Rattle.std.specs.Option.{option_map_or}
use Rattle.njs_code.specs.declared.op.Address.{Address}
use Rattle.njs_code.specs.declared.op.Kind.{Kind}
use Rattle.njs_code.specs.declared.op.Kind.TheVariants as kind
use Rattle.njs_code.specs.declared.op.Op.{Op}
use Rattle.njs_code.specs.declared.code.FunctionCode.{FunctionCode}
use Rattle.njs_code.specs.Effects.{is_ending}
use Rattle.njs_code.specs.Valid.{op_at, names_valid}
use Rattle.njs_meaning.specs.Places.{Around}
use Rattle.njs_meaning.specs.Meaning.{Made}
use Rattle.njs_simul.specs.Emission.{Here, op, address, on, deeper, inside, width, Coded, value, value_size}
use Rattle.njs_simul.specs.EmissionOfStatements as emit
use Rattle.njs_simul.specs.EmissionOfStatements.{CodedStatement, CodedPart, CodedBranch, in_turn, in_turn_size, head_of, listing, next_name, turn_in, each_name, value_or_undefined, bodies, bodies_size, default_at, branches, branches_size, switch_branches, in_catch, waiting, handled, with_handler, with_last}
use Rattle.njs_simul.specs.Compiled as compiled
use Rattle.njs_simul.specs.Laws.{Front, Writes}
use Rattle.njs_simul.specs.Checks.{Fits, Well, Checks, CodedChecked, PartChecked, StatementChecked, is_simple, is_jump}
use Rattle.njs_simul.proofs.Steps.{front_none, front_op, front_then, front_count, front_length}
use Rattle.njs_simul.proofs.Sequences.{value_writes, assign_front}
use Rattle.njs_simul.proofs.ValidSteps.{at_address, named_well, simple_well, jump_well}
use Rattle.njs_simul.proofs.ValidNames.{assign_well, lists_well, drops_list_well, enter_well, leave_well, finally_well, resume_well}
use Rattle.njs_simul.proofs.ValidPlaces.{fits_listing, fits_waiting, fits_catch, region_well, end_body_well, back_well}
use Rattle.njs_simul.proofs.ValidExpressions.{All, Perhaps, leads_so, then_value, value_at}
use Rattle.njs_simul.proofs.ValidStatements.{begun_part, nothing_part, plain_checked, in_turn_writes, in_turn_checks, in_turn_part}

module _ (functions : List FunctionCode) (names : Around) where
  abbrev Codes : Coded → Type 0
  Codes c = CodedChecked functions names c

  abbrev IsPart : CodedPart → Type 0
  IsPart c = PartChecked functions names c

  abbrev IsStatement : CodedStatement → Type 0
  IsStatement c = StatementChecked functions names c

  abbrev single : (o : Op) (rest : List Op) → Front 1 (o ∷ rest) rest
  single o rest = front_op 0 o rest rest (front_none rest)

  -- ---- `for in`

  next_written : (c : Coded) (here : Here) (n : ℕ) (middle rest : List Op) → Codes c → Front n middle rest → Front (c.size + (3 + n)) (next_name c here middle) rest
  next_written c here n middle rest t f =
      let e : suc (suc (suc n)) ≡ 3 + n = omega arith in
      front_then c.size (3 + n) _ _ rest (t.writes here _) (front_count _ _ _ rest e (front_op _ _ _ rest (assign_front c.form here _ _ rest (front_op _ _ _ rest f))))

  next_well : (c : Coded) → Codes c → (f : FunctionCode) (here : Here) (rest : List Op) → here.names ≡ names → Fits f here → 1 ≤ here.depth.lists → Well functions f here rest → Well functions f here (next_name c here rest)
  unfolding is_simple names_valid
  next_well c t f here rest same fits lists well =
      t.checks f here _ same fits
      (named_well functions f kind.NextName (width c.form) (suc (width c.form)) here _ refl (leads_so kind.NextName (width c.form) (suc (width c.form)) (omega arith) (omega arith)) refl lists fits refl
      (assign_well functions f c.form here _ fits (simple_well functions f kind.Drop 1 0 refl here rest fits well)))

  module _ (labels : List (List ℕ)) (head : Coded) (body : CodedStatement) (th : Codes head) (tb : IsStatement body) where
    names_written : (past top : Address) (here : Here) (rest : List Op)
        → Front (head.size + (3 + (body.size + 3))) (next_name head here (body.emit [] (inside (op (kind.EndBody labels past) here (op (kind.MoreNames past) here (op (kind.Jump top) here rest))) here)
        (op (kind.EndBody labels past) here (op (kind.MoreNames past) here (op (kind.Jump top) here rest))))) rest
    names_written past top here rest =
        next_written head here (body.size + 3) _ rest th (front_then body.size 3 _ _ rest ((tb.with_labels []).writes _ _) (front_op 2 _ _ rest (front_op 1 _ _ rest (single _ rest))))

    top_size : (h b r : ℕ) → suc (h + (3 + (b + 3))) + r ≡ suc ((h + (3 + (b + 2))) + suc r)
    top_size h b r = omega arith

    -- with the list that it goes through
    names_well : (f : FunctionCode) (here : Here) (rest : List Op) → here.names ≡ names → Fits f here → 1 ≤ here.depth.lists → Well functions f here rest
        → Well functions f here (turn_in labels head body (head_of (head.size + (3 + (body.size + 2))) rest) (address rest) here rest)
    unfolding is_simple is_jump is_ending
    names_well f here rest same fits lists well ends =
        let past = address rest in
        let top = head_of (head.size + (3 + (body.size + 2))) rest in
        let back = op (kind.Jump top) here rest in
        let more = op (kind.MoreNames past) here back in
        let end = op (kind.EndBody labels past) here more in
        let inner = body.emit [] (inside end here) end in
        let tail = next_name head here inner in
        let charge : Op = record { kind = kind.Charge; depth = here.depth; around = here.around } in
        let place : length (charge ∷ tail) ≡ top.0 =
        front_length (suc (head.size + (3 + (body.size + 3)))) (charge ∷ tail) rest (front_op _ _ _ rest (names_written past top here rest)) ∙ top_size head.size body.size (length rest) in
        let found : op_at f.ops top.0 ≡ Some charge = subst (λ n. op_at f.ops n ≡ Some charge) place (at_address f.ops charge tail ends) in
        let more_well = jump_well functions f (kind.MoreNames past) 0 0 0 refl 1 here back rest refl lists fits (single _ rest) (back_well functions f here rest top found fits well) well in
        let end_well = end_body_well functions f labels 2 here more rest (front_op 1 _ back rest (single _ rest)) fits more_well well in
        let inner_well = region_well functions f (kind.EndBody labels past) names here more end 0 body.size (body.emit []) refl (front_none end) (tb.with_labels []).writes (tb.with_labels []).checks same fits end_well in
        simple_well functions f kind.Charge 0 0 refl here tail fits (next_well head th f here inner same fits lists inner_well) ends

    each_well : (f : FunctionCode) (here : Here) (rest : List Op) → here.names ≡ names → Fits f here → Well functions f here rest → Well functions f (listing here) (each_name labels head body (listing here) rest)
    unfolding is_simple is_jump
    each_well f here rest same fits well =
        let last = op kind.DropList (listing here) rest in
        let deep = fits_listing functions f here fits in
        let last_well = drops_list_well functions f here rest fits well in
        let top = head_of (head.size + (3 + (body.size + 2))) last in
        jump_well functions f (kind.MoreNames (address last)) 0 0 0 refl _ (listing here) (turn_in labels head body top (address last) (listing here) last) last refl (omega arith) deep
        (front_op _ _ _ last (names_written (address last) top (listing here) last)) (names_well f (listing here) last same deep (omega arith) last_well) last_well

    each_size : (h b : ℕ) → suc (suc (h + (3 + (b + 3)) + 1)) ≡ suc (suc (h + (3 + (b + 4))))
    each_size h b = omega arith

    each_writes : (here : Here) (rest : List Op) → Front (suc (suc (head.size + (3 + (body.size + 4))))) (each_name labels head body here rest) rest
    each_writes here rest =
        front_count _ _ _ rest (each_size head.size body.size)
        (front_op _ _ _ rest (front_op _ _ _ rest (front_then (head.size + (3 + (body.size + 3))) 1 _ _ rest (names_written _ _ here _) (single _ rest))))

  pub for_in_checked : (ch cv : Coded) (cb : CodedStatement) → Codes ch → Codes cv → IsStatement cb → IsStatement (emit.for_in ch cv cb)
  for_in_checked ch cv cb th tv tb = record {
    with_labels = λ labels. begun_part functions names (record { size = _; emit = _ }) (record {
      writes = λ here rest. then_value functions names cv here _ _ rest tv (front_op _ _ _ rest (each_writes labels ch cb th tb (listing here) rest));
      checks = λ f here rest same fits well.
          value_at functions names f here same fits cv 0 _ tv (lists_well functions f here _ fits (each_well labels ch cb th tb f here rest same fits well));
    });
  }

  -- ---- endings

  ends_checked : (k : Kind) → is_simple k 0 0 ≡ true → IsStatement (emit.ends_with k)
  ends_checked k h = record {
    with_labels = λ labels. begun_part functions names (record { size = 1; emit = op k }) (record {
      writes = λ here rest. single _ rest;
      checks = λ f here rest same fits well. simple_well functions f k 0 0 h here rest fits well;
    });
  }

  pub continue_checked : (label : Option (List ℕ)) → IsStatement (emit.ends_with (kind.Continue label))
  unfolding is_simple
  continue_checked label = ends_checked (kind.Continue label) refl

  pub break_checked : (label : Option (List ℕ)) → IsStatement (emit.ends_with (kind.Break label))
  unfolding is_simple
  break_checked label = ends_checked (kind.Break label) refl

  given_writes : (c : Option Coded) → Perhaps Codes c → Writes (value_or_undefined c).size (value_or_undefined c).emit
  given_writes None t here rest = single _ rest
  given_writes (Some c) t here rest = value_writes c t.writes here rest

  given_at : (c : Option Coded) → Perhaps Codes c → (f : FunctionCode) (here : Here) (rest : List Op) → here.names ≡ names → Fits f here → Well functions f (deeper 1 here) rest → Well functions f here ((value_or_undefined c).emit here rest)
  unfolding is_simple
  given_at None t f here rest same fits well = simple_well functions f kind.Undefined 0 1 refl here rest fits well
  given_at (Some c) t f here rest same fits well = value_at functions names f here same fits c 0 rest t well

  pub return_checked : (c : Option Coded) → Perhaps Codes c → IsStatement (emit.return c)
  unfolding is_simple
  return_checked c t = record {
    with_labels = λ labels. begun_part functions names (record { size = _; emit = _ }) (record {
      writes = λ here rest. front_then _ 1 _ _ rest (given_writes c t here _) (single _ rest);
      checks = λ f here rest same fits well. given_at c t f here _ same fits (simple_well functions f kind.Return 1 0 refl here rest fits well);
    });
  }

  pub throw_checked : (c : Coded) → Codes c → IsStatement (emit.throw_value c)
  unfolding is_simple
  throw_checked c t = record {
    with_labels = λ labels. begun_part functions names (record { size = _; emit = _ }) (record {
      writes = λ here rest. then_value functions names c here 1 _ rest t (single _ rest);
      checks = λ f here rest same fits well. value_at functions names f here same fits c 0 _ t (simple_well functions f kind.Throw 1 0 refl here rest fits well);
    });
  }

  pub labelled_checked : (label : List ℕ) (c : CodedStatement) → IsStatement c → IsStatement (emit.labelled label c)
  labelled_checked label c t = record { with_labels = λ labels. begun_part functions names (record { size = c.size; emit = c.emit (label ∷ labels) }) (t.with_labels (label ∷ labels)) }

  pub declaration_checked : (made : Made) → IsStatement (compiled.declaration made)
  declaration_checked made = record { with_labels = λ labels. begun_part functions names (record { size = 0; emit = emit.nothing }) (nothing_part functions names) }

  -- ---- `switch`

  pub record BranchChecked (c : CodedBranch) : Type 0 where
    pub test : Perhaps Codes c.test
    pub body : All IsStatement c.body

  bodies_writes : (bs : List CodedBranch) → All BranchChecked bs → Writes (bodies_size bs) (bodies bs)
  bodies_writes [] t here rest = front_none rest
  bodies_writes (b ∷ bs) t here rest = front_then (in_turn_size b.body) (bodies_size bs) _ _ rest (in_turn_writes functions names b.body t.0.body here _) (bodies_writes bs t.1 here rest)

  bodies_checks : (bs : List CodedBranch) → All BranchChecked bs → Checks functions names (bodies bs) 0
  bodies_checks [] t f here rest same fits well = well
  bodies_checks (b ∷ bs) t f here rest same fits well = in_turn_checks functions names b.body t.0.body f here _ same fits (bodies_checks bs t.1 f here rest same fits well)

  tested_written : (test : Option Coded) (to : Address) (here : Here) (n : ℕ) (others rest : List Op) → Perhaps Codes test → Front n others rest
      → Front (option_map_or (λ test. value_size test + 1) test 0 + n) (option_map_or (λ test. value test (deeper 1 here) (op (kind.JumpSame to) (deeper 2 here) others)) test others) rest
  tested_written None to here n others rest t f = front_count n (0 + n) others rest (omega arith) f
  tested_written (Some c) to here n others rest t f =
      let e : value_size c + suc n ≡ value_size c + 1 + n = omega arith in
      front_count _ _ _ rest e (then_value functions names c (deeper 1 here) _ _ rest t (front_op _ _ _ rest f))

  branches_writes : (bs : List CodedBranch) → All BranchChecked bs → (body_at : List CodedBranch → Address) → Writes (branches_size bs) (branches bs body_at)
  branches_writes [] t body_at here rest = front_none rest
  branches_writes (b ∷ bs) t body_at here rest = tested_written b.test (body_at (b ∷ bs)) here _ _ rest t.0.test (branches_writes bs t.1 body_at here rest)

  -- the bodies from one on
  record Left (bs : List CodedBranch) (at : Address) (here : Here) (rest : List Op) : Type 0 where
    left : List CodedBranch
    checked : All BranchChecked left
    is : at ≡ address (bodies left here rest)
    count : ℕ
    front : Front count (bodies bs here rest) (bodies left here rest)

  default_by : (test : Option Coded) (b : CodedBranch) (bs : List CodedBranch) (here : Here) (rest : List Op) → All BranchChecked (b ∷ bs) → Left bs (default_at bs here rest) here rest
      → Left (b ∷ bs) (option_map_or (λ test. default_at bs here rest) test (address (bodies (b ∷ bs) here rest))) here rest
  default_by None b bs here rest t l = record { left = b ∷ bs; checked = t; is = refl; count = 0; front = front_none (bodies (b ∷ bs) here rest) }
  default_by (Some c) b bs here rest t l = record {
    left = l.left;
    checked = l.checked;
    is = l.is;
    count = in_turn_size b.body + l.count;
    front = front_then (in_turn_size b.body) l.count _ (bodies bs here rest) (bodies l.left here rest) (in_turn_writes functions names b.body t.0.body here (bodies bs here rest)) l.front;
  }

  default_is : (bs : List CodedBranch) (here : Here) (rest : List Op) → All BranchChecked bs → Left bs (default_at bs here rest) here rest
  default_is [] here rest t = record { left = []; checked = tt; is = refl; count = 0; front = front_none rest }
  default_is (b ∷ bs) here rest t = default_by b.test b bs here rest t (default_is bs here rest t.1)

  module _ (f : FunctionCode) (here : Here) (rest : List Op) (same : here.names ≡ names) (fits : Fits f here) (well : Well functions f here rest) where
    abbrev end : List Op
    end = op kind.EndSwitch here rest

    abbrev within : Here
    within = inside end here

    bodies_well : (bs : List CodedBranch) → All BranchChecked bs → Well functions f here (bodies bs within end)
    unfolding is_simple is_ending
    bodies_well bs t =
        region_well functions f kind.EndSwitch names here rest end 0 (bodies_size bs) (bodies bs) refl (front_none end) (bodies_writes bs t) (bodies_checks bs t) same fits
        (simple_well functions f kind.EndSwitch 0 0 refl here rest fits well)

    tested_well : (test : Option Coded) (n : ℕ) (others target : List Op) → Perhaps Codes test → Front n others target → Well functions f here target → Well functions f (deeper 1 here) others
        → Well functions f (deeper 1 here) (option_map_or (λ test. value test (deeper 1 here) (op (kind.JumpSame (address target)) (deeper 2 here) others)) test others)
    unfolding is_simple is_jump
    tested_well None n others target t front there go = go
    tested_well (Some c) n others target t front there go =
        value_at functions names f here same fits c 1 _ t (jump_well functions f (kind.JumpSame (address target)) 2 1 0 refl n here others target refl (omega arith) fits front go there)

    branches_well : (all bs : List CodedBranch) (k m : ℕ) (last : List Op) → All BranchChecked bs → Front k last (bodies all within end) → Front m (bodies all within end) (bodies bs within end) → Well functions f (deeper 1 here) last
        → Well functions f (deeper 1 here) (branches bs (λ left. address (bodies left within end)) here last)
    branches_well all [] k m last t on front go = go
    branches_well all (b ∷ bs) k m last t on front go =
        let others = branches bs (λ left. address (bodies left within end)) here last in
        let later = front_then m (in_turn_size b.body) _ _ (bodies bs within end) front (in_turn_writes functions names b.body t.0.body within (bodies bs within end)) in
        tested_well b.test _ others (bodies (b ∷ bs) within end) t.0.test
        (front_then (branches_size bs) _ others last (bodies (b ∷ bs) within end) (branches_writes bs t.1 _ here last) (front_then k m last _ (bodies (b ∷ bs) within end) on front))
        (bodies_well (b ∷ bs) t) (branches_well all bs k _ last t.1 on later go)

    switch_well : (bs : List CodedBranch) → All BranchChecked bs → Well functions f (deeper 1 here) (switch_branches bs here rest)
    unfolding is_simple is_jump
    switch_well bs t =
        let l = default_is bs within end t in
        let all = bodies bs within end in
        let jump = op (kind.Jump (default_at bs within end)) here all in
        branches_well bs bs 2 0 (op kind.Drop (deeper 1 here) jump) t (front_op 1 _ jump all (single _ all)) (front_none all)
        (simple_well functions f kind.Drop 1 0 refl here jump fits
        (jump_well functions f (kind.Jump (default_at bs within end)) 0 0 0 refl l.count here all (bodies l.left within end) (ap Some l.is) (omega arith) fits l.front (bodies_well bs t) (bodies_well l.left l.checked)))

  pub switch_checked : (cv : Coded) (bs : List CodedBranch) → Codes cv → All BranchChecked bs → IsStatement (emit.switch cv bs)
  switch_checked cv bs tv t = record {
    with_labels = λ labels. begun_part functions names (record { size = _; emit = _ }) (record {
      writes = λ here rest. then_value functions names cv here _ _ rest tv (front_then (branches_size bs) _ _ _ rest (branches_writes bs t _ here _)
          (front_op _ _ _ rest (front_op _ _ _ rest (front_then (bodies_size bs) 1 _ _ rest (bodies_writes bs t _ _) (single _ rest)))));
      checks = λ f here rest same fits well. value_at functions names f here same fits cv 0 _ tv (switch_well f here rest same fits well bs t);
    });
  }

-- ---- `try`

module _ (functions : List FunctionCode) (names : Around) where
  -- a `catch`, in the scope with its name
  abbrev pub CaughtChecked : List ℕ × List CodedStatement → Type 0
  CaughtChecked caught = All (StatementChecked functions (((caught.0, true) ∷ []) ∷ names)) caught.1

  module _ (body : List CodedStatement) (tb : All (StatementChecked functions names) body) where
    handled_checks : (name : List ℕ) (handler : List CodedStatement) → All (StatementChecked functions (((name, true) ∷ []) ∷ names)) handler → Checks functions names (handled body name handler) 0
    unfolding is_simple is_jump is_ending
    handled_checks name handler th f here rest same fits well =
        let leaves = op kind.Leave (in_catch name here) rest in
        let caught = op (kind.Enter name) (deeper 1 here) (in_turn handler (in_catch name here) leaves) in
        let end = op kind.EndBlock here caught in
        let jump = op (kind.Jump (address rest)) here end in
        let handler_well = in_turn_checks functions (((name, true) ∷ []) ∷ names) handler th f (in_catch name here) leaves (ap (λ names. ((name, true) ∷ []) ∷ names) same) (fits_catch functions f name here fits)
        (leave_well functions f name here rest fits well) in
        let end_well = simple_well functions f kind.EndBlock 0 1 refl here caught fits (enter_well functions f name here _ fits handler_well) in
        let end_front = front_op _ _ caught rest (front_op _ _ _ rest (front_then (in_turn_size handler) 1 _ leaves rest
        (in_turn_writes functions (((name, true) ∷ []) ∷ names) handler th (in_catch name here) leaves) (front_op 0 _ rest rest (front_none rest)))) in
        region_well functions f kind.EndBlock names here caught jump 1 (in_turn_size body) (in_turn body) refl (front_op 0 _ end end (front_none end))
        (in_turn_writes functions names body tb) (in_turn_checks functions names body tb) same fits
        (jump_well functions f (kind.Jump (address rest)) 0 0 0 refl _ here end rest refl (omega arith) fits end_front end_well well)

    handler_part : (caught : Option (List ℕ × List CodedStatement)) → Perhaps CaughtChecked caught → PartChecked functions names (with_handler body caught)
    handler_part None t = in_turn_part functions names body tb
    handler_part (Some caught) t = record {
      writes = λ here rest. front_then (in_turn_size body) _ _ _ rest (in_turn_writes functions names body tb _ _) (front_op _ _ _ rest (front_op _ _ _ rest (front_op _ _ _ rest
          (front_then (in_turn_size caught.1) 1 _ _ rest (in_turn_writes functions (((caught.0, true) ∷ []) ∷ names) caught.1 t _ _) (front_op 0 _ rest rest (front_none rest))))));
      checks = handled_checks caught.0 caught.1 t;
    }

  last_part : (part : CodedPart) → PartChecked functions names part → (last : Option (List CodedStatement)) → Perhaps (All (StatementChecked functions names)) last → PartChecked functions names (with_last part last)
  unfolding is_simple is_ending
  last_part part t None k = t
  last_part part t (Some last) k = record {
    writes = λ here rest. front_then part.size _ _ _ rest (t.writes _ _) (front_op _ _ _ rest (front_then (in_turn_size last) 1 _ _ rest (in_turn_writes functions names last k (waiting here) _) (front_op 0 _ rest rest (front_none rest))));
    checks = λ f here rest same fits well.
        let resumes = op kind.Resume (waiting here) rest in
        let ending = in_turn last (waiting here) resumes in
        let end = op kind.Finally here ending in
        let end_well = finally_well functions f here ending fits (in_turn_checks functions names last k f (waiting here) resumes same (fits_waiting functions f here fits) (resume_well functions f here rest fits well)) in
        region_well functions f kind.Finally names here ending end 0 part.size part.emit refl (front_none end) t.writes t.checks same fits end_well;
  }

  pub try_checked : (body : List CodedStatement) (caught : Option (List ℕ × List CodedStatement)) (last : Option (List CodedStatement)) → All (StatementChecked functions names) body → Perhaps CaughtChecked caught
      → Perhaps (All (StatementChecked functions names)) last → StatementChecked functions names (emit.try_catch body caught last)
  try_checked body caught last tb tk tl = plain_checked functions names (with_last (with_handler body caught) last) (last_part (with_handler body caught) (handler_part body tb caught tk) last tl)
