-- Places in valid code: with more operands, in regions, behind loops.
use Rattle.std.proofs.Common.{◌≡◌, ℕ, suc, ◌+◌, ◌-◌, ◌≤◌, List, [], ◌∷◌, ◌++◌, length, replicate, map, true, nat_lt, Some, refl, ap, sym, subst, ◌∙◌, arith}
use Rattle.std.specs.Option.{option_map_or}
use Rattle.std.proofs.lemmas.Bool.{and_from, or_right, lt-ltb}
use Rattle.njs_code.specs.declared.op.Address.{Address}
use Rattle.njs_code.specs.declared.op.Kind.{Kind}
use Rattle.njs_code.specs.declared.op.Kind.TheVariants as kind
use Rattle.njs_code.specs.declared.op.Op.{Op}
use Rattle.njs_code.specs.declared.code.FunctionCode.{FunctionCode}
use Rattle.njs_code.specs.Effects.{is_ending, depth_left, depth_next, depth_at_jump}
use Rattle.njs_code.specs.Valid.{op_at, carries, charges, is_charge, names_valid, slots_outwards}
use Rattle.njs_meaning.specs.Places.{Around}
use Rattle.njs_simul.specs.Emission.{Here, Emits, op, address, deeper, inside}
use Rattle.njs_simul.specs.EmissionOfStatements.{slots_of, listing, in_catch, waiting}
use Rattle.njs_simul.specs.Laws.{EndsWith, Front, Writes}
use Rattle.njs_simul.specs.Checks.{Same, EndAt, Fits, Stands, Well, Checks, is_simple, is_jump}
use Rattle.njs_simul.proofs.Runs.{next}
use Rattle.njs_simul.proofs.Steps.{front_length, behind_front}
use Rattle.njs_simul.proofs.ValidSteps.{on_is, starts_same, end_within, at_address, carried, carries_first, step_well, flat_step, jump_so}
use Rattle.njs_simul.proofs.ValidNames.{outer_later}

-- the address of an end
to_is : (n : ℕ) (to : Address) → Some (record { 0 = n }) ≡ Some to → n ≡ to.0
to_is n to is = ap (λ o. option_map_or (λ (a : Address). a.0) o 0) is

module _ (functions : List FunctionCode) (f : FunctionCode) where
  pub fits_deeper : (n : ℕ) (here : Here) → Fits f here → Fits f (deeper n here)
  fits_deeper n here fits = record {
    scopes = fits.scopes;
    slots = fits.slots;
    outer = fits.outer;
    some = fits.some;
    around = λ to is. let e = on_is n here.depth.operands in
        end_within f.ops to.0 here.depth (deeper n here).depth (record { operands = omega (arith, e); scopes = omega arith; lists = omega arith; endings = omega arith }) (fits.around to is);
  }

  pub fits_listing : (here : Here) → Fits f here → Fits f (listing here)
  fits_listing here fits = record {
    scopes = fits.scopes;
    slots = fits.slots;
    outer = fits.outer;
    some = fits.some;
    around = λ to is. end_within f.ops to.0 here.depth (listing here).depth (record { operands = omega arith; scopes = omega arith; lists = omega arith; endings = omega arith }) (fits.around to is);
  }

  pub fits_waiting : (here : Here) → Fits f here → Fits f (waiting here)
  fits_waiting here fits = record {
    scopes = fits.scopes;
    slots = fits.slots;
    outer = fits.outer;
    some = fits.some;
    around = λ to is. end_within f.ops to.0 here.depth (waiting here).depth (record { operands = omega arith; scopes = omega arith; lists = omega arith; endings = omega arith }) (fits.around to is);
  }

  entered : (slots : List ℕ) (scopes : ℕ) → 1 ≤ scopes → slots_outwards slots (suc scopes) ≡ 1 ∷ slots_outwards slots scopes
  entered slots scopes h = let e : suc scopes - 1 ≡ suc (scopes - 1) = omega (arith, h) in ap (λ n. replicate n 1 ++ slots) e

  pub count_map : {A B : Type 0} (g : A → B) (xs : List A) → length (map g xs) ≡ length xs
  count_map g [] = refl
  count_map g (x ∷ xs) = ap suc (count_map g xs)

  pub fits_catch : (name : List ℕ) (here : Here) → Fits f here → Fits f (in_catch name here)
  fits_catch name here fits =
      let scopes = fits.scopes in let some = fits.some in
      let count : length (slots_of here.names) ≡ length here.names = count_map length here.names in
      record {
        scopes = omega (arith, scopes);
        slots = entered f.slots here.depth.scopes fits.scopes ∙ ap (λ slots. 1 ∷ slots) fits.slots;
        outer = fits.outer ∙ sym (outer_later 1 (slots_of here.names) (omega (arith, count, some)));
        some = omega arith;
        around = λ to is. end_within f.ops to.0 here.depth (in_catch name here).depth (record { operands = omega arith; scopes = omega arith; lists = omega arith; endings = omega arith }) (fits.around to is);
      }

  -- ---- regions

  fits_inside : (k : Kind) (here : Here) (rest : List Op) → is_ending k ≡ true → EndsWith f.ops (op k here rest) → Fits f here → Fits f (inside (op k here rest) here)
  fits_inside k here rest ending ends fits = record {
    scopes = fits.scopes;
    slots = fits.slots;
    outer = fits.outer;
    some = fits.some;
    around = λ to is. subst (λ n. EndAt f.ops n here.depth) (to_is (length (op k here rest)) to is) (record {
      end = record { kind = k; depth = here.depth; around = here.around };
      found = at_address f.ops (record { kind = k; depth = here.depth; around = here.around }) rest ends;
      ending = ending;
      within = record { operands = omega arith; scopes = omega arith; lists = omega arith; endings = omega arith };
    });
  }

  inside_stands : (m : ℕ) (here : Here) (tail end : List Op) → Front m tail end → Stands functions f here tail → Stands functions f (inside end here) tail
  inside_stands m here tail end front s = record {
    starts = s.starts;
    further = λ to is. let n = to_is (length end) to is in let total = front_length m tail end front in omega (arith, n, total);
    valid = s.valid;
  }

  outside_stands : (count : ℕ) (here : Here) (end whole tail : List Op) → Front count whole tail → Stands functions f (inside end here) whole → Stands functions f here tail → Stands functions f here whole
  outside_stands count here end whole tail front s t = record {
    starts = s.starts;
    further = λ to is. let le = t.further to is in let total = front_length count whole tail front in omega (arith, le, total);
    valid = s.valid;
  }

  -- a part that an operation ends
  pub region_well : (k : Kind) (names : Around) (here : Here) (rest tail : List Op) (m count : ℕ) (emit : Emits) → is_ending k ≡ true → Front m tail (op k here rest) → Writes count emit → Checks functions names emit 0
      → here.names ≡ names → Fits f here → Well functions f here tail → Well functions f here (emit (inside (op k here rest) here) tail)
  region_well k names here rest tail m count emit ending front writes checks same fits well ends =
      let end = op k here rest in let whole = emit (inside end here) tail in
      let written = writes (inside end here) tail in
      let tail_ends = behind_front count f.ops whole tail written ends in
      let end_ends = behind_front m f.ops tail end front tail_ends in
      outside_stands count here end whole tail written
      (checks f (inside end here) tail same (fits_inside k here rest ending end_ends fits) (λ e. inside_stands m here tail end front (well e)) ends)
      (well tail_ends)

  -- ---- loops

  -- the end of a loop's body; a `break` leads behind the loop
  pub end_body_well : (labels : List (List ℕ)) (count : ℕ) (here : Here) (rest target : List Op) → Front count rest target → Fits f here → Well functions f here rest → Well functions f here target
      → Well functions f here (op (kind.EndBody labels (address target)) here rest)
  unfolding is_simple is_jump names_valid
  end_body_well labels count here rest target front fits well there ends =
      let o : Op = record { kind = kind.EndBody labels (address target); depth = here.depth; around = here.around } in
      let after = next f.ops o rest ends in let w = well after in
      let at_target = behind_front count f.ops rest target front after in let t = there at_target in
      let total = front_length count rest target front in
      let scopes = fits.scopes in
      step_well functions f o.kind here rest after w.further (record {
        operands = omega arith;
        scopes = fits.scopes;
        lists = omega arith;
        endings = omega arith;
        names = refl;
        next = λ goes. starts_same rest here.depth (depth_next o.kind here.depth) (record { operands = omega arith; scopes = omega arith; lists = omega arith; endings = omega arith }) w.starts;
        jump = refl;
        past = and_from (nat_lt (length target) (length rest + 1)) (carries (op_at f.ops (length target)) here.depth)
            (lt-ltb (length target) (length rest + 1) (omega (arith, total))) (carries_first f.ops target here.depth at_target t.starts);
        around = λ to is. end_within f.ops to.0 here.depth (depth_left o.kind here.depth) (record { operands = omega arith; scopes = omega arith; lists = omega arith; endings = omega arith }) (fits.around to is);
      }) w.valid

  -- back to the head of a loop
  pub back_well : (here : Here) (rest : List Op) (head : Address) → op_at f.ops head.0 ≡ Some (record { kind = kind.Charge; depth = here.depth; around = here.around }) → Fits f here → Well functions f here rest
      → Well functions f here (op (kind.Jump head) here rest)
  unfolding is_simple is_jump is_charge names_valid
  back_well here rest head found fits well ends =
      let o : Op = record { kind = kind.Jump head; depth = here.depth; around = here.around } in
      let charge : Op = record { kind = kind.Charge; depth = here.depth; around = here.around } in
      let after = next f.ops o rest ends in let w = well after in
      let same : Same here.depth (depth_at_jump (kind.Jump head) here.depth) = record { operands = omega arith; scopes = omega arith; lists = omega arith; endings = omega arith } in
      let charges_so : charges (op_at f.ops head.0) ≡ true = ap charges found in
      step_well functions f (kind.Jump head) here rest after w.further
      (flat_step functions f (kind.Jump head) 0 0 here rest refl refl (omega arith) fits refl w.starts
      (jump_so functions f f.ops (length rest + 1) o (Some head) head refl
      (carried (op_at f.ops head.0) charge (depth_at_jump (kind.Jump head) here.depth) found same)
      (or_right (nat_lt head.0 (length rest + 1)) (charges (op_at f.ops head.0)) charges_so))) w.valid
