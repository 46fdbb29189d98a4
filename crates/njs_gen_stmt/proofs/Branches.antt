-- How statements that hold others are written (ECMA-262 5.1 §12.1, §12.5, §12.11, §12.12, §12.14).
use Rattle.std.proofs.Common.{◌≡◌, ℕ, suc, ◌+◌, List, [], ◌∷◌, ◌++◌, Option, None, Some, refl, sym, ap, subst, arith, ◌∙◌}
use Rattle.std.proofs.lemmas.List.{append_assoc}
use Rattle.njs_code.specs.declared.op.Address.{Address}
use Rattle.njs_code.specs.declared.op.Kind.TheVariants as kind
use Rattle.njs_code.specs.declared.op.Op.{Op}
use Rattle.njs_meaning.specs.declared.place.Place.{Place}
use Rattle.njs_meaning.specs.Places.{Around}
use Rattle.njs_meaning.specs.Parts.{Part, one, two, three}
use Rattle.njs_simul.specs.Emission as emit
use Rattle.njs_simul.specs.Emission.{Coded, value, value_size, deeper, op, address, inside}
use Rattle.njs_simul.specs.EmissionOfStatements as step
use Rattle.njs_simul.specs.EmissionOfStatements.{CodedStatement, CodedBranch}
use Rattle.njs_simul.specs.Compiled.{Placed, Of_expression, Of_statement}
use Rattle.njs_scope.specs.Uses as uses
use Rattle.njs_scope.specs.Uses.{Of_part}
use Rattle.njs_gen_expr.specs.declared.here.Here.{Here}
use Rattle.njs_gen_expr.specs.declared.writer.Mark.{Mark}
use Rattle.njs_gen_expr.specs.Written.{Progress, IsGoing, draft, Holds, Stands}
use Rattle.njs_gen_expr.specs.Parts.{Wrote, WroteValue}
use Rattle.njs_gen_expr.proofs.Drafts.{recount, split}
use Rattle.njs_gen_expr.proofs.Shapes.{Puts, Deeper}
use Rattle.njs_gen_stmt.specs.Statements.{WrotePart, WroteLabelled, WroteDefault, Within, InFront, last_size, finally, before_last, caught_size, catch, before_catch}
use Rattle.njs_gen_stmt.proofs.Steps.{failed_holds, Marks, GoesTo, Stays, Keeps, Begins}
use Rattle.njs_gen_stmt.proofs.Loops.{Tests}

module _ (A : Of_expression) (B : Of_statement) (C : Part Placed (Option CodedStatement)) (U V W : Of_part) (here : Here) where
  pub if_written : (ls : List (List ℕ)) (past away : Address) (w0 w1 w2 w3 w4 w5 : Progress) → Begins past w0 → Stays w0 w1
      → WrotePart (one C step.optional) W here w0 w1 → Begins away w1 → Puts (kind.Jump past) here w1 w2 → Stays w1 w2
      → WroteLabelled [] B V here w2 w3 → Stays w2 w3 → Tests away A step.test_of U here w3 w4 → Puts kind.Charge here w4 w5
      → WroteLabelled ls (three A B C step.if_else) (three U V W (λ a b c. uses.both a (uses.both b c))) here w0 w5
  if_written ls past away w0 w1 w2 w3 w4 w5 begins stays1 others begins' jumps stays2 bodies stays3 tests starts at first start n ops front s h =
      let test = A.means first in
      let body = B.means (first + A.size) in
      let other = C.means (first + (A.size + B.size)) in
      let ua = (U.means start).places at.names in
      let ub = (V.means (start + U.size)).places at.names in
      let uc = (W.means (start + (U.size + V.size))).places at.names in
      let whole = subst (λ ps. Holds w0 (draft ops n (front ++ ps) (first + ((A.size + B.size) + C.size)))) (sym (append_assoc ua ub uc)) h in
      let h0 = split w0 ops n front (ua ++ ub) uc first (A.size + B.size) C.size whole in
      let h1 = others at (first + (A.size + B.size)) (start + (U.size + V.size)) n ops (front ++ (ua ++ ub)) s h0 in
      let otherwise = (step.optional other).emit at ops in
      let size1 = (step.optional other).size + n in
      let jump = kind.Jump (address ops) in
      let h2 = jumps jump at (draft otherwise size1 (front ++ (ua ++ ub)) (first + (A.size + B.size))) (λ g. ap (λ to. kind.Jump to) (begins _ (stays1 g) h0)) s h1 in
      let jumped = op jump at otherwise in
      let h3 = bodies at (first + A.size) (start + U.size) (suc size1) jumped (front ++ ua) s (split w2 jumped (suc size1) front ua ub first A.size B.size h2) in
      let then = body.emit [] at jumped in
      let size3 = body.size + suc size1 in
      let h4 = tests (address otherwise) (λ g. begins' _ (stays2 (stays3 g)) h1) at first start size3 then front s h3 in
      recount w5 _ (suc (suc (value_size test) + size3)) _ front first (omega arith)
      (starts kind.Charge at (draft ((step.test_of test).emit (address otherwise) at then) (suc (value_size test) + size3) front first) (λ g. refl) s h4)

abbrev pub switch_size : List CodedBranch → ℕ
switch_size bs = step.branches_size bs + suc (suc (step.bodies_size bs + 1))

module _ (A : Of_expression) (B : Part Placed (List CodedBranch)) (U V : Of_part) (here : Here) where
  pub switch_written : (ls : List (List ℕ)) (w0 w1 w2 w3 : Progress) → Wrote switch_size step.switch_branches B V here w0 w1 → WroteValue A U here w1 w2 → Puts kind.Charge here w2 w3
      → WroteLabelled ls (two A B step.switch) (two U V uses.both) here w0 w3
  switch_written ls w0 w1 w2 w3 branches values starts at first start n ops front s h =
      let v = A.means first in
      let bs = B.means (first + A.size) in
      let ua = (U.means start).places at.names in
      let ub = (V.means (start + U.size)).places at.names in
      let h1 = branches at (first + A.size) (start + U.size) n ops (front ++ ua) s (split w0 ops n front ua ub first A.size B.size h) in
      let tests = step.switch_branches bs at ops in
      let size1 = switch_size bs + n in
      let h2 = values at first start size1 tests front s h1 in
      recount w3 _ (suc (value_size v + size1)) _ front first (omega arith)
      (starts kind.Charge at (draft (value v at tests) (value_size v + size1) front first) (λ g. refl) s h2)

module _ (B : Part Placed (List CodedBranch)) (V : Of_part) (here : Here) where
  pub branches_written : (inner deep : Here) (behind : Mark) (end default : Address) (w0 w1 w2 w3 w4 w5 w6 : Progress) → Marks behind w0 → Puts kind.EndSwitch here w0 w1 → Stays w0 w1
      → Within w1 here (Some inner) → Begins end w1 → Wrote step.bodies_size step.bodies B V inner w1 w2 → WroteDefault B V inner w1 w2 default → Stays w1 w2
      → Puts (kind.Jump default) here w2 w3 → Stays w2 w3 → Puts kind.Drop deep w3 w4 → Deeper 1 here deep → Stays w3 w4 → GoesTo behind w4 w5 → Stays w4 w5
      → ((at within : emit.Here) (first start n : ℕ) (ops behind : List Op) (front : List Place) → (IsGoing w5 → end ≡ address behind) → Stands here at
      → Holds w5 (draft ops n (front ++ (V.means start).places at.names) (first + B.size))
      → Holds w6 (draft (step.branches (B.means first) (λ left. address (step.bodies left within behind)) at ops) (step.branches_size (B.means first) + n) front first))
      → Wrote switch_size step.switch_branches B V here w0 w6
  branches_written inner deep behind end default w0 w1 w2 w3 w4 w5 w6 marked ends stays1 within begins bodies defaults stays2 jumps stays3 drops deeps stays4 to_behind stays5 tests at first start n ops front s h =
      let bs = B.means first in
      let places = front ++ (V.means start).places at.names in
      let last = op kind.EndSwitch at ops in
      let h1 = ends kind.EndSwitch at (draft ops n places (first + B.size)) (λ g. refl) s h in
      let i : Stands inner (inside last at) = within at (draft last (suc n) places (first + B.size)) s h1 in
      let h2 = bodies (inside last at) first start (suc n) last front i h1 in
      let body = step.bodies bs (inside last at) last in
      let size2 = step.bodies_size bs + suc n in
      let jump = kind.Jump (step.default_at bs (inside last at) last) in
      let h3 = jumps jump at (draft body size2 front first) (λ g. ap (λ to. kind.Jump to) (defaults (inside last at) first start (suc n) last front i g h1)) s h2 in
      let jumped = op jump at body in
      let h4 = drops kind.Drop (deeper 1 at) (draft jumped (suc size2) front first) (λ g. refl) (deeps at s) h3 in
      let dropped = op kind.Drop (deeper 1 at) jumped in
      let size4 = suc (suc size2) in
      let going1 : IsGoing w4 → IsGoing w1 = λ g. stays2 (stays3 (stays4 g)) in
      let h5 = to_behind (draft dropped size4 front first) places (first + B.size) (λ g. marked _ (stays1 (going1 g)) h) h4 in
      recount w6 _ (step.branches_size bs + size4) _ front first (omega arith)
      (tests at (inside last at) first start size4 dropped last front (λ g. begins _ (going1 (stays5 g)) h1) s h5)

  pub branches_ended : (w0 w1 : Progress) → Puts kind.EndSwitch here w0 w1 → Within w1 here None → Wrote switch_size step.switch_branches B V here w0 w1
  branches_ended w0 w1 ends ended at first start n ops front s h =
      let places = front ++ (V.means start).places at.names in
      let h1 = ends kind.EndSwitch at (draft ops n places (first + B.size)) (λ g. refl) s h in
      failed_holds w1 (draft (op kind.EndSwitch at ops) (suc n) places (first + B.size)) _ ended (omega arith) h1

-- ---- `try`

last_names : (l : Option (List CodedStatement)) (at : emit.Here) (rest : List Op) → (before_last l at rest).names ≡ at.names
last_names None at rest = refl
last_names (Some body) at rest = refl

catch_names : (c : Option (List ℕ × List CodedStatement)) (at : emit.Here) (rest : List Op) → (before_catch c at rest).names ≡ at.names
catch_names None at rest = refl
catch_names (Some caught) at rest = refl

handled_ops : (b : List CodedStatement) (c : Option (List ℕ × List CodedStatement)) (at : emit.Here) (rest : List Op)
    → (step.with_handler b c).emit at rest ≡ step.in_turn b (before_catch c at rest) (catch c at rest)
handled_ops b None at rest = refl
handled_ops b (Some caught) at rest = refl

try_ops : (b : List CodedStatement) (c : Option (List ℕ × List CodedStatement)) (l : Option (List CodedStatement)) (at : emit.Here) (rest : List Op)
    → (step.with_last (step.with_handler b c) l).emit at rest
    ≡ step.in_turn b (before_catch c (before_last l at rest) (finally l at rest)) (catch c (before_last l at rest) (finally l at rest))
try_ops b c None at rest = handled_ops b c at rest
try_ops b c (Some body) at rest = handled_ops b c (before_last (Some body) at rest) (finally (Some body) at rest)

handled_size : (b : List CodedStatement) (c : Option (List ℕ × List CodedStatement)) → (step.with_handler b c).size ≡ step.in_turn_size b + caught_size c
handled_size b None = omega arith
handled_size b (Some caught) = refl

try_size : (b : List CodedStatement) (c : Option (List ℕ × List CodedStatement)) (l : Option (List CodedStatement))
    → (step.with_last (step.with_handler b c) l).size ≡ step.in_turn_size b + (caught_size c + last_size l)
try_size b c None = omega (arith, handled_size b c)
try_size b c (Some body) = omega (arith, handled_size b c)

module _ (B : Part Placed (List CodedStatement)) (C : Part Placed (Option (List ℕ × List CodedStatement))) (L : Part Placed (Option (List CodedStatement))) (UB UC UL : Of_part) (here : Here) where
  -- in front of the last part
  last_split : (w0 : Progress) (names : Around) (first start n : ℕ) (ops : List Op) (front : List Place)
      → Holds w0 (draft ops n (front ++ ((UB.means start).places names ++ ((UC.means (start + UB.size)).places names ++ (UL.means (start + (UB.size + UC.size))).places names))) (first + ((B.size + C.size) + L.size)))
      → Holds w0 (draft ops n ((front ++ ((UB.means start).places names ++ (UC.means (start + UB.size)).places names)) ++ (UL.means (start + (UB.size + UC.size))).places names) ((first + (B.size + C.size)) + L.size))
  last_split w0 names first start n ops front h =
      let ub = (UB.means start).places names in
      let uc = (UC.means (start + UB.size)).places names in
      let ul = (UL.means (start + (UB.size + UC.size))).places names in
      split w0 ops n front (ub ++ uc) ul first (B.size + C.size) L.size
      (subst (λ ps. Holds w0 (draft ops n (front ++ ps) (first + ((B.size + C.size) + L.size)))) (sym (append_assoc ub uc ul)) h)

  pub try_written : (ls : List (List ℕ)) (outer inner : Here) (w0 w1 w2 w3 w4 : Progress) → Wrote last_size finally L UL here w0 w1 → InFront before_last L UL here w0 w1 (Some outer)
      → Wrote caught_size catch C UC outer w1 w2 → InFront before_catch C UC outer w1 w2 (Some inner) → Wrote step.in_turn_size step.in_turn B UB inner w2 w3 → Puts kind.Charge here w3 w4
      → WroteLabelled ls (three B C L step.try_catch) (three UB UC UL (λ a b c. uses.both a (uses.both b c))) here w0 w4
  try_written ls outer inner w0 w1 w2 w3 w4 lasts outside catches insides bodies starts at first start n ops front s h =
      let b = B.means first in
      let c = C.means (first + B.size) in
      let l = L.means (first + (B.size + C.size)) in
      let ub = (UB.means start).places at.names in
      let uc = (UC.means (start + UB.size)).places at.names in
      let h0 = last_split w0 at.names first start n ops front h in
      let h1 = lasts at (first + (B.size + C.size)) (start + (UB.size + UC.size)) n ops (front ++ (ub ++ uc)) s h0 in
      let at1 = before_last l at ops in
      let s1 : Stands outer at1 = outside at (first + (B.size + C.size)) (start + (UB.size + UC.size)) n ops (front ++ (ub ++ uc)) s h0 in
      let rest1 = finally l at ops in
      let size1 = last_size l + n in
      let same1 : at.names ≡ at1.names = sym (last_names l at ops) in
      let h1' = subst (λ names. Holds w1 (draft rest1 size1 ((front ++ ub) ++ (UC.means (start + UB.size)).places names) ((first + B.size) + C.size))) same1
      (split w1 rest1 size1 front ub uc first B.size C.size h1) in
      let h2 = catches at1 (first + B.size) (start + UB.size) size1 rest1 (front ++ ub) s1 h1' in
      let at2 = before_catch c at1 rest1 in
      let s2 : Stands inner at2 = insides at1 (first + B.size) (start + UB.size) size1 rest1 (front ++ ub) s1 h1' in
      let rest2 = catch c at1 rest1 in
      let size2 = caught_size c + size1 in
      let same2 : at.names ≡ at2.names = same1 ∙ sym (catch_names c at1 rest1) in
      let h2' = subst (λ names. Holds w2 (draft rest2 size2 (front ++ (UB.means start).places names) (first + B.size))) same2 h2 in
      let h3 = bodies at2 first start size2 rest2 front s2 h2' in
      let size3 = step.in_turn_size b + size2 in
      let h4 = starts kind.Charge at (draft (step.in_turn b at2 rest2) size3 front first) (λ g. refl) s h3 in
      let whole = subst (λ told. Holds w4 (draft (op kind.Charge at told) (suc size3) front first)) (sym (try_ops b c l at ops)) h4 in
      recount w4 _ (suc size3) _ front first (omega (arith, try_size b c l)) whole

  pub last_ended : (ls : List (List ℕ)) (w0 w1 : Progress) → Wrote last_size finally L UL here w0 w1 → InFront before_last L UL here w0 w1 None
      → WroteLabelled ls (three B C L step.try_catch) (three UB UC UL (λ a b c. uses.both a (uses.both b c))) here w0 w1
  last_ended ls w0 w1 lasts ended at first start n ops front s h =
      let b = B.means first in
      let c = C.means (first + B.size) in
      let l = L.means (first + (B.size + C.size)) in
      let h1 = lasts at (first + (B.size + C.size)) (start + (UB.size + UC.size)) n ops (front ++ ((UB.means start).places at.names ++ (UC.means (start + UB.size)).places at.names)) s (last_split w0 at.names first start n ops front h) in
      failed_holds w1 _ _ ended (omega (arith, try_size b c l)) h1

  pub catch_ended : (ls : List (List ℕ)) (outer : Here) (w0 w1 w2 : Progress) → Wrote last_size finally L UL here w0 w1 → InFront before_last L UL here w0 w1 (Some outer)
      → Wrote caught_size catch C UC outer w1 w2 → InFront before_catch C UC outer w1 w2 None
      → WroteLabelled ls (three B C L step.try_catch) (three UB UC UL (λ a b c. uses.both a (uses.both b c))) here w0 w2
  catch_ended ls outer w0 w1 w2 lasts outside catches ended at first start n ops front s h =
      let b = B.means first in
      let c = C.means (first + B.size) in
      let l = L.means (first + (B.size + C.size)) in
      let ub = (UB.means start).places at.names in
      let uc = (UC.means (start + UB.size)).places at.names in
      let h0 = last_split w0 at.names first start n ops front h in
      let h1 = lasts at (first + (B.size + C.size)) (start + (UB.size + UC.size)) n ops (front ++ (ub ++ uc)) s h0 in
      let at1 = before_last l at ops in
      let s1 : Stands outer at1 = outside at (first + (B.size + C.size)) (start + (UB.size + UC.size)) n ops (front ++ (ub ++ uc)) s h0 in
      let rest1 = finally l at ops in
      let size1 = last_size l + n in
      let h1' = subst (λ names. Holds w1 (draft rest1 size1 ((front ++ ub) ++ (UC.means (start + UB.size)).places names) ((first + B.size) + C.size))) (sym (last_names l at ops))
      (split w1 rest1 size1 front ub uc first B.size C.size h1) in
      let h2 = catches at1 (first + B.size) (start + UB.size) size1 rest1 (front ++ ub) s1 h1' in
      failed_holds w2 _ _ ended (omega (arith, try_size b c l)) h2

-- ---- blocks and labels

pub block_written : (L : Part Placed (List CodedStatement)) (U : Of_part) (here : Here) (ls : List (List ℕ)) (w0 w1 w2 : Progress) → Wrote step.in_turn_size step.in_turn L U here w0 w1 → Puts kind.Charge here w1 w2
    → WroteLabelled ls (one L step.block) U here w0 w2
block_written L U here ls w0 w1 w2 body starts at first start n ops front s h =
    let b = L.means first in
    recount w2 _ (suc (step.in_turn_size b + n)) _ front first (omega arith)
    (starts kind.Charge at (draft (step.in_turn b at ops) (step.in_turn_size b + n) front first) (λ g. refl) s (body at first start n ops front s h))

pub label_written : (B : Of_statement) (U : Of_part) (here : Here) (label : List ℕ) (ls : List (List ℕ)) (w0 w1 w2 w3 : Progress) → Keeps w0 w1 → WroteLabelled (label ∷ ls) B U here w1 w2 → Puts kind.Charge here w2 w3
    → WroteLabelled ls (one B (step.labelled label)) U here w0 w3
label_written B U here label ls w0 w1 w2 w3 keeps body starts at first start n ops front s h =
    let b = B.means first in
    recount w3 _ (suc (b.size + n)) _ front first (omega arith)
    (starts kind.Charge at (draft (b.emit (label ∷ ls) at ops) (b.size + n) front first) (λ g. refl) s (body at first start n ops front s (keeps _ h)))
