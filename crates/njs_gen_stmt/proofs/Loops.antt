-- How loops are written (ECMA-262 5.1 §12.6).
use Rattle.std.proofs.Common.{◌≡◌, ℕ, suc, ◌+◌, List, ◌++◌, Option, refl, sym, ap, subst, arith, ◌∙◌}
use Rattle.std.proofs.lemmas.List.{append_assoc}
use Rattle.njs_code.specs.declared.op.Address.{Address}
use Rattle.njs_code.specs.declared.op.Kind.TheVariants as kind
use Rattle.njs_meaning.specs.Parts.{Part, one, two, three, four}
use Rattle.njs_simul.specs.Emission.{Coded, value, value_size, deeper, op, address}
use Rattle.njs_simul.specs.EmissionOfStatements as step
use Rattle.njs_simul.specs.EmissionOfStatements.{CodedStatement, CodedPart, head_of}
use Rattle.njs_simul.specs.Compiled.{Placed, Of_expression, Of_statement}
use Rattle.njs_scope.specs.Uses as uses
use Rattle.njs_scope.specs.Uses.{Of_part}
use Rattle.njs_gen_expr.specs.declared.here.Here.{Here}
use Rattle.njs_gen_expr.specs.declared.writer.Mark.{Mark}
use Rattle.njs_gen_expr.specs.Written.{Progress, IsGoing, draft, Holds}
use Rattle.njs_gen_expr.specs.Parts.{Wrote, WroteValue, Passed}
use Rattle.njs_gen_expr.proofs.Drafts.{recount, split}
use Rattle.njs_gen_expr.proofs.Shapes.{Puts, Deeper}
use Rattle.njs_gen_stmt.specs.Sized.{counted}
use Rattle.njs_gen_stmt.specs.Statements.{DeeperBy, WrotePart, WroteTest, WroteLabelled, turned}
use Rattle.njs_gen_stmt.proofs.Steps.{Marks, GoesTo, Stays, Keeps, Begins, Heads}

-- a turn, by what is told of its labels and of where a `break` leads
abbrev pub Turns : List (List ℕ) → Address → Of_statement → Of_part → Here → Progress → Progress → Type 0
Turns labels past B V here old new =
    (ls : List (List ℕ)) (p : Address) → (IsGoing old → labels ≡ ls) → (IsGoing old → past ≡ p) → Wrote (λ c. suc c.size) (turned ls p) B V here old new

-- a test that leads to an address
abbrev pub Tests : {A : Type 0} → Address → Part Placed A → (A → step.CodedTest) → Of_part → Here → Progress → Progress → Type 0
Tests past A test U here old new = (p : Address) → (IsGoing old → past ≡ p) → WroteTest p (one A test) U here old new

module _ (A : Of_expression) (B : Of_statement) (U V : Of_part) (here : Here) where
  pub while_written : (ls labels : List (List ℕ)) (past top : Address) (size : ℕ) (w0 w1 w2 w3 w4 w5 w6 : Progress) → (IsGoing w0 → labels ≡ ls) → Begins past w0
      → Stays w0 w1 → Keeps w0 w1 → Heads top size w0 w1
      → ((first : ℕ) → size ≡ counted (suc (value_size (A.means first)) + ((B.means (first + A.size)).size + 1)))
      → Puts (kind.Jump top) here w1 w2 → Stays w1 w2 → Turns labels past B V here w2 w3 → Stays w2 w3 → Tests past A step.test_of U here w3 w4
      → Puts kind.Charge here w4 w5 → Puts kind.Charge here w5 w6
      → WroteLabelled ls (two A B step.while_loop) (two U V uses.both) here w0 w6
  while_written ls labels past top size w0 w1 w2 w3 w4 w5 w6 labelled begins stays1 keeps heads sized jumps stays2 turns stays3 tests charges starts at first start n ops front s h =
      let test = A.means first in
      let body = B.means (first + A.size) in
      let ua = (U.means start).places at.names in
      let ub = (V.means (start + U.size)).places at.names in
      let h0 = split w0 ops n front ua ub first A.size B.size h in
      let inner = suc (value_size test) + (body.size + 1) in
      let jump = kind.Jump (head_of inner ops) in
      let h2 = jumps jump at (draft ops n ((front ++ ua) ++ ub) ((first + A.size) + B.size)) (λ g. ap (λ to. kind.Jump to) (heads _ inner (sized first) g h0)) s (keeps _ h0) in
      let back = op jump at ops in
      let h3 = turns ls (address ops) (λ g. labelled (stays1 (stays2 g))) (λ g. begins _ (stays1 (stays2 g)) h0) at (first + A.size) (start + U.size) (suc n) back (front ++ ua) s h2 in
      let turn = turned ls (address ops) body at back in
      let h4 = tests (address ops) (λ g. begins _ (stays1 (stays2 (stays3 g))) h0) at first start (suc body.size + suc n) turn front s h3 in
      let tested = (step.test_of test).emit (address ops) at turn in
      let size = suc (value_size test) + (suc body.size + suc n) in
      let h5 = charges kind.Charge at (draft tested size front first) (λ g. refl) s h4 in
      recount w6 _ (suc (suc size)) _ front first (omega arith) (starts kind.Charge at (draft (op kind.Charge at tested) (suc size) front first) (λ g. refl) s h5)

  pub do_written : (ls labels : List (List ℕ)) (past top : Address) (size : ℕ) (w0 w1 w2 w3 w4 w5 w6 : Progress) → (IsGoing w0 → labels ≡ ls) → Begins past w0
      → Stays w0 w1 → Keeps w0 w1 → Heads top size w0 w1
      → ((first : ℕ) → size ≡ counted (0 + ((B.means first).size + suc (suc (value_size (A.means (first + B.size)))))))
      → Puts (kind.Jump top) here w1 w2 → Stays w1 w2 → Tests past A step.test_of U here w2 w3 → Stays w2 w3 → Turns labels past B V here w3 w4
      → Puts kind.Charge here w4 w5 → Puts kind.Charge here w5 w6
      → WroteLabelled ls (two B A step.do_loop) (two V U uses.both) here w0 w6
  do_written ls labels past top size w0 w1 w2 w3 w4 w5 w6 labelled begins stays1 keeps heads sized jumps stays2 tests stays3 turns charges starts at first start n ops front s h =
      let body = B.means first in
      let test = A.means (first + B.size) in
      let ub = (V.means start).places at.names in
      let ua = (U.means (start + V.size)).places at.names in
      let h0 = split w0 ops n front ub ua first B.size A.size h in
      let inner = 0 + (body.size + suc (suc (value_size test))) in
      let jump = kind.Jump (head_of inner ops) in
      let h2 = jumps jump at (draft ops n ((front ++ ub) ++ ua) ((first + B.size) + A.size)) (λ g. ap (λ to. kind.Jump to) (heads _ inner (sized first) g h0)) s (keeps _ h0) in
      let back = op jump at ops in
      let h3 = tests (address ops) (λ g. begins _ (stays1 (stays2 g)) h0) at (first + B.size) (start + V.size) (suc n) back (front ++ ub) s h2 in
      let tested = (step.test_of test).emit (address ops) at back in
      let h4 = turns ls (address ops) (λ g. labelled (stays1 (stays2 (stays3 g)))) (λ g. begins _ (stays1 (stays2 (stays3 g))) h0) at first start (suc (value_size test) + suc n) tested front s h3 in
      let turn = turned ls (address ops) body at tested in
      let size = suc body.size + (suc (value_size test) + suc n) in
      let h5 = charges kind.Charge at (draft turn size front first) (λ g. refl) s h4 in
      recount w6 _ (suc (suc size)) _ front first (omega arith) (starts kind.Charge at (draft (op kind.Charge at turn) (suc size) front first) (λ g. refl) s h5)

module _ (F : Part Placed (Option CodedPart)) (T P : Part Placed (Option Coded)) (B : Of_statement) (UF UT UP UB : Of_part) (here : Here) where
  pub for_written : (ls labels : List (List ℕ)) (end middle : Mark) (past top : Address) (size : ℕ) (w0 w1 w2 w3 w4 w5 w6 w7 w8 w9 w10 w11 : Progress) → (IsGoing w0 → labels ≡ ls)
      → Marks end w0 → Begins past w0 → Stays w0 w1 → Keeps w0 w1 → Heads top size w0 w1
      → ((first : ℕ) → size ≡ counted ((step.tests_if_any (T.means (first + F.size))).size + ((B.means (first + ((F.size + T.size) + P.size))).size + suc (step.does_if_any (P.means (first + (F.size + T.size)))).size)))
      → Puts (kind.Jump top) here w1 w2 → Stays w1 w2 → Passed B UB w2 w3 → Stays w2 w3 → ((p : Address) → WroteTest p (one P step.does_if_any) UP here w3 w4) → Stays w3 w4
      → Marks middle w4 → GoesTo end w4 w5 → Stays w4 w5 → Turns labels past B UB here w5 w6 → Stays w5 w6 → GoesTo middle w6 w7 → Stays w6 w7
      → Tests past T step.tests_if_any UT here w7 w8 → Puts kind.Charge here w8 w9 → WrotePart (one F step.first_of) UF here w9 w10 → Puts kind.Charge here w10 w11
      → WroteLabelled ls (four F T P B step.for_loop) (four UF UT UP UB (λ a b c d. uses.both a (uses.both b (uses.both c d)))) here w0 w11
  for_written ls labels end middle past top size w0 w1 w2 w3 w4 w5 w6 w7 w8 w9 w10 w11 labelled marked begins stays1 keeps heads sized jumps stays2 passes stays3 updates stays4 marked_middle to_end stays5 turns stays6 to_middle stays7 tests charges firsts starts at first start n ops front s h =
      let two_sizes = F.size + T.size in
      let three_sizes = two_sizes + P.size in
      let test = T.means (first + F.size) in
      let update = P.means (first + two_sizes) in
      let body = B.means (first + three_sizes) in
      let uf = (UF.means start).places at.names in
      let ut = (UT.means (start + UF.size)).places at.names in
      let up = (UP.means (start + (UF.size + UT.size))).places at.names in
      let ub = (UB.means (start + ((UF.size + UT.size) + UP.size))).places at.names in
      let shape : uf ++ (ut ++ (up ++ ub)) ≡ ((uf ++ ut) ++ up) ++ ub = sym (append_assoc uf ut (up ++ ub)) ∙ sym (append_assoc (uf ++ ut) up ub) in
      let whole = subst (λ ps. Holds w0 (draft ops n (front ++ ps) (first + (three_sizes + B.size)))) shape h in
      let h0 = split w0 ops n front ((uf ++ ut) ++ up) ub first three_sizes B.size whole in
      let places = (front ++ ((uf ++ ut) ++ up)) ++ ub in
      let functions = (first + three_sizes) + B.size in
      let inner = (step.tests_if_any test).size + (body.size + suc (step.does_if_any update).size) in
      let jump = kind.Jump (head_of inner ops) in
      let h2 = jumps jump at (draft ops n places functions) (λ g. ap (λ to. kind.Jump to) (heads _ inner (sized first) g h0)) s (keeps _ h0) in
      let back = op jump at ops in
      let h3 = passes at.names (first + three_sizes) (start + ((UF.size + UT.size) + UP.size)) (suc n) back (front ++ ((uf ++ ut) ++ up)) h2 in
      let h4 = updates (address ops) at (first + two_sizes) (start + (UF.size + UT.size)) (suc n) back (front ++ (uf ++ ut)) s (split w3 back (suc n) front (uf ++ ut) up first two_sizes P.size h3) in
      let updated = (step.does_if_any update).emit (address ops) at back in
      let size4 = (step.does_if_any update).size + suc n in
      let going0 : IsGoing w4 → IsGoing w0 = λ g. stays1 (stays2 (stays3 (stays4 g))) in
      let h5 = to_end (draft updated size4 (front ++ (uf ++ ut)) (first + two_sizes)) places functions (λ g. marked _ (going0 g) h0) h4 in
      let h6 = turns ls (address ops) (λ g. labelled (going0 (stays5 g))) (λ g. begins _ (going0 (stays5 g)) h0) at (first + three_sizes) (start + ((UF.size + UT.size) + UP.size)) size4 updated (front ++ ((uf ++ ut) ++ up)) s h5 in
      let turn = turned ls (address ops) body at updated in
      let size6 = suc body.size + size4 in
      let h7 = to_middle (draft turn size6 (front ++ ((uf ++ ut) ++ up)) (first + three_sizes)) (front ++ (uf ++ ut)) (first + two_sizes) (λ g. marked_middle _ (stays5 (stays6 g)) h4) h6 in
      let h8 = tests (address ops) (λ g. begins _ (going0 (stays5 (stays6 (stays7 g)))) h0) at (first + F.size) (start + UF.size) size6 turn (front ++ uf) s (split w7 turn size6 front uf ut first F.size T.size h7) in
      let tested = (step.tests_if_any test).emit (address ops) at turn in
      let size8 = (step.tests_if_any test).size + size6 in
      let h9 = charges kind.Charge at (draft tested size8 (front ++ uf) (first + F.size)) (λ g. refl) s h8 in
      let h10 = firsts at first start (suc size8) (op kind.Charge at tested) front s h9 in
      let size10 = (step.first_of (F.means first)).size + suc size8 in
      recount w11 _ (suc size10) _ front first (omega arith)
      (starts kind.Charge at (draft ((step.first_of (F.means first)).emit at (op kind.Charge at tested)) size10 front first) (λ g. refl) s h10)

module _ (H X : Of_expression) (B : Of_statement) (UH UX UB : Of_part) (here : Here) where
  pub for_in_written : (ls labels : List (List ℕ)) (inner deep : Here) (behind begin : Mark) (past top : Address) (size : ℕ) (w0 w1 w2 w3 w4 w5 w6 w7 w8 w9 w10 w11 w12 w13 w14 : Progress) → (IsGoing w0 → labels ≡ ls)
      → DeeperBy step.listing here inner → Deeper 1 here deep
      → Puts kind.DropList inner w0 w1 → Stays w0 w1 → Begins past w1 → Stays w1 w2 → Keeps w1 w2 → Heads top size w1 w2
      → ((first : ℕ) → size ≡ counted ((H.means first).size + (3 + ((B.means (first + (H.size + X.size))).size + 2))))
      → Puts (kind.Jump top) inner w2 w3 → Stays w2 w3 → Puts (kind.MoreNames past) inner w3 w4 → Stays w3 w4 → Turns labels past B UB inner w4 w5 → Stays w4 w5
      → Marks behind w5 → Passed X UX w5 w6 → Stays w5 w6 → Wrote (λ c. c.size + 3) step.next_name H UH inner w6 w7 → Stays w6 w7 → Marks begin w7
      → Puts kind.Charge inner w7 w8 → Stays w7 w8 → Puts (kind.MoreNames past) inner w8 w9 → Stays w8 w9 → Puts kind.ListNames deep w9 w10 → Stays w9 w10
      → GoesTo behind w10 w11 → Stays w10 w11 → WroteValue X UX here w11 w12 → Stays w11 w12 → GoesTo begin w12 w13 → Puts kind.Charge here w13 w14
      → WroteLabelled ls (three H X B step.for_in) (three UH UX UB (λ a b c. uses.both a (uses.both b c))) here w0 w14
  for_in_written ls labels inner deep behind begin past top size w0 w1 w2 w3 w4 w5 w6 w7 w8 w9 w10 w11 w12 w13 w14 labelled lists deeps drops stays1 begins stays2 keeps heads sized jumps stays3 mores stays4 turns stays5 marked passes stays6 nexts stays7 marked_begin charges stays8 tests stays9 names stays10 to_behind stays11 values stays12 to_begin starts at first start n ops front s h =
      let two_sizes = H.size + X.size in
      let head = H.means first in
      let v = X.means (first + H.size) in
      let body = B.means (first + two_sizes) in
      let uh = (UH.means start).places at.names in
      let ux = (UX.means (start + UH.size)).places at.names in
      let ub = (UB.means (start + (UH.size + UX.size))).places at.names in
      let within = step.listing at in
      let i = lists at s in
      let whole = subst (λ ps. Holds w0 (draft ops n (front ++ ps) (first + (two_sizes + B.size)))) (sym (append_assoc uh ux ub)) h in
      let h0 = split w0 ops n front (uh ++ ux) ub first two_sizes B.size whole in
      let places = (front ++ (uh ++ ux)) ++ ub in
      let functions = (first + two_sizes) + B.size in
      let last = op kind.DropList within ops in
      let h1 = drops kind.DropList within (draft ops n places functions) (λ g. refl) i h0 in
      let inside = head.size + (3 + (body.size + 2)) in
      let jump = kind.Jump (head_of inside last) in
      let h3 = jumps jump within (draft last (suc n) places functions) (λ g. ap (λ to. kind.Jump to) (heads _ inside (sized first) g h1)) i (keeps _ h1) in
      let back = op jump within last in
      let more = kind.MoreNames (address last) in
      let h4 = mores more within (draft back (suc (suc n)) places functions) (λ g. ap (λ to. kind.MoreNames to) (begins _ (stays2 (stays3 g)) h1)) i h3 in
      let again = op more within back in
      let to1 : IsGoing w4 → IsGoing w1 = λ g. stays2 (stays3 (stays4 g)) in
      let h5 = turns ls (address last) (λ g. labelled (stays1 (to1 g))) (λ g. begins _ (to1 g) h1) within (first + two_sizes) (start + (UH.size + UX.size)) (suc (suc (suc n))) again (front ++ (uh ++ ux)) i h4 in
      let turn = turned ls (address last) body within again in
      let size5 = suc body.size + suc (suc (suc n)) in
      let h5' = split w5 turn size5 front uh ux first H.size X.size h5 in
      let h6 = passes at.names (first + H.size) (start + UH.size) size5 turn (front ++ uh) h5' in
      let h7 = nexts within first start size5 turn front i h6 in
      let named = step.next_name head within turn in
      let size7 = head.size + 3 + size5 in
      let h8 = charges kind.Charge within (draft named size7 front first) (λ g. refl) i h7 in
      let to7 : IsGoing w8 → IsGoing w1 = λ g. to1 (stays5 (stays6 (stays7 (stays8 g)))) in
      let h9 = tests more within (draft (op kind.Charge within named) (suc size7) front first) (λ g. ap (λ to. kind.MoreNames to) (begins _ (to7 g) h1)) i h8 in
      let tested = op more within (op kind.Charge within named) in
      let h10 = names kind.ListNames (deeper 1 at) (draft tested (suc (suc size7)) front first) (λ g. refl) (deeps at s) h9 in
      let listed = op kind.ListNames (deeper 1 at) tested in
      let size10 = suc (suc (suc size7)) in
      let to5 : IsGoing w10 → IsGoing w5 = λ g. stays6 (stays7 (stays8 (stays9 (stays10 g)))) in
      let h11 = to_behind (draft listed size10 front first) ((front ++ uh) ++ ux) ((first + H.size) + X.size) (λ g. marked _ (to5 g) h5') h10 in
      let h12 = values at (first + H.size) (start + UH.size) size10 listed (front ++ uh) s h11 in
      let size12 = value_size v + size10 in
      let h13 = to_begin (draft (value v at listed) size12 (front ++ uh) (first + H.size)) front first (λ g. marked_begin _ (stays8 (stays9 (stays10 (stays11 (stays12 g))))) h7) h12 in
      recount w14 _ (suc size12) _ front first (omega arith) (starts kind.Charge at (draft (value v at listed) size12 front first) (λ g. refl) s h13)
