-- How the tests of a `switch` are written (ECMA-262 5.1 §12.11).
use Rattle.std.proofs.Common.{◌≡◌, ℕ, suc, ◌+◌, ◌<◌, List, [], ◌∷◌, ◌++◌, length, drop, get_or, Option, None, Some, refl, sym, ap, subst, arith, rules, ◌∙◌}
use Rattle.std.specs.Option.{option_map_or}
use Rattle.njs_tree.specs.declared.tree.Expr.{Expr, the_lemmas}
use Rattle.njs_tree.specs.declared.tree.Case.{Case, out-Case}
use Rattle.njs_code.specs.declared.op.Address.{Address}
use Rattle.njs_code.specs.declared.op.Op.{Op}
use Rattle.njs_meaning.specs.declared.place.Place.{Place}
use Rattle.njs_meaning.specs.Parts.{two}
use Rattle.njs_simul.specs.Emission as emit
use Rattle.njs_simul.specs.Emission.{Coded, address}
use Rattle.njs_simul.specs.EmissionOfStatements as step
use Rattle.njs_simul.specs.EmissionOfStatements.{CodedBranch, CodedStatement}
use Rattle.njs_simul.specs.Compiled.{Of_branch, expression, statement}
use Rattle.njs_simul.proofs.Sizes.{sizes_are_true}
use Rattle.njs_scope.specs.Uses as uses
use Rattle.njs_scope.specs.Uses.{Of_part}
use Rattle.njs_gen_expr.specs.declared.here.Here.{Here}
use Rattle.njs_gen_expr.specs.Trees as code
use Rattle.njs_gen_expr.specs.Written.{Progress, IsGoing, draft, Holds, Stands}
use Rattle.njs_gen_expr.proofs.Drafts.{recount, split, bare}
use Rattle.njs_gen_expr.specs.Parts.{Wrote, Passed}
use Rattle.njs_gen_expr.proofs.ListShapes.{from_place}
use Rattle.njs_gen_stmt.proofs.Steps.{Begins}
use Rattle.njs_gen_stmt.proofs.Lists.{DefaultsTo}
use Rattle.njs_gen_stmt.specs.Sized.{aside_size}
use Rattle.njs_gen_stmt.specs.Statements.{tested, cases, cases_uses, optional, optional_uses, in_turn, in_turn_uses}

abbrev pub branch_of : Option Coded → List CodedStatement → CodedBranch
branch_of test body = record { test = test; body = body }

pub coded_branch : (x : Case) → code.branch x ≡ two (optional (out-Case x).test) (in_turn (out-Case x).body) branch_of
unfolding expression statement code.branch code.first code.head
coded_branch x = search (rules, the_lemmas)

pub used_branch : (x : Case) → uses.branch x ≡ two (optional_uses (out-Case x).test) (in_turn_uses (out-Case x).body) uses.both
unfolding uses.expression uses.statement uses.branch uses.first uses.head
used_branch x = search (rules, the_lemmas)

-- a body has as many operations as its size says
pub body_long : (x : Case) (first : ℕ) (within : emit.Here) (rest : List Op)
    → length (step.in_turn ((code.branch x).means first).body within rest) ≡ step.in_turn_size ((code.branch x).means first).body + length rest
body_long x first within rest =
    let part = out-Case x in
    let known = (sizes_are_true.lists part.body (first + (optional part.test).size)).long within rest in
    subst (λ (b : Of_branch). length (step.in_turn (b.means first).body within rest) ≡ step.in_turn_size (b.means first).body + length rest) (sym (coded_branch x)) known

-- the test of a case, from where the bodies behind its own begin
abbrev pub JumpWritten : Of_branch → Of_part → Here → Address → Progress → Progress → Type 0
JumpWritten code uses here behind old new =
    (at : emit.Here) (first start n b : ℕ) (ops : List Op) (front : List Place) → (IsGoing old → behind ≡ record { 0 = b }) → Stands here at
    → Holds old (draft ops n (front ++ (uses.means start).places at.names) (first + code.size))
    → let branch = code.means first in
    Holds new (draft (tested (record { 0 = step.in_turn_size branch.body + b }) branch.test at ops) (aside_size branch.test + n) front first)

abbrev pub WroteJump : Case → Here → Address → Progress → Progress → Type 0
WroteJump x = JumpWritten (code.branch x) (uses.branch x)

abbrev pub JumpBegins : Case → Progress → Address → Address → Type 0
JumpBegins x new behind begin =
    (first n : ℕ) → IsGoing new → behind ≡ record { 0 = n } → begin ≡ record { 0 = step.in_turn_size ((code.branch x).means first).body + n }

-- the tests of cases, the bodies of which end there
abbrev pub WroteJumps : List Case → Here → Address → Progress → Progress → Type 0
WroteJumps list here end old new =
    (at within : emit.Here) (first start n : ℕ) (ops behind : List Op) (front : List Place) → (IsGoing old → end ≡ address behind) → Stands here at
    → Holds old (draft ops n (front ++ ((cases_uses list).means start).places at.names) (first + (cases list).size))
    → let bs = (cases list).means first in
    Holds new (draft (step.branches bs (λ left. address (step.bodies left within behind)) at ops) (step.branches_size bs + n) front first)

-- where their bodies begin
abbrev pub BodiesBegin : List Case → Address → Progress → Progress → Address → Type 0
BodiesBegin list end old new begin =
    (within : emit.Here) (first : ℕ) (behind : List Op) → (IsGoing old → end ≡ address behind) → IsGoing new → begin ≡ address (step.bodies ((cases list).means first) within behind)

pub no_jumps : (here : Here) (end : Address) (w : Progress) → WroteJumps [] here end w w
no_jumps here end w at within first start n ops behind front known s h = recount w ops n (0 + n) front first (omega arith) (bare w ops n front first h)

pub none_begins : (end : Address) (w : Progress) → BodiesBegin [] end w w end
none_begins end w within first behind known g = known g

-- the tests of cases begin with that of the first
first_tested : (b : CodedBranch) (bs : List CodedBranch) (within at : emit.Here) (behind ops : List Op)
    → step.branches (b ∷ bs) (λ left. address (step.bodies left within behind)) at ops
    ≡ tested (address (step.bodies (b ∷ bs) within behind)) b.test at (step.branches bs (λ left. address (step.bodies left within behind)) at ops)
first_tested b bs within at behind ops =
    elim b.test as (λ t. step.branches (record b { test = t } ∷ bs) (λ left. address (step.bodies left within behind)) at ops
    ≡ tested (address (step.bodies (record b { test = t } ∷ bs) within behind)) t at (step.branches bs (λ left. address (step.bodies left within behind)) at ops)) [
      | None ↦ refl
      | Some test ↦ refl
    ]

begins_step : (x : Case) (xs : List Case) (end : Address) (w0 w1 w2 : Progress) (behind begin : Address) → (IsGoing w2 → IsGoing w1) → BodiesBegin xs end w0 w1 behind → JumpBegins x w2 behind begin
    → BodiesBegin (x ∷ xs) end w0 w2 begin
begins_step x xs end w0 w1 w2 behind begin stays d e within first rest known g =
    let A = code.branch x in
    let later = (cases xs).means (first + A.size) in
    let told = e first (length (step.bodies later within rest)) g (d within (first + A.size) rest known (stays g)) in
    told ∙ ap (λ (k : ℕ). record { 0 = k }) (sym (body_long x first within (step.bodies later within rest)))

jumps_step : (x : Case) (xs : List Case) (here : Here) (end : Address) (w0 w1 w2 : Progress) (behind : Address) → (IsGoing w1 → IsGoing w0) → WroteJumps xs here end w0 w1 → BodiesBegin xs end w0 w1 behind
    → WroteJump x here behind w1 w2 → WroteJumps (x ∷ xs) here end w0 w2
jumps_step x xs here end w0 w1 w2 behind stays wrote d e at within first start n ops rest front known s h =
    let A = code.branch x in
    let U = uses.branch x in
    let B = cases xs in
    let V = cases_uses xs in
    let later = B.means (first + A.size) in
    let ua = (U.means start).places at.names in
    let ub = (V.means (start + U.size)).places at.names in
    let bodies = step.bodies later within rest in
    let jumps = step.branches later (λ left. address (step.bodies left within rest)) at ops in
    let size = step.branches_size later in
    let h1 = wrote at within (first + A.size) (start + U.size) n ops rest (front ++ ua) known s (split w0 ops n front ua ub first A.size B.size h) in
    let h2 = e at first start (size + n) (length bodies) jumps front (λ g. d within (first + A.size) rest known g) s h1 in
    let h3 = subst (λ k. Holds w2 (draft (tested (record { 0 = k }) (A.means first).test at jumps) (aside_size (A.means first).test + (size + n)) front first)) (sym (body_long x first within bodies)) h2 in
    let h4 = subst (λ told. Holds w2 (draft told (aside_size (A.means first).test + (size + n)) front first)) (sym (first_tested (A.means first) later within at rest ops)) h3 in
    recount w2 _ (aside_size (A.means first).test + (size + n)) _ front first (omega arith) h4

pub begins_more : (k i : ℕ) (list : List Case) (x : Case) (end : Address) (w0 w1 w2 : Progress) (behind begin : Address) → i ≡ suc k → k < length list → x ≡ get_or list k x → (IsGoing w2 → IsGoing w1)
    → BodiesBegin (drop i list) end w0 w1 behind → JumpBegins x w2 behind begin → BodiesBegin (drop k list) end w0 w2 begin
begins_more k i list x end w0 w1 w2 behind begin same lt is stays d e =
    let known = subst (λ j. BodiesBegin (drop j list) end w0 w1 behind) same d in
    subst (λ (l : List Case). BodiesBegin l end w0 w2 begin) (sym (from_place list k x lt is)) (begins_step x (drop (suc k) list) end w0 w1 w2 behind begin stays known e)

pub jumps_more : (k i : ℕ) (list : List Case) (x : Case) (here : Here) (end : Address) (w0 w1 w2 : Progress) (behind : Address) → i ≡ suc k → k < length list → x ≡ get_or list k x → (IsGoing w1 → IsGoing w0)
    → WroteJumps (drop i list) here end w0 w1 → BodiesBegin (drop i list) end w0 w1 behind → WroteJump x here behind w1 w2 → WroteJumps (drop k list) here end w0 w2
jumps_more k i list x here end w0 w1 w2 behind same lt is stays wrote d e =
    let further = subst (λ j. WroteJumps (drop j list) here end w0 w1) same wrote in
    let known = subst (λ j. BodiesBegin (drop j list) end w0 w1 behind) same d in
    subst (λ (l : List Case). WroteJumps l here end w0 w2) (sym (from_place list k x lt is)) (jumps_step x (drop (suc k) list) here end w0 w1 w2 behind stays further known e)

-- ---- the body of a case

pub body_written : (x : Case) (here : Here) (w0 w1 w2 : Progress) → Wrote step.in_turn_size step.in_turn (in_turn (out-Case x).body) (in_turn_uses (out-Case x).body) here w0 w1
    → Passed (optional (out-Case x).test) (optional_uses (out-Case x).test) w1 w2 → Wrote (λ b. step.in_turn_size b.body) (λ b. step.in_turn b.body) (code.branch x) (uses.branch x) here w0 w2
body_written x here w0 w1 w2 body passes =
    let A = optional (out-Case x).test in
    let B = in_turn (out-Case x).body in
    let U = optional_uses (out-Case x).test in
    let V = in_turn_uses (out-Case x).body in
    let told : Wrote (λ b. step.in_turn_size b.body) (λ b. step.in_turn b.body) (two A B branch_of) (two U V uses.both) here w0 w2 = λ at first start n ops front s h.
    (let ua = (U.means start).places at.names in
    let ub = (V.means (start + U.size)).places at.names in
    let h1 = body at (first + A.size) (start + U.size) n ops (front ++ ua) s (split w0 ops n front ua ub first A.size B.size h) in
    passes at.names first start _ _ front h1) in
    subst (λ (y : Of_branch). Wrote (λ b. step.in_turn_size b.body) (λ b. step.in_turn b.body) y (uses.branch x) here w0 w2) (sym (coded_branch x))
    (subst (λ (y : Of_part). Wrote (λ b. step.in_turn_size b.body) (λ b. step.in_turn b.body) (two A B branch_of) y here w0 w2) (sym (used_branch x)) told)

-- a part is there where its tree is
there : (o : Option Expr) (first : ℕ) (default begin : Address) → option_map_or (λ test. default) ((optional o).means first) begin ≡ option_map_or (λ test. default) o begin
there None first default begin = refl
there (Some e) first default begin = refl

abbrev Defaults : Of_branch → Of_part → Here → Progress → Progress → Address → Address → Type 0
Defaults code uses here old new behind default =
    (at : emit.Here) (first start n : ℕ) (ops : List Op) (front : List Place) → Stands here at → IsGoing new
    → Holds old (draft ops n (front ++ (uses.means start).places at.names) (first + code.size))
    → default ≡ option_map_or (λ test. behind) (code.means first).test (address (step.in_turn (code.means first).body at ops))

pub body_default : (x : Case) (here : Here) (w0 w1 w2 : Progress) (begin default result : Address) → Wrote step.in_turn_size step.in_turn (in_turn (out-Case x).body) (in_turn_uses (out-Case x).body) here w0 w1
    → Begins begin w1 → (IsGoing w2 → IsGoing w1) → result ≡ option_map_or (λ test. default) (out-Case x).test begin → DefaultsTo x here w0 w2 default result
body_default x here w0 w1 w2 begin default result body begins stays chosen =
    let A = optional (out-Case x).test in
    let B = in_turn (out-Case x).body in
    let U = optional_uses (out-Case x).test in
    let V = in_turn_uses (out-Case x).body in
    let told : Defaults (two A B branch_of) (two U V uses.both) here w0 w2 default result = λ at first start n ops front s g h.
    (let ua = (U.means start).places at.names in
    let ub = (V.means (start + U.size)).places at.names in
    let h1 = body at (first + A.size) (start + U.size) n ops (front ++ ua) s (split w0 ops n front ua ub first A.size B.size h) in
    chosen ∙ sym (there (out-Case x).test first default begin)
    ∙ ap (λ (b : Address). option_map_or (λ test. default) (A.means first) b) (begins _ (stays g) h1)) in
    subst (λ (y : Of_branch). Defaults y (uses.branch x) here w0 w2 default result) (sym (coded_branch x))
    (subst (λ (y : Of_part). Defaults (two A B branch_of) y here w0 w2 default result) (sym (used_branch x)) told)
