-- How parts that end somewhere are written: turns of loops (ECMA-262 5.1 §12.6), `catch` and `finally` (§12.14).
use Rattle.std.proofs.Common.{◌≡◌, ℕ, suc, ◌+◌, List, [], ◌++◌, Option, None, Some, refl, ap, arith, ◌∙◌}
use Rattle.njs_tree.specs.declared.tree.Stmt.{Stmt}
use Rattle.njs_code.specs.declared.op.Address.{Address}
use Rattle.njs_code.specs.declared.op.Kind.TheVariants as kind
use Rattle.njs_code.specs.declared.op.Op.{Op}
use Rattle.njs_meaning.specs.declared.place.Place.{Place}
use Rattle.njs_simul.specs.Emission as emit
use Rattle.njs_simul.specs.Emission.{deeper, op, address, inside}
use Rattle.njs_simul.specs.EmissionOfStatements as step
use Rattle.njs_simul.specs.Compiled.{Of_statement}
use Rattle.njs_scope.specs.Uses.{Of_part}
use Rattle.njs_gen_expr.specs.declared.here.Here.{Here}
use Rattle.njs_gen_expr.specs.Written.{Progress, IsGoing, Draft, draft, Holds, Stands}
use Rattle.njs_gen_expr.specs.Parts.{Wrote}
use Rattle.njs_gen_expr.proofs.Drafts.{recount, bare}
use Rattle.njs_gen_expr.proofs.Shapes.{Puts, Deeper}
use Rattle.njs_gen_stmt.specs.Statements.{DeeperBy, WroteLabelled, Within, InFront, turned, in_turn, in_turn_uses, caught, caught_uses, last, last_uses, last_size, finally, before_last, caught_size, catch, catching, before_catch}
use Rattle.njs_gen_stmt.proofs.Steps.{failed_holds, Stays, Begins}

module _ (B : Of_statement) (V : Of_part) (here : Here) (labels ls : List (List ℕ)) (past p : Address) where
  ended_kind : (w0 : Progress) → (IsGoing w0 → labels ≡ ls) → (IsGoing w0 → past ≡ p) → IsGoing w0 → kind.EndBody labels past ≡ kind.EndBody ls p
  ended_kind w0 l q g = ap (λ xs. kind.EndBody xs past) (l g) ∙ ap (λ to. kind.EndBody ls to) (q g)

  pub turn_written : (inner : Here) (w0 w1 w2 : Progress) → (IsGoing w0 → labels ≡ ls) → (IsGoing w0 → past ≡ p) → Puts (kind.EndBody labels past) here w0 w1 → Within w1 here (Some inner)
      → WroteLabelled [] B V inner w1 w2 → Wrote (λ c. suc c.size) (turned ls p) B V here w0 w2
  turn_written inner w0 w1 w2 l q puts within body at first start n ops front s h =
      let places = front ++ (V.means start).places at.names in
      let end = op (kind.EndBody ls p) at ops in
      let h1 = puts (kind.EndBody ls p) at (draft ops n places (first + B.size)) (ended_kind w0 l q) s h in
      let i : Stands inner (inside end at) = within at (draft end (suc n) places (first + B.size)) s h1 in
      recount w2 _ ((B.means first).size + suc n) _ front first (omega arith) (body (inside end at) first start (suc n) end front i h1)

  pub turn_ended : (w0 w1 : Progress) → (IsGoing w0 → labels ≡ ls) → (IsGoing w0 → past ≡ p) → Puts (kind.EndBody labels past) here w0 w1 → Within w1 here None
      → Wrote (λ c. suc c.size) (turned ls p) B V here w0 w1
  turn_ended w0 w1 l q puts ended at first start n ops front s h =
      let places = front ++ (V.means start).places at.names in
      let end = op (kind.EndBody ls p) at ops in
      let h1 = puts (kind.EndBody ls p) at (draft ops n places (first + B.size)) (ended_kind w0 l q) s h in
      failed_holds w1 (draft end (suc n) places (first + B.size)) _ ended (omega arith) h1

-- ---- `finally`

pub no_last : (here : Here) (w : Progress) → Wrote last_size finally (last None) (last_uses None) here w w
no_last here w at first start n ops front s h = recount w ops n (0 + n) front first (omega arith) (bare w ops n front first h)

pub in_front_of_none : (here : Here) (w : Progress) → InFront before_last (last None) (last_uses None) here w w (Some here)
in_front_of_none here w at first start n ops front s h = s

module _ (list : List Stmt) (here inner : Here) where
  pub last_written : (again : Here) (w0 w1 w2 w3 : Progress) → DeeperBy step.waiting here inner → DeeperBy step.waiting here again → Puts kind.Resume inner w0 w1
      → Wrote step.in_turn_size step.in_turn (in_turn list) (in_turn_uses list) again w1 w2 → Puts kind.Finally here w2 w3
      → Wrote last_size finally (last (Some list)) (last_uses (Some list)) here w0 w3
  last_written again w0 w1 w2 w3 waits waits' resumes body puts at first start n ops front s h =
      let B = in_turn list in
      let places = front ++ ((in_turn_uses list).means start).places at.names in
      let within = step.waiting at in
      let h1 = resumes kind.Resume within (draft ops n places (first + B.size)) (λ g. refl) (waits at s) h in
      let h2 = body within first start (suc n) (op kind.Resume within ops) front (waits' at s) h1 in
      let written = step.in_turn (B.means first) within (op kind.Resume within ops) in
      let size = step.in_turn_size (B.means first) + suc n in
      recount w3 _ (suc size) _ front first (omega arith) (puts kind.Finally at (draft written size front first) (λ g. refl) s h2)

pub in_front_of_last : (list : List Stmt) (here : Here) (w0 w3 : Progress) (result : Option Here) → Wrote last_size finally (last (Some list)) (last_uses (Some list)) here w0 w3 → Within w3 here result
    → InFront before_last (last (Some list)) (last_uses (Some list)) here w0 w3 result
in_front_of_last list here w0 w3 None wrote within = within
in_front_of_last list here w0 w3 (Some inner) wrote within = λ at first start n ops front s h. within at _ s (wrote at first start n ops front s h)

-- ---- `catch`

pub no_catch : (here : Here) (w : Progress) → Wrote caught_size catch (caught None) (caught_uses None) here w w
no_catch here w at first start n ops front s h = recount w ops n (0 + n) front first (omega arith) (bare w ops n front first h)

pub in_front_of_no_catch : (here : Here) (w : Progress) → InFront before_catch (caught None) (caught_uses None) here w w (Some here)
in_front_of_no_catch here w at first start n ops front s h = s

module _ (name : List ℕ) (list : List Stmt) (here within deep : Here) where
  -- the block of a `catch`, up to where it begins
  pub catching_written : (told : List ℕ) (w0 w1 w2 w3 w4 w5 : Progress) → DeeperBy (step.in_catch name) here within → Deeper 1 here deep → Puts kind.Leave within w0 w1
      → Wrote step.in_turn_size step.in_turn (in_turn list) (in_turn_uses list) within w1 w2 → ((d : Draft) → Holds w2 d → Holds w3 d) → (IsGoing w3 → told ≡ name)
      → Puts (kind.Enter told) deep w3 w4 → Puts kind.EndBlock here w4 w5
      → (at : emit.Here) (first start n : ℕ) (ops : List Op) (front : List Place) → Stands here at
      → Holds w0 (draft ops n (front ++ ((caught_uses (Some (name, list))).means start).places at.names) (first + (caught (Some (name, list))).size))
      → Holds w5 (draft (catching name ((in_turn list).means first) at ops) (suc (suc (step.in_turn_size ((in_turn list).means first) + suc n))) front first)
  catching_written told w0 w1 w2 w3 w4 w5 enters deeps leaves body keeps is puts ends at first start n ops front s h =
      let B = in_turn list in
      let at1 = step.in_catch name at in
      let i = enters at s in
      let h1 = leaves kind.Leave at1 (draft ops n (front ++ ((in_turn_uses list).means start).places at1.names) (first + B.size)) (λ g. refl) i h in
      let h2 = body at1 first start (suc n) (op kind.Leave at1 ops) front i h1 in
      let written = step.in_turn (B.means first) at1 (op kind.Leave at1 ops) in
      let size = step.in_turn_size (B.means first) + suc n in
      let h4 = puts (kind.Enter name) (deeper 1 at) (draft written size front first) (λ g. ap (λ t. kind.Enter t) (is g)) (deeps at s) (keeps _ h2) in
      ends kind.EndBlock at (draft (op (kind.Enter name) (deeper 1 at) written) (suc size) front first) (λ g. refl) s h4

  abbrev pub Catching : Progress → Progress → Type 0
  Catching w0 w5 =
      (at : emit.Here) (first start n : ℕ) (ops : List Op) (front : List Place) → Stands here at
      → Holds w0 (draft ops n (front ++ ((caught_uses (Some (name, list))).means start).places at.names) (first + (caught (Some (name, list))).size))
      → Holds w5 (draft (catching name ((in_turn list).means first) at ops) (suc (suc (step.in_turn_size ((in_turn list).means first) + suc n))) front first)

  pub catch_written : (past : Address) (w0 w5 w6 : Progress) → Begins past w0 → Stays w0 w5 → Catching w0 w5 → Puts (kind.Jump past) here w5 w6
      → Wrote caught_size catch (caught (Some (name, list))) (caught_uses (Some (name, list))) here w0 w6
  catch_written past w0 w5 w6 begins stays written jumps at first start n ops front s h =
      let size = suc (suc (step.in_turn_size ((in_turn list).means first) + suc n)) in
      let h5 = written at first start n ops front s h in
      recount w6 _ (suc size) _ front first (omega arith)
      (jumps (kind.Jump (address ops)) at (draft (catching name ((in_turn list).means first) at ops) size front first) (λ g. ap (λ to. kind.Jump to) (begins _ (stays g) h)) s h5)

  pub in_front_of_catch : (w0 w5 w6 : Progress) (result : Option Here) → (IsGoing w6 → IsGoing w5) → Catching w0 w5 → Within w5 here result
      → InFront before_catch (caught (Some (name, list))) (caught_uses (Some (name, list))) here w0 w6 result
  in_front_of_catch w0 w5 w6 None stays written ended = λ g. ended (stays g)
  in_front_of_catch w0 w5 w6 (Some inner) stays written within = λ at first start n ops front s h. within at _ s (written at first start n ops front s h)
