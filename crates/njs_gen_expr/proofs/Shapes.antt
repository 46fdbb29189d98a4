-- How the parts of an expression are written, one in front of the other.
use Rattle.std.proofs.Common.{◌≡◌, ℕ, suc, ◌+◌, List, [], ◌++◌, length, refl, sym, ap, subst, arith}
use Rattle.std.proofs.lemmas.List.{append-nil, append_assoc}
use Rattle.njs_tree.specs.declared.tree.UnaryOp.{UnaryOp}
use Rattle.njs_tree.specs.declared.tree.UpdateOp.{UpdateOp}
use Rattle.njs_tree.specs.declared.tree.UnaryOp.TheVariants as sign
use Rattle.njs_tree.specs.declared.tree.BinaryOp.{BinaryOp}
use Rattle.njs_tree.specs.declared.tree.LogicalOp.{LogicalOp}
use Rattle.njs_code.specs.declared.op.Address.{Address}
use Rattle.njs_code.specs.declared.op.Kind.{Kind}
use Rattle.njs_code.specs.declared.op.Kind.TheVariants as kind
use Rattle.njs_code.specs.declared.op.Op.{Op}
use Rattle.njs_meaning.specs.declared.place.Place.{Place}
use Rattle.njs_meaning.specs.Places.{Around}
use Rattle.njs_meaning.specs.Parts.{one, two, three}
use Rattle.njs_simul.specs.Emission as emit
use Rattle.njs_simul.specs.Emission.{on, Coded, Emits, Form, value, value_size, deeper, op, address}
use Rattle.njs_simul.specs.Compiled.{Of_expression}
use Rattle.njs_scope.specs.Uses as uses
use Rattle.njs_scope.specs.Uses.{Of_part}
use Rattle.njs_gen_expr.specs.declared.here.Here.{Here}
use Rattle.njs_gen_expr.specs.declared.reference.Reference.{Reference}
use Rattle.njs_gen_expr.specs.Written.{Progress, IsGoing, Draft, draft, Holds, Stands, with_op, most}
use Rattle.njs_gen_expr.specs.References.{form_of, IsPlaced, operator_count, operator_emits}
use Rattle.njs_gen_expr.specs.Parts.{Wrote, WroteTarget, WroteValue, begun_count, begun_target, begun_value}
use Rattle.njs_simul.proofs.ValidSteps.{on_is}
use Rattle.njs_gen_expr.proofs.Drafts.{recount, split}

-- one operation was written
abbrev pub Puts : Kind → Here → Progress → Progress → Type 0
Puts told here old new =
    (k : Kind) (at : emit.Here) (d : Draft) → (IsGoing old → told ≡ k) → Stands here at → Holds old d → Holds new (with_op (record { kind = k; depth = at.depth; around = at.around }) d)

-- so much deeper
abbrev pub Deeper : ℕ → Here → Here → Type 0
Deeper n here inner = (at : emit.Here) → Stands here at → Stands inner (deeper n at)

abbrev pub First : Of_expression → Of_part → Here → Progress → Progress → Type 0
First = Wrote begun_count begun_value

abbrev pub FirstTarget : Of_expression → Of_part → Here → Progress → Progress → Type 0
FirstTarget = Wrote (λ c. suc c.size) begun_target

-- a reference that stands last in front of what is written
abbrev pub Refers : Reference → Progress → Of_part → Type 0
Refers r w part =
    (d : Draft) (front tail : List Place) (names : Around) (start : ℕ) → IsGoing w → Holds w d → d.places ≡ front ++ ((part.means start).places names ++ tail) → 0 ≡ most (length tail) → IsPlaced r names

pub placed_last : (r : Reference) (w : Progress) (part : Of_part) → Refers r w part → (ops : List Op) (n functions : ℕ) (front : List Place) (names : Around) (start : ℕ)
    → Holds w (draft ops n (front ++ (part.means start).places names) functions) → IsGoing w → IsPlaced r names
placed_last r w part f ops n functions front names start h g =
    f (draft ops n (front ++ (part.means start).places names) functions) front [] names start g h (ap (λ ps. front ++ ps) (sym (append-nil ((part.means start).places names)))) refl

pub as_part : (A A' : Of_expression) (U U' : Of_part) (here : Here) (old new : Progress) → A ≡ A' → U ≡ U' → WroteTarget A' U' here old new → WroteTarget A U here old new
as_part A A' U U' here old new a u written = subst (λ X. WroteTarget X U here old new) (sym a) (subst (λ X. WroteTarget A' X here old new) (sym u) written)

module _ (A B : Of_expression) (U V : Of_part) (here : Here) where
  pub comma_written : (w0 w1 w2 w3 : Progress) (inner : Here) → WroteValue B V here w0 w1 → Puts kind.Drop inner w1 w2 → Deeper 1 here inner → First A U here w2 w3
      → WroteTarget (two A B emit.comma) (two U V uses.both) here w0 w3
  comma_written w0 w1 w2 w3 inner b k i a at first start n ops front s h =
      let later = B.means (first + A.size) in
      let h1 = b at (first + A.size) (start + U.size) n ops (front ++ (U.means start).places at.names) s (split w0 ops n front ((U.means start).places at.names) ((V.means (start + U.size)).places at.names) first A.size B.size h) in
      let h2 = k kind.Drop (deeper 1 at) (draft (value later at ops) (value_size later + n) (front ++ (U.means start).places at.names) (first + A.size)) (λ g. refl) (i at s) h1 in
      recount w3 _ (suc (value_size (A.means first)) + suc (value_size later + n)) _ front first (omega arith)
      (a at first start (suc (value_size later + n)) (op kind.Drop (deeper 1 at) (value later at ops)) front s h2)

  pub both_written : (k : Kind) (w0 w1 w2 w3 : Progress) (inner end : Here) → Puts k end w0 w1 → Deeper 2 here end → WroteValue B V inner w1 w2 → Deeper 1 here inner → First A U here w2 w3
      → Wrote {A = Coded × Coded} (λ p. suc (value_size p.0 + (value_size p.1 + 1))) (λ p. emit.begun (λ at rest. value p.0 at (value p.1 (deeper 1 at) (op k (deeper 2 at) rest))))
      (two A B (λ x y. (x, y))) (two U V uses.both) here w0 w3
  both_written k w0 w1 w2 w3 inner end p j b i a at first start n ops front s h =
      let later = B.means (first + A.size) in
      let last = op k (deeper 2 at) ops in
      let h0 = p k (deeper 2 at) (draft ops n ((front ++ (U.means start).places at.names) ++ (V.means (start + U.size)).places at.names) ((first + A.size) + B.size)) (λ g. refl) (j at s)
      (split w0 ops n front ((U.means start).places at.names) ((V.means (start + U.size)).places at.names) first A.size B.size h) in
      let h1 = b (deeper 1 at) (first + A.size) (start + U.size) (suc n) last (front ++ (U.means start).places at.names) (i at s) h0 in
      recount w3 _ (suc (value_size (A.means first)) + (value_size later + suc n)) _ front first (omega arith)
      (a at first start (value_size later + suc n) (value later (deeper 1 at) last) front s h1)

  pub logical_written : (f : LogicalOp) (past : Address) (w0 w1 w2 w3 : Progress) (inner : Here)
      → ((d : Draft) → IsGoing w0 → Holds w0 d → past ≡ address d.ops) → (IsGoing w1 → IsGoing w0)
      → WroteValue B V here w0 w1 → Puts (kind.JumpLogical f past) inner w1 w2 → Deeper 1 here inner → First A U here w2 w3
      → WroteTarget (two A B (emit.either f)) (two U V uses.both) here w0 w3
  logical_written f past w0 w1 w2 w3 inner known stays b k i a at first start n ops front s h =
      let later = B.means (first + A.size) in
      let h0 = split w0 ops n front ((U.means start).places at.names) ((V.means (start + U.size)).places at.names) first A.size B.size h in
      let h1 = b at (first + A.size) (start + U.size) n ops (front ++ (U.means start).places at.names) s h0 in
      let jump = kind.JumpLogical f (address ops) in
      let h2 = k jump (deeper 1 at) (draft (value later at ops) (value_size later + n) (front ++ (U.means start).places at.names) (first + A.size))
      (λ g. ap (λ to. kind.JumpLogical f to) (known _ (stays g) h0)) (i at s) h1 in
      recount w3 _ (suc (value_size (A.means first)) + suc (value_size later + n)) _ front first (omega arith)
      (a at first start (suc (value_size later + n)) (op jump (deeper 1 at) (value later at ops)) front s h2)

-- what stands behind a target, by its form
abbrev pub Behind : Reference → (Form → ℕ) → (Form → Emits) → Here → Progress → Progress → Type 0
Behind r count emits here old new =
    (at : emit.Here) (d : Draft) → (IsGoing old → IsPlaced r at.names) → Stands here at → Holds old d → Holds new (record d { ops = emits (form_of r) at d.ops; count = count (form_of r) + d.count })

-- the same of one operation
abbrev pub Keeps : Reference → (Form → Emits) → Here → Progress → Progress → Type 0
Keeps r emits here old new =
    (at : emit.Here) (d : Draft) → (IsGoing old → IsPlaced r at.names) → Stands here at → Holds old d → Holds new (record d { ops = emits (form_of r) at d.ops; count = suc d.count })

-- what steps a number of a target
abbrev pub steps_before : UpdateOp → Form → Emits
steps_before f form at rest = op kind.ToNumber (deeper (suc (emit.width form)) at) (op (kind.Step f) (deeper (suc (emit.width form)) at) (emit.assign_to form at rest))

abbrev pub steps_behind : UpdateOp → Form → Emits
steps_behind f form at rest =
    op kind.ToNumber (deeper (suc (emit.width form)) at) (op (kind.Tuck (emit.width form)) (deeper (suc (emit.width form)) at)
    (op (kind.Step f) (deeper (suc (suc (emit.width form))) at) (emit.assign_to form (deeper 1 at) (op kind.Drop (deeper 2 at) rest))))

pub kept_behind : (r : Reference) (n : ℕ) (emits : Form → Emits) (here : Here) (w0 w1 w2 : Progress) → (IsGoing w1 → IsGoing w0)
    → ((at : emit.Here) (d : Draft) → (IsGoing w0 → IsPlaced r at.names) → Stands here at → Holds w0 d → Holds w1 (record d { ops = emits (form_of r) at d.ops; count = on n d.count }))
    → Keeps r emit.fetch_kept here w1 w2 → Behind r (λ f. suc n) (λ f at rest. emit.fetch_kept f at (emits f at rest)) here w0 w2
kept_behind r n emits here w0 w1 w2 stays a k at d p s h =
    let after : Draft = record d { ops = emits (form_of r) at d.ops; count = on n d.count } in
    let same : suc (on n d.count) ≡ suc n + d.count = omega (arith, on_is n d.count) in
    recount w2 _ (suc (on n d.count)) _ d.places d.functions same (k at after (λ g. p (stays g)) s (a at d p s h))

module _ (A : Of_expression) (U : Of_part) (here : Here) where
  pub target_written : (r : Reference) (count : Form → ℕ) (emits : Form → Emits) (w0 w1 w2 : Progress)
      → ((first : ℕ) → form_of r ≡ (A.means first).form) → Refers r w0 U → Behind r count emits here w0 w1 → FirstTarget A U here w1 w2
      → Wrote (λ c. suc (c.size + count c.form)) (λ c. emit.begun (λ at rest. c.target at (emits c.form at rest))) A U here w0 w2
  target_written r count emits w0 w1 w2 form placed b a at first start n ops front s h =
      let places = front ++ (U.means start).places at.names in
      let c = A.means first in
      let told = b at (draft ops n places (first + A.size)) (placed_last r w0 U placed ops n (first + A.size) front at.names start h) s h in
      let behind = subst (λ f. Holds w1 (draft (emits f at ops) (count f + n) places (first + A.size))) (form first) told in
      recount w2 _ (suc c.size + (count c.form + n)) _ front first (omega arith) (a at first start (count c.form + n) (emits c.form at ops) front s behind)

  pub value_written : (r : Reference) (w0 w1 w2 : Progress) → ((first : ℕ) → form_of r ≡ (A.means first).form) → Refers r w0 U
      → Behind r emit.fetch_size emit.fetch here w0 w1 → WroteTarget A U here w1 w2 → WroteValue A U here w0 w2
  value_written r w0 w1 w2 form placed b a at first start n ops front s h =
      let places = front ++ (U.means start).places at.names in
      let c = A.means first in
      let told = b at (draft ops n places (first + A.size)) (placed_last r w0 U placed ops n (first + A.size) front at.names start h) s h in
      let behind = subst (λ f. Holds w1 (draft (emit.fetch f at ops) (emit.fetch_size f + n) places (first + A.size))) (form first) told in
      recount w2 _ (c.size + (emit.fetch_size c.form + n)) _ front first (omega arith) (a at first start (emit.fetch_size c.form + n) (emit.fetch c.form at ops) front s behind)

  pub first_written : (w0 w1 w2 : Progress) → WroteValue A U here w0 w1 → Puts kind.Charge here w1 w2 → First A U here w0 w2
  first_written w0 w1 w2 a k at first start n ops front s h =
      let c = A.means first in
      recount w2 _ (suc (value_size c + n)) _ front first (omega arith)
      (k kind.Charge at (draft (value c at ops) (value_size c + n) front first) (λ g. refl) s (a at first start n ops front s h))

  pub first_target_written : (w0 w1 w2 : Progress) → WroteTarget A U here w0 w1 → Puts kind.Charge here w1 w2 → FirstTarget A U here w0 w2
  first_target_written w0 w1 w2 a k at first start n ops front s h =
      let c = A.means first in
      recount w2 _ (suc (c.size + n)) _ front first (omega arith)
      (k kind.Charge at (draft (c.target at ops) (c.size + n) front first) (λ g. refl) s (a at first start n ops front s h))

  pub operator_written : (f : UnaryOp) (w0 w2 : Progress) → Wrote (λ c. suc (c.size + operator_count f c.form)) (λ c. emit.begun (λ at rest. c.target at (operator_emits f c.form at rest))) A U here w0 w2
      → WroteTarget (one A (emit.sole f)) U here w0 w2
  operator_written sign.Delete w0 w2 t at first start n ops front s h = t at first start n ops front s h
  operator_written sign.TypeOf w0 w2 t at first start n ops front s h = t at first start n ops front s h
  operator_written sign.Void w0 w2 t at first start n ops front s h = recount w2 _ (suc ((A.means first).size + (emit.fetch_size (A.means first).form + 1)) + n) _ front first (omega arith) (t at first start n ops front s h)
  operator_written sign.Plus w0 w2 t at first start n ops front s h = recount w2 _ (suc ((A.means first).size + (emit.fetch_size (A.means first).form + 1)) + n) _ front first (omega arith) (t at first start n ops front s h)
  operator_written sign.Minus w0 w2 t at first start n ops front s h = recount w2 _ (suc ((A.means first).size + (emit.fetch_size (A.means first).form + 1)) + n) _ front first (omega arith) (t at first start n ops front s h)
  operator_written sign.BitNot w0 w2 t at first start n ops front s h = recount w2 _ (suc ((A.means first).size + (emit.fetch_size (A.means first).form + 1)) + n) _ front first (omega arith) (t at first start n ops front s h)
  operator_written sign.Not w0 w2 t at first start n ops front s h = recount w2 _ (suc ((A.means first).size + (emit.fetch_size (A.means first).form + 1)) + n) _ front first (omega arith) (t at first start n ops front s h)

  pub member_written : (text : List ℕ) (w0 w1 w2 : Progress)
      → ((at : emit.Here) (d : Draft) → Stands here at → Holds w0 d → Holds w1 (record d { ops = op kind.Base (deeper 1 at) (op (kind.Str text) (deeper 1 at) d.ops); count = suc (suc d.count) }))
      → First A U here w1 w2 → WroteTarget (one A (λ e. emit.member e text)) U here w0 w2
  member_written text w0 w1 w2 p a at first start n ops front s h =
      let places = front ++ (U.means start).places at.names in
      let h1 = p at (draft ops n places (first + A.size)) s h in
      recount w2 _ (suc (value_size (A.means first)) + suc (suc n)) _ front first (omega arith)
      (a at first start (suc (suc n)) (op kind.Base (deeper 1 at) (op (kind.Str text) (deeper 1 at) ops)) front s h1)

module _ (A B : Of_expression) (U V : Of_part) (here : Here) where
  -- a target with what is assigned to it behind it
  abbrev pub Assigned : Reference → Progress → Type 0
  Assigned r w =
      (d : Draft) (front : List Place) (names : Around) (start later : ℕ) → IsGoing w → Holds w d → d.places ≡ front ++ ((U.means start).places names ++ (V.means later).places names) → IsPlaced r names

  pub assign_written : (r : Reference) (w0 w1 w2 w3 : Progress) (inner : Here) → ((first : ℕ) → form_of r ≡ (A.means first).form) → Assigned r w0
      → Keeps r emit.assign_to here w0 w1 → ((at : emit.Here) → Stands here at → Stands inner (deeper (emit.width (form_of r)) at))
      → WroteValue B V inner w1 w2 → FirstTarget A U here w2 w3 → WroteTarget (two A B emit.assign) (two U V uses.both) here w0 w3
  assign_written r w0 w1 w2 w3 inner form placed put over b a at first start n ops front s h =
      let c = A.means first in
      let later = B.means (first + A.size) in
      let ua = (U.means start).places at.names in
      let ub = (V.means (start + U.size)).places at.names in
      let told = put at (draft ops n (front ++ (ua ++ ub)) (first + (A.size + B.size))) (λ g. placed (draft ops n (front ++ (ua ++ ub)) (first + (A.size + B.size))) front at.names start (start + U.size) g h refl) s h in
      let h1 = subst (λ f. Holds w1 (draft (emit.assign_to f at ops) (suc n) (front ++ (ua ++ ub)) (first + (A.size + B.size)))) (form first) told in
      let i : Stands inner (deeper (emit.width c.form) at) = subst (λ f. Stands inner (deeper (emit.width f) at)) (form first) (over at s) in
      let last = emit.assign_to c.form at ops in
      let h2 = b (deeper (emit.width c.form) at) (first + A.size) (start + U.size) (suc n) last (front ++ ua) i (split w1 last (suc n) front ua ub first A.size B.size h1) in
      recount w3 _ (suc c.size + (value_size later + (suc n))) _ front first (omega arith)
      (a at first start (value_size later + (suc n)) (value later (deeper (emit.width c.form) at) last) front s h2)

  pub assign_by_written : (f : BinaryOp) (r : Reference) (w0 w1 w2 w3 w4 w5 : Progress) (inner end : Here) → ((first : ℕ) → form_of r ≡ (A.means first).form) → Assigned r w0 → (IsGoing w3 → IsGoing w0)
      → Keeps r emit.assign_to here w0 w1 → Puts (kind.Binary f) end w1 w2 → ((at : emit.Here) → Stands here at → Stands end (deeper (suc (suc (emit.width (form_of r)))) at))
      → WroteValue B V inner w2 w3 → ((at : emit.Here) → Stands here at → Stands inner (deeper (suc (emit.width (form_of r))) at))
      → Keeps r emit.fetch_kept here w3 w4 → FirstTarget A U here w4 w5 → WroteTarget (two A B (emit.assign_by f)) (two U V uses.both) here w0 w5
  assign_by_written f r w0 w1 w2 w3 w4 w5 inner end form placed stays put p j b over kept a at first start n ops front s h =
      let c = A.means first in
      let later = B.means (first + A.size) in
      let ua = (U.means start).places at.names in
      let ub = (V.means (start + U.size)).places at.names in
      let known : IsGoing w0 → IsPlaced r at.names = λ g. placed (draft ops n (front ++ (ua ++ ub)) (first + (A.size + B.size))) front at.names start (start + U.size) g h refl in
      let told = put at (draft ops n (front ++ (ua ++ ub)) (first + (A.size + B.size))) known s h in
      let h1 = subst (λ q. Holds w1 (draft (emit.assign_to q at ops) (suc n) (front ++ (ua ++ ub)) (first + (A.size + B.size)))) (form first) told in
      let stood : Stands end (deeper (suc (suc (emit.width c.form))) at) = subst (λ q. Stands end (deeper (suc (suc (emit.width q))) at)) (form first) (j at s) in
      let i : Stands inner (deeper (suc (emit.width c.form)) at) = subst (λ q. Stands inner (deeper (suc (emit.width q)) at)) (form first) (over at s) in
      let last = op (kind.Binary f) (deeper (suc (suc (emit.width c.form))) at) (emit.assign_to c.form at ops) in
      let h2 = p (kind.Binary f) (deeper (suc (suc (emit.width c.form))) at) (draft (emit.assign_to c.form at ops) (suc n) (front ++ (ua ++ ub)) (first + (A.size + B.size))) (λ g. refl) stood h1 in
      let h3 = b (deeper (suc (emit.width c.form)) at) (first + A.size) (start + U.size) (suc (suc n)) last (front ++ ua) i (split w2 last (suc (suc n)) front ua ub first A.size B.size h2) in
      let middle = value later (deeper (suc (emit.width c.form)) at) last in
      let told4 = kept at (draft middle (value_size later + suc (suc n)) (front ++ ua) (first + A.size)) (λ g. known (stays g)) s h3 in
      let h4 = subst (λ q. Holds w4 (draft (emit.fetch_kept q at middle) (suc (value_size later + suc (suc n))) (front ++ ua) (first + A.size))) (form first) told4 in
      recount w5 _ (suc c.size + (suc (value_size later + suc (suc n)))) _ front first (omega arith)
      (a at first start (suc (value_size later + suc (suc n))) (emit.fetch_kept c.form at middle) front s h4)

module _ (A B C : Of_expression) (U V W : Of_part) (here : Here) where
  pub conditional_written : (past other : Address) (w0 w1 w2 w3 w4 w5 : Progress) (inner end : Here)
      → ((d : Draft) → IsGoing w0 → Holds w0 d → past ≡ address d.ops) → (IsGoing w1 → IsGoing w0) → ((d : Draft) → IsGoing w1 → Holds w1 d → other ≡ address d.ops) → (IsGoing w3 → IsGoing w1)
      → WroteValue C W here w0 w1 → Puts (kind.Jump past) end w1 w2 → Deeper 1 here end → WroteValue B V here w2 w3 → Puts (kind.JumpFalse other) inner w3 w4 → Deeper 1 here inner → First A U here w4 w5
      → WroteTarget (three A B C emit.conditional) (three U V W (λ a b c. uses.both a (uses.both b c))) here w0 w5
  conditional_written past other w0 w1 w2 w3 w4 w5 inner end known stays known' stays' c p j b q i a at first start n ops front s h =
      let ua = (U.means start).places at.names in
      let ub = (V.means (start + U.size)).places at.names in
      let uc = (W.means (start + (U.size + V.size))).places at.names in
      let cb = B.means (first + A.size) in
      let cc' = C.means (first + (A.size + B.size)) in
      let whole = subst (λ ps. Holds w0 (draft ops n (front ++ ps) (first + ((A.size + B.size) + C.size)))) (sym (append_assoc ua ub uc)) h in
      let h0 = split w0 ops n front (ua ++ ub) uc first (A.size + B.size) C.size whole in
      let h1 = c at (first + (A.size + B.size)) (start + (U.size + V.size)) n ops (front ++ (ua ++ ub)) s h0 in
      let behind = value cc' at ops in
      let jump = kind.Jump (address ops) in
      let h2 = p jump (deeper 1 at) (draft behind (value_size cc' + n) (front ++ (ua ++ ub)) (first + (A.size + B.size))) (λ g. ap (λ to. kind.Jump to) (known _ (stays g) h0)) (j at s) h1 in
      let jumped = op jump (deeper 1 at) behind in
      let h3 = b at (first + A.size) (start + U.size) (suc (value_size cc' + n)) jumped (front ++ ua) s (split w2 jumped (suc (value_size cc' + n)) front ua ub first A.size B.size h2) in
      let test = kind.JumpFalse (address behind) in
      let h4 = q test (deeper 1 at) (draft (value cb at jumped) (value_size cb + suc (value_size cc' + n)) (front ++ ua) (first + A.size)) (λ g. ap (λ to. kind.JumpFalse to) (known' _ (stays' g) h1)) (i at s) h3 in
      recount w5 _ (suc (value_size (A.means first)) + suc (value_size cb + suc (value_size cc' + n))) _ front first (omega arith)
      (a at first start (suc (value_size cb + suc (value_size cc' + n))) (op test (deeper 1 at) (value cb at jumped)) front s h4)
