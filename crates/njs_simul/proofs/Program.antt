-- The code of whole scripts does what they mean.
use Rattle.std.proofs.Common.{◌≡◌, ℕ, zero, suc, ◌+◌, List, [], ◌∷◌, length, map, Option, Some, None, refl, ap, sym, subst, ◌∙◌, slice_get, arith}
use Rattle.std.specs.Option.{option_map_or}
use Rattle.njs_tree.specs.declared.tree.Script.{Script}
use Rattle.njs_tree.specs.declared.tree.Item.{Item}
use Rattle.njs_tree.specs.declared.tree.Item.TheVariants as items
use Rattle.njs_code.specs.declared.code.FunctionCode.{FunctionCode}
use Rattle.njs_meaning.specs.Primitives.{Undefined}
use Rattle.njs_meaning.specs.Values.{Simple}
use Rattle.njs_meaning.specs.Places.{Bindings, Around}
use Rattle.njs_meaning.specs.Functions.{Function, Program, functions_of, with_declared}
use Rattle.njs_meaning.specs.Meaning as means
use Rattle.njs_meaning.specs.Meaning.{Item_means, run_items, script_part}
use Rattle.njs_simul.specs.Stacks.{context}
use Rattle.njs_simul.specs.EmissionOfStatements.{CodedPart}
use Rattle.njs_simul.specs.Compiled as compiled
use Rattle.njs_simul.specs.Compiled.{Placed, items_part, module_around, code_of, body_of}
use Rattle.njs_simul.specs.Fits.{Names}
use Rattle.njs_simul.specs.Laws.{ExpressionTied, StatementTied}
use Rattle.njs_simul.specs.Program.{starting, FunctionMeans, names_around, names_in, ScriptMeans, ProgramMeans}
use Rattle.njs_simul.proofs.FineFunctions.{FunctionFine, calls_fare}
use Rattle.njs_simul.proofs.Pairs.{Each, each_length}
use Rattle.njs_simul.proofs.TiedParts.{Knows, FunctionTied, EachFunction, PartsTied, Lists, tied_leaf, tied_one, tied_two}
use Rattle.njs_simul.proofs.Modules.{ItemTied, statement_item_tied, export_item_tied, module_runs}
use Rattle.njs_simul.proofs.Whole.{expression_tied, statement_tied}

module _ (env : Names) (unit : ℕ) where
  abbrev Item_ties : Around → Item_means → CodedPart → Type 0
  Item_ties names m c = ItemTied env unit names m c

  item_tied : (i : Item) → PartsTied env unit Item_ties (means.item_part i) (compiled.item_part i)
  item_tied (items.Stmt s) =
      tied_one env unit (λ names m c. StatementTied env unit names m c) Item_ties (means.statement s) (compiled.statement s) _ _ (λ names a c t. statement_item_tied env unit names a c t) (statement_tied env unit s)
  item_tied (items.Export line a) =
      tied_one env unit (λ names m c. ExpressionTied env unit names m c) Item_ties (means.expression a) (compiled.expression a) _ _ (λ names a c t. export_item_tied env unit names a c t) (expression_tied env unit a)

  pub items_tied : (is : List Item) → PartsTied env unit (Lists env unit Item_ties) (means.items_part is) (compiled.items_part is)
  items_tied [] = tied_leaf env unit (Lists env unit Item_ties) [] [] (λ names. tt)
  items_tied (i ∷ is) =
      tied_two env unit Item_ties (Lists env unit Item_ties) (Lists env unit Item_ties) (means.item_part i) (compiled.item_part i) (means.items_part is) (compiled.items_part is) (λ a rest. a ∷ rest) (λ a rest. a ∷ rest)
      (λ names a b xs ys r rs. (r, rs)) (item_tied i) (items_tied is)

-- ---- members of lists

member_both : {A B : Type 0} (R : A → B → Type 0) (xs : List A) (ys : List B) → Each R xs ys → (at : ℕ) (x : A) (y : B) → slice_get xs at ≡ Some x → slice_get ys at ≡ Some y → R x y
member_both R [] [] t at x y hx hy = absurd (cc)
member_both R (a ∷ xs) (b ∷ ys) t zero x y hx hy = let ea : a ≡ x = cc in let eb : b ≡ y = cc in subst (λ b. R x b) eb (subst (λ a. R a b) ea t.0)
member_both R (a ∷ xs) (b ∷ ys) t (suc at) x y hx hy = member_both R xs ys t.1 at x y hx hy
member_both R [] (b ∷ ys) t at x y hx hy = absurd t
member_both R (a ∷ xs) [] t at x y hx hy = absurd t

member_there : {A B : Type 0} (R : A → B → Type 0) (xs : List A) (ys : List B) → Each R xs ys → (at : ℕ) (x : A) → slice_get xs at ≡ Some x → (y : B) × (slice_get ys at ≡ Some y) × R x y
member_there R [] [] t at x hx = absurd (cc)
member_there R (a ∷ xs) (b ∷ ys) t zero x hx = let ea : a ≡ x = cc in (b, refl, subst (λ a. R a b) ea t.0)
member_there R (a ∷ xs) (b ∷ ys) t (suc at) x hx = member_there R xs ys t.1 at x hx
member_there R [] (b ∷ ys) t at x hx = absurd t
member_there R (a ∷ xs) [] t at x hx = absurd t

pub mapped_from : {A B : Type 0} (f : A → B) (xs : List A) (at : ℕ) (y : B) → slice_get (map f xs) at ≡ Some y → (x : A) × (slice_get xs at ≡ Some x) × (f x ≡ y)
mapped_from f [] at y h = absurd (cc)
mapped_from f (x ∷ xs) zero y h = (x, refl, cc)
mapped_from f (x ∷ xs) (suc at) y h = mapped_from f xs at y h

mapped_length : {A B : Type 0} (f : A → B) (xs : List A) → length (map f xs) ≡ length xs
mapped_length f [] = refl
mapped_length f (x ∷ xs) = ap suc (mapped_length f xs)

-- ---- scripts

module _ (scripts : List Script) (outermost : Bindings) where
  abbrev env : Names
  env = names_in scripts outermost

  abbrev placed : Script → List Placed
  placed script = (items_part script.items).functions 0

  abbrev around : Script → Around
  around script = module_around (items_part script.items) outermost

  known : (unit : ℕ) (script : Script) → slice_get scripts unit ≡ Some script → (number : ℕ) (f : Placed) → slice_get (placed script) number ≡ Some f → env unit number ≡ (f (around script)).around
  known unit script is number f there =
      ap (λ o. option_map_or (λ script. names_around script outermost) o (λ number. []) number) is
      ∙ ap (λ o. option_map_or (λ f. (f (around script)).around) o []) there

  knows : (unit : ℕ) (script : Script) → slice_get scripts unit ≡ Some script → Knows env unit (placed script) 0 (around script)
  knows unit script is at f there = let e : at ≡ 0 + at = omega arith in subst (λ number. env unit number ≡ (f (around script)).around) e (known unit script is at f there)

  functions_tied : (unit : ℕ) (script : Script) → slice_get scripts unit ≡ Some script → EachFunction env unit (around script) (means.functions_of script) (placed script)
  functions_tied unit script is = (items_tied env unit script.items).functions 0 (around script) (knows unit script is)

  function_fine : (unit number : ℕ) (script : Script) (f : Function) → slice_get scripts unit ≡ Some script → slice_get (means.functions_of script) number ≡ Some f → FunctionFine env unit (env unit number) f
  function_fine unit number script f is there =
      let m = member_there (λ f g. FunctionTied env unit (g (around script)).around f (g (around script)).code) (means.functions_of script) (placed script) (functions_tied unit script is) number f there in
      subst (λ names. FunctionFine env unit names f) (sym (known unit script is number m.0 m.1)) m.2.fine

  function_means : (unit number : ℕ) (script : Script) (f : Function) (code : FunctionCode) → slice_get scripts unit ≡ Some script → slice_get (means.functions_of script) number ≡ Some f
      → slice_get (code_of script outermost).functions number ≡ Some code → FunctionMeans env unit (env unit number) f code
  function_means unit number script f code is there coded =
      let g = mapped_from (λ (f : Placed). (f (around script)).code) (placed script) number code coded in
      let t = member_both (λ f g. FunctionTied env unit (g (around script)).around f (g (around script)).code) (means.functions_of script) (placed script) (functions_tied unit script is) number f g.0 there g.1 in
      subst (λ names. FunctionMeans env unit names f code) (sym (known unit script is number g.0 g.1)) (subst (λ c. FunctionMeans env unit (g.0 (around script)).around f c) g.2 t.means)

  pub script_means : (unit : ℕ) (script : Script) → slice_get scripts unit ≡ Some script → ScriptMeans env unit script outermost
  script_means unit script is =
      let t = items_tied env unit script.items in let k = knows unit script is in
      let ds = (items_part script.items).declared 0 in
      record {
        count = mapped_length (λ (f : Placed). (f (around script)).code) (placed script)
            ∙ sym (each_length (λ f g. FunctionTied env unit (g (around script)).around f (g (around script)).code) (means.functions_of script) (placed script) (functions_tied unit script is));
        functions = λ number f code there coded. function_means unit number script f code is there coded;
        body = λ run scope s code scoped good meant.
            module_runs env unit (around script) ds ((script_part script).means 0) ((items_part script.items).means 0) (t.declares 0 (around script) k) (t.means 0 (around script) k) run scope s code scoped good
            (subst (λ ds. with_declared ds (run_items (Simple Undefined) ((script_part script).means 0)) (context run.frame (starting scope)) s ≡ run.outcome) (t.declared 0) meant);
      }

  by_unit : (unit number : ℕ) (f : Function) (found : Option (List Function)) → slice_get (map means.functions_of scripts) unit ≡ found → slice_get (option_map_or (λ fs. fs) found []) number ≡ Some f
      → FunctionFine env unit (env unit number) f
  by_unit unit number f None is there = absurd (cc)
  by_unit unit number f (Some fs) is there =
      let m = mapped_from means.functions_of scripts unit fs is in
      function_fine unit number m.0 f m.1 (subst (λ fs. slice_get fs number ≡ Some f) (sym m.2) there)

  function_there : (program : Program) (unit number : ℕ) (f : Function) → program.functions ≡ map means.functions_of scripts → slice_get (functions_of program unit) number ≡ Some f
      → FunctionFine env unit (env unit number) f
  function_there program unit number f is there =
      by_unit unit number f (slice_get (map means.functions_of scripts) unit) refl (subst (λ fss. slice_get (option_map_or (λ fs. fs) (slice_get fss unit) []) number ≡ Some f) is there)

  pub program_means : ProgramMeans scripts outermost
  program_means = record {
    scripts_mean = script_means;
    calls_fare = λ program is answers n. calls_fare env program (record { functions = λ unit number f there. function_there program unit number f is there; answers = answers }) n;
  }
