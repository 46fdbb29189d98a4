-- What is left after a tree is the end of what was there, and all but some statements take a symbol at least.
use Rattle.std.proofs.Common.{◌≡◌, ℕ, suc, ◌-◌, ◌<◌, ◌≤◌, Bool, List, ◌∷◌, length, drop, Option, ap, ◌∙◌, arith}
use Rattle.njs_tree.specs.declared.token.Mark.{Mark}
use Rattle.njs_tree.specs.declared.tree.Expr.{Expr}
use Rattle.njs_tree.specs.declared.tree.Stmt.{Stmt}
use Rattle.njs_tree.specs.declared.tree.FunctionTree.{FunctionTree}
use Rattle.njs_tree.specs.declared.tree.ForFirst.{ForFirst}
use Rattle.njs_tree.specs.declared.tree.ForInHead.{ForInHead}
use Rattle.njs_tree.specs.declared.tree.Case.{Case}
use Rattle.njs_tree.specs.Lexemes.{Symbol}
use Rattle.njs_tree.specs.Grammar.{Ends, Names, Parameters, Spells, BareNew, Arguments, Listed, Elements, Properties, Function, Body, IsItem, Statements, Block, Grouped, Declares, Optional, First, Head, Cases, Catch, Stands}
use Rattle.njs_expr.specs.Readers.{Symbols}

pub data Suffix : Symbols → Symbols → Type 0 where
  here : {i : Symbols} → Suffix i i
  next : {i r : Symbols} (t : Symbol) → Suffix i r → Suffix (t ∷ i) r

-- the end without the first symbol, or less of it
pub data Past : Symbols → Symbols → Type 0 where
  past_one : {i r : Symbols} (t : Symbol) → Suffix i r → Past (t ∷ i) r

pub trans : {i j r : Symbols} → Suffix i j → Suffix j r → Suffix i r
trans here b = b
trans (next t a) b = next t (trans a b)

pub wide : {i r : Symbols} → Past i r → Suffix i r
wide (past_one t a) = next t a

pub and_suffix : {i j r : Symbols} → Past i j → Suffix j r → Past i r
and_suffix (past_one t a) b = past_one t (trans a b)

pub dropped : {i r : Symbols} → Suffix i r → (drop (length i - length r) i ≡ r) × (length r ≤ length i)
dropped {i = i} here = let e : length i - length i ≡ 0 = omega arith in (ap (λ n. drop n i) e, omega arith)
dropped {r = r} (next {i = i} t a) =
    let h = dropped a in let e : suc (length i) - length r ≡ suc (length i - length r) = omega (arith, h.1) in
    (ap (λ n. drop n (t ∷ i)) e ∙ h.0, omega (arith, h.1))

pub within : {i r : Symbols} → Suffix i r → length r ≤ length i
within a = (dropped a).1

pub shorter : {i r : Symbols} → Past i r → length r < length i
shorter (past_one t a) = omega (arith, within a)

pub ends_suffix : {on : Bool} {i r : Symbols} → Ends on i r → Suffix i r
ends_suffix (Ends.written on t r is_t) = next t here
ends_suffix (Ends.missing on r miss) = here

pub names_past : {names : List (List ℕ)} {i r : Symbols} → Names names i r → Past i r
names_past (Names.last name t u r is_t is_u) = past_one t (next u here)
names_past (Names.more name names t u i r is_t is_u hp) = past_one t (next u (wide (names_past hp)))

pub parameters_past : {names : List (List ℕ)} {i r : Symbols} → Parameters names i r → Past i r
parameters_past (Parameters.none t u r is_t is_u) = past_one t (next u here)
parameters_past (Parameters.some names t i r is_t hp) = past_one t (wide (names_past hp))

mutual
  pub past : {with_in : Bool} {least : ℕ} {tree : Expr} {d : ℕ} {e : Bool} {i r : Symbols} → Spells with_in least tree d e i r → Past i r
  past (Spells.comma with_in least a b da db ea eb t i j r low ha is_t hb) = and_suffix (past ha) (next t (wide (past hb)))
  past (Spells.assign with_in least op a b da db ea eb t i j r low ha target is_t hb) = and_suffix (past ha) (next t (wide (past hb)))
  past (Spells.cond with_in least a b c da db dc ea eb ec t u i j k r low ha is_t hb is_u hc) = and_suffix (past ha) (next t (trans (wide (past hb)) (next u (wide (past hc)))))
  past (Spells.logical with_in least op a b da db ea eb t i j r low ha is_t hb) = and_suffix (past ha) (next t (wide (past hb)))
  past (Spells.binary with_in least op a b da db ea eb t i j r low ha is_t hb) = and_suffix (past ha) (next t (wide (past hb)))
  past (Spells.unary with_in least op a d e t j r low is_t ha) = past_one t (wide (past ha))
  past (Spells.update_before with_in least op a d e t j r low is_t ha target) = past_one t (wide (past ha))
  past (Spells.update_after with_in least op a d e t i r low ha target is_t same) = and_suffix (past ha) (next t here)
  past (Spells.bare_new with_in least a d i r low ha) = bare_past ha
  past (Spells.call with_in least a xs da dx ea t i j r low ha is_t hxs) = and_suffix (past ha) (next t (wide (arguments_past hxs)))
  past (Spells.member with_in least base a name d e t u i r low low2 low3 ha is_t is_u) = and_suffix (past ha) (next t (next u here))
  past (Spells.index with_in least base a b da db ea eb t u i j r low low2 low3 ha is_t hb is_u) = and_suffix (past ha) (next t (trans (wide (past hb)) (next u here)))
  past (Spells.new with_in least a xs da dx ea t u j k r low is_t ha is_u hxs) = past_one t (trans (wide (past ha)) (next u (wide (arguments_past hxs))))
  past (Spells.parenthesized with_in least a d e t u j r is_t ha is_u) = past_one t (trans (wide (past ha)) (next u here))
  past (Spells.number with_in least n t r is_t) = past_one t here
  past (Spells.string with_in least text t r is_t) = past_one t here
  past (Spells.name with_in least text t r is_t) = past_one t here
  past (Spells.this with_in least t r is_t) = past_one t here
  past (Spells.null with_in least t r is_t) = past_one t here
  past (Spells.yes with_in least t r is_t) = past_one t here
  past (Spells.no with_in least t r is_t) = past_one t here
  past (Spells.array with_in least xs d t j r is_t hxs) = past_one t (wide (elements_past hxs))
  past (Spells.object with_in least ps d t j r is_t hps) = past_one t (wide (properties_past hps))
  past (Spells.unnamed with_in least f d t j r is_t hf) = past_one t (wide (function_past hf))
  past (Spells.named with_in least name f d t u j r is_t is_u hf) = past_one t (next u (wide (function_past hf)))

  pub bare_past : {with_in : Bool} {tree : Expr} {d : ℕ} {i r : Symbols} → BareNew with_in tree d i r → Past i r
  bare_past (BareNew.new_chain with_in a d e t j r is_t ha) = past_one t (wide (past ha))
  bare_past (BareNew.new_new with_in a d t j r is_t ha) = past_one t (wide (bare_past ha))

  pub arguments_past : {xs : List Expr} {d : ℕ} {i r : Symbols} → Arguments xs d i r → Past i r
  arguments_past (Arguments.no_arguments t r is_t) = past_one t here
  arguments_past (Arguments.some_arguments xs d i r hxs) = listed_past hxs

  pub listed_past : {xs : List Expr} {d : ℕ} {i r : Symbols} → Listed xs d i r → Past i r
  listed_past (Listed.last_argument a d e t i r ha is_t) = and_suffix (past ha) (next t here)
  listed_past (Listed.more_arguments a xs d dx e t i j r ha is_t hxs) = and_suffix (past ha) (next t (wide (listed_past hxs)))

  pub elements_past : {xs : List (Option Expr)} {d : ℕ} {i r : Symbols} → Elements xs d i r → Past i r
  elements_past (Elements.no_element t r is_t) = past_one t here
  elements_past (Elements.hole xs d t j r is_t hxs) = past_one t (wide (elements_past hxs))
  elements_past (Elements.last_element a d e t i r ha is_t) = and_suffix (past ha) (next t here)
  elements_past (Elements.element a xs d dx e t i j r ha is_t hxs) = and_suffix (past ha) (next t (wide (elements_past hxs)))

  pub properties_past : {ps : List (List ℕ × Expr)} {d : ℕ} {i r : Symbols} → Properties ps d i r → Past i r
  properties_past (Properties.no_property t r is_t) = past_one t here
  properties_past (Properties.last_property key a d e t u v i r is_t is_u ha is_v) = past_one t (next u (trans (wide (past ha)) (next v here)))
  properties_past (Properties.property key a ps d dp e t u v i j r is_t is_u ha is_v hps) = past_one t (next u (trans (wide (past ha)) (next v (wide (properties_past hps)))))
  properties_past (Properties.last_name name t u r is_t is_u) = past_one t (next u here)
  properties_past (Properties.property_name name ps dp t u j r is_t is_u hps) = past_one t (next u (wide (properties_past hps)))

  pub function_past : {name : Option (List ℕ)} {f : FunctionTree} {d : ℕ} {i r : Symbols} → Function name f d i r → Past i r
  function_past (Function.function name params body d t u i j r hp is_t hbody is_u) = and_suffix (parameters_past hp) (next t (trans (body_suffix hbody) (next u here)))

  pub body_suffix : {ss : List Stmt} {d : ℕ} {i r : Symbols} → Body ss d i r → Suffix i r
  body_suffix (Body.no_item r) = here
  body_suffix (Body.item s ss d ds i j r hs hss) = trans (wide (item_past hs)) (body_suffix hss)

  pub item_past : {s : Stmt} {d : ℕ} {i r : Symbols} → IsItem s d i r → Past i r
  item_past (IsItem.statement s d i r hs) = statement_past hs
  item_past (IsItem.declaration name f d t u j r is_t is_u hf) = past_one t (next u (wide (function_past hf)))

  pub statements_suffix : {ss : List Stmt} {d : ℕ} {i r : Symbols} → Statements ss d i r → Suffix i r
  statements_suffix (Statements.no_statement r) = here
  statements_suffix (Statements.one_more s ss d ds i j r hs hss) = trans (wide (statement_past hs)) (statements_suffix hss)

  pub block_past : {ss : List Stmt} {d : ℕ} {i r : Symbols} → Block ss d i r → Past i r
  block_past (Block.braced ss d t u i r is_t hss is_u) = past_one t (trans (statements_suffix hss) (next u here))

  pub grouped_past : {a : Expr} {d : ℕ} {i r : Symbols} → Grouped a d i r → Past i r
  grouped_past (Grouped.grouped a d e t u i r is_t ha is_u) = past_one t (trans (wide (past ha)) (next u here))

  pub declares_past : {with_in : Bool} {vs : List (List ℕ × Option Expr)} {d : ℕ} {last : Option Bool} {i r : Symbols} → Declares with_in vs d last i r → Past i r
  declares_past (Declares.last_bare with_in name t r is_t) = past_one t here
  declares_past (Declares.last_value with_in name a d e t u i r is_t is_u ha) = past_one t (next u (wide (past ha)))
  declares_past (Declares.more_bare with_in name vs d last t u j r is_t is_u hvs) = past_one t (next u (wide (declares_past hvs)))
  declares_past (Declares.more_value with_in name a vs d dv e last t u v i j r is_t is_u ha is_v hvs) = past_one t (next u (trans (wide (past ha)) (next v (wide (declares_past hvs)))))

  pub optional_past : {a : Option Expr} {d : ℕ} {m : Mark} {i r : Symbols} → Optional a d m i r → Past i r
  optional_past (Optional.left_out m t r is_t) = past_one t here
  optional_past (Optional.given m a d e t i r ha is_t) = and_suffix (past ha) (next t here)

  pub first_past : {f : Option ForFirst} {d : ℕ} {i r : Symbols} → First f d i r → Past i r
  first_past (First.no_first t r is_t) = past_one t here
  first_past (First.first_var vs d last t u i r is_t hvs is_u) = past_one t (trans (wide (declares_past hvs)) (next u here))
  first_past (First.first_expr a d e t i r ha is_t) = and_suffix (past ha) (next t here)

  pub head_past : {h : ForInHead} {d : ℕ} {i r : Symbols} → Head h d i r → Past i r
  head_past (Head.head_var name t u r is_t is_u) = past_one t (next u here)
  head_past (Head.head_target a d e i r ha target) = past ha

  pub cases_past : {cs : List Case} {d : ℕ} {has_default : Bool} {i r : Symbols} → Cases cs d has_default i r → Past i r
  cases_past (Cases.no_case t r is_t) = past_one t here
  cases_past (Cases.test_case a ss cs da ds dc e has_default t u i j k r is_t ha is_u hss hcs) = past_one t (trans (wide (past ha)) (next u (trans (statements_suffix hss) (wide (cases_past hcs)))))
  cases_past (Cases.default_case ss cs ds dc t u j k r is_t is_u hss hcs) = past_one t (next u (trans (statements_suffix hss) (wide (cases_past hcs))))

  pub catch_past : {name : List ℕ} {ss : List Stmt} {d : ℕ} {i r : Symbols} → Catch name ss d i r → Past i r
  catch_past (Catch.caught name ss d t u v w i r is_t is_u is_v is_w hss) = past_one t (next u (next v (next w (wide (block_past hss)))))

  pub statement_past : {s : Stmt} {d : ℕ} {i r : Symbols} → Stands s d i r → Past i r
  statement_past (Stands.block ss d i r hss) = block_past hss
  statement_past (Stands.var vs d last t i k r is_t hvs ending) = past_one t (trans (wide (declares_past hvs)) (ends_suffix ending))
  statement_past (Stands.empty t r is_t) = past_one t here
  statement_past (Stands.expr a d e i k r other unlabelled ha ending) = and_suffix (past ha) (ends_suffix ending)
  statement_past (Stands.if_only a s da ds t i j r is_t ha hs not_on) = past_one t (trans (wide (grouped_past ha)) (wide (statement_past hs)))
  statement_past (Stands.if_else a s o da ds dn t u i j k r is_t ha hs is_u ho) = past_one t (trans (wide (grouped_past ha)) (trans (wide (statement_past hs)) (next u (wide (statement_past ho)))))
  statement_past (Stands.do_while s a ds da t u i j k r is_t hs is_u ha ending) = past_one t (trans (wide (statement_past hs)) (next u (trans (wide (grouped_past ha)) (ends_suffix ending))))
  statement_past (Stands.while a s da ds t i j r is_t ha hs) = past_one t (trans (wide (grouped_past ha)) (wide (statement_past hs)))
  statement_past (Stands.for f a b s df da db ds t u i j k l r is_t is_u hf ha hb hs) = past_one t (next u (trans (wide (first_past hf)) (trans (wide (optional_past ha)) (trans (wide (optional_past hb)) (wide (statement_past hs))))))
  statement_past (Stands.for_in h a s dh da ds e t u v w i j k r is_t is_u hh is_v ha is_w hs) = past_one t (next u (trans (wide (head_past hh)) (next v (trans (wide (past ha)) (next w (wide (statement_past hs)))))))
  statement_past (Stands.continue t j r is_t ending) = past_one t (ends_suffix ending)
  statement_past (Stands.continue_to label t u j r is_t same is_u ending) = past_one t (next u (ends_suffix ending))
  statement_past (Stands.break t j r is_t ending) = past_one t (ends_suffix ending)
  statement_past (Stands.break_to label t u j r is_t same is_u ending) = past_one t (next u (ends_suffix ending))
  statement_past (Stands.return t j r is_t ending) = past_one t (ends_suffix ending)
  statement_past (Stands.return_value a d e t i k r is_t same ha ending) = past_one t (trans (wide (past ha)) (ends_suffix ending))
  statement_past (Stands.throw a d e t i k r is_t same ha ending) = past_one t (trans (wide (past ha)) (ends_suffix ending))
  statement_past (Stands.switch a cs da dc has_default t u i j r is_t ha is_u hcs) = past_one t (trans (wide (grouped_past ha)) (next u (wide (cases_past hcs))))
  statement_past (Stands.try_catch ss cs name ds dc t i j r is_t hss hcs not_on) = past_one t (trans (wide (block_past hss)) (wide (catch_past hcs)))
  statement_past (Stands.try_finally ss fs ds df t u i j r is_t hss is_u hfs) = past_one t (trans (wide (block_past hss)) (next u (wide (block_past hfs))))
  statement_past (Stands.try_both ss cs fs name ds dc df t u i j k r is_t hss hcs is_u hfs) = past_one t (trans (wide (block_past hss)) (trans (wide (catch_past hcs)) (next u (wide (block_past hfs)))))
  statement_past (Stands.label name s d t u j r is_t is_u hs loop) = past_one t (next u (wide (statement_past hs)))

-- ---- a tree has a depth of 1 at least

pub bare_deep : {with_in : Bool} {tree : Expr} {d : ℕ} {i r : Symbols} → BareNew with_in tree d i r → 0 < d
bare_deep (BareNew.new_chain with_in a d e t j r is_t ha) = omega arith
bare_deep (BareNew.new_new with_in a d t j r is_t ha) = omega arith

pub deep : {with_in : Bool} {least : ℕ} {tree : Expr} {d : ℕ} {e : Bool} {i r : Symbols} → Spells with_in least tree d e i r → 0 < d
deep (Spells.parenthesized with_in least a d e t u j r is_t ha is_u) = deep ha
deep (Spells.bare_new with_in least a d i r low ha) = bare_deep ha
deep _ = omega arith

pub statement_deep : {s : Stmt} {d : ℕ} {i r : Symbols} → Stands s d i r → 0 < d
statement_deep (Stands.block ss d i r hss) = omega arith
statement_deep (Stands.var vs d last t i k r is_t hvs ending) = omega arith
statement_deep (Stands.empty t r is_t) = omega arith
statement_deep (Stands.expr a d e i k r other unlabelled ha ending) = omega arith
statement_deep (Stands.if_only a s da ds t i j r is_t ha hs not_on) = omega arith
statement_deep (Stands.if_else a s o da ds dn t u i j k r is_t ha hs is_u ho) = omega arith
statement_deep (Stands.do_while s a ds da t u i j k r is_t hs is_u ha ending) = omega arith
statement_deep (Stands.while a s da ds t i j r is_t ha hs) = omega arith
statement_deep (Stands.for f a b s df da db ds t u i j k l r is_t is_u hf ha hb hs) = omega arith
statement_deep (Stands.for_in h a s dh da ds e t u v w i j k r is_t is_u hh is_v ha is_w hs) = omega arith
statement_deep (Stands.continue t j r is_t ending) = omega arith
statement_deep (Stands.continue_to label t u j r is_t same is_u ending) = omega arith
statement_deep (Stands.break t j r is_t ending) = omega arith
statement_deep (Stands.break_to label t u j r is_t same is_u ending) = omega arith
statement_deep (Stands.return t j r is_t ending) = omega arith
statement_deep (Stands.return_value a d e t i k r is_t same ha ending) = omega arith
statement_deep (Stands.throw a d e t i k r is_t same ha ending) = omega arith
statement_deep (Stands.switch a cs da dc has_default t u i j r is_t ha is_u hcs) = omega arith
statement_deep (Stands.try_catch ss cs name ds dc t i j r is_t hss hcs not_on) = omega arith
statement_deep (Stands.try_finally ss fs ds df t u i j r is_t hss is_u hfs) = omega arith
statement_deep (Stands.try_both ss cs fs name ds dc df t u i j k r is_t hss hcs is_u hfs) = omega arith
statement_deep (Stands.label name s d t u j r is_t is_u hs loop) = omega arith

pub item_deep : {s : Stmt} {d : ℕ} {i r : Symbols} → IsItem s d i r → 0 < d
item_deep (IsItem.statement s d i r hs) = statement_deep hs
item_deep (IsItem.declaration name f d t u j r is_t is_u hf) = omega arith
