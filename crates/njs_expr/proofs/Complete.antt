-- What is spelled is read.
use Rattle.std.proofs.Common.{◌≡◌, ℕ, ◌+◌, max, ◌<◌, ◌≤◌, Bool, true, false, List, ◌∷◌, length, Option, Some, refl, ap, sym, ◌∙◌, arith}
use Rattle.njs_tree.specs.declared.token.Mark.{Mark}
use Rattle.njs_tree.specs.declared.token.Mark.TheVariants as mark
use Rattle.njs_tree.specs.declared.tree.Expr.{Expr}
use Rattle.njs_tree.specs.declared.tree.Stmt.{Stmt}
use Rattle.njs_tree.specs.declared.tree.FunctionTree.{FunctionTree}
use Rattle.njs_tree.specs.declared.tree.ForFirst.{ForFirst}
use Rattle.njs_tree.specs.declared.tree.ForInHead.{ForInHead}
use Rattle.njs_tree.specs.declared.tree.Case.{Case}
use Rattle.njs_tree.specs.Lexemes.{Symbol}
use Rattle.njs_tree.specs.Symbols.{strength}
use Rattle.njs_tree.specs.Grammar.{Spells, BareNew, Arguments, Listed, Elements, Properties, Function, Body, IsItem, Statements, Block, Grouped, Declares, Optional, First, Head, Cases, Catch, Stands}
use Rattle.njs_expr.specs.Readers.{Symbols, Grown, Stood}
use Rattle.njs_expr.specs.Descent.{expr, stmt}
use Rattle.njs_expr.proofs.Begins.{item_opens, statement_opens}
use Rattle.njs_expr.proofs.Follow.{Follows, weak, closed_var, ended_var}
use Rattle.njs_expr.proofs.Backwards.{some_one}
use Rattle.njs_expr.proofs.Past.{Past, within, shorter, item_past, statements_suffix, block_past, grouped_past, optional_past, first_past, head_past, catch_past, statement_past}
use Rattle.njs_expr.proofs.Read.{Reads, ReadsBare, ReadsArguments, ReadsListed, ReadsElements, ReadsProperties, ReadsFunction, ReadsStatements, ReadsItem, ReadsStatement, ReadsBlock, ReadsGrouped, ReadsDeclares, ReadsOptional, ReadsFirst, ReadsHead, ReadsCases, ReadsCatch}
use Rattle.njs_expr.proofs.ExpressionsRead.{whole, comma_reads, assign_reads, cond_reads, logical_reads, binary_reads, unary_reads, before_reads, after_reads, bare_reads, new_chain_reads, new_new_reads, call_reads, member_reads, index_reads, new_reads}
use Rattle.njs_expr.proofs.PartsRead.{parenthesized_reads, number_reads, string_reads, name_reads, this_reads, null_reads, true_reads, false_reads, array_reads, object_reads, unnamed_reads, named_reads, no_arguments_read, arguments_read, last_argument_reads, arguments_more, no_element_reads, hole_reads, last_element_reads, element_reads, no_property_reads, last_property_reads, property_reads, last_name_reads, property_name_reads, function_reads, no_statement_reads, statement_more}
use Rattle.njs_expr.proofs.StatementsRead.{declaration_reads, cases_close, block_reads, braced_reads, grouped_reads, last_bare_reads, last_value_reads, more_bare_reads, more_value_reads, left_out_reads, given_reads, no_first_reads, first_var_reads, first_expr_reads, head_var_reads, head_target_reads, no_case_reads, test_case_reads, default_case_reads, caught_reads, var_reads, empty_reads, expr_reads, if_only_reads, if_else_reads, do_while_reads, while_reads, for_reads, for_in_reads, continue_reads, continue_to_reads, break_reads, break_to_reads, return_reads, return_value_reads, throw_reads, switch_reads, try_catch_reads, try_finally_reads, try_both_reads, label_reads}

-- a symbol more is left out
one_shorter : {t : Symbol} {i r : Symbols} → Past i (t ∷ r) → length r < length i
one_shorter p = omega (arith, shorter p)

mutual
  reads : {with_in : Bool} {least : ℕ} {tree : Expr} {d : ℕ} {e : Bool} {i r : Symbols} → Spells with_in least tree d e i r → Reads with_in least tree d e i r
  reads (Spells.comma with_in least a b da db ea eb t i j r low ha is_t hb) = comma_reads with_in least a b da db ea eb t i j r low ha (reads ha) is_t hb (reads hb)
  reads (Spells.assign with_in least op a b da db ea eb t i j r low ha target is_t hb) = assign_reads with_in least op a b da db ea eb t i j r low ha (reads ha) target is_t hb (reads hb)
  reads (Spells.cond with_in least a b c da db dc ea eb ec t u i j k r low ha is_t hb is_u hc) = cond_reads with_in least a b c da db dc ea eb ec t u i j k r low ha (reads ha) is_t hb (reads hb) is_u hc (reads hc)
  reads (Spells.logical with_in least op a b da db ea eb t i j r low ha is_t hb) = logical_reads with_in least op a b da db ea eb t i j r low ha (reads ha) is_t hb (reads hb)
  reads (Spells.binary with_in least op a b da db ea eb t i j r low ha is_t hb) = binary_reads with_in least op a b da db ea eb t i j r low ha (reads ha) is_t hb (reads hb)
  reads (Spells.unary with_in least op a d e t j r low is_t ha) = unary_reads with_in least op a d e t j r low is_t ha (reads ha)
  reads (Spells.update_before with_in least op a d e t j r low is_t ha target) = before_reads with_in least op a d e t j r low is_t ha (reads ha) target
  reads (Spells.update_after with_in least op a d e t i r low ha target is_t same) = after_reads with_in least op a d e t i r low (reads ha) target is_t same
  reads (Spells.bare_new with_in least a d i r low ha) = bare_reads with_in least a d i r low ha (reads_bare ha)
  reads (Spells.call with_in least a xs da dx ea t i j r low ha is_t hxs) = call_reads with_in least a xs da dx ea t i j r low ha (reads ha) is_t hxs (reads_arguments hxs)
  reads (Spells.member with_in least base a name d e t u i r low low2 low3 ha is_t is_u) = member_reads with_in least base a name d e t u i r low low2 ha (reads ha) is_t is_u
  reads (Spells.index with_in least base a b da db ea eb t u i j r low low2 low3 ha is_t hb is_u) = index_reads with_in least base a b da db ea eb t u i j r low low2 ha (reads ha) is_t hb (reads hb) is_u
  reads (Spells.new with_in least a xs da dx ea t u j k r low is_t ha is_u hxs) = new_reads with_in least a xs da dx ea t u j k r is_t ha (reads ha) is_u (reads_arguments hxs)
  reads (Spells.parenthesized with_in least a d e t u j r is_t ha is_u) = parenthesized_reads with_in least a d e t u j r is_t ha (reads ha) is_u
  reads (Spells.number with_in least n t r is_t) = number_reads with_in least n t r is_t
  reads (Spells.string with_in least text t r is_t) = string_reads with_in least text t r is_t
  reads (Spells.name with_in least text t r is_t) = name_reads with_in least text t r is_t
  reads (Spells.this with_in least t r is_t) = this_reads with_in least t r is_t
  reads (Spells.null with_in least t r is_t) = null_reads with_in least t r is_t
  reads (Spells.yes with_in least t r is_t) = true_reads with_in least t r is_t
  reads (Spells.no with_in least t r is_t) = false_reads with_in least t r is_t
  reads (Spells.array with_in least xs d t j r is_t hxs) = array_reads with_in least xs d t j r is_t (reads_elements hxs)
  reads (Spells.object with_in least ps d t j r is_t hps) = object_reads with_in least ps d t j r is_t (reads_properties hps)
  reads (Spells.unnamed with_in least f d t j r is_t hf) = unnamed_reads with_in least f d t j r is_t hf (reads_function hf)
  reads (Spells.named with_in least name f d t u j r is_t is_u hf) = named_reads with_in least name f d t u j r is_t is_u (reads_function hf)

  reads_bare : {with_in : Bool} {tree : Expr} {d : ℕ} {i r : Symbols} → BareNew with_in tree d i r → ReadsBare with_in tree d i r
  reads_bare (BareNew.new_chain with_in a d e t j r is_t ha) = new_chain_reads with_in a d e t j r is_t ha (reads ha)
  reads_bare (BareNew.new_new with_in a d t j r is_t ha) = new_new_reads with_in a d t j r is_t ha (reads_bare ha)

  reads_arguments : {xs : List Expr} {d : ℕ} {i r : Symbols} → Arguments xs d i r → ReadsArguments xs d i r
  reads_arguments (Arguments.no_arguments t r is_t) = no_arguments_read t r is_t
  reads_arguments (Arguments.some_arguments xs d i r hxs) = arguments_read xs d i r hxs (reads_listed hxs)

  reads_listed : {xs : List Expr} {d : ℕ} {i r : Symbols} → Listed xs d i r → ReadsListed xs d i r
  reads_listed (Listed.last_argument a d e t i r ha is_t) = last_argument_reads a d e t i r ha (reads ha) is_t
  reads_listed (Listed.more_arguments a xs d dx e t i j r ha is_t hxs) = arguments_more a xs d dx e t i j r ha (reads ha) is_t (reads_listed hxs)

  reads_elements : {xs : List (Option Expr)} {d : ℕ} {i r : Symbols} → Elements xs d i r → ReadsElements xs d i r
  reads_elements (Elements.no_element t r is_t) = no_element_reads t r is_t
  reads_elements (Elements.hole xs d t j r is_t hxs) = hole_reads xs d t j r is_t (reads_elements hxs)
  reads_elements (Elements.last_element a d e t i r ha is_t) = last_element_reads a d e t i r ha (reads ha) is_t
  reads_elements (Elements.element a xs d dx e t i j r ha is_t hxs) = element_reads a xs d dx e t i j r ha (reads ha) is_t (reads_elements hxs)

  reads_properties : {ps : List (List ℕ × Expr)} {d : ℕ} {i r : Symbols} → Properties ps d i r → ReadsProperties ps d i r
  reads_properties (Properties.no_property t r is_t) = no_property_reads t r is_t
  reads_properties (Properties.last_property key a d e t u v i r is_t is_u ha is_v) = last_property_reads key a d e t u v i r is_t is_u ha (reads ha) is_v
  reads_properties (Properties.property key a ps d dp e t u v i j r is_t is_u ha is_v hps) = property_reads key a ps d dp e t u v i j r is_t is_u ha (reads ha) is_v (reads_properties hps)
  reads_properties (Properties.last_name name t u r is_t is_u) = last_name_reads name t u r is_t is_u
  reads_properties (Properties.property_name name ps dp t u j r is_t is_u hps) = property_name_reads name ps dp t u j r is_t is_u (reads_properties hps)

  reads_function : {name : Option (List ℕ)} {f : FunctionTree} {d : ℕ} {i r : Symbols} → Function name f d i r → ReadsFunction name f d i r
  reads_function (Function.function name params body d t u i j r hp is_t hbody is_u) = function_reads name params body d t u i j r hp is_t (reads_body hbody) is_u

  reads_body : {ss : List Stmt} {d : ℕ} {i r : Symbols} → Body ss d i r → ReadsStatements true ss d i r
  reads_body (Body.no_item r) = no_statement_reads true r
  reads_body (Body.item s ss d ds i j r hs hss) = statement_more true s ss d ds i j r (item_opens hs) (shorter (item_past hs)) (reads_item hs) (reads_body hss)

  reads_item : {s : Stmt} {d : ℕ} {i r : Symbols} → IsItem s d i r → ReadsItem s d i r
  reads_item (IsItem.statement s d i r hs) = reads_statement hs true
  reads_item (IsItem.declaration name f d t u j r is_t is_u hf) = declaration_reads name f d t u j r is_t is_u (reads_function hf)

  reads_statements : {ss : List Stmt} {d : ℕ} {i r : Symbols} → Statements ss d i r → ReadsStatements false ss d i r
  reads_statements (Statements.no_statement r) = no_statement_reads false r
  reads_statements (Statements.one_more s ss d ds i j r hs hss) = statement_more false s ss d ds i j r (statement_opens hs) (shorter (statement_past hs)) (reads_statement hs false) (reads_statements hss)

  reads_block : {ss : List Stmt} {d : ℕ} {i r : Symbols} → Block ss d i r → ReadsBlock ss d i r
  reads_block (Block.braced ss d t u i r is_t hss is_u) = braced_reads ss d t u i r is_t (reads_statements hss) is_u

  reads_grouped : {a : Expr} {d : ℕ} {i r : Symbols} → Grouped a d i r → ReadsGrouped a d i r
  reads_grouped (Grouped.grouped a d e t u i r is_t ha is_u) = grouped_reads a d e t u i r is_t ha (reads ha) is_u

  reads_declares : {with_in : Bool} {vs : List (List ℕ × Option Expr)} {d : ℕ} {last : Option Bool} {i r : Symbols} → Declares with_in vs d last i r → ReadsDeclares with_in vs d last i r
  reads_declares (Declares.last_bare with_in name t r is_t) = last_bare_reads with_in name t r is_t
  reads_declares (Declares.last_value with_in name a d e t u i r is_t is_u ha) = last_value_reads with_in name a d e t u i r is_t is_u ha (reads ha)
  reads_declares (Declares.more_bare with_in name vs d last t u j r is_t is_u hvs) = more_bare_reads with_in name vs d last t u j r is_t is_u (reads_declares hvs)
  reads_declares (Declares.more_value with_in name a vs d dv e last t u v i j r is_t is_u ha is_v hvs) = more_value_reads with_in name a vs d dv e last t u v i j r is_t is_u ha (reads ha) is_v (reads_declares hvs)

  reads_optional : {a : Option Expr} {d : ℕ} {m : Mark} {i r : Symbols} → Optional a d m i r → ReadsOptional a d m i r
  reads_optional (Optional.left_out m t r is_t) = left_out_reads m t r is_t
  reads_optional (Optional.given m a d e t i r ha is_t) = given_reads m a d e t i r ha (reads ha) is_t

  reads_first : {f : Option ForFirst} {d : ℕ} {i r : Symbols} → First f d i r → ReadsFirst f d i r
  reads_first (First.no_first t r is_t) = no_first_reads t r is_t
  reads_first (First.first_var vs d last t u i r is_t hvs is_u) = first_var_reads vs d last t u i r is_t hvs (reads_declares hvs) (closed_var false last mark.Semicolon u r is_u refl) is_u
  reads_first (First.first_expr a d e t i r ha is_t) = first_expr_reads a d e t i r ha (reads ha) is_t

  reads_head : {h : ForInHead} {d : ℕ} {i r : Symbols} → Head h d i r → ReadsHead h d i r
  reads_head (Head.head_var name t u r is_t is_u) = head_var_reads name t u r is_t is_u
  reads_head (Head.head_target a d e i r ha target) = head_target_reads a d e i r ha (reads ha) target

  reads_cases : {cs : List Case} {d : ℕ} {has_default : Bool} {i r : Symbols} → Cases cs d has_default i r → ReadsCases cs d has_default i r
  reads_cases (Cases.no_case t r is_t) = no_case_reads t r is_t
  reads_cases (Cases.test_case a ss cs da ds dc e has_default t u i j k r is_t ha is_u hss hcs) = test_case_reads a ss cs da ds dc e has_default t u i j k r is_t ha (reads ha) is_u (cases_close hcs) (within (statements_suffix hss)) (reads_statements hss) (reads_cases hcs)
  reads_cases (Cases.default_case ss cs ds dc t u j k r is_t is_u hss hcs) = default_case_reads ss cs ds dc t u j k r is_t is_u (cases_close hcs) (within (statements_suffix hss)) (reads_statements hss) (reads_cases hcs)

  reads_catch : {name : List ℕ} {ss : List Stmt} {d : ℕ} {i r : Symbols} → Catch name ss d i r → ReadsCatch name ss d i r
  reads_catch (Catch.caught name ss d t u v w i r is_t is_u is_v is_w hss) = caught_reads name ss d t u v w i r is_t is_u is_v is_w (reads_block hss)

  reads_statement : {s : Stmt} {d : ℕ} {i r : Symbols} → Stands s d i r → ReadsStatement s d i r
  reads_statement (Stands.block ss d i r hss) = block_reads hss (reads_block hss)
  reads_statement (Stands.var vs d last t i k r is_t hvs ending) = var_reads vs d last t i k r is_t (reads_declares hvs) (ended_var last k r ending) ending
  reads_statement (Stands.empty t r is_t) = empty_reads t r is_t
  reads_statement (Stands.expr a d e i k r other unlabelled ha ending) = expr_reads a d e i k r other unlabelled ha (reads ha) ending
  reads_statement (Stands.if_only a s da ds t i j r is_t ha hs not_on) = if_only_reads a s da ds t i j r is_t (shorter (grouped_past ha)) (reads_grouped ha) (reads_statement hs) not_on
  reads_statement (Stands.if_else a s o da ds dn t u i j k r is_t ha hs is_u ho) = if_else_reads a s o da ds dn t u i j k r is_t (shorter (grouped_past ha)) (one_shorter (statement_past hs)) (reads_grouped ha) (reads_statement hs) is_u (reads_statement ho)
  reads_statement (Stands.do_while s a ds da t u i j k r is_t hs is_u ha ending) = do_while_reads s a ds da t u i j k r is_t (one_shorter (statement_past hs)) (reads_statement hs) is_u (reads_grouped ha) ending
  reads_statement (Stands.while a s da ds t i j r is_t ha hs) = while_reads a s da ds t i j r is_t (shorter (grouped_past ha)) (reads_grouped ha) (reads_statement hs)
  reads_statement (Stands.for f a b s df da db ds t u i j k l r is_t is_u hf ha hb hs) = for_reads f a b s df da db ds t u i j k l r is_t is_u (shorter (first_past hf)) (shorter (optional_past ha)) (shorter (optional_past hb)) (reads_first hf) (reads_optional ha) (reads_optional hb) (reads_statement hs)
  reads_statement (Stands.for_in h a s dh da ds e t u v w i j k r is_t is_u hh is_v ha is_w hs) = for_in_reads h a s dh da ds e t u v w i j k r is_t is_u (one_shorter (head_past hh)) (reads_head hh) is_v ha (reads ha) is_w (reads_statement hs)
  reads_statement (Stands.continue t j r is_t ending) = continue_reads t j r is_t ending
  reads_statement (Stands.continue_to label t u j r is_t same is_u ending) = continue_to_reads label t u j r is_t same is_u ending
  reads_statement (Stands.break t j r is_t ending) = break_reads t j r is_t ending
  reads_statement (Stands.break_to label t u j r is_t same is_u ending) = break_to_reads label t u j r is_t same is_u ending
  reads_statement (Stands.return t j r is_t ending) = return_reads t j r is_t ending
  reads_statement (Stands.return_value a d e t i k r is_t same ha ending) = return_value_reads a d e t i k r is_t same ha (reads ha) ending
  reads_statement (Stands.throw a d e t i k r is_t same ha ending) = throw_reads a d e t i k r is_t same ha (reads ha) ending
  reads_statement (Stands.switch a cs da dc has_default t u i j r is_t ha is_u hcs) = switch_reads a cs da dc has_default t u i j r is_t (one_shorter (grouped_past ha)) (reads_grouped ha) is_u (reads_cases hcs)
  reads_statement (Stands.try_catch ss cs name ds dc t i j r is_t hss hcs not_on) = try_catch_reads ss cs name ds dc t i j r is_t (shorter (block_past hss)) (reads_block hss) (reads_catch hcs) not_on
  reads_statement (Stands.try_finally ss fs ds df t u i j r is_t hss is_u hfs) = try_finally_reads ss fs ds df t u i j r is_t (one_shorter (block_past hss)) (reads_block hss) is_u (reads_block hfs)
  reads_statement (Stands.try_both ss cs fs name ds dc df t u i j k r is_t hss hcs is_u hfs) = try_both_reads ss cs fs name ds dc df t u i j k r is_t (shorter (block_past hss)) (one_shorter (catch_past hcs)) (reads_block hss) (reads_catch hcs) is_u (reads_block hfs)
  reads_statement (Stands.label name s d t u j r is_t is_u hs loop) = label_reads name s d t u j r is_t is_u (reads_statement hs) loop

-- Symbols that spell an expression of a depth that is allowed, and that nothing carries on, are read as it.
pub complete : (with_in : Bool) (least : ℕ) (tree : Expr) (d : ℕ) (ends : Bool) (i r : Symbols) (fuel room : ℕ) → Spells with_in least tree d ends i r
    → least ≤ 2 → strength with_in ends r < least → d ≤ room → length i ≤ fuel → expr fuel with_in least room i ≡ Some ((tree, d), r)
complete with_in least tree d ends i r fuel room s two stop fits short =
    let f : Follows with_in least ends r = record { tight = omega arith; low = λ three. omega arith; loose = omega arith } in
    whole with_in least tree d ends i r least fuel room s (reads s) f (omega arith) (omega arith) (omega (arith, weak with_in ends r, stop)) fits short

-- Symbols that spell an item of a depth that is allowed are read as it.
pub item_complete : (s : Stmt) (d : ℕ) (i r : Symbols) (fuel room : ℕ) → IsItem s d i r → d ≤ room → length i < fuel → stmt fuel true room i ≡ Some ((s, d), r)
item_complete s d i r fuel room h fits short = reads_item h fuel room fits short

-- Symbols spell one expression at most up to one place.
pub one_expression : (with_in : Bool) (least : ℕ) (a b : Expr) (da db : ℕ) (ea eb : Bool) (i r q : Symbols) → least ≤ 2
    → Spells with_in least a da ea i r → strength with_in ea r < least → Spells with_in least b db eb i q → strength with_in eb q < least → (a ≡ b) × (r ≡ q)
one_expression with_in least a b da db ea eb i r q two sa stop_a sb stop_b =
    let x = complete with_in least a da ea i r (length i) (max da db) sa two stop_a (omega arith) (omega arith) in
    let y = complete with_in least b db eb i q (length i) (max da db) sb two stop_b (omega arith) (omega arith) in
    let e = some_one (sym x ∙ y) in
    (ap (λ (p : Grown × Symbols). p.0.0) e, ap (λ (p : Grown × Symbols). p.1) e)

-- Symbols begin with one item at most, and it ends at one place: so each missing semicolon has one place, and each `else` one `if`.
pub one_item : (a b : Stmt) (da db : ℕ) (i r q : Symbols) → IsItem a da i r → IsItem b db i q → (a ≡ b) × (da ≡ db) × (r ≡ q)
one_item a b da db i r q sa sb =
    let x = item_complete a da i r (length i + 1) (max da db) sa (omega arith) (omega arith) in
    let y = item_complete b db i q (length i + 1) (max da db) sb (omega arith) (omega arith) in
    let e = some_one (sym x ∙ y) in
    (ap (λ (p : Stood × Symbols). p.0.0) e, ap (λ (p : Stood × Symbols). p.0.1) e, ap (λ (p : Stood × Symbols). p.1) e)
