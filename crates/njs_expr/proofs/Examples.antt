-- Small examples of what is read. A name is a letter, and all stands on line 1.
use Rattle.std.proofs.Common.{◌≡◌, ℕ, true, false, [], ◌∷◌, Some, None, codes, refl}
use denote.Hole.Carrier.{out}
use Rattle.njs_tree.specs.declared.token.Keyword.{Keyword}
use Rattle.njs_tree.specs.declared.token.Keyword.TheVariants as keyword
use Rattle.njs_tree.specs.declared.token.Mark.{Mark}
use Rattle.njs_tree.specs.declared.token.Mark.TheVariants as mark
use Rattle.njs_tree.specs.declared.tree.Expr.{Expr}
use Rattle.njs_tree.specs.declared.tree.ExprNode.{ExprNode, out-ExprNode}
use Rattle.njs_tree.specs.declared.tree.ExprNode.TheVariants as node
use Rattle.njs_tree.specs.declared.tree.BinaryOp.TheVariants as binary
use Rattle.njs_tree.specs.declared.tree.LogicalOp.TheVariants as logical
use Rattle.njs_tree.specs.declared.tree.UnaryOp.TheVariants as unary
use Rattle.njs_tree.specs.declared.tree.UpdateOp.TheVariants as update
use Rattle.njs_tree.specs.declared.tree.Stmt.{Stmt}
use Rattle.njs_tree.specs.declared.tree.StmtNode.{StmtNode, out-StmtNode}
use Rattle.njs_tree.specs.declared.tree.StmtNode.TheVariants as step
use Rattle.njs_tree.specs.declared.tree.FunctionTree.{roll-FunctionTree}
use Rattle.njs_tree.specs.declared.tree.ForFirst.TheVariants as first
use Rattle.njs_tree.specs.declared.tree.ForInHead.TheVariants as head
use Rattle.njs_tree.specs.declared.tree.Case.{roll-Case}
use Rattle.njs_tree.specs.Lexemes.{Lexeme, Symbol}
use Rattle.njs_tree.specs.Grammar.{stands}
use Rattle.njs_expr.specs.Readers.{on, sees, sees_word, expect, expect_word, after, after_word, separate, semicolon, take_name, take_number, take_string, take_word, take_key, grown, stood}
use Rattle.njs_expr.specs.Expressions.{member, updated, listed, some_listed, arguments, new_arguments, call, index, link, chain, whole_chain, newed, parenthesized, valued_element, element, elements, whole_elements, array, property_value, property, properties, whole_properties, object, prefix_update, prefix_unary, conditional, comma, assigned, logical_joined, binary_joined, joined, climb, whole_climb, names, some_names, parameters, optional_name, statements, whole_statements, braced, function, function_value, primary, chained, postfix, operand, operators, level_of}
use Rattle.njs_expr.specs.Statements.{optional_label, continue_by, break_by, ends_here, grouped, given, optional, assigned_value, initial_value, declarator, declarators, whole_declarators, var_by, expr_by, returned_value, returned, return_by, thrown, throw_by, block_by, label_statement, declaration_by, caught, optional_catch, final_block, optional_finally, try_by, else_by, if_by, do_by, while_by, for_rest, for_in_rest, for_in_var, for_plain_var, for_var, for_in_target, for_expr, for_by, tested, case_test, one_case, cases, whole_cases, switch_by, name_by, function_by, one_statement}
use Rattle.njs_expr.specs.Descent.{expr, stmt, unless_updated, unless_carried, whole_expression, whole_item}

abbrev a : ℕ
a = 97

abbrev b : ℕ
b = 98

abbrev c : ℕ
c = 99

abbrev d : ℕ
d = 100

abbrev e : ℕ
e = 101

abbrev f : ℕ
f = 102

abbrev symbol : Lexeme → Symbol
symbol x = record { lexeme = x; line = 1; after_break = false }

abbrev sign : Mark → Symbol
sign m = symbol (Lexeme.mark m)

abbrev word : Keyword → Symbol
word k = symbol (Lexeme.reserved k)

abbrev named : ℕ → Symbol
named x = symbol (Lexeme.name (x ∷ []))

abbrev text : ℕ → Symbol
text x = symbol (Lexeme.string (x ∷ []))

abbrev digit : ℕ → Symbol
digit n = symbol (Lexeme.number n)

abbrev over : Symbol
over = symbol Lexeme.over

-- after a line end
abbrev lined : Symbol → Symbol
lined s = record s { after_break = true }

abbrev tree : ExprNode → Expr
tree n = on 1 n

abbrev letter : ℕ → Expr
letter x = tree (node.Name (x ∷ []))

abbrev statement : StmtNode → Stmt
statement s = stands 1 s

abbrev plain : Expr → Stmt
plain x = statement (step.Expr x)

-- the first is the expression, and then its depth and what is left
expressions :
    -- a + b * c
    (whole_expression true true (named a ∷ sign mark.Plus ∷ named b ∷ sign mark.Star ∷ named c ∷ over ∷ []) ≡ Some ((tree (node.Binary binary.Add (letter a) (tree (node.Binary binary.Mul (letter b) (letter c)))), 3), over ∷ []))
    -- a = b ? c : d = e
    × (whole_expression true true (named a ∷ sign mark.Assign ∷ named b ∷ sign mark.Question ∷ named c ∷ sign mark.Colon ∷ named d ∷ sign mark.Assign ∷ named e ∷ over ∷ []) ≡ Some ((tree (node.Assign None (letter a) (tree (node.Cond (letter b) (letter c) (tree (node.Assign None (letter d) (letter e)))))), 4), over ∷ []))
    -- a || b && c
    × (whole_expression true true (named a ∷ sign mark.Or ∷ named b ∷ sign mark.And ∷ named c ∷ over ∷ []) ≡ Some ((tree (node.Logical logical.Or (letter a) (tree (node.Logical logical.And (letter b) (letter c)))), 3), over ∷ []))
    -- a , b , c
    × (whole_expression true true (named a ∷ sign mark.Comma ∷ named b ∷ sign mark.Comma ∷ named c ∷ over ∷ []) ≡ Some ((tree (node.Comma (tree (node.Comma (letter a) (letter b))) (letter c)), 3), over ∷ []))
    -- - a ++
    × (whole_expression true true (sign mark.Minus ∷ named a ∷ sign mark.PlusPlus ∷ over ∷ []) ≡ Some ((tree (node.Unary unary.Minus (tree (node.Update update.Add false (letter a)))), 3), over ∷ []))
    -- typeof void a . b
    × (whole_expression true true (word keyword.TypeOf ∷ word keyword.Void ∷ named a ∷ sign mark.Dot ∷ named b ∷ over ∷ []) ≡ Some ((tree (node.Unary unary.TypeOf (tree (node.Unary unary.Void (tree (node.Member (letter a) (b ∷ [])))))), 4), over ∷ []))
    -- ( a ) = b
    × (whole_expression true true (sign mark.LeftParen ∷ named a ∷ sign mark.RightParen ∷ sign mark.Assign ∷ named b ∷ over ∷ []) ≡ Some ((tree (node.Assign None (letter a) (letter b)), 2), over ∷ []))
    -- new a . b ( c ) . d ( e )
    × (whole_expression true true (word keyword.New ∷ named a ∷ sign mark.Dot ∷ named b ∷ sign mark.LeftParen ∷ named c ∷ sign mark.RightParen ∷ sign mark.Dot ∷ named d ∷ sign mark.LeftParen ∷ named e ∷ sign mark.RightParen ∷ over ∷ []) ≡ Some ((tree (node.Call (tree (node.Member (tree (node.New (tree (node.Member (letter a) (b ∷ []))) (letter c ∷ []))) (d ∷ []))) (letter e ∷ [])), 5), over ∷ []))
    -- new new a ( b ) ( c )
    × (whole_expression true true (word keyword.New ∷ word keyword.New ∷ named a ∷ sign mark.LeftParen ∷ named b ∷ sign mark.RightParen ∷ sign mark.LeftParen ∷ named c ∷ sign mark.RightParen ∷ over ∷ []) ≡ Some ((tree (node.New (tree (node.New (letter a) (letter b ∷ []))) (letter c ∷ [])), 3), over ∷ []))
    -- new new a ( b )
    × (whole_expression true true (word keyword.New ∷ word keyword.New ∷ named a ∷ sign mark.LeftParen ∷ named b ∷ sign mark.RightParen ∷ over ∷ []) ≡ Some ((tree (node.New (tree (node.New (letter a) (letter b ∷ []))) []), 3), over ∷ []))
    -- new a + b
    × (whole_expression true true (word keyword.New ∷ named a ∷ sign mark.Plus ∷ named b ∷ over ∷ []) ≡ Some ((tree (node.Binary binary.Add (tree (node.New (letter a) [])) (letter b)), 3), over ∷ []))
    -- [ a , , b , ]
    × (whole_expression true true (sign mark.LeftBracket ∷ named a ∷ sign mark.Comma ∷ sign mark.Comma ∷ named b ∷ sign mark.Comma ∷ sign mark.RightBracket ∷ over ∷ []) ≡ Some ((tree (node.Array (Some (letter a) ∷ None ∷ Some (letter b) ∷ [])), 2), over ∷ []))
    -- [ , ]
    × (whole_expression true true (sign mark.LeftBracket ∷ sign mark.Comma ∷ sign mark.RightBracket ∷ over ∷ []) ≡ Some ((tree (node.Array (None ∷ [])), 1), over ∷ []))
    -- { a , b : c , "d" : e , if : f , }
    × (whole_expression true true (sign mark.LeftBrace ∷ named a ∷ sign mark.Comma ∷ named b ∷ sign mark.Colon ∷ named c ∷ sign mark.Comma ∷ text d ∷ sign mark.Colon ∷ named e ∷ sign mark.Comma ∷ word keyword.If ∷ sign mark.Colon ∷ named f ∷ sign mark.Comma ∷ sign mark.RightBrace ∷ over ∷ []) ≡ Some ((tree (node.Object ((a ∷ [], letter a) ∷ (b ∷ [], letter c) ∷ (d ∷ [], letter e) ∷ (codes "if", letter f) ∷ [])), 2), over ∷ []))
    -- a . if
    × (whole_expression true true (named a ∷ sign mark.Dot ∷ word keyword.If ∷ over ∷ []) ≡ Some ((tree (node.Member (letter a) (codes "if")), 2), over ∷ []))
    -- a (line end) ++ b
    × (whole_expression true true (named a ∷ lined (sign mark.PlusPlus) ∷ named b ∷ over ∷ []) ≡ Some ((letter a, 1), lined (sign mark.PlusPlus) ∷ named b ∷ over ∷ []))
    -- a in b
    × (whole_expression false true (named a ∷ word keyword.In ∷ named b ∷ over ∷ []) ≡ Some ((letter a, 1), word keyword.In ∷ named b ∷ over ∷ []))
    -- a , b
    × (whole_expression true false (named a ∷ sign mark.Comma ∷ named b ∷ over ∷ []) ≡ Some ((letter a, 1), sign mark.Comma ∷ named b ∷ over ∷ []))
unfolding sees sees_word expect expect_word after after_word separate semicolon take_name take_number take_string take_word take_key grown stood member updated listed some_listed arguments new_arguments call index link chain whole_chain newed parenthesized valued_element element elements whole_elements array property_value property properties whole_properties object prefix_update prefix_unary conditional comma assigned logical_joined binary_joined joined climb whole_climb names some_names parameters optional_name statements whole_statements braced function function_value primary chained postfix operand operators level_of optional_label continue_by break_by ends_here grouped given optional assigned_value initial_value declarator declarators whole_declarators var_by expr_by returned_value returned return_by thrown throw_by block_by label_statement declaration_by caught optional_catch final_block optional_finally try_by else_by if_by do_by while_by for_rest for_in_rest for_in_var for_plain_var for_var for_in_target for_expr for_by tested case_test one_case cases whole_cases switch_by name_by function_by one_statement expr stmt unless_updated unless_carried whole_expression whole_item out-ExprNode out-StmtNode out
expressions = (refl, refl, refl, refl, refl, refl, refl, refl, refl, refl, refl, refl, refl, refl, refl, refl, refl, refl)

-- no expression
refused_expressions :
    -- a ++ ++
    (whole_expression true true (named a ∷ sign mark.PlusPlus ∷ sign mark.PlusPlus ∷ over ∷ []) ≡ None)
    -- ++ a ++
    × (whole_expression true true (sign mark.PlusPlus ∷ named a ∷ sign mark.PlusPlus ∷ over ∷ []) ≡ None)
    -- 1 = a
    × (whole_expression true true (digit 1 ∷ sign mark.Assign ∷ named a ∷ over ∷ []) ≡ None)
    -- new - a
    × (whole_expression true true (word keyword.New ∷ sign mark.Minus ∷ named a ∷ over ∷ []) ≡ None)
    -- a +
    × (whole_expression true true (named a ∷ sign mark.Plus ∷ over ∷ []) ≡ None)
    -- [ a b ]
    × (whole_expression true true (sign mark.LeftBracket ∷ named a ∷ named b ∷ sign mark.RightBracket ∷ over ∷ []) ≡ None)
    -- { 1 }
    × (whole_expression true true (sign mark.LeftBrace ∷ digit 1 ∷ sign mark.RightBrace ∷ over ∷ []) ≡ None)
unfolding sees sees_word expect expect_word after after_word separate semicolon take_name take_number take_string take_word take_key grown stood member updated listed some_listed arguments new_arguments call index link chain whole_chain newed parenthesized valued_element element elements whole_elements array property_value property properties whole_properties object prefix_update prefix_unary conditional comma assigned logical_joined binary_joined joined climb whole_climb names some_names parameters optional_name statements whole_statements braced function function_value primary chained postfix operand operators level_of optional_label continue_by break_by ends_here grouped given optional assigned_value initial_value declarator declarators whole_declarators var_by expr_by returned_value returned return_by thrown throw_by block_by label_statement declaration_by caught optional_catch final_block optional_finally try_by else_by if_by do_by while_by for_rest for_in_rest for_in_var for_plain_var for_var for_in_target for_expr for_by tested case_test one_case cases whole_cases switch_by name_by function_by one_statement expr stmt unless_updated unless_carried whole_expression whole_item out-ExprNode out-StmtNode out
refused_expressions = (refl, refl, refl, refl, refl, refl, refl)

-- statements and declarations
items :
    -- if ( a ) if ( b ) c ; else d ;
    (whole_item (word keyword.If ∷ sign mark.LeftParen ∷ named a ∷ sign mark.RightParen ∷ word keyword.If ∷ sign mark.LeftParen ∷ named b ∷ sign mark.RightParen ∷ named c ∷ sign mark.Semicolon ∷ word keyword.Else ∷ named d ∷ sign mark.Semicolon ∷ over ∷ []) ≡ Some ((statement (step.If (letter a) (statement (step.If (letter b) (plain (letter c)) (Some (plain (letter d))))) None), 4), over ∷ []))
    -- do a ; while ( b )
    × (whole_item (word keyword.Do ∷ named a ∷ sign mark.Semicolon ∷ word keyword.While ∷ sign mark.LeftParen ∷ named b ∷ sign mark.RightParen ∷ over ∷ []) ≡ Some ((statement (step.Do (plain (letter a)) (letter b)), 3), over ∷ []))
    -- for ( ; ; ) { }
    × (whole_item (word keyword.For ∷ sign mark.LeftParen ∷ sign mark.Semicolon ∷ sign mark.Semicolon ∷ sign mark.RightParen ∷ sign mark.LeftBrace ∷ sign mark.RightBrace ∷ over ∷ []) ≡ Some ((statement (step.For None None None (statement (step.Block []))), 2), over ∷ []))
    -- for ( var a = b , c ; d ; ) ;
    × (whole_item (word keyword.For ∷ sign mark.LeftParen ∷ word keyword.Var ∷ named a ∷ sign mark.Assign ∷ named b ∷ sign mark.Comma ∷ named c ∷ sign mark.Semicolon ∷ named d ∷ sign mark.Semicolon ∷ sign mark.RightParen ∷ sign mark.Semicolon ∷ over ∷ []) ≡ Some ((statement (step.For (Some (first.Var ((a ∷ [], Some (letter b)) ∷ (c ∷ [], None) ∷ []))) (Some (letter d)) None (statement step.Empty)), 2), over ∷ []))
    -- for ( a ? b in c : d ; ; ) ;
    × (whole_item (word keyword.For ∷ sign mark.LeftParen ∷ named a ∷ sign mark.Question ∷ named b ∷ word keyword.In ∷ named c ∷ sign mark.Colon ∷ named d ∷ sign mark.Semicolon ∷ sign mark.Semicolon ∷ sign mark.RightParen ∷ sign mark.Semicolon ∷ over ∷ []) ≡ Some ((statement (step.For (Some (first.Expr (tree (node.Cond (letter a) (tree (node.Binary binary.In (letter b) (letter c))) (letter d))))) None None (statement step.Empty)), 4), over ∷ []))
    -- for ( a in b ) c ;
    × (whole_item (word keyword.For ∷ sign mark.LeftParen ∷ named a ∷ word keyword.In ∷ named b ∷ sign mark.RightParen ∷ named c ∷ sign mark.Semicolon ∷ over ∷ []) ≡ Some ((statement (step.ForIn (head.Target (letter a)) (letter b) (plain (letter c))), 3), over ∷ []))
    -- for ( var a in b ) c ;
    × (whole_item (word keyword.For ∷ sign mark.LeftParen ∷ word keyword.Var ∷ named a ∷ word keyword.In ∷ named b ∷ sign mark.RightParen ∷ named c ∷ sign mark.Semicolon ∷ over ∷ []) ≡ Some ((statement (step.ForIn (head.Var (a ∷ [])) (letter b) (plain (letter c))), 3), over ∷ []))
    -- a : while ( b ) break a ;
    × (whole_item (named a ∷ sign mark.Colon ∷ word keyword.While ∷ sign mark.LeftParen ∷ named b ∷ sign mark.RightParen ∷ word keyword.Break ∷ named a ∷ sign mark.Semicolon ∷ over ∷ []) ≡ Some ((statement (step.Label (a ∷ []) (statement (step.While (letter b) (statement (step.Break (Some (a ∷ []))))))), 3), over ∷ []))
    -- switch ( a ) { case b : c ; default : d }
    × (whole_item (word keyword.Switch ∷ sign mark.LeftParen ∷ named a ∷ sign mark.RightParen ∷ sign mark.LeftBrace ∷ word keyword.Case ∷ named b ∷ sign mark.Colon ∷ named c ∷ sign mark.Semicolon ∷ word keyword.Default ∷ sign mark.Colon ∷ named d ∷ sign mark.RightBrace ∷ over ∷ []) ≡ Some ((statement (step.Switch (letter a) (roll-Case (record { test = Some (letter b); body = plain (letter c) ∷ [] }) ∷ roll-Case (record { test = None; body = plain (letter d) ∷ [] }) ∷ [])), 3), over ∷ []))
    -- try { } finally { }
    × (whole_item (word keyword.Try ∷ sign mark.LeftBrace ∷ sign mark.RightBrace ∷ word keyword.Finally ∷ sign mark.LeftBrace ∷ sign mark.RightBrace ∷ over ∷ []) ≡ Some ((statement (step.Try [] None (Some [])), 1), over ∷ []))
    -- try { } catch ( a ) { }
    × (whole_item (word keyword.Try ∷ sign mark.LeftBrace ∷ sign mark.RightBrace ∷ word keyword.Catch ∷ sign mark.LeftParen ∷ named a ∷ sign mark.RightParen ∷ sign mark.LeftBrace ∷ sign mark.RightBrace ∷ over ∷ []) ≡ Some ((statement (step.Try [] (Some (a ∷ [], [])) None), 1), over ∷ []))
    -- function f ( a , b ) { return (line end) a }
    × (whole_item (word keyword.Function ∷ named f ∷ sign mark.LeftParen ∷ named a ∷ sign mark.Comma ∷ named b ∷ sign mark.RightParen ∷ sign mark.LeftBrace ∷ word keyword.Return ∷ lined (named a) ∷ sign mark.RightBrace ∷ over ∷ []) ≡ Some ((statement (step.FunctionDecl (roll-FunctionTree (record { name = Some (f ∷ []); params = (a ∷ []) ∷ (b ∷ []) ∷ []; body = statement (step.Return None) ∷ plain (letter a) ∷ [] }))), 3), over ∷ []))
    -- a = function ( ) { function f ( ) { } }
    × (whole_item (named a ∷ sign mark.Assign ∷ word keyword.Function ∷ sign mark.LeftParen ∷ sign mark.RightParen ∷ sign mark.LeftBrace ∷ word keyword.Function ∷ named f ∷ sign mark.LeftParen ∷ sign mark.RightParen ∷ sign mark.LeftBrace ∷ sign mark.RightBrace ∷ sign mark.RightBrace ∷ over ∷ []) ≡ Some ((plain (tree (node.Assign None (letter a) (tree (node.Function (roll-FunctionTree (record { name = None; params = []; body = statement (step.FunctionDecl (roll-FunctionTree (record { name = Some (f ∷ []); params = []; body = [] }))) ∷ [] })))))), 4), over ∷ []))
unfolding sees sees_word expect expect_word after after_word separate semicolon take_name take_number take_string take_word take_key grown stood member updated listed some_listed arguments new_arguments call index link chain whole_chain newed parenthesized valued_element element elements whole_elements array property_value property properties whole_properties object prefix_update prefix_unary conditional comma assigned logical_joined binary_joined joined climb whole_climb names some_names parameters optional_name statements whole_statements braced function function_value primary chained postfix operand operators level_of optional_label continue_by break_by ends_here grouped given optional assigned_value initial_value declarator declarators whole_declarators var_by expr_by returned_value returned return_by thrown throw_by block_by label_statement declaration_by caught optional_catch final_block optional_finally try_by else_by if_by do_by while_by for_rest for_in_rest for_in_var for_plain_var for_var for_in_target for_expr for_by tested case_test one_case cases whole_cases switch_by name_by function_by one_statement expr stmt unless_updated unless_carried whole_expression whole_item out-ExprNode out-StmtNode out
items = (refl, refl, refl, refl, refl, refl, refl, refl, refl, refl, refl, refl, refl)

-- where a statement ends
semicolons :
    -- a (line end) ( b )
    (whole_item (named a ∷ lined (sign mark.LeftParen) ∷ named b ∷ sign mark.RightParen ∷ over ∷ []) ≡ Some ((plain (tree (node.Call (letter a) (letter b ∷ []))), 3), over ∷ []))
    -- a ++ (line end) ( b )
    × (whole_item (named a ∷ sign mark.PlusPlus ∷ lined (sign mark.LeftParen) ∷ named b ∷ sign mark.RightParen ∷ over ∷ []) ≡ Some ((plain (tree (node.Update update.Add false (letter a))), 3), lined (sign mark.LeftParen) ∷ named b ∷ sign mark.RightParen ∷ over ∷ []))
    -- a (line end) b
    × (whole_item (named a ∷ lined (named b) ∷ over ∷ []) ≡ Some ((plain (letter a), 2), lined (named b) ∷ over ∷ []))
    -- a (line end) ++ b
    × (whole_item (named a ∷ lined (sign mark.PlusPlus) ∷ named b ∷ over ∷ []) ≡ Some ((plain (letter a), 2), lined (sign mark.PlusPlus) ∷ named b ∷ over ∷ []))
    -- var a (line end) b
    × (whole_item (word keyword.Var ∷ named a ∷ lined (named b) ∷ over ∷ []) ≡ Some ((statement (step.Var ((a ∷ [], None) ∷ [])), 1), lined (named b) ∷ over ∷ []))
    -- var a (line end) = b
    × (whole_item (word keyword.Var ∷ named a ∷ lined (sign mark.Assign) ∷ named b ∷ over ∷ []) ≡ Some ((statement (step.Var ((a ∷ [], Some (letter b)) ∷ [])), 2), over ∷ []))
    -- while ( b ) break (line end) a ;
    × (whole_item (word keyword.While ∷ sign mark.LeftParen ∷ named b ∷ sign mark.RightParen ∷ word keyword.Break ∷ lined (named a) ∷ sign mark.Semicolon ∷ over ∷ []) ≡ Some ((statement (step.While (letter b) (statement (step.Break None))), 2), lined (named a) ∷ sign mark.Semicolon ∷ over ∷ []))
    -- { a }
    × (whole_item (sign mark.LeftBrace ∷ named a ∷ sign mark.RightBrace ∷ over ∷ []) ≡ Some ((statement (step.Block (plain (letter a) ∷ [])), 3), over ∷ []))
unfolding sees sees_word expect expect_word after after_word separate semicolon take_name take_number take_string take_word take_key grown stood member updated listed some_listed arguments new_arguments call index link chain whole_chain newed parenthesized valued_element element elements whole_elements array property_value property properties whole_properties object prefix_update prefix_unary conditional comma assigned logical_joined binary_joined joined climb whole_climb names some_names parameters optional_name statements whole_statements braced function function_value primary chained postfix operand operators level_of optional_label continue_by break_by ends_here grouped given optional assigned_value initial_value declarator declarators whole_declarators var_by expr_by returned_value returned return_by thrown throw_by block_by label_statement declaration_by caught optional_catch final_block optional_finally try_by else_by if_by do_by while_by for_rest for_in_rest for_in_var for_plain_var for_var for_in_target for_expr for_by tested case_test one_case cases whole_cases switch_by name_by function_by one_statement expr stmt unless_updated unless_carried whole_expression whole_item out-ExprNode out-StmtNode out
semicolons = (refl, refl, refl, refl, refl, refl, refl, refl)

-- no statement and no declaration
refused_items :
    -- a b
    (whole_item (named a ∷ named b ∷ over ∷ []) ≡ None)
    -- do a ; while ( b ) c
    × (whole_item (word keyword.Do ∷ named a ∷ sign mark.Semicolon ∷ word keyword.While ∷ sign mark.LeftParen ∷ named b ∷ sign mark.RightParen ∷ named c ∷ over ∷ []) ≡ None)
    -- for ( var a = b in c ) d ;
    × (whole_item (word keyword.For ∷ sign mark.LeftParen ∷ word keyword.Var ∷ named a ∷ sign mark.Assign ∷ named b ∷ word keyword.In ∷ named c ∷ sign mark.RightParen ∷ named d ∷ sign mark.Semicolon ∷ over ∷ []) ≡ None)
    -- a : b ;
    × (whole_item (named a ∷ sign mark.Colon ∷ named b ∷ sign mark.Semicolon ∷ over ∷ []) ≡ None)
    -- switch ( a ) { default : default : }
    × (whole_item (word keyword.Switch ∷ sign mark.LeftParen ∷ named a ∷ sign mark.RightParen ∷ sign mark.LeftBrace ∷ word keyword.Default ∷ sign mark.Colon ∷ word keyword.Default ∷ sign mark.Colon ∷ sign mark.RightBrace ∷ over ∷ []) ≡ None)
    -- try { }
    × (whole_item (word keyword.Try ∷ sign mark.LeftBrace ∷ sign mark.RightBrace ∷ over ∷ []) ≡ None)
    -- throw (line end) a ;
    × (whole_item (word keyword.Throw ∷ lined (named a) ∷ sign mark.Semicolon ∷ over ∷ []) ≡ None)
    -- if ( a ) function f ( ) { }
    × (whole_item (word keyword.If ∷ sign mark.LeftParen ∷ named a ∷ sign mark.RightParen ∷ word keyword.Function ∷ named f ∷ sign mark.LeftParen ∷ sign mark.RightParen ∷ sign mark.LeftBrace ∷ sign mark.RightBrace ∷ over ∷ []) ≡ None)
    -- function ( ) { }
    × (whole_item (word keyword.Function ∷ sign mark.LeftParen ∷ sign mark.RightParen ∷ sign mark.LeftBrace ∷ sign mark.RightBrace ∷ over ∷ []) ≡ None)
    -- if ( a ) b ; else c ; else d ;
    × (whole_item (word keyword.If ∷ sign mark.LeftParen ∷ named a ∷ sign mark.RightParen ∷ named b ∷ sign mark.Semicolon ∷ word keyword.Else ∷ named c ∷ sign mark.Semicolon ∷ word keyword.Else ∷ named d ∷ sign mark.Semicolon ∷ over ∷ []) ≡ None)
    -- { a
    × (whole_item (sign mark.LeftBrace ∷ named a ∷ over ∷ []) ≡ None)
    -- if ( a )
    × (whole_item (word keyword.If ∷ sign mark.LeftParen ∷ named a ∷ sign mark.RightParen ∷ over ∷ []) ≡ None)
    -- export default a ;
    × (whole_item (word keyword.Export ∷ word keyword.Default ∷ named a ∷ sign mark.Semicolon ∷ over ∷ []) ≡ None)
unfolding sees sees_word expect expect_word after after_word separate semicolon take_name take_number take_string take_word take_key grown stood member updated listed some_listed arguments new_arguments call index link chain whole_chain newed parenthesized valued_element element elements whole_elements array property_value property properties whole_properties object prefix_update prefix_unary conditional comma assigned logical_joined binary_joined joined climb whole_climb names some_names parameters optional_name statements whole_statements braced function function_value primary chained postfix operand operators level_of optional_label continue_by break_by ends_here grouped given optional assigned_value initial_value declarator declarators whole_declarators var_by expr_by returned_value returned return_by thrown throw_by block_by label_statement declaration_by caught optional_catch final_block optional_finally try_by else_by if_by do_by while_by for_rest for_in_rest for_in_var for_plain_var for_var for_in_target for_expr for_by tested case_test one_case cases whole_cases switch_by name_by function_by one_statement expr stmt unless_updated unless_carried whole_expression whole_item out-ExprNode out-StmtNode out
refused_items = (refl, refl, refl, refl, refl, refl, refl, refl, refl, refl, refl, refl, refl)
