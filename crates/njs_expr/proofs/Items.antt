-- The items of a script, one at a time.
use Rattle.std.proofs.Common.{◌≡◌, ℕ, ◌≤◌, Bool, true, false, List, Some, refl, sym, arith}
use Rattle.njs_tree.specs.declared.token.Keyword.TheVariants as keyword
use Rattle.njs_tree.specs.declared.token.Mark.TheVariants as mark
use Rattle.njs_tree.specs.declared.tree.Expr.{Expr}
use Rattle.njs_tree.specs.declared.tree.Stmt.{Stmt}
use Rattle.njs_tree.specs.declared.tree.Item.{Item}
use Rattle.njs_tree.specs.Lexemes.{Lexeme}
use Rattle.njs_tree.specs.Symbols.{lexeme_of, breaks, goes_on, may_miss, update_of, is_else, is_finally}
use Rattle.njs_tree.specs.Grammar.{Ends, Spells, IsItem, Items, IsExpression, IsWholeItem, max_depth, updates_here}
use Rattle.njs_expr.specs.Readers.{Symbols, terminal_of, next_of, sees, pure, semicolon}
use Rattle.njs_expr.proofs.Forwards.{never}
use Rattle.njs_expr.proofs.Follow.{stops}
use Rattle.njs_expr.proofs.Backwards.{semicolon_case, pure_case, quiet}
use Rattle.njs_expr.proofs.StatementPartsSound.{only_comma}
use Rattle.njs_expr.proofs.Once.{is_foreign, item_native}

-- ---- after an item

plain_word : (x : Lexeme) → is_foreign (terminal_of x) ≡ false → (is_else x ≡ false) × (is_finally x ≡ false)
plain_word (Lexeme.reserved keyword.Else) h = absurd (never h)
plain_word (Lexeme.reserved keyword.Finally) h = absurd (never h)
plain_word _ h = (refl, refl)

plain_as : (x y : Lexeme) → x ≡ y → (is_else y ≡ false) × (is_finally y ≡ false) → (is_else x ≡ false) × (is_finally x ≡ false)
plain_as x y e h = rw e h

-- neither `else` nor `finally` begins an item, an export or the end
items_plain : {xs : List Item} {d : ℕ} {exports : Bool} {i : Symbols} → Items xs d exports i → (is_else (lexeme_of i) ≡ false) × (is_finally (lexeme_of i) ≡ false)
items_plain (Items.over t is_t) = plain_as t.lexeme _ is_t (refl, refl)
items_plain (Items.item s xs d dx exports i r hs hxs) = plain_word (lexeme_of i) (item_native hs)
items_plain (Items.export a xs d dx e t u i k r is_t is_u ha ending hxs) = plain_as t.lexeme _ is_t (refl, refl)

-- an item that items follow is a whole one
pub whole_before : {s : Stmt} {d : ℕ} {i r : Symbols} {xs : List Item} {dx : ℕ} {exports : Bool} → IsItem s d i r → d ≤ max_depth → Items xs dx exports r → IsWholeItem s i r
whole_before {d = d} hs fits hxs = let plain = items_plain hxs in (d, hs, fits, plain.0, plain.1)

-- ---- what is exported

ended_by : (x : Lexeme) (broken on : Bool) → may_miss x broken on ≡ true → updates_here (update_of x) broken ≡ false
ended_by (Lexeme.mark mark.PlusPlus) true on h = refl
ended_by (Lexeme.mark mark.PlusPlus) false on h = absurd (never (sym h))
ended_by (Lexeme.mark mark.MinusMinus) true on h = refl
ended_by (Lexeme.mark mark.MinusMinus) false on h = absurd (never (sym h))
ended_by _ broken on h = refl

-- no `++` and no `--` stands where a statement ends
not_updated : (on : Bool) (i r : Symbols) → Ends on i r → updates_here (update_of (lexeme_of i)) (breaks i) ≡ false
not_updated on i r (Ends.written o t rest is_t) = rw is_t
not_updated on i r (Ends.missing o rest miss) = ended_by (lexeme_of i) (breaks i) on miss

-- what is exported is an expression without commas
pub exported : {a : Expr} {d : ℕ} {e : Bool} {i k r : Symbols} → Spells true 2 a d e i k → d ≤ max_depth → Ends (goes_on e k) k r → IsExpression true false a i k
exported {d = d} {e = e} {k = k} {r = r} ha fits ending = (d, e, ha, fits, omega (arith, stops e k r ending), not_updated (goes_on e k) k r ending)

end_of : (on : Bool) (k r : Symbols) → on ≡ false → semicolon k ≡ Some (tt, r) → Ends on k r
end_of on k r none found =
    semicolon_case on (λ u. pure u) k (tt, r) none (rw found) (λ j ending e. pure_case (λ u q. Ends on k q) e ending)

-- And an expression without commas may be exported, where no comma follows and a semicolon was read or passed over.
pub may_export : (a : Expr) (i k r : Symbols) → IsExpression true false a i k → sees mark.Comma (next_of k) ≡ false → semicolon k ≡ Some (tt, r)
    → (d : ℕ) × (e : Bool) × Spells true 2 a d e i k × (d ≤ max_depth) × Ends (goes_on e k) k r
may_export a i k r h unseen found =
    let quiet_k : goes_on h.1 k ≡ false = quiet h.1 k (only_comma true h.1 k h.4 unseen) in
    (h.0, h.1, h.2, h.3, end_of (goes_on h.1 k) k r quiet_k found)
