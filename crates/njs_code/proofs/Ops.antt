-- The steps of a test that goes over the operations of a function.
use Rattle.std.proofs.Common.{◌≡◌, ℕ, ◌+◌, ◌-◌, ◌<◌, ◌≤◌, true, false, ◌&&◌, List, [], ◌∷◌, length, drop, get_or, refl, ap, sym, ◌∙◌, length-drop, arith}
use Rattle.std.proofs.lemmas.List.{at_drop_more, at_drop_all}
use Rattle.njs_code.specs.declared.op.Op.{Op}
use Rattle.njs_code.specs.declared.code.FunctionCode.{FunctionCode}
use Rattle.njs_code.specs.Valid.{op_valid, ops_valid}

ops_first : (functions : List FunctionCode) (f : FunctionCode) (op : Op) (rest : List Op) → ops_valid functions f (op ∷ rest) ≡ (op_valid functions f (length rest + 1) op && ops_valid functions f rest)
unfolding ops_valid
ops_first functions f op rest = refl

ops_none : (functions : List FunctionCode) (f : FunctionCode) → ops_valid functions f [] ≡ true
unfolding ops_valid
ops_none functions f = refl

pub ops_more : (functions : List FunctionCode) (f : FunctionCode) (ops : List Op) (i : ℕ) (op : Op) → i < length ops → op ≡ get_or ops i op → ops_valid functions f (drop i ops) ≡ (op_valid functions f (length ops - i) op && ops_valid functions f (drop (i + 1) ops))
ops_more functions f ops i op h e =
    at_drop_more (ops_valid functions f) ops i op h
    ∙ ap (λ o. ops_valid functions f (o ∷ drop (i + 1) ops)) (sym e)
    ∙ ops_first functions f op (drop (i + 1) ops)
    ∙ ap (λ at. op_valid functions f at op && ops_valid functions f (drop (i + 1) ops)) (omega (arith, length-drop (i + 1) ops))

pub ops_all : (functions : List FunctionCode) (f : FunctionCode) (ops : List Op) (i : ℕ) → length ops ≤ i → ops_valid functions f (drop i ops) ≡ true
ops_all functions f ops i h = at_drop_all (ops_valid functions f) ops i h ∙ ops_none functions f

pub ops_stop : (functions : List FunctionCode) (f : FunctionCode) (ops : List Op) (i : ℕ) (op : Op) → i < length ops → op ≡ get_or ops i op → op_valid functions f (length ops - i) op ≡ false → ops_valid functions f (drop i ops) ≡ false
ops_stop functions f ops i op h e b =
    ops_more functions f ops i op h e ∙ ap (λ t. t && ops_valid functions f (drop (i + 1) ops)) b

pub ops_step : (functions : List FunctionCode) (f : FunctionCode) (ops : List Op) (i : ℕ) (op : Op) → i < length ops → op ≡ get_or ops i op → op_valid functions f (length ops - i) op ≡ true → ops_valid functions f (drop i ops) ≡ ops_valid functions f (drop (i + 1) ops)
ops_step functions f ops i op h e b =
    ops_more functions f ops i op h e ∙ ap (λ t. t && ops_valid functions f (drop (i + 1) ops)) b
