-- What expressions are before their values are asked, each name with its place.
use Rattle.std.specs.Prelude.{◌≡◌, ℕ, ◌+◌}
use Rattle.njs_tree.specs.declared.tree.UnaryOp.{UnaryOp}
use Rattle.njs_tree.specs.declared.tree.UnaryOp.TheVariants as sign
use Rattle.njs_code.specs.declared.op.Kind.TheVariants as kind
use Rattle.njs_meaning.specs.Places.{Around, place_in}
use Rattle.njs_simul.specs.Emission.{Form, IsValue, IsName, IsMember, Emits, op, deeper, fetch, fetch_size, delete_at, delete_size, type_of, type_size}
use Rattle.njs_gen_expr.specs.declared.reference.Reference.{Reference}
use Rattle.njs_gen_expr.specs.declared.reference.Reference.TheVariants.{Value, Name, Member}

abbrev pub form_of : Reference → Form
form_of Value = IsValue
form_of (Name text place) = IsName text.now
form_of Member = IsMember

-- the name is at its place in the scopes around
abbrev pub IsPlaced : Reference → Around → Type 0
IsPlaced Value names = Unit {0}
IsPlaced (Name text place) names = place ≡ place_in text.now names
IsPlaced Member names = Unit {0}

-- an operator of one value behind its operand, whose value is not asked yet
abbrev pub operator_count : UnaryOp → Form → ℕ
operator_count sign.Delete form = delete_size form
operator_count sign.TypeOf form = type_size form
operator_count f form = fetch_size form + 1

abbrev pub operator_emits : UnaryOp → Form → Emits
operator_emits sign.Delete form = delete_at form
operator_emits sign.TypeOf form = type_of form
operator_emits f form = λ here rest. fetch form here (op (kind.Unary f) (deeper 1 here) rest)
