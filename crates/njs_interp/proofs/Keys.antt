-- The name of a member.
use Rattle.std.proofs.Common.{◌≡◌, ℕ, List, Bool, true, false, Result, Ok, Err, sym, ap, ◌∙◌}
use Rattle.std.specs.Prelude.{if◌then◌else◌}
use Rattle.njs_value.specs.declared.Cause.TheVariants.{NullBase}
use Rattle.njs_value.specs.declared.TextId.{TextId}
use Rattle.njs_value.specs.declared.Value.{Value}
use Rattle.njs_clone.specs.Content.{content}
use Rattle.njs_meaning.specs.Values.{PlainValue}
use Rattle.njs_meaning.specs.State.{State, Outcome, Gives, Throws, Spent, Asks, and_then}
use Rattle.njs_meaning.specs.Running.{Context}
use Rattle.njs_meaning.specs.Errors.{throw}
use Rattle.njs_meaning.specs.Conversions.{to_text}
use Rattle.njs_meaning.specs.Members.{with_members}
use Rattle.njs_meaning.specs.References.{Reference, Member}
use Rattle.njs_meaning.specs.Meaning.{member_by}
use Rattle.njs_convert.specs.declared.stop.Stop.{Stop}
use Rattle.njs_convert.specs.declared.stop.Stop.TheVariants.{Throw, Fuel, NoMemory}
use Rattle.njs_convert.specs.Tells.{Tells, ShowsText}
use Rattle.njs_interp.specs.Asked.{ShowsMember}

abbrev named : PlainValue → List ℕ → State → Outcome Reference
named base name s = Gives (Member base name) s

abbrev after_base : Context → PlainValue → PlainValue → State → Outcome Reference
after_base x key base s = and_then (to_text x.calls.call key s) (named base)

-- the base has members
pub member_there : (x : Context) (base key : PlainValue) (b : Bool) (s : State) → with_members base (Gives base) s ≡ (if b then Gives base s else throw NullBase s) → b ≡ true
    → member_by base key x s ≡ and_then (to_text x.calls.call key s) (named base)
member_there x base key b s is there = ap (λ o. and_then o (after_base x key)) (is ∙ ap (λ c. if c then Gives base s else throw NullBase s) there)

-- it has none
pub member_missing : (x : Context) (base key : PlainValue) (b : Bool) (s : State) → with_members base (Gives base) s ≡ (if b then Gives base s else throw NullBase s) → b ≡ false → member_by base key x s ≡ throw NullBase s
member_missing x base key b s is none = ap (λ o. and_then o (after_base x key)) (is ∙ ap (λ c. if c then Gives base s else throw NullBase s) none)

-- the name is told, so the member is
pub name_tells : (stands stopped : State → Type 0) (texts : List (List ℕ)) (base : Value) (v : PlainValue) (r : Result TextId Stop) (o : Outcome (List ℕ)) → content texts base ≡ v
    → Tells stands stopped texts (ShowsText texts) r o → Tells stands stopped texts (ShowsMember texts base) r (and_then o (named v))
name_tells stands stopped texts base v (Ok t) (Gives name u) same tells = (ap (λ w. Member w name) (sym same) ∙ ap (Member (content texts base)) (sym tells.0), tells.1)
name_tells stands stopped texts base v (Ok t) (Throws w u) same tells = absurd tells
name_tells stands stopped texts base v (Ok t) (Spent u) same tells = absurd tells
name_tells stands stopped texts base v (Ok t) (Asks zone op u) same tells = absurd tells
name_tells stands stopped texts base v (Err (Throw w)) (Gives name u) same tells = absurd tells
name_tells stands stopped texts base v (Err (Throw w)) (Throws x u) same tells = tells
name_tells stands stopped texts base v (Err (Throw w)) (Spent u) same tells = absurd tells
name_tells stands stopped texts base v (Err (Throw w)) (Asks zone op u) same tells = absurd tells
name_tells stands stopped texts base v (Err Fuel) (Gives name u) same tells = absurd tells
name_tells stands stopped texts base v (Err Fuel) (Throws x u) same tells = absurd tells
name_tells stands stopped texts base v (Err Fuel) (Spent u) same tells = tells
name_tells stands stopped texts base v (Err Fuel) (Asks zone op u) same tells = absurd tells
name_tells stands stopped texts base v (Err NoMemory) (Gives name u) same tells = tells
name_tells stands stopped texts base v (Err NoMemory) (Throws x u) same tells = tells
name_tells stands stopped texts base v (Err NoMemory) (Spent u) same tells = tells
name_tells stands stopped texts base v (Err NoMemory) (Asks zone op u) same tells = tells
