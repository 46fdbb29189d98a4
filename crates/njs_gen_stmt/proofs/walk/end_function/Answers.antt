use Rattle.std.proofs.Common.{◌≡◌, ◌+◌, ◌-◌, ◌∷◌, ◌++◌, length, take, nat_lt, ◌||◌, ap, arith, ◌∙◌}
use Rattle.std.specs.Prelude.{MatchResult}
use Rattle.std.proofs.lemmas.List.{length-append}
use Rattle.njs_tree.specs.declared.tree.FunctionTree.{out-FunctionTree}
use Rattle.njs_meaning.specs.Places.{Around, Bindings}
use Rattle.njs_gen_stmt.specs.Functions.{Refused, told_all}
use Rattle.njs_gen_stmt.specs.Statements.{in_turn, in_turn_uses}
use Rattle.njs_gen_stmt.specs.Walked.{found, IsUnbroken, unwritten, code_in}
use Rattle.njs_gen_stmt.proofs.FunctionEnds.{unbroken, code_reached, ended, places_used, known_code, is_in}
use Rattle.njs_gen_stmt.proofs.walk.end_function.Goals as goal

pub returns-clause-ended : goal.returns-clause-ended
returns-clause-ended c b own around start nested ds takes scopes places known inside slots size used h =
    let body = (out-FunctionTree c.args.f.now).body in
    let w = c.args.w.now in
    let v = c.put_made.new.w in
    let k = c.args.begun in
    let fs = b.functions ++ (unwritten ∷ nested) in
    let first = length b.functions in
    let all : Around = own ∷ around in
    let code = code_in c.args.f.now first ds takes all in
    let mine = ((in_turn_uses body).means start).places all in
    let stand : k.places.now ≡ mine ++ places = known.1 ∙ used in
    let count : c.saturating_sub-used.result ≡ length (mine ++ places) - length places =
    c.saturating_sub-used.ensures ∙ ap (λ l. length l - length w.places.now) stand ∙ ap (λ l. length (mine ++ places) - length l) h.1 in
    let taken : take c.saturating_sub-used.result k.places.now ≡ mine = ap (λ l. take c.saturating_sub-used.result l) stand ∙ places_used mine places c.saturating_sub-used.result count in
    let made : IsUnbroken w.fault → (k.number ≡ first) × MatchResult c.function_code-made.result (λ x. x ≡ code) (λ fault. Refused fault (length code.ops)) = λ going.
    let m = unbroken w.fault w (found fs ds takes scopes places) going h.3 in
    let long = length-append b.functions (unwritten ∷ nested) in
    let functions : c.len.result ≡ first + 1 + (in_turn body).size = c.len.ensures ∙ ap length m.0 ∙ omega (arith, long, size) in (
      (known.2 going).0,
      known_code c.args.f.now c.function_code-made.result first (told_all c.as_slice.result.now) ds w.names_arguments takes all (ap told_all c.as_slice.ensures ∙ m.1) m.2
          (c.function_code-made.ensures all first start (is_in own k.names.now around known.0 inside) (slots going) taken functions),
    ) in
    let put = c.put_made.ensures.put b.functions nested code made (code_reached w fs ds takes scopes places h) in
    ended w v b.functions nested code ds b.declared takes b.takes_arguments scopes places k.declared k.names_arguments c.either-w.result c.put_made.ensures.same h put
    (c.either-w.ensures ∙ ap (λ (ns : Bindings). v.crowded || nat_lt 65535 (length ns)) known.0)
    (λ going. let is = known.2 (c.put_made.ensures.stays going) in (is.1, is.2))
