use Rattle.std.proofs.Common.{◌≡◌, map, [], List, ap, sym, subst, ◌∙◌}
use Rattle.dict_model.specs.declared.operation.ZoneSpec.{ZoneSpec}
use Rattle.dict_pass.specs.Callers.{IsOfNumbers, opened, spec_of, specs_of}
use Rattle.dict_pass.proofs.Opening.{zones_opened, ends_alike}
use Rattle.dict_pass.proofs.tests.learn_in.Goals as goal

pub learn_and_get-requires : goal.learn_and_get-requires
learn_and_get-requires g c =
    let zs = c.in-Ok.ensures.zones in
    let is : c.last-main.result ≡ map (opened 0 1) zs = (ends_alike c.last-main.new.list.items [] c.last-main.result (map (opened 0 1) zs) (sym c.last-main.ensures ∙ c.in-Ok.ensures.all)).1 in
    let specs : specs_of c.last-main.result ≡ c.args.zones.now = ap specs_of is ∙ ap (map spec_of) (zones_opened 0 1 zs) ∙ c.in-Ok.ensures.over in
    subst (λ (l : List ZoneSpec). IsOfNumbers l 0) (sym specs) c.requires
