use Rattle.std.proofs.Common.{◌≡◌, ◌∷◌, [], length, reverse, sym, ap, ◌∙◌, subst, refl, Err}
use Rattle.std.proofs.lemmas.List.{length-reverse}
use Rattle.njs_shared.specs.Heap.{sizes}
use Rattle.njs_shared.specs.Fits.{FitsValue}
use Rattle.njs_clone.specs.Content.{content}
use Rattle.njs_code.specs.declared.op.Kind.TheVariants as kind
use Rattle.njs_meaning.specs.Members.{names_in}
use Rattle.njs_simul.specs.Step.{act}
use Rattle.njs_convert.specs.declared.stop.Stop.TheVariants.{NoMemory}
use Rattle.njs_interp.specs.declared.stacks.Stacks.{Stacks}
use Rattle.njs_interp.specs.Plain.{plain_stacks}
use Rattle.njs_interp.specs.Acts.{Acts}
use Rattle.njs_interp.proofs.AskedFinish.{with_taken}
use Rattle.njs_interp.proofs.AskedLists.{list_names_takes, list_left, listed, list_is, list_unlisted, list_spent, list_added}
use Rattle.njs_interp.proofs.asking.list_names.Goals as goal

pub take-value-requires-clause-takes : goal.take-value-requires-clause-takes
take-value-requires-clause-takes g c = list_names_takes c.args.at.now.op.now.kind c.requires.kind

pub returns-in-Err-clause-told : goal.returns-in-Err-clause-told
returns-in-Err-clause-told g c = λ known. record {
  by = λ calls frame code rest s f agrees same stands.
      let h = c.args.machine.now in
      let before = c.take-value.new.stacks in
      let v = c.take-value.result in
      let caller = c.args.caller.now in
      let stopped = g.C.Caller.stopped caller known in
      let names = names_in (content h.texts v) s.objects in
      let is : act frame code kind.ListNames rest (plain_stacks h.texts c.args.stacks.now) s ≡ listed h.texts before (content h.texts v) rest (with_taken h.texts before (v ∷ [])) (length names) names s =
      ap (λ (m : Stacks). act frame code kind.ListNames rest (plain_stacks h.texts m) s) c.take-value.ensures.is ∙ list_is frame code rest h.texts before v s
      in
      subst (Acts (g.C.Runner.holds caller known h) stopped h.texts rest (plain_stacks h.texts before) (Err NoMemory)) (sym is)
      (list_unlisted h.texts before (content h.texts v) rest (with_taken h.texts before (v ∷ [])) (length names) names s stopped (g.met.C.Caller.stopped_as caller known) (g.met.C.Caller.stops caller known h s stands));
}

pub returns-in-Err-charge-clause-told : goal.returns-in-Err-charge-clause-told
returns-in-Err-charge-clause-told g c = λ known. record {
  by = λ calls frame code rest s f agrees same stands.
      let h = c.args.machine.now in
      let before = c.take-value.new.stacks in
      let v = c.take-value.result in
      let caller = c.charge.new.self in
      let stopped = g.C.Caller.stopped caller known in
      let names = names_in (content h.texts v) s.objects in
      let objects = g.met.C.Caller.objects_are c.args.caller.now known h s stands in
      let named : reverse c.in-Ok.listing.names.items ≡ names = c.in-Ok.ensures.names ∙ ap (names_in (content h.texts v)) (sym objects) in
      let len : c.len.result ≡ length c.in-Ok.listing.names.items = cc in
      let count : c.len.result ≡ length names = len ∙ sym (length-reverse c.in-Ok.listing.names.items) ∙ ap length named in
      let is : act frame code kind.ListNames rest (plain_stacks h.texts c.args.stacks.now) s ≡ listed h.texts before (content h.texts v) rest (with_taken h.texts before (v ∷ [])) c.len.result names s =
      ap (λ (m : Stacks). act frame code kind.ListNames rest (plain_stacks h.texts m) s) c.take-value.ensures.is ∙ list_is frame code rest h.texts before v s
      ∙ ap (λ n. listed h.texts before (content h.texts v) rest (with_taken h.texts before (v ∷ [])) n names s) (sym count)
      in
      subst (Acts (g.C.Runner.holds caller known h) stopped h.texts rest (plain_stacks h.texts before) (Err c.in-Err-charge.stop)) (sym is)
      (list_spent h.texts before (content h.texts v) rest (with_taken h.texts before (v ∷ [])) c.len.result names s (g.C.Runner.holds caller known h) stopped (plain_stacks h.texts before)
      (g.C.Caller.ticks_of c.args.caller.now) (g.C.Caller.ticks_of caller) c.in-Err-charge.stop (g.met.C.Caller.ticks_are c.args.caller.now known h s stands) (Err c.in-Err-charge.stop) refl c.in-Err-charge.ensures.err
      (g.met.C.Runner.holds_of caller known h _ (c.charge.ensures.stands known h s stands)));
}

pub returns-in-Ok-charge-clause-told : goal.returns-in-Ok-charge-clause-told
returns-in-Ok-charge-clause-told g c = λ known. record {
  by = λ calls frame code rest s f agrees same stands.
      let h = c.args.machine.now in
      let before = c.take-value.new.stacks in
      let after = c.push_list.new.stacks in
      let v = c.take-value.result in
      let caller = c.charge.new.self in
      let stopped = g.C.Caller.stopped caller known in
      let names = names_in (content h.texts v) s.objects in
      let objects = g.met.C.Caller.objects_are c.args.caller.now known h s stands in
      let named : reverse c.in-Ok.listing.names.items ≡ names = c.in-Ok.ensures.names ∙ ap (names_in (content h.texts v)) (sym objects) in
      let len : c.len.result ≡ length c.in-Ok.listing.names.items = cc in
      let count : c.len.result ≡ length names = len ∙ sym (length-reverse c.in-Ok.listing.names.items) ∙ ap length named in
      let is : act frame code kind.ListNames rest (plain_stacks h.texts c.args.stacks.now) s ≡ listed h.texts before (content h.texts v) rest (with_taken h.texts before (v ∷ [])) c.len.result names s =
      ap (λ (m : Stacks). act frame code kind.ListNames rest (plain_stacks h.texts m) s) c.take-value.ensures.is ∙ list_is frame code rest h.texts before v s
      ∙ ap (λ n. listed h.texts before (content h.texts v) rest (with_taken h.texts before (v ∷ [])) n names s) (sym count)
      in
      let here = c.charge.ensures.stands known h s stands in
      subst (Acts (g.C.Runner.holds caller known h) stopped h.texts rest (plain_stacks h.texts after) c.push_list.result) (sym is)
      (list_added h.texts before (content h.texts v) rest (with_taken h.texts before (v ∷ [])) c.len.result names s (g.C.Runner.holds caller known h) stopped after c.in-Ok.listing
      (g.C.Caller.ticks_of c.args.caller.now) (g.C.Caller.ticks_of caller) c.push_list.result (g.met.C.Caller.ticks_are c.args.caller.now known h s stands) c.in-Ok-charge.ensures.ok.0 c.in-Ok-charge.ensures.ok.1
      (ap (content h.texts) c.in-Ok.ensures.value) named c.push_list.ensures
      (g.met.C.Runner.holds_of caller known h _ here) (g.met.C.Caller.stops caller known h _ here));
}

pub returns-in-Ok-charge-clause-leaves : goal.returns-in-Ok-charge-clause-leaves
returns-in-Ok-charge-clause-leaves g c =
    let h = c.args.machine.now in
    let fits : FitsValue (sizes h) c.in-Ok.listing.value = subst (FitsValue (sizes h)) (sym c.in-Ok.ensures.value) c.take-value.ensures.fits.0 in
    list_left c.args.at.now.function.now c.args.at.now.op.now h c.take-value.new.stacks c.push_list.new.stacks c.in-Ok.listing c.push_list.result c.requires.kind c.take-value.ensures.sits fits c.push_list.ensures
