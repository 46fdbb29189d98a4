use Rattle.std.proofs.Common.{◌≡◌, ◌-◌, ◌<◌, suc, Some, length, refl, ap, sym, ◌∙◌, slice_get, arith}
use Rattle.std.proofs.lemmas.Option.{slice_get-get_or}
use Rattle.std.specs.Vec.{with_item}
use Rattle.njs_code.specs.Effects.{lists_needed}
use Rattle.njs_shared.specs.Heap.{sizes}
use Rattle.njs_shared.specs.Fits.{FitsValue}
use Rattle.njs_interp.specs.declared.stacks.Listing.{Listing}
use Rattle.njs_interp.proofs.Kept.{all-at}
use Rattle.njs_interp.proofs.Skipping.{names-told}
use Rattle.njs_interp.proofs.lists.more_names.Goals as goal

pub overflow_sub-top : goal.overflow_sub-top
unfolding lists_needed
overflow_sub-top c =
    let needed : lists_needed c.args.at.now.op.now.kind ≡ 1 = ap lists_needed c.requires.kind in
    let counted = c.args.stacks.now.lists.ok.0 in
    omega (arith, needed, counted, c.requires.ready.lists, c.requires.ready.sits.lists, c.len-top.ensures)

pub index_mut-requires : goal.index_mut-requires
unfolding lists_needed
index_mut-requires c =
    let needed : lists_needed c.args.at.now.op.now.kind ≡ 1 = ap lists_needed c.requires.kind in
    let counted = c.args.stacks.now.lists.ok.0 in
    omega (arith, needed, counted, c.requires.ready.lists, c.requires.ready.sits.lists, c.len-top.ensures)

pub skip_listed-requires-clause-value : goal.skip_listed-requires-clause-value
unfolding lists_needed
skip_listed-requires-clause-value c =
    let needed : lists_needed c.args.at.now.op.now.kind ≡ 1 = ap lists_needed c.requires.kind in
    let counted = c.args.stacks.now.lists.ok.0 in
    let items = c.args.stacks.now.lists.items in
    let i = c.len-top.result - 1 in
    let within : i < length items = omega (arith, needed, counted, c.requires.ready.lists, c.requires.ready.sits.lists, c.len-top.ensures) in
    all-at (λ (l : Listing). FitsValue (sizes c.args.machine.now) l.value) items i c.index_mut.result.now c.requires.ready.sits.listed
    (slice_get-get_or items i c.index_mut.result.now within ∙ ap Some (sym c.index_mut.ensures.value))

pub returns-clause-told : goal.returns-clause-told
unfolding lists_needed
returns-clause-told c =
    let needed : lists_needed c.args.at.now.op.now.kind ≡ 1 = ap lists_needed c.requires.kind in
    let counted = c.args.stacks.now.lists.ok.0 in
    let before = c.args.stacks.now in
    let items = before.lists.items in
    let i = c.len-top.result - 1 in
    let within : i < length items = omega (arith, needed, counted, c.requires.ready.lists, c.requires.ready.sits.lists, c.len-top.ensures) in
    let count : length items ≡ suc i = omega (arith, needed, counted, c.requires.ready.lists, c.requires.ready.sits.lists, c.len-top.ensures) in
    let there : slice_get items i ≡ Some c.index_mut.result.now = slice_get-get_or items i c.index_mut.result.now within ∙ ap Some (sym c.index_mut.ensures.value) in
    names-told c.args.to c.args.machine.now before (record before { lists = with_item before.lists i c.skip_listed.new.listing }) refl i c.index_mut.result.now c.skip_listed.new.listing c.skip_listed.result count there refl
    c.skip_listed.ensures.value c.skip_listed.ensures.names c.skip_listed.ensures.more
