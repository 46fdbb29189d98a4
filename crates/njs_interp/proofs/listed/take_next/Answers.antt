use Rattle.std.proofs.Common.{◌≡◌, ◌-◌, ◌<◌, suc, Some, length, refl, ap, sym, ◌∙◌, slice_get, arith}
use Rattle.std.proofs.lemmas.Option.{slice_get-get_or}
use Rattle.std.specs.Vec.{with_item}
use Rattle.njs_code.specs.Effects.{lists_needed}
use Rattle.njs_interp.proofs.NextNames.{name-taken}
use Rattle.njs_interp.proofs.listed.take_next.Goals as goal

pub overflow_sub-top : goal.overflow_sub-top
unfolding lists_needed
overflow_sub-top c =
    let needed : lists_needed c.args.at.now.op.now.kind ≡ 1 = ap lists_needed c.requires.kind in
    let counted = c.args.stacks.now.lists.ok.0 in
    omega (arith, needed, counted, c.requires.ready.lists, c.requires.ready.sits.lists, c.len-top.ensures)

pub index_mut-requires : goal.index_mut-requires
unfolding lists_needed
index_mut-requires c =
    let needed : lists_needed c.args.at.now.op.now.kind ≡ 1 = ap lists_needed c.requires.kind in
    let counted = c.args.stacks.now.lists.ok.0 in
    omega (arith, needed, counted, c.requires.ready.lists, c.requires.ready.sits.lists, c.len-top.ensures)

pub returns-clause-taken : goal.returns-clause-taken
unfolding lists_needed
returns-clause-taken c =
    let needed : lists_needed c.args.at.now.op.now.kind ≡ 1 = ap lists_needed c.requires.kind in
    let counted = c.args.stacks.now.lists.ok.0 in
    let before = c.args.stacks.now in
    let items = before.lists.items in
    let i = c.len-top.result - 1 in
    let within : i < length items = omega (arith, needed, counted, c.requires.ready.lists, c.requires.ready.sits.lists, c.len-top.ensures) in
    let count : length items ≡ suc i = omega (arith, needed, counted, c.requires.ready.lists, c.requires.ready.sits.lists, c.len-top.ensures) in
    let there : slice_get items i ≡ Some c.index_mut.result.now = slice_get-get_or items i c.index_mut.result.now within ∙ ap Some (sym c.index_mut.ensures.value) in
    name-taken before (record before { lists = with_item before.lists i c.take_name.new.listing }) c.take_name.result i c.index_mut.result.now c.take_name.new.listing refl count there refl
    c.take_name.ensures.value c.take_name.ensures.names c.take_name.ensures.next
