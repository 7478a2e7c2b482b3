use Rattle.std.proofs.Common.{arith, ◌≡◌, ◌≤◌, ◌∙◌, ◌^◌, ap, sym, length, take}
use Rattle.std.proofs.lemmas.List.{with_items_is}
use Rattle.std.specs.Vec.{with_items}
use Rattle.flac_subframe.proofs.lemmas.format.Made.{made_of_fewer}
use Rattle.flac_subframe.proofs.lemmas.search.Places.{power_le}
use Rattle.flac_subframe.proofs.lemmas.search.Ways.{made_valid, made_restored}
use Rattle.flac_subframe.proofs.search.wide_choice.choose_in.Goals as goal

pub choose_in_places-found-requires-clause-costs : goal.choose_in_places-found-requires-clause-costs
choose_in_places-found-requires-clause-costs c =
    omega (arith, power_le c.args.limits.now.partition c.workspace.inside.most (rw (← c.workspace.view_is) at c.requires.partition), c.workspace.invariant.costs, c.deref_mut-4.ensures.len)

pub choose_in_places-found-requires-clause-entries : goal.choose_in_places-found-requires-clause-entries
choose_in_places-found-requires-clause-entries c =
    omega (arith, power_le c.args.limits.now.partition c.workspace.inside.most (rw (← c.workspace.view_is) at c.requires.partition), c.workspace.invariant.entries, c.deref_mut-5.ensures.len)

pub choose_in_places-found-requires-clause-bytes : goal.choose_in_places-found-requires-clause-bytes
choose_in_places-found-requires-clause-bytes c =
    omega (arith, power_le c.args.limits.now.partition c.workspace.inside.most (rw (← c.workspace.view_is) at c.requires.partition), c.workspace.invariant.bytes, c.deref_mut-6.ensures.len)

pub power-count-requires : goal.power-count-requires
power-count-requires c =
    let few : c.args.limits.now.partition ≤ 15 = omega (arith, rw (← c.workspace.view_is) at c.requires.partition, c.workspace.invariant.most) in
    omega (arith, c.choose_in_places-found.ensures.within, few)

pub copy_first-requires-clause-some : goal.copy_first-requires-clause-some
copy_first-requires-clause-some c =
    let found = c.choose_in_places-found in
    let back : (with_items c.workspace.inside.bytes found.new.bytes).items ≡ found.new.bytes = with_items_is c.workspace.inside.bytes found.new.bytes (found.auto.bytes ∙ ap length c.deref_mut-6.ensures.value ∙ sym c.workspace.inside.bytes.ok.0) in
    let lent : c.deref.result.now ≡ found.new.bytes = c.deref.ensures.value ∙ back in
    let within : found.result.form.residual.partition_order ≤ c.workspace.inside.most = omega (arith, found.ensures.within, rw (← c.workspace.view_is) at c.requires.partition) in
    rw (lent, c.power-count.ensures) (omega (arith, power_le found.result.form.residual.partition_order c.workspace.inside.most within, c.workspace.invariant.bytes, c.deref_mut-6.ensures.len, found.auto.bytes))

pub copy_first-requires-clause-room : goal.copy_first-requires-clause-room
copy_first-requires-clause-room c =
    let found = c.choose_in_places-found in
    rw c.power-count.ensures (omega (arith, power_le found.result.form.residual.partition_order c.args.limits.now.partition found.ensures.within, c.requires.places, c.deref_mut-7.ensures.len))

pub returns-clause-least : goal.returns-clause-least
returns-clause-least c =
    let found = c.choose_in_places-found in
    let back : (with_items c.workspace.inside.bytes found.new.bytes).items ≡ found.new.bytes = with_items_is c.workspace.inside.bytes found.new.bytes (found.auto.bytes ∙ ap length c.deref_mut-6.ensures.value ∙ sym c.workspace.inside.bytes.ok.0) in
    let lent : c.deref.result.now ≡ found.new.bytes = c.deref.ensures.value ∙ back in
    let kept : (with_items c.args.choice.now.codings c.copy_first.new.places).items ≡ c.copy_first.new.places =
    with_items_is c.args.choice.now.codings c.copy_first.new.places (c.copy_first.auto.places ∙ ap length c.deref_mut-7.ensures.value ∙ sym c.args.choice.now.codings.ok.0) in
    let same = rw (lent, c.power-count.ensures) at c.copy_first.ensures in
    rw (kept, same) found.ensures.least

pub returns-clause-bits : goal.returns-clause-bits
returns-clause-bits c =
    let found = c.choose_in_places-found in
    let back : (with_items c.workspace.inside.bytes found.new.bytes).items ≡ found.new.bytes = with_items_is c.workspace.inside.bytes found.new.bytes (found.auto.bytes ∙ ap length c.deref_mut-6.ensures.value ∙ sym c.workspace.inside.bytes.ok.0) in
    let lent : c.deref.result.now ≡ found.new.bytes = c.deref.ensures.value ∙ back in
    let kept : (with_items c.args.choice.now.codings c.copy_first.new.places).items ≡ c.copy_first.new.places =
    with_items_is c.args.choice.now.codings c.copy_first.new.places (c.copy_first.auto.places ∙ ap length c.deref_mut-7.ensures.value ∙ sym c.args.choice.now.codings.ok.0) in
    let same = rw (lent, c.power-count.ensures) at c.copy_first.ensures in
    rw (kept, same) found.ensures.bits

pub returns-clause-made : goal.returns-clause-made
returns-clause-made c =
    let found = c.choose_in_places-found in
    let back : (with_items c.workspace.inside.bytes found.new.bytes).items ≡ found.new.bytes = with_items_is c.workspace.inside.bytes found.new.bytes (found.auto.bytes ∙ ap length c.deref_mut-6.ensures.value ∙ sym c.workspace.inside.bytes.ok.0) in
    let lent : c.deref.result.now ≡ found.new.bytes = c.deref.ensures.value ∙ back in
    let kept : (with_items c.args.choice.now.codings c.copy_first.new.places).items ≡ c.copy_first.new.places =
    with_items_is c.args.choice.now.codings c.copy_first.new.places (c.copy_first.auto.places ∙ ap length c.deref_mut-7.ensures.value ∙ sym c.args.choice.now.codings.ok.0) in
    let same = rw (lent, c.power-count.ensures) at c.copy_first.ensures in
    let few : c.args.limits.now.partition ≤ 15 = omega (arith, rw (← c.workspace.view_is) at c.requires.partition, c.workspace.invariant.most) in
    record {
      made = rw (kept, same) (made_of_fewer c.args.limits.now.partition 15 c.args.predictors.now found.result.form (take (2 ^ found.result.form.residual.partition_order) found.new.bytes) c.args.samples.now few found.ensures.made);
      few = omega (arith, found.ensures.within, few);
      places = rw kept (omega (arith, power_le found.result.form.residual.partition_order c.args.limits.now.partition found.ensures.within, c.requires.places, c.args.choice.now.codings.ok.0, c.copy_first.auto.places, ap length c.deref_mut-7.ensures.value));
    }

pub returns-clause-valid : goal.returns-clause-valid
returns-clause-valid c =
    let found = c.choose_in_places-found in
    let back : (with_items c.workspace.inside.bytes found.new.bytes).items ≡ found.new.bytes = with_items_is c.workspace.inside.bytes found.new.bytes (found.auto.bytes ∙ ap length c.deref_mut-6.ensures.value ∙ sym c.workspace.inside.bytes.ok.0) in
    let lent : c.deref.result.now ≡ found.new.bytes = c.deref.ensures.value ∙ back in
    let kept : (with_items c.args.choice.now.codings c.copy_first.new.places).items ≡ c.copy_first.new.places =
    with_items_is c.args.choice.now.codings c.copy_first.new.places (c.copy_first.auto.places ∙ ap length c.deref_mut-7.ensures.value ∙ sym c.args.choice.now.codings.ok.0) in
    let same = rw (lent, c.power-count.ensures) at c.copy_first.ensures in
    let few : c.args.limits.now.partition ≤ 15 = omega (arith, rw (← c.workspace.view_is) at c.requires.partition, c.workspace.invariant.most) in
    rw (kept, same) (made_valid c.args.limits.now.partition c.args.depth c.args.predictors.now found.result.form (take (2 ^ found.result.form.residual.partition_order) found.new.bytes) c.args.samples.now found.ensures.made found.ensures.some c.requires.fits few c.requires.some)

pub returns-clause-restored : goal.returns-clause-restored
returns-clause-restored c =
    let found = c.choose_in_places-found in
    let back : (with_items c.workspace.inside.bytes found.new.bytes).items ≡ found.new.bytes = with_items_is c.workspace.inside.bytes found.new.bytes (found.auto.bytes ∙ ap length c.deref_mut-6.ensures.value ∙ sym c.workspace.inside.bytes.ok.0) in
    let lent : c.deref.result.now ≡ found.new.bytes = c.deref.ensures.value ∙ back in
    let kept : (with_items c.args.choice.now.codings c.copy_first.new.places).items ≡ c.copy_first.new.places =
    with_items_is c.args.choice.now.codings c.copy_first.new.places (c.copy_first.auto.places ∙ ap length c.deref_mut-7.ensures.value ∙ sym c.args.choice.now.codings.ok.0) in
    let same = rw (lent, c.power-count.ensures) at c.copy_first.ensures in
    rw (kept, same) (made_restored c.args.limits.now.partition c.args.depth c.args.predictors.now found.result.form (take (2 ^ found.result.form.residual.partition_order) found.new.bytes) c.args.samples.now found.ensures.made found.ensures.some c.requires.fits)
