use Rattle.std.proofs.Common.{arith, ◌^◌, ◌≤◌, take}
use Rattle.flac_subframe.proofs.lemmas.format.Made.{made_of_fewer}
use Rattle.flac_subframe.proofs.lemmas.search.Places.{power_le}
use Rattle.flac_subframe.proofs.lemmas.search.Ways.{made_valid, made_restored}
use Rattle.flac_subframe.proofs.search.chosen.choose_with.Goals as goal

pub choose_in_places-found-requires-clause-longs : goal.choose_in_places-found-requires-clause-longs
choose_in_places-found-requires-clause-longs c = omega (arith, c.requires.few)

pub choose_in_places-found-requires-clause-shorts : goal.choose_in_places-found-requires-clause-shorts
choose_in_places-found-requires-clause-shorts c = omega (arith, c.requires.few)

pub choose_in_places-found-requires-clause-folds : goal.choose_in_places-found-requires-clause-folds
choose_in_places-found-requires-clause-folds c = omega (arith, c.requires.few)

pub choose_in_places-found-requires-clause-costs : goal.choose_in_places-found-requires-clause-costs
choose_in_places-found-requires-clause-costs c = omega (arith, power_le c.args.limits.now.partition 8 c.requires.partition)

pub choose_in_places-found-requires-clause-entries : goal.choose_in_places-found-requires-clause-entries
choose_in_places-found-requires-clause-entries c = omega (arith, power_le c.args.limits.now.partition 8 c.requires.partition)

pub choose_in_places-found-requires-clause-bytes : goal.choose_in_places-found-requires-clause-bytes
choose_in_places-found-requires-clause-bytes c = omega (arith, power_le c.args.limits.now.partition 8 c.requires.partition)

pub gathered-requires-clause-places : goal.gathered-requires-clause-places
gathered-requires-clause-places c =
    let found = c.choose_in_places-found in
    omega (arith, power_le found.result.form.residual.partition_order c.args.limits.now.partition found.ensures.within, power_le c.args.limits.now.partition 8 c.requires.partition, found.auto.bytes)

pub returns-clause-least : goal.returns-clause-least
returns-clause-least c = let new = c.gathered.ensures in rw (new.form, new.codings) c.choose_in_places-found.ensures.least

pub returns-clause-bits : goal.returns-clause-bits
returns-clause-bits c = let new = c.gathered.ensures in rw (new.form, new.codings, new.bits) c.choose_in_places-found.ensures.bits

pub returns-clause-made : goal.returns-clause-made
returns-clause-made c =
    let found = c.choose_in_places-found in
    let new = c.gathered.ensures in
    rw (new.form, new.codings) (made_of_fewer c.args.limits.now.partition 8 c.args.predictors.now found.result.form (take (2 ^ found.result.form.residual.partition_order) found.new.bytes) c.args.samples.now c.requires.partition found.ensures.made)

pub returns-clause-valid : goal.returns-clause-valid
returns-clause-valid c =
    let found = c.choose_in_places-found in
    let new = c.gathered.ensures in
    let few : c.args.limits.now.partition ≤ 15 = omega (arith, c.requires.partition) in
    rw (new.form, new.codings) (made_valid c.args.limits.now.partition c.args.depth c.args.predictors.now found.result.form (take (2 ^ found.result.form.residual.partition_order) found.new.bytes) c.args.samples.now found.ensures.made found.ensures.some c.requires.fits few c.requires.some)

pub returns-clause-restored : goal.returns-clause-restored
returns-clause-restored c =
    let found = c.choose_in_places-found in
    let new = c.gathered.ensures in
    rw (new.form, new.codings) (made_restored c.args.limits.now.partition c.args.depth c.args.predictors.now found.result.form (take (2 ^ found.result.form.residual.partition_order) found.new.bytes) c.args.samples.now found.ensures.made found.ensures.some c.requires.fits)
