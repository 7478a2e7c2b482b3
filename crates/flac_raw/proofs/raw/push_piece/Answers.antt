use Rattle.std.proofs.Common.{◌≡◌, ◌+◌, length, map, get_or, subst, sym, arith, ℕ, ℤ, List, [], Vec, Global}
use Rattle.std.proofs.lemmas.List.{map-set, get_or-map}
use Rattle.flac_raw.proofs.Rows.{HalfMore, half_none, half_more, half_all}
use Rattle.flac_raw.proofs.raw.push_piece.Goals as goal

pub loop-channel-init : goal.loop-channel-init
loop-channel-init c = λ bytes before long are. half_none bytes c.args.piece.now before c.args.count (length c.args.lists.now) c.args.width (map (λ v. v.items) c.args.lists.now) are

pub returns-clause-more : goal.returns-clause-more
returns-clause-more c = λ bytes before long are.
    half_all bytes c.args.piece.now before c.args.count (length c.args.lists.now) c.args.width c.loop-channel.channel (map (λ v. v.items) c.loop-channel.lists) (c.loop-channel.invariant bytes before long are) (omega arith)

pub loop-channel-preserved : goal.loop-channel-preserved
loop-channel-preserved c = λ bytes before long are.
    let items : Vec ℤ Global → List ℤ = λ v. v.items in
    let lists = c.loop-channel.lists in
    let channel = c.loop-channel.channel in
    let count : ℕ = length c.args.lists.now in
    let x = c.index-lists-channel.result in
    let many : length lists ≡ count = omega (arith, c.loop-channel.auto.lists) in
    let is : items (get_or lists channel x) ≡ get_or (map items lists) channel [] = sym (get_or-map items lists channel x [] (omega (arith, c.loop-channel-test.true, many))) in
    subst (HalfMore bytes c.args.piece.now before c.args.count count c.args.width (channel + 1)) (sym (map-set items lists channel c.push_samples.new.samples))
    (half_more bytes c.args.piece.now before c.args.count count c.args.width channel (map items lists) (items (get_or lists channel x)) (items c.push_samples.new.samples) long (c.loop-channel.invariant bytes before long are) (omega (arith, c.loop-channel-test.true)) is c.in_ok-push_samples.ensures.more)
