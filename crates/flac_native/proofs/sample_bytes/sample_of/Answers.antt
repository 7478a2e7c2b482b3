use Rattle.std.proofs.Common.{rules, w32, ◌≡◌, map, List, ℤ, pos, slice_index_or, ap, sym, ◌∙◌, [], Vec, Global}
use Rattle.std.proofs.lemmas.Int.{to_z-of_z}
use Rattle.std.proofs.lemmas.List.{get_or-map}
use Rattle.flac_native.proofs.sample_bytes.sample_of.Goals as goal

pub returns : goal.returns
returns c =
    let vecs = c.args.channels.now in
    let items : Vec ℤ Global → List ℤ = λ v. v.items in
    let here : c.deref.result.now ≡ slice_index_or (map items vecs) c.args.channel [] = c.deref.ensures.value ∙ ap items c.index-channels-channel.is ∙ sym (get_or-map items vecs c.args.channel c.index-channels-channel.result [] c.requires) in
    to_z-of_z w32 c.sample_or_zero.result (search rules) ∙ c.sample_or_zero.ensures ∙ ap (λ l. slice_index_or l c.args.index (pos 0)) here
