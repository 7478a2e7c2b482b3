use Rattle.std.proofs.Common.{ℕ, List, ◌∙◌, ap, codes}
use Rattle.flac_json.specs.Json.{number, text, Members, member, no_members, more_members}
use Rattle.flac_json.specs.Blocks.{info_members}
use Rattle.flac_json.specs.Texts.{all_digits}
use Rattle.flac_json.proofs.Pushed.{ok_same}
use Rattle.flac_json.proofs.blocks.push_info.Goals as goal

abbrev members_of : (a b c d rate channels depth total : ℕ) (digest : List ℕ) → Members
members_of a b c d rate channels depth total digest =
    member (codes "min_block_size") (number a) (member (codes "max_block_size") (number b)
    (member (codes "min_frame_size") (number c) (member (codes "max_frame_size") (number d)
    (member (codes "rate") (number rate) (member (codes "channels") (number channels) (member (codes "depth") (number depth)
    (member (codes "samples") (number total) (member (codes "md5") (text (all_digits digest)) no_members))))))))

pub returns : goal.returns
returns c =
    let i = c.args.info.now in
    let a = c.from.ensures ∙ c.least_block.ensures.value in
    let b = c.from-2.ensures ∙ c.greatest_block.ensures.value in
    let k = c.from-3.ensures ∙ c.least_frame.ensures.value in
    let d = c.from-4.ensures ∙ c.greatest_frame.ensures.value in
    let rate = c.from-5.ensures ∙ c.rate.ensures.value in
    let channels = c.from-6.ensures ∙ c.channels.ensures.value in
    let depth = c.from-7.ensures ∙ c.depth.ensures.value in
    ok_same c.push_more.result c.args.text.now.items c.push_more.new.text.items
    (more_members (members_of c.from.result c.from-2.result c.from-3.result c.from-4.result c.from-5.result c.from-6.result c.from-7.result c.total.result c.digest-digest.result)) (more_members (info_members i))
    c.push_more.ensures
    (ap (λ n. more_members (members_of n c.from-2.result c.from-3.result c.from-4.result c.from-5.result c.from-6.result c.from-7.result c.total.result c.digest-digest.result)) a
    ∙ ap (λ n. more_members (members_of i.least_block n c.from-3.result c.from-4.result c.from-5.result c.from-6.result c.from-7.result c.total.result c.digest-digest.result)) b
    ∙ ap (λ n. more_members (members_of i.least_block i.greatest_block n c.from-4.result c.from-5.result c.from-6.result c.from-7.result c.total.result c.digest-digest.result)) k
    ∙ ap (λ n. more_members (members_of i.least_block i.greatest_block i.least_frame n c.from-5.result c.from-6.result c.from-7.result c.total.result c.digest-digest.result)) d
    ∙ ap (λ n. more_members (members_of i.least_block i.greatest_block i.least_frame i.greatest_frame n c.from-6.result c.from-7.result c.total.result c.digest-digest.result)) rate
    ∙ ap (λ n. more_members (members_of i.least_block i.greatest_block i.least_frame i.greatest_frame i.rate n c.from-7.result c.total.result c.digest-digest.result)) channels
    ∙ ap (λ n. more_members (members_of i.least_block i.greatest_block i.least_frame i.greatest_frame i.rate i.channels n c.total.result c.digest-digest.result)) depth
    ∙ ap (λ n. more_members (members_of i.least_block i.greatest_block i.least_frame i.greatest_frame i.rate i.channels i.depth n c.digest-digest.result)) c.total.ensures.value
    ∙ ap (λ l. more_members (members_of i.least_block i.greatest_block i.least_frame i.greatest_frame i.rate i.channels i.depth i.total l)) c.digest-digest.ensures.value)
