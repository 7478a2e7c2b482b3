use Rattle.std.proofs.Common.{sym, ap, ◌∙◌, length, map, ℤ, List}
use Rattle.std.specs.Option.{option_or}
use Rattle.std.proofs.lemmas.List.{length-map}
use Rattle.flac_frame.specs.Audio.{channels_fault}
use Rattle.flac_frame.proofs.Sounds.{by_format}
use Rattle.flac_frame.proofs.audio.fault_of.Goals as goal

pub returns-in-Some : goal.returns-in-Some
returns-in-Some c =
    let items : List (List ℤ) = map (λ v. v.items) c.args.channels.now in
    let is = by_format c.args.profile c.args.rate c.args.bits (length c.args.channels.now) items (sym (length-map c.args.channels.now (λ v. v.items))) in
    ap (λ o. option_or o (channels_fault c.args.bits items)) c.in-Some.ensures.fault ∙ sym is

pub returns : goal.returns
returns c =
    let items : List (List ℤ) = map (λ v. v.items) c.args.channels.now in
    let is = by_format c.args.profile c.args.rate c.args.bits (length c.args.channels.now) items (sym (length-map c.args.channels.now (λ v. v.items))) in
    c.channels_fault.ensures ∙ ap (λ o. option_or o (channels_fault c.args.bits items)) c.in_default.ensures.fault ∙ sym is
