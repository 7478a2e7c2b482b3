use Rattle.std.proofs.Common.{None, refl, sym, subst}
use Rattle.flac_bits.specs.Bits.{bits_of}
use Rattle.flac_bits.specs.Handing.{by_grammar}
use Rattle.flac_bits.specs.declared.why.Why.TheVariants.{Truncated}
use Rattle.flac_native.specs.Stream.{grammar, opening}
use Rattle.flac_native.specs.Decoding.{beginning}
use Rattle.flac_reader.specs.Opening.{IsReadAs, Opens}
use Rattle.flac_reader.specs.declared.keep.Keep.TheVariants.{Tags}
use Rattle.test_library.specs.Onward.{ShowsFrames}
use Rattle.test_library.proofs.Onward.{info_is, cut_there, not_refused, shows}
use Rattle.test_library.proofs.reading_on.frame_with.Goals as goal

pub returns-in-Err : goal.returns-in-Err
returns-in-Err c = λ blocks frames info few is told other.
    let there = subst (λ b. IsReadAs (by_grammar grammar (opening c.args.profile) (beginning Truncated) (bits_of b)) blocks frames None) (sym c.new.ensures) is in
    not_refused blocks frames info c.in-Err.refused.fault told (c.in-Err.ensures.refused.refused refl refl refl other blocks frames None there)

pub returns-in-Err-seek_in : goal.returns-in-Err-seek_in
returns-in-Err-seek_in c = λ blocks frames info few is told.
    let reader = c.in-Ok.reader in
    let opens = subst (λ b. Opens (by_grammar grammar (opening c.args.profile) (beginning Truncated) (bits_of b)) Tags reader) c.new.ensures (c.in-Ok.ensures.opens refl) in
    c.in-Err-seek_in.ensures.whole frames (cut_there c.args.profile c.args.stream.now reader c.args.sample blocks frames info c.streams_are_cut.ensures.start few opens is told)

pub returns : goal.returns
returns c = λ blocks frames info few is told.
    let reader = c.in-Ok.reader in
    let opens = subst (λ b. Opens (by_grammar grammar (opening c.args.profile) (beginning Truncated) (bits_of b)) Tags reader) c.new.ensures (c.in-Ok.ensures.opens refl) in
    let same = info_is (by_grammar grammar (opening c.args.profile) (beginning Truncated) (bits_of c.args.stream.now)) reader blocks frames info opens is told in
    let sought = c.in-Ok-seek_in.ensures in
    let finds = sought.whole frames (cut_there c.args.profile c.args.stream.now reader c.args.sample blocks frames info c.streams_are_cut.ensures.start few opens is told) in
    subst (λ i. ShowsFrames i c.args.sample frames c.next_frame.result) (sym same)
    (shows reader.info c.args.sample frames c.in-Ok-seek_in.reader c.next_frame.result finds sought.ahead sought.first.1 (c.next_frame.ensures sought.ahead))
