use Rattle.std.proofs.Common.{◌≡◌, [], drop, refl, sym, ap, subst, ◌∙◌}
use Rattle.flac_bits.specs.Bits.{bits_of}
use Rattle.flac_bits.specs.Handing.{by_grammar}
use Rattle.flac_bits.specs.declared.why.Why.TheVariants.{Truncated}
use Rattle.flac_native.specs.Stream.{grammar}
use Rattle.flac_native.specs.Decoding.{beginning}
use Rattle.flac_native.specs.Resuming.{resumed}
use Rattle.flac_reader.specs.Kept.{first_points}
use Rattle.flac_reader.specs.Opening.{IsReadAs}
use Rattle.flac_reader.specs.Seeking.{offset_before}
use Rattle.flac_reader.proofs.sought.Reader+BitReader+R.seek.Goals as goal

pub returns-in-Ok-clause-found : goal.returns-in-Ok-clause-found
returns-in-Ok-clause-found g c = λ frames end is.
    let bytes : c.new-source.result.bytes.now ≡ drop (offset_before c.args.sample (first_points c.args.self.blocks.items)) c.args.frames.now =
    c.new-source.ensures ∙ c.bytes_from.ensures ∙ ap (λ n. drop n c.args.frames.now) c.offset_before-offset.ensures in
    c.in-Ok.ensures.found refl frames end (subst (λ b. IsReadAs (by_grammar grammar (resumed c.args.profile c.args.self.info) (beginning Truncated) (bits_of b)) [] frames end) (sym bytes) is)

pub returns-in-Err-clause-found : goal.returns-in-Err-clause-found
returns-in-Err-clause-found g c = λ other frames end is.
    let bytes : c.new-source.result.bytes.now ≡ drop (offset_before c.args.sample (first_points c.args.self.blocks.items)) c.args.frames.now =
    c.new-source.ensures ∙ c.bytes_from.ensures ∙ ap (λ n. drop n c.args.frames.now) c.offset_before-offset.ensures in
    c.in-Err.ensures.refused.refused refl refl refl other frames end (subst (λ b. IsReadAs (by_grammar grammar (resumed c.args.profile c.args.self.info) (beginning Truncated) (bits_of b)) [] frames end) (sym bytes) is)
