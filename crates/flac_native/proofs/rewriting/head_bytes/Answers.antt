use Rattle.std.proofs.Common.{◌≡◌, ap, sym, ◌∙◌, nat_lt}
use Rattle.std.proofs.lemmas.Result.{IfErr-weaker}
use Rattle.flac_bits.specs.declared.why.Why.TheVariants.{Memory, Write}
use Rattle.flac_bits.specs.Bits.{bits_of}
use Rattle.flac_bits.specs.Written.{Written}
use Rattle.flac_native.specs.Rewriting.{head_of}
use Rattle.flac_native.proofs.Heads.{Blank, head_collected}
use Rattle.flac_native.proofs.Renewing.{head_whole}
use Rattle.flac_native.proofs.rewriting.head_bytes.Goals as goal

not_both : Memory ≡ Write → ⊥
not_both is = cc

pub returns-in-Ok : goal.returns-in-Ok
returns-in-Ok c =
    let blank : Blank c.new-writer.result = record {
      known = ap (λ (v : Written). v.known) c.new-writer.ensures ∙ ap (λ e. nat_lt e 18446744073709551615) c.new.ensures.errors;
      bits = ap (λ (v : Written). v.bits) c.new-writer.ensures ∙ ap bits_of c.new.ensures.sent;
      unread = ap (λ (v : Written). v.mark.unread) c.new-writer.ensures;
    } in
    record {
      made = head_collected c.new-writer.result _ (head_of c.args.blocks.now) c.into_bytes.result blank (head_whole c.args.blocks.now).bytes c.in-Ok.ensures c.into_bytes.ensures.bytes;
      unwritten = IfErr-weaker c.into_bytes.result _ _ (λ e memory write. not_both (sym memory ∙ write)) c.into_bytes.ensures.memory;
    }
