use Rattle.std.proofs.Common.{ℕ, ◌-◌, ◌^◌, List, ap, subst, ◌∙◌, nat_lt}
use Rattle.flac_c.specs.Answers.{IsCopied}
use Rattle.flac_native.specs.Samples.{samples_from}
use Rattle.flac_c.proofs.Kept.{then_ok}
use Rattle.flac_native.proofs.Sampled.{written_from_none}
use Rattle.flac_c.proofs.decoding.decode_by.Goals as goal

pub returns-clause-decoded : goal.returns-clause-decoded
returns-clause-decoded c = λ zero.
    let d = then_ok _ c.collect.result c.in_default.field-0 c.in_default.is c.collect.ensures.done in
    let known = ap (λ t. nat_lt t.errors (2 ^ 64 - 1)) c.new-sink.ensures.target ∙ ap (λ n. nat_lt n (2 ^ 64 - 1)) c.new.ensures.errors in
    let none = ap (λ t. t.bytes.items) c.new-sink.ensures.target ∙ c.new.ensures.sent in
    let bytes = written_from_none (λ s. nat_lt s.target.errors (2 ^ 64 - 1)) (λ s. s.target.bytes.items) (λ s. s.asked) (λ s. s.depth) _ d.0 _ d.2 known none c.new-sink.ensures.depth in
    let sent = c.bytes.ensures ∙ (ap (λ t. t.bytes.items) c.into_target-target.ensures ∙ (bytes ∙ ap (λ n. samples_from n 0 d.0) (c.new-sink.ensures.asked ∙ c.min.ensures))) in
    (d.0, d.1, subst (λ (l : List ℕ). IsCopied l c.args.out.now c.copy.new.out c.copy.result) sent c.copy.ensures)
