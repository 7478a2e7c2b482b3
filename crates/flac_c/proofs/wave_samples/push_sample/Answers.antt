use Rattle.std.proofs.Common.{◌≡◌, ◌++◌, ◌∙◌, ap, List, ℕ, rules, to_z, of_z, w32}
use Rattle.flac_c.proofs.WaveNumbers.{form_few, sample_is}
use Rattle.flac_c.proofs.wave_samples.push_sample.Goals as goal

pub returns : goal.returns
returns c =
    let same : to_z w32 (of_z w32 c.args.number) ≡ c.args.number = search rules in
    let is = sample_is c.args.width c.args.bits c.high_number-high.result _ c.args.number c.to_le_bytes.result (form_few c.args.width c.args.bits c.requires) c.to_le_bytes.ensures
    c.high_number-high.ensures same in
    c.in_ok-extend_from_slice.ensures.items ∙ ap (λ (l : List ℕ). c.args.bytes.now.items ++ l) is
