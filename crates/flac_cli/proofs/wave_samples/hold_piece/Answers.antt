use Rattle.std.proofs.Common.{◌≡◌, ◌*◌, ◌/◌, ◌∙◌, ℤ, List, Vec, Global, length, map, ap, sym}
use Rattle.std.specs.Prelude.{max}
use Rattle.std.specs.Vec.{with_items}
use Rattle.std.proofs.lemmas.List.{with_items_is}
use Rattle.flac_wave.specs.Format.{row_of}
use Rattle.flac_wave.specs.Shift.{wave_width_of}
use Rattle.flac_cli.specs.Waves.{wave_samples}
use Rattle.flac_cli.proofs.HeldWaves.{held_more, more_as, on_ok}
use Rattle.flac_raw.proofs.Rows.{whole_rows}
use Rattle.flac_cli.proofs.Waved.{are_wave_bytes}
use Rattle.flac_cli.proofs.wave_samples.hold_piece.Goals as goal

pub returns-clause-more : goal.returns-clause-more
returns-clause-more c =
    let f = c.args.format.now in
    let piece = c.args.piece.now in
    let old = c.args.held.now in
    let items : Vec ℤ Global → List ℤ = λ v. v.items in
    let new = c.push_piece.new.lists in
    let rows = length piece / row_of f in
    let wide : c.sample_width-width.result ≡ wave_width_of f = c.sample_width-width.ensures in
    let same : new ≡ (with_items old.channels new).items = sym (with_items_is old.channels new (c.push_piece.auto.lists ∙ (ap length c.deref_mut.ensures.value ∙ sym old.channels.ok.0))) in
    let many : length c.deref_mut.result.now ≡ f.channels = ap length c.deref_mut.ensures.value ∙ c.requires.many in
    let turned : c.turn.new.bytes ≡ wave_samples (8 * wave_width_of f) piece = c.turn.ensures ∙ ap (λ w. wave_samples (8 * w) piece) wide in
    let count : length c.turn.new.bytes / c.row.result ≡ rows = ap (λ n. n / c.row.result) c.turn.auto.bytes ∙ ap (λ r. length piece / r) c.row.ensures in
    on_ok c.push_piece.result _ _ c.push_piece.ensures.more (λ more.
    held_more f c.requires.range piece rows old (record { depth = c.max-held.result; channels = with_items old.channels new })
    (are_wave_bytes piece c.bytes_fit.ensures) (whole_rows (length piece) (row_of f) c.requires.whole)
    (c.max-held.ensures ∙ ap (max old.depth) c.depth_of.ensures)
    (more_as _ f.channels _ (wave_width_of f) _ rows _ _ _ _ _ _ many wide turned count (ap (map items) c.deref_mut.ensures.value) (ap (map items) same) more))
