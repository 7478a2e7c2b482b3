use Rattle.std.proofs.Common.{◌≡◌, ◌≤◌, ◌*◌, ◌/◌, ◌∙◌, length, take, refl, arith}
use Rattle.std.proofs.Math.Nat.{div-mul-le_self}
use Rattle.std.proofs.lemmas.List.{length-take-le}
use Rattle.flac_cli.proofs.WaveRaws.{low_next, low_end, piece_some, no_bytes}
use Rattle.flac_cli.proofs.wave_raw.refill.Goals as goal

pub returns-in-Ok-clause-bytes : goal.returns-in-Ok-clause-bytes
returns-in-Ok-clause-bytes g c = λ known.
    let f = c.args.form in
    let e = c.in-Ok.ensures in
    let count = c.in-Ok.count in
    let size = 16384 / f.wide * f.wide in
    let most : size ≤ 16384 = div-mul-le_self 16384 f.wide in
    let long : length (take count c.fill_piece.new.places) ≡ count = length-take-le count c.fill_piece.new.places (omega (arith, c.fill_piece.auto.places, e.few, most)) in
    low_next f count size (16384 / f.wide) (g.S.Source.coming c.args.source.now) (take count c.fill_piece.new.places) (g.S.Source.coming c.fill_piece.new.source) (take c.lower_into.result c.lower_into.new.out)
    c.requires.form (e.bytes known) long e.few refl (λ fewer. e.end fewer known) c.lower_into.ensures.lowered

pub returns-in-Ok-clause-end : goal.returns-in-Ok-clause-end
returns-in-Ok-clause-end g c = λ none known.
    let f = c.args.form in
    let e = c.in-Ok.ensures in
    let count = c.in-Ok.count in
    let size = 16384 / f.wide * f.wide in
    let most : size ≤ 16384 = div-mul-le_self 16384 f.wide in
    let long : length (take count c.fill_piece.new.places) ≡ count = length-take-le count c.fill_piece.new.places (omega (arith, c.fill_piece.auto.places, e.few, most)) in
    low_end f count size (take count c.fill_piece.new.places) (g.S.Source.coming c.fill_piece.new.source) (g.S.Source.coming c.args.source.now) (take c.lower_into.result c.lower_into.new.out)
    c.requires.form (e.bytes known) long (piece_some f c.requires.form) (λ fewer. e.end fewer known) c.lower_into.ensures.lowered (no_bytes c.lower_into.result c.lower_into.new.out none)
