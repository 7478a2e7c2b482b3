use Rattle.std.proofs.Common.{◌≡◌, ◌≤◌, ◌*◌, ◌/◌, ◌%◌, ◌∙◌, refl, ap, sym, ℕ, List, length, take, arith}
use Rattle.std.proofs.lemmas.List.{length-take-le}
use Rattle.std.proofs.lemmas.Result.{err_from_is_err_and}
use Rattle.std.proofs.Math.Nat.{div-mul-le_self}
use Rattle.flac_wave.specs.Format.{row_of}
use Rattle.flac_cli.proofs.Jobs.{rose}
use Rattle.flac_raw.proofs.Rows.{not_full}
use Rattle.flac_cli.proofs.Surveys.{first_found, next_found, all_found, part_found, long_front, rows_of}
use Rattle.flac_cli.proofs.wave_survey.survey_samples.Goals as goal

pub pieces-init : goal.pieces-init
pieces-init g c = record {
  known = λ known. known;
  read = λ known. first_found c.args.format.now (g.R.Source.coming c.args.source.now) c.none_found-found.result c.none_found-found.ensures.found;
  after = λ known. refl;
  raised = refl;
  room = c.none_found-found.ensures.room;
  names = refl;
}

pub returns-in_err-count : goal.returns-in_err-count
returns-in_err-count g c =
    let p = err_from_is_err_and c.from_residual.result c.from_residual.ensures.1 in
    let inv = c.pieces.invariant in
    rw (p.1, p.2) (record { found = tt; room = tt; read = tt; memory = λ known same. rose _ _ (c.in_err-count.ensures.failed (inv.known known)) (same ∙ sym inv.raised); names = c.in_err-count.ensures.names ∙ inv.names })

pub with_piece-found-requires-clause-whole : goal.with_piece-found-requires-clause-whole
with_piece-found-requires-clause-whole g c =
    let count = c.in_ok-count.count in
    let long = long_front count _ c.fill.new.places c.in_ok-count.ensures.few (div-mul-le_self 16384 c.row-row.result) c.if-count-row-ne0.array_long in
    rows_of _ count c.row-row.result (row_of c.args.format.now) long c.row-row.ensures c.if-count-row-ne0.false

pub returns-then-count-row-ne0 : goal.returns-then-count-row-ne0
returns-then-count-row-ne0 g c =
    let inv = c.pieces.invariant in
    let e = c.in_ok-count.ensures in
    let f = c.args.format.now in
    let row = c.row-row.result in
    let count = c.in_ok-count.count in
    let lt = not_full count row (16384 / row) e.few c.if-count-row-ne0.true in
    let long = length-take-le count c.fill.new.places (omega (arith, c.fill.auto.places, e.few, div-mul-le_self 16384 row)) in
    record {
      found = λ known.
          part_found f (g.R.Source.coming c.args.source.now) (g.R.Source.coming c.pieces.source) (take count c.fill.new.places) (g.R.Source.coming c.fill.new.source) count c.pieces.found _
          (inv.read known) (e.bytes (inv.known known)) (e.end lt (inv.known known)) long (λ none. c.if-count-row-ne0.true (ap (λ r. count % r) c.row-row.ensures ∙ none)) refl;
      room = inv.room;
      read = record {
        known = λ known. e.known (inv.known known);
        end = λ known. e.end lt (inv.known known);
        after = λ known. e.after (inv.known known) ∙ inv.after known;
        raised = e.counted ∙ inv.raised;
      };
      memory = tt;
      names = e.names ∙ inv.names;
    }

pub returns-then-count-size : goal.returns-then-count-size
returns-then-count-size g c =
    let inv = c.pieces.invariant in
    let e = c.in_ok-count.ensures in
    let f = c.args.format.now in
    let row = c.row-row.result in
    let count = c.in_ok-count.count in
    let piece = take count c.fill.new.places in
    let long = long_front count _ c.fill.new.places e.few (div-mul-le_self 16384 row) c.if-count-row-ne0.array_long in
    let part = rows_of (length piece) count row (row_of f) long c.row-row.ensures c.if-count-row-ne0.false in
    record {
      found = λ known.
          all_found f c.requires.range (g.R.Source.coming c.args.source.now) (g.R.Source.coming c.fill.new.source) c.with_piece-found.result
          (next_found f (g.R.Source.coming c.args.source.now) (g.R.Source.coming c.pieces.source) (g.R.Source.coming c.fill.new.source) piece c.pieces.found c.with_piece-found.result (inv.read known) (e.bytes (inv.known known)) part c.with_piece-found.ensures.more)
          (e.end c.if-count-size.true (inv.known known));
      room = c.with_piece-found.ensures.room;
      read = record {
        known = λ known. e.known (inv.known known);
        end = λ known. e.end c.if-count-size.true (inv.known known);
        after = λ known. e.after (inv.known known) ∙ inv.after known;
        raised = e.counted ∙ inv.raised;
      };
      memory = tt;
      names = e.names ∙ inv.names;
    }

pub pieces-preserved : goal.pieces-preserved
pieces-preserved g c =
    let inv = c.pieces.invariant in
    let e = c.in_ok-count.ensures in
    let f = c.args.format.now in
    let row = c.row-row.result in
    let count = c.in_ok-count.count in
    let piece = take count c.fill.new.places in
    let long = long_front count _ c.fill.new.places e.few (div-mul-le_self 16384 row) c.if-count-row-ne0.array_long in
    let part = rows_of (length piece) count row (row_of f) long c.row-row.ensures c.if-count-row-ne0.false in
    record {
      known = λ known. e.known (inv.known known);
      read = λ known.
          next_found f (g.R.Source.coming c.args.source.now) (g.R.Source.coming c.pieces.source) (g.R.Source.coming c.fill.new.source) piece c.pieces.found c.with_piece-found.result (inv.read known) (e.bytes (inv.known known)) part c.with_piece-found.ensures.more;
      after = λ known. e.after (inv.known known) ∙ inv.after known;
      raised = e.counted ∙ inv.raised;
      room = c.with_piece-found.ensures.room;
      names = e.names ∙ inv.names;
    }

pub with_piece-found-requires-clause-room : goal.with_piece-found-requires-clause-room
with_piece-found-requires-clause-room g c = c.pieces.invariant.room
