use Rattle.std.proofs.Common.{◌∙◌, refl, sym, ℤ, List, Vec, Global, length, map, arith}
use Rattle.std.proofs.lemmas.Result.{err_from_is_err_and}
use Rattle.flac_raw.specs.inner.Surveyed.{SurveyedTo}
use Rattle.flac_raw.proofs.Taken.{taken_bytes}
use Rattle.flac_raw.proofs.Surveying.{survey_none, survey_more, survey_all, surveyed_part}
use Rattle.flac_raw.proofs.judging.read_survey.Goals as goal

pub pieces-init : goal.pieces-init
pieces-init g c = record {
  known = λ known. known;
  after = λ known. refl;
  raised = refl;
  names = refl;
  channels = refl;
  width = refl;
  size = refl;
  read = λ known. survey_none c.args.bits (length c.args.blocks.now.lists.items) c.args.blocks.now.width (g.R.Source.coming c.args.source.now);
}

pub returns-in_err-count-clause-refused : goal.returns-in_err-count-clause-refused
returns-in_err-count-clause-refused g c =
    let p = err_from_is_err_and c.from_residual.result c.from_residual.ensures.1 in
    let inv = c.pieces.invariant in
    rw (p.1, p.2) (λ known same. surveyed_part c.args.bits (length c.pieces.blocks.lists.items) (length c.args.blocks.now.lists.items) c.pieces.blocks.width c.args.blocks.now.width (g.R.Source.coming c.args.source.now) (g.R.Source.coming c.pieces.source)
    c.pieces.found.total c.pieces.found.small _ inv.channels inv.width (inv.read known) (c.in_err-count.ensures.refused (inv.known known) (same ∙ sym inv.raised)))

pub returns-then-count-size-clause-all : goal.returns-then-count-size-clause-all
returns-then-count-size-clause-all g c = λ known.
    let inv = c.pieces.invariant in
    let e = c.in_ok-count.ensures in
    let items : Vec ℤ Global → List ℤ = λ v. v.items in
    let took = taken_bytes g.R.Source (length c.pieces.blocks.lists.items) (length c.args.blocks.now.lists.items) c.pieces.blocks.width c.args.blocks.now.width c.in_ok-count.count c.pieces.source c.next.new.source (map items c.next.new.self.lists.items)
    inv.channels inv.width e.rows (inv.known known) in
    let so : SurveyedTo c.args.bits (length c.args.blocks.now.lists.items) c.args.blocks.now.width (g.R.Source.coming c.args.source.now) (g.R.Source.coming c.next.new.source) c.with_block-found.result.total c.with_block-found.result.small =
    survey_more c.args.bits (length c.args.blocks.now.lists.items) c.args.blocks.now.width c.in_ok-count.count (g.R.Source.coming c.args.source.now) (g.R.Source.coming c.pieces.source) (g.R.Source.coming c.next.new.source)
    c.pieces.found.total c.with_block-found.result.total c.pieces.found.small c.fit-fit.result c.with_block-found.result.small (map items c.next.new.self.lists.items) (inv.read known) took c.fit-fit.ensures c.with_block-found.ensures.total c.with_block-found.ensures.small in
    survey_all c.args.bits (length c.args.blocks.now.lists.items) c.args.blocks.now.width (g.R.Source.coming c.args.source.now) (g.R.Source.coming c.next.new.source) c.with_block-found.result.total c.with_block-found.result.small so
    (e.end (omega (arith, c.if-count-size.true, c.size-size.ensures, inv.size)) (inv.known known)) c.args.blocks.now.channels.0 c.args.blocks.now.widths.0

pub pieces-preserved : goal.pieces-preserved
pieces-preserved g c =
    let inv = c.pieces.invariant in
    let e = c.in_ok-count.ensures in
    let items : Vec ℤ Global → List ℤ = λ v. v.items in
    record {
      known = λ known. e.known (inv.known known);
      after = λ known. e.after (inv.known known) ∙ inv.after known;
      raised = e.raised ∙ inv.raised;
      names = e.names ∙ inv.names;
      channels = e.channels ∙ inv.channels;
      width = e.width ∙ inv.width;
      size = e.size ∙ inv.size;
      read = λ known.
          let took = taken_bytes g.R.Source (length c.pieces.blocks.lists.items) (length c.args.blocks.now.lists.items) c.pieces.blocks.width c.args.blocks.now.width c.in_ok-count.count c.pieces.source c.next.new.source (map items c.next.new.self.lists.items)
          inv.channels inv.width e.rows (inv.known known) in
          survey_more c.args.bits (length c.args.blocks.now.lists.items) c.args.blocks.now.width c.in_ok-count.count (g.R.Source.coming c.args.source.now) (g.R.Source.coming c.pieces.source) (g.R.Source.coming c.next.new.source)
          c.pieces.found.total c.with_block-found.result.total c.pieces.found.small c.fit-fit.result c.with_block-found.result.small (map items c.next.new.self.lists.items) (inv.read known) took c.fit-fit.ensures c.with_block-found.ensures.total c.with_block-found.ensures.small;
    }
