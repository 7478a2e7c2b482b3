use Rattle.std.proofs.Common.{◌∙◌, ap}
use Rattle.flac_cli.specs.inner.Missing.{line_for}
use Rattle.flac_cli.proofs.Missing.{line_said}
use Rattle.flac_cli.proofs.Told.{told_same}
use Rattle.flac_cli.proofs.verify_missing.tell_missing.Goals as goal

pub returns-in-Ok : goal.returns-in-Ok
returns-in-Ok g c = record {
  told = λ known same. record {
    text = c.in-Ok.text.items;
    missing = c.in-Ok.ensures.lines known same;
    told = told_same g.E.Target c.tell_all.ensures c.deref.ensures.value;
  };
  stays = c.in-Ok.ensures.stays;
}

pub returns-in-Err : goal.returns-in-Err
returns-in-Err g c =
    let s = c.in-Err.ensures.stays in
    record {
      told = λ known same.
          let path = c.path.ensures (s.knows known same) ∙ ap (λ k. k.path) s.here in
          record {
            text = line_for (g.S.Shelf.current c.args.shelf.now).path c.in-Err.unlisted;
            missing = c.in-Err.ensures.unlisted known same;
            told = told_same g.E.Target c.tell_bad.ensures (line_said _ _ _ c.in-Err.unlisted path c.text.ensures.unsurveyed c.text.ensures.memory);
          };
      stays = s;
    }
