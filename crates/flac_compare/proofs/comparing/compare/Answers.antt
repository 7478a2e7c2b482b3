use Rattle.std.proofs.Common.{Some, subst}
use Rattle.flac_compare.specs.Format.{AreOfOneFormat, SaysFormat}
use Rattle.flac_compare.proofs.Onwards.{stays_same}
use Rattle.flac_compare.proofs.SideBySide.{format_differs, format_same}
use Rattle.flac_compare.proofs.comparing.compare.Goals as goal

pub returns-in-Some : goal.returns-in-Some
returns-in-Some g c = record {
  format = subst (λ i. SaysFormat i c.args.second.now.info (Some c.in-Some.difference)) c.info.ensures (subst (λ k. SaysFormat c.info.result.now k (Some c.in-Some.difference)) c.info-2.ensures c.in-Some.ensures.says);
  samples = λ calm still. format_differs c.args.first.now c.args.second.now c.in-Some.difference c.in-Some.ensures.kind;
  first_stays = stays_same c.args.first.now;
  second_stays = stays_same c.args.second.now;
}

pub returns-in-None : goal.returns-in-None
returns-in-None g c =
    let told = c.compare_samples.ensures in
    record {
      format = format_same c.args.first.now.info c.args.second.now.info c.compare_samples.result (subst (λ i. AreOfOneFormat i c.args.second.now.info) c.info.ensures (subst (λ k. AreOfOneFormat c.info.result.now k) c.info-2.ensures c.in-None.ensures.says)) told.kind;
      samples = told.samples;
      first_stays = told.first_stays;
      second_stays = told.second_stays;
    }
