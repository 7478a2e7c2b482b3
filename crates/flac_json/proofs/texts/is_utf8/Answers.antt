use Rattle.flac_json.proofs.Utf8.{tested}
use Rattle.flac_json.proofs.texts.is_utf8.Goals as goal

pub returns : goal.returns
returns c = tested _ _ c.args.bytes.now c.from_utf8.result c.is_ok.result c.from_utf8.ensures.cases c.is_ok.ensures.value
