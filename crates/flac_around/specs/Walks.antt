-- Where a stream ends whose pages are followed.
use Rattle.std.specs.Prelude.{ℕ, List, take, Option}
use Rattle.flac_around.specs.Stands.{end_ahead}
use Rattle.flac_around.specs.declared.walk.Walk.{Walk}

-- the bytes of a page before its segments that passed
abbrev pub seen_by : Walk → List ℕ
seen_by w = take w.at w.lead

-- in the bytes to come
abbrev pub end_for : Walk → List ℕ → Option ℕ
end_for w coming = end_ahead w.stand (seen_by w) coming
