use Rattle.std.proofs.Common.{◌≡◌, ◌++◌, drop}
use Rattle.std.specs.Prelude.{not}
use Rattle.std.specs.List.{filter}
use Rattle.flac_cli.specs.Recoded.{is_comment}
use Rattle.flac_cli.proofs.recode.comments_first.Given as goal

abbrev pub invariant-loop-block : goal.invariant-loop-block
invariant-loop-block l = record {
  first : l.first.items ++ filter is_comment (drop l.block-index l.blocks) ≡ filter is_comment l.blocks;
  rest : l.rest.items ++ filter (λ b. not (is_comment b)) (drop l.block-index l.blocks) ≡ filter (λ b. not (is_comment b)) l.blocks;
}
