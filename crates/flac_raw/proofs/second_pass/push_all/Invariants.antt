use Rattle.std.proofs.Common.{◌≡◌, true, [], length}
use Rattle.flac_raw.specs.Raw.{raw_channels}
use Rattle.flac_raw.specs.inner.Progress.{ReadTo}
use Rattle.flac_raw.specs.inner.Pushed.{draft_in, container_in, PushesAll}
use Rattle.flac_raw.proofs.Stepping.{PushedTo}
use Rattle.flac_raw.proofs.second_pass.push_all.Given as goal

abbrev pub invariant-pieces : goal.invariant-pieces
invariant-pieces g l = record {
  known : g.R.Source.known l.fn.source ≡ true → g.R.Source.known l.source ≡ true;
  raised : g.R.Source.raised l.source ≡ g.R.Source.raised l.fn.source;
  channels : length l.blocks.lists.items ≡ length l.fn.blocks.lists.items;
  width : l.blocks.width ≡ l.fn.blocks.width;
  size : l.blocks.size ≡ l.fn.blocks.size;
  container : container_in l.draft ≡ container_in l.fn.draft;
  read : g.R.Source.known l.fn.source ≡ true
      → ReadTo (draft_in l.fn.draft).pushed.shape.bits (length l.fn.blocks.lists.items) l.fn.blocks.width (g.R.Source.coming l.fn.source) (g.R.Source.coming l.source) l.pushed true;
  so : PushedTo (draft_in l.fn.draft) (draft_in l.draft) l.fn.blocks.size l.total l.pushed;
  last : g.R.Source.known l.fn.source ≡ true → (draft_in l.draft).pushed.ended ≡ true → g.R.Source.coming l.source ≡ [];
  drafts : g.R.Source.known l.fn.source ≡ true → PushesAll g.W.Target (raw_channels (length l.fn.blocks.lists.items) l.fn.blocks.width (g.R.Source.coming l.fn.source)) l.fn.draft l.draft;
  told : g.W.Target.known (draft_in l.fn.draft).pushed.target ≡ true → g.W.Target.known (draft_in l.draft).pushed.target ≡ true;
  counted : g.W.Target.errors (draft_in l.draft).pushed.target ≡ g.W.Target.errors (draft_in l.fn.draft).pushed.target;
  names : g.W.Target.names (draft_in l.draft).pushed.target ≡ g.W.Target.names (draft_in l.fn.draft).pushed.target;
  through : g.R.Source.names l.source ≡ g.R.Source.names l.fn.source;
}

abbrev pub decreases-pieces : goal.decreases-pieces
decreases-pieces g l = g.R.Source.most l.source
