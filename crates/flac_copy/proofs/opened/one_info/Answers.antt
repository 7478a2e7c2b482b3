use Rattle.std.proofs.Common.{rules, sym, ◌∙◌}
use Rattle.flac_copy.proofs.opened.one_info.Goals as goal

pub returns-in-StreamInfo : goal.returns-in-StreamInfo
returns-in-StreamInfo c = record {
  others = c.in-Some.others.now;
  list_is = search rules;
  none = sym c.has_no_info.ensures ∙ c.if-not-has_no_info.false;
}
