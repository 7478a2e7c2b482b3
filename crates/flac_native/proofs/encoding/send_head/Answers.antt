use Rattle.std.proofs.Common.{rules, subst, ◌++◌, List, Bool}
use Rattle.std.proofs.lemmas.Result.{IfErr-weaker}
use Rattle.flac_native.specs.Seeking.{table_of}
use Rattle.flac_native.specs.Writing.{head_spelling}
use Rattle.flac_native.proofs.Lending.{lends_at, Returns, same_lent, lent_sends}
use Rattle.flac_native.proofs.encoding.send_head.Goals as goal
use Rattle.flac_native.specs.Sent.{SendsBits}

pub returns : goal.returns
returns g c =
    let t = g.W.Target in
    let old = c.args.target.now in
    let text : List Bool = head_spelling c.args.info (c.args.list.now ++ table_of c.args.points.items) in
    let lent = c.over.result in
    let back = c.into_target.result in
    let w = c.finish_head-outcome.new.writer in
    let r = c.finish_head-outcome.result in
    let all = c.finish_head-outcome.ensures in
    let first = lends_at t old lent.target.now lent.began.value lent.target.ghost_name c.new-writer.result c.over.ensures.target c.over.ensures.began c.new-writer.ensures in
    let last : Returns t back.began.value back.target.now back.target.ghost_name w = record {
      known = c.into_target.ensures.known;
      sent = c.into_target.ensures.sent;
      errors = c.into_target.ensures.errors;
      names = c.into_target.ensures.names;
    } in
    let same = (same_lent t old back.began.value back.target.now lent.target.ghost_name back.target.ghost_name c.new-writer.result w first last all.names).0 in
    let sends = lent_sends t text old back.began.value back.target.now lent.target.ghost_name back.target.ghost_name c.new-writer.result w r first last all in
    record {
      sends = subst (λ n. SendsBits t text old n r) (search (rules, same)) sends;
      write = IfErr-weaker r _ _ (λ e fails. fails.reason) all.failed;
    }
