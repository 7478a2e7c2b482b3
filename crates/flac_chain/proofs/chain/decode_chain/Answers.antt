use Rattle.std.proofs.Common.{◌≡◌, ◌∙◌, sym}
use Rattle.flac_around.specs.Chains.{later_links}
use Rattle.flac_chain.specs.inner.Going.{bytes_of}
use Rattle.flac_chain.specs.declared.following.Follows.TheVariants.{Nothing, Page, Other}
use Rattle.flac_chain.proofs.Going.{goes_on, ends, others_follow, refuses, all_steady, page_follows, other_follows, some_come, none_follows}
use Rattle.flac_chain.proofs.Links.{at_ok, if_ok, if_err}
use Rattle.flac_chain.proofs.chain.decode_chain.Goals as goal

pub loop-stream-preserved : goal.loop-stream-preserved
loop-stream-preserved g c =
    let i = c.loop-stream.invariant in
    let e = c.decode_round-round.ensures in
    let round = c.decode_round-round.result in
    let is = c.in-Ok.is in
    let page : c.in-Ok.next ≡ Page = c.in-Page.is in
    let here = bytes_of g.R.Source c.loop-stream.fronted in
    let calm = at_ok round.outcome c.in-Ok.next is e.counted in
    record {
      names = e.names ∙ i.names;
      source_names = e.source_names ∙ i.source_names;
      calm = (calm.0 ∙ i.calm.0, calm.1 ∙ i.calm.1);
      known = λ known. (if_ok _ round.outcome c.in-Ok.next is (e.follows (i.known known, calm.0, calm.1))).0;
      so_far = λ steady known receives.
          let so = i.so_far steady known receives in
          let now = (all_steady g.S.Sink c.args.sink.now _ c.loop-stream.sink steady so.took).0 receives in
          let d = at_ok round.outcome c.in-Ok.next is (e.takes (i.known known, calm.0, calm.1) now) in
          let f = if_ok _ round.outcome c.in-Ok.next is (e.follows (i.known known, calm.0, calm.1)) in
          goes_on c.args.profile g.S.Sink.takes (g.R.Source.coming c.args.source) here (bytes_of g.R.Source round.fronted) c.loop-stream.stream c.args.sink.now c.loop-stream.sink c.decode_round-round.new.sink so d.0 d.1 d.2 f.1
          (page_follows (later_links here) (sym f.2 ∙ page));
    }

pub returns-in-Nothing-clause-takes : goal.returns-in-Nothing-clause-takes
returns-in-Nothing-clause-takes g c = λ steady tells receives.
    let i = c.loop-stream.invariant in
    let e = c.decode_round-round.ensures in
    let round = c.decode_round-round.result in
    let is = c.in-Ok.is in
    let none : c.in-Ok.next ≡ Nothing = c.in-Nothing.is in
    let here = bytes_of g.R.Source c.loop-stream.fronted in
    let calm = at_ok round.outcome c.in-Ok.next is e.counted in
    let so = i.so_far steady tells.0 receives in
    let now = (all_steady g.S.Sink c.args.sink.now _ c.loop-stream.sink steady so.took).0 receives in
    let d = at_ok round.outcome c.in-Ok.next is (e.takes (i.known tells.0, calm.0, calm.1) now) in
    let f = if_ok _ round.outcome c.in-Ok.next is (e.follows (i.known tells.0, calm.0, calm.1)) in
    ends c.args.profile g.S.Sink.takes (g.R.Source.coming c.args.source) here c.loop-stream.stream c.args.sink.now c.loop-stream.sink c.decode_round-round.new.sink so d.0 d.1 d.2 (none_follows (later_links here) (sym f.2 ∙ none))

pub returns-in-Other-clause-refused : goal.returns-in-Other-clause-refused
returns-in-Other-clause-refused g c = λ steady tells receives same why.
    let i = c.loop-stream.invariant in
    let e = c.decode_round-round.ensures in
    let round = c.decode_round-round.result in
    let is = c.in-Ok.is in
    let other : c.in-Ok.next ≡ Other = c.in-Other.is in
    let here = bytes_of g.R.Source c.loop-stream.fronted in
    let calm = at_ok round.outcome c.in-Ok.next is e.counted in
    let so = i.so_far steady tells.0 receives in
    let now = (all_steady g.S.Sink c.args.sink.now _ c.loop-stream.sink steady so.took).0 receives in
    let d = at_ok round.outcome c.in-Ok.next is (e.takes (i.known tells.0, calm.0, calm.1) now) in
    let f = if_ok _ round.outcome c.in-Ok.next is (e.follows (i.known tells.0, calm.0, calm.1)) in
    others_follow c.args.profile g.S.Sink.takes (g.R.Source.coming c.args.source) here c.loop-stream.stream c.args.sink.now c.loop-stream.sink c.decode_round-round.new.sink so d.0 d.1 d.2 (some_come (later_links here) (sym f.2 ∙ other)) (other_follows (later_links here) (sym f.2 ∙ other))

pub returns-in-Err-clause-refused : goal.returns-in-Err-clause-refused
returns-in-Err-clause-refused g c = λ steady tells receives same why.
    let i = c.loop-stream.invariant in
    let e = c.decode_round-round.ensures in
    let round = c.decode_round-round.result in
    let here = bytes_of g.R.Source c.loop-stream.fronted in
    let so = i.so_far steady tells.0 receives in
    let steadily = all_steady g.S.Sink c.args.sink.now _ c.loop-stream.sink steady so.took in
    let r = if_err _ round.outcome c.in-Err.fault c.in-Err.is (e.refused (i.known tells.0, tells.1 ∙ sym i.calm.0, tells.2 ∙ sym i.calm.1) (steadily.0 receives) (same ∙ sym steadily.1)) why in
    refuses c.args.profile g.S.Sink.takes (g.R.Source.coming c.args.source) here c.loop-stream.stream c.args.sink.now c.loop-stream.sink c.decode_round-round.new.sink so r.0 c.in-Err.fault.at c.in-Err.fault.why r.1 r.2
