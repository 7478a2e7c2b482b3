use Rattle.std.proofs.Common.{inl, inr, sym, ap, subst, ◌∙◌}
use Rattle.flac_bits.specs.Bits.{bits_of}
use Rattle.flac_bits.specs.State.{short_of}
use Rattle.flac_bits.specs.Handing.{by_grammar}
use Rattle.flac_native.specs.Stream.{Stand, grammar}
use Rattle.flac_native.specs.Coming.{PartsCome}
use Rattle.flac_native.specs.Decoding.{beginning}
use Rattle.flac_native.specs.Resuming.{resumed}
use Rattle.flac_native.specs.Giving.{stage_of}
use Rattle.flac_native.specs.declared.fault.Fault.{Fault}
use Rattle.flac_reader.proofs.Searches.{seek_finds, seek_refuses, seek_unread, finds_at, over_at, past_at}
use Rattle.flac_reader.proofs.sought.Reader+BitReader+R.seek_from.Goals as goal

pub returns-in-Ok-find_frame-clause-found : goal.returns-in-Ok-find_frame-clause-found
returns-in-Ok-find_frame-clause-found g c = λ known frames end is.
    let S = g.S.Source in
    let source = c.args.source in
    let info = c.args.self.info in
    finds_at info c.args.sample frames end c.before_frame.result c.find_frame.new.decoder c.before_frame.ensures.decoder c.before_frame.ensures.ahead
    (seek_finds _ (by_grammar grammar (resumed c.args.profile info) (beginning (short_of ((S.after source).fails))) (bits_of (S.coming source))) info c.args.sample c.in-Ok-find_frame.first
    (stage_of c.in-Ok.decoder) (stage_of c.find_frame.new.decoder) (resumed c.args.profile info) c.in-Ok.ensures.course c.in-Ok.ensures.track
    (λ parts e read. subst (λ k. PartsCome (resumed c.args.profile info) k parts e) (sym c.in-Ok.ensures.cursor) read)
    (c.in-Ok.ensures.known ∙ known, c.in-Ok-find_frame.ensures.counts.met.1, c.in-Ok-find_frame.ensures.counts.met.2)
    c.in-Ok-find_frame.ensures.finds frames end is)

pub returns-in-Ok-find_frame-clause-source : goal.returns-in-Ok-find_frame-clause-source
returns-in-Ok-find_frame-clause-source g c =
    let S = g.S.Source in
    let source = c.args.source in
    let told = c.in-Ok.ensures in
    over_at c.before_frame.result c.in-Ok.decoder c.find_frame.new.decoder c.in-Ok-find_frame.first (S.known source) (S.errors source) (S.raised source) (S.names source) c.before_frame.ensures.decoder told.known told.errors.0 told.errors.1 told.names
    c.in-Ok-find_frame.ensures.counts

pub returns-in-Ok-find_frame-clause-past : goal.returns-in-Ok-find_frame-clause-past
returns-in-Ok-find_frame-clause-past g c =
    past_at c.before_frame.result c.find_frame.new.decoder c.before_frame.ensures.decoder
    (c.in-Ok-find_frame.ensures.past (ap (λ (k : Stand). k.phase) c.in-Ok.ensures.track.stand))

pub returns-clause-memory : goal.returns-clause-memory
returns-clause-memory g c = λ is.
    inr (ap (λ (f : Fault). f.at) (c.in-Err-find_frame.ensures.memory (ap (λ (k : Stand). k.phase) c.in-Ok.ensures.track.stand) is))

pub returns-in-Err-clause-memory : goal.returns-in-Err-clause-memory
returns-in-Err-clause-memory g c = λ is. inl (ap (λ (f : Fault). f.at) c.in-Err.ensures.memory)

pub returns-clause-refused : goal.returns-clause-refused
returns-clause-refused g c =
    let S = g.S.Source in
    let source = c.args.source in
    let info = c.args.self.info in
    let left = c.into_source-left.result in
    let first = c.in-Ok.ensures.errors in
    let last = c.into_source-left.ensures.errors in
    seek_refuses (by_grammar grammar (resumed c.args.profile info) (beginning (short_of ((S.after source).fails))) (bits_of (S.coming source))) info c.args.sample
    c.in-Ok.decoder c.find_frame.new.decoder (resumed c.args.profile info) c.in-Err-find_frame.fault (S.known source) (S.errors source) (S.raised source) (S.errors left) (S.raised left)
    c.in-Ok.ensures.course c.in-Ok.ensures.track
    (λ parts e read. subst (λ k. PartsCome (resumed c.args.profile info) k parts e) (sym c.in-Ok.ensures.cursor) read)
    c.in-Ok.ensures.known first.0 first.1 first.1 (sym last.0) (sym last.1) (sym last.1)
    c.in-Err-find_frame.ensures.counts c.in-Err-find_frame.ensures.finds

pub returns-clause-names : goal.returns-clause-names
returns-clause-names g c = c.into_source-left.ensures.names ∙ c.in-Err-find_frame.ensures.counts.names ∙ c.in-Ok.ensures.names

pub returns-in-Err-clause-refused : goal.returns-in-Err-clause-refused
returns-in-Err-clause-refused g c =
    let S = g.S.Source in
    let source = c.args.source in
    let info = c.args.self.info in
    rw c.in-Err.ensures.left (seek_unread info c.args.sample (by_grammar grammar (resumed c.args.profile info) (beginning (short_of ((S.after source).fails))) (bits_of (S.coming source)))
    (S.known source) (S.errors source) (S.raised source) c.in-Err.refused.fault (ap (λ (f : Fault). f.why) c.in-Err.ensures.memory))

pub returns-in-Err-clause-names : goal.returns-in-Err-clause-names
returns-in-Err-clause-names g c = ap g.S.Source.names c.in-Err.ensures.left
