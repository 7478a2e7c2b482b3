use Rattle.std.proofs.lemmas.Result.{IfErr-weaker}
use Rattle.flac_bits.specs.Handing.{IsOutside}
use Rattle.flac_native.specs.Track.{piece_of}
use Rattle.flac_native.specs.declared.fault.Fault.{Fault}
use Rattle.flac_ogg.specs.Decoding.{IsBrokenAt, BreaksInNext}
use Rattle.flac_ogg.proofs.Arriving.{counts_both, read_risen, none_of_output, clear_after, read_rises, gives_there}
use Rattle.flac_ogg.proofs.packets.OggPacketsContainer.next.Goals as goal

pub returns-clause-counts : goal.returns-clause-counts
returns-clause-counts g c = counts_both c.args.self.now.pages c.advance.new.pages c.advance.result c.advance.ensures.goes c.advance.ensures.meets

pub returns-clause-clear : goal.returns-clause-clear
returns-clause-clear g c =
    clear_after c.args.self.now.pages c.advance.new.pages (λ part. piece_of c.advance.new.track part) c.args.track.now c.advance.new.track c.advance.result c.advance.ensures.steps c.advance.ensures.goes c.advance.ensures.next

pub returns-clause-read : goal.returns-clause-read
returns-clause-read g c =
    read_rises c.args.self.now.pages c.advance.new.pages (λ part. piece_of c.advance.new.track part) c.args.track.now c.advance.result c.advance.ensures.steps c.advance.ensures.kept

pub returns-clause-gives : goal.returns-clause-gives
returns-clause-gives g c = λ p at known same quiet room items end come.
    gives_there c.args.self.now.pages c.advance.new.pages (λ part. piece_of c.advance.new.track part) c.args.track.now c.advance.result c.advance.ensures.steps p at known same room items end come

pub returns-clause-risen : goal.returns-clause-risen
returns-clause-risen g c = read_risen c.args.self.now.pages.raised c.advance.new.pages.raised c.advance.result c.advance.ensures.meets

pub returns-clause-output : goal.returns-clause-output
returns-clause-output g c = none_of_output c.args.self.now.pages.raised c.advance.new.pages.raised c.advance.result c.advance.ensures.meets

pub returns-clause-broken : goal.returns-clause-broken
returns-clause-broken g c = λ p at.
    IfErr-weaker c.advance.result (λ f. IsBrokenAt c.advance.new.pages.count p f.at f.why) (λ f. IsOutside f.why → IsBrokenAt c.advance.new.pages.count p f.at f.why) (λ f told out. told) (c.advance.ensures.broken p at)

pub returns-clause-broke : goal.returns-clause-broke
returns-clause-broke g c =
    let broke = λ (f : Fault). BreaksInNext c.args.self.now.pages c.advance.new.pages f.why in
    IfErr-weaker c.advance.result broke (λ f. IsOutside f.why → broke f) (λ f told out. told) c.advance.ensures.broke
