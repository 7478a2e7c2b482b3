use Rattle.std.proofs.Common.{◌≡◌, ◌⊎◌, ◌+◌, subst}
use Rattle.flac_header.specs.declared.subset.Profile.{Profile}
use Rattle.flac_c.specs.Cursors.{OfFrame, OfNextFrame, HandsOver, GoesOn}
use Rattle.flac_c.proofs.stepping.flac_proved_next_in.Goals as goal

pub returns-clause-frames : goal.returns-clause-frames
returns-clause-frames c =
    let old = c.args.cursor.now in
    let r = c.next_by in
    subst (λ (k : Profile). OfFrame k c.args.bytes.now old (λ f n. (r.result ≡ 2) ⊎ ((r.result ≡ 0) × HandsOver f (old.offset + n) old r.new.cursor c.args.out.now r.new.out r.new.len))) c.profile_of.ensures r.ensures.frames

pub returns-clause-streams : goal.returns-clause-streams
returns-clause-streams c =
    let old = c.args.cursor.now in
    let r = c.next_by in
    subst (λ (k : Profile). OfNextFrame k c.args.bytes.now old (λ front more f. (r.result ≡ 2) ⊎ ((r.result ≡ 0) × GoesOn k c.args.bytes.now old r.new.cursor c.args.out.now r.new.out r.new.len front more f))) c.profile_of.ensures r.ensures.streams
