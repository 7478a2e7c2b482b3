use Rattle.std.proofs.Common.{◌≡◌, Ok, Err}
use Rattle.flac_chain.proofs.Links.{if_ok, if_err}
use Rattle.flac_cli.proofs.Verifying.{tells_opened, good_reading, bad_reading, unopened_reading, stays_then, stays_opened, stays_closed, still}
use Rattle.flac_cli.proofs.verify.read_in.Goals as goal

pub returns-in-Ok : goal.returns-in-Ok
returns-in-Ok g c =
    let got = c.in-Some.ensures in
    let back = c.close.ensures in
    let read = c.read_facts-source in
    let opened = stays_opened got.known got.current got.files got.gone got.faults got.most in
    let closed = stays_closed back.kept back.known back.current back.files back.gone back.most in
    record {
      found = λ known same.
          let calm = still opened closed same in
          let o = got.opened known in
          let tells = tells_opened _ o (back.unfailed (got.known known) calm.1) in
          good_reading _ _ _ o (if_ok _ read.result.outcome c.in-Ok.facts c.in-Ok.is (read.ensures.facts tells)) (if_ok _ read.result.outcome c.in-Ok.facts c.in-Ok.is (read.ensures.container tells))
          (if_ok _ read.result.outcome c.in-Ok.facts c.in-Ok.is read.ensures.outside);
      stays = stays_then opened closed;
    }

pub returns-in-Err : goal.returns-in-Err
returns-in-Err g c =
    let got = c.in-Some.ensures in
    let back = c.close.ensures in
    let read = c.read_facts-source in
    let opened = stays_opened got.known got.current got.files got.gone got.faults got.most in
    let closed = stays_closed back.kept back.known back.current back.files back.gone back.most in
    record {
      found = λ known same.
          let calm = still opened closed same in
          let o = got.opened known in
          let tells = tells_opened _ o (back.unfailed (got.known known) calm.1) in
          bad_reading _ _ _ o (if_err _ read.result.outcome c.in-Err.flaw c.in-Err.is (read.ensures.flaw tells));
      stays = stays_then opened closed;
    }

pub returns-in-None : goal.returns-in-None
returns-in-None g c =
    let got = c.in-None.ensures in
    record {
      found = λ known same. unopened_reading _ (got.opened known);
      stays = stays_opened got.known got.current got.files got.gone got.faults got.most;
    }
