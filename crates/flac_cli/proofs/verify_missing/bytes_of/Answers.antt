use Rattle.std.proofs.Common.{refl, sym, subst}
use Rattle.flac_cli.specs.inner.Missing.{IsUnread}
use Rattle.flac_cli.specs.declared.verify_missing.Unlisted.TheVariants.{Unsurveyed}
use Rattle.flac_cli.proofs.Missing.{contents_read, contents_unread}
use Rattle.flac_cli.proofs.Verifying.{stays_then, stays_opened, stays_closed, still}
use Rattle.flac_cli.proofs.verify_missing.bytes_of.Goals as goal

pub returns-in-Ok : goal.returns-in-Ok
returns-in-Ok g c =
    let got = c.in-Some.ensures in
    let back = c.close.ensures in
    record {
      read = λ known same. contents_read g.S.File.Source c.in-Some.file _ (got.opened known) c.in-Ok.ensures.bytes;
      unread = λ known same. tt;
      stays = stays_then (stays_opened got.known got.current got.files got.gone got.faults got.most) (stays_closed back.kept back.known back.current back.files back.gone back.most);
    }

pub returns-in-Err : goal.returns-in-Err
returns-in-Err g c =
    let got = c.in-Some.ensures in
    let back = c.close-in-Err.ensures in
    let opened = stays_opened got.known got.current got.files got.gone got.faults got.most in
    let closed = stays_closed back.kept back.known back.current back.files back.gone back.most in
    record {
      read = λ known same. tt;
      unread = λ known same.
          let calm = still opened closed same in
          contents_unread g.S.File.Source c.in-Some.file _ _ _ (got.opened known) c.in-Err.ensures.memory c.of.ensures (back.unfailed (got.known known) calm.1).1;
      stays = stays_then opened closed;
    }

pub returns-in-None : goal.returns-in-None
returns-in-None g c =
    let got = c.in-None.ensures in
    record {
      read = λ known same. tt;
      unread = λ known same. subst (λ k. IsUnread k Unsurveyed) (sym (got.opened known)) refl;
      stays = stays_opened got.known got.current got.files got.gone got.faults got.most;
    }
