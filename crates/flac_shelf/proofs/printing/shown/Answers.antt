use Rattle.std.proofs.Common.{◌≡◌, true, false, subst, sym}
use Rattle.std.specs.Prelude.{IsUtf8}
use Rattle.flac_shelf.proofs.Paths.{shown_utf8}
use Rattle.flac_shelf.proofs.printing.shown.Goals as goal

pub unreachable-requires : goal.unreachable-requires
unreachable-requires c =
    let is = c.in_ok-shown_bytes.ensures in
    let text = subst IsUtf8 (sym is) (shown_utf8 c.as_bytes.result.now c.as_bytes.ensures.utf8) in
    absurd (let both : false ≡ true = c.in-Err.ensures.succeeds text in cc)
