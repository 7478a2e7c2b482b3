use Rattle.std.proofs.Common.{◌≡◌, ◌∙◌, true, None, refl, inl}
use Rattle.std.proofs.lemmas.Result.{err_from_is_err_and}
use Rattle.flac_bits.specs.Bits.{bits_of}
use Rattle.flac_cli.specs.Asked.{asked_of}
use Rattle.flac_cli.specs.Salvages.{SalvagesInput, HasBegunInput, IsInputReason}
use Rattle.flac_cli.proofs.Salvages.{moved, moved_lines, moved_reason, begun_of_left, reason_of_left, no_memory, not_input}
use Rattle.flac_cli.proofs.salvage.salvage_source.Goals as goal

pub returns : goal.returns
returns g c =
    let asked = asked_of c.args.encoding.now in
    let e = c.in_ok-text.ensures in
    let is = c.fills-silence.ensures in
    let same = λ (known : g.R.Source.known c.args.source.now ≡ true). c.in_ok-bytes.ensures.bytes known in
    let left = c.in_ok-left.left in
    let native = c.in_ok-left.ensures.left in
    record {
      written = λ known sent.
          moved (λ b l. SalvagesInput asked b l (bits_of (g.W.Target.sent c.args.target.now)) (bits_of (g.W.Target.sent c.salvage_left.new.target))) _ _ _ _ is (same known)
          (record { left = left; native = native; says = e.written sent });
      lines = λ known. moved_lines _ _ _ _ (same known) (record { left = left; native = native; lines = e.lines });
      begun = tt;
      accepted = λ known. moved (λ b l. IsInputReason asked b l None) _ _ _ _ is (same known) (record { left = left; native = native; says = e.accepted });
      refused = tt;
      failed = tt;
    }

pub returns-in_err-bytes : goal.returns-in_err-bytes
returns-in_err-bytes g c =
    let p = err_from_is_err_and c.from_residual.result c.from_residual.ensures.1 in
    rw (p.1, p.2) (record {
      written = tt;
      lines = tt;
      begun = λ known sent. inl refl;
      accepted = tt;
      refused = λ tells. no_memory _ (c.in_err-bytes.ensures.memory tells.0 tells.2);
      failed = λ is. not_input _ is;
    })

pub returns-in_err-left : goal.returns-in_err-left
returns-in_err-left g c =
    let p = err_from_is_err_and c.from_residual-in_err-left.result c.from_residual-in_err-left.ensures.1 in
    rw (p.1, p.2) (record {
      written = tt;
      lines = tt;
      begun = λ known sent. inl refl;
      accepted = tt;
      refused = λ tells. no_memory _ c.in_err-left.ensures.memory;
      failed = λ is. not_input _ is;
    })

pub returns-in_err-text : goal.returns-in_err-text
returns-in_err-text g c =
    let p = err_from_is_err_and c.from_residual-in_err-text.result c.from_residual-in_err-text.ensures.1 in
    let asked = asked_of c.args.encoding.now in
    let e = c.in_err-text.ensures in
    let is = c.fills-silence.ensures in
    let same = λ (known : g.R.Source.known c.args.source.now ≡ true). c.in_ok-bytes.ensures.bytes known in
    let left = c.in_ok-left.left in
    let native = c.in_ok-left.ensures.left in
    rw (p.1, p.2) (record {
      written = tt;
      lines = tt;
      begun = λ known sent.
          moved (λ b l. HasBegunInput asked b l (bits_of (g.W.Target.sent c.args.target.now)) (bits_of (g.W.Target.sent c.salvage_left.new.target))) _ _ _ _ is (same known)
          (begun_of_left asked _ _ left native _ _ (e.begun sent));
      accepted = tt;
      refused = λ tells. moved_reason asked _ _ _ _ _ is (same tells.0) (reason_of_left asked _ _ left native _ e.refused);
      failed = e.failed;
    })
