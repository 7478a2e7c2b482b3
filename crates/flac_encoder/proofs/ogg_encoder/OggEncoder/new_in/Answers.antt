use Rattle.std.specs.Prelude.{⊤, option_map}
use Rattle.std.proofs.Common.{◌++◌, inr, refl, sym, ap, subst, ◌∙◌, arith}
use Rattle.std.proofs.lemmas.Result.{err_from_is_err_and}
use Rattle.flac_bits.specs.Bits.{bits_of}
use Rattle.flac_encoder.specs.Pushing.{Shape, Pushed, shape_of, with_target, IsFirst, FailsIn}
use Rattle.flac_native.specs.declared.fault.EncodeFault.TheVariants.{Setup}
use Rattle.flac_encoder.specs.PushingOgg.{PushedOgg}
use Rattle.flac_encoder.proofs.PushedOgg.{opened_head, opened_ogg}
use Rattle.flac_encoder.proofs.ogg_encoder.OggEncoder.new_in.Goals as goal

pub returns-in_err-headers : goal.returns-in_err-headers
returns-in_err-headers g c =
    let p = err_from_is_err_and c.from_residual.result c.from_residual.ensures.1 in
    rw (p.1, p.2) (record {
      made = tt;
      serial = tt;
      opens = tt;
      known = tt;
      counted = tt;
      names = tt;
      accepted = tt;
      refused = c.in_err-headers.ensures.refused;
      failed = λ is. absurd (c.in_err-headers.ensures.unsent is);
    })

pub returns-in_err-blocks : goal.returns-in_err-blocks
returns-in_err-blocks g c =
    let p = err_from_is_err_and c.from_residual-in_err-blocks.result c.from_residual-in_err-blocks.ensures.1 in
    let e = c.in_err-blocks.field-0.0 in
    rw (p.1, p.2) (record {
      made = tt;
      serial = tt;
      opens = tt;
      known = tt;
      counted = tt;
      names = tt;
      accepted = tt;
      refused = subst (λ o. IsFirst o e) (sym c.in_ok-headers.ensures.listed) (subst (λ o. IsFirst (option_map Setup o) e) c.in_ok-headers.ensures.accepted c.in_err-blocks.ensures.refused);
      failed = λ is. absurd (c.in_err-blocks.ensures.unsent is);
    })

pub returns-in_err-target : goal.returns-in_err-target
returns-in_err-target g c =
    let p = err_from_is_err_and c.from_residual-in_err-target.result c.from_residual-in_err-target.ensures.1 in
    rw (p.1, p.2) (record {
      made = tt;
      serial = tt;
      opens = tt;
      known = tt;
      counted = tt;
      names = tt;
      accepted = tt;
      refused = inr (c.in_ok-headers.ensures.listed, inr c.in_err-target.ensures.write);
      failed = λ is.
          let shape : Shape = shape_of c.args.format.now in
          let h = c.in_ok-headers.headers in
          let left = c.in_err-target.ensures.failed in
          let e : PushedOgg _ = record { pushed = with_target c.in_ok-blocks.blocks left.0; serial = c.args.serial; sequence = h.held.next; middle = h.held.middle.items; last = h.held.last.items } in
          let made = ap (λ (b : Pushed ⊤). with_target b left.0) c.in_ok-blocks.ensures.made in
          let head =
          opened_head shape c.args.list.now h e c.in_ok-headers.ensures.accepted c.blocks-blocks.ensures.good c.blocks-blocks.ensures.fits (omega (arith, c.ranges.serial.fits)) c.in_ok-headers.ensures.serial c.in_ok-headers.ensures.made made refl refl refl in (
            left.0,
            record {
              to = e;
              made = made;
              number = refl;
              packets = head.0;
              text = bits_of h.sent.items;
              opens = head.1;
              fails = subst (λ b. FailsIn g.W.Target (bits_of b) c.args.target left.0) c.as_slice.ensures.value left.1;
            },
          );
    })

pub returns : goal.returns
returns g c =
    let shape : Shape = shape_of c.args.format.now in
    let h = c.in_ok-headers.headers in
    let t = c.in_ok-target.target in
    let e : PushedOgg _ = record { pushed = with_target c.in_ok-blocks.blocks t; serial = c.args.serial; sequence = h.held.next; middle = h.held.middle.items; last = h.held.last.items } in
    let made = ap (λ (b : Pushed ⊤). with_target b t) c.in_ok-blocks.ensures.made in
    let sends = c.in_ok-target.ensures in
    record {
      made = made;
      serial = refl;
      opens =
          opened_ogg g.W.Target shape c.args.list.now c.args.target h e c.in_ok-headers.ensures.accepted c.blocks-blocks.ensures.good c.blocks-blocks.ensures.fits (omega (arith, c.ranges.serial.fits)) c.in_ok-headers.ensures.serial
          c.in_ok-headers.ensures.made made refl refl refl (λ known. sends.sent known ∙ ap (λ l. g.W.Target.sent c.args.target ++ l) c.as_slice.ensures.value);
      known = sends.known;
      counted = sends.counted;
      names = sends.names;
      accepted = c.in_ok-headers.ensures.listed;
      refused = tt;
      failed = tt;
    }
