use Rattle.std.specs.Prelude.{⊤, option_map}
use Rattle.std.proofs.Common.{◌≡◌, ◌<◌, ◌++◌, ◌*◌, ◌^◌, length, inr, refl, sym, ap, subst, ◌∙◌, arith}
use Rattle.std.proofs.lemmas.Result.{err_from_is_err_and}
use Rattle.flac_bits.specs.Bits.{bits_of}
use Rattle.flac_bits.proofs.Holding.{length-bits_of, bits_of-append}
use Rattle.flac_encoder.specs.Pushing.{Shape, Pushed, shape_of, with_target, IsFirst}
use Rattle.flac_native.specs.declared.fault.EncodeFault.TheVariants.{Setup}
use Rattle.flac_encoder.specs.PushingOgg.{PushedOgg}
use Rattle.flac_encoder.proofs.PushedOgg.{opened_head, opened_ogg}
use Rattle.flac_draft.specs.OggDraft.{OggDrafts}
use Rattle.flac_draft.proofs.OggDrafting.{ogg_of, ogg_none, has_comment}
use Rattle.flac_draft.proofs.ogg_draft_encoder.OggDraftEncoder.new_in.Goals as goal

pub returns-in_err-headers : goal.returns-in_err-headers
returns-in_err-headers g c =
    let p = err_from_is_err_and c.from_residual.result c.from_residual.ensures.1 in
    rw (p.1, p.2) (record {
      made = tt;
      serial = tt;
      list = tt;
      table = tt;
      begun = tt;
      opens = tt;
      known = tt;
      counted = tt;
      names = tt;
      accepted = tt;
      refused = c.in_err-headers.ensures.refused;
      failed = λ is. absurd (c.in_err-headers.ensures.unsent is);
    })

pub returns-in_err-blocks : goal.returns-in_err-blocks
returns-in_err-blocks g c =
    let p = err_from_is_err_and c.from_residual-in_err-blocks.result c.from_residual-in_err-blocks.ensures.1 in
    let e = c.in_err-blocks.field-0.0 in
    rw (p.1, p.2) (record {
      made = tt;
      serial = tt;
      list = tt;
      table = tt;
      begun = tt;
      opens = tt;
      known = tt;
      counted = tt;
      names = tt;
      accepted = tt;
      refused = subst (λ o. IsFirst o e) (sym c.in_ok-headers.ensures.listed) (subst (λ o. IsFirst (option_map Setup o) e) c.in_ok-headers.ensures.accepted c.in_err-blocks.ensures.refused);
      failed = λ is. absurd (c.in_err-blocks.ensures.unsent is);
    })

pub returns-in-Ok : goal.returns-in-Ok
returns-in-Ok g c =
    let shape : Shape = shape_of c.args.format.now in
    let list = c.args.list in
    let h = c.in_ok-headers.headers in
    let ok = c.in_ok-headers.ensures in
    let t = c.send_all.new.target in
    let e : PushedOgg g.row.W.Denot = record { pushed = with_target c.in_ok-blocks.blocks t; serial = c.args.serial; sequence = h.held.next; middle = h.held.middle.items; last = h.held.last.items } in
    let made = ap (λ (b : Pushed ⊤). with_target b t) c.in_ok-blocks.ensures.made in
    let small : c.args.serial < 2 ^ 32 = omega (arith, c.ranges.serial.fits) in
    let sends = c.in-Ok.ensures.sends in
    let start = c.sent_len-start.result in
    let hasher = c.new-hasher.result in
    record {
      made = made;
      serial = refl;
      list = refl;
      table = refl;
      begun = λ known samples channels.
          let before = bits_of (g.W.Target.sent c.args.target) in
          let far : length before ≡ 8 * start = omega (arith, length-bits_of (g.W.Target.sent c.args.target), c.sent_len-start.ensures known) in
          let sent : bits_of (g.W.Target.sent t) ≡ before ++ bits_of h.sent.items = ap bits_of (sends.sent known ∙ ap (λ l. g.W.Target.sent c.args.target ++ l) c.as_slice.ensures.value) ∙ bits_of-append (g.W.Target.sent c.args.target) h.sent.items in
          subst (λ (b : Pushed ⊤). OggDrafts g.W.Target samples before (ogg_of b t list hasher 0 0 start c.args.serial h.held.next h.held.middle.items h.held.last.items)) (sym c.in_ok-blocks.ensures.made)
          (ogg_none g.W.Target samples before shape t list hasher start c.args.serial h ok.accepted c.blocks-blocks.ensures.good c.blocks-blocks.ensures.fits (has_comment shape list ok.accepted ok.listed) small ok.serial ok.made
          (channels ∙ ap (λ (b : Pushed ⊤). b.shape.channels) c.in_ok-blocks.ensures.made) c.new-hasher.ensures far sent);
      opens = opened_ogg g.W.Target shape list c.args.target h e ok.accepted c.blocks-blocks.ensures.good c.blocks-blocks.ensures.fits small ok.serial ok.made made refl refl refl (λ known. sends.sent known ∙ ap (λ l. g.W.Target.sent c.args.target ++ l) c.as_slice.ensures.value);
      known = sends.known;
      counted = sends.counted;
      names = sends.names;
      accepted = ok.listed;
      refused = tt;
      failed = tt;
    }

pub returns-in-Err : goal.returns-in-Err
returns-in-Err g c =
    let shape : Shape = shape_of c.args.format.now in
    let list = c.args.list in
    let h = c.in_ok-headers.headers in
    let ok = c.in_ok-headers.ensures in
    let t = c.send_all.new.target in
    let e : PushedOgg g.row.W.Denot = record { pushed = with_target c.in_ok-blocks.blocks t; serial = c.args.serial; sequence = h.held.next; middle = h.held.middle.items; last = h.held.last.items } in
    let made = ap (λ (b : Pushed ⊤). with_target b t) c.in_ok-blocks.ensures.made in
    let sends = c.in-Err.ensures.sends in
    record {
      made = tt;
      serial = tt;
      list = tt;
      table = tt;
      begun = tt;
      opens = tt;
      known = tt;
      counted = tt;
      names = tt;
      accepted = tt;
      refused = inr (ok.listed, inr refl);
      failed = λ is.
          let head = opened_head shape list h e ok.accepted c.blocks-blocks.ensures.good c.blocks-blocks.ensures.fits (omega (arith, c.ranges.serial.fits)) ok.serial ok.made made refl refl refl in (
            t,
            record {
              to = e;
              made = made;
              number = refl;
              packets = head.0;
              text = bits_of h.sent.items;
              opens = head.1;
              fails = record {
                fails = record { failed = sends.rises; risen = sends.risen; names = sends.names };
                begun = λ known.
                    let b = sends.begun known in
                    (bits_of b.0, bits_of b.1, ap bits_of (sym c.as_slice.ensures.value ∙ b.2) ∙ bits_of-append b.0 b.1, ap bits_of b.3 ∙ bits_of-append (g.W.Target.sent c.args.target) b.0);
              };
            },
          );
    }
