use Rattle.std.specs.Prelude.{⊤, option_map}
use Rattle.std.proofs.Common.{◌≡◌, ◌++◌, List, [], inr, refl, sym, ap, subst, ◌∙◌}
use Rattle.std.proofs.lemmas.List.{append-nil}
use Rattle.std.proofs.lemmas.Result.{err_from_is_err_and}
use Rattle.flac_bits.specs.Bits.{bits_of}
use Rattle.flac_info.specs.Info.{Info}
use Rattle.flac_meta.specs.declared.block.Block.{Block}
use Rattle.flac_native.specs.Seeking.{table_of}
use Rattle.flac_encoder.specs.Pushing.{Pushed, shape_of, open_info, with_target, StandsFor}
use Rattle.flac_native.specs.Whole.{head_parts}
use Rattle.flac_native.specs.Writing.{head_spelling}
use Rattle.flac_native.specs.declared.fault.EncodeFault.TheVariants.{Setup}
use Rattle.flac_encoder.proofs.Pushing.{opened}
use Rattle.flac_encoder.proofs.stream_encoder.StreamEncoder.new_in.Goals as goal

-- a head with no table
no_table : (i j : Info) (list table : List Block) → i ≡ j → table ≡ [] → head_spelling i (list ++ table) ≡ head_spelling j list
no_table i j list table e none =
    ap (λ k. head_spelling k (list ++ table)) e ∙ ap (λ l. head_spelling j (list ++ l)) none ∙ ap (head_spelling j) (append-nil list)

pub returns-in_err-blocks : goal.returns-in_err-blocks
returns-in_err-blocks g c =
    let p = err_from_is_err_and c.from_residual.result c.from_residual.ensures.1 in
    rw (p.1, p.2) (record {
      made = tt;
      stands = tt;
      written = tt;
      known = tt;
      counted = tt;
      names = tt;
      accepted = tt;
      refused = c.in_err-blocks.ensures.refused;
      failed = λ is. absurd (c.in_err-blocks.ensures.unsent is);
    })

pub returns-in-Ok : goal.returns-in-Ok
returns-in-Ok g c =
    let t = c.send_head.new.target in
    let list = c.args.list.now in
    let ok = c.in_ok-blocks.ensures in
    let sends = c.in-Ok.ensures.sends in
    let same = c.open_info-info.ensures ∙ sym (ap (λ (b : Pushed ⊤). open_info b.shape) ok.made) in
    record {
      made = ap (λ (b : Pushed ⊤). with_target b t) ok.made;
      stands =
          subst (λ (b : Pushed ⊤). StandsFor (with_target b t) (head_parts (open_info b.shape) list) (head_spelling (open_info b.shape) list)) (sym ok.made)
          (opened (shape_of c.args.format.now) t list ok.accepted c.blocks-blocks.ensures.good c.blocks-blocks.ensures.fits);
      written = λ known.
          sends.sent known ∙ ap (λ l. bits_of (g.W.Target.sent c.args.target) ++ l) (no_table _ _ list _ same (ap table_of c.new-points.ensures.items));
      known = sends.known;
      counted = sends.counted;
      names = sends.names;
      accepted = ok.accepted;
      refused = tt;
      failed = tt;
    }

pub returns-in-Err : goal.returns-in-Err
returns-in-Err g c =
    let sends = c.in-Err.ensures.sends in
    record {
      made = tt;
      stands = tt;
      written = tt;
      known = tt;
      counted = tt;
      names = tt;
      accepted = tt;
      refused = inr (ap (option_map Setup) c.in_ok-blocks.ensures.accepted, inr refl);
      failed = λ is. (
        c.send_head.new.target,
        record {
          fails = record { failed = sends.rises; risen = sends.risen; names = sends.names };
          begun = λ known. let b = sends.begun known in (b.0, b.1, sym (no_table _ _ c.args.list.now _ c.open_info-info.ensures (ap table_of c.new-points.ensures.items)) ∙ b.2, b.3);
        },
      );
    }
