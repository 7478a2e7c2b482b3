use Rattle.std.specs.Prelude.{⊤, option_map}
use Rattle.std.proofs.Common.{◌≡◌, ◌++◌, ◌*◌, List, None, length, inr, refl, sym, ap, subst, ◌∙◌, arith}
use Rattle.std.proofs.lemmas.Result.{err_from_is_err_and}
use Rattle.flac_bits.specs.Bits.{bits_of}
use Rattle.flac_bits.proofs.Holding.{length-bits_of}
use Rattle.flac_info.specs.Info.{Info}
use Rattle.flac_meta.specs.declared.block.Block.{Block}
use Rattle.flac_meta.specs.declared.seek_table.SeekPoint.{SeekPoint}
use Rattle.flac_meta.specs.Listed.{block_fault}
use Rattle.flac_meta.specs.declared.block.Block.TheVariants as blocks
use Rattle.flac_native.specs.Seeking.{table_of}
use Rattle.flac_native.specs.Writing.{head_spelling}
use Rattle.flac_native.specs.declared.fault.EncodeFault.TheVariants.{Setup}
use Rattle.flac_encoder.specs.Pushing.{Pushed, shape_of, open_info, with_target}
use Rattle.flac_encoder.proofs.Pushing.{shaped}
use Rattle.flac_draft.specs.Table.{reserved, with_place}
use Rattle.flac_draft.specs.Draft.{Drafts}
use Rattle.flac_draft.proofs.Drafting.{draft_none}
use Rattle.flac_draft.proofs.Planned.{place_may}
use Rattle.flac_draft.proofs.draft_encoder.DraftEncoder.begin.Goals as goal

-- a head with the place for the table
placed : (i j : Info) (list : List Block) (xs ys : List SeekPoint) → i ≡ j → xs ≡ ys → head_spelling i (list ++ table_of xs) ≡ head_spelling j (list ++ table_of ys)
placed i j list xs ys e same = ap (λ k. head_spelling k (list ++ table_of xs)) e ∙ ap (λ l. head_spelling j (list ++ table_of l)) same

pub returns-in_err-blocks : goal.returns-in_err-blocks
returns-in_err-blocks g c =
    let p = err_from_is_err_and c.from_residual.result c.from_residual.ensures.1 in
    rw (p.1, p.2) (record {
      made = tt;
      list = tt;
      table = tt;
      begun = tt;
      written = tt;
      known = tt;
      counted = tt;
      names = tt;
      accepted = tt;
      refused = c.in_err-blocks.ensures.refused;
      failed = λ is. absurd (c.in_err-blocks.ensures.unsent is);
    })

pub send_head-requires : goal.send_head-requires
send_head-requires g c = subst (λ x. block_fault (blocks.SeekTable x) ≡ None) (sym c.in-Ok.ensures) (place_may (shape_of c.args.format.now) c.args.list c.args.table (c.requires.fits c.in_ok-blocks.ensures.accepted))

pub reserved-requires : goal.reserved-requires
reserved-requires g c = let q = shaped (shape_of c.args.format.now) c.in_ok-blocks.ensures.accepted in record { size = (q.least, q.small) }

pub returns-in-Ok-send_head : goal.returns-in-Ok-send_head
returns-in-Ok-send_head g c =
    let t = c.send_head.new.target in
    let list = c.args.list in
    let ok = c.in_ok-blocks.ensures in
    let sends = c.in-Ok-send_head.ensures.sends in
    let shape = shape_of c.args.format.now in
    let table = c.args.table in
    let head = placed c.info_with-info.result (open_info shape) list _ (reserved shape.block_size table) c.info_with-info.ensures c.in-Ok.ensures in
    record {
      made = ap (λ (b : Pushed ⊤). with_target b t) ok.made;
      list = refl;
      table = refl;
      begun = λ known samples channels.
          let before = bits_of (g.W.Target.sent c.args.target) in
          let far : length before ≡ 8 * c.sent_len-start.result = omega (arith, length-bits_of (g.W.Target.sent c.args.target), c.sent_len-start.ensures known) in
          subst (λ (b : Pushed ⊤). Drafts g.W.Target samples before (record { pushed = with_target b t; list = list; hasher = c.new-hasher.result; least = 0; greatest = 0; start = c.sent_len-start.result; table = table })) (sym ok.made)
          (draft_none g.W.Target samples before shape t list c.new-hasher.result c.sent_len-start.result table ok.accepted c.blocks-blocks.ensures.good c.blocks-blocks.ensures.fits (c.requires.fits ok.accepted) c.requires.points c.requires.bytes (channels ∙ ap (λ (b : Pushed ⊤). b.shape.channels) ok.made) c.new-hasher.ensures far
          (sends.sent known ∙ ap (λ l. before ++ l) head));
      written = λ known. sends.sent known ∙ ap (λ l. bits_of (g.W.Target.sent c.args.target) ++ l) (head ∙ sym (ap (λ (b : Pushed ⊤). head_spelling (open_info b.shape) (with_place shape.block_size table list)) ok.made));
      known = sends.known;
      counted = sends.counted;
      names = sends.names;
      accepted = ok.accepted;
      refused = tt;
      failed = tt;
    }

pub returns-in-Err : goal.returns-in-Err
returns-in-Err g c =
    let sends = c.in-Err.ensures.sends in
    record {
      made = tt;
      list = tt;
      table = tt;
      begun = tt;
      written = tt;
      known = tt;
      counted = tt;
      names = tt;
      accepted = tt;
      refused = inr (ap (option_map Setup) c.in_ok-blocks.ensures.accepted, inr refl);
      failed = λ is. (
        c.send_head.new.target,
        record {
          fails = record { failed = sends.rises; risen = sends.risen; names = sends.names };
          begun = λ known. let b = sends.begun known in (b.0, b.1, sym (placed _ _ c.args.list _ (reserved (shape_of c.args.format.now).block_size c.args.table) c.info_with-info.ensures c.in-Ok.ensures) ∙ b.2, b.3);
        },
      );
    }
