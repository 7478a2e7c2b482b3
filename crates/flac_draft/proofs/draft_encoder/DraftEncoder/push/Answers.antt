use Rattle.std.specs.Prelude.{⊤}
use Rattle.std.proofs.Common.{◌≡◌, ◌<◌, ◌^◌, ◌++◌, map, max, length, rules, inl, inr, refl, sym, ap, subst, ◌∙◌, arith}
use Rattle.std.proofs.lemmas.List.{length-map}
use Rattle.std.proofs.lemmas.Result.{err_from_is_err_and}
use Rattle.flac_frame.specs.Audio.{samples_each}
use Rattle.flac_native.specs.Message.{sample_width}
use Rattle.flac_native.specs.declared.fault.EncodeFault.TheVariants.{Memory, Write}
use Rattle.flac_encoder.specs.Pushing.{Shape, Pushed, with_target, after_block, spent_with, sound_of, frame_with, IsFirst}
use Rattle.flac_encoder.proofs.Pushing.{shaped, accepted, fault_seen, pushes, begins_push}
use Rattle.flac_draft.specs.Table.{Table, pointed, lengthened}
use Rattle.flac_draft.specs.inner.Gathering.{AreBefore, least_after}
use Rattle.flac_draft.proofs.Drafting.{draft_of, draft_next, short_frame, least_small}
use Rattle.flac_draft.proofs.Points.{pointed_before}
use Rattle.flac_draft.proofs.draft_encoder.DraftEncoder.push.Goals as goal

pub feed_slices-requires-clause-few : goal.feed_slices-requires-clause-few
feed_slices-requires-clause-few g c =
    let b = c.self.inside.blocks in
    let block = map (λ x. x.now) c.args.block.now in
    let ok = c.in_ok-frame.ensures in
    let q = shaped b.shape ok.format in
    omega (arith, length-map c.args.block.now (λ x. x.now), (accepted b block ok.format ok.accepted).many, q.few)

pub feed_slices-requires-clause-width : goal.feed_slices-requires-clause-width
feed_slices-requires-clause-width g c = let q = shaped _ c.self.invariant.format in omega (arith, q.bits, c.sample_width-width.ensures)

pub note-requires-clause-size : goal.note-requires-clause-size
note-requires-clause-size g c = let q = shaped _ c.self.invariant.format in (q.least, q.small)

pub note-requires-clause-before : goal.note-requires-clause-before
note-requires-clause-before g c =
    let b = c.self.inside.blocks in
    let ok = c.in_ok-frame.ensures in
    let samples = c.samples-samples.ensures.value ∙ ap (λ (x : Pushed ⊤). x.samples) ok.kept in
    subst (λ n. AreBefore n c.self.inside.table.points) (sym samples) (c.self.invariant.points (accepted b (map (λ x. x.now) c.args.block.now) ok.format ok.accepted).unspent)

pub count-requires : goal.count-requires
count-requires g c =
    let b = c.self.inside.blocks in
    let block = map (λ x. x.now) c.args.block.now in
    let items = c.in_ok-frame.frame.items in
    let ok = c.in_ok-frame.ensures in
    let bytes : c.len-bytes.result ≡ length items = search rules in
    let short : length items < 2 ^ 24 = short_frame (sound_of b.shape block) (frame_with b.number block) items ok.next.spells in
    let noted : c.note.new.self.bytes ≡ c.self.inside.table.bytes = ap (λ (t : Table). t.bytes) c.in-Ok.ensures.noted in
    omega (arith, c.self.invariant.bytes, (accepted b block ok.format ok.accepted).number, bytes, short, noted)

pub invariant_of-self-in-Ok-send_all : goal.invariant_of-self-in-Ok-send_all
invariant_of-self-in-Ok-send_all g c =
    let b = c.self.inside.blocks in
    let block = map (λ x. x.now) c.args.block.now in
    let items = c.in_ok-frame.frame.items in
    let ok = c.in_ok-frame.ensures in
    let bytes : c.len-bytes.result ≡ length items = search rules in
    let short : length items < 2 ^ 24 = short_frame (sound_of b.shape block) (frame_with b.number block) items ok.next.spells in
    let few : c.len-bytes.result < 2 ^ 24 = omega (arith, bytes, short) in
    let took = accepted b block ok.format ok.accepted in
    let after = c.sent.ensures ∙ ap (λ (x : Pushed ⊤). after_block x (samples_each block) tt) ok.kept in
    let samples = c.samples-samples.ensures.value ∙ ap (λ (x : Pushed ⊤). x.samples) ok.kept in
    let table = c.count.ensures ∙ ap (lengthened c.len-bytes.result) c.in-Ok.ensures.noted in
    record {
      format = c.self.invariant.format;
      same = ap (λ (x : Pushed ⊤). x.shape) c.sent.ensures ∙ ap (λ (x : Pushed ⊤). x.shape) ok.kept ∙ c.self.invariant.same;
      least = subst (λ n. n < 2 ^ 24) (sym c.least_after-self-inside.ensures) (least_small c.samples-samples.result c.self.inside.least c.len-bytes.result c.self.invariant.least few);
      greatest = omega (arith, c.max-self-inside.ensures, c.self.invariant.greatest, few);
      bytes = omega (arith, few, c.self.invariant.bytes, ap (λ (t : Table). t.bytes) table, ap (λ (x : Pushed ⊤). x.number) after);
      points = λ unspent.
          subst (λ (t : Table). AreBefore c.sent.new.self.samples t.points) (sym table)
          (pointed_before c.self.inside.format.block_size c.samples-samples.result c.sent.new.self.samples c.self.inside.table (omega (arith, samples, ap (λ (x : Pushed ⊤). x.samples) after, took.some))
          (subst (λ n. AreBefore n c.self.inside.table.points) (sym samples) (c.self.invariant.points took.unspent)));
    }

pub returns-in_err-frame : goal.returns-in_err-frame
returns-in_err-frame g c =
    let p = err_from_is_err_and c.from_residual.result c.from_residual.ensures.1 in
    let i = c.self.inside in
    let block = map (λ b. b.now) c.args.block.now in
    let e = c.in_err-frame.ensures in
    rw (p.1, p.2, ← c.self.view_is) (record {
      next = tt;
      list = refl;
      stated = record { total = refl; every = refl };
      draft = tt;
      written = tt;
      known = tt;
      counted = tt;
      accepted = tt;
      refused = subst (λ o. IsFirst o c.in_err-frame.field-0.0) (fault_seen i.blocks i.target (with_target i.blocks i.target) block refl) e.refused;
      kept = λ other. ap (λ (b : Pushed ⊤). draft_of b i.target i.list i.hasher i.least i.greatest i.start i.table) e.kept;
      begun = λ is. absurd (e.unsent is);
      spent = λ is. absurd (e.unsent is);
      failed = λ is. absurd (e.unsent is);
      risen = λ is. absurd (e.unsent is);
      names = refl;
    })

-- out of memory is no error of the target
no_write : {X : Type 0} → Memory ≡ Write → X
no_write e = absurd cc

pub returns-in_default : goal.returns-in_default
returns-in_default g c =
    let i = c.self.inside in
    let s = i.target in
    let block = map (λ x. x.now) c.args.block.now in
    let ok = c.in_ok-frame.ensures in
    let table = c.in_default.ensures.kept in
    rw (← c.self.view_is) (record {
      next = tt;
      list = refl;
      stated = record { total = ap (λ (t : Table). t.total) table; every = ap (λ (t : Table). t.every) table };
      draft = tt;
      written = tt;
      known = tt;
      counted = tt;
      accepted = tt;
      refused = inr (sym (fault_seen i.blocks s (with_target i.blocks s) block refl) ∙ ok.accepted, inl refl);
      kept = λ other.
          ap (λ (b : Pushed ⊤). draft_of b s i.list i.hasher i.least i.greatest i.start c.note.new.self) ok.kept ∙ ap (λ (t : Table). draft_of i.blocks s i.list i.hasher i.least i.greatest i.start t) table;
      begun = λ w. no_write w;
      spent = λ w. no_write w;
      failed = λ w. no_write w;
      risen = λ w. no_write w;
      names = refl;
    })

pub returns-in-Ok-send_all : goal.returns-in-Ok-send_all
returns-in-Ok-send_all g c =
    let i = c.self.inside in
    let b = i.blocks in
    let s = i.target in
    let t = c.send_all.new.target in
    let block = map (λ x. x.now) c.args.block.now in
    let items = c.in_ok-frame.frame.items in
    let ok = c.in_ok-frame.ensures in
    let sends = c.in-Ok-send_all.ensures.sends in
    let same = ap (λ (x : Pushed ⊤). with_target x t) (c.sent.ensures ∙ ap (λ (x : Pushed ⊤). after_block x (samples_each block) tt) ok.kept) in
    let bytes : c.len-bytes.result ≡ length items = search rules in
    let least = c.least_after-self-inside.ensures ∙ ap (λ n. least_after n i.least c.len-bytes.result) (c.samples-samples.ensures.value ∙ ap (λ (x : Pushed ⊤). x.samples) ok.kept) ∙ ap (λ n. least_after b.samples i.least n) bytes in
    let greatest = c.max-self-inside.ensures ∙ ap (max i.greatest) bytes in
    let samples = c.samples-samples.ensures.value ∙ ap (λ (x : Pushed ⊤). x.samples) ok.kept in
    let size = ap (λ (x : Shape). x.block_size) (sym c.self.invariant.same) in
    let noted = c.in-Ok.ensures.noted ∙ ap (λ n. pointed n c.samples-samples.result i.table) size ∙ ap (λ n. pointed b.shape.block_size n i.table) samples in
    let table = c.count.ensures ∙ ap (λ n. lengthened n c.note.new.self) bytes ∙ ap (lengthened (length items)) noted in
    rw (← c.self.view_is) (record {
      next = same;
      list = refl;
      stated = record { total = ap (λ (t : Table). t.total) table; every = ap (λ (t : Table). t.every) table };
      draft = λ known samples before o next.
          draft_next g.W.Target samples block before (draft_of b s i.list i.hasher i.least i.greatest i.start i.table) t c.feed_slices.new.hasher items (with_target c.sent.new.self t) c.sample_width-width.result c.block_len.result c.least_after-self-inside.result
          c.max-self-inside.result c.count.new.self o next (accepted b block ok.format ok.accepted).number ok.next.spells ok.next.least c.feed_slices.ensures (sends.sent known ∙ ap (λ l. g.W.Target.sent s ++ l) c.as_slice.ensures.value)
          (c.sample_width-width.ensures ∙ ap (λ (x : Shape). sample_width x.bits) (sym c.self.invariant.same)) c.block_len.ensures same least greatest table;
      written = λ known. pushes g.W.Target b tt s t block items ok.next (with_target c.sent.new.self t) same (sends.sent known ∙ ap (λ l. g.W.Target.sent s ++ l) c.as_slice.ensures.value);
      known = sends.known;
      counted = sends.counted;
      accepted = sym (fault_seen b s (with_target b s) block refl) ∙ ok.accepted;
      refused = tt;
      kept = tt;
      begun = tt;
      spent = tt;
      failed = tt;
      risen = tt;
      names = sends.names;
    })

pub returns : goal.returns
returns g c =
    let b = c.self.inside.blocks in
    let s = c.self.inside.target in
    let t = c.send_all.new.target in
    let block = map (λ x. x.now) c.args.block.now in
    let ok = c.in_ok-frame.ensures in
    let sends = c.in-Err.ensures.sends in
    let noted = c.in-Ok.ensures.noted in
    rw (← c.self.view_is) (record {
      next = tt;
      list = refl;
      stated = record { total = ap (λ (t : Table). t.total) noted; every = ap (λ (t : Table). t.every) noted };
      draft = tt;
      written = tt;
      known = tt;
      counted = tt;
      accepted = tt;
      refused = inr (sym (fault_seen b s (with_target b s) block refl) ∙ ok.accepted, inr refl);
      kept = λ other. absurd (other refl);
      begun = λ w known.
          let p = sends.begun known in
          begins_push g.W.Target b tt s t block c.in_ok-frame.frame.items ok.next (with_target c.failed.new.self t) p.0 p.1 refl (sym c.as_slice.ensures.value ∙ p.2) p.3;
      spent = λ w. ap (λ (x : Pushed ⊤). with_target x t) (c.failed.ensures ∙ ap (λ (x : Pushed ⊤). spent_with x tt) ok.kept);
      failed = λ w. sends.rises;
      risen = λ w. sends.risen;
      names = sends.names;
    })
