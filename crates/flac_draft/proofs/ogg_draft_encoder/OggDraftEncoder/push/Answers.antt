use Rattle.std.specs.Prelude.{⊤}
use Rattle.std.proofs.Common.{◌≡◌, ◌+◌, ◌<◌, ◌^◌, ◌++◌, true, false, map, max, length, rules, inl, inr, refl, sym, ap, subst, ◌∙◌, arith}
use Rattle.std.proofs.lemmas.List.{length-map}
use Rattle.std.proofs.lemmas.Result.{err_from_is_err_and}
use Rattle.flac_bits.specs.Forms.{AreBytes}
use Rattle.flac_pages.specs.Placed.{sequence_after}
use Rattle.flac_frame.specs.Audio.{samples_each}
use Rattle.flac_native.specs.Message.{sample_width}
use Rattle.flac_native.proofs.EncodeFaults.{memory_write}
use Rattle.flac_encoder.specs.Pushing.{Shape, Pushed, after_block, spent_with, with_target, sound_of, frame_with, push_fault, IsFirst}
use Rattle.flac_encoder.specs.PushingOgg.{PushedOgg, frame_pages}
use Rattle.flac_encoder.proofs.Pushing.{shaped, accepted, same_fault, fault_seen}
use Rattle.flac_encoder.proofs.PushedOgg.{pushes_ogg, begins_ogg}
use Rattle.flac_draft.specs.OggDraft.{pushed_ogg}
use Rattle.flac_draft.specs.inner.Gathering.{least_after}
use Rattle.flac_draft.proofs.Drafting.{short_frame, least_small}
use Rattle.flac_draft.proofs.OggDrafting.{ogg_of, ogg_next}
use Rattle.flac_draft.proofs.ogg_draft_encoder.OggDraftEncoder.push.Goals as goal

pub overflow_add-end : goal.overflow_add-end
overflow_add-end g c =
    let b = c.self.inside.blocks in
    let a = accepted b (map (λ x. x.now) c.args.block.now) c.in_ok-packet.ensures.format c.in_ok-packet.ensures.accepted in
    let samples = c.samples-samples.ensures.value ∙ ap (λ (e : Pushed ⊤). e.samples) c.encode.ensures.kept in
    omega (arith, a.samples, c.block_len.ensures, samples)

pub feed_slices-requires-clause-few : goal.feed_slices-requires-clause-few
feed_slices-requires-clause-few g c =
    let b = c.self.inside.blocks in
    let block = map (λ x. x.now) c.args.block.now in
    let ok = c.in_ok-packet.ensures in
    let q = shaped b.shape ok.format in
    omega (arith, length-map c.args.block.now (λ x. x.now), (accepted b block ok.format ok.accepted).many, q.few)

pub feed_slices-requires-clause-width : goal.feed_slices-requires-clause-width
feed_slices-requires-clause-width g c = let q = shaped _ c.self.invariant.format in omega (arith, q.bits, c.sample_width-width.ensures)

pub sent-requires : goal.sent-requires
sent-requires g c = ap (λ (x : Pushed ⊤). push_fault x (map (λ x. x.now) c.args.block.now)) c.encode.ensures.kept ∙ c.in_ok-packet.ensures.accepted

pub invariant_of-self-in-Ok-send_all : goal.invariant_of-self-in-Ok-send_all
invariant_of-self-in-Ok-send_all g c =
    let b = c.self.inside.blocks in
    let block = map (λ x. x.now) c.args.block.now in
    let items = c.in_ok-packet.packet.items in
    let ok = c.in_ok-packet.ensures in
    let bytes : c.len-bytes.result ≡ length items = search rules in
    let short : length items < 2 ^ 24 = short_frame (sound_of b.shape block) (frame_with b.number block) items ok.next.spells in
    let few : c.len-bytes.result < 2 ^ 24 = omega (arith, bytes, short) in
    record {
      format = c.self.invariant.format;
      same = ap (λ (x : Pushed ⊤). x.shape) c.sent.ensures ∙ ap (λ (x : Pushed ⊤). x.shape) c.encode.ensures.kept ∙ c.self.invariant.same;
      least = subst (λ n. n < 2 ^ 24) (sym c.least_after-self-inside.ensures) (least_small c.samples-samples.result c.self.inside.least c.len-bytes.result c.self.invariant.least few);
      greatest = omega (arith, c.max-self-inside.ensures, c.self.invariant.greatest, few);
    }

pub returns-in_err-packet : goal.returns-in_err-packet
returns-in_err-packet g c =
    let p = err_from_is_err_and c.from_residual.result c.from_residual.ensures.1 in
    let k = c.self.inside in
    let block = map (λ x. x.now) c.args.block.now in
    let e = c.in_err-packet.ensures in
    rw (p.1, p.2, ← c.self.view_is) (record {
      next = tt;
      serial = refl;
      list = refl;
      table = refl;
      draft = tt;
      written = tt;
      known = tt;
      counted = tt;
      accepted = tt;
      refused = subst (λ o. IsFirst o c.in_err-packet.field-0.0) (fault_seen k.blocks k.target (with_target k.blocks k.target) block refl) e.refused;
      kept = λ other. ap (λ (x : Pushed ⊤). ogg_of x k.target k.list k.hasher k.least k.greatest k.start k.serial k.held.next k.held.middle.items k.held.last.items) e.kept;
      begun = λ is. absurd (e.unsent is);
      spent = λ is. absurd (e.unsent is);
      failed = λ is. absurd (e.unsent is);
      risen = λ is. absurd (e.unsent is);
      names = refl;
    })

pub returns-in_default : goal.returns-in_default
returns-in_default g c =
    let k = c.self.inside in
    let block = map (λ x. x.now) c.args.block.now in
    rw (← c.self.view_is) (record {
      next = tt;
      serial = refl;
      list = refl;
      table = refl;
      draft = tt;
      written = tt;
      known = tt;
      counted = tt;
      accepted = tt;
      refused = inr (sym (fault_seen k.blocks k.target (with_target k.blocks k.target) block refl) ∙ c.in_ok-packet.ensures.accepted, inl refl);
      kept = λ other. ap (λ (x : Pushed ⊤). ogg_of x k.target k.list k.hasher k.least k.greatest k.start k.serial k.held.next k.held.middle.items k.held.last.items) c.encode.ensures.kept;
      begun = λ is. absurd (memory_write is);
      spent = λ is. absurd (memory_write is);
      failed = λ is. absurd (memory_write is);
      risen = λ is. absurd (memory_write is);
      names = refl;
    })

pub returns-in-Ok-send_all : goal.returns-in-Ok-send_all
returns-in-Ok-send_all g c =
    let i = c.self.inside in
    let b = i.blocks in
    let s = i.target in
    let t = c.send_all.new.target in
    let block = map (λ x. x.now) c.args.block.now in
    let items = c.in_ok-packet.packet.items in
    let ok = c.in_ok-packet.ensures in
    let sends = c.in-Ok-send_all.ensures.sends in
    let d = ogg_of b s i.list i.hasher i.least i.greatest i.start i.serial i.held.next i.held.middle.items i.held.last.items in
    let old : PushedOgg g.row.W.Denot = pushed_ogg d in
    let took = accepted b block ok.format ok.accepted in
    let accept = accepted (with_target b s) block ok.format (same_fault b s block ∙ ok.accepted) in
    let h = c.in-Ok.held in
    let pages = c.in-Ok.ensures in
    let same : c.as_slice-frame.result.now ≡ items = c.as_slice-frame.ensures.value in
    let new : PushedOgg g.row.W.Denot = record { pushed = with_target c.sent.new.self t; serial = i.serial; sequence = h.next; middle = h.middle.items; last = h.last.items } in
    let pushed : new.pushed ≡ after_block old.pushed (samples_each block) t = ap (λ (x : Pushed ⊤). with_target x t) (c.sent.ensures ∙ ap (λ (x : Pushed ⊤). after_block x (samples_each block) tt) c.encode.ensures.kept) in
    let bytes : c.len-bytes.result ≡ length items = search rules in
    let samples = c.samples-samples.ensures.value ∙ ap (λ (x : Pushed ⊤). x.samples) c.encode.ensures.kept in
    let end : c.samples-samples.result + c.block_len.result ≡ b.samples + samples_each block = ap (λ n. n + c.block_len.result) samples ∙ ap (λ n. b.samples + n) c.block_len.ensures in
    let small = subst (λ l. AreBytes l) same pages.bytes in
    let next = pages.next ∙ ap (sequence_after i.held.next) same in
    let middle = pages.middle ∙ ap (λ n. frame_pages i.serial i.held.next n false c.as_slice-frame.result.now) end ∙ ap (frame_pages i.serial i.held.next (b.samples + samples_each block) false) same in
    let last = pages.last ∙ ap (λ n. frame_pages i.serial i.held.next n true c.as_slice-frame.result.now) end ∙ ap (frame_pages i.serial i.held.next (b.samples + samples_each block) true) same in
    let least = c.least_after-self-inside.ensures ∙ ap (λ n. least_after n i.least c.len-bytes.result) samples ∙ ap (λ n. least_after b.samples i.least n) bytes in
    let greatest = c.max-self-inside.ensures ∙ ap (max i.greatest) bytes in
    let sent = λ (known : g.W.Target.known s ≡ true). sends.sent known ∙ ap (λ l. g.W.Target.sent s ++ l) c.as_slice.ensures.value in
    rw (← c.self.view_is) (record {
      next = pushed;
      serial = refl;
      list = refl;
      table = refl;
      draft = λ known samples before o following.
          ogg_next g.W.Target samples block before d t c.feed_slices.new.hasher items h.next h.middle.items h.last.items new.pushed c.sample_width-width.result c.block_len-in-Ok-send_all.result c.least_after-self-inside.result c.max-self-inside.result o following
          took.number took.samples small ok.next.spells ok.next.least c.feed_slices.ensures next middle last (sent known) (c.sample_width-width.ensures ∙ ap (λ (x : Shape). sample_width x.bits) (sym c.self.invariant.same)) c.block_len-in-Ok-send_all.ensures
          pushed least greatest;
      written = λ known. pushes_ogg old new t block items ok.format accept ok.next.spells g.W.Target ok.next.least small pushed refl next middle last (sent known);
      known = sends.known;
      counted = sends.counted;
      accepted = sym (fault_seen b s (with_target b s) block refl) ∙ ok.accepted;
      refused = tt;
      kept = tt;
      begun = tt;
      spent = tt;
      failed = tt;
      risen = tt;
      names = sends.names;
    })

pub returns : goal.returns
returns g c =
    let i = c.self.inside in
    let b = i.blocks in
    let s = i.target in
    let t = c.send_all.new.target in
    let block = map (λ x. x.now) c.args.block.now in
    let items = c.in_ok-packet.packet.items in
    let ok = c.in_ok-packet.ensures in
    let sends = c.in-Err.ensures.sends in
    let old : PushedOgg g.row.W.Denot = pushed_ogg (ogg_of b s i.list i.hasher i.least i.greatest i.start i.serial i.held.next i.held.middle.items i.held.last.items) in
    let accept = accepted (with_target b s) block ok.format (same_fault b s block ∙ ok.accepted) in
    let h = c.in-Ok.held in
    let pages = c.in-Ok.ensures in
    let same : c.as_slice-frame.result.now ≡ items = c.as_slice-frame.ensures.value in
    let new : PushedOgg g.row.W.Denot = record { pushed = after_block old.pushed (samples_each block) t; serial = i.serial; sequence = h.next; middle = h.middle.items; last = h.last.items } in
    let now : PushedOgg g.row.W.Denot = record { pushed = with_target c.failed.new.self t; serial = i.serial; sequence = i.held.next; middle = i.held.middle.items; last = i.held.last.items } in
    let samples = c.samples-samples.ensures.value ∙ ap (λ (x : Pushed ⊤). x.samples) c.encode.ensures.kept in
    let end : c.samples-samples.result + c.block_len.result ≡ b.samples + samples_each block = ap (λ n. n + c.block_len.result) samples ∙ ap (λ n. b.samples + n) c.block_len.ensures in
    let small = subst (λ l. AreBytes l) same pages.bytes in
    let next = pages.next ∙ ap (sequence_after i.held.next) same in
    let middle = pages.middle ∙ ap (λ n. frame_pages i.serial i.held.next n false c.as_slice-frame.result.now) end ∙ ap (frame_pages i.serial i.held.next (b.samples + samples_each block) false) same in
    let last = pages.last ∙ ap (λ n. frame_pages i.serial i.held.next n true c.as_slice-frame.result.now) end ∙ ap (frame_pages i.serial i.held.next (b.samples + samples_each block) true) same in
    rw (← c.self.view_is) (record {
      next = tt;
      serial = refl;
      list = refl;
      table = refl;
      draft = tt;
      written = tt;
      known = tt;
      counted = tt;
      accepted = tt;
      refused = inr (sym (fault_seen b s (with_target b s) block refl) ∙ ok.accepted, inr refl);
      kept = λ other. absurd (other refl);
      begun = λ w known.
          let p = sends.begun known in
          begins_ogg old new t block items ok.format accept ok.next.spells g.W.Target now ok.next.least small refl refl next middle last p.0 p.1 (sym c.as_slice.ensures.value ∙ p.2) p.3;
      spent = λ w. ap (λ (x : Pushed ⊤). with_target x t) (c.failed.ensures ∙ ap (λ (x : Pushed ⊤). spent_with x tt) c.encode.ensures.kept);
      failed = λ w. sends.rises;
      risen = λ w. sends.risen;
      names = sends.names;
    })
