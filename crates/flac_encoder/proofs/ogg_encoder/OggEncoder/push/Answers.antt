use Rattle.std.specs.Prelude.{⊤}
use Rattle.std.proofs.Common.{◌≡◌, ◌+◌, ◌++◌, ℕ, List, true, false, map, inl, inr, refl, sym, ap, subst, ◌∙◌, arith}
use Rattle.std.proofs.lemmas.Result.{err_from_is_err_and}
use Rattle.flac_bits.specs.Bits.{bits_of}
use Rattle.flac_frame.specs.Audio.{samples_each}
use Rattle.flac_encoder.specs.Pushing.{Pushed, after_block, spent_with, with_target, sound_of, frame_with, push_fault, IsFirst, SpellsLeastFound}
use Rattle.flac_native.specs.Writing.{SpellsFrame}
use Rattle.flac_native.proofs.EncodeFaults.{memory_write}
use Rattle.flac_encoder.proofs.Pushing.{accepted, same_fault, fault_seen}
use Rattle.flac_pages.specs.Written.{packet_spelling}
use Rattle.flac_pages.specs.declared.writing.PacketKind.TheVariants.{Frame}
use Rattle.flac_encoder.specs.PushingOgg.{PushedOgg}
use Rattle.flac_encoder.proofs.PushedOgg.{pushes_ogg, begins_ogg}
use Rattle.flac_encoder.proofs.ogg_encoder.OggEncoder.push.Goals as goal

abbrev with_held : {S : Type 0} → Pushed ⊤ → S → ℕ → ℕ → List ℕ → List ℕ → PushedOgg S
with_held b t serial sequence middle last = record { pushed = with_target b t; serial = serial; sequence = sequence; middle = middle; last = last }

pub overflow_add-end : goal.overflow_add-end
overflow_add-end g c =
    let b = c.self.inside.blocks in
    let a = accepted b (map (λ x. x.now) c.args.block.now) c.in_ok-packet.ensures.format c.in_ok-packet.ensures.accepted in
    let samples = c.samples.ensures.value ∙ ap (λ (e : Pushed ⊤). e.samples) c.encode.ensures.kept in
    omega (arith, a.samples, c.block_len.ensures, samples)

pub sent-requires : goal.sent-requires
sent-requires g c = ap (λ (x : Pushed ⊤). push_fault x (map (λ x. x.now) c.args.block.now)) c.encode.ensures.kept ∙ c.in_ok-packet.ensures.accepted

pub returns-in_err-packet : goal.returns-in_err-packet
returns-in_err-packet g c =
    let p = err_from_is_err_and c.from_residual.result c.from_residual.ensures.1 in
    let k = c.self.inside in
    let block = map (λ x. x.now) c.args.block.now in
    let e = c.in_err-packet.ensures in
    rw (p.1, p.2) (rw (← c.self.view_is) (record {
      next = tt;
      serial = refl;
      written = tt;
      known = tt;
      counted = tt;
      accepted = tt;
      refused = subst (λ o. IsFirst o c.in_err-packet.field-0.0) (fault_seen k.blocks k.target (with_target k.blocks k.target) block refl) e.refused;
      kept = λ other. ap (λ x. with_held x k.target k.serial k.held.next k.held.middle.items k.held.last.items) e.kept;
      begun = λ is. absurd (e.unsent is);
      spent = λ is. absurd (e.unsent is);
      failed = λ is. absurd (e.unsent is);
      risen = λ is. absurd (e.unsent is);
      names = refl;
    }))

pub returns-in_default : goal.returns-in_default
returns-in_default g c =
    let k = c.self.inside in
    let block = map (λ x. x.now) c.args.block.now in
    rw (← c.self.view_is) (record {
      next = tt;
      serial = refl;
      written = tt;
      known = tt;
      counted = tt;
      accepted = tt;
      refused = inr (sym (fault_seen k.blocks k.target (with_target k.blocks k.target) block refl) ∙ c.in_ok-packet.ensures.accepted, inl refl);
      kept = λ other. ap (λ x. with_held x k.target k.serial k.held.next k.held.middle.items k.held.last.items) c.encode.ensures.kept;
      begun = λ is. absurd (memory_write is);
      spent = λ is. absurd (memory_write is);
      failed = λ is. absurd (memory_write is);
      risen = λ is. absurd (memory_write is);
      names = refl;
    })

pub returns-in-Ok-send_all : goal.returns-in-Ok-send_all
returns-in-Ok-send_all g c =
    let b = c.self.inside.blocks in
    let s = c.self.inside.target in
    let t = c.send_all.new.target in
    let block = map (λ x. x.now) c.args.block.now in
    let ok = c.in_ok-packet.ensures in
    let sends = c.in-Ok-send_all.ensures.sends in
    let old : PushedOgg g.row.W.Denot = with_held b s c.self.inside.serial c.self.inside.held.next c.self.inside.held.middle.items c.self.inside.held.last.items in
    let shape = ok.format in
    let accept = accepted (with_target b s) block shape (same_fault b s block ∙ ok.accepted) in
    let is = ok.next in
    let h = c.in-Ok.held in
    let packet : List ℕ = c.as_slice.result.now in
    let same = sym c.as_slice.ensures.value in
    let new : PushedOgg g.row.W.Denot = with_held c.sent.new.self t old.serial h.next h.middle.items h.last.items in
    let pushed : new.pushed ≡ after_block old.pushed (samples_each block) t =
    ap (λ (x : Pushed ⊤). with_target x t) (c.sent.ensures ∙ ap (λ (x : Pushed ⊤). after_block x (samples_each block) tt) c.encode.ensures.kept) in
    rw (← c.self.view_is) (record {
      next = pushed;
      serial = refl;
      written = λ known.
          let frame = subst (λ p. SpellsFrame (sound_of old.pushed.shape block) (frame_with old.pushed.number block) (bits_of p)) same is.spells in
          let least = subst (λ p. SpellsLeastFound old.pushed.search old.pushed.predictors (sound_of old.pushed.shape block) (frame_with old.pushed.number block) (bits_of p)) same is.least in
          let end : c.samples.result + c.block_len.result ≡ b.samples + samples_each block =
          ap (λ n. n + c.block_len.result) (c.samples.ensures.value ∙ ap (λ (e : Pushed ⊤). e.samples) c.encode.ensures.kept) ∙ ap (λ n. b.samples + n) c.block_len.ensures in
          let middle = c.in-Ok.ensures.middle ∙ ap (λ n. packet_spelling (record { serial = old.serial; sequence = old.sequence; kind = Frame n; first = false; last = false }) packet) end in
          let last = c.in-Ok.ensures.last ∙ ap (λ n. packet_spelling (record { serial = old.serial; sequence = old.sequence; kind = Frame n; first = false; last = true }) packet) end in
          pushes_ogg old new t block packet shape accept frame g.W.Target least c.in-Ok.ensures.bytes pushed refl c.in-Ok.ensures.next middle last
          (sends.sent known ∙ ap (λ l. g.W.Target.sent s ++ l) c.as_slice-2.ensures.value);
      known = sends.known;
      counted = sends.counted;
      accepted = sym (fault_seen b s (with_target b s) block refl) ∙ ok.accepted;
      refused = tt;
      kept = tt;
      begun = tt;
      spent = tt;
      failed = tt;
      risen = tt;
      names = sends.names;
    })

pub returns : goal.returns
returns g c =
    let b = c.self.inside.blocks in
    let s = c.self.inside.target in
    let t = c.send_all.new.target in
    let block = map (λ x. x.now) c.args.block.now in
    let ok = c.in_ok-packet.ensures in
    let sends = c.in-Err.ensures.sends in
    let old : PushedOgg g.row.W.Denot = with_held b s c.self.inside.serial c.self.inside.held.next c.self.inside.held.middle.items c.self.inside.held.last.items in
    let shape = ok.format in
    let accept = accepted (with_target b s) block shape (same_fault b s block ∙ ok.accepted) in
    let is = ok.next in
    let h = c.in-Ok.held in
    let packet : List ℕ = c.as_slice.result.now in
    let same = sym c.as_slice.ensures.value in
    let new : PushedOgg g.row.W.Denot = record { pushed = after_block old.pushed (samples_each block) t; serial = old.serial; sequence = h.next; middle = h.middle.items; last = h.last.items } in
    let now : PushedOgg g.row.W.Denot = with_held c.failed.new.self t old.serial old.sequence old.middle old.last in
    rw (← c.self.view_is) (record {
      next = tt;
      serial = refl;
      written = tt;
      known = tt;
      counted = tt;
      accepted = tt;
      refused = inr (sym (fault_seen b s (with_target b s) block refl) ∙ ok.accepted, inr refl);
      kept = λ other. absurd (other refl);
      begun = λ w known.
          let frame = subst (λ p. SpellsFrame (sound_of old.pushed.shape block) (frame_with old.pushed.number block) (bits_of p)) same is.spells in
          let least = subst (λ p. SpellsLeastFound old.pushed.search old.pushed.predictors (sound_of old.pushed.shape block) (frame_with old.pushed.number block) (bits_of p)) same is.least in
          let end : c.samples.result + c.block_len.result ≡ b.samples + samples_each block =
          ap (λ n. n + c.block_len.result) (c.samples.ensures.value ∙ ap (λ (e : Pushed ⊤). e.samples) c.encode.ensures.kept) ∙ ap (λ n. b.samples + n) c.block_len.ensures in
          let middle = c.in-Ok.ensures.middle ∙ ap (λ n. packet_spelling (record { serial = old.serial; sequence = old.sequence; kind = Frame n; first = false; last = false }) packet) end in
          let last = c.in-Ok.ensures.last ∙ ap (λ n. packet_spelling (record { serial = old.serial; sequence = old.sequence; kind = Frame n; first = false; last = true }) packet) end in
          let p = sends.begun known in
          begins_ogg old new t block packet shape accept frame g.W.Target now least c.in-Ok.ensures.bytes refl refl c.in-Ok.ensures.next middle last
          p.0 p.1 (sym c.as_slice-2.ensures.value ∙ p.2) p.3;
      spent = λ w. ap (λ (x : Pushed ⊤). with_target x t) (c.failed.ensures ∙ ap (λ (x : Pushed ⊤). spent_with x tt) c.encode.ensures.kept);
      failed = λ w. sends.rises;
      risen = λ w. sends.risen;
      names = sends.names;
    })
