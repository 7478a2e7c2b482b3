use Rattle.std.proofs.Common.{◌≡◌, [], ◌++◌, List, Bool, true, false, length, refl, sym, subst, ◌∙◌, arith}
use Rattle.flac_bits.specs.Bits.{bits_of, is_nil}
use Rattle.flac_meta.specs.Spelling.{block_spelling}
use Rattle.flac_meta.specs.declared.block.Block.TheVariants as block_of
use Rattle.flac_native.specs.Given.{info_of}
use Rattle.flac_native.specs.Writing.{AreCounted}
use Rattle.flac_native.proofs.EncodeFaults.{done_fails, mapping_repeated, mapping_write, memory_mapping, memory_repeated, memory_write, same_fault, write_mapping, write_repeated}
use Rattle.flac_native.proofs.Planned.{planned, block_small, room_is}
use Rattle.flac_ogg.specs.Native.{mapping_spelling, block_spellings}
use Rattle.flac_ogg.specs.Writing.{header_count, EncodesOgg, BeginsOgg}
use Rattle.flac_ogg.proofs.SentOgg.{ogg_encodes}
use Rattle.flac_ogg.proofs.Whole.{all_sent, some_sent}
use Rattle.flac_ogg.proofs.encoding.encode_ogg.Goals as goal

-- the list can be in an Ogg stream
may_be : (found may : Bool) → found ≡ may → found ≡ true → may ≡ false → ⊥
may_be found may e t f = absurd cc

pub new_in-requires : goal.new_in-requires
new_in-requires g c = omega (arith, block_small c.args.plan.now (planned c.args.plan.now c.block_size-size.ensures.good), c.block_size-size.ensures.value)

pub prepare-requires-clause-room : goal.prepare-requires-clause-room
prepare-requires-clause-room g c = room_is c.args.plan.now c.in-Ok.buffers c.block_size-size.result c.profile-profile.result c.block_size-size.ensures.value c.profile-profile.ensures c.in-Ok.ensures.ok

pub returns-then-not-may_be_ogg : goal.returns-then-not-may_be_ogg
returns-then-not-may_be_ogg g c = record {
  written = tt;
  known = tt;
  counted = tt;
  begun = λ is. absurd (mapping_write is);
  failed = λ is. absurd (mapping_write is);
  risen = λ is. absurd (mapping_write is);
  mapping = (λ is. sym c.may_be_ogg.ensures ∙ c.if-not-may_be_ogg.true, λ is. refl);
  repeated = λ is. mapping_repeated (same_fault _ _ is);
  whole = refl;
  kept = λ other. refl;
  names = refl;
}

pub returns-in_default : goal.returns-in_default
returns-in_default g c = record {
  written = tt;
  known = tt;
  counted = tt;
  begun = λ is. absurd (memory_write is);
  failed = λ is. absurd (memory_write is);
  risen = λ is. absurd (memory_write is);
  mapping = (
    λ is. absurd (memory_mapping (same_fault _ _ is)),
    λ is. absurd (may_be _ _ c.may_be_ogg.ensures c.if-not-may_be_ogg.false is),
  );
  repeated = λ is. memory_repeated (same_fault _ _ is);
  whole = refl;
  kept = λ other. refl;
  names = refl;
}

pub returns-in_default-prepare : goal.returns-in_default-prepare
returns-in_default-prepare g c = record {
  written = tt;
  known = tt;
  counted = tt;
  begun = λ is. absurd (memory_write is);
  failed = λ is. absurd (memory_write is);
  risen = λ is. absurd (memory_write is);
  mapping = (
    λ is. absurd (memory_mapping (same_fault _ _ is)),
    λ is. absurd (may_be _ _ c.may_be_ogg.ensures c.if-not-may_be_ogg.false is),
  );
  repeated = λ is. memory_repeated (same_fault _ _ is);
  whole = refl;
  kept = λ other. refl;
  names = refl;
}

pub returns-in-Ok-send_prepared : goal.returns-in-Ok-send_prepared
returns-in-Ok-send_prepared g c =
    let p = c.args.plan.now in
    let a = c.args.audio.now in
    let list = c.args.list.now in
    let ready = c.in-Ok-prepare.prepared in
    let s = ready.frames in
    let h = ready.headers in
    let made = c.in-Ok-prepare.ensures.headers in
    let first : List Bool = mapping_spelling (header_count (length list)) ++ block_spelling (is_nil list) (block_of.StreamInfo (info_of p a s.least s.greatest)) in
    let w = c.in-Ok-send_prepared.ensures first (block_spellings list ++ []) made in
    record {
      written = λ known.
          let old = bits_of (g.W.Target.sent c.args.target.now) in
          let serial_is = c.in-Ok-prepare.ensures.serial in
          let counted : AreCounted p a s.least s.greatest s.points.items = c.in-Ok-prepare.ensures.counted in
          let whole = ogg_encodes g.W.Target p list a s.least s.greatest s.points.items h made c.args.target.now c.send_prepared.new.target _ old (omega (arith, serial_is, c.ranges.serial.fits)) c.block_size-size.ensures.good c.requires c.blocks-blocks.ensures.good
          c.blocks-blocks.ensures.fits counted w in
          subst (λ n. EncodesOgg n p list a old (bits_of (g.W.Target.sent c.send_prepared.new.target))) serial_is (all_sent h.serial p list a _ old _ whole (w.sends.sent known));
      known = w.sends.known;
      counted = w.sends.counted;
      begun = tt;
      failed = tt;
      risen = tt;
      mapping = (
        λ is. absurd (done_fails _ _ is),
        λ is. absurd (may_be _ _ c.may_be_ogg.ensures c.if-not-may_be_ogg.false is),
      );
      repeated = λ is. done_fails _ _ is;
      whole = tt;
      kept = tt;
      names = w.sends.names;
    }

pub returns : goal.returns
returns g c =
    let p = c.args.plan.now in
    let a = c.args.audio.now in
    let list = c.args.list.now in
    let ready = c.in-Ok-prepare.prepared in
    let s = ready.frames in
    let h = ready.headers in
    let made = c.in-Ok-prepare.ensures.headers in
    let first : List Bool = mapping_spelling (header_count (length list)) ++ block_spelling (is_nil list) (block_of.StreamInfo (info_of p a s.least s.greatest)) in
    let w = c.in-Err.ensures first (block_spellings list ++ []) made in
    record {
      written = tt;
      known = tt;
      counted = tt;
      begun = λ is known.
          let old = bits_of (g.W.Target.sent c.args.target.now) in
          let serial_is = c.in-Ok-prepare.ensures.serial in
          let counted : AreCounted p a s.least s.greatest s.points.items = c.in-Ok-prepare.ensures.counted in
          let whole = ogg_encodes g.W.Target p list a s.least s.greatest s.points.items h made c.args.target.now c.send_prepared.new.target _ old (omega (arith, serial_is, c.ranges.serial.fits)) c.block_size-size.ensures.good c.requires c.blocks-blocks.ensures.good
          c.blocks-blocks.ensures.fits counted w in
          let begun = w.sends.begun known in
          subst (λ n. BeginsOgg n p list a old (bits_of (g.W.Target.sent c.send_prepared.new.target))) serial_is (some_sent h.serial p list a _ begun.0 begun.1 old _ whole begun.2 begun.3);
      failed = λ is. w.sends.rises;
      risen = λ is. w.sends.risen;
      mapping = (
        λ is. absurd (write_mapping (same_fault _ _ is)),
        λ is. absurd (may_be _ _ c.may_be_ogg.ensures c.if-not-may_be_ogg.false is),
      );
      repeated = λ is. write_repeated (same_fault _ _ is);
      whole = refl;
      kept = λ other. absurd (other refl);
      names = w.sends.names;
    }
