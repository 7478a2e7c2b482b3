use Rattle.std.proofs.Common.{◌≡◌, Bool, true, false, refl, sym, ◌∙◌, arith}
use Rattle.flac_bits.specs.Bits.{bits_of}
use Rattle.flac_native.proofs.EncodeFaults.{done_fails, memory_mapping, memory_repeated, memory_write, repeated_mapping, repeated_write, same_fault, write_mapping, write_repeated}
use Rattle.flac_native.proofs.Planned.{planned, block_small}
use Rattle.flac_native.proofs.Sendings.{given_encodes, all_sent, some_sent}
use Rattle.flac_native.proofs.encoding.encode.Goals as goal

-- the list repeats no seek table
not_repeated : (found repeats : Bool) → found ≡ repeats → found ≡ false → repeats ≡ true → ⊥
not_repeated found repeats e f t = absurd cc

pub returns-then-repeats_table : goal.returns-then-repeats_table
returns-then-repeats_table g c = record {
  written = tt;
  known = tt;
  counted = tt;
  begun = λ is. absurd (repeated_write is);
  failed = λ is. absurd (repeated_write is);
  risen = λ is. absurd (repeated_write is);
  repeated = (λ is. sym c.repeats_table.ensures ∙ c.if-repeats_table.true, λ is. refl);
  mapping = λ is. repeated_mapping (same_fault _ _ is);
  whole = refl;
  kept = λ other. refl;
  names = refl;
}

pub returns-in_default : goal.returns-in_default
returns-in_default g c = record {
  written = tt;
  known = tt;
  counted = tt;
  begun = λ is. absurd (memory_write is);
  failed = λ is. absurd (memory_write is);
  risen = λ is. absurd (memory_write is);
  repeated = (
    λ is. absurd (memory_repeated (same_fault _ _ is)),
    λ is. absurd (not_repeated _ _ c.repeats_table.ensures c.if-repeats_table.false is),
  );
  mapping = λ is. memory_mapping (same_fault _ _ is);
  whole = refl;
  kept = λ other. refl;
  names = refl;
}

pub returns-in_default-new : goal.returns-in_default-new
returns-in_default-new g c = record {
  written = tt;
  known = tt;
  counted = tt;
  begun = λ is. absurd (memory_write is);
  failed = λ is. absurd (memory_write is);
  risen = λ is. absurd (memory_write is);
  repeated = (
    λ is. absurd (memory_repeated (same_fault _ _ is)),
    λ is. absurd (not_repeated _ _ c.repeats_table.ensures c.if-repeats_table.false is),
  );
  mapping = λ is. memory_mapping (same_fault _ _ is);
  whole = refl;
  kept = λ other. refl;
  names = refl;
}

pub returns-in-Ok-send_stream : goal.returns-in-Ok-send_stream
returns-in-Ok-send_stream g c =
    let p = c.args.plan.now in
    let a = c.args.audio.now in
    let list = c.args.list.now in
    let s = c.in-Ok-new.frames in
    let w = c.in-Ok-send_stream.ensures in
    record {
      written = λ known.
          let once = sym c.repeats_table.ensures ∙ c.if-repeats_table.false in
          let old = bits_of (g.W.Target.sent c.args.target.now) in
          let whole = given_encodes p list a s.least s.greatest s.points.items _ w.0 old c.block_size-size.ensures.good c.requires c.blocks-blocks.ensures.good c.blocks-blocks.ensures.fits once refl c.in-Ok-new.ensures.counted w.1 w.2 in
          all_sent p list a _ old _ whole (w.3.sent known);
      known = w.3.known;
      counted = w.3.counted;
      begun = tt;
      failed = tt;
      risen = tt;
      repeated = (
        λ is. absurd (done_fails _ _ is),
        λ is. absurd (not_repeated _ _ c.repeats_table.ensures c.if-repeats_table.false is),
      );
      mapping = λ is. done_fails _ _ is;
      whole = tt;
      kept = tt;
      names = w.3.names;
    }

pub returns : goal.returns
returns g c =
    let p = c.args.plan.now in
    let a = c.args.audio.now in
    let list = c.args.list.now in
    let s = c.in-Ok-new.frames in
    let w = c.in-Err.ensures in
    record {
      written = tt;
      known = tt;
      counted = tt;
      begun = λ is known.
          let once = sym c.repeats_table.ensures ∙ c.if-repeats_table.false in
          let old = bits_of (g.W.Target.sent c.args.target.now) in
          let whole = given_encodes p list a s.least s.greatest s.points.items _ w.0 old c.block_size-size.ensures.good c.requires c.blocks-blocks.ensures.good c.blocks-blocks.ensures.fits once refl c.in-Ok-new.ensures.counted w.1 w.2 in
          let begun = w.3.begun known in
          some_sent p list a _ begun.0 begun.1 old _ whole begun.2 begun.3;
      failed = λ is. w.3.rises;
      risen = λ is. w.3.risen;
      repeated = (
        λ is. absurd (write_repeated (same_fault _ _ is)),
        λ is. absurd (not_repeated _ _ c.repeats_table.ensures c.if-repeats_table.false is),
      );
      mapping = λ is. write_mapping (same_fault _ _ is);
      whole = refl;
      kept = λ other. absurd (other refl);
      names = w.3.names;
    }

pub new_in-requires : goal.new_in-requires
new_in-requires g c = omega (arith, block_small c.args.plan.now (planned c.args.plan.now c.block_size-size.ensures.good), c.block_size-size.ensures.value)
