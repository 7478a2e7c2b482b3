use Rattle.std.proofs.Common.{◌≡◌, ◌∙◌, refl, ap, sym, subst, ◌+◌, ◌*◌, ◌++◌, ◌<◌, ◌≤◌, length, take, drop, get_or, flat_map, [], ℕ, All, Fits, w64, arith}
use Rattle.std.proofs.lemmas.Result.{err_from_is_err_and}
use borrow.Author.Count.{falls}
use Rattle.flac_bits.specs.Signed.{FitsBits}
use Rattle.flac_bits.specs.Written.{Adds, Fails, Writes}
use Rattle.flac_bits.proofs.Writing.{Towards, towards_start, towards_more, towards_fail, towards_end}
use Rattle.flac_subframe.specs.search.Choices.{IsMadeIn, form_in}
use Rattle.flac_subframe.specs.search.Capacity.{Capacity}
use Rattle.flac_subframe.specs.format.Spelling.{subframe_spelling}
use Rattle.flac_frame.specs.Chosen.{AreMadeByPlane, forms_by_plane}
use Rattle.flac_frame.specs.PlaneLists.{Lists, lists_of}
use Rattle.flac_frame.specs.Encoding.{block_of}
use Rattle.flac_frame.proofs.Chosen.{made_next, text_next, text_after, text_last, texts_same}
use Rattle.flac_frame.proofs.Encoded.{failed}
use Rattle.flac_frame.proofs.Frames.{many_channels, few_channels, part_small, bits_small}
use Rattle.flac_frame.proofs.PlaneLists.{none_from}
use Rattle.flac_frame.proofs.Capacities.{below_33, few_of, room_for, some_of, in_reach}
use Rattle.flac_frame.proofs.encode.write_channels.Goals as goal

pub loop-i-init : goal.loop-i-init
loop-i-init g c =
    let s = c.args.subject.now in
    let lists = lists_of s.predictors.now in
    let cs = c.as_slice-subframes.result.now in
    let block = block_of s.start s.size s.audio.now.channels in
    let text = subframe_spelling c.bits-depth.result in
    let none = sym (none_from lists) in
    let w = c.args.writer.now in
    record {
      made = subst (λ (ls : Lists). AreMadeByPlane ls cs block) none (subst (λ l. AreMadeByPlane lists l block) (sym c.as_slice-subframes.ensures.value) c.requires.made);
      towards = subst (λ (ls : Lists). Towards (flat_map text (forms_by_plane ls cs block)) (flat_map text (forms_by_plane lists cs block)) w w) none (towards_start _ _);
      room = refl;
    }

-- where a channel's choice is, of 88 bytes each
offset_fits : (i n : ℕ) → i < n → n ≤ 8 → Fits w64 (i * 88)
offset_fits i n lt few = omega arith

pub offset_bounds-subframes-i : goal.offset_bounds-subframes-i
offset_bounds-subframes-i g c =
    let e = c.channels-channels.ensures in
    offset_fits _ _ c.loop-i-test.true (few_channels (λ v. v.items) c.channels-channels.result.now c.args.subject.now.audio.now e.sound e.items).1

pub bounds-subframes-i : goal.bounds-subframes-i
bounds-subframes-i g c =
    let e = c.channels-channels.ensures in
    in_reach _ _ _ _ _ c.loop-i-test.true (many_channels (λ v. v.items) c.channels-channels.result.now c.args.subject.now.audio.now e.sound e.items) c.requires.choices (ap length c.as_slice-subframes.ensures.value)

pub part-requires : goal.part-requires
part-requires g c =
    let e = c.channels-channels.ensures in
    let s = c.args.subject.now in
    record { channel = subst (λ n. c.loop-i.i < n) (many_channels (λ v. v.items) c.channels-channels.result.now s.audio.now e.sound e.items) c.loop-i-test.true; within = s.within }

pub widen-requires : goal.widen-requires
widen-requires g c = c.loop-i.auto.samples ∙ c.requires.size ∙ sym c.part.ensures.long

pub write_subframe_in-requires : goal.write_subframe_in-requires
write_subframe_in-requires g c =
    let e = c.channels-channels.ensures in
    let s = c.args.subject.now in
    let cs = c.as_slice-subframes.result.now in
    let deep = bits_small s.audio.now e.sound c.bits-depth.result c.bits-depth.ensures in
    let long = c.widen.auto.out ∙ c.loop-i.auto.samples ∙ c.requires.size in
    let so = sym (c.widen.ensures ∙ c.part.ensures.part) in
    let lt : c.loop-i.i < length s.audio.now.channels = subst (λ n. c.loop-i.i < n) (many_channels (λ v. v.items) c.channels-channels.result.now s.audio.now e.sound e.items) c.loop-i-test.true in
    let few : c.loop-i.i < length cs = in_reach _ _ _ _ _ lt refl c.requires.choices (ap length c.as_slice-subframes.ensures.value) in
    let next = made_next (lists_of s.predictors.now) c.bits-depth.result s.start s.size cs s.audio.now.channels c.loop-i.i c.index-subframes-i.result few lt c.index-subframes-i.is c.loop-i.invariant.made in
    record {
      some = some_of _ _ long s.some;
      block = room_for _ _ _ _ long (ap (λ (r : Capacity). r.block) c.loop-i.invariant.room) c.requires.block;
      depth = (deep.0, few_of c.bits-depth.result 32 33 deep.1 below_33);
      fits = subst (All (FitsBits c.bits-depth.result)) so (part_small s.audio.now e.sound s.start s.size c.loop-i.i c.bits-depth.result c.bits-depth.ensures lt);
      made = subst (λ ps. IsMadeIn ps c.index-subframes-i.result c.widen.new.out) (sym c.list-predictors.ensures) (subst (IsMadeIn (lists_of s.predictors.now c.loop-i.i) c.index-subframes-i.result) so next.0);
    }

pub loop-i-smaller : goal.loop-i-smaller
loop-i-smaller g c = falls _ _ c.loop-i-test.true

pub returns-in_err-write_subframe_in : goal.returns-in_err-write_subframe_in
returns-in_err-write_subframe_in g c =
    let p = err_from_is_err_and c.from_residual.result c.from_residual.ensures.1 in
    let e = c.channels-channels.ensures in
    let s = c.args.subject.now in
    let a = s.audio.now in
    let depth : ℕ = c.bits-depth.result in
    let cs = c.as_slice-subframes.result.now in
    let so : c.widen.new.out ≡ take s.size (drop s.start (get_or a.channels c.loop-i.i [])) = c.widen.ensures ∙ c.part.ensures.part in
    let lt : c.loop-i.i < length a.channels = subst (λ n. c.loop-i.i < n) (many_channels (λ v. v.items) c.channels-channels.result.now a e.sound e.items) c.loop-i-test.true in
    let few : c.loop-i.i < length cs = in_reach _ _ _ _ _ lt refl c.requires.choices (ap length c.as_slice-subframes.ensures.value) in
    let text = text_next (lists_of s.predictors.now) depth s.start s.size cs a.channels c.loop-i.i c.index-subframes-i.result few lt c.index-subframes-i.is in
    let told = subst (λ ps. Fails (c.loop-i.writer.bits ++ subframe_spelling depth (form_in ps c.index-subframes-i.result c.widen.new.out)) c.loop-i.writer c.write_subframe_in.new.writer c.in_err-write_subframe_in.field-0.0) c.list-predictors.ensures c.in_err-write_subframe_in.ensures.text in
    let fails = towards_fail _ _ text c.loop-i.invariant.towards (subst (λ t. Fails (c.loop-i.writer.bits ++ subframe_spelling depth (form_in (lists_of s.predictors.now c.loop-i.i) c.index-subframes-i.result t)) c.loop-i.writer c.write_subframe_in.new.writer c.in_err-write_subframe_in.field-0.0) so told) in
    rw (p.1, p.2) (record {
      text = subst (λ t. Writes t c.args.writer.now c.write_subframe_in.new.writer (failed c.in_err-write_subframe_in.field-0.0))
          (texts_same (lists_of s.predictors.now) depth a.bits s.start s.size cs c.args.choice.now.subframes.items a.channels c.bits-depth.ensures c.as_slice-subframes.ensures.value) fails;
      room = c.in_err-write_subframe_in.ensures.room ∙ c.loop-i.invariant.room;
    })

pub loop-i-preserved : goal.loop-i-preserved
loop-i-preserved g c =
    let e = c.channels-channels.ensures in
    let s = c.args.subject.now in
    let a = s.audio.now in
    let depth : ℕ = c.bits-depth.result in
    let cs = c.as_slice-subframes.result.now in
    let so : c.widen.new.out ≡ take s.size (drop s.start (get_or a.channels c.loop-i.i [])) = c.widen.ensures ∙ c.part.ensures.part in
    let lt : c.loop-i.i < length a.channels = subst (λ n. c.loop-i.i < n) (many_channels (λ v. v.items) c.channels-channels.result.now a e.sound e.items) c.loop-i-test.true in
    let few : c.loop-i.i < length cs = in_reach _ _ _ _ _ lt refl c.requires.choices (ap length c.as_slice-subframes.ensures.value) in
    let next = made_next (lists_of s.predictors.now) depth s.start s.size cs a.channels c.loop-i.i c.index-subframes-i.result few lt c.index-subframes-i.is c.loop-i.invariant.made in
    let text = text_next (lists_of s.predictors.now) depth s.start s.size cs a.channels c.loop-i.i c.index-subframes-i.result few lt c.index-subframes-i.is in
    let told = subst (λ ps. Adds (subframe_spelling depth (form_in ps c.index-subframes-i.result c.widen.new.out)) c.loop-i.writer c.write_subframe_in.new.writer) c.list-predictors.ensures c.in_ok-write_subframe_in.ensures.text in
    record {
      made = next.1;
      towards = towards_more (text_after (lists_of s.predictors.now) depth s.start s.size cs a.channels (c.loop-i.i + 1)) text c.loop-i.invariant.towards
          (subst (λ t. Adds (subframe_spelling depth (form_in (lists_of s.predictors.now c.loop-i.i) c.index-subframes-i.result t)) c.loop-i.writer c.write_subframe_in.new.writer) so told);
      room = c.in_ok-write_subframe_in.ensures.room ∙ c.loop-i.invariant.room;
    }

pub returns : goal.returns
returns g c =
    let e = c.channels-channels.ensures in
    let s = c.args.subject.now in
    let a = s.audio.now in
    let depth : ℕ = c.bits-depth.result in
    let cs = c.as_slice-subframes.result.now in
    let over = subst (λ n. n ≤ c.loop-i.i) (many_channels (λ v. v.items) c.channels-channels.result.now a e.sound e.items) c.loop-i-test.false in
    record {
      text = subst (λ t. Adds t c.args.writer.now c.loop-i.writer) (texts_same (lists_of s.predictors.now) depth a.bits s.start s.size cs c.args.choice.now.subframes.items a.channels c.bits-depth.ensures c.as_slice-subframes.ensures.value)
          (towards_end (text_last (lists_of s.predictors.now) depth s.start s.size cs a.channels c.loop-i.i over) c.loop-i.invariant.towards);
      room = c.loop-i.invariant.room;
    }
