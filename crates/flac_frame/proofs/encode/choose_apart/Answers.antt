use Rattle.std.proofs.Common.{List, ◌≡◌, ◌∙◌, ◌≤◌, ◌-◌, refl, sym, ap, subst, length, flat_map, ℕ, arith}
use Rattle.std.proofs.lemmas.List.{with_items_is}
use Rattle.std.specs.Vec.{with_items}
use Rattle.flac_subframe.specs.format.Spelling.{subframe_spelling}
use Rattle.flac_subframe.specs.declared.search.wide_choice.WideChoice.{WideChoice}
use Rattle.flac_frame.specs.Chosen.{forms_by_plane, AllHaveCodings}
use Rattle.flac_frame.specs.PlaneLists.{lists_of}
use Rattle.flac_frame.specs.inner.Chosen.{AreChosen}
use Rattle.flac_frame.specs.Encoding.{block_of, partition_limit}
use Rattle.flac_frame.specs.declared.frame_choice.FrameChoice.{FrameChoice}
use Rattle.flac_frame.proofs.Frames.{many_channels, apart_choice}
use Rattle.flac_frame.proofs.encode.choose_apart.Goals as goal

pub choose_channels-choice-requires : goal.choose_channels-choice-requires
choose_channels-choice-requires c =
    let places = sym c.deref_mut.ensures.value in
    record {
      size = c.requires.size;
      block = c.requires.block;
      partition = c.requires.partition;
      orders = c.requires.orders;
      choices = subst (λ (l : List WideChoice). length c.args.subject.now.audio.now.channels ≤ length l) places c.requires.choices.many;
      codings = subst (λ (l : List WideChoice). AllHaveCodings c.args.workspace.now.most l) places c.requires.choices.codings;
    }

pub returns-clause-many : goal.returns-clause-many
returns-clause-many c =
    let kept = c.choose_channels-choice.auto.subframes ∙ ap length c.deref_mut.ensures.value in
    ap length (with_items_is c.args.choice.now.subframes c.choose_channels-choice.new.subframes (kept ∙ sym c.args.choice.now.subframes.ok.0)) ∙ kept

pub returns-clause-room : goal.returns-clause-room
returns-clause-room c = c.choose_channels-choice.ensures.room

pub returns-clause-chosen : goal.returns-clause-chosen
returns-clause-chosen c =
    let e = c.channels-channels.ensures in
    let s = c.args.subject.now in
    let a = s.audio.now in
    let k = c.choose_channels-choice in
    let code : ℕ = length c.channels-channels.result.now - 1 in
    let made : FrameChoice = record { code = code; bits = k.result; subframes = with_items c.args.choice.now.subframes k.new.subframes } in
    let long : length k.new.subframes ≡ c.args.choice.now.subframes.len = k.auto.subframes ∙ ap length c.deref_mut.ensures.value ∙ sym c.args.choice.now.subframes.ok.0 in
    let back : made.subframes.items ≡ k.new.subframes = with_items_is c.args.choice.now.subframes k.new.subframes long in
    let many = many_channels (λ v. v.items) c.channels-channels.result.now a e.sound e.items in
    apart_choice a e.sound (lists_of s.predictors.now) c.requires.orders s.start s.size s.number c.profile.result c.rate.result code c.bits-depth.result c.chosen_in-header.result made
    c.profile.ensures c.rate.ensures c.bits-depth.ensures c.requires.other (omega (arith, many, e.sound.some)) refl (omega (arith, s.some)) s.few s.within c.requires.number c.chosen_in-header.ensures.chosen c.chosen_in-header.ensures.valid
    (subst (λ l. AreChosen (partition_limit a) (lists_of s.predictors.now) a.bits s.size l (block_of s.start s.size a.channels)) (sym back) k.ensures.chosen)
    (k.ensures.bits ∙ ap (λ l. length (flat_map (subframe_spelling a.bits) (forms_by_plane (lists_of s.predictors.now) l (block_of s.start s.size a.channels)))) (sym back))

pub returns-clause-choices : goal.returns-clause-choices
returns-clause-choices c =
    let k = c.choose_channels-choice in
    let made : FrameChoice = record { code = length c.channels-channels.result.now - 1; bits = k.result; subframes = with_items c.args.choice.now.subframes k.new.subframes } in
    let long : length k.new.subframes ≡ c.args.choice.now.subframes.len = k.auto.subframes ∙ ap length c.deref_mut.ensures.value ∙ sym c.args.choice.now.subframes.ok.0 in
    let back : made.subframes.items ≡ k.new.subframes = with_items_is c.args.choice.now.subframes k.new.subframes long in
    record {
      many = subst (λ n. length c.args.subject.now.audio.now.channels ≤ n) (sym (ap length back ∙ k.auto.subframes ∙ ap length c.deref_mut.ensures.value)) c.requires.choices.many;
      codings = subst (λ (l : List WideChoice). AllHaveCodings c.args.workspace.now.most l) (sym back) k.ensures.codings;
    }
