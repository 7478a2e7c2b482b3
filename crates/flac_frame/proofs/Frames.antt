-- A frame of channels each by itself, as it is written; and the samples of a block.
use Rattle.std.proofs.Common.{◌≡◌, ◌∙◌, refl, sym, ap, subst, ℕ, ◌+◌, ◌≤◌, ◌<◌, ◌^◌, arith, ℤ, Bool, true, nat_lt, List, [], ◌∷◌, length, map, Option, Some, None, is_some, All, IfSome, flat_map, take, drop, get_or}
use Rattle.std.proofs.lemmas.Bool.Decides.{nat_tests}
use Rattle.std.proofs.lemmas.List.{length-map, get_or-map}
use Rattle.flac_bits.specs.Signed.{FitsBits}
use Rattle.flac_header.specs.Header.{Header, IsHeader, channels_of}
use Rattle.flac_header.specs.declared.subset.Profile.{Profile}
use Rattle.flac_header.specs.Choice.{size_choice, rate_choice_in, depth_choice_in, chosen_header}
use Rattle.flac_subframe.specs.declared.format.limits.Limits.{Limits}
use Rattle.flac_subframe.specs.format.Spelling.{subframe_spelling}
use Rattle.flac_subframe.specs.format.Subframe.{Form}
use Rattle.flac_frame.specs.Audio.{Sound, IsSound, samples_each}
use Rattle.flac_frame.specs.Frame.{limits_at}
use Rattle.flac_frame.specs.Stereo.{joined, kept_as}
use Rattle.flac_frame.specs.Spelling.{FrameForm, subframes_spelling, HaveSamples}
use Rattle.flac_frame.specs.Chosen.{forms_by_plane, AreMadeByPlane, IsChoiceByPlane}
use Rattle.flac_frame.specs.PlaneLists.{Lists, lists_kept, AreAllWithin}
use Rattle.flac_frame.specs.inner.Chosen.{AreChosen}
use Rattle.flac_frame.specs.Encoding.{block_of, partition_limit, IsEncoding, IsLeastByPlane, IsShort, subframes_cost}
use Rattle.flac_frame.specs.inner.Encoding.{AreFormsByPlane, AreLeast}
use Rattle.flac_frame.specs.declared.frame_choice.FrameChoice.{FrameChoice}
use Rattle.flac_frame.proofs.Encoded.{is_block, part_fits}
use Rattle.flac_frame.proofs.Short.{all_short, parts_few, frame_short}
use Rattle.flac_frame.proofs.Family.{independent_least, kept_same, lists_same}
use Rattle.flac_frame.proofs.Sounds.{depth_small, limit_few}
use Rattle.flac_frame.proofs.Wholes.{texts_are, subframes_by_plane, samples_by_plane, many_by_plane, not_joined, all_fit_in, codes_are, chosen_as, header_at, header_never}

-- ---- the whole

as_coded : (code : ℕ) → code ≤ 7 → channels_of code ≡ code + 1
as_coded code few = let a : nat_lt code 8 ≡ true = grind (arith, nat_tests) in rw a refl

pub frame_encoded : (lists : Lists) (sound : Sound) → AreAllWithin (limits_at sound.profile sound.rate).linear lists → (code size number : ℕ) (block : List (List ℤ)) (fs : List Form) (h : Header) → (length block ≡ 2 → ⊥) → code ≤ 7 → number < 2 ^ 31
    → (1 ≤ sound.bits) × (sound.bits ≤ 32) → 1 ≤ size → size ≤ 65535 → All (λ s. length s ≡ size) block → chosen_header sound.profile size sound.rate code sound.bits number ≡ Some h → IsHeader h → code + 1 ≡ length block → All (λ s. All (FitsBits sound.bits) s) block
    → AreFormsByPlane (partition_limit sound) lists sound.bits size fs block → AreLeast (partition_limit sound) lists sound.bits fs block → (f : FrameForm) → f ≡ record { header = h; subframes = fs }
    → IsEncoding sound size number block f × IsLeastByPlane lists sound size number block f × IsShort sound.bits f × (subframes_cost sound.bits f ≡ length (flat_map (subframe_spelling sound.bits) fs))
frame_encoded lists sound within code size number block fs h other independent small deep some few long chosen valid each fits are least f is =
    let depth : ℕ = sound.bits in
    let codes = codes_are (size_choice size) (rate_choice_in sound.profile sound.rate) (depth_choice_in sound.profile depth) size sound.rate code number h (sym (chosen_as sound.profile size sound.rate code depth number (omega (arith, independent)) small) ∙ chosen) in
    let parts_are : flat_map (subframe_spelling depth) fs ≡ subframes_spelling depth h.channel_code 0 fs = sym (ap (λ k. subframes_spelling depth k 0 fs) codes.0 ∙ texts_are depth code size independent 0 fs) in
    let limits : Limits = limits_at sound.profile sound.rate in
    let have = subst (λ k. HaveSamples depth k h.size 0 fs block) (sym codes.0) (subst (λ n. HaveSamples depth code n 0 fs block) (sym codes.1) (samples_by_plane depth code size independent (partition_limit sound) lists 0 fs block are)) in
    let short : IsShort depth (record { header = h; subframes = fs }) = frame_short depth (record { header = h; subframes = fs })
    (omega (arith, ap (λ (t : List Bool). length t) parts_are, all_short (partition_limit sound) (limit_few sound.profile sound.rate) depth deep.0 lists size fs block some long fits least, parts_few (length block) depth size (omega (arith, independent, each)) deep.1 few)) in
    let encoding : IsEncoding sound size number block (record { header = h; subframes = fs }) =
    record {
      code = code;
      header = chosen;
      valid = valid;
      channels = ap channels_of codes.0 ∙ as_coded code independent ∙ each;
      many = many_by_plane depth code size independent (partition_limit sound) lists fs block are;
      subframes = subframes_by_plane depth code size independent (partition_limit sound) lists limits (omega arith) within 0 fs block are;
      samples = record {
        kept = block;
        subframes = have;
        joined = ap (λ k. joined k block) codes.0 ∙ not_joined depth code size independent block;
        fit = all_fit_in depth code size independent block fits;
      };
    } in
    rw is (encoding, independent_least lists sound size number block (record { header = h; subframes = fs }) other (omega (arith, independent, each)) encoding least, short, ap (λ (t : List Bool). length t) (sym parts_are))

-- ---- samples that can be encoded

-- in vectors
module _ {V : Type 0} (items : V → List ℤ) (xs : List V) (sound : Sound) (good : IsSound sound) (are : map items xs ≡ sound.channels) where
  pub many_channels : length xs ≡ length sound.channels
  many_channels = sym (length-map xs items) ∙ ap (λ (l : List (List ℤ)). length l) are

  pub few_channels : (1 ≤ length xs) × (length xs ≤ 8)
  few_channels = (omega (arith, many_channels, good.some), omega (arith, many_channels, good.few))

  pub one_long : (start size i : ℕ) (x : V) → start + size ≤ samples_each sound.channels → i < length xs → x ≡ get_or xs i x → start + size ≤ length (items x)
  one_long start size i x within lt is =
      let same : get_or sound.channels i [] ≡ items x = ap (λ (l : List (List ℤ)). get_or l i []) (sym are) ∙ get_or-map items xs i x [] lt ∙ ap items (sym is) in
      omega (arith, within, good.long i [] (omega (arith, lt, many_channels)), ap (λ (l : List ℤ). length l) same)

module _ (sound : Sound) (good : IsSound sound) where
  pub bits_small : (bits : ℕ) → bits ≡ sound.bits → (1 ≤ bits) × (bits ≤ 32)
  bits_small bits e = depth_small sound.profile bits (ap (λ b. is_some (depth_choice_in sound.profile b)) e ∙ good.bits)

  pub part_small : (start size i bits : ℕ) → bits ≡ sound.bits → i < length sound.channels → All (FitsBits bits) (take size (drop start (get_or sound.channels i [])))
  part_small start size i bits e lt = part_fits bits start size (get_or sound.channels i []) (subst (λ b. All (FitsBits b) (get_or sound.channels i [])) (sym e) (good.small i [] lt))

  each_long : (start size : ℕ) → start + size ≤ samples_each sound.channels → All (λ c. start + size ≤ length c) sound.channels
  each_long start size within = λ k d lt. omega (arith, good.long k d lt, within)

  -- what was chosen of each channel by itself makes a frame
  pub apart_choice : (lists : Lists) → AreAllWithin (limits_at sound.profile sound.rate).linear lists → (start size number : ℕ) (profile : Profile) (rate code bits : ℕ) (o : Option Header) (c : FrameChoice) → profile ≡ sound.profile → rate ≡ sound.rate → bits ≡ sound.bits
      → (length sound.channels ≡ 2 → ⊥) → code + 1 ≡ length sound.channels → c.code ≡ code → 1 ≤ size → size ≤ 65535 → start + size ≤ samples_each sound.channels → number < 2 ^ 31 → o ≡ chosen_header profile size rate code bits number → IfSome o IsHeader
      → AreChosen (partition_limit sound) lists sound.bits size c.subframes.items (block_of start size sound.channels) → c.bits ≡ length (flat_map (subframe_spelling sound.bits) (forms_by_plane lists c.subframes.items (block_of start size sound.channels)))
      → IsChoiceByPlane lists sound size number (block_of start size sound.channels) c
  apart_choice lists orders start size number profile rate code bits None c p r b other n coded some few within small is valid chose cost =
      absurd (header_never sound good profile size rate code bits number p r b (omega (arith, n, good.few)) some few small (sym is))
  apart_choice lists orders start size number profile rate code bits (Some h) c p r b other n coded some few within small is valid chose cost =
      let deep = bits_small sound.bits refl in
      let chosen : chosen_header sound.profile size sound.rate code sound.bits number ≡ Some h = header_at sound profile size rate code bits number (Some h) h p r b is refl in
      let all : List (List ℤ) = block_of start size sound.channels in
      let block = is_block sound.bits start size deep.0 some sound.channels (each_long start size within) good.small in
      let block_long : length all ≡ length sound.channels = length-map sound.channels (λ c. take size (drop start c)) in
      let low : code ≤ 7 = omega (arith, n, good.few) in
      let form : FrameForm = record { header = h; subframes = forms_by_plane lists c.subframes.items all } in
      let made = frame_encoded lists sound orders code size number all (forms_by_plane lists c.subframes.items all) h (λ e. other (sym block_long ∙ e)) low small deep some few block.0 chosen valid (omega (arith, n, block_long)) block.1 chose.are chose.least form refl in
      let keeps : kept_as c.code all ≡ all = kept_same c.code all (omega (arith, coded, low)) in
      let own : lists_kept c.code lists ≡ lists = lists_same c.code lists (omega (arith, coded, low)) in
      record {
        form = form;
        header = ap (λ k. chosen_header sound.profile size sound.rate k sound.bits number) coded ∙ chosen;
        subframes = ap (forms_by_plane lists c.subframes.items) (sym keeps) ∙ ap (λ ls. forms_by_plane ls c.subframes.items (kept_as c.code all)) (sym own);
        made = subst (λ ls. AreMadeByPlane ls c.subframes.items (kept_as c.code all)) (sym own) (subst (AreMadeByPlane lists c.subframes.items) (sym keeps) chose.made);
        encoding = made.0;
        least = made.1;
        short = made.2;
        cost = cost ∙ sym made.3;
      }

-- a block of two channels
pub two_parts : (start size : ℕ) (cs : List (List ℤ)) → length cs ≡ 2 → take size (drop start (get_or cs 0 [])) ∷ take size (drop start (get_or cs 1 [])) ∷ [] ≡ block_of start size cs
two_parts start size [] e = absurd (omega (arith, e))
two_parts start size (a ∷ []) e = absurd (omega (arith, e))
two_parts start size (a ∷ b ∷ []) e = refl
two_parts start size (a ∷ b ∷ d ∷ ds) e = absurd (omega (arith, e))
