-- What a sink has learned of the STREAMINFO of streams one after another, of which each has one.
use Rattle.std.proofs.Common.{◌≡◌, ◌≤◌, ◌+◌, ◌||◌, ℕ, Bool, true, false, List, [], ◌∷◌, ◌++◌, length, map, Option, Some, None, unwrap_or, refl, sym, ap, subst, ◌∙◌, arith}
use Rattle.std.specs.List.{list_any}
use Rattle.std.specs.Prelude.{min}
use Rattle.std.proofs.Math.Bool.{or_assoc}
use Rattle.flac_bits.specs.Bits.{bits_of}
use Rattle.flac_bits.specs.State.{Mark, the_end}
use Rattle.flac_bits.specs.Handing.{TakesAll}
use Rattle.flac_bits.specs.Items.{Stream}
use Rattle.flac_info.specs.Info.{Info}
use Rattle.flac_meta.specs.declared.block.Block.{Block}
use Rattle.flac_meta.specs.declared.block.Block.TheVariants as block_of
use Rattle.flac_meta.specs.declared.block.Seen.{Seen}
use Rattle.flac_meta.specs.Block.{seen_after}
use Rattle.flac_meta.specs.Header.{nothing_seen}
use Rattle.flac_header.specs.declared.subset.Profile.{Profile}
use Rattle.flac_frame.specs.Frame.{Frame}
use Rattle.flac_native.specs.Decoding.{taken, start_mark}
use Rattle.flac_native.specs.Given.{closing}
use Rattle.flac_native.specs.Item.{Item}
use Rattle.flac_native.specs.Stream.{Piece, marked, block, framed, grammar, opening, info_after}
use Rattle.flac_native.proofs.NewHead.{AllBlocks, valid_after}
use Rattle.flac_native.proofs.Whole.{streams_are_whole}
use Rattle.flac_ogg.specs.Either.{begins_page, read_either}
use Rattle.flac_ogg.proofs.NativeItems.{ogg_streams_are_streams}
use Rattle.flac_around.specs.Chains.{first_link, later_links}
use Rattle.flac_around.specs.EmptyPackets.{trimmed}
use Rattle.flac_chain.specs.Chained.{link_reading, all_parts, IsChain, AreLater}
use Rattle.flac_cli.specs.Counted.{printed}
use Rattle.flac_cli.specs.Verified.{info_in, first_info}
use Rattle.flac_cli.specs.inner.Taking.{frames_after, samples_after, info_of, if_info, first_known, streams_after, lacks_after, Learns}
use Rattle.flac_cli.specs.declared.verify_facts.Facts.{Facts}

-- ---- STREAMINFO among parts

abbrev onto : Option Info → List Info → List Info
onto None is = is
onto (Some i) is = i ∷ is

-- that of each stream of these parts, in order
abbrev pub infos_in : List Piece → List Info
infos_in [] = []
infos_in (marked ∷ xs) = infos_in xs
infos_in (block last b ∷ xs) = onto (info_after None b) (infos_in xs)
infos_in (framed f ∷ xs) = infos_in xs

onto_more : (o : Option Info) (is js : List Info) → onto o (is ++ js) ≡ onto o is ++ js
onto_more None is js = refl
onto_more (Some i) is js = refl

more_infos : (xs ys : List Piece) → infos_in (xs ++ ys) ≡ infos_in xs ++ infos_in ys
more_infos [] ys = refl
more_infos (marked ∷ xs) ys = more_infos xs ys
more_infos (block last b ∷ xs) ys = ap (onto (info_after None b)) (more_infos xs ys) ∙ onto_more (info_after None b) (infos_in xs) (infos_in ys)
more_infos (framed f ∷ xs) ys = more_infos xs ys

-- what becomes of something after each of them
abbrev pub folded : {X : Type 0} → (X → Info → X) → X → List Info → X
folded after x [] = x
folded after x (i ∷ is) = folded after (after x i) is

folded_onto : {X : Type 0} (after : X → Info → X) (x : X) (o : Option Info) (is : List Info) → folded after (if_info after x o) is ≡ folded after x (onto o is)
folded_onto after x None is = refl
folded_onto after x (Some i) is = refl

-- ---- what a sink takes

abbrev pub TakesFacts : Facts → Item → Facts → Type 0
TakesFacts old item new = record {
  frames : new.counts.frames ≡ frames_after old.counts.frames item;
  samples : new.counts.samples ≡ samples_after old.counts.samples item;
  learns : Learns old (info_of item) new;
}

module _ {X : Type 0} (after : X → Info → X) (view : Facts → X) (one : (old : Facts) (found : Option Info) (new : Facts) → Learns old found new → view new ≡ if_info after (view old) found) where
  pub learned : (old : Facts) (xs : List Piece) (new : Facts) → TakesAll (taken TakesFacts) old xs new → view new ≡ folded after (view old) (infos_in xs)
  learned old [] new h = ap view (sym h)
  learned old (marked ∷ xs) new h = learned h.0 xs new h.2 ∙ ap (λ (f : Facts). folded after (view f) (infos_in xs)) (sym h.1)
  learned old (block last b ∷ xs) new h = learned h.0 xs new h.2 ∙ ap (λ x. folded after x (infos_in xs)) (one old _ h.0 h.1.learns) ∙ folded_onto after (view old) (info_after None b) (infos_in xs)
  learned old (framed f ∷ xs) new h = learned h.0 xs new h.2 ∙ ap (λ x. folded after x (infos_in xs)) (one old _ h.0 h.1.learns)

-- ---- one stream has one

-- what is known after a STREAMINFO
abbrev last_known : Option Info → Info → Option Info
last_known known i = Some i

after_is : (known : Option Info) (b : Block) → info_after known b ≡ if_info last_known known (info_after None b)
after_is known (block_of.StreamInfo i) = refl
after_is known (block_of.Padding n) = refl
after_is known (block_of.Application id bytes) = refl
after_is known (block_of.SeekTable points) = refl
after_is known (block_of.VorbisComment found) = refl
after_is known (block_of.CueSheet found) = refl
after_is known (block_of.Picture found) = refl
after_is known (block_of.Other kind bytes) = refl

info_is : (known : Option Info) (xs : List Piece) → info_in known xs ≡ folded last_known known (infos_in xs)
info_is known [] = refl
info_is known (marked ∷ xs) = info_is known xs
info_is known (block last b ∷ xs) =
    info_is (info_after known b) xs ∙ ap (λ k. folded last_known k (infos_in xs)) (after_is known b) ∙ folded_onto last_known known (info_after None b) (infos_in xs)
info_is known (framed f ∷ xs) = info_is known xs

frames_none : (fs : List Frame) → infos_in (map framed fs) ≡ []
frames_none [] = refl
frames_none (f ∷ fs) = frames_none fs

-- after STREAMINFO no block is one
came_not : {Y : Type 0} (came : Bool) → came ≡ true → came ≡ false → Y
came_not true is not = absurd cc
came_not false is not = absurd cc

others_none : (seen : Seen) (bs : List Block) (fs : List Frame) → seen.stream_info ≡ true → AllBlocks seen bs → infos_in (closing bs ++ map framed fs) ≡ []
others_none seen [] fs is h = frames_none fs
others_none seen (block_of.StreamInfo i ∷ bs) fs is h = came_not seen.stream_info is h.0.once
others_none seen (block_of.Padding n ∷ bs) fs is h = others_none seen bs fs is h.1
others_none seen (block_of.Application id bytes ∷ bs) fs is h = others_none seen bs fs is h.1
others_none seen (block_of.SeekTable points ∷ bs) fs is h = others_none (seen_after seen (block_of.SeekTable points)) bs fs is h.1
others_none seen (block_of.VorbisComment found ∷ bs) fs is h = others_none (seen_after seen (block_of.VorbisComment found)) bs fs is h.1
others_none seen (block_of.CueSheet found ∷ bs) fs is h = others_none seen bs fs is h.1
others_none seen (block_of.Picture found ∷ bs) fs is h = others_none seen bs fs is h.1
others_none seen (block_of.Other kind bytes ∷ bs) fs is h = others_none seen bs fs is h.1

abbrev HasOne : List Piece → Type 0
HasOne xs = (i : Info) × (infos_in xs ≡ i ∷ [])

native_one : (profile : Profile) (m : Mark) (xs : List Piece) (text : List Bool) → Stream grammar (opening profile) m xs text → HasOne xs
native_one profile m xs text s =
    let w = (streams_are_whole profile m xs text).0 s in
    let all = valid_after profile m w.info w.list w.begins.head w.begins.spelled in
    (w.info, ap infos_in w.parts ∙ ap (λ is. w.info ∷ is) (others_none (seen_after nothing_seen (block_of.StreamInfo w.info)) w.list w.frames refl all.1))

one_in : (profile : Profile) (is_ogg : Bool) (m : Mark) (xs : List Piece) (text : List Bool) → (read_either profile is_ogg m text).whole xs → HasOne xs
one_in profile true m xs text o = native_one profile _ _ _ (ogg_streams_are_streams profile m xs text o)
one_in profile false m xs text s = native_one profile m xs text s

pub one_of_link : (profile : Profile) (link : List ℕ) (xs : List Piece) → (link_reading profile link).whole xs → HasOne xs
one_of_link profile link xs whole = let bytes = trimmed false link in one_in profile (begins_page bytes) (start_mark the_end) xs (bits_of bytes) whole

-- ---- each stream of a chain has one

-- these are the STREAMINFOs of streams of these parts
pub record IsInfoOf (p : List Piece) (i : Info) : Type 0 where
  pub alone : infos_in p ≡ i ∷ []
  pub known : info_in None p ≡ Some i

abbrev pub AreInfos : List (List Piece) → List Info → Type 0
AreInfos [] [] = Unit {0}
AreInfos (p ∷ ps) (i ∷ is) = IsInfoOf p i × AreInfos ps is
AreInfos ps is = ⊥

info_of_one : (p : List Piece) (one : HasOne p) → IsInfoOf p one.0
info_of_one p one = record { alone = one.1; known = info_is None p ∙ ap (folded last_known None) one.1 }

later_infos : (profile : Profile) (bytes : List ℕ) (ps : List (List Piece)) → AreLater profile bytes ps → (is : List Info) × AreInfos ps is
later_infos profile bytes [] h = ([], tt)
later_infos profile bytes (p ∷ ps) h =
    let one = one_of_link profile (first_link bytes) p h.1 in
    let more = later_infos profile (later_links bytes) ps h.2 in
    (one.0 ∷ more.0, (info_of_one p one, more.1))

pub chain_infos : (profile : Profile) (bytes : List ℕ) (ps : List (List Piece)) → IsChain profile bytes ps → (is : List Info) × AreInfos ps is
chain_infos profile bytes [] h = absurd h
chain_infos profile bytes (p ∷ ps) h =
    let one = one_of_link profile (first_link bytes) p h.0 in
    let more = later_infos profile (later_links bytes) ps h.1 in
    (one.0 ∷ more.0, (info_of_one p one, more.1))

pub all_infos : (ps : List (List Piece)) (is : List Info) → AreInfos ps is → infos_in (all_parts ps) ≡ is
all_infos [] [] h = refl
all_infos [] (i ∷ is) h = absurd h
all_infos (p ∷ ps) [] h = absurd h
all_infos (p ∷ ps) (i ∷ is) h = more_infos p (all_parts ps) ∙ ap (λ js. js ++ infos_in (all_parts ps)) h.0.alone ∙ ap (λ js. i ∷ js) (all_infos ps is h.1)

-- ---- so the first, their number, and what they lack

first_stays : (i : Info) (is : List Info) → folded first_known (Some i) is ≡ Some i
first_stays i [] = refl
first_stays i (j ∷ is) = first_stays i is

pub first_is : (ps : List (List Piece)) (is : List Info) → AreInfos ps is → folded first_known None is ≡ first_info ps
first_is [] [] h = refl
first_is [] (i ∷ is) h = absurd h
first_is (p ∷ ps) [] h = absurd h
first_is (p ∷ ps) (i ∷ is) h = first_stays i is ∙ sym h.0.known

count_none : (n : ℕ) → n ≤ 18446744073709551615 → n ≡ printed (n + 0)
count_none n few = omega (arith, few)

count_more : (n k total : ℕ) → total ≡ printed (min (n + 1) 18446744073709551615 + k) → total ≡ printed (n + (k + 1))
count_more n k total is = omega (arith, is)

at_most : (n : ℕ) → min (n + 1) 18446744073709551615 ≤ 18446744073709551615
at_most n = omega arith

count_from : (n : ℕ) (ps : List (List Piece)) (is : List Info) → n ≤ 18446744073709551615 → AreInfos ps is → folded streams_after n is ≡ printed (n + length ps)
count_from n [] [] few h = count_none n few
count_from n [] (i ∷ is) few h = absurd h
count_from n (p ∷ ps) [] few h = absurd h
count_from n (p ∷ ps) (i ∷ is) few h =
    let same : length (p ∷ ps) ≡ length ps + 1 = omega arith in
    count_more n (length ps) _ (count_from (streams_after n i) ps is (at_most n) h.1) ∙ ap (λ k. printed (n + k)) (sym same)

pub count_is : (ps : List (List Piece)) (is : List Info) → AreInfos ps is → folded streams_after 0 is ≡ printed (length ps)
count_is ps is h =
    let few : 0 ≤ 18446744073709551615 = omega arith in
    let same : 0 + length ps ≡ length ps = omega arith in
    count_from 0 ps is few h ∙ ap printed same

module _ (lacks : Option Info → Bool) where
  pub lacks_are : (b : Bool) (ps : List (List Piece)) (is : List Info) → AreInfos ps is → folded (lacks_after lacks) b is ≡ (b || list_any (λ p. lacks (info_in None p)) ps)
  lacks_are true [] [] h = refl
  lacks_are false [] [] h = refl
  lacks_are b [] (i ∷ is) h = absurd h
  lacks_are b (p ∷ ps) [] h = absurd h
  lacks_are b (p ∷ ps) (i ∷ is) h =
      lacks_are (b || lacks (Some i)) ps is h.1 ∙ or_assoc b (lacks (Some i)) (list_any (λ q. lacks (info_in None q)) ps)
      ∙ ap (λ o. b || (lacks o || list_any (λ q. lacks (info_in None q)) ps)) (sym h.0.known)
