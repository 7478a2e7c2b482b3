-- The lines that are added to a report are read as what they say of the files.
use Rattle.std.proofs.Common.{◌≡◌, ◌<◌, ◌^◌, ◌&&◌, ℕ, Bool, true, false, nat_eq, nat_lt, cond, List, [], ◌∷◌, map, All, Option, Some, None, IfSome, option_map, refl, sym, ap, subst, ◌∙◌, arith, inl, inr}
use Rattle.std.proofs.lemmas.Cmp.{nat_eq_equiv, nat_list_eq_equiv}
use Rattle.std.proofs.lemmas.List.Elements.{All-nil, All-cons}
use Rattle.std.specs.Cmp.Lexicographic.{options_equiv}
use Rattle.std.specs.Option.{option_eq}
use Rattle.std.specs.Str.{bytes_eq}
use Rattle.flac_bits.specs.Bits.{bits_of}
use Rattle.flac_bits.specs.Forms.{AreBytes, IsBytes}
use Rattle.flac_bits.specs.Items.{Joined}
use Rattle.flac_bits.specs.Meaning.{Spells}
use Rattle.flac_bits.specs.State.{Mark, past, fresh, the_end}
use Rattle.flac_bits.specs.declared.why.Why.TheVariants.{Truncated}
use Rattle.flac_info.specs.Info.{Info}
use Rattle.flac_meta.specs.Valid.{IsInfo, FitsFields}
use Rattle.flac_meta.specs.declared.block.Block.{Block}
use Rattle.flac_meta.specs.declared.block.Block.TheVariants as block_of
use Rattle.flac_header.specs.declared.subset.Profile.{Profile}
use Rattle.flac_native.specs.Decoding.{beginning, start_mark}
use Rattle.flac_native.specs.Stream.{Piece, marked, block, framed, Stand, Progress, opening, grammar, layout, next, stand_after, info_after, is_unknown}
use Rattle.flac_native.specs.declared.track.Phase.{Phase}
use Rattle.flac_native.specs.declared.track.Phase.TheVariants.{Opening, Blocks, Frames}
use Rattle.flac_native.proofs.Blocks.{marker_there, block_there}
use Rattle.flac_native.proofs.Onwards.{frame_there}
use Rattle.flac_ogg.specs.Either.{begins_page, read_either}
use Rattle.flac_ogg.specs.Native.{native_text}
use Rattle.flac_ogg.proofs.NativeItems.{ogg_streams_are_streams}
use Rattle.flac_around.specs.Chains.{first_link}
use Rattle.flac_around.specs.EmptyPackets.{trimmed}
use Rattle.flac_chain.specs.Chained.{IsChain}
use Rattle.flac_shelf.specs.Listed.{Contents, Listed}
use Rattle.flac_shelf.specs.Past.{same_audio, same_stamp}
use Rattle.flac_shelf.specs.declared.past.Audio.{Audio}
use Rattle.flac_shelf.specs.declared.past.Past.{Past}
use Rattle.flac_shelf.specs.declared.stamp.Stamp.{Stamp}
use Rattle.flac_report.specs.Entries as entries
use Rattle.flac_report.specs.Entries.{IsDigest, FitsGood, FitsFound, line_of, past_of}
use Rattle.flac_report.specs.Lines.{said}
use Rattle.flac_report.specs.declared.lines.Recorded.{Recorded}
use Rattle.flac_report.proofs.Ends.{apart}
use Rattle.flac_cli.specs.Changes.{audio_of, audio_in, stated_in, digest_of}
use Rattle.flac_cli.specs.Reported.{rate_of, channels_of, depth_of, good_file, found_of, is_sought_in, report_entry, report_entries}
use Rattle.flac_cli.specs.ReportRead.{IsNamed, AreNamed, found_audio, records_of, AreReadFrom, ReportsAreReadBack, ReadFilesAreSame}
use Rattle.flac_cli.specs.Verified.{asked_profile, info_in, first_info, IsStreamOf, IsFound, AreFound}
use Rattle.flac_cli.specs.declared.verify_facts.Facts.{Facts}
use Rattle.flac_cli.specs.declared.verify.Finding.{Finding}
use Rattle.flac_cli.specs.declared.verify.Finding.TheVariants.{Good, Bad, Unopened}

-- ---- STREAMINFO of a stream fits its fields

abbrev Fitting : Option Info → Type 0
Fitting info = IfSome info IsInfo

after_block : (info : Option Info) (b : Block) → Fitting info → FitsFields b → Fitting (info_after info b)
after_block info (block_of.StreamInfo i) told fits = fits
after_block info (block_of.Padding n) told fits = told
after_block info (block_of.Application id bytes) told fits = told
after_block info (block_of.SeekTable points) told fits = told
after_block info (block_of.VorbisComment found) told fits = told
after_block info (block_of.CueSheet found) told fits = told
after_block info (block_of.Picture found) told fits = told
after_block info (block_of.Other kind bytes) told fits = told

abbrev FitsAfter : Stand → Piece → Type 0
FitsAfter s x = Fitting (stand_after s x).info

after_part : (s : Stand) (m : Mark) (text : List Bool) (x : Piece) → Fitting s.info → Spells (layout s) m text x → FitsAfter s x
after_part s m text x told h = go s.phase refl
  where
    go : (k : Phase) → s.phase ≡ k → FitsAfter s x
    go Opening e =
        let there : FitsAfter s marked = told in
        subst (FitsAfter s) (sym (marker_there s m text x e h).0) there
    go Blocks e =
        let t = block_there s m text x e h in
        let there : FitsAfter s (block t.last t.is) = after_block s.info t.is told t.valid.fits in
        subst (FitsAfter s) (sym t.part) there
    go Frames e =
        let t = frame_there s m text x e h in
        let there : FitsAfter s (framed t.is) = told in
        subst (FitsAfter s) (sym t.part) there

after_parts : (p : Progress) (m : Mark) (items : List Piece) (text : List Bool) → Fitting p.stand.info → Joined grammar p m items text → Fitting (info_in p.stand.info items)
after_parts p m [] text told j = told
after_parts p m (marked ∷ xs) text told (front, rest, split, spelled, room, others) = after_parts (next p marked) (past front (fresh m)) xs rest (after_part p.stand (fresh m) front marked told spelled) others
after_parts p m (block last b ∷ xs) text told (front, rest, split, spelled, room, others) = after_parts (next p (block last b)) (past front (fresh m)) xs rest (after_part p.stand (fresh m) front (block last b) told spelled) others
after_parts p m (framed f ∷ xs) text told (front, rest, split, spelled, room, others) = after_parts (next p (framed f)) (past front (fresh m)) xs rest (after_part p.stand (fresh m) front (framed f) told spelled) others

-- of a whole stream
stream_fits : (profile : Profile) (is_ogg : Bool) (m : Mark) (items : List Piece) (text : List Bool) → (read_either profile is_ogg m text).whole items → Fitting (info_in None items)
stream_fits profile true m items text o =
    let s = ogg_streams_are_streams profile m items text o in
    after_parts (opening profile) (beginning Truncated) (marked ∷ items) (native_text o.contents.packets) tt s.spelled
stream_fits profile false m items text s = after_parts (opening profile) m items text tt s.spelled

-- ---- what a line says fits

are_bytes : (xs : List ℕ) → AreBytes xs → All (λ byte. byte < 256) xs
are_bytes [] h = All-nil (λ byte. byte < 256)
are_bytes (x ∷ xs) h = All-cons (λ byte. byte < 256) x xs h.0 (are_bytes xs h.1)

digest_by : (unknown : Bool) (digest : List ℕ) → IsBytes 16 digest → IfSome (cond unknown None (Some digest)) IsDigest
digest_by true digest is = tt
digest_by false digest is = record { size = is.many; bytes = are_bytes digest is.small }

-- of the first stream of a chain
chain_fits : (profile : Profile) (bytes : List ℕ) (ps : List (List Piece)) → IsChain profile bytes ps → Fitting (first_info ps)
chain_fits profile bytes [] is = absurd is
chain_fits profile bytes (p ∷ ps) is = let link = trimmed false (first_link bytes) in stream_fits profile (begins_page link) (start_mark the_end) p (bits_of link) is.0

record FitsInfo (info : Option Info) : Type 0 where
  rate : IfSome (rate_of info) (λ n. n < 2 ^ 64)
  channels : IfSome (channels_of info) (λ n. n < 2 ^ 64)
  depth : IfSome (depth_of info) (λ n. n < 2 ^ 64)
  digest : IfSome (stated_in info) IsDigest

info_fits : (info : Option Info) → Fitting info → FitsInfo info
info_fits None told = record { rate = tt; channels = tt; depth = tt; digest = tt }
info_fits (Some i) told = record {
  rate = omega (arith, told.rules.rate);
  channels = omega (arith, told.rules.channels);
  depth = omega (arith, told.rules.depth);
  digest = digest_by (is_unknown i.digest) i.digest told.digest;
}

-- several streams state none
one_digest : (several : Bool) (digest : Option (List ℕ)) → IfSome digest IsDigest → IfSome (cond several None digest) IsDigest
one_digest true digest fits = tt
one_digest false digest fits = fits

good_fits : (is_sought : Bool) (tagged : Option Bool) (profile : Profile) (of : Contents) (facts : Facts) → IsStreamOf profile of facts → FitsGood (good_file is_sought tagged facts)
good_fits is_sought tagged profile of facts ((parts, whole, says), container) =
    let info = info_fits facts.info (subst Fitting (sym says.info) (chain_fits profile of.bytes parts whole)) in
    record {
      rate = info.rate;
      channels = info.channels;
      depth = info.depth;
      frames = omega (arith, says.frames);
      samples = omega (arith, says.samples);
      digest = one_digest (nat_lt 1 facts.streams) (stated_in facts.info) info.digest;
    }

found_fits : (subset is_sought : Bool) (tagged : Option Bool) (contents : Option Contents) (finding : Finding) → IsFound subset contents finding → FitsFound (found_of is_sought tagged finding)
found_fits subset is_sought tagged None (Good facts) found = elim found.right [ inl out ↦ absurd out | inr is ↦ absurd is ]
found_fits subset is_sought tagged (Some of) (Good facts) found = elim found.right [ inl out ↦ absurd out | inr is ↦ good_fits is_sought tagged (asked_profile subset) of facts is.0 ]
found_fits subset is_sought tagged contents (Bad flaw) found = tt
found_fits subset is_sought tagged contents Unopened found = tt

entry_fits : (subset : Bool) (file : Listed) (finding : Finding) → IsNamed file → IsFound subset file.contents finding → entries.Fits (report_entry subset file finding)
entry_fits subset file finding named found = record {
  path = named.path;
  stamp = named.stamp;
  found = found_fits subset (is_sought_in subset file.contents) file.tagged file.contents finding found;
}

-- ---- what is read

-- the audio of a line is that of the stream
audio_same : (info : Option Info) (digest : Option (List ℕ)) (samples : ℕ) → ◌≡◌ {A = Audio} (record { digest = digest; samples = samples; rate = rate_of info; channels = channels_of info; depth = depth_of info }) (audio_in info digest samples)
audio_same None digest samples = refl
audio_same (Some info) digest samples = refl

found_same : (is_sought : Bool) (tagged : Option Bool) (finding : Finding) → entries.audio_of (found_of is_sought tagged finding) ≡ found_audio finding
found_same is_sought tagged (Good facts) = ap Some (audio_same facts.info (digest_of facts) facts.counts.samples)
found_same is_sought tagged (Bad flaw) = refl
found_same is_sought tagged Unopened = refl

abbrev with_audio : (path : List ℕ) → Stamp → Option Audio → Option (List ℕ × Past)
with_audio path stamp audio = Some (path, record { stamp = stamp; audio = audio })

each_read : (subset : Bool) (files : List Listed) (findings : List Finding) (read : List (Option Recorded)) → AreNamed files → AreFound subset files findings
    → AreReadFrom (map line_of (report_entries subset files findings)) read → map (option_map said) read ≡ map Some (records_of files findings)
each_read subset [] [] [] named found is = refl
each_read subset [] [] (r ∷ rs) named found is = absurd is
each_read subset [] (finding ∷ findings) read named found is = absurd found
each_read subset (file ∷ files) [] read named found is = absurd found
each_read subset (file ∷ files) (finding ∷ findings) [] named found is = absurd is
each_read subset (file ∷ files) (finding ∷ findings) (r ∷ rs) named found is =
    let entry = report_entry subset file finding in
    let first = is.0 entry (entry_fits subset file finding named.0 found.0) refl ∙ ap (with_audio file.path file.stamp) (found_same (is_sought_in subset file.contents) file.tagged finding) in
    ap (λ o. o ∷ map (option_map said) rs) first ∙ ap (λ l. with_audio file.path file.stamp (found_audio finding) ∷ l) (each_read subset files findings rs named.1 found.1 is.1)

pub reports_are_read_back : ReportsAreReadBack
reports_are_read_back subset files findings read named found is =
    each_read subset files findings read named found (subst (λ ls. AreReadFrom ls read) (apart (report_entries subset files findings)) is)

-- ---- a file that did not change

both_hold : (a b : Bool) → a ≡ true → b ≡ true → (a && b) ≡ true
both_hold true b first second = second
both_hold false b first second = absurd cc

same_numbers : (n : Option ℕ) → option_eq nat_eq n n ≡ true
same_numbers n = (options_equiv nat_eq_equiv).refl n

same_digests : (digest : Option (List ℕ)) → option_eq bytes_eq digest digest ≡ true
same_digests digest = (options_equiv nat_list_eq_equiv).refl digest

same_at : (s : Stamp) → same_stamp s s ≡ true
same_at s = both_hold _ _ (same_numbers s.bytes) (both_hold _ _ (same_numbers s.modified) (same_numbers s.nanoseconds))

same_heard : (a : Audio) → same_audio a a ≡ true
same_heard a =
    both_hold _ _ (same_digests a.digest) (both_hold _ _ (nat_eq_equiv.refl a.samples)
    (both_hold _ _ (same_numbers a.rate) (both_hold _ _ (same_numbers a.channels) (same_numbers a.depth))))

pub read_files_are_same : ReadFilesAreSame
read_files_are_same file (Good facts) = rw (same_heard (audio_of facts), same_at file.stamp) refl
read_files_are_same file (Bad flaw) = refl
read_files_are_same file Unopened = refl
