-- The line of a file is read as its path and what it says of the file.
use Rattle.std.proofs.Common.{◌≡◌, ℕ, Bool, true, false, cond, List, [], ◌∷◌, ◌++◌, length, take, drop, codes, Option, Some, None, IfSome, refl, sym, ap, ◌∙◌, append_assoc, length-append, nat_lt, arith}
use Rattle.std.proofs.Math.Seq.{take-append_seam, drop-append_seam}
use Rattle.std.proofs.lemmas.Bool.Decides.{nat_tests}
use Rattle.flac_json.specs.Json.{text, truth, more_members}
use Rattle.flac_json.specs.Texts.{escapes, all_digits}
use Rattle.flac_json.proofs.Digits.{escaped_digits}
use Rattle.flac_shelf.specs.declared.past.Audio.{Audio}
use Rattle.flac_shelf.specs.declared.past.Past.{Past}
use Rattle.flac_shelf.specs.declared.stamp.Stamp.{Stamp}
use Rattle.flac_report.specs.Objects.{Member, members_of, valued, counted, present}
use Rattle.flac_report.specs.Entries.{Container, native, ogg, GoodFile, Found, good, bad, unopened, Entry, status_of, container_member, container_of, digest_member, subset_member, id3_member, found_members, line_of, audio_of, past_of, IsDigest, FitsStamp, FitsGood, FitsFound, Fits}
use Rattle.flac_report.specs.Lines.{LinesAreDetermined}
use Rattle.flac_report.specs.inner.Reading.{begins, value_in, after_in, at_modified, at_nanoseconds, stamp_in, after_stamp, after_container, digest_in, digested, with_digest, audio_in, good_past, past_in, text_in, path_end, both_of, recorded_after, recorded_in, path_after, path_in}
use Rattle.flac_report.proofs.Digests.{digest_is}
use Rattle.flac_report.proofs.Pasts.{audio_is}
use Rattle.flac_report.proofs.Quoted.{text_is, escapes_plain, end_is}
use Rattle.flac_report.proofs.Tails.{tail_text, opening, Differs, AllDiffer, counted_differs, none_begins, Reads, counted_read}

-- ---- the members of a line

abbrev pub stamp_then : Stamp → List (Option Member) → List (Option Member)
stamp_then s ms = counted (codes "bytes") s.bytes ∷ counted (codes "modified") s.modified ∷ counted (codes "nanoseconds") s.nanoseconds ∷ ms

abbrev after_audio : GoodFile → List (Option Member)
after_audio g = valued (codes "md5_checked") (truth g.checked) ∷ subset_member g.subset ∷ id3_member g.id3 ∷ counted (codes "streams") g.streams ∷ []

subset_differs : (front : List ℕ) (s : Option Bool) → ((rest : List ℕ) → begins front (opening (codes "subset") ++ rest) ≡ false) → Differs front (subset_member s)
subset_differs front None d = tt
subset_differs front (Some b) d = d

id3_differs : (front : List ℕ) (s : Option Bool) → ((rest : List ℕ) → begins front (opening (codes "id3") ++ rest) ≡ false) → Differs front (id3_member s)
id3_differs front None d = tt
id3_differs front (Some b) d = d

digest_differs : (front : List ℕ) (s : Option (List ℕ)) → ((rest : List ℕ) → begins front (opening (codes "md5") ++ rest) ≡ false) → Differs front (digest_member s)
digest_differs front None d = tt
digest_differs front (Some digest) d = d

-- the names of all members that may come after the time
record NoneOf (front : List ℕ) : Type 0 where
  end : begins front (125 ∷ 10 ∷ []) ≡ false
  rate : (rest : List ℕ) → begins front (opening (codes "rate") ++ rest) ≡ false
  channels : (rest : List ℕ) → begins front (opening (codes "channels") ++ rest) ≡ false
  depth : (rest : List ℕ) → begins front (opening (codes "depth") ++ rest) ≡ false
  frames : (rest : List ℕ) → begins front (opening (codes "frames") ++ rest) ≡ false
  samples : (rest : List ℕ) → begins front (opening (codes "samples") ++ rest) ≡ false
  md5 : (rest : List ℕ) → begins front (opening (codes "md5") ++ rest) ≡ false
  checked : (rest : List ℕ) → begins front (opening (codes "md5_checked") ++ rest) ≡ false
  subset : (rest : List ℕ) → begins front (opening (codes "subset") ++ rest) ≡ false
  id3 : (rest : List ℕ) → begins front (opening (codes "id3") ++ rest) ≡ false
  place : (rest : List ℕ) → begins front (opening (codes "place") ++ rest) ≡ false
  index : (rest : List ℕ) → begins front (opening (codes "index") ++ rest) ≡ false
  error : (rest : List ℕ) → begins front (opening (codes "error") ++ rest) ≡ false
  name : (rest : List ℕ) → begins front (opening (codes "name") ++ rest) ≡ false
  sample : (rest : List ℕ) → begins front (opening (codes "sample") ++ rest) ≡ false
  streams : (rest : List ℕ) → begins front (opening (codes "streams") ++ rest) ≡ false
  stream : (rest : List ℕ) → begins front (opening (codes "stream") ++ rest) ≡ false

found_differ : (front : List ℕ) (f : Found) → NoneOf front → AllDiffer front (found_members f)
found_differ front (good g) n = (
  counted_differs front (codes "rate") g.rate n.rate,
  (
    counted_differs front (codes "channels") g.channels n.channels,
    (
      counted_differs front (codes "depth") g.depth n.depth,
      (n.frames, (n.samples, (digest_differs front g.digest n.md5, (n.checked, (subset_differs front g.subset n.subset, (id3_differs front g.id3 n.id3, (counted_differs front (codes "streams") g.streams n.streams, n.end))))))),
    ),
  ),
)
found_differ front (bad b) n = (n.place, (counted_differs front (codes "index") b.index n.index, (n.error, (n.name, (counted_differs front (codes "sample") b.sample n.sample, (counted_differs front (codes "stream") b.stream n.stream, n.end))))))
found_differ front unopened n = n.end

bytes_alone : NoneOf (opening (codes "bytes"))
bytes_alone = record { end = refl; rate = λ r. refl; channels = λ r. refl; depth = λ r. refl; frames = λ r. refl; samples = λ r. refl; md5 = λ r. refl; checked = λ r. refl; subset = λ r. refl; id3 = λ r. refl; place = λ r. refl; index = λ r. refl; error = λ r. refl; name = λ r. refl; sample = λ r. refl; streams = λ r. refl; stream = λ r. refl }

modified_alone : NoneOf (opening (codes "modified"))
modified_alone = record { end = refl; rate = λ r. refl; channels = λ r. refl; depth = λ r. refl; frames = λ r. refl; samples = λ r. refl; md5 = λ r. refl; checked = λ r. refl; subset = λ r. refl; id3 = λ r. refl; place = λ r. refl; index = λ r. refl; error = λ r. refl; name = λ r. refl; sample = λ r. refl; streams = λ r. refl; stream = λ r. refl }

nanoseconds_alone : NoneOf (opening (codes "nanoseconds"))
nanoseconds_alone = record { end = refl; rate = λ r. refl; channels = λ r. refl; depth = λ r. refl; frames = λ r. refl; samples = λ r. refl; md5 = λ r. refl; checked = λ r. refl; subset = λ r. refl; id3 = λ r. refl; place = λ r. refl; index = λ r. refl; error = λ r. refl; name = λ r. refl; sample = λ r. refl; streams = λ r. refl; stream = λ r. refl }

-- ---- the size and the time

abbrev made : (bytes modified nanoseconds : Option ℕ) → Stamp
made bytes modified nanoseconds = record { bytes = bytes; modified = modified; nanoseconds = nanoseconds }

record ReadsStamp (s : Stamp) (text rest : List ℕ) : Type 0 where
  value : stamp_in text ≡ s
  after : after_stamp text ≡ rest

stamp_is : (s : Stamp) (t0 t1 t2 t3 : List ℕ) → Reads (opening (codes "bytes")) s.bytes t0 t1 → Reads (opening (codes "modified")) s.modified t1 t2
    → Reads (opening (codes "nanoseconds")) s.nanoseconds t2 t3 → ReadsStamp s t0 t3
unfolding stamp_in after_stamp
stamp_is s t0 t1 t2 t3 b m n =
    let second : at_nanoseconds t0 ≡ t2 = ap (after_in (codes ",\"modified\":")) b.after ∙ m.after in
    let modified : value_in (codes ",\"modified\":") (at_modified t0) ≡ s.modified = ap (value_in (codes ",\"modified\":")) b.after ∙ m.value in
    let nanoseconds : value_in (codes ",\"nanoseconds\":") (at_nanoseconds t0) ≡ s.nanoseconds = ap (value_in (codes ",\"nanoseconds\":")) second ∙ n.value in
    record {
      value = ap (λ v. made v (value_in (codes ",\"modified\":") (at_modified t0)) (value_in (codes ",\"nanoseconds\":") (at_nanoseconds t0))) b.value
          ∙ ap (λ v. made s.bytes v (value_in (codes ",\"nanoseconds\":") (at_nanoseconds t0))) modified ∙ ap (made s.bytes s.modified) nanoseconds;
      after = ap (after_in (codes ",\"nanoseconds\":")) second ∙ n.after;
    }

stamp_read : (s : Stamp) (f : Found) → FitsStamp s → ReadsStamp s (tail_text (stamp_then s (found_members f))) (tail_text (found_members f))
stamp_read s f small =
    let t3 = found_members f in
    let t2 = counted (codes "nanoseconds") s.nanoseconds ∷ t3 in
    let t1 = counted (codes "modified") s.modified ∷ t2 in
    stamp_is s (tail_text (stamp_then s t3)) (tail_text t1) (tail_text t2) (tail_text t3)
    (counted_read (codes "bytes") s.bytes t1 (λ r. refl) (counted_differs (opening (codes "bytes")) (codes "modified") s.modified (λ r. refl), (counted_differs (opening (codes "bytes")) (codes "nanoseconds") s.nanoseconds (λ r. refl), found_differ (opening (codes "bytes")) f bytes_alone)) small.bytes)
    (counted_read (codes "modified") s.modified t2 (λ r. refl) (counted_differs (opening (codes "modified")) (codes "nanoseconds") s.nanoseconds (λ r. refl), found_differ (opening (codes "modified")) f modified_alone) small.modified)
    (counted_read (codes "nanoseconds") s.nanoseconds t3 (λ r. refl) (found_differ (opening (codes "nanoseconds")) f nanoseconds_alone) small.nanoseconds)

-- ---- the audio

abbrev audio_with : GoodFile → Option (List ℕ) → Audio
audio_with g digest = record { digest = digest; samples = g.samples; rate = g.rate; channels = g.channels; depth = g.depth }

digest_read : (g : GoodFile) (digest : Option (List ℕ)) (ms : List (Option Member)) → begins (codes ",\"md5\":\"") (tail_text ms) ≡ false
    → IfSome digest IsDigest → with_digest (audio_with g None) (tail_text (digest_member digest ∷ ms)) ≡ Some (audio_with g digest)
unfolding with_digest
digest_read g None ms other fits = rw other refl
digest_read g (Some d) ms other fits =
    let mark : (((all_digits d ++ 34 ∷ []) ++ more_members (members_of (present ms))) ++ 125 ∷ 10 ∷ []) ≡ all_digits d ++ (34 ∷ tail_text ms)
    = append_assoc (all_digits d ++ 34 ∷ []) (more_members (members_of (present ms))) (125 ∷ 10 ∷ []) ∙ append_assoc (all_digits d) (34 ∷ []) (tail_text ms) in
    let same : digest_in (((escapes (all_digits d) ++ 34 ∷ []) ++ more_members (members_of (present ms))) ++ 125 ∷ 10 ∷ []) ≡ Some d
    = ap (λ l. digest_in (((l ++ 34 ∷ []) ++ more_members (members_of (present ms))) ++ 125 ∷ 10 ∷ [])) (escaped_digits d) ∙ ap digest_in mark ∙ digest_is d (34 ∷ tail_text ms) fits in
    ap (digested (audio_with g None)) same

no_digest : (g : GoodFile) → begins (codes ",\"md5\":\"") (tail_text (after_audio g)) ≡ false
no_digest g = none_begins (codes ",\"md5\":\"") (after_audio g) ((λ r. refl), (subset_differs (codes ",\"md5\":\"") g.subset (λ r. refl), (id3_differs (codes ",\"md5\":\"") g.id3 (λ r. refl), (counted_differs (codes ",\"md5\":\"") (codes "streams") g.streams (λ r. refl), refl))))

-- the members of a good file, the first of them left out one after another
abbrev at_digest : GoodFile → List (Option Member)
at_digest g = digest_member g.digest ∷ after_audio g

abbrev at_samples : GoodFile → List (Option Member)
at_samples g = counted (codes "samples") (Some g.samples) ∷ at_digest g

abbrev at_frames : GoodFile → List (Option Member)
at_frames g = counted (codes "frames") (Some g.frames) ∷ at_samples g

abbrev at_depth : GoodFile → List (Option Member)
at_depth g = counted (codes "depth") g.depth ∷ at_frames g

abbrev at_channels : GoodFile → List (Option Member)
at_channels g = counted (codes "channels") g.channels ∷ at_depth g

audio_read : (g : GoodFile) → FitsGood g → audio_in (tail_text (found_members (good g))) ≡ Some (audio_with g g.digest)
audio_read g fits =
    let rate = counted_read (codes "rate") g.rate (at_channels g) (λ r. refl) (
      counted_differs (opening (codes "rate")) (codes "channels") g.channels (λ r. refl),
      (
        counted_differs (opening (codes "rate")) (codes "depth") g.depth (λ r. refl),
        (
          (λ r. refl),
          (
            (λ r. refl),
            (digest_differs (opening (codes "rate")) g.digest (λ r. refl), ((λ r. refl), (subset_differs (opening (codes "rate")) g.subset (λ r. refl), (id3_differs (opening (codes "rate")) g.id3 (λ r. refl), (counted_differs (opening (codes "rate")) (codes "streams") g.streams (λ r. refl), refl))))),
          ),
        ),
      ),
    ) fits.rate in
    let channels = counted_read (codes "channels") g.channels (at_depth g) (λ r. refl) (
      counted_differs (opening (codes "channels")) (codes "depth") g.depth (λ r. refl),
      (
        (λ r. refl),
        (
          (λ r. refl),
          (digest_differs (opening (codes "channels")) g.digest (λ r. refl), ((λ r. refl), (subset_differs (opening (codes "channels")) g.subset (λ r. refl), (id3_differs (opening (codes "channels")) g.id3 (λ r. refl), (counted_differs (opening (codes "channels")) (codes "streams") g.streams (λ r. refl), refl))))),
        ),
      ),
    ) fits.channels in
    let depth = counted_read (codes "depth") g.depth (at_frames g) (λ r. refl)
    ((λ r. refl), ((λ r. refl), (digest_differs (opening (codes "depth")) g.digest (λ r. refl), ((λ r. refl), (subset_differs (opening (codes "depth")) g.subset (λ r. refl), (id3_differs (opening (codes "depth")) g.id3 (λ r. refl), (counted_differs (opening (codes "depth")) (codes "streams") g.streams (λ r. refl), refl))))))) fits.depth in
    let frames = counted_read (codes "frames") (Some g.frames) (at_samples g) (λ r. refl)
    ((λ r. refl), (digest_differs (opening (codes "frames")) g.digest (λ r. refl), ((λ r. refl), (subset_differs (opening (codes "frames")) g.subset (λ r. refl), (id3_differs (opening (codes "frames")) g.id3 (λ r. refl), (counted_differs (opening (codes "frames")) (codes "streams") g.streams (λ r. refl), refl)))))) fits.frames in
    let samples = counted_read (codes "samples") (Some g.samples) (at_digest g) (λ r. refl)
    (digest_differs (opening (codes "samples")) g.digest (λ r. refl), ((λ r. refl), (subset_differs (opening (codes "samples")) g.subset (λ r. refl), (id3_differs (opening (codes "samples")) g.id3 (λ r. refl), (counted_differs (opening (codes "samples")) (codes "streams") g.streams (λ r. refl), refl))))) fits.samples in
    sym (audio_is (tail_text (found_members (good g))) (tail_text (at_channels g)) (tail_text (at_depth g)) (tail_text (at_frames g)) (tail_text (at_samples g)) (tail_text (at_digest g))
    g.rate g.channels g.depth (Some g.samples) g.samples (Some (audio_with g g.digest))
    (sym rate.value) (sym rate.after) (sym channels.value) (sym channels.after) (sym depth.value) (sym depth.after) (sym frames.after) (sym samples.value) (sym samples.after) refl
    (sym (digest_read g g.digest (after_audio g) (no_digest g) fits.digest)))

-- ---- the container

container_read : (c : Option Container) (ms : List (Option Member)) → begins (codes ",\"container\":\"native\"") (tail_text ms) ≡ false → begins (codes ",\"container\":\"ogg\"") (tail_text ms) ≡ false
    → after_container (tail_text (container_member c ∷ ms)) ≡ tail_text ms
unfolding after_container
container_read None ms no_native no_ogg = rw (no_native, no_ogg) refl
container_read (Some native) ms no_native no_ogg = refl
container_read (Some ogg) ms no_native no_ogg = refl

native_alone : NoneOf (codes ",\"container\":\"native\"")
native_alone = record { end = refl; rate = λ r. refl; channels = λ r. refl; depth = λ r. refl; frames = λ r. refl; samples = λ r. refl; md5 = λ r. refl; checked = λ r. refl; subset = λ r. refl; id3 = λ r. refl; place = λ r. refl; index = λ r. refl; error = λ r. refl; name = λ r. refl; sample = λ r. refl; streams = λ r. refl; stream = λ r. refl }

ogg_alone : NoneOf (codes ",\"container\":\"ogg\"")
ogg_alone = record { end = refl; rate = λ r. refl; channels = λ r. refl; depth = λ r. refl; frames = λ r. refl; samples = λ r. refl; md5 = λ r. refl; checked = λ r. refl; subset = λ r. refl; id3 = λ r. refl; place = λ r. refl; index = λ r. refl; error = λ r. refl; name = λ r. refl; sample = λ r. refl; streams = λ r. refl; stream = λ r. refl }

stamp_differs : (front : List ℕ) (s : Stamp) (f : Found) → ((rest : List ℕ) → begins front (opening (codes "bytes") ++ rest) ≡ false) → ((rest : List ℕ) → begins front (opening (codes "modified") ++ rest) ≡ false)
    → ((rest : List ℕ) → begins front (opening (codes "nanoseconds") ++ rest) ≡ false) → NoneOf front → begins front (tail_text (stamp_then s (found_members f))) ≡ false
stamp_differs front s f b m n others =
    none_begins front (stamp_then s (found_members f)) (counted_differs front (codes "bytes") s.bytes b, (counted_differs front (codes "modified") s.modified m, (counted_differs front (codes "nanoseconds") s.nanoseconds n, found_differ front f others)))

container_passed : (c : Option Container) (s : Stamp) (f : Found) → after_container (tail_text (container_member c ∷ stamp_then s (found_members f))) ≡ tail_text (stamp_then s (found_members f))
container_passed c s f =
    container_read c (stamp_then s (found_members f)) (stamp_differs (codes ",\"container\":\"native\"") s f (λ r. refl) (λ r. refl) (λ r. refl) native_alone)
    (stamp_differs (codes ",\"container\":\"ogg\"") s f (λ r. refl) (λ r. refl) (λ r. refl) ogg_alone)

-- ---- what comes after the path

abbrev pub members_then : Entry → List (Option Member)
members_then e = container_member (container_of e.found) ∷ stamp_then e.stamp (found_members e.found)

abbrev pub after_path : Entry → List ℕ
after_path e = 34 ∷ tail_text (valued (codes "status") (text (status_of e.found)) ∷ members_then e)

abbrev made_past : Stamp → Option Audio → Past
made_past stamp audio = record { stamp = stamp; audio = audio }

good_by : (s : Stamp) (g : GoodFile) (t : Stamp) (a : Option Audio) → t ≡ s → a ≡ Some (audio_with g g.digest) → good_past t a ≡ Some (made_past s (audio_of (good g)))
good_by s g t a is audio = ap (λ v. good_past t v) audio ∙ ap (λ v. Some (made_past v (audio_of (good g)))) is

past_read : (path : List ℕ) (s : Stamp) (f : Found) → FitsStamp s → FitsFound f → past_in (after_path (record { path = path; stamp = s; found = f })) ≡ Some (made_past s (audio_of f))
unfolding past_in
past_read path s (good g) small fits =
    let r = stamp_read s (good g) small in
    let past = container_passed g.container s (good g) in
    good_by s g _ _ (ap stamp_in past ∙ r.value) (ap (λ l. audio_in (after_stamp l)) past ∙ ap audio_in r.after ∙ audio_read g fits)
past_read path s (bad b) small fits = ap (λ v. Some (made_past v None)) (stamp_read s (bad b) small).value
past_read path s unopened small fits = ap (λ v. Some (made_past v None)) (stamp_read s unopened small).value

-- ---- a line

flat : (path more : List ℕ) → (((path ++ 34 ∷ []) ++ more) ++ 125 ∷ []) ++ 10 ∷ [] ≡ path ++ (34 ∷ (more ++ 125 ∷ 10 ∷ []))
flat path more =
    ap (λ l. l ++ 10 ∷ []) (append_assoc (path ++ 34 ∷ []) more (125 ∷ [])) ∙ append_assoc (path ++ 34 ∷ []) (more ++ 125 ∷ []) (10 ∷ [])
    ∙ append_assoc path (34 ∷ []) ((more ++ 125 ∷ []) ++ 10 ∷ []) ∙ ap (λ l. path ++ (34 ∷ l)) (append_assoc more (125 ∷ []) (10 ∷ []))

pub line_shape : (e : Entry) → line_of e ≡ codes "{\"path\":\"" ++ (escapes e.path ++ after_path e)
line_shape e = ap (λ l. codes "{\"path\":\"" ++ l) (flat (escapes e.path) (more_members (members_of (present (valued (codes "status") (text (status_of e.found)) ∷ members_then e)))))

after_read : (path rest : List ℕ) (past : Past) → past_in (34 ∷ rest) ≡ Some past → text_in (escapes path) ≡ Some path → recorded_after (escapes path ++ 34 ∷ rest) ≡ Some (path, past)
after_read path rest past is as_text =
    let at = end_is (escapes path) rest (escapes_plain path) in
    ap (λ n. both_of (past_in (drop n (escapes path ++ 34 ∷ rest))) (text_in (take n (escapes path ++ 34 ∷ rest)))) at
    ∙ ap (λ l. both_of (past_in l) (text_in (take (length (escapes path)) (escapes path ++ 34 ∷ rest)))) (drop-append_seam (escapes path) (34 ∷ rest))
    ∙ ap (λ l. both_of (past_in (34 ∷ rest)) (text_in l)) (take-append_seam (escapes path) (34 ∷ rest))
    ∙ ap (λ p. both_of p (text_in (escapes path))) is ∙ ap (both_of (Some past)) as_text

in_line : (rest : List ℕ) → recorded_in (codes "{\"path\":\"" ++ rest) ≡ recorded_after rest
unfolding recorded_in
in_line rest = refl

pub recorded_is : (e : Entry) → Fits e → recorded_in (line_of e) ≡ Some (e.path, past_of e)
recorded_is e fits =
    ap recorded_in (line_shape e) ∙ in_line (escapes e.path ++ after_path e)
    ∙ after_read e.path (tail_text (valued (codes "status") (text (status_of e.found)) ∷ members_then e)) (past_of e) (past_read e.path e.stamp e.found fits.stamp fits.found) (text_is e.path fits.path)

after_path_read : (path rest : List ℕ) → text_in (escapes path) ≡ Some path → path_after (escapes path ++ 34 ∷ rest) ≡ Some path
after_path_read path rest as_text =
    let at = end_is (escapes path) rest (escapes_plain path) in
    let inside : nat_lt (path_end (escapes path ++ 34 ∷ rest)) (length (escapes path ++ 34 ∷ rest)) ≡ true = let l = length-append (escapes path) (34 ∷ rest) in grind (arith, nat_tests) in
    ap (λ b. cond b (text_in (take (path_end (escapes path ++ 34 ∷ rest)) (escapes path ++ 34 ∷ rest))) None) inside
    ∙ ap (λ n. text_in (take n (escapes path ++ 34 ∷ rest))) at ∙ ap text_in (take-append_seam (escapes path) (34 ∷ rest)) ∙ as_text

path_in_line : (rest : List ℕ) → path_in (codes "{\"path\":\"" ++ rest) ≡ path_after rest
unfolding path_in
path_in_line rest = refl

pub path_is : (e : Entry) → Fits e → path_in (line_of e) ≡ Some e.path
path_is e fits =
    ap path_in (line_shape e) ∙ path_in_line (escapes e.path ++ after_path e)
    ∙ after_path_read e.path (tail_text (valued (codes "status") (text (status_of e.found)) ∷ members_then e)) (text_is e.path fits.path)

-- ---- a line is that of one file

abbrev path_said : Option (List ℕ × Past) → List ℕ
path_said None = []
path_said (Some r) = r.0

abbrev past_said : Past → Option (List ℕ × Past) → Past
past_said other None = other
past_said other (Some r) = r.1

pub determined : LinesAreDetermined
determined a b fa fb is =
    let same : Some (a.path, past_of a) ≡ Some (b.path, past_of b) = sym (recorded_is a fa) ∙ ap recorded_in is ∙ recorded_is b fb in
    (ap path_said same, ap (past_said (past_of a)) same)
