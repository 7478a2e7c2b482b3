-- A frame of a block, as one of all samples: only their format matters.
use Rattle.std.proofs.Common.{◌≡◌, ℕ, ◌-◌, ◌*◌, ◌<◌, ◌≤◌, ℤ, Bool, false, Option, Some, None, List, [], ◌∷◌, drop, ap, ◌∙◌, arith}
use Rattle.std.proofs.lemmas.List.{length-take-le, length-drop}
use Rattle.flac_subframe.specs.declared.format.linear.LinearPredictor.{LinearPredictor}
use Rattle.flac_frame.specs.Audio.{samples_each}
use Rattle.flac_frame.specs.Encoding.{block_of, IsEncoding, IsOfPlanes, IsLeastByPlane}
use Rattle.flac_frame.specs.Frame.{Frame}
use Rattle.flac_frame.specs.PlaneLists.{Lists, same_list}
use Rattle.flac_frame.specs.Spelling.{FrameForm}
use Rattle.flac_native.specs.Given.{size_of, frame_of}
use Rattle.flac_native.specs.Writing.{SpellsFrame, SpellsLeastByPlane}
use Rattle.flac_predict.specs.declared.search.Search.{Search}
use Rattle.flac_encoder.specs.Pushing.{Shape, sound_of, frame_with, SpellsLeastFound}

module _ (s : Shape) (x y : List (List ℤ)) where
  encoding_moved : (size number : ℕ) (block : List (List ℤ)) (f : FrameForm) → IsEncoding (sound_of s x) size number block f → IsEncoding (sound_of s y) size number block f
  encoding_moved size number block f e = record { code = e.code; header = e.header; valid = e.valid; channels = e.channels; many = e.many; subframes = e.subframes; samples = e.samples }

  planes_moved : (lists : Lists) (size number : ℕ) (block : List (List ℤ)) (f : FrameForm) → IsOfPlanes lists (sound_of s x) size number block f → IsOfPlanes lists (sound_of s y) size number block f
  planes_moved lists size number block f o = record { encoding = encoding_moved size number block f o.encoding; stand = o.stand }

  pub spells_moved : (f : Frame) (text : List Bool) → SpellsFrame (sound_of s x) f text → SpellsFrame (sound_of s y) f text
  spells_moved f text k = record { form = k.form; encoding = encoding_moved f.size f.number f.channels k.form k.encoding; spelling = k.spelling; short = k.short }

module _ (s : Shape) (x y : List (List ℤ)) where
  least_moved : (lists : Lists) (size number : ℕ) (block : List (List ℤ)) (f : FrameForm) → IsLeastByPlane lists (sound_of s x) size number block f → IsLeastByPlane lists (sound_of s y) size number block f
  least_moved lists size number block f l = record {
    least = record {
      member = planes_moved s x y lists size number block f l.least.member;
      least = λ g o. l.least.least g (planes_moved s y x lists size number block g o);
    };
    fewest = λ g o. l.fewest g (planes_moved s y x lists size number block g o);
    first = λ g o lt. l.first g (planes_moved s y x lists size number block g o) lt;
  }

  by_plane_moved : (lists : Lists) (f : Frame) (text : List Bool) → SpellsLeastByPlane lists (sound_of s x) f text → SpellsLeastByPlane lists (sound_of s y) f text
  by_plane_moved lists f text k = record { form = k.form; least = least_moved lists f.size f.number f.channels k.form k.least; spelling = k.spelling }

  pub found_moved : (search : Option Search) (ps : List LinearPredictor) (f : Frame) (text : List Bool) → SpellsLeastFound search ps (sound_of s x) f text → SpellsLeastFound search ps (sound_of s y) f text
  found_moved None ps f text k = by_plane_moved (same_list ps) f text k
  found_moved (Some search) ps f text k = (k.0, k.1, by_plane_moved k.0 f text k.2)

-- ---- a block of all samples

pub block_long : (start size : ℕ) (samples : List (List ℤ)) → start < samples_each samples → size ≤ samples_each samples - start → samples_each (block_of start size samples) ≡ size
block_long start size [] some within = absurd (omega (arith, some))
block_long start size (c ∷ cs) some within = length-take-le size (drop start c) (omega (arith, length-drop start c, within, some))

abbrev sized : (number size : ℕ) → List (List ℤ) → Frame
sized number size block = record { variable = false; number = number; size = size; channels = block }

pub frame_is : (b number : ℕ) (s : Shape) (samples block : List (List ℤ)) → b * number < samples_each samples → block ≡ block_of (b * number) (size_of b (samples_each samples) number) samples
    → frame_with number block ≡ frame_of b (sound_of s samples) number
frame_is b number s samples block some is =
    let size = size_of b (samples_each samples) number in
    let long = block_long (b * number) size samples some (omega arith) in
    ap (frame_with number) is ∙ ap (λ n. sized number n (block_of (b * number) size samples)) long
