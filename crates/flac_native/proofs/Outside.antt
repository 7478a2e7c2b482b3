-- Without the subset's limits nothing is outside the subset.
use Rattle.std.proofs.Common.{◌≡◌, ◌≢◌, ℕ, zero, suc, ◌+◌, ◌-◌, ◌*◌, ◌/◌, ◌^◌, ◌<◌, Bool, true, false, cond, nat_eq, nat_lt, List, [], ◌∷◌, length, Option, Some, None, ℤ, inl, inr, refl, sym, subst, ◌∙◌, arith}
use Rattle.std.specs.Bool.{⊤}
use Rattle.std.proofs.lemmas.Bool.Decides.{nat_tests}
use Rattle.flac_bits.specs.State.{Mark, past, fresh}
use Rattle.flac_bits.specs.Layout.{Layout, Rule, done, bind, bits, unary, judge, refuse, mark, choose}
use Rattle.flac_bits.specs.Meaning.{Shows, BreaksFirst}
use Rattle.flac_bits.specs.Items.{Joined, StopsAt, state_after, mark_after}
use Rattle.flac_bits.specs.Lists.{list_of}
use Rattle.flac_bits.specs.LittleEndian.{little_32}
use Rattle.flac_bits.specs.Number.{number, continued, some_or_bad, lead_form}
use Rattle.flac_bits.specs.Rice.{rice, rice_value, within}
use Rattle.flac_bits.specs.Signed.{signed_field}
use Rattle.flac_bits.specs.declared.why.Why.{Why}
use Rattle.flac_bits.specs.declared.why.Why.TheVariants.{NotSubset, ReservedCode, FrameTooLong, SampleRange}
use Rattle.flac_bits.proofs.Meaning.{past-short}
use Rattle.flac_header.specs.Header.{header, size_field, rate_field, allowed}
use Rattle.flac_header.specs.declared.subset.Profile.TheVariants.{Lax}
use Rattle.flac_info.specs.Info.{Info}
use Rattle.flac_meta.specs.Info.{stream_info, info_sizes, info_format}
use Rattle.flac_meta.specs.Header.{block_header}
use Rattle.flac_meta.specs.Fields.{sized, number_32, in_turn, zeros, reserved, ends_short}
use Rattle.flac_meta.specs.Padding.{skipped}
use Rattle.flac_meta.specs.SeekTable.{seek_point, seek_points}
use Rattle.flac_meta.specs.Comments.{comments, texts}
use Rattle.flac_meta.specs.CueSheet.{cue_index, cue_count, track_front, cue_track, cue_tracks, sheet_front, cue_sheet}
use Rattle.flac_meta.specs.Picture.{sizes, picture_front, picture}
use Rattle.flac_meta.specs.Block.{block as block_layout, content as block_content, padding, application, other as other_kind}
use Rattle.flac_meta.specs.declared.block.Seen.{Seen}
use Rattle.flac_subframe.specs.format.Residual.{residual, residual_header, partitions, partition, coded, escaped}
use Rattle.flac_subframe.specs.format.Subframe.{Constant, Verbatim, Fixed, Linear, subframe_samples, subframe, header as subframe_header, content, constant, verbatim, fixed, linear, predictor, predictor_order, wasted_bits, one_more, linear_order}
use Rattle.flac_frame.specs.Frame.{frame, stream_header, header_rules, frame_body, subframes, frame_end, limits_of, some_or, in_range}
use Rattle.flac_frame.specs.declared.before.Before.{Before}
use Rattle.flac_native.specs.Stream.{Piece, Stand, Progress, grammar, layout, layout_in, marker, frame_after, end_rules}
use Rattle.flac_native.specs.LaxProfile.{NothingIsOutsideLax}
use Rattle.flac_native.specs.declared.track.Phase.{Phase}
use Rattle.flac_native.specs.declared.track.Phase.TheVariants.{Opening, Blocks, Frames}
use Rattle.flac_native.proofs.Onwards.{after_profile}

-- ---- layouts

-- no front shows that the bits are outside the subset
record Inside {A : Type 0} (l : Layout A) : Type 0 where
  never : (m : Mark) (front : List Bool) → Shows l m front NotSubset → ⊥

-- a rule that gives another reason, or is not broken
abbrev Harmless : List Rule → Type 0
Harmless [] = ⊤
Harmless (r ∷ rs) = (r.broken ≡ true → r.why ≢ NotSubset) × Harmless rs

not_first : (rules : List Rule) → Harmless rules → BreaksFirst rules NotSubset → ⊥
not_first [] h b = b
not_first (r ∷ rs) h (inl b) = h.0 b.0 b.1
not_first (r ∷ rs) h (inr b) = not_first rs h.1 b.1

ends : {A : Type 0} (x : A) → Inside (done x)
ends x = record { never = λ m front s. s }

field : (n : ℕ) → Inside (bits n)
field n = record { never = λ m front s. s }

zeros_and_one : (n : ℕ) → Inside (unary n)
zeros_and_one n = record { never = λ m front s. s }

here : Inside mark
here = record { never = λ m front s. s }

judged : (rules : List Rule) → Harmless rules → Inside (judge rules)
judged rules h = record { never = λ m front s. not_first rules h s.1 }

refused : {A : Type 0} (why : Why) → why ≢ NotSubset → Inside (refuse {A = A} why)
refused why other = record { never = λ m front s. other s.1 }

-- one layout after another
one_then : {A B : Type 0} (l : Layout A) (f : A → Layout B) → Inside l → ((x : A) → Inside (f x)) → Inside (bind l f)
one_then {A} {B} l f first more = record { never = never }
  where
    never : (m : Mark) (front : List Bool) → Shows (bind l f) m front NotSubset → ⊥
    never m front (inl s) = first.never m front s
    never m front (inr (x, part, rest, split, spelled, s)) = (more x).never (past part m) rest s

-- after a number of n bits
number_then : {B : Type 0} (n : ℕ) (f : ℕ → Layout B) → ((v : ℕ) → v < 2 ^ n → Inside (f v)) → Inside (bind (bits n) f)
number_then {B} n f more = record { never = never }
  where
    never : (m : Mark) (front : List Bool) → Shows (bind (bits n) f) m front NotSubset → ⊥
    never m front (inl s) = s
    never m front (inr (v, part, rest, split, spelled, s)) = (more v spelled.0).never (past part m) rest s

chosen : {A : Type 0} (b : Bool) (l r : Layout A) → Inside l → Inside r → Inside (choose b l r)
chosen true l r first second = first
chosen false l r first second = second

unless : (b : Bool) (why : Why) → why ≢ NotSubset → Inside (judge (record { broken = b; why = why } ∷ []))
unless b why other = judged _ ((λ _. other), tt)

many : {A : Type 0} (n : ℕ) (l : Layout A) → Inside l → Inside (list_of n l)
unfolding list_of
many zero l each = ends []
many (suc n) l each = one_then _ _ each (λ x. one_then _ _ (many n l each) (λ xs. ends (x ∷ xs)))

bytes : (n : ℕ) → Inside (list_of n (bits 8))
bytes n = many n (bits 8) (field 8)

little_inside : Inside little_32
unfolding little_32
little_inside = one_then _ _ (field 8) (λ a. one_then _ _ (field 8) (λ b. one_then _ _ (field 8) (λ c. one_then _ _ (field 8) (λ d. ends _))))

signed_inside : (n : ℕ) → Inside (signed_field n)
unfolding signed_field
signed_inside n = one_then _ _ (field n) (λ v. ends _)

-- ---- a coded number and a residual value

some_inside : {A : Type 0} (o : Option A) → Inside (some_or_bad o)
some_inside None = refused _ (λ e. absurd cc)
some_inside (Some x) = ends x

continued_inside : (n value : ℕ) → Inside (continued n value)
unfolding continued
continued_inside zero value = ends value
continued_inside (suc n) value = one_then _ _ (field 8) (λ byte. chosen _ _ _ (continued_inside n _) (refused _ (λ e. absurd cc)))

number_inside : (max_bits : ℕ) → Inside (number max_bits)
unfolding number
number_inside max_bits = one_then _ _ (field 8) (λ lead. chosen _ _ _ (ends _)
    (one_then _ _ (some_inside (lead_form max_bits lead)) (λ form. one_then _ _ (continued_inside form.0 form.1) (λ value. chosen _ _ _ (refused _ (λ e. absurd cc)) (ends _)))))

within_inside : (o : Option ℕ) → Inside (within o)
within_inside None = refused _ (λ e. absurd cc)
within_inside (Some q) = ends q

rice_inside : (k limit : ℕ) → Inside (rice k limit)
unfolding rice
rice_inside k limit = one_then _ _ (zeros_and_one limit) (λ zeros. one_then _ _ (within_inside zeros) (λ q. one_then _ _ (field k) (λ low. ends _)))

value_inside : (k : ℕ) → Inside (rice_value k)
unfolding rice_value
value_inside k = one_then _ _ (rice_inside k _) (λ folded. chosen _ _ _ (refused _ (λ e. absurd cc)) (ends _))

-- ---- metadata blocks

skipped_inside : (n : ℕ) → Inside (skipped n)
unfolding skipped
skipped_inside n = one_then _ _ (field n) (λ v. ends _)

part_inside : {A : Type 0} (size left : ℕ) (l : Layout A) → Inside l → Inside (choose (nat_lt left size) (ends_short left) l)
part_inside size left l each = chosen _ _ _ (one_then _ _ (skipped_inside (8 * left)) (λ v. refused _ (λ e. absurd cc))) each

sized_inside : (l : Layout ℕ) (left : ℕ) → Inside l → Inside (sized l left)
unfolding sized
sized_inside l left each = part_inside 4 left _ (one_then _ _ each (λ size. one_then _ _ (unless _ _ (λ e. absurd cc)) (λ v. bytes size)))

word_inside : (left : ℕ) → Inside (number_32 left)
unfolding number_32
word_inside left = part_inside 4 left _ (field 32)

turns_inside : {S A : Type 0} (item : S → Layout A) (next : S → A → S) (after : S → Layout ⊤) → ((s : S) → Inside (item s)) → ((s : S) → Inside (after s)) → (n : ℕ) (s : S) → Inside (in_turn item next after n s)
unfolding in_turn
turns_inside item next after each last zero s = one_then _ _ (last s) (λ v. ends [])
turns_inside item next after each last (suc n) s = one_then _ _ (each s) (λ x. one_then _ _ (turns_inside item next after each last n (next s x)) (λ xs. ends (x ∷ xs)))

reserved_inside : (n : ℕ) → Inside (reserved n)
unfolding reserved zeros
reserved_inside n = one_then _ _ (one_then _ _ (field n) (λ v. ends _)) (λ clear. unless _ _ (λ e. absurd cc))

info_inside : Inside stream_info
unfolding stream_info info_sizes info_format
info_inside = one_then _ _ sizes_inside (λ sizes. one_then _ _ format_inside (λ format. one_then _ _ (bytes 16) (λ digest. one_then _ _ (unless _ _ (λ e. absurd cc)) (λ v. ends _))))
  where
    sizes_inside : Inside info_sizes
    sizes_inside = one_then _ _ (field 16) (λ a. one_then _ _ (field 16) (λ b. one_then _ _ (field 24) (λ c. one_then _ _ (field 24) (λ d. ends _))))

    format_inside : Inside info_format
    format_inside = one_then _ _ (field 20) (λ a. one_then _ _ (field 3) (λ b. one_then _ _ (field 5) (λ c. one_then _ _ (field 36) (λ d. ends _))))

point_inside : (before : Option ℕ) → Inside (seek_point before)
unfolding seek_point
point_inside before = one_then _ _ (field 64) (λ sample. one_then _ _ (field 64) (λ offset. one_then _ _ (field 16) (λ size. one_then _ _ (unless _ _ (λ e. absurd cc)) (λ v. ends _))))

points_inside : (n : ℕ) (before : Option ℕ) → Inside (seek_points n before)
unfolding seek_points
points_inside n before = turns_inside _ _ _ point_inside (λ s. ends tt) n before

texts_inside : (n left : ℕ) → Inside (texts n left)
unfolding texts
texts_inside n left = turns_inside _ _ _ (λ s. sized_inside little_32 s little_inside) (λ s. unless _ _ (λ e. absurd cc)) n left

comments_inside : (left : ℕ) → Inside (comments left)
unfolding comments
comments_inside left = one_then _ _ (sized_inside little_32 left little_inside) (λ vendor. one_then _ _ (part_inside 4 _ _ little_inside) (λ count. one_then _ _ (unless _ _ (λ e. absurd cc)) (λ v. one_then _ _ (texts_inside count _) (λ list. ends _))))

index_inside : Inside cue_index
unfolding cue_index
index_inside = one_then _ _ (field 64) (λ offset. one_then _ _ (field 8) (λ number. one_then _ _ (reserved_inside (8 * 3)) (λ v. ends _)))

count_inside : (left : ℕ) → Inside (cue_count left)
unfolding cue_count
count_inside left = part_inside 1 left _ (field 8)

front_inside : Inside track_front
unfolding track_front
front_inside = one_then _ _ (field 64) (λ offset. one_then _ _ (field 8) (λ number. one_then _ _ (bytes 12) (λ isrc. one_then _ _ (field 1) (λ kind. one_then _ _ (field 1) (λ pre_emphasis. one_then _ _ (reserved_inside (6 + 8 * 13)) (λ v. ends _))))))

track_inside : (left : ℕ) → Inside (cue_track left)
unfolding cue_track
track_inside left = part_inside 35 left _ (one_then _ _ front_inside (λ front. one_then _ _ (count_inside (left - 35)) (λ count. one_then _ _ (unless _ _ (λ e. absurd cc)) (λ v. one_then _ _ (many count cue_index index_inside) (λ indices. ends _)))))

tracks_inside : (n left : ℕ) → Inside (cue_tracks n left)
unfolding cue_tracks
tracks_inside n left = turns_inside _ _ _ track_inside (λ s. unless _ _ (λ e. absurd cc)) n left

sheet_front_inside : Inside sheet_front
unfolding sheet_front
sheet_front_inside = one_then _ _ (bytes 128) (λ catalogue. one_then _ _ (field 64) (λ lead_in. one_then _ _ (field 1) (λ cd. one_then _ _ (reserved_inside (7 + 8 * 258)) (λ v. ends _))))

sheet_inside : (left : ℕ) → Inside (cue_sheet left)
unfolding cue_sheet
sheet_inside left = part_inside 395 left _ (one_then _ _ sheet_front_inside (λ front. one_then _ _ (count_inside (left - 395)) (λ count.
    one_then _ _ (judged _ ((λ _ e. absurd cc), ((λ _ e. absurd cc), tt))) (λ v. one_then _ _ (tracks_inside count (left - 396)) (λ tracks. ends _)))))

picture_inside : (left : ℕ) → Inside (picture left)
unfolding picture picture_front sizes
picture_inside left =
    one_then _ _ (one_then _ _ (word_inside left) (λ kind. one_then _ _ (sized_inside (bits 32) (left - 4) (field 32)) (λ media. one_then _ _ (sized_inside (bits 32) _ (field 32)) (λ text. ends _))))
    (λ front. one_then _ _ (one_then _ _ (word_inside _) (λ a. one_then _ _ (word_inside _) (λ b. one_then _ _ (word_inside _) (λ c. one_then _ _ (word_inside _) (λ d. ends _)))))
    (λ found. one_then _ _ (sized_inside (bits 32) _ (field 32)) (λ bytes. one_then _ _ (unless _ _ (λ e. absurd cc)) (λ v. ends _))))

block_header_inside : (seen : Seen) → Inside (block_header seen)
unfolding block_header
block_header_inside seen = one_then _ _ (field 1) (λ last. one_then _ _ (field 7) (λ kind. one_then _ _ (field 24) (λ length.
    one_then _ _ (judged _ ((λ _ e. absurd cc), ((λ _ e. absurd cc), ((λ _ e. absurd cc), ((λ _ e. absurd cc), tt))))) (λ v. ends _))))

content_inside : (kind length : ℕ) → Inside (block_content kind length)
unfolding block_content padding application other_kind
content_inside kind length =
    chosen _ _ _ (one_then _ _ info_inside (λ info. ends _))
    (chosen _ _ _ (one_then _ _ (skipped_inside (8 * length)) (λ v. ends _))
    (chosen _ _ _ (one_then _ _ (bytes 4) (λ id. one_then _ _ (bytes (length - 4)) (λ raw. ends _)))
    (chosen _ _ _ (one_then _ _ (points_inside (length / 18) None) (λ points. ends _))
    (chosen _ _ _ (one_then _ _ (comments_inside length) (λ found. ends _))
    (chosen _ _ _ (one_then _ _ (sheet_inside length) (λ sheet. ends _))
    (chosen _ _ _ (one_then _ _ (picture_inside length) (λ found. ends _))
    (one_then _ _ (bytes length) (λ raw. ends _))))))))

block_inside : (seen : Seen) → Inside (block_layout seen)
unfolding block_layout
block_inside seen = one_then _ _ (block_header_inside seen) (λ header. one_then _ _ (content_inside header.kind header.length) (λ body. ends _))

-- ---- a frame's header

size_inside : (code : ℕ) → Inside (size_field code)
unfolding size_field
size_inside code = chosen (nat_eq code 1) _ _ (ends _) (chosen (nat_lt code 6) _ _ (ends _) (chosen (nat_eq code 6) _ _ (one_then _ _ (field 8) (λ v. ends _))
    (chosen (nat_eq code 7) _ _ (one_then _ _ (field 16) (λ v. one_then _ _ (unless (nat_eq v 65535) ReservedCode (λ e. absurd cc)) (λ w. ends _))) (ends _))))

rate_inside : (code : ℕ) → Inside (rate_field code)
unfolding rate_field
rate_inside code = chosen _ _ _ (ends _) (chosen _ _ _ (one_then _ _ (field 8) (λ v. ends _)) (chosen _ _ _ (field 16) (one_then _ _ (field 16) (λ v. ends _))))

header_inside : Inside header
unfolding header
header_inside =
    one_then _ _ (field 15) (λ sync. one_then _ _ (unless _ _ (λ e. absurd cc)) (λ v1.
    one_then _ _ (field 1) (λ variable. one_then _ _ (field 4) (λ size_code. one_then _ _ (unless _ _ (λ e. absurd cc)) (λ v2.
    one_then _ _ (field 4) (λ rate_code. one_then _ _ (unless _ _ (λ e. absurd cc)) (λ v3.
    one_then _ _ (field 4) (λ channel_code. one_then _ _ (unless _ _ (λ e. absurd cc)) (λ v4.
    one_then _ _ (field 3) (λ depth_code. one_then _ _ (unless _ _ (λ e. absurd cc)) (λ v5.
    one_then _ _ (field 1) (λ spare. one_then _ _ (unless _ _ (λ e. absurd cc)) (λ v6.
    one_then _ _ (number_inside _) (λ count. one_then _ _ (size_inside size_code) (λ size. one_then _ _ (rate_inside rate_code) (λ rate.
    one_then _ _ (one_then _ _ here (λ m. ends _)) (λ check. one_then _ _ (field 8) (λ stored. one_then _ _ (unless _ _ (λ e. absurd cc)) (λ v7. ends _)))))))))))))))))))

-- each header is allowed
start_inside : (info : Info) (before : Option Before) → Inside (stream_header Lax info before)
unfolding stream_header allowed
start_inside info before = one_then _ _ header_inside (λ h. one_then _ _ (judged (header_rules Lax info before h) ((λ broken e. absurd cc), ((λ _ e. absurd cc), ((λ _ e. absurd cc), ((λ _ e. absurd cc), tt))))) (λ v. ends _))

-- ---- subframes

-- the four bits of a partition order say no more than 15, and the six of a type no order above 32
few_halves : (times : ℕ) → times < 2 ^ 4 → nat_lt 15 times ≡ true → ⊥
few_halves times h e = let over : 15 < times = grind (arith, nat_tests) in omega (arith, h, over)

few_orders : (kind : ℕ) → kind < 2 ^ 6 → nat_lt 32 (linear_order kind) ≡ true → ⊥
few_orders kind h e = let over : 32 < linear_order kind = grind (arith, nat_tests) in omega (arith, h, over)

residual_inside : (order block : ℕ) → Inside (residual 15 order block)
unfolding residual residual_header partitions partition coded escaped
residual_inside order block = one_then _ _ (one_then _ _ (field 2) (λ method. one_then _ _ (unless _ _ (λ e. absurd cc)) (λ v.
    number_then 4 _ (λ times few. one_then _ _ (judged _ ((λ broken e. few_halves times few broken), ((λ _ e. absurd cc), tt))) (λ w. ends _)))))
    (λ h. one_then _ _ (parts _ _ _ _) (λ found. ends _))
  where
    escaped_inside : (n : ℕ) → Inside (escaped n)
    escaped_inside n = one_then _ _ (field 5) (λ width. one_then _ _ (many n _ (signed_inside width)) (λ values. ends _))

    coded_inside : (n parameter : ℕ) → Inside (coded n parameter)
    coded_inside n parameter = one_then _ _ (many n _ (value_inside parameter)) (λ values. ends _)

    part : (parameter_bits n : ℕ) → Inside (partition parameter_bits n)
    part parameter_bits n = one_then _ _ (field parameter_bits) (λ parameter. chosen _ _ _ (escaped_inside n) (coded_inside n parameter))

    parts : (parameter_bits first size n : ℕ) → Inside (partitions parameter_bits first size n)
    parts parameter_bits first size zero = ends []
    parts parameter_bits first size (suc n) = one_then _ _ (part parameter_bits first) (λ one. one_then _ _ (parts parameter_bits size size n) (λ others. ends _))

predictor_inside : (order : ℕ) → Inside (predictor order)
unfolding predictor
predictor_inside order = one_then _ _ (field 4) (λ low. one_then _ _ (unless _ _ (λ e. absurd cc)) (λ v. one_then _ _ (field 5) (λ shift. one_then _ _ (unless _ _ (λ e. absurd cc)) (λ w.
    one_then _ _ (many order _ (signed_inside (low + 1))) (λ coefficients. ends _)))))

kinds_inside : (kind depth block : ℕ) → Inside (content kind depth block 15)
unfolding content constant verbatim fixed linear
kinds_inside kind depth block =
    chosen (nat_eq kind 0) _ _ (one_then _ _ (signed_inside depth) (λ sample. ends (Constant sample)))
    (chosen (nat_eq kind 1) _ _ (one_then _ _ (many block _ (signed_inside depth)) (λ samples. ends (Verbatim samples)))
    (chosen (nat_lt kind 32) _ _ (one_then _ _ (many (predictor_order kind) _ (signed_inside depth)) (λ warm_up. one_then _ _ (residual_inside (predictor_order kind) block) (λ rest. ends (Fixed warm_up rest))))
    (one_then _ _ (many (predictor_order kind) _ (signed_inside depth)) (λ warm_up. one_then _ _ (predictor_inside (predictor_order kind)) (λ found. one_then _ _ (residual_inside (predictor_order kind) block) (λ rest. ends (Linear warm_up found rest)))))))

wasted_inside : (flag depth : ℕ) → Inside (wasted_bits flag depth)
unfolding wasted_bits
wasted_inside flag depth = chosen _ _ _ (ends _) (one_then _ _ (zeros_and_one _) more)
  where
    more : (o : Option ℕ) → Inside (one_more o)
    more None = refused _ (λ e. absurd cc)
    more (Some n) = ends _

subframe_inside : (depth block rate : ℕ) → Inside (subframe_samples depth block (record { partition = 15; linear = 32 }))
unfolding subframe_samples subframe subframe_header
subframe_inside depth block rate = one_then _ _ (one_then _ _ head (λ h. one_then _ _ (kinds_inside h.kind _ block) (λ rest. ends _))) (λ form. ends _)
  where
    head : Inside (subframe_header depth block (record { partition = 15; linear = 32 }))
    head = one_then _ _ (field 1) (λ zero_bit. number_then 6 _ (λ kind few. one_then _ _ (field 1) (λ flag.
        one_then _ _ (judged _ ((λ _ e. absurd cc), ((λ broken e. few_orders kind few broken), ((λ _ e. absurd cc), tt)))) (λ v. one_then _ _ (wasted_inside flag depth) (λ wasted. ends _)))))

subframes_inside : (info : Info) (code block : ℕ) (got : Option (List (List ℤ))) (channel n : ℕ) → Inside (subframes info.depth code block (limits_of Lax info) got channel n)
unfolding subframes
subframes_inside info code block got channel zero = ends _
subframes_inside info code block got channel (suc n) = one_then _ _ (subframe_inside _ block info.rate) (λ samples. subframes_inside info code block _ (channel + 1) n)

-- ---- a frame

end_inside : Inside frame_end
unfolding frame_end
end_inside = one_then _ _ (one_then _ _ here (λ m. one_then _ _ (field _) (λ v. ends _))) (λ zeros. one_then _ _ (unless _ _ (λ e. absurd cc)) (λ v.
    one_then _ _ (one_then _ _ here (λ m. ends _)) (λ check. one_then _ _ (field 16) (λ stored. unless _ _ (λ e. absurd cc)))))

frame_inside : (info : Info) (before : Option Before) → Inside (frame Lax info before)
unfolding frame frame_body
frame_inside info before = one_then _ _ (start_inside info before) (λ h. one_then _ _ (subframes_inside info _ _ (Some []) 0 info.channels) (λ samples.
    one_then _ _ end_inside (λ v. one_then _ _ (range (in_range info.depth h.channel_code samples)) (λ channels. ends _))))
  where
    range : (o : Option (List (List ℤ))) → Inside (some_or SampleRange o)
    range None = refused _ (λ e. absurd cc)
    range (Some x) = ends x

-- ---- a stream

part_inside_lax : (s : Stand) → s.profile ≡ Lax → Inside (layout s)
unfolding layout marker frame_after
part_inside_lax s judged_by = go s.phase
  where
    framed_inside : (o : Option Info) → Inside (frame_after Lax o s.before)
    framed_inside None = refused _ (λ e. absurd cc)
    framed_inside (Some info) = frame_inside info s.before

    go : (phase : Phase) → Inside (layout_in phase s)
    go Opening = one_then _ _ (one_then _ _ (field 32) (λ v. unless _ _ (λ e. absurd cc))) (λ v. ends _)
    go Blocks = one_then _ _ (block_inside s.seen) (λ b. ends _)
    go Frames = one_then _ _ (subst (λ q. Inside (frame_after q s.info s.before)) (sym judged_by) (framed_inside s.info)) (λ f. ends _)

end_not : (info : Option Info) (samples : ℕ) (message : List ℕ) → BreaksFirst (end_rules info samples message) NotSubset → ⊥
unfolding end_rules
end_not None samples message b = b
end_not (Some i) samples message b = not_first (end_rules (Some i) samples message) ((λ _ e. absurd cc), ((λ _ e. absurd cc), tt)) b

fresh-short : (m : Mark) → (fresh m).short ≡ m.short
fresh-short m = go (nat_eq m.unread 0)
  where
    go : (b : Bool) → (cond b (record m { check8 = 0; check16 = 0 }) m).short ≡ m.short
    go true = refl
    go false = refl

-- the reason of bits that run short stays after items
after_short : (p : Progress) (m : Mark) (items : List Piece) (text : List Bool) (j : Joined grammar p m items text) → (mark_after grammar p m items text j).short ≡ m.short
after_short p m [] text j = refl
after_short p m (x ∷ xs) text j = after_short (grammar.next p x) (past j.0 (fresh m)) xs j.1 j.5 ∙ past-short j.0 (fresh m) ∙ fresh-short m

pub nothing_is_outside : NothingIsOutsideLax
nothing_is_outside p m items text at why judged_by own r = go r.stops
  where
    q : Progress
    q = state_after grammar p items

    k : Mark
    k = mark_after grammar p m items r.front r.spelled

    short : (fresh k).short ≡ m.short
    short = fresh-short k ∙ after_short p m items r.front r.spelled

    clean : Inside (layout q.stand)
    clean = part_inside_lax q.stand (after_profile p items ∙ judged_by)

    go : StopsAt grammar q k r.left at why → why ≡ NotSubset → ⊥
    go (inl (more, place, inl (front, rest, split, shows, room))) e = clean.never (fresh k) front (subst (λ w. Shows (layout q.stand) (fresh k) front w) e shows)
    go (inl (more, place, inr (inl (is, cut, room)))) e = own (sym short ∙ sym is ∙ e)
    go (inl (more, place, inr (inr (is, full)))) e = let long : FrameTooLong ≡ NotSubset = sym is ∙ e in absurd cc
    go (inr (over, place, breaks)) e = end_not q.stand.info q.samples q.message (subst (λ w. BreaksFirst (end_rules q.stand.info q.samples q.message) w) e breaks)
