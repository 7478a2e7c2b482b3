-- A number of bytes that has room for an encoded stream.
use Rattle.std.specs.Prelude.{◌≡◌, ℕ, ◌+◌, ◌*◌, ◌/◌, ◌≤◌, min, max, cond, nat_eq, ℤ, List, length}
use Rattle.std.specs.List.{fold}
use Rattle.flac_native.specs.Message.{sample_width}
use Rattle.flac_c.specs.declared.tags.FlacProvedText.{FlacProvedText}
use Rattle.flac_c.specs.declared.tags.FlacProvedTags.{FlacProvedTags}
use Rattle.flac_c.specs.declared.encoding.FlacProvedSettings.{FlacProvedSettings}
use Rattle.flac_c.specs.Encoded.{IsEncoded}
use Rattle.flac_header.specs.declared.subset.Profile.{Profile}

-- a text and its length; longer ones are refused
abbrev pub text_bytes : FlacProvedText → ℕ
text_bytes t = 4 + min (length t.bytes.now) 16777216

abbrev pub texts_bytes : List FlacProvedText → ℕ
texts_bytes texts = fold (λ n t. n + text_bytes t) 0 texts

-- samples as they are, each in the 1 to 4 whole bytes that hold its bits
abbrev pub raw_bytes : (bits count : ℕ) → ℕ
raw_bytes bits count = sample_width (max 1 (min bits 32)) * count

-- how many parts of `size` samples there are at most; 0 stands for 1
abbrev pub most_parts : (each size : ℕ) → ℕ
most_parts each size = each / max size 1 + 1

-- a seek table of points of 18 bytes
abbrev pub table_bytes : (each every : ℕ) → ℕ
table_bytes each every = cond (nat_eq every 0) 0 (4 + 18 * most_parts each every)

-- the marker, STREAMINFO and the comments have 58 bytes beside the texts; a frame has 28 beside its samples
abbrev pub native_bound : FlacProvedSettings → (count each : ℕ) → FlacProvedTags → ℕ
native_bound s count each t = 58 + text_bytes t.vendor + texts_bytes t.list.now + table_bytes each s.seek_every + raw_bytes s.bits count + 28 * most_parts each s.block_size

-- and pages
abbrev pub page_bytes : FlacProvedSettings → (each whole : ℕ) → ℕ
page_bytes s each whole = cond (nat_eq s.ogg 0) 0 (whole / 200 + 64 * (most_parts each s.block_size + 2))

abbrev pub bytes_among : FlacProvedSettings → (count each : ℕ) → FlacProvedTags → ℕ
bytes_among s count each t = native_bound s count each t + page_bytes s each (native_bound s count each t)

abbrev pub bound_of : FlacProvedSettings → (count : ℕ) → FlacProvedTags → ℕ
bound_of s count t = min (bytes_among s count (count / max s.channels 1) t) 18446744073709551615

-- no stream of `count` samples by these settings and with these comments has more bytes, in either profile, by any search
abbrev pub IsEnough : FlacProvedSettings → (count : ℕ) → FlacProvedTags → ℕ → Type 0
IsEnough s count t bytes = (profile : Profile) (effort : ℕ) (samples : List ℤ) (stream : List ℕ) → length samples ≡ count → IsEncoded profile effort s samples t stream → length stream ≤ bytes

-- a stream has room in a buffer if such a number of bytes has
abbrev pub FitsBound : FlacProvedSettings → (count : ℕ) → FlacProvedTags → (room len : ℕ) → Type 0
FitsBound s count t room len = bound_of s count t ≤ room → len ≤ room
