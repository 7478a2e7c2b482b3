-- What is read of the bytes in front does not change with those that follow.
use Rattle.std.proofs.Common.{◌≡◌, ◌≤◌, ◌<◌, ◌+◌, ◌-◌, ◌*◌, ◌%◌, ◌++◌, ◌∷◌, [], ℕ, zero, suc, Bool, true, false, cond, List, length, take, drop, min, get_or, Option, Some, None, is_some, refl, sym, subst, ap, ◌∙◌, arith, length-append, append-nil}
use Rattle.std.specs.Prelude.{◌&&◌, ◌||◌, nat_lt, nat_eq}
use Rattle.std.proofs.lemmas.Bool.{lt-ltb, le-ltb, ltb-true, ltb-false, cases_lt}
use Rattle.std.proofs.lemmas.List.{get_or_append_left, drop-append-le, length-drop}
use Rattle.std.proofs.Math.Seq.{take-append_seam, drop-append_seam}
use Rattle.byteorder.specs.Endian.{little_number, little_from}
use Rattle.flac_wave.specs.Chunks.{id_of, is_data, is_format, is_long_sizes, size_of, chunk_len, most_kept, header_fault, seen_first, after_chunk, content_fault, chunk_fault, data_fault, fault_at}
use Rattle.flac_wave.specs.Format.{short_at, long_at, is_extensible, has_pcm_guid, is_pcm, fields_fit, format_fault, format_of}
use Rattle.flac_wave.specs.declared.seen.Seen.{Seen}
use Rattle.flac_wave.specs.declared.format.WaveFormat.{WaveFormat}
use Rattle.flac_wave.specs.declared.why.WaveWhy.{WaveWhy}
use Rattle.flac_wave.specs.declared.why.WaveWhy.TheVariants as why

-- ---- numbers

from_front : (n i : ℕ) (xs ys : List ℕ) → i + n ≤ length xs → little_from i n (xs ++ ys) ≡ little_from i n xs
from_front zero i xs ys few = refl
from_front (suc n) i xs ys few =
    ap (λ k. k + 256 * little_from (suc i) n (xs ++ ys)) (get_or_append_left xs ys 0 i (omega (arith, few)))
    ∙ ap (λ k. get_or xs i 0 + 256 * k) (from_front n (suc i) xs ys (omega (arith, few)))

pub number_front : (n i : ℕ) (xs ys : List ℕ) → i + n ≤ length xs → little_number n (drop i (xs ++ ys)) ≡ little_number n (drop i xs)
number_front n i xs ys few =
    ap (little_number n) (drop-append-le i xs ys (omega (arith, few)))
    ∙ from_front n 0 (drop i xs) ys (let h = length-drop i xs in omega (arith, few, h))

-- a format with these fields
abbrev form_with : List ℕ → ℕ → Option ℕ → WaveFormat
form_with xs valid mask = record { rate = long_at 12 xs; channels = short_at 10 xs; bits = short_at 22 xs; valid = valid; mask = mask }

-- what is known then
abbrev seen_with : Seen → Option ℕ → Option WaveFormat → Seen
seen_with s long format = record { riff = s.riff; long = long; format = format; to_end = s.to_end }

module _ (xs ys : List ℕ) where
  short_front : (i : ℕ) → i + 2 ≤ length xs → short_at i (xs ++ ys) ≡ short_at i xs
  short_front i few = number_front 2 i xs ys few

  pub long_front : (i : ℕ) → i + 4 ≤ length xs → long_at i (xs ++ ys) ≡ long_at i xs
  long_front i few = number_front 4 i xs ys few

  pub id_front : 4 ≤ length xs → id_of (xs ++ ys) ≡ id_of xs
  id_front few = from_front 4 0 xs ys few

  pub data_front : 4 ≤ length xs → is_data (xs ++ ys) ≡ is_data xs
  data_front few = ap (λ k. nat_eq k 1635017060) (id_front few)

  pub size_front : 8 ≤ length xs → size_of (xs ++ ys) ≡ size_of xs
  size_front few = long_front 4 few

  pub len_front : 8 ≤ length xs → chunk_len (xs ++ ys) ≡ chunk_len xs
  len_front few = ap (λ k. 8 + k + k % 2) (size_front few)

  -- ---- the chunk `fmt `

  extensible_front : 10 ≤ length xs → is_extensible (xs ++ ys) ≡ is_extensible xs
  extensible_front few = rw (short_front 8 few, long_front 4 (omega (arith, few))) refl

  guid_front : 48 ≤ length xs → has_pcm_guid (xs ++ ys) ≡ has_pcm_guid xs
  guid_front few = rw (long_front 32 (omega (arith, few)), long_front 36 (omega (arith, few)), long_front 40 (omega (arith, few)), long_front 44 few) refl

  and_right : (a b : Bool) → (a && b) ≡ true → b ≡ true
  and_right true b e = e
  and_right false b e = absurd cc

  -- an extensible chunk has its fields
  fields_there : (b : Bool) → is_extensible xs ≡ b → b ≡ true → 8 + size_of xs ≤ length xs → 48 ≤ length xs
  fields_there b is e whole =
      let more = ltb-true 39 (long_at 4 xs) (and_right (nat_eq (short_at 8 xs) 65534) (nat_lt 39 (long_at 4 xs)) (is ∙ e)) in
      omega (arith, more, whole)

  pcm_front : 24 ≤ length xs → 8 + size_of xs ≤ length xs → is_pcm (xs ++ ys) ≡ is_pcm xs
  unfolding is_pcm
  pcm_front few whole = rw (short_front 8 (omega (arith, few)), long_front 4 (omega (arith, few))) (by_kind (is_extensible xs) refl)
    where
      by_kind : (b : Bool) → is_extensible xs ≡ b → (nat_eq (short_at 8 xs) 1 || (b && has_pcm_guid (xs ++ ys))) ≡ (nat_eq (short_at 8 xs) 1 || (b && has_pcm_guid xs))
      by_kind true is = ap (λ k. nat_eq (short_at 8 xs) 1 || k) (guid_front (fields_there true is refl whole))
      by_kind false is = refl

  fields_front : 24 ≤ length xs → fields_fit (xs ++ ys) ≡ fields_fit xs
  unfolding fields_fit
  fields_front few = rw (short_front 10 (omega (arith, few)), short_front 22 few, short_front 20 (omega (arith, few))) refl

  format_fault_front : 8 ≤ length xs → 8 + size_of xs ≤ length xs → format_fault (xs ++ ys) ≡ format_fault xs
  unfolding format_fault
  format_fault_front few whole = rw (long_front 4 few) (by_size (nat_lt (long_at 4 xs) 16) refl)
    where
      by_size : (b : Bool) → nat_lt (long_at 4 xs) 16 ≡ b
          → cond b (Some why.FormatLength) (cond (is_pcm (xs ++ ys)) (cond (fields_fit (xs ++ ys)) None (Some why.FormatFields)) (Some why.Coding))
          ≡ cond b (Some why.FormatLength) (cond (is_pcm xs) (cond (fields_fit xs) None (Some why.FormatFields)) (Some why.Coding))
      by_size true is = refl
      by_size false is =
          let long : 24 ≤ length xs = omega (arith, ltb-false (long_at 4 xs) 16 is, whole) in
          rw (pcm_front long whole, fields_front long) refl

  format_of_front : 24 ≤ length xs → 8 + size_of xs ≤ length xs → format_of (xs ++ ys) ≡ format_of xs
  unfolding format_of
  format_of_front few whole =
      rw (long_front 12 (omega (arith, few)), short_front 10 (omega (arith, few)), short_front 22 few, short_front 8 (omega (arith, few)), long_front 4 (omega (arith, few))) (by_kind (is_extensible xs) refl)
    where
      by_kind : (b : Bool) → is_extensible xs ≡ b
          → form_with xs (cond b (short_at 26 (xs ++ ys)) (short_at 22 xs)) (cond b (Some (long_at 28 (xs ++ ys))) None) ≡ form_with xs (cond b (short_at 26 xs) (short_at 22 xs)) (cond b (Some (long_at 28 xs)) None)
      by_kind true is =
          let long = fields_there true is refl whole in
          ap (λ v. form_with xs v (Some (long_at 28 (xs ++ ys)))) (short_front 26 (omega (arith, long))) ∙ ap (λ m. form_with xs (short_at 26 xs) (Some m)) (long_front 28 (omega (arith, long)))
      by_kind false is = refl

  -- ---- a chunk

  pub content_front : (s : Seen) → 8 ≤ length xs → 8 + size_of xs ≤ length xs → content_fault s (xs ++ ys) ≡ content_fault s xs
  unfolding content_fault
  content_front s few whole =
      ap (λ k. cond (nat_eq k 544501094) (cond (is_some s.format) (Some why.RepeatedFormat) (format_fault (xs ++ ys))) None) (id_front (omega (arith, few)))
      ∙ ap (λ f. cond (is_format xs) (cond (is_some s.format) (Some why.RepeatedFormat) f) None) (format_fault_front few whole)

-- what is known after a chunk that is there
long_by : (b : Bool) (xs ys : List ℕ) (o : Option ℕ) → nat_lt 27 (size_of xs) ≡ b → 8 + size_of xs ≤ length xs
    → cond (is_long_sizes xs && b) (Some (little_number 8 (drop 16 (xs ++ ys)))) o ≡ cond (is_long_sizes xs && b) (Some (little_number 8 (drop 16 xs))) o
long_by true xs ys o is whole = ap (λ n. cond (is_long_sizes xs && true) (Some n) o) (number_front 8 16 xs ys (omega (arith, ltb-true 27 (size_of xs) is, whole)))
long_by false xs ys o is whole = rw (and_no (is_long_sizes xs)) refl
  where
    and_no : (b : Bool) → (b && false) ≡ false
    and_no true = refl
    and_no false = refl

past : {X : Type 0} (b : Bool) (x : X) (r : Option X) → cond b (Some x) r ≡ None → (b ≡ false) × (r ≡ None)
past true x r e = absurd cc
past false x r e = (refl, e)

-- a chunk `fmt ` that is accepted has 16 bytes at least
format_long : (s : Seen) (xs : List ℕ) → is_format xs ≡ true → content_fault s xs ≡ None → 16 ≤ size_of xs
unfolding content_fault format_fault
format_long s xs is good =
    let content : cond (is_some s.format) (Some why.RepeatedFormat) (format_fault xs) ≡ None = ap (λ b. cond b (cond (is_some s.format) (Some why.RepeatedFormat) (format_fault xs)) None) (sym is) ∙ good in
    ltb-false (long_at 4 xs) 16 (past (nat_lt (long_at 4 xs) 16) _ _ (past (is_some s.format) _ _ content).1).0

format_by : (b : Bool) (s : Seen) (xs ys : List ℕ) → is_format xs ≡ b → content_fault s xs ≡ None → 8 + size_of xs ≤ length xs → cond b (Some (format_of (xs ++ ys))) s.format ≡ cond b (Some (format_of xs)) s.format
format_by true s xs ys is good whole = ap Some (format_of_front xs ys (omega (arith, format_long s xs is good, whole)) whole)
format_by false s xs ys is good whole = refl

pub known_front : (s : Seen) (xs ys : List ℕ) → 8 ≤ length xs → 8 + size_of xs ≤ length xs → content_fault s xs ≡ None → after_chunk s (xs ++ ys) ≡ after_chunk s xs
unfolding after_chunk
known_front s xs ys few whole good =
    rw (id_front xs ys (omega (arith, few)), size_front xs ys few)
    (ap (λ o. seen_with s o (cond (is_format xs) (Some (format_of (xs ++ ys))) s.format)) (long_by (nat_lt 27 (size_of xs)) xs ys s.long refl whole)
    ∙ ap (seen_with s (cond (is_long_sizes xs && nat_lt 27 (size_of xs)) (Some (little_number 8 (drop 16 xs))) s.long)) (format_by (is_format xs) s xs ys refl good whole))
