-- A plain file is read as one.
use Rattle.std.proofs.Common.{◌≡◌, ◌≤◌, ◌<◌, ◌+◌, ◌*◌, ◌/◌, ◌%◌, ◌-◌, ◌++◌, ◌∷◌, [], ℕ, Bool, true, false, cond, List, length, take, drop, Option, Some, None, refl, sym, ap, ◌∙◌, arith, length-append, append_assoc, subst, inl, inr}
use Rattle.std.specs.Prelude.{◌&&◌, ◌||◌, ◌⊎◌, not, nat_lt, nat_eq}
use Rattle.std.proofs.lemmas.Bool.{lt-ltb, le-ltb, eq-eqb, ne_eqb, eqb-true, eqb-false, ltb-true, ltb-false}
use Rattle.std.proofs.lemmas.List.{append-nil}
use Rattle.std.proofs.Math.Seq.{take-append_seam, drop-append_seam}
use Rattle.byteorder.specs.Endian.{little_number, little_bytes}
use Rattle.byteorder.specs.Numbers.{little_number-reads_back}
use Rattle.std.specs.Prelude.{is_some, unwrap_or}
use Rattle.std.proofs.Math.Nat.{mul-le-mul_right, mul-pos, mul-mod_left}
use Rattle.flac_wave.specs.declared.why.WaveWhy.TheVariants as why
use Rattle.flac_wave.specs.Format.{short_at, long_at, is_extensible, has_pcm_guid, is_pcm, fields_fit, format_fault, format_of, row_of, IsInRange}
use Rattle.flac_wave.specs.Chunks.{Leads, seen_first, fault_at, is_data, is_format, is_long_sizes, size_of, most_kept, id_of, after_chunk, chunk_len, chunk_fault, content_fault, data_fault, samples_fault, header_fault, is_unstated, size_in, data_size, begins_chunk, data_len, within, stated}
use Rattle.flac_wave.specs.Plain.{needs_extensible, mask_of, plain_format, file_header, format_fields, basic_chunk, extensible_chunk, format_chunk, format_len, data_header, sizes_chunk, short_pieces, long_pieces, known_pieces, riff_size, plain_pieces, plain_file, plain_parts, MaskFits, CanBeWritten, IsPlain}
use Rattle.flac_wave.specs.Wave.{IsWave, pad_of, all_of, front_of, pieces_after, is_head, restored}
use Rattle.flac_wave.specs.declared.seen.Seen.{Seen}
use Rattle.flac_wave.specs.declared.format.WaveFormat.{WaveFormat}

-- ---- tests

and_true : (a b : Bool) → a ≡ true → b ≡ true → (a && b) ≡ true
and_true a b x y = ap (λ c. c && b) x ∙ y

and_false : (a b : Bool) → b ≡ false → (a && b) ≡ false
and_false true b e = e
and_false false b e = refl

or_second : (a b : Bool) → b ≡ true → (a || b) ≡ true
or_second true b e = refl
or_second false b e = e

-- ---- the chunk `fmt `

row_small : (c b : ℕ) → c < 9 → b < 33 → c * ((b + 7) / 8) < 65536
row_small c b few narrow =
    let k : (b + 7) / 8 ≤ 4 = omega (arith, narrow) in
    omega (arith, mul-le-mul_right {m = c} {n = 8} ((b + 7) / 8) (omega (arith, few)), k)

row_some : (c b : ℕ) → 0 < c → 0 < b → 0 < c * ((b + 7) / 8)
row_some c b some more = mul-pos some (omega (arith, more))

-- the fields that both forms have
record Fields (bytes : List ℕ) (n coding : ℕ) (f : WaveFormat) : Type 0 where
  size : long_at 4 bytes ≡ n
  tag : short_at 8 bytes ≡ coding
  channels : short_at 10 bytes ≡ f.channels
  rate : long_at 12 bytes ≡ f.rate
  align : short_at 20 bytes ≡ row_of f
  bits : short_at 22 bytes ≡ f.bits

fields_of : (size coding : ℕ) (f : WaveFormat) (rest : List ℕ) → size < 65536 → coding < 65536 → CanBeWritten f → Fields (format_fields size coding f ++ rest) size coding f
unfolding format_fields
fields_of size coding f rest few some p = record {
  size = little_number-reads_back 4 size (drop 8 (format_fields size coding f ++ rest)) (omega (arith, few));
  tag = little_number-reads_back 2 coding (drop 10 (format_fields size coding f ++ rest)) some;
  channels = little_number-reads_back 2 f.channels (drop 12 (format_fields size coding f ++ rest)) (omega (arith, p.range.few));
  rate = little_number-reads_back 4 f.rate (drop 16 (format_fields size coding f ++ rest)) p.rate;
  align = little_number-reads_back 2 (row_of f) (drop 22 (format_fields size coding f ++ rest)) (row_small f.channels f.bits p.range.few p.range.narrow);
  bits = little_number-reads_back 2 f.bits (drop 24 (format_fields size coding f ++ rest)) (omega (arith, p.range.narrow));
}

-- they fit one another
fits_true : (c b a : ℕ) → 0 < c → c < 9 → 0 < b → b < 33 → a ≡ c * ((b + 7) / 8) → (nat_lt 0 c && (nat_lt c 9 && (nat_lt 0 b && (nat_lt b 33 && nat_eq a (c * ((b + 7) / 8)))))) ≡ true
fits_true c b a some few more narrow is =
    and_true _ _ (lt-ltb 0 c some) (and_true _ _ (lt-ltb c 9 few) (and_true _ _ (lt-ltb 0 b more) (and_true _ _ (lt-ltb b 33 narrow) (eq-eqb a (c * ((b + 7) / 8)) is))))

fit_of : (bytes : List ℕ) (size coding : ℕ) (f : WaveFormat) → Fields bytes size coding f → IsInRange f → fields_fit bytes ≡ true
unfolding fields_fit
fit_of bytes size coding f x p =
    ap (λ c. nat_lt 0 c && (nat_lt c 9 && (nat_lt 0 (short_at 22 bytes) && (nat_lt (short_at 22 bytes) 33 && nat_eq (short_at 20 bytes) (c * ((short_at 22 bytes + 7) / 8)))))) x.channels
    ∙ (ap (λ b. nat_lt 0 f.channels && (nat_lt f.channels 9 && (nat_lt 0 b && (nat_lt b 33 && nat_eq (short_at 20 bytes) (f.channels * ((b + 7) / 8)))))) x.bits
    ∙ fits_true f.channels f.bits (short_at 20 bytes) p.channels p.few p.bits p.narrow x.align)

good_by : (n size : ℕ) (pcm fits : Bool) → n ≡ size → 16 ≤ size → pcm ≡ true → fits ≡ true → cond (nat_lt n 16) (Some why.FormatLength) (cond pcm (cond fits None (Some why.FormatFields)) (Some why.Coding)) ≡ None
good_by n size pcm fits s long t f =
    ap (λ b. cond b (Some why.FormatLength) (cond pcm (cond fits None (Some why.FormatFields)) (Some why.Coding))) (le-ltb n 16 (omega (arith, s, long)))
    ∙ (ap (λ b. cond b (cond fits None (Some why.FormatFields)) (Some why.Coding)) t ∙ ap (λ b. cond b None (Some why.FormatFields)) f)

format_good : (bytes : List ℕ) (size coding : ℕ) (f : WaveFormat) → Fields bytes size coding f → IsInRange f → 16 ≤ size → is_pcm bytes ≡ true → format_fault bytes ≡ None
unfolding format_fault
format_good bytes size coding f x p long pcm = good_by (long_at 4 bytes) size (is_pcm bytes) (fields_fit bytes) x.size long pcm (fit_of bytes size coding f x p)

same_format : (f g : WaveFormat) → f.rate ≡ g.rate → f.channels ≡ g.channels → f.bits ≡ g.bits → f.valid ≡ g.valid → f.mask ≡ g.mask → f ≡ g
same_format f g r c b v m =
    ap (λ x. record { rate = x; channels = f.channels; bits = f.bits; valid = f.valid; mask = f.mask }) r
    ∙ (ap (λ x. record { rate = g.rate; channels = x; bits = f.bits; valid = f.valid; mask = f.mask }) c
    ∙ (ap (λ x. record { rate = g.rate; channels = g.channels; bits = x; valid = f.valid; mask = f.mask }) b
    ∙ (ap (λ x. record { rate = g.rate; channels = g.channels; bits = g.bits; valid = x; mask = f.mask }) v
    ∙ ap (λ x. record { rate = g.rate; channels = g.channels; bits = g.bits; valid = g.valid; mask = x }) m)))

-- what a reader needs of such a chunk
record IsChunkOf (c : List ℕ) (n : ℕ) (f : WaveFormat) : Type 0 where
  long : length c ≡ n
  some : 8 ≤ n
  few : n < 1000
  other : (rest : List ℕ) → is_data (c ++ rest) ≡ false
  len : (rest : List ℕ) → chunk_len (c ++ rest) ≡ n
  is : (rest : List ℕ) → is_format (c ++ rest) ≡ true
  sizes : (rest : List ℕ) → is_long_sizes (c ++ rest) ≡ false
  good : (rest : List ℕ) → format_fault (c ++ rest) ≡ None
  format : (rest : List ℕ) → format_of (c ++ rest) ≡ f

-- ---- of 16 bytes

basic_pcm : (bytes : List ℕ) → short_at 8 bytes ≡ 1 → is_pcm bytes ≡ true
unfolding is_pcm
basic_pcm bytes tag = ap (λ n. nat_eq n 1 || (is_extensible bytes && has_pcm_guid bytes)) tag

basic_no : (bytes : List ℕ) → short_at 8 bytes ≡ 1 → is_extensible bytes ≡ false
basic_no bytes tag = ap (λ n. nat_eq n 65534 && nat_lt 39 (long_at 4 bytes)) tag

basic_format : (bytes : List ℕ) (f : WaveFormat) → Fields bytes 16 1 f → f.valid ≡ f.bits → f.mask ≡ None → format_of bytes ≡ f
unfolding format_of
basic_format bytes f x valid mask =
    same_format (format_of bytes) f x.rate x.channels x.bits
    (ap (λ b. cond b (short_at 26 bytes) (short_at 22 bytes)) (basic_no bytes x.tag) ∙ (x.bits ∙ sym valid))
    (ap (λ b. cond b (Some (long_at 28 bytes)) None) (basic_no bytes x.tag) ∙ sym mask)

basic_fields : (f : WaveFormat) (rest : List ℕ) → CanBeWritten f → Fields (basic_chunk f ++ rest) 16 1 f
unfolding basic_chunk
basic_fields f rest p = fields_of 16 1 f rest (omega arith) (omega arith) p

record Begins (c : List ℕ) (n : ℕ) : Type 0 where
  long : length c ≡ n
  other : (rest : List ℕ) → is_data (c ++ rest) ≡ false
  len : (rest : List ℕ) → chunk_len (c ++ rest) ≡ n
  is : (rest : List ℕ) → is_format (c ++ rest) ≡ true
  sizes : (rest : List ℕ) → is_long_sizes (c ++ rest) ≡ false

basic_begins : (f : WaveFormat) → Begins (basic_chunk f) 24
unfolding basic_chunk format_fields
basic_begins f = record { long = refl; other = λ rest. refl; len = λ rest. refl; is = λ rest. refl; sizes = λ rest. refl }

basic_is : (f : WaveFormat) → CanBeWritten f → f.valid ≡ f.bits → f.mask ≡ None → IsChunkOf (basic_chunk f) 24 f
basic_is f p valid mask =
    let b = basic_begins f in
    let x : (rest : List ℕ) → Fields (basic_chunk f ++ rest) 16 1 f = λ rest. basic_fields f rest p in
    record {
      long = b.long;
      some = omega arith;
      few = omega arith;
      other = b.other;
      len = b.len;
      is = b.is;
      sizes = b.sizes;
      good = λ rest. format_good (basic_chunk f ++ rest) 16 1 f (x rest) p.range (omega arith) (basic_pcm (basic_chunk f ++ rest) ((x rest).tag));
      format = λ rest. basic_format (basic_chunk f ++ rest) f (x rest) valid mask;
    }

-- ---- of 40 bytes

extensible_yes : (bytes : List ℕ) → short_at 8 bytes ≡ 65534 → long_at 4 bytes ≡ 40 → is_extensible bytes ≡ true
extensible_yes bytes tag size = ap (λ n. nat_eq n 65534 && nat_lt 39 (long_at 4 bytes)) tag ∙ ap (λ n. nat_lt 39 n) size

extensible_pcm : (bytes : List ℕ) → is_extensible bytes ≡ true → has_pcm_guid bytes ≡ true → is_pcm bytes ≡ true
unfolding is_pcm
extensible_pcm bytes extensible guid = or_second (nat_eq (short_at 8 bytes) 1) (is_extensible bytes && has_pcm_guid bytes) (and_true _ _ extensible guid)

-- the fields after those that both forms have
record More (bytes : List ℕ) (count speakers : ℕ) : Type 0 where
  valid : short_at 26 bytes ≡ count
  mask : long_at 28 bytes ≡ speakers
  guid : has_pcm_guid bytes ≡ true

more_of : (f : WaveFormat) (mask : ℕ) (rest : List ℕ) → f.valid < 65536 → mask < 4294967296 → More (extensible_chunk f mask ++ rest) f.valid mask
unfolding extensible_chunk format_fields
more_of f mask rest few small = record {
  valid = little_number-reads_back 2 f.valid (drop 28 (extensible_chunk f mask ++ rest)) few;
  mask = little_number-reads_back 4 mask (drop 32 (extensible_chunk f mask ++ rest)) small;
  guid = refl;
}

extensible_format : (bytes : List ℕ) (f : WaveFormat) (mask : ℕ) → Fields bytes 40 65534 f → More bytes f.valid mask → f.mask ≡ Some mask → format_of bytes ≡ f
unfolding format_of
extensible_format bytes f mask x y is =
    let extensible = extensible_yes bytes x.tag x.size in
    same_format (format_of bytes) f x.rate x.channels x.bits
    (ap (λ b. cond b (short_at 26 bytes) (short_at 22 bytes)) extensible ∙ y.valid)
    (ap (λ b. cond b (Some (long_at 28 bytes)) None) extensible ∙ (ap Some y.mask ∙ sym is))

extensible_fields : (f : WaveFormat) (mask : ℕ) (rest : List ℕ) → CanBeWritten f → Fields (extensible_chunk f mask ++ rest) 40 65534 f
unfolding extensible_chunk
extensible_fields f mask rest p =
    let tail = little_bytes 2 22 ++ (little_bytes 2 f.valid ++ (little_bytes 4 mask ++ (little_bytes 4 1 ++ (little_bytes 4 1048576 ++ (little_bytes 4 2852126848 ++ little_bytes 4 1905997824))))) in
    subst (λ b. Fields b 40 65534 f) (sym (append_assoc (format_fields 40 65534 f) tail rest)) (fields_of 40 65534 f (tail ++ rest) (omega arith) (omega arith) p)

extensible_begins : (f : WaveFormat) (mask : ℕ) → Begins (extensible_chunk f mask) 48
unfolding extensible_chunk format_fields
extensible_begins f mask = record { long = refl; other = λ rest. refl; len = λ rest. refl; is = λ rest. refl; sizes = λ rest. refl }

extensible_is : (f : WaveFormat) (mask : ℕ) → CanBeWritten f → f.valid < 65536 → mask < 4294967296 → f.mask ≡ Some mask → IsChunkOf (extensible_chunk f mask) 48 f
extensible_is f mask p few small is =
    let b = extensible_begins f mask in
    let x : (rest : List ℕ) → Fields (extensible_chunk f mask ++ rest) 40 65534 f = λ rest. extensible_fields f mask rest p in
    let y : (rest : List ℕ) → More (extensible_chunk f mask ++ rest) f.valid mask = λ rest. more_of f mask rest few small in
    record {
      long = b.long;
      some = omega arith;
      few = omega arith;
      other = b.other;
      len = b.len;
      is = b.is;
      sizes = b.sizes;
      good = λ rest. format_good (extensible_chunk f mask ++ rest) 40 65534 f (x rest) p.range (omega arith)
          (extensible_pcm (extensible_chunk f mask ++ rest) (extensible_yes (extensible_chunk f mask ++ rest) (x rest).tag (x rest).size) (y rest).guid);
      format = λ rest. extensible_format (extensible_chunk f mask ++ rest) f mask (x rest) (y rest) is;
    }

-- ---- either

chunk_by_mask : (f : WaveFormat) (mask : Option ℕ) → f.mask ≡ mask → CanBeWritten f → MaskFits f.valid f.bits mask
    → IsChunkOf (elim mask [ None ↦ basic_chunk f | Some m ↦ extensible_chunk f m ]) (elim mask [ None ↦ 24 | Some m ↦ 48 ]) f
chunk_by_mask f None is p w = basic_is f p w is
chunk_by_mask f (Some mask) is p w = extensible_is f mask p w.0 w.1 is

chunk_is : (f : WaveFormat) → CanBeWritten f → IsChunkOf (format_chunk f) (format_len f) f
chunk_is f p = chunk_by_mask f f.mask refl p p.mask

-- ---- the format of a stream

plain_row : (c b : ℕ) → c < 9 → b < 33 → c * ((8 * ((b + 7) / 8) + 7) / 8) ≤ 32
plain_row c b few narrow =
    let k : (8 * ((b + 7) / 8) + 7) / 8 ≤ 4 = omega (arith, narrow) in
    omega (arith, mul-le-mul_right {m = c} {n = 8} ((8 * ((b + 7) / 8) + 7) / 8) (omega (arith, few)), k)

fast_by : (rate row : ℕ) → rate < 134217728 → row ≤ 32 → rate * row < 4294967296
fast_by rate row slow few =
    let e = mul-le-mul_right {m = rate} {n = 134217727} row (omega (arith, slow)) in
    omega (arith, e, few)

mask_small : (channels : ℕ) → mask_of channels < 4294967296
unfolding mask_of
mask_small channels = small_by (nat_eq channels 1) (nat_eq channels 2) (nat_eq channels 3) (nat_eq channels 4) (nat_eq channels 5) (nat_eq channels 6) (nat_eq channels 7)
  where
    small_by : (a b c d e f g : Bool) → cond a 4 (cond b 3 (cond c 7 (cond d 51 (cond e 55 (cond f 63 (cond g 1807 1599)))))) < 4294967296
    small_by true b c d e f g = omega arith
    small_by false true c d e f g = omega arith
    small_by false false true d e f g = omega arith
    small_by false false false true e f g = omega arith
    small_by false false false false true f g = omega arith
    small_by false false false false false true g = omega arith
    small_by false false false false false false true = omega arith
    small_by false false false false false false false = omega arith

no_extensible : (channels bits : ℕ) → needs_extensible channels bits ≡ false → bits % 8 ≡ 0
no_extensible channels bits e =
    let a = or_parts (nat_lt 2 channels) (nat_lt 16 bits || nat_lt 0 (bits % 8)) e in
    let b = or_parts (nat_lt 16 bits) (nat_lt 0 (bits % 8)) a.1 in
    let h = ltb-false 0 (bits % 8) b.1 in
    omega (arith, h)
  where
    or_parts : (a b : Bool) → (a || b) ≡ false → (a ≡ false) × (b ≡ false)
    or_parts true b e = absurd cc
    or_parts false b e = (refl, e)

mask_by : (extensible : Bool) (channels bits : ℕ) → needs_extensible channels bits ≡ extensible → bits < 33 → MaskFits bits (8 * ((bits + 7) / 8)) (cond extensible (Some (mask_of channels)) None)
mask_by true channels bits is narrow = (omega (arith, narrow), mask_small channels)
mask_by false channels bits is narrow = let h = no_extensible channels bits is in omega (arith, h)

pub format_fits : (rate channels bits : ℕ) → rate < 134217728 → 0 < channels → channels < 9 → 0 < bits → bits < 33 → CanBeWritten (plain_format rate channels bits)
unfolding plain_format
format_fits rate channels bits slow some few more narrow = record {
  range = record { channels = some; few = few; bits = omega (arith, more); narrow = omega (arith, narrow) };
  rate = omega (arith, slow);
  fast = fast_by rate (channels * ((8 * ((bits + 7) / 8) + 7) / 8)) slow (plain_row channels bits few narrow);
  mask = mask_by (needs_extensible channels bits) channels bits refl narrow;
}

-- ---- a chunk before the samples

-- no fault, by tests
fault_by : (s : Seen) (bytes : List ℕ) (here : Bool) → 8 ≤ length bytes → is_data bytes ≡ here → cond here (data_fault s bytes) (chunk_fault s bytes) ≡ None → fault_at s bytes ≡ None
unfolding fault_at
fault_by s bytes here long is none =
    ap (λ b. cond b (Some (cond (nat_eq (length bytes) 0) why.NoData why.ChunkCut)) (cond (is_data bytes) (data_fault s bytes) (chunk_fault s bytes))) (le-ltb (length bytes) 8 long)
    ∙ (ap (λ b. cond b (data_fault s bytes) (chunk_fault s bytes)) is ∙ none)

chunk_by : (s : Seen) (bytes : List ℕ) (n : ℕ) → chunk_len bytes ≡ n → n < 1000 → n ≤ length bytes → content_fault s bytes ≡ None → chunk_fault s bytes ≡ None
unfolding chunk_fault
chunk_by s bytes n len few long none =
    ap (λ k. cond (nat_lt (length bytes) k) (Some why.ChunkCut) (cond (nat_lt most_kept k) (Some why.ChunkLength) (content_fault s bytes))) len
    ∙ (ap (λ b. cond b (Some why.ChunkCut) (cond (nat_lt most_kept n) (Some why.ChunkLength) (content_fault s bytes))) (le-ltb (length bytes) n long)
    ∙ (ap (λ b. cond b (Some why.ChunkLength) (content_fault s bytes)) (le-ltb most_kept n (omega (arith, few))) ∙ none))

content_by : (s : Seen) (bytes : List ℕ) → is_format bytes ≡ true → s.format ≡ None → format_fault bytes ≡ None → content_fault s bytes ≡ None
unfolding content_fault
content_by s bytes is none good =
    ap (λ b. cond b (cond (is_some s.format) (Some why.RepeatedFormat) (format_fault bytes)) None) is
    ∙ (ap (λ (o : Option WaveFormat). cond (is_some o) (Some why.RepeatedFormat) (format_fault bytes)) none ∙ good)

content_other : (s : Seen) (bytes : List ℕ) → is_format bytes ≡ false → content_fault s bytes ≡ None
unfolding content_fault
content_other s bytes is = ap (λ b. cond b (cond (is_some s.format) (Some why.RepeatedFormat) (format_fault bytes)) None) is

-- a chunk more before others
leads_by : (s : Seen) (c : List ℕ) (n : ℕ) (rest : List ℕ) (cs : List (List ℕ)) (last : List ℕ) (t : Seen)
    → length c ≡ n → 8 ≤ n → n < 1000 → is_data (c ++ rest) ≡ false → chunk_len (c ++ rest) ≡ n → content_fault s (c ++ rest) ≡ None
    → Leads (after_chunk s (c ++ rest)) cs rest last t → Leads s (c ∷ cs) (c ++ rest) last t
leads_by s c n rest cs last t long some few other len none h =
    let all : length (c ++ rest) ≡ n + length rest = length-append c rest ∙ ap (λ k. k + length rest) long in
    let size : chunk_len (c ++ rest) ≡ length c = len ∙ sym long in
    let front : take (chunk_len (c ++ rest)) (c ++ rest) ≡ c = ap (λ k. take k (c ++ rest)) size ∙ take-append_seam c rest in
    let left : drop (chunk_len (c ++ rest)) (c ++ rest) ≡ rest = ap (λ k. drop k (c ++ rest)) size ∙ drop-append_seam c rest in (
      fault_by s (c ++ rest) false (omega (arith, all, some)) other (chunk_by s (c ++ rest) n len few (omega (arith, all)) none),
      other,
      sym front,
      subst (λ b. Leads (after_chunk s (c ++ rest)) cs b last t) (sym left) h,
    )

-- ---- what is known after it

first_format : (to_end : Bool) (bytes : List ℕ) → (seen_first to_end bytes).format ≡ None
unfolding seen_first
first_format to_end bytes = refl

first_long : (to_end : Bool) (bytes : List ℕ) → (seen_first to_end bytes).long ≡ None
unfolding seen_first
first_long to_end bytes = refl

first_riff : (to_end : Bool) (id size : ℕ) (rest : List ℕ) → size < 4294967296 → (seen_first to_end (file_header id size ++ rest)).riff ≡ size
unfolding seen_first file_header
first_riff to_end id size rest few = little_number-reads_back 4 size (drop 8 (file_header id size ++ rest)) few

after_format : (s : Seen) (bytes : List ℕ) → is_format bytes ≡ true → (after_chunk s bytes).format ≡ Some (format_of bytes)
unfolding after_chunk
after_format s bytes is = ap (λ b. cond b (Some (format_of bytes)) s.format) is

after_other : (s : Seen) (bytes : List ℕ) → is_format bytes ≡ false → (after_chunk s bytes).format ≡ s.format
unfolding after_chunk
after_other s bytes is = ap (λ b. cond b (Some (format_of bytes)) s.format) is

after_riff : (s : Seen) (bytes : List ℕ) → (after_chunk s bytes).riff ≡ s.riff
unfolding after_chunk
after_riff s bytes = refl

after_long : (s : Seen) (bytes : List ℕ) → is_long_sizes bytes ≡ false → (after_chunk s bytes).long ≡ s.long
unfolding after_chunk
after_long s bytes is = ap (λ b. cond (b && nat_lt 27 (size_of bytes)) (Some (little_number 8 (drop 16 bytes))) s.long) is

after_sizes : (s : Seen) (all size total : ℕ) (rest : List ℕ) → size < 18446744073709551616 → (after_chunk s (sizes_chunk all size total ++ rest)).long ≡ Some size
unfolding after_chunk sizes_chunk
after_sizes s all size total rest few = ap Some (little_number-reads_back 8 size (drop 24 (sizes_chunk all size total ++ rest)) few)

record IsSizes (c : List ℕ) : Type 0 where
  long : length c ≡ 36
  other : (rest : List ℕ) → is_data (c ++ rest) ≡ false
  len : (rest : List ℕ) → chunk_len (c ++ rest) ≡ 36
  is : (rest : List ℕ) → is_format (c ++ rest) ≡ false

sizes_is : (all size total : ℕ) → IsSizes (sizes_chunk all size total)
unfolding sizes_chunk
sizes_is all size total = record { long = refl; other = λ rest. refl; len = λ rest. refl; is = λ rest. refl }

-- ---- the samples

header_length : (id size : ℕ) → length (file_header id size) ≡ 12
unfolding file_header
header_length id size = refl

head_length : (n : ℕ) → length (data_header n) ≡ 8
unfolding data_header
head_length n = refl

begins : (n : ℕ) (rest : List ℕ) → is_data (data_header n ++ rest) ≡ true
unfolding data_header
begins n rest = refl

size_is : (n : ℕ) (rest : List ℕ) → n < 4294967296 → size_of (data_header n ++ rest) ≡ n
unfolding data_header
size_is n rest few = little_number-reads_back 4 n rest few

within_room : (to_end : Bool) (n room : ℕ) → n ≤ room → within to_end n room ≡ n
within_room true n room few = omega (arith, few)
within_room false n room few = refl

samples_by : (f : WaveFormat) (n room : ℕ) → n ≤ room → 0 < row_of f → n % row_of f ≡ 0 → samples_fault f n room ≡ None
unfolding samples_fault
samples_by f n room within some whole =
    ap (λ b. cond b (Some why.DataCut) (cond (nat_lt 0 (row_of f) && nat_eq (n % row_of f) 0) None (Some why.PartSample))) (le-ltb room n within)
    ∙ ap (λ b. cond b None (Some why.PartSample)) (and_true _ _ (lt-ltb 0 (row_of f) some) (eq-eqb (n % row_of f) 0 whole))

data_by : (t : Seen) (f : WaveFormat) (bytes : List ℕ) → t.format ≡ Some f → is_unstated (data_size t bytes) (drop 8 bytes) ≡ false
    → samples_fault f (data_len t bytes) (length bytes - 8) ≡ None → data_fault t bytes ≡ None
unfolding data_fault
data_by t f bytes is said none =
    ap (λ (o : Option WaveFormat). elim o [
      | None ↦ Some why.NoFormat
      | Some g ↦ cond (is_unstated (data_size t bytes) (drop 8 bytes)) (Some why.DataUnstated) (samples_fault g (data_len t bytes) (length bytes - 8))
    ]) is
    ∙ (ap (λ b. cond b (Some why.DataUnstated) (samples_fault f (data_len t bytes) (length bytes - 8))) said ∙ none)

-- a length that is stated is none of samples that lack it
said_by : (size : Option ℕ) (samples tail : List ℕ) → unwrap_or size (length samples + length tail) ≡ length samples → (length samples ≡ 0 → length tail ≡ 0)
    → is_unstated size (samples ++ tail) ≡ false
said_by None samples tail is none = refl
said_by (Some n) samples tail is none = by_zero (nat_eq n 0) refl
  where
    by_zero : (b : Bool) → nat_eq n 0 ≡ b → (b && (nat_lt 0 (length (samples ++ tail)) && not (begins_chunk (samples ++ tail)))) ≡ false
    by_zero false e = refl
    by_zero true e =
        let zero = eqb-true n 0 e in
        let here : length samples ≡ 0 = sym is ∙ zero in
        let there = none here in
        ap (λ b. b && not (begins_chunk (samples ++ tail))) (le-ltb 0 (length (samples ++ tail)) (let all = length-append samples tail in omega (arith, all, here, there)))

-- its size is what its header states
size_said : (to_end : Bool) (size : Option ℕ) (rest : List ℕ) → is_unstated size rest ≡ false → size_in to_end size rest ≡ size
size_said true size rest said = ap (λ b. cond b None size) said
size_said false size rest said = refl

-- ---- a file of chunks and samples

file_is : (to_end : Bool) (h form : List ℕ) (cs : List (List ℕ)) (d : ℕ) (samples tail : List ℕ) (f : WaveFormat) (t : Seen)
    → length h ≡ 12 → header_fault (h ++ form) ≡ None → Leads (seen_first to_end (h ++ form)) cs form (data_header d ++ (samples ++ tail)) t → t.format ≡ Some f
    → d < 4294967296 → unwrap_or (stated t d) (length samples + length tail) ≡ length samples → (length samples ≡ 0 → length tail ≡ 0) → 0 < row_of f → length samples % row_of f ≡ 0
    → IsWave to_end (h ++ form) (record { format = f; pieces = h ∷ (cs ++ data_header d ∷ []); samples = samples; back = tail })
file_is to_end h form cs d samples tail f t twelve header leads format few length_is none some whole =
    let body = samples ++ tail in
    let rest = data_header d ++ body in
    let bytes = h ++ form in
    let n = length samples in
    let long : length rest ≡ 8 + length body = length-append (data_header d) body ∙ ap (λ k. k + length body) (head_length d) in
    let room : length rest - 8 ≡ n + length tail = let e = length-append samples tail in omega (arith, long, e) in
    let left : drop 8 rest ≡ body = ap (λ k. drop k rest) (sym (head_length d)) ∙ drop-append_seam (data_header d) body in
    let said : is_unstated (stated t d) body ≡ false = said_by (stated t d) samples tail length_is none in
    let size : data_size t rest ≡ stated t d =
    ap (λ k. size_in t.to_end (stated t k) (drop 8 rest)) (size_is d body few) ∙ (ap (size_in t.to_end (stated t d)) left ∙ size_said t.to_end (stated t d) body said) in
    let unsaid : is_unstated (data_size t rest) (drop 8 rest) ≡ false = ap (λ o. is_unstated o (drop 8 rest)) size ∙ (ap (is_unstated (stated t d)) left ∙ said) in
    let full : unwrap_or (data_size t rest) (length rest - 8) ≡ n = ap (λ o. unwrap_or o (length rest - 8)) size ∙ (ap (λ k. unwrap_or (stated t d) k) room ∙ length_is) in
    let len : data_len t rest ≡ n = ap (λ k. within t.to_end k (length rest - 8)) full ∙ within_room t.to_end n (length rest - 8) (omega (arith, room)) in
    let all : samples_fault f (data_len t rest) (length rest - 8) ≡ None = ap (λ k. samples_fault f k (length rest - 8)) len ∙ samples_by f n (length rest - 8) (omega (arith, room)) some whole in
    let front : drop 12 bytes ≡ form = ap (λ k. drop k bytes) (sym twelve) ∙ drop-append_seam h form in
    let first : take 12 bytes ≡ h = ap (λ k. take k bytes) (sym twelve) ∙ take-append_seam h form in
    let head : take 8 rest ≡ data_header d = ap (λ k. take k rest) (sym (head_length d)) ∙ take-append_seam (data_header d) body in
    record {
      header = header;
      chunks = cs;
      rest = rest;
      seen = t;
      leads = subst (λ b. Leads (seen_first to_end bytes) cs b rest t) (sym front) leads;
      good = fault_by t rest true (omega (arith, long)) (begins d body) (data_by t f rest format unsaid all);
      begun = begins d body;
      format = format;
      pieces = ap (λ l. l ∷ (cs ++ data_header d ∷ [])) (sym first) ∙ ap (λ l. take 12 bytes ∷ (cs ++ l ∷ [])) (sym head);
      samples = sym (ap (λ k. take k (drop 8 rest)) len ∙ (ap (λ l. take n l) left ∙ take-append_seam samples tail));
      back = sym (ap (λ k. drop k (drop 8 rest)) len ∙ (ap (λ l. drop n l) left ∙ drop-append_seam samples tail));
    }

riff_header : (size : ℕ) (rest : List ℕ) → header_fault (file_header 1179011410 size ++ rest) ≡ None
unfolding header_fault file_header
riff_header size rest =
    let bytes = file_header 1179011410 size ++ rest in
    ap (λ b. cond (b && ((nat_eq (id_of bytes) 1179011410 || (nat_eq (id_of bytes) 875972178 || nat_eq (id_of bytes) 875976514)) && nat_eq (long_at 8 bytes) 1163280727)) None (Some why.NotWave))
    (lt-ltb 11 (length bytes) (omega (arith, length-append (file_header 1179011410 size) rest, header_length 1179011410 size)))

long_header : (size : ℕ) (rest : List ℕ) → header_fault (file_header 875972178 size ++ rest) ≡ None
unfolding header_fault file_header
long_header size rest =
    let bytes = file_header 875972178 size ++ rest in
    ap (λ b. cond (b && ((nat_eq (id_of bytes) 1179011410 || (nat_eq (id_of bytes) 875972178 || nat_eq (id_of bytes) 875976514)) && nat_eq (long_at 8 bytes) 1163280727)) None (Some why.NotWave))
    (lt-ltb 11 (length bytes) (omega (arith, length-append (file_header 875972178 size) rest, header_length 875972178 size)))

joined_three : (h c d body : List ℕ) → (h ++ (c ++ (d ++ []))) ++ body ≡ h ++ (c ++ (d ++ body))
joined_three h c d body =
    append_assoc h (c ++ (d ++ [])) body ∙ ap (λ l. h ++ l) (append_assoc c (d ++ []) body ∙ ap (λ l. c ++ l) (append_assoc d [] body))

joined_four : (h e c d body : List ℕ) → (h ++ (e ++ (c ++ (d ++ [])))) ++ body ≡ h ++ (e ++ (c ++ (d ++ body)))
joined_four h e c d body = append_assoc h (e ++ (c ++ (d ++ []))) body ∙ ap (λ l. h ++ l) (joined_three e c d body)

-- a file whose headers state these lengths
short_is : (to_end : Bool) (f : WaveFormat) (all d : ℕ) (samples tail : List ℕ) → CanBeWritten f → all < 4294967296 → d < 4294967296
    → ((t : Seen) → t.riff ≡ all → t.long ≡ None → unwrap_or (stated t d) (length samples + length tail) ≡ length samples) → (length samples ≡ 0 → length tail ≡ 0) → length samples % row_of f ≡ 0
    → IsWave to_end (all_of (short_pieces f all d) ++ (samples ++ tail)) (record { format = f; pieces = short_pieces f all d; samples = samples; back = tail })
short_is to_end f all d samples tail p small few length_is none whole =
    let h = file_header 1179011410 all in
    let c = format_chunk f in
    let k = chunk_is f p in
    let rest = data_header d ++ (samples ++ tail) in
    let s = seen_first to_end (h ++ (c ++ rest)) in
    let t = after_chunk s (c ++ rest) in
    let content : content_fault s (c ++ rest) ≡ None = content_by s (c ++ rest) (k.is rest) (first_format to_end (h ++ (c ++ rest))) (k.good rest) in
    subst (λ b. IsWave to_end b (record { format = f; pieces = short_pieces f all d; samples = samples; back = tail })) (sym (joined_three h c (data_header d) (samples ++ tail)))
    (file_is to_end h (c ++ rest) (c ∷ []) d samples tail f t (header_length 1179011410 all) (riff_header all (c ++ rest))
    (leads_by s c (format_len f) rest [] rest t k.long k.some k.few (k.other rest) (k.len rest) content (refl, refl))
    (after_format s (c ++ rest) (k.is rest) ∙ ap Some (k.format rest)) few
    (length_is t (after_riff s (c ++ rest) ∙ first_riff to_end 1179011410 all (c ++ rest) small) (after_long s (c ++ rest) (k.sizes rest) ∙ first_long to_end (h ++ (c ++ rest)))) none
    (row_some f.channels f.bits p.range.channels p.range.bits) whole)

-- one whose chunk `ds64` states them
long_is : (to_end : Bool) (f : WaveFormat) (size total : ℕ) (samples tail : List ℕ) → CanBeWritten f → size < 18446744073709551616
    → ((t : Seen) → t.long ≡ Some size → unwrap_or (stated t 4294967295) (length samples + length tail) ≡ length samples) → (length samples ≡ 0 → length tail ≡ 0) → length samples % row_of f ≡ 0
    → IsWave to_end (all_of (long_pieces f size total) ++ (samples ++ tail)) (record { format = f; pieces = long_pieces f size total; samples = samples; back = tail })
long_is to_end f size total samples tail p small length_is empty whole =
    let h = file_header 875972178 4294967295 in
    let e = sizes_chunk (36 + riff_size f size) size total in
    let c = format_chunk f in
    let k = chunk_is f p in
    let z = sizes_is (36 + riff_size f size) size total in
    let rest = data_header 4294967295 ++ (samples ++ tail) in
    let form = c ++ rest in
    let s = seen_first to_end (h ++ (e ++ form)) in
    let u = after_chunk s (e ++ form) in
    let t = after_chunk u form in
    let none : u.format ≡ None = after_other s (e ++ form) (z.is form) ∙ first_format to_end (h ++ (e ++ form)) in
    subst (λ b. IsWave to_end b (record { format = f; pieces = long_pieces f size total; samples = samples; back = tail })) (sym (joined_four h e c (data_header 4294967295) (samples ++ tail)))
    (file_is to_end h (e ++ form) (e ∷ c ∷ []) 4294967295 samples tail f t (header_length 875972178 4294967295) (long_header 4294967295 (e ++ form))
    (leads_by s e 36 form (c ∷ []) rest t z.long (omega arith) (omega arith) (z.other form) (z.len form) (content_other s (e ++ form) (z.is form))
    (leads_by u c (format_len f) rest [] rest t k.long k.some k.few (k.other rest) (k.len rest) (content_by u form (k.is rest) none (k.good rest)) (refl, refl)))
    (after_format u form (k.is rest) ∙ ap Some (k.format rest)) (omega arith)
    (length_is t (after_long u form (k.sizes rest) ∙ after_sizes s (36 + riff_size f size) size total form small)) empty
    (row_some f.channels f.bits p.range.channels p.range.bits) whole)

-- ---- how long the samples are

full_by : (t : Seen) (room : ℕ) → unwrap_or (stated t 4294967295) room ≡ unwrap_or t.long room
unfolding stated
full_by t room = refl

short_by : (t : Seen) (all n room : ℕ) → t.riff ≡ all → 0 < all → all < 4294967295 → n < 4294967295 → room ≡ n + n % 2 → unwrap_or (stated t n) room ≡ n
unfolding stated
short_by t all n room riff some small few is =
    let zero : nat_eq t.riff 0 ≡ false = ne_eqb t.riff 0 (λ e. omega (arith, e, riff, some)) in
    let full : nat_eq t.riff 4294967295 ≡ false = ne_eqb t.riff 4294967295 (λ e. omega (arith, e, riff, small)) in
    ap (λ b. unwrap_or (cond b t.long (cond (nat_eq n 2147479552 || (nat_eq n 0 && (nat_eq t.riff 0 || nat_eq t.riff 4294967295))) None (Some n))) room) (ne_eqb n 4294967295 (λ e. omega (arith, e, few)))
    ∙ (ap (λ b. unwrap_or (cond (nat_eq n 2147479552 || (nat_eq n 0 && (b || nat_eq t.riff 4294967295))) None (Some n)) room) zero
    ∙ (ap (λ b. unwrap_or (cond (nat_eq n 2147479552 || (nat_eq n 0 && b)) None (Some n)) room) full
    ∙ (ap (λ b. unwrap_or (cond (nat_eq n 2147479552 || b) None (Some n)) room) (and_false (nat_eq n 0) false refl) ∙ open_by (nat_eq n 2147479552) refl)))
  where
    open_by : (b : Bool) → nat_eq n 2147479552 ≡ b → unwrap_or (cond (b || false) None (Some n)) room ≡ n
    open_by true e = let same = eqb-true n 2147479552 e in omega (arith, same, is)
    open_by false e = refl

pad_by : (b : Bool) → length {A = ℕ} (cond b [] (0 ∷ [])) ≡ cond b 0 1
pad_by true = refl
pad_by false = refl

parity : (n : ℕ) → cond (nat_eq (n % 2) 0) 0 1 ≡ n % 2
parity n = parity_by n _ refl
  where
    parity_by : (n : ℕ) (b : Bool) → nat_eq (n % 2) 0 ≡ b → cond b 0 1 ≡ n % 2
    parity_by n true e = sym (eqb-true (n % 2) 0 e)
    parity_by n false e = let h = eqb-false (n % 2) 0 e in omega (arith, h)

pad_length : (samples : List ℕ) → length (pad_of samples []) ≡ length samples % 2
pad_length samples = pad_by (nat_eq (length samples % 2) 0) ∙ parity (length samples)

-- no samples have no zero after them
none_after : (samples : List ℕ) → length samples ≡ 0 → length (pad_of samples []) ≡ 0
none_after samples none = pad_length samples ∙ ap (λ n. n % 2) none

-- ---- all plain files

known_by : (to_end b : Bool) (f : WaveFormat) (total : ℕ) (samples : List ℕ) → nat_lt (riff_size f (length samples)) 4294967295 ≡ b → CanBeWritten f → length samples < 18446744073709551616 → length samples % row_of f ≡ 0
    → IsWave to_end (all_of (cond b (short_pieces f (riff_size f (length samples)) (length samples)) (long_pieces f (length samples) total)) ++ (samples ++ pad_of samples []))
    (record { format = f; pieces = cond b (short_pieces f (riff_size f (length samples)) (length samples)) (long_pieces f (length samples) total); samples = samples; back = pad_of samples [] })
known_by to_end true f total samples is p few whole =
    let small = ltb-true (riff_size f (length samples)) 4294967295 is in
    let pad = pad_length samples in
    let least : 12 ≤ riff_size f (length samples) = omega arith in
    let within : length samples ≤ riff_size f (length samples) = omega arith in
    short_is to_end f (riff_size f (length samples)) (length samples) samples (pad_of samples []) p (omega (arith, small)) (omega (arith, small, within))
    (λ t riff long. short_by t (riff_size f (length samples)) (length samples) _ riff (omega (arith, least)) small (omega (arith, small, within)) (ap (λ k. length samples + k) pad)) (none_after samples) whole
known_by to_end false f total samples is p few whole =
    long_is to_end f (length samples) total samples (pad_of samples []) p few (λ t long. full_by t _ ∙ ap (λ o. unwrap_or o (length samples + length (pad_of samples []))) long) (none_after samples) whole

no_pad : (b : Bool) → cond {A = List ℕ} b [] (cond true [] (0 ∷ [])) ≡ []
no_pad true = refl
no_pad false = refl

total_is : (total count : ℕ) → nat_eq total 0 ≡ false → (total ≡ 0) ⊎ (total ≡ count) → total ≡ count
total_is total count other (inl none) = absurd (eqb-false total 0 other none)
total_is total count other (inr same) = same

plain_by : (to_end b : Bool) (f : WaveFormat) (total : ℕ) (samples : List ℕ) → nat_eq total 0 ≡ b → IsPlain f total samples
    → IsWave to_end (all_of (cond b (short_pieces f 4294967295 4294967295) (known_pieces f (total * row_of f) total)) ++ (samples ++ pad_of samples (cond b ([] ∷ []) [])))
    (record { format = f; pieces = cond b (short_pieces f 4294967295 4294967295) (known_pieces f (total * row_of f) total); samples = samples; back = pad_of samples (cond b ([] ∷ []) []) })
plain_by to_end true f total samples is p =
    let whole : length samples % row_of f ≡ 0 = ap (λ k. k % row_of f) p.whole ∙ mul-mod_left p.count (row_of f) in
    subst (λ l. IsWave to_end (all_of (short_pieces f 4294967295 4294967295) ++ (samples ++ l)) (record { format = f; pieces = short_pieces f 4294967295 4294967295; samples = samples; back = l })) (sym (no_pad (nat_eq (length samples % 2) 0)))
    (short_is to_end f 4294967295 4294967295 samples [] p.format (omega arith) (omega arith)
    (λ t riff long. full_by t _ ∙ (ap (λ o. unwrap_or o (length samples + 0)) long ∙ omega arith)) (λ e. refl) whole)
plain_by to_end false f total samples is p =
    let count : total ≡ p.count = total_is total p.count is p.stated in
    let whole : length samples % row_of f ≡ 0 = ap (λ k. k % row_of f) p.whole ∙ mul-mod_left p.count (row_of f) in
    let size : length samples ≡ total * row_of f = p.whole ∙ ap (λ k. k * row_of f) (sym count) in
    let row = row_small f.channels f.bits p.format.range.few p.format.range.narrow in
    let small : length samples < 18446744073709551616 = size_small total (row_of f) (length samples) p.few row size in
    subst (λ k. IsWave to_end (all_of (known_pieces f k total) ++ (samples ++ pad_of samples [])) (record { format = f; pieces = known_pieces f k total; samples = samples; back = pad_of samples [] })) size
    (known_by to_end (nat_lt (riff_size f (length samples)) 4294967295) f total samples refl p.format small whole)
  where
    size_small : (total row n : ℕ) → total < 68719476736 → row < 65536 → n ≡ total * row → n < 18446744073709551616
    size_small total row n few some is =
        let e : total * row ≤ 68719476736 * row = mul-le-mul_right {m = total} {n = 68719476736} row (omega (arith, few)) in
        omega (arith, e, some, is)

pub plain_is_wave : (to_end : Bool) (f : WaveFormat) (total : ℕ) (samples : List ℕ) → IsPlain f total samples → IsWave to_end (plain_file f total samples) (plain_parts f total samples)
plain_is_wave to_end f total samples p = plain_by to_end (nat_eq total 0) f total samples refl p

-- ---- made of its pieces

-- none of these is the header of samples
abbrev NoHead : List (List ℕ) → Type 0
NoHead [] = Unit {0}
NoHead (p ∷ ps) = (is_head p ≡ false) × NoHead ps

front_by : (fs : List (List ℕ)) (d : List ℕ) (ps : List (List ℕ)) → NoHead fs → is_head d ≡ true → front_of ((fs ++ d ∷ []) ++ ps) ≡ all_of (fs ++ d ∷ [])
front_by [] d ps h e = ap (λ b. cond b d (d ++ front_of ps)) e ∙ sym (append-nil d)
front_by (f ∷ fs) d ps h e = ap (λ b. cond b f (f ++ front_of ((fs ++ d ∷ []) ++ ps))) h.0 ∙ ap (λ l. f ++ l) (front_by fs d ps h.1 e)

after_by : (fs : List (List ℕ)) (d : List ℕ) (ps : List (List ℕ)) → NoHead fs → is_head d ≡ true → pieces_after ((fs ++ d ∷ []) ++ ps) ≡ ps
after_by [] d ps h e = ap (λ b. cond b ps (pieces_after ps)) e
after_by (f ∷ fs) d ps h e = ap (λ b. cond b ((fs ++ d ∷ []) ++ ps) (pieces_after ((fs ++ d ∷ []) ++ ps))) h.0 ∙ after_by fs d ps h.1 e

made_by : (fs : List (List ℕ)) (d : List ℕ) (ps : List (List ℕ)) (samples : List ℕ) → NoHead fs → is_head d ≡ true → all_of ps ≡ []
    → restored ((fs ++ d ∷ []) ++ ps) samples ≡ all_of (fs ++ d ∷ []) ++ (samples ++ pad_of samples ps)
made_by fs d ps samples h e none =
    ap (λ l. l ++ (samples ++ (pad_of samples (pieces_after ((fs ++ d ∷ []) ++ ps)) ++ all_of (pieces_after ((fs ++ d ∷ []) ++ ps))))) (front_by fs d ps h e)
    ∙ (ap (λ q. all_of (fs ++ d ∷ []) ++ (samples ++ (pad_of samples q ++ all_of q))) (after_by fs d ps h e)
    ∙ (ap (λ l. all_of (fs ++ d ∷ []) ++ (samples ++ (pad_of samples ps ++ l))) none ∙ ap (λ l. all_of (fs ++ d ∷ []) ++ (samples ++ l)) (append-nil (pad_of samples ps))))

header_no : (id size : ℕ) → is_head (file_header id size) ≡ false
unfolding file_header
header_no id size = refl

sizes_no : (all size total : ℕ) → is_head (sizes_chunk all size total) ≡ false
unfolding sizes_chunk
sizes_no all size total = refl

data_yes : (size : ℕ) → is_head (data_header size) ≡ true
unfolding data_header
data_yes size = refl

chunk_no : (f : WaveFormat) (mask : Option ℕ) → is_head (elim mask [ None ↦ basic_chunk f | Some m ↦ extensible_chunk f m ]) ≡ false
unfolding basic_chunk extensible_chunk format_fields
chunk_no f None = refl
chunk_no f (Some m) = refl

short_made : (f : WaveFormat) (all d : ℕ) (ps : List (List ℕ)) (samples : List ℕ) → all_of ps ≡ [] → restored (short_pieces f all d ++ ps) samples ≡ all_of (short_pieces f all d) ++ (samples ++ pad_of samples ps)
short_made f all d ps samples none = made_by (file_header 1179011410 all ∷ format_chunk f ∷ []) (data_header d) ps samples (header_no 1179011410 all, (chunk_no f f.mask, tt)) (data_yes d) none

long_made : (f : WaveFormat) (size total : ℕ) (ps : List (List ℕ)) (samples : List ℕ) → all_of ps ≡ [] → restored (long_pieces f size total ++ ps) samples ≡ all_of (long_pieces f size total) ++ (samples ++ pad_of samples ps)
long_made f size total ps samples none =
    made_by (file_header 875972178 4294967295 ∷ sizes_chunk (36 + riff_size f size) size total ∷ format_chunk f ∷ []) (data_header 4294967295) ps samples
    (header_no 875972178 4294967295, (sizes_no (36 + riff_size f size) size total, (chunk_no f f.mask, tt))) (data_yes 4294967295) none

made_of : (b c : Bool) (f : WaveFormat) (total : ℕ) (samples : List ℕ) (size : ℕ)
    → restored (cond b (short_pieces f 4294967295 4294967295) (cond c (short_pieces f (riff_size f size) size) (long_pieces f size total)) ++ cond b ([] ∷ []) []) samples
    ≡ all_of (cond b (short_pieces f 4294967295 4294967295) (cond c (short_pieces f (riff_size f size) size) (long_pieces f size total))) ++ (samples ++ pad_of samples (cond b ([] ∷ []) []))
made_of true c f total samples size = short_made f 4294967295 4294967295 ([] ∷ []) samples refl
made_of false true f total samples size = short_made f (riff_size f size) size [] samples refl
made_of false false f total samples size = long_made f size total [] samples refl

pub plain_made : (f : WaveFormat) (total : ℕ) (samples : List ℕ) → restored (plain_pieces f total) samples ≡ plain_file f total samples
plain_made f total samples = made_of (nat_eq total 0) (nat_lt (riff_size f (total * row_of f)) 4294967295) f total samples (total * row_of f)
