-- What comes before the samples of a WAV file, and the samples of which it is known when they have come.
use Rattle.std.proofs.Common.{◌≡◌, ◌≤◌, ◌<◌, ◌+◌, ◌*◌, ◌/◌, ◌%◌, ◌-◌, ◌++◌, ◌∷◌, [], ℕ, zero, suc, Bool, true, false, cond, List, length, take, drop, min, Option, Some, None, unwrap_or, refl, sym, subst, ap, ◌∙◌, arith, length-append}
use Rattle.std.specs.Prelude.{◌&&◌, not, nat_lt, nat_eq}
use Rattle.std.proofs.Math.Nat.{mul-pos}
use Rattle.std.proofs.lemmas.Bool.{lt-ltb, le-ltb, ltb-true, ltb-false}
use Rattle.std.proofs.lemmas.List.{take_min, take_all, length-take, length-drop}
use Rattle.flac_wave.specs.Chunks.{Leads, seen_first, after_chunk, chunk_len, fault_at, is_data, size_of, stated, is_unstated, size_in, data_size, within, data_len, data_fault, chunk_fault, samples_fault}
use Rattle.flac_wave.specs.Format.{IsInRange, row_of}
use Rattle.flac_wave.specs.Front.{IsFront, front_fault, are_whole, rest_fault}
use Rattle.flac_wave.specs.Parts.{given, beyond, is_cut}
use Rattle.flac_wave.specs.Wave.{Parts, IsWave, IsNoWave}
use Rattle.flac_wave.specs.declared.seen.Seen.{Seen}
use Rattle.flac_wave.specs.declared.format.WaveFormat.{WaveFormat}
use Rattle.flac_wave.specs.declared.why.WaveWhy.{WaveWhy}
use Rattle.flac_wave.specs.declared.why.WaveWhy.TheVariants as why

-- ---- how many bytes the samples have

min_same : (n : ℕ) → min n n ≡ n
min_same n = omega arith

drop_nil : (n : ℕ) → drop {A = ℕ} n [] ≡ []
drop_nil zero = refl
drop_nil (suc n) = refl

drop_min : (n : ℕ) (xs : List ℕ) → drop (min n (length xs)) xs ≡ drop n xs
drop_min n [] = drop_nil (min n 0) ∙ sym (drop_nil n)
drop_min zero (x ∷ xs) = ap (λ k. drop k (x ∷ xs)) (let e : min 0 (suc (length xs)) ≡ 0 = omega arith in e)
drop_min (suc n) (x ∷ xs) = ap (λ k. drop k (x ∷ xs)) (let e : min (suc n) (suc (length xs)) ≡ suc (min n (length xs)) = omega arith in e) ∙ drop_min n xs

drop_all : (xs : List ℕ) → drop (length xs) xs ≡ []
drop_all [] = refl
drop_all (x ∷ xs) = drop_all xs

within_all : (to_end : Bool) (n : ℕ) → within to_end n n ≡ n
within_all true n = min_same n
within_all false n = refl

abbrev len_in : (to_end : Bool) (size : Option ℕ) (rest : List ℕ) → ℕ
len_in to_end size rest = within to_end (unwrap_or size (length rest)) (length rest)

len_taken : (to_end : Bool) (size : Option ℕ) (rest : List ℕ) → take (len_in to_end size rest) rest ≡ given size rest
len_taken to_end None rest = ap (λ k. take k rest) (within_all to_end (length rest)) ∙ take_all (length rest) rest (omega arith)
len_taken true (Some n) rest = take_min n rest
len_taken false (Some n) rest = refl

len_dropped : (to_end : Bool) (size : Option ℕ) (rest : List ℕ) → drop (len_in to_end size rest) rest ≡ beyond size rest
len_dropped to_end None rest = ap (λ k. drop k rest) (within_all to_end (length rest)) ∙ drop_all rest
len_dropped true (Some n) rest = drop_min n rest
len_dropped false (Some n) rest = refl

-- ---- what is judged of them

judged : (f : WaveFormat) (len room : ℕ) → 0 < row_of f → len ≤ room → samples_fault f len room ≡ cond (nat_eq (len % row_of f) 0) None (Some why.PartSample)
unfolding samples_fault
judged f len room some few =
    ap (λ b. cond b (Some why.DataCut) (cond (nat_lt 0 (row_of f) && nat_eq (len % row_of f) 0) None (Some why.PartSample))) (le-ltb room len few)
    ∙ ap (λ b. cond (b && nat_eq (len % row_of f) 0) None (Some why.PartSample)) (lt-ltb 0 (row_of f) some)

judged_cut : (f : WaveFormat) (len room : ℕ) → room < len → samples_fault f len room ≡ Some why.DataCut
unfolding samples_fault
judged_cut f len room more = ap (λ b. cond b (Some why.DataCut) (cond (nat_lt 0 (row_of f) && nat_eq (len % row_of f) 0) None (Some why.PartSample))) (lt-ltb room len more)

and_no : (b : Bool) → (b && false) ≡ false
and_no true = refl
and_no false = refl

abbrev by_whole : WaveFormat → ℕ → Option WaveWhy
by_whole f len = cond (nat_eq (len % row_of f) 0) None (Some why.PartSample)

samples_judged : (f : WaveFormat) (to_end : Bool) (size : Option ℕ) (rest : List ℕ) → 0 < row_of f → samples_fault f (len_in to_end size rest) (length rest) ≡ front_fault to_end (is_cut size rest) (are_whole f size rest)
samples_judged f to_end None rest some = ap (λ k. samples_fault f k (length rest)) (within_all to_end (length rest)) ∙ judged f (length rest) (length rest) some (omega arith)
samples_judged f true (Some n) rest some =
    judged f (min n (length rest)) (length rest) some (omega arith)
    ∙ (ap (by_whole f) (sym (length-take n rest)) ∙ ap (λ b. cond b (Some why.DataCut) (by_whole f (length (take n rest)))) (sym (and_no (nat_lt (length rest) n))))
samples_judged f false (Some n) rest some = by_cut (nat_lt (length rest) n) refl
  where
    by_cut : (b : Bool) → nat_lt (length rest) n ≡ b → samples_fault f n (length rest) ≡ front_fault false (nat_lt (length rest) n) (are_whole f (Some n) rest)
    by_cut true e = judged_cut f n (length rest) (ltb-true (length rest) n e) ∙ ap (λ b. front_fault false b (are_whole f (Some n) rest)) (sym e)
    by_cut false e =
        let few = ltb-false (length rest) n e in
        let long : n ≡ length (take n rest) = omega (arith, length-take n rest, few) in
        judged f n (length rest) some few ∙ (ap (by_whole f) long ∙ ap (λ b. front_fault false b (are_whole f (Some n) rest)) (sym e))

-- ---- the file

module _ (to_end : Bool) (bytes : List ℕ) (format : WaveFormat) (pieces : List (List ℕ)) (size : Option ℕ) (count : ℕ) (rest : List ℕ) (i : IsFront to_end bytes format pieces size count rest) where
  kept_end : (s : Seen) (cs : List (List ℕ)) (b r : List ℕ) (t : Seen) → Leads s cs b r t → t.to_end ≡ s.to_end
  unfolding after_chunk
  kept_end s [] b r t h = ap (λ (u : Seen). u.to_end) (sym h.1)
  kept_end s (c ∷ cs) b r t h = kept_end (after_chunk s b) cs (drop (chunk_len b) b) r t h.3

  ends : i.seen.to_end ≡ to_end
  unfolding seen_first
  ends = kept_end (seen_first to_end bytes) i.chunks (drop 12 bytes) i.here i.seen i.leads

  room : length i.here - 8 ≡ length rest
  room = sym (ap length i.left ∙ length-drop 8 i.here)

  -- how many bytes the samples have, by what follows their header
  abbrev pub size_here : Option ℕ
  size_here = size_in to_end size rest

  size_is : data_size i.seen i.here ≡ size_here
  size_is =
      ap (λ b. size_in b (stated i.seen (size_of i.here)) (drop 8 i.here)) ends
      ∙ (ap (λ o. size_in to_end o (drop 8 i.here)) (sym i.sized) ∙ ap (size_in to_end size) (sym i.left))

  len : data_len i.seen i.here ≡ len_in to_end size_here rest
  len =
      ap (λ b. within b (unwrap_or (data_size i.seen i.here) (length i.here - 8)) (length i.here - 8)) ends
      ∙ (ap (λ o. within to_end (unwrap_or o (length i.here - 8)) (length i.here - 8)) size_is
      ∙ ap (λ k. within to_end (unwrap_or size_here k) k) room)

  some_row : 0 < row_of format
  some_row = row_some format.channels format.bits i.range.channels i.range.bits
    where
      row_some : (channels bits : ℕ) → 0 < channels → 0 < bits → 0 < channels * ((bits + 7) / 8)
      row_some channels bits some more = mul-pos some (omega (arith, more))

  data_at : (s : Seen) (b : List ℕ) (f : WaveFormat) → 8 ≤ length b → is_data b ≡ true → s.format ≡ Some f
      → fault_at s b ≡ cond (is_unstated (data_size s b) (drop 8 b)) (Some why.DataUnstated) (samples_fault f (data_len s b) (length b - 8))
  unfolding fault_at data_fault
  data_at s b f long here is =
      ap (λ k. cond k (Some (cond (nat_eq (length b) 0) why.NoData why.ChunkCut)) (cond (is_data b) (data_fault s b) (chunk_fault s b))) (le-ltb (length b) 8 long)
      ∙ (ap (λ k. cond k (data_fault s b) (chunk_fault s b)) here
      ∙ ap (λ (o : Option WaveFormat). elim o [
        | None ↦ Some why.NoFormat
        | Some g ↦ cond (is_unstated (data_size s b) (drop 8 b)) (Some why.DataUnstated) (samples_fault g (data_len s b) (length b - 8))
      ]) is)

  unstated_is : is_unstated (data_size i.seen i.here) (drop 8 i.here) ≡ is_unstated size_here rest
  unstated_is = ap (λ o. is_unstated o (drop 8 i.here)) size_is ∙ ap (is_unstated size_here) (sym i.left)

  fault_is : fault_at i.seen i.here ≡ rest_fault to_end format size_here rest
  fault_is =
      data_at i.seen i.here format i.long i.begun i.form
      ∙ (ap (λ b. cond b (Some why.DataUnstated) (samples_fault format (data_len i.seen i.here) (length i.here - 8))) unstated_is
      ∙ ap (λ o. cond (is_unstated size_here rest) (Some why.DataUnstated) o)
      (ap (λ k. samples_fault format k (length i.here - 8)) len
      ∙ (ap (λ k. samples_fault format (len_in to_end size_here rest) k) room ∙ samples_judged format to_end size_here rest some_row)))

  -- with samples that are not refused they are a file
  abbrev pub file_of : Parts
  file_of = record { format = format; pieces = pieces; samples = given size_here rest; back = beyond size_here rest }

  pub front_file : rest_fault to_end format size_here rest ≡ None → IsWave to_end bytes file_of
  front_file good = record {
    header = i.header;
    chunks = i.chunks;
    rest = i.here;
    seen = i.seen;
    leads = i.leads;
    good = fault_is ∙ good;
    begun = i.begun;
    format = i.form;
    pieces = i.list;
    samples = sym (ap (λ k. take k (drop 8 i.here)) len ∙ (ap (take (len_in to_end size_here rest)) (sym i.left) ∙ len_taken to_end size_here rest));
    back = sym (ap (λ k. drop k (drop 8 i.here)) len ∙ (ap (drop (len_in to_end size_here rest)) (sym i.left) ∙ len_dropped to_end size_here rest));
  }

  -- and else none
  pub front_none : (why : WaveWhy) → rest_fault to_end format size_here rest ≡ Some why → IsNoWave to_end bytes (Some count) why
  front_none why bad = (i.header, i.chunks, i.here, i.seen, i.many, i.leads, fault_is ∙ bad)
