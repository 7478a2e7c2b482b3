-- Reading what comes before the samples of a WAV file, piece by piece.
use Rattle.std.proofs.Common.{◌≡◌, ◌≤◌, ◌<◌, ◌+◌, ◌-◌, ◌%◌, ◌++◌, ◌∷◌, [], ◌⊎◌, inl, inr, ℕ, zero, suc, Bool, true, false, cond, List, length, take, drop, min, Option, Some, None, refl, sym, subst, ap, ◌∙◌, arith, length-append, append-nil, append_assoc}
use Rattle.std.specs.Prelude.{◌&&◌, ◌||◌, nat_lt, nat_eq}
use Rattle.std.proofs.lemmas.Bool.{lt-ltb, le-ltb, ltb-true, ltb-false, cases_lt}
use Rattle.std.proofs.Math.Seq.{take-append_seam, drop-append_seam}
use Rattle.flac_bits.specs.declared.why.Why.{Why}
use Rattle.flac_bits.specs.declared.why.Why.TheVariants as reason
use Rattle.flac_wave.specs.Chunks.{Leads, id_of, is_data, size_of, chunk_len, most_kept, header_fault, seen_first, after_chunk, content_fault, chunk_fault, data_fault, samples_fault, data_len, stated, is_unstated, data_size, fault_at}
use Rattle.flac_wave.specs.Format.{long_at, IsInRange}
use Rattle.flac_wave.specs.Front.{IsFront}
use Rattle.flac_wave.specs.Wave.{IsNoWave, IsErrorOf}
use Rattle.flac_wave.specs.inner.Pieces.{IsPiece, IsPieceError, KnownInRange, error_of, error_at}
use Rattle.flac_wave.specs.declared.seen.Seen.{Seen}
use Rattle.flac_wave.specs.declared.format.WaveFormat.{WaveFormat}
use Rattle.flac_wave.specs.declared.waves.WaveError.{WaveError}
use Rattle.flac_wave.specs.declared.waves.WaveError.TheVariants as error
use Rattle.flac_wave.specs.declared.why.WaveWhy.{WaveWhy}
use Rattle.flac_wave.specs.declared.why.WaveWhy.TheVariants as why
use Rattle.flac_wave.proofs.Local.{data_front, len_front, size_front, id_front, long_front, content_front, known_front}
use Rattle.flac_wave.proofs.Walks.{Walked, walked_first, walked_next}

-- ---- what comes next

-- where a chunk or the samples can be
at_long : (s : Seen) (bytes : List ℕ) → 8 ≤ length bytes → fault_at s bytes ≡ cond (is_data bytes) (data_fault s bytes) (chunk_fault s bytes)
unfolding fault_at
at_long s bytes long = ap (λ k. cond k (Some (cond (nat_eq (length bytes) 0) why.NoData why.ChunkCut)) (cond (is_data bytes) (data_fault s bytes) (chunk_fault s bytes))) (le-ltb (length bytes) 8 long)

at_chunk : (s : Seen) (bytes : List ℕ) → 8 ≤ length bytes → is_data bytes ≡ false → fault_at s bytes ≡ chunk_fault s bytes
at_chunk s bytes long other = at_long s bytes long ∙ ap (λ k. cond k (data_fault s bytes) (chunk_fault s bytes)) other

at_data : (s : Seen) (bytes : List ℕ) → 8 ≤ length bytes → is_data bytes ≡ true → fault_at s bytes ≡ data_fault s bytes
at_data s bytes long here = at_long s bytes long ∙ ap (λ k. cond k (data_fault s bytes) (chunk_fault s bytes)) here

at_short : (s : Seen) (bytes : List ℕ) → length bytes < 8 → fault_at s bytes ≡ Some (cond (nat_eq (length bytes) 0) why.NoData why.ChunkCut)
unfolding fault_at
at_short s bytes short = ap (λ k. cond k (Some (cond (nat_eq (length bytes) 0) why.NoData why.ChunkCut)) (cond (is_data bytes) (data_fault s bytes) (chunk_fault s bytes))) (lt-ltb (length bytes) 8 short)

chunk_whole : (s : Seen) (xs ys : List ℕ) → 8 ≤ length xs → chunk_len xs ≤ length xs → chunk_fault s (xs ++ ys) ≡ chunk_fault s xs
unfolding chunk_fault
chunk_whole s xs ys few whole =
    let all = length-append xs ys in
    let there : nat_lt (length (xs ++ ys)) (chunk_len xs) ≡ nat_lt (length xs) (chunk_len xs) = le-ltb (length (xs ++ ys)) (chunk_len xs) (omega (arith, all, whole)) ∙ sym (le-ltb (length xs) (chunk_len xs) whole) in
    rw (len_front xs ys few, there, content_front xs ys s few (omega (arith, whole))) refl

-- what is judged of a piece is judged of the bytes that begin with it
pub piece_judged : (s : Seen) (bytes piece rest : List ℕ) → IsPiece bytes piece rest → is_data piece ≡ false → fault_at s bytes ≡ chunk_fault s piece
piece_judged s bytes piece rest p other = ap (fault_at s) p.is ∙ (at_chunk s (piece ++ rest) (omega (arith, p.long, length-append piece rest)) (data_front piece rest (omega (arith, p.long)) ∙ other) ∙ by_cut (cases_lt (length piece) (chunk_len piece)))
  where
    by_cut : (length piece < chunk_len piece) ⊎ (chunk_len piece ≤ length piece) → chunk_fault s (piece ++ rest) ≡ chunk_fault s piece
    by_cut (inl cut) = ap (λ r. chunk_fault s (piece ++ r)) (p.cut other cut) ∙ ap (chunk_fault s) (append-nil piece)
    by_cut (inr whole) = chunk_whole s piece rest p.long whole

past : {X : Type 0} (b : Bool) (x : X) (r : Option X) → cond b (Some x) r ≡ None → (b ≡ false) × (r ≡ None)
past true x r e = absurd cc
past false x r e = (refl, e)

good_chunk : (s : Seen) (xs : List ℕ) → chunk_fault s xs ≡ None → (chunk_len xs ≤ length xs) × (content_fault s xs ≡ None)
unfolding chunk_fault
good_chunk s xs good =
    let a = past (nat_lt (length xs) (chunk_len xs)) _ _ good in
    let b = past (nat_lt most_kept (chunk_len xs)) _ _ a.1 in
    (ltb-false (length xs) (chunk_len xs) a.0, b.1)

-- a chunk was read
pub piece_walked : (to_end : Bool) (all bytes piece rest : List ℕ) (taken new : List (List ℕ)) (s t : Seen) (count : ℕ) → Walked to_end all taken bytes s count → IsPiece bytes piece rest → is_data piece ≡ false
    → chunk_fault s piece ≡ None → t ≡ after_chunk s piece → new ≡ taken ++ piece ∷ [] → Walked to_end all new rest t (count + 1)
piece_walked to_end all bytes piece rest taken new s t count w p other good known push =
    let g = good_chunk s piece good in
    let same : length piece ≡ chunk_len piece = omega (arith, g.0, p.few other) in
    let len : chunk_len bytes ≡ length piece = ap chunk_len p.is ∙ (len_front piece rest p.long ∙ sym same) in
    walked_next to_end all taken new bytes rest piece s t count w
    (piece_judged s bytes piece rest p other ∙ good)
    (ap is_data p.is ∙ (data_front piece rest (omega (arith, p.long)) ∙ other))
    (known ∙ (sym (known_front s piece rest p.long (omega (arith, same)) g.1) ∙ ap (after_chunk s) (sym p.is)))
    (sym (ap (λ n. take n bytes) len ∙ (ap (take (length piece)) p.is ∙ take-append_seam piece rest)))
    (sym (ap (λ n. drop n bytes) len ∙ (ap (drop (length piece)) p.is ∙ drop-append_seam piece rest)))
    push

-- one was refused
pub piece_refused : (to_end : Bool) (all bytes piece rest : List ℕ) (taken : List (List ℕ)) (s : Seen) (count : ℕ) (w : WaveWhy) → header_fault all ≡ None → Walked to_end all taken bytes s count → IsPiece bytes piece rest → is_data piece ≡ false
    → chunk_fault s piece ≡ Some w → IsNoWave to_end all (Some count) w
piece_refused to_end all bytes piece rest taken s count w header walk p other bad = (header, walk.chunks, bytes, s, walk.many, walk.leads, piece_judged s bytes piece rest p other ∙ bad)

-- none came
pub error_walked : (to_end : Bool) (all bytes : List ℕ) (taken : List (List ℕ)) (s : Seen) (count : ℕ) (e : WaveError) → header_fault all ≡ None → Walked to_end all taken bytes s count → IsPieceError count bytes e → IsErrorOf to_end all e
error_walked to_end all bytes taken s count error.Memory header walk h = tt
error_walked to_end all bytes taken s count error.Read header walk h = h
error_walked to_end all bytes taken s count (error.Fault f) header walk h =
    subst (λ o. IsNoWave to_end all o f.why) (sym h.0) (header, walk.chunks, bytes, s, walk.many, walk.leads, h.1 s)

-- the samples came before a format
pub no_format : (to_end : Bool) (all bytes piece rest : List ℕ) (taken : List (List ℕ)) (s : Seen) (count : ℕ) → header_fault all ≡ None → Walked to_end all taken bytes s count → IsPiece bytes piece rest → is_data piece ≡ true
    → s.format ≡ None → IsNoWave to_end all (Some count) why.NoFormat
unfolding data_fault
no_format to_end all bytes piece rest taken s count header walk p here none =
    let long : 8 ≤ length bytes = omega (arith, p.long, ap length p.is, length-append piece rest) in
    let begun : is_data bytes ≡ true = ap is_data p.is ∙ (data_front piece rest (omega (arith, p.long)) ∙ here) in (
      header,
      walk.chunks,
      bytes,
      s,
      walk.many,
      walk.leads,
      at_data s bytes long begun
          ∙ ap (λ (o : Option WaveFormat). elim o [
            | None ↦ Some why.NoFormat
            | Some g ↦ cond (is_unstated (data_size s bytes) (drop 8 bytes)) (Some why.DataUnstated) (samples_fault g (data_len s bytes) (length bytes - 8))
          ]) none,
    )

-- the header of the samples came
pub front_read : (to_end : Bool) (all bytes piece rest : List ℕ) (taken new : List (List ℕ)) (s : Seen) (count : ℕ) (f : WaveFormat) (size : Option ℕ) → header_fault all ≡ None → Walked to_end all taken bytes s count → IsPiece bytes piece rest → is_data piece ≡ true
    → s.format ≡ Some f → IsInRange f → size ≡ stated s (size_of piece) → new ≡ taken ++ piece ∷ [] → IsFront to_end all f new size count rest
front_read to_end all bytes piece rest taken new s count f size header walk p here is range sized push =
    let eight = p.head here in
    record {
      header = header;
      chunks = walk.chunks;
      many = walk.many;
      here = bytes;
      seen = s;
      leads = walk.leads;
      long = omega (arith, p.long, ap length p.is, length-append piece rest);
      begun = ap is_data p.is ∙ (data_front piece rest (omega (arith, p.long)) ∙ here);
      form = is;
      range = range;
      list = push ∙ (ap (λ l. l ++ piece ∷ []) walk.pieces ∙ ap (λ l. (take 12 all ∷ walk.chunks) ++ l ∷ []) (sym (ap (take 8) p.is ∙ (ap (λ n. take n (piece ++ rest)) (sym eight) ∙ take-append_seam piece rest))));
      sized = sized ∙ ap (stated s) (sym (ap size_of p.is ∙ size_front piece rest p.long));
      left = sym (ap (drop 8) p.is ∙ (ap (λ n. drop n (piece ++ rest)) (sym eight) ∙ drop-append_seam piece rest));
    }

-- ---- the header of the file

pub header_front : (h rest : List ℕ) → (length h < 12 → rest ≡ []) → header_fault (h ++ rest) ≡ header_fault h
unfolding header_fault
header_front h rest none = by_long (cases_lt (length h) 12)
  where
    by_long : (length h < 12) ⊎ (12 ≤ length h) → header_fault (h ++ rest) ≡ header_fault h
    by_long (inl short) = ap (λ r. header_fault (h ++ r)) (none short) ∙ ap header_fault (append-nil h)
    by_long (inr long) =
        let there : nat_lt 11 (length (h ++ rest)) ≡ nat_lt 11 (length h) = lt-ltb 11 (length (h ++ rest)) (omega (arith, long, length-append h rest)) ∙ sym (lt-ltb 11 (length h) (omega (arith, long))) in
        rw (there, id_front h rest (omega (arith, long)), long_front h rest 8 (omega (arith, long))) refl

pub first_walked : (to_end : Bool) (all h rest : List ℕ) (new : List (List ℕ)) (s : Seen) → all ≡ h ++ rest → length h ≡ 12 → s ≡ seen_first to_end h → new ≡ h ∷ [] → Walked to_end all new rest s 0
unfolding seen_first
first_walked to_end all h rest new s is twelve known push =
    let first : take 12 all ≡ h = ap (take 12) is ∙ (ap (λ n. take n (h ++ rest)) (sym twelve) ∙ take-append_seam h rest) in
    let left : drop 12 all ≡ rest = ap (drop 12) is ∙ (ap (λ n. drop n (h ++ rest)) (sym twelve) ∙ drop-append_seam h rest) in
    let same : seen_first to_end all ≡ s = ap (seen_first to_end) is ∙ (ap (λ n. record { riff = n; long = None; format = None; to_end = to_end }) (size_front h rest (omega (arith, twelve))) ∙ sym known) in
    record { chunks = []; pieces = push ∙ ap (λ l. l ∷ []) (sym first); many = refl; leads = (left, same) }

-- ---- one piece

pub piece_head : (bytes piece rest : List ℕ) → bytes ≡ piece ++ rest → length piece ≤ 8 → (length piece < 8 → ⊥) → is_data piece ≡ true → IsPiece bytes piece rest
piece_head bytes piece rest is few some here = record { long = omega_long (length piece) some; is = is; head = λ e. omega_same (length piece) few some; few = λ other. absurd cc; cut = λ other. absurd cc }
  where
    omega_long : (n : ℕ) → (n < 8 → ⊥) → 8 ≤ n
    omega_long n f = elim (cases_lt n 8) [ inl l ↦ absurd (f l) | inr m ↦ m ]

    omega_same : (n : ℕ) → n ≤ 8 → (n < 8 → ⊥) → n ≡ 8
    omega_same n few f = let m = omega_long n f in omega (arith, few, m)

pub short_error : (count : ℕ) (bytes piece rest : List ℕ) (w : WaveWhy) → bytes ≡ piece ++ rest → length piece < 8 → (length piece < 8 → rest ≡ []) → w ≡ cond (nat_eq (length piece) 0) why.NoData why.ChunkCut → IsPieceError count bytes (error_at count w)
short_error count bytes piece rest w is short none same =
    let all : bytes ≡ piece = is ∙ (ap (λ r. piece ++ r) (none short) ∙ append-nil piece) in
    (refl, λ s. subst (λ b. fault_at s b ≡ Some w) (sym all) (at_short s piece short ∙ ap Some (sym same)))

-- why a chunk of n bytes is refused here
abbrev chunk_at : (bytes : List ℕ) → Seen → ℕ → Option WaveWhy
chunk_at bytes s n = cond (nat_lt (length bytes) n) (Some why.ChunkCut) (cond (nat_lt 16777211 n) (Some why.ChunkLength) (content_fault s bytes))

-- a chunk that is too long
pub long_error : (count : ℕ) (head rest : List ℕ) (there left : ℕ) (w : WaveWhy) → length head ≡ 8 → is_data head ≡ false → 16777211 < left + 8 → left + 8 ≡ chunk_len head → there ≡ min left (length rest) → w ≡ cond (nat_lt there left) why.ChunkCut why.ChunkLength
    → IsPieceError count (head ++ rest) (error_at count w)
unfolding chunk_fault
long_error count head rest there left w eight other many len got same =
    (refl, λ s. at_chunk s (head ++ rest) (omega (arith, eight, length-append head rest)) (data_front head rest (omega (arith, eight)) ∙ other) ∙ (ap (chunk_at (head ++ rest) s) (len_front head rest (omega (arith, eight)) ∙ sym len) ∙ by_cut s (cases_lt there left)))
  where
    by_cut : (s : Seen) → (there < left) ⊎ (left ≤ there) → chunk_at (head ++ rest) s (left + 8) ≡ Some w
    by_cut s (inl fewer) =
        ap (λ b. cond b (Some why.ChunkCut) (cond (nat_lt 16777211 (left + 8)) (Some why.ChunkLength) (content_fault s (head ++ rest)))) (lt-ltb (length (head ++ rest)) (left + 8) (omega (arith, fewer, got, eight, length-append head rest)))
        ∙ ap Some (sym (same ∙ ap (λ b. cond b why.ChunkCut why.ChunkLength) (lt-ltb there left fewer)))
    by_cut s (inr enough) =
        ap (λ b. cond b (Some why.ChunkCut) (cond (nat_lt 16777211 (left + 8)) (Some why.ChunkLength) (content_fault s (head ++ rest)))) (le-ltb (length (head ++ rest)) (left + 8) (omega (arith, enough, got, eight, length-append head rest)))
        ∙ (ap (λ b. cond b (Some why.ChunkLength) (content_fault s (head ++ rest))) (lt-ltb 16777211 (left + 8) many)
        ∙ ap Some (sym (same ∙ ap (λ b. cond b why.ChunkCut why.ChunkLength) (le-ltb there left enough))))

-- a chunk of which all came that there is
pub piece_chunk : (head more rest coming piece : List ℕ) (left : ℕ) → length head ≡ 8 → is_data head ≡ false → left + 8 ≡ chunk_len head → coming ≡ more ++ rest → length more ≤ left → (length more < left → rest ≡ []) → piece ≡ head ++ more → IsPiece (head ++ coming) piece rest
piece_chunk head more rest coming piece left eight other len is few none same =
    let all : length piece ≡ 8 + length more = ap length same ∙ (length-append head more ∙ ap (λ n. n + length more) eight) in
    let not_data : is_data piece ≡ false = ap is_data same ∙ (data_front head more (omega (arith, eight)) ∙ other) in
    let long : chunk_len piece ≡ left + 8 = ap chunk_len same ∙ (len_front head more (omega (arith, eight)) ∙ sym len) in
    record {
      long = omega (arith, all);
      is = ap (λ l. head ++ l) is ∙ (sym (append_assoc head more rest) ∙ ap (λ l. l ++ rest) (sym same));
      head = λ here. absurd (true_false (sym here ∙ not_data));
      few = λ e. omega (arith, all, long, few);
      cut = λ e cut. none (omega (arith, cut, all, long));
    }
  where
    true_false : {X : Type 0} → true ≡ false → X
    true_false e = absurd cc

-- no format is known at first
pub first_range : (to_end : Bool) (h : List ℕ) (s : Seen) → s ≡ seen_first to_end h → KnownInRange s.format
unfolding seen_first
first_range to_end h s is = subst (λ (u : Seen). KnownInRange u.format) (sym is) tt
