-- The format of a file, and what the file's pieces say of it.
use Rattle.std.proofs.Common.{◌≡◌, ◌≤◌, ◌+◌, ◌*◌, ◌-◌, ◌/◌, ◌%◌, ◌++◌, ◌∷◌, [], ℕ, Bool, true, false, cond, List, length, take, drop, Option, Some, None, is_some, refl, sym, ap, ◌∙◌, subst, arith}
use Rattle.std.specs.Prelude.{◌&&◌, nat_lt, nat_eq, is_none}
use Rattle.std.proofs.Math.Nat.{mul_assoc, mul-mod_left}
use Rattle.std.proofs.lemmas.Bool.{ltb-true, ltb-false, lt-ltb, and_parts, eqb-true}
use Rattle.std.proofs.lemmas.List.{get_or-take, get_or-drop, length-take-le, length-drop, take-append-drop}
use Rattle.std.proofs.lemmas.Nat.{div-add-mod'}
use Rattle.flac_wave.specs.Chunks.{Leads, header_fault, seen_first, fault_at, is_data, is_format, after_chunk, chunk_len, is_unstated, data_size, data_len, data_fault, samples_fault, chunk_fault, content_fault}
use Rattle.flac_wave.specs.Format.{short_at, long_at, is_pcm, fields_fit, format_fault, format_of, IsInRange, row_of}
use Rattle.flac_wave.specs.Kept.{has_head, bits_after, bits_in, begins_file, are_file}
use Rattle.flac_wave.specs.Wave.{Parts, IsWave, is_head}
use Rattle.flac_wave.specs.inner.Pieces.{KnownInRange}
use Rattle.flac_wave.specs.declared.format.WaveFormat.{WaveFormat}
use Rattle.flac_wave.specs.declared.seen.Seen.{Seen}
use Rattle.flac_wave.specs.declared.why.WaveWhy.TheVariants as why
use Rattle.flac_wave.proofs.Files.{id_take, chunk_no_head, header_no_head, header_long, head_is, chunk_long, all_pieces}
use Rattle.flac_wave.proofs.NextPieces.{header_front}
use Rattle.flac_wave.proofs.Walks.{Walked}

-- ---- tests

past : {X : Type 0} (b : Bool) (x : X) (r : Option X) → cond b (Some x) r ≡ None → (b ≡ false) × (r ≡ None)
past true x r e = absurd cc
past false x r e = (refl, e)

inside : {X : Type 0} (b : Bool) (x : X) (r : Option X) → cond b r (Some x) ≡ None → (b ≡ true) × (r ≡ None)
inside true x r e = (refl, e)
inside false x r e = absurd cc

-- ---- a chunk that is accepted

record Accepted (s : Seen) (bytes : List ℕ) : Type 0 where
  whole : chunk_len bytes ≤ length bytes
  content : content_fault s bytes ≡ None

accepted : (s : Seen) (bytes : List ℕ) → fault_at s bytes ≡ None → is_data bytes ≡ false → Accepted s bytes
unfolding fault_at chunk_fault
accepted s bytes good other =
    let next = (past (nat_lt (length bytes) 8) _ _ good).1 in
    let chunk : chunk_fault s bytes ≡ None = ap (λ b. cond b (data_fault s bytes) (chunk_fault s bytes)) (sym other) ∙ next in
    let there = past (nat_lt (length bytes) (chunk_len bytes)) _ _ chunk in
    record { whole = ltb-false (length bytes) (chunk_len bytes) there.0; content = (past (nat_lt 16777211 (chunk_len bytes)) _ _ there.1).1 }

format_good : (s : Seen) (bytes : List ℕ) → is_format bytes ≡ true → content_fault s bytes ≡ None → format_fault bytes ≡ None
unfolding content_fault
format_good s bytes is good =
    (past (is_some s.format) why.RepeatedFormat (format_fault bytes) (ap (λ b. cond b (cond (is_some s.format) (Some why.RepeatedFormat) (format_fault bytes)) None) (sym is) ∙ good)).1

fields_in_range : (chunk : List ℕ) → fields_fit chunk ≡ true → IsInRange (format_of chunk)
unfolding fields_fit format_of
fields_in_range chunk e =
    let a = and_parts (nat_lt 0 (short_at 10 chunk)) _ e in
    let b = and_parts (nat_lt (short_at 10 chunk) 9) _ a.1 in
    let c = and_parts (nat_lt 0 (short_at 22 chunk)) _ b.1 in
    let d = and_parts (nat_lt (short_at 22 chunk) 33) _ c.1 in
    record {
      channels = ltb-true 0 (short_at 10 chunk) a.0;
      few = ltb-true (short_at 10 chunk) 9 b.0;
      bits = ltb-true 0 (short_at 22 chunk) c.0;
      narrow = ltb-true (short_at 22 chunk) 33 d.0;
    }

format_in_range : (chunk : List ℕ) → format_fault chunk ≡ None → (16 ≤ long_at 4 chunk) × IsInRange (format_of chunk)
unfolding format_fault
format_in_range chunk e =
    let a = past (nat_lt (long_at 4 chunk) 16) _ _ e in
    let b = inside (is_pcm chunk) _ _ a.1 in
    let c = inside (fields_fit chunk) why.FormatFields None b.1 in
    (ltb-false (long_at 4 chunk) 16 a.0, fields_in_range chunk c.0)

bits_of_format : (chunk : List ℕ) → (format_of chunk).bits ≡ short_at 22 chunk
unfolding format_of
bits_of_format chunk = refl

-- ---- what is known of the format

-- nothing, or a format in range, of these bits
abbrev Known : Option WaveFormat → (bits : ℕ) → Type 0
Known None bits = Unit {0}
Known (Some f) bits = IsInRange f × (bits ≡ f.bits)

format_take : (n : ℕ) (bytes : List ℕ) → 4 ≤ n → is_format (take n bytes) ≡ is_format bytes
format_take n bytes some = ap (λ k. nat_eq k 544501094) (id_take n bytes some)

short_take : (n : ℕ) (bytes : List ℕ) → 24 ≤ n → short_at 22 (take n bytes) ≡ short_at 22 bytes
short_take n bytes long =
    rw (
      get_or-drop 22 (take n bytes) 0 0,
      get_or-drop 22 (take n bytes) 1 0,
      get_or-drop 22 bytes 0 0,
      get_or-drop 22 bytes 1 0,
      get_or-take n bytes 22 0 (omega (arith, long)),
      get_or-take n bytes 23 0 (omega (arith, long)),
    ) refl

stated_bits : (bits : ℕ) (piece : List ℕ) → 24 ≤ length piece → is_format piece ≡ true → bits_after bits piece ≡ short_at 22 piece
stated_bits bits piece long is = ap (λ b. cond (b && is_format piece) (short_at 22 piece) bits) (lt-ltb 23 (length piece) (omega (arith, long))) ∙ ap (λ b. cond b (short_at 22 piece) bits) is

other_by : (long : Bool) (bits stated : ℕ) (is : Bool) → is ≡ false → cond (long && is) stated bits ≡ bits
other_by true bits stated is e = ap (λ b. cond b stated bits) e
other_by false bits stated is e = refl

known_by : (b : Bool) (s : Seen) (bytes : List ℕ) (bits : ℕ) → is_format bytes ≡ b → Accepted s bytes → Known s.format bits → Known (cond b (Some (format_of bytes)) s.format) (bits_after bits (take (chunk_len bytes) bytes))
known_by true s bytes bits is a k =
    let good = format_in_range bytes (format_good s bytes is a.content) in
    let n = chunk_len bytes in
    let long : 24 ≤ n = omega (arith, good.0) in
    let all : length (take n bytes) ≡ n = length-take-le n bytes a.whole in
    (good.1, stated_bits bits (take n bytes) (omega (arith, long, all)) (format_take n bytes (omega (arith, long)) ∙ is) ∙ (short_take n bytes long ∙ sym (bits_of_format bytes)))
known_by false s bytes bits is a k =
    let n = chunk_len bytes in
    subst (λ m. Known s.format m) (sym (other_by _ bits _ (is_format (take n bytes)) (format_take n bytes (omega arith) ∙ is))) k

known_after : (s : Seen) (bytes : List ℕ) (bits : ℕ) → fault_at s bytes ≡ None → is_data bytes ≡ false → Known s.format bits → Known (after_chunk s bytes).format (bits_after bits (take (chunk_len bytes) bytes))
unfolding after_chunk
known_after s bytes bits good other k = known_by (is_format bytes) s bytes bits refl (accepted s bytes good other) k

range_by : (b : Bool) (s : Seen) (bytes : List ℕ) → is_format bytes ≡ b → content_fault s bytes ≡ None → KnownInRange s.format → KnownInRange (cond b (Some (format_of bytes)) s.format)
range_by true s bytes is good k = (format_in_range bytes (format_good s bytes is good)).1
range_by false s bytes is good k = k

chunk_content : (s : Seen) (bytes : List ℕ) → chunk_fault s bytes ≡ None → content_fault s bytes ≡ None
unfolding chunk_fault
chunk_content s bytes good = (past (nat_lt 16777211 (chunk_len bytes)) _ _ (past (nat_lt (length bytes) (chunk_len bytes)) _ _ good).1).1

-- the format that is known after a chunk is in range
pub range_after : (s t : Seen) (bytes : List ℕ) → chunk_fault s bytes ≡ None → t ≡ after_chunk s bytes → KnownInRange s.format → KnownInRange t.format
unfolding after_chunk
range_after s t bytes good is k = subst (λ (u : Seen). KnownInRange u.format) (sym is) (range_by (is_format bytes) s bytes refl (chunk_content s bytes good) k)

pub range_known : (o : Option WaveFormat) (f : WaveFormat) → o ≡ Some f → KnownInRange o → IsInRange f
range_known o f is k = subst KnownInRange is k

-- what the chunks before the samples say
record Said (old new : Option WaveFormat) (bits : ℕ) (cs ps : List (List ℕ)) : Type 0 where
  last : ℕ
  known : Known new last
  head : has_head (cs ++ ps) ≡ has_head ps
  stated : bits_in bits (cs ++ ps) ≡ bits_in last ps

said : (s : Seen) (cs : List (List ℕ)) (bytes rest : List ℕ) (t : Seen) (bits : ℕ) (ps : List (List ℕ)) → Leads s cs bytes rest t → Known s.format bits → Said s.format t.format bits cs ps
said s [] bytes rest t bits ps h k = record { last = bits; known = subst (λ (u : Seen). Known u.format bits) h.1 k; head = refl; stated = refl }
said s (c ∷ cs) bytes rest t bits ps h k =
    let other : is_head c ≡ false = ap is_head h.2 ∙ chunk_no_head bytes h.1 in
    let next : Known (after_chunk s bytes).format (bits_after bits c) = subst (λ p. Known (after_chunk s bytes).format (bits_after bits p)) (sym h.2) (known_after s bytes bits h.0 h.1 k) in
    let more = said (after_chunk s bytes) cs (drop (chunk_len bytes) bytes) rest t (bits_after bits c) ps h.3 next in
    record {
      last = more.last;
      known = more.known;
      head = ap (λ b. cond b true (has_head (cs ++ ps))) other ∙ more.head;
      stated = ap (λ b. cond b bits (bits_in (bits_after bits c) (cs ++ ps))) other ∙ more.stated;
    }

known_first : (to_end : Bool) (bytes : List ℕ) → Known (seen_first to_end bytes).format 0
unfolding seen_first
known_first to_end bytes = tt

known_some : (o : Option WaveFormat) (f : WaveFormat) (bits : ℕ) → o ≡ Some f → Known o bits → IsInRange f × (bits ≡ f.bits)
known_some o f bits e k = subst (λ o. Known o bits) e k

-- the format that is known after some chunks
pub walked_range : (to_end : Bool) (bytes : List ℕ) (taken : List (List ℕ)) (rest : List ℕ) (seen : Seen) (count : ℕ) (f : WaveFormat) → Walked to_end bytes taken rest seen count → seen.format ≡ Some f → IsInRange f
walked_range to_end bytes taken rest seen count f w is =
    let k = said (seen_first to_end bytes) w.chunks (drop 12 bytes) rest seen 0 [] w.leads (known_first to_end bytes) in
    (known_some seen.format f k.last is k.known).0

-- ---- what the pieces of a file say, whatever comes after them

pub record Tells (w : Parts) (ps : List (List ℕ)) : Type 0 where
  pub range : IsInRange w.format
  pub head : has_head (w.pieces ++ ps) ≡ true
  pub bits : bits_in 0 (w.pieces ++ ps) ≡ w.format.bits
  pub file : are_file (w.pieces ++ ps) ≡ true

-- the header of a file is one alone
header_taken : (bytes : List ℕ) → header_fault bytes ≡ None → 12 ≤ length bytes → header_fault (take 12 bytes) ≡ None
header_taken bytes good long =
    sym (header_front (take 12 bytes) (drop 12 bytes) (λ short. absurd (let all = length-take-le 12 bytes long in omega (arith, short, all))))
    ∙ (ap header_fault (take-append-drop 12 bytes) ∙ good)

first_by : (n : ℕ) (b : Bool) (stated : ℕ) → n ≡ 12 → cond (nat_lt 23 n && b) stated 0 ≡ 0
first_by n b stated is = ap (λ k. cond (nat_lt 23 k && b) stated 0) is

pub wave_tells : {to_end : Bool} (bytes : List ℕ) (w : Parts) (ps : List (List ℕ)) → IsWave to_end bytes w → Tells w ps
wave_tells {to_end} bytes w ps i =
    let first = take 12 bytes in
    let head = take 8 i.rest in
    let long = header_long bytes i.header in
    let ends : is_head head ≡ true = head_is i.rest (chunk_long i.seen i.rest i.good) i.begun in
    let other : is_head first ≡ false = header_no_head bytes long in
    let none : bits_after 0 first ≡ 0 = first_by (length first) (is_format first) (short_at 22 first) (length-take-le 12 bytes long) in
    let k = said (seen_first to_end bytes) i.chunks (drop 12 bytes) i.rest i.seen 0 (head ∷ ps) i.leads (known_first to_end bytes) in
    let known = known_some i.seen.format w.format k.last i.format k.known in
    let all = w.pieces ++ ps in
    let here : has_head all ≡ true = ap has_head (all_pieces bytes w i ps) ∙ (ap (λ b. cond b true (has_head (i.chunks ++ (head ∷ ps)))) other
    ∙ (k.head ∙ ap (λ b. cond b true (has_head ps)) ends)) in
    let bits : bits_in 0 all ≡ w.format.bits = ap (bits_in 0) (all_pieces bytes w i ps) ∙ (ap (λ b. cond b 0 (bits_in (bits_after 0 first) (i.chunks ++ (head ∷ ps)))) other
    ∙ (ap (λ n. bits_in n (i.chunks ++ (head ∷ ps))) none ∙ (k.stated ∙ (ap (λ b. cond b k.last (bits_in (bits_after k.last head) ps)) ends ∙ known.1)))) in
    let begins : begins_file all ≡ true = ap begins_file (all_pieces bytes w i ps) ∙ ap is_none (header_taken bytes i.header long) in
    record {
      range = known.0;
      head = here;
      bits = bits;
      file = ap (λ b. b && (begins_file all && nat_lt 0 (bits_in 0 all))) here
          ∙ (ap (λ b. b && nat_lt 0 (bits_in 0 all)) begins ∙ (ap (nat_lt 0) bits ∙ lt-ltb 0 w.format.bits known.0.bits));
    }

-- ---- its samples are whole

data_good : (s : Seen) (bytes : List ℕ) → fault_at s bytes ≡ None → is_data bytes ≡ true → data_fault s bytes ≡ None
unfolding fault_at
data_good s bytes good here = ap (λ b. cond b (data_fault s bytes) (chunk_fault s bytes)) (sym here) ∙ (past (nat_lt (length bytes) 8) _ _ good).1

samples_good : (s : Seen) (f : WaveFormat) (bytes : List ℕ) → s.format ≡ Some f → data_fault s bytes ≡ None → samples_fault f (data_len s bytes) (length bytes - 8) ≡ None
unfolding data_fault
samples_good s f bytes is good =
    (past (is_unstated (data_size s bytes) (drop 8 bytes)) _ _
    (ap (λ (o : Option WaveFormat). elim o [
      | None ↦ Some why.NoFormat
      | Some g ↦ cond (is_unstated (data_size s bytes) (drop 8 bytes)) (Some why.DataUnstated) (samples_fault g (data_len s bytes) (length bytes - 8))
    ]) (sym is) ∙ good)).1

all_there : (f : WaveFormat) (size room : ℕ) → samples_fault f size room ≡ None → (size ≤ room) × (size % row_of f ≡ 0)
unfolding samples_fault
all_there f size room good =
    let a = past (nat_lt room size) _ _ good in
    let b = inside (nat_lt 0 (row_of f) && nat_eq (size % row_of f) 0) _ _ a.1 in
    (ltb-false room size a.0, eqb-true (size % row_of f) 0 (and_parts (nat_lt 0 (row_of f)) _ b.0).1)

-- each inter-channel sample has whole samples
each_whole : (n channels extensible : ℕ) → n % (channels * extensible) ≡ 0 → n % extensible ≡ 0
each_whole n channels extensible none =
    let q = n / (channels * extensible) in
    let e : n ≡ q * (channels * extensible) = let d = div-add-mod' n (channels * extensible) in omega (arith, d, none) in
    ap (λ k. k % extensible) (e ∙ sym (mul_assoc q channels extensible)) ∙ mul-mod_left (q * channels) extensible

pub wave_whole : {to_end : Bool} (bytes : List ℕ) (w : Parts) → IsWave to_end bytes w → length w.samples % ((w.format.bits + 7) / 8) ≡ 0
wave_whole bytes w i =
    let n = data_len i.seen i.rest in
    let k = all_there w.format n (length i.rest - 8) (samples_good i.seen w.format i.rest i.format (data_good i.seen i.rest i.good i.begun)) in
    let long : length w.samples ≡ n = ap length i.samples ∙ length-take-le n (drop 8 i.rest) (omega (arith, k.0, length-drop 8 i.rest)) in
    ap (λ m. m % ((w.format.bits + 7) / 8)) long ∙ each_whole n w.format.channels ((w.format.bits + 7) / 8) k.1
