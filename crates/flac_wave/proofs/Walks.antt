-- Taking a file apart, chunk by chunk.
use Rattle.std.proofs.Common.{◌≡◌, ◌+◌, ◌++◌, ◌∷◌, [], ℕ, List, Bool, length, take, drop, refl, ap, ◌∙◌, false, None, length-append}
use Rattle.flac_wave.specs.Chunks.{Leads, seen_first, fault_at, is_data, after_chunk, chunk_len}
use Rattle.flac_wave.specs.declared.seen.Seen.{Seen}

-- one chunk more
pub leads_more : (s : Seen) (cs : List (List ℕ)) (bytes rest : List ℕ) (t : Seen) → Leads s cs bytes rest t → fault_at t rest ≡ None → is_data rest ≡ false → (c : List ℕ) → c ≡ take (chunk_len rest) rest → Leads s (cs ++ c ∷ []) bytes (drop (chunk_len rest) rest) (after_chunk t rest)
leads_more s [] bytes rest t h good other c is = rw (h.0, h.1) (good, other, is, (refl, refl))
leads_more s (d ∷ cs) bytes rest t h good other c is = (h.0, h.1, h.2, leads_more (after_chunk s bytes) cs (drop (chunk_len bytes) bytes) rest t h.3 good other c is)

-- these pieces were taken off: the header and `count` chunks
pub record Walked (to_end : Bool) (bytes : List ℕ) (taken : List (List ℕ)) (rest : List ℕ) (seen : Seen) (count : ℕ) : Type 0 where
  pub chunks : List (List ℕ)
  pub pieces : taken ≡ take 12 bytes ∷ chunks
  pub many : length chunks ≡ count
  pub leads : Leads (seen_first to_end bytes) chunks (drop 12 bytes) rest seen

pub walked_first : (to_end : Bool) (bytes : List ℕ) → Walked to_end bytes (take 12 bytes ∷ []) (drop 12 bytes) (seen_first to_end bytes) 0
walked_first to_end bytes = record { chunks = []; pieces = refl; many = refl; leads = (refl, refl) }

pub walked_next : (to_end : Bool) (bytes : List ℕ) (taken new : List (List ℕ)) (rest more c : List ℕ) (seen : Seen) (t : Seen) (count : ℕ) → Walked to_end bytes taken rest seen count
    → fault_at seen rest ≡ None → is_data rest ≡ false → t ≡ after_chunk seen rest → c ≡ take (chunk_len rest) rest → more ≡ drop (chunk_len rest) rest → new ≡ taken ++ c ∷ [] → Walked to_end bytes new more t (count + 1)
walked_next to_end bytes taken new rest more c seen t count w good other known is left push = record {
  chunks = w.chunks ++ c ∷ [];
  pieces = push ∙ ap (λ l. l ++ c ∷ []) w.pieces;
  many = length-append w.chunks (c ∷ []) ∙ ap (λ n. n + 1) w.many;
  leads = rw (left, known) (leads_more (seen_first to_end bytes) w.chunks (drop 12 bytes) rest seen w.leads good other c is);
}
