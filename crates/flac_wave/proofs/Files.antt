-- Files and their parts.
use Rattle.std.proofs.Common.{◌≡◌, ◌≤◌, ◌<◌, ◌%◌, ◌++◌, ◌∷◌, [], ℕ, zero, suc, Bool, true, false, cond, List, length, take, drop, min, Option, Some, None, unwrap_or, refl, sym, ap, ◌∙◌, append_assoc, arith}
use Rattle.std.specs.Prelude.{◌&&◌, nat_lt, nat_eq}
use Rattle.std.proofs.lemmas.Bool.{false≢true, ltb-true, ltb-false, eqb-true, and_parts}
use Rattle.std.proofs.lemmas.List.{take-append-drop, get_or-take, length-take-le}
use Rattle.flac_wave.specs.Chunks.{Leads, seen_first, fault_at, is_data, id_of, after_chunk, chunk_len, header_fault, data_len}
use Rattle.flac_wave.specs.Cuts.{AreCuts, piece_len}
use Rattle.flac_wave.specs.Wave.{Parts, IsWave, IsNoWave, is_head, front_of, pieces_after, all_of, begins_empty, pad_of, restored, begins_zero, ArePiecesBy, ArePiecesAfter}
use Rattle.flac_wave.specs.declared.seen.Seen.{Seen}
use Rattle.flac_wave.specs.declared.format.WaveFormat.{WaveFormat}
use Rattle.flac_wave.specs.declared.why.WaveWhy.{WaveWhy}

-- ---- tests

none_true : {X : Type 0} (b : Bool) (x : X) → cond b None (Some x) ≡ None → b ≡ true
none_true true x e = refl
none_true false x e = absurd cc

none_false : {X : Type 0} (b : Bool) (x : X) (r : Option X) → cond b (Some x) r ≡ None → b ≡ false
none_false true x r e = absurd cc
none_false false x r e = refl

-- a file has a header
pub header_long : (bytes : List ℕ) → header_fault bytes ≡ None → 12 ≤ length bytes
unfolding header_fault
header_long bytes e = omega (arith, ltb-true 11 (length bytes) (and_parts (nat_lt 11 (length bytes)) _ (none_true _ _ e)).0)

-- a chunk and the samples have a header
pub chunk_long : (s : Seen) (bytes : List ℕ) → fault_at s bytes ≡ None → 8 ≤ length bytes
unfolding fault_at
chunk_long s bytes e = ltb-false (length bytes) 8 (none_false _ _ _ e)

-- ---- identifiers

pub id_take : (n : ℕ) (bytes : List ℕ) → 4 ≤ n → id_of (take n bytes) ≡ id_of bytes
id_take n bytes some = rw (get_or-take n bytes 0 0 (omega (arith, some)), get_or-take n bytes 1 0 (omega (arith, some)), get_or-take n bytes 2 0 (omega (arith, some)), get_or-take n bytes 3 0 (omega (arith, some))) refl

data_take : (n : ℕ) (bytes : List ℕ) → 4 ≤ n → is_data (take n bytes) ≡ is_data bytes
data_take n bytes some = ap (λ k. nat_eq k 1635017060) (id_take n bytes some)

and_false : (a b : Bool) → b ≡ false → (a && b) ≡ false
and_false true b e = e
and_false false b e = refl

false_and : (a b : Bool) → a ≡ false → (a && b) ≡ false
false_and a b e = rw e refl

-- a chunk before the samples is not their header
pub chunk_no_head : (bytes : List ℕ) → is_data bytes ≡ false → is_head (take (chunk_len bytes) bytes) ≡ false
chunk_no_head bytes other = and_false (nat_eq (length (take (chunk_len bytes) bytes)) 8) (is_data (take (chunk_len bytes) bytes)) (data_take (chunk_len bytes) bytes (omega arith) ∙ other)

-- ---- joined again

pub leads_joined : (s : Seen) (cs : List (List ℕ)) (bytes rest : List ℕ) (t : Seen) → Leads s cs bytes rest t → all_of cs ++ rest ≡ bytes
leads_joined s [] bytes rest t h = sym h.0
leads_joined s (c ∷ cs) bytes rest t h =
    append_assoc c (all_of cs) rest ∙ (ap (λ l. c ++ l) (leads_joined (after_chunk s bytes) cs (drop (chunk_len bytes) bytes) rest t h.3)
    ∙ (ap (λ l. l ++ drop (chunk_len bytes) bytes) h.2 ∙ take-append-drop (chunk_len bytes) bytes))

pub leads_front : (s : Seen) (cs : List (List ℕ)) (bytes rest : List ℕ) (t : Seen) (ps : List (List ℕ)) → Leads s cs bytes rest t → front_of (cs ++ ps) ≡ all_of cs ++ front_of ps
leads_front s [] bytes rest t ps h = refl
leads_front s (c ∷ cs) bytes rest t ps h =
    ap (λ b. cond b c (c ++ front_of (cs ++ ps))) (ap is_head h.2 ∙ chunk_no_head bytes h.1)
    ∙ (ap (λ l. c ++ l) (leads_front (after_chunk s bytes) cs (drop (chunk_len bytes) bytes) rest t ps h.3) ∙ sym (append_assoc c (all_of cs) (front_of ps)))

pub leads_after : (s : Seen) (cs : List (List ℕ)) (bytes rest : List ℕ) (t : Seen) (ps : List (List ℕ)) → Leads s cs bytes rest t → pieces_after (cs ++ ps) ≡ pieces_after ps
leads_after s [] bytes rest t ps h = refl
leads_after s (c ∷ cs) bytes rest t ps h =
    ap (λ b. cond b (cs ++ ps) (pieces_after (cs ++ ps))) (ap is_head h.2 ∙ chunk_no_head bytes h.1)
    ∙ leads_after (after_chunk s bytes) cs (drop (chunk_len bytes) bytes) rest t ps h.3

-- ---- cuts

pub cuts_joined : (ps : List (List ℕ)) (bytes : List ℕ) → AreCuts ps bytes → all_of ps ≡ bytes
cuts_joined [] bytes h = sym h
cuts_joined (p ∷ ps) bytes h =
    ap (λ l. p ++ l) (cuts_joined ps (drop (piece_len bytes) bytes) h.2)
    ∙ (ap (λ l. l ++ drop (piece_len bytes) bytes) h.1 ∙ take-append-drop (piece_len bytes) bytes)

cond_some : (b : Bool) (n k : ℕ) → 0 < k → 8 ≤ n → 0 < cond b n (min 16777211 k)
cond_some true n k some long = omega (arith, long)
cond_some false n k some long = omega (arith, some)

piece_some : (bytes : List ℕ) → 0 < length bytes → 0 < piece_len bytes
unfolding piece_len
piece_some bytes some = cond_some _ (chunk_len bytes) (length bytes) some (omega arith)

take_some : (n : ℕ) (bytes : List ℕ) (ps : List (List ℕ)) → 0 < n → 0 < length bytes → begins_empty (take n bytes ∷ ps) ≡ false
take_some n [] ps more some = absurd (omega (arith, some))
take_some zero (b ∷ bytes) ps more some = absurd (omega (arith, more))
take_some (suc n) (b ∷ bytes) ps more some = refl

-- cuts of bytes begin with a byte
pub cuts_some : (ps : List (List ℕ)) (bytes : List ℕ) → AreCuts ps bytes → begins_empty ps ≡ false
cuts_some [] bytes h = refl
cuts_some (p ∷ ps) bytes h = ap (λ q. begins_empty (q ∷ ps)) h.1 ∙ take_some (piece_len bytes) bytes ps (piece_some bytes h.0) h.0

-- ---- what follows the samples

zero_first : (back : List ℕ) → begins_zero back ≡ true → 0 ∷ drop 1 back ≡ back
zero_first [] e = absurd cc
zero_first (b ∷ bs) e = ap (λ n. n ∷ bs) (sym (eqb-true b 0 e))

-- the zero, if it is to be there, and the pieces are what follows the samples
back_by : (even first : Bool) (samples back : List ℕ) (ps : List (List ℕ)) → nat_eq (length samples % 2) 0 ≡ even → begins_zero back ≡ first → ArePiecesBy even first back ps → pad_of samples ps ++ all_of ps ≡ back
back_by true first samples back ps e z h = ap (λ b. cond b [] (cond (begins_empty ps) [] (0 ∷ [])) ++ all_of ps) e ∙ cuts_joined ps back h
back_by false true samples back ps e z h =
    ap (λ b. cond b [] (cond (begins_empty ps) [] (0 ∷ [])) ++ all_of ps) e ∙ (ap (λ b. cond b [] (0 ∷ []) ++ all_of ps) (cuts_some ps (drop 1 back) h)
    ∙ (ap (λ l. 0 ∷ l) (cuts_joined ps (drop 1 back) h) ∙ zero_first back z))
back_by false false samples back ps e z h =
    ap (λ b. cond b [] (cond (begins_empty ps) [] (0 ∷ [])) ++ all_of ps) e ∙ (ap (λ qs. cond (begins_empty qs) [] (0 ∷ []) ++ all_of qs) h.1 ∙ cuts_joined h.0 back h.2)

-- ---- the whole file

-- the pieces of a file, and then others
pub all_pieces : {to_end : Bool} (bytes : List ℕ) (w : Parts) (i : IsWave to_end bytes w) (ps : List (List ℕ)) → w.pieces ++ ps ≡ take 12 bytes ∷ (i.chunks ++ (take 8 i.rest ∷ ps))
all_pieces bytes w i ps = ap (λ l. l ++ ps) i.pieces ∙ ap (λ l. take 12 bytes ∷ l) (append_assoc i.chunks (take 8 i.rest ∷ []) ps)

pub header_no_head : (bytes : List ℕ) → 12 ≤ length bytes → is_head (take 12 bytes) ≡ false
header_no_head bytes long = false_and _ _ (ap (λ n. nat_eq n 8) (length-take-le 12 bytes long))

pub head_is : (rest : List ℕ) → 8 ≤ length rest → is_data rest ≡ true → is_head (take 8 rest) ≡ true
head_is rest long begun = rw (length-take-le 8 rest long) (data_take 8 rest (omega arith) ∙ begun)

pub front_whole : {to_end : Bool} (bytes : List ℕ) (w : Parts) (i : IsWave to_end bytes w) (ps : List (List ℕ)) → front_of (w.pieces ++ ps) ≡ take 12 bytes ++ (all_of i.chunks ++ take 8 i.rest)
front_whole {to_end} bytes w i ps =
    let ends = head_is i.rest (chunk_long i.seen i.rest i.good) i.begun in
    ap front_of (all_pieces bytes w i ps) ∙ (ap (λ b. cond b (take 12 bytes) (take 12 bytes ++ front_of (i.chunks ++ (take 8 i.rest ∷ ps)))) (header_no_head bytes (header_long bytes i.header))
    ∙ ap (λ l. take 12 bytes ++ l) (leads_front (seen_first to_end bytes) i.chunks (drop 12 bytes) i.rest i.seen (take 8 i.rest ∷ ps) i.leads
    ∙ ap (λ b. all_of i.chunks ++ cond b (take 8 i.rest) (take 8 i.rest ++ front_of ps)) ends))

pub after_whole : {to_end : Bool} (bytes : List ℕ) (w : Parts) (i : IsWave to_end bytes w) (ps : List (List ℕ)) → pieces_after (w.pieces ++ ps) ≡ ps
after_whole {to_end} bytes w i ps =
    let ends = head_is i.rest (chunk_long i.seen i.rest i.good) i.begun in
    ap pieces_after (all_pieces bytes w i ps) ∙ (ap (λ b. cond b (i.chunks ++ (take 8 i.rest ∷ ps)) (pieces_after (i.chunks ++ (take 8 i.rest ∷ ps)))) (header_no_head bytes (header_long bytes i.header))
    ∙ (leads_after (seen_first to_end bytes) i.chunks (drop 12 bytes) i.rest i.seen (take 8 i.rest ∷ ps) i.leads
    ∙ ap (λ b. cond b ps (pieces_after ps)) ends))

-- the parts of a file, joined
pub parts_whole : {to_end : Bool} (bytes : List ℕ) (w : Parts) (i : IsWave to_end bytes w) → (take 12 bytes ++ (all_of i.chunks ++ take 8 i.rest)) ++ (w.samples ++ w.back) ≡ bytes
parts_whole {to_end} bytes w i =
    let n = data_len i.seen i.rest in
    ap (λ l. (take 12 bytes ++ (all_of i.chunks ++ take 8 i.rest)) ++ l) (ap (λ l. l ++ w.back) i.samples ∙ (ap (λ l. take n (drop 8 i.rest) ++ l) i.back ∙ take-append-drop n (drop 8 i.rest)))
    ∙ (append_assoc (take 12 bytes) (all_of i.chunks ++ take 8 i.rest) (drop 8 i.rest)
    ∙ (ap (λ l. take 12 bytes ++ l) (append_assoc (all_of i.chunks) (take 8 i.rest) (drop 8 i.rest) ∙ (ap (λ l. all_of i.chunks ++ l) (take-append-drop 8 i.rest)
    ∙ leads_joined (seen_first to_end bytes) i.chunks (drop 12 bytes) i.rest i.seen i.leads))
    ∙ take-append-drop 12 bytes))

-- a file comes back
pub comes_back : {to_end : Bool} (bytes : List ℕ) (w : Parts) (ps : List (List ℕ)) → IsWave to_end bytes w → ArePiecesAfter w.samples w.back ps → restored (w.pieces ++ ps) w.samples ≡ bytes
comes_back bytes w ps i h =
    ap (λ l. l ++ (w.samples ++ (pad_of w.samples (pieces_after (w.pieces ++ ps)) ++ all_of (pieces_after (w.pieces ++ ps))))) (front_whole bytes w i ps)
    ∙ (ap (λ qs. (take 12 bytes ++ (all_of i.chunks ++ take 8 i.rest)) ++ (w.samples ++ (pad_of w.samples qs ++ all_of qs))) (after_whole bytes w i ps)
    ∙ (ap (λ l. (take 12 bytes ++ (all_of i.chunks ++ take 8 i.rest)) ++ (w.samples ++ l)) (back_by _ _ w.samples w.back ps refl refl h)
    ∙ parts_whole bytes w i))

-- ---- only one reading

-- the chunks up to a place that ends them are determined
pub leads_one : (s : Seen) (cs ds : List (List ℕ)) (bytes q r : List ℕ) (t u : Seen) → Leads s cs bytes q t → Leads s ds bytes r u
    → (fault_at t q ≡ None → is_data q ≡ true) → (fault_at u r ≡ None → is_data r ≡ true) → (cs ≡ ds) × (q ≡ r) × (t ≡ u)
leads_one s [] [] bytes q r t u h k ends stops = (refl, sym h.0 ∙ k.0, sym h.1 ∙ k.1)
leads_one s (c ∷ cs) [] bytes q r t u h k ends stops =
    absurd (false≢true (sym h.1 ∙ (ap is_data k.0 ∙ stops (ap (λ x. fault_at x r) (sym k.1) ∙ (ap (λ l. fault_at s l) (sym k.0) ∙ h.0)))))
leads_one s [] (d ∷ ds) bytes q r t u h k ends stops =
    absurd (false≢true (sym k.1 ∙ (ap is_data h.0 ∙ ends (ap (λ x. fault_at x q) (sym h.1) ∙ (ap (λ l. fault_at s l) (sym h.0) ∙ k.0)))))
leads_one s (c ∷ cs) (d ∷ ds) bytes q r t u h k ends stops =
    let more = leads_one (after_chunk s bytes) cs ds (drop (chunk_len bytes) bytes) q r t u h.3 k.3 ends stops in
    (ap (λ x. x ∷ cs) (h.2 ∙ sym k.2) ∙ ap (λ l. d ∷ l) more.0, more.1, more.2)

some_inj : {X : Type 0} (d x y : X) → Some x ≡ Some y → x ≡ y
some_inj {X} d x y e = ap (λ (o : Option X). unwrap_or o d) e

some_no : {X Y : Type 0} (x : X) → Some x ≡ None → Y
some_no x e = absurd cc

parts_same : (v w : Parts) → v.format ≡ w.format → v.pieces ≡ w.pieces → v.samples ≡ w.samples → v.back ≡ w.back → v ≡ w
parts_same v w f p a b =
    ap (λ (x : WaveFormat). record { format = x; pieces = v.pieces; samples = v.samples; back = v.back }) f
    ∙ (ap (λ (x : List (List ℕ)). record { format = w.format; pieces = x; samples = v.samples; back = v.back }) p
    ∙ (ap (λ (x : List ℕ). record { format = w.format; pieces = w.pieces; samples = x; back = v.back }) a
    ∙ ap (λ (x : List ℕ). record { format = w.format; pieces = w.pieces; samples = w.samples; back = x }) b))

-- bytes are one file
pub wave_one : (to_end : Bool) (bytes : List ℕ) (v w : Parts) → IsWave to_end bytes v → IsWave to_end bytes w → v ≡ w
wave_one to_end bytes v w i j =
    let e = leads_one (seen_first to_end bytes) i.chunks j.chunks (drop 12 bytes) i.rest j.rest i.seen j.seen i.leads j.leads (λ _. i.begun) (λ _. j.begun) in
    let room : (x y : List ℕ) (s t : Seen) → x ≡ y → s ≡ t → data_len s x ≡ data_len t y = λ x y s t p q. ap (λ l. data_len s l) p ∙ ap (λ u. data_len u y) q in
    let n = room i.rest j.rest i.seen j.seen e.1 e.2 in
    parts_same v w (some_inj v.format v.format w.format (sym i.format ∙ (ap (λ (s : Seen). s.format) e.2 ∙ j.format)))
    (i.pieces ∙ (ap (λ cs. (take 12 bytes ∷ cs) ++ take 8 i.rest ∷ []) e.0 ∙ (ap (λ r. (take 12 bytes ∷ j.chunks) ++ take 8 r ∷ []) e.1 ∙ sym j.pieces)))
    (i.samples ∙ (ap (λ k. take k (drop 8 i.rest)) n ∙ (ap (λ r. take (data_len j.seen j.rest) (drop 8 r)) e.1 ∙ sym j.samples)))
    (i.back ∙ (ap (λ k. drop k (drop 8 i.rest)) n ∙ (ap (λ r. drop (data_len j.seen j.rest) (drop 8 r)) e.1 ∙ sym j.back)))

-- bytes that are a file are not refused
pub wave_once : (to_end : Bool) (bytes : List ℕ) (w : Parts) (at : Option ℕ) (why : WaveWhy) → IsWave to_end bytes w → IsNoWave to_end bytes at why → ⊥
wave_once to_end bytes w None why i no_wave = some_no why (sym no_wave ∙ i.header)
wave_once to_end bytes w (Some count) why i k =
    let e = leads_one (seen_first to_end bytes) i.chunks k.1 (drop 12 bytes) i.rest k.2 i.seen k.3 i.leads k.5 (λ _. i.begun) (λ none. some_no why (sym k.6 ∙ none)) in
    some_no why (sym k.6 ∙ (ap (λ r. fault_at k.3 r) (sym e.1) ∙ (ap (λ s. fault_at s i.rest) (sym e.2) ∙ i.good)))

-- bytes are refused in one way
pub no_wave_one : (to_end : Bool) (bytes : List ℕ) (at by : Option ℕ) (why other : WaveWhy) → IsNoWave to_end bytes at why → IsNoWave to_end bytes by other → (at ≡ by) × (why ≡ other)
no_wave_one to_end bytes None None why other h k = (refl, some_inj why why other (sym h ∙ k))
no_wave_one to_end bytes None (Some count) why other h k = some_no why (sym h ∙ k.0)
no_wave_one to_end bytes (Some count) None why other h k = some_no other (sym k ∙ h.0)
no_wave_one to_end bytes (Some m) (Some n) why other h k =
    let e = leads_one (seen_first to_end bytes) h.1 k.1 (drop 12 bytes) h.2 k.2 h.3 k.3 h.5 k.5 (λ none. some_no why (sym h.6 ∙ none)) (λ none. some_no other (sym k.6 ∙ none)) in
    (ap Some (sym h.4 ∙ (ap length e.0 ∙ k.4)), some_inj why why other (sym h.6 ∙ (ap (λ r. fault_at h.3 r) e.1 ∙ (ap (λ s. fault_at s k.2) e.2 ∙ k.6))))
