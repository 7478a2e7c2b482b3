-- What a writer of a WAV file has written.
use Rattle.std.proofs.Common.{◌≡◌, ◌≤◌, ◌<◌, ◌+◌, ◌-◌, ◌/◌, ◌%◌, ℕ, zero, suc, Bool, true, false, cond, List, [], ◌∷◌, ◌++◌, length, take, drop, refl, ap, sym, ◌∙◌, subst, append_assoc, append-nil, arith, length-append}
use Rattle.std.specs.Prelude.{nat_lt, nat_eq, ◌&&◌, Option, Some, None, is_none}
use Rattle.std.proofs.Math.Nat.{mod-lt}
use Rattle.std.proofs.lemmas.Bool.{false≢true, ltb-true, ltb-false, eqb-true, eqb-false, and_parts}
use Rattle.std.proofs.lemmas.List.{take_all, take-append-le, drop-append-le}
use Rattle.flac_bits.specs.Handing.{TakesAll}
use Rattle.flac_meta.specs.declared.block.Block.{Block}
use Rattle.flac_meta.specs.declared.comments.Comments.{Comments}
use Rattle.flac_meta.specs.declared.block.Block.TheVariants as block_of
use Rattle.flac_native.specs.Stream.{Piece, marked, block, framed}
use Rattle.flac_native.specs.Item.{Item, metadata, frame}
use Rattle.flac_native.specs.Decoding.{taken}
use Rattle.flac_native.specs.Message.{sample_width}
use Rattle.flac_native.specs.Samples.{samples_from, frame_bytes, depth_after}
use Rattle.flac_wave.specs.Kept.{has_head, bits_after, bits_in, begins_file, are_file}
use Rattle.flac_wave.specs.Plain.{plain_format, plain_front, plain_back, plain_pieces}
use Rattle.flac_wave.specs.Wave.{is_head, front_of, pieces_after, all_of, restored}
use Rattle.flac_wave.specs.declared.format.WaveFormat.{WaveFormat}
use Rattle.flac_wave.proofs.PlainFiles.{plain_made}
use Rattle.flac_cli.specs.Waves.{is_riff, file_samples, piece_of, pieces_in, depth_of, plain_after, plain_of, no_plain, Plain, plain_for, piece_fault, kept_fault, wave_width_by, wave_width_in, file_pieces, wave_in}
use Rattle.flac_cli.specs.declared.held_wave.KeptFault.TheVariants as kept
use Rattle.flac_cli.specs.Speakers.{mask_in}
use Rattle.flac_cli.specs.inner.Waving.{Held, Holds, nothing_held, with_piece, with_plain, with_block, with_speakers, with_samples, with_frame, held_after, held_fault, held_wave_width, frame_text, writes, is_kept, front_pieces, back_pieces, front_left, adds, end_pad, ending}
use Rattle.flac_cli.proofs.Waved.{joined_push, Whole, whole_append, rows_whole, room_holds, file_append, file_none}

-- ---- runs

abbrev pub after_parts : Held → List Piece → Held
after_parts s [] = s
after_parts s (marked ∷ xs) = after_parts s xs
after_parts s (block last b ∷ xs) = after_parts (held_after s (metadata b)) xs
after_parts s (framed f ∷ xs) = after_parts (held_after s (frame f)) xs

abbrev pub added : Held → List Piece → List ℕ
added s [] = []
added s (marked ∷ xs) = added s xs
added s (block last b ∷ xs) = added (held_after s (metadata b)) xs
added s (framed f ∷ xs) = adds s (frame f) ++ added (held_after s (frame f)) xs

-- no block comes after a frame
abbrev pub Ordered : (begun : Bool) → List Piece → Type 0
Ordered begun [] = Unit {0}
Ordered begun (marked ∷ xs) = Ordered begun xs
Ordered begun (block last b ∷ xs) = (begun ≡ false) × Ordered begun xs
Ordered begun (framed f ∷ xs) = Ordered true xs

module _ {S : Type 0} (is_known : S → Bool) (bytes : S → List ℕ) (view : S → Held) where
  -- what such a sink makes of an item
  abbrev pub Takes : S → Item → S → Type 0
  Takes s x t = record {
    held : view t ≡ held_after (view s) x;
    known : is_known s ≡ true → is_known t ≡ true;
    sent : is_known s ≡ true → bytes t ≡ bytes s ++ adds (view s) x;
  }

  pub all_held : (old : S) (xs : List Piece) (new : S) → TakesAll (taken Takes) old xs new → view new ≡ after_parts (view old) xs
  all_held old [] new h = ap view (sym h)
  all_held old (marked ∷ xs) new h = all_held h.0 xs new h.2 ∙ ap (λ s. after_parts (view s) xs) (sym h.1)
  all_held old (block last b ∷ xs) new h = let k = h.1 in all_held h.0 xs new h.2 ∙ ap (λ s. after_parts s xs) k.held
  all_held old (framed f ∷ xs) new h = let k = h.1 in all_held h.0 xs new h.2 ∙ ap (λ s. after_parts s xs) k.held

  pub all_known : (old : S) (xs : List Piece) (new : S) → TakesAll (taken Takes) old xs new → is_known old ≡ true → is_known new ≡ true
  all_known old [] new h t = ap is_known (sym h) ∙ t
  all_known old (marked ∷ xs) new h t = all_known h.0 xs new h.2 (ap is_known (sym h.1) ∙ t)
  all_known old (block last b ∷ xs) new h t = let k = h.1 in all_known h.0 xs new h.2 (k.known t)
  all_known old (framed f ∷ xs) new h t = let k = h.1 in all_known h.0 xs new h.2 (k.known t)

  pub all_added : (old : S) (xs : List Piece) (new : S) → TakesAll (taken Takes) old xs new → is_known old ≡ true → bytes new ≡ bytes old ++ added (view old) xs
  all_added old [] new h t = ap bytes (sym h) ∙ sym (append-nil (bytes old))
  all_added old (marked ∷ xs) new h t = all_added h.0 xs new h.2 (ap is_known (sym h.1) ∙ t) ∙ ap (λ s. bytes s ++ added (view s) xs) (sym h.1)
  all_added old (block last b ∷ xs) new h t =
      let k = h.1 in
      all_added h.0 xs new h.2 (k.known t) ∙ (ap (λ l. l ++ added (view h.0) xs) (k.sent t ∙ append-nil (bytes old)) ∙ ap (λ s. bytes old ++ added s xs) k.held)
  all_added old (framed f ∷ xs) new h t =
      let k = h.1 in
      all_added h.0 xs new h.2 (k.known t) ∙ (ap (λ l. l ++ added (view h.0) xs) (k.sent t) ∙ (append_assoc (bytes old) (adds (view old) (frame f)) (added (view h.0) xs) ∙ ap (λ s. bytes old ++ (adds (view old) (frame f) ++ added s xs)) k.held))

-- ---- a plain file

-- these pieces, of which so many come before the samples, make a file of any samples
abbrev pub MakesFile : (made : List (List ℕ)) (cut : ℕ) → Type 0
MakesFile made cut =
    (samples : List ℕ) (odd : ℕ) → odd ≡ length samples % 2 → all_of (take cut made) ++ (samples ++ (end_pad odd (drop cut made) ++ all_of (drop cut made))) ≡ restored made samples

none_makes : MakesFile [] 0
none_makes samples odd is = ap (λ o. samples ++ (end_pad o [] ++ [])) is

split_at : (xs ys : List (List ℕ)) (n : ℕ) → n ≡ length xs → (take n (xs ++ ys) ≡ xs) × (drop n (xs ++ ys) ≡ ys)
split_at [] ys zero is = (refl, refl)
split_at [] ys (suc n) is = absurd (omega (arith, is))
split_at (x ∷ xs) ys zero is = absurd (omega (arith, is))
split_at (x ∷ xs) ys (suc n) is = let k = split_at xs ys n (omega (arith, is)) in (ap (λ l. x ∷ l) k.0, k.1)

-- the last piece of a file of unknown length has no byte
none_after_samples : (b : Bool) → all_of (cond b ([] ∷ []) []) ≡ []
none_after_samples true = refl
none_after_samples false = refl

one_after : (b : Bool) → length {A = List ℕ} (cond b ([] ∷ []) []) ≡ cond b 1 0
one_after true = refl
one_after false = refl

plain_cut : (n m k : ℕ) → m ≡ k → n + m - k ≡ n
plain_cut n m k e = omega (arith, e)

plain_makes : (f : WaveFormat) (total : ℕ) → MakesFile (plain_pieces f total) (length (plain_pieces f total) - cond (nat_eq total 0) 1 0)
plain_makes f total samples odd is =
    let front = plain_front f total in
    let back = plain_back total in
    let n = length (front ++ back) - cond (nat_eq total 0) 1 0 in
    let e : n ≡ length front = ap (λ l. l - cond (nat_eq total 0) 1 0) (length-append front back) ∙ plain_cut (length front) (length back) (cond (nat_eq total 0) 1 0) (one_after (nat_eq total 0)) in
    let k = split_at front back n e in
    ap (λ qs. all_of qs ++ (samples ++ (end_pad odd (drop n (front ++ back)) ++ all_of (drop n (front ++ back))))) k.0
    ∙ (ap (λ qs. all_of front ++ (samples ++ (end_pad odd qs ++ all_of qs))) k.1
    ∙ (ap (λ l. all_of front ++ (samples ++ (end_pad odd back ++ l))) (none_after_samples (nat_eq total 0))
    ∙ (ap (λ l. all_of front ++ (samples ++ l)) (append-nil (end_pad odd back))
    ∙ (ap (λ o. all_of front ++ (samples ++ end_pad o back)) is ∙ sym (plain_made f total samples)))))

-- ---- the header of the samples among the pieces

pub record Headed (s : Held) : Type 0 where
  pub within : s.head ≤ length s.pieces
  pub plain : MakesFile s.plain.made s.cut
  pub front_none : s.head ≡ 0 → (ps : List (List ℕ)) → front_of (s.pieces ++ ps) ≡ all_of s.pieces ++ front_of ps
  pub after_none : s.head ≡ 0 → (ps : List (List ℕ)) → pieces_after (s.pieces ++ ps) ≡ pieces_after ps
  pub front_some : 0 < s.head → (ps : List (List ℕ)) → front_of (s.pieces ++ ps) ≡ all_of (take s.head s.pieces)
  pub after_some : 0 < s.head → (ps : List (List ℕ)) → pieces_after (s.pieces ++ ps) ≡ drop s.head s.pieces ++ ps
  pub has_none : s.head ≡ 0 → (ps : List (List ℕ)) → has_head (s.pieces ++ ps) ≡ has_head ps
  pub has_some : 0 < s.head → (ps : List (List ℕ)) → has_head (s.pieces ++ ps) ≡ true
  pub bits_none : s.head ≡ 0 → (ps : List (List ℕ)) → bits_in 0 (s.pieces ++ ps) ≡ bits_in s.bits ps
  pub bits_some : 0 < s.head → (ps : List (List ℕ)) → bits_in 0 (s.pieces ++ ps) ≡ s.bits

headed_nothing : Headed nothing_held
headed_nothing = record {
  within = omega arith;
  plain = none_makes;
  front_none = λ none ps. refl;
  after_none = λ none ps. refl;
  front_some = λ some ps. absurd (omega (arith, some));
  after_some = λ some ps. absurd (omega (arith, some));
  has_none = λ none ps. refl;
  has_some = λ some ps. absurd (omega (arith, some));
  bits_none = λ none ps. refl;
  bits_some = λ some ps. absurd (omega (arith, some));
}

-- the head after one more piece, by tests
headed_by : (s : Held) (p : List ℕ) (none here : Bool) → nat_eq s.head 0 ≡ none → is_head p ≡ here → Headed s
    → Headed (record { pieces = s.pieces ++ p ∷ []; head = cond (none && here) (length s.pieces + 1) s.head; bits = cond none (cond here s.bits (bits_after s.bits p)) s.bits; plain = s.plain; cut = s.cut; depth = s.depth; begun = s.begun; odd = s.odd })
headed_by s p true true n e h =
    let empty : s.head ≡ 0 = eqb-true s.head 0 n in
    let long : length (s.pieces ++ p ∷ []) ≡ length s.pieces + 1 = length-append s.pieces (p ∷ []) in
    record {
      within = omega (arith, long);
      plain = h.plain;
      front_none = λ none ps. absurd (omega (arith, none));
      after_none = λ none ps. absurd (omega (arith, none));
      front_some = λ some ps.
          ap front_of (append_assoc s.pieces (p ∷ []) ps) ∙ (h.front_none empty (p ∷ ps) ∙ (ap (λ b. all_of s.pieces ++ cond b p (p ++ front_of ps)) e
          ∙ (sym (joined_push s.pieces p) ∙ ap all_of (sym (take_all (length s.pieces + 1) (s.pieces ++ p ∷ []) (omega (arith, long)))))));
      after_some = λ some ps.
          ap pieces_after (append_assoc s.pieces (p ∷ []) ps) ∙ (h.after_none empty (p ∷ ps) ∙ (ap (λ b. cond b ps (pieces_after ps)) e
          ∙ ap (λ l. l ++ ps) (sym (drop_whole (length s.pieces + 1) (s.pieces ++ p ∷ []) (omega (arith, long))))));
      has_none = λ none ps. absurd (omega (arith, none));
      has_some = λ some ps. ap has_head (append_assoc s.pieces (p ∷ []) ps) ∙ (h.has_none empty (p ∷ ps) ∙ ap (λ b. cond b true (has_head ps)) e);
      bits_none = λ none ps. absurd (omega (arith, none));
      bits_some = λ some ps. ap (bits_in 0) (append_assoc s.pieces (p ∷ []) ps) ∙ (h.bits_none empty (p ∷ ps) ∙ ap (λ b. cond b s.bits (bits_in (bits_after s.bits p) ps)) e);
    }
  where
    drop_whole : (n : ℕ) (xs : List (List ℕ)) → length xs ≤ n → drop n xs ≡ []
    drop_whole zero [] few = refl
    drop_whole zero (x ∷ xs) few = absurd (omega (arith, few))
    drop_whole (suc n) [] few = refl
    drop_whole (suc n) (x ∷ xs) few = drop_whole n xs (omega (arith, few))
headed_by s p true false n e h =
    let empty : s.head ≡ 0 = eqb-true s.head 0 n in
    let long : length (s.pieces ++ p ∷ []) ≡ length s.pieces + 1 = length-append s.pieces (p ∷ []) in
    record {
      within = omega (arith, empty);
      plain = h.plain;
      front_none = λ none ps.
          ap front_of (append_assoc s.pieces (p ∷ []) ps) ∙ (h.front_none empty (p ∷ ps) ∙ (ap (λ b. all_of s.pieces ++ cond b p (p ++ front_of ps)) e
          ∙ (sym (append_assoc (all_of s.pieces) p (front_of ps)) ∙ ap (λ l. l ++ front_of ps) (sym (joined_push s.pieces p)))));
      after_none = λ none ps. ap pieces_after (append_assoc s.pieces (p ∷ []) ps) ∙ (h.after_none empty (p ∷ ps) ∙ ap (λ b. cond b ps (pieces_after ps)) e);
      front_some = λ some ps. absurd (omega (arith, some, empty));
      after_some = λ some ps. absurd (omega (arith, some, empty));
      has_none = λ none ps. ap has_head (append_assoc s.pieces (p ∷ []) ps) ∙ (h.has_none empty (p ∷ ps) ∙ ap (λ b. cond b true (has_head ps)) e);
      has_some = λ some ps. absurd (omega (arith, some, empty));
      bits_none = λ none ps. ap (bits_in 0) (append_assoc s.pieces (p ∷ []) ps) ∙ (h.bits_none empty (p ∷ ps) ∙ ap (λ b. cond b s.bits (bits_in (bits_after s.bits p) ps)) e);
      bits_some = λ some ps. absurd (omega (arith, some, empty));
    }
headed_by s p false here n e h =
    let other = eqb-false s.head 0 n in
    let long : length (s.pieces ++ p ∷ []) ≡ length s.pieces + 1 = length-append s.pieces (p ∷ []) in
    record {
      within = omega (arith, long, h.within);
      plain = h.plain;
      front_none = λ none ps. absurd (other none);
      after_none = λ none ps. absurd (other none);
      front_some = λ some ps.
          ap front_of (append_assoc s.pieces (p ∷ []) ps) ∙ (h.front_some some (p ∷ ps) ∙ ap all_of (sym (take-append-le s.head s.pieces (p ∷ []) h.within)));
      after_some = λ some ps.
          ap pieces_after (append_assoc s.pieces (p ∷ []) ps) ∙ (h.after_some some (p ∷ ps) ∙ (sym (append_assoc (drop s.head s.pieces) (p ∷ []) ps)
          ∙ ap (λ l. l ++ ps) (sym (drop-append-le s.head s.pieces (p ∷ []) h.within))));
      has_none = λ none ps. absurd (other none);
      has_some = λ some ps. ap has_head (append_assoc s.pieces (p ∷ []) ps) ∙ h.has_some some (p ∷ ps);
      bits_none = λ none ps. absurd (other none);
      bits_some = λ some ps. ap (bits_in 0) (append_assoc s.pieces (p ∷ []) ps) ∙ h.bits_some some (p ∷ ps);
    }

headed_piece : (s : Held) (p : List ℕ) → Headed s → Headed (with_piece s p)
headed_piece s p h = headed_by s p _ _ refl refl h

-- what a block makes of what is held
record Blocked (s t : Held) (b : Block) : Type 0 where
  pieces : t.pieces ≡ s.pieces ++ piece_of b
  depth : t.depth ≡ depth_after s.depth b
  plain : t.plain ≡ plain_after s.plain b
  begun : t.begun ≡ s.begun
  odd : t.odd ≡ s.odd
  headed : Headed s → Headed t

same_held : (s : Held) (b : Block) → piece_of b ≡ [] → depth_after s.depth b ≡ s.depth → plain_after s.plain b ≡ s.plain → Blocked s s b
same_held s b none depth plain = record { pieces = sym (append-nil s.pieces) ∙ ap (λ l. s.pieces ++ l) (sym none); depth = sym depth; plain = sym plain; begun = refl; odd = refl; headed = λ h. h }

planned : (s : Held) (plain : Plain) (depth : ℕ) → MakesFile plain.made (length plain.made - cond (nat_eq plain.total 0) 1 0) → Headed s → Headed (with_plain s plain depth)
planned s plain depth makes h = record {
  within = h.within;
  plain = makes;
  front_none = h.front_none;
  after_none = h.after_none;
  front_some = h.front_some;
  after_some = h.after_some;
  has_none = h.has_none;
  has_some = h.has_some;
  bits_none = h.bits_none;
  bits_some = h.bits_some;
}

riff_by : (s : Held) (id bytes : List ℕ) (b : Bool) → is_riff id ≡ b → Blocked s (cond b (with_piece s bytes) s) (block_of.Application id bytes)
riff_by s id bytes true e = record { pieces = ap (λ b. s.pieces ++ cond b (bytes ∷ []) []) (sym e); depth = refl; plain = refl; begun = refl; odd = refl; headed = headed_piece s bytes }
riff_by s id bytes false e = record { pieces = sym (append-nil s.pieces) ∙ ap (λ b. s.pieces ++ cond b (bytes ∷ []) []) (sym e); depth = refl; plain = refl; begun = refl; odd = refl; headed = λ h. h }

speakers_by : (s : Held) (comments : Comments) (mask : Option ℕ) → mask_in comments.list ≡ mask → Blocked s (with_speakers s mask) (block_of.VorbisComment comments)
speakers_by s comments None e = record { pieces = sym (append-nil s.pieces); depth = refl; plain = ap (λ o. plain_for s.plain o) (sym e); begun = refl; odd = refl; headed = λ h. h }
speakers_by s comments (Some m) e = record {
  pieces = sym (append-nil s.pieces);
  depth = refl;
  plain = ap (λ o. plain_for s.plain o) (sym e);
  begun = refl;
  odd = refl;
  headed = planned s _ s.depth (plain_makes (record s.plain.form { mask = Some m }) s.plain.total);
}

blocked : (s : Held) (b : Block) → Blocked s (with_block s b) b
blocked s (block_of.StreamInfo info) = record { pieces = sym (append-nil s.pieces); depth = refl; plain = refl; begun = refl; odd = refl; headed = planned s _ info.depth (plain_makes (plain_format info.rate info.channels info.depth) info.total) }
blocked s (block_of.Application id bytes) = riff_by s id bytes _ refl
blocked s (block_of.Padding n) = same_held s (block_of.Padding n) refl refl refl
blocked s (block_of.SeekTable points) = same_held s (block_of.SeekTable points) refl refl refl
blocked s (block_of.VorbisComment comments) = speakers_by s comments _ refl
blocked s (block_of.CueSheet sheet) = same_held s (block_of.CueSheet sheet) refl refl refl
blocked s (block_of.Picture picture) = same_held s (block_of.Picture picture) refl refl refl
blocked s (block_of.Other kind bytes) = same_held s (block_of.Other kind bytes) refl refl refl

-- ---- after the first frame

record Framed (t u : Held) (xs : List Piece) (text : List ℕ) : Type 0 where
  none : pieces_in xs ≡ []
  same : (d : ℕ) → depth_of d xs ≡ d
  made : (m : Plain) → plain_of m xs ≡ m
  whole : Whole (sample_width t.depth) (samples_from 0 t.depth xs)
  sent : text ≡ file_samples (held_wave_width t) t.depth (samples_from 0 t.depth xs)
  front : front_pieces u ≡ front_pieces t
  back : back_pieces u ≡ back_pieces t
  begun : u.begun ≡ true
  odd : u.odd ≡ (t.odd + length (file_samples (held_wave_width t) t.depth (samples_from 0 t.depth xs))) % 2

odd_same : (o : ℕ) → o < 2 → o ≡ (o + 0) % 2
odd_same o few = omega (arith, few)

zero_sum : (m : ℕ) → (0 + m) % 2 ≡ m % 2
zero_sum m = omega arith

odd_twice : (o n m : ℕ) → ((o + n) % 2 + m) % 2 ≡ (o + (n + m)) % 2
odd_twice o n m = omega arith

-- what the header of the samples says, with the depth
abbrev by_header : {X : Type 0} → (Bool → ℕ → ℕ → X) → Held → X
by_header says s = says (is_kept s) s.bits s.depth

-- what frames leave as it was
record Quiet (t u : Held) (xs : List Piece) : Type 0 where
  none : pieces_in xs ≡ []
  same : (d : ℕ) → depth_of d xs ≡ d
  kept : is_kept u ≡ is_kept t
  bits : u.bits ≡ t.bits
  depth : u.depth ≡ t.depth

frame_leaves : (b : Bool) (t : Held) (n : ℕ) → Quiet t (with_frame b t n) []
frame_leaves true t n = record { none = refl; same = λ d. refl; kept = refl; bits = refl; depth = refl }
frame_leaves false t n = record { none = refl; same = λ d. refl; kept = refl; bits = refl; depth = refl }

quiet : (t : Held) (xs : List Piece) → Ordered true xs → Quiet t (after_parts t xs) xs
quiet t [] o = record { none = refl; same = λ d. refl; kept = refl; bits = refl; depth = refl }
quiet t (marked ∷ xs) o = let k = quiet t xs o in record { none = k.none; same = k.same; kept = k.kept; bits = k.bits; depth = k.depth }
quiet t (block last x ∷ xs) o = absurd (false≢true (sym o.0))
quiet t (framed f ∷ xs) o =
    let n = length (frame_text t f) in
    let k = quiet (with_frame (writes t) t n) xs o in
    let one = frame_leaves (writes t) t n in
    record { none = k.none; same = k.same; kept = k.kept ∙ one.kept; bits = k.bits ∙ one.bits; depth = k.depth ∙ one.depth }

same_header : {X : Type 0} (says : Bool → ℕ → ℕ → X) (t u : Held) (xs : List Piece) → Quiet t u xs → by_header says u ≡ by_header says t
same_header says t u xs q =
    ap (λ k. says k u.bits u.depth) q.kept ∙ (ap (λ k. says (is_kept t) k u.depth) q.bits ∙ ap (λ k. says (is_kept t) t.bits k) q.depth)

-- samples have room in the file, if there is no fault
holds_by : (file : Bool) (bits depth : ℕ) → depth ≤ 32 → piece_fault file bits depth ≡ None → Holds (wave_width_by file bits depth) depth
holds_by true bits depth deep good = room_holds ((bits + 7) / 8) depth (room_by _ good)
  where
    room_by : (b : Bool) → cond b None (Some kept.OtherBits) ≡ None → b ≡ true
    room_by true e = refl
    room_by false e = absurd cc
holds_by false bits depth deep good = record { few = omega (arith, deep); room = omega arith; some = λ wider. omega (arith, wider) }

pub held_holds : (s : Held) → s.depth ≤ 32 → held_fault s ≡ None → Holds (held_wave_width s) s.depth
held_holds s deep good = holds_by (is_kept s) s.bits s.depth deep good

framed_only : (t : Held) (xs : List Piece) → t.depth ≤ 32 → Holds (held_wave_width t) t.depth → t.begun ≡ true → t.odd < 2 → writes t ≡ true → Ordered true xs → Framed t (after_parts t xs) xs (added t xs)
framed_only t [] deep h b few w o =
    let none = file_none (held_wave_width t) t.depth [] h refl in
    record {
      none = refl;
      same = λ d. refl;
      made = λ m. refl;
      whole = (0, omega arith);
      sent = sym none;
      front = refl;
      back = refl;
      begun = b;
      odd = odd_same t.odd few ∙ ap (λ l. (t.odd + length l) % 2) (sym none);
    }
framed_only t (marked ∷ xs) deep h b few w o =
    let k = framed_only t xs deep h b few w o in
    record { none = k.none; same = k.same; made = k.made; whole = k.whole; sent = k.sent; front = k.front; back = k.back; begun = k.begun; odd = k.odd }
framed_only t (block last x ∷ xs) deep h b few w o = absurd (false≢true (sym o.0))
framed_only t (framed f ∷ xs) deep h b few w o =
    let here = rows_whole (sample_width t.depth) f.channels f.size 0 (omega (arith, deep)) in
    let n = length (frame_text t f) in
    let text = front_left t ++ frame_text t f in
    let rest = samples_from 0 t.depth xs in
    let grown = file_append (held_wave_width t) t.depth (frame_bytes 0 t.depth f) rest h here in
    let k = framed_only (with_samples t n) xs deep h refl (mod-lt (t.odd + n) {m = 2} (omega arith)) w o in
    let all : Framed t (after_parts (with_samples t n) xs) (framed f ∷ xs) (text ++ added (with_samples t n) xs) = record {
      none = k.none;
      same = k.same;
      made = k.made;
      whole = whole_append (sample_width t.depth) (frame_bytes 0 t.depth f) rest here k.whole;
      sent = ap (λ c. (cond c [] (all_of (front_pieces t)) ++ frame_text t f) ++ added (with_samples t n) xs) b ∙ (ap (λ l. frame_text t f ++ l) k.sent ∙ sym grown);
      front = k.front;
      back = k.back;
      begun = k.begun;
      odd = k.odd ∙ (odd_twice t.odd n (length (file_samples (held_wave_width t) t.depth rest))
          ∙ ap (λ m. (t.odd + m) % 2) (sym (length-append (frame_text t f) (file_samples (held_wave_width t) t.depth rest)) ∙ ap length (sym grown)));
    } in
    subst (λ c. Framed t (after_parts (with_frame c t n) xs) (framed f ∷ xs) (cond c text [] ++ added (with_frame c t n) xs)) (sym w) all

-- ---- the whole file

-- what comes before the samples, these, and what follows them
kept_closed : (s : Held) (h : Headed s) (samples : List ℕ) (odd : ℕ) → 0 < s.head → odd ≡ length samples % 2
    → all_of (take s.head s.pieces) ++ (samples ++ (end_pad odd (drop s.head s.pieces) ++ all_of (drop s.head s.pieces))) ≡ restored (s.pieces ++ []) samples
kept_closed s h samples odd some is =
    let after : drop s.head s.pieces ≡ pieces_after (s.pieces ++ []) = sym (append-nil (drop s.head s.pieces)) ∙ sym (h.after_some some []) in
    ap (λ l. l ++ (samples ++ (end_pad odd (drop s.head s.pieces) ++ all_of (drop s.head s.pieces)))) (sym (h.front_some some []))
    ∙ (ap (λ qs. front_of (s.pieces ++ []) ++ (samples ++ (end_pad odd qs ++ all_of qs))) after
    ∙ ap (λ o. front_of (s.pieces ++ []) ++ (samples ++ (end_pad o (pieces_after (s.pieces ++ [])) ++ all_of (pieces_after (s.pieces ++ []))))) is)

-- whether the pieces make a file

-- the header of the samples came if they do
kept_headed : (s : Held) → is_kept s ≡ true → 0 < s.head
kept_headed s e = ltb-true 0 s.head (and_parts (nat_lt 0 s.head) _ e).0

-- they do at the end if they do so far
kept_at_end : (s : Held) → Headed s → is_kept s ≡ are_file (s.pieces ++ [])
kept_at_end s h = by_head (nat_lt 0 s.head) refl
  where
    by_head : (b : Bool) → nat_lt 0 s.head ≡ b → (b && (begins_file s.pieces && nat_lt 0 s.bits)) ≡ are_file (s.pieces ++ [])
    by_head true e =
        let some = ltb-true 0 s.head e in
        sym (ap (λ b. b && (begins_file (s.pieces ++ []) && nat_lt 0 (bits_in 0 (s.pieces ++ [])))) (h.has_some some [])
        ∙ (ap (λ n. begins_file (s.pieces ++ []) && nat_lt 0 n) (h.bits_some some []) ∙ ap (λ ps. begins_file ps && nat_lt 0 s.bits) (append-nil s.pieces)))
    by_head false e =
        let none : s.head ≡ 0 = omega (arith, ltb-false 0 s.head e) in
        sym (ap (λ b. b && (begins_file (s.pieces ++ []) && nat_lt 0 (bits_in 0 (s.pieces ++ [])))) (h.has_none none []))

closed_by : (s : Held) (b : Bool) → is_kept s ≡ b → (h : Headed s) (samples : List ℕ) (odd : ℕ) → odd ≡ length samples % 2
    → all_of (cond b (take s.head s.pieces) (take s.cut s.plain.made))
    ++ (samples ++ (end_pad odd (cond b (drop s.head s.pieces) (drop s.cut s.plain.made)) ++ all_of (cond b (drop s.head s.pieces) (drop s.cut s.plain.made))))
    ≡ restored (file_pieces (s.pieces ++ []) s.plain.made) samples
closed_by s true e h samples odd is =
    kept_closed s h samples odd (kept_headed s e) is ∙ ap (λ c. restored (cond c (s.pieces ++ []) s.plain.made) samples) (sym e ∙ kept_at_end s h)
closed_by s false e h samples odd is =
    h.plain samples odd is ∙ ap (λ c. restored (cond c (s.pieces ++ []) s.plain.made) samples) (sym e ∙ kept_at_end s h)

closed : (s : Held) (h : Headed s) (samples : List ℕ) (odd : ℕ) → odd ≡ length samples % 2
    → all_of (front_pieces s) ++ (samples ++ (end_pad odd (back_pieces s) ++ all_of (back_pieces s))) ≡ restored (file_pieces (s.pieces ++ []) s.plain.made) samples
closed s h samples odd is = closed_by s _ refl h samples odd is

pub whole_wave : (s : Held) (xs : List Piece) → (after_parts s xs).depth ≤ 32 → s.begun ≡ false → s.odd ≡ 0 → Headed s → Ordered false xs → held_fault (after_parts s xs) ≡ None
    → added s xs ++ ending (after_parts s xs) ≡ restored (file_pieces (s.pieces ++ pieces_in xs) (plain_of s.plain xs).made) (file_samples (held_wave_width (after_parts s xs)) (depth_of s.depth xs) (samples_from 0 s.depth xs))
whole_wave s [] deep b o h order good =
    ap (λ c. cond c [] (all_of (front_pieces s)) ++ (end_pad s.odd (back_pieces s) ++ all_of (back_pieces s))) b
    ∙ (closed s h [] s.odd o ∙ ap (λ l. restored (file_pieces (s.pieces ++ []) s.plain.made) l) (sym (file_none (held_wave_width s) s.depth [] (held_holds s deep good) refl)))
whole_wave s (marked ∷ xs) deep b o h order good = whole_wave s xs deep b o h order good
whole_wave s (block last x ∷ xs) deep b o h order good =
    let low : (after_parts (with_block s x) xs).depth ≤ 32 = subst (λ c. (after_parts (cond c s (with_block s x)) xs).depth ≤ 32) b deep in
    let k = blocked s x in
    let wide = held_wave_width (after_parts (with_block s x) xs) in
    let pieces = file_pieces (s.pieces ++ (piece_of x ++ pieces_in xs)) (plain_of (plain_after s.plain x) xs).made in
    let end = restored pieces (file_samples wide (depth_of (depth_after s.depth x) xs) (samples_from 0 (depth_after s.depth x) xs)) in
    let fine : held_fault (after_parts (with_block s x) xs) ≡ None = subst (λ c. held_fault (after_parts (cond c s (with_block s x)) xs) ≡ None) b good in
    let all : added (with_block s x) xs ++ ending (after_parts (with_block s x) xs) ≡ end =
    whole_wave (with_block s x) xs low (k.begun ∙ b) (k.odd ∙ o) (k.headed h) order.1 fine
    ∙ (ap (λ ps. restored (file_pieces (ps ++ pieces_in xs) (plain_of (with_block s x).plain xs).made) (file_samples wide (depth_of (with_block s x).depth xs) (samples_from 0 (with_block s x).depth xs))) k.pieces
    ∙ (ap (λ ps. restored (file_pieces ps (plain_of (with_block s x).plain xs).made) (file_samples wide (depth_of (with_block s x).depth xs) (samples_from 0 (with_block s x).depth xs))) (append_assoc s.pieces (piece_of x) (pieces_in xs))
    ∙ (ap (λ m. restored (file_pieces (s.pieces ++ (piece_of x ++ pieces_in xs)) (plain_of m xs).made) (file_samples wide (depth_of (with_block s x).depth xs) (samples_from 0 (with_block s x).depth xs))) k.plain
    ∙ ap (λ d. restored pieces (file_samples wide (depth_of d xs) (samples_from 0 d xs))) k.depth))) in
    subst (λ c. added (cond c s (with_block s x)) xs ++ ending (after_parts (cond c s (with_block s x)) xs)
    ≡ restored pieces (file_samples (held_wave_width (after_parts (cond c s (with_block s x)) xs)) (depth_of (depth_after s.depth x) xs) (samples_from 0 (depth_after s.depth x) xs))) (sym b) all
whole_wave s (framed f ∷ xs) deep b o h order good =
    let fb = frame_bytes 0 s.depth f in
    let n = length (frame_text s f) in
    let t = with_samples s n in
    let q = quiet (with_frame (writes s) s n) xs order in
    let one = frame_leaves (writes s) s n in
    let low : s.depth ≤ 32 = subst (λ d. d ≤ 32) (q.depth ∙ one.depth) deep in
    let here = rows_whole (sample_width s.depth) f.channels f.size 0 (omega (arith, low)) in
    let fine : held_fault s ≡ None = sym (same_header piece_fault s (with_frame (writes s) s n) [] one) ∙ (sym (same_header piece_fault (with_frame (writes s) s n) _ xs q) ∙ good) in
    let w : writes s ≡ true = ap is_none fine in
    let holds = held_holds s low fine in
    let k = framed_only t xs low holds refl (mod-lt (s.odd + n) {m = 2} (omega arith)) w order in
    let u = after_parts t xs in
    let wide = held_wave_width s in
    let rest = samples_from 0 s.depth xs in
    let all = fb ++ rest in
    let grown = file_append wide s.depth fb rest holds here in
    let front = all_of (front_pieces s) in
    let text = front_left s ++ frame_text s f in
    let odd : u.odd ≡ length (file_samples wide s.depth all) % 2 =
    k.odd ∙ (odd_twice s.odd n (length (file_samples wide s.depth rest)) ∙ (ap (λ z. (z + (n + length (file_samples wide s.depth rest))) % 2) o ∙ (zero_sum (n + length (file_samples wide s.depth rest))
    ∙ ap (λ m. m % 2) (sym (length-append (frame_text s f) (file_samples wide s.depth rest)) ∙ ap length (sym grown))))) in
    let last : ending u ≡ end_pad u.odd (back_pieces s) ++ all_of (back_pieces s) =
    ap (λ c. cond c [] (all_of (front_pieces u)) ++ (end_pad u.odd (back_pieces u) ++ all_of (back_pieces u))) k.begun
    ∙ ap (λ qs. end_pad u.odd qs ++ all_of qs) k.back in
    let sent : text ++ added t xs ≡ front ++ file_samples wide s.depth all =
    ap (λ c. (cond c [] front ++ frame_text s f) ++ added t xs) b ∙ (append_assoc front (frame_text s f) (added t xs)
    ∙ ap (λ l. front ++ l) (ap (λ l. frame_text s f ++ l) k.sent ∙ sym grown)) in
    let pieces = file_pieces (s.pieces ++ pieces_in xs) (plain_of s.plain xs).made in
    let whole : (text ++ added t xs) ++ ending u ≡ restored pieces (file_samples (held_wave_width u) (depth_of s.depth xs) all) =
    ap (λ l. l ++ ending u) sent ∙ (append_assoc front (file_samples wide s.depth all) (ending u) ∙ (ap (λ l. front ++ (file_samples wide s.depth all ++ l)) last
    ∙ (closed s h (file_samples wide s.depth all) u.odd odd
    ∙ (ap (λ ps. restored (file_pieces (s.pieces ++ ps) s.plain.made) (file_samples wide s.depth all)) (sym k.none)
    ∙ (ap (λ (m : Plain). restored (file_pieces (s.pieces ++ pieces_in xs) m.made) (file_samples wide s.depth all)) (sym (k.made s.plain))
    ∙ (ap (λ d. restored pieces (file_samples wide d all)) (sym (k.same s.depth))
    ∙ ap (λ v. restored pieces (file_samples v (depth_of s.depth xs) all)) (sym (same_header wave_width_by t u xs (quiet t xs order))))))))) in
    subst (λ c. (cond c text [] ++ added (with_frame c s n) xs) ++ ending (after_parts (with_frame c s n) xs) ≡ restored pieces (file_samples (held_wave_width (after_parts (with_frame c s n) xs)) (depth_of s.depth xs) all)) (sym w) whole

-- ---- what the header of the samples says at the end

said_at_end : {X : Type 0} (says : Bool → ℕ → ℕ → X) → ((b c d : ℕ) → says false b d ≡ says false c d) → (s : Held) (b : Bool) → is_kept s ≡ b → Headed s
    → says b s.bits s.depth ≡ says (are_file (s.pieces ++ [])) (bits_in 0 (s.pieces ++ [])) s.depth
said_at_end says free s true e h =
    ap (λ n. says true n s.depth) (sym (h.bits_some (kept_headed s e) [])) ∙ ap (λ c. says c (bits_in 0 (s.pieces ++ [])) s.depth) (sym e ∙ kept_at_end s h)
said_at_end says free s false e h =
    free s.bits (bits_in 0 (s.pieces ++ [])) s.depth ∙ ap (λ c. says c (bits_in 0 (s.pieces ++ [])) s.depth) (sym e ∙ kept_at_end s h)

judged : {X : Type 0} (says : Bool → ℕ → ℕ → X) → ((b c d : ℕ) → says false b d ≡ says false c d) → (s : Held) (xs : List Piece) → s.begun ≡ false → Headed s → Ordered false xs
    → by_header says (after_parts s xs) ≡ says (are_file (s.pieces ++ pieces_in xs)) (bits_in 0 (s.pieces ++ pieces_in xs)) (depth_of s.depth xs)
judged says free s [] b h order = said_at_end says free s _ refl h
judged says free s (marked ∷ xs) b h order = judged says free s xs b h order
judged says free s (block last x ∷ xs) b h order =
    let k = blocked s x in
    let ps = s.pieces ++ (piece_of x ++ pieces_in xs) in
    let end = says (are_file ps) (bits_in 0 ps) (depth_of (depth_after s.depth x) xs) in
    let all : by_header says (after_parts (with_block s x) xs) ≡ end =
    judged says free (with_block s x) xs (k.begun ∙ b) (k.headed h) order.1
    ∙ (ap (λ qs. says (are_file (qs ++ pieces_in xs)) (bits_in 0 (qs ++ pieces_in xs)) (depth_of (with_block s x).depth xs)) k.pieces
    ∙ (ap (λ qs. says (are_file qs) (bits_in 0 qs) (depth_of (with_block s x).depth xs)) (append_assoc s.pieces (piece_of x) (pieces_in xs))
    ∙ ap (λ d. says (are_file ps) (bits_in 0 ps) (depth_of d xs)) k.depth)) in
    subst (λ c. by_header says (after_parts (cond c s (with_block s x)) xs) ≡ end) (sym b) all
judged says free s (framed f ∷ xs) b h order =
    let n = length (frame_text s f) in
    let q = quiet (with_frame (writes s) s n) xs order in
    same_header says (with_frame (writes s) s n) _ xs q ∙ (same_header says s (with_frame (writes s) s n) [] (frame_leaves (writes s) s n) ∙ (said_at_end says free s _ refl h
    ∙ (ap (λ ps. says (are_file (s.pieces ++ ps)) (bits_in 0 (s.pieces ++ ps)) s.depth) (sym q.none)
    ∙ ap (λ d. says (are_file (s.pieces ++ pieces_in xs)) (bits_in 0 (s.pieces ++ pieces_in xs)) d) (sym (q.same s.depth)))))

pub wave_judged : (xs : List Piece) → Ordered false xs → held_fault (after_parts nothing_held xs) ≡ kept_fault xs
wave_judged xs order = judged piece_fault (λ b c d. refl) nothing_held xs refl headed_nothing order

wave_width_is : (xs : List Piece) → Ordered false xs → held_wave_width (after_parts nothing_held xs) ≡ wave_width_in xs
wave_width_is xs order = judged wave_width_by (λ b c d. refl) nothing_held xs refl headed_nothing order

-- ---- from nothing

pub wave_written : (xs : List Piece) → (after_parts nothing_held xs).depth ≤ 32 → Ordered false xs → held_fault (after_parts nothing_held xs) ≡ None → added nothing_held xs ++ ending (after_parts nothing_held xs) ≡ wave_in xs
wave_written xs deep order good =
    whole_wave nothing_held xs deep refl refl headed_nothing order good
    ∙ ap (λ w. restored (file_pieces (pieces_in xs) (plain_of no_plain xs).made) (file_samples w (depth_of 0 xs) (samples_from 0 0 xs))) (wave_width_is xs order)
