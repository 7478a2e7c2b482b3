-- Values off a word and the bytes after it.
use Rattle.std.proofs.Common.{◌≡◌, ℕ, ℤ, ◌+◌, ◌-◌, ◌*◌, ◌/◌, ◌^◌, ◌<◌, ◌≤◌, Bool, List, [], ◌∷◌, ◌++◌, length, take, drop, Some, Ok, refl, sym, ap, ◌∙◌, arith, append_assoc, set, suc, subst, inl, inr}
use Rattle.std.proofs.lemmas.List.{append_cancel_right, length-take, length-drop, take-append-drop, take-take, take_all, drop-take}
use Rattle.std.proofs.lemmas.Grind.{take-set_at}
use Rattle.std.proofs.lemmas.Nat.{shr_high}
use Rattle.std.proofs.Math.Seq.{take-add, take-append-add}
use Rattle.flac_bits.specs.Bits.{unsigned, bits_of}
use Rattle.flac_bits.specs.State.{Mark, Cursor, past, with_short}
use Rattle.flac_bits.specs.declared.why.Why.{Why}
use Rattle.std.specs.List.{slice_range}
use Rattle.flac_bits.specs.Layout.{run, and_then}
use Rattle.flac_bits.specs.Lists.{list_of, after}
use Rattle.flac_bits.specs.Meaning.{unary_bits, Spells, IsCut}
use Rattle.flac_bits.specs.Rice.{rice, rice_value, unfolded}
use Rattle.flac_bits.specs.Store.{Store, passed}
use Rattle.flac_bits.specs.inner.Store.{Passes, four_at}
use Rattle.flac_bits.specs.inner.Stretches.{IsRead}
use Rattle.flac_bits.proofs.Back.{same_parts, begun_more}
use Rattle.flac_bits.proofs.Fields.{cursor_of, past-with_short}
use Rattle.flac_bits.proofs.Holding.{length-bits_of, bits_of-append, four_left, came_tie, came_passed, took_tie, took_mark}
use Rattle.flac_bits.proofs.Readings.{at_, number_again, zeros_again, past-append, unsigned_low}
use Rattle.flac_bits.proofs.Lists.{list_more}
use Rattle.flac_bits.proofs.Meaning.{takes}
use Rattle.flac_bits.proofs.Rices.{below_greatest, folded_small, ready_limit, value_read}
use Rattle.flac_bits.proofs.Words.{split, length-unsigned}

-- ---- values

pub none_read : (k : ℕ) (vs : List ℤ) (i : ℕ) → IsRead k [] vs i vs i
none_read k vs i = record { reads = λ rest m. refl; ends = λ rest m s. s }

pub then_read : (k : ℕ) (a b : List Bool) (us vs ws : List ℤ) (i j l : ℕ) → length vs ≡ length us → IsRead k a us i vs j → IsRead k b vs j ws l → IsRead k (a ++ b) us i ws l
then_read k a b us vs ws i j l long p q = record {
  reads = λ rest m. ap (λ bs. and_then (run (list_of (length us - i) (rice_value k)) (at_ bs m)) (after (take i us))) (append_assoc a b rest) ∙ p.reads (b ++ rest) m
      ∙ ap (λ n. and_then (run (list_of (n - j) (rice_value k)) (at_ (b ++ rest) (past a m))) (after (take j vs))) (sym long) ∙ q.reads rest (past a m)
      ∙ ap (λ n. and_then (run (list_of (n - l) (rice_value k)) (at_ rest (past b (past a m)))) (after (take l ws))) long
      ∙ ap (λ t. and_then (run (list_of (length us - l) (rice_value k)) (at_ rest t)) (after (take l ws))) (sym (past-append a b m));
  ends = λ rest m s.
      let field = rice_value k in
      let inner : IsCut (list_of (length vs - l) field) (past b (past a m)) rest = subst (λ t. IsCut (list_of (length vs - l) field) t rest) (past-append a b m) (subst (λ n. IsCut (list_of (n - l) field) (past (a ++ b) m) rest) (sym long) s) in
      subst (IsCut (list_of (length us - i) field) m) (sym (append_assoc a b rest)) (p.ends (b ++ rest) m (subst (λ n. IsCut (list_of (n - j) field) (past a m) (b ++ rest)) long (q.ends rest (past a m) inner)));
}

code_read : (k limit q low : ℕ) (rest : List Bool) (m : Mark) → q ≤ limit → low < 2 ^ k → run (rice k limit) (at_ ((unary_bits q ++ unsigned k low) ++ rest) m) ≡ Ok (q * 2 ^ k + low, at_ rest (past (unary_bits q ++ unsigned k low) m))
unfolding rice
code_read k limit q low rest m le lt =
    rw (append_assoc (unary_bits q) (unsigned k low) rest, zeros_again limit (Some q) (unary_bits q ++ (unsigned k low ++ rest)) (unsigned k low ++ rest) m (le, refl), number_again k low rest (past (unary_bits q) m) lt, past-append (unary_bits q) (unsigned k low) m) refl

-- one more value before bits that end inside the others
value_ends : (k n i : ℕ) (z : ℤ) (text rest : List Bool) (m : Mark) → i < n → run (rice_value k) (at_ (text ++ rest) m) ≡ Ok (z, at_ rest (past text m)) → IsCut (list_of (n - (i + 1)) (rice_value k)) (past text m) rest → IsCut (list_of (n - i) (rice_value k)) m (text ++ rest)
unfolding list_of
value_ends k n i z text rest m lt ran s =
    let e : suc (n - (i + 1)) ≡ n - i = omega (arith, lt) in
    let t = takes (rice_value k) (text ++ rest) m z (at_ rest (past text m)) ran in
    let same : text ≡ t.0 = append_cancel_right text t.0 rest t.1 in
    let spelled : Spells (rice_value k) m text z = subst (λ b. Spells (rice_value k) m b z) (sym same) t.2 in
    subst (λ j. IsCut (list_of j (rice_value k)) m (text ++ rest)) e (inr (z, text, rest, refl, spelled, inl s))

pub one_read : (k q low v : ℕ) (z : ℤ) (vs : List ℤ) (i : ℕ) → q ≤ 62 → low < 2 ^ k → k ≤ 26 → v ≡ q * 2 ^ k + low → z ≡ unfolded v → i < length vs → IsRead k (unary_bits q ++ unsigned k low) vs i (set vs i z) (i + 1)
one_read k q low v z vs i le lt few is value within = record {
  reads = λ rest m.
      let n = length vs in
      let field = rice_value k in
      let text = unary_bits q ++ unsigned k low in
      let most = (2 ^ 32 - 2) / 2 ^ k in
      let more : ℤ → Cursor → _ = λ x d. and_then (run (list_of (n - (i + 1)) field) d) (after (take i vs ++ x ∷ [])) in
      let small = folded_small q low 62 k v le lt is (ready_limit k few) in
      let read : run (rice k most) (at_ (text ++ rest) m) ≡ Ok (v, at_ rest (past text m)) = rw is (code_read k most q low rest m (below_greatest q 62 k le (ready_limit k few)) lt) in
      list_more n i field (at_ (text ++ rest) m) (take i vs) within ∙ ap (λ r. and_then r more) (value_read k v z (at_ (text ++ rest) m) (at_ rest (past text m)) read small value)
      ∙ ap (λ front. and_then (run (list_of (n - (i + 1)) field) (at_ rest (past text m))) (after front)) (sym (take-set_at vs i (i + 1) z refl within));
  ends = λ rest m s.
      let n = length vs in
      let text = unary_bits q ++ unsigned k low in
      let most = (2 ^ 32 - 2) / 2 ^ k in
      let small = folded_small q low 62 k v le lt is (ready_limit k few) in
      let read : run (rice k most) (at_ (text ++ rest) m) ≡ Ok (v, at_ rest (past text m)) = rw is (code_read k most q low rest m (below_greatest q 62 k le (ready_limit k few)) lt) in
      value_ends k n i z text rest m within (value_read k v z (at_ (text ++ rest) m) (at_ rest (past text m)) read small value) s;
}

-- ---- bytes

-- eight bytes as one number
pub eight_bits : (bytes : List ℕ) (place high low v : ℕ) → place + 8 ≤ length bytes → low < 2 ^ 32 → v ≡ high * 2 ^ 32 + low → unsigned 32 high ≡ bits_of (four_at bytes place) → unsigned 32 low ≡ bits_of (four_at bytes (place + 4))
    → unsigned 64 v ≡ bits_of (take 8 (drop place bytes))
eight_bits bytes place high low v room lt is first second =
    let n = length bytes in
    let whole : take n bytes ≡ bytes = take_all n bytes (omega arith) in
    let e : place + 4 + 4 ≡ place + 8 = omega arith in
    let eight = four_at bytes place ++ four_at bytes (place + 4) in
    let parts : drop place bytes ≡ eight ++ drop (place + 8) bytes =
    rw whole at (four_left bytes place n (omega (arith, room)) (omega arith) ∙ ap (λ xs. four_at bytes place ++ xs) (four_left bytes (place + 4) n (omega (arith, room)) (omega arith)) ∙ ap (λ k. four_at bytes place ++ (four_at bytes (place + 4) ++ drop k (take n bytes))) e) in
    ap (unsigned 64) is ∙ split 32 32 (high * 2 ^ 32 + low) ∙ ap (λ x. unsigned 32 x ++ unsigned 32 (high * 2 ^ 32 + low)) (shr_high high 32 low lt) ∙ ap (λ bs. unsigned 32 high ++ bs) (unsigned_low 32 high 32 low (omega arith))
    ∙ ap (λ bs. bs ++ unsigned 32 low) first ∙ ap (λ bs. bits_of (four_at bytes place) ++ bs) second ∙ sym (bits_of-append (four_at bytes place) (four_at bytes (place + 4))) ∙ sym (ap (λ xs. bits_of (take 8 xs)) parts)

-- the first of them, and the others
parts_of_eight : (x n : ℕ) (xs : List ℕ) → n ≤ 8 → 8 ≤ length xs → unsigned 64 x ≡ bits_of (take 8 xs) → (unsigned (8 * n) (x / 2 ^ (64 - 8 * n)) ≡ bits_of (take n xs)) × (unsigned (64 - 8 * n) x ≡ bits_of (drop n (take 8 xs)))
parts_of_eight x n xs few long is =
    let rest = drop n (take 8 xs) in
    let e : 64 ≡ 8 * n + (64 - 8 * n) = omega (arith, few) in
    let low : unsigned (8 * n) (x / 2 ^ (64 - 8 * n)) ++ unsigned (64 - 8 * n) x ≡ bits_of (take n (take 8 xs)) ++ bits_of rest =
    sym (split (8 * n) (64 - 8 * n) x) ∙ ap (λ k. unsigned k x) (sym e) ∙ is ∙ sym (ap bits_of (take-append-drop n (take 8 xs))) ∙ bits_of-append (take n (take 8 xs)) rest in
    let same : length (unsigned (64 - 8 * n) x) ≡ length (bits_of rest) = omega (arith, length-unsigned (64 - 8 * n) x, length-bits_of rest, length-drop n (take 8 xs), length-take 8 xs, long, few) in
    let parts = same_parts (unsigned (8 * n) (x / 2 ^ (64 - 8 * n))) (unsigned (64 - 8 * n) x) (bits_of (take n (take 8 xs))) (bits_of rest) low same in
    (parts.0 ∙ ap bits_of (inner n 8 xs (omega (arith, few))), parts.1)
  where
    inner : (a b : ℕ) (ys : List ℕ) → a ≤ b → take a (take b ys) ≡ take a ys
    inner a b ys le = grind (arith, take-take)

pub first_bytes : (x n : ℕ) (xs : List ℕ) → n ≤ 8 → 8 ≤ length xs → unsigned 64 x ≡ bits_of (take 8 xs) → unsigned (8 * n) (x / 2 ^ (64 - 8 * n)) ≡ bits_of (take n xs)
first_bytes x n xs few long is = (parts_of_eight x n xs few long is).0

pub last_bytes : (x n : ℕ) (xs : List ℕ) → n ≤ 7 → 8 ≤ length xs → unsigned 64 x ≡ bits_of (take 8 xs) → unsigned (64 - 8 * n) x ≡ bits_of (drop n (take 8 xs))
last_bytes x n xs few long is = (parts_of_eight x n xs (omega (arith, few)) long is).1

-- bytes came into the word, and a text was taken off it
pub came_taken : (bytes : List ℕ) (used n x : ℕ) (first word filled last text more : List Bool) → n ≤ 7 → used + 8 ≤ length bytes → unsigned 64 x ≡ bits_of (take 8 (drop used bytes))
    → first ++ bits_of (take used bytes) ≡ text ++ word → filled ≡ word ++ unsigned (8 * n) (x / 2 ^ (64 - 8 * n)) → filled ≡ more ++ last → first ++ bits_of (take (used + n) bytes) ≡ (text ++ more) ++ last
came_taken bytes used n x first word filled last text more few room is tie put taken =
    let ys = take n (drop used bytes) in
    let bits = first_bytes x n (drop used bytes) (omega (arith, few)) (omega (arith, length-drop used bytes, room)) is in
    ap (λ xs. first ++ bits_of xs) (take-add used n bytes) ∙ ap (λ bs. first ++ bs) (bits_of-append (take used bytes) ys) ∙ sym (append_assoc first (bits_of (take used bytes)) (bits_of ys))
    ∙ ap (λ bs. bs ++ bits_of ys) tie ∙ append_assoc text word (bits_of ys) ∙ ap (λ bs. text ++ bs) (ap (λ bs. word ++ bs) (sym bits) ∙ sym put ∙ taken) ∙ sym (append_assoc text more last)

-- the same, if the bytes are in an array from an index on
module _ (bytes : List ℕ) (from place end used : ℕ) (word text new : List Bool) (le : from ≤ place) (le' : place + used ≤ end) (inside : end ≤ length bytes) (is : word ++ bits_of (take used (slice_range bytes place end)) ≡ text ++ new)
    (tie : passed (drop from (take place bytes)) word ++ word ≡ bits_of (drop from (take place bytes))) where
  abbrev ys : List ℕ
  ys = take used (slice_range bytes place end)

  between : drop place (take (place + used) bytes) ≡ ys
  between = drop-take place used bytes ∙ sym (take-take used (end - place) (drop place bytes) (omega (arith, le')))

  begun : drop from (take (place + used) bytes) ≡ drop from (take place bytes) ++ ys
  begun = begun_more bytes from place (place + used) le (omega arith) (omega (arith, le', inside)) ∙ ap (λ zs. drop from (take place bytes) ++ zs) between

  filled_tie : passed (drop from (take place bytes) ++ ys) (word ++ bits_of ys) ++ (word ++ bits_of ys) ≡ bits_of (drop from (take place bytes) ++ ys)
  filled_tie = came_tie (drop from (take place bytes)) ys word tie

  pub went_tie : passed (drop from (take (place + used) bytes)) new ++ new ≡ bits_of (drop from (take (place + used) bytes))
  went_tie = rw begun (took_tie (drop from (take place bytes) ++ ys) text (word ++ bits_of ys) new is filled_tie)

  pub went_mark : (start : Mark) → past (passed (drop from (take (place + used) bytes)) new) start ≡ past text (past (passed (drop from (take place bytes)) word) start)
  went_mark start =
      let xs = drop from (take place bytes) in
      rw begun (took_mark (xs ++ ys) text (word ++ bits_of ys) new start is filled_tie ∙ ap (λ bs. past text (past bs start)) (came_passed xs ys word tie))

  pub went_left : word ++ bits_of (drop place (take end bytes)) ≡ text ++ (new ++ bits_of (drop (place + used) (take end bytes)))
  went_left =
      let more = drop (place + used) (take end bytes) in
      let parts : drop place (take end bytes) ≡ ys ++ more = begun_more bytes place (place + used) end (omega arith) le' inside ∙ ap (λ zs. zs ++ more) between in
      ap (λ xs. word ++ bits_of xs) parts ∙ ap (λ bs. word ++ bs) (bits_of-append ys more) ∙ sym (append_assoc word (bits_of ys) (bits_of more)) ∙ ap (λ bs. bs ++ bits_of more) is ∙ append_assoc text new (bits_of more)

-- what a store and the bits after it are read as
pub stretch_read : (k : ℕ) (text : List Bool) (us vs : List ℤ) (i j : ℕ) (why : Why) (old new : Store) (rest : List Bool) → Passes text old new → IsRead k text us i vs j
    → and_then (run (list_of (length us - i) (rice_value k)) (cursor_of why old rest)) (after (take i us)) ≡ and_then (run (list_of (length us - j) (rice_value k)) (cursor_of why new rest)) (after (take j vs))
stretch_read k text us vs i j why old new rest passes read =
    let left : (old.word ++ bits_of old.bytes) ++ rest ≡ text ++ ((new.word ++ bits_of new.bytes) ++ rest) = ap (λ bs. bs ++ rest) passes.0 ∙ append_assoc text (new.word ++ bits_of new.bytes) rest in
    let marked : with_short why new.mark ≡ past text (with_short why old.mark) = ap (with_short why) passes.1 ∙ sym (past-with_short text why old.mark) in
    rw (left, marked) (read.reads ((new.word ++ bits_of new.bytes) ++ rest) (with_short why old.mark))

-- and those of its bits that are held end inside the values before, if they end inside the values after
pub stretch_ends : (k : ℕ) (text : List Bool) (us vs : List ℤ) (i j h h' : ℕ) (why : Why) (old new : Store) (rest : List Bool) → Passes text old new → IsRead k text us i vs j → h ≡ length text + h'
    → IsCut (list_of (length us - j) (rice_value k)) (with_short why new.mark) (take h' ((new.word ++ bits_of new.bytes) ++ rest)) → IsCut (list_of (length us - i) (rice_value k)) (with_short why old.mark) (take h ((old.word ++ bits_of old.bytes) ++ rest))
stretch_ends k text us vs i j h h' why old new rest passes read held s =
    let after = (new.word ++ bits_of new.bytes) ++ rest in
    let left : (old.word ++ bits_of old.bytes) ++ rest ≡ text ++ after = ap (λ bs. bs ++ rest) passes.0 ∙ append_assoc text (new.word ++ bits_of new.bytes) rest in
    let marked : with_short why new.mark ≡ past text (with_short why old.mark) = ap (with_short why) passes.1 ∙ sym (past-with_short text why old.mark) in
    let front : take h ((old.word ++ bits_of old.bytes) ++ rest) ≡ text ++ take h' after = ap (λ n. take n ((old.word ++ bits_of old.bytes) ++ rest)) held ∙ ap (take (length text + h')) left ∙ take-append-add text after h' in
    subst (IsCut (list_of (length us - i) (rice_value k)) (with_short why old.mark)) (sym front)
    (read.ends (take h' after) (with_short why old.mark) (subst (λ t. IsCut (list_of (length us - j) (rice_value k)) t (take h' after)) marked s))

pub few_here : (k n : ℕ) → k ≡ n → k ≤ 26 → n ≤ 26
few_here k n is few = rw (← is) few
