-- Where reading stops, after parts of so many bytes.
use Rattle.std.proofs.Common.{◌≡◌, ℕ, ◌+◌, ◌-◌, ◌*◌, ◌/◌, ◌^◌, ◌≤◌, min, nat_eq, Bool, true, false, length, length-append, Option, arith, List, [], ◌∷◌, ◌++◌, Some, None, refl, sym, ap, subst, ◌∙◌}
use Rattle.std.specs.Bool.{⊤}
use Rattle.std.proofs.lemmas.List.{append-nil}
use Rattle.flac_bits.specs.State.{After, Mark, Cursor, past, fresh}
use Rattle.flac_bits.specs.Items.{over, refused, state_after, mark_after, StopsAt, Joined}
use Rattle.flac_bits.specs.Meaning.{AllKept}
use Rattle.flac_bits.specs.inner.Items.{step_at}
use Rattle.flac_bits.proofs.Handing.{Far}
use Rattle.flac_bits.proofs.Items.{step_over, step_stops}
use Rattle.flac_bits.proofs.ItemSpellings.{fresh_unread, after_whole}
use Rattle.flac_bits.proofs.Marks.{past-bytes}
use Rattle.flac_header.specs.declared.subset.Profile.{Profile}
use Rattle.flac_native.specs.Decoding.{start_of, start_mark}
use Rattle.flac_native.specs.Stream.{Piece, Progress, grammar, next, opening}
use Rattle.flac_native.specs.Located.{Locates}
use Rattle.flac_native.specs.inner.Located.{IsStopped, Stops}
use Rattle.flac_native.specs.declared.located.Located.{Located}
use Rattle.flac_native.specs.declared.fault.Fault.{Fault}
use Rattle.flac_native.proofs.Onwards.{Told, nothing_told, step_of}

-- a receiver that takes each part
abbrev pub nothing : ⊤ → Piece → ⊤ → Type 0
nothing old x new = ⊤

abbrev pub no_errors : ⊤ → ℕ
no_errors k = 0

abbrev pub FarFrom : Progress → Progress → Cursor → Cursor → Type 0
FarFrom p q old now = Far grammar nothing p q old now tt tt

-- it was refused there
pub refused_there : (p q : Progress) (old now : Cursor) (f : Fault) (n : ℕ) → FarFrom p q old now → step_at grammar q now ≡ refused f.at f.why → n ≡ now.mark.bytes → IsStopped p old (record { fault = f; byte = n })
refused_there p q old now f n far stop count = record {
  parts = far.items;
  refused = record {
    front = far.text;
    left = now.left;
    stands = far.stands;
    spelled = far.spelled;
    stops = subst (λ (k : Mark). StopsAt grammar (state_after grammar p far.items) k now.left f.at f.why) far.mark_is
        (subst (λ (s : Progress). StopsAt grammar s now.mark now.left f.at f.why) far.state_is (step_stops grammar q now.mark now.left f.at f.why stop));
  };
  byte = count ∙ ap (λ (k : Mark). k.bytes) far.mark_is;
}

-- it was over there
pub over_there : (p q : Progress) (old now : Cursor) → FarFrom p q old now → step_at grammar q now ≡ over → Stops p old None
over_there p q old now far stop =
    let end = step_over grammar q now.mark now.left stop in (
      far.items,
      record {
        spelled = subst (λ t. Joined grammar p old.mark far.items t) (sym (far.stands ∙ ap (λ t. far.text ++ t) end.1 ∙ append-nil far.text)) far.spelled;
        ends = ap grammar.may_end (sym far.state_is) ∙ end.0;
        kept = subst (λ (s : Progress). AllKept (grammar.at_end s)) far.state_is end.2;
      },
    )

-- ---- how many bytes there were

abbrev most : ℕ
most = 2 ^ 64 - 1

fresh_bytes : (m : Mark) → (fresh m).bytes ≡ m.bytes
fresh_bytes m = go (nat_eq m.unread 0) refl
  where
    go : (b : Bool) → nat_eq m.unread 0 ≡ b → (fresh m).bytes ≡ m.bytes
    go true e = rw e refl
    go false e = rw e refl

-- these bits are whole bytes, which were counted
record Counted (m k : Mark) (text : List Bool) : Type 0 where
  whole : length text ≡ 8 * (length text / 8)
  bytes : k.bytes ≡ min (m.bytes + length text / 8) most

both_counted : (a b n k z : ℕ) → a ≡ 8 * (a / 8) → b ≡ 8 * (b / 8) → k ≡ min (n + (a + 7 - 0) / 8) most → z ≡ min (k + b / 8) most → z ≡ min (n + (a + b) / 8) most
both_counted a b n k z ea eb ek ez = omega (arith, ea, eb, ek, ez)

both_whole : (a b : ℕ) → a ≡ 8 * (a / 8) → b ≡ 8 * (b / 8) → a + b ≡ 8 * ((a + b) / 8)
both_whole a b ea eb = omega (arith, ea, eb)

counted : (p : Progress) (m : Mark) (items : List Piece) (text : List Bool) (j : Joined grammar p m items text) → Told p.stand.info → m.unread ≡ 0 → m.bytes ≤ most → Counted m (mark_after grammar p m items text j) text
counted p m [] text j told u le =
    let none : length text ≡ 0 = ap (λ (k : List Bool). length k) j in
    record { whole = omega (arith, none); bytes = omega (arith, none, le) }
counted p m (x ∷ xs) text (front, rest, split, spelled, fits, others) told u le =
    let s = step_of p.stand m front x told u spelled in
    let zero = fresh_unread m u in
    let k = past front (fresh m) in
    let came : k.bytes ≡ min (m.bytes + (length front + 7 - 0) / 8) most = past-bytes front 0 m.bytes (fresh m) zero (omega arith) (fresh_bytes m) le in
    let more = counted (next p x) k xs rest others s.rules (after_whole front (fresh m) zero s.whole) (omega (arith, came)) in
    let both : length text ≡ length front + length rest = ap (λ (t : List Bool). length t) split ∙ length-append front rest in
    let first : length front ≡ 8 * (length front / 8) = omega (arith, s.whole) in
    record {
      whole = subst (λ n. n ≡ 8 * (n / 8)) (sym both) (both_whole (length front) (length rest) first more.whole);
      bytes = both_counted (length front) (length rest) m.bytes k.bytes _ first more.whole came more.bytes ∙ ap (λ n. min (m.bytes + n / 8) most) (sym both);
    }

-- from the first byte on
pub located_at : (profile : Profile) (bytes : List ℕ) (after : After) (found : Option Located) → Stops (opening profile) (start_of bytes after) found → Locates profile bytes after found
located_at profile bytes after None stops = stops
located_at profile bytes after (Some l) stops = λ room.
    let s = stops room in
    let n = counted (opening profile) (start_mark after) s.parts s.refused.front s.refused.spelled nothing_told refl (omega arith) in
    record { parts = s.parts; refused = s.refused; whole = n.whole; byte = omega (arith, s.byte, n.bytes) }
