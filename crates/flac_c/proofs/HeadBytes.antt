-- How many bytes the marker and the metadata blocks have.
use Rattle.std.proofs.Common.{◌≡◌, ◌≢◌, ℕ, ◌+◌, ◌-◌, ◌*◌, ◌/◌, ◌%◌, ◌^◌, ◌<◌, ◌≤◌, min, Bool, true, false, nat_eq, List, [], ◌∷◌, ◌++◌, length, take, Some, inl, refl, sym, ap, subst, ◌∙◌, length-append, arith}
use Rattle.std.proofs.Math.Seq.{take-append_seam}
use Rattle.flac_bits.specs.Bits.{bits_of}
use Rattle.flac_bits.specs.State.{State, Mark, past, fresh}
use Rattle.flac_bits.specs.Items.{Joined, mark_after}
use Rattle.flac_bits.specs.declared.why.Why.TheVariants.{Truncated, Memory}
use Rattle.flac_bits.proofs.ItemSpellings.{fresh_unread, after_whole}
use Rattle.flac_bits.proofs.Marks.{past-bytes}
use Rattle.flac_bits.proofs.Fencing.{take_bits}
use Rattle.flac_bits.proofs.Holding.{length-bits_of}
use Rattle.flac_native.specs.Stream.{Piece, Progress, grammar, opening, next}
use Rattle.flac_native.specs.Decoding.{beginning}
use Rattle.flac_native.specs.Item.{fault_pair}
use Rattle.flac_native.specs.declared.fault.Fault.{Fault}
use Rattle.flac_native.proofs.Onwards.{Told, nothing_told, step_of}
use Rattle.flac_c.specs.Starts.{IsHead, RefusesHead}
use Rattle.flac_c.specs.inner.Blocks.{HeadRead, IsRefusedAt}
use Rattle.flac_native.proofs.FramesRead.{at_bytes}
use Rattle.flac_header.specs.declared.subset.Profile.{Profile}

fresh_bytes : (m : Mark) → (fresh m).bytes ≡ m.bytes
fresh_bytes m = go (nat_eq m.unread 0) refl
  where
    go : (b : Bool) → nat_eq m.unread 0 ≡ b → (fresh m).bytes ≡ m.bytes
    go true e = rw e refl
    go false e = rw e refl

-- parts are whole bytes, and all of them are counted
pub count_after_parts : (p : Progress) (m : Mark) (items : List Piece) (text : List Bool) (j : Joined grammar p m items text) (n : ℕ) → Told p.stand.info → m.unread ≡ 0 → m.bytes ≡ n → n + length text / 8 ≤ 2 ^ 64 - 1
    → (length text % 8 ≡ 0) × ((mark_after grammar p m items text j).bytes ≡ n + length text / 8) × ((mark_after grammar p m items text j).unread ≡ 0)
count_after_parts p m [] text j n told u is few =
    let none : length text ≡ 0 = ap (λ (t : List Bool). length t) j in
    (omega (arith, none), omega (arith, none, is), u)
count_after_parts p m (x ∷ xs) text (front, rest, split, spelled, fits, others) n told u is few =
    let s = step_of p.stand m front x told u spelled in
    let whole : length front % 8 ≡ 0 = s.whole in
    let all : length text ≡ length front + length rest = ap (λ (t : List Bool). length t) split ∙ length-append front rest in
    let same : (fresh m).bytes ≡ n = fresh_bytes m ∙ is in
    let z : (fresh m).unread ≡ 0 = fresh_unread m u in
    let counted : (past front (fresh m)).bytes ≡ min (n + (length front + 7 - 0) / 8) (2 ^ 64 - 1) = past-bytes front 0 n (fresh m) z (omega arith) same (omega arith) in
    let here : (past front (fresh m)).bytes ≡ n + length front / 8 = omega (arith, counted, whole, all, few) in
    let more = count_after_parts (next p x) (past front (fresh m)) xs rest others (n + length front / 8) s.rules (after_whole front (fresh m) z s.whole) here (omega (arith, whole, all, few)) in
    let left : length rest % 8 ≡ 0 = more.0 in
    let found = more.1 in
    (omega (arith, whole, left, all), omega (arith, whole, left, all, found), more.2)

-- the head of these bytes
pub head_is : (profile : Profile) (bytes : List ℕ) (start now : State) (Told : List Piece → Type 0) → length bytes < 2 ^ 64 → start ≡ at_bytes bytes → HeadRead profile start now Told
    → (parts : List Piece) × IsHead profile bytes now.cursor.mark.bytes parts × Told parts
head_is profile bytes start now Told few is h =
    let r = h.read in
    let mark_is : start.cursor.mark ≡ beginning Truncated = ap (λ (s : State). s.cursor.mark) is in
    let left_is : start.cursor.left ≡ bits_of bytes = ap (λ (s : State). s.cursor.left) is in
    let text : List Bool = r.text in
    let split : bits_of bytes ≡ text ++ now.cursor.left = sym left_is ∙ r.stands in
    let all : 8 * length bytes ≡ length text + length now.cursor.left = sym (length-bits_of bytes) ∙ ap (λ (l : List Bool). length l) split ∙ length-append text now.cursor.left in
    let u : start.cursor.mark.unread ≡ 0 = ap (λ (m : Mark). m.unread) mark_is in
    let z : start.cursor.mark.bytes ≡ 0 = ap (λ (m : Mark). m.bytes) mark_is in
    let count = count_after_parts (opening profile) start.cursor.mark r.parts text r.spelled 0 nothing_told u z (omega (arith, all, few)) in
    let whole : length text % 8 ≡ 0 = count.0 in
    let bytes_are : now.cursor.mark.bytes ≡ 0 + length text / 8 = ap (λ (m : Mark). m.bytes) r.mark ∙ count.1 in
    let long : length text ≡ 8 * now.cursor.mark.bytes = omega (arith, whole, bytes_are) in
    let front : text ≡ bits_of (take now.cursor.mark.bytes bytes) =
    sym (take-append_seam text now.cursor.left) ∙ ap (λ k. take k (text ++ now.cursor.left)) long ∙ ap (λ t. take (8 * now.cursor.mark.bytes) t) (sym split) ∙ take_bits now.cursor.mark.bytes bytes in
    let joined = subst (λ (m : Mark). Joined grammar (opening profile) m r.parts text) mark_is r.spelled in (
      r.parts,
      record {
        within = omega (arith, long, all);
        spelled = subst (λ (t : List Bool). Joined grammar (opening profile) (beginning Truncated) r.parts t) front joined;
        metadata = r.metadata;
        after = h.phase;
      },
      r.tells,
    )

pub refused_is : (profile : Profile) (bytes : List ℕ) (start : State) (f : Fault) → start ≡ at_bytes bytes → (f.why ≢ Memory → IsRefusedAt profile start f) → RefusesHead profile bytes (Some (fault_pair f))
refused_is profile bytes start f is h = (f.at, f.why, refl, λ other. inl (subst (λ (s : State). IsRefusedAt profile s f) is (h other)))
