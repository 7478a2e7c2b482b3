use Rattle.std.proofs.Common.{◌≡◌, ◌≤◌, ◌+◌, ◌∙◌, ◌-◌, ◌++◌, ◌∷◌, ℕ, List, [], append_assoc, refl, ap, sym, length, take, drop, arith}
use Rattle.std.proofs.lemmas.List.{length-take, length-append, take_at}
use Rattle.std.proofs.Math.Seq.{take-add}
use borrow.Rule.Slice.PartMut.{put_mid}
use Rattle.flac_bits.proofs.Copied.{put_taken}
use Rattle.flac_around.proofs.between.through.Goals as goal

-- the places have the bytes that were held, and then those that came
slid : (k n : ℕ) (held room ys coming later : List ℕ) → 128 ≤ length room → take 128 room ≡ held → n ≤ length ys → coming ≡ take n ys ++ later
    → held ++ coming ≡ take n (put_mid 128 k room ys) ++ (take 128 (drop n (put_mid 128 k room ys)) ++ later)
slid k n held room ys coming later long same few is =
    let now = put_mid 128 k room ys in
    let swap : 128 + n ≡ n + 128 = omega arith in
    ap (λ l. held ++ l) is ∙ sym (append_assoc held (take n ys) later)
    ∙ ap (λ l. l ++ later) (ap (λ h. h ++ take n ys) (sym same) ∙ sym (put_taken 128 k n room ys long few) ∙ ap (λ m. take m now) swap ∙ take-add n 128 now)
    ∙ append_assoc (take n now) (take 128 (drop n now)) later

none_taken : (bytes : List ℕ) → take 0 bytes ≡ []
none_taken [] = refl
none_taken (x ∷ xs) = refl

none_dropped : (xs : List ℕ) → drop 0 xs ≡ xs
none_dropped [] = refl
none_dropped (x ∷ xs) = refl

all_there : (xs : List ℕ) → xs ++ [] ≡ xs
all_there [] = refl
all_there (x ∷ xs) = ap (λ l. x ∷ l) (all_there xs)

still_held : (k : ℕ) (held room ys : List ℕ) → 128 ≤ length room → take 128 room ≡ held → take 128 (drop 0 (put_mid 128 k room ys)) ≡ held
still_held k held room ys long same =
    ap (take 128) (none_dropped (put_mid 128 k room ys)) ∙ put_taken 128 k 0 room ys long (omega arith) ∙ ap (λ l. take 128 room ++ l) (none_taken ys) ∙ all_there (take 128 room) ∙ same

pub slice_bounds-copy_from_slice-end-2 : goal.slice_bounds-copy_from_slice-end-2
slice_bounds-copy_from_slice-end-2 g c = omega (arith, length-take 128 c.args.room.now, c.requires.room)

pub copy_from_slice-requires : goal.copy_from_slice-requires
copy_from_slice-requires g c = omega (arith, length-take 128 c.args.room.now, c.requires.room, c.requires.held)

-- the bytes that were held are in front
pub returns-clause-bytes : goal.returns-clause-bytes
returns-clause-bytes g c = λ known.
    let first = c.copy_from_slice in
    let room = first.new.self ++ drop 128 c.args.room.now in
    let ys = c.pull.new.buf in
    let n = c.in-Ok.count in
    let later = g.S.Source.coming c.pull.new.self in
    let len : length first.new.self ≡ 128 = omega (arith, first.ensures.len, length-take 128 c.args.room.now, c.requires.room) in
    let long : 128 ≤ length room = omega (arith, len, length-append first.new.self (drop 128 c.args.room.now)) in
    let same : take 128 room ≡ c.args.held.now = take_at first.new.self (drop 128 c.args.room.now) 128 len ∙ first.ensures.after in
    let now = put_mid 128 (length room - 128) room ys in
    let part : n + 128 - n ≡ 128 = omega arith in
    slid (length room - 128) n c.args.held.now room ys (g.S.Source.coming c.args.source.now) later long same c.in-Ok.ensures.bound.0 (c.in-Ok.ensures.bytes known)
    ∙ ap (λ h. take n now ++ (h ++ later)) (sym (c.copy_from_slice-2.ensures.after ∙ ap (λ m. take m (drop n now)) part))

pub returns-clause-same : goal.returns-clause-same
returns-clause-same g c = λ none.
    let first = c.copy_from_slice in
    let room = first.new.self ++ drop 128 c.args.room.now in
    let ys = c.pull.new.buf in
    let n = c.in-Ok.count in
    let len : length first.new.self ≡ 128 = omega (arith, first.ensures.len, length-take 128 c.args.room.now, c.requires.room) in
    let long : 128 ≤ length room = omega (arith, len, length-append first.new.self (drop 128 c.args.room.now)) in
    let same : take 128 room ≡ c.args.held.now = take_at first.new.self (drop 128 c.args.room.now) 128 len ∙ first.ensures.after in
    let now = put_mid 128 (length room - 128) room ys in
    let part : n + 128 - n ≡ 128 = omega arith in
    c.copy_from_slice-2.ensures.after ∙ ap (λ m. take m (drop n now)) part ∙ ap (λ m. take 128 (drop m now)) none
    ∙ still_held (length room - 128) c.args.held.now room ys long same
