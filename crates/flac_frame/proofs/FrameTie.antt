-- The layout of a frame spells the frames of valid forms, as their spellings.
use Rattle.std.proofs.Common.{◌≡◌, ℕ, zero, suc, ◌-◌, ◌*◌, ◌%◌, ◌^◌, ◌<◌, ◌≤◌, ℤ, Bool, true, false, not, cond, nat_eq, nat_le, bit_xor, List, [], ◌∷◌, ◌++◌, length, Option, Some, None, refl, sym, ap, subst, ◌∙◌, append_assoc, length-append, arith}
use Rattle.std.specs.Bool.{⊤}
use Rattle.std.proofs.lemmas.Bool.Decides.{nat_tests}
use Rattle.std.proofs.lemmas.List.{append-nil}
use Rattle.std.proofs.lemmas.Nat.{pow_pos, xor_of_16}
use Rattle.std.specs.Int.{bit_at}
use Rattle.flac_bits.specs.Bits.{unsigned}
use Rattle.flac_bits.specs.State.{Mark, past}
use Rattle.flac_bits.specs.Check.{remainder, power}
use Rattle.flac_bits.specs.inner.Forms.{Ties}
use Rattle.flac_bits.specs.Meaning.{Spells}
use Rattle.flac_bits.specs.declared.why.Why.{Why}
use Rattle.flac_bits.specs.declared.why.Why.TheVariants.{SampleRange}
use Rattle.flac_bits.proofs.Check.{check16_is}
use Rattle.flac_bits.proofs.Readings.{past-append}
use Rattle.flac_bits.proofs.Marks.{past-unread}
use Rattle.flac_bits.proofs.Meaning.{again}
use Rattle.flac_bits.proofs.Ties.{tie}
use Rattle.flac_bits.proofs.Words.{length-unsigned}
use Rattle.flac_info.specs.Info.{Info, KeepsRules}
use Rattle.flac_header.specs.Header.{Header, IsHeader, least_size}
use Rattle.flac_header.specs.Spelling.{header_spelling}
use Rattle.flac_header.proofs.HeaderTie.{header_tie}
use Rattle.flac_header.specs.declared.subset.Profile.{Profile}
use Rattle.flac_header.specs.declared.subset.Profile.TheVariants.{Subset, Lax}
use Rattle.flac_frame.specs.Frame.{Frame, frame, frame_body, subframes, frame_end, limits_of, each_fits, in_range, some_or}
use Rattle.flac_frame.specs.Stereo.{joined}
use Rattle.flac_frame.specs.Spelling.{FrameForm, subframes_spelling, filled, checked, frame_spelling, IsFrame, FrameSamples, frame_with, IsSpelled, FramesAreSpelled, FramesAreReadAgain, FramesAreBytes}
use Rattle.flac_frame.specs.declared.before.Before.{Before}
use Rattle.flac_frame.proofs.Following.{judged_header, header_judged}
use Rattle.flac_frame.proofs.Gathered.{gather, subframes_only, subframes_each, gathered, have_gathered}

-- ---- a remainder of 16 bits

choice_small : (b : Bool) (x y : ℕ) → x < 2 ^ 16 → y < 2 ^ 16 → cond b x y < 2 ^ 16
choice_small true x y h k = h
choice_small false x y h k = k

power_small : (j : ℕ) → power 16 32773 j < 2 ^ 16
power_small zero = omega arith
power_small (suc j) =
    let c = power 16 32773 j in
    let low : 2 * c % 2 ^ 16 < 2 ^ 16 = omega arith in
    choice_small (nat_eq (bit_at c 15) 1) (bit_xor (2 * c % 2 ^ 16) 32773) (2 * c % 2 ^ 16) (xor_of_16 (2 * c % 2 ^ 16) 32773 low (omega arith)) low

check_small : (bs : List Bool) → remainder 16 32773 bs < 2 ^ 16
check_small [] = omega arith
check_small (b ∷ bs) = xor_of_16 (cond b (power 16 32773 (length bs)) 0) (remainder 16 32773 bs) (choice_small b (power 16 32773 (length bs)) 0 (power_small (length bs)) (omega arith)) (check_small bs)

-- ---- the end

abbrev zeros : Mark → List Bool
zeros k = unsigned k.unread 0

abbrev end_spelling : Mark → List Bool
end_spelling k = zeros k ++ unsigned 16 (past (zeros k) k).check16

is_zero : (v : ℕ) → not (nat_eq v 0) ≡ false → v ≡ 0
is_zero v h = grind (arith, nat_tests)

is_same : (a b : ℕ) → not (nat_eq a b) ≡ false → a ≡ b
is_same a b h = grind (arith, nat_tests)

no_other : (a b : ℕ) → a ≡ b → not (nat_eq a b) ≡ false
no_other a b h = grind (arith, nat_tests)

end_text : (k : Mark) (v stored : ℕ) → v ≡ 0 → stored ≡ (past (unsigned k.unread v ++ []) k).check16 → (unsigned k.unread v ++ []) ++ (unsigned 16 stored ++ []) ≡ end_spelling k
end_text k v stored z is = rw (is, z, append-nil (unsigned k.unread 0)) refl

end_tie : (k : Mark) → (past (zeros k) k).check16 < 2 ^ 16 → Ties frame_end k (λ u. ⊤) (λ u. end_spelling k)
unfolding frame_end
end_tie k small = tie frame_end k (λ u. ⊤) (λ u. end_spelling k)
    (λ v lt zero stored less same. (tt, end_text k v stored (is_zero v zero.0) (is_same stored _ same.0)))
    (λ u valid.
    let check = (past (zeros k) k).check16 in
    let is : check ≡ (past (zeros k ++ []) k).check16 = ap (λ t. (past t k).check16) (sym (append-nil (zeros k))) in
    (0, pow_pos k.unread, ((refl, tt), (check, small, ((no_other check _ is, tt), (end_text k 0 check refl is, refl))))))

-- what stands after a body is the zeros and its check
module _ (body : List Bool) (m : Mark) (whole : m.unread ≡ 0) (begun : m.check16 ≡ 0) where
  after_body : zeros (past body m) ≡ unsigned ((8 - length body % 8) % 8) 0
  after_body =
      let e : (past body m).unread ≡ (8 - length body % 8) % 8 = omega (arith, past-unread body 0 m whole (omega arith)) in
      ap (λ n. unsigned n 0) e

  body_check : (past (zeros (past body m)) (past body m)).check16 ≡ remainder 16 32773 (filled body)
  body_check =
      ap (λ (k : Mark). k.check16) (sym (past-append body (zeros (past body m)) m)) ∙ check16_is (body ++ zeros (past body m)) m begun ∙ ap (λ t. remainder 16 32773 (body ++ t)) after_body

  pub end_is : body ++ end_spelling (past body m) ≡ checked (filled body)
  end_is = sym (append_assoc body (zeros (past body m)) _) ∙ ap (λ t. (body ++ t) ++ unsigned 16 (past (zeros (past body m)) (past body m)).check16) after_body ∙ ap (λ n. filled body ++ unsigned 16 n) body_check

  end_small : (past (zeros (past body m)) (past body m)).check16 < 2 ^ 16
  end_small = rw body_check (check_small (filled body))

-- ---- the samples

some_only : (why : Why) (o : Option (List (List ℤ))) (m : Mark) (text : List Bool) (x : List (List ℤ)) → Spells (some_or why o) m text x → (text ≡ []) × (o ≡ Some x)
some_only why None m text x s = absurd s
some_only why (Some y) m text x s = (s.0, rw s.1 refl)

some_each : (why : Why) (o : Option (List (List ℤ))) (m : Mark) (x : List (List ℤ)) → o ≡ Some x → Spells (some_or why o) m [] x
some_each why None m x e = absurd cc
some_each why (Some y) m x e = (refl, cc)

range_only : (depth code : ℕ) (got : Option (List (List ℤ))) (channels : List (List ℤ)) → in_range depth code got ≡ Some channels
    → (kept : List (List ℤ)) × (got ≡ Some kept) × (joined code kept ≡ channels) × (each_fits depth channels ≡ true)
range_only depth code None channels e = absurd cc
range_only depth code (Some kept) channels e = go (each_fits depth (joined code kept)) refl e
  where
    go : (b : Bool) → each_fits depth (joined code kept) ≡ b → cond b (Some (joined code kept)) None ≡ Some channels
        → (k : List (List ℤ)) × (Some kept ≡ Some k) × (joined code k ≡ channels) × (each_fits depth channels ≡ true)
    go false fits e = absurd cc
    go true fits e = let same : joined code kept ≡ channels = cc in (kept, refl, same, ap (each_fits depth) (sym same) ∙ fits)

range_each : (depth code : ℕ) (got : Option (List (List ℤ))) (kept channels : List (List ℤ)) → got ≡ Some kept → joined code kept ≡ channels → each_fits depth channels ≡ true → in_range depth code got ≡ Some channels
range_each depth code got kept channels e same fits = rw (e, same, fits) refl

-- ---- the whole

power_some : (k : ℕ) → 1 ≤ 144 * 2 ^ k
power_some k = omega (arith, pow_pos k)

size_some : (h : Header) → IsHeader h → 1 ≤ h.size
size_some h v = omega (arith, v.size.least, least h.size_code)
  where
    tested : (a b c d : Bool) (x : ℕ) → 1 ≤ x → 1 ≤ cond a 1 (cond b 1 (cond c 192 (cond d x x)))
    tested true b c d x h = omega arith
    tested false true c d x h = omega arith
    tested false false true d x h = omega arith
    tested false false false true x h = h
    tested false false false false x h = h

    least : (code : ℕ) → 1 ≤ least_size code
    least code = grind (arith, nat_tests, power_some code, pow_pos code)

few_orders : (profile : Profile) (info : Info) → (limits_of profile info).linear ≤ 32
few_orders Lax info = all
  where
    all : 32 ≤ 32
    all = omega arith
few_orders Subset info = go (nat_le info.rate 48000)
  where
    go : (b : Bool) → cond b 12 32 ≤ 32
    go true = omega arith
    go false = omega arith

module _ (profile : Profile) (info : Info) (before : Option Before) (m : Mark) (rules : KeepsRules info) (whole : m.unread ≡ 0) (begun8 : m.check8 ≡ 0) (begun16 : m.check16 ≡ 0) where
  deep : 1 ≤ info.depth
  deep = omega (arith, rules.least_depth)

  frame_only : (text : List Bool) (x : Frame) → Spells (frame profile info before) m text x → IsSpelled profile info before x text
  unfolding frame frame_body frame_spelling
  frame_only text x (h, front, rest, split, s, (got, first, second, parted, subs, (u, e, third, cut, end, (channels, none, nothing, last, fit, is)))) =
      let j = judged_header profile info before m front h s in
      let t = (header_tie m begun8).only front h j.0 in
      let f = subframes_only info.depth h.channel_code h.size (limits_of profile info) deep (size_some h t.0) (few_orders profile info) info.channels (Some []) 0 (past front m) first got subs in
      let body : List Bool = front ++ first in
      let at : past first (past front m) ≡ past body m = sym (past-append front first m) in
      let ends = (end_tie (past body m) (end_small body m whole begun16)).only e u (subst (λ k. Spells frame_end k e u) at end) in
      let some = some_only SampleRange (in_range info.depth h.channel_code got) _ none channels fit in
      let range = range_only info.depth h.channel_code got channels some.1 in
      let kept = gathered info.depth h.channel_code h.size f.0 [] 0 range.0 (f.4 ∙ range.1) in
      let form : FrameForm = record { header = h; subframes = f.0 } in
      let third_is : third ≡ [] = last ∙ rw (some.0, is.0) refl in
      let text_is : text ≡ body ++ e = split ∙ ap (λ t. front ++ t) (parted ∙ ap (λ t. first ++ t) (cut ∙ rw third_is (append-nil e))) ∙ sym (append_assoc front first e) in
      let body_is : body ≡ header_spelling h ++ subframes_spelling info.depth h.channel_code 0 f.0 = ap (λ t. t ++ first) t.1 ∙ ap (λ t. header_spelling h ++ t) f.3 in
      let x_is : x ≡ frame_with h channels = sym is.1 in
      record {
        form = form;
        valid = record { header = t.0; follows = j.1; many = f.1; subframes = f.2 };
        spelling = text_is ∙ ap (λ t. body ++ t) ends.1 ∙ end_is body m whole begun16 ∙ ap (λ t. checked (filled t)) body_is;
        frame = rw x_is refl;
        samples = rw x_is (record { kept = kept.0; subframes = kept.1; joined = ap (joined h.channel_code) (sym kept.2) ∙ range.2; fit = range.3 });
      }

  frame_each : (f : FrameForm) (channels : List (List ℤ)) → IsFrame profile info before f → FrameSamples info.depth f channels → Spells (frame profile info before) m (frame_spelling info.depth f) (frame_with f.header channels)
  unfolding frame frame_body frame_spelling
  frame_each f channels v s =
      let h = f.header in
      let front = header_spelling h in
      let first = subframes_spelling info.depth h.channel_code 0 f.subframes in
      let body : List Bool = front ++ first in
      let at : past first (past front m) ≡ past body m = sym (past-append front first m) in
      let got = gather info.depth h.channel_code h.size (Some []) 0 f.subframes in
      let e = end_spelling (past body m) in
      let subs = subframes_each info.depth h.channel_code h.size (limits_of profile info) deep (size_some h v.header) (few_orders profile info) f.subframes (Some []) 0 (past front m) v.subframes in
      let is : got ≡ Some s.kept = have_gathered info.depth h.channel_code h.size f.subframes s.kept [] 0 s.subframes in
      let text_is : checked (filled body) ≡ front ++ (first ++ e) = sym (end_is body m whole begun16) ∙ append_assoc front first e in (
        h,
        front,
        first ++ e,
        text_is,
        header_judged profile info before m front h ((header_tie m begun8).each h v.header) v.follows,
        (
          got,
          first,
          e,
          refl,
          subst (λ n. Spells (subframes info.depth h.channel_code h.size (limits_of profile info) (Some []) 0 n) (past front m) first got) v.many subs,
          (
            tt,
            e,
            [],
            sym (append-nil e),
            subst (λ k. Spells frame_end k e tt) (sym at) ((end_tie (past body m) (end_small body m whole begun16)).each tt tt),
            (channels, [], [], refl, some_each SampleRange (in_range info.depth h.channel_code got) _ channels (range_each info.depth h.channel_code got s.kept channels is s.joined s.fit), (refl, refl)),
          ),
        ),
      )

pub frames_spelled : FramesAreSpelled
frames_spelled profile info before m text x rules whole begun8 begun16 = (
  frame_only profile info before m rules whole begun8 begun16 text x,
  λ k.
      let s = frame_each profile info before m rules whole begun8 begun16 k.form x.channels k.valid k.samples in
      let t = subst (λ t. Spells (frame profile info before) m t (frame_with k.form.header x.channels)) (sym k.spelling) s in
      subst (λ y. Spells (frame profile info before) m text y) (sym k.frame) t,
)

pub frames_again : FramesAreReadAgain
frames_again profile info before m rest f channels rules whole begun8 begun16 v s =
    again (frame profile info before) m (frame_spelling info.depth f) rest (frame_with f.header channels) (frame_each profile info before m rules whole begun8 begun16 f channels v s)

pub frames_bytes : FramesAreBytes
unfolding frame_spelling
frames_bytes depth f =
    let body = header_spelling f.header ++ subframes_spelling depth f.header.channel_code 0 f.subframes in
    let n = (8 - length body % 8) % 8 in
    omega (arith, length-append (filled body) (unsigned 16 (remainder 16 32773 (filled body))), length-append body (unsigned n 0), length-unsigned n 0, length-unsigned 16 (remainder 16 32773 (filled body)))
