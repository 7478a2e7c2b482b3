-- What a header that was accepted keeps.
use Rattle.std.proofs.Common.{◌≡◌, ℕ, ◌≤◌, Bool, true, false, not, ◌&&◌, ◌||◌, nat_eq, nat_lt, nat_le, [], ◌∷◌, Option, Some, None, Result, Ok, Err, refl, arith}
use Rattle.std.proofs.lemmas.Bool.Decides.{nat_tests}
use Rattle.flac_bits.specs.State.{Cursor}
use Rattle.flac_bits.specs.Layout.{Reason, because, and_then, unless_broken}
use Rattle.flac_bits.specs.declared.why.Why.TheVariants.{NotSubset, HeaderMismatch, Sequence, BlockSize}
use Rattle.flac_header.specs.Header.{Header, channels_of, allowed, greatest_block, greatest_in}
use Rattle.flac_header.specs.declared.subset.Profile.{Profile}
use Rattle.flac_header.specs.declared.subset.Profile.TheVariants.{Subset, Lax}
use Rattle.flac_info.specs.Info.{Info}
use Rattle.flac_frame.specs.Frame.{differs, breaks_size}
use Rattle.flac_frame.specs.declared.before.Before.{Before}

parts : (a b : Bool) (x y : ℕ) → (a && b && nat_le x y) ≡ true → x ≤ y
parts true true x y h = grind (arith, nat_tests)
parts true false x y h = absurd cc
parts false b x y h = absurd cc

rates : (a b : ℕ) (c d : Bool) → not (nat_eq a b && c && d) ≡ false → a ≡ b
rates a b true true h = grind (arith, nat_tests)
rates a b true false h = grind (arith, nat_tests)
rates a b false d h = grind (arith, nat_tests)

first_kept : (a b : ℕ) (c d : Bool) → (nat_lt a b || c || d) ≡ false → b ≤ a
first_kept a b c d h = grind (arith, nat_tests)

pub size_allowed : (profile : Profile) (info : Info) (h : Header) → h.size ≤ 65535 → allowed profile h ≡ true → differs profile info h ≡ false → h.size ≤ greatest_in profile info.rate
unfolding allowed
size_allowed Subset info h few ok same =
    let e : h.rate ≡ info.rate = rates h.rate info.rate _ _ same in
    rw (← e) (parts (not (nat_eq h.rate_code 0)) (not (nat_eq h.depth_code 0)) h.size (greatest_block h.rate) ok)
size_allowed Lax info h few ok same = few

pub size_small : (info : Info) (before : Option Before) (h : Header) → breaks_size info before h ≡ false → h.size ≤ info.greatest_block
size_small info None h e = grind (arith, nat_tests)
size_small info (Some b) h e = first_kept info.greatest_block h.size _ _ e

-- rate, channel count and depth are those of STREAMINFO
pub channels_same : (profile : Profile) (info : Info) (h : Header) → differs profile info h ≡ false → channels_of h.channel_code ≡ info.channels
channels_same profile info h same = second _ _ _ _ same
  where
    second : (a : Bool) (n m : ℕ) (d : Bool) → not (a && nat_eq n m && d) ≡ false → n ≡ m
    second true n m d h = rates n m d true (grind (arith, nat_tests))
    second false n m d h = absurd cc

-- ---- the rules, judged in their order

-- what they give of a header
abbrev pub judged : (allowed differs sequence size : Bool) → Header → Cursor → Result (Header × Cursor) Reason
judged allowed differs sequence size h at =
    and_then (unless_broken (record { broken = not allowed; why = NotSubset } ∷ record { broken = differs; why = HeaderMismatch } ∷ record { broken = sequence; why = Sequence } ∷ record { broken = size; why = BlockSize } ∷ []) (Ok (tt {0}, at)))
    (λ u d. Ok (h, d))

-- the first that is broken gives the reason
pub not_allowed : (a d s b : Bool) (h : Header) (at : Cursor) → a ≡ false → judged a d s b h at ≡ Err (because NotSubset)
not_allowed a d s b h at e = rw e refl

pub differing : (a d s b : Bool) (h : Header) (at : Cursor) → a ≡ true → d ≡ true → judged a d s b h at ≡ Err (because HeaderMismatch)
differing a d s b h at e f = rw (e, f) refl

pub out_of_sequence : (a d s b : Bool) (h : Header) (at : Cursor) → a ≡ true → d ≡ false → s ≡ true → judged a d s b h at ≡ Err (because Sequence)
out_of_sequence a d s b h at e f g = rw (e, f, g) refl

pub of_wrong_size : (a d s b : Bool) (h : Header) (at : Cursor) → a ≡ true → d ≡ false → s ≡ false → b ≡ true → judged a d s b h at ≡ Err (because BlockSize)
of_wrong_size a d s b h at e f g k = rw (e, f, g, k) refl

pub accepted : (a d s b : Bool) (h : Header) (at : Cursor) → a ≡ true → d ≡ false → s ≡ false → b ≡ false → judged a d s b h at ≡ Ok (h, at)
accepted a d s b h at e f g k = rw (e, f, g, k) refl
