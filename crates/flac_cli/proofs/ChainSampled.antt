-- What a writer of the samples of several streams took.
use Rattle.std.proofs.Common.{◌≡◌, ◌+◌, ℕ, Bool, true, List, [], ◌∷◌, ◌++◌, refl, sym, ap, subst, ◌∙◌, arith}
use Rattle.std.specs.Prelude.{◌&&◌, nat_lt, Option, None}
use Rattle.flac_bits.specs.Handing.{TakesAll}
use Rattle.flac_bits.specs.declared.target.Target as target
use Rattle.flac_native.specs.Decoding.{taken}
use Rattle.flac_native.specs.Item.{Item, metadata, frame}
use Rattle.flac_native.specs.Samples.{samples_from}
use Rattle.flac_native.specs.Stream.{Piece, marked, block, framed}
use Rattle.flac_native.proofs.Sampled as sampled
use Rattle.flac_cli.specs.ChainFormats.{AreOfFormat}
use Rattle.flac_cli.specs.inner.ChainSamples.{FormatAfter}
use Rattle.flac_cli.specs.inner.ChainTaking.{TakesInChain, IsFresh}
use Rattle.flac_cli.specs.declared.stream_format.StreamFormat.{StreamFormat}
use Rattle.flac_cli.specs.declared.chain_samples.ChainWriter.{ChainWriter}

module _ {T : Type 0} (h : target.Ghosts T) where
  abbrev takes : ChainWriter T h → Item → ChainWriter T h → Type 0
  takes old x new = TakesInChain h old x new

  abbrev Samples : ChainWriter T h → Item → ChainWriter T h → Type 0
  Samples = sampled.Takes (λ (s : ChainWriter T h). h.known s.writer.target) (λ s. h.sent s.writer.target) (λ s. s.writer.asked) (λ s. s.writer.depth)

  one_sampled : (old : ChainWriter T h) (x : Piece) (new : ChainWriter T h) → taken takes old x new → taken Samples old x new
  one_sampled old marked new t = t
  one_sampled old (block last b) new t = record { known = t.writer.known; asked = t.writer.asked; depth = t.writer.depth; sent = t.writer.sent }
  one_sampled old (framed f) new t = record { known = t.writer.known; asked = t.writer.asked; depth = t.writer.depth; sent = t.writer.sent }

  all_sampled : (old : ChainWriter T h) (xs : List Piece) (new : ChainWriter T h) → TakesAll (taken takes) old xs new → TakesAll (taken Samples) old xs new
  all_sampled old [] new t = t
  all_sampled old (x ∷ xs) new t = (t.0, one_sampled old x t.0 t.1, all_sampled t.0 xs new t.2)

  pub all_sent : (old : ChainWriter T h) (xs : List Piece) (new : ChainWriter T h) → TakesAll (taken takes) old xs new → IsFresh old → h.known old.writer.target ≡ true → h.sent new.writer.target ≡ h.sent old.writer.target ++ samples_from 0 0 xs
  all_sent old xs new t fresh known =
      sampled.all_written (λ (s : ChainWriter T h). h.known s.writer.target) (λ s. h.sent s.writer.target) (λ s. s.writer.asked) (λ s. s.writer.depth) old xs new (all_sampled old xs new t) known
      ∙ ap (λ n. h.sent old.writer.target ++ samples_from n old.writer.depth xs) fresh.asked ∙ ap (λ n. h.sent old.writer.target ++ samples_from 0 n xs) fresh.depth

  -- they have one format
  all_formed : (old : ChainWriter T h) (xs : List Piece) (new : ChainWriter T h) → TakesAll (taken takes) old xs new → AreOfFormat old.format xs
  all_formed old [] new t = tt
  all_formed old (marked ∷ xs) new t = subst (λ (s : ChainWriter T h). AreOfFormat s.format xs) (sym t.1) (all_formed t.0 xs new t.2)
  all_formed old (block last b ∷ xs) new t = (t.0.format, t.1.format, all_formed t.0 xs new t.2)
  all_formed old (framed f ∷ xs) new t = subst (λ (o : Option StreamFormat). AreOfFormat o xs) t.1.format (all_formed t.0 xs new t.2)

  pub one_format : (old : ChainWriter T h) (xs : List Piece) (new : ChainWriter T h) → TakesAll (taken takes) old xs new → IsFresh old → AreOfFormat None xs
  one_format old xs new t fresh = subst (λ (o : Option StreamFormat). AreOfFormat o xs) fresh.format (all_formed old xs new t)

  -- ---- its errors are counted

  abbrev is_known : ChainWriter T h → Bool
  is_known s = nat_lt s.others 18446744073709551615 && nat_lt s.writer.failures.count 18446744073709551615

  pub steady : (old : ChainWriter T h) (x : Item) (new : ChainWriter T h) → takes old x new → (is_known old ≡ true → is_known new ≡ true) × (new.others + new.writer.failures.count ≡ old.others + old.writer.failures.count)
  steady old x new t = (
    λ known. ap (λ n. nat_lt n 18446744073709551615 && nat_lt new.writer.failures.count 18446744073709551615) t.others ∙ ap (λ n. nat_lt old.others 18446744073709551615 && nat_lt n 18446744073709551615) t.failures ∙ known,
    ap (λ n. n + new.writer.failures.count) t.others ∙ ap (λ n. old.others + n) t.failures,
  )

  pub fresh_known : (s : ChainWriter T h) → IsFresh s → is_known s ≡ true
  fresh_known s fresh = ap (λ n. nat_lt n 18446744073709551615 && nat_lt s.writer.failures.count 18446744073709551615) fresh.others ∙ ap (λ n. nat_lt 0 18446744073709551615 && nat_lt n 18446744073709551615) fresh.failures

  pub fresh_none : (s : ChainWriter T h) → IsFresh s → s.others + s.writer.failures.count ≡ 0
  fresh_none s fresh = omega (arith, fresh.others, fresh.failures)
