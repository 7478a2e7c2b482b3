-- Each code that names a rate or a depth is the one that is chosen for it.
use Rattle.std.proofs.Common.{◌≡◌, ◌≤◌, ◌<◌, ◌+◌, ℕ, zero, suc, Some, refl, arith}
use Rattle.flac_header.specs.Header.{rate_of_code, depth_of}
use Rattle.flac_header.specs.Choice.{rate_choice, depth_choice}

pub rates_back : (code : ℕ) → 1 ≤ code → code < 12 → rate_choice (rate_of_code code) ≡ Some code
unfolding rate_choice
rates_back zero p q = absurd (omega (arith, p))
rates_back (suc zero) p q = refl
rates_back (suc (suc zero)) p q = refl
rates_back (suc (suc (suc zero))) p q = refl
rates_back (suc (suc (suc (suc zero)))) p q = refl
rates_back (suc (suc (suc (suc (suc zero))))) p q = refl
rates_back (suc (suc (suc (suc (suc (suc zero)))))) p q = refl
rates_back (suc (suc (suc (suc (suc (suc (suc zero))))))) p q = refl
rates_back (suc (suc (suc (suc (suc (suc (suc (suc zero)))))))) p q = refl
rates_back (suc (suc (suc (suc (suc (suc (suc (suc (suc zero))))))))) p q = refl
rates_back (suc (suc (suc (suc (suc (suc (suc (suc (suc (suc zero)))))))))) p q = refl
rates_back (suc (suc (suc (suc (suc (suc (suc (suc (suc (suc (suc zero))))))))))) p q = refl
rates_back (suc (suc (suc (suc (suc (suc (suc (suc (suc (suc (suc (suc k)))))))))))) p q = absurd (omega (arith, q))

pub depths_back : (code : ℕ) → code < 8 → 0 < depth_of code → depth_choice (depth_of code) ≡ Some code
unfolding depth_choice
depths_back zero p q = absurd (omega (arith, q))
depths_back (suc zero) p q = refl
depths_back (suc (suc zero)) p q = refl
depths_back (suc (suc (suc zero))) p q = absurd (omega (arith, q))
depths_back (suc (suc (suc (suc zero)))) p q = refl
depths_back (suc (suc (suc (suc (suc zero))))) p q = refl
depths_back (suc (suc (suc (suc (suc (suc zero)))))) p q = refl
depths_back (suc (suc (suc (suc (suc (suc (suc zero))))))) p q = refl
depths_back (suc (suc (suc (suc (suc (suc (suc (suc k)))))))) p q = absurd (omega (arith, p))
