-- The two coding methods, by the bits of their parameters.
use Rattle.std.proofs.Common.{◌≡◌, ◌⊎◌, refl, inl, inr, ℕ, ◌+◌, ◌-◌}
use Rattle.flac_subframe.specs.declared.format.coding_method.CodingMethod.{CodingMethod}
use Rattle.flac_subframe.specs.declared.format.coding_method.CodingMethod.TheVariants.{FourBits, FiveBits}
use Rattle.flac_subframe.specs.format.Cost.{parameter_bits_of}
use Rattle.flac_subframe.specs.format.inner.Codes.{method_code}

pub method_bits : (w : ℕ) → (w ≡ 4) ⊎ (w ≡ 5) → 4 + (w - 4) ≡ w
method_bits w (inl e) = rw e refl
method_bits w (inr e) = rw e refl

pub bits_of_code : (m : CodingMethod) → parameter_bits_of m ≡ 4 + method_code m
bits_of_code FourBits = refl
bits_of_code FiveBits = refl

pub code_of_bits : (m : CodingMethod) → parameter_bits_of m - 4 ≡ method_code m
code_of_bits FourBits = refl
code_of_bits FiveBits = refl

pub four_or_five : (m : CodingMethod) → (parameter_bits_of m ≡ 4) ⊎ (parameter_bits_of m ≡ 5)
four_or_five FourBits = inl refl
four_or_five FiveBits = inr refl
