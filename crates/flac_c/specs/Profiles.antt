-- The profile of a call, which C gives as a number (RFC 9639, section 7).
use Rattle.std.specs.Prelude.{ℕ, cond, nat_eq}
use Rattle.flac_header.specs.declared.subset.Profile.{Profile}
use Rattle.flac_header.specs.declared.subset.Profile.TheVariants.{Subset, Lax}

-- 0 stands for the streamable subset, any other number for all streams
abbrev pub profile_of : ℕ → Profile
profile_of n = cond (nat_eq n 0) Subset Lax
