-- Numbers that are compared with one at a start, where that one has stayed the same.
use Rattle.std.proofs.Common.{◌≡◌, ◌<◌, ◌≤◌, ℕ, subst}
use Rattle.flac_bits.specs.State.{Rises}

pub less_at : (a b c : ℕ) → a ≡ b → a < c → b < c
less_at a b c e h = subst (λ n. n < c) e h

pub most_at : (a b c : ℕ) → a ≡ b → a ≤ c → b ≤ c
most_at a b c e h = subst (λ n. n ≤ c) e h

pub rises_at : (a b c : ℕ) → a ≡ b → Rises a c → Rises b c
rises_at a b c e h = subst (λ n. Rises n c) e h
