-- For proofs: where the next byte of a stream is, and where the stream ends.
use Rattle.std.specs.Prelude.{◌≡◌, ◌≤◌, ℕ, ◌+◌, nat_lt, Bool, true, cond, List, [], ◌++◌, length, Option, option_map}
use Rattle.flac_around.specs.EmptyPackets.{count_at}
use Rattle.flac_around.specs.Chains.{end_of}
use Rattle.flac_around.specs.Stands.{end_past, end_ahead}
use Rattle.flac_around.specs.declared.walk.Stand.{Stand}
use Rattle.flac_around.specs.declared.walk.Stand.TheVariants.{Lead, Body, Over, Plain}

-- how many bytes come before the segments of a page that begins with these, as far as they show it
abbrev pub lead_size : List ℕ → ℕ
lead_size seen = cond (nat_lt (length seen) 27) 27 (27 + count_at seen)

-- more of the page is to come
abbrev pub is_open : Stand → (seen : List ℕ) → Bool
is_open Lead seen = nat_lt (length seen) (lead_size seen)
is_open (Body left last) seen = nat_lt 0 left
is_open other seen = true

-- n bytes may pass
abbrev pub Fits : Stand → (seen : List ℕ) → (n : ℕ) → Type 0
Fits Lead seen n = length seen + n ≤ lead_size seen
Fits (Body left last) seen n = n ≤ left
Fits Over seen n = n ≡ 0
Fits Plain seen n = Unit {0}

-- the stream ends n bytes further on than from there
abbrev pub IsFurther : (n : ℕ) → (here there : Option ℕ) → Type 0
IsFurther n here there = here ≡ option_map (λ k. n + k) there

-- after the bytes before the segments of a page it stands so
abbrev pub StandsAfter : (seen : List ℕ) → Stand → Type 0
StandsAfter seen stand = (coming : List ℕ) → IsFurther (length seen) (end_of (seen ++ coming)) (end_ahead stand [] coming)

-- the same with so many bytes of the segments left
abbrev pub StandsIn : (left : ℕ) (last : Bool) → Stand → Type 0
StandsIn left last stand = (coming : List ℕ) → end_past left last coming ≡ end_ahead stand [] coming
