-- Where an Ogg stream ends in the bytes to come.
use Rattle.std.specs.Prelude.{ℕ, ◌+◌, ◌-◌, nat_le, Bool, cond, List, ◌++◌, length, drop, Option, Some, None, option_map}
use Rattle.flac_around.specs.Chains.{end_of}
use Rattle.flac_around.specs.declared.walk.Stand.{Stand}
use Rattle.flac_around.specs.declared.walk.Stand.TheVariants.{Lead, Body, Over, Plain}

-- if so many bytes of a page are left, which is marked last or not
abbrev pub end_past : (left : ℕ) (last : Bool) → List ℕ → Option ℕ
end_past left last coming = cond (nat_le left (length coming)) (cond last (Some left) (option_map (λ k. left + k) (end_of (drop left coming)))) None

-- after the bytes `seen` of a page before its segments; in its segments; at the end; and where no page is
abbrev pub end_ahead : Stand → (seen coming : List ℕ) → Option ℕ
end_ahead Lead seen coming = option_map (λ k. k - length seen) (end_of (seen ++ coming))
end_ahead (Body left last) seen coming = end_past left last coming
end_ahead Over seen coming = Some 0
end_ahead Plain seen coming = None
