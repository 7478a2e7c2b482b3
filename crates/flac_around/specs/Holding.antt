-- Bytes that are held.
use Rattle.std.specs.Prelude.{ℕ, ◌-◌, List, take, drop}

-- the part of them from one place up to another, which is still to be given
abbrev pub part : (at end : ℕ) → List ℕ → List ℕ
part at end held = take (end - at) (drop at held)
