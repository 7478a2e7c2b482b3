-- Parts of an input, and where their bytes are in it.
use Rattle.std.specs.Prelude.{◌≡◌, ℕ, ◌+◌, ◌-◌, ◌≤◌, cond, nat_eq, nat_lt, List, [], ◌∷◌, flat_map, length, take, ⊤}
use Rattle.flac_whole_pages.specs.Standing.{between}
use Rattle.flac_whole_pages.specs.declared.part.Part.{Part}
use Rattle.flac_whole_pages.specs.declared.part.Reached.{Reached}

-- parts of an input, one after another
abbrev pub joined : List ℕ → List Part → List ℕ
joined bytes parts = flat_map (λ q. between q.start q.end bytes) parts

-- how many bytes a part has
abbrev pub size_of : Part → ℕ
size_of q = q.end - q.start

-- Where the byte at an offset of the parts' bytes is in the input; it is where the input ends if there is no such byte.
unfoldable pub place_of : (end : ℕ) → List Part → (at : ℕ) → ℕ
place_of end [] at = end
place_of end (q ∷ more) at = cond (nat_lt at (size_of q)) (q.start + at) (place_of end more (at - size_of q))

-- where the byte before such an offset ends
abbrev pub place_after : (end : ℕ) → List Part → (at : ℕ) → ℕ
place_after end parts at = cond (nat_eq at 0) (place_of end parts 0) (place_of end parts (at - 1) + 1)

-- each part is inside the input
abbrev pub AreInside : (end : ℕ) → List Part → Type 0
AreInside end [] = ⊤
AreInside end (q ∷ more) = (q.start ≤ q.end) × (q.end ≤ end) × AreInside end more

-- how many bytes parts have
unfoldable pub sizes : List Part → ℕ
sizes [] = 0
sizes (q ∷ more) = size_of q + sizes more

-- the parts before the one that was reached have so many bytes
pub record AreReached (parts : List Part) (r : Reached) : Type 0 where
  pub index : r.index ≤ length parts
  pub before : r.before ≡ sizes (take r.index parts)

-- no part was reached yet
abbrev pub NoneReached : Reached → Type 0
NoneReached r = (parts : List Part) → AreReached parts r
