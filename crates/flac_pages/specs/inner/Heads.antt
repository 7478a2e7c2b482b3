-- The bytes of a page before its lacing values (RFC 3533, section 6).
use Rattle.std.specs.Prelude.{ℕ, List, [], ◌∷◌, ◌++◌}
use Rattle.std.specs.Int.{to_le_bytes, w32, w64}
use Rattle.flac_pages.specs.declared.page.Head.{Head}

-- fields 1 to 8: the pattern OggS, version 0, the fields of the head with this sum in place of its own, and how many
-- lacing values follow
abbrev pub head_bytes : Head → (sum count : ℕ) → List ℕ
head_bytes h sum count = (0x4F ∷ 0x67 ∷ 0x67 ∷ 0x53 ∷ 0 ∷ h.flags ∷ []) ++ (to_le_bytes w64 h.granule ++ (to_le_bytes w32 h.serial ++ (to_le_bytes w32 h.sequence ++ (to_le_bytes w32 sum ++ (count ∷ [])))))
