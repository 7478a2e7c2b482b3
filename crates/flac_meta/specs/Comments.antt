-- The Vorbis comment (RFC 9639, section 8.6).
use Rattle.std.specs.Prelude.{ℕ, ◌+◌, ◌-◌, ◌*◌, List, length}
use Rattle.flac_bits.specs.Layout.{Layout, done, ◌>>=◌}
use Rattle.flac_bits.specs.LittleEndian.{little_32}
use Rattle.flac_meta.specs.Fields.{part, needs, nothing_left, sized, in_turn}
use Rattle.flac_meta.specs.declared.comments.Comments.{Comments}

-- n texts, after which the content ends
unfoldable pub texts : ℕ → ℕ → Layout (List (List ℕ))
texts = in_turn (sized little_32) (λ left text. left - (4 + length text)) nothing_left

-- the vendor's text, the number of comments and the comments; each of them has at least the 4 bytes of its length
unfoldable pub comments : ℕ → Layout Comments
comments left = do
  vendor ← sized little_32 left
  let rest : ℕ = left - (4 + length vendor)
  count ← part 4 rest little_32
  _ ← needs (4 * count) (rest - 4)
  list ← texts count (rest - 4)
  done (record { vendor = vendor; list = list })
