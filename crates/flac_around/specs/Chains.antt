-- Chained Ogg streams, one after another (RFC 3533, section 4): where the first of them ends, and all of them.
use Rattle.std.specs.Prelude.{◌≡◌, ℕ, zero, suc, ◌+◌, ◌/◌, ◌%◌, ◌&&◌, nat_eq, nat_le, Bool, cond, List, [], ◌∷◌, ◌++◌, length, take, drop, get_or, Option, Some, None, option_map, unwrap_or}
use Rattle.std.specs.List.{concat}
use Rattle.flac_around.specs.EmptyPackets.{begins_page, page_length}

-- ---- the page at the start of an input (RFC 3533, section 6)

-- it is there, and whole
abbrev pub has_page : List ℕ → Bool
has_page bytes = begins_page bytes && nat_le (page_length bytes) (length bytes)

-- it is marked as the last of its stream (field 3: bit 04)
abbrev pub is_marked_last : List ℕ → Bool
is_marked_last bytes = nat_eq (get_or bytes 5 0 / 4 % 2) 1

-- ---- the first stream

-- Where the first stream ends: after the first page that is marked last, among at most n pages. There is no such place if
-- none of the pages is, up to the end of the input or to bytes that are no page.
unfoldable pub end_in : (n : ℕ) → List ℕ → Option ℕ
end_in zero bytes = None
end_in (suc n) bytes = cond (has_page bytes) (cond (is_marked_last bytes) (Some (page_length bytes)) (option_map (λ k. page_length bytes + k) (end_in n (drop (page_length bytes) bytes)))) None

-- each page has a byte at least, so that these are pages enough
abbrev pub end_of : List ℕ → Option ℕ
end_of bytes = end_in (length bytes) bytes

-- the bytes up to a place, and those after it: all and none, if there is no such place
abbrev pub place_in : Option ℕ → List ℕ → ℕ
place_in place bytes = unwrap_or place (length bytes)

abbrev pub up_to : Option ℕ → List ℕ → List ℕ
up_to place bytes = take (place_in place bytes) bytes

abbrev pub past : Option ℕ → List ℕ → List ℕ
past place bytes = drop (place_in place bytes) bytes

-- the bytes of the first stream, and those after it
abbrev pub first_link : List ℕ → List ℕ
first_link bytes = up_to (end_of bytes) bytes

abbrev pub later_links : List ℕ → List ℕ
later_links bytes = past (end_of bytes) bytes

-- ---- all streams

-- no byte is left
abbrev pub is_over : List ℕ → Bool
is_over bytes = nat_eq (length bytes) 0

-- The first n streams of an input, one after another. The bytes from the first on that begin no page, and those of a page
-- that is cut, are the end of a stream that is not whole.
unfoldable pub links_in : (n : ℕ) → List ℕ → List (List ℕ)
links_in zero bytes = []
links_in (suc n) bytes = first_link bytes ∷ cond (is_over (later_links bytes)) [] (links_in n (later_links bytes))

-- all of them: each has a byte at least, but for the one of an input without any
abbrev pub links : List ℕ → List (List ℕ)
links bytes = links_in (suc (length bytes)) bytes

-- ---- laws

-- The streams of an input, one after another, are the input.
abbrev pub LinksAreAll : Type 0
LinksAreAll = (bytes : List ℕ) → concat (links bytes) ≡ bytes

-- An input without a byte after its first stream is this stream alone.
abbrev pub OneStreamIsOneLink : Type 0
OneStreamIsOneLink = (bytes : List ℕ) → later_links bytes ≡ [] → links bytes ≡ bytes ∷ []

-- Bytes that end with the first page that is marked last are the first stream of an input, whatever follows them.
abbrev pub ends_whole : List ℕ → Type 0
ends_whole bytes = end_of bytes ≡ Some (length bytes)

abbrev pub WholeStreamsAreLinks : Type 0
WholeStreamsAreLinks = (front more : List ℕ) → ends_whole front → (first_link (front ++ more) ≡ front) × (later_links (front ++ more) ≡ more)
