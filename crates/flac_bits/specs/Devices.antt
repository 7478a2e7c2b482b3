-- What is known of a reader or a writer of the standard library, below a source or a target.
use Rattle.std.specs.Prelude.{◌≡◌, ℕ, true, List, [], ◌++◌, take, Option, is_some, unwrap_or}
use Rattle.flac_bits.specs.declared.counted.Counted.{Counted}

-- its bytes are known
abbrev pub IsKnown : {D : Type 0} → (D → Option (List ℕ)) → D → Type 0
IsKnown bytes device = is_some (bytes device) ≡ true

-- those bytes, none if they are not known
abbrev pub known_bytes : {D : Type 0} → (D → Option (List ℕ)) → D → List ℕ
known_bytes bytes device = unwrap_or (bytes device) []

-- the bytes to come of a reader, no more than can be counted
abbrev pub device_bytes : {D : Type 0} → (D → Option (List ℕ)) → Counted D → List ℕ
device_bytes bytes s = take s.room (known_bytes bytes s.device)

-- these came first of them
abbrev pub DeviceGave : {D : Type 0} → (D → Option (List ℕ)) → List ℕ → Counted D → Counted D → Type 0
DeviceGave bytes came old new = IsKnown bytes old.device → device_bytes bytes old ≡ came ++ device_bytes bytes new

-- none is to come
abbrev pub IsEmpty : {D : Type 0} → (D → Option (List ℕ)) → Counted D → Type 0
IsEmpty bytes s = IsKnown bytes s.device → device_bytes bytes s ≡ []

-- a writer got these bytes after those that it had
abbrev pub Got : {D : Type 0} → (D → Option (List ℕ)) → List ℕ → D → D → Type 0
Got bytes more old new = IsKnown bytes old → known_bytes bytes new ≡ known_bytes bytes old ++ more

-- it has what it had
abbrev pub GotNone : {D : Type 0} → (D → Option (List ℕ)) → D → D → Type 0
GotNone bytes old new = IsKnown bytes old → known_bytes bytes new ≡ known_bytes bytes old
