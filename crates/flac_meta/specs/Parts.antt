-- Name and value of a comment (RFC 9639, section 8.6).
use Rattle.std.specs.Prelude.{◌≡◌, ◌≢◌, ℕ, ◌<◌, List, [], ◌∷◌, ◌++◌, length, get_or, slice_index_or}

-- no byte of the text is `=`, whose code is 61
abbrev pub HasNoEquals : List ℕ → Type 0
HasNoEquals text = (k : ℕ) → k < length text → get_or text k 0 ≢ 61

-- the comment of this number, counted from 0, is there, and is this text
abbrev pub IsAt : List (List ℕ) → ℕ → List ℕ → Type 0
IsAt list i text = (i < length list) × (text ≡ slice_index_or list i [])

-- there is no such comment, or it has no `=`
abbrev pub LacksParts : List (List ℕ) → ℕ → Type 0
LacksParts list i = i < length list → HasNoEquals (get_or list i [])

-- the comment is the name, the first `=` of it and the value
pub record AreParts (list : List (List ℕ)) (i : ℕ) (name value : List ℕ) : Type 0 where
  pub there : i < length list
  pub joined : get_or list i [] ≡ name ++ 61 ∷ value
  pub first : HasNoEquals name
