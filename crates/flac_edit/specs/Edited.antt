-- What edits make of a list of comments (RFC 9639, section 8.6).
use Rattle.std.specs.Prelude.{◌≡◌, ℕ, ◌+◌, Bool, ◌&&◌, cond, nat_eq, nat_lt, List, [], ◌∷◌, ◌++◌, length, take, drop, get_or}
use Rattle.std.specs.Str.{bytes_eq}
use Rattle.flac_meta.specs.Named.{same_name}
use Rattle.flac_meta.specs.declared.comments.Comments.{Comments}
use Rattle.flac_edit.specs.declared.edits.Edit.{Edit}
use Rattle.flac_edit.specs.declared.edits.Edit.TheVariants as edit

-- the comment is the name, but for the case of ASCII letters, and after it comes `=`, whose code is 61
abbrev pub is_named : List ℕ → List ℕ → Bool
is_named name text = nat_lt (length name) (length text) && (nat_eq (get_or text (length name) 0) 61 && same_name (take (length name) text) name)

-- the comments that have another name, in their order
abbrev pub without : List ℕ → List (List ℕ) → List (List ℕ)
without name [] = []
without name (text ∷ texts) = cond (is_named name text) (without name texts) (text ∷ without name texts)

-- it is of this name and this value, which is compared byte by byte
abbrev pub is_pair : List ℕ → List ℕ → List ℕ → Bool
is_pair name value text = is_named name text && bytes_eq (drop (length name + 1) text) value

-- the comments that are not of this name and this value, in their order
abbrev pub without_pair : List ℕ → List ℕ → List (List ℕ) → List (List ℕ)
without_pair name value [] = []
without_pair name value (text ∷ texts) = cond (is_pair name value text) (without_pair name value texts) (text ∷ without_pair name value texts)

-- the first comment of the name is replaced by this one, and all others of the name are taken away; if there is none, it is
-- added at the end
abbrev pub with_one : List ℕ → List ℕ → List (List ℕ) → List (List ℕ)
with_one name text [] = text ∷ []
with_one name text (old ∷ texts) = cond (is_named name old) (text ∷ without name texts) (old ∷ with_one name text texts)

abbrev pub edited_by : Edit → List (List ℕ) → List (List ℕ)
edited_by edit.Clear texts = []
edited_by (edit.Replace list) texts = list.now
edited_by (edit.Remove name) texts = without name.now texts
edited_by (edit.RemovePair name value) texts = without_pair name.now value.now texts
edited_by (edit.Set name value) texts = with_one name.now (name.now ++ 61 ∷ value.now) texts
edited_by (edit.Add name value) texts = texts ++ (name.now ++ 61 ∷ value.now) ∷ []

-- the edits one after another
abbrev pub all_edited : List Edit → List (List ℕ) → List (List ℕ)
all_edited [] texts = texts
all_edited (e ∷ es) texts = all_edited es (edited_by e texts)

-- the vendor stays
abbrev pub edited : List Edit → Comments → Comments
edited edits c = record { vendor = c.vendor; list = all_edited edits c.list }

-- ---- the same edits once more

-- Edits make the same of their own result.
abbrev pub Settles : List Edit → Type 0
Settles edits = (c : Comments) → edited edits (edited edits c) ≡ edited edits c

-- so do those that begin by taking all comments away or by putting others in their place, one that takes those of a name
-- away, and one that sets a comment
pub record EditsSettle : Type 0 where
  pub cleared : (edits : List Edit) → Settles (edit.Clear ∷ edits)
  pub replaced : (list : _) (edits : List Edit) → Settles (edit.Replace list ∷ edits)
  pub removed : (name : _) → Settles (edit.Remove name ∷ [])
  pub set : (name value : _) → Settles (edit.Set name value ∷ [])
