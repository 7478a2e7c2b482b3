-- What a layout means, apart from any reading: which bits spell a value, and which bits show a fault.
use Rattle.std.specs.Prelude.{◌≡◌, ℕ, suc, ◌^◌, ◌<◌, ◌≤◌, Bool, true, false, List, [], ◌∷◌, ◌++◌, length, replicate, Option, Some, None, ◌⊎◌, ⊤}
use Rattle.flac_bits.specs.Bits.{unsigned}
use Rattle.flac_bits.specs.State.{Mark, past, with_short}
use Rattle.flac_bits.specs.Layout.{Layout, done, bind, bits, unary, judge, refuse, mark, Rule}
use Rattle.flac_bits.specs.declared.why.Why.{Why}
use Rattle.flac_bits.specs.declared.why.Why.TheVariants.{Truncated}

-- q zeros and a one
abbrev pub unary_bits : ℕ → List Bool
unary_bits q = replicate q false ++ true ∷ []

-- no rule is broken
abbrev pub AllKept : List Rule → Type 0
AllKept [] = ⊤
AllKept (rule ∷ rules) = (rule.broken ≡ false) × AllKept rules

-- the first broken rule gives this reason
abbrev pub BreaksFirst : List Rule → Why → Type 0
BreaksFirst [] why = ⊥
BreaksFirst (rule ∷ rules) why = ((rule.broken ≡ true) × (rule.why ≡ why)) ⊎ ((rule.broken ≡ false) × BreaksFirst rules why)

-- zeros and a one, or one zero more than the limit
abbrev pub zeros_bits : ℕ → Option ℕ → List Bool
zeros_bits limit None = replicate (suc limit) false
zeros_bits limit (Some q) = unary_bits q

abbrev pub IsWithin : ℕ → Option ℕ → Type 0
IsWithin limit None = ⊤
IsWithin limit (Some q) = q ≤ limit

-- these bits, after a mark, spell the value
abbrev pub Spells : {A : Type 0} → Layout A → Mark → List Bool → A → Type 0
Spells (done x) m text y = (text ≡ []) × (x ≡ y)
Spells (bind {A = A} l f) m text y = (x : A) × (front : List Bool) × (rest : List Bool) × (text ≡ front ++ rest) × Spells l m front x × Spells (f x) (past front m) rest y
Spells (bits n) m text v = (v < 2 ^ n) × (text ≡ unsigned n v)
Spells (unary limit) m text o = IsWithin limit o × (text ≡ zeros_bits limit o)
Spells (judge rules) m text y = (text ≡ []) × AllKept rules
Spells (refuse why) m text y = ⊥
Spells mark m text v = (text ≡ []) × (with_short Truncated m ≡ v)

-- these bits are valid fields, at whose end the first rule that is broken has this reason
abbrev pub Shows : {A : Type 0} → Layout A → Mark → List Bool → Why → Type 0
Shows (done x) m front why = ⊥
Shows (bind {A = A} l f) m front why = Shows l m front why ⊎ ((x : A) × (part : List Bool) × (rest : List Bool) × (front ≡ part ++ rest) × Spells l m part x × Shows (f x) (past part m) rest why)
Shows (bits n) m front why = ⊥
Shows (unary limit) m front why = ⊥
Shows (judge rules) m front why = (front ≡ []) × BreaksFirst rules why
Shows (refuse w) m front why = (front ≡ []) × (w ≡ why)
Shows mark m front why = ⊥

-- these bits are valid fields, and end inside the next field
abbrev pub IsCut : {A : Type 0} → Layout A → Mark → List Bool → Type 0
IsCut (done x) m front = ⊥
IsCut (bind {A = A} l f) m front = IsCut l m front ⊎ ((x : A) × (part : List Bool) × (rest : List Bool) × (front ≡ part ++ rest) × Spells l m part x × IsCut (f x) (past part m) rest)
IsCut (bits n) m front = length front < n
IsCut (unary limit) m front = (q : ℕ) × (q ≤ limit) × (front ≡ replicate q false)
IsCut (judge rules) m front = ⊥
IsCut (refuse why) m front = ⊥
IsCut mark m front = ⊥
