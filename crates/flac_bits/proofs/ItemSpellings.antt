-- Items one after another are their spellings joined.
use Rattle.std.proofs.Common.{◌≡◌, ◌≤◌, ◌*◌, ◌%◌, ℕ, Bool, List, [], ◌∷◌, ◌++◌, length, Option, Some, None, refl, sym, ap, subst, ◌∙◌, arith}
use Rattle.std.specs.Prelude.{⊤, ◌↔◌}
use Rattle.flac_bits.specs.State.{Mark, past, fresh}
use Rattle.flac_bits.specs.Fence.{InRoom}
use Rattle.flac_bits.specs.Items.{Grammar, Joined}
use Rattle.flac_bits.specs.inner.Forms.{Ties}
use Rattle.flac_bits.proofs.Marks.{past-unread}

-- a spelling, which begins at a whole byte, has no more bytes than it may have
abbrev pub FitsRoom : Option ℕ → List Bool → Type 0
FitsRoom None text = ⊤
FitsRoom (Some n) text = length text ≤ 8 * n

-- each item is valid after those before it, and its spelling fits its room
abbrev pub AllValid : {S I P : Type 0} → Grammar S I P → (S → I → Type 0) → (S → I → List Bool) → S → List I → Type 0
AllValid g valid spelling s [] = ⊤
AllValid g valid spelling s (x ∷ xs) = valid s x × FitsRoom (g.room s) (spelling s x) × AllValid g valid spelling (g.next s x) xs

-- the spellings of these items, joined
abbrev pub all_spelled : {S I P : Type 0} → Grammar S I P → (S → I → List Bool) → S → List I → List Bool
all_spelled g spelling s [] = []
all_spelled g spelling s (x ∷ xs) = spelling s x ++ all_spelled g spelling (g.next s x) xs

-- at a whole byte at which the checks begin, the layouts spell exactly the valid items, each in one way and in whole
-- bytes
pub record TiesItems {S I P : Type 0} (g : Grammar S I P) (valid : S → I → Type 0) (spelling : S → I → List Bool) : Type 0 where
  pub ties : (s : S) (m : Mark) → m.unread ≡ 0 → m.check8 ≡ 0 → m.check16 ≡ 0 → Ties (g.layout s) m (valid s) (spelling s)
  pub whole : (s : S) (x : I) → valid s x → length (spelling s x) % 8 ≡ 0

-- so items one after another are just the valid ones, and their bits the spellings joined
abbrev pub JoinsSpellings : {S I P : Type 0} → Grammar S I P → (S → I → Type 0) → (S → I → List Bool) → Type 0
JoinsSpellings {S = S} {I = I} g valid spelling =
    (s : S) (m : Mark) (items : List I) (text : List Bool) → m.unread ≡ 0 → Joined g s m items text ↔ (AllValid g valid spelling s items × (text ≡ all_spelled g spelling s items))

pub fresh_unread : (m : Mark) → m.unread ≡ 0 → (fresh m).unread ≡ 0
fresh_unread m z = rw z refl

pub fresh_check8 : (m : Mark) → m.unread ≡ 0 → (fresh m).check8 ≡ 0
fresh_check8 m z = rw z refl

pub fresh_check16 : (m : Mark) → m.unread ≡ 0 → (fresh m).check16 ≡ 0
fresh_check16 m z = rw z refl

in_room : (room : Option ℕ) (m : Mark) (text : List Bool) → m.unread ≡ 0 → FitsRoom room text → InRoom room m text
in_room None m text z fits = tt
in_room (Some n) m text z fits = omega (arith, z, fits)

fits_room : (room : Option ℕ) (m : Mark) (text : List Bool) → m.unread ≡ 0 → InRoom room m text → FitsRoom room text
fits_room None m text z fits = tt
fits_room (Some n) m text z fits = omega (arith, z, fits)

-- whole bytes end at a whole byte
pub after_whole : (text : List Bool) (m : Mark) → m.unread ≡ 0 → length text % 8 ≡ 0 → (past text m).unread ≡ 0
after_whole text m z whole = omega (arith, past-unread text 0 m z (omega arith), whole)

joined_only : {S I P : Type 0} (g : Grammar S I P) (valid : S → I → Type 0) (spelling : S → I → List Bool) → TiesItems g valid spelling
    → (s : S) (m : Mark) (items : List I) (text : List Bool) → m.unread ≡ 0 → Joined g s m items text → AllValid g valid spelling s items × (text ≡ all_spelled g spelling s items)
joined_only g valid spelling t s m [] text z j = (tt, j)
joined_only g valid spelling t s m (x ∷ xs) text z (front, rest, split, spelled, fits, others) =
    let u = fresh_unread m z in
    let one = (t.ties s (fresh m) u (fresh_check8 m z) (fresh_check16 m z)).only front x spelled in
    let whole : length front % 8 ≡ 0 = rw one.1 (t.whole s x one.0) in
    let more = joined_only g valid spelling t (g.next s x) (past front (fresh m)) xs rest (after_whole front (fresh m) u whole) others in
    let fits' : FitsRoom (g.room s) (spelling s x) = subst (λ f. FitsRoom (g.room s) f) one.1 (fits_room (g.room s) (fresh m) front u fits) in
    ((one.0, fits', more.0), split ∙ ap (λ f. f ++ rest) one.1 ∙ ap (λ r. spelling s x ++ r) more.1)

joined_each : {S I P : Type 0} (g : Grammar S I P) (valid : S → I → Type 0) (spelling : S → I → List Bool) → TiesItems g valid spelling
    → (s : S) (m : Mark) (items : List I) → m.unread ≡ 0 → AllValid g valid spelling s items → Joined g s m items (all_spelled g spelling s items)
joined_each g valid spelling t s m [] z v = refl
joined_each g valid spelling t s m (x ∷ xs) z (v, fits, others) =
    let u = fresh_unread m z in (
      spelling s x,
      all_spelled g spelling (g.next s x) xs,
      refl,
      (t.ties s (fresh m) u (fresh_check8 m z) (fresh_check16 m z)).each x v,
      in_room (g.room s) (fresh m) (spelling s x) u fits,
      joined_each g valid spelling t (g.next s x) (past (spelling s x) (fresh m)) xs (after_whole (spelling s x) (fresh m) u (t.whole s x v)) others,
    )

pub joins_spellings : {S I P : Type 0} (g : Grammar S I P) (valid : S → I → Type 0) (spelling : S → I → List Bool) → TiesItems g valid spelling → JoinsSpellings g valid spelling
joins_spellings g valid spelling t s m items text z = (
  joined_only g valid spelling t s m items text z,
  λ h. subst (λ k. Joined g s m items k) (sym h.1) (joined_each g valid spelling t s m items z h.0),
)
