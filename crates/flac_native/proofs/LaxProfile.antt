-- A stream of the streamable subset is a stream of the same items without the subset's limits.
use Rattle.std.proofs.Common.{◌≡◌, List, [], ◌∷◌, Bool, true, refl, sym, ap, subst, ◌∙◌}
use Rattle.flac_bits.specs.State.{Mark, past, fresh}
use Rattle.flac_bits.specs.Meaning.{Spells, AllKept}
use Rattle.flac_bits.specs.Items.{Joined, state_after}
use Rattle.flac_bits.proofs.ItemSpellings.{fresh_unread, fresh_check8, fresh_check16, after_whole}
use Rattle.flac_header.specs.declared.subset.Profile.TheVariants.{Subset, Lax}
use Rattle.flac_frame.specs.Frame.{frame}
use Rattle.flac_frame.proofs.LaxProfile.{frame_in_lax}
use Rattle.flac_native.specs.Stream.{Piece, marked, block, framed, Stand, Progress, grammar, opening, next, layout, layout_in}
use Rattle.flac_native.specs.LaxProfile.{SubsetIsLax}
use Rattle.flac_native.specs.declared.track.Phase.{Phase}
use Rattle.flac_native.specs.declared.track.Phase.TheVariants.{Opening, Blocks, Frames}
use Rattle.flac_native.proofs.Onwards.{Told, nothing_told, step_of, frame_there, as_part, next_profile}

-- the same state, but for the profile
abbrev pub lax : Stand → Stand
lax s = record s { profile = Lax }

abbrev pub in_lax : Progress → Progress
in_lax p = record p { stand = lax p.stand }

same_marker : (s : Stand) (m : Mark) (text : List Bool) (x : Piece) → Spells (layout_in Opening s) m text x → Spells (layout_in Opening (lax s)) m text x
same_marker s m text x h = h

same_block : (s : Stand) (m : Mark) (text : List Bool) (x : Piece) → Spells (layout_in Blocks s) m text x → Spells (layout_in Blocks (lax s)) m text x
same_block s m text x h = h

-- at a whole byte where the checks begin
abbrev pub IsBegun : Mark → Type 0
IsBegun m = (m.unread ≡ 0) × (m.check8 ≡ 0) × (m.check16 ≡ 0)

pub part_lax : (s : Stand) (m : Mark) (text : List Bool) (x : Piece) → s.profile ≡ Subset → Told s.info → (s.phase ≡ Frames → IsBegun m) → Spells (layout s) m text x → Spells (layout (lax s)) m text x
unfolding layout
part_lax s m text x judged told begun h = go s.phase refl
  where
    go : (phase : Phase) → s.phase ≡ phase → Spells (layout (lax s)) m text x
    go Opening e = subst (λ q. Spells (layout_in q (lax s)) m text x) (sym e) (same_marker s m text x (subst (λ q. Spells (layout_in q s) m text x) e h))
    go Blocks e = subst (λ q. Spells (layout_in q (lax s)) m text x) (sym e) (same_block s m text x (subst (λ q. Spells (layout_in q s) m text x) e h))
    go Frames e =
        let t = frame_there s m text x e h in
        let z = begun e in
        let here = subst (λ q. Spells (frame q t.info s.before) m text t.is) judged t.spelled in
        let there = frame_in_lax t.info s.before m text t.is (told t.info t.told) z.0 z.1 z.2 here in
        subst (λ y. Spells (layout (lax s)) m text y) (sym t.part) (as_part (lax s) t.info m text t.is e t.told there)

pub next_lax : (p : Progress) (x : Piece) → next (in_lax p) x ≡ in_lax (next p x)
next_lax p marked = refl
next_lax p (block last b) = refl
next_lax p (framed f) = refl

pub after_lax : (p : Progress) (items : List Piece) → state_after grammar (in_lax p) items ≡ in_lax (state_after grammar p items)
after_lax p [] = refl
after_lax p (x ∷ xs) = ap (λ q. state_after grammar q xs) (next_lax p x) ∙ after_lax (next p x) xs

all_lax : (p : Progress) (m : Mark) (items : List Piece) (text : List Bool) → p.stand.profile ≡ Subset → Told p.stand.info → m.unread ≡ 0 → Joined grammar p m items text → Joined grammar (in_lax p) m items text
all_lax p m [] text judged told u j = j
all_lax p m (x ∷ xs) text judged told u (front, rest, split, spelled, fits, others) =
    let s = step_of p.stand m front x told u spelled in
    let more = all_lax (next p x) (past front (fresh m)) xs rest (next_profile p x ∙ judged) s.rules (after_whole front (fresh m) (fresh_unread m u) s.whole) others in
    let on = subst (λ q. Joined grammar q (past front (fresh m)) xs rest) (sym (next_lax p x)) more in
    let here = part_lax p.stand (fresh m) front x judged told (λ e. (fresh_unread m u, fresh_check8 m u, fresh_check16 m u)) spelled in
    (front, rest, split, here, fits, on)

pub subset_is_lax : SubsetIsLax
subset_is_lax m items text u s =
    let same = sym (after_lax (opening Subset) items) in
    record {
      spelled = all_lax (opening Subset) m items text refl nothing_told u s.spelled;
      ends = subst (λ (q : Progress). grammar.may_end q ≡ true) same s.ends;
      kept = subst (λ (q : Progress). AllKept (grammar.at_end q)) same s.kept;
    }
