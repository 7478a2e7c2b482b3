-- A step: at the end of a stream, and before.
use Rattle.std.proofs.Common.{◌≡◌, ◌&&◌, Bool, true, false, List, [], ◌∷◌, Ok, Err, inl, inr, refl, sym, ap, subst, ◌∙◌}
use Rattle.flac_bits.specs.Bits.{is_nil}
use Rattle.flac_bits.specs.State.{Cursor, fresh}
use Rattle.flac_bits.specs.Fence.{read_in}
use Rattle.flac_bits.specs.Layout.{Rule, because}
use Rattle.flac_bits.specs.Meaning.{AllKept, BreaksFirst}
use Rattle.flac_bits.specs.Items.{item, over, refused}
use Rattle.flac_bits.specs.inner.Items.{step_at, stepped, judged}
use Rattle.flac_bits.specs.declared.why.Why.{Why}
use Rattle.flac_native.specs.Stream.{Piece, Progress, Stand, grammar, layout, room_in, may_end_in, place_in, end_rules}
use Rattle.flac_native.specs.Track.{IsAt, info_in, stand_of}
use Rattle.flac_native.specs.declared.track.Track.{Track}
use Rattle.flac_native.specs.declared.fault.Place.{Place}
use Rattle.flac_native.specs.declared.fault.Place.TheVariants as place

all_kept : (at : Place) (rules : List Rule) → AllKept rules → judged {I = Piece} at rules ≡ over
all_kept at [] kept = refl
all_kept at (rule ∷ rules) kept = rw kept.0 (all_kept at rules kept.1)

first_broken : (at : Place) (rules : List Rule) (why : Why) → BreaksFirst rules why → judged {I = Piece} at rules ≡ refused at why
first_broken at [] why first = absurd first
first_broken at (rule ∷ rules) why (inl (e, is)) = rw (e, is) refl
first_broken at (rule ∷ rules) why (inr (e, first)) = rw e (first_broken at rules why first)

at_the_end : (t : Track) (p : Progress) (c : Cursor) (b : Bool) → IsAt t p → b ≡ true → b ≡ (may_end_in t.position.phase (info_in t.format) && is_nil c.left) → (may_end_in p.stand.phase p.stand.info && is_nil c.left) ≡ true
at_the_end t p c b at so is = ap (λ (s : Stand). may_end_in s.phase s.info && is_nil c.left) (sym at.stand) ∙ sym is ∙ so

pub over_here : (t : Track) (p : Progress) (c : Cursor) (b : Bool) → IsAt t p → b ≡ true → b ≡ (may_end_in t.position.phase (info_in t.format) && is_nil c.left)
    → AllKept (end_rules p.stand.info p.samples p.message) → step_at grammar p c ≡ over
over_here t p c b at so is kept = rw (at_the_end t p c b at so is) (all_kept place.End _ kept)

pub refused_here : (t : Track) (p : Progress) (c : Cursor) (b : Bool) (why : Why) → IsAt t p → b ≡ true → b ≡ (may_end_in t.position.phase (info_in t.format) && is_nil c.left)
    → BreaksFirst (end_rules p.stand.info p.samples p.message) why → step_at grammar p c ≡ refused place.End why
refused_here t p c b why at so is first = rw (at_the_end t p c b at so is) (first_broken place.End _ why first)

-- ---- before the end

not_over : (t : Track) (p : Progress) (c : Cursor) (b : Bool) → IsAt t p → b ≡ false → b ≡ (may_end_in t.position.phase (info_in t.format) && is_nil c.left) → (may_end_in p.stand.phase p.stand.info && is_nil c.left) ≡ false
not_over t p c b at so is = ap (λ (s : Stand). may_end_in s.phase s.info && is_nil c.left) (sym at.stand) ∙ sym is ∙ so

-- a part that was read from the same cursor, or refused there
pub part_here : (t : Track) (p : Progress) (c k : Cursor) (b : Bool) (x : Piece) (d : Cursor) → IsAt t p → b ≡ false → b ≡ (may_end_in t.position.phase (info_in t.format) && is_nil c.left) → k ≡ c
    → read_in (room_in t.position.phase) (layout (stand_of t)) (record k { mark = fresh k.mark }) ≡ Ok (x, d) → step_at grammar p c ≡ item x d
part_here t p c k b x d at so is same read =
    let there = subst (λ (j : Cursor). read_in (room_in t.position.phase) (layout (stand_of t)) (record j { mark = fresh j.mark }) ≡ Ok (x, d)) same read in
    let here = subst (λ (s : Stand). read_in (room_in s.phase) (layout s) (record c { mark = fresh c.mark }) ≡ Ok (x, d)) at.stand there in
    rw (not_over t p c b at so is) (ap (stepped (place_in p.stand.phase p.stand.index)) here)

pub part_refused_here : (t : Track) (p : Progress) (c k : Cursor) (b : Bool) (to : Place) (why : Why) → IsAt t p → b ≡ false → b ≡ (may_end_in t.position.phase (info_in t.format) && is_nil c.left) → k ≡ c
    → to ≡ place_in t.position.phase t.position.index → read_in (room_in t.position.phase) (layout (stand_of t)) (record k { mark = fresh k.mark }) ≡ Err (because why) → step_at grammar p c ≡ refused to why
part_refused_here t p c k b to why at so is same stands read =
    let there = subst (λ (j : Cursor). read_in (room_in t.position.phase) (layout (stand_of t)) (record j { mark = fresh j.mark }) ≡ Err (because why)) same read in
    let here = subst (λ (s : Stand). read_in (room_in s.phase) (layout s) (record c { mark = fresh c.mark }) ≡ Err (because why)) at.stand there in
    let place : place_in p.stand.phase p.stand.index ≡ to = ap (λ (s : Stand). place_in s.phase s.index) (sym at.stand) ∙ sym stands in
    rw (not_over t p c b at so is) (ap (stepped (place_in p.stand.phase p.stand.index)) here ∙ ap (λ j. refused j why) place)
