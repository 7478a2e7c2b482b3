-- No input begins with a marker and blocks in two ways, and none that does is refused before its frames.
use Rattle.std.proofs.Common.{◌≡◌, ℕ, Bool, true, false, List, [], ◌∷◌, ◌++◌, Some, inl, inr, refl, sym, ap, subst, ◌∙◌, append_assoc}
use Rattle.flac_bits.specs.State.{Cursor, Mark, past, fresh}
use Rattle.flac_bits.specs.Meaning.{Spells}
use Rattle.flac_bits.specs.Fence.{InRoom}
use Rattle.flac_bits.specs.Items.{Step, item, refused, state_after, Joined}
use Rattle.flac_bits.specs.inner.Items.{step_at}
use Rattle.flac_bits.specs.declared.why.Why.{Why}
use Rattle.flac_bits.proofs.Readings.{at_}
use Rattle.flac_bits.proofs.Items.{Steps, spelled_step, step_spelled, step_stops, refused_steps}
use Rattle.flac_info.specs.Info.{Info}
use Rattle.flac_meta.specs.declared.block.Block.{Block}
use Rattle.flac_meta.specs.declared.block.Block.TheVariants as block_of
use Rattle.flac_header.specs.declared.subset.Profile.TheVariants.{Subset}
use Rattle.flac_native.specs.Stream.{Piece, marked, block, Progress, grammar, opening, next, layout, layout_in, place_in}
use Rattle.flac_native.specs.Given.{closing}
use Rattle.flac_native.specs.Retag.{BeginsWith, IsRefused, HeadsAreOne, is_before_frames}
use Rattle.flac_native.specs.declared.fault.Place.{Place}
use Rattle.flac_native.specs.declared.track.Phase.{Phase}
use Rattle.flac_native.specs.declared.track.Phase.TheVariants.{Frames}
use Rattle.flac_native.proofs.Blocks.{frame_at}
use Rattle.flac_native.proofs.Deciding.{needs_bits, one_answer}

abbrev found : Piece → Cursor → Step Piece Place
found x d = item x d

same_item : (x y : Piece) (c d : Cursor) → found x c ≡ item y d → (x ≡ y) × (c ≡ d)
same_item x y c d e = (let p : x ≡ y = cc in p, let q : c ≡ d = cc in q)

no_item : (x : Piece) (d : Cursor) (at : Place) (why : Why) → found x d ≡ refused at why → ⊥
no_item x d at why e = absurd cc

-- what is spelled there is the next step
stepped : (p : Progress) (m : Mark) (text part rest left : List Bool) (x : Piece) → text ≡ part ++ rest → Spells (grammar.layout p) (fresh m) part x → InRoom (grammar.room p) (fresh m) part
    → step_at grammar p (at_ (text ++ left) m) ≡ found x (at_ (rest ++ left) (past part (fresh m)))
stepped p m text part rest left x split spelled fits =
    let whole : text ++ left ≡ part ++ (rest ++ left) = ap (λ t. t ++ left) split ∙ append_assoc part rest left in
    ap (λ t. step_at grammar p (at_ t m)) whole ∙ spelled_step grammar needs_bits p m part (rest ++ left) x spelled fits

-- ---- after the blocks nothing is refused at the marker or a block

not_early : (phase : Phase) (index : ℕ) (at : Place) → phase ≡ Frames → at ≡ place_in phase index → is_before_frames at ≡ true → ⊥
not_early phase index at e is early =
    let f = subst (λ k. at ≡ place_in k index) e is in
    let g = subst (λ k. is_before_frames k ≡ true) f early in absurd cc

late : (p : Progress) (c : Cursor) (ys : List Piece) (at : Place) (why : Why) → p.stand.phase ≡ Frames → Steps grammar p c ys (Some (at, why)) → is_before_frames at ≡ true → ⊥
unfolding layout
late p c [] at why phase s early = elim (step_stops grammar p c.mark c.left at why s) [
  | inl h ↦ not_early p.stand.phase p.stand.index at phase h.1 early
  | inr h ↦ let g = subst (λ k. is_before_frames k ≡ true) (h.1) early in absurd cc
]
late p c (y ∷ ys) at why phase (d, s, more) early =
    let t = step_spelled grammar p c.mark c.left y d s in
    let f = frame_at p.stand (fresh c.mark) t.0 y (subst (λ k. Spells (layout_in k p.stand) (fresh c.mark) t.0 y) phase t.2) in
    late (next p y) d ys at why (subst (λ z. (next p z).stand.phase ≡ Frames) (sym f.1) phase) more early

clash : (p : Progress) (m : Mark) (xs : List Piece) (front left : List Bool) (ys : List Piece) (at : Place) (why : Why) → Joined grammar p m xs front → (state_after grammar p xs).stand.phase ≡ Frames
    → Steps grammar p (at_ (front ++ left) m) ys (Some (at, why)) → is_before_frames at ≡ true → ⊥
clash p m [] front left ys at why j end s early = late p (at_ (front ++ left) m) ys at why end s early
clash p m (x ∷ xs) front left [] at why (part, rest, split, spelled, fits, others) end s early =
    no_item x (at_ (rest ++ left) (past part (fresh m))) at why (sym (stepped p m front part rest left x split spelled fits) ∙ s)
clash p m (x ∷ xs) front left (y ∷ ys) at why (part, rest, split, spelled, fits, others) end (d, s, more) early =
    let same = same_item x y (at_ (rest ++ left) (past part (fresh m))) d (sym (stepped p m front part rest left x split spelled fits) ∙ s) in
    let here : Steps grammar (next p x) (at_ (rest ++ left) (past part (fresh m))) ys (Some (at, why)) =
    subst (λ k. Steps grammar (next p x) k ys (Some (at, why))) (sym same.1) (subst (λ z. Steps grammar (next p z) d ys (Some (at, why))) (sym same.0) more) in
    clash (next p x) (past part (fresh m)) xs rest left ys at why others end here early

pub closing_ends : (p : Progress) (b : Block) (bs : List Block) → (state_after grammar p (closing (b ∷ bs))).stand.phase ≡ Frames
closing_ends p b [] = refl
closing_ends p b (c ∷ cs) = closing_ends (next p (block false b)) c cs

-- what begins well is not refused
pub not_refused : (m : Mark) (text : List Bool) (info : Info) (list : List Block) (rest : List Bool) (at : Place) (why : Why) → BeginsWith m text info list rest → IsRefused m text at why → ⊥
not_refused m text info list rest at why b r =
    clash (opening Subset) m (marked ∷ closing (block_of.StreamInfo info ∷ list)) b.head rest r.items at why b.spelled (closing_ends (next (opening Subset) marked) (block_of.StreamInfo info) list)
    (subst (λ t. Steps grammar (opening Subset) (at_ t m) r.items (Some (at, why))) b.stands (refused_steps grammar needs_bits (opening Subset) m r.items text at why r.refused)) r.place

-- ---- one refusal

pub one_refusal : (m : Mark) (text : List Bool) (at to : Place) (v w : Why) → IsRefused m text at v → IsRefused m text to w → (at ≡ to) × (v ≡ w)
one_refusal m text at to v w r q = let same = (one_answer (opening Subset) m text).refusals r.items q.items at to v w r.refused q.refused in (same.1, same.2)

-- ---- one way to begin

abbrev piece : Bool → Block → Piece
piece last b = block last b

same_block : (l k : Bool) (b c : Block) → piece l b ≡ block k c → (l ≡ k) × (b ≡ c)
same_block l k b c e = (let p : l ≡ k = cc in p, let q : b ≡ c = cc in q)

abbrev list_of : Block → List Block → List Block
list_of b bs = b ∷ bs

-- two first parts of the same bits are one, and what is after them begins at one place
pub heads : (p : Progress) (m : Mark) (x y : Piece) (xs ys : List Piece) (front left head rest : List Bool) → front ++ left ≡ head ++ rest → Joined grammar p m (x ∷ xs) front → Joined grammar p m (y ∷ ys) head
    → (x ≡ y) × (more : List Bool) × (more' : List Bool) × (k : Mark) × (more ++ left ≡ more' ++ rest) × Joined grammar (next p x) k xs more × Joined grammar (next p x) k ys more'
heads p m x y xs ys front left head rest e (part, more, split, spelled, fits, others) (part', more', split', spelled', fits', others') =
    let s = stepped p m front part more left x split spelled fits in
    let t = stepped p m head part' more' rest y split' spelled' fits' in
    let same = same_item x y (at_ (more ++ left) (past part (fresh m))) (at_ (more' ++ rest) (past part' (fresh m))) (sym s ∙ ap (λ k. step_at grammar p (at_ k m)) e ∙ t) in
    let marks : past part (fresh m) ≡ past part' (fresh m) = ap (λ (k : Cursor). k.mark) same.1 in (
      same.0,
      more,
      more',
      past part (fresh m),
      ap (λ (k : Cursor). k.left) same.1,
      others,
      subst (λ q. Joined grammar (next p x) q ys more') (sym marks) (subst (λ z. Joined grammar (next p z) (past part' (fresh m)) ys more') (sym same.0) others'),
    )

same_blocks : (p : Progress) (m : Mark) (b : Block) (bs : List Block) (c : Block) (cs : List Block) (front left head rest : List Bool) → front ++ left ≡ head ++ rest → Joined grammar p m (closing (b ∷ bs)) front → Joined grammar p m (closing (c ∷ cs)) head
    → (list_of b bs ≡ c ∷ cs) × (left ≡ rest)
same_blocks p m b [] c [] front left head rest e j k =
    let h = heads p m (block true b) (block true c) [] [] front left head rest e j k in
    (ap (λ x. list_of x []) (same_block true true b c h.0).1, ap (λ (t : List Bool). t ++ left) (sym h.5) ∙ h.4 ∙ ap (λ (t : List Bool). t ++ rest) h.6)
same_blocks p m b [] c (y ∷ ys) front left head rest e j k =
    let h = heads p m (block true b) (block false c) [] (closing (y ∷ ys)) front left head rest e j k in
    let l = (same_block true false b c h.0).0 in absurd cc
same_blocks p m b (x ∷ xs) c [] front left head rest e j k =
    let h = heads p m (block false b) (block true c) (closing (x ∷ xs)) [] front left head rest e j k in
    let l = (same_block false true b c h.0).0 in absurd cc
same_blocks p m b (x ∷ xs) c (y ∷ ys) front left head rest e j k =
    let h = heads p m (block false b) (block false c) (closing (x ∷ xs)) (closing (y ∷ ys)) front left head rest e j k in
    let r = same_blocks (next p (block false b)) h.3 x xs y ys h.1 left h.2 rest h.4 h.5 h.6 in
    (ap (λ z. list_of z (x ∷ xs)) (same_block false false b c h.0).1 ∙ ap (λ zs. list_of c zs) r.0, r.1)

pub one_head : (m : Mark) (text : List Bool) (i j : Info) (l k : List Block) (r t : List Bool) → BeginsWith m text i l r → BeginsWith m text j k t → (i ≡ j) × (l ≡ k) × (r ≡ t)
one_head m text i j l k r t b c =
    let h = heads (opening Subset) m marked marked (closing (block_of.StreamInfo i ∷ l)) (closing (block_of.StreamInfo j ∷ k)) b.head r c.head t (sym b.stands ∙ c.stands) b.spelled c.spelled in
    let s = same_blocks (next (opening Subset) marked) h.3 (block_of.StreamInfo i) l (block_of.StreamInfo j) k h.1 r h.2 t h.4 h.5 h.6 in
    same s.0 s.1
  where
    same : list_of (block_of.StreamInfo i) l ≡ block_of.StreamInfo j ∷ k → r ≡ t → (i ≡ j) × (l ≡ k) × (r ≡ t)
    same e f = (let p : i ≡ j = cc in p, let q : l ≡ k = cc in q, f)

pub heads_are_one : HeadsAreOne
heads_are_one m text = record {
  heads = λ i j l k r t b c. one_head m text i j l k r t b c;
  either = λ at why h r. not_refused m text h.info h.list h.rest at why h.begins r;
  refusals = λ at to v w r q. one_refusal m text at to v w r q;
}
