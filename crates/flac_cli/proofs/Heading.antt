-- Blocks that are read one after another up to the last one.
use Rattle.std.proofs.Common.{◌≡◌, Bool, true, false, ◌||◌, ℕ, List, [], ◌∷◌, ◌++◌, Option, Some, None, Result, Ok, Err, IfErr, IfSome, OnOk, inl, inr, refl, sym, ap, subst, ◌∙◌, cond, append_assoc}
use Rattle.std.specs.Prelude.{◌≢◌}
use Rattle.flac_bits.specs.Items.{state_after}
use Rattle.flac_bits.specs.Bits.{bits_of}
use Rattle.flac_bits.specs.Handing.{reason_of, InputReading, TakesAll}
use Rattle.flac_bits.specs.State.{Mark}
use Rattle.flac_bits.specs.declared.why.Why.{Why}
use Rattle.flac_bits.specs.declared.why.Why.TheVariants as why
use Rattle.flac_meta.specs.declared.block.Block.{Block}
use Rattle.flac_native.specs.Stream.{Piece, marked, block, framed, Progress, Stand, grammar, next}
use Rattle.flac_native.specs.Track.{IsAt, is_after_blocks, is_going, stand_of}
use Rattle.flac_native.specs.Decoding.{taken}
use Rattle.flac_native.specs.Item.{Item, metadata, fault_pair}
use Rattle.flac_native.specs.Coming.{Coming, ReadAs}
use Rattle.flac_native.specs.Giving.{Stage, handed, items_of, IsFirst, IsBeforeItem, PassesItem, Goes, MovesFrom, Moves}
use Rattle.flac_native.specs.declared.track.Track.{Track}
use Rattle.flac_native.specs.declared.fault.Place.{Place}
use Rattle.flac_native.specs.declared.fault.Fault.{Fault}
use Rattle.flac_native.specs.declared.decoder.Course.{Course}
use Rattle.flac_native.specs.declared.decoder.Course.TheVariants as course
use Rattle.flac_native.specs.declared.container.Container as container
use Rattle.flac_header.specs.declared.subset.Profile.{Profile}
use Rattle.flac_ogg.specs.Either.{read_either}
use Rattle.flac_native.proofs.Passing.{passes_none, passes_both}
use Rattle.flac_cli.specs.Headed.{is_last, has_last, HasHeadRefused}
use Rattle.flac_cli.specs.ListedJson.{head_of, HasHeadOf}
use Rattle.flac_cli.specs.inner.Heading.{ReadsBlocks, RefusesBlocks, EndsBlocks}

-- ---- the last block among parts

or_assoc : (a b c : Bool) → (a || b) || c ≡ a || (b || c)
or_assoc true b c = refl
or_assoc false b c = refl

has_last-append : (xs ys : List Piece) → has_last (xs ++ ys) ≡ has_last xs || has_last ys
has_last-append [] ys = refl
has_last-append (x ∷ xs) ys = ap (λ b. is_last x || b) (has_last-append xs ys) ∙ sym (or_assoc (is_last x) (has_last xs) (has_last ys))

-- if it is not among the first, it is where it is among the others
others_last : (xs ys : List Piece) (b : Bool) → has_last xs ≡ false → has_last ys ≡ b → has_last (xs ++ ys) ≡ b
others_last xs ys b none is = has_last-append xs ys ∙ ap (λ k. k || has_last ys) none ∙ is

first_last : (xs ys : List Piece) → has_last xs ≡ true → has_last (xs ++ ys) ≡ true
first_last xs ys is = has_last-append xs ys ∙ ap (λ k. k || has_last ys) is

-- if the last block is not among the first, the head goes on among the others
head_on : (xs ys : List Piece) → has_last xs ≡ false → head_of (xs ++ ys) ≡ xs ++ head_of ys
head_on [] ys none = refl
head_on (x ∷ xs) ys none = go (is_last x) (λ e. head_on xs ys e) none
  where
    go : (b : Bool) → (has_last xs ≡ false → head_of (xs ++ ys) ≡ xs ++ head_of ys) → b || has_last xs ≡ false → x ∷ cond b [] (head_of (xs ++ ys)) ≡ x ∷ (xs ++ head_of ys)
    go true on e = absurd cc
    go false on e = ap (λ l. x ∷ l) (on e)

or_none : (b : Bool) → b || false ≡ b
or_none true = refl
or_none false = refl

-- if it is the one after them, it ends there
head_ends : (front : List Piece) (x : Piece) (more : List Piece) → has_last front ≡ false → has_last (front ++ x ∷ []) ≡ true → head_of ((front ++ x ∷ []) ++ more) ≡ front ++ x ∷ []
head_ends front x more none is =
    let one : is_last x ≡ true = sym (or_none (is_last x)) ∙ sym (others_last front (x ∷ []) _ none refl) ∙ is in
    ap head_of (append_assoc front (x ∷ []) more) ∙ head_on front (x ∷ more) none ∙ ap (λ b. front ++ x ∷ cond b [] (head_of more)) one

-- if it is among others, it ends among these
head_later : (xs ys more : List Piece) → has_last xs ≡ false → has_last (xs ++ ys) ≡ true → (has_last ys ≡ true → head_of (ys ++ more) ≡ ys) → head_of ((xs ++ ys) ++ more) ≡ xs ++ ys
head_later xs ys more none is cut =
    ap head_of (append_assoc xs ys more) ∙ head_on xs (ys ++ more) none ∙ ap (λ l. xs ++ l) (cut (sym (others_last xs ys _ none refl) ∙ is))

cons_nil : (x : Item) (xs : List Item) → x ∷ xs ≡ [] → ⊥
cons_nil x xs e = absurd cc

-- parts that give no item are markers
no_item : (xs : List Piece) → items_of xs ≡ [] → has_last xs ≡ false
no_item [] e = refl
no_item (marked ∷ xs) e = no_item xs e
no_item (block last b ∷ xs) e = absurd (cons_nil _ _ e)
no_item (framed f ∷ xs) e = absurd (cons_nil _ _ e)

abbrev no_piece : Option Item
no_piece = None

none_block : (b : Block) → no_piece ≡ Some (metadata b) → ⊥
none_block b e = absurd cc

some_item : (i j : Item) → Some i ≡ Some j → i ≡ j
some_item i j e = cc

-- after a block the frames come next if it is the last one
block_last : (q : Progress) (x : Piece) (b : Block) → handed x ≡ Some (metadata b) → is_last x ≡ is_after_blocks (next q x).stand.phase
block_last q marked b e = absurd (none_block b e)
block_last q (block true c) b e = refl
block_last q (block false c) b e = refl
block_last q (framed f) b e = absurd cc

after_both : (p : Progress) (xs ys : List Piece) → state_after grammar p (xs ++ ys) ≡ state_after grammar (state_after grammar p xs) ys
after_both p [] ys = refl
after_both p (x ∷ xs) ys = after_both (next p x) xs ys

front_last : (q : Progress) (front : List Piece) → IsBeforeItem q front → has_last front ≡ false
front_last q front is = elim is [ inl none ↦ ap has_last none | inr one ↦ ap has_last one.1 ]

item_last : (q : Progress) (front : List Piece) (x : Piece) (b : Block) → IsBeforeItem q front → handed x ≡ Some (metadata b) → has_last (front ++ x ∷ []) ≡ is_after_blocks (state_after grammar q (front ++ x ∷ [])).stand.phase
item_last q front x b is shown =
    others_last front (x ∷ []) _ (front_last q front is) (or_none (is_last x) ∙ block_last (state_after grammar q front) x b shown)
    ∙ ap (λ (k : Progress). is_after_blocks k.stand.phase) (sym (after_both q front (x ∷ [])))

-- ---- what a sink takes

taken_both : {K : Type 0} (takes : K → Piece → K → Type 0) (old mid new : K) (xs ys : List Piece) → TakesAll takes old xs mid → TakesAll takes mid ys new → TakesAll takes old (xs ++ ys) new
taken_both takes old mid new [] ys h t = subst (λ k. TakesAll takes k ys new) (sym h) t
taken_both takes old mid new (x ∷ xs) ys (k, one, more) t = (k, one, taken_both takes k mid new xs ys more t)

part_taken : {K : Type 0} (takes : K → Item → K → Type 0) (from to : K) (x : Piece) (b : Block) → handed x ≡ Some (metadata b) → takes from (metadata b) to → taken takes from x to
part_taken takes from to marked b e t = absurd (none_block b e)
part_taken takes from to (block last c) b e t = subst (λ i. takes from i to) (sym (some_item (metadata c) (metadata b) e)) t
part_taken takes from to (framed f) b e t = absurd cc

block_taken : {K : Type 0} (takes : K → Item → K → Type 0) (from to : K) (q : Progress) (front : List Piece) (x : Piece) (b : Block) → IsBeforeItem q front → handed x ≡ Some (metadata b) → takes from (metadata b) to
    → TakesAll (taken takes) from (front ++ x ∷ []) to
block_taken takes from to q front x b is shown t =
    let one = part_taken takes from to x b shown t in
    elim is [
      | inl none ↦ subst (λ l. TakesAll (taken takes) from (l ++ x ∷ []) to) (sym none) (to, one, refl)
      | inr mark ↦ subst (λ l. TakesAll (taken takes) from (l ++ x ∷ []) to) (sym mark.1) (from, refl, (to, one, refl))
    ]

-- ---- calls of a decoder

-- as long as it is neither over nor refused
pub still_goes : {C X : Type 0} (g : container.Ghosts C) (old new : Stage C) (view : X → Option Item) (result : Result X Fault) → is_going old.course ≡ true → Moves g old new view result → Goes g old new view result
still_goes {C} {X} g old new view result going moves = go old.course going moves
  where
    go : (c : Course) → is_going c ≡ true → MovesFrom g c old new view result → Goes g old new view result
    go course.Begun e m = m
    go (course.Read part) e m = m
    go course.Over e m = absurd cc
    go (course.Spent at) e m = absurd cc

pub names_kept : {C X : Type 0} (g : container.Ghosts C) (old new : Stage C) (view : X → Option Item) (result : Result X Fault) → is_going old.course ≡ true → Moves g old new view result → g.names new.container ≡ g.names old.container
names_kept g old new view result going moves = (still_goes g old new view result going moves).counts.names

module _ {C K : Type 0} (g : container.Ghosts C) (is_known : K → Bool) (takes : K → Item → K → Type 0) where
  pub blocks_none : (s : Stage C) (k : K) → ReadsBlocks g is_known takes s s k k
  blocks_none s k = record {
    known = λ k. k;
    errors = refl;
    raised = refl;
    counted = λ k. k;
    passed = λ p at before. record { parts = []; at = at; last = sym before; cut = λ more is. absurd cc; passes = passes_none g p s.container; took = λ _. refl };
  }

  -- one call, whose block a sink took
  pub blocks_one : {X : Type 0} (old new : Stage C) (from to : K) (view : X → Option Item) (x : X) (b : Block) → view x ≡ Some (metadata b) → Goes g old new view (Ok x)
      → (is_known from ≡ true → is_known to ≡ true) → (is_known from ≡ true → takes from (metadata b) to) → ReadsBlocks g is_known takes old new from to
  blocks_one old new from to view x b shown goes counts takes_it = record {
    known = goes.counts.met.0;
    errors = goes.counts.met.1;
    raised = goes.counts.met.2;
    counted = counts;
    passed = λ p at before.
        let item = subst (λ o. IfSome o (λ i. PassesItem g p old.container new.container new.track i)) shown (goes.passes p at) in
        record {
          parts = item.front ++ item.part ∷ [];
          at = item.at;
          last = item_last p item.front item.part b item.before item.shown;
          cut = λ more. head_ends item.front item.part more (front_last p item.front item.before);
          passes = item.passes;
          took = λ k. block_taken takes from to p item.front item.part b item.before item.shown (takes_it k);
        };
  }

  -- some calls, and then others: the frames do not come next between them
  pub blocks_both : (old now new : Stage C) (from mid to : K) → is_after_blocks (stand_of now.track).phase ≡ false → ReadsBlocks g is_known takes old now from mid → ReadsBlocks g is_known takes now new mid to
      → ReadsBlocks g is_known takes old new from to
  blocks_both old now new from mid to between one two = record {
    known = λ k. two.known (one.known k);
    errors = two.errors ∙ one.errors;
    raised = two.raised ∙ one.raised;
    counted = λ k. two.counted (one.counted k);
    passed = λ p at before.
        let far = one.passed p at before in
        let q = state_after grammar p far.parts in
        let none : is_after_blocks q.stand.phase ≡ false = sym (ap (λ (s : Stand). is_after_blocks s.phase) far.at.stand) ∙ between in
        let more = two.passed q far.at none in
        record {
          parts = far.parts ++ more.parts;
          at = subst (IsAt new.track) (sym (after_both p far.parts more.parts)) more.at;
          last = others_last far.parts more.parts _ (far.last ∙ none) more.last ∙ ap (λ (k : Progress). is_after_blocks k.stand.phase) (sym (after_both p far.parts more.parts));
          cut = λ rest is. head_later far.parts more.parts rest (far.last ∙ none) is (more.cut rest);
          passes = passes_both g p old.container now.container new.container far.parts more.parts far.passes more.passes;
          took = λ k. taken_both (taken takes) from mid to far.parts more.parts (far.took k) (more.took (one.counted k));
        };
  }

  -- the frames come next
  pub blocks_end : (old now : Stage C) (from to : K) → is_after_blocks (stand_of now.track).phase ≡ true → ReadsBlocks g is_known takes old now from to → EndsBlocks g is_known takes old from to
  blocks_end old now from to over far = record {
    ends = λ known counted p at before parts end come.
        let all = far.passed p at before in
        let cut = all.passes.first known parts end come in
        let is = all.last ∙ sym (ap (λ (s : Stand). is_after_blocks s.phase) all.at.stand) ∙ over in
        let head : head_of parts ≡ all.parts = ap head_of cut.1 ∙ all.cut cut.0 is in
        (ap has_last cut.1 ∙ first_last all.parts cut.0 is, subst (λ l. TakesAll (taken takes) from l to) (sym head) (all.took counted));
  }

-- ---- a refusal

abbrev refusal : Fault → Result (Option Item) Fault
refusal f = Err f

err_none : (f : Fault) → refusal f ≡ Ok None → ⊥
err_none f e = absurd cc

err_some : (f : Fault) (x : Item) → refusal f ≡ Ok (Some x) → ⊥
err_some f x e = absurd cc

err_same : (f : Fault) (k : Place × Why) → refusal f ≡ Err (record { at = k.0; why = k.1 }) → Some k ≡ Some (f.at, f.why)
err_same f k e = ap (λ (h : Fault). Some (h.at, h.why)) (sym (inside e))
  where
    inside : refusal f ≡ Err (record { at = k.0; why = k.1 }) → f ≡ record { at = k.0; why = k.1 }
    inside h = cc

-- nothing is left but this refusal
left_refused : (gives : Coming) (t : Track) (f : Fault) (items : List Item) (end : Option (Place × Why)) → IsFirst gives items end (refusal f) t → (items ≡ []) × (end ≡ Some (f.at, f.why))
left_refused gives t f [] None first = absurd (err_none f first)
left_refused gives t f [] (Some k) first = (refl, err_same f k first)
left_refused gives t f (x ∷ xs) end first = absurd (err_some f x first.0)

abbrev reason : {X : Type 0} → Why → Result X Why
reason w = Err w

abbrev failed : {X : Type 0} → Fault → Result X Fault
failed f = Err f

had_room : {X : Type 0} (f : Fault) → f.why ≢ why.Memory → reason_of fault_pair (failed {X = X} f) ≡ Err why.Memory → ⊥
had_room {X} f other e = other (inside e)
  where
    inside : reason {X = X} f.why ≡ Err why.Memory → f.why ≡ why.Memory
    inside h = cc

-- a call that is refused
pub blocks_refused : {C X : Type 0} (g : container.Ghosts C) (old new : Stage C) (view : X → Option Item) (f : Fault) → Goes g old new view (Err f) → RefusesBlocks g old new f
blocks_refused {C} {X} g old new view f goes = record {
  refused = λ known errors raised room unsunk p at before parts end come.
      let ends = left_refused (g.gives new.container) new.track f (items_of parts) end (goes.gives p at known errors raised (had_room {X = X} f room) (items_of parts) end (parts, refl, come)) in
      (no_item parts ends.0, ends.1);
}

-- memory ran out
pub blocks_unread : {C : Type 0} (g : container.Ghosts C) (old new : Stage C) (f : Fault) → f.why ≡ why.Memory → RefusesBlocks g old new f
blocks_unread g old new f is = record { refused = λ known errors raised room. absurd (room is) }

-- the output took no more
pub blocks_unsent : {C : Type 0} (g : container.Ghosts C) (old new : Stage C) (f : Fault) → f.why ≡ why.Sink → RefusesBlocks g old new f
blocks_unsent g old new f is = record { refused = λ known errors raised room unsunk. absurd (unsunk is) }

-- after calls that were not
pub refused_after : {C K : Type 0} (g : container.Ghosts C) (is_known : K → Bool) (takes : K → Item → K → Type 0) (old now new : Stage C) (from mid : K) (f : Fault) → is_after_blocks (stand_of now.track).phase ≡ false
    → ReadsBlocks g is_known takes old now from mid → RefusesBlocks g now new f → RefusesBlocks g old new f
refused_after g is_known takes old now new from mid f between far refuses = record {
  refused = λ known errors raised room unsunk p at before parts end come.
      let all = far.passed p at before in
      let q = state_after grammar p all.parts in
      let none : is_after_blocks q.stand.phase ≡ false = sym (ap (λ (s : Stand). is_after_blocks s.phase) all.at.stand) ∙ between in
      let cut = all.passes.first known parts end come in
      let ends = refuses.refused (far.known known) (errors ∙ sym far.errors) (raised ∙ sym far.raised) room unsunk q all.at none cut.0 end cut.2 in
      (ap has_last cut.1 ∙ others_last all.parts cut.0 false (all.last ∙ none) ends.0, ends.1);
}

-- ---- an input

pub ok_more : {X E P Q : Type 0} (r : Result X E) → (P → Q) → OnOk r P → OnOk r Q
ok_more (Ok x) go h = go h
ok_more (Err e) go h = tt

pub err_more : {X E : Type 0} {P Q : E → Type 0} (r : Result X E) → ((e : E) → P e → Q e) → IfErr r P → IfErr r Q
err_more (Ok x) go h = tt
err_more (Err e) go h = go e h

-- the input is a stream, or is refused
pub either_end : (gives : List Piece → Option (Place × Why) → Type 0) (r : InputReading Piece Place) → ((parts : List Piece) → r.whole parts → gives parts None) → ((parts : List Piece) (at : Place) (why : Why) → r.refused parts at why → gives parts (Some (at, why)))
    → (parts : List Piece) (end : Option (Place × Why)) → ReadAs r parts end → gives parts end
either_end gives r whole refused parts None is = whole parts is
either_end gives r whole refused parts (Some (at, why)) is = refused parts at why is

-- where a decoder was to give what the input is
pub head_over : {C K : Type 0} {g : container.Ghosts C} {is_known : K → Bool} {takes : K → Item → K → Type 0} (r : InputReading Piece Place) (s : Stage C) (from to : K) (p : Progress) → EndsBlocks g is_known takes s from to → IsAt s.track p → is_after_blocks p.stand.phase ≡ false
    → ((parts : List Piece) (end : Option (Place × Why)) → ReadAs r parts end → g.gives s.container p parts end) → g.known s.container ≡ true → is_known from ≡ true → HasHeadOf r (λ head. TakesAll (taken takes) from head to)
head_over r s from to p ends at before gives known counted = λ parts end read. ends.ends known counted p at before parts end (gives parts end read)

pub refused_over : {C : Type 0} {g : container.Ghosts C} (r : InputReading Piece Place) (s now : Stage C) (p : Progress) (f : Fault) → RefusesBlocks g s now f → IsAt s.track p → is_after_blocks p.stand.phase ≡ false → ((parts : List Piece) (end : Option (Place × Why)) → ReadAs r parts end → g.gives s.container p parts end)
    → g.known s.container ≡ true → g.errors now.container ≡ g.errors s.container → g.raised now.container ≡ g.raised s.container → f.why ≢ why.Memory → f.why ≢ why.Sink → HasHeadRefused r f.at f.why
refused_over {g = g} r s now p f refuses at before gives known errors raised room unsunk = λ parts end read. refuses.refused known errors raised room unsunk p at before parts end (gives parts end read)

-- the bytes after the first one, and that one in front of them, are read as all of them
pub front_read : (profile : Profile) (coming now : List ℕ) (is_page is_ogg : Bool) (m k : Mark) → is_page ≡ is_ogg → coming ≡ now → m ≡ k → read_either profile is_page m (bits_of coming) ≡ read_either profile is_ogg k (bits_of now)
front_read profile coming now is_page is_ogg m k page same mark = rw (page, same, mark) refl
