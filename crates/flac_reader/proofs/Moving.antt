-- What one call of a decoder does to what it has still to give.
use Rattle.std.proofs.Common.{◌≡◌, ◌≤◌, true, false, List, [], ◌∷◌, map, Option, Some, None, IfSome, Result, Ok, Err, IfOk, IfErr, refl, sym, ap, subst, ◌∙◌, arith}
use Rattle.std.specs.Prelude.{◌≢◌, OnOk}
use Rattle.std.proofs.lemmas.Result.{IfOk-weaker}
use Rattle.flac_bits.specs.Reasons.{of_output}
use Rattle.flac_bits.specs.State.{Rises}
use Rattle.flac_bits.specs.declared.why.Why.{Why}
use Rattle.flac_bits.specs.declared.why.Why.TheVariants.{Memory, Read, Spent}
use Rattle.flac_meta.specs.declared.block.Block.{Block}
use Rattle.flac_frame.specs.Frame.{Frame}
use Rattle.flac_native.specs.Item.{Item, metadata, frame, fault_pair}
use Rattle.flac_native.specs.Stream.{Progress}
use Rattle.flac_native.specs.Track.{IsAt, is_after_blocks, is_going}
use Rattle.flac_native.specs.Giving.{StillGives, ComesInOrder, Stage, held, seen_by, Goes, MovesFrom, Moves, IsFirst as First}
use Rattle.flac_native.specs.declared.fault.Place.{Place}
use Rattle.flac_native.specs.declared.fault.Fault.{Fault}
use Rattle.flac_native.specs.declared.container.Part.{Part}
use Rattle.flac_native.specs.declared.track.Phase.{Phase}
use Rattle.flac_native.specs.declared.track.Phase.TheVariants.{Frames}
use Rattle.flac_native.specs.declared.track.Track.{Track}
use Rattle.flac_native.specs.declared.decoder.Course.{Course}
use Rattle.flac_native.specs.declared.decoder.Course.TheVariants as course
use Rattle.flac_native.specs.declared.container.Container as container
use Rattle.flac_reader.specs.Coming.{ComesAfter, Comes, IsFirst, IsCalm, IsPast, HadMemory, Counted, stream_items, only_frame}

abbrev answer : Option Item → Result (Option Item) Fault
answer h = Ok h

abbrev failure : {X : Type 0} → Fault → Result X Fault
failure f = Err f

abbrev item : Item → Option Item
item x = Some x

ok_err : (h : Option Item) (f : Fault) → answer h ≡ Err f → ⊥
ok_err h f e = absurd cc

none_item : (x : Item) → answer (Some x) ≡ Ok None → ⊥
none_item x e = absurd cc

same_item : (x y : Item) → answer (Some x) ≡ Ok (Some y) → x ≡ y
same_item x y e = cc

same_fault : {X : Type 0} (f g : Fault) → failure {X = X} f ≡ Err g → f ≡ g
same_fault f g e = cc

same_block : (b c : Block) → metadata b ≡ metadata c → b ≡ c
same_block b c e = cc

block_frame : (b : Block) (f : Frame) → metadata b ≡ frame f → ⊥
block_frame b f e = absurd cc

-- ---- after the end, and after a refusal

pub over_comes : {C : Type 0} (g : container.Ghosts C) (s : Stage C) → s.course ≡ course.Over → Comes g s [] None
over_comes g s e = subst (λ k. ComesAfter g k s [] None) (sym e) (refl, refl)

pub spent_comes : {C : Type 0} (g : container.Ghosts C) (s : Stage C) (at : Place) → s.course ≡ course.Spent at → Comes g s [] (Some (at, Spent))
spent_comes g s at e = subst (λ k. ComesAfter g k s [] (Some (at, Spent))) (sym e) (refl, refl)

-- ---- one call

refused_at : {X : Type 0} (P : Fault → Type 0) (view : X → Option Item) (result : Result X Fault) (f : Fault) → IfErr result P → seen_by view result ≡ Err f → P f
refused_at P view (Ok x) f h e = absurd (ok_err (view x) f e)
refused_at P view (Err w) f h e = subst P (same_fault w f e) h

read_at : {X : Type 0} (P : Type 0) (view : X → Option Item) (result : Result X Fault) (x : Item) → IfOk result (λ y. IfSome (view y) (λ _. P)) → seen_by view result ≡ Ok (Some x) → P
read_at P view (Ok y) x h e = go (view y) h e
  where
    go : (o : Option Item) → IfSome o (λ _. P) → answer o ≡ Ok (Some x) → P
    go None h e = absurd (none_item x (sym e))
    go (Some z) h e = h
read_at P view (Err w) x h e = absurd (ok_err (Some x) w (sym e))

went : {C X : Type 0} (g : container.Ghosts C) (old new : Stage C) (view : X → Option Item) (result : Result X Fault)
    → Goes g old new view result → IsCalm g old new → HadMemory result → (items : List Item) (end : Option (Place × Why)) → (p : Progress) → IsAt old.track p → StillGives (g.gives old.container) p items end → IsFirst g items end (seen_by view result) new
went {C} g old new view result h calm room items end p at still = go items end (h.gives p at calm.0 calm.1 calm.2 room items end still)
  where
    go : (items : List Item) (end : Option (Place × Why)) → First (g.gives new.container) items end (seen_by view result) new.track → IsFirst g items end (seen_by view result) new
    go [] None first = (first, over_comes g new (h.ends first))
    go [] (Some f) first = (first, spent_comes g new f.0 (refused_at (λ w. new.course ≡ course.Spent w.at) view result _ h.refused first))
    go (x ∷ xs) end (is, q, there, rest) =
        let read : (part : Part) × (new.course ≡ course.Read part) = read_at ((part : Part) × (new.course ≡ course.Read part)) view result x h.going is in
        (is, subst (λ k. ComesAfter g k new xs end) (sym read.1) (q, there, rest))

pub moves_first : {C X : Type 0} (g : container.Ghosts C) (old new : Stage C) (view : X → Option Item) (result : Result X Fault)
    → Moves g old new view result → IsCalm g old new → HadMemory result → (items : List Item) (end : Option (Place × Why)) → Comes g old items end → IsFirst g items end (seen_by view result) new
moves_first {C} {X} g old new view result moves calm room items end comes = go old.course refl moves comes
  where
    over : (items : List Item) (end : Option (Place × Why)) → items ≡ [] → end ≡ None → seen_by view result ≡ Ok None → new.course ≡ course.Over → IsFirst g items end (seen_by view result) new
    over items end none stop seen k = rw (none, stop) (seen, over_comes g new k)

    spent : (items : List Item) (end : Option (Place × Why)) (at : Place) → items ≡ [] → end ≡ Some (at, Spent) → seen_by view result ≡ Err (record { at = at; why = Spent }) → new.course ≡ course.Spent at → IsFirst g items end (seen_by view result) new
    spent items end at none stop seen k = rw (none, stop) (seen, spent_comes g new at k)

    go : (k : Course) → old.course ≡ k → MovesFrom g k old new view result → ComesAfter g k old items end → IsFirst g items end (seen_by view result) new
    go course.Begun e h (p, at, still) = went g old new view result h calm room items end p at still
    go (course.Read part) e h (p, at, still) = went g old new view result h calm room items end p at still
    go course.Over e h (none, stop) = over items end none stop h.0 (ap (λ (s : Stage C). s.course) h.1 ∙ e)
    go (course.Spent at) e h (none, stop) = spent items end at none stop h.0 (ap (λ (s : Stage C). s.course) h.1 ∙ e)

-- ---- errors of the device

pub moves_counted : {C X : Type 0} (g : container.Ghosts C) (old new : Stage C) (view : X → Option Item) (result : Result X Fault) → Moves g old new view result → Counted g old new result
moves_counted {C} {X} g old new view result moves = go old.course moves
  where
    names : new ≡ old → g.names new.container ≡ g.names old.container
    names e = ap (λ (s : Stage C). g.names s.container) e

    still : new ≡ old → g.errors old.container ≤ g.errors new.container
    still e = rw e (omega arith)

    same : {Y : Type 0} (r : Result Y Fault) → new ≡ old → IfOk r (λ _. (g.known old.container ≡ true → g.known new.container ≡ true) × (g.errors new.container ≡ g.errors old.container) × (g.raised new.container ≡ g.raised old.container) × (g.met new.container ≡ g.met old.container))
    same (Ok y) e = rw e (λ k. k, refl, refl, refl)
    same (Err f) e = tt

    over : (r : Result X Fault) → seen_by view r ≡ Ok None → IfErr r (λ f. f.why ≡ Read → Rises (g.met old.container) (g.met new.container))
    over (Ok y) e = tt
    over (Err f) e = absurd (ok_err None f (sym e))

    spent : (at : Place) (r : Result X Fault) → seen_by view r ≡ Err (record { at = at; why = Spent }) → IfErr r (λ f. f.why ≡ Read → Rises (g.met old.container) (g.met new.container))
    spent at (Ok y) e = tt
    spent at (Err f) e = λ is. absurd (other (sym (ap (λ (w : Fault). w.why) (same_fault f _ e)) ∙ is))
      where
        other : Spent ≡ Read → ⊥
        other e = absurd cc

    none_over : (r : Result X Fault) → seen_by view r ≡ Ok None → IfErr r (λ f. of_output f.why ≡ false)
    none_over (Ok y) e = tt
    none_over (Err f) e = absurd (ok_err None f (sym e))

    none_spent : (at : Place) (r : Result X Fault) → seen_by view r ≡ Err (record { at = at; why = Spent }) → IfErr r (λ f. of_output f.why ≡ false)
    none_spent at (Ok y) e = tt
    none_spent at (Err f) e = ap (λ (w : Fault). of_output w.why) (same_fault f _ e)

    goes : Goes g old new view result → Counted g old new result
    goes h = record { met = IfOk-weaker result _ _ (λ x m. m) h.counts.met; kept = h.counts.kept; risen = h.counts.risen; output = h.counts.output; names = h.counts.names }

    go : (k : Course) → MovesFrom g k old new view result → Counted g old new result
    go course.Begun h = goes h
    go (course.Read part) h = goes h
    go course.Over h = record { met = same result h.1; kept = still h.1; risen = over result h.0; output = none_over result h.0; names = names h.1 }
    go (course.Spent at) h = record { met = same result h.1; kept = still h.1; risen = spent at result h.0; output = none_spent at result h.0; names = names h.1 }

-- ---- after the last metadata block

-- no allocation fails
pub moves_memory : {C X : Type 0} (g : container.Ghosts C) (old new : Stage C) (view : X → Option Item) (f : Fault) → Moves g old new view (Err f) → IsPast old → f.why ≢ Memory
moves_memory {C} {X} g old new view f moves past = go old.course moves
  where
    spent : (place : Place) → failure {X = Option Item} f ≡ Err (record { at = place; why = Spent }) → f.why ≢ Memory
    spent place e is = absurd (other (sym (ap (λ (w : Fault). w.why) (same_fault {X = Option Item} f _ e)) ∙ is))
      where
        other : Spent ≡ Memory → ⊥
        other e = absurd cc

    go : (k : Course) → MovesFrom g k old new view (Err f) → f.why ≢ Memory
    go course.Begun h = h.memory past
    go (course.Read part) h = h.memory past
    go course.Over h = absurd (ok_err None f (sym h.0))
    go (course.Spent place) h = spent place h.0

not_before : (k : Phase) → is_after_blocks k ≡ false → k ≡ Frames → ⊥
not_before k e is =
    let after : is_after_blocks k ≡ true = ap is_after_blocks is in
    absurd cc

-- what comes after the last block is no block
still_past : {C : Type 0} (old new : Stage C) (o : Option Item) → ComesInOrder old.track new.track o → IsPast old → IsPast new
still_past old new None h past = h.1
still_past old new (Some (metadata b)) h past = absurd (not_before old.track.position.phase h past)
still_past old new (Some (frame f)) h past = h.1

pub moves_past : {C X : Type 0} (g : container.Ghosts C) (old new : Stage C) (view : X → Option Item) (x : X) → Moves g old new view (Ok x) → IsPast old → IsPast new
moves_past {C} {X} g old new view x moves past = go old.course moves
  where
    go : (k : Course) → MovesFrom g k old new view (Ok x) → IsPast new
    go course.Begun h = still_past old new (view x) h.ordered past
    go (course.Read part) h = still_past old new (view x) h.ordered past
    go course.Over h = subst IsPast (sym h.1) past
    go (course.Spent at) h = subst IsPast (sym h.1) past

-- a frame, and the end, come after the last block
first_past : {C : Type 0} (old new : Stage C) (o : Option Item) → only_frame o ≡ o → ComesInOrder old.track new.track o → IsPast new
first_past old new None is h = h.1
first_past old new (Some (metadata b)) is h = absurd (no_block is)
  where
    no_block : only_frame (Some (metadata b)) ≡ item (metadata b) → ⊥
    no_block e = absurd cc
first_past old new (Some (frame f)) is h = h.1

pub comes_past : {C X : Type 0} (g : container.Ghosts C) (old new : Stage C) (view : X → Option Item) (x : X) → Moves g old new view (Ok x) → only_frame (view x) ≡ view x → is_going old.course ≡ true → IsPast new
comes_past {C} {X} g old new view x moves is going = go old.course moves going
  where
    go : (k : Course) → MovesFrom g k old new view (Ok x) → is_going k ≡ true → IsPast new
    go course.Begun h e = first_past old new (view x) is h.ordered
    go (course.Read part) h e = first_past old new (view x) is h.ordered
    go course.Over h e = absurd cc
    go (course.Spent at) h e = absurd cc

-- an item that is held was read
pub held_going : (k : Course) (t : Track) (i : Item) → item i ≡ held k t → is_going k ≡ true
held_going course.Begun t i e = absurd cc
held_going (course.Read part) t i e = refl
held_going course.Over t i e = absurd cc
held_going (course.Spent at) t i e = absurd cc

-- whatever the result is
pub memory_kept : {C X : Type 0} (g : container.Ghosts C) (old new : Stage C) (view : X → Option Item) (result : Result X Fault) → Moves g old new view result → IsPast old → IfErr result (λ f. f.why ≢ Memory)
memory_kept g old new view (Ok x) moves past = tt
memory_kept g old new view (Err f) moves past = moves_memory g old new view f moves past

pub past_kept : {C X : Type 0} (g : container.Ghosts C) (old new : Stage C) (result : Result X Fault) → Moves g old new (λ _. held new.course new.track) result → IsPast old → OnOk result (IsPast new)
past_kept g old new (Ok x) moves past = moves_past g old new (λ _. held new.course new.track) x moves past
past_kept g old new (Err f) moves past = tt

-- ---- what was given first

pub took_refused : {C : Type 0} (g : container.Ghosts C) (blocks : List Block) (frames : List Frame) (end : Option (Place × Why)) (f : Fault) (s : Stage C)
    → IsFirst g (stream_items blocks frames) end (Err f) s → (blocks ≡ []) × (frames ≡ []) × (end ≡ Some (fault_pair f))
took_refused g [] [] None f s first = absurd (ok_err None f (sym first.0))
took_refused g [] [] (Some r) f s first = (refl, refl, ap (λ w. Some (fault_pair w)) (sym (same_fault f _ first.0)))
took_refused g [] (x ∷ xs) end f s first = absurd (ok_err _ f (sym first.0))
took_refused g (b ∷ bs) frames end f s first = absurd (ok_err _ f (sym first.0))

pub took_block : {C : Type 0} (g : container.Ghosts C) (blocks : List Block) (frames : List Frame) (end : Option (Place × Why)) (b : Block) (s : Stage C)
    → IsFirst g (stream_items blocks frames) end (Ok (Some (metadata b))) s → (rest : List Block) × (blocks ≡ b ∷ rest) × Comes g s (stream_items rest frames) end
took_block g [] [] None b s first = absurd (none_item _ first.0)
took_block g [] [] (Some r) b s first = absurd (ok_err _ _ first.0)
took_block g [] (x ∷ xs) end b s first = absurd (block_frame b x (same_item _ _ first.0))
took_block g (c ∷ cs) frames end b s first = (cs, ap (λ k. k ∷ cs) (sym (same_block b c (same_item _ _ first.0))), first.1)

pub took_other : {C : Type 0} (g : container.Ghosts C) (blocks : List Block) (frames : List Frame) (end : Option (Place × Why)) (h : Option Item) (s : Stage C)
    → only_frame h ≡ h → IsFirst g (stream_items blocks frames) end (Ok h) s → (blocks ≡ []) × IsFirst g (map frame frames) end (Ok h) s
took_other g [] frames end h s is first = (refl, first)
took_other g (b ∷ bs) frames end h s is first = absurd (no_block (only (λ k. Ok k) h is first.0))
  where
    only : (k : Option Item → Result (Option Item) Fault) (h : Option Item) → only_frame h ≡ h → answer h ≡ Ok (Some (metadata b)) → only_frame (Some (metadata b)) ≡ item (metadata b)
    only k h is e = subst (λ o. only_frame o ≡ o) (inside h (Some (metadata b)) e) is
      where
        inside : (a c : Option Item) → answer a ≡ Ok c → a ≡ c
        inside a c e = cc

    no_block : only_frame (Some (metadata b)) ≡ item (metadata b) → ⊥
    no_block e = absurd cc
