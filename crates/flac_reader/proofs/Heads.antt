-- The metadata so far, and what it leaves to come.
use Rattle.std.proofs.Common.{◌≡◌, ℕ, Bool, true, false, List, [], ◌∷◌, ◌++◌, filter, append_assoc, Option, Result, Ok, Err, refl, sym, ap, subst, ◌∙◌, arith}
use Rattle.std.specs.Prelude.{⊤}
use Rattle.std.proofs.lemmas.List.{append-nil}
use Rattle.std.proofs.lemmas.List.Elements.{filter-append}
use Rattle.flac_bits.specs.State.{Rises}
use Rattle.flac_bits.specs.declared.why.Why.{Why}
use Rattle.flac_bits.specs.declared.why.Why.TheVariants.{Memory}
use Rattle.flac_meta.specs.declared.block.Block.{Block}
use Rattle.flac_frame.specs.Frame.{Frame}
use Rattle.flac_native.specs.Giving.{Stage}
use Rattle.flac_native.specs.declared.fault.Place.{Place}
use Rattle.flac_native.specs.declared.fault.Fault.{Fault}
use Rattle.flac_native.specs.declared.container.Container as container
use Rattle.flac_reader.specs.Kept.{keeps}
use Rattle.flac_reader.specs.Coming.{Comes, IsCalm, HadMemory, Counted, HeadIs, HeadOf, stream_items}
use Rattle.flac_reader.specs.inner.Taking.{Took}
use Rattle.flac_reader.specs.Starting.{and_block, and_blocks, frames_start}
use Rattle.flac_reader.specs.declared.keep.Keep.{Keep}

and_blocks-append : (n : ℕ) (xs ys : List Block) → and_blocks n (xs ++ ys) ≡ and_blocks (and_blocks n xs) ys
unfolding and_blocks
and_blocks-append n [] ys = refl
and_blocks-append n (x ∷ xs) ys = and_blocks-append (and_block n x) xs ys

and_one : (n : ℕ) (b : Block) → and_blocks n (b ∷ []) ≡ and_block n b
unfolding and_blocks
and_one n b = refl

and_none : (n : ℕ) → and_blocks n [] ≡ n
unfolding and_blocks
and_none n = refl

-- these blocks were read, of which the wanted ones are kept and the bytes counted, and the others are still to come
pub record Passed {C : Type 0} (g : container.Ghosts C) (keep : Keep) (blocks : List Block) (frames : List Frame) (end : Option (Place × Why)) (s : Stage C) (kept : List Block) (from size : ℕ) : Type 0 where
  pub taken : List Block
  pub left : List Block
  pub split : blocks ≡ taken ++ left
  pub wanted : kept ≡ filter (keeps keep) taken
  pub counted : size ≡ and_blocks from taken
  pub comes : Comes g s (stream_items left frames) end

-- so far, where the source told its bytes from the start
pub record HeadSoFar {C : Type 0} (g : container.Ghosts C) (old now : Stage C) (keep : Keep) (kept : List Block) (from size : ℕ) : Type 0 where
  pub known : g.known old.container ≡ true → g.known now.container ≡ true
  pub errors : g.errors now.container ≡ g.errors old.container
  pub raised : g.raised now.container ≡ g.raised old.container
  pub met : g.met now.container ≡ g.met old.container
  pub names : g.names now.container ≡ g.names old.container
  pub passed : g.known old.container ≡ true → (blocks : List Block) (frames : List Frame) (end : Option (Place × Why)) → Comes g old (stream_items blocks frames) end → Passed g keep blocks frames end now kept from size

pub head_starts : {C : Type 0} (g : container.Ghosts C) (s : Stage C) (keep : Keep) (kept : List Block) (from : ℕ) → kept ≡ [] → HeadSoFar g s s keep kept from from
head_starts g s keep kept from none = record {
  known = λ k. k;
  errors = refl;
  raised = refl;
  met = refl;
  names = refl;
  passed = λ known blocks frames end comes. record { taken = []; left = blocks; split = refl; wanted = none; counted = sym (and_none from); comes = comes };
}

pub room : {X : Type 0} → (x : X) → HadMemory {X = X} (Ok x)
room x e = absurd cc

abbrev wrong : {X : Type 0} → Why → Result X Why
wrong w = Err w

pub same_room : {X Y : Type 0} (f : Fault) → HadMemory {X = X} (Err f) → HadMemory {X = Y} (Err f)
same_room {X} {Y} f roomy e = roomy (ap (λ k. wrong {X = X} k) (inside e))
  where
    inside : wrong {X = Y} f.why ≡ Err Memory → f.why ≡ Memory
    inside e = cc

-- one block more
pub head_more : {C : Type 0} (g : container.Ghosts C) (old now new : Stage C) (keep : Keep) (kept more : List Block) (from before size : ℕ) → HeadSoFar g old now keep kept from before → Counted {X = Bool} g now new (Ok true)
    → (IsCalm g now new → HadMemory {X = Bool} (Ok true) → (blocks : List Block) (frames : List Frame) (end : Option (Place × Why)) → Comes g now (stream_items blocks frames) end → Took g keep blocks frames end kept more before size (Ok true) new)
    → HeadSoFar g old new keep more from size
head_more g old now new keep kept more from before size far counts took = record {
  known = λ k. counts.met.0 (far.known k);
  errors = counts.met.1 ∙ far.errors;
  raised = counts.met.2 ∙ far.raised;
  met = counts.met.3 ∙ far.met;
  names = counts.names ∙ far.names;
  passed = λ known blocks frames end comes.
      let p = far.passed known blocks frames end comes in
      let t = took (far.known known, counts.met.1, counts.met.2) (room true) p.left frames end p.comes in
      record {
        taken = p.taken ++ t.0 ∷ [];
        left = t.1;
        split = p.split ∙ ap (λ k. p.taken ++ k) t.2 ∙ sym (append_assoc p.taken (t.0 ∷ []) t.1);
        wanted = t.3 ∙ ap (λ k. k ++ filter (keeps keep) (t.0 ∷ [])) p.wanted ∙ sym (filter-append (keeps keep) p.taken (t.0 ∷ []));
        counted = t.4 ∙ ap (λ n. and_block n t.0) p.counted ∙ sym (and_one (and_blocks from p.taken) t.0) ∙ sym (and_blocks-append from p.taken (t.0 ∷ []));
        comes = t.5;
      };
}

-- the errors of all calls are those of the last
pub head_ok : {C X Y : Type 0} (g : container.Ghosts C) (old now new : Stage C) (keep : Keep) (kept : List Block) (from size : ℕ) (x : X) (y : Y) → HeadSoFar g old now keep kept from size → Counted {X = X} g now new (Ok x) → Counted {X = Y} g old new (Ok y)
head_ok g old now new keep kept from size x y far counts = record {
  met = (λ k. counts.met.0 (far.known k), counts.met.1 ∙ far.errors, counts.met.2 ∙ far.raised, counts.met.3 ∙ far.met);
  kept = omega (arith, counts.kept, far.errors);
  risen = tt;
  output = tt;
  names = counts.names ∙ far.names;
}

pub head_err : {C X Y : Type 0} (g : container.Ghosts C) (old now new : Stage C) (keep : Keep) (kept : List Block) (from size : ℕ) (f : Fault) → HeadSoFar g old now keep kept from size → Counted {X = X} g now new (Err f) → Counted {X = Y} g old new (Err f)
head_err g old now new keep kept from size f far counts = record {
  met = tt;
  kept = omega (arith, counts.kept, far.errors);
  risen = λ is. subst (λ n. Rises n (g.met new.container)) far.met (counts.risen is);
  output = counts.output;
  names = counts.names ∙ far.names;
}

-- no block is left
pub head_over : {C : Type 0} (g : container.Ghosts C) (old now new : Stage C) (keep : Keep) (kept more : List Block) (from before size : ℕ) (x : ⊤) → HeadSoFar g old now keep kept from before
    → (IsCalm g now new → HadMemory {X = Bool} (Ok false) → (blocks : List Block) (frames : List Frame) (end : Option (Place × Why)) → Comes g now (stream_items blocks frames) end → Took g keep blocks frames end kept more before size (Ok false) new)
    → IsCalm g old new → (blocks : List Block) (frames : List Frame) (end : Option (Place × Why)) → Comes g old (stream_items blocks frames) end → HeadIs g keep blocks frames end more (Ok x) new × (size ≡ and_blocks from blocks)
head_over g old now new keep kept more from before size x far took calm blocks frames end comes =
    let p = far.passed calm.0 blocks frames end comes in
    let t = took (far.known calm.0, calm.1 ∙ sym far.errors, calm.2 ∙ sym far.raised) (room false) p.left frames end p.comes in
    let all : p.taken ≡ blocks = sym (p.split ∙ ap (λ k. p.taken ++ k) t.0 ∙ append-nil p.taken) in
    ((t.1 ∙ p.wanted ∙ ap (filter (keeps keep)) all, t.3), t.2 ∙ p.counted ∙ ap (and_blocks from) all)

-- the stream is refused before its first frame
pub head_refused : {C : Type 0} (g : container.Ghosts C) (old now new : Stage C) (keep : Keep) (kept more : List Block) (from before size : ℕ) (f : Fault) → HeadSoFar g old now keep kept from before
    → (IsCalm g now new → HadMemory {X = Bool} (Err f) → (blocks : List Block) (frames : List Frame) (end : Option (Place × Why)) → Comes g now (stream_items blocks frames) end → Took g keep blocks frames end kept more before size (Err f) new)
    → IsCalm g old new → HadMemory {X = ⊤} (Err f) → (blocks : List Block) (frames : List Frame) (end : Option (Place × Why)) → Comes g old (stream_items blocks frames) end → HeadIs g keep blocks frames end more (Err f) new
head_refused g old now new keep kept more from before size f far took calm roomy blocks frames end comes =
    let p = far.passed calm.0 blocks frames end comes in
    let t = took (far.known calm.0, calm.1 ∙ sym far.errors, calm.2 ∙ sym far.raised) (same_room f roomy) p.left frames end p.comes in
    (t.1, t.2)

-- memory ran out
pub no_room : {X : Type 0} (at : Place) (why : Why) → why ≡ Memory → HadMemory {X = X} (Err (record { at = at; why = why })) → ⊥
no_room at why is roomy = roomy (ap (λ k. Err k) is)

-- an error's count is the same for every kind of answer
pub err_counts : {C X Y : Type 0} (g : container.Ghosts C) (old new : Stage C) (f : Fault) → Counted {X = X} g old new (Err f) → Counted {X = Y} g old new (Err f)
err_counts g old new f h = record { met = tt; kept = h.kept; risen = h.risen; output = h.output; names = h.names }

pub ok_counts : {C X Y : Type 0} (g : container.Ghosts C) (old new : Stage C) (x : X) (y : Y) → Counted {X = X} g old new (Ok x) → Counted {X = Y} g old new (Ok y)
ok_counts g old new x y h = record { met = h.met; kept = h.kept; risen = tt; output = tt; names = h.names }

pub same_counts : {C X : Type 0} (g : container.Ghosts C) (s : Stage C) (x : X) → Counted {X = X} g s s (Ok x)
same_counts g s x = record { met = (λ k. k, refl, refl, refl); kept = omega arith; risen = tt; output = tt; names = refl }

-- the metadata was read
pub head_read : {C : Type 0} (g : container.Ghosts C) (old new : Stage C) (keep : Keep) (kept : List Block) (start : ℕ) (x : ⊤) → Counted {X = ⊤} g old new (Ok x)
    → (IsCalm g old new → HadMemory {X = ⊤} (Ok x) → (blocks : List Block) (frames : List Frame) (end : Option (Place × Why)) → Comes g old (stream_items blocks frames) end → HeadIs g keep blocks frames end kept (Ok x) new)
    → (IsCalm g old new → (blocks : List Block) (frames : List Frame) (end : Option (Place × Why)) → Comes g old (stream_items blocks frames) end → start ≡ frames_start blocks)
    → HeadOf g old new keep kept true start
head_read g old new keep kept start x counts head size = record {
  known = counts.met.0;
  errors = counts.met.1;
  raised = counts.met.2;
  met = counts.met.3;
  names = counts.names;
  blocks = λ known blocks frames end comes. (head (known, counts.met.1, counts.met.2) (room x) blocks frames end comes).0;
  frames = λ known blocks frames end comes. (head (known, counts.met.1, counts.met.2) (room x) blocks frames end comes).1;
  counted = λ known blocks frames end comes. size (known, counts.met.1, counts.met.2) blocks frames end comes;
}
