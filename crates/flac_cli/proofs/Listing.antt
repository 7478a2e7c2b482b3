-- The line of JSON of a file while its blocks come.
use Rattle.std.proofs.Common.{◌≡◌, ◌≢◌, ◌<◌, ◌⊎◌, ℕ, Bool, true, false, cond, List, [], ◌∷◌, ◌++◌, map, Option, Some, None, Result, Ok, Err, inl, inr, refl, sym, ap, subst, ◌∙◌, append_assoc, append-nil, codes, arith}
use Rattle.std.specs.Prelude.{IsErrAnd, IfErr, IfOk, OnOk, is_ok}
use Rattle.std.proofs.lemmas.Bool.{cases_lt}
use Rattle.flac_bits.specs.Handing.{TakesAll, InputReading, outcome_of}
use Rattle.flac_bits.specs.declared.why.Why.{Why}
use Rattle.flac_bits.specs.declared.why.Why.TheVariants as why
use Rattle.flac_native.specs.Decoding.{taken}
use Rattle.flac_native.specs.Item.{Item, metadata}
use Rattle.flac_native.specs.Stream.{Piece, marked, block, framed, raised}
use Rattle.flac_native.specs.declared.fault.Fault.{Fault}
use Rattle.flac_native.specs.declared.fault.Place.{Place}
use Rattle.flac_json.specs.Json.{json_text, no_members, items_of, items_text, more_items}
use Rattle.flac_json.specs.Blocks.{block_json}
use Rattle.flac_json.specs.Lines.{Numbered, numbered_json, line_front, line_end}
use Rattle.flac_json.proofs.Files.{line_parts}
use Rattle.flac_meta.specs.declared.block.Block.{Block}
use Rattle.flac_cli.specs.Headed.{HasHeadRefused}
use Rattle.flac_cli.specs.ListedJson.{is_chosen, numbered, chosen_from, listed_line}
use Rattle.flac_cli.specs.Outcomes.{Outcome, Fits, IsOutOfMemory}
use Rattle.flac_cli.specs.declared.chosen.ListedFile.{ListedFile}
use Rattle.flac_cli.specs.inner.Outcomes.{at_place}
use Rattle.flac_cli.specs.inner.WaveOutcomes.{memory_by, fault_by}
use Rattle.flac_cli.specs.inner.Listing.{Begun, begun_of, one_more, with_object, with_number, begun_after}
use Rattle.flac_cli.proofs.Holding.{sink_or_not}

-- the text of these objects in a list that has some already, or has none
abbrev joined : (any : Bool) → List Numbered → List ℕ
joined any ns = cond any (more_items (items_of (map numbered_json ns))) (items_text (items_of (map numbered_json ns)))

-- what these parts add to the line
abbrev added : Begun → List Piece → List ℕ
added s xs = joined s.any (chosen_from s.names s.number xs)

none_joined : (any : Bool) → joined any [] ≡ []
none_joined true = refl
none_joined false = refl

next_text : (line front object more : List ℕ) → (line ++ (front ++ object)) ++ more ≡ line ++ (front ++ (object ++ more))
next_text line front object more = append_assoc line (front ++ object) more ∙ ap (λ l. line ++ l) (append_assoc front object more)

next_joined : (line : List ℕ) (any : Bool) (number : ℕ) (b : Block) (ns : List Numbered) → (line ++ one_more any number b) ++ joined true ns ≡ line ++ joined any (numbered number b ∷ ns)
next_joined line true number b ns = next_text line (codes ",") (json_text (block_json number b)) (joined true ns)
next_joined line false number b ns = next_text line [] (json_text (block_json number b)) (joined true ns)

-- after a block and these parts
block_added : (s : Begun) (b : Block) (xs : List Piece) → (begun_after s (metadata b)).line ++ added (begun_after s (metadata b)) xs
    ≡ s.line ++ joined s.any (cond (is_chosen s.names s.number b) (numbered s.number b ∷ chosen_from s.names (raised s.number) xs) (chosen_from s.names (raised s.number) xs))
block_added s b xs = go (is_chosen s.names s.number b)
  where
    go : (chosen : Bool) → (cond chosen (with_object s b) (with_number s)).line ++ added (cond chosen (with_object s b) (with_number s)) xs
        ≡ s.line ++ joined s.any (cond chosen (numbered s.number b ∷ chosen_from s.names (raised s.number) xs) (chosen_from s.names (raised s.number) xs))
    go true = next_joined s.line s.any s.number b (chosen_from s.names (raised s.number) xs)
    go false = refl

module _ {S : Type 0} (view : S → Begun) where
  -- what such a sink makes of an item
  abbrev pub Takes : S → Item → S → Type 0
  Takes s x t = view t ≡ begun_after (view s) x

  -- It has added the chosen blocks of all parts.
  all_added : (old : S) (xs : List Piece) (new : S) → TakesAll (taken Takes) old xs new → (view new).line ≡ (view old).line ++ added (view old) xs
  all_added old [] new h = ap (λ s. (view s).line) (sym h) ∙ sym (ap (λ l. (view old).line ++ l) (none_joined (view old).any) ∙ append-nil (view old).line)
  all_added old (marked ∷ xs) new h = all_added h.0 xs new h.2 ∙ ap (λ s. (view s).line ++ added (view s) xs) (sym h.1)
  all_added old (block last b ∷ xs) new h = all_added h.0 xs new h.2 ∙ ap (λ s. s.line ++ added s xs) h.1 ∙ block_added (view old) b xs
  all_added old (framed f ∷ xs) new h = all_added h.0 xs new h.2 ∙ ap (λ s. s.line ++ added s xs) h.1

  -- So the line that it began is that of the file, once its end was added.
  pub line_made : (file : ListedFile) (old : S) (xs : List Piece) (new : S) (line whole : List ℕ) → view old ≡ begun_of file → TakesAll (taken Takes) old xs new → line ≡ (view new).line → whole ≡ line ++ line_end no_members
      → whole ≡ listed_line file xs
  line_made file old xs new line whole begun h is ends =
      let front = line_front file.path.now None in
      let items = items_text (items_of (map numbered_json (chosen_from file.names.now 0 xs))) in
      let all : (view new).line ≡ front ++ items = all_added old xs new h ∙ ap (λ s. s.line ++ added s xs) begun in
      ends ∙ ap (λ l. l ++ line_end no_members) (is ∙ all) ∙ append_assoc front items (line_end no_members) ∙ line_parts file.path.now None (chosen_from file.names.now 0 xs) no_members

-- ---- what comes of reading

-- What holds at Ok holds where there is no error.
pub ok_holds : {X E P : Type 0} (r : Result X E) → is_ok r ≡ true → OnOk r P → P
ok_holds (Ok x) is p = p
ok_holds (Err e) is p = absurd cc

-- What is said of the value at Ok is told of another thing.
pub ok_told : {X E : Type 0} {P Q : X → Type 0} (r : Result X E) → ((x : X) → P x → Q x) → IfOk r P → IfOk r Q
ok_told (Ok x) go h = go x h
ok_told (Err e) go h = tt

-- the fault of a line: memory ran out, or it is that of reading, whose sink fails only if an allocation does
abbrev pub IsFaultFrom : {X : Type 0} → Result X Fault → Fault → Type 0
IsFaultFrom outcome f = (f.why ≡ why.Memory) ⊎ IsErrAnd outcome (λ e. f ≡ fault_by true e)

same_fault : (e f : Fault) → f ≡ fault_by true e → memory_by e.why ≡ e.why → f ≡ e
same_fault e f is kept = is ∙ ap (λ w. record { at = e.at; why = w }) kept

sunk_memory : (e f : Fault) → f ≡ fault_by true e → e.why ≡ why.Sink → f.why ≡ why.Memory
sunk_memory e f is sunk = ap (λ (k : Fault). k.why) is ∙ ap memory_by sunk

-- of the blocks alone
pub head_refused : {X Y : Type 0} (r : InputReading Piece Place) (calm : Type 0) (outcome : Result X Fault) (result : Result Y Fault) → IfErr outcome (λ f. calm → f.why ≢ why.Memory → f.why ≢ why.Sink → HasHeadRefused r f.at f.why)
    → IfErr result (λ f. IsFaultFrom outcome f) → IfErr result (λ f. calm → f.why ≢ why.Memory → HasHeadRefused r f.at f.why)
head_refused r calm outcome (Ok y) told is = tt
head_refused r calm (Ok x) (Err f) told (inl m) = λ quiet other. absurd (other m)
head_refused r calm (Ok x) (Err f) told (inr none) = absurd none
head_refused r calm (Err e) (Err f) told (inl m) = λ quiet other. absurd (other m)
head_refused r calm (Err e) (Err f) told (inr is) = λ quiet other. elim (sink_or_not e.why) [
  | inl sunk ↦ absurd (other (sunk_memory e f is sunk))
  | inr kept ↦
      let same : f ≡ e = same_fault e f is kept.1 in
      subst (λ (k : Fault). HasHeadRefused r k.at k.why) (sym same) (told quiet (λ m. other (ap (λ (k : Fault). k.why) same ∙ m)) kept.0)
]

abbrev none_yet : Outcome
none_yet = None

abbrev some_yet : Place → Why → Outcome
some_yet at w = Some (Some at, w)

module _ (Reads : Outcome → Type 0) where
  pub fits_memory : (f : Fault) → f.why ≡ why.Memory → Fits IsOutOfMemory Reads (Some (Some f.at, f.why))
  fits_memory f is =
      let out : IsOutOfMemory (Some (Some f.at, f.why)) = (f.at, ap (λ w. Some (Some f.at, w)) is) in
      record { right = inl out; each = λ other w. inl out }

  not_rose : (n : ℕ) {P : Type 0} → (0 < n → ⊥) → (n ≡ 0 → P) → P
  not_rose n never go = elim (cases_lt 0 n) [ inl rose ↦ absurd (never rose) | inr few ↦ go (omega (arith, few)) ]

  no_outcome : (at : Place) → none_yet ≡ Some (Some at, why.Sink) → ⊥
  no_outcome at e = absurd cc

  outcome_why : (at to : Place) (v w : Why) → some_yet at v ≡ some_yet to w → v ≡ w
  outcome_why at to v w e = let p : ◌≡◌ {A = Option Place × Why} (Some at, v) (Some to, w) = inside _ _ e in ap (λ (q : Option Place × Why). q.1) p
    where
      inside : (x y : Option Place × Why) → Some x ≡ Some y → x ≡ y
      inside x y same = cc

  -- of all of a stream: `count` is how often the sink failed
  pub line_fits : {X Y : Type 0} (count : ℕ) (outcome : Result X Fault) (result : Result Y Fault) → (count ≡ 0 → Fits IsOutOfMemory Reads (outcome_of at_place outcome))
      → (0 < count → (at : Place) × (outcome_of at_place outcome ≡ Some (Some at, why.Sink))) → IfOk result (λ _. is_ok outcome ≡ true) → IfErr result (λ f. IsFaultFrom outcome f)
      → Fits IsOutOfMemory Reads (outcome_of at_place result)
  line_fits count (Ok x) (Ok y) fits sunk done is = not_rose count (λ rose. let s = sunk rose in no_outcome s.0 s.1) fits
  line_fits count (Err e) (Ok y) fits sunk done is = absurd cc
  line_fits count outcome (Err f) fits sunk done (inl m) = fits_memory f m
  line_fits count (Ok x) (Err f) fits sunk done (inr none) = absurd none
  line_fits count (Err e) (Err f) fits sunk done (inr is) = elim (sink_or_not e.why) [
    | inl was ↦ fits_memory f (sunk_memory e f is was)
    | inr kept ↦
        let same : f ≡ e = same_fault e f is kept.1 in
        subst (λ (k : Fault). Fits IsOutOfMemory Reads (Some (Some k.at, k.why))) (sym same)
        (not_rose count (λ rose. let s = sunk rose in kept.0 (outcome_why e.at s.0 e.why why.Sink s.1)) fits)
  ]
