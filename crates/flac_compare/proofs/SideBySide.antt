-- Two readers that are compared, step by step.
use Rattle.std.proofs.Common.{◌≡◌, ◌⊎◌, inl, inr, ℕ, ◌+◌, ◌-◌, ◌≤◌, Bool, ◌&&◌, true, false, ℤ, List, [], ◌∷◌, ◌++◌, length, length-append, append_assoc, Option, Some, None, Result, Ok, Err, IfOk, IfSome, refl, sym, ap, ◌∙◌, arith}
use Rattle.std.proofs.lemmas.List.{append-nil}
use Rattle.std.specs.Prelude.{◌≢◌}
use Rattle.flac_bits.specs.declared.why.Why.{Why}
use Rattle.flac_bits.specs.declared.why.Why.TheVariants.{Memory}
use Rattle.flac_frame.specs.Frame.{Frame}
use Rattle.flac_native.specs.Giving.{stage_of}
use Rattle.flac_native.specs.declared.fault.Place.{Place}
use Rattle.flac_native.specs.declared.fault.Fault.{Fault}
use Rattle.flac_native.specs.declared.container.Container as container
use Rattle.flac_reader.specs.Coming.{FramesCome, size_of}
use Rattle.flac_reader.specs.Giving.{last_frame}
use Rattle.flac_reader.specs.declared.reader.Reader.{Reader}
use Rattle.flac_info.specs.Info.{Info}
use Rattle.flac_compare.specs.Samples.{samples_of}
use Rattle.flac_compare.specs.Format.{AreOfOneFormat, SaysFormat, is_of_format}
use Rattle.flac_compare.specs.Compared.{counted, OneBegins, HaveLengths, SaysSamples, ComparesFrames}
use Rattle.flac_compare.specs.inner.Stepping.{Stays, MeetsNone, IsCalmIn, IsKnown, left_in, SamplesLeft, Enters, CountsRest}
use Rattle.flac_compare.specs.inner.Comparing.{AreEntered, EntersBoth, DifferAfter, FindsDifference, SaysRest, ComparesRest}
use Rattle.flac_compare.specs.declared.difference.Difference.{Difference}
use Rattle.flac_compare.specs.declared.difference.Difference.TheVariants.{Rate, Channels, Depth, Sample, Length}
use Rattle.flac_compare.specs.declared.difference.Unread.{Unread}
use Rattle.flac_compare.specs.declared.difference.Unread.TheVariants.{First, Second}
use Rattle.flac_compare.proofs.Counts.{counted_more, counted_both, counted_none}
use Rattle.flac_compare.proofs.Samples.{left_none}
use Rattle.flac_compare.proofs.Onwards.{stays_same, stays_both, met_same, met_both, calm_last}

-- ---- both go on

pub both_entered : {C D : Type 0} {g : container.Ghosts C} {h : container.Ghosts D} (first : Reader C g) (left : ℕ) (second : Reader D h) (other : ℕ) (next : Reader C g) (more : ℕ) (later : Reader D h) (others : ℕ) (a b : Bool)
    → Enters first left next more (Ok a) → Enters second other later others (Ok b) → IsKnown first → IsKnown second → AreEntered first left second other next more later others (a && b)
both_entered first left second other next more later others true true one two known knows = λ xs ys end stop p q. (one known xs end p, two knows ys stop q, λ e. absurd cc)
both_entered first left second other next more later others true false one two known knows = λ xs ys end stop p q.
    let e = two knows ys stop q in
    (one known xs end p, e.2, λ _. inr e.0)
both_entered first left second other next more later others false b one two known knows = λ xs ys end stop p q.
    let e = one known xs end p in
    (e.2, over b two ys stop q, λ _. inl e.0)
  where
    over : (b : Bool) → Enters second other later others (Ok b) → (ys : List (List ℤ)) (stop : Option (Place × Why)) → SamplesLeft second other ys stop → SamplesLeft later others ys stop
    over true t ys stop q = t knows ys stop q
    over false t ys stop q = (t knows ys stop q).2

-- ---- how many come of each, where nothing more comes of one

length_none : (xs : List (List ℤ)) → length xs ≡ 0 → xs ≡ []
length_none [] e = refl
length_none (x ∷ xs) e = absurd (omega (arith, e))

-- as many of both: none
pub rest_same : {C D : Type 0} {g : container.Ghosts C} {h : container.Ghosts D} (first : Reader C g) (left : ℕ) (second : Reader D h) (other count n m : ℕ) (next : Reader C g) (later : Reader D h)
    → CountsRest first left next (Ok n) → CountsRest second other later (Ok m) → n ≡ m → ComparesRest first left second other count next later (Ok None)
rest_same first left second other count n m next later one two same = λ calm still xs ys end stop p q some.
    let a = one calm.0 xs end p in
    let b = two still.0 ys stop q in
    let is : counted (length xs) ≡ counted (length ys) = sym a.0 ∙ same ∙ b.0 in (
      elim some [
        | inl e ↦ (e ∙ sym (length_none ys (counted_none (length ys) (sym is ∙ ap (λ l. counted (length l)) e))))
        | inr e ↦ (length_none xs (counted_none (length xs) (is ∙ ap (λ l. counted (length l)) e)) ∙ sym e)
      ],
      a.1,
      b.1,
    )

pub rest_differs : {C D : Type 0} {g : container.Ghosts C} {h : container.Ghosts D} (first : Reader C g) (left : ℕ) (second : Reader D h) (other count n m a b : ℕ) (next : Reader C g) (later : Reader D h)
    → CountsRest first left next (Ok n) → CountsRest second other later (Ok m) → n ≢ m → a ≡ counted (count + n) → b ≡ counted (count + m) → ComparesRest first left second other count next later (Ok (Some (Length a b)))
rest_differs first left second other count n m a b next later one two differ is are = λ calm still xs ys end stop p q some.
    let c = one calm.0 xs end p in
    let d = two still.0 ys stop q in
    (is ∙ ap (λ k. counted (count + k)) c.0, are ∙ ap (λ k. counted (count + k)) d.0, λ e. differ (c.0 ∙ ap (λ l. counted (length l)) e ∙ sym d.0), c.1, d.1)

pub rest_first : {C D : Type 0} {g : container.Ghosts C} {h : container.Ghosts D} (first : Reader C g) (left : ℕ) (second : Reader D h) (other count : ℕ) (next : Reader C g) (later : Reader D h) (f : Fault)
    → CountsRest first left next (Err f) → ComparesRest first left second other count next later (Err (First f))
rest_first first left second other count next later f one = λ calm still xs ys end stop p q some room. one calm room xs end p

pub rest_second : {C D : Type 0} {g : container.Ghosts C} {h : container.Ghosts D} (first : Reader C g) (left : ℕ) (second : Reader D h) (other count : ℕ) (next : Reader C g) (later : Reader D h) (f : Fault)
    → CountsRest second other later (Err f) → ComparesRest first left second other count next later (Err (Second f))
rest_second first left second other count next later f two = λ calm still xs ys end stop p q some room. two still room ys stop q

-- ---- all so far

-- the same ones were counted of both, and these come
pub record BothCome {C D : Type 0} {g : container.Ghosts C} {h : container.Ghosts D} (now : Reader C g) (left : ℕ) (here : Reader D h) (other count : ℕ) (xs ys : List (List ℤ)) (end stop : Option (Place × Why)) : Type 0 where
  pub common : List (List ℤ)
  pub rest : List (List ℤ)
  pub others : List (List ℤ)
  pub first : xs ≡ common ++ rest
  pub second : ys ≡ common ++ others
  pub counts : count ≡ counted (length common)
  pub come : SamplesLeft now left rest end
  pub comes : SamplesLeft here other others stop

abbrev pub OfBoth : {C D : Type 0} {g : container.Ghosts C} {h : container.Ghosts D} → Reader C g → Reader D h → (List (List ℤ) → List (List ℤ) → Option (Place × Why) → Option (Place × Why) → Type 0) → Type 0
OfBoth {g = g} {h = h} first second holds = (frames others : List Frame) (end stop : Option (Place × Why))
    → FramesCome g first.ahead (stage_of first.decoder) frames end → FramesCome h second.ahead (stage_of second.decoder) others stop → holds (samples_of frames) (samples_of others) end stop

pub record ComparedSoFar {C D : Type 0} {g : container.Ghosts C} {h : container.Ghosts D} (first : Reader C g) (second : Reader D h) (now : Reader C g) (left : ℕ) (here : Reader D h) (other count : ℕ) : Type 0 where
  pub stays : Stays first now
  pub stay : Stays second here
  pub met : MeetsNone first now
  pub meet : MeetsNone second here
  pub within : left ≤ size_of (last_frame now)
  pub inside : other ≤ size_of (last_frame here)
  pub both : IsKnown first → IsKnown second → OfBoth first second (BothCome now left here other count)

pub compared_start : {C D : Type 0} {g : container.Ghosts C} {h : container.Ghosts D} (first : Reader C g) (second : Reader D h) → ComparedSoFar first second first 0 second 0 0
compared_start first second = record {
  stays = stays_same first;
  stay = stays_same second;
  met = met_same first;
  meet = met_same second;
  within = omega arith;
  inside = omega arith;
  both = λ known knows frames others end stop p q. record {
    common = [];
    rest = samples_of frames;
    others = samples_of others;
    first = refl;
    second = refl;
    counts = refl;
    come = record { frames = frames; split = ap (λ l. l ++ samples_of frames) (sym (left_none (last_frame first))); come = p };
    comes = record { frames = others; split = ap (λ l. l ++ samples_of others) (sym (left_none (last_frame second))); come = q };
  };
}

-- both readers went on
entered : {C D : Type 0} {g : container.Ghosts C} {h : container.Ghosts D} (first : Reader C g) (second : Reader D h) (now next : Reader C g) (left more : ℕ) (here later : Reader D h) (other others count : ℕ) (going : Bool)
    → ComparedSoFar first second now left here other count → EntersBoth now left here other next more later others (Ok going) → IsKnown first → IsKnown second
    → (frames rows : List Frame) (end stop : Option (Place × Why)) → FramesCome g first.ahead (stage_of first.decoder) frames end → FramesCome h second.ahead (stage_of second.decoder) rows stop
    → (b : BothCome next more later others count (samples_of frames) (samples_of rows) end stop) × (going ≡ false → (b.rest ≡ []) ⊎ (b.others ≡ []))
entered first second now next left more here later other others count going far enters known knows frames rows end stop p q =
    let b = far.both known knows frames rows end stop p q in
    let e = enters (far.met.0 known) (far.meet.0 knows) b.rest b.others end stop b.come b.comes in
    (record { common = b.common; rest = b.rest; others = b.others; first = b.first; second = b.second; counts = b.counts; come = e.0; comes = e.1 }, e.2)

-- n more are the same
moved : {C : Type 0} {g : container.Ghosts C} (r : Reader C g) (left fewer : ℕ) (common rest : List (List ℤ)) (end : Option (Place × Why)) (q : SamplesLeft r left rest end) → left_in (last_frame r) left ≡ common ++ left_in (last_frame r) fewer
    → (more : List (List ℤ)) × (rest ≡ common ++ more) × SamplesLeft r fewer more end
moved r left fewer common rest end q is = (
  left_in (last_frame r) fewer ++ samples_of q.frames,
  q.split ∙ ap (λ l. l ++ samples_of q.frames) is ∙ append_assoc common (left_in (last_frame r) fewer) (samples_of q.frames),
  record { frames = q.frames; split = refl; come = q.come },
)

pub compared_turn : {C D : Type 0} {g : container.Ghosts C} {h : container.Ghosts D} (first : Reader C g) (second : Reader D h) (now next : Reader C g) (left more fewer : ℕ) (here later : Reader D h) (other others less count total n : ℕ)
    → ComparedSoFar first second now left here other count → Stays now next → Stays here later → MeetsNone now next → MeetsNone here later → more ≤ size_of (last_frame next) → others ≤ size_of (last_frame later)
    → EntersBoth now left here other next more later others (Ok true) → FindsDifference (last_frame next) more (last_frame later) others n None → fewer ≡ more - n → less ≡ others - n → total ≡ counted (count + n)
    → ComparedSoFar first second next fewer later less total
compared_turn first second now next left more fewer here later other others less count total n far stays stay met meet within inside enters share is are sums =
    let low : fewer ≤ size_of (last_frame next) = omega (arith, is, within) in
    let few : less ≤ size_of (last_frame later) = omega (arith, are, inside) in
    record {
      stays = stays_both first now next far.stays stays;
      stay = stays_both second here later far.stay stay;
      met = met_both first now next far.met met;
      meet = met_both second here later far.meet meet;
      within = low;
      inside = few;
      both = λ known knows frames rows end stop p q.
          let b = (entered first second now next left more here later other others count true far enters known knows frames rows end stop p q).0 in
          let x = moved next more fewer share.common b.rest end b.come (share.first ∙ ap (λ k. share.common ++ left_in (last_frame next) k) (sym is)) in
          let y = moved later others less share.common b.others stop b.comes (share.second ∙ ap (λ k. share.common ++ left_in (last_frame later) k) (sym are)) in
          record {
            common = b.common ++ share.common;
            rest = x.0;
            others = y.0;
            first = b.first ∙ ap (λ l. b.common ++ l) x.1 ∙ sym (append_assoc b.common share.common x.0);
            second = b.second ∙ ap (λ l. b.common ++ l) y.1 ∙ sym (append_assoc b.common share.common y.0);
            counts = sums ∙ ap (λ k. counted (k + n)) b.counts ∙ counted_more (length b.common) n ∙ ap counted (ap (λ k. length b.common + k) (sym share.long) ∙ sym (length-append b.common share.common));
            come = x.2;
            comes = y.2;
          };
    }

-- the next ones differ
pub compared_differ : {C D : Type 0} {g : container.Ghosts C} {h : container.Ghosts D} (first : Reader C g) (second : Reader D h) (now next : Reader C g) (left more : ℕ) (here later : Reader D h) (other others count total k channel : ℕ)
    → ComparedSoFar first second now left here other count → EntersBoth now left here other next more later others (Ok true) → DifferAfter k channel (left_in (last_frame next) more) (left_in (last_frame later) others) → total ≡ counted (count + k)
    → IsKnown first → IsKnown second → ComparesFrames first second (Ok (Some (Sample total channel)))
compared_differ first second now next left more here later other others count total k channel far enters d sums known knows = λ frames rows end stop p q.
    let b = (entered first second now next left more here later other others count true far enters known knows frames rows end stop p q).0 in
    let s = d.share in
    record {
      before = b.common ++ s.common;
      x = d.x;
      y = d.y;
      left = d.left ++ samples_of b.come.frames;
      other = d.other ++ samples_of b.comes.frames;
      first = b.first ∙ ap (λ l. b.common ++ l) (b.come.split ∙ ap (λ l. l ++ samples_of b.come.frames) s.first ∙ append_assoc s.common (d.x ∷ d.left) (samples_of b.come.frames)) ∙ sym (append_assoc b.common s.common (d.x ∷ (d.left ++ samples_of b.come.frames)));
      second = b.second ∙ ap (λ l. b.common ++ l) (b.comes.split ∙ ap (λ l. l ++ samples_of b.comes.frames) s.second ∙ append_assoc s.common (d.y ∷ d.other) (samples_of b.comes.frames)) ∙ sym (append_assoc b.common s.common (d.y ∷ (d.other ++ samples_of b.comes.frames)));
      counts = sums ∙ ap (λ j. counted (j + k)) b.counts ∙ counted_more (length b.common) k ∙ ap counted (ap (λ j. length b.common + j) (sym s.long) ∙ sym (length-append b.common s.common));
      differs = d.differs;
    }

-- ---- the ends

all_common : (xs common rest : List (List ℤ)) → xs ≡ common ++ rest → rest ≡ [] → xs ≡ common
all_common xs common rest split none = split ∙ ap (λ l. common ++ l) none ∙ append-nil common

-- one has no more than what is common
begins : (xs ys common rest others : List (List ℤ)) → xs ≡ common ++ rest → ys ≡ common ++ others → (rest ≡ []) ⊎ (others ≡ []) → OneBegins xs ys
begins xs ys common rest others first second some = elim some [
  | inl e ↦ inl (others, second ∙ ap (λ l. l ++ others) (sym (all_common xs common rest first e)))
  | inr e ↦ inr (rest, first ∙ ap (λ l. l ++ rest) (sym (all_common ys common others second e)))
]

same_rest : (common rest others : List (List ℤ)) → (rest ≡ []) ⊎ (others ≡ []) → common ++ rest ≡ common ++ others → rest ≡ others
same_rest common rest others some e =
    let n : length rest ≡ length others = omega (arith, ap length e, length-append common rest, length-append common others) in
    elim some [
      | inl none ↦ (none ∙ sym (length_none others (sym n ∙ ap length none)))
      | inr none ↦ (length_none rest (n ∙ ap length none) ∙ sym none)
    ]

lengths : (xs ys common rest others : List (List ℤ)) (count a b : ℕ) → xs ≡ common ++ rest → ys ≡ common ++ others → count ≡ counted (length common) → (rest ≡ []) ⊎ (others ≡ [])
    → a ≡ counted (count + counted (length rest)) → b ≡ counted (count + counted (length others)) → rest ≢ others → HaveLengths a b xs ys
lengths xs ys common rest others count a b first second counts some is are differ = record {
  first = is ∙ ap (λ k. counted (k + counted (length rest))) counts ∙ counted_both (length common) (length rest) ∙ ap counted (sym (length-append common rest) ∙ ap length (sym first));
  second = are ∙ ap (λ k. counted (k + counted (length others))) counts ∙ counted_both (length common) (length others) ∙ ap counted (sym (length-append common others) ∙ ap length (sym second));
  begins = begins xs ys common rest others first second some;
  differ = λ e. differ (same_rest common rest others some (sym first ∙ e ∙ second));
}

-- what is said of what was left is so of all
all_said : (xs ys common rest others : List (List ℤ)) (count : ℕ) (end stop : Option (Place × Why)) (result : Result (Option Difference) Unread) → xs ≡ common ++ rest → ys ≡ common ++ others → count ≡ counted (length common) → (rest ≡ []) ⊎ (others ≡ [])
    → SaysRest count rest others end stop result → SaysSamples xs ys end stop result
all_said xs ys common rest others count end stop (Ok None) first second counts some says = (first ∙ ap (λ l. common ++ l) says.0 ∙ sym second, says.1, says.2)
all_said xs ys common rest others count end stop (Ok (Some (Length a b))) first second counts some says = (lengths xs ys common rest others count a b first second counts some says.0 says.1 says.2, says.3, says.4)
all_said xs ys common rest others count end stop (Ok (Some (Sample a b))) first second counts some says = absurd says
all_said xs ys common rest others count end stop (Ok (Some (Rate a b))) first second counts some says = absurd says
all_said xs ys common rest others count end stop (Ok (Some (Channels a b))) first second counts some says = absurd says
all_said xs ys common rest others count end stop (Ok (Some (Depth a b))) first second counts some says = absurd says
all_said xs ys common rest others count end stop (Err (First f)) first second counts some says = λ room. (begins xs ys common rest others first second some, says room)
all_said xs ys common rest others count end stop (Err (Second f)) first second counts some says = λ room. (begins xs ys common rest others first second some, says room)

pub compared_rest : {C D : Type 0} {g : container.Ghosts C} {h : container.Ghosts D} (first : Reader C g) (second : Reader D h) (now next last : Reader C g) (left more : ℕ) (here later final : Reader D h) (other others count : ℕ) (result : Result (Option Difference) Unread)
    → ComparedSoFar first second now left here other count → MeetsNone now next → MeetsNone here later → EntersBoth now left here other next more later others (Ok false) → ComparesRest next more later others count last final result
    → IsCalmIn first last → IsCalmIn second final → ComparesFrames first second result
compared_rest first second now next last left more here later final other others count result far met meet enters rest calm still = λ frames rows end stop p q.
    let e = entered first second now next left more here later other others count false far enters calm.0 still.0 frames rows end stop p q in
    let b = e.0 in
    let one = calm_last first next last (met_both first now next far.met met) calm in
    let two = calm_last second later final (met_both second here later far.meet meet) still in
    all_said (samples_of frames) (samples_of rows) b.common b.rest b.others count end stop result b.first b.second b.counts (e.1 refl)
    (rest one two b.rest b.others end stop b.come b.comes (e.1 refl))

pub compared_first : {C D : Type 0} {g : container.Ghosts C} {h : container.Ghosts D} (first : Reader C g) (second : Reader D h) (now next : Reader C g) (left more : ℕ) (here later : Reader D h) (other others count : ℕ) (f : Fault)
    → ComparedSoFar first second now left here other count → EntersBoth now left here other next more later others (Err (First f)) → IsCalmIn first next → IsKnown second → ComparesFrames first second (Err (First f))
compared_first first second now next left more here later other others count f far enters calm knows = λ frames rows end stop p q room.
    let b = far.both calm.0 knows frames rows end stop p q in
    let e = enters (calm_last first now next far.met calm) room b.rest end b.come in
    (begins (samples_of frames) (samples_of rows) b.common b.rest b.others b.first b.second (inl e.0), e.1)

pub compared_second : {C D : Type 0} {g : container.Ghosts C} {h : container.Ghosts D} (first : Reader C g) (second : Reader D h) (now next : Reader C g) (left more : ℕ) (here later : Reader D h) (other others count : ℕ) (f : Fault)
    → ComparedSoFar first second now left here other count → EntersBoth now left here other next more later others (Err (Second f)) → IsKnown first → IsCalmIn second later → ComparesFrames first second (Err (Second f))
compared_second first second now next left more here later other others count f far enters known calm = λ frames rows end stop p q room.
    let b = far.both known calm.0 frames rows end stop p q in
    let e = enters (calm_last second here later far.meet calm) room b.others stop b.comes in
    (begins (samples_of frames) (samples_of rows) b.common b.rest b.others b.first b.second (inr e.0), e.1)

pub compared_refused : {C D : Type 0} {g : container.Ghosts C} {h : container.Ghosts D} (first : Reader C g) (second : Reader D h) (now next : Reader C g) (left more : ℕ) (here later : Reader D h) (other others count : ℕ) (unread : Unread)
    → ComparedSoFar first second now left here other count → EntersBoth now left here other next more later others (Err unread) → IsCalmIn first next → IsCalmIn second later → ComparesFrames first second (Err unread)
compared_refused first second now next left more here later other others count (First f) far enters calm still = compared_first first second now next left more here later other others count f far enters calm still.0
compared_refused first second now next left more here later other others count (Second f) far enters calm still = compared_second first second now next left more here later other others count f far enters calm.0 still

pub compared_no_more : {C D : Type 0} {g : container.Ghosts C} {h : container.Ghosts D} (first : Reader C g) (second : Reader D h) (f : Fault) → f.why ≡ Memory → ComparesFrames first second (Err (First f))
compared_no_more first second f is = λ frames rows end stop p q room. absurd (room is)

-- ---- the formats

format_first : (xs ys : List (List ℤ)) (end stop : Option (Place × Why)) (d : Difference) → is_of_format d ≡ true → SaysSamples xs ys end stop (Ok (Some d))
format_first xs ys end stop (Rate a b) e = tt
format_first xs ys end stop (Channels a b) e = tt
format_first xs ys end stop (Depth a b) e = tt
format_first xs ys end stop (Sample a b) e = absurd cc
format_first xs ys end stop (Length a b) e = absurd cc

pub format_differs : {C D : Type 0} {g : container.Ghosts C} {h : container.Ghosts D} (first : Reader C g) (second : Reader D h) (d : Difference) → is_of_format d ≡ true → ComparesFrames first second (Ok (Some d))
format_differs first second d e = λ frames rows end stop p q. format_first (samples_of frames) (samples_of rows) end stop d e

format_then : (i k : Info) (found : Option Difference) → AreOfOneFormat i k → IfSome found (λ d. is_of_format d ≡ false) → SaysFormat i k found
format_then i k None same e = same
format_then i k (Some (Rate a b)) same e = absurd cc
format_then i k (Some (Channels a b)) same e = absurd cc
format_then i k (Some (Depth a b)) same e = absurd cc
format_then i k (Some (Sample a b)) same e = same
format_then i k (Some (Length a b)) same e = same

pub format_same : (i k : Info) (result : Result (Option Difference) Unread) → AreOfOneFormat i k → IfOk result (λ found. IfSome found (λ d. is_of_format d ≡ false)) → IfOk result (λ found. SaysFormat i k found)
format_same i k (Ok found) same e = format_then i k found same e
format_same i k (Err u) same e = tt
