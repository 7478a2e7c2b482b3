-- The items of packets come one after another.
use Rattle.std.proofs.Common.{◌≡◌, ◌≢◌, ◌<◌, ◌≤◌, ℕ, zero, suc, ◌*◌, arith, Bool, true, false, List, [], ◌∷◌, ◌++◌, Option, Some, None, Result, Ok, Err, refl, sym, ap, subst, ◌∙◌, inl, inr, ◌⊎◌}
use Rattle.std.specs.Prelude.{OnOk, IfOk, IfErr, IfSome}
use Rattle.std.specs.Borrow.{GName}
use Rattle.flac_bits.specs.State.{Mark, State, Rises, short_of}
use Rattle.flac_bits.specs.Fencing.{lifted}
use Rattle.flac_bits.specs.Reading.{Counts}
use Rattle.flac_bits.specs.Items.{state_after}
use Rattle.flac_bits.specs.Handing.{TakesAll, Hands, Decides, reason_of, IsOutside}
use Rattle.flac_bits.specs.Reasons.{of_output}
use Rattle.flac_bits.specs.declared.why.Why.{Why}
use Rattle.flac_bits.specs.declared.why.Why.TheVariants.{Memory, Read, Truncated}
use Rattle.flac_native.specs.Stream.{Piece, Progress, Stand, grammar, next}
use Rattle.flac_native.specs.Track.{IsAt, stand_of}
use Rattle.flac_native.specs.Item.{Item, fault_pair}
use Rattle.flac_native.specs.Giving.{items_of, Gave, Stage}
use Rattle.flac_native.specs.Calls.{Answers, GivesAll}
use Rattle.flac_native.specs.declared.container.Container as container
use Rattle.flac_native.specs.Decoding.{beginning}
use Rattle.flac_native.specs.Coming.{ReadAs, IsNext, HandsFirst}
use Rattle.flac_native.specs.declared.fault.Place.{Place}
use Rattle.flac_native.specs.declared.fault.Place.TheVariants as place
use Rattle.flac_native.specs.declared.fault.Fault.{Fault}
use Rattle.flac_native.specs.declared.track.Phase.TheVariants.{Opening}
use Rattle.flac_native.specs.declared.track.Track.{Track}
use Rattle.flac_pages.specs.Packets.{Place as Stands, Ahead, OnPage, ahead, at_front}
use Rattle.flac_pages.specs.Items.{IsAtPacket, GoesAfter}
use Rattle.flac_ogg.specs.Stream.{start, packet_start, closed_packet, OggStream, OggRefused}
use Rattle.flac_ogg.specs.Steps.{PacketStep, item, over, refused, packet_step, Goes}
use Rattle.flac_ogg.specs.Decoding.{BeginsWith, IsBrokenAt, BreaksAtPage, PassesNext, BreaksInNext, IsFront, ogg_reading}
use Rattle.flac_ogg.specs.Telling.{IsUnderWay}
use Rattle.flac_ogg.specs.inner.Telling.{MeetsIn, StepIs}
use Rattle.flac_ogg.specs.Coming.{final, ItemsCome, Foretells, IsClear}
use Rattle.flac_ogg.proofs.MeaningContents.{ahead_of, begins_ahead, some_contents, contents_ahead, contents_fault, contents_stop}
use Rattle.flac_ogg.proofs.MeaningSteps.{step_item, step_refused}
use Rattle.flac_ogg.proofs.MeaningStreams.{IsReadTo, goes_begins, goes_over, goes_refused, stream_goes, refused_goes}
use Rattle.flac_ogg.proofs.MeaningReadings.{some_ogg_reading}
use Rattle.flac_ogg.proofs.MeaningErrors.{stops_read, fault_read, stop_read}
use Rattle.flac_ogg.proofs.PagesRead.{reads_to}
use Rattle.flac_ogg.proofs.UnderWay.{started, goes_on}
use Rattle.flac_native.proofs.Passing.{calls_break_after}
use Rattle.flac_native.proofs.Received.{Fronts, hands_of, decides_of, none_some, same_end}
use Rattle.flac_header.specs.declared.subset.Profile.{Profile}

-- ---- where the track stands

pub begun_there : {t : Track} {p : Progress} → IsAt t p → IsUnderWay p.stand → (stand_of t).phase ≢ Opening
begun_there {t} {p} at way e = way.begun (ap (λ (s : Stand). s.phase) (sym at.stand) ∙ e)

pub on_ok_under : {X E : Type 0} (r : Result X E) (A B : Type 0) → (A → OnOk r B) → OnOk r (A → B)
on_ok_under (Ok x) A B f = f
on_ok_under (Err e) A B f = tt

pub on_ok_at : {X E : Type 0} (r : Result X E) (A B : Type 0) → A → OnOk r (A → B) → OnOk r B
on_ok_at (Ok x) A B a h = h a
on_ok_at (Err e) A B a h = tt

-- a packet's item was read, and no error was met
pub went_on : {X : Type 0} {name : GName} {page : OnPage} (p : Stands) (old mid : State) (new : Stands) (read : Result X Why) (result : Result X (Option ℕ × Why))
    → IsAtPacket name page p old → Counts (lifted old) mid read → IfOk result (λ item. read ≡ Ok item) → OnOk result (GoesAfter mid new) → OnOk result ((p.known ≡ true → new.known ≡ true) × (new.errors ≡ p.errors))
went_on {X} p old mid new read (Ok x) at counts same goes =
    let c = subst (λ (r : Result X Why). Counts (lifted old) mid r) same counts in
    (λ k. goes.known (c.0 (at.known ∙ k)), goes.errors ∙ c.1 ∙ at.errors)
went_on p old mid new read (Err e) at counts same goes = tt

-- ---- the ways of a step differ

abbrev the_item : Piece → Ahead → PacketStep
the_item x a = item x a

abbrev no_more : PacketStep
no_more = over

abbrev refusal : Place → Why → PacketStep
refusal at why = refused at why

over_item : (x : Piece) (a : Ahead) → no_more ≡ the_item x a → ⊥
over_item x a e = absurd cc

over_refusal : (at : Place) (why : Why) → no_more ≡ refusal at why → ⊥
over_refusal at why e = absurd cc

item_refusal : (x : Piece) (a : Ahead) (at : Place) (why : Why) → the_item x a ≡ refusal at why → ⊥
item_refusal x a at why e = absurd cc

same_item : (x y : Piece) (a b : Ahead) → the_item x a ≡ the_item y b → (x ≡ y) × (a ≡ b)
same_item x y a b e = (let p : x ≡ y = cc in p, let q : a ≡ b = cc in q)

same_refusal : (at to : Place) (v w : Why) → refusal at v ≡ refusal to w → (at ≡ to) × (v ≡ w)
same_refusal at to v w e = (let p : at ≡ to = cc in p, let q : v ≡ w = cc in q)

final_item : (end : Option (Place × Why)) (x : Piece) (a : Ahead) → final end ≡ the_item x a → ⊥
final_item None x a e = over_item x a e
final_item (Some f) x a e = item_refusal x a f.0 f.1 (sym e)

-- ---- a call gives the next item

last_here : (p : Progress) (a : Ahead) (end : Option (Place × Why)) → ItemsCome p a [] end → packet_step p a ≡ final end
last_here p a end i = ap (λ k. packet_step k a) i.goes.0 ∙ ap (λ k. packet_step i.state k) i.goes.1 ∙ i.ends

-- after the first item the others come
come_after : (p : Progress) (a b : Ahead) (x : Piece) (xs : List Piece) (end : Option (Place × Why)) → packet_step p a ≡ item x b → ItemsCome p a (x ∷ xs) end → ItemsCome (next p x) b xs end
come_after p a b x xs end step i =
    let same : i.goes.0 ≡ b = (same_item x x i.goes.0 b (sym i.goes.1 ∙ step)).1 in
    let one = step_item p a i.packets i.begun x b i.given step in
    record {
      way = goes_on p (packet_start None) (closed_packet one.packet).bits x i.way one.is.spelled;
      packets = one.others;
      begun = i.begun;
      given = one.ahead;
      state = i.state;
      after = i.after;
      goes = subst (λ (k : Ahead). Goes (next p x) k xs i.state i.after) same i.goes.2;
      ends = i.ends;
    }

pub ogg_next : {X : Type 0} (p : Progress) (a b : Ahead) (view : X → Piece) (result : Result (Option X) Fault) → StepIs view (packet_step p a) b result → (reason_of fault_pair result ≡ Err Memory → ⊥)
    → (items : List Piece) (end : Option (Place × Why)) → ItemsCome p a items end → IsNext (λ q xs e. ItemsCome q b xs e) p view result items end
ogg_next p a b view (Ok None) is room [] None i = refl
ogg_next p a b view (Ok None) is room [] (Some f) i = absurd (over_refusal f.0 f.1 (sym is ∙ last_here p a (Some f) i))
ogg_next p a b view (Ok None) is room (x ∷ xs) end i = absurd (over_item x i.goes.0 (sym is ∙ i.goes.1))
ogg_next p a b view (Ok (Some y)) is room [] end i = absurd (final_item end (view y) b (sym (last_here p a end i) ∙ is))
ogg_next p a b view (Ok (Some y)) is room (x ∷ xs) end i =
    let same = same_item (view y) x b i.goes.0 (sym is ∙ i.goes.1) in
    (y, refl, same.0, come_after p a b x xs end (is ∙ ap (λ z. the_item z b) same.0) i)
ogg_next p a b view (Err e) is room [] None i = absurd (over_refusal e.at e.why (sym (last_here p a None i) ∙ is (λ h. room (ap Err h))))
ogg_next p a b view (Err e) is room [] (Some f) i =
    let same = same_refusal e.at f.0 e.why f.1 (sym (is (λ h. room (ap Err h))) ∙ last_here p a (Some f) i) in
    ap (λ (k : Place). Err (record { at = k; why = e.why })) same.0 ∙ ap (λ (w : Why). Err (record { at = f.0; why = w })) same.1
ogg_next p a b view (Err e) is room (x ∷ xs) end i = absurd (item_refusal x i.goes.0 e.at e.why (sym i.goes.1 ∙ is (λ h. room (ap Err h))))

-- ---- an error that is foretold

pub foretold_before : {X : Type 0} (p : Progress) (a b : Ahead) (view : X → Piece) (y : X) (items : List Piece) (end : Option (Place × Why)) → packet_step p a ≡ item (view y) b → ItemsCome p a items end → Foretells b → Foretells a
foretold_before p a b view y items end step i h =
    let one = step_item p a i.packets i.begun (view y) b i.given step in
    go one.fault one.stop h
  where
    go : b.fault ≡ a.fault → b.stop ≡ a.stop → Foretells b → Foretells a
    go f s (inl (n, e)) = inl (n, sym f ∙ e)
    go f s (inr (n, e)) = inr (n, sym s ∙ e)

lt_or_same : (a b : ℕ) → a ≤ b → (a < b) ⊎ (b ≡ a)
lt_or_same zero zero h = inr refl
lt_or_same zero (suc b) h = inl (omega arith)
lt_or_same (suc a) zero h = absurd (omega (arith, h))
lt_or_same (suc a) (suc b) h = elim (lt_or_same a b (omega (arith, h))) [
  | inl l ↦ inl (omega (arith, l))
  | inr e ↦ inr (ap suc e)
]

read_foretold : (p : Progress) (a : Ahead) (at : Place) (why : Why) (items : List Piece) (end : Option (Place × Why)) → packet_step p a ≡ refused at why → why ≡ Read → ItemsCome p a items end → Foretells a
read_foretold p a at why items end step is i = stops_read p i.packets i.begun a.fault a.stop at (step_refused p a i.packets i.begun at Read i.given (step ∙ ap (refusal at) is))

-- where the source's count of errors stayed; else it rose
pub read_told : (p : Progress) (a : Ahead) (at : Place) (why : Why) (items : List Piece) (end : Option (Place × Why)) (old new : ℕ) → old ≤ new → (new ≡ old → why ≢ Memory → packet_step p a ≡ refused at why) → why ≡ Read → ItemsCome p a items end → Foretells a ⊎ (old < new)
read_told p a at why items end old new kept step is i = go (lt_or_same old new kept)
  where
    room : why ≡ Memory → ⊥
    room e = differ (sym is ∙ e)
      where
        differ : Read ≡ Memory → ⊥
        differ e = absurd cc

    go : (old < new) ⊎ (new ≡ old) → Foretells a ⊎ (old < new)
    go (inl rose) = inr rose
    go (inr same) = inl (read_foretold p a at why items end (step same room) is i)

-- ---- what a call did to the pages

-- what the call that reads a packet answers
abbrev Steps : {X : Type 0} → (X → Piece) → Track → Stands → Stands → Result (Option X) Fault → Type 0
Steps view t p q result = (pr : Progress) → IsAt t pr → IsUnderWay pr.stand → p.known ≡ true → q.errors ≡ p.errors → StepIs view (packet_step pr (ahead p)) (ahead q) result

abbrev Went : {X : Type 0} → Stands → Stands → Result X Fault → Type 0
Went p q result = IfOk result (λ _. (p.known ≡ true → q.known ≡ true) × (q.errors ≡ p.errors))

pub counts_both : {X : Type 0} (p q : Stands) (result : Result X Fault) → Went p q result → MeetsIn p.raised q.raised result
    → IfOk result (λ _. (p.known ≡ true → q.known ≡ true) × (q.errors ≡ p.errors) × (q.errors ≡ p.errors) × (q.raised ≡ p.raised))
counts_both p q (Ok x) went meets = (went.0, went.1, went.1, meets)
counts_both p q (Err e) went meets = tt

-- one that returns Read met one, and none is of the output
pub read_risen : {X : Type 0} (old new : ℕ) (result : Result X Fault) → MeetsIn old new result → IfErr result (λ f. f.why ≡ Read → Rises old new)
read_risen old new (Ok x) meets = tt
read_risen old new (Err f) meets = meets.0

pub none_of_output : {X : Type 0} (old new : ℕ) (result : Result X Fault) → MeetsIn old new result → IfErr result (λ f. of_output f.why ≡ false)
none_of_output old new (Ok x) meets = tt
none_of_output old new (Err f) meets = meets.1

come_next : {X : Type 0} (p : Progress) (a b : Ahead) (view : X → Piece) (x : X) (items : List Piece) (end : Option (Place × Why)) → packet_step p a ≡ item (view x) b → ItemsCome p a items end → (xs : List Piece) × ItemsCome (next p (view x)) b xs end
come_next p a b view x [] end step i = absurd (final_item end (view x) b (sym (last_here p a end i) ∙ step))
come_next p a b view x (y ∷ ys) end step i =
    let same = same_item (view x) y b i.goes.0 (sym step ∙ i.goes.1) in
    (ys, come_after p a b (view x) ys end step (subst (λ (k : Piece). ItemsCome p a (k ∷ ys) end) (sym same.0) i))

pub clear_after : {X : Type 0} (p q : Stands) (view : X → Piece) (t u : Track) (result : Result (Option X) Fault) → Steps view t p q result → Went p q result → IfOk result (λ o. IfSome o (λ x. (pr : Progress) → IsAt t pr → IsAt u (next pr (view x))))
    → IfOk result (λ o. IfSome o (λ _. p.known ≡ true → IsClear p t → IsClear q u))
clear_after p q view t u (Ok None) steps went moves = tt
clear_after p q view t u (Ok (Some x)) steps went moves = λ known c.
    let step = steps c.progress c.at c.come.way known went.1 in
    let rest = come_next c.progress (ahead p) (ahead q) view x c.items c.end step c.come in
    record {
      progress = next c.progress (view x);
      at = moves c.progress c.at;
      items = rest.0;
      end = c.end;
      come = rest.1;
      none = λ h. c.none (foretold_before c.progress (ahead p) (ahead q) view x c.items c.end step c.come h);
    }
clear_after p q view t u (Err e) steps went moves = tt

pub read_rises : {X : Type 0} (p q : Stands) (view : X → Piece) (t : Track) (result : Result (Option X) Fault) → Steps view t p q result → p.errors ≤ q.errors → IfErr result (λ f. p.known ≡ true → f.why ≡ Read → IsClear p t → p.errors < q.errors)
read_rises p q view t (Ok x) steps kept = tt
read_rises p q view t (Err f) steps kept = λ known is c.
    elim (read_told c.progress (ahead p) f.at f.why c.items c.end p.errors q.errors kept (λ same room. steps c.progress c.at c.come.way known same room) is c.come) [
      | inl h ↦ absurd (c.none h)
      | inr rose ↦ rose
    ]

pub gives_there : {X : Type 0} (p q : Stands) (view : X → Piece) (t : Track) (result : Result (Option X) Fault) → Steps view t p q result → (pr : Progress) → IsAt t pr → p.known ≡ true → q.errors ≡ p.errors → (reason_of fault_pair result ≡ Err Memory → ⊥)
    → (items : List Piece) (end : Option (Place × Why)) → ItemsCome pr (ahead p) items end → IsNext (λ k xs e. ItemsCome k (ahead q) xs e) pr view result items end
gives_there p q view t result steps pr at known same room items end come = ogg_next pr (ahead p) (ahead q) view result (steps pr at come.way known same) room items end come

-- an item that is read takes bits
pub spent : {X : Type 0} (old new first mid : ℕ) (read : Result X Why) (result : Result X (Option ℕ × Why)) → first ≡ 8 * old → OnOk read (mid < first) → IfOk result (λ item. read ≡ Ok item) → OnOk result (8 * new ≤ mid) → OnOk result (new < old)
spent {X} old new first mid read (Ok x) most some same left = let less = subst (λ (r : Result X Why). OnOk r (mid < first)) same some in omega (arith, most, less, left)
spent old new first mid read (Err e) most some same left = tt

-- ---- of the whole input

pub front_ahead : (p : Stands) (known : Bool) (errors raised most : ℕ) (names : List GName) (text : List Bool) (short : Why) → p ≡ at_front known errors raised most names text short → ahead p ≡ ahead_of (beginning short) text
front_ahead p known errors raised most names text short e =
    begins_ahead (beginning short) text p (ap (λ (q : Stands). q.lacing) e) (ap (λ (q : Stands). q.body) e) (ap (λ (q : Stands). q.last) e) (ap (λ (q : Stands). q.before) e) (ap (λ (q : Stands). q.count) e) (ap (λ (q : Stands). q.cursor) e)

all_come : (profile : Profile) (mark : Mark) (text : List Bool) (items : List Piece) (end : Option (Place × Why)) → IsReadTo profile mark text items (final end) → ItemsCome (start profile) (ahead_of mark text) items end
all_come profile mark text items end r =
    let c = some_contents mark text in
    record { way = started profile; packets = c.packets; begun = c.begun; given = contents_ahead c; state = r.state; after = r.ahead; goes = r.goes; ends = r.step }

pub stream_comes : (profile : Profile) (mark : Mark) (text : List Bool) (items : List Piece) → OggStream profile mark items text → ItemsCome (start profile) (ahead_of mark text) items None
stream_comes profile mark text items s = all_come profile mark text items None (stream_goes profile mark text items s)

pub refusal_comes : (profile : Profile) (mark : Mark) (text : List Bool) (items : List Piece) (at : Place) (why : Why) → OggRefused profile mark items text at why → ItemsCome (start profile) (ahead_of mark text) items (Some (at, why))
refusal_comes profile mark text items at why r = all_come profile mark text items (Some (at, why)) (refused_goes profile mark text items at why r)

pub record IsThere (profile : Profile) (mark : Mark) (text : List Bool) : Type 0 where
  pub items : List Piece
  pub end : Option (Place × Why)
  pub come : ItemsCome (start profile) (ahead_of mark text) items end

pub some_come : (profile : Profile) (mark : Mark) (text : List Bool) → IsThere profile mark text
some_come profile mark text = elim (some_ogg_reading profile mark text) [
  | inl (items, s) ↦ record { items = items; end = None; come = stream_comes profile mark text items s }
  | inr (items, at, why, r) ↦ record { items = items; end = Some (at, why); come = refusal_comes profile mark text items at why r }
]

goes_front : (p : Progress) (a : Ahead) (xs ys : List Piece) (q : Progress) (b : Ahead) → Goes p a (xs ++ ys) q b → (r : Progress) × (c : Ahead) × Goes p a xs r c
goes_front p a [] ys q b g = (p, a, (refl, refl))
goes_front p a (x ∷ xs) ys q b (c, step, more) = let k = goes_front (next p x) c xs ys q b more in (k.0, k.1, (c, step, k.2))

-- ---- so much was yielded

-- what is still to come of the whole input is how it is read
read_as : (profile : Profile) (mark : Mark) (text : List Bool) (items : List Piece) (end : Option (Place × Why)) → ItemsCome (start profile) (ahead_of mark text) items end → ReadAs (ogg_reading profile mark text) items end
read_as profile mark text items None come = goes_over profile mark text items come.state come.after come.goes come.ends
read_as profile mark text items (Some f) come = goes_refused profile mark text items come.state come.after f.0 f.1 come.goes come.ends

comes : (profile : Profile) (mark : Mark) (text : List Bool) (items : List Piece) (end : Option (Place × Why)) → ReadAs (ogg_reading profile mark text) items end → ItemsCome (start profile) (ahead_of mark text) items end
comes profile mark text items None stream = stream_comes profile mark text items stream
comes profile mark text items (Some f) refusal = refusal_comes profile mark text items f.0 f.1 refusal

fronts : (profile : Profile) (mark : Mark) (text : List Bool) (items : List Piece) (end : Option (Place × Why)) → ItemsCome (start profile) (ahead_of mark text) items end → Fronts (ogg_reading profile mark text) (start profile) items
fronts profile mark text items end come = record {
  begins = λ xs ys split.
      let front = goes_front (start profile) (ahead_of mark text) xs ys come.state come.after (subst (λ (k : List Piece). Goes (start profile) (ahead_of mark text) k come.state come.after) split come.goes) in
      (goes_begins profile mark text xs front.0 front.1 front.2).begins;
  place = λ xs. refl;
}

-- the reader of packets gave these items' packets, and then broke off
abbrev BreaksOff : {C : Type 0} → (C → Stands) → Profile → C → C → List Piece → Place → Why → Type 0
BreaksOff {C} pages profile first last items at why =
    IsBrokenAt (pages last).count (state_after grammar (start profile) items) at why × ((there : C) × TakesAll (λ (a : C) (x : Piece) (b : C). PassesNext (pages a) (pages b)) first items there × BreaksInNext (pages there) (pages last) why)

pub begins_at : (p : Stands) (known : Bool) (errors raised most : ℕ) (names : List GName) (text : List Bool) (short : Why) → p ≡ at_front known errors raised most names text short → known ≡ true → IsFront (beginning short) text p
begins_at p known errors raised most names text short e told = record {
  known = ap (λ (q : Stands). q.known) e ∙ told;
  lacing = ap (λ (q : Stands). q.lacing) e;
  body = ap (λ (q : Stands). q.body) e;
  last = ap (λ (q : Stands). q.last) e;
  before = ap (λ (q : Stands). q.before) e;
  count = ap (λ (q : Stands). q.count) e;
  cursor = ap (λ (q : Stands). q.cursor) e;
}

-- the pages of these items were read
breaks_there : {C : Type 0} (pages : C → Stands) (profile : Profile) (mark : Mark) (text : List Bool) (items : List Piece) (first last : C) (at : Place) (why : Why) → IsFront mark text (pages first) → BeginsWith profile mark items text → BreaksOff pages profile first last items at why
    → BreaksAtPage profile mark items text at why
breaks_there pages profile mark text items first last at why front begins b = (
  (pages last).count,
  b.0,
  λ read. reads_to pages profile mark text items first b.1.0 (pages last).count front.known front.lacing front.last front.before front.count front.cursor begins b.1.1 (λ known. b.1.2 read known),
)

pub hands_ogg : {K C : Type 0} (profile : Profile) (first last : C) (pages : C → Stands) (takes : K → Piece → K → Type 0) (errors : K → ℕ) (mark : Mark) (text : List Bool) (items : List Piece) (end : Option (Place × Why)) (calm : Type 0) (old new : K) (outcome : Option (Place × Why))
    → IsFront mark text (pages first) → ItemsCome (start profile) (ahead_of mark text) items end → HandsFirst takes errors (start profile) items end calm (BreaksOff pages profile first last) old new outcome → Hands (ogg_reading profile mark text) takes errors calm old new outcome
hands_ogg {K} {C} profile first last pages takes errors mark text items end calm old new outcome at come h =
    let front = fronts profile mark text items end come in
    let there : HandsFirst takes errors (start profile) items end calm (λ xs to why. (ogg_reading profile mark text).breaks xs to why) old new outcome = record {
      taken = h.taken;
      left = h.left;
      split = h.split;
      mid = h.mid;
      took = h.took;
      whole = h.whole;
      done = h.done;
      refused = h.refused;
      broken = λ to why is out.
          let b = h.broken to why is out in
          (b.0, inl (breaks_there pages profile mark text h.taken first last to why at (front.begins h.taken h.left h.split) b.1));
      failed = h.failed;
    } in
    hands_of (ogg_reading profile mark text) takes errors (start profile) items end calm (λ xs to why. (ogg_reading profile mark text).breaks xs to why) old new outcome (read_as profile mark text items end come) front (λ xs to why b. b) there

-- calls of a decoder one after another
pub calls_at_pages : {C : Type 0} (g : container.Ghosts C) (pages : C → Stands) → ((c : C) → (pages c).known ≡ true → g.known c ≡ true) → ((c : C) (p : Progress) (items : List Piece) (end : Option (Place × Why)) → ItemsCome p (ahead (pages c)) items end → g.gives c p items end)
    → ((c : C) (p : Progress) (at : Place) (why : Why) → g.breaks c p at why → IsBrokenAt (pages c).count p at why) → ((a b : C) → g.gave a b → PassesNext (pages a) (pages b)) → ((a b : C) (why : Why) → g.broke a b why → BreaksInNext (pages a) (pages b) why)
    → (profile : Profile) (mark : Mark) (text : List Bool) (first now last : Stage C) (items : List Item) (f : Fault) → IsAt first.track (start profile) → IsFront mark text (pages first.container) → GivesAll g first items now → Answers g now (Err f) last → IsOutside f.why
    → (parts : List Piece) × (items ≡ items_of parts) × BeginsWith profile mark parts text × BreaksAtPage profile mark parts text f.at f.why
calls_at_pages {C} g pages knows gives breaks gave broke = λ profile mark text first now last items f at front gives_all off out.
    let c = first.container in
    let there = some_come profile mark text in
    let same : ahead (pages c) ≡ ahead_of mark text = begins_ahead mark text (pages c) front.lacing front.body front.last front.before front.count front.cursor in
    let come : ItemsCome (start profile) (ahead (pages c)) there.items there.end = subst (λ (a : Ahead). ItemsCome (start profile) a there.items there.end) (sym same) there.come in
    let b = calls_break_after g (start profile) first now last items f at gives_all off out in
    let left = b.2 (knows c front.known) there.items there.end (gives c (start profile) there.items there.end come) in
    let begins = (fronts profile mark text there.items there.end there.come).begins b.0 left.0 left.1 in
    let told : BreaksOff pages profile c last.container b.0 f.at f.why = (
      breaks last.container (state_after grammar (start profile) b.0) f.at f.why b.3.0,
      (b.3.1.0, all_passed g pages gave c b.3.1.0 b.0 b.3.1.1, broke b.3.1.0 last.container f.why b.3.1.2),
    ) in
    (b.0, b.1, begins, breaks_there pages profile mark text b.0 c last.container f.at f.why front begins told)
  where
    all_passed : {C : Type 0} (g : container.Ghosts C) (pages : C → Stands) → ((a b : C) → g.gave a b → PassesNext (pages a) (pages b)) → (old new : C) (parts : List Piece) → Gave g old parts new → TakesAll (λ (a : C) (x : Piece) (b : C). PassesNext (pages a) (pages b)) old parts new
    all_passed g pages gave old new [] same = same
    all_passed g pages gave old new (x ∷ xs) (mid, one, more) = (mid, gave old mid one, all_passed g pages gave mid new xs more)

pub decides_ogg : {K : Type 0} (profile : Profile) (breaks : List Piece → Place → Why → Type 0) (takes : K → Piece → K → Type 0) (errors : K → ℕ) (mark : Mark) (text : List Bool) (calm : Type 0) (old new : K) (outcome : Option (Place × Why))
    → ((items : List Piece) (end : Option (Place × Why)) → ItemsCome (start profile) (ahead_of mark text) items end → HandsFirst takes errors (start profile) items end calm breaks old new outcome) → calm → errors new ≡ errors old → Decides (ogg_reading profile mark text) outcome
decides_ogg profile breaks takes errors mark text calm old new outcome hands quiet same =
    decides_of (ogg_reading profile mark text) takes errors (start profile) calm breaks old new outcome (λ items end has. hands items end (comes profile mark text items end has)) quiet same

-- an error that is foretold stands after the input
pub foretold_short : (mark : Mark) (text : List Bool) → Foretells (ahead_of mark text) → mark.short ≡ Read
foretold_short mark text h =
    let c = some_contents mark text in
    let run = c.is_run in
    elim h [
      | inl (n, e) ↦ fault_read None mark c.run.pages run.text run.rest c.run.stop _ run.ends (n, sym (contents_fault c) ∙ e)
      | inr (n, e) ↦ stop_read None mark c.run.pages run.text run.rest c.run.stop _ run.ends (n, sym (contents_stop c) ∙ e)
    ]

-- before the first page memory is wanting
pub nothing_read : {K : Type 0} (profile : Profile) (takes : K → Piece → K → Type 0) (errors : K → ℕ) (mark : Mark) (text : List Bool) (calm : Type 0) (sink : K) (why : Why) → why ≡ Memory → Hands (ogg_reading profile mark text) takes errors calm sink sink (Some (place.Marker, why))
nothing_read profile takes errors mark text calm sink why is =
    let begins = (goes_begins profile mark text [] (start profile) (ahead_of mark text) (refl, refl)).begins in
    record {
      done = λ quiet e. absurd (none_some (place.Marker, why) (sym e));
      refused = λ quiet to w e room same. absurd (room (sym (same_end place.Marker to why w e).1 ∙ is));
      begun = ([], sink, begins, refl, λ same. refl);
      broken = λ to w e out. let told = same_end place.Marker to why w e in ([], begins, inr (refl, sym told.0, sym told.1 ∙ is), refl);
      failed = λ rose. absurd (omega (arith, rose));
    }

-- where the source foretells no error
pub clear_start : (profile : Profile) (p : Stands) (t : Track) (fails : Option (ℕ × Why)) (text : List Bool) → ahead p ≡ ahead_of (beginning (short_of fails)) text → IsAt t (start profile) → fails ≡ None → IsClear p t
clear_start profile p t fails text front at none =
    let mark = beginning (short_of fails) in
    let there = some_come profile mark text in
    record {
      progress = (start profile);
      at = at;
      items = there.items;
      end = there.end;
      come = subst (λ (a : Ahead). ItemsCome (start profile) a there.items there.end) (sym front) there.come;
      none = λ h. differ (ap short_of (sym none) ∙ foretold_short mark text (subst (λ (a : Ahead). Foretells a) front h));
    }
  where
    differ : Truncated ≡ Read → ⊥
    differ e = absurd cc
