-- What the calls over one packet answer is what the step gives.
use Rattle.std.proofs.Common.{◌≡◌, ◌≢◌, ℕ, ◌+◌, ◌<◌, Bool, true, false, cond, List, [], ◌∷◌, length, length-append, Option, Some, None, Result, Ok, Err, OnOk, refl, sym, ap, subst, ◌∙◌, arith, inl, inr, ◌⊎◌}
use Rattle.std.specs.Prelude.{is_some}
use Rattle.std.specs.List.{flat_map}
use Rattle.flac_bits.specs.Bits.{bits_of}
use Rattle.flac_bits.specs.State.{After}
use Rattle.flac_bits.specs.Layout.{Rule}
use Rattle.flac_bits.specs.Meaning.{AllKept, BreaksFirst}
use Rattle.flac_bits.specs.declared.why.Why.{Why}
use Rattle.flac_bits.specs.declared.why.Why.TheVariants.{PacketLength, Memory}
use Rattle.flac_info.specs.Info.{Info}
use Rattle.flac_native.specs.Stream.{Piece, Stand, Progress, grammar, room_in, place_in, end_rules, may_end_in}
use Rattle.flac_native.specs.Track.{IsAt, stand_of, is_after_blocks}
use Rattle.flac_native.specs.declared.fault.Fault.{Fault}
use Rattle.flac_native.specs.declared.fault.Place.{Place}
use Rattle.flac_native.specs.declared.fault.Place.TheVariants as place
use Rattle.flac_native.specs.declared.track.Phase.{Phase}
use Rattle.flac_native.specs.declared.track.Phase.TheVariants.{Opening, Blocks, Frames}
use Rattle.flac_native.specs.declared.track.Track.{Track}
use Rattle.flac_pages.specs.Packets.{Place as Stands, Ahead, ahead, rest_of, after_of, rest_in, after_in, to_come, page_index, fault_of, stop_of, Begins}
use Rattle.flac_pages.specs.Pages.{Stop, closed, broken}
use Rattle.flac_pages.specs.Items.{end_of, packet_of, packet_mark, IsItem, IsNoItem, TellsItem, HasAfter, item_in}
use Rattle.flac_pages.proofs.Stepping.{rest_same, after_same}
use Rattle.flac_pages.proofs.ItemReading.{short_is}
use Rattle.flac_pages.proofs.ItemMeaning.{item_again, refused_again}
use Rattle.flac_ogg.specs.Mapping.{packet_layout, packet_place, page_place}
use Rattle.flac_ogg.specs.Stream.{packet_start, last_fault}
use Rattle.flac_ogg.specs.Steps.{PacketStep, item, over, refused, ahead_after, step_of_item, judged, without_packet, step_in, packet_step}
use Rattle.flac_ogg.specs.Telling.{IsUnderWay}

-- ---- a call's answer and what it was made of

abbrev step_ok : {X : Type 0} → Option X → Result (Option X) Fault
step_ok o = Ok o

pub answer_is : {X : Type 0} (result : Result (Option X) Fault) (o q : Option X) → result ≡ Ok o → o ≡ q → result ≡ Ok q
answer_is result o q is same = is ∙ ap step_ok same

-- ---- where a packet was begun

pub begins_so : (old new : Stands) (b c : Bool) → b ≡ c → Begins old new (Ok b) → Begins old new (Ok c)
begins_so old new b c is h = subst (λ k. Begins old new (Ok k)) is h

-- the next packet, by its bytes and by what stands after them
abbrev read_by : Progress → List ℕ → After → PacketStep
read_by p rest b = step_of_item p.stand b (item_in (room_in p.stand.phase) (packet_layout p.stand) (packet_start b.fails) (record { bits = bits_of rest; ends = end_of b }))

some_step : (p : Progress) (a : Ahead) (ls : List ℕ) → 0 < length ls → step_in p a ls ≡ read_by p (rest_in 0 true a) (after_in 0 true a)
some_step p a [] some = absurd (omega (arith, some))
some_step p a (v ∷ vs) some = refl

some_ahead : (p : Stands) → 0 < length p.lacing → 0 < length (ahead p).lacing
unfolding ahead
some_ahead p some = omega (arith, length-append p.lacing (flat_map (λ q. q.lacing) (to_come p).pages), some)

-- the step is what is read of the packet that was begun
pub begun_step : (p : Progress) (old begun : Stands) → Begins old begun (Ok true) → old.known ≡ true
    → packet_step p (ahead old) ≡ step_of_item p.stand (after_of begun) (item_in (room_in p.stand.phase) (packet_layout p.stand) (packet_mark begun) (packet_of begun))
unfolding packet_step rest_of after_of
begun_step p old begun b known =
    let same : ahead begun ≡ ahead old = b.ahead known in
    let some : 0 < length (ahead old).lacing = omega (arith, some_ahead begun b.some, ap (λ (a : Ahead). length a.lacing) same) in
    let rest : rest_of begun ≡ rest_in 0 true (ahead old) = rest_same begun.rest 0 begun.more true (ahead begun) (ahead old) b.stands.0 b.stands.1 same in
    let after : after_of begun ≡ after_in 0 true (ahead old) = after_same begun.rest 0 begun.more true (ahead begun) (ahead old) b.stands.0 b.stands.1 same in
    some_step p (ahead old) (ahead old).lacing some ∙ ap (λ r. read_by p r (after_in 0 true (ahead old))) (sym rest) ∙ ap (λ k. read_by p (rest_of begun) k) (sym after)

abbrev the_ahead : List ℕ → List ℕ → Option (ℕ × Why) → Option (ℕ × Why) → Ahead
the_ahead lacing bytes fault stop = record { lacing = lacing; bytes = bytes; fault = fault; stop = stop }

ahead_is : (l l' b b' : List ℕ) (f f' s s' : Option (ℕ × Why)) → l ≡ l' → b ≡ b' → f ≡ f' → s ≡ s' → the_ahead l b f s ≡ the_ahead l' b' f' s'
ahead_is l l' b b' f f' s s' e1 e2 e3 e4 = rw (e1, e2, e3, e4) refl

same_there : (begun new : Stands) → HasAfter begun new → ahead_after (after_of begun) ≡ ahead new
same_there begun new h = ahead_is _ _ _ _ _ _ _ _ (sym h.lacing) (sym h.bytes) (sym h.fault) (sym h.stop)

abbrev the_item : Piece → Ahead → PacketStep
the_item x a = item x a

-- an item
pub read_step : (p : Progress) (old begun new : Stands) (x : Piece) → Begins old begun (Ok true) → old.known ≡ true → IsItem (room_in p.stand.phase) (packet_layout p.stand) (packet_mark begun) (packet_of begun) x → HasAfter begun new
    → packet_step p (ahead old) ≡ item x (ahead new)
read_step p old begun new x b known is h =
    begun_step p old begun b known ∙ ap (step_of_item p.stand (after_of begun)) (item_again (room_in p.stand.phase) (packet_layout p.stand) (packet_mark begun) (packet_of begun) x is) ∙ ap (the_item x) (same_there begun new h)

abbrev the_refusal : Place → Why → PacketStep
the_refusal at why = refused at why

-- none
pub no_item_step : (p : Progress) (old begun : Stands) (why : Option ℕ × Why) (fault : Fault) → Begins old begun (Ok true) → old.known ≡ true → IsNoItem (room_in p.stand.phase) (packet_layout p.stand) (packet_mark begun) (packet_of begun) why
    → fault.at ≡ packet_place p.stand why → fault.why ≡ why.1 → packet_step p (ahead old) ≡ refused fault.at fault.why
no_item_step p old begun why fault b known none at is =
    begun_step p old begun b known
    ∙ ap (step_of_item p.stand (after_of begun)) (refused_again (room_in p.stand.phase) (packet_layout p.stand) (packet_mark begun) (packet_of begun) why (short_is (after_of begun).fails (after_of begun).cut) none)
    ∙ ap (λ k. the_refusal k why.1) (sym at) ∙ ap (the_refusal fault.at) (sym is)

-- ---- what a call answered over it

abbrev ok_of : {X : Type 0} → X → Result X (Option ℕ × Why)
ok_of x = Ok x

abbrev err_of : {X : Type 0} → Option ℕ × Why → Result X (Option ℕ × Why)
err_of why = Err why

-- where memory is not wanting, what was answered tells what the packet is
abbrev Tells : {X : Type 0} → (X → Piece) → Stand → Stands → Stands → Result X (Option ℕ × Why) → Type 0
Tells view s begun new result = begun.known ≡ true → new.errors ≡ begun.errors → (result ≡ Err (None, Memory) → ⊥) → TellsItem view (room_in s.phase) (packet_layout s) (packet_mark begun) (packet_of begun) result

pub ok_step : {X : Type 0} (view : X → Piece) (s : Stand) (p : Progress) (old begun new : Stands) (result : Result X (Option ℕ × Why)) (x : X) → result ≡ Ok x → s ≡ p.stand → Begins old begun (Ok true) → old.known ≡ true → new.errors ≡ old.errors
    → Tells view s begun new result → OnOk result (begun.known ≡ true → HasAfter begun new) → packet_step p (ahead old) ≡ item (view x) (ahead new)
ok_step {X} view s p old begun new result x is at b known same tells has =
    let there : begun.known ≡ true = b.known known in
    let told : IsItem (room_in s.phase) (packet_layout s) (packet_mark begun) (packet_of begun) (view x) =
    subst (λ (r : Result X (Option ℕ × Why)). TellsItem view (room_in s.phase) (packet_layout s) (packet_mark begun) (packet_of begun) r) is (tells there (same ∙ sym b.errors) (λ e. differ (sym is ∙ e))) in
    let here = subst (λ (k : Stand). IsItem (room_in k.phase) (packet_layout k) (packet_mark begun) (packet_of begun) (view x)) at told in
    read_step p old begun new (view x) b known here (subst (λ (r : Result X (Option ℕ × Why)). OnOk r (begun.known ≡ true → HasAfter begun new)) is has there)
  where
    differ : ok_of x ≡ Err (None, Memory) → ⊥
    differ e = absurd cc

same_why : {X : Type 0} (a b : Option ℕ × Why) → err_of {X = X} a ≡ Err b → a ≡ b
same_why a b e = cc

pub err_step : {X : Type 0} (view : X → Piece) (s : Stand) (p : Progress) (old begun new : Stands) (result : Result X (Option ℕ × Why)) (why : Option ℕ × Why) (fault : Fault) → result ≡ Err why → s ≡ p.stand → Begins old begun (Ok true) → old.known ≡ true
    → new.errors ≡ old.errors → Tells view s begun new result → fault.at ≡ packet_place p.stand why → fault.why ≡ why.1 → fault.why ≢ Memory → packet_step p (ahead old) ≡ refused fault.at fault.why
err_step {X} view s p old begun new result why fault is at b known same tells place reason room =
    let told : IsNoItem (room_in s.phase) (packet_layout s) (packet_mark begun) (packet_of begun) why =
    subst (λ (r : Result X (Option ℕ × Why)). TellsItem view (room_in s.phase) (packet_layout s) (packet_mark begun) (packet_of begun) r) is
    (tells (b.known known) (same ∙ sym b.errors) (λ e. room (reason ∙ ap (λ (w : Option ℕ × Why). w.1) (same_why {X = X} why (None, Memory) (sym is ∙ e))))) in
    let here = subst (λ (k : Stand). IsNoItem (room_in k.phase) (packet_layout k) (packet_mark begun) (packet_of begun) why) at told in
    no_item_step p old begun why fault b known here place reason

-- ---- where none is left

none_step : (p : Progress) (a : Ahead) (fault stop : Option (ℕ × Why)) → a.lacing ≡ [] → a.fault ≡ fault → a.stop ≡ stop → packet_step p a ≡ without_packet p (last_fault p fault stop)
unfolding packet_step
none_step p a fault stop none f s = ap (step_in p a) none ∙ ap (λ o. without_packet p (last_fault p o a.stop)) f ∙ ap (λ o. without_packet p (last_fault p fault o)) s

abbrev no_page : Option (ℕ × Why)
no_page = None

abbrev a_page : ℕ × Why → Option (ℕ × Why)
a_page f = Some f

no_fault : (b : Bool) → cond b no_page no_page ≡ no_page
no_fault true = refl
no_fault false = refl

-- where nothing follows the page marked last, nothing breaks a packet off
unbroken : (p : Stands) → (ahead p).stop ≡ None → (ahead p).fault ≡ None
unfolding ahead
unbroken p e = go (to_come p).stop e
  where
    n : ℕ
    n = p.count + length (to_come p).pages

    differ : (f : ℕ × Why) → a_page f ≡ None → ⊥
    differ f e = absurd cc

    go : (s : Stop) → stop_of n s ≡ None → fault_of n s ≡ None
    go (closed c) e = refl
    go (broken why) e = absurd (differ (page_index n, why) e)

-- all packets were read
pub end_step : (p : Progress) (old new : Stands) → Begins old new (Ok false) → old.known ≡ true → packet_step p (ahead old) ≡ without_packet p None
end_step p old new b known =
    let over = b.over known in
    none_step p (ahead old) None None over.0 (unbroken old over.1) over.1 ∙ ap (without_packet p) (no_fault (grammar.may_end p))

-- or a fault stands there
pub fault_step : (p : Progress) (old new : Stands) (f : ℕ × Why) → Begins old new (Err f) → old.known ≡ true → new.errors ≡ old.errors → packet_step p (ahead old) ≡ without_packet p (last_fault p (cond new.last None (Some f)) (Some f))
fault_step p old new f b known same = let stop = b.fault known same in none_step p (ahead old) (cond new.last None (Some f)) (Some f) stop.0 (b.breaks known same) stop.1

one_fault : (b : Bool) (f : ℕ × Why) → cond b (a_page f) (a_page f) ≡ a_page f
one_fault true f = refl
one_fault false f = refl

-- a page is refused
pub page_refused : (p : Progress) (f : ℕ × Why) → without_packet p (last_fault p (Some f) (Some f)) ≡ refused (page_place f.0 f.1) f.1
page_refused p f = ap (without_packet p) (one_fault (grammar.may_end p) f)

-- ---- the end

kept_judged : (rules : List Rule) → AllKept rules → judged rules ≡ over
kept_judged [] kept = refl
kept_judged (rule ∷ rules) kept = rw kept.0 (kept_judged rules kept.1)

first_judged : (rules : List Rule) (why : Why) → BreaksFirst rules why → judged rules ≡ refused place.End why
first_judged [] why first = absurd first
first_judged (rule ∷ rules) why (inl (e, is)) = rw (e, is) refl
first_judged (rule ∷ rules) why (inr (e, first)) = rw e (first_judged rules why first)

none_may_end : (s : Stand) → is_after_blocks s.phase ≡ false → may_end_in s.phase s.info ≡ false
none_may_end s e = go s.phase e
  where
    go : (ph : Phase) → is_after_blocks ph ≡ false → may_end_in ph s.info ≡ false
    go Opening e = refl
    go Blocks e = refl
    go Frames e = absurd (two e)
      where
        two : true ≡ false → ⊥
        two e = absurd cc

may_end : (s : Stand) → IsUnderWay s → is_after_blocks s.phase ≡ true → may_end_in s.phase s.info ≡ true
may_end s way e = go s.phase s.info e way.told
  where
    two : false ≡ true → ⊥
    two e = absurd cc

    differ : Frames ≡ Blocks → ⊥
    differ e = absurd cc

    go : (ph : Phase) (o : Option Info) → is_after_blocks ph ≡ true → (is_some o ≡ true) ⊎ ((ph ≡ Blocks) × (s.seen.stream_info ≡ false)) → may_end_in ph o ≡ true
    go Opening o e told = absurd (two e)
    go Blocks o e told = absurd (two e)
    go Frames (Some i) e told = refl
    go Frames None e (inl some) = absurd (two some)
    go Frames None e (inr (phase, none)) = absurd (differ phase)

without_is : (p : Progress) (b : Bool) → may_end_in p.stand.phase p.stand.info ≡ b → without_packet p None ≡ cond b (judged (grammar.at_end p)) (refused (grammar.place p) PacketLength)
without_is p b e = ap (λ k. cond k (judged (grammar.at_end p)) (refused (grammar.place p) PacketLength)) e

-- a block is due
pub due_here : (t : Track) (p : Progress) (fault : Fault) → IsAt t p → is_after_blocks (stand_of t).phase ≡ false → fault.at ≡ place_in (stand_of t).phase (stand_of t).index → fault.why ≡ PacketLength → without_packet p None ≡ refused fault.at fault.why
due_here t p fault stands after is reason =
    let there : is_after_blocks p.stand.phase ≡ false = ap (λ (s : Stand). is_after_blocks s.phase) (sym stands.stand) ∙ after in
    let same : grammar.place p ≡ fault.at = ap (λ (s : Stand). place_in s.phase s.index) (sym stands.stand) ∙ sym is in
    without_is p false (none_may_end p.stand there) ∙ ap (λ k. the_refusal k PacketLength) same ∙ ap (the_refusal fault.at) (sym reason)

after_there : (t : Track) (p : Progress) → IsAt t p → is_after_blocks (stand_of t).phase ≡ true → is_after_blocks p.stand.phase ≡ true
after_there t p stands after = ap (λ (s : Stand). is_after_blocks s.phase) (sym stands.stand) ∙ after

-- the stream is over
pub over_here : (t : Track) (p : Progress) → IsAt t p → IsUnderWay p.stand → is_after_blocks (stand_of t).phase ≡ true → AllKept (end_rules p.stand.info p.samples p.message) → without_packet p None ≡ over
over_here t p stands way after kept = without_is p true (may_end p.stand way (after_there t p stands after)) ∙ kept_judged (grammar.at_end p) kept

-- or what STREAMINFO states is not so
pub refused_here : (t : Track) (p : Progress) (why : Why) → IsAt t p → IsUnderWay p.stand → is_after_blocks (stand_of t).phase ≡ true → BreaksFirst (end_rules p.stand.info p.samples p.message) why
    → without_packet p None ≡ refused place.End why
refused_here t p why stands way after first = without_is p true (may_end p.stand way (after_there t p stands after)) ∙ first_judged (grammar.at_end p) why first

-- ---- after the page marked last

-- a byte there, where the stream may end
pub byte_after : (t : Track) (p : Progress) (f : ℕ × Why) → IsAt t p → IsUnderWay p.stand → is_after_blocks (stand_of t).phase ≡ true → without_packet p (last_fault p None (Some f)) ≡ refused (page_place f.0 f.1) f.1
byte_after t p f stands way after = ap (λ b. without_packet p (cond b (Some f) no_page)) (may_end p.stand way (after_there t p stands after))

-- or a block is due
pub due_after : (t : Track) (p : Progress) (fault : Fault) (f : ℕ × Why) → IsAt t p → is_after_blocks (stand_of t).phase ≡ false → fault.at ≡ place_in (stand_of t).phase (stand_of t).index → fault.why ≡ PacketLength
    → without_packet p (last_fault p None (Some f)) ≡ refused fault.at fault.why
due_after t p fault f stands after is reason =
    let there : is_after_blocks p.stand.phase ≡ false = ap (λ (s : Stand). is_after_blocks s.phase) (sym stands.stand) ∙ after in
    ap (λ b. without_packet p (cond b (Some f) no_page)) (none_may_end p.stand there) ∙ due_here t p fault stands after is reason
