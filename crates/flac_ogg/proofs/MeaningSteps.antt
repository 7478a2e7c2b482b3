-- One packet: what the step gives is what the packet means.
use Rattle.std.proofs.Common.{◌≡◌, ◌≢◌, ℕ, zero, suc, ◌*◌, Bool, true, false, cond, List, [], ◌∷◌, ◌++◌, length, take, drop, replicate, Option, Some, None, Result, Ok, Err, refl, sym, ap, subst, ◌∙◌, arith, append_assoc, inl, inr}
use Rattle.std.specs.List.{flat_map}
use Rattle.std.proofs.lemmas.List.{take_all}
use Rattle.std.proofs.Math.Seq.{drop-append_seam}
use Rattle.flac_bits.specs.State.{After, short_of}
use Rattle.flac_bits.specs.Layout.{Rule}
use Rattle.flac_bits.specs.Meaning.{AllKept, BreaksFirst}
use Rattle.flac_bits.specs.declared.why.Why.{Why}
use Rattle.flac_bits.specs.declared.why.Why.TheVariants.{PacketLength}
use Rattle.flac_native.specs.Stream.{Piece, Stand, Progress, grammar, room_in}
use Rattle.flac_native.specs.declared.fault.Place.{Place}
use Rattle.flac_native.specs.declared.fault.Place.TheVariants as place
use Rattle.flac_pages.specs.Packets.{Ahead, size, ends, past_packet, lacing_of, left_in, rest_in, after_in}
use Rattle.flac_pages.specs.Items.{Packet, whole, end_in, end_of, IsItem, IsNoItem, TellsItem, item_in}
use Rattle.flac_pages.specs.inner.Items.{short_at}
use Rattle.flac_pages.specs.Given.{PacketsAhead}
use Rattle.flac_pages.proofs.PacketMeaning.{packet_closes, given_rest}
use Rattle.flac_pages.proofs.ItemMeaning.{item_means, item_again, refused_again}
use Rattle.flac_ogg.specs.Mapping.{packet_layout, packet_place, page_place}
use Rattle.flac_ogg.specs.Stream.{packet_start, closed_packet, open_packet, last_fault, StopsAtPacket, packet_refused, part_refused, pages_refused, block_missing, end_refused}
use Rattle.flac_ogg.specs.Steps.{PacketStep, item, over, refused, ahead_after, next_packet, step_of_item, judged, without_packet, step_in, packet_step}
use Rattle.flac_ogg.proofs.MeaningPackets.{bytes_of}

-- what reading one item of a packet gives, after whose bytes this fault stands
abbrev pub read_of : Progress → Option (ℕ × Why) → Packet → Result Piece (Option ℕ × Why)
read_of p fault packet = item_in (room_in p.stand.phase) (packet_layout p.stand) (packet_start fault) packet

abbrev pub IsThe : Progress → Option (ℕ × Why) → Packet → Piece → Type 0
IsThe p fault packet x = IsItem (room_in p.stand.phase) (packet_layout p.stand) (packet_start fault) packet x

abbrev pub IsNone : Progress → Option (ℕ × Why) → Packet → Option ℕ × Why → Type 0
IsNone p fault packet why = IsNoItem (room_in p.stand.phase) (packet_layout p.stand) (packet_start fault) packet why

abbrev pub after_next : Ahead → Ahead
after_next a = ahead_after (after_in 0 true a)

two : true ≡ false → ⊥
two e = absurd cc

-- ---- what is ahead: a whole packet, one that goes on, or none

pub record IsFirst (a : Ahead) (x : List ℕ) (xs : List (List ℕ)) (s : List ℕ) : Type 0 where
  pub ended : ends a.lacing ≡ true
  pub rest : rest_in 0 true a ≡ x
  pub others : PacketsAhead (after_next a) xs s

pub first_is : (a : Ahead) (x : List ℕ) (xs : List (List ℕ)) (s : List ℕ) → PacketsAhead a (x ∷ xs) s → IsFirst a x xs s
first_is a x xs s h =
    let ls : List ℕ = flat_map lacing_of xs ++ replicate h.full 255 in
    let bs : List ℕ = bytes_of xs ++ s in
    let c = packet_closes x ls in
    let l : a.lacing ≡ lacing_of x ++ ls = h.lacing ∙ append_assoc (lacing_of x) (flat_map lacing_of xs) (replicate h.full 255) in
    let b : a.bytes ≡ x ++ bs = h.bytes ∙ append_assoc x (bytes_of xs) s in
    let long : left_in 0 true a.lacing ≡ length x = omega (arith, ap size l, c.size) in
    record {
      ended = ap ends l ∙ c.ends;
      rest = given_rest a x ls bs l b;
      others = record { full = h.full; lacing = ap past_packet l ∙ c.past; bytes = ap (λ k. drop k a.bytes) long ∙ ap (drop (length x)) b ∙ drop-append_seam x bs; part = h.part };
    }

full_size : (k : ℕ) → size (replicate k 255) ≡ 255 * k
full_size zero = refl
full_size (suc k) = omega (arith, full_size k)

full_ends : (k : ℕ) → ends (replicate k 255) ≡ false
full_ends zero = refl
full_ends (suc k) = full_ends k

pub record IsLast (a : Ahead) (s : List ℕ) : Type 0 where
  pub goes_on : ends a.lacing ≡ false
  pub rest : rest_in 0 true a ≡ s

last_is : (a : Ahead) (s : List ℕ) → PacketsAhead a [] s → IsLast a s
last_is a s h =
    let n : left_in 0 true a.lacing ≡ 255 * h.full = omega (arith, ap size h.lacing, full_size h.full) in
    record {
      goes_on = ap ends h.lacing ∙ full_ends h.full;
      rest = ap (λ k. take k a.bytes) n ∙ ap (take (255 * h.full)) h.bytes ∙ take_all (255 * h.full) s (omega (arith, h.part));
    }

-- ---- the step at each

some_step : (p : Progress) (a : Ahead) → a.lacing ≢ [] → packet_step p a ≡ step_of_item p.stand (after_in 0 true a) (read_of p (after_in 0 true a).fails (next_packet a))
unfolding packet_step
some_step p a some = go a.lacing some
  where
    go : (ls : List ℕ) → ls ≢ [] → step_in p a ls ≡ step_of_item p.stand (after_in 0 true a) (read_of p (after_in 0 true a).fails (next_packet a))
    go [] some = absurd (some refl)
    go (v ∷ vs) some = refl

-- a whole packet
pub first_step : (p : Progress) (a : Ahead) (x : List ℕ) (xs : List (List ℕ)) (s : List ℕ) → PacketsAhead a (x ∷ xs) s → packet_step p a ≡ step_of_item p.stand (after_in 0 true a) (read_of p None (closed_packet x))
first_step p a x xs s h =
    let first = first_is a x xs s h in
    let ended = first.ended in
    let rest = first.rest in
    let fails : (after_in 0 true a).fails ≡ None = rw ended refl in
    let ends_so : end_of (after_in 0 true a) ≡ whole = rw ended refl in
    let packet : next_packet a ≡ closed_packet x = rw (rest, ends_so) refl in
    some_step p a (λ e. two (sym ended ∙ ap ends e)) ∙ ap (λ f. step_of_item p.stand (after_in 0 true a) (read_of p f (next_packet a))) fails ∙ ap (λ k. step_of_item p.stand (after_in 0 true a) (read_of p None k)) packet

no_size : (a : Ahead) (s : List ℕ) → PacketsAhead a [] s → a.lacing ≡ [] → length s ≡ 0
no_size a s h e = h.part ∙ sym (full_size h.full) ∙ ap size (sym h.lacing ∙ e)

none_long : (s : List ℕ) → length s ≡ 0 → s ≡ []
none_long [] e = refl
none_long (x ∷ xs) e = absurd (omega (arith, e))

-- one that goes on
pub last_step : (p : Progress) (a : Ahead) (s : List ℕ) → PacketsAhead a [] s → s ≢ [] → packet_step p a ≡ step_of_item p.stand (after_in 0 true a) (read_of p a.fault (open_packet s a.fault))
last_step p a s h some =
    let last = last_is a s h in
    let goes_on = last.goes_on in
    let rest = last.rest in
    let fails : (after_in 0 true a).fails ≡ a.fault = rw goes_on refl in
    let ends_so : end_of (after_in 0 true a) ≡ end_in a.fault true = rw goes_on refl in
    let packet : next_packet a ≡ open_packet s a.fault = rw (rest, ends_so) refl in
    some_step p a (λ e. some (none_long s (no_size a s h e))) ∙ ap (λ f. step_of_item p.stand (after_in 0 true a) (read_of p f (next_packet a))) fails ∙ ap (λ k. step_of_item p.stand (after_in 0 true a) (read_of p a.fault k)) packet

no_lacing : (n : ℕ) → 0 ≡ 255 * n → replicate {A = ℕ} n 255 ≡ []
no_lacing zero e = refl
no_lacing (suc n) e = absurd (omega (arith, e))

-- none
pub none_step : (p : Progress) (a : Ahead) → PacketsAhead a [] [] → packet_step p a ≡ without_packet p (last_fault p a.fault a.stop)
unfolding packet_step
none_step p a h = ap (λ ls. step_in p a ls) (h.lacing ∙ no_lacing h.full h.part)

-- ---- constructors

the_item : Piece → Ahead → PacketStep
the_item x a = item x a

item_is_not_over : (x : Piece) (a : Ahead) → item x a ≡ over → ⊥
item_is_not_over x a e = absurd cc

item_is_no_refusal : (x : Piece) (a : Ahead) (at : Place) (why : Why) → item x a ≡ refused at why → ⊥
item_is_no_refusal x a at why e = absurd cc

pub over_is_no_refusal : (at : Place) (why : Why) → over ≡ refused at why → ⊥
over_is_no_refusal at why e = absurd cc

pub same_item : (x y : Piece) (a b : Ahead) → item x a ≡ item y b → (x ≡ y) × (a ≡ b)
same_item x y a b e = (let p : x ≡ y = cc in p, let q : a ≡ b = cc in q)

pub same_refusal : (at to : Place) (v w : Why) → refused at v ≡ refused to w → (at ≡ to) × (v ≡ w)
same_refusal at to v w e = (let p : at ≡ to = cc in p, let q : v ≡ w = cc in q)

-- ---- what an answer says of what was read

abbrev answer : Result Piece (Option ℕ × Why) → Result Piece (Option ℕ × Why)
answer r = r

told_item : (s : Stand) (b : After) (r : Result Piece (Option ℕ × Why)) (x : Piece) (c : Ahead) → step_of_item s b r ≡ item x c → (r ≡ Ok x) × (c ≡ ahead_after b)
told_item s b (Ok y) x c e = let same = same_item y x (ahead_after b) c e in (ap (λ z. answer (Ok z)) same.0, sym same.1)
told_item s b (Err why) x c e = absurd (item_is_no_refusal x c (packet_place s why) why.1 (sym e))

told_no_over : (s : Stand) (b : After) (r : Result Piece (Option ℕ × Why)) → step_of_item s b r ≡ over → ⊥
told_no_over s b (Ok y) e = item_is_not_over y (ahead_after b) e
told_no_over s b (Err why) e = over_is_no_refusal (packet_place s why) why.1 (sym e)

told_refused : (s : Stand) (b : After) (r : Result Piece (Option ℕ × Why)) (at : Place) (why : Why) → step_of_item s b r ≡ refused at why → (own : Option ℕ) × (r ≡ Err (own, why)) × (at ≡ packet_place s (own, why))
told_refused s b (Ok y) at why e = absurd (item_is_no_refusal y (ahead_after b) at why e)
told_refused s b (Err w) at why e =
    let same = same_refusal (packet_place s w) at w.1 why e in
    (w.0, ap (λ v. answer (Err (w.0, v))) same.1, sym same.0 ∙ ap (λ v. packet_place s (w.0, v)) same.1)

judged_no_item : (rules : List Rule) (x : Piece) (c : Ahead) → judged rules ≡ item x c → ⊥
judged_no_item [] x c e = item_is_not_over x c (sym e)
judged_no_item (rule ∷ rules) x c e = go (λ f. judged_no_item rules x c f) rule.broken e
  where
    go : (judged rules ≡ item x c → ⊥) → (b : Bool) → cond b (refused place.End rule.why) (judged rules) ≡ item x c → ⊥
    go more true e = item_is_no_refusal x c place.End rule.why (sym e)
    go more false e = more e

judged_over : (rules : List Rule) → judged rules ≡ over → AllKept rules
judged_over [] e = tt
judged_over (rule ∷ rules) e = go (λ f. judged_over rules f) rule.broken refl e
  where
    go : (judged rules ≡ over → AllKept rules) → (b : Bool) → rule.broken ≡ b → cond b (refused place.End rule.why) (judged rules) ≡ over → AllKept (rule ∷ rules)
    go more true is e = absurd (over_is_no_refusal place.End rule.why (sym e))
    go more false is e = (is, more e)

judged_refused : (rules : List Rule) (at : Place) (why : Why) → judged rules ≡ refused at why → (at ≡ place.End) × BreaksFirst rules why
judged_refused [] at why e = absurd (over_is_no_refusal at why e)
judged_refused (rule ∷ rules) at why e = go (λ f. judged_refused rules at why f) rule.broken refl e
  where
    go : (judged rules ≡ refused at why → (at ≡ place.End) × BreaksFirst rules why) → (b : Bool) → rule.broken ≡ b → cond b (refused place.End rule.why) (judged rules) ≡ refused at why → (at ≡ place.End) × BreaksFirst (rule ∷ rules) why
    go more true is e = let same = same_refusal place.End at rule.why why e in (sym same.0, inl (is, same.1))
    go more false is e = let others = more e in (others.0, inr (is, others.1))

kept_judged : (rules : List Rule) → AllKept rules → judged rules ≡ over
kept_judged [] kept = refl
kept_judged (rule ∷ rules) kept = rw kept.0 (kept_judged rules kept.1)

first_judged : (rules : List Rule) (why : Why) → BreaksFirst rules why → judged rules ≡ refused place.End why
first_judged [] why first = absurd first
first_judged (rule ∷ rules) why (inl (e, is)) = rw (e, is) refl
first_judged (rule ∷ rules) why (inr (e, first)) = rw e (first_judged rules why first)

-- ---- where no packet is left

without_no_item : (p : Progress) (stop : Option (ℕ × Why)) (x : Piece) (c : Ahead) → without_packet p stop ≡ item x c → ⊥
without_no_item p (Some f) x c e = item_is_no_refusal x c (page_place f.0 f.1) f.1 (sym e)
without_no_item p None x c e = go (grammar.may_end p) e
  where
    go : (b : Bool) → cond b (judged (grammar.at_end p)) (refused (grammar.place p) PacketLength) ≡ item x c → ⊥
    go true e = judged_no_item (grammar.at_end p) x c e
    go false e = item_is_no_refusal x c (grammar.place p) PacketLength (sym e)

without_over : (p : Progress) (stop : Option (ℕ × Why)) → without_packet p stop ≡ over → (stop ≡ None) × (grammar.may_end p ≡ true) × AllKept (grammar.at_end p)
without_over p (Some f) e = absurd (over_is_no_refusal (page_place f.0 f.1) f.1 (sym e))
without_over p None e = let r = go (grammar.may_end p) refl e in (refl, r.0, r.1)
  where
    go : (b : Bool) → grammar.may_end p ≡ b → cond b (judged (grammar.at_end p)) (refused (grammar.place p) PacketLength) ≡ over → (grammar.may_end p ≡ true) × AllKept (grammar.at_end p)
    go true is e = (is, judged_over (grammar.at_end p) e)
    go false is e = absurd (over_is_no_refusal (grammar.place p) PacketLength (sym e))

-- where the stream may end
may_stop : (p : Progress) (fault stop : Option (ℕ × Why)) → grammar.may_end p ≡ true → last_fault p fault stop ≡ stop
may_stop p fault stop e = ap (λ b. cond b stop fault) e

-- and where a block is due
due_fault : (p : Progress) (fault stop : Option (ℕ × Why)) → grammar.may_end p ≡ false → last_fault p fault stop ≡ fault
due_fault p fault stop e = ap (λ b. cond b stop fault) e

some_fault : ℕ → Why → Option (ℕ × Why)
some_fault n why = Some (n, why)

without_refused : (p : Progress) (fault stop : Option (ℕ × Why)) (at : Place) (why : Why) → without_packet p (last_fault p fault stop) ≡ refused at why → StopsAtPacket p [] [] fault stop at why
unfolding some_fault
without_refused p fault stop at why e = by (last_fault p fault stop) refl e
  where
    go : (b : Bool) → grammar.may_end p ≡ b → last_fault p fault stop ≡ None → cond b (judged (grammar.at_end p)) (refused (grammar.place p) PacketLength) ≡ refused at why → StopsAtPacket p [] [] fault stop at why
    go true is none e = let r = judged_refused (grammar.at_end p) at why e in end_refused refl refl (sym (may_stop p fault stop is) ∙ none) is r.0 r.1
    go false is none e = let same = same_refusal (grammar.place p) at PacketLength why e in block_missing refl refl (sym (due_fault p fault stop is) ∙ none) is (sym same.0) (sym same.1)

    by : (o : Option (ℕ × Why)) → last_fault p fault stop ≡ o → without_packet p o ≡ refused at why → StopsAtPacket p [] [] fault stop at why
    by (Some f) is e =
        let same = same_refusal (page_place f.0 f.1) at f.1 why e in
        pages_refused f.0 refl refl (is ∙ ap (λ w. some_fault f.0 w) same.1) (sym same.0 ∙ ap (λ w. page_place f.0 w) same.1)
    by None is e = go (grammar.may_end p) refl is e

-- ---- what a step says of the packets

closed_means : (p : Progress) (x : List ℕ) (r : Result Piece (Option ℕ × Why)) → read_of p None (closed_packet x) ≡ r → TellsItem (λ x. x) (room_in p.stand.phase) (packet_layout p.stand) (packet_start None) (closed_packet x) r
closed_means p x r e = subst (λ k. TellsItem (λ x. x) (room_in p.stand.phase) (packet_layout p.stand) (packet_start None) (closed_packet x) k) e
    (item_means (room_in p.stand.phase) (packet_layout p.stand) (packet_start None) (closed_packet x) refl)

open_short : (fault : Option (ℕ × Why)) → short_of fault ≡ short_at (end_in fault true)
open_short None = refl
open_short (Some f) = refl

open_means : (p : Progress) (s : List ℕ) (fault : Option (ℕ × Why)) (r : Result Piece (Option ℕ × Why)) → read_of p fault (open_packet s fault) ≡ r
    → TellsItem (λ x. x) (room_in p.stand.phase) (packet_layout p.stand) (packet_start fault) (open_packet s fault) r
open_means p s fault r e = subst (λ k. TellsItem (λ x. x) (room_in p.stand.phase) (packet_layout p.stand) (packet_start fault) (open_packet s fault) k) e
    (item_means (room_in p.stand.phase) (packet_layout p.stand) (packet_start fault) (open_packet s fault) (open_short fault))

open_is_not_whole : (fault : Option (ℕ × Why)) → end_in fault true ≡ whole → ⊥
open_is_not_whole None e = absurd cc
open_is_not_whole (Some f) e = absurd cc

-- after an item's packet
pub record IsAfter (p : Progress) (a : Ahead) (packets : List (List ℕ)) (begun : List ℕ) (x : Piece) (c : Ahead) : Type 0 where
  pub packet : List ℕ
  pub others : List (List ℕ)
  pub split : packets ≡ packet ∷ others
  pub is : IsThe p None (closed_packet packet) x
  pub ahead : PacketsAhead c others begun
  pub fault : c.fault ≡ a.fault
  pub stop : c.stop ≡ a.stop

pub step_item : (p : Progress) (a : Ahead) (packets : List (List ℕ)) (begun : List ℕ) (x : Piece) (c : Ahead) → PacketsAhead a packets begun → packet_step p a ≡ item x c → IsAfter p a packets begun x c
step_item p a [] [] x c h e = absurd (without_no_item p (last_fault p a.fault a.stop) x c (sym (none_step p a h) ∙ e))
step_item p a [] (v ∷ vs) x c h e =
    let same = told_item p.stand (after_in 0 true a) (read_of p a.fault (open_packet (v ∷ vs) a.fault)) x c (sym (last_step p a (v ∷ vs) h (λ none. absurd cc)) ∙ e) in
    let is = open_means p (v ∷ vs) a.fault (Ok x) same.0 in
    absurd (open_is_not_whole a.fault is.ended)
step_item p a (y ∷ ys) begun x c h e =
    let same = told_item p.stand (after_in 0 true a) (read_of p None (closed_packet y)) x c (sym (first_step p a y ys begun h) ∙ e) in
    record {
      packet = y;
      others = ys;
      split = refl;
      is = closed_means p y (Ok x) same.0;
      ahead = subst (λ (k : Ahead). PacketsAhead k ys begun) (sym same.1) (first_is a y ys begun h).others;
      fault = ap (λ (k : Ahead). k.fault) same.1;
      stop = ap (λ (k : Ahead). k.stop) same.1;
    }

-- where all is over
pub record IsOver (p : Progress) (a : Ahead) (packets : List (List ℕ)) (begun : List ℕ) : Type 0 where
  pub no_packet : packets ≡ []
  pub no_part : begun ≡ []
  pub no_fault : a.stop ≡ None
  pub ends : grammar.may_end p ≡ true
  pub kept : AllKept (grammar.at_end p)

pub step_over : (p : Progress) (a : Ahead) (packets : List (List ℕ)) (begun : List ℕ) → PacketsAhead a packets begun → packet_step p a ≡ over → IsOver p a packets begun
step_over p a [] [] h e =
    let w = without_over p (last_fault p a.fault a.stop) (sym (none_step p a h) ∙ e) in
    record { no_packet = refl; no_part = refl; no_fault = sym (may_stop p a.fault a.stop w.1) ∙ w.0; ends = w.1; kept = w.2 }
step_over p a [] (v ∷ vs) h e = absurd (told_no_over p.stand (after_in 0 true a) (read_of p a.fault (open_packet (v ∷ vs) a.fault)) (sym (last_step p a (v ∷ vs) h (λ none. absurd cc)) ∙ e))
step_over p a (y ∷ ys) begun h e = absurd (told_no_over p.stand (after_in 0 true a) (read_of p None (closed_packet y)) (sym (first_step p a y ys begun h) ∙ e))

pub step_refused : (p : Progress) (a : Ahead) (packets : List (List ℕ)) (begun : List ℕ) (at : Place) (why : Why) → PacketsAhead a packets begun → packet_step p a ≡ refused at why → StopsAtPacket p packets begun a.fault a.stop at why
step_refused p a [] [] at why h e = without_refused p a.fault a.stop at why (sym (none_step p a h) ∙ e)
step_refused p a [] (v ∷ vs) at why h e =
    let some : (v ∷ vs) ≢ [] = λ none. absurd cc in
    let w = told_refused p.stand (after_in 0 true a) (read_of p a.fault (open_packet (v ∷ vs) a.fault)) at why (sym (last_step p a (v ∷ vs) h some) ∙ e) in
    part_refused w.0 refl some (open_means p (v ∷ vs) a.fault (Err (w.0, why)) w.1) w.2
step_refused p a (y ∷ ys) begun at why h e =
    let w = told_refused p.stand (after_in 0 true a) (read_of p None (closed_packet y)) at why (sym (first_step p a y ys begun h) ∙ e) in
    packet_refused y ys w.0 refl (closed_means p y (Err (w.0, why)) w.1) w.2

-- ---- and what the packets say of a step

pub item_step : (p : Progress) (a : Ahead) (packet : List ℕ) (packets : List (List ℕ)) (begun : List ℕ) (x : Piece) → PacketsAhead a (packet ∷ packets) begun → IsThe p None (closed_packet packet) x → packet_step p a ≡ item x (after_next a)
item_step p a y ys begun x h is = first_step p a y ys begun h ∙ ap (λ r. step_of_item p.stand (after_in 0 true a) r) (item_again (room_in p.stand.phase) (packet_layout p.stand) (packet_start None) (closed_packet y) x is)

pub over_step : (p : Progress) (a : Ahead) → PacketsAhead a [] [] → a.stop ≡ None → grammar.may_end p ≡ true → AllKept (grammar.at_end p) → packet_step p a ≡ over
over_step p a h stop ends kept =
    none_step p a h ∙ ap (λ o. without_packet p o) (may_stop p a.fault a.stop ends ∙ stop) ∙ ap (λ b. cond b (judged (grammar.at_end p)) (refused (grammar.place p) PacketLength)) ends ∙ kept_judged (grammar.at_end p) kept

abbrev refusal : Place → Why → PacketStep
refusal at why = refused at why

-- no packet is ahead, nor the beginning of one
none_ahead : (a : Ahead) (left : List (List ℕ)) (begun : List ℕ) → left ≡ [] → begun ≡ [] → PacketsAhead a left begun → PacketsAhead a [] []
none_ahead a left begun no_packet no_part h = subst (λ (k : List ℕ). PacketsAhead a [] k) no_part (subst (λ (k : List (List ℕ)). PacketsAhead a k begun) no_packet h)

pub refused_step : (p : Progress) (a : Ahead) (packets : List (List ℕ)) (begun : List ℕ) (fault stop : Option (ℕ × Why)) (at : Place) (why : Why) → PacketsAhead a packets begun → a.fault ≡ fault → a.stop ≡ stop
    → StopsAtPacket p packets begun fault stop at why → packet_step p a ≡ refused at why
refused_step p a left begun fault stop at why h f s (packet_refused y ys own next none is) =
    first_step p a y ys begun (subst (λ (k : List (List ℕ)). PacketsAhead a k begun) next h)
    ∙ ap (λ r. step_of_item p.stand (after_in 0 true a) r) (refused_again (room_in p.stand.phase) (packet_layout p.stand) (packet_start None) (closed_packet y) (own, why) refl none)
    ∙ ap (λ k. refusal k why) (sym is)
refused_step p a left begun fault stop at why h f s (part_refused own next some none is) =
    last_step p a begun (subst (λ (k : List (List ℕ)). PacketsAhead a k begun) next h) some ∙ ap (λ o. step_of_item p.stand (after_in 0 true a) (read_of p o (open_packet begun o))) f
    ∙ ap (λ r. step_of_item p.stand (after_in 0 true a) r) (refused_again (room_in p.stand.phase) (packet_layout p.stand) (packet_start fault) (open_packet begun fault) (own, why) (open_short fault) none)
    ∙ ap (λ k. refusal k why) (sym is)
refused_step p a left begun fault stop at why h f s (pages_refused n next nothing stops is) =
    none_step p a (none_ahead a left begun next nothing h) ∙ ap (λ o. without_packet p o) (ap (λ o. last_fault p o a.stop) f ∙ ap (λ o. last_fault p fault o) s ∙ stops) ∙ ap (λ k. refusal k why) (sym is)
refused_step p a left begun fault stop at why h f s (block_missing next nothing none due is reason) =
    none_step p a (none_ahead a left begun next nothing h) ∙ ap (λ o. without_packet p o) (due_fault p a.fault a.stop due ∙ f ∙ none)
    ∙ ap (λ b. cond b (judged (grammar.at_end p)) (refused (grammar.place p) PacketLength)) due ∙ ap (λ k. refusal k PacketLength) (sym is) ∙ ap (λ w. refusal at w) (sym reason)
refused_step p a left begun fault stop at why h f s (end_refused next nothing none may is first) =
    none_step p a (none_ahead a left begun next nothing h) ∙ ap (λ o. without_packet p o) (may_stop p a.fault a.stop may ∙ s ∙ none)
    ∙ ap (λ b. cond b (judged (grammar.at_end p)) (refused (grammar.place p) PacketLength)) may ∙ first_judged (grammar.at_end p) why first ∙ ap (λ k. refusal k why) (sym is)
