-- What is read of one item in one packet is what the packet is.
use Rattle.std.proofs.Common.{◌≡◌, ◌≢◌, ℕ, Bool, true, false, List, [], ◌∷◌, ◌++◌, Option, Result, Ok, Err, refl, sym, ap, subst, ◌∙◌, inl, inr}
use Rattle.std.proofs.lemmas.List.{append-nil}
use Rattle.flac_bits.specs.Bits.{is_nil}
use Rattle.flac_bits.specs.State.{Mark, Cursor}
use Rattle.flac_bits.specs.Layout.{Layout, Reason}
use Rattle.flac_bits.specs.Meaning.{Spells}
use Rattle.flac_bits.specs.Fence.{InRoom, StopsIn, read_in}
use Rattle.flac_bits.specs.declared.why.Why.{Why}
use Rattle.flac_bits.specs.declared.why.Why.TheVariants.{FrameTooLong}
use Rattle.flac_bits.proofs.Readings.{at_}
use Rattle.flac_bits.proofs.Fences.{again_in, stops_in, takes_in, refuses_in}
use Rattle.flac_pages.specs.Items.{PacketEnd, whole, unended, cut_at, Packet, cut_off, in_packet, IsItem, IsNoItem, breaks_rule, bits_missing, too_many_bytes, bits_left, not_ended, TellsItem, at_last_bit, after_item, judged, item_in}
use Rattle.flac_pages.specs.inner.Items.{short_at}

abbrev refusal : (A : Type 0) → Option ℕ × Why → Result A (Option ℕ × Why)
refusal A why = Err why

is_nil_is : (xs : List Bool) → is_nil xs ≡ true → xs ≡ []
is_nil_is [] e = refl
is_nil_is (x ∷ xs) e = absurd (two e)
  where
    two : false ≡ true → ⊥
    two e = absurd cc

some_is : (xs : List Bool) → is_nil xs ≡ false → xs ≢ []
some_is [] e = absurd (two e)
  where
    two : true ≡ false → ⊥
    two e = absurd cc
some_is (x ∷ xs) e = λ none. absurd cc

not_nil : (xs : List Bool) → xs ≢ [] → is_nil xs ≡ false
not_nil [] some = absurd (some refl)
not_nil (x ∷ xs) some = refl

-- a packet that ends too early is told so
pub short_told : (e : PacketEnd) → in_packet e (short_at e) ≡ cut_off e
short_told whole = refl
short_told unended = refl
short_told (cut_at n why) = refl

-- ---- what is read is meant

closed : {A : Type 0} (room : Option ℕ) (l : Layout A) (m : Mark) (p : Packet) (x : A) → Spells l m p.bits x → InRoom room m p.bits → (e : PacketEnd) → p.ends ≡ e → TellsItem (λ x. x) room l m p (at_last_bit e x)
closed room l m p x spelled fits whole is = record { spelled = spelled; fits = fits; ended = is }
closed room l m p x spelled fits unended is = not_ended x spelled fits (λ same. differ (sym is ∙ same)) (ap cut_off (sym is))
  where
    differ : unended ≡ whole → ⊥
    differ e = absurd cc
closed room l m p x spelled fits (cut_at n why) is = not_ended x spelled fits (λ same. differ (sym is ∙ same)) (ap cut_off (sym is))
  where
    differ : cut_at n why ≡ whole → ⊥
    differ e = absurd cc

-- after an item that the packet's bits begin with
pub told_after : {A : Type 0} (room : Option ℕ) (l : Layout A) (m : Mark) (p : Packet) (x : A) (text rest : List Bool) → p.bits ≡ text ++ rest → Spells l m text x → InRoom room m text
    → (b : Bool) → is_nil rest ≡ b → TellsItem (λ x. x) room l m p (after_item p.ends b x)
told_after room l m p x text rest split spelled fits true e =
    let all : text ≡ p.bits = sym (split ∙ ap (λ r. text ++ r) (is_nil_is rest e) ∙ append-nil text) in
    closed room l m p x (subst (λ t. Spells l m t x) all spelled) (subst (λ t. InRoom room m t) all fits) p.ends refl
told_after room l m p x text rest split spelled fits false e = bits_left x text rest split (some_is rest e) spelled fits refl

pub stopped : {A : Type 0} (room : Option ℕ) (l : Layout A) (m : Mark) (p : Packet) (why : Why) → m.short ≡ short_at p.ends → StopsIn room l m p.bits why → IsNoItem room l m p (in_packet p.ends why)
stopped room l m p why short (inl (front, rest, split, shows, fits)) = breaks_rule why front rest split shows fits refl
stopped room l m p why short (inr (inl (is, cut, leaves))) = bits_missing cut leaves (ap (in_packet p.ends) (is ∙ short) ∙ short_told p.ends)
stopped room l m p why short (inr (inr (is, fills))) = too_many_bytes fills (ap (in_packet p.ends) is)

-- each packet is an item or is none, and this is which
pub item_means : {A : Type 0} (room : Option ℕ) (l : Layout A) (m : Mark) (p : Packet) → m.short ≡ short_at p.ends → TellsItem (λ x. x) room l m p (item_in room l m p)
unfolding item_in
item_means {A = A} room l m p short = go (read_in room l (at_ p.bits m)) refl
  where
    go : (r : Result (A × Cursor) Reason) → read_in room l (at_ p.bits m) ≡ r → TellsItem (λ x. x) room l m p (judged p.ends r)
    go (Ok x) e = let t = takes_in room l p.bits m x.0 x.1 e in told_after room l m p x.0 t.0 x.1.left t.1 t.2 t.3 (is_nil x.1.left) refl
    go (Err reason) e = stopped room l m p reason.why short (refuses_in room l p.bits m reason.why e)

-- ---- what is meant is read

ends_otherwise : {A : Type 0} (x : A) (e : PacketEnd) → e ≢ whole → at_last_bit e x ≡ Err (cut_off e)
ends_otherwise x whole other = absurd (other refl)
ends_otherwise x unended other = refl
ends_otherwise x (cut_at n why) other = refl

spelled_whole : {A : Type 0} (room : Option ℕ) (l : Layout A) (m : Mark) (p : Packet) (x : A) → Spells l m p.bits x → InRoom room m p.bits → item_in room l m p ≡ at_last_bit p.ends x
unfolding item_in
spelled_whole room l m p x spelled fits = ap (judged p.ends) (ap (λ t. read_in room l (at_ t m)) (sym (append-nil p.bits)) ∙ again_in room l m p.bits [] x spelled fits)

-- a packet's item is what is read of it
pub item_again : {A : Type 0} (room : Option ℕ) (l : Layout A) (m : Mark) (p : Packet) (x : A) → IsItem room l m p x → item_in room l m p ≡ Ok x
item_again room l m p x is = spelled_whole room l m p x is.spelled is.fits ∙ ap (λ e. at_last_bit e x) is.ended

-- and so is the reason where it is none
pub refused_again : {A : Type 0} (room : Option ℕ) (l : Layout A) (m : Mark) (p : Packet) (why : Option ℕ × Why) → m.short ≡ short_at p.ends → IsNoItem room l m p why → item_in room l m p ≡ Err why
unfolding item_in
refused_again {A = A} room l m p why short (breaks_rule own front rest split shows fits is) =
    ap (judged p.ends) (stops_in room l m p.bits own (inl (front, rest, split, shows, fits))) ∙ ap (refusal A) (sym is)
refused_again {A = A} room l m p why short (bits_missing cut leaves is) =
    ap (judged p.ends) (stops_in room l m p.bits m.short (inr (inl (refl, cut, leaves)))) ∙ ap (refusal A) (ap (in_packet p.ends) short ∙ short_told p.ends ∙ sym is)
refused_again {A = A} room l m p why short (too_many_bytes fills is) = ap (judged p.ends) (stops_in room l m p.bits FrameTooLong (inr (inr (refl, fills)))) ∙ ap (refusal A) (sym is)
refused_again {A = A} room l m p why short (bits_left x text rest split some spelled fits is) =
    ap (judged p.ends) (ap (λ t. read_in room l (at_ t m)) split ∙ again_in room l m text rest x spelled fits) ∙ ap (λ b. after_item p.ends b x) (not_nil rest some) ∙ ap (refusal A) (sym is)
refused_again {A = A} room l m p why short (not_ended x spelled fits other is) = spelled_whole room l m p x spelled fits ∙ ends_otherwise x p.ends other ∙ ap (refusal A) (sym is)

-- so no packet is two items, nor an item and none, nor refused for two reasons
pub tells_one : {A : Type 0} (room : Option ℕ) (l : Layout A) (m : Mark) (p : Packet) (result : Result A (Option ℕ × Why)) → m.short ≡ short_at p.ends → TellsItem (λ x. x) room l m p result → item_in room l m p ≡ result
tells_one room l m p (Ok x) short is = item_again room l m p x is
tells_one room l m p (Err why) short is = refused_again room l m p why short is
