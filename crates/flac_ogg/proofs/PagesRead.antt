-- The pages that were read when the device failed, and the items whose packets end in them.
use Rattle.std.proofs.Common.{◌≡◌, ℕ, zero, suc, ◌+◌, ◌-◌, ◌<◌, ◌≤◌, Bool, true, false, cond, nat_eq, List, [], ◌∷◌, ◌++◌, length, take, drop, map, replicate, Option, Some, None, Result, Ok, Err, OnOk, refl, sym, ap, subst, ◌∙◌, arith, append_assoc, length-append}
use Rattle.std.specs.Prelude.{IfErr, IfSome}
use Rattle.std.specs.List.{flat_map}
use Rattle.std.proofs.lemmas.Bool.Decides.{nat_tests}
use Rattle.std.proofs.lemmas.Grind.{flat_map-append}
use Rattle.std.proofs.lemmas.List.{take-append-drop, length-take-le}
use Rattle.flac_bits.specs.State.{Mark, past}
use Rattle.flac_bits.specs.Handing.{TakesAll}
use Rattle.flac_bits.specs.declared.why.Why.{Why}
use Rattle.flac_bits.proofs.Readings.{at_}
use Rattle.flac_native.specs.Stream.{Piece, Progress, next}
use Rattle.flac_pages.specs.declared.page.Before.{Before}
use Rattle.flac_pages.specs.Page.{Page, after_page}
use Rattle.flac_pages.specs.Pages.{Run, GoodPages, pages_of}
use Rattle.flac_pages.specs.Packets.{Place as Stands, Ahead, OnPage, lacing_of, size, ends, past_packet, page_index, on_page, coming, read_since, ReadsPages, PassesPacket, open_in, BreaksAt, Begins}
use Rattle.flac_pages.specs.Items.{HasItsPage, TellsPages}
use Rattle.flac_pages.proofs.Paged.{parted, reads_none, reads_then, coming_ahead}
use Rattle.flac_pages.proofs.PacketMeaning.{packet_closes}
use Rattle.flac_ogg.specs.Stream.{start, AreItems, Contents}
use Rattle.flac_ogg.specs.Decoding.{BeginsWith, PassesNext, BreaksInNext, ReadsTo}
use Rattle.flac_ogg.proofs.MeaningContents.{run_is}
use Rattle.flac_ogg.proofs.MeaningPackets.{lacing_in, bytes_in, bytes_of, good_laced, cut}
use Rattle.flac_header.specs.declared.subset.Profile.{Profile}

-- ---- the next packet

known_in : (p : Stands) → p.known ≡ true → (on_page p).known ≡ true
unfolding on_page
known_in p known = known

more_in : (p : Stands) → p.more ≡ true → (on_page p).more ≡ true
unfolding on_page
more_in p more = more

begun_pages : (old mid new : Stands) → Begins old mid (Ok true) → old.known ≡ true → PassesPacket (on_page mid) (on_page new) → PassesPacket (on_page old) (on_page new)
begun_pages old mid new b known p =
    let same : coming (on_page mid) ≡ coming (on_page old) = coming_ahead mid ∙ ap (λ (a : Ahead). a.lacing) (b.ahead known) ∙ sym (coming_ahead old) in
    record {
      pages = reads_then (on_page old) (on_page mid) (on_page new) (b.pages known) p.pages;
      ended = ap ends (sym same) ∙ p.ended;
      passed = p.passed ∙ ap past_packet same;
    }

-- it was begun, and is an item
pub gave_next : {X : Type 0} (old mid new : Stands) (result : Result X (Option ℕ × Why)) (x : X) → result ≡ Ok x → Begins old mid (Ok true) → TellsPages (on_page mid) new result → OnOk result ((mid.known ≡ true → new.known ≡ true) × (new.errors ≡ mid.errors))
    → PassesNext old new
gave_next {X} old mid new result x is b tells goes = λ known.
    let there : mid.known ≡ true = b.known known in
    let went : (mid.known ≡ true → new.known ≡ true) × (new.errors ≡ mid.errors) = subst (λ (r : Result X (Option ℕ × Why)). OnOk r ((mid.known ≡ true → new.known ≡ true) × (new.errors ≡ mid.errors))) is goes in
    let passes : PassesPacket (on_page mid) (on_page new) = subst (λ (r : Result X (Option ℕ × Why)). TellsPages (on_page mid) new r) is tells (known_in mid there) (more_in mid b.stands.1) in
    (went.0 there, begun_pages old mid new b known passes)

-- it was begun, and broke off
pub broke_next : {X : Type 0} (old mid new : Stands) (result : Result X (Option ℕ × Why)) (told : Option ℕ × Why) (why : Why) → result ≡ Err told → why ≡ told.1 → Begins old mid (Ok true) → TellsPages (on_page mid) new result → IfErr result (λ e. HasItsPage new.count e)
    → BreaksInNext old new why
broke_next {X} old mid new result told why is same b tells page = λ read known.
    let there : mid.known ≡ true = b.known known in
    let has : HasItsPage new.count told = subst (λ (r : Result X (Option ℕ × Why)). IfErr r (λ e. HasItsPage new.count e)) is page in
    let broke : IfSome told.0 (λ n. BreaksAt (on_page mid) n) = subst (λ (r : Result X (Option ℕ × Why)). TellsPages (on_page mid) new r) is tells (known_in mid there) in
    b.breaks known new.count (subst (λ (o : Option ℕ). IfSome o (λ n. BreaksAt (on_page mid) n)) (has.0 (sym same ∙ read)) broke)

-- it was not begun
pub broke_before : (old new : Stands) (f : ℕ × Why) (why : Why) → Begins old new (Err f) → f.0 ≡ new.count → BreaksInNext old new why
broke_before old new f why b page = λ read known. subst (λ n. BreaksAt (on_page old) n) page (b.pages known)

-- ---- the packets of items one after another

record IsPast (left : List (List ℕ)) (rest : List ℕ) (p q : Stands) : Type 0 where
  known : q.known ≡ true
  pages : ReadsPages (on_page p) (on_page q)
  others : coming (on_page q) ≡ flat_map lacing_of left ++ rest

passed_all : {C : Type 0} (pages : C → Stands) (s : Progress) (taken left : List (List ℕ)) (items : List Piece) (rest : List ℕ) (c d : C) → AreItems s taken items → (pages c).known ≡ true → coming (on_page (pages c)) ≡ flat_map lacing_of (taken ++ left) ++ rest
    → TakesAll (λ (a : C) (x : Piece) (b : C). PassesNext (pages a) (pages b)) c items d → IsPast left rest (pages c) (pages d)
passed_all {C} pages s [] left [] rest c d are known all same = record {
  known = subst (λ (e : C). (pages e).known ≡ true) same known;
  pages = subst (λ (e : C). ReadsPages (on_page (pages c)) (on_page (pages e))) same (reads_none (on_page (pages c)));
  others = subst (λ (e : C). coming (on_page (pages e)) ≡ flat_map lacing_of left ++ rest) same all;
}
passed_all pages s [] left (x ∷ xs) rest c d are known all steps = absurd are
passed_all pages s (packet ∷ taken) left [] rest c d are known all steps = absurd are
passed_all pages s (packet ∷ taken) left (x ∷ xs) rest c d are known all (mid, first, steps) =
    let one = first known in
    let after : List ℕ = flat_map lacing_of (taken ++ left) in
    let others : coming (on_page (pages mid)) ≡ after ++ rest = one.1.passed ∙ ap past_packet (all ∙ append_assoc (lacing_of packet) after rest) ∙ (packet_closes packet (after ++ rest)).past in
    let more = passed_all pages (next s x) taken left xs rest mid d are.1 one.0 others steps in
    record { known = more.known; pages = reads_then (on_page (pages c)) (on_page (pages mid)) (on_page (pages d)) one.1.pages more.pages; others = more.others }

-- ---- lacing values without an end

two : true ≡ false → ⊥
two e = absurd cc

ends_after : (l m : List ℕ) → ends l ≡ false → ends (l ++ m) ≡ ends m
ends_after [] m e = refl
ends_after (v ∷ vs) m e = go (nat_eq v 255) e (λ h. ends_after vs m h)
  where
    go : (b : Bool) → cond b (ends vs) true ≡ false → (ends vs ≡ false → ends (vs ++ m) ≡ ends m) → cond b (ends (vs ++ m)) true ≡ ends m
    go true e more = more e
    go false e more = absurd (two e)

all_full : (xs : List ℕ) → ends xs ≡ false → xs ≡ replicate (length xs) 255
all_full [] e = refl
all_full (v ∷ vs) e = go (nat_eq v 255) refl e (λ h. all_full vs h)
  where
    go : (b : Bool) → nat_eq v 255 ≡ b → cond b (ends vs) true ≡ false → (ends vs ≡ false → vs ≡ replicate (length vs) 255) → v ∷ vs ≡ 255 ∷ replicate (length vs) 255
    go true eq e more = let is : v ≡ 255 = grind (arith, nat_tests) in ap (λ k. k ∷ vs) is ∙ ap (λ k. 255 ∷ k) (more e)
    go false eq e more = absurd (two e)

full_ends : (k : ℕ) → ends (replicate k 255) ≡ false
full_ends zero = refl
full_ends (suc k) = full_ends k

abbrev flat : List (List ℕ) → List ℕ
flat ls = flat_map (λ (l : List ℕ). l) ls

-- where some pages are open, the first of them is
first_open : (l : List ℕ) (ls : List (List ℕ)) (k : ℕ) → k < open_in (l ∷ ls) → ends l ≡ false
first_open l ls k below = go (ends l) refl below
  where
    go : (b : Bool) → ends l ≡ b → k < cond b 0 (suc (open_in ls)) → ends l ≡ false
    go true e below = absurd (omega (arith, below))
    go false e below = e

others_open : (l : List ℕ) (ls : List (List ℕ)) (k : ℕ) → suc k < open_in (l ∷ ls) → k < open_in ls
others_open l ls k below = go (ends l) below
  where
    go : (b : Bool) → suc k < cond b 0 (suc (open_in ls)) → k < open_in ls
    go true below = absurd (omega (arith, below))
    go false below = omega (arith, below)

none_open : (k : ℕ) → k < open_in [] → ⊥
none_open k below = omega (arith, below)

open_front : (l : List ℕ) (ls : List (List ℕ)) (k : ℕ) → k < open_in (l ∷ ls) → (k ≤ length ls) × (ends (l ++ flat (take k ls)) ≡ false)
open_front l ls zero below = (omega arith, ends_after l [] (first_open l ls zero below))
open_front l [] (suc k) below = absurd (none_open k (others_open l [] k below))
open_front l (m ∷ ms) (suc k) below =
    let more = open_front m ms k (others_open l (m ∷ ms) k below) in
    (omega (arith, more.0), ends_after l (m ++ flat (take k ms)) (first_open l (m ∷ ms) (suc k) below) ∙ more.1)

-- ---- the first of some pages

abbrev no_items : {A : Type 0} → List A
no_items = []

take_none : {A : Type 0} (k : ℕ) → take k (no_items {A = A}) ≡ []
take_none zero = refl
take_none (suc k) = refl

flat_parts : (j k : ℕ) (ls : List (List ℕ)) → flat (take (j + k) ls) ≡ flat (take j ls) ++ flat (take k (drop j ls))
flat_parts zero k ls = let plain : 0 + k ≡ k = omega arith in ap (λ n. flat (take n ls)) plain
flat_parts (suc j) k [] = let sum : suc j + k ≡ suc (j + k) = omega arith in ap (λ n. flat (take n (no_items {A = List ℕ}))) sum ∙ sym (ap flat (take_none {A = List ℕ} k))
flat_parts (suc j) k (l ∷ ls) =
    let sum : suc j + k ≡ suc (j + k) = omega arith in
    ap (λ n. flat (take n (l ∷ ls))) sum ∙ ap (λ k. l ++ k) (flat_parts j k ls) ∙ sym (append_assoc l (flat (take j ls)) (flat (take k (drop j ls))))

flat_split : (j : ℕ) (ls : List (List ℕ)) → flat ls ≡ flat (take j ls) ++ flat (drop j ls)
flat_split j ls = ap flat (sym (take-append-drop j ls)) ∙ flat_map-append (λ (l : List ℕ). l) (take j ls) (drop j ls)

abbrev lacing_each : List Page → List (List ℕ)
lacing_each ps = map (λ (q : Page). q.lacing) ps

flat_each : (ps : List Page) → flat (lacing_each ps) ≡ lacing_in ps
flat_each [] = refl
flat_each (p ∷ ps) = ap (λ k. p.lacing ++ k) (flat_each ps)

each_taken : (m : ℕ) (ps : List Page) → flat (take m (lacing_each ps)) ≡ lacing_in (take m ps)
each_taken zero ps = refl
each_taken (suc m) [] = refl
each_taken (suc m) (p ∷ ps) = ap (λ k. p.lacing ++ k) (each_taken m ps)

each_long : (ps : List Page) → length (lacing_each ps) ≡ length ps
each_long [] = refl
each_long (p ∷ ps) = ap suc (each_long ps)

good_front : (before : Option Before) (m : Mark) (xs ys : List Page) (text : List Bool) → GoodPages before m (xs ++ ys) text → (front : List Bool) × GoodPages before m xs front
good_front before m [] ys text good = ([], refl)
good_front before m (x ∷ xs) ys text (front, rest, split, spelled, good) =
    let more = good_front (Some (after_page before x)) (past front m) xs ys rest good in
    (front ++ more.0, (front, more.0, refl, spelled, more.1))

same_front : (xs ys r : List ℕ) → xs ++ r ≡ ys ++ r → xs ≡ ys
same_front xs ys r e = (parted xs ys r r (omega (arith, ap length e, length-append xs r, length-append ys r)) e).0

-- packets are told by their lacing values and bytes
same_packets : (xs ys : List (List ℕ)) (f g : ℕ) (r s : List ℕ) → flat_map lacing_of xs ++ replicate f 255 ≡ flat_map lacing_of ys ++ replicate g 255 → bytes_of xs ++ r ≡ bytes_of ys ++ s → xs ≡ ys
same_packets [] [] f g r s l b = refl
same_packets [] (y ∷ ys) f g r s l b =
    absurd (two (sym (packet_closes y (flat_map lacing_of ys ++ replicate g 255)).ends ∙ ap ends (sym (l ∙ append_assoc (lacing_of y) (flat_map lacing_of ys) (replicate g 255))) ∙ full_ends f))
same_packets (x ∷ xs) [] f g r s l b =
    absurd (two (sym (packet_closes x (flat_map lacing_of xs ++ replicate f 255)).ends ∙ ap ends (sym (append_assoc (lacing_of x) (flat_map lacing_of xs) (replicate f 255)) ∙ l) ∙ full_ends g))
same_packets (x ∷ xs) (y ∷ ys) f g r s l b =
    let one = packet_closes x (flat_map lacing_of xs ++ replicate f 255) in
    let other = packet_closes y (flat_map lacing_of ys ++ replicate g 255) in
    let both : lacing_of x ++ (flat_map lacing_of xs ++ replicate f 255) ≡ lacing_of y ++ (flat_map lacing_of ys ++ replicate g 255) =
    sym (append_assoc (lacing_of x) (flat_map lacing_of xs) (replicate f 255)) ∙ l ∙ append_assoc (lacing_of y) (flat_map lacing_of ys) (replicate g 255) in
    let long : length x ≡ length y = sym one.size ∙ ap size both ∙ other.size in
    let bytes = parted x y (bytes_of xs ++ r) (bytes_of ys ++ s) long (sym (append_assoc x (bytes_of xs) r) ∙ b ∙ append_assoc y (bytes_of ys) s) in
    let more = same_packets xs ys f g r s (sym one.past ∙ ap past_packet both ∙ other.past) bytes.1 in
    ap (λ k. k ∷ xs) bytes.0 ∙ ap (λ ks. y ∷ ks) more

-- ---- of the whole input

-- n pages were read in all
counted_in_all : (c j n : ℕ) → page_index c ≡ page_index (0 + j) → page_index n ≡ n → c ≤ n → n ≡ page_index (j + (n - c))
counted_in_all c j n read small from = omega (arith, read, small, from)

record FrontPages (p : Stands) (pages : List Page) : Type 0 where
  count : (on_page p).count ≡ 0
  lacing : (on_page p).lacing ≡ []
  after : (on_page p).after ≡ lacing_each pages

front_pages : (mark : Mark) (text : List Bool) (p : Stands) → p.lacing ≡ [] → p.last ≡ false → p.before ≡ None → p.count ≡ 0 → p.cursor ≡ record { left = text; mark = mark } → FrontPages p (pages_of None (at_ text mark)).pages
unfolding on_page
front_pages mark text p lacing last before count cursor = record { count = count; lacing = lacing; after = rw (last, before, cursor) refl }

pub reads_to : {C : Type 0} (pages : C → Stands) (profile : Profile) (mark : Mark) (text : List Bool) (items : List Piece) (first there : C) (n : ℕ)
    → (pages first).known ≡ true → (pages first).lacing ≡ [] → (pages first).last ≡ false → (pages first).before ≡ None → (pages first).count ≡ 0 → (pages first).cursor ≡ record { left = text; mark = mark }
    → BeginsWith profile mark items text → TakesAll (λ (a : C) (x : Piece) (b : C). PassesNext (pages a) (pages b)) first items there → ((pages there).known ≡ true → BreaksAt (on_page (pages there)) n) → ReadsTo profile mark items text n
reads_to {C} pages profile mark text items first there n known lacing last before count cursor begins steps broke =
    let c : Contents mark text = begins.contents in
    let all : List Page = c.run.pages in
    let front : FrontPages (pages first) all = subst (λ (r : Run). FrontPages (pages first) r.pages) (run_is c) (front_pages mark text (pages first) lacing last before count cursor) in
    let p : OnPage = on_page (pages first) in
    let q : OnPage = on_page (pages there) in
    let fills : List ℕ = replicate c.packed.full 255 in
    let taken : List ℕ = flat_map lacing_of begins.taken in
    let come : coming p ≡ flat_map lacing_of (begins.taken ++ begins.left) ++ fills =
    ap (λ l. l ++ flat p.after) front.lacing ∙ ap flat front.after ∙ flat_each all ∙ c.packed.lacing ∙ ap (λ (ps : List (List ℕ)). flat_map lacing_of ps ++ fills) begins.split in
    let past : IsPast begins.left fills (pages first) (pages there) = passed_all pages (start profile) begins.taken begins.left items fills first there begins.spelled known come steps in
    let at : BreaksAt q n = broke past.known in
    let j : ℕ = read_since p q in
    let k : ℕ = n - q.count in
    let unended : (k ≤ length q.after) × (ends (q.lacing ++ flat (take k q.after)) ≡ false) = open_front q.lacing q.after k (omega (arith, at.from, at.below)) in
    let last_part : List ℕ = q.lacing ++ flat (take k q.after) in
    let before_there : flat (take j p.after) ≡ taken ++ q.lacing =
    same_front (flat (take j p.after)) (taken ++ q.lacing) (flat q.after)
    (ap (λ ls. flat (take j p.after) ++ flat ls) past.pages.after ∙ sym (flat_split j p.after) ∙ sym (ap (λ l. l ++ flat p.after) front.lacing) ∙ come ∙ ap (λ k. k ++ fills) (flat_map-append lacing_of begins.taken begins.left)
    ∙ append_assoc taken (flat_map lacing_of begins.left) fills ∙ ap (λ k. taken ++ k) (sym past.others) ∙ sym (append_assoc taken q.lacing (flat q.after))) in
    let read : List Page = take (j + k) all in
    let lacing_read : lacing_in read ≡ taken ++ replicate (length last_part) 255 =
    sym (each_taken (j + k) all) ∙ ap (λ ls. flat (take (j + k) ls)) (sym front.after) ∙ flat_parts j k p.after ∙ ap (λ l. l ++ flat (take k (drop j p.after))) before_there ∙ ap (λ ls. (taken ++ q.lacing) ++ flat (take k ls)) (sym past.pages.after)
    ∙ append_assoc taken q.lacing (flat (take k q.after)) ∙ ap (λ l. taken ++ l) (all_full last_part unended.1) in
    let split : all ≡ read ++ drop (j + k) all = sym (take-append-drop (j + k) all) in
    let good = good_front None mark read (drop (j + k) all) c.is_run.text (subst (λ (ps : List Page). GoodPages None mark ps c.is_run.text) split c.is_run.good) in
    let parts = cut (lacing_in read) (bytes_in read) (good_laced None mark read good.0 good.1) in
    let bytes : bytes_of parts.packets ++ (parts.begun ++ bytes_in (drop (j + k) all)) ≡ bytes_of begins.taken ++ (bytes_of begins.left ++ c.begun) =
    sym (append_assoc (bytes_of parts.packets) parts.begun (bytes_in (drop (j + k) all))) ∙ ap (λ l. l ++ bytes_in (drop (j + k) all)) (sym parts.bytes) ∙ sym (flat_map-append (λ (q : Page). q.body) read (drop (j + k) all)) ∙ ap bytes_in (sym split) ∙ c.packed.bytes
    ∙ ap (λ (ps : List (List ℕ)). bytes_of ps ++ c.begun) begins.split ∙ ap (λ l. l ++ c.begun) (flat_map-append (λ (l : List ℕ). l) begins.taken begins.left) ∙ append_assoc (bytes_of begins.taken) (bytes_of begins.left) c.begun in
    let same : parts.packets ≡ begins.taken = same_packets parts.packets begins.taken parts.full (length last_part) _ _ (sym parts.lacing ∙ lacing_read) bytes in
    let few : j + k ≤ length all = omega (arith, unended.0, past.pages.fewer, ap length front.after, each_long all) in
    record {
      contents = c;
      read = read;
      left = drop (j + k) all;
      split = split;
      count = counted_in_all q.count j n (past.pages.count ∙ ap (λ i. page_index (i + j)) front.count) at.index at.from ∙ ap page_index (sym (length-take-le (j + k) all few));
      packets = parts.packets;
      begun = parts.begun;
      packed = record { full = parts.full; lacing = parts.lacing; bytes = parts.bytes; part = parts.part };
      spelled = subst (λ (ps : List (List ℕ)). AreItems (start profile) ps items) (sym same) begins.spelled;
    }
