-- A reader's call over a packet's bits and the judgement of the packet's end, together: they tell what the packet is.
use Rattle.std.proofs.Common.{◌≡◌, ℕ, ◌<◌, ◌-◌, ◌^◌, ◌≤◌, ◌∷◌, ◌++◌, Bool, true, false, List, [], Option, Some, None, Result, Ok, Err, OnOk, refl, sym, ap, subst, ◌∙◌, arith}
use Rattle.std.proofs.lemmas.List.{append-nil}
use Rattle.std.specs.Borrow.{GName}
use Rattle.flac_bits.specs.Bits.{is_nil}
use Rattle.flac_bits.specs.State.{Mark, Cursor, State, After, short_of, started, without_fence}
use Rattle.flac_bits.specs.Fence.{read_in}
use Rattle.flac_bits.specs.Fencing.{lifted}
use Rattle.flac_bits.specs.Layout.{Layout}
use Rattle.flac_bits.specs.Reading.{Counts, Gives}
use Rattle.flac_bits.specs.declared.why.Why.{Why}
use Rattle.flac_bits.specs.declared.why.Why.TheVariants.{Memory, Read}
use Rattle.flac_bits.proofs.Meaning.{past-short}
use Rattle.flac_bits.proofs.Fences.{takes_in, refuses_in}
use Rattle.flac_pages.specs.Packets.{Place, OnPage, ahead, after_of}
use Rattle.flac_pages.specs.Items.{PacketEnd, whole, unended, cut_at, Packet, end_in, end_of, packet_of, packet_mark, in_packet, after_item, TellsItem, Meets, CountsSo, TellsPages, numbers_of, GivesBack, IsAtPacket, JudgesPacket, GoesAfter, HasAfter}
use Rattle.flac_pages.specs.inner.Items.{short_at}
use Rattle.flac_pages.proofs.ItemMeaning.{stopped, told_after}
use Rattle.flac_pages.proofs.Paged.{numbers_same}

pub short_is : (fails : Option (ℕ × Why)) (cut : Bool) → short_of fails ≡ short_at (end_in fails cut)
short_is (Some f) cut = refl
short_is None true = refl
short_is None false = refl

-- the item as it is seen
seen : {X A : Type 0} (view : X → A) (room : Option ℕ) (l : Layout A) (m : Mark) (p : Packet) (e : PacketEnd) (b : Bool) (x : X) → TellsItem (λ x. x) room l m p (after_item e b (view x)) → TellsItem view room l m p (after_item e b x)
seen view room l m p whole true x t = t
seen view room l m p unended true x t = t
seen view room l m p (cut_at n why) true x t = t
seen view room l m p e false x t = t

-- what was answered over a packet's bits, from the cursor c on, and the judgement of its end tell what the packet is
pub item_told : {X A : Type 0} (view : X → A) (room : Option ℕ) (l : Layout A) (c : Cursor) (old mid : State) (new : Place) (read : Result X Why) (result : Result X (Option ℕ × Why))
    → old.raised ≡ 0 → c.mark.short ≡ short_of old.after.fails → Counts old mid read → Gives view (read_in room l c) old mid read → mid.errors ≤ new.errors → JudgesPacket mid new read result
    → old.known ≡ true → new.errors ≡ old.errors → TellsItem view room l c.mark (record { bits = c.left; ends = end_of old.after }) result
item_told {X = X} view room l c old mid new (Ok x) result raised short counts gives kept judges known same =
    let p : Packet = record { bits = c.left; ends = end_of old.after } in
    let after : mid.after ≡ old.after = counts.3 known in
    let t = takes_in room l c.left c.mark (view x) mid.cursor (gives known counts.1) in
    let mark : mid.cursor.mark.short ≡ short_of mid.after.fails = ap (λ (m : Mark). m.short) t.4 ∙ past-short t.0 c.mark ∙ short ∙ ap (λ (b : After). short_of b.fails) (sym after) in
    let is : result ≡ after_item (end_of old.after) (is_nil mid.cursor.left) x =
    judges (counts.0 known) (same ∙ sym counts.1) mark ∙ ap (λ (b : After). after_item (end_of b) (is_nil mid.cursor.left) x) after in
    subst (λ (r : Result X (Option ℕ × Why)). TellsItem view room l c.mark p r) (sym is)
    (seen view room l c.mark p (end_of old.after) (is_nil mid.cursor.left) x (told_after room l c.mark p (view x) t.0 mid.cursor.left t.1 t.2 t.3 (is_nil mid.cursor.left) refl))
item_told {X = X} view room l c old mid new (Err why) result raised short counts gives kept judges known same =
    let p : Packet = record { bits = c.left; ends = end_of old.after } in
    let errors : mid.errors ≡ old.errors = omega (arith, counts.0, kept, same) in
    let after : mid.after ≡ old.after = counts.1 known errors in
    let is : result ≡ Err (in_packet (end_of old.after) why) = judges (λ e. omega (arith, counts.2 known e)) ∙ ap (λ (b : After). refusal (in_packet (end_of b) why)) after in
    subst (λ (r : Result X (Option ℕ × Why)). TellsItem view room l c.mark p r) (sym is)
    (stopped room l c.mark p why (short ∙ short_is old.after.fails old.after.cut) (refuses_in room l c.left c.mark why (gives known errors)))
  where
    refusal : Option ℕ × Why → Result X (Option ℕ × Why)
    refusal why = Err why

-- what is met over a packet's bits
pub counts_so : {X : Type 0} (s mid : State) (read : Result X Why) → s.raised ≡ 0 → Counts s mid read → CountsSo read mid.raised
counts_so s mid (Ok x) none counts = counts.2 ∙ none
counts_so s mid (Err why) none counts = (λ e. let rose : s.raised < 2 ^ 64 - 1 → s.raised < mid.raised = counts.4 e in omega (arith, none, rose (omega (arith, none))), counts.5)

same_names : {X : Type 0} (s mid : State) (read : Result X Why) → Counts s mid read → mid.names ≡ s.names
same_names s mid (Ok x) counts = counts.4
same_names s mid (Err why) counts = counts.3

second_same : (a b k n : ℕ) (xs ys : List ℕ) → a ∷ k ∷ xs ≡ b ∷ n ∷ ys → (k ≡ n) × (xs ≡ ys)
second_same a b k n xs ys e = (cc, cc)

-- the pages are given back as they were lent
same_lent : {X : Type 0} (p new : Place) (page : OnPage) (name back : GName) (s mid : State) (read : Result X Why) (result : Result X (Option ℕ × Why)) → s.names ≡ name ∷ p.raised ∷ (numbers_of page ++ p.names) → Counts s mid read → (gives : GivesBack mid back new read result)
    → (gives.lent ≡ p.raised) × ((gives.page ≡ page) × (new.names ≡ p.names))
same_lent p new page name back s mid read result names counts gives =
    let same = second_same back name gives.lent p.raised _ _ (sym gives.names ∙ same_names s mid read counts ∙ names) in
    (same.0, numbers_same gives.page page new.names p.names same.1)

-- a packet's item was read, or none: what is told of the device's errors
pub met_told : {X : Type 0} (p new : Place) (page : OnPage) (name back : GName) (s mid : State) (read : Result X Why) (result : Result X (Option ℕ × Why)) → s.raised ≡ 0 → s.names ≡ name ∷ p.raised ∷ (numbers_of page ++ p.names) → Counts s mid read → GivesBack mid back new read result
    → Meets p.raised new.raised result
met_told p new page name back s mid read result none names counts gives =
    subst (λ n. Meets n new.raised result) (same_lent p new page name back s mid read result names counts gives).0 (gives.meets (counts_so s mid read none counts))

-- of the pages
pub pages_told : {X : Type 0} (p new : Place) (page : OnPage) (name back : GName) (s mid : State) (read : Result X Why) (result : Result X (Option ℕ × Why)) → s.raised ≡ 0 → s.names ≡ name ∷ p.raised ∷ (numbers_of page ++ p.names) → Counts s mid read → GivesBack mid back new read result
    → TellsPages page new result
pages_told p new page name back s mid read result none names counts gives =
    subst (λ (q : OnPage). TellsPages q new result) (same_lent p new page name back s mid read result names counts gives).1.0 (gives.pages (counts_so s mid read none counts))

-- and of the references
pub names_told : {X : Type 0} (p new : Place) (page : OnPage) (name back : GName) (s mid : State) (read : Result X Why) (result : Result X (Option ℕ × Why)) → s.names ≡ name ∷ p.raised ∷ (numbers_of page ++ p.names) → Counts s mid read → GivesBack mid back new read result
    → new.names ≡ p.names
names_told p new page name back s mid read result names counts gives = (same_lent p new page name back s mid read result names counts gives).1.1

-- a growth that was refused is told so, and so is none where it is not told
pub memory_told : {X : Type 0} (mid : State) (new : Place) (read : Result X Why) (result : Result X (Option ℕ × Why)) → JudgesPacket mid new read result → (result ≡ Err (None, Memory) → ⊥) → read ≡ Err Memory → ⊥
memory_told {X = X} mid new read result judges calm is = calm (subst (λ (r : Result X Why). JudgesPacket mid new r result) is judges (λ e. absurd (differ e)))
  where
    differ : Memory ≡ Read → ⊥
    differ e = absurd cc

-- ---- from a packet's first bit on

pub at_there : {name : GName} {page : OnPage} (p q : Place) (s : State) → p ≡ q → IsAtPacket name page p s → IsAtPacket name page q s
at_there {name} {page} p q s e at = subst (λ (k : Place). IsAtPacket name page k s) e at

abbrev cursor_at : Place → Cursor
cursor_at p = record { left = (packet_of p).bits; mark = packet_mark p }

same_end : (a b : After) → a ≡ without_fence b → end_of a ≡ end_of b
same_end a b e = ap (λ (x : After). end_of x) e

short_there : {name : GName} {page : OnPage} (p : Place) (s : State) → IsAtPacket name page p s → s.cursor.mark.short ≡ short_of s.after.fails
short_there p s at = ap (λ (c : Cursor). c.mark.short) at.cursor ∙ ap (λ (b : After). short_of b.fails) (sym at.after)

-- the fence that stands nowhere is lifted, and the checks have begun
pub lifted_there : {name : GName} {page : OnPage} (p : Place) (s : State) → IsAtPacket name page p s → (started (lifted s)).cursor ≡ s.cursor
lifted_there p s at =
    let none : s.after.fenced ≡ [] = ap (λ (b : After). b.fenced) at.after in
    let short : short_of s.after.fails ≡ (packet_mark p).short = ap (λ (b : After). short_of b.fails) at.after in
    rw (at.cursor, none, short, append-nil (packet_of p).bits) refl

-- what a reader answered over the packet, and the judgement of its end, tell what the packet is
pub packet_told : {X A : Type 0} {name : GName} {page : OnPage} (view : X → A) (room : Option ℕ) (l : Layout A) (p : Place) (old mid : State) (new : Place) (read : Result X Why) (result : Result X (Option ℕ × Why))
    → IsAtPacket name page p old → Counts old mid read → Gives view (read_in room l old.cursor) old mid read → mid.errors ≤ new.errors → JudgesPacket mid new read result
    → p.known ≡ true → new.errors ≡ p.errors → TellsItem view room l (packet_mark p) (packet_of p) result
packet_told view room l p old mid new read result at counts gives kept judges known same =
    let told = item_told view room l old.cursor old mid new read result at.raised (short_there p old at) counts gives kept judges (at.known ∙ known) (same ∙ sym at.errors) in
    subst (λ (e : PacketEnd). TellsItem view room l (packet_mark p) (record { bits = (packet_of p).bits; ends = e }) result) (same_end old.after (after_of p) at.after)
    (subst (λ (c : Cursor). TellsItem view room l c.mark (record { bits = c.left; ends = end_of old.after }) result) at.cursor told)

-- the same of a reader that lifts the fence and begins the checks first
pub packet_told_within : {X A : Type 0} {name : GName} {page : OnPage} (view : X → A) (room : Option ℕ) (l : Layout A) (p : Place) (old mid : State) (new : Place) (read : Result X Why) (result : Result X (Option ℕ × Why))
    → IsAtPacket name page p old → Counts (lifted old) mid read → Gives view (read_in room l (started (lifted old)).cursor) (lifted old) mid read → mid.errors ≤ new.errors → JudgesPacket mid new read result
    → p.known ≡ true → new.errors ≡ p.errors → TellsItem view room l (packet_mark p) (packet_of p) result
packet_told_within view room l p old mid new read result at counts gives kept judges known same =
    let there = lifted_there p old at in
    let short = ap (λ (c : Cursor). c.mark.short) there ∙ short_there p old at in
    let told = item_told view room l (started (lifted old)).cursor (lifted old) mid new read result at.raised short counts gives kept judges (at.known ∙ known) (same ∙ sym at.errors) in
    subst (λ (e : PacketEnd). TellsItem view room l (packet_mark p) (record { bits = (packet_of p).bits; ends = e }) result) (same_end old.after (after_of p) at.after)
    (subst (λ (c : Cursor). TellsItem view room l c.mark (record { bits = c.left; ends = end_of old.after }) result) (there ∙ at.cursor) told)

abbrev item_ok : {X : Type 0} → X → Result X (Option ℕ × Why)
item_ok x = Ok x

no_item : {X : Type 0} (x : X) (why : Option ℕ × Why) → item_ok x ≡ Err why → ⊥
no_item x why e = absurd cc

-- After a packet that is one item good pages give what they gave after it. What the item's reader gives is needed
-- only where no allocation failed.
abbrev Gave : After → ℕ → Place → Type 0
Gave b errors new = (new.known ≡ true) × (new.errors ≡ errors) × ((ahead new).lacing ≡ b.pieces) × ((ahead new).bytes ≡ b.bytes) × ((ahead new).fault ≡ b.fault) × ((ahead new).stop ≡ b.stop)

abbrev read_ok : {X : Type 0} → X → Result X Why
read_ok x = Ok x

not_memory : {X : Type 0} (x : X) → read_ok x ≡ Err Memory → ⊥
not_memory x e = absurd cc

item_after : {X A : Type 0} (view : X → A) (room : Option ℕ) (l : Layout A) (c : Cursor) (old mid : State) (new : Place) (read : Result X Why) (result : Result X (Option ℕ × Why))
    → old.raised ≡ 0 → c.mark.short ≡ short_of old.after.fails → Counts old mid read → ((read ≡ Err Memory → ⊥) → Gives view (read_in room l c) old mid read) → JudgesPacket mid new read result → OnOk result (GoesAfter mid new)
    → OnOk result (old.known ≡ true → Gave old.after old.errors new)
item_after view room l c old mid new read (Err why) raised short counts gives judges goes = tt
item_after view room l c old mid new (Ok x) (Ok y) raised short counts gives judges goes = λ known.
    let t = takes_in room l c.left c.mark (view x) mid.cursor (gives (λ e. not_memory x e) known counts.1) in
    let after : mid.after ≡ old.after = counts.3 known in
    let there : mid.cursor.mark.short ≡ short_of mid.after.fails = ap (λ (m : Mark). m.short) t.4 ∙ past-short t.0 c.mark ∙ short ∙ ap (λ (b : After). short_of b.fails) (sym after) in
    let now = counts.0 known in (
      goes.known now,
      goes.errors ∙ counts.1,
      goes.lacing now there ∙ ap (λ (b : After). b.pieces) after,
      goes.bytes now there ∙ ap (λ (b : After). b.bytes) after,
      goes.fault now there ∙ ap (λ (b : After). b.fault) after,
      goes.stop now there ∙ ap (λ (b : After). b.stop) after,
    )
item_after view room l c old mid new (Err why) (Ok y) raised short counts gives judges goes = λ known. absurd (no_item y (in_packet (end_of mid.after) why) (judges (λ e. omega (arith, counts.2 known e))))

has_after : {X : Type 0} (p new : Place) (b : After) (known : Type 0) (errors : ℕ) (result : Result X (Option ℕ × Why)) → (p.known ≡ true → known) → errors ≡ p.errors → b ≡ without_fence (after_of p)
    → OnOk result (known → Gave b errors new) → OnOk result (p.known ≡ true → HasAfter p new)
has_after p new b known errors (Ok x) knows same is gave = λ k.
    let g = gave (knows k) in
    record { known = g.0; errors = g.1 ∙ same; lacing = g.2 ∙ ap (λ (b : After). b.pieces) is; bytes = g.3 ∙ ap (λ (b : After). b.bytes) is; fault = g.4 ∙ ap (λ (b : After). b.fault) is; stop = g.5 ∙ ap (λ (b : After). b.stop) is }
has_after p new b known errors (Err why) knows same is gave = tt

pub after_told : {X A : Type 0} {name : GName} {page : OnPage} (view : X → A) (room : Option ℕ) (l : Layout A) (p : Place) (old mid : State) (new : Place) (read : Result X Why) (result : Result X (Option ℕ × Why))
    → IsAtPacket name page p old → Counts old mid read → ((read ≡ Err Memory → ⊥) → Gives view (read_in room l old.cursor) old mid read) → JudgesPacket mid new read result → OnOk result (GoesAfter mid new) → OnOk result (p.known ≡ true → HasAfter p new)
after_told view room l p old mid new read result at counts gives judges goes =
    has_after p new old.after (old.known ≡ true) old.errors result (λ k. at.known ∙ k) at.errors at.after
    (item_after view room l old.cursor old mid new read result at.raised (short_there p old at) counts gives judges goes)

pub after_told_within : {X A : Type 0} {name : GName} {page : OnPage} (view : X → A) (room : Option ℕ) (l : Layout A) (p : Place) (old mid : State) (new : Place) (read : Result X Why) (result : Result X (Option ℕ × Why))
    → IsAtPacket name page p old → Counts (lifted old) mid read → ((read ≡ Err Memory → ⊥) → Gives view (read_in room l (started (lifted old)).cursor) (lifted old) mid read) → JudgesPacket mid new read result → OnOk result (GoesAfter mid new)
    → OnOk result (p.known ≡ true → HasAfter p new)
after_told_within view room l p old mid new read result at counts gives judges goes =
    let there = lifted_there p old at in
    let short = ap (λ (c : Cursor). c.mark.short) there ∙ short_there p old at in
    has_after p new (lifted old).after (old.known ≡ true) old.errors result (λ k. at.known ∙ k) at.errors (ap (λ (b : After). without_fence b) at.after)
    (item_after view room l (started (lifted old)).cursor (lifted old) mid new read result at.raised short counts gives judges goes)
