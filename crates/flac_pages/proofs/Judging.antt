-- What a judged packet is, by what stands after its bits.
use Rattle.std.proofs.Common.{◌≡◌, ◌≢◌, ℕ, ◌<◌, ◌-◌, ◌^◌, Bool, true, false, ◌∷◌, ◌++◌, Option, Some, None, Result, Ok, Err, OnOk, refl, sym, ap, subst, ◌∙◌, arith}
use Rattle.std.specs.Prelude.{⊤, ◌&&◌, IfSome}
use Rattle.std.specs.Borrow.{GName}
use Rattle.std.specs.Option.{ForSome}
use Rattle.flac_bits.specs.Bits.{is_nil}
use Rattle.flac_bits.specs.State.{State, After, Rises, short_of, without_fence}
use Rattle.flac_bits.specs.Reasons.{of_output}
use Rattle.flac_bits.specs.declared.why.Why.{Why}
use Rattle.flac_bits.specs.declared.why.Why.TheVariants.{Read, Memory, Truncated, PacketLength}
use Rattle.flac_pages.specs.Packets.{Place, OnPage, Met, ahead, after_of, after_in, after_left, on_page, BreaksAt}
use Rattle.flac_pages.specs.inner.Packets.{Follows}
use Rattle.flac_pages.specs.Items.{PacketEnd, whole, unended, cut_at, end_of, in_packet, after_item, HasItsPage, CountsSo, numbers_of, GivesBack, JudgesPacket, GoesAfter}
use Rattle.flac_pages.specs.inner.Items.{why_in, EndsPacket}
use Rattle.flac_pages.proofs.Paged.{reads_then, broke_since, passes_there}
use Rattle.flac_pages.proofs.Stepping.{met_then}

-- ---- after a packet that is one item

-- no fault stands after, so none was met
unmet : (fault : Option (ℕ × Why)) (p : Place) → (after_left fault p).fails ≡ None → after_left fault p ≡ after_of p
unmet None p e = refl
unmet (Some f) p e = absurd (differ e)
  where
    some : Option (ℕ × Why)
    some = Some f

    differ : some ≡ None → ⊥
    differ e = absurd cc

calm : (o : Option (ℕ × Why)) → (short_of o ≡ Read → ⊥) → o ≡ None
calm None h = refl
calm (Some f) h = absurd (h refl)

pub goes_after : (s : State) (fault : Option (ℕ × Why)) (pages old new : Place) (result : Result ⊤ (Option ℕ × Why)) → old ≡ pages → (s.known ≡ true → pages.known ≡ true) → pages.errors ≡ s.errors
    → (s.known ≡ true → s.cursor.mark.short ≡ Read → ⊥) → (s.known ≡ true → without_fence (after_left fault pages) ≡ without_fence s.after) → EndsPacket old new result → OnOk result (GoesAfter s new)
unfolding after_of
goes_after s fault pages old new (Err why) is known errors short after ends = tt
goes_after s fault pages old new (Ok x) is known errors short after ends =
    let tells : s.known ≡ true → s.cursor.mark.short ≡ short_of s.after.fails → after_in 0 false (ahead new) ≡ without_fence s.after = λ k reason.
    let none : s.after.fails ≡ None = calm s.after.fails (λ e. short k (reason ∙ e)) in
    let same : after_left fault pages ≡ after_of pages = unmet fault pages (ap (λ (b : After). b.fails) (after k) ∙ none) in
    let left : after_of new ≡ after_of pages = ends.after (ap (λ (p : Place). p.known) is ∙ known k) ∙ ap after_of is in
    ap (λ r. after_in r false (ahead new)) (sym ends.stands.0) ∙ ap (λ b. after_in new.rest b (ahead new)) (sym ends.stands.1) ∙ left ∙ ap without_fence (sym same) ∙ after k in
    record {
      stands = ends.stands;
      known = λ k. ends.known (ap (λ (p : Place). p.known) is ∙ known k);
      errors = ends.errors ∙ ap (λ (p : Place). p.errors) is ∙ errors;
      lacing = λ k reason. ap (λ (b : After). b.pieces) (tells k reason);
      bytes = λ k reason. ap (λ (b : After). b.bytes) (tells k reason);
      fault = λ k reason. ap (λ (b : After). b.fault) (tells k reason);
      stop = λ k reason. ap (λ (b : After). b.stop) (tells k reason);
    }

-- ---- why an item's packet is refused

abbrev refusal : (X : Type 0) → Option ℕ × Why → Result X (Option ℕ × Why)
refusal X why = Err why

with_item : {X : Type 0} → X → Result ⊤ (Option ℕ × Why) → Result X (Option ℕ × Why)
with_item x (Ok y) = Ok x
with_item x (Err why) = Err why

abbrev nothing : ⊤
nothing = tt

same_item : {X : Type 0} (x : X) (e : PacketEnd) (b : Bool) → with_item x (after_item e b nothing) ≡ after_item e b x
unfolding with_item
same_item x whole true = refl
same_item x unended true = refl
same_item x (cut_at n why) true = refl
same_item x e false = refl

same_refusal : {X : Type 0} (x : X) (e : PacketEnd) (b : Bool) (r : Result ⊤ (Option ℕ × Why)) (why : Option ℕ × Why) → r ≡ Err why → r ≡ after_item e b nothing → refusal X why ≡ after_item e b x
unfolding with_item
same_refusal x e b r why is told = ap (with_item x) (sym is ∙ told) ∙ same_item x e b

-- the page's fault that was met is the one after the packet's bytes
met : (s : State) (fault : Option (ℕ × Why)) (errors : ℕ) (pages : Place) → (fault ≡ None → errors ≡ 0) → 0 < errors → without_fence (after_left fault pages) ≡ without_fence s.after
    → (f : ℕ × Why) × (fault ≡ Some f) × (end_of s.after ≡ cut_at f.0 f.1)
met s None errors pages quiet some after = absurd (omega (arith, quiet refl, some))
met s (Some f) errors pages quiet some after = (f, refl, ap (λ (b : After). end_of b) (sym after))

why_told : (fault : Option (ℕ × Why)) (e : PacketEnd) (why : Why) → (why ≡ Read → (f : ℕ × Why) × (fault ≡ Some f) × (e ≡ cut_at f.0 f.1)) → why_in fault why ≡ in_packet e why
why_told fault e Truncated h = refl
why_told fault e Read h = let (f, is, ends) = h refl in rw (is, ends) refl
why_told fault e why h = refl

pub judged_why : {X : Type 0} (s : State) (fault seen : Option (ℕ × Why)) (errors : ℕ) (pages new : Place) (read : Result X Why) (why : Why) (told : Option ℕ × Why) → read ≡ Err why → told ≡ why_in seen why → seen ≡ fault → (fault ≡ None → errors ≡ 0) → errors ≡ s.raised
    → without_fence (after_left fault pages) ≡ without_fence s.after → JudgesPacket s new read (Err told)
judged_why {X = X} s fault seen errors pages new read why told is tells same quiet raised after =
    subst (λ (r : Result X Why). JudgesPacket s new r (Err told)) (sym is)
    (λ some. ap (refusal X) (tells ∙ ap (λ o. why_in o why) same ∙ why_told fault (end_of s.after) why (λ e. met s fault errors pages quiet (subst (λ n. 0 < n) (sym raised) (some e)) after)))

pub judged_end : {X : Type 0} (s : State) (new : Place) (read : Result X Why) (x : X) (r : Result ⊤ (Option ℕ × Why)) (why : Option ℕ × Why) → read ≡ Ok x → r ≡ Err why
    → (s.known ≡ true → new.errors ≡ s.errors → s.cursor.mark.short ≡ short_of s.after.fails → r ≡ after_item (end_of s.after) (is_nil s.cursor.left) nothing) → JudgesPacket s new read (Err why)
judged_end {X = X} s new read x r why is refused judges =
    subst (λ (r : Result X Why). JudgesPacket s new r (Err why)) (sym is)
    (λ known same short. same_refusal x (end_of s.after) (is_nil s.cursor.left) r why refused (judges known same short))

-- ---- the pages are given back

same_names : (s : State) (name : GName) (lent : ℕ) (page : OnPage) (pages old new : Place) → s.names ≡ name ∷ lent ∷ (numbers_of page ++ pages.names) → old ≡ pages → new.names ≡ old.names → s.names ≡ name ∷ lent ∷ (numbers_of page ++ new.names)
same_names s name lent page pages old new names is kept = names ∙ ap (λ n. name ∷ lent ∷ (numbers_of page ++ n)) (sym (kept ∙ ap (λ (p : Place). p.names) is))

follows_there : (start pages old : Place) → old ≡ pages → Follows start pages → Follows start old
follows_there start pages old is follows = subst (λ (p : Place). Follows start p) (sym is) follows

pub known_there : (p : Place) → (on_page p).known ≡ true → p.known ≡ true
unfolding on_page
known_there p known = known

-- after a whole item, where the packet's end is judged
pub end_back : (s : State) (name : GName) (start : Place) (fault : Option (ℕ × Why)) (errors : ℕ) (pages old new : Place) (result : Result ⊤ (Option ℕ × Why)) → s.names ≡ name ∷ start.raised ∷ (numbers_of (on_page start) ++ pages.names) → old ≡ pages → errors ≡ s.raised
    → (errors ≡ 0 → fault ≡ None) → (fault ≡ None → pages.raised ≡ start.raised) → (fault ≡ None → Follows start pages) → (fault ≡ None → start.known ≡ true → after_of pages ≡ after_of start)
    → EndsPacket old new result → GivesBack s name new (Ok nothing) result
end_back s name start fault errors pages old new (Ok x) names is raised none calm follows after ends = record {
  lent = start.raised;
  page = on_page start;
  names = same_names s name start.raised (on_page start) pages old new names is ends.names;
  meets = λ counts. ends.raised ∙ ap (λ (p : Place). p.raised) is ∙ calm (none (raised ∙ counts));
  pages = λ counts known more.
      let calm = none (raised ∙ counts) in
      let f = follows_there start pages old is (follows calm) in
      let there = known_there start known in
      let read = reads_then (on_page start) (on_page old) (on_page new) (f.pages there) (ends.pages (f.known there)) in
      let same : after_of old ≡ after_of start = ap after_of is ∙ after calm there in
      passes_there start new read more ends.stands.1 (ap (λ (b : After). end_of b) (sym same) ∙ ends.ended (f.known there)) (ends.after (f.known there) ∙ same);
}
end_back s name start fault errors pages old new (Err why) names is raised none calm follows after ends = record {
  lent = start.raised;
  page = on_page start;
  names = same_names s name start.raised (on_page start) pages old new names is ends.names;
  meets = λ counts. met_then why.1 start.raised old.raised new.raised (ap (λ (p : Place). p.raised) is ∙ calm (none (raised ∙ counts))) ends.met;
  pages = λ counts known.
      let f = follows_there start pages old is (follows (none (raised ∙ counts))) in
      let there = known_there start known in
      broke_since start old why.0 f there (ends.breaks (f.known there));
}

met_why : (fault : Option (ℕ × Why)) (errors lent raised : ℕ) (why : Why) → (fault ≡ None → errors ≡ 0) → ForSome fault (λ f. Met f.1 lent raised) → (why ≡ Read → 0 < errors) × (of_output why ≡ false) → Met (why_in fault why).1 lent raised
met_why fault errors lent raised Truncated quiet met counts = (λ e. absurd cc, refl)
met_why None errors lent raised Read quiet met counts = absurd (omega (arith, quiet refl, counts.0 refl))
met_why (Some f) errors lent raised Read quiet met counts = met f refl
met_why fault errors lent raised why quiet met counts = (λ e. absurd cc, counts.1)

broke_why : (page : OnPage) (fault : Option (ℕ × Why)) (why : Why) → page.known ≡ true → ForSome fault (λ f. page.known ≡ true → BreaksAt page f.0) → IfSome (why_in fault why).0 (λ n. BreaksAt page n)
broke_why page fault Truncated known broke = tt
broke_why page None Read known broke = tt
broke_why page (Some f) Read known broke = broke f refl known
broke_why page fault why known broke = tt

-- where a reader of bits refused
pub told_back : {X : Type 0} (s : State) (name : GName) (lent : ℕ) (page : OnPage) (fault seen : Option (ℕ × Why)) (errors : ℕ) (pages new : Place) (read : Result X Why) (why : Why) (told : Option ℕ × Why) → told ≡ why_in seen why → seen ≡ fault
    → s.names ≡ name ∷ lent ∷ (numbers_of page ++ pages.names) → new ≡ pages → (fault ≡ None → errors ≡ 0) → ForSome fault (λ f. Met f.1 lent pages.raised) → ForSome fault (λ f. page.known ≡ true → BreaksAt page f.0)
    → (CountsSo read s.raised → (why ≡ Read → 0 < errors) × (of_output why ≡ false)) → GivesBack s name new read (Err told)
told_back {X = X} s name lent page fault seen errors pages new read why told tells same names at quiet met broke so = record {
  lent = lent;
  page = page;
  names = same_names s name lent page pages new new names at refl;
  meets = λ counts.
      let found : Met (why_in fault why).1 lent pages.raised = met_why fault errors lent pages.raised why quiet met (so counts) in
      subst (λ (p : Place). Met told.1 lent p.raised) (sym at) (subst (λ (w : Option ℕ × Why). Met w.1 lent pages.raised) (ap (λ o. why_in o why) (sym same) ∙ sym tells) found);
  pages = λ counts known. subst (λ (w : Option ℕ × Why). IfSome w.0 (λ n. BreaksAt page n)) (ap (λ o. why_in o why) (sym same) ∙ sym tells) (broke_why page fault why known broke);
}

-- where the item's reader did
pub why_back : {X : Type 0} (s : State) (name : GName) (lent : ℕ) (page : OnPage) (fault seen : Option (ℕ × Why)) (errors : ℕ) (pages new : Place) (read : Result X Why) (why : Why) (told : Option ℕ × Why) → read ≡ Err why → told ≡ why_in seen why → seen ≡ fault
    → s.names ≡ name ∷ lent ∷ (numbers_of page ++ pages.names) → new ≡ pages → errors ≡ s.raised → (fault ≡ None → errors ≡ 0) → ForSome fault (λ f. Met f.1 lent pages.raised) → ForSome fault (λ f. page.known ≡ true → BreaksAt page f.0) → GivesBack s name new read (Err told)
why_back {X = X} s name lent page fault seen errors pages new read why told is tells same names at raised quiet met broke =
    told_back s name lent page fault seen errors pages new read why told tells same names at quiet met broke (λ counts.
    let so : CountsSo {X = X} (Err why) s.raised = subst (λ (r : Result X Why). CountsSo r s.raised) is counts in
    (λ e. subst (λ n. 0 < n) (sym raised) (so.0 e), so.1))

-- where bits are left after the item
pub left_back : (s : State) (name : GName) (lent : ℕ) (page : OnPage) (pages new : Place) → s.names ≡ name ∷ lent ∷ (numbers_of page ++ pages.names) → new ≡ pages → GivesBack s name new (Ok nothing) (Err (None, PacketLength))
left_back s name lent page pages new names at = record {
  lent = lent;
  page = page;
  names = same_names s name lent page pages new new names at refl;
  meets = λ counts. (λ e. absurd cc, refl);
  pages = λ counts known. tt;
}

-- ---- the page of an error of the device

same_page : (k n : ℕ) → k ≡ n → Some k ≡ Some n
same_page k n e = ap (λ (i : ℕ). Some i) e

told_in : (fault : Option (ℕ × Why)) (errors count : ℕ) (why : Why) → (fault ≡ None → errors ≡ 0) → ForSome fault (λ f. f.0 ≡ count) → ForSome fault (λ f. f.1 ≢ Memory) → (why ≡ Read → 0 < errors) → HasItsPage count (why_in fault why)
told_in fault errors count Truncated quiet page memory some = (λ e. absurd cc, λ e. absurd cc)
told_in None errors count Read quiet page memory some = absurd (omega (arith, quiet refl, some refl))
told_in (Some f) errors count Read quiet page memory some = (λ e. same_page f.0 count (page f refl), λ e. absurd (memory f refl e))
told_in fault errors count why quiet page memory some = (λ e. absurd cc, λ e. refl)

-- where a packet's reader refused
pub told_of : (fault seen : Option (ℕ × Why)) (errors : ℕ) (pages new : Place) (why : Why) (told : Option ℕ × Why) → told ≡ why_in seen why → seen ≡ fault → new ≡ pages → (fault ≡ None → errors ≡ 0) → ForSome fault (λ f. f.0 ≡ pages.count)
    → ForSome fault (λ f. f.1 ≢ Memory) → (why ≡ Read → 0 < errors) → HasItsPage new.count told
told_of fault seen errors pages new why told is same at quiet page memory some =
    subst (λ (p : Place). HasItsPage p.count told) (sym at) (subst (λ (w : Option ℕ × Why). HasItsPage pages.count w) (ap (λ o. why_in o why) (sym same) ∙ sym is) (told_in fault errors pages.count why quiet page memory some))

-- a reader that met no error before and answers Read met one
pub rose_read : (old new errors : ℕ) (why : Why) → old ≡ 0 → (why ≡ Read → Rises old new) → errors ≡ new → why ≡ Read → 0 < errors
rose_read old new errors why none rises is e = let rose : old < 2 ^ 64 - 1 → old < new = rises e in omega (arith, none, rose (omega (arith, none)), is)

-- so it is of any answer that counts so
pub counted_read : {X : Type 0} (read : Result X Why) (raised errors : ℕ) (why : Why) → read ≡ Err why → CountsSo read raised → errors ≡ raised → why ≡ Read → 0 < errors
counted_read {X} read raised errors why refused counts is e =
    let so : CountsSo {X = X} (Err why) raised = subst (λ (r : Result X Why). CountsSo r raised) refused counts in
    subst (λ n. 0 < n) (sym is) (so.0 e)

-- ---- facts of the calls

pub and_left : (a b : Bool) → (a && b) ≡ true → a ≡ true
and_left true b e = refl
and_left false b e = absurd (differ e)
  where
    differ : false ≡ true → ⊥
    differ e = absurd cc

abbrev over_at : Bool → Result Bool Why
over_at b = Ok b

pub is_over : (result : Result Bool Why) (b : Bool) → result ≡ Ok b → b ≡ true → result ≡ Ok true
is_over result b is e = is ∙ ap over_at e
