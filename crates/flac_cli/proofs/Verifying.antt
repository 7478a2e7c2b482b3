-- What a file was found to be, by how it was read.
use Rattle.std.proofs.Common.{◌≡◌, ◌≢◌, ◌⊎◌, ◌↔◌, ◌≤◌, ℕ, Bool, true, false, List, [], ◌∷◌, ◌++◌, length, Option, Some, None, IfSome, refl, sym, ap, subst, ◌∙◌, arith, inl, inr}
use Rattle.flac_bits.specs.Bits.{bits_of}
use Rattle.flac_bits.specs.State.{Mark, the_end}
use Rattle.flac_bits.specs.Handing.{TakesAll}
use Rattle.flac_bits.specs.declared.source.Source as source
use Rattle.flac_bits.specs.declared.why.Why.TheVariants as why
use Rattle.flac_info.specs.Info.{Info}
use Rattle.flac_header.specs.declared.subset.Profile.{Profile}
use Rattle.flac_header.specs.declared.subset.Profile.TheVariants.{Subset, Lax}
use Rattle.flac_native.specs.Decoding.{start_mark, taken}
use Rattle.flac_native.specs.Item.{Item}
use Rattle.flac_native.specs.Stream.{Piece, marked, block, framed}
use Rattle.flac_native.specs.declared.fault.Fault.{Fault}
use Rattle.flac_native.proofs.LaxProfile as native
use Rattle.flac_ogg.proofs.LaxProfile as ogg
use Rattle.flac_ogg.specs.Either.{begins_page, read_any}
use Rattle.flac_around.specs.Chains.{first_link, later_links}
use Rattle.flac_around.specs.EmptyPackets.{trimmed}
use Rattle.flac_chain.specs.Chained.{link_reading, all_parts, IsChain, AreLater}
use Rattle.flac_chain.proofs.ReadOnce.{once}
use Rattle.flac_shelf.specs.Listed.{Contents, Listed, Opens}
use Rattle.flac_cli.specs.Outcomes.{Fits}
use Rattle.flac_cli.specs.Chains.{ReadsAsChain}
use Rattle.flac_cli.specs.Counted.{frames_in, samples_in_all, printed}
use Rattle.flac_cli.specs.Verified.{asked_profile, lacks_digest, lacks_total, Describes, IsDescribed, IsStreamOf, IsRefusedAs, IsOutside, IsFinding, HasNoMemory}
use Rattle.flac_cli.specs.inner.Taking.{first_known, streams_after, lacks_after, AreNone}
use Rattle.flac_cli.specs.Streams.{Tells}
use Rattle.flac_cli.specs.inner.Verifying.{IsFlaw, IsReading, IsReadingOutside, Stays}
use Rattle.flac_cli.specs.declared.verify_facts.Facts.{Facts}
use Rattle.flac_cli.specs.declared.verify_facts.Flaw.{Flaw}
use Rattle.flac_cli.specs.declared.verify.Finding.{Finding}
use Rattle.flac_cli.specs.declared.verify.Finding.TheVariants.{Good, Bad, Unopened}
use Rattle.flac_cli.proofs.Counting.{Counts, counted_from_none}
use Rattle.flac_cli.proofs.Learned.{TakesFacts, infos_in, folded, learned, chain_infos, all_infos, first_is, count_is, lacks_are}
use Rattle.flac_cli.proofs.Reported.{memory_or_not}

-- ---- readings

-- what is a stream of the streamable subset is one of all of FLAC
lax_any : (is_ogg : Bool) (mark : Mark) (text : List Bool) (parts : List Piece) → mark.unread ≡ 0 → (read_any Subset is_ogg mark text).whole parts → (read_any Lax is_ogg mark text).whole parts
lax_any true mark text parts whole_byte is = ogg.subset_is_lax mark parts text is
lax_any false mark text parts whole_byte is = native.subset_is_lax mark parts text whole_byte is

lax_link : (link : List ℕ) (parts : List Piece) → (link_reading Subset link).whole parts → (link_reading Lax link).whole parts
lax_link link parts is = let bytes = trimmed false link in lax_any (begins_page bytes) (start_mark the_end) (bits_of bytes) parts refl is

lax_later : (bytes : List ℕ) (ps : List (List Piece)) → AreLater Subset bytes ps → AreLater Lax bytes ps
lax_later bytes [] is = is
lax_later bytes (p ∷ ps) is = (is.0, lax_link (first_link bytes) p is.1, lax_later (later_links bytes) ps is.2)

pub lax_chain : (bytes : List ℕ) (ps : List (List Piece)) → IsChain Subset bytes ps → IsChain Lax bytes ps
lax_chain bytes [] is = is
lax_chain bytes (p ∷ ps) is = (lax_link (first_link bytes) p is.0, lax_later (later_links bytes) ps is.1)

-- ---- what a sink has taken

module _ {S : Type 0} (T U : S → Item → S → Type 0) (less : (old : S) (x : Item) (new : S) → T old x new → U old x new) where
  -- a sink that takes more of each item takes this of all of them
  takes_less : (old : S) (xs : List Piece) (new : S) → TakesAll (taken T) old xs new → TakesAll (taken U) old xs new
  takes_less old [] new h = h
  takes_less old (marked ∷ xs) new h = (h.0, h.1, takes_less h.0 xs new h.2)
  takes_less old (block last b ∷ xs) new h = (h.0, less old _ h.0 h.1, takes_less h.0 xs new h.2)
  takes_less old (framed f ∷ xs) new h = (h.0, less old _ h.0 h.1, takes_less h.0 xs new h.2)

-- Facts that began with nothing count all parts,
pub counted_facts : (old : Facts) (xs : List Piece) (new : Facts) → TakesAll (taken TakesFacts) old xs new → AreNone old → (new.counts.frames ≡ printed (frames_in xs)) × (new.counts.samples ≡ printed (samples_in_all xs))
counted_facts old xs new h none =
    let counts = takes_less TakesFacts (Counts (λ (f : Facts). f.counts.frames) (λ (f : Facts). f.counts.samples)) (λ a x b t. record { frames = t.frames; samples = t.samples }) old xs new h in
    counted_from_none (λ (f : Facts). f.counts.frames) (λ (f : Facts). f.counts.samples) old xs new counts none.frames none.samples

-- and describe the streams of a chain.
pub described : (profile : Profile) (bytes : List ℕ) (ps : List (List Piece)) (old new : Facts) → IsChain profile bytes ps → TakesAll (taken TakesFacts) old (all_parts ps) new → AreNone old → Describes ps new
described profile bytes ps old new chain h none =
    let infos = chain_infos profile bytes ps chain in
    let is = infos.0 in
    let all = all_infos ps is infos.1 in
    let counted = counted_facts old (all_parts ps) new h none in
    record {
      frames = counted.0;
      samples = counted.1;
      info = learned first_known (λ f. f.info) (λ a o b t. t.info) old (all_parts ps) new h ∙ ap (λ k. folded first_known k (infos_in (all_parts ps))) none.info ∙ ap (folded first_known None) all ∙ first_is ps is infos.1;
      streams = learned streams_after (λ f. f.streams) (λ a o b t. t.streams) old (all_parts ps) new h ∙ ap (λ n. folded streams_after n (infos_in (all_parts ps))) none.streams ∙ ap (folded streams_after 0) all ∙ count_is ps is infos.1;
      no_digest = learned (lacks_after lacks_digest) (λ f. f.no_digest) (λ a o b t. t.no_digest) old (all_parts ps) new h ∙ ap (λ b. folded (lacks_after lacks_digest) b (infos_in (all_parts ps))) none.no_digest ∙ ap (folded (lacks_after lacks_digest) false) all ∙ lacks_are lacks_digest false ps is infos.1;
      no_total = learned (lacks_after lacks_total) (λ f. f.no_total) (λ a o b t. t.no_total) old (all_parts ps) new h ∙ ap (λ b. folded (lacks_after lacks_total) b (infos_in (all_parts ps))) none.no_total ∙ ap (folded (lacks_after lacks_total) false) all ∙ lacks_are lacks_total false ps is infos.1;
    }

-- ---- one finding

pub not_true : {X : Type 0} (b : Bool) → b ≡ false → b ≡ true → X
not_true true fails holds = absurd cc
not_true false fails holds = absurd cc

-- two Booleans that hold of the same
same_bool : {P : Type 0} (a b : Bool) → (a ≡ true ↔ P) → (b ≡ true ↔ P) → a ≡ b
same_bool true true p q = refl
same_bool false false p q = refl
same_bool true false p q = sym (q.1 (p.0 refl))
same_bool false true p q = p.1 (q.0 refl)

abbrev made : (frames samples : ℕ) → Option Info → (streams : ℕ) → (no_digest no_total is_ogg outside : Bool) → Facts
made frames samples info streams no_digest no_total is_ogg outside =
    record { counts = record { frames = frames; samples = samples }; info = info; streams = streams; no_digest = no_digest; no_total = no_total; is_ogg = is_ogg; outside = outside }

-- the facts of streams are determined
same_facts : (ps : List (List Piece)) (f g : Facts) → Describes ps f → Describes ps g → f.is_ogg ≡ g.is_ogg → f.outside ≡ g.outside → f ≡ g
same_facts ps f g df dg container outside =
    ap (λ n. made n f.counts.samples f.info f.streams f.no_digest f.no_total f.is_ogg f.outside) (df.frames ∙ sym dg.frames)
    ∙ ap (λ n. made g.counts.frames n f.info f.streams f.no_digest f.no_total f.is_ogg f.outside) (df.samples ∙ sym dg.samples)
    ∙ ap (λ i. made g.counts.frames g.counts.samples i f.streams f.no_digest f.no_total f.is_ogg f.outside) (df.info ∙ sym dg.info)
    ∙ ap (λ n. made g.counts.frames g.counts.samples g.info n f.no_digest f.no_total f.is_ogg f.outside) (df.streams ∙ sym dg.streams)
    ∙ ap (λ b. made g.counts.frames g.counts.samples g.info g.streams b f.no_total f.is_ogg f.outside) (df.no_digest ∙ sym dg.no_digest)
    ∙ ap (λ b. made g.counts.frames g.counts.samples g.info g.streams g.no_digest b f.is_ogg f.outside) (df.no_total ∙ sym dg.no_total)
    ∙ ap (λ b. made g.counts.frames g.counts.samples g.info g.streams g.no_digest g.no_total b f.outside) container
    ∙ ap (λ b. made g.counts.frames g.counts.samples g.info g.streams g.no_digest g.no_total g.is_ogg b) outside

same_fault : (f g : Fault) → f.at ≡ g.at → f.why ≡ g.why → f ≡ g
same_fault f g at why = ap (λ a. record { at = a; why = f.why }) at ∙ ap (λ w. record { at = g.at; why = w }) why

same_flaw : (f g : Flaw) → f.stream ≡ g.stream → f.fault ≡ g.fault → f.samples ≡ g.samples → f ≡ g
same_flaw f g stream fault samples =
    ap (λ n. record { stream = n; fault = f.fault; samples = f.samples }) stream ∙ ap (λ x. record { stream = g.stream; fault = x; samples = f.samples }) fault
    ∙ ap (λ n. record { stream = g.stream; fault = g.fault; samples = n }) samples

-- a refusal is determined
same_refusal : (profile : Profile) (bytes : List ℕ) (f g : Flaw) → IsRefusedAs profile bytes f → IsRefusedAs profile bytes g → f ≡ g
same_refusal profile bytes f g a b =
    let same = (once profile bytes).refusals a.0 b.0 a.1 b.1 f.fault.at g.fault.at f.fault.why g.fault.why a.2 b.2 in
    same_flaw f g (a.3 ∙ ap length same.0 ∙ sym b.3) (same_fault f.fault g.fault same.1 same.2)
    (a.4 ∙ ap (λ ps. printed (samples_in_all (all_parts ps ++ a.1))) same.0 ∙ ap (λ xs. printed (samples_in_all (all_parts b.0 ++ xs))) same.3 ∙ sym b.4)

module _ (subset : Bool) (of : Contents) where
  -- a stream was found
  pub good_fits : (facts : Facts) → IsStreamOf (asked_profile subset) of facts → (facts.outside ≡ true ↔ IsOutside subset of) → Fits HasNoMemory (IsFinding subset (Some of)) (Good facts)
  good_fits facts is outside = record {
    right = inr (is, outside);
    each = only;
  }
    where
      only : (other : Finding) → IsFinding subset (Some of) other → HasNoMemory (Good facts) ⊎ (Good facts ≡ other)
      only (Good more) w =
          let parts = (once (asked_profile subset) of.bytes).streams w.0.0.0 is.0.0 w.0.0.1 is.0.1 in
          inr (ap Good (same_facts is.0.0 facts more is.0.2 (subst (λ ps. Describes ps more) parts w.0.0.2) (is.1 ∙ sym w.0.1) (same_bool facts.outside more.outside outside w.1)))
      only (Bad flaw) w = absurd ((once (asked_profile subset) of.bytes).either is.0.0 w.0 w.1 flaw.fault.at flaw.fault.why is.0.1 w.2)
      only Unopened w = absurd w

  -- it was refused
  pub bad_fits : (flaw : Flaw) → IsFlaw (asked_profile subset) of.bytes flaw → Fits HasNoMemory (IsFinding subset (Some of)) (Bad flaw)
  bad_fits flaw is = record {
    right = elim (memory_or_not flaw.fault.why) [ inl out ↦ inl out | inr calm ↦ inr (is calm) ];
    each = λ other w. elim (memory_or_not flaw.fault.why) [ inl out ↦ inl out | inr calm ↦ inr (only (is calm) other w) ];
  }
    where
      only : IsRefusedAs (asked_profile subset) of.bytes flaw → (other : Finding) → IsFinding subset (Some of) other → Bad flaw ≡ other
      only own (Good facts) w = absurd ((once (asked_profile subset) of.bytes).either w.0.0.0 own.0 own.1 flaw.fault.at flaw.fault.why w.0.0.1 own.2)
      only own (Bad more) w = ap Bad (same_refusal (asked_profile subset) of.bytes flaw more own w)
      only own Unopened w = absurd w

-- memory ran out
pub memory_fits : (subset : Bool) (contents : Option Contents) (flaw : Flaw) → flaw.fault.why ≡ why.Memory → Fits HasNoMemory (IsFinding subset contents) (Bad flaw)
memory_fits subset contents flaw is = record {
  right = inl is;
  each = λ other w. inl is;
}

-- the file cannot be opened
pub unopened_fits : (subset : Bool) → Fits HasNoMemory (IsFinding subset None) Unopened
unopened_fits subset = record {
  right = inr tt;
  each = only;
}
  where
    only : (other : Finding) → IsFinding subset None other → HasNoMemory Unopened ⊎ (Unopened ≡ other)
    only (Good facts) w = absurd w
    only (Bad flaw) w = absurd w
    only Unopened w = inr refl

-- One reading in the profile that is asked for finds what the file is, if the file is not looked at again.
pub read_fits : (subset : Bool) (contents : Option Contents) (finding : Finding) → IsReading (asked_profile subset) contents finding → ((of : Contents) → contents ≡ Some of → IsOutside subset of → ⊥) → Fits HasNoMemory (IsFinding subset contents) finding
read_fits subset None (Good facts) w never = absurd w
read_fits subset None (Bad flaw) w never = absurd w
read_fits subset None Unopened w never = unopened_fits subset
read_fits subset (Some of) (Good facts) w never = good_fits subset of facts w.0 ((λ holds. not_true facts.outside w.1 holds), (λ out. absurd (never of refl out)))
read_fits subset (Some of) (Bad flaw) w never = bad_fits subset of flaw w
read_fits subset (Some of) Unopened w never = absurd w

-- A stream of the subset is one of all of FLAC, and is not outside.
inside_fits : (of : Contents) (facts : Facts) → IsStreamOf Subset of facts → facts.outside ≡ false → Fits HasNoMemory (IsFinding false (Some of)) (Good facts)
inside_fits of facts is fails =
    good_fits false of facts ((is.0.0, lax_chain of.bytes is.0.0 is.0.1, is.0.2), is.1)
    ((λ holds. not_true facts.outside fails holds), (λ out. absurd (out.outside (is.0.0, is.0.1))))

pub first_good : (contents : Option Contents) (facts : Facts) → IsReading Subset contents (Good facts) → Fits HasNoMemory (IsFinding false contents) (Good facts)
first_good None facts w = absurd w
first_good (Some of) facts w = inside_fits of facts w.0 w.1

pub first_unopened : (contents : Option Contents) → IsReading Subset contents Unopened → Fits HasNoMemory (IsFinding false contents) Unopened
first_unopened None w = unopened_fits false
first_unopened (Some of) w = absurd w

-- What the subset refuses is no stream of it.
refused_is_outside : (bytes : List ℕ) (flaw : Flaw) → IsFlaw Subset bytes flaw → flaw.fault.why ≢ why.Memory → ReadsAsChain Subset bytes None → ⊥
refused_is_outside bytes flaw is calm whole = let own = is calm in (once Subset bytes).either whole.0 own.0 own.1 flaw.fault.at flaw.fault.why whole.1 own.2

-- After a refusal in the subset, a reading of all of FLAC finds what the file is.
pub again_fits : (contents : Option Contents) (first : Flaw) (finding : Finding) → IsReading Subset contents (Bad first) → first.fault.why ≢ why.Memory → ((of : Contents) → contents ≡ Some of → of.again ≡ true) → IsReadingOutside contents finding → Fits HasNoMemory (IsFinding false contents) finding
again_fits None first finding w calm again r = absurd w
again_fits (Some of) first (Good facts) w calm again r =
    let out : IsOutside false of = record { asked = refl; again = again of refl; outside = refused_is_outside of.bytes first w calm } in
    good_fits false of facts r.0 ((λ holds. out), (λ o. r.1))
again_fits (Some of) first (Bad flaw) w calm again r = bad_fits false of flaw r
again_fits (Some of) first Unopened w calm again r = absurd r

pub strict_fits : (subset : Bool) (contents : Option Contents) (finding : Finding) → subset ≡ true → IsReading Subset contents finding → Fits HasNoMemory (IsFinding subset contents) finding
strict_fits true contents finding is w = read_fits true contents finding w (λ of at out. not_true true out.asked refl)
strict_fits false contents finding is w = absurd cc

pub wide_fits : (subset again : Bool) (contents : Option Contents) (finding : Finding) → subset ≡ false → again ≡ false → IfSome contents (λ of. again ≡ of.again) → IsReading Lax contents finding → Fits HasNoMemory (IsFinding subset contents) finding
wide_fits true again contents finding is once same w = absurd cc
wide_fits false again contents finding is once same w = read_fits false contents finding w (λ of at out.
    let here : again ≡ of.again = subst (λ k. IfSome k (λ of. again ≡ of.again)) at same in
    not_true again once (here ∙ out.again))

pub twice_fits : (subset : Bool) (contents : Option Contents) (finding : Finding) → subset ≡ false → Fits HasNoMemory (IsFinding false contents) finding → Fits HasNoMemory (IsFinding subset contents) finding
twice_fits true contents finding is w = absurd cc
twice_fits false contents finding is w = w

-- a file that can be read again
pub again_so : (again : Bool) (contents : Option Contents) → again ≡ true → IfSome contents (λ of. again ≡ of.again) → IfSome contents (λ of. of.again ≡ true)
again_so again None is same = tt
again_so again (Some of) is same = sym same ∙ is

pub again_is : (contents : Option Contents) → IfSome contents (λ of. of.again ≡ true) → (of : Contents) → contents ≡ Some of → of.again ≡ true
again_is contents h of is = subst (λ k. IfSome k (λ of. of.again ≡ true)) is h

-- ---- from a source to a finding

module _ {F : Type 0} (g : source.Ghosts F) where
  pub tells_opened : {contents : Option Contents} {file read : F} → Opens g contents file → (g.errors read ≡ 0) × (g.raised read ≡ 0) → Tells g file read
  tells_opened o calm = (o.known, calm.0 ∙ sym o.errors, calm.1 ∙ sym o.raised)

  -- the bytes of a file are those that its source has to come
  opened_as : {contents : Option Contents} {file : F} (Says : List ℕ → Type 0) (o : Opens g contents file) → Says (g.coming file) → Says o.of.bytes
  opened_as Says o is = subst Says o.coming is

  pub good_reading : {contents : Option Contents} {file : F} (profile : Profile) (facts : Facts) → Opens g contents file → IsDescribed profile (g.coming file) facts → facts.is_ogg ≡ begins_page (g.coming file) → facts.outside ≡ false → IsReading profile contents (Good facts)
  good_reading profile facts o is container inside =
      let parts = opened_as (λ b. IsDescribed profile b facts) o is in
      subst (λ k. IsReading profile k (Good facts)) (sym o.is) ((parts, container ∙ ap begins_page o.coming), inside)

  pub bad_reading : {contents : Option Contents} {file : F} (profile : Profile) (flaw : Flaw) → Opens g contents file → IsFlaw profile (g.coming file) flaw → IsReading profile contents (Bad flaw)
  bad_reading profile flaw o is = subst (λ k. IsReading profile k (Bad flaw)) (sym o.is) (opened_as (λ b. IsFlaw profile b flaw) o is)

pub unopened_reading : {contents : Option Contents} (profile : Profile) → contents ≡ None → IsReading profile contents Unopened
unopened_reading profile is = subst (λ k. IsReading profile k Unopened) (sym is) tt

pub outside_good : (contents : Option Contents) (facts : Facts) → IsReading Lax contents (Good facts) → IsReadingOutside contents (Good (record facts { outside = true }))
outside_good None facts w = absurd w
outside_good (Some of) facts w =
    let d = w.0.0.2 in
    (((w.0.0.0, w.0.0.1, record { frames = d.frames; samples = d.samples; info = d.info; streams = d.streams; no_digest = d.no_digest; no_total = d.no_total }), w.0.1), refl)

pub outside_bad : (contents : Option Contents) (flaw : Flaw) → IsReading Lax contents (Bad flaw) → IsReadingOutside contents (Bad flaw)
outside_bad None flaw w = absurd w
outside_bad (Some of) flaw w = w

pub outside_unopened : (contents : Option Contents) → IsReading Lax contents Unopened → IsReadingOutside contents Unopened
outside_unopened None w = tt
outside_unopened (Some of) w = absurd w

-- ---- the list

module _ {S : Type 0} {known : S → Bool} {current : S → Listed} {files : S → List Listed} {gone : S → List (List ℕ)} {faults most : S → ℕ} where
  -- no device failed in either of two calls
  pub still : {a b c : S} → Stays known current files gone faults most a b → Stays known current files gone faults most b c → faults c ≡ faults a → (faults b ≡ faults a) × (faults c ≡ faults b)
  still p q same = (omega (arith, same, p.kept, q.kept), omega (arith, same, p.kept, q.kept))

  pub stays_then : {a b c : S} → Stays known current files gone faults most a b → Stays known current files gone faults most b c → Stays known current files gone faults most a c
  stays_then {a = a} {b = b} {c = c} p q = record {
    kept = omega (arith, p.kept, q.kept);
    knows = λ k same. let calm = still p q same in q.knows (p.knows k calm.0) calm.1;
    here = q.here ∙ p.here;
    rest = q.rest ∙ p.rest;
    left = q.left ∙ p.left;
    room = q.room ∙ p.room;
  }

  -- the file was opened, and no more
  pub stays_opened : {a b : S} → (known a ≡ true → known b ≡ true) → current b ≡ current a → files b ≡ files a → gone b ≡ gone a → faults b ≡ faults a → most b ≡ most a → Stays known current files gone faults most a b
  stays_opened {a = a} {b = b} k at left paths same more = record {
    kept = omega (arith, same);
    knows = λ was calm. k was;
    here = at;
    rest = left;
    left = paths;
    room = more;
  }

  -- it was given back
  pub stays_closed : {a b : S} → faults a ≤ faults b → (known a ≡ true → faults b ≡ faults a → known b ≡ true) → current b ≡ current a → files b ≡ files a → gone b ≡ gone a → most b ≡ most a → Stays known current files gone faults most a b
  stays_closed kept k at left paths more = record {
    kept = kept;
    knows = k;
    here = at;
    rest = left;
    left = paths;
    room = more;
  }
