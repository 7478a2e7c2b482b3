-- Blocks of raw samples that are pushed to a draft, one after another.
use Rattle.std.proofs.Common.{◌≡◌, ◌≢◌, ◌≤◌, ◌<◌, ◌+◌, ◌-◌, ◌*◌, ◌/◌, ◌%◌, ◌^◌, ◌||◌, not, min, map, take, drop, ℕ, Bool, true, false, cond, nat_eq, nat_lt, nat_le, ℤ, List, [], ◌∷◌, ◌++◌, length, Some, None, refl, sym, ap, ◌∙◌, subst, arith, inl, inr}
use Rattle.std.specs.Prelude.{◌⊎◌, option_map}
use Rattle.std.specs.Option.{option_or}
use Rattle.std.proofs.lemmas.Bool.{cases_lt}
use Rattle.std.proofs.lemmas.Bool.Decides.{nat_tests}
use Rattle.std.proofs.lemmas.List.Elements.{All-from_get_or}
use Rattle.std.proofs.Math.Nat.{zero-div}
use Rattle.flac_bits.specs.State.{Rises}
use Rattle.flac_bits.specs.declared.source.Source as source
use Rattle.flac_bits.specs.declared.target.Target as target
use Rattle.flac_frame.specs.Audio.{samples_each, as_long, each_small, samples_fault}
use Rattle.flac_frame.specs.declared.setup.SetupFault.TheVariants.{SampleTooLarge}
use Rattle.flac_native.specs.Given.{blocks_in, size_of}
use Rattle.flac_native.specs.declared.fault.EncodeFault.{EncodeFault}
use Rattle.flac_native.specs.declared.fault.EncodeFault.TheVariants as encode
use Rattle.flac_native.proofs.Gathered.{still_some, all_gathered}
use Rattle.flac_encoder.specs.Pushing.{Shape, shape_fault, Pushed, block_fault, size_fault, push_fault, IsAfterBlock, Fails}
use Rattle.flac_encoder.proofs.Pushing.{accepted}
use Rattle.flac_draft.specs.Draft.{Draft, IsNextBlock}
use Rattle.flac_draft.specs.Table.{StaysStated}
use Rattle.flac_raw.specs.Raw.{raw_channels}
use Rattle.flac_raw.specs.Reading.{TakesRows}
use Rattle.flac_raw.specs.inner.Progress.{ReadTo, TakesBytes}
use Rattle.flac_raw.specs.inner.Pushed.{pushed_as, KeepsAsked, IsFresh, IsFor, AreFit, AreAllFit}
use Rattle.flac_raw.specs.Encoded.{IsOutside}
use Rattle.flac_raw.specs.declared.raw_fault.RawEncodeFault.{RawEncodeFault}
use Rattle.flac_raw.specs.declared.raw_fault.RawEncodeFault.TheVariants.{Changed}
use Rattle.flac_raw.proofs.Taken.{block_cut, block_fits, taken_each, channels_each, none_left, read_all, read_part}
use Rattle.flac_raw.proofs.Refused.{as_long_back}

-- ---- numbers of blocks

blocks_next : (b k n : ℕ) → 16 ≤ b → 0 < n → n ≤ b → k + 1 ≡ blocks_in b (b * k + n)
blocks_next b k n least some few =
    let lt : k < blocks_in b (b * k + n) = still_some b (b * k + n) k least (omega (arith, some)) in
    all_gathered b (b * k + n) (k + 1) least (omega (arith, lt)) (omega (arith, few))

pub blocks_none : (b : ℕ) → 16 ≤ b → 0 ≡ blocks_in b 0
blocks_none b least = all_gathered b 0 0 least (omega arith) (omega arith)

-- ---- the state of the encoder

-- so many samples were pushed since the draft was begun
pub record PushedTo {S : Type 0} (first now : Draft S) (size total pushed : ℕ) : Type 0 where
  pub asked : KeepsAsked first now
  pub samples : now.pushed.samples ≡ pushed
  pub most : pushed ≤ total
  pub number : now.pushed.number ≡ blocks_in size pushed
  pub full : now.pushed.ended ≡ false → pushed ≡ size * now.pushed.number

pub pushed_none : {S : Type 0} (d : Draft S) (size total : ℕ) → IsFresh d → 16 ≤ size → PushedTo d d size total 0
pushed_none d size total fresh least = record {
  asked = record { shape = refl; predictors = refl; search = refl; spent = refl; blocks = refl; stated = record { total = refl; every = refl } };
  samples = fresh.samples;
  most = omega arith;
  number = fresh.number ∙ blocks_none size least;
  full = λ e. let z : size * d.pushed.number ≡ size * 0 = ap (λ k. size * k) fresh.number in omega (arith, z);
}

whole_block : (n size : ℕ) → nat_lt n size ≡ false → n ≤ size → n ≡ size
whole_block n size e few = grind (arith, nat_tests)

pub pushed_more : {S : Type 0} (first was now : Draft S) (block : List (List ℤ)) (size total pushed n : ℕ) → PushedTo first was size total pushed → shape_fault first.pushed.shape ≡ None → first.pushed.shape.block_size ≡ size → 16 ≤ size
    → push_fault was.pushed block ≡ None → IsAfterBlock was.pushed block now.pushed → now.list ≡ was.list → StaysStated was.table now.table → samples_each block ≡ n → n ≤ total - pushed → PushedTo first now size total (pushed + n)
pushed_more {S = S} first was now block size total pushed n so shape fits least good next list stated each room =
    let same : was.pushed.shape ≡ first.pushed.shape = so.asked.shape in
    let ok = accepted was.pushed block (ap shape_fault same ∙ shape) good in
    let size_is : was.pushed.shape.block_size ≡ size = ap (λ (s : Shape). s.block_size) same ∙ fits in
    let at : pushed ≡ size * was.pushed.number = so.full ok.going in
    let some : 0 < n = omega (arith, ok.some, each) in
    let few : n ≤ size = omega (arith, ok.most, each, size_is) in
    let number : now.pushed.number ≡ was.pushed.number + 1 = ap (λ (p : Pushed S). p.number) next in
    record {
      asked = record {
        shape = ap (λ (p : Pushed S). p.shape) next ∙ same;
        predictors = ap (λ (p : Pushed S). p.predictors) next ∙ so.asked.predictors;
        search = ap (λ (p : Pushed S). p.search) next ∙ so.asked.search;
        spent = ap (λ (p : Pushed S). p.spent) next ∙ so.asked.spent;
        blocks = list ∙ so.asked.blocks;
        stated = record { total = stated.total ∙ so.asked.stated.total; every = stated.every ∙ so.asked.stated.every };
      };
      samples = ap (λ (p : Pushed S). p.samples) next ∙ omega (arith, so.samples, each);
      most = omega (arith, so.most, room);
      number = number ∙ blocks_next size was.pushed.number n least some few ∙ ap (λ k. blocks_in size (k + n)) (sym at);
      full = λ going.
          let ended : nat_lt (samples_each block) was.pushed.shape.block_size ≡ false = sym (ap (λ (p : Pushed S). p.ended) next) ∙ going in
          let all : n ≡ size = whole_block n size (ap (λ k. nat_lt k size) (sym each) ∙ ap (nat_lt (samples_each block)) (sym size_is) ∙ ended) few in
          filled pushed n size was.pushed.number now.pushed.number at all number;
    }
  where
    filled : (pushed n size k m : ℕ) → pushed ≡ size * k → n ≡ size → m ≡ k + 1 → pushed + n ≡ size * m
    filled pushed n size k m at all is = omega (arith, at, all, ap (λ x. size * x) is)

-- ---- why a block is refused

taken_long : (count width n : ℕ) (coming later : List ℕ) (channels : List (List ℤ)) → TakesBytes count width n coming later channels → 1 ≤ count → as_long channels ≡ true
taken_long count width n coming later channels took some =
    let each = taken_each count width n coming later channels took some in
    as_long_back (samples_each channels) channels
    (All-from_get_or (λ c. length c ≡ samples_each channels) channels [] (λ c lt. (took.are.each c (omega (arith, lt, took.are.many))).long ∙ sym each))

too_large : (small : Bool) → option_or (option_map encode.Setup (cond (not small) (Some SampleTooLarge) None)) None ≡ cond small None (Some (encode.Setup SampleTooLarge))
too_large true = refl
too_large false = refl

-- of a block that may come next, only that a sample does not fit
push_is : {S : Type 0} (e : Pushed S) (block : List (List ℤ)) → e.spent ≡ false → e.ended ≡ false → length block ≡ e.shape.channels → as_long block ≡ true → 0 < samples_each block → samples_each block ≤ e.shape.block_size
    → e.samples + samples_each block < 2 ^ 36 → e.number < 2 ^ 31 → push_fault e block ≡ cond (each_small e.shape.bits block) None (Some (encode.Setup SampleTooLarge))
unfolding push_fault block_fault size_fault samples_fault
push_is e block unspent going many long some few samples number =
    let a : nat_eq (length block) e.shape.channels ≡ true = same_count _ _ many in
    let b : (nat_le (2 ^ 36) (e.samples + samples_each block) || nat_le (2 ^ 31) e.number) ≡ false = room _ _ samples number in
    let c : (nat_eq (samples_each block) 0 || nat_lt e.shape.block_size (samples_each block)) ≡ false = sized _ _ some few in
    rw (unspent, a, long, b, c, going) (too_large (each_small e.shape.bits block))
  where
    same_count : (n m : ℕ) → n ≡ m → nat_eq n m ≡ true
    same_count n m e = grind (arith, nat_tests)

    room : (n m : ℕ) → n < 2 ^ 36 → m < 2 ^ 31 → (nat_le (2 ^ 36) n || nat_le (2 ^ 31) m) ≡ false
    room n m p q = grind (arith, nat_tests)

    sized : (n m : ℕ) → 0 < n → n ≤ m → (nat_eq n 0 || nat_lt m n) ≡ false
    sized n m p q = grind (arith, nat_tests)

small_or : (small : Bool) (f : EncodeFault) → cond small None (Some (encode.Setup SampleTooLarge)) ≡ Some f → (small ≡ false) × (f ≡ encode.Setup SampleTooLarge)
small_or true f e = absurd cc
small_or false f e = (refl, cc)

no_fit : (a : Bool) → a ≡ false → (a ≡ true → ⊥)
no_fit a e f = absurd cc

-- the block that follows those of a source that are pushed
module _ {S : Type 0} (first now : Draft S) (bits count width size total pushed n : ℕ) (all coming later : List ℕ) (channels : List (List ℤ))
    (so : PushedTo first now size total pushed) (read : ReadTo bits count width all coming pushed true) (took : TakesBytes count width n coming later channels) (is_for : IsFor first.pushed.shape count width size) where
  -- there are no more samples than are to come
  pub too_many : total - pushed < n → AreFit bits count width total all → ⊥
  too_many over fit =
      let cut = block_cut bits count width all coming later pushed n true channels read took is_for.some is_for.wide in
      absurd (omega (arith, over, fit.many, cut.within, so.most))

  -- it is the next one of all samples
  pub next_is : now.pushed.ended ≡ false → 0 < n → n ≤ size → (n < size → later ≡ []) → IsNextBlock now (raw_channels count width all) channels
  next_is going some few last =
      let samples = raw_channels count width all in
      let b = now.pushed.shape.block_size in
      let k = now.pushed.number in
      let cut = block_cut bits count width all coming later pushed n true channels read took is_for.some is_for.wide in
      let each = channels_each count width all is_for.some in
      let size_is : b ≡ size = ap (λ (s : Shape). s.block_size) so.asked.shape ∙ is_for.block in
      let at : pushed ≡ b * k = so.full going ∙ ap (λ x. x * k) (sym size_is) in
      let rest : n < size → length later / (count * width) ≡ 0 = λ lt. ap (λ l. length l / (count * width)) (last lt) ∙ zero-div (count * width) in
      let long : n ≡ size_of b (samples_each samples) k = sized b (samples_each samples) k n size pushed (length later / (count * width)) size_is at (each ∙ cut.within) few rest in
      record {
        some = omega (arith, at, each, cut.within, some);
        is = cut.is ∙ ap (λ x. map (λ c. take n (drop x c)) samples) at ∙ ap (λ x. map (λ c. take x (drop (b * k) c)) samples) long;
      }
    where
      sized : (b total k n size pushed m : ℕ) → b ≡ size → pushed ≡ b * k → total ≡ pushed + (n + m) → n ≤ size → (n < size → m ≡ 0) → n ≡ min b (total - b * k)
      sized b total k n size pushed m is at many few rest = elim (cases_lt n size) [
        | inl lt ↦ omega (arith, is, at, many, rest lt, lt)
        | inr le ↦ omega (arith, is, at, many, few, le)
      ]

  -- it is refused only if a sample does not fit
  module _ (fresh : first.pushed.spent ≡ false) (few_all : total < 2 ^ 36) (blocks : blocks_in size total ≤ 2 ^ 31) (depth : first.pushed.shape.bits ≡ bits) (going : now.pushed.ended ≡ false) (some : 0 < n) (few : n ≤ size) (room : n ≤ total - pushed) where
    fault_is : push_fault now.pushed channels ≡ cond (each_small bits channels) None (Some (encode.Setup SampleTooLarge))
    fault_is =
        let each = taken_each count width n coming later channels took is_for.some in
        let shape = so.asked.shape in
        let at : pushed ≡ size * now.pushed.number = so.full going in
        let number : now.pushed.number < blocks_in size total = still_some size total now.pushed.number is_for.least (omega (arith, at, some, room)) in
        let size_is : now.pushed.shape.block_size ≡ size = ap (λ (s : Shape). s.block_size) shape ∙ is_for.block in
        push_is now.pushed channels (so.asked.spent ∙ fresh) going (took.are.many ∙ sym (ap (λ (s : Shape). s.channels) shape ∙ is_for.many)) (taken_long count width n coming later channels took is_for.some)
        (omega (arith, each, some)) (omega (arith, each, few, size_is)) (omega (arith, so.samples, each, room, so.most, few_all)) (omega (arith, number, blocks))
        ∙ ap (λ d. cond (each_small d channels) None (Some (encode.Setup SampleTooLarge))) (ap (λ (s : Shape). s.bits) shape ∙ depth)

    pub refused_is : (f : EncodeFault) (e : RawEncodeFault) → push_fault now.pushed channels ≡ Some f → e ≡ pushed_as f → (e ≡ Changed) × (AreFit bits count width total all → ⊥)
    refused_is f e fault is =
        let bad = small_or (each_small bits channels) f (sym fault_is ∙ fault) in
        (is ∙ ap pushed_as bad.1, λ fit. no_fit (each_small bits channels) bad.0 (block_fits bits count width all coming later pushed n true channels read took is_for.some is_for.wide fit.fit))

    -- if it is not refused, all fit
    pub fit_is : push_fault now.pushed channels ≡ None → each_small bits channels ≡ true
    fit_is good = none_if (each_small bits channels) (sym fault_is ∙ good)
      where
        none_if : (small : Bool) → cond small None (Some (encode.Setup SampleTooLarge)) ≡ None → small ≡ true
        none_if true e = refl
        none_if false e = absurd cc

-- ---- what comes of a source

pub rows_each : {S : Type 0} (g : source.Ghosts S) (count width n : ℕ) (old new : S) (channels : List (List ℤ)) → TakesRows g count width n old new channels → 1 ≤ count → samples_each channels ≡ n
rows_each g count width n old new channels took some = (took.are.each 0 (omega (arith, some))).long

no_items : (xs : List ℕ) → length xs ≡ 0 → xs ≡ []
no_items [] e = refl
no_items (x ∷ xs) e = absurd (omega (arith, e))

-- where nothing came, nothing was to come
pub nothing_came : (count width n : ℕ) (coming later : List ℕ) (channels : List (List ℤ)) → TakesBytes count width n coming later channels → n ≡ 0 → later ≡ [] → coming ≡ []
nothing_came count width n coming later channels took none end =
    let long : length took.piece ≡ 0 = took.long ∙ ap (λ k. k * (count * width)) none ∙ omega arith in
    took.is ∙ ap (λ l. l ++ later) (no_items took.piece long) ∙ end

-- the encoder still takes blocks, if one comes
pub still_going : (ended : Bool) (count width n : ℕ) (coming later : List ℕ) (channels : List (List ℤ)) → TakesBytes count width n coming later channels → 1 ≤ count → 1 ≤ width → (ended ≡ true → coming ≡ []) → 0 < n → ended ≡ false
still_going false count width n coming later channels took some wide last more = refl
still_going true count width n coming later channels took some wide last more = let none = none_left count width n coming later channels took (last refl) some wide in absurd (omega (arith, none, more))

-- the last block is shorter, or there is another
pub last_block : {S : Type 0} (was now : Pushed S) (block : List (List ℤ)) (size n : ℕ) (later : List ℕ) → IsAfterBlock was block now → was.shape.block_size ≡ size → samples_each block ≡ n → (n < size → later ≡ []) → now.ended ≡ true → later ≡ []
last_block {S = S} was now block size n later next size_is each end ended =
    let lt : nat_lt n size ≡ true = ap (λ k. nat_lt k size) (sym each) ∙ ap (nat_lt (samples_each block)) (sym size_is) ∙ sym (ap (λ (p : Pushed S). p.ended) next) ∙ ended in
    end (below n size lt)
  where
    below : (a b : ℕ) → nat_lt a b ≡ true → a < b
    below a b e = grind (arith, nat_tests)

-- all was read
pub all_fit : (bits count width total pushed : ℕ) (all coming : List ℕ) → ReadTo bits count width all coming pushed true → coming ≡ [] → 1 ≤ count → 1 ≤ width → total ≡ pushed → AreAllFit bits count width total all
all_fit bits count width total pushed all coming so end some wide is =
    let read = read_all bits count width all coming pushed true so end some wide in
    record { fit = record { whole = read.whole; many = is ∙ read.rows_are; fit = sym read.fit }; are = read.are }

-- there are fewer samples
pub too_few : (bits count width total pushed : ℕ) (all coming : List ℕ) → ReadTo bits count width all coming pushed true → coming ≡ [] → 1 ≤ count → 1 ≤ width → pushed < total → AreFit bits count width total all → ⊥
too_few bits count width total pushed all coming so end some wide few fit =
    let read = read_all bits count width all coming pushed true so end some wide in
    absurd (omega (arith, few, fit.many, read.rows_are))

-- what is left is not whole
pub part_left : (bits was count wide width total pushed : ℕ) (all coming : List ℕ) (e : RawEncodeFault) → was ≡ count → wide ≡ width → ReadTo bits count width all coming pushed true → IsOutside e ⊎ ((e ≡ Changed) × (length coming % (was * wide) ≢ 0))
    → IsOutside e ⊎ ((e ≡ Changed) × (AreFit bits count width total all → ⊥))
part_left bits was count wide width total pushed all coming e many same so (inl outside) = inl outside
part_left bits was count wide width total pushed all coming e many same so (inr part) =
    let row : was * wide ≡ count * width = ap (λ n. n * wide) many ∙ ap (λ n. count * n) same in
    inr (part.0, λ fit. read_part bits count width all coming pushed true so (λ none. part.1 (ap (λ n. length coming % n) row ∙ none)) fit.whole)

-- a target that failed now had not before
pub fails_since : {S : Type 0} (g : target.Ghosts S) (old now left : S) → (g.known old ≡ true → g.known now ≡ true) → g.errors now ≡ g.errors old → g.names now ≡ g.names old → Fails g now left → Fails g old left
fails_since g old now left known counted names f = record {
  failed = λ told. subst (λ n. n < g.errors left) counted (f.failed (known told));
  risen = subst (λ n. Rises n (g.errors left)) counted f.risen;
  names = f.names ∙ names;
}
