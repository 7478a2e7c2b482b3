-- What an answer of a decoding says.
use Rattle.std.proofs.Common.{Bool, false, List, ◌∷◌, get_or, ◌≡◌, ◌≢◌, ◌⊎◌, ℕ, nat_lt, true, None, Ok, Err, OnOk, OnErr, IfErr, Result, refl, ap, subst, arith, inl, inr}
use Rattle.std.specs.Result.{is_err}
use Rattle.flac_native.specs.Item.{fault_pair}
use Rattle.flac_native.specs.declared.fault.Fault.{Fault}
use Rattle.flac_native.specs.Numbers.{fault_number}
use Rattle.flac_native.specs.declared.fault.EncodeFault.{EncodeFault}
use Rattle.flac_native.specs.declared.fault.EncodeFault.TheVariants.{Memory, RepeatedBlock, BlockSize, BadMapping, Spent, Write, Setup}
use Rattle.flac_bits.specs.Handing.{outcome_of}
use Rattle.flac_bits.specs.Bits.{bits_of, bit_value}
use Rattle.flac_meta.specs.declared.block.Block.{Block}
use Rattle.flac_header.specs.declared.subset.Profile.{Profile}
use Rattle.flac_frame.specs.Audio.{Sound}
use Rattle.flac_frame.specs.declared.setup.SetupFault.{SetupFault}
use Rattle.flac_subframe.specs.declared.format.linear.LinearPredictor.{LinearPredictor}
use Rattle.flac_native.specs.Given.{Cut}
use Rattle.flac_bits.specs.State.{After, short_of}
use Rattle.flac_native.specs.Stream.{Piece}
use Rattle.flac_native.specs.Decoding.{beginning}
use Rattle.flac_ogg.specs.Either.{read_either}
use Rattle.flac_cli.specs.Asked.{Asked}
use Rattle.flac_cli.specs.Encoded.{comment_list, cut_as, BeginsIn, BeginsRaw}
use Rattle.flac_cli.specs.Predictors.{AreListed}
use Rattle.flac_raw.specs.Raw.{IsRaw}
use Rattle.flac_cli.specs.Streams.{IsStream}
use Rattle.flac_cli.specs.inner.Searching.{IsSearched}
use Rattle.flac_cli.proofs.Searched.{cut_is, are_found}

-- What holds where nothing was refused holds at Ok.
pub at_ok : {A X : Type 0} (r : Result A Fault) → (outcome_of fault_pair r ≡ None → X) → OnOk r X
at_ok (Ok a) h = h refl
at_ok (Err e) h = tt

-- A count that stands at 0 can rise.
pub counts_on : (n : ℕ) → n ≡ 0 → nat_lt n 18446744073709551615 ≡ true
counts_on n is = rw is refl

-- of lists that are the same, the first number, and the second
pub same_first : (a b k l : ℕ) (xs ys : List ℕ) → a ∷ (b ∷ xs) ≡ k ∷ (l ∷ ys) → a ≡ k
same_first a b k l xs ys e = ap (λ zs. get_or zs 0 0) e

pub same_second : (a b k l : ℕ) (xs ys : List ℕ) → a ∷ (b ∷ xs) ≡ k ∷ (l ∷ ys) → b ≡ l
same_second a b k l xs ys e = ap (λ zs. get_or zs 1 0) e

-- What holds at Ok is told of another thing.
pub then_ok : {A E X Y : Type 0} (r : Result A E) → OnOk r X → (X → Y) → OnOk r Y
then_ok (Ok a) x f = f x
then_ok (Err e) x f = tt

-- What holds holds at Ok.
pub any_ok : {A E X : Type 0} (r : Result A E) → X → OnOk r X
any_ok (Ok a) x = x
any_ok (Err e) x = tt

-- What holds at Ok holds where there is no error.
pub at_no_err : {A E X : Type 0} (r : Result A E) → is_err r ≡ false → OnOk r X → X
at_no_err (Ok a) e x = x
at_no_err (Err f) e x = let n : 1 ≡ 0 = ap bit_value e in absurd (omega (arith, n))

no_write : (f : SetupFault) → Setup f ≡ Write → ⊥
no_write f e = absurd cc

-- A call that failed in writing has begun; one that failed otherwise has changed nothing.
pub same_or_begun : {A T : Type 0} (X known : Type 0) (r : Result A EncodeFault) (old new : T)
    → IfErr r (λ e. e ≡ Write → known → X) → IfErr r (λ e. e ≢ Write → new ≡ old) → OnErr r (known → (new ≡ old) ⊎ X)
same_or_begun X known (Ok a) old new begun same = tt
same_or_begun X known (Err Write) old new begun same = λ k. inr (begun refl k)
same_or_begun X known (Err Memory) old new begun same = λ k. inl (same (λ e. let n : 2 ≡ 39 = ap fault_number e in absurd (omega (arith, n))))
same_or_begun X known (Err RepeatedBlock) old new begun same = λ k. inl (same (λ e. let n : 9 ≡ 39 = ap fault_number e in absurd (omega (arith, n))))
same_or_begun X known (Err BadMapping) old new begun same = λ k. inl (same (λ e. let n : 37 ≡ 39 = ap fault_number e in absurd (omega (arith, n))))
same_or_begun X known (Err BlockSize) old new begun same = λ k. inl (same (λ e. let n : 19 ≡ 39 = ap fault_number e in absurd (omega (arith, n))))
same_or_begun X known (Err Spent) old new begun same = λ k. inl (same (λ e. let n : 38 ≡ 39 = ap fault_number e in absurd (omega (arith, n))))
same_or_begun X known (Err (Setup f)) old new begun same = λ k. inl (same (λ e. absurd (no_write f e)))

-- What a call that writes a stream has begun, it has begun of the samples that these bytes are.
pub begun_raw : {X : Type 0} (asked : Asked) (ps : List LinearPredictor) (bytes : List ℕ) (p q : Cut) (l : List Block) (a : Sound) (before after : List Bool)
    → IsRaw asked.profile asked.format bytes a → AreListed asked.list ps → p ≡ cut_as asked a ps → IsSearched asked.effort p q → l ≡ comment_list asked.words → (X → after ≡ before)
    → X ⊎ BeginsIn asked.container q l a before after → (after ≡ before) ⊎ BeginsRaw asked bytes before after
begun_raw asked ps bytes p q l a before after raw listed plan tried list same (inl x) = inl (same x)
begun_raw asked ps bytes p q l a before after raw listed plan tried list same (inr b) = inr (record {
  audio = a;
  predictors = ps;
  raw = raw;
  listed = listed;
  found = tried.found;
  sought = are_found asked a ps p q plan tried;
  begins = subst (λ k. BeginsIn asked.container k (comment_list asked.words) a before after) (cut_is asked a ps p q plan tried) (subst (λ k. BeginsIn asked.container q k a before after) list b);
})

-- What is read in either container is a stream.
pub is_stream : (profile : Profile) (is_ogg : Bool) (parts : List Piece) (bytes : List ℕ) (after : After) → (read_either profile is_ogg (beginning (short_of after.fails)) (bits_of bytes)).whole parts → IsStream profile parts bytes after
is_stream profile true parts bytes after stream = inr stream
is_stream profile false parts bytes after stream = inl stream
