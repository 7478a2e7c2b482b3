use Rattle.std.proofs.Common.{length}
use Rattle.flac_bits.specs.Layout.{bits, unary, align}
use Rattle.flac_bits.specs.Lists.{list_of}
use Rattle.flac_bits.specs.Rice.{rice_value}
use Rattle.flac_bits.specs.Signed.{signed_field}
use Rattle.flac_bits.proofs.Meaning.{means}
use Rattle.flac_bits.proofs.laws.fields_are_meant.Goals as goal

pub returns : goal.returns
returns c = record {
  numbers = λ n old new result. means (λ v. v) (bits n) old new result;
  signed_numbers = λ n old new result. means (λ v. v) (signed_field n) old new result;
  zeros = λ limit old new result. means (λ v. v) (unary limit) old new result;
  alignments = λ old new result. means (λ b. b) align old new result;
  bytes = λ out old new result. means (λ _. out) (list_of (length out) (bits 8)) old new result;
  rice_partitions = λ k values old new result. means (λ _. values) (list_of (length values) (rice_value k)) old new result;
  signed_partitions = λ n values old new result. means (λ _. values) (list_of (length values) (signed_field n)) old new result;
}
