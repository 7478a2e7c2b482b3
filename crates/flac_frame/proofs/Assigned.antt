-- Channel assignments by their codes.
use Rattle.std.proofs.Common.{◌≡◌, ℕ, ◌≤◌, false, nat_eq, nat_lt, refl, subst, arith}
use Rattle.std.proofs.lemmas.Bool.Decides.{nat_tests}
use Rattle.flac_header.specs.Assignment.{code_of, IsAssignment}
use Rattle.flac_header.specs.declared.channel_assignment.ChannelAssignment.{ChannelAssignment}
use Rattle.flac_header.specs.declared.channel_assignment.ChannelAssignment.TheVariants.{Independent}
use Rattle.flac_frame.specs.Frame.{side_bit}

-- independent channels have a code below 8
pub apart_code : (a : ChannelAssignment) (n : ℕ) → a ≡ Independent n → IsAssignment a → code_of a ≤ 7
apart_code a n is valid =
    let v : IsAssignment (Independent n) = subst IsAssignment is valid in
    rw is (omega (arith, v.1))

-- they have no side
pub no_bit : (code channel : ℕ) → code ≤ 7 → side_bit code channel ≡ 0
unfolding side_bit
no_bit code channel low =
    let nine : nat_eq code 9 ≡ false = grind (arith, nat_tests) in
    let many : nat_lt 7 code ≡ false = grind (arith, nat_tests) in
    rw (nine, many) refl
