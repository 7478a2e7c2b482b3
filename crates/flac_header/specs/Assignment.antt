-- How a frame stores its channels (RFC 9639, section 9.1.3).
use Rattle.std.specs.Prelude.{ℕ, ◌-◌, ◌≤◌, cond, nat_eq, nat_lt, ⊤}
use Rattle.flac_header.specs.Header.{channels_of}
use Rattle.flac_header.specs.declared.channel_assignment.ChannelAssignment.{ChannelAssignment}
use Rattle.flac_header.specs.declared.channel_assignment.ChannelAssignment.TheVariants.{Independent, LeftSide, SideRight, MidSide}

-- the channel assignment of a code
abbrev pub assignment_of : ℕ → ChannelAssignment
assignment_of code = cond (nat_lt code 8) (Independent (channels_of code)) (cond (nat_eq code 8) LeftSide (cond (nat_eq code 9) SideRight MidSide))

-- the code of an assignment: n independent channels have n - 1
abbrev pub code_of : ChannelAssignment → ℕ
code_of (Independent n) = n - 1
code_of LeftSide = 8
code_of SideRight = 9
code_of MidSide = 10

-- there are 1 to 8 independent channels
abbrev pub IsAssignment : ChannelAssignment → Type 0
IsAssignment (Independent n) = (1 ≤ n) × (n ≤ 8)
IsAssignment LeftSide = ⊤
IsAssignment SideRight = ⊤
IsAssignment MidSide = ⊤
