-- A device of which no contract knows anything.
use Rattle.std.specs.Prelude.{◌≡◌, true, false}
use Rattle.flac_edit.specs.Device.{Timeline}

abbrev pub nothing_known : Timeline
nothing_known = record { moment = 0; may_leave = λ c. Unit {0}; left_since = λ t c. Unit {0} }

pub not_known : {A : Type 0} → false ≡ true → A
not_known e = absurd cc
