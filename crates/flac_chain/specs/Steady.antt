-- A sink whose errors do not hide: taking an item leaves its count of errors, and what is known of it.
use Rattle.std.specs.Prelude.{◌≡◌, true}
use Rattle.flac_native.specs.Item.{Item}
use Rattle.flac_native.specs.declared.decoding.Sink as sink

abbrev pub IsSteady : {K : Type 0} → sink.Ghosts K → Type 0
IsSteady {K} k = (old : K) (x : Item) (new : K) → k.takes old x new → (k.known old ≡ true → k.known new ≡ true) × (k.errors new ≡ k.errors old)
