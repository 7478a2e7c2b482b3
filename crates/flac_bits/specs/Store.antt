-- What a reader holds of the bytes that were pulled.
use Rattle.std.specs.Prelude.{ℕ, zero, suc, ◌-◌, ◌*◌, Bool, true, false, nat_eq, nat_le, List, ◌++◌, length, take, drop, ◌+◌, [], Option, Some, None}
use Rattle.std.specs.Borrow.{GName}
use Rattle.flac_bits.specs.Bits.{bits_of}
use Rattle.flac_bits.specs.State.{Mark, State, After, with_short, short_of}
use Rattle.flac_bits.specs.declared.why.Why.{Why}
use Rattle.flac_bits.specs.declared.why.Why.TheVariants.{FrameTooLong}

-- a fence: how many bytes may still be pulled and read (no number: there is no fence), and the bytes past it that were
-- pulled
pub record Fence : Type 0 where
  pub room : Option ℕ
  pub hidden : List ℕ

-- the bits of the word, the bytes after it, the mark before it, and the fence
pub record Store : Type 0 where
  pub word : List Bool
  pub bytes : List ℕ
  pub mark : Mark
  pub fence : Fence

-- the bits of these bytes but those that are still in the word
abbrev pub passed : List ℕ → List Bool → List Bool
passed begun word = take (8 * length begun - length word) (bits_of begun)

-- ---- with a fence, of bytes that are still to come

-- those before it
abbrev pub allowed : Option ℕ → List ℕ → List ℕ
allowed None coming = coming
allowed (Some n) coming = take n coming

-- those past it
abbrev pub forbidden : Option ℕ → List ℕ → List ℕ
forbidden None coming = []
forbidden (Some n) coming = drop n coming

-- whether they come up to it
abbrev pub reached : Option ℕ → List ℕ → Bool
reached None coming = false
reached (Some n) coming = nat_le n (length coming)

-- no byte that was pulled is past it, unless no more may be pulled
abbrev pub hides_late : Option ℕ → ℕ → ℕ → Bool
hides_late None end filled = nat_eq end filled
hides_late (Some zero) end filled = true
hides_late (Some (suc n)) end filled = nat_eq end filled

-- ---- the state of a store and of the source that fills it

abbrev pub left_of : Store → List ℕ → List Bool
left_of s coming = (s.word ++ bits_of s.bytes) ++ bits_of (allowed s.fence.room coming)

abbrev pub fenced_of : Store → List ℕ → List Bool
fenced_of s coming = bits_of (s.fence.hidden ++ forbidden s.fence.room coming)

abbrev pub reason_of : Bool → After → Why
reason_of true after = FrameTooLong
reason_of false after = short_of after.fails

-- how many bits it has, those past the fence too
abbrev pub most_of : Store → ℕ
most_of s = length (s.word ++ bits_of s.bytes) + 8 * length s.fence.hidden

abbrev pub state_of : Bool → ℕ → ℕ → ℕ → After → List GName → List ℕ → Store → State
state_of known errors raised most after names coming s = record {
  known = known;
  errors = errors;
  raised = raised;
  after = record after { fenced = fenced_of s coming };
  most = 8 * most + most_of s;
  held = most_of s;
  names = names;
  cursor = record { left = left_of s coming; mark = with_short (reason_of (reached s.fence.room coming) after) s.mark };
}
