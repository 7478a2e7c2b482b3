-- What calls did to their source and their targets, as clauses say it. `g` and `h` are those of the source's and the
-- target's type.
use Rattle.std.specs.Prelude.{◌≡◌, ℕ, Bool, true, List, ◌++◌, Result, OnOk}
use denote.MutBor.{MutBor}
use denote.Triple.Both.{Both}
use Rattle.flac_bits.specs.Bits.{bits_of}
use Rattle.flac_bits.specs.State.{After}
use Rattle.flac_bits.specs.declared.source.Source as source
use Rattle.flac_bits.specs.declared.target.Target as target
use Rattle.flac_cli.specs.Reports.{Serves}
use Rattle.flac_cli.specs.Streams.{Tells}

-- If the bytes of the source and of the target are known, this holds of the bytes that the source had to give, and of
-- the bits that the target had got before the call and has got after it.
abbrev pub HasWritten : {S T : Type 0} (g : source.Ghosts S) (h : target.Ghosts T) (from : S) (old new : T) → (List ℕ → (before after : List Bool) → Type 0) → Type 0
HasWritten g h from old new Says = g.known from ≡ true → h.known old ≡ true → Says (g.coming from) (bits_of (h.sent old)) (bits_of (h.sent new))

-- If the bytes of the target are known, and it returned no error in the call, this holds of the bytes that it had got
-- before the call, and has got after it.
abbrev pub IfServed : {T : Type 0} (h : target.Ghosts T) (old new : T) → ((before after : List ℕ) → Type 0) → Type 0
IfServed h old new Says = h.known old ≡ true → h.errors new ≡ h.errors old → Says (h.sent old) (h.sent new)

-- If the call returned Ok, and the bytes of the target are known, it has sent exactly this text.
abbrev pub HasSent : {T X E : Type 0} (h : target.Ghosts T) (old new : T) (text : List ℕ) → Result X E → Type 0
HasSent h old new text result = OnOk result (h.known old ≡ true → h.sent new ≡ h.sent old ++ text)

-- If the bytes of the source are known, this holds of those that it had to give.
abbrev pub IfKnown : {S : Type 0} (g : source.Ghosts S) (from : S) → (List ℕ → Type 0) → Type 0
IfKnown g from Says = g.known from ≡ true → Says (g.coming from)

-- The same if it also returned no error in the call, foretold or not.
abbrev pub IfRead : {S : Type 0} (g : source.Ghosts S) (old new : S) → (List ℕ → Type 0) → Type 0
IfRead g old new Says = g.known old ≡ true → g.raised new ≡ g.raised old → Says (g.coming old)

-- ---- devices that a call was passed

-- What a device that a call was passed by a `&mut` is, as the call begins and as it returns. A clause says it by the
-- parameter's name alone: `err` is `err.old` and `err.new`.
abbrev pub Passed : Type 0 → Type 0
Passed T = Both (MutBor T) (MutBor T)

abbrev pub old_of : {T : Type 0} → Passed T → T
old_of x = x.entry.now

abbrev pub new_of : {T : Type 0} → Passed T → T
new_of x = x.exit.now

-- the source did not fail, and its bytes are known
abbrev pub HasTold : {S : Type 0} (g : source.Ghosts S) → Passed S → Type 0
HasTold g source = Tells g (old_of source) (new_of source)

-- the same of a target
abbrev pub HasServed : {T : Type 0} (h : target.Ghosts T) → Passed T → Type 0
HasServed h target = Serves h (old_of target) (new_of target)

-- If neither the source nor standard error failed, this holds of the bytes that the source had to give, of what comes
-- after them, and of the bytes that standard error had got before the call, and has got after it. `k` is that of the
-- type of standard error.
abbrev pub IfBothServe : {S E : Type 0} (g : source.Ghosts S) (k : target.Ghosts E) → Passed S → Passed E → (List ℕ → After → (before after : List ℕ) → Type 0) → Type 0
IfBothServe g k source err Says = HasTold g source → HasServed k err → Says (g.coming (old_of source)) (g.after (old_of source)) (k.sent (old_of err)) (k.sent (new_of err))

-- The same if the target did not fail, either.
abbrev pub IfAllServe : {S T E : Type 0} (g : source.Ghosts S) (h : target.Ghosts T) (k : target.Ghosts E) → Passed S → Passed T → Passed E → (List ℕ → After → (before after : List ℕ) → Type 0) → Type 0
IfAllServe g h k source target err Says =
    HasTold g source → HasServed h target → HasServed k err → Says (g.coming (old_of source)) (g.after (old_of source)) (k.sent (old_of err)) (k.sent (new_of err))

-- ---- standard output and standard error

-- If neither standard output nor standard error failed, this holds of the bytes that each had got before the call, and
-- has got after it.
abbrev pub IfPrinted : {O E : Type 0} (h : target.Ghosts O) (k : target.Ghosts E) (old new : O) (before after : E) → ((out printed err told : List ℕ) → Type 0) → Type 0
IfPrinted h k old new before after Says = Serves h old new → Serves k before after → Says (h.sent old) (h.sent new) (k.sent before) (k.sent after)
