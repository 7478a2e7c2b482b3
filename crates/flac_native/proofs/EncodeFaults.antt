-- Faults of encoding: which a result has, and that they differ.
use Rattle.std.proofs.Common.{◌≡◌, Result, Ok, Err}
use Rattle.flac_native.specs.declared.fault.EncodeFault.{EncodeFault}
use Rattle.flac_native.specs.declared.fault.EncodeFault.TheVariants as fault

abbrev pub done : {X : Type 0} → X → Result X EncodeFault
done x = Ok x

abbrev pub failed : {X : Type 0} → EncodeFault → Result X EncodeFault
failed e = Err e

pub same_fault : {X : Type 0} (e f : EncodeFault) → failed {X = X} e ≡ failed f → e ≡ f
same_fault e f is = cc

pub done_fails : {X : Type 0} (x : X) (e : EncodeFault) → done x ≡ failed e → ⊥
done_fails x e is = absurd cc

pub repeated_write : fault.RepeatedBlock ≡ fault.Write → ⊥
repeated_write e = absurd cc

pub repeated_mapping : fault.RepeatedBlock ≡ fault.BadMapping → ⊥
repeated_mapping e = absurd cc

pub mapping_write : fault.BadMapping ≡ fault.Write → ⊥
mapping_write e = absurd cc

pub mapping_repeated : fault.BadMapping ≡ fault.RepeatedBlock → ⊥
mapping_repeated e = absurd cc

pub memory_write : fault.Memory ≡ fault.Write → ⊥
memory_write e = absurd cc

pub memory_repeated : fault.Memory ≡ fault.RepeatedBlock → ⊥
memory_repeated e = absurd cc

pub memory_mapping : fault.Memory ≡ fault.BadMapping → ⊥
memory_mapping e = absurd cc

pub write_repeated : fault.Write ≡ fault.RepeatedBlock → ⊥
write_repeated e = absurd cc

pub write_mapping : fault.Write ≡ fault.BadMapping → ⊥
write_mapping e = absurd cc

pub write_spent : fault.Write ≡ fault.Spent → ⊥
write_spent e = absurd cc
