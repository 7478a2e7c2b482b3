use Rattle.std.proofs.Common.{◌≡◌, true, List, Option}
use Rattle.flac_bits.specs.Handing.{TakesAll}
use Rattle.flac_bits.specs.Items.{state_after}
use Rattle.flac_bits.specs.State.{without_fence}
use Rattle.flac_bits.specs.declared.why.Why.{Why}
use Rattle.flac_native.specs.Stream.{Piece, Progress, grammar}
use Rattle.flac_native.specs.Track.{IsAt, stand_of}
use Rattle.flac_native.specs.Giving.{Gave}
use Rattle.flac_native.specs.Decoding.{taken}
use Rattle.flac_native.specs.declared.fault.Place.{Place}
use Rattle.flac_native.proofs.Handed.{Far}
use Rattle.flac_native.proofs.decoding.decode_into.Given as goal

abbrev pub invariant-loop-part : goal.invariant-loop-part
invariant-loop-part g l = record {
  stands : g.C.Container.stands l.container (stand_of l.track) ≡ true;
  reached : (p : Progress) → IsAt l.initial.track p → (q : Progress) × IsAt l.track q
      × (g.S.Sink.known l.initial.sink ≡ true → (parts : List Piece) × TakesAll (taken g.S.Sink.takes) l.initial.sink parts l.sink × (q ≡ state_after grammar p parts));
  knows : g.C.Container.known l.initial.container ≡ true → g.C.Container.known l.container ≡ true;
  errors : g.C.Container.errors l.container ≡ g.C.Container.errors l.initial.container;
  raised : g.C.Container.raised l.container ≡ g.C.Container.raised l.initial.container;
  met : g.C.Container.met l.container ≡ g.C.Container.met l.initial.container;
  container_names : g.C.Container.names l.container ≡ g.C.Container.names l.initial.container;
  names : g.S.Sink.names l.sink ≡ g.S.Sink.names l.initial.sink;
  received : g.S.Sink.errors l.sink ≡ g.S.Sink.errors l.initial.sink;
  known : g.S.Sink.known l.initial.sink ≡ true → g.S.Sink.known l.sink ≡ true;
  clear : g.C.Container.known l.initial.container ≡ true → g.C.Container.clear l.initial.container l.initial.track → g.C.Container.clear l.container l.track;
  after : g.C.Container.known l.initial.container ≡ true → without_fence (g.C.Container.after l.container) ≡ without_fence (g.C.Container.after l.initial.container);
  far : (p : Progress) → IsAt l.initial.track p → g.C.Container.known l.initial.container ≡ true → g.S.Sink.known l.initial.sink ≡ true → (parts : List Piece) (end : Option (Place × Why)) → g.C.Container.gives l.initial.container p parts end
      → Far (g.C.Container.gives l.container) (λ xs. Gave g.C.Container l.initial.container xs l.container) (taken g.S.Sink.takes) g.S.Sink.errors p parts end l.track l.initial.sink l.sink;
}

abbrev pub decreases-loop-part : goal.decreases-loop-part
decreases-loop-part g l = g.C.Container.most l.container
