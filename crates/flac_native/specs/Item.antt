-- The items that a decoder returns: blocks and frames, not the marker.
use Rattle.flac_bits.specs.declared.why.Why.{Why}
use Rattle.flac_meta.specs.declared.block.Block.{Block}
use Rattle.flac_frame.specs.Frame.{Frame}
use Rattle.flac_native.specs.declared.fault.Place.{Place}
use Rattle.flac_native.specs.declared.fault.Fault.{Fault}

pub data Item : Type 0 where
  metadata : Block → Item
  frame : Frame → Item

-- the place and the reason of an error
abbrev pub fault_pair : Fault → Place × Why
fault_pair f = (f.at, f.why)
