-- The texts that are printed of places and faults.
use Rattle.std.specs.Prelude.{ℕ, List, ◌++◌, Option, Some, None, codes, decimal}
use Rattle.flac_bits.specs.Reasons as reasons
use Rattle.flac_native.specs.declared.fault.Place.{Place}
use Rattle.flac_native.specs.declared.fault.Place.TheVariants as place
use Rattle.flac_native.specs.declared.fault.Fault.{Fault}
use Rattle.flac_native.specs.declared.retagging.RetagFault.{RetagFault}

-- the word for what is at the place
abbrev pub kind_name : Place → List ℕ
kind_name place.Marker = codes "marker"
kind_name (place.Block index) = codes "block"
kind_name (place.Frame index) = codes "frame"
kind_name (place.Page index) = codes "page"
kind_name place.End = codes "end"

-- this word, and the index in decimal digits, if the place has one
abbrev pub place_text : Place → List ℕ
place_text place.Marker = kind_name place.Marker
place_text (place.Block index) = kind_name (place.Block index) ++ (codes " " ++ decimal index)
place_text (place.Frame index) = kind_name (place.Frame index) ++ (codes " " ++ decimal index)
place_text (place.Page index) = kind_name (place.Page index) ++ (codes " " ++ decimal index)
place_text place.End = kind_name place.End

-- the place, and the number and the name of the reason
abbrev pub fault_text : Fault → List ℕ
fault_text fault = place_text fault.at ++ (codes ": " ++ reasons.text_of fault.why)

-- the reason, after the place if there is one
abbrev pub after_place : Option Place → List ℕ → List ℕ
after_place None reason = reason
after_place (Some at) reason = place_text at ++ (codes ": " ++ reason)

abbrev pub retag_text : RetagFault → List ℕ
retag_text fault = after_place fault.at (reasons.text_of fault.why)
