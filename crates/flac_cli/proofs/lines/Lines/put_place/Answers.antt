use Rattle.std.proofs.Common.{◌≡◌, ◌∙◌, ℕ, List, ◌++◌, codes, decimal, ap, sym}
use Rattle.std.proofs.lemmas.Result.{err_from_is_err_and}
use Rattle.flac_native.specs.declared.fault.Place.{Place}
use Rattle.flac_native.specs.declared.fault.Place.TheVariants as place
use Rattle.flac_native.specs.Places.{kind_name, place_text}
use Rattle.flac_cli.proofs.Lined.{adds_then, adds_same, lost, adds_lost}
use Rattle.flac_cli.proofs.lines.Lines.put_place.Goals as goal

block_text : (text : List ℕ) (p : Place) (index : ℕ) → p ≡ place.Block index → text ≡ kind_name p → text ++ (codes " " ++ decimal index) ≡ place_text p
block_text text p index is named = ap (λ l. l ++ (codes " " ++ decimal index)) (named ∙ ap kind_name is) ∙ ap place_text (sym is)

frame_text : (text : List ℕ) (p : Place) (index : ℕ) → p ≡ place.Frame index → text ≡ kind_name p → text ++ (codes " " ++ decimal index) ≡ place_text p
frame_text text p index is named = ap (λ l. l ++ (codes " " ++ decimal index)) (named ∙ ap kind_name is) ∙ ap place_text (sym is)

page_text : (text : List ℕ) (p : Place) (index : ℕ) → p ≡ place.Page index → text ≡ kind_name p → text ++ (codes " " ++ decimal index) ≡ place_text p
page_text text p index is named = ap (λ l. l ++ (codes " " ++ decimal index)) (named ∙ ap kind_name is) ∙ ap place_text (sym is)

marker_text : (text : List ℕ) (p : Place) → p ≡ place.Marker → text ≡ kind_name p → text ≡ place_text p
marker_text text p is named = named ∙ ap kind_name is ∙ ap place_text (sym is)

end_text : (text : List ℕ) (p : Place) → p ≡ place.End → text ≡ kind_name p → text ≡ place_text p
end_text text p is named = named ∙ ap kind_name is ∙ ap place_text (sym is)

pub returns-in_err-put : goal.returns-in_err-put
returns-in_err-put g c =
    let p = err_from_is_err_and c.from_residual.result c.from_residual.ensures.1 in
    rw p.1 (adds_lost g.W.Target (lost g.W.Target c.in_err-put.ensures))

pub returns-in-Block : goal.returns-in-Block
returns-in-Block g c = adds_same g.W.Target _ (adds_then g.W.Target _ c.in_ok-put.ensures c.put_counted.ensures) (block_text _ c.args.place c.in-Block.index c.in-Block.is c.kind_name.ensures)

pub returns-in-Frame : goal.returns-in-Frame
returns-in-Frame g c = adds_same g.W.Target _ (adds_then g.W.Target _ c.in_ok-put.ensures c.put_counted-in-Frame.ensures) (frame_text _ c.args.place c.in-Frame.index c.in-Frame.is c.kind_name.ensures)

pub returns-in-Page : goal.returns-in-Page
returns-in-Page g c = adds_same g.W.Target _ (adds_then g.W.Target _ c.in_ok-put.ensures c.put_counted-in-Page.ensures) (page_text _ c.args.place c.in-Page.index c.in-Page.is c.kind_name.ensures)

pub returns-in-Marker : goal.returns-in-Marker
returns-in-Marker g c = adds_same g.W.Target _ c.in_ok-put.ensures (marker_text _ c.args.place c.in-Marker.is c.kind_name.ensures)

pub returns-in-End : goal.returns-in-End
returns-in-End g c = adds_same g.W.Target _ c.in_ok-put.ensures (end_text _ c.args.place c.in-End.is c.kind_name.ensures)
