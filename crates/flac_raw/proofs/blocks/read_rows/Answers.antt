use Rattle.std.proofs.Common.{◌≡◌, ◌<◌, ◌*◌, ◌/◌, ◌∙◌, refl, List, ℤ, Vec, Global, length, map, take, arith, inr}
use Rattle.std.proofs.lemmas.List.{length-map, length-take-le}
use Rattle.flac_raw.proofs.Rows.{not_full, whole_rows}
use Rattle.flac_raw.proofs.Taken.{not_whole, first_rows}
use Rattle.flac_raw.proofs.blocks.read_rows.Goals as goal

pub returns-then-count-row-ne0-clause-refused : goal.returns-then-count-row-ne0-clause-refused
returns-then-count-row-ne0-clause-refused g c = λ known same.
    let count = c.in_ok-count.count in
    let row = length c.args.lists.now * c.args.width in
    let e = c.in_ok-count.ensures in
    let lt : count < c.args.size * row = not_full count row c.args.size (omega (arith, e.few, c.requires.room)) c.if-count-row-ne0.true in
    let long : length (take count c.fill.new.places) ≡ count = length-take-le count c.fill.new.places (omega (arith, c.fill.auto.places, e.few)) in
    inr (refl, not_whole (g.R.Source.coming c.args.source.now) (take count c.fill.new.places) (g.R.Source.coming c.fill.new.source) count row (e.bytes known) (e.end (omega (arith, lt, c.requires.room)) known) long c.if-count-row-ne0.true)

pub returns-clause-rows : goal.returns-clause-rows
returns-clause-rows g c =
    let count = c.in_ok-count.count in
    let lists = length c.args.lists.now in
    let row = lists * c.args.width in
    let items : Vec ℤ Global → List ℤ = λ v. v.items in
    let e = c.in_ok-count.ensures in
    let long : length (take count c.fill.new.places) ≡ count = length-take-le count c.fill.new.places (omega (arith, c.fill.auto.places, e.few)) in
    record {
      piece = take count c.fill.new.places;
      gave = e.bytes;
      long = long ∙ whole_rows count row c.if-count-row-ne0.false;
      are = first_rows lists (length c.clear_lists.new.lists) c.args.width (count / row) (take count c.fill.new.places) (map items c.clear_lists.new.lists) (map items c.push_piece.new.lists)
          c.clear_lists.ensures.many (length-map c.clear_lists.new.lists items ∙ c.clear_lists.ensures.many) c.clear_lists.ensures.none c.in_ok-push_piece.ensures.more;
    }
