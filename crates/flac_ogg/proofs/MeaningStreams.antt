-- An Ogg stream of FLAC, read packet by packet: what is read is what the input is, and no input has two readings.
use Rattle.std.proofs.Common.{◌≡◌, ℕ, Bool, true, List, [], ◌∷◌, ◌++◌, Option, refl, sym, ap, subst, ◌∙◌}
use Rattle.std.proofs.lemmas.List.{append-nil}
use Rattle.flac_bits.specs.State.{Mark}
use Rattle.flac_bits.specs.Meaning.{AllKept}
use Rattle.flac_bits.specs.Items.{state_after}
use Rattle.flac_bits.specs.declared.why.Why.{Why}
use Rattle.flac_native.specs.Stream.{Piece, Progress, grammar, next}
use Rattle.flac_native.specs.declared.fault.Place.{Place}
use Rattle.flac_pages.specs.Packets.{Ahead}
use Rattle.flac_pages.specs.Given.{PacketsAhead}
use Rattle.flac_ogg.specs.Stream.{start, AreItems, Contents, fault_in, stop_in, OggStream, StopsAtPacket, OggRefused}
use Rattle.flac_ogg.specs.Steps.{PacketStep, over, refused, packet_step, Goes}
use Rattle.flac_ogg.specs.Decoding.{BeginsWith}
use Rattle.flac_ogg.proofs.MeaningContents.{ahead_of, some_contents, contents_ahead, contents_fault, contents_stop}
use Rattle.flac_ogg.proofs.MeaningSteps.{first_is, after_next, step_item, step_over, step_refused, item_step, over_step, refused_step}
use Rattle.flac_header.specs.declared.subset.Profile.{Profile}

-- ---- what was read

-- the packets that were taken, the others, and what is ahead after these items
pub record IsFar (p : Progress) (a : Ahead) (packets : List (List ℕ)) (begun : List ℕ) (items : List Piece) (q : Progress) (b : Ahead) : Type 0 where
  pub taken : List (List ℕ)
  pub left : List (List ℕ)
  pub split : packets ≡ taken ++ left
  pub spelled : AreItems p taken items
  pub state : q ≡ state_after grammar p items
  pub ahead : PacketsAhead b left begun
  pub fault : b.fault ≡ a.fault
  pub stop : b.stop ≡ a.stop

pub goes_far : (p : Progress) (a : Ahead) (packets : List (List ℕ)) (begun : List ℕ) (items : List Piece) (q : Progress) (b : Ahead) → PacketsAhead a packets begun → Goes p a items q b → IsFar p a packets begun items q b
goes_far p a packets begun [] q b h g = record {
  taken = [];
  left = packets;
  split = refl;
  spelled = tt;
  state = sym g.0;
  ahead = subst (λ (k : Ahead). PacketsAhead k packets begun) g.1 h;
  fault = ap (λ (k : Ahead). k.fault) (sym g.1);
  stop = ap (λ (k : Ahead). k.stop) (sym g.1);
}
goes_far p a packets begun (x ∷ xs) q b h (c, step, more) =
    let one = step_item p a packets begun x c h step in
    let far = goes_far (next p x) c one.others begun xs q b one.ahead more in
    record {
      taken = one.packet ∷ far.taken;
      left = far.left;
      split = one.split ∙ ap (λ k. one.packet ∷ k) far.split;
      spelled = (one.is, far.spelled);
      state = far.state;
      ahead = far.ahead;
      fault = far.fault ∙ one.fault;
      stop = far.stop ∙ one.stop;
    }

-- where a reader of an input stands after these items
pub record StandsAfter (profile : Profile) (mark : Mark) (text : List Bool) (items : List Piece) (p : Progress) (a : Ahead) : Type 0 where
  pub begins : BeginsWith profile mark items text
  pub state : p ≡ state_after grammar (start profile) items
  pub ahead : PacketsAhead a begins.left begins.contents.begun
  pub fault : a.fault ≡ fault_in begins.contents
  pub stop : a.stop ≡ stop_in begins.contents

pub goes_begins : (profile : Profile) (mark : Mark) (text : List Bool) (items : List Piece) (p : Progress) (a : Ahead) → Goes (start profile) (ahead_of mark text) items p a → StandsAfter profile mark text items p a
goes_begins profile mark text items p a g =
    let c : Contents mark text = some_contents mark text in
    let far = goes_far (start profile) (ahead_of mark text) c.packets c.begun items p a (contents_ahead c) g in
    record {
      begins = record { contents = c; taken = far.taken; left = far.left; split = far.split; spelled = far.spelled };
      state = far.state;
      ahead = far.ahead;
      fault = far.fault ∙ contents_fault c;
      stop = far.stop ∙ contents_stop c;
    }

-- ---- and how it ended

pub goes_over : (profile : Profile) (mark : Mark) (text : List Bool) (items : List Piece) (p : Progress) (a : Ahead) → Goes (start profile) (ahead_of mark text) items p a → packet_step p a ≡ over → OggStream profile mark items text
goes_over profile mark text items p a g e =
    let s = goes_begins profile mark text items p a g in
    let b = s.begins in
    let o = step_over p a b.left b.contents.begun s.ahead e in
    let all : b.taken ≡ b.contents.packets = sym (b.split ∙ ap (λ k. b.taken ++ k) o.no_packet ∙ append-nil b.taken) in
    record {
      contents = b.contents;
      no_fault = sym s.stop ∙ o.no_fault;
      no_part = o.no_part;
      spelled = subst (λ (k : List (List ℕ)). AreItems (start profile) k items) all b.spelled;
      ends = subst (λ (k : Progress). grammar.may_end k ≡ true) s.state o.ends;
      kept = subst (λ (k : Progress). AllKept (grammar.at_end k)) s.state o.kept;
    }

pub goes_refused : (profile : Profile) (mark : Mark) (text : List Bool) (items : List Piece) (p : Progress) (a : Ahead) (at : Place) (why : Why) → Goes (start profile) (ahead_of mark text) items p a → packet_step p a ≡ refused at why → OggRefused profile mark items text at why
goes_refused profile mark text items p a at why g e =
    let s = goes_begins profile mark text items p a g in
    let b = s.begins in
    let first : StopsAtPacket p b.left b.contents.begun a.fault a.stop at why = step_refused p a b.left b.contents.begun at why s.ahead e in
    let second = subst (λ (k : Progress). StopsAtPacket k b.left b.contents.begun a.fault a.stop at why) s.state first in
    let third = subst (λ (f : Option (ℕ × Why)). StopsAtPacket (state_after grammar (start profile) items) b.left b.contents.begun f a.stop at why) s.fault second in
    record {
      contents = b.contents;
      taken = b.taken;
      left = b.left;
      split = b.split;
      spelled = b.spelled;
      stops = subst (λ (f : Option (ℕ × Why)). StopsAtPacket (state_after grammar (start profile) items) b.left b.contents.begun (fault_in b.contents) f at why) s.stop third;
    }

-- ---- what the input is, is read

pub record IsReached (p : Progress) (a : Ahead) (items : List Piece) (left : List (List ℕ)) (begun : List ℕ) : Type 0 where
  pub end : Ahead
  pub goes : Goes p a items (state_after grammar p items) end
  pub ahead : PacketsAhead end left begun
  pub fault : end.fault ≡ a.fault
  pub stop : end.stop ≡ a.stop

pub items_go : (p : Progress) (a : Ahead) (taken left : List (List ℕ)) (begun : List ℕ) (items : List Piece) → PacketsAhead a (taken ++ left) begun → AreItems p taken items → IsReached p a items left begun
items_go p a [] left begun [] h are = record { end = a; goes = (refl, refl); ahead = h; fault = refl; stop = refl }
items_go p a [] left begun (x ∷ xs) h are = absurd are
items_go p a (y ∷ ys) left begun [] h are = absurd are
items_go p a (y ∷ ys) left begun (x ∷ xs) h are =
    let more = items_go (next p x) (after_next a) ys left begun xs (first_is a y (ys ++ left) begun h).others are.1 in
    record {
      end = more.end;
      goes = (after_next a, item_step p a y (ys ++ left) begun x h are.0, more.goes);
      ahead = more.ahead;
      fault = more.fault;
      stop = more.stop;
    }

-- the items are read one after another, and then this step is made
pub record IsReadTo (profile : Profile) (mark : Mark) (text : List Bool) (items : List Piece) (final : PacketStep) : Type 0 where
  pub state : Progress
  pub ahead : Ahead
  pub goes : Goes (start profile) (ahead_of mark text) items state ahead
  pub step : packet_step state ahead ≡ final

pub stream_goes : (profile : Profile) (mark : Mark) (text : List Bool) (items : List Piece) → OggStream profile mark items text → IsReadTo profile mark text items over
stream_goes profile mark text items s =
    let c : Contents mark text = s.contents in
    let given : PacketsAhead (ahead_of mark text) (c.packets ++ []) [] = subst (λ (k : List ℕ). PacketsAhead (ahead_of mark text) (c.packets ++ []) k) s.no_part
    (subst (λ (k : List (List ℕ)). PacketsAhead (ahead_of mark text) k c.begun) (sym (append-nil c.packets)) (contents_ahead c)) in
    let r = items_go (start profile) (ahead_of mark text) c.packets [] [] items given s.spelled in
    record { state = state_after grammar (start profile) items; ahead = r.end; goes = r.goes; step = over_step (state_after grammar (start profile) items) r.end r.ahead (r.stop ∙ contents_stop c ∙ s.no_fault) s.ends s.kept }

pub refused_goes : (profile : Profile) (mark : Mark) (text : List Bool) (items : List Piece) (at : Place) (why : Why) → OggRefused profile mark items text at why → IsReadTo profile mark text items (refused at why)
refused_goes profile mark text items at why s =
    let c : Contents mark text = s.contents in
    let given : PacketsAhead (ahead_of mark text) (s.taken ++ s.left) c.begun = subst (λ (k : List (List ℕ)). PacketsAhead (ahead_of mark text) k c.begun) s.split (contents_ahead c) in
    let r = items_go (start profile) (ahead_of mark text) s.taken s.left c.begun items given s.spelled in
    record {
      state = state_after grammar (start profile) items;
      ahead = r.end;
      goes = r.goes;
      step = refused_step (state_after grammar (start profile) items) r.end s.left c.begun (fault_in c) (stop_in c) at why r.ahead (r.fault ∙ contents_fault c) (r.stop ∙ contents_stop c) s.stops;
    }
