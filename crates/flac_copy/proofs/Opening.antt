-- Streams that are opened to be copied.
use Rattle.std.proofs.Common.{◌≡◌, ℕ, ◌+◌, ◌-◌, ◌*◌, vec_len, Bool, true, false, List, [], ◌++◌, Option, None, Result, Ok, refl, sym, ap, subst, ◌∙◌}
use Rattle.std.specs.Borrow.{GName}
use Rattle.flac_bits.specs.Bits.{bits_of}
use Rattle.flac_bits.specs.Items.{state_after}
use Rattle.flac_bits.specs.State.{short_of}
use Rattle.flac_bits.specs.declared.why.Why.{Why}
use Rattle.flac_bits.specs.declared.source.Source as source
use Rattle.flac_meta.specs.declared.block.Block.{Block}
use Rattle.flac_header.specs.declared.subset.Profile.{Profile}
use Rattle.flac_native.specs.Decoding.{beginning, start_mark}
use Rattle.flac_native.specs.Stream.{Stand, grammar}
use Rattle.flac_native.specs.Track.{IsAt, is_after_blocks}
use Rattle.flac_native.specs.declared.fault.Fault.{Fault}
use Rattle.flac_native.specs.declared.track.Track.{Track}
use Rattle.flac_pages.specs.Packets.{Place, at_front, at_front_of, ahead}
use Rattle.flac_ogg.specs.Calls.{TakesFront, KeepsEnd}
use Rattle.flac_ogg.specs.Either.{begins_page, read_either}
use Rattle.flac_ogg.specs.Fronts.{front_bytes}
use Rattle.flac_ogg.specs.Stream.{start}
use Rattle.flac_ogg.specs.declared.decoding.Fronted.{Fronted}
use Rattle.flac_ogg.proofs.FirstByte.{first_of}
use Rattle.flac_ogg.proofs.MeaningContents.{begins_ahead, ahead_of}
use Rattle.flac_copy.specs.Again.{all_of, to_give, Holds}
use Rattle.flac_copy.specs.Heads.{pieces, ReadsHead, TakesHeaders}
use Rattle.flac_copy.specs.Inputs.{IsKnown, FramesCome}
use Rattle.flac_copy.specs.Opened.{HasOneInfo, BecomesCopying, OpensAs, Opens, fronted, parts_of}
use Rattle.flac_copy.specs.Serials.{serial_in, serial_as, ShowsSerial}
use Rattle.flac_copy.specs.declared.again.Again.{Again}
use Rattle.flac_copy.specs.declared.replayed.Replayed.{Replayed}
use Rattle.flac_copy.specs.declared.input.Input.TheVariants.{Native, Ogg}
use Rattle.flac_copy.specs.declared.opened.Copying.{Copying}
use Rattle.flac_copy.proofs.HeadLemmas.{at_start}
use Rattle.flac_copy.proofs.OpenedLemmas.{is_ready, native_stream, ogg_stream}

pub native_opened : {S : Type 0} (g : source.Ghosts S) (profile : Profile) (s : S) (a0 a1 : Again S) (t0 t1 : Track) (list same : List Block) (c : Copying S) → a0.source ≡ s → a0.held.items ≡ [] → a0.fault ≡ None → IsAt t0 (start profile)
    → ReadsHead g t0 t1 a0 a1 list → BecomesCopying list (Native a1) t1 None same c → OpensAs g false profile s same c
native_opened g profile s a0 a1 t0 t1 list same c source_is held_is calm at reads b known =
    let d = reads calm (ap g.known source_is ∙ known) profile at in
    let state = state_after grammar (start profile) (pieces d.parts) in
    let all : g.coming s ≡ d.head ++ all_of g.coming a1 = ap g.coming (sym source_is) ∙ ap (λ l. l ++ g.coming a0.source) (sym held_is) ∙ d.split in
    let after : is_after_blocks state.stand.phase ≡ true = ap (λ (k : Stand). is_after_blocks k.phase) (sym d.at.stand) ∙ d.phase in
    let ready = is_ready profile c.info d.parts (subst (HasOneInfo c.info) d.list_is b.info) after b.rules in
    record {
      parts = d.parts;
      list_is = b.blocks_are ∙ d.list_is;
      first = subst (HasOneInfo c.info) (sym b.blocks_are) b.info;
      state = state;
      at = subst (λ t. IsAt t state) (sym b.track_is) d.at;
      ready = ready;
      serial = b.serial_is;
      known = subst (λ i. IsKnown g i) (sym b.input_is) (d.fault, d.known);
      stream = λ frames come.
          let k = subst (λ i. FramesCome g state i frames) b.input_is come in
          native_stream profile c.info d.parts frames (start_mark (g.after s)) d.head (g.coming s) refl (all ∙ ap (λ l. d.head ++ l) k.has) d.leads ready k.are k.kept;
    }

-- pages at the front of what a source has, whose bytes are known
record IsFront {S : Type 0} (g : source.Ghosts S) (s : S) (p : Place) : Type 0 where
  known : p.known ≡ true
  ahead_is : ahead p ≡ ahead_of (start_mark (g.after s)) (bits_of (g.coming s))

-- a place before the first byte
front_of : {S : Type 0} (g : source.Ghosts S) (s : S) (p : Place) (errors raised most : ℕ) (names : List GName) (bytes : List ℕ) (fails : Option (ℕ × Why)) → bytes ≡ g.coming s → fails ≡ (g.after s).fails
    → p ≡ at_front true errors raised most names (bits_of bytes) (short_of fails) → IsFront g s p
front_of g s p errors raised most names bytes fails bytes_are fails_are is =
    let q = at_front true errors raised most names (bits_of bytes) (short_of fails) in
    record {
      known = ap (λ (k : Place). k.known) is;
      ahead_is = ap ahead is ∙ begins_ahead (beginning (short_of fails)) (bits_of bytes) q refl refl refl refl refl refl ∙ ap (λ l. ahead_of (beginning (short_of fails)) (bits_of l)) bytes_are
          ∙ ap (λ f. ahead_of (beginning (short_of f)) (bits_of (g.coming s))) fails_are;
    }

-- the source whose bytes come again, of which some are held
abbrev again_front : {S : Type 0} → source.Ghosts S → Again S → Place
again_front g a = at_front (g.known a.source) (g.errors a.source) (g.raised a.source) (8 * ((vec_len a.held - 0) + g.most a.source)) (g.names a.source) (bits_of (all_of g.coming a)) (short_of (g.after a.source).fails)

abbrev replayed : {S : Type 0} → source.Ghosts S → source.Ghosts (Replayed S)
replayed g = record {
  known = λ s. g.known s.again.source;
  coming = λ s. to_give s.again ++ g.coming s.again.source;
  after = λ s. g.after s.again.source;
  errors = λ s. g.errors s.again.source;
  raised = λ s. g.raised s.again.source;
  most = λ s. (vec_len s.again.held - s.again.given) + g.most s.again.source;
  names = λ s. g.names s.again.source;
}

pub replayed_front : {S : Type 0} (g : source.Ghosts S) (r : Replayed S) (a : Again S) → r.again ≡ record a { given = 0 } → at_front_of (replayed g) r ≡ again_front g a
replayed_front g r a is = ap (λ k. at_front_of (replayed g) (record { again = k })) is

-- nothing was held, and then the bytes that come first
again_opened : {S : Type 0} (g : source.Ghosts S) (s : S) (a0 a1 : Again S) (p : Place) → a0.source ≡ s → a0.held.items ≡ [] → Holds g a0 a1 → p ≡ again_front g a1 → g.known s ≡ true → IsFront g s p
again_opened g s a0 a1 p source_is held_is holds is known =
    let old : g.known a0.source ≡ true = ap g.known source_is ∙ known in
    let all : all_of g.coming a1 ≡ g.coming s = holds.all old ∙ ap (λ l. l ++ g.coming a0.source) held_is ∙ ap g.coming source_is in
    let fails : (g.after a1.source).fails ≡ (g.after s).fails = holds.fails old ∙ ap (λ k. (g.after k).fails) source_is in
    front_of g s p (g.errors a1.source) (g.raised a1.source) (8 * ((vec_len a1.held - 0) + g.most a1.source)) (g.names a1.source) (all_of g.coming a1) (g.after a1.source).fails all fails
    (is ∙ ap (λ k. at_front k (g.errors a1.source) (g.raised a1.source) (8 * ((vec_len a1.held - 0) + g.most a1.source)) (g.names a1.source) (bits_of (all_of g.coming a1)) (short_of (g.after a1.source).fails)) (holds.known old))

pub ogg_opened : {S : Type 0} (g : source.Ghosts S) (profile : Profile) (s : S) (a0 a1 : Again S) (serial : Option ℕ) (p0 p1 : Place) (t0 t1 : Track) (list same : List Block) (c : Copying S) → a0.source ≡ s → a0.held.items ≡ [] → ShowsSerial g a0 a1 serial
    → p0 ≡ again_front g a1 → IsAt t0 (start profile) → TakesHeaders t0 t1 p0 p1 [] list → BecomesCopying list (Ogg p1) t1 serial same c → OpensAs g true profile s same c
ogg_opened g profile s a0 a1 serial p0 p1 t0 t1 list same c source_is held_is shows is at takes b known =
    let front = again_opened g s a0 a1 p0 source_is held_is shows.0 is known in
    let known_is : p0.known ≡ true = front.known in
    let h = takes known_is (start profile) at (at_start profile).opened in
    let state = state_after grammar (start profile) (pieces h.parts) in
    let mark = start_mark (g.after s) in
    let text = bits_of (g.coming s) in
    let there : ahead p0 ≡ ahead_of mark text = front.ahead_is in
    let all : all_of g.coming a0 ≡ g.coming s = ap (λ l. l ++ g.coming a0.source) held_is ∙ ap g.coming source_is in
    let after : is_after_blocks state.stand.phase ≡ true = ap (λ (k : Stand). is_after_blocks k.phase) (sym h.at.stand) ∙ h.phase in
    let ready = is_ready profile c.info h.parts (subst (HasOneInfo c.info) h.added b.info) after b.rules in
    record {
      parts = h.parts;
      list_is = b.blocks_are ∙ h.added;
      first = subst (HasOneInfo c.info) (sym b.blocks_are) b.info;
      state = state;
      at = subst (λ t. IsAt t state) (sym b.track_is) h.at;
      ready = ready;
      serial = b.serial_is ∙ shows.1 (ap g.known source_is ∙ known) ∙ ap serial_in all;
      known = subst (λ i. IsKnown g i) (sym b.input_is) h.known;
      stream = λ frames come.
          let k = subst (λ i. FramesCome g state i frames) b.input_is come in
          ogg_stream profile c.info frames mark text t1 p0 p1 list there known_is h k.has ready k.are k.kept;
    }

abbrev pub answer : Option ℕ → Result (Option ℕ) Fault
answer o = Ok o

-- the first byte was pulled, and stands in front of the others
pub front_opened : {S : Type 0} (g : source.Ghosts S) (profile : Profile) (s0 s1 : S) (front : Option ℕ) (is_ogg : Bool) (list : List Block) (c : Copying (Fronted S)) → (g.known s0 ≡ true → g.known s1 ≡ true) → TakesFront g s0 s1 front
    → (front ≡ None → g.known s0 ≡ true → g.coming s0 ≡ []) → KeepsEnd g s0 s1 → g.errors s1 ≡ g.errors s0 → begins_page (front_bytes front) ≡ is_ogg → OpensAs (fronted g) is_ogg profile (record { front = front; source = s1 }) list c → Opens g profile s0 list c
front_opened g profile s0 s1 front is_ogg list c stays takes none keeps quiet is opens known =
    let o = opens (stays known) in
    let split = takes known in
    let ogg : is_ogg ≡ begins_page (g.coming s0) = sym (first_of front (g.coming s1) (g.coming s0) split (λ e. none e known) ∙ is) in
    let mark : start_mark (g.after s1) ≡ start_mark (g.after s0) = ap start_mark (keeps known quiet) in
    record {
      parts = o.parts;
      list_is = o.list_is;
      first = o.first;
      state = o.state;
      at = o.at;
      ready = o.ready;
      serial = o.serial ∙ ap (serial_as is_ogg) (sym split) ∙ ap (λ b. serial_as b (g.coming s0)) ogg;
      known = o.known;
      stream = λ frames come.
          subst (λ b. (read_either profile b (start_mark (g.after s0)) (bits_of (g.coming s0))).whole (parts_of b o.parts frames)) ogg
          (subst (λ m. (read_either profile is_ogg m (bits_of (g.coming s0))).whole (parts_of is_ogg o.parts frames)) mark
          (subst (λ l. (read_either profile is_ogg (start_mark (g.after s1)) (bits_of l)).whole (parts_of is_ogg o.parts frames)) (sym split) (o.stream frames come)));
    }
