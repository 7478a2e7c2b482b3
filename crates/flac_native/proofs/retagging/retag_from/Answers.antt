use Rattle.std.proofs.Common.{◌≡◌, ◌≤◌, ◌++◌, List, Some, Bool, true, false, Result, Ok, Err, ◌∙◌, inl, inr, refl, sym, ap, subst, arith}
use Rattle.std.proofs.lemmas.Result.{IfErr-weaker}
use Rattle.std.specs.Prelude.{OnOk, OnErr, IfErr}
use Rattle.flac_bits.specs.State.{Cursor}
use Rattle.flac_bits.specs.Fencing.{lifted}
use Rattle.flac_meta.specs.Spelling.{comments_length}
use Rattle.flac_meta.specs.declared.block.Block.{Block}
use Rattle.flac_meta.specs.declared.comments.Comments.{Comments}
use Rattle.flac_native.specs.declared.fault.Place.TheVariants as place
use Rattle.flac_native.specs.declared.retagging.RetagFault.{RetagFault}
use Rattle.flac_native.specs.inner.Retag.{AreKept, MayBeHead, new_head}
use Rattle.flac_native.specs.Retag.{BreaksAt, IsRefused}
use Rattle.flac_native.proofs.Broken.{breaks_after, none_before, copy_placed, copy_foretold}
use Rattle.flac_native.proofs.NewHead.{kept_may_be_head}
use Rattle.flac_native.proofs.RetagFaults.{placed, placed_some, same_place, frame_marker, write_memory, copy_memory, before_device, unread_device, write_no_read, has_head, no_fewer, no_rise, both_err, copy_calm, copy_after, copy_placeless, copy_output}
use Rattle.flac_native.proofs.Retagged.{all_retagged, some_retagged, part_retagged, head_begun}
use Rattle.flac_native.proofs.retagging.retag_from.Goals as goal

-- what is claimed of a call that answered Ok, or of one that answered an error
when_ok : {X E : Type 0} {A B : Type 0} (r : Result X E) → (A → B) → OnOk r A → OnOk r B
when_ok (Ok x) f a = f a
when_ok (Err e) f a = tt

when_err : {X E : Type 0} {A : Type 0} {B : E → Type 0} (r : Result X E) → ((e : E) → A → B e) → OnErr r A → IfErr r B
when_err (Ok x) f a = tt
when_err (Err e) f a = f e a

may_be : (comments : Comments) (c : Cursor) (kept slice : List Block) (rest : List Bool) → comments_length comments ≤ 16777215 → slice ≡ kept → AreKept false c kept rest → MayBeHead comments slice
may_be comments c kept slice rest short is are = subst (λ l. MayBeHead comments l) (sym is) (kept_may_be_head comments c kept rest short are)

pub returns-in-Err : goal.returns-in-Err
returns-in-Err g c =
    let e = c.in-Err.ensures in
    let at = c.in-Err.fault.at in
    let why = c.in-Err.fault.why in
    record {
      written = tt;
      refused = λ known calm room. e.refused known calm.0 room;
      foretold = λ before known same room. e.refused known same room;
      placed = e.placed;
      memory = λ is there. e.memory is (same_place at place.Marker there);
      after = λ known. inl (e.at known);
      head = tt;
      found = λ either known. absurd (before_device at why (e.at known) either);
      nothing = λ one other. refl;
      begun = λ either known told. absurd (before_device at why (e.at known) either);
      copied = λ is known told. absurd (before_device at why (e.at known) (inl is));
      placeless = λ none. absurd (placed_some at none);
      output = e.counts.5;
      read = λ read known. e.counts.2 known read;
      write = λ is told. absurd (placed at why is);
      read_risen = e.counts.4;
      write_risen = λ is. absurd (placed at why is);
      errors = e.counts.0;
      names = (e.counts.3, refl);
    }

pub returns-in-Err-made : goal.returns-in-Err-made
returns-in-Err-made g c =
    let counts = c.in-Ok.ensures.counts in
    let w = c.in-Err-made.why in
    let unread = c.in-Err-made.ensures.unread in
    let memory = λ (known : c.args.reader.now.known ≡ true). c.in-Err-made.ensures.memory (may_be c.args.comments.now (lifted c.args.reader.now).cursor c.in-Ok.kept.items _ c.read_kept.new.reader.cursor.left c.requires.short c.as_slice.ensures.value (c.in-Ok.ensures.kept known)) in
    record {
      written = tt;
      refused = λ known calm room. absurd (room (memory known));
      foretold = λ before. absurd (none_before before);
      placed = λ known. breaks_after (lifted c.args.reader.now).cursor (c.in-Ok.ensures.kept known);
      memory = λ is there. absurd (frame_marker (same_place (place.Frame 0) place.Marker there));
      after = λ known. inr (inr (ap (λ w. record { at = Some (place.Frame 0); why = w }) (memory known)));
      head = tt;
      found = λ either known. absurd (unread_device (place.Frame 0) w unread either);
      nothing = λ one other. refl;
      begun = λ either known told. absurd (unread_device (place.Frame 0) w unread either);
      copied = λ is known told. absurd (unread_device (place.Frame 0) w unread (inl is));
      placeless = λ none. absurd (placed_some (place.Frame 0) none);
      output = c.in-Err-made.ensures.output;
      read = λ read known. absurd (unread read);
      write = λ is told. absurd (placed (place.Frame 0) w is);
      read_risen = λ read. absurd (unread read);
      write_risen = λ is. absurd (placed (place.Frame 0) w is);
      errors = no_fewer _ _ counts.1;
      names = (counts.4, refl);
    }

pub returns-in-Err-sent : goal.returns-in-Err-sent
returns-in-Err-sent g c =
    let counts = c.in-Ok.ensures.counts in
    let kept = c.in-Ok.ensures.kept in
    let sends = c.in-Err-sent.ensures.sends in
    record {
      written = tt;
      refused = tt;
      foretold = tt;
      placed = tt;
      memory = λ is. absurd (write_memory is);
      after = tt;
      head = tt;
      found = λ either known. has_head (lifted c.args.reader.now).cursor (kept known);
      nothing = λ one other. absurd (other refl);
      begun = λ either known told.
          let is = c.in-Ok-made.ensures.head ∙ ap (new_head c.args.comments.now) c.as_slice.ensures.value in
          let begun = sends.begun told in
          head_begun (lifted c.args.reader.now).cursor c.in-Ok.kept.items c.read_kept.new.reader.cursor.left c.args.comments.now c.in-Ok-made.head.items (kept known) is _ _ begun.0 begun.1 (sym c.as_slice-2.ensures.value ∙ begun.2) begun.3;
      copied = λ is. absurd (write_no_read (ap (λ (x : RetagFault). x.why) is));
      placeless = λ none. refl;
      output = tt;
      read = λ read known. absurd (write_no_read read);
      write = λ is told. sends.rises told;
      read_risen = λ read. absurd (write_no_read read);
      write_risen = λ is. sends.risen;
      errors = no_fewer _ _ counts.1;
      names = (counts.4, sends.names);
    }

pub returns-in-Ok-sent : goal.returns-in-Ok-sent
returns-in-Ok-sent g c =
    let r = c.copy_rest.result in
    let counts = c.in-Ok.ensures.counts in
    let kept = c.in-Ok.ensures.kept in
    let sends = c.in-Ok-sent.ensures.sends in
    let copy = c.copy_rest.ensures in
    let cursor = (lifted c.args.reader.now).cursor in
    let is = c.in-Ok-made.ensures.head ∙ ap (new_head c.args.comments.now) c.as_slice.ensures.value in
    record {
      written = when_ok r (λ copied known told.
          let sent = sends.sent told ∙ ap (λ k. g.W.Target.sent c.args.target.now ++ k) c.as_slice-2.ensures.value in
          all_retagged cursor c.in-Ok.kept.items c.read_kept.new.reader.cursor.left c.args.comments.now c.in-Ok-made.head.items (kept known) is _ (g.W.Target.sent c.send_all-sent.new.target) _ sent (copied (counts.0 known) (sends.known told))) copy.copied;
      refused = both_err r (λ f fault read. copy_calm f _ _ _ fault (λ is known calm. no_rise _ _ _ counts.2 calm.1 (read is (counts.0 known)))) copy.fault copy.read;
      foretold = IfErr-weaker r _ _ (λ f. copy_foretold f _ _ (λ at why. IsRefused cursor.mark cursor.left at why)) copy.fault;
      placed = IfErr-weaker r _ _ (λ f. copy_placed f _ (λ at. BreaksAt cursor.mark cursor.left at) (λ known. breaks_after cursor (kept known))) copy.fault;
      memory = IfErr-weaker r _ _ copy_memory copy.fault;
      after = IfErr-weaker r _ _ (λ f. copy_after f _) copy.fault;
      head = when_ok r (λ copied known. has_head cursor (kept known)) copy.copied;
      found = when_err r (λ f begun either known. has_head cursor (kept known)) copy.begun;
      nothing = IfErr-weaker r _ _ (λ f fault one other. absurd (elim fault [ inl e ↦ one e | inr e ↦ other e ])) copy.fault;
      begun = when_err r (λ f begun either known told.
          let sent = sends.sent told ∙ ap (λ k. g.W.Target.sent c.args.target.now ++ k) c.as_slice-2.ensures.value in
          let some = begun (counts.0 known) (sends.known told) in
          some_retagged cursor c.in-Ok.kept.items c.read_kept.new.reader.cursor.left c.args.comments.now c.in-Ok-made.head.items (kept known) is _ (g.W.Target.sent c.send_all-sent.new.target) _ some.0 some.1 sent some.2 some.3) copy.begun;
      copied = when_err r (λ f begun at_source known told.
          let sent = sends.sent told ∙ ap (λ k. g.W.Target.sent c.args.target.now ++ k) c.as_slice-2.ensures.value in
          let some = begun (counts.0 known) (sends.known told) in
          part_retagged cursor c.in-Ok.kept.items c.read_kept.new.reader.cursor.left c.args.comments.now c.in-Ok-made.head.items (kept known) is _ (g.W.Target.sent c.send_all-sent.new.target) _ some.0 some.1 sent some.2 some.3) copy.begun;
      placeless = IfErr-weaker r _ _ (λ f. copy_placeless f) copy.fault;
      output = IfErr-weaker r _ _ (λ f. copy_output f) copy.fault;
      read = IfErr-weaker r _ _ (λ f read is known. rw (← counts.2) (read is (counts.0 known))) copy.read;
      write = IfErr-weaker r _ _ (λ f write is told. rw (← sends.counted) (write (ap (λ (x : RetagFault). x.why) is) (sends.known told))) copy.write;
      read_risen = IfErr-weaker r _ _ (λ f risen is. rw (← counts.2) (risen is)) copy.read_risen;
      write_risen = IfErr-weaker r _ _ (λ f risen is. rw (← sends.counted) (risen (ap (λ (x : RetagFault). x.why) is))) copy.write_risen;
      errors = omega (arith, copy.errors.0, counts.1);
      names = (copy.names.0 ∙ counts.4, copy.names.1 ∙ sends.names);
    }
