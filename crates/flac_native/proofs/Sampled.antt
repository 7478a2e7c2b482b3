-- What a writer of samples has written.
use Rattle.std.proofs.Common.{◌≡◌, ℕ, List, [], ◌∷◌, ◌++◌, Bool, true, ap, sym, ◌∙◌, append_assoc, append-nil}
use Rattle.flac_bits.specs.Handing.{TakesAll}
use Rattle.flac_native.specs.Stream.{Piece, marked, block, framed}
use Rattle.flac_native.specs.Item.{Item}
use Rattle.flac_native.specs.Decoding.{taken}
use Rattle.flac_native.specs.Samples.{samples_from, frame_bytes, depth_after_item, samples_in}

module _ {S : Type 0} (is_known : S → Bool) (bytes : S → List ℕ) (want bits : S → ℕ) where
  -- what such a sink makes of an item
  abbrev pub Takes : S → Item → S → Type 0
  Takes s x t = record {
    known : is_known s ≡ true → is_known t ≡ true;
    asked : want t ≡ want s;
    depth : bits t ≡ depth_after_item (bits s) x;
    sent : is_known s ≡ true → bytes t ≡ bytes s ++ samples_in (want s) (bits s) x;
  }

  -- It has written the samples of all parts, after what was there.
  pub all_written : (old : S) (xs : List Piece) (new : S) → TakesAll (taken Takes) old xs new → is_known old ≡ true
      → bytes new ≡ bytes old ++ samples_from (want old) (bits old) xs
  all_written old [] new h t = ap bytes (sym h) ∙ sym (append-nil (bytes old))
  all_written old (marked ∷ xs) new h t =
      let same : old ≡ h.0 = h.1 in
      all_written h.0 xs new h.2 (ap is_known (sym same) ∙ t)
      ∙ ap (λ s. bytes s ++ samples_from (want s) (bits s) xs) (sym same)
  all_written old (block last b ∷ xs) new h t =
      let k = h.1 in
      all_written h.0 xs new h.2 (k.known t)
      ∙ (ap (λ l. l ++ samples_from (want h.0) (bits h.0) xs) (k.sent t ∙ append-nil (bytes old))
      ∙ (ap (λ a. bytes old ++ samples_from a (bits h.0) xs) k.asked
      ∙ ap (λ d. bytes old ++ samples_from (want old) d xs) k.depth))
  all_written old (framed f ∷ xs) new h t =
      let k = h.1 in
      all_written h.0 xs new h.2 (k.known t)
      ∙ (ap (λ l. l ++ samples_from (want h.0) (bits h.0) xs) (k.sent t)
      ∙ (append_assoc (bytes old) (frame_bytes (want old) (bits old) f) (samples_from (want h.0) (bits h.0) xs)
      ∙ (ap (λ a. bytes old ++ (frame_bytes (want old) (bits old) f ++ samples_from a (bits h.0) xs)) k.asked
      ∙ ap (λ d. bytes old ++ (frame_bytes (want old) (bits old) f ++ samples_from (want old) d xs)) k.depth)))

  -- So has one that began with nothing.
  pub written_from_none : (old : S) (xs : List Piece) (new : S) → TakesAll (taken Takes) old xs new → is_known old ≡ true → bytes old ≡ [] → bits old ≡ 0
      → bytes new ≡ samples_from (want old) 0 xs
  written_from_none old xs new h t none begun =
      all_written old xs new h t
      ∙ (ap (λ l. l ++ samples_from (want old) (bits old) xs) none ∙ ap (λ d. samples_from (want old) d xs) begun)
