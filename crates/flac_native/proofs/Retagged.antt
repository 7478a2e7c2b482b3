-- What was written of a stream with other comments.
use Rattle.std.proofs.Common.{◌≡◌, ◌≢◌, ℕ, Bool, false, List, ◌∷◌, ◌++◌, Result, Ok, Err, Option, Some, None, sym, ap, subst, ◌∙◌, append_assoc}
use Rattle.std.specs.Prelude.{IfErr, IfSome}
use Rattle.flac_bits.specs.declared.why.Why.{Why}
use Rattle.flac_bits.specs.declared.why.Why.TheVariants as why
use Rattle.flac_native.specs.declared.fault.Place.{Place}
use Rattle.flac_native.specs.declared.retagging.RetagFault.{RetagFault}
use Rattle.flac_bits.specs.Bits.{bits_of}
use Rattle.flac_bits.specs.State.{Cursor}
use Rattle.flac_bits.proofs.Holding.{bits_of-append}
use Rattle.flac_meta.specs.declared.block.Block.{Block}
use Rattle.flac_meta.specs.declared.block.Block.TheVariants as block_of
use Rattle.flac_meta.specs.declared.comments.Comments.{Comments}
use Rattle.flac_native.specs.Writing.{head_spelling}
use Rattle.flac_native.specs.Retag.{BeginsWith, Retags, BeginsRetagging, CopiesPart, without_comments}
use Rattle.flac_native.specs.inner.Retag.{AreKept, new_head}

module _ (c : Cursor) (kept : List Block) (rest : List Bool) (comments : Comments) (head : List ℕ) (are : AreKept false c kept rest) (is : bits_of head ≡ new_head comments kept) where
  -- what stands before the frames
  written : List Bool
  written = head_spelling are.info (block_of.VorbisComment comments ∷ without_comments are.list)

  head_is : bits_of head ≡ written
  unfolding written
  head_is = is ∙ ap (new_head comments) are.are

  -- all was sent
  pub all_retagged : (old mid new : List ℕ) → mid ≡ old ++ head → bits_of new ≡ bits_of mid ++ rest → Retags c.mark c.left comments (bits_of old) (bits_of new)
  unfolding written
  all_retagged old mid new sent more = record {
    info = are.info;
    list = are.list;
    rest = rest;
    input = are.input;
    output = more ∙ ap (λ k. k ++ rest) (ap bits_of sent ∙ bits_of-append old head) ∙ append_assoc (bits_of old) (bits_of head) rest ∙ ap (λ k. bits_of old ++ (k ++ rest)) head_is;
  }

  -- the head and the first bits of the rest
  pub some_retagged : (old mid new : List ℕ) (front left : List Bool) → mid ≡ old ++ head → bits_of new ≡ bits_of mid ++ front → front ++ left ≡ rest → BeginsRetagging c.mark c.left comments (bits_of old) (bits_of new)
  unfolding written
  some_retagged old mid new front left sent more cut = record {
    front = bits_of head ++ front;
    left = left;
    written = more ∙ ap (λ k. k ++ front) (ap bits_of sent ∙ bits_of-append old head) ∙ append_assoc (bits_of old) (bits_of head) front;
    retags = record {
      info = are.info;
      list = are.list;
      rest = rest;
      input = are.input;
      output = ap (λ k. bits_of old ++ k) (append_assoc (bits_of head) front left ∙ ap (λ k. bits_of head ++ k) cut ∙ ap (λ k. k ++ rest) head_is);
    };
  }

  pub part_retagged : (old mid new : List ℕ) (front left : List Bool) → mid ≡ old ++ head → bits_of new ≡ bits_of mid ++ front → front ++ left ≡ rest → CopiesPart c.mark c.left comments (bits_of old) (bits_of new)
  unfolding written
  part_retagged old mid new front left sent more cut = record {
    info = are.info;
    list = are.list;
    front = front;
    left = left;
    input = subst (λ r. BeginsWith c.mark c.left are.info are.list r) (sym cut) are.input;
    output = more ∙ ap (λ k. k ++ front) (ap bits_of sent ∙ bits_of-append old head) ∙ append_assoc (bits_of old) (bits_of head) front ∙ ap (λ k. bits_of old ++ (k ++ front)) head_is;
  }

  -- the first bytes of the head
  pub head_begun : (old new some others : List ℕ) → head ≡ some ++ others → new ≡ old ++ some → BeginsRetagging c.mark c.left comments (bits_of old) (bits_of new)
  unfolding written
  head_begun old new some others cut sent = record {
    front = bits_of some;
    left = bits_of others ++ rest;
    written = ap bits_of sent ∙ bits_of-append old some;
    retags = record {
      info = are.info;
      list = are.list;
      rest = rest;
      input = are.input;
      output = ap (λ k. bits_of old ++ k) (sym (append_assoc (bits_of some) (bits_of others) rest) ∙ ap (λ k. k ++ rest) (sym (bits_of-append some others) ∙ ap bits_of (sym cut) ∙ head_is));
    };
  }

-- what is refused where the source answered no error, is so where a stronger condition says that
pub calmer : {X : Type 0} (K A B C : Type 0) (Q : Place → Why → Type 0) (r : Result X RetagFault) → (B → C → A) → IfErr r (λ f. IfSome f.at (λ at. K → A → f.why ≢ why.Memory → Q at f.why)) → IfErr r (λ f. IfSome f.at (λ at. K → B → C → f.why ≢ why.Memory → Q at f.why))
calmer K A B C Q (Ok x) calm h = tt
calmer K A B C Q (Err f) calm h = go f.at h
  where
    go : (o : Option Place) → IfSome o (λ at. K → A → f.why ≢ why.Memory → Q at f.why) → IfSome o (λ at. K → B → C → f.why ≢ why.Memory → Q at f.why)
    go None h = tt
    go (Some at) h = λ k b c room. h k (calm b c) room
