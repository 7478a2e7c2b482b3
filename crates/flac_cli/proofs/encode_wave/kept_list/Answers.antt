use Rattle.std.proofs.Common.{◌≡◌, ◌∙◌, ◌++◌, ◌∷◌, [], ℕ, List, Vec, Global, Result, Ok, Err, IfOk, IfErr, OnOk, MatchResult, Option, Some, None, map, codes, refl, ap, sym, subst, inr}
use Rattle.flac_meta.specs.Listed.{list_fault, info_seen}
use Rattle.std.proofs.lemmas.List.{map-append}
use Rattle.flac_meta.specs.declared.block.Block.{Block}
use Rattle.flac_meta.specs.declared.block.Block.TheVariants as block_of
use Rattle.flac_meta.specs.declared.comments.Comments.{Comments}
use Rattle.flac_cli.specs.Encoded.{comments_of}
use Rattle.flac_cli.specs.Speakers.{words_with}
use Rattle.flac_cli.specs.Waves.{riff_block, kept_list}
use Rattle.flac_cli.proofs.encode_wave.kept_list.Goals as goal

then_refused : {X E : Type 0} (r : Result X E) (P : X → Type 0) (Q R : E → Type 0) → ((e : E) → Q e → R e) → MatchResult r P Q → IfErr r R
then_refused (Ok x) P Q R f h = tt
then_refused (Err e) P Q R f h = f e h

then_found : {X E : Type 0} (r : Result X E) (P R : X → Type 0) (Q : E → Type 0) → ((x : X) → P x → R x) → MatchResult r P Q → IfOk r R
then_found (Ok x) P R Q f h = f x h
then_found (Err e) P R Q f h = tt

abbrev items : Vec ℕ Global → List ℕ
items v = v.items

riff_all : (ps : List (Vec ℕ Global)) → map (λ p. riff_block (items p)) ps ≡ map riff_block (map items ps)
riff_all [] = refl
riff_all (p ∷ ps) = ap (λ l. riff_block (items p) ∷ l) (riff_all ps)

all_blocks : (c : Comments) (words : List (List ℕ)) (before after : List (Vec ℕ Global)) (first then last : List Block) → c ≡ comments_of words → first ≡ block_of.VorbisComment c ∷ [] → then ≡ first ++ map (λ p. riff_block (items p)) before
    → last ≡ then ++ map (λ p. riff_block (items p)) after → last ≡ kept_list words (map items before ++ map items after)
all_blocks c words before after first then last is one two three =
    three ∙ (ap (λ l. l ++ map (λ p. riff_block (items p)) after) (two ∙ ap (λ l. l ++ map (λ p. riff_block (items p)) before) one)
    ∙ (ap (λ b. b ∷ (map (λ p. riff_block (items p)) before ++ map (λ p. riff_block (items p)) after)) (ap block_of.VorbisComment is)
    ∙ ap (λ l. block_of.VorbisComment (comments_of words) ∷ l) (ap (λ l. l ++ map (λ p. riff_block (items p)) after) (riff_all before) ∙ (ap (λ l. map riff_block (map items before) ++ l) (riff_all after)
    ∙ sym (map-append riff_block (map items before) (map items after))))))

abbrev made : List ℕ → List (List ℕ) → Comments
made vendor list = record { vendor = vendor; list = list }

comments_are : (vendor : List ℕ) (list words : List (List ℕ)) → vendor ≡ codes "flac profile 1" → list ≡ words → made vendor list ≡ comments_of words
comments_are vendor list words v l = ap (λ k. made k list) v ∙ ap comments_of l

with_words : (all c : Comments) (words : List (List ℕ)) (mask : Option ℕ) → c ≡ comments_of words → all.vendor ≡ c.vendor → all.list ≡ words_with c.list mask → all ≡ comments_of (words_with words mask)
with_words all c words mask is v l =
    comments_are all.vendor all.list (words_with words mask) (v ∙ ap (λ (k : Comments). k.vendor) is) (l ∙ ap (λ (k : Comments). words_with k.list mask) is)

pub returns : goal.returns
returns c =
    let words = words_with (map (λ w. w.now) c.args.words.now) c.args.mask in
    let own = c.in_ok-comments.ensures.comments in
    let own_words = with_words c.in_ok-all.all c.in_ok-comments.comments (map (λ w. w.now) c.args.words.now) c.args.mask own c.in_ok-all.ensures.vendor c.in_ok-all.ensures.list in
    let all = all_blocks c.in_ok-all.all words c.args.before.now c.args.after.now c.push.new.self.items c.keep.new.blocks.items c.keep-2.new.blocks.items
    own_words (c.in_ok-push.ensures.items ∙ ap (λ l. l ++ block_of.VorbisComment c.in_ok-all.all ∷ []) c.new-blocks.ensures.items) c.in_ok-keep.ensures c.in_ok-keep-2.ensures in
    record {
      list = then_found c.new.result _ _ _ (λ list is. is ∙ all) c.new.ensures.found;
      accepted = subst (λ l. OnOk c.new.result (list_fault info_seen l ≡ None)) all c.new.ensures.good;
      refused = then_refused c.new.result _ _ _ (λ e h. inr (subst (λ l. list_fault info_seen l ≡ Some e) all h)) c.new.ensures.found;
    }
