use Rattle.std.proofs.Common.{◌≡◌, ◌<◌, ◌≤◌, ◌+◌, ◌∙◌, ℕ, List, [], ◌∷◌, ◌++◌, take, length, map, get_or, codes, refl, ap, sym}
use Rattle.std.proofs.lemmas.List.{take_more, take_all}
use Rattle.std.proofs.lemmas.Result.{err_from_is_err_and}
use Rattle.flac_meta.specs.declared.comments.Comments.{Comments}
use Rattle.flac_cli.specs.Encoded.{comments_of}
use Rattle.flac_cli.proofs.comments.comments_of.Goals as goal

map_pushed : {A B : Type 0} (f : A → B) (xs : List A) (x : A) → map f (xs ++ x ∷ []) ≡ map f xs ++ f x ∷ []
map_pushed f [] x = refl
map_pushed f (y ∷ ys) x = ap (λ l. f y ∷ l) (map_pushed f ys x)

-- one value more
one_more : {A B : Type 0} (f : A → B) (xs : List A) (i : ℕ) (d : A) (old new : List B) (y : B) → i < length xs → old ≡ map f (take i xs) → y ≡ f (get_or xs i d) → new ≡ old ++ y ∷ [] → new ≡ map f (take (i + 1) xs)
one_more f xs i d old new y lt is at pushed =
    pushed ∙ ap (λ l. l ++ y ∷ []) is ∙ ap (λ z. map f (take i xs) ++ z ∷ []) at ∙ sym (map_pushed f (take i xs) (get_or xs i d)) ∙ ap (map f) (sym (take_more xs i d lt))

all_of : {A B : Type 0} (f : A → B) (xs : List A) (i : ℕ) (ys : List B) → ys ≡ map f (take i xs) → length xs ≤ i → ys ≡ map f xs
all_of f xs i ys is all = is ∙ ap (map f) (take_all i xs all)

abbrev made : List ℕ → List (List ℕ) → Comments
made vendor list = record { vendor = vendor; list = list }

comments_are : (vendor : List ℕ) (list words : List (List ℕ)) → vendor ≡ codes "flac profile 1" → list ≡ words → made vendor list ≡ comments_of words
comments_are vendor list words v l = ap (λ k. made k list) v ∙ ap comments_of l

pub loop-word-init : goal.loop-word-init
loop-word-init c = c.in_ok-texts.ensures.items

pub loop-word-preserved : goal.loop-word-preserved
loop-word-preserved c =
    one_more (λ w. w.now) c.args.words.now c.loop-word.word-index _ c.loop-word.texts.items c.push.new.self.items c.from_vec.result c.loop-word-test.true c.loop-word.invariant
    (c.from_vec.ensures ∙ c.in_ok-text.ensures.items ∙ c.as_bytes.ensures.value) c.in_ok-push.ensures.items

pub returns : goal.returns
returns c =
    let all = all_of (λ w. w.now) c.args.words.now c.loop-word.word-index c.loop-word.texts.items c.loop-word.invariant c.loop-word-test.false in
    record {
      comments = comments_are c.from_vec-2.result c.from_vec-3.result _ (c.from_vec-2.ensures ∙ c.in_ok-vendor.ensures.items) (c.from_vec-3.ensures ∙ all);
      memory = tt;
    }

pub returns-in_err-texts : goal.returns-in_err-texts
returns-in_err-texts c =
    let p = err_from_is_err_and c.from_residual.result c.from_residual.ensures.1 in
    rw (p.1, p.2) (record { comments = tt; memory = refl })

pub returns-in_err-text : goal.returns-in_err-text
returns-in_err-text c =
    let p = err_from_is_err_and c.from_residual-in_err-text.result c.from_residual-in_err-text.ensures.1 in
    rw (p.1, p.2) (record { comments = tt; memory = refl })

pub returns-in_err-push : goal.returns-in_err-push
returns-in_err-push c =
    let p = err_from_is_err_and c.from_residual-in_err-push.result c.from_residual-in_err-push.ensures.1 in
    rw (p.1, p.2) (record { comments = tt; memory = refl })

pub returns-in_err-vendor : goal.returns-in_err-vendor
returns-in_err-vendor c =
    let p = err_from_is_err_and c.from_residual-in_err-vendor.result c.from_residual-in_err-vendor.ensures.1 in
    rw (p.1, p.2) (record { comments = tt; memory = refl })
