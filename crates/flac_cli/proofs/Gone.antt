-- Files of an older report that were not met, one after another.
use Rattle.std.proofs.Common.{◌≡◌, ◌≤◌, ◌<◌, ℕ, Bool, true, false, List, [], ◌∷◌, ◌++◌, length, refl, sym, ap, ◌∙◌, append-nil, append_assoc, arith}
use Rattle.flac_bits.specs.declared.target.Target as target
use Rattle.flac_cli.specs.Verified.{gone_line, gone_lines}
use Rattle.flac_cli.specs.inner.Verifying.{IsTold}

module _ {T : Type 0} (g : target.Ghosts T) where
  -- The lines so far are those of the paths that are not left.
  pub record GoneSoFar (all left : List (List ℕ)) (old new : T) (is_gone : Bool) : Type 0 where
    pub kept : g.errors old ≤ g.errors new
    pub told : g.known old ≡ true → g.errors new ≡ g.errors old → (g.known new ≡ true) × (g.sent new ++ gone_lines left ≡ g.sent old ++ gone_lines all)
    pub none : is_gone ≡ false → left ≡ all
    pub some : is_gone ≡ true → 0 < length all
    pub few : length left ≤ length all

  pub begins_gone : (all : List (List ℕ)) (t : T) → GoneSoFar all all t t false
  begins_gone all t = record {
    kept = omega arith;
    told = λ k same. (k, refl);
    none = λ fails. refl;
    some = λ holds. absurd cc;
    few = omega arith;
  }

  pub more_gone : {all left rest : List (List ℕ)} {old mid new : T} {was : Bool} (path : List ℕ) → GoneSoFar all left old mid was → left ≡ path ∷ rest → IsTold g (gone_line path) mid new → GoneSoFar all rest old new true
  more_gone {all = all} {left = left} {rest = rest} {old = old} {mid = mid} {new = new} path so is t =
      let longer : length left ≡ length (path ∷ rest) = ap length is in
      record {
        kept = omega (arith, so.kept, t.kept);
        told = λ k same.
            let calm : g.errors mid ≡ g.errors old = omega (arith, so.kept, t.kept, same) in
            let now : g.errors new ≡ g.errors mid = omega (arith, so.kept, t.kept, same) in
            let before = so.told k calm in
            let after = t.told before.0 now in
            (after.0, ap (λ l. l ++ gone_lines rest) after.1 ∙ append_assoc (g.sent mid) (gone_line path) (gone_lines rest) ∙ ap (λ ls. g.sent mid ++ gone_lines ls) (sym is) ∙ before.1);
        none = λ fails. absurd cc;
        some = λ holds. omega (arith, longer, so.few);
        few = omega (arith, longer, so.few);
      }

  pub shorter : (path : List ℕ) (left rest : List (List ℕ)) → left ≡ path ∷ rest → length rest < length left
  shorter path left rest is = let longer : length left ≡ length (path ∷ rest) = ap length is in omega (arith, longer)

  pub all_gone : {all left : List (List ℕ)} {old new : T} {is_gone : Bool} → GoneSoFar all left old new is_gone → left ≡ [] → g.known old ≡ true → g.errors new ≡ g.errors old → g.sent new ≡ g.sent old ++ gone_lines all
  all_gone {new = new} so none k same = sym (append-nil (g.sent new)) ∙ ap (λ ls. g.sent new ++ gone_lines ls) (sym none) ∙ (so.told k same).1

  pub none_gone : {all left : List (List ℕ)} {old new : T} {is_gone : Bool} → GoneSoFar all left old new is_gone → left ≡ [] → is_gone ≡ false → all ≡ []
  none_gone so none fails = sym (so.none fails) ∙ none

  pub is_none_gone : {all left : List (List ℕ)} {old new : T} (is_gone : Bool) → GoneSoFar all left old new is_gone → all ≡ [] → is_gone ≡ false
  is_none_gone {all = all} true so none = let long = so.some refl in let short : length all ≡ 0 = ap length none in absurd (omega (arith, long, short))
  is_none_gone false so none = refl
