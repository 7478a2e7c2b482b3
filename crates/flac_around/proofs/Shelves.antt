-- Files of a list that are read between tags.
use Rattle.std.proofs.Common.{◌≡◌, ◌∷◌, [], ℕ, Bool, true, false, List, Option, Some, None, map, option_map, refl, sym, ap, subst, ◌∙◌}
use Rattle.std.specs.Prelude.{cond, is_some, IfSome}
use Rattle.flac_bits.specs.State.{After}
use Rattle.flac_bits.specs.declared.source.Source as source
use Rattle.flac_shelf.specs.Listed.{Listed, Contents, Opens, IsEdges, AreEdges}
use Rattle.flac_shelf.specs.declared.edges.Edges.{Edges}
use Rattle.flac_around.specs.Around.{middle_of, has_tags}
use Rattle.flac_around.specs.Coming.{inside, ghosts_of}
use Rattle.flac_around.specs.Shelves.{between_contents, between_listed}
use Rattle.flac_around.specs.declared.between.Between.{Between}

pub next_listed : (there : Bool) (files more : List Listed) (at : Listed) → files ≡ cond there (at ∷ more) [] → map between_listed files ≡ cond there (between_listed at ∷ map between_listed more) []
next_listed true files more at is = ap (map between_listed) is
next_listed false files more at is = ap (map between_listed) is

pub over_listed : (more : List Listed) → more ≡ [] → map between_listed more ≡ []
over_listed more none = ap (map between_listed) none

pub again_listed : (again : Bool) (contents : Option Contents) → IfSome contents (λ of. again ≡ of.again) → IfSome (between_contents contents) (λ of. again ≡ of.again)
again_listed again None is = tt
again_listed again (Some of) is = is

abbrev edges_in : Edges → Option Edges → Edges
edges_in other None = other
edges_in other (Some e) = e

pub tagged_listed : (found : Bool) (e : Edges) (stored : Option (List ℕ)) → AreEdges stored (Some e) → ((bytes : List ℕ) → IsEdges bytes e → found ≡ has_tags bytes) → Some found ≡ option_map has_tags stored
tagged_listed found e None are says = absurd cc
tagged_listed found e (Some bytes) are says =
    let same : are.0 ≡ e = ap (edges_in e) (sym are.1) in
    ap Some (says bytes (subst (IsEdges bytes) same are.2))

pub untagged_listed : (stored : Option (List ℕ)) → AreEdges stored None → ◌≡◌ {A = Option Bool} None (option_map has_tags stored)
untagged_listed None are = refl
untagged_listed (Some bytes) are = absurd (let e = are.1 in cc)

module _ {S : Type 0} (g : source.Ghosts S) where
  abbrev between_ghosts : source.Ghosts (Between S)
  between_ghosts = ghosts_of g

  pub opens_between : (contents : Option Contents) (file : S) (b : Between S) → b.source ≡ file → between_ghosts.coming b ≡ inside g file → Opens g contents file → Opens between_ghosts (between_contents contents) b
  opens_between contents file b same bytes o =
      let fails = is_some o.of.after.fails in
      record {
        of = record o.of { bytes = middle_of fails o.of.bytes };
        is = ap between_contents o.is;
        known = ap g.known same ∙ o.known;
        coming = bytes ∙ ap (λ (a : After). middle_of (is_some a.fails) (g.coming file)) o.after ∙ ap (middle_of fails) o.coming;
        after = ap g.after same ∙ o.after;
        errors = ap g.errors same ∙ o.errors;
        raised = ap g.raised same ∙ o.raised;
      }
