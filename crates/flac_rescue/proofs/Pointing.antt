-- Points of frames that follow each other.
use Rattle.std.proofs.Common.{◌≡◌, ℕ, ◌+◌, ◌-◌, List, [], ◌∷◌, ◌++◌, length, refl, sym, ap, subst, ◌∙◌, arith}
use Rattle.flac_info.specs.Info.{Info}
use Rattle.flac_meta.specs.declared.seek_table.SeekPoint.{SeekPoint}
use Rattle.flac_header.specs.declared.subset.Profile.TheVariants.{Lax}
use Rattle.flac_frame.specs.Frame.{Frame, first_sample}
use Rattle.flac_salvage.specs.Standing.{Stands}
use Rattle.flac_rescue.specs.Points.{Sized, samples_in, bytes_in, FollowFrom, point_of, points_in, ArePointsFrom}

-- up to an offset and a sample
pub record PointsTo (i : Info) (bytes : List ℕ) (front every at sample : ℕ) (points : List SeekPoint) : Type 0 where
  pub frames : List Sized
  pub follow : FollowFrom i bytes front frames
  pub end : front + bytes_in frames ≡ at
  pub count : samples_in frames ≡ sample
  pub are : points ≡ points_in every frames

module _ (i : Info) (bytes : List ℕ) (front every : ℕ) where
  pub no_points : PointsTo i bytes front every front 0 []
  no_points = record { frames = []; follow = tt; end = omega arith; count = refl; are = refl }

  pub and_point : (at sample : ℕ) (points more : List SeekPoint) (f : Frame) (n : ℕ) → PointsTo i bytes front every at sample points → Stands Lax i bytes at f n → first_sample i.greatest_block f ≡ sample
      → more ≡ points ++ point_of every sample (at - front) f.size → PointsTo i bytes front every (at + n) (sample + f.size) more
  and_point at sample points more f n so_far stands first is =
      let there = so_far.end in
      let offset : at - front ≡ bytes_in so_far.frames = omega (arith, there) in
      record {
        frames = record { frame = f; bytes = n } ∷ so_far.frames;
        follow = (so_far.follow, subst (λ k. Stands Lax i bytes k f n) (sym there) stands, first ∙ sym so_far.count);
        end = omega (arith, there);
        count = ap (λ k. k + f.size) so_far.count;
        are = is ∙ ap (λ (l : List SeekPoint). l ++ point_of every sample (at - front) f.size) so_far.are ∙ ap (λ k. points_in every so_far.frames ++ point_of every k (at - front) f.size) (sym so_far.count) ∙ ap (λ k. points_in every so_far.frames ++ point_of every (samples_in so_far.frames) k f.size) offset;
      }

  pub all_points : (at sample : ℕ) (points : List SeekPoint) → PointsTo i bytes front every at sample points → at ≡ length bytes → ArePointsFrom i bytes front every points
  all_points at sample points so_far end = record { frames = so_far.frames; follow = so_far.follow; all = so_far.end ∙ end; are = so_far.are }
