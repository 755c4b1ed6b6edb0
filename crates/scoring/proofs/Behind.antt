-- A play that is put after its map in the file gets there what it gets beside the map: its record has 8 for the same fields, and is the file's
-- only play else.
use Rattle.rules.specs.declared.refusal.Rule.{Rule}
use mathlib.Core.Path.{◌≡◌, refl, sym, ap, ap₂, ◌∙◌}
use mathlib.Core.Bool.{Bool, true, false}
use mathlib.Core.List.{List, [], ◌∷◌, ◌++◌, append-nil}
use Prim.Native.Nat.{ℕ}
use lib.ListN.{length}
use Rattle.rules.specs.Refusals.{Checked, good, refused, ◌>>=◌, ◌>>◌, refuse◌when◌, OrRefusal, refusal_at, PLAY_FIELD, at_offset}
use Rattle.records.specs.Records.{play, play_of}
use Rattle.map_file.specs.File.{Map, file_of}
use Rattle.play_state.specs.declared.Play.{Play}
use Rattle.encoding.specs.Limits.{MapWithin, PlaySized}
use Rattle.encoding.specs.Encoding.{map_file, play_bytes}
use Rattle.encoding.proofs.RecordsBack.{play_read}
use Rattle.encoding.proofs.RoundTrip.{RefusedBehind, PlayBehind, refused_play, last-play}
use Rattle.simulator.specs.Attributes.{score_attributes_at}
use Rattle.play_score.specs.PlayRules.{mods_bad, given_score}
use Rattle.scoring.specs.Scores.{Scores, play_score_on, play_scores, scores_of}
use Rattle.play_score.specs.declared.PlayScore.{PlayScore}
use Rattle.scoring.proofs.Lists.{scores_none, scores_one}

-- a file's scores with one play
abbrev alone : Map → ℕ → Checked PlayScore → OrRefusal Scores
alone m at x = at_offset at x >>= λ s. good (record { map = m; plays = s ∷ [] })

alone_is : (m : Map) (at : ℕ) (x : Checked PlayScore)
    → ((at_offset at x >>= λ s. good (s ∷ [])) >>= λ ss. good (record { map = m; plays = ss })) ≡ alone m at x
unfolding ◌>>=◌
alone_is m at (refused n) = refl
alone_is m at (good s) = refl

module _ (m : Map) where
  refused_scores : (n : Rule) (s : List ℕ) → RefusedBehind m n s → scores_of (file_of s) ≡ refused (refusal_at n (length (map_file m)))
  unfolding ◌>>◌
  refused_scores n s k =
      ap scores_of k.read
      ∙ ap (λ (l : List (ℕ × Play)). play_scores k.file.map l >> refused (refusal_at n (length (map_file m)))) k.no_plays
      ∙ rw (scores_none k.file.map)

  play_scores_lem : (p : Play) (s : List ℕ) → PlayBehind m p s → scores_of (file_of s) ≡ alone m (length (map_file m)) (play_score_on m p)
  play_scores_lem p s k =
      ap scores_of k.read
      ∙ ap₂ (λ (x : Map) (l : List (ℕ × Play)). play_scores x l >>= λ ss. good (record { map = x; plays = ss })) k.map_back k.plays_back
      ∙ rw (scores_one m (length (map_file m)) p) (alone_is m (length (map_file m)) (play_score_on m p))

record_read_lem : (p : Play) → PlaySized p → play_of (play_bytes p ++ []) ≡ ((refuse PLAY_FIELD when mods_bad p.mods) >> good (play p, 44))
unfolding mods_bad
record_read_lem p v = play_read p [] v

-- "put after the map in the file, gets that same number": 8, then 9, at the play's own offset; and the values of the play where it gets none
pub behind-map : (m : Map) (p : Play) → MapWithin m → PlaySized p
    → scores_of (file_of (map_file m ++ play_bytes p))
    ≡ (at_offset (length (map_file m)) (given_score p (score_attributes_at m p.passed_objects)) >>= λ s. good (record { map = m; plays = s ∷ [] }))
unfolding given_score ◌>>=◌ ◌>>◌ refuse◌when◌
behind-map m p w v =
    ap (λ (l : List ℕ). scores_of (file_of (map_file m ++ l))) (sym (append-nil (play_bytes p))) ∙ go (mods_bad p.mods) (record_read_lem p v)
  where
    go : (b : Bool) → play_of (play_bytes p ++ []) ≡ ((refuse PLAY_FIELD when b) >> good (play p, 44))
        → scores_of (file_of (map_file m ++ (play_bytes p ++ []))) ≡ alone m (length (map_file m)) ((refuse PLAY_FIELD when b) >> play_score_on m p)
    go true e = refused_scores m PLAY_FIELD (map_file m ++ (play_bytes p ++ [])) (refused_play m p [] PLAY_FIELD w e)
    go false e = play_scores_lem m p (map_file m ++ (play_bytes p ++ [])) (last-play m p w e)
