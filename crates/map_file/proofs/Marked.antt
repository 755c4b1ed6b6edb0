-- The checks of a record by its mark: one that is cut or unknown is refused before all else.
use mathlib.Core.Path.{◌≡◌, refl, sym, ap, ◌∙◌}
use mathlib.Core.Bool.{Bool, true, false, not}
use mathlib.Core.List.{List}
use Prim.Native.Nat.{ℕ}
use lib.Dec.{eqb, ltb}
use lib.ListN.{length}
use Rattle.std.specs.Prelude.{Option, Some}
use Rattle.numbers.specs.Words.{word_at}
use Rattle.rules.specs.Refusals.{Checked, good, refused, ◌>>=◌, ◌>>◌, refuse◌when◌, pick, CUT, MARK, COUNT, BONUS}
use Rattle.rules.specs.declared.refusal.Rule.{Rule}
use Rattle.rules.proofs.Laws.{never}
use Rattle.records.specs.Fields.{cut}
use Rattle.records.specs.Marks.{MH, BR, CI, SL, SP, PL, mark_of, mark_in, word_of}
use Rattle.records.specs.Records.{FoundRecord}
use Rattle.records.specs.declared.mark.Mark.{Mark}
use Rattle.records.specs.declared.mark.Mark.TheVariants as mark
use Rattle.records.proofs.Marks.{word_is}
use Rattle.map_file.specs.Order.{no_rank, header_rank, break_rank, object_rank, play_rank, rank_by, rank_of, in_order, is_full, over_bonus, content_bonus, body_of, record_of}
use Rattle.map_file.specs.declared.file.Counts.{Counts}
use Rattle.map_file.specs.declared.file.Rank.{Rank}

rank_word : (m : Mark) → rank_of (word_of m) ≡ Some (rank_by m)
rank_word mark.Header = refl
rank_word mark.Break = refl
rank_word mark.Circle = refl
rank_word mark.Slider = refl
rank_word mark.Spinner = refl
rank_word mark.Play = refl

-- the checks behind the mark's, by its place and its word
abbrev behind : Option Rank → List ℕ → Counts → ℕ → FoundRecord
behind p r c w = do
  refuse MARK when not (in_order c.last p)
  refuse COUNT when is_full c p
  found ← body_of r w
  refuse BONUS when over_bonus c (content_bonus found.0)
  good found

abbrev pub record_with : List ℕ → Counts → Mark → FoundRecord
record_with r c m = behind (Some (rank_by m)) r c (word_of m)

known : (r : List ℕ) (c : Counts) (m : Mark) → mark_of (word_at r 0 2) ≡ good m → behind (rank_of (word_at r 0 2)) r c (word_at r 0 2) ≡ record_with r c m
known r c m e = ap (λ (w : ℕ). behind (rank_of w) r c w) (word_is (word_at r 0 2) m e) ∙ ap (λ p. behind p r c (word_of m)) (rank_word m)

-- an unknown mark has no place, so that it is out of order
unknown : (w : ℕ) (n : Rule) → mark_of w ≡ refused n → (rank_of w ≡ no_rank) × (MARK ≡ n)
unknown w n e = go (eqb w CI) (eqb w SL) (eqb w SP) (eqb w MH) (eqb w BR) (eqb w PL) e
  where
    marked : Bool → Bool → Bool → Bool → Bool → Bool → Checked Mark
    marked c s p h b l = pick c (good mark.Circle) (pick s (good mark.Slider) (pick p (good mark.Spinner) (pick h (good mark.Header) (pick b (good mark.Break) (pick l (good mark.Play) (refused MARK))))))

    placed : Bool → Bool → Bool → Bool → Bool → Bool → Option Rank
    placed c s p h b l = pick h header_rank (pick b break_rank (pick c object_rank (pick s object_rank (pick p object_rank (pick l play_rank no_rank)))))

    go : (c s p h b l : Bool) → marked c s p h b l ≡ refused n → (placed c s p h b l ≡ no_rank) × (MARK ≡ n)
    go true s p h b l q = cc
    go false true p h b l q = cc
    go false false true h b l q = cc
    go false false false true b l q = cc
    go false false false false true l q = cc
    go false false false false false true q = cc
    go false false false false false false q = (refl, cc)

marked_first : (b : Bool) (r : List ℕ) (c : Counts) (x : Checked Mark) → mark_of (word_at r 0 2) ≡ x
    → ((refuse CUT when b) >> behind (rank_of (word_at r 0 2)) r c (word_at r 0 2)) ≡ (((refuse CUT when b) >> x) >>= (λ m. record_with r c m))
unfolding ◌>>=◌ ◌>>◌ refuse◌when◌
marked_first true r c x e = refl
marked_first false r c (good m) e = known r c m e
marked_first false r c (refused n) e = let u = unknown (word_at r 0 2) n e in ap (λ p. behind p r c (word_at r 0 2)) u.0 ∙ ap refused u.1

pub record_by_mark : (r : List ℕ) (c : Counts) → record_of r c ≡ (mark_in r >>= (λ m. record_with r c m))
unfolding record_of mark_in
record_by_mark r c = marked_first (cut r 2) r c (mark_of (word_at r 0 2)) refl
