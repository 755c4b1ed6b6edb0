-- What the loop that writes the plays' lines keeps: the page has the lines of the plays read so far behind what it had before. Assumes nothing.
use Rattle.rules.specs.declared.refusal.Rule.{Rule}
use Rattle.rules.specs.Refusals.{good, refused, refusal_at, PLAY_EXCEEDS}
use mathlib.Core.Path.{◌≡◌, refl, sym, ap, ◌∙◌, subst}
use mathlib.Core.Bool.{Bool, true, false}
use mathlib.Core.List.{List, [], ◌∷◌, ◌++◌, append-nil, append_assoc}
use Prim.Native.Nat.{ℕ, suc, ◌+◌, ◌≤◌, ◌<◌, min}
use native.Mathlib.Omega.{arith}
use native.Mathlib.Nat.{add-zero}
use lib.ListN.{length, drop, get_or}
use Rattle.text.specs.Space.{behind}
use Rattle.text.specs.Pages.{put}
use Rattle.text.specs.declared.page.Page.{Page}
use Rattle.text.proofs.Space.{put-put, put_nothing}
use Rattle.lines.specs.Lines.{play_line}
use Rattle.map_file.specs.File.{file_of}
use Rattle.map_file.proofs.Reading.{chain_inside, length_snoc}
use Rattle.map_reader.specs.declared.map.Map.{Map}
use Rattle.map_reader.specs.declared.objects.Objects.{Objects}
use Rattle.marks.specs.Marks.{MarksOf, mark_before, attributes_from}
use Rattle.marks.specs.declared.Marks.{Marks}
use Rattle.marks.proofs.Marked.{marked_difficulty}
use Rattle.play_state.specs.declared.Play.{Play}
use Rattle.play_reader.specs.Plays.{play_in}
use Rattle.simulator.specs.Attributes.{score_attributes_at}
use Rattle.simulator.specs.declared.attributes.ScoreAttributes.{ScoreAttributes}
use Rattle.estimates.specs.Effective.{estimates_of}
use Rattle.estimates.specs.declared.calculator.Estimates.{Estimates}
use Rattle.play_score.specs.PlayRules.{exceeds}
use Rattle.play_score.proofs.Exceeding.{score_of, exceeds_refused, exceeds_not}
use Rattle.play_score.specs.declared.PlayScore.{PlayScore}
use Rattle.scoring.specs.Scores.{play_score_on, scores_of}
use Rattle.scoring.specs.View.{wanted_after, Playing}
use Rattle.scoring.specs.declared.plays.Wanted.{Wanted}
use Rattle.scoring.specs.declared.plays.Wanted.TheVariants as wanted
use Rattle.scoring.proofs.Playing.{map_of, playing_start, start_scores, playing_cut, playing_refused, playing_more, more_scores, playing_scores}
use Rattle.listing.specs.Listing.{play_lines, plays_text, GoodFile}
use Rattle.rules.proofs.Laws.{never}

-- the line of one more play
lines_more : (i : ℕ) (ss : List PlayScore) (s : PlayScore) → play_lines i (ss ++ (s ∷ [])) ≡ play_lines i ss ++ play_line (i + length ss) s.estimates
unfolding play_lines
lines_more i [] s = append-nil (play_line i s.estimates) ∙ ap (λ (n : ℕ). play_line n s.estimates) (sym (add-zero i))
lines_more i (x ∷ ss) s =
    let e : suc i + length ss ≡ i + suc (length ss) = omega arith in
    ap (λ (t : List ℕ). play_line i x.estimates ++ t) (lines_more (suc i) ss s ∙ ap (λ (n : ℕ). play_lines (suc i) ss ++ play_line n s.estimates) e)
    ∙ sym (append_assoc (play_line i x.estimates) (play_lines (suc i) ss) (play_line (i + suc (length ss)) s.estimates))

one_more : (ss : List PlayScore) (s : PlayScore) {index : ℕ} → index ≡ length ss
    → play_lines 0 ss ++ play_line index s.estimates ≡ play_lines 0 (ss ++ (s ∷ []))
one_more ss s {index = index} e =
    let n : index ≡ 0 + length ss = omega (arith, e) in
    ap (λ (i : ℕ). play_lines 0 ss ++ play_line i s.estimates) n ∙ sym (lines_more 0 ss s)

-- no line yet
none_written : (p : Page) → p.at ≤ length p.space.now → p ≡ put p (play_lines 0 [])
unfolding play_lines behind
none_written p h =
    let here : p.at ≡ min (length p.space.now) (p.at + 0) = omega (arith, h) in
    rw (put_nothing p.space.now p.at, ← here) refl

-- no play is wanted: the lines are of all
pub record Writing (s : List ℕ) (m : Map) (first : Page) (at index : ℕ) (page : Page) : Type 0 where
  pub wanted : Wanted
  pub playing : Playing s m at wanted 0
  pub count : index ≡ length playing.scores
  pub written : page ≡ put first (play_lines 0 playing.scores)

pub writing_start : {s : List ℕ} {m : Map} (k : GoodFile s m) (page : Page) → page.at ≤ length page.space.now → (at : ℕ) → at ≡ m.end → Writing s m page at 0 page
writing_start {s = s} {m = m} k page h at here =
    let none = sym (start_scores k.map 0) in
    subst (λ (e : ℕ). Writing s m page e 0 page) (sym here) record {
      wanted = wanted.Ahead 0;
      playing = playing_start k.map 0;
      count = ap length none;
      written = none_written page h ∙ ap (λ (ss : List PlayScore). put page (play_lines 0 ss)) none;
    }

-- its map ends within it
pub end_inside : {s : List ℕ} {m : Map} → GoodFile s m → m.end ≤ length s
end_inside {s = s} k = let e = k.map.end in let inside = chain_inside s k.map.file k.map.chain in omega (arith, e, inside)

-- a good file is not refused
not_refused : {A : Type 0} {s : List ℕ} {m : Map} (k : GoodFile s m) (n : Rule) (at : ℕ) → scores_of (file_of s) ≡ refused (refusal_at n at) → A
not_refused k n at e = let same = sym k.good ∙ e in never (cc)

module _ {s : List ℕ} {m : Map} {first : Page} {at index : ℕ} {page : Page} (k : Writing s m first at index page) where
  -- the attributes of the objects that a play passed
  abbrev at-passed : Play → ScoreAttributes
  at-passed q = score_attributes_at (map_of k.playing) q.passed_objects

  -- from its mark a play has its estimates
  pub from_mark : {marks : Marks} → MarksOf s m marks → (q : Play) (i : ℕ) (d : Objects) → i ≡ mark_before m.objects q → (a : ScoreAttributes)
      → a ≡ attributes_from false s m (get_or marks.states i d) q → (r : Estimates) → r ≡ estimates_of q a.difficulty → r ≡ estimates_of q (at-passed q).difficulty
  from_mark w q i d e a h r z = z ∙ ap (estimates_of q) (marked_difficulty k.playing.to.map q w i d e a h)

  module _ (h : at < length s) where
    pub writing_cut : {A : Type 0} → GoodFile s m → (n : Rule) → refused n ≡ play_in (drop at s) → A
    writing_cut ok n e = not_refused ok n at (playing_cut k.playing h n e)

    module _ (q : Play) (e : good q ≡ play_in (drop at s)) where
      writing_refused : {A : Type 0} → GoodFile s m → (n : Rule) → refused n ≡ (play_score_on (map_of k.playing) q) → A
      writing_refused ok n r = not_refused ok n at (playing_refused k.playing h q e n r)

      -- one more line
      writing_more : (y : PlayScore) → good y ≡ (play_score_on (map_of k.playing) q) → (page' : Page) → page' ≡ put page (play_line index y.estimates)
          → Writing s m first (at + 44) (index + 1) page'
      writing_more y r page' puts =
          let v = wanted_after k.wanted y in
          let more = sym (more_scores k.playing h q e y r v refl) in
          record {
            wanted = v;
            playing = playing_more k.playing h q e y r v refl;
            count = ap (λ (n : ℕ). n + 1) k.count ∙ sym (length_snoc k.playing.scores y) ∙ ap length more;
            written =
                puts ∙ ap (λ (p : Page). put p (play_line index y.estimates)) k.written ∙ put-put first (play_lines 0 k.playing.scores) (play_line index y.estimates)
                ∙ ap (put first) (one_more k.playing.scores y k.count ∙ ap (play_lines 0) more);
          }

      -- a good file's play is not refused, so that its estimates are those of its score
      pub writing_line : GoodFile s m → (r : Estimates) → r ≡ estimates_of q (at-passed q).difficulty → (page' : Page) → page' ≡ put page (play_line index r)
          → Writing s m first (at + 44) (index + 1) page'
      writing_line ok r z page' puts = go (exceeds q (at-passed q)) refl
        where
          go : (b : Bool) → exceeds q (at-passed q) ≡ b → Writing s m first (at + 44) (index + 1) page'
          go true x = writing_refused ok PLAY_EXCEEDS (exceeds_refused q (at-passed q) x)
          go false x = writing_more (score_of q (at-passed q)) (exceeds_not q (at-passed q) x) page' (puts ∙ ap (λ (u : Estimates). put page (play_line index u)) z)

  -- at the end of the file all plays have their line
  pub writing_done : length s ≤ at → page ≡ put first (plays_text (scores_of (file_of s)))
  writing_done h = k.written ∙ ap (put first) (sym (ap plays_text (playing_scores k.playing h)))
