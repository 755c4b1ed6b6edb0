-- The answers of the calls on a whole file, from its map and the end of its plays.
use Rattle.std.specs.Prelude.{Some}
use Rattle.rules.specs.Refusals.{good}
use mathlib.Core.Path.{◌≡◌, sym, ap, ◌∙◌}
use mathlib.Core.List.{List}
use Prim.Native.Nat.{ℕ, ◌≤◌}
use native.Mathlib.Omega.{arith}
use borrow.Author.Tests.{lt-ltb, le-ltb}
use lib.ListN.{length}
use lib.Seq.{take_all}
use Rattle.records.specs.Objects.{bonus}
use Rattle.map_file.specs.File.{File, Result, counts_of, file_of}
use Rattle.map_file.specs.File.{Map as MapData}
use Rattle.map_file.specs.View.{view}
use Rattle.map_reader.specs.Objects.{bonus_of}
use Rattle.map_reader.specs.Map.{MapIs}
use Rattle.map_reader.specs.Attributes.{attributes_in}
use Rattle.map_reader.specs.declared.map.Map.{Map}
use Rattle.map_reader.proofs.Files.{state_bonus}
use Rattle.map_reader.proofs.Mapping.{chain_rank}
use Rattle.map_reader.proofs.Attributed.{limits, attributes_are}
use Rattle.simulator.specs.Attributes.{score_attributes_at}
use Rattle.simulator.specs.declared.attributes.ScoreAttributes.{ScoreAttributes}
use Rattle.play_reader.specs.Plays.{Place, first, later, Reached, MapFileOf, all}
use Rattle.play_reader.specs.View.{last_rank, reader_in, answer_of, simulated_of}
use Rattle.play_reader.proofs.Playing.{reached_end, end_is}

module _ {s : List ℕ} {p : ℕ} {m : Map} (k : MapIs s p m) (f : File) (w : Reached k f) (h : length s ≤ f.at) where
  rank_is : Some (last_rank (length s) m) ≡ f.last
  rank_is = go w.place
    where
      go : Place k.file f → Some (last_rank (length s) m) ≡ f.last
      go (first e) =
          let end = k.end in
          let at = ap (λ (g : File). g.at) e in
          rw (le-ltb m.end (length s) (omega (arith, end, at, h)), k.breaks, k.objects)
          (chain_rank s k.file k.chain k.begun k.no_play ∙ ap (λ (g : File). g.last) (sym e))
      go (later e l) =
          let end = k.end in
          let at = end_is k w h in
          rw (lt-ltb m.end (length s) (omega (arith, end, at, l))) (sym e)

  all_passed : length k.file.map.objects ≤ p → bonus_of m.passed ≡ bonus f.map.objects
  all_passed l =
      state_bonus k.passed
      ∙ ap bonus (take_all p k.file.map.objects l)
      ∙ ap (λ (n : MapData). bonus n.objects) (sym w.map)

  view_is : length k.file.map.objects ≤ p → reader_in (length s) m ≡ view f
  unfolding view counts_of
  view_is l = rw (rank_is, all_passed l, k.settings, k.breaks, k.objects, sym (end_is k w h), w.map)

-- 2 ^ 64 - 1 passed objects are all
pub answers : (s : List ℕ) (m : Map) → MapFileOf s 18446744073709551615 (good m) → good (reader_in (length s) m) ≡ answer_of (file_of s)
answers s m (all k f w h) =
    let few = (limits k).few_objects in
    ap good (view_is k f w h (omega (arith, few))) ∙ sym (ap answer_of (reached_end k w h))

pub simulates : (s : List ℕ) (p : ℕ) (m : Map) (a : ScoreAttributes) → MapFileOf s p (good m) → a ≡ attributes_in s m → good a ≡ simulated_of (file_of s) p
simulates s p m a (all k f w h) e =
    ap good (e ∙ attributes_are k ∙ ap (λ (n : MapData). score_attributes_at n p) (sym w.map)) ∙ sym (ap (λ (r : Result). simulated_of r p) (reached_end k w h))

pub file-map : {s : List ℕ} {p : ℕ} {m : Map} → MapFileOf s p (good m) → MapIs s p m
file-map (all k f w h) = k
