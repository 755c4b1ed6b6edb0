-- The demands on the engine: the counterpart of docs/DEMANDS.md, which says which contracts the theorems are about. Each theorem stands
-- under the sentence that it answers. `file_of` and `scores_of` are what the contracts of the public calls say of the bytes that they are given.
use Rattle.std.specs.Prelude.{Some}
use mathlib.Core.Bool.{true}
use mathlib.Core.List.{List, [], ◌++◌}
use mathlib.Core.Logic.{◌≢◌}
use mathlib.Core.Path.{◌≡◌, sym, subst}
use Prim.Native.Nat.{ℕ, ◌+◌, ◌-◌, ◌*◌, ◌/◌, ◌≤◌, ◌<◌}
use lib.Ieee.{Float, to_unsigned}
use lib.ListN.{length, take, drop}
use Rattle.numbers.specs.Floats.{whole, ◌⊗◌}
use Rattle.numbers.proofs.words.Laws.{Bytes}
use Rattle.spinner.specs.HalfSpins.{total_half_spins, required_half_spins}
use Rattle.spinner.proofs.Walks.{ByCounts, by_counts, SpunByCounts, spun_by_counts}
use Rattle.rules.specs.Limits.{combo_limit}
use Rattle.rules.specs.Refusals.{good, BOARD, refused, refusal_at, at_0}
use Rattle.rules.specs.declared.refusal.Rule.{Rule}
use Rattle.play_state.specs.declared.Play.{Play}
use Rattle.records.specs.Objects.{Object}
use Rattle.records.specs.declared.beatmap.Settings.{Settings}
use Rattle.map_file.specs.File.{Map, File, accepted, file_of}
use Rattle.encoding.specs.Limits.{MapWithin, HitsWithin}
use Rattle.encoding.specs.Encoding.{map_file}
use Rattle.encoding.proofs.Accepted.{accepted_within}
use Rattle.encoding.proofs.RoundTrip.{bare}
use Rattle.ruleset.specs.Drain.{start_of, last_place}
use Rattle.ruleset.specs.Stars.{multiplier_at}
use Rattle.simulator.specs.Nested.{no_object, counted_all}
use Rattle.simulator.specs.Walk.{combo_points}
use Rattle.simulator.specs.Attributes.{score_attributes_at}
use Rattle.simulator.specs.declared.attributes.OsuDifficultyAttributes.{OsuDifficultyAttributes}
use Rattle.simulator.proofs.Exact.{rust_spinner_score}
use Rattle.estimates.specs.Effective.{estimates_of}
use Rattle.estimates.proofs.Range.{FromMissesToJudgements}
use Rattle.slider_breaks.specs.Given.{BreaksScore, with_breaks}
use Rattle.slider_breaks.specs.declared.calculator.SliderFactors.{SliderFactors}
use Rattle.slider_breaks.proofs.Range.{BreaksInRange}
use Rattle.scoring.specs.Scores.{Scores, scores_of, given_play_of}
use Rattle.scoring.proofs.Answers.{no_number}
use Rattle.scoring.proofs.Rules.{IsRule, refusal_rule}
use Rattle.entries.specs.Entry.{place_words}
use Rattle.tree.specs.Board.{board_of, starts_of}
use Rattle.tree.specs.Size.{cap_of}
use Rattle.board.specs.Read.{read_of}
use Rattle.board.specs.Edit.{object_in, edit_of}
use Rattle.board_build.specs.Build.{built}
use Rattle.listing.specs.Listing.{input_text, listed_of}
use Rattle.listing.proofs.Fits.{listing_told}
use Rattle.demands.specs.Calls.{is_accepted, AcceptedMap, changed, times_of, map_in, lent_for, lent_by, Call, edit, read, read_breaks, edits, reads, reads_breaks, answer, map_after_all, lent_after_all, MayStand, Claim}
use Rattle.board.proofs.Numbers.{Numbered, read_numbered}
use Rattle.demands.proofs.Refusals.{edit_numbered, BreaksNumbered, play_breaks_numbered, read_breaks_numbered, effective_of_a_play}
use Rattle.demands.proofs.Files.{scored_plays, plays_are_scored, RulesKept, only_when_kept, when_kept}
use Rattle.demands.proofs.Exactness.{combo_points_exact, spinner_score_exact, ProductExact, product_exact, SumsFit, sums_fit}
use Rattle.demands.proofs.DrainFits.{DrainFits, drain_fits}
use Rattle.demands.proofs.Never10.{Never10, ten_is_gone}
use Rattle.demands.proofs.BreaksRange.{breaks_of_a_play}
use Rattle.demands.proofs.Maps.{within_scored, accepted_is_within, within_is_accepted, accepted_gets_none}
use Rattle.demands.proofs.CallsRight.{edit_accepts, calls_right}
use Rattle.demands.proofs.Boards.{Leads, Touches, build_is_done}
use Rattle.demands.proofs.Boards as boards
use Rattle.demands.proofs.Lists.{left_by_a_list}

-- ---- Demand 1
-- "Fed anything, the program finishes", with its listing: the text of every input leaves room in the program's space of 262,144 bytes
pub every_listing_fits : (s : List ℕ) → listed_of (input_text s) 262144 ≡ Some (length (input_text s))
every_listing_fits = listing_told

-- "An input that breaks a rule of document 01 gets that rule's number": a refusal's number is that of a rule, 2 to 9 (1 is the program's own).
-- Which rule it is, `record_of` and `play_score` say check by check.
pub refused_by_a_rule : (s : List ℕ) (n : Rule) (at : ℕ) → scores_of (file_of s) ≡ refused (refusal_at n at) → IsRule n
refused_by_a_rule = refusal_rule

-- on any lent memory a refused edit or read has a number from 2 to 13 but for 10; so none has 0, which a host takes for a good call
pub refused_edit_by_a_rule : (b : List ℕ) (ts : List Float) (n place : ℕ) (r : List ℕ) → Numbered (edit_of b ts n place r)
refused_edit_by_a_rule = edit_numbered

pub refused_read_by_a_rule : (b : List ℕ) (ts : List Float) (n : ℕ) (s : Settings) (br : List Float) (p : Play) → Numbered (read_of b ts n s br p)
refused_read_by_a_rule = read_numbered

-- with factors a refusal has a number from 2 to 14 but for 10: of the call on a file, and of a read of any lent memory
pub refused_play_breaks_by_a_rule : (s : List ℕ) (p : Play) (f : SliderFactors) → BreaksNumbered (with_breaks p f (given_play_of p (scores_of (file_of s))))
refused_play_breaks_by_a_rule = play_breaks_numbered

pub refused_read_breaks_by_a_rule : (b : List ℕ) (ts : List Float) (n : ℕ) (s : Settings) (br : List Float) (p : Play) (f : SliderFactors)
    → BreaksNumbered (with_breaks p f (at_0 (read_of b ts n s br p)))
refused_read_breaks_by_a_rule = read_breaks_numbered

-- document 02, §3: "it is shown that 10 no longer occurs", in any call on any input and any lent memory
pub never_10 : Never10
never_10 = ten_is_gone

-- "one that breaks none gets none": a file that gets no number keeps the limits of every rule, and every map within them has a file that gets none
pub accepted_keeps_the_rules : (s : List ℕ) (sc : Scores) → scores_of (file_of s) ≡ good sc → MapWithin sc.map
accepted_keeps_the_rules s sc e = let k = no_number s sc e in subst MapWithin (sym k.map) (accepted_within s k.file k.read)

pub keeping_the_rules_is_accepted : (m : Map) → MapWithin m → scores_of (file_of (map_file m)) ≡ good (record { map = m; plays = [] })
keeping_the_rules_is_accepted = within_scored

-- the two together, of whole files: a file gets no number only when, and when, it is the file of a map within the limits with plays within theirs behind
-- it, none of which exceeds the map; its scores are then those of its plays
pub no_number_only_when_the_rules_are_kept : (s : List ℕ) → Bytes s → (sc : Scores) → scores_of (file_of s) ≡ good sc → RulesKept s
no_number_only_when_the_rules_are_kept = only_when_kept

pub no_number_when_the_rules_are_kept : (s : List ℕ) (k : RulesKept s)
    → scores_of (file_of s) ≡ good (record { map = k.map; plays = scored_plays k.map k.plays })
no_number_when_the_rules_are_kept = when_kept

-- ---- Demand 2
-- "For every accepted map, passed count and play all attributes and estimates have the Rust's values": those of `score_attributes_at` and
-- `estimates_of`, written from the public ScoreV1 rules and document 01's formulas (`scored` of proofs/Files), for the plays of a file in its order
pub record Values (s : List ℕ) (sc : Scores) : Type 0 where
  pub file : File
  pub read : file_of s ≡ accepted file
  pub map : sc.map ≡ file.map
  pub plays : sc.plays ≡ scored_plays file.map (bare file.plays)

pub values_are_the_definition's : (s : List ℕ) (sc : Scores) → scores_of (file_of s) ≡ good sc → Values s sc
values_are_the_definition's s sc e =
    let k = no_number s sc e in
    record { file = k.file; read = k.read; map = k.map; plays = plays_are_scored k.file.map k.file.plays sc.plays k.plays }

-- the effective miss count lies from the misses to the judgements, whatever the attributes
pub effective_misses_in_range : (p : Play) (a : OsuDifficultyAttributes) → HitsWithin p.hitresults → FromMissesToJudgements (estimates_of p a).effective p.hitresults
effective_misses_in_range = effective_of_a_play

-- document 02, §1: on every accepted play each of the two estimates of slider breaks lies from 0 to the play's 100s
pub slider_breaks_in_range : (s : List ℕ) (p : Play) (f : SliderFactors) (b : BreaksScore)
    → with_breaks p f (given_play_of p (scores_of (file_of s))) ≡ good b → BreaksInRange b.slider_breaks p.hitresults.n100
slider_breaks_in_range = breaks_of_a_play

-- "These products are exact; no cast saturates": for every accepted map and passed count, the Rust's float products and sums are the whole numbers of
-- the definitions
pub every_combo_product_is_exact : (m : Map) (p : ℕ) → AcceptedMap m → (c : ℕ) → c ≤ (score_attributes_at m p).legacy.max_combo
    → to_unsigned 31 (whole (c - 1) ⊗ whole (300 / 25) ⊗ whole (multiplier_at m p)) ≡ combo_points (multiplier_at m p) c 300
every_combo_product_is_exact = combo_points_exact

pub every_spinner_sum_is_exact : (m : Map) (p : ℕ) → AcceptedMap m
    → rust_spinner_score (whole 0) (take p m.objects) ≡ whole (counted_all no_object (take p m.objects)).spinner_score
every_spinner_sum_is_exact = spinner_score_exact

-- document 02, §3: "takes (max combo - 2) × max combo as an exact whole number, then as a float": the product of every combo within the limits is below
-- 2 ^ 53, so that its float is exact
pub every_score_combo_product_is_exact : (combo : ℕ) → combo ≤ combo_limit → ProductExact combo
every_score_combo_product_is_exact = product_exact

-- and no other sum of the source leaves its type: for every accepted map and passed count
pub every_sum_fits_its_type : (m : Map) (p : ℕ) → AcceptedMap m → SumsFit (score_attributes_at m p)
every_sum_fits_its_type = sums_fit

pub every_drain_fits_its_type : (m : Map) (p : ℕ) → AcceptedMap m → 1 ≤ length m.objects
    → DrainFits m (start_of m.objects (last_place (length m.objects) p))
every_drain_fits_its_type = drain_fits

-- document 02, §4: "after each half spin both sums are those of 01's rule so far": so promises the step (`half_spin` of spinner/src); here the sums
-- behind every half spin by the two counts, "and at the end, for each duration, those of the counts"
pub every_half_spin_by_counts : (b t : ℕ) → ByCounts b t
every_half_spin_by_counts = by_counts

pub every_spinner_by_counts : (d : Float) → SpunByCounts d (required_half_spins d + 3) (total_half_spins d)
every_spinner_by_counts = spun_by_counts

-- ---- Demand 3
-- "For every list of edits and reads that document 01 admits, refused calls included, on a board and start table built from an accepted map": the
-- claim, as demands/specs/Calls states it, with every answer in its place
pub every_list_of_calls : Claim
every_list_of_calls = calls_right

-- ".. built from an accepted map": a build of one with room for it is done
pub every_accepted_map_is_built : (m : Map) → AcceptedMap m → (b : List ℕ) (ts : List Float) → place_words * cap_of (length m.objects) ≤ length b
    → length m.objects ≤ length ts
    → built (scores_of (file_of (map_file m))) b ts
    ≡ (good tt, board_of m.objects ++ drop (place_words * cap_of (length m.objects)) b, starts_of m.objects ++ drop (length m.objects) ts)
every_accepted_map_is_built = build_is_done

-- the accepted maps are those within the limits
pub accepted_maps_are_within : (m : Map) → AcceptedMap m → MapWithin m
accepted_maps_are_within = accepted_is_within

pub maps_within_are_accepted : (m : Map) → MapWithin m → AcceptedMap m
maps_within_are_accepted = within_is_accepted

-- "after it the board is, entry for entry, and the start table, number for number, that of the map as the list has left it"
pub left_by_every_list : (s : List ℕ) (b : List ℕ) (ts : List Float) (cs : List Call)
    → (built (scores_of (file_of s)) b ts).0 ≡ good tt
    → MayStand cs (map_in (file_of s)) (lent_by s b ts)
    → AcceptedMap (map_after_all cs (map_in (file_of s)))
    × (lent_after_all cs (lent_by s b ts)
    ≡ lent_for (map_after_all cs (map_in (file_of s))) (drop (place_words * cap_of (length (map_in (file_of s)).objects)) b) (drop (length (map_in (file_of s)).objects) ts))
left_by_every_list = left_by_a_list

-- "An edit .. puts the object there exactly when document 01 accepts the map so changed": `edit_answer` goes by `is_accepted`, which for a changed map is
-- `AcceptedMap`
pub changed_map_accepted : (m : Map) → AcceptedMap m → (place : ℕ) (r : List ℕ) (o : Object) → object_in r ≡ good o → is_accepted (changed m place o) ≡ true
    → AcceptedMap (changed m place o)
changed_map_accepted = edit_accepts

pub accepted_map_gets_no_number : (m : Map) → AcceptedMap m → is_accepted m ≡ true
accepted_map_gets_no_number = accepted_gets_none

-- "so between two accepted maps of equal length, settings and breaks whose objects differ in one place only, one edit leads from the board of the
-- first to that of the second"
pub one_edit_leads : (m : Map) (place : ℕ) (o : Object) (words : List ℕ) (numbers : List Float) → AcceptedMap m → place < length m.objects
    → AcceptedMap (changed m place o) → Leads m place o words numbers
one_edit_leads = boards.one_edit_leads

-- "An edit may change only the entries that cover its place, at most 14, and its start time": on any lent memory
pub edit_touches_only : (b : List ℕ) (ts : List Float) (n place : ℕ) (r : List ℕ) (w : List ℕ × List Float) → edit_of b ts n place r ≡ good w → Touches n place b ts w
edit_touches_only = boards.edit_touches_only

-- no call on the board of an accepted map, with the map's count, settings and breaks, gets 13
pub never_13_edit : (m : Map) (words : List ℕ) (numbers : List Float) (place : ℕ) (r : List ℕ) → AcceptedMap m
    → answer (edit (length m.objects) place r) (lent_for m words numbers) ≢ edits (refused (refusal_at BOARD 0))
never_13_edit = boards.never_13_edit

pub never_13_read : (m : Map) (words : List ℕ) (numbers : List Float) (p : Play) → AcceptedMap m
    → answer (read (length m.objects) m.settings (times_of m.breaks) p) (lent_for m words numbers) ≢ reads (refused (refusal_at BOARD 0))
never_13_read = boards.never_13_read

pub never_13_read_breaks : (m : Map) (words : List ℕ) (numbers : List Float) (p : Play) (f : SliderFactors) → AcceptedMap m
    → answer (read_breaks (length m.objects) m.settings (times_of m.breaks) p f) (lent_for m words numbers) ≢ reads_breaks (refused (refusal_at BOARD 0))
never_13_read_breaks = boards.never_13_read_breaks
