-- The claim in use: a list of calls on the board of run (4), built in more memory than it needs. What the list leaves and what its calls answer is
-- told by the claim: nothing that a call does to lent memory is computed behind `stands`, so that a weaker claim would not tell it.
use Rattle.std.specs.Prelude.{None}
use mathlib.Core.List.{List, [], ◌∷◌, ◌++◌, map}
use mathlib.Core.Logic.{inl, inr}
use mathlib.Core.Path.{◌≡◌, refl, ap}
use Prim.Native.Nat.{ℕ, ◌^◌, ◌<◌}
use lib.Dec.{lit<}
use lib.Ieee.{Float, nan, binary64, fits, round, add, sub, mul, div, neg, lt, le, eq, is_nan, of_int, of_bits, to_bits, to_unsigned}
use lib.ListN.{get_or, replicate}
use Rattle.numbers.specs.Words.{word_at, bytes_of}
use Rattle.numbers.specs.Floats.{whole, part}
use Rattle.numbers.specs.MinMax.{max_of, min_of, clamp_of}
use Rattle.numbers.specs.Rounding.{round_ties_even_i32}
use Rattle.spinner.specs.HalfSpins.{total_half_spins, required_half_spins}
use Rattle.spinner.specs.Bonus.{legacy_of, standardised_of, half_spin_points}
use Rattle.rules.specs.Refusals.{◌>>=◌, ◌>>◌, refuse◌when◌, good, refused, refusal_at, number_of, MARK, PLACE}
use Rattle.play_state.specs.Play.{flags_bad, hitresults_of}
use Rattle.play_state.specs.declared.Play.{Play}
use Rattle.play_state.specs.declared.OsuScoreOrigin.TheVariants.{Stable}
use Rattle.records.specs.Objects.{Kind, circle, slider, spinner, Object, tick, repeat, bonus, repeats, ticks}
use Rattle.records.specs.Records.{header_of, break_of, circle_of, nested_of, slider_of, spinner_of, play_of, object_of}
use Rattle.map_file.specs.Order.{body_of, record_of}
use Rattle.map_file.specs.File.{Map, counts_of, with_record, file_from, file_of}
use Rattle.encoding.specs.Encoding.{fields_of, header_bytes, break_bytes, nested_bytes, object_bytes, play_bytes, each, map_file}
use Rattle.encoding.specs.Limits.{PlaySized}
use Rattle.ruleset.specs.Drain.{breaks_of, breaks_length, drain_at}
use Rattle.ruleset.specs.Stars.{ratio_of, stars_of, multiplier_at}
use Rattle.simulator.specs.Hits.{half_spins, hits_of}
use Rattle.simulator.specs.Walk.{walk, after}
use Rattle.simulator.specs.Nested.{spinner_score_of, counted, counted_all, nested_score_of}
use Rattle.simulator.specs.Attributes.{score_attributes_at, score_attributes_of, legacy_attributes_of, difficulty_attributes_of, bonus_ratio_of}
use Rattle.play_score.specs.PlayRules.{mods_bad, hits_exceed, exceeds, play_score, given_score}
use Rattle.scoring.specs.Scores.{play_scores, scores_of}
use Rattle.exponential.specs.Exp.{series_of, squared, exp_of}
use Rattle.miss_calc.specs.ScoreBased.{score_based_of}
use Rattle.miss_calc.specs.Threshold.{threshold_of, capped_of}
use Rattle.estimates.specs.ComboBased.{broken_of, classic_of, combo_based_of}
use Rattle.estimates.specs.Effective.{score_based_for, held_of, effective_of, estimates_of}
use Rattle.slider_breaks.specs.Difficulty.{reverse_lerp_of, smoothstep_of, logistic_of}
use Rattle.slider_breaks.specs.SliderBreaks.{adjusted_of, slider_breaks_of, estimated_breaks}
use Rattle.slider_breaks.specs.Given.{is_factor, factors_bad}
use Rattle.slider_breaks.specs.declared.calculator.SliderFactors.{SliderFactors}
use Rattle.entries.specs.Entry.{total, entry_of, joined, in_limits, checked}
use Rattle.entries.specs.Words.{entry_at, put_entry, words_from}
use Rattle.tree.specs.Size.{levels_from, levels_of}
use Rattle.tree.specs.Limited.{limited}
use Rattle.tree.specs.Put.{above_of, climbed}
use Rattle.tree.specs.Board.{covered, entry_in, board_entry, board_of}
use Rattle.board.specs.Place.{room_for, put_place}
use Rattle.board.specs.Edit.{object_in, edit_of}
use Rattle.board_build.specs.Build.{build_of, built}
use Rattle.demands.specs.Calls.{is_accepted, times_of, Lent, map_in, lent_by, Call, edit, read, read_breaks, CallAnswer, edits, reads, reads_breaks, answer, lent_after, lent_after_all, map_after, MayStand, Right}
use Rattle.demands.proofs.CallsRight.{calls_right}
use Rattle.demands.proofs.Lists.{left_at_last}

at : ℕ → Kind → Object
at t k = record { start = whole t; kind = k }

-- run (4) with a break
built-map : Map
built-map = record {
  settings = record { hp = whole 5; od = whole 5; cs = whole 5 };
  breaks = record { start_time = whole 6000; end_time = whole 8000 } ∷ [];
  objects = at 0 circle ∷ at 5000 (slider (tick ∷ repeat ∷ tick ∷ [])) ∷ at 10000 circle ∷ [];
}

file : List ℕ
file = map_file built-map

-- a word and a number more than the map needs
words : List ℕ
words = replicate 105 7

numbers : List Float
numbers = nan ∷ nan ∷ nan ∷ whole 9 ∷ []

times : List Float
times = whole 6000 ∷ whole 8000 ∷ []

first : Lent
first = lent_by file words numbers

-- run (8)'s spinner
spin : List ℕ
spin = object_bytes (at 9000 (spinner (whole 1400)))

-- a play of three objects: combo, 300s, 100s and misses
play_on : ℕ → ℕ → ℕ → ℕ → Play
play_on combo n300 n100 misses = record {
  passed_objects = 3;
  max_combo = combo;
  hitresults = record { large_tick_hits = 0; small_tick_hits = 0; slider_end_hits = 0; n300 = n300; n100 = n100; n50 = 0; misses = misses };
  origin = Stable;
  legacy_total_score = None;
  mods = record { flags = 0; clock_rate = whole 1 };
}

play : Play
play = play_on 7 3 0 0

-- a play whose combo broke: 2 effective misses, and by its combo alone 1.15
broken : Play
broken = play_on 6 0 1 2

-- one with more combo than the map has
beyond : Play
beyond = play_on 8 1 1 1

factors : SliderFactors
factors = record { aim = part 1 8; speed = whole 10 }

wrong_factors : SliderFactors
wrong_factors = record { aim = part 1 8; speed = part 21 2 }

-- an edit that is accepted; one beyond the last place, one with a byte behind its record, one with another count, which is refused with 6; a read with
-- the map's arguments; with factors, one that is good, one that gets 14, and one that would get 14 but for its play; then reads with other arguments
list : List Call
list =
    edit 3 2 spin
    ∷ edit 3 3 spin
    ∷ edit 3 0 (spin ++ (0 ∷ []))
    ∷ edit 9000 0 spin
    ∷ read 3 built-map.settings times play
    ∷ read_breaks 3 built-map.settings times broken factors
    ∷ read_breaks 3 built-map.settings times broken wrong_factors
    ∷ read_breaks 3 built-map.settings times beyond wrong_factors
    ∷ read 2 built-map.settings (whole 1 ∷ []) play
    ∷ read_breaks 2 built-map.settings (whole 1 ∷ []) play factors
    ∷ []

-- the lent memory behind the four edits
edited : Lent
edited = lent_after (edit 9000 0 spin) (lent_after (edit 3 0 (spin ++ (0 ∷ []))) (lent_after (edit 3 3 spin) (lent_after (edit 3 2 spin) first)))

-- behind the read, and behind each of the first two with factors
read_once : Lent
read_once = lent_after (read 3 built-map.settings times play) edited

read_twice : Lent
read_twice = lent_after (read_breaks 3 built-map.settings times broken factors) read_once

read_thrice : Lent
read_thrice = lent_after (read_breaks 3 built-map.settings times broken wrong_factors) read_twice

-- ---- the claim's premises, computed
done : (built (scores_of (file_of file)) words numbers).0 ≡ good tt
unfolding at built-map words file numbers is_accepted map_file header_bytes break_bytes nested_bytes object_bytes each fields_of file_of file_from with_record counts_of bonus record_of body_of object_of header_of break_of circle_of slider_of spinner_of play_of nested_of hitresults_of flags_bad word_at bytes_of ◌>>=◌ ◌>>◌ refuse◌when◌ of_bits le lt eq neg of_int to_bits play_scores build_of room_for levels_from levels_of
done = refl

stands : MayStand list (map_in (file_of file)) first
unfolding first at built-map words file numbers list spin play_on play broken beyond factors wrong_factors is_accepted map_file header_bytes break_bytes nested_bytes object_bytes each fields_of file_of file_from with_record counts_of bonus record_of body_of object_of header_of break_of circle_of slider_of spinner_of play_of nested_of hitresults_of flags_bad word_at bytes_of ◌>>=◌ ◌>>◌ refuse◌when◌ of_bits le lt eq neg of_int to_bits play_scores build_of room_for levels_from levels_of answer lent_after map_after edit_of object_in put_place climbed above_of checked limited joined in_limits entry_at put_entry entry_of total covered entry_in board_entry board_of words_from legacy_of standardised_of spinner_score_of total_half_spins required_half_spins add sub mul div to_unsigned is_nan half_spin_points repeats ticks
stands = (inl refl, (inl refl, (inl refl, (inr tt, (tt, (tt, (tt, (tt, (tt, (tt, tt))))))))))

-- ---- what the claim tells
sized : (combo n300 n100 misses : ℕ) → combo < 2 ^ 32 → n300 < 2 ^ 16 → n100 < 2 ^ 16 → misses < 2 ^ 16 → PlaySized (play_on combo n300 n100 misses)
unfolding play_on fits of_int
sized combo n300 n100 misses c h k m = record {
  passed = lit< tt;
  combo = c;
  hits = record { n300 = h; n100 = k; n50 = lit< tt; misses = m; large = lit< tt; small = lit< tt; ends = lit< tt };
  score = tt;
  mods = record { flags = lit< tt; held = tt };
}

-- multiplier, combo points and legacy bonus of a read
values_of : CallAnswer → List (ℕ × ℕ × ℕ)
values_of (edits w) = []
values_of (reads (refused r)) = []
values_of (reads (good s)) = (s.attributes.multiplier, s.attributes.legacy.combo_score, s.attributes.legacy.bonus_score.0) ∷ []
values_of (reads_breaks a) = []

-- legacy bonus, and the bits of both breaks of a read with factors, or the number and offset of its refusal
breaks_in : CallAnswer → List ℕ
breaks_in (edits w) = []
breaks_in (reads a) = []
breaks_in (reads_breaks (refused r)) = number_of r.rule ∷ r.offset ∷ []
breaks_in (reads_breaks (good s)) =
    s.score.attributes.legacy.bonus_score.0 ∷ to_bits binary64 s.slider_breaks.aim ∷ to_bits binary64 s.slider_breaks.speed ∷ []

record Told : Type 0 where
  -- the board and the start table of the map with the spinner, and what lay beyond them
  left : lent_after_all list first
      ≡ record {
        board = board_of (at 0 circle ∷ at 5000 (slider (tick ∷ repeat ∷ tick ∷ [])) ∷ at 9000 (spinner (whole 1400)) ∷ []) ++ (7 ∷ []);
        starts = whole 0 ∷ whole 5000 ∷ whole 9000 ∷ whole 9 ∷ [];
      }
  first_edit : answer (edit 3 2 spin) first ≡ edits (good tt)
  second_edit : (answer (edit 3 3 spin) (lent_after (edit 3 2 spin) first) ≡ edits (refused (refusal_at PLACE 0))) × (number_of PLACE ≡ 12)
  third_edit : (answer (edit 3 0 (spin ++ (0 ∷ []))) (lent_after (edit 3 3 spin) (lent_after (edit 3 2 spin) first)) ≡ edits (refused (refusal_at MARK 0))) × (number_of MARK ≡ 3)
  first_read : values_of (answer (read 3 built-map.settings times play) edited) ≡ (2, 240, 8800) ∷ []
  -- the Rust's steps in another program's doubles gave these bits
  with_factors : breaks_in (answer (read_breaks 3 built-map.settings times broken factors) read_once) ≡ 8800 ∷ 0x3f92_3879_ed03_2d18 ∷ 0x3f9d_2729_7b38_4826 ∷ []
  with_a_wrong_one : breaks_in (answer (read_breaks 3 built-map.settings times broken wrong_factors) read_twice) ≡ 14 ∷ 0 ∷ []
  beyond_the_map : breaks_in (answer (read_breaks 3 built-map.settings times beyond wrong_factors) read_thrice) ≡ 9 ∷ 0 ∷ []

told : Told
unfolding times first edited read_once read_twice read_thrice at built-map words file numbers list spin play_on play broken beyond factors wrong_factors values_of breaks_in is_accepted times_of map_after object_in map_file header_bytes break_bytes nested_bytes object_bytes each fields_of file_of file_from with_record counts_of bonus record_of body_of object_of header_of break_of circle_of slider_of spinner_of play_of nested_of hitresults_of flags_bad word_at bytes_of ◌>>=◌ ◌>>◌ refuse◌when◌ of_bits le lt eq neg of_int to_bits play_scores levels_from levels_of board_of words_from board_entry entry_in covered entry_of total legacy_of standardised_of spinner_score_of total_half_spins required_half_spins add sub mul div to_unsigned is_nan half_spin_points repeats ticks given_score play_score mods_bad exceeds hits_exceed score_attributes_at score_attributes_of legacy_attributes_of difficulty_attributes_of bonus_ratio_of nested_score_of counted counted_all breaks_of breaks_length drain_at multiplier_at stars_of ratio_of clamp_of round_ties_even_i32 half_spins hits_of walk after max_of min_of threshold_of capped_of broken_of classic_of combo_based_of score_based_for score_based_of held_of effective_of estimates_of is_factor factors_bad estimated_breaks slider_breaks_of adjusted_of reverse_lerp_of smoothstep_of logistic_of exp_of series_of squared round play_bytes
told =
    let right : Right (7 ∷ []) (whole 9 ∷ []) list (map_in (file_of file)) first = calls_right file words numbers list done stands in
    record {
      left = (left_at_last (7 ∷ []) (whole 9 ∷ []) list (map_in (file_of file)) first right).1;
      first_edit = right.0 refl;
      second_edit = (right.1.0 refl, refl);
      third_edit = (right.1.1.0 refl, refl);
      first_read = ap values_of (right.1.1.1.1.0 refl refl refl (sized 7 3 0 0 (lit< tt) (lit< tt) (lit< tt) (lit< tt))).as_scored;
      with_factors = ap breaks_in (right.1.1.1.1.1.0 refl refl refl (sized 6 0 1 2 (lit< tt) (lit< tt) (lit< tt) (lit< tt))).as_called;
      with_a_wrong_one = ap breaks_in (right.1.1.1.1.1.1.0 refl refl refl (sized 6 0 1 2 (lit< tt) (lit< tt) (lit< tt) (lit< tt))).as_called;
      beyond_the_map = ap breaks_in (right.1.1.1.1.1.1.1.0 refl refl refl (sized 8 1 1 1 (lit< tt) (lit< tt) (lit< tt) (lit< tt))).as_in_file;
    }

-- in numbers: of entry 1 the words q, k, s, accuracy and circles; of entry 6, the spinner's, q, legacy, standardised, spinners and nested; the word beyond
words_told : map (λ (i : ℕ). get_or (lent_after_all list first).board i 0) (13 ∷ 14 ∷ 15 ∷ 17 ∷ 20 ∷ 78 ∷ 83 ∷ 84 ∷ 87 ∷ 90 ∷ 104 ∷ [])
    ≡ 3 ∷ 7 ∷ 12 ∷ 1010 ∷ 1 ∷ 1 ∷ 8800 ∷ 460 ∷ 1 ∷ 3100 ∷ 7 ∷ []
unfolding at levels_from levels_of of_int lt le eq neg of_bits to_bits board_of words_from board_entry entry_in covered entry_of total legacy_of standardised_of spinner_score_of total_half_spins required_half_spins add sub mul div to_unsigned is_nan half_spin_points repeats ticks
words_told = ap (λ (l : Lent). map (λ (i : ℕ). get_or l.board i 0) (13 ∷ 14 ∷ 15 ∷ 17 ∷ 20 ∷ 78 ∷ 83 ∷ 84 ∷ 87 ∷ 90 ∷ 104 ∷ [])) told.left
