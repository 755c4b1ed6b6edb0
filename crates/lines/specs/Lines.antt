-- Document 01, "Runs to reproduce": the lines of the listing program. A field is a space and its text, and every line ends in a line feed.
-- Definitions only.
use Rattle.rules.specs.Refusals.{number_of}
use Rattle.rules.specs.declared.refusal.Refusal.{Refusal}
use Rattle.std.specs.Prelude.{ℕ, List, ◌++◌, Float, Option}
use Rattle.text.specs.Ascii.{ascii}
use Rattle.text.specs.Numbers.{decimal_of, float_text}
use Rattle.text.specs.Pages.{or_dash}
use Rattle.simulator.specs.declared.attributes.ScoreAttributes.{ScoreAttributes}
use Rattle.estimates.specs.declared.calculator.Estimates.{Estimates}

abbrev pub field : List ℕ → List ℕ
field text = ascii " " ++ text

-- a number in decimal
unfoldable pub number_field : ℕ → List ℕ
number_field n = field (decimal_of n)

-- "as hexadecimal bits"
unfoldable pub float_field : Float → List ℕ
float_field x = field (float_text x)

-- "score-based (`-` if absent)"
unfoldable pub score_based_field : Option Float → List ℕ
score_based_field x = field (or_dash float_text x)

-- "Map, of all objects: count, multiplier, accuracy, combo points, ratio bits, legacy bonus, max combo, nested bits"
unfoldable pub map_line : ScoreAttributes → List ℕ
map_line a =
    ascii "map"
    ++ number_field a.object_count
    ++ number_field a.multiplier
    ++ number_field a.legacy.accuracy_score
    ++ number_field a.legacy.combo_score
    ++ float_field a.legacy.bonus_score_ratio
    ++ number_field a.legacy.bonus_score.0
    ++ number_field a.legacy.max_combo
    ++ float_field a.difficulty.nested_score_per_object
    ++ ascii "\n"

-- "Play: index, accuracy, combo-based, score-based (`-` if absent), effective"
unfoldable pub play_line : ℕ → Estimates → List ℕ
play_line index e =
    ascii "play"
    ++ number_field index
    ++ float_field e.accuracy
    ++ float_field e.combo_based
    ++ score_based_field e.score_based
    ++ float_field e.effective
    ++ ascii "\n"

-- "`refused N at OFFSET`"
unfoldable pub refused_line : Refusal → List ℕ
refused_line r = ascii "refused" ++ number_field (number_of r.rule) ++ ascii " at" ++ number_field r.offset ++ ascii "\n"
