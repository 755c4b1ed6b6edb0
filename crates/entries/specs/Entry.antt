-- Document 01, "The board": the words of an entry, from the objects that it covers alone; the words of two neighbouring runs of objects; limits.
use Rattle.std.specs.Prelude.{ℕ, ◌+◌, ◌*◌, ◌≤◌, ◌<◌, Bool, true, false, cond, not, ◌&&◌, List, [], ◌∷◌, leb, ltb, length, get_or}
use Rattle.rules.specs.Limits.{max_objects, combo_limit, max_bonus, max_combos_before}
use Rattle.rules.specs.Refusals.{Checked, good, ◌>>◌, refuse◌when◌, BOARD}
use Rattle.spinner.specs.Bonus.{legacy_of, standardised_of}
use Rattle.records.specs.Objects.{Object, Kind, circle, slider, spinner, repeats, ticks, kind_bonus}
use Rattle.records.specs.declared.hit_object.Slider.{Slider}
use Rattle.records.specs.declared.hit_object.Spinner.{Spinner}
use Rattle.records.specs.declared.hit_object.HitObjectKind.{HitObjectKind}
use Rattle.records.specs.declared.hit_object.HitObjectKind.TheVariants as kind
use Rattle.simulator.specs.Combo.{gain, combos_before_of, first_no_slider_of}
use Rattle.simulator.specs.Nested.{spinner_score_of}
use Rattle.simulator.specs.declared.legacy_score.NestedScorePerObject.{NestedScorePerObject}
use Rattle.simulator.specs.declared.legacy_score_simulator.OsuLegacyScoreSimulator.{OsuLegacyScoreSimulator}
use Rattle.entries.specs.declared.entry.Entry.{Entry}

-- "entries of 13 u64 words"
abbrev pub entry_words : ℕ
entry_words = 13

-- "26 × C words": two entries for each place
abbrev pub place_words : ℕ
place_words = 2 * entry_words

-- ---- what one object adds to a word
-- "300 accuracy"; "A slider first adds 30 accuracy .. for its head, 30 .. per repeat and tail, 10 .. per tick"
abbrev pub accuracy_gain : Kind → ℕ
accuracy_gain circle = 300
accuracy_gain (slider is) = (repeats is + 2) * 30 + ticks is * 10 + 300
accuracy_gain (spinner d) = 300

abbrev pub standardised_gain : Kind → ℕ
standardised_gain circle = 0
standardised_gain (slider is) = 0
standardised_gain (spinner d) = standardised_of d

abbrev pub is_circle : Kind → ℕ
is_circle circle = 1
is_circle (slider is) = 0
is_circle (spinner d) = 0

abbrev pub is_slider : Kind → ℕ
is_slider circle = 0
is_slider (slider is) = 1
is_slider (spinner d) = 0

abbrev pub is_spinner : Kind → ℕ
is_spinner circle = 0
is_spinner (slider is) = 0
is_spinner (spinner d) = 1

abbrev pub repeats_in : Kind → ℕ
repeats_in circle = 0
repeats_in (slider is) = repeats is
repeats_in (spinner d) = 0

abbrev pub ticks_in : Kind → ℕ
ticks_in circle = 0
ticks_in (slider is) = ticks is
ticks_in (spinner d) = 0

-- "spinner nested score"
abbrev pub spinner_score_in : Kind → ℕ
spinner_score_in circle = 0
spinner_score_in (slider is) = 0
spinner_score_in (spinner d) = spinner_score_of d

unfoldable pub total : (Kind → ℕ) → List Object → ℕ
total v [] = 0
total v (o ∷ os) = v o.kind + total v os

-- "Words: q objects, k combo gain, s, f, accuracy, legacy bonus, standardised bonus, circles, sliders, spinners, repeats, ticks, spinner nested
-- score"; "s sums, over the objects, the combo gained inside the entry before the object's 300; f is 1 if the first object is a circle or spinner"
unfoldable pub entry_of : List Object → Entry
entry_of os = record {
  object_count = length os;
  combo = total gain os;
  combos_before = combos_before_of 0 os;
  first_no_slider = first_no_slider_of os;
  accuracy_score = total accuracy_gain os;
  legacy_bonus_score = total kind_bonus os;
  standardised_bonus_score = total standardised_gain os;
  n_circles = total is_circle os;
  n_sliders = total is_slider os;
  n_spinners = total is_spinner os;
  n_repeats = total repeats_in os;
  n_ticks = total ticks_in os;
  spinner_score = total spinner_score_in os;
}

-- ---- two neighbouring runs
abbrev pub none : Entry
none = record {
  object_count = 0;
  combo = 0;
  combos_before = 0;
  first_no_slider = 0;
  accuracy_score = 0;
  legacy_bonus_score = 0;
  standardised_bonus_score = 0;
  n_circles = 0;
  n_sliders = 0;
  n_spinners = 0;
  n_repeats = 0;
  n_ticks = 0;
  spinner_score = 0;
}

-- the first that is there
abbrev pub first_of : ℕ → ℕ → ℕ → ℕ
first_of count a b = cond (ltb 0 count) a b

-- the sums of both, with the two words that hang on their order
abbrev pub summed : Entry → Entry → ℕ → ℕ → Entry
summed a b before first = record {
  object_count = a.object_count + b.object_count;
  combo = a.combo + b.combo;
  combos_before = before;
  first_no_slider = first;
  accuracy_score = a.accuracy_score + b.accuracy_score;
  legacy_bonus_score = a.legacy_bonus_score + b.legacy_bonus_score;
  standardised_bonus_score = a.standardised_bonus_score + b.standardised_bonus_score;
  n_circles = a.n_circles + b.n_circles;
  n_sliders = a.n_sliders + b.n_sliders;
  n_spinners = a.n_spinners + b.n_spinners;
  n_repeats = a.n_repeats + b.n_repeats;
  n_ticks = a.n_ticks + b.n_ticks;
  spinner_score = a.spinner_score + b.spinner_score;
}

-- the objects of a, then those of b: these meet the combo that a gained
unfoldable pub joined : Entry → Entry → Entry
joined a b =
    summed a b (a.combos_before + b.combos_before + a.combo * b.object_count) (first_of a.object_count a.first_no_slider b.first_no_slider)

-- ---- limits
abbrev pub words_of : Entry → List ℕ
words_of v =
    v.object_count
    ∷ v.combo
    ∷ v.combos_before
    ∷ v.first_no_slider
    ∷ v.accuracy_score
    ∷ v.legacy_bonus_score
    ∷ v.standardised_bonus_score
    ∷ v.n_circles
    ∷ v.n_sliders
    ∷ v.n_spinners
    ∷ v.n_repeats
    ∷ v.n_ticks
    ∷ v.spinner_score
    ∷ []

-- the entry of these words
abbrev pub of_words : List ℕ → Entry
of_words words = record {
  object_count = get_or words 0 0;
  combo = get_or words 1 0;
  combos_before = get_or words 2 0;
  first_no_slider = get_or words 3 0;
  accuracy_score = get_or words 4 0;
  legacy_bonus_score = get_or words 5 0;
  standardised_bonus_score = get_or words 6 0;
  n_circles = get_or words 7 0;
  n_sliders = get_or words 8 0;
  n_spinners = get_or words 9 0;
  n_repeats = get_or words 10 0;
  n_ticks = get_or words 11 0;
  spinner_score = get_or words 12 0;
}

-- "Limits: q, circles, sliders, spinners 8,192; k, repeats, ticks 8,200,192; s 137,438,953,472; f 1; the others 2,147,483,647"
abbrev pub limit_list : List ℕ
limit_list = max_objects ∷ combo_limit ∷ max_combos_before ∷ 1 ∷ max_bonus ∷ max_bonus ∷ max_bonus ∷ max_objects ∷ max_objects ∷ max_objects ∷ combo_limit ∷ combo_limit ∷ max_bonus ∷ []

-- t, and each number at most its limit. Grouped to the left, as a chain of `&` is
abbrev pub all_le : Bool → List ℕ → List ℕ → Bool
all_le t [] ls = t
all_le t (x ∷ xs) [] = false
all_le t (x ∷ xs) (l ∷ ls) = all_le (t && leb x l) xs ls

unfoldable pub in_limits : Entry → Bool
in_limits e = all_le true (words_of e) limit_list

-- "13: .. an entry's own words" as read are outside them
unfoldable pub checked : Entry → Checked Entry
checked e = do
  refuse BOARD when not (in_limits e)
  good e

-- what n entries within the limits add up to, for n up to 14
unfoldable pub SumOf : ℕ → Entry → Type 0
SumOf n e = ((i : ℕ) → i < entry_words → get_or (words_of e) i 0 ≤ n * 2199023255552) × (e.combo ≤ n * combo_limit)

-- ---- what the code makes of one object
-- the sums of a state and of counts, s and f
abbrev pub entry_with : OsuLegacyScoreSimulator → NestedScorePerObject → ℕ → ℕ → Entry
entry_with st c s f = record {
  object_count = c.object_count;
  combo = st.combo;
  combos_before = s;
  first_no_slider = f;
  accuracy_score = st.accuracy_score;
  legacy_bonus_score = st.legacy_bonus_score.0;
  standardised_bonus_score = st.standardised_bonus_score.0;
  n_circles = c.n_circles;
  n_sliders = c.n_sliders;
  n_spinners = c.n_spinners;
  n_repeats = c.n_repeats;
  n_ticks = c.amount_of_small_ticks;
  spinner_score = c.spinner_score;
}

abbrev pub circle_entry : Entry
circle_entry = record {
  object_count = 1;
  combo = 1;
  combos_before = 0;
  first_no_slider = 1;
  accuracy_score = 300;
  legacy_bonus_score = 0;
  standardised_bonus_score = 0;
  n_circles = 1;
  n_sliders = 0;
  n_spinners = 0;
  n_repeats = 0;
  n_ticks = 0;
  spinner_score = 0;
}

abbrev pub slider_entry : Slider → Entry
slider_entry s = record {
  object_count = 1;
  combo = s.repeats + s.ticks + 2;
  combos_before = s.repeats + s.ticks + 2;
  first_no_slider = 0;
  accuracy_score = (s.repeats + 2) * 30 + s.ticks * 10 + 300;
  legacy_bonus_score = 0;
  standardised_bonus_score = 0;
  n_circles = 0;
  n_sliders = 1;
  n_spinners = 0;
  n_repeats = s.repeats;
  n_ticks = s.ticks;
  spinner_score = 0;
}

abbrev pub spinner_entry : Spinner → Entry
spinner_entry s = record {
  object_count = 1;
  combo = 1;
  combos_before = 0;
  first_no_slider = 1;
  accuracy_score = 300;
  legacy_bonus_score = legacy_of s.duration;
  standardised_bonus_score = standardised_of s.duration;
  n_circles = 0;
  n_sliders = 0;
  n_spinners = 1;
  n_repeats = 0;
  n_ticks = 0;
  spinner_score = spinner_score_of s.duration;
}

abbrev pub own_entry : HitObjectKind → Entry
own_entry kind.Circle = circle_entry
own_entry (kind.Slider s) = slider_entry s
own_entry (kind.Spinner s) = spinner_entry s
