-- Document 01, "Multiplier": `calculate_difficulty_peppy_stars`, each operation rounded once, in the Rust's order.
use Rattle.std.specs.Prelude.{◌≡◌, ℕ, zero, suc, true, length, take, ℤ, pos, negsuc, unsigned_abs, Float}
use Rattle.std.specs.Float.{binary64}
use Rattle.std.specs.Float.Ieee.{of_int}
use Rattle.records.specs.Fields.{is_setting}
use Rattle.numbers.specs.Floats.{whole, ◌⊕◌, ◌⊗◌, ◌⊘◌}
use Rattle.numbers.specs.MinMax.{clamp_of}
use Rattle.numbers.specs.Rounding.{round_ties_even_i32}
use Rattle.map_file.specs.File.{Map}
use Rattle.records.specs.declared.beatmap.Settings.{Settings}
use Rattle.ruleset.specs.Drain.{drain_at}

-- the objects a second times 8, held between 0 and 16, and 16 for a drain of 0
unfoldable pub ratio_of : ℕ → ℤ → Float
ratio_of count (pos zero) = whole 16
ratio_of count (pos (suc n)) = clamp_of (whole count ⊘ whole (suc n) ⊗ whole 8) (whole 0) (whole 16)
ratio_of count (negsuc n) = clamp_of (whole count ⊘ of_int binary64 (negsuc n) ⊗ whole 8) (whole 0) (whole 16)

-- "hp, od and cs are the given settings, widened exactly"
unfoldable pub stars_of : Settings → ℕ → ℤ → ℤ
stars_of s count drain = round_ties_even_i32 ((s.hp ⊕ s.od ⊕ s.cs ⊕ ratio_of count drain) ⊘ whole 38 ⊗ whole 5)

-- "three floats of 32 bits, each from 0 to 12"
pub record SettingsIn (s : Settings) : Type 0 where
  pub hp : is_setting s.hp ≡ true
  pub od : is_setting s.od ≡ true
  pub cs : is_setting s.cs ≡ true

-- the stars as a count: settings within their limits give 0 to 7
abbrev pub multiplier_of : Settings → ℕ → ℤ → ℕ
multiplier_of s count drain = unsigned_abs (stars_of s count drain)

-- the multiplier of a map's first p objects
unfoldable pub multiplier_at : Map → ℕ → ℕ
multiplier_at m p = multiplier_of m.settings (length (take p m.objects)) (drain_at m.breaks m.objects p)
