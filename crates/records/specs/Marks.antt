-- Document 01, "Records of the map file": the marks that records start with.
use Rattle.std.specs.Prelude.{ℕ, List, eqb}
use Rattle.numbers.specs.Words.{word_at}
use Rattle.rules.specs.Limits.{mark_size}
use Rattle.rules.specs.Refusals.{Checked, good, refused, ◌>>◌, refuse◌when◌, pick, CUT, MARK}
use Rattle.records.specs.Fields.{cut}
use Rattle.records.specs.declared.mark.Mark.{Mark}
use Rattle.records.specs.declared.mark.Mark.TheVariants as mark

-- ---- the marks in ASCII, as little-endian numbers
abbrev pub MH : ℕ
MH = 0x484d

abbrev pub BR : ℕ
BR = 0x5242

abbrev pub CI : ℕ
CI = 0x4943

abbrev pub SL : ℕ
SL = 0x4c53

abbrev pub SP : ℕ
SP = 0x5053

abbrev pub PL : ℕ
PL = 0x4c50

-- "3: a mark is unknown"
abbrev pub mark_of : ℕ → Checked Mark
mark_of word =
    pick (eqb word CI) (good mark.Circle)
    (pick (eqb word SL) (good mark.Slider)
    (pick (eqb word SP) (good mark.Spinner)
    (pick (eqb word MH) (good mark.Header) (pick (eqb word BR) (good mark.Break) (pick (eqb word PL) (good mark.Play) (refused MARK))))))

-- "mark cut (2), mark (3)": that of the record that r starts with
unfoldable pub mark_in : List ℕ → Checked Mark
mark_in r = do
  refuse CUT when cut r mark_size
  mark_of (word_at r 0 2)

abbrev pub word_of : Mark → ℕ
word_of mark.Header = MH
word_of mark.Break = BR
word_of mark.Circle = CI
word_of mark.Slider = SL
word_of mark.Spinner = SP
word_of mark.Play = PL
