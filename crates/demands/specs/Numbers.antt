-- Documents 01 and 02: the number of each rule, as they write it, so that a name for a wrong one is found. Theorems that name a rule speak of its
-- number by this table. 10 is no rule's.
use Rattle.std.specs.Prelude.{◌≡◌, refl, [], ◌∷◌, map}
use Rattle.rules.specs.Refusals.{number_of, INPUT, CUT, MARK, RANGE, NESTED, COUNT, BONUS, PLAY_FIELD, PLAY_EXCEEDS, ROOM, PLACE, BOARD, FACTOR, HEAT}

rule_numbers : map number_of (INPUT ∷ CUT ∷ MARK ∷ RANGE ∷ NESTED ∷ COUNT ∷ BONUS ∷ PLAY_FIELD ∷ PLAY_EXCEEDS ∷ ROOM ∷ PLACE ∷ BOARD ∷ FACTOR ∷ HEAT ∷ [])
    ≡ 1 ∷ 2 ∷ 3 ∷ 4 ∷ 5 ∷ 6 ∷ 7 ∷ 8 ∷ 9 ∷ 11 ∷ 12 ∷ 13 ∷ 14 ∷ 15 ∷ []
rule_numbers = refl
