-- Document 01, "What a caller gets": a good call gives its values, a refused call a number. The checks run in order, and the first
-- refusal stands: a `do` block goes on to it.
use Rattle.std.specs.Prelude.{ℕ, Bool, true, false, Result}
use Rattle.rules.specs.declared.refusal.Rule.{Rule}
use Rattle.rules.specs.declared.refusal.Rule.TheVariants as rule
use Rattle.rules.specs.declared.refusal.Refusal.{Refusal}
pub use Rattle.std.specs.Prelude.{Ok as good, Err as refused}

infix 5 refuse◌when◌
infixr 4 ◌>>=◌
infixr 4 ◌>>◌
-- a value, or the rule that its input breaks
abbrev pub Checked : Type 0 → Type 0
Checked A = Result A Rule

-- of a refusal with an offset too
unfoldable pub ◌>>=◌ : {A B E : Type 0} → Result A E → (A → Result B E) → Result B E
◌>>=◌ (refused n) f = refused n
◌>>=◌ (good a) f = f a

unfoldable pub ◌>>◌ : {A B E : Type 0} → Result A E → Result B E → Result B E
◌>>◌ (refused n) b = refused n
◌>>◌ (good a) b = b

unfoldable pub refuse◌when◌ : Rule → Bool → Checked (Unit {0})
refuse n when true = refused n
refuse n when false = good tt

-- the first where the test holds, else the second
abbrev pub pick : {A : Type 0} → Bool → A → A → A
pick true a b = a
pick false a b = b

-- ---- document 01, "Returned | Given when, and only when"
-- "the program's input is above 65,536 bytes (the library has no such limit)"
abbrev pub INPUT : Rule
INPUT = rule.Input

-- "the input ends inside a record, or one byte is left for a mark"
abbrev pub CUT : Rule
CUT = rule.Cut

-- "a mark is unknown or out of order, or the input is empty; in an edit also, checked last, if bytes follow the object's record"
abbrev pub MARK : Rule
MARK = rule.Mark

-- "a time, setting or duration is not finite or out of range"
abbrev pub RANGE : Rule
RANGE = rule.Range

-- "a slider's nested list is wrong"
abbrev pub NESTED : Rule
NESTED = rule.Nested

-- "a 129th break, an 8,193rd object, or more than 1,000 nested items"
abbrev pub COUNT : Rule
COUNT = rule.Count

-- "the legacy bonus of all objects is above 2,147,483,647"
abbrev pub BONUS : Rule
BONUS = rule.Bonus

-- "a play field is out of range"
abbrev pub PLAY_FIELD : Rule
PLAY_FIELD = rule.PlayField

-- "a play exceeds its map"
abbrev pub PLAY_EXCEEDS : Rule
PLAY_EXCEEDS = rule.PlayExceeds

-- 10 is given by no call: document 02, §3 took it away ("Number 10 and its edge in document 01 go")

-- "the board has fewer than 26 × C words, or the start table fewer numbers than objects"
abbrev pub ROOM : Rule
ROOM = rule.Room

-- "an edited place is not below the object count"
abbrev pub PLACE : Rule
PLACE = rule.Place

-- "a board word or start time that the call reads is outside its limits, a combined word is above its limit, or a read's combined k is below
-- 2 × sliders or its s + f below q"
abbrev pub BOARD : Rule
BOARD = rule.Board

-- ---- document 02
-- §1: "a factor out of range or not finite; checked last"
abbrev pub FACTOR : Rule
FACTOR = rule.Factor

-- §2: "more than 64 plays, or fewer outcomes than plays; after the map, before any play"
abbrev pub HEAT : Rule
HEAT = rule.Heat

-- the number that a caller gets
abbrev pub number_of : Rule → ℕ
number_of rule.Input = 1
number_of rule.Cut = 2
number_of rule.Mark = 3
number_of rule.Range = 4
number_of rule.Nested = 5
number_of rule.Count = 6
number_of rule.Bonus = 7
number_of rule.PlayField = 8
number_of rule.PlayExceeds = 9
number_of rule.Room = 11
number_of rule.Place = 12
number_of rule.Board = 13
number_of rule.Factor = 14
number_of rule.Heat = 15

-- what a refused call answers: the rule, and the offset of the record that breaks it
abbrev pub refusal_at : Rule → ℕ → Refusal
refusal_at n at = record { rule = n; offset = at }

-- a value, or what refuses the call
abbrev pub OrRefusal : Type 0 → Type 0
OrRefusal A = Result A Refusal

-- what breaks a rule is refused at the offset of its record
abbrev pub at_offset : {A : Type 0} → ℕ → Checked A → OrRefusal A
at_offset at (refused n) = refused (refusal_at n at)
at_offset at (good a) = good a

-- what is no record of a file is refused at 0
abbrev pub at_0 : {A : Type 0} → Checked A → OrRefusal A
at_0 x = at_offset 0 x
