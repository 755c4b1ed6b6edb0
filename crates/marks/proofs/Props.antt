-- Facts that have one proof at most, so that they follow from a file's map whichever way the file was read.
use Rattle.std.proofs.Props.{props}
use mathlib.Core.List.{List}
use Prim.Native.Nat.{ℕ}
use Rattle.map_reader.specs.Objects.{Small}
use Rattle.map_reader.specs.Attributes.{Complete}
use Rattle.map_reader.specs.declared.objects.Objects.{Objects}
use Rattle.map_reader.specs.declared.map.Map.{Map}
use Rattle.marks.proofs.Marked.{Marking}

pub small_prop : (s : List ℕ) (x : Objects) → IsProp (Small s x)
small_prop s x = Prim.hlevel props

pub complete_prop : (m : Map) → IsProp (Complete m)
complete_prop m = Prim.hlevel props

pub marking_prop : (s : List ℕ) (m : Map) (n : ℕ) (x : Objects) (l : List Objects) (i : ℕ) → IsProp (Marking s m n x l i)
marking_prop s m n x l i = Prim.hlevel props
