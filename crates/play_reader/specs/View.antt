-- What the calls on a whole file answer.
use Rattle.std.specs.Prelude.{ℕ, Some, ltb}
use Rattle.rules.specs.Refusals.{pick, OrRefusal, good, refused, refusal_at}
use Rattle.map_file.specs.File.{Result, accepted, refused_at}
use Rattle.map_file.specs.View.{view}
use Rattle.map_file.specs.declared.file.Rank.{Rank}
use Rattle.map_file.specs.declared.file.Rank.TheVariants as rank
use Rattle.map_file.specs.declared.file.Reader.{Reader}
use Rattle.map_reader.specs.Objects.{bonus_of}
use Rattle.map_reader.specs.Map.{rank_behind}
use Rattle.map_reader.specs.declared.map.Map.{Map}
use Rattle.simulator.specs.Attributes.{score_attributes_at}
use Rattle.simulator.specs.declared.attributes.ScoreAttributes.{ScoreAttributes}

-- the place in the order of the last record of a file of n bytes, all of which were read
abbrev pub last_rank : ℕ → Map → Rank
last_rank n m = pick (ltb m.end n) rank.Play (rank_behind m.breaks.count m.objects)

abbrev pub reader_in : ℕ → Map → Reader
reader_in n m = record {
  at = n;
  settings = m.settings;
  counts = record { last = Some (last_rank n m); breaks = m.breaks.count; objects = m.objects; bonus = bonus_of m.passed };
}

-- the file's map by its counts
abbrev pub answer_of : Result → OrRefusal Reader
answer_of (accepted f) = good (view f)
answer_of (refused_at n at f) = refused (refusal_at n at)

-- the score attributes of the first p objects; "A refused call gives the number below and an offset"
abbrev pub simulated_of : Result → ℕ → OrRefusal ScoreAttributes
simulated_of (accepted f) p = good (score_attributes_at f.map p)
simulated_of (refused_at n at f) p = refused (refusal_at n at)
