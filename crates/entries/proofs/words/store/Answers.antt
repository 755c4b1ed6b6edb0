use Prim.Native.Nat.{◌*◌}
use mathlib.Core.Path.{◌≡◌, ap₂, ◌∙◌}
use native.Mathlib.Omega.{arith}
use lib.Seq.{paste}
use Rattle.entries.specs.Entry.{entry_words}
use Rattle.entries.proofs.WordLaws.{pasted}
use Rattle.entries.proofs.words.store.Goals as goal

pub returns : goal.returns
returns c =
    let all : c.loop-i.i ≡ entry_words = omega arith in
    c.loop-i.invariant ∙ ap₂ (paste c.args.b.now (c.args.e * 13)) c.from-words.ensures all ∙ pasted c.args.b.now c.args.e c.args.v c.requires
