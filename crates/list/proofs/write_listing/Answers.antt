-- The program's space has room, and the text that is written is its front.
use Rattle.std.proofs.Common.{List, ℕ, subst, rules}
use Rattle.std.specs.Io.KnownBytes.{Appends}
use Rattle.list.proofs.Listings.{no_room, front_listed}
use Rattle.list.proofs.write_listing.Goals as goal

pub unreachable-requires : goal.unreachable-requires
unreachable-requires g c = no_room c.args.input.now _ _ c.in-None.ensures.space_after (search rules) c.in-None.ensures.value

pub returns : goal.returns
returns g c =
    let text = front_listed c.args.input.now _ _ c.in-Some.ensures.space_after (search rules) c.in-Some.count c.in-Some.ensures.value in
    let written = rw c.in_ok-context-in-Some.ensures at c.write_all.ensures.bytes in
    subst (λ (t : List ℕ). Appends (g.W.Write.contents c.args.writer.now) (g.W.Write.contents c.write_all.new.self) t) text written
