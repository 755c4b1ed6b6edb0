-- What was read is all that the space takes of the reader's bytes, and the text that was written is the listing of it.
use Rattle.std.proofs.Common.{List, ℕ, subst, arith}
use Rattle.std.specs.Io.KnownBytes.{Appends}
use Rattle.listing.specs.Listing.{input_text}
use Rattle.list.proofs.Fronts.{front_told}
use Rattle.list.proofs.Listings.{input_text-take}
use Rattle.list.proofs.list.Goals as goal

pub returns : goal.returns
returns g c =
    let count = c.in_ok-count.count in
    let within = rw c.in_ok-count.ensures at c.read_input.ensures.within in
    let read = rw c.in_ok-count.ensures at c.read_input.ensures.bytes in
    let ends = rw c.in_ok-count.ensures at c.read_input.ensures.end in
    let written = rw c.in_ok-write_listing.was at c.write_listing.ensures in
    let Writes : List ℕ → Type 0 = λ listing. Appends (g.W.Write.contents c.args.writer.now) (g.W.Write.contents c.write_listing.new.writer) listing in
    front_told _ _ c.read_input.new.space count 65537 (λ bytes. Writes (input_text bytes)) (λ bytes. subst Writes (input_text-take bytes))
    c.read_input.auto.space (omega (arith, within)) read (λ short. ends (omega (arith, short))) written
