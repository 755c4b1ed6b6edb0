-- Each play is the definition's next, and its line stands behind those before it.
use mathlib.Core.Path.{◌≡◌, refl, subst}
use Prim.Native.Nat.{ℕ, ◌+◌, ◌*◌, ◌≤◌, ◌<◌}
use native.Mathlib.Omega.{arith}
use lib.ListN.{length}
use Rattle.rules.proofs.Laws.{so}
use Rattle.listing.proofs.Writing.{Writing, writing_start, end_inside, from_mark, writing_cut, writing_line, writing_done}
use Rattle.listing.proofs.put_plays.Goals as goal

pub returns-then-map-s : goal.returns-then-map-s
returns-then-map-s c =
    let e = c.if-map-s.true in writing_done (writing_start c.requires.good_file c.args.page.now c.requires.in_bounds _ refl) (omega (arith, e))

pub overflow_sub-s : goal.overflow_sub-s
overflow_sub-s c = end_inside c.requires.good_file

pub returns-in_default : goal.returns-in_default
returns-in_default c =
    let inside : c.args.file.now.map.end + c.loop-index.index * 44 < length c.args.file.now.bytes.now = omega arith in
    writing_cut c.loop-index.invariant inside c.requires.good_file _ (so c.in_default.is c.play_at.ensures)

pub loop-index-preserved : goal.loop-index-preserved
loop-index-preserved c =
    let inside : c.args.file.now.map.end + c.loop-index.index * 44 < length c.args.file.now.bytes.now = omega arith in
    let next : c.args.file.now.map.end + c.loop-index.index * 44 + 44 ≡ c.args.file.now.map.end + (c.loop-index.index + 1) * 44 = omega arith in
    let estimates = from_mark c.loop-index.invariant c.marks-marks.ensures c.in-Ok.play _ _ c.mark_before-i.ensures.0 _ c.attributes_from-a.ensures _ c.calculate-estimates.ensures in
    subst (λ (at : ℕ). Writing c.args.file.now.bytes.now c.args.file.now.map c.args.page.now at (c.loop-index.index + 1) c.put_play_line.new.page) next
    (writing_line c.loop-index.invariant inside _ (so c.in-Ok.is c.play_at.ensures) c.requires.good_file _ estimates _ c.put_play_line.ensures)

pub returns : goal.returns
returns c =
    let all : length c.args.file.now.bytes.now ≤ c.args.file.now.map.end + c.loop-index.index * 44 = omega arith in
    writing_done c.loop-index.invariant all
