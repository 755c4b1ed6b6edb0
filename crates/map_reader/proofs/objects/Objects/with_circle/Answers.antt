-- What was read stands within the input.
use native.Mathlib.Omega.{arith}
use Rattle.map_reader.proofs.Stepping.{circle_inside}
use Rattle.map_reader.proofs.objects.Objects.with_circle.Goals as goal

pub behind-requires : goal.behind-requires
behind-requires c =
    let h = c.requires in
    let inside = circle_inside c.args.r.now _ _ c.read_circle.ensures c.in-Ok.is in
    (h.0.1, omega arith, omega (arith, h.1, inside))
