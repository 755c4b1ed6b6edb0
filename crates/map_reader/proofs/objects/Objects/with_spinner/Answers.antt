-- What was read stands within the input.
use native.Mathlib.Omega.{arith}
use Rattle.map_reader.proofs.Stepping.{spinner_inside}
use Rattle.map_reader.proofs.objects.Objects.with_spinner.Goals as goal

pub behind-requires : goal.behind-requires
behind-requires g c =
    let h = c.requires in
    let inside = spinner_inside c.args.r.now _ _ _ c.read_spinner.ensures c.in-Ok.is in
    (h.0.1, omega arith, omega (arith, h.1, inside))
