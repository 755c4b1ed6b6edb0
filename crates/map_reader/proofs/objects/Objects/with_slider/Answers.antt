-- What was read stands within the input.
use native.Mathlib.Omega.{arith}
use Rattle.map_reader.proofs.Stepping.{slider_inside, slider_few}
use Rattle.map_reader.proofs.objects.Objects.with_slider.Goals as goal

pub behind-requires : goal.behind-requires
behind-requires c =
    let h = c.requires in
    let inside = slider_inside c.args.r.now _ _ _ _ c.read_slider.ensures c.in-Ok.is in
    (h.0.1, slider_few c.args.r.now _ _ _ _ c.read_slider.ensures c.in-Ok.is, omega (arith, h.1, inside))
