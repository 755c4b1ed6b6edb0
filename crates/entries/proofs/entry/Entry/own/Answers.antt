-- Each kind is the simulator's own step from no object on.
use Rattle.std.proofs.Common.{rules}
use Rattle.records.specs.declared.hit_object.HitObjectKind.TheVariants as kind
use Rattle.entries.proofs.Own.{own_step}
use Rattle.entries.proofs.entry.Entry.own.Goals as goal

pub returns-in-Circle : goal.returns-in-Circle
returns-in-Circle c = search (rules, own_step kind.Circle)

pub returns-in-Slider : goal.returns-in-Slider
returns-in-Slider c = search (rules, own_step (kind.Slider c.in-Slider.slider))

pub returns-in-Spinner : goal.returns-in-Spinner
returns-in-Spinner c = search (rules, own_step (kind.Spinner c.in-Spinner.spinner))
