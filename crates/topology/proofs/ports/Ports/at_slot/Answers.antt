use Rattle.std.proofs.Common.{◌∙◌, ap, sym}
use Rattle.std.specs.Prelude.{slice_get}
use Rattle.topology.proofs.PortLaws.{found_at}
use Rattle.topology.proofs.ports.Ports.at_slot.Goals as goal

pub returns-then-eq : goal.returns-then-eq
returns-then-eq c =
    rw (← c.self.view_is)
    (found_at c.self.inside.ends c.in_ok-place.field-0.now c.args.stop c.in_ok-port.port.now c.in_ok-port.end.now c.as_slice.ensures.unique
    (sym (c.in_ok-port.ensures.entry ∙ ap (λ es. slice_get es c.in_ok-place.field-0.now) c.as_slice.ensures.entries)) (sym c.eq.ensures ∙ c.if-eq.true))
