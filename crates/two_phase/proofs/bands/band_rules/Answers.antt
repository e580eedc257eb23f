use Rattle.two_phase.proofs.bands.band_rules.Goals as goal

pub returns-in-Tagged : goal.returns-in-Tagged
returns-in-Tagged c = rw c.in-Tagged.is c.tagged_rules.ensures

pub returns-in-Ingress : goal.returns-in-Ingress
returns-in-Ingress c = rw c.in-Ingress.is c.ingress_rules.ensures
