use Rattle.std.proofs.Common.{◌≡◌, ◌<◌, ◌∷◌, [], List, length, reverse, refl, sym, ◌∙◌, subst, ap, arith}
use Rattle.std.proofs.lemmas.List.{reverse-append}
use Rattle.net_base.specs.declared.ids.Place.{Place}
use Rattle.breaking_walks.specs.Trails.{IsLedTo, IsWayTo}
use Rattle.breaking_walks.specs.declared.trail.Node.{Node}
use Rattle.breaking_walks.proofs.trail.Trail.way_to.Goals as goal

pub back-smaller : goal.back-smaller
back-smaller c = c.at-from.ensures.earlier c.back-test.true

pub back-preserved : goal.back-preserved
back-preserved c =
    let trail = c.args.self.now in
    let at = c.back.at in
    let node : Node = c.at-from.result.0 in
    let from = c.at-from.result.1 in
    let places = c.back.places.items in
    let earlier : from < at = c.at-from.ensures.earlier c.back-test.true in
    let within : at < length trail = c.back.invariant.0 in
    let led : IsLedTo trail from at node.place = record { node = node; beyond = c.back-test.true; at = c.at-from.ensures.at; place_is = refl } in
    let longer : reverse c.push.new.self.items ≡ node.place ∷ reverse places = ap reverse c.in_ok-push.ensures.items ∙ reverse-append places (node.place ∷ []) in
    (omega arith, subst (λ (rest : List Place). IsWayTo trail c.args.number from rest) (sym longer) (at, led, c.back.invariant.1))
