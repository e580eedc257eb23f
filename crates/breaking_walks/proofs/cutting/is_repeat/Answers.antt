use Rattle.std.proofs.Common.{List, get_or, sym, ◌∙◌, ap}
use Rattle.std.specs.Prelude.{◌==◌}
use Rattle.std.specs.List.{list_any}
use Rattle.std.proofs.lemmas.Option.{get_or_from_slice_get}
use Rattle.net_base.specs.declared.ids.Place.{Place}
use Rattle.net_base.specs.declared.ids.Vlan.TheVariants.{Untagged}
use Rattle.breaking_walks.proofs.CutLaws.{repeats_between}
use Rattle.breaking_walks.proofs.cutting.is_repeat.Goals as goal

pub returns : goal.returns
returns c place at =
    let rest = c.args.rest.now in
    let i = c.args.i in
    let default : Place = record { switch = record { 0 = 0 }; port = record { 0 = 0 }; vlan = Untagged } in
    let s = (get_or rest i default).switch in
    repeats_between c.args.entry rest i s place (ap (λ (p : Place). p.switch) (sym (get_or_from_slice_get rest i place default at))) c.if-entry-switch.false c.comes_to.result
    (c.comes_to.ensures ∙ ap (λ (places : List Place). list_any (λ p. p.switch.0 == s.0) places) c.front.ensures)
