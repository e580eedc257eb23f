use Rattle.std.proofs.Common.{◌≡◌, ◌<◌, ◌∙◌, Bool, true, List, length, ap, arith}
use Rattle.std.specs.Prelude.{slice_get, Some}
use Rattle.std.proofs.lemmas.Option.{slice_get_within}
use Rattle.schedule_pilot.proofs.CountLaws.{way_up, turned_off}
use Rattle.schedule_pilot.proofs.flag_tree.FlagTree.turn_off.Goals as goal

pub lower_up-requires : goal.lower_up-requires
lower_up-requires c =
    way_up c.self.inside.flags.items c.args.i (ap (λ (l : List Bool). slice_get l c.args.i) c.self.view_is ∙ c.requires) c.self.inside.rows c.self.invariant

pub index_mut-requires : goal.index_mut-requires
index_mut-requires c =
    let on : slice_get c.self.inside.flags.items c.args.i ≡ Some true = ap (λ (l : List Bool). slice_get l c.args.i) c.self.view_is ∙ c.requires in
    let within : c.args.i < length c.self.inside.flags.items = slice_get_within c.self.inside.flags.items c.args.i true on in
    let count = c.self.inside.flags.ok in
    omega arith

pub invariant_of-self : goal.invariant_of-self
invariant_of-self c =
    turned_off c.self.inside.flags.items c.args.i (ap (λ (l : List Bool). slice_get l c.args.i) c.self.view_is ∙ c.requires) c.self.inside.rows c.lower_up.new.rows c.self.invariant c.lower_up.ensures
