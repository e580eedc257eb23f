use Rattle.std.proofs.Common.{◌≡◌, ◌<◌, ◌∙◌, ℕ, List, [], length, map, set, get_or, ap, arith, Vec, Global}
use Rattle.std.proofs.lemmas.List.{length-map}
use Rattle.schedule_pilot.specs.Counts.{with_one_less}
use Rattle.schedule_pilot.proofs.CountLaws.{row_lowered}
use Rattle.schedule_pilot.proofs.flag_tree.Rows.lower.Goals as goal

pub returns : goal.returns
returns c =
    let same : length (map (λ (r : Vec ℕ Global). r.items) c.self.inside.list.items) ≡ length c.args.self.now = ap (λ (l : List (List ℕ)). length l) c.self.view_is in
    let count = length-map c.self.inside.list.items (λ (r : Vec ℕ Global). r.items) in
    let row = c.requires.row in
    let less : c.args.j < length c.self.inside.list.items = omega arith in
    row_lowered c.self.inside.list.items c.args.j c.args.i c.lower_in.new.row c.index_mut.result.now less
    (c.lower_in.ensures ∙ ap (λ (v : Vec ℕ Global). with_one_less c.args.i v.items) c.index_mut.ensures.value)
    ∙ ap (λ (rows : List (List ℕ)). set rows c.args.j (with_one_less c.args.i (get_or rows c.args.j []))) c.self.view_is
