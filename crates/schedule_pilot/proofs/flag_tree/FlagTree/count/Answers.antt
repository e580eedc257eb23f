use Rattle.std.proofs.Common.{◌≡◌, ◌∙◌, ℕ, Bool, List, length, get_or, ap, arith}
use Rattle.schedule_pilot.specs.Agendas.{numbers_on}
use Rattle.schedule_pilot.proofs.CountLaws.{top_is, few_on}
use Rattle.schedule_pilot.proofs.flag_tree.FlagTree.count.Goals as goal

pub returns-clause-value : goal.returns-clause-value
returns-clause-value c =
    c.number_at.ensures ∙ ap (λ (row : List ℕ). get_or row 0 0) c.top.ensures ∙ top_is c.self.inside.flags.items c.self.inside.rows c.self.invariant
    ∙ ap (λ (flags : List Bool). length (numbers_on 0 flags)) c.self.view_is

pub returns-clause-small : goal.returns-clause-small
returns-clause-small c =
    let value : c.number_at.result ≡ length (numbers_on 0 c.self.inside.flags.items) =
    c.number_at.ensures ∙ ap (λ (row : List ℕ). get_or row 0 0) c.top.ensures ∙ top_is c.self.inside.flags.items c.self.inside.rows c.self.invariant in
    let few = few_on 0 c.self.inside.flags.items in
    let count = c.self.inside.flags.ok in
    let small = c.self.inside.flags.small in
    omega arith
