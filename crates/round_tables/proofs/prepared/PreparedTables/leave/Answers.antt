use Rattle.std.proofs.Common.{◌≡◌, List, sym, ◌∙◌, ap, subst, arith, vec_capacity}
use Rattle.std.specs.Vec.{with_items}
use Rattle.std.proofs.lemmas.List.{with_items_is}
use Rattle.round_mix.specs.Prepared.{MixedState}
use Rattle.round_tables.specs.PreparedTables.{PreparedState}
use Rattle.round_tables.specs.Filling.{AreTakenChanges}
use Rattle.round_tables.proofs.TakenLaws.{fit_left, popped, taken_of}
use Rattle.round_tables.proofs.prepared.PreparedTables.leave.Goals as goal

pub returns-clause-stands : goal.returns-clause-stands
returns-clause-stands c =
    let net = c.args.net.now in
    let change = c.args.change.now in
    let p = c.args.self.now in
    let q = c.unmark.new.self in
    let before = c.self.inside in
    let mid : PreparedState = record {
      tables = before.tables;
      mixes = before.mixes.items;
      touched = before.touched.items;
      changes = before.changes.items;
      limits = before.limits.items;
      room = vec_capacity before.rules;
      round = c.pop.new.self.items;
    } in
    let (round, last) = c.requires.last in
    let had : before.round.items ≡ p.round = ap (λ (t : PreparedState). t.round) c.self.view_is in
    let left : c.pop.new.self.items ≡ round = c.pop.ensures.rest ∙ popped before.round.items round change before.round.len (had ∙ last) (omega arith) in
    let taken : AreTakenChanges net q =
    taken_of net c.keeps_rules.ensures q c.unmark.ensures.ready
    (fit_left net change round p mid c.requires.taken last c.requires.within (ap (λ (t : PreparedState). t.tables) c.self.view_is) (ap (λ (t : PreparedState). t.mixes) c.self.view_is)
    (ap (λ (t : PreparedState). t.limits) c.self.view_is) left q c.unmark.ensures.rules c.unmark.ensures.round) in
    let inside = c.self-2.inside in
    let same : (with_items inside.mixes c.index_at.new.mixes).items ≡ inside.mixes.items =
    with_items_is inside.mixes c.index_at.new.mixes (omega arith) ∙ c.index_at.ensures ∙ c.deref_mut.ensures.value in
    subst (λ (ms : List MixedState). let v : PreparedState = record { tables = inside.tables; mixes = ms; touched = inside.touched.items; changes = inside.changes.items; limits = inside.limits.items; room = vec_capacity inside.rules; round = inside.round.items } in AreTakenChanges net v) (sym same) (subst (AreTakenChanges net) (sym c.self-2.view_is) taken)
