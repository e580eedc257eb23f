use Rattle.std.proofs.Common.{◌≡◌, [], ◌∷◌, ◌++◌, ◌∙◌, ap, arith, vec_capacity}
use Rattle.std.specs.Vec.{with_items}
use Rattle.std.proofs.lemmas.List.{with_items_is}
use Rattle.round_tables.specs.PreparedTables.{PreparedState}
use Rattle.round_tables.proofs.TakenLaws.{taken_more}
use Rattle.round_tables.proofs.prepared.PreparedTables.put.Goals as goal

pub returns-in-Ok-clause-taken : goal.returns-in-Ok-clause-taken
returns-in-Ok-clause-taken c = λ is fit.
    let net = c.args.net.now in
    let change = c.args.change.now in
    let inside = c.self.inside in
    let mixes = with_items inside.mixes c.index_at.new.mixes in
    let same : mixes.items ≡ inside.mixes.items = with_items_is inside.mixes c.index_at.new.mixes (omega arith) ∙ c.index_at.ensures ∙ c.deref_mut.ensures.value in
    let r : PreparedState = record {
      tables = inside.tables;
      mixes = mixes.items;
      touched = inside.touched.items;
      changes = inside.changes.items;
      limits = inside.limits.items;
      room = vec_capacity inside.rules;
      round = c.push.new.self.items;
    } in
    taken_more net is change c.args.self.now fit c.requires.begun r (ap (λ (t : PreparedState). t.tables) c.self.view_is) (same ∙ ap (λ (t : PreparedState). t.mixes) c.self.view_is)
    (ap (λ (t : PreparedState). t.limits) c.self.view_is) (c.in-Ok.ensures.items ∙ ap (λ (t : PreparedState). t.round ++ change ∷ []) c.self.view_is)
