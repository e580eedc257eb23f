use Rattle.std.proofs.Common.{◌≡◌, ℕ, ◌<◌, ◌≤◌, [], true, List, Bool, length, sym, ◌∙◌, ap, subst, inl, inr, vec_capacity, arith}
use Rattle.std.specs.Prelude.{◌==◌}
use Rattle.std.specs.Vec.{with_items}
use Rattle.std.proofs.lemmas.Bool.{cases_lt, both_ways}
use Rattle.std.proofs.lemmas.List.{with_items_is, length-map, get_or_past}
use Rattle.net_base.specs.declared.ids.SwitchId.{SwitchId}
use Rattle.flow_rules.specs.Tables.{TableState, rules_at, rules_of_all}
use Rattle.flow_rules.specs.declared.rules.Rule.{Rule}
use Rattle.update_model.specs.Changes.{switch_of, changes_at, round_after, rules_after, tables_after}
use Rattle.update_model.specs.Mixtures.{Rollout, tables_before, need_of}
use Rattle.update_model.specs.declared.Change.{Change}
use Rattle.round_mix.specs.Prepared.{MixedState, AreGood}
use Rattle.round_tables.specs.PreparedTables.{ChangesState, PreparedState, HoldsRounds, IsMixed, is_touched, limit_at, list_at, mix_at, rules_there}
use Rattle.round_tables.specs.Loading.{ArePrepared, AreSwitchesBelow}
use Rattle.round_tables.proofs.ApplyLaws.{all_made, stands_next}
use Rattle.round_tables.proofs.LoadLaws.{filter_few, good_mixed}
use Rattle.round_tables.proofs.prepared.PreparedTables.apply_round.Goals as goal

-- the changes of a switch, as they are lent
listed : (u : Rollout) (k : ℕ) (p : PreparedState) (lists : List ChangesState) → ArePrepared u k p → lists ≡ p.changes → (s : SwitchId) → s.0 < length u.old
    → (list_at lists s).changes ≡ changes_at s (round_after k u.rounds)
listed u k p lists prepared lent s less = ap (λ (ls : List ChangesState). (list_at ls s).changes) lent ∙ prepared.lists s less

pub change_all-requires-clause-good : goal.change_all-requires-clause-good
change_all-requires-clause-good c s less =
    let u = c.args.update.now in
    let k = c.args.k in
    let p = c.args.self.now in
    let inside = c.self.inside in
    let tables = ap (λ (v : PreparedState). v.tables) c.self.view_is in
    let in_net : s.0 < length u.old = let count = ap (λ (ts : List TableState). length ts) tables in omega (arith, c.requires.room.tables, less) in
    let lent = c.deref-3.ensures.value ∙ ap (λ (v : PreparedState). v.changes) c.self.view_is in
    subst (AreGood (rules_there inside.tables s)) (sym (listed u k p c.deref-3.result.now c.requires.prepared lent s in_net))
    (subst (λ (ts : List (List Rule)). AreGood (rules_at ts s) (changes_at s (round_after k u.rounds))) (sym (ap rules_of_all tables ∙ c.requires.prepared.tables))
    (good_mixed (rules_at (tables_before u k) s) (changes_at s (round_after k u.rounds)) (mix_at p.mixes s) (c.requires.prepared.each s in_net)))

pub change_all-requires-clause-list : goal.change_all-requires-clause-list
change_all-requires-clause-list c s less =
    let u = c.args.update.now in
    let k = c.args.k in
    let p = c.args.self.now in
    let count = ap (λ (v : PreparedState). length v.tables) c.self.view_is in
    let in_net : s.0 < length u.old = omega (arith, c.requires.room.tables, less) in
    let lent = c.deref-3.ensures.value ∙ ap (λ (v : PreparedState). v.changes) c.self.view_is in
    let same = ap length (listed u k p c.deref-3.result.now c.requires.prepared lent s in_net) in
    let few = filter_few (λ (d : Change). (switch_of d).0 == s.0) (round_after k u.rounds) in
    let room = ap (λ (v : PreparedState). v.room) c.self.view_is in
    let sorting = c.requires.room.for_sorting k in
    omega arith

pub returns-clause-stands : goal.returns-clause-stands
returns-clause-stands c =
    let u = c.args.update.now in
    let k = c.args.k in
    let inside = c.self.inside in
    let round = round_after k u.rounds in
    let n = length u.old in
    let p : PreparedState = record {
      tables = inside.tables;
      mixes = inside.mixes.items;
      touched = inside.touched.items;
      changes = inside.changes.items;
      limits = inside.limits.items;
      room = vec_capacity inside.rules;
      round = inside.round.items;
    } in
    let prepared : ArePrepared u k p = subst (ArePrepared u k) (sym c.self.view_is) c.requires.prepared in
    let holds : HoldsRounds n u.rounds p = subst (HoldsRounds n u.rounds) (sym c.self.view_is) c.requires.room in
    let made = c.change_all.ensures in
    let new = c.change_all.new.tables in
    let mixes = with_items inside.mixes c.keep_all.new.mixes in
    let same : mixes.items ≡ c.keep_all.new.mixes = with_items_is inside.mixes c.keep_all.new.mixes (omega arith) in
    let q : PreparedState = record {
      tables = new;
      mixes = mixes.items;
      touched = inside.touched.items;
      changes = inside.changes.items;
      limits = inside.limits.items;
      room = vec_capacity c.change_all.new.rules;
      round = inside.round.items;
    } in
    let len : length (tables_before u k) ≡ n = ap length (sym prepared.tables) ∙ length-map inside.tables (λ (t : TableState). t.rules) ∙ holds.tables in
    let within : AreSwitchesBelow (length (tables_before u k)) round = subst (λ (m : ℕ). AreSwitchesBelow m round) (sym len) prepared.within in
    let each : (s : SwitchId) → s.0 < length inside.tables → rules_there new s ≡ rules_after (changes_at s round) (rules_there inside.tables s) = λ s less.
    made.rules s less ∙ ap (λ (cs : List Change). rules_after cs (rules_there inside.tables s)) (listed u k p c.deref-3.result.now prepared c.deref-3.ensures.value s (omega (arith, holds.tables, less))) in
    let after : rules_of_all new ≡ tables_after round (tables_before u k) =
    all_made inside.tables new round (subst (λ (ts : List (List Rule)). AreSwitchesBelow (length ts) round) (sym prepared.tables) within) made.count each ∙ ap (tables_after round) prepared.tables in
    let fits : (s : SwitchId) → s.0 < n → need_of u k s ≤ limit_at q.limits s =
    subst (λ (v : PreparedState). (s : SwitchId) → s.0 < n → need_of u k s ≤ limit_at v.limits s) (sym c.self.view_is) c.requires.fits in
    stands_next u k c.requires.round within q after fits
    (λ s off. elim (cases_lt s.0 (length inside.touched.items)) [
      | inl below ↦ (
          let in_net : s.0 < n = omega (arith, holds.touched, below) in
          let in_tables : s.0 < length inside.tables = omega (arith, holds.tables, in_net) in
          let kept = c.keep_all.ensures.after s in_tables (ap (λ (bs : List Bool). is_touched bs s) c.deref.ensures.value ∙ off) in
          subst (λ (ts : List (List Rule)). IsMixed (rules_after (changes_at s round) (rules_at ts s)) [] (mix_at mixes.items s)) prepared.tables
          (subst (λ (ms : List MixedState). IsMixed (rules_after (changes_at s round) (rules_there inside.tables s)) [] (mix_at ms s)) (sym same)
          (subst (λ (cs : List Change). IsMixed (rules_after cs (rules_there inside.tables s)) [] (mix_at c.keep_all.new.mixes s))
          (listed u k p c.deref-2.result.now prepared c.deref-2.ensures.value s in_net) kept)))
      | inr past ↦ absurd (both_ways (is_touched inside.touched.items s) off (get_or_past inside.touched.items s.0 true past))
    ])
