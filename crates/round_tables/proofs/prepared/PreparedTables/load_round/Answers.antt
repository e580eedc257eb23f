use Rattle.std.proofs.Common.{◌≡◌, ◌<◌, List, length, take, sym, ◌∙◌, ap, subst, arith}
use Rattle.std.specs.Prelude.{Result, IfErr, slice_get}
use Rattle.std.proofs.lemmas.List.{with_items_is, length-map}
use Rattle.std.proofs.lemmas.Result.{IfErr-weaker}
use Rattle.net_base.specs.declared.ids.SwitchId.{SwitchId}
use Rattle.flow_rules.specs.Tables.{TableState, rules_of_all}
use Rattle.update_model.specs.Changes.{changes_at, round_after}
use Rattle.update_model.specs.Mixtures.{Rollout, tables_before}
use Rattle.update_model.specs.declared.Change.{Change}
use Rattle.round_tables.specs.PreparedTables.{ChangesState, PreparedState, list_at}
use Rattle.round_tables.specs.Loading.{IsFirstRoundFault, IsRestFault}
use Rattle.round_tables.specs.declared.loading.RoundFault.{RoundFault}
use Rattle.round_tables.proofs.FaultLaws.{bad_found, rest_found}
use Rattle.round_tables.proofs.prepared.PreparedTables.load_round.Goals.{in-Ok, in-Err}
use Rattle.round_tables.proofs.prepared.PreparedTables.load_round.Goals as goal

pub returns-clause-err : goal.returns-clause-err
returns-clause-err c =
    let u = c.args.update.now in
    let k = c.args.k in
    let inside = c.self.inside in
    let lists = c.deref.result.now in
    let same : rules_of_all inside.tables ≡ tables_before u k = ap (λ (p : PreparedState). rules_of_all p.tables) c.self.view_is ∙ c.requires.stands.tables in
    let count : length (tables_before u k) ≡ length u.old =
    ap length (sym c.requires.stands.tables) ∙ length-map c.args.self.now.tables (λ (t : TableState). t.rules) ∙ c.requires.room.tables in
    let in_tables : length inside.tables ≡ length u.old = ap (λ (p : PreparedState). length p.tables) c.self.view_is ∙ c.requires.room.tables in
    let in_lists : length inside.changes.items ≡ length u.old = ap (λ (p : PreparedState). length p.changes) c.self.view_is ∙ c.requires.room.lists in
    let round : c.round-round.result.now ≡ round_after k u.rounds = c.round-round.ensures ∙ ap (λ (v : Rollout). round_after k v.rounds) c.update.view_is in
    let lent : lists ≡ c.gather-are_within.new.lists = c.deref.ensures.value ∙ with_items_is inside.changes c.gather-are_within.new.lists (omega arith) in
    let gathered : (s : SwitchId) → s.0 < length u.old → (list_at lists s).changes ≡ changes_at s (round_after k u.rounds) = λ s less.
    ap (λ (ls : List ChangesState). (list_at ls s).changes) lent
    ∙ c.gather-are_within.ensures.gathered s (let size = ap length c.deref_mut.ensures.value in omega (arith, less, in_lists))
    ∙ ap (λ (cs : List Change). changes_at s cs) round in
    elim c.match-load_all.branch [
      | in-Ok w ↦ (
          let unclear = w.in-Ok.unclear in
          let first = rest_found u k inside.tables lists same count gathered c.load_all.new.mixes unclear w.in-Ok.ensures.ok in
          subst (λ (r : Result (Unit {0}) RoundFault). IfErr r (IsFirstRoundFault u k)) (sym w.result-is)
          (IfErr-weaker w.rest_fault.result (IsRestFault w.count.result c.round-round.result.now unclear) (IsFirstRoundFault u k)
          (λ f h. first f (subst (λ (cs : List Change). IsRestFault (length inside.tables) cs unclear f) round (subst (λ n. IsRestFault n c.round-round.result.now unclear f) w.count.ensures h)))
          w.rest_fault.ensures.err))
      | in-Err w ↦ (
          let s = w.in-Err.switch in
          let nth = w.in-Err.nth in
          let i = w.number_of.result in
          let bad = w.in-Err.ensures.err in
          subst (λ (r : Result (Unit {0}) RoundFault). IfErr r (IsFirstRoundFault u k)) (sym w.result-is)
          (bad_found u k inside.tables lists same count gathered s nth i (omega (arith, bad.0, in_tables)) bad.1
          (subst (λ (cs : List Change). slice_get cs i ≡ slice_get (changes_at s cs) nth) round w.number_of.ensures.at)
          (subst (λ (cs : List Change). changes_at s (take i cs) ≡ take nth (changes_at s cs)) round w.number_of.ensures.before)))
    ]
