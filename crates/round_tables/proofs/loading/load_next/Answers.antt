use Rattle.std.proofs.Common.{◌≡◌, ◌+◌, ◌<◌, [], List, length, get_or, sym, ◌∙◌, ap, subst, arith}
use Rattle.std.specs.Prelude.{Some, slice_get}
use Rattle.std.proofs.lemmas.List.{get_or_default}
use Rattle.net_base.specs.declared.ids.SwitchId.{SwitchId}
use Rattle.flow_rules.specs.Tables.{IsTable, TableState}
use Rattle.flow_rules.specs.declared.rules.Rule.{Rule}
use Rattle.flow_rules.proofs.TableLaws.{rules_get}
use Rattle.update_model.specs.declared.Change.{Change}
use Rattle.round_mix.specs.Faults.{IsMixRefusal, AreUnclear, IsFirstBad}
use Rattle.round_mix.specs.declared.MixRefusal.{MixRefusal}
use Rattle.round_tables.specs.Loading.{IsLoadedTo}
use Rattle.round_tables.specs.PreparedTables.{ChangesState, IsMixed, list_at, mix_at, rules_there}
use Rattle.round_tables.proofs.LoadLaws.{loaded_next, loaded_unclear}
use Rattle.round_tables.proofs.loading.load_next.Goals as goal

-- what is said of the table and its changes is said of those of the switch
there : (tables : List TableState) (lists : List ChangesState) (s : SwitchId) (t : TableState) (item : ChangesState) (cs : List Change) → slice_get tables s.0 ≡ Some t → cs ≡ item.changes
    → item ≡ get_or lists s.0 item → s.0 < length lists → (P : List Rule → List Change → Type 0) → P t.rules cs → P (rules_there tables s) (list_at lists s).changes
there tables lists s t item cs at listed is within P h =
    let same = get_or_default lists s.0 item (record { changes = []; room = 0 }) within in
    subst (P (rules_there tables s)) (listed ∙ ap (λ (x : ChangesState). x.changes) (is ∙ same))
    (subst (λ (rs : List Rule). P rs cs) (sym (rules_get tables s.0 t at)) h)

pub returns-in-Ok-clause-ok : goal.returns-in-Ok-clause-ok
returns-in-Ok-clause-ok c =
    let s = c.args.switch in
    let tables = c.args.tables.now in
    let lists = c.args.lists.now in
    let new = c.load_at.new.mixes in
    let next = c.load_at.new.touched in
    let said = there tables lists s c.table.result.now c.index-lists-switch.result c.list-changes.result.now c.table.ensures c.list-changes.ensures c.index-lists-switch.is
    (omega (arith, c.requires.within, c.requires.lists)) in
    loaded_next tables lists s c.args.touched.now next c.args.mixes.now new c.in-Ok.ensures.others c.args.unclear c.requires.so_far
    (said (λ rs cs. IsMixed rs cs (mix_at new s)) c.in-Ok.ensures.ok)

pub returns-in-Err-Unclear-clause-ok : goal.returns-in-Err-Unclear-clause-ok
returns-in-Err-Unclear-clause-ok c =
    let s = c.args.switch in
    let tables = c.args.tables.now in
    let lists = c.args.lists.now in
    let new = c.load_at.new.mixes in
    let next = c.load_at.new.touched in
    let said = there tables lists s c.table.result.now c.index-lists-switch.result c.list-changes.result.now c.table.ensures c.list-changes.ensures c.index-lists-switch.is
    (omega (arith, c.requires.within, c.requires.lists)) in
    let here : AreUnclear (rules_there tables s) (list_at lists s).changes =
    subst (λ (f : MixRefusal). IsMixRefusal (rules_there tables s) (list_at lists s).changes f) c.in-Err-Unclear.field-0-is
    (said (λ rs cs. IsMixRefusal rs cs c.in-Err-Unclear.field-0) c.in-Err-Unclear.ensures.err) in
    subst (λ (w : SwitchId). IsLoadedTo tables lists (s.0 + 1) new (Some w)) (sym c.unwrap_or.ensures)
    (loaded_unclear tables lists s c.args.touched.now next c.args.mixes.now new c.in-Err-Unclear.ensures.others c.args.unclear c.requires.so_far
    (said (λ rs _. IsTable rs) c.in-Err-Unclear.ensures.table) here)

pub returns-in-Err-BadChange-clause-err : goal.returns-in-Err-BadChange-clause-err
returns-in-Err-BadChange-clause-err c =
    let s = c.args.switch in
    let tables = c.args.tables.now in
    let lists = c.args.lists.now in
    let said = there tables lists s c.table.result.now c.index-lists-switch.result c.list-changes.result.now c.table.ensures c.list-changes.ensures c.index-lists-switch.is
    (omega (arith, c.requires.within, c.requires.lists)) in
    let first : IsFirstBad (rules_there tables s) (list_at lists s).changes c.in-Err-BadChange.nth =
    subst (λ (f : MixRefusal). IsMixRefusal (rules_there tables s) (list_at lists s).changes f) c.in-Err-BadChange.field-0-is
    (said (λ rs cs. IsMixRefusal rs cs c.in-Err-BadChange.field-0) c.in-Err-BadChange.ensures.err) in
    (c.requires.within, record { first = first; below = c.requires.so_far.good })
