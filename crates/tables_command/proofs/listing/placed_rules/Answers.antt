use Rattle.std.proofs.Common.{◌≡◌, [], ◌++◌, drop, length, sym, ap, ◌∙◌, append-nil, arith}
use Rattle.std.proofs.lemmas.List.{drop_all}
use Rattle.topology.specs.Networks.{switch_count}
use Rattle.tables_command.specs.Listed.{placed_from}
use Rattle.tables_command.proofs.listing.placed_rules.Goals as goal

pub returns : goal.returns
returns c =
    let n = c.loop-number.number in
    let tables = c.args.world.now.course.state.tables in
    let end : c.switches-number-end.result ≡ length tables =
    c.switches-number-end.ensures.value ∙ ap switch_count c.net.ensures ∙ sym c.requires in
    let none : drop n tables ≡ [] = drop_all n tables (omega arith) in
    sym (append-nil c.loop-number.listed.items) ∙ ap (λ rest. c.loop-number.listed.items ++ placed_from n rest) (sym none) ∙ c.loop-number.invariant
