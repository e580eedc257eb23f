use Rattle.std.proofs.Common.{List, ℕ, [], ◌∷◌, ◌++◌, ap, ◌∙◌}
use Rattle.plan_text.specs.TablesText.{tables_tree}
use Rattle.plan_text.proofs.ReadBack.{bytes_are}
use Rattle.plan_text.proofs.write_tables.tables_text.Goals as goal

pub returns : goal.returns
returns c =
    c.in_ok-push.ensures.items ∙ ap (λ (s : List ℕ). s ++ 10 ∷ []) (c.into_inner-text.ensures.items
    ∙ bytes_are c.new-out.result c.write_tables.new.out (tables_tree c.args.net.now c.args.rules.now c.args.pending.now) (c.new-out.ensures.before ∙ c.new.ensures.items) c.new-out.ensures.tokens
    c.in_ok-write_tables.ensures)
