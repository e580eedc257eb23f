use Rattle.std.proofs.Common.{◌∙◌}
use Rattle.evidence_store.proofs.KeyLaws.{entered, told_lists}
use Rattle.evidence_store.proofs.keys.NumberingKeys.number.Goals as goal

pub returns : goal.returns
returns c =
    entered (λ key. key.items) _ (λ a b. told_lists a.items b.items) c.in_ok-key.key c.self.inside.keys.keys c.insert_full.new.self.keys _ _ _ _ (c.in_ok-key.ensures.items ∙ c.list.ensures) c.self.view_is
    c.in_ok-insert_full.ensures.index c.in_ok-insert_full.ensures.added c.in_ok-insert_full.ensures.keys
