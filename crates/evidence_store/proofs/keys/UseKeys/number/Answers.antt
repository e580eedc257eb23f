use Rattle.certificates.specs.SharedKeys.{shared_of}
use Rattle.evidence_store.proofs.KeyLaws.{entered, told_uses}
use Rattle.evidence_store.proofs.keys.UseKeys.number.Goals as goal

pub returns : goal.returns
returns c =
    entered shared_of _ told_uses c.in_ok-key.key c.self.inside.keys.keys c.insert_full.new.self.keys _ _ _ _ c.in_ok-key.ensures c.self.view_is
    c.in_ok-insert_full.ensures.index c.in_ok-insert_full.ensures.added c.in_ok-insert_full.ensures.keys
