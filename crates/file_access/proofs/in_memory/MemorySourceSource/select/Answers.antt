use Rattle.std.proofs.Common.{refl, rules, inl, IsTrue}
use Rattle.file_access.specs.Shelf.{fails_next}
use Rattle.file_access.proofs.in_memory.MemorySourceSource.select.Goals as goal

pub returns-then-fails-clause-failed : goal.returns-then-fails-clause-failed
returns-then-fails-clause-failed c =
    let fails : IsTrue (fails_next c.args.self.now.failing c.args.self.now.calls) = search rules in
    (λ _. inl fails, λ _. refl)
