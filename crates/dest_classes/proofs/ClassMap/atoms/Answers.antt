use Rattle.std.proofs.Common.{◌≡◌, ◌*◌, ◌%◌, ◌≤◌, length, ap, subst, sym, ◌∙◌, arith}
use Rattle.std.specs.Prelude.{slice_get, Some}
use Rattle.dest_classes.specs.Classes.{atom_count, boundaries}
use Rattle.dest_classes.proofs.TouchedLaws.{first_of, few_atoms}
use Rattle.dest_classes.proofs.ClassMap.atoms.Goals as goal
use Rattle.dest_classes.proofs.ClassMap.atoms.Goals.{After-count}

counted : (c : After-count) → (c.count.result ≡ atom_count c.args.self.now) × (c.count.result ≤ 8192)
counted c =
    let h = few_atoms c.self.view_is c.self.invariant.0 c.self.invariant.1 c.requires.some in
    let e = c.count.ensures.count in
    (e ∙ h.0, let few = h.1 in omega arith)

pub overflow_cast-result : goal.overflow_cast-result
overflow_cast-result c = let h = (counted c).1 in omega arith

pub returns-clause-few : goal.returns-clause-few
returns-clause-few c = (counted c).1

pub returns-clause-count : goal.returns-clause-count
returns-clause-count c = (counted c).0

pub returns-clause-classes : goal.returns-clause-classes
returns-clause-classes c = ap (λ n. length c.args.self.now.hosts * length c.args.self.now.vlans * n) (sym (counted c).0)

pub returns-clause-first : goal.returns-clause-first
returns-clause-first c = λ n class is.
    subst (λ a. slice_get (boundaries c.args.self.now.prefixes) (n % a) ≡ Some class.first) (sym (counted c).0) (first_of c.args.self.now n class is)
