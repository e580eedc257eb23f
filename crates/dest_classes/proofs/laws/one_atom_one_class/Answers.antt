use Rattle.dest_classes.proofs.AtomLaws.{one_atom, first_of_class}
use Rattle.dest_classes.proofs.laws.one_atom_one_class.Goals as goal

pub returns-clause-any_two : goal.returns-clause-any_two
returns-clause-any_two c = one_atom

pub returns-clause-first : goal.returns-clause-first
returns-clause-first c = first_of_class
