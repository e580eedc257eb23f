-- The atoms whose classes are looked at in a round.
use Rattle.std.specs.Prelude.{◌≡◌, ℕ, suc, ◌%◌, ◌<◌, Bool, false, List}
use Rattle.net_base.specs.Members.{IsIn}
use Rattle.dest_classes.specs.Classes.{IsClass, class_count, atom_count}
use Rattle.dest_classes.specs.declared.Class.{Class}
use Rattle.update_model.specs.Changes.{round_after}
use Rattle.certificates.specs.Updates.{Task}
use Rattle.certificates.specs.Certified.{classes_for}
use Rattle.certificates.specs.declared.OrderedPick.{OrderedPick}
use Rattle.certificates.specs.declared.OrderedEvidence.{OrderedEvidence}
use Rattle.check_reasons.specs.Touched.{touches}
use Rattle.check_reasons.specs.AtomMarks.{is_marked}

-- class n may be passed over in round k: it isn't the first one, no change covers the address of the class, and no pick of it
-- begins with the round
pub record MayBePassed (t : Task) (e : OrderedEvidence) (k n : ℕ) : Type 0 where
  pub later : 0 < k
  pub untouched : (class : Class) → IsClass (classes_for t) n class → touches (round_after k t.rounds) class.first ≡ false
  pub no_pick : (pick : OrderedPick) → IsIn pick e.picks → pick.class ≡ n → ¬ (pick.round ≡ suc k)

-- each class whose atom isn't marked may be passed over in round k
abbrev pub AreLookedAt : Task → OrderedEvidence → ℕ → List Bool → Type 0
AreLookedAt t e k marks =
    (n : ℕ) → n < class_count (classes_for t) → is_marked marks (n % atom_count (classes_for t)) ≡ false → MayBePassed t e k n
