-- Facts over the demands and classes of a room are facts over those of the update.
use Rattle.std.proofs.Common.{◌≡◌, ℕ, ◌<◌, List, length, subst}
use Rattle.dest_classes.specs.Classes.{ClassList}
use Rattle.demands.specs.Duties.{DemandView}
use Rattle.update_model.specs.Mixtures.{Rollout}
use Rattle.counter_run.specs.Explaining.{NoneBreaks}

pub none_of : (u : Rollout) (demands asked : List DemandView) (classes list : ClassList)
    → demands ≡ asked → classes ≡ list → ((k : ℕ) → k < length u.rounds → NoneBreaks u classes demands k) → (k : ℕ) → k < length u.rounds → NoneBreaks u list asked k
none_of u demands asked classes list demands_are classes_are none k within =
    subst (λ (c : ClassList). NoneBreaks u c asked k) classes_are
    (subst (λ (d : List DemandView). NoneBreaks u classes d k) demands_are (none k within))
