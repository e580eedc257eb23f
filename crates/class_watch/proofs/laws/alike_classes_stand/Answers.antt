use Rattle.class_watch.proofs.StandLaws.{alike_walks, alike_safe}
use Rattle.class_watch.proofs.laws.alike_classes_stand.Goals as goal

pub returns-clause-walks : goal.returns-clause-walks
returns-clause-walks c = λ u k v j class alike. alike_walks u v k j class alike

pub returns-clause-safe : goal.returns-clause-safe
returns-clause-safe c = λ u k v j class alike. alike_safe u v k j class alike
