use Rattle.law_serve_promise.proofs.PromiseLaws.{promised}
use Rattle.law_serve_promise.proofs.laws.serve_promised.Goals as goal

pub returns : goal.returns
returns c = λ files names old new selected taken takes result ends. promised files names old new selected taken takes result ends
