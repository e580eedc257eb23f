use Rattle.sample_command.proofs.SampleLaws.{promised}
use Rattle.sample_command.proofs.laws.sample_promised.Goals as goal

pub returns : goal.returns
returns c = λ n held old new selected taken result ends read. promised n held old new selected taken result ends read
