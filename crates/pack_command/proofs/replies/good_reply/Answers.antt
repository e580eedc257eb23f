use Rattle.std.proofs.Common.{inr}
use Rattle.std.proofs.lemmas.Result.{IfOk-weaker}
use Rattle.certificates.specs.Updates.{Update}
use Rattle.command_base.specs.Replies.{answer_of}
use Rattle.command_base.specs.Updates.{meaning_of}
use Rattle.pack_command.proofs.TreeLaws.{packs_in_few}
use Rattle.pack_command.proofs.replies.good_reply.Goals as goal

pub returns : goal.returns
returns c =
    let u : Update = meaning_of c.args.files.now in
    IfOk-weaker c.found_reply.result _ _
    (λ r said. inr (record {
      few = c.requires.ends.classed.few;
      good = c.requires.ends.good;
      found = said;
      tree = λ tree. packs_in_few c.trees_are_never_stuck.ensures c.trees_take_few_rounds.ensures u c.keeps_rules.ensures c.requires.old c.requires.new tree c.args.kind (answer_of r) said;
    })) c.found_reply.ensures
