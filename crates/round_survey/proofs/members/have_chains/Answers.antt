use Rattle.std.proofs.Common.{get_or}
use Rattle.net_base.proofs.ItemLaws.{in_at}
use Rattle.dest_classes.proofs.MapLaws.{number_fits}
use Rattle.class_watch.proofs.ListLaws.{no_class}
use Rattle.round_survey.proofs.members.have_chains.Goals as goal

pub chains-requires : goal.chains-requires
chains-requires c =
    let m = get_or c.args.members.now c.loop-member.member-index no_class in
    number_fits c.args.duties.now.classes m.number m.class (c.requires m (in_at c.args.members.now c.loop-member.member-index no_class c.loop-member-test.true))
