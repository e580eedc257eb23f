use Rattle.std.proofs.Common.{◌≡◌, ℕ, List, ap, ◌∙◌}
use Rattle.dest_classes.specs.Classes.{ClassList, class_count}
use Rattle.command_base.specs.declared.status.Status.{Status}
use Rattle.command_base.specs.Answers.{Answer}
use Rattle.config_command.specs.Configs.{config_count}
use Rattle.paths_command.specs.Listed.{meaning_of, listed_status}
use Rattle.paths_command.proofs.ListingLaws.{listed}
use Rattle.paths_command.proofs.listing.list_in.Goals as goal

pub returns : goal.returns
returns c =
    let m = meaning_of c.args.judged.now in
    let classes : c.count.result ≡ config_count m = c.count.ensures.count ∙ ap (λ (cs : ClassList). class_count cs) (c.requires.classes ∙ c.requires.ready.classes) in
    listed m c.list_classes.new.text.items c.list_classes.new.counts _ c.requires.few c.in_ok-list_classes.ensures c.count.result classes
    (ap (λ (s : Status). let a : Answer = record { status = s; text = c.add_counts.new.text.items } in a) c.status_of.ensures
    ∙ ap (λ (t : List ℕ). let a : Answer = record { status = listed_status c.list_classes.new.counts.breaks; text = t } in a) c.in_ok-add_counts.ensures)
