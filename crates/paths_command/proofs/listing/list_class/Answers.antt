use Rattle.std.proofs.Common.{◌<◌, ◌≤◌, List, map, sym, subst, arith}
use Rattle.net_base.specs.declared.ids.Place.{Place}
use Rattle.net_base.specs.Places.{stop_of}
use Rattle.dest_classes.specs.Classes.{ClassList, IsClass, class_count}
use Rattle.dest_classes.proofs.MapLaws.{number_fits}
use Rattle.path_walk.specs.Walked.{PathEndsAs}
use Rattle.command_base.specs.Judgements.{most_classes}
use Rattle.config_command.specs.Configs.{config_count}
use Rattle.paths_command.specs.Rows.{row_seen}
use Rattle.paths_command.specs.Listed.{meaning_of}
use Rattle.paths_command.proofs.RowLaws.{room_for_one, one_more}
use Rattle.paths_command.proofs.listing.list_class.Goals as goal

pub add-requires : goal.add-requires
add-requires c =
    let m = meaning_of c.args.judged.now in
    let n = c.args.numbered.number in
    let fits : n < class_count c.args.judged.now.duties.now.classes = number_fits c.args.judged.now.duties.now.classes n c.args.numbered.class c.requires.class in
    let below : n < config_count m = subst (λ (cs : ClassList). n < class_count cs) c.requires.ready.classes fits in
    let few : config_count m ≤ most_classes = c.requires.few in
    room_for_one m n most_classes c.args.text.now.items c.args.counts.now c.requires.listing (omega (arith, below, few))

pub returns-clause-listing : goal.returns-clause-listing
returns-clause-listing c =
    let m = meaning_of c.args.judged.now in
    let class = c.args.numbered.class in
    one_more m c.args.numbered.number c.args.text.now.items c.args.counts.now
    (row_seen (record { class = class; places = c.places.result; end = c.follow-end.result; mark = c.mark_of-mark.result }))
    c.add_row.new.text.items c.add.new.self c.requires.listing
    (record {
      class_is = subst (λ (cs : ClassList). IsClass cs c.args.numbered.number class) c.requires.ready.classes c.requires.class;
      path = subst (λ (places : List Place). PathEndsAs m.net m.tables class.entry class.first (map stop_of places) c.follow-end.result) (sym c.places.ensures) c.follow-end.ensures.end;
      marked = c.mark_of-mark.ensures.mark;
    })
    c.in_ok-add_row.ensures c.add.ensures.good c.add.ensures.free c.add.ensures.breaks
