use Rattle.std.proofs.Common.{◌≡◌, ◌<◌, ◌≤◌, ◌+◌, ◌-◌, ◌∷◌, [], ◌++◌, length, map, subst, sym, ◌∙◌, ap, arith, length-append, List}
use Rattle.topology.specs.Networks.{switch_count}
use Rattle.net_base.specs.Places.{stop_of}
use Rattle.net_base.specs.declared.ids.Place.{Place}
use Rattle.flow_rules.specs.Tables.{rules_of_all}
use Rattle.path_walk.specs.Walked.{IsFollowed, ComesAgain}
use Rattle.path_walk.specs.declared.Outcome.TheVariants.{Discard, Leave, Go}
use Rattle.path_walk.proofs.StayLaws.{go_within}
use Rattle.path_walk.proofs.WalkedLaws.{HasWalked, walked_none, place_within, few_places, outcome_held, drops, leaves, followed_more, again, more}
use Rattle.path_walk.proofs.walking.follow.Goals as goal

pub path-init : goal.path-init
path-init c = record {
  walked =
      subst (λ (places : List Place). HasWalked c.args.net.now (rules_of_all c.args.config.now) c.args.entry c.args.dst places c.args.entry)
      (sym (ap (λ r. r.places) c.visit.ensures.added ∙ ap (λ r. r.places ++ c.args.entry ∷ []) c.clear.ensures))
      (walked_none c.args.net.now (rules_of_all c.args.config.now) c.args.entry c.args.dst c.requires.entry);
  same_room = ap (λ r. r.switches) c.visit.ensures.added ∙ ap (λ r. r.switches) c.clear.ensures ∙ c.requires.room;
}

pub table-requires : goal.table-requires
table-requires c =
    subst (λ n. c.path.place.switch.0 < n) (sym c.requires.tables)
    (place_within c.args.net.now (rules_of_all c.args.config.now) c.args.entry c.args.dst c.path.room.places c.path.place c.path.invariant.walked)

pub returns-in-Discard-clause-end : goal.returns-in-Discard-clause-end
returns-in-Discard-clause-end c =
    drops c.args.net.now (rules_of_all c.args.config.now) c.args.entry c.args.dst c.path.room.places c.path.place c.path.invariant.walked
    (outcome_held c.args.net.now c.args.config.now c.path.place c.args.dst c.table.result.now Discard c.table.ensures c.in-Discard.ensures)

pub returns-in-Leave-clause-end : goal.returns-in-Leave-clause-end
returns-in-Leave-clause-end c =
    leaves c.args.net.now (rules_of_all c.args.config.now) c.args.entry c.args.dst c.path.room.places c.path.place c.path.invariant.walked c.in-Leave.port c.in-Leave.vlan
    (outcome_held c.args.net.now c.args.config.now c.path.place c.args.dst c.table.result.now (Leave c.in-Leave.port c.in-Leave.vlan) c.table.ensures c.in-Leave.ensures)

pub visit-requires-in-Go-clause-switch : goal.visit-requires-in-Go-clause-switch
visit-requires-in-Go-clause-switch c =
    subst (λ n. c.in-Go.next.switch.0 < n) (sym c.path.invariant.same_room)
    (go_within c.args.net.now c.keeps_rules.ensures (rules_of_all c.args.config.now) c.args.dst c.path.place c.in-Go.next
    (outcome_held c.args.net.now c.args.config.now c.path.place c.args.dst c.table.result.now (Go c.in-Go.next) c.table.ensures c.in-Go.ensures))

pub visit-requires-in-Go-clause-room : goal.visit-requires-in-Go-clause-room
visit-requires-in-Go-clause-room c =
    subst (λ n. length c.path.room.places ≤ n) (sym c.path.invariant.same_room)
    (few_places c.args.net.now (rules_of_all c.args.config.now) c.args.entry c.args.dst c.path.room.places c.path.place c.path.invariant.walked)

pub returns-then-visit-clause-places : goal.returns-then-visit-clause-places
returns-then-visit-clause-places c =
    subst (λ (places : List Place). IsFollowed c.args.net.now (rules_of_all c.args.config.now) c.args.entry c.args.dst places)
    (ap (λ r. r.places) (sym c.visit-in-Go.ensures.added))
    (followed_more c.args.net.now (rules_of_all c.args.config.now) c.args.entry c.args.dst c.path.room.places c.path.place c.path.invariant.walked c.in-Go.next
    (outcome_held c.args.net.now c.args.config.now c.path.place c.args.dst c.table.result.now (Go c.in-Go.next) c.table.ensures c.in-Go.ensures))

pub returns-then-visit-clause-end : goal.returns-then-visit-clause-end
returns-then-visit-clause-end c =
    subst (λ (places : List Place). ComesAgain c.args.net.now (rules_of_all c.args.config.now) c.args.entry c.args.dst (map stop_of places) c.in-Go.next.switch)
    (ap (λ r. r.places) (sym c.visit-in-Go.ensures.added))
    (again c.args.net.now (rules_of_all c.args.config.now) c.args.entry c.args.dst c.path.room.places c.path.place c.path.invariant.walked c.in-Go.next
    (outcome_held c.args.net.now c.args.config.now c.path.place c.args.dst c.table.result.now (Go c.in-Go.next) c.table.ensures c.in-Go.ensures)
    (sym c.visit-in-Go.ensures.seen ∙ c.if-visit.true))

pub path-smaller : goal.path-smaller
path-smaller c =
    let few = few_places c.args.net.now (rules_of_all c.args.config.now) c.args.entry c.args.dst c.path.room.places c.path.place c.path.invariant.walked in
    let longer : length c.visit-in-Go.new.self.places ≡ length c.path.room.places + 1 =
    ap (λ r. length r.places) c.visit-in-Go.ensures.added ∙ length-append c.path.room.places (c.in-Go.next ∷ []) in
    let less : switch_count c.args.net.now + 1 - length c.visit-in-Go.new.self.places < switch_count c.args.net.now + 1 - length c.path.room.places = omega arith in
    less

pub path-preserved : goal.path-preserved
path-preserved c = record {
  walked =
      subst (λ (places : List Place). HasWalked c.args.net.now (rules_of_all c.args.config.now) c.args.entry c.args.dst places c.in-Go.next)
      (ap (λ r. r.places) (sym c.visit-in-Go.ensures.added))
      (more c.args.net.now (rules_of_all c.args.config.now) c.args.entry c.args.dst c.path.room.places c.path.place c.path.invariant.walked c.in-Go.next
      (outcome_held c.args.net.now c.args.config.now c.path.place c.args.dst c.table.result.now (Go c.in-Go.next) c.table.ensures c.in-Go.ensures)
      c.keeps_rules.ensures (sym c.visit-in-Go.ensures.seen ∙ c.if-visit.false));
  same_room = ap (λ r. r.switches) c.visit-in-Go.ensures.added ∙ c.path.invariant.same_room;
}
