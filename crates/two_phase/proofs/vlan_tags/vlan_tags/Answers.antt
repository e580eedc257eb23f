use Rattle.std.proofs.Common.{◌∙◌, sym, ap, length, get_or, arith}
use Rattle.std.specs.Prelude.{slice_get}
use Rattle.std.proofs.lemmas.Option.{slice_get-get_or}
use Rattle.net_base.specs.declared.ids.Vlan.TheVariants as vlan
use Rattle.tag_allocator.specs.Tags.{tags_of, available_tags}
use Rattle.std.proofs.lemmas.List.{take_all}
use Rattle.two_phase.proofs.MadeLaws.{tags_count, paired_length, next_tagged}
use Rattle.two_phase.proofs.vlan_tags.vlan_tags.Goals as goal

pub tag-requires : goal.tag-requires
tag-requires c =
    let e = tags_count c.args.net.now c.args.tags.now c.requires.tags c.requires.enough in
    let f = ap length c.vlans-user-items.ensures in
    omega arith

pub loop-i-preserved : goal.loop-i-preserved
loop-i-preserved c =
    let user = get_or c.vlans-user-items.result.now c.loop-i.i vlan.Untagged in
    next_tagged c.args.net.now c.args.tags.now c.requires.tags c.loop-i.i user c.tag.result
    (ap (λ vs. slice_get vs c.loop-i.i) (sym c.vlans-user-items.ensures) ∙ slice_get-get_or c.vlans-user-items.result.now c.loop-i.i vlan.Untagged (omega arith))
    c.tag.ensures c.loop-i.pairs.items c.push.new.self.items c.loop-i.invariant c.in_ok-push.ensures.items

pub returns : goal.returns
returns c =
    let e = paired_length c.args.net.now.vlans (available_tags c.args.net.now) c.requires.enough in
    let f = ap length c.vlans-user-items.ensures in
    c.loop-i.invariant ∙ take_all c.loop-i.i (tags_of c.args.net.now) (omega arith)
