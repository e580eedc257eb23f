use Rattle.std.proofs.Common.{◌≡◌, ◌++◌, List, length, take, get_or, map, sym, ap, subst, ◌∙◌, arith}
use Rattle.std.specs.Prelude.{flat_map, slice_get, Some}
use Rattle.std.proofs.lemmas.List.{take_all, length-map}
use Rattle.net_base.specs.declared.ids.Vlan.{Vlan}
use Rattle.net_base.specs.declared.ids.Vlan.TheVariants as vlan
use Rattle.certificates.specs.declared.Label.{Label}
use Rattle.tag_allocator.specs.Tags.{tags_of, available_tags, Tagged}
use Rattle.two_phase.proofs.LabelLaws.{both_of}
use Rattle.two_phase.proofs.LabelOrderLaws.{labels_more}
use Rattle.two_phase.proofs.MadeLaws.{paired_length}
use Rattle.two_phase.proofs.labels.list_labels.Goals as goal

pub tag-requires : goal.tag-requires
tag-requires c =
    let mapped = length-map (tags_of c.args.net.now) (λ (t : Tagged). t.tag) in
    let paired = paired_length c.args.net.now.vlans (available_tags c.args.net.now) c.requires.enough in
    let tags = ap length c.requires.tags in
    let users = ap length c.vlans-user-items.ensures in
    omega arith

pub loop-i-preserved : goal.loop-i-preserved
loop-i-preserved c =
    let net = c.args.net.now in
    let users : c.vlans-user-items.result.now ≡ net.vlans = c.vlans-user-items.ensures in
    let size = ap length users in
    let tag : slice_get (map (λ (x : Tagged). x.tag) (tags_of net)) c.loop-i.i ≡ Some c.tag.result = subst (λ ts. slice_get ts c.loop-i.i ≡ Some c.tag.result) c.requires.tags c.tag.ensures in
    let more = labels_more net c.args.version c.requires.enough c.loop-i.i c.tag.result vlan.Untagged (omega arith) tag in
    let pair : Vlan → List Label = λ user. both_of net c.args.version (record { user = user; tag = c.tag.result }) in
    c.in_ok-add_labels.ensures
    ∙ ap (λ (ls : List Label). ls ++ pair (get_or c.vlans-user-items.result.now c.loop-i.i vlan.Untagged)) c.loop-i.invariant
    ∙ ap (λ (vs : List Vlan). flat_map (both_of net c.args.version) (take c.loop-i.i (tags_of net)) ++ pair (get_or vs c.loop-i.i vlan.Untagged)) users
    ∙ sym more

pub returns : goal.returns
returns c =
    let net = c.args.net.now in
    let users = ap length c.vlans-user-items.ensures in
    let paired = paired_length net.vlans (available_tags net) c.requires.enough in
    c.loop-i.invariant ∙ ap (flat_map (both_of net c.args.version)) (take_all c.loop-i.i (tags_of net) (omega arith))
