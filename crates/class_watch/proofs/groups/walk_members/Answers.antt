use Rattle.std.proofs.Common.{◌≡◌, ℕ, List, take, get_or, sym, subst, inl, inr, ◌∷◌, []}
use Rattle.std.proofs.lemmas.List.{take_more, take_all}
use Rattle.net_base.specs.Members.{IsIn}
use Rattle.net_base.specs.declared.ids.Vlan.{Vlan}
use Rattle.net_base.proofs.MemberLaws.{in_append_cases}
use Rattle.net_base.proofs.ItemLaws.{in_at}
use Rattle.dest_classes.specs.declared.NumberedClass.{NumberedClass}
use Rattle.update_model.specs.Mixtures.{Rollout}
use Rattle.mixed_walks.specs.Walks.{WalkState, AreTogether}
use Rattle.class_watch.proofs.ListLaws.{no_class}
use Rattle.class_watch.proofs.groups.walk_members.Goals as goal

together_at : (u : Rollout) (k a b : ℕ) (v w : Vlan) (noted : WalkState) → a ≡ b → v ≡ w → AreTogether u k a v noted → AreTogether u k b w noted
together_at u k a b v w noted same same_vlan h = subst (λ (x : Vlan). AreTogether u k b x noted) same_vlan (subst (λ (x : ℕ). AreTogether u k x v noted) same h)

pub loop-member-init : goal.loop-member-init
loop-member-init c = record {
  together = λ u k is. c.clear.ensures.together u k c.args.group.address c.args.group.vlan;
  entries = λ m i. absurd i;
}

pub walk_more-requires-clause-round : goal.walk_more-requires-clause-round
walk_more-requires-clause-round c =
    let m = get_or c.args.members.now c.loop-member.member-index no_class in
    let among = in_at c.args.members.now c.loop-member.member-index no_class c.loop-member-test.true in
    let (u, k, is) = c.requires.round in
    (u, k, is, together_at u k c.args.group.address m.class.first c.args.group.vlan m.class.entry.vlan c.loop-member.walk (sym (c.requires.address m among)) (sym (c.requires.vlan m among)) (c.loop-member.invariant.together u k is))

pub walk_more-requires-clause-entry : goal.walk_more-requires-clause-entry
walk_more-requires-clause-entry c =
    c.requires.entries (get_or c.args.members.now c.loop-member.member-index no_class) (in_at c.args.members.now c.loop-member.member-index no_class c.loop-member-test.true)

pub loop-member-preserved : goal.loop-member-preserved
loop-member-preserved c =
    let members = c.args.members.now in
    let i = c.loop-member.member-index in
    let member = get_or members i no_class in
    let here = in_at members i no_class c.loop-member-test.true in
    let address = c.requires.address member here in
    let vlan = c.requires.vlan member here in
    record {
      together = λ u k is.
          together_at u k member.class.first c.args.group.address member.class.entry.vlan c.args.group.vlan c.walk_more.new.self address vlan
          (c.walk_more.ensures.together u k is
          (together_at u k c.args.group.address member.class.first c.args.group.vlan member.class.entry.vlan c.loop-member.walk (sym address) (sym vlan) (c.loop-member.invariant.together u k is)));
      entries = λ m among.
          elim (in_append_cases m (take i members) (member ∷ []) (subst (λ (xs : List NumberedClass). IsIn m xs) (take_more members i no_class c.loop-member-test.true) among)) [
            | inl before ↦ c.walk_more.ensures.kept m.class.entry (c.loop-member.invariant.entries m before)
            | inr last ↦ elim last [
              | inl e ↦ subst (λ (x : NumberedClass). IsIn x.class.entry c.walk_more.new.self.places) (sym e) c.walk_more.ensures.entry
              | inr none ↦ absurd none
            ]
          ];
    }

pub returns : goal.returns
returns c = record {
  together = c.loop-member.invariant.together;
  entries = λ m i.
      c.loop-member.invariant.entries m (subst (λ (xs : List NumberedClass). IsIn m xs) (sym (take_all c.loop-member.member-index c.args.members.now c.loop-member-test.false)) i);
}
