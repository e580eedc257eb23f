use Rattle.std.proofs.Common.{List, take, get_or, sym, ◌∙◌, subst, inl, inr, ◌∷◌, []}
use Rattle.std.proofs.lemmas.List.{take_more, take_all}
use Rattle.net_base.specs.Members.{IsIn}
use Rattle.net_base.specs.declared.ids.Place.{Place}
use Rattle.net_base.proofs.MemberLaws.{in_append_left, in_append_cases}
use Rattle.net_base.proofs.ItemLaws.{in_at, in_from_get}
use Rattle.dest_classes.specs.declared.NumberedClass.{NumberedClass}
use Rattle.class_watch.proofs.ListLaws.{no_class}
use Rattle.round_survey.proofs.stepping.put_entries.Goals as goal

pub loop-member-init : goal.loop-member-init
loop-member-init c = record {
  begins = λ m i. absurd i;
  each = λ p i. absurd (subst (λ (xs : List Place). IsIn p xs) c.requires.none.0 i);
  steps = c.requires.none.1;
}

pub loop-member-preserved : goal.loop-member-preserved
loop-member-preserved c =
    let members = c.args.members.now in
    let i = c.loop-member.member-index in
    let member = get_or members i no_class in
    let here = in_at members i no_class c.loop-member-test.true in
    let put = c.in_ok-put.ensures.ok in
    record {
      begins = λ m among.
          elim (in_append_cases m (take i members) (member ∷ []) (subst (λ (xs : List NumberedClass). IsIn m xs) (take_more members i no_class c.loop-member-test.true) among)) [
            | inl before ↦
                subst (λ (xs : List Place). IsIn m.class.entry xs) (sym put.behind)
                (in_append_left m.class.entry c.loop-member.noted.places put.more (c.loop-member.invariant.begins m before))
            | inr last ↦ elim last [
              | inl e ↦ subst (λ (x : NumberedClass). IsIn x.class.entry c.put.new.self.places) (sym e) (in_from_get c.put.new.self.places _ member.class.entry put.stands.at)
              | inr none ↦ absurd none
            ]
          ];
      each = λ p i. elim (put.each p i) [ inl j ↦ c.loop-member.invariant.each p j | inr e ↦ (member, here, e) ];
      steps = put.steps ∙ c.loop-member.invariant.steps;
    }

pub returns-clause-begins : goal.returns-clause-begins
returns-clause-begins c = λ m i.
    c.loop-member.invariant.begins m (subst (λ (xs : List NumberedClass). IsIn m xs) (sym (take_all c.loop-member.member-index c.args.members.now c.loop-member-test.false)) i)
