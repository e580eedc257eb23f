use Rattle.std.proofs.Common.{◌≡◌, ◌⊎◌, ◌↔◌, ◌+◌, ◌<◌, ◌≤◌, Bool, List, [], ◌∷◌, ◌++◌, ℕ, length, sym, ◌∙◌, ap, subst, inl, inr, arith}
use Rattle.std.specs.List.{AllByRecursion}
use Rattle.net_base.specs.Members.{IsIn}
use Rattle.net_base.specs.declared.ids.SwitchId.{SwitchId}
use Rattle.waypoint_evidence.specs.Befores.{Holds, marked_from, marks_in}
use Rattle.waypoint_evidence.proofs.MarkLaws.{length_marks, one_more}
use Rattle.waypoint_evidence.proofs.SetLaws.{marked-set, length-marked_set, length-marked, not_marked, marked-set_last}
use Rattle.waypoint_evidence.proofs.Before.put.Goals as goal
use Rattle.net_base.specs.Switches.{most_switches}

pub returns-clause-holds : goal.returns-clause-holds
returns-clause-holds c t =
    let marks = marks_in c.self.inside.switches in
    let len : length marks ≡ most_switches = length_marks c.self.inside.switches in
    let more = one_more c.self.inside.switches c.put.new.self c.args.s c.requires c.put.ensures.there c.put.ensures.others in
    let within : c.args.s.0 < length marks = subst (λ n. c.args.s.0 < n) (sym len) c.requires in
    let is = subst (λ (new : List Bool). IsIn t.0 (marked_from 0 new) ↔ ((t.0 ≡ c.args.s.0) ⊎ IsIn t.0 (marked_from 0 marks))) (sym more) (marked-set marks c.args.s.0 t.0 within) in (
      λ h. elim (is.0 h) [
        | inl e ↦ inl (ap (λ (n : ℕ). let x : SwitchId = record { 0 = n } in x) e)
        | inr i ↦ inr (subst (λ (v : List ℕ). Holds v t) c.self.view_is i)
      ],
      λ h. is.1 (elim h [
        | inl e ↦ inl (ap (λ (x : SwitchId). x.0) e)
        | inr i ↦ inr (subst (λ (v : List ℕ). Holds v t) (sym c.self.view_is) i)
      ]),
    )

pub returns-clause-more : goal.returns-clause-more
returns-clause-more c fresh =
    let marks = marks_in c.self.inside.switches in
    let len : length marks ≡ most_switches = length_marks c.self.inside.switches in
    let more = one_more c.self.inside.switches c.put.new.self c.args.s c.requires c.put.ensures.there c.put.ensures.others in
    let within : c.args.s.0 < length marks = subst (λ n. c.args.s.0 < n) (sym len) c.requires in
    ap (λ (new : List Bool). length (marked_from 0 new)) more
    ∙ length-marked_set 0 marks c.args.s.0 within (not_marked marks c.args.s.0 (λ i. fresh (subst (λ (v : List ℕ). Holds v c.args.s) c.self.view_is i)))
    ∙ ap (λ (v : List ℕ). length v + 1) c.self.view_is

pub returns-clause-most : goal.returns-clause-most
returns-clause-most c = subst (λ n. length (marked_from 0 (marks_in c.put.new.self)) ≤ n) (length_marks c.put.new.self) (length-marked 0 (marks_in c.put.new.self))

pub returns-clause-last : goal.returns-clause-last
returns-clause-last c below =
    let marks = marks_in c.self.inside.switches in
    let len : length marks ≡ most_switches = length_marks c.self.inside.switches in
    let more = one_more c.self.inside.switches c.put.new.self c.args.s c.requires c.put.ensures.there c.put.ensures.others in
    let within : c.args.s.0 < length marks = subst (λ n. c.args.s.0 < n) (sym len) c.requires in
    let same : c.args.s.0 ≡ 0 + c.args.s.0 = omega arith in
    let marked = subst (λ (v : List ℕ). AllByRecursion (λ t. t < c.args.s.0) v) (sym c.self.view_is) below in
    ap (λ (new : List Bool). marked_from 0 new) more
    ∙ marked-set_last 0 marks c.args.s.0 within (subst (λ (n : ℕ). AllByRecursion (λ t. t < n) (marked_from 0 marks)) same marked)
    ∙ (rw (← same) (ap (λ (v : List ℕ). v ++ c.args.s.0 ∷ []) c.self.view_is))
