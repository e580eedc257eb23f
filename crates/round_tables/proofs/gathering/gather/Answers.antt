use Rattle.std.proofs.Common.{◌≡◌, ℕ, ◌+◌, ◌<◌, List, [], ◌∷◌, ◌++◌, length, take, sym, ◌∙◌, ap, subst, inl, inr, arith}
use Rattle.std.proofs.lemmas.Bool.{cases_eq}
use Rattle.std.proofs.lemmas.List.{take_more}
use Rattle.net_base.proofs.MemberLaws.{each_append}
use Rattle.update_model.specs.Changes.{switch_of, changes_at}
use Rattle.update_model.specs.declared.Change.{Change}
use Rattle.round_tables.specs.PreparedTables.{list_at}
use Rattle.round_tables.specs.Loading.{AreSwitchesBelow}
use Rattle.round_tables.proofs.TableLaws.{switch_n}
use Rattle.round_tables.proofs.GatherLaws.{gathered_here, gathered_there, more_come}
use Rattle.round_tables.proofs.gathering.gather.Goals.{then-not-put_at, else-not-put_at}
use Rattle.round_tables.proofs.gathering.gather.Goals as goal

pub put_at-requires : goal.put_at-requires
put_at-requires c within =
    let i = c.loop-change.change-index in
    let round = c.args.round.now in
    let d = c.change-item.result in
    let s = switch_of d in
    let more : take (i + 1) round ≡ take i round ++ d ∷ [] = take_more round i d c.loop-change-test.true ∙ ap (λ (x : Change). take i round ++ x ∷ []) (sym c.change-item.is) in
    let come = more_come round i d more in
    let gathered = ap length (c.loop-change.invariant.gathered s within) in
    let cleared = c.clear_all.ensures.room s in
    let kept = c.loop-change.invariant.room s in
    let count = c.loop-change.invariant.count in
    let asked = c.requires.room s (omega (arith, within, count)) in
    omega arith

pub loop-change-preserved : goal.loop-change-preserved
loop-change-preserved c =
    let i = c.loop-change.change-index in
    let round = c.args.round.now in
    let d = c.change-item.result in
    let more : take (i + 1) round ≡ take i round ++ d ∷ [] = take_more round i d c.loop-change-test.true ∙ ap (λ (x : Change). take i round ++ x ∷ []) (sym c.change-item.is) in
    let inv = c.loop-change.invariant in
    let made = c.put_at.ensures in
    let new = c.put_at.new.lists in
    record {
      count = omega (arith, inv.count);
      gathered = λ s less. elim (cases_eq (switch_of d).0 s.0) [
        | inl e ↦ subst (λ (n : ℕ). (list_at new (switch_n n)).changes ≡ changes_at (switch_n n) (take (i + 1) round)) e
            (made.here (omega arith) ∙ ap (λ (cs : List Change). cs ++ d ∷ []) (inv.gathered (switch_of d) (omega arith)) ∙ sym (gathered_here round i d more))
        | inr ne ↦ made.others s (λ e. ne (sym e)) ∙ inv.gathered s (omega arith) ∙ sym (gathered_there round i d more s (λ e. ne (sym e)))
      ];
      within = λ on. elim c.if-not-put_at.branch [
        | then-not-put_at w ↦ absurd (let off = w.are_within-is in cc)
        | else-not-put_at w ↦ (
            let were : AreSwitchesBelow (length c.loop-change.lists) (take i round) = inv.within (sym w.are_within-is ∙ on) in
            let here : (switch_of d).0 < length c.loop-change.lists = made.within.0 w.if-not-put_at.false in
            subst (λ (cs : List Change). AreSwitchesBelow (length new) cs) (sym more)
            (subst (λ (n : ℕ). AreSwitchesBelow n (take i round ++ d ∷ [])) (omega arith) (each_append (λ (x : Change). (switch_of x).0 < length c.loop-change.lists) (take i round) (d ∷ []) were (here, tt))))
      ];
      room = λ s. made.room s ∙ inv.room s;
    }
