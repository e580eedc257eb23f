use Rattle.std.proofs.Common.{◌≡◌, ℕ, ◌%◌, false, List, length, sym, ◌∙◌, ap, subst, arith}
use Rattle.dest_classes.specs.Classes.{atom_count}
use Rattle.dest_classes.proofs.MapLaws.{number_fits}
use Rattle.update_model.specs.declared.Change.{Change}
use Rattle.certificates.specs.Certified.{classes_for}
use Rattle.check_reasons.specs.AtomMarks.{is_marked}
use Rattle.check_reasons.specs.Touched.{touches}
use Rattle.ordered_check.specs.Standing.{StandingState}
use Rattle.ordered_check.proofs.judge.OrderedJudgeClassJudge.may_touch.Goals as goal

pub returns : goal.returns
returns c off =
    let judge = c.args.self.now in
    let map = classes_for judge.of.now.task in
    let n = c.args.numbered.number in
    let class = c.args.numbered.class in
    let ready = c.requires.ready in
    let atoms : length judge.standing.now.looked ≡ atom_count map = (let within = number_fits map n class c.requires.class in ready.room.looked (omega arith)) in
    let atom : c.atom_of-atom.result ≡ n % atom_count map = c.atom_of-atom.ensures ∙ ap (λ (s : StandingState). n % length s.looked) c.standing.view_is ∙ ap (λ (m : ℕ). n % m) atoms in
    let mark : c.has.result ≡ is_marked judge.standing.now.touched (n % atom_count map) =
    c.has.ensures ∙ ap (λ (s : StandingState). is_marked s.touched c.atom_of-atom.result) c.standing.view_is ∙ ap (is_marked judge.standing.now.touched) atom in
    subst (λ (cs : List Change). touches cs class.first ≡ false) ready.round.changes_are (sym (ready.touched n class c.requires.class) ∙ sym mark ∙ off)
