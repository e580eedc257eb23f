use Rattle.std.proofs.Common.{◌≡◌, ◌⊎◌, ℕ, ◌%◌, ◌<◌, true, false, List, length, get_or, set, take, refl, sym, ◌∙◌, subst, inl, arith}
use Rattle.std.proofs.lemmas.List.{take_more, take_all, length-set}
use Rattle.std.proofs.lemmas.Nat.{mod_below}
use Rattle.net_base.specs.Members.{IsIn}
use Rattle.certificates.specs.declared.OrderedPick.{OrderedPick}
use Rattle.class_watch.proofs.LookedLaws.{still_marked, picked_more, picked_only}
use Rattle.class_watch.proofs.looked.mark_picked.Goals as goal

pub loop-pick-init : goal.loop-pick-init
loop-pick-init c = record { count = refl; kept = λ atom on. on; only = λ atom on. inl on; picked = λ pick i. absurd i }

pub loop-pick-preserved : goal.loop-pick-preserved
loop-pick-preserved c =
    let picks = c.args.picks.now in
    let i = c.loop-pick.pick-index in
    let none : OrderedPick = record { round = 0; class = 0; shared = 0 } in
    let pick = get_or picks i none in
    let marks = c.loop-pick.marks.items in
    let long : c.len.result ≡ length marks = (let ok = c.loop-pick.marks.ok.0 in let len = c.len.ensures in omega arith) in
    let at = pick.class % c.len.result in
    let count = c.loop-pick.invariant.count in
    let first = c.requires in
    let some : 0 < length marks = omega arith in
    record {
      count = length-set marks at true ∙ count;
      kept = λ atom on. still_marked marks at atom (subst (λ n. pick.class % n < length marks) (sym long) (mod_below pick.class (length marks) some)) (c.loop-pick.invariant.kept atom on);
      only =
          subst (λ (ps : List OrderedPick). (a : ℕ) → get_or (set marks at true) a false ≡ true → (get_or c.args.marks.now.items a false ≡ true) ⊎ ((q : OrderedPick) × IsIn q ps × (q.class % length (set marks at true) ≡ a)))
          (sym (take_more picks i none c.loop-pick-test.true)) (picked_only c.args.marks.now.items marks c.len.result (take i picks) pick long c.loop-pick.invariant.only);
      picked =
          subst (λ (ps : List OrderedPick). (q : OrderedPick) → IsIn q ps → get_or (set marks at true) (q.class % length (set marks at true)) false ≡ true) (sym (take_more picks i none c.loop-pick-test.true))
          (picked_more marks c.len.result (take i picks) pick long some c.loop-pick.invariant.picked);
    }

pub returns-clause-picked : goal.returns-clause-picked
returns-clause-picked c =
    let marks = c.loop-pick.marks.items in
    subst (λ (ps : List OrderedPick). (q : OrderedPick) → IsIn q ps → get_or marks (q.class % length marks) false ≡ true) (take_all c.loop-pick.pick-index c.args.picks.now c.loop-pick-test.false) c.loop-pick.invariant.picked

pub returns-clause-only : goal.returns-clause-only
returns-clause-only c =
    let marks = c.loop-pick.marks.items in
    subst (λ (ps : List OrderedPick). (a : ℕ) → get_or marks a false ≡ true → (get_or c.args.marks.now.items a false ≡ true) ⊎ ((q : OrderedPick) × IsIn q ps × (q.class % length marks ≡ a)))
    (take_all c.loop-pick.pick-index c.args.picks.now c.loop-pick-test.false) c.loop-pick.invariant.only
