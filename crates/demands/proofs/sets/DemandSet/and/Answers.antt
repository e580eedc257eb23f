use Rattle.std.proofs.Common.{◌≡◌, ℕ, ◌/◌, slice_index_or, slice_set, bit_and, sym, ◌∙◌, ap, arith, inl, inr}
use Rattle.std.proofs.lemmas.Bool.{cases_lt}
use Rattle.std.proofs.lemmas.List.{get_or-set_same, get_or-set_other, length-set}
use Rattle.demands.proofs.SetLaws.{in_both}
use Rattle.demands.proofs.sets.DemandSet.and.Goals as goal

pub loop-n-preserved : goal.loop-n-preserved
loop-n-preserved c =
    let n = c.loop-n.n in
    let words = c.loop-n.words in
    let both = λ (i : ℕ). bit_and (slice_index_or c.args.self.words i 0) (slice_index_or c.args.other.words i 0) in
    let more = c.loop-n-test.true in
    let count = c.loop-n.invariant.count in
    record {
      count = length-set words n (both n) ∙ count;
      within = omega arith;
      met = λ i lt. elim (cases_lt i n) [
        | inl less ↦ get_or-set_other words n i (both n) 0 (λ e. absurd (omega arith)) ∙ c.loop-n.invariant.met i less
        | inr ge ↦ (
            let e : i ≡ n = omega arith in
            ap (λ j. slice_index_or (slice_set words n (both n)) j 0) e ∙ get_or-set_same words n (both n) 0 (omega arith) ∙ ap both (sym e))
      ];
    }

pub returns : goal.returns
returns c i lt =
    let past = c.loop-n-test.false in
    in_both c.loop-n.words c.args.self.words c.args.other.words i (c.loop-n.invariant.met (i / 64) (omega arith))
