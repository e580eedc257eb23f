use Rattle.std.proofs.Common.{◌≡◌, ◌<◌, ◌-◌, ℕ, suc, get_or, subst, arith}
use Rattle.std.proofs.lemmas.Bool.{false≢true}
use Rattle.certificates.specs.declared.LabelPick.{LabelPick}
use Rattle.certificates.proofs.Chains.{granted, chain_from, chain_at, chain_more}
use Rattle.certificates.proofs.validity.are_rounds_ascending.Goals as goal

none : LabelPick
none = record { round = 0; labels = 0 }

pub returns-then-picks-k : goal.returns-then-picks-k
unfolding none
returns-then-picks-k c =
    let some = c.loop-k.auto.k in
    let refused = c.if-picks-k.true in
    let last : suc (c.loop-k.k - 1) ≡ c.loop-k.k = omega arith in
    let P = λ (p q : LabelPick). p.round < q.round in (
      λ t. absurd (false≢true t),
      λ h.
          let next = chain_at P c.args.picks.now (c.loop-k.k - 1) none (omega arith) h in
          let lt : (get_or c.args.picks.now (c.loop-k.k - 1) none).round < (get_or c.args.picks.now c.loop-k.k none).round =
          subst (λ (n : ℕ). P (get_or c.args.picks.now (c.loop-k.k - 1) none) (get_or c.args.picks.now n none)) last next in
          absurd (omega arith),
    )

pub loop-k-preserved : goal.loop-k-preserved
loop-k-preserved c = chain_more (λ (p q : LabelPick). p.round < q.round) c.args.picks.now c.loop-k.k (record { round = 0; labels = 0 }) c.loop-k.auto.k c.loop-k-test.true c.if-picks-k.false c.loop-k.invariant

pub returns : goal.returns
returns c = granted (chain_from (λ (p q : LabelPick). p.round < q.round) c.args.picks.now (λ k d lt. c.loop-k.invariant k d (omega arith)))
